-- What a transaction decides, it says: its vote to its superior, its order to each branch that is there, its completion to its
-- user and its superior, and that it leaves.
use Rattle.std.specs.Prelude.{ℕ, ◌≡◌, ◌⊎◌, ◌&&◌, ◌||◌, not, Bool, true, false, Option, Some, None, List, [], ◌∷◌}
use Rattle.tp_names.specs.declared.outcome.Report.{Report}
use Rattle.tp_records.specs.declared.request.Request.{Request}
use Rattle.tp_records.specs.declared.indication.Indication.{Indication}
use Rattle.tp_records.specs.declared.dialogue.DialogueRecord.{DialogueRecord}
use Rattle.tp_records.specs.declared.peer.PeerRecord.{PeerRecord}
use Rattle.tp_records.specs.declared.peer.RecState.{RecState}
use Rattle.tp_logrec.specs.declared.record.LogRec.{LogRec}
use Rattle.tp_model.specs.declared.transaction.TxEvent.{TxEvent}
use Rattle.tp_model.specs.declared.transaction.TxOut.{TxOut}
use Rattle.tp_model.specs.Parts.{Key, Root, Under}
use Rattle.tp_model.specs.Dialogues.{is_nil, is_committing}
use Rattle.tp_model.specs.Transactions.{Transaction, Turn, is_under_at, find_row}
use Rattle.tp_steps.specs.Moves.{IsRecoveryIn}
use Rattle.tp_steps.specs.Passages.{is_commit_rec}

-- ---- outputs

abbrev pub IsCarriedIn : List TxOut → ℕ → DialogueRecord → Type 0
IsCarriedIn [] p r = ⊥
IsCarriedIn (TxOut.Tell i ∷ outs) p r = IsCarriedIn outs p r
IsCarriedIn (TxOut.Carry q w ∷ outs) p r = (q ≡ p) × (w ≡ r) ⊎ IsCarriedIn outs p r
IsCarriedIn (TxOut.Shut q ∷ outs) p r = IsCarriedIn outs p r
IsCarriedIn (TxOut.Recovery a w ∷ outs) p r = IsCarriedIn outs p r
IsCarriedIn (TxOut.Close q ∷ outs) p r = IsCarriedIn outs p r

abbrev pub IsToldIn : List TxOut → Indication → Type 0
IsToldIn [] i = ⊥
IsToldIn (TxOut.Tell j ∷ outs) i = (j ≡ i) ⊎ IsToldIn outs i
IsToldIn (TxOut.Carry q w ∷ outs) i = IsToldIn outs i
IsToldIn (TxOut.Shut q ∷ outs) i = IsToldIn outs i
IsToldIn (TxOut.Recovery a w ∷ outs) i = IsToldIn outs i
IsToldIn (TxOut.Close q ∷ outs) i = IsToldIn outs i

-- the superior, where there is one, learns that the branch is done: over its arc, or by a reply
abbrev pub IsDoneUp : Key → Report → List TxOut → Type 0
IsDoneUp (Root t) r outs = Unit {0}
IsDoneUp (Under t b a) r outs = IsCarriedIn outs a.node (DialogueRecord.Done r) ⊎ IsRecoveryIn outs a (PeerRecord.RecReply t b (RecState.Done r))

-- the user is told that the commitment is complete, and the superior learns it with the same report
abbrev pub IsCompleted : Key → List TxOut → Type 0
IsCompleted k outs = (r : Report) × IsToldIn outs (Indication.CommitComplete r) × IsDoneUp k r outs

abbrev pub is_ready_rec : Option LogRec → Bool
is_ready_rec None = false
is_ready_rec (Some (LogRec.Ready n k s cs)) = true
is_ready_rec (Some _) = false

-- the branch with the peer is on a live arc, and did not leave
abbrev pub is_there : ℕ → Transaction → Bool
is_there p t = elim (find_row t.rows p) [ None ↦ false | Some r ↦ r.live && not r.branch.left ]

-- ---- an event, from t on

pub record IsOutspoken (t : Transaction) (a : Turn) : Type 0 where
  pub key : a.next.key ≡ t.key
  pub up : a.next.up ≡ true → t.up ≡ true
  pub there : (p : ℕ) → is_there p a.next ≡ true → is_there p t ≡ true
  pub moves : is_committing t.phase ≡ true → (is_committing a.next.phase || is_nil a.next.phase) ≡ true
  pub over : is_nil t.phase ≡ true → is_nil a.next.phase ≡ true
  pub votes : is_ready_rec a.rec ≡ true → (p : ℕ) → is_under_at t.key p ≡ true → a.next.up ≡ true → IsCarriedIn a.outs p DialogueRecord.Ready
  pub orders : is_commit_rec a.rec ≡ true → (p : ℕ) → is_there p a.next ≡ true → IsCarriedIn a.outs p DialogueRecord.Commit
  pub completes : is_committing t.phase ≡ true → is_nil a.next.phase ≡ true → IsCompleted t.key a.outs

-- one that leaves says so, on a live arc
abbrev pub SaysLeft : TxEvent → Transaction → Turn → Type 0
SaysLeft e s a =
    e ≡ TxEvent.User Request.Unchanged → (p : ℕ) → is_under_at s.key p ≡ true → s.up ≡ true
    → IsCarriedIn a.outs p DialogueRecord.Left ⊎ IsCarriedIn a.outs p DialogueRecord.LeftEnd
