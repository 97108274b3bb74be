-- What holds of no outputs, of two lists joined, and of each output that an event of a transaction may ask for, holds of all that it
-- asks for.
use Rattle.std.proofs.Common.{if◌then◌else◌, ◌≡◌, ℕ, Bool, true, false, refl, ap, List, [], ◌∷◌}
use Rattle.tp_names.specs.declared.identifiers.Aaid.{Aaid}
use Rattle.tp_names.specs.declared.identifiers.BranchId.{BranchId}
use Rattle.tp_names.specs.declared.identifiers.Addr.{Addr}
use Rattle.tp_names.specs.declared.outcome.Report.{Report}
use Rattle.tp_records.specs.declared.request.Request.{Request}
use Rattle.tp_records.specs.declared.indication.Indication.{Indication}
use Rattle.tp_records.specs.declared.dialogue.DialogueRecord.{DialogueRecord}
use Rattle.tp_records.specs.declared.peer.PeerRecord.{PeerRecord}
use Rattle.tp_records.specs.declared.peer.RecState.{RecState}
use Rattle.tp_model.specs.declared.transaction.TxEvent.{TxEvent}
use Rattle.tp_model.specs.declared.transaction.TxOut.{TxOut}
use Rattle.tp_model.specs.Dialogues.{is_committing}
use Rattle.tp_model.specs.Transactions.{Transaction, aaid_of, carry_up, done_up, tell_report, order, ask_commit, count_branch, end_branch, branch_left, transacted}
use Rattle.tp_steps.specs.Turns.{Turns, is_left_word}
use Rattle.tp_steps.specs.Moves.{IsPut}
use Rattle.tp_steps.proofs.every.EveryTurn.{every_turn}
use Rattle.tp_steps.proofs.lemmas.Joined.{IsJoined, joined_up, joined_prepare, joined_ask, joined_done, joined_report, joined_retried, joined_completes, joined_unrolls, joined_rolls, joined_order, joined_leaves}

-- the words of a transaction's protocol, but those of a node that leaves
abbrev pub is_turn_word : DialogueRecord → Bool
is_turn_word DialogueRecord.EndDialogue = false
is_turn_word (DialogueRecord.UserData xs) = false
is_turn_word DialogueRecord.UError = false
is_turn_word DialogueRecord.UAbort = true
is_turn_word DialogueRecord.Grant = false
is_turn_word DialogueRecord.AskControl = false
is_turn_word DialogueRecord.Handshake = false
is_turn_word DialogueRecord.HandshakeGrant = false
is_turn_word DialogueRecord.Response = false
is_turn_word DialogueRecord.DeferEnd = true
is_turn_word DialogueRecord.DeferGrant = true
is_turn_word (DialogueRecord.Begin t b h) = false
is_turn_word DialogueRecord.Prepare = true
is_turn_word DialogueRecord.Ready = true
is_turn_word DialogueRecord.Commit = true
is_turn_word (DialogueRecord.Done r) = true
is_turn_word DialogueRecord.Rollback = true
is_turn_word (DialogueRecord.RolledBack r) = true
is_turn_word DialogueRecord.Left = false
is_turn_word DialogueRecord.LeftEnd = false

-- each output of an event e at a transaction s
pub record AreTurnWords (e : TxEvent) (s : Transaction) (P : List TxOut → Type 0) : Type 0 where
  pub joined : IsJoined P
  pub tells : (i : Indication) → P (TxOut.Tell i ∷ [])
  pub carries : (p : ℕ) (r : DialogueRecord) → is_turn_word r ≡ true → P (TxOut.Carry p r ∷ [])
  pub leaves : e ≡ TxEvent.User Request.Unchanged → (p : ℕ) (r : DialogueRecord) → is_left_word r ≡ true → P (TxOut.Carry p r ∷ [])
  pub shuts : (p : ℕ) → P (TxOut.Shut p ∷ [])
  pub closes : (p : ℕ) → P (TxOut.Close p ∷ [])
  pub asks : is_committing s.phase ≡ true → (z : Addr) (b : BranchId) → P (TxOut.Recovery z (PeerRecord.RecCommit (aaid_of s.key) b) ∷ [])
  pub ready : (z : Addr) (t : Aaid) (b : BranchId) → P (TxOut.Recovery z (PeerRecord.RecReady t b) ∷ [])
  pub replies : (z : Addr) (t : Aaid) (b : BranchId) (r : Report) → P (TxOut.Recovery z (PeerRecord.RecReply t b (RecState.Done r)) ∷ [])
  pub forgets : (z : Addr) (t : Aaid) (b : BranchId) → P (TxOut.Recovery z (PeerRecord.Forget t b) ∷ [])

word_turns : (e : TxEvent) (s : Transaction) (P : List TxOut → Type 0) → AreTurnWords e s P → Turns e s (λ t a. P a.outs)
unfolding ask_commit count_branch end_branch branch_left
word_turns e s P k = record {
  still = λ t. k.joined.none;
  first = λ t u outs a one two. k.joined.more outs a.outs one two;
  chain = λ t a f one two none. k.joined.more a.outs (f a.next).outs one two;
  tells = λ t i n. k.tells i;
  notes_prepare = λ pr h. k.tells Indication.Prepare;
  notes_done = λ is. k.joined.none;
  notes_end = λ q is. k.tells (Indication.DeferEnd q);
  notes_rollback = λ ro h. k.joined.none;
  defers_end = λ q is. k.carries q DialogueRecord.DeferEnd refl;
  defers_grant = λ q is. k.carries q DialogueRecord.DeferGrant refl;
  prepares = λ q. k.carries q DialogueRecord.Prepare refl;
  asks = λ is act asked told. joined_prepare P k.joined s.rows (λ p. k.carries p DialogueRecord.Prepare refl);
  asks_again = joined_retried P k.joined s (k.tells Indication.Commit) (λ a b z i. k.ready z a b) (λ c. joined_ask P k.joined (aaid_of s.key) s.rows (k.asks (ap is_committing c)));
  decides = λ o is ready. k.joined.none;
  aborts = λ q is. k.joined.more (TxOut.Carry q DialogueRecord.UAbort ∷ []) (TxOut.Close q ∷ []) (k.carries q DialogueRecord.UAbort refl) (k.closes q);
  loses_arc = λ q gone. k.joined.none;
  closes_left = λ q is. k.closes q;
  gives_up = λ q r is c found. shut r.live q;
  counts = λ q is act row. k.tells (Indication.Ready q);
  ends_done = λ q r is c row. report q r;
  ends_replied = λ b w r is found o. report w.branch.peer.node r;
  ends_rolled = λ q r is c row. report q r;
  leaves_below = λ q w t is left at act. k.tells (Indication.Left q);
  leaves_rolling = λ q w t is left at c. report q Report.None;
  votes = λ t act asked all under. up t DialogueRecord.Ready refl;
  orders_root = λ t act asked all root. ordered t;
  orders_ready = λ ready is. ordered s;
  rolls = λ t asked f ok. joined_rolls P k.joined asked t (k.tells Indication.Rollback) (λ p. k.carries p DialogueRecord.Rollback refl);
  completes_commit = λ t c. joined_completes P k.joined t (λ z b. k.forgets z (aaid_of t.key) b) (done t) (λ r. k.tells (Indication.CommitComplete r)) k.closes;
  completes_rollback = λ t c. joined_unrolls P k.joined t (λ p r. k.carries p (DialogueRecord.RolledBack r) refl) (λ r. k.tells (Indication.RollbackComplete r));
  leaves = λ is act under asked all. joined_leaves P k.joined s (λ p. k.leaves is p DialogueRecord.LeftEnd refl) (λ p. k.leaves is p DialogueRecord.Left refl) k.closes;
}
  where
    shut : (b : Bool) (q : ℕ) → P (if b then TxOut.Shut q ∷ [] else [])
    shut true q = k.shuts q
    shut false q = k.joined.none

    report : (q : ℕ) (r : Report) → P (tell_report q r)
    report q r = joined_report P k.joined q r (k.tells (Indication.HeuristicReport q r))

    up : (t : Transaction) (r : DialogueRecord) → is_turn_word r ≡ true → P (carry_up t r)
    up t r h = joined_up P k.joined t r (λ p. k.carries p r h)

    ordered : (t : Transaction) → P (order t).outs
    ordered t = joined_order P k.joined t (k.tells Indication.Commit) (λ p. k.carries p DialogueRecord.Commit refl)

    done : (t : Transaction) (r : Report) → P (done_up t r)
    done t r = joined_done P k.joined t r (λ p. k.carries p (DialogueRecord.Done r) refl) (λ a b z i. k.replies z a b r)

pub turn_words : (e : TxEvent) (s : Transaction) (P : List TxOut → Type 0) → AreTurnWords e s P → IsPut e s → P (transacted e s).outs
turn_words e s P k put = every_turn e s (λ t a. P a.outs) (word_turns e s P k) put
