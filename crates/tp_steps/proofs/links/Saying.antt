-- What goes out beside the associations, one record after the other.
use Rattle.std.proofs.Common.{if◌then◌else◌, ◌≡◌, ◌⊎◌, inl, inr, ℕ, Bool, true, false, refl, subst, arith, Option, Some, None, List, [], ◌∷◌, ◌++◌}
use Rattle.tp_names.specs.declared.identifiers.Aaid.{Aaid}
use Rattle.tp_names.specs.declared.identifiers.BranchId.{BranchId}
use Rattle.tp_names.specs.declared.identifiers.Addr.{Addr}
use Rattle.tp_names.specs.declared.children.Child.{Child}
use Rattle.tp_names.specs.declared.outcome.Report.{Report}
use Rattle.tp_names.specs.Reports.{is_report_none}
use Rattle.tp_records.specs.declared.request.Request.{Request}
use Rattle.tp_records.specs.declared.peer.PeerRecord.{PeerRecord}
use Rattle.tp_records.specs.declared.peer.RecState.{RecState}
use Rattle.tp_model.specs.declared.transaction.TxOut.{TxOut}
use Rattle.tp_model.specs.declared.recovery.Kept.{Kept}
use Rattle.tp_model.specs.declared.recovery.Question.{Question}
use Rattle.tp_model.specs.Parts.{Event, Digest}
use Rattle.tp_model.specs.Recovery.{is_commit, find_owed, ask_owed, tell_superior, forget_to, owed, recovery_answer}
use Rattle.tp_model.specs.Arrivals.{branch_key, named_by_key, named_by_branch, known_of}
use Rattle.tp_steps.proofs.words.Leaves.{branch_same}
use Rattle.tp_steps.specs.Moves.{keeps_idle, owes_branch, is_committed_in, IsRecoveryIn, KeepsFor, IsSaid, AreSaid, gives_to, grants_to, hands_to, keeps_commit}

-- one record alone
pub one_said : (e : Event) (s d : Digest) (to : Addr) (q : PeerRecord) → IsSaid e s d to q → AreSaid e s d (TxOut.Recovery to q ∷ [])
one_said e s d to q x a r (inl h) = subst (λ (b : Addr). IsSaid e s d b r) h.0 (subst (λ (w : PeerRecord). IsSaid e s d to w) h.1 x)
one_said e s d to q x a r (inr h) = absurd h

pub recovery_append : (xs ys : List TxOut) (a : Addr) (r : PeerRecord) → IsRecoveryIn (xs ++ ys) a r → IsRecoveryIn xs a r ⊎ IsRecoveryIn ys a r
recovery_append [] ys a r h = inr h
recovery_append (TxOut.Tell i ∷ xs) ys a r h = recovery_append xs ys a r h
recovery_append (TxOut.Carry p w ∷ xs) ys a r h = recovery_append xs ys a r h
recovery_append (TxOut.Shut p ∷ xs) ys a r h = recovery_append xs ys a r h
recovery_append (TxOut.Close p ∷ xs) ys a r h = recovery_append xs ys a r h
recovery_append (TxOut.Recovery b q ∷ xs) ys a r (inl h) = inl (inl h)
recovery_append (TxOut.Recovery b q ∷ xs) ys a r (inr h) = elim (recovery_append xs ys a r h) [ inl i ↦ inl (inr i) | inr i ↦ inr i ]

pub said_append : (e : Event) (s d : Digest) (xs ys : List TxOut) → AreSaid e s d xs → AreSaid e s d ys → AreSaid e s d (xs ++ ys)
said_append e s d xs ys one two a r h = elim (recovery_append xs ys a r h) [ inl i ↦ one a r i | inr i ↦ two a r i ]

-- ---- a retry of a kept transaction

-- the branch is among these
abbrev is_owed : BranchId → List Child → Bool
is_owed b cs = elim (find_owed cs b) [ None ↦ false | Some c ↦ true ]

owed_first : (c : Child) (cs : List Child) → is_owed c.branch (c ∷ cs) ≡ true
owed_first c cs = let same = branch_same c.branch in grind (arith, same)

owed_more : (c : Child) (cs : List Child) (b : BranchId) → is_owed b cs ≡ true → is_owed b (c ∷ cs) ≡ true
owed_more c cs b h = grind (arith, h)

said_ask : (e : Event) (s d : Digest) (t : Aaid) (cs : List Child) → ((b : BranchId) → is_owed b cs ≡ true → owes_branch b d.kept ≡ true) → AreSaid e s d (ask_owed t cs)
said_ask e s d t [] owes = λ a r h. absurd h
said_ask e s d t (c ∷ cs) owes = λ a r h. elim h [
  | inl i ↦ one_said e s d c.addr (PeerRecord.RecCommit t c.branch) (owes c.branch (owed_first c cs)) a r (inl i)
  | inr i ↦ said_ask e s d t cs (λ b j. owes b (owed_more c cs b j)) a r i
]

said_tell : (e : Event) (s d : Digest) (k : Kept) → (is_committed_in k.key.aaid d ≡ true) × (is_report_none k.report ≡ true → keeps_idle d.kept ≡ true) × (keeps_commit k.key.aaid d.kept ≡ true) → ((a : Addr) → k.superior ≡ Some a → KeepsFor d.kept a k.key.aaid k.report) → AreSaid e s d (tell_superior k)
said_tell e s d k held keeps = go k.forgot k.key.branch k.superior refl
  where
    go : (f : Bool) (b : Option BranchId) (u : Option Addr) → k.superior ≡ u
        → AreSaid e s d (if f then [] else elim b as (λ _. List TxOut) [ None ↦ [] | Some i ↦ elim u as (λ _. List TxOut) [ None ↦ [] | Some a ↦ TxOut.Recovery a (PeerRecord.RecReply k.key.aaid i (RecState.Done k.report)) ∷ [] ] ])
    go true b u is = λ a r h. absurd h
    go false None u is = λ a r h. absurd h
    go false (Some i) None is = λ a r h. absurd h
    go false (Some i) (Some a) is = one_said e s d a (PeerRecord.RecReply k.key.aaid i (RecState.Done k.report)) (inl (held.0, held.1, held.2, keeps a is))

pub said_owed : (e : Event) (s d : Digest) (k : Kept) → (is_commit k.side ≡ true → (is_committed_in k.key.aaid d ≡ true) × (is_report_none k.report ≡ true → keeps_idle d.kept ≡ true) × (keeps_commit k.key.aaid d.kept ≡ true))
    → (is_commit k.side ≡ true → (a : Addr) → k.superior ≡ Some a → KeepsFor d.kept a k.key.aaid k.report) → ((b : BranchId) → elim (find_owed k.owed b) as (λ _. Bool) [ None ↦ false | Some c ↦ true ] ≡ true → owes_branch b d.kept ≡ true) → AreSaid e s d (owed k)
unfolding owed
said_owed e s d k held keeps owes = go (is_commit k.side) refl
  where
    go : (b : Bool) → is_commit k.side ≡ b → AreSaid e s d (if b then ask_owed k.key.aaid k.owed ++ tell_superior k else [])
    go true i = said_append e s d (ask_owed k.key.aaid k.owed) (tell_superior k) (said_ask e s d k.key.aaid k.owed owes) (said_tell e s d k (held i) (keeps i))
    go false i = λ a r h. absurd h

pub said_forget : (s d : Digest) (a : Addr) (t : Aaid) (b : BranchId) (r : Report) → (named_by_branch s t b).current ≡ None → AreSaid (Event.Arrive a (PeerRecord.RecReply t b (RecState.Done r))) s d (forget_to a (branch_key t b) b r)
said_forget s d a t b Report.None none = λ z r h. absurd h
said_forget s d a t b Report.Hazard none = one_said (Event.Arrive a (PeerRecord.RecReply t b (RecState.Done Report.Hazard))) s d a (PeerRecord.Forget t b) (Report.Hazard, refl, refl, none)
said_forget s d a t b Report.Mix none = one_said (Event.Arrive a (PeerRecord.RecReply t b (RecState.Done Report.Mix))) s d a (PeerRecord.Forget t b) (Report.Mix, refl, refl, none)

-- ---- answers

pub said_ready : (s : Digest) (a : Addr) (t : Aaid) (b : BranchId) (v : RecState) → recovery_answer (known_of (named_by_branch s t b) b) Question.RecReady ≡ Some v → AreSaid (Event.Arrive a (PeerRecord.RecReady t b)) s s (TxOut.Recovery a (PeerRecord.RecReply t b v) ∷ [])
unfolding recovery_answer
said_ready s a t b RecState.Commit h = one_said _ s s a (PeerRecord.RecReply t b RecState.Commit) tt
said_ready s a t b (RecState.Done r) h = absurd (grind (arith, h))
said_ready s a t b RecState.Unknown h = one_said _ s s a (PeerRecord.RecReply t b RecState.Unknown) (refl, h)
said_ready s a t b RecState.RetryLater h = one_said _ s s a (PeerRecord.RecReply t b RecState.RetryLater) tt

pub said_order : (s : Digest) (a : Addr) (t : Aaid) (b : BranchId) (v : RecState) → recovery_answer (known_of (named_by_key s (branch_key t b)) b) Question.RecCommit ≡ Some v → AreSaid (Event.Arrive a (PeerRecord.RecCommit t b)) s s (TxOut.Recovery a (PeerRecord.RecReply t b v) ∷ [])
unfolding recovery_answer
said_order s a t b RecState.Commit h = one_said _ s s a (PeerRecord.RecReply t b RecState.Commit) tt
said_order s a t b (RecState.Done r) h = one_said _ s s a (PeerRecord.RecReply t b (RecState.Done r)) (inr (refl, h))
said_order s a t b RecState.Unknown h = absurd (grind (arith, h))
said_order s a t b RecState.RetryLater h = one_said _ s s a (PeerRecord.RecReply t b RecState.RetryLater) tt

-- ---- a request that gives control

pub no_gift : (e : Event) (p : ℕ) → gives_to e p ≡ false → (grants_to e p ≡ false) × (hands_to e p ≡ false)
no_gift (Event.Do (Request.Grant q)) p h = (h, refl)
no_gift (Event.Do (Request.HandshakeGrant q)) p h = (refl, h)
no_gift e p h = (refl, refl)
