-- What a superior that is neither active nor in doubt answers a branch that asks whether to commit; it stays as it was.
use Rattle.std.proofs.Common.{if◌then◌else◌, ◌≡◌, ◌⊎◌, inl, ◌≤◌, Bool, true, false, refl, ap, sym, subst, ◌∙◌, arith, Option, Some, None, List, [], ◌∷◌}
use Rattle.std.proofs.lemmas.Bool.Decides.{nat_tests}
use Rattle.tp_names.specs.declared.identifiers.Aaid.{Aaid}
use Rattle.tp_names.specs.declared.identifiers.Addr.{Addr}
use Rattle.tp_names.specs.declared.identifiers.BranchId.{BranchId}
use Rattle.tp_names.specs.declared.identifiers.NodeKey.{NodeKey}
use Rattle.tp_names.specs.declared.children.Child.{Child}
use Rattle.tp_names.specs.Same.{is_addr, is_branch, is_key}
use Rattle.tp_names.proofs.Sames.{name_self, branch_same}
use Rattle.tp_records.specs.declared.peer.PeerRecord.{PeerRecord}
use Rattle.tp_records.specs.declared.peer.RecState.{RecState}
use Rattle.tp_model.specs.declared.arc.Phase.{Phase}
use Rattle.tp_model.specs.declared.recovery.Kept.{Kept}
use Rattle.tp_model.specs.declared.recovery.Known.{Known}
use Rattle.tp_model.specs.declared.recovery.Question.{Question}
use Rattle.tp_model.specs.Parts.{Who, Event, Branch, Current, Digest}
use Rattle.tp_model.specs.Links.{greatest}
use Rattle.tp_model.specs.Dialogues.{is_active, is_ready}
use Rattle.tp_model.specs.Transactions.{aaid_of, child_of}
use Rattle.tp_model.specs.Recovery.{find_owed, find_kept, recovery_answer}
use Rattle.tp_model.specs.Node.{phase_of}
use Rattle.tp_model.specs.Arrivals.{Named, current_with, named_by_key, find_branch_by_id, key_of_branch, named_by_branch, child_addr, is_other, known_of, refused_arrival, reply_to}
use Rattle.tp_model.specs.Events.{refusal, refused_plainly, verdict_within, needs_numbers, action}
use Rattle.tp_model.proofs.Verdicts.{plainly_not, none_if_accepted}
use Rattle.tp_steps.proofs.every.EveryEvent.{named_current}
use Rattle.tp_steps.proofs.log.KinTurns.{kin}
use Rattle.tp_steps.proofs.lemmas.Options.{some_same}
use Rattle.tp_histories.specs.Histories.{IsSentIn}
use Rattle.tp_finishing.proofs.KeptTurns.{EachChild}
use Rattle.tp_finishing.proofs.Kindred.{FitsKept, AllFit, Fits}
use Rattle.tp_finishing.proofs.Awake.{reply_same}

pub addr_self : (a : Addr) → is_addr a a ≡ true
addr_self a = rw (name_self a.site) (grind (arith, nat_tests))

-- ---- the address that is kept for a branch

-- what holds of each branch holds of one that is found
record Found (Q : Child → Type 0) (a : Addr) (b : BranchId) : Type 0 where
  child : Child
  holds : Q child
  addr : child.addr ≡ a
  branch : child.branch ≡ b

in_branches : (Q : Child → Type 0) (bs : List Branch) (b : BranchId) (a : Addr) → EachChild Q (kin bs) → elim (find_branch_by_id bs b) as (λ _. Option Addr) [ None ↦ None | Some x ↦ Some x.peer ] ≡ Some a → Found Q a b
in_branches Q [] b a h i = absurd (cc (i))
in_branches Q (x ∷ bs) b a h i = go (is_branch x.id b) refl i (in_branches Q bs b a h.1)
  where
    go : (v : Bool) → is_branch x.id b ≡ v → elim (if v then Some x else find_branch_by_id bs b) as (λ _. Option Addr) [ None ↦ None | Some x ↦ Some x.peer ] ≡ Some a
        → (elim (find_branch_by_id bs b) as (λ _. Option Addr) [ None ↦ None | Some x ↦ Some x.peer ] ≡ Some a → Found Q a b) → Found Q a b
    go true j k rest = record { child = child_of x; holds = h.0; addr = some_same x.peer a k; branch = branch_same x.id b j }
    go false j k rest = rest k

in_owed : (Q : Child → Type 0) (cs : List Child) (b : BranchId) (a : Addr) → EachChild Q cs → elim (find_owed cs b) as (λ _. Option Addr) [ None ↦ None | Some c ↦ Some c.addr ] ≡ Some a → Found Q a b
in_owed Q [] b a h i = absurd (cc (i))
in_owed Q (c ∷ cs) b a h i = go (is_branch c.branch b) refl i (in_owed Q cs b a h.1)
  where
    go : (v : Bool) → is_branch c.branch b ≡ v → elim (if v then Some c else find_owed cs b) as (λ _. Option Addr) [ None ↦ None | Some c ↦ Some c.addr ] ≡ Some a
        → (elim (find_owed cs b) as (λ _. Option Addr) [ None ↦ None | Some c ↦ Some c.addr ] ≡ Some a → Found Q a b) → Found Q a b
    go true j k rest = record { child = c; holds = h.0; addr = some_same c.addr a k; branch = branch_same c.branch b j }
    go false j k rest = rest k

pub kept_fits : (K : Aaid → BranchId → Addr → Type 0) (Q : Aaid → Child → Type 0) (ks : List Kept) (k : NodeKey) (x : Kept) → AllFit K Q ks → find_kept ks k ≡ Some x → FitsKept K Q x
kept_fits K Q [] k x h i = absurd (cc (i))
kept_fits K Q (y ∷ ks) k x h i = go (is_key y.key k) i (kept_fits K Q ks k x h.1)
  where
    go : (v : Bool) → (if v then Some y else find_kept ks k) ≡ Some x → (find_kept ks k ≡ Some x → FitsKept K Q x) → FitsKept K Q x
    go true j rest = subst (FitsKept K Q) (some_same y x j) h.0
    go false j rest = rest j

-- of a tree that the node knows
pub record FoundIn (Q : Aaid → Child → Type 0) (a : Addr) (b : BranchId) : Type 0 where
  pub tree : Aaid
  pub child : Child
  pub holds : Q tree child
  pub addr : child.addr ≡ a
  pub branch : child.branch ≡ b

child_at : (K : Aaid → BranchId → Addr → Type 0) (Q : Aaid → Child → Type 0) (d : Digest) (k : NodeKey) (b : BranchId) (a : Addr) → Fits K Q d → child_addr (named_by_key d k) b ≡ Some a → FoundIn Q a b
child_at K Q d k b a h i = go (current_with d k) refl (find_kept d.kept k) refl i
  where
    go : (o : Option Current) → current_with d k ≡ o → (x : Option Kept) → find_kept d.kept k ≡ x → child_addr (record { current = o; kept = x }) b ≡ Some a → FoundIn Q a b
    go (Some c) j x m n = let f : Found (Q (aaid_of c.key)) a b = in_branches (Q (aaid_of c.key)) c.branches b a (h.0 c (named_current d k c j).0).1 n in record { tree = aaid_of c.key; child = f.child; holds = f.holds; addr = f.addr; branch = f.branch }
    go None j (Some x) m n =
        let fit : FitsKept K Q x = kept_fits K Q d.kept k x h.1 m in
        let f : Found (Q (aaid_of fit.0)) a b = in_owed (Q (aaid_of fit.0)) x.owed b a fit.4 n in
        record { tree = aaid_of fit.0; child = f.child; holds = f.holds; addr = f.addr; branch = f.branch }
    go None j None m n = absurd (cc (n))

pub child_known : (K : Aaid → BranchId → Addr → Type 0) (Q : Aaid → Child → Type 0) (d : Digest) (t : Aaid) (b : BranchId) (a : Addr) → Fits K Q d → child_addr (named_by_branch d t b) b ≡ Some a → FoundIn Q a b
child_known K Q d t b a h i = go (key_of_branch d t b) refl i
  where
    go : (o : Option NodeKey) → key_of_branch d t b ≡ o → child_addr (elim o as (λ _. Named) [ None ↦ record { current = None; kept = None } | Some k ↦ named_by_key d k ]) b ≡ Some a → FoundIn Q a b
    go None j k = absurd (cc (k))
    go (Some k) j m = child_at K Q d k b a h m

-- it is no other one
pub no_other : (o : Option Addr) (from : Addr) → ((a : Addr) → o ≡ Some a → a ≡ from) → is_other o from ≡ false
no_other None from h = refl
no_other (Some a) from h = let same : a ≡ from = h a refl in rw same (rw (addr_self from) refl)

-- ---- the answer

replies : (from : Addr) (t : Aaid) (b : BranchId) (o : Option RecState) (d : Digest) → d.drawn ≤ greatest → needs_numbers (reply_to from t b o d) ≡ false
replies from t b None d h = grind (arith, nat_tests, h)
replies from t b (Some s) d h = grind (arith, nat_tests, h)

pub question_taken : (who : Who) (d : Digest) (from : Addr) (t : Aaid) (b : BranchId) → d.drawn ≤ greatest → is_other (child_addr (named_by_branch d t b) b) from ≡ false → refusal who d (Event.Arrive from (PeerRecord.RecReady t b)) ≡ None
unfolding refused_arrival
question_taken who d from t b h own =
    let plain : refused_plainly who d (Event.Arrive from (PeerRecord.RecReady t b)) ≡ None = rw own refl in
    let enough = replies from t b (recovery_answer (known_of (named_by_branch d t b) b) Question.RecReady) d h in
    none_if_accepted who d (Event.Arrive from (PeerRecord.RecReady t b)) (plainly_not who d (Event.Arrive from (PeerRecord.RecReady t b)) plain ∙ rw (enough, verdict_within) refl)

pub question_same : (who : Who) (d : Digest) (from : Addr) (t : Aaid) (b : BranchId) → (action who d (Event.Arrive from (PeerRecord.RecReady t b))).next ≡ d
question_same who d from t b = reply_same from t b (recovery_answer (known_of (named_by_branch d t b) b) Question.RecReady) d

pub question_says : (who : Who) (d : Digest) (from : Addr) (t : Aaid) (b : BranchId) (s : RecState) → recovery_answer (known_of (named_by_branch d t b) b) Question.RecReady ≡ Some s
    → IsSentIn (action who d (Event.Arrive from (PeerRecord.RecReady t b))).outs from (PeerRecord.RecReply t b s)
question_says who d from t b s i = subst (λ (o : Option RecState). IsSentIn (reply_to from t b o d).outs from (PeerRecord.RecReply t b s)) (sym i) (inl (refl, refl))

-- the phase that is looked at is the node's, or none
named_phase : (f : Phase → Bool) (d : Digest) (t : Aaid) (b : BranchId) → f Phase.Nil ≡ false → f (phase_of d) ≡ false → f (known_of (named_by_branch d t b) b).phase ≡ false
named_phase f d t b nil now = go (key_of_branch d t b)
  where
    with_key : (k : NodeKey) (o : Option Current) → current_with d k ≡ o → f (elim o as (λ _. Phase) [ None ↦ Phase.Nil | Some c ↦ c.phase ]) ≡ false
    with_key k None i = nil
    with_key k (Some c) i = ap (λ (o : Option Current). f (elim o as (λ _. Phase) [ None ↦ Phase.Nil | Some x ↦ x.phase ])) (sym (named_current d k c i).0) ∙ now

    go : (o : Option NodeKey) → f (known_of (elim o as (λ _. Named) [ None ↦ record { current = None; kept = None } | Some k ↦ named_by_key d k ]) b).phase ≡ false
    go None = nil
    go (Some k) = with_key k (current_with d k) refl

answer_by : (k : Known) → is_active k.phase ≡ false → is_ready k.phase ≡ false → (recovery_answer k Question.RecReady ≡ Some RecState.Commit) ⊎ (recovery_answer k Question.RecReady ≡ Some RecState.Unknown)
unfolding recovery_answer
answer_by k a r = grind (arith, a, r)

pub decided_answer : (d : Digest) (t : Aaid) (b : BranchId) → is_active (phase_of d) ≡ false → is_ready (phase_of d) ≡ false
    → (recovery_answer (known_of (named_by_branch d t b) b) Question.RecReady ≡ Some RecState.Commit) ⊎ (recovery_answer (known_of (named_by_branch d t b) b) Question.RecReady ≡ Some RecState.Unknown)
decided_answer d t b a r = answer_by (known_of (named_by_branch d t b) b) (named_phase is_active d t b refl a) (named_phase is_ready d t b refl r)
