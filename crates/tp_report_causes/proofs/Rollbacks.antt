-- In every run a rollback that is complete with mix has behind it a decision to commit, at the node or below it, and none is complete
-- with hazard: a RolledBack with a report that a node heeds is of a branch whose own rollback was complete with it.
use Rattle.std.proofs.Common.{◌≡◌, ◌⊎◌, inl, inr, ℕ, Bool, true, false, refl, ap, sym, subst, ◌∙◌, arith, Some, None, List, [], ◌∷◌, ◌&&◌, ◌||◌, zero, suc, ◌++◌, length}
use Rattle.tp_names.specs.declared.identifiers.Addr.{Addr}
use Rattle.tp_names.specs.declared.identifiers.Aaid.{Aaid}
use Rattle.tp_names.specs.declared.identifiers.BranchId.{BranchId}
use Rattle.tp_names.specs.declared.identifiers.Mark.{Mark}
use Rattle.tp_names.specs.declared.outcome.Outcome.{Outcome}
use Rattle.tp_names.specs.declared.outcome.Report.{Report}
use Rattle.tp_names.specs.Same.{is_aaid}
use Rattle.tp_records.specs.declared.indication.Indication.{Indication}
use Rattle.tp_records.specs.declared.dialogue.DialogueRecord.{DialogueRecord}
use Rattle.tp_records.specs.declared.peer.PeerRecord.{PeerRecord}
use Rattle.tp_records.specs.declared.peer.RecState.{RecState}
use Rattle.tp_logrec.specs.declared.record.LogRec.{LogRec}
use Rattle.tp_model.specs.Parts.{Who, Origin, Event, Entry, Current, Digest, Out}
use Rattle.tp_model.specs.Dialogues.{is_committing, is_rolling}
use Rattle.tp_model.specs.Transactions.{aaid_of, refused_tx}
use Rattle.tp_model.specs.History.{digest, records}
use Rattle.tp_model.specs.Legal.{IsGrown}
use Rattle.tp_model.specs.Arrivals.{find_branch_by_id}
use Rattle.tp_model.specs.Outcomes.{is_now, decided, rolled}
use Rattle.tp_model.specs.World.{Node, number_of}
use Rattle.tp_model.specs.Happenings.{Happening, run}
use Rattle.tp_model.specs.Promises.{IsIn, has_told_in, IsOf, IsBranchOf, IsBelow, below as one_below, tells_rollback}
use Rattle.tp_model.specs.Events.{refusal, verdict}
use Rattle.tp_steps.specs.Facts.{find_branch}
use Rattle.tp_steps.specs.Trees.{out_tells}
use Rattle.tp_steps.specs.Clearing.{same_report, is_complete}
use Rattle.tp_steps.specs.Upward.{Deeds}
use Rattle.tp_histories.specs.Members.{IsOnce}
use Rattle.tp_histories.specs.Fates.{IsFated}
use Rattle.tp_histories.specs.Upward.{deeds_of}
use Rattle.tp_report_causes.specs.Causes.{tells_rolled_back, is_awaited, hears, gives_up, has_heard, has_given_up}
use Rattle.tp_report_causes.specs.Apart.{Beneath, HasOpposed, RollbacksAreApart}
use Rattle.tp_steps.proofs.lemmas.Equality.{and_left, and_right, aaids_equal}
use Rattle.tp_steps.proofs.branches.Rolls.{phase_at}
use Rattle.tp_steps.proofs.lemmas.Words.{commit_more}
use Rattle.tp_histories.proofs.worlds.Good.{good_run}
use Rattle.tp_histories.proofs.worlds.Unique.{unique_run}
use Rattle.tp_histories.proofs.trees.Fated.{fated_law}
use Rattle.tp_runs.proofs.Users.{sees_rollback}
use Rattle.tp_agreement.proofs.OwingLaw.{rolled_more, backed_word}
use Rattle.tp_failure_free.proofs.DrainedUp.{IsWithin, none_within, branch_within, all_within}
use Rattle.tp_outcomes.proofs.Shown.{told_member}
use Rattle.tp_report_causes.proofs.Causes.{same_is, reports_have_causes}
use Rattle.tp_report_causes.proofs.Heard.{Found, find_met, legal_at, once_at, rolled_at, told_split, Speaker, speaker, kin_branch}

-- ---- a word with that report

-- what brings it
pub data Hears (r : Report) (c : Current) (e : Event) : Type 0 where
  A_done : (a : Addr) (m k : Mark) (q : ℕ) → e ≡ Event.Arrive a (PeerRecord.OnAssoc m k q (DialogueRecord.Done r)) → is_committing c.phase ≡ true → is_awaited (find_branch c.branches a.node) ≡ true → Hears r c e
  A_back : (a : Addr) (m k : Mark) (q : ℕ) → e ≡ Event.Arrive a (PeerRecord.OnAssoc m k q (DialogueRecord.RolledBack r)) → is_rolling c.phase ≡ true → is_awaited (find_branch c.branches a.node) ≡ true → Hears r c e
  A_reply : (a : Addr) (u : Aaid) (b : BranchId) → e ≡ Event.Arrive a (PeerRecord.RecReply u b (RecState.Done r)) → is_committing c.phase ≡ true → is_awaited (find_branch_by_id c.branches b) ≡ true → is_aaid (aaid_of c.key) u ≡ true → Hears r c e

pub hears_case : (c : Current) (e : Event) (r : Report) → hears r c e ≡ true → Hears r c e
hears_case c (Event.Arrive a (PeerRecord.OnAssoc m k q (DialogueRecord.Done s))) r h =
    let both : (is_committing c.phase && is_awaited (find_branch c.branches a.node)) ≡ true = and_left (is_committing c.phase && is_awaited (find_branch c.branches a.node)) (same_report r s) h in
    let same : r ≡ s = same_is r s (and_right (is_committing c.phase && is_awaited (find_branch c.branches a.node)) (same_report r s) h) in
    A_done a m k q (ap (λ (v : Report). Event.Arrive a (PeerRecord.OnAssoc m k q (DialogueRecord.Done v))) (sym same)) (and_left (is_committing c.phase) (is_awaited (find_branch c.branches a.node)) both)
    (and_right (is_committing c.phase) (is_awaited (find_branch c.branches a.node)) both)
hears_case c (Event.Arrive a (PeerRecord.OnAssoc m k q (DialogueRecord.RolledBack s))) r h =
    let both : (is_rolling c.phase && is_awaited (find_branch c.branches a.node)) ≡ true = and_left (is_rolling c.phase && is_awaited (find_branch c.branches a.node)) (same_report r s) h in
    let same : r ≡ s = same_is r s (and_right (is_rolling c.phase && is_awaited (find_branch c.branches a.node)) (same_report r s) h) in
    A_back a m k q (ap (λ (v : Report). Event.Arrive a (PeerRecord.OnAssoc m k q (DialogueRecord.RolledBack v))) (sym same)) (and_left (is_rolling c.phase) (is_awaited (find_branch c.branches a.node)) both)
    (and_right (is_rolling c.phase) (is_awaited (find_branch c.branches a.node)) both)
hears_case c (Event.Arrive a (PeerRecord.RecReply u b (RecState.Done s))) r h =
    let front : (is_committing c.phase && is_awaited (find_branch_by_id c.branches b) && is_aaid (aaid_of c.key) u) ≡ true = and_left (is_committing c.phase && is_awaited (find_branch_by_id c.branches b) && is_aaid (aaid_of c.key) u) (same_report r s) h in
    let both : (is_committing c.phase && is_awaited (find_branch_by_id c.branches b)) ≡ true = and_left (is_committing c.phase && is_awaited (find_branch_by_id c.branches b)) (is_aaid (aaid_of c.key) u) front in
    let same : r ≡ s = same_is r s (and_right (is_committing c.phase && is_awaited (find_branch_by_id c.branches b) && is_aaid (aaid_of c.key) u) (same_report r s) h) in
    A_reply a u b (ap (λ (v : Report). Event.Arrive a (PeerRecord.RecReply u b (RecState.Done v))) (sym same)) (and_left (is_committing c.phase) (is_awaited (find_branch_by_id c.branches b)) both)
    (and_right (is_committing c.phase) (is_awaited (find_branch_by_id c.branches b)) both)
    (and_right (is_committing c.phase && is_awaited (find_branch_by_id c.branches b)) (is_aaid (aaid_of c.key) u) front)
hears_case c e r h = absurd (cc (h))

-- ---- what is told

pub told_as : (f g : List Out → Bool) → ((outs : List Out) → f outs ≡ true → g outs ≡ true) → (o : Origin) (t : Aaid) (h : List Entry) → has_told_in f o t h ≡ true → has_told_in g o t h ≡ true
told_as f g same o t h m = elim (told_split f g g (λ outs i. inl (same outs i)) o t h m) [ inl i ↦ i | inr i ↦ i ]

abbrev pub is_told : Outcome → Report → Aaid → Node → Bool
is_told u r t x = has_told_in (out_tells (is_complete u r)) x.origin t x.history

rolled_is : (r : Report) (outs : List Out) → out_tells (is_complete Outcome.Rollback r) outs ≡ tells_rolled_back r outs
rolled_is r [] = refl
rolled_is r (Out.Tell (Indication.RollbackComplete s) ∷ outs) = ap (λ (b : Bool). same_report r s || b) (rolled_is r outs)
rolled_is r (Out.Tell i ∷ outs) = rolled_is r outs
rolled_is r (Out.Send a w ∷ outs) = rolled_is r outs

rolled_tells : (r : Report) (outs : List Out) → out_tells (is_complete Outcome.Rollback r) outs ≡ true → tells_rollback outs ≡ true
rolled_tells r [] h = absurd (cc (h))
rolled_tells r (Out.Tell (Indication.RollbackComplete s) ∷ outs) h = refl
rolled_tells r (Out.Tell Indication.Rollback ∷ outs) h = refl
rolled_tells r (Out.Tell i ∷ outs) h = rolled_tells r outs h
rolled_tells r (Out.Send a w ∷ outs) h = rolled_tells r outs h

-- ---- down a tree

-- a node at the end of a branch of which the same holds
pub record Next (es : List Happening) (t : Aaid) (T : Node → Type 0) (x : Node) : Type 0 where
  pub id : BranchId
  pub node : Node
  pub branch : IsBranchOf (run es) t id x node
  pub is : T node

pub below_then : (es : List Happening) (t : Aaid) (b : BranchId) (x y z : Node) → IsBranchOf (run es) t b x y → IsBelow (run es) t y z → IsBelow (run es) t x z
below_then es t b x y z branch IsBelow.itself = one_below b x y IsBelow.itself branch
below_then es t b x y z branch (IsBelow.below c v u i last) = one_below c v u (below_then es t b x y v branch i) last

-- what holds of a node, or was so of a branch, holds at it or below
pub down : (es : List Happening) (t : Aaid) (T F : Node → Type 0) → ((x : Node) → IsOf (run es) t x → T x → F x ⊎ Next es t T x) → (k : ℕ) (x : Node) → IsOf (run es) t x → IsWithin es k x → T x → Beneath F (run es) t x
down es t T F step zero x of le is = absurd (none_within es t x of le)
down es t T F step (suc k) x of le is = go (step x of is) (λ y b branch. down es t T F step k y branch.child (branch_within es t b k x y branch le))
  where
    go : F x ⊎ Next es t T x → ((y : Node) (b : BranchId) → IsBranchOf (run es) t b x y → T y → Beneath F (run es) t y) → Beneath F (run es) t x
    go (inl i) rest = record { node = x; below = IsBelow.itself; is = i }
    go (inr i) rest = let w = rest i.node i.id i.branch i.is in record { node = w.node; below = below_then es t i.id x i.node w.node i.branch w.below; is = w.is }

-- ---- a node of the tree

pub record Facts (t : Aaid) (x : Node) : Type 0 where
  pub empty : x.origin.start.records ≡ []
  pub legal : IsGrown x.origin x.superior x.history
  pub once : IsOnce x.origin x.history
  pub fated : IsFated x.origin x.history t

pub facts : (es : List Happening) (t : Aaid) (x : Node) → IsIn (run es) x → Facts t x
facts es t x here = record { empty = empty; legal = legal; once = once; fated = fated_law x.origin x.superior x.history t empty legal once }
  where
    empty : x.origin.start.records ≡ []
    empty = (good_run es).fresh (number_of x) x here

    legal : IsGrown x.origin x.superior x.history
    legal = (good_run es).legal (number_of x) x here

    once : IsOnce x.origin x.history
    once = (unique_run es).once (number_of x) x here

-- a tree commits there
pub committed_at : (es : List Happening) (t : Aaid) (x : Node) → IsIn (run es) x → (f : Current → Event → Bool) (w : Found f x.origin t x.history) → is_committing w.current.phase ≡ true → decided x.origin t x.history ≡ true
committed_at es t x here f w phase = subst (λ (h : List Entry). decided x.origin t h ≡ true) (sym w.is) (later w.before)
  where
    k : Facts t x
    k = facts es t x here

    legal : IsGrown x.origin x.superior (w.entry ∷ w.rest)
    legal = legal_at x.origin x.superior w.before w.entry w.rest (subst (λ (h : List Entry). IsGrown x.origin x.superior h) w.is k.legal)

    once : IsOnce x.origin (w.entry ∷ w.rest)
    once = once_at x.origin w.before w.entry w.rest (subst (λ (h : List Entry). IsOnce x.origin h) w.is k.once)

    now : is_now t (digest x.origin w.rest).current ≡ true
    now = ap (is_now t) w.at ∙ w.own

    early : decided x.origin t w.rest ≡ true
    early = (fated_law x.origin x.superior w.rest t k.empty legal.3 once.1).committing now (ap is_committing (phase_at (digest x.origin w.rest) w.current w.at) ∙ phase)

    later : (before : List Entry) → decided x.origin t (before ++ w.entry ∷ w.rest) ≡ true
    later [] = commit_more t w.entry.rec (records x.origin w.rest) early
    later (e ∷ before) = commit_more t e.rec (records x.origin (before ++ w.entry ∷ w.rest)) (later before)

-- or rolls
pub rolled_there : (es : List Happening) (t : Aaid) (x : Node) → IsIn (run es) x → (f : Current → Event → Bool) (w : Found f x.origin t x.history) → is_rolling w.current.phase ≡ true → rolled x.origin t x.history ≡ true
rolled_there es t x here f w phase = subst (λ (h : List Entry). rolled x.origin t h ≡ true) (sym w.is) (rolled_at x.origin t w.before (w.entry ∷ w.rest) (rolled_more x.origin w.entry w.rest t early))
  where
    k : Facts t x
    k = facts es t x here

    legal : IsGrown x.origin x.superior (w.entry ∷ w.rest)
    legal = legal_at x.origin x.superior w.before w.entry w.rest (subst (λ (h : List Entry). IsGrown x.origin x.superior h) w.is k.legal)

    once : IsOnce x.origin (w.entry ∷ w.rest)
    once = once_at x.origin w.before w.entry w.rest (subst (λ (h : List Entry). IsOnce x.origin h) w.is k.once)

    now : is_now t (digest x.origin w.rest).current ≡ true
    now = ap (is_now t) w.at ∙ w.own

    early : rolled x.origin t w.rest ≡ true
    early = (fated_law x.origin x.superior w.rest t k.empty legal.3 once.1).rolling now (ap is_rolling (phase_at (digest x.origin w.rest) w.current w.at) ∙ phase)

-- ---- a branch whose rollback was complete so

back_rolled : (es : List Happening) (t : Aaid) (r : Report) (x : Node) → IsIn (run es) x → is_told Outcome.Rollback r t x ≡ true → rolled x.origin t x.history ≡ true
back_rolled es t r x here told =
    let k : Facts t x = facts es t x here in
    sees_rollback x.origin x.superior x.history t k.empty k.legal k.once (told_as (out_tells (is_complete Outcome.Rollback r)) tells_rollback (rolled_tells r) x.origin t x.history told)

word_back : (es : List Happening) (t : Aaid) (r : Report) (x : Node) → IsOf (run es) t x → rolled x.origin t x.history ≡ true → (f : Current → Event → Bool) (w : Found f x.origin t x.history) (a : Addr) (m k : Mark) (q : ℕ)
    → w.entry.event ≡ Event.Arrive a (PeerRecord.OnAssoc m k q (DialogueRecord.RolledBack r)) → is_awaited (find_branch w.current.branches a.node) ≡ true → Next es t (λ z. is_told Outcome.Rollback r t z ≡ true) x
word_back es t r x x_of rolls f w a m k q is waits = record { id = kin.0; node = s.node; branch = kin.1; is = told }
  where
    s : Speaker es x w.entry w.rest w.current a
    s = speaker es t x x_of.here f w a m k q (DialogueRecord.RolledBack r) is waits

    g : Deeds
    g = deeds_of s.node.origin s.node.history

    rs : List LogRec
    rs = records s.node.origin s.node.history

    said : is_told Outcome.Rollback r (aaid_of w.current.key) s.node ≡ true
    said = backed_word x.origin x.superior (number_of s.node) g rs w.entry w.rest s.rules s.old (aaid_of w.current.key, s.branch.id) a m k q r is (sym s.number) s.stands

    told : is_told Outcome.Rollback r t s.node ≡ true
    told = subst (λ (u : Aaid). is_told Outcome.Rollback r u s.node ≡ true) (sym (aaids_equal t (aaid_of w.current.key) w.own)) said

    kin : (b : BranchId) × IsBranchOf (run es) t b x s.node
    kin = kin_branch es t x s.node x_of ((facts es t x x_of.here).fated.rolled_known rolls) s.here s.under ((facts es t s.node s.here).fated.rolled_known (back_rolled es t r s.node s.here told))

heard_back : (es : List Happening) (t : Aaid) (r : Report) (x : Node) → IsOf (run es) t x → rolled x.origin t x.history ≡ true → has_heard r t x ≡ true → Next es t (λ z. is_told Outcome.Rollback r t z ≡ true) x
heard_back es t r x of rolls m = on (hears_case w.current w.entry.event r w.met)
  where
    w : Found (hears r) x.origin t x.history
    w = find_met (hears r) x.origin t x.history m

    clash : is_committing w.current.phase ≡ true → ⊥
    clash phase = (facts es t x of.here).fated.never_both (committed_at es t x of.here (hears r) w phase) rolls

    on : Hears r w.current w.entry.event → Next es t (λ z. is_told Outcome.Rollback r t z ≡ true) x
    on (A_back a n k q is rolling waits) = word_back es t r x of rolls (hears r) w a n k q is waits
    on (A_done a n k q is phase waits) = absurd (clash phase)
    on (A_reply a u b is phase waits same) = absurd (clash phase)

-- a branch is given up in a commitment alone
gives_late : (who : Who) (d : Digest) (e : Event) (c : Current) → refusal who d e ≡ None → d.current ≡ Some c → gives_up c e ≡ true → is_committing c.phase ≡ true
unfolding refusal verdict refused_tx
gives_late who d (Event.GiveUp p) c ok now h = go (is_committing c.phase) refl
  where
    go : (b : Bool) → is_committing c.phase ≡ b → is_committing c.phase ≡ true
    go true i = i
    go false i = absurd (grind (arith, ok, now, i))
gives_late who d e c ok now h = absurd (cc (h))

pub gave_committed : (es : List Happening) (t : Aaid) (x : Node) → IsIn (run es) x → has_given_up t x ≡ true → decided x.origin t x.history ≡ true
gave_committed es t x here m = committed_at es t x here gives_up w (gives_late x.origin.who (digest x.origin w.rest) w.entry.event w.current legal.0 w.at w.met)
  where
    w : Found gives_up x.origin t x.history
    w = find_met gives_up x.origin t x.history m

    legal : IsGrown x.origin x.superior (w.entry ∷ w.rest)
    legal = legal_at x.origin x.superior w.before w.entry w.rest (subst (λ (h : List Entry). IsGrown x.origin x.superior h) w.is (facts es t x here).legal)

-- ---- every run

pub rollbacks_apart : (es : List Happening) → RollbacksAreApart (run es)
rollbacks_apart es = record {
  mixed = λ t x here told.
      down es t (λ z. is_told Outcome.Rollback Report.Mix t z ≡ true) (HasOpposed Outcome.Rollback t) (mix_next t) (length (run es).nodes) x (of t x here (tells_rolled_back Report.Mix) told) (all_within es x) (as_told Report.Mix t x told);
  hazardous = λ t x here told.
      (down es t (λ z. is_told Outcome.Rollback Report.Hazard t z ≡ true) (λ z. ⊥) (hazard_next t) (length (run es).nodes) x (of t x here (tells_rolled_back Report.Hazard) told) (all_within es x) (as_told Report.Hazard t x told)).is;
}
  where
    of : (t : Aaid) (x : Node) → IsIn (run es) x → (f : List Out → Bool) → has_told_in f x.origin t x.history ≡ true → IsOf (run es) t x
    of t x here f told = record { here = here; of_tree = told_member f x.origin t x.history told }

    as_told : (r : Report) (t : Aaid) (x : Node) → has_told_in (tells_rolled_back r) x.origin t x.history ≡ true → is_told Outcome.Rollback r t x ≡ true
    as_told r t x told = told_as (tells_rolled_back r) (out_tells (is_complete Outcome.Rollback r)) (λ outs i. rolled_is r outs ∙ i) x.origin t x.history told

    as_shown : (r : Report) (t : Aaid) (x : Node) → is_told Outcome.Rollback r t x ≡ true → has_told_in (tells_rolled_back r) x.origin t x.history ≡ true
    as_shown r t x told = told_as (out_tells (is_complete Outcome.Rollback r)) (tells_rolled_back r) (λ outs i. sym (rolled_is r outs) ∙ i) x.origin t x.history told

    mix_next : (t : Aaid) (x : Node) → IsOf (run es) t x → is_told Outcome.Rollback Report.Mix t x ≡ true → HasOpposed Outcome.Rollback t x ⊎ Next es t (λ z. is_told Outcome.Rollback Report.Mix t z ≡ true) x
    mix_next t x of told = elim ((reports_have_causes es).mixed_rollback t x of.here (as_shown Report.Mix t x told)) [ inl i ↦ inl i | inr i ↦ inr (heard_back es t Report.Mix x of (back_rolled es t Report.Mix x of.here told) i) ]

    hazard_next : (t : Aaid) (x : Node) → IsOf (run es) t x → is_told Outcome.Rollback Report.Hazard t x ≡ true → ⊥ ⊎ Next es t (λ z. is_told Outcome.Rollback Report.Hazard t z ≡ true) x
    hazard_next t x of told = elim ((reports_have_causes es).hazard_rollback t x of.here (as_shown Report.Hazard t x told)) [
      | inl i ↦ absurd ((facts es t x of.here).fated.never_both (gave_committed es t x of.here i) (back_rolled es t Report.Hazard x of.here told))
      | inr i ↦ inr (heard_back es t Report.Hazard x of (back_rolled es t Report.Hazard x of.here told) i)
    ]
