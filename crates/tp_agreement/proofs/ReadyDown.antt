-- Ready goes down: what a bound superior knows of a branch that it began.
use Rattle.std.proofs.Common.{◌≡◌, ◌≤◌, ◌+◌, ◌⊎◌, inl, inr, ℕ, suc, Bool, true, false, refl, ap, sym, subst, ◌∙◌, arith, Option, Some, None, List, [], ◌∷◌}
use Rattle.tp_names.specs.declared.identifiers.Aaid.{Aaid}
use Rattle.tp_names.specs.declared.identifiers.BranchId.{BranchId}
use Rattle.tp_names.specs.declared.identifiers.Addr.{Addr}
use Rattle.tp_names.specs.declared.identifiers.Mark.{Mark}
use Rattle.tp_names.specs.Same.{is_aaid}
use Rattle.tp_records.specs.declared.dialogue.DialogueRecord.{DialogueRecord}
use Rattle.tp_records.specs.declared.dialogue.Holder.{Holder}
use Rattle.tp_records.specs.declared.peer.PeerRecord.{PeerRecord}
use Rattle.tp_logrec.specs.declared.record.LogRec.{LogRec}
use Rattle.tp_model.specs.declared.arc.Phase.{Phase}
use Rattle.tp_model.specs.Parts.{Who, Origin, Event, Entry, Branch, Key, Under, Current, Digest}
use Rattle.tp_model.specs.Dialogues.{is_active}
use Rattle.tp_model.specs.Transactions.{aaid_of}
use Rattle.tp_model.specs.Node.{phase_of, fresh_current}
use Rattle.tp_model.specs.Events.{action, recovered_current}
use Rattle.tp_model.specs.History.{digest, records, with_rec}
use Rattle.tp_model.specs.Outcomes.{is_now}
use Rattle.tp_model.specs.Promises.{is_of_tree, is_bound_of, has_record, is_begin_of, has_begun}
use Rattle.tp_model.specs.Legal.{IsGrown}
use Rattle.tp_histories.specs.Histories.{IsSentIn, HasSent}
use Rattle.tp_steps.specs.Moves.{IsLate, prelude}
use Rattle.tp_steps.specs.Facts.{BranchKey, find_branch, has_ready_of, words_to, key_at}
use Rattle.tp_steps.specs.Passages.{may_move}
use Rattle.tp_steps.specs.Trees.{begins_of, branch_of_tree, IsOld, IsTreed}
use Rattle.tp_histories.specs.Members.{is_begun_by, has_taken_begin, is_known, IsOnce}
use Rattle.tp_steps.specs.Upward.{Deeds}
use Rattle.tp_histories.proofs.trees.Late.{late_law, late_prelude}
use Rattle.tp_steps.proofs.words.Treed.{now_some, drawn_new}
use Rattle.tp_histories.proofs.trees.Knowing.{Came, As_it_was, By_begin, By_crash, came_by, old_prelude, now_known, now_prelude, nil_now, treed_event}
use Rattle.tp_histories.proofs.worlds.TreeMembers.{known_old, prelude_old, now_then, sent_known, sent_counts, sent_row, at_least, at_least_right}
use Rattle.tp_steps.proofs.words.Leaves.{aaid_same}
use Rattle.tp_steps.proofs.branches.Rolls.{phase_at}
use Rattle.tp_runs.proofs.Bare.{bare_law}
use Rattle.tp_steps.proofs.lemmas.Equality.{aaids_equal, branches_equal, or_case}
use Rattle.tp_histories.proofs.upward.SpeaksUp.{recovered_before}
use Rattle.tp_histories.proofs.worlds.Unique.{TookOn}
use Rattle.tp_runs.proofs.Family.{begin_is}
use Rattle.tp_agreement.proofs.Settled.{is_bound_phase}
use Rattle.tp_agreement.proofs.VotedAt.{VotedAt, BoundNow, binds_tree, active_bound, binding_event}
use Rattle.tp_agreement.proofs.Marked.{Marked}
use Rattle.tp_agreement.proofs.Accounts.{counted_of, left_of, Accounts}
use Rattle.tp_agreement.proofs.LeftDown.{Below, below_tail, accounts_of, branch_some, key_branch}
use Rattle.tp_steps.proofs.lemmas.Options.{some_same}

-- ---- bound after the prelude, bound before

recovered_bound : (o : Option Current) (c : Current) → recovered_current o ≡ Some c → is_bound_phase c.phase ≡ true
recovered_bound None c h = absurd (cc (h))
recovered_bound (Some u) c h = grind (arith, h)

bound_back : (who : Who) (d : Digest) (e : Event) (t : Aaid) → Came who d e → BoundNow t (prelude who d e) → BoundNow t d
bound_back who d e t (As_it_was i) b = (b.0, sym i ∙ b.1, b.2, b.3)
bound_back who d e t (By_begin from x y q v w g a is found cur nil above) b =
    let same = some_same (fresh_current (Under v w a.peer)) b.0 (sym cur ∙ b.1) in
    absurd (cc (ap (λ (u : Current). is_bound_phase u.phase) same ∙ b.3))
bound_back who d e t (By_crash is cur) b =
    let r = recovered_before d.current b.0 (sym cur ∙ b.1) in
    (r.0, r.1, ap (λ (k : Key). is_aaid t (aaid_of k)) (sym r.2) ∙ b.2, ap is_bound_phase (sym r.3) ∙ b.3)

bound_or : (t : Aaid) (d : Digest) → BoundNow t d ⊎ (BoundNow t d → ⊥)
bound_or t d = go d.current refl
  where
    on : (c : Current) → d.current ≡ Some c → (v : Bool) → is_aaid t (aaid_of c.key) ≡ v → (w : Bool) → is_bound_phase c.phase ≡ w → BoundNow t d ⊎ (BoundNow t d → ⊥)
    on c i true j true k = inl (c, i, j, k)
    on c i false j w k = inr (λ b. cc (j, ap (λ (u : Current). is_aaid t (aaid_of u.key)) (some_same c b.0 (sym i ∙ b.1)) ∙ b.2))
    on c i v j false k = inr (λ b. cc (k, ap (λ (u : Current). is_bound_phase u.phase) (some_same c b.0 (sym i ∙ b.1)) ∙ b.3))

    go : (o : Option Current) → d.current ≡ o → BoundNow t d ⊎ (BoundNow t d → ⊥)
    go None i = inr (λ b. cc (sym i ∙ b.1))
    go (Some c) i = on c i (is_aaid t (aaid_of c.key)) refl (is_bound_phase c.phase) refl

bound_is : (t : Aaid) (d : Digest) → BoundNow t d → is_now t d.current ≡ true
bound_is t d b = ap (is_now t) b.1 ∙ b.2

pub bound_tree : (t : Aaid) (rs : List LogRec) → has_record (is_bound_of t) rs ≡ true → has_record (is_of_tree t) rs ≡ true
bound_tree t [] h = absurd (cc (h))
bound_tree t (LogRec.Ready n k s cs ∷ rs) h = let rest = bound_tree t rs in grind (arith, h, rest)
bound_tree t (LogRec.Commit n k s cs ∷ rs) h = let rest = bound_tree t rs in grind (arith, h, rest)
bound_tree t (LogRec.Boot n ∷ rs) h = bound_tree t rs h
bound_tree t (LogRec.Heuristic n k u ∷ rs) h = let rest = bound_tree t rs h in rw rest (grind arith)
bound_tree t (LogRec.Damage n k s u r cs ∷ rs) h = let rest = bound_tree t rs h in rw rest (grind arith)
bound_tree t (LogRec.End n k u ∷ rs) h = let rest = bound_tree t rs h in rw rest (grind arith)

bound_case : (t : Aaid) (r : Option LogRec) (rs : List LogRec) → has_record (is_bound_of t) (with_rec r rs) ≡ true → (binds_tree t r ≡ true) ⊎ (has_record (is_bound_of t) rs ≡ true)
bound_case t None rs h = inr h
bound_case t (Some r) rs h = or_case (is_bound_of t r) (has_record (is_bound_of t) rs) h

was_open : (p q : Phase) → may_move p q ≡ true → is_bound_phase q ≡ true → is_bound_phase p ≡ false → is_active p ≡ true
was_open Phase.Active q m b n = refl
was_open Phase.Nil q m b n = absurd (grind (arith, m, b))
was_open Phase.Ready q m b n = absurd (cc (n))
was_open Phase.Committing q m b n = absurd (cc (n))
was_open Phase.Rolling q m b n = absurd (grind (arith, m, b))

-- ---- every legal history

-- bound now, or by the log
abbrev pub Bound : Origin → Aaid → List Entry → Type 0
Bound o t h = BoundNow t (digest o h) ⊎ (has_record (is_bound_of t) (records o h) ≡ true)

abbrev pub Answered : Aaid → Deeds → List LogRec → Type 0
Answered t g rs = (g.left t ≡ true) ⊎ (id : BranchId) × (has_ready_of (t, id) rs ≡ true)

-- a bound tree begins no branch
pub bound_begins : (o : Origin) (up : Option Addr) (e : Entry) (h : List Entry) (a : Addr) (t : Aaid) → o.start.records ≡ [] → IsGrown o up (e ∷ h) → IsOnce o (e ∷ h) → Bound o t h → suc 0 ≤ begins_of t (words_to a.node (action o.who (digest o h) e.event).outs) → ⊥
bound_begins o up e h a t empty legal once old counts = elim (k.born late counts) [ inl n ↦ here n | inr z ↦ drawn_new o.who w (action o.who d e.event).next t z (old_prelude o.who d e.event t.mark (known_old o h t once.1 known)) ]
  where
    d : Digest
    d = digest o h

    w : Digest
    w = prelude o.who d e.event

    late : IsLate w
    late = late_prelude o.who d e.event (late_law o up h legal.3)

    k : IsTreed o.who w true t a.node w (action o.who d e.event)
    k = treed_event o.who d e.event t a.node (late_law o up h legal.3) legal.0

    known : is_known o t h ≡ true
    known = elim old [
      | inl b ↦ now_known o up h t empty legal.3 (bound_is t d b)
      | inr r ↦ (bare_law o up h t empty legal.3 once.1).known (bound_tree t (records o h) r)
    ]

    here : is_now t w.current ≡ true → ⊥
    here n = at (came_by o.who d e.event legal.0) (now_prelude o.who d e.event t legal.0 n)
      where
        act : is_active (phase_of w) ≡ true
        act = k.active late (prelude_old o up e h t empty legal once) counts n

        c : (u : Current) × (w.current ≡ Some u) × (is_aaid t (aaid_of u.key) ≡ true)
        c = now_some t w.current n

        active : is_active c.0.phase ≡ true
        active = ap is_active (sym (phase_at w c.0 c.1)) ∙ act

        at : Came o.who d e.event → (is_now t d.current ≡ true) ⊎ (is_begun_by t e.event ≡ true) → ⊥
        at came (inr j) = let new = once.0 t j in absurd (grind (arith, known, new.0, new.1))
        at (As_it_was i) (inl m) = elim old [
          | inl b ↦ active_bound c.0.phase active (ap (λ (u : Current). is_bound_phase u.phase) (some_same c.0 b.0 (sym c.1 ∙ i ∙ b.1)) ∙ b.3)
          | inr r ↦ (let off = (bare_law o up h t empty legal.3 once.1).active (bound_tree t (records o h) r) m in cc (off, ap is_active (phase_at d c.0 (sym i ∙ c.1)) ∙ active))
        ]
        at (By_begin from x y q v u f l is found cur nil above) (inl m) = cc (m, nil_now d t (late_law o up h legal.3) nil)
        at (By_crash is cur) (inl m) = active_bound c.0.phase active (recovered_bound d.current c.0 (sym cur ∙ c.1))

pub voted_sent : (o : Origin) (up : Option Addr) (p : ℕ) (g : Deeds) (rs : List LogRec) (h : List Entry) (a : Addr) (x y : Mark) (q : ℕ) (t : Aaid) (b : BranchId) (i : Holder) → Below o up p g rs h → a.node ≡ p → Bound o t h → HasSent h a (PeerRecord.OnAssoc x y q (DialogueRecord.Begin t b i)) → Answered t g rs
voted_sent o up p g rs [] a x y q t b i below at bound s = absurd s
voted_sent o up p g rs (e ∷ h) a x y q t b i below at bound s = go (has_record (is_bound_of t) (records o h)) refl (bound_or t d) (λ old k. voted_sent o up p g rs h a x y q t b i (below_tail o up p g rs e h below) at old k)
  where
    d : Digest
    d = digest o h

    w : Digest
    w = prelude o.who d e.event

    next : Digest
    next = digest o (e ∷ h)

    late : IsLate w
    late = late_prelude o.who d e.event (late_law o up h below.legal.3)

    k : IsTreed o.who w true t a.node w (action o.who d e.event)
    k = treed_event o.who d e.event t a.node (late_law o up h below.legal.3) below.legal.0

    counts : IsSentIn e.outs a (PeerRecord.OnAssoc x y q (DialogueRecord.Begin t b i)) → suc 0 ≤ begins_of t (words_to a.node (action o.who d e.event).outs)
    counts m = sent_counts t a.node (action o.who d e.event).outs a x y q b i refl (subst (λ (f : Entry). IsSentIn f.outs a (PeerRecord.OnAssoc x y q (DialogueRecord.Begin t b i))) (sym below.legal.1) m)

    old_case : Bound o t h → IsSentIn e.outs a (PeerRecord.OnAssoc x y q (DialogueRecord.Begin t b i)) ⊎ HasSent h a (PeerRecord.OnAssoc x y q (DialogueRecord.Begin t b i)) → (Bound o t h → HasSent h a (PeerRecord.OnAssoc x y q (DialogueRecord.Begin t b i)) → Answered t g rs) → Answered t g rs
    old_case old (inr m) rest = rest old m
    old_case old (inl m) rest = absurd (bound_begins o up e h a t below.empty below.legal below.once old (counts m))

    recs : e.rec ≡ (action o.who d e.event).rec
    recs = ap (λ (f : Entry). f.rec) (sym below.legal.1)

    new_case : has_record (is_bound_of t) (records o h) ≡ false → (BoundNow t d → ⊥) → Answered t g rs
    new_case none free = marked (or_case v.0.counted v.0.left (voted now.0 now.1 now.2 now.3 a.node v.0 v.1))
      where
        came : Came o.who d e.event
        came = came_by o.who d e.event below.legal.0

        now : BoundNow t next
        now = elim bound [
          | inl m ↦ m
          | inr r ↦ elim (bound_case t e.rec (records o h) r) [
            | inl m ↦ (binding_event o.who d e.event t (late_law o up h below.legal.3) below.legal.0).rec (ap (binds_tree t) (sym recs) ∙ m)
            | inr m ↦ absurd (cc (none, m))
          ]
        ]

        n : is_now t next.current ≡ true
        n = bound_is t next now

        voted : VotedAt t next
        voted = (binding_event o.who d e.event t (late_law o up h below.legal.3) below.legal.0).voted (λ c cur tree phase. absurd (free (bound_back o.who d e.event t came (c, cur, tree, phase))))

        old : IsOld o.who t w
        old = prelude_old o up e h t below.empty below.legal below.once

        more : begins_of t (words_to a.node (action o.who d e.event).outs) + branch_of_tree t (key_at w.current a.node) ≤ branch_of_tree t (key_at next.current a.node)
        more = k.more late old n

        before : HasSent h a (PeerRecord.OnAssoc x y q (DialogueRecord.Begin t b i)) → suc 0 ≤ branch_of_tree t (key_at w.current a.node)
        before m = by came mid
          where
            known : is_known o t h ≡ true
            known = sent_known o up h a x y q t b i below.empty below.legal.3 m

            now_d : is_now t d.current ≡ true
            now_d = now_then o up e h t below.empty below.legal below.once known n

            mid : is_now t w.current ≡ true
            mid = elim (k.enters late n) [
              | inl j ↦ j
              | inr z ↦ absurd (drawn_new o.who w (action o.who d e.event).next t z (old_prelude o.who d e.event t.mark (known_old o h t below.once.1 known)))
            ]

            c : (u : Current) × (d.current ≡ Some u) × (is_aaid t (aaid_of u.key) ≡ true)
            c = now_some t d.current now_d

            loose : (v : Bool) → is_bound_phase c.0.phase ≡ v → is_bound_phase c.0.phase ≡ false
            loose false j = j
            loose true j = absurd (free (c.0, c.1, c.2, j))

            by : Came o.who d e.event → is_now t w.current ≡ true → suc 0 ≤ branch_of_tree t (key_at w.current a.node)
            by (As_it_was j) m1 =
                let moved : may_move (phase_of w) (phase_of next) ≡ true = k.moves late old m1 n in
                let from : phase_of w ≡ c.0.phase = phase_at w c.0 (j ∙ c.1) in
                let act : is_active c.0.phase ≡ true = was_open c.0.phase (phase_of next) (ap (λ (v : Phase). may_move v (phase_of next)) (sym from) ∙ moved) (ap is_bound_phase (phase_at next now.0 now.1) ∙ now.3) (loose (is_bound_phase c.0.phase) refl) in
                let row = sent_row o up h a x y q t b i below.empty below.legal.3 below.once.1 m now_d (ap is_active (phase_at d c.0 c.1) ∙ act) in
                subst (λ (u : Option Current). suc 0 ≤ branch_of_tree t (key_at u a.node)) (sym j) row
            by (By_begin from z v s u r f l is found cur nil above) m1 = absurd (cc (now_d, nil_now d t (late_law o up h below.legal.3) nil))
            by (By_crash is cur) m1 =
                let u = now_some t w.current m1 in
                absurd (free (bound_back o.who d e.event t (By_crash is cur) (u.0, u.1, u.2, recovered_bound d.current u.0 (sym cur ∙ u.1))))

        row : suc 0 ≤ branch_of_tree t (key_at next.current a.node)
        row = elim s [
          | inl m ↦ at_least (begins_of t (words_to a.node (action o.who d e.event).outs)) (branch_of_tree t (key_at w.current a.node)) (branch_of_tree t (key_at next.current a.node)) (counts m) more
          | inr m ↦ at_least_right (begins_of t (words_to a.node (action o.who d e.event).outs)) (branch_of_tree t (key_at w.current a.node)) (branch_of_tree t (key_at next.current a.node)) (before m) more
        ]

        j : (z : BranchKey) × (key_at next.current a.node ≡ Some z) × (is_aaid t z.0 ≡ true)
        j = branch_some t (key_at next.current a.node) row

        v : (z : Branch) × (find_branch now.0.branches a.node ≡ Some z) × (j.0 ≡ (aaid_of now.0.key, z.id))
        v = key_branch now.0 a.node j.0 (ap (λ (u : Option Current). key_at u a.node) (sym now.1) ∙ j.1)

        accounts : Accounts o p g rs (e ∷ h)
        accounts = accounts_of o up p g rs (e ∷ h) below

        tree : t ≡ j.0.0
        tree = aaids_equal t j.0.0 j.2

        marked : (v.0.counted ≡ true) ⊎ (v.0.left ≡ true) → Answered t g rs
        marked (inl m) =
            let r = accounts.counted j.0 (subst (λ (z : ℕ). Marked counted_of next.current z j.0) at (record { current = now.0; branch = v.0; at = now.1; found = v.1; is = m; key = v.2 })) in
            inr (j.0.1, subst (λ (z : Aaid). has_ready_of (z, j.0.1) rs ≡ true) (sym tree) r)
        marked (inr m) =
            let r = accounts.left j.0 (subst (λ (z : ℕ). Marked left_of next.current z j.0) at (record { current = now.0; branch = v.0; at = now.1; found = v.1; is = m; key = v.2 })) in
            inl (ap g.left tree ∙ r)

    go : (v : Bool) → has_record (is_bound_of t) (records o h) ≡ v → BoundNow t d ⊎ (BoundNow t d → ⊥) → (Bound o t h → HasSent h a (PeerRecord.OnAssoc x y q (DialogueRecord.Begin t b i)) → Answered t g rs) → Answered t g rs
    go true r free rest = old_case (inr r) s rest
    go false r (inl m) rest = old_case (inl m) s rest
    go false r (inr free) rest = new_case r free

-- ---- every run

pub begun_taken : (t : Aaid) (b : BranchId) (a : Addr) (h : List Entry) → has_begun t b a h ≡ true → has_taken_begin t h ≡ true
begun_taken t b a [] k = absurd (cc (k))
begun_taken t b a (e ∷ h) k = elim (or_case (is_begin_of t b a e.event) (has_begun t b a h) k) [
  | inl i ↦ (let n = begin_is t b a e.event i in rw n refl)
  | inr i ↦ (let n = begun_taken t b a h i in rw n (grind arith))
]

pub took_taken : (t : Aaid) (b : BranchId) (from : Addr) (x y : Mark) (q : ℕ) (i : Holder) (h : List Entry) → TookOn h from x y q (DialogueRecord.Begin t b i) → has_taken_begin t h ≡ true
took_taken t b from x y q i [] k = absurd k
took_taken t b from x y q i (e ∷ h) (inl k) = let n : is_begun_by t e.event ≡ true = ap (is_begun_by t) k ∙ aaid_same t in rw n refl
took_taken t b from x y q i (e ∷ h) (inr k) = let n = took_taken t b from x y q i h k in rw n (grind arith)

-- a tree's Begin is taken once, so of one branch
pub once_same : (o : Origin) (h : List Entry) (t : Aaid) (b id : BranchId) (a from : Addr) (x y : Mark) (q : ℕ) (i : Holder) → IsOnce o h → has_begun t b a h ≡ true → TookOn h from x y q (DialogueRecord.Begin t id i) → id ≡ b
once_same o [] t b id a from x y q i once k m = absurd m
once_same o (e ∷ h) t b id a from x y q i once k m = go (or_case (is_begin_of t b a e.event) (has_begun t b a h) k) m (once_same o h t b id a from x y q i once.1)
  where
    go : (is_begin_of t b a e.event ≡ true) ⊎ (has_begun t b a h ≡ true) → (e.event ≡ Event.Arrive from (PeerRecord.OnAssoc x y q (DialogueRecord.Begin t id i))) ⊎ TookOn h from x y q (DialogueRecord.Begin t id i)
        → (has_begun t b a h ≡ true → TookOn h from x y q (DialogueRecord.Begin t id i) → id ≡ b) → id ≡ b
    go (inr n) (inr m) rest = rest n m
    go (inl n) (inl m) rest =
        let one : is_begin_of t b a (Event.Arrive from (PeerRecord.OnAssoc x y q (DialogueRecord.Begin t id i))) ≡ true = sym (ap (is_begin_of t b a) m) ∙ n in
        sym (branches_equal b id (grind (arith, one)))
    go (inl n) (inr m) rest = absurd (cc ((once.0 t (begin_is t b a e.event n)).1, took_taken t id from x y q i h m))
    go (inr n) (inl m) rest = absurd (cc ((once.0 t (ap (is_begun_by t) m ∙ aaid_same t)).1, begun_taken t b a h n))
