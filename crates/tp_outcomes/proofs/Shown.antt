-- In every run, one outcome is shown in a tree, and what is told of an outcome is told of a tree.
use Rattle.std.proofs.Common.{◌≡◌, ◌⊎◌, inl, inr, ℕ, Bool, true, false, refl, ap, sym, ◌∙◌, arith, Option, Some, None, List, [], ◌∷◌, ◌&&◌, ◌||◌}
use Rattle.tp_names.specs.declared.identifiers.Aaid.{Aaid}
use Rattle.tp_names.specs.declared.identifiers.BranchId.{BranchId}
use Rattle.tp_names.specs.declared.identifiers.Mark.{Mark}
use Rattle.tp_names.specs.declared.identifiers.Addr.{Addr}
use Rattle.tp_records.specs.declared.indication.Indication.{Indication}
use Rattle.tp_records.specs.declared.dialogue.DialogueRecord.{DialogueRecord}
use Rattle.tp_records.specs.declared.dialogue.Holder.{Holder}
use Rattle.tp_records.specs.declared.peer.PeerRecord.{PeerRecord}
use Rattle.tp_logrec.specs.declared.record.LogRec.{LogRec}
use Rattle.tp_model.specs.declared.transaction.TxOut.{TxOut}
use Rattle.tp_model.specs.Parts.{Who, Origin, Event, Out, Entry, Arc, Under, Current, Digest}
use Rattle.tp_model.specs.Dialogues.{Sight, Acts, Nothing_happens, Out_of_phase, begun_by, named_holder}
use Rattle.tp_model.specs.declared.arc.Side.{Side}
use Rattle.tp_model.specs.Arcs.{find_arc, with_dialogue}
use Rattle.tp_model.specs.Transactions.{aaid_of}
use Rattle.tp_model.specs.Node.{Move, move, perform, next_mark, fresh_current, begin_on, begin_each, begin_chained, chained_peers}
use Rattle.tp_model.specs.Arrivals.{sight_at, take_begin, take_record, take_on}
use Rattle.tp_model.specs.Events.{action}
use Rattle.tp_model.specs.History.{digest, records}
use Rattle.tp_model.specs.Outcomes.{is_now, is_member, has_commit_of, last_decision, decided, decision, rolls, rolled, has_left, is_unchanged, told}
use Rattle.tp_model.specs.World.{Node, number_of}
use Rattle.tp_model.specs.Happenings.{Happening, run}
use Rattle.tp_model.specs.Promises.{IsOf, tells_commit, tells_rollback, has_told_in, told_of, is_of_tree, has_record, has_logged}
use Rattle.tp_model.specs.Legal.{IsGrown}
use Rattle.tp_steps.specs.Moves.{prelude}
use Rattle.tp_steps.specs.Passages.{is_commit_told, is_rollback_told}
use Rattle.tp_steps.specs.Trees.{out_tells, IsTreed}
use Rattle.tp_outcomes.specs.Shown.{OneIsShown, tells_outcome, IsToldOfATree, ToldOfTrees, LeftIsUntold}
use Rattle.tp_steps.proofs.links.Told.{told_append, told_performed}
use Rattle.tp_steps.proofs.every.BeginCases.{begin_cases}
use Rattle.tp_steps.proofs.lemmas.Equality.{or_case, and_left}
use Rattle.tp_histories.proofs.trees.Late.{late_law}
use Rattle.tp_histories.proofs.trees.Knowing.{Came, As_it_was, By_begin, By_crash, came_by}
use Rattle.tp_histories.proofs.trees.Behind.{treed_rolls}
use Rattle.tp_histories.proofs.worlds.Good.{good_run}
use Rattle.tp_histories.proofs.worlds.Unique.{unique_run}
use Rattle.tp_runs.proofs.Hanging.{member_head}
use Rattle.tp_runs.proofs.Users.{sees_commit, sees_rollback}
use Rattle.tp_runs.proofs.Bare.{left_is_bare}
use Rattle.tp_runs.proofs.Left.{left_is_not_rolled}
use Rattle.tp_agreement.proofs.Agreed.{never_two}
use Rattle.tp_agreement.proofs.Logs.{later_member}

-- ---- one outcome

pub told_member : (f : List Out → Bool) (o : Origin) (t : Aaid) (h : List Entry) → has_told_in f o t h ≡ true → is_member o t h ≡ true
told_member f o t [] l = absurd (cc (l))
told_member f o t (e ∷ h) l = elim (or_case (is_now t (digest o h).current && f e.outs) (has_told_in f o t h) l) [
  | inl i ↦ later_member o t e h (member_head o t h (and_left (is_now t (digest o h).current) (f e.outs) i))
  | inr i ↦ later_member o t e h (told_member f o t h i)
]

pub one_is_shown : (es : List Happening) → OneIsShown (run es)
one_is_shown es t x y hx hy c r =
    let good = good_run es in
    let once = unique_run es in
    never_two es t x y
    (record { here = hx; of_tree = told_member tells_commit x.origin t x.history c })
    (record { here = hy; of_tree = told_member tells_rollback y.origin t y.history r })
    (sees_commit x.origin x.superior x.history t (good.fresh (number_of x) x hx) (good.legal (number_of x) x hx) (once.once (number_of x) x hx) c)
    (sees_rollback y.origin y.superior y.history t (good.fresh (number_of y) y hy) (good.legal (number_of y) y hy) (once.once (number_of y) y hy) r)

-- ---- a Begin tells no outcome

begun_tells : (f : Indication → Bool) (who : Who) (p : ℕ) (d : Digest) → out_tells f (begin_on who p d).outs ≡ false
begun_tells f who p d = begin_cases (λ m. out_tells f m.outs ≡ false) who p d refl (λ c a now found may. told_performed f (with_dialogue d.arcs p (begun_by (named_holder a.dialogue) Side.Superior)) (TxOut.Carry p (DialogueRecord.Begin (aaid_of c.key) (record { superior = who.site; mark = next_mark who d }) (named_holder a.dialogue)) ∷ []))

each_tells : (f : Indication → Bool) (who : Who) (ps : List ℕ) (d : Digest) → out_tells f (begin_each who ps d).outs ≡ false
each_tells f who [] d = refl
each_tells f who (p ∷ ps) d =
    let a : Move = begin_on who p d in
    told_append f a.outs (begin_each who ps a.next).outs ∙ ap (λ (b : Bool). b || out_tells f (begin_each who ps a.next).outs) (begun_tells f who p d) ∙ each_tells f who ps a.next

taken_tells : (f : Indication → Bool) (who : Who) (a : Arc) (t : Aaid) (b : BranchId) (h : Holder) (d : Digest) → ((p : ℕ) (u : Aaid) → f (Indication.BeginTransaction p u) ≡ false) → out_tells f (take_begin who a t b h d).outs ≡ false
unfolding take_begin
taken_tells f who a t b h d none =
    let first : Move =
    perform
    (TxOut.Tell (Indication.BeginTransaction a.peer.node t) ∷ [])
    (record d { arcs = with_dialogue d.arcs a.peer.node (begun_by h Side.Subordinate); current = Some (fresh_current (Under t b a.peer)) }) in
    told_append f first.outs (begin_chained who first.next).outs
    ∙ ap (λ (v : Bool). v || out_tells f (begin_chained who first.next).outs)
    (told_performed f (with_dialogue d.arcs a.peer.node (begun_by h Side.Subordinate)) (TxOut.Tell (Indication.BeginTransaction a.peer.node t) ∷ []) ∙ ap (λ (v : Bool). v || false) (none a.peer.node t))
    ∙ each_tells f who (chained_peers who first.next) first.next

begin_tells : (f : Indication → Bool) (who : Who) (d : Digest) (from : Addr) (x y : Mark) (q : ℕ) (t : Aaid) (b : BranchId) (h : Holder) → ((p : ℕ) (u : Aaid) → f (Indication.BeginTransaction p u) ≡ false)
    → out_tells f (action who d (Event.Arrive from (PeerRecord.OnAssoc x y q (DialogueRecord.Begin t b h)))).outs ≡ false
begin_tells f who d from x y q t b h none = go (find_arc d.arcs from.node)
  where
    on : (a : Arc) (counted : Digest) (s : Sight) → out_tells f (elim s as (λ _. Move) [ Acts ↦ take_record who a (DialogueRecord.Begin t b h) counted | Nothing_happens ↦ move [] counted | Out_of_phase ↦ move [] counted ]).outs ≡ false
    on a counted Acts = taken_tells f who a t b h counted none
    on a counted Nothing_happens = refl
    on a counted Out_of_phase = refl

    go : (o : Option Arc) → out_tells f (elim o as (λ _. Move) [ None ↦ move [] d | Some a ↦ take_on who a (DialogueRecord.Begin t b h) d ]).outs ≡ false
    go None = refl
    go (Some a) = on a _ (sight_at who d a (DialogueRecord.Begin t b h))

-- ---- what is told of an outcome

commit_tells : (outs : List Out) → tells_commit outs ≡ out_tells is_commit_told outs
commit_tells (o ∷ outs) = let rest = commit_tells outs in grind (arith, rest)
commit_tells _ = refl

rollback_tells : (outs : List Out) → tells_rollback outs ≡ out_tells is_rollback_told outs
rollback_tells (o ∷ outs) = let rest = rollback_tells outs in grind (arith, rest)
rollback_tells _ = refl

told_entry : (o : Origin) (up : Option Addr) (e : Entry) (h : List Entry) → IsGrown o up (e ∷ h) → tells_outcome e.outs ≡ true → (c : Current) × ((digest o h).current ≡ Some c)
told_entry o up e h legal told = go (came_by o.who d e.event legal.0)
  where
    d : Digest
    d = digest o h

    s : Digest
    s = prelude o.who d e.event

    a : Move
    a = action o.who d e.event

    outs : e.outs ≡ a.outs
    outs = ap (λ (v : Entry). v.outs) (sym legal.1)

    -- any tree will do
    treed : (t : Aaid) → IsTreed o.who s (rolls o.who d e.event) t 0 s a
    treed t = treed_rolls o.who d e.event t 0 (late_law o up h legal.3) legal.0

    some_tree : Aaid
    some_tree = record { owner = []; mark = record { boot = 0; node = 0; count = 0 } }

    which : (out_tells is_commit_told a.outs ≡ true) ⊎ (out_tells is_rollback_told a.outs ≡ true)
    which = elim (or_case (tells_commit e.outs) (tells_rollback e.outs) told) [
      | inl i ↦ inl (ap (out_tells is_commit_told) (sym outs) ∙ sym (commit_tells e.outs) ∙ i)
      | inr i ↦ inr (ap (out_tells is_rollback_told) (sym outs) ∙ sym (rollback_tells e.outs) ∙ i)
    ]

    at_prelude : (out_tells is_commit_told a.outs ≡ true) ⊎ (out_tells is_rollback_told a.outs ≡ true) → (c : Current) × (s.current ≡ Some c)
    at_prelude (inl i) = let k = (treed some_tree).tells_commit i in (k.0, k.1)
    at_prelude (inr i) = let k = (treed some_tree).tells_rollback i in (k.0, k.1)

    none_told : (out_tells is_commit_told a.outs ≡ true) ⊎ (out_tells is_rollback_told a.outs ≡ true) → ((f : Indication → Bool) → ((p : ℕ) (u : Aaid) → f (Indication.BeginTransaction p u) ≡ false) → out_tells f a.outs ≡ false) → ⊥
    none_told (inl i) none = cc (i, none is_commit_told (λ p u. refl))
    none_told (inr i) none = cc (i, none is_rollback_told (λ p u. refl))

    go : Came o.who d e.event → (c : Current) × (d.current ≡ Some c)
    go (As_it_was i) = let k = at_prelude which in (k.0, sym i ∙ k.1)
    go (By_begin from x y q u b k r is found cur nil above) =
        absurd (none_told which (λ f none. ap (λ (v : Event). out_tells f (action o.who d v).outs) is ∙ begin_tells f o.who d from x y q u b k none))
    go (By_crash is cur) = absurd (none_told which (λ f none. ap (λ (v : Event). out_tells f (action o.who d v).outs) is))

told_law : (o : Origin) (up : Option Addr) (h : List Entry) → IsGrown o up h → IsToldOfATree o h
told_law o up [] legal = tt
told_law o up (e ∷ h) legal = (λ told. told_entry o up e h legal told, told_law o up h legal.3)

pub told_of_trees : (es : List Happening) → ToldOfTrees (run es)
told_of_trees es x here = told_law x.origin x.superior x.history ((good_run es).legal (number_of x) x here)

-- ---- a node that left

left_member : (o : Origin) (t : Aaid) (h : List Entry) → has_left o t h ≡ true → is_member o t h ≡ true
left_member o t [] l = absurd (cc (l))
left_member o t (e ∷ h) l = elim (or_case (is_now t (digest o h).current && is_unchanged e.event) (has_left o t h) l) [
  | inl i ↦ later_member o t e h (member_head o t h (and_left (is_now t (digest o h).current) (is_unchanged e.event) i))
  | inr i ↦ later_member o t e h (left_member o t h i)
]

or_off : (x y : Bool) → (x || y) ≡ false → (x ≡ false) × (y ≡ false)
or_off false y h = (refl, h)
or_off true y h = absurd (cc (h))

bare_decision : (t : Aaid) (rs : List LogRec) → has_record (is_of_tree t) rs ≡ false → last_decision t rs ≡ None
bare_decision t [] h = refl
bare_decision t (r ∷ rs) h = let k = or_off (is_of_tree t r) (has_record (is_of_tree t) rs) h in go r k.0 (bare_decision t rs k.1)
  where
    go : (r : LogRec) → is_of_tree t r ≡ false → last_decision t rs ≡ None → last_decision t (r ∷ rs) ≡ None
    go (LogRec.Heuristic n j o) i rest = rw (i, last_decision) rest
    go (LogRec.Boot n) i rest = rest
    go (LogRec.Ready n j s cs) i rest = rest
    go (LogRec.Commit n j s cs) i rest = rest
    go (LogRec.Damage n j s o p cs) i rest = rest
    go (LogRec.End n j o) i rest = rest

bare_commit : (t : Aaid) (rs : List LogRec) → has_record (is_of_tree t) rs ≡ false → has_commit_of t rs ≡ false
bare_commit t [] h = refl
bare_commit t (r ∷ rs) h = let k = or_off (is_of_tree t r) (has_record (is_of_tree t) rs) h in go r k.0 (bare_commit t rs k.1)
  where
    go : (r : LogRec) → is_of_tree t r ≡ false → has_commit_of t rs ≡ false → has_commit_of t (r ∷ rs) ≡ false
    go (LogRec.Commit n j s cs) i rest = rw i rest
    go (LogRec.Heuristic n j o) i rest = rest
    go (LogRec.Boot n) i rest = rest
    go (LogRec.Ready n j s cs) i rest = rest
    go (LogRec.Damage n j s o p cs) i rest = rest
    go (LogRec.End n j o) i rest = rest

pub told_none : (t : Aaid) (x : Node) → decision x.origin t x.history ≡ None → decided x.origin t x.history ≡ false → rolled x.origin t x.history ≡ false → told_of t x ≡ None
told_none t x none uncommitted unrolled = grind (arith, none, uncommitted, unrolled)

pub left_untold : (es : List Happening) → LeftIsUntold (run es)
left_untold es t x here gone =
    let of : IsOf (run es) t x = record { here = here; of_tree = left_member x.origin t x.history gone } in
    let bare : has_logged (is_of_tree t) x ≡ false = left_is_bare es t x of gone in
    told_none t x (bare_decision t (records x.origin x.history) bare) (bare_commit t (records x.origin x.history) bare) (left_is_not_rolled es t x of gone)
