-- In every legal history whose log was empty at first, the tree of a root that is current is none that its node draws later.
use Rattle.std.proofs.Common.{◌≡◌, ◌≤◌, ℕ, suc, Bool, true, false, refl, ap, sym, subst, ◌∙◌, arith, Option, Some, None, List, [], ◌∷◌, ◌||◌}
use Rattle.tp_names.specs.declared.identifiers.Aaid.{Aaid}
use Rattle.tp_names.specs.declared.identifiers.BranchId.{BranchId}
use Rattle.tp_names.specs.declared.identifiers.Addr.{Addr}
use Rattle.tp_model.specs.Parts.{Who, Origin, Event, Entry, Key, Root, Under, Current, Digest}
use Rattle.tp_model.specs.Dialogues.{is_ready, is_committing}
use Rattle.tp_model.specs.Node.{Move, fresh_current}
use Rattle.tp_model.specs.Events.{recovered_current, action}
use Rattle.tp_model.specs.History.{digest}
use Rattle.tp_model.specs.Legal.{IsLegal}
use Rattle.tp_model.specs.Questions.{is_crash}
use Rattle.tp_model.specs.Outcomes.{is_unchanged, rolls}
use Rattle.tp_steps.specs.Moves.{prelude}
use Rattle.tp_steps.specs.Traces.{is_old}
use Rattle.tp_steps.specs.Trees.{IsDrawn, IsTreed}
use Rattle.tp_histories.proofs.trees.Late.{late_law}
use Rattle.tp_steps.proofs.words.Treed.{drawn_old, old_kept}
use Rattle.tp_histories.proofs.trees.Knowing.{treed_event, old_prelude, current_none}
use Rattle.tp_runs.proofs.KnownForgot.{before_it}
use Rattle.tp_steps.proofs.every.Course.{tree_at, Course, Free, Held, Closed, Grew, Rooted, some_same, no_some}
use Rattle.tp_histories.proofs.trees.Entered.{Entered, Crashed, Begun, Plain, entered}
use Rattle.tp_runs.proofs.KnownKeys.{course_entry, crash_next}

root_not_under : (k : Key) (t u : Aaid) (b : BranchId) (a : Addr) → k ≡ Root t → k ≡ Under u b a → ⊥
root_not_under k t u b a h i = cc (h, i)

recovered_key : (v : Option Current) (c : Current) → recovered_current v ≡ Some c → (x : Current) × (v ≡ Some x) × (x.key ≡ c.key)
recovered_key None c h = absurd (cc (h))
recovered_key (Some x) c h = (x, refl, go (is_ready x.phase || is_committing x.phase) refl)
  where
    go : (b : Bool) → (is_ready x.phase || is_committing x.phase) ≡ b → x.key ≡ c.key
    go true i = grind (arith, h, i)
    go false i = absurd (grind (arith, h, i))

-- the tree that the node draws in the event
pub tree_drawn : (who : Who) (s next : Digest) (t : Aaid) → Root t ≡ Root (tree_at who s.boot s.drawn) → suc s.drawn ≤ next.drawn → IsDrawn who s next t
tree_drawn who s next t is more = record { count = suc s.drawn; is = root_tree t (tree_at who s.boot s.drawn) is; later = most (suc s.drawn); known = more }
  where
    root_tree : (x y : Aaid) → Root x ≡ Root y → x ≡ y
    root_tree x y h = cc (h)

    most : (n : ℕ) → n ≤ n
    most n = omega arith

root_step : (o : Origin) (up : Option Addr) (e : Entry) (h : List Entry) (t : Aaid) (u : Current) → IsLegal o up (e ∷ h)
    → ((x : Current) → (prelude o.who (digest o h) e.event).current ≡ Some x → x.key ≡ Root t → is_old o.who (prelude o.who (digest o h) e.event) t.mark ≡ true)
    → (digest o (e ∷ h)).current ≡ Some u → u.key ≡ Root t → is_old o.who (digest o (e ∷ h)) t.mark ≡ true
root_step o up e h t u legal before now root = go (course_entry o up e h legal)
  where
    s : Digest
    s = prelude o.who (digest o h) e.event

    m : Move
    m = action o.who (digest o h) e.event

    treed : IsTreed o.who s true t 0 s m
    treed = treed_event o.who (digest o h) e.event t 0 (late_law o up h legal.grown.3) legal.grown.0

    same_key : (v : Current) → m.next.current ≡ Some v → v.key ≡ Root t
    same_key v i = ap (λ (z : Current). z.key) (some_same v u (sym i ∙ now)) ∙ root

    kept : (x v : Current) → s.current ≡ Some x → m.next.current ≡ Some v → v.key ≡ x.key → is_old o.who m.next t.mark ≡ true
    kept x v i j key = old_kept o.who s m.next t.mark treed.boot treed.drawn (before x i (sym key ∙ same_key v j))

    go : Course o.who (rolls o.who (digest o h) e.event) (is_unchanged e.event) s.drawn s.current s.boot s.drawn m → is_old o.who m.next t.mark ≡ true
    go (Free i j f dr tl) = absurd (no_some m.next.current u j now)
    go (Held x v i j key st hm f dr kn) = kept x v i j key
    go (Closed x i j st at f dr) = absurd (no_some m.next.current u j now)
    go (Grew x v b i j key act q f cn dr kn) = kept x v i j key
    go (Rooted v j key act f dr kn was) = drawn_old o.who s m.next t treed.boot (tree_drawn o.who s m.next t (sym (same_key v j) ∙ key) dr)

pub root_law : (o : Origin) (up : Option Addr) (h : List Entry) (t : Aaid) (u : Current) → IsLegal o up h → o.start.records ≡ [] → (digest o h).current ≡ Some u → u.key ≡ Root t → is_old o.who (digest o h) t.mark ≡ true
root_law o up [] t u legal empty now root = absurd (no_some (digest o []).current u (current_none o empty) now)
root_law o up (e ∷ h) t u legal empty now root = go (entered o e h legal.grown.0) (λ x i k. root_law o up h t x (before_it o up e h legal) empty i k)
  where
    d : Digest
    d = digest o h

    go : Entered o e h → ((x : Current) → d.current ≡ Some x → x.key ≡ Root t → is_old o.who d t.mark ≡ true) → is_old o.who (digest o (e ∷ h)) t.mark ≡ true
    go (Crashed i) rest =
        let x = recovered_key d.current u (sym (crash_next o e h (ap is_crash i)) ∙ now) in
        subst (λ (v : Event). is_old o.who (action o.who d v).next t.mark ≡ true) (sym i) (old_prelude o.who d Event.Crash t.mark (rest x.0 x.1 (x.2 ∙ root)))
    go (Begun from r b a begun calm cur nil quiet sent) rest =
        root_step o up e h t u legal
        (λ x i k. absurd (root_not_under x.key t r b a.peer k (ap (λ (z : Current). z.key) (sym (some_same (fresh_current (Under r b a.peer)) x (sym cur ∙ i))))))
        now root
    go (Plain calm begun same) rest = root_step o up e h t u legal (λ x i k. old_prelude o.who d e.event t.mark (rest x (sym same ∙ i) k)) now root
