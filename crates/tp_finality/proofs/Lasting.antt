-- From a root that was complete with no report, or left, down the tree as it is later.
use Rattle.std.proofs.Common.{◌≡◌, ◌≤◌, ◌<◌, ◌⊎◌, inl, inr, ℕ, suc, zero, Bool, true, false, refl, ap, sym, subst, ◌∙◌, arith, List, [], ◌∷◌, ◌++◌, ◌==◌, length}
use Rattle.std.specs.List.{slice_index_or}
use Rattle.std.proofs.lemmas.Bool.Decides.{nat_tests}
use Rattle.std.proofs.Math.Nat.{le_refl}
use Rattle.tp_names.specs.declared.identifiers.Aaid.{Aaid}
use Rattle.tp_names.specs.Same.{is_aaid, is_name}
use Rattle.tp_model.specs.Outcomes.{has_left, completed_none}
use Rattle.tp_model.specs.Trees.{stays}
use Rattle.tp_model.specs.World.{Node, number_of, site_of}
use Rattle.tp_model.specs.Happenings.{Happening, run}
use Rattle.tp_model.specs.Promises.{IsOf, is_root}
use Rattle.tp_failure_free.specs.DrainedTrees.{IsSettledTree}
use Rattle.tp_outcomes.specs.Starting.{times_in}
use Rattle.tp_outcomes.specs.Staying.{StaysSo}
use Rattle.tp_finality.specs.Lasting.{CommittedForGood, ClosedForGood}
use Rattle.tp_steps.proofs.lemmas.Equality.{and_right}
use Rattle.tp_steps.proofs.words.Leaves.{aaid_same}
use Rattle.tp_histories.proofs.worlds.Good.{good_run}
use Rattle.tp_histories.proofs.worlds.Unique.{unique_run}
use Rattle.tp_runs.proofs.Hanging.{hangs}
use Rattle.tp_agreement.proofs.Agreed.{no_less, rank, less}
use Rattle.tp_agreement.proofs.RollsUp.{left_down}
use Rattle.tp_reports.proofs.ClearedLaw.{IsCleared, cleared_law}
use Rattle.tp_reports.proofs.ReportFree.{clear_is_committed, clear_below, commit_closes}
use Rattle.tp_failure_free.proofs.DrainedCommits.{tree_commits}
use Rattle.tp_outcomes.proofs.Staying.{outcomes_stay}
use Rattle.tp_outcomes.proofs.TreesListed.{listed_once}

-- ---- the root of a tree that is listed

listed : (t : Aaid) (ts : List Aaid) (k : ℕ) (u : Aaid) → k < length ts → slice_index_or ts k u ≡ u → u ≡ t → suc 0 ≤ times_in t ts
listed t [] k u l at is = absurd (omega (arith, l))
listed t (v ∷ ts) zero u l at is = let one : is_aaid t v ≡ true = ap (is_aaid t) (at ∙ is) ∙ aaid_same t in subst (λ (b : Bool). suc 0 ≤ elim b as (λ _. ℕ) [ true ↦ suc (times_in t ts) | false ↦ times_in t ts ]) (sym one) (omega arith)
listed t (v ∷ ts) (suc k) u l at is = more (is_aaid t v) (listed t ts k u (less_by l) at is)
  where
    less_by : suc k < suc (length ts) → k < length ts
    less_by i = omega (arith, i)

    more : (b : Bool) → suc 0 ≤ times_in t ts → suc 0 ≤ elim b as (λ _. ℕ) [ true ↦ suc (times_in t ts) | false ↦ times_in t ts ]
    more true i = omega (arith, i)
    more false i = i

pub root_settled : (more es : List Happening) (t : Aaid) → IsSettledTree (run es) t → (y : Node) → IsOf (run (more ++ es)) t y → is_root t y ≡ true → (has_left y.origin t y.history ≡ true) ⊎ (completed_none y.origin t y.history ≡ true)
root_settled more es t settled y of root = go (has_left x.origin t x.history) refl
  where
    r : (x : Node) × IsOf (run es) t x × (is_root t x ≡ true)
    r = let any = settled.started in (listed_once es).rooted t (listed t (run es).trees any.0 any.1 any.2 any.3 any.4)

    x : Node
    x = r.0

    mine : (t.mark.node == number_of y) ≡ true
    mine = and_right (is_name t.owner (site_of y)) (t.mark.node == number_of y) root

    first : (t.mark.node == number_of x) ≡ true
    first = and_right (is_name t.owner (site_of x)) (t.mark.node == number_of x) r.2

    same : number_of y ≡ number_of x
    same = grind (arith, nat_tests, mine, first)

    stay : StaysSo t x y
    stay = outcomes_stay more es t x y r.1.here of.here same

    go : (b : Bool) → has_left x.origin t x.history ≡ b → (has_left y.origin t y.history ≡ true) ⊎ (completed_none y.origin t y.history ≡ true)
    go true i = inl (stay.leaves i)
    go false i = inr (stay.clears (tree_commits es t settled x r.1 (rw i refl)).complete)

-- ---- down from it

settled_down : (fs : List Happening) (t : Aaid) → ((x : Node) → IsOf (run fs) t x → is_root t x ≡ true → (has_left x.origin t x.history ≡ true) ⊎ (completed_none x.origin t x.history ≡ true)) → (k : ℕ) (y : Node) (b : Bool) → is_root t y ≡ b → rank fs y ≤ k → IsOf (run fs) t y
    → (has_left y.origin t y.history ≡ true) ⊎ (completed_none y.origin t y.history ≡ true)
settled_down fs t top k y true i le of = top y of i
settled_down fs t top zero y false i le of = let u = hangs fs t y of i in absurd (no_less (rank fs u.superior) (rank fs y) u.before le)
settled_down fs t top (suc k) y false i le of =
    let u = hangs fs t y of i in
    elim (settled_down fs t top k u.superior (is_root t u.superior) refl (less (rank fs u.superior) (rank fs y) k u.before le) u.branch.superior) [
      | inl gone ↦ inl (left_down fs t u.id u.superior y u.branch gone)
      | inr clear ↦ clear_below fs t u.id u.superior y u.branch clear
    ]

complete_for_good : (more es : List Happening) (t : Aaid) → IsSettledTree (run es) t → (y : Node) → IsOf (run (more ++ es)) t y → stays t y ≡ true → completed_none y.origin t y.history ≡ true
complete_for_good more es t settled y of stay = elim (settled_down (more ++ es) t (root_settled more es t settled) (rank (more ++ es) y) y (is_root t y) refl (le_refl (rank (more ++ es) y)) of) [
  | inl gone ↦ absurd (grind (arith, gone, stay))
  | inr clear ↦ clear
]

pub committed_for_good : (more es : List Happening) → CommittedForGood more es
committed_for_good more es t settled y of stay = record { logged = c.clear_decided (c.completed done); complete = done }
  where
    done : completed_none y.origin t y.history ≡ true
    done = complete_for_good more es t settled y of stay

    c : IsCleared y.origin y.history t
    c = cleared_law y.origin y.superior y.history t ((good_run (more ++ es)).fresh (number_of y) y of.here) ((good_run (more ++ es)).legal (number_of y) y of.here) ((unique_run (more ++ es)).once (number_of y) y of.here)

pub closed_for_good : (more es : List Happening) → ClosedForGood more es
closed_for_good more es t settled = commit_closes (more ++ es) t (λ y of stay. clear_is_committed (more ++ es) t y of (complete_for_good more es t settled y of stay))
