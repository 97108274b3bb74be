-- What the page says of the trees that a world has, in the words of the world.
use Rattle.std.proofs.Common.{◌≡◌, ◌⊎◌, inl, inr, Bool, true, false, refl, ap, sym, subst, ◌∙◌, Option, Some, None, List, if◌then◌else◌}
use Rattle.std.specs.Prelude.{not}
use Rattle.tp_names.specs.declared.identifiers.Aaid.{Aaid}
use Rattle.tp_names.specs.declared.outcome.Outcome.{Outcome}
use Rattle.tp_model.specs.Outcomes.{has_left, decision, decided, rolled, completed_none}
use Rattle.tp_model.specs.Trees.{stays}
use Rattle.tp_model.specs.World.{World, Node, number_of, find_node}
use Rattle.tp_model.specs.Happenings.{Happening, run}
use Rattle.tp_model.specs.Promises.{IsOf, OneOutcome, ReportFree, HasCommitted, HasDecided, told_of, is_root}
use Rattle.tp_histories.specs.Fates.{has_ready_in}
use Rattle.tp_model.specs.History.{records}
use Rattle.tp_reports.specs.Reports.{ReportFreeCommits}
use Rattle.tp_tree_commit.specs.TreeCommit.{Vote, Ending, Part, HasLeft, HasCompleted, AllCompleted, told, RestCompletes, IsUndisturbed, IsAtRest}
use Rattle.tp_tree_commit.specs.TreeCommit.{OneOutcome as OneOutcomeOf, ReportFree as ReportFreeOf}
use Rattle.tp_refinement.specs.Refinement.{vote_of, ending_of, part_of, part_in, tree_in, SaysOfWorlds, SettledRests}
use Rattle.tp_failure_free.specs.DrainedTrees.{IsSettledTree}
use Rattle.tp_histories.proofs.worlds.Nodes.{find_is}
use Rattle.tp_reports.proofs.ReportFree.{clear_is_committed}
use Rattle.tp_failure_free.proofs.DrainedCommits.{tree_commits}
use Rattle.tp_tree_commit.proofs.Rested.{completed_rests}
use Rattle.tp_refinement.proofs.Happens.{runs_on_the_page}
use Rattle.tp_refinement.proofs.Parts.{part_there, Seen, seen}
use Rattle.tp_refinement.proofs.Around.{above_root, left_is, committed_is}

there : (w : World) (t : Aaid) (x : Node) → IsOf w t x → tree_in w t (number_of x) ≡ Some (part_of t x)
there w t x of = ap (part_in t) of.here ∙ part_there t x of.of_tree

-- its user is told the same on the page
told_same : (t : Aaid) (x : Node) → told (part_of t x) ≡ told_of t x
told_same t x = go (decision x.origin t x.history) (decided x.origin t x.history) (rolled x.origin t x.history)
  where
    go : (d : Option Outcome) (c b : Bool) → elim d as (λ _. Option Outcome) [ Some o ↦ Some o | None ↦ elim (ending_of c b) as (λ _. Option Outcome) [ Ending.Open ↦ None | Ending.Committed ↦ Some Outcome.Commit | Ending.Rolled ↦ Some Outcome.Rollback ] ]
        ≡ elim d as (λ _. Option Outcome) [ Some u ↦ Some u | None ↦ if c then Some Outcome.Commit else if b then Some Outcome.Rollback else None ]
    go (Some u) c b = refl
    go None true b = refl
    go None false true = refl
    go None false false = refl

has_decided : (t : Aaid) (x : Node) → (decision x.origin t x.history ≡ None → ⊥) → HasDecided t x
has_decided t x some = go (decision x.origin t x.history) refl
  where
    go : (d : Option Outcome) → decision x.origin t x.history ≡ d → HasDecided t x
    go None i = absurd (some i)
    go (Some o) i = (o, i)

one_outcome : (w : World) → ((t : Aaid) → OneOutcomeOf (tree_in w t)) → OneOutcome w
one_outcome w page t x y o p hx hy tx ty differ = elim (page t (number_of x) (number_of y) (part_of t x) (part_of t y) o p (there w t x hx) (there w t y hy) (told_same t x ∙ tx) (told_same t y ∙ ty) differ) [
  | inl d ↦ inl (has_decided t x d)
  | inr d ↦ inr (has_decided t y d)
]

-- a node that stays has not left
not_left : (t : Aaid) (y : Node) → stays t y ≡ true → HasLeft (part_of t y) → ⊥
not_left t y stay gone = go (has_left y.origin t y.history) refl (has_ready_in t (records y.origin y.history))
  where
    by : (r : Bool) → vote_of false r ≡ Vote.Left → ⊥
    by true e = cc (e)
    by false e = cc (e)

    go : (l : Bool) → has_left y.origin t y.history ≡ l → Bool → ⊥
    go true i r = cc (ap not (sym i) ∙ stay)
    go false i r = by (has_ready_in t (records y.origin y.history)) (sym (ap (λ (l : Bool). vote_of l (has_ready_in t (records y.origin y.history))) i) ∙ gone)

has_committed : (t : Aaid) (y : Node) → HasCompleted (part_of t y) → HasCommitted t y
has_committed t y done = record { logged = go (decided y.origin t y.history) refl; complete = done.2 }
  where
    by : (b : Bool) → ending_of false b ≡ Ending.Committed → ⊥
    by true e = cc (e)
    by false e = cc (e)

    go : (c : Bool) → decided y.origin t y.history ≡ c → decided y.origin t y.history ≡ true
    go true i = i
    go false i = absurd (by (rolled y.origin t y.history) (sym (ap (λ (c : Bool). ending_of c (rolled y.origin t y.history)) i) ∙ done.0))

completed : (w : World) (t : Aaid) → ReportFreeOf (tree_in w t) → (x : Node) → IsOf w t x → is_root t x ≡ true → completed_none x.origin t x.history ≡ true → (y : Node) → IsOf w t y → stays t y ≡ true → HasCompleted (part_of t y)
completed w t page x hx root clear y hy stay = elim (page (number_of x) (part_of t x) (there w t x hx) (above_root t x root) clear (number_of y) (part_of t y) (there w t y hy)) [
  | inl gone ↦ absurd (not_left t y stay gone)
  | inr done ↦ done
]

report_free : (w : World) → ((t : Aaid) → ReportFreeOf (tree_in w t)) → ReportFree w
report_free w page t x hx root clear y hy stay = sym (told_same t y) ∙ (completed w t (page t) x hx root clear y hy stay).1

report_free_commits : (w : World) → ((t : Aaid) → ReportFreeOf (tree_in w t)) → ReportFreeCommits w
report_free_commits w page t free y hy stay = has_committed t y (completed w t (page t) free.root free.of free.drew free.clear y hy stay)

rest_completes : (w : World) (t : Aaid) → RestCompletes (tree_in w t) → IsUndisturbed (tree_in w t) → IsAtRest (tree_in w t) → (y : Node) → IsOf w t y → stays t y ≡ true → HasCommitted t y
rest_completes w t page calm rest y hy stay = elim (page calm rest (number_of y) (part_of t y) (there w t y hy)) [ inl gone ↦ absurd (not_left t y stay gone) | inr done ↦ has_committed t y done ]

pub says_of_worlds : (w : World) → SaysOfWorlds w
says_of_worlds w = record { one_outcome = one_outcome w; report_free = report_free w; report_free_commits = report_free_commits w; rest_completes = rest_completes w }

-- ---- a settled tree

all_completed : (es : List Happening) (t : Aaid) → IsSettledTree (run es) t → AllCompleted (tree_in (run es) t)
all_completed es t settled n p h = subst (λ (q : Part). HasLeft q ⊎ HasCompleted q) (sym s.is) (go (has_left y.origin t y.history) refl)
  where
    s : Seen t (find_node (run es).nodes n) p
    s = seen t (find_node (run es).nodes n) p h

    y : Node
    y = s.node

    of : IsOf (run es) t y
    of = record { here = ap (find_node (run es).nodes) (find_is (run es).nodes n y s.found) ∙ s.found; of_tree = s.member }

    go : (l : Bool) → has_left y.origin t y.history ≡ l → HasLeft (part_of t y) ⊎ HasCompleted (part_of t y)
    go true i = inl (left_is t y i)
    go false i =
        let c : HasCommitted t y = tree_commits es t settled y of (ap not i) in
        inr (committed_is t y c.logged, told_same t y ∙ clear_is_committed es t y of c.complete, c.complete)

pub settled_rests : (es : List Happening) → SettledRests (run es)
settled_rests es t settled = completed_rests (tree_in (run es) t) (runs_on_the_page es t) (all_completed es t settled)
