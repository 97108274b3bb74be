-- Down from a root that completed with no report.
use Rattle.std.proofs.Common.{◌≡◌, ◌≤◌, ◌⊎◌, inl, inr, ℕ, suc, zero, Bool, true, false, refl, subst, arith, List, Some, [], ◌∷◌, ◌&&◌}
use Rattle.tp_names.specs.declared.identifiers.Aaid.{Aaid}
use Rattle.tp_model.specs.Outcomes.{has_left}
use Rattle.tp_model.specs.History.{records}
use Rattle.tp_model.specs.World.{Node, number_of}
use Rattle.tp_model.specs.Happenings.{Happening, run}
use Rattle.tp_model.specs.Promises.{IsOf, is_root, ReportFree, told_of, HasCommitted}
use Rattle.tp_reports.specs.Clearing.{has_cleared}
use Rattle.tp_reports.specs.Reports.{ClearIsCommitted, ClearBelow, IsReportFree, ReportFreeCommits, ReportFreeCloses}
use Rattle.tp_histories.proofs.worlds.Good.{good_run}
use Rattle.tp_histories.proofs.worlds.Unique.{unique_run}
use Rattle.tp_runs.proofs.Hanging.{hangs}
use Rattle.tp_agreement.proofs.Agreed.{no_less, rank, one_root, less}
use Rattle.tp_agreement.proofs.RollsUp.{left_down}
use Rattle.tp_reports.proofs.ClearedLaw.{IsCleared, cleared_law, cleared_told, completed_told}
use Rattle.tp_reports.proofs.ClearedDown.{cleared_down}
use Rattle.tp_names.specs.declared.outcome.Outcome.{Outcome}
use Rattle.tp_model.specs.declared.out_line.OutLine.{OutLine}
use Rattle.tp_model.specs.Trees.{stays, members_of, all_told, some_told, deciders, agreed_line, closing_line}
use Rattle.tp_reports.proofs.Finished.{cleared_completed}
use Rattle.tp_agreement.proofs.Mixed.{Stands, member_of}
use Rattle.std.proofs.Math.Nat.{le_refl}

pub clear_is_committed : (es : List Happening) → ClearIsCommitted (run es)
clear_is_committed es t x here done = completed_told es t x here done

cleared_at : (es : List Happening) (t : Aaid) (x : Node) → IsOf (run es) t x → IsCleared x.origin x.history t
cleared_at es t x here = cleared_law x.origin x.superior x.history t ((good_run es).fresh (number_of x) x here.here) ((good_run es).legal (number_of x) x here.here) ((unique_run es).once (number_of x) x here.here)

pub has_committed : (es : List Happening) (t : Aaid) (x : Node) → IsOf (run es) t x → has_cleared t (records x.origin x.history) ≡ true → HasCommitted t x
has_committed es t x here clear = record {
  logged = (cleared_at es t x here).clear_decided clear;
  complete = cleared_completed x.origin x.superior x.history t ((good_run es).fresh (number_of x) x here.here) ((good_run es).legal (number_of x) x here.here) ((unique_run es).once (number_of x) x here.here) clear;
}

pub clear_below : (es : List Happening) → ClearBelow (run es)
clear_below es t b x y branch done = elim (cleared_down es t b x y branch ((cleared_at es t x branch.superior).completed done)) [ inl i ↦ inl i | inr i ↦ inr (has_committed es t y branch.child i).complete ]

-- each node of the tree left, or its commitment ended clear
clear_down : (es : List Happening) (t : Aaid) (x : Node) → IsOf (run es) t x → is_root t x ≡ true → has_cleared t (records x.origin x.history) ≡ true → (k : ℕ) (y : Node) (b : Bool) → is_root t y ≡ b → rank es y ≤ k → IsOf (run es) t y
    → (has_left y.origin t y.history ≡ true) ⊎ (has_cleared t (records y.origin y.history) ≡ true)
clear_down es t x here root done k y true i le of =
    let same : x ≡ y = one_root es t x y here of root i in
    inr (subst (λ (v : Node). has_cleared t (records v.origin v.history) ≡ true) same done)
clear_down es t x here root done zero y false i le of = let u = hangs es t y of i in absurd (no_less (rank es u.superior) (rank es y) u.before le)
clear_down es t x here root done (suc k) y false i le of =
    let u = hangs es t y of i in
    elim (clear_down es t x here root done k u.superior (is_root t u.superior) refl (less (rank es u.superior) (rank es y) k u.before le) u.branch.superior) [
      | inl gone ↦ inl (left_down es t u.id u.superior y u.branch gone)
      | inr clear ↦ cleared_down es t u.id u.superior y u.branch clear
    ]

free_down : (es : List Happening) (t : Aaid) → IsReportFree (run es) t → (y : Node) → IsOf (run es) t y → stays t y ≡ true → has_cleared t (records y.origin y.history) ≡ true
free_down es t free y of stay = elim (clear_down es t free.root free.of free.drew ((cleared_at es t free.root free.of).completed free.clear) (rank es y) y (is_root t y) refl (le_refl (rank es y)) of) [
  | inl gone ↦ absurd (grind (arith, gone, stay))
  | inr clear ↦ clear
]

free_told : (es : List Happening) (t : Aaid) → IsReportFree (run es) t → (y : Node) → IsOf (run es) t y → stays t y ≡ true → told_of t y ≡ Some Outcome.Commit
free_told es t free y of stay = cleared_told y.origin y.superior y.history t ((good_run es).fresh (number_of y) y of.here) ((good_run es).legal (number_of y) y of.here) ((unique_run es).once (number_of y) y of.here) (free_down es t free y of stay)

pub report_free : (es : List Happening) → ReportFree (run es)
report_free es t x here root done y of stay = free_told es t (record { root = x; of = here; drew = root; clear = done }) y of stay

pub report_free_commits : (es : List Happening) → ReportFreeCommits (run es)
report_free_commits es t free y of stay = has_committed es t y of (free_down es t free y of stay)

-- ---- the closing line

all_in : (t : Aaid) (ns : List Node) → ((y : Node) → Stands y ns → stays t y ≡ true → told_of t y ≡ Some Outcome.Commit) → all_told Outcome.Commit t ns ≡ true
all_in t [] all = refl
all_in t (y ∷ ns) all = go (stays t y) refl (all_in t ns (λ z s. all z (inr s)))
  where
    go : (v : Bool) → stays t y ≡ v → all_told Outcome.Commit t ns ≡ true → all_told Outcome.Commit t (y ∷ ns) ≡ true
    go false i rest = rw (i, rest) refl
    go true i rest = let told = all y (inl refl) i in rw (i, rest) (rw told refl)

none_in : (t : Aaid) (ns : List Node) → ((y : Node) → Stands y ns → stays t y ≡ true → told_of t y ≡ Some Outcome.Commit) → some_told Outcome.Rollback t ns ≡ false
none_in t [] all = refl
none_in t (y ∷ ns) all = go (stays t y) refl (none_in t ns (λ z s. all z (inr s)))
  where
    go : (v : Bool) → stays t y ≡ v → some_told Outcome.Rollback t ns ≡ false → some_told Outcome.Rollback t (y ∷ ns) ≡ false
    go false i rest = rw (i, rest) refl
    go true i rest = let told = all y (inl refl) i in rw (i, rest) (rw told refl)

-- where every node that stays is told commit
pub commit_closes : (es : List Happening) (t : Aaid) → ((y : Node) → IsOf (run es) t y → stays t y ≡ true → told_of t y ≡ Some Outcome.Commit) → closing_line t (members_of t (run es).nodes) ≡ OutLine.Agreed t Outcome.Commit
commit_closes es t told =
    let ns : List Node = members_of t (run es).nodes in
    let all : (y : Node) → Stands y ns → stays t y ≡ true → told_of t y ≡ Some Outcome.Commit = λ y s stay. told y (member_of es t y s) stay in
    closes t ns (all_in t ns all) (none_in t ns all)
  where
    closes : (t : Aaid) (ns : List Node) → all_told Outcome.Commit t ns ≡ true → some_told Outcome.Rollback t ns ≡ false → closing_line t ns ≡ OutLine.Agreed t Outcome.Commit
    closes t ns h i = go (some_told Outcome.Commit t ns)
      where
        go : (v : Bool) → elim (v && some_told Outcome.Rollback t ns) as (λ _. OutLine) [ true ↦ OutLine.Mixed t (deciders t ns) | false ↦ agreed_line t ns ] ≡ OutLine.Agreed t Outcome.Commit
        go false = rw (h, agreed_line) refl
        go true = rw i (rw (h, agreed_line) refl)

pub report_free_closes : (es : List Happening) → ReportFreeCloses (run es)
report_free_closes es t free = commit_closes es t (λ y of stay. free_told es t free y of stay)
