-- Sentence 2: where the root is complete with no report, every node that did not leave has completed so.
use Rattle.std.proofs.Common.{◌≡◌, ◌⊎◌, inl, inr, ℕ, refl, ap, sym, ◌∙◌, Option, Some, None}
use Rattle.std.specs.Prelude.{◌≢◌}
use Rattle.tp_names.specs.declared.outcome.Outcome.{Outcome}
use Rattle.tp_tree_commit.specs.TreeCommit.{Ending, Part, Tree, IsRoot, HasLeft, HasCommitted, IsClear, IsOver, told, HasCompleted, Reached, ReportFree}
use Rattle.tp_tree_commit.proofs.Kept.{Kept}
use Rattle.tp_tree_commit.proofs.Runs.{kept}
use Rattle.tp_tree_commit.proofs.Walking.{Downward, from_above, the_root}

over : (s : Tree) → Kept s → (r : ℕ) (t : Part) → s r ≡ Some t → IsRoot t → IsClear t → Downward s IsOver
over s k r t top root clear = record {
  top = λ n p h i. inr (ap (λ (x : Part). x.clear) (sym (the_root s k r n t p top h root i)) ∙ clear);
  down = λ m n q p at h i o. elim o [ inl gone ↦ inl ((k.left m q at gone).1 n p h i) | inr c ↦ (k.clears m q at c).2 n p h i ];
}

-- what is complete with no report was told commit
told_commit : (p : Part) → HasCommitted p → p.decision ≢ Some Outcome.Rollback → told p ≡ Some Outcome.Commit
told_commit p done whole = go p.decision refl
  where
    by : Option Outcome → Ending → Option Outcome
    by d e = elim d [ Some o ↦ Some o | None ↦ elim e [ Ending.Open ↦ None | Ending.Committed ↦ Some Outcome.Commit | Ending.Rolled ↦ Some Outcome.Rollback ] ]

    go : (d : Option Outcome) → p.decision ≡ d → told p ≡ Some Outcome.Commit
    go None i = ap (λ (d : Option Outcome). by d p.ending) i ∙ ap (λ (e : Ending). by None e) done
    go (Some Outcome.Commit) i = ap (λ (d : Option Outcome). by d p.ending) i
    go (Some Outcome.Rollback) i = absurd (whole i)

-- a node whose superior waits for it no more
pub completed : (s : Tree) → Kept s → (n : ℕ) (p : Part) → s n ≡ Some p → IsOver p → HasLeft p ⊎ HasCompleted p
completed s k n p h (inl gone) = inl gone
completed s k n p h (inr c) = let l = k.clears n p h c in inr (l.0, told_commit p l.0 l.1, c)

pub report_free : (s : Tree) → Reached s → ReportFree s
report_free s reached r t top root clear n p h =
    let k : Kept s = kept s reached in
    completed s k n p h (from_above s k IsOver (over s k r t top root clear) n p h)
