-- The summary of a replay, of what it counts. What a world is, and what closes its transcript, is no matter of this file.
use Rattle.std.specs.Prelude.{ℕ, suc, ◌≡◌, ◌≤◌, Bool, true, false, List, ◌++◌, codes}
use Rattle.tp_model.specs.declared.out_line.OutLine.{OutLine}
use Rattle.tp_generate.specs.declared.summary.Endings.{Endings}
use Rattle.tp_model.specs.Generator.{counted, is_agreed_commit, is_agreed_rollback, is_mixed, is_open, summary_line}

-- so many lines and frames, and these closing lines
abbrev pub summary_of_counts : ℕ → ℕ → List OutLine → List ℕ
summary_of_counts lines frames closing =
    summary_line (codes "lines") lines
    ++ summary_line (codes "frames") frames
    ++ summary_line (codes "commit") (counted is_agreed_commit closing)
    ++ summary_line (codes "rollback") (counted is_agreed_rollback closing)
    ++ summary_line (codes "mixed") (counted is_mixed closing)
    ++ summary_line (codes "open") (counted is_open closing)

-- ---- while they are counted

-- the counts of these lines
pub record AreCounts (ls : List OutLine) (e : Endings) : Type 0 where
  pub commits : e.commits ≡ counted is_agreed_commit ls
  pub rollbacks : e.rollbacks ≡ counted is_agreed_rollback ls
  pub mixed : e.mixed ≡ counted is_mixed ls
  pub open_trees : e.open_trees ≡ counted is_open ls

-- none of them is more
pub record IsUpTo (n : ℕ) (e : Endings) : Type 0 where
  pub commits : e.commits ≤ n
  pub rollbacks : e.rollbacks ≤ n
  pub mixed : e.mixed ≤ n
  pub open_trees : e.open_trees ≤ n

abbrev pub and_one : Bool → ℕ → ℕ
and_one true n = suc n
and_one false n = n

-- with one line more
abbrev pub with_line : Endings → OutLine → Endings
with_line e l = record {
  commits = and_one (is_agreed_commit l) e.commits;
  rollbacks = and_one (is_agreed_rollback l) e.rollbacks;
  mixed = and_one (is_mixed l) e.mixed;
  open_trees = and_one (is_open l) e.open_trees;
}
