-- A Ready or a Done that is only noted on its branch: the node waits for others, and nothing else follows.
use Rattle.std.specs.Prelude.{ℕ, ◌&&◌, ◌||◌, not, Bool, false, Option, Some, None}
use Rattle.tp_names.specs.declared.outcome.Report.{Report}
use Rattle.tp_model.specs.Dialogues.{is_active, is_committing}
use Rattle.tp_model.specs.Parts.{Current, Digest}
use Rattle.tp_commit.specs.Waiting.{waits_beside, owes_beside, with_counted, with_ended}

-- the node has not asked, or waits for the Ready of another branch
abbrev pub only_counts : Digest → ℕ → Bool
only_counts d p = elim d.current [ None ↦ false | Some c ↦ is_active c.phase && (not c.asked || waits_beside c.branches p) ]

-- its user owes done, or another branch does
abbrev pub only_ends : Digest → ℕ → Bool
only_ends d p = elim d.current [ None ↦ false | Some c ↦ is_committing c.phase && (c.owes || owes_beside c.branches p) ]

abbrev pub counted_in : Option Current → ℕ → Option Current
counted_in None p = None
counted_in (Some c) p = Some (record c { branches = with_counted c.branches p })

abbrev pub ended_in : Option Current → ℕ → Report → Option Current
ended_in None p r = None
ended_in (Some c) p r = Some (record c { branches = with_ended c.branches p r })
