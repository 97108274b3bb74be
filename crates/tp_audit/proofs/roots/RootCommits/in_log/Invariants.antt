use Rattle.std.proofs.Common.{◌≡◌, ◌||◌, drop}
use Rattle.tp_names.specs.declared.identifiers.Aaid.{Aaid}
use Rattle.tp_model.specs.Promises.{has_record}
use Rattle.tp_audit.specs.Roots.{is_root_commit, has_tree}
use Rattle.tp_audit.proofs.roots.RootCommits.in_log.Given as goal

abbrev pub invariant-loop-rec : goal.invariant-loop-rec
invariant-loop-rec l = (t : Aaid) → (has_tree l.roots t || has_record (is_root_commit t) (drop l.rec-index l.list)) ≡ has_record (is_root_commit t) l.list
