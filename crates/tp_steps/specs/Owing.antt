-- What a node owes a branch that it began: it goes on with the tree, or keeps its commitment, until the branch is done or has
-- left, or until it rolled or left itself. And what it says of a tree beside the associations.
use Rattle.std.specs.Prelude.{Bool, true, false, Option, Some, None}
use Rattle.tp_logrec.specs.declared.record.LogRec.{LogRec}

-- it keeps something for its damage
abbrev pub is_damage_rec : Option LogRec → Bool
is_damage_rec None = false
is_damage_rec (Some (LogRec.Boot n)) = false
is_damage_rec (Some (LogRec.Ready n k s cs)) = false
is_damage_rec (Some (LogRec.Heuristic n k o)) = false
is_damage_rec (Some (LogRec.Commit n k s cs)) = false
is_damage_rec (Some (LogRec.Damage n k s o r cs)) = true
is_damage_rec (Some (LogRec.End n k o)) = false
