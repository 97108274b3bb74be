use Rattle.tp_bound.proofs.Lookups.{put_here, put_elsewhere, without_here, without_elsewhere, made_ascends}
use Rattle.tp_bound.proofs.laws.a_write_changes_its_key_alone.Goals as goal

pub returns : goal.returns
returns c = record { put = put_here; put_leaves = put_elsewhere; without = without_here; without_leaves = without_elsewhere; ascends = made_ascends }
