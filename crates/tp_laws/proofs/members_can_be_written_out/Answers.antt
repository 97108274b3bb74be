use Rattle.tp_members.proofs.Expanded.{expansion, same_world, same_closing, writes, speaks_of_none}
use Rattle.tp_laws.proofs.members_can_be_written_out.Goals as goal

pub returns : goal.returns
returns c = record { shown = expansion; world = same_world; closing = same_closing; written = writes; none = speaks_of_none }
