use Rattle.std.proofs.Common.{sym}
use Rattle.tp_schedule.proofs.Values.{no_units}
use Rattle.tp_schedule.proofs.value.+units_from.Goals as goal

pub returns-in_default-empty-clause-value : goal.returns-in_default-empty-clause-value
returns-in_default-empty-clause-value t c = sym (no_units c.args.letters.now c.args.word.now c.in_default-empty.len_below)
