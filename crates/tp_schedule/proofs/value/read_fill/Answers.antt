use Rattle.std.proofs.Common.{sym, ap}
use Rattle.tp_schedule.specs.Answers.{read_as}
use Rattle.tp_schedule.proofs.Values.{fill_alone}
use Rattle.tp_schedule.proofs.value.read_fill.Goals as goal

pub returns-then-word-ne2 : goal.returns-then-word-ne2
returns-then-word-ne2 c = sym (ap read_as (fill_alone c.args.word.now c.if-word-ne2.true))
