use Rattle.std.proofs.Common.{arith}
use Rattle.std.proofs.lemmas.Bool.Decides.{nat_tests}
use Rattle.tp_world_members.proofs.Answered.{runs_as_line}
use Rattle.tp_world_members.proofs.answers.answer.Goals as goal

pub returns : goal.returns
returns c = λ w h.
    runs_as_line c.args.before w c.args.node c.args.request c.args.lines.now c.echo.new.lines c.play.new.lines c.play.result c.play.new.self
    (let small = c.if-before-ge-MOST_ANSWERS.false in grind (arith, nat_tests, small)) c.in_ok-echo.ensures (c.play.ensures w h)
