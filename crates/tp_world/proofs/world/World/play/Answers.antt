use Rattle.std.proofs.Common.{◌≡◌, false, arith}
use Rattle.tp_model.specs.Transcript.{is_silent}
use Rattle.tp_world.proofs.Lines.{plays_any, speaks_of_none}
use Rattle.tp_world.proofs.world.World.play.Goals as goal

pub returns-then-is_silent : goal.returns-then-is_silent
returns-then-is_silent c = λ w h.
    speaks_of_none w c.args.line.now c.args.lines.now c.args.lines.now c.args.self.now (grind (arith, c.is_silent.ensures))

pub returns : goal.returns
returns c = λ w h.
    let shown : is_silent c.args.line.now ≡ false = grind (arith, c.is_silent.ensures) in
    plays_any w c.args.line.now c.shown_line.result c.args.lines.now c.shown_line.new.lines c.shown_line.new.self shown h.run (c.shown_line.ensures w h.run h.mirrors shown)
