use Rattle.std.proofs.Common.{◌≡◌, ◌++◌, ◌∷◌, [], ◌∙◌, false, sym, ap, subst, arith, List}
use Rattle.tp_model.specs.declared.out_line.OutLine.{OutLine}
use Rattle.tp_model.specs.LineText.{line_text}
use Rattle.tp_model.specs.Transcript.{is_silent}
use Rattle.tp_world.specs.World.{Plays}
use Rattle.tp_world.proofs.Lines.{echoed, faulty, speaks_of_none}
use Rattle.tp_world_sites.proofs.Handed.{err_is}
use Rattle.tp_world.proofs.world.World.line.Goals as goal

pub returns-then-is_silent : goal.returns-then-is_silent
returns-then-is_silent c = λ w h.
    speaks_of_none w c.args.line.now [] [] c.args.self.now (grind (arith, c.is_silent.ensures))

pub returns-in_err-play : goal.returns-in_err-play
returns-in_err-play c = λ w h.
    let l = c.args.line.now in
    let f = c.in_err-play.field-0.0 in
    subst (λ r. Plays w l r c.play.new.self) (sym (err_is c.from_residual-in_err-play.result f c.from_residual-in_err-play.ensures.1))
    (faulty w l f c.echo.new.lines c.play.new.lines c.play.new.self c.play.new.self (c.in_err-play.ensures {u = tt} w h))

pub returns : goal.returns
returns c = λ w h.
    let l = c.args.line.now in
    let shown : is_silent l ≡ false = grind (arith, c.is_silent.ensures) in
    let first : c.echo.new.lines ≡ OutLine.Echo (line_text l) ∷ [] = c.in_ok-echo.ensures {u = tt} ∙ ap (λ (ls : List OutLine). ls ++ OutLine.Echo (line_text l) ∷ []) c.new-lines.ensures in
    echoed w l c.echo.new.lines c.play.new.lines c.play.new.self shown first (c.in_ok-play.ensures {u = tt} w h)
