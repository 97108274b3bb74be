use Rattle.std.proofs.Common.{◌++◌, ◌∷◌, [], ap, ◌∙◌, List, ℕ}
use Rattle.tp_model.specs.declared.out_line.OutLine.{OutLine}
use Rattle.tp_model.specs.Happenings.{crash_turn}
use Rattle.tp_world.proofs.Restarting.{named}
use Rattle.tp_world.proofs.StopTurns.{gives_behind}
use Rattle.tp_world.proofs.world.World.stopped.Goals as goal

pub returns : goal.returns
returns c = λ w s x tells starts place stop.
    let before = c.args.lines.now in
    let slot = c.index.result.now in
    let name = named w s c.args.self.now c.args.place c.args.lost.now c.args.journal x slot tells starts place stop c.requires c.index.ensures in
    gives_behind (OutLine.Stopped s c.args.fate ∷ []) (crash_turn w s) c.restart.result before c.push.new.self c.restart.new.lines c.restart.new.self
    ((c.in_ok-push.ensures {u = tt}).ok ∙ ap (λ (a : List ℕ). before ++ OutLine.Stopped a c.args.fate ∷ []) (c.name-site.ensures ∙ name))
    (c.restart.ensures w s x tells starts place stop)
