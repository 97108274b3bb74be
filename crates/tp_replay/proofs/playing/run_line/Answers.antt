use Rattle.tp_replay.proofs.Ended.{shows_line, line_ends}
use Rattle.tp_replay.proofs.playing.run_line.Goals as goal

pub returns-in-Ok-clause-shows : goal.returns-in-Ok-clause-shows
returns-in-Ok-clause-shows g c = λ w h.
    shows_line _ c.args.at w c.args.world.now c.play.new.self c.args.line.now c.clear.new.self c.play.new.lines c.clear.ensures ((c.in-Ok.ensures {u = tt}).plays w h)

pub returns-in-Err-clause-shows : goal.returns-in-Err-clause-shows
returns-in-Err-clause-shows g c = λ w h.
    line_ends _ c.args.at w c.args.world.now c.play.new.self c.args.line.now c.in-Err.fault c.clear.new.self c.play.new.lines c.unplayed.result c.unplayed.ensures ((c.in-Err.ensures {u = tt}).plays w h)
