use Rattle.std.proofs.Common.{◌++◌}
use Rattle.tp_model.specs.LineReading.{Says}
use Rattle.tp_model.specs.OutText.{out_texts}
use Rattle.tp_model.specs.Transcript.{echo}
use Rattle.tp_replay.proofs.Ended.{shows_after}
use Rattle.tp_replay.proofs.playing.play_line.Goals as goal

pub returns-in-Ok-write_played-clause-shown : goal.returns-in-Ok-write_played-clause-shown
returns-in-Ok-write_played-clause-shown g c = λ w h.
    shows_after _ c.args.at w c.args.world.now c.run_line.new.world (Says c.args.line.now) c.args.out.now (out_texts (echo c.args.line.now ++ c.run_line.new.lines)) c.write_played.new.out (c.in-Ok-write_played.ensures {u = tt}).ok
    ((c.in-Ok.ensures {u = tt}).shows w h)
