use Rattle.std.proofs.Common.{◌≡◌, ◌++◌, [], Bool, Ok, subst, refl}
use Rattle.std.specs.Prelude.{IfSome}
use Rattle.tp_model.specs.LineReading.{Blank, Says, read_line}
use Rattle.tp_model.specs.OutText.{out_texts}
use Rattle.tp_model.specs.Transcript.{echo}
use Rattle.tp_schedule.specs.Answers.{answered, put_into}
use Rattle.tp_replay.proofs.Ended.{blank_shows, said_plays}
use Rattle.tp_replay.proofs.playing.play_unwritten.Goals as goal

pub returns-in-Ok-false-clause-played : goal.returns-in-Ok-false-clause-played
returns-in-Ok-false-clause-played g c = λ w h.
    let line = c.read_line_into.new.line in
    let is : Blank ≡ read_line c.args.text.now = subst (λ (b : Bool). IfSome (answered (put_into (Ok b) line)) (λ reading. reading ≡ read_line c.args.text.now)) c.in-Ok-false.field-0-test (c.in-Ok-false.ensures {u = tt}) in
    ([], blank_shows _ c.args.at w c.args.world.now c.args.world.now (read_line c.args.text.now) [] [] is h refl refl)

pub returns-in-Ok-true-clause-played : goal.returns-in-Ok-true-clause-played
returns-in-Ok-true-clause-played g c = λ w h.
    let line = c.read_line_into.new.line in
    let is : Says line ≡ read_line c.args.text.now = subst (λ (b : Bool). IfSome (answered (put_into (Ok b) line)) (λ reading. reading ≡ read_line c.args.text.now)) c.in-Ok-true.field-0-test (c.in-Ok-true.ensures {u = tt}) in
    said_plays _ c.args.at w c.args.world.now c.run_line.new.world line (read_line c.args.text.now) c.run_line.result (out_texts (echo line ++ c.run_line.new.lines)) is (c.run_line.ensures.shows w h)
