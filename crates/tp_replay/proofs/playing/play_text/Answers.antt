use Rattle.std.proofs.Common.{◌≡◌, Bool, Ok, subst, refl}
use Rattle.std.specs.Prelude.{IfSome}
use Rattle.tp_model.specs.LineReading.{Blank, Says, read_line}
use Rattle.tp_schedule.specs.Answers.{answered, put_into}
use Rattle.tp_replay.proofs.Ended.{blank_shows, said_shows}
use Rattle.tp_replay.proofs.playing.play_text.Goals as goal

pub returns-in-Ok-false-clause-shown : goal.returns-in-Ok-false-clause-shown
returns-in-Ok-false-clause-shown g c = λ w h.
    let line = c.read_line_into.new.line in
    let is : Blank ≡ read_line c.args.text.now = subst (λ (b : Bool). IfSome (answered (put_into (Ok b) line)) (λ reading. reading ≡ read_line c.args.text.now)) c.in-Ok-false.field-0-test (c.in-Ok-false.ensures {u = tt}) in
    blank_shows _ c.args.at w c.args.world.now c.args.world.now (read_line c.args.text.now) c.args.out.now c.args.out.now is h refl refl

pub returns-in-Ok-true-clause-shown : goal.returns-in-Ok-true-clause-shown
returns-in-Ok-true-clause-shown g c = λ w h.
    let line = c.read_line_into.new.line in
    let is : Says line ≡ read_line c.args.text.now = subst (λ (b : Bool). IfSome (answered (put_into (Ok b) line)) (λ reading. reading ≡ read_line c.args.text.now)) c.in-Ok-true.field-0-test (c.in-Ok-true.ensures {u = tt}) in
    said_shows _ c.args.at w c.args.world.now c.play_line.new.world line (read_line c.args.text.now) c.play_line.result c.args.out.now c.play_line.new.out is (c.play_line.ensures.shown w h)
