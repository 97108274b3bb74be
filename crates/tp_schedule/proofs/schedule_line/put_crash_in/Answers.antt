use Rattle.std.proofs.Common.{◌∷◌, [], codes}
use Rattle.tp_model.specs.Words.{decimal, hex}
use Rattle.tp_model.specs.LineText.{action_words}
use Rattle.tp_text_builder.proofs.Joined.{joined}
use Rattle.tp_schedule.proofs.HasWord.{action_has}
use Rattle.tp_schedule.proofs.schedule_line.put_crash_in.Goals as goal

pub returns : goal.returns
returns c =
    joined
    (codes "crash")
    (c.args.site.now ∷ codes "at" ∷ decimal c.args.at ∷ codes "fill" ∷ hex (c.args.fill ∷ []) ∷ codes "in" ∷ [])
    (action_words c.args.action.now)
    (action_has c.args.action.now)
    c.put_stop.ensures c.space.ensures c.put_action.ensures
