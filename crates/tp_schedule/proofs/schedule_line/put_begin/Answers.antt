use Rattle.std.proofs.Common.{◌∷◌, [], codes, refl}
use Rattle.tp_model.specs.Words.{decimal, units_word}
use Rattle.tp_text_builder.proofs.Joined.{joined}
use Rattle.tp_schedule.proofs.schedule_line.put_begin.Goals as goal

pub returns : goal.returns
returns c = joined (codes "begin-dialogue") (decimal c.args.peer ∷ []) (units_word c.args.units ∷ []) refl c.put_one.ensures c.space.ensures c.units.ensures
