use Rattle.std.proofs.Common.{◌∷◌, [], codes, refl}
use Rattle.tp_model.specs.Words.{decimal, octets_word}
use Rattle.tp_text_builder.proofs.Joined.{joined}
use Rattle.tp_schedule.proofs.schedule_line.put_data.Goals as goal

pub returns : goal.returns
returns c = joined (codes "data") (decimal c.args.peer ∷ []) (octets_word c.args.octets.now ∷ []) refl c.put_one.ensures c.space.ensures c.octets.ensures
