use Rattle.std.proofs.Common.{◌∷◌, [], codes, refl}
use Rattle.tp_model.specs.Words.{decimal, outcome_word}
use Rattle.tp_text_builder.proofs.Joined.{joined}
use Rattle.tp_schedule.proofs.schedule_line.put_heur.Goals as goal

pub returns : goal.returns
returns c = joined (codes "heur") (decimal c.args.node ∷ []) (outcome_word c.args.outcome ∷ []) refl c.put_one.ensures c.space.ensures c.outcome.ensures
