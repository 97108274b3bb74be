use Rattle.std.proofs.Common.{◌∷◌, [], codes}
use Rattle.tp_model.specs.Words.{decimal}
use Rattle.tp_model.specs.LineText.{request_words}
use Rattle.tp_text_builder.proofs.Joined.{joined}
use Rattle.tp_schedule.proofs.HasWord.{request_has}
use Rattle.tp_schedule.proofs.schedule_line.put_do.Goals as goal

pub returns : goal.returns
returns c = joined (codes "do") (decimal c.args.node ∷ []) (request_words c.args.request.now) (request_has c.args.request.now) c.put_one.ensures c.space.ensures c.put_request.ensures
