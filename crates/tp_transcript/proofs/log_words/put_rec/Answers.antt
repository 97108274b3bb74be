use Rattle.std.proofs.Common.{ap}
use Rattle.tp_model.specs.declared.out_line.LogWords.{LogWords}
use Rattle.tp_model.specs.Words.{words}
use Rattle.tp_model.specs.OutText.{log_words}
use Rattle.tp_text_builder.proofs.Added.{adds_same}
use Rattle.tp_transcript.proofs.log_words.put_rec.Goals as goal

pub returns : goal.returns
returns c = adds_same c.put_log.ensures (ap (λ (r : LogWords). words (log_words r)) c.shown.ensures)
