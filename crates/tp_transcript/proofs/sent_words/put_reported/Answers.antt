use Rattle.tp_text_builder.proofs.Added.{adds_then}
use Rattle.tp_transcript.proofs.sent_words.put_reported.Goals as goal

pub returns : goal.returns
returns c = adds_then c.word.ensures c.report.ensures
