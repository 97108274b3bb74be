use Rattle.tp_text_builder.proofs.Added.{adds_then}
use Rattle.tp_transcript.proofs.log_words.put_key.Goals as goal

pub returns : goal.returns
returns c = adds_then c.aaid.ensures (adds_then c.space.ensures c.maybe_branch.ensures)
