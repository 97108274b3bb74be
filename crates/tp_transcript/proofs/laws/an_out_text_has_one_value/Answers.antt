use Rattle.tp_transcript.proofs.OutSaid.{one_value}
use Rattle.tp_transcript.proofs.laws.an_out_text_has_one_value.Goals as goal

pub returns : goal.returns
returns c = one_value
