use Rattle.tp_model.specs.LineReading.{words_in}
use Rattle.tp_transcript.specs.OutReading.{hex_word}
use Rattle.tp_transcript.proofs.OutForms.{one_same}
use Rattle.tp_transcript.proofs.out_reading.one_hex.Goals as goal

pub returns-in-Some : goal.returns-in-Some
returns-in-Some c = rw (one_same hex_word (words_in c.args.rest.now) _ c.in-Some.ensures) c.read_hex.ensures
