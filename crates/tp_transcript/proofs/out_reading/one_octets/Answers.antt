use Rattle.tp_model.specs.LineReading.{words_in}
use Rattle.tp_transcript.specs.OutWords.{all_octets}
use Rattle.tp_transcript.proofs.OutForms.{one_same}
use Rattle.tp_transcript.proofs.out_reading.one_octets.Goals as goal

pub returns-in-Some : goal.returns-in-Some
returns-in-Some c = rw (one_same all_octets (words_in c.args.rest.now) _ c.in-Some.ensures) c.read_all_octets.ensures
