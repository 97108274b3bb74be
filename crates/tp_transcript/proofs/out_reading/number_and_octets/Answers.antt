use Rattle.tp_model.specs.LineReading.{number, words_in}
use Rattle.tp_schedule.specs.Answers.{pair}
use Rattle.tp_transcript.specs.OutWords.{all_octets}
use Rattle.tp_schedule.proofs.lemmas.Readings.{plain, both_reads, two_alone}
use Rattle.tp_transcript.proofs.out_reading.number_and_octets.Goals as goal

pub returns-in-Some : goal.returns-in-Some
returns-in-Some c =
    rw (c.both.ensures, two_alone pair number all_octets (words_in c.args.rest.now) _ _ c.in-Some.ensures) (
    both_reads (number c.in-Some.first.now) (all_octets c.in-Some.second.now) _ _ (plain _ _ c.read_number.ensures) c.read_all_octets.ensures
    )
