use Rattle.std.proofs.Common.{◌+◌, ◌∷◌, [], ap, sym}
use Rattle.tp_model.specs.LineReading.{number, words_in, read_by, request_readers}
use Rattle.tp_schedule.specs.Answers.{read_as}
use Rattle.tp_schedule.proofs.lemmas.Readings.{plain, both_reads}
use Rattle.tp_schedule.proofs.line_reading.read_do.Goals as goal

pub returns-in-Some : goal.returns-in-Some
returns-in-Some c =
    let is = c.in-Some.ensures in
    rw (is.1.1, c.both.ensures) (
    both_reads (number ((48 + c.in-Some.node) ∷ [])) (read_by request_readers (words_in c.in-Some.rest.now)) _ _ (plain _ _ (sym (ap read_as is.1.0))) c.read_request.ensures
    )

pub returns : goal.returns
returns c =
    rw (c.in-Some-next_word.ensures, c.both-2.ensures) (
    both_reads (number c.in-Some-next_word.node.now) (read_by request_readers (words_in c.in-Some-next_word.rest.now)) _ _ (plain _ _ c.read_number.ensures) c.read_request-request.ensures
    )
