use Rattle.std.proofs.Common.{◌≡◌, Option, ap, sym, ◌∙◌}
use Rattle.tp_model.specs.LineReading.{words_in, read_by, request_readers}
use Rattle.tp_schedule.specs.declared.schedule_words.RequestWord.{RequestWord}
use Rattle.tp_schedule.specs.Answers.{read_as}
use Rattle.tp_schedule.specs.Keywords.{behind, request_word_text, request_word_list, request_reader}
use Rattle.tp_schedule.proofs.lemmas.Readings.{by_table}
use Rattle.tp_schedule.proofs.line_reading.read_request.Goals as goal

pub returns-in-None : goal.returns-in-None
returns-in-None c =
    let ws = words_in c.in-Some.rest.now in
    let look = λ (o : Option RequestWord). behind request_reader o ws in
    let table : read_by request_readers (words_in c.args.bytes.now) ≡ look c.request_word.result =
    ap (read_by request_readers) c.in-Some.ensures
    ∙ by_table request_word_text request_reader request_word_list c.in-Some.word.now ws
    ∙ ap look (sym c.request_word.ensures) in
    sym (ap read_as (table ∙ ap look c.in-None.is))

pub returns-in-Some-request_word : goal.returns-in-Some-request_word
returns-in-Some-request_word c =
    let ws = words_in c.in-Some.rest.now in
    let look = λ (o : Option RequestWord). behind request_reader o ws in
    let table : read_by request_readers (words_in c.args.bytes.now) ≡ look c.request_word.result =
    ap (read_by request_readers) c.in-Some.ensures
    ∙ by_table request_word_text request_reader request_word_list c.in-Some.word.now ws
    ∙ ap look (sym c.request_word.ensures) in
    rw (table, c.in-Some-request_word.is) c.read_request_of.ensures
