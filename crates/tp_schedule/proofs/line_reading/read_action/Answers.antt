use Rattle.std.proofs.Common.{◌≡◌, Option, ap, sym, ◌∙◌}
use Rattle.tp_model.specs.LineReading.{words_in, read_by, action_readers}
use Rattle.tp_schedule.specs.declared.schedule_words.ActionWord.{ActionWord}
use Rattle.tp_schedule.specs.Answers.{read_as}
use Rattle.tp_schedule.specs.Keywords.{behind, action_word_text, action_word_list, action_reader}
use Rattle.tp_schedule.proofs.lemmas.Readings.{by_table}
use Rattle.tp_schedule.proofs.line_reading.read_action.Goals as goal

pub returns-in-None : goal.returns-in-None
returns-in-None c =
    let ws = words_in c.in-Some.rest.now in
    let look = λ (o : Option ActionWord). behind action_reader o ws in
    let table : read_by action_readers (words_in c.args.bytes.now) ≡ look c.action_word.result =
    ap (read_by action_readers) c.in-Some.ensures
    ∙ by_table action_word_text action_reader action_word_list c.in-Some.word.now ws
    ∙ ap look (sym c.action_word.ensures) in
    sym (ap read_as (table ∙ ap look c.in-None.is))

pub returns-in-Some-action_word : goal.returns-in-Some-action_word
returns-in-Some-action_word c =
    let ws = words_in c.in-Some.rest.now in
    let look = λ (o : Option ActionWord). behind action_reader o ws in
    let table : read_by action_readers (words_in c.args.bytes.now) ≡ look c.action_word.result =
    ap (read_by action_readers) c.in-Some.ensures
    ∙ by_table action_word_text action_reader action_word_list c.in-Some.word.now ws
    ∙ ap look (sym c.action_word.ensures) in
    rw (table, c.in-Some-action_word.is) c.read_action_of.ensures
