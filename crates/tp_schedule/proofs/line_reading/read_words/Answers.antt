use Rattle.std.proofs.Common.{◌≡◌, Option, ap, sym, ◌∙◌, ◌∷◌}
use Rattle.tp_model.specs.LineReading.{words_in, read_by, line_readers}
use Rattle.tp_schedule.specs.declared.schedule_words.LineWord.{LineWord}
use Rattle.tp_schedule.specs.Answers.{read_as}
use Rattle.tp_schedule.specs.Keywords.{behind, line_word_text, line_word_list, line_reader}
use Rattle.tp_schedule.proofs.lemmas.Readings.{by_table}
use Rattle.tp_schedule.proofs.line_reading.read_words.Goals as goal

pub returns-in-None : goal.returns-in-None
returns-in-None c =
    let ws = words_in c.args.rest.now in
    let look = λ (o : Option LineWord). behind line_reader o ws in
    let table : read_by line_readers (c.args.word.now ∷ words_in c.args.rest.now) ≡ look c.line_word.result =
    by_table line_word_text line_reader line_word_list c.args.word.now ws
    ∙ ap look (sym c.line_word.ensures) in
    sym (ap read_as (table ∙ ap look c.in-None.is))

pub returns-in-Some : goal.returns-in-Some
returns-in-Some c =
    let ws = words_in c.args.rest.now in
    let look = λ (o : Option LineWord). behind line_reader o ws in
    let table : read_by line_readers (c.args.word.now ∷ words_in c.args.rest.now) ≡ look c.line_word.result =
    by_table line_word_text line_reader line_word_list c.args.word.now ws
    ∙ ap look (sym c.line_word.ensures) in
    rw (table, c.in-Some.is) c.read_line_of.ensures
