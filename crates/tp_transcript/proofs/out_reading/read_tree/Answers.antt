use Rattle.std.proofs.Common.{ap, refl, ◌∙◌}
use Rattle.tp_model.specs.LineReading.{words_in}
use Rattle.tp_transcript.specs.OutReading.{read_tree}
use Rattle.tp_transcript.proofs.OutForms.{tree_found, tree_refused}
use Rattle.tp_transcript.proofs.out_reading.read_tree.Goals as goal

pub returns-in-Ok : goal.returns-in-Ok
returns-in-Ok c =
    rw (ap read_tree c.in-Some.ensures ∙ tree_found c.in-Some.word.now (words_in c.in-Some.rest.now) c.in-Ok.aaid c.in-Ok.ensures) c.read_tree_words.ensures

pub returns-in-Err : goal.returns-in-Err
returns-in-Err c =
    rw (ap read_tree c.in-Some.ensures ∙ tree_refused c.in-Some.word.now (words_in c.in-Some.rest.now) _ c.in-Err.ensures) refl
