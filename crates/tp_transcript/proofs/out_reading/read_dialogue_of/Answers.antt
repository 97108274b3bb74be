use Rattle.std.proofs.Common.{◌≡◌, Err, rules, ap, sym, ◌∙◌}
use Rattle.tp_names.specs.declared.identifiers.Aaid.{Aaid}
use Rattle.tp_names.specs.declared.identifiers.BranchId.{BranchId}
use Rattle.tp_records.specs.declared.dialogue.Holder.{Holder}
use Rattle.tp_records.specs.declared.dialogue.DialogueRecord.{DialogueRecord}
use Rattle.tp_model.specs.LineReading.{words_in}
use Rattle.tp_transcript.specs.OutWords.{aaid, branch, holder, three_words}
use Rattle.tp_transcript.specs.OutReading.{trio}
use Rattle.tp_schedule.proofs.lemmas.Readings.{passed, mapped, plain}
use Rattle.tp_transcript.proofs.OutForms.{three_words_form}
use Rattle.tp_transcript.proofs.out_reading.read_dialogue_of.Goals as goal

pub returns-in_err-aaid-in-Begin : goal.returns-in_err-aaid-in-Begin
returns-in_err-aaid-in-Begin c =
    let f = λ (p : (Aaid × BranchId) × Holder). DialogueRecord.Begin p.0.0 p.0.1 p.1 in
    let ws = words_in c.args.rest.now in
    let is : c.from_residual-in_err-aaid-in-Begin.result ≡ Err c.in_err-aaid-in-Begin.field-0.0 = search rules in
    rw c.in-Begin.is (passed f (three_words trio aaid branch holder ws) _ c.kin_and_holder.result _ (three_words_form DialogueRecord.Begin aaid branch holder ws) (plain _ _ c.kin_and_holder.ensures) (is ∙ ap (mapped f) (sym c.in_err-aaid-in-Begin.was)))

pub returns-in_ok-aaid-in-Begin : goal.returns-in_ok-aaid-in-Begin
returns-in_ok-aaid-in-Begin c =
    let f = λ (p : (Aaid × BranchId) × Holder). DialogueRecord.Begin p.0.0 p.0.1 p.1 in
    let ws = words_in c.args.rest.now in
    rw c.in-Begin.is (passed f (three_words trio aaid branch holder ws) _ c.kin_and_holder.result _ (three_words_form DialogueRecord.Begin aaid branch holder ws) (plain _ _ c.kin_and_holder.ensures) (ap (mapped f) (sym c.in_ok-aaid-in-Begin.was)))
