use Rattle.std.proofs.Common.{◌≡◌, true, false, rules}
use Rattle.tp_model.specs.LineReading.{units}
use Rattle.tp_transcript.proofs.OutForms.{permitted_well, permitted_wrong}
use Rattle.tp_transcript.proofs.out_values.read_permitted.Goals as goal

pub returns-in-Ok : goal.returns-in-Ok
returns-in-Ok c = permitted_well (units c.args.word.now) c.in_ok-bits.bits c.in-Ok.units c.in_ok-bits.ensures c.in-Ok.ensures.value (search rules)

pub returns-in-Err : goal.returns-in-Err
returns-in-Err c = permitted_wrong (units c.args.word.now) c.in_ok-bits.bits c.in-Err.field-0 c.in_ok-bits.ensures (λ good. let e : false ≡ true = c.in-Err.ensures.permitted.1 good in absurd cc)
