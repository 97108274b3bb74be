use Rattle.std.proofs.Common.{◌∙◌, sym, ap, Option, Ok, List, ℕ, inl, inr, refl}
use Rattle.tp_model.specs.LineReading.{form_of}
use Rattle.tp_schedule.specs.Answers.{read_as}
use Rattle.tp_schedule.proofs.Values.{capital_none, decode_same, ok_of, hex_refused}
use Rattle.tp_schedule.proofs.value.read_hex.Goals as goal

pub returns-then-has_capital : goal.returns-then-has_capital
returns-then-has_capital c = sym (ap (λ (o : Option (List ℕ)). read_as (form_of o)) (capital_none c.args.word.now (sym c.has_capital.ensures ∙ c.if-has_capital.true)))

pub returns-in-Ok : goal.returns-in-Ok
returns-in-Ok c =
    let none = sym c.has_capital.ensures ∙ c.if-has_capital.false in
    ap Ok c.from_vec.ensures ∙ sym (ap (λ (o : Option (List ℕ)). read_as (form_of o)) (decode_same c.args.word.now none ∙ ap ok_of c.in-Ok.ensures.ok))

pub returns-in-Err : goal.returns-in-Err
returns-in-Err c =
    let none = sym c.has_capital.ensures ∙ c.if-has_capital.false in
    rw c.hex_fault.ensures (elim c.in-Err.ensures.err [
      | inl e ↦ rw e refl
      | inr e ↦ rw (decode_same c.args.word.now none ∙ ap ok_of e) (hex_refused c.in-Err.fault)
    ])
