use Rattle.std.proofs.Common.{◌++◌, ℕ, List, Some, sym, ap, ◌∙◌, append-nil}
use Rattle.tp_keys.proofs.print.write_long.Goals as goal

pub returns-clause-part : goal.returns-clause-part
returns-clause-part g c = λ before h.
    let text = c.args.text.now in (
      text,
      sym (append-nil text) ∙ ap (λ (t : List ℕ). text ++ t) (sym c.truncate.ensures),
      c.in_ok-write_all.ensures.whole before h ∙ ap (λ (t : List ℕ). Some (before ++ t)) c.as_slice.ensures,
    )
