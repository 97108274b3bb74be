use Rattle.std.proofs.Common.{◌∷◌, drop, drop-cons, suc, sym, ap, ◌∙◌}
use Rattle.tp_model.specs.declared.recovery.Kept.{Kept}
use Rattle.tp_draft.proofs.Retries.{retry_halts}
use Rattle.tp_draft.proofs.draft.Draft.retry_each.Goals as goal

pub returns-in-Err : goal.returns-in-Err
returns-in-Err c =
    let at = c.loop-one.one-index in
    let ks = c.args.kept.now in
    retry_halts c.in-Err.halt c.loop-one.self c.args.self.now c.perform.new.self c.perform.new.self c.one-item.result c.as_slice.result.now (drop (suc at) ks) (drop at ks) ks
    (c.as_slice.ensures ∙ c.in_ok-outs.ensures {u = tt})
    (drop-cons ks at c.one-item.result c.loop-one-test.true ∙ ap (λ (k : Kept). k ∷ drop (suc at) ks) (sym c.one-item.is))
    c.loop-one.invariant
    (c.in-Err.ensures {u = tt})
