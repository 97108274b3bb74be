use Rattle.std.proofs.Common.{◌∷◌, drop, drop-cons, suc, sym, ap, ◌∙◌}
use Rattle.tp_model.specs.declared.transaction.TxOut.{TxOut}
use Rattle.tp_draft.proofs.Drafts.{perform_halts}
use Rattle.tp_draft.proofs.draft.Draft.perform.Goals as goal

pub returns-in-Err : goal.returns-in-Err
returns-in-Err c =
    perform_halts c.in-Err.halt c.loop-out.self c.args.self.now c.perform_one.new.self c.perform_one.new.self c.out-item.result (drop (suc c.loop-out.out-index) c.args.outs.now) (drop c.loop-out.out-index c.args.outs.now) c.args.outs.now
    (drop-cons c.args.outs.now c.loop-out.out-index c.out-item.result c.loop-out-test.true ∙ ap (λ (o : TxOut). o ∷ drop (suc c.loop-out.out-index) c.args.outs.now) (sym c.out-item.is))
    c.loop-out.invariant
    c.in-Err.ensures
