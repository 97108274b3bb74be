use Rattle.std.proofs.Common.{take, [], ◌∷◌, ◌++◌, arith, ap, sym, ◌∙◌}
use Rattle.std.proofs.lemmas.List.{take_more}
use Rattle.tp_logrec.specs.Order.{boots, greatest}
use Rattle.tp_logrec.specs.OrderCheck.{greatest_after}
use Rattle.tp_logrec.proofs.Stands.{greatest_after_is}
use Rattle.tp_logrec.proofs.summary.greatest_boot.Goals as goal

pub loop-rec-preserved : goal.loop-rec-preserved
loop-rec-preserved c =
    let rs = c.args.list.now in
    let i = c.loop-rec.rec-index in
    let r = c.rec-item.result in
    c.boot_after-greatest.ensures ∙ ap (λ g. greatest_after g r) c.loop-rec.invariant ∙ sym (greatest_after_is (take i rs) r)
    ∙ ap (λ q. greatest (boots (take i rs ++ q ∷ []))) c.rec-item.is
    ∙ ap (λ xs. greatest (boots xs)) (sym (take_more rs i r (omega arith)))
