use Rattle.std.proofs.Common.{sym, ◌∙◌, ap, arith}
use Rattle.std.proofs.lemmas.List.{drop_all}
use Rattle.tp_logrec.specs.Order.{are_among}
use Rattle.tp_logrec.proofs.Sames.{among_none}
use Rattle.tp_logrec.proofs.same.are_among.Goals as goal

pub returns : goal.returns
returns c =
    let l = c.loop-child in
    c.is_empty.ensures ∙ sym (l.invariant ∙ ap (are_among l.left.now) (drop_all l.child-index c.args.all.now (omega arith)) ∙ among_none l.left.now)
