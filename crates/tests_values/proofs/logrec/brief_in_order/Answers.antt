use Rattle.std.proofs.Common.{◌≡◌, ◌+◌, true, [], ◌∷◌, ◌++◌, take, arith, sym, ap, ◌∙◌}
use Rattle.std.specs.Prelude.{◌&&◌}
use Rattle.std.proofs.lemmas.List.{take_more}
use Rattle.tp_logrec.specs.Order.{follows, follow_from, all_follow}
use Rattle.tp_logrec.proofs.BriefOrders.{follow_from-append}
use Rattle.tests_values.proofs.logrec.brief_in_order.Goals as goal

pub loop-i-preserved : goal.loop-i-preserved
loop-i-preserved c =
    let rs = c.args.list.now in
    let i = c.loop-i.i in
    let r = c.index-list-i.result in
    let more : take (i + 1) rs ≡ take i rs ++ r ∷ [] = take_more rs i r (omega arith) ∙ ap (λ q. take i rs ++ q ∷ []) (sym c.index-list-i.is) in
    let next : follows (take i rs) r ≡ true = sym c.follows.ensures ∙ c.if-not-follows.false in
    ap all_follow more ∙ follow_from-append [] (take i rs) (r ∷ []) ∙ ap (λ b. b && follow_from (take i rs) (r ∷ [])) c.loop-i.invariant ∙ ap (λ b. b && true) next
