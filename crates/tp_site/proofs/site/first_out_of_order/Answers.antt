use Rattle.std.proofs.Common.{◌≡◌, ◌+◌, true, List, [], ◌∷◌, ◌++◌, map, take, arith, refl, sym, subst, ap, ◌∙◌}
use Rattle.tp_logrec.specs.declared.record.LogRec.{LogRec}
use Rattle.tp_logrec.specs.Order.{follows, all_follow}
use Rattle.tp_logrec.specs.OrderCheck.{IsCheckOf}
use Rattle.tp_journal.proofs.Disorders.{in_order_with}
use Rattle.tp_site.proofs.Starting.{told_pushed, first_told}
use Rattle.tp_site.proofs.site.first_out_of_order.Goals as goal

pub returns-then-not-follows : goal.returns-then-not-follows
returns-then-not-follows g c =
    let told = (g.K.Keeper.standing c.args.keeper.now).told in
    let rs = map (λ q. q.rec) (take c.loop-i.i told) in
    first_told told c.loop-i.i c.rec-rec.result.now (omega arith) c.rec-rec.ensures
    (sym (c.follows.ensures rs c.loop-i.invariant.0) ∙ c.if-not-follows.true) c.loop-i.invariant.1

pub loop-i-preserved : goal.loop-i-preserved
loop-i-preserved g c =
    let told = (g.K.Keeper.standing c.args.keeper.now).told in
    let i = c.loop-i.i in
    let r = c.rec-rec.result.now in
    let rs : List LogRec = map (λ q. q.rec) (take i told) in
    let more : rs ++ r ∷ [] ≡ map (λ q. q.rec) (take (i + 1) told) = told_pushed told i r rs (rs ++ r ∷ []) (omega arith) c.rec-rec.ensures refl refl in
    let next : follows rs r ≡ true = sym (c.follows.ensures rs c.loop-i.invariant.0) ∙ c.if-not-follows.false in (
      subst (λ qs. IsCheckOf qs c.take.new.self) more ((c.in_ok-take.ensures {u = tt}).ok rs c.loop-i.invariant.0),
      sym (ap all_follow more) ∙ in_order_with rs r c.loop-i.invariant.1 next,
    )
