use Rattle.std.proofs.Common.{◌≡◌, ◌+◌, true, false, [], ◌∷◌, ◌++◌, take, drop, arith, sym, subst, ap, ◌∙◌}
use Rattle.std.proofs.lemmas.List.{get_or_default, take_more, drop_more, take-append-drop}
use Rattle.tp_logrec.specs.Order.{follows, all_follow}
use Rattle.tp_logrec.specs.OrderCheck.{IsCheckOf}
use Rattle.tp_journal.proofs.Disorders.{in_order_with, out_of_order_at}
use Rattle.tp_journal.proofs.disorder.first_out_of_order.Goals as goal

pub returns-then-not-follows : goal.returns-then-not-follows
returns-then-not-follows c =
    let rs = c.args.list.now in
    let i = c.loop-i.i in
    let r = c.index-list-i.result in
    let broken : follows (take i rs) r ≡ false = sym (c.follows.ensures (take i rs) c.loop-i.invariant.0) ∙ c.if-not-follows.true in
    let parts : rs ≡ take i rs ++ r ∷ drop (i + 1) rs = sym (take-append-drop i rs) ∙ ap (λ q. take i rs ++ q) (drop_more rs i r (omega arith)) ∙ ap (λ q. take i rs ++ q ∷ drop (i + 1) rs) (sym c.index-list-i.is) in
    (ap all_follow parts ∙ out_of_order_at (take i rs) r (drop (i + 1) rs) broken, omega arith, c.loop-i.invariant.1, λ d. ap (λ q. follows (take i rs) q) (get_or_default rs i d r (omega arith) ∙ sym c.index-list-i.is) ∙ broken)

pub loop-i-preserved : goal.loop-i-preserved
loop-i-preserved c =
    let rs = c.args.list.now in
    let i = c.loop-i.i in
    let r = c.index-list-i.result in
    let more : take (i + 1) rs ≡ take i rs ++ r ∷ [] = take_more rs i r (omega arith) ∙ ap (λ q. take i rs ++ q ∷ []) (sym c.index-list-i.is) in
    let next : follows (take i rs) r ≡ true = sym (c.follows.ensures (take i rs) c.loop-i.invariant.0) ∙ c.if-not-follows.false in (
      subst (λ qs. IsCheckOf qs c.take.new.self) (sym more) ((c.in_ok-take.ensures {u = tt}).ok (take i rs) c.loop-i.invariant.0),
      ap all_follow more ∙ in_order_with (take i rs) r c.loop-i.invariant.1 next,
    )
