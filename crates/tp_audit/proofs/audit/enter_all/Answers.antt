use Rattle.std.proofs.Common.{◌≡◌, suc, ◌∷◌, length, subst, ap, arith}
use Rattle.tp_logrec.specs.declared.owner.Owner.{Owner}
use Rattle.tp_audit.proofs.Judging.{IsUnderWay, addr_is, next_under_way, ends_under_way}
use Rattle.tp_audit.proofs.audit.enter_all.Goals as goal

pub loop-owner-preserved : goal.loop-owner-preserved
loop-owner-preserved c =
    let o = c.in-Some.owner.now in
    let t = c.in-Some.summary.now in
    let rest = c.next.new.self in
    let before = c.loop-owner.ledger in
    let after = c.enter.new.self in
    let came : c.loop-owner.owner-iterator ≡ (o, t) ∷ rest = c.in-Some.ensures.steps in
    let longer : length c.loop-owner.owner-iterator ≡ suc (length rest) = ap length came in
    let room = c.loop-owner.invariant.room in
    let numbers = c.loop-owner.invariant.numbers in
    let used = c.enter.ensures.room in
    let counted = c.enter.ensures.count in
    record {
      next = tt;
      finite = tt;
      room = omega (arith, longer, room, used);
      numbers = omega (arith, longer, numbers, counted);
      under_way = λ es ls is keys.
          next_under_way c.args.site.now es ls before after o t rest
          (subst (λ its. IsUnderWay c.args.site.now es ls before its) came (c.loop-owner.invariant.under_way es ls is keys))
          (λ done e ledger site owner summary. c.enter.ensures.entered done e ledger (addr_is e c.args.site.now o site owner) (ap (λ (p : Owner). p.key) owner) summary);
    }

pub returns : goal.returns
returns c = λ es ls is keys.
    ends_under_way c.args.site.now es ls c.loop-owner.ledger
    (subst (λ its. IsUnderWay c.args.site.now es ls c.loop-owner.ledger its) c.in-None.ensures.steps.0 (c.loop-owner.invariant.under_way es ls is keys))
