use Rattle.std.proofs.Common.{◌≡◌, ◌+◌, ◌∷◌, ◌∙◌, sym, ap, subst, drop, map}
use Rattle.std.proofs.lemmas.List.{drop_more}
use Rattle.tp_site.specs.Outs.{out_of}
use Rattle.tp_world.specs.Settled.{GivesOuts}
use Rattle.tp_world.proofs.Outputs.{going_on, going_fault}
use Rattle.tp_world_sites.proofs.Handed.{err_is}
use Rattle.tp_world.proofs.world.World.give_all.Goals as goal

pub loop-out-preserved : goal.loop-out-preserved
loop-out-preserved c =
    let outs = c.as_slice-out-items.result.now in
    let i = c.loop-out.out-index in
    let o = c.out-item.result in
    let next : map out_of (drop i outs) ≡ out_of o ∷ map out_of (drop (i + 1) outs) = ap (map out_of) (drop_more outs i o c.loop-out-test.true ∙ ap (λ x. x ∷ drop (i + 1) outs) (sym c.out-item.is)) in
    going_on c.args.from.now (out_of o) c.args.outs.now (map out_of (drop i outs)) (map out_of (drop (i + 1) outs)) c.args.lines.now c.loop-out.lines c.give.new.lines
    c.args.self.now c.loop-out.self c.give.new.self next c.loop-out.invariant (c.in_ok-give.ensures {u = tt})

pub returns-in_err-give : goal.returns-in_err-give
returns-in_err-give c =
    let outs = c.as_slice-out-items.result.now in
    let i = c.loop-out.out-index in
    let o = c.out-item.result in
    let next : map out_of (drop i outs) ≡ out_of o ∷ map out_of (drop (i + 1) outs) = ap (map out_of) (drop_more outs i o c.loop-out-test.true ∙ ap (λ x. x ∷ drop (i + 1) outs) (sym c.out-item.is)) in
    let f = c.in_err-give.field-0.0 in
    subst (λ r. GivesOuts c.args.from.now c.args.outs.now c.args.lines.now r c.give.new.lines c.args.self.now c.give.new.self) (sym (err_is c.from_residual.result f c.from_residual.ensures.1))
    (going_fault c.args.from.now (out_of o) c.args.outs.now (map out_of (drop i outs)) (map out_of (drop (i + 1) outs)) c.args.lines.now c.loop-out.lines c.give.new.lines
    c.args.self.now c.loop-out.self c.give.new.self c.give.new.self f next c.loop-out.invariant (c.in_err-give.ensures {u = tt}))
