-- It is not refused, and nothing can be wanting for it.
use Rattle.std.proofs.Common.{rules, ◌≡◌, ◌∙◌, ◌++◌, ◌∷◌, [], sym, ap, None, List}
use Rattle.tp_model.specs.Parts.{Do, Out}
use Rattle.tp_model.specs.Events.{refused_plainly}
use Rattle.tp_node_state.specs.Outs.{out_of}
use Rattle.tp_site.proofs.Begun.{planned}
use Rattle.tp_site.proofs.in_place.plan_begin.Goals as goal

pub returns-clause-planned : goal.returns-clause-planned
returns-clause-planned c = λ _.
    let v = c.args.node.now in
    let ok : refused_plainly v.who v.digest (Do c.args.request.now) ≡ None = search rules in
    planned v c.args.request c.args.peer c.push.new.self c.requires ok c.in-Some.ensures.sure
    ((c.in_ok-push.ensures {u = tt}).added ∙ ap (λ (l : List Out). l ++ out_of c.in-Some.out ∷ []) c.clear.ensures ∙ sym c.in-Some.ensures.out)
