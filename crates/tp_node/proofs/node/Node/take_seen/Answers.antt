use Rattle.std.proofs.Common.{◌∙◌, sym, ap, Option, Some}
use Rattle.std.specs.Option.{option_map}
use Rattle.tp_model.specs.Parts.{Who}
use Rattle.tp_model.specs.Transactions.{Transaction}
use Rattle.tp_model.specs.Node.{seen}
use Rattle.tp_node.specs.Node.{Node, arcs_in, current_of, unboxed}
use Rattle.tp_node.proofs.node.Node.take_seen.Goals as goal

pub returns-clause-branch : goal.returns-clause-branch
returns-clause-branch c =
    let v = c.self.inside in
    let who : Who = record { site = v.site; node = v.number } in
    ap unboxed c.take.ensures.value
    ∙ ap (λ (t : Transaction). Some t) (c.see.ensures v.site)
    ∙ ap (λ (t : Transaction). Some (seen who (arcs_in v.arcs) (current_of t))) c.deref_mut.ensures.value
    ∙ ap (λ (o : Option Transaction). option_map (seen who (arcs_in v.arcs)) (option_map current_of o)) (sym (ap unboxed c.in-Some.is))
    ∙ ap (λ (n : Node). option_map (seen n.who n.digest.arcs) n.digest.current) c.self.view_is
