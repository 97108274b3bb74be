use Rattle.std.proofs.Common.{◌≡◌, ◌∙◌, true, false, sym, ap, arith, None}
use Rattle.tp_model.specs.World.{is_node}
use Rattle.tp_model.specs.Lines.{node_limit, is_peer_node}
use Rattle.tp_world.specs.Declares.{has_superior}
use Rattle.tp_world.proofs.Coming.{gives_node, gives_no_node, peer_there}
use Rattle.tp_world.proofs.Trying.{not_some}
use Rattle.tp_world.proofs.world.World.node_line.Goals as goal

pub returns-in-Some : goal.returns-in-Some
returns-in-Some c = λ w h.
    let none : is_node w c.args.node ≡ false = grind (arith, c.is_node.ensures w h) in
    let peer : is_peer_node w c.args.under ≡ true = grind (arith, c.is_peer.ensures w h) in
    gives_no_node w c.args.node c.args.site c.args.under c.in-Some.what c.args.lines.now c.args.lines.now c.args.self.now none peer (sym (c.node_limit.ensures w h) ∙ c.in-Some.is)

pub returns : goal.returns
returns c = λ w h.
    let none : is_node w c.args.node ≡ false = grind (arith, c.is_node.ensures w h) in
    let peer : is_peer_node w c.args.under ≡ true = grind (arith, c.is_peer.ensures w h) in
    let limit : node_limit w c.args.site ≡ None = sym (c.node_limit.ensures w h) ∙ not_some c.node_limit.result c.in_default.not-Some in
    let up = c.superior_at-superior.result in
    let same = c.superior_at-superior.ensures w h in
    gives_node w c.args.node c.args.site c.args.under up c.args.lines.now c.declare.new.lines tt c.declare.new.self none peer limit same
    (c.in_ok-declare.ensures {u = tt} w h none (ap (has_superior w) same ∙ peer_there w c.args.under peer))
