use Rattle.std.proofs.Common.{◌≡◌, ◌∙◌, sym, ap, List}
use Rattle.std.specs.Cmp.{unsigned_Decides}
use Rattle.tp_names.specs.declared.identifiers.Addr.{Addr}
use Rattle.tp_names.specs.declared.identifiers.BranchId.{BranchId}
use Rattle.tp_model.specs.Parts.{Arc, Digest}
use Rattle.tp_model.specs.Dialogues.{begun_by, named_holder}
use Rattle.tp_model.specs.Arcs.{with_dialogue}
use Rattle.tp_model.specs.Node.{side_at, with_mark_drawn}
use Rattle.tp_node.specs.Begins.{with_branch, with_digest, new_branch}
use Rattle.tp_tree.specs.Tie.{arc_of}
use Rattle.tp_node.specs.Node.{Node}
use Rattle.tp_node.proofs.Beginnings.{peer_found, begun_is}
use Rattle.tp_node.proofs.node.Node.begin_branch.Goals as goal

pub begin_on-requires : goal.begin_on-requires
begin_on-requires c =
    let t = c.in-Some-tie.tie.now in
    let at : t.addr.node ≡ c.args.peer = (unsigned_Decides t.addr.node c.args.peer).0 (peer_found c.args.self.now.digest.arcs c.args.peer (arc_of t) (sym c.in-Some-tie.ensures.arc)) in
    c.in-Some-tie.ensures.side ∙ ap (side_at c.args.self.now.digest) (sym at) ∙ sym (ap (λ (v : Node). side_at v.digest t.addr.node) c.in_ok-draw.ensures.drawn)
    ∙ ap (λ (a : Addr). side_at c.draw.new.self.digest a.node) (sym c.addr-addr.ensures)

pub returns-clause-node : goal.returns-clause-node
returns-clause-node c =
    let v = c.args.self.now in
    let t = c.in-Some-tie.tie.now in
    let a = arc_of t in
    let made_at : Addr → List Arc → Digest → BranchId → Digest = λ p arcs d b. record d {
      arcs = with_dialogue arcs p.node (λ _. begun_by (named_holder a.dialogue) t.dialogue.side a.dialogue);
      current = with_branch (record { addr = p; branch = b }) d.current;
    } in
    let made : List Arc → Digest → BranchId → Digest = made_at a.peer in
    let site : c.self.inside.site ≡ v.who.site = ap (λ (x : Node). x.who.site) c.self.view_is in
    let id : (record { superior = c.self.inside.site; mark = c.in_ok-draw.field-0 }) ≡ new_branch v.who v.digest =
    ap (λ x. let b : BranchId = record { superior = x; mark = c.in_ok-draw.field-0 } in b) site ∙ ap (λ x. let b : BranchId = record { superior = v.who.site; mark = x } in b) c.in_ok-draw.ensures.mark in
    (c.in_ok-begin_on.ensures {u = tt}).begun
    ∙ ap (λ (p : Addr). with_digest c.draw.new.self (made_at p c.draw.new.self.digest.arcs c.draw.new.self.digest (record { superior = c.self.inside.site; mark = c.in_ok-draw.field-0 }))) c.addr-addr.ensures
    ∙ ap (λ (w : Node). with_digest w (made w.digest.arcs w.digest (record { superior = c.self.inside.site; mark = c.in_ok-draw.field-0 }))) c.in_ok-draw.ensures.drawn
    ∙ ap (λ (b : BranchId). with_digest v (made v.digest.arcs (with_mark_drawn v.digest) b)) id
    ∙ ap (with_digest v) (begun_is v.who c.args.peer v.digest a t.dialogue.side c.in-Some.aaid (sym c.in-Some.ensures) (sym c.in-Some-tie.ensures.arc) c.in-Some-tie.ensures.side (sym c.if-not-may_begin_on.ensures))
