use Rattle.std.proofs.Common.{refl, sym, ◌∙◌}
use Rattle.tp_model.specs.declared.line.Line.{Line}
use Rattle.tp_members.specs.Expansion.{memberless}
use Rattle.tp_world_members.proofs.DrivenLines.{has_driven, no_node, no_member}
use Rattle.tp_world_members.proofs.driven_world.DrivenWorld.auto_line.Goals as goal

pub returns-then-not-is_node-clause-plays : goal.returns-then-not-is_node-clause-plays
returns-then-not-is_node-clause-plays g c = λ w lines stands.
    let old = c.args.self.now in
    no_node _ w (Line.Auto c.args.node c.args.member) old (record { world = old.world; members = old.members; ended = old.ended }) c.args.node c.args.member lines lines refl (sym (c.is_node.ensures (memberless w) stands.world.mirrors) ∙ c.if-not-is_node.true) refl

pub returns-then-not-is_there-clause-plays : goal.returns-then-not-is_there-clause-plays
returns-then-not-is_there-clause-plays g c = λ w lines stands.
    let old = c.args.self.now in
    no_member _ w (Line.Auto c.args.node c.args.member) old (record { world = old.world; members = old.members; ended = old.ended }) c.args.node c.args.member lines lines refl stands (sym (c.is_node.ensures (memberless w) stands.world.mirrors) ∙ c.if-not-is_node.false) (sym c.is_there.ensures ∙ c.if-not-is_there.true) refl

pub returns-clause-plays : goal.returns-clause-plays
returns-clause-plays g c = λ w lines stands.
    let old = c.args.self.now in
    has_driven _ w (Line.Auto c.args.node c.args.member) old (record { world = old.world; members = c.drive.new.self; ended = old.ended }) c.args.node c.args.member lines lines refl stands (sym (c.is_node.ensures (memberless w) stands.world.mirrors) ∙ c.if-not-is_node.false) (sym c.is_there.ensures ∙ c.if-not-is_there.false) refl refl c.drive.ensures.slots c.in_ok-drive.ensures.drives
