use Rattle.std.proofs.Common.{refl, sym, ◌∙◌}
use Rattle.tp_model.specs.declared.line.Line.{Line}
use Rattle.tp_world_members.proofs.DrivenLines.{has_left, none_to_leave}
use Rattle.tp_world_members.proofs.driven_world.DrivenWorld.leave_line.Goals as goal

pub returns-then-not-is_there-clause-plays : goal.returns-then-not-is_there-clause-plays
returns-then-not-is_there-clause-plays g c = λ w lines stands.
    let old = c.args.self.now in
    none_to_leave _ w (Line.Leave c.args.member) old (record { world = old.world; members = old.members; ended = old.ended }) c.args.member lines lines refl stands (sym c.is_there.ensures ∙ c.if-not-is_there.true) refl

pub returns-clause-plays : goal.returns-clause-plays
returns-clause-plays g c = λ w lines stands.
    let old = c.args.self.now in
    has_left _ w (Line.Leave c.args.member) old (record { world = old.world; members = c.leave.new.self; ended = old.ended }) c.args.member lines lines refl stands (sym c.is_there.ensures ∙ c.if-not-is_there.false) refl refl c.leave.ensures.drivers c.leave.ensures.count c.leave.ensures.slots
