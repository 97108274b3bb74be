use Rattle.std.proofs.Common.{◌∙◌, sym, subst}
use Rattle.tp_world.proofs.Shows.{IsShown, shows_unknown, is_shown, shows_none, shows_state}
use Rattle.tp_world.proofs.Trying.{not_some}
use Rattle.tp_world.proofs.world.World.show_line.Goals as goal

pub returns-in_default : goal.returns-in_default
returns-in_default c = λ w h. shows_unknown w c.args.self.now c.args.node c.args.lines.now c.args.lines.now c.args.self.now h (sym (not_some c.addr.result c.in_default.not-Some) ∙ c.addr.ensures)

pub returns-in_default-state_at : goal.returns-in_default-state_at
returns-in_default-state_at c = λ w h.
    let s : IsShown w c.args.node c.state_at.result = is_shown w c.args.self.now c.args.node c.in-Some.at c.state_at.result c.as_slice.result.now h (sym c.in-Some.is ∙ c.addr.ensures) c.as_slice.ensures.value (c.state_at.ensures w) in
    shows_none w c.args.node c.args.lines.now c.args.lines.now c.args.self.now (subst (IsShown w c.args.node) (not_some c.state_at.result c.in_default-state_at.not-Some) s)

pub returns : goal.returns
returns c = λ w h.
    let s : IsShown w c.args.node c.state_at.result = is_shown w c.args.self.now c.args.node c.in-Some.at c.state_at.result c.as_slice.result.now h (sym c.in-Some.is ∙ c.addr.ensures) c.as_slice.ensures.value (c.state_at.ensures w) in
    shows_state w c.args.node c.in-Some-state_at.state c.state_shown.result c.args.lines.now c.push.new.self tt c.args.self.now h (subst (IsShown w c.args.node) c.in-Some-state_at.is s) c.state_shown.ensures ((c.in_ok-push.ensures {u = tt}).ok)
