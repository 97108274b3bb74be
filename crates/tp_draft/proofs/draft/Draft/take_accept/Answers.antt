use Rattle.std.proofs.Common.{subst}
use Rattle.tp_names.specs.declared.identifiers.Addr.{Addr}
use Rattle.tp_model.specs.Arrivals.{take_accept}
use Rattle.tp_tree.specs.Tie.{arc_of}
use Rattle.tp_draft.specs.Draft.{Plays}
use Rattle.tp_draft.specs.Calls.{binding, taking_part}
use Rattle.tp_draft.proofs.Drafts.{plays_then, plays_halted}
use Rattle.tp_draft.proofs.Calls.{bound_is, part_rises}
use Rattle.tp_draft.proofs.draft.Draft.take_accept.Goals as goal

pub returns-in-Err : goal.returns-in-Err
returns-in-Err c =
    let a = arc_of c.args.tie.now in
    plays_halted c.in-Err.halt c.args.self.now c.bind.new.self c.bind.new.self (binding a c.args.x c.args.y c.args.units) (taking_part a.peer.node c.args.units) (λ who. take_accept who a c.args.x c.args.y c.args.units) (bound_is a c.args.x c.args.y c.args.units) (part_rises a.peer.node c.args.units) c.in-Err.ensures

pub returns : goal.returns
returns c =
    let a = arc_of c.args.tie.now in
    let part = subst (λ (z : Addr). Plays c.take_part.result c.bind.new.self c.take_part.new.self (taking_part z.node c.args.units)) c.addr.ensures c.take_part.ensures in
    plays_then c.take_part.result c.args.self.now c.bind.new.self c.take_part.new.self (binding a c.args.x c.args.y c.args.units) (taking_part a.peer.node c.args.units) (λ who. take_accept who a c.args.x c.args.y c.args.units) (c.in_default.ensures {u = tt}) (bound_is a c.args.x c.args.y c.args.units) part
