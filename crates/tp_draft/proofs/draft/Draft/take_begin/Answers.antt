use Rattle.std.proofs.Common.{refl}
use Rattle.tp_model.specs.Node.{begin_chained}
use Rattle.tp_model.specs.Arrivals.{take_begin}
use Rattle.tp_draft.specs.Calls.{entering_tree}
use Rattle.tp_draft.specs.Taking.{arc_to}
use Rattle.tp_draft.proofs.Drafts.{plays_then, plays_halted}
use Rattle.tp_draft.proofs.Beginnings.{chained_rises}
use Rattle.tp_draft.proofs.Calls.{take_begin_is}
use Rattle.tp_draft.proofs.draft.Draft.take_begin.Goals as goal

pub returns-in-Err : goal.returns-in-Err
returns-in-Err c =
    let a = arc_to c.args.superior.now in
    plays_halted c.in-Err.halt c.args.self.now c.enter_tree.new.self c.enter_tree.new.self (entering_tree c.args.superior.now c.args.aaid.now c.args.branch.now c.args.holder) begin_chained (λ who. take_begin who a c.args.aaid.now c.args.branch.now c.args.holder) (take_begin_is a c.args.superior.now c.args.aaid.now c.args.branch.now c.args.holder refl) chained_rises c.in-Err.ensures

pub returns : goal.returns
returns c =
    let a = arc_to c.args.superior.now in
    plays_then c.begin_chained.result c.args.self.now c.enter_tree.new.self c.begin_chained.new.self (entering_tree c.args.superior.now c.args.aaid.now c.args.branch.now c.args.holder) begin_chained (λ who. take_begin who a c.args.aaid.now c.args.branch.now c.args.holder) (c.in_default.ensures {u = tt}) (take_begin_is a c.args.superior.now c.args.aaid.now c.args.branch.now c.args.holder refl) c.begin_chained.ensures
