use Rattle.std.proofs.Common.{refl}
use Rattle.tp_model.specs.Node.{perform}
use Rattle.tp_draft.specs.Passage.{giving, completing}
use Rattle.tp_draft.proofs.Drafts.{plays_then, plays_halted, perform_keeps}
use Rattle.tp_draft.proofs.draft.Draft.complete_commit.Goals as goal

pub returns-in-Err : goal.returns-in-Err
returns-in-Err c =
    let t = c.args.branch.now in
    let outs = c.args.outs.now in
    plays_halted c.in-Err.halt c.args.self.now c.give.new.self c.give.new.self (giving t) (λ who. perform outs) (completing t outs) (λ who d. refl) (perform_keeps outs) c.in-Err.ensures

pub returns : goal.returns
returns c =
    let t = c.args.branch.now in
    let outs = c.args.outs.now in
    plays_then c.perform.result c.args.self.now c.give.new.self c.perform.new.self (giving t) (λ who. perform outs) (completing t outs) (c.in_default.ensures {u = tt}) (λ who d. refl) c.perform.ensures
