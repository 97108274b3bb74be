use Rattle.std.proofs.Common.{refl}
use Rattle.tp_model.specs.Node.{begin_each, begin_chained}
use Rattle.tp_draft.specs.Begins.{named_begun}
use Rattle.tp_draft.proofs.Drafts.{plays_halted}
use Rattle.tp_draft.proofs.Beginnings.{chained_rises}
use Rattle.tp_draft.proofs.draft.Draft.begin_named.Goals as goal

pub returns-in-Err : goal.returns-in-Err
returns-in-Err c =
    let ps = c.args.named.now in
    plays_halted c.in-Err.halt c.args.self.now c.begin_each.new.self c.begin_each.new.self (λ who. begin_each who ps) begin_chained (named_begun ps) (λ who d. refl) chained_rises c.in-Err.ensures
