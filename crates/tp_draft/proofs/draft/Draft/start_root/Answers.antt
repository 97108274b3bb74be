use Rattle.tp_model.specs.Node.{start_root}
use Rattle.tp_draft.specs.Begins.{opened_root, named_begun}
use Rattle.tp_draft.proofs.Drafts.{plays_then, plays_halted}
use Rattle.tp_draft.proofs.Beginnings.{named_rises, root_is}
use Rattle.tp_draft.proofs.draft.Draft.start_root.Goals as goal

pub returns-in-Err : goal.returns-in-Err
returns-in-Err c =
    let ps = c.args.named.now in
    plays_halted c.in-Err.halt c.args.self.now c.open_root.new.self c.open_root.new.self opened_root (named_begun ps) (λ who. start_root who ps) (root_is ps) (named_rises ps) c.in-Err.ensures

pub returns : goal.returns
returns c =
    let ps = c.args.named.now in
    plays_then c.begin_named.result c.args.self.now c.open_root.new.self c.begin_named.new.self opened_root (named_begun ps) (λ who. start_root who ps) (c.in_default.ensures {u = tt}) (root_is ps) c.begin_named.ensures
