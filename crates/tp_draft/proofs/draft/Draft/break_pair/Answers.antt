use Rattle.std.proofs.Common.{Some, [], ◌∷◌, refl}
use Rattle.tp_records.specs.declared.peer.PeerRecord.{PeerRecord}
use Rattle.tp_model.specs.declared.transaction.TxOut.{TxOut}
use Rattle.tp_model.specs.Node.{perform}
use Rattle.tp_model.specs.Arrivals.{lose}
use Rattle.tp_draft.specs.Calls.{breaking}
use Rattle.tp_draft.proofs.Drafts.{plays_then, plays_halted}
use Rattle.tp_draft.proofs.Losses.{lose_rises}
use Rattle.tp_draft.proofs.draft.Draft.break_pair.Goals as goal

pub returns-in-Err : goal.returns-in-Err
returns-in-Err c =
    let to = c.args.from in
    plays_halted c.in-Err.halt c.args.self.now c.send.new.self c.send.new.self (λ who. perform (TxOut.Recovery to (PeerRecord.ShutAssoc c.args.x (Some c.args.y)) ∷ [])) (λ who. lose who to.node) (breaking to c.args.x c.args.y) (λ who d. refl) (lose_rises to.node) c.in-Err.ensures

pub returns : goal.returns
returns c =
    let to = c.args.from in
    plays_then c.lose.result c.args.self.now c.send.new.self c.lose.new.self (λ who. perform (TxOut.Recovery to (PeerRecord.ShutAssoc c.args.x (Some c.args.y)) ∷ [])) (λ who. lose who to.node) (breaking to c.args.x c.args.y) (c.in_default.ensures {u = tt}) (λ who d. refl) c.lose.ensures
