-- The history of node 1 says where the program stands.
use Rattle.std.proofs.Common.{◌++◌, Option, ap, ◌∙◌}
use Rattle.tx_face.specs.declared.stand.Stand.{Stand}
use Rattle.tx_face.specs.declared.code.Code.{Code}
use Rattle.tp_tx.specs.Transcript.{stand_after, standing_frame}
use Rattle.tp_tx.proofs.Calling.{stands, coded}
use Rattle.tp_tx.proofs.answering.put_end.Goals as goal

pub returns-in-Ok-clause-end : goal.returns-in-Ok-clause-end
returns-in-Ok-clause-end g c = λ o gs at node.
    c.in-Ok.ensures
    ∙ ap (λ (s : Stand). c.args.out.now ++ standing_frame s c.code-code.result) (c.stand-stand.ensures.stand ∙ stands g.K.Keeper.standing o gs c.args.face.now at node)
    ∙ ap (λ (k : Option Code). c.args.out.now ++ standing_frame (stand_after o gs) k) (c.code-code.ensures.code ∙ coded g.K.Keeper.standing o gs c.args.face.now at node)
