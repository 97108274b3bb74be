use Rattle.std.proofs.Common.{◌∙◌}
use Rattle.tp_records.specs.declared.indication.Indication.{Indication}
use Rattle.tp_model.specs.declared.transaction.TxOut.{TxOut}
use Rattle.tp_commit.proofs.Courses.{lost_first}
use Rattle.tp_commit.proofs.branch.Branch.lost.Goals as goal

pub returns : goal.returns
returns c = c.lost_by.ensures ∙ lost_first (TxOut.Tell (Indication.PAbort c.args.arc)) c.args.arc c.args.self.now
