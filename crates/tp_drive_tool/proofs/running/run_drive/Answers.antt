use Rattle.std.proofs.Common.{arith}
use Rattle.tp_drive_tool.specs.Running.{Asked}
use Rattle.tp_drive_tool.proofs.Complete.{completes}
use Rattle.tp_drive_tool.proofs.running.run_drive.Goals as goal

pub returns-in-Ok-clause-answers : goal.returns-in-Ok-clause-answers
returns-in-Ok-clause-answers g c = Asked c.in-Ok.asked c.in-Ok.ensures.ok c.run_asked.ensures.does

-- where nothing outside fails
pub returns-in-Ok-clause-complete : goal.returns-in-Ok-clause-complete
returns-in-Ok-clause-complete g c = λ ready provided read write disk.
    completes c.in-Ok.asked _ (provided c.in-Ok.asked c.in-Ok.ensures.ok) _ c.run_asked.result.0 _ _ _ _ _ _ (omega arith) c.run_asked.ensures.does c.run_asked.ensures.ending read write disk
