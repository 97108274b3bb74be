use Rattle.tp_model.specs.NodeRun.{node_run}
use Rattle.tp_drive.proofs.finish.finish.Given as goal

-- the answer of one thread
abbrev pub ghost-by_event : goal.ghost-by_event
ghost-by_event g a = (node_run g.L.Begun.opening a.events.now).outputs
