use Rattle.std.proofs.Common.{ap, ◌∙◌}
use Rattle.tp_bound.specs.Bodies.{body_in}
use Rattle.tp_bound.proofs.TakenBodies.{keep_in}
use Rattle.tp_bound.proofs.encode.keep_text.Goals as goal

pub returns-clause-read : goal.returns-clause-read
returns-clause-read c = ap body_in c.in_ok-text.ensures ∙ keep_in c.args.aaid.now c.aaid_reads.ensures.reads
