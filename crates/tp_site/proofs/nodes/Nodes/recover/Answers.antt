use Rattle.std.proofs.Common.{sym, ◌∙◌}
use Rattle.tp_site.proofs.Recovered.{more_recovered}
use Rattle.tp_site.proofs.nodes.Nodes.recover.Goals as goal

pub returns-in-Ok-clause-recovered : goal.returns-in-Ok-clause-recovered
returns-in-Ok-clause-recovered c = λ rs from. more_recovered c.args.self.now c.prepare.new.self c.recover_at.new.self rs c.args.rec.now c.in-Some.owner (sym c.owner.ensures ∙ c.in-Some.is) from (c.in_ok-prepare.ensures {u = tt}).same (c.in-Ok.ensures {u = tt}).recovered (c.in_ok-prepare.ensures {u = tt}).site (c.in-Ok.ensures {u = tt}).site
