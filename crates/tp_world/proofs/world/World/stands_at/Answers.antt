use Rattle.std.proofs.Common.{sym, ◌∙◌}
use Rattle.tp_world.proofs.StopDeeds.{stands_there, stands_nowhere}
use Rattle.tp_world.proofs.world.World.stands_at.Goals as goal

pub returns-in-Some-addr : goal.returns-in-Some-addr
returns-in-Some-addr c = λ w h. c.is_name.ensures ∙ stands_there w c.args.self.now c.args.site.now c.in-Some.node c.in-Some-addr.at _ h (sym (c.node_of.ensures w h) ∙ c.in-Some.is) (sym c.in-Some-addr.is ∙ c.addr.ensures)

pub returns-in-None : goal.returns-in-None
returns-in-None c = λ w h. stands_nowhere w c.args.self.now c.args.site.now c.in-Some.node _ h (sym (c.node_of.ensures w h) ∙ c.in-Some.is) (sym c.in-None.is ∙ c.addr.ensures)
