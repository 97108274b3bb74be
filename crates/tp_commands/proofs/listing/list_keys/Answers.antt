use Rattle.tp_commands.proofs.Listed.{lists_all}
use Rattle.tp_commands.proofs.listing.list_keys.Goals as goal

pub returns-in-Ok-clause-lists : goal.returns-in-Ok-clause-lists
returns-in-Ok-clause-lists g c = lists_all _ _ _ _ _ c.in-Ok.ensures.printed
