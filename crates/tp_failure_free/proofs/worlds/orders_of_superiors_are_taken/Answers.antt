use Rattle.tp_failure_free.proofs.DrainedOrders.{orders_are_taken}
use Rattle.tp_failure_free.proofs.worlds.orders_of_superiors_are_taken.Goals as goal

pub returns : goal.returns
returns c = orders_are_taken
