use Rattle.tp_batches.proofs.Batches.{first_of, whole}
use Rattle.tp_batches.proofs.a_batch_is_its_events_in_order.Goals as goal

pub returns : goal.returns
returns c = record { first = first_of; whole = whole }
