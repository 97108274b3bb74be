use Rattle.tp_histories.proofs.order.InOrderLaw.{among_law, again_apart, empty_apart, run_among}
use Rattle.tp_histories.proofs.arcs.a_transaction_stands_among_its_arcs.Goals as goal

pub returns : goal.returns
returns c = record { history = among_law; again = again_apart; empty = empty_apart; run = run_among }
