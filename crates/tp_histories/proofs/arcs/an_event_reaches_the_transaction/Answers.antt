use Rattle.tp_histories.proofs.order.PutLaw.{put_law, alone_law, run_put}
use Rattle.tp_histories.proofs.arcs.an_event_reaches_the_transaction.Goals as goal

pub returns : goal.returns
returns c = record { reaches = put_law; alone = alone_law; run = run_put }
