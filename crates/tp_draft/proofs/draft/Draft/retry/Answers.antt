use Rattle.tp_model.specs.declared.transaction.TxEvent.{TxEvent}
use Rattle.tp_model.specs.Node.{transact}
use Rattle.tp_model.specs.Events.{retry, retry_each}
use Rattle.tp_draft.proofs.Drafts.{plays_then, plays_halted}
use Rattle.tp_draft.proofs.Retries.{retry_is, retries_rise}
use Rattle.tp_draft.proofs.draft.Draft.retry.Goals as goal

pub returns-in-Err : goal.returns-in-Err
returns-in-Err c = plays_halted c.in-Err.halt c.args.self.now c.transact.new.self c.transact.new.self (λ who. transact who TxEvent.Retry) (λ who d. retry_each d.kept d) retry retry_is retries_rise (c.in-Err.ensures {u = tt})

pub returns : goal.returns
returns c = plays_then c.retry_kept.result c.args.self.now c.transact.new.self c.retry_kept.new.self (λ who. transact who TxEvent.Retry) (λ who d. retry_each d.kept d) retry (c.in_default.ensures {u = tt}) retry_is c.retry_kept.ensures
