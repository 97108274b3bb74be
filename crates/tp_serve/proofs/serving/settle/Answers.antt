use Rattle.tp_serve.proofs.Ahead.{settles_all, serves_settled, open_before, settle_stop}
use Rattle.tp_site.specs.Events.{all_nodes}
use Rattle.tp_serve.proofs.serving.settle.Goals as goal

pub returns-clause-settles : goal.returns-clause-settles
returns-clause-settles g c =
    let standing = g.J.Keeper.standing in
    let old = c.args.site.now in
    let new = c.settle_log-settled.new.self in
    let said = c.settle_log-settled.ensures in
    let writes = c.write_settled.ensures.writes in
    record {
      all = λ o gs all begun faults is. settles_all standing o gs all begun faults old new is c.args.waiting.now _ _ _ _ c.settle_log-settled.result c.write_settled.result said.settles (said.at all_nodes o all is.at) writes;
      serves = serves_settled standing old new c.args.waiting.now _ _ _ _ c.settle_log-settled.result c.write_settled.result said.settles said.at said.ok writes;
      was_open = open_before standing old new c.args.waiting.now _ _ _ _ c.settle_log-settled.result c.write_settled.result said.settles writes;
      empty = c.write_settled.ensures.empty;
      stops = settle_stop (standing old.keeper) (standing new.keeper) c.settle_log-settled.result c.write_settled.result c.args.waiting.now _ _ _ _ said.settles writes;
    }
