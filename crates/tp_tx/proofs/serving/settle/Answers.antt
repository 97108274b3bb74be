-- All that the site has noted is forced, and then what waits is written.
use Rattle.std.proofs.Common.{ap}
use Rattle.tp_site.specs.Events.{all_nodes, IsAt}
use Rattle.tp_serve.proofs.Ahead.{settles_all, serves_settled, open_before, settle_stop}
use Rattle.tp_tx.proofs.serving.settle.Goals as goal

pub returns-clause-settles : goal.returns-clause-settles
returns-clause-settles g c =
    let standing = g.J.Keeper.standing in
    let old = c.args.face.now.site in
    let new = c.settle_log-settled.new.self.site in
    let said = c.settle_log-settled.ensures in
    let writes = c.write_settled.ensures.writes in
    record {
      settles = record {
        all = λ o gs all begun faults is. settles_all standing o gs all begun faults old new is c.args.waiting.now _ _ _ _ c.settle_log-settled.result c.write_settled.result said.settles (said.site all_nodes o all is.at) writes;
        serves = serves_settled standing old new c.args.waiting.now _ _ _ _ c.settle_log-settled.result c.write_settled.result said.settles said.site said.shut writes;
        was_open = open_before standing old new c.args.waiting.now _ _ _ _ c.settle_log-settled.result c.write_settled.result said.settles writes;
        empty = c.write_settled.ensures.empty;
        stops = settle_stop (standing old.keeper) (standing new.keeper) c.settle_log-settled.result c.write_settled.result c.args.waiting.now _ _ _ _ said.settles writes;
      };
      node = ap (λ f. f.node) said.same;
      at = said.at;
    }
