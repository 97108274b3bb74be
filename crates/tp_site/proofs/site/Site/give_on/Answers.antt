-- It was prepared, its outputs were made, and it was carried out.
use Rattle.std.proofs.Common.{ap, ◌∙◌}
use Rattle.tp_model.specs.Refusal.{number_in}
use Rattle.tp_site.specs.Events.{given_out}
use Rattle.tp_site.specs.Prepared.{refusal_of}
use Rattle.tp_site.proofs.Settled.{carried, same_site}
use Rattle.tp_site.proofs.site.Site.give_on.Goals as goal

pub returns-clause-gives : goal.returns-clause-gives
returns-clause-gives g c =
    let old = c.args.self.now in
    let mid = c.prepare.new.self in
    let prepared = c.in_ok-prepared.prepared in
    let done = c.in_ok-prepared.ensures.prepares in (
      record { refusal = refusal_of prepared; outs = c.prepare.new.outs },
      carried g.K.Keeper.standing old mid c.carry_out.new.self c.args.node c.args.event.now prepared c.prepare.new.draft c.prepare.new.outs done ((c.in_ok-carry_out.ensures {u = tt}).done),
      c.in_ok-outputs.ensures
          ∙ ap (λ r. given_out c.name-site.result c.args.node (number_in r) c.prepare.new.outs) c.refusal.ensures
          ∙ ap (λ s. given_out s c.args.node (number_in (refusal_of prepared)) c.prepare.new.outs) (c.name-site.ensures ∙ same_site g.K.Keeper.standing old mid c.args.node c.args.event.now prepared c.prepare.new.draft c.prepare.new.outs done),
    )
