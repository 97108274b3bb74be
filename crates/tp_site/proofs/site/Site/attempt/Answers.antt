-- What an event draws up of a node that stands as texts ask is shaped as they ask.
use Rattle.std.proofs.Common.{sym, subst}
use Rattle.tp_logrec.specs.declared.record.LogVersion.{LogVersion}
use Rattle.tp_model.specs.Refusal.{number_in}
use Rattle.tp_node.specs.NodeEvent.{event_of}
use Rattle.tp_site.specs.Shaped.{IsShapedDraft}
use Rattle.tp_site.proofs.Shaped.{drawn_shaped, drawn_short}
use Rattle.tp_site.proofs.site.Site.attempt.Goals as goal

pub returns-clause-shaped : goal.returns-clause-shaped
returns-clause-shaped g c =
    let drawn = c.answer_to.new.draft.move in
    subst (λ (v : LogVersion). IsShapedDraft v drawn) (sym c.answer_to.ensures.site.version)
    (drawn_shaped c.self.inside.nodes c.args.node (event_of c.args.event.now) (number_in c.in_ok-refusal.refusal) drawn c.self.invariant.nodes c.in_ok-refusal.ensures.answer.0)

pub returns-clause-short : goal.returns-clause-short
returns-clause-short g c = drawn_short c.self.inside.nodes c.args.node (event_of c.args.event.now) (number_in c.in_ok-refusal.refusal) c.answer_to.new.draft.move c.in_ok-refusal.ensures.answer.0
