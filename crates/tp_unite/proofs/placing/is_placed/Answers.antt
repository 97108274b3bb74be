-- By the place that was found.
use Rattle.std.proofs.Common.{sym, ◌∙◌}
use Rattle.tp_node.specs.NodeEvent.{event_of}
use Rattle.tp_unite.proofs.Named.{has_place, no_place, not_named}
use Rattle.tp_unite.proofs.placing.is_placed.Goals as goal

pub returns-in-None-clause-unplaced : goal.returns-in-None-clause-unplaced
returns-in-None-clause-unplaced c = λ off arranged has. no_place c.args.places.now c.args.at.now (event_of c.args.event.now) c.in-None.ensures arranged has

pub returns-in-Some-clause-placed : goal.returns-in-Some-clause-placed
returns-in-Some-clause-placed c = λ on. has_place c.args.places.now c.args.at.now c.in-Some.place (event_of c.args.event.now) c.in-Some.ensures (sym c.names_placed.ensures ∙ on)

pub returns-in-Some-clause-unplaced : goal.returns-in-Some-clause-unplaced
returns-in-Some-clause-unplaced c = λ off arranged has.
    not_named c.args.places.now c.args.at.now c.in-Some.place (event_of c.args.event.now) c.in-Some.ensures (sym c.names_placed.ensures ∙ off) arranged has
