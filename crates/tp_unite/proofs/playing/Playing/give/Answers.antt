-- It is refused, or it happens, or something that it names has no place.
use Rattle.std.proofs.Common.{◌≡◌, ◌∷◌, true, false, Err, refl, ap, ◌∙◌, subst, arith, length}
use Rattle.tp_outside.specs.declared.mem_disk.MemDisk.{MemDisk}
use Rattle.tp_journal.specs.Journals.{Kept}
use Rattle.tp_node.specs.NodeEvent.{event_of}
use Rattle.tp_site.specs.Site.{Plays}
use Rattle.tp_site.specs.declared.faults.SiteFault.{SiteFault}
use Rattle.tp_deployments.specs.Deployments.{Takes}
use Rattle.tp_closing.specs.Closing.{deeds_of}
use Rattle.tp_weaving.specs.declared.step.Step.{Step}
use Rattle.tp_unite.specs.declared.playing.Playing.{Playing}
use Rattle.tp_unite.specs.Playing.{standing}
use Rattle.tp_unite.proofs.Played.{refused, happened, displaced}
use Rattle.tp_unite.proofs.Trees.{refused_tells, take_tells, happened_enters}
use Rattle.tp_unite.proofs.playing.Playing.give.Goals as goal

pub returns-in-Err-Refused-clause-plays : goal.returns-in-Err-Refused-clause-plays
returns-in-Err-Refused-clause-plays c = λ r g is asks brings.
    let old = c.args.self.now in
    let event = event_of c.args.event.now in
    let site = c.play_into.new.self in
    let added = c.in_ok-push-in-Err-Refused.ensures in
    let plain = c.plain.ensures in
    let plays = subst (λ (f : SiteFault). Plays standing old.site c.args.node event (Err f) site) c.in-Err-Refused.field-0-is c.in-Err-Refused.ensures in
    refused c.args.places.now r old is g c.args.node event c.in-Err-Refused.field-0-0 c.push.new.self site c.plain.result c.args.at asks plays added.name added.taken added.steps (record { says = plain.says; needs = plain.needs }) plain.at

pub returns-in-Err-Refused-clause-trees : goal.returns-in-Err-Refused-clause-trees
returns-in-Err-Refused-clause-trees c = λ r rs g is asks brings tell.
    let old = c.args.self.now in
    let event = event_of c.args.event.now in
    let site = c.play_into.new.self in
    let plays = subst (λ (f : SiteFault). Plays standing old.site c.args.node event (Err f) site) c.in-Err-Refused.field-0-is c.in-Err-Refused.ensures in
    refused_tells c.args.places.now r rs old g c.args.node event c.in-Err-Refused.field-0-0 c.args.at c.args.trees.now is asks plays.0 tell

pub returns-then-not-is_placed-clause-misplaced : goal.returns-then-not-is_placed-clause-misplaced
returns-then-not-is_placed-clause-misplaced c = λ r g is asks arranged fault.
    let off : c.is_placed.result ≡ false = grind (arith, c.if-not-is_placed.true) in
    displaced c.args.places.now r c.args.self.now is g c.args.node (event_of c.args.event.now) c.in-Ok._refusal c.play_into.new.outs c.play_into.new.self asks c.in-Ok.ensures (λ has. c.is_placed.ensures.unplaced off arranged has)

pub returns-clause-plays : goal.returns-clause-plays
returns-clause-plays c = λ r g is asks brings.
    let old = c.args.self.now in
    let event = event_of c.args.event.now in
    let on : c.is_placed.result ≡ true = grind (arith, c.if-not-is_placed.false) in
    let step : Step = record { at = c.args.at; needs = c.args.needs; says = c.in_ok-says.says } in
    let added = c.in_ok-push.ensures in
    happened c.args.places.now r old is g c.args.node event c.in-Ok._refusal c.play_into.new.outs c.push-2.new.self c.play_into.new.self step asks c.in-Ok.ensures (c.is_placed.ensures.placed on) brings c.in_ok-says.ensures added.name added.taken added.steps

pub returns-clause-trees : goal.returns-clause-trees
returns-clause-trees c = λ r rs g is asks brings tell.
    let old = c.args.self.now in
    let event = event_of c.args.event.now in
    let site = c.play_into.new.self in
    let next : Playing = record { lane = c.push-2.new.self; site = site } in
    let counts = ap length (c.list-count.ensures.is ∙ ap (λ (j : Kept MemDisk). j.list) c.log.ensures) in
    let enters = happened_enters c.args.places.now r rs old next is g c.args.node event c.in-Ok._refusal c.play_into.new.outs site _ c.args.at asks c.in-Ok.ensures (returns-clause-plays c r g is asks brings) refl counts tell.alone in
    take_tells c.args.places.now r rs g c.args.at c.args.trees.now c.tell.new.trees tell (c.in_ok-tell.ensures (deeds_of (r ∷ rs)) (Takes r.site g ∷ deeds_of (r ∷ rs)) c.args.places.now enters tell.sees)
