use Rattle.std.proofs.Common.{◌≡◌, ◌∙◌, ap, sym, Some, None}
use Rattle.std.specs.Option.{option_map}
use Rattle.tp_model.specs.Disposition.{sight_value}
use Rattle.tp_model.specs.Node.{Move, followed}
use Rattle.tp_model.specs.Arrivals.{do_arrival}
use Rattle.tp_records.specs.declared.peer.PeerRecord.{PeerRecord}
use Rattle.tp_draft.specs.Taking.{taking_on}
use Rattle.tp_draft.proofs.Arriving.{sight_with, taken_number, taken_side, taken_there, taken_nowhere}
use Rattle.tp_draft.proofs.Drafts.{perform_none, plays_same_at}
use Rattle.tp_draft.proofs.draft.Draft.take_from.Goals as goal

pub take_on-requires-clause-side : goal.take_on-requires-clause-side
take_on-requires-clause-side c =
    let a = c.args.self.now in
    let s = sight_value c.in-Some.disposition in
    let sees : Some s ≡ sight_with a.who a.move.next c.args.from.now.node c.args.rec.now = sym (ap (option_map sight_value) c.in-Some.is) ∙ c.requires.seen in
    λ acts begins. taken_side a.who a.move.next c.args.from.now c.args.rec.now s sees acts begins

pub take_on-requires-clause-number : goal.take_on-requires-clause-number
take_on-requires-clause-number c =
    let a = c.args.self.now in
    let s = sight_value c.in-Some.disposition in
    let sees : Some s ≡ sight_with a.who a.move.next c.args.from.now.node c.args.rec.now = sym (ap (option_map sight_value) c.in-Some.is) ∙ c.requires.seen in
    taken_number a.who a.move.next c.args.from.now c.args.x.now c.args.y.now c.args.seq c.args.rec.now s c.requires.refused sees

pub returns-in-Some : goal.returns-in-Some
returns-in-Some c =
    let a = c.args.self.now in
    let s = sight_value c.in-Some.disposition in
    let r = PeerRecord.OnAssoc c.args.x.now c.args.y.now c.args.seq c.args.rec.now in
    let sees : Some s ≡ sight_with a.who a.move.next c.args.from.now.node c.args.rec.now = sym (ap (option_map sight_value) c.in-Some.is) ∙ c.requires.seen in
    plays_same_at c.take_on.result a c.take_on.new.self (λ who. do_arrival who c.args.from.now r) (taking_on c.args.from.now s c.args.rec.now) (taken_there a.who a.move.next c.args.from.now c.args.x.now c.args.y.now c.args.seq c.args.rec.now s c.requires.refused sees) c.take_on.ensures

pub returns-in-None : goal.returns-in-None
returns-in-None c =
    let a = c.args.self.now in
    let none : None ≡ sight_with a.who a.move.next c.args.from.now.node c.args.rec.now = sym (ap (option_map sight_value) c.in-None.is) ∙ c.requires.seen in
    sym (perform_none a) ∙ sym (ap (λ (m : Move). record a { move = followed a.move (λ _. m) }) (taken_nowhere a.who a.move.next c.args.from.now c.args.x.now c.args.y.now c.args.seq c.args.rec.now none))
