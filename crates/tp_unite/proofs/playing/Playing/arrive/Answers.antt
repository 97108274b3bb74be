-- The octets are no record, or for another site, or for a node of this one.
use Rattle.std.proofs.Common.{◌≡◌, List, ℕ, true, false, sym, ◌∙◌, ap, subst, arith}
use Rattle.tp_names.specs.Same.{is_name}
use Rattle.tp_records.specs.declared.body.Event.{Event as Given}
use Rattle.tp_site.specs.Events.{opening_at}
use Rattle.tp_unite.specs.Said.{IsRecordIn}
use Rattle.tp_unite.proofs.Trees.{declined_tells}
use Rattle.tp_unite.proofs.Asking.{unread, elsewhere, arrives, brings}
use Rattle.tp_unite.proofs.playing.Playing.arrive.Goals as goal

pub returns-in_default-clause-plays : goal.returns-in_default-clause-plays
returns-in_default-clause-plays c = λ r is.
    let x = c.args.letter in
    let none = subst (IsRecordIn x.octets) c.in_default.is (subst (λ (xs : List ℕ). IsRecordIn xs c.in_ok-rec.field-0) c.as_slice.ensures c.in_ok-rec.ensures) in
    c.in_ok-decline.ensures c.args.places.now r (Given.Arrive x.from x.to x.octets) 25 is (unread (opening_at r.site) x.from x.to x.octets none)

pub returns-in_default-clause-trees : goal.returns-in_default-clause-trees
returns-in_default-clause-trees c = λ r rs is tell.
    let x = c.args.letter in
    let none = subst (IsRecordIn x.octets) c.in_default.is (subst (λ (xs : List ℕ). IsRecordIn xs c.in_ok-rec.field-0) c.as_slice.ensures c.in_ok-rec.ensures) in
    declined_tells c.args.places.now r rs c.args.self.now (Given.Arrive x.from x.to x.octets) 25 c.args.at c.args.trees.now is (unread (opening_at r.site) x.from x.to x.octets none) tell

pub returns-then-not-is_name-clause-plays : goal.returns-then-not-is_name-clause-plays
returns-then-not-is_name-clause-plays c = λ r is.
    let x = c.args.letter in
    let rec = subst (IsRecordIn x.octets) c.in-Some.is (subst (λ (xs : List ℕ). IsRecordIn xs c.in_ok-rec.field-0) c.as_slice.ensures c.in_ok-rec.ensures) in
    let other : c.is_name.result ≡ false = grind (arith, c.if-not-is_name.true) in
    let off = ap (is_name x.to.site) (sym is.name) ∙ sym c.is_name.ensures ∙ other in
    c.in_ok-decline-2.ensures c.args.places.now r (Given.Arrive x.from x.to x.octets) 23 is (elsewhere (opening_at r.site) x.from x.to x.octets c.in-Some.rec rec.0 off)

pub returns-then-not-is_name-clause-trees : goal.returns-then-not-is_name-clause-trees
returns-then-not-is_name-clause-trees c = λ r rs is tell.
    let x = c.args.letter in
    let rec = subst (IsRecordIn x.octets) c.in-Some.is (subst (λ (xs : List ℕ). IsRecordIn xs c.in_ok-rec.field-0) c.as_slice.ensures c.in_ok-rec.ensures) in
    let other : c.is_name.result ≡ false = grind (arith, c.if-not-is_name.true) in
    let off = ap (is_name x.to.site) (sym is.name) ∙ sym c.is_name.ensures ∙ other in
    declined_tells c.args.places.now r rs c.args.self.now (Given.Arrive x.from x.to x.octets) 23 c.args.at c.args.trees.now is (elsewhere (opening_at r.site) x.from x.to x.octets c.in-Some.rec rec.0 off) tell

pub returns-clause-plays : goal.returns-clause-plays
returns-clause-plays c = λ r is.
    let x = c.args.letter in
    let rec = subst (IsRecordIn x.octets) c.in-Some.is (subst (λ (xs : List ℕ). IsRecordIn xs c.in_ok-rec.field-0) c.as_slice.ensures c.in_ok-rec.ensures) in
    let same : c.is_name.result ≡ true = grind (arith, c.if-not-is_name.false) in
    let on = ap (is_name x.to.site) (sym is.name) ∙ sym c.is_name.ensures ∙ same in
    c.give.ensures.plays r (Given.Arrive x.from x.to x.octets) is (arrives (opening_at r.site) x.from x.to x.octets c.in-Some.rec rec.0 on) (brings r.site x c.in-Some.rec rec.0 rec.1 on)

pub returns-clause-misplaced : goal.returns-clause-misplaced
returns-clause-misplaced c = λ r is arranged fault.
    let x = c.args.letter in
    let rec = subst (IsRecordIn x.octets) c.in-Some.is (subst (λ (xs : List ℕ). IsRecordIn xs c.in_ok-rec.field-0) c.as_slice.ensures c.in_ok-rec.ensures) in
    let same : c.is_name.result ≡ true = grind (arith, c.if-not-is_name.false) in
    let on = ap (is_name x.to.site) (sym is.name) ∙ sym c.is_name.ensures ∙ same in
    c.give.ensures.misplaced r (Given.Arrive x.from x.to x.octets) is (arrives (opening_at r.site) x.from x.to x.octets c.in-Some.rec rec.0 on) arranged fault

pub returns-clause-trees : goal.returns-clause-trees
returns-clause-trees c = λ r rs is tell.
    let x = c.args.letter in
    let rec = subst (IsRecordIn x.octets) c.in-Some.is (subst (λ (xs : List ℕ). IsRecordIn xs c.in_ok-rec.field-0) c.as_slice.ensures c.in_ok-rec.ensures) in
    let same : c.is_name.result ≡ true = grind (arith, c.if-not-is_name.false) in
    let on = ap (is_name x.to.site) (sym is.name) ∙ sym c.is_name.ensures ∙ same in
    c.give.ensures.trees r rs (Given.Arrive x.from x.to x.octets) is (arrives (opening_at r.site) x.from x.to x.octets c.in-Some.rec rec.0 on) (brings r.site x c.in-Some.rec rec.0 rec.1 on) tell
