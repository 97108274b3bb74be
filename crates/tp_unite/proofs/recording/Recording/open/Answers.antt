-- No record is of that site, and it is played from now on.
use Rattle.std.proofs.Common.{◌≤◌, Err, ap, ◌∙◌, sym, subst, arith, length, Some, ◌∷◌, inl}
use Rattle.tp_weaving.specs.Frames.{with_records, first_deed}
use Rattle.tp_weaving.specs.Weaving.{AreLanes}
use Rattle.tp_unite.specs.declared.recording.HearFault.{HearFault}
use Rattle.tp_unite.specs.Endings.{opening_ending}
use Rattle.tp_unite.specs.Recording.{Answers}
use Rattle.tp_unite.proofs.Laid.{as_many}
use Rattle.tp_unite.proofs.Heard.{opened}
use Rattle.tp_unite.proofs.Answering.{opens_many, opens, faults_so}
use Rattle.tp_unite.proofs.recording.Recording.open.Goals as goal

pub returns-then-len-ge-MOST_SITES : goal.returns-then-len-ge-MOST_SITES
returns-then-len-ge-MOST_SITES c = λ t whole.
    let among = c.is_among.ensures t.places t.records (subst (AreLanes t.places t.records) (sym c.as_slice.ensures.value) whole.lanes) in
    let long = as_many t.places t.records c.args.self.now.lanes.items whole.lanes in
    let many : 16 ≤ length t.records = omega (arith, long, c.len.ensures, c.if-len-ge-MOST_SITES.true) in
    inl (opens_many c.args.at t c.args.name (sym among ∙ c.if-is_among.false) many)

pub returns-in-Ok : goal.returns-in-Ok
returns-in-Ok c = λ t whole.
    let among = c.is_among.ensures t.places t.records (subst (AreLanes t.places t.records) (sym c.as_slice.ensures.value) whole.lanes) in
    let off = sym among ∙ c.if-is_among.false in
    let long = as_many t.places t.records c.args.self.now.lanes.items whole.lanes in
    let few : length t.records ≤ 15 = omega (arith, long, c.len.ensures, c.if-len-ge-MOST_SITES.false) in
    (opens c.args.at t c.args.name off few, opened t c.args.at c.args.name c.args.self.now c.in-Ok.playing whole off (c.in-Ok.ensures.plays t.places))

pub returns-in-Err : goal.returns-in-Err
returns-in-Err c = λ t whole.
    let among = c.is_among.ensures t.places t.records (subst (AreLanes t.places t.records) (sym c.as_slice.ensures.value) whole.lanes) in
    let long = as_many t.places t.records c.args.self.now.lanes.items whole.lanes in
    let few : length t.records ≤ 15 = omega (arith, long, c.len.ensures, c.if-len-ge-MOST_SITES.false) in
    let ending = opening_ending c.args.at t c.args.name in
    let told = Some (with_records t (first_deed c.args.at c.args.name ∷ t.records)) in
    let done = opens c.args.at t c.args.name (sym among ∙ c.if-is_among.false) few in
    subst (λ (f : HearFault). Answers c.args.at ending told ⊥ (Err f) c.args.self.now) (sym c.fault_at.ensures)
    (faults_so c.args.at ending told ⊥ c.in-Err.fault c.args.self.now done (λ same. c.in-Err.ensures.fault (ap (λ f. Err f) same)))
