use Rattle.std.proofs.Common.{◌++◌, [], ◌∷◌, length-append, ◌≡◌, ◌+◌, ◌-◌, ◌≤◌, ℕ, List, None, length, drop, sym, ap, ◌∙◌, subst, arith, rules}
use Rattle.tp_journal.specs.Log.{blocks, head}
use Rattle.tp_journal.specs.Started.{Started}
use Rattle.tp_journal.specs.Told.{IsOn, IsTextOf, RestsAt}
use Rattle.tp_journal.proofs.Kept.{at_rest, kept_on}
use Rattle.tp_journal.proofs.Unmoved.{unmoved}
use Rattle.tp_journal.proofs.log.Log.replace.Goals as goal

pub returns-in_err-padded-clause-moments : goal.returns-in_err-padded-clause-moments
returns-in_err-padded-clause-moments g c open_now s is = unmoved g.D.Disk.told g.S.Shelf.bodies _ _ c.self.view_is c.self.invariant.kept open_now s is _

pub invariant_of-self-2 : goal.invariant_of-self-2
invariant_of-self-2 g c =
    let bodies = g.S.Shelf.bodies c.args.next in
    let padded = c.deref.result.now in
    let zeros = c.zeros_before-zeros.result in
    let open_now : c.self.inside.shut ≡ None = search rules in
    let whole : drop zeros padded ≡ c.args.text.now = ap (λ (l : List ℕ). drop zeros l) c.deref.ensures.value ∙ (c.in_ok-padded.ensures {u = tt}).whole in
    let long : length padded ≡ zeros + length c.args.text.now = ap length c.deref.ensures.value ∙ (c.in_ok-padded.ensures {u = tt}).long in
    let text : IsTextOf bodies (drop zeros padded) = subst (IsTextOf bodies) (sym whole) c.requires.text in
    let room : length padded ≤ c.self.inside.gate + zeros + zeros - 4 = omega (arith, long, c.zeros_before-zeros.ensures.room) in
    let gate : 4 + length padded - zeros ≡ 4 + length c.args.text.now = omega (arith, long) in
    record {
      small = search rules;
      kept = kept_on _ _ _ _ _ _ _ c.self.invariant.kept open_now c.replace.ensures.untold
          (λ rests. subst (λ (n : ℕ). RestsAt (g.D.Disk.told c.replace.new.disk) n bodies) gate ((c.in-Ok.ensures {u = tt}).rests _ bodies rests text room));
      place = omega (arith, ap length c.requires.text.whole, length-append (blocks bodies) (c.requires.text.gate ∷ []));
    }

pub returns-clause-bytes : goal.returns-clause-bytes
returns-clause-bytes g c s is =
    let told = g.D.Disk.told in
    let log = c.self.inside in
    let bodies = g.S.Shelf.bodies c.args.next in
    let padded = c.deref.result.now in
    let zeros = c.zeros_before-zeros.result in
    let open_now : log.shut ≡ None = search rules in
    let whole : drop zeros padded ≡ c.args.text.now = ap (λ (l : List ℕ). drop zeros l) c.deref.ensures.value ∙ (c.in_ok-padded.ensures {u = tt}).whole in
    let long : length padded ≡ zeros + length c.args.text.now = ap length c.deref.ensures.value ∙ (c.in_ok-padded.ensures {u = tt}).long in
    let text : IsTextOf bodies (drop zeros padded) = subst (IsTextOf bodies) (sym whole) c.requires.text in
    let room : length padded ≤ log.gate + zeros + zeros - 4 = omega (arith, long, c.zeros_before-zeros.ensures.room) in
    let rests : RestsAt (told log.disk) log.gate (g.S.Shelf.bodies log.shelf) = at_rest (told log.disk) log.gate (g.S.Shelf.bodies log.shelf) log.shut open_now c.self.invariant.kept s (ap (λ (v : Started _ _). told v.disk) c.self.view_is ∙ is) in
    subst (λ t. IsOn (told c.replace.new.disk) (head 1 ++ t)) whole ((c.in-Ok.ensures {u = tt}).bytes (g.S.Shelf.bodies log.shelf) bodies rests text room)
