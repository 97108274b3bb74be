use Rattle.std.proofs.Common.{◌≡◌, ◌+◌, ◌-◌, ◌++◌, [], ◌∷◌, None, length, rules, sym, ap, ◌∙◌, subst, arith, length-append}
use Rattle.tp_journal.specs.Log.{counted, place_behind, forced_bytes}
use Rattle.tp_journal.specs.Started.{Started}
use Rattle.tp_outside.specs.FuseDisk.{OnFuse}
use Rattle.tp_journal.specs.Stops.{body_piece, Opens, StopsOpening}
use Rattle.tp_journal.specs.Told.{IsOn, RestsAt}
use Rattle.tp_journal.proofs.Appending.{one_block}
use Rattle.tp_journal.proofs.Exactly.{has_gate, body_forced}
use Rattle.tp_journal.proofs.Kept.{kept_on}
use Rattle.tp_journal.proofs.OneMore.{place_more}
use Rattle.tp_journal.proofs.Unmoved.{unmoved_inside}
use Rattle.tp_journal.proofs.log.Log.append_piece.Goals as goal

pub returns-in_err-put-clause-moments : goal.returns-in_err-put-clause-moments
returns-in_err-put-clause-moments g c open_now s is = unmoved_inside g.D.Disk.told g.S.Shelf.bodies _ _ c.self.view_is c.self.invariant.kept open_now s is _

pub invariant_of-self-2 : goal.invariant_of-self-2
invariant_of-self-2 g c =
    let told = g.D.Disk.told in
    let old = g.S.Shelf.bodies c.self.inside.shelf in
    let new = g.S.Shelf.bodies c.put.new.self in
    let body = c.args.body.now in
    let piece : c.args.piece.now ≡ counted body ++ 0 ∷ [] = c.requires.piece in
    let longer : new ≡ old ++ body ∷ [] = c.in_ok-put.ensures.ok in
    let place : c.self.inside.gate + 4 + length body - 1 ≡ place_behind new = place_more old new body longer c.self.inside.gate c.self.invariant.place in
    let long : c.self.inside.gate + length c.args.piece.now ≡ c.self.inside.gate + 4 + length body - 1 = omega (arith, ap length piece, length-append (counted body) (0 ∷ [])) in
    record {
      small = search rules;
      kept = kept_on (told c.self.inside.disk) (told c.append.new.disk) c.self.inside.gate _ old new c.self.inside.shut c.self.invariant.kept (search rules) c.append.ensures.untold
          (λ rests. subst (RestsAt (told c.append.new.disk) _) (sym longer) ((c.in-Ok.ensures {u = tt}).rests old (body ∷ []) rests (c.requires.body, tt) (one_block body c.args.piece.now piece)));
      place = long ∙ place;
    }

pub returns-clause-started : goal.returns-clause-started
returns-clause-started g c =
    let told = g.D.Disk.told in
    let old = g.S.Shelf.bodies c.self.inside.shelf in
    let new = g.S.Shelf.bodies c.put.new.self in
    let body = c.args.body.now in
    let piece : c.args.piece.now ≡ counted body ++ 0 ∷ [] = c.requires.piece in
    let longer : new ≡ old ++ body ∷ [] = c.in_ok-put.ensures.ok in
    let place : c.self.inside.gate + 4 + length body - 1 ≡ place_behind new = place_more old new body longer c.self.inside.gate c.self.invariant.place in
    let long : c.self.inside.gate + length c.args.piece.now ≡ c.self.inside.gate + 4 + length body - 1 = omega (arith, ap length piece, length-append (counted body) (0 ∷ [])) in
    record {
      small = search rules;
      kept = kept_on (told c.self.inside.disk) (told c.append.new.disk) c.self.inside.gate _ old new c.self.inside.shut c.self.invariant.kept (search rules) c.append.ensures.untold
          (λ rests. subst (RestsAt (told c.append.new.disk) _) (sym longer) ((c.in-Ok.ensures {u = tt}).rests old (body ∷ []) rests (c.requires.body, tt) (one_block body c.args.piece.now piece)));
      place = long ∙ place;
    }

pub returns-clause-bytes : goal.returns-clause-bytes
returns-clause-bytes g c file on =
    let told = g.D.Disk.told in
    let log = c.self.inside in
    let body = c.args.body.now in
    let piece : c.args.piece.now ≡ counted body ++ 0 ∷ [] = c.requires.piece in
    let open_now : log.shut ≡ None = search rules in
    let forced : IsOn (told log.disk) file → IsOn (told c.append.new.disk) (forced_bytes log.gate body file) =
    λ on. body_forced log.gate body c.args.piece.now file (told c.append.new.disk) piece ((c.in-Ok.ensures {u = tt}).bytes file on (has_gate (told log.disk) log.gate (g.S.Shelf.bodies log.shelf) log.shut open_now c.self.invariant.kept file on)) in
    subst (λ (v : Started _ _). IsOn (told v.disk) file → IsOn (told c.append.new.disk) (forced_bytes v.gate body file)) c.self.view_is forced on

pub returns-in_default-clause-stops : goal.returns-in_default-clause-stops
returns-in_default-clause-stops g c =
    let fuse = g.D.Disk.fuse in
    let log = c.self.inside in
    let body = c.args.body.now in
    let piece : c.args.piece.now ≡ counted body ++ 0 ∷ [] = c.requires.piece in
    let stops : OnFuse (StopsOpening log.gate (body_piece body)) (fuse log.disk) (fuse c.append.new.disk) =
    subst (λ p. OnFuse (StopsOpening log.gate p) (fuse log.disk) (fuse c.append.new.disk)) piece ((c.in_default.ensures {u = tt}).stops) in
    subst (λ (v : Started _ _). OnFuse (StopsOpening v.gate (body_piece body)) (fuse v.disk) (fuse c.append.new.disk)) c.self.view_is stops

pub returns-clause-passes : goal.returns-clause-passes
returns-clause-passes g c =
    let fuse = g.D.Disk.fuse in
    let log = c.self.inside in
    let body = c.args.body.now in
    let piece : c.args.piece.now ≡ counted body ++ 0 ∷ [] = c.requires.piece in
    let passes : OnFuse (Opens log.gate (body_piece body)) (fuse log.disk) (fuse c.append.new.disk) =
    subst (λ p. OnFuse (Opens log.gate p) (fuse log.disk) (fuse c.append.new.disk)) piece ((c.in-Ok.ensures {u = tt}).passes) in
    subst (λ (v : Started _ _). OnFuse (Opens v.gate (body_piece body)) (fuse v.disk) (fuse c.append.new.disk)) c.self.view_is passes
