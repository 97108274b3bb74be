use Rattle.std.proofs.Common.{◌≡◌, ◌+◌, ◌-◌, take, drop, ℕ, List, None, Err, rules, ◌++◌, [], ◌∷◌, sym, ap, ◌∙◌, subst}
use Rattle.tp_journal.specs.Log.{IsBody, StandsForEither, forced_bytes}
use Rattle.tp_outside.specs.FuseDisk.{OnFuse}
use Rattle.tp_journal.specs.Stops.{body_piece, Opens, StopsForcing}
use Rattle.tp_journal.specs.Told.{IsOn, LeavesOnly}
use Rattle.tp_journal.specs.Started.{Appends, RefusesAppend}
use Rattle.tp_journal.specs.Records.{HasText, text, wide_of, AreRecords}
use Rattle.tp_journal.specs.Journals.{Kept, kept_of, standing_of}
use Rattle.tp_journal.specs.Keeping.{Forces, Stored}
use Rattle.tp_journal.proofs.Forcing.{face_of, refused_stays, told_on, stored, refused, records_now}
use Rattle.tp_journal.proofs.Fronts.{front_still}
use Rattle.tp_journal.proofs.Sizes.{text_is_body}
use Rattle.tp_journal.proofs.OneMore.{body_in_piece}
use Rattle.tp_journal.proofs.journal.Journal.append.Goals as goal

pub append_piece-requires-clause-body : goal.append_piece-requires-clause-body
append_piece-requires-clause-body g c =
    let log = c.self.inside.log in
    let has : HasText (wide_of log.shelf) c.args.rec.now = subst (λ (v : Kept _). HasText v.wide c.args.rec.now) (sym c.self.view_is) c.requires in
    let version : c.wide-wide.result ≡ wide_of log.shelf = c.wide-wide.ensures ∙ ap wide_of c.shelf.ensures in
    let body : take (2 + c.text_len-len.result - 2) (drop 2 c.as_slice-piece.result.now) ≡ text (wide_of log.shelf) c.args.rec.now =
    body_in_piece c.text_len-len.result _ c.as_slice-piece.result.now c.text_len-len.ensures.exact (c.as_slice-piece.ensures ∙ (c.in_ok-write_piece.ensures {u = tt})) ∙ ap (λ w. text w c.args.rec.now) version in
    subst IsBody (sym body) (text_is_body (wide_of log.shelf) c.args.rec.now has)

pub append_piece-requires-clause-says : goal.append_piece-requires-clause-says
append_piece-requires-clause-says g c =
    let log = c.self.inside.log in
    let has : HasText (wide_of log.shelf) c.args.rec.now = subst (λ (v : Kept _). HasText v.wide c.args.rec.now) (sym c.self.view_is) c.requires in
    let version : c.wide-wide.result ≡ wide_of log.shelf = c.wide-wide.ensures ∙ ap wide_of c.shelf.ensures in
    let body : take (2 + c.text_len-len.result - 2) (drop 2 c.as_slice-piece.result.now) ≡ text (wide_of log.shelf) c.args.rec.now =
    body_in_piece c.text_len-len.result _ c.as_slice-piece.result.now c.text_len-len.ensures.exact (c.as_slice-piece.ensures ∙ (c.in_ok-write_piece.ensures {u = tt})) ∙ ap (λ w. text w c.args.rec.now) version in
    (has, sym body)

pub invariant_of-self-in_err-place : goal.invariant_of-self-in_err-place
invariant_of-self-in_err-place g c = subst AreRecords (sym (refused_stays _ _ _ _ c.in_err-place.ensures.refused)) c.self.invariant

pub returns-in_err-place-clause-forces : goal.returns-in_err-place-clause-forces
returns-in_err-place-clause-forces g c =
    let log = c.self.inside.log in
    let rec = c.args.rec.now in
    let faults = g.D.Disk.fault_count in
    let told = g.D.Disk.told in
    let fuse = g.D.Disk.fuse in
    let new = c.append_piece.new.self in
    let fault = c.in_err-place.field-0.0 in
    let has : HasText (wide_of log.shelf) rec = subst (λ (v : Kept _). HasText v.wide rec) (sym c.self.view_is) c.requires in
    let version : c.wide-wide.result ≡ wide_of log.shelf = c.wide-wide.ensures ∙ ap wide_of c.shelf.ensures in
    let body : take (2 + c.text_len-len.result - 2) (drop 2 c.as_slice-piece.result.now) ≡ text (wide_of log.shelf) rec =
    body_in_piece c.text_len-len.result _ c.as_slice-piece.result.now c.text_len-len.ensures.exact (c.as_slice-piece.ensures ∙ (c.in_ok-write_piece.ensures {u = tt})) ∙ ap (λ w. text w rec) version in
    let leaves : log.shut ≡ None → LeavesOnly (StandsForEither log.shelf (log.shelf ++ text (wide_of log.shelf) rec ∷ [])) (told log.disk) (told new.disk) =
    λ open_now. subst (λ b. LeavesOnly (StandsForEither log.shelf (log.shelf ++ b ∷ [])) (told log.disk) (told new.disk)) body
    (told_on (StandsForEither log.shelf (log.shelf ++ (take (2 + c.text_len-len.result - 2) (drop 2 c.as_slice-piece.result.now)) ∷ [])) (told log.disk) (told new.disk) c.append_piece.ensures.untold (c.append_piece.ensures.moments open_now)) in
    let refuses : RefusesAppend (face_of log (faults log.disk)) (text (wide_of log.shelf) rec) (face_of new (faults new.disk)) fault =
    subst (λ b. RefusesAppend (face_of log (faults log.disk)) b (face_of new (faults new.disk)) fault) body c.in_err-place.ensures.refused in
    let stops : StopsForcing log.gate (text (wide_of log.shelf) rec) (fuse log.disk) (fuse new.disk) fault = subst (λ b. StopsForcing log.gate b (fuse log.disk) (fuse new.disk) fault) body c.in_err-place.ensures.stops in
    let answer : Forces (standing_of c.args.self.now (faults c.args.self.now.disk) (told c.args.self.now.disk) (fuse c.args.self.now.disk)) rec (Err fault) (standing_of (kept_of new) (faults new.disk) (told new.disk) (fuse new.disk)) =
    subst (λ (v : Kept _). Forces (standing_of v (faults v.disk) (told v.disk) (fuse v.disk)) rec (Err fault) (standing_of (kept_of new) (faults new.disk) (told new.disk) (fuse new.disk))) c.self.view_is
    (refused faults told fuse log new rec c.self.invariant has leaves fault refuses c.in_err-place.ensures.untouched stops) in
    search (rules, answer)

pub invariant_of-self-2 : goal.invariant_of-self-2
invariant_of-self-2 g c =
    let log = c.self.inside.log in
    let rec = c.args.rec.now in
    let has : HasText (wide_of log.shelf) rec = subst (λ (v : Kept _). HasText v.wide rec) (sym c.self.view_is) c.requires in
    let version : c.wide-wide.result ≡ wide_of log.shelf = c.wide-wide.ensures ∙ ap wide_of c.shelf.ensures in
    let body : take (2 + c.text_len-len.result - 2) (drop 2 c.as_slice-piece.result.now) ≡ text (wide_of log.shelf) rec =
    body_in_piece c.text_len-len.result _ c.as_slice-piece.result.now c.text_len-len.ensures.exact (c.as_slice-piece.ensures ∙ (c.in_ok-write_piece.ensures {u = tt})) ∙ ap (λ w. text w rec) version in
    records_now log.shelf rec c.self.invariant has c.append_piece.new.self.shelf (((c.in_ok-place.ensures {u = tt}).appended).bodies ∙ ap (λ b. log.shelf ++ b ∷ []) body)

pub returns-clause-forces : goal.returns-clause-forces
returns-clause-forces g c =
    let log = c.self.inside.log in
    let rec = c.args.rec.now in
    let faults = g.D.Disk.fault_count in
    let has : HasText (wide_of log.shelf) rec = subst (λ (v : Kept _). HasText v.wide rec) (sym c.self.view_is) c.requires in
    let version : c.wide-wide.result ≡ wide_of log.shelf = c.wide-wide.ensures ∙ ap wide_of c.shelf.ensures in
    let body : take (2 + c.text_len-len.result - 2) (drop 2 c.as_slice-piece.result.now) ≡ text (wide_of log.shelf) rec =
    body_in_piece c.text_len-len.result _ c.as_slice-piece.result.now c.text_len-len.ensures.exact (c.as_slice-piece.ensures ∙ (c.in_ok-write_piece.ensures {u = tt})) ∙ ap (λ w. text w rec) version in
    let told = g.D.Disk.told in
    let fuse = g.D.Disk.fuse in
    let new = c.append_piece.new.self in
    let leaves : log.shut ≡ None → LeavesOnly (StandsForEither log.shelf (log.shelf ++ text (wide_of log.shelf) rec ∷ [])) (told log.disk) (told new.disk) =
    λ open_now. subst (λ b. LeavesOnly (StandsForEither log.shelf (log.shelf ++ b ∷ [])) (told log.disk) (told new.disk)) body
    (told_on (StandsForEither log.shelf (log.shelf ++ (take (2 + c.text_len-len.result - 2) (drop 2 c.as_slice-piece.result.now)) ∷ [])) (told log.disk) (told new.disk) c.append_piece.ensures.untold (c.append_piece.ensures.moments open_now)) in
    let place = c.in_ok-place.place in
    let appended = c.in_ok-place.ensures {u = tt} in
    let appends : Appends (face_of log (faults log.disk)) (text (wide_of log.shelf) rec) place (face_of new (faults new.disk)) =
    subst (λ b. Appends (face_of log (faults log.disk)) b place (face_of new (faults new.disk))) body appended.appended in
    let bytes : (file : List ℕ) → IsOn (told log.disk) file → IsOn (told new.disk) (forced_bytes log.gate (text (wide_of log.shelf) rec) file) =
    subst (λ b. (file : List ℕ) → IsOn (told log.disk) file → IsOn (told new.disk) (forced_bytes log.gate b file)) body appended.bytes in
    let passes : OnFuse (Opens log.gate (body_piece (text (wide_of log.shelf) rec))) (fuse log.disk) (fuse new.disk) = subst (λ b. OnFuse (Opens log.gate (body_piece b)) (fuse log.disk) (fuse new.disk)) body appended.passes in
    let stores = stored faults told fuse log new rec c.self.invariant has leaves place c.shut.ensures.started.place appends appended.started.kept bytes passes in
    subst (λ (v : Kept _). Stored (standing_of v (faults v.disk) (told v.disk) (fuse v.disk)) rec (record { place = place; rec = rec }) (standing_of (kept_of new) (faults new.disk) (told new.disk) (fuse new.disk))) c.self.view_is stores

pub returns-in_err-write_piece-clause-front : goal.returns-in_err-write_piece-clause-front
returns-in_err-write_piece-clause-front g c = front_still c.args.self.now.gate _ _ (ap (λ (v : Kept _). g.D.Disk.told v.disk) c.self.view_is)
