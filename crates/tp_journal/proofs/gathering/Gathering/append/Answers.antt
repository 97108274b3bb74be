use Rattle.std.proofs.Common.{◌≡◌, ◌≤◌, ◌+◌, None, rules, ◌++◌, [], ◌∷◌, length, arith, refl, sym, ap, ◌∙◌, subst, length-append}
use Rattle.tp_journal.specs.Log.{blocks, counted, place_behind, most_bytes}
use Rattle.tp_journal.specs.Stops.{body_piece}
use Rattle.tp_journal.specs.Started.{Started}
use Rattle.tp_journal.specs.Records.{HasText, text, wide_of}
use Rattle.tp_journal.specs.Journals.{kept_of, standing_of}
use Rattle.tp_journal.specs.Gathering.{Gathered, gathered_of, bodies_noted}
use Rattle.tp_journal.specs.Keeping.{Stored}
use Rattle.tp_journal.proofs.Forcing.{records_now, wide_now, recs_now}
use Rattle.tp_journal.proofs.Gathered.{long_waits}
use Rattle.tp_journal.proofs.Noting.{stored_untold, noted_now}
use Rattle.tp_journal.proofs.OneMore.{body_in_piece}
use Rattle.tp_journal.proofs.gathering.Gathering.append.Goals as goal

pub put_behind-requires-clause-has : goal.put_behind-requires-clause-has
put_behind-requires-clause-has g c = subst (λ (v : Gathered _). HasText v.journal.wide c.args.rec.now) (sym c.self.view_is) c.requires

pub put_behind-requires-clause-body : goal.put_behind-requires-clause-body
put_behind-requires-clause-body g c =
    body_in_piece c.text_len-len.result _ c.as_slice-piece.result.now c.text_len-len.ensures.exact (c.as_slice-piece.ensures ∙ (c.in_ok-write_piece.ensures {u = tt})) ∙ ap (λ w. text w c.args.rec.now) c.wide-wide.ensures

pub put_behind-requires-clause-place : goal.put_behind-requires-clause-place
put_behind-requires-clause-place g c = c.self.invariant.1.place ∙ ap place_behind (sym c.self.invariant.0.are)

pub put_behind-requires-clause-some : goal.put_behind-requires-clause-some
put_behind-requires-clause-some g c =
    let told = g.D.Disk.told c.self.inside.disk in
    omega (arith, c.self.inside.waits.ok.0, long_waits told told _ c.self.inside.waits.items c.self.invariant.1)

pub invariant_of-self-2 : goal.invariant_of-self-2
invariant_of-self-2 g c =
    let log = c.self.inside in
    let rec = c.args.rec.now in
    let piece = c.as_slice-piece.result.now in
    let body = text (wide_of log.shelf) rec in
    let raw : Started _ _ = record { disk = log.disk; shelf = log.shelf; gate = log.gate; shut = log.shut } in
    let new : Started _ _ = record { disk = log.disk; shelf = c.put_behind.new.shelf; gate = log.gate + length piece; shut = log.shut } in
    let has : HasText (wide_of log.shelf) rec = subst (λ (v : Gathered _). HasText v.journal.wide rec) (sym c.self.view_is) c.requires in
    let shelf : new.shelf ≡ log.shelf ++ body ∷ [] = (c.in_ok-put_behind.ensures {u = tt}).shelf in
    let piece_is : piece ≡ body_piece body = c.as_slice-piece.ensures ∙ (c.in_ok-write_piece.ensures {u = tt}) ∙ ap (λ w. body_piece (text w rec)) c.wide-wide.ensures in
    let long : c.text_len-len.result ≡ length body = c.text_len-len.ensures.exact ∙ ap (λ w. length (text w rec)) c.wide-wide.ensures in
    let gate : log.gate + length piece + 1 ≡ log.gate + 4 + length body = omega (arith, ap length piece_is, length-append (counted body) (0 ∷ [])) in
    let room : log.gate + 4 + length body ≤ most_bytes = omega (arith, long, c.if-size-gt-MOST_BYTES.false) in (
      records_now log.shelf rec c.self.invariant.0 has new.shelf shelf,
      noted_now (g.D.Disk.told log.disk) (gathered_of raw log.settled) (gathered_of new log.settled) log.waits.items c.put_behind.new.waits.items piece rec c.self.invariant.1 has
          (wide_now log.shelf rec c.self.invariant.0 has new.shelf shelf) (recs_now log.shelf rec c.self.invariant.0 has new.shelf shelf) gate refl refl room piece_is
          ((c.in_ok-put_behind.ensures {u = tt}).waits (blocks (bodies_noted (gathered_of raw log.settled))) c.self.invariant.1.text),
    )

pub returns-clause-notes : goal.returns-clause-notes
returns-clause-notes g c =
    let faults = g.D.Disk.fault_count in
    let log = c.self.inside in
    let rec = c.args.rec.now in
    let piece = c.as_slice-piece.result.now in
    let body = text (wide_of log.shelf) rec in
    let raw : Started _ _ = record { disk = log.disk; shelf = log.shelf; gate = log.gate; shut = log.shut } in
    let new : Started _ _ = record { disk = log.disk; shelf = c.put_behind.new.shelf; gate = log.gate + length piece; shut = log.shut } in
    let has : HasText (wide_of log.shelf) rec = subst (λ (v : Gathered _). HasText v.journal.wide rec) (sym c.self.view_is) c.requires in
    let shelf : new.shelf ≡ log.shelf ++ body ∷ [] = (c.in_ok-put_behind.ensures {u = tt}).shelf in
    let piece_is : piece ≡ body_piece body = c.as_slice-piece.ensures ∙ (c.in_ok-write_piece.ensures {u = tt}) ∙ ap (λ w. body_piece (text w rec)) c.wide-wide.ensures in
    let long : c.text_len-len.result ≡ length body = c.text_len-len.ensures.exact ∙ ap (λ w. length (text w rec)) c.wide-wide.ensures in
    let gate : log.gate + length piece + 1 ≡ log.gate + 4 + length body = omega (arith, ap length piece_is, length-append (counted body) (0 ∷ [])) in
    let room : log.gate + 4 + length body ≤ most_bytes = omega (arith, long, c.if-size-gt-MOST_BYTES.false) in
    let open_now : log.shut ≡ None = search rules in
    let stores : Stored (standing_of (kept_of raw) (faults raw.disk) None None) rec (record { place = log.gate; rec = rec }) (standing_of (kept_of new) (faults new.disk) None None) =
    stored_untold faults raw new rec log.gate c.self.invariant.0 has refl (c.self.invariant.1.place ∙ ap place_behind (sym c.self.invariant.0.are)) refl open_now open_now shelf gate room in
    subst (λ (v : Gathered _). Stored (standing_of v.journal (faults v.journal.disk) None None) rec (record { place = log.gate; rec = rec }) (standing_of (kept_of new) (faults new.disk) None None)) c.self.view_is stores
