-- A record is noted: what a gathering tells and keeps then.
use Rattle.std.proofs.Common.{◌≡◌, ◌≤◌, ◌+◌, ◌-◌, inl, ℕ, Option, Some, None, List, [], ◌∷◌, ◌++◌, length, take, drop, refl, sym, ap, ◌∙◌, subst, arith, length-append}
use Rattle.std.specs.List.{AllByRecursion}
use Rattle.tp_outside.specs.Story.{Story}
use Rattle.tp_logrec.specs.declared.record.LogRec.{LogRec}
use Rattle.tp_journal.specs.Log.{blocks, place_behind, most_bytes}
use Rattle.tp_journal.specs.Records.{HasText, text, texts, bodies_of, wide_of, AreRecords}
use Rattle.tp_journal.specs.Stops.{body_piece}
use Rattle.tp_journal.specs.Started.{Started, IsKept}
use Rattle.tp_journal.specs.Journals.{kept_of, standing_of, bodies_in}
use Rattle.tp_journal.specs.Gathering.{Gathered, IsGathered, bodies_settled, bodies_noted}
use Rattle.tp_journal.specs.Keeping.{Stored}
use Rattle.tp_journal.proofs.Forcing.{stored}
use Rattle.tp_journal.proofs.Gathered.{stood_same, waits_more}
use Rattle.tp_journal.proofs.OneMore.{place_more}
use Rattle.tp_journal.proofs.RecordBodies.{bodies-push, texts_more}

-- where no story is told
kept_untold : (gate : ℕ) (bodies : List (List ℕ)) (shut : Option ℕ) → IsKept None gate bodies shut
kept_untold gate bodies None = inl refl
kept_untold gate bodies (Some faults) = tt

-- the record is stored as a keeper says it
pub stored_untold : {D : Type 0} (faults : D → ℕ) (old new : Started D (List (List ℕ))) (rec : LogRec) (place : ℕ) → AreRecords old.shelf → HasText (wide_of old.shelf) rec → place ≡ old.gate → old.gate ≡ place_behind old.shelf → new.disk ≡ old.disk
    → old.shut ≡ None → new.shut ≡ None → new.shelf ≡ old.shelf ++ text (wide_of old.shelf) rec ∷ [] → new.gate + 1 ≡ old.gate + 4 + length (text (wide_of old.shelf) rec) → old.gate + 4 + length (text (wide_of old.shelf) rec) ≤ most_bytes
    → Stored (standing_of (kept_of old) (faults old.disk) None None) rec (record { place = place; rec = rec }) (standing_of (kept_of new) (faults new.disk) None None)
stored_untold faults old new rec place records has at is disk open_before open_after shelf gate room =
    stored faults (λ d. None) (λ d. None) old new rec records has (λ o. refl) place is
    (record {
      at_gate = at;
      room = room;
      open_before = open_before;
      open_after = open_after;
      bodies = shelf;
      gate = gate;
      faults = omega (arith, ap faults disk);
    })
    (kept_untold new.gate new.shelf new.shut) (λ file on. absurd on) refl

-- the parts are kept with one record more
pub noted_now : {D : Type 0} (told : Option Story) (g new : Gathered D) (waits waits_now piece : List ℕ) (rec : LogRec) → IsGathered told g waits → HasText g.journal.wide rec → new.journal.wide ≡ g.journal.wide → new.journal.list ≡ g.journal.list ++ rec ∷ []
    → new.journal.gate + 1 ≡ g.journal.gate + 4 + length (text g.journal.wide rec) → new.journal.shut ≡ g.journal.shut → new.settled ≡ g.settled → g.journal.gate + 4 + length (text g.journal.wide rec) ≤ most_bytes → piece ≡ body_piece (text g.journal.wide rec)
    → waits_now ≡ blocks (bodies_noted g) ++ (1 ∷ piece) → IsGathered told new waits_now
noted_now told g new waits waits_now piece rec is has wide list gate shut settled room whole then =
    let w = g.journal.wide in
    let longer : bodies_in new.journal ≡ bodies_of w (g.journal.list ++ rec ∷ []) = ap (λ v. bodies_of v new.journal.list) wide ∙ ap (λ l. bodies_of w l) list in
    let pushed : bodies_in new.journal ≡ bodies_in g.journal ++ text w rec ∷ [] = longer ∙ bodies-push w g.journal.list rec in
    let place : g.journal.gate + 4 + length (text w rec) - 1 ≡ place_behind (bodies_in new.journal) = place_more (bodies_in g.journal) (bodies_in new.journal) (text w rec) pushed g.journal.gate is.place in
    let stood : bodies_settled new ≡ bodies_settled g =
    ap (λ v. bodies_of v (take new.settled new.journal.list)) wide ∙ ap (λ (k : ℕ). bodies_of w (take k new.journal.list)) settled ∙ ap (λ l. bodies_of w (take g.settled l)) list ∙ stood_same w g.journal.list g.settled is.within rec in
    let noted : bodies_noted new ≡ texts w (drop g.settled (g.journal.list ++ rec ∷ [])) =
    ap (λ v. texts v (drop new.settled new.journal.list)) wide ∙ ap (λ (k : ℕ). texts w (drop k new.journal.list)) settled ∙ ap (λ l. texts w (drop g.settled l)) list in
    record {
      small = omega (arith, gate, room);
      place = omega (arith, gate, place);
      each = subst (λ v. AllByRecursion (HasText v) new.journal.list) (sym wide) (subst (λ l. AllByRecursion (HasText w) l) (sym list) (texts_more w g.journal.list rec is.each has));
      within = omega (arith, settled, is.within, ap length list, length-append g.journal.list (rec ∷ []));
      kept = subst (λ b. IsKept told (place_behind b) b new.journal.shut) (sym stood) (subst (λ o. IsKept told (place_behind (bodies_settled g)) (bodies_settled g) o) (sym shut) is.kept);
      text = then ∙ waits_more w g.journal.list g.settled is.within rec piece whole ∙ ap (λ (b : List (List ℕ)). blocks b ++ 0 ∷ []) (sym noted);
    }
