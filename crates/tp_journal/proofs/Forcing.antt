-- A record that is forced: what a journal tells then.
use Rattle.std.proofs.Common.{◌≡◌, inl, inr, ℕ, ◌+◌, ◌-◌, Bool, Option, Some, None, Err, List, [], ◌∷◌, ◌++◌, length, map, refl, sym, ap, ◌∙◌, subst, arith}
use Rattle.std.specs.List.{AllByRecursion}
use Rattle.tp_outside.specs.Story.{Story}
use Rattle.tp_logrec.specs.declared.record.LogRec.{LogRec}
use Rattle.tp_journal.specs.Log.{place_behind, StandsFor, StandsInFront, StandsForEither, forced_bytes}
use Rattle.tp_outside.specs.FuseDisk.{Fused, OnFuse}
use Rattle.tp_journal.specs.Stops.{body_piece, Opens, StopsOpening, StopsForcing}
use Rattle.tp_journal.specs.Told.{IsOn, LeavesOnly, LeavesNow}
use Rattle.tp_journal.specs.Started.{Started, Face, Appends, RefusesAppend, Stays, KeepsDisk, IsKept}
use Rattle.tp_journal.specs.Records.{HasText, text, bodies_of, wide_of, recs_of, placed, receipts_from, first_place, AreRecords}
use Rattle.tp_journal.specs.Journals.{kept_of, standing_of}
use Rattle.tp_journal.specs.Keeping.{Standing, Stored, Refused, Forces}
use Rattle.tp_journal.specs.declared.receipts.Receipt.{Receipt}
use Rattle.tp_journal.specs.declared.faults.ForceFault.{ForceFault}
use Rattle.tp_journal.specs.declared.faults.ForceFault.TheVariants.{Full, DiskFault, Shut, NoMemory}
use Rattle.tp_journal.proofs.RecordBodies.{wide_is, recs_is, are_records, bodies-push, texts_more, receipts-push, behind_first}

module _ (shelf : List (List ℕ)) (rec : LogRec) (records : AreRecords shelf) (has : HasText (wide_of shelf) rec) where
  pub all_have : AllByRecursion (HasText (wide_of shelf)) (recs_of shelf ++ rec ∷ [])
  all_have = texts_more (wide_of shelf) (recs_of shelf) rec records.each has

  pub longer_is : shelf ++ text (wide_of shelf) rec ∷ [] ≡ bodies_of (wide_of shelf) (recs_of shelf ++ rec ∷ [])
  longer_is = ap (λ l. l ++ text (wide_of shelf) rec ∷ []) records.are ∙ sym (bodies-push (wide_of shelf) (recs_of shelf) rec)

  module _ (new : List (List ℕ)) (is : new ≡ shelf ++ text (wide_of shelf) rec ∷ []) where
    pub now_is : new ≡ bodies_of (wide_of shelf) (recs_of shelf ++ rec ∷ [])
    now_is = is ∙ longer_is

    pub records_now : AreRecords new
    records_now = subst AreRecords (sym now_is) (are_records (wide_of shelf) (recs_of shelf ++ rec ∷ []) all_have)

    pub wide_now : wide_of new ≡ wide_of shelf
    wide_now = ap wide_of now_is ∙ wide_is (wide_of shelf) (recs_of shelf ++ rec ∷ [])

    pub recs_now : recs_of new ≡ recs_of shelf ++ rec ∷ []
    recs_now = ap recs_of now_is ∙ recs_is (wide_of shelf) (recs_of shelf ++ rec ∷ []) all_have

    pub placed_now : (place : ℕ) → place ≡ place_behind shelf → placed (wide_of new) (recs_of new) ≡ placed (wide_of shelf) (recs_of shelf) ++ record { place = place; rec = rec } ∷ []
    placed_now place at =
        ap (λ w. placed w (recs_of new)) wide_now ∙ ap (λ l. placed (wide_of shelf) l) recs_now ∙ receipts-push (first_place (wide_of shelf)) (wide_of shelf) (recs_of shelf) rec
        ∙ ap (λ (n : ℕ). placed (wide_of shelf) (recs_of shelf) ++ record { place = n; rec = rec } ∷ []) (behind_first (wide_of shelf) (recs_of shelf) ∙ sym (ap place_behind records.are) ∙ sym at)

abbrev pub face_of : {D : Type 0} → Started D (List (List ℕ)) → ℕ → Face
face_of l f = record { bodies = l.shelf; gate = l.gate; shut = l.shut; faults = f }

-- a body that is refused leaves the bodies
pub refused_stays : (old : Face) (body : List ℕ) (new : Face) (fault : ForceFault) → RefusesAppend old body new fault → new.bodies ≡ old.bodies
refused_stays old body new (Full size) refuses = refuses.0.bodies
refused_stays old body new (DiskFault faults) refuses = refuses.0.bodies
refused_stays old body new (Shut faults) refuses = refuses.0.bodies
refused_stays old body new NoMemory refuses = refuses.0.bodies

-- the records that the receipts of a log tell
recs_from : (at : ℕ) (wide : Bool) (rs : List LogRec) → map (λ (r : Receipt). r.rec) (receipts_from at wide rs) ≡ rs
recs_from at wide [] = refl
recs_from at wide (r ∷ rs) = ap (λ (l : List LogRec). r ∷ l) (recs_from (at + 3 + length (text wide r)) wide rs)

pub recs_told : (wide : Bool) (rs : List LogRec) → map (λ (r : Receipt). r.rec) (placed wide rs) ≡ rs
recs_told wide rs = recs_from (first_place wide) wide rs

-- what a crash leaves, said of the records that a journal tells and of its list
abbrev pub Either : Bool → List LogRec → LogRec → Option Story → Option Story → Type 0
Either wide list rec old new = LeavesOnly (StandsForEither (bodies_of wide list) (bodies_of wide (list ++ rec ∷ []))) old new

pub either_list : (wide : Bool) (list : List LogRec) (rec : LogRec) (old new : Option Story) → Either wide (map (λ (r : Receipt). r.rec) (placed wide list)) rec old new → Either wide list rec old new
either_list wide list rec old new leaves = subst (λ l. Either wide l rec old new) (recs_told wide list) leaves

-- and of bodies
either_shelf : (shelf : List (List ℕ)) (rec : LogRec) (old new : Option Story) → AreRecords shelf → HasText (wide_of shelf) rec
    → LeavesOnly (StandsForEither shelf (shelf ++ text (wide_of shelf) rec ∷ [])) old new → Either (wide_of shelf) (map (λ (r : Receipt). r.rec) (placed (wide_of shelf) (recs_of shelf))) rec old new
either_shelf shelf rec old new records has leaves =
    subst (λ l. Either (wide_of shelf) l rec old new) (sym (recs_told (wide_of shelf) (recs_of shelf)))
    (subst (λ b. LeavesOnly (StandsForEither b (bodies_of (wide_of shelf) (recs_of shelf ++ rec ∷ []))) old new) records.are
    (subst (λ b. LeavesOnly (StandsForEither shelf b) old new) (longer_is shelf rec records has) leaves))

-- a crash leaves what is at rest
pub last_at_rest : (told : Option Story) (gate : ℕ) (bodies : List (List ℕ)) (shut : Option ℕ) → shut ≡ None → IsKept told gate bodies shut → LeavesNow (λ file. StandsFor file bodies) told
last_at_rest None gate bodies shut open_now kept = tt
last_at_rest (Some s) gate bodies (Some faults) open_now kept = absurd (cc open_now)
last_at_rest (Some s) gate bodies None open_now (inl none) = absurd (cc none)
last_at_rest (Some s) gate bodies None open_now (inr rests) = λ c image. inl (subst (λ f. StandsInFront f bodies) (sym (rests.on.0 c image ∙ rests.on.1)) rests.stands)

-- a story that a disk goes on telling
pub told_on : (P : List ℕ → Type 0) (old new : Option Story) → (old ≡ None → new ≡ None) → ((s : Story) → old ≡ Some s → LeavesOnly P old new) → LeavesOnly P old new
told_on P None new untold leaves = untold refl
told_on P (Some s) new untold leaves = leaves s refl

module _ {D : Type 0} (faults : D → ℕ) (told : D → Option Story) (fuse : D → Option Fused) (old new : Started D (List (List ℕ))) (rec : LogRec) (records : AreRecords old.shelf) (has : HasText (wide_of old.shelf) rec)
    (leaves : old.shut ≡ None → LeavesOnly (StandsForEither old.shelf (old.shelf ++ text (wide_of old.shelf) rec ∷ [])) (told old.disk) (told new.disk)) where
  abbrev before : Standing
  before = standing_of (kept_of old) (faults old.disk) (told old.disk) (fuse old.disk)

  abbrev after : Standing
  after = standing_of (kept_of new) (faults new.disk) (told new.disk) (fuse new.disk)

  pub stored : (place : ℕ) → old.gate ≡ place_behind old.shelf → Appends (face_of old (faults old.disk)) (text (wide_of old.shelf) rec) place (face_of new (faults new.disk)) → IsKept (told new.disk) new.gate new.shelf new.shut
      → ((file : List ℕ) → IsOn (told old.disk) file → IsOn (told new.disk) (forced_bytes old.gate (text (wide_of old.shelf) rec) file)) → OnFuse (Opens old.gate (body_piece (text (wide_of old.shelf) rec))) (fuse old.disk) (fuse new.disk) → Stored before rec (record { place = place; rec = rec }) after
  stored place at appends kept bytes passes = record {
    same = refl;
    kept = placed_now old.shelf rec records has new.shelf appends.bodies place (appends.at_gate ∙ at);
    told = inr refl;
    length_told = ap Some (appends.gate ∙ omega arith);
    room = omega (arith, appends.room);
    open_before = appends.open_before;
    open_after = appends.open_after;
    faults = appends.faults;
    wide = wide_now old.shelf rec records has new.shelf appends.bodies;
    lasting = refl;
    moments = either_shelf old.shelf rec (told old.disk) (told new.disk) records has (leaves appends.open_before);
    last =
        let wide = wide_of old.shelf in
        let are : new.shelf ≡ bodies_of wide (map (λ (r : Receipt). r.rec) (placed wide (recs_of old.shelf)) ++ rec ∷ []) =
        now_is old.shelf rec records has new.shelf appends.bodies ∙ ap (λ l. bodies_of wide (l ++ rec ∷ [])) (sym (recs_told wide (recs_of old.shelf))) in
        subst (λ b. LeavesNow (λ file. StandsFor file b) (told new.disk)) are (last_at_rest (told new.disk) new.gate new.shelf new.shut appends.open_after kept);
    bytes = λ file on. let same : old.gate ≡ old.gate + 1 - 1 = omega arith in subst (λ (n : ℕ). IsOn (told new.disk) (forced_bytes n (text (wide_of old.shelf) rec) file)) same (bytes file on);
    fuse = let same : old.gate ≡ old.gate + 1 - 1 = omega arith in subst (λ (n : ℕ). OnFuse (Opens n (body_piece (text (wide_of old.shelf) rec))) (fuse old.disk) (fuse new.disk)) same passes;
  }

  stays : Stays (face_of old (faults old.disk)) (face_of new (faults new.disk)) → Refused before after
  stays same = record {
    kept = ap (λ b. placed (wide_of b) (recs_of b)) same.bodies;
    told = ap (λ b. placed (wide_of b) (recs_of b)) same.bodies;
    length_told = ap (λ (n : ℕ). Some (n + 1)) same.gate;
    faults = same.faults;
    wide = ap wide_of same.bodies;
    lasting = refl;
  }

  nothing : Stays (face_of old (faults old.disk)) (face_of new (faults new.disk)) → old.shut ≡ None → new.shut ≡ None → new.disk ≡ old.disk → after ≡ before
  nothing same open_before open_after disk =
      let bodies = same.bodies in
      let gate = same.gate in
      rw (bodies, gate, disk, open_before, open_after) refl

  pub refused : (fault : ForceFault) → RefusesAppend (face_of old (faults old.disk)) (text (wide_of old.shelf) rec) (face_of new (faults new.disk)) fault → KeepsDisk old.disk new.disk fault
      → StopsForcing old.gate (text (wide_of old.shelf) rec) (fuse old.disk) (fuse new.disk) fault → Forces before rec (Err fault) after
  refused (Full size) (same, open_before, open_after, is, long) disk stops = (stays same, (is ∙ omega arith, long), open_before, open_after, ap told disk, stops)
  refused (DiskFault n) (same, open_before, shut, counted, risen, room) disk stops =
      let gate : old.gate ≡ old.gate + 1 - 1 = omega arith in (
        stays same,
        risen,
        open_before,
        shut,
        counted,
        either_shelf old.shelf rec (told old.disk) (told new.disk) records has (leaves open_before),
        subst (λ (n : ℕ). OnFuse (StopsOpening n (body_piece (text (wide_of old.shelf) rec))) (fuse old.disk) (fuse new.disk)) gate stops,
      )
  refused (Shut n) (same, shut_before, shut) disk stops = (stays same, shut_before, shut, ap told disk, stops)
  refused NoMemory (same, open_before, open_after, room) disk stops = nothing same open_before open_after disk
