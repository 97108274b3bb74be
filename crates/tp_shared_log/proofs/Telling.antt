-- A disk under the lock goes on telling its story, and what that says of a crash.
use Rattle.std.proofs.Common.{◌≡◌, ◌≤◌, inl, inr, ℕ, Bool, Option, Some, None, Result, Ok, Err, OnOk, IfErr, List, [], ◌∷◌, ◌++◌, length, take, sym, ap, ◌∙◌, subst, arith}
use Rattle.tp_outside.specs.Story.{Story, Leaves as LeavesNow}
use Rattle.tp_outside.proofs.Stories.{started}
use Rattle.tp_logrec.specs.declared.record.LogRec.{LogRec}
use Rattle.tp_journal.specs.declared.faults.ForceFault.{ForceFault}
use Rattle.tp_journal.specs.declared.receipts.Receipt.{Receipt}
use Rattle.tp_journal.specs.Journals.{Kept, bodies_in, standing_of, Tells}
use Rattle.tp_journal.specs.Gathering.{Gathered, RefusesSettle, bodies_settled}
use Rattle.tp_journal.specs.Keeping.{Forces, Refused}
use Rattle.tp_journal.specs.Log.{StandsFor, StandsForEither, StandsInFront}
use Rattle.tp_journal.specs.Records.{bodies_of, placed}
use Rattle.tp_journal.specs.Started.{IsStarted, IsKept, KeepsDisk}
use Rattle.tp_journal.specs.Told.{LeavesOnly}
use Rattle.tp_journal.proofs.Steps.{leaves_weaker, then_leaves}
use Rattle.tp_shared_log.specs.Images.{StandsForFirst, Leaves}
use Rattle.tp_shared_log.specs.Locks.{StillTells}
use Rattle.tp_shared_log.proofs.Fronts.{whole, either, more}
use Rattle.tp_shared_log.proofs.Keeping.{same_refused}
use Rattle.tp_shared_log.proofs.Placed.{placed_same, placed_more}

-- ---- records are noted

-- the disk is what it was, and the list has the record or not
pub noted_tells : {D : Type 0} (told : D → Option Story) (first : Option Story) (least : ℕ) (old new : Kept D) (n m : ℕ) (rec : LogRec) (result : Result Receipt ForceFault)
    → StillTells first least old.wide old.list (told old.disk) → Forces (standing_of old n None None) rec result (standing_of new m None None) → new.disk ≡ old.disk → StillTells first least new.wide new.list (told new.disk)
noted_tells told None least old new n m rec result tells forces disk = tt
noted_tells {D} told (Some s) least old new n m rec result tells forces disk = answers result forces
  where
    on : (list : List LogRec) → new.list ≡ list → new.wide ≡ old.wide → LeavesOnly (StandsForFirst least old.wide list) (Some s) (told old.disk) → LeavesOnly (StandsForFirst least new.wide new.list) (Some s) (told new.disk)
    on list is wide leaves =
        subst (λ d. LeavesOnly (StandsForFirst least new.wide new.list) (Some s) (told d)) (sym disk)
        (subst (λ l. LeavesOnly (StandsForFirst least new.wide l) (Some s) (told old.disk)) (sym is)
        (subst (λ w. LeavesOnly (StandsForFirst least w list) (Some s) (told old.disk)) (sym wide) leaves))

    stays : Refused (standing_of old n None None) (standing_of new m None None) → LeavesOnly (StandsForFirst least new.wide new.list) (Some s) (told new.disk)
    stays refused = on old.list (placed_same new.wide old.wide new.list old.list refused.kept) refused.wide tells

    answers : (r : Result Receipt ForceFault) → Forces (standing_of old n None None) rec r (standing_of new m None None) → LeavesOnly (StandsForFirst least new.wide new.list) (Some s) (told new.disk)
    answers (Ok r) stored =
        on (old.list ++ r.rec ∷ []) (placed_more new.wide old.wide new.list old.list r stored.kept) stored.wide
        (leaves_weaker _ _ (Some s) (told old.disk) (more least old.wide old.list r.rec) tells)
    answers (Err (ForceFault.Full size)) refuses = stays refuses.0
    answers (Err (ForceFault.DiskFault faults)) refuses = stays refuses.0
    answers (Err (ForceFault.Shut faults)) refuses = stays refuses.0
    answers (Err ForceFault.NoMemory) refuses = stays (same_refused old new n m refuses)

-- ---- what is noted is settled

module _ {D : Type 0} (told : D → Option Story) (least : ℕ) (old new : Gathered D) (n m : ℕ) (same : Tells old.journal n new.journal m) where
  -- the disk's story goes on, and the list stays
  on : (s : Story) → LeavesOnly (StandsForFirst least old.journal.wide old.journal.list) (Some s) (told new.journal.disk) → LeavesOnly (StandsForFirst least new.journal.wide new.journal.list) (Some s) (told new.journal.disk)
  on s leaves =
      subst (λ l. LeavesOnly (StandsForFirst least new.journal.wide l) (Some s) (told new.journal.disk)) (sym same.list)
      (subst (λ w. LeavesOnly (StandsForFirst least w old.journal.list) (Some s) (told new.journal.disk)) (sym same.wide) leaves)

module _ {D : Type 0} (told : D → Option Story) (least : ℕ) (old new : Gathered D) (n m : ℕ) (same : Tells old.journal n new.journal m) (few : least ≤ old.settled) (within : old.settled ≤ length old.journal.list)
    (moments : old.journal.shut ≡ None → (s : Story) → told old.journal.disk ≡ Some s → LeavesOnly (StandsForEither (bodies_settled old) (bodies_in old.journal)) (told old.journal.disk) (told new.journal.disk)) where
  moved : (first : Option Story) → old.journal.shut ≡ None → StillTells first least old.journal.wide old.journal.list (told old.journal.disk) → StillTells first least new.journal.wide new.journal.list (told new.journal.disk)
  moved None open_before tells = tt
  moved (Some s) open_before tells =
      on told least old new n m same s
      (then_leaves _ (Some s) (told old.journal.disk) (told new.journal.disk) tells
      (leaves_weaker _ _ (told old.journal.disk) (told new.journal.disk) (either least old.journal.wide old.journal.list old.settled few within) (moments open_before tells.0 tells.1)))

  still : (first : Option Story) → new.journal.disk ≡ old.journal.disk → StillTells first least old.journal.wide old.journal.list (told old.journal.disk) → StillTells first least new.journal.wide new.journal.list (told new.journal.disk)
  still None disk tells = tt
  still (Some s) disk tells = on told least old new n m same s (subst (λ d. LeavesOnly (StandsForFirst least old.journal.wide old.journal.list) (Some s) (told d)) (sym disk) tells)

  pub settle_tells : {A : Type 0} (first : Option Story) (r : Result A ForceFault) → OnOk r ((old.journal.shut ≡ None) × (new.journal.shut ≡ None)) → IfErr r (RefusesSettle old.journal n new.journal m) → IfErr r (KeepsDisk old.journal.disk new.journal.disk)
      → StillTells first least old.journal.wide old.journal.list (told old.journal.disk) → StillTells first least new.journal.wide new.journal.list (told new.journal.disk)
  settle_tells first (Ok a) (open_before, open_after) refused keeps tells = moved first open_before tells
  settle_tells first (Err (ForceFault.Full size)) ok refused keeps tells = absurd refused
  settle_tells first (Err (ForceFault.DiskFault faults)) ok refused keeps tells = moved first refused.0 tells
  settle_tells first (Err (ForceFault.Shut faults)) ok refused keeps tells = still first keeps tells
  settle_tells first (Err ForceFault.NoMemory) ok refused keeps tells = absurd refused

-- ---- the first moment and the last

-- what a crash leaves of a log at rest
at_rest : (told : Option Story) (gate : ℕ) (bodies : List (List ℕ)) (now : Story) → told ≡ Some now → IsKept told gate bodies None → LeavesNow (λ file. StandsFor file bodies) now
at_rest told gate bodies now is (inl none) = absurd (cc (none, is))
at_rest told gate bodies now is (inr rests) =
    let on = rw is at rests.on in
    λ c image. inl (subst (λ f. StandsInFront f bodies) (sym (on.0 c image ∙ on.1)) rests.stands)

-- the records that stand
pub tells_at_first : (told first : Option Story) (least : ℕ) (wide : Bool) (list : List LogRec) (gate : ℕ) → first ≡ told → least ≤ length list → IsKept told gate (bodies_of wide list) None → StillTells first least wide list told
tells_at_first told None least wide list gate same few kept = tt
tells_at_first told (Some s) least wide list gate same few kept =
    let now = at_rest told gate (bodies_of wide list) s (sym same) kept in
    (s, sym same, started (StandsForFirst least wide list) s (λ c image. whole least wide list c few (now c image)))

pub tells_first : {D : Type 0} (told : D → Option Story) (first : Option Story) (least : ℕ) (j : Kept D) (shut : Option ℕ) → first ≡ told j.disk → least ≡ length j.list → j.shut ≡ None → shut ≡ j.shut
    → IsStarted (told j.disk) j.gate (bodies_in j) shut → StillTells first least j.wide j.list (told j.disk)
tells_first told first least j shut same many open_now is started_so =
    tells_at_first (told j.disk) first least j.wide j.list j.gate same (omega (arith, many)) (subst (λ o. IsKept (told j.disk) j.gate (bodies_in j) o) (is ∙ open_now) started_so.kept)

-- a journal that is handed back
pub leaves_then : {D : Type 0} (told : D → Option Story) (first : Option Story) (least : ℕ) (j : Kept D) (shut : Option ℕ) → StillTells first least j.wide j.list (told j.disk) → shut ≡ j.shut
    → IsStarted (told j.disk) j.gate (bodies_in j) shut → Leaves first least j.wide j.list j.shut (told j.disk)
leaves_then told first least j shut tells is started_so =
    handed first (told j.disk) least j.wide j.list j.gate j.shut tells (subst (λ o. IsKept (told j.disk) j.gate (bodies_in j) o) is started_so.kept)
  where
    handed : (first told : Option Story) (least : ℕ) (wide : Bool) (list : List LogRec) (gate : ℕ) (shut : Option ℕ) → StillTells first least wide list told → IsKept told gate (bodies_of wide list) shut → Leaves first least wide list shut told
    handed None told least wide list gate shut tells kept = tt
    handed (Some s) told least wide list gate (Some faults) tells kept = record {
      now = tells.0;
      tells = tells.1;
      last = tells.2.each 0 (omega arith);
      since = tells.2;
    }
    handed (Some s) told least wide list gate None tells kept = record {
      now = tells.0;
      tells = tells.1;
      last = at_rest told gate (bodies_of wide list) tells.0 tells.1 kept;
      since = tells.2;
    }
