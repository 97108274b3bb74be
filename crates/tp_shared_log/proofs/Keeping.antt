-- What the lock's type keeps, over a call.
use Rattle.std.proofs.Common.{◌≡◌, ◌≤◌, ◌<◌, ◌+◌, ◌||◌, ℕ, true, Option, Some, None, is_some, Result, Ok, Err, OnOk, IfErr, List, [], ◌∷◌, ◌++◌, length, take, refl, sym, ap, ◌∙◌, subst, arith, length-append}
use Rattle.std.proofs.Math.Seq.{take-length}
use Rattle.std.proofs.lemmas.List.{take-append-le}
use Rattle.tp_outside.specs.Faults.{HasRisen}
use Rattle.tp_outside.specs.Story.{Story}
use Rattle.tp_logrec.specs.declared.record.LogRec.{LogRec}
use Rattle.tp_journal.specs.Gathering.{Gathered, RefusesSettle}
use Rattle.tp_journal.specs.Journals.{Kept, standing_of, Tells}
use Rattle.tp_journal.specs.Keeping.{Standing, Stored, Refused}
use Rattle.tp_journal.specs.Log.{most_bytes}
use Rattle.tp_journal.specs.Records.{placed, text}
use Rattle.tp_journal.specs.declared.faults.ForceFault.{ForceFault}
use Rattle.tp_journal.specs.declared.receipts.Receipt.{Receipt}
use Rattle.tp_shared_log.specs.Locks.{Before, Extends, ShutRose, HadNoRoom, StillTells, IsKept}
use Rattle.tp_shared_log.specs.Spends.{spends}
use Rattle.tp_shared_log.specs.Unfits.{first_of}
use Rattle.tp_shared_log.specs.declared.unfit.Unfit.{Unfit}

extends_more : (stood : List Receipt) (more : ℕ) (list : List Receipt) (r : Receipt) → Extends stood more list → Extends stood (more + 1) (list ++ r ∷ [])
extends_more stood more list r extends =
    let few : length stood ≤ length list = omega (arith, extends.counted) in
    record {
      begins = take-append-le (length stood) list (r ∷ []) few ∙ extends.begins;
      counted = omega (arith, extends.counted, length-append list (r ∷ []));
    }

pub extends_none : (stood list : List Receipt) → stood ≡ list → Extends stood 0 list
extends_none stood list same = record {
  begins = ap (λ l. take (length l) list) same ∙ take-length list ∙ sym same;
  counted = omega (arith, ap length same);
}

rose_on : (before n m : ℕ) (shut : Option ℕ) → n ≤ m → ShutRose before shut n → ShutRose before shut m
rose_on before n m None le rose = omega (arith, rose)
rose_on before n m (Some faults) le rose = omega (arith, rose)

-- the disk has failed
pub rose_now : (before n m faults : ℕ) (shut shut_now : Option ℕ) → shut ≡ None → shut_now ≡ Some faults → ShutRose before shut n → HasRisen n m → ShutRose before shut_now m
rose_now before n m faults shut shut_now open_before is rose risen =
    let small : before ≤ n = subst (λ o. ShutRose before o n) open_before rose in
    subst (λ o. ShutRose before o m) (sym is) (omega (arith, small, risen))

room_on : (gate gate_now : ℕ) (unfit : Option Unfit) → gate ≤ gate_now → HadNoRoom gate unfit → HadNoRoom gate_now unfit
room_on gate gate_now None le room = tt
room_on gate gate_now (Some unfit) le room = (room.0, omega (arith, room.1))

same_value : (n m : ℕ) → Some n ≡ Some m → n ≡ m
same_value n m same = ap (λ o. elim o as (λ _. ℕ) [ None ↦ 0 | Some k ↦ k ]) same

pub same_refused : {D : Type 0} (old new : Kept D) (n m : ℕ) → standing_of new m None None ≡ standing_of old n None None → Refused (standing_of old n None None) (standing_of new m None None)
same_refused old new n m same = record {
  kept = ap (λ s. s.kept) same;
  told = ap (λ s. s.told) same;
  length_told = ap (λ s. s.length_told) same;
  faults = omega (arith, ap (λ s. s.faults) same);
  wide = ap (λ s. s.wide) same;
  lasting = ap (λ s. s.lasting) same;
}

some_first : (unfit : Option Unfit) (size body : ℕ) (shut : Option ℕ) → (is_some shut || is_some (first_of unfit size body)) ≡ true
some_first None size body None = refl
some_first None size body (Some faults) = refl
some_first (Some u) size body None = refl
some_first (Some u) size body (Some faults) = refl

first_room : (unfit : Option Unfit) (size body gate : ℕ) → most_bytes < size → size ≤ gate + 4 + body → HadNoRoom gate unfit → HadNoRoom gate (first_of unfit size body)
first_room None size body gate long fits room = (long, fits)
first_room (Some u) size body gate long fits room = room

module _ {D : Type 0} (before : Before) (old new : Gathered D) (n m : ℕ) (told told_now : Option Story) (forced stakes : ℕ) (unfit : Option Unfit) (kept : IsKept before old n told forced stakes unfit)
    (images : StillTells before.story (length before.stood) new.journal.wide new.journal.list told_now) (settled : old.settled ≤ new.settled) where
  abbrev standing : Standing
  standing = standing_of old.journal n None None

  abbrev standing_now : Standing
  standing_now = standing_of new.journal m None None

  -- a record is noted
  pub kept_stored : (rec : LogRec) (r : Receipt) → Stored standing rec r standing_now → IsKept before new m told_now (forced + 1) stakes unfit
  kept_stored rec r stored =
      let shut : new.journal.shut ≡ old.journal.shut = stored.open_after ∙ sym stored.open_before in
      let gate : new.journal.gate + 1 ≡ old.journal.gate + 1 + 3 + length (text old.journal.wide rec) = same_value _ _ stored.length_told in
      record {
        extends = subst (Extends before.stood (forced + 1)) (sym stored.kept) (extends_more before.stood forced (placed old.journal.wide old.journal.list) r kept.extends);
        settled = omega (arith, kept.settled, settled);
        same_version = stored.wide ∙ kept.same_version;
        shut = subst (λ o. ShutRose before.faults o m) (sym shut) (rose_on before.faults n m old.journal.shut stored.faults kept.shut);
        images = images;
        within = kept.within;
        spent = subst (λ o. stakes < before.shares → (is_some o || is_some unfit) ≡ true) (sym shut) kept.spent;
        no_room = room_on old.journal.gate new.journal.gate unfit (omega (arith, gate)) kept.no_room;
        fits = λ some. omega (arith, gate, stored.room);
      }

  -- the list stays: without a stake, or with one
  module _ (refused : Refused standing standing_now) where
    gate_stays : new.journal.gate ≡ old.journal.gate
    gate_stays = omega (arith, same_value (new.journal.gate + 1) (old.journal.gate + 1) refused.length_told)

    kept_refused : (left : ℕ) (unfit_now : Option Unfit) → left ≤ stakes → ShutRose before.faults new.journal.shut m → (left < before.shares → (is_some new.journal.shut || is_some unfit_now) ≡ true) → HadNoRoom new.journal.gate unfit_now → IsKept before new m told_now forced left unfit_now
    kept_refused left unfit_now fewer rose spent room = record {
      extends = subst (Extends before.stood forced) (sym refused.kept) kept.extends;
      settled = omega (arith, kept.settled, settled);
      same_version = refused.wide ∙ kept.same_version;
      shut = rose;
      images = images;
      within = omega (arith, fewer, kept.within);
      spent = spent;
      no_room = room;
      fits = λ some. omega (arith, gate_stays, kept.fits some);
    }

    room : HadNoRoom new.journal.gate unfit
    room = room_on old.journal.gate new.journal.gate unfit (omega (arith, gate_stays)) kept.no_room

    pub still_rose : new.journal.shut ≡ old.journal.shut → ShutRose before.faults new.journal.shut m
    still_rose shut = subst (λ o. ShutRose before.faults o m) (sym shut) (rose_on before.faults n m old.journal.shut refused.faults kept.shut)

    pub kept_unmoved : new.journal.shut ≡ old.journal.shut → IsKept before new m told_now forced stakes unfit
    kept_unmoved shut = kept_refused stakes unfit (omega arith) (still_rose shut) (subst (λ o. stakes < before.shares → (is_some o || is_some unfit) ≡ true) (sym shut) kept.spent) room

    -- the log is shut after it
    pub kept_shut : (left faults : ℕ) → left + 1 ≡ stakes → new.journal.shut ≡ Some faults → ShutRose before.faults new.journal.shut m → IsKept before new m told_now forced left unfit
    kept_shut left faults one shut rose = kept_refused left unfit (omega (arith, one)) rose (λ less. ap (λ o. is_some o || is_some unfit) shut) room

    -- the record had no room
    pub kept_full : (left size body : ℕ) → left + 1 ≡ stakes → new.journal.shut ≡ old.journal.shut → most_bytes < size → size ≡ old.journal.gate + 4 + body → IsKept before new m told_now forced left (first_of unfit size body)
    kept_full left size body one shut long is = kept_refused left (first_of unfit size body) (omega (arith, one)) (still_rose shut) (λ less. some_first unfit size body new.journal.shut) (first_room unfit size body new.journal.gate long (omega (arith, is, gate_stays)) room)

-- a settle leaves the list
pub tells_refused : {D : Type 0} (old new : Kept D) (n m : ℕ) → Tells old n new m → Refused (standing_of old n None None) (standing_of new m None None)
tells_refused old new n m tells =
    let wide = tells.wide in
    let list = tells.list in
    record {
      kept = ap (λ w. placed w new.list) wide ∙ ap (λ l. placed old.wide l) list;
      told = ap (λ w. placed w new.list) wide ∙ ap (λ l. placed old.wide l) list;
      length_told = ap (λ (k : ℕ). Some (k + 1)) tells.gate;
      faults = tells.faults;
      wide = wide;
      lasting = refl;
    }

-- the log after a settle: a fault of the disk shuts it
pub settled_rose : {A D : Type 0} (r : Result A ForceFault) (before n m : ℕ) (old new : Kept D) → OnOk r ((old.shut ≡ None) × (new.shut ≡ None)) → IfErr r (RefusesSettle old n new m) → n ≤ m → ShutRose before old.shut n → ShutRose before new.shut m
settled_rose (Ok a) before n m old new (open_before, open_after) refused le rose = subst (λ o. ShutRose before o m) (sym (open_after ∙ sym open_before)) (rose_on before n m old.shut le rose)
settled_rose (Err (ForceFault.Full size)) before n m old new ok refused le rose = absurd refused
settled_rose (Err (ForceFault.DiskFault faults)) before n m old new ok (open_before, shut, counted, risen) le rose = rose_now before n m faults old.shut new.shut open_before shut rose risen
settled_rose (Err (ForceFault.Shut faults)) before n m old new ok (shut_before, shut) le rose = subst (λ o. ShutRose before o m) (sym (shut ∙ sym shut_before)) (rose_on before n m old.shut le rose)
settled_rose (Err ForceFault.NoMemory) before n m old new ok refused le rose = absurd refused

pub settled_spent : {A D : Type 0} (r : Result A ForceFault) (n m : ℕ) (old new : Kept D) (unfit : Option Unfit) → OnOk r ((old.shut ≡ None) × (new.shut ≡ None)) → IfErr r (RefusesSettle old n new m) → (is_some old.shut || is_some unfit) ≡ true → (is_some new.shut || is_some unfit) ≡ true
settled_spent (Ok a) n m old new unfit (open_before, open_after) refused spent = subst (λ o. (is_some o || is_some unfit) ≡ true) (sym (open_after ∙ sym open_before)) spent
settled_spent (Err (ForceFault.Full size)) n m old new unfit ok refused spent = absurd refused
settled_spent (Err (ForceFault.DiskFault faults)) n m old new unfit ok (open_before, shut, counted, risen) spent = ap (λ o. is_some o || is_some unfit) shut
settled_spent (Err (ForceFault.Shut faults)) n m old new unfit ok (shut_before, shut) spent = ap (λ o. is_some o || is_some unfit) shut
settled_spent (Err ForceFault.NoMemory) n m old new unfit ok refused spent = absurd refused

-- a settle that fails spends a stake
pub spends_one : {D : Type 0} (old new : Kept D) (n m : ℕ) (fault : ForceFault) → RefusesSettle old n new m fault → spends fault ≡ 1
spends_one old new n m (ForceFault.Full size) refused = absurd refused
spends_one old new n m (ForceFault.DiskFault faults) refused = refl
spends_one old new n m (ForceFault.Shut faults) refused = refl
spends_one old new n m ForceFault.NoMemory refused = absurd refused

pub kept_failed : {D : Type 0} (before : Before) (old new : Gathered D) (n m : ℕ) (told told_now : Option Story) (forced stakes : ℕ) (unfit : Option Unfit) → IsKept before old n told forced stakes unfit
    → StillTells before.story (length before.stood) new.journal.wide new.journal.list told_now → old.settled ≤ new.settled → Tells old.journal n new.journal m → (fault : ForceFault) → RefusesSettle old.journal n new.journal m fault → (left : ℕ) → left + 1 ≡ stakes → IsKept before new m told_now forced left unfit
kept_failed before old new n m told told_now forced stakes unfit kept images settled tells (ForceFault.Full size) refused left one = absurd refused
kept_failed before old new n m told told_now forced stakes unfit kept images settled tells (ForceFault.DiskFault faults) (open_before, shut, counted, risen) left one =
    kept_shut before old new n m told told_now forced stakes unfit kept images settled (tells_refused old.journal new.journal n m tells) left faults one shut (rose_now before.faults n m faults old.journal.shut new.journal.shut open_before shut kept.shut risen)
kept_failed before old new n m told told_now forced stakes unfit kept images settled tells (ForceFault.Shut faults) (shut_before, shut) left one =
    let refused = tells_refused old.journal new.journal n m tells in
    kept_shut before old new n m told told_now forced stakes unfit kept images settled refused left faults one shut (still_rose before old new n m told told_now forced stakes unfit kept images settled refused (shut ∙ sym shut_before))
kept_failed before old new n m told told_now forced stakes unfit kept images settled tells ForceFault.NoMemory refused left one = absurd refused

-- after a settle, whatever it answers, with all stakes that were left
pub kept_settled : {A D : Type 0} (before : Before) (old new : Gathered D) (n m : ℕ) (told told_now : Option Story) (forced stakes : ℕ) (unfit : Option Unfit) → IsKept before old n told forced stakes unfit → StillTells before.story (length before.stood) new.journal.wide new.journal.list told_now
    → old.settled ≤ new.settled → Tells old.journal n new.journal m → (r : Result A ForceFault) → OnOk r ((old.journal.shut ≡ None) × (new.journal.shut ≡ None)) → IfErr r (RefusesSettle old.journal n new.journal m) → IsKept before new m told_now forced stakes unfit
kept_settled before old new n m told told_now forced stakes unfit kept images settled tells r ok refused =
    let stays = tells_refused old.journal new.journal n m tells in
    record {
      extends = subst (Extends before.stood forced) (sym stays.kept) kept.extends;
      settled = omega (arith, kept.settled, settled);
      same_version = tells.wide ∙ kept.same_version;
      shut = settled_rose r before.faults n m old.journal new.journal ok refused tells.faults kept.shut;
      images = images;
      within = kept.within;
      spent = λ less. settled_spent r n m old.journal new.journal unfit ok refused (kept.spent less);
      no_room = room_on old.journal.gate new.journal.gate unfit (omega (arith, tells.gate)) kept.no_room;
      fits = λ some. omega (arith, tells.gate, kept.fits some);
    }
