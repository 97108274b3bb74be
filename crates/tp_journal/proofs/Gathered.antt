-- Records that are on the disk and records that are noted: their bodies and their texts.
use Rattle.std.proofs.Common.{◌≡◌, ◌≤◌, ◌<◌, ◌+◌, ◌-◌, ℕ, Bool, Option, Some, None, List, [], ◌∷◌, ◌++◌, length, take, drop, set, zero, suc, refl, sym, ap, ◌∙◌, subst, arith, append_assoc, length-append, length-drop, take-append-drop}
use Rattle.std.proofs.lemmas.List.{take-append-le, drop-append-le, set_at}
use Rattle.std.specs.List.{AllByRecursion}
use Rattle.tp_outside.specs.Story.{Story}
use Rattle.tp_logrec.specs.declared.record.LogRec.{LogRec}
use Rattle.tp_journal.specs.Log.{IsBody, counted, blocks, place_behind, settled_bytes, StandsFor, StandsForEither}
use Rattle.tp_journal.specs.Records.{HasText, text, texts, marks, bodies_of, wide_of, recs_of, AreRecords}
use Rattle.tp_journal.specs.Stops.{body_piece, with_gate}
use Rattle.tp_journal.specs.Started.{Started, IsStarted, IsKept}
use Rattle.tp_journal.specs.Told.{IsOn, LeavesOnly, LeavesNow, LeavesFront, RestsAt}
use Rattle.tp_journal.specs.Journals.{bodies_in}
use Rattle.tp_journal.specs.Gathering.{Gathered, IsGathered, Stays, bodies_settled, bodies_noted, gathered_of}
use Rattle.tp_journal.proofs.Appending.{blocks-append, blocks-push}
use Rattle.tp_journal.proofs.Exactly.{has_gate}
use Rattle.tp_journal.proofs.Forcing.{last_at_rest}
use Rattle.tp_journal.proofs.Fronts.{front_still, still_rests}
use Rattle.tp_journal.proofs.Kept.{at_rest, kept_on, kept_leaves}
use Rattle.tp_journal.proofs.SettledBytes.{opened_all}
use Rattle.tp_journal.proofs.Sizes.{texts_are}
use Rattle.tp_journal.proofs.Unmoved.{still}

texts-append : (wide : Bool) (xs ys : List LogRec) → texts wide (xs ++ ys) ≡ texts wide xs ++ texts wide ys
texts-append wide [] ys = refl
texts-append wide (x ∷ xs) ys = ap (λ l. text wide x ∷ l) (texts-append wide xs ys)

each-drop : (P : LogRec → Type 0) (n : ℕ) (rs : List LogRec) → AllByRecursion P rs → AllByRecursion P (drop n rs)
each-drop P zero rs all = all
each-drop P (suc n) [] all = tt
each-drop P (suc n) (r ∷ rs) all = each-drop P n rs all.1

long_texts : (wide : Bool) (rs : List LogRec) → length (texts wide rs) ≡ length rs
long_texts wide [] = refl
long_texts wide (r ∷ rs) = omega (arith, long_texts wide rs)

module _ (wide : Bool) (list : List LogRec) (n : ℕ) where
  abbrev pub stood : List (List ℕ)
  stood = bodies_of wide (take n list)

  abbrev pub noted : List (List ℕ)
  noted = texts wide (drop n list)

  -- all bodies
  pub parts : bodies_of wide list ≡ stood ++ noted
  parts =
      ap (λ l. bodies_of wide l) (sym (take-append-drop n list)) ∙ ap (λ l. marks wide ++ l) (texts-append wide (take n list) (drop n list))
      ∙ sym (append_assoc (marks wide) (texts wide (take n list)) (texts wide (drop n list)))

  pub noted_bodies : AllByRecursion (HasText wide) list → AllByRecursion IsBody noted
  noted_bodies each = texts_are wide (drop n list) (each-drop (HasText wide) n list each)

  -- the closing gate on the disk, and the one after all records
  pub gates : place_behind (bodies_of wide list) ≡ place_behind stood + length (blocks noted)
  gates = omega (arith, ap (λ (l : List (List ℕ)). length (blocks l)) parts, ap length (blocks-append stood noted), length-append (blocks stood) (blocks noted))

  -- one record more
  module _ (within : n ≤ length list) (rec : LogRec) where
    pub stood_same : bodies_of wide (take n (list ++ rec ∷ [])) ≡ stood
    stood_same = ap (λ l. bodies_of wide l) (take-append-le n list (rec ∷ []) within)

    pub noted_more : texts wide (drop n (list ++ rec ∷ [])) ≡ noted ++ text wide rec ∷ []
    noted_more = ap (λ l. texts wide l) (drop-append-le n list (rec ∷ []) within) ∙ texts-append wide (drop n list) (rec ∷ [])

    pub waits_more : (piece : List ℕ) → piece ≡ body_piece (text wide rec) → blocks noted ++ (1 ∷ piece) ≡ blocks (texts wide (drop n (list ++ rec ∷ []))) ++ 0 ∷ []
    waits_more piece is =
        ap (λ (l : List ℕ). blocks noted ++ (1 ∷ l)) is ∙ sym (append_assoc (blocks noted) (1 ∷ counted (text wide rec)) (0 ∷ []))
        ∙ ap (λ (l : List ℕ). l ++ 0 ∷ []) (sym (blocks-push noted (text wide rec)) ∙ ap blocks (sym noted_more))

-- the gate of a text that waits is open where a body is noted
pub first_open : (xs : List (List ℕ)) (waits : List ℕ) → 0 < length xs → waits ≡ blocks xs ++ 0 ∷ [] → 1 ∷ drop 1 waits ≡ blocks xs ++ 0 ∷ []
first_open [] waits some is = absurd (omega arith)
first_open (x ∷ xs) waits some is = ap (λ (l : List ℕ). 1 ∷ drop 1 l) is

pub some_noted : (wide : Bool) (list : List LogRec) (n : ℕ) → n < length list → 0 < length (texts wide (drop n list))
some_noted wide list n below = omega (arith, long_texts wide (drop n list), length-drop n list)

-- all records are on the disk
take_all : (rs : List LogRec) → take (length rs) rs ≡ rs
take_all [] = refl
take_all (r ∷ rs) = ap (λ l. r ∷ l) (take_all rs)

drop_all : (rs : List LogRec) → drop (length rs) rs ≡ []
drop_all [] = refl
drop_all (r ∷ rs) = drop_all rs

pub all_stood : (wide : Bool) (list : List LogRec) (n : ℕ) → n ≡ length list → bodies_of wide (take n list) ≡ bodies_of wide list
all_stood wide list n is = ap (λ (k : ℕ). bodies_of wide (take k list)) is ∙ ap (λ l. bodies_of wide l) (take_all list)

pub none_noted : (wide : Bool) (list : List LogRec) (n : ℕ) → n ≡ length list → texts wide (drop n list) ≡ []
none_noted wide list n is = ap (λ (k : ℕ). texts wide (drop k list)) is ∙ ap (λ l. texts wide l) (drop_all list)

-- a gate in the middle of a text opens
pub opens_gate : (front piece waits : List ℕ) (last : ℕ) → waits ≡ front ++ 0 ∷ [] → last ≡ length waits - 1 → set (waits ++ piece) last 1 ≡ front ++ (1 ∷ piece)
opens_gate front piece waits last is long =
    ap (λ (l : List ℕ). set (l ++ piece) last 1) is ∙ ap (λ (l : List ℕ). set l last 1) (append_assoc front (0 ∷ []) piece)
    ∙ set_at front 0 piece 1 last (omega (arith, long, ap length is, length-append front (0 ∷ [])))

-- and the first one closes
pub closes_gate : (xs : List (List ℕ)) (waits : List ℕ) → waits ≡ blocks xs ++ 0 ∷ [] → set (take 1 waits) 0 0 ≡ 0 ∷ []
closes_gate [] waits is = ap (λ (l : List ℕ). set (take 1 l) 0 0) is
closes_gate (x ∷ xs) waits is = ap (λ (l : List ℕ). set (take 1 l) 0 0) is

-- ---- the first moment and the last

module _ {D : Type 0} (told : Option Story) (raw : Started D (List (List ℕ))) (n : ℕ) (records : AreRecords raw.shelf) where
  all_settled : n ≡ length (recs_of raw.shelf) → bodies_settled (gathered_of raw n) ≡ raw.shelf
  all_settled all = all_stood (wide_of raw.shelf) (recs_of raw.shelf) n all ∙ sym records.are

  -- a journal notes from now on
  pub first_gathered : IsStarted told raw.gate raw.shelf raw.shut → n ≡ length (recs_of raw.shelf) → IsGathered told (gathered_of raw n) (0 ∷ [])
  first_gathered started all = record {
    small = started.small;
    place = started.place ∙ ap place_behind records.are;
    each = records.each;
    within = omega (arith, all);
    kept = subst (λ b. IsKept told (place_behind b) b raw.shut) (sym (all_settled all)) (subst (λ (k : ℕ). IsKept told k raw.shelf raw.shut) started.place started.kept);
    text = ap (λ (b : List (List ℕ)). blocks b ++ 0 ∷ []) (sym (none_noted (wide_of raw.shelf) (recs_of raw.shelf) n all));
  }

  -- a journal once more
  pub started_again : (waits : List ℕ) → IsGathered told (gathered_of raw n) waits → (raw.shut ≡ None → n ≡ length (recs_of raw.shelf)) → IsStarted told raw.gate raw.shelf raw.shut
  started_again waits is settled =
      let place : raw.gate ≡ place_behind raw.shelf = is.place ∙ ap place_behind (sym records.are) in
      record { small = is.small; kept = again raw.shut settled place is.kept; place = place }
    where
      again : (shut : Option ℕ) → (shut ≡ None → n ≡ length (recs_of raw.shelf)) → raw.gate ≡ place_behind raw.shelf → IsKept told (place_behind (bodies_settled (gathered_of raw n))) (bodies_settled (gathered_of raw n)) shut → IsKept told raw.gate raw.shelf shut
      again (Some faults) settled place kept = tt
      again None settled place kept =
          subst (λ (k : ℕ). IsKept told k raw.shelf None) (sym place) (subst (λ b. IsKept told (place_behind b) b None) (all_settled (settled refl)) kept)

-- ---- what is noted is settled

-- nothing is noted
module _ {D : Type 0} (told : D → Option Story) (old now : Gathered D) (same : old ≡ now) (waits : List ℕ) (is : IsGathered (told old.journal.disk) old waits) where
  now_is : IsGathered (told now.journal.disk) now waits
  now_is = subst (λ v. IsGathered (told v.journal.disk) v waits) same is

  pub settle_unmoved : now.journal.shut ≡ None → (s : Story) → told now.journal.disk ≡ Some s → LeavesOnly (StandsForEither (bodies_settled now) (bodies_in now.journal)) (told now.journal.disk) (told now.journal.disk)
  settle_unmoved open_now s tells = still (told now.journal.disk) (place_behind (bodies_settled now)) (bodies_settled now) (bodies_in now.journal) now.journal.shut open_now now_is.kept s tells

  pub last_unmoved : now.journal.shut ≡ None → now.settled ≡ length now.journal.list → LeavesNow (λ file. StandsFor file (bodies_in now.journal)) (told now.journal.disk)
  last_unmoved open_now all =
      subst (λ b. LeavesNow (λ file. StandsFor file b) (told now.journal.disk)) (all_stood now.journal.wide now.journal.list now.settled all)
      (last_at_rest (told now.journal.disk) (place_behind (bodies_settled now)) (bodies_settled now) now.journal.shut open_now now_is.kept)

  pub bytes_unmoved : now.settled ≡ length now.journal.list → (file : List ℕ) → IsOn (told now.journal.disk) file → IsOn (told now.journal.disk) (settled_bytes (place_behind (bodies_settled now)) (bodies_noted now) file)
  bytes_unmoved all file on =
      subst (λ b. IsOn (told now.journal.disk) (settled_bytes (place_behind (bodies_settled now)) b file)) (sym (none_noted now.journal.wide now.journal.list now.settled all)) on

-- something is

module _ {D : Type 0} (told told_now : Option Story) (g : Gathered D) (waits : List ℕ) (is : IsGathered told g waits) where
  abbrev here : List (List ℕ)
  here = bodies_settled g

  abbrev more : List (List ℕ)
  more = bodies_noted g

  all_parts : bodies_in g.journal ≡ here ++ more
  all_parts = parts g.journal.wide g.journal.list g.settled

  pub long_waits : length waits ≡ length (blocks more) + 1
  long_waits = ap length is.text ∙ length-append (blocks more) (0 ∷ [])

  long_gate : g.journal.gate ≡ place_behind here + length (blocks more)
  long_gate = is.place ∙ gates g.journal.wide g.journal.list g.settled

  -- the closing gate on the disk
  pub gate_here : (at : ℕ) → at ≡ g.journal.gate - (length waits - 1) → at ≡ place_behind here
  gate_here at place = omega (arith, place, long_waits, long_gate)

  pub waits_fit : length waits - 1 ≤ g.journal.gate
  waits_fit = omega (arith, long_waits, long_gate)

  module _ (some : g.settled < length g.journal.list) (at : ℕ) (place : at ≡ place_behind here) (piece : List ℕ) (cut : piece ≡ drop 1 waits) where
    piece_is : 1 ∷ piece ≡ blocks more ++ 0 ∷ []
    piece_is = ap (λ (l : List ℕ). 1 ∷ l) cut ∙ first_open more waits (some_noted g.journal.wide g.journal.list g.settled some) is.text

    abbrev Moves : (List (List ℕ) → List (List ℕ) → Type 0) → Type 0
    Moves P = (bodies more : List (List ℕ)) → RestsAt told at bodies → AllByRecursion IsBody more → 1 ∷ piece ≡ blocks more ++ 0 ∷ [] → P bodies more

    moves : (P : List (List ℕ) → List (List ℕ) → Type 0) → Moves P → RestsAt told (place_behind here) here → P here more
    moves P does rests = does here more (subst (λ (n : ℕ). RestsAt told n here) (sym place) rests) (noted_bodies g.journal.wide g.journal.list g.settled is.each) piece_is

    -- to the byte
    pub settle_bytes : (file : List ℕ) → g.journal.shut ≡ None → IsOn told file → (at < length file → IsOn told_now (with_gate at piece file)) → IsOn told_now (settled_bytes (place_behind here) more file)
    settle_bytes file open_now on writes =
        let within : place_behind here < length file = has_gate told (place_behind here) here g.journal.shut open_now is.kept file on in
        let is_so : with_gate at piece file ≡ settled_bytes at more file = opened_all at more piece file (some_noted g.journal.wide g.journal.list g.settled some) (omega (arith, within, place)) piece_is in
        subst (λ (n : ℕ). IsOn told_now (settled_bytes n more file)) place (subst (IsOn told_now) is_so (writes (omega (arith, within, place))))

    -- at each moment
    pub settle_leaves : Moves (λ bodies more. LeavesOnly (StandsForEither bodies (bodies ++ more)) told told_now) → g.journal.shut ≡ None → (s : Story) → told ≡ Some s → LeavesOnly (StandsForEither here (bodies_in g.journal)) told told_now
    settle_leaves moments open_now s tells =
        subst (λ b. LeavesOnly (StandsForEither here b) told told_now) (sym all_parts)
        (moves (λ bodies more. LeavesOnly (StandsForEither bodies (bodies ++ more)) told told_now) moments (at_rest told (place_behind here) here g.journal.shut open_now is.kept s tells))

    -- and in the end
    pub settle_rests : Moves (λ bodies more. RestsAt told_now (at + length piece) (bodies ++ more)) → g.journal.shut ≡ None → (told ≡ None → told_now ≡ None) → IsKept told_now g.journal.gate (bodies_in g.journal) g.journal.shut
    settle_rests rests open_now untold =
        let gate : at + length piece ≡ g.journal.gate = omega (arith, place, ap length piece_is, length-append (blocks more) (0 ∷ []), long_gate) in
        kept_on told told_now (place_behind here) g.journal.gate here (bodies_in g.journal) g.journal.shut is.kept open_now untold
        (λ before. subst (λ (n : ℕ). RestsAt told_now n (bodies_in g.journal)) gate
        (subst (λ b. RestsAt told_now (at + length piece) b) (sym all_parts)
        (moves (λ bodies more. RestsAt told_now (at + length piece) (bodies ++ more)) rests before)))

  pub settled_now : (n : ℕ) → n ≡ length g.journal.list → (disk : D) → IsKept told_now g.journal.gate (bodies_in g.journal) g.journal.shut → IsGathered told_now (record { journal = record (g.journal) { disk = disk }; settled = n }) (0 ∷ [])
  settled_now n all disk kept =
      let same : bodies_of g.journal.wide (take n g.journal.list) ≡ bodies_in g.journal = all_stood g.journal.wide g.journal.list n all in
      record {
        small = is.small;
        place = is.place;
        each = is.each;
        within = omega (arith, all);
        kept = subst (λ b. IsKept told_now (place_behind b) b g.journal.shut) (sym same) (subst (λ (k : ℕ). IsKept told_now k (bodies_in g.journal) g.journal.shut) is.place kept);
        text = ap (λ (b : List (List ℕ)). blocks b ++ 0 ∷ []) (sym (none_noted g.journal.wide g.journal.list n all));
      }

  -- the disk has failed
  pub failed_now : (disk : D) (faults : ℕ) → IsGathered told_now (record { journal = record (g.journal) { disk = disk; shut = Some faults }; settled = g.settled }) waits
  failed_now disk faults = record { small = is.small; place = is.place; each = is.each; within = is.within; kept = tt; text = is.text }

-- ---- what is after the closing gate changes

module _ {D : Type 0} (told : D → Option Story) (faults : D → ℕ) (g : Gathered D) (waits : List ℕ) (is : IsGathered (told g.journal.disk) g waits) where
  -- nothing does
  pub stays_still : (now : Gathered D) → now ≡ g → Stays told faults g now
  stays_still now same = subst (Stays told faults g) (sym same) record {
    tells = record { wide = refl; list = refl; gate = refl; faults = omega arith };
    settled = refl;
    moments = λ open_now. kept_leaves (told g.journal.disk) (told g.journal.disk) (place_behind (bodies_settled g)) (bodies_settled g) g.journal.shut open_now is.kept (λ none. none) (front_still _ _ _ refl);
    front = front_still _ _ _ refl;
    idle = λ n shut. refl;
  }

  module _ (open_now : g.journal.shut ≡ None) (disk : D) (front : LeavesFront (place_behind (bodies_settled g) + 1) (told g.journal.disk) (told disk)) (untold : told g.journal.disk ≡ None → told disk ≡ None)
      (more : faults g.journal.disk ≤ faults disk) where
    pub stays_on : (shut : Option ℕ) → Stays told faults g (record { journal = record (g.journal) { disk = disk; shut = shut }; settled = g.settled })
    stays_on shut = record {
      tells = record { wide = refl; list = refl; gate = refl; faults = more };
      settled = refl;
      moments = λ open_now. kept_leaves (told g.journal.disk) (told disk) (place_behind (bodies_settled g)) (bodies_settled g) g.journal.shut open_now is.kept untold front;
      front = front;
      idle = λ n shut. absurd (cc (open_now, shut));
    }

    pub goes_on : ((file : List ℕ) → IsOn (told g.journal.disk) file → (now : List ℕ) × IsOn (told disk) now) → IsGathered (told disk) (record { journal = record (g.journal) { disk = disk }; settled = g.settled }) waits
    goes_on on = record {
      small = is.small;
      place = is.place;
      each = is.each;
      within = is.within;
      kept = kept_on (told g.journal.disk) (told disk) (place_behind (bodies_settled g)) (place_behind (bodies_settled g)) (bodies_settled g) (bodies_settled g) g.journal.shut is.kept open_now untold
          (λ rests. let now = on rests.file rests.on in still_rests (told g.journal.disk) (told disk) (place_behind (bodies_settled g)) (bodies_settled g) front rests now.0 now.1);
      text = is.text;
    }
