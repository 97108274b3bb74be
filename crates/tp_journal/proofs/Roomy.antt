-- A gathering as a keeper that writes and cuts after its closing gate: what it says of a settle.
use Rattle.std.proofs.Common.{◌≡◌, inl, inr, ◌+◌, ℕ, Option, Some, None, Result, Ok, Err, List, length, map, take, refl, sym, ap, ◌∙◌, subst, arith}
use Rattle.tp_outside.specs.Story.{Story}
use Rattle.tp_journal.specs.declared.faults.ForceFault.{ForceFault}
use Rattle.tp_journal.specs.declared.receipts.Receipt.{Receipt}
use Rattle.tp_journal.specs.declared.faults.ForceFault.TheVariants as force
use Rattle.tp_journal.specs.Log.{StandsFor, StandsForEither}
use Rattle.tp_journal.specs.Told.{LeavesOnly, LeavesNow}
use Rattle.tp_journal.specs.Records.{bodies_of, placed, first_place}
use Rattle.tp_journal.specs.Journals.{bodies_in}
use Rattle.tp_journal.specs.Keeping.{Standing, bodies_kept}
use Rattle.tp_journal.specs.Gathering.{Gathered, IsShutBy, Stays, bodies_settled, gathered_standing}
use Rattle.tp_journal.specs.Settling.{KeepsAll, HasAll, SettlesTo, bodies_on}
use Rattle.tp_journal.proofs.Gathered.{all_stood}
use Rattle.tp_journal.proofs.RecordBodies.{receipts_long}
use Rattle.tp_journal.proofs.Settling.{on_is, kept_is}
use Rattle.tp_journal.proofs.Steps.{leaves_weaker, then_leaves, leaves_at_last}

module _ {D : Type 0} (faults : D → ℕ) (told : D → Option Story) where
  abbrev tells : Gathered D → Standing
  tells g = gathered_standing faults told g

  abbrev Either : Gathered D → List ℕ → Type 0
  Either g = StandsForEither (bodies_on (tells g)) (bodies_kept (tells g))

  module _ (old new : Gathered D) (stays : Stays told faults old new) where
    list_is : placed new.journal.wide new.journal.list ≡ placed old.journal.wide old.journal.list
    list_is = ap (λ w. placed w new.journal.list) stays.tells.wide ∙ ap (placed old.journal.wide) stays.tells.list

    settled_is : bodies_settled new ≡ bodies_settled old
    settled_is =
        ap (λ w. bodies_of w (take new.settled new.journal.list)) stays.tells.wide ∙ ap (λ (n : ℕ). bodies_of old.journal.wide (take n new.journal.list)) stays.settled
        ∙ ap (λ l. bodies_of old.journal.wide (take old.settled l)) stays.tells.list

    all_is : bodies_in new.journal ≡ bodies_in old.journal
    all_is = ap (λ w. bodies_of w new.journal.list) stays.tells.wide ∙ ap (bodies_of old.journal.wide) stays.tells.list

    either_is : Either new ≡ Either old
    either_is =
        ap (λ b. StandsForEither b (bodies_kept (tells new))) (on_is faults told new new ∙ settled_is ∙ sym (on_is faults told old old))
        ∙ ap (λ b. StandsForEither (bodies_on (tells old)) b) (kept_is faults told new new ∙ all_is ∙ sym (kept_is faults told old old))

    -- what is on the disk
    on_disk : old.journal.shut ≡ None → LeavesOnly (λ c. StandsFor c (bodies_on (tells old))) (told old.journal.disk) (told new.journal.disk)
    on_disk open_now = subst (λ b. LeavesOnly (λ c. StandsFor c b) (told old.journal.disk) (told new.journal.disk)) (sym (on_is faults told old old)) (stays.moments open_now)

    -- the disk fails there
    pub room_fails : (n : ℕ) → n ≡ faults new.journal.disk → IsShutBy old.journal (faults old.journal.disk) new.journal (faults new.journal.disk) → SettlesTo (tells old) (Err (force.DiskFault n)) (tells new)
    room_fails n is (open_now, shut, risen) = (
      record {
        kept = list_is;
        told = list_is;
        length_told = ap (λ (n : ℕ). Some (n + 1)) stays.tells.gate;
        faults = stays.tells.faults;
        wide = stays.tells.wide;
        open_before = open_now;
        story = refl;
        moments = leaves_weaker (λ c. StandsFor c (bodies_on (tells old))) (Either old) (told old.journal.disk) (told new.journal.disk) (λ c t. inl t) (on_disk open_now);
      },
      risen,
      shut ∙ ap (λ (m : ℕ). Some m) (sym is),
      is,
    )

  -- room is made, and then all is settled
  module _ (old mid new : Gathered D) (stays : Stays told faults old mid) (shut : mid.journal.shut ≡ old.journal.shut) where
    first_room : KeepsAll (tells mid) (tells new) → KeepsAll (tells old) (tells new)
    first_room k = record {
      kept = k.kept ∙ list_is old mid stays;
      told = k.told ∙ list_is old mid stays;
      length_told = k.length_told ∙ ap (λ (n : ℕ). Some (n + 1)) stays.tells.gate;
      faults = omega (arith, k.faults, stays.tells.faults);
      wide = k.wide ∙ stays.tells.wide;
      open_before = sym shut ∙ k.open_before;
      story = refl;
      moments =
          then_leaves (Either old) (told old.journal.disk) (told mid.journal.disk) (told new.journal.disk)
          (leaves_weaker (λ c. StandsFor c (bodies_on (tells old))) (Either old) (told old.journal.disk) (told mid.journal.disk) (λ c t. inl t) (on_disk old mid stays (sym shut ∙ k.open_before)))
          (subst (λ P. LeavesOnly P (told mid.journal.disk) (told new.journal.disk)) (either_is old mid stays) k.moments);
    }

    pub settles_ahead : (r : Result (Unit {0}) ForceFault) → SettlesTo (tells mid) r (tells new) → SettlesTo (tells old) r (tells new)
    settles_ahead (Ok u) s = record {
      keeps = first_room s.keeps;
      open_after = s.open_after;
      all = s.all;
      last = subst (λ b. LeavesNow (λ file. StandsFor file b) (told new.journal.disk)) (kept_is faults told mid mid ∙ all_is old mid stays ∙ sym (kept_is faults told old old)) s.last;
    }
    settles_ahead (Err (force.Full size)) s = absurd s
    settles_ahead (Err (force.DiskFault n)) (k, risen, is, counted) = (first_room k, omega (arith, risen, stays.tells.faults), is, counted)
    settles_ahead (Err (force.Shut n)) (was, same) = (sym shut ∙ was, same ∙ ap tells (stays.idle n (sym shut ∙ was)))
    settles_ahead (Err force.NoMemory) s = absurd s

  -- all is settled, and then what is after the log is cut off
  module _ (old mid new : Gathered D) (has : HasAll (tells old) (tells mid)) (stays : Stays told faults mid new) where
    on_all : bodies_on (tells mid) ≡ bodies_kept (tells old)
    on_all =
        on_is faults told mid mid ∙ all_stood mid.journal.wide mid.journal.list mid.settled (has.all ∙ receipts_long (first_place mid.journal.wide) mid.journal.wide mid.journal.list)
        ∙ sym (kept_is faults told mid mid) ∙ kept_same
      where
        kept_same : bodies_kept (tells mid) ≡ bodies_kept (tells old)
        kept_same = ap (λ w. bodies_of w (map (λ (r : Receipt). r.rec) (tells mid).kept)) has.keeps.wide ∙ ap (λ k. bodies_of (tells old).wide (map (λ (r : Receipt). r.rec) k)) has.keeps.kept

    all_leave : LeavesOnly (λ c. StandsFor c (bodies_kept (tells old))) (told mid.journal.disk) (told new.journal.disk)
    all_leave = subst (λ b. LeavesOnly (λ c. StandsFor c b) (told mid.journal.disk) (told new.journal.disk)) on_all (on_disk mid new stays has.open_after)

    then_trimmed : KeepsAll (tells old) (tells new)
    then_trimmed = record {
      kept = list_is mid new stays ∙ has.keeps.kept;
      told = list_is mid new stays ∙ has.keeps.told;
      length_told = ap (λ (n : ℕ). Some (n + 1)) stays.tells.gate ∙ has.keeps.length_told;
      faults = omega (arith, has.keeps.faults, stays.tells.faults);
      wide = stays.tells.wide ∙ has.keeps.wide;
      open_before = has.keeps.open_before;
      story = refl;
      moments =
          then_leaves (Either old) (told old.journal.disk) (told mid.journal.disk) (told new.journal.disk) has.keeps.moments
          (leaves_weaker (λ c. StandsFor c (bodies_kept (tells old))) (Either old) (told mid.journal.disk) (told new.journal.disk) (λ c t. inr t) all_leave);
    }

    pub settles_last : new.journal.shut ≡ mid.journal.shut → SettlesTo (tells old) (Ok tt) (tells new)
    settles_last shut = record {
      keeps = then_trimmed;
      open_after = shut ∙ has.open_after;
      all = stays.settled ∙ has.all ∙ ap length (sym (list_is mid new stays));
      last = leaves_at_last (λ c. StandsFor c (bodies_kept (tells old))) (told mid.journal.disk) (told new.journal.disk) all_leave;
    }

    pub trim_fails : (n : ℕ) → n ≡ faults new.journal.disk → IsShutBy mid.journal (faults mid.journal.disk) new.journal (faults new.journal.disk) → SettlesTo (tells old) (Err (force.DiskFault n)) (tells new)
    trim_fails n is (open_now, shut, risen) = (then_trimmed, omega (arith, risen, has.keeps.faults), shut ∙ ap (λ (m : ℕ). Some m) (sym is), is)
