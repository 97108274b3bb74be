-- A gathering as a keeper: a record is noted, and what is noted is settled.
use Rattle.std.proofs.Common.{◌≡◌, ◌+◌, ℕ, Option, Some, None, Result, Ok, Err, take, refl, sym, ap, ◌∙◌, subst}
use Rattle.std.specs.Prelude.{OnOk, IfErr}
use Rattle.tp_outside.specs.Story.{Story}
use Rattle.tp_logrec.specs.declared.record.LogRec.{LogRec}
use Rattle.tp_journal.specs.declared.receipts.Receipt.{Receipt}
use Rattle.tp_journal.specs.declared.faults.ForceFault.{ForceFault}
use Rattle.tp_journal.specs.declared.faults.ForceFault.TheVariants as force
use Rattle.tp_journal.specs.Log.{StandsFor, StandsForEither}
use Rattle.tp_journal.specs.Told.{LeavesOnly, LeavesNow}
use Rattle.tp_journal.specs.Records.{bodies_of, placed, first_place}
use Rattle.tp_journal.specs.Started.{KeepsDisk}
use Rattle.tp_journal.specs.Journals.{Tells, bodies_in, standing_of}
use Rattle.tp_journal.specs.Keeping.{Standing, Lasting, Rests, Refused, Forces, bodies_kept}
use Rattle.tp_journal.specs.Gathering.{Gathered, IsSettled, RefusesSettle, bodies_settled, gathered_standing}
use Rattle.tp_journal.specs.Settling.{KeepsAll, SettlesTo, bodies_on}
use Rattle.tp_journal.proofs.Forcing.{recs_told, told_on}
use Rattle.tp_journal.proofs.RecordBodies.{receipts_long}

-- ---- a record is noted

abbrev lasts : Standing → Lasting → Standing
lasts a l = record a { lasting = l }

refused_on : (a b : Standing) (l m : Lasting) → m ≡ l → Refused a b → Refused (lasts a l) (lasts b m)
refused_on a b l m same r = record { kept = r.kept; told = r.told; length_told = r.length_told; faults = r.faults; wide = r.wide; lasting = same }

pub forces_on : (a b : Standing) (rec : LogRec) (r : Result Receipt ForceFault) (l m : Lasting) → m ≡ l → Forces a rec r b → Forces (lasts a l) rec r (lasts b m)
forces_on a b rec (Ok receipt) l m same s = record {
  same = s.same;
  kept = s.kept;
  told = s.told;
  length_told = s.length_told;
  room = s.room;
  open_before = s.open_before;
  open_after = s.open_after;
  faults = s.faults;
  wide = s.wide;
  lasting = same;
  moments = s.moments;
  last = s.last;
  bytes = s.bytes;
  fuse = s.fuse;
}
forces_on a b rec (Err (force.Full size)) l m same f = (refused_on a b l m same f.0, f.1, f.2, f.3, f.4, f.5)
forces_on a b rec (Err (force.DiskFault n)) l m same f = (refused_on a b l m same f.0, f.1, f.2, f.3, f.4, f.5, f.6)
forces_on a b rec (Err (force.Shut n)) l m same f = (refused_on a b l m same f.0, f.1, f.2, f.3, f.4)
forces_on a b rec (Err force.NoMemory) l m same is = ap (λ s. lasts s m) is ∙ ap (λ k. lasts a k) same

module _ {D : Type 0} (faults : D → ℕ) (told : D → Option Story) (old new : Gathered D) where
  -- with the same disk, and as many records on it
  pub notes : (rec : LogRec) (r : Result Receipt ForceFault) → new.journal.disk ≡ old.journal.disk → new.settled ≡ old.settled
      → Forces (standing_of old.journal (faults old.journal.disk) None None) rec r (standing_of new.journal (faults new.journal.disk) None None)
      → Forces (gathered_standing faults told old) rec r (gathered_standing faults told new)
  notes rec r disk settled forces =
      forces_on (standing_of old.journal (faults old.journal.disk) None None) (standing_of new.journal (faults new.journal.disk) None None) rec r (Rests (told old.journal.disk) old.settled) (Rests (told new.journal.disk) new.settled)
      (ap (λ d. Rests (told d) new.settled) disk ∙ ap (λ (k : ℕ). Rests (told old.journal.disk) k) settled) forces

  -- ---- all that is noted is settled

  pub on_is : bodies_on (gathered_standing faults told old) ≡ bodies_settled old
  on_is = ap (λ l. bodies_of old.journal.wide (take old.settled l)) (recs_told old.journal.wide old.journal.list)

  pub kept_is : bodies_kept (gathered_standing faults told old) ≡ bodies_in old.journal
  kept_is = ap (bodies_of old.journal.wide) (recs_told old.journal.wide old.journal.list)

  module _ (tells : Tells old.journal (faults old.journal.disk) new.journal (faults new.journal.disk)) (untold : told old.journal.disk ≡ None → told new.journal.disk ≡ None)
      (leaves : old.journal.shut ≡ None → (s : Story) → told old.journal.disk ≡ Some s → LeavesOnly (StandsForEither (bodies_settled old) (bodies_in old.journal)) (told old.journal.disk) (told new.journal.disk)) where
    list_is : placed new.journal.wide new.journal.list ≡ placed old.journal.wide old.journal.list
    list_is = ap (λ w. placed w new.journal.list) tells.wide ∙ ap (placed old.journal.wide) tells.list

    keeps_all : old.journal.shut ≡ None → KeepsAll (gathered_standing faults told old) (gathered_standing faults told new)
    keeps_all open_now = record {
      kept = list_is;
      told = list_is;
      length_told = ap (λ (n : ℕ). Some (n + 1)) tells.gate;
      faults = tells.faults;
      wide = tells.wide;
      open_before = open_now;
      story = refl;
      moments =
          subst (λ b. LeavesOnly (StandsForEither b (bodies_kept (gathered_standing faults told old))) (told old.journal.disk) (told new.journal.disk)) (sym on_is)
          (subst (λ b. LeavesOnly (StandsForEither (bodies_settled old) b) (told old.journal.disk) (told new.journal.disk)) (sym kept_is)
          (told_on (StandsForEither (bodies_settled old) (bodies_in old.journal)) (told old.journal.disk) (told new.journal.disk) untold (leaves open_now)));
    }

    pub settles : (r : Result (Unit {0}) ForceFault) → OnOk r ((old.journal.shut ≡ None) × (new.journal.shut ≡ None)) → IfErr r (RefusesSettle old.journal (faults old.journal.disk) new.journal (faults new.journal.disk))
        → IsSettled new → IfErr r (λ fault. new.settled ≡ old.settled) → IfErr r (KeepsDisk old.journal.disk new.journal.disk) → OnOk r (LeavesNow (λ file. StandsFor file (bodies_in old.journal)) (told new.journal.disk))
        → SettlesTo (gathered_standing faults told old) r (gathered_standing faults told new)
    settles (Ok u) (open_now, open_after) refused all stands disk last = record {
      keeps = keeps_all open_now;
      open_after = open_after;
      all = all open_after ∙ sym (receipts_long (first_place new.journal.wide) new.journal.wide new.journal.list);
      last = subst (λ b. LeavesNow (λ file. StandsFor file b) (told new.journal.disk)) (sym kept_is) last;
    }
    settles (Err (force.Full size)) both refused all stands disk last = absurd refused
    settles (Err (force.DiskFault n)) both (open_now, shut, counted, risen) all stands disk last = (keeps_all open_now, risen, shut, counted)
    settles (Err (force.Shut n)) both (shut_before, shut) all stands disk last = (
      shut_before,
      same list_is tells.gate (shut ∙ sym shut_before) (ap faults disk) tells.wide (ap told disk) stands,
    )
      where
        same : placed new.journal.wide new.journal.list ≡ placed old.journal.wide old.journal.list → new.journal.gate ≡ old.journal.gate → new.journal.shut ≡ old.journal.shut → faults new.journal.disk ≡ faults old.journal.disk
            → new.journal.wide ≡ old.journal.wide → told new.journal.disk ≡ told old.journal.disk → new.settled ≡ old.settled → gathered_standing faults told new ≡ gathered_standing faults told old
        same list gate shut count wide story settled = cc
    settles (Err force.NoMemory) both refused all stands disk last = absurd refused
