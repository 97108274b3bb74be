-- A log on which a site has just started, and what it was before.
use Rattle.std.proofs.Common.{◌≡◌, true, ◌≤◌, ℕ, ◌+◌, ◌-◌, Option, Ok, List, [], ◌∷◌, ◌++◌, take, length, length-append, refl, ap, sym, ◌∙◌, subst, arith}
use Rattle.std.proofs.lemmas.List.{map-append, take-append-le, take_all}
use Rattle.tp_outside.specs.Story.{Story}
use Rattle.tp_shared_log.specs.Images.{Leaves}
use Rattle.tp_shared_log.proofs.Placed.{length-placed}
use Rattle.tp_records.specs.declared.body.Event.{Event as Given}
use Rattle.tp_logrec.specs.declared.record.LogRec.{LogRec}
use Rattle.tp_logrec.specs.Order.{all_follow}
use Rattle.tp_model.specs.NodeRun.{Opening, boot_of}
use Rattle.tp_journal.specs.declared.receipts.Receipt.{Receipt}
use Rattle.tp_journal.specs.Journals.{Kept}
use Rattle.tp_journal.specs.Keeping.{Forces, Standing}
use Rattle.tp_journal.specs.Records.{HasText, placed, version_of}
use Rattle.tp_site.specs.Site.{Site, IsStarted, opening_of}
use Rattle.tp_drive.specs.declared.driven.DriveFault.{DriveFault}
use Rattle.tp_drive.specs.Begun.{IsBegun, recs, booted}
use Rattle.tp_drive.specs.Drives.{Fails, HasBootText, IsShut, LeavesBooted, Stops, opening_on}
use Rattle.tp_drive.proofs.Begins.{recs-placed}

-- what the site started on, read off the log with its boot
abbrev pub front_of : {D : Type 0} → Kept D → List ℕ → Opening
front_of j name = record { site = name; version = version_of j.wide; records = take (length j.list - 1) j.list }

front : (rs : List LogRec) (r : LogRec) → take (length (rs ++ r ∷ []) - 1) (rs ++ r ∷ []) ≡ rs
front rs r =
    ap (λ n. take n (rs ++ r ∷ [])) (let long = length-append rs (r ∷ []) in let many : length (rs ++ r ∷ []) - 1 ≡ length rs = omega (arith, long) in many)
    ∙ take-append-le (length rs) rs (r ∷ []) (omega arith)
    ∙ take_all (length rs) rs (omega arith)

-- the journal of a site that has started
pub record HasBooted {D : Type 0} (old : Kept D) (name : List ℕ) (boot : ℕ) (new : Kept D) : Type 0 where
  pub order : all_follow old.list ≡ true
  pub list : new.list ≡ old.list ++ LogRec.Boot boot ∷ []
  pub wide : new.wide ≡ old.wide
  pub number : boot ≡ boot_of (opening_on old name)

module _ {D : Type 0} (standing : Kept D → Standing) (old : Kept D) (name : List ℕ) (s : Site (Kept D)) where
  pub has_booted : ((j : Kept D) → (standing j).told ≡ placed j.wide j.list) → ((j : Kept D) → (standing j).kept ≡ placed j.wide j.list) → ((j : Kept D) → (standing j).wide ≡ j.wide) → IsStarted standing old name s → HasBooted old name s.nodes.boot s.keeper
  has_booted told kept wide is =
      let forced = is.forced.1 in
      let places : placed s.keeper.wide s.keeper.list ≡ placed old.wide old.list ++ is.forced.0 ∷ [] = sym (kept s.keeper) ∙ forced.kept ∙ ap (λ l. l ++ is.forced.0 ∷ []) (kept old) in
      record {
        order = ap all_follow (sym (ap recs (told old) ∙ recs-placed old.wide old.list)) ∙ is.order;
        list = sym (recs-placed s.keeper.wide s.keeper.list) ∙ ap recs places ∙ map-append (λ (r : Receipt). r.rec) (placed old.wide old.list) (is.forced.0 ∷ [])
            ∙ ap (λ (l : List LogRec). l ++ is.forced.0.rec ∷ []) (recs-placed old.wide old.list) ∙ ap (λ (r : LogRec). old.list ++ r ∷ []) forced.same;
        wide = sym (wide s.keeper) ∙ forced.wide ∙ wide old;
        number = is.boot ∙ ap (λ (rs : List LogRec). boot_of (record { site = name; version = version_of old.wide; records = rs })) (ap recs (told old) ∙ recs-placed old.wide old.list);
      }

module _ {D : Type 0} (old : Kept D) (name : List ℕ) (boot : ℕ) (new : Kept D) (b : HasBooted old name boot new) where
  front_list : take (length new.list - 1) new.list ≡ old.list
  front_list = ap (λ (rs : List LogRec). take (length rs - 1) rs) b.list ∙ front old.list (LogRec.Boot boot)

  -- it is what the site was given
  pub front_same : front_of new name ≡ opening_on old name
  front_same =
      ap (λ (rs : List LogRec). let o : Opening = record { site = name; version = version_of new.wide; records = rs } in o) front_list
      ∙ ap (λ w. let o : Opening = record { site = name; version = version_of w; records = old.list } in o) b.wide

  pub front_begun : IsBegun (placed new.wide new.list) new.wide (front_of new name) name boot
  front_begun = record {
    site = refl;
    version = refl;
    number = ap boot_of front_same ∙ sym b.number;
    records = ap (placed new.wide) (b.list ∙ ap (λ n. old.list ++ LogRec.Boot n ∷ []) b.number ∙ ap booted (sym front_same));
  }

-- ---- a fault since the call began

rose_before : {D : Type 0} (o : Opening) (lanes : ℕ) (events : List Given) (first before faults now : ℕ) (j : Kept D) → first ≤ before → IsShut o lanes events before faults now j → IsShut o lanes events first faults now j
rose_before o lanes events first before faults now j le is = record { shut = is.shut; risen = omega (arith, le, is.risen); stops = is.stops; part = is.part }

pub stops_fails : {D : Type 0} (standing : Kept D → Standing) (old : Kept D) (name : List ℕ) (lanes : ℕ) (events : List Given) (o : Opening) (before : ℕ) (new : Kept D) (f : DriveFault) → o ≡ opening_on old name → (standing old).faults ≤ before
    → Stops o lanes events before new (standing new).faults f → Fails standing old name lanes events new f
stops_fails standing old name lanes events o before new (DriveFault.Start fault) is le s = absurd s
stops_fails standing old name lanes events o before new (DriveFault.LogDiffers place receipt kept) is le s = subst (λ p. Stops p lanes events before new (standing new).faults (DriveFault.LogDiffers place receipt kept)) is s
stops_fails standing old name lanes events o before new (DriveFault.DiskFault faults) is le s =
    subst (λ p. IsShut p lanes events (standing old).faults faults (standing new).faults new) is (rose_before o lanes events (standing old).faults before faults (standing new).faults new le s)
stops_fails standing old name lanes events o before new (DriveFault.Full size event) is le s = subst (λ p. Stops p lanes events before new (standing new).faults (DriveFault.Full size event)) is s
stops_fails standing old name lanes events o before new DriveFault.NoMemory is le s = subst (λ p. Stops p lanes events before new (standing new).faults DriveFault.NoMemory) is s

-- the boot was not refused
pub stops_text : {D : Type 0} (standing : Kept D → Standing) (old : Kept D) (name : List ℕ) (lanes : ℕ) (events : List Given) (o : Opening) (before : ℕ) (new : Kept D) (f : DriveFault) → Stops o lanes events before new (standing new).faults f → HasBootText standing old name new f
stops_text standing old name lanes events o before new (DriveFault.Start fault) s = absurd s
stops_text standing old name lanes events o before new (DriveFault.LogDiffers place receipt kept) s = tt
stops_text standing old name lanes events o before new (DriveFault.DiskFault faults) s = tt
stops_text standing old name lanes events o before new (DriveFault.Full size event) s = tt
stops_text standing old name lanes events o before new DriveFault.NoMemory s = tt

-- ---- what a crash leaves

module _ {D : Type 0} (standing : Kept D → Standing) (old : Kept D) (name : List ℕ) (s : Site (Kept D)) (is : IsStarted standing old name s) (b : HasBooted old name s.nodes.boot s.keeper) where
  pub leaves_booted : (stood : List Receipt) (told : Option Story) (new : Kept D) → stood ≡ placed s.keeper.wide s.keeper.list → new.wide ≡ s.keeper.wide → HasText (standing old).wide (LogRec.Boot (boot_of (opening_of (standing old) name))) → Leaves (standing s.keeper).story (length stood) new.wide new.list new.shut told → LeavesBooted standing old name told new
  leaves_booted stood told new same wide text leaves =
      let many : length stood ≡ length old.list + 1 = ap length same ∙ length-placed s.keeper.wide s.keeper.list ∙ ap length b.list ∙ length-append old.list (LogRec.Boot s.nodes.boot ∷ []) in
      record {
        order = b.order;
        wide = wide ∙ b.wide;
        receipt = is.forced.0;
        text = subst (λ (n : ℕ). HasText (standing old).wide (LogRec.Boot n)) (sym is.boot ∙ b.number) text;
        started = standing s.keeper;
        forced = subst (λ (n : ℕ). Forces (standing old) (LogRec.Boot n) (Ok is.forced.0) (standing s.keeper)) b.number is.forced.1;
        leaves = subst (λ (n : ℕ). Leaves (standing s.keeper).story n new.wide new.list new.shut told) many leaves;
      }
