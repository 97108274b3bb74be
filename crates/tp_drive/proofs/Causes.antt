-- What a drive answers, from how its lanes ended and how its log was closed.
use Rattle.std.proofs.Common.{◌≡◌, ℕ, zero, suc, ◌<◌, ◌-◌, Bool, Option, Some, None, List, [], ◌∷◌, ◌++◌, take, drop, map, get_or, length, refl, ap, sym, ◌∙◌, subst, arith}
use Rattle.std.specs.List.{All}
use Rattle.std.proofs.lemmas.List.{append-nil, length-drop, take-append-drop, take_all, map-append, get_or-map, length-map}
use Rattle.tp_records.specs.declared.body.Event.{Event as Given}
use Rattle.tp_records.specs.declared.body.Output.{Output}
use Rattle.tp_logrec.specs.declared.record.LogRec.{LogRec}
use Rattle.tp_model.specs.NodeRun.{Opening, node_run, run_from}
use Rattle.tp_model.specs.Lanes.{AreEmpty, lane, lane_log, outputs_in, IsInterleaving}
use Rattle.tp_runs.proofs.LaneRecords.{own_history_law}
use Rattle.tp_journal.specs.declared.receipts.Receipt.{Receipt}
use Rattle.tp_journal.specs.Journals.{Kept}
use Rattle.tp_journal.specs.Log.{most_bytes, place_behind}
use Rattle.tp_journal.specs.Records.{bodies_of, placed}
use Rattle.tp_shared_log.specs.declared.unfit.Unfit.{Unfit}
use Rattle.tp_shared_log.specs.Locks.{Extends, HadNoRoom, ShutRose}
use Rattle.tp_shared_log.proofs.Placed.{placed_same}
use Rattle.tp_drive.specs.declared.driven.DriveFault.{DriveFault}
use Rattle.tp_drive.specs.declared.stop.Cause.{Cause}
use Rattle.tp_drive.specs.declared.stop.Stop.{Stop}
use Rattle.tp_drive.specs.Begun.{recs, booted}
use Rattle.tp_drive.specs.Drives.{IsCause, IsDriven, IsPartDriven, RunsShort, Stops}
use Rattle.tp_drive.specs.Runs.{AreRun, IsForcedBy}
use Rattle.tp_drive.specs.Works.{EndsAt}
use Rattle.tp_drive.proofs.Begins.{recs-placed}
use Rattle.tp_drive.proofs.Interleavings.{interleaving_map}

module _ (o : Opening) (lanes : ℕ) (events : List Given) (outs : List (List (List Output))) (queues : List (List Receipt)) (stops : List (Option Stop)) (run : AreRun o lanes events outs queues stops) where
  -- what a lane forced
  forced_log : (i : ℕ) (l : List LogRec) (s : Option Stop) → i < lanes → IsForcedBy o lanes i events (get_or stops i s) (get_or (map recs queues) i l)
  forced_log i l s h =
      let r = run.each i [] [] s h in
      subst (IsForcedBy o lanes i events (get_or stops i s)) (sym (get_or-map recs queues i [] l (omega (arith, h, run.queues_counted)))) r.forced

  pub part_driven : (wide : Bool) (list : List LogRec) (receipts : List Receipt) → list ≡ booted o ++ recs receipts → IsInterleaving receipts queues → IsPartDriven o lanes events stops list
  part_driven wide list receipts is woven = record {
    more = recs receipts;
    records = is;
    logs = map recs queues;
    counted = (length-map queues recs ∙ run.queues_counted, run.stops_counted);
    each = forced_log;
    woven = interleaving_map (λ (r : Receipt). r.rec) receipts queues woven;
  }

  -- ---- where no lane stopped

  module _ (going : All (λ s. s ≡ None) stops) where
    met_all : (i : ℕ) (met : ℕ) (s : Option Stop) → s ≡ None → EndsAt (length events) s met → take met events ≡ events
    met_all i met s is ends = let at : EndsAt (length events) None met = subst (λ (t : Option Stop). EndsAt (length events) t met) is ends in take_all met events (omega (arith, at))

    lane_forced : (i : ℕ) (l : List LogRec) → i < lanes → get_or (map recs queues) i l ≡ lane_log o events i lanes
    lane_forced i l h =
        let f = forced_log i l None h in
        f.records ∙ ap (λ (gs : List Given). lane_log o gs i lanes) (met_all i f.met (get_or stops i None) (going i None (omega (arith, h, run.stops_counted))) f.ends)

    -- each lane put out what one thread does for its events
    pub lane_answers : (i : ℕ) (d : List (List Output)) → i < lanes → get_or outs i d ≡ outputs_in i lanes events (node_run o events).outputs
    lane_answers i d h =
        let r = run.each i d [] None h in
        let all = met_all i r.forced.met (get_or stops i None) (going i None (omega (arith, h, run.stops_counted))) r.forced.ends in
        r.answers ∙ ap (λ (gs : List Given). (run_from o [] (lane gs i lanes)).outputs) all ∙ sym (own_history_law o events i lanes).outputs

    pub driven : (wide : Bool) (list : List LogRec) (receipts : List Receipt) (all : List (List Output)) → all ≡ (node_run o events).outputs → list ≡ booted o ++ recs receipts
        → placed wide list ≡ placed wide (booted o) ++ receipts → IsInterleaving receipts queues → (0 < length receipts → place_behind (bodies_of wide list) < most_bytes) → IsDriven o lanes events all receipts wide list
    driven wide list receipts all one_thread is places woven fits = record {
      one_thread = one_thread;
      fits = fits;
      records = is;
      places = places;
      woven = record {
        logs = map recs queues;
        counted = length-map queues recs ∙ run.queues_counted;
        each = lane_forced;
        woven = interleaving_map (λ (r : Receipt). r.rec) receipts queues woven;
      };
    }

-- ---- what is read back

-- the list of a closed log, each record at its place
pub kept_places : (stood : List Receipt) (wide : Bool) (o : Opening) (list : List LogRec) (many : ℕ) (receipts : List Receipt) → stood ≡ placed wide (booted o) → Extends stood many (placed wide list)
    → receipts ≡ drop (length stood) (placed wide list) → placed wide list ≡ placed wide (booted o) ++ receipts
kept_places stood wide o list many receipts is extends same =
    sym (take-append-drop (length stood) (placed wide list)) ∙ ap (λ (l : List Receipt). l ++ drop (length stood) (placed wide list)) (extends.begins ∙ is) ∙ ap (λ (l : List Receipt). placed wide (booted o) ++ l) (sym same)

pub kept_records_are : (wide : Bool) (o : Opening) (list : List LogRec) (receipts : List Receipt) → placed wide list ≡ placed wide (booted o) ++ receipts → list ≡ booted o ++ recs receipts
kept_records_are wide o list receipts places =
    sym (recs-placed wide list) ∙ ap recs places ∙ map-append (λ (r : Receipt). r.rec) (placed wide (booted o)) receipts ∙ ap (λ (l : List LogRec). l ++ recs receipts) (recs-placed wide (booted o))

-- as many receipts are read back as were given
pub kept_many : (stood list receipts : List Receipt) (many : ℕ) → Extends stood many list → receipts ≡ drop (length stood) list → length receipts ≡ many
kept_many stood list receipts many extends same = omega (arith, ap length same, length-drop (length stood) list, extends.counted)

-- ---- a log that is closed

module _ (o : Opening) (lanes : ℕ) (events : List Given) (outs : List (List (List Output))) (queues : List (List Receipt)) (stops : List (Option Stop)) (run : AreRun o lanes events outs queues stops) (wide : Bool) (list : List LogRec) (stood : List Receipt) (many : ℕ) (begun : stood ≡ placed wide (booted o)) (extends : Extends stood many (placed wide list)) (woven : IsInterleaving (drop (length stood) (placed wide list)) queues) where
  -- it has what the lanes forced
  pub closed_part : IsPartDriven o lanes events stops list
  closed_part =
      let receipts = drop (length stood) (placed wide list) in
      let places = kept_places stood wide o list many receipts begun extends refl in
      part_driven o lanes events outs queues stops run wide list receipts (kept_records_are wide o list receipts places) woven

-- ---- no worker ran

abbrev so_many : {A : Type 0} → ℕ → A → List A
so_many zero x = []
so_many (suc n) x = x ∷ so_many n x

many_counted : {A : Type 0} (n : ℕ) (x : A) → length (so_many n x) ≡ n
many_counted zero x = refl
many_counted (suc n) x = ap suc (many_counted n x)

many_at : {A : Type 0} (n : ℕ) (x : A) (i : ℕ) (d : A) → i < n → get_or (so_many n x) i d ≡ x
many_at zero x i d h = absurd (omega arith)
many_at (suc n) x zero d h = refl
many_at (suc n) x (suc i) d h = many_at n x i d (omega arith)

many_empty : (A : Type 0) (n : ℕ) → AreEmpty {A = A} (so_many n [])
many_empty A zero = tt
many_empty A (suc n) = many_empty A n

-- the log has its boot and no more
pub none_ran : (o : Opening) (lanes : ℕ) (events : List Given) (list : List LogRec) → list ≡ booted o → RunsShort o lanes events list
none_ran o lanes events list is = (
  so_many lanes stop,
  record {
    more = [];
    records = is ∙ sym (append-nil (booted o));
    logs = so_many lanes [];
    counted = (many_counted lanes [], many_counted lanes stop);
    each = λ i l s h. record {
      met = 0;
      within = omega arith;
      ends = subst (λ (t : Option Stop). EndsAt (length events) t 0) (sym (many_at lanes stop i s h)) refl;
      records = many_at lanes [] i l h ∙ nothing events i;
    };
    woven = many_empty LogRec lanes;
  },
)
  where
    stop : Option Stop
    stop = Some (record { event = 1; cause = Cause.Memory })

    nothing : (gs : List Given) (i : ℕ) → [] ≡ lane_log o (take 0 gs) i lanes
    nothing [] i = refl
    nothing (g ∷ gs) i = refl

pub opened_short : (o : Opening) (lanes : ℕ) (events : List Given) (stood : List Receipt) (before wide : Bool) (list : List LogRec) → stood ≡ placed before (booted o) → stood ≡ placed wide list → RunsShort o lanes events list
opened_short o lanes events stood before wide list begun is = none_ran o lanes events list (placed_same wide before list (booted o) (sym is ∙ begun))

-- and so where what stands is all that the log has
pub stood_short : (o : Opening) (lanes : ℕ) (events : List Given) (stood : List Receipt) (before wide : Bool) (list : List LogRec) → stood ≡ placed before (booted o) → Extends stood 0 (placed wide list) → RunsShort o lanes events list
stood_short o lanes events stood before wide list begun extends =
    let same : placed wide list ≡ stood = sym (take_all (length stood) (placed wide list) (omega (arith, extends.counted))) ∙ extends.begins in
    none_ran o lanes events list (placed_same wide before list (booted o) (same ∙ begun))

-- ---- why lanes stopped

module _ {D : Type 0} (o : Opening) (lanes : ℕ) (events : List Given) (stops : List (Option Stop)) (before : ℕ) (j : Kept D) (now : ℕ) (part : IsPartDriven o lanes events stops j.list) where
  full_stops : (unfit : Option Unfit) (size event : ℕ) → HadNoRoom j.gate unfit → IsCause stops j.shut unfit (DriveFault.Full size event) → Stops o lanes events before j now (DriveFault.Full size event)
  full_stops None size event room c = absurd (cc (c.3))
  full_stops (Some u) size event room c = record {
    unshut = c.0;
    too_long = omega (arith, room.0, c.2.0);
    no_room = omega (arith, room.1, c.2.0, c.2.1);
    stops = stops;
    first = c.1;
    part = part;
  }

  pub cause_stops : (unfit : Option Unfit) (f : DriveFault) → ShutRose before j.shut now → HadNoRoom j.gate unfit → IsCause stops j.shut unfit f → Stops o lanes events before j now f
  cause_stops unfit (DriveFault.Start fault) rose room c = absurd c
  cause_stops unfit (DriveFault.LogDiffers place receipt kept) rose room c = absurd c
  cause_stops unfit (DriveFault.DiskFault faults) rose room c = record {
    shut = c;
    risen = subst (λ (s : Option ℕ). ShutRose before s now) c rose;
    stops = stops;
    part = part;
  }
  cause_stops unfit (DriveFault.Full size event) rose room c = full_stops unfit size event room c
  cause_stops unfit DriveFault.NoMemory rose room c = (stops, part)
