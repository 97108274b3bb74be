-- A run of `tpdrive` is a process of its site.
use Rattle.std.specs.List.{AllByRecursion}
use Rattle.std.proofs.Common.{◌≡◌, ◌<◌, ◌≤◌, ◌+◌, ◌^◌, inl, inr, ℕ, zero, suc, Bool, true, false, refl, ap, sym, ◌∙◌, subst, arith, Option, Some, None, List, [], ◌∷◌, ◌++◌, take, length, append-nil}
use Rattle.std.proofs.lemmas.List.{length-append, take_all}
use Rattle.tp_outside.specs.Story.{Story, Synced, seen}
use Rattle.tp_records.specs.declared.body.Event.{Event as Given}
use Rattle.tp_records.specs.declared.body.Output.{Output}
use Rattle.tp_logrec.specs.declared.record.LogRec.{LogRec}
use Rattle.tp_logrec.specs.declared.record.LogVersion.{LogVersion}
use Rattle.tp_logrec.specs.LogText.{Placed, recs, IsLog}
use Rattle.tp_model.specs.LogCommands.{Has, opened}
use Rattle.tp_model.specs.NodeRun.{Opening, boot_of, node_run, log_after}
use Rattle.tp_model.specs.NodeTranscript.{written_of, taken}
use Rattle.tp_model.specs.Lanes.{lane}
use Rattle.tp_journal.specs.Log.{StandsFor}
use Rattle.tp_journal.specs.Records.{HasText, bodies_of}
use Rattle.tp_journal.specs.Told.{LeavesOnly, LeavesNow}
use Rattle.tp_journal.proofs.AsLogs.{is_log}
use Rattle.tp_shared_log.specs.Images.{StandsForFirst}
use Rattle.tp_serve.specs.Progress.{is_wide}
use Rattle.tp_serve.specs.Images.{IsNodeImage}
use Rattle.tp_serve.specs.Starting.{opening, FailsBefore, IsLimitedBefore}
use Rattle.tp_serve.proofs.Holding.{leaves_now, now_weaker}
use Rattle.tp_words.specs.declared.drive.Drive.{Drive}
use Rattle.tp_drive.specs.declared.stop.Stop.{Stop as LaneStop}
use Rattle.tp_drive.specs.Begun.{booted}
use Rattle.tp_drive.specs.Drives.{IsPartDriven}
use Rattle.tp_drive.specs.Woven.{IsWoven}
use Rattle.tp_drive_tool.specs.declared.status.Status.{Status}
use Rattle.tp_drive_tool.specs.Driving.{BeginsOn, LeavesLog, HasDriven, HasPart, IsFullAt, NotDriven}
use Rattle.tp_drive_tool.specs.Running.{Ran, Writes, DoesAll, DoesPart}
use Rattle.tp_batches.specs.Batches.{IsBatch as IsListed, IsWhole}
use Rattle.tp_briefs.specs.Starts.{on}
use Rattle.tp_processes.specs.Processes.{Process, IsProcess}
use Rattle.tp_programs.specs.Batches.{IsPartLeft, IsWholeLeft, IsBatchStart, IsWholeBatch, IsPartBatch, IsBatch, BatchIsAProcess}
use Rattle.tp_programs.proofs.Images.{one_opening, foreign_clash}
use Rattle.tp_programs.proofs.Lanes.{take_beyond, all_take, one_log, woven_whole, part_first}

none_taken : (n : ℕ) → taken {A = Given} n [] ≡ []
none_taken zero = refl
none_taken (suc n) = refl

booted_length : (o : Opening) → length (booted o) ≡ length o.records + 1
booted_length o = length-append o.records (LogRec.Boot (boot_of o) ∷ [])

module _ (name : List ℕ) (workers : ℕ) (events : List Given) (story : Story) (version : LogVersion) (listed : List Placed) (small : length (seen story) < 2 ^ 64) (opens : opened (seen story) ≡ Has version listed) where
  abbrev o : Opening
  o = on name version (recs listed)

  abbrev wide : Bool
  wide = is_wide version

  -- ---- the opening

  begins_is : (ver : LogVersion) (list : List Placed) → opened (seen story) ≡ Has ver list → opening name ver list ≡ o
  begins_is ver list is = one_opening name (seen story) ver version list listed opens is

  begun_on : (p : Opening) → BeginsOn name story p → p ≡ o
  begun_on p b = b.is ∙ begins_is b.version b.listed b.opens

  -- ---- what is left

  process_of : (left : List ℕ) (given : List Given) → Process
  process_of left given = record { found = seen story; left = left; begun = true; given = given }

  is_process : (left : List ℕ) (given : List Given) → IsLog left (log_after o given) → IsProcess name (record { found = seen story; left = left; begun = true; given = given })
  is_process left given log = record { small = small; version = version; listed = listed; opens = opens; leaves = log }

  unbegun : (left : List ℕ) → IsLog left (recs listed) → IsPartLeft name workers events (seen story) left
  unbegun left log = record {
    process = record { found = seen story; left = left; begun = false; given = [] };
    is = record { small = small; version = version; listed = listed; opens = opens; leaves = log };
    from = refl;
    to = refl;
    lanes = λ i h. (lane events i workers, refl);
  }

  part_left : (left : List ℕ) (more : List LogRec) → IsListed o workers events more → IsLog left (booted o ++ more) → IsPartLeft name workers events (seen story) left
  part_left left more b log = record {
    process = record { found = seen story; left = left; begun = true; given = b.given };
    is = is_process left b.given (one_log o b.given more left b.log log);
    from = refl;
    to = refl;
    lanes = b.each;
  }

  whole_left : (left : List ℕ) (more : List LogRec) → IsWhole o workers events more → IsLog left (booted o ++ more) → IsWholeLeft name workers events version listed (seen story) left
  whole_left left more b log = record {
    process = record { found = seen story; left = left; begun = true; given = b.given };
    is = is_process left b.given (one_log o b.given more left b.log log);
    from = refl;
    to = refl;
    begun = refl;
    lanes = b.each;
    outputs = b.outputs;
  }

  -- ---- all events

  all_left : (new : Option Story) (more : List LogRec) → IsWoven o workers events more → LeavesLog o (booted o ++ more) None story new → LeavesNow (IsWholeLeft name workers events version listed (seen story)) new
  all_left new more woven leaves =
      now_weaker (λ file. StandsFor file (bodies_of wide (booted o ++ more))) (IsWholeLeft name workers events version listed (seen story)) new
      (λ file stands. whole_left file more (woven_whole o workers events more woven) (is_log file wide (booted o ++ more) leaves.2 stands)) leaves.1

  pub driven_left : (new : Option Story) (outs : List (List Output)) → HasDriven name workers events story new outs → LeavesNow (IsWholeLeft name workers events version listed (seen story)) new × (outs ≡ (node_run o events).outputs)
  driven_left new outs h =
      let e : h.o ≡ o = begun_on h.o h.begins in (
        all_left new h.more (subst (λ (p : Opening). IsWoven p workers events h.more) e h.woven) (subst (λ (p : Opening). LeavesLog p (booted p ++ h.more) None story new) e h.leaves),
        h.one_thread ∙ ap (λ (p : Opening). (node_run p events).outputs) e,
      )

  -- ---- not all

  first_left : (stops : List (Option LaneStop)) (list : List LogRec) (p : IsPartDriven o workers events stops list) → AllByRecursion (HasText wide) list → (file : List ℕ) (n : ℕ) → length o.records + 1 ≤ n → StandsFor file (bodies_of wide (take n list))
      → IsPartLeft name workers events (seen story) file
  first_left stops list p texts file n least stands =
      let k = take_beyond (booted o) p.more n (omega (arith, least, booted_length o)) in
      let same : take n list ≡ booted o ++ take k.0 p.more = ap (take n) p.records ∙ k.1 in
      part_left file (take k.0 p.more) (part_first o workers events stops list p k.0) (subst (IsLog file) same (is_log file wide (take n list) (all_take (HasText wide) n list texts) stands))

  listed_long : (stops : List (Option LaneStop)) (list : List LogRec) (p : IsPartDriven o workers events stops list) → length o.records + 1 ≤ length list
  listed_long stops list p = omega (arith, ap length p.records, length-append (booted o) p.more, booted_length o)

  part_now : (new : Option Story) (shut : Option ℕ) (stops : List (Option LaneStop)) (list : List LogRec) → IsPartDriven o workers events stops list → LeavesLog o list shut story new → LeavesNow (IsPartLeft name workers events (seen story)) new
  part_now new None stops list p leaves =
      now_weaker (λ file. StandsFor file (bodies_of wide list)) (IsPartLeft name workers events (seen story)) new
      (λ file stands. first_left stops list p leaves.2 file (length list) (listed_long stops list p) (subst (λ (l : List LogRec). StandsFor file (bodies_of wide l)) (sym (take_all (length list) list (omega arith))) stands)) leaves.1
  part_now new (Some faults) stops list p leaves =
      now_weaker (StandsForFirst (length o.records + 1) wide list) (IsPartLeft name workers events (seen story)) new (λ file x. first_left stops list p leaves.2 file x.0 x.1 x.3) leaves.1

  pub has_part : (new : Option Story) (shut : Option ℕ) (stops : List (Option LaneStop)) (list : List LogRec) → HasPart name workers events story new shut stops list → LeavesNow (IsPartLeft name workers events (seen story)) new
  has_part new shut stops list h =
      let e : h.o ≡ o = begun_on h.o h.begins in
      part_now new shut stops list (subst (λ (p : Opening). IsPartDriven p workers events stops list) e h.part) (subst (λ (p : Opening). LeavesLog p list shut story new) e h.leaves)

  -- nothing but the start was tried
  image_left : (file : List ℕ) → IsNodeImage o [] 0 file → IsPartLeft name workers events (seen story) file
  image_left file (inl k) =
      part_left file [] (record { given = []; log = refl; each = λ i h. (lane events i workers, refl) })
      (subst (IsLog file) (ap (log_after o) (none_taken k.0) ∙ sym (append-nil (booted o))) k.3)
  image_left file (inr k) = unbegun file k.1

  pub fails_before : (new : Option Story) → FailsBefore name story new → LeavesNow (IsPartLeft name workers events (seen story)) new
  fails_before new f =
      now_weaker (IsNodeImage o [] 0) (IsPartLeft name workers events (seen story)) new image_left
      (leaves_now (IsNodeImage o [] 0) (Some (Synced story)) new (subst (λ (p : Opening). LeavesOnly (IsNodeImage p [] 0) (Some (Synced story)) new) (begins_is f.version f.listed f.opens) f.moments))

  pub limited_before : (what : _) (at : ℕ) (new : Option Story) → IsLimitedBefore name story new what at → LeavesNow (IsPartLeft name workers events (seen story)) new
  limited_before what at new f =
      let same : recs f.listed ≡ recs listed = ap (λ (p : Opening). p.records) (begins_is f.version f.listed f.opens) in
      now_weaker (λ c. IsLog c (recs f.listed)) (IsPartLeft name workers events (seen story)) new (λ file log. unbegun file (subst (IsLog file) same log)) (leaves_now (λ c. IsLog c (recs f.listed)) (Some (Synced story)) new f.moments)

-- ---- by how it ends

all_done : (d : Drive) (r : Ran) (status : Status) (story : Story) (version : LogVersion) (listed : List Placed) → DoesAll d r status → IsBatchStart r story version listed → IsWholeBatch d r status story version listed
all_done d r status story version listed k s =
    let x = driven_left d.name d.workers k.events story version listed s.file.small s.opens r.story k.outs (k.driven story s.told s.file) in
    record { events = k.events; read = k.read; wrote = subst (λ (outs : List (List Output)). Writes (written_of outs) r.written r.output status) x.1 k.wrote; leaves = x.0 }

part_done : (d : Drive) (r : Ran) (status : Status) (story : Story) (k : DoesPart d r status) → LeavesNow (IsPartLeft d.name d.workers k.events (seen story)) r.story → IsPartBatch d r story
part_done d r status story k leaves = record { events = k.events; read = k.read; leaves = leaves }

pub batch_is : BatchIsAProcess
batch_is d r Status.Ok story version listed k s = all_done d r Status.Ok story version listed k s
batch_is d r Status.Usage story version listed k s = absurd k
batch_is d r (Status.BadInput at why) story version listed k s = inl (inl k.0)
batch_is d r (Status.Limit what at) story version listed (inl k) s = inl (inl k.0)
batch_is d r (Status.Limit what at) story version listed (inr k) s = go (k.stopped story s.told s.file)
  where
    go : NotDriven d.name d.workers k.events story r.story (Status.Limit what at) → IsBatch d r (Status.Limit what at) story version listed
    go (inl before) = inr (part_done d r (Status.Limit what at) story k (limited_before d.name d.workers k.events story version listed s.file.small s.opens what at r.story before))
    go (inr full) =
        let f : IsFullAt d.name d.workers k.events story r.story at = full.1 in
        inr (part_done d r (Status.Limit what at) story k (has_part d.name d.workers k.events story version listed s.file.small s.opens r.story None f.stops f.list f.part))
batch_is d r (Status.Foreign at) story version listed k s = absurd (foreign_clash (seen story) at version listed s.opens (k.stopped story s.told s.file).0)
batch_is d r (Status.ReadFault faults) story version listed k s = inl (inl k)
batch_is d r (Status.WriteFault faults) story version listed k s = all_done d r (Status.WriteFault faults) story version listed k s
batch_is d r (Status.DiskFault faults) story version listed k s = go (k.stopped story s.told s.file)
  where
    go : NotDriven d.name d.workers k.events story r.story (Status.DiskFault faults) → IsBatch d r (Status.DiskFault faults) story version listed
    go (inl (inl unopened)) = inl (inr unopened)
    go (inl (inr before)) = inr (part_done d r (Status.DiskFault faults) story k (fails_before d.name d.workers k.events story version listed s.file.small s.opens r.story before))
    go (inr shut) =
        inr (part_done d r (Status.DiskFault faults) story k (has_part d.name d.workers k.events story version listed s.file.small s.opens r.story (Some faults) shut.stops shut.list shut.part))
batch_is d r Status.NoMemory story version listed (inl same) s = inl (inl same)
batch_is d r Status.NoMemory story version listed (inr (inl k)) s = go (k.stopped story s.told s.file)
  where
    go : NotDriven d.name d.workers k.events story r.story Status.NoMemory → IsBatch d r Status.NoMemory story version listed
    go (inl unopened) = inl (inr unopened)
    go (inr x) = inr (inl (part_done d r Status.NoMemory story k (has_part d.name d.workers k.events story version listed s.file.small s.opens r.story x.0 x.1 x.2 x.3)))
batch_is d r Status.NoMemory story version listed (inr (inr k)) s = inr (inr (all_done d r Status.NoMemory story version listed k s))
batch_is d r (Status.LogDiffers place receipt kept) story version listed k s = absurd k
