-- Where nothing outside fails, a drive does all events, unless memory runs out.
use Rattle.std.proofs.Common.{◌≡◌, ◌≤◌, ◌<◌, ◌+◌, inl, inr, ℕ, suc, true, false, Option, Some, List, [], ◌++◌, refl, sym, ap, subst, ◌∙◌, arith}
use Rattle.tp_outside.specs.Faults.{HasRisen}
use Rattle.tp_outside.specs.Story.{Story, seen}
use Rattle.tp_records.specs.declared.body.Event.{Event as Given}
use Rattle.tp_logrec.specs.declared.record.LogRec.{LogRec}
use Rattle.tp_logrec.specs.declared.record.LogVersion.{LogVersion}
use Rattle.tp_logrec.specs.LogText.{Placed}
use Rattle.tp_model.specs.declared.verdict.What.{What}
use Rattle.tp_model.specs.Links.{greatest}
use Rattle.tp_model.specs.LogCommands.{Has, Is_foreign, opened, Opened}
use Rattle.tp_model.specs.NodeRun.{Opening, boot_of, log_after}
use Rattle.tp_model.specs.NodeTranscript.{Input, is_past_limit, size_of}
use Rattle.tp_model.specs.Transcript.{Ending, Done, Bad_input, At_limit}
use Rattle.tp_journal.specs.Log.{most_bytes, place_behind}
use Rattle.tp_journal.specs.Records.{bodies_of, version_of}
use Rattle.tp_words.specs.declared.drive.Drive.{Drive}
use Rattle.tp_serve.specs.Progress.{is_wide}
use Rattle.tp_serve.specs.Starting.{IsLimitedBefore, IsSpent, opening}
use Rattle.tp_serve.proofs.Fitting.{fewer_fit, within_so}
use Rattle.tp_serve.proofs.Holding.{version_so}
use Rattle.tp_drive_tool.specs.declared.status.Status.{Status}
use Rattle.tp_drive_tool.specs.Driving.{BeginsOn, IsFullAt, NotDriven}
use Rattle.tp_drive_tool.specs.Reading.{input_of}
use Rattle.tp_drive_tool.specs.Running.{Does, DoesPart, EndsWell, IsEnding, IsProvided, Ran}
use Rattle.tp_drive.proofs.Alike.{part_weighs}
use Rattle.tp_drive_tool.proofs.AsNode.{behind_size, log_shorter}

same_log : (v w : LogVersion) (xs ys : List Placed) → Has v xs ≡ Has w ys → (v ≡ w) × (xs ≡ ys)
same_log v w xs ys same = let a : v ≡ w = cc in let b : xs ≡ ys = cc in (a, b)

same_opening : (name : List ℕ) (v w : LogVersion) (xs ys : List Placed) → Has v xs ≡ Has w ys → opening name v xs ≡ opening name w ys
same_opening name v w xs ys same = let both = same_log v w xs ys same in ap (λ (u : LogVersion). opening name u xs) both.0 ∙ ap (opening name w) both.1

module _ (d : Drive) (r : Ran) (p : IsProvided d r) where
  abbrev o : Opening
  o = opening d.name p.version p.listed

  abbrev given : List Given
  given = (input_of p.bytes).events

  -- the site began on it
  begun_so : (x : Opening) → BeginsOn d.name p.story x → x ≡ o
  begun_so x b = b.is ∙ same_opening d.name b.version p.version b.listed p.listed (sym b.opens ∙ p.opens)

  -- and it has room for the boot
  boot_fits : is_past_limit o [] ≡ true → ⊥
  boot_fits over =
      let room : size_of o.version (log_after o given) ≤ 268435456 = omega (arith, p.room) in
      let within : is_past_limit o [] ≡ false = fewer_fit o [] given (within_so (size_of o.version (log_after o given)) room) in
      cc (over, within)

  not_before : (new : Option Story) (what : What) (at : ℕ) → IsLimitedBefore d.name p.story new what at → ⊥
  not_before new what at x = by x.spent
    where
      same : opening d.name x.version x.listed ≡ o
      same = same_opening d.name x.version p.version x.listed p.listed (sym x.opens ∙ p.opens)

      by : IsSpent (opening d.name x.version x.listed) what at → ⊥
      by (inl boots) = p.boot (ap boot_of (sym same) ∙ boots.1.1)
      by (inr full) = boot_fits (ap (λ (y : Opening). is_past_limit y []) (sym same) ∙ full.1.2)

  not_full : (events : List Given) (new : Option Story) (at : ℕ) → 0 < d.workers → given ≡ events → IsFullAt d.name d.workers events p.story new at → ⊥
  not_full events new at some are x =
      let y = x.part.o in
      let part = x.part.part in
      let same = begun_so y x.part.begins in
      let shorter = log_shorter y events part.more (part_weighs y events d.workers some y.version x.stops x.list part) in
      let list = ap (size_of y.version) part.records in
      let whole = ap (λ (z : Opening). size_of z.version (log_after z events)) same in
      let all = ap (λ (gs : List Given). size_of o.version (log_after o gs)) are in
      let behind = behind_size (is_wide y.version) x.list in
      let version = ap (λ (v : LogVersion). size_of v x.list) (version_so y.version) in
      omega (arith, x.no_room, shorter, list, whole, all, behind, version, p.room)

  partly : (what : What) (at : ℕ) → 0 < d.workers → DoesPart d r (Status.Limit what at) → ⊥
  partly what at some part = by (part.stopped p.story p.told p.file)
    where
      by : NotDriven d.name d.workers part.events p.story r.story (Status.Limit what at) → ⊥
      by (inl before) = not_before r.story what at before
      by (inr full) = not_full part.events r.story at some (ap (λ (i : Input). i.events) ((part.read p.bytes p.left).0)) full.1

  pub completes : (same : Type 0) (status : Status) (read_old read_new write_old write_new disk_old disk_new : ℕ) → 0 < d.workers → Does d r same status → IsEnding read_old read_new write_old write_new disk_old disk_new status
      → (HasRisen read_old read_new → ⊥) → (HasRisen write_old write_new → ⊥) → (HasRisen disk_old disk_new → ⊥) → EndsWell status
  completes same Status.Ok ro rn wo wn old new some does ends a b c = tt
  completes same Status.Usage ro rn wo wn old new some does ends a b c = absurd does
  completes same (Status.BadInput at why) ro rn wo wn old new some does ends a b c = absurd (let clash : Bad_input at why ≡ Done = sym (does.1 p.bytes p.left) ∙ p.good in cc)
  completes same (Status.Limit what at) ro rn wo wn old new some (inl does) ends a b c = absurd (let clash : At_limit what at ≡ Done = sym (does.1 p.bytes p.left) ∙ p.good in cc)
  completes same (Status.Limit what at) ro rn wo wn old new some (inr does) ends a b c = absurd (partly what at some does)
  completes same (Status.Foreign at) ro rn wo wn old new some does ends a b c =
      absurd (let clash : Is_foreign at ≡ Has p.version p.listed = sym (does.stopped p.story p.told p.file).0 ∙ p.opens in cc)
  completes same (Status.ReadFault faults) ro rn wo wn old new some does ends a b c = absurd (a ends.risen)
  completes same (Status.WriteFault faults) ro rn wo wn old new some does ends a b c = absurd (b ends.risen)
  completes same (Status.DiskFault faults) ro rn wo wn old new some does ends a b c = absurd (c ends)
  completes same Status.NoMemory ro rn wo wn old new some does ends a b c = tt
  completes same (Status.LogDiffers place receipt kept) ro rn wo wn old new some does ends a b c = absurd does
