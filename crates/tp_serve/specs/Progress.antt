-- How far a site has come with the events of its source, and what it leaves where it stops. It runs ahead of its log: the
-- records of some events are noted, and their answers wait, until all of these records are forced at once.
use Rattle.std.specs.List.{AllByRecursion}
use Rattle.std.specs.Prelude.{ℕ, ◌≡◌, ◌⊎◌, ◌≤◌, Bool, true, false, Option, Some, None, option_map, List, [], ◌∷◌, ◌++◌, Result, Ok, Err, OnOk, IfErr, length}
use Rattle.tp_outside.specs.Story.{Story}
use Rattle.tp_outside.specs.FuseDisk.{Fused}
use Rattle.tp_records.specs.declared.body.Event.{Event as Given}
use Rattle.tp_records.specs.declared.body.Output.{Output}
use Rattle.tp_logrec.specs.declared.record.LogRec.{LogRec}
use Rattle.tp_logrec.specs.declared.record.LogVersion.{LogVersion}
use Rattle.tp_logrec.specs.LogText.{IsLog}
use Rattle.tp_model.specs.declared.verdict.What.{What}
use Rattle.tp_model.specs.NodeRun.{Opening, node_run, log_after}
use Rattle.tp_model.specs.NodeTranscript.{Input, outputs_bytes, written_of, size_of, is_past_limit}
use Rattle.tp_journal.specs.Journals.{Kept, standing_of}
use Rattle.tp_journal.specs.Keeping.{Standing, Lasting}
use Rattle.tp_journal.specs.Settling.{story_on, count_on}
use Rattle.tp_journal.specs.Records.{HasText}
use Rattle.tp_journal.specs.Told.{LeavesOnly, LeavesNow}
use Rattle.tp_streams.specs.declared.stop.Stop.{Stop}
use Rattle.tp_streams.specs.Stops.{IsFaultOf}
use Rattle.tp_streams.specs.Events.{EventPlace, events_left}
use Rattle.tp_streams.specs.Written.{WritesPrefix}
use Rattle.tp_site.specs.Site.{Site}
use Rattle.tp_site.specs.Events.{IsAt, all_nodes, outputs_after, kept_records}
use Rattle.tp_serve.specs.Images.{IsNodeImage}

-- a journal, by what its disk tells of itself
abbrev pub journal_of : {D : Type 0} → (D → ℕ) → (D → Option Story) → (D → Option Fused) → Kept D → Standing
journal_of faults told fuse j = standing_of j (faults j.disk) (told j.disk) (fuse j.disk)

-- ---- the log

abbrev pub is_wide : LogVersion → Bool
is_wide LogVersion.One = false
is_wide LogVersion.Two = true

-- A log of that version with these records, open and with room. A crash now leaves a log of them, and one at any moment
-- since the beginning only what has P. The disk had counted so many faults at the beginning.
pub record Holds (P : List ℕ → Type 0) (ver : LogVersion) (records : List LogRec) (begun : Option Story) (faults : ℕ) (s : Standing) : Type 0 where
  pub wide : s.wide ≡ is_wide ver
  pub kept : kept_records s ≡ records
  pub texts : AllByRecursion (HasText (is_wide ver)) records
  pub unshut : s.shut ≡ None
  pub size : s.length_told ≡ Some (size_of ver records)
  pub moments : LeavesOnly P begun s.story
  pub last : LeavesNow (λ c. IsLog c records) s.story
  pub counted : faults ≤ s.faults

-- The disk failed when one more record was forced, which may stand or not.
pub record FailsAt (P : List ℕ → Type 0) (ver : LogVersion) (records : List LogRec) (more : LogRec) (begun : Option Story)
    (faults count : ℕ) (s : Standing) : Type 0 where
  pub moments : LeavesOnly P begun s.story
  pub last : LeavesNow (λ c. IsLog c records ⊎ IsLog c (records ++ more ∷ [])) s.story
  pub fault : IsFaultOf count faults s.faults

-- ---- the site after some events

-- it stands where the run of these events does, and so does its log, which has room
pub record IsServing {K : Type 0} (standing : K → Standing) (o : Opening) (gs : List Given) (begun : Option Story) (faults : ℕ) (s : Site K) : Type 0 where
  pub at : IsAt standing all_nodes o gs s
  pub is_open : s.shut ≡ None
  pub log : Holds (IsNodeImage o gs 0) o.version (log_after o gs) begun faults (standing s.keeper)
  pub room : is_past_limit o gs ≡ false

-- ---- the site runs ahead of its log

-- These events are on the disk, by what the keeper tells of it: a crash now leaves the log of their run, and one at any moment
-- since the beginning that of a run on some of them.
pub record RestsOn (o : Opening) (gs : List Given) (begun : Option Story) (l : Lasting) : Type 0 where
  pub count : count_on l ≡ length (log_after o gs)
  pub moments : LeavesOnly (IsNodeImage o gs 0) begun (story_on l)
  pub last : LeavesNow (λ c. IsLog c (log_after o gs)) (story_on l)

-- The first of these events are on the disk, and the site stands where the run of all of them does; its log has room for them.
-- A keeper that is shut was shut by a fault of the disk.
pub record IsAhead {K : Type 0} (standing : K → Standing) (o : Opening) (gs all : List Given) (begun : Option Story) (faults : ℕ) (s : Site K) : Type 0 where
  pub ahead : List Given
  pub are : all ≡ gs ++ ahead
  pub at : IsAt standing all_nodes o all s
  pub rests : RestsOn o gs begun (standing s.keeper).lasting
  pub texts : AllByRecursion (HasText (is_wide o.version)) (log_after o all)
  pub room : is_past_limit o all ≡ false
  pub counted : faults ≤ (standing s.keeper).faults
  pub fault : (n : ℕ) → (standing s.keeper).shut ≡ Some n → IsFaultOf n faults (standing s.keeper).faults

-- all of these events are on the disk
pub record IsSettled {K : Type 0} (standing : K → Standing) (o : Opening) (gs : List Given) (begun : Option Story) (s : Site K) : Type 0 where
  pub at : IsAt standing all_nodes o gs s
  pub rests : RestsOn o gs begun (standing s.keeper).lasting
  pub texts : AllByRecursion (HasText (is_wide o.version)) (log_after o gs)
  pub room : is_past_limit o gs ≡ false

-- the disk failed when the records of the events after the first were forced
pub record HasFailed {K : Type 0} (standing : K → Standing) (o : Opening) (gs all : List Given) (begun : Option Story) (faults count : ℕ)
    (s : Site K) : Type 0 where
  pub at : IsAt standing all_nodes o all s
  pub room : is_past_limit o gs ≡ false
  pub texts : AllByRecursion (HasText (is_wide o.version)) (log_after o gs)
  pub moments : LeavesOnly (IsNodeImage o all 0) begun (story_on (standing s.keeper).lasting)
  pub last : LeavesNow (IsNodeImage o all (length gs)) (story_on (standing s.keeper).lasting)
  pub fault : IsFaultOf count faults (standing s.keeper).faults

-- the keeper is shut, by a fault of the disk that it answered to the event after these
pub record IsShutAt {K : Type 0} (standing : K → Standing) (o : Opening) (gs : List Given) (faults count : ℕ) (s : Site K) : Type 0 where
  pub at : IsAt standing all_nodes o gs s
  pub counted : faults ≤ (standing s.keeper).faults
  pub shut : (standing s.keeper).shut ≡ Some count
  pub fault : IsFaultOf count faults (standing s.keeper).faults

-- what comes of forcing all that is noted, and then writing the answers that wait
abbrev pub SettlesAll : {K : Type 0} → (K → Standing) → Opening → List Given → List Given → Option Story → ℕ → Result (Unit {0}) Stop
    → Site K → List ℕ → Option (List ℕ) → Option (List ℕ) → Type 0
SettlesAll standing o gs all begun faults (Ok u) s waiting old new =
    IsSettled standing o all begun s × ((before : List ℕ) → old ≡ Some before → new ≡ Some (before ++ waiting))
SettlesAll standing o gs all begun faults (Err (Stop.BadInput n why)) s waiting old new = ⊥
SettlesAll standing o gs all begun faults (Err (Stop.Limit what n)) s waiting old new = ⊥
SettlesAll standing o gs all begun faults (Err (Stop.Foreign n)) s waiting old new = ⊥
SettlesAll standing o gs all begun faults (Err (Stop.ReadFault n)) s waiting old new = ⊥
SettlesAll standing o gs all begun faults (Err (Stop.WriteFault n)) s waiting old new =
    IsSettled standing o all begun s × ((before : List ℕ) → old ≡ Some before → WritesPrefix before waiting new)
SettlesAll standing o gs all begun faults (Err (Stop.DiskFault n)) s waiting old new = HasFailed standing o gs all begun faults n s × (new ≡ old)
SettlesAll standing o gs all begun faults (Err Stop.NoMemory) s waiting old new = ⊥

-- why not all was forced and written, by the sink's counts before and after
abbrev pub IsSettleStop : ℕ → ℕ → Stop → Type 0
IsSettleStop sink now (Stop.BadInput n why) = ⊥
IsSettleStop sink now (Stop.Limit what n) = ⊥
IsSettleStop sink now (Stop.Foreign n) = ⊥
IsSettleStop sink now (Stop.ReadFault n) = ⊥
IsSettleStop sink now (Stop.WriteFault n) = IsFaultOf n sink now
IsSettleStop sink now (Stop.DiskFault n) = Unit {0}
IsSettleStop sink now Stop.NoMemory = ⊥

-- All that is noted is forced, and what waits is written; or not. The site is open after it, and nothing waits.
pub record SettlesSite {K : Type 0} (standing : K → Standing) (old new : Site K) (result : Result (Unit {0}) Stop)
    (waiting waiting_new : List ℕ) (written output : Option (List ℕ)) (before after : ℕ) : Type 0 where
  pub all : (o : Opening) (gs all : List Given) (begun : Option Story) (faults : ℕ) → IsAhead standing o gs all begun faults old
      → SettlesAll standing o gs all begun faults result new waiting written output
  pub serves : OnOk result ((o : Opening) (gs : List Given) (faults : ℕ) → IsServing standing o gs None faults old → IsServing standing o gs None faults new)
  pub was_open : OnOk result ((standing old.keeper).shut ≡ None)
  pub empty : OnOk result (waiting_new ≡ [])
  pub stops : IfErr result (IsSettleStop before after)

-- it ends so, where nothing stopped it before
abbrev pub finished : Result (Unit {0}) Stop → Result (Unit {0}) Stop → Result (Unit {0}) Stop
finished (Ok u) end = end
finished (Err stop) end = Err stop

-- the end of a run: all is settled first
pub record Finishes {K : Type 0} (standing : K → Standing) (old new : Site K) (end result : Result (Unit {0}) Stop) (waiting : List ℕ)
    (written output : Option (List ℕ)) (before after : ℕ) : Type 0 where
  pub settled : Result (Unit {0}) Stop
  pub waiting_new : List ℕ
  pub settles : SettlesSite standing old new settled waiting waiting_new written output before after
  pub is : result ≡ finished settled end

-- before the next frame nothing is done, or all is settled
abbrev pub KeepsUp : {K : Type 0} → (K → Standing) → Site K → Site K → Result (Unit {0}) Stop → List ℕ → List ℕ → Option (List ℕ)
    → Option (List ℕ) → ℕ → ℕ → Type 0
KeepsUp standing old new result waiting waiting_new written output before after =
    ((result ≡ Ok tt) × (new ≡ old) × (waiting_new ≡ waiting) × (output ≡ written))
    ⊎ SettlesSite standing old new result waiting waiting_new written output before after

-- ---- one event more

-- what its answer writes
abbrev pub answer_bytes : Opening → List Given → Given → List ℕ
answer_bytes o gs g = outputs_bytes (outputs_after o gs g ++ Output.Over ∷ [])

-- how the event in the frame with that number ended, and what it left of the site, and of the answers that wait
abbrev pub ServesOne : {K : Type 0} → (K → Standing) → Opening → List Given → Option Story → ℕ → ℕ → Given → Result (Unit {0}) Stop → Site K
    → List ℕ → List ℕ → Type 0
ServesOne standing o gs begun faults at g (Ok u) s old new = IsServing standing o (gs ++ g ∷ []) begun faults s × (new ≡ old ++ answer_bytes o gs g)
ServesOne standing o gs begun faults at g (Err (Stop.BadInput n why)) s old new = ⊥
ServesOne standing o gs begun faults at g (Err (Stop.Limit what n)) s old new =
    IsServing standing o gs begun faults s × (what ≡ What.Log) × (n ≡ at) × (is_past_limit o (gs ++ g ∷ []) ≡ true) × (new ≡ old)
ServesOne standing o gs begun faults at g (Err (Stop.Foreign n)) s old new = ⊥
ServesOne standing o gs begun faults at g (Err (Stop.ReadFault n)) s old new = ⊥
ServesOne standing o gs begun faults at g (Err (Stop.WriteFault n)) s old new = ⊥
ServesOne standing o gs begun faults at g (Err (Stop.DiskFault n)) s old new = IsShutAt standing o gs faults n s × (new ≡ old)
ServesOne standing o gs begun faults at g (Err Stop.NoMemory) s old new =
    (IsServing standing o gs begun faults s ⊎ IsServing standing o (gs ++ g ∷ []) begun faults s) × (new ≡ old)

-- ---- all events so far

-- where the reader of a source of at most a million events begins
abbrev pub first_place : EventPlace
first_place = record { place = record { held = []; at = 0; stop = None }; declares = 0; most = 1000000 }

abbrev pub with_events : List Given → Input → Input
with_events gs i = record { events = gs ++ i.events; ending = i.ending }

-- These events were read and answered: what is still to come of the source came after them. The first of them are on the disk,
-- and their outputs were written; the outputs of the others wait.
pub record HasAnswered {K : Type 0} (standing : K → Standing) (o : Opening) (begun : Option Story) (faults : ℕ) (first place : EventPlace)
    (left rest written output : Option (List ℕ)) (waiting : List ℕ) (s : Site K) : Type 0 where
  pub events : List Given
  pub all : List Given
  pub ahead : List Given
  pub are : all ≡ events ++ ahead
  pub serving : IsServing standing o all None faults s
  pub rests : RestsOn o events begun (standing s.keeper).lasting
  pub read : events_left first left ≡ option_map (with_events all) (events_left place rest)
  pub number : place.place.at ≡ length all
  pub waits : written_of (node_run o all).outputs ≡ written_of (node_run o events).outputs ++ waiting
  pub wrote : (before : List ℕ) → written ≡ Some before → output ≡ Some (before ++ written_of (node_run o events).outputs)
