-- What a run of a site on the log of a disk does, given the events of a source: which of them happen, what is written, what a
-- crash leaves of the log, and how it ends. What is written and which log is left is said by the definitions below this crate.
use Rattle.std.specs.Prelude.{ℕ, suc, ◌≡◌, ◌⊎◌, ◌<◌, true, Option, Some, List, [], ◌∷◌, ◌++◌, Result, Ok, Err, length}
use Rattle.tp_outside.specs.Story.{Story, Synced, seen}
use Rattle.tp_records.specs.declared.body.Event.{Event as Given}
use Rattle.tp_framing.specs.Frames.{Part, next_in, stream}
use Rattle.tp_logrec.specs.declared.record.LogVersion.{LogVersion}
use Rattle.tp_logrec.specs.LogText.{Placed, IsLog}
use Rattle.tp_model.specs.declared.verdict.What.{What}
use Rattle.tp_model.specs.Transcript.{Ending, Done, Bad_input, At_limit}
use Rattle.tp_model.specs.LogCommands.{Has, Is_foreign, opened, start_leaves}
use Rattle.tp_model.specs.NodeRun.{Opening, node_run}
use Rattle.tp_model.specs.NodeTranscript.{input_of, written_of, NodeTranscript, node_transcript, is_past_limit}
use Rattle.tp_journal.specs.Keeping.{Standing}
use Rattle.tp_journal.specs.Told.{LeavesOnly, LeavesNow}
use Rattle.tp_streams.specs.declared.stop.Stop.{Stop}
use Rattle.tp_streams.specs.Stops.{IsFaultOf, IsOfEvents}
use Rattle.tp_streams.specs.Events.{EventPlace, input_at}
use Rattle.tp_streams.specs.Written.{WritesPrefix}
use Rattle.tp_log_tools.specs.Opening.{ReadsAs}
use Rattle.tp_site.specs.Site.{Site}
use Rattle.tp_serve.specs.Images.{IsNodeImage}
use Rattle.tp_serve.specs.Progress.{IsSettled, HasFailed, with_events}
use Rattle.tp_serve.specs.Starting.{opening, IsUnopened, IsOfStart}

-- ---- what was read

-- the source tells that after these events come others
pub record GoesOn (bytes : List ℕ) (events : List Given) : Type 0 where
  pub more : List Given
  pub are : (input_of bytes).events ≡ events ++ more

-- What was read holds these events and a part of a frame; the rest was not read.
pub record IsCutShort (bytes : List ℕ) (events : List Given) (unread : Option (List ℕ)) : Type 0 where
  pub place : EventPlace
  pub held : List ℕ
  pub rest : List ℕ
  pub unread_is : unread ≡ Some rest
  pub part : next_in held ≡ Part
  pub are : input_of bytes ≡ with_events events (input_at place (stream (held ++ rest)))

-- the input is these events, and ends so
abbrev pub IsInput : List ℕ → List Given → Ending → Type 0
IsInput bytes events ending = input_of bytes ≡ record { events = events; ending = ending }

-- the record of the event after them has no room; or the input ends so
abbrev pub IsLimited : Opening → List ℕ → List Given → What → ℕ → Type 0
IsLimited o bytes events what at =
    IsInput bytes events (At_limit what at)
    ⊎ ((g : Given) × GoesOn bytes (events ++ g ∷ []) × (is_past_limit o (events ++ g ∷ []) ≡ true) × (what ≡ What.Log) × (at ≡ suc (length events)))

-- These events happened. Where the disk failed, it was with those after them.
abbrev pub HasRead : Opening → List ℕ → List Given → List Given → Option (List ℕ) → Result (Unit {0}) Stop → Type 0
HasRead o bytes events next unread (Ok u) = IsInput bytes events Done × (unread ≡ Some [])
HasRead o bytes events next unread (Err (Stop.BadInput at why)) = IsInput bytes events (Bad_input at why)
HasRead o bytes events next unread (Err (Stop.Limit what at)) = IsLimited o bytes events what at
HasRead o bytes events next unread (Err (Stop.Foreign at)) = ⊥
HasRead o bytes events next unread (Err (Stop.ReadFault faults)) = IsCutShort bytes events unread
HasRead o bytes events next unread (Err (Stop.WriteFault faults)) = GoesOn bytes events
HasRead o bytes events next unread (Err (Stop.DiskFault faults)) = GoesOn bytes (events ++ next)
HasRead o bytes events next unread (Err Stop.NoMemory) = GoesOn bytes events

-- ---- what was written

-- all of these bytes after those from before; or, where the sink failed or memory ran out, a prefix of them
abbrev pub HasWritten : List ℕ → List ℕ → Option (List ℕ) → Result (Unit {0}) Stop → Type 0
HasWritten before bytes new (Ok u) = new ≡ Some (before ++ bytes)
HasWritten before bytes new (Err (Stop.BadInput at why)) = new ≡ Some (before ++ bytes)
HasWritten before bytes new (Err (Stop.Limit what at)) = new ≡ Some (before ++ bytes)
HasWritten before bytes new (Err (Stop.Foreign at)) = ⊥
HasWritten before bytes new (Err (Stop.ReadFault faults)) = new ≡ Some (before ++ bytes)
HasWritten before bytes new (Err (Stop.WriteFault faults)) = WritesPrefix before bytes new
HasWritten before bytes new (Err (Stop.DiskFault faults)) = new ≡ Some (before ++ bytes)
HasWritten before bytes new (Err Stop.NoMemory) = WritesPrefix before bytes new

-- ---- the site

-- it stands where the run of these events does, and all of them are on the disk; or the disk failed with those after them
abbrev pub SiteLeft : {K : Type 0} → (K → Standing) → Opening → List Given → List Given → Option Story → ℕ → Site K → Result (Unit {0}) Stop → Type 0
SiteLeft standing o events next begun faults s (Ok u) = IsSettled standing o events begun s × (next ≡ [])
SiteLeft standing o events next begun faults s (Err (Stop.BadInput at why)) = IsSettled standing o events begun s × (next ≡ [])
SiteLeft standing o events next begun faults s (Err (Stop.Limit what at)) = IsSettled standing o events begun s × (next ≡ [])
SiteLeft standing o events next begun faults s (Err (Stop.Foreign at)) = ⊥
SiteLeft standing o events next begun faults s (Err (Stop.ReadFault n)) = IsSettled standing o events begun s × (next ≡ [])
SiteLeft standing o events next begun faults s (Err (Stop.WriteFault n)) = IsSettled standing o events begun s × (next ≡ [])
SiteLeft standing o events next begun faults s (Err (Stop.DiskFault n)) = HasFailed standing o events (events ++ next) begun faults n s
SiteLeft standing o events next begun faults s (Err Stop.NoMemory) = IsSettled standing o events begun s × (next ≡ [])

-- how the events of a source were served by a site that had started
pub record EndsServing {K : Type 0} (standing : K → Standing) (o : Opening) (begun : Option Story) (faults : ℕ)
    (left unread written output : Option (List ℕ)) (result : Result (Unit {0}) Stop) (s : Site K) : Type 0 where
  pub events : List Given
  pub next : List Given
  pub site : SiteLeft standing o events next begun faults s result
  pub read : (bytes : List ℕ) → left ≡ Some bytes → HasRead o bytes events next unread result
  pub wrote : (before : List ℕ) → written ≡ Some before → HasWritten before (written_of (node_run o events).outputs) output result

-- why not all was served, by the counts of the source and of the sink, each before and after
abbrev pub IsEventsStop : ℕ → ℕ → ℕ → ℕ → Stop → Type 0
IsEventsStop source read sink wrote (Stop.BadInput at why) = (0 < at) × IsOfEvents why
IsEventsStop source read sink wrote (Stop.Limit what at) = 0 < at
IsEventsStop source read sink wrote (Stop.Foreign at) = ⊥
IsEventsStop source read sink wrote (Stop.ReadFault faults) = IsFaultOf faults source read
IsEventsStop source read sink wrote (Stop.WriteFault faults) = IsFaultOf faults sink wrote
IsEventsStop source read sink wrote (Stop.DiskFault faults) = Unit {0}
IsEventsStop source read sink wrote Stop.NoMemory = Unit {0}

-- ---- a whole run

-- what the outside told before the run and after it: the story of the disk, the bytes left of the source, and those written
-- to the sink
pub record Ran : Type 0 where
  pub told : Story
  pub story : Option Story
  pub left : Option (List ℕ)
  pub unread : Option (List ℕ)
  pub written : Option (List ℕ)
  pub output : Option (List ℕ)

-- nothing was read, and nothing was written
pub record IsUntouched (r : Ran) : Type 0 where
  pub source : r.unread ≡ r.left
  pub sink : r.output ≡ r.written

-- It ended as the definitions end, all that they write was written after the bytes from before, and a crash now leaves the
-- log that they leave.
pub record IsTranscribed (t : NodeTranscript) (ending : Ending) (before : List ℕ) (r : Ran) : Type 0 where
  pub ends : t.ending ≡ ending
  pub output : r.output ≡ Some (before ++ t.written)
  pub log : LeavesNow (λ c. IsLog c t.log) r.story

-- or the outside cut it short, and a prefix of that was written
abbrev pub Transcribes : NodeTranscript → List ℕ → Ran → Result (Unit {0}) Stop → Type 0
Transcribes t before r (Ok u) = IsTranscribed t Done before r
Transcribes t before r (Err (Stop.BadInput at why)) = IsTranscribed t (Bad_input at why) before r
Transcribes t before r (Err (Stop.Limit what at)) = IsTranscribed t (At_limit what at) before r
Transcribes t before r (Err (Stop.Foreign at)) = ⊥
Transcribes t before r (Err (Stop.ReadFault faults)) = WritesPrefix before t.written r.output
Transcribes t before r (Err (Stop.WriteFault faults)) = WritesPrefix before t.written r.output
Transcribes t before r (Err (Stop.DiskFault faults)) = WritesPrefix before t.written r.output
Transcribes t before r (Err Stop.NoMemory) = WritesPrefix before t.written r.output

-- The file is a log in order, on which the site began, and these events happened. Of those after them no byte was written, and
-- their records may stand, or not, where the disk failed.
pub record RunsOn (name : List ℕ) (r : Ran) (result : Result (Unit {0}) Stop) : Type 0 where
  pub version : LogVersion
  pub listed : List Placed
  pub opens : opened (seen r.told) ≡ Has version listed
  pub events : List Given
  pub next : List Given
  -- they are the first of the source's
  pub read : (bytes : List ℕ) → r.left ≡ Some bytes → GoesOn bytes (events ++ next)
  -- on Ok it was read to its end
  pub all : (bytes : List ℕ) → r.left ≡ Some bytes → result ≡ Ok tt → r.unread ≡ Some []
  -- where the source failed, each frame that was read whole was answered
  pub cut : (bytes : List ℕ) (faults : ℕ) → r.left ≡ Some bytes → result ≡ Err (Stop.ReadFault faults) → IsCutShort bytes events r.unread
  -- what was written is written of them
  pub wrote : (before : List ℕ) → r.written ≡ Some before → WritesPrefix before (written_of (node_run (opening name version listed) events).outputs) r.output
  -- as the definitions say
  pub transcribes : (bytes before : List ℕ) → r.left ≡ Some bytes → r.written ≡ Some before
      → Transcribes (node_transcript (opening name version listed) bytes) before r result
  -- A crash at any moment since the first sync leaves the log of the run on some of the events, or the one on which the site
  -- began; and one at the end leaves one with all that happened, whatever a byte was written of.
  pub moments : LeavesOnly (IsNodeImage (opening name version listed) (events ++ next) 0) (Some (Synced r.told)) r.story
  pub last : LeavesNow (IsNodeImage (opening name version listed) (events ++ next) (length events)) r.story

-- the log was not opened, since there was no memory or the disk failed
abbrev pub IsIdle : Ran → Type 0
IsIdle r = IsUnopened r.told r.story × IsUntouched r

-- what a run does, by how it ends
abbrev pub Serves : List ℕ → Ran → Result (Unit {0}) Stop → Type 0
Serves name r (Ok u) = RunsOn name r (Ok u)
Serves name r (Err (Stop.BadInput at why)) = RunsOn name r (Err (Stop.BadInput at why))
Serves name r (Err (Stop.Limit what at)) = RunsOn name r (Err (Stop.Limit what at))
Serves name r (Err (Stop.Foreign at)) = (opened (seen r.told) ≡ Is_foreign at) × ReadsAs r.story (start_leaves (seen r.told)) × IsUntouched r
Serves name r (Err (Stop.ReadFault faults)) = RunsOn name r (Err (Stop.ReadFault faults))
Serves name r (Err (Stop.WriteFault faults)) = RunsOn name r (Err (Stop.WriteFault faults))
Serves name r (Err (Stop.DiskFault faults)) = IsIdle r ⊎ RunsOn name r (Err (Stop.DiskFault faults))
Serves name r (Err Stop.NoMemory) = IsIdle r ⊎ RunsOn name r (Err Stop.NoMemory)

-- why it stops, by the counts of the disk, the source and the sink, each before and after
abbrev pub IsServeStop : ℕ → ℕ → ℕ → ℕ → ℕ → ℕ → Stop → Type 0
IsServeStop disk left source read sink wrote (Stop.BadInput at why) = (0 < at) × IsOfEvents why
IsServeStop disk left source read sink wrote (Stop.Limit what at) = (0 < at) ⊎ (at ≡ 0) × IsOfStart what
IsServeStop disk left source read sink wrote (Stop.Foreign at) = Unit {0}
IsServeStop disk left source read sink wrote (Stop.ReadFault faults) = IsFaultOf faults source read
IsServeStop disk left source read sink wrote (Stop.WriteFault faults) = IsFaultOf faults sink wrote
IsServeStop disk left source read sink wrote (Stop.DiskFault faults) = IsFaultOf faults disk left
IsServeStop disk left source read sink wrote Stop.NoMemory = Unit {0}
