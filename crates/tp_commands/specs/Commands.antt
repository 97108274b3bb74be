-- What a run of each command does: how it may end, what of source, sink and disk it leaves as it was, and what it writes.
-- Which words ask for which command is said by tp_words.
use Rattle.std.specs.Prelude.{ℕ, ◌≡◌, ◌<◌, Bool, true, false, Option, Some, List, [], ◌∷◌}
use Rattle.tp_outside.specs.Story.{Story}
use Rattle.tp_records.specs.Answers.{Answer}
use Rattle.tp_model.specs.declared.verdict.What.{What}
use Rattle.tp_words.specs.CommandLine.{Said}
use Rattle.tp_words.specs.Asked.{is_line, Asks}
use Rattle.tp_words.specs.declared.command.Command.{Command}
use Rattle.tp_replay.specs.declared.status.Status.{Status}
use Rattle.tp_replay.specs.Status.{ok, findings, bad_input, limit, foreign, read_fault, write_fault, disk_fault, no_memory, code_of, has}
use Rattle.tp_replay.specs.Transcribing.{ReadsSo, Transcribes}
use Rattle.tp_replay.specs.Making.{Makes}
use Rattle.tp_replay.specs.Trying.{Tries}
use Rattle.tp_commands.specs.Logs.{Formats, ShowsLog, ChecksLog, CompactsLog, MigratesLog}
use Rattle.tp_commands.specs.Keys.{ListsKeys}
use Rattle.tp_commands.specs.Sites.{ServesSite}
use Rattle.tp_commands.specs.Faces.{ServesFace}
use Rattle.tp_commands.specs.Auditing.{AuditsLogs}

-- ---- how each command may end

-- the exit codes of its endings
abbrev pub exits : Command → List ℕ
exits Command.Replay = ok ∷ bad_input ∷ limit ∷ read_fault ∷ write_fault ∷ no_memory ∷ []
exits (Command.Node site) = ok ∷ bad_input ∷ limit ∷ foreign ∷ read_fault ∷ write_fault ∷ disk_fault ∷ no_memory ∷ []
exits Command.Format = ok ∷ disk_fault ∷ []
exits Command.Show = ok ∷ foreign ∷ write_fault ∷ disk_fault ∷ no_memory ∷ []
exits Command.Check = ok ∷ findings ∷ foreign ∷ write_fault ∷ disk_fault ∷ no_memory ∷ []
exits (Command.Make plan) = ok ∷ write_fault ∷ no_memory ∷ []
exits (Command.Trial plan) = ok ∷ bad_input ∷ limit ∷ write_fault ∷ no_memory ∷ []
exits Command.Compact = ok ∷ foreign ∷ disk_fault ∷ no_memory ∷ []
exits Command.Migrate = ok ∷ limit ∷ foreign ∷ disk_fault ∷ no_memory ∷ []
exits Command.Keys = ok ∷ foreign ∷ write_fault ∷ disk_fault ∷ no_memory ∷ []
exits (Command.Tx site) = ok ∷ bad_input ∷ limit ∷ foreign ∷ read_fault ∷ write_fault ∷ disk_fault ∷ no_memory ∷ []
exits Command.Audit = ok ∷ findings ∷ bad_input ∷ limit ∷ foreign ∷ read_fault ∷ write_fault ∷ no_memory ∷ []

-- ---- a run

-- how a run ended, and what the outside told before and after it: the bytes left of the source, those written to the sink,
-- and the story of the disk
pub record Ran : Type 0 where
  pub status : Status
  pub left : Option (List ℕ)
  pub unread : Option (List ℕ)
  pub written : Option (List ℕ)
  pub output : Option (List ℕ)
  pub told : Option Story
  pub story : Option Story

-- ---- replay

-- a limit is reached in a line, which has a number from 1 on
abbrev pub EndsInLine : Status → Type 0
EndsInLine status = (what : What) (at : ℕ) → status ≡ Status.Limit what at → 0 < at

-- The transcript is written, for some answers that the members may give, of whom so many are there; and the source is read no farther than
-- that needs.
pub record Replays (may : ℕ → List Answer → Type 0) (members : ℕ) (r : Ran) : Type 0 where
  pub limits : EndsInLine r.status
  pub reads : (bytes : List ℕ) → r.left ≡ Some bytes → ReadsSo bytes r.status r.unread
  pub writes : (bytes : List ℕ) → r.left ≡ Some bytes → Transcribes may members bytes r.status r.unread r.written r.output

-- ---- every command

-- what the command does, whose row names its relation; `same_sink` says that the sink is as it was
abbrev pub Does : (ℕ → List Answer → Type 0) → ℕ → Command → Ran → Type 0 → Type 0
Does may members Command.Replay r same_sink = Replays may members r
Does may members (Command.Node site) r same_sink = ServesSite site r.status r.told r.story r.left r.unread r.written r.output same_sink
Does may members Command.Format r same_sink = Formats r.status r.told r.story
Does may members Command.Show r same_sink = ShowsLog r.status r.told r.story r.written r.output same_sink
Does may members Command.Check r same_sink = ChecksLog r.status r.told r.story r.written r.output same_sink
Does may members (Command.Make plan) r same_sink = Makes plan.number plan.nodes plan.rounds r.status r.written r.output same_sink
Does may members (Command.Trial plan) r same_sink = Tries plan.number plan.nodes plan.rounds r.written r.output same_sink r.status
Does may members Command.Compact r same_sink = CompactsLog r.status r.told r.story
Does may members Command.Migrate r same_sink = MigratesLog r.status r.told r.story
Does may members Command.Keys r same_sink = ListsKeys r.status r.told r.story r.written r.output
Does may members (Command.Tx site) r same_sink = ServesFace site r.status r.told r.story r.left r.unread r.written r.output same_sink
Does may members Command.Audit r same_sink = AuditsLogs r.status r.left r.unread r.written r.output same_sink

abbrev pub Unless : Bool → Type 0 → Type 0
Unless true A = Unit {0}
Unless false A = A

-- What a run of the command does. Of source, sink and disk it leaves each as it was for which it has no fault; `same_source`,
-- `same_sink` and `same_disk` say that each is so.
pub record Runs (may : ℕ → List Answer → Type 0) (members : ℕ) (c : Command) (r : Ran) (same_source same_sink same_disk : Type 0) : Type 0 where
  pub exit : has (code_of r.status) (exits c) ≡ true
  pub source : Unless (has read_fault (exits c)) same_source
  pub sink : Unless (has write_fault (exits c)) same_sink
  pub disk : Unless (has disk_fault (exits c)) same_disk
  pub does : Does may members c r same_sink

-- nothing is done
pub record Stays (status : Status) (r : Ran) (same_source same_sink same_disk : Type 0) : Type 0 where
  pub ends : r.status ≡ status
  pub source : same_source
  pub sink : same_sink
  pub disk : same_disk

-- what is done with words: they are no command line, or memory is wanting before they are read; else the command that they ask for runs
pub data Answers (may : ℕ → List Answer → Type 0) (members : ℕ) (said : Option Said) (r : Ran) (same_source same_sink same_disk : Type 0) : Type 0 where
  Refused : is_line said ≡ false → Stays Status.Usage r same_source same_sink same_disk → Answers may members said r same_source same_sink same_disk
  Unread : Stays Status.NoMemory r same_source same_sink same_disk → Answers may members said r same_source same_sink same_disk
  Asked : (c : Command) → Asks said c → Runs may members c r same_source same_sink same_disk → Answers may members said r same_source same_sink same_disk
