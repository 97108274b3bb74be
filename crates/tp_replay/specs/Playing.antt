-- What the code answers of one line in a driven world: the bytes that it shows, or what stops the run in it. Out of memory is the free
-- answer.
use Rattle.std.specs.Prelude.{ℕ, suc, ◌≡◌, ◌+◌, ◌++◌, nat_lt, Bool, true, false, Option, Some, None, List, [], ◌∷◌, length, Result, Ok, Err}
use Rattle.tp_records.specs.declared.request.Request.{Request}
use Rattle.tp_records.specs.Answers.{Answer}
use Rattle.tp_model.specs.declared.verdict.What.{What}
use Rattle.tp_model.specs.declared.verdict.Why.{Why}
use Rattle.tp_model.specs.LineReading.{Reading, Blank, Faulty, Says}
use Rattle.tp_model.specs.World.{World}
use Rattle.tp_model.specs.Transcript.{Put, Play, RawLine, Transcript, Ending, Bad_input, At_limit, ends, breaks, behind, transcript_from, octets_taken, line_played}
use Rattle.tp_schedule.specs.declared.line_fault.LineFault.{LineFault}
use Rattle.tp_schedule.specs.declared.lines_fault.LinesFault.{LinesFault}
use Rattle.tp_schedule.specs.LinesLeft.{Place, first_length, lines_left}
use Rattle.tp_world_sites.specs.declared.fault.WorldFault.{WorldFault}
use Rattle.tp_world_members.specs.Members.{Gave}
use Rattle.tp_world_members.specs.DrivenWorld.{members_of, Stands}
use Rattle.tp_world_members.specs.declared.driven_world.DrivenWorld.{DrivenWorld}
use Rattle.tp_replay.specs.declared.stop.LineStop.{LineStop}
use Rattle.tp_replay.specs.declared.stop.InputStop.{InputStop}
use Rattle.tp_replay.specs.Transcribing.{ReadsTo, past_bad, past_limit}

-- what stops a run in the line of that number, since it does not read, or since the world does not play it
abbrev pub unread_as : ℕ → LineFault → LineStop
unread_as at LineFault.Long = LineStop.BadInput at Why.Long
unread_as at LineFault.Word = LineStop.BadInput at Why.Word
unread_as at LineFault.Number = LineStop.BadInput at Why.Number
unread_as at LineFault.NoMemory = LineStop.NoMemory

abbrev pub unplayed_as : ℕ → WorldFault → LineStop
unplayed_as at WorldFault.Name = LineStop.BadInput at Why.Name
unplayed_as at (WorldFault.Limit what) = LineStop.Limit what at
unplayed_as at WorldFault.NoMemory = LineStop.NoMemory

-- or since it is not handed out
abbrev pub unheard_as : ℕ → LinesFault → InputStop
unheard_as at (LinesFault.ReadFault faults) = InputStop.ReadFault faults
unheard_as at LinesFault.Long = InputStop.Line (LineStop.BadInput at Why.Long)
unheard_as at LinesFault.Limit = InputStop.Line (LineStop.Limit What.Schedule at)

-- ---- one step of a transcript, for some answers that were given

-- these bytes come first, and this was put first
abbrev pub after_text : List ℕ → List Put → Transcript → Transcript
after_text text puts t = record { written = text ++ t.written; ending = t.ending; world = t.world; puts = puts ++ t.puts }

-- whatever comes after them: as the second transcript goes on, so does the first after these bytes
pub record Leads {M R : Type 0} (allowed : M → List Answer → Type 0) (old new : List (Option M))
    (all : R → List (Option Request) → Transcript) (text : List ℕ) (rest : R → List (Option Request) → Transcript) : Type 0 where
  pub put : List Put
  pub given : List (Option Request)
  pub each : length given ≡ length put
  pub goes : (r : R) (later : List (Option Request)) → all r (given ++ later) ≡ after_text text put (rest r later)
  pub gave : Gave allowed old new put given
  pub count : length new ≡ length old

-- it ends so, and shows no more
pub record Stops {M : Type 0} (allowed : M → List Answer → Type 0) (old new : List (Option M)) (all : List (Option Request) → Transcript)
    (e : Ending) : Type 0 where
  pub put : List Put
  pub given : List (Option Request)
  pub world : World
  pub each : length given ≡ length put
  pub stops : (later : List (Option Request)) → all (given ++ later) ≡ record { written = []; ending = e; world = world; puts = put }
  pub gave : Gave allowed old new put given

-- ---- a line that was read

-- the transcript from a line on, where what comes after it is given
abbrev pub from_reading : ℕ → ℕ → World → Reading → (List (Option Request) → World → Transcript) → List (Option Request) → Transcript
from_reading members at w Blank rest answers = rest answers w
from_reading members at w (Faulty why) rest answers = ends w (Bad_input at why)
from_reading members at w (Says x) rest answers =
    (let p : Play = line_played members answers w x in
    elim p.fault [ Some f ↦ breaks at f p | None ↦ behind p (rest p.left p.world) ])

-- it shows that text at the end of the output, and leaves that world
pub record Shows {M : Type 0} (allowed : M → List Answer → Type 0) (at : ℕ) (w : World) (r : Reading) (out shown : List ℕ)
    (old new : DrivenWorld M) : Type 0 where
  pub text : List ℕ
  pub world : World
  pub is : shown ≡ out ++ text
  pub leads : Leads allowed (members_of old) (members_of new) (from_reading (length (members_of old)) at w r) text
      (λ (rest : List (Option Request) → World → Transcript) later. rest later world)
  pub stands : Stands world new

abbrev pub EndsIn : {M : Type 0} → (M → List Answer → Type 0) → ℕ → World → Reading → Ending → DrivenWorld M → DrivenWorld M → Type 0
EndsIn allowed at w r e old new = (rest : List (Option Request) → World → Transcript)
    → Stops allowed (members_of old) (members_of new) (from_reading (length (members_of old)) at w r rest) e

abbrev pub EndsReading : {M : Type 0} → (M → List Answer → Type 0) → ℕ → World → Reading → LineStop → DrivenWorld M → DrivenWorld M → Type 0
EndsReading allowed at w r (LineStop.BadInput n why) old new = (n ≡ at) × EndsIn allowed at w r (Bad_input n why) old new
EndsReading allowed at w r (LineStop.Limit what n) old new = (n ≡ at) × EndsIn allowed at w r (At_limit what n) old new
EndsReading allowed at w r LineStop.NoMemory old new = Unit {0}

abbrev pub ShowsReading : {M : Type 0} → DrivenWorld M → DrivenWorld M → (M → List Answer → Type 0) → ℕ → World → Reading
    → Result (Unit {0}) LineStop → List ℕ → List ℕ → Type 0
ShowsReading old new allowed at w r (Ok u) out shown = Shows allowed at w r out shown old new
ShowsReading old new allowed at w r (Err stop) out shown = EndsReading allowed at w r stop old new

-- the same of a line that is played, where what it shows is some text that is written nowhere
abbrev pub PlaysUnwritten : {M : Type 0} → DrivenWorld M → DrivenWorld M → (M → List Answer → Type 0) → ℕ → World → Reading
    → Result (Unit {0}) LineStop → Type 0
PlaysUnwritten old new allowed at w r (Ok u) = (text : List ℕ) × Shows allowed at w r [] text old new
PlaysUnwritten old new allowed at w r (Err stop) = EndsReading allowed at w r stop old new

-- ---- the next line of a source

-- it was played, and the others are left; whatever lines come after it, it shows that text
pub record ShowsNext {M : Type 0} (allowed : M → List Answer → Type 0) (at before : ℕ) (w : World) (ls : List RawLine) (out shown : List ℕ)
    (place : Place) (unread : Option (List ℕ)) (old new : DrivenWorld M) : Type 0 where
  pub text : List ℕ
  pub world : World
  pub first : RawLine
  pub rest : List RawLine
  pub is : ls ≡ first ∷ rest
  pub shows : shown ≡ out ++ text
  pub leads : Leads allowed (members_of old) (members_of new)
      (λ (more : List RawLine) answers. transcript_from (length (members_of old)) at before answers w (first ∷ more)) text
      (λ more later. transcript_from (length (members_of old)) (suc at) place.before later world more)
  pub stands : Stands world new
  pub within : nat_lt 1048576 (before + octets_taken first) ≡ false
  pub passed : place.before ≡ before + octets_taken first
  pub fault : place.fault ≡ None
  pub left : lines_left place unread ≡ Some rest

-- the run ends at the first of these lines, past whose start at most so many bytes were read
pub record EndsAt {M : Type 0} (allowed : M → List Answer → Type 0) (at before : ℕ) (w : World) (ls : List RawLine) (n : ℕ) (e : Ending)
    (most : ℕ) (unread : Option (List ℕ)) (old new : DrivenWorld M) : Type 0 where
  pub number : n ≡ at
  pub stops : Stops allowed (members_of old) (members_of new) (λ answers. transcript_from (length (members_of old)) at before answers w ls) e
  pub reads : ReadsTo most ls unread

abbrev pub EndsFirst : {M : Type 0} → (M → List Answer → Type 0) → ℕ → ℕ → World → List RawLine → LineStop → Option (List ℕ) → DrivenWorld M
    → DrivenWorld M → Type 0
EndsFirst allowed at before w ls (LineStop.BadInput n why) unread old new = EndsAt allowed at before w ls n (Bad_input n why) (past_bad why ls) unread old new
EndsFirst allowed at before w ls (LineStop.Limit what n) unread old new = EndsAt allowed at before w ls n (At_limit what n) (past_limit what ls) unread old new
EndsFirst allowed at before w ls LineStop.NoMemory unread old new = Unit {0}

-- or the source failed, before the end of the first of them was read
abbrev pub EndsNext : {M : Type 0} → (M → List Answer → Type 0) → ℕ → ℕ → World → List RawLine → InputStop → Option (List ℕ) → DrivenWorld M
    → DrivenWorld M → Type 0
EndsNext allowed at before w ls (InputStop.Line stop) unread old new = EndsFirst allowed at before w ls stop unread old new
EndsNext allowed at before w ls (InputStop.ReadFault faults) unread old new = ReadsTo (first_length ls) ls unread

-- there is none, and nothing is left to read
pub record IsLast {M : Type 0} (ls : List RawLine) (unread : Option (List ℕ)) (old new : DrivenWorld M) : Type 0 where
  pub none : ls ≡ []
  pub ended : unread ≡ Some []
  pub same : new ≡ old

abbrev pub PlaysNext : {M : Type 0} → DrivenWorld M → DrivenWorld M → (M → List Answer → Type 0) → ℕ → ℕ → World → List RawLine
    → Result Bool InputStop → List ℕ → List ℕ → Place → Option (List ℕ) → Type 0
PlaysNext old new allowed at before w ls (Ok true) out shown place unread = ShowsNext allowed at before w ls out shown place unread old new
PlaysNext old new allowed at before w ls (Ok false) out shown place unread = IsLast ls unread old new
PlaysNext old new allowed at before w ls (Err stop) out shown place unread = EndsNext allowed at before w ls stop unread old new

-- the same where what it shows is some text that is written nowhere
abbrev pub PlaysNextUnwritten : {M : Type 0} → DrivenWorld M → DrivenWorld M → (M → List Answer → Type 0) → ℕ → ℕ → World → List RawLine
    → Result Bool InputStop → Place → Option (List ℕ) → Type 0
PlaysNextUnwritten old new allowed at before w ls (Ok true) place unread = (text : List ℕ) × ShowsNext allowed at before w ls [] text place unread old new
PlaysNextUnwritten old new allowed at before w ls (Ok false) place unread = IsLast ls unread old new
PlaysNextUnwritten old new allowed at before w ls (Err stop) place unread = EndsNext allowed at before w ls stop unread old new
