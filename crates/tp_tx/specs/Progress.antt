-- How far a face has come with the frames of its source, and what it leaves where it stops. Its site runs ahead of its log: the
-- records of some events are noted, and their answers wait, until all of these records are forced at once.
use Rattle.std.specs.Prelude.{ℕ, suc, ◌≡◌, ◌⊎◌, ◌+◌, true, false, Option, Some, None, option_map, List, [], ◌∷◌, ◌++◌, Result, Ok, Err}
use Rattle.tp_outside.specs.Story.{Story}
use Rattle.tp_records.specs.declared.body.Event.{Event as Given}
use Rattle.tp_records.specs.declared.body.Output.{Output}
use Rattle.tp_framing.specs.Frames.{Stream, stream}
use Rattle.tp_model.specs.declared.verdict.What.{What}
use Rattle.tp_model.specs.declared.verdict.Why.{Why}
use Rattle.tp_model.specs.Transcript.{Bad_input, At_limit}
use Rattle.tp_model.specs.Parts.{Entry}
use Rattle.tp_model.specs.NodeRun.{Opening}
use Rattle.tp_model.specs.NodeTranscript.{outputs_bytes, is_past_limit}
use Rattle.tp_journal.specs.Keeping.{Standing}
use Rattle.tp_streams.specs.declared.stop.Stop.{Stop}
use Rattle.tp_streams.specs.Taken.{Place, frames_left}
use Rattle.tp_site.specs.declared.faults.SiteFault.{SiteFault}
use Rattle.tp_serve.specs.Answering.{stopped_by}
use Rattle.tp_serve.specs.Progress.{IsServing, IsShutAt, RestsOn, SettlesSite}
use Rattle.tx_face.specs.declared.fault.FaceFault.{FaceFault}
use Rattle.tx_face.specs.Face.{Face, IsFaceAt, GoesOn}
use Rattle.tp_tx.specs.Frames.{declared_in}
use Rattle.tp_tx.specs.Transcript.{Asks, Not_taken, Nothing, An_event, Stops, Goes, TxTranscript, stand_after, events_with, refusing_frame, answer_bytes, turn, turn_by, after_bytes, turns_from, first_events}

-- ---- the face after some events

-- it is a face of node 1, and stands where the run of these events does; its log has room
pub record IsRunning {K : Type 0} (standing : K → Standing) (o : Opening) (gs : List Given) (begun : Option Story) (faults : ℕ) (f : Face K) : Type 0 where
  pub face : IsFaceAt standing o gs [] f
  pub node : f.node ≡ 1
  pub serving : IsServing standing o gs begun faults f.site

-- ---- what a frame asks for

-- the call of the face that it asks for
abbrev pub CallsFor : {K : Type 0} → (K → Standing) → Opening → List Given → Asks → Face K → Result (List Output) FaceFault → Face K → Type 0
CallsFor standing o gs Not_taken old result new = (result ≡ Err (FaceFault.Protocol (stand_after o gs))) × (new ≡ old)
CallsFor standing o gs Nothing old result new = (result ≡ Ok []) × (new ≡ old)
CallsFor standing o gs (An_event g) old result new = GoesOn standing true o gs [] old g result new

-- the frames of what the call gave; or, where it did not happen, what that means for the program; or there is no memory for them
abbrev pub PutsGiven : ℕ → Result (List Output) FaceFault → Result (Unit {0}) Stop → List ℕ → Type 0
PutsGiven at (Ok outputs) (Ok u) out = out ≡ outputs_bytes outputs
PutsGiven at (Ok outputs) (Err stop) out = stop ≡ Stop.NoMemory
PutsGiven at (Err (FaceFault.Protocol s)) (Ok u) out = out ≡ refusing_frame s
PutsGiven at (Err (FaceFault.Protocol s)) (Err stop) out = stop ≡ Stop.NoMemory
PutsGiven at (Err (FaceFault.Site (SiteFault.Refused k))) (Ok u) out = out ≡ outputs_bytes (Output.Refused k ∷ [])
PutsGiven at (Err (FaceFault.Site (SiteFault.Refused k))) (Err stop) out = stop ≡ Stop.NoMemory
PutsGiven at (Err (FaceFault.Site fault)) (Ok u) out = ⊥
PutsGiven at (Err (FaceFault.Site fault)) (Err stop) out = stop ≡ stopped_by at fault

-- how the frame with that number was answered, and what it left of the face
abbrev pub Responds : {K : Type 0} → (K → Standing) → Opening → List Given → Option Story → ℕ → ℕ → Asks → Result (Unit {0}) Stop → Face K → List ℕ → Type 0
Responds standing o gs begun faults at a (Ok u) new out = IsRunning standing o (events_with gs a) begun faults new
    × (is_past_limit o (events_with gs a) ≡ false) × (out ≡ answer_bytes o gs a)
Responds standing o gs begun faults at a (Err (Stop.BadInput n why)) new out = ⊥
Responds standing o gs begun faults at a (Err (Stop.Limit what n)) new out = IsRunning standing o gs begun faults new × (what ≡ What.Log)
    × (n ≡ at) × (is_past_limit o (events_with gs a) ≡ true)
Responds standing o gs begun faults at a (Err (Stop.Foreign n)) new out = ⊥
Responds standing o gs begun faults at a (Err (Stop.ReadFault n)) new out = ⊥
Responds standing o gs begun faults at a (Err (Stop.WriteFault n)) new out = ⊥
Responds standing o gs begun faults at a (Err (Stop.DiskFault n)) new out = IsShutAt standing o gs faults n new.site
Responds standing o gs begun faults at a (Err Stop.NoMemory) new out = IsRunning standing o gs begun faults new
    ⊎ IsRunning standing o (events_with gs a) begun faults new

-- the same, and its answer waits behind those before it
abbrev pub AnswersFrame : {K : Type 0} → (K → Standing) → Opening → List Given → Option Story → ℕ → ℕ → Asks → Result (Unit {0}) Stop
    → Face K → List ℕ → List ℕ → Type 0
AnswersFrame standing o gs begun faults at a (Ok u) f old new = IsRunning standing o (events_with gs a) begun faults f × (new ≡ old ++ answer_bytes o gs a)
AnswersFrame standing o gs begun faults at a (Err (Stop.BadInput n why)) f old new = ⊥
AnswersFrame standing o gs begun faults at a (Err (Stop.Limit what n)) f old new =
    IsRunning standing o gs begun faults f × (what ≡ What.Log) × (n ≡ at) × (is_past_limit o (events_with gs a) ≡ true) × (new ≡ old)
AnswersFrame standing o gs begun faults at a (Err (Stop.Foreign n)) f old new = ⊥
AnswersFrame standing o gs begun faults at a (Err (Stop.ReadFault n)) f old new = ⊥
AnswersFrame standing o gs begun faults at a (Err (Stop.WriteFault n)) f old new = ⊥
AnswersFrame standing o gs begun faults at a (Err (Stop.DiskFault n)) f old new = IsShutAt standing o gs faults n f.site × (new ≡ old)
AnswersFrame standing o gs begun faults at a (Err Stop.NoMemory) f old
    new = (IsRunning standing o gs begun faults f ⊎ IsRunning standing o (events_with gs a) begun faults f) × (new ≡ old)

-- what is counted of frames
abbrev pub IsTxLimit : What → Type 0
IsTxLimit What.Schedule = ⊥
IsTxLimit What.Sites = ⊥
IsTxLimit What.Nodes = Unit {0}
IsTxLimit What.Frames = ⊥
IsTxLimit What.Answers = ⊥
IsTxLimit What.Events = Unit {0}
IsTxLimit What.Log = Unit {0}
IsTxLimit What.Boots = ⊥

-- what stops the answering of the body of the frame with that number
abbrev pub IsBodyStop : ℕ → Stop → Type 0
IsBodyStop at (Stop.BadInput n why) = (n ≡ at) × (why ≡ Why.Body)
IsBodyStop at (Stop.Limit what n) = (n ≡ at) × IsTxLimit what
IsBodyStop at (Stop.Foreign n) = ⊥
IsBodyStop at (Stop.ReadFault n) = ⊥
IsBodyStop at (Stop.WriteFault n) = ⊥
IsBodyStop at (Stop.DiskFault n) = Unit {0}
IsBodyStop at Stop.NoMemory = Unit {0}

-- how the body of the frame with that number was answered, before which so many nodes were declared by frames; and what it left of
-- the face, of the count, and of the answers that wait
abbrev pub AnswersBody : {K : Type 0} → (K → Standing) → Opening → List Given → Option Story → ℕ → ℕ → ℕ → List ℕ → Result (Unit {0}) Stop
    → Face K → ℕ → List ℕ → List ℕ → Type 0
AnswersBody standing o gs begun faults at declares body (Ok u) f count old new =
    (a : Asks) × (turn o gs at declares body ≡ Goes a) × IsRunning standing o (events_with gs a) begun faults f
    × (count ≡ declares + declared_in body) × (new ≡ old ++ answer_bytes o gs a)
AnswersBody standing o gs begun faults at declares body (Err (Stop.BadInput n why)) f count old new =
    IsRunning standing o gs begun faults f × (turn o gs at declares body ≡ Stops (Bad_input n why)) × (new ≡ old)
AnswersBody standing o gs begun faults at declares body (Err (Stop.Limit what n)) f count old new =
    IsRunning standing o gs begun faults f × (turn o gs at declares body ≡ Stops (At_limit what n)) × (new ≡ old)
AnswersBody standing o gs begun faults at declares body (Err (Stop.Foreign n)) f count old new = ⊥
AnswersBody standing o gs begun faults at declares body (Err (Stop.ReadFault n)) f count old new = ⊥
AnswersBody standing o gs begun faults at declares body (Err (Stop.WriteFault n)) f count old new = ⊥
AnswersBody standing o gs begun faults at declares body (Err (Stop.DiskFault n)) f count old new = IsShutAt standing o gs faults n f.site × (new ≡ old)
AnswersBody standing o gs begun faults at declares body (Err Stop.NoMemory) f count old new =
    (IsRunning standing o gs begun faults f
    ⊎ ((a : Asks) × (turn o gs at declares body ≡ Goes a) × IsRunning standing o (events_with gs a) begun faults f)) × (new ≡ old)

-- All that is noted is forced, and what waits is written; or not. The face stands where it stood.
pub record SettlesFace {K : Type 0} (standing : K → Standing) (old new : Face K) (result : Result (Unit {0}) Stop)
    (waiting waiting_new : List ℕ) (written output : Option (List ℕ)) (before after : ℕ) : Type 0 where
  pub settles : SettlesSite standing old.site new.site result waiting waiting_new written output before after
  pub node : new.node ≡ old.node
  pub at : (o : Opening) (gs : List Given) (past : List Entry) → IsFaceAt standing o gs past old → IsFaceAt standing o gs past new

-- before the next frame nothing is done, or all is settled
abbrev pub KeepsUpFace : {K : Type 0} → (K → Standing) → Face K → Face K → Result (Unit {0}) Stop → List ℕ → List ℕ → Option (List ℕ)
    → Option (List ℕ) → ℕ → ℕ → Type 0
KeepsUpFace standing old new result waiting waiting_new written output before after =
    ((result ≡ Ok tt) × (new ≡ old) × (waiting_new ≡ waiting) × (output ≡ written))
    ⊎ SettlesFace standing old new result waiting waiting_new written output before after

-- ---- all frames so far

-- what is to come of a stream, where so many frames were read
abbrev pub turns_at : Opening → List Given → ℕ → ℕ → Stream → TxTranscript
turns_at o gs number declares s = turns_from o gs (suc number) declares s.bodies s.rest

-- a reader of a stream begins so
abbrev pub first_place : Place
first_place = record { held = []; at = 0; stop = None }

-- what these bytes come to, from the first frame on
abbrev pub turns_of : Opening → List ℕ → TxTranscript
turns_of o input = turns_at o first_events 0 0 (stream input)

-- the input comes to these events and these bytes first, and then to what more frames do
pub record GoesFirst (o : Opening) (input : List ℕ) (events : List Given) (bytes : List ℕ) : Type 0 where
  pub number : ℕ
  pub declares : ℕ
  pub more : Stream
  pub are : turns_of o input ≡ after_bytes bytes (turns_at o events number declares more)

-- These frames were read and answered: what is still to come of the source came after them. The first of the events are on the
-- disk, and the answers to the frames up to them were written; the other answers wait.
pub record HasRun {K : Type 0} (standing : K → Standing) (o : Opening) (begun : Option Story) (faults : ℕ) (place : Place) (declares : ℕ)
    (left rest written output : Option (List ℕ)) (waiting : List ℕ) (f : Face K) : Type 0 where
  pub events : List Given
  pub all : List Given
  pub ahead : List Given
  pub are : all ≡ events ++ ahead
  pub bytes : List ℕ
  pub running : IsRunning standing o all None faults f
  pub rests : RestsOn o events begun (standing f.site.keeper).lasting
  pub first : (input : List ℕ) → left ≡ Some input → GoesFirst o input events bytes
  pub read : option_map (turns_at o first_events 0 0) (frames_left first_place left)
      ≡ option_map (λ s. after_bytes (bytes ++ waiting) (turns_at o all place.at declares s)) (frames_left place rest)
  pub wrote : (before : List ℕ) → written ≡ Some before → output ≡ Some (before ++ bytes)
