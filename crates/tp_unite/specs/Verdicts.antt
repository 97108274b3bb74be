-- What it means that the bytes of a recording tell of a deployment, or of none, or are not read to their end.
use Rattle.std.specs.Prelude.{ℕ, suc, ◌≡◌, ◌⊎◌, Option, Some, List, ◌∷◌, ◌++◌}
use Rattle.tp_framing.specs.Frames.{Nothing, stream}
use Rattle.tp_model.specs.declared.out_line.OutLine.{OutLine}
use Rattle.tp_model.specs.declared.verdict.What.{What}
use Rattle.tp_model.specs.Happenings.{Happening, run}
use Rattle.tp_model.specs.Transcript.{Done, Bad_input, At_limit}
use Rattle.tp_streams.specs.declared.stop.Stop.{Stop}
use Rattle.tp_streams.specs.Stops.{IsFaultOf}
use Rattle.tp_deployments.specs.Deployments.{Deed, AreArranged}
use Rattle.tp_deployments.specs.RunOf.{IsRunOf}
use Rattle.tp_laws.specs.Whole.{AllPromised}
use Rattle.tp_weaving.specs.Frames.{Recording, nothing_told, told_from}
use Rattle.tp_weaving.specs.Parts.{AreApart, IsWovenOf}
use Rattle.tp_weaving.specs.Weaving.{Weaves, WeavesNone, Waits}
use Rattle.tp_closing.specs.Closing.{closing_told, AreClosing}
use Rattle.tp_unite.specs.declared.recording.Recording.{Recording as Kept}
use Rattle.tp_unite.specs.declared.verdict.Heard.{Heard}
use Rattle.tp_unite.specs.declared.verdict.Verdict.{Verdict}
use Rattle.tp_unite.specs.Endings.{body_ending, ending}
use Rattle.tp_unite.specs.Recording.{IsHeard, Misplaces}

-- the bytes are whole frames, which tell that
pub record Tells (bytes : List ℕ) (t : Recording) : Type 0 where
  pub whole : (stream bytes).rest ≡ Nothing
  pub tells : told_from nothing_told (stream bytes).bodies ≡ Some t

-- so far it was heard; of one that was heard whole, that is what it tells
pub record IsWhole (bytes : List ℕ) (c : Kept) : Type 0 where
  pub told : Recording
  pub tells : Tells bytes told
  pub heard : IsHeard told c

-- **the deeds of the recording, those of each site in its own order, are a deployment**
pub record TellsDeployment (bytes : List ℕ) : Type 0 where
  pub told : Recording
  pub tells : Tells bytes told
  pub arranged : AreArranged told.places
  pub apart : AreApart told.records
  pub weaves : Weaves told.places told.records

-- ---- no deployment

-- the frame of that number: what those before it tell, and its body
pub record IsFrameAt (bytes : List ℕ) (at : ℕ) (t : Recording) (body : List ℕ) : Type 0 where
  pub before : List (List ℕ)
  pub rest : List (List ℕ)
  pub bodies : (stream bytes).bodies ≡ before ++ body ∷ rest
  pub tells : told_from nothing_told before ≡ Some t
  pub number : at ≡ suc t.count
  pub taken : body_ending t body ≡ Done

-- **the event in that frame is of a node that is not placed so; whatever is told after it, no order of all deeds is a deployment**
pub record TellsMisplaced (bytes : List ℕ) (at : ℕ) : Type 0 where
  pub told : Recording
  pub body : List ℕ
  pub frame : IsFrameAt bytes at told body
  pub misplaced : Misplaces told body
  pub never : (more : List (List ℕ)) (all : Recording) → told_from nothing_told (frame.before ++ body ∷ more) ≡ Some all → WeavesNone all.places all.records

-- **no order of all deeds is a deployment, and the frame tells the first deed of its site that no order reaches**
pub record TellsUncarried (bytes : List ℕ) (at : ℕ) : Type 0 where
  pub told : Recording
  pub tells : Tells bytes told
  pub arranged : AreArranged told.places
  pub apart : AreApart told.records
  pub waits : Waits told.places told.records at

abbrev pub Judges : List ℕ → Verdict → Type 0
Judges bytes Verdict.Deployment = TellsDeployment bytes
Judges bytes (Verdict.NotPlaced at) = TellsMisplaced bytes at
Judges bytes (Verdict.NotCarried at) = TellsUncarried bytes at

abbrev pub Hears : List ℕ → Heard → Type 0
Hears bytes (Heard.Whole c) = IsWhole bytes c
Hears bytes (Heard.NotPlaced at) = TellsMisplaced bytes at

-- ---- the closing lines

-- **the lines are told by the deeds of the recording alone, and are but for their order those that close the transcript of every run that
-- these are, in whatever order they happened**; such a run there is, and of it holds all that is promised of runs
pub record ClosesDeployment (bytes : List ℕ) (lines : List OutLine) : Type 0 where
  pub told : Recording
  pub tells : Tells bytes told
  pub lines_are : lines ≡ closing_told told
  pub every : (ds : List Deed) (es : List Happening) → IsWovenOf told.records ds → IsRunOf told.places ds (run es) → AreClosing lines (run es)
  pub deeds : List Deed
  pub woven : IsWovenOf told.records deeds
  pub happenings : List Happening
  pub is_run : IsRunOf told.places deeds (run happenings)
  pub keeps : AllPromised (run happenings)

-- of no deployment there are none
abbrev pub Closes : List ℕ → Verdict → List OutLine → List OutLine → Type 0
Closes bytes Verdict.Deployment old new = ClosesDeployment bytes new
Closes bytes (Verdict.NotPlaced at) old new = new ≡ old
Closes bytes (Verdict.NotCarried at) old new = new ≡ old

-- ---- no verdict

-- each frame up to that one could be taken by itself; it is the log of its site that passes a limit
pub record FillsLog (bytes : List ℕ) (what : What) (at : ℕ) : Type 0 where
  pub what_is : what ≡ What.Log
  pub told : Recording
  pub body : List ℕ
  pub frame : IsFrameAt bytes at told body

abbrev pub EndsAtLimit : List ℕ → What → ℕ → Type 0
EndsAtLimit bytes what at = (ending bytes ≡ At_limit what at) ⊎ FillsLog bytes what at

-- why a recording is not judged, by what the source had left and by its counts of faults
abbrev pub Stops : Option (List ℕ) → ℕ → ℕ → Stop → Type 0
Stops left old new (Stop.BadInput at why) = (bytes : List ℕ) → left ≡ Some bytes → ending bytes ≡ Bad_input at why
Stops left old new (Stop.Limit what at) = (bytes : List ℕ) → left ≡ Some bytes → EndsAtLimit bytes what at
Stops left old new (Stop.Foreign at) = ⊥
Stops left old new (Stop.ReadFault faults) = IsFaultOf faults old new
Stops left old new (Stop.WriteFault faults) = ⊥
Stops left old new (Stop.DiskFault faults) = ⊥
Stops left old new Stop.NoMemory = Unit {0}
