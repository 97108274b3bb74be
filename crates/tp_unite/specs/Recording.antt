-- How far a recording was heard, and what the code keeps of it.
use Rattle.std.specs.Prelude.{ℕ, ◌≡◌, ◌⊎◌, Option, Some, None, Result, Ok, Err, List, [], ◌∷◌}
use Rattle.tp_names.specs.declared.identifiers.Addr.{Addr}
use Rattle.tp_model.specs.declared.verdict.What.{What}
use Rattle.tp_model.specs.Transcript.{Ending, Done, Bad_input, At_limit}
use Rattle.tp_streams.specs.declared.stop.Stop.{Stop}
use Rattle.tp_deployments.specs.Deployments.{Place, AreArranged}
use Rattle.tp_weaving.specs.declared.frame.Frame.{Frame}
use Rattle.tp_weaving.specs.declared.lane.Lane.{Lane}
use Rattle.tp_weaving.specs.Places.{find_place}
use Rattle.tp_weaving.specs.Frames.{Record, Recording as Told, frame_in}
use Rattle.tp_weaving.specs.Parts.{AreApart}
use Rattle.tp_weaving.specs.Weaving.{AreLanes}
use Rattle.tp_closing.specs.Told.{TellTrees}
use Rattle.tp_unite.specs.declared.playing.Playing.{Playing}
use Rattle.tp_unite.specs.declared.playing.PlayFault.{PlayFault}
use Rattle.tp_unite.specs.declared.recording.Recording.{Recording}
use Rattle.tp_unite.specs.declared.recording.HearFault.{HearFault}
use Rattle.tp_unite.specs.Placing.{MisplacesOf}
use Rattle.tp_unite.specs.Playing.{IsPlaying}

abbrev pub superior_at : List Place → Addr → Option Addr
superior_at qs a = elim (find_place qs a) [ None ↦ None | Some q ↦ q.superior ]

-- the site of the newest record is played; those of the others were played whole
abbrev pub ArePlayed : List Place → List Record → List Lane → Option Playing → Type 0
ArePlayed qs [] xs None = xs ≡ []
ArePlayed qs [] xs (Some p) = ⊥
ArePlayed qs (r ∷ rs) xs None = ⊥
ArePlayed qs (r ∷ rs) xs (Some p) = IsPlaying qs r p × AreLanes qs rs xs

pub record IsHeard (t : Told) (c : Recording) : Type 0 where
  pub places : c.places ≡ t.places
  pub arranged : AreArranged t.places
  pub apart : AreApart t.records
  pub played : ArePlayed t.places t.records c.lanes.items c.playing
  pub trees : TellTrees t.places t.records c.trees

-- what was told is heard, where it was told
abbrev pub Comes : Option Told → Recording → Type 0
Comes None c = ⊥
Comes (Some t) c = IsHeard t c

-- every site was played whole, and none is played
pub record AreWhole (t : Told) (c : Recording) : Type 0 where
  pub places : c.places ≡ t.places
  pub arranged : AreArranged t.places
  pub apart : AreApart t.records
  pub lanes : AreLanes t.places t.records c.lanes.items
  pub trees : TellTrees t.places t.records c.trees

-- the site of the newest record was taken out
pub record IsLeft (t : Told) (r : Record) (rs : List Record) (p : Playing) (c : Recording) : Type 0 where
  pub places : c.places ≡ t.places
  pub arranged : AreArranged t.places
  pub apart : AreApart (r ∷ rs)
  pub playing : IsPlaying t.places r p
  pub lanes : AreLanes t.places rs c.lanes.items
  pub trees : TellTrees t.places (r ∷ rs) c.trees

-- ---- a frame

-- what a fault of a site means in the frame of that number
abbrev pub fault_at : PlayFault → ℕ → HearFault
fault_at PlayFault.NotPlaced at = HearFault.NotPlaced
fault_at PlayFault.Full at = HearFault.Stop (Stop.Limit What.Log at)
fault_at PlayFault.NoMemory at = HearFault.Stop Stop.NoMemory

-- why the frame of that number is not taken: it ends the reading so; or it is the log that passes a limit
abbrev pub IsStopAt : ℕ → Ending → Stop → Type 0
IsStopAt at ending (Stop.BadInput n why) = ending ≡ Bad_input n why
IsStopAt at ending (Stop.Limit what n) = (ending ≡ At_limit what n) ⊎ ((what ≡ What.Log) × (n ≡ at) × (ending ≡ Done))
IsStopAt at ending (Stop.Foreign n) = ⊥
IsStopAt at ending (Stop.ReadFault faults) = ⊥
IsStopAt at ending (Stop.WriteFault faults) = ⊥
IsStopAt at ending (Stop.DiskFault faults) = ⊥
IsStopAt at ending Stop.NoMemory = Unit {0}

-- it is taken, or it is not
abbrev pub Answers : ℕ → Ending → Option Told → Type 0 → Result (Unit {0}) HearFault → Recording → Type 0
Answers at ending told misplaced (Ok u) new = (ending ≡ Done) × Comes told new
Answers at ending told misplaced (Err HearFault.NotPlaced) new = (ending ≡ Done) × misplaced
Answers at ending told misplaced (Err (HearFault.Stop stop)) new = IsStopAt at ending stop

abbrev pub MisplacesIn : Told → Frame → Type 0
MisplacesIn t (Frame.Takes g) = MisplacesOf t.places t.records g
MisplacesIn t _ = ⊥

-- the event in that frame
abbrev pub Misplaces : Told → List ℕ → Type 0
Misplaces t body = elim (frame_in body) [ None ↦ ⊥ | Some f ↦ MisplacesIn t f ]
