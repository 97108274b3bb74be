-- How a driven world of the code stands for a world of the definitions, and what a line does in it.
use Rattle.std.specs.Prelude.{◌≡◌, ◌++◌, Bool, Option, List, [], length, Result, Ok, Err}
use Rattle.tp_records.specs.Answers.{Answer}
use Rattle.tp_model.specs.declared.line.Line.{Line}
use Rattle.tp_model.specs.declared.out_line.OutLine.{OutLine}
use Rattle.tp_model.specs.World.{World}
use Rattle.tp_model.specs.Lines.{Name, Over}
use Rattle.tp_model.specs.Transcript.{echo}
use Rattle.tp_world_sites.specs.declared.fault.WorldFault.{WorldFault}
use Rattle.tp_world_members.specs.Answers.{IsPlayed, IsEnded}
use Rattle.tp_world_members.specs.Running.{StandsWith}
use Rattle.tp_world_members.specs.declared.driven_world.DrivenWorld.{DrivenWorld}

-- the members that were handed in; of one that was dropped its place is left
abbrev pub members_of : {M : Type 0} → DrivenWorld M → List (Option M)
members_of v = v.members.slots.items

-- a line has ended the run
abbrev pub has_ended : {M : Type 0} → DrivenWorld M → Bool
has_ended v = v.ended

-- the world without members is that of the definitions, and its members are there and drive the nodes that they drive
abbrev pub Stands : {M : Type 0} → World → DrivenWorld M → Type 0
Stands w v = StandsWith w v.world v.members.slots.items v.members.drivers.entries

-- it was played to its end: it shows, after the lines that stood before, what the definitions show after its echo
pub record PlaysOut {M : Type 0} (allowed : M → List Answer → Type 0) (w : World) (l : Line) (before after : List OutLine)
    (old new : DrivenWorld M) : Type 0 where
  pub world : World
  pub shown : List OutLine
  pub is : after ≡ before ++ shown
  pub played : IsPlayed allowed (members_of old) (members_of new) (length (members_of old)) w l shown world
  pub stands : Stands world new

-- for some answers that the members may give: one for each indication that was put to them. Out of memory is the free answer
abbrev pub PlaysAfter : {M : Type 0} → (M → List Answer → Type 0) → World → Line → List OutLine → Result (Unit {0}) WorldFault
    → List OutLine → DrivenWorld M → DrivenWorld M → Type 0
PlaysAfter allowed w l before (Ok u) after old new = PlaysOut allowed w l before after old new
PlaysAfter allowed w l before (Err WorldFault.Name) after old new = IsEnded allowed (members_of old) (members_of new) (length (members_of old)) w l Name
PlaysAfter allowed w l before (Err (WorldFault.Limit what)) after old new = IsEnded allowed (members_of old) (members_of new)
    (length (members_of old)) w l (Over what)
PlaysAfter allowed w l before (Err WorldFault.NoMemory) after old new = Unit {0}

-- it shows its echo first
abbrev pub PlaysEchoed : {M : Type 0} → (M → List Answer → Type 0) → World → Line → Result (Unit {0}) WorldFault → List OutLine
    → DrivenWorld M → DrivenWorld M → Type 0
PlaysEchoed allowed w l r after old new = PlaysAfter allowed w l (echo l) r after old new

abbrev pub Plays : {M : Type 0} → (M → List Answer → Type 0) → World → Line → Result (List OutLine) WorldFault → DrivenWorld M → DrivenWorld M → Type 0
Plays allowed w l (Ok lines) old new = PlaysEchoed allowed w l (Ok tt) lines old new
Plays allowed w l (Err f) old new = PlaysEchoed allowed w l (Err f) [] old new
