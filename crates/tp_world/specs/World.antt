-- How a world of the code stands for a world of the definitions, and what its calls answer.
use Rattle.std.specs.Prelude.{ℕ, ◌≡◌, ◌++◌, true, Option, Some, None, List, [], Result, Ok, Err}
use Rattle.tp_model.specs.declared.out_line.OutLine.{OutLine}
use Rattle.tp_model.specs.World.{World}
use Rattle.tp_model.specs.Happenings.{Task, after_lines, event_turn, still, WorldTurn}
use Rattle.tp_model.specs.Lines.{Fault, Name, Over, line}
use Rattle.tp_model.specs.declared.line.Line.{Line}
use Rattle.tp_model.specs.Transcript.{echo, is_silent}
use Rattle.tp_laws.specs.Expansion.{IsOfRun}
use Rattle.tp_world_sites.specs.Standing.{SitesStand, RestStands}
use Rattle.tp_world_sites.specs.declared.fault.WorldFault.{WorldFault}
use Rattle.tp_world.specs.declared.world.World.{World as CodeWorld}

-- ---- the world

-- in an event the sites go first: between the two the sites stand for the world after it, and the rest for the one before
pub record Mirrors (w : World) (v : CodeWorld) : Type 0 where
  pub sites : SitesStand w v.sites.items
  pub rest : RestStands w v.nodes v.frames v.trees.items

-- and it is a world that some happenings have left: so the laws of runs hold of it
pub record Stands (w : World) (v : CodeWorld) : Type 0 where
  pub run : IsOfRun w
  pub mirrors : Mirrors w v

-- ---- what a call answers

abbrev pub fault_of : Fault → WorldFault
fault_of Name = WorldFault.Name
fault_of (Over what) = WorldFault.Limit what

-- it shows the lines of the turn after those that stood before, and stands for the world after it; or it tells the fault.
-- Out of memory is the free answer
abbrev pub Gives : Result WorldTurn Fault → List OutLine → Result (Unit {0}) WorldFault → List OutLine → CodeWorld → Type 0
Gives r before (Err WorldFault.NoMemory) lines v = Unit {0}
Gives (Ok t) before (Ok u) lines v = (lines ≡ before ++ t.lines) × Mirrors t.world v
Gives (Ok t) before (Err WorldFault.Name) lines v = ⊥
Gives (Ok t) before (Err (WorldFault.Limit what)) lines v = ⊥
Gives (Err f) before (Ok u) lines v = ⊥
Gives (Err f) before (Err WorldFault.Name) lines v = WorldFault.Name ≡ fault_of f
Gives (Err f) before (Err (WorldFault.Limit what)) lines v = WorldFault.Limit what ≡ fault_of f

-- ---- an event at a node

-- what an event of a node gives, after the lines that are shown first; where there is no such node nothing happens
abbrev pub task_turn : World → List OutLine → Option Task → WorldTurn
task_turn w ls o = elim o [ None ↦ still w | Some t ↦ after_lines ls (event_turn w t.node t.event) ]

-- ---- a line

-- it shows the lines of the turn after those that stood before, and the world stands for the one after it; or it tells the fault. No
-- member is asked, so it does not matter how many there are; none is there, where the line speaks of one
abbrev pub PlaysAfter : World → Line → List OutLine → Result (Unit {0}) WorldFault → List OutLine → CodeWorld → Type 0
PlaysAfter w l before (Ok u) after new = (t : WorldTurn) × ((members : ℕ) → line members w l ≡ Ok t) × (after ≡ before ++ t.lines) × Stands t.world new
PlaysAfter w l before (Err WorldFault.Name) after new = (members : ℕ) → (is_silent l ≡ true → members ≡ 0) → line members w l ≡ Err Name
PlaysAfter w l before (Err (WorldFault.Limit what)) after new = (members : ℕ) → line members w l ≡ Err (Over what)
PlaysAfter w l before (Err WorldFault.NoMemory) after new = Unit {0}

-- it shows its echo first
abbrev pub Plays : World → Line → Result (List OutLine) WorldFault → CodeWorld → Type 0
Plays w l (Ok lines) new = PlaysAfter w l (echo l) (Ok tt) lines new
Plays w l (Err f) new = PlaysAfter w l [] (Err f) [] new
