-- A drain as the code does it: at most so many turns, in each of which the oldest frame that is not handed over is.
use Rattle.std.specs.Prelude.{ℕ, ◌≡◌, ◌+◌, ◌++◌, Bool, true, false, Some, None, List, Result, Ok, Err}
use Rattle.tp_model.specs.declared.line.Action.{Action}
use Rattle.tp_model.specs.declared.out_line.OutLine.{OutLine}
use Rattle.tp_model.specs.World.{World, oldest_of_all}
use Rattle.tp_model.specs.Happenings.{Does, Mark, happens, WorldTurn}
use Rattle.tp_model.specs.Lines.{within_limits, then_result, drain_line}
use Rattle.tp_world.specs.World.{Mirrors, Gives}
use Rattle.tp_world_sites.specs.declared.fault.WorldFault.{WorldFault}
use Rattle.tp_world.specs.declared.world.World.{World as CodeWorld}

-- that frame is handed over
abbrev pub handed : World → ℕ → WorldTurn
handed w k = happens (happens w (Mark k)).world (Does (Action.Again k))

-- one turn; it tells whether there was a frame
abbrev pub Hands : World → List OutLine → Result Bool WorldFault → List OutLine → CodeWorld → Type 0
Hands w before (Ok false) after new = (oldest_of_all w ≡ None) × (after ≡ before) × Mirrors w new
Hands w before (Ok true) after new = (k : ℕ) × (oldest_of_all w ≡ Some k) × Gives (within_limits (handed w k)) before (Ok tt) after new
Hands w before (Err f) after new = (k : ℕ) × (oldest_of_all w ≡ Some k) × Gives (within_limits (handed w k)) before (Err f) after new

-- so many turns were taken, and the rest of them is left
pub record IsDrainedSoFar (w : World) (most done : ℕ) (before shown : List OutLine) (v : CodeWorld) : Type 0 where
  pub left : ℕ
  pub turns : done + left ≡ most
  pub turn : WorldTurn
  pub so_far : drain_line most w ≡ then_result turn (drain_line left turn.world)
  pub lines : shown ≡ before ++ turn.lines
  pub stands : Mirrors turn.world v
