-- What the code answers where it runs the answers of members.
use Rattle.std.specs.Prelude.{ℕ, suc, ◌≡◌, ◌<◌, ◌++◌, Option, Some, None, List, [], ◌∷◌, drop, Result, Ok, Err}
use Rattle.tp_records.specs.Answers.{Answer}
use Rattle.tp_model.specs.declared.line.Line.{Line}
use Rattle.tp_model.specs.declared.line.LineRequest.{LineRequest}
use Rattle.tp_model.specs.declared.out_line.OutLine.{OutLine}
use Rattle.tp_model.specs.LineText.{line_text}
use Rattle.tp_model.specs.World.{World, driver_of}
use Rattle.tp_model.specs.Happenings.{WorldTurn}
use Rattle.tp_model.specs.Lines.{Name, Over}
use Rattle.tp_model.specs.Transcript.{Put, answer_turn}
use Rattle.tp_members.specs.Expansion.{memberless}
use Rattle.tp_world.specs.World.{Stands as WorldStands}
use Rattle.tp_world_sites.specs.declared.fault.WorldFault.{WorldFault}
use Rattle.tp_world.specs.declared.world.World.{World as CodeWorld}
use Rattle.tp_world_members.specs.Told.{puts_in}
use Rattle.tp_world_members.specs.Answers.{HaveRun, HaveEnded}
use Rattle.tp_world_members.specs.Standing.{MembersStand}

-- the answer was run as a line; out of memory is the free answer
abbrev pub RunsAnswer : ℕ → World → ℕ → LineRequest → List OutLine → Result (Unit {0}) WorldFault → List OutLine → CodeWorld → Type 0
RunsAnswer before w n r lines (Ok u) shown new =
    (t : WorldTurn) × (answer_turn before w n r ≡ Ok t) × (shown ≡ lines ++ OutLine.Echo (line_text (Line.Do n r)) ∷ t.lines) × WorldStands t.world new
RunsAnswer before w n r lines (Err WorldFault.Name) shown new = answer_turn before w n r ≡ Err Name
RunsAnswer before w n r lines (Err (WorldFault.Limit what)) shown new = answer_turn before w n r ≡ Err (Over what)
RunsAnswer before w n r lines (Err WorldFault.NoMemory) shown new = Unit {0}

-- what waits in the world, where the lines from that place on are the queue
abbrev pub waits : World → List OutLine → ℕ → List Put
waits w lines from = puts_in (driver_of w.drives) (drop from lines)

-- the code stands for the world, and its members for those of the world
pub record StandsWith {M : Type 0} (w : World) (new : CodeWorld) (xs : List (Option M)) (es : List (ℕ × ℕ)) : Type 0 where
  pub world : WorldStands (memberless w) new
  pub members : MembersStand w xs es

-- some answers were run, and these lines are shown; the rest waits from that place on
pub record RunsOn {M : Type 0} (allowed : M → List Answer → Type 0) (before : ℕ) (w : World) (from : ℕ) (lines : List OutLine)
    (after next : ℕ) (shown : List OutLine) (new : CodeWorld) (xs ys : List (Option M)) (fs : List (ℕ × ℕ)) : Type 0 where
  pub world : World
  pub more : List OutLine
  pub is : shown ≡ lines ++ more
  pub run : HaveRun allowed xs ys before w (waits w lines from) more after world (waits world shown next)
  pub stands : StandsWith world new ys fs

-- all were run
pub record RunsOut {M : Type 0} (allowed : M → List Answer → Type 0) (before : ℕ) (w : World) (from : ℕ) (lines : List OutLine)
    (shown : List OutLine) (new : CodeWorld) (xs ys : List (Option M)) (fs : List (ℕ × ℕ)) : Type 0 where
  pub after : ℕ
  pub world : World
  pub more : List OutLine
  pub is : shown ≡ lines ++ more
  pub run : HaveRun allowed xs ys before w (waits w lines from) more after world []
  pub stands : StandsWith world new ys fs

abbrev pub RunsNext : {M : Type 0} → (M → List Answer → Type 0) → ℕ → World → ℕ → List OutLine → Result (Option ℕ) WorldFault → List OutLine
    → CodeWorld → List (Option M) → List (Option M) → List (ℕ × ℕ) → Type 0
RunsNext allowed before w from lines (Ok None) shown new xs ys fs = RunsOut allowed before w from lines shown new xs ys fs
RunsNext allowed before w from lines (Ok (Some next)) shown new xs ys fs = (before < 4096)
    × RunsOn allowed before w from lines (suc before) next shown new xs ys fs
RunsNext allowed before w from lines (Err WorldFault.Name) shown new xs ys fs = HaveEnded allowed xs ys before w (waits w lines from) Name
RunsNext allowed before w from lines (Err (WorldFault.Limit what)) shown new xs ys fs = HaveEnded allowed xs ys before w (waits w lines from) (Over what)
RunsNext allowed before w from lines (Err WorldFault.NoMemory) shown new xs ys fs = Unit {0}

abbrev pub RunsAll : {M : Type 0} → (M → List Answer → Type 0) → World → ℕ → List OutLine → Result (Unit {0}) WorldFault → List OutLine
    → CodeWorld → List (Option M) → List (Option M) → List (ℕ × ℕ) → Type 0
RunsAll allowed w from lines (Ok u) shown new xs ys fs = RunsOut allowed 0 w from lines shown new xs ys fs
RunsAll allowed w from lines (Err WorldFault.Name) shown new xs ys fs = HaveEnded allowed xs ys 0 w (waits w lines from) Name
RunsAll allowed w from lines (Err (WorldFault.Limit what)) shown new xs ys fs = HaveEnded allowed xs ys 0 w (waits w lines from) (Over what)
RunsAll allowed w from lines (Err WorldFault.NoMemory) shown new xs ys fs = Unit {0}
