-- The answers of members, run one after the other, each to the indication that is next in the queue. Whatever answers come later, these
-- do what the definitions say.
use Rattle.std.specs.Prelude.{ℕ, ◌≡◌, ◌++◌, Option, Some, None, List, length}
use Rattle.tp_records.specs.declared.request.Request.{Request}
use Rattle.tp_records.specs.Answers.{Answer}
use Rattle.tp_model.specs.declared.line.Line.{Line}
use Rattle.tp_model.specs.declared.out_line.OutLine.{OutLine}
use Rattle.tp_model.specs.World.{World}
use Rattle.tp_model.specs.Lines.{Fault}
use Rattle.tp_model.specs.Transcript.{Put, Play, answered, echo, with_lines, line_played}
use Rattle.tp_world_members.specs.Members.{Gave}

abbrev pub with_puts : List Put → Play → Play
with_puts qs p = record p { puts = qs ++ p.puts }

-- some of what waits was put, and the answers were run: the lines show that, and the rest waits in the world that they leave
pub record HaveRun {M : Type 0} (allowed : M → List Answer → Type 0) (old new : List (Option M)) (before : ℕ) (w : World) (queue : List Put)
    (shown : List OutLine) (after : ℕ) (v : World) (rest : List Put) : Type 0 where
  pub put : List Put
  pub given : List (Option Request)
  pub each : length given ≡ length put
  pub run : (later : List (Option Request)) → answered (given ++ later) before w queue ≡ with_puts put (with_lines shown (answered later after v rest))
  pub gave : Gave allowed old new put given
  pub count : length new ≡ length old

-- the last of them ends the run by that fault
pub record HaveEnded {M : Type 0} (allowed : M → List Answer → Type 0) (old new : List (Option M)) (before : ℕ) (w : World)
    (queue : List Put) (f : Fault) : Type 0 where
  pub given : List (Option Request)
  pub play : Play
  pub each : length given ≡ length play.puts
  pub run : (later : List (Option Request)) → answered (given ++ later) before w queue ≡ record play { left = later }
  pub fault : play.fault ≡ Some f
  pub gave : Gave allowed old new play.puts given

-- ---- a whole line, where so many members were handed in

-- it was played to its end, and showed these lines after its echo
pub record IsPlayed {M : Type 0} (allowed : M → List Answer → Type 0) (old new : List (Option M)) (members : ℕ) (w : World) (l : Line)
    (shown : List OutLine) (v : World) : Type 0 where
  pub put : List Put
  pub given : List (Option Request)
  pub each : length given ≡ length put
  pub plays : (later : List (Option Request))
      → line_played members (given ++ later) w l ≡ record { world = v; lines = echo l ++ shown; puts = put; left = later; fault = None }
  pub gave : Gave allowed old new put given
  pub count : length new ≡ length old

-- the run ended in it
pub record IsEnded {M : Type 0} (allowed : M → List Answer → Type 0) (old new : List (Option M)) (members : ℕ) (w : World) (l : Line) (f : Fault) : Type 0 where
  pub given : List (Option Request)
  pub play : Play
  pub each : length given ≡ length play.puts
  pub plays : (later : List (Option Request)) → line_played members (given ++ later) w l ≡ record play { left = later }
  pub fault : play.fault ≡ Some f
  pub gave : Gave allowed old new play.puts given
