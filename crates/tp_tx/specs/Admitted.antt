-- Whether a frame is let in.
use Rattle.std.specs.Prelude.{ℕ, ◌≡◌, ◌⊎◌, ◌+◌, ◌<◌, ◌≤◌, Some, Result, Ok, Err, List}
use Rattle.tp_model.specs.declared.verdict.What.{What}
use Rattle.tp_streams.specs.declared.stop.Stop.{Stop}
use Rattle.tp_tx.specs.declared.frame.Frame.{Frame}
use Rattle.tp_tx.specs.Frames.{frame_in, declared_by_frame}
use Rattle.tp_tx.specs.Said.{IsRead}

-- the frame is within the limits, and counts
pub record LetsIn (at declares : ℕ) (body : List ℕ) (frame : Frame) (new : ℕ) : Type 0 where
  pub says : frame_in body ≡ Some frame
  pub frames : at ≤ 1000000
  pub nodes : declares + declared_by_frame frame ≤ 256
  pub counts : new ≡ declares + declared_by_frame frame

-- the frame passes a limit: that of frames, or else that of nodes
pub record IsPast (at declares : ℕ) (body : List ℕ) (stop : Stop) : Type 0 where
  pub frame : Frame
  pub says : frame_in body ≡ Some frame
  pub past : ((1000000 < at) × (stop ≡ Stop.Limit What.Events at))
      ⊎ ((at ≤ 1000000) × (256 < declares + declared_by_frame frame) × (stop ≡ Stop.Limit What.Nodes at))

abbrev pub Admits : ℕ → ℕ → List ℕ → Result Frame Stop → ℕ → Type 0
Admits at declares body (Ok frame) new = LetsIn at declares body frame new
Admits at declares body (Err stop) new = (new ≡ declares) × (IsRead at body (Err stop) ⊎ IsPast at declares body stop)
