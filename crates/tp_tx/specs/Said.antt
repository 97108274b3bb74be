-- What the body of a frame says, as it is read.
use Rattle.std.specs.Prelude.{ℕ, ◌≡◌, ◌⊎◌, Option, Some, None, Result, Ok, Err, List}
use Rattle.tp_model.specs.declared.verdict.Why.{Why}
use Rattle.tp_streams.specs.declared.stop.Stop.{Stop}
use Rattle.tp_tx.specs.declared.frame.Frame.{Frame}
use Rattle.tp_tx.specs.Frames.{frame_in}

-- what stands in these bytes, if anything, or that memory ran out
abbrev pub IsFound : {A : Type 0} → Option A → Result (Option A) Stop → Type 0
IsFound said (Ok found) = found ≡ said
IsFound said (Err stop) = stop ≡ Stop.NoMemory

-- what the body of the frame with that number says, or that it says nothing, or that memory ran out
abbrev pub IsRead : ℕ → List ℕ → Result Frame Stop → Type 0
IsRead number body (Ok frame) = frame_in body ≡ Some frame
IsRead number body (Err stop) = ((stop ≡ Stop.BadInput number Why.Body) × (frame_in body ≡ None)) ⊎ (stop ≡ Stop.NoMemory)
