-- What the frames of a root's program say.
use Rattle.std.specs.Prelude.{ℕ, ◌+◌, ◌*◌, ◌==◌, if◌then◌else◌, Option, Some, None, option_map, List, [], ◌∷◌}
use Rattle.tp_records.specs.BodyReading.{event_in}
use Rattle.tp_model.specs.NodeTranscript.{declared_by}
use Rattle.tp_tx.specs.declared.frame.Frame.{Frame}

-- the call has no more bytes
abbrev pub alone : Frame → List ℕ → Option Frame
alone call [] = Some call
alone call (b ∷ bs) = None

-- a peer's number, the higher byte first
abbrev pub begin_in : List ℕ → Option Frame
begin_in [] = None
begin_in (x ∷ []) = None
begin_in (x ∷ y ∷ []) = Some (Frame.Begin (x * 256 + y))
begin_in (x ∷ y ∷ z ∷ more) = None

-- a call by its code, or else an event
abbrev pub frame_in : List ℕ → Option Frame
frame_in [] = None
frame_in (code ∷ rest) =
    if code == 32 then begin_in rest
    else if code == 33 then alone Frame.Commit rest
    else if code == 34 then alone Frame.Rollback rest
    else if code == 35 then alone Frame.Finish rest
    else if code == 36 then alone Frame.Ask rest
    else option_map Frame.Event (event_in (code ∷ rest))

-- how many nodes it declares
abbrev pub declared_by_frame : Frame → ℕ
declared_by_frame (Frame.Event g) = declared_by g
declared_by_frame (Frame.Begin p) = 0
declared_by_frame Frame.Commit = 0
declared_by_frame Frame.Rollback = 0
declared_by_frame Frame.Finish = 0
declared_by_frame Frame.Ask = 0

abbrev pub declared_in : List ℕ → ℕ
declared_in body = elim (frame_in body) [ None ↦ 0 | Some f ↦ declared_by_frame f ]
