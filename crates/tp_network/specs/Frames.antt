-- The frames of a world as the code keeps them, and those of the definitions that they are.
use Rattle.std.specs.Prelude.{ℕ, suc, ◌≡◌, ◌≤◌, ◌==◌, ◌&&◌, Bool, Option, Some, None, List, [], ◌∷◌, map, length, if◌then◌else◌}
use Rattle.tp_model.specs.World.{Frame as FrameValue, mark_handed}
use Rattle.tp_network.specs.FrameRecord.{record_of}
use Rattle.tp_network.specs.Waiting.{above, queue_at, waiting_from}
use Rattle.tp_network.specs.declared.fault.SendFault.{SendFault}
use Rattle.tp_network.specs.declared.frames.Frame.{Frame}
use Rattle.tp_network.specs.declared.frames.Frames.TheInside.{Inside}

abbrev pub frame_of : Frame → FrameValue
frame_of f = record { from = f.from; to = f.to; rec = record_of f.rec; handed = f.handed }

abbrev pub frames_of : Inside → List FrameValue
frames_of v = map frame_of v.items.items

-- how many stand before the first one that is not handed over
abbrev pub leading : List Frame → ℕ
leading [] = 0
leading (f ∷ fs) = if f.handed then suc (leading fs) else 0

-- from the one node to the other
abbrev pub is_between : ℕ → ℕ → FrameValue → Bool
is_between a b f = (f.from.node == a) && (f.to.node == b)

-- all before `first` were handed over, and that one was not; there are no more than have numbers; of the numbers that are kept
-- between two nodes, those above `first` are those of the frames between them that were not handed over
pub record AreNumbered (v : Inside) : Type 0 where
  pub first : v.first ≡ leading v.items.items
  pub most : length v.items.items ≤ 65535
  pub waiting : (a b : ℕ) → above v.first (queue_at v.waiting a b) ≡ waiting_from 0 (is_between a b) (map frame_of v.items.items)

-- the frame of that number counts as handed over, where one is told
abbrev pub handed_over : List FrameValue → Option ℕ → List FrameValue
handed_over fs None = fs
handed_over fs (Some k) = mark_handed fs k

-- it is full exactly where all numbers are used
abbrev pub IsFull : ℕ → SendFault → Type 0
IsFull n SendFault.Full = 65535 ≤ n
IsFull n SendFault.NoMemory = Unit {0}
