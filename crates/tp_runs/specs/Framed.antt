-- What a node said goes out, unless its site stopped.
use Rattle.std.specs.Prelude.{◌≡◌, ◌⊎◌, ◌||◌, Bool, true, false, List, [], ◌∷◌}
use Rattle.tp_names.specs.declared.identifiers.Addr.{Addr}
use Rattle.tp_records.specs.declared.peer.PeerRecord.{PeerRecord}
use Rattle.tp_model.specs.Parts.{Event, Entry}
use Rattle.tp_model.specs.World.{World, Node, Frame, addr_of}
use Rattle.tp_model.specs.Promises.{IsIn}
use Rattle.tp_histories.specs.Histories.{HasSent}

abbrev pub is_stop : Event → Bool
is_stop Event.Crash = true
is_stop _ = false

abbrev pub has_stopped : List Entry → Bool
has_stopped [] = false
has_stopped (e ∷ h) = is_stop e.event || has_stopped h

-- a frame with that record, from one address to the other
abbrev pub IsFrameTo : List Frame → Addr → Addr → PeerRecord → Type 0
IsFrameTo [] a z r = ⊥
IsFrameTo (f ∷ fs) a z r = (f.from ≡ a) × (f.to ≡ z) × (f.rec ≡ r) ⊎ IsFrameTo fs a z r

-- each record that a node sent is a frame, where its site never stopped
abbrev pub GoesOut : World → Type 0
GoesOut w = (x : Node) → IsIn w x → has_stopped x.history ≡ false → (z : Addr) (r : PeerRecord) → HasSent x.history z r → IsFrameTo w.frames (addr_of x) z r
