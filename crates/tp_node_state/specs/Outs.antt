-- The outputs of a node as the site keeps them, and those of the definitions that they are.
use Rattle.std.specs.Prelude.{List, map, Option, Some, None, [], ◌∷◌}
use Rattle.tp_model.specs.Parts.{Out as OutValue, Tell, Send}
use Rattle.tp_records.specs.declared.dialogue.DialogueRecord.{DialogueRecord}
use Rattle.tp_records.specs.declared.peer.PeerRecord.{PeerRecord}
use Rattle.tp_node_state.specs.declared.outs.Out.{Out}
use Rattle.tp_node_state.specs.declared.outs.Next.{Next}
use Rattle.tp_node_state.specs.declared.outs.Outs.TheInside.{Inside}

abbrev pub out_of : Out → OutValue
out_of (Out.Tell i) = Tell i
out_of (Out.Send to r) = Send to r

abbrev pub outs_of : Inside → List OutValue
outs_of s = map out_of s.items.items

-- one output, or none
abbrev pub outs_of_option : Option Out → List OutValue
outs_of_option None = []
outs_of_option (Some o) = out_of o ∷ []

-- a record with that number, or none
abbrev pub outs_with : Option Next → DialogueRecord → List OutValue
outs_with None r = []
outs_with (Some n) r = Send n.to (PeerRecord.OnAssoc n.x n.y n.seq r) ∷ []
