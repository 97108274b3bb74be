-- What is shown of a node, as the code has it and as the definitions have it, and the tree that it is in.
use Rattle.std.specs.Prelude.{not, Option}
use Rattle.std.specs.Option.{option_map, is_some}
use Rattle.tp_model.specs.Parts.{State, Current, Digest}
use Rattle.tp_model.specs.Transactions.{node_key}
use Rattle.tp_node.specs.declared.state.NodeState.{NodeState}
use Rattle.tp_node.specs.declared.state.NodeTree.{NodeTree}

abbrev pub state_of : NodeState → State
state_of s = record { phase = s.phase; asked = s.asked; owes = s.owes; kept = s.kept }

-- a root's key has no branch
abbrev pub tree_of : Current → NodeTree
tree_of c = record { aaid = (node_key c.key).aaid; is_root = not (is_some (node_key c.key).branch); phase = c.phase }

-- the tree of the current transaction
abbrev pub tree_in : Digest → Option NodeTree
tree_in d = option_map tree_of d.current
