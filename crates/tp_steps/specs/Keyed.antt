-- Whence the key of the current transaction comes, and by whose order it commits.
use Rattle.std.specs.Prelude.{◌≡◌, ◌⊎◌, true, Some, List}
use Rattle.tp_names.specs.declared.identifiers.Aaid.{Aaid}
use Rattle.tp_model.specs.declared.transaction.TxEvent.{TxEvent}
use Rattle.tp_model.specs.Parts.{Who, Event, Arc, Root, Current, Digest}
use Rattle.tp_model.specs.Transactions.{is_under}
use Rattle.tp_model.specs.Node.{Move, seen}
use Rattle.tp_steps.specs.Turns.{is_order_for}
use Rattle.tp_steps.specs.Moves.{IsAsked}
use Rattle.tp_steps.specs.Passages.{is_commit_rec}

-- what is current goes on, or the node roots a tree of its own
abbrev pub HasKeyFrom : Who → Digest → Current → Type 0
HasKeyFrom who d u = ((c : Current) × (d.current ≡ Some c) × (u.key ≡ c.key))
    ⊎ ((t : Aaid) × (u.key ≡ Root t) × (t.owner ≡ who.site) × (t.mark.node ≡ who.node))

-- the superior orders what is current
abbrev pub IsOrdered : Who → Event → Current → Type 0
IsOrdered who e c = (f : TxEvent) × (arcs : List Arc) × IsAsked e c f × (is_order_for f (seen who arcs c) ≡ true)

pub record IsKeyedMove (who : Who) (e : Event) (s d : Digest) (m : Move) : Type 0 where
  pub keys : (u : Current) → m.next.current ≡ Some u → HasKeyFrom who d u
  pub orders : is_commit_rec m.rec ≡ true → (c : Current) × (s.current ≡ Some c) × ((is_under c.key ≡ true) → IsOrdered who e c)
