-- What a rollback waits for: once its user has finished, it stays current only as long as one of its peers is linked that has not
-- rolled back.
use Rattle.std.specs.Prelude.{ℕ, ◌≡◌, ◌==◌, ◌&&◌, ◌||◌, not, Bool, true, false, Some, List, [], ◌∷◌}
use Rattle.tp_model.specs.Parts.{Arc, Branch, Current, Digest}
use Rattle.tp_model.specs.Dialogues.{is_rolling}
use Rattle.tp_model.specs.Arcs.{is_live_with_peer}
use Rattle.tp_model.specs.Transactions.{is_under_at}
use Rattle.tp_model.specs.World.{World, Node}
use Rattle.tp_model.specs.Happenings.{Happening, run}
use Rattle.tp_model.specs.Promises.{IsIn}
use Rattle.tp_finishing.specs.Doubt.{known_of}

-- a branch with the peer has neither rolled back nor left
abbrev pub has_open_at : List Branch → ℕ → Bool
has_open_at [] p = false
has_open_at (b ∷ bs) p = ((b.peer.node == p) && not (b.ended || b.left)) || has_open_at bs p

-- it has not; or the peer is the superior, and has not said that it rolls back
abbrev pub is_awaited : Current → ℕ → Bool
is_awaited c p = has_open_at c.branches p || (is_under_at c.key p && not c.superior_rolled)

pub record WaitsFor (arcs : List Arc) (c : Current) : Type 0 where
  pub peer : ℕ
  pub linked : is_live_with_peer arcs peer ≡ true
  pub awaited : is_awaited c peer ≡ true

-- a transaction that rolls back, and whose user owes nothing, waits for such a peer
abbrev pub Waits : Digest → Type 0
Waits d = (c : Current) → d.current ≡ Some c → is_rolling c.phase ≡ true → c.owes ≡ false → WaitsFor d.arcs c

abbrev pub AllWait : World → Type 0
AllWait w = (x : Node) → IsIn w x → Waits (known_of x)

abbrev pub RollbacksWait : Type 0
RollbacksWait = (es : List Happening) → AllWait (run es)
