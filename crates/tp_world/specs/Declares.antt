-- A node that comes, as the code declares it: its superior's address, and what it gives.
use Rattle.std.specs.Prelude.{ℕ, ◌≡◌, ◌++◌, Bool, true, Option, Some, None, List}
use Rattle.tp_names.specs.declared.identifiers.Addr.{Addr}
use Rattle.tp_model.specs.declared.out_line.OutLine.{OutLine}
use Rattle.tp_model.specs.World.{World, addr_at, is_node}
use Rattle.tp_model.specs.Happenings.{declared_at, WorldTurn}
use Rattle.tp_world.specs.World.{Mirrors}
use Rattle.tp_world.specs.declared.world.World.{World as CodeWorld}

-- the address of the node of that number, where one is given
abbrev pub superior_at : World → Option ℕ → Option Addr
superior_at w None = None
superior_at w (Some p) = addr_at w p

-- it is there, where there is one
abbrev pub has_superior : World → Option Addr → Bool
has_superior w up = elim up [ None ↦ true | Some a ↦ is_node w a.node ]

-- the node has come: the lines of the turn stand after those shown before
abbrev pub HasCome : World → Addr → Option Addr → List OutLine → List OutLine → CodeWorld → Type 0
HasCome w a up before after new = let t : WorldTurn = declared_at w a.node a.site up in (after ≡ before ++ t.lines) × Mirrors t.world new
