-- A drained tree without failure whose users all asked for commitment, or left: what its transcript says of it.
use Rattle.std.specs.Prelude.{◌≡◌, true, Any}
use Rattle.tp_names.specs.declared.identifiers.Aaid.{Aaid}
use Rattle.tp_names.specs.declared.outcome.Outcome.{Outcome}
use Rattle.tp_model.specs.declared.out_line.OutLine.{OutLine}
use Rattle.tp_model.specs.World.{World, Node}
use Rattle.tp_model.specs.Trees.{stays, members_of, closing_line}
use Rattle.tp_model.specs.Promises.{IsOf, IsDrained, IsFailureFree, AllAsked, HasCommitted}
use Rattle.tp_failure_free.specs.DrainedWorlds.{IsDrainedTree, IsUnfailedTree}

-- ---- premises of the tree's own time

-- each word of the tree that its nodes sent came where it went and no user owes its done; while the tree was current at a node
-- neither the node failed nor a dialogue there that the tree depended on; and each user asked for commitment or left
pub record IsSettledTree (w : World) (t : Aaid) : Type 0 where
  pub started : Any (λ u. u ≡ t) w.trees
  pub drained : IsDrainedTree w t
  pub unfailed : IsUnfailedTree w t
  pub asked : AllAsked w t

-- every node that stays has committed
abbrev pub SettledTreeCommits : World → Type 0
SettledTreeCommits w = (t : Aaid) → IsSettledTree w t → (y : Node) → IsOf w t y → stays t y ≡ true → HasCommitted t y

-- and the tree's closing line says that all agree on commitment
abbrev pub SettledTreeCloses : World → Type 0
SettledTreeCloses w = (t : Aaid) → IsSettledTree w t → closing_line t (members_of t w.nodes) ≡ OutLine.Agreed t Outcome.Commit

-- ---- premises of the whole life of its nodes

-- every frame that its nodes sent was taken, no user owes its done, nothing failed, and each user asked for commitment or left
pub record IsSettled (w : World) (t : Aaid) : Type 0 where
  pub started : Any (λ u. u ≡ t) w.trees
  pub drained : IsDrained w t
  pub unfailed : IsFailureFree w t
  pub asked : AllAsked w t

-- so it is settled in its own time
abbrev pub SettledInItsTime : World → Type 0
SettledInItsTime w = (t : Aaid) → IsSettled w t → IsSettledTree w t

-- the tree's closing line says that all agree on commitment
abbrev pub SettledCloses : World → Type 0
SettledCloses w = (t : Aaid) → IsSettled w t → closing_line t (members_of t w.nodes) ≡ OutLine.Agreed t Outcome.Commit
