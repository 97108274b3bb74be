-- How the nodes of a tree hang together, and what agreement rests on.
use Rattle.std.specs.Prelude.{ℕ, suc, ◌≡◌, ◌≤◌, ◌⊎◌, true, false}
use Rattle.tp_names.specs.declared.identifiers.Aaid.{Aaid}
use Rattle.tp_names.specs.declared.identifiers.BranchId.{BranchId}
use Rattle.tp_model.specs.Parts.{Event, Digest}
use Rattle.tp_model.specs.Node.{Move}
use Rattle.tp_model.specs.Outcomes.{is_now}
use Rattle.tp_model.specs.World.{World, Node}
use Rattle.tp_model.specs.Promises.{IsOf, IsBranchOf, is_root}
use Rattle.tp_steps.specs.Moves.{IsLate}
use Rattle.tp_steps.specs.Facts.{words_to}
use Rattle.tp_steps.specs.Trees.{begins_of}
use Rattle.tp_histories.specs.Members.{is_begun_by}

-- an event e whose prelude left s, from d on: what begins in it is current to its end, and Begin goes out of such a tree or
-- of the one that was current at first
pub record IsStaying (e : Event) (t : Aaid) (p : ℕ) (s d : Digest) (m : Move) : Type 0 where
  pub late : IsLate d → IsLate m.next
  pub stays : IsLate d → is_now t d.current ≡ true → (is_now t s.current ≡ false) ⊎ (is_begun_by t e ≡ true) → is_now t m.next.current ≡ true
  pub begins : IsLate d → suc 0 ≤ begins_of t (words_to p m.outs) → (is_now t m.next.current ≡ true) ⊎ (is_now t s.current ≡ true)

-- each node of a tree but its root is a branch of a node of the tree
abbrev pub HangsTogether : World → Type 0
HangsTogether w = (t : Aaid) (y : Node) → IsOf w t y → is_root t y ≡ false → (x : Node) × (b : BranchId) × IsBranchOf w t b x y
