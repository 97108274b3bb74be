-- Where trees start, and how often a world lists one.
use Rattle.std.specs.Prelude.{ℕ, suc, ◌≡◌, ◌≤◌, ◌⊎◌, ◌++◌, Bool, true, false, List, [], ◌∷◌}
use Rattle.tp_names.specs.declared.identifiers.Aaid.{Aaid}
use Rattle.tp_names.specs.Same.{is_aaid}
use Rattle.tp_model.specs.declared.out_line.OutLine.{OutLine}
use Rattle.tp_model.specs.Parts.{Origin, Entry}
use Rattle.tp_model.specs.History.{digest}
use Rattle.tp_model.specs.Outcomes.{is_member, root_started}
use Rattle.tp_model.specs.World.{World, Node}
use Rattle.tp_model.specs.Trees.{closing}
use Rattle.tp_model.specs.Happenings.{trees_of}
use Rattle.tp_model.specs.Promises.{IsIn, IsOf, is_root}
use Rattle.tp_histories.specs.Members.{has_taken_begin}

-- ---- the trees that a node started

abbrev pub starts : Origin → List Entry → List Aaid
starts o [] = []
starts o (e ∷ h) = starts o h ++ trees_of (root_started (digest o h) (digest o (e ∷ h)))

abbrev pub times_in : Aaid → List Aaid → ℕ
times_in t [] = 0
times_in t (u ∷ us) = elim (is_aaid t u) [ true ↦ suc (times_in t us) | false ↦ times_in t us ]

-- ---- in the tree, in plain words: the node started it, or took a Begin of it

abbrev pub BelongsSo : World → Type 0
BelongsSo w =
    (t : Aaid) (x : Node) → IsIn w x
    → (is_member x.origin t x.history ≡ true → (suc 0 ≤ times_in t (starts x.origin x.history)) ⊎ (has_taken_begin t x.history ≡ true))
    × (suc 0 ≤ times_in t (starts x.origin x.history) → is_member x.origin t x.history ≡ true)
    × (has_taken_begin t x.history ≡ true → is_member x.origin t x.history ≡ true)

-- ---- listed once

-- a tree with a node stands in the world's list once; a tree in the list has its root
pub record ListedOnce (w : World) : Type 0 where
  pub once : (t : Aaid) (x : Node) → IsOf w t x → times_in t w.trees ≡ 1
  pub rooted : (t : Aaid) → suc 0 ≤ times_in t w.trees → (x : Node) × IsOf w t x × (is_root t x ≡ true)

-- so many closing lines speak of the tree
abbrev pub is_line_of : Aaid → OutLine → Bool
is_line_of t (OutLine.Agreed u o) = is_aaid t u
is_line_of t (OutLine.Mixed u ns) = is_aaid t u
is_line_of t (OutLine.Open u) = is_aaid t u
is_line_of t _ = false

abbrev pub lines_of : Aaid → List OutLine → ℕ
lines_of t [] = 0
lines_of t (l ∷ ls) = elim (is_line_of t l) [ true ↦ suc (lines_of t ls) | false ↦ lines_of t ls ]

abbrev pub ClosesOnce : World → Type 0
ClosesOnce w = (t : Aaid) (x : Node) → IsOf w t x → lines_of t (closing w) ≡ 1
