-- The nodes that were chosen, at most 16.
use Rattle.std.specs.Prelude.{ℕ, ◌≡◌, ◌≤◌, nat_lt, if◌then◌else◌, Option, Some, None, List, [], ◌∷◌, ◌++◌, length}
use Rattle.tp_draw.specs.declared.nodes.Nodes.TheInside.{Inside}

-- how they are kept
abbrev pub AreNodes : Inside → Type 0
AreNodes s = (s.count ≤ 16) × (length s.numbers ≡ 16)

-- with one more; none, where there are 16
abbrev pub with_node : List ℕ → ℕ → Option (List ℕ)
with_node ns n = if nat_lt (length ns) 16 then Some (ns ++ n ∷ []) else None
