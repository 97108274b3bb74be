use Rattle.std.proofs.Common.{◌≡◌, drop}
use Rattle.tp_node_state.specs.Kept.{age_of, age_among}
use Rattle.tp_node_state.proofs.kept_map.age_of.Given as goal

-- none of those before has the key
abbrev pub invariant-loop-age : goal.invariant-loop-age
invariant-loop-age l = age_of l.by_age.entries l.key ≡ age_among l.by_age.entries l.key (drop l.age-index l.age-items)
