use Rattle.std.proofs.Common.{◌≡◌, drop}
use Rattle.tp_node_state.specs.Kept.{first_in, listed}
use Rattle.tp_node_state.specs.Changes.{changed_all, first_among}
use Rattle.tp_node_state.proofs.kept_map.first_of.Given as goal

-- none of those before is asked for
abbrev pub invariant-loop-age : goal.invariant-loop-age
invariant-loop-age l =
    first_in (changed_all l.change (listed l.by_age.entries)) l.aaid l.branch ≡ first_among l.by_age.entries l.change l.branch (drop l.age-index l.age-items)
