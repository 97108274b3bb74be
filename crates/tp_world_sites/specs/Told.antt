-- What the closing lines show of a tree, by what the nodes did in it.
use Rattle.std.specs.Prelude.{ℕ, ◌&&◌, Bool, true, false, List, [], ◌∷◌}
use Rattle.std.specs.Option.{is_some}
use Rattle.tp_names.specs.declared.identifiers.Aaid.{Aaid}
use Rattle.tp_names.specs.declared.outcome.Outcome.{Outcome}
use Rattle.tp_model.specs.declared.out_line.OutLine.{OutLine}
use Rattle.tp_model.specs.Trees.{placed}
use Rattle.tp_network.specs.TreeOutcomes.{outcomes_at}
use Rattle.tp_network.specs.TreeSummaries.{summary_at}
use Rattle.tp_network.specs.declared.tree_summary.TreeSummary.{TreeSummary}
use Rattle.tp_network.specs.declared.tree_outcomes.TreeOutcomes.{TreeOutcomes}
use Rattle.tp_network.specs.declared.nodes.NodeSlot.{NodeSlot}

-- a node of the tree that logged a decision
abbrev pub decides_in : TreeSummary → Bool
decides_in s = s.member && is_some s.decision

-- ascending
abbrev pub deciders_at : Aaid → List NodeSlot → List ℕ
deciders_at t [] = []
deciders_at t (x ∷ xs) = elim (decides_in (summary_at x.summaries t)) [ true ↦ placed x.addr.node (deciders_at t xs) | false ↦ deciders_at t xs ]

-- the closing line of a tree whose staying nodes were told that
abbrev pub line_by : Aaid → List NodeSlot → TreeOutcomes → OutLine
line_by t xs o = elim (o.some_committed && o.some_rolled_back) [
  | true ↦ OutLine.Mixed t (deciders_at t xs)
  | false ↦ elim o.all_committed [
    | true ↦ OutLine.Agreed t Outcome.Commit
    | false ↦ elim o.all_rolled_back [ true ↦ OutLine.Agreed t Outcome.Rollback | false ↦ OutLine.Open t ]
  ]
]

-- of each tree
abbrev pub closing_at : List NodeSlot → List Aaid → List OutLine
closing_at xs [] = []
closing_at xs (t ∷ ts) = line_by t xs (outcomes_at xs t) ∷ closing_at xs ts
