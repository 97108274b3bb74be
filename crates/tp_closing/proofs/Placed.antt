-- A node has its place, and nothing happened to it.
use Rattle.std.proofs.Common.{◌≡◌, refl, sym, ◌∙◌, subst, ℕ, None, List, []}
use Rattle.tp_names.specs.declared.identifiers.Aaid.{Aaid}
use Rattle.tp_model.specs.Parts.{Entry}
use Rattle.tp_model.specs.Events.{started}
use Rattle.tp_model.specs.History.{digest}
use Rattle.tp_node.specs.State.{tree_in}
use Rattle.tp_network.specs.TreeSummary.{no_summary}
use Rattle.tp_network.specs.TreeSummaries.{summary_at}
use Rattle.tp_network.specs.declared.nodes.NodeSlot.{NodeSlot}
use Rattle.tp_site_logs.specs.Lives.{first_origin}
use Rattle.tp_deployments.specs.Deployments.{Deed, Place, history_at}
use Rattle.tp_deployments.specs.RunOf.{node_at}
use Rattle.tp_closing.specs.declared.trees.State.{State}
use Rattle.tp_closing.specs.Seen.{IsSeen}

-- it is in no tree
no_tree : (s : List ℕ) (n : ℕ) → tree_in (digest (first_origin s n) []) ≡ None
unfolding started
no_tree s n = refl

pub placed_seen : (ds : List Deed) (q : Place) (x : NodeSlot) (s : State) → history_at ds q.addr ≡ [] → x.addr ≡ q.addr → x.superior ≡ q.superior → ((t : Aaid) → summary_at x.summaries t ≡ no_summary) → s.now ≡ None → s.begun.items ≡ []
    → IsSeen (node_at ds q) x s
placed_seen ds q x s none addr superior summaries now begun =
    subst (λ (h : List Entry). IsSeen (record { origin = first_origin q.addr.site q.addr.node; superior = q.superior; history = h }) x s) (sym none)
    (record { addr = addr; superior = superior; summaries = summaries; now = now ∙ sym (no_tree q.addr.site q.addr.node); begun = begun })
