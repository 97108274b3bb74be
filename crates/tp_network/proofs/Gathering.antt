-- The outcomes of each tree, with one node more: its summaries one after the other.
use Rattle.std.proofs.Common.{◌≡◌, Bool, true, false, refl, sym, subst, Some, None, List, [], ◌∷◌}
use Rattle.std.specs.Prelude.{cond}
use Rattle.std.specs.List.{AllByRecursion, IsDistinct}
use Rattle.std.specs.Map.{lookup, keys_of}
use Rattle.tp_names.specs.declared.identifiers.Aaid.{Aaid}
use Rattle.tp_names.specs.Same.{is_aaid}
use Rattle.tp_names.proofs.Sames.{aaid_same}
use Rattle.tp_network.specs.TreeKey.{is_tree, tree_of}
use Rattle.tp_network.specs.TreeSummary.{no_summary}
use Rattle.tp_network.specs.TreeSummaries.{summary_at}
use Rattle.tp_network.specs.TreeOutcomes.{with_node}
use Rattle.tp_network.specs.declared.tree_key.Tree.{Tree}
use Rattle.tp_network.specs.declared.tree_summary.TreeSummary.{TreeSummary}
use Rattle.tp_network.specs.declared.tree_outcomes.TreeOutcomes.{TreeOutcomes}

-- the entries of a tree are put in, from the first on
abbrev pub gathered : List (Tree × TreeSummary) → Aaid → TreeOutcomes → TreeOutcomes
gathered [] t o = o
gathered (e ∷ es) t o = elim (is_aaid t e.0.aaid) [ true ↦ gathered es t (with_node e.1 o) | false ↦ gathered es t o ]

-- a tree that has no entry
gathered_none : (es : List (Tree × TreeSummary)) (t : Aaid) (o : TreeOutcomes) → AllByRecursion (λ (k : Tree). is_aaid t k.aaid ≡ false) (keys_of es) → gathered es t o ≡ o
gathered_none [] t o h = refl
gathered_none (e ∷ es) t o h = rw (h.0, gathered) (gathered_none es t o h.1)

abbrev FirstGathered : Tree × TreeSummary → List (Tree × TreeSummary) → Aaid → TreeOutcomes → Bool → Type 0
FirstGathered e es t o b = elim b as (λ _. TreeOutcomes) [ true ↦ gathered es t (with_node e.1 o) | false ↦ gathered es t o ]
    ≡ with_node (elim (cond b (Some e.1) (lookup (is_tree (tree_of t)) es)) as (λ _. TreeSummary) [ None ↦ no_summary | Some v ↦ v ]) o

-- a tree has one entry at most
pub gathered_all : (es : List (Tree × TreeSummary)) (t : Aaid) (o : TreeOutcomes) → IsDistinct is_tree (keys_of es) → gathered es t o ≡ with_node (summary_at es t) o
unfolding IsDistinct
gathered_all [] t o h = refl
gathered_all (e ∷ es) t o h = go (is_aaid t e.0.aaid) refl (gathered_all es t o h.1)
  where
    go : (b : Bool) → is_aaid t e.0.aaid ≡ b → gathered es t o ≡ with_node (summary_at es t) o → FirstGathered e es t o b
    go true i more = gathered_none es t (with_node e.1 o) (subst (λ (u : Aaid). AllByRecursion (λ (k : Tree). is_aaid u k.aaid ≡ false) (keys_of es)) (sym (aaid_same t e.0.aaid i)) h.0)
    go false i more = more
