-- What holds of the nodes of a run holds of the nodes alone.
use Rattle.std.proofs.Common.{◌≡◌, sym, ap, ◌∙◌, List}
use Rattle.tp_names.specs.declared.identifiers.Aaid.{Aaid}
use Rattle.tp_model.specs.World.{World, Node, number_of, find_node}
use Rattle.tp_model.specs.Promises.{IsOf}
use Rattle.tp_deployments.specs.Deployments.{Deed, Place}
use Rattle.tp_deployments.specs.RunOf.{nodes_of}
use Rattle.tp_laws.specs.Whole.{AllPromised}
use Rattle.tp_laws.proofs.Deployed.{deployments_keep}
use Rattle.tp_processes.specs.Deployed.{standing, Sentences, SentencesHold}

module _ (qs : List Place) (ds : List Deed) (w : World) (same : w.nodes ≡ nodes_of qs ds) (k : AllPromised w) where
  there : (t : Aaid) (x : Node) → IsOf (standing qs ds) t x → IsOf w t x
  there t x is = record { here = ap (λ (ns : List Node). find_node ns (number_of x)) same ∙ is.here; of_tree = is.of_tree }

  back : (t : Aaid) (x : Node) → IsOf w t x → IsOf (standing qs ds) t x
  back t x is = record { here = ap (λ (ns : List Node). find_node ns (number_of x)) (sym same) ∙ is.here; of_tree = is.of_tree }

  of_nodes : Sentences (standing qs ds)
  of_nodes = record {
    one_outcome = λ t x y o p a b. k.promised.headline.one_outcome t x y o p (there t x a) (there t y b);
    commits_alone = λ t x y a b. k.trees.commits t x y (there t x a) (there t y b);
    report_free = λ t x a root clear y b. k.promised.headline.report_free t x (there t x a) root clear y (there t y b);
  }

pub hold : SentencesHold
hold qs ds arranged deployed = let r = deployments_keep qs ds arranged deployed in of_nodes qs ds _ r.1.nodes r.2
