-- What is kept of the nodes of a recording gives the lines that are told of it.
use Rattle.std.proofs.Common.{◌≡◌, ◌++◌, refl, ap, sym, ◌∙◌, List, [], ◌∷◌, inl, inr}
use Rattle.tp_names.specs.declared.identifiers.Aaid.{Aaid}
use Rattle.tp_model.specs.Legal.{IsLegal}
use Rattle.tp_model.specs.World.{Node, find_node}
use Rattle.tp_model.specs.Happenings.{Happening, run}
use Rattle.tp_model.specs.Promises.{IsIn}
use Rattle.tp_model.specs.Trees.{closing_from}
use Rattle.tp_histories.proofs.worlds.Starts.{all_legal}
use Rattle.tp_network.specs.declared.nodes.NodeSlot.{NodeSlot}
use Rattle.tp_outcomes.specs.Starting.{starts}
use Rattle.tp_deployments.specs.Deployments.{Deed, Place, IsAmong, AreArranged}
use Rattle.tp_deployments.specs.RunOf.{node_at, nodes_of, IsRunOf}
use Rattle.tp_weaving.specs.Frames.{Recording}
use Rattle.tp_weaving.specs.Parts.{AreApart, IsWovenOf}
use Rattle.tp_world_sites.specs.Standing.{AreNodes}
use Rattle.tp_world_sites.specs.Told.{closing_at}
use Rattle.tp_world.proofs.Tellings.{lines_same}
use Rattle.tp_closing.specs.declared.trees.State.{State}
use Rattle.tp_closing.specs.declared.trees.Trees.{Trees}
use Rattle.tp_closing.specs.Closing.{deeds_of, nodes_told, trees_begun, closing_told}
use Rattle.tp_closing.specs.Seen.{AreSeen, oldest_first, all_begun}
use Rattle.tp_closing.specs.Told.{TellTrees}
use Rattle.tp_closing.proofs.Woven.{nodes_alike}
use Rattle.tp_closing.proofs.Listed.{find_there}

abbrev nodes_at : List Deed → List Place → List Node
nodes_at ds [] = []
nodes_at ds (q ∷ qs) = node_at ds q ∷ nodes_at ds qs

at_append : (ds : List Deed) (ps qs : List Place) → nodes_at ds (ps ++ qs) ≡ nodes_at ds ps ++ nodes_at ds qs
at_append ds [] qs = refl
at_append ds (p ∷ ps) qs = ap (λ (l : List Node). node_at ds p ∷ l) (at_append ds ps qs)

nodes_are : (ds : List Deed) (qs : List Place) → nodes_of qs ds ≡ nodes_at ds (oldest_first qs)
nodes_are ds [] = refl
nodes_are ds (q ∷ qs) = ap (λ (l : List Node). l ++ node_at ds q ∷ []) (nodes_are ds qs) ∙ sym (at_append ds (oldest_first qs) (q ∷ []))

among_oldest : (p : Place) (qs : List Place) → IsAmong p (oldest_first qs) → IsAmong p qs
among_oldest p [] h = absurd h
among_oldest p (q ∷ qs) h = split (oldest_first qs) h (λ i. inr (among_oldest p qs i))
  where
    split : (ps : List Place) → IsAmong p (ps ++ q ∷ []) → (IsAmong p ps → IsAmong p (q ∷ qs)) → IsAmong p (q ∷ qs)
    split [] (inl same) left = inl same
    split [] (inr h) left = absurd h
    split (r ∷ ps) (inl same) left = left (inl same)
    split (r ∷ ps) (inr h) left = split ps h (λ i. left (inr i))

are_nodes : (ds : List Deed) (qs : List Place) (xs : List NodeSlot) (ss : List State) → ((q : Place) → IsAmong q qs → IsLegal (node_at ds q).origin (node_at ds q).superior (node_at ds q).history) → AreSeen ds qs xs ss → AreNodes (nodes_at ds qs) xs
are_nodes ds [] [] [] legal seen = tt
are_nodes ds [] [] (s ∷ ss) legal seen = absurd seen
are_nodes ds [] (x ∷ xs) [] legal seen = absurd seen
are_nodes ds [] (x ∷ xs) (s ∷ ss) legal seen = absurd seen
are_nodes ds (q ∷ qs) [] [] legal seen = absurd seen
are_nodes ds (q ∷ qs) [] (s ∷ ss) legal seen = absurd seen
are_nodes ds (q ∷ qs) (x ∷ xs) [] legal seen = absurd seen
are_nodes ds (q ∷ qs) (x ∷ xs) (s ∷ ss) legal seen = (
  record { addr = seen.0.addr; superior = seen.0.superior; version = refl; fresh = refl; legal = legal q (inl refl); summaries = seen.0.summaries },
  are_nodes ds qs xs ss (λ p h. legal p (inr h)) seen.1,
)

begun_are : (ds : List Deed) (qs : List Place) (xs : List NodeSlot) (ss : List State) → AreSeen ds qs xs ss → all_begun ss ≡ trees_begun (nodes_at ds qs)
begun_are ds [] [] [] seen = refl
begun_are ds [] [] (s ∷ ss) seen = absurd seen
begun_are ds [] (x ∷ xs) [] seen = absurd seen
begun_are ds [] (x ∷ xs) (s ∷ ss) seen = absurd seen
begun_are ds (q ∷ qs) [] [] seen = absurd seen
begun_are ds (q ∷ qs) [] (s ∷ ss) seen = absurd seen
begun_are ds (q ∷ qs) (x ∷ xs) [] seen = absurd seen
begun_are ds (q ∷ qs) (x ∷ xs) (s ∷ ss) seen =
    ap (λ (l : List Aaid). l ++ all_begun ss) seen.0.begun ∙ ap (λ (l : List Aaid). starts (node_at ds q).origin (node_at ds q).history ++ l) (begun_are ds qs xs ss seen.1)

pub lines_are_told : (t : Recording) (ds : List Deed) (es : List Happening) (v : Trees) → AreArranged t.places → AreApart t.records → IsWovenOf t.records ds → IsRunOf t.places ds (run es) → TellTrees t.places t.records v
    → closing_at v.slots.items (all_begun v.states.items) ≡ closing_told t
lines_are_told t ds es v arr apart woven is tell =
    ap (closing_at v.slots.items) (begun_are all oldest v.slots.items v.states.items tell.sees ∙ ap trees_begun (sym (nodes_are all t.places)))
    ∙ lines_same (nodes_at all oldest) v.slots.items (trees_begun (nodes_told t)) (are_nodes all oldest v.slots.items v.states.items legal tell.sees)
    ∙ ap (λ (ns : List Node). closing_from ns (trees_begun (nodes_told t))) (sym (nodes_are all t.places))
  where
    all : List Deed
    all = deeds_of t.records

    oldest : List Place
    oldest = oldest_first t.places

    same : (run es).nodes ≡ nodes_of t.places all
    same = is.nodes ∙ nodes_alike t.places ds t.records apart woven

    legal : (q : Place) → IsAmong q oldest → IsLegal (node_at all q).origin (node_at all q).superior (node_at all q).history
    legal q h =
        let here : IsIn (run es) (node_at all q) = ap (λ (ns : List Node). find_node ns q.addr.node) same ∙ find_there t.places all q arr (among_oldest q t.places h) in
        all_legal es (node_at all q) here
