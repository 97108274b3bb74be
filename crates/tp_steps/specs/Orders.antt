-- Who orders a commitment of a tree in recovery: only a node that commits it, or keeps its commitment.
use Rattle.std.specs.Prelude.{◌≡◌, ◌&&◌, ◌||◌, Bool, true, false, List, [], ◌∷◌}
use Rattle.tp_names.specs.declared.identifiers.Aaid.{Aaid}
use Rattle.tp_model.specs.Parts.{Out, Digest}
use Rattle.tp_model.specs.Dialogues.{is_committing}
use Rattle.tp_model.specs.Transactions.{Transaction, Turn, aaid_of}
use Rattle.tp_model.specs.Node.{Move}
use Rattle.tp_names.specs.Same.{is_aaid}
use Rattle.tp_steps.specs.Moves.{orders_tree, orders_in, is_committed_in}
use Rattle.tp_steps.specs.Trees.{commits_tree}

-- a transaction asks so only of its own tree, in committing
abbrev pub AsksOwn : Transaction → Turn → Type 0
AsksOwn s a = (u : Aaid) → orders_in u a.outs ≡ true → (is_committing s.phase && is_aaid u (aaid_of s.key)) ≡ true

abbrev pub sends_order : Aaid → List Out → Bool
sends_order u [] = false
sends_order u (Out.Tell i ∷ outs) = sends_order u outs
sends_order u (Out.Send a r ∷ outs) = orders_tree u r || sends_order u outs

-- what holds of each tree that is committed or kept, and of one that is committed by the event, holds of the trees that
-- the event orders, and of those that are committed or kept after it
abbrev pub IsOwnMove : Digest → Move → Type 0
IsOwnMove d m =
    (g : Aaid → Bool) → ((u : Aaid) → is_committed_in u d ≡ true → g u ≡ true) → ((u : Aaid) → commits_tree u m.rec ≡ true → g u ≡ true)
    → ((u : Aaid) → sends_order u m.outs ≡ true → g u ≡ true) × ((u : Aaid) → is_committed_in u m.next ≡ true → g u ≡ true)
