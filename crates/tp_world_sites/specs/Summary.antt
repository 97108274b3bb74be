-- The summary of a tree at a node that follows from the node's whole history: one fold over it.
use Rattle.std.specs.Prelude.{◌≡◌, Option, List, [], ◌∷◌}
use Rattle.std.specs.Option.{option_map}
use Rattle.tp_names.specs.declared.identifiers.Aaid.{Aaid}
use Rattle.tp_names.specs.declared.identifiers.Addr.{Addr}
use Rattle.tp_model.specs.Parts.{Origin, Entry, Digest}
use Rattle.tp_model.specs.History.{digest}
use Rattle.tp_model.specs.Legal.{IsLegal}
use Rattle.tp_model.specs.Happenings.{log_shown}
use Rattle.tp_model.specs.Outcomes.{is_member, is_unchanged, has_left, decided, decision, rolled}
use Rattle.tp_node.specs.State.{tree_in}
use Rattle.tp_network.specs.TreeSummary.{no_summary, summary_after}
use Rattle.tp_network.specs.declared.tree_summary.TreeSummary.{TreeSummary}
use Rattle.tp_network.specs.declared.tree_summary.TreeChange.{TreeChange}

-- ---- the fold

abbrev pub change_of : Digest → Entry → Digest → TreeChange
change_of before e after = record {
  before = tree_in before;
  after = tree_in after;
  leaves = is_unchanged e.event;
  rec = option_map log_shown e.rec;
}

-- of a history that begins with no record
abbrev pub summary : Origin → Aaid → List Entry → TreeSummary
summary o t [] = no_summary
summary o t (e ∷ h) = summary_after t (change_of (digest o h) e (digest o (e ∷ h))) (summary o t h)

-- ---- what is to be proved of it: the summary tells what the history tells

pub record Tells (o : Origin) (t : Aaid) (h : List Entry) (p : TreeSummary) : Type 0 where
  pub member : p.member ≡ is_member o t h
  pub left : p.left ≡ has_left o t h
  pub decided : p.decided ≡ decided o t h
  pub decision : p.decision ≡ decision o t h
  pub rolled : p.rolled ≡ rolled o t h

abbrev pub SummaryTells : Type 0
SummaryTells = (o : Origin) (up : Option Addr) (t : Aaid) (h : List Entry) → IsLegal o up h → o.start.records ≡ [] → Tells o t h (summary o t h)
