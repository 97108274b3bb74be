-- Dialogues that are offered and answered, and a superior's transaction that begins: what each makes of what is known of a node.
use Rattle.std.specs.Prelude.{ℕ, Option, Some, None}
use Rattle.tp_names.specs.declared.identifiers.Addr.{Addr}
use Rattle.tp_names.specs.declared.identifiers.Aaid.{Aaid}
use Rattle.tp_names.specs.declared.identifiers.BranchId.{BranchId}
use Rattle.tp_names.specs.declared.identifiers.Mark.{Mark}
use Rattle.tp_records.specs.declared.dialogue.Holder.{Holder}
use Rattle.tp_model.specs.declared.arc.Side.{Side}
use Rattle.tp_model.specs.Parts.{Link, Idle, Opening, Offered, Live, Arc, Under, Digest}
use Rattle.tp_model.specs.Dialogues.{fresh_dialogue, begun_by}
use Rattle.tp_model.specs.Arcs.{put_arc, with_dialogue}
use Rattle.tp_model.specs.Node.{fresh_current, superior_arc}
use Rattle.tp_tree.specs.declared.tie.Tie.{Tie}
use Rattle.tp_tree.specs.Tie.{arc_of}

-- a new dialogue on the arc, whose association has that state
abbrev pub answered : Arc → ℕ → Side → Link → Digest → Digest
answered a units side l d = record d { arcs = put_arc d.arcs (record a { link = l; dialogue = fresh_dialogue units side }) }

-- the arc on which the superior offers a dialogue, with the mark of its offer
abbrev pub offer_at : Arc → Link → Option (Arc × Mark)
offer_at a Idle = None
offer_at a (Opening x) = None
offer_at a (Offered x) = Some (a, x)
offer_at a (Live x y sent taken) = None

abbrev pub offer_of : Digest → Option (Arc × Mark)
offer_of d = elim (superior_arc d) [ None ↦ None | Some a ↦ offer_at a a.link ]

abbrev pub offer_on : Option (Tie × Mark) → Option (Arc × Mark)
offer_on None = None
offer_on (Some o) = Some (arc_of o.0, o.1)

-- ---- the superior's transaction, as the branch of that identifier

abbrev pub begun_under : Addr → Aaid → BranchId → Holder → Digest → Digest
begun_under superior t b h d = record d {
  arcs = with_dialogue d.arcs superior.node (begun_by h Side.Subordinate);
  current = Some (fresh_current (Under t b superior));
}
