-- Begin on an arc, but for its record, which goes out last: what it makes of what is known of a node, and the record.
use Rattle.std.specs.Prelude.{ℕ, ◌&&◌, not, Bool, false, nat_lt, if◌then◌else◌, Option, Some, None, List, [], ◌∷◌, ◌++◌, length}
use Rattle.tp_names.specs.declared.identifiers.Aaid.{Aaid}
use Rattle.tp_names.specs.declared.identifiers.BranchId.{BranchId}
use Rattle.tp_names.specs.declared.children.Child.{Child}
use Rattle.tp_records.specs.declared.dialogue.DialogueRecord.{DialogueRecord}
use Rattle.tp_model.specs.declared.arc.Side.{Side}
use Rattle.tp_model.specs.Parts.{Who, Arc, Current, Digest, Out}
use Rattle.tp_model.specs.Dialogues.{is_nil, begun_by, named_holder}
use Rattle.tp_model.specs.Links.{greatest}
use Rattle.tp_model.specs.Arcs.{find_arc, with_dialogue, carried}
use Rattle.tp_model.specs.Transactions.{aaid_of, fresh_branch}
use Rattle.tp_model.specs.Node.{next_mark, with_mark_drawn, may_begin_on, phase_of, may_root, has_none, chained_peers}
use Rattle.tp_node_state.specs.Arcs.{is_spent}
use Rattle.tp_node.specs.Node.{Node}

-- the tree of the current transaction
abbrev pub aaid_in : Option Current → Option Aaid
aaid_in None = None
aaid_in (Some c) = Some (aaid_of c.key)

-- the transaction with a new branch after the others
abbrev pub with_branch : Child → Option Current → Option Current
with_branch x None = None
with_branch x (Some c) = Some (record c { branches = c.branches ++ fresh_branch x ∷ [] })

abbrev pub new_branch : Who → Digest → BranchId
new_branch who d = record { superior = who.site; mark = next_mark who d }

-- the node after a Begin on the arc
abbrev pub begun_at : Who → Arc → Digest → Digest
begun_at who a d = record (with_mark_drawn d) {
  arcs = with_dialogue d.arcs a.peer.node (begun_by (named_holder a.dialogue) Side.Superior);
  current = with_branch (record { addr = a.peer; branch = new_branch who d }) d.current;
}

-- where it may be sent: the node after it, and its record
abbrev pub begun_on : Who → ℕ → Digest → Digest × Option DialogueRecord
begun_on who p d = elim d.current [
  | None ↦ (d, None)
  | Some c ↦ elim (find_arc d.arcs p) [
    | None ↦ (d, None)
    | Some a ↦
        if may_begin_on who d a then (begun_at who a d, Some (DialogueRecord.Begin (aaid_of c.key) (new_branch who d) (named_holder a.dialogue)))
        else (d, None)
  ]
]

-- the record goes out too: the node after it, and what goes out
abbrev pub begun_sent : Who → ℕ → Digest → Digest × List Out
begun_sent who p d =
    let b = begun_on who p d in
    elim b.1 [
      | None ↦ (b.0, [])
      | Some r ↦ let s = carried b.0.arcs p r in (record b.0 { arcs = s.0 }, s.1)
    ]

-- a transaction has the memory for 256 branches from its start on
abbrev pub has_place_below : Option Current → Bool
has_place_below o = elim o [ None ↦ false | Some c ↦ nat_lt (length c.branches) 256 ]

-- nothing can be wanting for it: there is memory for the branch, the counter has a mark, Begin may be sent on the arc, and
-- its association has a number
abbrev pub can_begin : Who → ℕ → Digest → Bool
can_begin who p d =
    has_place_below d.current
    && nat_lt d.drawn greatest
    && elim (find_arc d.arcs p) [ None ↦ false | Some a ↦ may_begin_on who d a && not (is_spent a.link) ]

abbrev pub with_digest : Node → Digest → Node
with_digest v d = record v { digest = d }

-- ---- the next transaction

-- the node has none, may be a root, and has a chained arc to begin on
abbrev pub may_start : Who → Digest → Bool
may_start who d = is_nil (phase_of d) && may_root d && not (has_none (chained_peers who d))
