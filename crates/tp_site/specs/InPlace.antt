-- Events that are run on their node itself. What such an event says is known before anything of it is so; what it changes is
-- then done where it stands, takes no memory and cannot fail.
use Rattle.std.specs.Prelude.{ℕ, ◌≡◌, ◌≤◌, Bool, true, false, if◌then◌else◌, Some, None, List, [], ◌∷◌}
use Rattle.tp_records.specs.declared.dialogue.DialogueRecord.{DialogueRecord}
use Rattle.tp_records.specs.declared.request.Request.{Request}
use Rattle.tp_records.specs.declared.indication.Indication.{Indication}
use Rattle.tp_records.specs.declared.peer.PeerRecord.{PeerRecord}
use Rattle.tp_model.specs.Dialogues.{Sight, Acts, Nothing_happens, Out_of_phase}
use Rattle.tp_model.specs.Links.{greatest, with_one_taken}
use Rattle.tp_model.specs.Parts.{Who, Out, Tell, Digest}
use Rattle.tp_model.specs.Arcs.{find_arc, with_link}
use Rattle.tp_names.specs.Reports.{is_report_none}
use Rattle.tp_model.specs.Arrivals.{woken_by, sight_at}
use Rattle.tp_model.specs.Node.{move}
use Rattle.tp_model.specs.Events.{action, some_past_numbers}
use Rattle.tp_node.specs.declared.event.NodeEvent.{NodeEvent}
use Rattle.tp_node.specs.NodeEvent.{event_of, refused_at_once, is_retry}
use Rattle.tp_node.specs.Begins.{can_begin, begun_sent}
use Rattle.tp_node.specs.Node.{Node}
use Rattle.tp_node.specs.Noted.{only_counts, only_ends, counted_in, ended_in}

-- ---- which they are: a Ready or a Done that acts, and is only noted on its branch; and a Begin for which nothing can be
-- wanting, where the node has a transaction

abbrev pub is_only_noted : Digest → ℕ → DialogueRecord → Bool
is_only_noted d p DialogueRecord.Ready = only_counts d p
is_only_noted d p (DialogueRecord.Done r) = only_ends d p
is_only_noted d p _ = false

abbrev pub is_acting : Sight → Bool
is_acting Acts = true
is_acting Nothing_happens = false
is_acting Out_of_phase = false

abbrev pub acts_at : Who → Digest → ℕ → DialogueRecord → Bool
acts_at who d p r = elim (find_arc d.arcs p) [ None ↦ false | Some a ↦ is_acting (sight_at who d a r) ]

-- ---- what they say

abbrev pub told_of : ℕ → DialogueRecord → List Out
told_of p DialogueRecord.Ready = Tell (Indication.Ready p) ∷ []
told_of p (DialogueRecord.Done r) = if is_report_none r then [] else Tell (Indication.HeuristicReport p r) ∷ []
told_of p _ = []

-- ---- what they change

-- a record is taken on the arc with that peer
abbrev pub with_record_taken : ℕ → DialogueRecord → Digest → Digest
with_record_taken p r d = woken_by r p (record d { arcs = with_link d.arcs p with_one_taken })

abbrev pub noted_on : ℕ → DialogueRecord → Digest → Digest
noted_on p DialogueRecord.Ready d = record (with_record_taken p DialogueRecord.Ready d) { current = counted_in d.current p }
noted_on p (DialogueRecord.Done r) d = record (with_record_taken p (DialogueRecord.Done r) d) { current = ended_in d.current p r }
noted_on p _ d = d

abbrev pub arrived_in_place : ℕ → PeerRecord → Digest → Digest
arrived_in_place p (PeerRecord.OnAssoc x y q r) d = noted_on p r d
arrived_in_place p _ d = d

-- a branch begins
abbrev pub asked_in_place : Who → Request → Digest → Digest
asked_in_place who (Request.BeginTransaction p) d = (begun_sent who p d).0
asked_in_place who _ d = d

abbrev pub run_in_place : Who → NodeEvent → Digest → Digest
run_in_place who (NodeEvent.Do r) d = asked_in_place who r.now d
run_in_place who (NodeEvent.Arrive from r) d = arrived_in_place from.node r.now d
run_in_place who _ d = d

-- nothing can be wanting for it
abbrev pub can_ask : Who → Request → Digest → Bool
can_ask who (Request.BeginTransaction p) d = can_begin who p d
can_ask who _ d = true

abbrev pub can_run : Who → NodeEvent → Digest → Bool
can_run who (NodeEvent.Do r) d = can_ask who r.now d
can_run who _ d = true

-- ---- what is known of one before it happens

-- it is not refused, forces no record, and says those outputs
pub record IsPlanned (v : Node) (e : NodeEvent) (outs : List Out) : Type 0 where
  pub refused : refused_at_once v.who v.digest e ≡ None
  pub sure : can_run v.who e v.digest ≡ true
  pub move : action v.who v.digest (event_of e) ≡ move outs (run_in_place v.who e v.digest)
  pub drawn : v.digest.drawn ≤ greatest
  pub marks : (run_in_place v.who e v.digest).drawn ≤ greatest
  pub numbers : some_past_numbers outs ≡ false
  pub retry : is_retry e ≡ false
