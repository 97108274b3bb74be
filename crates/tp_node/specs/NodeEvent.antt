-- The events of a node as they are given to it, and what a node answers: a refusal, or what the event makes of it. An
-- answer out of phase is followed by the loss of its association.
use Rattle.std.specs.Prelude.{ℕ, Bool, true, false, Option, Some, None, Result, Ok, Err}
use Rattle.std.specs.Option.{option_map}
use Rattle.tp_names.specs.declared.identifiers.Addr.{Addr}
use Rattle.tp_records.specs.declared.peer.PeerRecord.{PeerRecord}
use Rattle.tp_model.specs.Parts.{Who, Event, Declare, Do, Arrive, Break, Lose, Heur, GiveUp, Retry, Purge, Digest, Accepted, Refused, Breaks}
use Rattle.tp_model.specs.Dialogues.{Sight}
use Rattle.tp_model.specs.Arcs.{find_arc}
use Rattle.tp_model.specs.Arrivals.{sight_at}
use Rattle.tp_model.specs.declared.disposition.Disposition.{Disposition}
use Rattle.tp_model.specs.Node.{Move}
use Rattle.tp_model.specs.Events.{action, verdict, refused_plainly, is_no_node, unless_missing, has_pair}
use Rattle.tp_model.specs.declared.refusal.Refusal.{Refusal}
use Rattle.tp_model.specs.declared.refusal.Refusal.TheVariants.{OutOfPhase}
use Rattle.tp_model.specs.Refusal.{number_of}
use Rattle.tp_node.specs.declared.event.NodeEvent.{NodeEvent}

abbrev pub event_of : NodeEvent → Event
event_of (NodeEvent.Declare s) = Declare s
event_of (NodeEvent.Do r) = Do r.now
event_of (NodeEvent.Arrive from r) = Arrive from r.now
event_of (NodeEvent.Lose p) = Lose p
event_of (NodeEvent.Heur o) = Heur o
event_of (NodeEvent.GiveUp p) = GiveUp p
event_of NodeEvent.Retry = Retry
event_of NodeEvent.Purge = Purge

-- what is known before anything is tried: but for a retry, which is refused where it would say nothing
abbrev pub refused_at_once : Who → Digest → NodeEvent → Option Refusal
refused_at_once who d (NodeEvent.Declare s) = refused_plainly who d (Declare s)
refused_at_once who d (NodeEvent.Do r) = refused_plainly who d (Do r.now)
refused_at_once who d (NodeEvent.Arrive from r) = refused_plainly who d (Arrive from r.now)
refused_at_once who d (NodeEvent.Lose p) = refused_plainly who d (Lose p)
refused_at_once who d (NodeEvent.Heur o) = refused_plainly who d (Heur o)
refused_at_once who d (NodeEvent.GiveUp p) = refused_plainly who d (GiveUp p)
refused_at_once who d NodeEvent.Retry = unless_missing (is_no_node d) None
refused_at_once who d NodeEvent.Purge = refused_plainly who d Purge

-- of a judgement: the refusal, where it is one
abbrev pub refusal_in : Result (Option Disposition) Refusal → Option Refusal
refusal_in (Ok seen) = None
refusal_in (Err x) = Some x

-- what comes of a record that arrives on an association, by the arc with its sender; nothing is said of others
abbrev pub sight_from : Who → Digest → Addr → PeerRecord → Option Sight
sight_from who d from (PeerRecord.OnAssoc x y q r) = option_map (λ a. sight_at who d a r) (find_arc d.arcs from.node)
sight_from who d from _ = None

abbrev pub sight_of : Who → Digest → NodeEvent → Option Sight
sight_of who d (NodeEvent.Arrive from r) = sight_from who d from r.now
sight_of who d _ = None

-- what a node answers
pub data Answer : Type 0 where
  -- it is refused by that number, and changes nothing
  Refuses : ℕ → Answer
  -- it happens; with a number, the loss of the association that follows this answer does
  Happens : Option ℕ → Move → Answer

abbrev pub answer_at : Who → Digest → Event → Answer
answer_at who d e = elim (verdict who d e) [
  | Accepted ↦ Happens None (action who d e)
  | Refused n ↦ Refuses (number_of n)
  | Breaks from r ↦ Happens (Some (number_of OutOfPhase)) (action who d (Break from r))
]

abbrev pub is_retry : NodeEvent → Bool
is_retry (NodeEvent.Declare s) = false
is_retry (NodeEvent.Do r) = false
is_retry (NodeEvent.Arrive from r) = false
is_retry (NodeEvent.Lose p) = false
is_retry (NodeEvent.Heur o) = false
is_retry (NodeEvent.GiveUp p) = false
is_retry NodeEvent.Retry = true
is_retry NodeEvent.Purge = false

-- it names the pair of an association
abbrev pub breaks : NodeEvent → Bool
breaks (NodeEvent.Declare s) = false
breaks (NodeEvent.Do r) = false
breaks (NodeEvent.Arrive from r) = has_pair r.now
breaks (NodeEvent.Lose p) = false
breaks (NodeEvent.Heur o) = false
breaks (NodeEvent.GiveUp p) = false
breaks NodeEvent.Retry = false
breaks NodeEvent.Purge = false
