-- What a superior takes from a branch, at the moment when it takes it: each word stands after so many ends, and the Begin
-- at that place was sent by then.
use Rattle.std.specs.Prelude.{ℕ, ◌==◌, ◌≡◌, ◌&&◌, ◌||◌, not, Bool, true, false, Some, List, [], ◌∷◌}
use Rattle.tp_records.specs.declared.dialogue.DialogueRecord.{DialogueRecord}
use Rattle.tp_records.specs.declared.peer.PeerRecord.{PeerRecord}
use Rattle.tp_logrec.specs.declared.record.LogRec.{LogRec}
use Rattle.tp_model.specs.Parts.{Event, Entry}
use Rattle.tp_model.specs.History.{records}
use Rattle.tp_model.specs.Questions.{is_at}
use Rattle.tp_model.specs.World.{Node, number_of, find_node}
use Rattle.tp_histories.specs.Traces.{sent_on, accepted_on}
use Rattle.tp_steps.specs.Facts.{is_vote, is_voted, ends_in, BranchKey, begun_keys}
use Rattle.tp_steps.specs.Upward.{voting_from, Deeds, may_say}
use Rattle.tp_histories.specs.Upward.{deeds_of}

-- of a word after n ends: what it tells of the Begin at that place, and Ready is logged for it
abbrev pub is_heeded : List BranchKey → Deeds → List LogRec → ℕ → Bool → DialogueRecord → Bool
is_heeded ks g rs n v r = may_say ks g n v r && (not (is_vote r) || is_voted ks rs n)

-- the event e after the history h, if it takes a word of the peer
abbrev pub heeds_event : Deeds → List LogRec → ℕ → List Entry → Event → Bool
heeds_event g rs p h (Event.Arrive a (PeerRecord.OnAssoc x y q r)) =
    not (a.node == p) || is_heeded (begun_keys (sent_on x y p h)) g rs (ends_in (accepted_on x y p h)) (voting_from false (accepted_on x y p h)) r
heeds_event g rs p h _ = true

abbrev pub heeds : Deeds → List LogRec → ℕ → List Entry → Bool
heeds g rs p [] = true
heeds g rs p (e ∷ h) = heeds_event g rs p h e.event && heeds g rs p h

-- of each node and each one that stands below it
abbrev pub HeedsBranches : List Node → Type 0
HeedsBranches ns =
    (x y : Node) → find_node ns (number_of x) ≡ Some x → find_node ns (number_of y) ≡ Some y → is_at y.superior (number_of x) ≡ true
    → heeds (deeds_of y.origin y.history) (records y.origin y.history) (number_of y) x.history ≡ true
