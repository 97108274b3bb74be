-- A tree of four nodes that is drained, and the same one while a frame waits, for worked examples of what a drained tree has done.
use Rattle.std.specs.Prelude.{ℕ, ◌==◌, ◌&&◌, ◌||◌, not, Bool, true, false, Option, Some, None, List, [], ◌∷◌, ◌++◌, reverse, codes}
use Rattle.tp_names.specs.declared.identifiers.Aaid.{Aaid}
use Rattle.tp_names.specs.Same.{is_aaid, is_mark, is_addr}
use Rattle.tp_records.specs.declared.dialogue.DialogueRecord.{DialogueRecord}
use Rattle.tp_records.specs.declared.peer.PeerRecord.{PeerRecord}
use Rattle.tp_model.specs.declared.line.Action.{Action}
use Rattle.tp_model.specs.declared.line.LineRequest.{LineRequest}
use Rattle.tp_model.specs.Parts.{Event, Entry}
use Rattle.tp_model.specs.Dialogues.{is_active, is_committing}
use Rattle.tp_model.specs.Transactions.{aaid_of, is_under_at}
use Rattle.tp_model.specs.Requests.{has_branch_at}
use Rattle.tp_model.specs.History.{digest}
use Rattle.tp_model.specs.Outcomes.{is_now, is_member, decided, rolled, has_left, has_asked_or_left, completed_none, is_owed, has_failed}
use Rattle.tp_model.specs.declared.out_line.OutLine.{OutLine}
use Rattle.tp_model.specs.Trees.{members_of, closing_line}
use Rattle.tp_model.specs.World.{World, Node, Frame, find_node}
use Rattle.tp_model.specs.Happenings.{Happening, Declare, Does, Crash, run}
use Rattle.tp_model.specs.Promises.{has_told_in}
use Rattle.tp_histories.specs.Traces.{sent_on, accepted_on}
use Rattle.tp_steps.specs.Facts.{is_order}
use Rattle.tp_histories.specs.Undone.{is_left_undone}
use Rattle.tp_steps.specs.Heeding.{is_answer}
use Rattle.tp_failure_free.specs.Drained.{took_in, is_done}
use Rattle.tp_failure_free.specs.DrainedWorlds.{says}
use Rattle.tp_trials.specs.Trials.{node_after, first_mark}

-- ---- the runs, oldest first

-- two branches, and one below the first; the second one leaves, the others ask, and the first branch orders commitment
abbrev pub ordering : List Happening
ordering =
    Declare 1 (codes "a") None
    ∷ Declare 2 (codes "b") (Some 1)
    ∷ Declare 3 (codes "c") (Some 1)
    ∷ Declare 4 (codes "d") (Some 2)
    ∷ Does (Action.Do 1 (LineRequest.BeginDialogue 2 41))
    ∷ Does (Action.Again 1)
    ∷ Does (Action.Do 2 (LineRequest.Accept 41))
    ∷ Does (Action.Again 2)
    ∷ Does (Action.Do 1 (LineRequest.BeginDialogue 3 41))
    ∷ Does (Action.Again 3)
    ∷ Does (Action.Do 3 (LineRequest.Accept 41))
    ∷ Does (Action.Again 4)
    ∷ Does (Action.Do 2 (LineRequest.BeginDialogue 4 41))
    ∷ Does (Action.Again 5)
    ∷ Does (Action.Do 4 (LineRequest.Accept 41))
    ∷ Does (Action.Again 6)
    ∷ Does (Action.Do 1 (LineRequest.BeginTransaction 2))
    ∷ Does (Action.Again 7)
    ∷ Does (Action.Do 1 (LineRequest.BeginTransaction 3))
    ∷ Does (Action.Again 8)
    ∷ Does (Action.Do 2 (LineRequest.BeginTransaction 4))
    ∷ Does (Action.Again 9)
    ∷ Does (Action.Do 1 LineRequest.Commit)
    ∷ Does (Action.Again 10)
    ∷ Does (Action.Again 11)
    ∷ Does (Action.Do 2 LineRequest.Commit)
    ∷ Does (Action.Again 12)
    ∷ Does (Action.Do 3 LineRequest.Unchanged)
    ∷ Does (Action.Again 13)
    ∷ Does (Action.Do 4 LineRequest.Commit)
    ∷ Does (Action.Again 14)
    ∷ Does (Action.Again 15)
    ∷ Does (Action.Again 16)
    ∷ []

-- each frame is taken, and the users are done
abbrev pub drained : List Happening
drained =
    ordering
    ++ (Does (Action.Again 17)
    ∷ Does (Action.Do 4 LineRequest.Done)
    ∷ Does (Action.Again 18)
    ∷ Does (Action.Do 2 LineRequest.Done)
    ∷ Does (Action.Again 19)
    ∷ Does (Action.Do 1 LineRequest.Done)
    ∷ [])

-- the users above are done, and the last order is not taken
abbrev pub waiting : List Happening
waiting = ordering ++ (Does (Action.Do 2 LineRequest.Done)
    ∷ Does (Action.Do 1 LineRequest.Done)
    ∷ [])

-- the user of the root is not done
abbrev pub finishing : List Happening
finishing =
    ordering
    ++ (Does (Action.Again 17)
    ∷ Does (Action.Do 4 LineRequest.Done)
    ∷ Does (Action.Again 18)
    ∷ Does (Action.Do 2 LineRequest.Done)
    ∷ Does (Action.Again 19)
    ∷ [])

-- two nodes crash, after the tree is drained, and while the last order is not taken
abbrev pub crashing : List Happening
crashing = Crash (codes "b") ∷ Crash (codes "d") ∷ []

abbrev pub outlasting : List Happening
outlasting = drained ++ crashing

abbrev pub interrupted : List Happening
interrupted = waiting ++ crashing

-- ---- what is asked of them

abbrev pub tree_of_four : Aaid
tree_of_four = record { owner = codes "a"; mark = record { boot = 1; node = 1; count = 3 } }

abbrev pub world_after : List Happening → World
world_after es = run (reverse es)

-- two records have the same marks and number
abbrev pub is_numbered_as : PeerRecord → PeerRecord → Bool
is_numbered_as (PeerRecord.OpenAssoc x u) (PeerRecord.OpenAssoc z v) = is_mark x z
is_numbered_as (PeerRecord.AcceptAssoc x y u) (PeerRecord.AcceptAssoc z w v) = is_mark x z && is_mark y w
is_numbered_as (PeerRecord.OnAssoc x y q r) (PeerRecord.OnAssoc z w p s) = is_mark x z && is_mark y w && (q == p)
is_numbered_as _ _ = false

abbrev pub takes_frame : Frame → Event → Bool
takes_frame f (Event.Arrive a r) = is_addr a f.from && is_numbered_as f.rec r
takes_frame f _ = false

abbrev pub took_frame : Frame → List Entry → Bool
took_frame f [] = false
took_frame f (e ∷ h) = takes_frame f e.event || took_frame f h

abbrev pub took_each : World → List Frame → Bool
took_each w [] = true
took_each w (f ∷ fs) = elim (find_node w.nodes f.to.node) [ None ↦ false | Some y ↦ took_frame f y.history ] && took_each w fs

abbrev pub each_node : (Node → Bool) → List Node → Bool
each_node g [] = true
each_node g (x ∷ xs) = g x && each_node g xs

abbrev pub is_each : (Node → Bool) → List Happening → Bool
is_each g es = each_node g (world_after es).nodes

-- the event by which a frame's record was taken where it went
abbrev pub taken_as : Frame → List Entry → Option Event
taken_as f [] = None
taken_as f (e ∷ h) = elim (takes_frame f e.event) [ true ↦ Some e.event | false ↦ taken_as f h ]

abbrev pub taken_at : World → Frame → Option Event
taken_at w f = elim (find_node w.nodes f.to.node) [ None ↦ None | Some y ↦ taken_as f y.history ]

abbrev pub takings : World → List Frame → List (Option Event)
takings w [] = []
takings w (f ∷ fs) = taken_at w f ∷ takings w fs

-- and the event by which it should be
abbrev pub arrivals : List Frame → List (Option Event)
arrivals [] = []
arrivals (f ∷ fs) = Some (Event.Arrive f.from f.rec) ∷ arrivals fs

-- each frame was taken
abbrev pub is_emptied : List Happening → Bool
is_emptied es = took_each (world_after es) (world_after es).frames

abbrev pub is_inside : Node → Bool
is_inside x = is_member x.origin tree_of_four x.history

abbrev pub is_unowing : Node → Bool
is_unowing x = not (is_owed x.origin tree_of_four x.history)

abbrev pub is_unfailed : Node → Bool
is_unfailed x = not (has_failed x.history)

abbrev pub has_answered : Node → Bool
has_answered x = has_asked_or_left x.origin tree_of_four x.history

abbrev pub has_departed : Node → Bool
has_departed x = has_left x.origin tree_of_four x.history

-- it logged Commit, and was told that it is complete, with no report
abbrev pub has_completed : Node → Bool
has_completed x = decided x.origin tree_of_four x.history && completed_none x.origin tree_of_four x.history

-- it has asked for commitment and waits, and nothing is left undone
abbrev pub waits_in_active : Node → Bool
waits_in_active x = elim (digest x.origin x.history).current [ None ↦ false | Some c ↦ is_active c.phase && c.asked && not (is_left_undone c) ]

-- the line that closes the transcript, of the tree
abbrev pub closing_of : List Happening → OutLine
closing_of es = closing_line tree_of_four (members_of tree_of_four (world_after es).nodes)

-- ---- what they say and take in it

abbrev pub says_to : ℕ → (DialogueRecord → Bool) → Node → Bool
says_to p f x = has_told_in (says p f) x.origin tree_of_four x.history

abbrev pub took_answer : ℕ → Node → Bool
took_answer p x = took_in (λ d. is_aaid tree_of_four (aaid_of d.key)) is_answer x.origin p x.history

abbrev pub took_order : ℕ → Node → Bool
took_order p x = took_in (λ d. is_aaid tree_of_four (aaid_of d.key) && is_under_at d.key p) is_order x.origin p x.history

abbrev pub took_done : ℕ → Node → Bool
took_done p x = took_in (λ d. is_aaid tree_of_four (aaid_of d.key) && is_committing d.phase && has_branch_at d.branches p) is_done x.origin p x.history

abbrev pub is_in_it : Node → Bool
is_in_it x = is_now tree_of_four (digest x.origin x.history).current

abbrev pub has_not_rolled : Node → Bool
has_not_rolled x = not (rolled x.origin tree_of_four x.history)

-- what the two ends of the first association sent and took with its pair of marks
abbrev pub sent_by : ℕ → ℕ → List DialogueRecord
sent_by n p = elim (node_after drained n) [ None ↦ [] | Some x ↦ sent_on (first_mark 1) (first_mark 2) p x.history ]

abbrev pub taken_by : ℕ → ℕ → List DialogueRecord
taken_by n p = elim (node_after drained n) [ None ↦ [] | Some x ↦ accepted_on (first_mark 1) (first_mark 2) p x.history ]
