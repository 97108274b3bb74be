-- Runs that recovery ends: an order that was lost, with both ends up, and after a stop of both sites; and a tree in which two nodes decided
-- by themselves and one was given up, with a stop between two records of the root; and what a rollback waits for.
use Rattle.std.specs.Prelude.{ℕ, ◌&&◌, not, Bool, true, false, Option, Some, None, List, [], ◌∷◌, ◌++◌, reverse, codes, length}
use Rattle.tp_names.specs.declared.outcome.Outcome.{Outcome}
use Rattle.tp_records.specs.declared.request.Request.{Request}
use Rattle.tp_records.specs.declared.peer.PeerRecord.{PeerRecord}
use Rattle.tp_model.specs.declared.arc.Phase.{Phase}
use Rattle.tp_model.specs.declared.line.Action.{Action}
use Rattle.tp_model.specs.declared.line.LineRequest.{LineRequest}
use Rattle.tp_model.specs.declared.refusal.Refusal.{Refusal}
use Rattle.tp_model.specs.Parts.{Event, Out, Send, Digest}
use Rattle.tp_model.specs.History.{refuse}
use Rattle.tp_model.specs.Dialogues.{is_rolling}
use Rattle.tp_model.specs.Arcs.{is_live_with_peer}
use Rattle.tp_model.specs.Node.{phase_of}
use Rattle.tp_model.specs.World.{Node, find_node}
use Rattle.tp_model.specs.Happenings.{Happening, Declare, Does, Crash, restarted, run}
use Rattle.tp_finishing.specs.Doubt.{known_of}
use Rattle.tp_finishing.specs.Waiting.{is_awaited}
use Rattle.tp_finishing.specs.Finishing.{most_lines}
use Rattle.tp_finishing.specs.Cuts.{most_cuts}
use Rattle.tp_finishing.specs.Again.{says_again}

-- ---- the runs, oldest first

-- a root and its branch ask for commitment; the root decides, and its order, the sixth frame, is not delivered
abbrev pub unheard : List Happening
unheard =
    Declare 1 (codes "a") None
    ∷ Declare 2 (codes "b") (Some 1)
    ∷ Does (Action.Do 1 (LineRequest.BeginDialogue 2 41))
    ∷ Does (Action.Again 1)
    ∷ Does (Action.Do 2 (LineRequest.Accept 41))
    ∷ Does (Action.Again 2)
    ∷ Does (Action.Do 1 (LineRequest.BeginTransaction 2))
    ∷ Does (Action.Again 3)
    ∷ Does (Action.Do 1 LineRequest.Commit)
    ∷ Does (Action.Again 4)
    ∷ Does (Action.Do 2 LineRequest.Commit)
    ∷ Does (Action.Again 5)
    ∷ []

-- the branch asks, and hears
abbrev pub heard_since : List Happening
heard_since = unheard ++ (Does (Action.Retry 2) ∷ Does (Action.Again 7) ∷ Does (Action.Again 8) ∷ [])

-- both sites stop
abbrev pub stopped : List Happening
stopped = unheard ++ (Crash (codes "a") ∷ Crash (codes "b") ∷ [])

-- the root says its order again, the branch commits and answers, and both users have finished
abbrev pub ended : List Happening
ended =
    stopped
    ++ (Does (Action.Retry 1)
    ∷ Does (Action.Again 7)
    ∷ Does (Action.Do 2 LineRequest.Done)
    ∷ Does (Action.Again 8)
    ∷ Does (Action.Do 1 LineRequest.Done)
    ∷ [])

-- a root and two branches. Both branches are in doubt, and decide to roll back. The root decides to commit, forces it, and its site stops
-- before an order is delivered; its user finishes, and it gives up one branch
abbrev pub in_danger : List Happening
in_danger =
    Declare 1 (codes "a") None
    ∷ Declare 2 (codes "b") (Some 1)
    ∷ Declare 3 (codes "c") (Some 1)
    ∷ Does (Action.Do 1 (LineRequest.BeginDialogue 2 41))
    ∷ Does (Action.Do 1 (LineRequest.BeginDialogue 3 41))
    ∷ Does (Action.Again 1)
    ∷ Does (Action.Again 2)
    ∷ Does (Action.Do 2 (LineRequest.Accept 41))
    ∷ Does (Action.Do 3 (LineRequest.Accept 41))
    ∷ Does (Action.Again 3)
    ∷ Does (Action.Again 4)
    ∷ Does (Action.Do 1 (LineRequest.BeginTransaction 2))
    ∷ Does (Action.Do 1 (LineRequest.BeginTransaction 3))
    ∷ Does (Action.Again 5)
    ∷ Does (Action.Again 6)
    ∷ Does (Action.Do 1 LineRequest.Commit)
    ∷ Does (Action.Again 7)
    ∷ Does (Action.Again 8)
    ∷ Does (Action.Do 2 LineRequest.Commit)
    ∷ Does (Action.Do 3 LineRequest.Commit)
    ∷ Does (Action.Heur 2 Outcome.Rollback)
    ∷ Does (Action.Heur 3 Outcome.Rollback)
    ∷ Does (Action.Again 9)
    ∷ Does (Action.Again 10)
    ∷ []

abbrev pub decided : List Happening
decided = in_danger ++ (Crash (codes "a") ∷ Does (Action.Do 1 LineRequest.Done) ∷ Does (Action.GiveUp 1 3) ∷ [])

-- the associations that the branches still have are cut, or their sites stop
abbrev pub cut : List Happening
cut = decided ++ (Does (Action.Lose 2 1) ∷ Does (Action.Lose 3 1) ∷ [])

abbrev pub all_stopped : List Happening
all_stopped = decided ++ (Crash (codes "b") ∷ Crash (codes "c") ∷ [])

-- each branch asks, commits, and keeps the damage; the root orders both again, and keeps its own; it is purged, and the branches are let forget
abbrev pub recovery : List Happening
recovery =
    Does (Action.Retry 2)
    ∷ Does (Action.Again 13)
    ∷ Does (Action.Again 14)
    ∷ Does (Action.Do 2 LineRequest.Done)
    ∷ Does (Action.Retry 3)
    ∷ Does (Action.Again 16)
    ∷ Does (Action.Again 17)
    ∷ Does (Action.Do 3 LineRequest.Done)
    ∷ Does (Action.Retry 1)
    ∷ Does (Action.Again 19)
    ∷ Does (Action.Again 20)
    ∷ Does (Action.Retry 1)
    ∷ Does (Action.Again 22)
    ∷ Does (Action.Again 23)
    ∷ Does (Action.Purge 1)
    ∷ Does (Action.Retry 2)
    ∷ Does (Action.Again 25)
    ∷ Does (Action.Again 26)
    ∷ Does (Action.Retry 3)
    ∷ Does (Action.Again 27)
    ∷ Does (Action.Again 28)
    ∷ []

-- the first three lines of it
abbrev pub first_heard : List Happening
first_heard = all_stopped ++ (Does (Action.Retry 2) ∷ Does (Action.Again 13) ∷ Does (Action.Again 14) ∷ [])

-- or a branch asks with its association in place
abbrev pub heard_in_place : List Happening
heard_in_place = decided ++ (Does (Action.Retry 2) ∷ Does (Action.Again 13) ∷ Does (Action.Again 14) ∷ [])

-- a root asks for rollback: its user has finished, and it waits for its branch
abbrev pub rolled_back : List Happening
rolled_back =
    Declare 1 (codes "a") None
    ∷ Declare 2 (codes "b") (Some 1)
    ∷ Does (Action.Do 1 (LineRequest.BeginDialogue 2 41))
    ∷ Does (Action.Again 1)
    ∷ Does (Action.Do 2 (LineRequest.Accept 41))
    ∷ Does (Action.Again 2)
    ∷ Does (Action.Do 1 (LineRequest.BeginTransaction 2))
    ∷ Does (Action.Again 3)
    ∷ Does (Action.Do 1 LineRequest.Rollback)
    ∷ []

-- the branch hears it, and its association is lost before its user has finished: it waits for nobody but its user
abbrev pub alone : List Happening
alone = rolled_back ++ (Does (Action.Again 4) ∷ Does (Action.Lose 2 1) ∷ [])

-- ---- what is asked of them

abbrev pub node_after : List Happening → ℕ → Option Node
node_after es n = find_node (run (reverse es)).nodes n

abbrev pub phase_after : List Happening → ℕ → Option Phase
phase_after es n = elim (node_after es n) [ None ↦ None | Some x ↦ Some (phase_of (known_of x)) ]

-- the node rolls back, and its user has finished
abbrev pub has_rolled_after : List Happening → ℕ → Bool
has_rolled_after es n = elim (node_after es n)
    [ None ↦ false | Some x ↦ elim (known_of x).current [ None ↦ false | Some c ↦ is_rolling c.phase && not c.owes ] ]

-- it waits for that peer, which is linked
abbrev pub waits_after : List Happening → ℕ → ℕ → Bool
waits_after es n p = elim (node_after es n)
    [ None ↦ false | Some x ↦ elim (known_of x).current [ None ↦ false | Some c ↦ is_awaited c p && is_live_with_peer (known_of x).arcs p ] ]

abbrev pub arcs_after : List Happening → ℕ → ℕ
arcs_after es n = elim (node_after es n) [ None ↦ 0 | Some x ↦ length (known_of x).arcs ]

abbrev pub is_over_at : Digest → Bool
is_over_at d = elim d.current [ None ↦ elim d.kept [ [] ↦ true | k ∷ ks ↦ false ] | Some c ↦ false ]

abbrev pub is_over_after : List Happening → ℕ → Bool
is_over_after es n = elim (node_after es n) [ None ↦ false | Some x ↦ is_over_at (known_of x) ]

abbrev pub are_over_after : List Happening → Bool
are_over_after es = is_over_after es 1 && is_over_after es 2 && is_over_after es 3

abbrev pub lines_after : List Happening → ℕ
lines_after es = most_lines (run (reverse es)).nodes

abbrev pub cuts_after : List Happening → ℕ
cuts_after es = most_cuts (run (reverse es)).nodes

-- what the node would say where its site stopped then
abbrev pub said_again_after : List Happening → ℕ → List Out
said_again_after es n = elim (node_after es n) [ None ↦ [] | Some x ↦ says_again x ]

-- it asks its superior
abbrev pub asks_superior : List Out → Bool
asks_superior [] = false
asks_superior (Send a (PeerRecord.RecReady t b) ∷ outs) = true
asks_superior (o ∷ outs) = asks_superior outs

-- and what its user would be told then
abbrev pub refused_again_after : List Happening → ℕ → Request → Option Refusal
refused_again_after es n r = elim (node_after es n) [ None ↦ None | Some x ↦ refuse x.origin (restarted x).history (Event.Do r) ]
