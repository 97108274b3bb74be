-- A tree of three nodes that had lost an association before it, and whose root aborts another dialogue while it stands, for a worked
-- example of a tree that is settled in its own time.
use Rattle.std.specs.Prelude.{◌&&◌, not, Bool, true, false, Some, None, List, [], ◌∷◌, ◌++◌, codes}
use Rattle.tp_names.specs.declared.identifiers.Aaid.{Aaid}
use Rattle.tp_names.specs.declared.identifiers.Addr.{Addr}
use Rattle.tp_model.specs.declared.line.Action.{Action}
use Rattle.tp_model.specs.declared.line.LineRequest.{LineRequest}
use Rattle.tp_model.specs.declared.out_line.OutLine.{OutLine}
use Rattle.tp_model.specs.Parts.{Origin, Out, Entry}
use Rattle.tp_model.specs.History.{digest}
use Rattle.tp_model.specs.Outcomes.{is_now, is_member, decided, has_asked_or_left, completed_none, is_owed}
use Rattle.tp_model.specs.Trees.{members_of, closing_line}
use Rattle.tp_model.specs.World.{Node, Frame, addr_of}
use Rattle.tp_model.specs.Happenings.{Happening, Declare, Does}
use Rattle.tp_failure_free.specs.Drained.{has_failed_in}
use Rattle.tp_failure_free.specs.DrainedWorlds.{is_word_of}
use Rattle.tp_trials.specs.DrainedTrials.{world_after}

-- ---- the runs, oldest first

-- a dialogue that is lost at both ends, and begun again; one with a fourth node; and a tree of the other three
abbrev pub beginning : List Happening
beginning =
    Declare 1 (codes "a") None
    ∷ Declare 2 (codes "b") (Some 1)
    ∷ Declare 3 (codes "c") (Some 2)
    ∷ Declare 4 (codes "d") (Some 1)
    ∷ Does (Action.Do 1 (LineRequest.BeginDialogue 2 41))
    ∷ Does (Action.Again 1)
    ∷ Does (Action.Do 2 (LineRequest.Accept 41))
    ∷ Does (Action.Again 2)
    ∷ Does (Action.Lose 1 2)
    ∷ Does (Action.Lose 2 1)
    ∷ Does (Action.Do 1 (LineRequest.BeginDialogue 2 41))
    ∷ Does (Action.Again 3)
    ∷ Does (Action.Do 2 (LineRequest.Accept 41))
    ∷ Does (Action.Again 4)
    ∷ Does (Action.Do 1 (LineRequest.BeginDialogue 4 41))
    ∷ Does (Action.Again 5)
    ∷ Does (Action.Do 4 (LineRequest.Accept 41))
    ∷ Does (Action.Again 6)
    ∷ Does (Action.Do 2 (LineRequest.BeginDialogue 3 41))
    ∷ Does (Action.Again 7)
    ∷ Does (Action.Do 3 (LineRequest.Accept 41))
    ∷ Does (Action.Again 8)
    ∷ Does (Action.Do 1 (LineRequest.BeginTransaction 2))
    ∷ Does (Action.Again 9)
    ∷ Does (Action.Do 2 (LineRequest.BeginTransaction 3))
    ∷ Does (Action.Again 10)
    ∷ []

-- the root aborts the dialogue with the fourth node, and that frame is not taken; the tree commits, and its first two nodes lose their
-- association while the user of the root still owes its done
abbrev pub troubled : List Happening
troubled =
    beginning
    ++ (Does (Action.Do 1 (LineRequest.UAbort 4))
    ∷ Does (Action.Do 1 LineRequest.Commit)
    ∷ Does (Action.Again 12)
    ∷ Does (Action.Do 2 LineRequest.Commit)
    ∷ Does (Action.Again 13)
    ∷ Does (Action.Do 3 LineRequest.Commit)
    ∷ Does (Action.Again 14)
    ∷ Does (Action.Again 15)
    ∷ Does (Action.Again 16)
    ∷ Does (Action.Again 17)
    ∷ Does (Action.Do 3 LineRequest.Done)
    ∷ Does (Action.Again 18)
    ∷ Does (Action.Do 2 LineRequest.Done)
    ∷ Does (Action.Again 19)
    ∷ Does (Action.Lose 2 1)
    ∷ Does (Action.Lose 1 2)
    ∷ Does (Action.Do 1 LineRequest.Done)
    ∷ [])

-- it is the dialogue with its branch that the root aborts
abbrev pub broken : List Happening
broken = beginning ++ (Does (Action.Do 1 (LineRequest.UAbort 2)) ∷ [])

-- ---- what is asked of them

abbrev pub tree_of_three : Aaid
tree_of_three = record { owner = codes "a"; mark = record { boot = 1; node = 1; count = 4 } }

abbrev pub is_inside : Node → Bool
is_inside x = is_member x.origin tree_of_three x.history

-- of the nodes of the tree
abbrev pub each_inside : (Node → Bool) → List Node → Bool
each_inside g [] = true
each_inside g (x ∷ xs) = elim (is_inside x) [ true ↦ g x | false ↦ true ] && each_inside g xs

abbrev pub is_each_inside : (Node → Bool) → List Happening → Bool
is_each_inside g es = each_inside g (world_after es).nodes

abbrev pub is_unowing : Node → Bool
is_unowing x = not (is_owed x.origin tree_of_three x.history)

abbrev pub is_unfailed : Node → Bool
is_unfailed x = not (has_failed_in x.origin tree_of_three x.history)

abbrev pub has_answered : Node → Bool
has_answered x = has_asked_or_left x.origin tree_of_three x.history

abbrev pub has_completed : Node → Bool
has_completed x = decided x.origin tree_of_three x.history && completed_none x.origin tree_of_three x.history

-- the words of the tree that a node sent, as frames
abbrev pub words_out : Bool → Addr → List Out → List Frame
words_out now from [] = []
words_out now from (Out.Tell i ∷ outs) = words_out now from outs
words_out now from (Out.Send a r ∷ outs) = elim (is_word_of tree_of_three now r)
    [ true ↦ record { from = from; to = a; rec = r; handed = false } ∷ words_out now from outs | false ↦ words_out now from outs ]

abbrev pub words_of : Origin → Addr → List Entry → List Frame
words_of o from [] = []
words_of o from (e ∷ h) = words_out (is_now tree_of_three (digest o h).current) from e.outs ++ words_of o from h

abbrev pub words_in : List Node → List Frame
words_in [] = []
words_in (x ∷ xs) = words_of x.origin (addr_of x) x.history ++ words_in xs

abbrev pub closing_in : List Happening → OutLine
closing_in es = closing_line tree_of_three (members_of tree_of_three (world_after es).nodes)
