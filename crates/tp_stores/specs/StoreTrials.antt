-- A pair of nodes that commits, one that rolls back, and one in which the branch writes and commits, with a store at the branch:
-- for worked examples.
-- Statements alone; nothing is proved here.
use Rattle.std.specs.Prelude.{ℕ, ◌+◌, Bool, false, Option, Some, None, List, [], ◌∷◌, ◌++◌, length, reverse, codes}
use Rattle.tp_names.specs.declared.identifiers.Aaid.{Aaid}
use Rattle.tp_names.specs.declared.outcome.Report.{Report}
use Rattle.tp_records.specs.declared.indication.Indication.{Indication}
use Rattle.tp_records.specs.declared.request.Request.{Request}
use Rattle.tp_model.specs.declared.line.Action.{Action}
use Rattle.tp_model.specs.declared.line.LineRequest.{LineRequest}
use Rattle.tp_model.specs.World.{Node, find_node}
use Rattle.tp_model.specs.Happenings.{Happening, Declare, Does, run}
use Rattle.tp_bound.specs.declared.write.Write.{Write}
use Rattle.tp_bound.specs.declared.body.Body.{Body}
use Rattle.tp_bound.specs.Bodies.{body_bytes}
use Rattle.tp_bound.specs.Stores.{empty}
use Rattle.tp_bound.specs.Says.{Speaker}
use Rattle.tp_bound.specs.Kept.{Heard, Told}
use Rattle.tp_stores.specs.Stores.{all_told, has_committed, has_rolled_back}

-- ---- the runs, oldest first

-- the branch is asked to prepare
abbrev pub asked : List Happening
asked =
    Declare 1 (codes "a") None
    ∷ Declare 2 (codes "b") (Some 1)
    ∷ Does (Action.Do 1 (LineRequest.BeginDialogue 2 41))
    ∷ Does (Action.Again 1)
    ∷ Does (Action.Do 2 (LineRequest.Accept 41))
    ∷ Does (Action.Again 2)
    ∷ Does (Action.Do 1 (LineRequest.BeginTransaction 2))
    ∷ Does (Action.Again 3)
    ∷ Does (Action.Do 1 LineRequest.Commit)
    ∷ Does (Action.Again 4)
    ∷ []

-- it votes for commit, and is ordered to
abbrev pub commits : List Happening
commits = asked ++ (Does (Action.Do 2 LineRequest.Commit)
    ∷ Does (Action.Again 5)
    ∷ Does (Action.Again 6)
    ∷ [])

-- the root rolls back before that
abbrev pub rolls_back : List Happening
rolls_back = asked ++ (Does (Action.Do 1 LineRequest.Rollback)
    ∷ Does (Action.Again 5)
    ∷ [])

abbrev pub tree_of_two : Aaid
tree_of_two = record { owner = codes "a"; mark = record { boot = 1; node = 1; count = 2 } }

-- ---- what a store at the branch hears, whatever it answers

abbrev pub as_heard : List Indication → List Heard
as_heard [] = []
as_heard (i ∷ is) = Told i None ∷ as_heard is

abbrev pub branch_after : List Happening → Option Node
branch_after es = find_node (run (reverse es)).nodes 2

abbrev pub holds : (Node → Bool) → List Happening → Bool
holds f es = elim (branch_after es) [ None ↦ false | Some x ↦ f x ]

abbrev pub commits_there : Node → Bool
commits_there x = has_committed tree_of_two (as_heard (all_told x.history))

abbrev pub rolls_back_there : Node → Bool
rolls_back_there x = has_rolled_back tree_of_two (as_heard (all_told x.history))

-- ---- a branch that writes, whose user goes by its store

-- the key k gets the value v
abbrev pub one_write : List ℕ
one_write = 1 ∷ 1 ∷ codes "k" ++ 0 ∷ 1 ∷ codes "v"

abbrev pub writes_and_commits : List Happening
writes_and_commits =
    Declare 1 (codes "a") None
    ∷ Declare 2 (codes "b") (Some 1)
    ∷ Does (Action.Do 1 (LineRequest.BeginDialogue 2 41))
    ∷ Does (Action.Again 1)
    ∷ Does (Action.Do 2 (LineRequest.Accept 41))
    ∷ Does (Action.Again 2)
    ∷ Does (Action.Do 1 (LineRequest.BeginTransaction 2))
    ∷ Does (Action.Again 3)
    ∷ Does (Action.Do 1 (LineRequest.UserData 2 one_write))
    ∷ Does (Action.Again 4)
    ∷ Does (Action.Do 1 LineRequest.Commit)
    ∷ Does (Action.Again 5)
    ∷ Does (Action.Do 2 LineRequest.Commit)
    ∷ Does (Action.Again 6)
    ∷ Does (Action.Again 7)
    ∷ Does (Action.Do 2 LineRequest.Done)
    ∷ []

-- what its store heard, with the answers that it gave
abbrev pub its_talk : List Heard
its_talk =
    Told (Indication.BeginDialogue 1 41) (Some (Request.Accept 41))
    ∷ Told (Indication.BeginTransaction 1 tree_of_two) None
    ∷ Told (Indication.UserData 1 one_write) None
    ∷ Told Indication.Prepare (Some Request.Commit)
    ∷ Told Indication.Commit (Some Request.Done)
    ∷ Told (Indication.CommitComplete Report.None) None
    ∷ []

-- a store on a fresh log
abbrev pub at_first : Speaker
at_first = record { node = 2; store = empty; current = None; gate = 5; shut = None }

abbrev pub size_of : Body → ℕ
size_of body = length (body_bytes body)

-- it holds the key, and its log has the Bind and the Keep
abbrev pub at_last : Speaker
at_last = record {
  node = 2;
  store = record { content = (codes "k", codes "v") ∷ []; undecided = None };
  current = None;
  gate = 5 + 3 + size_of (Body.Bind tree_of_two (Write.Put (codes "k") (codes "v") ∷ [])) + 3 + size_of (Body.Keep tree_of_two);
  shut = None;
}

-- of the node at the branch
abbrev pub IsSoThere : (Node → Type 0) → List Happening → Type 0
IsSoThere P es = elim (branch_after es) as (λ _. Type 0) [ None ↦ ⊥ | Some x ↦ P x ]
