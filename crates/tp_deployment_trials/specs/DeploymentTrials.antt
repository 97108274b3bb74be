-- Deployments for worked examples of the laws: one that meets every premise, and for each premise one that breaks it alone.
use Rattle.std.specs.Prelude.{ℕ, ◌≡◌, ◌==◌, true, false, Option, Some, None, List, [], ◌∷◌, length, codes}
use Rattle.tp_names.specs.declared.identifiers.Aaid.{Aaid}
use Rattle.tp_names.specs.declared.identifiers.Addr.{Addr}
use Rattle.tp_names.specs.declared.identifiers.BranchId.{BranchId}
use Rattle.tp_names.specs.declared.identifiers.Mark.{Mark}
use Rattle.tp_records.specs.declared.body.Event.{Event as Given}
use Rattle.tp_records.specs.declared.dialogue.DialogueRecord.{DialogueRecord}
use Rattle.tp_records.specs.declared.dialogue.Holder.{Holder}
use Rattle.tp_records.specs.declared.peer.PeerRecord.{PeerRecord}
use Rattle.tp_records.specs.declared.peer.RecState.{RecState}
use Rattle.tp_records.specs.declared.request.Request.{Request}
use Rattle.tp_records.specs.Bodies.{peer_bytes}
use Rattle.tp_model.specs.Parts.{Entry}
use Rattle.tp_model.specs.World.{World, empty_world}
use Rattle.tp_histories.specs.Members.{IsUnique}
use Rattle.tp_agreement.specs.Logs.{CommitsAlone}
use Rattle.tp_model.specs.Promises.{PrefixTaken}
use Rattle.tp_site_logs.specs.Lives.{history_in}
use Rattle.tp_deployments.specs.Deployments.{Deed, Starts, Takes, Place, IsThere, life_after, IsTaken}
use Rattle.tp_deployments.specs.RunOf.{nodes_of}

-- ---- addresses, marks, and what nodes are given

abbrev pub a1 : Addr
a1 = record { site = codes "a"; node = 1 }

abbrev pub b2 : Addr
b2 = record { site = codes "b"; node = 2 }

abbrev pub c3 : Addr
c3 = record { site = codes "c"; node = 3 }

-- the first mark of a node
abbrev pub mark : ℕ → ℕ → Mark
mark boot node = record { boot = boot; node = node; count = 1 }

abbrev pub starts : Addr → Deed
starts a = Starts a.site

abbrev pub declared : Addr → Option Addr → Deed
declared a up = Takes a.site (Given.Declare a.node up)

abbrev pub asks : Addr → Request → Deed
asks a r = Takes a.site (Given.Do a.node r)

abbrev pub retries : Addr → Deed
retries a = Takes a.site (Given.Retry a.node)

abbrev pub arrives : Addr → Addr → PeerRecord → Given
arrives from to r = Given.Arrive from to (peer_bytes r)

abbrev pub takes : Addr → Addr → PeerRecord → Deed
takes from to r = Takes to.site (arrives from to r)

-- a dialogue that is shared, with commitment, unchained
abbrev pub begins : Addr → Addr → Deed
begins a peer = asks a (Request.BeginDialogue peer 41)

abbrev pub accepts : Addr → Deed
accepts a = asks a (Request.Accept 41)

-- ---- what is asked of them

-- the nodes, whether they are those of a run or not
abbrev pub world_of : List Place → List Deed → World
world_of qs ds = record empty_world { nodes = nodes_of qs ds }

-- a deployment, but for what its deed of that number, from 0 on, takes
abbrev pub IsButOne : List Place → ℕ → List Deed → Type 0
IsButOne qs k [] = Unit {0}
IsButOne qs k (Starts s ∷ ds) = IsButOne qs k ds
IsButOne qs k (Takes s g ∷ ds) = elim (length ds == k) as (λ _. Type 0) [ true ↦ Unit {0} | false ↦ IsTaken qs ds s (life_after ds s) g ] × IsButOne qs k ds

-- a sentence that does not hold
abbrev pub CommitStandsBesideRollback : World → Type 0
CommitStandsBesideRollback w = CommitsAlone w → ⊥

abbrev pub IsEnteredAgain : World → Type 0
IsEnteredAgain w = IsUnique w.nodes → ⊥

abbrev pub IsTakenUnsent : World → Type 0
IsTakenUnsent w = PrefixTaken w → ⊥

-- each superior stands behind, whatever the numbers
abbrev pub SuperiorsStand : List Place → Type 0
SuperiorsStand [] = Unit {0}
SuperiorsStand (q ∷ qs) = ((a : Addr) → q.superior ≡ Some a → IsThere qs a) × SuperiorsStand qs

-- ---- two nodes at two sites

abbrev pub root_place : Place
root_place = record { addr = a1; superior = None }

abbrev pub branch_place : Place
branch_place = record { addr = b2; superior = Some a1 }

abbrev pub two : List Place
two = branch_place ∷ root_place ∷ []

abbrev pub opening : PeerRecord
opening = PeerRecord.OpenAssoc (mark 1 1) 41

-- a dialogue is asked for, and its record is delivered; site b stops and starts again; the record comes once more before its node is
-- declared, and is refused, and once more after that; and the dialogue begins. The newest deed stands first
abbrev pub stopped_between : List Deed
stopped_between =
    takes b2 a1 (PeerRecord.AcceptAssoc (mark 1 1) (mark 2 2) 41)
    ∷ accepts b2
    ∷ takes a1 b2 opening
    ∷ declared b2 (Some a1)
    ∷ takes a1 b2 opening
    ∷ starts b2
    ∷ takes a1 b2 opening
    ∷ begins a1 b2
    ∷ declared b2 (Some a1)
    ∷ starts b2
    ∷ declared a1 None
    ∷ starts a1
    ∷ []

-- a dialogue, and a tree of both nodes, in which the branch is ready
abbrev pub tree : Aaid
tree = record { owner = codes "a"; mark = record { boot = 1; node = 1; count = 2 } }

abbrev pub branch : BranchId
branch = record { superior = codes "a"; mark = record { boot = 1; node = 1; count = 3 } }

abbrev pub on : ℕ → DialogueRecord → PeerRecord
on seq r = PeerRecord.OnAssoc (mark 1 1) (mark 1 2) seq r

abbrev pub in_dialogue : List Deed
in_dialogue =
    takes b2 a1 (PeerRecord.AcceptAssoc (mark 1 1) (mark 1 2) 41)
    ∷ accepts b2
    ∷ takes a1 b2 opening
    ∷ begins a1 b2
    ∷ declared b2 (Some a1)
    ∷ starts b2
    ∷ declared a1 None
    ∷ starts a1
    ∷ []

abbrev pub ready : List Deed
ready =
    asks b2 Request.Commit
    ∷ takes a1 b2 (on 1 DialogueRecord.Prepare)
    ∷ asks a1 Request.Commit
    ∷ takes a1 b2 (on 0 (DialogueRecord.Begin tree branch Holder.None))
    ∷ asks a1 (Request.BeginTransaction 2)
    ∷ in_dialogue

-- ---- a forged record

-- the root rolls back, and its branch takes an order to commit that nobody gave
abbrev pub forged : List Deed
forged = takes a1 b2 (on 2 DialogueRecord.Commit) ∷ asks a1 Request.Rollback ∷ ready

-- ---- a log that is put back, and two processes on one log

-- the root orders commitment; its branch stops before it hears so, and asks
abbrev pub in_doubt : List Deed
in_doubt = retries b2 ∷ starts b2 ∷ takes b2 a1 (on 0 DialogueRecord.Ready) ∷ ready

-- what another process of site a is given then, on a log without the order
abbrev pub elsewhere : List Given
elsewhere = Given.Declare 1 None ∷ arrives b2 a1 (PeerRecord.RecReady tree branch) ∷ []

-- its history, where it starts on the empty log, and on the log that the first process began with
abbrev pub on_an_older_log : List Entry
on_an_older_log = history_in (codes "a") [] elsewhere 1

abbrev pub on_a_shared_log : List Entry
on_a_shared_log = history_in (codes "a") ([] ∷ []) elsewhere 1

abbrev pub answer_of_another : PeerRecord
answer_of_another = PeerRecord.RecReply tree branch RecState.Unknown

abbrev pub answered_twice : List Deed
answered_twice = takes a1 b2 answer_of_another ∷ in_doubt

-- ---- a node that is declared under another superior

abbrev pub leaf_place : Place
leaf_place = record { addr = c3; superior = Some b2 }

abbrev pub three : List Place
three = leaf_place ∷ branch_place ∷ root_place ∷ []

abbrev pub lower : BranchId
lower = record { superior = codes "b"; mark = record { boot = 1; node = 2; count = 3 } }

abbrev pub lowest : BranchId
lowest = record { superior = codes "c"; mark = record { boot = 1; node = 3; count = 3 } }

-- a tree of three levels; the root's site stops, and the root is declared under the third node, which takes it into its own tree
abbrev pub in_a_ring : List Deed
in_a_ring =
    takes c3 a1 (PeerRecord.OnAssoc (record { boot = 1; node = 3; count = 2 }) (mark 2 1) 0 (DialogueRecord.Begin tree lowest Holder.None))
    ∷ asks c3 (Request.BeginTransaction 1)
    ∷ takes a1 c3 (PeerRecord.AcceptAssoc (record { boot = 1; node = 3; count = 2 }) (mark 2 1) 41)
    ∷ accepts a1
    ∷ takes c3 a1 (PeerRecord.OpenAssoc (record { boot = 1; node = 3; count = 2 }) 41)
    ∷ begins c3 a1
    ∷ declared a1 (Some c3)
    ∷ starts a1
    ∷ takes b2 c3 (PeerRecord.OnAssoc (record { boot = 1; node = 2; count = 2 }) (mark 1 3) 0 (DialogueRecord.Begin tree lower Holder.None))
    ∷ asks b2 (Request.BeginTransaction 3)
    ∷ takes a1 b2 (on 0 (DialogueRecord.Begin tree branch Holder.None))
    ∷ asks a1 (Request.BeginTransaction 2)
    ∷ takes c3 b2 (PeerRecord.AcceptAssoc (record { boot = 1; node = 2; count = 2 }) (mark 1 3) 41)
    ∷ accepts c3
    ∷ takes b2 c3 (PeerRecord.OpenAssoc (record { boot = 1; node = 2; count = 2 }) 41)
    ∷ begins b2 c3
    ∷ declared c3 (Some b2)
    ∷ starts c3
    ∷ in_dialogue

-- ---- a number that is used twice

abbrev pub c1 : Addr
c1 = record { site = codes "c"; node = 1 }

-- another root has the number of the first
abbrev pub numbers : List Place
numbers = branch_place ∷ root_place ∷ record { addr = c1; superior = None } ∷ []

abbrev pub begun : List Deed
begun = takes a1 b2 (on 0 (DialogueRecord.Begin tree branch Holder.None)) ∷ asks a1 (Request.BeginTransaction 2) ∷ declared c1 None ∷ starts c1 ∷ in_dialogue
