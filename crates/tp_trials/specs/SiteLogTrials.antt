-- A run in which two nodes stand at one site, for worked examples of its log: both vote, the site stops, and it stops twice more in
-- an event of one of them.
use Rattle.std.specs.Prelude.{ℕ, Option, Some, None, List, [], ◌∷◌, ◌++◌, reverse, map, codes}
use Rattle.tp_names.specs.declared.identifiers.Addr.{Addr}
use Rattle.tp_names.specs.declared.identifiers.Mark.{Mark}
use Rattle.tp_names.specs.declared.identifiers.NodeKey.{NodeKey}
use Rattle.tp_names.specs.declared.outcome.Outcome.{Outcome}
use Rattle.tp_names.specs.declared.outcome.Report.{Report}
use Rattle.tp_records.specs.declared.body.Event.{Event as Given}
use Rattle.tp_records.specs.declared.dialogue.DialogueRecord.{DialogueRecord}
use Rattle.tp_records.specs.declared.peer.PeerRecord.{PeerRecord}
use Rattle.tp_records.specs.declared.request.Request.{Request}
use Rattle.tp_records.specs.Bodies.{peer_bytes}
use Rattle.tp_logrec.specs.declared.record.LogRec.{LogRec}
use Rattle.tp_logrec.specs.declared.record.LogVersion.{LogVersion}
use Rattle.tp_logrec.specs.Order.{owner_of}
use Rattle.tp_model.specs.declared.line.LineRequest.{LineRequest}
use Rattle.tp_model.specs.NodeRun.{Opening, boot_of, records_at}
use Rattle.tp_model.specs.World.{Site, find_node, find_site}
use Rattle.tp_model.specs.declared.line.Action.{Action}
use Rattle.tp_model.specs.Happenings.{Happening, Declare, Does, Crash, Crash_in, run}
use Rattle.tp_site_logs.specs.SiteLogs.{log_of, forced_by, next_opening}

-- ---- the runs, oldest first

-- a root at one site with two branches at another, which are both ready; the root orders commitment
abbrev pub voted : List Happening
voted =
    Declare 1 (codes "a") None
    ∷ Declare 2 (codes "b") (Some 1)
    ∷ Declare 3 (codes "b") (Some 1)
    ∷ Does (Action.Do 1 (LineRequest.BeginDialogue 2 41))
    ∷ Does (Action.Again 1)
    ∷ Does (Action.Do 2 (LineRequest.Accept 41))
    ∷ Does (Action.Again 2)
    ∷ Does (Action.Do 1 (LineRequest.BeginDialogue 3 41))
    ∷ Does (Action.Again 3)
    ∷ Does (Action.Do 3 (LineRequest.Accept 41))
    ∷ Does (Action.Again 4)
    ∷ Does (Action.Do 1 (LineRequest.BeginTransaction 2))
    ∷ Does (Action.Again 5)
    ∷ Does (Action.Do 1 (LineRequest.BeginTransaction 3))
    ∷ Does (Action.Again 6)
    ∷ Does (Action.Do 1 LineRequest.Commit)
    ∷ Does (Action.Again 7)
    ∷ Does (Action.Do 2 LineRequest.Commit)
    ∷ Does (Action.Again 8)
    ∷ Does (Action.Do 3 LineRequest.Commit)
    ∷ Does (Action.Again 9)
    ∷ Does (Action.Again 10)
    ∷ []

-- the site stops; it stops again when the gate after a decision of its first node is open; and when that of its second is not
abbrev pub stopped : List Happening
stopped =
    voted
    ++ (Crash (codes "b")
    ∷ Crash_in (codes "b") 3 1 (Action.Heur 2 Outcome.Commit)
    ∷ Crash_in (codes "b") 3 0 (Action.Heur 3 Outcome.Commit)
    ∷ [])

-- ---- what is asked of them

abbrev pub site_b : List Happening → Option Site
site_b es = find_site (run (reverse es)).sites (codes "b")

abbrev pub log_b : List Happening → List LogRec
log_b es = elim (site_b es) [ None ↦ [] | Some x ↦ log_of x ]

-- the kinds of records: 1 of a vote, 2 of a decision, 3 of an order, and 0 of all others
abbrev pub kind_of : LogRec → ℕ
kind_of (LogRec.Boot n) = 0
kind_of (LogRec.Ready n k a cs) = 1
kind_of (LogRec.Heuristic n k o) = 2
kind_of (LogRec.Commit n k a cs) = 3
kind_of (LogRec.Damage n k a o r cs) = 0
kind_of (LogRec.End n k o) = 0

-- of what the log has of a number, and of what the node of that number forced where it stands at a site
abbrev pub told_of : List Happening → ℕ → List ℕ
told_of es k = map kind_of (records_at k (log_b es))

abbrev pub forced_at : List ℕ → List Happening → ℕ → List ℕ
forced_at s es k = map kind_of (forced_by s (find_node (run (reverse es)).nodes k))

-- whose record it is: a node's, or 0 where it is a Boot
abbrev pub whose : LogRec → ℕ
whose r = elim (owner_of r) [ None ↦ 0 | Some o ↦ o.node ]

abbrev pub all_whose : List LogRec → List ℕ
all_whose rs = map whose rs

abbrev pub next_boot : List Happening → ℕ
next_boot es = elim (site_b es) [ None ↦ 0 | Some x ↦ boot_of (next_opening x) ]

-- ---- a log in which a root has voted

abbrev pub at_a : Addr
at_a = record { site = codes "a"; node = 1 }

abbrev pub at_b : Addr
at_b = record { site = codes "b"; node = 2 }

-- the mark that node 1 draws in that place in the second boot of its site
abbrev pub drawn : ℕ → Mark
drawn k = record { boot = 2; node = 1; count = k }

abbrev pub key_of_root : NodeKey
key_of_root = record { aaid = record { owner = codes "a"; mark = drawn 2 }; branch = None }

-- the key that the node will draw has a vote already, a decision, and its damage
abbrev pub with_a_roots_vote : List LogRec
with_a_roots_vote =
    LogRec.Boot 1 ∷ LogRec.Ready 1 key_of_root at_b [] ∷ LogRec.Heuristic 1 key_of_root Outcome.Commit ∷ LogRec.Damage 1 key_of_root None
    Outcome.Rollback Report.Mix [] ∷ []

abbrev pub opening : List LogRec → Opening
opening rs = record { site = codes "a"; version = LogVersion.Two; records = rs }

abbrev pub arrives : PeerRecord → Given
arrives r = Given.Arrive at_b at_a (peer_bytes r)

-- the node starts a transaction with one branch, which is ready
abbrev pub a_root_commits : List Given
a_root_commits =
    Given.Declare 1 None
    ∷ Given.Do 1 (Request.BeginDialogue at_b 41)
    ∷ arrives (PeerRecord.AcceptAssoc (drawn 1) (record { boot = 1; node = 2; count = 1 }) 41)
    ∷ Given.Do 1 (Request.BeginTransaction 2)
    ∷ Given.Do 1 Request.Commit
    ∷ arrives (PeerRecord.OnAssoc (drawn 1) (record { boot = 1; node = 2; count = 1 }) 0 DialogueRecord.Ready)
    ∷ []

abbrev pub kinds : List LogRec → List ℕ
kinds rs = map kind_of rs
