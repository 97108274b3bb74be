-- One node and a tree in which nothing failed while the tree was current there: its open branches and its superior stand on live
-- arcs, what it decides of the tree it says on them, what it takes of the tree it heeds as long as the tree is current, and a
-- commitment whose branches report nothing is complete with no report.
use Rattle.std.specs.Prelude.{ℕ, ◌≡◌, ◌⊎◌, ◌&&◌, ◌||◌, not, Bool, true, false, Option, Some, None, List, [], ◌∷◌}
use Rattle.tp_names.specs.declared.identifiers.Mark.{Mark}
use Rattle.tp_names.specs.declared.identifiers.Aaid.{Aaid}
use Rattle.tp_names.specs.declared.identifiers.Addr.{Addr}
use Rattle.tp_names.specs.declared.outcome.Report.{Report}
use Rattle.tp_names.specs.Same.{is_aaid}
use Rattle.tp_names.specs.Reports.{is_report_none}
use Rattle.tp_records.specs.declared.request.Request.{Request}
use Rattle.tp_records.specs.declared.dialogue.DialogueRecord.{DialogueRecord}
use Rattle.tp_records.specs.declared.peer.PeerRecord.{PeerRecord}
use Rattle.tp_records.specs.declared.peer.RecState.{RecState}
use Rattle.tp_model.specs.Parts.{Origin, Event, Entry, Live, Branch, Current}
use Rattle.tp_model.specs.Dialogues.{is_committing}
use Rattle.tp_model.specs.Arcs.{link_with, is_live_with_peer}
use Rattle.tp_model.specs.Transactions.{aaid_of, is_under_at}
use Rattle.tp_model.specs.AmongArcs.{is_peer}
use Rattle.tp_model.specs.Requests.{has_branch_at}
use Rattle.tp_model.specs.History.{digest}
use Rattle.tp_model.specs.Legal.{IsGrown}
use Rattle.tp_model.specs.Outcomes.{is_now, decided, rolled, is_unchanged, tells_complete_none, completed_none, is_failure}
use Rattle.tp_model.specs.Promises.{has_told_in}
use Rattle.tp_model.specs.Questions.{tells_commit_complete}
use Rattle.tp_model.specs.Questions.{heard_from, is_record}
use Rattle.tp_histories.specs.Histories.{IsSentIn}
use Rattle.tp_steps.specs.Traces.{sent_of}
use Rattle.tp_steps.specs.Facts.{find_branch, is_order}
use Rattle.tp_histories.specs.Members.{IsOnce}
use Rattle.tp_steps.specs.Passages.{is_commit_rec}
use Rattle.tp_steps.specs.Heeding.{is_answer, has_answered, has_ended}
use Rattle.tp_steps.specs.Outspoken.{is_ready_rec}

-- ---- failures in a tree

abbrev pub branch_is : (Branch → Bool) → Current → ℕ → Bool
branch_is f c p = elim (find_branch c.branches p) [ None ↦ false | Some b ↦ f b ]

-- the transaction is done with the branch: it left, or was counted and has ended
abbrev pub is_done_with : Branch → Bool
is_done_with b = b.left || b.counted && b.ended

-- the peer is its superior, or has a branch of it that it is not done with
abbrev pub depends_on : Current → ℕ → Bool
depends_on c p = is_under_at c.key p || branch_is (λ b. not (is_done_with b)) c p

-- what fails by the event is the node itself, or a dialogue that the transaction depends on; the user aborts a branch
abbrev pub touches : Current → Event → Bool
touches c (Event.Declare s) = true
touches c (Event.Do (Request.UAbort p)) = is_peer c p
touches c (Event.Do r) = true
touches c (Event.Arrive from r) = depends_on c from.node
touches c (Event.Break from r) = depends_on c from.node
touches c (Event.Lose p) = depends_on c p
touches c (Event.Heur u) = true
touches c (Event.GiveUp p) = true
touches c Event.Retry = true
touches c Event.Purge = true
touches c Event.Crash = true

-- a failure of the tree, where it is current
abbrev pub fails_in : Aaid → Option Current → Event → Bool
fails_in t None e = false
fails_in t (Some c) e = is_aaid t (aaid_of c.key) && is_failure e && touches c e

-- one came
abbrev pub has_failed_in : Origin → Aaid → List Entry → Bool
has_failed_in o t [] = false
has_failed_in o t (e ∷ h) = fails_in t (digest o h).current e.event || has_failed_in o t h

-- a legal history of a node whose log was empty at first, which entered each tree once, and in which nothing of the tree failed
pub record IsUnfailed (t : Aaid) (o : Origin) (up : Option Addr) (h : List Entry) : Type 0 where
  pub fresh : o.start.records ≡ []
  pub grown : IsGrown o up h
  pub once : IsOnce o h
  pub calm : has_failed_in o t h ≡ false

-- ---- arcs

-- a branch of the tree that has neither ended nor left is on a live arc
abbrev pub BranchLive : Aaid → Origin → List Entry → Type 0
BranchLive t o h =
    (c : Current) (b : Branch) (p : ℕ) → (digest o h).current ≡ Some c → is_aaid t (aaid_of c.key) ≡ true
    → find_branch c.branches p ≡ Some b → has_ended b ≡ false
    → is_live_with_peer (digest o h).arcs p ≡ true

-- and so is the superior in the tree
abbrev pub SuperiorLive : Aaid → Origin → List Entry → Type 0
SuperiorLive t o h =
    (c : Current) (p : ℕ) → (digest o h).current ≡ Some c → is_aaid t (aaid_of c.key) ≡ true → is_under_at c.key p ≡ true
    → is_live_with_peer (digest o h).arcs p ≡ true

-- ---- what an entry e after the history h says, where the tree is current before it

abbrev pub IsOneOf : DialogueRecord → List DialogueRecord → Type 0
IsOneOf r [] = ⊥
IsOneOf r (w ∷ ws) = (w ≡ r) ⊎ IsOneOf r ws

-- the record goes out to the peer, with the pair of the arc that was live before
pub record IsSaid (o : Origin) (h : List Entry) (e : Entry) (p : ℕ) (r : DialogueRecord) : Type 0 where
  pub x : Mark
  pub y : Mark
  pub sent : ℕ
  pub taken : ℕ
  pub live : link_with (digest o h).arcs p ≡ Live x y sent taken
  pub says : IsOneOf r (sent_of x y p e.outs)
  -- as a record with a number
  pub to : Addr
  pub number : ℕ
  pub at : to.node ≡ p
  pub goes : IsSentIn e.outs to (PeerRecord.OnAssoc x y number r)

-- one that logs Ready says so to its superior
abbrev pub SaysReady : Aaid → Origin → List Entry → Entry → Type 0
SaysReady t o h e = is_ready_rec e.rec ≡ true → (c : Current) (p : ℕ) → (digest o h).current ≡ Some c → is_aaid t (aaid_of c.key) ≡ true
    → is_under_at c.key p ≡ true → IsSaid o h e p DialogueRecord.Ready

-- one that logs Commit orders it to each branch that has not left after it
abbrev pub SaysCommit : Aaid → Origin → List Entry → Entry → Type 0
SaysCommit t o h e =
    is_commit_rec e.rec ≡ true → is_now t (digest o h).current ≡ true → (c : Current) (b : Branch) (p : ℕ)
    → (digest o (e ∷ h)).current ≡ Some c → find_branch c.branches p ≡ Some b → b.left ≡ false
    → IsSaid o h e p DialogueRecord.Commit

-- one that tells commit-complete with no report says Done with no report to the superior
abbrev pub SaysDone : Aaid → Origin → List Entry → Entry → Type 0
SaysDone t o h e =
    tells_complete_none e.outs ≡ true → (c : Current) (p : ℕ) → (digest o h).current ≡ Some c → is_aaid t (aaid_of c.key) ≡ true → is_under_at c.key p ≡ true
    → IsSaid o h e p (DialogueRecord.Done Report.None)

-- one that leaves says Left or LeftEnd
abbrev pub SaysLeaving : Aaid → Origin → List Entry → Entry → Type 0
SaysLeaving t o h e =
    is_unchanged e.event ≡ true → (c : Current) (p : ℕ) → (digest o h).current ≡ Some c → is_aaid t (aaid_of c.key) ≡ true → is_under_at c.key p ≡ true
    → IsSaid o h e p DialogueRecord.Left ⊎ IsSaid o h e p DialogueRecord.LeftEnd

-- ---- what a node heeds

-- such a record was taken from the peer, while such a transaction was current
abbrev pub took_in : (Current → Bool) → (DialogueRecord → Bool) → Origin → ℕ → List Entry → Bool
took_in g f o p [] = false
took_in g f o p (e ∷ h) = (elim (digest o h).current [ None ↦ false | Some c ↦ g c ] && is_record f (heard_from p e.event)) || took_in g f o p h

abbrev pub is_done : DialogueRecord → Bool
is_done (DialogueRecord.Done r) = true
is_done _ = false

-- of a tree in which it did not roll: a branch whose answer was taken has answered, while the tree is current
abbrev pub HeedsReady : Aaid → Origin → List Entry → Type 0
HeedsReady t o h =
    (c : Current) (p : ℕ) → rolled o t h ≡ false → took_in (λ d. is_aaid t (aaid_of d.key)) is_answer o p h ≡ true → (digest o h).current ≡ Some c
    → is_aaid t (aaid_of c.key) ≡ true → branch_is has_answered c p ≡ true

-- where the superior's Commit was taken, Commit is logged
abbrev pub HeedsCommit : Aaid → Origin → List Entry → Type 0
HeedsCommit t o h = (p : ℕ) → rolled o t h ≡ false → took_in (λ d. is_aaid t (aaid_of d.key) && is_under_at d.key p) is_order o p h ≡ true
    → decided o t h ≡ true

-- a branch whose Done was taken in committing has ended, while the tree is current
abbrev pub HeedsDone : Aaid → Origin → List Entry → Type 0
HeedsDone t o h =
    (c : Current) (p : ℕ) → took_in (λ d. is_aaid t (aaid_of d.key) && is_committing d.phase && has_branch_at d.branches p) is_done o p h ≡ true
    → (digest o h).current ≡ Some c → is_aaid t (aaid_of c.key) ≡ true → branch_is has_ended c p ≡ true

-- ---- what is noted of a branch stays

-- after the entry e, while the tree is current
abbrev pub Keeps : (Branch → Bool) → Aaid → Origin → List Entry → Entry → Type 0
Keeps f t o h e =
    (c d : Current) (p : ℕ) → (digest o h).current ≡ Some c → (digest o (e ∷ h)).current ≡ Some d → is_aaid t (aaid_of c.key) ≡ true
    → is_aaid t (aaid_of d.key) ≡ true
    → branch_is f c p ≡ true → branch_is f d p ≡ true

abbrev pub StaysCounted : Aaid → Origin → List Entry → Entry → Type 0
StaysCounted t o h e = Keeps has_answered t o h e

abbrev pub StaysEnded : Aaid → Origin → List Entry → Entry → Type 0
StaysEnded t o h e = Keeps has_ended t o h e

-- ---- reports

-- the event tells of no damage in the tree: a Done on an association, or replied for a branch of the tree, has no report
abbrev pub is_clear_event : Aaid → Event → Bool
is_clear_event t (Event.Arrive a (PeerRecord.OnAssoc x y q (DialogueRecord.Done r))) = is_report_none r
is_clear_event t (Event.Arrive a (PeerRecord.RecReply u b (RecState.Done r))) = not (is_aaid t u) || is_report_none r
is_clear_event t _ = true

-- while the tree was current
abbrev pub took_clear : Aaid → Origin → List Entry → Bool
took_clear t o [] = true
took_clear t o (e ∷ h) = (not (is_now t (digest o h).current) || is_clear_event t e.event) && took_clear t o h

-- a commitment that is complete is so with no report
abbrev pub ClearReport : Aaid → Origin → List Entry → Type 0
ClearReport t o h = took_clear t o h ≡ true → has_told_in tells_commit_complete o t h ≡ true → completed_none o t h ≡ true
