-- What a stop may have swallowed is said again. A process stops, and of what it last gave out nobody knows how much came through. Once
-- the site has started on its log, a node that is declared and retries says again what its users and peers have to hear of each
-- transaction that its log still has. What was active or rolled back before the stop is over, and a user that still speaks of it is told
-- so.
use Rattle.std.specs.Prelude.{◌≡◌, ◌||◌, Bool, true, false, Some, None, List, [], ◌∷◌}
use Rattle.tp_names.specs.declared.identifiers.Aaid.{Aaid}
use Rattle.tp_names.specs.declared.identifiers.Addr.{Addr}
use Rattle.tp_names.specs.declared.identifiers.BranchId.{BranchId}
use Rattle.tp_names.specs.declared.children.Child.{Child}
use Rattle.tp_records.specs.declared.request.Request.{Request}
use Rattle.tp_records.specs.declared.indication.Indication.{Indication}
use Rattle.tp_records.specs.declared.peer.PeerRecord.{PeerRecord}
use Rattle.tp_records.specs.declared.peer.RecState.{RecState}
use Rattle.tp_model.specs.declared.recovery.Kept.{Kept}
use Rattle.tp_model.specs.declared.refusal.Refusal.{Refusal}
use Rattle.tp_model.specs.Parts.{Event, Out, Tell, Under, Branch, Current}
use Rattle.tp_model.specs.Dialogues.{is_active, is_ready, is_committing, is_rolling}
use Rattle.tp_model.specs.Transactions.{aaid_of}
use Rattle.tp_model.specs.Recovery.{is_commit}
use Rattle.tp_model.specs.Events.{says_nothing}
use Rattle.tp_model.specs.History.{refuse, effects}
use Rattle.tp_model.specs.World.{World, Node}
use Rattle.tp_model.specs.Happenings.{restarted}
use Rattle.tp_model.specs.Promises.{IsIn}
use Rattle.tp_histories.specs.Histories.{IsSentIn}
use Rattle.tp_finishing.specs.Doubt.{known_of}

-- what the node says where it retries after a stop
abbrev pub says_again : Node → List Out
says_again x = (effects x.origin (restarted x).history Event.Retry).outs

-- its user is told to commit
abbrev pub tells_to_commit : List Out → Bool
tells_to_commit [] = false
tells_to_commit (Tell Indication.Commit ∷ outs) = true
tells_to_commit (_ ∷ outs) = tells_to_commit outs

-- the requests that speak of the transaction as a whole
abbrev pub speaks_of_whole : Request → Bool
speaks_of_whole Request.Commit = true
speaks_of_whole Request.Done = true
speaks_of_whole Request.Rollback = true
speaks_of_whole Request.Unchanged = true
speaks_of_whole _ = false

-- each branch that did not leave is ordered to commit; so is each that is owed
abbrev pub AreOrdered : List Out → Aaid → List Branch → Type 0
AreOrdered outs t [] = Unit {0}
AreOrdered outs t (b ∷ bs) = (b.left ≡ false → IsSentIn outs b.peer (PeerRecord.RecCommit t b.id)) × AreOrdered outs t bs

abbrev pub AreOwed : List Out → Aaid → List Child → Type 0
AreOwed outs t [] = Unit {0}
AreOwed outs t (c ∷ cs) = IsSentIn outs c.addr (PeerRecord.RecCommit t c.branch) × AreOwed outs t cs

-- of each commitment that is kept for its damage: the branches that are owed are ordered, and the superior hears the report
abbrev pub IsSpokenOf : List Out → Kept → Type 0
IsSpokenOf outs k =
    is_commit k.side ≡ true
    → AreOwed outs k.key.aaid k.owed
    × ((b : BranchId) (a : Addr) → k.key.branch ≡ Some b → k.superior ≡ Some a
    → IsSentIn outs a (PeerRecord.RecReply k.key.aaid b (RecState.Done k.report)))

abbrev pub AreSpokenOf : List Out → List Kept → Type 0
AreSpokenOf outs [] = Unit {0}
AreSpokenOf outs (k ∷ ks) = IsSpokenOf outs k × AreSpokenOf outs ks

-- by what was known of the node before the stop
pub record SaysAgain (x : Node) : Type 0 where
  -- it commits: its user is told so, and so are its branches
  pub told : (c : Current) → (known_of x).current ≡ Some c → is_committing c.phase ≡ true → tells_to_commit (says_again x) ≡ true
  pub ordered : (c : Current) → (known_of x).current ≡ Some c → is_committing c.phase ≡ true → AreOrdered (says_again x) (aaid_of c.key) c.branches
  -- it is in doubt: its superior is asked
  pub asked : (c : Current) (t : Aaid) (b : BranchId) (a : Addr) → (known_of x).current ≡ Some c → is_ready c.phase ≡ true
      → c.key ≡ Under t b a → IsSentIn (says_again x) a (PeerRecord.RecReady t b)
  pub kept : AreSpokenOf (says_again x) (known_of x).kept
  -- the retry is taken where it says anything
  pub taken : says_nothing (says_again x) ≡ false → refuse x.origin (restarted x).history Event.Retry ≡ None
  -- it was active or rolled back: nothing is current any more
  pub gone : (c : Current) → (known_of x).current ≡ Some c → (is_active c.phase || is_rolling c.phase) ≡ true → (known_of (restarted x)).current ≡ None
  -- nothing is current: its user hears so by each such request
  pub heard : (known_of (restarted x)).current ≡ None → (r : Request) → speaks_of_whole r ≡ true
      → refuse x.origin (restarted x).history (Event.Do r) ≡ Some Refusal.NoTransaction

abbrev pub LostIsSaidAgain : World → Type 0
LostIsSaidAgain w = (x : Node) → IsIn w x → SaysAgain x
