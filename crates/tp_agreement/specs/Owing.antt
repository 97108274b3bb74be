-- What a node owes a branch that it began: it goes on with the tree, or keeps its commitment, until the branch is done or has
-- left, or until it rolled or left itself. And what it says of a tree beside the associations.
use Rattle.std.specs.Prelude.{ℕ, ◌≡◌, ◌⊎◌, ◌&&◌, ◌||◌, not, Bool, true, false, Option, Some, None, List, [], ◌∷◌}
use Rattle.tp_names.specs.declared.identifiers.Aaid.{Aaid}
use Rattle.tp_names.specs.declared.identifiers.BranchId.{BranchId}
use Rattle.tp_names.specs.declared.identifiers.NodeKey.{NodeKey}
use Rattle.tp_names.specs.declared.identifiers.Addr.{Addr}
use Rattle.tp_names.specs.declared.identifiers.Mark.{Mark}
use Rattle.tp_names.specs.declared.children.Child.{Child}
use Rattle.tp_names.specs.declared.outcome.Outcome.{Outcome}
use Rattle.tp_names.specs.declared.outcome.Report.{Report}
use Rattle.tp_names.specs.Same.{is_aaid}
use Rattle.tp_names.specs.Reports.{is_report_none}
use Rattle.tp_records.specs.declared.request.Request.{Request}
use Rattle.tp_records.specs.declared.dialogue.DialogueRecord.{DialogueRecord}
use Rattle.tp_records.specs.declared.dialogue.Holder.{Holder}
use Rattle.tp_records.specs.declared.peer.PeerRecord.{PeerRecord}
use Rattle.tp_records.specs.declared.peer.RecState.{RecState}
use Rattle.tp_logrec.specs.declared.record.LogRec.{LogRec}
use Rattle.tp_model.specs.declared.arc.Phase.{Phase}
use Rattle.tp_model.specs.declared.transaction.TxEvent.{TxEvent}
use Rattle.tp_model.specs.declared.recovery.Kept.{Kept}
use Rattle.tp_model.specs.declared.recovery.Question.{Question}
use Rattle.tp_model.specs.Parts.{Under, Event, Out, Branch, Current, Digest}
use Rattle.tp_model.specs.Dialogues.{is_active, is_ready, is_committing}
use Rattle.tp_model.specs.Transactions.{Row, Transaction, Turn, aaid_of, node_key, find_row}
use Rattle.tp_model.specs.Recovery.{is_commit, find_kept, recovery_answer}
use Rattle.tp_model.specs.Arrivals.{branch_key, named_by_key, named_by_branch, known_of}
use Rattle.tp_model.specs.Node.{Move}
use Rattle.tp_histories.specs.Histories.{IsSentIn}
use Rattle.tp_steps.specs.Turns.{falls}
use Rattle.tp_steps.specs.Moves.{is_committed_in, IsRecoveryIn}
use Rattle.tp_steps.specs.Passages.{is_commit_rec, IsPassed}
use Rattle.tp_steps.specs.Trees.{commits_tree}
use Rattle.tp_agreement.specs.Logs.{is_rollback_of}
use Rattle.tp_steps.specs.Facts.{find_branch}
use Rattle.tp_steps.specs.Branches.{may_leave, may_end}
use Rattle.tp_steps.specs.Owing.{is_damage_rec}

-- neither rolling nor over
abbrev pub is_standing : Phase → Bool
is_standing p = is_active p || is_ready p || is_committing p

-- a branch with that identifier, at the node p, is among those that are owed
abbrev pub IsOwedIn : ℕ → BranchId → List Child → Type 0
IsOwedIn p b [] = ⊥
IsOwedIn p b (c ∷ cs) = (c.addr.node ≡ p) × (c.branch ≡ b) ⊎ IsOwedIn p b cs

-- an end of a rollback, or its damage
abbrev pub rolls_back : Option LogRec → Bool
rolls_back None = false
rolls_back (Some (LogRec.Boot n)) = false
rolls_back (Some (LogRec.Ready n k s cs)) = false
rolls_back (Some (LogRec.Heuristic n k o)) = false
rolls_back (Some (LogRec.Commit n k s cs)) = false
rolls_back (Some (LogRec.Damage n k s o r cs)) = not (is_commit o)
rolls_back (Some (LogRec.End n k o)) = not (is_commit o)

-- of that tree
abbrev pub backs_tree : Aaid → Option LogRec → Bool
backs_tree u None = false
backs_tree u (Some r) = is_rollback_of u r

-- ---- a transaction

-- the branch with the peer has the identifier, has not left, and lacks the mark
pub record UnmarkedAt (mark : Branch → Bool) (p : ℕ) (b : BranchId) (t : Transaction) : Type 0 where
  pub row : Row
  pub found : find_row t.rows p ≡ Some row
  pub id : row.branch.id ≡ b
  pub left : row.branch.left ≡ false
  pub off : mark row.branch ≡ false
  pub phase : is_standing t.phase ≡ true

abbrev pub is_done_branch : Branch → Bool
is_done_branch b = b.ended

-- it is neither done nor left
abbrev pub StandsAt : ℕ → BranchId → Transaction → Type 0
StandsAt p b t = UnmarkedAt is_done_branch p b t

-- the record keeps the commitment of the key, and names the branch
pub record KeepsOwed (k : NodeKey) (p : ℕ) (b : BranchId) (r : Option LogRec) : Type 0 where
  pub node : ℕ
  pub superior : Option Addr
  pub report : Report
  pub owed : List Child
  pub is : r ≡ Some (LogRec.Damage node k superior Outcome.Commit report owed)
  pub owes : IsOwedIn p b owed

-- what ends it: the branch is done or leaves, or the transaction rolls or leaves
pub data Quits (e : TxEvent) (s : Transaction) (p : ℕ) : Type 0 where
  Is_done : may_end e s p ≡ true → Quits e s p
  Has_left : may_leave e s p ≡ true → Quits e s p
  Rolls : falls e s ≡ true → Quits e s p
  Departs : e ≡ TxEvent.User Request.Unchanged → Quits e s p

-- beside the associations a transaction asks its superior, and tells it that it is done, in a commitment; with a report, where it
-- logs its damage
abbrev pub IsOwnWord : Transaction → Turn → Addr → PeerRecord → Type 0
IsOwnWord t a z (PeerRecord.RecReady u c) = t.key ≡ Under u c z
IsOwnWord t a z (PeerRecord.RecReply u c (RecState.Done x)) = (u ≡ aaid_of t.key) × ((is_committing t.phase || is_commit_rec a.rec) ≡ true)
    × ((is_report_none x || is_damage_rec a.rec) ≡ true)
IsOwnWord t a z (PeerRecord.RecReply u c RecState.Unknown) = ⊥
IsOwnWord t a z r = Unit {0}

-- an event e at a transaction s, from t on
pub record IsOwingTurn (e : TxEvent) (s t : Transaction) (a : Turn) : Type 0 where
  pub passed : IsPassed e s t a
  pub logs : (a.rec ≡ None) ⊎ (is_standing t.phase ≡ true)
  pub says : (z : Addr) (r : PeerRecord) → IsRecoveryIn a.outs z r → IsOwnWord t a z r
  pub rolls : rolls_back a.rec ≡ true → falls e s ≡ true
  pub stays : (p : ℕ) (b : BranchId) → StandsAt p b t → StandsAt p b a.next ⊎ Quits e s p ⊎ KeepsOwed (node_key t.key) p b a.rec

-- ---- a node

-- the tree is current and stands, and the branch has not left and lacks the mark
pub record UnmarkedRow (mark : Branch → Bool) (t : Aaid) (p : ℕ) (b : BranchId) (o : Option Current) : Type 0 where
  pub current : Current
  pub at : o ≡ Some current
  pub tree : is_aaid t (aaid_of current.key) ≡ true
  pub phase : is_standing current.phase ≡ true
  pub branch : Branch
  pub found : find_branch current.branches p ≡ Some branch
  pub id : branch.id ≡ b
  pub left : branch.left ≡ false
  pub off : mark branch ≡ false

-- it is neither done nor left
abbrev pub RowOwes : Aaid → ℕ → BranchId → Option Current → Type 0
RowOwes t p b o = UnmarkedRow is_done_branch t p b o

-- a commitment of the tree is kept, of which P holds
pub record KeptWith (P : Kept → Type 0) (t : Aaid) (ks : List Kept) : Type 0 where
  pub key : NodeKey
  pub kept : Kept
  pub found : find_kept ks key ≡ Some kept
  pub commits : is_commit kept.side ≡ true
  pub tree : is_aaid t kept.key.aaid ≡ true
  pub holds : P kept

abbrev pub OwesIn : ℕ → BranchId → Kept → Type 0
OwesIn p b k = IsOwedIn p b k.owed

-- a commitment of the tree is kept, and owes the branch
abbrev pub KeptOwes : Aaid → ℕ → BranchId → List Kept → Type 0
KeptOwes t p b ks = KeptWith (OwesIn p b) t ks

abbrev pub Owes : Aaid → ℕ → BranchId → Digest → Type 0
Owes t p b d = RowOwes t p b d.current ⊎ KeptOwes t p b d.kept

-- a rollback of the tree is kept for its damage
abbrev pub keeps_rollback : Aaid → List Kept → Bool
keeps_rollback u [] = false
keeps_rollback u (k ∷ ks) = (not (is_commit k.side) && is_aaid u k.key.aaid) || keeps_rollback u ks

-- Begin of the branch goes to the node
abbrev pub BeginsTo : Aaid → ℕ → BranchId → List Out → Type 0
BeginsTo t p b outs = (a : Addr) × (x : Mark) × (y : Mark) × (q : ℕ) × (i : Holder) × (a.node ≡ p)
    × IsSentIn outs a (PeerRecord.OnAssoc x y q (DialogueRecord.Begin t b i))

-- what a node says beside its associations, in an event e whose prelude left s, from d on. It asks its superior in ready; says
-- Done of a tree that it commits, or as an answer; and says that it knows of nothing as an answer alone
abbrev pub IsNodeWord : Event → Digest → Digest → Move → Addr → PeerRecord → Type 0
IsNodeWord e s d m z (PeerRecord.RecReady u c) = (x : Current) × (s.current ≡ Some x) × (x.key ≡ Under u c z)
IsNodeWord e s d m z (PeerRecord.RecReply u c (RecState.Done r)) =
    (g : Aaid → Bool) → ((v : Aaid) → is_committed_in v d ≡ true → g v ≡ true) → ((v : Aaid) → commits_tree v m.rec ≡ true → g v ≡ true)
    → (g u ≡ true) ⊎ (e ≡ Event.Arrive z (PeerRecord.RecCommit u c))
    × (recovery_answer (known_of (named_by_key s (branch_key u c)) c) Question.RecCommit ≡ Some (RecState.Done r))
IsNodeWord e s d m z (PeerRecord.RecReply u c RecState.Unknown) =
    (e ≡ Event.Arrive z (PeerRecord.RecReady u c)) × (recovery_answer (known_of (named_by_branch s u c) c) Question.RecReady ≡ Some RecState.Unknown)
IsNodeWord e s d m z r = Unit {0}
