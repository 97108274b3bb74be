-- What an event says on the association with one peer, counted: votes and ends upwards, orders and
-- rollbacks both ways, and the branch with the peer. These are the facts that tie Ready, Commit and
-- Rollback, which carry no key, to the transaction that they belong to.
use Rattle.std.specs.Prelude.{ℕ, ◌+◌, ◌≤◌, ◌==◌, ◌≡◌, ◌&&◌, ◌||◌, not, Bool, true, false, if◌then◌else◌, Option, Some, None, List, [], ◌∷◌, length, slice_get}
use Rattle.tp_names.specs.declared.identifiers.Aaid.{Aaid}
use Rattle.tp_names.specs.declared.identifiers.BranchId.{BranchId}
use Rattle.tp_names.specs.Same.{is_key}
use Rattle.tp_records.specs.declared.dialogue.DialogueRecord.{DialogueRecord}
use Rattle.tp_records.specs.declared.peer.RecState.{RecState}
use Rattle.tp_logrec.specs.declared.record.LogRec.{LogRec}
use Rattle.tp_model.specs.declared.arc.Phase.{Phase}
use Rattle.tp_model.specs.declared.transaction.TxEvent.{TxEvent}
use Rattle.tp_model.specs.declared.transaction.TxOut.{TxOut}
use Rattle.tp_model.specs.Parts.{Under, Branch, Who, Event, Out, Arc, Current, Digest}
use Rattle.tp_model.specs.Dialogues.{is_nil, is_active, is_committing, is_rolling}
use Rattle.tp_model.specs.Transactions.{Row, Transaction, Turn, aaid_of, is_under_at, find_row, find_row_by_id}
use Rattle.tp_model.specs.History.{with_rec}
use Rattle.tp_model.specs.Outcomes.{has_commit_of}
use Rattle.tp_model.specs.Links.{is_live}
use Rattle.tp_model.specs.Arcs.{link_with}
use Rattle.tp_model.specs.Node.{Move, is_superior, seen}
use Rattle.tp_model.specs.Questions.{is_begin, said_to}
use Rattle.tp_steps.specs.Moves.{is_word, IsAsked}
use Rattle.tp_steps.specs.Turns.{falls, loses}

-- ---- words

abbrev pub only_words : List DialogueRecord → List DialogueRecord
only_words [] = []
only_words (r ∷ rs) = if is_word r then r ∷ only_words rs else only_words rs

-- the words that outputs carry to the peer, whose association is live at first or not; shut or closed, it carries no more
abbrev pub spoken : Bool → ℕ → List TxOut → List DialogueRecord
spoken b p [] = []
spoken b p (TxOut.Tell i ∷ outs) = spoken b p outs
spoken b p (TxOut.Carry q r ∷ outs) = if is_word r && (q == p) && b then r ∷ spoken b p outs else spoken b p outs
spoken b p (TxOut.Shut q ∷ outs) = spoken (b && not (q == p)) p outs
spoken b p (TxOut.Recovery a r ∷ outs) = spoken b p outs
spoken b p (TxOut.Close q ∷ outs) = spoken (b && not (q == p)) p outs

-- whether it is live after them
abbrev pub stays : Bool → ℕ → List TxOut → Bool
stays b p [] = b
stays b p (TxOut.Tell i ∷ outs) = stays b p outs
stays b p (TxOut.Carry q r ∷ outs) = stays b p outs
stays b p (TxOut.Shut q ∷ outs) = stays (b && not (q == p)) p outs
stays b p (TxOut.Recovery a r ∷ outs) = stays b p outs
stays b p (TxOut.Close q ∷ outs) = stays (b && not (q == p)) p outs

abbrev pub is_vote : DialogueRecord → Bool
is_vote DialogueRecord.Ready = true
is_vote _ = false

abbrev pub is_order : DialogueRecord → Bool
is_order DialogueRecord.Commit = true
is_order _ = false

abbrev pub is_rollback : DialogueRecord → Bool
is_rollback DialogueRecord.Rollback = true
is_rollback _ = false

-- a subordinate's last word in a transaction
abbrev pub is_end : DialogueRecord → Bool
is_end (DialogueRecord.Done r) = true
is_end (DialogueRecord.RolledBack r) = true
is_end DialogueRecord.Left = true
is_end DialogueRecord.LeftEnd = true
is_end _ = false

abbrev pub ends : DialogueRecord → ℕ
ends r = if is_end r then 1 else 0

abbrev pub ends_in : List DialogueRecord → ℕ
ends_in [] = 0
ends_in (r ∷ rs) = ends r + ends_in rs

abbrev pub none_of : (DialogueRecord → Bool) → List DialogueRecord → Bool
none_of f [] = true
none_of f (r ∷ rs) = not (f r) && none_of f rs

-- a branch's key: its tree and its identifier
abbrev pub BranchKey : Type 0
BranchKey = Aaid × BranchId

-- the keys of the Begins, in order; the last of them
abbrev pub begun_keys : List DialogueRecord → List BranchKey
begun_keys [] = []
begun_keys (DialogueRecord.Begin t b h ∷ rs) = (t, b) ∷ begun_keys rs
begun_keys (_ ∷ rs) = begun_keys rs

abbrev pub begins_by : Option BranchKey → DialogueRecord → Option BranchKey
begins_by k (DialogueRecord.Begin t b h) = Some (t, b)
begins_by k _ = k

abbrev pub last_from : Option BranchKey → List DialogueRecord → Option BranchKey
last_from k [] = k
last_from k (r ∷ rs) = last_from (begins_by k r) rs

-- of each record of a kind, what holds of the last Begin before it
abbrev pub each_under : (DialogueRecord → Bool) → (Option BranchKey → Bool) → Option BranchKey → List DialogueRecord → Bool
each_under f g k [] = true
each_under f g k (r ∷ rs) = (not (f r) || g k) && each_under f g (begins_by k r) rs

-- of each vote, what holds of the number of transactions that ended before it
abbrev pub each_vote : (ℕ → Bool) → ℕ → List DialogueRecord → Bool
each_vote g n [] = true
each_vote g n (r ∷ rs) = (not (is_vote r) || g n) && each_vote g (ends r + n) rs

-- ---- the log

abbrev pub is_ready_of_key : BranchKey → LogRec → Bool
is_ready_of_key k (LogRec.Ready n j s cs) = is_key (record { aaid = k.0; branch = Some k.1 }) j
is_ready_of_key k _ = false

abbrev pub has_ready_of : BranchKey → List LogRec → Bool
has_ready_of k [] = false
has_ready_of k (r ∷ rs) = is_ready_of_key k r || has_ready_of k rs

-- Ready is logged for the key that stands at this place
abbrev pub is_voted : List BranchKey → List LogRec → ℕ → Bool
is_voted ks rs n = elim (slice_get ks n) [ None ↦ false | Some k ↦ has_ready_of k rs ]

-- Commit is logged for the key's tree
abbrev pub is_ordered : List LogRec → Option BranchKey → Bool
is_ordered rs None = false
is_ordered rs (Some k) = has_commit_of k.0 rs

-- where there is a Begin before, its tree rolled
abbrev pub is_rolled : (Aaid → Bool) → Option BranchKey → Bool
is_rolled g None = true
is_rolled g (Some k) = g k.0

-- ---- a transaction, and one peer

-- one, where the transaction is current and came from the peer
abbrev pub under_now : Transaction → ℕ → ℕ
under_now t p = if not (is_nil t.phase) && is_under_at t.key p then 1 else 0

-- neither done, rolled back, left nor given up
abbrev pub is_open : Branch → Bool
is_open b = not (b.ended || b.left || b.given_up)

-- one, where the transaction is current and the branch with the peer is open
abbrev pub open_now : Transaction → ℕ → ℕ
open_now t p = if is_nil t.phase then 0 else elim (find_row t.rows p) [ None ↦ 0 | Some r ↦ if is_open r.branch then 1 else 0 ]

abbrev pub id_at : Transaction → ℕ → Option BranchId
id_at t p = elim (find_row t.rows p) [ None ↦ None | Some r ↦ Some r.branch.id ]

-- what it knows of the association with the peer fits a live one
abbrev pub sees_row : Option Row → Bool
sees_row None = true
sees_row (Some r) = r.live || r.branch.ended || r.branch.left

abbrev pub sees : Transaction → ℕ → Bool
sees t p = (not (is_under_at t.key p) || t.up) && sees_row (find_row t.rows p)

-- the word ends a branch, in a transaction of this phase
abbrev pub ends_in_phase : DialogueRecord → Phase → Bool
ends_in_phase (DialogueRecord.Done r) p = is_committing p
ends_in_phase (DialogueRecord.RolledBack r) p = is_rolling p
ends_in_phase DialogueRecord.Left p = is_active p || is_rolling p
ends_in_phase DialogueRecord.LeftEnd p = is_active p || is_rolling p
ends_in_phase _ p = false

-- how many branches with the peer the event may end
abbrev pub closes : TxEvent → Transaction → ℕ → ℕ
closes (TxEvent.Took q r) s p = if (q == p) && ends_in_phase r s.phase then 1 else 0
closes (TxEvent.Reply b (RecState.Done r)) s p = elim (find_row_by_id s.rows b)
    [ None ↦ 0 | Some w ↦ if (w.branch.peer.node == p) && is_committing s.phase then 1 else 0 ]
closes _ s p = 0

-- the key stands at its place among those that were taken, while the transaction is current
abbrev pub HasPlace : List BranchKey → ℕ → Transaction → ℕ → Type 0
HasPlace ks n t p = (a : Aaid) (b : BranchId) (s : _) → is_nil t.phase ≡ false → t.key ≡ Under a b s → is_under_at t.key p ≡ true → slice_get ks n ≡ Some (a, b)

-- the branch's key is that of the last Begin
abbrev pub Knows : Option BranchKey → Transaction → ℕ → Type 0
Knows k t p = (b : BranchId) → id_at t p ≡ Some b → k ≡ Some (aaid_of t.key, b)

-- ---- the facts of an event e at a transaction s, for a peer p: from t on to what a rule makes of it

-- the key, and which branch is with the peer, no event changes
pub record SameKey (p : ℕ) (t : Transaction) (a : Turn) : Type 0 where
  pub key : a.next.key ≡ t.key
  pub ids : id_at a.next p ≡ id_at t p

pub record Facts (e : TxEvent) (s : Transaction) (p : ℕ) (t : Transaction) (a : Turn) : Type 0 where
  pub begins : none_of is_begin (spoken true p a.outs) ≡ true
  pub seen_after : stays true p a.outs ≡ true → sees a.next p ≡ true
  pub balance : stays true p a.outs ≡ true → ends_in (spoken true p a.outs) + under_now a.next p ≡ under_now t p
  pub opens : closes e s p ≡ 0 → stays true p a.outs ≡ true → open_now t p ≤ open_now a.next p
  pub votes : (ks : List BranchKey) (rs : List LogRec) (n : ℕ) → HasPlace ks n t p → each_vote (is_voted ks (with_rec a.rec rs)) n (spoken true p a.outs) ≡ true
  pub orders : (k : Option BranchKey) (rs : List LogRec) → Knows k t p → each_under is_order (is_ordered (with_rec a.rec rs)) k (spoken true p a.outs) ≡ true
  pub rollbacks : (k : Option BranchKey) (g : Aaid → Bool) → Knows k t p → (is_under_at t.key p ≡ true → k ≡ None)
      → (falls e s ≡ true → g (aaid_of t.key) ≡ true)
      → each_under is_rollback (is_rolled g) k (spoken true p a.outs) ≡ true

-- the facts hold where the association is seen as live, and is not lost by the event
pub record IsFair (e : TxEvent) (s : Transaction) (p : ℕ) (t : Transaction) (a : Turn) : Type 0 where
  pub same : SameKey p t a
  pub facts : sees t p ≡ true → loses e p ≡ false → Facts e s p t a

-- ---- the same of a node: its current transaction, and one peer

abbrev pub find_branch : List Branch → ℕ → Option Branch
find_branch [] p = None
find_branch (b ∷ bs) p = if b.peer.node == p then Some b else find_branch bs p

abbrev pub under_at : Option Current → ℕ → ℕ
under_at None p = 0
under_at (Some c) p = if not (is_nil c.phase) && is_under_at c.key p then 1 else 0

abbrev pub open_at : Option Current → ℕ → ℕ
open_at None p = 0
open_at (Some c) p = if is_nil c.phase then 0 else elim (find_branch c.branches p) [ None ↦ 0 | Some b ↦ if is_open b then 1 else 0 ]

abbrev pub key_at : Option Current → ℕ → Option BranchKey
key_at None p = None
key_at (Some c) p = if is_nil c.phase then None else elim (find_branch c.branches p) [ None ↦ None | Some b ↦ Some (aaid_of c.key, b.id) ]

abbrev pub HasPlaceAt : List BranchKey → ℕ → Option Current → ℕ → Type 0
HasPlaceAt ks n o p = (c : Current) (a : Aaid) (b : BranchId) (s : _) → o ≡ Some c → is_nil c.phase ≡ false → c.key ≡ Under a b s
    → is_under_at c.key p ≡ true → slice_get ks n ≡ Some (a, b)

abbrev pub KnowsAt : Option BranchKey → Option Current → ℕ → Type 0
KnowsAt k o p = (v : BranchKey) → key_at o p ≡ Some v → k ≡ Some v

-- the words that outputs send to the peer
abbrev pub words_to : ℕ → List Out → List DialogueRecord
words_to p outs = only_words (said_to p outs)

-- from d on to what a move makes of it; `sup`: the peer is the superior; `fall`: the event rolls what was current at s;
-- `shut`: how many branches with the peer the event may end
pub record IsHeard (p : ℕ) (sup fall : Bool) (shut : ℕ) (s d : Digest) (m : Move) : Type 0 where
  pub superior : m.next.superior ≡ d.superior
  pub dead : is_live (link_with d.arcs p) ≡ false → words_to p m.outs ≡ []
  pub back : is_live (link_with m.next.arcs p) ≡ true → is_live (link_with d.arcs p) ≡ true
  pub dead_rows : is_live (link_with d.arcs p) ≡ false → key_at d.current p ≡ None → key_at m.next.current p ≡ None
  pub upward : sup ≡ true → none_of is_begin (words_to p m.outs) ≡ true
  pub balance : is_live (link_with m.next.arcs p) ≡ true → ends_in (words_to p m.outs) + under_at m.next.current p ≡ under_at d.current p
  pub places : (ks : List BranchKey) (n : ℕ) → is_live (link_with m.next.arcs p) ≡ true → HasPlaceAt ks n d.current p
      → HasPlaceAt ks (ends_in (words_to p m.outs) + n) m.next.current p
  pub opens : shut ≡ 0 → is_live (link_with m.next.arcs p) ≡ true → length (begun_keys (words_to p m.outs)) + open_at d.current p ≤ open_at m.next.current p
  pub votes : (ks : List BranchKey) (rs : List LogRec) (n : ℕ) → HasPlaceAt ks n d.current p
      → each_vote (is_voted ks (with_rec m.rec rs)) n (words_to p m.outs) ≡ true
  pub orders : (k : Option BranchKey) (rs : List LogRec) → KnowsAt k d.current p
      → each_under is_order (is_ordered (with_rec m.rec rs)) k (words_to p m.outs) ≡ true
  pub knows : (k : Option BranchKey) → is_live (link_with m.next.arcs p) ≡ true → KnowsAt k d.current p
      → KnowsAt (last_from k (words_to p m.outs)) m.next.current p
  pub rollbacks : (k : Option BranchKey) (g : Aaid → Bool) → KnowsAt k d.current p → (sup ≡ true → k ≡ None)
      → (fall ≡ true → (c : Current) → s.current ≡ Some c → g (aaid_of c.key) ≡ true)
      → each_under is_rollback (is_rolled g) k (words_to p m.outs) ≡ true

-- which event of the node is at work: whether it rolls, what it closes, and where the superior is
pub record Reads (who : Who) (e : Event) (p : ℕ) (sup fall : Bool) (shut : ℕ) (s : Digest) : Type 0 where
  pub falls_so : (c : Current) (f : TxEvent) (arcs : List Arc) → s.current ≡ Some c → IsAsked e c f → falls f (seen who arcs c) ≡ true → fall ≡ true
  pub closes_so : (c : Current) (f : TxEvent) (arcs : List Arc) → s.current ≡ Some c → IsAsked e c f → shut ≡ 0 → closes f (seen who arcs c) p ≡ 0
  pub under_superior : (c : Current) → s.current ≡ Some c → is_under_at c.key p ≡ true → sup ≡ true
  pub is_superior_so : sup ≡ true → is_live (link_with s.arcs p) ≡ true → is_superior s p ≡ true
