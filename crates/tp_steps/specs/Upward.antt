-- What a subordinate says to its superior, in order: between two ends at most one Ready, and after it no Left; and what
-- each end tells of the transaction that it ends. A word stands after so many ends: the key of the Begin at that place is
-- that of its transaction.
use Rattle.std.specs.Prelude.{ℕ, ◌+◌, ◌≡◌, ◌&&◌, ◌||◌, not, Bool, true, false, Some, None, List, [], ◌∷◌, slice_get}
use Rattle.tp_names.specs.declared.identifiers.Aaid.{Aaid}
use Rattle.tp_names.specs.declared.outcome.Outcome.{Outcome}
use Rattle.tp_names.specs.declared.outcome.Report.{Report}
use Rattle.tp_names.specs.Reports.{is_report_none}
use Rattle.tp_records.specs.declared.request.Request.{Request}
use Rattle.tp_records.specs.declared.dialogue.DialogueRecord.{DialogueRecord}
use Rattle.tp_model.specs.declared.transaction.TxEvent.{TxEvent}
use Rattle.tp_model.specs.Dialogues.{is_nil, is_active, is_committing, is_rolling}
use Rattle.tp_model.specs.Transactions.{Transaction, Turn, aaid_of, is_under_at}
use Rattle.tp_steps.specs.Turns.{falls, loses}
use Rattle.tp_steps.specs.Passages.{is_commit_rec, asks_tell, IsPassed}
use Rattle.tp_steps.specs.Clearing.{is_complete_none, is_complete}
use Rattle.tp_steps.specs.Owing.{is_damage_rec}
use Rattle.tp_steps.specs.Facts.{is_vote, is_end, ends, BranchKey, spoken, stays, id_at, sees, HasPlace, IsFair}

-- ---- words in order

-- Ready was said since the last end
abbrev pub voting : Bool → DialogueRecord → Bool
voting v r = not (is_end r) && (v || is_vote r)

abbrev pub voting_from : Bool → List DialogueRecord → Bool
voting_from v [] = v
voting_from v (r ∷ rs) = voting_from (voting v r) rs

-- of each word, what holds of the number of ends before it, and of whether Ready was said since
abbrev pub each_up : (ℕ → Bool → DialogueRecord → Bool) → ℕ → Bool → List DialogueRecord → Bool
each_up f n v [] = true
each_up f n v (r ∷ rs) = f n v r && each_up f (ends r + n) (voting v r) rs

-- what became of a tree at the node
pub record Deeds : Type 0 where
  pub committed : Aaid → Bool
  pub rolled : Aaid → Bool
  pub left : Aaid → Bool
  -- the commitment was complete with no report
  pub completed : Aaid → Bool
  -- it is kept for its damage
  pub damaged : Aaid → Bool
  -- its user was told that it is complete: the commitment, or the rollback, with that report
  pub told : Outcome → Report → Aaid → Bool

-- it holds of the tree whose Begin stands at that place
abbrev pub holds_at : List BranchKey → ℕ → (Aaid → Bool) → Bool
holds_at ks n g = elim (slice_get ks n) [ None ↦ false | Some k ↦ g k.0 ]

abbrev pub may_say : List BranchKey → Deeds → ℕ → Bool → DialogueRecord → Bool
may_say ks g n v DialogueRecord.Ready = not v
may_say ks g n v (DialogueRecord.Done r) = holds_at ks n g.committed && (not (is_report_none r) || holds_at ks n g.completed)
    && (is_report_none r || holds_at ks n g.damaged) && holds_at ks n (g.told Outcome.Commit r)
may_say ks g n v DialogueRecord.Rollback = holds_at ks n g.rolled
may_say ks g n v (DialogueRecord.RolledBack r) = holds_at ks n g.rolled && holds_at ks n (g.told Outcome.Rollback r)
may_say ks g n v DialogueRecord.Left = not v && holds_at ks n g.left
may_say ks g n v DialogueRecord.LeftEnd = not v && holds_at ks n g.left
may_say ks g n v _ = true

-- ---- an event e at a transaction s, from t on, and the superior p, which is no branch

-- where Ready was said, the transaction came from the peer and is no longer active
abbrev pub Votes : Bool → Transaction → ℕ → Type 0
Votes v t p = v ≡ true → (is_nil t.phase ≡ false) × (is_under_at t.key p ≡ true) × (is_active t.phase ≡ false)

-- what the phase, the record and the event say of the tree
pub record Tells (g : Deeds) (e : TxEvent) (s t : Transaction) (a : Turn) : Type 0 where
  pub committing : is_committing t.phase ≡ true → g.committed (aaid_of t.key) ≡ true
  pub commits : is_commit_rec a.rec ≡ true → g.committed (aaid_of t.key) ≡ true
  pub rolling : is_rolling t.phase ≡ true → g.rolled (aaid_of t.key) ≡ true
  pub falls : falls e s ≡ true → g.rolled (aaid_of t.key) ≡ true
  pub leaves : e ≡ TxEvent.User Request.Unchanged → g.left (aaid_of t.key) ≡ true
  pub completes : asks_tell is_complete_none a.outs ≡ true → g.completed (aaid_of t.key) ≡ true
  pub damages : is_damage_rec a.rec ≡ true → g.damaged (aaid_of t.key) ≡ true
  pub tells : (u : Outcome) (r : Report) → asks_tell (is_complete u r) a.outs ≡ true → g.told u r (aaid_of t.key) ≡ true

pub record Rises (e : TxEvent) (s : Transaction) (p : ℕ) (t : Transaction) (a : Turn) : Type 0 where
  pub words : (ks : List BranchKey) (g : Deeds) (n : ℕ) (v : Bool) → id_at t p ≡ None → HasPlace ks n t p → Votes v t p → Tells g e s t a
      → each_up (may_say ks g) n v (spoken true p a.outs) ≡ true
  pub votes : (v : Bool) → Votes v t p → stays true p a.outs ≡ true → Votes (voting_from v (spoken true p a.outs)) a.next p

pub record IsRising (e : TxEvent) (s : Transaction) (p : ℕ) (t : Transaction) (a : Turn) : Type 0 where
  pub fair : IsFair e s p t a
  pub passed : IsPassed e s t a
  pub rises : sees t p ≡ true → loses e p ≡ false → Rises e s p t a
