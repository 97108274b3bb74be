-- A node's current transaction among its arcs: in what order the two stand at every moment, and what has become of the arcs
-- when an event is put to the transaction. No rule stands here.
use Rattle.std.specs.Prelude.{ℕ, ◌≡◌, ◌==◌, ◌&&◌, ◌||◌, not, Bool, true, false, None, List, [], ◌∷◌}
use Rattle.tp_names.specs.declared.children.Child.{Child}
use Rattle.tp_records.specs.declared.request.Request.{Request}
use Rattle.tp_records.specs.declared.dialogue.DialogueRecord.{DialogueRecord}
use Rattle.tp_model.specs.declared.transaction.TxEvent.{TxEvent}
use Rattle.tp_model.specs.Parts.{Arc, Branch, Current}
use Rattle.tp_model.specs.Dialogues.{is_nil, is_active, is_rolling}
use Rattle.tp_model.specs.Arcs.{is_live_with_peer}
use Rattle.tp_model.specs.Transactions.{Transaction, is_under_at, refused_tx}
use Rattle.tp_model.specs.Requests.{has_branch_at}
use Rattle.tp_model.specs.Node.{is_end_deferred_at}

-- ---- at every moment

-- no two branches have one peer
abbrev pub are_distinct : List Branch → Bool
are_distinct [] = true
are_distinct (b ∷ bs) = not (has_branch_at bs b.peer.node) && are_distinct bs

-- the arc with the peer is the transaction's: the superior's, or a branch's
abbrev pub is_peer : Current → ℕ → Bool
is_peer c p = is_under_at c.key p || has_branch_at c.branches p

pub record IsAmongArcs (arcs : List Arc) (c : Current) : Type 0 where
  -- the transaction is not over
  pub current : is_nil c.phase ≡ false
  pub distinct : are_distinct c.branches ≡ true
  -- the superior is no branch
  pub apart : (p : ℕ) → is_under_at c.key p ≡ true → has_branch_at c.branches p ≡ false
  -- an end is deferred on its live arcs alone, and in a rollback on none
  pub put_off : (p : ℕ) → is_peer c p ≡ true → is_end_deferred_at arcs p ≡ true → is_live_with_peer arcs p ≡ true
  pub forgotten : is_rolling c.phase ≡ true → (p : ℕ) → is_peer c p ≡ true → is_end_deferred_at arcs p ≡ false

-- ---- from the arcs before an event to those at which it is put to the transaction

-- the arc with the peer looks to a transaction as it did
pub record IsAlike (p : ℕ) (arcs later : List Arc) : Type 0 where
  pub live : is_live_with_peer later p ≡ is_live_with_peer arcs p
  pub ends : is_end_deferred_at later p ≡ is_end_deferred_at arcs p

-- so does each arc
abbrev pub AreAlike : List Arc → List Arc → Type 0
AreAlike arcs later = (p : ℕ) → IsAlike p arcs later

-- so does each but the one with the peer, which is gone
pub record IsCut (p : ℕ) (arcs later : List Arc) : Type 0 where
  pub live : is_live_with_peer later p ≡ false
  pub ends : is_end_deferred_at later p ≡ false
  pub others : (q : ℕ) → (q == p) ≡ false → IsAlike q arcs later

-- and here that one is live, and its end is deferred by now
pub record IsPutOff (p : ℕ) (arcs later : List Arc) : Type 0 where
  pub before : is_live_with_peer arcs p ≡ true
  pub live : is_live_with_peer later p ≡ true
  pub ends : is_end_deferred_at later p ≡ true
  pub others : (q : ℕ) → (q == p) ≡ false → IsAlike q arcs later

abbrev pub is_child_at : List Child → ℕ → Bool
is_child_at [] p = false
is_child_at (x ∷ xs) p = (x.addr.node == p) || is_child_at xs p

-- new branches: on live arcs on which no end is deferred, none of them the transaction's, each named once
abbrev pub AreNew : List Child → List Arc → Current → Type 0
AreNew [] arcs c = Unit {0}
AreNew (x ∷ xs) arcs c =
    (is_live_with_peer arcs x.addr.node ≡ true) × (is_end_deferred_at arcs x.addr.node ≡ false) × (is_peer c x.addr.node ≡ false)
    × (is_child_at xs x.addr.node ≡ false) × AreNew xs arcs c

-- a deferred end stands on its arc by now, and an arc that is lost is gone; any other event leaves the arcs
-- as they look. The user aborts a branch and defers an end while the transaction is active, and so is the
-- superior's deferred end taken; no LeftEnd comes from the superior
abbrev pub Reaches : TxEvent → Current → List Arc → List Arc → Type 0
Reaches (TxEvent.Begun cs) c arcs later = (is_rolling c.phase ≡ false) × AreNew cs later c × AreAlike arcs later
Reaches (TxEvent.User (Request.UAbort p)) c arcs later = (is_active c.phase ≡ true) × AreAlike arcs later
Reaches (TxEvent.User (Request.DeferEnd p)) c arcs later = (is_active c.phase ≡ true) × (is_under_at c.key p ≡ false) × IsPutOff p arcs later
Reaches (TxEvent.Took p DialogueRecord.UAbort) c arcs later = IsCut p arcs later
Reaches (TxEvent.Took p DialogueRecord.DeferEnd) c arcs later = (is_active c.phase ≡ true) × (is_under_at c.key p ≡ true) × IsPutOff p arcs later
Reaches (TxEvent.Took p DialogueRecord.LeftEnd) c arcs later = (is_under_at c.key p ≡ false) × AreAlike arcs later
Reaches (TxEvent.Lost p) c arcs later = IsCut p arcs later
Reaches _ c arcs later = AreAlike arcs later

-- a record that is out of phase changes nothing of the transaction; another event is none that it refuses
abbrev pub IsTakenUp : TxEvent → Transaction → Type 0
IsTakenUp (TxEvent.Took p r) t = Unit {0}
IsTakenUp f t = refused_tx f t ≡ None
