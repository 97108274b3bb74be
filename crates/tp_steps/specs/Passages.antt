-- What every event of a transaction keeps of its phase, its branches and the log, and what it tells: from a transaction
-- on to what a rule makes of it. Nothing here speaks of one peer.
use Rattle.std.specs.Prelude.{◌≡◌, ◌&&◌, ◌||◌, not, Bool, true, false, Option, Some, None, List, [], ◌∷◌}
use Rattle.tp_records.specs.declared.indication.Indication.{Indication}
use Rattle.tp_logrec.specs.declared.record.LogRec.{LogRec}
use Rattle.tp_model.specs.declared.arc.Phase.{Phase}
use Rattle.tp_model.specs.declared.transaction.TxEvent.{TxEvent}
use Rattle.tp_model.specs.declared.transaction.TxOut.{TxOut}
use Rattle.tp_model.specs.Dialogues.{is_active, is_ready, is_committing, is_rolling}
use Rattle.tp_model.specs.Transactions.{Transaction, Turn, node_key, superior_of, is_under, children_of}
use Rattle.tp_model.specs.Recovery.{is_commit}
use Rattle.tp_model.specs.Questions.{is_begin}
use Rattle.tp_steps.specs.Turns.{falls, is_order_for}

-- ---- outputs

-- no Begin is carried
abbrev pub begins_none : List TxOut → Bool
begins_none [] = true
begins_none (TxOut.Tell i ∷ outs) = begins_none outs
begins_none (TxOut.Carry p r ∷ outs) = not (is_begin r) && begins_none outs
begins_none (TxOut.Shut p ∷ outs) = begins_none outs
begins_none (TxOut.Recovery a r ∷ outs) = begins_none outs
begins_none (TxOut.Close p ∷ outs) = begins_none outs

-- the user is told commit, or that a commitment is complete
abbrev pub is_commit_told : Indication → Bool
is_commit_told Indication.Commit = true
is_commit_told (Indication.CommitComplete r) = true
is_commit_told _ = false

abbrev pub is_rollback_told : Indication → Bool
is_rollback_told Indication.Rollback = true
is_rollback_told (Indication.RollbackComplete r) = true
is_rollback_told _ = false

abbrev pub asks_tell : (Indication → Bool) → List TxOut → Bool
asks_tell f [] = false
asks_tell f (TxOut.Tell i ∷ outs) = f i || asks_tell f outs
asks_tell f (TxOut.Carry p r ∷ outs) = asks_tell f outs
asks_tell f (TxOut.Shut p ∷ outs) = asks_tell f outs
asks_tell f (TxOut.Recovery a r ∷ outs) = asks_tell f outs
asks_tell f (TxOut.Close p ∷ outs) = asks_tell f outs

-- ---- phases, which move one way

abbrev pub may_move : Phase → Phase → Bool
may_move Phase.Nil Phase.Nil = true
may_move Phase.Nil Phase.Active = false
may_move Phase.Nil Phase.Ready = false
may_move Phase.Nil Phase.Committing = false
may_move Phase.Nil Phase.Rolling = false
may_move Phase.Active p = true
may_move Phase.Ready Phase.Nil = true
may_move Phase.Ready Phase.Active = false
may_move Phase.Ready Phase.Ready = true
may_move Phase.Ready Phase.Committing = true
may_move Phase.Ready Phase.Rolling = true
may_move Phase.Committing Phase.Nil = true
may_move Phase.Committing Phase.Active = false
may_move Phase.Committing Phase.Ready = false
may_move Phase.Committing Phase.Committing = true
may_move Phase.Committing Phase.Rolling = false
may_move Phase.Rolling Phase.Nil = true
may_move Phase.Rolling Phase.Active = false
may_move Phase.Rolling Phase.Ready = false
may_move Phase.Rolling Phase.Committing = false
may_move Phase.Rolling Phase.Rolling = true

-- ---- records

abbrev pub is_commit_rec : Option LogRec → Bool
is_commit_rec None = false
is_commit_rec (Some (LogRec.Commit n k s cs)) = true
is_commit_rec (Some _) = false

-- a record is of the transaction, is logged in its phase, and names its branches
abbrev pub IsLogged : Transaction → Option LogRec → Transaction → Type 0
IsLogged t None u = Unit {0}
IsLogged t (Some (LogRec.Boot n)) u = ⊥
IsLogged t (Some (LogRec.Ready n k s cs)) u =
    (k ≡ node_key t.key) × (superior_of t.key ≡ Some s) × (cs ≡ children_of u.rows) × (is_active t.phase ≡ true) × (may_move Phase.Ready u.phase ≡ true)
IsLogged t (Some (LogRec.Heuristic n k o)) u = (k ≡ node_key t.key) × ((is_active t.phase || is_ready t.phase) ≡ true)
IsLogged t (Some (LogRec.Commit n k s cs)) u =
    (k ≡ node_key t.key) × (cs ≡ children_of u.rows) × ((is_active t.phase || is_ready t.phase) ≡ true) × (may_move Phase.Committing u.phase ≡ true)
IsLogged t (Some (LogRec.Damage n k s o r cs)) u = (k ≡ node_key t.key) × (is_commit o ≡ true → is_committing t.phase ≡ true)
IsLogged t (Some (LogRec.End n k o)) u = k ≡ node_key t.key

-- ---- an event e at a transaction s, from t on

pub record IsPassed (e : TxEvent) (s t : Transaction) (a : Turn) : Type 0 where
  pub key : a.next.key ≡ t.key
  pub begins : begins_none a.outs ≡ true
  pub moves : may_move t.phase a.next.phase ≡ true
  pub children : is_active t.phase ≡ false → children_of a.next.rows ≡ children_of t.rows
  pub logs : IsLogged t a.rec a.next
  pub orders : is_commit_rec a.rec ≡ true → is_under t.key ≡ true → is_order_for e s ≡ true
  pub commits : is_committing a.next.phase ≡ true → (is_committing t.phase || is_commit_rec a.rec) ≡ true
  pub rolling : is_rolling a.next.phase ≡ true → (is_rolling t.phase || falls e s) ≡ true
  pub tells_commit : asks_tell is_commit_told a.outs ≡ true → (is_committing t.phase || is_commit_rec a.rec) ≡ true
  pub tells_rollback : asks_tell is_rollback_told a.outs ≡ true → (is_rolling t.phase || falls e s) ≡ true
