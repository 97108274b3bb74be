-- The small steps that every event of a transaction is made of, each with what is known where it is
-- taken. What all steps keep, every event keeps: a fact about events is stated as a relation between
-- a transaction and what a rule makes of it, and is proved of these steps alone.
use Rattle.std.specs.Prelude.{ℕ, ◌≡◌, ◌==◌, ◌&&◌, ◌||◌, ◌⊎◌, not, Bool, true, false, if◌then◌else◌, Some, None, List, [], ◌∷◌}
use Rattle.tp_names.specs.declared.identifiers.BranchId.{BranchId}
use Rattle.tp_names.specs.declared.outcome.Outcome.{Outcome}
use Rattle.tp_names.specs.declared.outcome.Report.{Report}
use Rattle.tp_records.specs.declared.request.Request.{Request}
use Rattle.tp_records.specs.declared.indication.Indication.{Indication}
use Rattle.tp_records.specs.declared.dialogue.DialogueRecord.{DialogueRecord}
use Rattle.tp_records.specs.declared.peer.RecState.{RecState}
use Rattle.tp_model.specs.declared.arc.Phase.{Phase}
use Rattle.tp_model.specs.declared.transaction.TxEvent.{TxEvent}
use Rattle.tp_model.specs.declared.transaction.TxOut.{TxOut}
use Rattle.tp_model.specs.Dialogues.{is_active, is_ready, is_committing, is_rolling}
use Rattle.tp_model.specs.Transactions.{Row, Transaction, Turn, turn, and_then, before, is_under, is_under_at, find_row, find_row_by_id, row_holds, with_row, with_branch, with_arc_lost, is_waited_for, all_settled, all_left, log_ready, log_heuristic, carry_up, complete_commit, complete_rollback, begin_rolling, order, ask_commit, leave, count_branch, end_branch, branch_left, retried, is_open_in_commit, logging}

-- ---- what an event is to its transaction

-- the superior's order of commitment: on its association, as the question of a superior, as a reply
abbrev pub is_order_for : TxEvent → Transaction → Bool
is_order_for (TxEvent.Took p DialogueRecord.Commit) t = is_under_at t.key p
is_order_for (TxEvent.Took p _) t = false
is_order_for TxEvent.Ordered t = true
is_order_for (TxEvent.Reply b RecState.Commit) t = true
is_order_for (TxEvent.Reply b _) t = false
is_order_for _ t = false

-- in active a loss is fatal where the branch is still needed
abbrev pub is_fatal_at : Transaction → ℕ → Bool
is_fatal_at t p = is_active t.phase && (is_under_at t.key p || row_holds t.rows p is_waited_for)

-- it makes the transaction roll
abbrev pub falls : TxEvent → Transaction → Bool
falls (TxEvent.Begun arcs) t = false
falls (TxEvent.User Request.Rollback) t = is_active t.phase
falls (TxEvent.User (Request.UAbort p)) t = is_active t.phase
falls (TxEvent.User _) t = false
falls (TxEvent.Took p DialogueRecord.UAbort) t = is_fatal_at t p
falls (TxEvent.Took p DialogueRecord.Rollback) t =
    if is_under_at t.key p then is_active t.phase || is_ready t.phase else is_active t.phase && row_holds t.rows p (λ b. not b.counted)
falls (TxEvent.Took p _) t = false
falls (TxEvent.Lost p) t = is_fatal_at t p
falls (TxEvent.Heur o) t = false
falls (TxEvent.GiveUp p) t = false
falls TxEvent.Ordered t = false
falls (TxEvent.Reply b RecState.Unknown) t = is_ready t.phase
falls (TxEvent.Reply b _) t = false
falls TxEvent.Retry t = false

-- the association with that peer is gone, or goes with the event
abbrev pub loses : TxEvent → ℕ → Bool
loses (TxEvent.Lost q) p = q == p
loses (TxEvent.Took q DialogueRecord.UAbort) p = q == p
loses (TxEvent.Took q _) p = false
loses _ p = false

-- what it takes from the superior, or is replied, closes the round: after it the superior says no more of work
abbrev pub hears_close : TxEvent → Transaction → Bool
hears_close (TxEvent.Took p DialogueRecord.Prepare) t = is_under_at t.key p
hears_close (TxEvent.Took p DialogueRecord.Rollback) t = is_under_at t.key p
hears_close (TxEvent.Took p _) t = false
hears_close (TxEvent.Reply b RecState.Unknown) t = is_ready t.phase
hears_close (TxEvent.Reply b _) t = false
hears_close _ t = false

-- the superior asks to prepare
abbrev pub hears_prepare : TxEvent → Bool
hears_prepare (TxEvent.Took p DialogueRecord.Prepare) = true
hears_prepare (TxEvent.Took p _) = false
hears_prepare _ = false

-- the superior rolls back, or knows of nothing where this node is ready
abbrev pub hears_rollback : TxEvent → Transaction → Bool
hears_rollback (TxEvent.Took p DialogueRecord.Rollback) t = is_under_at t.key p
hears_rollback (TxEvent.Took p _) t = false
hears_rollback (TxEvent.Reply b RecState.Unknown) t = is_ready t.phase
hears_rollback (TxEvent.Reply b _) t = false
hears_rollback _ t = false

abbrev pub is_left_word : DialogueRecord → Bool
is_left_word DialogueRecord.Left = true
is_left_word DialogueRecord.LeftEnd = true
is_left_word _ = false

-- the user is told an outcome, or to prepare for one
abbrev pub is_outcome_told : Indication → Bool
is_outcome_told Indication.Prepare = true
is_outcome_told Indication.Commit = true
is_outcome_told (Indication.CommitComplete r) = true
is_outcome_told Indication.Rollback = true
is_outcome_told (Indication.RollbackComplete r) = true
is_outcome_told _ = false

-- ---- steps that are written out in no rule of their own

abbrev pub vote : Transaction → Turn
vote t = logging (log_ready t) (turn (carry_up t DialogueRecord.Ready) (record t { phase = Phase.Ready }))

abbrev pub decide : Outcome → Transaction → Turn
decide o t = logging (Some (log_heuristic t o)) (turn [] (record t { decision = Some o }))

abbrev pub shut_given_up : ℕ → Row → Transaction → Turn
shut_given_up p r t =
    turn
    (if r.live then TxOut.Shut p ∷ [] else [])
    (with_row t p (λ q. record q { branch = record q.branch { given_up = true }; live = false; ends = false }))

abbrev pub row_dead : Row → Row
row_dead r = record r { live = false; ends = false }

-- ---- the steps: of an event e at a transaction s

pub record Turns (e : TxEvent) (s : Transaction) (R : Transaction → Turn → Type 0) : Type 0 where
  -- chains
  pub still : (t : Transaction) → R t (turn [] t)
  pub first : (t u : Transaction) (outs : List TxOut) (a : Turn) → R t (turn outs u) → R u a → R t (before outs a)
  pub chain : (t : Transaction) (a : Turn) (f : Transaction → Turn) → R t a → R a.next (f a.next) → (a.rec ≡ None) ⊎ ((f a.next).rec ≡ None)
      → R t (and_then a f)
  -- notes
  pub tells : (t : Transaction) (i : Indication) → is_outcome_told i ≡ false → R t (turn (TxOut.Tell i ∷ []) t)
  pub notes_prepare : hears_prepare e ≡ true → hears_close e s ≡ true → R s (turn (TxOut.Tell Indication.Prepare ∷ []) (record s { told_prepare = true }))
  pub notes_done : e ≡ TxEvent.User Request.Done → R s (turn [] (record s { owes = false }))
  pub notes_end : (p : ℕ) → e ≡ TxEvent.Took p DialogueRecord.DeferEnd → R s (turn (TxOut.Tell (Indication.DeferEnd p) ∷ []) (record s { up_ends = true }))
  pub notes_rollback : hears_rollback e s ≡ true → hears_close e s ≡ true → R s (turn [] (record s { superior_rolled = true }))
  pub defers_end : (p : ℕ) → e ≡ TxEvent.User (Request.DeferEnd p)
      → R s (turn (TxOut.Carry p DialogueRecord.DeferEnd ∷ []) (with_row s p (λ r. record r { ends = true })))
  pub defers_grant : (p : ℕ) → e ≡ TxEvent.User (Request.DeferGrant p) → R s (turn (TxOut.Carry p DialogueRecord.DeferGrant ∷ []) s)
  pub prepares : (p : ℕ) → R s (turn (TxOut.Carry p DialogueRecord.Prepare ∷ []) (with_branch s p (λ b. record b { prepared = true })))
  pub asks : e ≡ TxEvent.User Request.Commit → is_active s.phase ≡ true → s.asked ≡ false → (is_under s.key ≡ true → s.told_prepare ≡ true) → R s (ask_commit s)
  pub asks_again : R s (turn (retried s) s)
  pub decides : (o : Outcome) → e ≡ TxEvent.Heur o → is_ready s.phase ≡ true → R s (decide o s)
  -- associations that go
  pub aborts : (p : ℕ) → e ≡ TxEvent.User (Request.UAbort p) → R s (turn (TxOut.Carry p DialogueRecord.UAbort ∷ TxOut.Close p ∷ []) (with_arc_lost s p))
  pub loses_arc : (p : ℕ) → loses e p ≡ true → R s (turn [] (with_arc_lost s p))
  pub closes_left : (p : ℕ) → e ≡ TxEvent.Took p DialogueRecord.LeftEnd → R s (turn (TxOut.Close p ∷ []) (with_row s p row_dead))
  pub gives_up : (p : ℕ) (r : Row) → e ≡ TxEvent.GiveUp p → is_committing s.phase ≡ true → find_row s.rows p ≡ Some r → R s (shut_given_up p r s)
  -- branches; a leaving branch may have lost its association just before
  pub counts : (p : ℕ) → e ≡ TxEvent.Took p DialogueRecord.Ready → is_active s.phase ≡ true
      → row_holds s.rows p (λ b. b.prepared && not b.counted) ≡ true → R s (count_branch p s)
  pub ends_done : (p : ℕ) (r : Report) → e ≡ TxEvent.Took p (DialogueRecord.Done r) → is_committing s.phase ≡ true
      → row_holds s.rows p (λ b. not b.ended && not b.left) ≡ true → R s (end_branch p r s)
  pub ends_replied : (b : BranchId) (w : Row) (r : Report) → e ≡ TxEvent.Reply b (RecState.Done r) → find_row_by_id s.rows b ≡ Some w
      → is_open_in_commit s w.branch ≡ true
      → R s (end_branch w.branch.peer.node r s)
  pub ends_rolled : (p : ℕ) (r : Report) → e ≡ TxEvent.Took p (DialogueRecord.RolledBack r) → is_rolling s.phase ≡ true
      → row_holds s.rows p (λ b. not b.ended && not b.left) ≡ true → R s (end_branch p r s)
  pub leaves_below : (p : ℕ) (w : DialogueRecord) (t : Transaction) → e ≡ TxEvent.Took p w → is_left_word w ≡ true → (t ≡ s) ⊎ (t ≡ with_row s p row_dead)
      → is_active t.phase ≡ true → R t (branch_left p t)
  pub leaves_rolling : (p : ℕ) (w : DialogueRecord) (t : Transaction) → e ≡ TxEvent.Took p w → is_left_word w ≡ true → (t ≡ s) ⊎ (t ≡ with_row s p row_dead)
      → is_rolling t.phase ≡ true → R t (end_branch p Report.None t)
  -- passages
  pub votes : (t : Transaction) → is_active t.phase ≡ true → t.asked ≡ true → all_settled t.rows ≡ true → is_under t.key ≡ true → R t (vote t)
  pub orders_root : (t : Transaction) → is_active t.phase ≡ true → t.asked ≡ true → all_settled t.rows ≡ true → is_under t.key ≡ false → R t (order t)
  pub orders_ready : is_ready s.phase ≡ true → is_order_for e s ≡ true → R s (order s)
  pub rolls : (t : Transaction) (asked : Bool) → falls e s ≡ true → (is_active t.phase || is_ready t.phase) ≡ true → R t (begin_rolling asked t)
  pub completes_commit : (t : Transaction) → is_committing t.phase ≡ true → R t (complete_commit t)
  pub completes_rollback : (t : Transaction) → is_rolling t.phase ≡ true → R t (complete_rollback t)
  pub leaves : e ≡ TxEvent.User Request.Unchanged → is_active s.phase ≡ true → is_under s.key ≡ true → s.asked ≡ false → all_left s.rows ≡ true → R s (leave s)
