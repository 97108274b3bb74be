-- What holds of no outputs, and of two lists joined, holds of each list that the rules of a transaction write, where it holds of each
-- output that may stand in it.
use Rattle.std.proofs.Common.{if◌then◌else◌, ◌≡◌, ℕ, Bool, true, false, refl, List, [], ◌∷◌, ◌++◌, ◌&&◌, ◌||◌, not}
use Rattle.tp_names.specs.declared.identifiers.Aaid.{Aaid}
use Rattle.tp_names.specs.declared.identifiers.BranchId.{BranchId}
use Rattle.tp_names.specs.declared.identifiers.Addr.{Addr}
use Rattle.tp_names.specs.declared.outcome.Report.{Report}
use Rattle.tp_names.specs.Reports.{join, is_report_none}
use Rattle.tp_records.specs.declared.indication.Indication.{Indication}
use Rattle.tp_records.specs.declared.dialogue.DialogueRecord.{DialogueRecord}
use Rattle.tp_records.specs.declared.peer.PeerRecord.{PeerRecord}
use Rattle.tp_records.specs.declared.peer.RecState.{RecState}
use Rattle.tp_model.specs.declared.arc.Phase.{Phase}
use Rattle.tp_model.specs.declared.transaction.TxOut.{TxOut}
use Rattle.tp_model.specs.Parts.{Key, Root, Under}
use Rattle.tp_model.specs.Transactions.{Row, Transaction, aaid_of, all_done, all_rolled_back, reports_of, own_damage, carry_up, carry_down, tell_report, forgets, done_up, ends_down, end_up, prepare_each, ask_each, retried, complete_commit, complete_rollback, begin_rolling, order, leave}

pub record IsJoined (P : List TxOut → Type 0) : Type 0 where
  pub none : P []
  pub more : (xs ys : List TxOut) → P xs → P ys → P (xs ++ ys)

-- ---- an output that may stand there

with_one : (P : List TxOut → Type 0) → IsJoined P → (b : Bool) (o : TxOut) (xs : List TxOut) → P (o ∷ []) → P xs → P (if b then o ∷ xs else xs)
with_one P k true o xs one rest = k.more (o ∷ []) xs one rest
with_one P k false o xs one rest = rest

but_one : (P : List TxOut → Type 0) → IsJoined P → (b : Bool) (o : TxOut) (xs : List TxOut) → P (o ∷ []) → P xs → P (if b then xs else o ∷ xs)
but_one P k true o xs one rest = rest
but_one P k false o xs one rest = k.more (o ∷ []) xs one rest

-- ---- lists that rules write

pub joined_up : (P : List TxOut → Type 0) → IsJoined P → (t : Transaction) (r : DialogueRecord) → ((p : ℕ) → P (TxOut.Carry p r ∷ [])) → P (carry_up t r)
joined_up P k t r one = go t.key
  where
    go : (x : Key) → P (carry_up (record t { key = x }) r)
    go (Root a) = k.none
    go (Under a b s) = with_one P k t.up (TxOut.Carry s.node r) [] (one s.node) k.none

pub joined_down : (P : List TxOut → Type 0) → IsJoined P → (rows : List Row) (r : DialogueRecord) → ((p : ℕ) → P (TxOut.Carry p r ∷ [])) → P (carry_down rows r)
joined_down P k [] r one = k.none
joined_down P k (w ∷ rows) r one = with_one P k (w.live && not w.branch.left) (TxOut.Carry w.branch.peer.node r) (carry_down rows r) (one w.branch.peer.node) (joined_down P k rows r one)

pub joined_prepare : (P : List TxOut → Type 0) → IsJoined P → (rows : List Row) → ((p : ℕ) → P (TxOut.Carry p DialogueRecord.Prepare ∷ [])) → P (prepare_each rows)
joined_prepare P k [] one = k.none
joined_prepare P k (w ∷ rows) one = but_one P k w.branch.prepared (TxOut.Carry w.branch.peer.node DialogueRecord.Prepare) (prepare_each rows) (one w.branch.peer.node) (joined_prepare P k rows one)

pub joined_forgets : (P : List TxOut → Type 0) → IsJoined P → (a : Aaid) (rows : List Row) → ((z : Addr) (b : BranchId) → P (TxOut.Recovery z (PeerRecord.Forget a b) ∷ [])) → P (forgets a rows)
joined_forgets P k a [] one = k.none
joined_forgets P k a (w ∷ rows) one = but_one P k (is_report_none w.branch.report) (TxOut.Recovery w.branch.peer (PeerRecord.Forget a w.branch.id)) (forgets a rows) (one w.branch.peer w.branch.id) (joined_forgets P k a rows one)

pub joined_ask : (P : List TxOut → Type 0) → IsJoined P → (a : Aaid) (rows : List Row) → ((z : Addr) (b : BranchId) → P (TxOut.Recovery z (PeerRecord.RecCommit a b) ∷ [])) → P (ask_each a rows)
joined_ask P k a [] one = k.none
joined_ask P k a (w ∷ rows) one =
    but_one P k (w.branch.ended || w.branch.left || w.branch.given_up) (TxOut.Recovery w.branch.peer (PeerRecord.RecCommit a w.branch.id)) (ask_each a rows) (one w.branch.peer w.branch.id) (joined_ask P k a rows one)

pub joined_ends : (P : List TxOut → Type 0) → IsJoined P → (rows : List Row) → ((p : ℕ) → P (TxOut.Close p ∷ [])) → P (ends_down rows)
joined_ends P k [] one = k.none
joined_ends P k (w ∷ rows) one = with_one P k w.ends (TxOut.Close w.branch.peer.node) (ends_down rows) (one w.branch.peer.node) (joined_ends P k rows one)

pub joined_end_up : (P : List TxOut → Type 0) → IsJoined P → (t : Transaction) → ((p : ℕ) → P (TxOut.Close p ∷ [])) → P (end_up t)
joined_end_up P k t one = go t.key
  where
    go : (x : Key) → P (end_up (record t { key = x }))
    go (Root a) = k.none
    go (Under a b s) = with_one P k t.up_ends (TxOut.Close s.node) [] (one s.node) k.none

pub joined_done : (P : List TxOut → Type 0) → IsJoined P → (t : Transaction) (r : Report) → ((p : ℕ) → P (TxOut.Carry p (DialogueRecord.Done r) ∷ []))
    → ((a : Aaid) (b : BranchId) (s : Addr) → t.key ≡ Under a b s → P (TxOut.Recovery s (PeerRecord.RecReply a b (RecState.Done r)) ∷ [])) → P (done_up t r)
joined_done P k t r carries replies = go t.key refl t.up
  where
    go : (x : Key) → t.key ≡ x → (u : Bool) → P (done_up (record t { key = x; up = u }) r)
    go (Root a) i u = k.none
    go (Under a b s) i true = carries s.node
    go (Under a b s) i false = replies a b s i

pub joined_report : (P : List TxOut → Type 0) → IsJoined P → (p : ℕ) (r : Report) → P (TxOut.Tell (Indication.HeuristicReport p r) ∷ []) → P (tell_report p r)
joined_report P k p r one = but_one P k (is_report_none r) (TxOut.Tell (Indication.HeuristicReport p r)) [] one k.none

pub joined_retried : (P : List TxOut → Type 0) → IsJoined P → (t : Transaction) → P (TxOut.Tell Indication.Commit ∷ [])
    → ((a : Aaid) (b : BranchId) (s : Addr) → t.key ≡ Under a b s → P (TxOut.Recovery s (PeerRecord.RecReady a b) ∷ [])) → (t.phase ≡ Phase.Committing → P (ask_each (aaid_of t.key) t.rows)) → P (retried t)
joined_retried P k t told ready asks = go t.phase refl
  where
    ask : (x : Key) → t.key ≡ x → P (retried (record t { phase = Phase.Ready; key = x }))
    ask (Root a) i = k.none
    ask (Under a b s) i = ready a b s i

    go : (p : Phase) → t.phase ≡ p → P (retried (record t { phase = p }))
    go Phase.Ready i = ask t.key refl
    go Phase.Committing i = k.more (if t.owes then TxOut.Tell Indication.Commit ∷ [] else []) (ask_each (aaid_of t.key) t.rows) (with_one P k t.owes (TxOut.Tell Indication.Commit) [] told k.none) (asks i)
    go Phase.Nil i = k.none
    go Phase.Active i = k.none
    go Phase.Rolling i = k.none

-- ---- rules

pub joined_commit : (P : List TxOut → Type 0) → IsJoined P → (t : Transaction) (r : Report) → P (forgets (aaid_of t.key) t.rows) → P (done_up t r) → P (TxOut.Tell (Indication.CommitComplete r) ∷ []) → ((p : ℕ) → P (TxOut.Close p ∷ []))
    → P (forgets (aaid_of t.key) t.rows ++ done_up t r ++ (TxOut.Tell (Indication.CommitComplete r) ∷ []) ++ ends_down t.rows ++ end_up t)
joined_commit P k t r forget done told close =
    k.more (forgets (aaid_of t.key) t.rows ++ done_up t r ++ (TxOut.Tell (Indication.CommitComplete r) ∷ []) ++ ends_down t.rows) (end_up t)
    (k.more (forgets (aaid_of t.key) t.rows ++ done_up t r ++ (TxOut.Tell (Indication.CommitComplete r) ∷ [])) (ends_down t.rows)
    (k.more (forgets (aaid_of t.key) t.rows ++ done_up t r) (TxOut.Tell (Indication.CommitComplete r) ∷ []) (k.more (forgets (aaid_of t.key) t.rows) (done_up t r) forget done) told) (joined_ends P k t.rows close))
    (joined_end_up P k t close)

pub joined_completes : (P : List TxOut → Type 0) → IsJoined P → (t : Transaction) → ((z : Addr) (b : BranchId) → P (TxOut.Recovery z (PeerRecord.Forget (aaid_of t.key) b) ∷ [])) → ((r : Report) → P (done_up t r))
    → ((r : Report) → P (TxOut.Tell (Indication.CommitComplete r) ∷ [])) → ((p : ℕ) → P (TxOut.Close p ∷ [])) → P (complete_commit t).outs
unfolding complete_commit
joined_completes P k t forget done told close = go (not t.owes && all_done t.rows) refl
  where
    go : (b : Bool) → (not t.owes && all_done t.rows) ≡ b → P (complete_commit t).outs
    go true i = rw i (let r : Report = join (own_damage t.decision) (reports_of t.rows) in joined_commit P k t r (joined_forgets P k (aaid_of t.key) t.rows forget) (done r) (told r) close)
    go false i = rw i k.none

pub joined_unrolls : (P : List TxOut → Type 0) → IsJoined P → (t : Transaction) → ((p : ℕ) (r : Report) → P (TxOut.Carry p (DialogueRecord.RolledBack r) ∷ [])) → ((r : Report) → P (TxOut.Tell (Indication.RollbackComplete r) ∷ []))
    → P (complete_rollback t).outs
unfolding complete_rollback
joined_unrolls P k t carries told = go (not t.owes && all_rolled_back t.rows && (t.superior_rolled || not t.up)) refl
  where
    go : (b : Bool) → (not t.owes && all_rolled_back t.rows && (t.superior_rolled || not t.up)) ≡ b → P (complete_rollback t).outs
    go true i = rw i (let r : Report = join t.own (reports_of t.rows) in k.more (carry_up t (DialogueRecord.RolledBack r)) (TxOut.Tell (Indication.RollbackComplete r) ∷ []) (joined_up P k t (DialogueRecord.RolledBack r) (λ p. carries p r)) (told r))
    go false i = rw i k.none

pub joined_rolls : (P : List TxOut → Type 0) → IsJoined P → (asked : Bool) (t : Transaction) → P (TxOut.Tell Indication.Rollback ∷ []) → ((p : ℕ) → P (TxOut.Carry p DialogueRecord.Rollback ∷ [])) → P (begin_rolling asked t).outs
unfolding begin_rolling
joined_rolls P k asked t told carries =
    k.more ((if asked then [] else TxOut.Tell Indication.Rollback ∷ []) ++ carry_up t DialogueRecord.Rollback) (carry_down t.rows DialogueRecord.Rollback)
    (k.more (if asked then [] else TxOut.Tell Indication.Rollback ∷ []) (carry_up t DialogueRecord.Rollback) (but_one P k asked (TxOut.Tell Indication.Rollback) [] told k.none) (joined_up P k t DialogueRecord.Rollback carries))
    (joined_down P k t.rows DialogueRecord.Rollback carries)

pub joined_order : (P : List TxOut → Type 0) → IsJoined P → (t : Transaction) → P (TxOut.Tell Indication.Commit ∷ []) → ((p : ℕ) → P (TxOut.Carry p DialogueRecord.Commit ∷ [])) → P (order t).outs
unfolding order
joined_order P k t told carries = k.more (carry_down t.rows DialogueRecord.Commit) (TxOut.Tell Indication.Commit ∷ []) (joined_down P k t.rows DialogueRecord.Commit carries) told

pub joined_leaves : (P : List TxOut → Type 0) → IsJoined P → (t : Transaction) → ((p : ℕ) → P (TxOut.Carry p DialogueRecord.LeftEnd ∷ [])) → ((p : ℕ) → P (TxOut.Carry p DialogueRecord.Left ∷ [])) → ((p : ℕ) → P (TxOut.Close p ∷ [])) → P (leave t).outs
unfolding leave
joined_leaves P k t ends leaves close = go t.up_ends
  where
    go : (b : Bool) → P (if b then carry_up t DialogueRecord.LeftEnd ++ end_up t else carry_up t DialogueRecord.Left)
    go true = k.more (carry_up t DialogueRecord.LeftEnd) (end_up t) (joined_up P k t DialogueRecord.LeftEnd ends) (joined_end_up P k t close)
    go false = joined_up P k t DialogueRecord.Left leaves
