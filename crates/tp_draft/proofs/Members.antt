-- An event notes things on the branches of a transaction: it keeps its place in the tree, and its branches the peers that they have.
use Rattle.std.proofs.Common.{◌≡◌, ℕ, Bool, true, false, Option, Some, None, List, [], ◌∷◌, ◌++◌, refl, sym, subst, ◌∙◌, arith, append-nil}
use Rattle.std.specs.Prelude.{◌&&◌, ◌||◌, not, if◌then◌else◌}
use Rattle.std.proofs.lemmas.Bool.Decides.{nat_tests}
use Rattle.tp_names.specs.declared.outcome.Report.{Report}
use Rattle.tp_names.specs.declared.identifiers.BranchId.{BranchId}
use Rattle.tp_logrec.specs.declared.record.LogRec.{LogRec}
use Rattle.tp_records.specs.declared.request.Request.{Request}
use Rattle.tp_records.specs.declared.dialogue.DialogueRecord.{DialogueRecord}
use Rattle.tp_records.specs.declared.peer.RecState.{RecState}
use Rattle.tp_model.specs.declared.arc.Phase.{Phase}
use Rattle.tp_model.specs.declared.transaction.TxEvent.{TxEvent}
use Rattle.tp_model.specs.declared.transaction.TxOut.{TxOut}
use Rattle.tp_model.specs.Dialogues.{is_active, is_ready, is_rolling, Sight, Acts, Nothing_happens, Out_of_phase}
use Rattle.tp_model.specs.Transactions.{Row, Transaction, Turn, turn, find_row, find_row_by_id, put_row, row_holds, with_row, with_arc_lost, is_under, is_under_at, is_waited_for, is_open_in_commit, all_prepared, all_settled, all_done, all_rolled_back, order, settle, complete, complete_commit, complete_rollback, begin_rolling, roll, ask_commit, leave, count_branch, end_branch, branch_left, lost_arc, superior_rolls, takes_left, takes, by_user, sight_of_tx, replied, give_up, transacted, part_by_part}
use Rattle.tp_commit.specs.Branch.{standing, standing_rows, begins}

-- the same place in the tree, and branches with the same peers
pub record IsOnArcsOf (t u : Transaction) : Type 0 where
  pub key : u.key ≡ t.key
  pub rows : (p : ℕ) → row_holds u.rows p (λ b. true) ≡ row_holds t.rows p (λ b. true)

same : (t : Transaction) → IsOnArcsOf t t
same t = record { key = refl; rows = λ p. refl }

then_on : (t u v : Transaction) → IsOnArcsOf t u → IsOnArcsOf u v → IsOnArcsOf t v
then_on t u v one two = record { key = two.key ∙ one.key; rows = λ p. two.rows p ∙ one.rows p }

either : (t : Transaction) (b : Bool) (x y : Turn) → IsOnArcsOf t x.next → IsOnArcsOf t y.next → IsOnArcsOf t (if b then x else y).next
either t true x y one two = one
either t false x y one two = two

-- ---- notes

abbrev has_row_at : List Row → ℕ → Bool
has_row_at rs q = row_holds rs q (λ b. true)

put_has : (rs : List Row) (a : Row) (q : ℕ) → has_row_at (put_row rs a) q ≡ has_row_at rs q
put_has [] a q = refl
put_has (r ∷ rs) a q = grind (arith, nat_tests, put_has rs a q)

row_on : (t : Transaction) (p : ℕ) (f : Row → Row) → IsOnArcsOf t (with_row t p f)
row_on t p f = go (find_row t.rows p)
  where
    go : (o : Option Row) → IsOnArcsOf t (elim o as (λ _. Transaction) [ None ↦ t | Some r ↦ record t { rows = put_row t.rows (f r) } ])
    go None = same t
    go (Some r) = record { key = refl; rows = λ q. put_has t.rows (f r) q }

lost_on : (t : Transaction) (p : ℕ) → IsOnArcsOf t (with_arc_lost t p)
lost_on t p = go (is_under_at t.key p)
  where
    go : (b : Bool) → IsOnArcsOf t (if b then record t { up = false; up_ends = false } else with_row t p (λ r. record r { live = false; ends = false }))
    go true = record { key = refl; rows = λ q. refl }
    go false = row_on t p (λ r. record r { live = false; ends = false })

prepared_has : (rs : List Row) (q : ℕ) → has_row_at (all_prepared rs) q ≡ has_row_at rs q
prepared_has [] q = refl
prepared_has (r ∷ rs) q = grind (arith, nat_tests, prepared_has rs q)

standing_has : (rolls : Bool) (rs : List Row) (q : ℕ) → has_row_at (standing_rows rolls rs) q ≡ has_row_at rs q
standing_has rolls [] q = refl
standing_has rolls (r ∷ rs) q = grind (arith, nat_tests, standing_has rolls rs q)

-- ---- rules

order_on : (t : Transaction) → IsOnArcsOf t (order t).next
unfolding order
order_on t = record { key = refl; rows = λ q. refl }

settle_on : (t : Transaction) → IsOnArcsOf t (settle t).next
unfolding settle
settle_on t =
    either t (is_active t.phase && t.asked && all_settled t.rows) _ (turn [] t)
    (either t (is_under t.key) _ (order t) (record { key = refl; rows = λ q. refl }) (order_on t))
    (same t)

commit_on : (t : Transaction) → IsOnArcsOf t (complete_commit t).next
unfolding complete_commit
commit_on t = either t (not t.owes && all_done t.rows) _ (turn [] t) (record { key = refl; rows = λ q. refl }) (same t)

rollback_on : (t : Transaction) → IsOnArcsOf t (complete_rollback t).next
unfolding complete_rollback
rollback_on t = either t (not t.owes && all_rolled_back t.rows && (t.superior_rolled || not t.up)) _ (turn [] t) (record { key = refl; rows = λ q. refl }) (same t)

complete_on : (t : Transaction) → IsOnArcsOf t (complete t).next
complete_on t = go t.phase
  where
    go : (p : Phase) → IsOnArcsOf t (elim p as (λ _. Turn) [ Phase.Nil ↦ turn [] t | Phase.Active ↦ turn [] t | Phase.Ready ↦ turn [] t | Phase.Committing ↦ complete_commit t | Phase.Rolling ↦ complete_rollback t ]).next
    go Phase.Nil = same t
    go Phase.Active = same t
    go Phase.Ready = same t
    go Phase.Committing = commit_on t
    go Phase.Rolling = rollback_on t

begin_on : (asked : Bool) (t : Transaction) → IsOnArcsOf t (begin_rolling asked t).next
unfolding begin_rolling
begin_on asked t = record { key = refl; rows = λ q. refl }

roll_on : (asked : Bool) (t : Transaction) → IsOnArcsOf t (roll asked t).next
roll_on asked t = then_on t (begin_rolling asked t).next _ (begin_on asked t) (rollback_on (begin_rolling asked t).next)

ask_on : (t : Transaction) → IsOnArcsOf t (ask_commit t).next
unfolding ask_commit
ask_on t = record { key = refl; rows = λ q. prepared_has t.rows q }

leave_on : (t : Transaction) → IsOnArcsOf t (leave t).next
unfolding leave
leave_on t = record { key = refl; rows = λ q. refl }

count_on : (p : ℕ) (t : Transaction) → IsOnArcsOf t (count_branch p t).next
unfolding count_branch
count_on p t = row_on t p (λ r. record r { branch = record r.branch { counted = true } })

end_on : (p : ℕ) (r : Report) (t : Transaction) → IsOnArcsOf t (end_branch p r t).next
unfolding end_branch
end_on p r t = row_on t p (λ q. record q { branch = record q.branch { ended = true; report = r } })

left_on : (p : ℕ) (t : Transaction) → IsOnArcsOf t (branch_left p t).next
unfolding branch_left
left_on p t = row_on t p (λ r. record r { branch = record r.branch { left = true } })

lost_arc_on : (p : ℕ) (t : Transaction) → IsOnArcsOf t (lost_arc p t).next
unfolding lost_arc
lost_arc_on p t =
    let gone : Transaction = with_arc_lost t p in
    then_on t gone _ (lost_on t p)
    (either gone (is_active t.phase && (is_under_at t.key p || row_holds t.rows p is_waited_for)) (roll false gone) _ (roll_on false gone)
    (either gone (is_rolling t.phase) (complete_rollback gone) (turn [] gone) (rollback_on gone) (same gone)))

-- ---- events

by_user_on : (r : Request) (t : Transaction) → IsOnArcsOf t (by_user r t).next
by_user_on (Request.BeginDialogue a u) t = same t
by_user_on (Request.Accept u) t = same t
by_user_on Request.Reject t = same t
by_user_on (Request.EndDialogue p) t = same t
by_user_on (Request.UserData p xs) t = same t
by_user_on (Request.UError p) t = same t
by_user_on (Request.UAbort p) t = then_on t (with_arc_lost t p) _ (lost_on t p) (roll_on true (with_arc_lost t p))
by_user_on (Request.Grant p) t = same t
by_user_on (Request.AskControl p) t = same t
by_user_on (Request.Handshake p) t = same t
by_user_on (Request.Respond p) t = same t
by_user_on (Request.HandshakeGrant p) t = same t
by_user_on (Request.BeginTransaction p) t = same t
by_user_on (Request.DeferEnd p) t = row_on t p (λ r. record r { ends = true })
by_user_on (Request.DeferGrant p) t = same t
by_user_on (Request.Prepare p) t = row_on t p (λ r. record r { branch = record r.branch { prepared = true } })
by_user_on Request.Commit t = then_on t (ask_commit t).next _ (ask_on t) (settle_on (ask_commit t).next)
by_user_on Request.Done t =
    let u : Transaction = record t { owes = false } in
    then_on t u _ (record { key = refl; rows = λ q. refl }) (complete_on u)
by_user_on Request.Rollback t = roll_on true t
by_user_on Request.Unchanged t = leave_on t

superior_rolls_on : (t : Transaction) → IsOnArcsOf t (superior_rolls t).next
superior_rolls_on t =
    let u : Transaction = record t { superior_rolled = true } in
    then_on t u _ (record { key = refl; rows = λ q. refl }) (either u (is_rolling t.phase) (complete_rollback u) (roll false u) (rollback_on u) (roll_on false u))

takes_left_on : (p : ℕ) (t : Transaction) → IsOnArcsOf t (takes_left p t).next
takes_left_on p t =
    either t (is_active t.phase) _ _
    (then_on t (branch_left p t).next _ (left_on p t) (settle_on (branch_left p t).next))
    (then_on t (end_branch p Report.None t).next _ (end_on p Report.None t) (rollback_on (end_branch p Report.None t).next))

takes_on : (p : ℕ) (r : DialogueRecord) (t : Transaction) → IsOnArcsOf t (takes p r t).next
takes_on p DialogueRecord.EndDialogue t = same t
takes_on p (DialogueRecord.UserData xs) t = same t
takes_on p DialogueRecord.UError t = same t
takes_on p DialogueRecord.UAbort t = lost_arc_on p t
takes_on p DialogueRecord.Grant t = same t
takes_on p DialogueRecord.AskControl t = same t
takes_on p DialogueRecord.Handshake t = same t
takes_on p DialogueRecord.HandshakeGrant t = same t
takes_on p DialogueRecord.Response t = same t
takes_on p DialogueRecord.DeferEnd t = record { key = refl; rows = λ q. refl }
takes_on p DialogueRecord.DeferGrant t = same t
takes_on p (DialogueRecord.Begin a b h) t = same t
takes_on p DialogueRecord.Prepare t = record { key = refl; rows = λ q. refl }
takes_on p DialogueRecord.Ready t = then_on t (count_branch p t).next _ (count_on p t) (settle_on (count_branch p t).next)
takes_on p DialogueRecord.Commit t = order_on t
takes_on p (DialogueRecord.Done r) t = then_on t (end_branch p r t).next _ (end_on p r t) (commit_on (end_branch p r t).next)
takes_on p DialogueRecord.Rollback t = either t (is_under_at t.key p) (superior_rolls t) (roll false t) (superior_rolls_on t) (roll_on false t)
takes_on p (DialogueRecord.RolledBack r) t = then_on t (end_branch p r t).next _ (end_on p r t) (rollback_on (end_branch p r t).next)
takes_on p DialogueRecord.Left t = takes_left_on p t
takes_on p DialogueRecord.LeftEnd t =
    let u : Transaction = with_row t p (λ q. record q { live = false; ends = false }) in
    then_on t u _ (row_on t p (λ q. record q { live = false; ends = false })) (takes_left_on p u)

took_on : (s : Sight) (p : ℕ) (r : DialogueRecord) (t : Transaction) → IsOnArcsOf t (elim s as (λ _. Turn) [ Acts ↦ takes p r t | Nothing_happens ↦ turn [] t | Out_of_phase ↦ turn [] t ]).next
took_on Acts p r t = takes_on p r t
took_on Nothing_happens p r t = same t
took_on Out_of_phase p r t = same t

replied_on : (b : BranchId) (s : RecState) (t : Transaction) → IsOnArcsOf t (replied t b s).next
replied_on b RecState.Commit t = either t (is_ready t.phase) (order t) (turn [] t) (order_on t) (same t)
replied_on b (RecState.Done r) t = go (find_row_by_id t.rows b)
  where
    done : Row → Turn
    done row =
        let a : Turn = end_branch row.branch.peer.node r t in
        let e : Turn = complete_commit a.next in
        if is_open_in_commit t row.branch then record { rec = elim e.rec as (λ _. Option LogRec) [ None ↦ a.rec | Some x ↦ Some x ]; outs = a.outs ++ e.outs; completion = part_by_part a.completion e.completion; next = e.next } else turn [] t

    go : (o : Option Row) → IsOnArcsOf t (elim o as (λ _. Turn) [ None ↦ turn [] t | Some row ↦ done row ]).next
    go None = same t
    go (Some row) =
        let p : ℕ = row.branch.peer.node in
        either t (is_open_in_commit t row.branch) _ (turn [] t) (then_on t (end_branch p r t).next _ (end_on p r t) (commit_on (end_branch p r t).next)) (same t)
replied_on b RecState.Unknown t = either t (is_ready t.phase) (superior_rolls t) (turn [] t) (superior_rolls_on t) (same t)
replied_on b RecState.RetryLater t = same t

give_up_on : (p : ℕ) (t : Transaction) → IsOnArcsOf t (give_up p t).next
give_up_on p t = go (find_row t.rows p)
  where
    gone : Transaction
    gone = with_row t p (λ q. record q { branch = record q.branch { given_up = true }; live = false; ends = false })

    up : Row → Turn
    up r =
        let a : Turn = turn (if r.live then TxOut.Shut p ∷ [] else []) gone in
        let e : Turn = complete_commit a.next in
        record { rec = elim e.rec as (λ _. Option LogRec) [ None ↦ a.rec | Some x ↦ Some x ]; outs = a.outs ++ e.outs; completion = part_by_part a.completion e.completion; next = e.next }

    go : (o : Option Row) → IsOnArcsOf t (elim o as (λ _. Turn) [ None ↦ turn [] t | Some r ↦ up r ]).next
    go None = same t
    go (Some r) = then_on t gone _ (row_on t p (λ q. record q { branch = record q.branch { given_up = true }; live = false; ends = false })) (commit_on gone)

event_on : (e : TxEvent) (t : Transaction) → begins e ≡ 0 → IsOnArcsOf t (transacted e t).next
event_on (TxEvent.Begun []) t none = subst (λ (rs : List Row). IsOnArcsOf t (record t { rows = rs })) (sym (append-nil t.rows)) (same t)
event_on (TxEvent.Begun (c ∷ cs)) t none = absurd (omega (arith, none))
event_on (TxEvent.User r) t none = by_user_on r t
event_on (TxEvent.Took p r) t none = took_on (sight_of_tx t p r) p r t
event_on (TxEvent.Lost p) t none = lost_arc_on p t
event_on (TxEvent.Heur o) t none = record { key = refl; rows = λ q. refl }
event_on (TxEvent.GiveUp p) t none = give_up_on p t
event_on TxEvent.Ordered t none = order_on t
event_on (TxEvent.Reply b s) t none = replied_on b s t
event_on TxEvent.Retry t none = same t

-- an event that begins no branch
pub turned_on : (e : TxEvent) (t : Transaction) → begins e ≡ 0 → IsOnArcsOf t (standing (transacted e t).next)
turned_on e t none =
    let u : Transaction = (transacted e t).next in
    then_on t u _ (event_on e t none) (record { key = refl; rows = λ q. standing_has (is_rolling u.phase) u.rows q })
