-- The two parts of what a turn asks for, around the Grants of a completed commitment, are the whole of it.
use Rattle.std.proofs.Common.{if◌then◌else◌, ◌≡◌, ℕ, Bool, true, false, refl, ap, Option, Some, List, [], ◌∷◌, ◌++◌, ◌&&◌, ◌||◌, not, None, ◌∙◌}
use Rattle.tp_names.specs.declared.identifiers.BranchId.{BranchId}
use Rattle.tp_names.specs.declared.outcome.Report.{Report}
use Rattle.tp_names.specs.Reports.{join}
use Rattle.tp_records.specs.declared.request.Request.{Request}
use Rattle.tp_records.specs.declared.dialogue.DialogueRecord.{DialogueRecord}
use Rattle.tp_records.specs.declared.peer.RecState.{RecState}
use Rattle.tp_model.specs.declared.arc.Phase.{Phase}
use Rattle.tp_model.specs.declared.transaction.TxEvent.{TxEvent}
use Rattle.tp_model.specs.declared.transaction.TxOut.{TxOut}
use Rattle.tp_model.specs.Dialogues.{Sight, Acts, Nothing_happens, Out_of_phase, is_active, is_ready, is_rolling}
use Rattle.tp_model.specs.Transactions.{Row, Transaction, Completion, Turn, turn, after, and_then, is_under, is_under_at, find_row, find_row_by_id, row_holds, is_waited_for, with_row, with_arc_lost, all_settled, all_done, all_rolled_back, complete_commit, complete_rollback, begin_rolling, roll, order, settle, ask_commit, leave, count_branch, end_branch, branch_left, lost_arc, complete, by_user, superior_rolls, takes_left, takes, sight_of_tx, replied, give_up, is_open_in_commit, transacted, no_completion, completion_of, own_damage, reports_of, carry_up, carry_down, end_up, retried, part_by_part}
use Rattle.tp_model.specs.Node.{around_grants}
use Rattle.tp_steps.specs.Turns.{vote}
use Rattle.tp_records.specs.declared.indication.Indication.{Indication}

abbrev pub IsWhole : Turn → Type 0
IsWhole a = (around_grants a).0 ++ (around_grants a).1 ≡ a.outs

-- ---- lists

abbrev whole : Completion → List TxOut
whole c = (c.before ++ c.forgets ++ c.done) ++ (c.told ++ c.ends_down ++ c.end_up)

plain : (outs : List TxOut) → whole (no_completion outs) ≡ outs
plain [] = refl
plain (o ∷ outs) = ap (λ (l : List TxOut). o ∷ l) (plain outs)

parts : (xs ys zs ws : List TxOut) → xs ++ (ys ++ zs ++ ws) ≡ xs ++ ys ++ zs ++ ws
parts [] ys zs ws = refl
parts (x ∷ xs) ys zs ws = ap (λ (l : List TxOut). x ∷ l) (parts xs ys zs ws)

-- what is asked for first
first : (xs : List TxOut) (c : Completion) (outs : List TxOut) → whole c ≡ outs → whole (after xs c) ≡ xs ++ outs
first [] c outs h = h
first (x ∷ xs) c outs h = ap (λ (l : List TxOut). x ∷ l) (first xs c outs h)

-- a rule that completes nothing
abbrev IsPlain : Turn → Type 0
IsPlain a = a.completion ≡ no_completion a.outs

joins : (a : Turn) (f : Transaction → Turn) → IsPlain a → ((t : Transaction) → IsWhole (f t)) → IsWhole (and_then a f)
joins a f is h =
    let b : Turn = f a.next in
    ap (λ (c : Completion). whole (part_by_part c b.completion)) is ∙ first a.outs b.completion b.outs (h a.next)

either : (b : Bool) (x y : Turn) → IsWhole x → IsWhole y → IsWhole (if b then x else y)
either true x y h i = h
either false x y h i = i

-- ---- rules

whole_commit : (t : Transaction) → IsWhole (complete_commit t)
unfolding complete_commit
whole_commit t =
    let c : Completion = completion_of t (join (own_damage t.decision) (reports_of t.rows)) in
    either (not t.owes && all_done t.rows) _ (turn [] t) (parts (c.forgets ++ c.done) c.told c.ends_down c.end_up) refl

whole_rollback : (t : Transaction) → IsWhole (complete_rollback t)
unfolding complete_rollback
whole_rollback t =
    let r : Report = join t.own (reports_of t.rows) in
    either (not t.owes && all_rolled_back t.rows && (t.superior_rolled || not t.up)) _ (turn [] t) (plain (carry_up t (DialogueRecord.RolledBack r) ++ (TxOut.Tell (Indication.RollbackComplete r) ∷ []))) refl

rolling_plain : (asked : Bool) (t : Transaction) → IsPlain (begin_rolling asked t)
unfolding begin_rolling
rolling_plain asked t = refl

asking_plain : (t : Transaction) → IsPlain (ask_commit t)
unfolding ask_commit
asking_plain t = refl

count_plain : (p : ℕ) (t : Transaction) → IsPlain (count_branch p t)
unfolding count_branch
count_plain p t = refl

end_plain : (p : ℕ) (r : Report) (t : Transaction) → IsPlain (end_branch p r t)
unfolding end_branch
end_plain p r t = refl

left_plain : (p : ℕ) (t : Transaction) → IsPlain (branch_left p t)
unfolding branch_left
left_plain p t = refl

whole_roll : (asked : Bool) (t : Transaction) → IsWhole (roll asked t)
whole_roll asked t = joins (begin_rolling asked t) complete_rollback (rolling_plain asked t) whole_rollback

whole_order : (t : Transaction) → IsWhole (order t)
unfolding order
whole_order t = plain (carry_down t.rows DialogueRecord.Commit ++ (TxOut.Tell Indication.Commit ∷ []))

whole_settle : (t : Transaction) → IsWhole (settle t)
unfolding settle
whole_settle t = either (is_active t.phase && t.asked && all_settled t.rows) _ (turn [] t) (either (is_under t.key) (vote t) (order t) (plain (carry_up t DialogueRecord.Ready)) (whole_order t)) refl

whole_leave : (t : Transaction) → IsWhole (leave t)
unfolding leave
whole_leave t = plain (if t.up_ends then carry_up t DialogueRecord.LeftEnd ++ end_up t else carry_up t DialogueRecord.Left)

whole_lost : (p : ℕ) (t : Transaction) → IsWhole (lost_arc p t)
unfolding lost_arc
whole_lost p t =
    let gone : Transaction = with_arc_lost t p in
    either (is_active t.phase && (is_under_at t.key p || row_holds t.rows p is_waited_for)) (roll false gone) _ (whole_roll false gone) (either (is_rolling t.phase) (complete_rollback gone) (turn [] gone) (whole_rollback gone) refl)

whole_complete : (t : Transaction) → IsWhole (complete t)
whole_complete t = go t.phase
  where
    go : (p : Phase) → IsWhole (elim p as (λ _. Turn) [ Phase.Nil ↦ turn [] t | Phase.Active ↦ turn [] t | Phase.Ready ↦ turn [] t | Phase.Committing ↦ complete_commit t | Phase.Rolling ↦ complete_rollback t ])
    go Phase.Committing = whole_commit t
    go Phase.Rolling = whole_rollback t
    go _ = refl

-- ---- events

whole_user : (r : Request) (t : Transaction) → IsWhole (by_user r t)
whole_user (Request.UAbort p) t = first (TxOut.Carry p DialogueRecord.UAbort ∷ TxOut.Close p ∷ []) (roll true (with_arc_lost t p)).completion (roll true (with_arc_lost t p)).outs (whole_roll true (with_arc_lost t p))
whole_user Request.Commit t = joins (ask_commit t) settle (asking_plain t) whole_settle
whole_user Request.Done t = whole_complete (record t { owes = false })
whole_user Request.Rollback t = whole_roll true t
whole_user Request.Unchanged t = whole_leave t
whole_user _ t = refl

whole_superior : (t : Transaction) → IsWhole (superior_rolls t)
whole_superior t = let noted : Transaction = record t { superior_rolled = true } in either (is_rolling t.phase) (complete_rollback noted) (roll false noted) (whole_rollback noted) (whole_roll false noted)

whole_left : (p : ℕ) (t : Transaction) → IsWhole (takes_left p t)
whole_left p t = either (is_active t.phase) _ _ (joins (branch_left p t) settle (left_plain p t) whole_settle) (joins (end_branch p Report.None t) complete_rollback (end_plain p Report.None t) whole_rollback)

whole_takes : (p : ℕ) (r : DialogueRecord) (t : Transaction) → IsWhole (takes p r t)
whole_takes p DialogueRecord.UAbort t = first (TxOut.Tell (Indication.UAbort p) ∷ []) (lost_arc p t).completion (lost_arc p t).outs (whole_lost p t)
whole_takes p DialogueRecord.Ready t = joins (count_branch p t) settle (count_plain p t) whole_settle
whole_takes p DialogueRecord.Commit t = whole_order t
whole_takes p (DialogueRecord.Done r) t = joins (end_branch p r t) complete_commit (end_plain p r t) whole_commit
whole_takes p DialogueRecord.Rollback t = either (is_under_at t.key p) (superior_rolls t) (roll false t) (whole_superior t) (whole_roll false t)
whole_takes p (DialogueRecord.RolledBack r) t = joins (end_branch p r t) complete_rollback (end_plain p r t) whole_rollback
whole_takes p DialogueRecord.Left t = whole_left p t
whole_takes p DialogueRecord.LeftEnd t = let u : Transaction = with_row t p (λ r. record r { live = false; ends = false }) in first (TxOut.Close p ∷ []) (takes_left p u).completion (takes_left p u).outs (whole_left p u)
whole_takes p _ t = refl

whole_reply : (t : Transaction) (b : BranchId) (s : RecState) → IsWhole (replied t b s)
whole_reply t b RecState.Commit = either (is_ready t.phase) (order t) (turn [] t) (whole_order t) refl
whole_reply t b (RecState.Done r) = go (find_row_by_id t.rows b)
  where
    go : (o : Option Row) → IsWhole (elim o as (λ _. Turn) [ None ↦ turn [] t | Some row ↦ if is_open_in_commit t row.branch then and_then (end_branch row.branch.peer.node r t) complete_commit else turn [] t ])
    go None = refl
    go (Some row) = either (is_open_in_commit t row.branch) _ (turn [] t) (joins (end_branch row.branch.peer.node r t) complete_commit (end_plain row.branch.peer.node r t) whole_commit) refl
whole_reply t b RecState.Unknown = either (is_ready t.phase) (superior_rolls t) (turn [] t) (whole_superior t) refl
whole_reply t b RecState.RetryLater = refl

whole_give_up : (p : ℕ) (t : Transaction) → IsWhole (give_up p t)
whole_give_up p t = go (find_row t.rows p)
  where
    shut : Row → Turn
    shut r = turn (if r.live then TxOut.Shut p ∷ [] else []) (with_row t p (λ q. record q { branch = record q.branch { given_up = true }; live = false; ends = false }))

    go : (o : Option Row) → IsWhole (elim o as (λ _. Turn) [ None ↦ turn [] t | Some r ↦ and_then (shut r) complete_commit ])
    go None = refl
    go (Some r) = joins (shut r) complete_commit refl whole_commit

pub whole_turn : (e : TxEvent) (t : Transaction) → IsWhole (transacted e t)
whole_turn (TxEvent.Begun arcs) t = refl
whole_turn (TxEvent.User r) t = whole_user r t
whole_turn (TxEvent.Took p r) t = go (sight_of_tx t p r)
  where
    go : (g : Sight) → IsWhole (elim g as (λ _. Turn) [ Acts ↦ takes p r t | Nothing_happens ↦ turn [] t | Out_of_phase ↦ turn [] t ])
    go Acts = whole_takes p r t
    go Nothing_happens = refl
    go Out_of_phase = refl
whole_turn (TxEvent.Lost p) t = first (TxOut.Tell (Indication.PAbort p) ∷ []) (lost_arc p t).completion (lost_arc p t).outs (whole_lost p t)
whole_turn (TxEvent.Heur o) t = refl
whole_turn (TxEvent.GiveUp p) t = whole_give_up p t
whole_turn TxEvent.Ordered t = whole_order t
whole_turn (TxEvent.Reply b s) t = whole_reply t b s
whole_turn TxEvent.Retry t = plain (retried t)
