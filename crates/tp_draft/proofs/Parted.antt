-- The outputs of a turn, cut where the indication of a completed commitment stands, are those around the Grants.
use Rattle.std.proofs.Common.{if◌then◌else◌, ◌≡◌, ℕ, Bool, true, false, refl, ap, sym, ◌∙◌, arith, Option, Some, None, List, [], ◌∷◌, ◌++◌, ◌&&◌, ◌||◌, not, take, drop, append-nil}
use Rattle.std.specs.Prelude.{suc, cond}
use Rattle.tp_names.specs.declared.identifiers.Aaid.{Aaid}
use Rattle.tp_names.specs.declared.identifiers.BranchId.{BranchId}
use Rattle.tp_names.specs.declared.outcome.Report.{Report}
use Rattle.tp_names.specs.Reports.{join}
use Rattle.tp_records.specs.declared.request.Request.{Request}
use Rattle.tp_records.specs.declared.indication.Indication.{Indication}
use Rattle.tp_records.specs.declared.dialogue.DialogueRecord.{DialogueRecord}
use Rattle.tp_records.specs.declared.peer.RecState.{RecState}
use Rattle.tp_model.specs.declared.arc.Phase.{Phase}
use Rattle.tp_model.specs.declared.transaction.TxEvent.{TxEvent}
use Rattle.tp_model.specs.declared.transaction.TxOut.{TxOut}
use Rattle.tp_model.specs.Parts.{Key, Root, Under}
use Rattle.tp_model.specs.Dialogues.{Sight, Acts, Nothing_happens, Out_of_phase, is_active, is_ready, is_rolling}
use Rattle.tp_model.specs.Transactions.{Row, Transaction, Completion, Turn, turn, and_then, before, logging, aaid_of, is_under, is_under_at, find_row, find_row_by_id, row_holds, is_waited_for, with_row, with_arc_lost, all_settled, all_done, all_rolled_back, own_damage, reports_of, log_ready, carry_up, carry_down, tell_report, forgets, done_up, ends_down, end_up, complete_commit, complete_rollback, begin_rolling, roll, order, settle, prepare_each, ask_commit, leave, count_branch, end_branch, branch_left, lost_arc, complete, by_user, superior_rolls, takes_left, takes, sight_of_tx, replied, ask_each, retried, give_up, is_open_in_commit, transacted, no_completion, part_by_part}
use Rattle.tp_model.specs.Node.{around_grants}
use Rattle.tp_draft.specs.Passage.{is_commit_complete, place_of_completion, around_completion}

-- ---- lists

abbrev tells_none : List TxOut → Bool
tells_none [] = true
tells_none (o ∷ outs) = not (is_commit_complete o) && tells_none outs

cut_later : (o : TxOut) (outs : List TxOut) → is_commit_complete o ≡ false → around_completion (o ∷ outs) ≡ (o ∷ (around_completion outs).0, (around_completion outs).1)
cut_later o outs i = ap (λ (b : Bool). let n = cond b 0 (suc (place_of_completion outs)) in let s : List TxOut × List TxOut = (take n (o ∷ outs), drop n (o ∷ outs)) in s) i

off : (a b : Bool) → (not a && b) ≡ true → a ≡ false
off a b h = grind (arith, h)

rest : (a b : Bool) → (not a && b) ≡ true → b ≡ true
rest a b h = grind (arith, h)

tells_append : (xs ys : List TxOut) → tells_none xs ≡ true → tells_none ys ≡ true → tells_none (xs ++ ys) ≡ true
tells_append [] ys h i = i
tells_append (x ∷ xs) ys h i = let more = tells_append xs ys (rest (is_commit_complete x) (tells_none xs) h) i in grind (arith, h, more)

-- after outputs that tell of none
cut_after : (xs ys : List TxOut) → tells_none xs ≡ true → around_completion (xs ++ ys) ≡ (xs ++ (around_completion ys).0, (around_completion ys).1)
cut_after [] ys h = refl
cut_after (x ∷ xs) ys h =
    cut_later x (xs ++ ys) (off (is_commit_complete x) (tells_none xs) h)
    ∙ ap (λ (s : List TxOut × List TxOut). let t : List TxOut × List TxOut = (x ∷ s.0, s.1) in t) (cut_after xs ys (rest (is_commit_complete x) (tells_none xs) h))

regroup : (xs ys zs ws : List TxOut) → xs ++ ys ++ zs ++ ws ≡ xs ++ (ys ++ zs ++ ws)
regroup [] ys zs ws = refl
regroup (x ∷ xs) ys zs ws = ap (λ (l : List TxOut). x ∷ l) (regroup xs ys zs ws)

before_all : (xs ys zs ws : List TxOut) → xs ++ (ys ++ zs ++ ws) ≡ xs ++ ys ++ zs ++ ws
before_all xs ys zs ws = sym (regroup xs ys zs ws)

-- ---- turns

abbrev IsParted : Turn → Type 0
IsParted a = around_completion a.outs ≡ around_grants a

plain : (t : Transaction) (outs : List TxOut) → tells_none outs ≡ true → IsParted (turn outs t)
plain t [] h = refl
plain t (o ∷ outs) h =
    cut_later o outs (off (is_commit_complete o) (tells_none outs) h)
    ∙ ap (λ (s : List TxOut × List TxOut). let u : List TxOut × List TxOut = (o ∷ s.0, s.1) in u) (plain t outs (rest (is_commit_complete o) (tells_none outs) h))

-- what tells of none is asked for first
first : (xs : List TxOut) (b : Turn) → tells_none xs ≡ true → IsParted b → IsParted (before xs b)
first xs b h i =
    let c : Completion = b.completion in
    cut_after xs b.outs h
    ∙ ap (λ (s : List TxOut × List TxOut). let u : List TxOut × List TxOut = (xs ++ s.0, s.1) in u) i
    ∙ ap (λ (l : List TxOut). let u : List TxOut × List TxOut = (l, c.told ++ c.ends_down ++ c.end_up) in u) (before_all xs c.before c.forgets c.done)

-- a rule that completes nothing, and tells of none that is complete
record IsPlain (a : Turn) : Type 0 where
  parts : a.completion ≡ no_completion a.outs
  tells : tells_none a.outs ≡ true

abbrev parts_of : Completion → List TxOut × List TxOut
parts_of c = (c.before ++ c.forgets ++ c.done, c.told ++ c.ends_down ++ c.end_up)

joins : (a : Turn) (f : Transaction → Turn) → IsPlain a → ((t : Transaction) → IsParted (f t)) → IsParted (and_then a f)
joins a f is h =
    let b : Turn = f a.next in
    first a.outs b is.tells (h a.next) ∙ sym (ap (λ (c : Completion). parts_of (part_by_part c b.completion)) is.parts)

either : (b : Bool) (x y : Turn) → IsParted x → IsParted y → IsParted (if b then x else y)
either true x y h i = h
either false x y h i = i

-- ---- lists that rules write

up_none : (t : Transaction) (r : DialogueRecord) → tells_none (carry_up t r) ≡ true
up_none t r = go t.key t.up
  where
    go : (k : Key) (up : Bool) → tells_none (carry_up (record t { key = k; up = up }) r) ≡ true
    go (Root a) up = refl
    go (Under a b s) true = refl
    go (Under a b s) false = refl

down_none : (rows : List Row) (r : DialogueRecord) → tells_none (carry_down rows r) ≡ true
down_none [] r = refl
down_none (x ∷ rows) r = grind (arith, down_none rows r)

prepare_none : (rows : List Row) → tells_none (prepare_each rows) ≡ true
prepare_none [] = refl
prepare_none (r ∷ rows) = grind (arith, prepare_none rows)

report_none : (p : ℕ) (r : Report) → tells_none (tell_report p r) ≡ true
report_none p r = grind arith

ask_none : (a : Aaid) (rows : List Row) → tells_none (ask_each a rows) ≡ true
ask_none a [] = refl
ask_none a (r ∷ rows) = grind (arith, ask_none a rows)

forgets_none : (a : Aaid) (rows : List Row) → tells_none (forgets a rows) ≡ true
forgets_none a [] = refl
forgets_none a (r ∷ rows) = grind (arith, forgets_none a rows)

done_none : (t : Transaction) (r : Report) → tells_none (done_up t r) ≡ true
done_none t r = go t.key t.up
  where
    go : (k : Key) (up : Bool) → tells_none (done_up (record t { key = k; up = up }) r) ≡ true
    go (Root a) up = refl
    go (Under a b s) true = refl
    go (Under a b s) false = refl

end_none : (t : Transaction) → tells_none (end_up t) ≡ true
end_none t = go t.key t.up_ends
  where
    go : (k : Key) (ends : Bool) → tells_none (end_up (record t { key = k; up_ends = ends })) ≡ true
    go (Root a) ends = refl
    go (Under a b s) true = refl
    go (Under a b s) false = refl

leave_none : (t : Transaction) (b : Bool) → tells_none (if b then carry_up t DialogueRecord.LeftEnd ++ end_up t else carry_up t DialogueRecord.Left) ≡ true
leave_none t true = tells_append (carry_up t DialogueRecord.LeftEnd) (end_up t) (up_none t DialogueRecord.LeftEnd) (end_none t)
leave_none t false = up_none t DialogueRecord.Left

retried_none : (t : Transaction) → tells_none (retried t) ≡ true
retried_none t = go t.phase t.key t.owes
  where
    go : (p : Phase) (k : Key) (owes : Bool) → tells_none (retried (record t { phase = p; key = k; owes = owes })) ≡ true
    go Phase.Nil k owes = refl
    go Phase.Active k owes = refl
    go Phase.Ready (Root a) owes = refl
    go Phase.Ready (Under a b s) owes = refl
    go Phase.Committing (Root a) true = ask_none a t.rows
    go Phase.Committing (Root a) false = ask_none a t.rows
    go Phase.Committing (Under a b s) true = ask_none a t.rows
    go Phase.Committing (Under a b s) false = ask_none a t.rows
    go Phase.Rolling k owes = refl

-- ---- rules

parted_commit : (t : Transaction) → IsParted (complete_commit t)
unfolding complete_commit
parted_commit t = either (not t.owes && all_done t.rows) _ (turn [] t) (over (join (own_damage t.decision) (reports_of t.rows))) refl
  where
    over : (r : Report) → around_completion (forgets (aaid_of t.key) t.rows ++ done_up t r ++ (TxOut.Tell (Indication.CommitComplete r) ∷ []) ++ ends_down t.rows ++ end_up t)
        ≡ (forgets (aaid_of t.key) t.rows ++ done_up t r, (TxOut.Tell (Indication.CommitComplete r) ∷ []) ++ ends_down t.rows ++ end_up t)
    over r =
        let xs : List TxOut = forgets (aaid_of t.key) t.rows ++ done_up t r in
        let ys : List TxOut = ends_down t.rows ++ end_up t in
        ap around_completion (regroup xs (TxOut.Tell (Indication.CommitComplete r) ∷ []) (ends_down t.rows) (end_up t))
        ∙ cut_after xs (TxOut.Tell (Indication.CommitComplete r) ∷ ys) (tells_append (forgets (aaid_of t.key) t.rows) (done_up t r) (forgets_none (aaid_of t.key) t.rows) (done_none t r))
        ∙ ap (λ (l : List TxOut). let u : List TxOut × List TxOut = (l, TxOut.Tell (Indication.CommitComplete r) ∷ ys) in u) (append-nil xs)

parted_rollback : (t : Transaction) → IsParted (complete_rollback t)
unfolding complete_rollback
parted_rollback t =
    let r : Report = join t.own (reports_of t.rows) in
    either (not t.owes && all_rolled_back t.rows && (t.superior_rolled || not t.up)) _ (turn [] t)
    (plain t (carry_up t (DialogueRecord.RolledBack r) ++ (TxOut.Tell (Indication.RollbackComplete r) ∷ [])) (tells_append (carry_up t (DialogueRecord.RolledBack r)) (TxOut.Tell (Indication.RollbackComplete r) ∷ []) (up_none t (DialogueRecord.RolledBack r)) refl)) refl

plain_rolling : (asked : Bool) (t : Transaction) → IsPlain (begin_rolling asked t)
unfolding begin_rolling
plain_rolling asked t = record { parts = refl; tells = go asked }
  where
    go : (b : Bool) → tells_none ((if b then [] else TxOut.Tell Indication.Rollback ∷ []) ++ carry_up t DialogueRecord.Rollback ++ carry_down t.rows DialogueRecord.Rollback) ≡ true
    go true = tells_append (carry_up t DialogueRecord.Rollback) (carry_down t.rows DialogueRecord.Rollback) (up_none t DialogueRecord.Rollback) (down_none t.rows DialogueRecord.Rollback)
    go false = tells_append (carry_up t DialogueRecord.Rollback) (carry_down t.rows DialogueRecord.Rollback) (up_none t DialogueRecord.Rollback) (down_none t.rows DialogueRecord.Rollback)

parted_roll : (asked : Bool) (t : Transaction) → IsParted (roll asked t)
parted_roll asked t = joins (begin_rolling asked t) complete_rollback (plain_rolling asked t) parted_rollback

parted_order : (t : Transaction) → IsParted (order t)
unfolding order
parted_order t =
    plain t (carry_down t.rows DialogueRecord.Commit ++ (TxOut.Tell Indication.Commit ∷ [])) (tells_append (carry_down t.rows DialogueRecord.Commit) (TxOut.Tell Indication.Commit ∷ []) (down_none t.rows DialogueRecord.Commit) refl)

parted_settle : (t : Transaction) → IsParted (settle t)
unfolding settle
parted_settle t =
    either (is_active t.phase && t.asked && all_settled t.rows) _ (turn [] t)
    (either (is_under t.key) (logging (log_ready t) (turn (carry_up t DialogueRecord.Ready) (record t { phase = Phase.Ready }))) (order t) (plain t (carry_up t DialogueRecord.Ready) (up_none t DialogueRecord.Ready)) (parted_order t)) refl

plain_asking : (t : Transaction) → IsPlain (ask_commit t)
unfolding ask_commit
plain_asking t = record { parts = refl; tells = prepare_none t.rows }

parted_leave : (t : Transaction) → IsParted (leave t)
unfolding leave
parted_leave t = plain t (if t.up_ends then carry_up t DialogueRecord.LeftEnd ++ end_up t else carry_up t DialogueRecord.Left) (leave_none t t.up_ends)

plain_count : (p : ℕ) (t : Transaction) → IsPlain (count_branch p t)
unfolding count_branch
plain_count p t = record { parts = refl; tells = refl }

plain_end : (p : ℕ) (r : Report) (t : Transaction) → IsPlain (end_branch p r t)
unfolding end_branch
plain_end p r t = record { parts = refl; tells = report_none p r }

plain_left : (p : ℕ) (t : Transaction) → IsPlain (branch_left p t)
unfolding branch_left
plain_left p t = record { parts = refl; tells = refl }

parted_lost : (p : ℕ) (t : Transaction) → IsParted (lost_arc p t)
unfolding lost_arc
parted_lost p t =
    let gone : Transaction = with_arc_lost t p in
    either (is_active t.phase && (is_under_at t.key p || row_holds t.rows p is_waited_for)) (roll false gone) _ (parted_roll false gone) (either (is_rolling t.phase) (complete_rollback gone) (turn [] gone) (parted_rollback gone) refl)

parted_complete : (t : Transaction) → IsParted (complete t)
parted_complete t = go t.phase
  where
    go : (p : Phase) → IsParted (elim p as (λ _. Turn) [ Phase.Nil ↦ turn [] t | Phase.Active ↦ turn [] t | Phase.Ready ↦ turn [] t | Phase.Committing ↦ complete_commit t | Phase.Rolling ↦ complete_rollback t ])
    go Phase.Committing = parted_commit t
    go Phase.Rolling = parted_rollback t
    go _ = refl

-- ---- events

parted_user : (r : Request) (t : Transaction) → IsParted (by_user r t)
parted_user (Request.UAbort p) t = first (TxOut.Carry p DialogueRecord.UAbort ∷ TxOut.Close p ∷ []) (roll true (with_arc_lost t p)) refl (parted_roll true (with_arc_lost t p))
parted_user Request.Commit t = joins (ask_commit t) settle (plain_asking t) parted_settle
parted_user Request.Done t = parted_complete (record t { owes = false })
parted_user Request.Rollback t = parted_roll true t
parted_user Request.Unchanged t = parted_leave t
parted_user _ t = refl

parted_superior : (t : Transaction) → IsParted (superior_rolls t)
parted_superior t = let noted : Transaction = record t { superior_rolled = true } in either (is_rolling t.phase) (complete_rollback noted) (roll false noted) (parted_rollback noted) (parted_roll false noted)

parted_left : (p : ℕ) (t : Transaction) → IsParted (takes_left p t)
parted_left p t = either (is_active t.phase) _ _ (joins (branch_left p t) settle (plain_left p t) parted_settle) (joins (end_branch p Report.None t) complete_rollback (plain_end p Report.None t) parted_rollback)

parted_takes : (p : ℕ) (r : DialogueRecord) (t : Transaction) → IsParted (takes p r t)
parted_takes p DialogueRecord.UAbort t = first (TxOut.Tell (Indication.UAbort p) ∷ []) (lost_arc p t) refl (parted_lost p t)
parted_takes p DialogueRecord.Ready t = joins (count_branch p t) settle (plain_count p t) parted_settle
parted_takes p DialogueRecord.Commit t = parted_order t
parted_takes p (DialogueRecord.Done r) t = joins (end_branch p r t) complete_commit (plain_end p r t) parted_commit
parted_takes p DialogueRecord.Rollback t = either (is_under_at t.key p) (superior_rolls t) (roll false t) (parted_superior t) (parted_roll false t)
parted_takes p (DialogueRecord.RolledBack r) t = joins (end_branch p r t) complete_rollback (plain_end p r t) parted_rollback
parted_takes p DialogueRecord.Left t = parted_left p t
parted_takes p DialogueRecord.LeftEnd t = let u : Transaction = with_row t p (λ r. record r { live = false; ends = false }) in first (TxOut.Close p ∷ []) (takes_left p u) refl (parted_left p u)
parted_takes p _ t = refl

parted_reply : (t : Transaction) (b : BranchId) (s : RecState) → IsParted (replied t b s)
parted_reply t b RecState.Commit = either (is_ready t.phase) (order t) (turn [] t) (parted_order t) refl
parted_reply t b (RecState.Done r) = go (find_row_by_id t.rows b)
  where
    go : (o : Option Row) → IsParted (elim o as (λ _. Turn) [ None ↦ turn [] t | Some row ↦ if is_open_in_commit t row.branch then and_then (end_branch row.branch.peer.node r t) complete_commit else turn [] t ])
    go None = refl
    go (Some row) = either (is_open_in_commit t row.branch) _ (turn [] t) (joins (end_branch row.branch.peer.node r t) complete_commit (plain_end row.branch.peer.node r t) parted_commit) refl
parted_reply t b RecState.Unknown = either (is_ready t.phase) (superior_rolls t) (turn [] t) (parted_superior t) refl
parted_reply t b RecState.RetryLater = refl

parted_give_up : (p : ℕ) (t : Transaction) → IsParted (give_up p t)
parted_give_up p t = go (find_row t.rows p)
  where
    shut : Bool → Turn
    shut live = turn (if live then TxOut.Shut p ∷ [] else []) (with_row t p (λ q. record q { branch = record q.branch { given_up = true }; live = false; ends = false }))

    none : (live : Bool) → IsPlain (shut live)
    none true = record { parts = refl; tells = refl }
    none false = record { parts = refl; tells = refl }

    go : (o : Option Row) → IsParted (elim o as (λ _. Turn) [ None ↦ turn [] t | Some r ↦ and_then (shut r.live) complete_commit ])
    go None = refl
    go (Some r) = joins (shut r.live) complete_commit (none r.live) parted_commit

pub parted_turn : (e : TxEvent) (t : Transaction) → around_completion (transacted e t).outs ≡ around_grants (transacted e t)
parted_turn (TxEvent.Begun arcs) t = refl
parted_turn (TxEvent.User r) t = parted_user r t
parted_turn (TxEvent.Took p r) t = go (sight_of_tx t p r)
  where
    go : (g : Sight) → IsParted (elim g as (λ _. Turn) [ Acts ↦ takes p r t | Nothing_happens ↦ turn [] t | Out_of_phase ↦ turn [] t ])
    go Acts = parted_takes p r t
    go Nothing_happens = refl
    go Out_of_phase = refl
parted_turn (TxEvent.Lost p) t = first (TxOut.Tell (Indication.PAbort p) ∷ []) (lost_arc p t) refl (parted_lost p t)
parted_turn (TxEvent.Heur o) t = refl
parted_turn (TxEvent.GiveUp p) t = parted_give_up p t
parted_turn TxEvent.Ordered t = parted_order t
parted_turn (TxEvent.Reply b s) t = parted_reply t b s
parted_turn TxEvent.Retry t = plain t (retried t) (retried_none t)
