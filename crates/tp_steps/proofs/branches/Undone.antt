-- No event of a transaction leaves undone what it may do: by its events, since it is a matter of the rule that stands last in each.
use Rattle.std.proofs.Common.{if◌then◌else◌, ◌≡◌, ℕ, Bool, true, false, refl, ap, sym, subst, ◌∙◌, arith, Option, Some, None, List, [], ◌∷◌, ◌&&◌, ◌||◌, ◌==◌, not}
use Rattle.std.proofs.lemmas.Bool.Decides.{nat_tests}
use Rattle.tp_names.specs.declared.identifiers.BranchId.{BranchId}
use Rattle.tp_names.specs.declared.outcome.Report.{Report}
use Rattle.tp_records.specs.declared.request.Request.{Request}
use Rattle.tp_records.specs.declared.indication.Indication.{Indication}
use Rattle.tp_records.specs.declared.dialogue.DialogueRecord.{DialogueRecord}
use Rattle.tp_records.specs.declared.peer.RecState.{RecState}
use Rattle.tp_model.specs.declared.arc.Phase.{Phase}
use Rattle.tp_model.specs.declared.transaction.TxEvent.{TxEvent}
use Rattle.tp_model.specs.declared.transaction.TxOut.{TxOut}
use Rattle.tp_model.specs.Dialogues.{is_nil, is_active, is_ready, is_committing, is_rolling, Sight, Acts, Nothing_happens, Out_of_phase}
use Rattle.tp_model.specs.Transactions.{Row, Transaction, Turn, turn, and_then, is_under, is_under_at, find_row, find_row_by_id, row_holds, put_row, with_row, with_arc_lost, is_waited_for, all_settled, all_done, all_rolled_back, complete_commit, complete_rollback, begin_rolling, roll, order, settle, ask_commit, leave, count_branch, end_branch, branch_left, lost_arc, complete, superior_rolls, takes_left, takes, by_user, replied, give_up, refused_user, refused_tx, sight_of_tx, is_open_in_commit, transacted}
use Rattle.tp_steps.specs.Turns.{row_dead}
use Rattle.tp_steps.specs.Moves.{IsPut}
use Rattle.tp_steps.specs.Undone.{may_settle, may_complete, may_roll_back, IsPromptTurn}
use Rattle.tp_steps.proofs.words.Fair.{row_phase}
use Rattle.tp_steps.proofs.every.EveryTurn.{phase_end, rolling_now, not_nil}

-- nothing is left undone
record IsPrompt (u : Transaction) : Type 0 where
  settles : may_settle u ≡ false
  completes : may_complete u ≡ false
  rolls_back : may_roll_back u ≡ false

-- as much as before
record IsAlike (s u : Transaction) : Type 0 where
  settles : may_settle u ≡ may_settle s
  completes : may_complete u ≡ may_complete s
  rolls_back : may_roll_back u ≡ may_roll_back s

prompt_turn : (s : Transaction) (a : Turn) → IsPrompt a.next → IsPromptTurn s a
prompt_turn s a k = record { settles = λ h. k.settles; completes = λ h. k.completes; rolls_back = λ h. k.rolls_back }

alike_turn : (s : Transaction) (a : Turn) → IsAlike s a.next → IsPromptTurn s a
alike_turn s a k = record { settles = λ h. k.settles ∙ h; completes = λ h. k.completes ∙ h; rolls_back = λ h. k.rolls_back ∙ h }

still_turn : (s : Transaction) (outs : List TxOut) → IsPromptTurn s (turn outs s)
still_turn s outs = record { settles = λ h. h; completes = λ h. h; rolls_back = λ h. h }

-- ---- phases in which nothing can be undone

prompt_over : (u : Transaction) → u.phase ≡ Phase.Nil → IsPrompt u
prompt_over u h = record { settles = grind (arith, h); completes = grind (arith, h); rolls_back = grind (arith, h) }

prompt_ready : (u : Transaction) → u.phase ≡ Phase.Ready → IsPrompt u
prompt_ready u h = record { settles = grind (arith, h); completes = grind (arith, h); rolls_back = grind (arith, h) }

prompt_active : (u : Transaction) → is_active u.phase ≡ true → (is_active u.phase && u.asked && all_settled u.rows) ≡ false → IsPrompt u
prompt_active u a h = record { settles = h; completes = grind (arith, a); rolls_back = grind (arith, a) }

prompt_committing : (u : Transaction) → is_committing u.phase ≡ true → (not u.owes && all_done u.rows) ≡ false → IsPrompt u
prompt_committing u a h = record { settles = grind (arith, a); completes = grind (arith, a, h); rolls_back = grind (arith, a) }

prompt_rolling : (u : Transaction) → is_rolling u.phase ≡ true → (not u.owes && all_rolled_back u.rows && (u.superior_rolled || not u.up)) ≡ false → IsPrompt u
prompt_rolling u a h = record { settles = grind (arith, a); completes = grind (arith, a); rolls_back = grind (arith, a, h) }

-- ---- the rules that stand last

prompt_order : (t : Transaction) → IsPrompt (order t).next
unfolding order
prompt_order t = record { settles = refl; completes = refl; rolls_back = refl }

prompt_leave : (t : Transaction) → IsPrompt (leave t).next
unfolding leave
prompt_leave t = record { settles = refl; completes = refl; rolls_back = refl }

prompt_commit : (t : Transaction) → is_committing t.phase ≡ true → IsPrompt (complete_commit t).next
unfolding complete_commit
prompt_commit t c = go (not t.owes && all_done t.rows) refl
  where
    go : (b : Bool) → (not t.owes && all_done t.rows) ≡ b → IsPrompt (complete_commit t).next
    go true i = let over : (complete_commit t).next.phase ≡ Phase.Nil = grind (arith, i) in prompt_over (complete_commit t).next over
    go false i = let same : (complete_commit t).next ≡ t = grind (arith, i) in subst IsPrompt (sym same) (prompt_committing t c i)

prompt_rollback : (t : Transaction) → is_rolling t.phase ≡ true → IsPrompt (complete_rollback t).next
unfolding complete_rollback
prompt_rollback t c = go (not t.owes && all_rolled_back t.rows && (t.superior_rolled || not t.up)) refl
  where
    go : (b : Bool) → (not t.owes && all_rolled_back t.rows && (t.superior_rolled || not t.up)) ≡ b → IsPrompt (complete_rollback t).next
    go true i = let over : (complete_rollback t).next.phase ≡ Phase.Nil = grind (arith, i) in prompt_over (complete_rollback t).next over
    go false i = let same : (complete_rollback t).next ≡ t = grind (arith, i) in subst IsPrompt (sym same) (prompt_rolling t c i)

prompt_roll : (asked : Bool) (t : Transaction) → IsPrompt (roll asked t).next
prompt_roll asked t = prompt_rollback (begin_rolling asked t).next (rolling_now asked t)

prompt_settle : (t : Transaction) → is_active t.phase ≡ true → IsPrompt (settle t).next
unfolding settle
prompt_settle t act = go (is_active t.phase && t.asked && all_settled t.rows) (is_under t.key) refl refl
  where
    go : (a b : Bool) → (is_active t.phase && t.asked && all_settled t.rows) ≡ a → is_under t.key ≡ b → IsPrompt (settle t).next
    go false b i j = let same : (settle t).next ≡ t = grind (arith, i) in subst IsPrompt (sym same) (prompt_active t act i)
    go true true i j = let ready : (settle t).next.phase ≡ Phase.Ready = grind (arith, i, j) in prompt_ready (settle t).next ready
    go true false i j = let same : (settle t).next ≡ (order t).next = grind (arith, i, j) in subst IsPrompt (sym same) (prompt_order t)

prompt_superior : (t : Transaction) → IsPrompt (superior_rolls t).next
prompt_superior t = go (is_rolling t.phase) refl
  where
    u : Transaction
    u = record t { superior_rolled = true }

    go : (b : Bool) → is_rolling t.phase ≡ b → IsPrompt (if b then complete_rollback u else roll false u).next
    go true i = prompt_rollback u i
    go false i = prompt_roll false u

-- ---- rows that change in what no rule asks for

abbrev all_of : (Row → Bool) → List Row → Bool
all_of g [] = true
all_of g (r ∷ rs) = g r && all_of g rs

all_put : (g : Row → Bool) (rows : List Row) (p : ℕ) (r n : Row) → find_row rows p ≡ Some r → n.branch.peer.node ≡ r.branch.peer.node → g n ≡ g r → all_of g (put_row rows n) ≡ all_of g rows
all_put g [] p r n found peer same = refl
all_put g (w ∷ rows) p r n found peer same = go (w.branch.peer.node == p) refl (all_put g rows p r n)
  where
    go : (b : Bool) → (w.branch.peer.node == p) ≡ b → (find_row rows p ≡ Some r → n.branch.peer.node ≡ r.branch.peer.node → g n ≡ g r → all_of g (put_row rows n) ≡ all_of g rows)
        → all_of g (put_row (w ∷ rows) n) ≡ all_of g (w ∷ rows)
    go true i rest =
        let is : ◌≡◌ {A = Option Row} (Some w) (Some r) = rw i at found in
        let wr : w ≡ r = cc (is) in
        let at : (w.branch.peer.node == n.branch.peer.node) ≡ true = grind (arith, nat_tests, ap (λ (x : Row). x.branch.peer.node) wr, peer) in
        rw (at, put_row) (ap (λ (b : Bool). b && all_of g rows) (same ∙ ap g (sym wr)))
    go false i rest =
        let is : find_row rows p ≡ Some r = rw i at found in
        let rp : r.branch.peer.node ≡ p = found_at rows p r is in
        let at : (w.branch.peer.node == n.branch.peer.node) ≡ false = grind (arith, nat_tests, i, rp, peer) in
        rw (at, put_row) (ap (λ (b : Bool). g w && b) (rest is peer same))
      where
        found_at : (rs : List Row) (q : ℕ) (x : Row) → find_row rs q ≡ Some x → x.branch.peer.node ≡ q
        found_at [] q x h = absurd cc
        found_at (y ∷ rs) q x h = on (y.branch.peer.node == q) refl (found_at rs q x)
          where
            on : (b : Bool) → (y.branch.peer.node == q) ≡ b → (find_row rs q ≡ Some x → x.branch.peer.node ≡ q) → x.branch.peer.node ≡ q
            on true j more = let is : ◌≡◌ {A = Option Row} (Some y) (Some x) = rw j at h in grind (arith, nat_tests, j, is)
            on false j more = more (rw j at h)

settled_of : (rows : List Row) → all_settled rows ≡ all_of (λ r. r.branch.counted || r.branch.left) rows
settled_of [] = refl
settled_of (r ∷ rs) = ap (λ (b : Bool). (r.branch.counted || r.branch.left) && b) (settled_of rs)

done_of : (rows : List Row) → all_done rows ≡ all_of (λ r. r.branch.ended || r.branch.left || r.branch.given_up) rows
done_of [] = refl
done_of (r ∷ rs) = ap (λ (b : Bool). (r.branch.ended || r.branch.left || r.branch.given_up) && b) (done_of rs)

back_of : (rows : List Row) → all_rolled_back rows ≡ all_of (λ r. r.branch.ended || r.branch.left || not r.live) rows
back_of [] = refl
back_of (r ∷ rs) = ap (λ (b : Bool). (r.branch.ended || r.branch.left || not r.live) && b) (back_of rs)

rows_row : (g : Row → Bool) (t : Transaction) (p : ℕ) (f : Row → Row) → ((r : Row) → (f r).branch.peer.node ≡ r.branch.peer.node) → ((r : Row) → g (f r) ≡ g r)
    → all_of g (with_row t p f).rows ≡ all_of g t.rows
rows_row g t p f peer same = go (find_row t.rows p) refl
  where
    go : (o : Option Row) → find_row t.rows p ≡ o → all_of g (with_row t p f).rows ≡ all_of g t.rows
    go None i = rw (i, with_row) refl
    go (Some r) i = rw (i, with_row) (all_put g t.rows p r (f r) i (peer r) (same r))

-- the branches stay as they are for the rule that votes, and for the one that completes a commitment
record KeepsRows (s u : Transaction) : Type 0 where
  phase : u.phase ≡ s.phase
  asked : u.asked ≡ s.asked
  owes : u.owes ≡ s.owes
  settled : all_settled u.rows ≡ all_settled s.rows
  done : all_done u.rows ≡ all_done s.rows

keeps_row : (t : Transaction) (p : ℕ) (f : Row → Row) → ((r : Row) → (f r).branch.peer.node ≡ r.branch.peer.node) → ((r : Row) → ((f r).branch.counted || (f r).branch.left) ≡ (r.branch.counted || r.branch.left))
    → ((r : Row) → ((f r).branch.ended || (f r).branch.left || (f r).branch.given_up) ≡ (r.branch.ended || r.branch.left || r.branch.given_up)) → KeepsRows t (with_row t p f)
keeps_row t p f peer settled done = record {
  phase = row_phase t p f;
  asked = grind arith;
  owes = grind arith;
  settled = settled_of (with_row t p f).rows ∙ rows_row (λ r. r.branch.counted || r.branch.left) t p f peer settled ∙ sym (settled_of t.rows);
  done = done_of (with_row t p f).rows ∙ rows_row (λ r. r.branch.ended || r.branch.left || r.branch.given_up) t p f peer done ∙ sym (done_of t.rows);
}

keeps_lost : (t : Transaction) (p : ℕ) → KeepsRows t (with_arc_lost t p)
keeps_lost t p = go (is_under_at t.key p) refl
  where
    go : (b : Bool) → is_under_at t.key p ≡ b → KeepsRows t (with_arc_lost t p)
    go true i = rw (i, with_arc_lost) (record { phase = refl; asked = refl; owes = refl; settled = refl; done = refl })
    go false i = rw (i, with_arc_lost) (keeps_row t p row_dead (λ r. refl) (λ r. refl) (λ r. refl))

settles_alike : (s u : Transaction) → KeepsRows s u → may_settle u ≡ may_settle s
settles_alike s u k = let x = k.phase in let y = k.asked in let z = k.settled in rw (x, y, z) refl

completes_alike : (s u : Transaction) → KeepsRows s u → may_complete u ≡ may_complete s
completes_alike s u k = let x = k.phase in let y = k.owes in let z = k.done in rw (x, y, z) refl

-- one branch changes in what no rule asks for
alike_row : (t : Transaction) (p : ℕ) (f : Row → Row) → ((r : Row) → (f r).branch.peer.node ≡ r.branch.peer.node) → ((r : Row) → ((f r).branch.counted || (f r).branch.left) ≡ (r.branch.counted || r.branch.left))
    → ((r : Row) → ((f r).branch.ended || (f r).branch.left || (f r).branch.given_up) ≡ (r.branch.ended || r.branch.left || r.branch.given_up))
    → ((r : Row) → ((f r).branch.ended || (f r).branch.left || not (f r).live) ≡ (r.branch.ended || r.branch.left || not r.live)) → IsAlike t (with_row t p f)
alike_row t p f peer settled done back = record {
  settles = settles_alike t (with_row t p f) k;
  completes = completes_alike t (with_row t p f) k;
  rolls_back = let x = k.phase in let y = k.owes in let z = rows in let v = rolled in let w = up in rw (x, y, z, v, w) refl;
}
  where
    k : KeepsRows t (with_row t p f)
    k = keeps_row t p f peer settled done

    rows : all_rolled_back (with_row t p f).rows ≡ all_rolled_back t.rows
    rows = back_of (with_row t p f).rows ∙ rows_row (λ r. r.branch.ended || r.branch.left || not r.live) t p f peer back ∙ sym (back_of t.rows)

    rolled : (with_row t p f).superior_rolled ≡ t.superior_rolled
    rolled = grind arith

    up : (with_row t p f).up ≡ t.up
    up = grind arith

-- the arc is lost, and the transaction goes on
lost_turn : (t : Transaction) (p : ℕ) → is_rolling t.phase ≡ false → IsPromptTurn t (turn [] (with_arc_lost t p))
lost_turn t p i = record {
  settles = λ h. settles_alike t (with_arc_lost t p) k ∙ h;
  completes = λ h. completes_alike t (with_arc_lost t p) k ∙ h;
  rolls_back = λ h. let x = k.phase in grind (arith, x, i);
}
  where
    k : KeepsRows t (with_arc_lost t p)
    k = keeps_lost t p

-- ---- the rules that several events share

phase_count : (p : ℕ) (t : Transaction) → (count_branch p t).next.phase ≡ t.phase
unfolding count_branch
phase_count p t = row_phase t p _

phase_left : (p : ℕ) (t : Transaction) → (branch_left p t).next.phase ≡ t.phase
unfolding branch_left
phase_left p t = row_phase t p _

phase_ask : (t : Transaction) → (ask_commit t).next.phase ≡ t.phase
unfolding ask_commit
phase_ask t = refl

turn_lost : (s : Transaction) (p : ℕ) → IsPromptTurn s (lost_arc p s)
unfolding lost_arc
turn_lost s p = go (is_active s.phase && (is_under_at s.key p || row_holds s.rows p is_waited_for)) (is_rolling s.phase) refl
  where
    t : Transaction
    t = with_arc_lost s p

    go : (a b : Bool) → is_rolling s.phase ≡ b → IsPromptTurn s (if a then roll false t else if b then complete_rollback t else turn [] t)
    go true b i = prompt_turn s (roll false t) (prompt_roll false t)
    go false true i = prompt_turn s (complete_rollback t) (prompt_rollback t (ap is_rolling (KeepsRows.phase (keeps_lost s p)) ∙ i))
    go false false i = lost_turn s p i

turn_complete : (s t : Transaction) → (p : Phase) → t.phase ≡ p → (is_committing p || is_rolling p) ≡ true
    → IsPrompt (elim p as (λ _. Turn) [ Phase.Nil ↦ turn [] t | Phase.Active ↦ turn [] t | Phase.Ready ↦ turn [] t | Phase.Committing ↦ complete_commit t | Phase.Rolling ↦ complete_rollback t ]).next
turn_complete s t Phase.Committing i ok = prompt_commit t (ap is_committing i)
turn_complete s t Phase.Rolling i ok = prompt_rollback t (ap is_rolling i)
turn_complete s t _ i ok = absurd (cc (ok))

prompt_left : (p : ℕ) (t : Transaction) → (is_active t.phase ≡ false → is_rolling t.phase ≡ true) → IsPrompt (takes_left p t).next
prompt_left p t rolling = go (is_active t.phase) refl
  where
    go : (b : Bool) → is_active t.phase ≡ b → IsPrompt (if b then and_then (branch_left p t) settle else and_then (end_branch p Report.None t) complete_rollback).next
    go true i = prompt_settle (branch_left p t).next (ap is_active (phase_left p t) ∙ i)
    go false i = prompt_rollback (end_branch p Report.None t).next (ap is_rolling (phase_end p Report.None t) ∙ rolling i)

sees_left : (s : Transaction) (p : ℕ) → row_holds s.rows p (λ b. is_active s.phase && b.prepared && not b.counted && not b.left || is_rolling s.phase && not b.ended && not b.left) ≡ true
    → is_active s.phase ≡ false → is_rolling s.phase ≡ true
sees_left s p h i = grind arith

-- ---- requests

turn_user : (s : Transaction) (r : Request) → is_nil s.phase ≡ false → refused_user s r ≡ None → IsPromptTurn s (by_user r s)
turn_user s (Request.UAbort p) n ok = prompt_turn s (by_user (Request.UAbort p) s) (prompt_roll true (with_arc_lost s p))
turn_user s (Request.DeferEnd p) n ok = alike_turn s (by_user (Request.DeferEnd p) s) (alike_row s p (λ r. record r { ends = true }) (λ r. refl) (λ r. refl) (λ r. refl) (λ r. refl))
turn_user s (Request.DeferGrant p) n ok = still_turn s (TxOut.Carry p DialogueRecord.DeferGrant ∷ [])
turn_user s (Request.Prepare p) n ok =
    alike_turn s (by_user (Request.Prepare p) s) (alike_row s p (λ r. record r { branch = record r.branch { prepared = true } }) (λ r. refl) (λ r. refl) (λ r. refl) (λ r. refl))
turn_user s Request.Commit n ok =
    let act : is_active s.phase ≡ true = grind (arith, not_nil s.phase) in
    prompt_turn s (by_user Request.Commit s) (prompt_settle (ask_commit s).next (ap is_active (phase_ask s) ∙ act))
turn_user s Request.Done n ok =
    let t : Transaction = record s { owes = false } in
    prompt_turn s (complete t) (turn_complete s t s.phase refl (grind arith))
turn_user s Request.Rollback n ok = prompt_turn s (roll true s) (prompt_roll true s)
turn_user s Request.Unchanged n ok = prompt_turn s (leave s) (prompt_leave s)
turn_user s _ n ok = still_turn s []

-- ---- records taken

turn_take : (s : Transaction) (p : ℕ) (r : DialogueRecord) → sight_of_tx s p r ≡ Acts → IsPromptTurn s (takes p r s)
unfolding sight_of_tx
turn_take s p DialogueRecord.UAbort ok = let k = turn_lost s p in record { settles = k.settles; completes = k.completes; rolls_back = k.rolls_back }
turn_take s p DialogueRecord.DeferEnd ok = record { settles = λ h. h; completes = λ h. h; rolls_back = λ h. h }
turn_take s p DialogueRecord.DeferGrant ok = still_turn s (TxOut.Tell (Indication.DeferGrant p) ∷ [])
turn_take s p DialogueRecord.Prepare ok = record { settles = λ h. h; completes = λ h. h; rolls_back = λ h. h }
turn_take s p DialogueRecord.Ready ok =
    let act : is_active s.phase ≡ true = grind arith in
    prompt_turn s (takes p DialogueRecord.Ready s) (prompt_settle (count_branch p s).next (ap is_active (phase_count p s) ∙ act))
turn_take s p DialogueRecord.Commit ok = prompt_turn s (order s) (prompt_order s)
turn_take s p (DialogueRecord.Done r) ok =
    let c : is_committing s.phase ≡ true = grind arith in
    prompt_turn s (takes p (DialogueRecord.Done r) s) (prompt_commit (end_branch p r s).next (ap is_committing (phase_end p r s) ∙ c))
turn_take s p DialogueRecord.Rollback ok = go (is_under_at s.key p)
  where
    go : (b : Bool) → IsPromptTurn s (if b then superior_rolls s else roll false s)
    go true = prompt_turn s (superior_rolls s) (prompt_superior s)
    go false = prompt_turn s (roll false s) (prompt_roll false s)
turn_take s p (DialogueRecord.RolledBack r) ok =
    let c : is_rolling s.phase ≡ true = grind arith in
    prompt_turn s (takes p (DialogueRecord.RolledBack r) s) (prompt_rollback (end_branch p r s).next (ap is_rolling (phase_end p r s) ∙ c))
turn_take s p DialogueRecord.Left ok = prompt_turn s (takes_left p s) (prompt_left p s (sees_left s p (grind arith)))
turn_take s p DialogueRecord.LeftEnd ok =
    let t : Transaction = with_row s p row_dead in
    let same : t.phase ≡ s.phase = row_phase s p row_dead in
    prompt_turn s (takes p DialogueRecord.LeftEnd s) (prompt_left p t (λ h. ap is_rolling same ∙ sees_left s p (grind arith) (ap is_active (sym same) ∙ h)))
turn_take s p _ ok = still_turn s []

-- ---- recovery, and local events

turn_reply : (s : Transaction) (b : BranchId) (r : RecState) → IsPromptTurn s (replied s b r)
turn_reply s b RecState.Commit = go (is_ready s.phase)
  where
    go : (v : Bool) → IsPromptTurn s (if v then order s else turn [] s)
    go true = prompt_turn s (order s) (prompt_order s)
    go false = still_turn s []
turn_reply s b (RecState.Done r) = go (find_row_by_id s.rows b)
  where
    on : (w : Row) (v : Bool) → is_open_in_commit s w.branch ≡ v → IsPromptTurn s (if v then and_then (end_branch w.branch.peer.node r s) complete_commit else turn [] s)
    on w true i =
        let p : ℕ = w.branch.peer.node in
        let c : is_committing s.phase ≡ true = grind (arith, i) in
        prompt_turn s (and_then (end_branch p r s) complete_commit) (prompt_commit (end_branch p r s).next (ap is_committing (phase_end p r s) ∙ c))
    on w false i = still_turn s []

    go : (o : Option Row) → IsPromptTurn s (elim o as (λ _. Turn) [ None ↦ turn [] s | Some w ↦ if is_open_in_commit s w.branch then and_then (end_branch w.branch.peer.node r s) complete_commit else turn [] s ])
    go None = still_turn s []
    go (Some w) = on w (is_open_in_commit s w.branch) refl
turn_reply s b RecState.Unknown = go (is_ready s.phase)
  where
    go : (v : Bool) → IsPromptTurn s (if v then superior_rolls s else turn [] s)
    go true = prompt_turn s (superior_rolls s) (prompt_superior s)
    go false = still_turn s []
turn_reply s b RecState.RetryLater = still_turn s []

turn_give_up : (s : Transaction) (p : ℕ) → is_committing s.phase ≡ true → IsPromptTurn s (give_up p s)
turn_give_up s p c = go (find_row s.rows p)
  where
    gone : Row → Row
    gone q = record q { branch = record q.branch { given_up = true }; live = false; ends = false }

    t : Transaction
    t = with_row s p gone

    go : (o : Option Row) → IsPromptTurn s (elim o as (λ _. Turn) [ None ↦ turn [] s | Some r ↦ and_then (turn (if r.live then TxOut.Shut p ∷ [] else []) t) complete_commit ])
    go None = still_turn s []
    go (Some r) =
        let k = prompt_commit t (ap is_committing (row_phase s p gone) ∙ c) in
        record { settles = λ h. k.settles; completes = λ h. k.completes; rolls_back = λ h. k.rolls_back }

-- ---- every event

pub prompt_event : (e : TxEvent) (s : Transaction) → IsPut e s → IsPromptTurn s (transacted e s)
unfolding refused_tx
prompt_event (TxEvent.Begun arcs) s put = absurd (put.not_begun arcs refl)
prompt_event (TxEvent.User r) s put = turn_user s r put.late (put.ok refl)
prompt_event (TxEvent.Took p r) s put = go (sight_of_tx s p r) refl
  where
    go : (g : Sight) → sight_of_tx s p r ≡ g → IsPromptTurn s (elim g as (λ _. Turn) [ Acts ↦ takes p r s | Nothing_happens ↦ turn [] s | Out_of_phase ↦ turn [] s ])
    go Acts i = turn_take s p r i
    go Nothing_happens i = still_turn s []
    go Out_of_phase i = still_turn s []
prompt_event (TxEvent.Lost p) s put = let k = turn_lost s p in record { settles = k.settles; completes = k.completes; rolls_back = k.rolls_back }
prompt_event (TxEvent.GiveUp p) s put = turn_give_up s p (grind (arith, put.ok refl))
prompt_event TxEvent.Ordered s put = prompt_turn s (order s) (prompt_order s)
prompt_event (TxEvent.Reply b r) s put = turn_reply s b r
prompt_event _ s put = record { settles = λ h. h; completes = λ h. h; rolls_back = λ h. h }
