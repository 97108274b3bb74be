-- Every event of a transaction is made of the small steps.
use Rattle.std.proofs.Common.{if◌then◌else◌, ◌≡◌, ◌⊎◌, inl, inr, ℕ, Bool, true, false, refl, ap, sym, ◌∙◌, arith, Option, Some, None, List, [], ◌∷◌, ◌&&◌, ◌||◌, not}
use Rattle.std.proofs.lemmas.Bool.Decides.{nat_tests}
use Rattle.tp_names.specs.declared.identifiers.BranchId.{BranchId}
use Rattle.tp_names.specs.declared.outcome.Report.{Report}
use Rattle.tp_records.specs.declared.request.Request.{Request}
use Rattle.tp_records.specs.declared.indication.Indication.{Indication}
use Rattle.tp_records.specs.declared.dialogue.DialogueRecord.{DialogueRecord}
use Rattle.tp_records.specs.declared.peer.RecState.{RecState}
use Rattle.tp_model.specs.declared.arc.Phase.{Phase}
use Rattle.tp_model.specs.declared.transaction.TxEvent.{TxEvent}
use Rattle.tp_model.specs.declared.transaction.TxOut.{TxOut}
use Rattle.tp_model.specs.Dialogues.{Sight, Acts, Nothing_happens, Out_of_phase, is_nil, is_active, is_ready, is_committing, is_rolling}
use Rattle.tp_model.specs.Transactions.{Row, Transaction, Turn, turn, and_then, is_under, is_under_at, find_row, find_row_by_id, row_holds, with_row, with_arc_lost, all_settled, complete_commit, complete_rollback, begin_rolling, roll, order, settle, ask_commit, count_branch, end_branch, branch_left, lost_arc, complete, by_user, superior_rolls, takes_left, takes, sight_of_tx, replied, give_up, transacted, refused_user, refused_tx, may_give_up, is_open_in_commit}
use Rattle.tp_steps.specs.Moves.{IsPut}
use Rattle.tp_steps.specs.Turns.{hears_close, Turns, falls, is_fatal_at, loses, is_left_word, vote, row_dead, hears_rollback}
use Rattle.tp_steps.proofs.words.Fair.{row_phase}

-- ---- what no rule logs

pub quiet_rollback : (t : Transaction) → (complete_rollback t).rec ≡ None
unfolding complete_rollback
quiet_rollback t = grind arith

quiet_ask : (t : Transaction) → (ask_commit t).rec ≡ None
unfolding ask_commit
quiet_ask t = refl

quiet_count : (p : ℕ) (t : Transaction) → (count_branch p t).rec ≡ None
unfolding count_branch
quiet_count p t = refl

quiet_end : (p : ℕ) (r : Report) (t : Transaction) → (end_branch p r t).rec ≡ None
unfolding end_branch
quiet_end p r t = refl

quiet_left : (p : ℕ) (t : Transaction) → (branch_left p t).rec ≡ None
unfolding branch_left
quiet_left p t = refl

pub rolling_now : (asked : Bool) (t : Transaction) → is_rolling (begin_rolling asked t).next.phase ≡ true
unfolding begin_rolling
rolling_now asked t = refl

pub phase_lost : (t : Transaction) (p : ℕ) → (with_arc_lost t p).phase ≡ t.phase
phase_lost t p = grind (arith, row_phase)

pub phase_end : (p : ℕ) (r : Report) (t : Transaction) → (end_branch p r t).next.phase ≡ t.phase
unfolding end_branch
phase_end p r t = grind (arith, row_phase)

pub not_nil : (p : Phase) → is_nil p ≡ false → is_active p ≡ false → is_ready p ≡ false → is_committing p ≡ false → is_rolling p ≡ true
not_nil Phase.Rolling a b c d = refl
not_nil _ a b c d = absurd cc

-- ---- the rules that several events share

every_settle : (e : TxEvent) (s : Transaction) (R : Transaction → Turn → Type 0) → Turns e s R → (t : Transaction) → R t (settle t)
unfolding settle
every_settle e s R k t = go (is_active t.phase && t.asked && all_settled t.rows) (is_under t.key) refl refl
  where
    go : (a b : Bool) → (is_active t.phase && t.asked && all_settled t.rows) ≡ a → is_under t.key ≡ b → R t (if a then (if b then vote t else order t) else turn [] t)
    go false b i j = k.still t
    go true true i j = k.votes t (grind arith) (grind arith) (grind arith) j
    go true false i j = k.orders_root t (grind arith) (grind arith) (grind arith) j

every_roll : (e : TxEvent) (s : Transaction) (R : Transaction → Turn → Type 0) → Turns e s R → (asked : Bool) (t : Transaction) → falls e s ≡ true → (is_active t.phase || is_ready t.phase) ≡ true
    → R t (roll asked t)
every_roll e s R k asked t f ok =
    let u : Transaction = (begin_rolling asked t).next in
    k.chain t (begin_rolling asked t) complete_rollback (k.rolls t asked f ok) (k.completes_rollback u (rolling_now asked t)) (inr (quiet_rollback u))

-- after a step that logs nothing
then_settle : (e : TxEvent) (s : Transaction) (R : Transaction → Turn → Type 0) → Turns e s R → (t : Transaction) (a : Turn) → R t a → a.rec ≡ None → R t (and_then a settle)
then_settle e s R k t a one quiet = k.chain t a settle one (every_settle e s R k a.next) (inl quiet)

then_commit : (e : TxEvent) (s : Transaction) (R : Transaction → Turn → Type 0) → Turns e s R → (t : Transaction) (a : Turn) → R t a → a.rec ≡ None → is_committing a.next.phase ≡ true → R t (and_then a complete_commit)
then_commit e s R k t a one quiet c = k.chain t a complete_commit one (k.completes_commit a.next c) (inl quiet)

then_rollback : (e : TxEvent) (s : Transaction) (R : Transaction → Turn → Type 0) → Turns e s R → (t : Transaction) (a : Turn) → R t a → is_rolling a.next.phase ≡ true → R t (and_then a complete_rollback)
then_rollback e s R k t a one c = k.chain t a complete_rollback one (k.completes_rollback a.next c) (inr (quiet_rollback a.next))

every_complete : (e : TxEvent) (s : Transaction) (R : Transaction → Turn → Type 0) → Turns e s R → (t : Transaction) (p : Phase) → t.phase ≡ p
    → R t (elim p [ Phase.Nil ↦ turn [] t | Phase.Active ↦ turn [] t | Phase.Ready ↦ turn [] t | Phase.Committing ↦ complete_commit t | Phase.Rolling ↦ complete_rollback t ])
every_complete e s R k t Phase.Committing i = k.completes_commit t (ap is_committing i)
every_complete e s R k t Phase.Rolling i = k.completes_rollback t (ap is_rolling i)
every_complete e s R k t _ i = k.still t

every_lost : (e : TxEvent) (s : Transaction) (R : Transaction → Turn → Type 0) → Turns e s R → (p : ℕ) → loses e p ≡ true → (is_fatal_at s p ≡ true → falls e s ≡ true) → R s (lost_arc p s)
unfolding lost_arc
every_lost e s R k p gone fatal = go (is_fatal_at s p) (is_rolling s.phase) refl refl
  where
    t : Transaction
    t = with_arc_lost s p

    go : (a b : Bool) → is_fatal_at s p ≡ a → is_rolling s.phase ≡ b → R s (if a then roll false t else if b then complete_rollback t else turn [] t)
    go true b i j =
        let act : is_active s.phase ≡ true = grind arith in
        let ok : (is_active t.phase || is_ready t.phase) ≡ true = rw (phase_lost s p) (grind arith) in
        k.first s t [] (roll false t) (k.loses_arc p gone) (every_roll e s R k false t (fatal i) ok)
    go false true i j = k.first s t [] (complete_rollback t) (k.loses_arc p gone) (k.completes_rollback t (ap is_rolling (phase_lost s p) ∙ j))
    go false false i j = k.loses_arc p gone

-- ---- requests

every_user : (s : Transaction) (r : Request) (R : Transaction → Turn → Type 0) → Turns (TxEvent.User r) s R → is_nil s.phase ≡ false → refused_user s r ≡ None
    → ((p : ℕ) → r ≡ Request.UAbort p → is_active s.phase ≡ true) → R s (by_user r s)
every_user s (Request.UAbort p) R k n ok abort =
    let t : Transaction = with_arc_lost s p in
    let act : is_active s.phase ≡ true = abort p refl in
    let now : (is_active t.phase || is_ready t.phase) ≡ true = rw (phase_lost s p) (grind arith) in
    k.first s t (TxOut.Carry p DialogueRecord.UAbort ∷ TxOut.Close p ∷ []) (roll true t) (k.aborts p refl) (every_roll (TxEvent.User (Request.UAbort p)) s R k true t act now)
every_user s (Request.DeferEnd p) R k n ok abort = k.defers_end p refl
every_user s (Request.DeferGrant p) R k n ok abort = k.defers_grant p refl
every_user s (Request.Prepare p) R k n ok abort = k.prepares p
every_user s Request.Commit R k n ok abort =
    then_settle (TxEvent.User Request.Commit) s R k s (ask_commit s) (k.asks refl (grind (arith, not_nil s.phase)) (grind arith) (λ u. grind (arith, u))) (quiet_ask s)
every_user s Request.Done R k n ok abort =
    let t : Transaction = record s { owes = false } in
    k.first s t [] (complete t) (k.notes_done refl) (every_complete (TxEvent.User Request.Done) s R k t t.phase refl)
every_user s Request.Rollback R k n ok abort =
    let act : is_active s.phase ≡ true = grind (arith, not_nil s.phase) in
    every_roll (TxEvent.User Request.Rollback) s R k true s act (grind arith)
every_user s Request.Unchanged R k n ok abort = k.leaves refl (grind (arith, not_nil s.phase)) (grind arith) (grind arith) (grind arith)
every_user s _ R k n ok abort = k.still s

-- ---- records taken

rolls_up : (e : TxEvent) (s : Transaction) (R : Transaction → Turn → Type 0) → Turns e s R → (b : Bool) → is_rolling s.phase ≡ b → (b ≡ false → falls e s ≡ true)
    → (b ≡ false → (is_active s.phase || is_ready s.phase) ≡ true) → hears_rollback e s ≡ true → hears_close e s ≡ true
    → R s (if b then complete_rollback (record s { superior_rolled = true }) else roll false (record s { superior_rolled = true }))
rolls_up e s R k true i f ok ro cl =
    let t : Transaction = record s { superior_rolled = true } in
    k.first s t [] (complete_rollback t) (k.notes_rollback ro cl) (k.completes_rollback t i)
rolls_up e s R k false i f ok ro cl =
    let t : Transaction = record s { superior_rolled = true } in
    k.first s t [] (roll false t) (k.notes_rollback ro cl) (every_roll e s R k false t (f refl) (ok refl))

every_left : (e : TxEvent) (s : Transaction) (R : Transaction → Turn → Type 0) → Turns e s R → (p : ℕ) (w : DialogueRecord) (t : Transaction) → e ≡ TxEvent.Took p w → is_left_word w ≡ true
    → (t ≡ s) ⊎ (t ≡ with_row s p row_dead) → (b : Bool) → is_active t.phase ≡ b → (b ≡ false → is_rolling t.phase ≡ true)
    → R t (if b then and_then (branch_left p t) settle else and_then (end_branch p Report.None t) complete_rollback)
every_left e s R k p w t is left at true i r = then_settle e s R k t (branch_left p t) (k.leaves_below p w t is left at i) (quiet_left p t)
every_left e s R k p w t is left at false i r =
    then_rollback e s R k t (end_branch p Report.None t) (k.leaves_rolling p w t is left at (r refl)) (ap is_rolling (phase_end p Report.None t) ∙ r refl)

sees_left : (s : Transaction) (p : ℕ) → is_active s.phase ≡ false → row_holds s.rows p (λ b. is_active s.phase && b.prepared && not b.counted && not b.left || is_rolling s.phase && not b.ended && not b.left) ≡ true
    → is_rolling s.phase ≡ true
sees_left s p i h = grind arith

every_take : (s : Transaction) (p : ℕ) (r : DialogueRecord) (R : Transaction → Turn → Type 0) → Turns (TxEvent.Took p r) s R → is_nil s.phase ≡ false → sight_of_tx s p r ≡ Acts
    → R s (takes p r s)
unfolding sight_of_tx
every_take s p DialogueRecord.UAbort R k n ok =
    k.first s s (TxOut.Tell (Indication.UAbort p) ∷ []) (lost_arc p s) (k.tells s (Indication.UAbort p) refl) (every_lost (TxEvent.Took p DialogueRecord.UAbort) s R k p (grind (arith, nat_tests)) (λ f. f))
every_take s p DialogueRecord.DeferEnd R k n ok = k.notes_end p refl
every_take s p DialogueRecord.DeferGrant R k n ok = k.tells s (Indication.DeferGrant p) refl
every_take s p DialogueRecord.Prepare R k n ok = k.notes_prepare refl (grind arith)
every_take s p DialogueRecord.Ready R k n ok =
    then_settle (TxEvent.Took p DialogueRecord.Ready) s R k s (count_branch p s) (k.counts p refl (grind arith) (grind arith)) (quiet_count p s)
every_take s p DialogueRecord.Commit R k n ok = k.orders_ready (grind arith) (grind arith)
every_take s p (DialogueRecord.Done r) R k n ok =
    let c : is_committing s.phase ≡ true = grind arith in
    then_commit (TxEvent.Took p (DialogueRecord.Done r)) s R k s (end_branch p r s) (k.ends_done p r refl c (grind arith)) (quiet_end p r s) (ap is_committing (phase_end p r s) ∙ c)
every_take s p DialogueRecord.Rollback R k n ok = go (is_under_at s.key p) refl
  where
    e : TxEvent
    e = TxEvent.Took p DialogueRecord.Rollback

    go : (b : Bool) → is_under_at s.key p ≡ b → R s (if b then superior_rolls s else roll false s)
    go true i = rolls_up e s R k (is_rolling s.phase) refl (λ f. grind (arith, i, f)) (λ f. grind (arith, i, f)) i i
    go false i = every_roll e s R k false s (grind (arith, i)) (grind (arith, i))
every_take s p (DialogueRecord.RolledBack r) R k n ok =
    let c : is_rolling s.phase ≡ true = grind arith in
    then_rollback (TxEvent.Took p (DialogueRecord.RolledBack r)) s R k s (end_branch p r s) (k.ends_rolled p r refl c (grind arith)) (ap is_rolling (phase_end p r s) ∙ c)
every_take s p DialogueRecord.Left R k n ok =
    every_left (TxEvent.Took p DialogueRecord.Left) s R k p DialogueRecord.Left s refl refl (inl refl) (is_active s.phase) refl (λ f. sees_left s p f (grind arith))
every_take s p DialogueRecord.LeftEnd R k n ok =
    let t : Transaction = with_row s p row_dead in
    let same : t.phase ≡ s.phase = row_phase s p row_dead in
    let on = every_left (TxEvent.Took p DialogueRecord.LeftEnd) s R k p DialogueRecord.LeftEnd t refl refl (inr refl) (is_active t.phase) refl
    (λ f. ap is_rolling same ∙ sees_left s p (sym (ap is_active same) ∙ f) (grind arith)) in
    k.first s t (TxOut.Close p ∷ []) (takes_left p t) (k.closes_left p refl) on
every_take s p _ R k n ok = k.still s

-- ---- replies, and local events

every_reply : (s : Transaction) (b : BranchId) (r : RecState) (R : Transaction → Turn → Type 0) → Turns (TxEvent.Reply b r) s R → R s (replied s b r)
every_reply s b RecState.Commit R k = go (is_ready s.phase) refl
  where
    go : (c : Bool) → is_ready s.phase ≡ c → R s (if c then order s else turn [] s)
    go true i = k.orders_ready i refl
    go false i = k.still s
every_reply s b (RecState.Done r) R k = go (find_row_by_id s.rows b) refl
  where
    e : TxEvent
    e = TxEvent.Reply b (RecState.Done r)

    on : (w : Row) → find_row_by_id s.rows b ≡ Some w → (c : Bool) → is_open_in_commit s w.branch ≡ c
        → R s (if c then and_then (end_branch w.branch.peer.node r s) complete_commit else turn [] s)
    on w i false j = k.still s
    on w i true j =
        let c : is_committing s.phase ≡ true = grind arith in
        let p : ℕ = w.branch.peer.node in
        then_commit e s R k s (end_branch p r s) (k.ends_replied b w r refl i j) (quiet_end p r s) (ap is_committing (phase_end p r s) ∙ c)

    go : (o : Option Row) → find_row_by_id s.rows b ≡ o
        → R s (elim o as (λ _. Turn) [ None ↦ turn [] s | Some w ↦ if is_open_in_commit s w.branch then and_then (end_branch w.branch.peer.node r s) complete_commit else turn [] s ])
    go None i = k.still s
    go (Some w) i = on w i (is_open_in_commit s w.branch) refl
every_reply s b RecState.Unknown R k = go (is_ready s.phase) refl
  where
    e : TxEvent
    e = TxEvent.Reply b RecState.Unknown

    late : is_ready s.phase ≡ true → is_rolling s.phase ≡ false
    late i = grind arith

    go : (c : Bool) → is_ready s.phase ≡ c → R s (if c then superior_rolls s else turn [] s)
    go true i = rolls_up e s R k (is_rolling s.phase) refl (λ f. i) (λ f. grind (arith, i)) i i
    go false i = k.still s
every_reply s b RecState.RetryLater R k = k.still s

every_give_up : (s : Transaction) (p : ℕ) (R : Transaction → Turn → Type 0) → Turns (TxEvent.GiveUp p) s R → may_give_up s p ≡ true → R s (give_up p s)
every_give_up s p R k ok = go (find_row s.rows p) refl
  where
    dead : Row → Row
    dead q = record q { branch = record q.branch { given_up = true }; live = false; ends = false }

    outs : Row → List TxOut
    outs r = if r.live then TxOut.Shut p ∷ [] else []

    go : (o : Option Row) → find_row s.rows p ≡ o
        → R s (elim o as (λ _. Turn) [ None ↦ turn [] s | Some r ↦ and_then (turn (outs r) (with_row s p dead)) complete_commit ])
    go None i = k.still s
    go (Some r) i =
        let c : is_committing s.phase ≡ true = grind arith in
        then_commit (TxEvent.GiveUp p) s R k s (turn (outs r) (with_row s p dead)) (k.gives_up p r refl c i) refl (ap is_committing (row_phase s p dead) ∙ c)

-- ---- every event

pub every_turn : (e : TxEvent) (s : Transaction) (R : Transaction → Turn → Type 0) → Turns e s R → IsPut e s → R s (transacted e s)
unfolding refused_tx
every_turn (TxEvent.Begun arcs) s R k put = absurd (put.not_begun arcs refl)
every_turn (TxEvent.User r) s R k put = every_user s r R k put.late (put.ok refl) (λ p i. put.abort p (ap (λ (q : Request). TxEvent.User q) i))
every_turn (TxEvent.Took p r) s R k put = go (sight_of_tx s p r) refl
  where
    go : (g : Sight) → sight_of_tx s p r ≡ g → R s (elim g as (λ _. Turn) [ Acts ↦ takes p r s | Nothing_happens ↦ turn [] s | Out_of_phase ↦ turn [] s ])
    go Acts i = every_take s p r R k put.late i
    go Nothing_happens i = k.still s
    go Out_of_phase i = k.still s
every_turn (TxEvent.Lost p) s R k put =
    k.first s s (TxOut.Tell (Indication.PAbort p) ∷ []) (lost_arc p s) (k.tells s (Indication.PAbort p) refl) (every_lost (TxEvent.Lost p) s R k p (grind (arith, nat_tests)) (λ f. f))
every_turn (TxEvent.Heur o) s R k put = k.decides o refl (grind (arith, put.ok refl))
every_turn (TxEvent.GiveUp p) s R k put = every_give_up s p R k (grind (arith, put.ok refl))
every_turn TxEvent.Ordered s R k put = k.orders_ready (put.ordered refl) refl
every_turn (TxEvent.Reply b r) s R k put = every_reply s b r R k
every_turn TxEvent.Retry s R k put = k.asks_again
