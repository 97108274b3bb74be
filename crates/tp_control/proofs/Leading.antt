-- Every event of a transaction keeps how a branch stands to what was said to it: an instance of the steps of a turn.
use Rattle.std.proofs.Common.{if◌then◌else◌, ◌≡◌, ◌⊎◌, inl, inr, ℕ, Bool, true, false, refl, ap, sym, subst, ◌∙◌, arith, Option, Some, None, List, [], ◌∷◌, ◌++◌, ◌&&◌, ◌||◌, ◌==◌, not}
use Rattle.std.proofs.lemmas.Bool.Decides.{nat_tests}
use Rattle.std.proofs.lemmas.Grind.{common_steps}
use Rattle.tp_names.specs.declared.identifiers.Aaid.{Aaid}
use Rattle.tp_names.specs.declared.outcome.Report.{Report}
use Rattle.tp_names.specs.Reports.{join}
use Rattle.tp_records.specs.declared.indication.Indication.{Indication}
use Rattle.tp_records.specs.declared.dialogue.DialogueRecord.{DialogueRecord}
use Rattle.tp_model.specs.declared.arc.Phase.{Phase}
use Rattle.tp_model.specs.declared.transaction.TxEvent.{TxEvent}
use Rattle.tp_model.specs.declared.transaction.TxOut.{TxOut}
use Rattle.tp_model.specs.Parts.{Key, Branch}
use Rattle.tp_model.specs.Dialogues.{is_active, is_ready, is_committing, is_rolling}
use Rattle.tp_model.specs.Transactions.{Row, Transaction, Turn, turn, is_under_at, find_row, row_holds, with_row, with_branch, with_arc_lost, all_settled, all_rolled_back, all_left, reports_of, tell_report, carry_up, carry_down, complete_commit, complete_rollback, begin_rolling, order, prepare_each, all_prepared, ask_commit, leave, count_branch, end_branch, branch_left, ask_each, retried, transacted}
use Rattle.tp_steps.specs.Turns.{Turns, vote, decide, loses, row_dead, shut_given_up, is_left_word}
use Rattle.tp_steps.specs.Moves.{IsPut}
use Rattle.tp_steps.specs.Passages.{IsPassed}
use Rattle.tp_steps.specs.Facts.{stays, sees, IsFair}
use Rattle.tp_histories.specs.Control.{is_closing}
use Rattle.tp_control.specs.Leading.{carried_to, some_closing, opens, lags, is_sound, of_row, answers, Leads, IsLeading}
use Rattle.tp_steps.proofs.every.EveryTurn.{every_turn}
use Rattle.tp_steps.proofs.lemmas.Words.{stays_append, dead_stays}
use Rattle.tp_steps.proofs.words.Fair.{row_with}
use Rattle.tp_steps.proofs.words.FairTurns.{fair_turns}
use Rattle.tp_steps.proofs.log.Passed.{passed_turns}
use Rattle.std.proofs.lemmas.Bool.{or_right}

-- ---- what outputs carry

pub carried_append : (b : Bool) (p : ℕ) (xs ys : List TxOut) → carried_to b p (xs ++ ys) ≡ carried_to b p xs ++ carried_to (stays b p xs) p ys
carried_append b p [] ys = refl
carried_append b p (TxOut.Tell i ∷ xs) ys = carried_append b p xs ys
carried_append b p (TxOut.Carry q r ∷ xs) ys = grind (arith, common_steps, carried_append b p xs ys)
carried_append b p (TxOut.Shut q ∷ xs) ys = carried_append (b && not (q == p)) p xs ys
carried_append b p (TxOut.Recovery a r ∷ xs) ys = carried_append b p xs ys
carried_append b p (TxOut.Close q ∷ xs) ys = carried_append (b && not (q == p)) p xs ys

closing_append : (xs ys : List DialogueRecord) → some_closing (xs ++ ys) ≡ (some_closing xs || some_closing ys)
closing_append [] ys = refl
closing_append (x ∷ xs) ys = grind (arith, closing_append xs ys)

-- ---- rows

-- from a branch b in the phase h to what a rule makes of it; k: it answers; w: its round is closed
record RowLeads (k w : Bool) (h : Phase) (b : Branch) (i : Phase) (n : Branch) : Type 0 where
  sound : is_sound i n ≡ true
  opens_so : k ≡ false → opens h b ≡ true → opens i n ≡ not w
  shut : opens h b ≡ false → opens i n ≡ false
  lags_so : lags h b ≡ true → (lags i n || k) ≡ true
  closes : k ≡ false → opens h b ≡ true → w ≡ true → lags i n ≡ true

data RowTo (k w : Bool) (p : ℕ) (t u : Transaction) : Type 0 where
  No_row : find_row t.rows p ≡ None → find_row u.rows p ≡ None → RowTo k w p t u
  One_row : (r n : Row) → find_row t.rows p ≡ Some r → find_row u.rows p ≡ Some n → (is_sound t.phase r.branch ≡ true → RowLeads k w t.phase r.branch u.phase n.branch) → RowTo k w p t u

leads_of : (e : TxEvent) (s : Transaction) (p : ℕ) (t : Transaction) (a : Turn) → of_row true is_sound t p ≡ true → RowTo (answers e s p) (some_closing (carried_to true p a.outs)) p t a.next → Leads e s p t a
leads_of e s p t a sound (No_row i j) =
    let was : (v : Bool) (f : Phase → Branch → Bool) → of_row v f t p ≡ v = λ v f. ap (λ (o : Option Row). elim o [ None ↦ v | Some x ↦ f t.phase x.branch ]) i in
    let now : (v : Bool) (f : Phase → Branch → Bool) → of_row v f a.next p ≡ v = λ v f. ap (λ (o : Option Row). elim o [ None ↦ v | Some x ↦ f a.next.phase x.branch ]) j in
    record {
      sound = now true is_sound;
      open_so = λ k o. absurd (cc (o, was false opens));
      shut = λ o. now false opens;
      lag_so = λ l. absurd (cc (l, was false lags));
      closes = λ k o w. absurd (cc (o, was false opens));
    }
leads_of e s p t a sound (One_row r n i j row) =
    let was : (v : Bool) (f : Phase → Branch → Bool) → of_row v f t p ≡ f t.phase r.branch = λ v f. ap (λ (o : Option Row). elim o [ None ↦ v | Some x ↦ f t.phase x.branch ]) i in
    let now : (v : Bool) (f : Phase → Branch → Bool) → of_row v f a.next p ≡ f a.next.phase n.branch = λ v f. ap (λ (o : Option Row). elim o [ None ↦ v | Some x ↦ f a.next.phase x.branch ]) j in
    let k = row (sym (was true is_sound) ∙ sound) in
    record {
      sound = now true is_sound ∙ k.sound;
      open_so = λ b o. now false opens ∙ k.opens_so b (sym (was false opens) ∙ o);
      shut = λ o. now false opens ∙ k.shut (sym (was false opens) ∙ o);
      lag_so = λ l. ap (λ (x : Bool). x || answers e s p) (now false lags) ∙ k.lags_so (sym (was false lags) ∙ l);
      closes = λ b o w. now false lags ∙ k.closes b (sym (was false opens) ∙ o) w;
    }

row_still : (k : Bool) (h : Phase) (b : Branch) → is_sound h b ≡ true → RowLeads k false h b h b
row_still k h b sound = record { sound = sound; opens_so = λ x o. o; shut = λ o. o; lags_so = λ l. rw l refl; closes = λ x o w. absurd (cc (w)) }

-- its round is over in each phase
row_idle : (k w : Bool) (h : Phase) (b : Branch) (i : Phase) (n : Branch) → opens h b ≡ false → lags h b ≡ false → opens i n ≡ false → is_sound i n ≡ true → RowLeads k w h b i n
row_idle k w h b i n o l o' sound = record { sound = sound; opens_so = λ x y. absurd (cc (y, o)); shut = λ x. o'; lags_so = λ x. absurd (cc (x, l)); closes = λ x y z. absurd (cc (y, o)) }

same_to : (k w : Bool) (p : ℕ) (t u : Transaction) → find_row u.rows p ≡ find_row t.rows p → u.phase ≡ t.phase → w ≡ false → RowTo k w p t u
same_to k w p t u rows phase none = go (find_row t.rows p) refl
  where
    go : (o : Option Row) → find_row t.rows p ≡ o → RowTo k w p t u
    go None i = No_row i (rows ∙ i)
    go (Some r) i = One_row r r i (rows ∙ i) (λ s. subst (λ (h : Phase). RowLeads k w t.phase r.branch h r.branch) (sym phase) (subst (λ (v : Bool). RowLeads k v t.phase r.branch t.phase r.branch) (sym none) (row_still k t.phase r.branch s)))

-- a change of the row with q
row_to : (k w : Bool) (p q : ℕ) (t : Transaction) (f : Row → Row) → ((r : Row) → (f r).branch.peer.node ≡ r.branch.peer.node) → ((q == p) ≡ false → w ≡ false)
    → ((q == p) ≡ true → (r : Row) → find_row t.rows p ≡ Some r → is_sound t.phase r.branch ≡ true → RowLeads k w t.phase r.branch t.phase (f r).branch) → RowTo k w p t (with_row t q f)
row_to k w p q t f peer other mine = go (q == p) refl (find_row t.rows p) refl
  where
    phase : (with_row t q f).phase ≡ t.phase
    phase = grind arith

    go : (b : Bool) → (q == p) ≡ b → (o : Option Row) → find_row t.rows p ≡ o → RowTo k w p t (with_row t q f)
    go false i o j = same_to k w p t (with_row t q f) (row_with t q f p peer ∙ rw i refl) phase (other i)
    go true i None j = No_row j (row_with t q f p peer ∙ rw (i, j) refl)
    go true i (Some r) j = One_row r (f r) j (row_with t q f p peer ∙ rw (i, j) refl) (λ s. subst (λ (h : Phase). RowLeads k w t.phase r.branch h (f r).branch) (sym phase) (mine i r j s))

-- ---- steps

leading : (e : TxEvent) (s : Transaction) (p : ℕ) (t : Transaction) (a : Turn) → IsFair e s p t a → IsPassed e s t a
    → (sees t p ≡ true → loses e p ≡ false → is_under_at t.key p ≡ false → of_row true is_sound t p ≡ true → stays true p a.outs ≡ true → RowTo (answers e s p) (some_closing (carried_to true p a.outs)) p t a.next) → IsLeading e s p t a
leading e s p t a fair passed to = record { fair = fair; passed = passed; leads = λ saw kept down sound st. leads_of e s p t a sound (to saw kept down sound st) }

leading_same : (e : TxEvent) (s : Transaction) (p : ℕ) (t : Transaction) (a : Turn) → IsFair e s p t a → IsPassed e s t a → find_row a.next.rows p ≡ find_row t.rows p → a.next.phase ≡ t.phase → some_closing (carried_to true p a.outs) ≡ false → IsLeading e s p t a
leading_same e s p t a fair passed rows phase none = leading e s p t a fair passed (λ saw kept down sound st. same_to (answers e s p) _ p t a.next rows phase none)

-- a transaction in which no round is open
leading_idle : (e : TxEvent) (s : Transaction) (p : ℕ) (t : Transaction) (a : Turn) → IsFair e s p t a → IsPassed e s t a → find_row a.next.rows p ≡ find_row t.rows p → (is_active a.next.phase ≡ false)
    → (sees t p ≡ true → (r : Row) → find_row t.rows p ≡ Some r → is_sound t.phase r.branch ≡ true → (opens t.phase r.branch ≡ false) × (lags t.phase r.branch ≡ false)) → IsLeading e s p t a
leading_idle e s p t a fair passed rows after idle = leading e s p t a fair passed (λ saw kept down sound st. go saw (find_row t.rows p) refl)
  where
    go : sees t p ≡ true → (o : Option Row) → find_row t.rows p ≡ o → RowTo (answers e s p) (some_closing (carried_to true p a.outs)) p t a.next
    go saw None i = No_row i (rows ∙ i)
    go saw (Some r) i =
        One_row r r i (rows ∙ i)
        (λ sound. let k = idle saw r i sound in row_idle (answers e s p) _ t.phase r.branch a.next.phase r.branch k.0 k.1 (grind (arith, after)) (grind (arith, after)))

-- ---- words that rules carry

up_carried : (p : ℕ) (t : Transaction) (r : DialogueRecord) → is_under_at t.key p ≡ false → carried_to true p (carry_up t r) ≡ []
up_carried p t r down = grind (arith, down)

down_closes : (p : ℕ) (rows : List Row) (r : DialogueRecord) (w : Row) → find_row rows p ≡ Some w → w.live ≡ true → w.branch.left ≡ false → is_closing r ≡ true → some_closing (carried_to true p (carry_down rows r)) ≡ true
down_closes p [] r w h l n c = absurd cc
down_closes p (x ∷ rows) r w h l n c = grind (arith, nat_tests, h, l, n, c, down_closes p rows r w)

prepare_closes : (p : ℕ) (rows : List Row) (w : Row) → find_row rows p ≡ Some w → w.branch.prepared ≡ false → some_closing (carried_to true p (prepare_each rows)) ≡ true
prepare_closes p [] w h n = absurd cc
prepare_closes p (x ∷ rows) w h n = grind (arith, nat_tests, h, n, prepare_closes p rows w)

find_prepared : (rows : List Row) (p : ℕ) → find_row (all_prepared rows) p ≡ elim (find_row rows p) as (λ _. Option Row) [ None ↦ None | Some r ↦ Some (record r { branch = record r.branch { prepared = true } }) ]
find_prepared [] p = refl
find_prepared (r ∷ rows) p = grind (arith, find_prepared rows p)

asked_none : (p : ℕ) (a : Aaid) (rows : List Row) → carried_to true p (ask_each a rows) ≡ []
asked_none p a [] = refl
asked_none p a (r ∷ rows) = grind (arith, asked_none p a rows)

retried_none : (p : ℕ) (t : Transaction) → some_closing (carried_to true p (retried t)) ≡ false
retried_none p t = grind (arith, carried_append, closing_append, asked_none)

-- ---- the rules

leading_commit : (e : TxEvent) (s : Transaction) (p : ℕ) (t : Transaction) → IsFair e s p t (complete_commit t) → IsPassed e s t (complete_commit t) → is_committing t.phase ≡ true → IsLeading e s p t (complete_commit t)
unfolding complete_commit
leading_commit e s p t fair passed c = leading_idle e s p t (complete_commit t) fair passed (grind arith) (grind (arith, c)) (λ saw r i sound. (grind (arith, c), grind (arith, c)))

rolled_row : (rows : List Row) (p : ℕ) (r : Row) → find_row rows p ≡ Some r → all_rolled_back rows ≡ true → (r.branch.ended || r.branch.left || not r.live) ≡ true
rolled_row [] p r h all = absurd cc
rolled_row (x ∷ rows) p r h all = grind (arith, h, all, rolled_row rows p r)

leading_rollback : (e : TxEvent) (s : Transaction) (p : ℕ) (t : Transaction) → IsFair e s p t (complete_rollback t) → IsPassed e s t (complete_rollback t) → is_rolling t.phase ≡ true → IsLeading e s p t (complete_rollback t)
unfolding complete_rollback
leading_rollback e s p t fair passed c = go (not t.owes && all_rolled_back t.rows && (t.superior_rolled || not t.up)) refl fair passed
  where
    over : Turn
    over = turn (carry_up t (DialogueRecord.RolledBack (join t.own (reports_of t.rows))) ++ (TxOut.Tell (Indication.RollbackComplete (join t.own (reports_of t.rows))) ∷ [])) (record t { phase = Phase.Nil })

    go : (b : Bool) → (not t.owes && all_rolled_back t.rows && (t.superior_rolled || not t.up)) ≡ b → IsFair e s p t (if b then over else turn [] t) → IsPassed e s t (if b then over else turn [] t) → IsLeading e s p t (if b then over else turn [] t)
    go false i f q = leading_same e s p t (turn [] t) f q refl refl refl
    go true i f q =
        let all : all_rolled_back t.rows ≡ true = grind (arith, i) in
        leading_idle e s p t over f q refl refl
        (λ saw r found sound.
        let gone = rolled_row t.rows p r found all in
        let live : (r.live || r.branch.ended || r.branch.left) ≡ true = grind (arith, saw, found) in
        (grind (arith, c), grind (arith, c, gone, live)))

up_stays : (p : ℕ) (t : Transaction) (r : DialogueRecord) → stays true p (carry_up t r) ≡ true
up_stays p t r = grind arith

leading_rolls : (e : TxEvent) (s : Transaction) (p : ℕ) (t : Transaction) (asked : Bool) → IsFair e s p t (begin_rolling asked t) → IsPassed e s t (begin_rolling asked t) → (is_active t.phase || is_ready t.phase) ≡ true → IsLeading e s p t (begin_rolling asked t)
unfolding begin_rolling
leading_rolls e s p t asked fair passed ok = leading e s p t (begin_rolling asked t) fair passed (λ saw kept down sound st. go saw down (find_row t.rows p) refl)
  where
    outs : List TxOut
    outs = (if asked then [] else TxOut.Tell Indication.Rollback ∷ []) ++ carry_up t DialogueRecord.Rollback ++ carry_down t.rows DialogueRecord.Rollback

    words : is_under_at t.key p ≡ false → carried_to true p outs ≡ carried_to true p (carry_down t.rows DialogueRecord.Rollback)
    words down = split asked
      where
        up : carried_to true p (carry_up t DialogueRecord.Rollback ++ carry_down t.rows DialogueRecord.Rollback) ≡ carried_to true p (carry_down t.rows DialogueRecord.Rollback)
        up = carried_append true p (carry_up t DialogueRecord.Rollback) (carry_down t.rows DialogueRecord.Rollback) ∙ rw (up_carried p t DialogueRecord.Rollback down, up_stays p t DialogueRecord.Rollback) refl

        split : (b : Bool) → carried_to true p ((if b then [] else TxOut.Tell Indication.Rollback ∷ []) ++ carry_up t DialogueRecord.Rollback ++ carry_down t.rows DialogueRecord.Rollback) ≡ carried_to true p (carry_down t.rows DialogueRecord.Rollback)
        split true = up
        split false = up

    go : sees t p ≡ true → is_under_at t.key p ≡ false → (o : Option Row) → find_row t.rows p ≡ o → RowTo (answers e s p) (some_closing (carried_to true p outs)) p t (begin_rolling asked t).next
    go saw down None i = No_row i i
    go saw down (Some r) i = One_row r r i i (λ sound. row sound)
      where
        row : is_sound t.phase r.branch ≡ true → RowLeads (answers e s p) (some_closing (carried_to true p outs)) t.phase r.branch Phase.Rolling r.branch
        row sound = record {
          sound = refl;
          opens_so = λ k o. let w = closing o in rw w refl;
          shut = λ o. refl;
          lags_so = λ l. let act : (r.branch.ended || r.branch.left) ≡ false = grind (arith, ok, l, sound) in rw act refl;
          closes = λ k o w. grind (arith, ok, o, sound);
        }
          where
            closing : opens t.phase r.branch ≡ true → some_closing (carried_to true p outs) ≡ true
            closing o =
                let live : r.live ≡ true = grind (arith, saw, i, o, sound) in
                let here : r.branch.left ≡ false = grind (arith, o) in
                ap some_closing (words down) ∙ down_closes p t.rows DialogueRecord.Rollback r i live here refl

settled_row : (rows : List Row) (p : ℕ) (r : Row) → find_row rows p ≡ Some r → all_settled rows ≡ true → (r.branch.counted || r.branch.left) ≡ true
settled_row [] p r h all = absurd cc
settled_row (x ∷ rows) p r h all = grind (arith, h, all, settled_row rows p r)

settled_idle : (t : Transaction) (p : ℕ) (r : Row) → find_row t.rows p ≡ Some r → is_sound t.phase r.branch ≡ true → is_active t.phase ≡ true → all_settled t.rows ≡ true → (opens t.phase r.branch ≡ false) × (lags t.phase r.branch ≡ false)
settled_idle t p r found sound act all = let s = settled_row t.rows p r found all in (grind (arith, sound, act, s), grind (arith, sound, act, s))

leading_order : (e : TxEvent) (s : Transaction) (p : ℕ) (t : Transaction) → IsFair e s p t (order t) → IsPassed e s t (order t) → (is_active t.phase ≡ true) × (all_settled t.rows ≡ true) ⊎ (is_ready t.phase ≡ true) → IsLeading e s p t (order t)
unfolding order
leading_order e s p t fair passed (inl h) = leading_idle e s p t (order t) fair passed refl refl (λ saw r i sound. settled_idle t p r i sound h.0 h.1)
leading_order e s p t fair passed (inr h) = leading_idle e s p t (order t) fair passed refl refl (λ saw r i sound. (grind (arith, h), grind (arith, h)))

left_row : (rows : List Row) (p : ℕ) (r : Row) → find_row rows p ≡ Some r → all_left rows ≡ true → r.branch.left ≡ true
left_row [] p r h all = absurd cc
left_row (x ∷ rows) p r h all = grind (arith, h, all, left_row rows p r)

leading_leave : (e : TxEvent) (s : Transaction) (p : ℕ) (t : Transaction) → IsFair e s p t (leave t) → IsPassed e s t (leave t) → is_active t.phase ≡ true → all_left t.rows ≡ true → IsLeading e s p t (leave t)
unfolding leave
leading_leave e s p t fair passed act all = leading_idle e s p t (leave t) fair passed (grind arith) (grind arith) (λ saw r i sound. let l = left_row t.rows p r i all in (grind (arith, act, l), grind (arith, act, l)))

leading_ask : (e : TxEvent) (s : Transaction) (p : ℕ) (t : Transaction) → IsFair e s p t (ask_commit t) → IsPassed e s t (ask_commit t) → is_active t.phase ≡ true → IsLeading e s p t (ask_commit t)
unfolding ask_commit
leading_ask e s p t fair passed act = leading e s p t (ask_commit t) fair passed (λ saw kept down sound st. go (find_row t.rows p) refl)
  where
    go : (o : Option Row) → find_row t.rows p ≡ o → RowTo (answers e s p) (some_closing (carried_to true p (prepare_each t.rows))) p t (ask_commit t).next
    go None i = No_row i (find_prepared t.rows p ∙ rw i refl)
    go (Some r) i = One_row r (record r { branch = record r.branch { prepared = true } }) i (find_prepared t.rows p ∙ rw i refl) (λ sound. record {
      sound = grind (arith, sound, act);
      opens_so = λ k o. let w = prepare_closes p t.rows r i (grind (arith, o)) in rw w (grind arith);
      shut = λ o. grind arith;
      lags_so = λ l. grind (arith, l, act);
      closes = λ k o w. grind (arith, o, sound, act);
    })

leading_count : (e : TxEvent) (s : Transaction) (p q : ℕ) → IsFair e s p s (count_branch q s) → IsPassed e s s (count_branch q s) → e ≡ TxEvent.Took q DialogueRecord.Ready → is_active s.phase ≡ true → row_holds s.rows q (λ b. b.prepared && not b.counted) ≡ true → IsLeading e s p s (count_branch q s)
unfolding count_branch
leading_count e s p q fair passed is act holds = leading e s p s (count_branch q s) fair passed (λ saw kept down sound st. row_to (answers e s p) false p q s (λ r. record r { branch = record r.branch { counted = true } }) (λ r. refl) (λ o. refl) mine)
  where
    mine : (q == p) ≡ true → (r : Row) → find_row s.rows p ≡ Some r → is_sound s.phase r.branch ≡ true → RowLeads (answers e s p) false s.phase r.branch s.phase (record r.branch { counted = true })
    mine i r found sound =
        let same : q ≡ p = grind (arith, nat_tests, i) in
        let here : row_holds s.rows p (λ b. b.prepared && not b.counted) ≡ true = subst (λ (n : ℕ). row_holds s.rows n (λ b. b.prepared && not b.counted) ≡ true) same holds in
        let told : r.branch.prepared ≡ true = grind (arith, here, found) in
        let k : answers e s p ≡ true = ap (λ (f : TxEvent). answers f s p) is ∙ i in
        record { sound = grind (arith, sound, told); opens_so = λ x o. absurd (cc (x, k)); shut = λ o. grind (arith, told); lags_so = λ l. grind (arith, k); closes = λ x o w. absurd (cc (x, k)) }

-- a branch ends
leading_end : (e : TxEvent) (s : Transaction) (p q : ℕ) (r : Report) (t : Transaction) → IsFair e s p t (end_branch q r t) → IsPassed e s t (end_branch q r t) → is_active t.phase ≡ false → (is_rolling t.phase ≡ true → (q == p) ≡ true → answers e s p ≡ true) → IsLeading e s p t (end_branch q r t)
unfolding end_branch
leading_end e s p q r t fair passed act rolled = leading e s p t (end_branch q r t) fair passed (λ saw kept down sound st. row_to (answers e s p) (some_closing (carried_to true p (tell_report q r))) p q t (λ w. record w { branch = record w.branch { ended = true; report = r } }) (λ w. refl) (λ o. grind arith) mine)
  where
    mine : (q == p) ≡ true → (w : Row) → find_row t.rows p ≡ Some w → is_sound t.phase w.branch ≡ true → RowLeads (answers e s p) (some_closing (carried_to true p (tell_report q r))) t.phase w.branch t.phase (record w.branch { ended = true; report = r })
    mine i w found sound = go (is_rolling t.phase) refl
      where
        go : (b : Bool) → is_rolling t.phase ≡ b → RowLeads (answers e s p) (some_closing (carried_to true p (tell_report q r))) t.phase w.branch t.phase (record w.branch { ended = true; report = r })
        go true j = let k : answers e s p ≡ true = rolled j i in record { sound = grind (arith, act); opens_so = λ x o. absurd (cc (x, k)); shut = λ o. grind (arith, act); lags_so = λ l. grind (arith, k); closes = λ x o v. absurd (cc (x, k)) }
        go false j = row_idle (answers e s p) _ t.phase w.branch t.phase _ (grind (arith, act)) (grind (arith, act, j)) (grind (arith, act)) (grind (arith, act))

leading_left : (e : TxEvent) (s : Transaction) (p q : ℕ) (t : Transaction) → IsFair e s p t (branch_left q t) → IsPassed e s t (branch_left q t) → is_active t.phase ≡ true → ((q == p) ≡ true → answers e s p ≡ true) → IsLeading e s p t (branch_left q t)
unfolding branch_left
leading_left e s p q t fair passed act answered = leading e s p t (branch_left q t) fair passed (λ saw kept down sound st. row_to (answers e s p) false p q t (λ r. record r { branch = record r.branch { left = true } }) (λ r. refl) (λ o. refl) mine)
  where
    mine : (q == p) ≡ true → (r : Row) → find_row t.rows p ≡ Some r → is_sound t.phase r.branch ≡ true → RowLeads (answers e s p) false t.phase r.branch t.phase (record r.branch { left = true })
    mine i r found sound = let k : answers e s p ≡ true = answered i in record { sound = grind (arith, sound); opens_so = λ x o. absurd (cc (x, k)); shut = λ o. grind arith; lags_so = λ l. grind (arith, k); closes = λ x o w. absurd (cc (x, k)) }

leading_prepares : (e : TxEvent) (s : Transaction) (p q : ℕ) → IsFair e s p s (turn (TxOut.Carry q DialogueRecord.Prepare ∷ []) (with_branch s q (λ b. record b { prepared = true }))) → IsPassed e s s (turn (TxOut.Carry q DialogueRecord.Prepare ∷ []) (with_branch s q (λ b. record b { prepared = true })))
    → IsLeading e s p s (turn (TxOut.Carry q DialogueRecord.Prepare ∷ []) (with_branch s q (λ b. record b { prepared = true })))
leading_prepares e s p q fair passed =
    leading e s p s _ fair passed (λ saw kept down sound st. row_to (answers e s p) (some_closing (carried_to true p (TxOut.Carry q DialogueRecord.Prepare ∷ []))) p q s (λ r. record r { branch = record r.branch { prepared = true } }) (λ r. refl) (λ o. grind (arith, o)) mine)
  where
    mine : (q == p) ≡ true → (r : Row) → find_row s.rows p ≡ Some r → is_sound s.phase r.branch ≡ true → RowLeads (answers e s p) (some_closing (carried_to true p (TxOut.Carry q DialogueRecord.Prepare ∷ []))) s.phase r.branch s.phase (record r.branch { prepared = true })
    mine i r found sound = let w : some_closing (carried_to true p (TxOut.Carry q DialogueRecord.Prepare ∷ [])) ≡ true = grind (arith, i) in record {
      sound = grind (arith, sound);
      opens_so = λ k o. rw w (grind arith);
      shut = λ o. grind arith;
      lags_so = λ l. grind (arith, l);
      closes = λ k o x. grind (arith, o, sound);
    }

-- the arc with the peer goes, or is another's
leading_gone : (e : TxEvent) (s : Transaction) (p q : ℕ) (t : Transaction) (outs : List TxOut) (f : Row → Row) → ((r : Row) → (f r).branch.peer.node ≡ r.branch.peer.node) → ((q == p) ≡ false → some_closing (carried_to true p outs) ≡ false)
    → ((q == p) ≡ true → loses e p ≡ false → stays true p outs ≡ true → ⊥) → IsFair e s p t (turn outs (with_row t q f)) → IsPassed e s t (turn outs (with_row t q f)) → IsLeading e s p t (turn outs (with_row t q f))
leading_gone e s p q t outs f peer other dead fair passed =
    leading e s p t (turn outs (with_row t q f)) fair passed (λ saw kept down sound st. row_to (answers e s p) (some_closing (carried_to true p outs)) p q t f peer other (λ i r found so. absurd (dead i kept st)))

leading_lost : (e : TxEvent) (s : Transaction) (p q : ℕ) (t : Transaction) (outs : List TxOut) → ((q == p) ≡ false → some_closing (carried_to true p outs) ≡ false) → ((q == p) ≡ true → loses e p ≡ false → stays true p outs ≡ true → ⊥)
    → IsFair e s p t (turn outs (with_arc_lost t q)) → IsPassed e s t (turn outs (with_arc_lost t q)) → IsLeading e s p t (turn outs (with_arc_lost t q))
leading_lost e s p q t outs other dead fair passed = go (is_under_at t.key q) fair passed
  where
    lost : Row → Row
    lost r = record r { live = false; ends = false }

    at : Bool → Transaction
    at b = if b then record t { up = false; up_ends = false } else with_row t q lost

    go : (b : Bool) → IsFair e s p t (turn outs (at b)) → IsPassed e s t (turn outs (at b)) → IsLeading e s p t (turn outs (at b))
    go true f k = leading e s p t (turn outs (at true)) f k (λ saw kept down sound st. same_to (answers e s p) (some_closing (carried_to true p outs)) p t (at true) refl refl (none (q == p) refl kept st))
      where
        none : (b : Bool) → (q == p) ≡ b → loses e p ≡ false → stays true p outs ≡ true → some_closing (carried_to true p outs) ≡ false
        none true i kept st = absurd (dead i kept st)
        none false i kept st = other i
    go false f k = leading_gone e s p q t outs lost (λ r. refl) other dead f k

-- ---- chains

left_of : (a b : Bool) → (a || b) ≡ true → b ≡ false → a ≡ true
left_of true b h i = refl
left_of false b h i = absurd (cc (h, i))

right_of : (a b : Bool) → (a || b) ≡ true → a ≡ false → b ≡ true
right_of true b h i = absurd (cc (i))
right_of false b h i = h

leads_then : (e : TxEvent) (s : Transaction) (p : ℕ) (t : Transaction) (a b c : Turn) → c.outs ≡ a.outs ++ b.outs → c.next ≡ b.next → IsLeading e s p t a → IsLeading e s p a.next b → sees t p ≡ true → loses e p ≡ false → is_under_at t.key p ≡ false
    → of_row true is_sound t p ≡ true → stays true p c.outs ≡ true → Leads e s p t c
leads_then e s p t a b c outs next one two saw kept down sound st = go (stays true p a.outs) refl
  where
    all : stays true p (a.outs ++ b.outs) ≡ true
    all = ap (stays true p) (sym outs) ∙ st

    go : (x : Bool) → stays true p a.outs ≡ x → Leads e s p t c
    go false n = let gone : stays true p (a.outs ++ b.outs) ≡ false = stays_append true p a.outs b.outs ∙ rw n (dead_stays p b.outs) in absurd (cc (gone, all))
    go true n =
        let live : stays true p b.outs ≡ true = sym (stays_append true p a.outs b.outs ∙ rw n refl) ∙ all in
        let first = one.leads saw kept down sound n in
        let second = two.leads ((one.fair.facts saw kept).seen_after n) kept (ap (λ (k : Key). is_under_at k p) one.passed.key ∙ down) first.sound live in
        let split : carried_to true p (a.outs ++ b.outs) ≡ carried_to true p a.outs ++ carried_to true p b.outs = carried_append true p a.outs b.outs ∙ rw n refl in
        let words : some_closing (carried_to true p c.outs) ≡ (some_closing (carried_to true p a.outs) || some_closing (carried_to true p b.outs)) =
        ap (λ (os : List TxOut). some_closing (carried_to true p os)) outs ∙ ap some_closing split ∙ closing_append (carried_to true p a.outs) (carried_to true p b.outs) in
        subst (λ (u : Transaction). Leads e s p t (record c { next = u })) (sym next) (joined first second words)
      where
        joined : Leads e s p t a → Leads e s p a.next b → some_closing (carried_to true p c.outs) ≡ (some_closing (carried_to true p a.outs) || some_closing (carried_to true p b.outs)) → Leads e s p t (record c { next = b.next })
        joined first second words = record {
          sound = second.sound;
          open_so = λ k o. opens_both k o (some_closing (carried_to true p a.outs)) refl;
          shut = λ o. second.shut (first.shut o);
          lag_so = λ l. lags_both (of_row false lags a.next p) refl (first.lag_so l);
          closes = λ k o w. closes_both k o (some_closing (carried_to true p a.outs)) refl (sym words ∙ w);
        }
          where
            opens_both : answers e s p ≡ false → of_row false opens t p ≡ true → (x : Bool) → some_closing (carried_to true p a.outs) ≡ x → of_row false opens b.next p ≡ not (some_closing (carried_to true p c.outs))
            opens_both k o true i = second.shut (first.open_so k o ∙ rw i refl) ∙ sym (ap not words ∙ rw i refl)
            opens_both k o false i = second.open_so k (first.open_so k o ∙ rw i refl) ∙ sym (ap not words ∙ rw i refl)

            lags_both : (x : Bool) → of_row false lags a.next p ≡ x → (x || answers e s p) ≡ true → (of_row false lags b.next p || answers e s p) ≡ true
            lags_both true i h = second.lag_so i
            lags_both false i h = or_right (of_row false lags b.next p) (answers e s p) h

            closes_both : answers e s p ≡ false → of_row false opens t p ≡ true → (x : Bool) → some_closing (carried_to true p a.outs) ≡ x → (some_closing (carried_to true p a.outs) || some_closing (carried_to true p b.outs)) ≡ true → of_row false lags b.next p ≡ true
            closes_both k o true i w = left_of (of_row false lags b.next p) (answers e s p) (second.lag_so (first.closes k o i)) k
            closes_both k o false i w = second.closes k (first.open_so k o ∙ rw i refl) (right_of (some_closing (carried_to true p a.outs)) (some_closing (carried_to true p b.outs)) w i)

-- ---- the steps

left_answers : (e : TxEvent) (s : Transaction) (p q : ℕ) (w : DialogueRecord) → e ≡ TxEvent.Took q w → is_left_word w ≡ true → (q == p) ≡ true → answers e s p ≡ true
left_answers e s p q DialogueRecord.Left is left i = ap (λ (f : TxEvent). answers f s p) is ∙ i
left_answers e s p q DialogueRecord.LeftEnd is left i = ap (λ (f : TxEvent). answers f s p) is ∙ i
left_answers e s p q w is left i = absurd (cc (left))

leading_turns : (e : TxEvent) (s : Transaction) (p : ℕ) → Turns e s (IsFair e s p) → Turns e s (IsPassed e s) → Turns e s (IsLeading e s p)
leading_turns e s p f q = record {
  still = λ t. leading_same e s p t _ (f.still t) (q.still t) refl refl refl;
  first = λ t u outs a one two. record {
    fair = f.first t u outs a one.fair two.fair;
    passed = q.first t u outs a one.passed two.passed;
    leads = leads_then e s p t (turn outs u) a _ refl refl one two;
  };
  chain = λ t a k one two none. record {
    fair = f.chain t a k one.fair two.fair none;
    passed = q.chain t a k one.passed two.passed none;
    leads = leads_then e s p t a (k a.next) _ refl refl one two;
  };
  tells = λ t i n. leading_same e s p t _ (f.tells t i n) (q.tells t i n) refl refl refl;
  notes_prepare = λ pr cl. leading_same e s p s _ (f.notes_prepare pr cl) (q.notes_prepare pr cl) refl refl refl;
  notes_done = λ is. leading_same e s p s _ (f.notes_done is) (q.notes_done is) refl refl refl;
  notes_end = λ k is. leading_same e s p s _ (f.notes_end k is) (q.notes_end k is) refl refl refl;
  notes_rollback = λ ro cl. leading_same e s p s _ (f.notes_rollback ro cl) (q.notes_rollback ro cl) refl refl refl;
  defers_end = λ k is. leading e s p s _ (f.defers_end k is) (q.defers_end k is) (λ saw kept down sound st. row_to (answers e s p) (some_closing (carried_to true p (TxOut.Carry k DialogueRecord.DeferEnd ∷ []))) p k s (λ r. record r { ends = true }) (λ r. refl) (λ o. grind arith) (λ i r found so. subst (λ (v : Bool). RowLeads (answers e s p) v s.phase r.branch s.phase r.branch) (sym (quiet_defer k)) (row_still (answers e s p) s.phase r.branch so)));
  defers_grant = λ k is. leading_same e s p s _ (f.defers_grant k is) (q.defers_grant k is) refl refl (grind arith);
  prepares = λ k. leading_prepares e s p k (f.prepares k) (q.prepares k);
  asks = λ is act asked told. leading_ask e s p s (f.asks is act asked told) (q.asks is act asked told) act;
  asks_again = leading_same e s p s _ f.asks_again q.asks_again refl refl (retried_none p s);
  decides = λ o is ready. leading_same e s p s (decide o s) (f.decides o is ready) (q.decides o is ready) refl refl refl;
  aborts = λ k is. leading_lost e s p k s _ (λ o. grind (arith, o)) (λ i kept st. grind (arith, i, st)) (f.aborts k is) (q.aborts k is);
  loses_arc = λ k gone. leading_lost e s p k s [] (λ o. refl) (λ i kept st. let same : k ≡ p = grind (arith, nat_tests, i) in cc (kept, ap (loses e) (sym same) ∙ gone)) (f.loses_arc k gone) (q.loses_arc k gone);
  closes_left = λ k is. leading_gone e s p k s _ row_dead (λ r. refl) (λ o. refl) (λ i kept st. grind (arith, i, st)) (f.closes_left k is) (q.closes_left k is);
  gives_up = λ k r is c found. leading e s p s (shut_given_up k r s) (f.gives_up k r is c found) (q.gives_up k r is c found)
      (λ saw kept down sound st. row_to (answers e s p) (some_closing (carried_to true p (if r.live then TxOut.Shut k ∷ [] else []))) p k s (λ w. record w { branch = record w.branch { given_up = true }; live = false; ends = false }) (λ w. refl) (λ o. grind arith)
      (λ i w at so. row_idle (answers e s p) _ s.phase w.branch s.phase _ (grind (arith, c)) (grind (arith, c)) (grind (arith, c)) (grind (arith, c))));
  counts = λ k is act row. leading_count e s p k (f.counts k is act row) (q.counts k is act row) is act row;
  ends_done = λ k r is c row. leading_end e s p k r s (f.ends_done k r is c row) (q.ends_done k r is c row) (grind (arith, c)) (λ j i. absurd (grind (arith, c, j)));
  ends_replied = λ b w r is found o. leading_end e s p w.branch.peer.node r s (f.ends_replied b w r is found o) (q.ends_replied b w r is found o) (grind (arith, o)) (λ j i. absurd (grind (arith, o, j)));
  ends_rolled = λ k r is c row. leading_end e s p k r s (f.ends_rolled k r is c row) (q.ends_rolled k r is c row) (grind (arith, c)) (λ j i. ap (λ (g : TxEvent). answers g s p) is ∙ rw (i, c) refl);
  leaves_below = λ k w t is left at act. leading_left e s p k t (f.leaves_below k w t is left at act) (q.leaves_below k w t is left at act) act (left_answers e s p k w is left);
  leaves_rolling = λ k w t is left at c. leading_end e s p k Report.None t (f.leaves_rolling k w t is left at c) (q.leaves_rolling k w t is left at c) (grind (arith, c)) (λ j i. left_answers e s p k w is left i);
  votes = λ t act asked all under. leading_idle e s p t (vote t) (f.votes t act asked all under) (q.votes t act asked all under) refl refl (λ saw r i sound. settled_idle t p r i sound act all);
  orders_root = λ t act asked all root. leading_order e s p t (f.orders_root t act asked all root) (q.orders_root t act asked all root) (inl (act, all));
  orders_ready = λ ready is. leading_order e s p s (f.orders_ready ready is) (q.orders_ready ready is) (inr ready);
  rolls = λ t asked fall ok. leading_rolls e s p t asked (f.rolls t asked fall ok) (q.rolls t asked fall ok) ok;
  completes_commit = λ t c. leading_commit e s p t (f.completes_commit t c) (q.completes_commit t c) c;
  completes_rollback = λ t c. leading_rollback e s p t (f.completes_rollback t c) (q.completes_rollback t c) c;
  leaves = λ is act under asked all. leading_leave e s p s (f.leaves is act under asked all) (q.leaves is act under asked all) act all;
}
  where
    quiet_defer : (k : ℕ) → some_closing (carried_to true p (TxOut.Carry k DialogueRecord.DeferEnd ∷ [])) ≡ false
    quiet_defer k = grind arith

-- every event of a transaction
pub leading_turn : (e : TxEvent) (s : Transaction) (p : ℕ) → IsPut e s → IsLeading e s p s (transacted e s)
leading_turn e s p put = every_turn e s (IsLeading e s p) (leading_turns e s p (fair_turns e s p) (passed_turns e s)) put
