-- What every rule of a transaction leaves as it is, unless the transaction is over after it: its key, what
-- it sees of its arcs, and the arcs themselves.
use Rattle.std.proofs.Common.{◌≡◌, ℕ, Bool, true, false, refl, ap, sym, subst, ◌∙◌, arith, Option, List, [], ◌∷◌, ◌++◌, ◌&&◌, ◌||◌, not, if◌then◌else◌}
use Rattle.tp_names.specs.declared.identifiers.Aaid.{Aaid}
use Rattle.tp_names.specs.declared.outcome.Report.{Report}
use Rattle.tp_records.specs.declared.indication.Indication.{Indication}
use Rattle.tp_records.specs.declared.dialogue.DialogueRecord.{DialogueRecord}
use Rattle.tp_logrec.specs.declared.record.LogRec.{LogRec}
use Rattle.tp_model.specs.declared.arc.Phase.{Phase}
use Rattle.tp_model.specs.declared.transaction.TxOut.{TxOut}
use Rattle.tp_model.specs.Parts.{Key, Root, Under}
use Rattle.tp_model.specs.Dialogues.{is_nil, is_active, is_committing, is_rolling}
use Rattle.tp_model.specs.Transactions.{Row, Transaction, Turn, turn, and_then, is_under, is_under_at, row_holds, is_waited_for, with_arc_lost, all_settled, all_done, all_rolled_back, log_ready, carry_up, carry_down, tell_report, complete_commit, complete_rollback, begin_rolling, roll, order, settle, prepare_each, ask_commit, count_branch, end_branch, branch_left, lost_arc, complete, superior_rolls, takes_left, ask_each, retried, logging, part_by_part}
use Rattle.tp_commit.specs.declared.row.Note.{Note}
use Rattle.tp_commit.specs.Row.{noted_at}
use Rattle.tp_commit.proofs.Notes.{noted_row}
use Rattle.tp_commit.proofs.Arcs.{shuts_none, none_append}
use Rattle.tp_commit.proofs.Marks.{IsMarked, unmarked, marked_then, is_mark, marked_note, marked_prepared}

pub record IsStill (t : Transaction) (a : Turn) : Type 0 where
  pub node : a.next.node ≡ t.node
  pub key : a.next.key ≡ t.key
  pub up : a.next.up ≡ t.up
  pub up_ends : a.next.up_ends ≡ t.up_ends
  pub rows : IsMarked t.rows a.next.rows
  pub outs : shuts_none a.outs ≡ true
  pub commits : is_committing t.phase ≡ true → is_committing a.next.phase ≡ true

-- unless it is over
abbrev pub Goes : Transaction → Turn → Type 0
Goes t a = is_nil a.next.phase ≡ false → IsStill t a

-- ---- chains

pub still_then : (t : Transaction) (a b : Turn) (r : Option LogRec) → IsStill t a → IsStill a.next b → IsStill t (record { rec = r; outs = a.outs ++ b.outs; completion = part_by_part a.completion b.completion; next = b.next })
still_then t a b r one two = record {
  node = two.node ∙ one.node;
  key = two.key ∙ one.key;
  up = two.up ∙ one.up;
  up_ends = two.up_ends ∙ one.up_ends;
  rows = marked_then t.rows a.next.rows b.next.rows one.rows two.rows;
  outs = none_append a.outs b.outs ∙ ap (λ v. v && shuts_none b.outs) one.outs ∙ two.outs;
  commits = λ h. two.commits (one.commits h);
}

pub goes_then : (t : Transaction) (a b : Turn) (r : Option LogRec) → IsStill t a → Goes a.next b → Goes t (record { rec = r; outs = a.outs ++ b.outs; completion = part_by_part a.completion b.completion; next = b.next })
goes_then t a b r one two late = still_then t a b r one (two late)

-- ---- outputs

up_none : (t : Transaction) (r : DialogueRecord) → shuts_none (carry_up t r) ≡ true
up_none t r = go t.key t.up
  where
    go : (k : Key) (up : Bool) → shuts_none (carry_up (record t { key = k; up = up }) r) ≡ true
    go (Root a) up = refl
    go (Under a b s) true = refl
    go (Under a b s) false = refl

down_none : (rows : List Row) (r : DialogueRecord) → shuts_none (carry_down rows r) ≡ true
down_none [] r = refl
down_none (x ∷ rows) r = grind (arith, down_none rows r)

prepare_none : (rows : List Row) → shuts_none (prepare_each rows) ≡ true
prepare_none [] = refl
prepare_none (r ∷ rows) = grind (arith, prepare_none rows)

tell_none : (p : ℕ) (r : Report) → shuts_none (tell_report p r) ≡ true
tell_none p r = grind arith

ask_none : (a : Aaid) (rows : List Row) → shuts_none (ask_each a rows) ≡ true
ask_none a [] = refl
ask_none a (r ∷ rows) = grind (arith, ask_none a rows)

pub retried_none : (t : Transaction) → shuts_none (retried t) ≡ true
retried_none t = go t.phase t.key t.owes
  where
    go : (p : Phase) (k : Key) (owes : Bool) → shuts_none (retried (record t { phase = p; key = k; owes = owes })) ≡ true
    go Phase.Nil k owes = refl
    go Phase.Active k owes = refl
    go Phase.Ready (Root a) owes = refl
    go Phase.Ready (Under a b s) owes = refl
    go Phase.Committing (Root a) true = ask_none a t.rows
    go Phase.Committing (Root a) false = ask_none a t.rows
    go Phase.Committing (Under a b s) true = ask_none a t.rows
    go Phase.Committing (Under a b s) false = ask_none a t.rows
    go Phase.Rolling k owes = refl

-- ---- rules

pub still_turn : (t : Transaction) (outs : List TxOut) → shuts_none outs ≡ true → IsStill t (turn outs t)
still_turn t outs h = record { node = refl; key = refl; up = refl; up_ends = refl; rows = unmarked t.rows; outs = h; commits = λ i. i }

pub over : (t : Transaction) (a : Turn) → a.next.phase ≡ Phase.Nil → Goes t a
over t a nil late = absurd (cc (ap is_nil nil, late))

chosen : (t : Transaction) (b : Bool) (x y : Turn) → (b ≡ true → Goes t x) → (b ≡ false → Goes t y) → Goes t (if b then x else y)
chosen t true x y one two = one refl
chosen t false x y one two = two refl

-- completion, or nothing
completes : (t : Transaction) (b : Bool) (x : Turn) → x.next.phase ≡ Phase.Nil → Goes t (if b then x else turn [] t)
completes t b x nil = chosen t b x (turn [] t) (λ i. over t x nil) (λ i late. still_turn t [] refl)

pub goes_commit : (t : Transaction) → Goes t (complete_commit t)
unfolding complete_commit
goes_commit t = completes t (not t.owes && all_done t.rows) _ refl

pub goes_rollback : (t : Transaction) → Goes t (complete_rollback t)
unfolding complete_rollback
goes_rollback t = completes t (not t.owes && all_rolled_back t.rows && (t.superior_rolled || not t.up)) _ refl

pub still_order : (t : Transaction) → IsStill t (order t)
unfolding order
still_order t = record {
  node = refl;
  key = refl;
  up = refl;
  up_ends = refl;
  rows = unmarked t.rows;
  outs = none_append (carry_down t.rows DialogueRecord.Commit) (TxOut.Tell Indication.Commit ∷ []) ∙ ap (λ v. v && true) (down_none t.rows DialogueRecord.Commit);
  commits = λ h. refl;
}

still_begin : (asked : Bool) (t : Transaction) → is_committing t.phase ≡ false → IsStill t (begin_rolling asked t)
unfolding begin_rolling
still_begin asked t not_yet = record {
  node = refl;
  key = refl;
  up = refl;
  up_ends = refl;
  rows = unmarked t.rows;
  outs = told asked;
  commits = λ h. absurd (cc (h, not_yet));
}
  where
    rest : shuts_none (carry_up t DialogueRecord.Rollback ++ carry_down t.rows DialogueRecord.Rollback) ≡ true
    rest = none_append (carry_up t DialogueRecord.Rollback) (carry_down t.rows DialogueRecord.Rollback) ∙ ap (λ v. v && shuts_none (carry_down t.rows DialogueRecord.Rollback)) (up_none t DialogueRecord.Rollback) ∙ down_none t.rows DialogueRecord.Rollback

    told : (b : Bool) → shuts_none ((if b then [] else TxOut.Tell Indication.Rollback ∷ []) ++ carry_up t DialogueRecord.Rollback ++ carry_down t.rows DialogueRecord.Rollback) ≡ true
    told true = rest
    told false = rest

pub goes_roll : (asked : Bool) (t : Transaction) → is_committing t.phase ≡ false → Goes t (roll asked t)
goes_roll asked t not_yet = goes_then t (begin_rolling asked t) (complete_rollback (begin_rolling asked t).next) _ (still_begin asked t not_yet) (goes_rollback (begin_rolling asked t).next)

still_vote : (t : Transaction) (r : Option LogRec) → is_active t.phase ≡ true → IsStill t (logging r (turn (carry_up t DialogueRecord.Ready) (record t { phase = Phase.Ready })))
still_vote t r active = record {
  node = refl;
  key = refl;
  up = refl;
  up_ends = refl;
  rows = unmarked t.rows;
  outs = up_none t DialogueRecord.Ready;
  commits = λ h. absurd (both t.phase active h);
}
  where
    both : (p : Phase) → is_active p ≡ true → is_committing p ≡ true → ⊥
    both Phase.Nil a b = cc
    both Phase.Active a b = cc
    both Phase.Ready a b = cc
    both Phase.Committing a b = cc
    both Phase.Rolling a b = cc

pub still_settle : (t : Transaction) → IsStill t (settle t)
unfolding settle
still_settle t = settled (is_active t.phase && t.asked && all_settled t.rows) (is_under t.key) _ (λ i. still_vote t (log_ready t) (grind (arith, i)))
  where
    settled : (a b : Bool) (vote : Turn) → (a ≡ true → IsStill t vote) → IsStill t (if a then (if b then vote else order t) else turn [] t)
    settled false b vote h = still_turn t [] refl
    settled true true vote h = h refl
    settled true false vote h = still_order t

pub still_ask : (t : Transaction) → IsStill t (ask_commit t)
unfolding ask_commit
still_ask t = record { node = refl; key = refl; up = refl; up_ends = refl; rows = marked_prepared t.rows; outs = prepare_none t.rows; commits = λ h. h }

-- a mark on the branch with that peer
pub still_mark : (t : Transaction) (p : ℕ) (n : Note) (outs : List TxOut) (u : Transaction) → is_mark n ≡ true → shuts_none outs ≡ true → u ≡ record t { rows = noted_at t.rows p n } → IsStill t (turn outs u)
still_mark t p n outs u mark none e =
    subst (λ (v : Transaction). IsStill t (turn outs v)) (sym e)
    (record { node = refl; key = refl; up = refl; up_ends = refl; rows = marked_note t.rows p n mark; outs = none; commits = λ h. h })

pub still_count : (p : ℕ) (t : Transaction) → IsStill t (count_branch p t)
unfolding count_branch
still_count p t = still_mark t p Note.Counted (TxOut.Tell (Indication.Ready p) ∷ []) _ refl refl (noted_row t p Note.Counted)

pub still_end : (p : ℕ) (r : Report) (t : Transaction) → IsStill t (end_branch p r t)
unfolding end_branch
still_end p r t = still_mark t p (Note.Ended r) (tell_report p r) _ refl (tell_none p r) (noted_row t p (Note.Ended r))

pub still_left : (p : ℕ) (t : Transaction) → IsStill t (branch_left p t)
unfolding branch_left
still_left p t = still_mark t p Note.Left (TxOut.Tell (Indication.Left p) ∷ []) _ refl refl (noted_row t p Note.Left)

-- ---- what several events share

active_only : (p : Phase) → is_active p ≡ true → is_committing p ≡ false
active_only Phase.Nil h = refl
active_only Phase.Active h = refl
active_only Phase.Ready h = refl
active_only Phase.Committing h = absurd cc
active_only Phase.Rolling h = refl

-- where the arc is gone already
pub goes_lost : (p : ℕ) (t : Transaction) → with_arc_lost t p ≡ t → Goes t (lost_arc p t)
unfolding lost_arc
goes_lost p t e =
    subst
    (λ (u : Transaction). Goes t (if is_active t.phase && (is_under_at t.key p || row_holds t.rows p is_waited_for) then roll false u else if is_rolling t.phase then complete_rollback u else turn [] u))
    (sym e)
    (go (is_active t.phase && (is_under_at t.key p || row_holds t.rows p is_waited_for)) (is_rolling t.phase) refl)
  where
    go : (a b : Bool) → (is_active t.phase && (is_under_at t.key p || row_holds t.rows p is_waited_for)) ≡ a → Goes t (if a then roll false t else if b then complete_rollback t else turn [] t)
    go true b i late = goes_roll false t (active_only t.phase (grind (arith, i))) late
    go false true i late = goes_rollback t late
    go false false i late = still_turn t [] refl

pub goes_complete : (t : Transaction) → Goes t (complete t)
goes_complete t = go t.phase
  where
    go : (p : Phase) → Goes t (elim p as (λ _. Turn) [ Phase.Nil ↦ turn [] t | Phase.Active ↦ turn [] t | Phase.Ready ↦ turn [] t | Phase.Committing ↦ complete_commit t | Phase.Rolling ↦ complete_rollback t ])
    go Phase.Nil late = still_turn t [] refl
    go Phase.Active late = still_turn t [] refl
    go Phase.Ready late = still_turn t [] refl
    go Phase.Committing late = goes_commit t late
    go Phase.Rolling late = goes_rollback t late

pub goes_superior : (t : Transaction) → is_committing t.phase ≡ false → Goes t (superior_rolls t)
goes_superior t not_yet = go (is_rolling t.phase)
  where
    u : Transaction
    u = record t { superior_rolled = true }

    noted_first : IsStill t (turn [] u)
    noted_first = record { node = refl; key = refl; up = refl; up_ends = refl; rows = unmarked t.rows; outs = refl; commits = λ h. h }

    go : (b : Bool) → Goes t (if b then complete_rollback u else roll false u)
    go true late = still_then t (turn [] u) (complete_rollback u) (complete_rollback u).rec noted_first (goes_rollback u late)
    go false late = still_then t (turn [] u) (roll false u) (roll false u).rec noted_first (goes_roll false u not_yet late)

pub goes_left : (p : ℕ) (t : Transaction) → Goes t (takes_left p t)
goes_left p t = chosen t (is_active t.phase) (and_then left settle) (and_then ended complete_rollback) (λ i late. still_then t left (settle left.next) _ (still_left p t) (still_settle left.next))
    (λ i late. still_then t ended (complete_rollback ended.next) _ (still_end p Report.None t) (goes_rollback ended.next late))
  where
    left : Turn
    left = branch_left p t

    ended : Turn
    ended = end_branch p Report.None t
