-- What an event of a transaction makes of the node's own report: it stays, and so does whether the transaction rolls; or it
-- rolls from now on, and the report is damage if the turn logs one.
use Rattle.tp_history_state.proofs.Vocabulary.{if◌then◌else◌, ◌≡◌, ◌⊎◌, inl, ℕ, Bool, true, false, refl, ap, sym, subst, ◌∙◌, arith, Option, Some, None, List, [], ◌∷◌, ◌||◌, false_from_ne_true, Report, Indication, DialogueRecord, LogRec, Phase, TxEvent, TxOut, Current, is_nil, is_active, is_ready, is_rolling, Row, Transaction, Turn, turn, and_then, before, with_row, with_branch, with_arc_lost, all_done, complete_commit, complete_rollback, begin_rolling, order, ask_commit, leave, count_branch, end_branch, branch_left, retried, remaining, falls, vote, decide, row_dead, shut_given_up, Turns, is_damage}

abbrev pub damages : Option LogRec → Bool
damages r = elim r as (λ _. Bool) [ None ↦ false | Some x ↦ is_damage x ]

-- ---- a step: the report and whether it rolls stay, or it rolls from now on

abbrev IsSteady : Bool → Report → Bool → Report → Bool → Bool → Type 0
IsSteady fall r roll s down dam = (s ≡ r) × (down ≡ roll) × (fall ≡ true → dam ≡ false)

abbrev IsFelled : Bool → Report → Bool → Report → Bool → Bool → Type 0
IsFelled fall r roll s down dam = (fall ≡ true) × (roll ≡ false) × (down ≡ true) × (s ≡ (if dam then Report.Mix else r))

-- the second only if A
abbrev pub IsPass : Type 0 → Bool → Report → Bool → Report → Bool → Bool → Type 0
IsPass A fall r roll s down dam = IsSteady fall r roll s down dam ⊎ (A × IsFelled fall r roll s down dam)

pub pass_then : (A B : Type 0) → (B → A) → (fall : Bool) (r s t : Report) (a b c x y : Bool) → IsPass A fall r a s b x → IsPass B fall s b t c y → IsPass A fall r a t c (x || y)
pass_then A B h1 fall r s t a b c x y h2 h3 = grind arith

pub damages_then : (x y : Option LogRec) → (x ≡ None) ⊎ (y ≡ None) → damages (elim y as (λ _. Option LogRec) [ None ↦ x | Some r ↦ Some r ]) ≡ (damages x || damages y)
damages_then x y h1 = grind arith

-- ---- a turn

abbrev pub IsOwn : Bool → Transaction → Turn → Type 0
IsOwn fall t a = (is_nil t.phase ≡ true → is_nil a.next.phase ≡ true) × (is_nil a.next.phase ≡ false → IsPass (Unit {0}) fall t.own (is_rolling t.phase) a.next.own (is_rolling a.next.phase) (damages a.rec))

steady : (fall : Bool) (t : Transaction) (a : Turn) → a.next.own ≡ t.own → a.next.phase ≡ t.phase → damages a.rec ≡ false → IsOwn fall t a
steady fall t a own phase none = (λ h. ap is_nil phase ∙ h, λ h. inl (own, ap is_rolling phase, λ f. none))

-- the phase changes, and the transaction does not roll
calm : (fall : Bool) (t : Transaction) (a : Turn) → a.next.own ≡ t.own → is_nil t.phase ≡ false → is_rolling t.phase ≡ false → is_rolling a.next.phase ≡ false → damages a.rec ≡ false → IsOwn fall t a
calm fall t a own on one two none = (λ h. absurd (cc (on, h)), λ h. inl (own, two ∙ sym one, λ f. none))

over : (fall : Bool) (t : Transaction) (a : Turn) → is_nil a.next.phase ≡ true → IsOwn fall t a
over fall t a nil = (λ h. nil, λ h. absurd (cc (nil, h)))

row_own : (t : Transaction) (q : ℕ) (f : Row → Row) → ((with_row t q f).own ≡ t.own) × ((with_row t q f).phase ≡ t.phase)
row_own t q f = (grind arith, grind arith)

lost_own : (t : Transaction) (q : ℕ) → ((with_arc_lost t q).own ≡ t.own) × ((with_arc_lost t q).phase ≡ t.phase)
lost_own t q = (grind (arith, row_own), grind (arith, row_own))

early : (t : Transaction) → (is_active t.phase || is_ready t.phase) ≡ true → (is_nil t.phase ≡ false) × (is_rolling t.phase ≡ false)
early t h = (grind (arith, h), grind (arith, h))

active_early : (p : Phase) → is_active p ≡ true → (is_active p || is_ready p) ≡ true
active_early p h = rw h refl

ready_early : (p : Phase) → is_ready p ≡ true → (is_active p || is_ready p) ≡ true
ready_early p h = grind (arith, h)

own_orders : (fall : Bool) (t : Transaction) → (is_active t.phase || is_ready t.phase) ≡ true → IsOwn fall t (order t)
unfolding order
own_orders fall t h = let k = early t h in calm fall t (order t) refl k.0 k.1 refl refl

own_rolls : (fall asked : Bool) (t : Transaction) → fall ≡ true → (is_active t.phase || is_ready t.phase) ≡ true → IsOwn fall t (begin_rolling asked t)
unfolding begin_rolling
own_rolls fall asked t fell h = grind (arith, early)

own_commits : (fall : Bool) (t : Transaction) → IsOwn fall t (complete_commit t)
unfolding complete_commit
own_commits fall t = grind (arith, all_done)

own_unrolls : (fall : Bool) (t : Transaction) → IsOwn fall t (complete_rollback t)
unfolding complete_rollback
own_unrolls fall t = grind arith

own_leaves : (fall : Bool) (t : Transaction) → IsOwn fall t (leave t)
unfolding leave
own_leaves fall t = over fall t (leave t) refl

own_asks : (fall : Bool) (t : Transaction) → IsOwn fall t (ask_commit t)
unfolding ask_commit
own_asks fall t = steady fall t (ask_commit t) refl refl refl

own_counts : (fall : Bool) (t : Transaction) (q : ℕ) → IsOwn fall t (count_branch q t)
unfolding count_branch
own_counts fall t q = let k = row_own t q (λ r. record r { branch = record r.branch { counted = true } }) in steady fall t (count_branch q t) k.0 k.1 refl

own_ends : (fall : Bool) (t : Transaction) (q : ℕ) (x : Report) → IsOwn fall t (end_branch q x t)
unfolding end_branch
own_ends fall t q x = let k = row_own t q (λ r. record r { branch = record r.branch { ended = true; report = x } }) in steady fall t (end_branch q x t) k.0 k.1 refl

own_left : (fall : Bool) (t : Transaction) (q : ℕ) → IsOwn fall t (branch_left q t)
unfolding branch_left
own_left fall t q = let k = row_own t q (λ r. record r { branch = record r.branch { left = true } }) in steady fall t (branch_left q t) k.0 k.1 refl

own_votes : (fall : Bool) (t : Transaction) → is_active t.phase ≡ true → IsOwn fall t (vote t)
own_votes fall t act = grind (arith, active_early, early)

own_then : (fall : Bool) (t : Transaction) (a : Turn) (f : Transaction → Turn) → IsOwn fall t a → IsOwn fall a.next (f a.next) → (a.rec ≡ None) ⊎ ((f a.next).rec ≡ None) → IsOwn fall t (and_then a f)
own_then fall t a f one two none = (
  λ h. two.0 (one.0 h),
  λ h.
      let mid : is_nil a.next.phase ≡ false = false_from_ne_true (is_nil a.next.phase) (λ i. let on = two.0 i in cc (on, h)) in
      subst (λ (v : Bool). IsPass (Unit {0}) fall t.own (is_rolling t.phase) (f a.next).next.own (is_rolling (f a.next).next.phase) v) (sym (damages_then a.rec (f a.next).rec none))
      (pass_then (Unit {0}) (Unit {0}) (λ x. x) fall t.own a.next.own (f a.next).next.own (is_rolling t.phase) (is_rolling a.next.phase) (is_rolling (f a.next).next.phase) (damages a.rec) (damages (f a.next).rec) (one.1 mid) (two.1 h)),
)

own_first : (fall : Bool) (t u : Transaction) (outs : List TxOut) (a : Turn) → IsOwn fall t (turn outs u) → IsOwn fall u a → IsOwn fall t (before outs a)
own_first fall t u outs a one two = (
  λ h. two.0 (one.0 h),
  λ h.
      let mid : is_nil u.phase ≡ false = false_from_ne_true (is_nil u.phase) (λ i. let on = two.0 i in cc (on, h)) in
      pass_then (Unit {0}) (Unit {0}) (λ x. x) fall t.own u.own a.next.own (is_rolling t.phase) (is_rolling u.phase) (is_rolling a.next.phase) false (damages a.rec) (one.1 mid) (two.1 h),
)

pub own_turns : (fall : Bool) (e : TxEvent) (s : Transaction) → (falls e s ≡ true → fall ≡ true) → Turns e s (IsOwn fall)
own_turns fall e s so = record {
  still = λ t. steady fall t (turn [] t) refl refl refl;
  first = λ t u outs a one two. own_first fall t u outs a one two;
  chain = λ t a f one two none. own_then fall t a f one two none;
  tells = λ t i n. steady fall t (turn (TxOut.Tell i ∷ []) t) refl refl refl;
  notes_prepare = λ pr h. steady fall s (turn (TxOut.Tell Indication.Prepare ∷ []) (record s { told_prepare = true })) refl refl refl;
  notes_done = λ is. steady fall s (turn [] (record s { owes = false })) refl refl refl;
  notes_end = λ q is. steady fall s (turn (TxOut.Tell (Indication.DeferEnd q) ∷ []) (record s { up_ends = true })) refl refl refl;
  notes_rollback = λ ro h. steady fall s (turn [] (record s { superior_rolled = true })) refl refl refl;
  defers_end = λ q is. let k = row_own s q (λ r. record r { ends = true }) in steady fall s (turn (TxOut.Carry q DialogueRecord.DeferEnd ∷ []) (with_row s q (λ r. record r { ends = true }))) k.0 k.1 refl;
  defers_grant = λ q is. steady fall s (turn (TxOut.Carry q DialogueRecord.DeferGrant ∷ []) s) refl refl refl;
  prepares = λ q. let k = row_own s q (λ r. record r { branch = record r.branch { prepared = true } }) in steady fall s (turn (TxOut.Carry q DialogueRecord.Prepare ∷ []) (with_branch s q (λ b. record b { prepared = true }))) k.0 k.1 refl;
  asks = λ is act asked told. own_asks fall s;
  asks_again = steady fall s (turn (retried s) s) refl refl refl;
  decides = λ o is ready. steady fall s (decide o s) refl refl refl;
  aborts = λ q is. let k = lost_own s q in steady fall s (turn (TxOut.Carry q DialogueRecord.UAbort ∷ TxOut.Close q ∷ []) (with_arc_lost s q)) k.0 k.1 refl;
  loses_arc = λ q gone. let k = lost_own s q in steady fall s (turn [] (with_arc_lost s q)) k.0 k.1 refl;
  closes_left = λ q is. let k = row_own s q row_dead in steady fall s (turn (TxOut.Close q ∷ []) (with_row s q row_dead)) k.0 k.1 refl;
  gives_up = λ q r is c found. let k = row_own s q (λ w. record w { branch = record w.branch { given_up = true }; live = false; ends = false }) in steady fall s (shut_given_up q r s) k.0 k.1 refl;
  counts = λ q is act row. own_counts fall s q;
  ends_done = λ q r is c row. own_ends fall s q r;
  ends_replied = λ b w r is found o. own_ends fall s w.branch.peer.node r;
  ends_rolled = λ q r is c row. own_ends fall s q r;
  leaves_below = λ q w t is left at act. own_left fall t q;
  leaves_rolling = λ q w t is left at c. own_ends fall t q Report.None;
  votes = λ t act asked all under. own_votes fall t act;
  orders_root = λ t act asked all root. own_orders fall t (active_early t.phase act);
  orders_ready = λ ready is. own_orders fall s (ready_early s.phase ready);
  rolls = λ t asked f ok. own_rolls fall asked t (so f) ok;
  completes_commit = λ t c. own_commits fall t;
  completes_rollback = λ t c. own_unrolls fall t;
  leaves = λ is act under asked all. own_leaves fall s;
}

-- what remains of a transaction
pub left_own : (t : Transaction) (u : Current) → remaining t ≡ Some u → (u.own ≡ t.own) × (u.phase ≡ t.phase) × (is_nil t.phase ≡ false)
left_own t u i = grind arith
