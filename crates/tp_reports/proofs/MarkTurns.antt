-- The branches that a turn keeps as owed, and those whose commitment it orders, are its transaction's: an instance of the steps of a
-- turn.
use Rattle.std.proofs.Common.{if◌then◌else◌, ◌≡◌, inl, inr, ℕ, Bool, true, false, refl, ap, sym, ◌∙◌, arith, Option, Some, None, List, [], ◌∷◌, ◌++◌, ◌&&◌, ◌==◌, not}
use Rattle.tp_names.specs.declared.identifiers.Aaid.{Aaid}
use Rattle.tp_names.specs.declared.identifiers.BranchId.{BranchId}
use Rattle.tp_names.specs.declared.identifiers.Addr.{Addr}
use Rattle.tp_names.specs.declared.children.Child.{Child}
use Rattle.tp_names.specs.declared.outcome.Outcome.{Outcome}
use Rattle.tp_names.specs.declared.outcome.Report.{Report}
use Rattle.tp_names.specs.Reports.{join, is_report_none}
use Rattle.tp_records.specs.declared.dialogue.DialogueRecord.{DialogueRecord}
use Rattle.tp_records.specs.declared.peer.PeerRecord.{PeerRecord}
use Rattle.tp_logrec.specs.declared.record.LogRec.{LogRec}
use Rattle.tp_model.specs.declared.transaction.TxEvent.{TxEvent}
use Rattle.tp_model.specs.declared.transaction.TxOut.{TxOut}
use Rattle.tp_model.specs.Parts.{Key, Root, Under}
use Rattle.tp_model.specs.Dialogues.{is_ready}
use Rattle.tp_model.specs.Transactions.{Row, Transaction, Turn, aaid_of, all_done, owed_of, reports_of, own_damage, log_ready, log_end, log_damage, is_own_commit, ask_each, complete_commit, complete_rollback, begin_rolling, order, ask_commit, leave, count_branch, end_branch, branch_left, transacted}
use Rattle.tp_steps.specs.Turns.{Turns, vote}
use Rattle.tp_steps.specs.Moves.{IsPut, IsRecoveryIn}
use Rattle.tp_steps.proofs.lemmas.Equality.{and_left, and_right}
use Rattle.tp_steps.proofs.every.EveryTurn.{every_turn}
use Rattle.tp_steps.proofs.log.KinTurns.{kids, IsKin, kin_turns}
use Rattle.tp_steps.proofs.every.EveryTurn.{quiet_rollback}
use Rattle.tp_steps.proofs.lemmas.Joined.{IsJoined, joined_up, joined_prepare, joined_forgets, joined_done, joined_retried, joined_commit, joined_unrolls, joined_rolls, joined_order, joined_leaves}

-- ---- identifiers of the marks of a node

abbrev pub is_of : ℕ → BranchId → Bool
is_of n b = b.mark.node == n

abbrev pub are_of : ℕ → List Child → Bool
are_of n [] = true
are_of n (c ∷ cs) = is_of n c.branch && are_of n cs

abbrev pub keeps_of : ℕ → Option LogRec → Bool
keeps_of n None = true
keeps_of n (Some (LogRec.Boot m)) = true
keeps_of n (Some (LogRec.Ready m k s cs)) = true
keeps_of n (Some (LogRec.Heuristic m k o)) = true
keeps_of n (Some (LogRec.Commit m k s cs)) = true
keeps_of n (Some (LogRec.Damage m k s o r cs)) = are_of n cs
keeps_of n (Some (LogRec.End m k o)) = true

-- of a branch whose commitment is ordered
abbrev orders_of : ℕ → PeerRecord → Bool
orders_of n (PeerRecord.RecCommit t b) = is_of n b
orders_of n _ = true

abbrev pub asks_of : ℕ → List TxOut → Bool
asks_of n [] = true
asks_of n (TxOut.Tell i ∷ outs) = asks_of n outs
asks_of n (TxOut.Carry p r ∷ outs) = asks_of n outs
asks_of n (TxOut.Shut p ∷ outs) = asks_of n outs
asks_of n (TxOut.Recovery a r ∷ outs) = orders_of n r && asks_of n outs
asks_of n (TxOut.Close p ∷ outs) = asks_of n outs

asks_append : (n : ℕ) (xs ys : List TxOut) → asks_of n (xs ++ ys) ≡ (asks_of n xs && asks_of n ys)
asks_append n [] ys = refl
asks_append n (TxOut.Tell i ∷ xs) ys = asks_append n xs ys
asks_append n (TxOut.Carry p r ∷ xs) ys = asks_append n xs ys
asks_append n (TxOut.Shut p ∷ xs) ys = asks_append n xs ys
asks_append n (TxOut.Recovery a r ∷ xs) ys = grind (arith, asks_append n xs ys)
asks_append n (TxOut.Close p ∷ xs) ys = asks_append n xs ys

pub asks_in : (n : ℕ) (outs : List TxOut) (a : Addr) (t : Aaid) (b : BranchId) → asks_of n outs ≡ true → IsRecoveryIn outs a (PeerRecord.RecCommit t b) → is_of n b ≡ true
asks_in n [] a t b h i = absurd i
asks_in n (TxOut.Tell x ∷ outs) a t b h i = asks_in n outs a t b h i
asks_in n (TxOut.Carry p x ∷ outs) a t b h i = asks_in n outs a t b h i
asks_in n (TxOut.Shut p ∷ outs) a t b h i = asks_in n outs a t b h i
asks_in n (TxOut.Recovery c r ∷ outs) a t b h (inl i) = ap (orders_of n) (sym i.1) ∙ and_left (orders_of n r) (asks_of n outs) h
asks_in n (TxOut.Recovery c r ∷ outs) a t b h (inr i) = asks_in n outs a t b (and_right (orders_of n r) (asks_of n outs) h) i
asks_in n (TxOut.Close p ∷ outs) a t b h i = asks_in n outs a t b h i

-- ---- turns

marked_more : (n : ℕ) (xs ys : List TxOut) → asks_of n xs ≡ true → asks_of n ys ≡ true → asks_of n (xs ++ ys) ≡ true
marked_more n xs ys h i = asks_append n xs ys ∙ rw (h, i) refl

abbrev Asks : ℕ → List TxOut → Type 0
Asks n outs = asks_of n outs ≡ true

asks_joined : (n : ℕ) → IsJoined (Asks n)
asks_joined n = record { none = refl; more = marked_more n }

asks_each : (n : ℕ) (u : Aaid) (rows : List Row) → are_of n (kids rows) ≡ true → asks_of n (ask_each u rows) ≡ true
asks_each n u [] h = refl
asks_each n u (r ∷ rows) h = let rest = asks_each n u rows (grind (arith, h)) in grind (arith, h, rest)

of_owed : (n : ℕ) (rows : List Row) → are_of n (kids rows) ≡ true → are_of n (owed_of rows) ≡ true
of_owed n [] h = refl
of_owed n (r ∷ rows) h = let rest = of_owed n rows (grind (arith, h)) in grind (arith, h, rest)

-- what the record keeps, and what the outputs order
abbrev pub Marks : ℕ → Turn → Type 0
Marks n a = (keeps_of n a.rec ≡ true) × (asks_of n a.outs ≡ true)

abbrev pub IsMarkedTurn : Transaction → Turn → Type 0
IsMarkedTurn t a = IsKin t a × ((n : ℕ) → are_of n (kids t.rows) ≡ true → Marks n a)

marked_vote : (n : ℕ) (t : Transaction) → Marks n (vote t)
marked_vote n t = (go t.key, joined_up (Asks n) (asks_joined n) t DialogueRecord.Ready (λ q. refl))
  where
    go : (k : Key) → keeps_of n (log_ready (record t { key = k })) ≡ true
    go (Root a) = refl
    go (Under a b s) = refl

marked_order : (n : ℕ) (t : Transaction) → Marks n (order t)
unfolding order
marked_order n t = (refl, joined_order (Asks n) (asks_joined n) t refl (λ q. refl))

marked_rolls : (n : ℕ) (asked : Bool) (t : Transaction) → Marks n (begin_rolling asked t)
unfolding begin_rolling
marked_rolls n asked t = (go (not (is_ready t.phase)) (is_own_commit t), joined_rolls (Asks n) (asks_joined n) asked t refl (λ q. refl))
  where
    go : (b c : Bool) → keeps_of n (if b then None else if c then Some (log_damage t Outcome.Rollback Report.Mix []) else Some (log_end t Outcome.Rollback)) ≡ true
    go true c = refl
    go false true = refl
    go false false = refl

marked_completes : (n : ℕ) (t : Transaction) → are_of n (kids t.rows) ≡ true → Marks n (complete_commit t)
unfolding complete_commit
marked_completes n t h = go (not t.owes && all_done t.rows) refl
  where
    x : Report
    x = join (own_damage t.decision) (reports_of t.rows)

    end : (c : Bool) → keeps_of n (Some (if c then log_end t Outcome.Commit else log_damage t Outcome.Commit x (owed_of t.rows))) ≡ true
    end true = refl
    end false = of_owed n t.rows h

    go : (b : Bool) → (not t.owes && all_done t.rows) ≡ b → Marks n (complete_commit t)
    go true i = rw i (end (is_report_none x), joined_commit (Asks n) (asks_joined n) t x (joined_forgets (Asks n) (asks_joined n) (aaid_of t.key) t.rows (λ z b. refl)) (joined_done (Asks n) (asks_joined n) t x (λ q. refl) (λ a b z k. refl)) refl (λ q. refl))
    go false i = rw i (refl, refl)

marked_unrolls : (n : ℕ) (t : Transaction) → Marks n (complete_rollback t)
marked_unrolls n t = (ap (keeps_of n) (quiet_rollback t), joined_unrolls (Asks n) (asks_joined n) t (λ q r. refl) (λ r. refl))

marked_leaves : (n : ℕ) (t : Transaction) → Marks n (leave t)
unfolding leave
marked_leaves n t = (refl, joined_leaves (Asks n) (asks_joined n) t (λ q. refl) (λ q. refl) (λ q. refl))

marked_then : (n : ℕ) (x y : Option LogRec) → keeps_of n x ≡ true → keeps_of n y ≡ true → keeps_of n (elim y as (λ _. Option LogRec) [ None ↦ x | Some r ↦ Some r ]) ≡ true
marked_then n x None h i = h
marked_then n x (Some r) h i = i

marked_turns : (e : TxEvent) (s : Transaction) → Turns e s IsMarkedTurn
unfolding ask_commit count_branch end_branch branch_left
marked_turns e s = record {
  still = λ t. (kin_of.still t, λ n h. (refl, refl));
  first = λ t u outs a one two. (kin_of.first t u outs a one.0 two.0, λ n h. let w = two.1 n (ap (are_of n) one.0 ∙ h) in (w.0, marked_more n outs a.outs (one.1 n h).1 w.1));
  chain = λ t a f one two none. (
    kin_of.chain t a f one.0 two.0 none,
    λ n h.
        let x = one.1 n h in
        let y = two.1 n (ap (are_of n) one.0 ∙ h) in
        (marked_then n a.rec (f a.next).rec x.0 y.0, marked_more n a.outs (f a.next).outs x.1 y.1),
  );
  tells = λ t i off. (kin_of.tells t i off, λ n h. (refl, refl));
  notes_prepare = λ pr c. (kin_of.notes_prepare pr c, λ n h. (refl, refl));
  notes_done = λ is. ((kin_of.notes_done is), λ n h. (refl, refl));
  notes_end = λ q is. (kin_of.notes_end q is, λ n h. (refl, refl));
  notes_rollback = λ ro c. (kin_of.notes_rollback ro c, λ n h. (refl, refl));
  defers_end = λ q is. (kin_of.defers_end q is, λ n h. (refl, refl));
  defers_grant = λ q is. (kin_of.defers_grant q is, λ n h. (refl, refl));
  prepares = λ q. (kin_of.prepares q, λ n h. (refl, refl));
  asks = λ is act asked told. (kin_of.asks is act asked told, λ n h. (refl, joined_prepare (Asks n) (asks_joined n) s.rows (λ q. refl)));
  asks_again = (kin_of.asks_again, λ n h. (refl, joined_retried (Asks n) (asks_joined n) s refl (λ a b z k. refl) (λ c. asks_each n (aaid_of s.key) s.rows h)));
  decides = λ o is ready. (kin_of.decides o is ready, λ n h. (refl, refl));
  aborts = λ q is. (kin_of.aborts q is, λ n h. (refl, refl));
  loses_arc = λ q gone. (kin_of.loses_arc q gone, λ n h. (refl, refl));
  closes_left = λ q is. (kin_of.closes_left q is, λ n h. (refl, refl));
  gives_up = λ q r is c found. (kin_of.gives_up q r is c found, λ n h. (refl, grind arith));
  counts = λ q is act row. (kin_of.counts q is act row, λ n h. (refl, refl));
  ends_done = λ q r is c row. (kin_of.ends_done q r is c row, λ n h. (refl, grind arith));
  ends_replied = λ b w r is found o. (kin_of.ends_replied b w r is found o, λ n h. (refl, grind arith));
  ends_rolled = λ q r is c row. (kin_of.ends_rolled q r is c row, λ n h. (refl, grind arith));
  leaves_below = λ q w t is left at act. (kin_of.leaves_below q w t is left at act, λ n h. (refl, refl));
  leaves_rolling = λ q w t is left at c. (kin_of.leaves_rolling q w t is left at c, λ n h. (refl, refl));
  votes = λ t act asked all under. (kin_of.votes t act asked all under, λ n h. marked_vote n t);
  orders_root = λ t act asked all root. (kin_of.orders_root t act asked all root, λ n h. marked_order n t);
  orders_ready = λ ready is. (kin_of.orders_ready ready is, λ n h. marked_order n s);
  rolls = λ t asked f ok. (kin_of.rolls t asked f ok, λ n h. marked_rolls n asked t);
  completes_commit = λ t c. (kin_of.completes_commit t c, λ n h. marked_completes n t h);
  completes_rollback = λ t c. (kin_of.completes_rollback t c, λ n h. marked_unrolls n t);
  leaves = λ is act under asked all. (kin_of.leaves is act under asked all, λ n h. marked_leaves n s);
}
  where
    kin_of : Turns e s IsKin
    kin_of = kin_turns e s

pub marked_turn : (e : TxEvent) (s : Transaction) → IsPut e s → IsMarkedTurn s (transacted e s)
marked_turn e s put = every_turn e s IsMarkedTurn (marked_turns e s) put
