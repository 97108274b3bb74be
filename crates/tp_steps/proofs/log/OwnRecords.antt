-- A node forces records of its own number alone: an instance of the steps of a turn, and of those of a node.
use Rattle.std.proofs.Common.{if◌then◌else◌, ◌≡◌, inl, inr, ℕ, Bool, true, false, refl, sym, subst, ◌∙◌, arith, Option, Some, None, List, [], ◌∷◌, ◌&&◌, not}
use Rattle.tp_names.specs.declared.outcome.Outcome.{Outcome}
use Rattle.tp_names.specs.declared.outcome.Report.{Report}
use Rattle.tp_names.specs.Reports.{join, is_report_none}
use Rattle.tp_logrec.specs.declared.record.LogRec.{LogRec}
use Rattle.tp_model.specs.declared.transaction.TxEvent.{TxEvent}
use Rattle.tp_model.specs.declared.recovery.Kept.{Kept}
use Rattle.tp_model.specs.declared.recovery.KeptEvent.{KeptEvent}
use Rattle.tp_model.specs.Parts.{Who, Event, Key, Root, Under, Digest}
use Rattle.tp_model.specs.Dialogues.{is_ready}
use Rattle.tp_model.specs.Transactions.{Row, Transaction, Turn, all_done, with_row, with_arc_lost, log_ready, log_end, log_damage, is_own_commit, own_damage, reports_of, owed_of, complete_commit, complete_rollback, begin_rolling, order, ask_commit, leave, count_branch, end_branch, branch_left, transacted}
use Rattle.tp_model.specs.Recovery.{settled, kept_after, not_forgotten}
use Rattle.tp_model.specs.Node.{Move, seen, begin_on}
use Rattle.tp_steps.specs.Turns.{Turns, vote}
use Rattle.tp_steps.specs.Moves.{Moves, IsPut, IsAmong}
use Rattle.tp_steps.proofs.every.EveryTurn.{every_turn}
use Rattle.tp_steps.proofs.every.BeginCases.{begin_cases}
use Rattle.tp_steps.proofs.lemmas.EachKept.{IsEach, each_after, each_noted, each_unnoted}

abbrev pub IsOwnRec : ℕ → Option LogRec → Type 0
IsOwnRec n None = Unit {0}
IsOwnRec n (Some (LogRec.Boot m)) = ⊥
IsOwnRec n (Some (LogRec.Ready m k s cs)) = m ≡ n
IsOwnRec n (Some (LogRec.Heuristic m k o)) = m ≡ n
IsOwnRec n (Some (LogRec.Commit m k s cs)) = m ≡ n
IsOwnRec n (Some (LogRec.Damage m k s o r cs)) = m ≡ n
IsOwnRec n (Some (LogRec.End m k o)) = m ≡ n

own_then : (n : ℕ) (x y : Option LogRec) → IsOwnRec n x → IsOwnRec n y → IsOwnRec n (elim y as (λ _. Option LogRec) [ None ↦ x | Some r ↦ Some r ])
own_then n x None h i = h
own_then n x (Some r) h i = i

-- ---- turns

abbrev pub IsOwnTurn : Transaction → Turn → Type 0
IsOwnTurn t a = (a.next.node ≡ t.node) × IsOwnRec t.node a.rec

row_node : (t : Transaction) (q : ℕ) (f : Row → Row) → (with_row t q f).node ≡ t.node
row_node t q f = grind arith

lost_node : (t : Transaction) (q : ℕ) → (with_arc_lost t q).node ≡ t.node
lost_node t q = grind (arith, row_node)

own_vote : (t : Transaction) → IsOwnTurn t (vote t)
own_vote t = (refl, go t.key)
  where
    go : (k : Key) → IsOwnRec t.node (log_ready (record t { key = k }))
    go (Root a) = tt
    go (Under a b s) = refl

own_order : (t : Transaction) → IsOwnTurn t (order t)
unfolding order
own_order t = (refl, refl)

own_rolls : (asked : Bool) (t : Transaction) → IsOwnTurn t (begin_rolling asked t)
unfolding begin_rolling
own_rolls asked t = (refl, go (not (is_ready t.phase)) (is_own_commit t))
  where
    go : (b c : Bool) → IsOwnRec t.node (if b then None else if c then Some (log_damage t Outcome.Rollback Report.Mix []) else Some (log_end t Outcome.Rollback))
    go true c = tt
    go false true = refl
    go false false = refl

own_completes : (t : Transaction) → IsOwnTurn t (complete_commit t)
unfolding complete_commit
own_completes t = go (not t.owes && all_done t.rows) (is_report_none (join (own_damage t.decision) (reports_of t.rows))) refl
  where
    end : (c : Bool) (r : Report) → IsOwnRec t.node (Some (if c then log_end t Outcome.Commit else log_damage t Outcome.Commit r (owed_of t.rows)))
    end true r = refl
    end false r = refl

    go : (b c : Bool) → (not t.owes && all_done t.rows) ≡ b → IsOwnTurn t (complete_commit t)
    go true c h = rw h (refl, end (is_report_none (join (own_damage t.decision) (reports_of t.rows))) (join (own_damage t.decision) (reports_of t.rows)))
    go false c h = rw h (refl, tt)

own_unrolls : (t : Transaction) → IsOwnTurn t (complete_rollback t)
unfolding complete_rollback
own_unrolls t = (grind arith, rw (quiet t) tt)
  where
    quiet : (t : Transaction) → (complete_rollback t).rec ≡ None
    quiet t = grind arith

pub own_turns : (e : TxEvent) (s : Transaction) → Turns e s IsOwnTurn
unfolding ask_commit leave count_branch end_branch branch_left
own_turns e s = record {
  still = λ t. (refl, tt);
  first = λ t u outs a one two. (two.0 ∙ one.0, subst (λ (n : ℕ). IsOwnRec n a.rec) one.0 two.1);
  chain = λ t a f one two none. (two.0 ∙ one.0, own_then t.node a.rec (f a.next).rec one.1 (subst (λ (n : ℕ). IsOwnRec n (f a.next).rec) one.0 two.1));
  tells = λ t i n. (refl, tt);
  notes_prepare = λ pr cl. (refl, tt);
  notes_done = λ is. (refl, tt);
  notes_end = λ q is. (refl, tt);
  notes_rollback = λ ro cl. (refl, tt);
  defers_end = λ q is. (row_node s q _, tt);
  defers_grant = λ q is. (refl, tt);
  prepares = λ q. (row_node s q _, tt);
  asks = λ is act asked told. (refl, tt);
  asks_again = (refl, tt);
  decides = λ o is ready. (refl, refl);
  aborts = λ q is. (lost_node s q, tt);
  loses_arc = λ q gone. (lost_node s q, tt);
  closes_left = λ q is. (row_node s q _, tt);
  gives_up = λ q r is c found. (row_node s q _, tt);
  counts = λ q is act row. (row_node s q _, tt);
  ends_done = λ q r is c row. (row_node s q _, tt);
  ends_replied = λ b w r is found o. (row_node s w.branch.peer.node _, tt);
  ends_rolled = λ q r is c row. (row_node s q _, tt);
  leaves_below = λ q w t is left at act. (row_node t q _, tt);
  leaves_rolling = λ q w t is left at c. (row_node t q _, tt);
  votes = λ t act asked all under. own_vote t;
  orders_root = λ t act asked all root. own_order t;
  orders_ready = λ ready is. own_order s;
  rolls = λ t asked f ok. own_rolls asked t;
  completes_commit = λ t c. own_completes t;
  completes_rollback = λ t c. own_unrolls t;
  leaves = λ is act under asked all. (refl, tt);
}

pub own_turn : (e : TxEvent) (s : Transaction) → IsPut e s → IsOwnTurn s (transacted e s)
own_turn e s put = every_turn e s IsOwnTurn (own_turns e s) put

-- ---- the kept transactions of a node

abbrev pub AreAt : ℕ → List Kept → Type 0
AreAt n [] = Unit {0}
AreAt n (k ∷ ks) = (k.node ≡ n) × AreAt n ks

at_each : (n : ℕ) → IsEach (λ k. k.node ≡ n) (AreAt n)
at_each n = record { none = tt; both = λ k ks h i. (h, i); first = λ k ks h. h.0; rest = λ k ks h. h.1 }

pub at_after : (n : ℕ) (r : Option LogRec) (ks : List Kept) → AreAt n ks → IsOwnRec n r → AreAt n (kept_after r ks)
at_after n r ks h i = each_after (λ k. k.node ≡ n) (AreAt n) (at_each n) r ks h (λ m k s o p cs b is. subst (IsOwnRec n) is i)

pub at_noted : (n : ℕ) (ks : List Kept) → AreAt n ks → AreAt n (not_forgotten ks)
at_noted n ks h = each_noted (λ k. k.node ≡ n) (AreAt n) (at_each n) (λ k i. i) ks h

pub at_unnoted : (n : ℕ) (ks : List Kept) → AreAt n (not_forgotten ks) → AreAt n ks
at_unnoted n ks h = each_unnoted (λ k. k.node ≡ n) (AreAt n) (at_each n) (λ k i. i) ks h

pub at_among : (n : ℕ) (ks : List Kept) (k : Kept) → AreAt n ks → IsAmong ks k → k.node ≡ n
at_among n [] k h i = absurd i
at_among n (x ∷ xs) k h (inl i) = sym i.0 ∙ h.0
at_among n (x ∷ xs) k h (inr i) = at_among n xs k h.1 i

pub settled_own : (n : ℕ) (k : Kept) (f : KeptEvent) → k.node ≡ n → IsOwnRec n (settled k f).rec
unfolding settled
settled_own n k KeptEvent.Purge h = h
settled_own n k _ h = grind (arith, h)

-- ---- events of a node

abbrev Fits : ℕ → Move → Type 0
Fits n m = IsOwnRec n m.rec × AreAt n m.next.kept

abbrev pub IsAtMove : ℕ → Digest → Move → Type 0
IsAtMove n d m = AreAt n d.kept → IsOwnRec n m.rec × AreAt n m.next.kept

at_begins : (n : ℕ) (who : Who) (q : ℕ) (d : Digest) → IsAtMove n d (begin_on who q d)
at_begins n who q d h = begin_cases (λ (m : Move). Fits n m) who q d (tt, h) (λ c a now found may. (tt, h))

pub at_moves : (who : Who) (e : Event) (s : Digest) → Moves who e s (IsAtMove who.node)
at_moves who e s = record {
  still = λ d h. (tt, h);
  chain = λ d a f one two quiet h. let x = one h in let y = two x.1 in (own_then who.node a.rec (f a.next).rec x.0 y.0, y.1);
  speaks = λ d outs k own said h. (tt, h);
  changes_dialogue = λ d p f m by one. one;
  drops_arc = λ d p m at one. one;
  notes_kept = λ d ks m held one h. one (at_unnoted who.node ks (subst (AreAt who.node) (sym held.1) (at_noted who.node d.kept h)));
  keeps = λ d k f held h. let own = settled_own who.node k f (at_among who.node d.kept k h held.1) in (own, at_after who.node (settled k f).rec d.kept h own);
  turns = λ d c f now at asked put gone h. let own = (own_turn f (seen who d.arcs c) put).1 in (own, at_after who.node (transacted f (seen who d.arcs c)).rec d.kept h own);
  begins = λ d p free. at_begins who.node who p d;
  roots = λ d m nil may one. one;
}
