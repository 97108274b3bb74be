-- A transaction that is kept has the address of the superior that its key came from: an instance of the steps of a turn, and of
-- those of a node.
use Rattle.std.proofs.Common.{if◌then◌else◌, ◌≡◌, inl, inr, Bool, true, false, refl, sym, subst, ◌∙◌, arith, Option, Some, None, List, [], ◌∷◌, ◌&&◌, not}
use Rattle.tp_names.specs.declared.identifiers.NodeKey.{NodeKey}
use Rattle.tp_names.specs.declared.identifiers.Addr.{Addr}
use Rattle.tp_names.specs.declared.outcome.Outcome.{Outcome}
use Rattle.tp_names.specs.declared.outcome.Report.{Report}
use Rattle.tp_names.specs.Same.{is_key}
use Rattle.tp_names.specs.Reports.{join, is_report_none}
use Rattle.tp_logrec.specs.declared.record.LogRec.{LogRec}
use Rattle.tp_model.specs.declared.transaction.TxEvent.{TxEvent}
use Rattle.tp_model.specs.declared.recovery.Kept.{Kept}
use Rattle.tp_model.specs.declared.recovery.KeptEvent.{KeptEvent}
use Rattle.tp_model.specs.Parts.{Who, Origin, Event, Entry, Key, Root, Under, Current, Digest}
use Rattle.tp_model.specs.Dialogues.{is_ready}
use Rattle.tp_model.specs.Transactions.{Transaction, Turn, node_key, superior_of, all_done, log_ready, log_end, log_damage, is_own_commit, own_damage, reports_of, owed_of, complete_commit, complete_rollback, begin_rolling, order, ask_commit, leave, count_branch, end_branch, branch_left, transacted}
use Rattle.tp_model.specs.Recovery.{settled, find_kept, kept_after, not_forgotten}
use Rattle.tp_model.specs.Node.{Move, seen}
use Rattle.tp_model.specs.History.{digest}
use Rattle.tp_model.specs.Legal.{IsGrown}
use Rattle.tp_steps.specs.Turns.{Turns, vote}
use Rattle.tp_steps.specs.Moves.{Moves, IsPut, StandsIn, prelude}
use Rattle.tp_steps.proofs.every.EveryTurn.{every_turn}
use Rattle.tp_steps.proofs.every.EveryEvent.{every_move}
use Rattle.tp_histories.proofs.trees.Late.{late_law}
use Rattle.tp_histories.proofs.trees.Above.{IsKeyOf}
use Rattle.tp_histories.proofs.pairs.PairedSteps.{placed_event}
use Rattle.tp_histories.proofs.log.KeptLog.{kept_prelude}
use Rattle.tp_agreement.proofs.OwingLaw.{kept_none}
use Rattle.tp_steps.proofs.lemmas.EachKept.{IsEach, each_after, each_noted, each_unnoted}
use Rattle.tp_steps.proofs.lemmas.Phases.{lost_key}
use Rattle.tp_steps.proofs.words.Fair.{row_key}
use Rattle.tp_runs.proofs.KnownForgot.{begun_kept}

-- ---- turns

-- a record that keeps a transaction has this key, and its superior
abbrev KeepsKey : Key → Option LogRec → Type 0
KeepsKey j (Some (LogRec.Damage n k s o r cs)) = (k ≡ node_key j) × (s ≡ superior_of j)
KeepsKey j _ = Unit {0}

keeps_then : (j : Key) (x y : Option LogRec) → KeepsKey j x → KeepsKey j y → KeepsKey j (elim y as (λ _. Option LogRec) [ None ↦ x | Some r ↦ Some r ])
keeps_then j x None h i = h
keeps_then j x (Some r) h i = i

abbrev IsAboveTurn : Transaction → Turn → Type 0
IsAboveTurn t a = (a.next.key ≡ t.key) × KeepsKey t.key a.rec

above_vote : (t : Transaction) → IsAboveTurn t (vote t)
above_vote t = (refl, go t.key)
  where
    go : (k : Key) → KeepsKey t.key (log_ready (record t { key = k }))
    go (Root a) = tt
    go (Under a b s) = tt

above_order : (t : Transaction) → IsAboveTurn t (order t)
unfolding order
above_order t = (refl, tt)

above_rolls : (asked : Bool) (t : Transaction) → IsAboveTurn t (begin_rolling asked t)
unfolding begin_rolling
above_rolls asked t = (refl, go (not (is_ready t.phase)) (is_own_commit t))
  where
    go : (b c : Bool) → KeepsKey t.key (if b then None else if c then Some (log_damage t Outcome.Rollback Report.Mix []) else Some (log_end t Outcome.Rollback))
    go true c = tt
    go false true = (refl, refl)
    go false false = tt

above_completes : (t : Transaction) → IsAboveTurn t (complete_commit t)
unfolding complete_commit
above_completes t = go (not t.owes && all_done t.rows) refl
  where
    end : (c : Bool) (r : Report) → KeepsKey t.key (Some (if c then log_end t Outcome.Commit else log_damage t Outcome.Commit r (owed_of t.rows)))
    end true r = tt
    end false r = (refl, refl)

    go : (b : Bool) → (not t.owes && all_done t.rows) ≡ b → IsAboveTurn t (complete_commit t)
    go true h = rw h (refl, end (is_report_none (join (own_damage t.decision) (reports_of t.rows))) (join (own_damage t.decision) (reports_of t.rows)))
    go false h = rw h (refl, tt)

above_unrolls : (t : Transaction) → IsAboveTurn t (complete_rollback t)
unfolding complete_rollback
above_unrolls t = (grind arith, rw (quiet t) tt)
  where
    quiet : (t : Transaction) → (complete_rollback t).rec ≡ None
    quiet t = grind arith

above_turns : (e : TxEvent) (s : Transaction) → Turns e s IsAboveTurn
unfolding ask_commit leave count_branch end_branch branch_left
above_turns e s = record {
  still = λ t. (refl, tt);
  first = λ t u outs a one two. (two.0 ∙ one.0, subst (λ (j : Key). KeepsKey j a.rec) one.0 two.1);
  chain = λ t a f one two none. (two.0 ∙ one.0, keeps_then t.key a.rec (f a.next).rec one.1 (subst (λ (j : Key). KeepsKey j (f a.next).rec) one.0 two.1));
  tells = λ t i n. (refl, tt);
  notes_prepare = λ pr cl. (refl, tt);
  notes_done = λ is. (refl, tt);
  notes_end = λ q is. (refl, tt);
  notes_rollback = λ ro cl. (refl, tt);
  defers_end = λ q is. (row_key s q _, tt);
  defers_grant = λ q is. (refl, tt);
  prepares = λ q. (row_key s q _, tt);
  asks = λ is act asked told. (refl, tt);
  asks_again = (refl, tt);
  decides = λ o is ready. (refl, tt);
  aborts = λ q is. (lost_key s q, tt);
  loses_arc = λ q gone. (lost_key s q, tt);
  closes_left = λ q is. (row_key s q _, tt);
  gives_up = λ q r is c found. (row_key s q _, tt);
  counts = λ q is act row. (row_key s q _, tt);
  ends_done = λ q r is c row. (row_key s q _, tt);
  ends_replied = λ b w r is found o. (row_key s w.branch.peer.node _, tt);
  ends_rolled = λ q r is c row. (row_key s q _, tt);
  leaves_below = λ q w t is left at act. (row_key t q _, tt);
  leaves_rolling = λ q w t is left at c. (row_key t q _, tt);
  votes = λ t act asked all under. above_vote t;
  orders_root = λ t act asked all root. above_order t;
  orders_ready = λ ready is. above_order s;
  rolls = λ t asked f ok. above_rolls asked t;
  completes_commit = λ t c. above_completes t;
  completes_rollback = λ t c. above_unrolls t;
  leaves = λ is act under asked all. (refl, tt);
}

above_turn : (e : TxEvent) (s : Transaction) → IsPut e s → IsAboveTurn s (transacted e s)
above_turn e s put = every_turn e s IsAboveTurn (above_turns e s) put

-- ---- the kept transactions of a node

-- the key is of a tree of the node's, or came from its superior, whose address is this
abbrev pub HasAbove : Who → Option Addr → NodeKey → Option Addr → Type 0
HasAbove who up k s = (j : Key) × (k ≡ node_key j) × (s ≡ superior_of j) × IsKeyOf who up j

abbrev pub AreAbove : Who → Option Addr → List Kept → Type 0
AreAbove who up [] = Unit {0}
AreAbove who up (k ∷ ks) = HasAbove who up k.key k.superior × AreAbove who up ks

abbrev RecAbove : Who → Option Addr → Option LogRec → Type 0
RecAbove who up (Some (LogRec.Damage n k s o r cs)) = HasAbove who up k s
RecAbove who up _ = Unit {0}

above_each : (who : Who) (up : Option Addr) → IsEach (λ k. HasAbove who up k.key k.superior) (AreAbove who up)
above_each who up = record { none = tt; both = λ k ks h i. (h, i); first = λ k ks h. h.0; rest = λ k ks h. h.1 }

after_above : (who : Who) (up : Option Addr) (r : Option LogRec) (ks : List Kept) → AreAbove who up ks → RecAbove who up r → AreAbove who up (kept_after r ks)
after_above who up r ks h i = each_after (λ k. HasAbove who up k.key k.superior) (AreAbove who up) (above_each who up) r ks h (λ n k s o p cs b is. subst (RecAbove who up) is i)

noted_above : (who : Who) (up : Option Addr) (ks : List Kept) → AreAbove who up ks → AreAbove who up (not_forgotten ks)
noted_above who up ks h = each_noted (λ k. HasAbove who up k.key k.superior) (AreAbove who up) (above_each who up) (λ k i. i) ks h

unnoted_above : (who : Who) (up : Option Addr) (ks : List Kept) → AreAbove who up (not_forgotten ks) → AreAbove who up ks
unnoted_above who up ks h = each_unnoted (λ k. HasAbove who up k.key k.superior) (AreAbove who up) (above_each who up) (λ k i. i) ks h

stands_above : (who : Who) (up : Option Addr) (ks : List Kept) (k : Kept) → AreAbove who up ks → StandsIn ks k → HasAbove who up k.key k.superior
stands_above who up [] k h i = absurd i
stands_above who up (x ∷ xs) k h (inl i) = subst (λ (y : Kept). HasAbove who up y.key y.superior) i h.0
stands_above who up (x ∷ xs) k h (inr i) = stands_above who up xs k h.1 i

pub found_above : (who : Who) (up : Option Addr) (ks : List Kept) (j : NodeKey) (x : Kept) → AreAbove who up ks → find_kept ks j ≡ Some x → HasAbove who up x.key x.superior
found_above who up [] j x h i = absurd (cc (i))
found_above who up (k ∷ ks) j x h i = go (is_key k.key j) refl (found_above who up ks j x h.1)
  where
    go : (b : Bool) → is_key k.key j ≡ b → (find_kept ks j ≡ Some x → HasAbove who up x.key x.superior) → HasAbove who up x.key x.superior
    go true m rest =
        let one : Some k ≡ Some x = rw (m, find_kept) at i in
        let same : k ≡ x = cc (one) in
        subst (λ (y : Kept). HasAbove who up y.key y.superior) same h.0
    go false m rest = rest (rw (m, find_kept) at i)

settled_above : (who : Who) (up : Option Addr) (k : Kept) (f : KeptEvent) → HasAbove who up k.key k.superior → RecAbove who up (settled k f).rec
unfolding settled
settled_above who up k KeptEvent.Purge h = tt
settled_above who up k _ h = grind (arith, h)

turned_above : (who : Who) (up : Option Addr) (j : Key) (r : Option LogRec) → IsKeyOf who up j → KeepsKey j r → RecAbove who up r
turned_above who up j (Some (LogRec.Damage m i s o r cs)) k h = (j, h.0, h.1, k)
turned_above who up j _ k h = tt

abbrev IsAboveMove : Who → Option Addr → Digest → Move → Type 0
IsAboveMove who up d m = AreAbove who up d.kept → AreAbove who up m.next.kept

above_moves : (who : Who) (up : Option Addr) (e : Event) (s : Digest) → ((c : Current) → s.current ≡ Some c → IsKeyOf who up c.key) → Moves who e s (IsAboveMove who up)
above_moves who up e s keyed = record {
  still = λ d h. h;
  chain = λ d a f one two quiet h. two (one h);
  speaks = λ d outs k own said h. h;
  changes_dialogue = λ d p f m by one. one;
  drops_arc = λ d p m at one. one;
  notes_kept = λ d ks m held one h. one (unnoted_above who up ks (subst (AreAbove who up) (sym held.1) (noted_above who up d.kept h)));
  keeps = λ d k f held h. after_above who up (settled k f).rec d.kept h (settled_above who up k f (stands_above who up d.kept k h held.2));
  turns = λ d c f now at asked put gone h. after_above who up (transacted f (seen who d.arcs c)).rec d.kept h (turned_above who up c.key (transacted f (seen who d.arcs c)).rec (keyed c at) (above_turn f (seen who d.arcs c) put).1);
  begins = λ d q free h. subst (AreAbove who up) (sym (begun_kept who q d)) h;
  roots = λ d m nil may one. one;
}

-- ---- every legal history

pub kept_above : (o : Origin) (up : Option Addr) (h : List Entry) → o.start.records ≡ [] → IsGrown o up h → AreAbove o.who up (digest o h).kept
kept_above o up [] empty legal = subst (AreAbove o.who up) (sym (kept_none o empty)) tt
kept_above o up (e ∷ h) empty legal =
    every_move o.who (digest o h) e.event (IsAboveMove o.who up) (above_moves o.who up e.event (prelude o.who (digest o h) e.event) (placed_event o up e h 0 empty legal).keyed) (late_law o up h legal.3) legal.0
    (unnoted_above o.who up (prelude o.who (digest o h) e.event).kept (subst (AreAbove o.who up) (sym (kept_prelude o.who (digest o h) e.event).0) (noted_above o.who up (digest o h).kept (kept_above o up h empty legal.3))))
