-- What a turn keeps of its transaction for its damage: its key, its superior, and branches of it; of a rollback no branch. An
-- instance of the steps of a turn.
use Rattle.std.proofs.Common.{if◌then◌else◌, ◌≡◌, ℕ, Bool, true, false, refl, sym, subst, ◌∙◌, arith, Option, Some, None, List, [], ◌∷◌, ◌++◌, ◌&&◌, ◌||◌, not}
use Rattle.tp_names.specs.declared.identifiers.BranchId.{BranchId}
use Rattle.tp_names.specs.declared.children.Child.{Child}
use Rattle.tp_names.specs.declared.outcome.Outcome.{Outcome}
use Rattle.tp_names.specs.declared.outcome.Report.{Report}
use Rattle.tp_names.specs.Reports.{join, is_report_none}
use Rattle.tp_names.specs.Same.{is_branch}
use Rattle.tp_logrec.specs.declared.record.LogRec.{LogRec}
use Rattle.tp_model.specs.declared.arc.Phase.{Phase}
use Rattle.tp_model.specs.declared.transaction.TxEvent.{TxEvent}
use Rattle.tp_model.specs.Parts.{Key, Root, Under}
use Rattle.tp_model.specs.Dialogues.{is_ready}
use Rattle.tp_model.specs.Transactions.{Row, Transaction, Turn, with_row, with_arc_lost, superior_of, is_under, all_rolled_back, child_of, all_done, owed_of, reports_of, own_damage, log_ready, log_end, log_damage, is_own_commit, complete_commit, complete_rollback, begin_rolling, order, ask_commit, leave, count_branch, end_branch, branch_left, transacted}
use Rattle.tp_model.specs.Recovery.{is_commit, without_owed}
use Rattle.tp_steps.specs.Turns.{Turns, vote}
use Rattle.tp_steps.specs.Moves.{IsPut}
use Rattle.tp_steps.proofs.every.EveryTurn.{every_turn, quiet_rollback}
use Rattle.tp_steps.proofs.log.KinTurns.{kids, IsKin, kin_turns}

-- ---- lists of children

abbrev pub EachChild : (Child → Type 0) → List Child → Type 0
EachChild Q [] = Unit {0}
EachChild Q (c ∷ cs) = Q c × EachChild Q cs

pub each_more : (Q : Child → Type 0) (cs : List Child) (c : Child) → EachChild Q cs → Q c → EachChild Q (cs ++ c ∷ [])
each_more Q [] c h i = (i, tt)
each_more Q (x ∷ xs) c h i = (h.0, each_more Q xs c h.1 i)

each_owed : (Q : Child → Type 0) (rows : List Row) → EachChild Q (kids rows) → EachChild Q (owed_of rows)
each_owed Q [] h = tt
each_owed Q (r ∷ rows) h = go (r.branch.left || r.branch.ended) (each_owed Q rows h.1)
  where
    go : (b : Bool) → EachChild Q (owed_of rows) → EachChild Q (if b then owed_of rows else child_of r.branch ∷ owed_of rows)
    go true rest = rest
    go false rest = (h.0, rest)

pub each_without : (Q : Child → Type 0) (cs : List Child) (b : BranchId) → EachChild Q cs → EachChild Q (without_owed cs b)
each_without Q [] b h = tt
each_without Q (c ∷ cs) b h = go (is_branch c.branch b) (each_without Q cs b h.1)
  where
    go : (v : Bool) → EachChild Q (without_owed cs b) → EachChild Q (if v then cs else c ∷ without_owed cs b)
    go true rest = h.1
    go false rest = (h.0, rest)

-- ---- what a record keeps

abbrev pub Keeps : (Child → Type 0) → Key → Option LogRec → Type 0
Keeps Q k None = Unit {0}
Keeps Q k (Some (LogRec.Boot n)) = Unit {0}
Keeps Q k (Some (LogRec.Ready n j s cs)) = Unit {0}
Keeps Q k (Some (LogRec.Heuristic n j o)) = Unit {0}
Keeps Q k (Some (LogRec.Commit n j s cs)) = Unit {0}
Keeps Q k (Some (LogRec.Damage n j s o r cs)) = (s ≡ superior_of k) × EachChild Q cs × (is_commit o ≡ false → cs ≡ [])
Keeps Q k (Some (LogRec.End n j o)) = Unit {0}

-- only a branch is in doubt
abbrev pub IsDoubtOf : Phase → Key → Type 0
IsDoubtOf p k = is_ready p ≡ true → is_under k ≡ true

abbrev pub IsKeeping : (Child → Type 0) → Transaction → Turn → Type 0
IsKeeping Q t a = IsKin t a × (a.next.key ≡ t.key) × (EachChild Q (kids t.rows) → Keeps Q t.key a.rec) × (IsDoubtOf t.phase t.key → IsDoubtOf a.next.phase t.key)

-- what stands in the phase that it was in
same_doubt : (p q : Phase) (k : Key) → q ≡ p → IsDoubtOf p k → IsDoubtOf q k
same_doubt p q k same h = subst (λ (v : Phase). IsDoubtOf v k) (sym same) h

phase_row : (t : Transaction) (q : ℕ) (f : Row → Row) → (with_row t q f).phase ≡ t.phase
phase_row t q f = grind arith

phase_lost : (t : Transaction) (q : ℕ) → (with_arc_lost t q).phase ≡ t.phase
phase_lost t q = grind (arith, phase_row)

doubt_row : (t : Transaction) (q : ℕ) (f : Row → Row) → IsDoubtOf t.phase t.key → IsDoubtOf (with_row t q f).phase t.key
doubt_row t q f = same_doubt t.phase (with_row t q f).phase t.key (phase_row t q f)

doubt_lost : (t : Transaction) (q : ℕ) → IsDoubtOf t.phase t.key → IsDoubtOf (with_arc_lost t q).phase t.key
doubt_lost t q = same_doubt t.phase (with_arc_lost t q).phase t.key (phase_lost t q)

doubt_order : (t : Transaction) → IsDoubtOf (order t).next.phase t.key
unfolding order
doubt_order t h = absurd (cc (h))

doubt_rolls : (asked : Bool) (t : Transaction) → IsDoubtOf (begin_rolling asked t).next.phase t.key
unfolding begin_rolling
doubt_rolls asked t h = absurd (cc (h))

doubt_completes : (t : Transaction) → IsDoubtOf t.phase t.key → IsDoubtOf (complete_commit t).next.phase t.key
unfolding complete_commit
doubt_completes t h i = go (not t.owes && all_done t.rows) refl i
  where
    go : (b : Bool) → (not t.owes && all_done t.rows) ≡ b → is_ready (complete_commit t).next.phase ≡ true → is_under t.key ≡ true
    go true j k = absurd (let off : false ≡ true = rw (j, complete_commit) at k in cc (off))
    go false j k = h (rw (j, complete_commit) at k)

doubt_unrolls : (t : Transaction) → IsDoubtOf t.phase t.key → IsDoubtOf (complete_rollback t).next.phase t.key
unfolding complete_rollback
doubt_unrolls t h i = go (not t.owes && all_rolled_back t.rows && (t.superior_rolled || not t.up)) refl i
  where
    go : (b : Bool) → (not t.owes && all_rolled_back t.rows && (t.superior_rolled || not t.up)) ≡ b → is_ready (complete_rollback t).next.phase ≡ true → is_under t.key ≡ true
    go true j k = absurd (let off : false ≡ true = rw (j, complete_rollback) at k in cc (off))
    go false j k = h (rw (j, complete_rollback) at k)

doubt_leaves : (t : Transaction) → IsDoubtOf (leave t).next.phase t.key
unfolding leave
doubt_leaves t h = absurd (cc (h))

keeps_vote : (Q : Child → Type 0) (t : Transaction) → Keeps Q t.key (vote t).rec
keeps_vote Q t = go t.key
  where
    go : (k : Key) → Keeps Q t.key (log_ready (record t { key = k }))
    go (Root a) = tt
    go (Under a b s) = tt

keeps_order : (Q : Child → Type 0) (t : Transaction) → (order t).next.key ≡ t.key
unfolding order
keeps_order Q t = refl

logs_order : (Q : Child → Type 0) (t : Transaction) → Keeps Q t.key (order t).rec
unfolding order
logs_order Q t = tt

keeps_rolls : (Q : Child → Type 0) (asked : Bool) (t : Transaction) → Keeps Q t.key (begin_rolling asked t).rec
unfolding begin_rolling
keeps_rolls Q asked t = go (not (is_ready t.phase)) (is_own_commit t)
  where
    go : (b c : Bool) → Keeps Q t.key (if b then None else if c then Some (log_damage t Outcome.Rollback Report.Mix []) else Some (log_end t Outcome.Rollback))
    go true c = tt
    go false true = (refl, tt, λ h. refl)
    go false false = tt

keeps_completes : (Q : Child → Type 0) (t : Transaction) → EachChild Q (kids t.rows) → Keeps Q t.key (complete_commit t).rec
unfolding complete_commit
keeps_completes Q t h = go (not t.owes && all_done t.rows) refl
  where
    x : Report
    x = join (own_damage t.decision) (reports_of t.rows)

    end : (c : Bool) → Keeps Q t.key (Some (if c then log_end t Outcome.Commit else log_damage t Outcome.Commit x (owed_of t.rows)))
    end true = tt
    end false = (refl, each_owed Q t.rows h, λ i. absurd (let j : true ≡ false = i in cc (j)))

    go : (b : Bool) → (not t.owes && all_done t.rows) ≡ b → Keeps Q t.key (complete_commit t).rec
    go true i = rw i (end (is_report_none x))
    go false i = rw i tt

keeps_unrolls : (Q : Child → Type 0) (t : Transaction) → Keeps Q t.key (complete_rollback t).rec
keeps_unrolls Q t = subst (λ (r : Option LogRec). Keeps Q t.key r) (sym (quiet_rollback t)) tt

key_completes : (t : Transaction) → (complete_commit t).next.key ≡ t.key
unfolding complete_commit
key_completes t = grind arith

key_unrolls : (t : Transaction) → (complete_rollback t).next.key ≡ t.key
unfolding complete_rollback
key_unrolls t = grind arith

key_rolls : (asked : Bool) (t : Transaction) → (begin_rolling asked t).next.key ≡ t.key
unfolding begin_rolling
key_rolls asked t = refl

key_row : (t : Transaction) (q : ℕ) (f : Row → Row) → (with_row t q f).key ≡ t.key
key_row t q f = grind arith

key_lost : (t : Transaction) (q : ℕ) → (with_arc_lost t q).key ≡ t.key
key_lost t q = grind (arith, key_row)

keeps_then : (Q : Child → Type 0) (k : Key) (x y : Option LogRec) → Keeps Q k x → Keeps Q k y → Keeps Q k (elim y as (λ _. Option LogRec) [ None ↦ x | Some r ↦ Some r ])
keeps_then Q k x None h i = h
keeps_then Q k x (Some r) h i = i

keep_turns : (Q : Child → Type 0) (e : TxEvent) (s : Transaction) → Turns e s (IsKeeping Q)
unfolding ask_commit count_branch end_branch branch_left leave
keep_turns Q e s = record {
  still = λ t. (kin_of.still t, refl, (λ h. tt), λ g. g);
  first = λ t u outs a one two. (kin_of.first t u outs a one.0 two.0, two.1 ∙ one.1, (λ h. subst (λ (k : Key). Keeps Q k a.rec) one.1 (two.2 (subst (EachChild Q) (sym one.0) h))), λ g. subst (λ (k : Key). IsDoubtOf a.next.phase k) one.1 (two.3 (subst (λ (k : Key). IsDoubtOf u.phase k) (sym one.1) (one.3 g))));
  chain = λ t a f one two none. (
    kin_of.chain t a f one.0 two.0 none,
    two.1 ∙ one.1,
    (λ h. keeps_then Q t.key a.rec (f a.next).rec (one.2 h) (subst (λ (k : Key). Keeps Q k (f a.next).rec) one.1 (two.2 (subst (EachChild Q) (sym one.0) h)))),
    λ g. subst (λ (k : Key). IsDoubtOf (f a.next).next.phase k) one.1 (two.3 (subst (λ (k : Key). IsDoubtOf a.next.phase k) (sym one.1) (one.3 g))),
  );
  tells = λ t i off. (kin_of.tells t i off, refl, (λ h. tt), λ g. g);
  notes_prepare = λ pr c. (kin_of.notes_prepare pr c, refl, (λ h. tt), λ g. g);
  notes_done = λ is. ((kin_of.notes_done is), refl, (λ h. tt), λ g. g);
  notes_end = λ q is. (kin_of.notes_end q is, refl, (λ h. tt), λ g. g);
  notes_rollback = λ ro c. (kin_of.notes_rollback ro c, refl, (λ h. tt), λ g. g);
  defers_end = λ q is. (kin_of.defers_end q is, key_row s q _, (λ h. tt), doubt_row s q _);
  defers_grant = λ q is. (kin_of.defers_grant q is, refl, (λ h. tt), λ g. g);
  prepares = λ q. (kin_of.prepares q, key_row s q _, (λ h. tt), doubt_row s q _);
  asks = λ is act asked told. (kin_of.asks is act asked told, refl, (λ h. tt), λ g. g);
  asks_again = (kin_of.asks_again, refl, (λ h. tt), λ g. g);
  decides = λ o is ready. (kin_of.decides o is ready, refl, (λ h. tt), λ g. g);
  aborts = λ q is. (kin_of.aborts q is, key_lost s q, (λ h. tt), doubt_lost s q);
  loses_arc = λ q gone. (kin_of.loses_arc q gone, key_lost s q, (λ h. tt), doubt_lost s q);
  closes_left = λ q is. (kin_of.closes_left q is, key_row s q _, (λ h. tt), doubt_row s q _);
  gives_up = λ q r is c found. (kin_of.gives_up q r is c found, key_row s q _, (λ h. tt), doubt_row s q _);
  counts = λ q is act row. (kin_of.counts q is act row, key_row s q _, (λ h. tt), doubt_row s q _);
  ends_done = λ q r is c row. (kin_of.ends_done q r is c row, key_row s q _, (λ h. tt), doubt_row s q _);
  ends_replied = λ b w r is found o. (kin_of.ends_replied b w r is found o, key_row s w.branch.peer.node _, (λ h. tt), doubt_row s w.branch.peer.node _);
  ends_rolled = λ q r is c row. (kin_of.ends_rolled q r is c row, key_row s q _, (λ h. tt), doubt_row s q _);
  leaves_below = λ q w t is left at act. (kin_of.leaves_below q w t is left at act, key_row t q _, (λ h. tt), doubt_row t q _);
  leaves_rolling = λ q w t is left at c. (kin_of.leaves_rolling q w t is left at c, key_row t q _, (λ h. tt), doubt_row t q _);
  votes = λ t act asked all under. (kin_of.votes t act asked all under, refl, (λ h. keeps_vote Q t), λ g h. under);
  orders_root = λ t act asked all root. (kin_of.orders_root t act asked all root, keeps_order Q t, (λ h. logs_order Q t), λ g. doubt_order t);
  orders_ready = λ ready is. (kin_of.orders_ready ready is, keeps_order Q s, (λ h. logs_order Q s), λ g. doubt_order s);
  rolls = λ t asked f ok. (kin_of.rolls t asked f ok, key_rolls asked t, (λ h. keeps_rolls Q asked t), λ g. doubt_rolls asked t);
  completes_commit = λ t c. (kin_of.completes_commit t c, key_completes t, (λ h. keeps_completes Q t h), doubt_completes t);
  completes_rollback = λ t c. (kin_of.completes_rollback t c, key_unrolls t, (λ h. keeps_unrolls Q t), doubt_unrolls t);
  leaves = λ is act under asked all. (kin_of.leaves is act under asked all, refl, (λ h. tt), λ g. doubt_leaves s);
}
  where
    kin_of : Turns e s IsKin
    kin_of = kin_turns e s

pub keeping_turn : (Q : Child → Type 0) (e : TxEvent) (s : Transaction) → IsPut e s → IsKeeping Q s (transacted e s)
keeping_turn Q e s put = every_turn e s (IsKeeping Q) (keep_turns Q e s) put
