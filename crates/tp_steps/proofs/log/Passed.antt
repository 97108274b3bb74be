-- Every event of a transaction moves its phase one way, logs what fits, and tells what it may: an instance of the steps
-- of a turn.
use Rattle.std.proofs.Common.{◌≡◌, ◌⊎◌, inl, inr, Bool, true, false, refl, ap, sym, ◌∙◌, arith, Option, Some, None, [], ◌∷◌, ◌++◌, ◌||◌}
use Rattle.tp_names.specs.declared.outcome.Report.{Report}
use Rattle.tp_records.specs.declared.indication.Indication.{Indication}
use Rattle.tp_records.specs.declared.dialogue.DialogueRecord.{DialogueRecord}
use Rattle.tp_logrec.specs.declared.record.LogRec.{LogRec}
use Rattle.tp_model.specs.declared.arc.Phase.{Phase}
use Rattle.tp_model.specs.declared.transaction.TxEvent.{TxEvent}
use Rattle.tp_model.specs.declared.transaction.TxOut.{TxOut}
use Rattle.tp_model.specs.Dialogues.{is_active, is_committing, is_rolling}
use Rattle.tp_model.specs.Transactions.{Transaction, Turn, turn, node_key, superior_of, is_under, with_arc_lost, children_of, transacted, part_by_part}
use Rattle.tp_steps.specs.Turns.{Turns, falls, row_dead}
use Rattle.tp_steps.specs.Moves.{IsPut}
use Rattle.tp_steps.specs.Passages.{is_commit_told, is_rollback_told, asks_tell, may_move, is_commit_rec, IsLogged, IsPassed}
use Rattle.tp_steps.proofs.every.EveryTurn.{every_turn}
use Rattle.tp_steps.proofs.lemmas.Phases.{none_append, tell_append, move_same, move_then, was_active, was_open, past_active, lost_children, lost_key}
use Rattle.tp_steps.proofs.log.PassedRules.{quiet, tell_one, quiet_row, passed_vote, passed_order, passed_rolls, passed_commit, passed_rollback, passed_leave, passed_ask, passed_retried, passed_end, passed_count, passed_left, passed_shut}
use Rattle.tp_steps.proofs.words.FairTurns.{lost_phase}

-- ---- chains

-- the record of a chain is that of the one part which logs
logged_first : (t u v : Transaction) (o : Option LogRec) → v.key ≡ u.key → may_move u.phase v.phase ≡ true → (is_active u.phase ≡ false → children_of v.rows ≡ children_of u.rows) → IsLogged t o u → IsLogged t o v
logged_first t u v None key move children l = tt
logged_first t u v (Some (LogRec.Ready n k s cs)) key move children l =
    (l.0, l.1, l.2 ∙ sym (children (past_active u.phase (rw l.4 refl))), l.3, move_then Phase.Ready u.phase v.phase l.4 move)
logged_first t u v (Some (LogRec.Commit n k s cs)) key move children l =
    (l.0, l.1 ∙ sym (children (past_active u.phase (rw l.3 (grind arith)))), l.2, move_then Phase.Committing u.phase v.phase l.3 move)
logged_first t u v _ key move children l = l

logged_second : (t u v : Transaction) (o : Option LogRec) → u.key ≡ t.key → may_move t.phase u.phase ≡ true → (is_committing u.phase ≡ true → is_committing t.phase ≡ true) → IsLogged u o v → IsLogged t o v
logged_second t u v None key move back l = tt
logged_second t u v (Some (LogRec.Boot n)) key move back l = l
logged_second t u v (Some (LogRec.Ready n k s cs)) key move back l = (l.0 ∙ ap node_key key, ap superior_of (sym key) ∙ l.1, l.2, was_active t.phase u.phase move l.3, l.4)
logged_second t u v (Some (LogRec.Heuristic n k o)) key move back l = (l.0 ∙ ap node_key key, was_open t.phase u.phase move l.1)
logged_second t u v (Some (LogRec.Commit n k s cs)) key move back l = (l.0 ∙ ap node_key key, l.1, was_open t.phase u.phase move l.2, l.3)
logged_second t u v (Some (LogRec.Damage n k s o r cs)) key move back l = (l.0 ∙ ap node_key key, λ h. back (l.1 h))
logged_second t u v (Some (LogRec.End n k o)) key move back l = l ∙ ap node_key key

or_left : (a b c : Bool) → (a || b) ≡ true → (b ≡ true → c ≡ true) → (a || c) ≡ true
or_left true b c h f = refl
or_left false b c h f = f h

or_over : (a b c : Bool) → (a || c) ≡ true → (a ≡ true → (b || c) ≡ true) → (b || c) ≡ true
or_over true b c h f = f refl
or_over false true c h f = refl
or_over false false c h f = h

abbrev after_rec : Option LogRec → Option LogRec → Option LogRec
after_rec a b = elim b as (λ _. Option LogRec) [ None ↦ a | Some r ↦ Some r ]

passed_then : (e : TxEvent) (s t : Transaction) (a b : Turn) (r : Option LogRec) → (a.rec ≡ None) × (r ≡ b.rec) ⊎ (b.rec ≡ None) × (r ≡ a.rec) → IsPassed e s t a → IsPassed e s a.next b
    → IsPassed e s t (record { rec = r; outs = a.outs ++ b.outs; completion = part_by_part a.completion b.completion; next = b.next })
passed_then e s t a b r which one two = record {
  key = two.key ∙ one.key;
  begins = none_append a.outs b.outs ∙ rw (one.begins, two.begins) refl;
  moves = move_then t.phase a.next.phase b.next.phase one.moves two.moves;
  children = λ h. two.children (stays_past h) ∙ one.children h;
  logs = elim which [
    | inl i ↦ rw (i.1) (logged_second t a.next b.next b.rec one.key one.moves (λ h. quiet_commit i.0 (one.commits h)) two.logs)
    | inr i ↦ rw (i.1) (logged_first t a.next b.next a.rec two.key two.moves two.children one.logs)
  ];
  orders = λ h u. elim which [
    | inl i ↦ two.orders (ap is_commit_rec (sym i.1) ∙ h) (ap is_under one.key ∙ u)
    | inr i ↦ one.orders (ap is_commit_rec (sym i.1) ∙ h) u
  ];
  commits = λ h. commit_over (two.commits h);
  rolling = λ h. or_over (is_rolling a.next.phase) (is_rolling t.phase) (falls e s) (two.rolling h) one.rolling;
  tells_commit = λ h. elim (or_case (asks_tell is_commit_told a.outs) (asks_tell is_commit_told b.outs) (sym (tell_append is_commit_told a.outs b.outs) ∙ h)) [
    | inl i ↦ commit_first (one.tells_commit i)
    | inr i ↦ commit_over (two.tells_commit i)
  ];
  tells_rollback = λ h. elim (or_case (asks_tell is_rollback_told a.outs) (asks_tell is_rollback_told b.outs) (sym (tell_append is_rollback_told a.outs b.outs) ∙ h)) [
    | inl i ↦ one.tells_rollback i
    | inr i ↦ or_over (is_rolling a.next.phase) (is_rolling t.phase) (falls e s) (two.tells_rollback i) one.rolling
  ];
}
  where
    or_case : (x y : Bool) → (x || y) ≡ true → (x ≡ true) ⊎ (y ≡ true)
    or_case true y h = inl refl
    or_case false y h = inr h

    stays_past : is_active t.phase ≡ false → is_active a.next.phase ≡ false
    stays_past h = go (is_active a.next.phase) refl
      where
        go : (v : Bool) → is_active a.next.phase ≡ v → is_active a.next.phase ≡ false
        go false i = i
        go true i = absurd (cc (h, was_active t.phase a.next.phase one.moves i))

    quiet_commit : a.rec ≡ None → (is_committing t.phase || is_commit_rec a.rec) ≡ true → is_committing t.phase ≡ true
    quiet_commit none h = elim (or_case (is_committing t.phase) (is_commit_rec a.rec) h) [ inl k ↦ k | inr k ↦ absurd (cc (ap is_commit_rec none, k)) ]

    commit_first : (is_committing t.phase || is_commit_rec a.rec) ≡ true → (is_committing t.phase || is_commit_rec r) ≡ true
    commit_first h = or_left (is_committing t.phase) (is_commit_rec a.rec) (is_commit_rec r) h (λ c. elim which [
      | inl i ↦ absurd (cc (ap is_commit_rec i.0, c))
      | inr i ↦ ap is_commit_rec i.1 ∙ c
    ])

    commit_over : (is_committing a.next.phase || is_commit_rec b.rec) ≡ true → (is_committing t.phase || is_commit_rec r) ≡ true
    commit_over h = elim (or_case (is_committing a.next.phase) (is_commit_rec b.rec) h) [
      | inl i ↦ commit_first (one.commits i)
      | inr i ↦ second i
    ]
      where
        second : is_commit_rec b.rec ≡ true → (is_committing t.phase || is_commit_rec r) ≡ true
        second c = elim which [
          | inl i ↦ (let k : is_commit_rec r ≡ true = ap is_commit_rec i.1 ∙ c in rw k (grind arith))
          | inr i ↦ absurd (cc (ap is_commit_rec i.0, c))
        ]

pub later_rec : (a b : Option LogRec) → (a ≡ None) ⊎ (b ≡ None) → (a ≡ None) × (after_rec a b ≡ b) ⊎ (b ≡ None) × (after_rec a b ≡ a)
later_rec a None (inl i) = inl (i, i)
later_rec a (Some r) (inl i) = inl (i, refl)
later_rec a None (inr i) = inr (refl, refl)
later_rec a (Some r) (inr i) = absurd (cc (i))

pub passed_turns : (e : TxEvent) (s : Transaction) → Turns e s (IsPassed e s)
passed_turns e s = record {
  still = λ t. quiet e s t [] t refl refl (λ h. refl) refl refl refl;
  first = λ t u outs a one two. passed_then e s t (turn outs u) a a.rec (inl (refl, refl)) one two;
  chain = λ t a f one two none. passed_then e s t a (f a.next) (after_rec a.rec (f a.next).rec) (later_rec a.rec (f a.next).rec none) one two;
  tells = λ t i n. tell_one e s t i (grind (arith, n)) (grind (arith, n));
  notes_prepare = λ pr cl. quiet e s s (TxOut.Tell Indication.Prepare ∷ []) (record s { told_prepare = true }) refl refl (λ h. refl) refl refl refl;
  notes_done = λ is. quiet e s s [] (record s { owes = false }) refl refl (λ h. refl) refl refl refl;
  notes_end = λ q is. quiet e s s (TxOut.Tell (Indication.DeferEnd q) ∷ []) (record s { up_ends = true }) refl refl (λ h. refl) refl refl refl;
  notes_rollback = λ ro cl. quiet e s s [] (record s { superior_rolled = true }) refl refl (λ h. refl) refl refl refl;
  defers_end = λ q is. quiet_row e s s (TxOut.Carry q DialogueRecord.DeferEnd ∷ []) q (λ r. record r { ends = true }) (λ r. refl) (λ r. refl) refl refl refl;
  defers_grant = λ q is. quiet e s s (TxOut.Carry q DialogueRecord.DeferGrant ∷ []) s refl refl (λ h. refl) refl refl refl;
  prepares = λ q. quiet_row e s s (TxOut.Carry q DialogueRecord.Prepare ∷ []) q (λ r. record r { branch = record r.branch { prepared = true } }) (λ r. refl) (λ r. refl) refl refl refl;
  asks = λ is act asked told. passed_ask e s s act;
  asks_again = passed_retried e s s;
  decides = λ o is ready. record {
    key = refl;
    begins = refl;
    moves = move_same s.phase;
    children = λ h. refl;
    logs = (refl, rw ready (grind arith));
    orders = λ h u. absurd (cc (h));
    commits = λ h. rw h refl;
    rolling = λ h. rw h refl;
    tells_commit = λ h. absurd (cc (h));
    tells_rollback = λ h. absurd (cc (h));
  };
  aborts = λ q is. quiet e s s (TxOut.Carry q DialogueRecord.UAbort ∷ TxOut.Close q ∷ []) (with_arc_lost s q) (lost_key s q) (lost_phase s q) (λ h. lost_children s q) refl refl refl;
  loses_arc = λ q gone. quiet e s s [] (with_arc_lost s q) (lost_key s q) (lost_phase s q) (λ h. lost_children s q) refl refl refl;
  closes_left = λ q is. quiet_row e s s (TxOut.Close q ∷ []) q row_dead (λ r. refl) (λ r. refl) refl refl refl;
  gives_up = λ q r is c found. passed_shut e s q r;
  counts = λ q is act row. passed_count e s q s;
  ends_done = λ q r is c row. passed_end e s q r s;
  ends_replied = λ b w r is found o. passed_end e s w.branch.peer.node r s;
  ends_rolled = λ q r is c row. passed_end e s q r s;
  leaves_below = λ q w t is left at act. passed_left e s q t act;
  leaves_rolling = λ q w t is left at c. passed_end e s q Report.None t;
  votes = λ t act asked all under. passed_vote e s t act under;
  orders_root = λ t act asked all root. passed_order e s t (rw act refl) (λ u. absurd (cc (root, u)));
  orders_ready = λ ready is. passed_order e s s (rw ready (grind arith)) (λ u. is);
  rolls = λ t asked f ok. passed_rolls e s t asked f ok;
  completes_commit = λ t c. passed_commit e s t c;
  completes_rollback = λ t c. passed_rollback e s t c;
  leaves = λ is act under asked all. passed_leave e s s act;
}

-- every event of a transaction
pub passed_turn : (e : TxEvent) (s : Transaction) → IsPut e s → IsPassed e s s (transacted e s)
passed_turn e s put = every_turn e s (IsPassed e s) (passed_turns e s) put
