-- A node that left a tree has logged nothing of it.
use Rattle.std.proofs.Common.{if◌then◌else◌, ◌≡◌, ◌≤◌, ◌⊎◌, suc, inl, inr, Bool, true, false, refl, ap, sym, ◌∙◌, arith, Option, Some, None, List, [], ◌∷◌, ◌&&◌}
use Rattle.tp_names.specs.declared.identifiers.Aaid.{Aaid}
use Rattle.tp_names.specs.declared.identifiers.NodeKey.{NodeKey}
use Rattle.tp_names.specs.declared.identifiers.Addr.{Addr}
use Rattle.tp_names.specs.Same.{is_aaid}
use Rattle.tp_records.specs.declared.request.Request.{Request}
use Rattle.tp_logrec.specs.declared.record.LogRec.{LogRec}
use Rattle.tp_model.specs.declared.transaction.TxEvent.{TxEvent}
use Rattle.tp_model.specs.declared.transaction.TxOut.{TxOut}
use Rattle.tp_model.specs.declared.recovery.Kept.{Kept}
use Rattle.tp_model.specs.declared.recovery.KeptEvent.{KeptEvent}
use Rattle.tp_model.specs.Parts.{Who, Origin, Event, Entry, Current, Digest}
use Rattle.tp_model.specs.Dialogues.{is_active}
use Rattle.tp_model.specs.Transactions.{Transaction, Turn, turn, and_then, before, aaid_of, complete_commit, complete_rollback, begin_rolling, ask_commit, order, leave, count_branch, end_branch, branch_left, transacted}
use Rattle.tp_model.specs.Recovery.{settled, kept_after, not_forgotten}
use Rattle.tp_model.specs.Node.{Move, move, followed, perform, with_mark_drawn, phase_of, seen, passage, is_leaving, is_over, try_start, turned, transact, begin_on, keep, started_next}
use Rattle.tp_model.specs.Events.{refusal, action, after_crash, started}
use Rattle.tp_model.specs.History.{digest, records, with_rec}
use Rattle.tp_model.specs.Outcomes.{is_now, is_unchanged, has_left}
use Rattle.tp_model.specs.World.{Node, number_of}
use Rattle.tp_model.specs.Happenings.{Happening, run}
use Rattle.tp_model.specs.Promises.{IsOf, is_of_tree, has_record, has_logged}
use Rattle.tp_model.specs.Legal.{IsGrown}
use Rattle.tp_steps.specs.Turns.{Turns, decide}
use Rattle.tp_steps.specs.Moves.{IsLate, IsAmong, IsPut, prelude, Moves}
use Rattle.tp_steps.specs.Traces.{is_old}
use Rattle.tp_steps.specs.Passages.{IsLogged}
use Rattle.tp_steps.specs.Trees.{IsTreed}
use Rattle.tp_histories.specs.Members.{is_known, IsOnce}
use Rattle.tp_runs.specs.Bare.{keeps_tree, rec_of_tree, IsLoggedMove, IsBare}
use Rattle.tp_steps.proofs.every.EveryTurn.{every_turn}
use Rattle.tp_steps.proofs.every.EveryMove.{quiet_start}
use Rattle.tp_steps.proofs.every.EveryEvent.{every_move}
use Rattle.tp_histories.proofs.trees.Late.{late_law, late_prelude, late_fresh}
use Rattle.tp_steps.proofs.words.Fair.{row_phase}
use Rattle.tp_steps.proofs.words.FairTurns.{lost_phase}
use Rattle.tp_steps.proofs.log.Passed.{passed_turn, later_rec}
use Rattle.tp_steps.proofs.lemmas.Equality.{or_case, and_left, and_right}
use Rattle.tp_steps.proofs.words.Treed.{now_some, now_left, phase_left, old_kept, drawn_new}
use Rattle.tp_histories.proofs.trees.TreedMoves.{treed_moves}
use Rattle.tp_histories.proofs.trees.Knowing.{treed_event, known_more, known_begun, now_known, now_prelude, old_prelude}
use Rattle.tp_histories.proofs.worlds.TreeMembers.{known_old, prelude_old, now_before}
use Rattle.tp_histories.proofs.trees.Behind.{stays_past, same_phase}
use Rattle.tp_steps.proofs.branches.Rolls.{phase_at}
use Rattle.tp_runs.proofs.Left.{left_law, left_active}
use Rattle.tp_histories.proofs.worlds.Good.{good_run}
use Rattle.tp_histories.proofs.worlds.Unique.{unique_run}
use Rattle.tp_steps.proofs.every.BeginCases.{begin_cases}
use Rattle.tp_steps.proofs.lemmas.EachKept.{IsOne, one_after, one_noted}
use Rattle.std.proofs.lemmas.Bool.{false_from_ne_true}
use Rattle.tp_steps.proofs.log.Owned.{key_aaid}

-- ---- what is active after an event was so, and nothing was logged

record IsSilent (t : Transaction) (a : Turn) : Type 0 where
  silent : is_active a.next.phase ≡ true → (is_active t.phase ≡ true) × (a.rec ≡ None)

silent_same : (t u : Transaction) (outs : List TxOut) → u.phase ≡ t.phase → IsSilent t (turn outs u)
silent_same t u outs same = record { silent = λ h. (ap is_active (sym same) ∙ h, refl) }

silent_past : (t : Transaction) (a : Turn) → is_active a.next.phase ≡ false → IsSilent t a
silent_past t a past = record { silent = λ h. absurd (cc (past, h)) }

silent_commit : (t : Transaction) → IsSilent t (complete_commit t)
unfolding complete_commit
silent_commit t = record { silent = λ h. grind (arith, h) }

silent_rollback : (t : Transaction) → IsSilent t (complete_rollback t)
unfolding complete_rollback
silent_rollback t = record { silent = λ h. grind (arith, h) }

silent_rolling : (asked : Bool) (t : Transaction) → IsSilent t (begin_rolling asked t)
unfolding begin_rolling
silent_rolling asked t = silent_past t _ refl

silent_order : (t : Transaction) → IsSilent t (order t)
unfolding order
silent_order t = silent_past t _ refl

silent_leave : (t : Transaction) → IsSilent t (leave t)
unfolding leave
silent_leave t = silent_past t _ refl

silent_ask : (t : Transaction) → IsSilent t (ask_commit t)
unfolding ask_commit
silent_ask t = silent_same t _ _ refl

silent_count : (q : _) (t : Transaction) → IsSilent t (count_branch q t)
unfolding count_branch
silent_count q t = silent_same t _ _ (row_phase t q _)

silent_end : (q : _) (r : _) (t : Transaction) → IsSilent t (end_branch q r t)
unfolding end_branch
silent_end q r t = silent_same t _ _ (row_phase t q _)

silent_left : (q : _) (t : Transaction) → IsSilent t (branch_left q t)
unfolding branch_left
silent_left q t = silent_same t _ _ (row_phase t q _)

silent_decide : (o : _) (t : Transaction) → is_active t.phase ≡ false → IsSilent t (decide o t)
silent_decide o t h = silent_past t _ h

silent_first : (t : Transaction) (outs : List TxOut) (u : Transaction) (a : Turn) → IsSilent t (turn outs u) → IsSilent u a → IsSilent t (before outs a)
silent_first t outs u a one two = record { silent = λ h. let k = two.silent h in ((one.silent k.0).0, k.1) }

silent_then : (t : Transaction) (a : Turn) (f : Transaction → Turn) → IsSilent t a → IsSilent a.next (f a.next) → IsSilent t (and_then a f)
silent_then t a f one two = record { silent = λ h. let k = two.silent h in let i = one.silent k.0 in (i.0, rw k.1 i.1) }

silent_turns : (e : TxEvent) (s : Transaction) → Turns e s IsSilent
silent_turns e s = record {
  still = λ t. silent_same t t _ refl;
  first = λ t u outs a one two. silent_first t outs u a one two;
  chain = λ t a f one two none. silent_then t a f one two;
  tells = λ t i n. silent_same t t _ refl;
  notes_prepare = λ pr cl. silent_same s _ _ refl;
  notes_done = λ is. silent_same s _ _ refl;
  notes_end = λ q is. silent_same s _ _ refl;
  notes_rollback = λ ro cl. silent_same s _ _ refl;
  defers_end = λ q is. silent_same s _ _ (row_phase s q _);
  defers_grant = λ q is. silent_same s _ _ refl;
  prepares = λ q. silent_same s _ _ (row_phase s q _);
  asks = λ is act asked told. silent_ask s;
  asks_again = silent_same s _ _ refl;
  decides = λ o is ready. silent_decide o s (grind (arith, ready));
  aborts = λ q is. silent_same s _ _ (lost_phase s q);
  loses_arc = λ q gone. silent_same s _ _ (lost_phase s q);
  closes_left = λ q is. silent_same s _ _ (row_phase s q _);
  gives_up = λ q r is c found. silent_same s _ _ (row_phase s q _);
  counts = λ q is act row. silent_count q s;
  ends_done = λ q r is c row. silent_end q r s;
  ends_replied = λ b w r is found o. silent_end w.branch.peer.node r s;
  ends_rolled = λ q r is c row. silent_end q r s;
  leaves_below = λ q w t is left at act. silent_left q t;
  leaves_rolling = λ q w t is left at c. silent_end q _ t;
  votes = λ t act asked all under. silent_past t _ refl;
  orders_root = λ t act asked all root. silent_order t;
  orders_ready = λ ready is. silent_order s;
  rolls = λ t asked f ok. silent_rolling asked t;
  completes_commit = λ t c. silent_commit t;
  completes_rollback = λ t c. silent_rollback t;
  leaves = λ is act under asked all. silent_leave s;
}

silent_turn : (e : TxEvent) (s : Transaction) → IsPut e s → IsSilent s (transacted e s)
silent_turn e s put = every_turn e s IsSilent (silent_turns e s) put

-- ---- kept transactions

abbrev pub is_of_tree_kept : Aaid → Kept → Bool
is_of_tree_kept t k = is_aaid t k.key.aaid

pub tree_one : (t : Aaid) → IsOne (is_of_tree_kept t) (keeps_tree t)
tree_one t = record { none = refl; more = λ k ks. refl }

kept_record : (t : Aaid) (r : Option LogRec) (ks : List Kept) → keeps_tree t (kept_after r ks) ≡ true → (keeps_tree t ks ≡ true) ⊎ (rec_of_tree t r ≡ true)
kept_record t r ks h = elim (one_after (is_of_tree_kept t) (keeps_tree t) (tree_one t) (λ k b. refl) r ks h) [ inl i ↦ inl i | inr k ↦ inr (ap (rec_of_tree t) k.is ∙ k.holds) ]

pub forgotten_tree : (t : Aaid) (ks : List Kept) → keeps_tree t (not_forgotten ks) ≡ keeps_tree t ks
forgotten_tree t ks = one_noted (is_of_tree_kept t) (keeps_tree t) (tree_one t) (λ k b. refl) ks

pub among_tree : (t : Aaid) (ks : List Kept) (k : Kept) → IsAmong ks k → is_aaid t k.key.aaid ≡ true → keeps_tree t ks ≡ true
among_tree t [] k a h = absurd a
among_tree t (x ∷ ks) k (inl a) h = let here : is_aaid t x.key.aaid ≡ true = ap (λ (j : NodeKey). is_aaid t j.aaid) a.1 ∙ h in rw here refl
among_tree t (x ∷ ks) k (inr a) h = let there = among_tree t ks k a h in rw there (grind arith)

settled_tree : (t : Aaid) (k : Kept) (f : KeptEvent) → rec_of_tree t (settled k f).rec ≡ true → is_aaid t k.key.aaid ≡ true
unfolding settled
settled_tree t k (KeptEvent.Done a b r) h = grind (arith, h)
settled_tree t k KeptEvent.Forget h = grind (arith, h)
settled_tree t k KeptEvent.Purge h = h

-- ---- the steps of a node

abbrev IsBareMove : Who → Aaid → Digest → Bool → Digest → Move → Type 0
IsBareMove who t s fall d m = IsTreed who s fall t 0 d m × IsLoggedMove who t s d m

quiet_move : (who : Who) (t : Aaid) (s d : Digest) (m : Move) → m.rec ≡ None → m.next.kept ≡ d.kept → IsLoggedMove who t s d m
quiet_move who t s d m none same = record {
  logs = λ h. absurd (cc (ap (rec_of_tree t) none, h));
  keeps = λ h. inl (ap (keeps_tree t) (sym same) ∙ h);
  past = λ late old h k n. absurd (cc (ap (rec_of_tree t) none, h));
}

bare_begins : (who : Who) (t : Aaid) (s d : Digest) (q : _) → IsLoggedMove who t s d (begin_on who q d)
bare_begins who t s d q = begin_cases (IsLoggedMove who t s d) who q d (quiet_move who t s d _ refl refl) (λ c a now found may. quiet_move who t s d _ refl refl)

pub logged_tree : (t : Aaid) (q : Transaction) (r : Option LogRec) (u : Transaction) → IsLogged q r u → rec_of_tree t r ≡ true → is_aaid t (aaid_of q.key) ≡ true
logged_tree t q None u l h = absurd cc
logged_tree t q (Some (LogRec.Boot n)) u l h = absurd l
logged_tree t q (Some (LogRec.End n k o)) u l h = ap (is_aaid t) (sym (key_aaid q.key) ∙ ap (λ (j : NodeKey). j.aaid) (sym l)) ∙ h
logged_tree t q _ u l h = ap (is_aaid t) (sym (key_aaid q.key) ∙ ap (λ (j : NodeKey). j.aaid) (sym l.0)) ∙ h

bare_turned : (who : Who) (t : Aaid) (f : TxEvent) (s d : Digest) (c : Current) → d.current ≡ Some c → s.current ≡ Some c → IsPut f (seen who d.arcs c) → IsLoggedMove who t s d (turned who f d c)
bare_turned who t f s d c now at put = record {
  logs = λ h. inl (ap (is_now t) at ∙ logged_tree t q a.rec a.next (passed_turn f q put).logs h);
  keeps = λ h. kept_record t a.rec d.kept h;
  past = λ late old h k n. over n (is_active a.next.phase) refl h;
}
  where
    q : Transaction
    q = seen who d.arcs c

    a : Turn
    a = transacted f q

    m : Move
    m = turned who f d c

    over : is_now t m.next.current ≡ true → (b : Bool) → is_active a.next.phase ≡ b → rec_of_tree t a.rec ≡ true → is_active (phase_of m.next) ≡ false
    over n b i h = let l = now_left t a.next n in ap is_active (phase_left a.next m.next refl l.1) ∙ side b i
      where
        side : (b : Bool) → is_active a.next.phase ≡ b → is_active a.next.phase ≡ false
        side false i = i
        side true i = absurd (cc (ap (rec_of_tree t) ((silent_turn f q put).silent i).1, h))

bare_keep : (who : Who) (t : Aaid) (s d : Digest) (k : Kept) (f : KeptEvent) → IsAmong d.kept k → IsLoggedMove who t s d (keep (settled k f) d)
bare_keep who t s d k f among = record {
  logs = λ h. inr (among_tree t d.kept k among (settled_tree t k f h));
  keeps = λ h. kept_record t (settled k f).rec d.kept h;
  past = λ late old h none n. absurd (cc (none, among_tree t d.kept k among (settled_tree t k f h)));
}

bare_then : (who : Who) (t : Aaid) (s d : Digest) (fall : Bool) (a : Move) (f : Digest → Move) → IsBareMove who t s fall d a → IsBareMove who t s fall a.next (f a.next) → (a.rec ≡ None) ⊎ ((f a.next).rec ≡ None)
    → IsLoggedMove who t s d (followed a f)
bare_then who t s d fall a f one two quiet = record {
  logs = λ h. logs h which;
  keeps = λ h. keeps (two.1.keeps h) which;
  past = λ late old h none n. past late old h none n which;
}
  where
    b : Move
    b = f a.next

    m : Move
    m = followed a f

    which : (a.rec ≡ None) × (m.rec ≡ b.rec) ⊎ (b.rec ≡ None) × (m.rec ≡ a.rec)
    which = later_rec a.rec b.rec quiet

    none_a : a.rec ≡ None → rec_of_tree t a.rec ≡ true → ⊥
    none_a i h = cc (ap (rec_of_tree t) i, h)

    logs : rec_of_tree t m.rec ≡ true → (a.rec ≡ None) × (m.rec ≡ b.rec) ⊎ (b.rec ≡ None) × (m.rec ≡ a.rec) → (is_now t s.current ≡ true) ⊎ (keeps_tree t d.kept ≡ true)
    logs h (inr i) = one.1.logs (ap (rec_of_tree t) (sym i.1) ∙ h)
    logs h (inl i) = elim (two.1.logs (ap (rec_of_tree t) (sym i.1) ∙ h)) [
      | inl n ↦ inl n
      | inr k ↦ elim (one.1.keeps k) [ inl j ↦ inr j | inr j ↦ absurd (none_a i.0 j) ]
    ]

    keeps : (keeps_tree t a.next.kept ≡ true) ⊎ (rec_of_tree t b.rec ≡ true) → (a.rec ≡ None) × (m.rec ≡ b.rec) ⊎ (b.rec ≡ None) × (m.rec ≡ a.rec) → (keeps_tree t d.kept ≡ true) ⊎ (rec_of_tree t m.rec ≡ true)
    keeps (inl k) (inl i) = elim (one.1.keeps k) [ inl j ↦ inl j | inr j ↦ absurd (none_a i.0 j) ]
    keeps (inl k) (inr i) = elim (one.1.keeps k) [ inl j ↦ inl j | inr j ↦ inr (ap (rec_of_tree t) i.1 ∙ j) ]
    keeps (inr k) (inl i) = inr (ap (rec_of_tree t) i.1 ∙ k)
    keeps (inr k) (inr i) = absurd (cc (ap (rec_of_tree t) i.0, k))

    past : IsLate d → is_old who d t.mark ≡ true → rec_of_tree t m.rec ≡ true → keeps_tree t d.kept ≡ false → is_now t b.next.current ≡ true → (a.rec ≡ None) × (m.rec ≡ b.rec) ⊎ (b.rec ≡ None) × (m.rec ≡ a.rec) → is_active (phase_of b.next) ≡ false
    past late old h none n (inl i) = two.1.past (one.0.late late) (old_kept who d a.next t.mark one.0.boot one.0.drawn old) (ap (rec_of_tree t) (sym i.1) ∙ h) (side (keeps_tree t a.next.kept) refl) n
      where
        side : (v : Bool) → keeps_tree t a.next.kept ≡ v → keeps_tree t a.next.kept ≡ false
        side false j = j
        side true j = elim (one.1.keeps j) [ inl k ↦ absurd (cc (none, k)) | inr k ↦ absurd (none_a i.0 k) ]
    past late old h none n (inr i) =
        let aged = old_kept who d a.next t.mark one.0.boot one.0.drawn old in
        elim (two.0.enters (one.0.late late) n) [
          | inl mid ↦ stays_past (phase_of a.next) (phase_of b.next) (two.0.moves (one.0.late late) (λ _. aged) mid n) (one.1.past late old (ap (rec_of_tree t) (sym i.1) ∙ h) none mid)
          | inr x ↦ absurd (drawn_new who a.next b.next t x aged)
        ]

up_one : (a : _) → a ≤ suc a
up_one a = omega arith

bare_moves : (who : Who) (e : Event) (s : Digest) (fall : Bool) (t : Aaid) → Moves who e s (λ d m. IsTreed who s fall t 0 d m) → Moves who e s (IsBareMove who t s fall)
bare_moves who e s fall t k = record {
  still = λ d. (k.still d, quiet_move who t s d (move [] d) refl refl);
  chain = λ d a f one two quiet. (k.chain d a f one.0 two.0 quiet, bare_then who t s d fall a f one two quiet);
  speaks = λ d outs h own said. (k.speaks d outs h own said, quiet_move who t s d (perform outs d) refl refl);
  changes_dialogue = λ d p f m by one. (k.changes_dialogue d p f m by one.0, record { logs = one.1.logs; keeps = one.1.keeps; past = one.1.past });
  drops_arc = λ d p m at one. (k.drops_arc d p m at one.0, record { logs = one.1.logs; keeps = one.1.keeps; past = one.1.past });
  notes_kept = λ d ks m held one. (k.notes_kept d ks m held one.0, noted d ks m held.1 one.1);
  keeps = λ d x f among. (k.keeps d x f among, bare_keep who t s d x f among.1);
  turns = λ d c f now at asked put gone. (k.turns d c f now at asked put gone, bare_turned who t f s d c now at put);
  begins = λ d q free. (k.begins d q free, bare_begins who t s d q);
  roots = λ d m nil may one. (
    k.roots d m nil may one.0,
    record {
      logs = one.1.logs;
      keeps = one.1.keeps;
      past = λ late old h none n. one.1.past (late_fresh _) (old_kept who d (with_mark_drawn d) t.mark refl (up_one d.drawn) old) h none n;
    },
  );
}
  where
    noted : (d : Digest) (ks : List Kept) (m : Move) → not_forgotten ks ≡ not_forgotten d.kept → IsLoggedMove who t s (record d { kept = ks }) m → IsLoggedMove who t s d m
    noted d ks m same one = record {
      logs = λ h. elim (one.logs h) [ inl n ↦ inl n | inr i ↦ inr (sym held ∙ i) ];
      keeps = λ h. elim (one.keeps h) [ inl i ↦ inl (sym held ∙ i) | inr i ↦ inr i ];
      past = λ late old h none n. one.past late old h (held ∙ none) n;
    }
      where
        held : keeps_tree t ks ≡ keeps_tree t d.kept
        held = sym (forgotten_tree t ks) ∙ ap (keeps_tree t) same ∙ forgotten_tree t d.kept

bare_event : (who : Who) (d : Digest) (e : Event) (t : Aaid) → IsLate d → refusal who d e ≡ None → IsLoggedMove who t (prelude who d e) (prelude who d e) (action who d e)
bare_event who d e t late ok =
    (every_move who d e (IsBareMove who t (prelude who d e) true) (bare_moves who e (prelude who d e) true t (treed_moves who e (prelude who d e) true t 0 (λ c f arcs at asked h. refl))) late ok).1

-- ---- every legal history

record_case : (t : Aaid) (r : Option LogRec) (rs : List LogRec) → has_record (is_of_tree t) (with_rec r rs) ≡ true → (rec_of_tree t r ≡ true) ⊎ (has_record (is_of_tree t) rs ≡ true)
record_case t None rs h = inr h
record_case t (Some r) rs h = or_case (is_of_tree t r) (has_record (is_of_tree t) rs) h

record_first : (t : Aaid) (r : Option LogRec) (rs : List LogRec) → rec_of_tree t r ≡ true → has_record (is_of_tree t) (with_rec r rs) ≡ true
record_first t None rs h = absurd cc
record_first t (Some r) rs h = rw h refl

record_more : (t : Aaid) (r : Option LogRec) (rs : List LogRec) → has_record (is_of_tree t) rs ≡ true → has_record (is_of_tree t) (with_rec r rs) ≡ true
record_more t None rs h = h
record_more t (Some r) rs h = rw h (grind arith)

pub kept_prelude : (who : Who) (d : Digest) (e : Event) (t : Aaid) → keeps_tree t (prelude who d e).kept ≡ keeps_tree t d.kept
unfolding after_crash
kept_prelude who d (Event.Do r) t = grind arith
kept_prelude who d (Event.Arrive from r) t = grind arith
kept_prelude who d Event.Crash t = forgotten_tree t d.kept
kept_prelude who d _ t = refl

bare_step : (o : Origin) (up : Option Addr) (e : Entry) (h : List Entry) (t : Aaid) → o.start.records ≡ [] → IsGrown o up (e ∷ h) → IsOnce o (e ∷ h) → IsBare o h t → IsBare o (e ∷ h) t
bare_step o up e h t empty legal once b = record {
  known = λ k. elim (record_case t e.rec (records o h) k) [ inl new ↦ logged (moved.logs (ap (rec_of_tree t) (sym recs) ∙ new)) | inr old ↦ known_more o up e h t legal (b.known old) ];
  kept = λ k. elim (moved.keeps k) [
    | inl i ↦ record_more t e.rec (records o h) (b.kept (sym (kept_prelude o.who d e.event t) ∙ i))
    | inr i ↦ record_first t e.rec (records o h) (ap (rec_of_tree t) recs ∙ i)
  ];
  active = λ k n. elim (record_case t e.rec (records o h) k) [ inl new ↦ newly (ap (rec_of_tree t) (sym recs) ∙ new) n (keeps_tree t s.kept) refl | inr old ↦ older old n ];
}
  where
    d : Digest
    d = digest o h

    s : Digest
    s = prelude o.who d e.event

    next : Digest
    next = digest o (e ∷ h)

    moved : IsLoggedMove o.who t s s (action o.who d e.event)
    moved = bare_event o.who d e.event t (late_law o up h legal.3) legal.0

    treed : IsTreed o.who s true t 0 s (action o.who d e.event)
    treed = treed_event o.who d e.event t 0 (late_law o up h legal.3) legal.0

    late : IsLate s
    late = late_prelude o.who d e.event (late_law o up h legal.3)

    recs : e.rec ≡ (action o.who d e.event).rec
    recs = ap (λ (v : Entry). v.rec) (sym legal.1)

    known_now : is_now t s.current ≡ true → is_known o t (e ∷ h) ≡ true
    known_now n = elim (now_prelude o.who d e.event t legal.0 n) [
      | inl i ↦ known_more o up e h t legal (now_known o up h t empty legal.3 i)
      | inr i ↦ known_begun o e h t i
    ]

    logged : (is_now t s.current ≡ true) ⊎ (keeps_tree t s.kept ≡ true) → is_known o t (e ∷ h) ≡ true
    logged (inl n) = known_now n
    logged (inr k) = known_more o up e h t legal (b.known (b.kept (sym (kept_prelude o.who d e.event t) ∙ k)))

    older : has_record (is_of_tree t) (records o h) ≡ true → is_now t next.current ≡ true → is_active (phase_of next) ≡ false
    older old n =
        let know = b.known old in
        let aged = old_prelude o.who d e.event t.mark (known_old o h t once.1 know) in
        elim (treed.enters late n) [
          | inl m ↦
              (let same = same_phase o up e h t empty legal once know m in
              stays_past (phase_of s) (phase_of next) (treed.moves late (λ _. aged) m n) (ap is_active same.phase ∙ b.active old same.now))
          | inr x ↦ absurd (drawn_new o.who s next t x aged)
        ]

    newly : rec_of_tree t (action o.who d e.event).rec ≡ true → is_now t next.current ≡ true → (v : Bool) → keeps_tree t s.kept ≡ v → is_active (phase_of next) ≡ false
    newly new n true i = older (b.kept (sym (kept_prelude o.who d e.event t) ∙ i)) n
    newly new n false i = elim (moved.logs new) [
      | inl m ↦ moved.past late (prelude_old o up e h t empty legal once m) new i n
      | inr k ↦ absurd (cc (i, k))
    ]

pub bare_law : (o : Origin) (up : Option Addr) (h : List Entry) (t : Aaid) → o.start.records ≡ [] → IsGrown o up h → IsOnce o h → IsBare o h t
unfolding started
bare_law o up [] t empty legal once =
    let none : records o [] ≡ [] = rw empty refl in
    let bare : has_record (is_of_tree t) (records o []) ≡ false = ap (has_record (is_of_tree t)) none in
    record {
      known = λ k. absurd (cc (bare, k));
      kept = λ k. absurd (cc (rw empty at k));
      active = λ k n. absurd (cc (bare, k));
    }
bare_law o up (e ∷ h) t empty legal once = bare_step o up e h t empty legal once (bare_law o up h t empty legal.3 once.1)

-- ---- a node that left

leaving_logs : (who : Who) (d : Digest) → (action who d (Event.Do Request.Unchanged)).rec ≡ None
unfolding transact leave try_start
leaving_logs who d = go d.current
  where
    f : TxEvent
    f = TxEvent.User Request.Unchanged

    on : (c : Current) (b : Bool) → (if b then followed (turned who f d c) (try_start who) else turned who f d c).rec ≡ None
    on c false = refl
    on c true = rw (quiet_start who (turned who f d c).next) refl

    go : (o : Option Current)
        → (elim o as (λ _. Move) [
          | None ↦ move [] d
          | Some c ↦ started_next who (passage (is_leaving f) (seen who d.arcs c).phase (transacted f (seen who d.arcs c)).next.phase) (turned who f d c)
        ]).rec ≡ None
    go None = refl
    go (Some c) = on c (is_over (passage (is_leaving f) c.phase (transacted f (seen who d.arcs c)).next.phase))

pub unchanged_is : (f : Event) → is_unchanged f ≡ true → f ≡ Event.Do Request.Unchanged
unchanged_is (Event.Do Request.Unchanged) h = refl
unchanged_is f h = absurd (grind (arith, h))

left_nothing : (o : Origin) (up : Option Addr) (h : List Entry) (t : Aaid) → o.start.records ≡ [] → IsGrown o up h → IsOnce o h → has_left o t h ≡ true → has_record (is_of_tree t) (records o h) ≡ true → ⊥
left_nothing o up [] t empty legal once l r = absurd cc
left_nothing o up (e ∷ h) t empty legal once l r =
    go (or_case (is_now t d.current && is_unchanged e.event) (has_left o t h) l) (record_case t e.rec (records o h) r) (left_nothing o up h t empty legal.3 once.1)
  where
    d : Digest
    d = digest o h

    bare : IsBare o h t
    bare = bare_law o up h t empty legal.3 once.1

    recs : e.rec ≡ (action o.who d e.event).rec
    recs = ap (λ (v : Entry). v.rec) (sym legal.1)

    moved : IsLoggedMove o.who t (prelude o.who d e.event) (prelude o.who d e.event) (action o.who d e.event)
    moved = bare_event o.who d e.event t (late_law o up h legal.3) legal.0

    kept_before : keeps_tree t (prelude o.who d e.event).kept ≡ true → has_record (is_of_tree t) (records o h) ≡ true
    kept_before k = bare.kept (sym (kept_prelude o.who d e.event t) ∙ k)

    go : ((is_now t d.current && is_unchanged e.event) ≡ true) ⊎ (has_left o t h ≡ true) → (rec_of_tree t e.rec ≡ true) ⊎ (has_record (is_of_tree t) (records o h) ≡ true)
        → (has_left o t h ≡ true → has_record (is_of_tree t) (records o h) ≡ true → ⊥) → ⊥
    go (inr old) (inr before) rest = rest old before
    go (inr old) (inl new) rest =
        let gone = left_law o up h t empty legal.3 once.1 old in
        elim (moved.logs (ap (rec_of_tree t) (sym recs) ∙ new)) [
          | inl n ↦ gone.gone (now_before o up e h t empty legal once gone.known n)
          | inr k ↦ rest old (kept_before k)
        ]
    go (inl now) (inl new) rest =
        let is = unchanged_is e.event (and_right (is_now t d.current) (is_unchanged e.event) now) in
        let none : e.rec ≡ None = recs ∙ ap (λ (f : Event). (action o.who d f).rec) is ∙ leaving_logs o.who d in
        cc (ap (rec_of_tree t) none, new)
    go (inl now) (inr before) rest =
        let is = unchanged_is e.event (and_right (is_now t d.current) (is_unchanged e.event) now) in
        let n = and_left (is_now t d.current) (is_unchanged e.event) now in
        let c = now_some t d.current n in
        let act : is_active (phase_of d) ≡ true = ap is_active (phase_at d c.0 c.1) ∙ left_active o.who d c.0 c.1 (late_law o up h legal.3 c.0 c.1) (ap (refusal o.who d) (sym is) ∙ legal.0) in
        cc (act, bare.active before n)

-- ---- every run

pub left_is_bare : (es : List Happening) (t : Aaid) (x : Node) → IsOf (run es) t x → has_left x.origin t x.history ≡ true → has_logged (is_of_tree t) x ≡ false
left_is_bare es t x of l =
    let good = good_run es in
    false_from_ne_true (has_logged (is_of_tree t) x)
    (λ r. left_nothing x.origin x.superior x.history t (good.fresh (number_of x) x of.here) (good.legal (number_of x) x of.here) ((unique_run es).once (number_of x) x of.here) l r)
