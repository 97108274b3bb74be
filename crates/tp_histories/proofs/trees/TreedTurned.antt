-- An event of the transaction keeps what is said of one tree.
use Rattle.std.proofs.Common.{◌≡◌, inl, inr, ℕ, Bool, true, false, refl, ap, sym, ◌∙◌, arith, Option, Some, None, List, ◌&&◌, ◌||◌}
use Rattle.tp_names.specs.declared.identifiers.Aaid.{Aaid}
use Rattle.tp_names.specs.declared.identifiers.BranchId.{BranchId}
use Rattle.tp_names.specs.declared.children.Child.{Child}
use Rattle.tp_names.specs.Same.{is_aaid}
use Rattle.tp_logrec.specs.declared.record.LogRec.{LogRec}
use Rattle.tp_model.specs.declared.arc.Phase.{Phase}
use Rattle.tp_model.specs.declared.transaction.TxEvent.{TxEvent}
use Rattle.tp_model.specs.Parts.{Who, Event, Arc, Key, Root, Under, Branch, Current, Digest}
use Rattle.tp_model.specs.Links.{is_live}
use Rattle.tp_model.specs.Dialogues.{is_nil, is_active, is_ready, is_committing, is_rolling}
use Rattle.tp_model.specs.Arcs.{link_with}
use Rattle.tp_model.specs.Transactions.{Row, Transaction, Turn, aaid_of, node_key, superior_of, find_row, children_of, transacted}
use Rattle.tp_model.specs.Node.{Move, phase_of, seen_row, seen_rows, seen, branches_of, remaining, passage, Passage, is_leaving, entered}
use Rattle.tp_model.specs.Outcomes.{is_now}
use Rattle.tp_steps.specs.Turns.{falls}
use Rattle.tp_model.specs.Node.{turned}
use Rattle.tp_steps.specs.Moves.{IsPut}
use Rattle.tp_steps.specs.Facts.{BranchKey, id_at, find_branch, key_at, words_to}
use Rattle.tp_steps.specs.Passages.{is_commit_told, is_rollback_told, may_move, is_commit_rec, IsLogged, IsPassed}
use Rattle.tp_steps.specs.Trees.{begins_of, branch_of_tree, children_in, branches_now, IsLoggedIn, IsBoundIn, commits_tree, IsTreed}
use Rattle.tp_steps.proofs.links.Apart.{apart_turn}
use Rattle.tp_histories.proofs.trees.Late.{late_remaining}
use Rattle.tp_steps.proofs.words.FairTurns.{fair_turn}
use Rattle.tp_steps.proofs.links.Wrapped.{Agrees, agrees_played}
use Rattle.tp_steps.proofs.words.HeardTurned.{seen_find, left_find, id_seen, key_left}
use Rattle.tp_steps.proofs.log.Passed.{passed_turn}
use Rattle.tp_steps.proofs.lemmas.Equality.{or_case}
use Rattle.tp_steps.proofs.links.Told.{told_played}
use Rattle.tp_steps.proofs.words.Treed.{none_and, no_one, now_left, phase_left, children_seen, children_left, one_branch, begun_some, begins_spoken}
use Rattle.std.proofs.Math.Nat.{le_refl}
use Rattle.tp_steps.proofs.lemmas.Options.{some_same}
use Rattle.tp_steps.proofs.links.Whole.{whole_turn}

-- ---- an event of the transaction

pub bound : (q : Phase) (cs : List Child) (u : Transaction) (v : Current) → remaining u ≡ Some v → cs ≡ children_of u.rows → may_move q u.phase ≡ true → (cs ≡ children_in v.branches) × (may_move q v.phase ≡ true)
bound q cs u v is c m = go (is_nil u.phase) refl
  where
    go : (b : Bool) → is_nil u.phase ≡ b → (cs ≡ children_in v.branches) × (may_move q v.phase ≡ true)
    go true i = let none : None ≡ Some v = rw (i, remaining) at is in absurd (cc (none))
    go false i =
        let rows : branches_of u.rows ≡ v.branches = grind (arith, is, i) in
        let phase : u.phase ≡ v.phase = grind (arith, is, i) in
        (c ∙ sym (children_left u.rows) ∙ ap children_in rows, ap (may_move q) (sym phase) ∙ m)

-- a record, as the node has it
logged_in : (t : Aaid) (s : Digest) (c : Current) (k : Transaction) (o : Option LogRec) (u : Transaction) → s.current ≡ Some c → k.key ≡ c.key → k.phase ≡ c.phase → IsLogged k o u → IsLoggedIn t s o
logged_in t s c k (Some (LogRec.Boot n)) u at key phase l = l
logged_in t s c k (Some (LogRec.Ready n j a cs)) u at key phase l = λ same. (c, at, l.0 ∙ ap node_key key, ap superior_of (sym key) ∙ l.1, ap is_active (sym phase) ∙ l.3)
logged_in t s c k (Some (LogRec.Heuristic n j o)) u at key phase l = λ same. (c, at, l.0 ∙ ap node_key key, ap (λ (p : Phase). is_active p || is_ready p) (sym phase) ∙ l.1)
logged_in t s c k (Some (LogRec.Commit n j a cs)) u at key phase l = λ same. (c, at, l.0 ∙ ap node_key key, ap (λ (p : Phase). is_active p || is_ready p) (sym phase) ∙ l.2)
logged_in t s c k _ u at key phase l = tt

bound_in : (t : Aaid) (k : Transaction) (o : Option LogRec) (u : Transaction) → IsLogged k o u → IsBoundIn t o (remaining u)
bound_in t k (Some (LogRec.Ready n j a cs)) u l = λ same now v is. bound Phase.Ready cs u v is l.2 l.4
bound_in t k (Some (LogRec.Commit n j a cs)) u l = λ same now v is. bound Phase.Committing cs u v is l.1 l.3
bound_in t k _ u l = tt

pub key_turned : (who : Who) (arcs : List Arc) (c : Current) (u : Transaction) (p : ℕ) → is_nil c.phase ≡ false → is_nil u.phase ≡ false → u.key ≡ c.key → id_at u p ≡ id_at (seen who arcs c) p → key_at (remaining u) p ≡ key_at (Some c) p
key_turned who arcs c u p late over key ids = go (key_at (remaining u) p) refl (key_at (Some c) p) refl
  where
    some_pair : (v w : BranchKey) → v.0 ≡ w.0 → v.1 ≡ w.1 → ◌≡◌ {A = Option BranchKey} (Some v) (Some w)
    some_pair v w e f = rw (e, f) refl

    id_back : (w : BranchKey) → key_at (Some c) p ≡ Some w → (id_at (seen who arcs c) p ≡ Some w.1) × (w.0 ≡ aaid_of c.key)
    id_back w h = on (find_branch c.branches p) refl
      where
        on : (o : Option Branch) → find_branch c.branches p ≡ o → (id_at (seen who arcs c) p ≡ Some w.1) × (w.0 ≡ aaid_of c.key)
        on None i = absurd (grind (arith, h, i))
        on (Some x) i =
            let f : find_row (seen_rows arcs c.branches) p ≡ Some (seen_row arcs x) = seen_find arcs c.branches p ∙ rw i refl in
            let one : ◌≡◌ {A = Option BranchKey} (Some (aaid_of c.key, x.id)) (Some w) = grind (arith, h, i, late) in
            let two : ◌≡◌ {A = BranchKey} (aaid_of c.key, x.id) w = cc (one) in
            (rw (f, id_at) (ap (λ (v : BranchKey). Some v.1) two), sym (ap (λ (v : BranchKey). v.0) two))

    left_back : (b : BranchId) → id_at u p ≡ Some b → key_at (remaining u) p ≡ Some (aaid_of u.key, b)
    left_back b h = on (find_row u.rows p) refl
      where
        on : (o : Option Row) → find_row u.rows p ≡ o → key_at (remaining u) p ≡ Some (aaid_of u.key, b)
        on None i = absurd (cc (rw (i, id_at) at h))
        on (Some r) i =
            let f : find_branch (branches_of u.rows) p ≡ Some r.branch = left_find u.rows p ∙ rw i refl in
            let one : Some r.branch.id ≡ Some b = rw (i, id_at) at h in
            let same : r.branch.id ≡ b = cc (one) in
            grind (arith, over, f, same)

    go : (x : Option BranchKey) → key_at (remaining u) p ≡ x → (y : Option BranchKey) → key_at (Some c) p ≡ y → key_at (remaining u) p ≡ key_at (Some c) p
    go None i None j = i ∙ sym j
    go None i (Some w) j = let k = id_back w j in absurd (cc (i, left_back w.1 (ids ∙ k.0)))
    go (Some v) i y j =
        let k = key_left u p v i in
        let id : id_at (seen who arcs c) p ≡ Some v.1 = sym ids ∙ k.0 in
        let there : key_at (Some c) p ≡ Some (aaid_of c.key, v.1) = id_seen who arcs c p v.1 late id in
        i ∙ some_pair v (aaid_of c.key, v.1) (k.1 ∙ ap aaid_of key) refl ∙ sym there

pub treed_turned : (who : Who) (e : Event) (f : TxEvent) (d s : Digest) (c : Current) (fall : Bool) (t : Aaid) (p : ℕ) → (falls f (seen who d.arcs c) ≡ true → fall ≡ true) → d.current ≡ Some c → s.current ≡ Some c
    → IsPut f (seen who d.arcs c) → IsTreed who s fall t p d (turned who f d c)
treed_turned who e f d s c fall t p falls_so now at put = record {
  boot = refl;
  drawn = le_refl d.drawn;
  late = λ l. late_remaining a.next;
  enters = λ l n. inl (here n);
  born = λ l n. absurd (no_one (begins_of t (words_to p m.outs)) none n);
  more = λ l o n. none_and (begins_of t (words_to p m.outs)) (branch_of_tree t (key_at d.current p)) (branch_of_tree t (key_at m.next.current p)) none (rw (keys n) (le_refl (branch_of_tree t (key_at d.current p))));
  once = λ l o. none_and (begins_of t (words_to p m.outs)) (branch_of_tree t (key_at d.current p)) 1 none (one_branch t (key_at d.current p));
  ids = λ b l o n h. elim h [ inl k ↦ absurd (no_one (begins_of t (words_to p m.outs)) none (begun_some t b (words_to p m.outs) k)) | inr k ↦ keys n ∙ k ];
  active = λ l o n k. absurd (no_one (begins_of t (words_to p m.outs)) none n);
  key = λ l o x u h i n k. left_key u i ∙ passed.key ∙ ap (λ (y : Current). y.key) (some_same c x (sym now ∙ h));
  moves = λ l o n k. rw (was_phase, phases k) passed.moves;
  children = λ l o n k h. kids k h;
  logs = logged_in t s c q a.rec a.next at refl refl passed.logs;
  binds = λ l o. bound_in t q a.rec a.next passed.logs;
  commits = λ l n h. committed n (passed.commits (ap is_committing (sym (phases n)) ∙ h)) a.rec refl passed.logs;
  rolling = λ l n h. rolled n (passed.rolling (ap is_rolling (sym (phases n)) ∙ h));
  tells_commit = λ h. (c, at, passed.tells_commit (sym (told_played is_commit_told d q w a (whole_turn f q) (entered q w d.arcs)) ∙ h));
  tells_rollback = λ h. (c, at, fallen (passed.tells_rollback (sym (told_played is_rollback_told d q w a (whole_turn f q) (entered q w d.arcs)) ∙ h)));
}
  where
    q : Transaction
    q = seen who d.arcs c

    a : Turn
    a = transacted f q

    w : Passage
    w = passage (is_leaving f) q.phase a.next.phase

    m : Move
    m = turned who f d c

    passed : IsPassed f q q a
    passed = passed_turn f q put

    none : begins_of t (words_to p m.outs) ≡ 0
    none =
        let agrees : Agrees p (is_live (link_with d.arcs p)) a.outs m.outs (is_live (link_with m.next.arcs p)) = agrees_played d q w a (whole_turn f q) d.arcs p (apart_turn f q put) in
        ap (begins_of t) agrees.words ∙ begins_spoken t (is_live (link_with d.arcs p)) p a.outs passed.begins

    here : is_now t m.next.current ≡ true → is_now t d.current ≡ true
    here n = let k = now_left t a.next n in ap (is_now t) now ∙ ap (λ (j : Key). is_aaid t (aaid_of j)) (sym passed.key) ∙ k.0

    was_phase : phase_of d ≡ c.phase
    was_phase = rw (now, phase_of) refl

    phases : is_now t m.next.current ≡ true → phase_of m.next ≡ a.next.phase
    phases n = phase_left a.next m.next refl ((now_left t a.next n).1)

    keys : is_now t m.next.current ≡ true → key_at m.next.current p ≡ key_at d.current p
    keys n = key_turned who d.arcs c a.next p put.late ((now_left t a.next n).1) passed.key (fair_turn f q p put).same.ids ∙ ap (λ (o : Option Current). key_at o p) (sym now)

    left_key : (u : Current) → m.next.current ≡ Some u → u.key ≡ a.next.key
    left_key u i = go (is_nil a.next.phase) refl
      where
        go : (b : Bool) → is_nil a.next.phase ≡ b → u.key ≡ a.next.key
        go true j = let no : None ≡ Some u = rw (j, remaining) at i in absurd (cc (no))
        go false j = grind (arith, i, j)

    kids : is_now t m.next.current ≡ true → is_active (phase_of d) ≡ false → children_in (branches_now m.next.current) ≡ children_in (branches_now d.current)
    kids n h =
        let late = (now_left t a.next n).1 in
        let one : branches_now m.next.current ≡ branches_of a.next.rows = rw (late, remaining) refl in
        ap children_in one ∙ children_left a.next.rows ∙ passed.children (ap is_active (sym was_phase) ∙ h) ∙ children_seen d.arcs c.branches ∙ ap (λ (o : Option Current). children_in (branches_now o)) (sym now)

    committed : is_now t m.next.current ≡ true → (is_committing c.phase || is_commit_rec a.rec) ≡ true → (o : Option LogRec) → a.rec ≡ o → IsLogged q o a.next → ((is_now t d.current && is_committing (phase_of d)) || commits_tree t a.rec) ≡ true
    committed n h o i l = elim (or_case (is_committing c.phase) (is_commit_rec a.rec) h) [
      | inl j ↦ (let x = here n in let y : is_committing (phase_of d) ≡ true = ap is_committing was_phase ∙ j in rw (x, y) refl)
      | inr j ↦ rec_case o i l (sym (ap is_commit_rec i) ∙ j)
    ]
      where
        rec_case : (o : Option LogRec) → a.rec ≡ o → IsLogged q o a.next → is_commit_rec o ≡ true → ((is_now t d.current && is_committing (phase_of d)) || commits_tree t a.rec) ≡ true
        rec_case None i l k = absurd cc
        rec_case (Some (LogRec.Commit y j z cs)) i l k =
            let of_tree : is_aaid t j.aaid ≡ true = ap (λ (v : _). is_aaid t v.aaid) l.0 ∙ tree_of c.key refl ∙ (sym (ap (is_now t) now) ∙ here n) in
            let logs : commits_tree t a.rec ≡ true = ap (commits_tree t) i ∙ of_tree in
            rw logs (grind arith)
          where
            tree_of : (v : Key) → c.key ≡ v → is_aaid t (node_key c.key).aaid ≡ is_aaid t (aaid_of c.key)
            tree_of (Root x) v = rw v refl
            tree_of (Under x y z) v = rw v refl
        rec_case (Some r) i l k = absurd (grind (arith, k))

    fallen : (is_rolling c.phase || falls f q) ≡ true → (is_rolling c.phase || fall) ≡ true
    fallen h = elim (or_case (is_rolling c.phase) (falls f q) h) [ inl j ↦ rw j refl | inr j ↦ (let k = falls_so j in rw k (grind arith)) ]

    rolled : is_now t m.next.current ≡ true → (is_rolling c.phase || falls f q) ≡ true → ((is_now t d.current && is_rolling (phase_of d)) || (is_now t s.current && fall)) ≡ true
    rolled n h = elim (or_case (is_rolling c.phase) (falls f q) h) [
      | inl j ↦ (let x = here n in let y : is_rolling (phase_of d) ≡ true = ap is_rolling was_phase ∙ j in rw (x, y) refl)
      | inr j ↦ (let k = falls_so j in let x : is_now t s.current ≡ true = ap (is_now t) (at ∙ sym now) ∙ here n in rw (k, x) (grind arith))
    ]
