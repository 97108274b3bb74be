-- A transaction that begins, on an arc or at its root, keeps what is said of one tree.
use Rattle.std.proofs.Common.{if◌then◌else◌, ◌≡◌, ◌≤◌, ◌+◌, ◌⊎◌, inl, inr, ℕ, suc, Bool, true, false, refl, ap, sym, subst, ◌∙◌, arith, Option, Some, None, List, [], ◌∷◌, ◌++◌, ◌&&◌, ◌||◌, ◌==◌}
use Rattle.std.proofs.lemmas.Bool.Decides.{nat_tests}
use Rattle.tp_names.specs.declared.identifiers.Aaid.{Aaid}
use Rattle.tp_names.specs.declared.identifiers.BranchId.{BranchId}
use Rattle.tp_names.specs.Same.{is_aaid}
use Rattle.tp_records.specs.declared.dialogue.DialogueRecord.{DialogueRecord}
use Rattle.tp_model.specs.declared.arc.Side.{Side}
use Rattle.tp_model.specs.declared.transaction.TxOut.{TxOut}
use Rattle.tp_model.specs.Parts.{Who, Arc, Root, Branch, Current, Digest}
use Rattle.tp_model.specs.Links.{is_live}
use Rattle.tp_model.specs.Dialogues.{is_nil, is_active, is_committing, is_rolling, begun_by, named_holder}
use Rattle.tp_model.specs.Arcs.{find_arc, link_with, with_dialogue}
use Rattle.tp_model.specs.Transactions.{Transaction, aaid_of, find_row, situation_of}
use Rattle.tp_model.specs.Node.{Move, move, perform, next_mark, with_mark_drawn, phase_of, seen_row, seen_rows, seen, branches_of, remaining, situation_at, fresh_current, with_begun, may_begin_on, begin_on}
use Rattle.tp_model.specs.Outcomes.{is_now}
use Rattle.tp_steps.specs.Moves.{IsLate}
use Rattle.tp_steps.specs.Facts.{spoken, BranchKey, find_branch, key_at, words_to}
use Rattle.tp_steps.specs.Passages.{is_commit_told, is_rollback_told}
use Rattle.tp_steps.specs.Trees.{begins_of, IsBegunIn, branch_of_tree, IsDrawn, IsOld, commits_tree, IsTreed}
use Rattle.tp_steps.proofs.every.EveryRecord.{find_arc_is}
use Rattle.tp_histories.proofs.trees.Late.{late_remaining, late_fresh}
use Rattle.tp_steps.proofs.links.Wrapped.{Agrees, agrees_performed}
use Rattle.tp_steps.proofs.words.HeardTurned.{seen_find, left_find}
use Rattle.tp_steps.proofs.words.Heard.{begun_id, begun_row, free_row, row_fresh}
use Rattle.tp_steps.proofs.lemmas.Phases.{move_same}
use Rattle.tp_steps.proofs.lemmas.Equality.{aaids_equal}
use Rattle.tp_steps.proofs.links.Told.{told_performed}
use Rattle.tp_steps.proofs.words.Treed.{up_one, none_and, no_one, now_some, now_left, phase_left, not_branch, one_branch, key_now, old_kept, drawn_old, drawn_wider, hush}
use Rattle.tp_histories.proofs.trees.TreedTurned.{key_turned}
use Rattle.tp_steps.proofs.every.BeginCases.{begun_over, begin_cases, begin_word, begin_arcs}
use Rattle.std.proofs.Math.Nat.{le_refl}
use Rattle.tp_steps.proofs.lemmas.Options.{some_same}
use Rattle.tp_steps.proofs.words.Fair.{at_most_then}

-- ---- a transaction begins on an arc

pub treed_begins : (who : Who) (s d : Digest) (fall : Bool) (t : Aaid) (p q : ℕ) → IsTreed who s fall t p d (begin_on who q d)
treed_begins who s d fall t p q = begin_cases (IsTreed who s fall t p d) who q d still on
  where
    id : BranchId
    id = record { superior = who.site; mark = next_mark who d }

    still : IsTreed who s fall t p d (move [] d)
    still = hush who s fall t p d (move [] d) refl refl refl refl tt tt refl refl

    on : (c : Current) (a : Arc) → d.current ≡ Some c → find_arc d.arcs q ≡ Some a → may_begin_on who d a ≡ true → IsTreed who s fall t p d (begun_over who q d c a)
    on c a now found i = record {
      boot = refl;
      drawn = up_one d.drawn;
      late = λ l. late_remaining u;
      enters = λ l n. inl (here n);
      born = λ l n. inl (began n);
      more = λ l o n. split (q == p) refl;
      once = λ l o. at_most_then (begins_of t (words_to p m.outs) + branch_of_tree t (key_at d.current p)) (branch_of_tree t (key_at m.next.current p)) 1 (split (q == p) refl) (one_branch t (key_at m.next.current p));
      ids = λ b l o n h. ids b h (q == p) refl;
      active = λ l o n j. ap is_active was_phase ∙ active;
      key = λ l o x v h k n j. left_key v k ∙ ap (λ (y : Current). y.key) (some_same c x (sym now ∙ h));
      moves = λ l o n k. rw (was_phase, now_phase) (move_same c.phase);
      children = λ l o n k h. absurd (cc (ap is_active was_phase ∙ active, h));
      logs = tt;
      binds = λ l o. tt;
      commits = λ l n h. absurd (never_committing (ap is_committing (sym now_phase) ∙ h));
      rolling = λ l n h. absurd (never_rolling (ap is_rolling (sym now_phase) ∙ h));
      tells_commit = λ h. absurd (cc (told_performed is_commit_told arcs outs, h));
      tells_rollback = λ h. absurd (cc (told_performed is_rollback_told arcs outs, h));
    }
      where
        k : Transaction
        k = seen who d.arcs c

        u : Transaction
        u = record k { rows = k.rows ++ row_fresh a.peer id ∷ [] }

        outs : List TxOut
        outs = TxOut.Carry q (begin_word who d c a) ∷ []

        arcs : List Arc
        arcs = begin_arcs q d a

        m : Move
        m = begun_over who q d c a

        may : may_begin_on who d a ≡ true
        may = grind (arith, i)

        active : is_active c.phase ≡ true
        active = let h : is_active (phase_of d) ≡ true = grind (arith, may) in rw (now, phase_of) at h

        never_committing : is_committing c.phase ≡ true → ⊥
        never_committing h = absurd (grind (arith, active, h))

        never_rolling : is_rolling c.phase ≡ true → ⊥
        never_rolling h = absurd (grind (arith, active, h))

        late : is_nil u.phase ≡ false
        late = grind (arith, active)

        was_phase : phase_of d ≡ c.phase
        was_phase = rw (now, phase_of) refl

        now_phase : phase_of m.next ≡ c.phase
        now_phase = phase_left u m.next refl late

        left_key : (v : Current) → m.next.current ≡ Some v → v.key ≡ c.key
        left_key v j = grind (arith, j, late)

        here : is_now t m.next.current ≡ true → is_now t d.current ≡ true
        here n = ap (is_now t) now ∙ (now_left t u n).0

        agrees : Agrees p (is_live (link_with arcs p)) outs m.outs (is_live (link_with m.next.arcs p))
        agrees = agrees_performed arcs outs p refl

        peer : a.peer.node ≡ q
        peer = find_arc_is d.arcs q a found

        began : suc 0 ≤ begins_of t (words_to p m.outs) → is_now t d.current ≡ true
        began n = side (is_aaid t (aaid_of c.key)) refl
          where
            none_off : (b : Bool) → is_aaid t (aaid_of c.key) ≡ false → begins_of t (spoken b p outs) ≡ 0
            none_off true h = grind (arith, h)
            none_off false h = grind (arith, h)

            side : (b : Bool) → is_aaid t (aaid_of c.key) ≡ b → is_now t d.current ≡ true
            side true h = ap (is_now t) now ∙ h
            side false h = absurd (no_one (begins_of t (words_to p m.outs)) (ap (begins_of t) agrees.words ∙ none_off (is_live (link_with arcs p)) h) n)

        -- no word to another peer, and its branch stays
        off : (q == p) ≡ false → (words_to p m.outs ≡ []) × (key_at m.next.current p ≡ key_at d.current p)
        off j = (agrees.words ∙ not_to (is_live (link_with arcs p)) j, key_turned who d.arcs c u p late_c late refl (begun_id k a.peer id p (ap (λ (n : ℕ). n == p) peer ∙ j)) ∙ ap (λ (o : Option Current). key_at o p) (sym now))
          where
            late_c : is_nil c.phase ≡ false
            late_c = grind (arith, active)

            not_to : (b : Bool) → (q == p) ≡ false → spoken b p outs ≡ []
            not_to b h = grind (arith, h)

        -- the peer had no branch, and has this one
        on_peer : (q == p) ≡ true → (key_at d.current p ≡ None) × (key_at m.next.current p ≡ Some (aaid_of c.key, id))
        on_peer j =
            let here_node : a.peer.node ≡ p = peer ∙ grind (arith, nat_tests, j) in
            let eq : (a.peer.node == p) ≡ true = ap (λ (n : ℕ). n == p) peer ∙ j in
            let free_sit : (situation_at who d a.peer.node).branch ≡ false = grind (arith, may) in
            let free : (situation_of k p).branch ≡ false = ap (λ (n : ℕ). (situation_of k n).branch) (sym here_node) ∙ (rw (now, situation_at) at free_sit) in
            let empty = free_row who d.arcs c p free in
            let row : find_row u.rows p ≡ Some (row_fresh a.peer id) = begun_row k a.peer id p eq empty.0 in
            (ap (λ (o : Option Current). key_at o p) now ∙ none_before empty.0, after row)
          where
            none_before : find_row (seen_rows d.arcs c.branches) p ≡ None → key_at (Some c) p ≡ None
            none_before h = pick (find_branch c.branches p) refl
              where
                pick : (o : Option Branch) → find_branch c.branches p ≡ o → key_at (Some c) p ≡ None
                pick None z = grind (arith, z)
                pick (Some x) z = let f : find_row (seen_rows d.arcs c.branches) p ≡ Some (seen_row d.arcs x) = seen_find d.arcs c.branches p ∙ rw z refl in absurd (cc (h, f))

            after : find_row u.rows p ≡ Some (row_fresh a.peer id) → key_at (remaining u) p ≡ Some (aaid_of c.key, id)
            after h = let f : find_branch (branches_of u.rows) p ≡ Some (row_fresh a.peer id).branch = left_find u.rows p ∙ rw h refl in grind (arith, f, late)

        ids : (b : BranchId) → IsBegunIn t b (words_to p m.outs) ⊎ (key_at d.current p ≡ Some (t, b)) → (v : Bool) → (q == p) ≡ v → key_at m.next.current p ≡ Some (t, b)
        ids b (inl h) true j = (on_peer j).1 ∙ new_word (is_live (link_with arcs p)) (subst (λ (ws : List DialogueRecord). IsBegunIn t b ws) agrees.words h)
          where
            spoken_one : Bool → Bool → List DialogueRecord
            spoken_one v w = if v && w then begin_word who d c a ∷ [] else []

            is : (v : Bool) → spoken v p outs ≡ spoken_one v (q == p)
            is v = grind arith

            both : (u t : Aaid) (i b : BranchId) → u ≡ t → i ≡ b → ◌≡◌ {A = Option BranchKey} (Some (u, i)) (Some (t, b))
            both u t i b g h = rw (g, h) refl

            list : (v w : Bool) → IsBegunIn t b (spoken_one v w) → ◌≡◌ {A = Option BranchKey} (Some (aaid_of c.key, id)) (Some (t, b))
            list true true (inl h) = both (aaid_of c.key) t id b h.0 h.1
            list true true (inr h) = absurd h
            list true false h = absurd h
            list false w h = absurd h

            new_word : (v : Bool) → IsBegunIn t b (spoken v p outs) → ◌≡◌ {A = Option BranchKey} (Some (aaid_of c.key, id)) (Some (t, b))
            new_word v h = list v (q == p) (subst (λ (ws : List DialogueRecord). IsBegunIn t b ws) (is v) h)
        ids b (inl h) false j = absurd (subst (λ (ws : List DialogueRecord). IsBegunIn t b ws) (off j).0 h)
        ids b (inr h) true j = absurd (cc ((on_peer j).0, h))
        ids b (inr h) false j = (off j).1 ∙ h

        -- the new branch, or what was there
        split : (v : Bool) → (q == p) ≡ v → begins_of t (words_to p m.outs) + branch_of_tree t (key_at d.current p) ≤ branch_of_tree t (key_at m.next.current p)
        split false j =
            let x = off j in
            let keys = x.1 in
            none_and (begins_of t (words_to p m.outs)) (branch_of_tree t (key_at d.current p)) (branch_of_tree t (key_at m.next.current p)) (ap (begins_of t) x.0) (rw keys (le_refl (branch_of_tree t (key_at d.current p))))
        split true j = let x = on_peer j in at_new x.0 x.1
          where
            at_new : key_at d.current p ≡ None → key_at m.next.current p ≡ Some (aaid_of c.key, id) → begins_of t (words_to p m.outs) + branch_of_tree t (key_at d.current p) ≤ branch_of_tree t (key_at m.next.current p)
            at_new old new = rw (old, new) (plus_none (begins_of t (words_to p m.outs)) (branch_of_tree t (Some (aaid_of c.key, id))) (most (is_live (link_with arcs p)) (ap (begins_of t) agrees.words)))
              where
                plus_none : (x y : ℕ) → x ≤ y → x + 0 ≤ y
                plus_none x y h = omega (arith, h)

                most : (v : Bool) → begins_of t (words_to p m.outs) ≡ begins_of t (spoken v p outs) → begins_of t (words_to p m.outs) ≤ branch_of_tree t (Some (aaid_of c.key, id))
                most v h = rw h (grind arith)

-- ---- a tree that the node roots

pub treed_root : (who : Who) (s d : Digest) (fall : Bool) (t : Aaid) (p : ℕ) (m : Move) → is_nil (phase_of d) ≡ true
    → IsTreed who s fall t p (record (with_mark_drawn d) { current = Some (fresh_current (Root (record { owner = who.site; mark = next_mark who d }))) }) m → IsTreed who s fall t p d m
treed_root who s d fall t p m nil one = record {
  boot = one.boot;
  drawn = at_most_then d.drawn (suc d.drawn) m.next.drawn (up_one d.drawn) one.drawn;
  late = λ l. one.late fresh_late;
  enters = λ l n. inr (was_drawn (one.enters fresh_late n));
  born = λ l n. inr (was_drawn (one.born fresh_late n));
  more = λ l o n. none_old (begins_of t (words_to p m.outs)) (branch_of_tree t (key_at m.next.current p)) l (one.more fresh_late fresh_old n);
  once = λ l o. none_old (begins_of t (words_to p m.outs)) 1 l (one.once fresh_late fresh_old);
  ids = λ b l o n h. elim h [ inl k ↦ one.ids b fresh_late fresh_old n (inl k) | inr k ↦ absurd (empty l (key_now t b d.current p k)) ];
  active = λ l o n k. absurd (empty l k);
  key = λ l o c u h i n k. absurd (empty l n);
  moves = λ l o n k. absurd (empty l n);
  children = λ l o n k h. absurd (empty l n);
  logs = one.logs;
  binds = λ l o. one.binds fresh_late (old_kept who d g t.mark refl (up_one d.drawn) o);
  commits = λ l n h. fresh_commit (is_now t d.current && is_committing (phase_of d)) (one.commits fresh_late n h);
  rolling = λ l n h. fresh_roll (is_now t d.current && is_rolling (phase_of d)) (one.rolling fresh_late n h);
  tells_commit = one.tells_commit;
  tells_rollback = one.tells_rollback;
}
  where
    a : Aaid
    a = record { owner = who.site; mark = next_mark who d }

    g : Digest
    g = record (with_mark_drawn d) { current = Some (fresh_current (Root a)) }

    fresh_late : IsLate g
    fresh_late = late_fresh (Root a)

    empty : IsLate d → is_now t d.current ≡ true → ⊥
    empty l n =
        let c = now_some t d.current n in
        let young : is_nil c.0.phase ≡ false = l c.0 c.1 in
        let old : is_nil c.0.phase ≡ true = rw (c.1, phase_of) at nil in
        cc (young, old)

    drawn_here : is_now t g.current ≡ true → IsDrawn who d m.next t
    drawn_here n = record { count = suc d.drawn; is = aaids_equal t a n; later = le_refl (suc d.drawn); known = one.drawn }

    was_drawn : (is_now t g.current ≡ true) ⊎ IsDrawn who g m.next t → IsDrawn who d m.next t
    was_drawn (inl n) = drawn_here n
    was_drawn (inr x) = drawn_wider who d g m.next m.next t refl (up_one d.drawn) (le_refl m.next.drawn) x

    fresh_old : IsOld who t g
    fresh_old n = drawn_old who d g t refl (record { count = suc d.drawn; is = aaids_equal t a n; later = le_refl (suc d.drawn); known = le_refl (suc d.drawn) })

    none_old : (x n : ℕ) → IsLate d → x + branch_of_tree t (key_at g.current p) ≤ n → x + branch_of_tree t (key_at d.current p) ≤ n
    none_old x n l h =
        let z : branch_of_tree t (key_at d.current p) ≡ 0 = go (is_now t d.current) refl in
        let w : branch_of_tree t (key_at g.current p) ≡ 0 = refl in
        sums z w h
      where
        go : (b : Bool) → is_now t d.current ≡ b → branch_of_tree t (key_at d.current p) ≡ 0
        go true i = absurd (empty l i)
        go false i = not_branch t d.current p i

        sums : {y z : ℕ} → y ≡ 0 → z ≡ 0 → x + z ≤ n → x + y ≤ n
        sums h i k = omega (arith, h, i, k)

    fresh_commit : (b : Bool) → ((is_now t g.current && is_committing (phase_of g)) || commits_tree t m.rec) ≡ true → (b || commits_tree t m.rec) ≡ true
    fresh_commit b h = grind (arith, h)

    fresh_roll : (b : Bool) → ((is_now t g.current && is_rolling (phase_of g)) || (is_now t s.current && fall)) ≡ true → (b || (is_now t s.current && fall)) ≡ true
    fresh_roll b h = grind (arith, h)
