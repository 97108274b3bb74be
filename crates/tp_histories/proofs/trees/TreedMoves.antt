-- Every event of a node keeps what is said of one tree: the steps in which its transaction takes part, and all together.
use Rattle.std.proofs.Common.{◌≡◌, ◌≤◌, ◌+◌, ◌⊎◌, inl, inr, ℕ, zero, suc, Bool, true, false, refl, ap, sym, subst, ◌∙◌, arith, Option, Some, None, List, [], ◌++◌, ◌&&◌, ◌||◌}
use Rattle.tp_names.specs.declared.identifiers.Aaid.{Aaid}
use Rattle.tp_names.specs.declared.identifiers.BranchId.{BranchId}
use Rattle.tp_names.specs.declared.children.Child.{Child}
use Rattle.tp_records.specs.declared.dialogue.DialogueRecord.{DialogueRecord}
use Rattle.tp_logrec.specs.declared.record.LogRec.{LogRec}
use Rattle.tp_model.specs.declared.arc.Phase.{Phase}
use Rattle.tp_model.specs.declared.transaction.TxEvent.{TxEvent}
use Rattle.tp_model.specs.declared.recovery.Kept.{Kept}
use Rattle.tp_model.specs.Parts.{Who, Event, Arc, Current, Digest}
use Rattle.tp_model.specs.Dialogues.{is_active, is_committing, is_rolling}
use Rattle.tp_model.specs.Arcs.{with_dialogue, without_arc}
use Rattle.tp_model.specs.Recovery.{settled}
use Rattle.tp_model.specs.Node.{Move, move, followed, phase_of, seen, keep}
use Rattle.tp_model.specs.Questions.{said_to}
use Rattle.tp_model.specs.Outcomes.{is_now}
use Rattle.tp_steps.specs.Turns.{falls}
use Rattle.tp_steps.specs.Moves.{IsLate, Moves, IsAsked}
use Rattle.tp_steps.specs.Traces.{is_old}
use Rattle.tp_steps.specs.Facts.{only_words, key_at, words_to}
use Rattle.tp_steps.specs.Passages.{is_commit_told, is_rollback_told, may_move, is_commit_rec}
use Rattle.tp_steps.specs.Trees.{begins_of, IsBegunIn, branch_of_tree, IsDrawn, IsOld, children_in, branches_now, IsBoundAs, IsLoggedIn, IsBoundIn, commits_tree, out_tells, IsTreed}
use Rattle.tp_steps.proofs.links.Links.{said_append}
use Rattle.tp_steps.proofs.links.Wrapped.{words_append}
use Rattle.tp_steps.proofs.words.Hushed.{settled_spoken, least_then}
use Rattle.tp_steps.proofs.lemmas.Phases.{move_then, was_active, past_active}
use Rattle.tp_steps.proofs.lemmas.Equality.{or_case, and_left, and_right}
use Rattle.tp_steps.proofs.links.Told.{told_append}
use Rattle.tp_steps.proofs.words.Treed.{only_second, only_first, some_of, now_some, not_branch, begins_append, begun_some, begun_split, key_now, no_one, old_kept, drawn_new, drawn_old, drawn_wider, hush, hush_spoken, settled_logs}
use Rattle.tp_histories.proofs.trees.TreedTurned.{bound, treed_turned}
use Rattle.tp_histories.proofs.trees.TreedBegins.{treed_begins, treed_root}
use Rattle.tp_steps.proofs.log.Passed.{later_rec}
use Rattle.std.proofs.Math.Nat.{le_refl}
use Rattle.tp_steps.proofs.words.Fair.{at_most_then}

-- ---- chains

treed_then : (who : Who) (s d : Digest) (fall : Bool) (t : Aaid) (p : ℕ) (a : Move) (f : Digest → Move) → IsTreed who s fall t p d a → IsTreed who s fall t p a.next (f a.next) → (a.rec ≡ None) ⊎ ((f a.next).rec ≡ None)
    → IsTreed who s fall t p d (followed a f)
treed_then who s d fall t p a f one two quiet = record {
  boot = two.boot ∙ one.boot;
  drawn = at_most_then d.drawn a.next.drawn b.next.drawn one.drawn two.drawn;
  late = λ l. two.late (one.late l);
  enters = λ l n. entered_then l (two.enters (one.late l) n);
  born = λ l n. born_then l (subst (λ (v : ℕ). suc 0 ≤ v) sum n) (begins_of t wa) refl;
  more = λ l o n. rw sum (more_then l o n (two.enters (one.late l) n));
  once = λ l o. rw sum (once_then l o (begins_of t wb) refl);
  ids = λ i l o n h. ids_then i l o n (subst (λ (ws : List DialogueRecord). IsBegunIn t i ws ⊎ (key_at d.current p ≡ Some (t, i))) words h);
  active = λ l o n k. active_then l o k (subst (λ (v : ℕ). suc 0 ≤ v) sum n) (begins_of t wa) refl;
  key = λ l o c u h i n k.
      let v = now_some t a.next.current (between l o n k) in
      two.key (one.late l) (old_next l o) v.0 u v.1 i (between l o n k) k ∙ one.key l o c v.0 h v.1 n (between l o n k);
  moves = λ l o n k. move_then (phase_of d) (phase_of a.next) (phase_of b.next) (one.moves l o n (between l o n k)) (two.moves (one.late l) (old_next l o) (between l o n k) k);
  children = λ l o n k h.
      two.children (one.late l) (old_next l o) (between l o n k) k (past (one.moves l o n (between l o n k)) h) ∙ one.children l o n (between l o n k) h;
  logs = logs_then (later_rec a.rec b.rec quiet);
  binds = λ l o. binds_then l o (later_rec a.rec b.rec quiet);
  commits = λ l n h. commit_then l (or_case (is_now t a.next.current && is_committing (phase_of a.next)) (commits_tree t b.rec) (two.commits (one.late l) n h)) (later_rec a.rec b.rec quiet);
  rolling = λ l n h. roll_then l (or_case (is_now t a.next.current && is_rolling (phase_of a.next)) (is_now t s.current && fall) (two.rolling (one.late l) n h));
  tells_commit = λ h. elim (or_case (out_tells is_commit_told a.outs) (out_tells is_commit_told b.outs) (sym (told_append is_commit_told a.outs b.outs) ∙ h)) [
    | inl i ↦ tell_first (one.tells_commit i) (later_rec a.rec b.rec quiet)
    | inr i ↦ tell_second (two.tells_commit i) (later_rec a.rec b.rec quiet)
  ];
  tells_rollback = λ h. elim (or_case (out_tells is_rollback_told a.outs) (out_tells is_rollback_told b.outs) (sym (told_append is_rollback_told a.outs b.outs) ∙ h)) [
    | inl i ↦ one.tells_rollback i
    | inr i ↦ two.tells_rollback i
  ];
}
  where
    b : Move
    b = f a.next

    m : Move
    m = followed a f

    wa : List DialogueRecord
    wa = words_to p a.outs

    wb : List DialogueRecord
    wb = words_to p b.outs

    words : words_to p m.outs ≡ wa ++ wb
    words = ap only_words (said_append p a.outs b.outs) ∙ words_append (said_to p a.outs) (said_to p b.outs)

    sum : begins_of t (words_to p m.outs) ≡ begins_of t wa + begins_of t wb
    sum = ap (begins_of t) words ∙ begins_append t wa wb

    wide : IsDrawn who d a.next t → IsDrawn who d m.next t
    wide x = drawn_wider who d d a.next m.next t refl (le_refl d.drawn) two.drawn x

    later_drawn : IsDrawn who a.next b.next t → IsDrawn who d m.next t
    later_drawn x = drawn_wider who d a.next b.next m.next t one.boot one.drawn (le_refl m.next.drawn) x

    entered_then : IsLate d → (is_now t a.next.current ≡ true) ⊎ IsDrawn who a.next b.next t → (is_now t d.current ≡ true) ⊎ IsDrawn who d m.next t
    entered_then l (inl n) = elim (one.enters l n) [ inl k ↦ inl k | inr x ↦ inr (wide x) ]
    entered_then l (inr x) = inr (later_drawn x)

    born_then : IsLate d → suc 0 ≤ begins_of t wa + begins_of t wb → (k : ℕ) → begins_of t wa ≡ k → (is_now t d.current ≡ true) ⊎ IsDrawn who d m.next t
    born_then l n zero i = entered_then l (two.born (one.late l) (some_of (begins_of t wa) (begins_of t wb) i n))
    born_then l n (suc k) i = elim (one.born l (rw i (ones k))) [ inl j ↦ inl j | inr x ↦ inr (wide x) ]
      where
        ones : (k : ℕ) → suc 0 ≤ suc k
        ones k = omega arith

    old_next : IsLate d → IsOld who t d → IsOld who t a.next
    old_next l o n = elim (one.enters l n) [
      | inl k ↦ old_kept who d a.next t.mark one.boot one.drawn (o k)
      | inr x ↦ drawn_old who d a.next t one.boot x
    ]

    -- an identifier that is drawn after the first part is nowhere in it
    unknown : IsLate d → IsOld who t d → IsDrawn who a.next b.next t → (is_now t d.current ≡ false) × (begins_of t wa ≡ 0)
    unknown l o x = (side (is_now t d.current) refl, none (begins_of t wa) refl)
      where
        not_now : is_now t d.current ≡ true → ⊥
        not_now n = drawn_new who a.next b.next t x (old_kept who d a.next t.mark one.boot one.drawn (o n))

        side : (v : Bool) → is_now t d.current ≡ v → is_now t d.current ≡ false
        side false i = i
        side true i = absurd (not_now i)

        none : (k : ℕ) → begins_of t wa ≡ k → begins_of t wa ≡ 0
        none zero i = i
        none (suc k) i = elim (one.born l (rw i (ones k))) [ inl n ↦ absurd (not_now n) | inr y ↦ absurd (drawn_new who a.next b.next t x (drawn_old who d a.next t one.boot y)) ]
          where
            ones : (k : ℕ) → suc 0 ≤ suc k
            ones k = omega arith

    ids_then : (i : BranchId) → IsLate d → IsOld who t d → is_now t b.next.current ≡ true → IsBegunIn t i (wa ++ wb) ⊎ (key_at d.current p ≡ Some (t, i)) → key_at b.next.current p ≡ Some (t, i)
    ids_then i l o n h = at h
      where
        -- it stands after the first part
        stood : IsBegunIn t i wa ⊎ (key_at d.current p ≡ Some (t, i)) → key_at b.next.current p ≡ Some (t, i)
        stood k = elim (two.enters (one.late l) n) [
          | inl v ↦ two.ids i (one.late l) (old_next l o) n (inr (one.ids i l o v k))
          | inr x ↦ nowhere k (unknown l o x)
        ]
          where
            nowhere : IsBegunIn t i wa ⊎ (key_at d.current p ≡ Some (t, i)) → (is_now t d.current ≡ false) × (begins_of t wa ≡ 0) → key_at b.next.current p ≡ Some (t, i)
            nowhere (inl k) u = absurd (no_one (begins_of t wa) u.1 (begun_some t i wa k))
            nowhere (inr k) u = absurd (cc (u.0, key_now t i d.current p k))

        at : IsBegunIn t i (wa ++ wb) ⊎ (key_at d.current p ≡ Some (t, i)) → key_at b.next.current p ≡ Some (t, i)
        at (inr k) = stood (inr k)
        at (inl k) = elim (begun_split t i wa wb k) [
          | inl j ↦ stood (inl j)
          | inr j ↦ two.ids i (one.late l) (old_next l o) n (inl j)
        ]

    more_then : IsLate d → IsOld who t d → is_now t b.next.current ≡ true → (is_now t a.next.current ≡ true) ⊎ IsDrawn who a.next b.next t
        → begins_of t wa + begins_of t wb + branch_of_tree t (key_at d.current p) ≤ branch_of_tree t (key_at b.next.current p)
    more_then l o n (inl k) =
        least_then (begins_of t wa) (begins_of t wb) (branch_of_tree t (key_at d.current p)) (branch_of_tree t (key_at a.next.current p)) (branch_of_tree t (key_at b.next.current p)) (one.more l o k) (two.more (one.late l) (old_next l o) n)
    more_then l o n (inr x) =
        let u = unknown l o x in
        only_second (begins_of t wa) (begins_of t wb) (branch_of_tree t (key_at d.current p)) (branch_of_tree t (key_at a.next.current p)) (branch_of_tree t (key_at b.next.current p)) u.1 (not_branch t d.current p u.0) (two.more (one.late l) (old_next l o) n)

    once_then : IsLate d → IsOld who t d → (k : ℕ) → begins_of t wb ≡ k → begins_of t wa + begins_of t wb + branch_of_tree t (key_at d.current p) ≤ 1
    once_then l o zero i = only_first (begins_of t wa) (begins_of t wb) (branch_of_tree t (key_at d.current p)) 1 i (one.once l o)
    once_then l o (suc k) i = at (two.born (one.late l) (rw i (ones k)))
      where
        ones : (k : ℕ) → suc 0 ≤ suc k
        ones k = omega arith

        at : (is_now t a.next.current ≡ true) ⊎ IsDrawn who a.next b.next t → begins_of t wa + begins_of t wb + branch_of_tree t (key_at d.current p) ≤ 1
        at (inl n) = least_then (begins_of t wa) (begins_of t wb) (branch_of_tree t (key_at d.current p)) (branch_of_tree t (key_at a.next.current p)) 1 (one.more l o n) (two.once (one.late l) (old_next l o))
        at (inr x) =
            let u = unknown l o x in
            only_second (begins_of t wa) (begins_of t wb) (branch_of_tree t (key_at d.current p)) (branch_of_tree t (key_at a.next.current p)) 1 u.1 (not_branch t d.current p u.0) (two.once (one.late l) (old_next l o))

    -- current at both ends is current between
    between : IsLate d → IsOld who t d → is_now t d.current ≡ true → is_now t b.next.current ≡ true → is_now t a.next.current ≡ true
    between l o n k = elim (two.enters (one.late l) k) [
      | inl i ↦ i
      | inr x ↦ absurd (drawn_new who a.next b.next t x (old_kept who d a.next t.mark one.boot one.drawn (o n)))
    ]

    active_then : IsLate d → IsOld who t d → is_now t d.current ≡ true → suc 0 ≤ begins_of t wa + begins_of t wb → (k : ℕ) → begins_of t wa ≡ k → is_active (phase_of d) ≡ true
    active_then l o n h (suc k) i = one.active l o (rw i (ones k)) n
      where
        ones : (k : ℕ) → suc 0 ≤ suc k
        ones k = omega arith
    active_then l o n h zero i =
        let some : suc 0 ≤ begins_of t wb = some_of (begins_of t wa) (begins_of t wb) i h in
        elim (two.born (one.late l) some) [
          | inl k ↦ was_active (phase_of d) (phase_of a.next) (one.moves l o n k) (two.active (one.late l) (old_next l o) some k)
          | inr x ↦ absurd (drawn_new who a.next b.next t x (old_kept who d a.next t.mark one.boot one.drawn (o n)))
        ]

    past : may_move (phase_of d) (phase_of a.next) ≡ true → is_active (phase_of d) ≡ false → is_active (phase_of a.next) ≡ false
    past move h = go (is_active (phase_of a.next)) refl
      where
        go : (v : Bool) → is_active (phase_of a.next) ≡ v → is_active (phase_of a.next) ≡ false
        go false i = i
        go true i = absurd (cc (h, was_active (phase_of d) (phase_of a.next) move i))

    phase_now : (o : Digest) (u : Current) → o.current ≡ Some u → phase_of o ≡ u.phase
    phase_now o u h = rw (h, phase_of) refl

    branches_are : (o : Option Current) (u : Current) → o ≡ Some u → branches_now o ≡ u.branches
    branches_are o u h = rw h refl

    -- a record of the first part, seen from after the second
    bound_later : IsLate d → is_old who d t.mark ≡ true → (q : Phase) (cs : List Child) → ((v : Phase) → may_move q v ≡ true → is_active v ≡ false) → IsBoundAs t q cs a.next.current → IsBoundAs t q cs b.next.current
    bound_later l o q cs past_q bound now u is =
        let mid : is_now t a.next.current ≡ true = elim (two.enters (one.late l) now) [
          | inl i ↦ i
          | inr x ↦ absurd (drawn_new who a.next b.next t x (old_kept who d a.next t.mark one.boot one.drawn o))
        ] in
        let v = now_some t a.next.current mid in
        let first = bound mid v.0 v.1 in
        let old : IsOld who t a.next = λ n. old_kept who d a.next t.mark one.boot one.drawn o in
        let quiet_phase : is_active (phase_of a.next) ≡ false = ap is_active (phase_now a.next v.0 v.1) ∙ past_q v.0.phase first.1 in
        let kids = two.children (one.late l) old mid now quiet_phase in
        let move = two.moves (one.late l) old mid now in
        let step : may_move v.0.phase u.phase ≡ true = ap (λ (x : Phase). may_move x u.phase) (sym (phase_now a.next v.0 v.1)) ∙ ap (may_move (phase_of a.next)) (sym (phase_now b.next u is)) ∙ move in (
          first.0 ∙ ap children_in (sym (branches_are a.next.current v.0 v.1)) ∙ sym kids ∙ ap children_in (branches_are b.next.current u is),
          move_then q v.0.phase u.phase first.1 step,
        )

    past_ready : (v : Phase) → may_move Phase.Ready v ≡ true → is_active v ≡ false
    past_ready v h = past_active v (rw h refl)

    past_committing : (v : Phase) → may_move Phase.Committing v ≡ true → is_active v ≡ false
    past_committing v h = past_active v (rw h (grind arith))

    first_binds : IsLate d → is_old who d t.mark ≡ true → (r : Option LogRec) → IsBoundIn t r a.next.current → IsBoundIn t r b.next.current
    first_binds l o None g = tt
    first_binds l o (Some (LogRec.Boot n)) g = tt
    first_binds l o (Some (LogRec.Ready n k w cs)) g = λ same. bound_later l o Phase.Ready cs past_ready (g same)
    first_binds l o (Some (LogRec.Heuristic n k u)) g = tt
    first_binds l o (Some (LogRec.Commit n k w cs)) g = λ same. bound_later l o Phase.Committing cs past_committing (g same)
    first_binds l o (Some (LogRec.Damage n k w u r cs)) g = tt
    first_binds l o (Some (LogRec.End n k u)) g = tt

    logs_then : (a.rec ≡ None) × (m.rec ≡ b.rec) ⊎ (b.rec ≡ None) × (m.rec ≡ a.rec) → IsLoggedIn t s m.rec
    logs_then (inl i) = subst (λ (r : Option LogRec). IsLoggedIn t s r) (sym i.1) two.logs
    logs_then (inr i) = subst (λ (r : Option LogRec). IsLoggedIn t s r) (sym i.1) one.logs

    binds_then : IsLate d → is_old who d t.mark ≡ true → (a.rec ≡ None) × (m.rec ≡ b.rec) ⊎ (b.rec ≡ None) × (m.rec ≡ a.rec) → IsBoundIn t m.rec b.next.current
    binds_then l o (inl i) = subst (λ (r : Option LogRec). IsBoundIn t r b.next.current) (sym i.1) (two.binds (one.late l) (old_kept who d a.next t.mark one.boot one.drawn o))
    binds_then l o (inr i) = subst (λ (r : Option LogRec). IsBoundIn t r b.next.current) (sym i.1) (first_binds l o a.rec (one.binds l o))

    commit_then : IsLate d → ((is_now t a.next.current && is_committing (phase_of a.next)) ≡ true) ⊎ (commits_tree t b.rec ≡ true) → (a.rec ≡ None) × (m.rec ≡ b.rec) ⊎ (b.rec ≡ None) × (m.rec ≡ a.rec)
        → ((is_now t d.current && is_committing (phase_of d)) || commits_tree t m.rec) ≡ true
    commit_then l (inr c) (inl i) = let k : commits_tree t m.rec ≡ true = ap (commits_tree t) i.1 ∙ c in rw k (grind arith)
    commit_then l (inr c) (inr i) = absurd (cc (ap (commits_tree t) i.0, c))
    commit_then l (inl c) which =
        let first = one.commits l (and_left (is_now t a.next.current) (is_committing (phase_of a.next)) c) (and_right (is_now t a.next.current) (is_committing (phase_of a.next)) c) in
        elim (or_case (is_now t d.current && is_committing (phase_of d)) (commits_tree t a.rec) first) [
          | inl k ↦ rw k refl
          | inr k ↦ elim which [
            | inl i ↦ absurd (cc (ap (commits_tree t) i.0, k))
            | inr i ↦ (let x : commits_tree t m.rec ≡ true = ap (commits_tree t) i.1 ∙ k in rw x (grind arith))
          ]
        ]

    roll_then : IsLate d → ((is_now t a.next.current && is_rolling (phase_of a.next)) ≡ true) ⊎ ((is_now t s.current && fall) ≡ true) → ((is_now t d.current && is_rolling (phase_of d)) || (is_now t s.current && fall)) ≡ true
    roll_then l (inl c) = one.rolling l (and_left (is_now t a.next.current) (is_rolling (phase_of a.next)) c) (and_right (is_now t a.next.current) (is_rolling (phase_of a.next)) c)
    roll_then l (inr c) = rw c (grind arith)

    tell_first : (c : Current) × (s.current ≡ Some c) × ((is_committing c.phase || is_commit_rec a.rec) ≡ true) → (a.rec ≡ None) × (m.rec ≡ b.rec) ⊎ (b.rec ≡ None) × (m.rec ≡ a.rec)
        → (c : Current) × (s.current ≡ Some c) × ((is_committing c.phase || is_commit_rec m.rec) ≡ true)
    tell_first x (inl i) = (x.0, x.1, elim (or_case (is_committing x.0.phase) (is_commit_rec a.rec) x.2) [ inl k ↦ rw k refl | inr k ↦ absurd (cc (ap is_commit_rec i.0, k)) ])
    tell_first x (inr i) = (x.0, x.1, ap (λ (r : Option LogRec). is_committing x.0.phase || is_commit_rec r) i.1 ∙ x.2)

    tell_second : (c : Current) × (s.current ≡ Some c) × ((is_committing c.phase || is_commit_rec b.rec) ≡ true) → (a.rec ≡ None) × (m.rec ≡ b.rec) ⊎ (b.rec ≡ None) × (m.rec ≡ a.rec)
        → (c : Current) × (s.current ≡ Some c) × ((is_committing c.phase || is_commit_rec m.rec) ≡ true)
    tell_second x (inl i) = (x.0, x.1, ap (λ (r : Option LogRec). is_committing x.0.phase || is_commit_rec r) i.1 ∙ x.2)
    tell_second x (inr i) = (x.0, x.1, elim (or_case (is_committing x.0.phase) (is_commit_rec b.rec) x.2) [ inl k ↦ rw k refl | inr k ↦ absurd (cc (ap is_commit_rec i.0, k)) ])

-- ---- the steps

pub treed_moves : (who : Who) (e : Event) (s : Digest) (fall : Bool) (t : Aaid) (p : ℕ) → ((c : Current) (f : TxEvent) (arcs : List Arc) → s.current ≡ Some c → IsAsked e c f → falls f (seen who arcs c) ≡ true → fall ≡ true)
    → Moves who e s (IsTreed who s fall t p)
treed_moves who e s fall t p falls_so = record {
  still = λ d. hush who s fall t p d (move [] d) refl refl refl refl tt tt refl refl;
  chain = λ d a f one two quiet. treed_then who s d fall t p a f one two quiet;
  speaks = λ d outs h own said. hush_spoken who s fall t p d outs None d.kept h tt tt;
  changes_dialogue = λ d q f m by one. same (with_dialogue d.arcs q f) d.kept d m one;
  drops_arc = λ d q m at one. same (without_arc d.arcs q) d.kept d m one;
  notes_kept = λ d ks m held one. same d.arcs ks d m one;
  keeps = λ d k f held. hush_spoken who s fall t p d (settled k f).outs (settled k f).rec (keep (settled k f) d).next.kept (settled_spoken k f) ((settled_logs t s k f d.current).0) ((settled_logs t s k f d.current).1);
  turns = λ d c f now at asked put gone. treed_turned who e f d s c fall t p (falls_so c f d.arcs at asked) now at put;
  begins = λ d q free. treed_begins who s d fall t p q;
  roots = λ d m nil may one. treed_root who s d fall t p m nil one;
}
  where
    same : (arcs : List Arc) (ks : List Kept) (d : Digest) (m : Move) → IsTreed who s fall t p (record d { arcs = arcs; kept = ks }) m → IsTreed who s fall t p d m
    same arcs ks d m one = record {
      boot = one.boot;
      drawn = one.drawn;
      late = one.late;
      enters = λ l n. back (one.enters l n);
      born = λ l n. back (one.born l n);
      more = one.more;
      once = one.once;
      ids = one.ids;
      active = one.active;
      key = one.key;
      moves = one.moves;
      children = one.children;
      logs = one.logs;
      binds = one.binds;
      commits = one.commits;
      rolling = one.rolling;
      tells_commit = one.tells_commit;
      tells_rollback = one.tells_rollback;
    }
      where
        back : (is_now t d.current ≡ true) ⊎ IsDrawn who (record d { arcs = arcs; kept = ks }) m.next t → (is_now t d.current ≡ true) ⊎ IsDrawn who d m.next t
        back (inl n) = inl n
        back (inr x) = inr (record { count = x.count; is = x.is; later = x.later; known = x.known })
