-- In a history that enters each tree once, nothing is decided twice.
use Rattle.std.proofs.Common.{◌≡◌, ◌⊎◌, inl, inr, Bool, true, false, refl, ap, sym, subst, ◌∙◌, arith, Option, Some, None, List, [], ◌∷◌, ◌&&◌, ◌||◌}
use Rattle.tp_names.specs.declared.identifiers.Aaid.{Aaid}
use Rattle.tp_names.specs.declared.identifiers.Addr.{Addr}
use Rattle.tp_records.specs.declared.dialogue.DialogueRecord.{DialogueRecord}
use Rattle.tp_records.specs.declared.peer.PeerRecord.{PeerRecord}
use Rattle.tp_logrec.specs.declared.record.LogRec.{LogRec}
use Rattle.tp_model.specs.declared.arc.Phase.{Phase}
use Rattle.tp_model.specs.Parts.{Origin, Event, Entry, Under, Current, Digest}
use Rattle.tp_model.specs.Dialogues.{is_nil, is_active, is_ready, is_committing, is_rolling}
use Rattle.tp_model.specs.Node.{phase_of, fresh_current}
use Rattle.tp_model.specs.Events.{refusal, action, recovered_current}
use Rattle.tp_model.specs.History.{digest, records}
use Rattle.tp_model.specs.Outcomes.{is_now, has_commit_of, decided, rolls, is_crash_in_active, rolled}
use Rattle.tp_model.specs.Legal.{IsGrown}
use Rattle.tp_steps.specs.Moves.{IsLate, prelude}
use Rattle.tp_steps.specs.Traces.{is_old}
use Rattle.tp_steps.specs.Passages.{may_move}
use Rattle.tp_steps.specs.Trees.{IsOld, IsLoggedIn, IsBoundIn, commits_tree, IsTreed}
use Rattle.tp_histories.specs.Members.{is_begun_by, is_known, IsOnce}
use Rattle.tp_histories.specs.Fates.{has_ready_in, IsFated}
use Rattle.tp_histories.proofs.trees.Late.{late_law, late_prelude}
use Rattle.tp_steps.proofs.lemmas.Equality.{aaids_equal, or_case, and_left, and_right}
use Rattle.tp_steps.proofs.words.Treed.{drawn_new}
use Rattle.tp_histories.proofs.trees.Knowing.{Came, As_it_was, By_begin, By_crash, came_by, old_prelude, now_prelude, known_begun, known_more, now_known, current_none}
use Rattle.tp_histories.proofs.worlds.TreeMembers.{known_old, prelude_old}
use Rattle.tp_steps.proofs.branches.Rolls.{rolls_from, phase_at}
use Rattle.tp_histories.proofs.trees.Fallen.{is_plain, IsFallen, fallen_event, nil_phase}
use Rattle.tp_histories.proofs.trees.Behind.{treed_rolls, commit_case, commit_first, ready_case, plain_commit, logged_now, commit_logged, ready_logged, commit_bound, ready_bound, to_committing, to_rolling, stays_past, SamePhase, same_phase, crash_current, no_open_rolling, no_open_committing, begin_nil}
use Rattle.tp_steps.proofs.lemmas.Words.{commit_more}

-- ---- a step

fated_step : (o : Origin) (up : Option Addr) (e : Entry) (h : List Entry) (t : Aaid) → o.start.records ≡ [] → IsGrown o up (e ∷ h) → IsOnce o (e ∷ h) → IsFated o h t → IsFated o (e ∷ h) t
fated_step o up e h t empty legal once f = record {
  commit_now = λ c n. commit_now (commit_case t e.rec (records o h) c) n;
  rolled_now = λ r n. rolled_now (roll_case r) n;
  ready_now = λ r n. elim (ready_case t e.rec (records o h) r) [
    | inl new ↦ (let k = ready_logged t s e.rec logs new in past_ready (phase_of next) (ready_bound t next e.rec (k_binds (prelude_old o up e h t empty legal once)) new n))
    | inr old ↦ (let m = mid (f.ready_known old) n in let b = same_phase o up e h t empty legal once (f.ready_known old) m in stays_past (phase_of s) (phase_of next) (moved m n) (ap is_active b.phase ∙ f.ready_now old b.now))
  ];
  committing = λ n c. elim (or_case (is_now t s.current && is_committing (phase_of s)) (commits_tree t (action o.who d e.event).rec) (treed.commits late n c)) [
    | inl k ↦ was_committing (and_left (is_now t s.current) (is_committing (phase_of s)) k) (and_right (is_now t s.current) (is_committing (phase_of s)) k)
    | inr k ↦ commit_first t e.rec (records o h) (ap (commits_tree t) recs ∙ k)
  ];
  rolling = λ n c. elim (or_case (is_now t s.current && is_rolling (phase_of s)) (is_now t s.current && rolls o.who d e.event) (treed.rolling late n c)) [
    | inl k ↦ was_rolling (and_left (is_now t s.current) (is_rolling (phase_of s)) k) (and_right (is_now t s.current) (is_rolling (phase_of s)) k)
    | inr k ↦ rolls_now (and_left (is_now t s.current) (rolls o.who d e.event) k) (and_right (is_now t s.current) (rolls o.who d e.event) k)
  ];
  commit_known = λ c. elim (commit_case t e.rec (records o h) c) [
    | inl new ↦ known_now (commit_logged t s e.rec logs new).now
    | inr old ↦ known_more o up e h t legal (f.commit_known old)
  ];
  rolled_known = λ r. elim (roll_case r) [
    | inl new ↦ known_more o up e h t legal (now_known o up h t empty legal.3 new.0)
    | inr old ↦ known_more o up e h t legal (f.rolled_known old)
  ];
  ready_known = λ r. elim (ready_case t e.rec (records o h) r) [
    | inl new ↦ known_now (ready_logged t s e.rec logs new).now
    | inr old ↦ known_more o up e h t legal (f.ready_known old)
  ];
  never_both = λ c r. never (commit_case t e.rec (records o h) c) (roll_case r);
}
  where
    d : Digest
    d = digest o h

    s : Digest
    s = prelude o.who d e.event

    next : Digest
    next = digest o (e ∷ h)

    late : IsLate s
    late = late_prelude o.who d e.event (late_law o up h legal.3)

    treed : IsTreed o.who s (rolls o.who d e.event) t 0 s (action o.who d e.event)
    treed = treed_rolls o.who d e.event t 0 (late_law o up h legal.3) legal.0

    recs : e.rec ≡ (action o.who d e.event).rec
    recs = ap (λ (v : Entry). v.rec) (sym legal.1)

    logs : IsLoggedIn t s e.rec
    logs = subst (λ (r : Option LogRec). IsLoggedIn t s r) (sym recs) treed.logs

    k_binds : IsOld o.who t s → IsBoundIn t e.rec next.current
    k_binds old = subst (λ (r : Option LogRec). IsBoundIn t r next.current) (sym recs) (binds_of (is_now t s.current) refl)
      where
        binds_of : (b : Bool) → is_now t s.current ≡ b → IsBoundIn t (action o.who d e.event).rec next.current
        binds_of true i = treed.binds late (old i)
        binds_of false i = none (action o.who d e.event).rec treed.logs
          where
            none : (r : Option LogRec) → IsLoggedIn t s r → IsBoundIn t r next.current
            none None l = tt
            none (Some (LogRec.Boot n)) l = tt
            none (Some (LogRec.Ready n k a cs)) l = λ same. let x = l same in absurd (cc (i, logged_now t s k x.0 x.1 x.2 same))
            none (Some (LogRec.Heuristic n k u)) l = tt
            none (Some (LogRec.Commit n k a cs)) l = λ same. let x = l same in absurd (cc (i, logged_now t s k x.0 x.1 x.2 same))
            none (Some (LogRec.Damage n k a u r cs)) l = tt
            none (Some (LogRec.End n k u)) l = tt

    nil_next : is_now t next.current ≡ true → is_nil (phase_of next) ≡ false
    nil_next n = nil_phase next t (late_law o up (e ∷ h) legal) n

    old_s : is_known o t h ≡ true → is_old o.who s t.mark ≡ true
    old_s k = old_prelude o.who d e.event t.mark (known_old o h t once.1 k)

    -- a known tree that is current after the event is so after its prelude
    mid : is_known o t h ≡ true → is_now t next.current ≡ true → is_now t s.current ≡ true
    mid k n = elim (treed.enters late n) [ inl i ↦ i | inr x ↦ absurd (drawn_new o.who s next t x (old_s k)) ]

    moved : is_now t s.current ≡ true → is_now t next.current ≡ true → may_move (phase_of s) (phase_of next) ≡ true
    moved m n = treed.moves late (prelude_old o up e h t empty legal once) m n

    known_now : is_now t s.current ≡ true → is_known o t (e ∷ h) ≡ true
    known_now n = elim (now_prelude o.who d e.event t legal.0 n) [
      | inl i ↦ known_more o up e h t legal (now_known o up h t empty legal.3 i)
      | inr i ↦ known_begun o e h t i
    ]

    past_ready : (p : Phase) → may_move Phase.Ready p ≡ true → is_active p ≡ false
    past_ready Phase.Nil i = refl
    past_ready Phase.Active i = absurd cc
    past_ready Phase.Ready i = refl
    past_ready Phase.Committing i = refl
    past_ready Phase.Rolling i = refl

    -- what rolls in this event, and what rolled before
    roll_case : rolled o t (e ∷ h) ≡ true → (is_now t d.current ≡ true) × ((rolls o.who d e.event || is_crash_in_active d e.event) ≡ true) ⊎ (rolled o t h ≡ true)
    roll_case r = elim (or_case (is_now t d.current && (rolls o.who d e.event || is_crash_in_active d e.event)) (rolled o t h) r) [
      | inl i ↦ inl (and_left (is_now t d.current) (rolls o.who d e.event || is_crash_in_active d e.event) i, and_right (is_now t d.current) (rolls o.who d e.event || is_crash_in_active d e.event) i)
      | inr i ↦ inr i
    ]

    crash_is : (f : Event) → is_crash_in_active d f ≡ true → (f ≡ Event.Crash) × (is_active (phase_of d) ≡ true)
    crash_is Event.Crash i = (refl, i)
    crash_is f i = absurd (grind (arith, i))

    commit_now : (commits_tree t e.rec ≡ true) ⊎ (decided o t h ≡ true) → is_now t next.current ≡ true → is_committing (phase_of next) ≡ true
    commit_now (inl new) n =
        let k = commit_logged t s e.rec logs new in
        to_committing Phase.Committing (phase_of next) (commit_bound t next e.rec (k_binds (prelude_old o up e h t empty legal once)) new n) refl (nil_next n)
    commit_now (inr old) n =
        let m = mid (f.commit_known old) n in
        let b = same_phase o up e h t empty legal once (f.commit_known old) m in
        to_committing (phase_of s) (phase_of next) (moved m n) (ap is_committing b.phase ∙ f.commit_now old b.now) (nil_next n)

    fallen : is_now t d.current ≡ true → rolls o.who d e.event ≡ true → IsFallen t (action o.who d e.event)
    fallen n r = fallen_event o.who d e.event t legal.0 r n (known_old o h t once.1 (now_known o up h t empty legal.3 n))

    rolled_now : (is_now t d.current ≡ true) × ((rolls o.who d e.event || is_crash_in_active d e.event) ≡ true) ⊎ (rolled o t h ≡ true) → is_now t next.current ≡ true → is_rolling (phase_of next) ≡ true
    rolled_now (inr old) n =
        let m = mid (f.rolled_known old) n in
        let b = same_phase o up e h t empty legal once (f.rolled_known old) m in
        to_rolling (phase_of s) (phase_of next) (moved m n) (ap is_rolling b.phase ∙ f.rolled_now old b.now) (nil_next n)
    rolled_now (inl new) n = elim (or_case (rolls o.who d e.event) (is_crash_in_active d e.event) new.1) [
      | inl r ↦ (fallen new.0 r).rolling n
      | inr c ↦ (let k = crash_is e.event c in let m = mid (now_known o up h t empty legal.3 new.0) n in absurd (crashed_active k.0 k.1 m))
    ]
      where
        crashed_active : e.event ≡ Event.Crash → is_active (phase_of d) ≡ true → is_now t s.current ≡ true → ⊥
        crashed_active is act m = none d.current refl (ap (is_now t) (sym (ap (λ (f : Event). (prelude o.who d f).current) is ∙ crash_current o.who d)) ∙ m)
          where
            none : (v : Option Current) → d.current ≡ v → is_now t (recovered_current v) ≡ true → ⊥
            none None i k = absurd cc
            none (Some c) i k = let a : is_active c.phase ≡ true = ap is_active (sym (phase_at d c i)) ∙ act in absurd (grind (arith, a, k))

    -- what is current after the prelude was so, in its phase, or begins
    at_first : is_now t s.current ≡ true → (SamePhase d s t) ⊎ (phase_of s ≡ Phase.Active) × (rolls o.who d e.event ≡ false)
    at_first m = elim (now_prelude o.who d e.event t legal.0 m) [
      | inl i ↦ inl (same_phase o up e h t empty legal once (now_known o up h t empty legal.3 i) m)
      | inr i ↦ inr (begins e.event refl i (came_by o.who d e.event legal.0))
    ]
      where
        begins : (f : Event) → e.event ≡ f → is_begun_by t f ≡ true → Came o.who d e.event → (phase_of s ≡ Phase.Active) × (rolls o.who d e.event ≡ false)
        begins (Event.Arrive from (PeerRecord.OnAssoc x y q (DialogueRecord.Begin u b k))) i j (By_begin fr z w v r g l a is found cur nil above) = (phase_at s (fresh_current (Under r g a.peer)) cur, ap (rolls o.who d) i)
        begins (Event.Arrive from (PeerRecord.OnAssoc x y q (DialogueRecord.Begin u b k))) i j (By_crash is cur) = absurd (cc (i, is))
        begins (Event.Arrive from (PeerRecord.OnAssoc x y q (DialogueRecord.Begin u b k))) i j (As_it_was cur) = absurd (taken_now cur)
          where
            taken_now : s.current ≡ d.current → ⊥
            taken_now c =
                let same : t ≡ u = aaids_equal t u j in
                let now_d : is_now t d.current ≡ true = ap (is_now t) (sym c) ∙ m in
                let ok : refusal o.who d (Event.Arrive from (PeerRecord.OnAssoc x y q (DialogueRecord.Begin u b k))) ≡ None = subst (λ (f : Event). refusal o.who d f ≡ None) i legal.0 in
                begin_nil o.who d from x y q u b k t (late_law o up h legal.3) ok now_d
        begins f i j c = absurd (grind (arith, j))

    was_committing : is_now t s.current ≡ true → is_committing (phase_of s) ≡ true → decided o t (e ∷ h) ≡ true
    was_committing m c = elim (at_first m) [
      | inl b ↦ commit_more t e.rec (records o h) (f.committing b.now (ap is_committing (sym b.phase) ∙ c))
      | inr b ↦ absurd (cc (ap is_committing b.0, c))
    ]

    was_rolling : is_now t s.current ≡ true → is_rolling (phase_of s) ≡ true → rolled o t (e ∷ h) ≡ true
    was_rolling m c = elim (at_first m) [
      | inl b ↦ rw (f.rolling b.now (ap is_rolling (sym b.phase) ∙ c)) (grind arith)
      | inr b ↦ absurd (cc (ap is_rolling b.0, c))
    ]

    rolls_now : is_now t s.current ≡ true → rolls o.who d e.event ≡ true → rolled o t (e ∷ h) ≡ true
    rolls_now m c = elim (at_first m) [
      | inl b ↦ rolled_here (is_now t d.current) (rolls o.who d e.event) (is_crash_in_active d e.event) (rolled o t h) b.now c
      | inr b ↦ absurd (cc (b.1, c))
    ]
      where
        rolled_here : (w x y z : Bool) → w ≡ true → x ≡ true → ((w && (x || y)) || z) ≡ true
        rolled_here w x y z i j = rw (i, j) refl

    never : (commits_tree t e.rec ≡ true) ⊎ (decided o t h ≡ true) → (is_now t d.current ≡ true) × ((rolls o.who d e.event || is_crash_in_active d e.event) ≡ true) ⊎ (rolled o t h ≡ true) → ⊥
    never (inr c) (inr r) = f.never_both c r
    never (inl c) (inl r) = elim (or_case (rolls o.who d e.event) (is_crash_in_active d e.event) r.1) [
      | inl i ↦ (let plain : is_plain e.rec ≡ true = ap is_plain recs ∙ (fallen r.0 i).plain in absurd (cc (c, plain_commit t e.rec plain)))
      | inr i ↦ (let k = crash_is e.event i in let none : e.rec ≡ None = recs ∙ ap (λ (f : Event). (action o.who d f).rec) k.0 in absurd (cc (c, ap (commits_tree t) none)))
    ]
    never (inl c) (inr r) =
        let k = commit_logged t s e.rec logs c in
        let b = same_phase o up e h t empty legal once (f.rolled_known r) k.now in
        no_open_rolling (phase_of d) (ap (λ (p : Phase). is_active p || is_ready p) (sym b.phase) ∙ k.phase) (f.rolled_now r b.now)
    never (inr c) (inl r) = elim (or_case (rolls o.who d e.event) (is_crash_in_active d e.event) r.1) [
      | inl i ↦ no_open_committing (phase_of d) (rolls_from o.who d e.event i) (f.commit_now c r.0)
      | inr i ↦ (let k = crash_is e.event i in no_open_committing (phase_of d) (rw (k.1) refl) (f.commit_now c r.0))
    ]

pub fated_law : (o : Origin) (up : Option Addr) (h : List Entry) (t : Aaid) → o.start.records ≡ [] → IsGrown o up h → IsOnce o h → IsFated o h t
fated_law o up [] t empty legal once =
    let none : records o [] ≡ [] = rw empty refl in
    let bare : decided o t [] ≡ false = ap (has_commit_of t) none in
    let idle : is_now t (digest o []).current ≡ false = ap (is_now t) (current_none o empty) in
    let unready : has_ready_in t (records o []) ≡ false = ap (has_ready_in t) none in
    record {
      commit_now = λ c n. absurd (cc (bare, c));
      rolled_now = λ r n. absurd (cc (r));
      ready_now = λ r n. absurd (cc (unready, r));
      committing = λ n c. absurd (cc (idle, n));
      rolling = λ n c. absurd (cc (idle, n));
      commit_known = λ c. absurd (cc (bare, c));
      rolled_known = λ r. absurd (cc (r));
      ready_known = λ r. absurd (cc (unready, r));
      never_both = λ c r. absurd (cc (r));
    }
fated_law o up (e ∷ h) t empty legal once = fated_step o up e h t empty legal once (fated_law o up h t empty legal.3 once.1)
