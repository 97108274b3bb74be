-- In every legal history, what is known of a tree whose commitment ended clear: it is over, nothing of it is kept, and its user
-- was told commit.
use Rattle.std.proofs.Common.{◌≡◌, ◌⊎◌, inl, inr, Bool, true, false, refl, ap, sym, subst, ◌∙◌, arith, Option, Some, None, List, [], ◌∷◌, ◌&&◌, not, reverse}
use Rattle.tp_names.specs.declared.identifiers.Aaid.{Aaid}
use Rattle.tp_names.specs.declared.identifiers.NodeKey.{NodeKey}
use Rattle.tp_names.specs.declared.identifiers.Addr.{Addr}
use Rattle.tp_names.specs.declared.outcome.Outcome.{Outcome}
use Rattle.tp_names.specs.Same.{is_aaid}
use Rattle.tp_logrec.specs.declared.record.LogRec.{LogRec}
use Rattle.tp_model.specs.declared.arc.Phase.{Phase}
use Rattle.tp_model.specs.Parts.{Origin, Entry, Under, Current, Digest}
use Rattle.tp_model.specs.Dialogues.{is_nil, is_committing, is_rolling}
use Rattle.tp_model.specs.Transactions.{aaid_of, node_key}
use Rattle.tp_model.specs.Recovery.{is_commit}
use Rattle.tp_model.specs.Node.{phase_of, fresh_current}
use Rattle.tp_model.specs.Events.{action, recovered_current, decision_of}
use Rattle.tp_model.specs.History.{digest, records, with_rec}
use Rattle.tp_model.specs.Outcomes.{is_now, rolls, decided, last_decision, tells_complete_none, completed_none, told}
use Rattle.tp_model.specs.Promises.{is_of_tree, has_record}
use Rattle.tp_model.specs.Legal.{IsGrown}
use Rattle.tp_steps.specs.Moves.{IsLate, prelude}
use Rattle.tp_steps.specs.Traces.{is_old}
use Rattle.tp_steps.specs.Passages.{may_move, is_commit_rec}
use Rattle.tp_steps.specs.Trees.{IsLoggedIn, out_tells, IsTreed}
use Rattle.tp_histories.specs.Members.{is_begun_by, is_known, IsOnce}
use Rattle.tp_runs.specs.Bare.{keeps_tree}
use Rattle.tp_steps.specs.Clearing.{is_complete_none, damages_tree, has_damage}
use Rattle.tp_reports.specs.Clearing.{decided_by, is_for_rollback, ends_tree, has_cleared}
use Rattle.tp_steps.proofs.lemmas.Words.{damage_first, damage_more}
use Rattle.tp_histories.proofs.trees.Late.{late_law, late_prelude}
use Rattle.tp_steps.proofs.lemmas.Equality.{or_case, and_left, and_right}
use Rattle.tp_steps.proofs.words.Leaves.{aaid_same}
use Rattle.tp_steps.proofs.log.Owned.{key_aaid}
use Rattle.tp_steps.proofs.branches.Rolls.{phase_at}
use Rattle.tp_steps.proofs.lemmas.Words.{commit_more}
use Rattle.tp_steps.proofs.words.Treed.{now_some, drawn_new}
use Rattle.tp_histories.proofs.trees.Knowing.{Came, As_it_was, By_begin, By_crash, came_by, current_none, old_prelude, now_known, now_prelude, nil_now, treed_event}
use Rattle.tp_histories.proofs.worlds.TreeMembers.{known_old, prelude_old, now_then}
use Rattle.tp_histories.proofs.trees.Behind.{to_rolling, SamePhase, same_phase}
use Rattle.tp_histories.proofs.trees.Fated.{fated_law}
use Rattle.tp_runs.proofs.Bare.{bare_law}
use Rattle.tp_runs.proofs.Bare.{kept_prelude as tree_prelude}
use Rattle.tp_histories.proofs.upward.SpeaksUp.{complete_tells, complete_commit_told}
use Rattle.tp_runs.proofs.Users.{tells_at}
use Rattle.tp_model.specs.World.{Node, number_of}
use Rattle.tp_model.specs.Happenings.{Happening, run}
use Rattle.tp_model.specs.Promises.{IsOf, told_of}
use Rattle.tp_histories.proofs.worlds.Good.{good_run}
use Rattle.tp_histories.proofs.worlds.Unique.{unique_run}
use Rattle.tp_agreement.proofs.OwingLaw.{kept_none}
use Rattle.tp_reports.proofs.ClearingMoves.{IsClearingMove, clearing_event}
use Rattle.tp_steps.proofs.lemmas.Options.{some_same}
use Rattle.std.proofs.lemmas.Bool.{not-true}

-- ---- records

pub damage_case : (t : Aaid) (r : Option LogRec) (rs : List LogRec) → has_damage t (with_rec r rs) ≡ true → (damages_tree t r ≡ true) ⊎ (has_damage t rs ≡ true)
damage_case t None rs h = inr h
damage_case t (Some r) rs h = or_case (damages_tree t (Some r)) (has_damage t rs) h

pub damage_record : (t : Aaid) (rs : List LogRec) → has_damage t rs ≡ true → has_record (is_of_tree t) rs ≡ true
damage_record t [] h = absurd (cc (h))
damage_record t (LogRec.Damage n k s o r cs ∷ rs) h = elim (or_case (is_aaid t k.aaid) (has_damage t rs) h) [ inl i ↦ rw i refl | inr i ↦ (let rest = damage_record t rs i in rw rest (grind arith)) ]
damage_record t (r ∷ rs) h = let rest = damage_record t rs (grind (arith, h)) in rw rest (grind arith)

pub cleared_case : (t : Aaid) (r : Option LogRec) (rs : List LogRec) → has_cleared t (with_rec r rs) ≡ true → (ends_tree t r ≡ true) × (has_damage t rs ≡ false) ⊎ (has_cleared t rs ≡ true)
cleared_case t None rs h = inr h
cleared_case t (Some r) rs h = elim (or_case (ends_tree t (Some r) && not (has_damage t rs)) (has_cleared t rs) h) [
  | inl i ↦ inl (and_left (ends_tree t (Some r)) (not (has_damage t rs)) i, not-true (has_damage t rs) (and_right (ends_tree t (Some r)) (not (has_damage t rs)) i))
  | inr i ↦ inr i
]

pub cleared_first : (t : Aaid) (r : Option LogRec) (rs : List LogRec) → ends_tree t r ≡ true → has_damage t rs ≡ false → has_cleared t (with_rec r rs) ≡ true
cleared_first t None rs h i = absurd (cc (h))
cleared_first t (Some r) rs h i = rw (h, i) refl

pub cleared_more : (t : Aaid) (r : Option LogRec) (rs : List LogRec) → has_cleared t rs ≡ true → has_cleared t (with_rec r rs) ≡ true
cleared_more t None rs h = h
cleared_more t (Some r) rs h = rw h (grind arith)

ends_record : (t : Aaid) (r : LogRec) → ends_tree t (Some r) ≡ true → is_of_tree t r ≡ true
ends_record t (LogRec.End n k o) h = and_right (is_commit o) (is_aaid t k.aaid) h
ends_record t _ h = absurd (cc (h))

pub cleared_record : (t : Aaid) (rs : List LogRec) → has_cleared t rs ≡ true → has_record (is_of_tree t) rs ≡ true
cleared_record t [] h = absurd (cc (h))
cleared_record t (r ∷ rs) h = elim (cleared_case t (Some r) rs h) [
  | inl i ↦ rw (ends_record t r i.0) refl
  | inr i ↦ (let rest = cleared_record t rs i in rw rest (grind arith))
]

ends_no_damage : (t : Aaid) (r : Option LogRec) → ends_tree t r ≡ true → damages_tree t r ≡ true → ⊥
ends_no_damage t (Some (LogRec.End n k o)) h i = cc (i)
ends_no_damage t _ h i = cc (h)

-- a decision of the tree is of what is current after the prelude; another record changes no decision
data Decides (t : Aaid) (s : Digest) (r : Option LogRec) (rs : List LogRec) : Type 0 where
  Heuristically : (o : Outcome) → is_now t s.current ≡ true → last_decision t (with_rec r rs) ≡ Some o → ((u : Option Outcome) → decided_by r u ≡ Some o) → Decides t s r rs
  Not_at_all : last_decision t (with_rec r rs) ≡ last_decision t rs → (is_now t s.current ≡ true → (u : Option Outcome) → decided_by r u ≡ u) → Decides t s r rs

decides_case : (t : Aaid) (s : Digest) (r : Option LogRec) (rs : List LogRec) → ((u : Aaid) → IsLoggedIn u s r) → Decides t s r rs
decides_case t s None rs logs = Not_at_all refl (λ n u. refl)
decides_case t s (Some (LogRec.Heuristic n k o)) rs logs = go (is_aaid t k.aaid) refl
  where
    own : (c : Current) × (s.current ≡ Some c) × (k ≡ node_key c.key)
    own = let x = logs k.aaid (aaid_same k.aaid) in (x.0, x.1, x.2)

    tree : k.aaid ≡ aaid_of own.0.key
    tree = ap (λ (j : NodeKey). j.aaid) own.2 ∙ key_aaid own.0.key

    go : (v : Bool) → is_aaid t k.aaid ≡ v → Decides t s (Some (LogRec.Heuristic n k o)) rs
    go true i = Heuristically o (ap (is_now t) own.1 ∙ ap (is_aaid t) (sym tree) ∙ i) (rw (i, last_decision) refl) (λ u. refl)
    go false i = Not_at_all (rw (i, last_decision) refl) (λ m u. absurd (cc (i, ap (is_aaid t) tree ∙ ap (is_now t) (sym own.1) ∙ m)))
decides_case t s _ rs logs = Not_at_all refl (λ m u. refl)

-- ---- a decision is recovered

decision_prelude : (o : Origin) (up : Option Addr) (e : Entry) (h : List Entry) (t : Aaid) → IsGrown o up (e ∷ h) → is_now t (digest o h).current ≡ true → is_now t (prelude o.who (digest o h) e.event).current ≡ true
    → decision_of (prelude o.who (digest o h) e.event).current ≡ decision_of (digest o h).current
decision_prelude o up e h t legal n m = go (came_by o.who (digest o h) e.event legal.0)
  where
    recovered : (v : Option Current) → is_now t (recovered_current v) ≡ true → decision_of (recovered_current v) ≡ decision_of v
    recovered None k = refl
    recovered (Some c) k = grind (arith, k)

    go : Came o.who (digest o h) e.event → decision_of (prelude o.who (digest o h) e.event).current ≡ decision_of (digest o h).current
    go (As_it_was i) = ap decision_of i
    go (By_begin from x y q u b k a is found cur nil above) = absurd (cc (n, nil_now (digest o h) t (late_law o up h legal.3) nil))
    go (By_crash is cur) = ap decision_of cur ∙ recovered (digest o h).current (ap (is_now t) (sym cur) ∙ m)

record Committing (o : Origin) (h : List Entry) (t : Aaid) : Type 0 where
  now : is_now t (digest o h).current ≡ true
  phase : is_committing (phase_of (digest o h)) ≡ true
  decision : is_for_rollback (decision_of (digest o h).current) ≡ false

-- ---- every legal history

pub record IsCleared (o : Origin) (h : List Entry) (t : Aaid) : Type 0 where
  pub damage_now : has_damage t (records o h) ≡ true → is_now t (digest o h).current ≡ true → is_rolling (phase_of (digest o h)) ≡ true
  pub damage_kept : keeps_tree t (digest o h).kept ≡ true → has_damage t (records o h) ≡ true
  pub decision : is_now t (digest o h).current ≡ true → is_rolling (phase_of (digest o h)) ≡ false → is_for_rollback (last_decision t (records o h)) ≡ true → is_for_rollback (decision_of (digest o h).current) ≡ true
  pub clear_over : has_cleared t (records o h) ≡ true → is_now t (digest o h).current ≡ true → ⊥
  pub clear_whole : has_cleared t (records o h) ≡ true → has_damage t (records o h) ≡ false
  pub clear_decided : has_cleared t (records o h) ≡ true → decided o t h ≡ true
  pub clear_decision : has_cleared t (records o h) ≡ true → is_for_rollback (last_decision t (records o h)) ≡ false
  pub completed : completed_none o t h ≡ true → has_cleared t (records o h) ≡ true

cleared_step : (o : Origin) (up : Option Addr) (e : Entry) (h : List Entry) (t : Aaid) → o.start.records ≡ [] → IsGrown o up (e ∷ h) → IsOnce o (e ∷ h) → IsCleared o h t → IsCleared o (e ∷ h) t
cleared_step o up e h t empty legal once f = record {
  damage_now = λ x n. damage_now (damage_case t e.rec (records o h) x) n;
  damage_kept = λ x. elim (k.keeps x) [
    | inl i ↦ damage_more t e.rec (records o h) (f.damage_kept (sym (tree_prelude o.who d e.event t) ∙ i))
    | inr i ↦ damage_first t e.rec (records o h) (ap (damages_tree t) recs ∙ i)
  ];
  decision = decision;
  clear_over = λ x n. clear_over (cleared_case t e.rec (records o h) x) n;
  clear_whole = λ x. clear_whole (cleared_case t e.rec (records o h) x) (has_damage t (records o (e ∷ h))) refl;
  clear_decided = λ x. elim (cleared_case t e.rec (records o h) x) [
    | inl i ↦ (let c = new i.0 i.1 in commit_more t e.rec (records o h) ((fated_law o up h t empty legal.3 once.1).committing c.now c.phase))
    | inr i ↦ commit_more t e.rec (records o h) (f.clear_decided i)
  ];
  clear_decision = λ x. clear_decision (cleared_case t e.rec (records o h) x) (decides_case t s e.rec (records o h) logs);
  completed = λ x. elim (or_case (is_now t d.current && tells_complete_none e.outs) (completed_none o t h) x) [
    | inl i ↦ completed (and_left (is_now t d.current) (tells_complete_none e.outs) i) (and_right (is_now t d.current) (tells_complete_none e.outs) i)
    | inr i ↦ cleared_more t e.rec (records o h) (f.completed i)
  ];
}
  where
    d : Digest
    d = digest o h

    s : Digest
    s = prelude o.who d e.event

    next : Digest
    next = digest o (e ∷ h)

    k : IsClearingMove o.who e.event (rolls o.who d e.event) s t s (action o.who d e.event)
    k = clearing_event o.who d e.event t (late_law o up h legal.3) legal.0

    treed : (u : Aaid) → IsTreed o.who s true u 0 s (action o.who d e.event)
    treed u = treed_event o.who d e.event u 0 (late_law o up h legal.3) legal.0

    recs : e.rec ≡ (action o.who d e.event).rec
    recs = ap (λ (v : Entry). v.rec) (sym legal.1)

    logs : (u : Aaid) → IsLoggedIn u s e.rec
    logs u = subst (λ (r : Option LogRec). IsLoggedIn u s r) (sym recs) (treed u).logs

    late : IsLate s
    late = late_prelude o.who d e.event (late_law o up h legal.3)

    old_s : is_known o t h ≡ true → is_old o.who s t.mark ≡ true
    old_s i = old_prelude o.who d e.event t.mark (known_old o h t once.1 i)

    mid : is_known o t h ≡ true → is_now t next.current ≡ true → is_now t s.current ≡ true
    mid i n = elim ((treed t).enters late n) [ inl j ↦ j | inr x ↦ absurd (drawn_new o.who s next t x (old_s i)) ]

    moved : is_now t s.current ≡ true → is_now t next.current ≡ true → may_move (phase_of s) (phase_of next) ≡ true
    moved m n = (treed t).moves late (prelude_old o up e h t empty legal once) m n

    nil_next : is_now t next.current ≡ true → is_nil (phase_of next) ≡ false
    nil_next n = let c = now_some t next.current n in ap is_nil (phase_at next c.0 c.1) ∙ late_law o up (e ∷ h) legal c.0 c.1

    damage_known : has_damage t (records o h) ≡ true → is_known o t h ≡ true
    damage_known x = (bare_law o up h t empty legal.3 once.1).known (damage_record t (records o h) x)

    cleared_known : has_cleared t (records o h) ≡ true → is_known o t h ≡ true
    cleared_known x = (bare_law o up h t empty legal.3 once.1).known (cleared_record t (records o h) x)

    was_kept : keeps_tree t s.kept ≡ true → has_damage t (records o h) ≡ true
    was_kept i = f.damage_kept (sym (tree_prelude o.who d e.event t) ∙ i)

    -- a known tree that is current after the prelude was so before
    before : is_known o t h ≡ true → is_now t s.current ≡ true → SamePhase d s t
    before i m = same_phase o up e h t empty legal once i m

    -- what is current after the prelude is known, or comes
    known_or : is_now t s.current ≡ true → (is_known o t h ≡ true) ⊎ (is_begun_by t e.event ≡ true)
    known_or m = elim (now_prelude o.who d e.event t legal.0 m) [ inl i ↦ inl (now_known o up h t empty legal.3 i) | inr i ↦ inr i ]

    old_damage : has_damage t (records o h) ≡ true → is_now t next.current ≡ true → is_rolling (phase_of next) ≡ true
    old_damage x n =
        let m = mid (damage_known x) n in
        let b = before (damage_known x) m in
        to_rolling (phase_of s) (phase_of next) (moved m n) (ap is_rolling b.phase ∙ f.damage_now x b.now) (nil_next n)

    damage_now : (damages_tree t e.rec ≡ true) ⊎ (has_damage t (records o h) ≡ true) → is_now t next.current ≡ true → is_rolling (phase_of next) ≡ true
    damage_now (inr x) n = old_damage x n
    damage_now (inl x) n = go (keeps_tree t s.kept) refl
      where
        rec : damages_tree t (action o.who d e.event).rec ≡ true
        rec = ap (damages_tree t) (sym recs) ∙ x

        go : (v : Bool) → keeps_tree t s.kept ≡ v → is_rolling (phase_of next) ≡ true
        go true i = old_damage (was_kept i) n
        go false i = elim (k.logs rec) [
          | inl m ↦ k.damages late (prelude_old o up e h t empty legal once m) rec i n
          | inr j ↦ absurd (cc (i, j))
        ]

    decision : is_now t next.current ≡ true → is_rolling (phase_of next) ≡ false → is_for_rollback (last_decision t (records o (e ∷ h))) ≡ true → is_for_rollback (decision_of next.current) ≡ true
    decision n calm x = go (decides_case t s e.rec (records o h) logs)
      where
        decided_here : is_now t s.current ≡ true → decision_of next.current ≡ decided_by e.rec (decision_of s.current)
        decided_here m = k.decides late (prelude_old o up e h t empty legal once m) m n calm ∙ ap (λ (r : Option LogRec). decided_by r (decision_of s.current)) (sym recs)

        go : Decides t s e.rec (records o h) → is_for_rollback (decision_of next.current) ≡ true
        go (Heuristically v m last by) = ap is_for_rollback (decided_here m ∙ by (decision_of s.current) ∙ sym last) ∙ x
        go (Not_at_all last by) =
            let old : is_for_rollback (last_decision t (records o h)) ≡ true = ap is_for_rollback (sym last) ∙ x in
            let known = (bare_law o up h t empty legal.3 once.1).known (decision_record (records o h) old) in
            let m = mid known n in
            let b = before known m in
            ap is_for_rollback (decided_here m ∙ by m (decision_of s.current) ∙ decision_prelude o up e h t legal b.now m) ∙ f.decision b.now (loose b (is_rolling (phase_of d)) refl m) old
          where
            decision_record : (rs : List LogRec) → is_for_rollback (last_decision t rs) ≡ true → has_record (is_of_tree t) rs ≡ true
            decision_record [] h = absurd (cc (h))
            decision_record (LogRec.Heuristic j i u ∷ rs) h = on (is_aaid t i.aaid) refl (decision_record rs)
              where
                on : (v : Bool) → is_aaid t i.aaid ≡ v → (is_for_rollback (last_decision t rs) ≡ true → has_record (is_of_tree t) rs ≡ true) → has_record (is_of_tree t) (LogRec.Heuristic j i u ∷ rs) ≡ true
                on true w rest = rw w refl
                on false w rest = let r = rest (grind (arith, h, w)) in rw r (grind arith)
            decision_record (r ∷ rs) h = let rest = decision_record rs (grind (arith, h)) in rw rest (grind arith)

            loose : SamePhase d s t → (v : Bool) → is_rolling (phase_of d) ≡ v → is_now t s.current ≡ true → is_rolling (phase_of d) ≡ false
            loose b false i m = i
            loose b true i m = absurd (cc (calm, to_rolling (phase_of s) (phase_of next) (moved m n) (ap is_rolling b.phase ∙ i) (nil_next n)))

    -- where an End is new, what was current committed, and had decided nothing against it
    new_case : ends_tree t e.rec ≡ true → has_damage t (records o h) ≡ false → (c : Current) × (s.current ≡ Some c) × (is_aaid t (aaid_of c.key) ≡ true) × (is_committing c.phase ≡ true) × (is_for_rollback c.decision ≡ false)
    new_case x whole = elim (k.clears (ap (ends_tree t) (sym recs) ∙ x)) [ inl i ↦ absurd (cc (whole, was_kept i)) | inr i ↦ i ]

    new : ends_tree t e.rec ≡ true → has_damage t (records o h) ≡ false → Committing o h t
    new x whole =
        let c = new_case x whole in
        let m : is_now t s.current ≡ true = ap (is_now t) c.1 ∙ c.2 in
        elim (known_or m) [
          | inl i ↦ (let b = before i m in record { now = b.now; phase = sym (ap is_committing b.phase) ∙ ap is_committing (phase_at s c.0 c.1) ∙ c.3; decision = ap is_for_rollback (sym (decision_prelude o up e h t legal b.now m)) ∙ ap (λ (v : Option Current). is_for_rollback (decision_of v)) c.1 ∙ c.4 })
          | inr i ↦ absurd (begun c.0 c.1 c.3 i (came_by o.who d e.event legal.0))
        ]
      where
        begun : (c : Current) → s.current ≡ Some c → is_committing c.phase ≡ true → is_begun_by t e.event ≡ true → Came o.who d e.event → ⊥
        begun c at phase i (By_begin from x y q u b g a is found cur nil above) = let same = some_same (fresh_current (Under u b a.peer)) c (sym cur ∙ at) in cc (ap (λ (v : Current). is_committing v.phase) same, phase)
        begun c at phase i (By_crash is cur) = cc (i, ap (is_begun_by t) is)
        begun c at phase i (As_it_was cur) =
            let n : is_now t d.current ≡ true = ap (is_now t) (sym cur) ∙ ap (is_now t) at ∙ tree_at c at in
            fresh n
          where
            tree_at : (c : Current) → s.current ≡ Some c → is_aaid t (aaid_of c.key) ≡ true
            tree_at c at = let w = new_case x whole in let same = some_same w.0 c (sym w.1 ∙ at) in ap (λ (v : Current). is_aaid t (aaid_of v.key)) (sym same) ∙ w.2

            fresh : is_now t d.current ≡ true → ⊥
            fresh n = let w = once.0 t i in let known = now_known o up h t empty legal.3 n in absurd (grind (arith, known, w.0, w.1))

    clear_over : (ends_tree t e.rec ≡ true) × (has_damage t (records o h) ≡ false) ⊎ (has_cleared t (records o h) ≡ true) → is_now t next.current ≡ true → ⊥
    clear_over (inr x) n = f.clear_over x (now_then o up e h t empty legal once (cleared_known x) n)
    clear_over (inl x) n =
        let c = new_case x.0 x.1 in
        let m : is_now t s.current ≡ true = ap (is_now t) c.1 ∙ c.2 in
        k.gone late (prelude_old o up e h t empty legal once m) (ap (ends_tree t) (sym recs) ∙ x.0) (off (keeps_tree t s.kept) refl) n
      where
        off : (v : Bool) → keeps_tree t s.kept ≡ v → keeps_tree t s.kept ≡ false
        off false i = i
        off true i = absurd (cc (x.1, was_kept i))

    -- nothing comes of a tree that is over
    gone : has_cleared t (records o h) ≡ true → is_now t s.current ≡ true → ⊥
    gone x m = f.clear_over x (before (cleared_known x) m).now

    clear_whole : (ends_tree t e.rec ≡ true) × (has_damage t (records o h) ≡ false) ⊎ (has_cleared t (records o h) ≡ true) → (v : Bool) → has_damage t (records o (e ∷ h)) ≡ v → has_damage t (records o (e ∷ h)) ≡ false
    clear_whole x false i = i
    clear_whole (inl x) true i = elim (damage_case t e.rec (records o h) i) [ inl j ↦ absurd (ends_no_damage t e.rec x.0 j) | inr j ↦ absurd (cc (x.1, j)) ]
    clear_whole (inr x) true i = elim (damage_case t e.rec (records o h) i) [
      | inr j ↦ absurd (cc (f.clear_whole x, j))
      | inl j ↦ elim (k.logs (ap (damages_tree t) (sym recs) ∙ j)) [ inl m ↦ absurd (gone x m) | inr l ↦ absurd (cc (f.clear_whole x, was_kept l)) ]
    ]

    committing_calm : (v : Phase) → is_committing v ≡ true → is_rolling v ≡ false
    committing_calm v h = grind (arith, h)

    clear_decision : (ends_tree t e.rec ≡ true) × (has_damage t (records o h) ≡ false) ⊎ (has_cleared t (records o h) ≡ true) → Decides t s e.rec (records o h) → is_for_rollback (last_decision t (records o (e ∷ h))) ≡ false
    clear_decision (inr x) (Heuristically v m last by) = absurd (gone x m)
    clear_decision (inr x) (Not_at_all last by) = ap is_for_rollback last ∙ f.clear_decision x
    clear_decision (inl x) w = go w
      where
        c : Committing o h t
        c = new x.0 x.1

        was : (v : Bool) → is_for_rollback (last_decision t (records o h)) ≡ v → is_for_rollback (last_decision t (records o h)) ≡ false
        was false i = i
        was true i = absurd (cc (c.decision, f.decision c.now (committing_calm (phase_of d) c.phase) i))

        plain : (r : Option LogRec) → ends_tree t r ≡ true → last_decision t (with_rec r (records o h)) ≡ last_decision t (records o h)
        plain (Some (LogRec.End n j o)) h = refl
        plain None h = absurd (cc (h))
        plain (Some (LogRec.Boot n)) h = absurd (cc (h))
        plain (Some (LogRec.Ready n j a cs)) h = absurd (cc (h))
        plain (Some (LogRec.Heuristic n j o)) h = absurd (cc (h))
        plain (Some (LogRec.Commit n j a cs)) h = absurd (cc (h))
        plain (Some (LogRec.Damage n j a o r cs)) h = absurd (cc (h))

        go : Decides t s e.rec (records o h) → is_for_rollback (last_decision t (records o (e ∷ h))) ≡ false
        go w = ap is_for_rollback (plain e.rec x.0) ∙ was (is_for_rollback (last_decision t (records o h))) refl

    completed : is_now t d.current ≡ true → tells_complete_none e.outs ≡ true → has_cleared t (records o (e ∷ h)) ≡ true
    completed n tell =
        let told : out_tells is_complete_none e.outs ≡ true = sym (complete_tells e.outs) ∙ tell in
        let same = (tells_at o up e h t is_complete_none legal n told).same in
        let m : is_now t s.current ≡ true = ap (is_now t) same ∙ n in
        let ends : ends_tree t e.rec ≡ true = ap (ends_tree t) recs ∙ k.tells m (ap (λ (v : Entry). out_tells is_complete_none v.outs) legal.1 ∙ told) in
        cleared_first t e.rec (records o h) ends (whole n (phase same ends told) (has_damage t (records o h)) refl)
      where
        unordered : (r : Option LogRec) → ends_tree t r ≡ true → is_commit_rec r ≡ false
        unordered (Some (LogRec.End n j o)) h = refl
        unordered None h = refl
        unordered (Some (LogRec.Boot n)) h = refl
        unordered (Some (LogRec.Ready n j a cs)) h = refl
        unordered (Some (LogRec.Heuristic n j o)) h = refl
        unordered (Some (LogRec.Commit n j a cs)) h = absurd (cc (h))
        unordered (Some (LogRec.Damage n j a o r cs)) h = refl

        phase : s.current ≡ d.current → ends_tree t e.rec ≡ true → out_tells is_complete_none e.outs ≡ true → is_committing (phase_of d) ≡ true
        phase same ends told =
            let c = (treed t).tells_commit (complete_commit_told (action o.who d e.event).outs (ap (λ (v : Entry). out_tells is_complete_none v.outs) legal.1 ∙ told)) in
            elim (or_case (is_committing c.0.phase) (is_commit_rec (action o.who d e.event).rec) c.2) [
              | inl i ↦ ap is_committing (phase_at d c.0 (sym same ∙ c.1)) ∙ i
              | inr i ↦ absurd (cc (i, ap is_commit_rec (sym recs) ∙ unordered e.rec ends))
            ]

        whole : is_now t d.current ≡ true → is_committing (phase_of d) ≡ true → (v : Bool) → has_damage t (records o h) ≡ v → has_damage t (records o h) ≡ false
        whole n c false i = i
        whole n c true i = absurd (cc (committing_calm (phase_of d) c, f.damage_now i n))

pub cleared_law : (o : Origin) (up : Option Addr) (h : List Entry) (t : Aaid) → o.start.records ≡ [] → IsGrown o up h → IsOnce o h → IsCleared o h t
cleared_law o up [] t empty legal once = record {
  damage_now = λ x n. absurd (cc (ap (is_now t) (current_none o empty), n));
  damage_kept = λ x. absurd (cc (ap (keeps_tree t) (kept_none o empty), x));
  decision = λ n c x. absurd (cc (ap (is_now t) (current_none o empty), n));
  clear_over = λ x n. cc (ap (is_now t) (current_none o empty), n);
  clear_whole = λ x. absurd (cc (ap (has_cleared t) none, x));
  clear_decided = λ x. absurd (cc (ap (has_cleared t) none, x));
  clear_decision = λ x. absurd (cc (ap (has_cleared t) none, x));
  completed = λ x. absurd (cc (x));
}
  where
    none : records o [] ≡ []
    none = ap reverse empty
cleared_law o up (e ∷ h) t empty legal once = cleared_step o up e h t empty legal once (cleared_law o up h t empty legal.3 once.1)

-- what has its damage logged is known
pub damage_is_known : (o : Origin) (up : Option Addr) (h : List Entry) (t : Aaid) → o.start.records ≡ [] → IsGrown o up h → IsOnce o h → has_damage t (records o h) ≡ true → is_known o t h ≡ true
damage_is_known o up h t empty legal once x = (bare_law o up h t empty legal once).known (damage_record t (records o h) x)

-- ---- what was told

for_commit : (v : Option Outcome) → is_for_rollback v ≡ false → (v ≡ None) ⊎ (v ≡ Some Outcome.Commit)
for_commit None h = inl refl
for_commit (Some Outcome.Commit) h = inr refl
for_commit (Some Outcome.Rollback) h = absurd (cc (h))

pub cleared_told : (o : Origin) (up : Option Addr) (h : List Entry) (t : Aaid) → o.start.records ≡ [] → IsGrown o up h → IsOnce o h → has_cleared t (records o h) ≡ true → told o t h ≡ Some Outcome.Commit
cleared_told o up h t empty legal once x = elim (for_commit (last_decision t (records o h)) (f.clear_decision x)) [
  | inl i ↦ (let c = f.clear_decided x in grind (arith, i, c))
  | inr i ↦ grind (arith, i)
]
  where
    f : IsCleared o h t
    f = cleared_law o up h t empty legal once

pub completed_told : (es : List Happening) (t : Aaid) (x : Node) → IsOf (run es) t x → completed_none x.origin t x.history ≡ true → told_of t x ≡ Some Outcome.Commit
completed_told es t x here done = cleared_told x.origin x.superior x.history t empty legal once ((cleared_law x.origin x.superior x.history t empty legal once).completed done)
  where
    empty : x.origin.start.records ≡ []
    empty = (good_run es).fresh (number_of x) x here.here

    legal : IsGrown x.origin x.superior x.history
    legal = (good_run es).legal (number_of x) x here.here

    once : IsOnce x.origin x.history
    once = (unique_run es).once (number_of x) x here.here
