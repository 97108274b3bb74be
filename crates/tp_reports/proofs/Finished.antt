-- How a tree ends at a node: it rolls, leaves, or its user is told that its commitment is complete. Where Done with no report is said
-- over an association, the commitment ends clear.
use Rattle.std.proofs.Common.{◌≡◌, inl, inr, ℕ, Bool, true, false, refl, ap, sym, subst, ◌∙◌, arith, Option, Some, None, List, [], ◌∷◌, reverse}
use Rattle.std.proofs.lemmas.Bool.Decides.{nat_tests}
use Rattle.tp_names.specs.declared.identifiers.Aaid.{Aaid}
use Rattle.tp_names.specs.declared.identifiers.Mark.{Mark}
use Rattle.tp_names.specs.declared.identifiers.Addr.{Addr}
use Rattle.tp_names.specs.declared.outcome.Report.{Report}
use Rattle.tp_names.specs.Same.{is_aaid}
use Rattle.tp_records.specs.declared.dialogue.DialogueRecord.{DialogueRecord}
use Rattle.tp_records.specs.declared.peer.PeerRecord.{PeerRecord}
use Rattle.tp_model.specs.declared.arc.Phase.{Phase}
use Rattle.tp_model.specs.Parts.{Origin, Event, Out, Entry, Current, Digest}
use Rattle.tp_model.specs.Dialogues.{is_nil, is_active, is_committing, is_rolling}
use Rattle.tp_model.specs.Transactions.{aaid_of}
use Rattle.tp_model.specs.Node.{phase_of}
use Rattle.tp_model.specs.Events.{action, recovered_current}
use Rattle.tp_model.specs.History.{digest, records}
use Rattle.tp_model.specs.Outcomes.{is_now, is_member, rolls, is_crash_in_active, rolled, has_left, tells_complete_none, completed_none}
use Rattle.tp_model.specs.Promises.{has_told_in}
use Rattle.tp_model.specs.Questions.{tells_commit_complete}
use Rattle.tp_model.specs.Legal.{IsGrown}
use Rattle.tp_histories.specs.Histories.{IsSentIn}
use Rattle.tp_steps.specs.Moves.{IsLate, prelude}
use Rattle.tp_steps.specs.Trees.{out_tells}
use Rattle.tp_histories.specs.Members.{IsOnce}
use Rattle.tp_steps.specs.Clearing.{has_damage, is_complete_none}
use Rattle.tp_reports.specs.Clearing.{ends_tree, has_cleared}
use Rattle.tp_steps.proofs.lemmas.Equality.{or_case}
use Rattle.tp_histories.proofs.trees.Late.{late_law, late_prelude}
use Rattle.tp_steps.proofs.branches.Rolls.{phase_at}
use Rattle.tp_steps.proofs.words.Treed.{now_some}
use Rattle.tp_histories.proofs.trees.Knowing.{Came, As_it_was, By_begin, By_crash, came_by, current_none, nil_now}
use Rattle.tp_histories.proofs.worlds.TreeMembers.{prelude_old}
use Rattle.tp_histories.proofs.trees.Fated.{fated_law}
use Rattle.tp_agreement.proofs.OwingLaw.{rolled_here, rolled_more, rolling_here}
use Rattle.tp_reports.proofs.ClearedLaw.{cleared_first, cleared_law, cleared_case}
use Rattle.tp_histories.proofs.upward.SpeaksUp.{complete_tells}
use Rattle.tp_runs.proofs.Bare.{kept_prelude as tree_prelude}
use Rattle.tp_reports.proofs.Finishing.{says_clear, is_complete, completes_told, Finishes, Now_rolls, Rolled_on, Now_leaves, Now_told, IsFinishing, finishing_event}

-- ---- every legal history

-- what became of a tree that was current
pub data Ending (o : Origin) (h : List Entry) (t : Aaid) : Type 0 where
  Goes_on : is_now t (digest o h).current ≡ true → Ending o h t
  It_rolled : rolled o t h ≡ true → Ending o h t
  It_left : has_left o t h ≡ true → Ending o h t
  It_was_told : has_told_in tells_commit_complete o t h ≡ true → Ending o h t

ending_step : (o : Origin) (up : Option Addr) (e : Entry) (h : List Entry) (t : Aaid) → o.start.records ≡ [] → IsGrown o up (e ∷ h) → IsOnce o (e ∷ h) → Ending o h t → Ending o (e ∷ h) t
ending_step o up e h t empty legal once before = start before
  where
    d : Digest
    d = digest o h

    s : Digest
    s = prelude o.who d e.event

    k : IsFinishing o.who e.event (rolls o.who d e.event) s t s (action o.who d e.event)
    k = finishing_event o.who d e.event t (late_law o up h legal.3) legal.0

    late : IsLate s
    late = late_prelude o.who d e.event (late_law o up h legal.3)

    outs : (action o.who d e.event).outs ≡ e.outs
    outs = ap (λ (v : Entry). v.outs) legal.1

    ends : is_now t d.current ≡ true → is_now t s.current ≡ true → Finishes e.event (rolls o.who d e.event) s t s (action o.who d e.event) → Ending o (e ∷ h) t
    ends now n (Now_rolls m r) = It_rolled (rolled_here o up e h t legal m r)
    ends now n (Rolled_on r) = let c = now_some t s.current n in It_rolled (rolling_here o up e h t empty legal once c.0 c.1 c.2 (ap is_rolling (sym (phase_at s c.0 c.1)) ∙ r))
    ends now n (Now_leaves m u) = It_left (rw (now, u) refl)
    ends now n (Now_told m x) = let told : tells_commit_complete e.outs ≡ true = completes_told e.outs ∙ ap (out_tells is_complete) (sym outs) ∙ x in It_was_told (rw (now, told) refl)

    on : is_now t d.current ≡ true → is_now t s.current ≡ true → Ending o (e ∷ h) t
    on now n = elim (k.over late (prelude_old o up e h t empty legal once n) n) [ inl i ↦ Goes_on i | inr i ↦ ends now n i ]

    crashed : e.event ≡ Event.Crash → s.current ≡ recovered_current d.current → is_now t d.current ≡ true → Ending o (e ∷ h) t
    crashed is cur n = by (is_active c.0.phase) refl (is_rolling c.0.phase) refl
      where
        c : (u : Current) × (d.current ≡ Some u) × (is_aaid t (aaid_of u.key) ≡ true)
        c = now_some t d.current n

        stays : is_active c.0.phase ≡ false → is_rolling c.0.phase ≡ false → is_nil c.0.phase ≡ false → is_now t (recovered_current (Some c.0)) ≡ true
        stays i j l = let tree = c.2 in grind (arith, i, j, l, tree)

        by : (v : Bool) → is_active c.0.phase ≡ v → (w : Bool) → is_rolling c.0.phase ≡ w → Ending o (e ∷ h) t
        by true i w j =
            let a : is_crash_in_active d e.event ≡ true = ap (is_crash_in_active d) is ∙ ap is_active (phase_at d c.0 c.1) ∙ i in
            It_rolled (rw (n, a) (grind arith))
        by false i true j = It_rolled (rolled_more o e h t ((fated_law o up h t empty legal.3 once.1).rolling n (ap is_rolling (phase_at d c.0 c.1) ∙ j)))
        by false i false j = on n (ap (is_now t) (cur ∙ ap recovered_current c.1) ∙ stays i j (late_law o up h legal.3 c.0 c.1))

    was_now : is_now t d.current ≡ true → Came o.who d e.event → Ending o (e ∷ h) t
    was_now n (As_it_was i) = on n (ap (is_now t) i ∙ n)
    was_now n (By_begin from x y q u c g a is found cur nil above) = absurd (cc (n, nil_now d t (late_law o up h legal.3) nil))
    was_now n (By_crash is cur) = crashed is cur n

    start : Ending o h t → Ending o (e ∷ h) t
    start (Goes_on n) = was_now n (came_by o.who d e.event legal.0)
    start (It_rolled r) = It_rolled (rolled_more o e h t r)
    start (It_left l) = It_left (rw l (grind arith))
    start (It_was_told x) = It_was_told (rw x (grind arith))

pub ending_law : (o : Origin) (up : Option Addr) (h : List Entry) (t : Aaid) → o.start.records ≡ [] → IsGrown o up h → IsOnce o h → is_member o t h ≡ true → Ending o h t
ending_law o up [] t empty legal once x = absurd (cc (ap (is_now t) (current_none o empty), x))
ending_law o up (e ∷ h) t empty legal once x = elim (or_case (is_now t (digest o (e ∷ h)).current) (is_member o t h) x) [
  | inl i ↦ Goes_on i
  | inr i ↦ ending_step o up e h t empty legal once (ending_law o up h t empty legal.3 once.1 i)
]

-- who said Done with no report over an association, while the tree was current, logged the end of its commitment
has_word : (outs : List Out) (z : Addr) (x y : Mark) (q : ℕ) → IsSentIn outs z (PeerRecord.OnAssoc x y q (DialogueRecord.Done Report.None)) → says_clear z.node outs ≡ true
has_word [] z x y q h = absurd h
has_word (Out.Tell i ∷ outs) z x y q h = has_word outs z x y q h
has_word (Out.Send a r ∷ outs) z x y q (inl h) = word r h.1
  where
    word : (r : PeerRecord) → r ≡ PeerRecord.OnAssoc x y q (DialogueRecord.Done Report.None) → says_clear z.node (Out.Send a r ∷ outs) ≡ true
    word r i = subst (λ (w : PeerRecord). says_clear z.node (Out.Send a w ∷ outs) ≡ true) (sym i) (subst (λ (b : Addr). says_clear z.node (Out.Send b (PeerRecord.OnAssoc x y q (DialogueRecord.Done Report.None)) ∷ outs) ≡ true) (sym h.0) (grind (arith, nat_tests)))
has_word (Out.Send a (PeerRecord.OnAssoc f g n w) ∷ outs) z x y q (inr h) = let rest = has_word outs z x y q h in grind (arith, rest)
has_word (Out.Send a _ ∷ outs) z x y q (inr h) = has_word outs z x y q h

done_ends : (o : Origin) (up : Option Addr) (e : Entry) (h : List Entry) (t : Aaid) (z : Addr) (x y : Mark) (q : ℕ) → IsGrown o up (e ∷ h) → is_now t (prelude o.who (digest o h) e.event).current ≡ true
    → IsSentIn e.outs z (PeerRecord.OnAssoc x y q (DialogueRecord.Done Report.None)) → (ends_tree t e.rec ≡ true) × (is_committing (phase_of (prelude o.who (digest o h) e.event)) ≡ true)
done_ends o up e h t z x y q legal n sent = (ap (ends_tree t) (sym (ap (λ (v : Entry). v.rec) legal.1)) ∙ ends.0, ends.1)
  where
    s : Digest
    s = prelude o.who (digest o h) e.event

    ends : (ends_tree t (action o.who (digest o h) e.event).rec ≡ true) × (is_committing (phase_of s) ≡ true)
    ends = (finishing_event o.who (digest o h) e.event t (late_law o up h legal.3) legal.0).says z.node n (ap (says_clear z.node) (ap (λ (v : Entry). v.outs) legal.1) ∙ has_word e.outs z x y q sent)

pub done_clears : (o : Origin) (up : Option Addr) (e : Entry) (h : List Entry) (t : Aaid) (z : Addr) (x y : Mark) (q : ℕ) → o.start.records ≡ [] → IsGrown o up (e ∷ h) → IsOnce o (e ∷ h) → is_now t (digest o h).current ≡ true
    → IsSentIn e.outs z (PeerRecord.OnAssoc x y q (DialogueRecord.Done Report.None)) → has_cleared t (records o (e ∷ h)) ≡ true
done_clears o up e h t z x y q empty legal once n sent = go (came_by o.who d e.event legal.0)
  where
    d : Digest
    d = digest o h

    s : Digest
    s = prelude o.who d e.event

    same : s.current ≡ d.current → has_cleared t (records o (e ∷ h)) ≡ true
    same cur =
        let w = done_ends o up e h t z x y q legal (ap (is_now t) cur ∙ n) sent in
        cleared_first t e.rec (records o h) w.0 (whole (ap (λ (v : Option Current). is_committing (elim v as (λ _. Phase) [ None ↦ Phase.Nil | Some c ↦ c.phase ])) (sym cur) ∙ w.1) (has_damage t (records o h)) refl)
      where
        no_two : (v : Phase) → is_committing v ≡ true → is_rolling v ≡ true → ⊥
        no_two v i j = absurd (grind (arith, i, j))

        whole : is_committing (phase_of d) ≡ true → (v : Bool) → has_damage t (records o h) ≡ v → has_damage t (records o h) ≡ false
        whole c false i = i
        whole c true i = absurd (no_two (phase_of d) c ((cleared_law o up h t empty legal.3 once.1).damage_now i n))

    go : Came o.who d e.event → has_cleared t (records o (e ∷ h)) ≡ true
    go (As_it_was i) = same i
    go (By_begin from f g r u b k a is found cur nil above) = absurd (cc (n, nil_now d t (late_law o up h legal.3) nil))
    go (By_crash is cur) =
        let none : e.outs ≡ [] = sym (ap (λ (v : Entry). v.outs) legal.1) ∙ ap (λ (f : Event). (action o.who d f).outs) is in
        absurd (subst (λ (outs : List Out). IsSentIn outs z (PeerRecord.OnAssoc x y q (DialogueRecord.Done Report.None))) none sent)

-- ---- a commitment that ended clear was told so

pub cleared_completed : (o : Origin) (up : Option Addr) (h : List Entry) (t : Aaid) → o.start.records ≡ [] → IsGrown o up h → IsOnce o h → has_cleared t (records o h) ≡ true → completed_none o t h ≡ true
cleared_completed o up [] t empty legal once x = let none : records o [] ≡ [] = ap reverse empty in absurd (cc (ap (has_cleared t) none, x))
cleared_completed o up (e ∷ h) t empty legal once x = elim (cleared_case t e.rec (records o h) x) [
  | inr i ↦ (let rest = cleared_completed o up h t empty legal.3 once.1 i in rw rest (grind arith))
  | inl i ↦ elim ((finishing_event o.who d e.event t (late_law o up h legal.3) legal.0).clears (ap (ends_tree t) (sym recs) ∙ i.0)) [
    | inl k ↦ absurd (cc (i.1, (cleared_law o up h t empty legal.3 once.1).damage_kept (sym (tree_prelude o.who d e.event t) ∙ k)))
    | inr k ↦ (let n = before i.0 k.0 k.1 (came_by o.who d e.event legal.0) in let told : tells_complete_none e.outs ≡ true = complete_tells e.outs ∙ ap (λ (v : Entry). out_tells is_complete_none v.outs) (sym legal.1) ∙ k.2 in rw (n, told) refl)
  ]
]
  where
    d : Digest
    d = digest o h

    s : Digest
    s = prelude o.who d e.event

    recs : e.rec ≡ (action o.who d e.event).rec
    recs = ap (λ (v : Entry). v.rec) (sym legal.1)

    before : ends_tree t e.rec ≡ true → is_now t s.current ≡ true → is_committing (phase_of s) ≡ true → Came o.who d e.event → is_now t d.current ≡ true
    before ends n c (As_it_was i) = ap (is_now t) (sym i) ∙ n
    before ends n c (By_begin from f g r u b k a is found cur nil above) = absurd (cc (ap (λ (v : Option Current). is_committing (elim v as (λ _. Phase) [ None ↦ Phase.Nil | Some x ↦ x.phase ])) (sym cur) ∙ c))
    before ends n c (By_crash is cur) = absurd (cc (ap (λ (f : Event). ends_tree t (action o.who d f).rec) is, ap (ends_tree t) (sym recs) ∙ ends))
