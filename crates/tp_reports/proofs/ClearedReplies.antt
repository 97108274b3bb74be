-- What a Done with no report and a Forget, both beside the associations, tell of the node that said them.
use Rattle.std.proofs.Common.{◌≡◌, ◌⊎◌, inl, inr, ℕ, Bool, true, false, refl, ap, sym, subst, ◌∙◌, arith, Option, Some, None, List, [], ◌∷◌, ◌&&◌, not}
use Rattle.std.proofs.lemmas.Bool.Decides.{nat_tests}
use Rattle.tp_names.specs.declared.identifiers.Aaid.{Aaid}
use Rattle.tp_names.specs.declared.identifiers.BranchId.{BranchId}
use Rattle.tp_names.specs.declared.identifiers.NodeKey.{NodeKey}
use Rattle.tp_names.specs.declared.identifiers.Addr.{Addr}
use Rattle.tp_names.specs.declared.outcome.Outcome.{Outcome}
use Rattle.tp_names.specs.declared.outcome.Report.{Report}
use Rattle.tp_names.specs.Same.{is_aaid, is_key}
use Rattle.tp_names.specs.Reports.{is_report_none}
use Rattle.tp_records.specs.declared.peer.PeerRecord.{PeerRecord}
use Rattle.tp_records.specs.declared.peer.RecState.{RecState}
use Rattle.tp_model.specs.declared.arc.Phase.{Phase}
use Rattle.tp_model.specs.declared.recovery.Kept.{Kept}
use Rattle.tp_model.specs.declared.recovery.Known.{Known}
use Rattle.tp_model.specs.declared.recovery.Question.{Question}
use Rattle.tp_model.specs.Parts.{Origin, Event, Entry, Key, Root, Under, Current, Digest}
use Rattle.tp_model.specs.Questions.{is_at}
use Rattle.tp_model.specs.Dialogues.{is_committing, is_rolling}
use Rattle.tp_model.specs.Transactions.{aaid_of, node_key}
use Rattle.tp_model.specs.Recovery.{is_commit, find_kept, recovery_answer}
use Rattle.tp_model.specs.Arrivals.{Named, branch_key, current_of, is_branch_of, kept_owing, key_of_kept, key_of_branch, named_by_key, named_by_branch, known_of}
use Rattle.tp_model.specs.Node.{phase_of}
use Rattle.tp_model.specs.Events.{action}
use Rattle.tp_model.specs.History.{digest, records}
use Rattle.tp_model.specs.Outcomes.{is_now, rolled, has_left}
use Rattle.tp_model.specs.Legal.{IsGrown}
use Rattle.tp_histories.specs.Histories.{HasSent, HasBrought}
use Rattle.tp_steps.specs.Moves.{keeps_idle, prelude}
use Rattle.tp_histories.specs.Members.{has_taken_begin, is_own, is_known, IsOnce}
use Rattle.tp_runs.specs.Bare.{keeps_tree}
use Rattle.tp_steps.specs.Clearing.{damages_tree, has_damage}
use Rattle.tp_reports.specs.Clearing.{ends_tree, has_cleared, keeps_beside, KeepsAt}
use Rattle.tp_reports.specs.Reports.{Fate, Is_now, Has_rolled, Was_left, Ended_clear, Stays_kept, Took_forget}
use Rattle.tp_steps.proofs.lemmas.Words.{damage_first, damage_more}
use Rattle.tp_histories.proofs.trees.Late.{late_law}
use Rattle.tp_steps.proofs.lemmas.Equality.{aaids_equal}
use Rattle.tp_steps.proofs.words.Leaves.{aaid_same}
use Rattle.tp_steps.proofs.log.ApartLog.{keys_equal}
use Rattle.tp_steps.proofs.words.Treed.{now_some}
use Rattle.tp_histories.proofs.trees.Knowing.{known_more}
use Rattle.tp_histories.proofs.worlds.TreeMembers.{now_then}
use Rattle.tp_histories.proofs.trees.Behind.{same_phase}
use Rattle.tp_histories.proofs.trees.Above.{IsKeyOf, key_law}
use Rattle.tp_histories.proofs.log.KeptLog.{kept_prelude}
use Rattle.tp_runs.proofs.Bare.{kept_prelude as tree_prelude}
use Rattle.tp_agreement.proofs.BelowRuns.{TookKey, current_took}
use Rattle.tp_agreement.proofs.OwingMoves.{found_key}
use Rattle.tp_agreement.proofs.OwingLaw.{sent_now, rolled_more, AnsweredDone}
use Rattle.tp_agreement.proofs.Unknown.{KnowsOrders, key_done, own_with, current_found}
use Rattle.tp_reports.proofs.ClearingMoves.{idle_noted}
use Rattle.tp_reports.proofs.ClearedLaw.{damage_is_known, cleared_first, cleared_more, cleared_law}
use Rattle.tp_reports.proofs.ClearedFate.{clearing_at, idle_never, KeyIs, key_tail, beside_never, fate_law, tree_found}

-- ---- Done with no report, beside the associations

found_idle : (ks : List Kept) (j : NodeKey) (x : Kept) → find_kept ks j ≡ Some x → is_commit x.side ≡ true → is_report_none x.report ≡ true → keeps_idle ks ≡ true
found_idle [] j x h c r = absurd (cc (h))
found_idle (k ∷ ks) j x h c r = go (is_key k.key j) refl (found_idle ks j x)
  where
    go : (v : Bool) → is_key k.key j ≡ v → (find_kept ks j ≡ Some x → is_commit x.side ≡ true → is_report_none x.report ≡ true → keeps_idle ks ≡ true) → keeps_idle (k ∷ ks) ≡ true
    go true m rest =
        let one : Some k ≡ Some x = rw (m, find_kept) at h in
        let same : k ≡ x = cc (one) in
        let all : (is_commit k.side && is_report_none k.report) ≡ true = ap (λ (y : Kept). is_commit y.side && is_report_none y.report) same ∙ rw (c, r) refl in
        rw all refl
    go false m rest = let w = rest (rw (m, find_kept) at h) c r in rw w (grind arith)

found_beside : (t : Aaid) (b : BranchId) (ks : List Kept) (j : NodeKey) (x : Kept) → find_kept ks j ≡ Some x → is_aaid t x.key.aaid ≡ true → is_key x.key (branch_key t b) ≡ false → keeps_beside t b ks ≡ true
found_beside t b [] j x h a o = absurd (cc (h))
found_beside t b (k ∷ ks) j x h a o = go (is_key k.key j) refl (found_beside t b ks j x)
  where
    go : (v : Bool) → is_key k.key j ≡ v → (find_kept ks j ≡ Some x → is_aaid t x.key.aaid ≡ true → is_key x.key (branch_key t b) ≡ false → keeps_beside t b ks ≡ true) → keeps_beside t b (k ∷ ks) ≡ true
    go true m rest =
        let one : Some k ≡ Some x = rw (m, find_kept) at h in
        let same : k ≡ x = cc (one) in
        let all : (not (is_key k.key (branch_key t b)) && is_aaid t k.key.aaid) ≡ true = ap (λ (y : Kept). not (is_key y.key (branch_key t b)) && is_aaid t y.key.aaid) same ∙ rw (o, a) refl in
        rw all refl
    go false m rest = let w = rest (rw (m, find_kept) at h) a o in rw w (grind arith)

done_kept : (k : Known) (s : Outcome) (r : Report) → k.kept ≡ Some (s, r) → is_commit s ≡ true → recovery_answer k Question.RecCommit ≡ Some (RecState.Done Report.None) → is_report_none r ≡ true
unfolding recovery_answer
done_kept k s r i c h = grind (arith, i, c, h)

-- who answers so of a tree that it took no longer has it
pub data Answered (o : Origin) (up : Option Addr) (h : List Entry) (t : Aaid) (b : BranchId) : Type 0 where
  By_rolling : rolled o t h ≡ true → Answered o up h t b
  By_leaving : has_left o t h ≡ true → Answered o up h t b
  By_clearing : has_cleared t (records o h) ≡ true → Answered o up h t b
  By_forgetting : (a : Addr) → HasBrought h a (PeerRecord.Forget t b) → is_at up a.node ≡ true → Answered o up h t b

answered_now : (o : Origin) (up : Option Addr) (h : List Entry) (t : Aaid) (b : BranchId) → o.start.records ≡ [] → IsGrown o up h → IsOnce o h → KeyIs o h t b → has_taken_begin t h ≡ true → recovery_answer (known_of (named_by_key (digest o h) (branch_key t b)) b) Question.RecCommit ≡ Some (RecState.Done Report.None) → Answered o up h t b
answered_now o up h t b empty legal once keys took x = go (fate_law o up h t b empty legal once keys took)
  where
    d : Digest
    d = digest o h

    current : (c : Current) → d.current ≡ Some c → is_aaid t (aaid_of c.key) ≡ true → (j : Key) → c.key ≡ j → ⊥
    current c cur tree (Root u) j =
        let keyed : IsKeyOf o.who up (Root u) = subst (λ (i : Key). IsKeyOf o.who up i) j (key_law o up h c empty legal cur) in
        let same : t ≡ u = aaids_equal t u (ap (λ (i : Key). is_aaid t (aaid_of i)) (sym j) ∙ tree) in
        let node : t.mark.node ≡ o.who.node = ap (λ (v : Aaid). v.mark.node) same ∙ keyed.1 in
        let own : is_own o.who t ≡ true = grind (arith, nat_tests, node) in
        cc (own, keys.other)
    current c cur tree (Under u v f) j =
        let same : t ≡ u = aaids_equal t u (ap (λ (i : Key). is_aaid t (aaid_of i)) (sym j) ∙ tree) in
        let took : TookKey h u v = current_took o up h c u v f empty legal cur j in
        let id : v ≡ b = keys.ids v (subst (λ (w : Aaid). TookKey h w v) (sym same) took) in
        key_done d t b Report.None c (late_law o up h legal) cur (ap node_key j ∙ key_is u v same id) x
      where
        key_is : (u : Aaid) (v : BranchId) → t ≡ u → v ≡ b → node_key (Under u v f) ≡ branch_key t b
        key_is u v x y = rw (← x, y) refl

    kept : KeepsAt t d.kept → ⊥
    kept w = side (is_key w.kept.key (branch_key t b)) refl
      where
        side : (v : Bool) → is_key w.kept.key (branch_key t b) ≡ v → ⊥
        side false i = beside_never o up h t b empty legal keys (found_beside t b d.kept w.key w.kept w.found w.tree i)
        side true i =
            let key : w.key ≡ branch_key t b = sym (found_key d.kept w.key w.kept w.found) ∙ keys_equal w.kept.key (branch_key t b) i in
            let found : find_kept d.kept (branch_key t b) ≡ Some w.kept = ap (find_kept d.kept) (sym key) ∙ w.found in
            let known : (known_of (named_by_key d (branch_key t b)) b).kept ≡ Some (w.kept.side, w.kept.report) = ap (λ (v : Option Kept). elim v as (λ _. Option (Outcome × Report)) [ None ↦ None | Some y ↦ Some (y.side, y.report) ]) found in
            idle_never o up h t empty legal (found_idle d.kept (branch_key t b) w.kept found w.commits (done_kept (known_of (named_by_key d (branch_key t b)) b) w.kept.side w.kept.report known w.commits x))

    go : Fate o up h t b → Answered o up h t b
    go (Is_now n) = let c = now_some t d.current n in absurd (current c.0 c.1 c.2 c.0.key refl)
    go (Has_rolled r) = By_rolling r
    go (Was_left l) = By_leaving l
    go (Ended_clear i) = By_clearing i
    go (Stays_kept i) = absurd (kept i)
    go (Took_forget a i at) = By_forgetting a i at

answered_more : (o : Origin) (up : Option Addr) (e : Entry) (h : List Entry) (t : Aaid) (b : BranchId) → Answered o up h t b → Answered o up (e ∷ h) t b
answered_more o up e h t b (By_rolling r) = By_rolling (rolled_more o e h t r)
answered_more o up e h t b (By_leaving l) = By_leaving (rw l (grind arith))
answered_more o up e h t b (By_clearing x) = By_clearing (cleared_more t e.rec (records o h) x)
answered_more o up e h t b (By_forgetting a x at) = By_forgetting a (inr x) at

taken_of : (o : Origin) (t : Aaid) (h : List Entry) → is_own o.who t ≡ false → is_known o t h ≡ true → has_taken_begin t h ≡ true
taken_of o t h other known = grind (arith, other, known)

pub answered_fate : (n : ℕ) (C S : Aaid → Type 0) (o : Origin) (up : Option Addr) (h : List Entry) (z : Addr) (t : Aaid) (b : BranchId) → o.start.records ≡ [] → IsGrown o up h → IsOnce o h → KeyIs o h t b → KnowsOrders n C S o h → z.node ≡ n → S t → AnsweredDone o z t b Report.None h → Answered o up h t b
answered_fate n C S o up [] z t b empty legal once keys k at s a = absurd a
answered_fate n C S o up (e ∷ h) z t b empty legal once keys k at s (inl a) =
    answered_more o up e h t b (answered_now o up h t b empty legal.3 once.1 (key_tail o e h t b keys) (taken_of o t h keys.other ((k.0 z t b a.0 at).1 s)) a.1)
answered_fate n C S o up (e ∷ h) z t b empty legal once keys k at s (inr a) = answered_more o up e h t b (answered_fate n C S o up h z t b empty legal.3 once.1 (key_tail o e h t b keys) k.1 at s a)

pub done_said : (o : Origin) (up : Option Addr) (h : List Entry) (z : Addr) (t : Aaid) (b : BranchId) → o.start.records ≡ [] → IsGrown o up h → IsOnce o h → HasSent h z (PeerRecord.RecReply t b (RecState.Done Report.None)) → (has_cleared t (records o h) ≡ true) ⊎ AnsweredDone o z t b Report.None h
done_said o up [] z t b empty legal once s = inr s
done_said o up (e ∷ h) z t b empty legal once (inr s) = elim (done_said o up h z t b empty legal.3 once.1 s) [ inl i ↦ inl (cleared_more t e.rec (records o h) i) | inr i ↦ inr (inr i) ]
done_said o up (e ∷ h) z t b empty legal once (inl x) = go ((clearing_at o up e h t legal).says z b (sent_now o up e h z (PeerRecord.RecReply t b (RecState.Done Report.None)) legal x))
  where
    d : Digest
    d = digest o h

    s : Digest
    s = prelude o.who d e.event

    recs : e.rec ≡ (action o.who d e.event).rec
    recs = ap (λ (v : Entry). v.rec) (sym legal.1)

    go : (is_now t s.current ≡ true) × (is_committing (phase_of s) ≡ true) × (ends_tree t (action o.who d e.event).rec ≡ true) ⊎ (keeps_idle s.kept ≡ true) ⊎ (e.event ≡ Event.Arrive z (PeerRecord.RecCommit t b)) × (recovery_answer (known_of (named_by_key s (branch_key t b)) b) Question.RecCommit ≡ Some (RecState.Done Report.None))
        → (has_cleared t (records o (e ∷ h)) ≡ true) ⊎ AnsweredDone o z t b Report.None (e ∷ h)
    go (inr (inl i)) = absurd (idle_never o up h t empty legal.3 (sym (idle_noted d.kept) ∙ ap keeps_idle (sym (kept_prelude o.who d e.event).0) ∙ idle_noted s.kept ∙ i))
    go (inr (inr i)) = inr (inl (i.0, ap (λ (f : Event). recovery_answer (known_of (named_by_key (prelude o.who d f) (branch_key t b)) b) Question.RecCommit) (sym i.0) ∙ i.1))
    go (inl i) = inl (cleared_first t e.rec (records o h) (ap (ends_tree t) recs ∙ i.2) (whole (has_damage t (records o h)) refl))
      where
        whole : (v : Bool) → has_damage t (records o h) ≡ v → has_damage t (records o h) ≡ false
        whole false j = j
        whole true j =
            let known = damage_is_known o up h t empty legal.3 once.1 j in
            let m = same_phase o up e h t empty legal once known i.0 in
            absurd (no_two (phase_of s) i.1 (ap is_rolling m.phase ∙ (cleared_law o up h t empty legal.3 once.1).damage_now j m.now))
          where
            no_two : (v : Phase) → is_committing v ≡ true → is_rolling v ≡ true → ⊥
            no_two v h i = absurd (grind (arith, h, i))

-- ---- Forget

abbrev pub AnsweredForget : Origin → Addr → Aaid → BranchId → List Entry → Type 0
AnsweredForget o z t b [] = ⊥
AnsweredForget o z t b (e ∷ h) =
    ((r : Report) × (e.event ≡ Event.Arrive z (PeerRecord.RecReply t b (RecState.Done r))) × (is_report_none r ≡ false) × ((named_by_branch (digest o h) t b).current ≡ None)) ⊎ AnsweredForget o z t b h

pub forget_said : (o : Origin) (up : Option Addr) (h : List Entry) (z : Addr) (t : Aaid) (b : BranchId) → o.start.records ≡ [] → IsGrown o up h → IsOnce o h → HasSent h z (PeerRecord.Forget t b) → (has_damage t (records o h) ≡ true) ⊎ AnsweredForget o z t b h
forget_said o up [] z t b empty legal once s = inr s
forget_said o up (e ∷ h) z t b empty legal once (inr s) = elim (forget_said o up h z t b empty legal.3 once.1 s) [ inl i ↦ inl (damage_more t e.rec (records o h) i) | inr i ↦ inr (inr i) ]
forget_said o up (e ∷ h) z t b empty legal once (inl x) = elim ((clearing_at o up e h t legal).forgets z b (sent_now o up e h z (PeerRecord.Forget t b) legal x)) [
  | inl i ↦ inl (damage_first t e.rec (records o h) (ap (damages_tree t) (ap (λ (v : Entry). v.rec) (sym legal.1)) ∙ i))
  | inr i ↦ elim i [
    | inl j ↦ inl (damage_more t e.rec (records o h) ((cleared_law o up h t empty legal.3 once.1).damage_kept (sym (tree_prelude o.who (digest o h) e.event t) ∙ j)))
    | inr j ↦ inr (inl (j.0, j.1, j.2, ap (λ (f : Event). (named_by_branch (prelude o.who (digest o h) f) t b).current) (sym j.1) ∙ j.3))
  ]
]

pub bare_none : (k : Known) (r : Report) → k.kept ≡ None → is_report_none r ≡ false → recovery_answer k Question.RecCommit ≡ Some (RecState.Done r) → ⊥
unfolding recovery_answer
bare_none k r n some x = absurd (grind (arith, n, some, x))

-- who said Done with a report beside the associations logged the tree's damage
pub damage_replied : (o : Origin) (up : Option Addr) (h : List Entry) (z : Addr) (t : Aaid) (b : BranchId) (r : Report) → o.start.records ≡ [] → IsGrown o up h → IsOnce o h → is_report_none r ≡ false → HasSent h z (PeerRecord.RecReply t b (RecState.Done r)) → has_damage t (records o h) ≡ true
damage_replied o up [] z t b r empty legal once some s = absurd s
damage_replied o up (e ∷ h) z t b r empty legal once some (inr s) = damage_more t e.rec (records o h) (damage_replied o up h z t b r empty legal.3 once.1 some s)
damage_replied o up (e ∷ h) z t b r empty legal once some (inl x) = elim ((clearing_at o up e h t legal).spoils z b r some (sent_now o up e h z (PeerRecord.RecReply t b (RecState.Done r)) legal x)) [
  | inl i ↦ damage_first t e.rec (records o h) (ap (damages_tree t) (ap (λ (v : Entry). v.rec) (sym legal.1)) ∙ i)
  | inr i ↦ damage_more t e.rec (records o h) ((cleared_law o up h t empty legal.3 once.1).damage_kept (elim i [
    | inl j ↦ sym (tree_prelude o.who (digest o h) e.event t) ∙ j
    | inr j ↦ answered (find_kept (digest o h).kept (branch_key t b)) refl (ap (λ (f : Event). recovery_answer (known_of (named_by_key (prelude o.who (digest o h) f) (branch_key t b)) b) Question.RecCommit) (sym j.0) ∙ j.1)
  ]))
]
  where
    answered : (v : Option Kept) → find_kept (digest o h).kept (branch_key t b) ≡ v → recovery_answer (known_of (named_by_key (digest o h) (branch_key t b)) b) Question.RecCommit ≡ Some (RecState.Done r) → keeps_tree t (digest o h).kept ≡ true
    answered (Some k) i a = tree_found t (digest o h).kept (branch_key t b) k i (ap (λ (j : NodeKey). is_aaid t j.aaid) (found_key (digest o h).kept (branch_key t b) k i) ∙ aaid_same t)
    answered None i a = absurd (bare_none (known_of (named_by_key (digest o h) (branch_key t b)) b) r (ap (λ (v : Option Kept). elim v as (λ _. Option (Outcome × Report)) [ None ↦ None | Some y ↦ Some (y.side, y.report) ]) i) some a)

-- ---- what is current is named, where nothing is kept

owing_tree : (ks : List Kept) (t : Aaid) (b : BranchId) (k : NodeKey) → kept_owing ks t b ≡ Some k → keeps_tree t ks ≡ true
owing_tree [] t b k h = absurd (cc (h))
owing_tree (x ∷ ks) t b k h = go (is_aaid x.key.aaid t) refl (owing_tree ks t b k)
  where
    go : (v : Bool) → is_aaid x.key.aaid t ≡ v → (kept_owing ks t b ≡ Some k → keeps_tree t ks ≡ true) → keeps_tree t (x ∷ ks) ≡ true
    go true i rest = let tree : is_aaid t x.key.aaid ≡ true = ap (λ (u : Aaid). is_aaid u x.key.aaid) (sym (aaids_equal x.key.aaid t i)) ∙ aaid_same x.key.aaid in rw tree refl
    go false i rest = let r = rest (rw (i, kept_owing) at h) in rw r (grind arith)

named_none : (d : Digest) (t : Aaid) (b : BranchId) → (named_by_branch d t b).current ≡ None → is_now t d.current ≡ true → keeps_tree t d.kept ≡ true
named_none d t b none n = by (now_some t d.current n)
  where
    by : (c : Current) × (d.current ≡ Some c) × (is_aaid t (aaid_of c.key) ≡ true) → keeps_tree t d.kept ≡ true
    by w = go (is_branch_of w.0 b) refl (kept_owing d.kept t b) refl
      where
        c : Current
        c = w.0

        of_tree : current_of d t ≡ Some c
        of_tree = current_found d t c w.1 (ap (λ (u : Aaid). is_aaid u t) (sym (aaids_equal t (aaid_of c.key) w.2)) ∙ aaid_same t)

        named : key_of_branch d t b ≡ Some (node_key c.key) → ⊥
        named key =
            let at : (named_by_branch d t b).current ≡ Some c = ap (λ (o : Option NodeKey). (elim o as (λ _. Named) [ None ↦ record { current = None; kept = None } | Some z ↦ named_by_key d z ]).current) key ∙ own_with d c w.1 in
            let both : ◌≡◌ {A = Option Current} None (Some c) = sym none ∙ at in
            cc (both)

        go : (v : Bool) → is_branch_of c b ≡ v → (k : Option NodeKey) → kept_owing d.kept t b ≡ k → keeps_tree t d.kept ≡ true
        go v i (Some k) j = owing_tree d.kept t b k j
        go true i None j = absurd (named (rw (of_tree, key_of_branch) (rw i refl)))
        go false i None j =
            let key : key_of_kept d t b ≡ Some (node_key c.key) = rw (j, key_of_kept) (rw of_tree refl) in
            absurd (named (rw (of_tree, key_of_branch) (rw i key)))

-- a report other than none, beside the associations, is of a tree that was known there
abbrev pub KnowsDones : ℕ → (Aaid → Type 0) → Origin → List Entry → Type 0
KnowsDones n S o [] = Unit {0}
KnowsDones n S o (e ∷ h) =
    ((a : Addr) (t : Aaid) (b : BranchId) (r : Report) → e.event ≡ Event.Arrive a (PeerRecord.RecReply t b (RecState.Done r)) → a.node ≡ n → is_report_none r ≡ false → S t → is_known o t h ≡ true) × KnowsDones n S o h

known_forget : (n : ℕ) (S : Aaid → Type 0) (o : Origin) (up : Option Addr) (h : List Entry) (z : Addr) (t : Aaid) (b : BranchId) → IsGrown o up h → KnowsDones n S o h → z.node ≡ n → S t → AnsweredForget o z t b h → is_known o t h ≡ true
known_forget n S o up [] z t b legal k at s a = absurd a
known_forget n S o up (e ∷ h) z t b legal k at s (inl a) = known_more o up e h t legal (k.0 z t b a.0 a.1 at a.2 s)
known_forget n S o up (e ∷ h) z t b legal k at s (inr a) = known_more o up e h t legal (known_forget n S o up h z t b legal.3 k.1 at s a)

-- of a tree that is current still, a Forget was said where its damage is logged
pub forget_past : (n : ℕ) (S : Aaid → Type 0) (o : Origin) (up : Option Addr) (h : List Entry) (z : Addr) (t : Aaid) (b : BranchId) → o.start.records ≡ [] → IsGrown o up h → IsOnce o h → KnowsDones n S o h → z.node ≡ n → S t → is_now t (digest o h).current ≡ true
    → AnsweredForget o z t b h → has_damage t (records o h) ≡ true
forget_past n S o up [] z t b empty legal once k at s now a = absurd a
forget_past n S o up (e ∷ h) z t b empty legal once k at s now (inr a) =
    damage_more t e.rec (records o h) (forget_past n S o up h z t b empty legal.3 once.1 k.1 at s (now_then o up e h t empty legal once (known_forget n S o up h z t b legal.3 k.1 at s a) now) a)
forget_past n S o up (e ∷ h) z t b empty legal once k at s now (inl a) =
    damage_more t e.rec (records o h)
    ((cleared_law o up h t empty legal.3 once.1).damage_kept (named_none (digest o h) t b a.3 (now_then o up e h t empty legal once (k.0 z t b a.0 a.1 at a.2 s) now)))

pub forgotten_now : (n : ℕ) (S : Aaid → Type 0) (o : Origin) (up : Option Addr) (h : List Entry) (z : Addr) (t : Aaid) (b : BranchId) → o.start.records ≡ [] → IsGrown o up h → IsOnce o h → KnowsDones n S o h → z.node ≡ n → S t → is_now t (digest o h).current ≡ true
    → is_committing (phase_of (digest o h)) ≡ true → HasSent h z (PeerRecord.Forget t b) → ⊥
forgotten_now n S o up h z t b empty legal once k at s now committing sent = no_two (phase_of (digest o h)) committing ((cleared_law o up h t empty legal once).damage_now damage now)
  where
    damage : has_damage t (records o h) ≡ true
    damage = elim (forget_said o up h z t b empty legal once sent) [ inl i ↦ i | inr i ↦ forget_past n S o up h z t b empty legal once k at s now i ]

    no_two : (v : Phase) → is_committing v ≡ true → is_rolling v ≡ true → ⊥
    no_two v h i = absurd (grind (arith, h, i))

-- a report other than none is said of a commitment that was kept
pub done_known : (o : Origin) (up : Option Addr) (h : List Entry) (z : Addr) (t : Aaid) (b : BranchId) (r : Report) → o.start.records ≡ [] → IsGrown o up h → IsOnce o h → is_report_none r ≡ false → AnsweredDone o z t b r h → is_known o t h ≡ true
done_known o up [] z t b r empty legal once some a = absurd a
done_known o up (e ∷ h) z t b r empty legal once some (inr a) = known_more o up e h t legal (done_known o up h z t b r empty legal.3 once.1 some a)
done_known o up (e ∷ h) z t b r empty legal once some (inl a) = known_more o up e h t legal (go (find_kept d.kept (branch_key t b)) refl)
  where
    d : Digest
    d = digest o h

    go : (v : Option Kept) → find_kept d.kept (branch_key t b) ≡ v → is_known o t h ≡ true
    go (Some x) i =
        let key : x.key ≡ branch_key t b = found_key d.kept (branch_key t b) x i in
        damage_is_known o up h t empty legal.3 once.1 ((cleared_law o up h t empty legal.3 once.1).damage_kept (tree_found t d.kept (branch_key t b) x i (ap (λ (j : NodeKey). is_aaid t j.aaid) key ∙ aaid_same t)))
    go None i = absurd (bare_none (known_of (named_by_key d (branch_key t b)) b) r (ap (λ (v : Option Kept). elim v as (λ _. Option (Outcome × Report)) [ None ↦ None | Some y ↦ Some (y.side, y.report) ]) i) some a.1)
