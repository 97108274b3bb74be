-- What became of a tree at a node that took its Begin: it is current, rolled, was left, ended clear, is kept for its damage, or
-- the superior's Forget was taken.
use Rattle.std.proofs.Common.{◌≡◌, ◌⊎◌, inl, inr, Bool, true, false, refl, ap, sym, subst, ◌∙◌, arith, Option, Some, None, List, [], ◌∷◌, ◌&&◌}
use Rattle.std.proofs.lemmas.Bool.Decides.{nat_tests}
use Rattle.tp_names.specs.declared.identifiers.Aaid.{Aaid}
use Rattle.tp_names.specs.declared.identifiers.BranchId.{BranchId}
use Rattle.tp_names.specs.declared.identifiers.NodeKey.{NodeKey}
use Rattle.tp_names.specs.declared.identifiers.Addr.{Addr}
use Rattle.tp_names.specs.Same.{is_aaid, is_key}
use Rattle.tp_records.specs.declared.request.Request.{Request}
use Rattle.tp_records.specs.declared.dialogue.DialogueRecord.{DialogueRecord}
use Rattle.tp_records.specs.declared.peer.PeerRecord.{PeerRecord}
use Rattle.tp_model.specs.declared.recovery.Kept.{Kept}
use Rattle.tp_model.specs.Parts.{Who, Origin, Event, Entry, Arc, Key, Root, Under, Current, Digest}
use Rattle.tp_model.specs.Questions.{is_at}
use Rattle.tp_model.specs.Dialogues.{is_nil, is_active, is_rolling}
use Rattle.tp_model.specs.Arcs.{find_arc}
use Rattle.tp_model.specs.Transactions.{aaid_of, node_key, superior_of}
use Rattle.tp_model.specs.Recovery.{find_kept, not_forgotten}
use Rattle.tp_model.specs.Arrivals.{branch_key, current_with, named_by_key, kept_superior, is_other, refused_arrival}
use Rattle.tp_model.specs.Events.{refusal, verdict, action, after_crash, recovered_current}
use Rattle.tp_model.specs.History.{digest, records}
use Rattle.tp_model.specs.Outcomes.{is_now, is_unchanged, rolls, is_crash_in_active}
use Rattle.tp_model.specs.World.{Node, number_of, addr_of}
use Rattle.tp_model.specs.Happenings.{Happening, run}
use Rattle.tp_model.specs.Promises.{IsBranchOf}
use Rattle.tp_model.specs.Legal.{IsGrown}
use Rattle.tp_steps.specs.Histories.{brought}
use Rattle.tp_histories.specs.Histories.{HasBrought}
use Rattle.tp_steps.specs.Moves.{IsLate, keeps_idle, begun_in, counted_in, prelude}
use Rattle.tp_histories.specs.Members.{is_begun_by, has_taken_begin, is_own, IsOnce}
use Rattle.tp_runs.specs.Bare.{keeps_tree}
use Rattle.tp_steps.specs.Clearing.{has_damage}
use Rattle.tp_reports.specs.Clearing.{ends_tree, notes_forget, keeps_beside, KeepsAt, LetsGo, Forgets, Noted, Beside, Beside_here}
use Rattle.tp_reports.specs.Reports.{Fate, Is_now, Has_rolled, Was_left, Ended_clear, Stays_kept, Took_forget, BranchFate}
use Rattle.tp_agreement.proofs.ReadyDown.{begun_taken, once_same}
use Rattle.tp_histories.proofs.worlds.TreeMembers.{own_untaken}
use Rattle.tp_histories.proofs.worlds.Good.{good_run}
use Rattle.tp_agreement.proofs.RollsUp.{tied_run}
use Rattle.tp_histories.proofs.trees.Late.{late_law, late_prelude}
use Rattle.tp_steps.proofs.lemmas.Equality.{aaids_equal, addrs_equal, or_case, and_right}
use Rattle.tp_steps.proofs.words.Leaves.{aaid_same}
use Rattle.tp_steps.proofs.log.ApartLog.{keys_equal}
use Rattle.tp_steps.proofs.every.EveryEvent.{named_current}
use Rattle.tp_steps.proofs.log.TurnLog.{key_self}
use Rattle.tp_steps.proofs.branches.Rolls.{phase_at}
use Rattle.tp_steps.proofs.words.Treed.{now_some}
use Rattle.tp_histories.proofs.trees.Knowing.{Came, As_it_was, By_begin, By_crash, came_by, begin_arc, now_prelude, nil_now}
use Rattle.tp_histories.proofs.worlds.TreeMembers.{prelude_old}
use Rattle.tp_histories.proofs.trees.Fated.{fated_law}
use Rattle.tp_histories.proofs.trees.Above.{IsKeyOf, key_law}
use Rattle.tp_runs.proofs.Bare.{kept_prelude as tree_prelude}
use Rattle.tp_agreement.proofs.OwingMoves.{found_key, kept_noted, kept_unnoted}
use Rattle.tp_reports.proofs.KeptAbove.{found_above, kept_above}
use Rattle.tp_histories.proofs.pairs.PairedSteps.{placed_event}
use Rattle.tp_histories.proofs.log.KeptLog.{kept_prelude}
use Rattle.tp_steps.proofs.log.SoundMoves.{IsSound}
use Rattle.tp_histories.proofs.log.SoundLog.{sound_first}
use Rattle.tp_agreement.proofs.BelowRuns.{TookKey, behind_key, current_took, later_key}
use Rattle.tp_agreement.proofs.OwingLaw.{kept_none, sound_at, rolled_here, rolled_more, rolling_here}
use Rattle.tp_reports.proofs.ClearingMoves.{EndsAt, It_rolls, Was_rolling, It_leaves, It_clears, Is_kept, Is_gone, IsClearingMove, clearing_event, idle_noted, roots_noted}
use Rattle.tp_reports.proofs.ClearedLaw.{damage_is_known, cleared_first, cleared_more, IsCleared, cleared_law}

pub clearing_at : (o : Origin) (up : Option Addr) (e : Entry) (h : List Entry) (t : Aaid) → IsGrown o up (e ∷ h) → IsClearingMove o.who e.event (rolls o.who (digest o h) e.event) (prelude o.who (digest o h) e.event) t (prelude o.who (digest o h) e.event) (action o.who (digest o h) e.event)
clearing_at o up e h t legal = clearing_event o.who (digest o h) e.event t (late_law o up h legal.3) legal.0

-- ---- what is kept after the prelude

notes_off : (t : Aaid) (b : BranchId) (ks : List Kept) → notes_forget t b (not_forgotten ks) ≡ false
notes_off t b [] = refl
notes_off t b (k ∷ ks) = grind (arith, notes_off t b ks)

notes_prelude : (who : Who) (d : Digest) (e : Event) (t : Aaid) (b : BranchId) → notes_forget t b (prelude who d e).kept ≡ true → notes_forget t b d.kept ≡ true
unfolding after_crash
notes_prelude who d (Event.Do r) t b h = let same : (prelude who d (Event.Do r)).kept ≡ d.kept = grind arith in ap (notes_forget t b) (sym same) ∙ h
notes_prelude who d (Event.Arrive from r) t b h = let same : (prelude who d (Event.Arrive from r)).kept ≡ d.kept = grind arith in ap (notes_forget t b) (sym same) ∙ h
notes_prelude who d Event.Crash t b h = absurd (cc (notes_off t b d.kept, h))
notes_prelude who d _ t b h = h

pub idle_never : (o : Origin) (up : Option Addr) (h : List Entry) (t : Aaid) → o.start.records ≡ [] → IsGrown o up h → keeps_idle (digest o h).kept ≡ true → ⊥
idle_never o up [] t empty legal x = cc (ap keeps_idle (kept_none o empty), x)
idle_never o up (e ∷ h) t empty legal x = idle_never o up h t empty legal.3 (sym (idle_noted (digest o h).kept) ∙ ap keeps_idle (sym (kept_prelude o.who (digest o h) e.event).0) ∙ idle_noted (prelude o.who (digest o h) e.event).kept ∙ (clearing_at o up e h t legal).idle x)

-- the one key of a tree that came from above
pub record KeyIs (o : Origin) (h : List Entry) (t : Aaid) (b : BranchId) : Type 0 where
  pub other : is_own o.who t ≡ false
  pub ids : (v : BranchId) → TookKey h t v → v ≡ b

pub key_tail : (o : Origin) (e : Entry) (h : List Entry) (t : Aaid) (b : BranchId) → KeyIs o (e ∷ h) t b → KeyIs o h t b
key_tail o e h t b k = record { other = k.other; ids = λ v w. k.ids v (later_key e h t v w) }

pub key_here : (o : Origin) (up : Option Addr) (e : Entry) (h : List Entry) (t : Aaid) (b : BranchId) (c : Current) → o.start.records ≡ [] → IsGrown o up (e ∷ h) → KeyIs o (e ∷ h) t b → (prelude o.who (digest o h) e.event).current ≡ Some c → is_aaid t (aaid_of c.key) ≡ true → is_key (node_key c.key) (branch_key t b) ≡ false → ⊥
key_here o up e h t b c empty legal keys at tree off = go c.key refl
  where
    go : (j : Key) → c.key ≡ j → ⊥
    go (Root u) j =
        let keyed : IsKeyOf o.who up (Root u) = subst (λ (i : Key). IsKeyOf o.who up i) j ((placed_event o up e h 0 empty legal).keyed c at) in
        let same : t ≡ u = aaids_equal t u (ap (λ (i : Key). is_aaid t (aaid_of i)) (sym j) ∙ tree) in
        let node : t.mark.node ≡ o.who.node = ap (λ (v : Aaid). v.mark.node) same ∙ keyed.1 in
        let own : is_own o.who t ≡ true = grind (arith, nat_tests, node) in
        cc (own, keys.other)
    go (Under u v f) j =
        let same : t ≡ u = aaids_equal t u (ap (λ (i : Key). is_aaid t (aaid_of i)) (sym j) ∙ tree) in
        let took : TookKey (e ∷ h) u v = behind_key o up e h c u v f legal at j (λ w at k. current_took o up h w u v f empty legal.3 at k) in
        let id : v ≡ b = keys.ids v (subst (λ (w : Aaid). TookKey (e ∷ h) w v) (sym same) took) in
        let key : node_key c.key ≡ branch_key t b = ap node_key j ∙ key_is u v f same id in
        cc (off, ap (λ (i : NodeKey). is_key i (branch_key t b)) key ∙ key_self (branch_key t b))
      where
        key_is : (u : Aaid) (v : BranchId) (f : Addr) → t ≡ u → v ≡ b → node_key (Under u v f) ≡ branch_key t b
        key_is u v f x y = rw (← x, y) refl

pub beside_never : (o : Origin) (up : Option Addr) (h : List Entry) (t : Aaid) (b : BranchId) → o.start.records ≡ [] → IsGrown o up h → KeyIs o h t b → keeps_beside t b (digest o h).kept ≡ true → ⊥
beside_never o up [] t b empty legal keys x = cc (ap (keeps_beside t b) (kept_none o empty), x)
beside_never o up (e ∷ h) t b empty legal keys x = go ((clearing_at o up e h t legal).roots b x) (beside_never o up h t b empty legal.3 (key_tail o e h t b keys))
  where
    s : Digest
    s = prelude o.who (digest o h) e.event

    go : (keeps_beside t b s.kept ≡ true) ⊎ (c : Current) × (s.current ≡ Some c) × (is_aaid t (aaid_of c.key) ≡ true) × (is_key (node_key c.key) (branch_key t b) ≡ false) → (keeps_beside t b (digest o h).kept ≡ true → ⊥) → ⊥
    go (inl i) rest = rest (sym (roots_noted t b (digest o h).kept) ∙ ap (keeps_beside t b) (sym (kept_prelude o.who (digest o h) e.event).0) ∙ roots_noted t b s.kept ∙ i)
    go (inr i) rest = key_here o up e h t b i.0 empty legal keys i.1 i.2 i.3

-- ---- from whom a Forget came

-- a tree of which one key alone is kept is found by it
key_found : (t : Aaid) (b : BranchId) (ks : List Kept) → (keeps_beside t b ks ≡ true → ⊥) → keeps_tree t ks ≡ true → (x : Kept) × (find_kept ks (branch_key t b) ≡ Some x)
key_found t b [] off h = absurd (cc (h))
key_found t b (k ∷ ks) off h = go (is_key k.key (branch_key t b)) refl (is_aaid t k.key.aaid) refl (key_found t b ks)
  where
    go : (v : Bool) → is_key k.key (branch_key t b) ≡ v → (w : Bool) → is_aaid t k.key.aaid ≡ w → ((keeps_beside t b ks ≡ true → ⊥) → keeps_tree t ks ≡ true → (x : Kept) × (find_kept ks (branch_key t b) ≡ Some x))
        → (x : Kept) × (find_kept (k ∷ ks) (branch_key t b) ≡ Some x)
    go true i w j rest = (k, rw (i, find_kept) refl)
    go false i true j rest = absurd (off (rw (i, j) refl))
    go false i false j rest = on (rest (λ x. off (rw x (grind arith))) (grind (arith, h, j)))
      where
        on : (x : Kept) × (find_kept ks (branch_key t b) ≡ Some x) → (x : Kept) × (find_kept (k ∷ ks) (branch_key t b) ≡ Some x)
        on w = (w.0, rw (i, find_kept) w.1)

pub tree_found : (t : Aaid) (ks : List Kept) (j : NodeKey) (x : Kept) → find_kept ks j ≡ Some x → is_aaid t x.key.aaid ≡ true → keeps_tree t ks ≡ true
tree_found t [] j x h a = absurd (cc (h))
tree_found t (k ∷ ks) j x h a = go (is_key k.key j) refl (tree_found t ks j x)
  where
    go : (v : Bool) → is_key k.key j ≡ v → (find_kept ks j ≡ Some x → is_aaid t x.key.aaid ≡ true → keeps_tree t ks ≡ true) → keeps_tree t (k ∷ ks) ≡ true
    go true i rest =
        let one : Some k ≡ Some x = rw (i, find_kept) at h in
        let same : k ≡ x = cc (one) in
        let tree : is_aaid t k.key.aaid ≡ true = ap (λ (y : Kept). is_aaid t y.key.aaid) same ∙ a in
        rw tree refl
    go false i rest = let r = rest (rw (i, find_kept) at h) a in rw r (grind arith)

notes_tree : (t : Aaid) (b : BranchId) (ks : List Kept) → notes_forget t b ks ≡ true → keeps_tree t ks ≡ true
notes_tree t b [] h = absurd (cc (h))
notes_tree t b (k ∷ ks) h = elim (or_case (k.forgot && is_key k.key (branch_key t b)) (notes_forget t b ks) h) [
  | inl i ↦ (let tree : is_aaid t k.key.aaid ≡ true = ap (λ (j : NodeKey). is_aaid t j.aaid) (keys_equal k.key (branch_key t b) (and_right k.forgot (is_key k.key (branch_key t b)) i)) ∙ aaid_same t in rw tree refl)
  | inr i ↦ (let r = notes_tree t b ks i in rw r (grind arith))
]

not_refused : (who : Who) (d : Digest) (a : Addr) (t : Aaid) (b : BranchId) → refusal who d (Event.Arrive a (PeerRecord.Forget t b)) ≡ None → is_other (kept_superior (named_by_key d (branch_key t b))) a ≡ false
unfolding refusal verdict refused_arrival
not_refused who d a t b ok = grind (arith, ok)

-- a Forget of a key that is current or kept is the superior's
forget_from : (o : Origin) (up : Option Addr) (e : Entry) (h : List Entry) (t : Aaid) (b : BranchId) (a : Addr) → o.start.records ≡ [] → IsGrown o up (e ∷ h) → KeyIs o (e ∷ h) t b → e.event ≡ Event.Arrive a (PeerRecord.Forget t b)
    → (is_now t (digest o h).current ≡ true) ⊎ (keeps_tree t (digest o h).kept ≡ true) → is_at up a.node ≡ true
forget_from o up e h t b a empty legal keys is held = go (current_with d (branch_key t b)) refl
  where
    d : Digest
    d = digest o h

    ok : is_other (kept_superior (named_by_key d (branch_key t b))) a ≡ false
    ok = not_refused o.who d a t b (subst (λ (f : Event). refusal o.who d f ≡ None) is legal.0)

    from : (v : Option Addr) (j : Key) → kept_superior (named_by_key d (branch_key t b)) ≡ v → v ≡ superior_of j → branch_key t b ≡ node_key j → IsKeyOf o.who up j → is_at up a.node ≡ true
    from v (Root u) i s k keyed = let one : Some b ≡ None = ap (λ (x : NodeKey). x.branch) k in absurd (cc (one))
    from v (Under u c f) i s k keyed =
        let other : is_other (Some f) a ≡ false = ap (λ (x : Option Addr). is_other x a) (sym (i ∙ s)) ∙ ok in
        let same : f ≡ a = addrs_equal f a (grind (arith, other)) in
        subst (λ (x : Addr). is_at up x.node ≡ true) same keyed

    go : (v : Option Current) → current_with d (branch_key t b) ≡ v → is_at up a.node ≡ true
    go (Some c) i =
        let w = named_current d (branch_key t b) c i in
        from (superior_of c.key) c.key (ap (λ (v : Option Current). elim v as (λ _. Option Addr) [ Some x ↦ superior_of x.key | None ↦ elim (find_kept d.kept (branch_key t b)) as (λ _. Option Addr) [ None ↦ None | Some k ↦ k.superior ] ]) i) refl
        (sym (keys_equal (node_key c.key) (branch_key t b) w.1)) (key_law o up h c empty legal.3 w.0)
    go None i = kept held
      where
        kept : (is_now t (digest o h).current ≡ true) ⊎ (keeps_tree t (digest o h).kept ≡ true) → is_at up a.node ≡ true
        kept (inl n) = let c = now_some t d.current n in own c.0 c.1 c.2 (is_key (node_key c.0.key) (branch_key t b)) refl
          where
            own : (c : Current) → d.current ≡ Some c → is_aaid t (aaid_of c.key) ≡ true → (v : Bool) → is_key (node_key c.key) (branch_key t b) ≡ v → is_at up a.node ≡ true
            own c at tree true j = let none : ◌≡◌ {A = Option Current} (Some c) None = rw (at, current_with) (rw j refl) ∙ i in absurd (cc (none))
            own c at tree false j = absurd (key_here o up e h t b c empty legal keys (ap (λ (f : Event). (prelude o.who d f).current) is ∙ at) tree j)
        kept (inr n) =
            let w = key_found t b d.kept (λ x. beside_never o up h t b empty legal.3 (key_tail o e h t b keys) x) n in
            let above = found_above o.who up d.kept (branch_key t b) w.0 (kept_above o up h empty legal.3) w.1 in
            from w.0.superior above.0 (ap (λ (v : Option Current). elim v as (λ _. Option Addr) [ Some x ↦ superior_of x.key | None ↦ elim (find_kept d.kept (branch_key t b)) as (λ _. Option Addr) [ None ↦ None | Some k ↦ k.superior ] ]) i ∙ ap (λ (v : Option Kept). elim v as (λ _. Option Addr) [ None ↦ None | Some k ↦ k.superior ]) w.1) above.2
            (sym (found_key d.kept (branch_key t b) w.0 w.1) ∙ above.1) above.3

-- what is noted was the superior's
notes_taken : (o : Origin) (up : Option Addr) (h : List Entry) (t : Aaid) (b : BranchId) → o.start.records ≡ [] → IsGrown o up h → KeyIs o h t b → notes_forget t b (digest o h).kept ≡ true → (a : Addr) × HasBrought h a (PeerRecord.Forget t b) × (is_at up a.node ≡ true)
notes_taken o up [] t b empty legal keys x = absurd (cc (ap (notes_forget t b) (kept_none o empty), x))
notes_taken o up (e ∷ h) t b empty legal keys x = go (k.notes b x) (notes_taken o up h t b empty legal.3 (key_tail o e h t b keys))
  where
    d : Digest
    d = digest o h

    s : Digest
    s = prelude o.who d e.event

    k : IsClearingMove o.who e.event (rolls o.who d e.event) s t s (action o.who d e.event)
    k = clearing_at o up e h t legal

    held : (a : Addr) → e.event ≡ Event.Arrive a (PeerRecord.Forget t b) → (is_now t d.current ≡ true) ⊎ (keeps_tree t d.kept ≡ true)
    held a is = elim (k.keeps (notes_tree t b (digest o (e ∷ h)).kept x)) [
      | inl i ↦ inr (sym (tree_prelude o.who d e.event t) ∙ i)
      | inr i ↦ elim (k.logs i) [
        | inl j ↦ inl (ap (λ (f : Event). is_now t (prelude o.who d f).current) (sym is) ∙ j)
        | inr j ↦ inr (sym (tree_prelude o.who d e.event t) ∙ j)
      ]
    ]

    go : (notes_forget t b s.kept ≡ true) ⊎ (a : Addr) × (e.event ≡ Event.Arrive a (PeerRecord.Forget t b)) → (notes_forget t b (digest o h).kept ≡ true → (a : Addr) × HasBrought h a (PeerRecord.Forget t b) × (is_at up a.node ≡ true))
        → (a : Addr) × HasBrought (e ∷ h) a (PeerRecord.Forget t b) × (is_at up a.node ≡ true)
    go (inl i) rest = let w = rest (notes_prelude o.who d e.event t b i) in (w.0, inr w.1, w.2)
    go (inr i) rest = (i.0, inl (ap brought i.1), forget_from o up e h t b i.0 empty legal keys i.1 (held i.0 i.1))

-- ---- what became of it

begun_now : (who : Who) (d : Digest) (e : Event) (t : Aaid) → refusal who d e ≡ None → is_begun_by t e ≡ true → is_now t (prelude who d e).current ≡ true
begun_now who d (Event.Arrive from (PeerRecord.OnAssoc x y q (DialogueRecord.Begin u b h))) t ok i = go (find_arc d.arcs from.node) refl
  where
    go : (v : Option Arc) → find_arc d.arcs from.node ≡ v → is_now t (prelude who d (Event.Arrive from (PeerRecord.OnAssoc x y q (DialogueRecord.Begin u b h)))).current ≡ true
    go None j = absurd (begin_arc who d from x y q u b h ok j)
    go (Some a) j = ap (λ (v : Option Arc). is_now t (begun_in v u b (counted_in d from)).current) j ∙ i
begun_now who d e t ok i = absurd (grind (arith, i))

unchanged_prelude : (who : Who) (d : Digest) (f : Event) → is_unchanged f ≡ true → (prelude who d f).current ≡ d.current
unchanged_prelude who d (Event.Do Request.Unchanged) u = refl
unchanged_prelude who d f u = absurd (cc (u))

fate_step : (o : Origin) (up : Option Addr) (e : Entry) (h : List Entry) (t : Aaid) (b : BranchId) → o.start.records ≡ [] → IsGrown o up (e ∷ h) → IsOnce o (e ∷ h) → KeyIs o (e ∷ h) t b → (is_begun_by t e.event ≡ true) ⊎ Fate o up h t b → Fate o up (e ∷ h) t b
fate_step o up e h t b empty legal once keys before = start before
  where
    d : Digest
    d = digest o h

    s : Digest
    s = prelude o.who d e.event

    k : IsClearingMove o.who e.event (rolls o.who d e.event) s t s (action o.who d e.event)
    k = clearing_at o up e h t legal

    f : IsCleared o h t
    f = cleared_law o up h t empty legal.3 once.1

    recs : e.rec ≡ (action o.who d e.event).rec
    recs = ap (λ (v : Entry). v.rec) (sym legal.1)

    late : IsLate s
    late = late_prelude o.who d e.event (late_law o up h legal.3)

    sound : IsSound o.who s
    sound = (sound_first o.who d e.event legal.0 (sound_at o up h empty legal.3)).0

    gone : (is_now t s.current ≡ true) ⊎ (keeps_tree t d.kept ≡ true) → LetsGo e.event s t b s.kept → Fate o up (e ∷ h) t b
    gone held (Forgets a i) =
        let now : (is_now t d.current ≡ true) ⊎ (keeps_tree t d.kept ≡ true) = elim held [ inl j ↦ inl (ap (λ (g : Event). is_now t (prelude o.who d g).current) (sym i) ∙ j) | inr j ↦ inr j ] in
        Took_forget a (inl (ap brought i)) (forget_from o up e h t b a empty legal keys i now)
    gone held (Noted i) = let w = notes_taken o up h t b empty legal.3 (key_tail o e h t b keys) (notes_prelude o.who d e.event t b i) in Took_forget w.0 (inr w.1) w.2
    gone held (Beside i) = absurd (beside_never o up h t b empty legal.3 (key_tail o e h t b keys) (sym (roots_noted t b d.kept) ∙ ap (keeps_beside t b) (sym (kept_prelude o.who d e.event).0) ∙ roots_noted t b s.kept ∙ i))
    gone held (Beside_here c i j l) = absurd (key_here o up e h t b c empty legal keys i j l)

    ends : is_now t s.current ≡ true → EndsAt e.event (rolls o.who d e.event) s t b s (action o.who d e.event) → Fate o up (e ∷ h) t b
    ends n (It_rolls m r) = Has_rolled (rolled_here o up e h t legal m r)
    ends n (Was_rolling r) = let c = now_some t s.current n in Has_rolled (rolling_here o up e h t empty legal once c.0 c.1 c.2 (ap is_rolling (sym (phase_at s c.0 c.1)) ∙ r))
    ends n (It_leaves m u) = let now : is_now t d.current ≡ true = ap (is_now t) (sym (unchanged_prelude o.who d e.event u)) ∙ m in Was_left (rw (now, u) refl)
    ends n (Is_kept i) = Stays_kept i
    ends n (Is_gone i) = gone (inl n) i
    ends n (It_clears x) = go (has_damage t (records o h)) refl
      where
        go : (v : Bool) → has_damage t (records o h) ≡ v → Fate o up (e ∷ h) t b
        go false i = Ended_clear (cleared_first t e.rec (records o h) (ap (ends_tree t) recs ∙ x) i)
        go true i = elim (now_prelude o.who d e.event t legal.0 n) [
          | inl m ↦ Has_rolled (rolled_more o e h t ((fated_law o up h t empty legal.3 once.1).rolling m (f.damage_now i m)))
          | inr m ↦ (let known = damage_is_known o up h t empty legal.3 once.1 i in let w = once.0 t m in absurd (grind (arith, known, w.0, w.1)))
        ]

    on : is_now t s.current ≡ true → Fate o up (e ∷ h) t b
    on n = elim (k.over b late (prelude_old o up e h t empty legal once n) sound n) [ inl i ↦ Is_now i | inr i ↦ ends n i ]

    crashed : e.event ≡ Event.Crash → s.current ≡ recovered_current d.current → is_now t d.current ≡ true → Fate o up (e ∷ h) t b
    crashed is cur n = by (is_active c.0.phase) refl (is_rolling c.0.phase) refl
      where
        c : (u : Current) × (d.current ≡ Some u) × (is_aaid t (aaid_of u.key) ≡ true)
        c = now_some t d.current n

        stays : is_active c.0.phase ≡ false → is_rolling c.0.phase ≡ false → is_nil c.0.phase ≡ false → is_now t (recovered_current (Some c.0)) ≡ true
        stays i j l = let tree = c.2 in grind (arith, i, j, l, tree)

        by : (v : Bool) → is_active c.0.phase ≡ v → (w : Bool) → is_rolling c.0.phase ≡ w → Fate o up (e ∷ h) t b
        by true i w j =
            let a : is_crash_in_active d e.event ≡ true = ap (is_crash_in_active d) is ∙ ap is_active (phase_at d c.0 c.1) ∙ i in
            Has_rolled (rw (n, a) (grind arith))
        by false i true j = Has_rolled (rolled_more o e h t ((fated_law o up h t empty legal.3 once.1).rolling n (ap is_rolling (phase_at d c.0 c.1) ∙ j)))
        by false i false j = on (ap (is_now t) (cur ∙ ap recovered_current c.1) ∙ stays i j (late_law o up h legal.3 c.0 c.1))

    was_now : is_now t d.current ≡ true → Came o.who d e.event → Fate o up (e ∷ h) t b
    was_now n (As_it_was i) = on (ap (is_now t) i ∙ n)
    was_now n (By_begin from x y q u c g a is found cur nil above) = absurd (cc (n, nil_now d t (late_law o up h legal.3) nil))
    was_now n (By_crash is cur) = crashed is cur n

    keeps : KeepsAt t d.kept → KeepsAt t s.kept
    keeps w = kept_unnoted (λ x. Unit {0}) (λ x h. h) t s.kept (subst (λ (ks : List Kept). KeepsAt t ks) (sym (kept_prelude o.who d e.event).0) (kept_noted (λ x. Unit {0}) (λ x h. h) t d.kept w))

    start : (is_begun_by t e.event ≡ true) ⊎ Fate o up h t b → Fate o up (e ∷ h) t b
    start (inl i) = on (begun_now o.who d e.event t legal.0 i)
    start (inr (Is_now n)) = was_now n (came_by o.who d e.event legal.0)
    start (inr (Has_rolled r)) = Has_rolled (rolled_more o e h t r)
    start (inr (Was_left l)) = Was_left (rw l (grind arith))
    start (inr (Ended_clear x)) = Ended_clear (cleared_more t e.rec (records o h) x)
    start (inr (Took_forget a x at)) = Took_forget a (inr x) at
    start (inr (Stays_kept w)) = elim (k.kept b sound (keeps w)) [ inl i ↦ Stays_kept i | inr i ↦ gone (inr (tree_found t d.kept w.key w.kept w.found w.tree)) i ]

pub fate_law : (o : Origin) (up : Option Addr) (h : List Entry) (t : Aaid) (b : BranchId) → o.start.records ≡ [] → IsGrown o up h → IsOnce o h → KeyIs o h t b → has_taken_begin t h ≡ true → Fate o up h t b
fate_law o up [] t b empty legal once keys x = absurd (cc (x))
fate_law o up (e ∷ h) t b empty legal once keys x = elim (or_case (is_begun_by t e.event) (has_taken_begin t h) x) [
  | inl i ↦ fate_step o up e h t b empty legal once keys (inl i)
  | inr i ↦ fate_step o up e h t b empty legal once keys (inr (fate_law o up h t b empty legal.3 once.1 (key_tail o e h t b keys) i))
]

-- ---- every run

pub branch_key_is : (es : List Happening) (t : Aaid) (b : BranchId) (x y : Node) → IsBranchOf (run es) t b x y → KeyIs y.origin y.history t b
branch_key_is es t b x y branch = record {
  other = own (is_own y.origin.who t) refl;
  ids = λ v w. once_same y.origin y.history t b v (addr_of x) w.from w.x w.y w.seq w.holder once branch.begun w.took;
}
  where
    once : IsOnce y.origin y.history
    once = (tied_run es).unique.once (number_of y) y branch.child.here

    own : (v : Bool) → is_own y.origin.who t ≡ v → v ≡ false
    own false i = refl
    own true i = absurd (cc (own_untaken y.origin t y.history once i, begun_taken t b (addr_of x) y.history branch.begun))

pub branch_fate : (es : List Happening) → BranchFate (run es)
branch_fate es t b x y branch =
    fate_law y.origin y.superior y.history t b ((good_run es).fresh (number_of y) y branch.child.here) ((good_run es).legal (number_of y) y branch.child.here) ((tied_run es).unique.once (number_of y) y branch.child.here)
    (branch_key_is es t b x y branch) (begun_taken t b (addr_of x) y.history branch.begun)
