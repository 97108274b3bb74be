-- In every run, what a node counts of a branch in its current transaction is logged there.
use Rattle.std.proofs.Common.{if◌then◌else◌, ◌≡◌, ◌⊎◌, inl, inr, ℕ, Bool, true, false, refl, ap, sym, subst, ◌∙◌, arith, Option, Some, None, List, [], ◌∷◌, ◌++◌, ◌&&◌, ◌==◌}
use Rattle.std.proofs.lemmas.Bool.Decides.{nat_tests}
use Rattle.tp_names.specs.declared.identifiers.Aaid.{Aaid}
use Rattle.tp_names.specs.declared.identifiers.Mark.{Mark}
use Rattle.tp_names.specs.declared.identifiers.BranchId.{BranchId}
use Rattle.tp_names.specs.declared.identifiers.Addr.{Addr}
use Rattle.tp_names.specs.declared.children.Child.{Child}
use Rattle.tp_names.specs.Same.{is_branch}
use Rattle.tp_records.specs.declared.dialogue.DialogueRecord.{DialogueRecord}
use Rattle.tp_records.specs.declared.dialogue.Holder.{Holder}
use Rattle.tp_records.specs.declared.peer.PeerRecord.{PeerRecord}
use Rattle.tp_model.specs.declared.arc.Phase.{Phase}
use Rattle.tp_model.specs.declared.transaction.TxEvent.{TxEvent}
use Rattle.tp_model.specs.Parts.{Origin, Out, Entry, Branch, Current, Digest}
use Rattle.tp_model.specs.Dialogues.{is_active}
use Rattle.tp_model.specs.Transactions.{aaid_of, child_of}
use Rattle.tp_model.specs.Node.{phase_of, seen}
use Rattle.tp_model.specs.Events.{action, named_again, recovered_current}
use Rattle.tp_model.specs.History.{digest, records}
use Rattle.tp_model.specs.Outcomes.{is_now, rolled}
use Rattle.tp_model.specs.Questions.{said_to}
use Rattle.tp_model.specs.World.{Node, number_of}
use Rattle.tp_model.specs.Happenings.{Happening, run}
use Rattle.tp_model.specs.Promises.{IsBranchOf, is_counted_in, is_counted, has_logged}
use Rattle.tp_model.specs.Promises.{is_ready_of_branch as is_ready_rec}
use Rattle.tp_model.specs.Legal.{is_apart, are_apart, IsGrown}
use Rattle.tp_histories.specs.Histories.{IsSentIn, HasSent}
use Rattle.tp_steps.specs.Moves.{IsLate, prelude}
use Rattle.tp_steps.specs.Facts.{BranchKey, only_words, find_branch, key_at, words_to}
use Rattle.tp_steps.specs.Trees.{IsBegunIn, IsOld, IsTreed}
use Rattle.tp_histories.specs.Members.{is_known, IsOnce}
use Rattle.tp_steps.specs.Branches.{may_count}
use Rattle.tp_histories.specs.Upward.{deeds_of}
use Rattle.tp_histories.proofs.trees.Late.{late_law, late_prelude}
use Rattle.tp_steps.proofs.lemmas.Phases.{was_active}
use Rattle.tp_steps.proofs.lemmas.Equality.{branches_equal, or_case, and_left, and_right}
use Rattle.tp_steps.proofs.links.Wrapped.{words_append}
use Rattle.tp_steps.proofs.words.Treed.{drawn_new}
use Rattle.tp_histories.proofs.trees.Knowing.{Came, As_it_was, By_begin, By_crash, came_by, old_prelude, treed_event, nil_now}
use Rattle.tp_histories.proofs.worlds.TreeMembers.{sent_known, prelude_old, known_old, now_then}
use Rattle.tp_agreement.proofs.Marked.{Marked, MayMark, marked_same, marking_event}
use Rattle.tp_agreement.proofs.Accounts.{counted_of, counts_mark, counts_word, none_again}
use Rattle.tp_steps.proofs.branches.Rolls.{phase_at}
use Rattle.tp_steps.proofs.words.Leaves.{branch_same}
use Rattle.tp_steps.proofs.log.KinTurns.{kin}
use Rattle.tp_agreement.proofs.LeftDown.{accounts_of, key_branch}
use Rattle.tp_agreement.proofs.BelowRuns.{ready_logged, branch_above, branch_sent}
use Rattle.tp_agreement.proofs.OwingLaw.{spread_at}
use Rattle.tp_histories.proofs.worlds.Good.{good_run}
use Rattle.tp_agreement.proofs.RollsUp.{tied_run, below_run}

-- ---- a Begin among words

begun_more : (t : Aaid) (b : BranchId) (xs ys : List DialogueRecord) → IsBegunIn t b ys → IsBegunIn t b (xs ++ ys)
begun_more t b [] ys h = h
begun_more t b (DialogueRecord.Begin u c i ∷ xs) ys h = inr (begun_more t b xs ys h)
begun_more t b (r ∷ xs) ys h = begun_more t b xs ys h

pub sent_begun : (t : Aaid) (p : ℕ) (outs : List Out) (a : Addr) (x y : Mark) (q : ℕ) (b : BranchId) (i : Holder) → a.node ≡ p → IsSentIn outs a (PeerRecord.OnAssoc x y q (DialogueRecord.Begin t b i)) → IsBegunIn t b (words_to p outs)
sent_begun t p [] a x y q b i at s = absurd s
sent_begun t p (Out.Tell j ∷ outs) a x y q b i at s = sent_begun t p outs a x y q b i at s
sent_begun t p (Out.Send c (PeerRecord.OnAssoc z w n r) ∷ outs) a x y q b i at (inl s) =
    let node : c.node ≡ p = ap (λ (u : Addr). u.node) s.0 ∙ at in
    let is : r ≡ DialogueRecord.Begin t b i = cc (s.1) in
    let words : words_to p (Out.Send c (PeerRecord.OnAssoc z w n r) ∷ outs) ≡ DialogueRecord.Begin t b i ∷ words_to p outs = rw (node, is) (grind (arith, nat_tests)) in
    subst (λ (ws : List DialogueRecord). IsBegunIn t b ws) (sym words) (inl (refl, refl))
sent_begun t p (Out.Send c (PeerRecord.OnAssoc z w n r) ∷ outs) a x y q b i at (inr s) = more (c.node == p) (sent_begun t p outs a x y q b i at s)
  where
    more : (v : Bool) → IsBegunIn t b (words_to p outs) → IsBegunIn t b (only_words (if v then r ∷ said_to p outs else said_to p outs))
    more false h = h
    more true h = subst (λ (ws : List DialogueRecord). IsBegunIn t b ws) (sym (words_append (r ∷ []) (said_to p outs))) (begun_more t b (only_words (r ∷ [])) (words_to p outs) h)
sent_begun t p (Out.Send c (PeerRecord.OpenAssoc z u) ∷ outs) a x y q b i at (inr s) = sent_begun t p outs a x y q b i at s
sent_begun t p (Out.Send c (PeerRecord.AcceptAssoc z w u) ∷ outs) a x y q b i at (inr s) = sent_begun t p outs a x y q b i at s
sent_begun t p (Out.Send c (PeerRecord.ShutAssoc z w) ∷ outs) a x y q b i at (inr s) = sent_begun t p outs a x y q b i at s
sent_begun t p (Out.Send c (PeerRecord.RecReady z w) ∷ outs) a x y q b i at (inr s) = sent_begun t p outs a x y q b i at s
sent_begun t p (Out.Send c (PeerRecord.RecCommit z w) ∷ outs) a x y q b i at (inr s) = sent_begun t p outs a x y q b i at s
sent_begun t p (Out.Send c (PeerRecord.RecReply z w v) ∷ outs) a x y q b i at (inr s) = sent_begun t p outs a x y q b i at s
sent_begun t p (Out.Send c (PeerRecord.Forget z w) ∷ outs) a x y q b i at (inr s) = sent_begun t p outs a x y q b i at s
sent_begun t p _ a x y q b i at (inl s) = absurd (cc (s.1))

-- ---- no branch is counted, and none will be

abbrev IsUncounted : Digest → Type 0
IsUncounted d = (is_active (phase_of d) ≡ false) × ((q : ℕ) (j : BranchKey) → Marked counted_of d.current q j → ⊥)

crashed_phase : (o : Option Current) → is_active (elim (recovered_current o) as (λ _. Phase) [ None ↦ Phase.Nil | Some c ↦ c.phase ]) ≡ false
crashed_phase None = refl
crashed_phase (Some c) = grind arith

crashed_marks : (o : Option Current) (q : ℕ) (j : BranchKey) → Marked counted_of (recovered_current o) q j → ⊥
crashed_marks None q j m = cc (m.at)
crashed_marks (Some c) q j m =
    let at : recovered_current (Some c) ≡ Some m.current = m.at in
    let same : named_again c.branches ≡ m.current.branches = grind (arith, at) in
    none_again counted_of counts_mark.fresh c.branches q m.branch (ap (λ (bs : List Branch). find_branch bs q) same ∙ m.found) m.is

current_phase : (d e : Digest) → d.current ≡ e.current → is_active (phase_of d) ≡ is_active (phase_of e)
current_phase d e h = ap (λ (o : Option Current). is_active (elim o as (λ _. Phase) [ None ↦ Phase.Nil | Some c ↦ c.phase ])) h

past_active : (p q : Phase) → (is_active q ≡ true → is_active p ≡ true) → is_active p ≡ false → is_active q ≡ false
past_active p q back h = go (is_active q) refl
  where
    go : (v : Bool) → is_active q ≡ v → is_active q ≡ false
    go false i = i
    go true i = absurd (cc (h, back i))

-- ---- a branch that was begun stands with its peer as long as the tree is current, or nothing is counted

abbrev StandsOr : Digest → ℕ → Aaid → BranchId → Type 0
StandsOr d p t b = (key_at d.current p ≡ Some (t, b)) ⊎ IsUncounted d

sent_key : (o : Origin) (up : Option Addr) (h : List Entry) (a : Addr) (x y : Mark) (q : ℕ) (t : Aaid) (b : BranchId) (i : Holder) → o.start.records ≡ [] → IsGrown o up h → IsOnce o h
    → HasSent h a (PeerRecord.OnAssoc x y q (DialogueRecord.Begin t b i)) → is_now t (digest o h).current ≡ true → StandsOr (digest o h) a.node t b
sent_key o up [] a x y q t b i empty legal once s n = absurd s
sent_key o up (e ∷ h) a x y q t b i empty legal once s n = go s (sent_key o up h a x y q t b i empty legal.3 once.1)
  where
    d : Digest
    d = digest o h

    w : Digest
    w = prelude o.who d e.event

    late : IsLate w
    late = late_prelude o.who d e.event (late_law o up h legal.3)

    k : IsTreed o.who w true t a.node w (action o.who d e.event)
    k = treed_event o.who d e.event t a.node (late_law o up h legal.3) legal.0

    old : IsOld o.who t w
    old = prelude_old o up e h t empty legal once

    stays : key_at w.current a.node ≡ Some (t, b) → StandsOr (digest o (e ∷ h)) a.node t b
    stays v = inl (k.ids b late old n (inr v))

    later : is_now t w.current ≡ true → IsUncounted w → StandsOr (digest o (e ∷ h)) a.node t b
    later m u = inr (past_active (phase_of w) (phase_of (digest o (e ∷ h))) (was_active (phase_of w) (phase_of (digest o (e ∷ h))) (k.moves late old m n)) u.0, λ v j c. marked v j c)
      where
        marked : (v : ℕ) (j : BranchKey) → Marked counted_of (digest o (e ∷ h)).current v j → ⊥
        marked v j c = elim (marking_event o.who d e.event counted_of may_count counts_mark (late_law o up h legal.3) legal.0 v j c) [
          | inl c ↦ u.1 v j c
          | inr c ↦ sets c
        ]
          where
            sets : MayMark o.who e.event w may_count v j → ⊥
            sets c =
                let word = counts_word c.event (seen o.who c.arcs c.current) v c.sets in
                let may : may_count (TxEvent.Took v DialogueRecord.Ready) (seen o.who c.arcs c.current) v ≡ true = ap (λ (f : TxEvent). may_count f (seen o.who c.arcs c.current) v) (sym word) ∙ c.sets in
                let act : is_active c.current.phase ≡ true = grind (arith, may) in
                cc (u.0, ap is_active (phase_at w c.current c.at) ∙ act)

    go : IsSentIn e.outs a (PeerRecord.OnAssoc x y q (DialogueRecord.Begin t b i)) ⊎ HasSent h a (PeerRecord.OnAssoc x y q (DialogueRecord.Begin t b i))
        → (HasSent h a (PeerRecord.OnAssoc x y q (DialogueRecord.Begin t b i)) → is_now t d.current ≡ true → StandsOr d a.node t b)
        → StandsOr (digest o (e ∷ h)) a.node t b
    go (inl s) rest =
        let outs : IsSentIn (action o.who d e.event).outs a (PeerRecord.OnAssoc x y q (DialogueRecord.Begin t b i)) = subst (λ (f : Entry). IsSentIn f.outs a (PeerRecord.OnAssoc x y q (DialogueRecord.Begin t b i))) (sym legal.1) s in
        inl (k.ids b late old n (inl (sent_begun t a.node (action o.who d e.event).outs a x y q b i refl outs)))
    go (inr s) rest =
        let known = sent_known o up h a x y q t b i empty legal.3 s in
        at (now_then o up e h t empty legal once known n) (came_by o.who d e.event legal.0) (mid known)
      where
        mid : is_known o t h ≡ true → is_now t w.current ≡ true
        mid known = elim (k.enters late n) [
          | inl j ↦ j
          | inr z ↦ absurd (drawn_new o.who w (action o.who d e.event).next t z (old_prelude o.who d e.event t.mark (known_old o h t once.1 known)))
        ]

        at : is_now t d.current ≡ true → Came o.who d e.event → is_now t w.current ≡ true → StandsOr (digest o (e ∷ h)) a.node t b
        at before (As_it_was cur) m = elim (rest s before) [
          | inl v ↦ stays (ap (λ (u : Option Current). key_at u a.node) cur ∙ v)
          | inr u ↦ later m (current_phase w d cur ∙ u.0, λ v j c. u.1 v j (marked_same counted_of w.current d.current v j cur c))
        ]
        at before (By_begin from z v r u c j g is found cur nil above) m = absurd (cc (before, nil_now d t (late_law o up h legal.3) nil))
        at before (By_crash is cur) m =
            later m (ap (λ (u : Option Current). is_active (elim u as (λ _. Phase) [ None ↦ Phase.Nil | Some c ↦ c.phase ])) cur ∙ crashed_phase d.current, λ v j c. crashed_marks d.current v j (marked_same counted_of w.current (recovered_current d.current) v j cur c))

-- ---- which branch is counted

-- one that stands apart has neither the number nor the identifier of another
apart_id : (c : Child) (bs : List Branch) (b : BranchId) → is_apart c (kin bs) ≡ true → is_branch c.branch b ≡ true → is_counted_in b bs ≡ true → ⊥
apart_id c [] b h same i = cc (i)
apart_id c (x ∷ bs) b h same i = elim (or_case (is_branch b x.id && x.counted) (is_counted_in b bs) i) [
  | inl j ↦
      (let one = branches_equal c.branch b same in
      let two : is_branch c.branch x.id ≡ true = ap (λ (z : BranchId). is_branch z x.id) one ∙ and_left (is_branch b x.id) x.counted j in
      absurd (grind (arith, h, two)))
  | inr j ↦ apart_id c bs b (grind (arith, h)) same j
]

apart_found : (c : Child) (bs : List Branch) (p : ℕ) (v : Branch) → is_apart c (kin bs) ≡ true → find_branch bs p ≡ Some v → is_branch c.branch v.id ≡ true → ⊥
apart_found c [] p v h f same = cc (f)
apart_found c (x ∷ bs) p v h f same = go (x.peer.node == p) refl (λ i j. apart_found c bs p v i j same)
  where
    go : (k : Bool) → (x.peer.node == p) ≡ k → (is_apart c (kin bs) ≡ true → find_branch bs p ≡ Some v → ⊥) → ⊥
    go true i rest =
        let one : Some x ≡ Some v = rw i at f in
        let eq : x ≡ v = cc (one) in
        let two : is_branch c.branch x.id ≡ true = ap (λ (y : Branch). is_branch c.branch y.id) eq ∙ same in
        absurd (grind (arith, h, two))
    go false i rest = rest (grind (arith, h)) (rw i at f)

pub apart_peer : (c : Child) (bs : List Branch) (p : ℕ) (v : Branch) → is_apart c (kin bs) ≡ true → find_branch bs p ≡ Some v → (c.addr.node == p) ≡ true → ⊥
apart_peer c [] p v h f same = cc (f)
apart_peer c (x ∷ bs) p v h f same = go (x.peer.node == p) refl (λ i j. apart_peer c bs p v i j same)
  where
    go : (k : Bool) → (x.peer.node == p) ≡ k → (is_apart c (kin bs) ≡ true → find_branch bs p ≡ Some v → ⊥) → ⊥
    go true i rest = absurd (grind (arith, nat_tests, h, same, i))
    go false i rest = rest (grind (arith, h)) (rw i at f)

counted_at : (bs : List Branch) (p : ℕ) (v : Branch) → are_apart (kin bs) ≡ true → find_branch bs p ≡ Some v → is_counted_in v.id bs ≡ true → v.counted ≡ true
counted_at [] p v h f i = absurd (cc (f))
counted_at (x ∷ bs) p v h f i = go (x.peer.node == p) refl (or_case (is_branch v.id x.id && x.counted) (is_counted_in v.id bs) i) (counted_at bs p v)
  where
    apart : is_apart (child_of x) (kin bs) ≡ true
    apart = and_left (is_apart (child_of x) (kin bs)) (are_apart (kin bs)) h

    go : (k : Bool) → (x.peer.node == p) ≡ k → ((is_branch v.id x.id && x.counted) ≡ true) ⊎ (is_counted_in v.id bs ≡ true) → (are_apart (kin bs) ≡ true → find_branch bs p ≡ Some v → is_counted_in v.id bs ≡ true → v.counted ≡ true) → v.counted ≡ true
    go true k c rest =
        let one : Some x ≡ Some v = rw k at f in
        let eq : x ≡ v = cc (one) in
        elim c [
          | inl j ↦ ap (λ (y : Branch). y.counted) (sym eq) ∙ and_right (is_branch v.id x.id) x.counted j
          | inr j ↦ absurd (apart_id (child_of x) bs v.id apart (ap (λ (y : Branch). is_branch x.id y.id) (sym eq) ∙ branch_same x.id) j)
        ]
    go false k (inr j) rest = rest (and_right (is_apart (child_of x) (kin bs)) (are_apart (kin bs)) h) (rw k at f) j
    go false k (inl j) rest =
        let same : v.id ≡ x.id = branches_equal v.id x.id (and_left (is_branch v.id x.id) x.counted j) in
        absurd (apart_found (child_of x) bs p v apart (rw k at f) (ap (is_branch x.id) same ∙ branch_same x.id))

-- it stands with its peer
counted_some : (b : BranchId) (bs : List Branch) → are_apart (kin bs) ≡ true → is_counted_in b bs ≡ true → (p : ℕ) × (v : Branch) × (find_branch bs p ≡ Some v) × (v.counted ≡ true)
counted_some b [] h i = absurd (cc (i))
counted_some b (x ∷ bs) h i = go (or_case (is_branch b x.id && x.counted) (is_counted_in b bs) i) (counted_some b bs (and_right (is_apart (child_of x) (kin bs)) (are_apart (kin bs)) h))
  where
    Is : Type 0
    Is = (p : ℕ) × (v : Branch) × (find_branch (x ∷ bs) p ≡ Some v) × (v.counted ≡ true)

    go : ((is_branch b x.id && x.counted) ≡ true) ⊎ (is_counted_in b bs ≡ true) → (is_counted_in b bs ≡ true → (p : ℕ) × (v : Branch) × (find_branch bs p ≡ Some v) × (v.counted ≡ true)) → (p : ℕ) × (v : Branch) × (find_branch (x ∷ bs) p ≡ Some v) × (v.counted ≡ true)
    go (inl j) rest = let self : (x.peer.node == x.peer.node) ≡ true = grind (arith, nat_tests) in (x.peer.node, x, rw self refl, and_right (is_branch b x.id) x.counted j)
    go (inr j) rest = let r = rest j in on r (x.peer.node == r.0) refl
      where
        on : (r : (p : ℕ) × (v : Branch) × (find_branch bs p ≡ Some v) × (v.counted ≡ true)) (k : Bool) → (x.peer.node == r.0) ≡ k → (p : ℕ) × (v : Branch) × (find_branch (x ∷ bs) p ≡ Some v) × (v.counted ≡ true)
        on r true k = absurd (apart_peer (child_of x) bs r.0 r.1 (and_left (is_apart (child_of x) (kin bs)) (are_apart (kin bs)) h) r.2 k)
        on r false k = (r.0, r.1, rw k (r.2), r.3)

-- ---- every run

record Counts (t : Aaid) (b : BranchId) (x : Node) : Type 0 where
  current : Current
  at : (digest x.origin x.history).current ≡ Some current
  now : is_now t (Some current) ≡ true
  counted : is_counted_in b current.branches ≡ true

counts_of : (t : Aaid) (b : BranchId) (x : Node) → is_counted t b x ≡ true → Counts t b x
counts_of t b x h = go (digest x.origin x.history).current refl h
  where
    go : (o : Option Current) → (digest x.origin x.history).current ≡ o → elim o as (λ _. Bool) [ None ↦ false | Some c ↦ is_now t (Some c) && is_counted_in b c.branches ] ≡ true → Counts t b x
    go None i k = absurd (cc (k))
    go (Some c) i k = record { current = c; at = i; now = and_left (is_now t (Some c)) (is_counted_in b c.branches) k; counted = and_right (is_now t (Some c)) (is_counted_in b c.branches) k }

pub counted_is_logged : (es : List Happening) (t : Aaid) (b : BranchId) (x y : Node) → IsBranchOf (run es) t b x y → is_counted t b x ≡ true → has_logged (is_ready_rec t b) y ≡ true
counted_is_logged es t b x y branch counted =
    ready_logged (t, b) (records y.origin y.history)
    ((accounts_of x.origin x.superior (number_of y) (deeds_of y.origin y.history) (records y.origin y.history) x.history (below_run es x y branch.superior.here branch.child.here (branch_above es t b x y branch))).counted (t, b) marked)
  where
    empty : x.origin.start.records ≡ []
    empty = (good_run es).fresh (number_of x) x branch.superior.here

    legal : IsGrown x.origin x.superior x.history
    legal = (good_run es).legal (number_of x) x branch.superior.here

    c : Counts t b x
    c = counts_of t b x counted

    apart : are_apart (kin c.current.branches) ≡ true
    apart = spread_at x.origin x.superior x.history empty legal c.current c.at

    some : Marked counted_of (digest x.origin x.history).current (counted_some b c.current.branches apart c.counted).0 (aaid_of c.current.key, (counted_some b c.current.branches apart c.counted).1.id)
    some = let w = counted_some b c.current.branches apart c.counted in record { current = c.current; branch = w.1; at = c.at; found = w.2; is = w.3; key = refl }

    stands : StandsOr (digest x.origin x.history) (number_of y) t b
    stands =
        let s = branch_sent es t b x y branch in
        subst (λ (n : ℕ). StandsOr (digest x.origin x.history) n t b) s.at (sent_key x.origin x.superior x.history s.to s.x_mark s.y_mark s.seq t b s.holder empty legal ((tied_run es).unique.once (number_of x) x branch.superior.here) s.sent (ap (is_now t) c.at ∙ c.now))

    marked : Marked counted_of (digest x.origin x.history).current (number_of y) (t, b)
    marked = elim stands [
      | inr u ↦ absurd (u.1 _ _ some)
      | inl k ↦
          (let v = key_branch c.current (number_of y) (t, b) (ap (λ (o : Option Current). key_at o (number_of y)) (sym c.at) ∙ k) in
          let id : b ≡ v.0.id = ap (λ (j : BranchKey). j.1) v.2 in
          record { current = c.current; branch = v.0; at = c.at; found = v.1; is = counted_at c.current.branches (number_of y) v.0 apart v.1 (ap (λ (i : BranchId). is_counted_in i c.current.branches) (sym id) ∙ c.counted); key = v.2 })
    ]

pub rolled_is_uncounted : (es : List Happening) (t : Aaid) (b : BranchId) (x y : Node) → IsBranchOf (run es) t b x y → has_logged (is_ready_rec t b) y ≡ false → rolled y.origin t y.history ≡ true → is_counted t b x ≡ false
rolled_is_uncounted es t b x y branch none r = go (is_counted t b x) refl
  where
    go : (v : Bool) → is_counted t b x ≡ v → is_counted t b x ≡ false
    go false i = i
    go true i = absurd (cc (none, counted_is_logged es t b x y branch i))
