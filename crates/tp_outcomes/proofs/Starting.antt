-- In every legal history, a node starts a tree at most once, and the trees that it starts are those of its own that it is in.
use Rattle.std.proofs.Common.{if◌then◌else◌, ◌≡◌, ◌≤◌, ◌⊎◌, inl, inr, ℕ, zero, suc, Bool, true, false, refl, ap, sym, subst, ◌∙◌, arith, Option, Some, None, List, [], ◌∷◌, ◌++◌, ◌+◌, ◌||◌, ◌==◌}
use Rattle.std.proofs.lemmas.Bool.Decides.{nat_tests}
use Rattle.tp_names.specs.declared.identifiers.Aaid.{Aaid}
use Rattle.tp_names.specs.declared.identifiers.BranchId.{BranchId}
use Rattle.tp_names.specs.declared.identifiers.Addr.{Addr}
use Rattle.tp_names.specs.Same.{is_aaid}
use Rattle.tp_records.specs.declared.dialogue.DialogueRecord.{DialogueRecord}
use Rattle.tp_records.specs.declared.peer.PeerRecord.{PeerRecord}
use Rattle.tp_model.specs.Parts.{Who, Origin, Event, Entry, Arc, Key, Root, Under, Current, Digest}
use Rattle.tp_model.specs.Dialogues.{is_ready, is_committing}
use Rattle.tp_model.specs.Transactions.{aaid_of}
use Rattle.tp_model.specs.Node.{Move, fresh_current}
use Rattle.tp_model.specs.Arcs.{find_arc}
use Rattle.tp_model.specs.Events.{refusal, recovered_current, action}
use Rattle.tp_model.specs.History.{digest}
use Rattle.tp_model.specs.Legal.{IsLegal, IsGrown}
use Rattle.tp_model.specs.Questions.{is_crash}
use Rattle.tp_model.specs.Outcomes.{is_now, is_member, is_unchanged, rolls, root_started}
use Rattle.tp_model.specs.Happenings.{trees_of}
use Rattle.tp_steps.specs.Moves.{prelude, begun_in, counted_in, IsLate}
use Rattle.tp_steps.specs.Trees.{IsDrawn, IsTreed}
use Rattle.tp_histories.specs.Members.{is_own, is_known, is_begun_by, has_taken_begin, IsOnce}
use Rattle.tp_outcomes.specs.Starting.{starts, times_in}
use Rattle.tp_steps.proofs.every.Course.{tree_at, Course, Free, Held, Closed, Grew, Rooted}
use Rattle.tp_steps.proofs.words.Treed.{now_some, drawn_new}
use Rattle.tp_steps.proofs.words.Leaves.{aaid_same}
use Rattle.tp_steps.proofs.lemmas.Equality.{aaids_equal, or_case}
use Rattle.tp_steps.proofs.lemmas.Options.{some_same}
use Rattle.tp_histories.proofs.trees.Late.{late_law, late_prelude}
use Rattle.tp_histories.proofs.trees.Knowing.{treed_event, old_prelude, now_prelude, now_known, known_more, current_none, begin_arc}
use Rattle.tp_histories.proofs.trees.Entered.{Entered, Crashed, Begun, Plain, entered}
use Rattle.tp_histories.proofs.worlds.TreeMembers.{known_old}
use Rattle.tp_runs.proofs.KnownForgot.{before_it}
use Rattle.tp_runs.proofs.KnownKeys.{course_entry, crash_next}
use Rattle.tp_runs.proofs.RootTrees.{tree_drawn}
use Rattle.tp_runs.proofs.Hanging.{member_head, staying_event}
use Rattle.tp_agreement.proofs.Logs.{later_member}

-- ---- counting

pub times_append : (t : Aaid) (us vs : List Aaid) → times_in t (us ++ vs) ≡ times_in t us + times_in t vs
times_append t [] vs = zero_left (times_in t vs)
  where
    zero_left : (n : ℕ) → n ≡ 0 + n
    zero_left n = omega arith
times_append t (u ∷ us) vs = go (is_aaid t u) (times_append t us vs)
  where
    one_more : (n a b : ℕ) → n ≡ a + b → suc n ≡ suc a + b
    one_more n a b h = omega (arith, h)

    go : (b : Bool) → times_in t (us ++ vs) ≡ times_in t us + times_in t vs → elim b as (λ _. ℕ) [ true ↦ suc (times_in t (us ++ vs)) | false ↦ times_in t (us ++ vs) ] ≡ elim b as (λ _. ℕ) [ true ↦ suc (times_in t us) | false ↦ times_in t us ] + times_in t vs
    go true rest = one_more (times_in t (us ++ vs)) (times_in t us) (times_in t vs) rest
    go false rest = rest

pub one_time : (t u : Aaid) (b : Bool) → is_aaid t u ≡ b → times_in t (trees_of (Some u)) ≡ elim b as (λ _. ℕ) [ true ↦ 1 | false ↦ 0 ]
one_time t u b i = ap (λ (v : Bool). elim v as (λ _. ℕ) [ true ↦ 1 | false ↦ 0 ]) i

-- ---- what starts was not current, and is drawn

pub started_parts : (d e : Digest) (t : Aaid) → root_started d e ≡ Some t → (c : Current) × (e.current ≡ Some c) × (c.key ≡ Root t) × (is_now t d.current ≡ false)
started_parts d e t h = go e.current refl
  where
    none : (u : Aaid) → (if is_now u d.current then None else Some u) ≡ Some t → (b : Bool) → is_now u d.current ≡ b → (u ≡ t) × (is_now u d.current ≡ false)
    none u i false j = (some_same u t (sym (ap (λ (b : Bool). if b then None else Some u) j) ∙ i), j)
    none u i true j = absurd (let off : None ≡ Some t = sym (ap (λ (b : Bool). if b then None else Some u) j) ∙ i in cc (off))

    on : (c : Current) → e.current ≡ Some c → (k : Key) → c.key ≡ k → (c : Current) × (e.current ≡ Some c) × (c.key ≡ Root t) × (is_now t d.current ≡ false)
    on c i (Root u) j =
        let made : root_started d e ≡ (if is_now u d.current then None else Some u) = rw (i, j, root_started) refl in
        let p = none u (sym made ∙ h) (is_now u d.current) refl in
        (c, i, j ∙ ap (λ (v : Aaid). Root v) p.0, ap (λ (v : Aaid). is_now v d.current) (sym p.0) ∙ p.1)
    on c i (Under u b a) j = absurd (let made : root_started d e ≡ None = rw (i, j, root_started) refl in cc (made, h))

    go : (o : Option Current) → e.current ≡ o → (c : Current) × (e.current ≡ Some c) × (c.key ≡ Root t) × (is_now t d.current ≡ false)
    go None i = absurd (let made : root_started d e ≡ None = rw (i, root_started) refl in cc (made, h))
    go (Some c) i = on c i c.key refl

-- in an entry that starts it
pub record IsStarted (o : Origin) (e : Entry) (h : List Entry) (t : Aaid) : Type 0 where
  pub drawn : IsDrawn o.who (prelude o.who (digest o h) e.event) (digest o (e ∷ h)) t
  pub now : is_now t (digest o (e ∷ h)).current ≡ true
  pub before : is_now t (digest o h).current ≡ false

pub recovered_now : (t : Aaid) (v : Option Current) (c : Current) → recovered_current v ≡ Some c → c.key ≡ Root t → is_now t v ≡ true
recovered_now t None c h k = absurd (cc (h))
recovered_now t (Some x) c h k = go (is_ready x.phase || is_committing x.phase) refl
  where
    go : (b : Bool) → (is_ready x.phase || is_committing x.phase) ≡ b → is_aaid t (aaid_of x.key) ≡ true
    go true i = let same : x.key ≡ Root t = grind (arith, h, i, k) in ap (λ (j : Key). is_aaid t (aaid_of j)) same ∙ aaid_same t
    go false i = absurd (grind (arith, h, i))

pub root_now : (t : Aaid) (v : Option Current) (c : Current) → v ≡ Some c → c.key ≡ Root t → is_now t v ≡ true
root_now t v c i k = ap (is_now t) i ∙ ap (λ (j : Key). is_aaid t (aaid_of j)) k ∙ aaid_same t

pub is_started : (o : Origin) (up : Option Addr) (e : Entry) (h : List Entry) (t : Aaid) → IsLegal o up (e ∷ h) → root_started (digest o h) (digest o (e ∷ h)) ≡ Some t → IsStarted o e h t
is_started o up e h t legal start = go (entered o e h legal.grown.0)
  where
    d : Digest
    d = digest o h

    s : Digest
    s = prelude o.who d e.event

    m : Move
    m = action o.who d e.event

    p : (c : Current) × (m.next.current ≡ Some c) × (c.key ≡ Root t) × (is_now t d.current ≡ false)
    p = started_parts d m.next t start

    root : (u : Current) → m.next.current ≡ Some u → u.key ≡ Root t
    root u i = ap (λ (v : Current). v.key) (some_same u p.0 (sym i ∙ p.1)) ∙ p.2

    not_now : is_now t d.current ≡ true → ⊥
    not_now n = cc (n, p.3)

    none_now : m.next.current ≡ None → ⊥
    none_now i = let off : None ≡ Some p.0 = sym i ∙ p.1 in cc (off)

    made : (u : Current) → m.next.current ≡ Some u → u.key ≡ Root (tree_at o.who s.boot s.drawn) → suc s.drawn ≤ m.next.drawn → IsStarted o e h t
    made u i key dr = record { drawn = tree_drawn o.who s m.next t (sym (root u i) ∙ key) dr; now = root_now t m.next.current p.0 p.1 p.2; before = p.3 }

    by_course : ((x : Current) → s.current ≡ Some x → x.key ≡ Root t → ⊥) → Course o.who (rolls o.who d e.event) (is_unchanged e.event) s.drawn s.current s.boot s.drawn m → IsStarted o e h t
    by_course never (Free i j f dr tl) = absurd (none_now j)
    by_course never (Held x u i j key st hm f dr kn) = absurd (never x i (sym key ∙ root u j))
    by_course never (Closed x i j st at f dr) = absurd (none_now j)
    by_course never (Grew x u b i j key act l f cn dr kn) = absurd (never x i (sym key ∙ root u j))
    by_course never (Rooted u j key act f dr kn was) = made u j key dr

    not_under : (k : Key) (u : Aaid) (b : BranchId) (a : Addr) → k ≡ Under u b a → k ≡ Root t → ⊥
    not_under k u b a i j = cc (i, j)

    go : Entered o e h → IsStarted o e h t
    go (Crashed i) = absurd (not_now (recovered_now t d.current p.0 (sym (crash_next o e h (ap is_crash i)) ∙ p.1) p.2))
    go (Begun from r b a begun calm cur nil quiet sent) =
        by_course (λ x i k. not_under x.key r b a.peer (ap (λ (z : Current). z.key) (sym (some_same (fresh_current (Under r b a.peer)) x (sym cur ∙ i)))) k) (course_entry o up e h legal)
    go (Plain calm begun same) = by_course (λ x i k. not_now (root_now t d.current x (sym same ∙ i) k)) (course_entry o up e h legal)

-- it is the node's own
pub started_own : (o : Origin) (e : Entry) (h : List Entry) (t : Aaid) → IsStarted o e h t → t.mark.node ≡ o.who.node
started_own o e h t s = ap (λ (u : Aaid). u.mark.node) s.drawn.is

-- ---- a tree is started once

member_known : (o : Origin) (up : Option Addr) (h : List Entry) (t : Aaid) → o.start.records ≡ [] → IsGrown o up h → is_member o t h ≡ true → is_known o t h ≡ true
member_known o up [] t empty legal m = now_known o up [] t empty legal m
member_known o up (e ∷ h) t empty legal m = elim (or_case (is_now t (digest o (e ∷ h)).current) (is_member o t h) m) [
  | inl n ↦ now_known o up (e ∷ h) t empty legal n
  | inr i ↦ known_more o up e h t legal (member_known o up h t empty legal.3 i)
]

-- what a node was in before is not started
new_start : (o : Origin) (up : Option Addr) (e : Entry) (h : List Entry) (t : Aaid) → o.start.records ≡ [] → IsGrown o up (e ∷ h) → IsOnce o (e ∷ h) → is_member o t h ≡ true → IsStarted o e h t → ⊥
new_start o up e h t empty legal once m s =
    drawn_new o.who (prelude o.who (digest o h) e.event) (digest o (e ∷ h)) t s.drawn
    (old_prelude o.who (digest o h) e.event t.mark (known_old o h t once.1 (member_known o up h t empty legal.3 m)))

-- the tree that an entry starts, if it starts one
data Starts (o : Origin) (e : Entry) (h : List Entry) : Type 0 where
  None_starts : root_started (digest o h) (digest o (e ∷ h)) ≡ None → Starts o e h
  One_starts : (t : Aaid) → root_started (digest o h) (digest o (e ∷ h)) ≡ Some t → Starts o e h

starts_case : (o : Origin) (e : Entry) (h : List Entry) → Starts o e h
starts_case o e h = go (root_started (digest o h) (digest o (e ∷ h))) refl
  where
    go : (v : Option Aaid) → root_started (digest o h) (digest o (e ∷ h)) ≡ v → Starts o e h
    go None i = None_starts i
    go (Some t) i = One_starts t i

none_more : (o : Origin) (e : Entry) (h : List Entry) (t : Aaid) → root_started (digest o h) (digest o (e ∷ h)) ≡ None → times_in t (starts o (e ∷ h)) ≡ times_in t (starts o h)
none_more o e h t i =
    times_append t (starts o h) (trees_of (root_started (digest o h) (digest o (e ∷ h)))) ∙ ap (λ (v : Option Aaid). times_in t (starts o h) + times_in t (trees_of v)) i ∙ zero_right (times_in t (starts o h))
  where
    zero_right : (n : ℕ) → n + 0 ≡ n
    zero_right n = omega arith

some_more : (o : Origin) (e : Entry) (h : List Entry) (t u : Aaid) (b : Bool) → root_started (digest o h) (digest o (e ∷ h)) ≡ Some u → is_aaid t u ≡ b
    → times_in t (starts o (e ∷ h)) ≡ times_in t (starts o h) + elim b as (λ _. ℕ) [ true ↦ 1 | false ↦ 0 ]
some_more o e h t u b i j =
    times_append t (starts o h) (trees_of (root_started (digest o h) (digest o (e ∷ h)))) ∙ ap (λ (v : Option Aaid). times_in t (starts o h) + times_in t (trees_of v)) i
    ∙ ap (λ (n : ℕ). times_in t (starts o h) + n) (one_time t u b j)

pub start_member : (o : Origin) (up : Option Addr) (h : List Entry) (t : Aaid) → IsLegal o up h → suc 0 ≤ times_in t (starts o h) → is_member o t h ≡ true
start_member o up [] t legal n = absurd (omega (arith, n))
start_member o up (e ∷ h) t legal n = go (starts_case o e h) (start_member o up h t (before_it o up e h legal))
  where
    go : Starts o e h → (suc 0 ≤ times_in t (starts o h) → is_member o t h ≡ true) → is_member o t (e ∷ h) ≡ true
    go (None_starts i) rest = later_member o t e h (rest (subst (λ (k : ℕ). suc 0 ≤ k) (none_more o e h t i) n))
    go (One_starts u i) rest = on (is_aaid t u) refl
      where
        on : (b : Bool) → is_aaid t u ≡ b → is_member o t (e ∷ h) ≡ true
        on true j =
            let same : t ≡ u = aaids_equal t u j in
            member_head o t (e ∷ h) (ap (λ (v : Aaid). is_now v (digest o (e ∷ h)).current) same ∙ (is_started o up e h u legal i).now)
        on false j = later_member o t e h (rest (less (times_in t (starts o h)) (times_in t (starts o (e ∷ h))) (some_more o e h t u false i j) n))
          where
            less : (a b : ℕ) → b ≡ a + 0 → suc 0 ≤ b → suc 0 ≤ a
            less a b k l = omega (arith, k, l)

pub start_once : (o : Origin) (up : Option Addr) (h : List Entry) (t : Aaid) → o.start.records ≡ [] → IsLegal o up h → IsOnce o h → times_in t (starts o h) ≤ 1
start_once o up [] t empty legal once = omega arith
start_once o up (e ∷ h) t empty legal once = go (starts_case o e h) (start_once o up h t empty (before_it o up e h legal) once.1)
  where
    go : Starts o e h → times_in t (starts o h) ≤ 1 → times_in t (starts o (e ∷ h)) ≤ 1
    go (None_starts i) le = subst (λ (k : ℕ). k ≤ 1) (sym (none_more o e h t i)) le
    go (One_starts u i) le = on (is_aaid t u) refl (times_in t (starts o h)) refl
      where
        add : (a b c : ℕ) → b ≡ a + c → a + c ≤ 1 → b ≤ 1
        add a b c k l = omega (arith, k, l)

        on : (b : Bool) → is_aaid t u ≡ b → (n : ℕ) → times_in t (starts o h) ≡ n → times_in t (starts o (e ∷ h)) ≤ 1
        on false j n at = add (times_in t (starts o h)) (times_in t (starts o (e ∷ h))) 0 (some_more o e h t u false i j) (keep (times_in t (starts o h)) le)
          where
            keep : (a : ℕ) → a ≤ 1 → a + 0 ≤ 1
            keep a k = omega (arith, k)
        on true j zero at = add (times_in t (starts o h)) (times_in t (starts o (e ∷ h))) 1 (some_more o e h t u true i j) (fit (times_in t (starts o h)) at)
          where
            fit : (a : ℕ) → a ≡ 0 → a + 1 ≤ 1
            fit a k = omega (arith, k)
        on true j (suc n) at =
            let same : u ≡ t = sym (aaids_equal t u j) in
            let m : is_member o t h ≡ true = start_member o up h t (before_it o up e h legal) (subst (λ (k : ℕ). suc 0 ≤ k) (sym at) (omega arith)) in
            absurd (new_start o up e h t empty legal.grown once m (is_started o up e h t legal (i ∙ ap (λ (v : Aaid). Some v) same)))

-- a tree of its own in which a node is was started by it
pub own_start : (o : Origin) (up : Option Addr) (h : List Entry) (t : Aaid) → o.start.records ≡ [] → IsLegal o up h → IsOnce o h → is_member o t h ≡ true → (has_taken_begin t h ≡ true) ⊎ (suc 0 ≤ times_in t (starts o h))
own_start o up [] t empty legal once m = absurd (cc (ap (is_now t) (current_none o empty), m))
own_start o up (e ∷ h) t empty legal once m = go (starts_case o e h) (or_case (is_now t next.current) (is_member o t h) m) (own_start o up h t empty (before_it o up e h legal) once.1)
  where
    d : Digest
    d = digest o h

    s : Digest
    s = prelude o.who d e.event

    next : Digest
    next = digest o (e ∷ h)

    begun : has_taken_begin t h ≡ true → has_taken_begin t (e ∷ h) ≡ true
    begun i = rw i (grind arith)

    begun_now : is_begun_by t e.event ≡ true → has_taken_begin t (e ∷ h) ≡ true
    begun_now i = rw i refl

    more : suc 0 ≤ times_in t (starts o h) → suc 0 ≤ times_in t (starts o (e ∷ h))
    more n = wider (times_in t (starts o h)) (times_in t (trees_of (root_started d next))) (times_in t (starts o (e ∷ h))) (times_append t (starts o h) (trees_of (root_started d next))) n
      where
        wider : (a b c : ℕ) → c ≡ a + b → suc 0 ≤ a → suc 0 ≤ c
        wider a b c k l = omega (arith, k, l)

    older : (has_taken_begin t h ≡ true) ⊎ (suc 0 ≤ times_in t (starts o h)) → (has_taken_begin t (e ∷ h) ≡ true) ⊎ (suc 0 ≤ times_in t (starts o (e ∷ h)))
    older (inl i) = inl (begun i)
    older (inr n) = inr (more n)

    late : IsLate s
    late = late_prelude o.who d e.event (late_law o up h legal.grown.3)

    treed : IsTreed o.who s true t 0 s (action o.who d e.event)
    treed = treed_event o.who d e.event t 0 (late_law o up h legal.grown.3) legal.grown.0

    -- it is current now, and was not before
    fresh : is_now t next.current ≡ true → is_now t d.current ≡ false → (has_taken_begin t (e ∷ h) ≡ true) ⊎ (suc 0 ≤ times_in t (starts o (e ∷ h)))
    fresh n off = elim (treed.enters late n) [
      | inl i ↦ elim (now_prelude o.who d e.event t legal.grown.0 i) [ inl j ↦ absurd (cc (j, off)) | inr j ↦ inl (begun_now j) ]
      | inr x ↦ inr (drawn x)
    ]
      where
        c : (c : Current) × (next.current ≡ Some c) × (is_aaid t (aaid_of c.key) ≡ true)
        c = now_some t next.current n

        no_now : IsDrawn o.who s next t → is_now t s.current ≡ true → ⊥
        no_now x i = elim (now_prelude o.who d e.event t legal.grown.0 i) [
          | inl j ↦ cc (j, off)
          | inr j ↦ (let own : is_own o.who t ≡ true = ap (λ (u : Aaid). u.mark.node == o.who.node) x.is ∙ self o.who.node in cc (own, (once.0 t j).0))
        ]
          where
            self : (k : ℕ) → (k == k) ≡ true
            self k = grind (arith, nat_tests)

        held : IsDrawn o.who s next t → (x u : Current) → s.current ≡ Some x → next.current ≡ Some u → u.key ≡ x.key → ⊥
        held y x u i j key =
            let same : u ≡ c.0 = some_same u c.0 (sym j ∙ c.1) in
            no_now y (ap (is_now t) i ∙ ap (λ (k : Key). is_aaid t (aaid_of k)) (sym key) ∙ ap (λ (v : Current). is_aaid t (aaid_of v.key)) same ∙ c.2)

        rooted : IsDrawn o.who s next t → Course o.who (rolls o.who d e.event) (is_unchanged e.event) s.drawn s.current s.boot s.drawn (action o.who d e.event) → (u : Aaid) × (c.0.key ≡ Root u)
        rooted y (Free i j f dr tl) = absurd (let off : None ≡ Some c.0 = sym j ∙ c.1 in cc (off))
        rooted y (Held x u i j key st hm f dr kn) = absurd (held y x u i j key)
        rooted y (Closed x i j st at f dr) = absurd (let off : None ≡ Some c.0 = sym j ∙ c.1 in cc (off))
        rooted y (Grew x u b i j key act l f cn dr kn) = absurd (held y x u i j key)
        rooted y (Rooted u j key act f dr kn was) = (tree_at o.who s.boot s.drawn, ap (λ (v : Current). v.key) (some_same c.0 u (sym c.1 ∙ j)) ∙ key)

        -- the tree that the root has is the one that is current
        begun_root : (u : Aaid) × (c.0.key ≡ Root u) → suc 0 ≤ times_in t (starts o (e ∷ h))
        begun_root r = last (times_in t (starts o h)) (times_in t (starts o (e ∷ h))) (some_more o e h t t true (made c.0 c.1 (key r)) (aaid_same t))
          where
            key : (r : (u : Aaid) × (c.0.key ≡ Root u)) → c.0.key ≡ Root t
            key r = r.1 ∙ ap (λ (v : Aaid). Root v) (sym (aaids_equal t r.0 (ap (λ (k : Key). is_aaid t (aaid_of k)) (sym r.1) ∙ c.2)))

            made : (x : Current) → next.current ≡ Some x → x.key ≡ Root t → root_started d next ≡ Some t
            made x i k = rw (i, k, off, root_started) refl

            last : (a b : ℕ) → b ≡ a + 1 → suc 0 ≤ b
            last a b k = omega (arith, k)

        drawn : IsDrawn o.who s next t → suc 0 ≤ times_in t (starts o (e ∷ h))
        drawn y = begun_root (rooted y (course_entry o up e h legal))

    go : Starts o e h → (is_now t next.current ≡ true) ⊎ (is_member o t h ≡ true) → (is_member o t h ≡ true → (has_taken_begin t h ≡ true) ⊎ (suc 0 ≤ times_in t (starts o h)))
        → (has_taken_begin t (e ∷ h) ≡ true) ⊎ (suc 0 ≤ times_in t (starts o (e ∷ h)))
    go c (inr i) rest = older (rest i)
    go c (inl n) rest = on (is_now t d.current) refl
      where
        on : (b : Bool) → is_now t d.current ≡ b → (has_taken_begin t (e ∷ h) ≡ true) ⊎ (suc 0 ≤ times_in t (starts o (e ∷ h)))
        on true i = older (rest (member_head o t h i))
        on false i = fresh n i

-- what it started has its site's name and its number
pub start_drew : (o : Origin) (up : Option Addr) (h : List Entry) (t : Aaid) → IsLegal o up h → suc 0 ≤ times_in t (starts o h) → (t.owner ≡ o.who.site) × (t.mark.node ≡ o.who.node)
start_drew o up [] t legal n = absurd (omega (arith, n))
start_drew o up (e ∷ h) t legal n = go (starts_case o e h) (start_drew o up h t (before_it o up e h legal))
  where
    go : Starts o e h → (suc 0 ≤ times_in t (starts o h) → (t.owner ≡ o.who.site) × (t.mark.node ≡ o.who.node)) → (t.owner ≡ o.who.site) × (t.mark.node ≡ o.who.node)
    go (None_starts i) rest = rest (subst (λ (k : ℕ). suc 0 ≤ k) (none_more o e h t i) n)
    go (One_starts u i) rest = on (is_aaid t u) refl
      where
        on : (b : Bool) → is_aaid t u ≡ b → (t.owner ≡ o.who.site) × (t.mark.node ≡ o.who.node)
        on true j =
            let same : t ≡ u = aaids_equal t u j in
            let s = is_started o up e h u legal i in
            (ap (λ (v : Aaid). v.owner) (same ∙ s.drawn.is), ap (λ (v : Aaid). v.mark.node) (same ∙ s.drawn.is))
        on false j = rest (less (times_in t (starts o h)) (times_in t (starts o (e ∷ h))) (some_more o e h t u false i j) n)
          where
            less : (a b : ℕ) → b ≡ a + 0 → suc 0 ≤ b → suc 0 ≤ a
            less a b k l = omega (arith, k, l)

-- where a tree that goes on is no new one, nothing starts
pub none_started : (d e : Digest) → ((c : Current) (t : Aaid) → e.current ≡ Some c → c.key ≡ Root t → is_now t d.current ≡ true) → root_started d e ≡ None
none_started d e same = go (root_started d e) refl
  where
    go : (v : Option Aaid) → root_started d e ≡ v → root_started d e ≡ None
    go None i = i
    go (Some t) i = let p = started_parts d e t i in absurd (cc (same p.0 t p.1 p.2, p.3))

-- ---- a Begin brings the node into the tree

begun_now : (who : Who) (d : Digest) (f : Event) (t : Aaid) → refusal who d f ≡ None → is_begun_by t f ≡ true → is_now t (prelude who d f).current ≡ true
begun_now who d (Event.Arrive from (PeerRecord.OnAssoc x y q (DialogueRecord.Begin u b k))) t ok i = go (find_arc d.arcs from.node) refl
  where
    go : (v : Option Arc) → find_arc d.arcs from.node ≡ v → is_now t (begun_in (find_arc d.arcs from.node) u b (counted_in d from)).current ≡ true
    go None j = absurd (begin_arc who d from x y q u b k ok j)
    go (Some a) j = ap (λ (v : Option Arc). is_now t (begun_in v u b (counted_in d from)).current) j ∙ i
begun_now who d f t ok i = absurd (grind (arith, i))

begun_member : (o : Origin) (up : Option Addr) (e : Entry) (h : List Entry) (t : Aaid) → IsGrown o up (e ∷ h) → is_begun_by t e.event ≡ true → is_now t (digest o (e ∷ h)).current ≡ true
begun_member o up e h t legal b = (staying_event o.who d e.event t 0 (late_law o up h legal.3) legal.0).stays (late_prelude o.who d e.event (late_law o up h legal.3)) (begun_now o.who d e.event t legal.0 b) (inr b)
  where
    d : Digest
    d = digest o h

pub taken_member : (o : Origin) (up : Option Addr) (h : List Entry) (t : Aaid) → IsGrown o up h → has_taken_begin t h ≡ true → is_member o t h ≡ true
taken_member o up [] t legal k = absurd (cc (k))
taken_member o up (e ∷ h) t legal k = elim (or_case (is_begun_by t e.event) (has_taken_begin t h) k) [
  | inl i ↦ member_head o t (e ∷ h) (begun_member o up e h t legal i)
  | inr i ↦ later_member o t e h (taken_member o up h t legal.3 i)
]
