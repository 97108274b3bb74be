-- In every legal history whose log was empty at first, that a node rolled is seen from what is current before and after each entry.
use Rattle.std.proofs.Common.{◌≡◌, ◌≤◌, ◌⊎◌, inl, inr, suc, Bool, true, false, refl, ap, sym, subst, ◌∙◌, Option, Some, None, List, [], ◌∷◌, ◌&&◌, ◌||◌, not}
use Rattle.tp_names.specs.declared.identifiers.Aaid.{Aaid}
use Rattle.tp_names.specs.declared.identifiers.Addr.{Addr}
use Rattle.tp_names.specs.Same.{is_aaid}
use Rattle.tp_records.specs.declared.request.Request.{Request}
use Rattle.tp_model.specs.declared.arc.Phase.{Phase}
use Rattle.tp_model.specs.Parts.{Who, Origin, Event, Entry, Key, Root, Under, Current, Digest}
use Rattle.tp_model.specs.Dialogues.{is_nil, is_active, is_ready, is_rolling}
use Rattle.tp_model.specs.Transactions.{aaid_of}
use Rattle.tp_model.specs.Node.{Move, fresh_current}
use Rattle.tp_model.specs.Events.{recovered_current, action}
use Rattle.tp_model.specs.History.{digest}
use Rattle.tp_model.specs.Legal.{IsLegal}
use Rattle.tp_model.specs.Questions.{is_crash}
use Rattle.tp_model.specs.Outcomes.{is_now, is_unchanged, rolls, is_crash_in_active, rolled}
use Rattle.tp_steps.specs.Moves.{prelude}
use Rattle.tp_steps.specs.Traces.{is_old}
use Rattle.tp_runs.specs.RolledSeen.{is_rolling_at, is_open_at, is_same_end, goes_on, rolls_seen, rolled_seen}
use Rattle.tp_steps.proofs.lemmas.Equality.{aaids_equal, or_case, and_left, and_right}
use Rattle.tp_histories.proofs.trees.Late.{late_law}
use Rattle.tp_steps.proofs.words.Treed.{drawn_new}
use Rattle.tp_histories.proofs.trees.Knowing.{old_prelude, current_none}
use Rattle.tp_steps.proofs.branches.Rolls.{rolls_from, phase_at}
use Rattle.tp_runs.proofs.RollsBy.{down_event}
use Rattle.tp_runs.proofs.KnownForgot.{before_it}
use Rattle.tp_steps.proofs.every.Ending.{pass_over}
use Rattle.tp_steps.proofs.every.Course.{PhaseStep, tree_at, Course, Free, Held, Closed, Grew, Rooted, tells_rolled, some_same, active_flat}
use Rattle.tp_histories.proofs.trees.Entered.{Entered, Crashed, Begun, Plain, entered}
use Rattle.tp_runs.proofs.KnownKeys.{nothing_late, course_entry, crash_next}
use Rattle.tp_runs.proofs.RootTrees.{tree_drawn, root_law}
use Rattle.tp_runs.proofs.SeenEntry.{and_off, open_parts, IsSeen, seen_none, seen_held, seen_over, seen_crash}
use Rattle.std.proofs.lemmas.Bool.{or_left, or_right}

-- ---- every entry

pub rolls_stays : (who : Who) (d : Digest) (e : Event) → rolls who d e ≡ true → is_unchanged e ≡ false
rolls_stays who d (Event.Do Request.Unchanged) h = absurd (cc (h))
rolls_stays who d e h = refl

calm_none : (d : Digest) (e : Event) → is_crash e ≡ false → is_crash_in_active d e ≡ false
calm_none d Event.Crash h = absurd (cc (h))
calm_none d e h = refl

calm_at : (t : Aaid) (u : Current) → is_rolling u.phase ≡ false → is_rolling_at t (Some u) ≡ false
calm_at t u h = and_off (is_aaid t (aaid_of u.key)) (is_rolling u.phase) h

-- any entry but a crash or a Begin that is taken
seen_plain : (o : Origin) (up : Option Addr) (e : Entry) (h : List Entry) (t : Aaid) → IsLegal o up (e ∷ h) → o.start.records ≡ [] → (prelude o.who (digest o h) e.event).current ≡ (digest o h).current
    → IsSeen (rolls o.who (digest o h) e.event) (is_unchanged e.event) t (digest o h).current (digest o (e ∷ h)).current
seen_plain o up e h t legal empty same = go (subst (λ (v : Option Current). Course o.who fall left s.drawn v s.boot s.drawn m) same (course_entry o up e h legal))
  where
    d : Digest
    d = digest o h

    s : Digest
    s = prelude o.who d e.event

    m : Move
    m = action o.who d e.event

    fall : Bool
    fall = rolls o.who d e.event

    left : Bool
    left = is_unchanged e.event

    given : (v n : Option Current) → d.current ≡ v → m.next.current ≡ n → IsSeen fall left t v n → IsSeen fall left t d.current m.next.current
    given v n i j k = subst (λ (x : Option Current). IsSeen fall left t x m.next.current) (sym i) (subst (λ (x : Option Current). IsSeen fall left t v x) (sym j) k)

    -- what rolls, rolls after the entry where it stays current
    held_rolls : (c u : Current) → d.current ≡ Some c → m.next.current ≡ Some u → (tells_rolled m ≡ true → ⊥) → fall ≡ true → is_rolling u.phase ≡ true
    held_rolls c u i j untold f = elim (down_event o.who d e.event c legal.grown.0 f i) [
      | inl x ↦ absurd (untold x)
      | inr x ↦ ap (λ (z : Current). is_rolling z.phase) (some_same u x.0 (sym j ∙ x.1)) ∙ x.2
    ]

    alive : (u : Current) → m.next.current ≡ Some u → is_nil u.phase ≡ false
    alive u j = late_law o up (e ∷ h) legal.grown u j

    over : (c : Current) (logs tells : Bool) → PhaseStep fall left c.phase Phase.Nil logs tells → (is_active c.phase || is_ready c.phase) ≡ true → left ≡ false → fall ≡ true
    over c logs tells st open_phase stays = only fall left (pass_over fall left c.phase logs open_phase st.passes) stays
      where
        only : (f l : Bool) → (f || l) ≡ true → l ≡ false → f ≡ true
        only true l h i = refl
        only false l h i = absurd (cc (h, i))

    must : (c : Current) → d.current ≡ Some c → fall ≡ true → ((is_active c.phase || is_ready c.phase) ≡ true) × (left ≡ false)
    must c i f = (ap (λ (p : Phase). is_active p || is_ready p) (sym (phase_at d c i)) ∙ rolls_from o.who d e.event f, rolls_stays o.who d e.event f)

    -- a root that is begun is of another tree, or was a branch of it
    apart : (c u : Current) → d.current ≡ Some c → u.key ≡ Root (tree_at o.who s.boot s.drawn) → suc s.drawn ≤ m.next.drawn → is_aaid t (aaid_of c.key) ≡ true → goes_on t (Some c) (Some u) ≡ false
    apart c u i key more mine = on c.key refl
      where
        drawn : Aaid
        drawn = tree_at o.who s.boot s.drawn

        fresh : (k : Key) → (b : Bool) → is_aaid t drawn ≡ b → c.key ≡ Root t → is_aaid t drawn ≡ false
        fresh k false j root = j
        fresh k true j root =
            let is : t ≡ drawn = aaids_equal t drawn j in
            let old : is_old o.who s t.mark ≡ true = old_prelude o.who d e.event t.mark (root_law o up h t c (before_it o up e h legal) empty i root) in
            absurd (drawn_new o.who s m.next t (tree_drawn o.who s m.next t (ap Root is) more) old)

        on : (k : Key) → c.key ≡ k → (is_aaid t (aaid_of u.key) && is_same_end c.key u.key) ≡ false
        on (Root a) j =
            let is : t ≡ a = aaids_equal t a (ap (λ (z : Key). is_aaid t (aaid_of z)) (sym j) ∙ mine) in
            let off : is_aaid t (aaid_of u.key) ≡ false = ap (λ (z : Key). is_aaid t (aaid_of z)) key ∙ fresh c.key (is_aaid t drawn) refl (j ∙ ap Root (sym is)) in
            rw off refl
        on (Under a b r) j =
            let off : is_same_end c.key u.key ≡ false = ap (λ (z : Key). is_same_end z u.key) j ∙ ap (is_same_end (Under a b r)) key in
            and_off (is_aaid t (aaid_of u.key)) (is_same_end c.key u.key) off

    go : Course o.who fall left s.drawn d.current s.boot s.drawn m → IsSeen fall left t d.current m.next.current
    go (Free i j f dr tl) = given None None i j (seen_none fall left t None refl)
    go (Held c u i j key st hm f dr kn) =
        given (Some c) (Some u) i j (seen_held fall left t c u key st.rolled (λ k. held_rolls c u i j (λ tells. let nil = st.ended tells in let on = alive u j in cc (nil, on)) k))
    go (Closed c i j st at f dr) = given (Some c) None i j (seen_over fall left t c None refl (λ k. refl) (over c _ _ st) (must c i))
    go (Grew c u b i j key act quiet f cn dr kn) =
        given (Some c) (Some u) i j
        (seen_held fall left t c u key (λ k. absurd (let no : is_rolling u.phase ≡ false = active_flat u.phase act.1 in cc (k, no))) (λ k. held_rolls c u i j (λ tells. let no = quiet.1 in cc (no, tells)) k))
    go (Rooted u j key act f dr kn (inl w)) = given None (Some u) w.0 j (seen_none fall left t (Some u) (calm_at t u (active_flat u.phase act)))
    go (Rooted u j key act f dr kn (inr w)) =
        given (Some w.0) (Some u) w.1 j (seen_over fall left t w.0 (Some u) (calm_at t u (active_flat u.phase act)) (apart w.0 u w.1 key dr) (over w.0 _ _ w.2) (must w.0 w.1))

-- after a Begin that is taken nothing rolls
begun_calm : (o : Origin) (up : Option Addr) (e : Entry) (h : List Entry) (t : Aaid) (x : Current) → IsLegal o up (e ∷ h) → (prelude o.who (digest o h) e.event).current ≡ Some x → is_active x.phase ≡ true → rolls o.who (digest o h) e.event ≡ false
    → is_rolling_at t (digest o (e ∷ h)).current ≡ false
begun_calm o up e h t x legal cur act quiet = go (course_entry o up e h legal)
  where
    s : Digest
    s = prelude o.who (digest o h) e.event

    m : Move
    m = action o.who (digest o h) e.event

    at_next : (u : Current) → m.next.current ≡ Some u → is_rolling u.phase ≡ false → is_rolling_at t m.next.current ≡ false
    at_next u j off = ap (is_rolling_at t) j ∙ calm_at t u off

    still : (c u : Current) → s.current ≡ Some c → (is_rolling u.phase ≡ true → (is_rolling c.phase || rolls o.who (digest o h) e.event) ≡ true) → (b : Bool) → is_rolling u.phase ≡ b → is_rolling u.phase ≡ false
    still c u i rolled false j = j
    still c u i rolled true j =
        let off : is_rolling c.phase ≡ false = ap (λ (z : Current). is_rolling z.phase) (some_same c x (sym i ∙ cur)) ∙ active_flat x.phase act in
        let on = rolled j in
        let no : (is_rolling c.phase || rolls o.who (digest o h) e.event) ≡ false = rw (off, quiet) refl in
        absurd (cc (on, no))

    go : Course o.who (rolls o.who (digest o h) e.event) (is_unchanged e.event) s.drawn s.current s.boot s.drawn m → is_rolling_at t m.next.current ≡ false
    go (Free i j f dr tl) = ap (is_rolling_at t) j
    go (Held c u i j key st hm f dr kn) = at_next u j (still c u i st.rolled (is_rolling u.phase) refl)
    go (Closed c i j st at f dr) = ap (is_rolling_at t) j
    go (Grew c u b i j key act quiet f cn dr kn) = at_next u j (active_flat u.phase act.1)
    go (Rooted u j key act f dr kn was) = at_next u j (active_flat u.phase act)

seen_entry : (o : Origin) (up : Option Addr) (e : Entry) (h : List Entry) (t : Aaid) → IsLegal o up (e ∷ h) → o.start.records ≡ []
    → IsSeen (rolls o.who (digest o h) e.event || is_crash_in_active (digest o h) e.event) (is_unchanged e.event) t (digest o h).current (digest o (e ∷ h)).current
seen_entry o up e h t legal empty = go (entered o e h legal.grown.0)
  where
    d : Digest
    d = digest o h

    whole : Bool → Type 0
    whole f = IsSeen f (is_unchanged e.event) t d.current (digest o (e ∷ h)).current

    or_none : (a b : Bool) → b ≡ false → a ≡ (a || b)
    or_none true b h = refl
    or_none false b h = sym h

    crashed : e.event ≡ Event.Crash → (v : Option Current) → d.current ≡ v → IsSeen (rolls o.who d Event.Crash || is_crash_in_active d Event.Crash) false t v (recovered_current v)
    crashed i None j = seen_none _ false t None refl
    crashed i (Some c) j = subst (λ (p : Phase). IsSeen (is_active p) false t (Some c) (recovered_current (Some c))) (sym (phase_at d c j)) (seen_crash t c)

    go : Entered o e h → whole (rolls o.who d e.event || is_crash_in_active d e.event)
    go (Crashed i) =
        subst (λ (n : Option Current). IsSeen (rolls o.who d e.event || is_crash_in_active d e.event) (is_unchanged e.event) t d.current n) (sym (crash_next o e h (ap is_crash i)))
        (subst (λ (v : Event). IsSeen (rolls o.who d v || is_crash_in_active d v) (is_unchanged v) t d.current (recovered_current d.current)) (sym i) (crashed i d.current refl))
    go (Begun from r b a begun calm cur nil quiet sent) =
        let none : d.current ≡ None = nothing_late d (late_law o up h legal.grown.3) nil in
        subst (λ (v : Option Current). IsSeen (rolls o.who d e.event || is_crash_in_active d e.event) (is_unchanged e.event) t v (digest o (e ∷ h)).current) (sym none)
        (seen_none _ (is_unchanged e.event) t (digest o (e ∷ h)).current (begun_calm o up e h t (fresh_current (Under r b a.peer)) legal cur refl quiet.0))
    go (Plain calm begun same) = subst whole (or_none (rolls o.who d e.event) (is_crash_in_active d e.event) (calm_none d e.event calm)) (seen_plain o up e h t legal empty same)

-- ---- every legal history

same_or : (a b r : Bool) → (a ≡ true → (b || r) ≡ true) → (b ≡ true → a ≡ true) → (a || r) ≡ (b || r)
same_or true b r h k = sym (h refl)
same_or false true r h k = absurd (cc (k refl))
same_or false false r h k = refl

seen_step : (fall l : Bool) (t : Aaid) (v n : Option Current) (r : Bool) → IsSeen fall l t v n → (is_rolling_at t v ≡ true → r ≡ true) → (rolls_seen t v l n || r) ≡ ((is_now t v && fall) || r)
seen_step fall l t v n r seen was = same_or (rolls_seen t v l n) (is_now t v && fall) r to (λ k. seen.back (and_left (is_now t v) fall k) (and_right (is_now t v) fall k))
  where
    from : (is_rolling_at t v ≡ true) ⊎ ((is_now t v && fall) ≡ true) → ((is_now t v && fall) || r) ≡ true
    from (inl x) = or_right (is_now t v && fall) r (was x)
    from (inr x) = or_left (is_now t v && fall) r x

    to : rolls_seen t v l n ≡ true → ((is_now t v && fall) || r) ≡ true
    to k = elim (or_case (is_rolling_at t n) (is_open_at t v && not (goes_on t v n) && not l) k) [
      | inl x ↦ from (or_case (is_rolling_at t v) (is_now t v && fall) (seen.rolls x))
      | inr x ↦ (let p = open_parts (is_open_at t v) (goes_on t v n) l x in or_left (is_now t v && fall) r (seen.over p.0 p.1 p.2))
    ]

-- what rolls now has rolled
rolling_rolled : (o : Origin) (t : Aaid) (h : List Entry) → o.start.records ≡ [] → rolled_seen o t h ≡ rolled o t h → is_rolling_at t (digest o h).current ≡ true → rolled o t h ≡ true
rolling_rolled o t [] empty same now = absurd (let none = ap (is_rolling_at t) (current_none o empty) in cc (none, now))
rolling_rolled o t (e ∷ h) empty same now =
    sym same ∙ or_left (rolls_seen t (digest o h).current (is_unchanged e.event) (digest o (e ∷ h)).current) (rolled_seen o t h) (or_left (is_rolling_at t (digest o (e ∷ h)).current) _ now)

pub rolled_seen_law : (o : Origin) (up : Option Addr) (t : Aaid) (h : List Entry) → IsLegal o up h → o.start.records ≡ [] → rolled_seen o t h ≡ rolled o t h
rolled_seen_law o up t [] legal empty = refl
rolled_seen_law o up t (e ∷ h) legal empty =
    let same = rolled_seen_law o up t h (before_it o up e h legal) empty in
    ap (λ (r : Bool). rolls_seen t (digest o h).current (is_unchanged e.event) (digest o (e ∷ h)).current || r) same
    ∙ seen_step (rolls o.who (digest o h) e.event || is_crash_in_active (digest o h) e.event) (is_unchanged e.event) t (digest o h).current (digest o (e ∷ h)).current (rolled o t h)
    (seen_entry o up e h t legal empty) (rolling_rolled o t h empty same)
