-- Flags of the current transaction that are raised by what the user is told, and fall with nothing but a new key: an instance
-- of the steps of a node.
use Rattle.tp_history_state.proofs.Vocabulary.{if◌then◌else◌, ◌≡◌, ◌≤◌, ◌⊎◌, inl, inr, ℕ, suc, Bool, true, false, refl, ap, sym, subst, ◌∙◌, arith, Option, Some, None, List, [], ◌∷◌, ◌++◌, ◌||◌, Child, Indication, TxEvent, TxOut, Who, Event, Out, Tell, Send, Arc, Key, Root, Current, Digest, without_arc, with_dialogue, Transaction, Turn, transacted, settled, Move, move, followed, perform, next_mark, seen, remaining, begin_on, try_start, is_over, passed, transact, fresh_current, turned, keep, refusal, action, is_outcome_told, Steps, IsPut, IsAsked, IsLate, prelude, asks_tell, out_tells, is_old, told_append, told_performed, told_played, step_start, step_move, left_is, passed_turn, settled_spoken, some_same, IsNew, IsStep, root_in, next_new, whole_turn, started_next}
use Rattle.tp_steps.proofs.links.Marks.{Same_boot}
use Rattle.tp_history_state.proofs.lemmas.Begins.{next_child, begin_word, begin_arcs, begun_over, begins_so}
use Rattle.tp_history_state.proofs.lemmas.Spoken.{spoken_untold}

-- in an event e: the flag g is raised by what the test tells of, which `ok` allows; inv holds of what is current
pub record IsRaised (tell : Indication → Bool) (g : Current → Bool) (inv : Current → Type 0) (e : Event) (ok : Bool) : Type 0 where
  pub fresh : (k : Key) → (g (fresh_current k) ≡ false) × inv (fresh_current k)
  pub begun : (who : Who) (arcs : List Arc) (c u : Current) (child : Child) → inv c → remaining (transacted (TxEvent.Begun (child ∷ [])) (seen who arcs c)).next ≡ Some u → (g u ≡ g c) × inv u
  pub turn : (who : Who) (arcs : List Arc) (c u : Current) (f : TxEvent) → inv c → IsAsked e c f → IsPut f (seen who arcs c) → remaining (transacted f (seen who arcs c)).next ≡ Some u → (g u ≡ (asks_tell tell (transacted f (seen who arcs c)).outs || g c)) × inv u
  pub tells : (who : Who) (arcs : List Arc) (c : Current) (f : TxEvent) → inv c → IsAsked e c f → IsPut f (seen who arcs c) → asks_tell tell (transacted f (seen who arcs c)).outs ≡ true → ok ≡ true
  pub spoken : (i : Indication) → is_outcome_told i ≡ false → tell i ≡ false

-- no mark was drawn since the prelude, or some
abbrev pub IsAfter : (Current → Type 0) → Digest → Digest → Type 0
IsAfter inv s d = (d.boot ≡ s.boot) × (s.drawn ≤ d.drawn) × ((c : Current) → d.current ≡ Some c → inv c)

abbrev pub IsFrom : (Indication → Bool) → (Current → Bool) → Who → Digest → Digest → Move → Current → Type 0
IsFrom tell g who s d m u = ((v : Current) × (d.current ≡ Some v) × (u.key ≡ v.key) × (g u ≡ (out_tells tell m.outs || g v))) ⊎ (IsNew who s u × (g u ≡ false) × (suc s.drawn ≤ m.next.drawn))

pub record IsHeld (tell : Indication → Bool) (g : Current → Bool) (inv : Current → Type 0) (ok : Bool) (who : Who) (s d : Digest) (m : Move) : Type 0 where
  pub boot : m.next.boot ≡ d.boot
  pub drawn : d.drawn ≤ m.next.drawn
  pub early : out_tells tell m.outs ≡ true → (d.drawn ≡ s.drawn) × (ok ≡ true)
  pub from : (u : Current) → m.next.current ≡ Some u → IsFrom tell g who s d m u × inv u

abbrev pub IsHolding : (Indication → Bool) → (Current → Bool) → (Current → Type 0) → Bool → Who → Digest → Digest → Move → Type 0
IsHolding tell g inv ok who s d m = IsAfter inv s d → IsHeld tell g inv ok who s d m

pub least : (n : ℕ) → n ≤ n
least n = omega arith

held_same : (tell : Indication → Bool) (g : Current → Bool) (inv : Current → Type 0) (ok : Bool) (who : Who) (s d : Digest) (m : Move) → m.next.current ≡ d.current → m.next.boot ≡ d.boot → m.next.drawn ≡ d.drawn → out_tells tell m.outs ≡ false → IsHolding tell g inv ok who s d m
held_same tell g inv ok who s d m same boot drawn none after = record {
  boot = boot;
  drawn = subst (λ (x : ℕ). d.drawn ≤ x) (sym drawn) (least d.drawn);
  early = λ h. absurd (cc (none, h));
  from = λ u is. (inl (u, sym same ∙ is, refl, rw none refl), after.2 u (sym same ∙ is));
}

pub over_drawn : (a b : ℕ) → suc a ≤ b → b ≡ a → ⊥
over_drawn a b h i = omega (arith, h, i)

pub through : (a b c : ℕ) → a ≤ b → b ≤ c → a ≤ c
through a b c h i = omega (arith, h, i)

pub between : (a b c : ℕ) → a ≤ b → b ≤ c → c ≡ a → b ≡ a
between a b c h i j = omega (arith, h, i, j)

held_then : (tell : Indication → Bool) (g : Current → Bool) (inv : Current → Type 0) (ok : Bool) (who : Who) (s d : Digest) (a : Move) (f : Digest → Move) → IsHolding tell g inv ok who s d a → IsHolding tell g inv ok who s a.next (f a.next) → IsHolding tell g inv ok who s d (followed a f)
held_then tell g inv ok who s d a f one two after = record {
  boot = y.boot ∙ x.boot;
  drawn = through d.drawn a.next.drawn b.next.drawn x.drawn y.drawn;
  early = λ h. either (out_tells tell a.outs) (out_tells tell b.outs) (sym joined ∙ h) refl refl;
  from = λ u is. let z = y.from u is in (go u z.0, z.1);
}
  where
    b : Move
    b = f a.next

    x : IsHeld tell g inv ok who s d a
    x = one after

    y : IsHeld tell g inv ok who s a.next b
    y = two (x.boot ∙ after.0, through s.drawn d.drawn a.next.drawn after.1 x.drawn, λ c is. (x.from c is).1)

    joined : out_tells tell (a.outs ++ b.outs) ≡ (out_tells tell a.outs || out_tells tell b.outs)
    joined = told_append tell a.outs b.outs

    either : (v w : Bool) → (v || w) ≡ true → out_tells tell a.outs ≡ v → out_tells tell b.outs ≡ w → (d.drawn ≡ s.drawn) × (ok ≡ true)
    either true w h i j = x.early i
    either false w h i j = let z = y.early (j ∙ h) in (between s.drawn d.drawn a.next.drawn after.1 x.drawn z.0, z.1)

    turn_over : (a b c : Bool) → (b || (a || c)) ≡ ((a || b) || c)
    turn_over true true c = refl
    turn_over true false c = refl
    turn_over false true c = refl
    turn_over false false c = refl

    late : suc s.drawn ≤ a.next.drawn → (v : Bool) → out_tells tell b.outs ≡ v → v ≡ false
    late h true i = absurd (over_drawn s.drawn a.next.drawn h (y.early i).0)
    late h false i = refl

    go : (u : Current) → IsFrom tell g who s a.next b u → IsFrom tell g who s d (followed a f) u
    go u (inr n) = inr n
    go u (inl w) = on (x.from w.0 w.1).0
      where
        on : IsFrom tell g who s d a w.0 → IsFrom tell g who s d (followed a f) u
        on (inl v) =
            inl (v.0, v.1, w.2 ∙ v.2, w.3 ∙ ap (λ (z : Bool). out_tells tell b.outs || z) v.3 ∙ turn_over (out_tells tell a.outs) (out_tells tell b.outs) (g v.0) ∙ ap (λ (z : Bool). z || g v.0) (sym joined))
        on (inr n) =
            let quiet : out_tells tell b.outs ≡ false = late n.2 (out_tells tell b.outs) refl in
            inr ((n.0.0, w.2 ∙ n.0.1, n.0.2), w.3 ∙ ap (λ (z : Bool). z || g w.0) quiet ∙ n.1, through (suc s.drawn) a.next.drawn b.next.drawn n.2 y.drawn)

held_turned : (tell : Indication → Bool) (g : Current → Bool) (inv : Current → Type 0) (e : Event) (ok : Bool) → IsRaised tell g inv e ok → (who : Who) (s d : Digest) (f : TxEvent) (c : Current) → d.current ≡ Some c → IsAsked e c f → IsPut f (seen who d.arcs c) → d.drawn ≡ s.drawn → IsHolding tell g inv ok who s d (turned who f d c)
held_turned tell g inv e ok k who s d f c now asked put like after = record {
  boot = refl;
  drawn = least d.drawn;
  early = λ h. (like, k.tells who d.arcs c f (after.2 c now) asked put (sym tells ∙ h));
  from = λ u is.
      let z = k.turn who d.arcs c u f (after.2 c now) asked put is in
      (inl (c, now, (left_is a.next u is).0 ∙ (passed_turn f t put).key, z.0 ∙ ap (λ (x : Bool). x || g c) (sym tells)), z.1);
}
  where
    t : Transaction
    t = seen who d.arcs c

    a : Turn
    a = transacted f t

    tells : out_tells tell (turned who f d c).outs ≡ asks_tell tell a.outs
    tells = told_played tell d t _ a (whole_turn f t) _

held_begins : (tell : Indication → Bool) (g : Current → Bool) (inv : Current → Type 0) (e : Event) (ok : Bool) → IsRaised tell g inv e ok → (who : Who) (s : Digest) (q : ℕ) (d : Digest) → IsHolding tell g inv ok who s d (begin_on who q d)
held_begins tell g inv e ok k who s q d after =
    begins_so (IsHeld tell g inv ok who s d) who q d (held_same tell g inv ok who s d (move [] d) refl refl refl refl after)
    (λ c i a found may.
    let none : out_tells tell (begun_over who q d c a).outs ≡ false = told_performed tell (begin_arcs q d a) (TxOut.Carry q (begin_word who d c a) ∷ []) in
    record {
      boot = refl;
      drawn = omega arith;
      early = λ h. absurd (cc (none, h));
      from = λ u is.
          let z = k.begun who d.arcs c u (next_child who d a) (after.2 c i) is in
          (inl (c, i, (left_is (transacted (TxEvent.Begun (next_child who d a ∷ [])) (seen who d.arcs c)).next u is).0, z.0 ∙ sym (ap (λ (x : Bool). x || g c) none)), z.1);
    })

held_roots : (tell : Indication → Bool) (g : Current → Bool) (inv : Current → Type 0) (e : Event) (ok : Bool) → IsRaised tell g inv e ok → (who : Who) (s d : Digest) (m : Move) → IsHolding tell g inv ok who s (root_in who d) m → IsHolding tell g inv ok who s d m
held_roots tell g inv e ok k who s d m one after = record {
  boot = x.boot;
  drawn = less d.drawn m.next.drawn x.drawn;
  early = λ h. absurd (over_drawn s.drawn (suc d.drawn) (raise s.drawn d.drawn after.1) (x.early h).0);
  from = λ u is. let z = x.from u is in (go u z.0, z.1);
}
  where
    key : Key
    key = Root (record { owner = who.site; mark = next_mark who d })

    raise : (a b : ℕ) → a ≤ b → suc a ≤ suc b
    raise a b h = omega (arith, h)

    above : (a b : ℕ) → a ≤ b → a ≤ suc b
    above a b h = omega (arith, h)

    less : (a b : ℕ) → suc a ≤ b → a ≤ b
    less a b h = omega (arith, h)

    x : IsHeld tell g inv ok who s (root_in who d) m
    x = one (after.0, above s.drawn d.drawn after.1, λ c is. subst inv (some_same (fresh_current key) c is) (k.fresh key).1)

    quiet : (v : Bool) → out_tells tell m.outs ≡ v → v ≡ false
    quiet true i = absurd (over_drawn s.drawn (suc d.drawn) (raise s.drawn d.drawn after.1) (x.early i).0)
    quiet false i = refl

    go : (u : Current) → IsFrom tell g who s (root_in who d) m u → IsFrom tell g who s d m u
    go u (inr n) = inr n
    go u (inl w) =
        let same : fresh_current key ≡ w.0 = some_same (fresh_current key) w.0 w.1 in
        let none : out_tells tell m.outs ≡ false = quiet (out_tells tell m.outs) refl in
        inr (
          (record { owner = who.site; mark = next_mark who d }, w.2 ∙ ap (λ (x : Current). x.key) (sym same), next_new who s d (Same_boot after.0 after.1) (is_old who s (next_mark who d)) refl),
          w.3 ∙ ap (λ (v : Bool). v || g w.0) none ∙ ap g (sym same) ∙ (k.fresh key).0,
          through (suc s.drawn) (suc d.drawn) m.next.drawn (raise s.drawn d.drawn after.1) x.drawn,
        )

pub held_moves : (tell : Indication → Bool) (g : Current → Bool) (inv : Current → Type 0) (e : Event) (ok : Bool) → IsRaised tell g inv e ok → (who : Who) (s : Digest) → Steps who e s (IsHolding tell g inv ok who s)
held_moves tell g inv e ok k who s = record {
  still = λ d. held_same tell g inv ok who s d (move [] d) refl refl refl refl;
  chain = λ d a f one two quiet. held_then tell g inv ok who s d a f one two;
  speaks = λ d outs h own said last. held_same tell g inv ok who s d (perform outs d) refl refl refl (told_performed tell d.arcs outs ∙ spoken_untold tell k.spoken outs h);
  changes_dialogue = λ d p f m by one after. like (record d { arcs = with_dialogue d.arcs p f }) d m refl refl refl (one after);
  drops_arc = λ d p m at one after. like (record d { arcs = without_arc d.arcs p }) d m refl refl refl (one after);
  notes_kept = λ d ks m held by one after. like (record d { kept = ks }) d m refl refl refl (one after);
  keeps = λ d x f held. held_same tell g inv ok who s d (keep (settled x f) d) refl refl refl (told_performed tell d.arcs (settled x f).outs ∙ spoken_untold tell k.spoken (settled x f).outs (settled_spoken x f));
  turns = λ d c f now at asked put gone drawn alike. held_turned tell g inv e ok k who s d f c now asked put drawn;
  begins = λ d p free. held_begins tell g inv e ok k who s p d;
  roots = λ d m nil may says one. held_roots tell g inv e ok k who s d m one;
}
  where
    like : (u d : Digest) (m : Move) → u.current ≡ d.current → u.boot ≡ d.boot → u.drawn ≡ d.drawn → IsHeld tell g inv ok who s u m → IsHeld tell g inv ok who s d m
    like u d m same boot drawn x = record {
      boot = x.boot ∙ boot;
      drawn = subst (λ (n : ℕ). n ≤ m.next.drawn) drawn x.drawn;
      early = λ h. let z = x.early h in (sym drawn ∙ z.0, z.1);
      from = λ v is. let z = x.from v is in (elim z.0 [ inl w ↦ inl (w.0, sym same ∙ w.1, w.2, w.3) | inr n ↦ inr n ], z.1);
    }

-- ---- an event, from its prelude on

pub raised_event : (tell : Indication → Bool) (g : Current → Bool) (inv : Current → Type 0) (who : Who) (d : Digest) (e : Event) (ok : Bool) → IsRaised tell g inv e ok → IsLate d → refusal who d e ≡ None → ((c : Current) → (prelude who d e).current ≡ Some c → inv c)
    → IsHeld tell g inv ok who (prelude who d e) (prelude who d e) (action who d e)
raised_event tell g inv who d e ok k late plain first =
    let s : Digest = prelude who d e in
    step_move who d e (IsHolding tell g inv ok who s) (held_moves tell g inv e ok k who s) late plain (refl, least s.drawn, first)

pub raised_step : (tell : Indication → Bool) (g : Current → Bool) (inv : Current → Type 0) (ok : Bool) (who : Who) (s : Digest) (m : Move) → IsHeld tell g inv ok who s s m → (u : Current) → m.next.current ≡ Some u → IsStep g who s (out_tells tell m.outs) u
raised_step tell g inv ok who s m x u is = grind arith

-- the next root's transaction starts after what is over
pub raised_start : (tell : Indication → Bool) (g : Current → Bool) (inv : Current → Type 0) (ok : Bool) (e : Event) → IsRaised tell g inv e ok → (who : Who) (s d : Digest) → IsAfter inv s d → IsHeld tell g inv ok who s d (try_start who d)
raised_start tell g inv ok e k who s d after = step_start who e s (IsHolding tell g inv ok who s) (held_moves tell g inv e ok k who s) d after

-- an event of the transaction, and the next root's after it, for a flag that no indication raises
abbrev pub none_told : Indication → Bool
none_told i = false

abbrev pub always : Current → Type 0
always c = Unit {0}

pub started_from : (g : Current → Bool) → IsRaised none_told g always Event.Crash true → (who : Who) (s d : Digest) (c : Current) (f : TxEvent) (v : Bool) → d.current ≡ Some c → (d.boot ≡ s.boot) × (s.drawn ≤ d.drawn) → ((u : Current) → (turned who f d c).next.current ≡ Some u → (u.key ≡ c.key) × (g u ≡ v))
    → (u : Current) → (transact who f d).next.current ≡ Some u → (u.key ≡ c.key) × (g u ≡ v) ⊎ IsNew who s u × (g u ≡ false)
unfolding transact
started_from g k who s d c f v now after first =
    subst (λ (o : Option Current). (u : Current) → (elim o as (λ _. Move) [ None ↦ move [] d | Some x ↦ started_next who (passed who f d x) (turned who f d x) ]).next.current ≡ Some u → (u.key ≡ c.key) × (g u ≡ v) ⊎ IsNew who s u × (g u ≡ false)) (sym now)
    (over (is_over (passed who f d c)))
  where
    a : Move
    a = turned who f d c

    behind : IsHeld none_told g always true who s a.next (try_start who a.next)
    behind = raised_start none_told g always true Event.Crash k who s a.next (after.0, after.1, λ x is. tt)

    quiet : (o : List Out) → out_tells none_told o ≡ false
    quiet [] = refl
    quiet (Tell i ∷ outs) = quiet outs
    quiet (Send p r ∷ outs) = quiet outs

    over : (b : Bool) (u : Current) → (if b then followed a (try_start who) else a).next.current ≡ Some u → (u.key ≡ c.key) × (g u ≡ v) ⊎ IsNew who s u × (g u ≡ false)
    over false u is = inl (first u is)
    over true u is = go (behind.from u is).0
      where
        go : IsFrom none_told g who s a.next (try_start who a.next) u → (u.key ≡ c.key) × (g u ≡ v) ⊎ IsNew who s u × (g u ≡ false)
        go (inr n) = inr (n.0, n.1)
        go (inl w) = let z = first w.0 w.1 in inl (w.2 ∙ z.0, w.3 ∙ ap (λ (b : Bool). b || g w.0) (quiet (try_start who a.next).outs) ∙ z.1)
