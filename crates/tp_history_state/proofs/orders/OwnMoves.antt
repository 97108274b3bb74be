-- What an accepted event makes of the node's own report of the current transaction.
use Rattle.tp_history_state.proofs.Vocabulary.{◌≡◌, ◌≤◌, ◌⊎◌, inl, inr, ℕ, suc, Bool, true, false, refl, ap, sym, subst, ◌∙◌, arith, Option, Some, None, List, [], ◌∷◌, ◌||◌, Aaid, BranchId, Addr, Report, PeerRecord, RecState, LogRec, TxEvent, Kept, KeptEvent, Who, Event, Arc, Key, Root, Current, Digest, is_nil, is_rolling, without_arc, with_dialogue, settled, Transaction, Turn, transacted, Move, move, followed, perform, next_mark, seen, begin_on, fresh_current, turned, keep, rolls, refusal, action, falls, Steps, IsPut, IsAsked, IsLate, IsSettling, prelude, is_old, every_turn, step_move, rolls_so, passed_turn, left_is, some_same, root_in, next_new, IsNew}
use Rattle.tp_steps.proofs.links.Marks.{Same_boot}
use Rattle.tp_history_state.proofs.orders.Told.{over_drawn, through, between, least}
use Rattle.tp_history_state.proofs.orders.OwnTurns.{damages, IsPass, pass_then, damages_then, IsOwn, own_turns, left_own}
use Rattle.tp_history_state.proofs.lemmas.Begins.{next_child, begins_so}

-- ---- the steps of an event

abbrev pub IsNext : Bool → Digest → Digest → Option LogRec → Current → Current → Type 0
IsNext fall s d r v u = IsPass (d.drawn ≡ s.drawn) fall v.own (is_rolling v.phase) u.own (is_rolling u.phase) (damages r)

abbrev pub IsFrom : Bool → Who → Digest → Digest → Move → Current → Type 0
IsFrom fall who s d m u = ((v : Current) × (d.current ≡ Some v) × (u.key ≡ v.key) × IsNext fall s d m.rec v u) ⊎ (IsNew who s u × (u.own ≡ Report.None) × (suc s.drawn ≤ m.next.drawn))

pub record IsHeld (fall : Bool) (who : Who) (s d : Digest) (m : Move) : Type 0 where
  pub boot : m.next.boot ≡ d.boot
  pub drawn : d.drawn ≤ m.next.drawn
  pub from : (u : Current) → m.next.current ≡ Some u → IsFrom fall who s d m u

abbrev IsHolding : Bool → Who → Digest → Digest → Move → Type 0
IsHolding fall who s d m = (d.boot ≡ s.boot) × (s.drawn ≤ d.drawn) → IsHeld fall who s d m

held_same : (fall : Bool) (who : Who) (s d : Digest) (m : Move) → m.next.current ≡ d.current → m.next.boot ≡ d.boot → m.next.drawn ≡ d.drawn → (fall ≡ true → damages m.rec ≡ false) → IsHolding fall who s d m
held_same fall who s d m same boot drawn none after = record {
  boot = boot;
  drawn = subst (λ (x : ℕ). d.drawn ≤ x) (sym drawn) (least d.drawn);
  from = λ u is. inl (u, sym same ∙ is, refl, inl (refl, refl, none));
}

held_then : (fall : Bool) (who : Who) (s d : Digest) (a : Move) (f : Digest → Move) → (a.rec ≡ None) ⊎ ((f a.next).rec ≡ None) → IsHolding fall who s d a → IsHolding fall who s a.next (f a.next) → IsHolding fall who s d (followed a f)
held_then fall who s d a f none one two after = record {
  boot = y.boot ∙ x.boot;
  drawn = through d.drawn a.next.drawn b.next.drawn x.drawn y.drawn;
  from = λ u is. go u (y.from u is);
}
  where
    b : Move
    b = f a.next

    x : IsHeld fall who s d a
    x = one after

    y : IsHeld fall who s a.next b
    y = two (x.boot ∙ after.0, through s.drawn d.drawn a.next.drawn after.1 x.drawn)

    logs : damages (followed a f).rec ≡ (damages a.rec || damages b.rec)
    logs = damages_then a.rec b.rec none

    go : (u : Current) → IsFrom fall who s a.next b u → IsFrom fall who s d (followed a f) u
    go u (inr n) = inr n
    go u (inl w) = on (x.from w.0 w.1)
      where
        v : Current
        v = w.0

        made : (c : Current) → IsNext fall s d a.rec c v → IsNext fall s a.next b.rec v u → IsNext fall s d (followed a f).rec c u
        made c p q =
            subst (λ (l : Bool). IsPass (d.drawn ≡ s.drawn) fall c.own (is_rolling c.phase) u.own (is_rolling u.phase) l) (sym logs)
            (pass_then (d.drawn ≡ s.drawn) (a.next.drawn ≡ s.drawn) (between s.drawn d.drawn a.next.drawn after.1 x.drawn) fall c.own v.own u.own (is_rolling c.phase) (is_rolling v.phase) (is_rolling u.phase) (damages a.rec) (damages b.rec) p q)

        on : IsFrom fall who s d a v → IsFrom fall who s d (followed a f) u
        on (inl c) = inl (c.0, c.1, w.2 ∙ c.2, made c.0 c.3 w.3)
        on (inr n) = late w.3
          where
            late : IsNext fall s a.next b.rec v u → IsFrom fall who s d (followed a f) u
            late (inl m) = inr ((n.0.0, w.2 ∙ n.0.1, n.0.2), m.0 ∙ n.1, through (suc s.drawn) a.next.drawn b.next.drawn n.2 y.drawn)
            late (inr (l, m)) = absurd (over_drawn s.drawn a.next.drawn n.2 l)

held_turned : (fall : Bool) (who : Who) (s d : Digest) (f : TxEvent) (c : Current) → d.current ≡ Some c → (falls f (seen who d.arcs c) ≡ true → fall ≡ true) → IsPut f (seen who d.arcs c) → d.drawn ≡ s.drawn → IsHolding fall who s d (turned who f d c)
held_turned fall who s d f c now so put like after = record {
  boot = refl;
  drawn = least d.drawn;
  from = λ u is.
      let l = left_own a.next u is in
      inl (c, now, (left_is a.next u is).0 ∙ (passed_turn f t put).key, go u l (one.1 l.2));
}
  where
    t : Transaction
    t = seen who d.arcs c

    a : Turn
    a = transacted f t

    one : IsOwn fall t a
    one = every_turn f t (IsOwn fall) (own_turns fall f t so) put

    go : (u : Current) → (u.own ≡ a.next.own) × (u.phase ≡ a.next.phase) × (is_nil a.next.phase ≡ false) → IsPass (Unit {0}) fall t.own (is_rolling t.phase) a.next.own (is_rolling a.next.phase) (damages a.rec) → IsNext fall s d a.rec c u
    go u l (inl m) = inl (l.0 ∙ m.0, ap is_rolling l.1 ∙ m.1, m.2)
    go u l (inr (k, m)) = inr (like, (m.0, m.1, ap is_rolling l.1 ∙ m.2, l.0 ∙ m.3))

held_begins : (fall : Bool) (who : Who) (s : Digest) (q : ℕ) (d : Digest) → IsHolding fall who s d (begin_on who q d)
held_begins fall who s q d after =
    begins_so (IsHeld fall who s d) who q d (held_same fall who s d (move [] d) refl refl refl (λ h. refl) after)
    (λ c i a found may. record {
      boot = refl;
      drawn = omega arith;
      from = λ u is.
          let t : Transaction = (transacted (TxEvent.Begun (next_child who d a ∷ [])) (seen who d.arcs c)).next in
          let l = left_own t u is in
          inl (c, i, (left_is t u is).0, inl (l.0, ap is_rolling l.1, λ h. refl));
    })

held_roots : (fall : Bool) (who : Who) (s d : Digest) (m : Move) → IsHolding fall who s (root_in who d) m → IsHolding fall who s d m
held_roots fall who s d m one after = record {
  boot = x.boot;
  drawn = less d.drawn m.next.drawn x.drawn;
  from = λ u is. go u (x.from u is);
}
  where
    key : Key
    key = Root (record { owner = who.site; mark = next_mark who d })

    raise : (a b : ℕ) → a ≤ b → suc a ≤ suc b
    raise a b h = omega (arith, h)

    above : (a b : ℕ) → a ≤ b → a ≤ suc b
    above a b h = omega (arith, h)

    less : (a b : ℕ) → suc a ≤ b → a ≤ b
    less a b h = omega (arith, h)

    x : IsHeld fall who s (root_in who d) m
    x = one (after.0, above s.drawn d.drawn after.1)

    go : (u : Current) → IsFrom fall who s (root_in who d) m u → IsFrom fall who s d m u
    go u (inr n) = inr n
    go u (inl w) = pass w.3
      where
        same : fresh_current key ≡ w.0
        same = some_same (fresh_current key) w.0 w.1

        pass : IsNext fall s (root_in who d) m.rec w.0 u → IsFrom fall who s d m u
        pass (inl k) =
            inr (
              (record { owner = who.site; mark = next_mark who d }, w.2 ∙ ap (λ (x : Current). x.key) (sym same), next_new who s d (Same_boot after.0 after.1) (is_old who s (next_mark who d)) refl),
              k.0 ∙ ap (λ (c : Current). c.own) (sym same),
              through (suc s.drawn) (suc d.drawn) m.next.drawn (raise s.drawn d.drawn after.1) x.drawn,
            )
        pass (inr (l, k)) = absurd (over_drawn s.drawn (suc d.drawn) (raise s.drawn d.drawn after.1) l)

held_keeps : (fall : Bool) (who : Who) (e : Event) (s d : Digest) (k : Kept) (f : KeptEvent) → IsSettling e s d k f → ((from : Addr) (t : Aaid) (b : BranchId) (r : Report) → e ≡ Event.Arrive from (PeerRecord.RecReply t b (RecState.Done r)) → fall ≡ false) → IsHolding fall who s d (keep (settled k f) d)
unfolding settled
held_keeps fall who e s d k (KeptEvent.Done from b r) is off = held_same fall who s d (keep (settled k (KeptEvent.Done from b r)) d) refl refl refl (λ h. absurd (let no = off from is.0 b r is.1 in cc (no, h)))
held_keeps fall who e s d k KeptEvent.Forget is off = held_same fall who s d (keep (settled k KeptEvent.Forget) d) refl refl refl (λ h. grind arith)
held_keeps fall who e s d k KeptEvent.Purge is off = held_same fall who s d (keep (settled k KeptEvent.Purge) d) refl refl refl (λ h. refl)

-- the event rolls, where a turn in it falls
record IsFalling (fall : Bool) (who : Who) (e : Event) (s : Digest) : Type 0 where
  falls_so : (c : Current) (f : TxEvent) (arcs : List Arc) → s.current ≡ Some c → IsAsked e c f → falls f (seen who arcs c) ≡ true → fall ≡ true
  replied : (from : Addr) (t : Aaid) (b : BranchId) (r : Report) → e ≡ Event.Arrive from (PeerRecord.RecReply t b (RecState.Done r)) → fall ≡ false

held_moves : (fall : Bool) (who : Who) (e : Event) (s : Digest) → IsFalling fall who e s → Steps who e s (IsHolding fall who s)
held_moves fall who e s k = record {
  still = λ d. held_same fall who s d (move [] d) refl refl refl (λ h. refl);
  chain = λ d a f one two quiet. held_then fall who s d a f quiet one two;
  speaks = λ d outs h own said last. held_same fall who s d (perform outs d) refl refl refl (λ h. refl);
  changes_dialogue = λ d p f m by one after. like (record d { arcs = with_dialogue d.arcs p f }) d m refl refl refl (one after);
  drops_arc = λ d p m at one after. like (record d { arcs = without_arc d.arcs p }) d m refl refl refl (one after);
  notes_kept = λ d ks m held by one after. like (record d { kept = ks }) d m refl refl refl (one after);
  keeps = λ d x f held. held_keeps fall who e s d x f held.4 k.replied;
  turns = λ d c f now at asked put gone drawn alike. held_turned fall who s d f c now (k.falls_so c f d.arcs at asked) put drawn;
  begins = λ d p free. held_begins fall who s p d;
  roots = λ d m nil may says one. held_roots fall who s d m one;
}
  where
    like : (u d : Digest) (m : Move) → u.current ≡ d.current → u.boot ≡ d.boot → u.drawn ≡ d.drawn → IsHeld fall who s u m → IsHeld fall who s d m
    like u d m same boot drawn x = record {
      boot = x.boot ∙ boot;
      drawn = subst (λ (n : ℕ). n ≤ m.next.drawn) drawn x.drawn;
      from = λ v is. elim (x.from v is) [ inl w ↦ inl (w.0, sym same ∙ w.1, w.2, elim w.3 [ inl i ↦ inl i | inr i ↦ inr (sym drawn ∙ i.0, i.1) ]) | inr n ↦ inr n ];
    }

falling_of : (who : Who) (d : Digest) (e : Event) → refusal who d e ≡ None → IsFalling (rolls who d e) who e (prelude who d e)
falling_of who d e ok = record {
  falls_so = λ c f arcs at asked h. rolls_so who d e ok c f arcs at asked h;
  replied = λ from t b r is. ap (rolls who d) is;
}

pub own_event : (who : Who) (d : Digest) (e : Event) → IsLate d → refusal who d e ≡ None → IsHeld (rolls who d e) who (prelude who d e) (prelude who d e) (action who d e)
own_event who d e late plain =
    let s : Digest = prelude who d e in
    step_move who d e (IsHolding (rolls who d e) who s) (held_moves (rolls who d e) who e s (falling_of who d e plain)) late plain (refl, least s.drawn)
