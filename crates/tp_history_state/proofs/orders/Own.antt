-- In every legal history the node's own report of the current transaction is damage if the transaction rolls, and the entry
-- that last rolled it logged one.
use Rattle.tp_history_state.proofs.Vocabulary.{if◌then◌else◌, ◌≡◌, inl, inr, Bool, true, false, refl, ap, sym, ◌∙◌, arith, Option, Some, None, List, [], ◌∷◌, ◌||◌, ◌&&◌, ◌==◌, Addr, NodeKey, Report, rank, is_key, Phase, Origin, Entry, Key, Current, Digest, is_rolling, node_key, Move, fresh_current, rolls, is_crash, tells_rollback_complete, begins, takes_begin, is_current_key, rolls_for, is_rolling_in, rolled_with_damage, own_in, digest, action, recovered_current, IsLegal, prelude, own_agrees, rolls_from, late_law, some_same, key_self, Entered, Crashed, Begun, Plain, number_self, before_it, crash_next, key_law, IsStepTo, IsMark, mark_law, recovered_is, started_again}
use Rattle.tp_histories.proofs.trees.Entered.{entered}
use Rattle.tp_history_state.proofs.passages.Shown.{is_early}
use Rattle.tp_history_state.proofs.handshakes.TouchedEntry.{rolls_current}
use Rattle.tp_histories.proofs.known.KnownPhase.{phase_at as phase_of_key}
use Rattle.tp_history_state.proofs.orders.OwnTurns.{damages}
use Rattle.tp_history_state.proofs.orders.OwnMoves.{IsNext, IsFrom, IsHeld, own_event}

-- ---- every legal history

-- what does not roll reports nothing of its own
abbrev IsCalm : Option Current → Type 0
IsCalm v = (c : Current) → v ≡ Some c → is_rolling c.phase ≡ false → c.own ≡ Report.None

calm_first : (o : Origin) (e : Entry) (h : List Entry) → Entered o e h → is_crash e.event ≡ false → IsCalm (digest o h).current → IsCalm (prelude o.who (digest o h) e.event).current
calm_first o e h (Crashed i) calm was = absurd (let on : is_crash e.event ≡ true = ap is_crash i in cc (on, calm))
calm_first o e h (Begun from t b a begun off cur nil quiet sent) calm was = λ c is flat. ap (λ (x : Current). x.own) (sym (some_same (fresh_current (Key.Under t b a.peer)) c (sym cur ∙ is)))
calm_first o e h (Plain c begun same) calm was = λ c is off. was c (sym same ∙ is) off

calm_again : (v : Option Current) (c : Current) → recovered_current v ≡ Some c → c.own ≡ Report.None
calm_again v c is = recovered_is Report (λ x. Report.None) (λ x. x.own) (λ k p bs u. refl) v c is

own_entry : (o : Origin) (up : Option Addr) (e : Entry) (h : List Entry) → IsLegal o up (e ∷ h) → IsHeld (rolls o.who (digest o h) e.event) o.who (prelude o.who (digest o h) e.event) (prelude o.who (digest o h) e.event) (action o.who (digest o h) e.event)
own_entry o up e h legal = own_event o.who (digest o h) e.event (late_law o up h legal.grown.3) legal.grown.0

calm_law : (o : Origin) (up : Option Addr) (h : List Entry) → IsLegal o up h → IsCalm (digest o h).current
calm_law o up [] legal c is off = calm_again (digest o []).current c (started_again o up c legal is)
calm_law o up (e ∷ h) legal u is off = go (is_crash e.event) refl (calm_law o up h (before_it o up e h legal))
  where
    s : Digest
    s = prelude o.who (digest o h) e.event

    go : (b : Bool) → is_crash e.event ≡ b → ((c : Current) → (digest o h).current ≡ Some c → is_rolling c.phase ≡ false → c.own ≡ Report.None) → u.own ≡ Report.None
    go true i was = calm_again (digest o h).current u (sym (crash_next o e h i) ∙ is)
    go false i was = on ((own_entry o up e h legal).from u is)
      where
        on : IsFrom (rolls o.who (digest o h) e.event) o.who s s (action o.who (digest o h) e.event) u → u.own ≡ Report.None
        on (inr n) = n.1
        on (inl w) = pass w.3
          where
            pass : IsNext (rolls o.who (digest o h) e.event) s s (action o.who (digest o h) e.event).rec w.0 u → u.own ≡ Report.None
            pass (inl k) = k.0 ∙ calm_first o e h (entered o e h legal.grown.0) i was w.0 w.1 (sym k.1 ∙ off)
            pass (inr (l, k)) = absurd (let up = k.2 in cc (up, off))

abbrev own_by : Origin → NodeKey → Entry → List Entry → Report → Report
own_by o k e h v = if tells_rollback_complete e.outs && is_current_key o k h then Report.None else if rolls_for o k e h then (if damages e.rec then Report.Mix else Report.None) else v

own_mark : IsMark Report Report.None (λ c. c.own) own_in own_by
own_mark = record {
  fresh = λ k. refl;
  first = λ o up legal c is. calm_again (digest o []).current c (started_again o up c legal is);
  crash = λ o up e h legal crash c is. calm_again (digest o h).current c (sym (crash_next o e h crash) ∙ is) ∙ sym (crashed o (node_key c.key) e h crash);
  begun = λ o k e h calm begun. flat (is_rolling_in o k (e ∷ h)) (rolled_with_damage o k (e ∷ h)) (rw (calm, begun, is_rolling_in) refl);
  goes = λ o k e h calm off. rw (calm, off, is_rolling_in, rolled_with_damage) (sums (tells_rollback_complete e.outs && is_current_key o k h) (rolls_for o k e h) (is_rolling_in o k h) (rolled_with_damage o k h) (damages e.rec));
  step = λ o up e h legal calm u is. step o up e h legal calm u is;
  taken = λ o up e h legal k j begun. taken o up e h legal k j begun;
}
  where
    flat : (a b : Bool) → a ≡ false → (if a && b then Report.Mix else Report.None) ≡ Report.None
    flat a b h = rw h refl

    crashed : (o : Origin) (k : NodeKey) (e : Entry) (h : List Entry) → is_crash e.event ≡ true → own_in o k (e ∷ h) ≡ Report.None
    crashed o k e h crash = flat (is_rolling_in o k (e ∷ h)) (rolled_with_damage o k (e ∷ h)) (rw (crash, is_rolling_in) refl)

    sums : (x y a b dam : Bool) → (if (if x then false else (y || a)) && (if y then dam else b) then Report.Mix else Report.None) ≡ (if x then Report.None else if y then (if dam then Report.Mix else Report.None) else (if a && b then Report.Mix else Report.None))
    sums true y a b dam = refl
    sums false true a b dam = refl
    sums false false a b dam = refl

    taken : (o : Origin) (up : Option Addr) (e : Entry) (h : List Entry) → IsLegal o up (e ∷ h) → (k j : NodeKey) → takes_begin o e h ≡ Some j → own_by o k e h Report.None ≡ Report.None
    taken o up e h legal k j begun = on (tells_rollback_complete e.outs && is_current_key o k h) (rolls_for o k e h) (go (entered o e h legal.grown.0))
      where
        on : (x y : Bool) → y ≡ false → (if x then Report.None else if y then (if damages e.rec then Report.Mix else Report.None) else Report.None) ≡ Report.None
        on true y h = refl
        on false y h = rw h refl

        go : Entered o e h → rolls_for o k e h ≡ false
        go (Crashed i) = rw (ap (rolls o.who (digest o h)) i) refl
        go (Begun from t b a bg off cur nil quiet sent) = rw quiet.0 refl
        go (Plain c bg same) = absurd (let free = bg in cc (free, begun))

    step : (o : Origin) (up : Option Addr) (e : Entry) (h : List Entry) → IsLegal o up (e ∷ h) → is_crash e.event ≡ false → (u : Current) → (action o.who (digest o h) e.event).next.current ≡ Some u
        → IsStepTo Report Report.None (λ c. c.own) o.who (prelude o.who (digest o h) e.event) (own_by o (node_key u.key) e h) u
    step o up e h legal calm u is = on ((own_entry o up e h legal).from u is)
      where
        d : Digest
        d = digest o h

        s : Digest
        s = prelude o.who d e.event

        m : Move
        m = action o.who d e.event

        k : NodeKey
        k = node_key u.key

        fall : Bool
        fall = rolls o.who d e.event

        first : (c : Current) → s.current ≡ Some c → is_rolling c.phase ≡ false → c.own ≡ Report.None
        first = calm_first o e h (entered o e h legal.grown.0) calm (calm_law o up h (before_it o up e h legal))

        rec_is : damages m.rec ≡ damages e.rec
        rec_is = ap (λ (x : Entry). damages x.rec) legal.grown.1

        -- after what ends its rollback nothing rolls
        ended : (tells_rollback_complete e.outs && is_current_key o k h) ≡ true → is_rolling u.phase ≡ false
        ended i = sym (sym none ∙ (key_law o up (e ∷ h) k legal).rolling ∙ mine)
          where
            flats : (b r : Bool) → (if b then false else if true then false else r) ≡ false
            flats true r = refl
            flats false r = refl

            none : is_rolling_in o k (e ∷ h) ≡ false
            none = rw (calm, is_rolling_in) (rw i (flats (begins o k e h) (rolls_for o k e h || is_rolling_in o k h)))

            mine : is_rolling (phase_of_key (digest o (e ∷ h)).current k) ≡ is_rolling u.phase
            mine = let self : is_key (node_key u.key) (node_key u.key) ≡ true = key_self (node_key u.key) in ap (λ (v : Option Current). is_rolling (phase_of_key v k)) is ∙ rw self refl

        on : IsFrom fall o.who s s m u → IsStepTo Report Report.None (λ c. c.own) o.who s (own_by o k e h) u
        on (inr n) = inr (n.0, n.1)
        on (inl w) = inl (w.0, w.1, w.2, by (tells_rollback_complete e.outs && is_current_key o k h) (rolls_for o k e h) (λ i. calm_law o up (e ∷ h) legal u is (ended i)) (λ i. made (rolled i) w.3 ∙ ap (λ (b : Bool). if b then Report.Mix else Report.None) rec_is) (λ i. stays i w.3))
          where
            v : Current
            v = w.0

            now : fall ≡ true → d.current ≡ Some v
            now i = sym (rolls_current o.who d e.event i) ∙ w.1

            unrolled : fall ≡ true → v.own ≡ Report.None
            unrolled i = first v w.1 (off (ap (λ (x : Option Current). is_early (elim x as (λ _. Phase) [ None ↦ Phase.Nil | Some c ↦ c.phase ])) (sym (now i)) ∙ rolls_from o.who d e.event i))
              where
                off : is_early v.phase ≡ true → is_rolling v.phase ≡ false
                off h = grind (arith, h)

            made : fall ≡ true → IsNext fall s s m.rec v u → u.own ≡ (if damages m.rec then Report.Mix else Report.None)
            made i (inl x) = x.0 ∙ unrolled i ∙ sym (ap (λ (b : Bool). if b then Report.Mix else Report.None) (x.2 i))
            made i (inr (l, x)) = x.3 ∙ ap (λ (r : Report). if damages m.rec then Report.Mix else r) (unrolled i)

            stays : rolls_for o k e h ≡ false → IsNext fall s s m.rec v u → u.own ≡ v.own
            stays i (inl x) = x.0
            stays i (inr (l, x)) = absurd (let on : rolls_for o k e h ≡ true = rw (x.0) (current (now x.0)) in cc (on, i))
              where
                current : d.current ≡ Some v → is_current_key o k h ≡ true
                current j = ap (λ (x : Option Current). elim x as (λ _. Bool) [ None ↦ false | Some c ↦ is_key k (node_key c.key) ]) j ∙ ap (λ (x : Key). is_key k (node_key x)) (sym w.2) ∙ key_self k

            by : (x y : Bool) → (x ≡ true → u.own ≡ Report.None) → (y ≡ true → u.own ≡ (if damages e.rec then Report.Mix else Report.None)) → (y ≡ false → u.own ≡ v.own)
                → u.own ≡ (if x then Report.None else if y then (if damages e.rec then Report.Mix else Report.None) else v.own)
            by true y i j k = i refl
            by false true i j k = j refl
            by false false i j k = k refl

            rolled : rolls_for o k e h ≡ true → fall ≡ true
            rolled i = grind (arith, i)

pub own_agrees_law : (o : Origin) (up : Option Addr) (h : List Entry) → IsLegal o up h → own_agrees o h ≡ true
own_agrees_law o up h legal = go (digest o h).current refl
  where
    go : (v : Option Current) → (digest o h).current ≡ v → elim v as (λ _. Bool) [ None ↦ true | Some c ↦ rank c.own == rank (own_in o (node_key c.key) h) ] ≡ true
    go None i = refl
    go (Some c) i = ap (λ (r : Report). rank c.own == rank r) (sym (mark_law Report Report.None (λ x. x.own) own_in own_by own_mark o up h legal c i)) ∙ number_self (rank c.own) (rank c.own) refl
