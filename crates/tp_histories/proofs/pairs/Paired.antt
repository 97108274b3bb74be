-- In every legal history, what is said and taken on a pair of marks is paired with the transactions that it belongs to.
use Rattle.std.proofs.Common.{◌≡◌, ◌+◌, ◌⊎◌, inl, inr, ℕ, suc, Bool, true, false, refl, ap, sym, subst, ◌∙◌, arith, Option, Some, None, List, [], ◌∷◌, ◌++◌, ◌==◌, length, length-append}
use Rattle.std.proofs.lemmas.Bool.Decides.{nat_tests}
use Rattle.std.proofs.lemmas.List.{append-nil}
use Rattle.tp_names.specs.declared.identifiers.Mark.{Mark}
use Rattle.tp_names.specs.declared.identifiers.Aaid.{Aaid}
use Rattle.tp_names.specs.declared.identifiers.BranchId.{BranchId}
use Rattle.tp_names.specs.declared.identifiers.Addr.{Addr}
use Rattle.tp_records.specs.declared.dialogue.DialogueRecord.{DialogueRecord}
use Rattle.tp_records.specs.declared.peer.PeerRecord.{PeerRecord}
use Rattle.tp_model.specs.Parts.{Who, Origin, Event, Entry, Link, Idle, Opening, Live, Arc, Key, Root, Under, Current, Digest}
use Rattle.tp_model.specs.Links.{is_live}
use Rattle.tp_model.specs.Dialogues.{is_nil}
use Rattle.tp_model.specs.Arcs.{find_arc, link_with}
use Rattle.tp_model.specs.Node.{next_mark, phase_of, fresh_current}
use Rattle.tp_model.specs.Events.{refusal, after_crash}
use Rattle.tp_model.specs.History.{digest}
use Rattle.tp_model.specs.Questions.{is_begin, is_at}
use Rattle.tp_model.specs.Legal.{IsGrown}
use Rattle.tp_steps.specs.Moves.{IsLate, prelude, begun_in, counted_in}
use Rattle.tp_steps.specs.Traces.{took_of}
use Rattle.tp_histories.specs.Traces.{sent_on, own_old, accepted_on}
use Rattle.tp_steps.specs.Facts.{ends_in, BranchKey, begun_keys, last_from, under_at, key_at, HasPlaceAt, KnowsAt}
use Rattle.tp_histories.specs.Pairs.{IsPaired}
use Rattle.tp_steps.proofs.links.Links.{mark_same}
use Rattle.tp_histories.proofs.trees.Late.{late_law}
use Rattle.tp_steps.proofs.every.Preludes.{Prelinked, As_before, Now_idle, Now_called, Now_offered, Now_accepted, Now_confirmed, Took_one}
use Rattle.tp_histories.proofs.marks.Traced.{traced_law, long_of}
use Rattle.tp_steps.proofs.lemmas.Words.{keys_append}
use Rattle.tp_histories.proofs.trees.Knowing.{Came, As_it_was, By_begin, By_crash, came_by, begin_seen, begin_arc}
use Rattle.tp_steps.proofs.every.EveryRecord.{find_arc_is}
use Rattle.tp_histories.proofs.trees.Above.{key_law, IsKeyOf}
use Rattle.tp_steps.proofs.lemmas.Folds.{key_last}

-- ---- what is current, and a peer

none_under : (o : Option Current) (p : ℕ) (ks : List BranchKey) (n : ℕ) → under_at o p ≡ 0 → HasPlaceAt ks n o p
none_under o p ks n z c a b s is late key at =
    let one : under_at o p ≡ 1 = ap (λ (v : Option Current). under_at v p) is ∙ rw (late, at) refl in
    absurd (cc (z, one))

nil_under : (d : Digest) (p : ℕ) → IsLate d → is_nil (phase_of d) ≡ true → (under_at d.current p ≡ 0) × (key_at d.current p ≡ None)
nil_under d p late nil = go d.current refl
  where
    go : (o : Option Current) → d.current ≡ o → (under_at o p ≡ 0) × (key_at o p ≡ None)
    go None i = (refl, refl)
    go (Some c) i =
        let old : is_nil c.phase ≡ true = rw (i, phase_of) at nil in
        absurd (cc (late c i, old))

-- after the prelude: as before, or begun by another peer
pub data Stands (d s : Digest) (p : ℕ) : Type 0 where
  Stays : s.current ≡ d.current → Stands d s p
  Begins_there : under_at s.current p ≡ 0 → key_at s.current p ≡ None → under_at d.current p ≡ 0 → Stands d s p

fresh_apart : (t : Aaid) (b : BranchId) (a : Addr) (p : ℕ) → (a.node == p) ≡ false → under_at (Some (fresh_current (Under t b a))) p ≡ 0
fresh_apart t b a p h = grind (arith, h)

pub stands : (who : Who) (d : Digest) (e : Event) (p : ℕ) (x y : Mark) → IsLate d → refusal who d e ≡ None → ((z w : Mark) → took_of z w p e ≡ []) → is_live (link_with (prelude who d e).arcs p) ≡ true ⊎ (k : Mark) × (link_with (prelude who d e).arcs p ≡ Opening k)
    → Stands d (prelude who d e) p
unfolding after_crash
stands who d e p x y late ok none open_link = go (came_by who d e ok)
  where
    go : Came who d e → Stands d (prelude who d e) p
    go (As_it_was i) = Stays i
    go (By_begin from z w q t b h a is found cur nil above) =
        let at : a.peer.node ≡ from.node = find_arc_is d.arcs from.node a found in
        let apart : (a.peer.node == p) ≡ false = ap (λ (n : ℕ). n == p) at ∙ other (from.node == p) refl in
        let n = nil_under d p late nil in
        Begins_there (ap (λ (o : Option Current). under_at o p) cur ∙ fresh_apart t b a.peer p apart) (ap (λ (o : Option Current). key_at o p) cur) n.0
      where
        other : (v : Bool) → (from.node == p) ≡ v → (from.node == p) ≡ false
        other false i = i
        other true i =
            let took : took_of z w p e ≡ DialogueRecord.Begin t b h ∷ [] = ap (took_of z w p) is ∙ grind (arith, i, mark_same z, mark_same w) in
            absurd (cc (none z w, took))
    go (By_crash is cur) = absurd (dead open_link)
      where
        idle : link_with (prelude who d e).arcs p ≡ Idle
        idle = ap (λ (f : Event). link_with (prelude who d f).arcs p) is

        dead : is_live (link_with (prelude who d e).arcs p) ≡ true ⊎ (k : Mark) × (link_with (prelude who d e).arcs p ≡ Opening k) → ⊥
        dead (inl h) = cc (h, ap is_live idle)
        dead (inr h) = cc (h.1, idle)

-- what holds of a live link after the prelude
pub record AtPrelude (o : Origin) (e : Event) (h : List Entry) (p : ℕ) (x y : Mark) : Type 0 where
  pub balance : length (begun_keys (accepted_on x y p h ++ took_of x y p e)) ≡ ends_in (sent_on x y p h) + under_at (prelude o.who (digest o h) e).current p
  pub places : HasPlaceAt (begun_keys (accepted_on x y p h ++ took_of x y p e)) (ends_in (sent_on x y p h)) (prelude o.who (digest o h) e).current p
  pub rows : KnowsAt (last_from None (sent_on x y p h)) (prelude o.who (digest o h) e).current p

at_new : (o : Origin) (e : Event) (h : List Entry) (p : ℕ) (x y : Mark) → sent_on x y p h ≡ [] → accepted_on x y p h ++ took_of x y p e ≡ [] → under_at (prelude o.who (digest o h) e).current p ≡ 0 → key_at (prelude o.who (digest o h) e).current p ≡ None
    → AtPrelude o e h p x y
at_new o e h p x y none quiet under key = record {
  balance = rw (none, quiet, under) refl;
  places = none_under (prelude o.who (digest o h) e).current p (begun_keys (accepted_on x y p h ++ took_of x y p e)) (ends_in (sent_on x y p h)) under;
  rows = λ v k. absurd (cc (key, k));
}

at_before : (o : Origin) (up : Option Addr) (e : Event) (h : List Entry) (p : ℕ) (x y : Mark) (s k : ℕ) → IsPaired o up h → link_with (digest o h).arcs p ≡ Live x y s k → took_of x y p e ≡ [] → Stands (digest o h) (prelude o.who (digest o h) e) p
    → AtPrelude o e h p x y
at_before o up e h p x y s k paired live none st = record { balance = balance st; places = places st; rows = rows st }
  where
    same : accepted_on x y p h ++ took_of x y p e ≡ accepted_on x y p h
    same = rw none (append-nil (accepted_on x y p h))

    balance : Stands (digest o h) (prelude o.who (digest o h) e) p → length (begun_keys (accepted_on x y p h ++ took_of x y p e)) ≡ ends_in (sent_on x y p h) + under_at (prelude o.who (digest o h) e).current p
    balance (Stays i) = ap (λ (l : List DialogueRecord). length (begun_keys l)) same ∙ paired.balance p x y s k live ∙ ap (λ (v : Option Current). ends_in (sent_on x y p h) + under_at v p) (sym i)
    balance (Begins_there u n z) =
        ap (λ (l : List DialogueRecord). length (begun_keys l)) same ∙ paired.balance p x y s k live ∙ ap (λ (v : ℕ). ends_in (sent_on x y p h) + v) (z ∙ sym u)

    places : Stands (digest o h) (prelude o.who (digest o h) e) p → HasPlaceAt (begun_keys (accepted_on x y p h ++ took_of x y p e)) (ends_in (sent_on x y p h)) (prelude o.who (digest o h) e).current p
    places (Stays i) =
        subst (λ (l : List DialogueRecord). HasPlaceAt (begun_keys l) (ends_in (sent_on x y p h)) (prelude o.who (digest o h) e).current p) (sym same)
        (subst (λ (v : Option Current). HasPlaceAt (begun_keys (accepted_on x y p h)) (ends_in (sent_on x y p h)) v p) (sym i) (paired.places p x y s k live))
    places (Begins_there u n z) = none_under (prelude o.who (digest o h) e).current p (begun_keys (accepted_on x y p h ++ took_of x y p e)) (ends_in (sent_on x y p h)) u

    rows : Stands (digest o h) (prelude o.who (digest o h) e) p → KnowsAt (last_from None (sent_on x y p h)) (prelude o.who (digest o h) e).current p
    rows (Stays i) = subst (λ (v : Option Current). KnowsAt (last_from None (sent_on x y p h)) v p) (sym i) (paired.rows p x y s k live)
    rows (Begins_there u n z) = λ v j. absurd (cc (n, j))

-- a record is taken on the link
other_current : (who : Who) (d : Digest) (a : Addr) (x y : Mark) (q : ℕ) (r : DialogueRecord) → is_begin r ≡ false → (prelude who d (Event.Arrive a (PeerRecord.OnAssoc x y q r))).current ≡ d.current
other_current who d a x y q (DialogueRecord.Begin t b h) n = absurd cc
other_current who d a x y q r n = refl

other_keys : (xs : List DialogueRecord) (r : DialogueRecord) → is_begin r ≡ false → begun_keys (xs ++ r ∷ []) ≡ begun_keys xs
other_keys xs r n = keys_append xs (r ∷ []) ∙ ap (λ (l : List BranchKey). begun_keys xs ++ l) (none r n) ∙ append-nil (begun_keys xs)
  where
    none : (r : DialogueRecord) → is_begin r ≡ false → begun_keys (r ∷ []) ≡ []
    none (DialogueRecord.Begin t b h) n = absurd cc
    none r n = refl

plus_zero : (a b z : ℕ) → a ≡ b + z → z ≡ 0 → a ≡ b
plus_zero a b z h i = omega (arith, h, i)

at_took : (o : Origin) (up : Option Addr) (h : List Entry) (p : ℕ) (a : Addr) (x y : Mark) (s q : ℕ) (r : DialogueRecord) → IsPaired o up h → IsGrown o up h → link_with (digest o h).arcs p ≡ Live x y s q → a.node ≡ p
    → refusal o.who (digest o h) (Event.Arrive a (PeerRecord.OnAssoc x y q r)) ≡ None → (b : Bool) → is_begin r ≡ b → AtPrelude o (Event.Arrive a (PeerRecord.OnAssoc x y q r)) h p x y
at_took o up h p a x y s q r paired legal live at ok false n =
    let e : Event = Event.Arrive a (PeerRecord.OnAssoc x y q r) in
    let cur = other_current o.who (digest o h) a x y q r n in
    let took : took_of x y p e ≡ r ∷ [] = grind (arith, nat_tests, at, mark_same x, mark_same y) in
    let keys : begun_keys (accepted_on x y p h ++ took_of x y p e) ≡ begun_keys (accepted_on x y p h) = ap (λ (l : List DialogueRecord). begun_keys (accepted_on x y p h ++ l)) took ∙ other_keys (accepted_on x y p h) r n in
    record {
      balance = ap length keys ∙ paired.balance p x y s q live ∙ ap (λ (v : Option Current). ends_in (sent_on x y p h) + under_at v p) (sym cur);
      places =
          subst (λ (l : List BranchKey). HasPlaceAt l (ends_in (sent_on x y p h)) (prelude o.who (digest o h) e).current p) (sym keys)
          (subst (λ (v : Option Current). HasPlaceAt (begun_keys (accepted_on x y p h)) (ends_in (sent_on x y p h)) v p) (sym cur) (paired.places p x y s q live));
      rows = subst (λ (v : Option Current). KnowsAt (last_from None (sent_on x y p h)) v p) (sym cur) (paired.rows p x y s q live);
    }
at_took o up h p a x y s q (DialogueRecord.Begin t b g) paired legal live at ok true n = go (find_arc (digest o h).arcs a.node) refl
  where
    d : Digest
    d = digest o h

    e : Event
    e = Event.Arrive a (PeerRecord.OnAssoc x y q (DialogueRecord.Begin t b g))

    go : (v : Option Arc) → find_arc d.arcs a.node ≡ v → AtPrelude o e h p x y
    go None i = absurd (begin_arc o.who d a x y q t b g ok i)
    go (Some c) i =
        let nil = (begin_seen o.who d a x y q t b g c ok i).0 in
        let node : c.peer.node ≡ p = find_arc_is d.arcs a.node c i ∙ at in
        let cur : (prelude o.who d e).current ≡ Some (fresh_current (Under t b c.peer)) = ap (λ (v : Option Arc). (begun_in v t b (counted_in d a)).current) i in
        let took : took_of x y p e ≡ DialogueRecord.Begin t b g ∷ [] = grind (arith, nat_tests, at, mark_same x, mark_same y) in
        let keys : begun_keys (accepted_on x y p h ++ took_of x y p e) ≡ begun_keys (accepted_on x y p h) ++ (t, b) ∷ [] = ap (λ (l : List DialogueRecord). begun_keys (accepted_on x y p h ++ l)) took ∙ keys_append (accepted_on x y p h) (DialogueRecord.Begin t b g ∷ []) in
        let before = nil_under d p (late_law o up h legal) nil in
        let under : under_at (prelude o.who d e).current p ≡ 1 = ap (λ (v : Option Current). under_at v p) cur ∙ grind (arith, nat_tests, node) in
        let long : length (begun_keys (accepted_on x y p h)) ≡ ends_in (sent_on x y p h) = plus_zero (length (begun_keys (accepted_on x y p h))) (ends_in (sent_on x y p h)) (under_at d.current p) (paired.balance p x y s q live) before.0 in
        record {
          balance = ap length keys ∙ length-append (begun_keys (accepted_on x y p h)) ((t, b) ∷ []) ∙ ap (λ (v : ℕ). v + 1) long ∙ ap (λ (v : ℕ). ends_in (sent_on x y p h) + v) (sym under);
          places = subst (λ (l : List BranchKey). HasPlaceAt l (ends_in (sent_on x y p h)) (prelude o.who d e).current p) (sym keys) (place cur long);
          rows = λ v k. absurd (cc (ap (λ (u : Option Current). key_at u p) cur, k));
        }
      where
        place : (prelude o.who d e).current ≡ Some (fresh_current (Under t b c.peer)) → length (begun_keys (accepted_on x y p h)) ≡ ends_in (sent_on x y p h)
            → HasPlaceAt (begun_keys (accepted_on x y p h) ++ (t, b) ∷ []) (ends_in (sent_on x y p h)) (prelude o.who d e).current p
        place cur long u v w z is late key under =
            let same : fresh_current (Under t b c.peer) ≡ u = cc (sym cur ∙ is) in
            let k : Under t b c.peer ≡ Under v w z = ap (λ (m : Current). m.key) same ∙ key in
            key_last (begun_keys (accepted_on x y p h)) (t, b) (ends_in (sent_on x y p h)) long ∙ pair t v b w (cc (k)) (cc (k))
          where
            pair : (t v : Aaid) (b w : BranchId) → t ≡ v → b ≡ w → ◌≡◌ {A = Option BranchKey} (Some (t, b)) (Some (v, w))
            pair t v b w i j = rw (i, j) refl
at_took o up h p a x y s q r paired legal live at ok true n = absurd (grind (arith, n))

pub empty_is : (xs : List DialogueRecord) → length xs ≡ 0 → xs ≡ []
empty_is [] h = refl
empty_is (x ∷ xs) h = absurd cc

pub at_prelude : (o : Origin) (up : Option Addr) (e : Event) (h : List Entry) (p : ℕ) (x y : Mark) (s k : ℕ) → o.start.records ≡ [] → IsPaired o up h → IsGrown o up h → refusal o.who (digest o h) e ≡ None
    → link_with (prelude o.who (digest o h) e).arcs p ≡ Live x y s k → (l : Link) → link_with (prelude o.who (digest o h) e).arcs p ≡ l → Prelinked o.who up p (digest o h) e l → AtPrelude o e h p x y
at_prelude o up e h p x y s k empty paired legal ok live l at (As_before i none) =
    at_before o up e h p x y s k paired (sym i ∙ sym at ∙ live) (none x y) (stands o.who (digest o h) e p x y (late_law o up h legal) ok none (inl (ap is_live live)))
at_prelude o up e h p x y s k empty paired legal ok live l at (Now_idle i none) = absurd (cc (sym live ∙ at ∙ i))
at_prelude o up e h p x y s k empty paired legal ok live l at (Now_called i down n none below calls) = absurd (cc (sym live ∙ at ∙ i))
at_prelude o up e h p x y s k empty paired legal ok live l at (Now_offered z i u none) = absurd (cc (sym live ∙ at ∙ i))
at_prelude o up e h p x y s k empty paired legal ok live l at (Now_accepted z i u n none nil) =
    let same : Live x y s k ≡ Live z (next_mark o.who (digest o h)) 0 0 = sym live ∙ at ∙ i in
    let zs : s ≡ 0 = cc (same) in
    let zk : k ≡ 0 = cc (same) in
    let long = long_of o.who up (digest o h) e h (traced_law o up h legal) p l (Now_accepted z i u n none nil) x y s k (sym at ∙ live) in
    let quiet = nil_under (digest o h) p (late_law o up h legal) nil in
    now (stands o.who (digest o h) e p x y (late_law o up h legal) ok none (inl (ap is_live live))) (empty_is (sent_on x y p h) (long.0 ∙ zs)) (empty_is (accepted_on x y p h ++ took_of x y p e) (long.1 ∙ zk)) quiet.0 quiet.1
  where
    now : Stands (digest o h) (prelude o.who (digest o h) e) p → sent_on x y p h ≡ [] → accepted_on x y p h ++ took_of x y p e ≡ [] → under_at (digest o h).current p ≡ 0 → key_at (digest o h).current p ≡ None → AtPrelude o e h p x y
    now (Stays j) a b c d = at_new o e h p x y a b (ap (λ (v : Option Current). under_at v p) j ∙ c) (ap (λ (v : Option Current). key_at v p) j ∙ d)
    now (Begins_there j m z) a b c d = at_new o e h p x y a b j m
at_prelude o up e h p x y s k empty paired legal ok live l at (Now_confirmed z w op i none) =
    let same : Live x y s k ≡ Live z w 0 0 = sym live ∙ at ∙ i in
    let zs : s ≡ 0 = cc (same) in
    let zk : k ≡ 0 = cc (same) in
    let long = long_of o.who up (digest o h) e h (traced_law o up h legal) p l (Now_confirmed z w op i none) x y s k (sym at ∙ live) in
    now (stands o.who (digest o h) e p x y (late_law o up h legal) ok none (inl (ap is_live live))) (empty_is (sent_on x y p h) (long.0 ∙ zs)) (empty_is (accepted_on x y p h ++ took_of x y p e) (long.1 ∙ zk)) (not_under (digest o h).current refl) (paired.closed p z op)
  where
    own : is_at up p ≡ false
    own =
        let a = (traced_law o up h legal).own p in
        let b : own_old o.who (digest o h) up p (Opening z) ≡ true = subst (λ (v : Link). own_old o.who (digest o h) up p v ≡ true) op a in
        grind (arith, b)

    not_under : (v : Option Current) → (digest o h).current ≡ v → under_at (digest o h).current p ≡ 0
    not_under None j = ap (λ (u : Option Current). under_at u p) j
    not_under (Some c) j = ap (λ (u : Option Current). under_at u p) j ∙ by_key c.key refl (key_law o up h c empty legal j)
      where
        by_key : (v : Key) → c.key ≡ v → IsKeyOf o.who up c.key → under_at (Some c) p ≡ 0
        by_key (Root t) m f = grind (arith, m)
        by_key (Under t b a) m f =
            let above : is_at up a.node ≡ true = subst (λ (u : Key). IsKeyOf o.who up u) m f in
            side (a.node == p) refl above
          where
            side : (u : Bool) → (a.node == p) ≡ u → is_at up a.node ≡ true → under_at (Some c) p ≡ 0
            side false n g = grind (arith, m, n)
            side true n g = let eq : a.node ≡ p = grind (arith, nat_tests, n) in absurd (cc (own, subst (λ (q : ℕ). is_at up q ≡ true) eq g))

    now : Stands (digest o h) (prelude o.who (digest o h) e) p → sent_on x y p h ≡ [] → accepted_on x y p h ++ took_of x y p e ≡ [] → under_at (digest o h).current p ≡ 0 → key_at (digest o h).current p ≡ None → AtPrelude o e h p x y
    now (Stays j) a b c d = at_new o e h p x y a b (ap (λ (v : Option Current). under_at v p) j ∙ c) (ap (λ (v : Option Current). key_at v p) j ∙ d)
    now (Begins_there j m z) a b c d = at_new o e h p x y a b j m
at_prelude o up e h p x y s k empty paired legal ok live l at (Took_one a z w v u r i j node ev) =
    let same : Live x y s k ≡ Live z w v (suc u) = sym live ∙ at ∙ j in
    let ez : z ≡ x = cc (same) in
    let ew : w ≡ y = cc (same) in
    let okf : refusal o.who (digest o h) (Event.Arrive a (PeerRecord.OnAssoc z w u r)) ≡ None = subst (λ (f : Event). refusal o.who (digest o h) f ≡ None) ev ok in
    let one : AtPrelude o (Event.Arrive a (PeerRecord.OnAssoc z w u r)) h p z w = at_took o up h p a z w v u r paired legal i node okf (is_begin r) refl in
    subst (λ (f : Event). AtPrelude o f h p x y) (sym ev)
    (subst (λ (m : Mark). AtPrelude o (Event.Arrive a (PeerRecord.OnAssoc z w u r)) h p x m) ew (subst (λ (m : Mark). AtPrelude o (Event.Arrive a (PeerRecord.OnAssoc z w u r)) h p m w) ez one))
