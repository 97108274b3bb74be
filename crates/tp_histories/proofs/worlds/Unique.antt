-- In every run: a node enters a tree once, and who drew the tree's mark is not below it.
use Rattle.std.proofs.Common.{◌≡◌, ◌≤◌, ◌⊎◌, inl, inr, ℕ, suc, Bool, true, false, cond, refl, ap, sym, subst, ◌∙◌, arith, Option, Some, None, List, [], ◌∷◌, ◌++◌, ◌+◌, ◌&&◌, ◌||◌, ◌==◌, length, length-append}
use Rattle.std.proofs.lemmas.Bool.Decides.{nat_tests}
use Rattle.tp_names.specs.declared.identifiers.Mark.{Mark}
use Rattle.tp_names.specs.declared.identifiers.Aaid.{Aaid}
use Rattle.tp_names.specs.declared.identifiers.BranchId.{BranchId}
use Rattle.tp_names.specs.declared.identifiers.Addr.{Addr}
use Rattle.tp_records.specs.declared.dialogue.DialogueRecord.{DialogueRecord}
use Rattle.tp_records.specs.declared.dialogue.Holder.{Holder}
use Rattle.tp_records.specs.declared.peer.PeerRecord.{PeerRecord}
use Rattle.tp_model.specs.Parts.{Origin, Event, Entry, Arc, Digest}
use Rattle.tp_model.specs.Arcs.{find_arc}
use Rattle.tp_model.specs.Node.{is_superior}
use Rattle.tp_model.specs.Events.{refusal, after}
use Rattle.tp_model.specs.History.{digest}
use Rattle.tp_model.specs.World.{Node, Frame, number_of, find_node, put_node}
use Rattle.tp_model.specs.Happenings.{Happening, run}
use Rattle.tp_model.specs.Legal.{IsGrown}
use Rattle.tp_steps.specs.Histories.{brought}
use Rattle.tp_histories.specs.Histories.{HasSent, HasBrought}
use Rattle.tp_histories.specs.Worlds.{place, IsGood, grown_node, Comes}
use Rattle.tp_steps.specs.Traces.{took_of, is_old}
use Rattle.tp_histories.specs.Traces.{accepted_on}
use Rattle.tp_histories.specs.Members.{is_begun_by, has_taken_begin, is_own, is_known, IsOnce, Drawer, IsUnique}
use Rattle.tp_histories.proofs.worlds.Nodes.{find_put, find_append, place_put, place_append}
use Rattle.tp_steps.proofs.links.Links.{mark_same}
use Rattle.tp_histories.proofs.trees.Late.{late_law}
use Rattle.tp_steps.proofs.links.Marks.{old_stays}
use Rattle.tp_histories.proofs.marks.Traced.{told, traced_law}
use Rattle.tp_histories.proofs.worlds.Prefix.{took_place}
use Rattle.tp_histories.proofs.worlds.Good.{Sender, was_sent, Step, law}
use Rattle.tp_steps.proofs.lemmas.Equality.{aaids_equal, or_case, and_right}
use Rattle.tp_steps.proofs.every.EveryRecord.{find_arc_is}
use Rattle.tp_histories.proofs.trees.Knowing.{begin_seen, begin_arc}
use Rattle.tp_histories.proofs.worlds.TreeMembers.{sent_known, begin_once}
use Rattle.std.proofs.Math.Nat.{le_refl}
use Rattle.tp_steps.proofs.lemmas.Options.{some_same}
use Rattle.tp_steps.proofs.every.Course.{past_first}

-- ---- a node's history

longer : (q a b n : ℕ) → suc q ≤ a → n ≡ a + b → suc q ≤ n
longer q a b n h i = omega (arith, h, i)

exactly : (q a n : ℕ) → a ≡ q → n ≡ a + 1 → suc q ≤ n
exactly q a n h i = omega (arith, h, i)

-- the history took this record, as an arrival
abbrev pub TookOn : List Entry → Addr → Mark → Mark → ℕ → DialogueRecord → Type 0
TookOn [] c x y q r = ⊥
TookOn (e ∷ h) c x y q r = (e.event ≡ Event.Arrive c (PeerRecord.OnAssoc x y q r)) ⊎ TookOn h c x y q r

took_itself : (c : Addr) (x y : Mark) (q : ℕ) (r : DialogueRecord) → took_of x y c.node (Event.Arrive c (PeerRecord.OnAssoc x y q r)) ≡ r ∷ []
took_itself c x y q r = grind (arith, nat_tests, mark_same x, mark_same y)

-- a record that was taken stands among those
pub taken_below : (o : Origin) (up : Option Addr) (h : List Entry) (c : Addr) (x y : Mark) (q : ℕ) (r : DialogueRecord) → IsGrown o up h → TookOn h c x y q r → suc q ≤ length (accepted_on x y c.node h)
taken_below o up [] c x y q r legal t = absurd t
taken_below o up (e ∷ h) c x y q r legal (inr t) =
    let old = taken_below o up h c x y q r legal.3 t in
    let sum = length-append (accepted_on x y c.node h) (took_of x y c.node e.event) in
    longer q (length (accepted_on x y c.node h)) (length (took_of x y c.node e.event)) (length (accepted_on x y c.node h ++ took_of x y c.node e.event)) old sum
taken_below o up (e ∷ h) c x y q r legal (inl i) =
    let d : Digest = digest o h in
    let f : Event = Event.Arrive c (PeerRecord.OnAssoc x y q r) in
    let ok : refusal o.who d f ≡ None = subst (λ (g : Event). refusal o.who d g ≡ None) i legal.0 in
    let place = took_place o up h c x y q r (traced_law o up h legal.3) ok in
    let took : took_of x y c.node e.event ≡ r ∷ [] = ap (took_of x y c.node) i ∙ took_itself c x y q r in
    let sum : length (accepted_on x y c.node h ++ took_of x y c.node e.event) ≡ length (accepted_on x y c.node h) + 1 =
    length-append (accepted_on x y c.node h) (took_of x y c.node e.event) ∙ ap (λ (rs : List DialogueRecord). length (accepted_on x y c.node h) + length rs) took in
    exactly q (length (accepted_on x y c.node h)) (length (accepted_on x y c.node h ++ took_of x y c.node e.event)) place sum

pub took_has : (h : List Entry) (c : Addr) (x y : Mark) (q : ℕ) (r : DialogueRecord) → TookOn h c x y q r → HasBrought h c (PeerRecord.OnAssoc x y q r)
took_has [] c x y q r t = t
took_has (e ∷ h) c x y q r (inl i) = inl (ap brought i)
took_has (e ∷ h) c x y q r (inr t) = inr (took_has h c x y q r t)

-- a Begin that was taken, from the node's one superior
pub record TookBegin (up : Option Addr) (h : List Entry) (t : Aaid) : Type 0 where
  pub from : Addr
  pub x : Mark
  pub y : Mark
  pub seq : ℕ
  pub id : BranchId
  pub holder : Holder
  pub took : TookOn h from x y seq (DialogueRecord.Begin t id holder)
  pub superior : Addr
  pub is : up ≡ Some superior
  pub at : superior.node ≡ from.node

pub superior_is : (d : Digest) (up : Option Addr) (p : ℕ) → ((a : Addr) → d.superior ≡ Some a → up ≡ Some a) → is_superior d p ≡ true → (s : Addr) × (up ≡ Some s) × (s.node ≡ p)
superior_is d up p under h = go d.superior refl
  where
    go : (o : Option Addr) → d.superior ≡ o → (s : Addr) × (up ≡ Some s) × (s.node ≡ p)
    go None i = absurd (grind (arith, h, i))
    go (Some s) i = (s, under s i, grind (arith, nat_tests, h, i))

-- what an event that takes a Begin is
pub record Enters (up : Option Addr) (e : Event) (t : Aaid) : Type 0 where
  pub from : Addr
  pub x : Mark
  pub y : Mark
  pub seq : ℕ
  pub id : BranchId
  pub holder : Holder
  pub is : e ≡ Event.Arrive from (PeerRecord.OnAssoc x y seq (DialogueRecord.Begin t id holder))
  pub superior : Addr
  pub under : up ≡ Some superior
  pub at : superior.node ≡ from.node

pub enters : (o : Origin) (up : Option Addr) (h : List Entry) (e : Event) (t : Aaid) → IsGrown o up h → refusal o.who (digest o h) e ≡ None → is_begun_by t e ≡ true → Enters up e t
enters o up h (Event.Arrive from (PeerRecord.OnAssoc x y q (DialogueRecord.Begin u b k))) t legal ok i = go (find_arc (digest o h).arcs from.node) refl
  where
    d : Digest
    d = digest o h

    e : Event
    e = Event.Arrive from (PeerRecord.OnAssoc x y q (DialogueRecord.Begin u b k))

    go : (v : Option Arc) → find_arc d.arcs from.node ≡ v → Enters up e t
    go None j = absurd (begin_arc o.who d from x y q u b k ok j)
    go (Some a) j =
        let seen = begin_seen o.who d from x y q u b k a ok j in
        let at : a.peer.node ≡ from.node = find_arc_is d.arcs from.node a j in
        let s = superior_is d up a.peer.node (traced_law o up h legal).under seen.1 in
        record { from = from; x = x; y = y; seq = q; id = b; holder = k; is = ap (λ (v : Aaid). Event.Arrive from (PeerRecord.OnAssoc x y q (DialogueRecord.Begin v b k))) (sym (aaids_equal t u i)); superior = s.0; under = s.1; at = s.2 ∙ at }
enters o up h e t legal ok i = absurd (grind (arith, i))

pub took_begin : (o : Origin) (up : Option Addr) (h : List Entry) (t : Aaid) → IsGrown o up h → has_taken_begin t h ≡ true → TookBegin up h t
took_begin o up [] t legal k = absurd cc
took_begin o up (e ∷ h) t legal k = go (or_case (is_begun_by t e.event) (has_taken_begin t h) k) (took_begin o up h t legal.3)
  where
    go : (is_begun_by t e.event ≡ true) ⊎ (has_taken_begin t h ≡ true) → (has_taken_begin t h ≡ true → TookBegin up h t) → TookBegin up (e ∷ h) t
    go (inl i) rest =
        let n = enters o up h e.event t legal.3 legal.0 i in
        record { from = n.from; x = n.x; y = n.y; seq = n.seq; id = n.id; holder = n.holder; took = inl n.is; superior = n.superior; is = n.under; at = n.at }
    go (inr i) rest =
        let b = rest i in
        record { from = b.from; x = b.x; y = b.y; seq = b.seq; id = b.id; holder = b.holder; took = inr b.took; superior = b.superior; is = b.is; at = b.at }

-- ---- in a world

after_less : (a b c : ℕ) → a ≤ b → suc b ≤ c → a ≤ c
after_less a b c h i = omega (arith, h, i)

no_place : (q r l m : ℕ) → suc r ≤ l → m ≡ q → l ≡ m → q ≡ r → ⊥
no_place q r l m h i j k = absurd (omega (arith, h, i, j, k))

-- ---- a node comes

pub unique_comes : (ns : List Node) (fs : List Frame) (x : Node) → Comes ns x → IsGood ns fs → IsUnique ns → IsUnique (ns ++ x ∷ [])
unique_comes ns fs x c g p = record {
  once = λ n y i. once n y (number_of x == n) refl i;
  drawn = λ n y t i k. drawn n y t (number_of x == n) refl i k;
}
  where
    at : (n : ℕ) → find_node (ns ++ x ∷ []) n ≡ cond (number_of x == n) (Some x) (find_node ns n)
    at n = find_append ns x n c.none

    new : (n : ℕ) (y : Node) → (number_of x == n) ≡ true → find_node (ns ++ x ∷ []) n ≡ Some y → x ≡ y
    new n y b i = grind (arith, at n, b, i)

    old : (n : ℕ) (y : Node) → (number_of x == n) ≡ false → find_node (ns ++ x ∷ []) n ≡ Some y → find_node ns n ≡ Some y
    old n y b i = grind (arith, at n, b, i)

    once : (n : ℕ) (y : Node) (b : Bool) → (number_of x == n) ≡ b → find_node (ns ++ x ∷ []) n ≡ Some y → IsOnce y.origin y.history
    once n y true b i = subst (λ (z : Node). IsOnce z.origin z.history) (new n y b i) (subst (λ (h : List Entry). IsOnce x.origin h) (sym c.bare) tt)
    once n y false b i = p.once n y (old n y b i)

    here : find_node (ns ++ x ∷ []) (number_of x) ≡ Some x
    here = grind (arith, nat_tests, at (number_of x))

    self : (t : Aaid) → is_known x.origin t x.history ≡ true → Drawer (ns ++ x ∷ []) t (number_of x)
    self t k =
        let bare : has_taken_begin t x.history ≡ false = ap (has_taken_begin t) c.bare in
        let own_old = first (is_own x.origin.who t && is_old x.origin.who (digest x.origin x.history) t.mark) (has_taken_begin t x.history) k bare in
        let own : t.mark.node ≡ number_of x = grind (arith, nat_tests, own_old) in
        let aged : is_old x.origin.who (digest x.origin x.history) t.mark ≡ true = and_right (is_own x.origin.who t) (is_old x.origin.who (digest x.origin x.history) t.mark) own_old in
        record { node = x; found = ap (find_node (ns ++ x ∷ [])) own ∙ here; old = aged; before = rw own (le_refl (place (ns ++ x ∷ []) (number_of x))) }
      where
        first : (a b : Bool) → (a || b) ≡ true → b ≡ false → a ≡ true
        first true b h i = refl
        first false b h i = absurd (cc (h, i))

    drawn : (n : ℕ) (y : Node) (t : Aaid) (b : Bool) → (number_of x == n) ≡ b → find_node (ns ++ x ∷ []) n ≡ Some y → is_known y.origin t y.history ≡ true → Drawer (ns ++ x ∷ []) t n
    drawn n y t true b i k =
        let m : number_of x ≡ n = grind (arith, nat_tests, b) in
        subst (λ (v : ℕ). Drawer (ns ++ x ∷ []) t v) m (self t (subst (λ (z : Node). is_known z.origin t z.history ≡ true) (sym (new n y b i)) k))
    drawn n y t false b i k =
        let d = p.drawn n y t (old n y b i) k in
        let one : place (ns ++ x ∷ []) t.mark.node ≡ place ns t.mark.node = place_append ns x d.node t.mark.node d.found in
        let two : place (ns ++ x ∷ []) n ≡ place ns n = place_append ns x y n (old n y b i) in
        record { node = d.node; found = behind t.mark.node d.node d.found; old = d.old; before = rw (one, two) d.before }
      where
        behind : (m : ℕ) (u : Node) → find_node ns m ≡ Some u → find_node (ns ++ x ∷ []) m ≡ Some u
        behind m u f = go (number_of x == m) refl
          where
            go : (v : Bool) → (number_of x == m) ≡ v → find_node (ns ++ x ∷ []) m ≡ Some u
            go true j =
                let same : number_of x ≡ m = grind (arith, nat_tests, j) in
                let none : find_node ns m ≡ None = ap (find_node ns) (sym same) ∙ c.none in
                absurd (cc (none, f))
            go false j = grind (arith, at m, j, f)

-- ---- an event

pub unique_event : (ns : List Node) (fs : List Frame) (x : Node) (e : Event) → Step ns fs x e → IsUnique ns → IsUnique (put_node ns (grown_node x e))
unique_event ns fs x e st p = record {
  once = λ n z i. once n z (number_of x == n) refl i;
  drawn = λ n z t i k. drawn n z t (number_of x == n) refl i k;
}
  where
    o : Origin
    o = x.origin

    d : Digest
    d = digest o x.history

    y : Node
    y = grown_node x e

    now : List Node
    now = put_node ns y

    legal : IsGrown o x.superior x.history
    legal = st.good.legal (number_of x) x st.accepts.here

    at : (n : ℕ) → find_node now n ≡ cond (number_of x == n) (Some y) (find_node ns n)
    at n = find_put ns y x n st.accepts.here

    new : (n : ℕ) (z : Node) → (number_of x == n) ≡ true → find_node now n ≡ Some z → y ≡ z
    new n z b i = grind (arith, at n, b, i)

    old : (n : ℕ) (z : Node) → (number_of x == n) ≡ false → find_node now n ≡ Some z → find_node ns n ≡ Some z
    old n z b i = grind (arith, at n, b, i)

    here : find_node now (number_of x) ≡ Some y
    here = grind (arith, nat_tests, at (number_of x))

    sender : (t : Aaid) (n : Enters x.superior e t) → Sender ns n.from (number_of x) (PeerRecord.OnAssoc n.x n.y n.seq (DialogueRecord.Begin t n.id n.holder))
    sender t n =
        was_sent ns fs n.from (number_of x) (PeerRecord.OnAssoc n.x n.y n.seq (DialogueRecord.Begin t n.id n.holder)) st.good.sent
        (st.accepts.came n.from (PeerRecord.OnAssoc n.x n.y n.seq (DialogueRecord.Begin t n.id n.holder)) (ap brought n.is))

    legal_up : (t : Aaid) (n : Enters x.superior e t) → IsGrown (sender t n).node.origin (sender t n).node.superior (sender t n).node.history
    legal_up t n = st.good.legal n.from.node (sender t n).node (sender t n).found

    -- who drew it is not after the superior, and so before the node
    drawer : (t : Aaid) (n : Enters x.superior e t) → Drawer ns t n.from.node
    drawer t n =
        let s = sender t n in
        p.drawn n.from.node s.node t s.found (sent_known s.node.origin s.node.superior s.node.history s.to n.x n.y n.seq t n.id n.holder (st.good.fresh n.from.node s.node s.found) (legal_up t n) s.sent)

    less : (t : Aaid) (n : Enters x.superior e t) → suc (place ns n.from.node) ≤ place ns (number_of x)
    less t n = subst (λ (m : ℕ). suc (place ns m) ≤ place ns (number_of x)) n.at (st.good.above (number_of x) x n.superior st.accepts.here n.under).before

    foreign : (t : Aaid) (n : Enters x.superior e t) (b : Bool) → is_own o.who t ≡ b → is_own o.who t ≡ false
    foreign t n false i = i
    foreign t n true i =
        let own : t.mark.node ≡ number_of x = grind (arith, nat_tests, i) in
        absurd (past_first (place ns t.mark.node) (place ns n.from.node) (place ns (number_of x)) (drawer t n).before (less t n) (ap (place ns) (sym own)))

    untaken : (t : Aaid) (n : Enters x.superior e t) (b : Bool) → has_taken_begin t x.history ≡ b → has_taken_begin t x.history ≡ false
    untaken t n false i = i
    untaken t n true i =
        let b = took_begin o x.superior x.history t legal i in
        let s = sender t n in
        let sup : b.superior ≡ n.superior = some_same b.superior n.superior (sym b.is ∙ n.under) in
        let from : b.from.node ≡ n.from.node = sym b.at ∙ ap (λ (a : Addr). a.node) sup ∙ n.at in
        let frame = st.good.taken (number_of x) x b.from (PeerRecord.OnAssoc b.x b.y b.seq (DialogueRecord.Begin t b.id b.holder)) st.accepts.here (took_has x.history b.from b.x b.y b.seq (DialogueRecord.Begin t b.id b.holder) b.took) in
        let u = was_sent ns fs b.from (number_of x) (PeerRecord.OnAssoc b.x b.y b.seq (DialogueRecord.Begin t b.id b.holder)) st.good.sent frame in
        let one : u.node ≡ s.node = some_same u.node s.node (sym u.found ∙ ap (find_node ns) from ∙ s.found) in
        let old_sent : HasSent s.node.history u.to (PeerRecord.OnAssoc b.x b.y b.seq (DialogueRecord.Begin t b.id b.holder)) =
        subst (λ (v : Node). HasSent v.history u.to (PeerRecord.OnAssoc b.x b.y b.seq (DialogueRecord.Begin t b.id b.holder))) one u.sent in
        let same =
        begin_once s.node.origin s.node.superior s.node.history s.to u.to n.x n.y b.x b.y n.seq b.seq t n.id b.id n.holder b.holder (st.good.fresh n.from.node s.node s.found) (legal_up t n) (p.once n.from.node s.node s.found)
        (s.at ∙ sym u.at) s.sent old_sent in
        let below = taken_below o x.superior x.history b.from b.x b.y b.seq (DialogueRecord.Begin t b.id b.holder) legal b.took in
        let ok : refusal o.who d (Event.Arrive n.from (PeerRecord.OnAssoc n.x n.y n.seq (DialogueRecord.Begin t n.id n.holder))) ≡ None = subst (λ (f : Event). refusal o.who d f ≡ None) n.is st.accepts.ok in
        let place_now = took_place o x.superior x.history n.from n.x n.y n.seq (DialogueRecord.Begin t n.id n.holder) (traced_law o x.superior x.history legal) ok in
        let lengths : length (accepted_on b.x b.y b.from.node x.history) ≡ length (accepted_on n.x n.y n.from.node x.history) = rw (same.0, same.1, from) refl in
        absurd (no_place n.seq b.seq (length (accepted_on b.x b.y b.from.node x.history)) (length (accepted_on n.x n.y n.from.node x.history)) below place_now lengths same.2)

    once_now : IsOnce o y.history
    once_now = (λ t i. let n = enters o x.superior x.history e t legal st.accepts.ok i in (foreign t n (is_own o.who t) refl, untaken t n (has_taken_begin t x.history) refl), p.once (number_of x) x st.accepts.here)

    once : (n : ℕ) (z : Node) (b : Bool) → (number_of x == n) ≡ b → find_node now n ≡ Some z → IsOnce z.origin z.history
    once n z true b i = subst (λ (u : Node). IsOnce u.origin u.history) (new n z b i) once_now
    once n z false b i = p.once n z (old n z b i)

    grown : (t : Aaid) (m : ℕ) → Drawer ns t m → Drawer now t m
    grown t m k = go (number_of x == t.mark.node) refl
      where
        before : place now t.mark.node ≤ place now m
        before = rw (place_put ns y t.mark.node, place_put ns y m) k.before

        go : (b : Bool) → (number_of x == t.mark.node) ≡ b → Drawer now t m
        go true b =
            let same : number_of x ≡ t.mark.node = grind (arith, nat_tests, b) in
            let one : k.node ≡ x = some_same k.node x (sym k.found ∙ ap (find_node ns) (sym same) ∙ st.accepts.here) in
            let was : is_old o.who d t.mark ≡ true = subst (λ (u : Node). is_old u.origin.who (digest u.origin u.history) t.mark ≡ true) one k.old in
            let traced = traced_law o x.superior x.history legal in
            let aged : is_old o.who (after o.who d e) t.mark ≡ true = old_stays o.who d (after o.who d e) t.mark (told o.who x.superior 0 d e (late_law o x.superior x.history legal) traced.under traced.declared st.accepts.ok).drawn was in
            record { node = y; found = ap (find_node now) (sym same) ∙ here; old = aged; before = before }
        go false b = record { node = k.node; found = grind (arith, at t.mark.node, b, k.found); old = k.old; before = before }

    drawn_now : (t : Aaid) → is_known o t y.history ≡ true → Drawer now t (number_of x)
    drawn_now t k = elim (or_case (is_own o.who t && is_old o.who (digest o y.history) t.mark) (has_taken_begin t y.history) k) [
      | inl i ↦
          (let own : t.mark.node ≡ number_of x = grind (arith, nat_tests, i) in
          record {
            node = y;
            found = ap (find_node now) own ∙ here;
            old = and_right (is_own o.who t) (is_old o.who (digest o y.history) t.mark) i;
            before = rw own (le_refl (place now (number_of x)));
          })
      | inr i ↦ elim (or_case (is_begun_by t e) (has_taken_begin t x.history) i) [
        | inl j ↦
            (let n = enters o x.superior x.history e t legal st.accepts.ok j in
            let k = drawer t n in
            grown t (number_of x) (record { node = k.node; found = k.found; old = k.old; before = after_less (place ns t.mark.node) (place ns n.from.node) (place ns (number_of x)) k.before (less t n) }))
        | inr j ↦ grown t (number_of x) (p.drawn (number_of x) x t st.accepts.here (rw j (grind arith)))
      ]
    ]

    drawn : (n : ℕ) (z : Node) (t : Aaid) (b : Bool) → (number_of x == n) ≡ b → find_node now n ≡ Some z → is_known z.origin t z.history ≡ true → Drawer now t n
    drawn n z t true b i k =
        let m : number_of x ≡ n = grind (arith, nat_tests, b) in
        subst (λ (v : ℕ). Drawer now t v) m (drawn_now t (subst (λ (u : Node). is_known u.origin t u.history ≡ true) (sym (new n z b i)) k))
    drawn n z t false b i k = grown t n (p.drawn n z t (old n z b i) k)

-- every run
pub unique_run : (es : List Happening) → IsUnique (run es).nodes
unique_run es = law (λ ns fs. IsUnique ns) (record {
  start = record { once = λ n x i. absurd (cc (i)); drawn = λ n x t i k. absurd (cc (i)) };
  comes = λ ns fs x c g p. unique_comes ns fs x c g p;
  event = λ ns fs x e st b p. unique_event ns fs x e st p;
  mark = λ ns fs k p. p;
}) es
