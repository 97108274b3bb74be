-- What one record more makes of what the lives of a node leave.
use Rattle.std.proofs.Common.{◌≡◌, ◌==◌, ◌⊎◌, inl, inr, ℕ, Bool, true, false, refl, ap, sym, subst, ◌∙◌, arith, Option, Some, None, List, [], ◌∷◌, ◌++◌, if◌then◌else◌}
use Rattle.std.proofs.lemmas.Bool.Decides.{nat_tests}
use Rattle.tp_names.specs.declared.identifiers.NodeKey.{NodeKey}
use Rattle.tp_names.specs.Same.{is_key}
use Rattle.tp_names.proofs.Sames.{both}
use Rattle.tp_logrec.specs.declared.record.LogRec.{LogRec}
use Rattle.tp_logrec.specs.declared.owner.Owner.{Owner}
use Rattle.tp_logrec.specs.Order.{is_owner, owner_of, is_bound, is_end, is_begun, holds, may_follow, last_or, last, those, is_ready, Life, with_record, without}
use Rattle.tp_logrec.proofs.Sames.{owner_same}
use Rattle.tp_logrec.proofs.Stands.{last_or-more}
use Rattle.tp_logrec.proofs.Briefs.{AllOwn, Absent, only, own_last}
use Rattle.tp_logrec.proofs.LifeOrders.{in_life, runs, runs_more}
use Rattle.tp_logrec.proofs.LivesInOrder.{ends_bound, loose_next}
use Rattle.tp_model.specs.declared.recovery.Kept.{Kept}
use Rattle.tp_model.specs.Parts.{Current}
use Rattle.tp_model.specs.Transactions.{node_key}
use Rattle.tp_model.specs.Recovery.{put_kept, without_kept}
use Rattle.tp_model.specs.Events.{current_by, current_from, without_current}
use Rattle.tp_briefs.proofs.Lives.{kept_of, kept_in, bound_is_unkept, loose_is_none, of_its_key}
use Rattle.tp_briefs.proofs.Rows.{some, Living, Row, none_without}

-- ---- what they leave

abbrev pub keep_first : Option Kept → List Kept → List Kept
keep_first None ks = ks
keep_first (Some k) ks = k ∷ ks

abbrev pub keeps : List Life → List Kept
keeps [] = []
keeps (l ∷ ls) = keep_first (kept_in (last l.records)) (keeps ls)

-- the last life says what is current
abbrev pub current_over : Option Current → List Life → Option Current
current_over c [] = c
current_over c (l ∷ ls) = current_over (current_from None l.records) ls

-- ---- keys

same_key : (a b : Owner) → is_owner a b ≡ true → is_key a.key b.key ≡ true
same_key a b h = (both (a.node == b.node) (is_key a.key b.key) h).1

-- at one node
other_key : (n : ℕ) (a b : Owner) → (a.node == n) ≡ true → (b.node == n) ≡ true → is_owner a b ≡ false → is_key a.key b.key ≡ false
other_key n a b i j h = grind (arith, nat_tests, i, j, h)

-- a Damage that a life has last is of its key
damage_key : (o : Owner) (r : LogRec) (k : Kept) → owner_of r ≡ Some o → kept_of r ≡ Some k → (k.key ≡ o.key) × (k.forgot ≡ false)
damage_key o (LogRec.Boot n) k own h = absurd (cc (h))
damage_key o (LogRec.Ready n j s cs) k own h = absurd (cc (h))
damage_key o (LogRec.Heuristic n j u) k own h = absurd (cc (h))
damage_key o (LogRec.Commit n j s cs) k own h = absurd (cc (h))
damage_key o (LogRec.Damage n j s u p cs) k own h =
    let same : ◌≡◌ {A = Owner} (record { node = n; key = j }) o = cc (own) in
    let is : ◌≡◌ {A = Kept} (record { node = n; key = j; superior = s; side = u; report = p; owed = cs; forgot = false }) k = cc (h) in
    (ap (λ (x : Kept). x.key) (sym is) ∙ ap (λ (w : Owner). w.key) same, ap (λ (x : Kept). x.forgot) (sym is))
damage_key o (LogRec.End n j u) k own h = absurd (cc (h))

-- a record of a key that is no Damage binds it
unkept_is_bound : (o : Owner) (r : LogRec) → owner_of r ≡ Some o → is_end r ≡ false → kept_of r ≡ None → is_bound r ≡ true
unkept_is_bound o (LogRec.Boot n) own alive h = absurd (cc (own))
unkept_is_bound o (LogRec.Ready n j s cs) own alive h = refl
unkept_is_bound o (LogRec.Heuristic n j u) own alive h = refl
unkept_is_bound o (LogRec.Commit n j s cs) own alive h = refl
unkept_is_bound o (LogRec.Damage n j s u p cs) own alive h = absurd (cc (h))
unkept_is_bound o (LogRec.End n j u) own alive h = absurd (cc (alive))

-- ---- a life goes on

last_more : (rs : List LogRec) (r : LogRec) → last (rs ++ r ∷ []) ≡ Some r
last_more rs r = last_or-more None rs r

pub from_more : (c : Option Current) (rs : List LogRec) (r : LogRec) → current_from c (rs ++ r ∷ []) ≡ current_by r (current_from c rs)
from_more c [] r = refl
from_more c (q ∷ rs) r = from_more (current_by q c) rs r

-- where a record binds the key, the one before it did
bound_before : (boot : ℕ) (rs : List LogRec) (r : LogRec) → is_bound r ≡ true → runs boot None None (rs ++ r ∷ []) ≡ true → kept_in (last rs) ≡ None
bound_before boot rs r h e = go (last rs) refl
  where
    may : may_follow (in_life boot (last rs) (last_or None (those is_ready rs))) r ≡ true
    may = (both (runs boot None None rs) (may_follow (in_life boot (last rs) (last_or None (those is_ready rs))) r) (sym (runs_more boot None None rs r) ∙ e)).1

    on : (q : LogRec) → last rs ≡ Some q → (b : Bool) → is_bound q ≡ b → kept_of q ≡ None
    on q i true b = bound_is_unkept q b
    on q i false b =
        let loose : is_bound r ≡ false = loose_next boot (Some q) (last_or None (those is_ready rs)) r refl b (ap (λ (x : Option LogRec). may_follow (in_life boot x (last_or None (those is_ready rs))) r) (sym i) ∙ may) in
        absurd (cc (h, loose))

    go : (q : Option LogRec) → last rs ≡ q → kept_in (last rs) ≡ None
    go None i = ap kept_in i
    go (Some q) i = ap kept_in i ∙ on q i (is_bound q) refl

-- ---- kept

pub keeps_bound : (n boot : ℕ) (ls : List Life) (o : Owner) (r : LogRec) → is_bound r ≡ true → Row n boot (with_record ls o r) → keeps (with_record ls o r) ≡ keeps ls
keeps_bound n boot [] o r h row = ap (λ (k : Option Kept). keep_first k []) (bound_is_unkept r h)
keeps_bound n boot (l ∷ ls) o r h row = go (is_owner l.owner o) (keeps_bound n boot ls o r h) row
  where
    go : (b : Bool) → (Row n boot (with_record ls o r) → keeps (with_record ls o r) ≡ keeps ls) → Row n boot (elim b [ true ↦ record l { records = l.records ++ r ∷ [] } ∷ ls | false ↦ l ∷ with_record ls o r ])
        → keeps (elim b [ true ↦ record l { records = l.records ++ r ∷ [] } ∷ ls | false ↦ l ∷ with_record ls o r ]) ≡ keeps (l ∷ ls)
    go true rest row =
        ap (λ (k : Option Kept). keep_first k (keeps ls)) (ap kept_in (last_more l.records r) ∙ bound_is_unkept r h)
        ∙ sym (ap (λ (k : Option Kept). keep_first k (keeps ls)) (bound_before boot l.records r h row.0.runs))
    go false rest row = ap (keep_first (kept_in (last l.records))) (rest row.1)

-- a Damage that is there already is put in its place
put_first : (a k : Kept) (ks : List Kept) → is_key a.key k.key ≡ true → a.forgot ≡ false → k.forgot ≡ false → put_kept (a ∷ ks) k ≡ k ∷ ks
put_first a k ks h f g = rw (h, put_kept) (ap (λ (b : Bool). let x : Kept = record k { forgot = b } in x ∷ ks) (f ∙ sym g))

put_later : (a k : Kept) (ks : List Kept) → is_key a.key k.key ≡ false → put_kept (a ∷ ks) k ≡ a ∷ put_kept ks k
put_later a k ks h = rw (h, put_kept) refl

-- the last record of a life
record Last (l : Life) : Type 0 where
  rec : LogRec
  is : last l.records ≡ Some rec
  own : owner_of rec ≡ Some l.owner
  alive : is_end rec ≡ false

last_of : (n boot : ℕ) (l : Life) (ls : List Life) → Living n boot l ls → Last l
last_of n boot l ls k = go (last l.records) refl (own_last l.owner None l.records tt k.own)
  where
    some_last : (rs : List LogRec) (q : LogRec) → last_or (Some q) rs ≡ None → ⊥
    some_last [] q h = cc (h)
    some_last (r ∷ rs) q h = some_last rs r h

    none : (rs : List LogRec) → is_begun rs ≡ true → last rs ≡ None → ⊥
    none [] b h = cc (b)
    none (r ∷ rs) b h = some_last rs r h

    go : (q : Option LogRec) → last l.records ≡ q → AllOwn l.owner (only q) → Last l
    go None i own = absurd (none l.records k.begun i)
    go (Some r) i own = record { rec = r; is = i; own = own.0; alive = own.1 }

-- where it binds its key, no life is behind it
sole_bound : (n boot : ℕ) (l : Life) (ls : List Life) → Living n boot l ls → (x : Last l) → kept_of x.rec ≡ None → (ms : List Life) → ls ≡ ms → ms ≡ []
sole_bound n boot l ls k x none [] j = refl
sole_bound n boot l ls k x none (m ∷ ms) j =
    let bound : ends_bound l ≡ true = ap (λ (w : Option LogRec). holds w is_bound) x.is ∙ unkept_is_bound l.owner x.rec x.own x.alive none in
    absurd (let loose : ends_bound l ≡ false = k.sole (ap some j) in cc (bound, loose))

pub keeps_damage : (n boot : ℕ) (ls : List Life) (o : Owner) (r : LogRec) (k : Kept) → kept_of r ≡ Some k → k.key ≡ o.key → k.forgot ≡ false → (o.node == n) ≡ true → runs boot None None (r ∷ []) ≡ false
    → Row n boot (with_record ls o r) → Row n boot ls → keeps (with_record ls o r) ≡ put_kept (keeps ls) k
keeps_damage n boot [] o r k is key forgot at first row old = absurd (let e : runs boot None None (r ∷ []) ≡ true = row.0.runs in cc (e, first))
keeps_damage n boot (l ∷ ls) o r k is key forgot at first row old = go (is_owner l.owner o) refl (λ more. keeps_damage n boot ls o r k is key forgot at first more old.1) row
  where
    x : Last l
    x = last_of n boot l ls old.0

    now : kept_in (last (l.records ++ r ∷ [])) ≡ Some k
    now = ap kept_in (last_more l.records r) ∙ is

    here : is_owner l.owner o ≡ true → (a : Option Kept) → kept_of x.rec ≡ a → k ∷ keeps ls ≡ put_kept (keep_first a (keeps ls)) k
    here i None j =
        let none : keeps ls ≡ [] = ap keeps (sole_bound n boot l ls old.0 x j ls refl) in
        ap (λ (ks : List Kept). k ∷ ks) none ∙ sym (ap (λ (ks : List Kept). put_kept ks k) none)
    here i (Some a) j =
        let d = damage_key l.owner x.rec a x.own j in
        let same : is_key a.key k.key ≡ true = ap (λ (w : NodeKey). is_key w k.key) d.0 ∙ ap (is_key l.owner.key) key ∙ same_key l.owner o i in
        sym (put_first a k (keeps ls) same d.1 forgot)

    there : is_owner l.owner o ≡ false → (a : Option Kept) → kept_of x.rec ≡ a → keep_first a (put_kept (keeps ls) k) ≡ put_kept (keep_first a (keeps ls)) k
    there i None j = refl
    there i (Some a) j =
        let d = damage_key l.owner x.rec a x.own j in
        let other : is_key a.key k.key ≡ false = ap (λ (w : NodeKey). is_key w k.key) d.0 ∙ ap (is_key l.owner.key) key ∙ other_key n l.owner o old.0.node at i in
        sym (put_later a k (keeps ls) other)

    was : kept_in (last l.records) ≡ kept_of x.rec
    was = ap kept_in x.is

    go : (b : Bool) → is_owner l.owner o ≡ b → (Row n boot (with_record ls o r) → keeps (with_record ls o r) ≡ put_kept (keeps ls) k)
        → Row n boot (elim b [ true ↦ record l { records = l.records ++ r ∷ [] } ∷ ls | false ↦ l ∷ with_record ls o r ])
        → keeps (elim b [ true ↦ record l { records = l.records ++ r ∷ [] } ∷ ls | false ↦ l ∷ with_record ls o r ]) ≡ put_kept (keeps (l ∷ ls)) k
    go true i rest row = ap (λ (a : Option Kept). keep_first a (keeps ls)) now ∙ here i (kept_of x.rec) refl ∙ sym (ap (λ (a : Option Kept). put_kept (keep_first a (keeps ls)) k) was)
    go false i rest row =
        ap (keep_first (kept_in (last l.records))) (rest row.1)
        ∙ ap (λ (a : Option Kept). keep_first a (put_kept (keeps ls) k)) was ∙ there i (kept_of x.rec) refl ∙ sym (ap (λ (a : Option Kept). put_kept (keep_first a (keeps ls)) k) was)

-- a key that has no life is not kept
not_kept : (n boot : ℕ) (ls : List Life) (o : Owner) → (o.node == n) ≡ true → Row n boot ls → Absent o ls → without_kept (keeps ls) o.key ≡ keeps ls
not_kept n boot [] o at row a = refl
not_kept n boot (l ∷ ls) o at row a = ap (λ (w : Option Kept). without_kept (keep_first w (keeps ls)) o.key) was ∙ go (not_kept n boot ls o at row.1 a.1) (kept_of x.rec) refl ∙ sym (ap (λ (w : Option Kept). keep_first w (keeps ls)) was)
  where
    x : Last l
    x = last_of n boot l ls row.0

    was : kept_in (last l.records) ≡ kept_of x.rec
    was = ap kept_in x.is

    go : without_kept (keeps ls) o.key ≡ keeps ls → (w : Option Kept) → kept_of x.rec ≡ w → without_kept (keep_first w (keeps ls)) o.key ≡ keep_first w (keeps ls)
    go rest None j = rest
    go rest (Some k) j =
        let d = damage_key l.owner x.rec k x.own j in
        let other : is_key k.key o.key ≡ false = ap (λ (u : NodeKey). is_key u o.key) d.0 ∙ other_key n l.owner o row.0.node at a.0 in
        rw (other, without_kept) (ap (λ (ks : List Kept). k ∷ ks) rest)

pub keeps_end : (n boot : ℕ) (ls : List Life) (o : Owner) → (o.node == n) ≡ true → Row n boot ls → keeps (without ls o) ≡ without_kept (keeps ls) o.key
keeps_end n boot [] o at row = refl
keeps_end n boot (l ∷ ls) o at row = go (is_owner l.owner o) refl (keeps_end n boot ls o at row.1) ∙ sym (ap (λ (w : Option Kept). without_kept (keep_first w (keeps ls)) o.key) was)
  where
    x : Last l
    x = last_of n boot l ls row.0

    was : kept_in (last l.records) ≡ kept_of x.rec
    was = ap kept_in x.is

    absent : is_owner l.owner o ≡ true → Absent o ls
    absent i = subst (λ (w : Owner). Absent w ls) (owner_same l.owner o i) row.0.apart

    here : is_owner l.owner o ≡ true → (w : Option Kept) → kept_of x.rec ≡ w → keeps ls ≡ without_kept (keep_first w (keeps ls)) o.key
    here i None j = sym (not_kept n boot ls o at row.1 (absent i))
    here i (Some k) j =
        let d = damage_key l.owner x.rec k x.own j in
        let same : is_key k.key o.key ≡ true = ap (λ (u : NodeKey). is_key u o.key) d.0 ∙ same_key l.owner o i in
        sym (rw (same, without_kept) refl)

    there : is_owner l.owner o ≡ false → (w : Option Kept) → kept_of x.rec ≡ w → keep_first w (without_kept (keeps ls) o.key) ≡ without_kept (keep_first w (keeps ls)) o.key
    there i None j = refl
    there i (Some k) j =
        let d = damage_key l.owner x.rec k x.own j in
        let other : is_key k.key o.key ≡ false = ap (λ (u : NodeKey). is_key u o.key) d.0 ∙ other_key n l.owner o row.0.node at i in
        sym (rw (other, without_kept) refl)

    go : (b : Bool) → is_owner l.owner o ≡ b → keeps (without ls o) ≡ without_kept (keeps ls) o.key → keeps (elim b [ true ↦ without ls o | false ↦ l ∷ without ls o ]) ≡ without_kept (keep_first (kept_of x.rec) (keeps ls)) o.key
    go true i rest = ap keeps (none_without ls o (absent i)) ∙ here i (kept_of x.rec) refl
    go false i rest = ap (λ (w : Option Kept). keep_first w (keeps (without ls o))) was ∙ ap (keep_first (kept_of x.rec)) rest ∙ there i (kept_of x.rec) refl

-- ---- current

-- what a life leaves that is not the last
none_current : (n boot : ℕ) (l : Life) (ls : List Life) → Living n boot l ls → some ls ≡ true → current_from None l.records ≡ None
none_current n boot l ls k h = loose_is_none boot l.owner l.records k.own k.runs (k.sole h)

some_with : (ls : List Life) (o : Owner) (r : LogRec) → some (with_record ls o r) ≡ true
some_with [] o r = refl
some_with (l ∷ ls) o r = go (is_owner l.owner o)
  where
    go : (b : Bool) → some (elim b [ true ↦ record l { records = l.records ++ r ∷ [] } ∷ ls | false ↦ l ∷ with_record ls o r ]) ≡ true
    go true = refl
    go false = refl

pub current_bound : (n boot : ℕ) (c : Option Current) (ls : List Life) (o : Owner) (r : LogRec) → (c ≡ None) ⊎ (some ls ≡ true) → is_bound r ≡ true → Row n boot (with_record ls o r)
    → current_over c (with_record ls o r) ≡ current_by r (current_over c ls)
current_bound n boot c [] o r (inl none) h row = ap (current_by r) (sym none)
current_bound n boot c [] o r (inr some) h row = absurd (cc (some))
current_bound n boot c (l ∷ ls) o r start h row = go (is_owner l.owner o) (λ none more. current_bound n boot (current_from None l.records) ls o r (inl none) h more) row
  where
    -- the record is the last of its life, and binds it
    sole : (ms : List Life) → Row n boot (record l { records = l.records ++ r ∷ [] } ∷ ms) → ms ≡ []
    sole [] k = refl
    sole (m ∷ ms) k =
        let bound : holds (last (l.records ++ r ∷ [])) is_bound ≡ true = ap (λ (q : Option LogRec). holds q is_bound) (last_more l.records r) ∙ h in
        absurd (let loose : holds (last (l.records ++ r ∷ [])) is_bound ≡ false = k.0.sole refl in cc (bound, loose))

    go : (b : Bool) → (current_from None l.records ≡ None → Row n boot (with_record ls o r) → current_over (current_from None l.records) (with_record ls o r) ≡ current_by r (current_over (current_from None l.records) ls))
        → Row n boot (elim b [ true ↦ record l { records = l.records ++ r ∷ [] } ∷ ls | false ↦ l ∷ with_record ls o r ])
        → current_over c (elim b [ true ↦ record l { records = l.records ++ r ∷ [] } ∷ ls | false ↦ l ∷ with_record ls o r ]) ≡ current_by r (current_over c (l ∷ ls))
    go true rest k =
        let none : ls ≡ [] = sole ls k in
        ap (current_over (current_from None (l.records ++ r ∷ []))) none ∙ from_more None l.records r ∙ sym (ap (λ (ms : List Life). current_by r (current_over (current_from None l.records) ms)) none)
    go false rest k = rest (none_current n boot l (with_record ls o r) k.0 (some_with ls o r)) k.1

-- what is current is of another key, where the key has no life
apart_current : (n boot : ℕ) (l : Life) (ls : List Life) (o : Owner) → (o.node == n) ≡ true → Living n boot l ls → is_owner l.owner o ≡ false → without_current o.key (current_from None l.records) ≡ current_from None l.records
apart_current n boot l ls o at k i = elim (of_its_key boot l.owner l.records k.own k.runs) [
  | inl none ↦ ap (without_current o.key) none ∙ sym none
  | inr x ↦
      let other : is_key (node_key x.0.key) o.key ≡ false = ap (λ (w : NodeKey). is_key w o.key) x.2 ∙ other_key n l.owner o k.node at i in
      ap (without_current o.key) x.1 ∙ ap (λ (b : Bool). if b then None else Some x.0) other ∙ sym x.1
]

apart_over : (n boot : ℕ) (c : Option Current) (ls : List Life) (o : Owner) → (o.node == n) ≡ true → Row n boot ls → Absent o ls → without_current o.key c ≡ c → without_current o.key (current_over c ls) ≡ current_over c ls
apart_over n boot c [] o at row a start = start
apart_over n boot c (l ∷ ls) o at row a start = apart_over n boot (current_from None l.records) ls o at row.1 a.1 (apart_current n boot l ls o at row.0 a.0)

own_current : (n boot : ℕ) (l : Life) (ls : List Life) (o : Owner) → Living n boot l ls → is_owner l.owner o ≡ true → without_current o.key (current_from None l.records) ≡ None
own_current n boot l ls o k i = elim (of_its_key boot l.owner l.records k.own k.runs) [
  | inl none ↦ ap (without_current o.key) none
  | inr x ↦
      let same : is_key (node_key x.0.key) o.key ≡ true = ap (λ (w : NodeKey). is_key w o.key) x.2 ∙ same_key l.owner o i in
      ap (without_current o.key) x.1 ∙ ap (λ (b : Bool). if b then None else Some x.0) same
]

pub current_damage : (n boot : ℕ) (c : Option Current) (ls : List Life) (o : Owner) (r : LogRec) → ((x : Option Current) → current_by r x ≡ without_current o.key x) → (o.node == n) ≡ true → runs boot None None (r ∷ []) ≡ false
    → Row n boot (with_record ls o r) → Row n boot ls → current_over c (with_record ls o r) ≡ without_current o.key (current_over c ls)
current_damage n boot c [] o r by at first row old = absurd (let e : runs boot None None (r ∷ []) ≡ true = row.0.runs in cc (e, first))
current_damage n boot c (l ∷ ls) o r by at first row old = go (is_owner l.owner o) refl (λ more. current_damage n boot (current_from None l.records) ls o r by at first more old.1) row
  where
    -- of the lives behind it the last says what is current
    behind : (a : Option Current) (ms : List Life) → Row n boot ms → Absent o ms → a ≡ without_current o.key (current_from None l.records) → current_over a ms ≡ without_current o.key (current_over (current_from None l.records) ms)
    behind a [] k apart is = is
    behind a (m ∷ ms) k apart is = sym (apart_over n boot (current_from None m.records) ms o at k.1 apart.1 (apart_current n boot m ms o at k.0 apart.0))

    go : (b : Bool) → is_owner l.owner o ≡ b → (Row n boot (with_record ls o r) → current_over (current_from None l.records) (with_record ls o r) ≡ without_current o.key (current_over (current_from None l.records) ls))
        → Row n boot (elim b [ true ↦ record l { records = l.records ++ r ∷ [] } ∷ ls | false ↦ l ∷ with_record ls o r ])
        → current_over c (elim b [ true ↦ record l { records = l.records ++ r ∷ [] } ∷ ls | false ↦ l ∷ with_record ls o r ]) ≡ without_current o.key (current_over c (l ∷ ls))
    go true i rest k =
        behind (current_from None (l.records ++ r ∷ [])) ls old.1 (subst (λ (w : Owner). Absent w ls) (owner_same l.owner o i) old.0.apart) (from_more None l.records r ∙ by (current_from None l.records))
    go false i rest k = rest k.1

pub current_end : (n boot : ℕ) (c : Option Current) (ls : List Life) (o : Owner) → (o.node == n) ≡ true → Row n boot ls → without_current o.key c ≡ c → (some ls ≡ true → c ≡ None) → current_over c (without ls o) ≡ without_current o.key (current_over c ls)
current_end n boot c [] o at row start none = sym start
current_end n boot c (l ∷ ls) o at row start none = go (is_owner l.owner o) refl (λ start more. current_end n boot (current_from None l.records) ls o at row.1 start more)
  where
    behind : (ms : List Life) → Row n boot ms → Absent o ms → is_owner l.owner o ≡ true → current_over c ms ≡ without_current o.key (current_over (current_from None l.records) ms)
    behind [] k apart i = none refl ∙ sym (own_current n boot l ls o row.0 i)
    behind (m ∷ ms) k apart i = sym (apart_over n boot (current_from None m.records) ms o at k.1 apart.1 (apart_current n boot m ms o at k.0 apart.0))

    go : (b : Bool) → is_owner l.owner o ≡ b
        → (without_current o.key (current_from None l.records) ≡ current_from None l.records → (some ls ≡ true → current_from None l.records ≡ None) → current_over (current_from None l.records) (without ls o) ≡ without_current o.key (current_over (current_from None l.records) ls))
        → current_over c (elim b [ true ↦ without ls o | false ↦ l ∷ without ls o ]) ≡ without_current o.key (current_over c (l ∷ ls))
    go true i rest =
        let apart : Absent o ls = subst (λ (w : Owner). Absent w ls) (owner_same l.owner o i) row.0.apart in
        ap (current_over c) (none_without ls o apart) ∙ behind ls row.1 apart i
    go false i rest = rest (apart_current n boot l ls o at row.0 i) (none_current n boot l ls row.0)
