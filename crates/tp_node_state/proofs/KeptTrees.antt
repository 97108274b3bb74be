-- The ages of the kept transactions of a tree.
use Rattle.std.proofs.Common.{◌≡◌, ◌<◌, ◌+◌, ℕ, zero, suc, drop, get_or, Bool, true, false, Option, Some, None, List, [], ◌∷◌, ◌++◌, length, refl, ap, sym, subst, ◌∙◌, arith, cond, if◌then◌else◌, not}
use Rattle.std.specs.Prelude.{Box, Vec, ◌==◌, ◌&&◌}
use Rattle.std.specs.BTreeMap.{is_at, insert_entry}
use Rattle.std.specs.List.{filter, All}
use Rattle.std.specs.List.Sorted.{IsStrictlySortedBy}
use Rattle.std.proofs.lemmas.List.Elements.{All-head, All-tail}
use Rattle.std.specs.Map.{lookup, keys_of, set_value, remove_entry}
use Rattle.std.specs.Ordering.{nat_cmp, is_lt}
use Rattle.std.specs.declared.alloc.Global.{Global}
use Rattle.std.proofs.lemmas.Bool.Decides.{nat_tests}
use Rattle.std.proofs.lemmas.Grind.{common_steps}
use Rattle.tp_names.specs.declared.identifiers.Aaid.{Aaid}
use Rattle.tp_names.specs.declared.identifiers.BranchId.{BranchId}
use Rattle.tp_names.specs.declared.identifiers.NodeKey.{NodeKey}
use Rattle.tp_names.specs.Same.{is_aaid, is_key, is_branch_option}
use Rattle.tp_names.proofs.Sames.{key_same, aaid_same, aaid_self}
use Rattle.tp_node_state.specs.declared.change.Change.{Change}
use Rattle.tp_model.specs.declared.recovery.Kept.{Kept}
use Rattle.tp_node_state.specs.declared.tree_key.TreeKey.{TreeKey}
use Rattle.tp_model.specs.Arrivals.{kept_owing, kept_of}
use Rattle.tp_model.specs.Recovery.{without_kept}
use Rattle.tp_node_state.specs.Kept.{is_tree, tree_key, listed, owes, first_in, age_of, ages_of, at_age, has_key, age_among, ages_in, without_age, with_kept, AreBelow, AreSingle, IsIndexed}
use Rattle.tp_node_state.specs.Changes.{changed_one, changed_all, owing_at, first_among}
use Rattle.tp_node_state.proofs.KeptAges.{AreAbove, Ascend, ascends, age_above, at_above, at_itself, replaced, removed, put_behind, single_put, single_removed}

pub filter-without_age : (a : ℕ) (ns : List ℕ) → filter (λ n. not (n == a)) ns ≡ without_age ns a
filter-without_age a [] = refl
filter-without_age a (n ∷ ns) = grind (arith, common_steps, filter-without_age a ns)

abbrev pub ages_listed : Option (Vec ℕ Global) → List ℕ
ages_listed o = elim o [ None ↦ [] | Some v ↦ v.items ]

-- the table after what is noted of one tree is written, or forgotten
pub noted_at : (old new : List (TreeKey × Vec ℕ Global)) (a : Aaid) (o : Option (Vec ℕ Global))
    → ((q : TreeKey) → lookup (is_tree q) new ≡ cond (is_tree (tree_key a) q) o (lookup (is_tree q) old))
    → (t : Aaid) → ages_in new t ≡ cond (is_aaid a t) (ages_listed o) (ages_in old t)
noted_at old new a o at t = ap ages_listed (at (tree_key t)) ∙ go (is_aaid a t)
  where
    go : (b : Bool) → ages_listed (cond b o (lookup (is_tree (tree_key t)) old)) ≡ cond b (ages_listed o) (ages_in old t)
    go true = refl
    go false = refl

-- ---- the ages of a tree, as those before are gone over

-- each is found by its age
abbrev pub AreFound : List (ℕ × Box Kept Global) → List (ℕ × Box Kept Global) → Type 0
AreFound all [] = Unit {0}
AreFound all (e ∷ es) = (at_age all e.0 ≡ Some e.1) × AreFound all es

found_later : (e : ℕ × Box Kept Global) (all es : List (ℕ × Box Kept Global)) → AreAbove e.0 es → AreFound all es → AreFound (e ∷ all) es
found_later e all [] h is = tt
found_later e all (x ∷ es) h is = (let other = at_above e.0 x.0 h.0 in let own = is.0 in grind (arith, other, own), found_later e all es h.1 is.1)

all_found : (es : List (ℕ × Box Kept Global)) → Ascend es → AreFound es es
all_found [] h = tt
all_found (e ∷ es) h = (let own = at_itself e.0 in grind (arith, own), found_later e es es h.0 (all_found es h.1))

key_among : (all es : List (ℕ × Box Kept Global)) (q : NodeKey) → AreFound all es → age_of es q ≡ age_among all q (ages_of es q.aaid)
key_among all [] q h = refl
key_among all (e ∷ es) q h = go (is_aaid e.1.value.key.aaid q.aaid) refl (key_among all es q h.1)
  where
    go : (b : Bool) → is_aaid e.1.value.key.aaid q.aaid ≡ b → age_of es q ≡ age_among all q (ages_of es q.aaid) → age_of (e ∷ es) q ≡ age_among all q (ages_of (e ∷ es) q.aaid)
    go true f rest = let own = h.0 in grind (arith, f, rest, own)
    go false f rest = grind (arith, f, rest)

pub key_found : (es : List (ℕ × Box Kept Global)) (q : NodeKey) → Ascend es → age_of es q ≡ age_among es q (ages_of es q.aaid)
key_found es q h = key_among es es q (all_found es h)

-- what takes the place of one is of its tree
changed_tree : (c : Option Change) (x y : Kept) → changed_one c x ≡ Some y → y.key.aaid ≡ x.key.aaid
changed_tree None x y h = let same : x ≡ y = cc (h) in ap (λ z. z.key.aaid) (sym same)
changed_tree (Some (Change.Put b)) x y h = go (is_key x.key b.value.key) refl
  where
    go : (t : Bool) → is_key x.key b.value.key ≡ t → y.key.aaid ≡ x.key.aaid
    go true e =
        let same : b.value ≡ y = grind (arith, e, h) in
        ap (λ (z : Kept). z.key.aaid) (sym same) ∙ ap (λ (k : NodeKey). k.aaid) (sym (key_same x.key b.value.key e))
    go false e = let same : x ≡ y = grind (arith, e, h) in ap (λ (z : Kept). z.key.aaid) (sym same)
changed_tree (Some (Change.Remove q)) x y h = go (is_key x.key q) refl
  where
    go : (t : Bool) → is_key x.key q ≡ t → y.key.aaid ≡ x.key.aaid
    go true e = let wrong : None ≡ Some y = grind (arith, e, h) in absurd (cc (wrong))
    go false e = let same : x ≡ y = grind (arith, e, h) in ap (λ (z : Kept). z.key.aaid) (sym same)

tree_among : (all es : List (ℕ × Box Kept Global)) (c : Option Change) (t : Aaid) (b : Option BranchId) → AreFound all es
    → first_in (changed_all c (listed es)) t b ≡ first_among all c b (ages_of es t)
tree_among all [] c t b h = refl
tree_among all (e ∷ es) c t b h = go (changed_one c e.1.value) refl (tree_among all es c t b h.1)
  where
    go : (o : Option Kept) → changed_one c e.1.value ≡ o → first_in (changed_all c (listed es)) t b ≡ first_among all c b (ages_of es t)
        → first_in (changed_all c (listed (e ∷ es))) t b ≡ first_among all c b (ages_of (e ∷ es) t)
    go None f rest = let own = h.0 in grind (arith, f, rest, own)
    go (Some x) f rest =
        let own = h.0 in
        let same = ap (λ a. is_aaid a t) (changed_tree c e.1.value x f) in
        grind (arith, f, rest, own, same)

pub tree_found : (es : List (ℕ × Box Kept Global)) (c : Option Change) (t : Aaid) (b : Option BranchId) → Ascend es
    → first_in (changed_all c (listed es)) t b ≡ first_among es c b (ages_of es t)
tree_found es c t b h = tree_among es es c t b (all_found es h)

-- ---- after a change

pub ages_replaced : (es : List (ℕ × Box Kept Global)) (b : Box Kept Global) (a : ℕ) (t : Aaid) → Ascend es → age_of es b.value.key ≡ Some a
    → ages_of (set_value (is_at (nat_cmp a)) es b) t ≡ ages_of es t
ages_replaced [] b a t h is = refl
ages_replaced (e ∷ es) b a t h is = go (is_key e.1.value.key b.value.key) refl (ages_replaced es b a t h.1)
  where
    go : (c : Bool) → is_key e.1.value.key b.value.key ≡ c → (age_of es b.value.key ≡ Some a → ages_of (set_value (is_at (nat_cmp a)) es b) t ≡ ages_of es t)
        → ages_of (set_value (is_at (nat_cmp a)) (e ∷ es) b) t ≡ ages_of (e ∷ es) t
    go true f rest =
        let same : e.0 ≡ a = grind (arith, f, is) in
        let own = subst (λ m. is_at (nat_cmp m) e.0 ≡ true) same (at_itself e.0) in
        let tree = ap (λ (k : NodeKey). is_aaid k.aaid t) (key_same e.1.value.key b.value.key f) in
        grind (arith, own, tree)
    go false f rest =
        let tail : age_of es b.value.key ≡ Some a = grind (arith, f, is) in
        let other = at_above e.0 a (age_above es b.value.key e.0 a h.0 tail) in
        let left = rest tail in
        grind (arith, other, left)

ages_above : (es : List (ℕ × Box Kept Global)) (a : ℕ) (t : Aaid) → AreAbove a es → without_age (ages_of es t) a ≡ ages_of es t
ages_above [] a t h = refl
ages_above (e ∷ es) a t h = let rest = ages_above es a t h.1 in let less = h.0 in grind (arith, nat_tests, rest, less)

pub ages_removed : (es : List (ℕ × Box Kept Global)) (q : NodeKey) (a : ℕ) (t : Aaid) → Ascend es → age_of es q ≡ Some a
    → ages_of (remove_entry (is_at (nat_cmp a)) es) t ≡ cond (is_aaid q.aaid t) (without_age (ages_of es t) a) (ages_of es t)
ages_removed [] q a t h is = absurd (cc is)
ages_removed (e ∷ es) q a t h is = go (is_key e.1.value.key q) refl (ages_removed es q a t h.1)
  where
    go : (c : Bool) → is_key e.1.value.key q ≡ c
        → (age_of es q ≡ Some a → ages_of (remove_entry (is_at (nat_cmp a)) es) t ≡ cond (is_aaid q.aaid t) (without_age (ages_of es t) a) (ages_of es t))
        → ages_of (remove_entry (is_at (nat_cmp a)) (e ∷ es)) t ≡ cond (is_aaid q.aaid t) (without_age (ages_of (e ∷ es) t) a) (ages_of (e ∷ es) t)
    go true f rest =
        let same : e.0 ≡ a = grind (arith, f, is) in
        let own = subst (λ m. is_at (nat_cmp m) e.0 ≡ true) same (at_itself e.0) in
        let tree = ap (λ (k : NodeKey). is_aaid k.aaid t) (key_same e.1.value.key q f) in
        let above = ages_above es a t (subst (λ m. AreAbove m es) same h.0) in
        grind (arith, nat_tests, own, tree, above, same)
    go false f rest =
        let tail : age_of es q ≡ Some a = grind (arith, f, is) in
        let less = age_above es q e.0 a h.0 tail in
        let other = at_above e.0 a less in
        let left = rest tail in
        grind (arith, nat_tests, other, left, less)

pub insert_behind : (es : List (ℕ × Box Kept Global)) (a : ℕ) (b : Box Kept Global) → AreBelow es a → insert_entry nat_cmp es a b ≡ es ++ (a, b) ∷ []
insert_behind [] a b h = refl
insert_behind (e ∷ es) a b h = let less = h.0 in let rest = insert_behind es a b h.1 in grind (arith, nat_tests, less, rest)

pub listed_behind : (es : List (ℕ × Box Kept Global)) (a : ℕ) (b : Box Kept Global) → listed (es ++ (a, b) ∷ []) ≡ listed es ++ b.value ∷ []
listed_behind [] a b = refl
listed_behind (e ∷ es) a b = ap (λ (l : List Kept). e.1.value ∷ l) (listed_behind es a b)

pub ages_behind : (es : List (ℕ × Box Kept Global)) (a : ℕ) (b : Box Kept Global) (t : Aaid)
    → ages_of (es ++ (a, b) ∷ []) t ≡ cond (is_aaid b.value.key.aaid t) (ages_of es t ++ a ∷ []) (ages_of es t)
ages_behind [] a b t = grind arith
ages_behind (e ∷ es) a b t = grind (arith, ages_behind es a b t)

ages_below : (es : List (ℕ × Box Kept Global)) (a : ℕ) (t : Aaid) → AreBelow es a → without_age (ages_of es t ++ a ∷ []) a ≡ ages_of es t
ages_below [] a t h = grind (arith, nat_tests)
ages_below (e ∷ es) a t h = let rest = ages_below es a t h.1 in let less = h.0 in grind (arith, nat_tests, rest, less)

-- ---- what is noted

cond_same : {X : Type 0} (b : Bool) (x y : X) → (b ≡ true → x ≡ y) → cond b x y ≡ y
cond_same true x y h = h refl
cond_same false x y h = refl

-- nothing is noted of the tree
pub none_noted : (ts : List (TreeKey × Vec ℕ Global)) (a : Aaid) (n : ℕ) → None ≡ lookup (is_tree (tree_key a)) ts
    → (t : Aaid) → ages_in ts t ≡ cond (is_aaid a t) (without_age (ages_in ts a) n) (ages_in ts t)
none_noted ts a n is t =
    let none : ages_in ts a ≡ [] = sym (ap ages_listed is) in
    sym (cond_same (is_aaid a t) (without_age (ages_in ts a) n) (ages_in ts t) (λ e. ap (λ l. without_age l n) none ∙ sym none ∙ ap (ages_in ts) (aaid_same a t e)))

-- the same is noted of the tree
pub same_noted : (old new : List (TreeKey × Vec ℕ Global)) (a : Aaid) (v w : Vec ℕ Global) → Some v ≡ lookup (is_tree (tree_key a)) old → w.items ≡ v.items
    → ((q : TreeKey) → lookup (is_tree q) new ≡ cond (is_tree (tree_key a) q) (Some w) (lookup (is_tree q) old))
    → (t : Aaid) → ages_in new t ≡ ages_in old t
same_noted old new a v w is same at t =
    noted_at old new a (Some w) at t ∙ cond_same (is_aaid a t) w.items (ages_in old t) (λ e. same ∙ ap ages_listed is ∙ ap (ages_in old) (aaid_same a t e))

pub set_absent : (es : List (ℕ × Box Kept Global)) (a : ℕ) (b : Box Kept Global) → at_age es a ≡ None → es ≡ set_value (is_at (nat_cmp a)) es b
set_absent [] a b h = refl
set_absent (e ∷ es) a b h = grind (arith, h, set_absent es a b)

pub all_below : (es : List (ℕ × Box Kept Global)) (a : ℕ) → All (λ q. is_lt (nat_cmp a q) ≡ false) (keys_of es) → AreBelow es (a + 1)
all_below [] a h = tt
all_below (e ∷ es) a h =
    (let less = All-head (λ q. is_lt (nat_cmp a q) ≡ false) e.0 (keys_of es) h in grind (arith, nat_tests, less), all_below es a (All-tail (λ q. is_lt (nat_cmp a q) ≡ false) e.0 (keys_of es) h))

-- ---- the table with the ages that are noted of it

pub indexed_put : (es fs : List (ℕ × Box Kept Global)) (ts : List (TreeKey × Vec ℕ Global)) (b : Box Kept Global) (a : ℕ) → IsIndexed es ts × AreSingle (listed es) → age_of es b.value.key ≡ Some a
    → fs ≡ set_value (is_at (nat_cmp a)) es b → IsStrictlySortedBy nat_cmp (keys_of fs) → (IsIndexed fs ts × AreSingle (listed fs)) × (listed fs ≡ with_kept (listed es) b.value)
indexed_put es fs ts b a h is put sorted =
    let up = ascends es h.0.0 in
    let list : listed fs ≡ with_kept (listed es) b.value = ap listed put ∙ replaced es b a up is in
    (((sorted, λ t. h.0.1 t ∙ sym (ap (λ l. ages_of l t) put ∙ ages_replaced es b a t up is)), subst AreSingle (sym list) (single_put (listed es) b.value h.1)), list)

pub indexed_removed : (es fs : List (ℕ × Box Kept Global)) (ts us : List (TreeKey × Vec ℕ Global)) (q : NodeKey) (a : ℕ) → IsIndexed es ts × AreSingle (listed es) → age_of es q ≡ Some a
    → fs ≡ remove_entry (is_at (nat_cmp a)) es → IsStrictlySortedBy nat_cmp (keys_of fs)
    → ((t : Aaid) → ages_in us t ≡ cond (is_aaid q.aaid t) (without_age (ages_in ts q.aaid) a) (ages_in ts t)) → (IsIndexed fs us × AreSingle (listed fs)) × (listed fs ≡ without_kept (listed es) q)
indexed_removed es fs ts us q a h is gone sorted at =
    let up = ascends es h.0.0 in
    let list : listed fs ≡ without_kept (listed es) q = ap listed gone ∙ removed es q a up is in (
      (
        (
          sorted,
          λ t. at t ∙ ap (λ l. cond (is_aaid q.aaid t) (without_age l a) (ages_in ts t)) (h.0.1 q.aaid)
              ∙ ap (λ l. cond (is_aaid q.aaid t) (without_age (ages_of es q.aaid) a) l) (h.0.1 t)
              ∙ turned (is_aaid q.aaid t) t refl ∙ sym (ap (λ l. ages_of l t) gone ∙ ages_removed es q a t up is),
        ),
        subst AreSingle (sym list) (single_removed (listed es) q h.1),
      ),
      list,
    )
  where
    turned : (b : Bool) (t : Aaid) → is_aaid q.aaid t ≡ b → cond b (without_age (ages_of es q.aaid) a) (ages_of es t) ≡ cond b (without_age (ages_of es t) a) (ages_of es t)
    turned true t e = ap (λ x. without_age (ages_of es x) a) (aaid_same q.aaid t e)
    turned false t e = refl

pub indexed_behind : (es fs : List (ℕ × Box Kept Global)) (ts us : List (TreeKey × Vec ℕ Global)) (b : Box Kept Global) (a : ℕ) → IsIndexed es ts × AreSingle (listed es)
    → age_of es b.value.key ≡ None → AreBelow es a
    → fs ≡ insert_entry nat_cmp es a b → IsStrictlySortedBy nat_cmp (keys_of fs)
    → ((t : Aaid) → ages_in us t ≡ cond (is_aaid b.value.key.aaid t) (ages_in ts b.value.key.aaid ++ a ∷ []) (ages_in ts t)) → (IsIndexed fs us × AreSingle (listed fs)) × (listed fs ≡ with_kept (listed es) b.value)
indexed_behind es fs ts us b a h none below put sorted at =
    let all : fs ≡ es ++ (a, b) ∷ [] = put ∙ insert_behind es a b below in
    let list : listed fs ≡ with_kept (listed es) b.value = ap listed all ∙ listed_behind es a b ∙ put_behind es b.value none in (
      (
        (
          sorted,
          λ t. at t ∙ ap (λ l. cond (is_aaid b.value.key.aaid t) (l ++ a ∷ []) (ages_in ts t)) (h.0.1 b.value.key.aaid)
              ∙ ap (λ l. cond (is_aaid b.value.key.aaid t) (ages_of es b.value.key.aaid ++ a ∷ []) l) (h.0.1 t)
              ∙ turned (is_aaid b.value.key.aaid t) t refl ∙ sym (ap (λ l. ages_of l t) all ∙ ages_behind es a b t),
        ),
        subst AreSingle (sym list) (single_put (listed es) b.value h.1),
      ),
      list,
    )
  where
    turned : (c : Bool) (t : Aaid) → is_aaid b.value.key.aaid t ≡ c → cond c (ages_of es b.value.key.aaid ++ a ∷ []) (ages_of es t) ≡ cond c (ages_of es t ++ a ∷ []) (ages_of es t)
    turned true t e = ap (λ x. ages_of es x ++ a ∷ []) (aaid_same b.value.key.aaid t e)
    turned false t e = refl

-- what was noted is forgotten again
pub indexed_back : (es fs : List (ℕ × Box Kept Global)) (ts us vs : List (TreeKey × Vec ℕ Global)) (k : Aaid) (a : ℕ) → IsIndexed es ts → AreBelow es a → fs ≡ es
    → ((t : Aaid) → ages_in us t ≡ cond (is_aaid k t) (ages_in ts k ++ a ∷ []) (ages_in ts t))
    → ((t : Aaid) → ages_in vs t ≡ cond (is_aaid k t) (without_age (ages_in us k) a) (ages_in us t)) → IsIndexed fs vs
indexed_back es fs ts us vs k a h below same at back = subst (λ l. IsIndexed l vs) (sym same) (h.0, λ t. back t ∙ turned t ∙ h.1 t)
  where
    own : ages_in us k ≡ ages_in ts k ++ a ∷ []
    own = at k ∙ ap (λ b. cond b (ages_in ts k ++ a ∷ []) (ages_in ts k)) (aaid_self k)

    again : without_age (ages_in us k) a ≡ ages_in ts k
    again = ap (λ l. without_age l a) (own ∙ ap (λ l. l ++ a ∷ []) (h.1 k)) ∙ ages_below es a k below ∙ sym (h.1 k)

    turned : (t : Aaid) → cond (is_aaid k t) (without_age (ages_in us k) a) (ages_in us t) ≡ ages_in ts t
    turned t = go (is_aaid k t) refl
      where
        go : (b : Bool) → is_aaid k t ≡ b → cond (is_aaid k t) (without_age (ages_in us k) a) (ages_in us t) ≡ ages_in ts t
        go true e = ap (λ b. cond b (without_age (ages_in us k) a) (ages_in us t)) e ∙ again ∙ ap (ages_in ts) (aaid_same k t e)
        go false e = ap (λ b. cond b (without_age (ages_in us k) a) (ages_in us t)) e ∙ at t ∙ ap (λ b. cond b (ages_in ts k ++ a ∷ []) (ages_in ts t)) e

-- ---- the ages are gone over

drop_next : (ns : List ℕ) (i : ℕ) → i < length ns → drop i ns ≡ get_or ns i 0 ∷ drop (i + 1) ns
drop_next [] i h = absurd (omega (arith, h))
drop_next (n ∷ ns) zero h = refl
drop_next (n ∷ ns) (suc i) h = drop_next ns i (omega (arith, h)) ∙ ap (λ (m : ℕ). get_or ns i 0 ∷ drop m (n ∷ ns)) (let same : suc (i + 1) ≡ suc i + 1 = omega arith in same)

pub age_next : (es : List (ℕ × Box Kept Global)) (q : NodeKey) (ns : List ℕ) (i : ℕ) → i < length ns → has_key es q (get_or ns i 0) ≡ false → age_among es q (drop i ns) ≡ age_among es q (drop (i + 1) ns)
age_next es q ns i h is = ap (age_among es q) (drop_next ns i h) ∙ ap (λ (b : Bool). if b then Some (get_or ns i 0) else age_among es q (drop (i + 1) ns)) is

pub first_at : (es : List (ℕ × Box Kept Global)) (c : Option Change) (b : Option BranchId) (ns : List ℕ) (i : ℕ) (o : Option NodeKey) → i < length ns → owing_at es c b (get_or ns i 0) ≡ o
    → first_among es c b (drop i ns) ≡ elim o as (λ _. Option NodeKey) [ None ↦ first_among es c b (drop (i + 1) ns) | Some k ↦ Some k ]
first_at es c b ns i o h is =
    ap (first_among es c b) (drop_next ns i h) ∙ ap (λ (x : Option NodeKey). elim x as (λ _. Option NodeKey) [ None ↦ first_among es c b (drop (i + 1) ns) | Some k ↦ Some k ]) is

-- ---- the first that is asked for

pub first_owing : (ks : List Kept) (t : Aaid) (b : BranchId) → first_in ks t (Some b) ≡ kept_owing ks t b
first_owing [] t b = refl
first_owing (x ∷ ks) t b = ap (λ (o : Option NodeKey). if is_aaid x.key.aaid t && owes x (Some b) then Some x.key else o) (first_owing ks t b)

pub first_any : (ks : List Kept) (t : Aaid) → first_in ks t None ≡ kept_of ks t
first_any [] t = refl
first_any (x ∷ ks) t = grind (arith, first_any ks t)
