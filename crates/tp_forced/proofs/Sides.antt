-- What a node keeps of one tree, and what a record makes of it.
use Rattle.std.proofs.Common.{if◌then◌else◌, ◌≡◌, Bool, true, false, refl, ap, sym, ◌∙◌, arith, Option, Some, None, List, [], ◌∷◌, ◌&&◌}
use Rattle.std.specs.Prelude.{not}
use Rattle.tp_names.specs.declared.identifiers.Aaid.{Aaid}
use Rattle.tp_names.specs.declared.identifiers.NodeKey.{NodeKey}
use Rattle.tp_names.specs.declared.children.Child.{Child}
use Rattle.tp_names.specs.declared.outcome.Outcome.{Outcome}
use Rattle.tp_names.specs.Same.{is_aaid, is_key}
use Rattle.tp_logrec.specs.declared.record.LogRec.{LogRec}
use Rattle.tp_model.specs.declared.recovery.Kept.{Kept}
use Rattle.tp_model.specs.Recovery.{is_commit, is_root_key, is_nothing_owed, find_kept, put_kept, without_kept, kept_by, kept_after, not_forgotten}
use Rattle.tp_runs.specs.Bare.{keeps_tree}
use Rattle.tp_forced.specs.TreeLog.{Stage, when, after_vote, after_decision, after_order, after_damage, after_end, after_record, is_of_key, if_own}
use Rattle.tp_steps.proofs.log.ApartLog.{keys_equal}
use Rattle.tp_steps.proofs.lemmas.Options.{some_same}
use Rattle.tp_forced.proofs.Stages.{own_key, tree_stage, log_step}

-- ---- the kept transactions of a tree

-- its key, its outcome, and whether it is a rollback that owes a branch, which none is
pub record Side : Type 0 where
  pub key : NodeKey
  pub outcome : Outcome
  pub odd : Bool

abbrev pub is_odd : Outcome → List Child → Bool
is_odd o cs = not (is_commit o) && not (is_nothing_owed cs)

abbrev pub side_of : Kept → Side
side_of k = record { key = k.key; outcome = k.side; odd = is_odd k.side k.owed }

abbrev pub sided : Bool → Side → List Side → List Side
sided true s ss = s ∷ ss
sided false s ss = ss

abbrev pub sides : Aaid → List Kept → List Side
sides t [] = []
sides t (k ∷ ks) = sided (is_aaid t k.key.aaid) (side_of k) (sides t ks)

abbrev pub plain : NodeKey → Outcome → Side
plain k o = record { key = k; outcome = o; odd = false }

abbrev pub stood : NodeKey → Stage → List Side
stood k Stage.Blank = []
stood k Stage.Voted = []
stood k (Stage.Decided u) = []
stood k Stage.Ordered = []
stood k Stage.Damaged = plain k Outcome.Commit ∷ []
stood k Stage.Backed = plain k Outcome.Rollback ∷ []
stood k Stage.Over = []

pub sides_noted : (t : Aaid) (ks : List Kept) → sides t (not_forgotten ks) ≡ sides t ks
sides_noted t [] = refl
sides_noted t (k ∷ ks) = ap (λ (ss : List Side). sided (is_aaid t k.key.aaid) (side_of k) ss) (sides_noted t ks)

pub sides_same : (t : Aaid) (xs ys : List Kept) → not_forgotten xs ≡ not_forgotten ys → sides t xs ≡ sides t ys
sides_same t xs ys h = sym (sides_noted t xs) ∙ ap (sides t) h ∙ sides_noted t ys

pub none_kept : (t : Aaid) (ks : List Kept) → keeps_tree t ks ≡ false → sides t ks ≡ []
none_kept t [] h = refl
none_kept t (k ∷ ks) h = go (is_aaid t k.key.aaid) refl h (none_kept t ks)
  where
    go : (b : Bool) → is_aaid t k.key.aaid ≡ b → keeps_tree t (k ∷ ks) ≡ false → (keeps_tree t ks ≡ false → sides t ks ≡ []) → sides t (k ∷ ks) ≡ []
    go true i j rest = absurd (grind (arith, i, j))
    go false i j rest = ap (λ (b : Bool). sided b (side_of k) (sides t ks)) i ∙ rest (grind (arith, i, j))

-- ---- one more, and one less

-- the first one is of the tree, or not
first_own : (t : Aaid) (k : Kept) (ks : List Kept) → is_aaid t k.key.aaid ≡ true → sides t (k ∷ ks) ≡ side_of k ∷ sides t ks
first_own t k ks h = ap (λ (b : Bool). sided b (side_of k) (sides t ks)) h

first_other : (t : Aaid) (k : Kept) (ks : List Kept) → is_aaid t k.key.aaid ≡ false → sides t (k ∷ ks) ≡ sides t ks
first_other t k ks h = ap (λ (b : Bool). sided b (side_of k) (sides t ks)) h

tree_of : (t : Aaid) (j k : NodeKey) (b : Bool) → is_key j k ≡ true → is_aaid t k.aaid ≡ b → is_aaid t j.aaid ≡ b
tree_of t j k b h i = ap (λ (x : NodeKey). is_aaid t x.aaid) (keys_equal j k h) ∙ i

put_eq : (k : Kept) (ks : List Kept) (x : Kept) (b : Bool) → is_key k.key x.key ≡ b → put_kept (k ∷ ks) x ≡ (if b then record x { forgot = k.forgot } ∷ ks else k ∷ put_kept ks x)
put_eq k ks x b h = ap (λ (v : Bool). if v then record x { forgot = k.forgot } ∷ ks else k ∷ put_kept ks x) h

without_eq : (k : Kept) (ks : List Kept) (j : NodeKey) (b : Bool) → is_key k.key j ≡ b → without_kept (k ∷ ks) j ≡ (if b then ks else k ∷ without_kept ks j)
without_eq k ks j b h = ap (λ (v : Bool). if v then ks else k ∷ without_kept ks j) h

put_other : (t : Aaid) (ks : List Kept) (x : Kept) → is_aaid t x.key.aaid ≡ false → sides t (put_kept ks x) ≡ sides t ks
put_other t [] x h = first_other t x [] h
put_other t (k ∷ ks) x h = go (is_key k.key x.key) refl (put_other t ks x h)
  where
    go : (b : Bool) → is_key k.key x.key ≡ b → sides t (put_kept ks x) ≡ sides t ks → sides t (put_kept (k ∷ ks) x) ≡ sides t (k ∷ ks)
    go true i rest = ap (sides t) (put_eq k ks x true i) ∙ first_other t (record x { forgot = k.forgot }) ks h ∙ sym (first_other t k ks (tree_of t k.key x.key false i h))
    go false i rest = ap (sides t) (put_eq k ks x false i) ∙ ap (λ (ss : List Side). sided (is_aaid t k.key.aaid) (side_of k) ss) rest

put_first : (t : Aaid) (ks : List Kept) (x : Kept) → is_aaid t x.key.aaid ≡ true → sides t ks ≡ [] → sides t (put_kept ks x) ≡ side_of x ∷ []
put_first t [] x h none = first_own t x [] h
put_first t (k ∷ ks) x h none = go (is_aaid t k.key.aaid) refl (is_key k.key x.key) refl (put_first t ks x h)
  where
    go : (a : Bool) → is_aaid t k.key.aaid ≡ a → (b : Bool) → is_key k.key x.key ≡ b → (sides t ks ≡ [] → sides t (put_kept ks x) ≡ side_of x ∷ []) → sides t (put_kept (k ∷ ks) x) ≡ side_of x ∷ []
    go true i b j rest = absurd (let off : side_of k ∷ sides t ks ≡ [] = sym (first_own t k ks i) ∙ none in cc (off))
    go false i true j rest = absurd (cc (i, tree_of t k.key x.key true j h))
    go false i false j rest = ap (sides t) (put_eq k ks x false j) ∙ first_other t k (put_kept ks x) i ∙ rest (sym (first_other t k ks i) ∙ none)

cons_parts : (s u : Side) (ss us : List Side) → s ∷ ss ≡ u ∷ us → (s ≡ u) × (ss ≡ us)
cons_parts s u ss us h = (cc (h), cc (h))

put_again : (t : Aaid) (ks : List Kept) (x : Kept) (s : Side) → is_aaid t x.key.aaid ≡ true → s.key ≡ x.key → sides t ks ≡ s ∷ [] → sides t (put_kept ks x) ≡ side_of x ∷ []
put_again t [] x s h same one = absurd (cc (one))
put_again t (k ∷ ks) x s h same one = go (is_aaid t k.key.aaid) refl (is_key k.key x.key) refl (put_again t ks x s h same)
  where
    go : (a : Bool) → is_aaid t k.key.aaid ≡ a → (b : Bool) → is_key k.key x.key ≡ b → (sides t ks ≡ s ∷ [] → sides t (put_kept ks x) ≡ side_of x ∷ []) → sides t (put_kept (k ∷ ks) x) ≡ side_of x ∷ []
    go true i b j rest =
        let parts = cons_parts (side_of k) s (sides t ks) [] (sym (first_own t k ks i) ∙ one) in
        let at : is_key k.key x.key ≡ true = own_key k.key x.key (ap (λ (v : Side). v.key) parts.0 ∙ same) in
        ap (sides t) (put_eq k ks x true at) ∙ first_own t (record x { forgot = k.forgot }) ks h ∙ ap (λ (ss : List Side). side_of x ∷ ss) parts.1
    go false i true j rest = absurd (cc (i, tree_of t k.key x.key true j h))
    go false i false j rest = ap (sides t) (put_eq k ks x false j) ∙ first_other t k (put_kept ks x) i ∙ rest (sym (first_other t k ks i) ∙ one)

without_other : (t : Aaid) (ks : List Kept) (j : NodeKey) → is_aaid t j.aaid ≡ false → sides t (without_kept ks j) ≡ sides t ks
without_other t [] j h = refl
without_other t (k ∷ ks) j h = go (is_key k.key j) refl (without_other t ks j h)
  where
    go : (b : Bool) → is_key k.key j ≡ b → sides t (without_kept ks j) ≡ sides t ks → sides t (without_kept (k ∷ ks) j) ≡ sides t (k ∷ ks)
    go true i rest = ap (sides t) (without_eq k ks j true i) ∙ sym (first_other t k ks (tree_of t k.key j false i h))
    go false i rest = ap (sides t) (without_eq k ks j false i) ∙ ap (λ (ss : List Side). sided (is_aaid t k.key.aaid) (side_of k) ss) rest

without_none : (t : Aaid) (ks : List Kept) (j : NodeKey) → sides t ks ≡ [] → sides t (without_kept ks j) ≡ []
without_none t [] j h = refl
without_none t (k ∷ ks) j h = go (is_aaid t k.key.aaid) refl (is_key k.key j) refl (without_none t ks j)
  where
    go : (a : Bool) → is_aaid t k.key.aaid ≡ a → (b : Bool) → is_key k.key j ≡ b → (sides t ks ≡ [] → sides t (without_kept ks j) ≡ []) → sides t (without_kept (k ∷ ks) j) ≡ []
    go true i b l rest = absurd (let off : side_of k ∷ sides t ks ≡ [] = sym (first_own t k ks i) ∙ h in cc (off))
    go false i true l rest = ap (sides t) (without_eq k ks j true l) ∙ sym (first_other t k ks i) ∙ h
    go false i false l rest = ap (sides t) (without_eq k ks j false l) ∙ first_other t k (without_kept ks j) i ∙ rest (sym (first_other t k ks i) ∙ h)

without_own : (t : Aaid) (ks : List Kept) (j : NodeKey) (s : Side) → is_aaid t j.aaid ≡ true → s.key ≡ j → sides t ks ≡ s ∷ [] → sides t (without_kept ks j) ≡ []
without_own t [] j s h same one = absurd (cc (one))
without_own t (k ∷ ks) j s h same one = go (is_aaid t k.key.aaid) refl (is_key k.key j) refl (without_own t ks j s h same)
  where
    go : (a : Bool) → is_aaid t k.key.aaid ≡ a → (b : Bool) → is_key k.key j ≡ b → (sides t ks ≡ s ∷ [] → sides t (without_kept ks j) ≡ []) → sides t (without_kept (k ∷ ks) j) ≡ []
    go true i b l rest =
        let parts = cons_parts (side_of k) s (sides t ks) [] (sym (first_own t k ks i) ∙ one) in
        let at : is_key k.key j ≡ true = own_key k.key j (ap (λ (v : Side). v.key) parts.0 ∙ same) in
        ap (sides t) (without_eq k ks j true at) ∙ parts.1
    go false i true l rest = absurd (cc (i, tree_of t k.key j true l h))
    go false i false l rest = ap (sides t) (without_eq k ks j false l) ∙ first_other t k (without_kept ks j) i ∙ rest (sym (first_other t k ks i) ∙ one)

-- one that is found stands among them
pub found_side : (t : Aaid) (ks : List Kept) (j : NodeKey) (x : Kept) → find_kept ks j ≡ Some x → is_aaid t x.key.aaid ≡ true → (sides t ks ≡ [] → ⊥) × ((s : Side) → sides t ks ≡ s ∷ [] → side_of x ≡ s)
found_side t [] j x h i = absurd (cc (h))
found_side t (k ∷ ks) j x h i = go (is_key k.key j) refl (found_side t ks j x)
  where
    find_eq : (b : Bool) → is_key k.key j ≡ b → find_kept (k ∷ ks) j ≡ (if b then Some k else find_kept ks j)
    find_eq b l = ap (λ (v : Bool). if v then Some k else find_kept ks j) l

    go : (b : Bool) → is_key k.key j ≡ b → (find_kept ks j ≡ Some x → is_aaid t x.key.aaid ≡ true → (sides t ks ≡ [] → ⊥) × ((s : Side) → sides t ks ≡ s ∷ [] → side_of x ≡ s)) → (sides t (k ∷ ks) ≡ [] → ⊥) × ((s : Side) → sides t (k ∷ ks) ≡ s ∷ [] → side_of x ≡ s)
    go true l rest =
        let same : k ≡ x = some_same k x (sym (find_eq true l) ∙ h) in
        let own : is_aaid t k.key.aaid ≡ true = ap (λ (v : Kept). is_aaid t v.key.aaid) same ∙ i in (
          λ none. let off : side_of k ∷ sides t ks ≡ [] = sym (first_own t k ks own) ∙ none in cc (off),
          λ s one. ap side_of (sym same) ∙ (cons_parts (side_of k) s (sides t ks) [] (sym (first_own t k ks own) ∙ one)).0,
        )
    go false l rest = on (is_aaid t k.key.aaid) refl (rest (sym (find_eq false l) ∙ h) i)
      where
        on : (b : Bool) → is_aaid t k.key.aaid ≡ b → (sides t ks ≡ [] → ⊥) × ((s : Side) → sides t ks ≡ s ∷ [] → side_of x ≡ s) → (sides t (k ∷ ks) ≡ [] → ⊥) × ((s : Side) → sides t (k ∷ ks) ≡ s ∷ [] → side_of x ≡ s)
        on true m there = (
          λ none. let off : side_of k ∷ sides t ks ≡ [] = sym (first_own t k ks m) ∙ none in cc (off),
          λ s one. absurd (there.0 (cons_parts (side_of k) s (sides t ks) [] (sym (first_own t k ks m) ∙ one)).1),
        )
        on false m there = (
          λ none. there.0 (sym (first_other t k ks m) ∙ none),
          λ s one. there.1 s (sym (first_other t k ks m) ∙ one),
        )

-- ---- a record

vote_stood : (k j : NodeKey) (g u : Stage) → after_vote k g ≡ Some u → (stood j g ≡ []) × (stood j u ≡ [])
vote_stood k j Stage.Blank u h = on (is_root_key k) h
  where
    on : (b : Bool) → when (not b) Stage.Voted ≡ Some u → (stood j Stage.Blank ≡ []) × (stood j u ≡ [])
    on true i = absurd (cc (i))
    on false i = (refl, ap (stood j) (sym (some_same Stage.Voted u i)))
vote_stood k j _ u h = absurd (cc (h))

decision_stood : (o : Outcome) (j : NodeKey) (g u : Stage) → after_decision o g ≡ Some u → (stood j g ≡ []) × (stood j u ≡ [])
decision_stood o j Stage.Voted u h = (refl, ap (stood j) (sym (some_same (Stage.Decided o) u h)))
decision_stood o j _ u h = absurd (cc (h))

order_stood : (k j : NodeKey) (g u : Stage) → after_order k g ≡ Some u → (stood j g ≡ []) × (stood j u ≡ [])
order_stood k j Stage.Blank u h = on (is_root_key k) h
  where
    on : (b : Bool) → when b Stage.Ordered ≡ Some u → (stood j Stage.Blank ≡ []) × (stood j u ≡ [])
    on false i = absurd (cc (i))
    on true i = (refl, ap (stood j) (sym (some_same Stage.Ordered u i)))
order_stood k j Stage.Voted u h = (refl, ap (stood j) (sym (some_same Stage.Ordered u h)))
order_stood k j (Stage.Decided o) u h = (refl, ap (stood j) (sym (some_same Stage.Ordered u h)))
order_stood k j _ u h = absurd (cc (h))

-- a record of the tree has the key, and may stand there
own_next : (k : NodeKey) (g u : Stage) (r : LogRec) (b : Bool) → is_of_key k r ≡ b → if_own (is_of_key k r) (after_record k g r) ≡ Some u → (is_of_key k r ≡ true) × (after_record k g r ≡ Some u)
own_next k g u r true i h = (i, sym (ap (λ (b : Bool). if_own b (after_record k g r)) i) ∙ h)
own_next k g u r false i h = absurd (let off : None ≡ Some u = sym (ap (λ (b : Bool). if_own b (after_record k g r)) i) ∙ h in cc (off))

damage_sides : (t : Aaid) (k : NodeKey) (g u : Stage) (x : Kept) (ks : List Kept) → is_aaid t x.key.aaid ≡ true → x.key ≡ k → after_damage x.side x.owed g ≡ Some u → sides t ks ≡ stood k g
    → sides t (put_kept ks x) ≡ stood k u
damage_sides t k g u x ks own key h is = go x.side refl g is h
  where
    made : (o : Outcome) → x.side ≡ o → is_odd x.side x.owed ≡ false → side_of x ≡ plain k o
    made o i j = side_made x.key k x.side o (is_odd x.side x.owed) key i j
      where
        side_made : (a b : NodeKey) (o p : Outcome) (v : Bool) → a ≡ b → o ≡ p → v ≡ false → ◌≡◌ {A = Side} (record { key = a; outcome = o; odd = v }) (plain b p)
        side_made a b o p v i j l = rw (i, j, l) refl

    new : (s : Side) → sides t ks ≡ [] → side_of x ≡ s → sides t (put_kept ks x) ≡ s ∷ []
    new s none i = put_first t ks x own none ∙ ap (λ (v : Side). v ∷ []) i

    over : (s v : Side) → sides t ks ≡ v ∷ [] → v.key ≡ k → side_of x ≡ s → sides t (put_kept ks x) ≡ s ∷ []
    over s v one at i = put_again t ks x v own (at ∙ sym key) one ∙ ap (λ (w : Side). w ∷ []) i

    made_as : (g : Stage) (s : Side) → sides t (put_kept ks x) ≡ s ∷ [] → s ∷ [] ≡ stood k g → Some g ≡ Some u → sides t (put_kept ks x) ≡ stood k u
    made_as g s i j l = i ∙ j ∙ ap (stood k) (some_same g u l)

    commit : x.side ≡ Outcome.Commit → is_odd x.side x.owed ≡ false
    commit i = ap (λ (o : Outcome). is_odd o x.owed) i

    go : (o : Outcome) → x.side ≡ o → (g : Stage) → sides t ks ≡ stood k g → after_damage x.side x.owed g ≡ Some u → sides t (put_kept ks x) ≡ stood k u
    go Outcome.Commit i Stage.Ordered j l = made_as Stage.Damaged (plain k Outcome.Commit) (new (plain k Outcome.Commit) j (made Outcome.Commit i (commit i))) refl (sym (ap (λ (o : Outcome). after_damage o x.owed Stage.Ordered) i) ∙ l)
    go Outcome.Commit i Stage.Damaged j l = made_as Stage.Damaged (plain k Outcome.Commit) (over (plain k Outcome.Commit) (plain k Outcome.Commit) j refl (made Outcome.Commit i (commit i))) refl (sym (ap (λ (o : Outcome). after_damage o x.owed Stage.Damaged) i) ∙ l)
    go Outcome.Rollback i (Stage.Decided Outcome.Commit) j l = on (is_nothing_owed x.owed) refl (sym (ap (λ (o : Outcome). after_damage o x.owed (Stage.Decided Outcome.Commit)) i) ∙ l)
      where
        on : (b : Bool) → is_nothing_owed x.owed ≡ b → when (is_nothing_owed x.owed) Stage.Backed ≡ Some u → sides t (put_kept ks x) ≡ stood k u
        on true m l =
            let bare : is_odd x.side x.owed ≡ false = ap (λ (o : Outcome). is_odd o x.owed) i ∙ ap not m in
            made_as Stage.Backed (plain k Outcome.Rollback) (new (plain k Outcome.Rollback) j (made Outcome.Rollback i bare)) refl (sym (ap (λ (b : Bool). when b Stage.Backed) m) ∙ l)
        on false m l = absurd (let off : None ≡ Some u = sym (ap (λ (b : Bool). when b Stage.Backed) m) ∙ l in cc (off))
    go o i g j l = absurd (let off : after_damage o x.owed g ≡ Some u = sym (ap (λ (p : Outcome). after_damage p x.owed g) i) ∙ l in cc (off))

end_sides : (t : Aaid) (k j : NodeKey) (o : Outcome) (g u : Stage) (ks : List Kept) → is_aaid t j.aaid ≡ true → j ≡ k → after_end o g ≡ Some u → sides t ks ≡ stood k g → sides t (without_kept ks j) ≡ stood k u
end_sides t k j o g u ks own key h is = go o g h is
  where
    none : (g : Stage) → sides t ks ≡ [] → Some Stage.Over ≡ Some u → sides t (without_kept ks j) ≡ stood k u
    none g i l = without_none t ks j i ∙ ap (stood k) (some_same Stage.Over u l)

    one : (v : Side) → sides t ks ≡ v ∷ [] → v.key ≡ k → Some Stage.Over ≡ Some u → sides t (without_kept ks j) ≡ stood k u
    one v i at l = without_own t ks j v own (at ∙ sym key) i ∙ ap (stood k) (some_same Stage.Over u l)

    go : (o : Outcome) (g : Stage) → after_end o g ≡ Some u → sides t ks ≡ stood k g → sides t (without_kept ks j) ≡ stood k u
    go Outcome.Commit Stage.Ordered l i = none Stage.Ordered i l
    go Outcome.Commit Stage.Damaged l i = one (plain k Outcome.Commit) i refl l
    go Outcome.Rollback Stage.Voted l i = none Stage.Voted i l
    go Outcome.Rollback (Stage.Decided Outcome.Rollback) l i = none (Stage.Decided Outcome.Rollback) i l
    go Outcome.Rollback Stage.Backed l i = one (plain k Outcome.Rollback) i refl l
    go o g l i = absurd (cc (l))

pub sides_after : (t : Aaid) (k : NodeKey) (g u : Stage) (r : Option LogRec) (ks : List Kept) → sides t ks ≡ stood k g → log_step t k g r ≡ Some u → sides t (kept_after r ks) ≡ stood k u
unfolding kept_by
sides_after t k g u None ks is h = is ∙ ap (stood k) (some_same g u h)
sides_after t k g u (Some (LogRec.Boot n)) ks is h = is ∙ ap (stood k) (some_same g u h)
sides_after t k g u (Some (LogRec.Ready n j s cs)) ks is h = on (is_aaid t j.aaid) h
  where
    on : (b : Bool) → tree_stage b k g (LogRec.Ready n j s cs) ≡ Some u → sides t ks ≡ stood k u
    on false i = is ∙ ap (stood k) (some_same g u i)
    on true i = let v = vote_stood k k g u (own_next k g u (LogRec.Ready n j s cs) (is_key j k) refl i).1 in is ∙ v.0 ∙ sym v.1
sides_after t k g u (Some (LogRec.Heuristic n j o)) ks is h = on (is_aaid t j.aaid) h
  where
    on : (b : Bool) → tree_stage b k g (LogRec.Heuristic n j o) ≡ Some u → sides t ks ≡ stood k u
    on false i = is ∙ ap (stood k) (some_same g u i)
    on true i = let v = decision_stood o k g u (own_next k g u (LogRec.Heuristic n j o) (is_key j k) refl i).1 in is ∙ v.0 ∙ sym v.1
sides_after t k g u (Some (LogRec.Commit n j s cs)) ks is h = on (is_aaid t j.aaid) h
  where
    on : (b : Bool) → tree_stage b k g (LogRec.Commit n j s cs) ≡ Some u → sides t ks ≡ stood k u
    on false i = is ∙ ap (stood k) (some_same g u i)
    on true i = let v = order_stood k k g u (own_next k g u (LogRec.Commit n j s cs) (is_key j k) refl i).1 in is ∙ v.0 ∙ sym v.1
sides_after t k g u (Some (LogRec.Damage n j s o p cs)) ks is h = on (is_aaid t j.aaid) refl h
  where
    x : Kept
    x = record { node = n; key = j; superior = s; side = o; report = p; owed = cs; forgot = false }

    on : (b : Bool) → is_aaid t j.aaid ≡ b → tree_stage (is_aaid t j.aaid) k g (LogRec.Damage n j s o p cs) ≡ Some u → sides t (put_kept ks x) ≡ stood k u
    on false m i = put_other t ks x m ∙ is ∙ ap (stood k) (some_same g u (sym (ap (λ (b : Bool). tree_stage b k g (LogRec.Damage n j s o p cs)) m) ∙ i))
    on true m i =
        let v = own_next k g u (LogRec.Damage n j s o p cs) (is_key j k) refl (sym (ap (λ (b : Bool). tree_stage b k g (LogRec.Damage n j s o p cs)) m) ∙ i) in
        damage_sides t k g u x ks m (keys_equal j k v.0) v.1 is
sides_after t k g u (Some (LogRec.End n j o)) ks is h = on (is_aaid t j.aaid) refl h
  where
    on : (b : Bool) → is_aaid t j.aaid ≡ b → tree_stage (is_aaid t j.aaid) k g (LogRec.End n j o) ≡ Some u → sides t (without_kept ks j) ≡ stood k u
    on false m i = without_other t ks j m ∙ is ∙ ap (stood k) (some_same g u (sym (ap (λ (b : Bool). tree_stage b k g (LogRec.End n j o)) m) ∙ i))
    on true m i =
        let v = own_next k g u (LogRec.End n j o) (is_key j k) refl (sym (ap (λ (b : Bool). tree_stage b k g (LogRec.End n j o)) m) ∙ i) in
        end_sides t k j o g u ks m (keys_equal j k v.0) v.1 is
