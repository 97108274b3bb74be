-- In every run a tree that is mixed names at least one node.
use Rattle.std.proofs.Common.{◌≡◌, ◌≢◌, ◌⊎◌, inl, inr, ℕ, Bool, true, false, refl, ap, sym, subst, ◌∙◌, arith, Option, Some, None, List, [], ◌∷◌, ◌++◌, ◌&&◌}
use Rattle.std.proofs.lemmas.Bool.Decides.{nat_tests}
use Rattle.std.specs.Prelude.{nat_lt}
use Rattle.tp_names.specs.declared.identifiers.Aaid.{Aaid}
use Rattle.tp_names.specs.declared.outcome.Outcome.{Outcome}
use Rattle.tp_model.specs.declared.out_line.OutLine.{OutLine}
use Rattle.tp_model.specs.Outcomes.{is_member, decision, told}
use Rattle.tp_model.specs.World.{Node, number_of, find_node}
use Rattle.tp_model.specs.Happenings.{Happening, run}
use Rattle.tp_model.specs.Trees.{stays, members_of, is_told, some_told, all_told, placed, deciders, agreed_line}
use Rattle.tp_model.specs.Promises.{IsOf, HasDecided, MixedIsNamed}
use Rattle.tp_histories.specs.Worlds.{AreDistinct}
use Rattle.tp_histories.proofs.worlds.Nodes.{find_behind}
use Rattle.tp_histories.proofs.worlds.Runs.{Kept, kept_steps}
use Rattle.tp_histories.proofs.worlds.Traversal.{induct}
use Rattle.tp_steps.proofs.lemmas.Equality.{or_case, and_left, and_right}
use Rattle.tp_agreement.proofs.Agreed.{one_outcome}

-- ---- a node in the list

abbrev pub Stands : Node → List Node → Type 0
Stands x [] = ⊥
Stands x (y ∷ ys) = (y ≡ x) ⊎ Stands x ys

-- in every run it is found by its number
distinct_run : (es : List Happening) → AreDistinct [] (run es).nodes
distinct_run es = (induct (Kept (λ ns fs. Unit {0})) (kept_steps (λ ns fs. Unit {0}) (record { start = tt; comes = λ ns fs x c p. tt; event = λ ns fs x e a b p. tt; mark = λ ns fs k p. tt })) es).distinct

found_in : (old ns : List Node) (x : Node) → AreDistinct old ns → Stands x ns → find_node (old ++ ns) (number_of x) ≡ Some x
found_in old [] x d s = absurd s
found_in old (y ∷ ns) x d (inl same) = subst (λ (z : Node). find_node (old ++ y ∷ ns) (number_of z) ≡ Some z) same (find_behind old (y ∷ ns) (number_of y) d.0 ∙ grind (arith, nat_tests))
found_in old (y ∷ ns) x d (inr s) = subst (λ (l : List Node). find_node l (number_of x) ≡ Some x) (regroup old y ns) (found_in (old ++ y ∷ []) ns x d.1 s)
  where
    regroup : (old : List Node) (y : Node) (ns : List Node) → (old ++ y ∷ []) ++ ns ≡ old ++ y ∷ ns
    regroup [] y ns = refl
    regroup (z ∷ old) y ns = ap (λ (l : List Node). z ∷ l) (regroup old y ns)

member_in : (t : Aaid) (ns : List Node) (x : Node) → Stands x (members_of t ns) → Stands x ns × (is_member x.origin t x.history ≡ true)
member_in t [] x s = absurd s
member_in t (y ∷ ns) x s = go (is_member y.origin t y.history) refl s (member_in t ns x)
  where
    go : (b : Bool) → is_member y.origin t y.history ≡ b → Stands x (elim b as (λ _. List Node) [ true ↦ y ∷ members_of t ns | false ↦ members_of t ns ]) → (Stands x (members_of t ns) → Stands x ns × (is_member x.origin t x.history ≡ true)) → Stands x (y ∷ ns) × (is_member x.origin t x.history ≡ true)
    go true i (inl same) rest = (inl same, ap (λ (z : Node). is_member z.origin t z.history) (sym same) ∙ i)
    go true i (inr s) rest = let r = rest s in (inr r.0, r.1)
    go false i s rest = let r = rest s in (inr r.0, r.1)

pub member_of : (es : List Happening) (t : Aaid) (x : Node) → Stands x (members_of t (run es).nodes) → IsOf (run es) t x
member_of es t x s = let m = member_in t (run es).nodes x s in record { here = found_in [] (run es).nodes x (distinct_run es) m.0; of_tree = m.1 }

-- ---- who was told so

told_is : (o : Outcome) (u : Option Outcome) → is_told o u ≡ true → u ≡ Some o
told_is Outcome.Commit (Some Outcome.Commit) h = refl
told_is Outcome.Rollback (Some Outcome.Rollback) h = refl
told_is _ _ h = absurd (cc (h))

told_in : (o : Outcome) (t : Aaid) (ns : List Node) → some_told o t ns ≡ true → (x : Node) × Stands x ns × (told x.origin t x.history ≡ Some o)
told_in o t [] h = absurd (cc (h))
told_in o t (y ∷ ns) h = elim (or_case (stays t y && is_told o (told y.origin t y.history)) (some_told o t ns) h) [
  | inl i ↦ (y, inl refl, told_is o (told y.origin t y.history) (and_right (stays t y) (is_told o (told y.origin t y.history)) i))
  | inr i ↦ (let r = told_in o t ns i in (r.0, inr r.1, r.2))
]

placed_some : (n : ℕ) (ms : List ℕ) → placed n ms ≡ [] → ⊥
placed_some n [] h = cc (h)
placed_some n (m ∷ ms) h = go (nat_lt n m) h
  where
    go : (b : Bool) → elim b as (λ _. List ℕ) [ true ↦ n ∷ m ∷ ms | false ↦ m ∷ placed n ms ] ≡ [] → ⊥
    go true i = cc (i)
    go false i = cc (i)

named : (t : Aaid) (ns : List Node) (x : Node) → Stands x ns → HasDecided t x → deciders t ns ≡ [] → ⊥
named t [] x s d h = s
named t (y ∷ ns) x s d h = go (decision y.origin t y.history) refl h s (named t ns x)
  where
    go : (o : Option Outcome) → decision y.origin t y.history ≡ o → elim o as (λ _. List ℕ) [ None ↦ deciders t ns | Some u ↦ placed (number_of y) (deciders t ns) ] ≡ [] → (y ≡ x) ⊎ Stands x ns → (Stands x ns → HasDecided t x → deciders t ns ≡ [] → ⊥) → ⊥
    go (Some u) i k s rest = placed_some (number_of y) (deciders t ns) k
    go None i k (inl same) rest = cc (i, ap (λ (z : Node). decision z.origin t z.history) same ∙ d.1)
    go None i k (inr s) rest = rest s d k

differ : Outcome.Commit ≢ Outcome.Rollback
differ h = cc (h)

not_agreed : (t : Aaid) (ns : List Node) (ms : List ℕ) → agreed_line t ns ≡ OutLine.Mixed t ms → ⊥
not_agreed t ns ms h = go (all_told Outcome.Commit t ns) (all_told Outcome.Rollback t ns) h
  where
    go : (b c : Bool) → elim b as (λ _. OutLine) [ true ↦ OutLine.Agreed t Outcome.Commit | false ↦ elim c as (λ _. OutLine) [ true ↦ OutLine.Agreed t Outcome.Rollback | false ↦ OutLine.Open t ] ] ≡ OutLine.Mixed t ms → ⊥
    go true c i = cc (i)
    go false true i = cc (i)
    go false false i = cc (i)

names_of : (t : Aaid) (ms ns : List ℕ) → OutLine.Mixed t ms ≡ OutLine.Mixed t ns → ms ≡ ns
names_of t ms ns h = cc (h)

pub mixed_is_named : (es : List Happening) → MixedIsNamed (run es)
mixed_is_named es t names line empty = go (some_told Outcome.Commit t ns && some_told Outcome.Rollback t ns) refl line
  where
    ns : List Node
    ns = members_of t (run es).nodes

    mixed : (some_told Outcome.Commit t ns && some_told Outcome.Rollback t ns) ≡ true → deciders t ns ≡ [] → ⊥
    mixed both none =
        let x = told_in Outcome.Commit t ns (and_left (some_told Outcome.Commit t ns) (some_told Outcome.Rollback t ns) both) in
        let y = told_in Outcome.Rollback t ns (and_right (some_told Outcome.Commit t ns) (some_told Outcome.Rollback t ns) both) in
        elim (one_outcome es t x.0 y.0 Outcome.Commit Outcome.Rollback (member_of es t x.0 x.1) (member_of es t y.0 y.1) x.2 y.2 differ) [
          | inl d ↦ named t ns x.0 x.1 d none
          | inr d ↦ named t ns y.0 y.1 d none
        ]

    go : (b : Bool) → (some_told Outcome.Commit t ns && some_told Outcome.Rollback t ns) ≡ b → elim b as (λ _. OutLine) [ true ↦ OutLine.Mixed t (deciders t ns) | false ↦ agreed_line t ns ] ≡ OutLine.Mixed t names → ⊥
    go true i k = mixed i (names_of t (deciders t ns) names k ∙ empty)
    go false i k = not_agreed t ns names k
