-- Tests of equality on what records speak of.
use Rattle.std.proofs.Common.{◌≡◌, suc, ◌≢◌, List, [], ◌∷◌, length, refl, sym, ◌∙◌, ap, arith, Bool, true, false}
use Rattle.std.proofs.lemmas.Bool.Decides.{nat_tests}
use Rattle.std.specs.Prelude.{◌&&◌, ◌==◌}
use Rattle.tp_names.specs.declared.identifiers.Addr.{Addr}
use Rattle.tp_names.specs.declared.children.Child.{Child}
use Rattle.tp_names.specs.Same.{is_addr, is_branch, is_name}
use Rattle.tp_names.proofs.Sames.{both, branch_same, name_same}
use Rattle.tp_logrec.specs.Order.{is_child, are_children, are_among}
pub use Rattle.tp_logrec.specs.Owners.{owner_same, owner_self, owner_either}

pub children_differ : (cs ds : List Child) → length cs ≢ length ds → are_children cs ds ≡ false
children_differ [] [] h = absurd (h refl)
children_differ [] (d ∷ ds) h = refl
children_differ (c ∷ cs) [] h = refl
children_differ (c ∷ cs) (d ∷ ds) h = go (is_child c d) (children_differ cs ds (λ e. h (ap suc e)))
  where
    go : (b : Bool) → are_children cs ds ≡ false → (b && are_children cs ds) ≡ false
    go true e = e
    go false e = refl

pub among_none : (cs : List Child) → are_among cs [] ≡ (length cs == 0)
among_none [] = refl
among_none (c ∷ cs) = grind (arith, nat_tests)

-- ---- what is owed of what is owed

pub addr_same : (a b : Addr) → is_addr a b ≡ true → a ≡ b
addr_same a b e =
    let p = both (is_name a.site b.site) (a.node == b.node) e in
    let h : a.node ≡ b.node = grind (arith, nat_tests, p.1) in
    ap (λ x. let w : Addr = record { site = x; node = a.node } in w) (name_same a.site b.site p.0)
    ∙ ap (λ x. let w : Addr = record { site = b.site; node = x } in w) h

pub child_same : (c d : Child) → is_child c d ≡ true → c ≡ d
child_same c d e =
    let p = both (is_addr c.addr d.addr) (is_branch c.branch d.branch) e in
    ap (λ x. let w : Child = record { addr = x; branch = c.branch } in w) (addr_same c.addr d.addr p.0)
    ∙ ap (λ x. let w : Child = record { addr = d.addr; branch = x } in w) (branch_same c.branch d.branch p.1)

pub among_less : (a : Child) (xs cs : List Child) → are_among (a ∷ xs) cs ≡ true → are_among xs cs ≡ true
among_less a [] cs e = refl
among_less a (b ∷ bs) [] e = absurd (let clash : false ≡ true = e in cc)
among_less a (b ∷ bs) (c ∷ cs) e = go (is_child a c) (is_child b c) e (among_less b bs cs) (among_less a (b ∷ bs) cs)
  where
    go : (s t : Bool) → elim s as (λ _. Bool) [ true ↦ are_among (b ∷ bs) cs | false ↦ are_among (a ∷ b ∷ bs) cs ] ≡ true
        → (are_among (b ∷ bs) cs ≡ true → are_among bs cs ≡ true) → (are_among (a ∷ b ∷ bs) cs ≡ true → are_among (b ∷ bs) cs ≡ true)
        → elim t as (λ _. Bool) [ true ↦ are_among bs cs | false ↦ are_among (b ∷ bs) cs ] ≡ true
    go true true e f g = f e
    go true false e f g = e
    go false true e f g = f (g e)
    go false false e f g = g e

pub among_through : (xs bs cs : List Child) → are_among xs bs ≡ true → are_among bs cs ≡ true → are_among xs cs ≡ true
among_through [] bs cs e f = refl
among_through (a ∷ xs) [] cs e f = absurd (let clash : false ≡ true = e in cc)
among_through (a ∷ xs) (b ∷ bs) [] e f = absurd (let clash : false ≡ true = f in cc)
among_through (a ∷ xs) (b ∷ bs) (c ∷ cs) e f =
    go (is_child b c) (is_child a c) (is_child a b) refl refl refl f e (among_through xs bs cs) (among_through (a ∷ xs) bs cs) (among_through (a ∷ xs) (b ∷ bs) cs e)
  where
    go : (s t u : Bool) → is_child b c ≡ s → is_child a c ≡ t → is_child a b ≡ u
        → elim s as (λ _. Bool) [ true ↦ are_among bs cs | false ↦ are_among (b ∷ bs) cs ] ≡ true
        → elim u as (λ _. Bool) [ true ↦ are_among xs bs | false ↦ are_among (a ∷ xs) bs ] ≡ true
        → (are_among xs bs ≡ true → are_among bs cs ≡ true → are_among xs cs ≡ true)
        → (are_among (a ∷ xs) bs ≡ true → are_among bs cs ≡ true → are_among (a ∷ xs) cs ≡ true)
        → (are_among (b ∷ bs) cs ≡ true → are_among (a ∷ xs) cs ≡ true)
        → elim t as (λ _. Bool) [ true ↦ are_among xs cs | false ↦ are_among (a ∷ xs) cs ] ≡ true
    go false true u h i j f e x y z = among_less a xs cs (z f)
    go false false u h i j f e x y z = z f
    go true true true h i j f e x y z = x e f
    go true true false h i j f e x y z = among_less a xs cs (y e f)
    go true false false h i j f e x y z = y e f
    go true false true h i j f e x y z =
        absurd (let same : is_child a c ≡ true = ap (λ (w : Child). is_child a w) (sym (child_same b c h)) ∙ j in let clash : false ≡ true = sym i ∙ same in cc)
