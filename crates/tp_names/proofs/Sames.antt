-- The tests of equality on names and what is made of them, by what they mean.
use Rattle.std.proofs.Common.{◌≡◌, ℕ, Option, Some, None, List, [], ◌∷◌, refl, ◌∙◌, ap, arith, Bool, true, false}
use Rattle.std.proofs.lemmas.Bool.Decides.{nat_tests}
use Rattle.std.specs.Prelude.{◌&&◌, ◌==◌}
use Rattle.tp_names.specs.declared.identifiers.Mark.{Mark}
use Rattle.tp_names.specs.declared.identifiers.Aaid.{Aaid}
use Rattle.tp_names.specs.declared.identifiers.BranchId.{BranchId}
use Rattle.tp_names.specs.declared.identifiers.NodeKey.{NodeKey}
use Rattle.tp_names.specs.Same.{is_name, is_mark, is_aaid, is_branch, is_branch_option, is_key}

-- ---- what the tests mean

pub both : (a b : Bool) → (a && b) ≡ true → (a ≡ true) × (b ≡ true)
both true true e = (refl, refl)
both true false e = absurd (cc)
both false b e = absurd (cc)

pub name_same : (xs ys : List ℕ) → is_name xs ys ≡ true → xs ≡ ys
name_same [] [] e = refl
name_same [] (y ∷ ys) e = absurd (cc)
name_same (x ∷ xs) [] e = absurd (cc)
name_same (x ∷ xs) (y ∷ ys) e =
    let p = both (x == y) (is_name xs ys) e in
    let h : x ≡ y = grind (arith, nat_tests, p.0) in
    ap (λ z. z ∷ xs) h ∙ ap (λ zs. y ∷ zs) (name_same xs ys p.1)

pub name_self : (xs : List ℕ) → is_name xs xs ≡ true
name_self [] = refl
name_self (x ∷ xs) = let e = name_self xs in grind (arith, nat_tests, e)

pub mark_same : (m n : Mark) → is_mark m n ≡ true → m ≡ n
mark_same m n e =
    let p = both (m.boot == n.boot) ((m.node == n.node) && (m.count == n.count)) (regroup e) in
    let q = both (m.node == n.node) (m.count == n.count) p.1 in
    let a : m.boot ≡ n.boot = grind (arith, nat_tests, p.0) in
    let b : m.node ≡ n.node = grind (arith, nat_tests, q.0) in
    let d : m.count ≡ n.count = grind (arith, nat_tests, q.1) in
    ap (λ x. let w : Mark = record { boot = x; node = m.node; count = m.count } in w) a
    ∙ ap (λ x. let w : Mark = record { boot = n.boot; node = x; count = m.count } in w) b
    ∙ ap (λ x. let w : Mark = record { boot = n.boot; node = n.node; count = x } in w) d
  where
    regroup : is_mark m n ≡ true → ((m.boot == n.boot) && ((m.node == n.node) && (m.count == n.count))) ≡ true
    regroup e = grind (arith, nat_tests, e)

pub mark_self : (m : Mark) → is_mark m m ≡ true
mark_self m = grind (arith, nat_tests)

pub aaid_same : (a b : Aaid) → is_aaid a b ≡ true → a ≡ b
aaid_same a b e =
    let p = both (is_name a.owner b.owner) (is_mark a.mark b.mark) e in
    ap (λ x. let w : Aaid = record { owner = x; mark = a.mark } in w) (name_same a.owner b.owner p.0)
    ∙ ap (λ x. let w : Aaid = record { owner = b.owner; mark = x } in w) (mark_same a.mark b.mark p.1)

pub aaid_self : (a : Aaid) → is_aaid a a ≡ true
aaid_self a = let e = name_self a.owner in let f = mark_self a.mark in grind (arith, e, f)

pub branch_same : (a b : BranchId) → is_branch a b ≡ true → a ≡ b
branch_same a b e =
    let p = both (is_name a.superior b.superior) (is_mark a.mark b.mark) e in
    ap (λ x. let w : BranchId = record { superior = x; mark = a.mark } in w) (name_same a.superior b.superior p.0)
    ∙ ap (λ x. let w : BranchId = record { superior = b.superior; mark = x } in w) (mark_same a.mark b.mark p.1)

pub branch_self : (a : BranchId) → is_branch a a ≡ true
branch_self a = let e = name_self a.superior in let f = mark_self a.mark in grind (arith, e, f)

pub option_same : (a b : Option BranchId) → is_branch_option a b ≡ true → a ≡ b
option_same None None e = refl
option_same None (Some b) e = absurd (cc)
option_same (Some a) None e = absurd (cc)
option_same (Some a) (Some b) e = ap Some (branch_same a b e)

pub option_self : (a : Option BranchId) → is_branch_option a a ≡ true
option_self None = refl
option_self (Some a) = branch_self a

pub key_same : (a b : NodeKey) → is_key a b ≡ true → a ≡ b
key_same a b e =
    let p = both (is_aaid a.aaid b.aaid) (is_branch_option a.branch b.branch) e in
    ap (λ x. let w : NodeKey = record { aaid = x; branch = a.branch } in w) (aaid_same a.aaid b.aaid p.0)
    ∙ ap (λ x. let w : NodeKey = record { aaid = b.aaid; branch = x } in w) (option_same a.branch b.branch p.1)

pub key_self : (a : NodeKey) → is_key a a ≡ true
key_self a = let e = aaid_self a.aaid in let f = option_self a.branch in grind (arith, e, f)
