-- What the tests of equality say.
use Rattle.std.proofs.Common.{◌≡◌, ◌⊎◌, inl, inr, ℕ, Bool, true, false, refl, arith, List, [], ◌∷◌, ◌&&◌, ◌||◌}
use Rattle.std.proofs.lemmas.Bool.Decides.{nat_tests}
use Rattle.tp_names.specs.declared.identifiers.Mark.{Mark}
use Rattle.tp_names.specs.declared.identifiers.Aaid.{Aaid}
use Rattle.tp_names.specs.declared.identifiers.BranchId.{BranchId}
use Rattle.tp_names.specs.declared.identifiers.Addr.{Addr}
use Rattle.tp_names.specs.Same.{is_name, is_mark, is_aaid, is_branch, is_addr}
use Rattle.tp_steps.proofs.every.Preludes.{marks_same}

cons_equal : (x y : ℕ) (xs ys : List ℕ) → x ≡ y → xs ≡ ys → x ∷ xs ≡ y ∷ ys
cons_equal x y xs ys e f = rw (e, f) refl

pub names_equal : (m n : List ℕ) → is_name m n ≡ true → m ≡ n
names_equal [] [] h = refl
names_equal (x ∷ xs) (y ∷ ys) h =
    let e : x ≡ y = grind (arith, nat_tests, h) in
    let k : is_name xs ys ≡ true = grind (arith, h) in
    cons_equal x y xs ys e (names_equal xs ys k)
names_equal _ _ h = absurd cc

aaid_made : (n m : List ℕ) (x y : Mark) → n ≡ m → x ≡ y → ◌≡◌ {A = Aaid} (record { owner = n; mark = x }) (record { owner = m; mark = y })
aaid_made n m x y e f = rw (e, f) refl

pub aaids_equal : (a b : Aaid) → is_aaid a b ≡ true → a ≡ b
aaids_equal a b h =
    let n : is_name a.owner b.owner ≡ true = grind (arith, h) in
    let m : is_mark a.mark b.mark ≡ true = grind (arith, h) in
    aaid_made a.owner b.owner a.mark b.mark (names_equal a.owner b.owner n) (marks_same a.mark b.mark m)

branch_made : (n m : List ℕ) (x y : Mark) → n ≡ m → x ≡ y → ◌≡◌ {A = BranchId} (record { superior = n; mark = x }) (record { superior = m; mark = y })
branch_made n m x y e f = rw (e, f) refl

pub branches_equal : (a b : BranchId) → is_branch a b ≡ true → a ≡ b
branches_equal a b h =
    let n : is_name a.superior b.superior ≡ true = grind (arith, h) in
    let m : is_mark a.mark b.mark ≡ true = grind (arith, h) in
    branch_made a.superior b.superior a.mark b.mark (names_equal a.superior b.superior n) (marks_same a.mark b.mark m)

addr_made : (n m : List ℕ) (x y : ℕ) → n ≡ m → x ≡ y → ◌≡◌ {A = Addr} (record { site = n; node = x }) (record { site = m; node = y })
addr_made n m x y e f = rw (e, f) refl

pub addrs_equal : (a b : Addr) → is_addr a b ≡ true → a ≡ b
addrs_equal a b h =
    let n : is_name a.site b.site ≡ true = grind (arith, h) in
    let m : a.node ≡ b.node = grind (arith, nat_tests, h) in
    addr_made a.site b.site a.node b.node (names_equal a.site b.site n) m

pub or_case : (x y : Bool) → (x || y) ≡ true → (x ≡ true) ⊎ (y ≡ true)
or_case true y h = inl refl
or_case false y h = inr h

pub and_left : (x y : Bool) → (x && y) ≡ true → x ≡ true
and_left true y h = refl
and_left false y h = absurd cc

pub and_right : (x y : Bool) → (x && y) ≡ true → y ≡ true
and_right true y h = h
and_right false y h = absurd cc

pub both_true : (x y : Bool) → x ≡ true → y ≡ true → (x && y) ≡ true
both_true x y h i = rw (h, i) refl
