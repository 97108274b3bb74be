-- What is said of a result on either side, and of a slice that was lent.
use Rattle.std.proofs.Common.{◌≡◌, ℕ, Result, Ok, Err, IfErr, IfOk, OnErr, List, ◌++◌, take, drop, length, ap, ◌∙◌, arith}
use Rattle.std.proofs.lemmas.List.{append-nil, drop_all, take_all}

pub on_err_all : {A E : Type 0} (r : Result A E) (P : Type 0) → P → OnErr r P
on_err_all (Ok a) P p = tt
on_err_all (Err e) P p = p

pub if_err : {A E : Type 0} (r : Result A E) (P Q : E → Type 0) → IfErr r P → ((e : E) → P e → Q e) → IfErr r Q
if_err (Ok a) P Q p f = tt
if_err (Err e) P Q p f = f e p

pub if_ok : {A E : Type 0} (r : Result A E) (P Q : A → Type 0) → IfOk r P → ((a : A) → P a → Q a) → IfOk r Q
if_ok (Ok a) P Q p f = f a p
if_ok (Err e) P Q p f = tt

pub if_errs : {A E : Type 0} (r : Result A E) (P Q R : E → Type 0) → IfErr r P → IfErr r Q → ((e : E) → P e → Q e → R e) → IfErr r R
if_errs (Ok a) P Q R p q f = tt
if_errs (Err e) P Q R p q f = f e p q

pub if_oks : {A E : Type 0} (r : Result A E) (P Q R : A → Type 0) → IfOk r P → IfOk r Q → ((a : A) → P a → Q a → R a) → IfOk r R
if_oks (Ok a) P Q R p q f = f a p q
if_oks (Err e) P Q R p q f = tt

-- a vector whose slice was lent has what the slice has
pub lent_back : {A : Type 0} (xs ys : List A) (n : ℕ) → length xs ≡ n → length ys ≡ n → take n (xs ++ drop (length xs) ys) ≡ xs
lent_back xs ys n h k = ap (λ l. take n (xs ++ l)) (drop_all (length xs) ys (omega (arith, h, k))) ∙ ap (take n) (append-nil xs) ∙ take_all n xs (omega (arith, h))
