-- Pieces that are put after one another.
use Rattle.std.specs.Prelude.{OnOk, OnErr}
use Rattle.std.proofs.Common.{◌≡◌, ℕ, ◌≤◌, Bool, true, false, Option, Some, None, Result, Ok, Err, List, [], ◌++◌, length, refl, ap, sym, subst, ◌∙◌, append_assoc}
use Rattle.std.proofs.lemmas.List.{append-nil, take-append-le}
use Rattle.tp_text_builder.specs.Written.{Written, written, text_after, with_more, wanting, Adds, Added, Wanting}

-- ---- one piece and the next

more_twice : (b : List ℕ) (o : Option (List ℕ)) (x y : List ℕ) → with_more (with_more (record { before = b; whole = o }) x) y ≡ with_more (record { before = b; whole = o }) (x ++ y)
unfolding with_more
more_twice b None x y = refl
more_twice b (Some s) x y = ap (λ (t : List ℕ). record { before = b; whole = Some t }) (append_assoc s x y)

wanting_before : (t : Written) (x : List ℕ) → wanting (with_more t x) ≡ wanting t
unfolding with_more wanting
wanting_before t x = refl

wanting_after : (t : Written) (x : List ℕ) → with_more (wanting t) x ≡ wanting t
unfolding with_more wanting
wanting_after t x = refl

wanting_twice : (t : Written) → wanting (wanting t) ≡ wanting t
unfolding wanting
wanting_twice t = refl

pub adds_then : {a b c : Written} {x y : List ℕ} → Adds a x b → Adds b y c → Adds a (x ++ y) c
adds_then {a} {b} {c} {x} {y} (Added p) (Added q) = Added (q ∙ ap (λ (t : Written). with_more t y) p ∙ more_twice a.before a.whole x y)
adds_then {a} {b} {c} {x} {y} (Added p) (Wanting q) = Wanting (q ∙ ap wanting p ∙ wanting_before a x)
adds_then {a} {b} {c} {x} {y} (Wanting p) (Added q) = Wanting (q ∙ ap (λ (t : Written). with_more t y) p ∙ wanting_after a y)
adds_then {a} {b} {c} {x} {y} (Wanting p) (Wanting q) = Wanting (q ∙ ap wanting p ∙ wanting_twice a)

-- the same piece in other words
pub adds_same : {a c : Written} {x y : List ℕ} → Adds a x c → x ≡ y → Adds a y c
adds_same {a} {c} p e = subst (λ (t : List ℕ). Adds a t c) e p

nothing_more : (b : List ℕ) (o : Option (List ℕ)) → with_more (record { before = b; whole = o }) [] ≡ record { before = b; whole = o }
unfolding with_more
nothing_more b None = refl
nothing_more b (Some s) = ap (λ (t : List ℕ). record { before = b; whole = Some t }) (append-nil s)

pub adds_nothing : (a : Written) → Adds a [] a
adds_nothing a = Added (sym (nothing_more a.before a.whole))

-- ---- the bytes themselves

put_more : (bytes more : List ℕ) (before : ℕ) (is_wanting : Bool) → before ≤ length bytes → written (bytes ++ more) before is_wanting ≡ with_more (written bytes before is_wanting) more
unfolding with_more
put_more bytes more before true within = ap (λ (t : List ℕ). record { before = t; whole = None }) (take-append-le before bytes more within)
put_more bytes more before false within = ap (λ (t : List ℕ). record { before = t; whole = Some (bytes ++ more) }) (take-append-le before bytes more within)

put_none : (bytes : List ℕ) (before : ℕ) (is_wanting : Bool) → written bytes before true ≡ wanting (written bytes before is_wanting)
unfolding wanting
put_none bytes before is_wanting = refl

-- memory for more was had
pub was_put : (bytes new more : List ℕ) (before : ℕ) (is_wanting : Bool) → before ≤ length bytes → new ≡ bytes ++ more → Adds (written bytes before is_wanting) more (written new before is_wanting)
was_put bytes new more before is_wanting within is = Added (ap (λ (t : List ℕ). written t before is_wanting) is ∙ put_more bytes more before is_wanting within)

-- it was not
pub was_not_put : (bytes new more : List ℕ) (before : ℕ) (is_wanting : Bool) → new ≡ bytes → Adds (written bytes before is_wanting) more (written new before true)
was_not_put bytes new more before is_wanting is = Wanting (ap (λ (t : List ℕ). written t before true) is ∙ put_none bytes before is_wanting)

-- ---- from octets to octets

whole_of : (old x out : List ℕ) → Some out ≡ (with_more (text_after old) x).whole → out ≡ old ++ x
unfolding with_more
whole_of old x out is = cc

no_whole : (old x out : List ℕ) → Some out ≡ (wanting (text_after old)).whole → out ≡ old ++ x
unfolding wanting
no_whole old x out is = cc

before_more : (old x : List ℕ) → (with_more (text_after old) x).before ≡ old
unfolding with_more
before_more old x = refl

before_wanting : (old : List ℕ) → (wanting (text_after old)).before ≡ old
unfolding wanting
before_wanting old = refl

-- what is put after octets stands at their end
pub is_done : (old out x : List ℕ) (t u : Written) → t ≡ text_after old → Adds t x u → Some out ≡ u.whole → out ≡ old ++ x
is_done old out x t u a (Added p) is = whole_of old x out (is ∙ ap (λ (v : Written). v.whole) (p ∙ ap (λ (v : Written). with_more v x) a))
is_done old out x t u a (Wanting p) is = no_whole old x out (is ∙ ap (λ (v : Written). v.whole) (p ∙ ap wanting a))

-- and what was there before stays
pub is_kept : (old out x : List ℕ) (t u : Written) → t ≡ text_after old → Adds t x u → out ≡ u.before → out ≡ old
is_kept old out x t u a (Added p) is = is ∙ ap (λ (v : Written). v.before) (p ∙ ap (λ (v : Written). with_more v x) a) ∙ before_more old x
is_kept old out x t u a (Wanting p) is = is ∙ ap (λ (v : Written). v.before) (p ∙ ap wanting a) ∙ before_wanting old

pub done_ok : {T E : Type 0} (r : Result T E) (old out x : List ℕ) (t u : Written) → t ≡ text_after old → Adds t x u → OnOk r (Some out ≡ u.whole) → OnOk r (out ≡ old ++ x)
done_ok (Ok v) old out x t u a p is = is_done old out x t u a p is
done_ok (Err e) old out x t u a p is = tt

pub done_err : {T E : Type 0} (r : Result T E) (old out x : List ℕ) (t u : Written) → t ≡ text_after old → Adds t x u → OnErr r (out ≡ u.before) → OnErr r (out ≡ old)
done_err (Ok v) old out x t u a p is = tt
done_err (Err e) old out x t u a p is = is_kept old out x t u a p is
