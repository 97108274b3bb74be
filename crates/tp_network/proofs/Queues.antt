-- The numbers of a queue that did not pass: after one more, and after the first of them has left.
use Rattle.std.proofs.Common.{◌≡◌, ◌≤◌, ◌<◌, ◌++◌, ℕ, refl, ap, sym, ◌∙◌, arith, List, [], ◌∷◌}
use Rattle.std.specs.Prelude.{nat_lt}
use Rattle.std.proofs.lemmas.Bool.Decides.{nat_tests}
use Rattle.std.proofs.lemmas.List.Elements.{filter-append}
use Rattle.tp_network.specs.Waiting.{above}

-- ---- one number

pub above_one : (m n : ℕ) → m < n → above m (n ∷ []) ≡ n ∷ []
above_one m n h = grind (arith, nat_tests, h)

pub passed_one : (m n : ℕ) → n ≤ m → above m (n ∷ []) ≡ []
passed_one m n h = grind (arith, nat_tests, h)

pub above_append : (m : ℕ) (ns ms : List ℕ) → above m (ns ++ ms) ≡ above m ns ++ above m ms
above_append m ns ms = filter-append (nat_lt m) ns ms

-- ---- one more

append_none : (ns : List ℕ) → ns ++ [] ≡ ns
append_none [] = refl
append_none (n ∷ ns) = ap (λ (l : List ℕ). n ∷ l) (append_none ns)

-- in the place of one that passed
pub put_over : (m : ℕ) (ns : List ℕ) (old new : ℕ) → old ≤ m → m < new → above m (ns ++ new ∷ []) ≡ above m (ns ++ old ∷ []) ++ new ∷ []
put_over m ns old new passed less =
    above_append m ns (new ∷ [])
    ∙ ap (λ (l : List ℕ). above m ns ++ l) (above_one m new less)
    ∙ ap (λ (l : List ℕ). l ++ new ∷ []) (sym (above_append m ns (old ∷ []) ∙ ap (λ (l : List ℕ). above m ns ++ l) (passed_one m old passed) ∙ append_none (above m ns)))

-- some that passed have left before it
pub left_behind : (m : ℕ) (ns left : List ℕ) (old : ℕ) → above m left ≡ above m ns → above m (left ++ old ∷ []) ≡ above m (ns ++ old ∷ [])
left_behind m ns left old same = above_append m left (old ∷ []) ∙ ap (λ (l : List ℕ). l ++ above m (old ∷ [])) same ∙ sym (above_append m ns (old ∷ []))

-- after one that did not, and of those before it some left that passed
pub put_behind : (m : ℕ) (ns left : List ℕ) (old new : ℕ) → above m left ≡ above m ns → m < new → above m ((left ++ old ∷ []) ++ new ∷ []) ≡ above m (ns ++ old ∷ []) ++ new ∷ []
put_behind m ns left old new same less =
    above_append m (left ++ old ∷ []) (new ∷ [])
    ∙ ap (λ (l : List ℕ). above m (left ++ old ∷ []) ++ l) (above_one m new less)
    ∙ ap (λ (l : List ℕ). l ++ new ∷ []) (left_behind m ns left old same)
