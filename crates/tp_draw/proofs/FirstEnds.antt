-- The end of a frame is at the first line that says it.
use Rattle.std.proofs.Common.{◌≡◌, ℕ, zero, suc, ◌+◌, ◌<◌, ◌==◌, Bool, true, false, if◌then◌else◌, Option, Some, List, [], ◌∷◌, unwrap_or, refl, ap, subst, arith, eqb-true}
use Rattle.tp_model.specs.declared.out_line.OutLine.{OutLine}
use Rattle.tp_draw.specs.declared.end.End.{End}
use Rattle.tp_draw.specs.Ends.{is_refused_after, end_in, end_of, or_else}
use Rattle.tp_draw.specs.Laws.{item, ends_it, IsFirst, Says}

-- ---- ends one after the other

pub or_else_never : (e : End) → or_else e End.Never ≡ e
or_else_never End.Never = refl
or_else_never (End.Taken r) = refl
or_else_never (End.Refused r) = refl
or_else_never (End.Lost r) = refl

pub or_else_assoc : (a b c : End) → or_else (or_else a b) c ≡ or_else a (or_else b c)
or_else_assoc End.Never b c = refl
or_else_assoc (End.Taken r) b c = refl
or_else_assoc (End.Refused r) b c = refl
or_else_assoc (End.Lost r) b c = refl

-- ---- what is said of lines of a transcript, of which the first is in that row

abbrev SaysFrom : List OutLine → ℕ → ℕ → List OutLine → End → Type 0
SaysFrom all k r os End.Never = (q : ℕ) (p : OutLine) → item os q ≡ Some p → ends_it k p ≡ false
SaysFrom all k r os (End.Taken row) = (i : ℕ) × (row ≡ r + i) × IsFirst k os i (OutLine.Take k) × (is_refused_after all row ≡ false)
SaysFrom all k r os (End.Refused row) = (i : ℕ) × (row ≡ r + i) × IsFirst k os i (OutLine.Take k) × (is_refused_after all row ≡ true)
SaysFrom all k r os (End.Lost row) = (i : ℕ) × (row ≡ r + i) × IsFirst k os i (OutLine.Lost k)

not_first : (k : ℕ) (o : OutLine) (os : List OutLine) → ends_it k o ≡ false → ((q : ℕ) (p : OutLine) → item os q ≡ Some p → ends_it k p ≡ false)
    → (q : ℕ) (p : OutLine) → item (o ∷ os) q ≡ Some p → ends_it k p ≡ false
not_first k o os differs rest zero p is = subst (λ (x : OutLine). ends_it k x ≡ false) (ap (λ (x : Option OutLine). unwrap_or x o) is) differs
not_first k o os differs rest (suc q) p is = rest q p is

before_it : (k : ℕ) (o : OutLine) (os : List OutLine) (i : ℕ) → ends_it k o ≡ false → ((q : ℕ) (p : OutLine) → q < i → item os q ≡ Some p → ends_it k p ≡ false)
    → (q : ℕ) (p : OutLine) → q < suc i → item (o ∷ os) q ≡ Some p → ends_it k p ≡ false
before_it k o os i differs rest zero p lt is = subst (λ (x : OutLine). ends_it k x ≡ false) (ap (λ (x : Option OutLine). unwrap_or x o) is) differs
before_it k o os i differs rest (suc q) p lt is = rest q p (omega arith) is

later : (k : ℕ) (o : OutLine) (os : List OutLine) (i : ℕ) (x : OutLine) → ends_it k o ≡ false → IsFirst k os i x → IsFirst k (o ∷ os) (suc i) x
later k o os i x differs f = record { here = f.here; before = before_it k o os i differs f.before }

shifted : (all : List OutLine) (k r : ℕ) (o : OutLine) (os : List OutLine) (e : End) → ends_it k o ≡ false → SaysFrom all k (suc r) os e → SaysFrom all k r (o ∷ os) e
shifted all k r o os End.Never differs says = not_first k o os differs says
shifted all k r o os (End.Taken row) differs says = (suc says.0, omega (arith, says.1), later k o os says.0 (OutLine.Take k) differs says.2, says.3)
shifted all k r o os (End.Refused row) differs says = (suc says.0, omega (arith, says.1), later k o os says.0 (OutLine.Take k) differs says.2, says.3)
shifted all k r o os (End.Lost row) differs says = (suc says.0, omega (arith, says.1), later k o os says.0 (OutLine.Lost k) differs says.2)

none_before : (k : ℕ) (os : List OutLine) (q : ℕ) (p : OutLine) → q < 0 → item os q ≡ Some p → ends_it k p ≡ false
none_before k os q p lt is = absurd (omega arith)

first_take : (k f : ℕ) (os : List OutLine) → (f == k) ≡ true → IsFirst k (OutLine.Take f ∷ os) 0 (OutLine.Take k)
first_take k f os is = record { here = ap (λ (x : ℕ). Some (OutLine.Take x)) (eqb-true f k is); before = none_before k (OutLine.Take f ∷ os) }

taken_here : (all : List OutLine) (k r f : ℕ) (refused : Bool) (os : List OutLine) (e : End) (b : Bool) → is_refused_after all r ≡ refused → (f == k) ≡ b → SaysFrom all k (suc r) os e
    → SaysFrom all k r (OutLine.Take f ∷ os) (or_else (if b then (if refused then End.Refused r else End.Taken r) else End.Never) e)
taken_here all k r f true os e true next is says = (0, omega arith, first_take k f os is, next)
taken_here all k r f false os e true next is says = (0, omega arith, first_take k f os is, next)
taken_here all k r f refused os e false next is says = shifted all k r (OutLine.Take f) os e is says

lost_here : (all : List OutLine) (k r f : ℕ) (os : List OutLine) (e : End) (b : Bool) → (f == k) ≡ b → SaysFrom all k (suc r) os e
    → SaysFrom all k r (OutLine.Lost f ∷ os) (or_else (if b then End.Lost r else End.Never) e)
lost_here all k r f os e true is says = (0, omega arith, record { here = ap (λ (x : ℕ). Some (OutLine.Lost x)) (eqb-true f k is); before = none_before k (OutLine.Lost f ∷ os) })
lost_here all k r f os e false is says = shifted all k r (OutLine.Lost f) os e is says

one_more : (all : List OutLine) (k r : ℕ) (o : OutLine) (os : List OutLine) → SaysFrom all k (suc r) os (end_in all k (suc r) os) → SaysFrom all k r (o ∷ os) (end_in all k r (o ∷ os))
one_more all k r (OutLine.Take f) os says = taken_here all k r f (is_refused_after all r) os (end_in all k (suc r) os) (f == k) refl refl says
one_more all k r (OutLine.Lost f) os says = lost_here all k r f os (end_in all k (suc r) os) (f == k) refl says
one_more all k r (OutLine.Echo t) os says = shifted all k r (OutLine.Echo t) os (end_in all k (suc r) os) refl says
one_more all k r (OutLine.Log s l) os says = shifted all k r (OutLine.Log s l) os (end_in all k (suc r) os) refl says
one_more all k r (OutLine.Send f a b l) os says = shifted all k r (OutLine.Send f a b l) os (end_in all k (suc r) os) refl says
one_more all k r (OutLine.Tell n i) os says = shifted all k r (OutLine.Tell n i) os (end_in all k (suc r) os) refl says
one_more all k r (OutLine.Refused n) os says = shifted all k r (OutLine.Refused n) os (end_in all k (suc r) os) refl says
one_more all k r (OutLine.Dropped n) os says = shifted all k r (OutLine.Dropped n) os (end_in all k (suc r) os) refl says
one_more all k r OutLine.Nothing os says = shifted all k r OutLine.Nothing os (end_in all k (suc r) os) refl says
one_more all k r (OutLine.Stopped s f) os says = shifted all k r (OutLine.Stopped s f) os (end_in all k (suc r) os) refl says
one_more all k r (OutLine.State n p m) os says = shifted all k r (OutLine.State n p m) os (end_in all k (suc r) os) refl says
one_more all k r (OutLine.Image s bs) os says = shifted all k r (OutLine.Image s bs) os (end_in all k (suc r) os) refl says
one_more all k r (OutLine.Agreed a m) os says = shifted all k r (OutLine.Agreed a m) os (end_in all k (suc r) os) refl says
one_more all k r (OutLine.Mixed a ns) os says = shifted all k r (OutLine.Mixed a ns) os (end_in all k (suc r) os) refl says
one_more all k r (OutLine.Open a) os says = shifted all k r (OutLine.Open a) os (end_in all k (suc r) os) refl says

nothing : (k q : ℕ) (p : OutLine) → item [] q ≡ Some p → ends_it k p ≡ false
nothing k q p is = grind arith

says_from : (all : List OutLine) (k r : ℕ) (os : List OutLine) → SaysFrom all k r os (end_in all k r os)
says_from all k r [] = nothing k
says_from all k r (o ∷ os) = one_more all k r o os (says_from all k (suc r) os)

says_whole : (k : ℕ) (os : List OutLine) (e : End) → SaysFrom os k 0 os e → Says k os e
says_whole k os End.Never says = says
says_whole k os (End.Taken row) says = let same : says.0 ≡ row = omega (arith, says.1) in (subst (λ (i : ℕ). IsFirst k os i (OutLine.Take k)) same says.2, says.3)
says_whole k os (End.Refused row) says = let same : says.0 ≡ row = omega (arith, says.1) in (subst (λ (i : ℕ). IsFirst k os i (OutLine.Take k)) same says.2, says.3)
says_whole k os (End.Lost row) says = let same : says.0 ≡ row = omega (arith, says.1) in subst (λ (i : ℕ). IsFirst k os i (OutLine.Lost k)) same says.2

pub ends_law : (os : List OutLine) (k : ℕ) → Says k os (end_of os k)
ends_law os k = says_whole k os (end_in os k 0 os) (says_from os k 0 os)
