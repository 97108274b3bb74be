-- Lanes between nodes: their places, and what waits on them after one has changed or one has come.
use Rattle.std.proofs.Common.{◌≡◌, ◌≤◌, ◌<◌, ◌+◌, ◌++◌, ◌==◌, ◌&&◌, ℕ, zero, suc, Bool, true, false, refl, ap, sym, ◌∙◌, arith, Option, Some, None, List, [], ◌∷◌, length, length-append, length-set}
use Rattle.std.specs.Prelude.{cond, slice_index_or, slice_set}
use Rattle.std.specs.Map.{lookup}
use Rattle.std.proofs.lemmas.Bool.Decides.{nat_tests}
use Rattle.tp_network.specs.Waiting.{AreApart, above, is_lane, is_pair, place_in, place_on, queue_at}
use Rattle.tp_network.specs.declared.waiting.Lane.{Lane}
use Rattle.tp_network.proofs.Queues.{above_one}

abbrev pub Places : Type 0
Places = List ((ℕ × ℕ) × ℕ)

abbrev or_all : ℕ → Option ℕ → ℕ
or_all all o = elim o [ None ↦ all | Some k ↦ k ]

-- ---- by place

found_at : (ls : List Lane) (a b : ℕ) (d : Lane) → place_on ls a b < length ls → queue_at ls a b ≡ (slice_index_or ls (place_on ls a b) d).queue
found_at [] a b d h = absurd (omega arith)
found_at (l ∷ ls) a b d h = go (is_lane a b l) refl (found_at ls a b d)
  where
    go : (c : Bool) → is_lane a b l ≡ c → (place_on ls a b < length ls → queue_at ls a b ≡ (slice_index_or ls (place_on ls a b) d).queue)
        → queue_at (l ∷ ls) a b ≡ (slice_index_or (l ∷ ls) (place_on (l ∷ ls) a b) d).queue
    go true e rest = grind (arith, e)
    go false e rest = let one_more : place_on (l ∷ ls) a b ≡ suc (place_on ls a b) = grind (arith, e) in let tail = rest (omega (arith, one_more, h)) in grind (arith, e, tail)

pub queue_found : (ls : List Lane) (a b : ℕ) (d : Lane) (k : ℕ) → place_on ls a b ≡ k → k < length ls → queue_at ls a b ≡ (slice_index_or ls k d).queue
queue_found ls a b d k p h = found_at ls a b d (omega (arith, p, h)) ∙ ap (λ (m : ℕ). (slice_index_or ls m d).queue) p

pub queue_none : (ls : List Lane) (a b : ℕ) → length ls ≤ place_on ls a b → queue_at ls a b ≡ []
queue_none [] a b h = refl
queue_none (l ∷ ls) a b h = go (is_lane a b l) refl (queue_none ls a b)
  where
    go : (c : Bool) → is_lane a b l ≡ c → (length ls ≤ place_on ls a b → queue_at ls a b ≡ []) → queue_at (l ∷ ls) a b ≡ []
    go true e rest = absurd (let none : place_on (l ∷ ls) a b ≡ 0 = grind (arith, e) in omega (arith, none, h))
    go false e rest = let one_more : place_on (l ∷ ls) a b ≡ suc (place_on ls a b) = grind (arith, e) in let tail = rest (omega (arith, one_more, h)) in grind (arith, e, tail)

-- the place of a lane that is known
pub place_there : (ls : List Lane) (k : ℕ) (d : Lane) (a b : ℕ) → AreApart ls → k < length ls → (slice_index_or ls k d).from ≡ a → (slice_index_or ls k d).to ≡ b → place_on ls a b ≡ k
place_there [] k d a b h i from to = absurd (omega (arith, i))
place_there (l ∷ ls) zero d a b h i from to = let same : is_lane a b l ≡ true = grind (arith, nat_tests, from, to) in grind (arith, same)
place_there (l ∷ ls) (suc k) d a b h i from to = go (is_lane a b l) refl (place_there ls k d a b h.1 (omega (arith, i)) from to)
  where
    go : (c : Bool) → is_lane a b l ≡ c → place_on ls a b ≡ k → place_on (l ∷ ls) a b ≡ suc k
    go true e rest =
        absurd
        (let first : l.from ≡ a = grind (arith, nat_tests, e) in
        let second : l.to ≡ b = grind (arith, nat_tests, e) in
        let none : place_on ls a b ≡ length ls = ap (λ (m : ℕ). place_on ls m b) (sym first) ∙ ap (λ (m : ℕ). place_on ls l.from m) (sym second) ∙ h.0 in
        omega (arith, rest, none, i))
    go false e rest = grind (arith, e, rest)

-- ---- a lane that changes and stays between its nodes

place_set : (ls : List Lane) (k : ℕ) (y d : Lane) → y.from ≡ (slice_index_or ls k d).from → y.to ≡ (slice_index_or ls k d).to → (a b : ℕ) → place_on (slice_set ls k y) a b ≡ place_on ls a b
place_set [] k y d from to a b = refl
place_set (l ∷ ls) zero y d from to a b =
    ap (λ (m : ℕ). elim ((m == a) && (y.to == b)) as (λ _. ℕ) [ true ↦ 0 | false ↦ suc (place_on ls a b) ]) from
    ∙ ap (λ (m : ℕ). elim ((l.from == a) && (m == b)) as (λ _. ℕ) [ true ↦ 0 | false ↦ suc (place_on ls a b) ]) to
place_set (l ∷ ls) (suc k) y d from to a b = ap (λ (m : ℕ). elim (is_lane a b l) as (λ _. ℕ) [ true ↦ 0 | false ↦ suc m ]) (place_set ls k y d from to a b)

pub placed_step : (ls : List Lane) (es : Places) (k : ℕ) (y d : Lane) → y.from ≡ (slice_index_or ls k d).from → y.to ≡ (slice_index_or ls k d).to → ((a b : ℕ) → place_on ls a b ≡ place_in es (length ls) a b)
    → (a b : ℕ) → place_on (slice_set ls k y) a b ≡ place_in es (length (slice_set ls k y)) a b
placed_step ls es k y d from to place a b = place_set ls k y d from to a b ∙ place a b ∙ ap (λ (all : ℕ). place_in es all a b) (sym (length-set ls k y))

pub within_step : (ls : List Lane) (es : Places) (k : ℕ) (y : Lane) → ((a b j : ℕ) → lookup (is_pair (a, b)) es ≡ Some j → j < length ls) → (a b j : ℕ) → lookup (is_pair (a, b)) es ≡ Some j → j < length (slice_set ls k y)
within_step ls es k y within a b j h = let same = length-set ls k y in let less = within a b j h in omega (arith, same, less)

pub apart_step : (ls : List Lane) (k : ℕ) (y d : Lane) → y.from ≡ (slice_index_or ls k d).from → y.to ≡ (slice_index_or ls k d).to → AreApart ls → AreApart (slice_set ls k y)
apart_step [] k y d from to h = tt
apart_step (l ∷ ls) zero y d from to h = (ap (λ (m : ℕ). place_on ls m y.to) from ∙ ap (λ (m : ℕ). place_on ls l.from m) to ∙ h.0, h.1)
apart_step (l ∷ ls) (suc k) y d from to h = (place_set ls k y d from to l.from l.to ∙ h.0 ∙ sym (length-set ls k y), apart_step ls k y d from to h.1)

queue_set : (ls : List Lane) (a b : ℕ) (d y : Lane) (k : ℕ) → place_on ls a b ≡ k → k < length ls → y.from ≡ (slice_index_or ls k d).from → y.to ≡ (slice_index_or ls k d).to
    → (c e : ℕ) → queue_at (slice_set ls k y) c e ≡ cond (is_pair (a, b) (c, e)) y.queue (queue_at ls c e)
queue_set [] a b d y k p h from to c e = absurd (omega (arith, h))
queue_set (l ∷ ls) a b d y zero p h from to c e = go (is_lane a b l) refl (is_pair (a, b) (c, e)) refl
  where
    go : (i : Bool) → is_lane a b l ≡ i → (q : Bool) → is_pair (a, b) (c, e) ≡ q → queue_at (y ∷ ls) c e ≡ cond (is_pair (a, b) (c, e)) y.queue (queue_at (l ∷ ls) c e)
    go false i q j = absurd (let one_more : place_on (l ∷ ls) a b ≡ suc (place_on ls a b) = grind (arith, i) in omega (arith, one_more, p))
    go true i true j = let here : is_lane c e y ≡ true = grind (arith, nat_tests, i, j, from, to) in grind (arith, here, j)
    go true i false j =
        let here : is_lane c e y ≡ false = grind (arith, nat_tests, i, j, from, to) in
        let there : is_lane c e l ≡ false = grind (arith, nat_tests, i, j) in
        grind (arith, here, there, j)
queue_set (l ∷ ls) a b d y (suc k) p h from to c e = go (is_lane a b l) refl (is_lane c e l) refl (is_pair (a, b) (c, e)) refl (queue_set ls a b d y k)
  where
    go : (i : Bool) → is_lane a b l ≡ i → (j : Bool) → is_lane c e l ≡ j → (q : Bool) → is_pair (a, b) (c, e) ≡ q
        → (place_on ls a b ≡ k → k < length ls → y.from ≡ (slice_index_or ls k d).from → y.to ≡ (slice_index_or ls k d).to → (c e : ℕ) → queue_at (slice_set ls k y) c e ≡ cond (is_pair (a, b) (c, e)) y.queue (queue_at ls c e))
        → queue_at (l ∷ slice_set ls k y) c e ≡ cond (is_pair (a, b) (c, e)) y.queue (queue_at (l ∷ ls) c e)
    go true i j m q n more = absurd (let none : place_on (l ∷ ls) a b ≡ 0 = grind (arith, i) in omega (arith, none, p))
    go false i true m true n more = absurd (let both : is_lane a b l ≡ true = grind (arith, nat_tests, m, n) in let no : true ≡ false = sym both ∙ i in cc)
    go false i true m false n more = grind (arith, m, n)
    go false i false m q n more =
        let one_more : place_on (l ∷ ls) a b ≡ suc (place_on ls a b) = grind (arith, i) in
        let rest = more (omega (arith, one_more, p)) (omega (arith, h)) from to c e in
        grind (arith, m, rest)

same_nodes : (a b c e : ℕ) → is_pair (a, b) (c, e) ≡ true → (a ≡ c) × (b ≡ e)
same_nodes a b c e i = (grind (arith, nat_tests, i), grind (arith, nat_tests, i))

-- what waits between two nodes, as `g` sees it, has changed, and nothing else
pub queue_changed : (g f : List ℕ → List ℕ) (ls : List Lane) (a b : ℕ) (d y : Lane) (k : ℕ) → place_on ls a b ≡ k → k < length ls → y.from ≡ (slice_index_or ls k d).from → y.to ≡ (slice_index_or ls k d).to
    → g y.queue ≡ f (g (slice_index_or ls k d).queue) → (c e : ℕ) → g (queue_at (slice_set ls k y) c e) ≡ cond (is_pair (a, b) (c, e)) (f (g (queue_at ls c e))) (g (queue_at ls c e))
queue_changed g f ls a b d y k p h from to is c e = ap g (queue_set ls a b d y k p h from to c e) ∙ go (is_pair (a, b) (c, e)) refl
  where
    go : (q : Bool) → is_pair (a, b) (c, e) ≡ q → g (cond q y.queue (queue_at ls c e)) ≡ cond q (f (g (queue_at ls c e))) (g (queue_at ls c e))
    go true i =
        let same = same_nodes a b c e i in
        is ∙ ap (λ (ns : List ℕ). f (g ns)) (sym (queue_found ls a b d k p h)) ∙ ap (λ (m : ℕ). f (g (queue_at ls m b))) same.0 ∙ ap (λ (m : ℕ). f (g (queue_at ls c m))) same.1
    go false i = refl

-- what waits between two nodes is the same to `g`, and so is all else
pub queue_kept : (g : List ℕ → List ℕ) (ls : List Lane) (a b : ℕ) (d y : Lane) (k : ℕ) → place_on ls a b ≡ k → k < length ls → y.from ≡ (slice_index_or ls k d).from → y.to ≡ (slice_index_or ls k d).to
    → g y.queue ≡ g (slice_index_or ls k d).queue → (c e : ℕ) → g (queue_at (slice_set ls k y) c e) ≡ g (queue_at ls c e)
queue_kept g ls a b d y k p h from to is c e = queue_changed g (λ ns. ns) ls a b d y k p h from to is c e ∙ either (is_pair (a, b) (c, e))
  where
    either : (q : Bool) → cond q (g (queue_at ls c e)) (g (queue_at ls c e)) ≡ g (queue_at ls c e)
    either true = refl
    either false = refl

-- nothing waits where there is no lane
pub queue_empty : (g f : List ℕ → List ℕ) (ls : List Lane) (a b : ℕ) → f (g []) ≡ g [] → length ls ≤ place_on ls a b → (c e : ℕ) → g (queue_at ls c e) ≡ cond (is_pair (a, b) (c, e)) (f (g (queue_at ls c e))) (g (queue_at ls c e))
queue_empty g f ls a b keeps h c e = go (is_pair (a, b) (c, e)) refl
  where
    go : (q : Bool) → is_pair (a, b) (c, e) ≡ q → g (queue_at ls c e) ≡ cond q (f (g (queue_at ls c e))) (g (queue_at ls c e))
    go true i =
        let same = same_nodes a b c e i in
        let none : queue_at ls c e ≡ [] = ap (λ (m : ℕ). queue_at ls m e) (sym same.0) ∙ ap (λ (m : ℕ). queue_at ls a m) (sym same.1) ∙ queue_none ls a b h in
        ap g none ∙ sym keeps ∙ ap (λ (ns : List ℕ). f (g ns)) (sym none)
    go false i = refl

-- ---- a lane more

place_kept : (ls : List Lane) (x : Lane) (a b : ℕ) → place_on ls a b < length ls → place_on (ls ++ x ∷ []) a b ≡ place_on ls a b
place_kept [] x a b h = absurd (omega arith)
place_kept (l ∷ ls) x a b h = go (is_lane a b l) refl (place_kept ls x a b)
  where
    go : (c : Bool) → is_lane a b l ≡ c → (place_on ls a b < length ls → place_on (ls ++ x ∷ []) a b ≡ place_on ls a b) → place_on (l ∷ ls ++ x ∷ []) a b ≡ place_on (l ∷ ls) a b
    go true e rest = grind (arith, e)
    go false e rest = let one_more : place_on (l ∷ ls) a b ≡ suc (place_on ls a b) = grind (arith, e) in let tail = rest (omega (arith, one_more, h)) in grind (arith, e, tail)

place_new : (ls : List Lane) (x : Lane) (a b : ℕ) → place_on ls a b ≡ length ls → place_on (ls ++ x ∷ []) a b ≡ length ls + cond (is_lane a b x) 0 1
place_new [] x a b h = go (is_lane a b x) refl
  where
    go : (c : Bool) → is_lane a b x ≡ c → place_on (x ∷ []) a b ≡ 0 + cond (is_lane a b x) 0 1
    go true e = grind (arith, e)
    go false e = grind (arith, e)
place_new (l ∷ ls) x a b h = go (is_lane a b l) refl (place_new ls x a b)
  where
    go : (c : Bool) → is_lane a b l ≡ c → (place_on ls a b ≡ length ls → place_on (ls ++ x ∷ []) a b ≡ length ls + cond (is_lane a b x) 0 1)
        → place_on (l ∷ ls ++ x ∷ []) a b ≡ length (l ∷ ls) + cond (is_lane a b x) 0 1
    go true e rest = absurd (let none : place_on (l ∷ ls) a b ≡ 0 = grind (arith, e) in omega (arith, none, h))
    go false e rest =
        let one_more : place_on (l ∷ ls) a b ≡ suc (place_on ls a b) = grind (arith, e) in
        let tail = rest (omega (arith, one_more, h)) in
        let on : place_on (l ∷ ls ++ x ∷ []) a b ≡ suc (place_on (ls ++ x ∷ []) a b) = grind (arith, e) in
        omega (arith, on, tail)

-- no lane was between its nodes
pub apart_more : (ls : List Lane) (x : Lane) → place_on ls x.from x.to ≡ length ls → AreApart ls → AreApart (ls ++ x ∷ [])
apart_more [] x n h = (refl, tt)
apart_more (l ∷ ls) x n h = go (is_lane x.from x.to l) refl (λ m. apart_more ls x m h.1)
  where
    go : (c : Bool) → is_lane x.from x.to l ≡ c → (place_on ls x.from x.to ≡ length ls → AreApart (ls ++ x ∷ [])) → (place_on (ls ++ x ∷ []) l.from l.to ≡ length (ls ++ x ∷ [])) × AreApart (ls ++ x ∷ [])
    go true e more = absurd (let none : place_on (l ∷ ls) x.from x.to ≡ 0 = grind (arith, e) in omega (arith, none, n))
    go false e more =
        let one_more : place_on (l ∷ ls) x.from x.to ≡ suc (place_on ls x.from x.to) = grind (arith, e) in
        let other : is_lane l.from l.to x ≡ false = grind (arith, nat_tests, e) in
        (place_new ls x l.from l.to h.0 ∙ ap (λ (c : Bool). length ls + cond c 0 1) other ∙ sym (length-append ls (x ∷ [])), more (omega (arith, one_more, n)))

abbrev pub IsPut : Places → Lane → ℕ → Places → Type 0
IsPut es x k new = (p : ℕ × ℕ) → lookup (is_pair p) new ≡ cond (is_pair (x.from, x.to) p) (Some k) (lookup (is_pair p) es)

pub places_more : (ls : List Lane) (es new : Places) (x : Lane) → place_on ls x.from x.to ≡ length ls → ((a b : ℕ) → place_on ls a b ≡ place_in es (length ls) a b) → ((a b k : ℕ) → lookup (is_pair (a, b)) es ≡ Some k → k < length ls)
    → IsPut es x (length ls) new → (a b : ℕ) → place_on (ls ++ x ∷ []) a b ≡ place_in new (length (ls ++ x ∷ [])) a b
places_more ls es new x none place within put a b = go (is_pair (x.from, x.to) (a, b)) refl (lookup (is_pair (a, b)) es) refl
  where
    found : (c : Bool) → is_pair (x.from, x.to) (a, b) ≡ c → lookup (is_pair (a, b)) new ≡ cond c (Some (length ls)) (lookup (is_pair (a, b)) es)
    found c e = put (a, b) ∙ ap (λ (i : Bool). cond i (Some (length ls)) (lookup (is_pair (a, b)) es)) e

    go : (c : Bool) → is_pair (x.from, x.to) (a, b) ≡ c → (o : Option ℕ) → lookup (is_pair (a, b)) es ≡ o → place_on (ls ++ x ∷ []) a b ≡ place_in new (length (ls ++ x ∷ [])) a b
    go true e o i =
        let same = same_nodes x.from x.to a b e in
        let was : place_on ls a b ≡ length ls = ap (λ (m : ℕ). place_on ls m b) (sym same.0) ∙ ap (λ (m : ℕ). place_on ls x.from m) (sym same.1) ∙ none in
        let at_end : length ls + cond (is_lane a b x) 0 1 ≡ length ls = ap (λ (c : Bool). length ls + cond c 0 1) e ∙ omega arith in
        place_new ls x a b was ∙ at_end ∙ sym (ap (or_all (length (ls ++ x ∷ []))) (found true e))
    go false e (Some k) i =
        let was : place_on ls a b ≡ k = place a b ∙ ap (or_all (length ls)) i in
        let less = within a b k i in
        place_kept ls x a b (omega (arith, was, less)) ∙ was ∙ sym (ap (or_all (length (ls ++ x ∷ []))) (found false e ∙ i))
    go false e None i =
        let was : place_on ls a b ≡ length ls = place a b ∙ ap (or_all (length ls)) i in
        let past : length ls + cond (is_lane a b x) 0 1 ≡ length (ls ++ x ∷ []) = ap (λ (c : Bool). length ls + cond c 0 1) e ∙ sym (length-append ls (x ∷ [])) in
        place_new ls x a b was ∙ past ∙ sym (ap (or_all (length (ls ++ x ∷ []))) (found false e ∙ i))

pub within_more : (ls : List Lane) (es new : Places) (x : Lane) → ((a b k : ℕ) → lookup (is_pair (a, b)) es ≡ Some k → k < length ls) → IsPut es x (length ls) new
    → (a b k : ℕ) → lookup (is_pair (a, b)) new ≡ Some k → k < length (ls ++ x ∷ [])
within_more ls es new x within put a b k h = go (is_pair (x.from, x.to) (a, b)) refl
  where
    far : length (ls ++ x ∷ []) ≡ length ls + 1
    far = length-append ls (x ∷ [])

    found : (c : Bool) → is_pair (x.from, x.to) (a, b) ≡ c → cond c (Some (length ls)) (lookup (is_pair (a, b)) es) ≡ Some k
    found c e = sym (put (a, b) ∙ ap (λ (i : Bool). cond i (Some (length ls)) (lookup (is_pair (a, b)) es)) e) ∙ h

    go : (c : Bool) → is_pair (x.from, x.to) (a, b) ≡ c → k < length (ls ++ x ∷ [])
    go true e = let one : Some (length ls) ≡ Some k = found true e in let same : length ls ≡ k = cc in omega (arith, far, same)
    go false e = let less = within a b k (found false e) in omega (arith, far, less)

pub queue_new : (ls : List Lane) (x : Lane) → place_on ls x.from x.to ≡ length ls → (a b : ℕ) → queue_at (ls ++ x ∷ []) a b ≡ cond (is_pair (x.from, x.to) (a, b)) x.queue (queue_at ls a b)
queue_new [] x h a b = go (is_lane a b x)
  where
    go : (c : Bool) → elim c as (λ _. List ℕ) [ true ↦ x.queue | false ↦ [] ] ≡ cond c x.queue []
    go true = refl
    go false = refl
queue_new (l ∷ ls) x h a b = go (is_lane x.from x.to l) refl (is_lane a b l) refl (is_pair (x.from, x.to) (a, b)) refl (λ m. queue_new ls x m a b)
  where
    go : (c : Bool) → is_lane x.from x.to l ≡ c → (i : Bool) → is_lane a b l ≡ i → (q : Bool) → is_pair (x.from, x.to) (a, b) ≡ q
        → (place_on ls x.from x.to ≡ length ls → queue_at (ls ++ x ∷ []) a b ≡ cond (is_pair (x.from, x.to) (a, b)) x.queue (queue_at ls a b))
        → queue_at (l ∷ ls ++ x ∷ []) a b ≡ cond (is_pair (x.from, x.to) (a, b)) x.queue (queue_at (l ∷ ls) a b)
    go true e i j q n more = absurd (let none : place_on (l ∷ ls) x.from x.to ≡ 0 = grind (arith, e) in omega (arith, none, h))
    go false e true j true n more = absurd (let both : is_lane x.from x.to l ≡ true = grind (arith, nat_tests, j, n) in let no : true ≡ false = sym both ∙ e in cc)
    go false e true j false n more = grind (arith, j, n)
    go false e false j q n more =
        let one_more : place_on (l ∷ ls) x.from x.to ≡ suc (place_on ls x.from x.to) = grind (arith, e) in
        let rest = more (omega (arith, one_more, h)) in
        grind (arith, j, rest)

-- the first number between two nodes
pub queue_begun : (m : ℕ) (old new : List Lane) (a b n : ℕ) → m < n → length old ≤ place_on old a b → ((c e : ℕ) → queue_at new c e ≡ cond (is_pair (a, b) (c, e)) (n ∷ []) (queue_at old c e)) → (c e : ℕ)
    → above m (queue_at new c e) ≡ cond (is_pair (a, b) (c, e)) (above m (queue_at old c e) ++ n ∷ []) (above m (queue_at old c e))
queue_begun m old new a b n less h at c e = ap (above m) (at c e) ∙ go (is_pair (a, b) (c, e)) refl
  where
    go : (q : Bool) → is_pair (a, b) (c, e) ≡ q → above m (cond q (n ∷ []) (queue_at old c e)) ≡ cond q (above m (queue_at old c e) ++ n ∷ []) (above m (queue_at old c e))
    go true i =
        let same = same_nodes a b c e i in
        let none : queue_at old c e ≡ [] = ap (λ (j : ℕ). queue_at old j e) (sym same.0) ∙ ap (λ (j : ℕ). queue_at old a j) (sym same.1) ∙ queue_none old a b h in
        above_one m n less ∙ sym (ap (λ (l : List ℕ). above m l ++ n ∷ []) none)
    go false i = refl
