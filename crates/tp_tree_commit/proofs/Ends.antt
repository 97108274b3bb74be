-- Each step adds one to what the nodes of the tree have done, and none has done more than five things.
use Rattle.std.proofs.Common.{◌≡◌, ◌≤◌, ◌+◌, ◌*◌, inl, inr, ℕ, suc, Bool, true, false, refl, ap, sym, subst, ◌∙◌, arith, Option, Some, None, List, [], ◌∷◌, length, ◌==◌, if◌then◌else◌}
use Rattle.std.proofs.lemmas.Bool.Decides.{nat_tests}
use Rattle.tp_names.specs.declared.outcome.Outcome.{Outcome}
use Rattle.tp_tree_commit.specs.TreeCommit.{Vote, Ending, Part, Tree, Acts, Enters, Votes, Leaves, Commits, Rolls, Decides, Completes, Steps, first, later}
use Rattle.tp_tree_commit.specs.Ends.{ReachedIn, at_first, after, IsListed, Covers, FiveAtMost, RunsAreCounted}

-- ---- what a node has done

abbrev voted : Vote → ℕ
voted Vote.Unvoted = 0
voted Vote.Ready = 1
voted Vote.Left = 1

abbrev ended : Ending → ℕ
ended Ending.Open = 0
ended Ending.Committed = 1
ended Ending.Rolled = 1

abbrev decided : Option Outcome → ℕ
decided None = 0
decided (Some o) = 1

abbrev cleared : Bool → ℕ
cleared false = 0
cleared true = 1

abbrev deeds : Option Part → ℕ
deeds None = 0
deeds (Some p) = 1 + (voted p.vote + (ended p.ending + (decided p.decision + cleared p.clear)))

at_most_five : (o : Option Part) → deeds o ≤ 5
at_most_five None = omega arith
at_most_five (Some p) = go (voted p.vote) (ended p.ending) (decided p.decision) (cleared p.clear) (v p.vote) (e p.ending) (d p.decision) (c p.clear)
  where
    v : (x : Vote) → voted x ≤ 1
    v Vote.Unvoted = omega arith
    v Vote.Ready = omega arith
    v Vote.Left = omega arith

    e : (x : Ending) → ended x ≤ 1
    e Ending.Open = omega arith
    e Ending.Committed = omega arith
    e Ending.Rolled = omega arith

    d : (x : Option Outcome) → decided x ≤ 1
    d None = omega arith
    d (Some o) = omega arith

    c : (x : Bool) → cleared x ≤ 1
    c true = omega arith
    c false = omega arith

    go : (v e d c : ℕ) → v ≤ 1 → e ≤ 1 → d ≤ 1 → c ≤ 1 → 1 + (v + (e + (d + c))) ≤ 5
    go v e d c hv he hd hc = omega (arith, hv, he, hd, hc)

-- ---- an action is one more

votes : (a : ℕ) (v : Vote) → v ≡ Vote.Unvoted → suc (1 + (voted v + a)) ≡ 1 + (1 + a)
votes a v i = rw i (sum a)
  where
    sum : (a : ℕ) → suc (1 + (0 + a)) ≡ 1 + (1 + a)
    sum a = omega arith

ends : (a b : ℕ) (e : Ending) → e ≡ Ending.Open → suc (1 + (a + (ended e + b))) ≡ 1 + (a + (1 + b))
ends a b e i = rw i (sum a b)
  where
    sum : (a b : ℕ) → suc (1 + (a + (0 + b))) ≡ 1 + (a + (1 + b))
    sum a b = omega arith

decides : (a b c : ℕ) (d : Option Outcome) → d ≡ None → suc (1 + (a + (b + (decided d + c)))) ≡ 1 + (a + (b + (1 + c)))
decides a b c d i = rw i (sum a b c)
  where
    sum : (a b c : ℕ) → suc (1 + (a + (b + (0 + c)))) ≡ 1 + (a + (b + (1 + c)))
    sum a b c = omega arith

completes : (a b c : ℕ) (d : Bool) → d ≡ false → suc (1 + (a + (b + (c + cleared d)))) ≡ 1 + (a + (b + (c + 1)))
completes a b c d i = rw i (sum a b c)
  where
    sum : (a b c : ℕ) → suc (1 + (a + (b + (c + 0)))) ≡ 1 + (a + (b + (c + 1)))
    sum a b c = omega arith

one_more : (s : Tree) (n : ℕ) (o : Option Part) (q : Part) → Acts s n o q → suc (deeds o) ≡ deeds (Some q)
one_more s n o q (Enters m may) = refl
one_more s n o q (Votes p branch active below) = votes (ended p.ending + (decided p.decision + cleared p.clear)) p.vote active.0
one_more s n o q (Leaves p branch active below) = votes (ended p.ending + (decided p.decision + cleared p.clear)) p.vote active.0
one_more s n o q (Commits p why) = ends (voted p.vote) (decided p.decision + cleared p.clear) p.ending (elim why [ inl w ↦ w.1.1 | inr w ↦ w.0.1 ])
one_more s n o q (Rolls p why) = ends (voted p.vote) (decided p.decision + cleared p.clear) p.ending (elim why [ inl w ↦ w.1 | inr w ↦ w.0.1 ])
one_more s n o q (Decides p u doubt none) = decides (voted p.vote) (ended p.ending) (cleared p.clear) p.decision none
one_more s n o q (Completes p done unclear whole below) = completes (voted p.vote) (ended p.ending) (decided p.decision) p.clear unclear

-- ---- over a list of nodes

all_deeds : Tree → List ℕ → ℕ
all_deeds s [] = 0
all_deeds s (m ∷ ms) = deeds (s m) + all_deeds s ms

few : (s : Tree) (ns : List ℕ) → all_deeds s ns ≤ 5 * length ns
unfolding all_deeds
few s [] = omega arith
few s (m ∷ ms) = add (deeds (s m)) (all_deeds s ms) (length ms) (at_most_five (s m)) (few s ms)
  where
    add : (a b l : ℕ) → a ≤ 5 → b ≤ 5 * l → a + b ≤ 5 * suc l
    add a b l h i = omega (arith, h, i)

at_node : (s t : Tree) (st : Steps s t) → suc (deeds (s st.node)) ≡ deeds (t st.node)
at_node s t st =
    let same : (st.node == st.node) ≡ true = grind (arith, nat_tests) in
    let there : t st.node ≡ Some st.part = st.then_so st.node ∙ ap (λ (b : Bool). if b then Some st.part else s st.node) same in
    one_more s st.node (s st.node) st.part st.acts ∙ ap deeds (sym there)

no_less : (s t : Tree) (st : Steps s t) (m : ℕ) → deeds (s m) ≤ deeds (t m)
no_less s t st m = go (st.node == m) refl
  where
    less : (a b : ℕ) → suc a ≡ b → a ≤ b
    less a b h = omega (arith, h)

    same_le : (a b : ℕ) → b ≡ a → a ≤ b
    same_le a b h = omega (arith, h)

    go : (b : Bool) → (st.node == m) ≡ b → deeds (s m) ≤ deeds (t m)
    go false i = same_le (deeds (s m)) (deeds (t m)) (ap deeds (st.then_so m ∙ ap (λ (b : Bool). if b then Some st.part else s m) i))
    go true i = let n : st.node ≡ m = grind (arith, nat_tests, i) in subst (λ (k : ℕ). deeds (s k) ≤ deeds (t k)) n (less (deeds (s st.node)) (deeds (t st.node)) (at_node s t st))

none_less : (s t : Tree) (st : Steps s t) (ns : List ℕ) → all_deeds s ns ≤ all_deeds t ns
unfolding all_deeds
none_less s t st [] = omega arith
none_less s t st (m ∷ ms) = add (deeds (s m)) (deeds (t m)) (all_deeds s ms) (all_deeds t ms) (no_less s t st m) (none_less s t st ms)
  where
    add : (a b c d : ℕ) → a ≤ b → c ≤ d → a + c ≤ b + d
    add a b c d h i = omega (arith, h, i)

more : (s t : Tree) (st : Steps s t) (ns : List ℕ) → IsListed st.node ns → suc (all_deeds s ns) ≤ all_deeds t ns
unfolding all_deeds
more s t st [] l = absurd l
more s t st (m ∷ ms) (inl same) = add (deeds (s m)) (deeds (t m)) (all_deeds s ms) (all_deeds t ms) (subst (λ (k : ℕ). suc (deeds (s k)) ≡ deeds (t k)) (sym same) (at_node s t st)) (none_less s t st ms)
  where
    add : (a b c d : ℕ) → suc a ≡ b → c ≤ d → suc (a + c) ≤ b + d
    add a b c d h i = omega (arith, h, i)
more s t st (m ∷ ms) (inr l) = add (deeds (s m)) (deeds (t m)) (all_deeds s ms) (all_deeds t ms) (no_less s t st m) (more s t st ms l)
  where
    add : (a b c d : ℕ) → a ≤ b → suc c ≤ d → suc (a + c) ≤ b + d
    add a b c d h i = omega (arith, h, i)

-- ---- every run

-- who was there is still there
stays_covered : (s t : Tree) (st : Steps s t) (ns : List ℕ) → Covers ns t → Covers ns s
stays_covered s t st ns c m p here = go (st.node == m) refl
  where
    there : (b : Bool) → (st.node == m) ≡ b → t m ≡ (if b then Some st.part else s m)
    there b i = st.then_so m ∙ ap (λ (v : Bool). if v then Some st.part else s m) i

    go : (b : Bool) → (st.node == m) ≡ b → IsListed m ns
    go false i = c m p (there false i ∙ here)
    go true i = c m st.part (there true i)

counted : (k : ℕ) (s : Tree) → ReachedIn k s → (ns : List ℕ) → Covers ns s → k ≤ all_deeds s ns
counted k s (at_first _ none) ns c = least (all_deeds s ns)
  where
    least : (n : ℕ) → 0 ≤ n
    least n = omega arith
counted k t (after j s _ r st) ns c = on j (all_deeds s ns) (all_deeds t ns) (counted j s r ns (stays_covered s t st ns c)) (more s t st ns (c st.node st.part there))
  where
    same : (st.node == st.node) ≡ true
    same = grind (arith, nat_tests)

    there : t st.node ≡ Some st.part
    there = st.then_so st.node ∙ ap (λ (b : Bool). if b then Some st.part else s st.node) same

    on : (j a b : ℕ) → j ≤ a → suc a ≤ b → suc j ≤ b
    on j a b h i = omega (arith, h, i)

pub five_at_most : FiveAtMost
five_at_most k s r ns c = both k (all_deeds s ns) (5 * length ns) (counted k s r ns c) (few s ns)
  where
    both : (a b c : ℕ) → a ≤ b → b ≤ c → a ≤ c
    both a b c h i = omega (arith, h, i)

pub runs_are_counted : RunsAreCounted
runs_are_counted s (first _ none) = (0, at_first s none)
runs_are_counted t (later s _ r st) = let k = runs_are_counted s r in (suc k.0, after k.0 s t k.1 st)
