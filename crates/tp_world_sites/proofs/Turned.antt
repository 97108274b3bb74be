-- The nodes of a site, the first of which are declared again: numbers, the next one, and all of them.
use Rattle.std.proofs.Common.{◌≡◌, ◌≤◌, ◌<◌, ◌==◌, ℕ, zero, suc, Bool, true, false, refl, ap, sym, ◌∙◌, subst, arith, Option, Some, List, [], ◌∷◌, length, slice_get, slice_index_or}
use Rattle.std.specs.Option.{option_map}
use Rattle.std.proofs.lemmas.Bool.Decides.{nat_tests}
use Rattle.tp_names.specs.Same.{is_name}
use Rattle.tp_names.proofs.Sames.{both}
use Rattle.tp_model.specs.Happenings.{restarted, restarted_at}
use Rattle.tp_model.specs.World.{Node, number_of, site_of, find_node, put_node}
use Rattle.tp_network.specs.declared.nodes.NodeSlot.{NodeSlot}
use Rattle.tp_world_sites.specs.Restarts.{as_it_is, turned_at, restarted_to}
use Rattle.tp_world_sites.specs.Standing.{IsNode, AreNodes, is_free, are_apart}

-- ---- one node

-- where it is of the site, and where it is not
pub turned_here : (f : Node → Node) (s : List ℕ) (n : Node) → is_name (site_of n) s ≡ true → turned_at f s n ≡ f n
turned_here f s n h = ap (λ (b : Bool). elim b as (λ _. Node) [ true ↦ f n | false ↦ n ]) h

pub turned_there : (f : Node → Node) (s : List ℕ) (n : Node) → is_name (site_of n) s ≡ false → turned_at f s n ≡ n
turned_there f s n h = ap (λ (b : Bool). elim b as (λ _. Node) [ true ↦ f n | false ↦ n ]) h

-- what keeps numbers
abbrev pub KeepsNumbers : (Node → Node) → Type 0
KeepsNumbers f = (n : Node) → number_of (f n) ≡ number_of n

pub turned_number : (f : Node → Node) (s : List ℕ) (n : Node) → KeepsNumbers f → number_of (turned_at f s n) ≡ number_of n
turned_number f s n keeps = go (is_name (site_of n) s)
  where
    go : (b : Bool) → number_of (elim b as (λ _. Node) [ true ↦ f n | false ↦ n ]) ≡ number_of n
    go true = keeps n
    go false = refl

again_number : (s : List ℕ) (n : Node) → number_of (turned_at restarted s n) ≡ number_of n
again_number s n = turned_number restarted s n (λ m. refl)

-- ---- numbers

module _ (f : Node → Node) (keeps : KeepsNumbers f) (s : List ℕ) where
  free_to : (k i : ℕ) (ns : List Node) → is_free k (restarted_to f s i ns) ≡ is_free k ns
  free_to k i [] = refl
  free_to k zero (n ∷ ns) = let same = turned_number f s n keeps in let rest = free_to k 0 ns in grind (arith, same, rest)
  free_to k (suc i) (n ∷ ns) = let same = again_number s n in let rest = free_to k i ns in grind (arith, same, rest)

  pub apart_to : (i : ℕ) (ns : List Node) → are_apart (restarted_to f s i ns) ≡ are_apart ns
  apart_to i [] = refl
  apart_to zero (n ∷ ns) = let same = turned_number f s n keeps in let free = free_to (number_of n) 0 ns in let rest = apart_to 0 ns in grind (arith, same, free, rest)
  apart_to (suc i) (n ∷ ns) = let same = again_number s n in let free = free_to (number_of n) i ns in let rest = apart_to i ns in grind (arith, same, free, rest)

  pub find_turned : (ns : List Node) (k : ℕ) → find_node (restarted_to f s 0 ns) k ≡ option_map (turned_at f s) (find_node ns k)
  find_turned [] k = refl
  find_turned (n ∷ ns) k = go (number_of n == k) refl (find_turned ns k)
    where
      at : (number_of (turned_at f s n) == k) ≡ (number_of n == k)
      at = ap (λ (m : ℕ). m == k) (turned_number f s n keeps)

      go : (b : Bool) → (number_of n == k) ≡ b → find_node (restarted_to f s 0 ns) k ≡ option_map (turned_at f s) (find_node ns k)
          → find_node (restarted_to f s 0 (n ∷ ns)) k ≡ option_map (turned_at f s) (find_node (n ∷ ns) k)
      go true e rest =
          ap (λ (b : Bool). elim b as (λ _. Option Node) [ true ↦ Some (turned_at f s n) | false ↦ find_node (restarted_to f s 0 ns) k ]) (at ∙ e)
          ∙ sym (ap (λ (b : Bool). option_map (turned_at f s) (elim b as (λ _. Option Node) [ true ↦ Some n | false ↦ find_node ns k ])) e)
      go false e rest =
          ap (λ (b : Bool). elim b as (λ _. Option Node) [ true ↦ Some (turned_at f s n) | false ↦ find_node (restarted_to f s 0 ns) k ]) (at ∙ e) ∙ rest
          ∙ sym (ap (λ (b : Bool). option_map (turned_at f s) (elim b as (λ _. Option Node) [ true ↦ Some n | false ↦ find_node ns k ])) e)

free_at : (k : ℕ) (ns : List Node) (i : ℕ) (n : Node) → is_free k ns ≡ true → slice_get ns i ≡ Some n → (number_of n == k) ≡ false
free_at k [] i n h at = absurd cc
free_at k (m ∷ ns) zero n h at = let same : m ≡ n = cc (at) in grind (arith, nat_tests, h, same)
free_at k (m ∷ ns) (suc i) n h at = free_at k ns i n (grind (arith, nat_tests, h)) at

-- another stands before it
apart_at : (m : Node) (ns : List Node) (i : ℕ) (n : Node) → are_apart (m ∷ ns) ≡ true → slice_get ns i ≡ Some n → (number_of m == number_of n) ≡ false
apart_at m ns i n h at = let other = free_at (number_of m) ns i n (both (is_free (number_of m) ns) (are_apart ns) h).0 at in grind (arith, nat_tests, other)

-- the node at an index is found by its number
pub find_at : (ns : List Node) (i : ℕ) (n : Node) → are_apart ns ≡ true → slice_get ns i ≡ Some n → find_node ns (number_of n) ≡ Some n
find_at [] i n h at = absurd cc
find_at (m ∷ ns) zero n h at = let same : m ≡ n = cc (at) in grind (arith, nat_tests, same)
find_at (m ∷ ns) (suc i) n h at =
    let other = apart_at m ns i n h at in
    let rest = find_at ns i n (both (is_free (number_of m) ns) (are_apart ns) h).1 at in
    grind (arith, other, rest)

-- ---- the next node

module _ (f : Node → Node) (keeps : KeepsNumbers f) (s : List ℕ) where
  -- is found as it is before
  pub found_to : (i : ℕ) (ns : List Node) (n : Node) → are_apart ns ≡ true → slice_get ns i ≡ Some n → is_name (site_of n) s ≡ true → find_node (restarted_to f s i ns) (number_of n) ≡ Some (f n)
  found_to i [] n h at here = absurd cc
  found_to zero (m ∷ ns) n h at here =
      let same : m ≡ n = cc (at) in
      let one : turned_at f s m ≡ f n = ap (turned_at f s) same ∙ turned_here f s n here in
      let number : number_of (turned_at f s m) ≡ number_of n = ap number_of one ∙ keeps n in
      grind (arith, nat_tests, one, number)
  found_to (suc i) (m ∷ ns) n h at here =
      let other = apart_at m ns i n h at in
      let number = again_number s m in
      let rest = found_to i ns n (both (is_free (number_of m) ns) (are_apart ns) h).1 at here in
      grind (arith, nat_tests, other, number, rest)

  -- is put in its place
  pub put_to : (i : ℕ) (ns : List Node) (n : Node) → are_apart ns ≡ true → slice_get ns i ≡ Some n → is_name (site_of n) s ≡ true → restarted_to f s (suc i) ns ≡ put_node (restarted_to f s i ns) (restarted n)
  put_to i [] n h at here = absurd cc
  put_to zero (m ∷ ns) n h at here =
      let same : m ≡ n = cc (at) in
      let one : turned_at restarted s m ≡ restarted n = ap (turned_at restarted s) same ∙ turned_here restarted s n here in
      let number : number_of (turned_at f s m) ≡ number_of n = turned_number f s m keeps ∙ ap number_of same in
      grind (arith, nat_tests, one, number)
  put_to (suc i) (m ∷ ns) n h at here =
      let other = apart_at m ns i n h at in
      let number = again_number s m in
      let rest = put_to i ns n (both (is_free (number_of m) ns) (are_apart ns) h).1 at here in
      grind (arith, nat_tests, other, number, rest)

  -- and stays where it stands at another site
  pub same_to : (i : ℕ) (ns : List Node) (n : Node) → slice_get ns i ≡ Some n → is_name (site_of n) s ≡ false → restarted_to f s (suc i) ns ≡ restarted_to f s i ns
  same_to i [] n at there = absurd cc
  same_to zero (m ∷ ns) n at there =
      let same : m ≡ n = cc (at) in
      let other : is_name (site_of m) s ≡ false = ap (λ (x : Node). is_name (site_of x) s) same ∙ there in
      ap (λ (x : Node). x ∷ restarted_to f s 0 ns) (turned_there restarted s m other ∙ sym (turned_there f s m other))
  same_to (suc i) (m ∷ ns) n at there = ap (λ (l : List Node). turned_at restarted s m ∷ l) (same_to i ns n at there)

-- ---- none of them, and all

pub none_turned : (s : List ℕ) (ns : List Node) → restarted_to as_it_is s 0 ns ≡ ns
none_turned s [] = refl
none_turned s (n ∷ ns) = go (is_name (site_of n) s) (none_turned s ns)
  where
    go : (b : Bool) → restarted_to as_it_is s 0 ns ≡ ns → elim b as (λ _. Node) [ true ↦ as_it_is n | false ↦ n ] ∷ restarted_to as_it_is s 0 ns ≡ n ∷ ns
    go true rest = ap (λ (l : List Node). n ∷ l) rest
    go false rest = ap (λ (l : List Node). n ∷ l) rest

pub all_turned : (f : Node → Node) (s : List ℕ) (ns : List Node) → restarted_to f s (length ns) ns ≡ restarted_to restarted s 0 ns
all_turned f s [] = refl
all_turned f s (n ∷ ns) = ap (λ (l : List Node). turned_at restarted s n ∷ l) (all_turned f s ns)

pub all_restarted : (s : List ℕ) (ns : List Node) → restarted_to restarted s 0 ns ≡ restarted_at s ns
all_restarted s [] = refl
all_restarted s (n ∷ ns) = go (is_name (site_of n) s) (all_restarted s ns)
  where
    go : (b : Bool) → restarted_to restarted s 0 ns ≡ restarted_at s ns
        → elim b as (λ _. Node) [ true ↦ restarted n | false ↦ n ] ∷ restarted_to restarted s 0 ns ≡ elim b as (λ _. List Node) [ true ↦ restarted n ∷ restarted_at s ns | false ↦ n ∷ restarted_at s ns ]
    go true rest = ap (λ (l : List Node). restarted n ∷ l) rest
    go false rest = ap (λ (l : List Node). n ∷ l) rest

-- ---- the node at an index, on both sides

pub record IsIndexed (ns : List Node) (i : ℕ) (x : NodeSlot) : Type 0 where
  pub node : Node
  pub at : slice_get ns i ≡ Some node
  pub is : IsNode node x

as_is : (s : List ℕ) (n : Node) → turned_at as_it_is s n ≡ n
as_is s n = go (is_name (site_of n) s)
  where
    go : (b : Bool) → elim b as (λ _. Node) [ true ↦ as_it_is n | false ↦ n ] ≡ n
    go true = refl
    go false = refl

pub indexed : (s : List ℕ) (i : ℕ) (ns : List Node) (xs : List NodeSlot) (d : NodeSlot) → AreNodes (restarted_to as_it_is s i ns) xs → i < length xs → IsIndexed ns i (slice_index_or xs i d)
indexed s i [] [] d h within = absurd (omega (arith, within))
indexed s i [] (y ∷ xs) d h within = absurd h
indexed s zero (n ∷ ns) [] d h within = absurd h
indexed s zero (n ∷ ns) (y ∷ xs) d h within = record { node = n; at = refl; is = subst (λ (m : Node). IsNode m y) (as_is s n) h.0 }
indexed s (suc i) (n ∷ ns) [] d h within = absurd h
indexed s (suc i) (n ∷ ns) (y ∷ xs) d h within = let rest : IsIndexed ns i (slice_index_or xs i d) = indexed s i ns xs d h.1 (omega (arith, within)) in record { node = rest.node; at = rest.at; is = rest.is }

pub none_past : (s : List ℕ) (i : ℕ) (ns : List Node) (xs : List NodeSlot) → AreNodes (restarted_to as_it_is s i ns) xs → i < length ns → length xs ≤ i → ⊥
none_past s i [] xs h within past = absurd (omega (arith, within))
none_past s zero (n ∷ ns) [] h within past = absurd h
none_past s zero (n ∷ ns) (y ∷ xs) h within past = absurd (omega (arith, past))
none_past s (suc i) (n ∷ ns) [] h within past = absurd h
none_past s (suc i) (n ∷ ns) (y ∷ xs) h within past = none_past s i ns xs h.1 (omega (arith, within)) (omega (arith, past))

-- ---- one in the place of another, twice

pub put_twice : (ns : List Node) (a b : Node) → number_of a ≡ number_of b → put_node (put_node ns a) b ≡ put_node ns b
put_twice [] a b same = refl
put_twice (x ∷ ns) a b same = let rest = put_twice ns a b same in grind (arith, nat_tests, same, rest)
