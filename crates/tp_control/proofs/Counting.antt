-- Counting after closed rounds: what one more word, or words of another kind, add.
use Rattle.std.proofs.Common.{◌≡◌, ◌≤◌, ◌+◌, ◌⊎◌, inl, inr, ℕ, zero, suc, Bool, true, false, if◌then◌else◌, refl, ◌∙◌, arith, List, [], ◌∷◌, ◌++◌, ◌||◌}
use Rattle.tp_records.specs.declared.dialogue.DialogueRecord.{DialogueRecord}
use Rattle.tp_steps.specs.Facts.{none_of, ends_in}
use Rattle.tp_steps.specs.Control.{rounds}
use Rattle.tp_control.specs.Control.{behind, count}
use Rattle.tp_steps.specs.Upward.{voting_from}
use Rattle.tp_steps.proofs.lemmas.UpwardWords.{is_upward}

pub count_append : (f : DialogueRecord → Bool) (xs ys : List DialogueRecord) → count f (xs ++ ys) ≡ count f xs + count f ys
count_append f [] ys = omega arith
count_append f (x ∷ xs) ys = let rest = count_append f xs ys in omega (arith, rest)

pub count_none : (f : DialogueRecord → Bool) (xs : List DialogueRecord) → none_of f xs ≡ true → count f xs ≡ 0
count_none f [] h = refl
count_none f (x ∷ xs) h = let no : f x ≡ false = grind (arith, h) in rw no (zero_and (count f xs) (count_none f xs (grind (arith, h))))
  where
    zero_and : (n : ℕ) → n ≡ 0 → 0 + n ≡ 0
    zero_and n i = omega (arith, i)

none_more : (m n : ℕ) → n ≡ 0 → m + n ≡ m
none_more m n h = omega (arith, h)

-- words of another kind add nothing
pub behind_quiet : (f : DialogueRecord → Bool) (h g : Bool → DialogueRecord → Bool) (b : Bool) (k : ℕ) (ys xs : List DialogueRecord) → none_of f xs ≡ true → count f (behind h g b k (ys ++ xs)) ≡ count f (behind h g b k ys)
behind_quiet f h g b zero ys xs none = count_append f ys xs ∙ none_more (count f ys) (count f xs) (count_none f xs none)
behind_quiet f h g b (suc k) [] xs none = alone b (suc k) xs none
  where
    alone : (b : Bool) (k : ℕ) (xs : List DialogueRecord) → none_of f xs ≡ true → count f (behind h g b k xs) ≡ 0
    alone b zero xs none = count_none f xs none
    alone b (suc k) [] none = refl
    alone b (suc k) (x ∷ xs) none = go (h b x) (alone (g b x) k xs (grind (arith, none))) (alone (g b x) (suc k) xs (grind (arith, none)))
      where
        go : (c : Bool) → count f (behind h g (g b x) k xs) ≡ 0 → count f (behind h g (g b x) (suc k) xs) ≡ 0 → count f (if c then behind h g (g b x) k xs else behind h g (g b x) (suc k) xs) ≡ 0
        go true one two = one
        go false one two = two
behind_quiet f h g b (suc k) (y ∷ ys) xs none = go (h b y) (behind_quiet f h g (g b y) k ys xs none) (behind_quiet f h g (g b y) (suc k) ys xs none)
  where
    go : (c : Bool) → count f (behind h g (g b y) k (ys ++ xs)) ≡ count f (behind h g (g b y) k ys) → count f (behind h g (g b y) (suc k) (ys ++ xs)) ≡ count f (behind h g (g b y) (suc k) ys)
        → count f (if c then behind h g (g b y) k (ys ++ xs) else behind h g (g b y) (suc k) (ys ++ xs)) ≡ count f (if c then behind h g (g b y) k ys else behind h g (g b y) (suc k) ys)
    go true one two = one
    go false one two = two

-- after more rounds than are closed stands nothing
pub behind_past : (f : DialogueRecord → Bool) (h g : Bool → DialogueRecord → Bool) (b : Bool) (k : ℕ) (xs : List DialogueRecord) → suc (rounds h g b xs) ≤ k → count f (behind h g b k xs) ≡ 0
behind_past f h g b zero xs le = absurd (omega (arith, le))
behind_past f h g b (suc k) [] le = refl
behind_past f h g b (suc k) (x ∷ xs) le = go (h b x) refl (behind_past f h g (g b x) k xs) (behind_past f h g (g b x) (suc k) xs)
  where
    go : (c : Bool) → h b x ≡ c → (suc (rounds h g (g b x) xs) ≤ k → count f (behind h g (g b x) k xs) ≡ 0) → (suc (rounds h g (g b x) xs) ≤ suc k → count f (behind h g (g b x) (suc k) xs) ≡ 0)
        → count f (if c then behind h g (g b x) k xs else behind h g (g b x) (suc k) xs) ≡ 0
    go true i one two = let le' : suc ((if h b x then 1 else 0) + rounds h g (g b x) xs) ≤ suc k = le in let le'' : suc (1 + rounds h g (g b x) xs) ≤ suc k = rw i at le' in one (omega (arith, le''))
    go false i one two = let le' : suc ((if h b x then 1 else 0) + rounds h g (g b x) xs) ≤ suc k = le in let le'' : suc (0 + rounds h g (g b x) xs) ≤ suc k = rw i at le' in two (omega (arith, le''))

-- one more word stands after as many rounds as are closed, or fewer
pub behind_one : (f : DialogueRecord → Bool) (h g : Bool → DialogueRecord → Bool) (b : Bool) (k : ℕ) (ys : List DialogueRecord) (r : DialogueRecord) → k ≤ rounds h g b ys → f r ≡ true → count f (behind h g b k (ys ++ r ∷ [])) ≡ suc (count f (behind h g b k ys))
behind_one f h g b zero ys r le is = let sum = count_append f ys (r ∷ []) in let one : count f (r ∷ []) ≡ 1 = rw is refl in omega (arith, sum, one)
behind_one f h g b (suc k) [] r le is = absurd (omega (arith, le))
behind_one f h g b (suc k) (y ∷ ys) r le is = go (h b y) refl (λ l. behind_one f h g (g b y) k ys r l is) (λ l. behind_one f h g (g b y) (suc k) ys r l is)
  where
    go : (c : Bool) → h b y ≡ c → (k ≤ rounds h g (g b y) ys → count f (behind h g (g b y) k (ys ++ r ∷ [])) ≡ suc (count f (behind h g (g b y) k ys))) → (suc k ≤ rounds h g (g b y) ys → count f (behind h g (g b y) (suc k) (ys ++ r ∷ [])) ≡ suc (count f (behind h g (g b y) (suc k) ys)))
        → count f (if c then behind h g (g b y) k (ys ++ r ∷ []) else behind h g (g b y) (suc k) (ys ++ r ∷ [])) ≡ suc (count f (if c then behind h g (g b y) k ys else behind h g (g b y) (suc k) ys))
    go true i one two = let le' : suc k ≤ (if h b y then 1 else 0) + rounds h g (g b y) ys = le in let le'' : suc k ≤ 1 + rounds h g (g b y) ys = rw i at le' in one (omega (arith, le''))
    go false i one two = let le' : suc k ≤ (if h b y then 1 else 0) + rounds h g (g b y) ys = le in let le'' : suc k ≤ 0 + rounds h g (g b y) ys = rw i at le' in two (omega (arith, le''))

-- one more word adds one at most
pub behind_next : (f : DialogueRecord → Bool) (h g : Bool → DialogueRecord → Bool) (b : Bool) (k : ℕ) (ys : List DialogueRecord) (r : DialogueRecord) → count f (behind h g b k (ys ++ r ∷ [])) ≤ suc (count f (behind h g b k ys))
behind_next f h g b zero ys r = let sum = count_append f ys (r ∷ []) in let one = at_most (f r) in omega (arith, sum, one)
  where
    at_most : (c : Bool) → (if c then 1 else 0) + 0 ≤ 1
    at_most true = omega arith
    at_most false = omega arith
behind_next f h g b (suc k) [] r = go (h b r) k
  where
    go : (c : Bool) (k : ℕ) → count f (if c then behind h g (g b r) k [] else []) ≤ 1
    go false k = omega arith
    go true zero = omega arith
    go true (suc k) = omega arith
behind_next f h g b (suc k) (y ∷ ys) r = go (h b y) (behind_next f h g (g b y) k ys r) (behind_next f h g (g b y) (suc k) ys r)
  where
    go : (c : Bool) → count f (behind h g (g b y) k (ys ++ r ∷ [])) ≤ suc (count f (behind h g (g b y) k ys)) → count f (behind h g (g b y) (suc k) (ys ++ r ∷ [])) ≤ suc (count f (behind h g (g b y) (suc k) ys))
        → count f (if c then behind h g (g b y) k (ys ++ r ∷ []) else behind h g (g b y) (suc k) (ys ++ r ∷ [])) ≤ suc (count f (if c then behind h g (g b y) k ys else behind h g (g b y) (suc k) ys))
    go true one two = one
    go false one two = two

-- words of which one is a matter upwards end something, or vote after all ends
pub ends_or_votes : (v : Bool) (xs : List DialogueRecord) → none_of is_upward xs ≡ false → (suc 0 ≤ ends_in xs) ⊎ (voting_from v xs ≡ true)
ends_or_votes v xs h = go v xs (ends_in xs) refl h
  where
    none_ends : (v : Bool) (xs : List DialogueRecord) → ends_in xs ≡ 0 → v ≡ true → voting_from v xs ≡ true
    none_ends v [] z i = i
    none_ends v (DialogueRecord.Done r ∷ xs) z i = absurd (omega (arith, z))
    none_ends v (DialogueRecord.RolledBack r ∷ xs) z i = absurd (omega (arith, z))
    none_ends v (DialogueRecord.Left ∷ xs) z i = absurd (omega (arith, z))
    none_ends v (DialogueRecord.LeftEnd ∷ xs) z i = absurd (omega (arith, z))
    none_ends v (x ∷ xs) z i = none_ends _ xs (grind (arith, z)) (grind (arith, z, i))

    votes : (v : Bool) (xs : List DialogueRecord) → ends_in xs ≡ 0 → none_of is_upward xs ≡ false → voting_from v xs ≡ true
    votes v [] z h = absurd (cc (h))
    votes v (DialogueRecord.Ready ∷ xs) z h = none_ends (v || true) xs (omega (arith, z)) (grind arith)
    votes v (DialogueRecord.Done r ∷ xs) z h = absurd (omega (arith, z))
    votes v (DialogueRecord.RolledBack r ∷ xs) z h = absurd (omega (arith, z))
    votes v (DialogueRecord.Left ∷ xs) z h = absurd (omega (arith, z))
    votes v (DialogueRecord.LeftEnd ∷ xs) z h = absurd (omega (arith, z))
    votes v (x ∷ xs) z h = votes _ xs (grind (arith, z)) (grind (arith, h))

    go : (v : Bool) (xs : List DialogueRecord) (n : ℕ) → ends_in xs ≡ n → none_of is_upward xs ≡ false → (suc 0 ≤ ends_in xs) ⊎ (voting_from v xs ≡ true)
    go v xs zero i h = inr (votes v xs i h)
    go v xs (suc n) i h = inl (omega (arith, i))
