-- Receipts that are merged by place: the queue with the least place has the first of all.
use Rattle.std.proofs.Common.{◌≡◌, ◌≤◌, ◌<◌, ◌+◌, ◌⊎◌, inl, inr, ℕ, zero, suc, List, [], ◌∷◌, ◌++◌, Some, None, IfSome, drop, get_or, set, length, refl, sym, ap, subst, ◌∙◌, arith}
use Rattle.std.specs.List.{All, AllByRecursion}
use Rattle.std.proofs.lemmas.List.{append-nil, append_assoc}
use Rattle.tp_logrec.specs.declared.record.LogRec.{LogRec}
use Rattle.tp_model.specs.Lanes.{IsInterleaving}
use Rattle.tp_journal.specs.declared.receipts.Receipt.{Receipt}
use Rattle.tp_journal.specs.Records.{placed, receipts_from, text}
use Rattle.tp_drive.specs.Merging.{AreRising, IsFirst, front_place}
use Rattle.tp_drive.proofs.Interleavings.{empty_at}

abbrev Queues : Type 0
Queues = List (List Receipt)

-- ---- the places of a log rise

later_all : (place at : ℕ) (wide : _) (rs : List LogRec) → place < at → AllByRecursion (λ (later : Receipt). place < later.place) (receipts_from at wide rs)
later_all place at wide [] h = tt
later_all place at wide (r ∷ rs) h = (h, later_all place (at + 3 + length (text wide r)) wide rs (omega (arith, h)))

rising_from : (at : ℕ) (wide : _) (rs : List LogRec) → AreRising (receipts_from at wide rs)
rising_from at wide [] = tt
rising_from at wide (r ∷ rs) = (later_all at (at + 3 + length (text wide r)) wide rs (omega arith), rising_from (at + 3 + length (text wide r)) wide rs)

rising_drop : (n : ℕ) (rs : List Receipt) → AreRising rs → AreRising (drop n rs)
rising_drop zero rs h = h
rising_drop (suc n) [] h = tt
rising_drop (suc n) (r ∷ rs) h = rising_drop n rs h.1

pub placed_rise : (n : ℕ) (wide : _) (rs : List LogRec) → AreRising (drop n (placed wide rs))
placed_rise n wide rs = rising_drop n (placed wide rs) (rising_from _ wide rs)

-- ---- the first of all

-- at a place there is this list, or that which is there whatever stands in its stead
abbrev AtHole : Queues → List Receipt → List Receipt → Queues → ℕ → Type 0
AtHole before l m behind i =
    ((get_or (before ++ l ∷ behind) i [] ≡ l) × (set (before ++ l ∷ behind) i m ≡ before ++ m ∷ behind))
    ⊎ (get_or (before ++ l ∷ behind) i [] ≡ get_or (before ++ m ∷ behind) i [])

at_hole : (before : Queues) (l m : List Receipt) (behind : Queues) (i : ℕ) → AtHole before l m behind i
at_hole [] l m behind zero = inl (refl, refl)
at_hole [] l m behind (suc i) = inr refl
at_hole (b ∷ before) l m behind zero = inr refl
at_hole (b ∷ before) l m behind (suc i) = further (at_hole before l m behind i)
  where
    further : AtHole before l m behind i → AtHole (b ∷ before) l m behind (suc i)
    further (inl h) = inl (h.0, ap (λ (ls : Queues). b ∷ ls) h.1)
    further (inr h) = inr h

hole_last : (before : Queues) (l : List Receipt) (behind : Queues) (d : List Receipt) → get_or (before ++ l ∷ behind) (length before) d ≡ l
hole_last [] l behind d = refl
hole_last (b ∷ before) l behind d = hole_last before l behind d

hole_within : (before : Queues) (l : List Receipt) (behind : Queues) → length before < length (before ++ l ∷ behind)
hole_within [] l behind = omega arith
hole_within (b ∷ before) l behind = omega (arith, hole_within before l behind)

-- what holds of all items holds of the first of each list
front_in : (P : Receipt → Type 0) (xs : List Receipt) (ls : Queues) (i : ℕ) (y : Receipt) (q : List Receipt) → IsInterleaving xs ls → AllByRecursion P xs → get_or ls i [] ≡ y ∷ q → P y
front_in P [] ls i y q woven all is = let none = sym is ∙ empty_at ls i woven in absurd (cc none)
front_in P (x ∷ xs) ls i y q (before, own, behind, was, rest) all is =
    let there : get_or (before ++ (x ∷ own) ∷ behind) i [] ≡ y ∷ q = ap (λ (m : Queues). get_or m i []) (sym was) ∙ is in
    go there (λ same. front_in P xs (before ++ own ∷ behind) i y q rest all.1 same) (at_hole before (x ∷ own) own behind i)
  where
    go : get_or (before ++ (x ∷ own) ∷ behind) i [] ≡ y ∷ q → (get_or (before ++ own ∷ behind) i [] ≡ y ∷ q → P y) → AtHole before (x ∷ own) own behind i → P y
    go there later (inl h) = let same : x ∷ own ≡ y ∷ q = sym h.0 ∙ there in subst P (cc same) all.0
    go there later (inr h) = later (sym h ∙ there)

first_of_all : (x : Receipt) (xs : List Receipt) (queues : Queues) (i : ℕ) (y : Receipt) (q : List Receipt) → AreRising (x ∷ xs) → IsInterleaving (x ∷ xs) queues → IsFirst queues i → get_or queues i [] ≡ y ∷ q
    → (y ≡ x) × IsInterleaving xs (set queues i q)
first_of_all x xs queues i y q rising (before, own, behind, was, rest) first is = go (at_hole before (x ∷ own) own behind i)
  where
    there : get_or (before ++ (x ∷ own) ∷ behind) i [] ≡ y ∷ q
    there = ap (λ (m : Queues). get_or m i []) (sym was) ∙ is

    place : y.place ≡ first.place
    place = let same : Some y.place ≡ Some first.place = ap front_place (sym is) ∙ first.front [] in cc same

    least : first.place ≤ x.place
    least =
        let at : get_or queues (length before) [] ≡ x ∷ own = ap (λ (m : Queues). get_or m (length before) []) was ∙ hole_last before (x ∷ own) behind [] in
        let within : length before < length queues = omega (arith, ap length was, hole_within before (x ∷ own) behind) in
        subst (λ (l : List Receipt). IfSome (front_place l) (λ other. first.place ≤ other)) at (first.least (length before) [] within)

    go : AtHole before (x ∷ own) own behind i → (y ≡ x) × IsInterleaving xs (set queues i q)
    go (inl h) =
        let same : x ∷ own ≡ y ∷ q = sym h.0 ∙ there in
        let left : q ≡ own = cc same in
        (cc same, subst (IsInterleaving xs) (sym (ap (λ (m : Queues). set m i q) was ∙ ap (set (before ++ (x ∷ own) ∷ behind) i) left ∙ h.1)) rest)
    go (inr h) =
        let later : x.place < y.place = front_in (λ (later : Receipt). x.place < later.place) xs (before ++ own ∷ behind) i y q rest rising.0 (sym h ∙ there) in
        absurd (omega (arith, later, place, least))

-- ---- a merge

-- what is left to take
abbrev pub IsLeft : List Receipt → List Receipt → Queues → Type 0
IsLeft whole taken queues = (rest : List Receipt) × (whole ≡ taken ++ rest) × AreRising rest × IsInterleaving rest queues

pub takes_more : (whole taken : List Receipt) (queues : Queues) (i : ℕ) (y : Receipt) (q : List Receipt) → IsFirst queues i → get_or queues i [] ≡ y ∷ q → IsLeft whole taken queues → IsLeft whole (taken ++ y ∷ []) (set queues i q)
takes_more whole taken queues i y q first is ([], same, rising, woven) = let none = sym is ∙ empty_at queues i woven in absurd (cc none)
takes_more whole taken queues i y q first is (x ∷ rest, same, rising, woven) =
    let step = first_of_all x rest queues i y q rising woven first is in
    let here : taken ++ x ∷ rest ≡ taken ++ y ∷ rest = ap (λ (r : Receipt). taken ++ r ∷ rest) (sym step.0) in
    (rest, same ∙ here ∙ sym (append_assoc taken (y ∷ []) rest), rising.1, step.1)

pub takes_all : (whole taken : List Receipt) (queues : Queues) → All (λ (q : List Receipt). q ≡ []) queues → IsLeft whole taken queues → taken ≡ whole
takes_all whole taken queues none ([], same, rising, woven) = sym (same ∙ append-nil taken)
takes_all whole taken queues none (x ∷ rest, same, rising, (before, own, behind, was, woven)) =
    let at : get_or queues (length before) [] ≡ x ∷ own = ap (λ (m : Queues). get_or m (length before) []) was ∙ hole_last before (x ∷ own) behind [] in
    let within : length before < length queues = omega (arith, ap length was, hole_within before (x ∷ own) behind) in
    let clash : x ∷ own ≡ [] = sym at ∙ none (length before) [] within in
    absurd (cc clash)

pub no_front : (q : List Receipt) → front_place q ≡ None → q ≡ []
no_front [] h = refl
no_front (r ∷ q) h = absurd (cc h)
