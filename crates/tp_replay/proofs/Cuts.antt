-- The lines of a schedule: how many bytes they have with their ends, and which bytes some of them are.
use Rattle.std.proofs.Common.{◌≡◌, ◌≤◌, ◌==◌, ◌+◌, ◌++◌, ◌⊎◌, inl, inr, ℕ, suc, Bool, true, false, List, [], ◌∷◌, length, refl, ap, subst, sym, ◌∙◌, append_assoc, arith}
use Rattle.tp_model.specs.Transcript.{RawLine, raw_lines, before_first, octets_taken}
use Rattle.tp_replay.specs.Transcribing.{size_of}

-- ---- each has at least one byte with its end

abbrev FirstTakes : List RawLine → Type 0
FirstTakes [] = Unit {0}
FirstTakes (l ∷ ls) = 1 ≤ octets_taken l

takes_before : (b : ℕ) (ls : List RawLine) → FirstTakes (before_first b ls)
takes_before b [] = omega arith
takes_before b (l ∷ ls) = go l.ended refl
  where
    go : (e : Bool) → l.ended ≡ e → 1 ≤ octets_taken (record { bytes = b ∷ l.bytes; ended = l.ended })
    go true is = rw is (omega arith)
    go false is = rw is (omega arith)

pub takes_some : (bs : List ℕ) (l : RawLine) (ls : List RawLine) → raw_lines bs ≡ l ∷ ls → 1 ≤ octets_taken l
takes_some bs l ls is = subst FirstTakes is (first bs)
  where
    first : (bs : List ℕ) → FirstTakes (raw_lines bs)
    first [] = tt
    first (b ∷ bs) = go (b == 10) refl
      where
        go : (v : Bool) → (b == 10) ≡ v → FirstTakes (raw_lines (b ∷ bs))
        go true is = rw (FirstTakes, is) (omega arith)
        go false is = rw (FirstTakes, is) (takes_before b (raw_lines bs))

-- ---- a byte more

abbrev fed : RawLine
fed = record { bytes = []; ended = true }

by_feed : (b : ℕ) (bs : List ℕ) → (b == 10) ≡ true → raw_lines (b ∷ bs) ≡ fed ∷ raw_lines bs
by_feed b bs is = ap (λ (v : Bool). elim v as (λ _. List RawLine) [ true ↦ fed ∷ raw_lines bs | false ↦ before_first b (raw_lines bs) ]) is

by_byte : (b : ℕ) (bs : List ℕ) → (b == 10) ≡ false → raw_lines (b ∷ bs) ≡ before_first b (raw_lines bs)
by_byte b bs is = ap (λ (v : Bool). elim v as (λ _. List RawLine) [ true ↦ fed ∷ raw_lines bs | false ↦ before_first b (raw_lines bs) ]) is

some_before : (b : ℕ) (ls : List RawLine) → before_first b ls ≡ [] → ⊥
some_before b [] e = grind (arith, e)
some_before b (l ∷ ls) e = grind (arith, e)

pub raw_none : (bs : List ℕ) → raw_lines bs ≡ [] → bs ≡ []
raw_none [] e = refl
raw_none (b ∷ bs) e = absurd (go (b == 10) refl)
  where
    go : (v : Bool) → (b == 10) ≡ v → ⊥
    go true x = let no : fed ∷ raw_lines bs ≡ [] = sym (by_feed b bs x) ∙ e in grind (arith, no)
    go false x = some_before b (raw_lines bs) (sym (by_byte b bs x) ∙ e)

-- ---- how many bytes they have

size_before : (b : ℕ) (ls : List RawLine) → size_of (before_first b ls) ≡ suc (size_of ls)
size_before b [] = refl
size_before b (l ∷ ls) = go l.ended refl
  where
    go : (e : Bool) → l.ended ≡ e → octets_taken (record { bytes = b ∷ l.bytes; ended = l.ended }) + size_of ls ≡ suc (octets_taken l + size_of ls)
    go true is = rw (octets_taken, is) (omega arith)
    go false is = rw (octets_taken, is) (omega arith)

one_more : (n : ℕ) → 1 + n ≡ suc n
one_more n = omega arith

pub size_of_lines : (bs : List ℕ) → size_of (raw_lines bs) ≡ length bs
size_of_lines [] = refl
size_of_lines (b ∷ bs) = go (b == 10) refl (size_of_lines bs)
  where
    go : (v : Bool) → (b == 10) ≡ v → size_of (raw_lines bs) ≡ length bs → size_of (raw_lines (b ∷ bs)) ≡ suc (length bs)
    go true is all = ap size_of (by_feed b bs is) ∙ one_more (size_of (raw_lines bs)) ∙ ap (λ (n : ℕ). suc n) all
    go false is all = ap size_of (by_byte b bs is) ∙ size_before b (raw_lines bs) ∙ ap (λ (n : ℕ). suc n) all

-- ---- the bytes of the first

-- they come first; before other bytes they are that line still, if it has an end
record FirstCut (bs : List ℕ) (l : RawLine) (ls : List RawLine) : Type 0 where
  prefix : List ℕ
  rest : List ℕ
  is : bs ≡ prefix ++ rest
  others : raw_lines rest ≡ ls
  again : (more : List ℕ) → (l.ended ≡ true) ⊎ (more ≡ []) → raw_lines (prefix ++ more) ≡ l ∷ raw_lines more
  last : l.ended ≡ false → ls ≡ []

first_cut : (bs : List ℕ) (l : RawLine) (ls : List RawLine) → raw_lines bs ≡ l ∷ ls → FirstCut bs l ls
first_cut [] l ls is = absurd (grind (arith, is))
first_cut (b ∷ bs) l ls is = go (b == 10) refl (λ l ls is. first_cut bs l ls is)
  where
    at_feed : (b == 10) ≡ true → fed ∷ raw_lines bs ≡ l ∷ ls → FirstCut (b ∷ bs) l ls
    at_feed feed same =
        let one : fed ≡ l = grind (arith, same) in
        let others : raw_lines bs ≡ ls = grind (arith, same) in
        subst (λ (x : RawLine). FirstCut (b ∷ bs) x ls) one (record {
          prefix = b ∷ [];
          rest = bs;
          is = refl;
          others = others;
          again = λ more h. by_feed b more feed;
          last = λ e. absurd cc;
        })

    Rest : Type 0
    Rest = (l : RawLine) (ls : List RawLine) → raw_lines bs ≡ l ∷ ls → FirstCut bs l ls

    longer : RawLine → RawLine
    longer x = record { bytes = b ∷ x.bytes; ended = x.ended }

    single : RawLine
    single = record { bytes = b ∷ []; ended = false }

    alone : (b == 10) ≡ false → (xs : List RawLine) → raw_lines bs ≡ xs → Rest → before_first b xs ≡ l ∷ ls → FirstCut (b ∷ bs) l ls
    alone byte [] e more same =
        let one : single ≡ l = grind (arith, same) in
        let none : [] ≡ ls = grind (arith, same) in
        subst (λ (x : RawLine). FirstCut (b ∷ bs) x ls) one (record {
          prefix = b ∷ [];
          rest = bs;
          is = refl;
          others = e ∙ none;
          again = λ more h. elim h [ inl ended ↦ absurd cc | inr empty ↦ ap (λ (m : List ℕ). raw_lines (b ∷ m)) empty ∙ by_byte b [] byte ∙ ap (λ (m : List ℕ). single ∷ raw_lines m) (sym empty) ];
          last = λ _. sym none;
        })
    alone byte (x ∷ xs) e more same =
        let c : FirstCut bs x xs = more x xs e in
        let one : longer x ≡ l = grind (arith, same) in
        let others : xs ≡ ls = grind (arith, same) in
        subst (λ (y : RawLine). FirstCut (b ∷ bs) y ls) one (record {
          prefix = b ∷ c.prefix;
          rest = c.rest;
          is = ap (λ (m : List ℕ). b ∷ m) c.is;
          others = c.others ∙ others;
          again = λ more h. by_byte b (c.prefix ++ more) byte ∙ ap (before_first b) (c.again more h);
          last = λ e. sym others ∙ c.last e;
        })

    go : (v : Bool) → (b == 10) ≡ v → Rest → FirstCut (b ∷ bs) l ls
    go true x more = at_feed x (sym (by_feed b bs x) ∙ is)
    go false x more = alone x (raw_lines bs) refl more (sym (by_byte b bs x) ∙ is)

-- ---- the bytes of some

pub record Cut (bs : List ℕ) (first rest : List RawLine) : Type 0 where
  pub prefix : List ℕ
  pub behind : List ℕ
  pub is : bs ≡ prefix ++ behind
  pub first_lines : raw_lines prefix ≡ first
  pub other_lines : raw_lines behind ≡ rest

none_of : (xs ys : List RawLine) → xs ++ ys ≡ [] → xs ≡ []
none_of [] ys e = refl
none_of (x ∷ xs) ys e = absurd (grind (arith, e))

pub cut_at : (bs : List ℕ) (first rest : List RawLine) → raw_lines bs ≡ first ++ rest → Cut bs first rest
cut_at bs [] rest is = record { prefix = []; behind = bs; is = refl; first_lines = refl; other_lines = is }
cut_at bs (l ∷ first) rest is =
    let c : FirstCut bs l (first ++ rest) = first_cut bs l (first ++ rest) is in
    let d : Cut c.rest first rest = cut_at c.rest first rest c.others in
    record {
      prefix = c.prefix ++ d.prefix;
      behind = d.behind;
      is = c.is ∙ ap (λ (m : List ℕ). c.prefix ++ m) d.is ∙ sym (append_assoc c.prefix d.prefix d.behind);
      first_lines = c.again d.prefix (whole c d l.ended refl) ∙ ap (λ (ls : List RawLine). l ∷ ls) d.first_lines;
      other_lines = d.other_lines;
    }
  where
    whole : (c : FirstCut bs l (first ++ rest)) (d : Cut c.rest first rest) (e : Bool) → l.ended ≡ e → (l.ended ≡ true) ⊎ (d.prefix ≡ [])
    whole c d true h = inl h
    whole c d false h = inr (raw_none d.prefix (d.first_lines ∙ none_of first rest (c.last h)))
