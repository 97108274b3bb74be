-- What is counted of all records is counted of the words among them.
use Rattle.std.proofs.Common.{◌≡◌, ◌+◌, ℕ, zero, suc, Bool, true, false, refl, ap, sym, ◌∙◌, arith, Option, Some, List, [], ◌∷◌, ◌++◌, ◌&&◌, ◌||◌, not, length, slice_get}
use Rattle.tp_records.specs.declared.dialogue.DialogueRecord.{DialogueRecord}
use Rattle.tp_steps.specs.Moves.{is_word}
use Rattle.tp_steps.proofs.lemmas.Equality.{and_left, and_right, both_true}
use Rattle.tp_steps.specs.Facts.{only_words, is_vote, is_order, is_rollback, ends, ends_in, BranchKey, begun_keys, begins_by, last_from, each_under, each_vote}

quiet_ends : (r : DialogueRecord) → is_word r ≡ false → ends r ≡ 0
quiet_ends (DialogueRecord.Done r) h = absurd cc
quiet_ends (DialogueRecord.RolledBack r) h = absurd cc
quiet_ends DialogueRecord.Left h = absurd cc
quiet_ends DialogueRecord.LeftEnd h = absurd cc
quiet_ends r h = refl

quiet_vote : (r : DialogueRecord) → is_word r ≡ false → is_vote r ≡ false
quiet_vote DialogueRecord.Ready h = absurd cc
quiet_vote r h = refl

quiet_begin : (k : Option BranchKey) (r : DialogueRecord) → is_word r ≡ false → begins_by k r ≡ k
quiet_begin k (DialogueRecord.Begin t b i) h = absurd cc
quiet_begin k r h = refl

quiet_keys : (r : DialogueRecord) (rs : List DialogueRecord) → is_word r ≡ false → begun_keys (r ∷ rs) ≡ begun_keys rs
quiet_keys (DialogueRecord.Begin t b i) rs h = absurd cc
quiet_keys r rs h = refl

keys_cons : (r : DialogueRecord) (xs ys : List DialogueRecord) → begun_keys xs ≡ begun_keys ys → begun_keys (r ∷ xs) ≡ begun_keys (r ∷ ys)
keys_cons (DialogueRecord.Begin t b i) xs ys h = ap (λ (l : List BranchKey). (t, b) ∷ l) h
keys_cons r xs ys h = h

pub words_ends : (rs : List DialogueRecord) → ends_in (only_words rs) ≡ ends_in rs
words_ends [] = refl
words_ends (r ∷ rs) = go (is_word r) refl (words_ends rs)
  where
    go : (b : Bool) → is_word r ≡ b → ends_in (only_words rs) ≡ ends_in rs → ends_in (only_words (r ∷ rs)) ≡ ends_in (r ∷ rs)
    go true i rest = grind (arith, i, rest)
    go false i rest = let z = quiet_ends r i in grind (arith, i, rest, z)

pub words_keys : (rs : List DialogueRecord) → begun_keys (only_words rs) ≡ begun_keys rs
words_keys [] = refl
words_keys (r ∷ rs) = go (is_word r) refl (words_keys rs)
  where
    go : (b : Bool) → is_word r ≡ b → begun_keys (only_words rs) ≡ begun_keys rs → begun_keys (only_words (r ∷ rs)) ≡ begun_keys (r ∷ rs)
    go true i rest = rw (i, only_words) (keys_cons r (only_words rs) rs rest)
    go false i rest = rw (i, only_words) (rest ∙ sym (quiet_keys r rs i))

pub words_last : (k : Option BranchKey) (rs : List DialogueRecord) → last_from k (only_words rs) ≡ last_from k rs
words_last k [] = refl
words_last k (r ∷ rs) = go (is_word r) refl (words_last (begins_by k r) rs) (words_last k rs)
  where
    go : (b : Bool) → is_word r ≡ b → last_from (begins_by k r) (only_words rs) ≡ last_from (begins_by k r) rs → last_from k (only_words rs) ≡ last_from k rs → last_from k (only_words (r ∷ rs)) ≡ last_from k (r ∷ rs)
    go true i one two = rw (i, only_words) one
    go false i one two = rw (i, only_words) (two ∙ ap (λ (j : Option BranchKey). last_from j rs) (sym (quiet_begin k r i)))

pub words_under : (f : DialogueRecord → Bool) (g : Option BranchKey → Bool) → ((r : DialogueRecord) → is_word r ≡ false → f r ≡ false) → (k : Option BranchKey) (rs : List DialogueRecord)
    → each_under f g k (only_words rs) ≡ true → each_under f g k rs ≡ true
words_under f g w k [] h = refl
words_under f g w k (r ∷ rs) h = go (is_word r) refl (words_under f g w (begins_by k r) rs) (words_under f g w k rs)
  where
    go : (b : Bool) → is_word r ≡ b → (each_under f g (begins_by k r) (only_words rs) ≡ true → each_under f g (begins_by k r) rs ≡ true) → (each_under f g k (only_words rs) ≡ true → each_under f g k rs ≡ true)
        → each_under f g k (r ∷ rs) ≡ true
    go true i one two =
        let all : ((not (f r) || g k) && each_under f g (begins_by k r) (only_words rs)) ≡ true = rw (i, only_words) at h in
        both_true (not (f r) || g k) (each_under f g (begins_by k r) rs) (and_left (not (f r) || g k) (each_under f g (begins_by k r) (only_words rs)) all) (one (and_right (not (f r) || g k) (each_under f g (begins_by k r) (only_words rs)) all))
    go false i one two =
        let old : each_under f g k (only_words rs) ≡ true = rw (i, only_words) at h in
        let rest : each_under f g (begins_by k r) rs ≡ true = ap (λ (j : Option BranchKey). each_under f g j rs) (quiet_begin k r i) ∙ two old in
        both_true (not (f r) || g k) (each_under f g (begins_by k r) rs) (rw (w r i) refl) rest

pub words_vote : (g : ℕ → Bool) (n : ℕ) (rs : List DialogueRecord) → each_vote g n (only_words rs) ≡ true → each_vote g n rs ≡ true
words_vote g n [] h = refl
words_vote g n (r ∷ rs) h = go (is_word r) refl (words_vote g (ends r + n) rs) (words_vote g n rs)
  where
    zero_plus : (m : ℕ) → m ≡ 0 → m + n ≡ n
    zero_plus m z = omega (arith, z)

    go : (b : Bool) → is_word r ≡ b → (each_vote g (ends r + n) (only_words rs) ≡ true → each_vote g (ends r + n) rs ≡ true) → (each_vote g n (only_words rs) ≡ true → each_vote g n rs ≡ true) → each_vote g n (r ∷ rs) ≡ true
    go true i one two =
        let all : ((not (is_vote r) || g n) && each_vote g (ends r + n) (only_words rs)) ≡ true = rw (i, only_words) at h in
        both_true (not (is_vote r) || g n) (each_vote g (ends r + n) rs) (and_left (not (is_vote r) || g n) (each_vote g (ends r + n) (only_words rs)) all) (one (and_right (not (is_vote r) || g n) (each_vote g (ends r + n) (only_words rs)) all))
    go false i one two =
        let old : each_vote g n (only_words rs) ≡ true = rw (i, only_words) at h in
        let rest : each_vote g (ends r + n) rs ≡ true = ap (λ (m : ℕ). each_vote g m rs) (zero_plus (ends r) (quiet_ends r i)) ∙ two old in
        both_true (not (is_vote r) || g n) (each_vote g (ends r + n) rs) (rw (quiet_vote r i) refl) rest

pub quiet_order : (r : DialogueRecord) → is_word r ≡ false → is_order r ≡ false
quiet_order DialogueRecord.Commit h = absurd cc
quiet_order r h = refl

pub quiet_rollback : (r : DialogueRecord) → is_word r ≡ false → is_rollback r ≡ false
quiet_rollback DialogueRecord.Rollback h = absurd cc
quiet_rollback r h = refl

-- ---- keys at their places

pub key_before : (xs ys : List BranchKey) (n : ℕ) (v : BranchKey) → slice_get xs n ≡ Some v → slice_get (xs ++ ys) n ≡ Some v
key_before [] ys n v h = absurd cc
key_before (x ∷ xs) ys zero v h = h
key_before (x ∷ xs) ys (suc n) v h = key_before xs ys n v h

pub key_last : (xs : List BranchKey) (v : BranchKey) (n : ℕ) → length xs ≡ n → slice_get (xs ++ v ∷ []) n ≡ Some v
key_last [] v zero h = refl
key_last (x ∷ xs) v (suc n) h = key_last xs v n (cc (h))
key_last _ v _ h = absurd cc

no_keys : (k : Option BranchKey) (rs : List DialogueRecord) → begun_keys rs ≡ [] → last_from k rs ≡ k
no_keys k [] h = refl
no_keys k (DialogueRecord.Begin t b i ∷ rs) h = absurd (cc (h))
no_keys k (r ∷ rs) h = no_keys k rs h

-- the last of the keys
pub last_is : (k : Option BranchKey) (rs : List DialogueRecord) (n : ℕ) (v : BranchKey) → slice_get (begun_keys rs) n ≡ Some v → length (begun_keys rs) ≡ suc n → last_from k rs ≡ Some v
last_is k [] n v h l = absurd cc
last_is k (DialogueRecord.Begin t b i ∷ rs) zero v h l = only (begun_keys rs) refl
  where
    only : (ks : List BranchKey) → begun_keys rs ≡ ks → last_from (Some (t, b)) rs ≡ Some v
    only [] j = no_keys (Some (t, b)) rs j ∙ h
    only (k ∷ ks) j = let two : length (begun_keys rs) ≡ suc (length ks) = ap length j in absurd (omega (arith, l, two))
last_is k (DialogueRecord.Begin t b i ∷ rs) (suc n) v h l = last_is (Some (t, b)) rs n v h (cc (l))
last_is k (r ∷ rs) n v h l = last_is k rs n v h l
