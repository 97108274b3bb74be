-- Lists of words, and the folds over them.
use Rattle.std.proofs.Common.{◌≡◌, ◌+◌, ℕ, Bool, true, false, refl, ap, arith, Option, Some, None, List, [], ◌∷◌, ◌++◌, ◌&&◌, ◌==◌, not, slice_get}
use Rattle.std.proofs.lemmas.Grind.{common_steps}
use Rattle.tp_names.specs.declared.identifiers.Aaid.{Aaid}
use Rattle.tp_records.specs.declared.dialogue.DialogueRecord.{DialogueRecord}
use Rattle.tp_logrec.specs.declared.record.LogRec.{LogRec}
use Rattle.tp_model.specs.declared.transaction.TxOut.{TxOut}
use Rattle.tp_model.specs.History.{with_rec}
use Rattle.tp_model.specs.Outcomes.{has_commit_of}
use Rattle.tp_model.specs.Questions.{is_begin}
use Rattle.tp_steps.specs.Clearing.{damages_tree, has_damage}
use Rattle.tp_steps.specs.Facts.{spoken, stays, is_vote, is_end, ends, ends_in, none_of, BranchKey, begun_keys, begins_by, last_from, each_under, each_vote, has_ready_of, is_voted, is_ordered}

-- ---- outputs

pub spoken_append : (b : Bool) (p : ℕ) (xs ys : List TxOut) → spoken b p (xs ++ ys) ≡ spoken b p xs ++ spoken (stays b p xs) p ys
spoken_append b p [] ys = refl
spoken_append b p (TxOut.Tell i ∷ xs) ys = spoken_append b p xs ys
spoken_append b p (TxOut.Carry q r ∷ xs) ys = grind (arith, common_steps, spoken_append b p xs ys)
spoken_append b p (TxOut.Shut q ∷ xs) ys = spoken_append (b && not (q == p)) p xs ys
spoken_append b p (TxOut.Recovery a r ∷ xs) ys = spoken_append b p xs ys
spoken_append b p (TxOut.Close q ∷ xs) ys = spoken_append (b && not (q == p)) p xs ys

pub stays_append : (b : Bool) (p : ℕ) (xs ys : List TxOut) → stays b p (xs ++ ys) ≡ stays (stays b p xs) p ys
stays_append b p [] ys = refl
stays_append b p (TxOut.Tell i ∷ xs) ys = stays_append b p xs ys
stays_append b p (TxOut.Carry q r ∷ xs) ys = stays_append b p xs ys
stays_append b p (TxOut.Shut q ∷ xs) ys = stays_append (b && not (q == p)) p xs ys
stays_append b p (TxOut.Recovery a r ∷ xs) ys = stays_append b p xs ys
stays_append b p (TxOut.Close q ∷ xs) ys = stays_append (b && not (q == p)) p xs ys

pub dead_spoken : (p : ℕ) (xs : List TxOut) → spoken false p xs ≡ []
dead_spoken p [] = refl
dead_spoken p (TxOut.Tell i ∷ xs) = dead_spoken p xs
dead_spoken p (TxOut.Carry q r ∷ xs) = grind (arith, dead_spoken p xs)
dead_spoken p (TxOut.Shut q ∷ xs) = dead_spoken p xs
dead_spoken p (TxOut.Recovery a r ∷ xs) = dead_spoken p xs
dead_spoken p (TxOut.Close q ∷ xs) = dead_spoken p xs

pub dead_stays : (p : ℕ) (xs : List TxOut) → stays false p xs ≡ false
dead_stays p [] = refl
dead_stays p (TxOut.Tell i ∷ xs) = dead_stays p xs
dead_stays p (TxOut.Carry q r ∷ xs) = dead_stays p xs
dead_stays p (TxOut.Shut q ∷ xs) = dead_stays p xs
dead_stays p (TxOut.Recovery a r ∷ xs) = dead_stays p xs
dead_stays p (TxOut.Close q ∷ xs) = dead_stays p xs

-- ---- folds

pub ends_append : (xs ys : List DialogueRecord) → ends_in (xs ++ ys) ≡ ends_in xs + ends_in ys
ends_append [] ys = grind arith
ends_append (x ∷ xs) ys = grind (arith, ends_append xs ys)

pub none_append : (f : DialogueRecord → Bool) (xs ys : List DialogueRecord) → none_of f (xs ++ ys) ≡ (none_of f xs && none_of f ys)
none_append f [] ys = refl
none_append f (x ∷ xs) ys = grind (arith, none_append f xs ys)

pub last_append : (k : Option BranchKey) (xs ys : List DialogueRecord) → last_from k (xs ++ ys) ≡ last_from (last_from k xs) ys
last_append k [] ys = refl
last_append k (x ∷ xs) ys = last_append (begins_by k x) xs ys

pub keys_append : (xs ys : List DialogueRecord) → begun_keys (xs ++ ys) ≡ begun_keys xs ++ begun_keys ys
keys_append [] ys = refl
keys_append (DialogueRecord.Begin t b h ∷ xs) ys = ap (λ (l : List BranchKey). (t, b) ∷ l) (keys_append xs ys)
keys_append (_ ∷ xs) ys = keys_append xs ys

pub under_append : (f : DialogueRecord → Bool) (g : Option BranchKey → Bool) (k : Option BranchKey) (xs ys : List DialogueRecord)
    → each_under f g k (xs ++ ys) ≡ (each_under f g k xs && each_under f g (last_from k xs) ys)
under_append f g k [] ys = refl
under_append f g k (x ∷ xs) ys = grind (arith, under_append f g (begins_by k x) xs ys)

pub under_weaker : (f : DialogueRecord → Bool) (g h : Option BranchKey → Bool) → ((k : Option BranchKey) → g k ≡ true → h k ≡ true)
    → (k : Option BranchKey) (xs : List DialogueRecord) → each_under f g k xs ≡ true → each_under f h k xs ≡ true
under_weaker f g h w k [] e = refl
under_weaker f g h w k (x ∷ xs) e = grind (arith, under_weaker f g h w (begins_by k x) xs, w k)

pub vote_append : (g : ℕ → Bool) (n : ℕ) (xs ys : List DialogueRecord) → each_vote g n (xs ++ ys) ≡ (each_vote g n xs && each_vote g (ends_in xs + n) ys)
vote_append g n [] ys = let e : 0 + n ≡ n = omega arith in rw e refl
vote_append g n (x ∷ xs) ys = let e : ends_in xs + (ends x + n) ≡ ends x + ends_in xs + n = omega arith in grind (arith, vote_append g (ends x + n) xs ys, e)

pub vote_weaker : (g h : ℕ → Bool) → ((n : ℕ) → g n ≡ true → h n ≡ true) → (n : ℕ) (xs : List DialogueRecord) → each_vote g n xs ≡ true → each_vote h n xs ≡ true
vote_weaker g h w n [] e = refl
vote_weaker g h w n (x ∷ xs) e = grind (arith, vote_weaker g h w (ends x + n) xs, w n)

pub none_under : (f : DialogueRecord → Bool) (g : Option BranchKey → Bool) (k : Option BranchKey) (xs : List DialogueRecord) → none_of f xs ≡ true → each_under f g k xs ≡ true
none_under f g k [] h = refl
none_under f g k (x ∷ xs) h = grind (arith, none_under f g (begins_by k x) xs)

pub none_vote : (g : ℕ → Bool) (n : ℕ) (xs : List DialogueRecord) → none_of is_vote xs ≡ true → each_vote g n xs ≡ true
none_vote g n [] h = refl
none_vote g n (x ∷ xs) h = grind (arith, none_vote g (ends x + n) xs)

pub none_last : (k : Option BranchKey) (xs : List DialogueRecord) → none_of is_begin xs ≡ true → last_from k xs ≡ k
none_last k [] h = refl
none_last k (DialogueRecord.Begin t b i ∷ xs) h = absurd cc
none_last k (_ ∷ xs) h = none_last k xs h

pub none_begun : (xs : List DialogueRecord) → none_of is_begin xs ≡ true → begun_keys xs ≡ []
none_begun [] h = refl
none_begun (DialogueRecord.Begin t b i ∷ xs) h = absurd cc
none_begun (_ ∷ xs) h = none_begun xs h

pub none_ends : (xs : List DialogueRecord) → none_of is_end xs ≡ true → ends_in xs ≡ 0
none_ends [] h = refl
none_ends (x ∷ xs) h = grind (arith, none_ends xs)

-- with no Begin among them, one key holds for all
pub under_const : (f : DialogueRecord → Bool) (g : Option BranchKey → Bool) (k : Option BranchKey) (xs : List DialogueRecord) → none_of is_begin xs ≡ true → g k ≡ true → each_under f g k xs ≡ true
under_const f g k [] h i = refl
under_const f g k (DialogueRecord.Begin t b j ∷ xs) h i = absurd cc
under_const f g k (x ∷ xs) h i = let rest = under_const f g k xs h i in grind (arith, rest, i)

-- ---- more records

pub commit_more : (t : Aaid) (r : Option LogRec) (rs : List LogRec) → has_commit_of t rs ≡ true → has_commit_of t (with_rec r rs) ≡ true
commit_more t None rs h = h
commit_more t (Some r) rs h = grind (arith, h)

pub damage_first : (t : Aaid) (r : Option LogRec) (rs : List LogRec) → damages_tree t r ≡ true → has_damage t (with_rec r rs) ≡ true
damage_first t None rs h = absurd (cc (h))
damage_first t (Some r) rs h = rw h refl

pub damage_more : (t : Aaid) (r : Option LogRec) (rs : List LogRec) → has_damage t rs ≡ true → has_damage t (with_rec r rs) ≡ true
damage_more t None rs h = h
damage_more t (Some r) rs h = rw h (grind arith)

pub ready_more : (k : BranchKey) (r : Option LogRec) (rs : List LogRec) → has_ready_of k rs ≡ true → has_ready_of k (with_rec r rs) ≡ true
ready_more k None rs h = h
ready_more k (Some r) rs h = grind (arith, h)

pub ordered_more : (r : Option LogRec) (rs : List LogRec) (k : Option BranchKey) → is_ordered rs k ≡ true → is_ordered (with_rec r rs) k ≡ true
ordered_more r rs None h = h
ordered_more r rs (Some k) h = commit_more k.0 r rs h

pub voted_more : (r : Option LogRec) (ks : List BranchKey) (rs : List LogRec) (n : ℕ) → is_voted ks rs n ≡ true → is_voted ks (with_rec r rs) n ≡ true
voted_more r ks rs n h = go (slice_get ks n) refl
  where
    go : (o : Option BranchKey) → slice_get ks n ≡ o → is_voted ks (with_rec r rs) n ≡ true
    go None i = absurd (cc (rw (i, is_voted) at h))
    go (Some k) i = let one : has_ready_of k rs ≡ true = rw (i, is_voted) at h in rw (i, is_voted) (ready_more k r rs one)

pub both : (a b : Bool) → a ≡ true → b ≡ true → (a && b) ≡ true
both a b h i = rw (h, i) refl
