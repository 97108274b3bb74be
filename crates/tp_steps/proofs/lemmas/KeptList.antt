-- Kept transactions that are found in the list, and what of it is noted.
use Rattle.std.proofs.Common.{◌≡◌, inl, inr, Bool, true, false, refl, ap, sym, ◌∙◌, arith, Some, List, [], ◌∷◌}
use Rattle.tp_names.specs.declared.identifiers.NodeKey.{NodeKey}
use Rattle.tp_names.specs.Same.{is_key}
use Rattle.tp_model.specs.declared.recovery.Kept.{Kept}
use Rattle.tp_model.specs.declared.recovery.KeptEvent.{KeptEvent}
use Rattle.tp_model.specs.Recovery.{is_commit, noted, find_kept, with_forget, not_forgotten}
use Rattle.tp_steps.specs.Moves.{IsAmong, StandsIn, IsFound}
use Rattle.tp_steps.proofs.log.ApartLog.{keys_equal}

pub found_among : (ks : List Kept) (j : NodeKey) (x : Kept) → find_kept ks j ≡ Some x → IsAmong ks x
found_among [] j x h = absurd cc
found_among (k ∷ ks) j x h = go (is_key k.key j) refl (found_among ks j x)
  where
    go : (b : Bool) → is_key k.key j ≡ b → (find_kept ks j ≡ Some x → IsAmong ks x) → IsAmong (k ∷ ks) x
    go true m rest =
        let one : Some k ≡ Some x = rw (m, find_kept) at h in
        let same : k ≡ x = cc (one) in
        inl (ap (λ (y : Kept). y.node) same, ap (λ (y : Kept). y.key) same)
    go false m rest = inr (rest (rw (m, find_kept) at h))

noted_node : (k : Kept) → (noted k KeptEvent.Forget).node ≡ k.node
noted_node k = grind arith

pub noted_key : (k : Kept) → (noted k KeptEvent.Forget).key ≡ k.key
noted_key k = grind arith

noted_is : (k : Kept) → ◌≡◌ {A = Kept} (record (noted k KeptEvent.Forget) { forgot = false }) (record k { forgot = false })
noted_is k = go (is_commit k.side) refl
  where
    go : (b : Bool) → is_commit k.side ≡ b → ◌≡◌ {A = Kept} (record (noted k KeptEvent.Forget) { forgot = false }) (record k { forgot = false })
    go true i = rw (i, noted) refl
    go false i = rw (i, noted) refl

-- what is found stands there when it is noted
pub noted_among : (ks : List Kept) (j : NodeKey) (x : Kept) → find_kept ks j ≡ Some x → IsAmong (with_forget ks j (λ y. noted y KeptEvent.Forget)) x
noted_among [] j x h = absurd cc
noted_among (k ∷ ks) j x h = go (is_key k.key j) refl (noted_among ks j x)
  where
    go : (b : Bool) → is_key k.key j ≡ b → (find_kept ks j ≡ Some x → IsAmong (with_forget ks j (λ y. noted y KeptEvent.Forget)) x)
        → IsAmong (with_forget (k ∷ ks) j (λ y. noted y KeptEvent.Forget)) x
    go true m rest =
        let one : Some k ≡ Some x = rw (m, find_kept) at h in
        let same : k ≡ x = cc (one) in
        rw (m, with_forget) (inl (noted_node k ∙ ap (λ (y : Kept). y.node) same, noted_key k ∙ ap (λ (y : Kept). y.key) same))
    go false m rest = rw (m, with_forget) (inr (rest (rw (m, find_kept) at h)))

pub same_rest : (x : Kept) (xs ys : List Kept) → xs ≡ ys → x ∷ xs ≡ x ∷ ys
same_rest x xs ys h = rw h refl

same_first : (x y : Kept) (xs : List Kept) → x ≡ y → x ∷ xs ≡ y ∷ xs
same_first x y xs h = rw h refl

pub noted_forgotten : (ks : List Kept) (j : NodeKey) → not_forgotten (with_forget ks j (λ y. noted y KeptEvent.Forget)) ≡ not_forgotten ks
noted_forgotten [] j = refl
noted_forgotten (k ∷ ks) j = go (is_key k.key j) refl (noted_forgotten ks j)
  where
    go : (b : Bool) → is_key k.key j ≡ b → not_forgotten (with_forget ks j (λ y. noted y KeptEvent.Forget)) ≡ not_forgotten ks
        → not_forgotten (with_forget (k ∷ ks) j (λ y. noted y KeptEvent.Forget)) ≡ not_forgotten (k ∷ ks)
    go true m rest = rw (m, with_forget) (same_first _ _ (not_forgotten ks) (noted_is k))
    go false m rest = rw (m, with_forget) (same_rest _ _ _ rest)

pub found_stands : (ks : List Kept) (j : NodeKey) (x : Kept) → find_kept ks j ≡ Some x → StandsIn ks x
found_stands [] j x h = absurd cc
found_stands (k ∷ ks) j x h = go (is_key k.key j) refl (found_stands ks j x)
  where
    go : (b : Bool) → is_key k.key j ≡ b → (find_kept ks j ≡ Some x → StandsIn ks x) → StandsIn (k ∷ ks) x
    go true m rest =
        let one : Some k ≡ Some x = rw (m, find_kept) at h in
        let same : k ≡ x = cc (one) in
        inl (ap (λ (y : Kept). record y { forgot = false }) same)
    go false m rest = inr (rest (rw (m, find_kept) at h))

pub noted_stands : (ks : List Kept) (j : NodeKey) (x : Kept) → find_kept ks j ≡ Some x → StandsIn (with_forget ks j (λ y. noted y KeptEvent.Forget)) x
noted_stands [] j x h = absurd cc
noted_stands (k ∷ ks) j x h = go (is_key k.key j) refl (noted_stands ks j x)
  where
    go : (b : Bool) → is_key k.key j ≡ b → (find_kept ks j ≡ Some x → StandsIn (with_forget ks j (λ y. noted y KeptEvent.Forget)) x)
        → StandsIn (with_forget (k ∷ ks) j (λ y. noted y KeptEvent.Forget)) x
    go true m rest =
        let one : Some k ≡ Some x = rw (m, find_kept) at h in
        let same : k ≡ x = cc (one) in
        rw (m, with_forget) (inl (noted_is k ∙ ap (λ (y : Kept). record y { forgot = false }) same))
    go false m rest = rw (m, with_forget) (inr (rest (rw (m, find_kept) at h)))

-- what is found is found again under its own key, as it is noted
pub noted_again : (ks : List Kept) (j : NodeKey) (x : Kept) → find_kept ks j ≡ Some x → IsFound (with_forget ks j (λ y. noted y KeptEvent.Forget)) x
noted_again ks j x h =
    let same = keys_equal x.key j (found_key ks j x h) in
    (noted x KeptEvent.Forget, ap (find_kept (with_forget ks j (λ y. noted y KeptEvent.Forget))) same ∙ found_noted ks j x h, noted_is x)
  where
    found_key : (ks : List Kept) (j : NodeKey) (x : Kept) → find_kept ks j ≡ Some x → is_key x.key j ≡ true
    found_key [] j x h = absurd cc
    found_key (k ∷ ks) j x h = go (is_key k.key j) refl (found_key ks j x)
      where
        go : (b : Bool) → is_key k.key j ≡ b → (find_kept ks j ≡ Some x → is_key x.key j ≡ true) → is_key x.key j ≡ true
        go true m rest =
            let one : Some k ≡ Some x = rw (m, find_kept) at h in
            let same : k ≡ x = cc (one) in
            ap (λ (y : Kept). is_key y.key j) (sym same) ∙ m
        go false m rest = rest (rw (m, find_kept) at h)

    found_noted : (ks : List Kept) (j : NodeKey) (x : Kept) → find_kept ks j ≡ Some x → find_kept (with_forget ks j (λ y. noted y KeptEvent.Forget)) j ≡ Some (noted x KeptEvent.Forget)
    found_noted [] j x h = absurd cc
    found_noted (k ∷ ks) j x h = go (is_key k.key j) refl (found_noted ks j x)
      where
        go : (b : Bool) → is_key k.key j ≡ b → (find_kept ks j ≡ Some x → find_kept (with_forget ks j (λ y. noted y KeptEvent.Forget)) j ≡ Some (noted x KeptEvent.Forget))
            → find_kept (with_forget (k ∷ ks) j (λ y. noted y KeptEvent.Forget)) j ≡ Some (noted x KeptEvent.Forget)
        go true m rest =
            let one : Some k ≡ Some x = rw (m, find_kept) at h in
            let same : k ≡ x = cc (one) in
            let key : is_key (noted k KeptEvent.Forget).key j ≡ true = ap (λ (i : NodeKey). is_key i j) (noted_key k) ∙ m in
            rw (m, with_forget) (rw (key, find_kept) (ap (λ (y : Kept). Some (noted y KeptEvent.Forget)) same))
        go false m rest = rw (m, with_forget) (rw (m, find_kept) (rest (rw (m, find_kept) at h)))
