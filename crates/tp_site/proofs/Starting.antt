-- What a start reads of the records that a keeper tells.
use Rattle.std.proofs.Common.{◌≡◌, ◌<◌, ◌+◌, ℕ, zero, suc, true, false, Option, Some, None, List, [], ◌∷◌, ◌++◌, length, map, take, drop, refl, ap, sym, ◌∙◌, arith, slice_index_or, get_or}
use Rattle.std.proofs.lemmas.List.{take_more, drop_more, take-append-drop, take-map, length-map}
use Rattle.tp_logrec.specs.declared.record.LogRec.{LogRec}
use Rattle.tp_logrec.specs.Order.{boots, last_number, follows, all_follow}
use Rattle.tp_journal.specs.declared.receipts.Receipt.{Receipt}
use Rattle.tp_journal.specs.Disorder.{IsFirstOutOfOrder}
use Rattle.tp_journal.proofs.Disorders.{out_of_order_at}

-- the last of the numbers, or the one before them
abbrev pub last_after : ℕ → List ℕ → ℕ
last_after n [] = n
last_after n (m ∷ ms) = last_after m ms

pub last_is : (ns : List ℕ) → last_number ns ≡ last_after 0 ns
last_is [] = refl
last_is (n ∷ ns) = go n ns
  where
    go : (n : ℕ) (ns : List ℕ) → last_number (n ∷ ns) ≡ last_after n ns
    go n [] = refl
    go n (m ∷ ms) = go m ms

pub told_more : (told : List Receipt) (i : ℕ) (d : Receipt) → i < length told → map (λ r. r.rec) (take (i + 1) told) ≡ map (λ r. r.rec) (take i told) ++ (slice_index_or told i d).rec ∷ []
told_more told i d h = ap (map (λ (r : Receipt). r.rec)) (take_more told i d h) ∙ behind (take i told) (slice_index_or told i d)
  where
    behind : (rs : List Receipt) (r : Receipt) → map (λ q. q.rec) (rs ++ r ∷ []) ≡ map (λ q. q.rec) rs ++ r.rec ∷ []
    behind [] r = refl
    behind (q ∷ rs) r = ap (λ (l : List LogRec). q.rec ∷ l) (behind rs r)

pub told_pushed : (told : List Receipt) (i : ℕ) (r : LogRec) (old new : List LogRec) → i < length told → ((d : Receipt) → r ≡ (slice_index_or told i d).rec) → old ≡ map (λ q. q.rec) (take i told) → new ≡ old ++ r ∷ [] → new ≡ map (λ q. q.rec) (take (i + 1) told)
told_pushed [] i r old new h is was more = absurd (omega arith)
told_pushed (t ∷ told) i r old new h is was more =
    more ∙ ap (λ (l : List LogRec). l ++ r ∷ []) was ∙ ap (λ (q : LogRec). map (λ x. x.rec) (take i (t ∷ told)) ++ q ∷ []) (is t) ∙ sym (told_more (t ∷ told) i t h)

-- the record at a place
told_at : (told : List Receipt) (i : ℕ) (r d : LogRec) → i < length told → ((e : Receipt) → r ≡ (slice_index_or told i e).rec) → get_or (map (λ q. q.rec) told) i d ≡ r
told_at [] i r d h is = absurd (omega arith)
told_at (t ∷ told) zero r d h is = sym (is t)
told_at (t ∷ told) (suc i) r d h is = told_at told i r d (omega arith) is

-- the first that may not follow those before it
pub first_told : (told : List Receipt) (i : ℕ) (r : LogRec) → i < length told → ((e : Receipt) → r ≡ (slice_index_or told i e).rec)
    → follows (map (λ q. q.rec) (take i told)) r ≡ false → all_follow (map (λ q. q.rec) (take i told)) ≡ true
    → IsFirstOutOfOrder (map (λ q. q.rec) told) (Some i)
first_told told i r h is broken order =
    let rs : List LogRec = map (λ q. q.rec) told in
    let within : i < length rs = (let long : length rs ≡ length told = length-map told (λ (q : Receipt). q.rec) in omega (arith, long, h)) in
    let front : take i rs ≡ map (λ q. q.rec) (take i told) = take-map (λ (q : Receipt). q.rec) i told in
    let parts : rs ≡ take i rs ++ r ∷ drop (i + 1) rs =
    sym (take-append-drop i rs) ∙ ap (λ (q : List LogRec). take i rs ++ q) (drop_more rs i r within)
    ∙ ap (λ (q : LogRec). take i rs ++ q ∷ drop (i + 1) rs) (told_at told i r r h is) in
    let breaks : follows (take i rs) r ≡ false = ap (λ (q : List LogRec). follows q r) front ∙ broken in (
      ap all_follow parts ∙ out_of_order_at (take i rs) r (drop (i + 1) rs) breaks,
      within,
      ap all_follow front ∙ order,
      λ d. ap (λ (q : LogRec). follows (take i rs) q) (told_at told i r d h is) ∙ breaks,
    )

-- one record more, of those that are left
pub told_next : (told : List Receipt) (i : ℕ) (r : LogRec) → i < length told → ((e : Receipt) → r ≡ (slice_index_or told i e).rec)
    → map (λ q. q.rec) (drop i told) ≡ r ∷ map (λ q. q.rec) (drop (i + 1) told)
told_next [] i r h is = absurd (omega arith)
told_next (t ∷ told) i r h is =
    ap (map (λ (q : Receipt). q.rec)) (drop_more (t ∷ told) i t h) ∙ ap (λ (q : LogRec). q ∷ map (λ x. x.rec) (drop (i + 1) (t ∷ told))) (sym (is t))

-- a record that is no Boot adds no number
pub no_boot : (r : LogRec) (rs : List LogRec) → ((n : ℕ) → r ≡ LogRec.Boot n → ⊥) → boots (r ∷ rs) ≡ boots rs
no_boot (LogRec.Boot n) rs other = absurd (other n refl)
no_boot (LogRec.Ready n k a cs) rs other = refl
no_boot (LogRec.Heuristic n k o) rs other = refl
no_boot (LogRec.Commit n k a cs) rs other = refl
no_boot (LogRec.Damage n k a o r cs) rs other = refl
no_boot (LogRec.End n k o) rs other = refl

-- none may not follow those before it
pub in_order : (rs : List LogRec) (o : Option ℕ) → IsFirstOutOfOrder rs o → ((i : ℕ) → o ≡ Some i → ⊥) → all_follow rs ≡ true
in_order rs None is none = is
in_order rs (Some i) is none = absurd (none i refl)
