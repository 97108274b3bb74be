-- What came after the records that stood.
use Rattle.std.proofs.Common.{◌≡◌, ◌≤◌, ◌<◌, ◌+◌, ℕ, zero, suc, List, [], ◌∷◌, ◌++◌, map, length, drop, refl, sym, ap, subst, ◌∙◌, arith, append-nil, Result, Ok, Err, IfOk, OnErr}
use Rattle.std.specs.List.{sum_by}
use Rattle.std.proofs.lemmas.List.Sums.{sum_by-cons}
use Rattle.tp_journal.specs.declared.receipts.Receipt.{Receipt}
use Rattle.tp_journal.specs.declared.faults.ForceFault.{ForceFault}
use Rattle.tp_journal.specs.Gathering.{Gathered}
use Rattle.tp_model.specs.Lanes.{IsInterleaving}
use Rattle.tp_turns.specs.declared.knows.Claim.{Claim}
use Rattle.tp_turns.specs.Turns.{counted, lists_of}
use Rattle.tp_shared_log.specs.Locks.{told_by, added}
use Rattle.tp_shared_log.specs.Shares.{Noted}

pub drop_push : (n : ℕ) (xs : List Receipt) (r : Receipt) → n ≤ length xs → drop n (xs ++ r ∷ []) ≡ drop n xs ++ r ∷ []
drop_push zero xs r h = refl
drop_push (suc n) [] r h = absurd (omega (arith, h))
drop_push (suc n) (x ∷ xs) r h = drop_push n xs r (omega (arith, h))

pub drop_whole : (xs : List Receipt) → drop (length xs) xs ≡ []
drop_whole [] = refl
drop_whole (x ∷ xs) = drop_whole xs

pub length-behind : (n k : ℕ) (xs : List Receipt) → length xs ≡ n + k → length (drop n xs) ≡ k
length-behind zero k xs h = omega (arith, h)
length-behind (suc n) k [] h = absurd (omega (arith, h))
length-behind (suc n) k (x ∷ xs) h = length-behind n k xs (omega (arith, h))

pub counted_noted : (ns : List Noted) → counted (map (λ n. n.receipts) ns) ≡ sum_by (λ n. length n.receipts) ns
counted_noted [] = refl
counted_noted (n ∷ ns) = omega (arith, counted_noted ns, sum_by-cons (λ (m : Noted). length m.receipts) n ns)

-- ---- what an answer adds

abbrev Answer : Type 0
Answer = Result Receipt ForceFault

module _ {D : Type 0} (stood : List Receipt) (x y : Gathered D) where
  -- what is new, if anything is
  pub more_after : (res : Answer) → length stood ≤ length (told_by x) → IfOk res (λ r. told_by y ≡ told_by x ++ r ∷ []) → OnErr res (told_by y ≡ told_by x)
      → (more : List Receipt) × (added stood y ≡ added stood x ++ more) × IfOk res (λ r. more ≡ r ∷ []) × OnErr res (more ≡ [])
  more_after (Ok r) h ok err = (r ∷ [], ap (drop (length stood)) ok ∙ drop_push (length stood) (told_by x) r h, refl, tt)
  more_after (Err e) h ok err = ([], ap (drop (length stood)) err ∙ sym (append-nil (added stood x)), tt, refl)

pub if_ok : (res : Answer) {P Q : Receipt → Type 0} → ((r : Receipt) → P r → Q r) → IfOk res P → IfOk res Q
if_ok (Ok r) f h = f r h
if_ok (Err e) f h = tt

pub on_err : (res : Answer) {P Q : Type 0} → (P → Q) → OnErr res P → OnErr res Q
on_err (Ok r) f h = tt
on_err (Err e) f h = f h

pub drop_front : (xs ys : List Receipt) → drop (length xs) (xs ++ ys) ≡ ys
drop_front [] ys = refl
drop_front (x ∷ xs) ys = drop_front xs ys

pub lists_both : (xs ys : List (Claim Receipt)) → lists_of (xs ++ ys) ≡ lists_of xs ++ lists_of ys
lists_both [] ys = refl
lists_both (x ∷ xs) ys = ap (λ l. x.list ∷ l) (lists_both xs ys)

-- a list with no items can go
pub without_none : (xs : List Receipt) (ls : List (List Receipt)) → IsInterleaving xs ([] ∷ ls) → IsInterleaving xs ls
without_none [] ls h = h
without_none (x ∷ xs) ls ([], own, behind, is, rest) = absurd (cc is)
without_none (x ∷ xs) ls (b ∷ before, own, behind, is, rest) =
    let none : b ≡ [] = cc is in
    let same : ls ≡ before ++ (x ∷ own) ∷ behind = cc is in
    (before, own, behind, same, without_none xs (before ++ own ∷ behind) (subst (λ (l : List Receipt). IsInterleaving xs (l ∷ (before ++ own ∷ behind))) none rest))
