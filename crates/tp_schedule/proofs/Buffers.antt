-- Bytes at hand in a buffer: passed over, moved to its front, and with others after them.
use Rattle.std.proofs.Common.{◌≡◌, ℕ, zero, suc, ◌+◌, ◌-◌, ◌<◌, ◌≤◌, Option, Some, None, List, [], ◌∷◌, ◌++◌, length, get_or, take, drop, ap, sym, ◌∙◌, arith, length-append, length-drop, length-take-le, append_assoc}
use Rattle.std.proofs.Math.Seq.{take-append_seam, take-append-add, drop-nil}
use Rattle.std.proofs.lemmas.List.{take_all, take-append-le, drop-take, take-append-drop, ext_get_or, get_or-drop, get_or-take}
use Rattle.tp_outside.specs.Source.{ReadsSome}
use Rattle.tp_schedule.specs.AtHand.{together, Gains}

pub drop_twice : (xs : List ℕ) (m n : ℕ) → drop n (drop m xs) ≡ drop (m + n) xs
drop_twice xs zero n = ap (λ (k : ℕ). drop k xs) (omega arith)
drop_twice [] (suc m) n = drop-nil n ∙ sym (drop-nil (suc m + n))
drop_twice (x ∷ xs) (suc m) n =
    let more : suc (m + n) ≡ suc m + n = omega arith in
    drop_twice xs m n ∙ ap (λ (k : ℕ). drop k (x ∷ xs)) more

pub at_most : (n : ℕ) (xs : List ℕ) → length (take n xs) ≤ n
at_most zero xs = omega arith
at_most (suc n) [] = omega arith
at_most (suc n) (x ∷ xs) = omega (arith, at_most n xs)

pub passed_over : (xs : List ℕ) (from end n : ℕ) → from + n ≤ end → take (end - (from + n)) (drop (from + n) xs) ≡ drop n (take (end - from) (drop from xs))
passed_over xs from end n within =
    let size : n + (end - (from + n)) ≡ end - from = omega arith in
    ap (λ (t : List ℕ). take (end - (from + n)) t) (sym (drop_twice xs from n))
    ∙ sym (drop-take n (end - (from + n)) (drop from xs))
    ∙ ap (λ (k : ℕ). drop n (take k (drop from xs))) size

pub moved : (xs ys : List ℕ) (from n : ℕ) → from + n ≤ length xs → length ys ≡ length xs → ((k : ℕ) → k < n → get_or ys k 0 ≡ get_or xs (from + k) 0)
    → take n ys ≡ take n (drop from xs)
moved xs ys from n within same each =
    let left : length (take n ys) ≡ n = length-take-le n ys (omega arith) in
    let right : length (take n (drop from xs)) ≡ n = length-take-le n (drop from xs) (omega (arith, length-drop from xs)) in
    ext_get_or 0 (take n ys) (take n (drop from xs)) (omega arith)
    (λ i below.
    let under : i < n = omega arith in
    get_or-take n ys i 0 under ∙ each i under ∙ sym (get_or-drop from xs i 0) ∙ sym (get_or-take n (drop from xs) i 0 under))

-- ---- bytes from a source

pub as_one : (held rest all : List ℕ) → Some (held ++ rest) ≡ Some all → held ++ rest ≡ all
as_one held rest all is = cc

-- bytes after those at hand, and as many fewer left
pub gained : (held new : List ℕ) (left rest : Option (List ℕ)) (buf : List ℕ) (n room : ℕ)
    → new ≡ held ++ take n buf → n ≤ length buf → 0 < room → ReadsSome left rest room buf n → Gains held new left rest n
gained held new None rest buf n room is fits some reads =
    record {
      before = ap (λ (t : List ℕ). take (length held) t) is ∙ take-append_seam held (take n buf);
      count = ap length is ∙ length-append held (take n buf) ∙ ap (λ (k : ℕ). length held + k) (length-take-le n buf fits);
      same = ap (λ (o : Option (List ℕ)). together new o) reads;
      at_end = λ none. rw reads tt;
    }
gained held new (Some left) rest buf n room is fits some reads =
    record {
      before = ap (λ (t : List ℕ). take (length held) t) is ∙ take-append_seam held (take n buf);
      count = ap length is ∙ length-append held (take n buf) ∙ ap (λ (k : ℕ). length held + k) (length-take-le n buf fits);
      same =
          ap (λ (o : Option (List ℕ)). together new o) reads.rest
          ∙ ap (λ (t : List ℕ). Some (t ++ drop n left)) (is ∙ ap (λ (t : List ℕ). held ++ t) reads.bytes)
          ∙ ap (λ (t : List ℕ). Some t) (append_assoc held (take n left) (drop n left) ∙ ap (λ (t : List ℕ). held ++ t) (take-append-drop n left));
      at_end = λ none. rw reads.rest (ap (λ (t : List ℕ). drop n t) (reads.at_end none some) ∙ drop-nil n);
    }

-- where no byte came, the bytes at hand are the same
pub none_gained : (held new : List ℕ) (n : ℕ) → take (length held) new ≡ held → length new ≡ length held + n → n ≡ 0 → new ≡ held
none_gained held new n before count none = sym (take_all (length held) new (omega arith)) ∙ before

-- what stands in a buffer after those at its front
pub behind_those : (held old now more post : List ℕ) (from w n k : ℕ) → take w now ≡ take w (drop from old) → take w (drop from old) ≡ held → w ≤ length now → n ≤ length more → k ≡ w + n
    → take k (drop 0 (take w now ++ (more ++ post))) ≡ held ++ take n more
behind_those held old now more post from w n k moved is within fits size =
    let front : length (take w now) ≡ w = length-take-le w now within in
    ap (λ (j : ℕ). take j (take w now ++ (more ++ post))) (size ∙ ap (λ (j : ℕ). j + n) (sym front))
    ∙ take-append-add (take w now) (more ++ post) n
    ∙ ap (λ (t : List ℕ). take w now ++ t) (take-append-le n more post fits)
    ∙ ap (λ (t : List ℕ). t ++ take n more) (moved ∙ is)
