-- What comes next in bytes, by the length at their front.
use Rattle.std.proofs.Common.{◌≡◌, ℕ, suc, ◌+◌, ◌*◌, ◌<◌, ◌≤◌, ◌^◌, Option, Some, None, List, [], ◌∷◌, ◌++◌, length, take, drop, refl, sym, ◌∙◌, ap, true, false, Bool, arith}
use Rattle.std.proofs.Common.{◌⊎◌, inl, inr, subst, get_or, length-append, length-drop}
use Rattle.std.proofs.lemmas.List.{take-append-drop, length-take-le, take_at, drop_at}
use Rattle.std.proofs.lemmas.Bool.{cases_lt}
use Rattle.std.proofs.lemmas.Bool.Decides.{nat_tests}
use Rattle.tp_names.specs.Bytes.{short_bytes}
use Rattle.tp_names.specs.Reading.{read_short, read_bytes}
use Rattle.tp_framing.specs.Frames.{Next, Part, Whole, Bad, next_in, is_frame_length, frame_bytes, IsBody, BeginsBad}
use Rattle.tp_framing.specs.Front.{HasWhole}
use Rattle.tp_names.proofs.Numbers.{short_back}
use Rattle.tp_framing.proofs.Numbers.{read_short_is, short_bytes_of, read_bytes_all, read_bytes_few}

-- what comes next where the body has this reading
abbrev pub next_by : Option (List ℕ × List ℕ) → Next
next_by None = Part
next_by (Some q) = Whole q.0 q.1

-- what comes next after a length that is a frame's, or not
abbrev pub next_at : Bool → ℕ → List ℕ → Next
next_at false n bs = Bad
next_at true n bs = next_by (read_bytes n bs)

abbrev pub next_of : Option (ℕ × List ℕ) → Next
next_of None = Part
next_of (Some p) = next_at (is_frame_length p.0) p.0 p.1

pub next_is : (bytes : List ℕ) → next_in bytes ≡ next_of (read_short bytes)
next_is bytes = read (read_short bytes)
  where
    whole : (o : Option (List ℕ × List ℕ)) → elim o as (λ _. Next) [ None ↦ Part | Some q ↦ Whole q.0 q.1 ] ≡ next_by o
    whole None = refl
    whole (Some q) = refl

    tested : (t : Bool) (n : ℕ) (bs : List ℕ) → elim t as (λ _. Next) [ false ↦ Bad | true ↦ elim (read_bytes n bs) [ None ↦ Part | Some q ↦ Whole q.0 q.1 ] ] ≡ next_at t n bs
    tested false n bs = refl
    tested true n bs = whole (read_bytes n bs)

    read : (o : Option (ℕ × List ℕ)) → elim o as (λ _. Next) [ None ↦ Part | Some p ↦ elim (is_frame_length p.0) [ false ↦ Bad | true ↦ elim (read_bytes p.0 p.1) [ None ↦ Part | Some q ↦ Whole q.0 q.1 ] ] ] ≡ next_of o
    read None = refl
    read (Some p) = tested (is_frame_length p.0) p.0 p.1

pub next_bad : (bytes : List ℕ) (n : ℕ) (bs : List ℕ) → read_short bytes ≡ Some (n, bs) → is_frame_length n ≡ false → next_in bytes ≡ Bad
next_bad bytes n bs r e = next_is bytes ∙ ap next_of r ∙ ap (λ t. next_at t n bs) e

pub next_whole : (bytes : List ℕ) (n : ℕ) (bs : List ℕ) → read_short bytes ≡ Some (n, bs) → is_frame_length n ≡ true → n ≤ length bs → next_in bytes ≡ Whole (take n bs) (drop n bs)
next_whole bytes n bs r e h = next_is bytes ∙ ap next_of r ∙ ap (λ t. next_at t n bs) e ∙ ap next_by (read_bytes_all n bs h)

pub next_part : (bytes : List ℕ) (n : ℕ) (bs : List ℕ) → read_short bytes ≡ Some (n, bs) → is_frame_length n ≡ true → length bs < n → next_in bytes ≡ Part
next_part bytes n bs r e h = next_is bytes ∙ ap next_of r ∙ ap (λ t. next_at t n bs) e ∙ ap next_by (read_bytes_few n bs h)

-- ---- two bytes and the rest, as the code reads them

pub front_bad : (high low : ℕ) (bs : List ℕ) → high < 256 → low < 256 → is_frame_length (high * 256 + low) ≡ false
    → (next_in (high ∷ low ∷ bs) ≡ Bad) × BeginsBad (high ∷ low ∷ bs)
front_bad high low bs h l e =
    let n = high * 256 + low in
    let small : n < 2 ^ 16 = omega arith in
    let is : high ∷ low ∷ bs ≡ short_bytes n ++ bs = ap (λ w. w ++ bs) (sym (short_bytes_of high low h l)) in
    (next_bad (high ∷ low ∷ bs) n bs (read_short_is high low bs) e, record { number = n; rest = bs; small = small; bad = e; is = is })

pub front_part : (high low : ℕ) (bs : List ℕ) → is_frame_length (high * 256 + low) ≡ true → length bs < high * 256 + low → next_in (high ∷ low ∷ bs) ≡ Part
front_part high low bs e h = next_part (high ∷ low ∷ bs) (high * 256 + low) bs (read_short_is high low bs) e h

pub front_whole : (high low : ℕ) (bs : List ℕ) (n : ℕ) → high < 256 → low < 256 → n ≡ high * 256 + low → is_frame_length n ≡ true → n ≤ length bs
    → HasWhole (high ∷ low ∷ bs) n
front_whole high low bs n h l is e m =
    let len : length (take n bs) ≡ n = length-take-le n bs m in
    let bytes : List ℕ = high ∷ low ∷ bs in
    let sound : IsBody (take n bs) = ap is_frame_length len ∙ e in
    let read : read_short bytes ≡ Some (n, bs) = read_short_is high low bs ∙ ap (λ k. Some (k, bs)) (sym is) in
    let front : short_bytes (length (take n bs)) ≡ high ∷ low ∷ [] = ap short_bytes (len ∙ is) ∙ short_bytes_of high low h l in
    let spelled : bytes ≡ frame_bytes (take n bs) ++ drop n bs =
    sym (ap (λ w. w ++ take n bs ++ drop n bs) front ∙ ap (λ w. high ∷ low ∷ w) (take-append-drop n bs)) in
    let more : drop (2 + n) bytes ≡ drop n bs = let two : 2 + n ≡ suc (suc n) = omega arith in ap (λ k. drop k bytes) two in
    record {
      within = omega arith;
      body = sound;
      next = next_whole bytes n bs read e m ∙ ap (λ w. Whole (take n bs) w) (sym more);
      is = spelled ∙ ap (λ w. frame_bytes (take n bs) ++ w) (sym more);
    }

-- ---- the other way: frames and bad lengths, whatever follows

pub frame_length_most : (n : ℕ) → is_frame_length n ≡ true → n ≤ 2048
frame_length_most n e = grind (arith, nat_tests)

pub next_frame : (body rest : List ℕ) → IsBody body → next_in (frame_bytes body ++ rest) ≡ Whole body rest
next_frame body rest sound =
    let n = length body in
    let most : n ≤ 2048 = frame_length_most n sound in
    let small : n < 2 ^ 16 = omega arith in
    let fits : n ≤ length (body ++ rest) = omega (arith, length-append body rest) in
    next_whole (frame_bytes body ++ rest) n (body ++ rest) (short_back n (body ++ rest) small) sound fits
    ∙ ap (λ w. Whole w (drop n (body ++ rest))) (take_at body rest n refl)
    ∙ ap (λ w. Whole body w) (drop_at body rest n refl)

pub next_begins_bad : (bytes : List ℕ) → BeginsBad bytes → next_in bytes ≡ Bad
next_begins_bad bytes b = next_bad bytes b.number b.rest (ap read_short b.is ∙ short_back b.number b.rest b.small) b.bad

-- ---- what follows from what comes next

-- a length was read
pub record Lengthy (bytes : List ℕ) : Type 0 where
  pub number : ℕ
  pub rest : List ℕ
  pub read : read_short bytes ≡ Some (number, rest)
  pub shorter : length rest < length bytes

pub lengthy : (bytes : List ℕ) → (read_short bytes ≡ None) ⊎ Lengthy bytes
lengthy [] = inl refl
lengthy (b ∷ []) = inl refl
lengthy (b ∷ d ∷ bs) = inr (record { number = b * 256 + d; rest = bs; read = read_short_is b d bs; shorter = omega arith })

-- a frame that comes next leaves less
pub next_shorter : (bytes body rest : List ℕ) → next_in bytes ≡ Whole body rest → length rest < length bytes
next_shorter bytes body rest e = elim (lengthy bytes) [
  | inl none ↦ absurd (let clash : Part ≡ Whole body rest = sym (next_is bytes ∙ ap next_of none) ∙ e in cc)
  | inr l ↦ tested l (is_frame_length l.number) refl
]
  where
    counted : (l : Lengthy bytes) → is_frame_length l.number ≡ true → (length l.rest < l.number) ⊎ (l.number ≤ length l.rest) → length rest < length bytes
    counted l t (inr fits) =
        let same : Whole (take l.number l.rest) (drop l.number l.rest) ≡ Whole body rest = sym (next_whole bytes l.number l.rest l.read t fits) ∙ e in
        let is : drop l.number l.rest ≡ rest = cc in
        omega (arith, ap length is, length-drop l.number l.rest, l.shorter)
    counted l t (inl few) = absurd (let clash : Part ≡ Whole body rest = sym (next_part bytes l.number l.rest l.read t few) ∙ e in cc)

    tested : (l : Lengthy bytes) (t : Bool) → is_frame_length l.number ≡ t → length rest < length bytes
    tested l true t = counted l t (cases_lt (length l.rest) l.number)
    tested l false t = absurd (let clash : Bad ≡ Whole body rest = sym (next_bad bytes l.number l.rest l.read t) ∙ e in cc)

pub read_short_more : (bytes more : List ℕ) (n : ℕ) (rest : List ℕ) → read_short bytes ≡ Some (n, rest) → read_short (bytes ++ more) ≡ Some (n, rest ++ more)
read_short_more [] more n rest e = absurd (cc)
read_short_more (b ∷ []) more n rest e = absurd (cc)
read_short_more (b ∷ d ∷ bs) more n rest e =
    let same : Some (b * 256 + d, bs) ≡ Some (n, rest) = sym (read_short_is b d bs) ∙ e in
    let pair : (b * 256 + d, bs) ≡ (n, rest) = some_same same in
    read_short_is b d (bs ++ more) ∙ ap (λ p. Some (p.0, p.1 ++ more)) pair
  where
    some_same : {A : Type 0} {x y : A} → Some x ≡ Some y → x ≡ y
    some_same e = cc

-- a bad length stays bad, whatever is fed
pub next_bad_more : (bytes more : List ℕ) → next_in bytes ≡ Bad → next_in (bytes ++ more) ≡ Bad
next_bad_more bytes more e = elim (lengthy bytes) [
  | inl none ↦ absurd (let clash : Part ≡ Bad = sym (next_is bytes ∙ ap next_of none) ∙ e in cc)
  | inr l ↦ tested l (is_frame_length l.number) refl
]
  where
    counted : (l : Lengthy bytes) → is_frame_length l.number ≡ true → (length l.rest < l.number) ⊎ (l.number ≤ length l.rest) → next_in (bytes ++ more) ≡ Bad
    counted l t (inr fits) = absurd (let clash : Whole (take l.number l.rest) (drop l.number l.rest) ≡ Bad = sym (next_whole bytes l.number l.rest l.read t fits) ∙ e in cc)
    counted l t (inl few) = absurd (let clash : Part ≡ Bad = sym (next_part bytes l.number l.rest l.read t few) ∙ e in cc)

    tested : (l : Lengthy bytes) (t : Bool) → is_frame_length l.number ≡ t → next_in (bytes ++ more) ≡ Bad
    tested l true t = counted l t (cases_lt (length l.rest) l.number)
    tested l false t = next_bad (bytes ++ more) l.number (l.rest ++ more) (read_short_more bytes more l.number l.rest l.read) t

-- ---- bytes as the code holds them

pub front_of : (bytes : List ℕ) → 2 ≤ length bytes → get_or bytes 0 0 ∷ get_or bytes 1 0 ∷ drop 2 bytes ≡ bytes
front_of [] h = absurd (omega arith)
front_of (b ∷ []) h = absurd (omega arith)
front_of (b ∷ d ∷ bs) h = refl

pub length_is_bad : (n : ℕ) → (n ≡ 0) ⊎ ((n ≡ 0 → ⊥) × (2048 < n)) → is_frame_length n ≡ false
length_is_bad n h = grind (arith, nat_tests)

pub length_is_good : (n : ℕ) → (n ≡ 0 → ⊥) → n ≤ 2048 → is_frame_length n ≡ true
length_is_good n g h = grind (arith, nat_tests)

pub bytes_bad : (bytes : List ℕ) (n : ℕ) → ((i : ℕ) → get_or bytes i 0 < 256) → 2 ≤ length bytes → n ≡ get_or bytes 0 0 * 256 + get_or bytes 1 0 → is_frame_length n ≡ false
    → (next_in bytes ≡ Bad) × BeginsBad bytes
bytes_bad bytes n small two is bad =
    subst (λ (w : List ℕ). (next_in w ≡ Bad) × BeginsBad w) (front_of bytes two)
    (front_bad (get_or bytes 0 0) (get_or bytes 1 0) (drop 2 bytes) (small 0) (small 1) (sym (ap is_frame_length is) ∙ bad))

pub bytes_part : (bytes : List ℕ) (n : ℕ) → 2 ≤ length bytes → n ≡ get_or bytes 0 0 * 256 + get_or bytes 1 0 → is_frame_length n ≡ true → length (drop 2 bytes) < n → next_in bytes ≡ Part
bytes_part bytes n two is good few =
    subst (λ (w : List ℕ). next_in w ≡ Part) (front_of bytes two)
    (front_part (get_or bytes 0 0) (get_or bytes 1 0) (drop 2 bytes) (sym (ap is_frame_length is) ∙ good) (omega arith))

pub bytes_whole : (bytes : List ℕ) (n : ℕ) → ((i : ℕ) → get_or bytes i 0 < 256) → 2 ≤ length bytes → n ≡ get_or bytes 0 0 * 256 + get_or bytes 1 0 → is_frame_length n ≡ true → n ≤ length (drop 2 bytes)
    → HasWhole bytes n
bytes_whole bytes n small two is good fits =
    subst (λ (w : List ℕ). HasWhole w n) (front_of bytes two)
    (front_whole (get_or bytes 0 0) (get_or bytes 1 0) (drop 2 bytes) n (small 0) (small 1) is good fits)
