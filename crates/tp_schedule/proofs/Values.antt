-- Numerals, octets and units as the readers meet them, against the definitions.
use Rattle.std.proofs.Common.{◌≡◌, ◌≢◌, ℕ, ◌+◌, ◌-◌, ◌*◌, ◌%◌, ◌<◌, ◌≤◌, ◌==◌, Bool, true, false, Option, Some, None, Result, Ok, Err, List, [], ◌∷◌, length, get_or, take, drop, refl, ap, sym, ◌∙◌, arith, add-one, min}
use Rattle.std.proofs.Math.Seq.{drop-cons}
use Rattle.std.proofs.lemmas.Bool.Decides.{nat_tests}
use Rattle.std.proofs.lemmas.List.{ext_get_or}
use Rattle.std.specs.Prelude.{◌&&◌, ◌||◌, nat_le, if◌then◌else◌, replicate, slice_index}
use Rattle.hex.specs.Hex.{hex_digit_value, digit_or_error, decode_pairs, decode_of, ◌>>=◌}
use Rattle.hex.specs.declared.error.FromHexError.{FromHexError}
use Rattle.hex.specs.declared.error.FromHexError.TheVariants.{OddLength}
use Rattle.tp_names.specs.Same.{is_name}
use Rattle.tp_names.proofs.Sames.{name_same, name_self}
use Rattle.tp_model.specs.LineReading.{Form, Wrong, Outside, Well, is_digit, value_from, hex_value, pair_value, octet_before, hex_octets, one_octet, fill, form_of, run_octets, number_in, with, both, units_from}
use Rattle.tp_schedule.specs.Answers.{read_as, Reads, pair, capped, has_capital, few_of, hex_fault}
use Rattle.tp_schedule.specs.declared.line_fault.LineFault.{LineFault}

-- ---- numerals

value_more : (v d : ℕ) (ds : List ℕ) → is_digit d ≡ true → value_from v (d ∷ ds) ≡ value_from (v * 10 + (d - 48)) ds
value_more v d ds digit = grind arith

-- above the cap one value is as another
large_same : (ds : List ℕ) (m n : ℕ) → 65536 ≤ m → 65536 ≤ n → capped (value_from m ds) ≡ capped (value_from n ds)
large_same [] m n a b = grind (arith, nat_tests)
large_same (d ∷ ds) m n a b = grind (arith, nat_tests, large_same ds (m * 10 + (d - 48)) (n * 10 + (d - 48)))

cap_same : (ds : List ℕ) (m : ℕ) → capped (value_from (min m 65536) ds) ≡ capped (value_from m ds)
cap_same ds m = go (nat_le m 65536) refl
  where
    go : (t : Bool) → nat_le m 65536 ≡ t → capped (value_from (min m 65536) ds) ≡ capped (value_from m ds)
    go true is = let e : min m 65536 ≡ m = grind (arith, nat_tests) in ap (λ (n : ℕ). capped (value_from n ds)) e
    go false is = let more : 65536 ≤ m = grind (arith, nat_tests) in large_same ds (min m 65536) m (omega arith) more

pub value_step : (ds : List ℕ) (i v : ℕ) → i < length ds → is_digit (get_or ds i 0) ≡ true
    → capped (value_from (min (v * 10 + (get_or ds i 0 - 48)) 65536) (drop (i + 1) ds)) ≡ capped (value_from v (drop i ds))
value_step ds i v within digit =
    let cut : drop i ds ≡ get_or ds i 0 ∷ drop (i + 1) ds = rw add-one (drop-cons ds i 0 within) in
    cap_same (drop (i + 1) ds) (v * 10 + (get_or ds i 0 - 48))
    ∙ sym (ap capped (value_more v (get_or ds i 0) (drop (i + 1) ds) digit))
    ∙ sym (ap (λ (t : List ℕ). capped (value_from v t)) cut)

-- ---- octets

same_digit : (b : ℕ) → (nat_le 65 b && nat_le b 70) ≡ false → hex_value b ≡ hex_digit_value b
same_digit b small = grind (arith, nat_tests)

abbrev pub ok_of : Result (List ℕ) FromHexError → Option (List ℕ)
ok_of (Ok xs) = Some xs
ok_of (Err e) = None

no_octet : (o : Option ℕ) → octet_before o None ≡ None
no_octet None = refl
no_octet (Some x) = refl

joined : (h l i : ℕ) (ho lo : Option ℕ) (k : Result (List ℕ) FromHexError)
    → octet_before (pair_value ho lo) (ok_of k)
    ≡ ok_of ((digit_or_error h i ho >>= (λ a. digit_or_error l (i + 1) lo >>= (λ b. Ok (a * 16 + b)))) >>= (λ byte. k >>= (λ bytes. Ok (byte ∷ bytes))))
joined h l i None lo k = refl
joined h l i (Some a) None k = refl
joined h l i (Some a) (Some b) (Ok xs) = refl
joined h l i (Some a) (Some b) (Err e) = refl

no_capital_here : (b : ℕ) (bs : List ℕ) → has_capital (b ∷ bs) ≡ false → ((nat_le 65 b && nat_le b 70) ≡ false) × (has_capital bs ≡ false)
no_capital_here b bs none = go (nat_le 65 b && nat_le b 70) refl
  where
    go : (t : Bool) → (nat_le 65 b && nat_le b 70) ≡ t → ((nat_le 65 b && nat_le b 70) ≡ false) × (has_capital bs ≡ false)
    go true is = absurd cc
    go false is = (is, sym (ap (λ (t : Bool). t || has_capital bs) is) ∙ none)

pub pairs_same : (i : ℕ) (s : List ℕ) → has_capital s ≡ false → hex_octets s ≡ ok_of (decode_pairs i s)
unfolding decode_pairs
pairs_same i [] none = refl
pairs_same i (h ∷ []) none = refl
pairs_same i (h ∷ l ∷ s) none =
    let one = no_capital_here h (l ∷ s) none in
    let two = no_capital_here l s one.1 in
    let rest : hex_octets s ≡ ok_of (decode_pairs (i + 2) s) = pairs_same (i + 2) s two.1 in
    ap (λ (o : Option ℕ). octet_before (pair_value o (hex_value l)) (hex_octets s)) (same_digit h one.0)
    ∙ ap (λ (o : Option ℕ). octet_before (pair_value (hex_digit_value h) o) (hex_octets s)) (same_digit l two.0)
    ∙ ap (λ (o : Option (List ℕ)). octet_before (pair_value (hex_digit_value h) (hex_digit_value l)) o) rest
    ∙ joined h l i (hex_digit_value h) (hex_digit_value l) (decode_pairs (i + 2) s)

odd_none : (s : List ℕ) → length s % 2 ≡ 1 → hex_octets s ≡ None
odd_none [] odd = absurd (omega arith)
odd_none (h ∷ []) odd = refl
odd_none (h ∷ l ∷ s) odd =
    ap (λ (o : Option (List ℕ)). octet_before (pair_value (hex_value h) (hex_value l)) o) (odd_none s (omega arith))
    ∙ no_octet (pair_value (hex_value h) (hex_value l))

capital_pair : (h l : ℕ) (s : List ℕ) → has_capital (h ∷ l ∷ s) ≡ true → has_capital s ≡ false → ((nat_le 65 h && nat_le h 70) || (nat_le 65 l && nat_le l 70)) ≡ true
capital_pair h l s some rest = grind (arith, nat_tests)

no_pair : (h l : ℕ) → ((nat_le 65 h && nat_le h 70) || (nat_le 65 l && nat_le l 70)) ≡ true → pair_value (hex_value h) (hex_value l) ≡ None
no_pair h l some = grind (arith, nat_tests)

pub capital_none : (s : List ℕ) → has_capital s ≡ true → hex_octets s ≡ None
capital_none [] some = absurd cc
capital_none (h ∷ []) some = refl
capital_none (h ∷ l ∷ s) some = go (has_capital s) refl (λ is. capital_none s is)
  where
    go : (t : Bool) → has_capital s ≡ t → (has_capital s ≡ true → hex_octets s ≡ None) → hex_octets (h ∷ l ∷ s) ≡ None
    go true is behind = ap (λ (o : Option (List ℕ)). octet_before (pair_value (hex_value h) (hex_value l)) o) (behind is) ∙ no_octet (pair_value (hex_value h) (hex_value l))
    go false is behind = ap (λ (o : Option ℕ). octet_before o (hex_octets s)) (no_pair h l (capital_pair h l s some is))

decode_is : (t : Bool) (s : List ℕ) → (length s % 2 == 1) ≡ t → has_capital s ≡ false → hex_octets s ≡ ok_of (if t then Err OddLength else decode_pairs 0 s)
decode_is true s is none = odd_none s (grind (arith, nat_tests))
decode_is false s is none = pairs_same 0 s none

-- what the kit decodes, where it takes no letter for a digit that is none here
pub decode_same : (s : List ℕ) → has_capital s ≡ false → hex_octets s ≡ ok_of (decode_of s)
decode_same s none = decode_is (length s % 2 == 1) s refl none

pub hex_refused : (e : FromHexError) → Reads {A = List ℕ} Wrong (Err (hex_fault e))
hex_refused FromHexError.OutOfMemory = refl
hex_refused FromHexError.OddLength = refl
hex_refused FromHexError.InvalidStringLength = refl
hex_refused (FromHexError.InvalidHexCharacter c i) = refl

pub few_ok : (o : Option (List ℕ)) (xs : List ℕ) → Ok xs ≡ read_as (form_of o) → length xs ≤ 2000 → Ok xs ≡ read_as (few_of o)
few_ok None xs is small = absurd cc
few_ok (Some ys) xs is small = let same : xs ≡ ys = cc in rw (← same) (grind (arith, nat_tests))

pub few_long : (o : Option (List ℕ)) (xs : List ℕ) → Ok xs ≡ read_as (form_of o) → 2000 < length xs → Err LineFault.Word ≡ read_as (few_of o)
few_long None xs is large = absurd cc
few_long (Some ys) xs is large = let same : xs ≡ ys = cc in rw (← same) (grind (arith, nat_tests))

pub few_refused : (o : Option (List ℕ)) (e : LineFault) (r : Result (List ℕ) LineFault) → Reads (form_of o) (Err e) → r ≡ Err e → Reads (few_of o) r
few_refused None e r reads is = rw is reads
few_refused (Some xs) LineFault.NoMemory r reads is = rw is refl
few_refused (Some xs) LineFault.Long r reads is = absurd cc
few_refused (Some xs) LineFault.Word r reads is = absurd cc
few_refused (Some xs) LineFault.Number r reads is = absurd cc

-- ---- one octet

abbrev is_long : Option (List ℕ) → Bool
is_long None = true
is_long (Some []) = false
is_long (Some (x ∷ xs)) = true

two_long : (o : Option ℕ) (xs : Option (List ℕ)) → is_long (octet_before o xs) ≡ true
two_long None xs = refl
two_long (Some x) None = refl
two_long (Some x) (Some xs) = refl

one_alone : (o : Option ℕ) (xs : Option (List ℕ)) → is_long xs ≡ true → elim (octet_before o xs) as (λ _. Form ℕ) [ None ↦ Wrong | Some ys ↦ one_octet ys ] ≡ Wrong
one_alone None xs long = refl
one_alone (Some x) None long = refl
one_alone (Some x) (Some []) long = absurd cc
one_alone (Some x) (Some (y ∷ ys)) long = refl

pub fill_alone : (s : List ℕ) → length s ≢ 2 → fill s ≡ Wrong
fill_alone [] other = refl
fill_alone (h ∷ []) other = refl
fill_alone (h ∷ l ∷ []) other = absurd (other refl)
fill_alone (h ∷ l ∷ c ∷ []) other = one_alone (pair_value (hex_value h) (hex_value l)) None refl
fill_alone (h ∷ l ∷ c ∷ d ∷ s) other =
    one_alone (pair_value (hex_value h) (hex_value l)) (hex_octets (c ∷ d ∷ s)) (two_long (pair_value (hex_value c) (hex_value d)) (hex_octets s))

-- ---- units

pub no_units : (us : List (ℕ × ℕ)) (w : List ℕ) → length w < 1 → units_from us w ≡ Some 0
no_units [] [] none = refl
no_units (u ∷ us) [] none = refl
no_units us (b ∷ bs) none = absurd (omega arith)

-- ---- XX*COUNT

run_of : (o : Option ℕ) (y : Form ℕ)
    → both (λ (xs : List ℕ) n. replicate n (slice_index xs 0)) (form_of (octet_before o (Some []))) y
    ≡ with (λ (p : ℕ × ℕ). replicate p.1 p.0) (both pair (elim (octet_before o (Some [])) as (λ _. Form ℕ) [ None ↦ Wrong | Some xs ↦ one_octet xs ]) y)
run_of None y = refl
run_of (Some x) Wrong = refl
run_of (Some x) Outside = refl
run_of (Some x) (Well n) = refl

pub run_form : (w t : List ℕ) → 3 ≤ length w → t ≡ drop 3 w
    → run_octets w ≡ with (λ (p : ℕ × ℕ). replicate p.1 p.0) (both pair (fill (take 2 w)) (number_in 1 2000 t))
run_form [] t long is = absurd (omega arith)
run_form (h ∷ []) t long is = absurd (omega arith)
run_form (h ∷ l ∷ []) t long is = absurd (omega arith)
run_form (h ∷ l ∷ s ∷ w) t long is = rw is (run_of (pair_value (hex_value h) (hex_value l)) (number_in 1 2000 w))

-- ---- words

other_name : (xs ys : List ℕ) → (xs ≡ ys → ⊥) → is_name xs ys ≡ false
other_name xs ys other = go (is_name xs ys) refl
  where
    go : (b : Bool) → is_name xs ys ≡ b → b ≡ false
    go true is = absurd (other (name_same xs ys is))
    go false is = refl

pub other_length : (xs ys : List ℕ) → length xs ≢ length ys → is_name xs ys ≡ false
other_length xs ys differ = other_name xs ys (λ same. differ (ap length same))

pub other_at : (xs ys : List ℕ) (i : ℕ) → slice_index xs i ≢ slice_index ys i → is_name xs ys ≡ false
other_at xs ys i differ = other_name xs ys (λ same. differ (ap (λ (zs : List ℕ). slice_index zs i) same))

pub all_same : (xs ys : List ℕ) → length xs ≡ length ys → ((k : ℕ) → k < length xs → slice_index xs k ≡ slice_index ys k) → is_name xs ys ≡ true
all_same xs ys long each = rw (ext_get_or 0 xs ys long (λ k below. each k below)) (name_self ys)
