-- Words, numbers and octets that were written read back.
use Rattle.std.proofs.Common.{subst, ◌≡◌, ℕ, ◌+◌, ◌-◌, ◌*◌, ◌/◌, ◌%◌, ◌^◌, ◌<◌, ◌≤◌, ◌==◌, Bool, true, false, Option, Some, None, List, [], ◌∷◌, ◌++◌, length, get_or, refl, ap, ◌∙◌, arith, codes, eqb-true}
use Rattle.std.specs.Prelude.{◌&&◌, not, ◌||◌, nat_le, slice_index}
use Rattle.tp_names.specs.Same.{is_name}
use Rattle.tp_schedule.specs.HasText.{is_byte}
use Rattle.std.proofs.lemmas.Bool.Decides.{nat_tests}
use Rattle.std.proofs.lemmas.Bool.{agree_below_at}
use Rattle.std.proofs.lemmas.Fmt.{decimal_by_steps, decimal_nonempty, length-decimal-le, first_decimal}
use Rattle.tp_names.specs.Bytes.{all_bytes, is_site_byte, is_site_name}
use Rattle.tp_model.specs.Words.{decimal, hex, hex_digit, octets_word, units_word, words}
use Rattle.tp_model.specs.LineReading.{Form, Wrong, Outside, Well, pieces, onto_first, not_empty, words_in, is_digit, value_from, numeral, within, number_in, hex_value, pair_value, octet_before, hex_octets, octets, units, site, few, run_octets, fill, one_octet}
use Rattle.tp_text_builder.proofs.Decimals.{decimal_same}

-- ---- words

abbrev pub no_space : List ℕ → Bool
no_space [] = true
no_space (b ∷ bs) = not (b == 32) && no_space bs

abbrev pub is_plain : List ℕ → Bool
is_plain [] = false
is_plain (b ∷ bs) = no_space (b ∷ bs)

abbrev pub all_plain : List (List ℕ) → Bool
all_plain [] = true
all_plain (w ∷ ws) = is_plain w && all_plain ws

one_piece : (b : ℕ) (bs : List ℕ) → (b == 32) ≡ false → pieces (b ∷ bs) ≡ onto_first b (pieces bs)
one_piece b bs other = grind (arith, nat_tests)

pieces_before : (w rest : List ℕ) → no_space w ≡ true → pieces (w ++ (32 ∷ rest)) ≡ w ∷ pieces rest
pieces_before [] rest plain = refl
pieces_before (b ∷ w) rest plain =
    let other : (b == 32) ≡ false = grind (arith, nat_tests) in
    let behind : no_space w ≡ true = grind (arith, nat_tests) in
    one_piece b (w ++ (32 ∷ rest)) other ∙ ap (onto_first b) (pieces_before w rest behind)

last_piece : (w : List ℕ) → no_space w ≡ true → pieces w ≡ w ∷ []
last_piece [] plain = refl
last_piece (b ∷ w) plain =
    let other : (b == 32) ≡ false = grind (arith, nat_tests) in
    let behind : no_space w ≡ true = grind (arith, nat_tests) in
    one_piece b w other ∙ ap (onto_first b) (last_piece w behind)

pub words_back : (ws : List (List ℕ)) → all_plain ws ≡ true → words_in (words ws) ≡ ws
words_back [] plain = refl
words_back ([] ∷ ws) plain = absurd cc
words_back ((b ∷ w) ∷ []) plain =
    let here : no_space (b ∷ w) ≡ true = grind (arith, nat_tests) in
    ap not_empty (last_piece (b ∷ w) here)
words_back ((b ∷ w) ∷ v ∷ vs) plain =
    let here : no_space (b ∷ w) ≡ true = grind (arith, nat_tests) in
    let behind : all_plain (v ∷ vs) ≡ true = grind (arith, nat_tests) in
    ap not_empty (pieces_before (b ∷ w) (words (v ∷ vs)) here) ∙ ap (λ (us : List (List ℕ)). (b ∷ w) ∷ us) (words_back (v ∷ vs) behind)

-- an empty word at the end is none
pub two_then_space : (v w : List ℕ) → is_plain v ≡ true → is_plain w ≡ true → words_in (words (v ∷ w ∷ [] ∷ [])) ≡ v ∷ w ∷ []
two_then_space [] w a b = absurd cc
two_then_space (c ∷ v) [] a b = absurd cc
two_then_space (c ∷ v) (d ∷ w) a b =
    ap not_empty (pieces_before (c ∷ v) ((d ∷ w) ++ (32 ∷ [])) a ∙ ap (λ (us : List (List ℕ)). (c ∷ v) ∷ us) (pieces_before (d ∷ w) [] b))

-- ---- numbers

digits_plain : (ds : List ℕ) → all_bytes is_digit ds ≡ true → no_space ds ≡ true
digits_plain [] digits = refl
digits_plain (d ∷ ds) digits = grind (arith, nat_tests, digits_plain ds)

abbrev reads_on : Option ℕ → ℕ → Option ℕ
reads_on None d = None
reads_on (Some v) d = value_from v (d ∷ [])

value_end : (ds : List ℕ) (m d : ℕ) → value_from m (ds ++ d ∷ []) ≡ reads_on (value_from m ds) d
value_end [] m d = refl
value_end (c ∷ ds) m d = go (is_digit c) (value_end ds (m * 10 + (c - 48)) d)
  where
    go : (t : Bool) → value_from (m * 10 + (c - 48)) (ds ++ d ∷ []) ≡ reads_on (value_from (m * 10 + (c - 48)) ds) d
        → elim t as (λ _. Option ℕ) [ true ↦ value_from (m * 10 + (c - 48)) (ds ++ d ∷ []) | false ↦ None ]
        ≡ reads_on (elim t as (λ _. Option ℕ) [ true ↦ value_from (m * 10 + (c - 48)) ds | false ↦ None ]) d
    go true more = more
    go false more = refl

digits_end : (ds : List ℕ) (d : ℕ) → all_bytes is_digit ds ≡ true → is_digit d ≡ true → all_bytes is_digit (ds ++ d ∷ []) ≡ true
digits_end [] d front last = grind (arith, nat_tests)
digits_end (c ∷ ds) d front last = grind (arith, nat_tests, digits_end ds d)

pub record IsNumeral (n : ℕ) (ds : List ℕ) : Type 0 where
  pub value : value_from 0 ds ≡ Some n
  pub digits : all_bytes is_digit ds ≡ true

one_digit : (n : ℕ) → n < 10 → IsNumeral n ((48 + n) ∷ [])
one_digit n small = record { value = grind (arith, nat_tests); digits = grind (arith, nat_tests) }

more_digits : (n : ℕ) (ds : List ℕ) → 10 ≤ n → IsNumeral (n / 10) ds → IsNumeral n (ds ++ ((48 + n % 10) ∷ []))
more_digits n ds large front =
    let digit : is_digit (48 + n % 10) ≡ true = grind (arith, nat_tests) in
    let total : n / 10 * 10 + (48 + n % 10 - 48) ≡ n = omega arith in
    let last : value_from (n / 10) ((48 + n % 10) ∷ []) ≡ Some n = one_more (n / 10) (48 + n % 10) n digit total in
    record {
      value = value_end ds 0 (48 + n % 10) ∙ ap (λ (o : Option ℕ). reads_on o (48 + n % 10)) front.value ∙ last;
      digits = digits_end ds (48 + n % 10) front.digits digit;
    }
  where
    one_more : (v d k : ℕ) → is_digit d ≡ true → v * 10 + (d - 48) ≡ k → value_from v (d ∷ []) ≡ Some k
    one_more v d k digit total = grind (arith, nat_tests)

pub numeral_of : (n : ℕ) → n < 2 ^ 64 → IsNumeral n (decimal n)
numeral_of n small = subst (λ (ds : List ℕ). IsNumeral n ds) (decimal_same n small) (decimal_by_steps IsNumeral one_digit more_digits n small)

first_not_zero : (ds : List ℕ) → 0 < length ds → 48 < get_or ds 0 0 → numeral ds ≡ value_from 0 ds
first_not_zero [] some first = absurd (omega arith)
first_not_zero (b ∷ []) some first = refl
first_not_zero (b ∷ c ∷ bs) some first = grind (arith, nat_tests)

pub numeral_back : (n : ℕ) → 0 < n → n < 2 ^ 64 → numeral (decimal n) ≡ Some n
numeral_back n some small =
    first_not_zero (decimal n)
    (subst (λ (ds : List ℕ). 0 < length ds) (decimal_same n small) (decimal_nonempty n small))
    (subst (λ (ds : List ℕ). 48 < get_or ds 0 0) (decimal_same n small) (first_decimal n some small))
    ∙ (numeral_of n small).value

pub number_in_back : (least most n : ℕ) → 0 < n → least ≤ n → n ≤ most → n < 2 ^ 64 → number_in least most (decimal n) ≡ Well n
number_in_back least most n some low high small =
    ap (λ (o : Option ℕ). elim o as (λ _. Form ℕ) [ None ↦ Wrong | Some m ↦ within least most m ]) (numeral_back n some small)
    ∙ inside least most n low high
  where
    inside : (a b k : ℕ) → a ≤ k → k ≤ b → within a b k ≡ Well k
    inside a b k low high = grind (arith, nat_tests)

pub decimal_plain : (n : ℕ) → n < 2 ^ 64 → is_plain (decimal n) ≡ true
decimal_plain n small =
    go (decimal n)
    (subst (λ (ds : List ℕ). 0 < length ds) (decimal_same n small) (decimal_nonempty n small))
    (digits_plain (decimal n) (numeral_of n small).digits)
  where
    go : (ds : List ℕ) → 0 < length ds → no_space ds ≡ true → is_plain ds ≡ true
    go [] some plain = absurd (omega arith)
    go (d ∷ ds) some plain = plain

pub decimal_short : (n : ℕ) → n < 100000 → length (decimal n) ≤ 5
decimal_short n small = subst (λ (ds : List ℕ). length ds ≤ 5) (decimal_same n (omega arith)) (length-decimal-le 5 n (omega arith) small (omega arith))

-- ---- octets

abbrev reads_digit : ℕ → Bool
reads_digit d = elim (hex_value (hex_digit d)) [ None ↦ false | Some v ↦ (v == d) && not (hex_digit d == 32) && not (hex_digit d == 42) && not (hex_digit d == 45) ]

digit_reads : (d : ℕ) → d < 16 → reads_digit d ≡ true
digit_reads d small = agree_below_at reads_digit (λ _. true) 16 d refl small

pub hex_back : (xs : List ℕ) → all_bytes is_byte xs ≡ true → hex_octets (hex xs) ≡ Some xs
hex_back [] small = refl
hex_back (x ∷ xs) small =
    let here : x < 256 = grind (arith, nat_tests) in
    let behind : all_bytes is_byte xs ≡ true = grind (arith, nat_tests) in
    ap (λ (o : Option ℕ). octet_before o (hex_octets (hex xs))) (pair_back x here)
    ∙ ap (λ (o : Option (List ℕ)). octet_before (Some x) o) (hex_back xs behind)
  where
    value_back : (d : ℕ) → d < 16 → hex_value (hex_digit d) ≡ Some d
    value_back d small = let reads : reads_digit d ≡ true = digit_reads d small in grind (arith, nat_tests)

    pair_back : (b : ℕ) → b < 256 → pair_value (hex_value (hex_digit (b / 16))) (hex_value (hex_digit (b % 16))) ≡ Some b
    pair_back b small =
        let high : hex_value (hex_digit (b / 16)) ≡ Some (b / 16) = value_back (b / 16) (omega arith) in
        let low : hex_value (hex_digit (b % 16)) ≡ Some (b % 16) = value_back (b % 16) (omega arith) in
        ap (λ (o : Option ℕ). pair_value o (hex_value (hex_digit (b % 16)))) high
        ∙ ap (λ (o : Option ℕ). pair_value (Some (b / 16)) o) low
        ∙ ap (λ (k : ℕ). Some k) (omega arith)

pub hex_plain : (xs : List ℕ) → all_bytes is_byte xs ≡ true → no_space (hex xs) ≡ true
hex_plain [] small = refl
hex_plain (x ∷ xs) small =
    let here : x < 256 = grind (arith, nat_tests) in
    let behind : all_bytes is_byte xs ≡ true = grind (arith, nat_tests) in
    let rest : no_space (hex xs) ≡ true = hex_plain xs behind in
    rw (no_gap (x / 16) (omega arith), no_gap (x % 16) (omega arith)) rest
  where
    no_gap : (d : ℕ) → d < 16 → (hex_digit d == 32) ≡ false
    no_gap d small = let reads : reads_digit d ≡ true = digit_reads d small in grind (arith, nat_tests)

length_hex : (xs : List ℕ) → length (hex xs) ≡ 2 * length xs
length_hex [] = refl
length_hex (x ∷ xs) = omega (arith, length_hex xs)

pub octets_plain : (xs : List ℕ) → all_bytes is_byte xs ≡ true → is_plain (octets_word xs) ≡ true
octets_plain [] small = refl
octets_plain (x ∷ xs) small = hex_plain (x ∷ xs) small

pub octets_short : (xs : List ℕ) → length xs ≤ 2000 → length (octets_word xs) ≤ 4000
octets_short [] short = omega arith
octets_short (x ∷ xs) short = omega (arith, length_hex (x ∷ xs))

no_dash : (h : ℕ) (bs : List ℕ) → (h == 45) ≡ false → is_name (h ∷ bs) (codes "-") ≡ false
no_dash h bs other = grind (arith, nat_tests)

no_star : (h l : ℕ) (xs : List ℕ) → all_bytes is_byte xs ≡ true → (slice_index (h ∷ l ∷ hex xs) 2 == 42) ≡ false
no_star h l [] small = refl
no_star h l (x ∷ xs) small = not_star (x / 16) (omega (arith, here x xs small))
  where
    here : (b : ℕ) (bs : List ℕ) → all_bytes is_byte (b ∷ bs) ≡ true → b < 256
    here b bs small = grind (arith, nat_tests)

    not_star : (d : ℕ) → d < 16 → (hex_digit d == 42) ≡ false
    not_star d small = let reads : reads_digit d ≡ true = digit_reads d small in grind (arith, nat_tests)

pub octets_back : (xs : List ℕ) → length xs ≤ 2000 → all_bytes is_byte xs ≡ true → octets (octets_word xs) ≡ Well xs
octets_back [] short small = refl
octets_back (x ∷ xs) short small =
    let here : x < 256 = grind (arith, nat_tests) in
    let behind : all_bytes is_byte xs ≡ true = grind (arith, nat_tests) in
    let w = hex (x ∷ xs) in
    let inner = λ (o : Option (List ℕ)). elim o as (λ _. Form (List ℕ)) [ None ↦ Wrong | Some ys ↦ few ys ] in
    ap (λ (b : Bool). elim b as (λ _. Form (List ℕ)) [ true ↦ Well [] | false ↦ elim (slice_index w 2 == 42) as (λ _. Form (List ℕ)) [ true ↦ run_octets w | false ↦ inner (hex_octets w) ] ]) (no_dash (hex_digit (x / 16)) (hex_digit (x % 16) ∷ hex xs) (not_dash (x / 16) (omega arith)))
    ∙ ap (λ (b : Bool). elim b as (λ _. Form (List ℕ)) [ true ↦ run_octets w | false ↦ inner (hex_octets w) ]) (no_star (hex_digit (x / 16)) (hex_digit (x % 16)) xs behind)
    ∙ ap inner (hex_back (x ∷ xs) small)
    ∙ few_enough (x ∷ xs) short
  where
    not_dash : (d : ℕ) → d < 16 → (hex_digit d == 45) ≡ false
    not_dash d small = let reads : reads_digit d ≡ true = digit_reads d small in grind (arith, nat_tests)

    few_enough : (ys : List ℕ) → length ys ≤ 2000 → few ys ≡ Well ys
    few_enough ys short = grind (arith, nat_tests)

pub fill_back : (x : ℕ) → is_byte x ≡ true → fill (hex (x ∷ [])) ≡ Well x
fill_back x small = ap (λ (o : Option (List ℕ)). elim o as (λ _. Form ℕ) [ None ↦ Wrong | Some xs ↦ one_octet xs ]) (hex_back (x ∷ []) (one_byte x small))
  where
    one_byte : (b : ℕ) → is_byte b ≡ true → all_bytes is_byte (b ∷ []) ≡ true
    one_byte b small = grind (arith, nat_tests)

pub fill_plain : (x : ℕ) → is_byte x ≡ true → is_plain (hex (x ∷ [])) ≡ true
fill_plain x small = hex_plain (x ∷ []) (one_byte x small)
  where
    one_byte : (b : ℕ) → is_byte b ≡ true → all_bytes is_byte (b ∷ []) ≡ true
    one_byte b small = grind (arith, nat_tests)

-- ---- units and sites

abbrev says_units : ℕ → Form ℕ → Bool
says_units u Wrong = false
says_units u Outside = false
says_units u (Well v) = v == u

abbrev units_read : ℕ → Bool
units_read u = (u == 0) || (says_units u (units (units_word u)) && is_plain (units_word u) && nat_le (length (units_word u)) 6)

units_all : (u : ℕ) → u < 64 → units_read u ≡ true
units_all u small = agree_below_at units_read (λ _. true) 64 u refl small

units_well : (u : ℕ) (x : Form ℕ) → says_units u x ≡ true → x ≡ Well u
units_well u Wrong says = absurd cc
units_well u Outside says = absurd cc
units_well u (Well v) says = ap Well (eqb-true v u says)

units_parts : (u : ℕ) (a b c : Bool) → 1 ≤ u → ((u == 0) || (a && b && c)) ≡ true → (a ≡ true) × (b ≡ true) × (c ≡ true)
units_parts u true true true some all = (refl, refl, refl)
units_parts u true true false some all = absurd (grind (arith, nat_tests))
units_parts u true false c some all = absurd (grind (arith, nat_tests))
units_parts u false b c some all = absurd (grind (arith, nat_tests))

units_facts : (u : ℕ) → 1 ≤ u → u < 64
    → (says_units u (units (units_word u)) ≡ true) × (is_plain (units_word u) ≡ true) × (nat_le (length (units_word u)) 6 ≡ true)
units_facts u some small = units_parts u (says_units u (units (units_word u))) (is_plain (units_word u)) (nat_le (length (units_word u)) 6) some (units_all u small)

pub units_back : (u : ℕ) → 1 ≤ u → u < 64 → units (units_word u) ≡ Well u
units_back u some small = units_well u (units (units_word u)) (units_facts u some small).0

pub units_plain : (u : ℕ) → 1 ≤ u → u < 64 → is_plain (units_word u) ≡ true
units_plain u some small = (units_facts u some small).1

pub units_short : (u : ℕ) → 1 ≤ u → u < 64 → length (units_word u) ≤ 6
units_short u some small = short (length (units_word u)) (units_facts u some small).2
  where
    short : (n : ℕ) → nat_le n 6 ≡ true → n ≤ 6
    short n test = grind (arith, nat_tests)

site_bytes_plain : (s : List ℕ) → all_bytes is_site_byte s ≡ true → no_space s ≡ true
site_bytes_plain [] good = refl
site_bytes_plain (b ∷ s) good = grind (arith, nat_tests, site_bytes_plain s)

pub site_plain : (s : List ℕ) → is_site_name s ≡ true → is_plain s ≡ true
site_plain [] name = absurd cc
site_plain (b ∷ s) name = site_bytes_plain (b ∷ s) (bytes_of (b ∷ s) name)
  where
    bytes_of : (t : List ℕ) → is_site_name t ≡ true → all_bytes is_site_byte t ≡ true
    bytes_of t name = grind (arith, nat_tests)

pub site_short : (s : List ℕ) → is_site_name s ≡ true → length s ≤ 16
site_short s name = grind (arith, nat_tests)

pub site_back : (s : List ℕ) → is_site_name s ≡ true → site s ≡ Well s
site_back s name = ap (λ (b : Bool). elim b as (λ _. Form (List ℕ)) [ true ↦ Well s | false ↦ Wrong ]) name
