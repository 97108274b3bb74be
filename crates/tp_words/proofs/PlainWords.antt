-- What a word that does not begin with a hyphen is to clap, and the values of settings as such words.
use Rattle.std.proofs.Common.{◌≡◌, ◌∙◌, ℕ, ◌<◌, ◌≤◌, ◌^◌, ◌==◌, Bool, true, false, List, [], ◌∷◌, None, refl, ap, sym, subst, arith}
use Rattle.std.specs.Str.{bytes_eq}
use Rattle.std.specs.Str.Parse.{IsNumeral, digits_value, without_leading_plus}
use Rattle.std.specs.Fmt.{decimal}
use Rattle.std.proofs.lemmas.Fmt.{decimal_is_IsNumeral}
use Rattle.std.proofs.lemmas.Str.Parse.{digit_from_value, without_leading_plus_none}
use Rattle.std.proofs.lemmas.Bool.Decides.{nat_tests}
use Rattle.clap.specs.Lexer.{long_of, short_of}
use Rattle.clap.specs.Values.{Accepts}
use Rattle.clap.specs.declared.builder.value_parser.ValueParser.TheVariants.{Unsigned}
use Rattle.tp_names.specs.Bytes.{is_site_name}
use Rattle.tp_words.specs.CommandLine.{number_of}
use Rattle.tp_words.specs.Asked.{is_command}
use Rattle.tp_words.specs.Plain.{Setting, Name, Number, Nodes, Rounds, value_of, is_in_range}

-- the word is there and does not begin with a hyphen
pub record Begins (word : List ℕ) : Type 0 where
  pub first : ℕ
  pub rest : List ℕ
  pub is : word ≡ first ∷ rest
  pub plain : (first == 45) ≡ false

pub not_dashes : (x : ℕ) (xs : List ℕ) → (x == 45) ≡ false → bytes_eq (x ∷ xs) (45 ∷ 45 ∷ []) ≡ false
not_dashes x xs e = rw e refl

pub no_long : (x : ℕ) (xs : List ℕ) → (x == 45) ≡ false → long_of (x ∷ xs) ≡ None
no_long x xs e = rw e refl

pub no_short : (x : ℕ) (xs : List ℕ) → (x == 45) ≡ false → short_of (x ∷ xs) ≡ None
no_short x xs e = rw e refl

-- ---- words of commands

command_at : (x : ℕ) (xs : List ℕ) → x ≡ 45 → is_command (x ∷ xs) ≡ false
command_at x xs e = rw e refl

pub command_begins : (word : List ℕ) → is_command word ≡ true → Begins word
command_begins [] h = let e : false ≡ true = h in cc
command_begins (x ∷ xs) h = go (x == 45) refl
  where
    go : (b : Bool) → (x == 45) ≡ b → Begins (x ∷ xs)
    go true e = let n : is_command (x ∷ xs) ≡ false = command_at x xs (grind (arith, nat_tests)) in cc
    go false e = record { first = x; rest = xs; is = refl; plain = e }

-- ---- values

pub site_begins : (s : List ℕ) → is_site_name s ≡ true → Begins s
site_begins [] h = let e : false ≡ true = h in cc
site_begins (x ∷ xs) h = record { first = x; rest = xs; is = refl; plain = grind (arith, nat_tests) }

numeral_begins : (ds : List ℕ) → IsNumeral 10 ds → Begins ds
numeral_begins [] h = let e : 0 < 0 = h.0 in absurd (omega arith)
numeral_begins (d ∷ ds) h =
    let range = digit_from_value d h.1.0 in
    record { first = d; rest = ds; is = refl; plain = grind (arith, nat_tests) }

pub decimal_begins : (n : ℕ) → n < 2 ^ 64 → Begins (decimal n)
decimal_begins n small = numeral_begins (decimal n) (decimal_is_IsNumeral n small).0

no_plus : (ds : List ℕ) → IsNumeral 10 ds → without_leading_plus ds ≡ ds
no_plus [] h = refl
no_plus (d ∷ ds) h = let range = digit_from_value d h.1.0 in without_leading_plus_none (d ∷ ds) (λ e. omega arith)

pub number_of-decimal : (n : ℕ) → n < 2 ^ 64 → number_of (decimal n) ≡ n
number_of-decimal n small = ap (digits_value 10) (no_plus (decimal n) (decimal_is_IsNumeral n small).0) ∙ (decimal_is_IsNumeral n small).1

pub decimal_in : (least most n : ℕ) → least ≤ n → n ≤ most → n < 2 ^ 64 → Accepts false (Unsigned least most) (decimal n)
decimal_in least most n low high small =
    let own = decimal_is_IsNumeral n small in
    let is : number_of (decimal n) ≡ n = number_of-decimal n small in
    (subst (IsNumeral 10) (sym (no_plus (decimal n) own.0)) own.0, omega arith, omega arith, omega arith)

pub setting_begins : (s : Setting) → is_in_range s ≡ true → Begins (value_of s)
setting_begins (Name n) h = site_begins n h
setting_begins (Number n) h = decimal_begins n (grind (arith, nat_tests))
setting_begins (Nodes n) h = decimal_begins n (grind (arith, nat_tests))
setting_begins (Rounds n) h = decimal_begins n (grind (arith, nat_tests))
