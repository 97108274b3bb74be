-- The words of each record and each indication that has a text read back to it.
use Rattle.std.proofs.Common.{◌≡◌, ℕ, zero, suc, ◌/◌, ◌%◌, ◌^◌, ◌<◌, ◌≤◌, ◌==◌, Bool, true, false, Option, Some, None, List, [], ◌∷◌, ◌++◌, refl, ap, sym, subst, ◌∙◌, arith, codes, append_assoc}
use Rattle.std.specs.Prelude.{◌&&◌, not, nat_le, nat_lt, option_map}
use Rattle.std.proofs.lemmas.Bool.Decides.{nat_tests}
use Rattle.tp_names.specs.declared.identifiers.Mark.{Mark}
use Rattle.tp_names.specs.declared.identifiers.Aaid.{Aaid}
use Rattle.tp_names.specs.declared.identifiers.BranchId.{BranchId}
use Rattle.tp_names.specs.declared.outcome.Outcome.{Outcome}
use Rattle.tp_names.specs.declared.outcome.Report.{Report}
use Rattle.tp_names.specs.Bytes.{all_bytes, is_site_byte, is_site_name}
use Rattle.tp_names.specs.Same.{is_name}
use Rattle.tp_units.specs.Units.{is_permitted}
use Rattle.tp_records.specs.declared.dialogue.Holder.{Holder}
use Rattle.tp_model.specs.declared.out_line.PhaseWord.{PhaseWord}
use Rattle.tp_model.specs.declared.out_line.RecordFate.{RecordFate}
use Rattle.tp_model.specs.Words.{decimal, hex, hex_digit, octets_word, mark_word, aaid_word, branch_word, maybe_word, outcome_word, report_word, holder_word, units_word}
use Rattle.tp_model.specs.OutText.{phase_word, fate_word, numbers_word}
use Rattle.tp_model.specs.LineReading.{Form, Wrong, Outside, Well, form_of, with, is_digit, number, number_in, numeral, hex_octets, site, outcome, onto_first}
use Rattle.tp_schedule.specs.HasText.{is_number, is_byte}
use Rattle.tp_transcript.specs.OutHasText.{is_short, is_long, are_bytes, mark_has_text, aaid_has_text, branch_has_text, if_there, are_numbers, some_numbers}
use Rattle.tp_transcript.specs.OutWords.{any_short, small, long, if_long, cut, at_dot, made_mark, made_aaid, made_branch, mark, aaid, branch, maybe, permitted, if_permitted, all_octets, report, holder, phase, fate, parts, node_number, node_numbers, in_front, numbers}
use Rattle.tp_schedule.proofs.lemmas.Back.{no_space, is_plain, numeral_of, numeral_back, number_in_back, decimal_plain, hex_back, hex_plain, units_back, units_plain, site_plain, site_back}
use Rattle.tp_transcript.proofs.OutForms.{at_dot_found, maybe_found}

-- a word that reads as a value, with no space in it
pub record Reads_back {A : Type 0} (read : Form A) (a : A) (w : List ℕ) : Type 0 where
  pub reads : read ≡ Well a
  pub plain : is_plain w ≡ true

pub parts_of : (a b : Bool) → (a && b) ≡ true → (a ≡ true) × (b ≡ true)
parts_of true true all = (refl, refl)
parts_of true false all = absurd cc
parts_of false b all = absurd cc

-- ---- numbers

any_back : (n : ℕ) → n < 2 ^ 64 → numeral (decimal n) ≡ Some n
any_back zero small = refl
any_back (suc n) small = numeral_back (suc n) (omega arith) small

in_range : (most n : ℕ) → n ≤ most → n < 2 ^ 64 → number_in 0 most (decimal n) ≡ Well n
in_range most n few small =
    ap (λ (o : Option ℕ). elim o as (λ _. Form ℕ) [ None ↦ Wrong | Some m ↦ elim (nat_le 0 m && nat_le m most) as (λ _. Form ℕ) [ true ↦ Well m | false ↦ Outside ] ]) (any_back n small)
    ∙ inside most n few
  where
    inside : (b k : ℕ) → k ≤ b → elim (nat_le 0 k && nat_le k b) as (λ _. Form ℕ) [ true ↦ Well k | false ↦ Outside ] ≡ Well k
    inside b k high = grind (arith, nat_tests)

pub number_again : (n : ℕ) → is_number n ≡ true → Reads_back (number (decimal n)) n (decimal n)
number_again n good =
    let low : 1 ≤ n = grind (arith, nat_tests) in
    let high : n ≤ 65535 = grind (arith, nat_tests) in
    record { reads = number_in_back 1 65535 n (omega arith) low high (omega arith); plain = decimal_plain n (omega arith) }

pub short_again : (n : ℕ) → is_short n ≡ true → Reads_back (any_short (decimal n)) n (decimal n)
short_again n good =
    let high : n ≤ 65535 = grind (arith, nat_tests) in
    record { reads = in_range 65535 n high (omega arith); plain = decimal_plain n (omega arith) }

pub small_again : (n : ℕ) → is_byte n ≡ true → Reads_back (small (decimal n)) n (decimal n)
small_again n good =
    let high : n ≤ 255 = grind (arith, nat_tests) in
    record { reads = in_range 255 n high (omega arith); plain = decimal_plain n (omega arith) }

pub long_again : (n : ℕ) → is_long n ≡ true → Reads_back (long (decimal n)) n (decimal n)
long_again n good =
    let high : n ≤ 18446744073709551615 = at_most n good in
    record { reads = ap (λ (o : Option ℕ). form_of (if_long o)) (any_back n (omega arith)) ∙ fits n good; plain = decimal_plain n (omega arith) }
  where
    at_most : (k : ℕ) → is_long k ≡ true → k ≤ 18446744073709551615
    at_most k test = grind (arith, nat_tests)

    fits : (k : ℕ) → is_long k ≡ true → form_of (if_long (Some k)) ≡ Well k
    fits k test = ap (λ (b : Bool). form_of (elim b as (λ _. Option ℕ) [ true ↦ Some k | false ↦ None ])) test

-- ---- words with no dot and no comma

abbrev pub lacks : ℕ → List ℕ → Bool
lacks d [] = true
lacks d (b ∷ bs) = not (b == d) && lacks d bs

digits_lack : (d : ℕ) (ds : List ℕ) → d < 48 → all_bytes is_digit ds ≡ true → lacks d ds ≡ true
digits_lack d [] low good = refl
digits_lack d (b ∷ ds) low good = grind (arith, nat_tests, digits_lack d ds)

pub decimal_lacks : (d n : ℕ) → d < 48 → n < 2 ^ 64 → lacks d (decimal n) ≡ true
decimal_lacks d n low small = digits_lack d (decimal n) low (numeral_of n small).digits

site_bytes_lack : (d : ℕ) (s : List ℕ) → d < 48 → all_bytes is_site_byte s ≡ true → lacks d s ≡ true
site_bytes_lack d [] low good = refl
site_bytes_lack d (b ∷ s) low good = grind (arith, nat_tests, site_bytes_lack d s)

site_lacks : (d : ℕ) (s : List ℕ) → d < 48 → is_site_name s ≡ true → lacks d s ≡ true
site_lacks d s low name = site_bytes_lack d s low (bytes_of s name)
  where
    bytes_of : (t : List ℕ) → is_site_name t ≡ true → all_bytes is_site_byte t ≡ true
    bytes_of t name = grind (arith, nat_tests)

pub cut_behind : (d : ℕ) (v u : List ℕ) → lacks d v ≡ true → cut d (v ++ (d ∷ u)) ≡ Some (v, u)
cut_behind d [] u none = at_once d u
  where
    at_once : (e : ℕ) (xs : List ℕ) → cut e (e ∷ xs) ≡ Some ([], xs)
    at_once e xs = grind (arith, nat_tests)
cut_behind d (b ∷ v) u none =
    let other : (b == d) ≡ false = grind (arith, nat_tests) in
    let rest : lacks d v ≡ true = grind (arith, nat_tests) in
    go (b == d) (cut d (v ++ (d ∷ u))) other (cut_behind d v u rest)
  where
    go : (t : Bool) (o : Option (List ℕ × List ℕ)) → t ≡ false → o ≡ Some (v, u)
        → elim t as (λ _. Option (List ℕ × List ℕ)) [ true ↦ Some ([], v ++ (d ∷ u)) | false ↦ option_map (λ (p : List ℕ × List ℕ). (b ∷ p.0, p.1)) o ] ≡ Some (b ∷ v, u)
    go true o other is = absurd cc
    go false o other is = ap (option_map (λ (p : List ℕ × List ℕ). (b ∷ p.0, p.1))) is

-- ---- plain words

plain_of : (w : List ℕ) → is_plain w ≡ true → no_space w ≡ true
plain_of [] plain = absurd cc
plain_of (b ∷ w) plain = plain

joined_spaces : (v u : List ℕ) → no_space v ≡ true → no_space u ≡ true → no_space (v ++ u) ≡ true
joined_spaces [] u a b = b
joined_spaces (c ∷ v) u a b = grind (arith, nat_tests, joined_spaces v u)

pub dotted_plain : (d : ℕ) (v u : List ℕ) → 32 < d → is_plain v ≡ true → is_plain u ≡ true → is_plain (v ++ (d ∷ u)) ≡ true
dotted_plain d [] u high a b = absurd cc
dotted_plain d (c ∷ v) u high a b = joined_spaces (c ∷ v) (d ∷ u) a (behind_dot d u high (plain_of u b))
  where
    behind_dot : (e : ℕ) (xs : List ℕ) → 32 < e → no_space xs ≡ true → no_space (e ∷ xs) ≡ true
    behind_dot e xs high none = grind (arith, nat_tests)

-- ---- marks and identifiers

dot_back : {A B : Type 0} → (r : List ℕ → Form A) (s : List ℕ → Form B) (a : A) (b : B) (v u : List ℕ) → lacks 46 v ≡ true → Reads_back (r v) a v → Reads_back (s u) b u
    → Reads_back (at_dot r s (v ++ (46 ∷ u))) (a, b) (v ++ (46 ∷ u))
dot_back r s a b v u none first second =
    record {
      reads = at_dot_found r s (v ++ (46 ∷ u)) v u (cut_behind 46 v u none) ∙ rw (first.reads, second.reads) refl;
      plain = dotted_plain 46 v u (omega arith) first.plain second.plain;
    }

long_small : (n : ℕ) → is_long n ≡ true → n < 2 ^ 64
long_small n good = let high : n ≤ 18446744073709551615 = grind (arith, nat_tests) in omega arith

short_small : (n : ℕ) → is_short n ≡ true → n < 2 ^ 64
short_small n good = let high : n ≤ 65535 = grind (arith, nat_tests) in omega arith

mark_form : (m : Mark) → decimal m.boot ++ (46 ∷ (decimal m.node ++ (46 ∷ decimal m.count))) ≡ mark_word m
mark_form m = sym (append_assoc (decimal m.boot) (46 ∷ decimal m.node) (46 ∷ decimal m.count))

pub mark_again : (m : Mark) → mark_has_text m ≡ true → Reads_back (mark (mark_word m)) m (mark_word m)
mark_again m good =
    let p = parts_of (is_long m.boot && is_short m.node) (is_long m.count) good in
    let q = parts_of (is_long m.boot) (is_short m.node) p.0 in
    let inner = dot_back any_short long m.node m.count (decimal m.node) (decimal m.count) (decimal_lacks 46 m.node (omega arith) (short_small m.node q.1)) (short_again m.node q.1) (long_again m.count p.1) in
    let outer = dot_back long (at_dot any_short long) m.boot (m.node, m.count) (decimal m.boot) _ (decimal_lacks 46 m.boot (omega arith) (long_small m.boot q.0)) (long_again m.boot q.0) inner in
    subst (λ (w : List ℕ). Reads_back (mark w) m w) (mark_form m) (record { reads = ap (with made_mark) outer.reads; plain = outer.plain })

pub site_again : (s : List ℕ) → is_site_name s ≡ true → Reads_back (site s) s s
site_again s name = record { reads = site_back s name; plain = site_plain s name }

pub aaid_again : (a : Aaid) → aaid_has_text a ≡ true → Reads_back (aaid (aaid_word a)) a (aaid_word a)
aaid_again a good =
    let p = parts_of (is_site_name a.owner) (mark_has_text a.mark) good in
    let back = dot_back site mark a.owner a.mark a.owner (mark_word a.mark) (site_lacks 46 a.owner (omega arith) p.0) (site_again a.owner p.0) (mark_again a.mark p.1) in
    record { reads = ap (with made_aaid) back.reads; plain = back.plain }

pub branch_again : (b : BranchId) → branch_has_text b ≡ true → Reads_back (branch (branch_word b)) b (branch_word b)
branch_again b good =
    let p = parts_of (is_site_name b.superior) (mark_has_text b.mark) good in
    let back = dot_back site mark b.superior b.mark b.superior (mark_word b.mark) (site_lacks 46 b.superior (omega arith) p.0) (site_again b.superior p.0) (mark_again b.mark p.1) in
    record { reads = ap (with made_branch) back.reads; plain = back.plain }

-- no dash begins them
not_dash : (d : ℕ) (v u : List ℕ) → is_plain v ≡ true → lacks 45 v ≡ true → is_name (codes "-") (v ++ (d ∷ u)) ≡ false
not_dash d [] u plain none = absurd cc
not_dash d (b ∷ v) u plain none = grind (arith, nat_tests)

maybe_back : {A : Type 0} → (r : List ℕ → Form A) (a : A) (w : List ℕ) → is_name (codes "-") w ≡ false → Reads_back (r w) a w → Reads_back (maybe r w) (Some a) w
maybe_back r a w other back = record { reads = maybe_found r w other ∙ ap (with (λ a. Some a)) back.reads; plain = back.plain }

pub maybe_mark_again : (o : Option Mark) → if_there mark_has_text o ≡ true → Reads_back (maybe mark (maybe_word mark_word o)) o (maybe_word mark_word o)
maybe_mark_again None good = record { reads = refl; plain = refl }
maybe_mark_again (Some m) good =
    let p = parts_of (is_long m.boot && is_short m.node) (is_long m.count) good in
    let q = parts_of (is_long m.boot) (is_short m.node) p.0 in
    maybe_back mark m (mark_word m)
    (ap (is_name (codes "-")) (sym (mark_form m)) ∙ not_dash 46 (decimal m.boot) _ (decimal_plain m.boot (long_small m.boot q.0)) (decimal_lacks 45 m.boot (omega arith) (long_small m.boot q.0)))
    (mark_again m good)

pub maybe_branch_again : (o : Option BranchId) → if_there branch_has_text o ≡ true → Reads_back (maybe branch (maybe_word branch_word o)) o (maybe_word branch_word o)
maybe_branch_again None good = record { reads = refl; plain = refl }
maybe_branch_again (Some b) good =
    let p = parts_of (is_site_name b.superior) (mark_has_text b.mark) good in
    maybe_back branch b (branch_word b) (not_dash 46 b.superior _ (site_plain b.superior p.0) (site_lacks 45 b.superior (omega arith) p.0)) (branch_again b good)

-- ---- units, octets

first_of_four : (a b c d : Bool) → (a && b && c && d) ≡ true → a ≡ true
first_of_four true b c d all = refl
first_of_four false b c d all = absurd cc

permitted_range : (u : ℕ) → is_permitted u ≡ true → (1 ≤ u) × (u < 64)
permitted_range zero good = absurd cc
permitted_range (suc u) good = (omega arith, below (suc u) good)
  where
    below : (v : ℕ) → is_permitted v ≡ true → v < 64
    below v good = let test : nat_lt v 64 ≡ true = first_of_four (nat_lt v 64) _ _ _ good in grind (arith, nat_tests)

pub permitted_again : (u : ℕ) → is_permitted u ≡ true → Reads_back (permitted (units_word u)) u (units_word u)
permitted_again u good =
    let p = permitted_range u good in
    record {
      reads = ap if_permitted (units_back u p.0 p.1) ∙ ap (λ (b : Bool). elim b as (λ _. Form ℕ) [ true ↦ Well u | false ↦ Wrong ]) good;
      plain = units_plain u p.0 p.1;
    }

pub octets_again : (xs : List ℕ) → are_bytes xs ≡ true → Reads_back (all_octets (octets_word xs)) xs (octets_word xs)
octets_again [] good = record { reads = refl; plain = refl }
octets_again (x ∷ xs) good =
    record {
      reads = ap (λ (b : Bool). elim b as (λ _. Form (List ℕ)) [ true ↦ Well [] | false ↦ form_of (hex_octets (hex (x ∷ xs))) ]) (not_a_dash x xs good) ∙ ap form_of (hex_back (x ∷ xs) good);
      plain = hex_plain (x ∷ xs) good;
    }
  where
    longer : (a b : ℕ) (bs : List ℕ) → is_name (codes "-") (a ∷ b ∷ bs) ≡ false
    longer a b bs = grind (arith, nat_tests)

    not_a_dash : (y : ℕ) (ys : List ℕ) → are_bytes (y ∷ ys) ≡ true → is_name (codes "-") (hex (y ∷ ys)) ≡ false
    not_a_dash y ys good = longer (hex_digit (y / 16)) (hex_digit (y % 16)) (hex ys)

-- ---- words with a value

pub report_again : (r : Report) → Reads_back (report (report_word r)) r (report_word r)
report_again Report.None = record { reads = refl; plain = refl }
report_again Report.Hazard = record { reads = refl; plain = refl }
report_again Report.Mix = record { reads = refl; plain = refl }

pub holder_again : (h : Holder) → Reads_back (holder (holder_word h)) h (holder_word h)
holder_again Holder.None = record { reads = refl; plain = refl }
holder_again Holder.Superior = record { reads = refl; plain = refl }
holder_again Holder.Subordinate = record { reads = refl; plain = refl }

pub outcome_again : (o : Outcome) → Reads_back (outcome (outcome_word o)) o (outcome_word o)
outcome_again Outcome.Commit = record { reads = refl; plain = refl }
outcome_again Outcome.Rollback = record { reads = refl; plain = refl }

pub phase_again : (p : PhaseWord) → Reads_back (phase (phase_word p)) p (phase_word p)
phase_again PhaseWord.Nil = record { reads = refl; plain = refl }
phase_again PhaseWord.Active = record { reads = refl; plain = refl }
phase_again PhaseWord.Asked = record { reads = refl; plain = refl }
phase_again PhaseWord.Ready = record { reads = refl; plain = refl }
phase_again PhaseWord.Committing = record { reads = refl; plain = refl }
phase_again PhaseWord.Rolling = record { reads = refl; plain = refl }

pub fate_again : (f : RecordFate) → Reads_back (fate (fate_word f)) f (fate_word f)
fate_again RecordFate.Kept = record { reads = refl; plain = refl }
fate_again RecordFate.Lost = record { reads = refl; plain = refl }
fate_again RecordFate.None = record { reads = refl; plain = refl }

-- ---- numbers of nodes

parts_alone : (d : ℕ) (w : List ℕ) → lacks d w ≡ true → parts d w ≡ w ∷ []
parts_alone d [] none = refl
parts_alone d (b ∷ w) none =
    let other : (b == d) ≡ false = grind (arith, nat_tests) in
    let rest : lacks d w ≡ true = grind (arith, nat_tests) in
    ap (λ (t : Bool). elim t as (λ _. List (List ℕ)) [ true ↦ [] ∷ parts d w | false ↦ onto_first b (parts d w) ]) other ∙ ap (onto_first b) (parts_alone d w rest)

parts_behind : (d : ℕ) (v u : List ℕ) → lacks d v ≡ true → parts d (v ++ (d ∷ u)) ≡ v ∷ parts d u
parts_behind d [] u none = at_once d u
  where
    at_once : (e : ℕ) (xs : List ℕ) → parts e (e ∷ xs) ≡ [] ∷ parts e xs
    at_once e xs = grind (arith, nat_tests)
parts_behind d (b ∷ v) u none =
    let other : (b == d) ≡ false = grind (arith, nat_tests) in
    let rest : lacks d v ≡ true = grind (arith, nat_tests) in
    ap (λ (t : Bool). elim t as (λ _. List (List ℕ)) [ true ↦ [] ∷ parts d (v ++ (d ∷ u)) | false ↦ onto_first b (parts d (v ++ (d ∷ u))) ]) other
    ∙ ap (onto_first b) (parts_behind d v u rest)

node_number_back : (n : ℕ) → is_number n ≡ true → node_number (decimal n) ≡ Some n
node_number_back n good = ap (λ (x : Form ℕ). elim x as (λ _. Option ℕ) [ Wrong ↦ None | Outside ↦ None | Well m ↦ Some m ]) (number_again n good).reads

number_small : (n : ℕ) → is_number n ≡ true → n < 2 ^ 64
number_small n good = let high : n ≤ 65535 = grind (arith, nat_tests) in omega arith

numbers_read : (n : ℕ) (ns : List ℕ) → is_number n ≡ true → are_numbers ns ≡ true → (node_numbers (parts 44 (numbers_word (n ∷ ns))) ≡ Some (n ∷ ns)) × (is_plain (numbers_word (n ∷ ns)) ≡ true)
numbers_read n [] first rest = (
  ap node_numbers (parts_alone 44 (decimal n) (decimal_lacks 44 n (omega arith) (number_small n first))) ∙ ap (λ (o : Option ℕ). in_front o (Some [])) (node_number_back n first),
  decimal_plain n (number_small n first),
)
numbers_read n (m ∷ ms) first rest =
    let p = parts_of (is_number m) (are_numbers ms) rest in
    let more = numbers_read m ms p.0 p.1 in (
      ap node_numbers (parts_behind 44 (decimal n) (numbers_word (m ∷ ms)) (decimal_lacks 44 n (omega arith) (number_small n first)))
          ∙ ap (λ (o : Option ℕ). in_front o (node_numbers (parts 44 (numbers_word (m ∷ ms))))) (node_number_back n first)
          ∙ ap (in_front (Some n)) more.0,
      dotted_plain 44 (decimal n) (numbers_word (m ∷ ms)) (omega arith) (decimal_plain n (number_small n first)) more.1,
    )

pub numbers_again : (ns : List ℕ) → some_numbers ns ≡ true → Reads_back (numbers (numbers_word ns)) ns (numbers_word ns)
numbers_again [] good = absurd cc
numbers_again (n ∷ ns) good =
    let p = parts_of (is_number n) (are_numbers ns) good in
    let back = numbers_read n ns p.0 p.1 in
    record { reads = ap form_of back.0; plain = back.1 }
