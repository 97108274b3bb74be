-- What is a log is read as one.
use Rattle.std.proofs.Common.{◌≡◌, ◌≢◌, ℕ, zero, suc, ◌+◌, ◌-◌, ◌*◌, ◌<◌, ◌≤◌, ◌^◌, inl, inr, Option, Some, None, List, [], ◌∷◌, ◌++◌, length, take, drop, Bool, true, false, refl, sym, ◌∙◌, ap, arith, append_assoc, length-append}
use Rattle.std.specs.Prelude.{◌==◌, ◌&&◌, nat_le}
use Rattle.std.specs.Int.{byte_at, from_be_bytes, w64}
use Rattle.std.proofs.lemmas.List.{take_at, drop_at, append-nil}
use Rattle.std.proofs.lemmas.Nat.{from_be_bytes-to_be_bytes_8}
use Rattle.std.proofs.lemmas.Bool.Decides.{nat_tests}
use Rattle.tp_names.specs.Same.{is_name}
use Rattle.tp_names.specs.Bytes.{long_bytes}
use Rattle.tp_names.specs.Reading.{read_bytes, number_from, then_read}
use Rattle.tp_names.proofs.Numbers.{short_back}
use Rattle.tp_names.proofs.Choices.{bytes_taken}
use Rattle.tp_logrec.specs.declared.record.LogRec.{LogRec}
use Rattle.tp_logrec.specs.declared.record.LogVersion.{LogVersion}
use Rattle.tp_logrec.specs.RecordText.{record_bytes}
use Rattle.tp_logrec.specs.RecordReading.{record_in, whole}
use Rattle.tp_logrec.specs.LogText.{framed, records_text, log_text, HasBody, HaveBodies, log_name, IsFront, IsBack, IsLog, Placed, recs, LogReading, Foreign, Reads, with_record, body_in, records_from, is_marked, listed_from, fitting, last_place, back_reading, selected, read_log, IsReadAs}

-- ---- numbers

pub long_back : (n : ℕ) (bs : List ℕ) → n < 2 ^ 64 → number_from 8 0 (long_bytes n ++ bs) ≡ Some (n, bs)
long_back n bs h =
    let is : from_be_bytes w64 (long_bytes n) ≡ (((((((0 * 256 + byte_at 7 n) * 256 + byte_at 6 n) * 256 + byte_at 5 n) * 256 + byte_at 4 n) * 256 + byte_at 3 n) * 256 + byte_at 2 n) * 256 + byte_at 1 n) * 256 + byte_at 0 n = omega arith in
    ap (λ m. Some (m, bs)) (sym is ∙ from_be_bytes-to_be_bytes_8 n h)

pub not_one : (g : ℕ) → g ≢ 1 → (g == 1) ≡ false
not_one g h = grind (arith, nat_tests)

-- ---- bodies after gates

-- the records at their places, from a place on
abbrev pub placed_from : LogVersion → ℕ → List LogRec → List Placed
placed_from ver at [] = []
placed_from ver at (r ∷ rs) = record { place = at; rec = r } ∷ placed_from ver (at + 3 + length (record_bytes ver r)) rs

pub recs-placed_from : (ver : LogVersion) (at : ℕ) (rs : List LogRec) → recs (placed_from ver at rs) ≡ rs
recs-placed_from ver at [] = refl
recs-placed_from ver at (r ∷ rs) = ap (λ w. r ∷ w) (recs-placed_from ver (at + 3 + length (record_bytes ver r)) rs)

pub body_back : (body more : List ℕ) → length body < 2 ^ 16 → body_in (framed body ++ more) ≡ Some (body, more)
body_back body more short =
    ap (λ (o : Option (ℕ × List ℕ)). then_read o read_bytes) (short_back (length body) (body ++ more) short)
    ∙ bytes_taken body more

pub record_back : (ver : LogVersion) (r : LogRec) → HasBody ver r → record_in ver (record_bytes ver r) ≡ Some r
record_back ver r b = ap whole b.text

-- how the reading goes on at a gate, after an open one, and after a body
abbrev pub on_record : LogVersion → ℕ → ℕ → List ℕ × List ℕ → Option LogRec → LogReading
on_record ver fuel at p None = Foreign at
on_record ver fuel at p (Some r) = with_record (record { place = at; rec = r }) (records_from fuel ver (at + 3 + length p.0) p.1)

abbrev pub on_body : LogVersion → ℕ → ℕ → Option (List ℕ × List ℕ) → LogReading
on_body ver fuel at None = Foreign at
on_body ver fuel at (Some p) = on_record ver fuel at p (record_in ver p.0)

abbrev pub on_gate : LogVersion → ℕ → ℕ → List ℕ → Bool → LogReading
on_gate ver fuel at bytes false = Reads ver [] at
on_gate ver fuel at bytes true = on_body ver fuel at (body_in bytes)

pub gate_is : (fuel : ℕ) (ver : LogVersion) (at gate : ℕ) (bytes : List ℕ) → records_from (suc fuel) ver at (gate ∷ bytes) ≡ on_gate ver fuel at bytes (gate == 1)
gate_is fuel ver at gate bytes = go (gate == 1)
  where
    behind : (p : List ℕ × List ℕ) (o : Option LogRec)
        → elim o as (λ _. LogReading) [ None ↦ Foreign at | Some r ↦ with_record (record { place = at; rec = r }) (records_from fuel ver (at + 3 + length p.0) p.1) ] ≡ on_record ver fuel at p o
    behind p None = refl
    behind p (Some r) = refl

    inside : (o : Option (List ℕ × List ℕ))
        → elim o as (λ _. LogReading) [ None ↦ Foreign at | Some p ↦ elim (record_in ver p.0) as (λ _. LogReading) [ None ↦ Foreign at | Some r ↦ with_record (record { place = at; rec = r }) (records_from fuel ver (at + 3 + length p.0) p.1) ] ] ≡ on_body ver fuel at o
    inside None = refl
    inside (Some p) = behind p (record_in ver p.0)

    go : (t : Bool)
        → elim t as (λ _. LogReading) [ false ↦ Reads ver [] at | true ↦ elim (body_in bytes) as (λ _. LogReading) [ None ↦ Foreign at | Some p ↦ elim (record_in ver p.0) as (λ _. LogReading) [ None ↦ Foreign at | Some r ↦ with_record (record { place = at; rec = r }) (records_from fuel ver (at + 3 + length p.0) p.1) ] ] ] ≡ on_gate ver fuel at bytes t
    go false = refl
    go true = inside (body_in bytes)

pub records_back : (fuel : ℕ) (ver : LogVersion) (at : ℕ) (rs : List LogRec) (gate : ℕ) (rest : List ℕ) → HaveBodies ver rs → gate ≢ 1
    → length (records_text ver rs ++ gate ∷ rest) ≤ fuel
    → records_from fuel ver at (records_text ver rs ++ gate ∷ rest) ≡ Reads ver (placed_from ver at rs) (at + length (records_text ver rs))
records_back zero ver at [] gate rest bodies closed enough = absurd (omega arith)
records_back zero ver at (r ∷ rs) gate rest bodies closed enough = absurd (omega arith)
records_back (suc fuel) ver at [] gate rest bodies closed enough =
    let same : at ≡ at + 0 = omega arith in
    gate_is fuel ver at gate rest ∙ ap (on_gate ver fuel at rest) (not_one gate closed) ∙ ap (λ n. Reads ver [] n) same
records_back (suc fuel) ver at (r ∷ rs) gate rest bodies closed enough =
    let body = record_bytes ver r in
    let more : List ℕ = records_text ver rs ++ gate ∷ rest in
    let size : length ((1 ∷ framed body) ++ records_text ver rs) ≡ 3 + length body + length (records_text ver rs) = omega (arith, length-append (1 ∷ framed body) (records_text ver rs)) in
    let whole_size : length (((1 ∷ framed body) ++ records_text ver rs) ++ gate ∷ rest) ≡ 3 + length body + length more =
    omega (arith, size, length-append ((1 ∷ framed body) ++ records_text ver rs) (gate ∷ rest), length-append (records_text ver rs) (gate ∷ rest)) in
    let left : length more ≤ fuel = omega (arith, whole_size, enough) in
    let gate_at : at + 3 + length body + length (records_text ver rs) ≡ at + length ((1 ∷ framed body) ++ records_text ver rs) = omega (arith, size) in
    ap (records_from (suc fuel) ver at) (append_assoc (1 ∷ framed body) (records_text ver rs) (gate ∷ rest))
    ∙ gate_is fuel ver at 1 (framed body ++ more)
    ∙ ap (on_body ver fuel at) (body_back body more bodies.0.short)
    ∙ ap (on_record ver fuel at (body, more)) (record_back ver r bodies.0)
    ∙ ap (with_record (record { place = at; rec = r })) (records_back fuel ver (at + 3 + length body) rs gate rest bodies.1 closed left)
    ∙ ap (λ n. Reads ver (placed_from ver at (r ∷ rs)) n) gate_at

-- ---- both versions

-- the place of the first record's gate
abbrev pub start : LogVersion → ℕ → ℕ
start LogVersion.One at = at
start LogVersion.Two at = at + 5

pub no_mark : (a b c : Bool) → (a && (b && (false && c))) ≡ false
no_mark true true c = refl
no_mark true false c = refl
no_mark false b c = refl

pub code_unmarked : (high low code : ℕ) (more : List ℕ) → (code == 7) ≡ false → is_marked (1 ∷ high ∷ low ∷ code ∷ more) ≡ false
code_unmarked high low code more e =
    ap (λ (t : Bool). (high == 0) && ((low == 2) && (t && is_name (take 1 more) (2 ∷ [])))) e ∙ no_mark (high == 0) (low == 2) (is_name (take 1 more) (2 ∷ []))

pub body_unmarked : (body more : List ℕ) (code : ℕ) (rest : List ℕ) → body ≡ code ∷ rest → (code == 7) ≡ false → is_marked ((1 ∷ framed body) ++ more) ≡ false
body_unmarked body more code rest is e =
    ap (λ (w : List ℕ). is_marked (1 ∷ byte_at 1 (length body) ∷ byte_at 0 (length body) ∷ (w ++ more))) is
    ∙ code_unmarked (byte_at 1 (length body)) (byte_at 0 (length body)) code (rest ++ more) e

-- the code of a record is not that of the mark
pub record_code : (r : LogRec) → (code : ℕ) × (rest : List ℕ) × (record_bytes LogVersion.One r ≡ code ∷ rest) × ((code == 7) ≡ false)
record_code (LogRec.Boot n) = (1, long_bytes n, refl, refl)
record_code (LogRec.Ready n k a cs) = (2, drop 1 (record_bytes LogVersion.One (LogRec.Ready n k a cs)), refl, refl)
record_code (LogRec.Heuristic n k o) = (3, drop 1 (record_bytes LogVersion.One (LogRec.Heuristic n k o)), refl, refl)
record_code (LogRec.Commit n k a cs) = (4, drop 1 (record_bytes LogVersion.One (LogRec.Commit n k a cs)), refl, refl)
record_code (LogRec.Damage n k a o r cs) = (5, drop 1 (record_bytes LogVersion.One (LogRec.Damage n k a o r cs)), refl, refl)
record_code (LogRec.End n k o) = (6, drop 1 (record_bytes LogVersion.One (LogRec.End n k o)), refl, refl)

pub unmarked : (rs : List LogRec) (gate : ℕ) (rest : List ℕ) → gate ≢ 1 → is_marked (records_text LogVersion.One rs ++ gate ∷ rest) ≡ false
unmarked [] gate rest closed = ap (λ (t : Bool). t && is_name (take 4 rest) (0 ∷ 2 ∷ 7 ∷ 2 ∷ [])) (not_one gate closed)
unmarked (r ∷ rs) gate rest closed =
    let body = record_bytes LogVersion.One r in
    let x = record_code r in
    ap is_marked (append_assoc (1 ∷ framed body) (records_text LogVersion.One rs) (gate ∷ rest))
    ∙ body_unmarked body (records_text LogVersion.One rs ++ gate ∷ rest) x.0 x.1 x.2 x.3

abbrev pub on_mark : ℕ → List ℕ → Bool → LogReading
on_mark at bytes true = records_from (length bytes) LogVersion.Two (at + 5) (drop 5 bytes)
on_mark at bytes false = records_from (length bytes) LogVersion.One at bytes

pub mark_is : (at : ℕ) (bytes : List ℕ) → listed_from at bytes ≡ on_mark at bytes (is_marked bytes)
mark_is at bytes = go (is_marked bytes)
  where
    go : (t : Bool) → elim t as (λ _. LogReading) [ true ↦ records_from (length bytes) LogVersion.Two (at + 5) (drop 5 bytes) | false ↦ records_from (length bytes) LogVersion.One at bytes ] ≡ on_mark at bytes t
    go true = refl
    go false = refl

pub listed_back : (ver : LogVersion) (at : ℕ) (rs : List LogRec) (gate : ℕ) (rest : List ℕ) → HaveBodies ver rs → gate ≢ 1
    → listed_from at (log_text ver rs ++ gate ∷ rest) ≡ Reads ver (placed_from ver (start ver at) rs) (at + length (log_text ver rs))
listed_back LogVersion.One at rs gate rest bodies closed =
    let bytes : List ℕ = records_text LogVersion.One rs ++ gate ∷ rest in
    mark_is at bytes ∙ ap (on_mark at bytes) (unmarked rs gate rest closed) ∙ records_back (length bytes) LogVersion.One at rs gate rest bodies closed (omega arith)
listed_back LogVersion.Two at rs gate rest bodies closed =
    let bytes : List ℕ = log_text LogVersion.Two rs ++ gate ∷ rest in
    let later : List ℕ = records_text LogVersion.Two rs ++ gate ∷ rest in
    let enough : length later ≤ length bytes = omega arith in
    let gate_at : at + 5 + length (records_text LogVersion.Two rs) ≡ at + length (log_text LogVersion.Two rs) = omega arith in
    mark_is at bytes ∙ records_back (length bytes) LogVersion.Two (at + 5) rs gate rest bodies closed enough
    ∙ ap (λ n. Reads LogVersion.Two (placed_from LogVersion.Two (at + 5) rs) n) gate_at

-- ---- the front text, and the one after

abbrev pub on_selector : List ℕ → Bool → LogReading
on_selector bytes true = back_reading bytes (last_place bytes)
on_selector bytes false = listed_from 5 (drop 5 bytes)

pub selector_is : (selector : ℕ) (bytes : List ℕ) → selected selector bytes ≡ on_selector bytes (selector == 2)
selector_is selector bytes = go (selector == 2)
  where
    go : (t : Bool) → elim t as (λ _. LogReading) [ true ↦ back_reading bytes (last_place bytes) | false ↦ listed_from 5 (drop 5 bytes) ] ≡ on_selector bytes t
    go true = refl
    go false = refl

pub not_two : (g : ℕ) → g ≢ 2 → (g == 2) ≡ false
not_two g h = grind (arith, nat_tests)

pub front_back : (bytes : List ℕ) (rs : List LogRec) → IsFront bytes rs → IsReadAs bytes rs
front_back bytes rs f =
    let l = f.listed in
    let named : List ℕ = log_name ++ f.selector ∷ f.text in
    record {
      version = l.version;
      placed = placed_from l.version (start l.version 5) rs;
      gate = 5 + length (log_text l.version rs);
      reads = ap read_log f.is ∙ selector_is f.selector named ∙ ap (on_selector named) (not_two f.selector f.other)
          ∙ ap (listed_from 5) l.is ∙ listed_back l.version 5 rs l.gate l.rest l.bodies l.closed;
      records = recs-placed_from l.version (start l.version 5) rs;
    }

-- the place that the last eight bytes tell
pub place_back : (front : List ℕ) (place : ℕ) → place < 2 ^ 64 → last_place (front ++ long_bytes place) ≡ place
place_back front place small =
    let size : length (front ++ long_bytes place) - 8 ≡ length front = omega (arith, length-append front (long_bytes place)) in
    let last : drop (length (front ++ long_bytes place) - 8) (front ++ long_bytes place) ≡ long_bytes place =
    ap (λ n. drop n (front ++ long_bytes place)) size ∙ drop_at front (long_bytes place) (length front) refl in
    let read : number_from 8 0 (drop (length (front ++ long_bytes place) - 8) (front ++ long_bytes place)) ≡ Some (place, []) =
    ap (number_from 8 0) (last ∙ sym (append-nil (long_bytes place))) ∙ long_back place [] small in
    ap (λ (o : Option (ℕ × List ℕ)). elim o as (λ _. ℕ) [ None ↦ 0 | Some p ↦ p.0 ]) read

abbrev pub on_place : List ℕ → ℕ → Bool → LogReading
on_place bytes q false = Foreign 4
on_place bytes q true = fitting q (listed_from q (drop q (take (length bytes - 8) bytes)))

pub place_is : (bytes : List ℕ) (q : ℕ) → back_reading bytes q ≡ on_place bytes q (nat_le 5 q && nat_le (q + 9) (length bytes))
place_is bytes q = go (nat_le 5 q && nat_le (q + 9) (length bytes))
  where
    go : (t : Bool) → elim t as (λ _. LogReading) [ false ↦ Foreign 4 | true ↦ fitting q (listed_from q (drop q (take (length bytes - 8) bytes))) ] ≡ on_place bytes q t
    go false = refl
    go true = refl

pub good_place : (q n : ℕ) → 5 ≤ q → q + 9 ≤ n → (nat_le 5 q && nat_le (q + 9) n) ≡ true
good_place q n g h = grind (arith, nat_tests)

pub fitting_is : (q : ℕ) (ver : LogVersion) (ps : List Placed) (gate : ℕ) → suc gate - q ≤ q - 5 → fitting q (Reads ver ps gate) ≡ Reads ver ps gate
fitting_is q ver ps gate h =
    let t : nat_le (suc gate - q) (q - 5) ≡ true = grind (arith, nat_tests) in
    ap (λ (b : Bool). elim b as (λ _. LogReading) [ true ↦ Reads ver ps gate | false ↦ Foreign 4 ]) t

pub back_back : (bytes : List ℕ) (rs : List LogRec) → length bytes < 2 ^ 64 → IsBack bytes rs → IsReadAs bytes rs
back_back bytes rs small b =
    let q = 5 + length b.front in
    let head : List ℕ = log_name ++ 2 ∷ b.front in
    let text = log_text b.version rs in
    let tail : List ℕ = b.gate ∷ b.rest in
    let before : List ℕ = head ++ text ++ tail in
    let all : List ℕ = before ++ long_bytes q in
    let head_size : length head ≡ q = omega arith in
    let size : length all ≡ q + length text + length tail + 8 = omega (arith, head_size, length-append before (long_bytes q), length-append (head ++ text) tail, length-append head text) in
    let same : length bytes ≡ length all = ap length b.is in
    let place_small : q < 2 ^ 64 = omega (arith, size, same, small) in
    let cut : take (length all - 8) all ≡ before =
    let n : length all - 8 ≡ length before = omega (arith, length-append before (long_bytes q)) in
    ap (λ k. take k all) n ∙ take_at before (long_bytes q) (length before) refl in
    let there : drop q (take (length all - 8) all) ≡ text ++ tail =
    ap (drop q) (cut ∙ append_assoc head text tail) ∙ drop_at head (text ++ tail) q head_size in
    let room : suc (q + length text) - q ≤ q - 5 = let f = b.fits in omega arith in
    record {
      version = b.version;
      placed = placed_from b.version (start b.version q) rs;
      gate = q + length text;
      reads = ap read_log b.is ∙ selector_is 2 all
          ∙ ap (back_reading all) (place_back before q place_small)
          ∙ place_is all q ∙ ap (on_place all q) (good_place q (length all) (omega arith) (omega (arith, size)))
          ∙ ap (λ w. fitting q (listed_from q w)) there
          ∙ ap (fitting q) (listed_back b.version q rs b.gate b.rest b.bodies b.closed)
          ∙ fitting_is q b.version (placed_from b.version (start b.version q) rs) (q + length text) room;
      records = recs-placed_from b.version (start b.version q) rs;
    }

pub log_back : (bytes : List ℕ) (rs : List LogRec) → length bytes < 2 ^ 64 → IsLog bytes rs → IsReadAs bytes rs
log_back bytes rs small (inl f) = front_back bytes rs f
log_back bytes rs small (inr b) = back_back bytes rs small b

-- what a reading gives
abbrev pub recs_of : LogReading → List LogRec
recs_of (Foreign at) = []
recs_of (Reads ver ps gate) = recs ps

pub one_list : (bytes : List ℕ) (rs qs : List LogRec) → length bytes < 2 ^ 64 → IsLog bytes rs → IsLog bytes qs → rs ≡ qs
one_list bytes rs qs small a b =
    let x = log_back bytes rs small a in
    let y = log_back bytes qs small b in
    sym x.records ∙ ap recs_of (sym x.reads ∙ y.reads) ∙ y.records

pub foreign_is_none : (bytes : List ℕ) (at : ℕ) (rs : List LogRec) → length bytes < 2 ^ 64 → read_log bytes ≡ Foreign at → IsLog bytes rs → ⊥
foreign_is_none bytes at rs small foreign log =
    let x = log_back bytes rs small log in
    let clash : Foreign at ≡ Reads x.version x.placed x.gate = sym foreign ∙ x.reads in
    cc
