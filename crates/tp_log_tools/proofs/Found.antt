-- The records that a start finds are those that are read.
use Rattle.std.proofs.Common.{◌≡◌, inl, inr, ℕ, suc, ◌+◌, ◌-◌, ◌<◌, ◌≤◌, ◌^◌, Bool, true, false, List, [], ◌∷◌, ◌++◌, length, take, drop, refl, sym, ap, ◌∙◌, arith, append_assoc, length-append}
use Rattle.std.specs.List.{AllByRecursion}
use Rattle.std.specs.Int.{to_be_bytes, w64}
use Rattle.tp_logrec.specs.declared.record.LogRec.{LogRec}
use Rattle.tp_logrec.specs.declared.record.LogVersion.{LogVersion}
use Rattle.tp_logrec.specs.RecordText.{record_bytes}
use Rattle.tp_logrec.specs.LogText.{HaveBodies, log_name, log_text, LogReading, Foreign, Reads, Placed, fitting, last_place, read_log}
use Rattle.tp_logrec.proofs.Logs.{placed_from, start, listed_back, not_two, fitting_is}
use Rattle.tp_model.specs.LogCommands.{is_back, moved, moved_by, start_leaves}
use Rattle.tp_journal.specs.Log.{blocks, head, StandsInFront, StandsBehind, StandsFor}
use Rattle.tp_journal.specs.Records.{version_of, HasText, text, bodies_of, receipts_from, placed}
use Rattle.tp_journal.proofs.AsLogs.{bodies_text}
use Rattle.tp_journal.proofs.Openings.{cut_out}
use Rattle.tp_journal.proofs.Sizes.{text_is_body}
use Rattle.tp_log_tools.specs.Readings.{as_placed, IsReadAlike}
use Rattle.tp_log_tools.proofs.Breaking.{front_reads, behind, last_behind, behind_reads}

have_bodies : (wide : Bool) (rs : List LogRec) → AllByRecursion (HasText wide) rs → HaveBodies (version_of wide) rs
have_bodies wide [] each = tt
have_bodies wide (r ∷ rs) each = (record { text = each.0; short = (text_is_body wide r each.0).1 }, have_bodies wide rs each.1)

-- ---- places

placed_alike : (wide : Bool) (at : ℕ) (rs : List LogRec) → placed_from (version_of wide) at rs ≡ as_placed (receipts_from at wide rs)
placed_alike wide at [] = refl
placed_alike wide at (r ∷ rs) = ap (λ w. let p : Placed = record { place = at; rec = r } in p ∷ w) (placed_alike wide (at + 3 + length (text wide r)) rs)

first_is : (wide : Bool) (rs : List LogRec) → placed_from (version_of wide) (start (version_of wide) 5) rs ≡ as_placed (placed wide rs)
first_is true rs = placed_alike true 10 rs
first_is false rs = placed_alike false 5 rs

moved_back : (ver : LogVersion) (n from at : ℕ) (rs : List LogRec) → from ≡ at + n → moved n (placed_from ver from rs) ≡ placed_from ver at rs
moved_back ver n from at [] is = refl
moved_back ver n from at (r ∷ rs) is =
    let there : from - n ≡ at = omega (arith, is) in
    let more : from + 3 + length (text_of r) ≡ at + 3 + length (text_of r) + n = omega (arith, is) in
    ap (λ k. let p : Placed = record { place = k; rec = r } in p ∷ moved n (placed_from ver (from + 3 + length (text_of r)) rs)) there
    ∙ ap (λ w. let p : Placed = record { place = at; rec = r } in p ∷ w) (moved_back ver n (from + 3 + length (text_of r)) (at + 3 + length (text_of r)) rs more)
  where
    text_of : LogRec → List ℕ
    text_of q = record_bytes ver q

start_later : (ver : LogVersion) (n : ℕ) → start ver (5 + n) ≡ start ver 5 + n
start_later LogVersion.One n = refl
start_later LogVersion.Two n = omega arith

-- ---- what a start leaves

abbrev pub started_by : List ℕ → Bool → LogReading → List ℕ
started_by bytes false reading = bytes
started_by bytes true (Foreign at) = bytes
started_by bytes true (Reads ver ps gate) = log_name ++ 1 ∷ take (suc gate - last_place bytes) (drop (last_place bytes) bytes)

pub started_is : (bytes : List ℕ) → start_leaves bytes ≡ started_by bytes (is_back bytes) (read_log bytes)
started_is bytes = go (is_back bytes) (read_log bytes)
  where
    go : (t : Bool) (reading : LogReading)
        → elim t as (λ _. List ℕ) [ false ↦ bytes | true ↦ elim reading as (λ _. List ℕ) [ Foreign at ↦ bytes | Reads ver ps gate ↦ log_name ++ 1 ∷ take (suc gate - last_place bytes) (drop (last_place bytes) bytes) ] ]
        ≡ started_by bytes t reading
    go false reading = refl
    go true (Foreign at) = refl
    go true (Reads ver ps gate) = refl

abbrev moved_so : List ℕ → Bool → ℕ
moved_so bytes true = last_place bytes - 5
moved_so bytes false = 0

moved_is : (bytes : List ℕ) → moved_by bytes ≡ moved_so bytes (is_back bytes)
moved_is bytes = go (is_back bytes)
  where
    go : (t : Bool) → elim t as (λ _. ℕ) [ true ↦ last_place bytes - 5 | false ↦ 0 ] ≡ moved_so bytes t
    go true = refl
    go false = refl

-- ---- at the front, and further back

found_in_front : (file : List ℕ) (wide : Bool) (rs : List LogRec) → AllByRecursion (HasText wide) rs → (s : StandsInFront file (bodies_of wide rs)) → IsReadAlike file wide rs (inl s)
found_in_front file wide rs each s =
    let ver = version_of wide in
    let text : List ℕ = log_text ver rs ++ s.gate ∷ s.rest in
    let whole : file ≡ head s.selector ++ text =
    s.whole ∙ append_assoc (head s.selector) (blocks (bodies_of wide rs)) (s.gate ∷ s.rest) ∙ ap (λ (l : List ℕ). head s.selector ++ (l ++ s.gate ∷ s.rest)) (bodies_text wide rs each) in
    let front : is_back file ≡ false = ap is_back whole ∙ not_two s.selector s.selects in
    record {
      listed = placed_from ver (start ver 5) rs;
      gate = 5 + length (log_text ver rs);
      reads = ap read_log whole ∙ front_reads s.selector text s.selects ∙ listed_back ver 5 rs s.gate s.rest (have_bodies wide rs each) s.closed;
      places = ap (λ n. moved n (placed_from ver (start ver 5) rs)) (moved_is file ∙ ap (moved_so file) front) ∙ moved_back ver 0 (start ver 5) (start ver 5) rs (omega arith) ∙ first_is wide rs;
      bytes = sym (started_is file ∙ ap (λ t. started_by file t (read_log file)) front);
    }

found_behind : (file : List ℕ) (wide : Bool) (rs : List LogRec) → length file < 2 ^ 64 → AllByRecursion (HasText wide) rs → (s : StandsBehind file (bodies_of wide rs)) → IsReadAlike file wide rs (inr s)
found_behind file wide rs small each s =
    let ver = version_of wide in
    let q : ℕ = 5 + length s.front in
    let text : List ℕ = log_text ver rs ++ s.gate ∷ s.rest in
    let same : blocks (bodies_of wide rs) ≡ log_text ver rs = bodies_text wide rs each in
    let whole : file ≡ behind s.front text =
    s.whole ∙ ap (λ (l : List ℕ). head 2 ++ s.front ++ l ++ (s.gate ∷ s.rest) ++ to_be_bytes w64 q) same
    ∙ ap (λ (l : List ℕ). l ++ to_be_bytes w64 q) (append_assoc (head 2 ++ s.front) (log_text ver rs) (s.gate ∷ s.rest)) in
    let little : length (behind s.front text) < 2 ^ 64 = omega (arith, ap length whole, small) in
    let some : 0 < length text = omega (arith, length-append (log_text ver rs) (s.gate ∷ s.rest)) in
    let gate : ℕ = q + length (log_text ver rs) in
    let listed : List Placed = placed_from ver (start ver q) rs in
    let fits : suc gate - q ≤ q - 5 = (let f = s.fits in omega (arith, f, ap length same)) in
    let reads : read_log file ≡ Reads ver listed gate =
    ap read_log whole ∙ behind_reads s.front text little some ∙ ap (fitting q) (listed_back ver q rs s.gate s.rest (have_bodies wide rs each) s.closed) ∙ fitting_is q ver listed gate fits in
    let last : last_place file ≡ q = ap last_place whole ∙ last_behind s.front text little in
    let back : is_back file ≡ true = ap is_back whole in
    let by : moved_by file ≡ length s.front = moved_is file ∙ ap (moved_so file) back ∙ ap (λ n. n - 5) last ∙ omega arith in
    let cut : take (gate + 1 - q) (drop q file) ≡ blocks (bodies_of wide rs) ++ s.gate ∷ [] = cut_out (bodies_of wide rs) file q gate s refl (ap (λ (l : List ℕ). q + length l) (sym same)) in
    let count : suc gate - q ≡ gate + 1 - q = omega arith in
    record {
      listed = listed;
      gate = gate;
      reads = reads;
      places = ap (λ n. moved n listed) by ∙ moved_back ver (length s.front) (start ver q) (start ver 5) rs (start_later ver (length s.front)) ∙ first_is wide rs;
      bytes = ap (λ (l : List ℕ). head 1 ++ l) (sym cut) ∙ ap (λ n. head 1 ++ take n (drop q file)) (sym count) ∙ ap (λ n. head 1 ++ take (suc gate - n) (drop n file)) (sym last)
          ∙ sym (started_is file ∙ ap (λ t. started_by file t (read_log file)) back ∙ ap (started_by file true) reads);
    }

pub found_is_read : (file : List ℕ) (wide : Bool) (rs : List LogRec) (stands : StandsFor file (bodies_of wide rs)) → length file < 2 ^ 64 → AllByRecursion (HasText wide) rs → IsReadAlike file wide rs stands
found_is_read file wide rs (inl s) small each = found_in_front file wide rs each s
found_is_read file wide rs (inr s) small each = found_behind file wide rs small each s
