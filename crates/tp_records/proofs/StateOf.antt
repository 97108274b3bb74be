-- A recovery state of a given length.
use Rattle.std.proofs.Common.{◌≤◌, ◌-◌, ◌∙◌, ◌≡◌, ℕ, ◌+◌, ◌==◌, ◌&&◌, ◌||◌, Bool, true, false, ◌⊎◌, inl, inr, Some, None, List, [], ◌∷◌, length, refl, sym, subst, arith}
use Rattle.std.proofs.lemmas.Bool.Decides.{nat_tests}
use Rattle.tp_names.specs.Reading.{Reader, make, ◌and◌, read_report}
use Rattle.tp_names.specs.Scanning.{Scan, scan_make, ◌with◌, scan_report}
use Rattle.tp_names.specs.Places.{IsScan, Sample}
use Rattle.tp_names.proofs.Sequences.{ok_of, scan_made, scan_both}
use Rattle.tp_names.proofs.Values.{report_scan}
use Rattle.tp_names.proofs.First.{first_scan}
use Rattle.tp_records.specs.SentScanning.{scan_state_of}
use Rattle.tp_records.proofs.Parts.{report_fixed}
use Rattle.tp_records.proofs.Scans.{state_scan}
use Rattle.tp_records.specs.BodyReading.{state_kinds, read_state}
use Rattle.tp_records.specs.declared.peer.RecState.{RecState}
use Rattle.tp_names.specs.Places.{AreBytes}
use Rattle.tp_names.proofs.Sequences.{steady_make}
use Rattle.tp_records.proofs.Agreeing.{Sized, made_fixed, made_sized, both_fixed, fixed_sized, fixed_then, Missing, code_sized, fixed_row, when_parts, off, other, consumed, IsTried, when, when_scanned, when_tried, nothing, refused, none_tried, swapped}

abbrev pub read_state_kind : ℕ → ℕ → Reader (Unit {0})
read_state_kind s code =
    when (((code == 1) || (code == 3) || (code == 4)) && (s == 1)) (make tt)
    (when ((code == 2) && (s == 2)) (make (λ r. tt) and read_report) nothing)

abbrev pub read_state_of : ℕ → Reader (Unit {0})
read_state_of s [] = None
read_state_of s (code ∷ bytes) = read_state_kind s code bytes

abbrev report_read : Reader (Unit {0})
report_read = make (λ r. tt) and read_report

abbrev scan_state_kind : ℕ → ℕ → Scan (Unit {0})
scan_state_kind s code =
    when_scanned (((code == 1) || (code == 3) || (code == 4)) && (s == 1)) (scan_make tt)
    (when_scanned ((code == 2) && (s == 2)) (scan_make (λ r. tt) with scan_report) refused)

state_sample : (s : ℕ) → (s ≡ 1) ⊎ (s ≡ 2) → Sample (read_state_of s)
state_sample s (inl e) =
    let P : ℕ → Type 0 = λ n. Sample (read_state_of n) in
    let one : Sample (read_state_of 1) = record { value = tt; text = 1 ∷ []; bytes = (omega arith, tt); reads = refl } in
    subst P (sym e) one
state_sample s (inr e) =
    let P : ℕ → Type 0 = λ n. Sample (read_state_of n) in
    let two : Sample (read_state_of 2) = record { value = tt; text = 2 ∷ 0 ∷ []; bytes = (omega arith, (omega arith, tt)); reads = refl } in
    subst P (sym e) two

pub state_scan_of : (s : ℕ) → (s ≡ 1) ⊎ (s ≡ 2) → IsScan (read_state_of s) (scan_state_of s)
unfolding scan_state_of
state_scan_of s is =
    first_scan (read_state_of s) (read_state_kind s) (scan_state_of s) (scan_state_kind s)
    (record { none = refl; some = λ b bytes. refl })
    (record {
      none = refl;
      some = λ b bytes.
          swapped (s == 1) ((b == 1) || (b == 3) || (b == 4)) (ok_of tt bytes) _ _
          (swapped (s == 2) (b == 2) ((scan_make (λ r. tt) with scan_report) bytes) (refused bytes) (refused bytes) refl);
    })
    (λ code. (tried code).each) (state_sample s is)
  where
    tried : (code : ℕ) → IsTried (read_state_kind s code) (scan_state_kind s code)
    tried code =
        when_tried (((code == 1) || (code == 3) || (code == 4)) && (s == 1)) (make tt) (when ((code == 2) && (s == 2)) (make (λ r. tt) and read_report) nothing)
        (scan_make tt) (when_scanned ((code == 2) && (s == 2)) (scan_make (λ r. tt) with scan_report) refused) (λ e. scan_made tt)
        (when_tried ((code == 2) && (s == 2)) (make (λ r. tt) and read_report) nothing (scan_make (λ r. tt) with scan_report) refused
        (λ e. scan_both (make (λ r. tt)) read_report (scan_make (λ r. tt)) scan_report (scan_made (λ r. tt)) report_scan) none_tried)

-- ---- the states of that length

one_of : (code : ℕ) → (1 == code) ≡ false → (3 == code) ≡ false → (4 == code) ≡ false → ((code == 1) || (code == 3) || (code == 4)) ≡ false
one_of code a b c = grind (arith, nat_tests)

state_codes : (s code : ℕ) → Missing state_kinds code → (bytes : List ℕ) → read_state_kind s code bytes ≡ None
state_codes s code m bytes =
    off ((code == 1) || (code == 3) || (code == 4)) (s == 1) (make tt) (when ((code == 2) && (s == 2)) report_read nothing) bytes (one_of code m.0 m.1.1.0 m.1.1.1.0)
    ∙ off (code == 2) (s == 2) report_read nothing bytes (other 2 code m.1.0)

abbrev done_read : Reader RecState
done_read = make (λ r. RecState.Done r) and read_report

pub state_sized : (s : ℕ) → 1 ≤ s → Sized s read_state (read_state_of s)
state_sized s low =
    code_sized s state_kinds (read_state_kind s) (read_state_of s) low refl (λ code bytes. refl) (
      fixed_row s 1 0 (make RecState.Commit) (make tt) low refl (made_fixed RecState.Commit) (made_sized RecState.Commit tt),
      (
        fixed_row s 2 1 done_read report_read low refl (both_fixed 0 1 (make (λ r. RecState.Done r)) read_report (made_fixed (λ r. RecState.Done r)) report_fixed)
            (fixed_then 0 1 (make (λ r. RecState.Done r)) read_report (make (λ r. tt)) read_report (steady_make (λ r. RecState.Done r)) (made_fixed (λ r. RecState.Done r)) (made_sized (λ r. RecState.Done r) (λ r. tt)) (fixed_sized 1 read_report report_fixed)),
        (
          fixed_row s 1 0 (make RecState.Unknown) (make tt) low refl (made_fixed RecState.Unknown) (made_sized RecState.Unknown tt),
          (fixed_row s 1 0 (make RecState.RetryLater) (make tt) low refl (made_fixed RecState.RetryLater) (made_sized RecState.RetryLater tt), tt),
        ),
      ),
    )
    (state_codes s)

state_small : (s : ℕ) (bytes : List ℕ) (w : Unit {0}) (rest : List ℕ) → read_state_of s bytes ≡ Some (w, rest) → s ≤ 2
state_small s [] w rest h = absurd cc
state_small s (code ∷ bytes) w rest h =
    elim (when_parts (((code == 1) || (code == 3) || (code == 4)) && (s == 1)) (make tt) (when ((code == 2) && (s == 2)) report_read nothing) bytes w rest h) [
      | inl e ↦ is_one ((code == 1) || (code == 3) || (code == 4)) s e
      | inr e ↦ elim (when_parts ((code == 2) && (s == 2)) report_read nothing bytes w rest e) [ inl f ↦ is_two (code == 2) s f | inr f ↦ absurd cc ]
    ]
  where
    is_one : (t : Bool) (n : ℕ) → (t && (n == 1)) ≡ true → n ≤ 2
    is_one t n e = grind (arith, nat_tests)

    is_two : (t : Bool) (n : ℕ) → (t && (n == 2)) ≡ true → n ≤ 2
    is_two t n e = grind (arith, nat_tests)

-- one byte or two
pub record StateLength (bytes rest : List ℕ) : Type 0 where
  pub least : 1 + length rest ≤ length bytes
  pub most : length bytes ≤ 2 + length rest

pub state_length : (bytes : List ℕ) (v : RecState) (rest : List ℕ) → AreBytes bytes → read_state bytes ≡ Some (v, rest) → StateLength bytes rest
state_length bytes v rest fits h =
    let least : 1 + length rest ≤ length bytes = consumed read_state state_scan.steady refl bytes v rest h in
    let s : ℕ = length bytes - length rest in
    let p = (state_sized s (omega (arith, least))).back bytes v rest fits h (omega (arith, least)) in
    let small : s ≤ 2 = state_small s bytes p.0 rest p.1 in
    record { least = least; most = omega (arith, small) }
