-- A dialogue record of a given length.
use Rattle.std.proofs.Common.{◌≡◌, ℕ, ◌≤◌, ◌+◌, ◌-◌, ◌==◌, ◌&&◌, ◌||◌, Bool, true, false, cond, ◌⊎◌, inl, inr, Some, None, List, [], ◌∷◌, length, refl, sym, ap, subst, ◌∙◌, length-append, arith}
use Rattle.std.specs.Prelude.{nat_le}
use Rattle.std.proofs.lemmas.Bool.Decides.{nat_tests}
use Rattle.tp_names.specs.Reading.{Reader, make, ◌and◌, read_report, read_aaid, read_branch, read_octets}
use Rattle.tp_names.specs.Scanning.{Scan, scan_make, ◌with◌, scan_report}
use Rattle.tp_names.specs.Places.{AreBytes, IsScan, Sample}
use Rattle.tp_names.proofs.Sequences.{ok_of, some_pair, steady_make, Both, both_parts, scan_made, scan_both}
use Rattle.tp_names.proofs.Values.{report_scan}
use Rattle.tp_names.proofs.First.{first_scan}
use Rattle.tp_names.specs.declared.outcome.Report.{Report}
use Rattle.tp_names.specs.declared.identifiers.Aaid.{Aaid}
use Rattle.tp_names.specs.declared.identifiers.BranchId.{BranchId}
use Rattle.tp_records.specs.declared.dialogue.DialogueRecord.{DialogueRecord}
use Rattle.tp_records.specs.declared.dialogue.Holder.{Holder}
use Rattle.tp_records.specs.BodyReading.{read_holder, dialogue_kinds, read_dialogue}
use Rattle.tp_records.specs.BodyScanning.{scan_holder}
use Rattle.tp_records.specs.SentScanning.{is_bare, scan_names_of, scan_octets_of, scan_dialogue_of}
use Rattle.tp_records.proofs.Scans.{holder_scan, dialogue_scan}
use Rattle.tp_names.proofs.Counts.{OctetsParts, octets_parts}
use Rattle.tp_records.proofs.Parts.{report_fixed, code_fixed}
use Rattle.tp_records.proofs.Agreeing.{IsFixed, Sized, made_fixed, made_sized, both_fixed, fixed_sized, fixed_then, then_fixed, mapped_sized, named_sized, Missing, code_sized, ranged_row, fixed_row, when_parts, off, consumed, outside_codes, beyond, within, Bounds, bounds, IsTried, when, when_scanned, when_tried, nothing, refused, none_tried, swapped}
use Rattle.tp_records.proofs.NamesOf.{read_names_of, names_scan, names_sized, names_steady, NamesLength, names_length}
use Rattle.tp_records.proofs.OctetsOf.{read_octets_of, octets_scan_of, octets_sized}

abbrev pub read_begin : ℕ → Reader (Unit {0})
read_begin d = make (λ n h. tt) and read_names_of (d - 40) and read_holder

abbrev scan_begin : ℕ → Scan (Unit {0})
scan_begin d = scan_make (λ n h. tt) with scan_names_of (d - 40) with scan_holder

abbrev report_read : Reader (Unit {0})
report_read = make (λ r. tt) and read_report

abbrev report_scanned : Scan (Unit {0})
report_scanned = scan_make (λ r. tt) with scan_report

-- the rows of a record after its code, from the last to the first
abbrev row_4 : ℕ → ℕ → Reader (Unit {0})
row_4 d code = when ((code == 12) && (nat_le 42 d && nat_le d 72)) (read_begin d) nothing

abbrev row_3 : ℕ → ℕ → Reader (Unit {0})
row_3 d code = when ((code == 2) && (nat_le 3 d && nat_le d 1027)) (read_octets_of (d - 3)) (row_4 d code)

abbrev row_2 : ℕ → ℕ → Reader (Unit {0})
row_2 d code = when (((code == 16) || (code == 18)) && (d == 2)) report_read (row_3 d code)

abbrev pub read_dialogue_kind : ℕ → ℕ → Reader (Unit {0})
read_dialogue_kind d code = when (is_bare code && (d == 1)) (make tt) (row_2 d code)

abbrev scanned_4 : ℕ → ℕ → Scan (Unit {0})
scanned_4 d code = when_scanned ((code == 12) && (nat_le 42 d && nat_le d 72)) (scan_begin d) refused

abbrev scanned_3 : ℕ → ℕ → Scan (Unit {0})
scanned_3 d code = when_scanned ((code == 2) && (nat_le 3 d && nat_le d 1027)) (scan_octets_of (d - 3)) (scanned_4 d code)

abbrev scanned_2 : ℕ → ℕ → Scan (Unit {0})
scanned_2 d code = when_scanned (((code == 16) || (code == 18)) && (d == 2)) report_scanned (scanned_3 d code)

abbrev scan_dialogue_kind : ℕ → ℕ → Scan (Unit {0})
scan_dialogue_kind d code = when_scanned (is_bare code && (d == 1)) (scan_make tt) (scanned_2 d code)

abbrev pub read_dialogue_of : ℕ → Reader (Unit {0})
read_dialogue_of d [] = None
read_dialogue_of d (code ∷ bytes) = read_dialogue_kind d code bytes

begin_bounds : (t : Bool) (d : ℕ) → (t && (nat_le 42 d && nat_le d 72)) ≡ true → (42 ≤ d) × (d ≤ 72)
begin_bounds t d h = (grind (arith, nat_tests), grind (arith, nat_tests))

octets_bound : (t : Bool) (d : ℕ) → (t && (nat_le 3 d && nat_le d 1027)) ≡ true → d ≤ 1027
octets_bound t d h = grind (arith, nat_tests)

begin_scan : (d : ℕ) → 42 ≤ d → d ≤ 72 → IsScan (read_begin d) (scan_begin d)
begin_scan d low high =
    scan_both (make (λ n h. tt) and read_names_of (d - 40)) read_holder (scan_make (λ n h. tt) with scan_names_of (d - 40)) scan_holder
    (scan_both (make (λ n h. tt)) (read_names_of (d - 40)) (scan_make (λ n h. tt)) (scan_names_of (d - 40)) (scan_made (λ n h. tt)) (names_scan (d - 40) (omega (arith, low)) (omega (arith, high)))) holder_scan

tried : (d code : ℕ) → IsTried (read_dialogue_kind d code) (scan_dialogue_kind d code)
tried d code =
    when_tried (is_bare code && (d == 1)) (make tt) (row_2 d code) (scan_make tt) (scanned_2 d code) (λ e. scan_made tt)
    (when_tried (((code == 16) || (code == 18)) && (d == 2)) report_read (row_3 d code) report_scanned (scanned_3 d code)
    (λ e. scan_both (make (λ r. tt)) read_report (scan_make (λ r. tt)) scan_report (scan_made (λ r. tt)) report_scan)
    (when_tried ((code == 2) && (nat_le 3 d && nat_le d 1027)) (read_octets_of (d - 3)) (row_4 d code) (scan_octets_of (d - 3)) (scanned_4 d code)
    (λ e. let b : d ≤ 1027 = octets_bound (code == 2) d e in octets_scan_of (d - 3) (omega (arith, b)))
    (when_tried ((code == 12) && (nat_le 42 d && nat_le d 72)) (read_begin d) nothing (scan_begin d) refused
    (λ e. let b = begin_bounds (code == 12) d e in begin_scan d b.0 b.1) none_tried)))

one_sample : Sample (read_dialogue_of 1)
unfolding is_bare
one_sample = record { value = tt; text = 1 ∷ []; bytes = (omega arith, tt); reads = refl }

two_sample : Sample (read_dialogue_of 2)
unfolding is_bare
two_sample = record { value = tt; text = 16 ∷ 0 ∷ []; bytes = (omega arith, (omega arith, tt)); reads = refl }

octets_sample : (d : ℕ) → 3 ≤ d → d ≤ 1027 → Sample (read_dialogue_of d)
unfolding is_bare
octets_sample d low high =
    let s : Sample (read_octets_of (d - 3)) = (octets_scan_of (d - 3) (omega (arith, high))).sample in
    let fits : (nat_le 3 d && nat_le d 1027) ≡ true = grind (arith, nat_tests) in
    record {
      value = s.value;
      text = 2 ∷ s.text;
      bytes = (omega arith, s.bytes);
      reads = ap (λ (t : Bool). cond t (read_octets_of (d - 3) s.text) (row_4 d 2 s.text)) fits ∙ s.reads;
    }

sample_of : (d : ℕ) → 1 ≤ d → d ≤ 1027 → Sample (read_dialogue_of d)
sample_of d low high =
    let P : ℕ → Type 0 = λ n. Sample (read_dialogue_of n) in
    elim (cases d low) [
      | inl e ↦ subst P (sym e) one_sample
      | inr e ↦ elim e [ inl f ↦ subst P (sym f) two_sample | inr f ↦ octets_sample d f high ]
    ]
  where
    cases : (n : ℕ) → 1 ≤ n → (n ≡ 1) ⊎ ((n ≡ 2) ⊎ (3 ≤ n))
    cases n h = grind arith

pub dialogue_scan_of : (d : ℕ) → 1 ≤ d → d ≤ 1027 → IsScan (read_dialogue_of d) (scan_dialogue_of d)
unfolding scan_dialogue_of
dialogue_scan_of d low high =
    first_scan (read_dialogue_of d) (read_dialogue_kind d) (scan_dialogue_of d) (scan_dialogue_kind d)
    (record { none = refl; some = λ b bytes. refl })
    (record {
      none = refl;
      some = λ b bytes.
          swapped (d == 1) (is_bare b) (ok_of tt bytes) _ _
          (swapped (d == 2) ((b == 16) || (b == 18)) (report_scanned bytes) _ _
          (swapped (nat_le 3 d && nat_le d 1027) (b == 2) (scan_octets_of (d - 3) bytes) _ _
          (swapped (nat_le 42 d && nat_le d 72) (b == 12) (scan_begin d bytes) (refused bytes) (refused bytes) refl)));
    })
    (λ code. (tried d code).each) (sample_of d low high)

-- ---- the dialogue records of that length

holder_fixed : IsFixed 1 read_holder
holder_fixed = code_fixed 0 ((0, make Holder.None) ∷ (1, make Holder.Superior) ∷ (2, make Holder.Subordinate) ∷ []) (made_fixed Holder.None, (made_fixed Holder.Superior, (made_fixed Holder.Subordinate, tt)))

abbrev code_alone : Reader (Unit {0})
code_alone = make tt

bare_row : (d : ℕ) → 1 ≤ d → (r : DialogueRecord) → Sized (d - 1) (make r) (when (d == 1) code_alone nothing)
bare_row d low r = fixed_row d 1 0 (make r) code_alone low refl (made_fixed r) (made_sized r tt)

report_row : (d : ℕ) → 1 ≤ d → (f : Report → DialogueRecord) → Sized (d - 1) (make f and read_report) (when (d == 2) report_read nothing)
report_row d low f =
    fixed_row d 2 1 (make f and read_report) report_read low refl (both_fixed 0 1 (make f) read_report (made_fixed f) report_fixed)
    (fixed_then 0 1 (make f) read_report (make (λ r. tt)) read_report (steady_make f) (made_fixed f) (made_sized f (λ r. tt)) (fixed_sized 1 read_report report_fixed))

abbrev user_data : List ℕ → DialogueRecord
user_data xs = DialogueRecord.UserData xs

octets_row : (d : ℕ) → 1 ≤ d → Sized (d - 1) (make user_data and read_octets 1024) (when (nat_le 3 d && nat_le d 1027) (read_octets_of (d - 3)) nothing)
octets_row d low =
    ranged_row (d - 1) (nat_le 3 d && nat_le d 1027) (make user_data and read_octets 1024) (read_octets_of (d - 3))
    (λ e.
    let b : Bounds 3 1027 d = bounds 3 1027 d e in
    let P : ℕ → Type 0 = λ i. Sized i (make user_data and read_octets 1024) (read_octets_of (d - 3)) in
    let same : 2 + (d - 3) ≡ d - 1 = omega (arith, b.least) in
    subst P same (named_sized (2 + (d - 3)) (read_octets 1024) (read_octets_of (d - 3)) user_data (octets_sized 1024 (d - 3) (omega (arith, b.most)))))
    (λ bytes v rest fits h len.
    let b : Both (make user_data bytes) (read_octets 1024) v rest = both_parts (make user_data bytes) (read_octets 1024) v rest h in
    let e = some_pair user_data b.made bytes b.middle b.first in
    let x : OctetsParts 1024 b.middle b.part rest = octets_parts 1024 b.middle b.part rest b.second in
    let l : length bytes ≡ 2 + length b.part + length rest = omega (arith, ap length e.1, ap length x.parts, length-append b.part rest) in
    within 3 1027 d (omega (arith, l, len, low)) (omega (arith, l, len, low, x.fits)))

abbrev begun : Aaid → BranchId → Holder → DialogueRecord
begun a b h = DialogueRecord.Begin a b h

abbrev any_holder : Unit {0} → Holder → Unit {0}
any_holder n h = tt

begin_sized : (k : ℕ) → Sized (38 + k + 1) (make begun and read_aaid and read_branch and read_holder) (make any_holder and read_names_of k and read_holder)
begin_sized k =
    then_fixed (38 + k) 1 (make begun and read_aaid and read_branch) read_holder (make any_holder and read_names_of k) read_holder (names_steady begun) holder_fixed
    (mapped_sized (38 + k) (make begun and read_aaid and read_branch) (read_names_of k) any_holder (names_sized begun k)) (fixed_sized 1 read_holder holder_fixed)

begin_row : (d : ℕ) → 1 ≤ d → Sized (d - 1) (make begun and read_aaid and read_branch and read_holder) (when (nat_le 42 d && nat_le d 72) (read_begin d) nothing)
begin_row d low =
    ranged_row (d - 1) (nat_le 42 d && nat_le d 72) (make begun and read_aaid and read_branch and read_holder) (read_begin d)
    (λ e.
    let b : Bounds 42 72 d = bounds 42 72 d e in
    let P : ℕ → Type 0 = λ i. Sized i (make begun and read_aaid and read_branch and read_holder) (read_begin d) in
    let same : 38 + (d - 40) + 1 ≡ d - 1 = omega (arith, b.least) in
    subst P same (begin_sized (d - 40)))
    (λ bytes v rest fits h len.
    let b : Both ((make begun and read_aaid and read_branch) bytes) read_holder v rest = both_parts ((make begun and read_aaid and read_branch) bytes) read_holder v rest h in
    let x : NamesLength bytes b.middle = names_length begun bytes b.made b.middle b.first in
    let l = holder_fixed.len b.middle b.part rest b.second in
    within 42 72 d (omega (arith, x.least, l, len, low)) (omega (arith, x.most, l, len, low)))

not_bare : (code : ℕ) → (code ≡ 0) ⊎ (21 ≤ code) → is_bare code ≡ false
unfolding is_bare
not_bare code (inl e) = ap is_bare e
not_bare code (inr e) = grind (arith, nat_tests)

neither : (a b : Bool) → a ≡ false → b ≡ false → (a || b) ≡ false
neither false false x y = refl
neither false true x y = y
neither true b x y = absurd cc

dialogue_codes : (d code : ℕ) → Missing dialogue_kinds code → (bytes : List ℕ) → read_dialogue_kind d code bytes ≡ None
dialogue_codes d code m bytes =
    let e : (code ≡ 0) ⊎ (21 ≤ code) = outside_codes code dialogue_kinds
    (refl, (refl, (refl, (refl, (refl, (refl, (refl, (refl, (refl, (refl, (refl, (refl, (refl, (refl, (refl, (refl, (refl, (refl, (refl, (refl, tt)))))))))))))))))))) m in
    off (is_bare code) (d == 1) (make tt) (row_2 d code) bytes (not_bare code e)
    ∙ off ((code == 16) || (code == 18)) (d == 2) report_read (row_3 d code) bytes (neither (code == 16) (code == 18) (beyond 21 code 16 e (omega arith) (omega arith)) (beyond 21 code 18 e (omega arith) (omega arith)))
    ∙ off (code == 2) (nat_le 3 d && nat_le d 1027) (read_octets_of (d - 3)) (row_4 d code) bytes (beyond 21 code 2 e (omega arith) (omega arith))
    ∙ off (code == 12) (nat_le 42 d && nat_le d 72) (read_begin d) nothing bytes (beyond 21 code 12 e (omega arith) (omega arith))

pub dialogue_sized : (d : ℕ) → 1 ≤ d → Sized d read_dialogue (read_dialogue_of d)
unfolding is_bare
dialogue_sized d low =
    code_sized d dialogue_kinds (read_dialogue_kind d) (read_dialogue_of d) low refl (λ code bytes. refl) (
      bare_row d low DialogueRecord.EndDialogue,
      (
        octets_row d low,
        (
          bare_row d low DialogueRecord.UError,
          (
            bare_row d low DialogueRecord.UAbort,
            (
              bare_row d low DialogueRecord.Grant,
              (
                bare_row d low DialogueRecord.AskControl,
                (
                  bare_row d low DialogueRecord.Handshake,
                  (
                    bare_row d low DialogueRecord.HandshakeGrant,
                    (
                      bare_row d low DialogueRecord.Response,
                      (
                        bare_row d low DialogueRecord.DeferEnd,
                        (
                          bare_row d low DialogueRecord.DeferGrant,
                          (
                            begin_row d low,
                            (
                              bare_row d low DialogueRecord.Prepare,
                              (
                                bare_row d low DialogueRecord.Ready,
                                (
                                  bare_row d low DialogueRecord.Commit,
                                  (
                                    report_row d low (λ r. DialogueRecord.Done r),
                                    (
                                      bare_row d low DialogueRecord.Rollback,
                                      (
                                        report_row d low (λ r. DialogueRecord.RolledBack r),
                                        (
                                          bare_row d low DialogueRecord.Left,
                                          (
                                            bare_row d low DialogueRecord.LeftEnd,
                                            tt,
                                          ),
                                        ),
                                      ),
                                    ),
                                  ),
                                ),
                              ),
                            ),
                          ),
                        ),
                      ),
                    ),
                  ),
                ),
              ),
            ),
          ),
        ),
      ),
    )
    (dialogue_codes d)

dialogue_small : (d : ℕ) (bytes : List ℕ) (w : Unit {0}) (rest : List ℕ) → read_dialogue_of d bytes ≡ Some (w, rest) → d ≤ 1027
dialogue_small d [] w rest h = absurd cc
dialogue_small d (code ∷ bytes) w rest h =
    elim (when_parts (is_bare code && (d == 1)) (make tt) (row_2 d code) bytes w rest h) [
      | inl e ↦ is (is_bare code) 1 d (omega arith) e
      | inr h ↦ elim (when_parts (((code == 16) || (code == 18)) && (d == 2)) report_read (row_3 d code) bytes w rest h) [
        | inl e ↦ is ((code == 16) || (code == 18)) 2 d (omega arith) e
        | inr h ↦ elim (when_parts ((code == 2) && (nat_le 3 d && nat_le d 1027)) (read_octets_of (d - 3)) (row_4 d code) bytes w rest h) [
          | inl e ↦ upto (code == 2) 3 1027 d (omega arith) e
          | inr h ↦ elim (when_parts ((code == 12) && (nat_le 42 d && nat_le d 72)) (read_begin d) nothing bytes w rest h) [ inl e ↦ upto (code == 12) 42 72 d (omega arith) e | inr h ↦ absurd cc ]
        ]
      ]
    ]
  where
    is : (t : Bool) (k n : ℕ) → k ≤ 1027 → (t && (n == k)) ≡ true → n ≤ 1027
    is t k n le e = grind (arith, nat_tests)

    upto : (t : Bool) (low high n : ℕ) → high ≤ 1027 → (t && (nat_le low n && nat_le n high)) ≡ true → n ≤ 1027
    upto t low high n le e = grind (arith, nat_tests)

-- 1 to 1027 bytes
pub record DialogueLength (bytes rest : List ℕ) : Type 0 where
  pub least : 1 + length rest ≤ length bytes
  pub most : length bytes ≤ 1027 + length rest

pub dialogue_length : (bytes : List ℕ) (v : DialogueRecord) (rest : List ℕ) → AreBytes bytes → read_dialogue bytes ≡ Some (v, rest) → DialogueLength bytes rest
dialogue_length bytes v rest fits h =
    let least : 1 + length rest ≤ length bytes = consumed read_dialogue dialogue_scan.steady refl bytes v rest h in
    let d : ℕ = length bytes - length rest in
    let p = (dialogue_sized d (omega (arith, least))).back bytes v rest fits h (omega (arith, least)) in
    let small : d ≤ 1027 = dialogue_small d bytes p.0 rest p.1 in
    record { least = least; most = omega (arith, small) }
