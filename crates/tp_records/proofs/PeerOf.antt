-- A peer record of a given length, and the walk through one after its count.
use Rattle.std.proofs.Common.{eq-eqb, ◌≡◌, ℕ, ◌≤◌, ◌+◌, ◌*◌, ◌-◌, ◌==◌, ◌&&◌, ◌||◌, Bool, true, false, cond, ◌⊎◌, inl, inr, Option, Some, None, List, [], ◌∷◌, length, refl, sym, ap, subst, ◌∙◌, arith}
use Rattle.std.specs.Prelude.{nat_le}
use Rattle.std.proofs.lemmas.Bool.Decides.{nat_tests}
use Rattle.tp_names.specs.declared.identifiers.Mark.{Mark}
use Rattle.tp_names.specs.declared.identifiers.Aaid.{Aaid}
use Rattle.tp_names.specs.declared.identifiers.BranchId.{BranchId}
use Rattle.tp_records.specs.declared.dialogue.DialogueRecord.{DialogueRecord}
use Rattle.tp_records.specs.declared.peer.PeerRecord.{PeerRecord}
use Rattle.tp_records.specs.declared.peer.RecState.{RecState}
use Rattle.tp_names.specs.Reading.{Reader, make, ◌and◌, read_mark, read_long, read_maybe, read_aaid, read_branch}
use Rattle.tp_names.specs.Scanning.{Scan, scan_make, ◌with◌, scan_mark, scan_long, scan_this}
use Rattle.tp_names.specs.Places.{AreBytes, IsSteady, IsScan, Sample}
use Rattle.tp_names.proofs.Sequences.{some_pair, steady_make, steady_and, behind_bytes, Both, both_parts, both_read, scan_made, scan_both}
use Rattle.tp_names.proofs.Numbers.{long_scan}
use Rattle.tp_names.proofs.Values.{mark_scan}
use Rattle.tp_names.proofs.First.{first_scan}
use Rattle.tp_records.specs.BodyReading.{read_units, read_dialogue, read_state, peer_kinds, read_peer}
use Rattle.tp_records.specs.BodyScanning.{scan_units}
use Rattle.tp_records.specs.SentScanning.{scan_names_of, scan_reply_of, scan_dialogue_of, scan_peer_of, is_peer_length}
use Rattle.tp_records.proofs.Scans.{units_scan}
use Rattle.tp_records.proofs.Agreeing.{IsFixed, Sized, made_fixed, made_sized, both_fixed, fixed_sized, fixed_then, Missing, code_sized, when_sized, ranged_row, fixed_row, when_parts, off, outside_codes, beyond, within, Bounds, bounds, same_code, IsTried, when, when_scanned, when_tried, nothing, refused, none_tried, swapped}
use Rattle.tp_records.proofs.Parts.{read_this, this_scan, this_is, this_taken, mark_fixed, long_fixed, units_fixed}
use Rattle.tp_records.proofs.NamesOf.{read_names_of, names_scan, names_sized, names_steady, NamesLength, names_length}
use Rattle.tp_records.proofs.ReplyOf.{read_reply_of, reply_scan, reply_sized}
use Rattle.tp_records.proofs.StateOf.{StateLength, state_length}
use Rattle.tp_records.proofs.DialogueOf.{read_dialogue_of, dialogue_scan_of, dialogue_sized, DialogueLength, dialogue_length}

abbrev pub read_open : Reader (Unit {0})
read_open = make (λ x u. tt) and read_mark and read_units

abbrev pub read_accept : Reader (Unit {0})
read_accept = make (λ x y u. tt) and read_mark and read_mark and read_units

abbrev pub read_shut_one : Reader (Unit {0})
read_shut_one = make (λ x f. tt) and read_mark and read_this 0

abbrev pub read_shut_two : Reader (Unit {0})
read_shut_two = make (λ x f y. tt) and read_mark and read_this 1 and read_mark

abbrev pub read_on : ℕ → Reader (Unit {0})
read_on n = make (λ x y s r. tt) and read_mark and read_mark and read_long and read_dialogue_of (n - 45)

abbrev scan_open : Scan (Unit {0})
scan_open = scan_make (λ x u. tt) with scan_mark with scan_units

abbrev scan_accept : Scan (Unit {0})
scan_accept = scan_make (λ x y u. tt) with scan_mark with scan_mark with scan_units

abbrev scan_shut_one : Scan (Unit {0})
scan_shut_one = scan_make (λ x f. tt) with scan_mark with scan_this 0

abbrev scan_shut_two : Scan (Unit {0})
scan_shut_two = scan_make (λ x f y. tt) with scan_mark with scan_this 1 with scan_mark

abbrev scan_on : ℕ → Scan (Unit {0})
scan_on n = scan_make (λ x y s r. tt) with scan_mark with scan_mark with scan_long with scan_dialogue_of (n - 45)

open_is : IsScan read_open scan_open
open_is =
    scan_both (make (λ x u. tt) and read_mark) read_units (scan_make (λ x u. tt) with scan_mark) scan_units
    (scan_both (make (λ x u. tt)) read_mark (scan_make (λ x u. tt)) scan_mark (scan_made (λ x u. tt)) mark_scan) units_scan

accept_is : IsScan read_accept scan_accept
accept_is =
    scan_both (make (λ x y u. tt) and read_mark and read_mark) read_units (scan_make (λ x y u. tt) with scan_mark with scan_mark) scan_units
    (scan_both (make (λ x y u. tt) and read_mark) read_mark (scan_make (λ x y u. tt) with scan_mark) scan_mark
    (scan_both (make (λ x y u. tt)) read_mark (scan_make (λ x y u. tt)) scan_mark (scan_made (λ x y u. tt)) mark_scan) mark_scan) units_scan

shut_one_is : IsScan read_shut_one scan_shut_one
shut_one_is =
    scan_both (make (λ x f. tt) and read_mark) (read_this 0) (scan_make (λ x f. tt) with scan_mark) (scan_this 0)
    (scan_both (make (λ x f. tt)) read_mark (scan_make (λ x f. tt)) scan_mark (scan_made (λ x f. tt)) mark_scan) (this_scan 0 (omega arith))

shut_two_is : IsScan read_shut_two scan_shut_two
shut_two_is =
    scan_both (make (λ x f y. tt) and read_mark and read_this 1) read_mark (scan_make (λ x f y. tt) with scan_mark with scan_this 1) scan_mark
    (scan_both (make (λ x f y. tt) and read_mark) (read_this 1) (scan_make (λ x f y. tt) with scan_mark) (scan_this 1)
    (scan_both (make (λ x f y. tt)) read_mark (scan_make (λ x f y. tt)) scan_mark (scan_made (λ x f y. tt)) mark_scan) (this_scan 1 (omega arith))) mark_scan

on_is : (n : ℕ) → 46 ≤ n → n ≤ 1072 → IsScan (read_on n) (scan_on n)
on_is n low high =
    scan_both (make (λ x y s r. tt) and read_mark and read_mark and read_long) (read_dialogue_of (n - 45)) (scan_make (λ x y s r. tt) with scan_mark with scan_mark with scan_long) (scan_dialogue_of (n - 45))
    (scan_both (make (λ x y s r. tt) and read_mark and read_mark) read_long (scan_make (λ x y s r. tt) with scan_mark with scan_mark) scan_long
    (scan_both (make (λ x y s r. tt) and read_mark) read_mark (scan_make (λ x y s r. tt) with scan_mark) scan_mark
    (scan_both (make (λ x y s r. tt)) read_mark (scan_make (λ x y s r. tt)) scan_mark (scan_made (λ x y s r. tt)) mark_scan) mark_scan) long_scan)
    (dialogue_scan_of (n - 45) (omega (arith, low)) (omega (arith, high)))

-- ---- the rows, from the last to the first

abbrev row_7 : ℕ → ℕ → Reader (Unit {0})
row_7 n code = when ((code == 7) && (nat_le 42 n && nat_le n 73)) (read_reply_of (n - 39)) nothing

abbrev row_5 : ℕ → ℕ → Reader (Unit {0})
row_5 n code = when (((code == 5) || (code == 6) || (code == 8)) && (nat_le 41 n && nat_le n 71)) (read_names_of (n - 39)) (row_7 n code)

abbrev row_4 : ℕ → ℕ → Reader (Unit {0})
row_4 n code = when ((code == 4) && (nat_le 46 n && nat_le n 1072)) (read_on n) (row_5 n code)

abbrev row_two : ℕ → ℕ → Reader (Unit {0})
row_two n code = when ((code == 3) && (n == 38)) read_shut_two (row_4 n code)

abbrev row_one : ℕ → ℕ → Reader (Unit {0})
row_one n code = when ((code == 3) && (n == 20)) read_shut_one (row_two n code)

abbrev row_2 : ℕ → ℕ → Reader (Unit {0})
row_2 n code = when ((code == 2) && (n == 38)) read_accept (row_one n code)

abbrev pub read_peer_kind : ℕ → ℕ → Reader (Unit {0})
read_peer_kind n code = when ((code == 1) && (n == 20)) read_open (row_2 n code)

abbrev scanned_7 : ℕ → ℕ → Scan (Unit {0})
scanned_7 n code = when_scanned ((code == 7) && (nat_le 42 n && nat_le n 73)) (scan_reply_of (n - 39)) refused

abbrev scanned_5 : ℕ → ℕ → Scan (Unit {0})
scanned_5 n code = when_scanned (((code == 5) || (code == 6) || (code == 8)) && (nat_le 41 n && nat_le n 71)) (scan_names_of (n - 39)) (scanned_7 n code)

abbrev scanned_4 : ℕ → ℕ → Scan (Unit {0})
scanned_4 n code = when_scanned ((code == 4) && (nat_le 46 n && nat_le n 1072)) (scan_on n) (scanned_5 n code)

abbrev scanned_two : ℕ → ℕ → Scan (Unit {0})
scanned_two n code = when_scanned ((code == 3) && (n == 38)) scan_shut_two (scanned_4 n code)

abbrev scanned_one : ℕ → ℕ → Scan (Unit {0})
scanned_one n code = when_scanned ((code == 3) && (n == 20)) scan_shut_one (scanned_two n code)

abbrev scanned_2 : ℕ → ℕ → Scan (Unit {0})
scanned_2 n code = when_scanned ((code == 2) && (n == 38)) scan_accept (scanned_one n code)

abbrev scan_peer_kind : ℕ → ℕ → Scan (Unit {0})
scan_peer_kind n code = when_scanned ((code == 1) && (n == 20)) scan_open (scanned_2 n code)

abbrev pub read_peer_of : ℕ → Reader (Unit {0})
read_peer_of n [] = None
read_peer_of n (code ∷ bytes) = read_peer_kind n code bytes

row_bounds : (t : Bool) (low high n : ℕ) → (t && (nat_le low n && nat_le n high)) ≡ true → (low ≤ n) × (n ≤ high)
row_bounds t low high n h = (grind (arith, nat_tests), grind (arith, nat_tests))

tried : (n code : ℕ) → IsTried (read_peer_kind n code) (scan_peer_kind n code)
tried n code =
    when_tried ((code == 1) && (n == 20)) read_open (row_2 n code) scan_open (scanned_2 n code) (λ e. open_is)
    (when_tried ((code == 2) && (n == 38)) read_accept (row_one n code) scan_accept (scanned_one n code) (λ e. accept_is)
    (when_tried ((code == 3) && (n == 20)) read_shut_one (row_two n code) scan_shut_one (scanned_two n code) (λ e. shut_one_is)
    (when_tried ((code == 3) && (n == 38)) read_shut_two (row_4 n code) scan_shut_two (scanned_4 n code) (λ e. shut_two_is)
    (when_tried ((code == 4) && (nat_le 46 n && nat_le n 1072)) (read_on n) (row_5 n code) (scan_on n) (scanned_5 n code) (λ e. let b = row_bounds (code == 4) 46 1072 n e in on_is n b.0 b.1)
    (when_tried (((code == 5) || (code == 6) || (code == 8)) && (nat_le 41 n && nat_le n 71)) (read_names_of (n - 39)) (row_7 n code) (scan_names_of (n - 39)) (scanned_7 n code)
    (λ e. let b = row_bounds ((code == 5) || (code == 6) || (code == 8)) 41 71 n e in names_scan (n - 39) (omega (arith, b.0)) (omega (arith, b.1)))
    (when_tried ((code == 7) && (nat_le 42 n && nat_le n 73)) (read_reply_of (n - 39)) nothing (scan_reply_of (n - 39)) refused
    (λ e. let b = row_bounds (code == 7) 42 73 n e in reply_scan (n - 39) (omega (arith, b.0)) (omega (arith, b.1))) none_tried))))))

sample_20 : Sample (read_peer_of 20)
sample_20 = let s : Sample read_open = open_is.sample in record { value = s.value; text = 1 ∷ s.text; bytes = (omega arith, s.bytes); reads = s.reads }

sample_38 : Sample (read_peer_of 38)
sample_38 = let s : Sample read_accept = accept_is.sample in record { value = s.value; text = 2 ∷ s.text; bytes = (omega arith, s.bytes); reads = s.reads }

sample_names : (n : ℕ) → 41 ≤ n → n ≤ 71 → Sample (read_peer_of n)
sample_names n low high =
    let s : Sample (read_names_of (n - 39)) = (names_scan (n - 39) (omega (arith, low)) (omega (arith, high))).sample in
    record { value = s.value; text = 5 ∷ s.text; bytes = (omega arith, s.bytes); reads = ap (λ (t : Bool). cond t (read_names_of (n - 39) s.text) (row_7 n 5 s.text)) (within 41 71 n low high) ∙ s.reads }

sample_on : (n : ℕ) → 46 ≤ n → n ≤ 1072 → Sample (read_peer_of n)
sample_on n low high =
    let s : Sample (read_on n) = (on_is n low high).sample in
    record { value = s.value; text = 4 ∷ s.text; bytes = (omega arith, s.bytes); reads = ap (λ (t : Bool). cond t (read_on n s.text) (row_5 n 4 s.text)) (within 46 1072 n low high) ∙ s.reads }

lengths : (n : ℕ) → is_peer_length n ≡ true → ((n ≡ 20) ⊎ (n ≡ 38)) ⊎ (((41 ≤ n) × (n ≤ 71)) ⊎ ((46 ≤ n) × (n ≤ 1072)))
lengths n h = grind (arith, nat_tests)

sample_of : (n : ℕ) → is_peer_length n ≡ true → Sample (read_peer_of n)
sample_of n h =
    let P : ℕ → Type 0 = λ m. Sample (read_peer_of m) in
    elim (lengths n h) [
      | inl e ↦ elim e [ inl f ↦ subst P (sym f) sample_20 | inr f ↦ subst P (sym f) sample_38 ]
      | inr e ↦ elim e [ inl f ↦ sample_names n f.0 f.1 | inr f ↦ sample_on n f.0 f.1 ]
    ]

pub peer_scan_of : (n : ℕ) → is_peer_length n ≡ true → IsScan (read_peer_of n) (scan_peer_of n)
unfolding scan_peer_of
peer_scan_of n h =
    first_scan (read_peer_of n) (read_peer_kind n) (scan_peer_of n) (scan_peer_kind n)
    (record { none = refl; some = λ b bytes. refl })
    (record {
      none = refl;
      some = λ b bytes.
          swapped (n == 20) (b == 1) (scan_open bytes) _ _
          (swapped (n == 38) (b == 2) (scan_accept bytes) _ _
          (swapped (n == 20) (b == 3) (scan_shut_one bytes) _ _
          (swapped (n == 38) (b == 3) (scan_shut_two bytes) _ _
          (swapped (nat_le 46 n && nat_le n 1072) (b == 4) (scan_on n bytes) _ _
          (swapped (nat_le 41 n && nat_le n 71) ((b == 5) || (b == 6) || (b == 8)) (scan_names_of (n - 39) bytes) _ _
          (swapped (nat_le 42 n && nat_le n 73) (b == 7) (scan_reply_of (n - 39) bytes) (refused bytes) (refused bytes) refl))))));
    })
    (λ code. (tried n code).each) (sample_of n h)

-- ---- the peer records of that length

one_fixed : {A : Type 0} (f : Mark → A) → IsFixed 18 (make f and read_mark)
one_fixed f = both_fixed 0 18 (make f) read_mark (made_fixed f) mark_fixed

one_steady : {A : Type 0} (f : Mark → A) → IsSteady (make f and read_mark)
one_steady f = steady_and (make f) read_mark (steady_make f) mark_scan.steady

one_sized : {A B : Type 0} (f : Mark → A) (g : Mark → B) → Sized 18 (make f and read_mark) (make g and read_mark)
one_sized f g = fixed_then 0 18 (make f) read_mark (make g) read_mark (steady_make f) (made_fixed f) (made_sized f g) (fixed_sized 18 read_mark mark_fixed)

two_fixed : {A : Type 0} (f : Mark → Mark → A) → IsFixed 36 (make f and read_mark and read_mark)
two_fixed f = both_fixed 18 18 (make f and read_mark) read_mark (one_fixed f) mark_fixed

two_steady : {A : Type 0} (f : Mark → Mark → A) → IsSteady (make f and read_mark and read_mark)
two_steady f = steady_and (make f and read_mark) read_mark (one_steady f) mark_scan.steady

two_sized : {A B : Type 0} (f : Mark → Mark → A) (g : Mark → Mark → B) → Sized 36 (make f and read_mark and read_mark) (make g and read_mark and read_mark)
two_sized f g = fixed_then 18 18 (make f and read_mark) read_mark (make g and read_mark) read_mark (one_steady f) (one_fixed f) (one_sized f g) (fixed_sized 18 read_mark mark_fixed)

abbrev opened : Mark → ℕ → PeerRecord
opened x u = PeerRecord.OpenAssoc x u

open_row : (n : ℕ) → 1 ≤ n → Sized (n - 1) (make opened and read_mark and read_units) (when (n == 20) read_open nothing)
open_row n low =
    fixed_row n 20 19 (make opened and read_mark and read_units) read_open low refl (both_fixed 18 1 (make opened and read_mark) read_units (one_fixed opened) units_fixed)
    (fixed_then 18 1 (make opened and read_mark) read_units (make (λ x u. tt) and read_mark) read_units (one_steady opened) (one_fixed opened) (one_sized opened (λ x u. tt)) (fixed_sized 1 read_units units_fixed))

abbrev accepted : Mark → Mark → ℕ → PeerRecord
accepted x y u = PeerRecord.AcceptAssoc x y u

accept_row : (n : ℕ) → 1 ≤ n → Sized (n - 1) (make accepted and read_mark and read_mark and read_units) (when (n == 38) read_accept nothing)
accept_row n low =
    fixed_row n 38 37 (make accepted and read_mark and read_mark and read_units) read_accept low refl (both_fixed 36 1 (make accepted and read_mark and read_mark) read_units (two_fixed accepted) units_fixed)
    (fixed_then 36 1 (make accepted and read_mark and read_mark) read_units (make (λ x y u. tt) and read_mark and read_mark) read_units (two_steady accepted) (two_fixed accepted) (two_sized accepted (λ x y u. tt)) (fixed_sized 1 read_units units_fixed))

-- ---- a mark, or none

pub record MarkRead (bytes rest : List ℕ) : Type 0 where
  pub mark : Mark
  pub behind : List ℕ
  pub parts : bytes ≡ 1 ∷ behind
  pub read : read_mark behind ≡ Some (mark, rest)

abbrev some_mark : Mark → Option Mark
some_mark m = Some m

maybe_parts : (bytes : List ℕ) (v : Option Mark) (rest : List ℕ) → read_maybe read_mark bytes ≡ Some (v, rest) → (bytes ≡ 0 ∷ rest) ⊎ MarkRead bytes rest
maybe_parts [] v rest h = absurd cc
maybe_parts (b ∷ more) v rest h = go (0 == (0 * 256 + b)) (1 == (0 * 256 + b)) refl refl h
  where
    go : (t u : Bool) → (0 == (0 * 256 + b)) ≡ t → (1 == (0 * 256 + b)) ≡ u
        → elim t as (λ _. Option (Option Mark × List ℕ)) [ true ↦ Some (None, more) | false ↦ elim u as (λ _. Option (Option Mark × List ℕ)) [ true ↦ (make some_mark and read_mark) more | false ↦ None ] ] ≡ Some (v, rest)
        → (b ∷ more ≡ 0 ∷ rest) ⊎ MarkRead (b ∷ more) rest
    go true u e f h =
        let none : Option Mark = None in
        let same = some_pair none v more rest h in
        let code : b ≡ 0 = (let c : 0 ≡ 0 * 256 + b = same_code 0 (0 * 256 + b) e in omega (arith, c)) in
        inl (ap (λ (n : ℕ). n ∷ more) code ∙ ap (λ (w : List ℕ). 0 ∷ w) same.1)
    go false true e f h =
        let b2 : Both (make some_mark more) read_mark v rest = both_parts (make some_mark more) read_mark v rest h in
        let same = some_pair some_mark b2.made more b2.middle b2.first in
        let code : b ≡ 1 = (let c : 1 ≡ 0 * 256 + b = same_code 1 (0 * 256 + b) f in omega (arith, c)) in
        inr (record { mark = b2.part; behind = b2.middle; parts = ap (λ (n : ℕ). n ∷ more) code ∙ ap (λ (w : List ℕ). 1 ∷ w) same.1; read = b2.second })
    go false false e f h = absurd cc

maybe_one : Sized 1 (read_maybe read_mark) (read_this 0)
maybe_one = record {
  there = λ bytes w rest h. let e = this_is 0 bytes w rest h in (None, (ap (read_maybe read_mark) e, omega (arith, ap length e)));
  back = λ bytes v rest fits h len. elim (maybe_parts bytes v rest h) [
    | inl e ↦ (tt, ap (read_this 0) e ∙ this_taken 0 rest)
    | inr x ↦ absurd (let l = mark_fixed.len x.behind x.mark rest x.read in omega (arith, len, l, ap length x.parts))
  ];
}

abbrev shut : Mark → Option Mark → PeerRecord
shut x y = PeerRecord.ShutAssoc x y

abbrev read_shut : Reader PeerRecord
read_shut = make shut and read_mark and read_maybe read_mark

abbrev any_flag : Mark → Unit {0} → Mark → Unit {0}
any_flag x f y = tt

shut_one_sized : Sized 19 read_shut read_shut_one
shut_one_sized =
    fixed_then 18 1 (make shut and read_mark) (read_maybe read_mark) (make (λ x f. tt) and read_mark) (read_this 0) (one_steady shut) (one_fixed shut) (one_sized shut (λ x f. tt)) maybe_one

shut_two_sized : Sized 37 read_shut read_shut_two
shut_two_sized = record { there = there; back = back }
  where
    there : (bytes : List ℕ) (w : Unit {0}) (rest : List ℕ) → read_shut_two bytes ≡ Some (w, rest) → (v : PeerRecord) × ((read_shut bytes ≡ Some (v, rest)) × (length bytes ≡ 37 + length rest))
    there bytes w rest h =
        let c : Both ((make any_flag and read_mark and read_this 1) bytes) read_mark w rest = both_parts ((make any_flag and read_mark and read_this 1) bytes) read_mark w rest h in
        let b : Both ((make any_flag and read_mark) bytes) (read_this 1) c.made c.middle = both_parts ((make any_flag and read_mark) bytes) (read_this 1) c.made c.middle c.first in
        let p = (one_sized shut any_flag).there bytes b.made b.middle b.first in
        let e = this_is 1 b.middle b.part c.middle b.second in
        let second : read_maybe read_mark b.middle ≡ Some (Some c.part, rest) =
        ap (read_maybe read_mark) e ∙ both_read (make some_mark) read_mark c.middle c.middle rest some_mark c.part refl c.second in
        let l = mark_fixed.len c.middle c.part rest c.second in
        (p.0 (Some c.part), (both_read (make shut and read_mark) (read_maybe read_mark) bytes b.middle rest p.0 (Some c.part) p.1.0 second, omega (arith, p.1.1, ap length e, l)))

    back : (bytes : List ℕ) (v : PeerRecord) (rest : List ℕ) → AreBytes bytes → read_shut bytes ≡ Some (v, rest) → length bytes ≡ 37 + length rest → (w : Unit {0}) × (read_shut_two bytes ≡ Some (w, rest))
    back bytes v rest fits h len =
        let b : Both ((make shut and read_mark) bytes) (read_maybe read_mark) v rest = both_parts ((make shut and read_mark) bytes) (read_maybe read_mark) v rest h in
        let l = (one_fixed shut).len bytes b.made b.middle b.first in
        let p = (one_sized shut any_flag).back bytes b.made b.middle fits b.first l in
        elim (maybe_parts b.middle b.part rest b.second) [
          | inl e ↦ absurd (omega (arith, l, len, ap length e))
          | inr x ↦ (
            tt,
            both_read (make any_flag and read_mark and read_this 1) read_mark bytes x.behind rest (p.0 tt) x.mark
                (both_read (make any_flag and read_mark) (read_this 1) bytes b.middle x.behind p.0 tt p.1 (ap (read_this 1) x.parts ∙ this_taken 1 x.behind)) x.read,
          )
        ]

shut_length : (bytes : List ℕ) (v : PeerRecord) (rest : List ℕ) → read_shut bytes ≡ Some (v, rest) → (length bytes ≡ 19 + length rest) ⊎ (length bytes ≡ 37 + length rest)
shut_length bytes v rest h =
    let b : Both ((make shut and read_mark) bytes) (read_maybe read_mark) v rest = both_parts ((make shut and read_mark) bytes) (read_maybe read_mark) v rest h in
    let l = (one_fixed shut).len bytes b.made b.middle b.first in
    elim (maybe_parts b.middle b.part rest b.second) [
      | inl e ↦ inl (omega (arith, l, ap length e))
      | inr x ↦ inr (let m = mark_fixed.len x.behind x.mark rest x.read in omega (arith, l, m, ap length x.parts))
    ]

shut_row : (n : ℕ) → 1 ≤ n → Sized (n - 1) read_shut (when (n == 20) read_shut_one (when (n == 38) read_shut_two nothing))
shut_row n low =
    when_sized (n - 1) (n == 20) read_shut read_shut_one (when (n == 38) read_shut_two nothing)
    (λ e. let is : n ≡ 20 = same_code n 20 e in let P : ℕ → Type 0 = λ i. Sized i read_shut read_shut_one in let same : 19 ≡ n - 1 = omega (arith, is) in subst P same shut_one_sized)
    (λ e. ranged_row (n - 1) (n == 38) read_shut read_shut_two
    (λ f. let is : n ≡ 38 = same_code n 38 f in let P : ℕ → Type 0 = λ i. Sized i read_shut read_shut_two in let same : 37 ≡ n - 1 = omega (arith, is) in subst P same shut_two_sized)
    (λ bytes v rest fits h len. elim (shut_length bytes v rest h) [
      | inl l ↦ let clash : (n == 20) ≡ true = eq-eqb n 20 (omega (arith, l, len, low)) in absurd cc
      | inr l ↦ eq-eqb n 38 (omega (arith, l, len, low))
    ]))

-- ---- the others

abbrev on : Mark → Mark → ℕ → DialogueRecord → PeerRecord
on x y s r = PeerRecord.OnAssoc x y s r

abbrev any_on : Mark → Mark → ℕ → Unit {0} → Unit {0}
any_on x y s r = tt

abbrev on_front : Reader (DialogueRecord → PeerRecord)
on_front = make on and read_mark and read_mark and read_long

on_fixed : IsFixed 44 on_front
on_fixed = both_fixed 36 8 (make on and read_mark and read_mark) read_long (two_fixed on) long_fixed

on_steady : IsSteady on_front
on_steady = steady_and (make on and read_mark and read_mark) read_long (two_steady on) long_scan.steady

on_front_sized : Sized 44 on_front (make any_on and read_mark and read_mark and read_long)
on_front_sized = fixed_then 36 8 (make on and read_mark and read_mark) read_long (make any_on and read_mark and read_mark) read_long (two_steady on) (two_fixed on) (two_sized on any_on) (fixed_sized 8 read_long long_fixed)

on_row : (n : ℕ) → 1 ≤ n → Sized (n - 1) (on_front and read_dialogue) (when (nat_le 46 n && nat_le n 1072) (read_on n) nothing)
on_row n low =
    ranged_row (n - 1) (nat_le 46 n && nat_le n 1072) (on_front and read_dialogue) (read_on n)
    (λ e.
    let b : Bounds 46 1072 n = bounds 46 1072 n e in
    let P : ℕ → Type 0 = λ i. Sized i (on_front and read_dialogue) (read_on n) in
    let same : 44 + (n - 45) ≡ n - 1 = omega (arith, b.least) in
    subst P same
    (fixed_then 44 (n - 45) on_front read_dialogue (make any_on and read_mark and read_mark and read_long) (read_dialogue_of (n - 45)) on_steady on_fixed on_front_sized (dialogue_sized (n - 45) (omega (arith, b.least)))))
    (λ bytes v rest fits h len.
    let b : Both (on_front bytes) read_dialogue v rest = both_parts (on_front bytes) read_dialogue v rest h in
    let l = on_fixed.len bytes b.made b.middle b.first in
    let behind : AreBytes b.middle = behind_bytes on_front bytes b.made b.middle (on_steady.fronts bytes b.made b.middle b.first) fits in
    let x : DialogueLength b.middle rest = dialogue_length b.middle b.part rest behind b.second in
    within 46 1072 n (omega (arith, l, len, low, x.least)) (omega (arith, l, len, low, x.most)))

names_row : (n : ℕ) → 1 ≤ n → (g : Aaid → BranchId → PeerRecord) → Sized (n - 1) (make g and read_aaid and read_branch) (when (nat_le 41 n && nat_le n 71) (read_names_of (n - 39)) nothing)
names_row n low g =
    ranged_row (n - 1) (nat_le 41 n && nat_le n 71) (make g and read_aaid and read_branch) (read_names_of (n - 39))
    (λ e.
    let b : Bounds 41 71 n = bounds 41 71 n e in
    let P : ℕ → Type 0 = λ i. Sized i (make g and read_aaid and read_branch) (read_names_of (n - 39)) in
    let same : 38 + (n - 39) ≡ n - 1 = omega (arith, b.least) in
    subst P same (names_sized g (n - 39)))
    (λ bytes v rest fits h len.
    let x : NamesLength bytes rest = names_length g bytes v rest h in
    within 41 71 n (omega (arith, len, low, x.least)) (omega (arith, len, low, x.most)))

abbrev replied : Aaid → BranchId → RecState → PeerRecord
replied a b s = PeerRecord.RecReply a b s

reply_row : (n : ℕ) → 1 ≤ n → Sized (n - 1) (make replied and read_aaid and read_branch and read_state) (when (nat_le 42 n && nat_le n 73) (read_reply_of (n - 39)) nothing)
reply_row n low =
    ranged_row (n - 1) (nat_le 42 n && nat_le n 73) (make replied and read_aaid and read_branch and read_state) (read_reply_of (n - 39))
    (λ e.
    let b : Bounds 42 73 n = bounds 42 73 n e in
    let P : ℕ → Type 0 = λ i. Sized i (make replied and read_aaid and read_branch and read_state) (read_reply_of (n - 39)) in
    let same : 38 + (n - 39) ≡ n - 1 = omega (arith, b.least) in
    subst P same (reply_sized replied (n - 39)))
    (λ bytes v rest fits h len.
    let b : Both ((make replied and read_aaid and read_branch) bytes) read_state v rest = both_parts ((make replied and read_aaid and read_branch) bytes) read_state v rest h in
    let x : NamesLength bytes b.middle = names_length replied bytes b.made b.middle b.first in
    let behind : AreBytes b.middle = behind_bytes (make replied and read_aaid and read_branch) bytes b.made b.middle ((names_steady replied).fronts bytes b.made b.middle b.first) fits in
    let y : StateLength b.middle rest = state_length b.middle b.part rest behind b.second in
    within 42 73 n (omega (arith, len, low, x.least, y.least)) (omega (arith, len, low, x.most, y.most)))

-- ---- the table

five_six_eight : (code : ℕ) → (code ≡ 0) ⊎ (9 ≤ code) → ((code == 5) || (code == 6) || (code == 8)) ≡ false
five_six_eight code (inl e) = grind (arith, nat_tests)
five_six_eight code (inr e) = grind (arith, nat_tests)

peer_codes : (n code : ℕ) → Missing peer_kinds code → (bytes : List ℕ) → read_peer_kind n code bytes ≡ None
peer_codes n code m bytes =
    let e : (code ≡ 0) ⊎ (9 ≤ code) = outside_codes code peer_kinds (refl, (refl, (refl, (refl, (refl, (refl, (refl, (refl, tt)))))))) m in
    off (code == 1) (n == 20) read_open (row_2 n code) bytes (beyond 9 code 1 e (omega arith) (omega arith))
    ∙ off (code == 2) (n == 38) read_accept (row_one n code) bytes (beyond 9 code 2 e (omega arith) (omega arith))
    ∙ off (code == 3) (n == 20) read_shut_one (row_two n code) bytes (beyond 9 code 3 e (omega arith) (omega arith))
    ∙ off (code == 3) (n == 38) read_shut_two (row_4 n code) bytes (beyond 9 code 3 e (omega arith) (omega arith))
    ∙ off (code == 4) (nat_le 46 n && nat_le n 1072) (read_on n) (row_5 n code) bytes (beyond 9 code 4 e (omega arith) (omega arith))
    ∙ off ((code == 5) || (code == 6) || (code == 8)) (nat_le 41 n && nat_le n 71) (read_names_of (n - 39)) (row_7 n code) bytes (five_six_eight code e)
    ∙ off (code == 7) (nat_le 42 n && nat_le n 73) (read_reply_of (n - 39)) nothing bytes (beyond 9 code 7 e (omega arith) (omega arith))

pub peer_sized : (n : ℕ) → 1 ≤ n → Sized n read_peer (read_peer_of n)
peer_sized n low =
    code_sized n peer_kinds (read_peer_kind n) (read_peer_of n) low refl (λ code bytes. refl) (
      open_row n low,
      (
        accept_row n low,
        (
          shut_row n low,
          (
            on_row n low,
            (
              names_row n low (λ a b. PeerRecord.RecReady a b),
              (names_row n low (λ a b. PeerRecord.RecCommit a b), (reply_row n low, (names_row n low (λ a b. PeerRecord.Forget a b), tt))),
            ),
          ),
        ),
      ),
    )
    (peer_codes n)

-- what is read has a length that some record has
pub peer_length_is : (n : ℕ) (bytes : List ℕ) (w : Unit {0}) (rest : List ℕ) → read_peer_of n bytes ≡ Some (w, rest) → is_peer_length n ≡ true
peer_length_is n [] w rest h = absurd cc
peer_length_is n (code ∷ bytes) w rest h =
    elim (when_parts ((code == 1) && (n == 20)) read_open (row_2 n code) bytes w rest h) [
      | inl e ↦ twenty (code == 1) n e
      | inr h ↦ elim (when_parts ((code == 2) && (n == 38)) read_accept (row_one n code) bytes w rest h) [
        | inl e ↦ thirty_eight (code == 2) n e
        | inr h ↦ elim (when_parts ((code == 3) && (n == 20)) read_shut_one (row_two n code) bytes w rest h) [
          | inl e ↦ twenty (code == 3) n e
          | inr h ↦ elim (when_parts ((code == 3) && (n == 38)) read_shut_two (row_4 n code) bytes w rest h) [
            | inl e ↦ thirty_eight (code == 3) n e
            | inr h ↦ elim (when_parts ((code == 4) && (nat_le 46 n && nat_le n 1072)) (read_on n) (row_5 n code) bytes w rest h) [
              | inl e ↦ more (code == 4) 46 1072 n (omega arith) (omega arith) e
              | inr h ↦ elim (when_parts (((code == 5) || (code == 6) || (code == 8)) && (nat_le 41 n && nat_le n 71)) (read_names_of (n - 39)) (row_7 n code) bytes w rest h) [
                | inl e ↦ more ((code == 5) || (code == 6) || (code == 8)) 41 71 n (omega arith) (omega arith) e
                | inr h ↦ elim (when_parts ((code == 7) && (nat_le 42 n && nat_le n 73)) (read_reply_of (n - 39)) nothing bytes w rest h) [
                  | inl e ↦ more (code == 7) 42 73 n (omega arith) (omega arith) e
                  | inr h ↦ absurd cc
                ]
              ]
            ]
          ]
        ]
      ]
    ]
  where
    twenty : (t : Bool) (k : ℕ) → (t && (k == 20)) ≡ true → is_peer_length k ≡ true
    twenty t k e = grind (arith, nat_tests)

    thirty_eight : (t : Bool) (k : ℕ) → (t && (k == 38)) ≡ true → is_peer_length k ≡ true
    thirty_eight t k e = grind (arith, nat_tests)

    more : (t : Bool) (low high k : ℕ) → 41 ≤ low → high ≤ 1072 → (t && (nat_le low k && nat_le k high)) ≡ true → is_peer_length k ≡ true
    more t low high k a b e = grind (arith, nat_tests)
