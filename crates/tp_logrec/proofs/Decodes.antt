-- What a scan of a record says of the bytes.
use Rattle.std.proofs.Common.{◌≡◌, ℕ, ◌≤◌, ◌-◌, Ok, Err, List, length, ap, arith, length-append}
use Rattle.tp_names.specs.Places.{AreBytes}
use Rattle.tp_names.specs.Grammar.{Begins, IsBadAt}
use Rattle.tp_names.proofs.Texts.{left_is_within, begins, is_bad}
use Rattle.tp_logrec.specs.declared.record.LogRec.{LogRec}
use Rattle.tp_logrec.specs.declared.record.LogVersion.{LogVersion}
use Rattle.tp_logrec.specs.RecordText.{record_bytes}
use Rattle.tp_logrec.specs.RecordReading.{record_grammar}
use Rattle.tp_logrec.specs.RecordScanning.{scan_record}
use Rattle.tp_logrec.proofs.RecordScans.{record_scan}
use Rattle.tp_logrec.proofs.RecordWritten.{record_written}

pub rest_is_within : (ver : LogVersion) (bytes : List ℕ) (v : LogRec) (rest : List ℕ) → AreBytes bytes → scan_record ver bytes ≡ Ok (v, rest) → length rest ≤ length bytes
rest_is_within ver bytes v rest fits h =
    let e = (record_written ver).spelled bytes v rest fits ((record_scan ver).found bytes v rest h) in
    omega (arith, ap length e, length-append (record_bytes ver v) rest)

pub record_begins : (ver : LogVersion) (bytes : List ℕ) (v : LogRec) (rest : List ℕ) → AreBytes bytes → scan_record ver bytes ≡ Ok (v, rest)
    → Begins (record_grammar ver) v (length bytes - length rest) bytes
record_begins ver bytes v rest fits h = begins (record_grammar ver) (scan_record ver) (record_scan ver) (record_written ver) bytes v rest fits h

pub bad_is_within : (ver : LogVersion) (bytes : List ℕ) (left : ℕ) → AreBytes bytes → scan_record ver bytes ≡ Err left → left ≤ length bytes
bad_is_within ver bytes left fits h = left_is_within (record_grammar ver) (scan_record ver) (record_scan ver) bytes left fits h

pub record_is_bad : (ver : LogVersion) (bytes : List ℕ) (left : ℕ) → AreBytes bytes → scan_record ver bytes ≡ Err left → IsBadAt (record_grammar ver) bytes (length bytes - left)
record_is_bad ver bytes left fits h = is_bad (record_grammar ver) (scan_record ver) (record_scan ver) (record_written ver) bytes left fits h
