-- A Boot has a text in each version.
use Rattle.std.proofs.Common.{◌≡◌, ◌<◌, ◌^◌, ℕ, Bool, Option, Some, None, List, [], ap, arith}
use Rattle.std.proofs.lemmas.Nat.{from_be_bytes-to_be_bytes_8}
use Rattle.std.specs.Int.{from_be_bytes, w64}
use Rattle.tp_names.specs.Bytes.{long_bytes}
use Rattle.tp_names.specs.Reading.{read_long}
use Rattle.tp_logrec.specs.declared.record.LogRec.{LogRec}
use Rattle.tp_journal.specs.Records.{HasText}

long_is_read : (n : ℕ) → n < 2 ^ 64 → read_long (long_bytes n) ≡ Some (n, [])
long_is_read n small =
    let e : from_be_bytes w64 (long_bytes n) ≡ n = from_be_bytes-to_be_bytes_8 n small in
    ap (λ (k : ℕ). Some (k, [])) (omega (arith, e))

pub boot_has_text : (wide : Bool) (n : ℕ) → n < 2 ^ 64 → HasText wide (LogRec.Boot n)
boot_has_text wide n small = ap (λ (o : Option (ℕ × List ℕ)). elim o as (λ _. Option (LogRec × List ℕ)) [ None ↦ None | Some q ↦ Some (LogRec.Boot q.0, q.1) ]) (long_is_read n small)
