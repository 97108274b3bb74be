-- The children of a record take no more bytes than its text.
use Rattle.std.proofs.Common.{◌≡◌, ℕ, ◌<◌, ◌^◌, Bool, List, ◌++◌, length, ap, arith, length-append}
use Rattle.tp_names.specs.declared.children.Child.{Child}
use Rattle.tp_names.specs.Bytes.{each_child_bytes}
use Rattle.tp_logrec.specs.declared.record.LogRec.{LogRec}
use Rattle.tp_logrec.specs.RecordText.{count_bytes, children_bytes}
use Rattle.tp_journal.specs.Records.{version_of, HasText, text}
use Rattle.tp_journal.proofs.Sizes.{text_is_body}

pub children_fit : (wide : Bool) (rec : LogRec) → HasText wide rec → (front : List ℕ) (cs : List Child) → text wide rec ≡ front ++ children_bytes (version_of wide) cs → length (each_child_bytes cs) < 2 ^ 16
children_fit wide rec has front cs is =
    omega (arith, ap length is, length-append front (children_bytes (version_of wide) cs), length-append (count_bytes (version_of wide) (length cs)) (each_child_bytes cs), (text_is_body wide rec has).1)
