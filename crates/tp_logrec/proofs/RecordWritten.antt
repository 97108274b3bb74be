-- What is read of a log record is written so.
use Rattle.std.proofs.Common.{◌≡◌, ℕ, zero, suc, Option, Some, None, List, [], ◌∷◌, ◌++◌, length, Bool, true, false, refl, sym, subst, ◌∙◌, ap, append_assoc}
use Rattle.std.specs.Prelude.{nat_le}
use Rattle.tp_names.specs.declared.identifiers.Addr.{Addr}
use Rattle.tp_names.specs.declared.identifiers.BranchId.{BranchId}
use Rattle.tp_names.specs.declared.identifiers.NodeKey.{NodeKey}
use Rattle.tp_names.specs.declared.children.Child.{Child}
use Rattle.tp_names.specs.declared.outcome.Outcome.{Outcome}
use Rattle.tp_names.specs.declared.outcome.Report.{Report}
use Rattle.tp_names.specs.Bytes.{byte_bytes, short_bytes, long_bytes, aaid_bytes, branch_bytes, maybe_bytes, key_bytes, addr_bytes, outcome_bytes, report_bytes, child_bytes, each_child_bytes}
use Rattle.tp_names.specs.Reading.{Reader, make, ◌and◌, that, if_passes, chosen_by, key_of, read_byte, read_short, read_long, read_many, read_aaid, read_branch, read_key, read_addr, read_outcome, read_child}
use Rattle.tp_names.specs.Places.{AreBytes, IsWrittenBy}
use Rattle.tp_names.proofs.Sequences.{some_pair, AreBytes-back, Both, both_parts}
use Rattle.tp_names.proofs.Choices.{Chosen, chosen_parts}
use Rattle.tp_names.proofs.Numbers.{byte_written, short_written, long_written}
use Rattle.tp_names.proofs.Values.{aaid_written, branch_written, key_written, addr_written, child_written, outcome_written}
use Rattle.tp_names.proofs.Written.{row_0, row_1, row_2, row_3, row_4, code_written, written_alone}
use Rattle.tp_logrec.specs.declared.record.LogRec.{LogRec}
use Rattle.tp_logrec.specs.declared.record.LogVersion.{LogVersion}
use Rattle.tp_logrec.specs.RecordText.{children_bytes, superior_bytes, key_and_superior_bytes, record_bytes}
use Rattle.tp_logrec.specs.RecordReading.{read_children, read_some_branch, read_branch_key, read_branch_and_superior, key_and_superior_of, read_key_and_superior, read_harm, judgement_of, read_judgement, boot_of, ready_of, heuristic_of, commit_of, damage_of, end_of, record_kinds, read_record}

-- ---- children

-- so many children were read: they are written so
pub record ManyParts (k : ℕ) (bytes : List ℕ) (v : List Child) (rest : List ℕ) : Type 0 where
  pub spelled : bytes ≡ each_child_bytes v ++ rest
  pub count : length v ≡ k

pub many_parts : (k : ℕ) (bytes : List ℕ) (v : List Child) (rest : List ℕ) → AreBytes bytes → read_many read_child k bytes ≡ Some (v, rest) → ManyParts k bytes v rest
many_parts zero bytes v rest fits h =
    let nothing : List Child = [] in
    let e = some_pair nothing v bytes rest h in
    record {
      spelled = e.1 ∙ ap (λ (w : List Child). each_child_bytes w ++ rest) e.0;
      count = ap length (sym e.0);
    }
many_parts (suc k) bytes v rest fits h =
    let cons : Child → List Child → List Child = λ a rest. a ∷ rest in
    let b : Both ((make cons and read_child) bytes) (read_many read_child k) v rest = both_parts ((make cons and read_child) bytes) (read_many read_child k) v rest h in
    let a : Both (make cons bytes) read_child b.made b.middle = both_parts (make cons bytes) read_child b.made b.middle b.first in
    let e = some_pair cons a.made bytes a.middle a.first in
    let first : read_child bytes ≡ Some (a.part, b.middle) = ap read_child e.1 ∙ a.second in
    let P : List ℕ → Type 0 = λ w. AreBytes w in
    let front : bytes ≡ child_bytes a.part ++ b.middle = child_written.spelled bytes a.part b.middle fits first in
    let later : ManyParts k b.middle b.part rest = many_parts k b.middle b.part rest (AreBytes-back (child_bytes a.part) b.middle (subst P front fits)) b.second in
    let value : a.part ∷ b.part ≡ v = ap (λ (g : Child → List Child → List Child). g a.part b.part) e.0 ∙ ap (λ (g : List Child → List Child). g b.part) (sym a.value) ∙ sym b.value in
    record {
      spelled = front ∙ ap (λ (w : List ℕ). child_bytes a.part ++ w) later.spelled ∙ sym (append_assoc (child_bytes a.part) (each_child_bytes b.part) rest) ∙ ap (λ (w : List Child). each_child_bytes w ++ rest) value;
      count = ap length (sym value) ∙ ap suc later.count;
    }

pub passed : (test : ℕ → Bool) (o : Option (ℕ × List ℕ)) (n : ℕ) (rest : List ℕ) → if_passes test o ≡ Some (n, rest) → o ≡ Some (n, rest)
passed test None n rest h = h
passed test (Some p) n rest h = go (test p.0) h
  where
    go : (t : Bool) → elim t as (λ _. Option (ℕ × List ℕ)) [ true ↦ Some p | false ↦ None ] ≡ Some (n, rest) → Some p ≡ Some (n, rest)
    go true e = e
    go false e = absurd cc

-- a count, and so many children, whatever way the count is written
pub counted_written : (test : ℕ → Bool) (write : ℕ → List ℕ) (count : Reader ℕ) → IsWrittenBy write count
    → IsWrittenBy (λ cs. write (length cs) ++ each_child_bytes cs) (chosen_by (that test count) (read_many read_child))
counted_written test write count x = record { spelled = spelled }
  where
    spelled : (bytes : List ℕ) (v : List Child) (rest : List ℕ) → AreBytes bytes → chosen_by (that test count) (read_many read_child) bytes ≡ Some (v, rest) → bytes ≡ (write (length v) ++ each_child_bytes v) ++ rest
    spelled bytes v rest fits h =
        let c : Chosen (that test count bytes) (read_many read_child) v rest = chosen_parts (that test count bytes) (read_many read_child) v rest h in
        let n : count bytes ≡ Some (c.choice, c.middle) = passed test (count bytes) c.choice c.middle c.first in
        let front : bytes ≡ write c.choice ++ c.middle = x.spelled bytes c.choice c.middle fits n in
        let P : List ℕ → Type 0 = λ w. AreBytes w in
        let many : ManyParts c.choice c.middle v rest = many_parts c.choice c.middle v rest (AreBytes-back (write c.choice) c.middle (subst P front fits)) c.second in
        front ∙ ap (λ (w : List ℕ). write c.choice ++ w) many.spelled ∙ ap (λ (k : ℕ). write k ++ (each_child_bytes v ++ rest)) (sym many.count)
        ∙ sym (append_assoc (write (length v)) (each_child_bytes v) rest)

pub children_written : (ver : LogVersion) → IsWrittenBy (children_bytes ver) (read_children ver)
children_written LogVersion.One = counted_written (λ n. nat_le n 32) byte_bytes read_byte byte_written
children_written LogVersion.Two = counted_written (λ n. nat_le n 256) short_bytes read_short short_written

-- ---- keys

pub some_branch_written : IsWrittenBy (maybe_bytes branch_bytes) read_some_branch
some_branch_written =
    code_written (maybe_bytes branch_bytes) ((1, make (λ b. Some b) and read_branch) ∷ [])
    (row_1 (maybe_bytes branch_bytes) (1 ∷ []) (λ b. Some b) branch_bytes read_branch (λ b. refl) branch_written, tt)

pub branch_key_written : IsWrittenBy key_bytes read_branch_key
branch_key_written =
    written_alone key_bytes read_branch_key
    (row_2 key_bytes [] key_of aaid_bytes (maybe_bytes branch_bytes) read_aaid read_some_branch (λ a b. refl) aaid_written some_branch_written)

abbrev pub branch_and_superior_bytes : Option BranchId × Option Addr → List ℕ
branch_and_superior_bytes p = maybe_bytes branch_bytes p.0 ++ superior_bytes p.1

pub branch_and_superior_written : IsWrittenBy branch_and_superior_bytes read_branch_and_superior
branch_and_superior_written =
    code_written branch_and_superior_bytes ((0, make (None, None)) ∷ (1, make (λ b a. (Some b, Some a)) and read_branch and read_addr) ∷ []) (
      row_0 branch_and_superior_bytes (0 ∷ []) (None, None) refl,
      (row_2 branch_and_superior_bytes (1 ∷ []) (λ b a. (Some b, Some a)) branch_bytes addr_bytes read_branch read_addr (λ b a. refl) branch_written addr_written, tt),
    )

pub key_and_superior_written : IsWrittenBy key_and_superior_bytes read_key_and_superior
key_and_superior_written =
    written_alone key_and_superior_bytes read_key_and_superior
    (row_2 key_and_superior_bytes [] key_and_superior_of aaid_bytes branch_and_superior_bytes read_aaid read_branch_and_superior
    (λ a p. append_assoc (aaid_bytes a) (maybe_bytes branch_bytes p.0) (superior_bytes p.1)) aaid_written branch_and_superior_written)

pub harm_written : IsWrittenBy report_bytes read_harm
harm_written =
    code_written report_bytes ((1, make Report.Hazard) ∷ (2, make Report.Mix) ∷ [])
    (row_0 report_bytes (1 ∷ []) Report.Hazard refl, (row_0 report_bytes (2 ∷ []) Report.Mix refl, tt))

abbrev pub judgement_bytes : Outcome × Report → List ℕ
judgement_bytes j = outcome_bytes j.0 ++ report_bytes j.1

pub judgement_written : IsWrittenBy judgement_bytes read_judgement
judgement_written =
    written_alone judgement_bytes read_judgement
    (row_2 judgement_bytes [] judgement_of outcome_bytes report_bytes read_outcome read_harm (λ o r. refl) outcome_written harm_written)

-- ---- records

pub damage_spelled : (ver : LogVersion) (n : ℕ) (k : NodeKey × Option Addr) (j : Outcome × Report) (cs : List Child)
    → record_bytes ver (damage_of n k j cs) ≡ ((((5 ∷ []) ++ short_bytes n) ++ key_and_superior_bytes k) ++ judgement_bytes j) ++ children_bytes ver cs
damage_spelled ver n k j cs =
    let front : List ℕ = 5 ∷ short_bytes n in
    ap (λ (w : List ℕ). (w ++ judgement_bytes j) ++ children_bytes ver cs) (append_assoc front (key_bytes k.0) (superior_bytes k.1))

pub commit_spelled : (ver : LogVersion) (n : ℕ) (k : NodeKey × Option Addr) (cs : List Child)
    → record_bytes ver (commit_of n k cs) ≡ (((4 ∷ []) ++ short_bytes n) ++ key_and_superior_bytes k) ++ children_bytes ver cs
commit_spelled ver n k cs =
    let front : List ℕ = 4 ∷ short_bytes n in
    ap (λ (w : List ℕ). w ++ children_bytes ver cs) (append_assoc front (key_bytes k.0) (superior_bytes k.1))

pub record_written : (ver : LogVersion) → IsWrittenBy (record_bytes ver) (read_record ver)
record_written ver =
    let w : LogRec → List ℕ = record_bytes ver in
    code_written w (record_kinds ver) (
      row_1 w (1 ∷ []) boot_of long_bytes read_long (λ n. refl) long_written,
      (
        row_4 w (2 ∷ []) ready_of short_bytes key_bytes addr_bytes (children_bytes ver) read_short read_branch_key read_addr (read_children ver) (λ n k a cs. refl) short_written branch_key_written addr_written (children_written ver),
        (
          row_3 w (3 ∷ []) heuristic_of short_bytes key_bytes outcome_bytes read_short read_branch_key read_outcome (λ n k o. refl) short_written branch_key_written outcome_written,
          (
            row_3 w (4 ∷ []) commit_of short_bytes key_and_superior_bytes (children_bytes ver) read_short read_key_and_superior (read_children ver) (commit_spelled ver) short_written key_and_superior_written (children_written ver),
            (
              row_4 w (5 ∷ []) damage_of short_bytes key_and_superior_bytes judgement_bytes (children_bytes ver) read_short read_key_and_superior read_judgement (read_children ver) (damage_spelled ver) short_written key_and_superior_written judgement_written (children_written ver),
              (row_3 w (6 ∷ []) end_of short_bytes key_bytes outcome_bytes read_short read_key read_outcome (λ n k o. refl) short_written key_written outcome_written, tt),
            ),
          ),
        ),
      ),
    )
