-- What is read of a body is written so.
use Rattle.std.proofs.Common.{◌≡◌, ℕ, zero, suc, Some, List, [], ◌∷◌, ◌++◌, length, refl, sym, subst, ◌∙◌, ap, append_assoc}
use Rattle.tp_names.specs.Bytes.{byte_bytes, short_bytes, aaid_bytes, octets_bytes}
use Rattle.tp_names.specs.Grammar.{IsGrammar}
use Rattle.tp_names.specs.Reading.{make, ◌and◌, that, read_byte, read_short, read_many, read_bytes, read_aaid, read_octets}
use Rattle.tp_names.specs.Places.{AreBytes, IsWrittenBy}
use Rattle.tp_names.proofs.Sequences.{some_pair, AreBytes-back, Both, both_parts}
use Rattle.tp_names.proofs.Choices.{Chosen, chosen_parts, bytes_parts}
use Rattle.tp_names.proofs.Numbers.{byte_written, short_written}
use Rattle.tp_names.proofs.Passing.{that_written}
use Rattle.tp_names.proofs.Counts.{octets_written}
use Rattle.tp_names.proofs.Values.{aaid_written}
use Rattle.tp_names.proofs.Written.{row_1, row_2, code_written}
use Rattle.tp_names.proofs.Texts.{is_grammar}
use Rattle.tp_bound.specs.declared.write.Write.{Write}
use Rattle.tp_bound.specs.Bodies.{is_key_length, key_bytes, read_key, write_bytes, put_of, remove_of, write_kinds, read_write, each_write_bytes, writes_bytes, read_writes, body_bytes, bind_of, keep_of, drop_of, body_kinds, read_body, body_grammar}
use Rattle.tp_bound.proofs.BodyScans.{body_scan}

pub key_written : IsWrittenBy key_bytes read_key
key_written = record { spelled = spelled }
  where
    spelled : (bytes v rest : List ℕ) → AreBytes bytes → read_key bytes ≡ Some (v, rest) → bytes ≡ key_bytes v ++ rest
    spelled bytes v rest fits h =
        let c : Chosen (that is_key_length read_byte bytes) read_bytes v rest = chosen_parts (that is_key_length read_byte bytes) read_bytes v rest h in
        let front : bytes ≡ byte_bytes c.choice ++ c.middle = (that_written byte_bytes is_key_length read_byte byte_written).spelled bytes c.choice c.middle fits c.first in
        let parts = bytes_parts c.choice c.middle v rest c.second in
        front ∙ ap (λ (w : List ℕ). byte_bytes c.choice ++ w) parts.0 ∙ ap (λ (n : ℕ). byte_bytes n ++ (v ++ rest)) (sym parts.1)
        ∙ sym (append_assoc (byte_bytes (length v)) v rest)

pub write_written : IsWrittenBy write_bytes read_write
write_written =
    code_written write_bytes write_kinds (
      row_2 write_bytes (1 ∷ []) put_of key_bytes octets_bytes read_key (read_octets 900) (λ k v. refl) key_written (octets_written 900),
      (row_1 write_bytes (2 ∷ []) remove_of key_bytes read_key (λ k. refl) key_written, tt),
    )

-- so many writes were read: they are written so
pub record ManyParts (k : ℕ) (bytes : List ℕ) (v : List Write) (rest : List ℕ) : Type 0 where
  pub spelled : bytes ≡ each_write_bytes v ++ rest
  pub count : length v ≡ k

pub many_parts : (k : ℕ) (bytes : List ℕ) (v : List Write) (rest : List ℕ) → AreBytes bytes → read_many read_write k bytes ≡ Some (v, rest) → ManyParts k bytes v rest
many_parts zero bytes v rest fits h =
    let nothing : List Write = [] in
    let e = some_pair nothing v bytes rest h in
    record {
      spelled = e.1 ∙ ap (λ (w : List Write). each_write_bytes w ++ rest) e.0;
      count = ap length (sym e.0);
    }
many_parts (suc k) bytes v rest fits h =
    let cons : Write → List Write → List Write = λ a rest. a ∷ rest in
    let b : Both ((make cons and read_write) bytes) (read_many read_write k) v rest = both_parts ((make cons and read_write) bytes) (read_many read_write k) v rest h in
    let a : Both (make cons bytes) read_write b.made b.middle = both_parts (make cons bytes) read_write b.made b.middle b.first in
    let e = some_pair cons a.made bytes a.middle a.first in
    let first : read_write bytes ≡ Some (a.part, b.middle) = ap read_write e.1 ∙ a.second in
    let P : List ℕ → Type 0 = λ w. AreBytes w in
    let front : bytes ≡ write_bytes a.part ++ b.middle = write_written.spelled bytes a.part b.middle fits first in
    let later : ManyParts k b.middle b.part rest = many_parts k b.middle b.part rest (AreBytes-back (write_bytes a.part) b.middle (subst P front fits)) b.second in
    let value : a.part ∷ b.part ≡ v = ap (λ (g : Write → List Write → List Write). g a.part b.part) e.0 ∙ ap (λ (g : List Write → List Write). g b.part) (sym a.value) ∙ sym b.value in
    record {
      spelled = front ∙ ap (λ (w : List ℕ). write_bytes a.part ++ w) later.spelled ∙ sym (append_assoc (write_bytes a.part) (each_write_bytes b.part) rest) ∙ ap (λ (w : List Write). each_write_bytes w ++ rest) value;
      count = ap length (sym value) ∙ ap suc later.count;
    }

pub writes_written : IsWrittenBy writes_bytes read_writes
writes_written = record { spelled = spelled }
  where
    spelled : (bytes : List ℕ) (v : List Write) (rest : List ℕ) → AreBytes bytes → read_writes bytes ≡ Some (v, rest) → bytes ≡ writes_bytes v ++ rest
    spelled bytes v rest fits h =
        let c : Chosen (read_short bytes) (read_many read_write) v rest = chosen_parts (read_short bytes) (read_many read_write) v rest h in
        let front : bytes ≡ short_bytes c.choice ++ c.middle = short_written.spelled bytes c.choice c.middle fits c.first in
        let P : List ℕ → Type 0 = λ w. AreBytes w in
        let many : ManyParts c.choice c.middle v rest = many_parts c.choice c.middle v rest (AreBytes-back (short_bytes c.choice) c.middle (subst P front fits)) c.second in
        front ∙ ap (λ (w : List ℕ). short_bytes c.choice ++ w) many.spelled ∙ ap (λ (k : ℕ). short_bytes k ++ (each_write_bytes v ++ rest)) (sym many.count)
        ∙ sym (append_assoc (short_bytes (length v)) (each_write_bytes v) rest)

pub body_written : IsWrittenBy body_bytes read_body
body_written =
    code_written body_bytes body_kinds (
      row_2 body_bytes (1 ∷ []) bind_of aaid_bytes writes_bytes read_aaid read_writes (λ a ws. refl) aaid_written writes_written,
      (
        row_1 body_bytes (2 ∷ []) keep_of aaid_bytes read_aaid (λ a. refl) aaid_written,
        (row_1 body_bytes (3 ∷ []) drop_of aaid_bytes read_aaid (λ a. refl) aaid_written, tt),
      ),
    )

pub bodies_are_texts : IsGrammar body_grammar
bodies_are_texts = is_grammar body_grammar body_scan.steady body_written
