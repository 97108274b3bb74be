-- What a cursor gives at the front of bytes is what the decoders answer.
use Rattle.std.proofs.Common.{◌≡◌, ℕ, ◌≤◌, ◌-◌, ◌==◌, false, Result, Ok, Err, List, length, sym, ap, subst, ◌∙◌, length-append, arith}
use Rattle.tp_names.specs.declared.bad_bytes.BadBytes.{BadBytes}
use Rattle.tp_names.specs.declared.bad_bytes.ReadFault.{ReadFault}
use Rattle.tp_names.specs.Scanning.{Scan, GivesUnlessFull}
use Rattle.tp_names.specs.Places.{AreBytes, Front, IsScan, IsWrittenBy}
use Rattle.tp_names.specs.Grammar.{Grammar, Begins, IsBadAt}
use Rattle.tp_names.proofs.Texts.{begins, is_bad, left_is_within}
use Rattle.tp_records.specs.declared.peer.PeerRecord.{PeerRecord}
use Rattle.tp_records.specs.BodyReading.{is_peer_text}
use Rattle.tp_records.specs.BodyScanning.{scan_peer}
use Rattle.tp_records.proofs.Sent.{text_from, no_text_from}

abbrev err_of : (A : Type 0) → ReadFault → Result A ReadFault
err_of A e = Err e

abbrev ok_of : {A : Type 0} → A → Result A ReadFault
ok_of v = Ok v

refused_at : {A : Type 0} (s : Scan A) (bytes from : List ℕ) (e : ReadFault) (rest : List ℕ) (bad : BadBytes) → from ≡ bytes → GivesUnlessFull (err_of A e) rest (s from) → e ≡ ReadFault.Bad bad → s bytes ≡ Err bad.left
refused_at {A} s bytes from e rest bad same gives is =
    let at : GivesUnlessFull (err_of A (ReadFault.Bad bad)) rest (s from) = (let P : ReadFault → Type 0 = λ f. GivesUnlessFull (err_of A f) rest (s from) in subst P is gives) in
    ap s (sym same) ∙ at

-- for a sort of texts whose scan is right
pub refused_within : {A : Type 0} (g : Grammar A) (s : Scan A) → IsScan g.reader s → (bytes from : List ℕ) (e : ReadFault) (rest : List ℕ) (bad : BadBytes) → AreBytes bytes → from ≡ bytes
    → GivesUnlessFull (err_of A e) rest (s from) → e ≡ ReadFault.Bad bad → bad.left ≤ length bytes
refused_within g s scan bytes from e rest bad fits same gives is = left_is_within g s scan bytes bad.left fits (refused_at s bytes from e rest bad same gives is)

pub refused_bad : {A : Type 0} (g : Grammar A) (s : Scan A) → IsScan g.reader s → IsWrittenBy g.bytes g.reader → (bytes from : List ℕ) (e : ReadFault) (rest : List ℕ) (bad : BadBytes) → AreBytes bytes → from ≡ bytes
    → GivesUnlessFull (err_of A e) rest (s from) → e ≡ ReadFault.Bad bad → IsBadAt g bytes (length bytes - bad.left)
refused_bad g s scan written bytes from e rest bad fits same gives is = is_bad g s scan written bytes bad.left fits (refused_at s bytes from e rest bad same gives is)

pub found_begins : {A : Type 0} (g : Grammar A) (s : Scan A) → IsScan g.reader s → IsWrittenBy g.bytes g.reader → (bytes from : List ℕ) (v : A) (rest : List ℕ) (left : ℕ) → AreBytes bytes → from ≡ bytes
    → s from ≡ Ok (v, rest) → left ≡ length rest → Begins g v (length bytes - left) bytes
found_begins g s scan written bytes from v rest left fits same gives is =
    let P : ℕ → Type 0 = λ n. Begins g v (length bytes - n) bytes in
    subst P (sym is) (begins g s scan written bytes v rest fits (ap s (sym same) ∙ gives))

pub found_left : {A : Type 0} (g : Grammar A) (s : Scan A) → IsScan g.reader s → (bytes from : List ℕ) (v : A) (rest : List ℕ) (left : ℕ) → from ≡ bytes
    → s from ≡ Ok (v, rest) → left ≡ length rest → left ≤ length bytes
found_left g s scan bytes from v rest left same gives is =
    let f : Front g.reader bytes v rest = scan.steady.fronts bytes v rest (scan.found bytes v rest (ap s (sym same) ∙ gives)) in
    omega (arith, is, ap length f.parts, length-append f.text rest)

-- ---- octets that are the text of a record

pub text_at : (octets from : List ℕ) (v : PeerRecord) (rest : List ℕ) (left : ℕ) → from ≡ octets → scan_peer from ≡ Ok (v, rest) → left ≡ length rest → (left == 0) ≡ is_peer_text octets
text_at octets from v rest left same gives is = text_from octets v rest (left == 0) (ap scan_peer (sym same) ∙ gives) (ap (λ (n : ℕ). n == 0) is)

pub no_text_at : (octets from : List ℕ) (e : ReadFault) (rest : List ℕ) (bad : BadBytes) → AreBytes octets → from ≡ octets → GivesUnlessFull (err_of PeerRecord e) rest (scan_peer from) → e ≡ ReadFault.Bad bad → false ≡ is_peer_text octets
no_text_at octets from e rest bad fits same gives is = sym (no_text_from octets bad.left fits (refused_at scan_peer octets from e rest bad same gives is))
