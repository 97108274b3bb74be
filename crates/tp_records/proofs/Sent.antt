-- The octets of what is sent: what their scan finds and refuses.
use Rattle.std.proofs.Common.{◌≡◌, ℕ, Bool, true, false, Option, Some, None, Result, Ok, Err, List, [], ◌∷◌, length, ◌==◌, refl, sym, ap, subst, ◌∙◌, arith}
use Rattle.std.proofs.lemmas.Bool.Decides.{nat_tests}
use Rattle.tp_names.specs.Reading.{Reader, that, if_passes, read_octets}
use Rattle.tp_names.specs.Scanning.{scan_octets, GivesUnlessFull}
use Rattle.tp_names.specs.declared.bad_bytes.BadBytes.{BadBytes}
use Rattle.tp_names.specs.declared.bad_bytes.ReadFault.{ReadFault}
use Rattle.tp_names.specs.Places.{AreBytes, IsSteady}
use Rattle.tp_names.proofs.Sequences.{some_of, ok_pair}
use Rattle.tp_names.proofs.Counts.{octets_scan, octets_none}
use Rattle.tp_names.proofs.Passing.{that_steady, that_read}
use Rattle.tp_records.specs.declared.peer.PeerRecord.{PeerRecord}
use Rattle.tp_records.specs.BodyReading.{whole, is_peer_text}
use Rattle.tp_records.specs.BodyScanning.{scan_peer}
use Rattle.tp_records.specs.SentScanning.{sent_place, scan_sent}
use Rattle.tp_records.proofs.Scans.{peer_scan}

abbrev pub read_sent : Reader (List ℕ)
read_sent = that is_peer_text (read_octets 2000)

abbrev sent_from : List ℕ → Option (List ℕ × List ℕ) → Result (List ℕ × List ℕ) ℕ
sent_from bytes o = elim o as (λ _. Result (List ℕ × List ℕ) ℕ) [ Some p ↦ Ok p | None ↦ Err (sent_place bytes) ]

sent_is : (bytes : List ℕ) → scan_sent bytes ≡ sent_from bytes (read_sent bytes)
unfolding scan_sent
sent_is bytes = refl

pub sent_steady : IsSteady read_sent
sent_steady = that_steady is_peer_text (read_octets 2000) (octets_scan 2000).steady

pub sent_found : (bytes v rest : List ℕ) → scan_sent bytes ≡ Ok (v, rest) → read_sent bytes ≡ Some (v, rest)
sent_found bytes v rest h = go (read_sent bytes) refl (sym (sent_is bytes) ∙ h)
  where
    go : (o : Option (List ℕ × List ℕ)) → read_sent bytes ≡ o → sent_from bytes o ≡ Ok (v, rest) → read_sent bytes ≡ Some (v, rest)
    go None e k = absurd cc
    go (Some p) e k = let same = ok_pair p.0 v p.1 rest k in e ∙ ap (λ (w : List ℕ). some_of w p.1) same.0 ∙ ap (λ (w : List ℕ). some_of v w) same.1

-- octets that are refused are told at the place
pub sent_refused : (bytes : List ℕ) (left : ℕ) → scan_sent bytes ≡ Err left → (read_sent bytes ≡ None) × (sent_place bytes ≡ left)
sent_refused bytes left h = go (read_sent bytes) refl (sym (sent_is bytes) ∙ h)
  where
    go : (o : Option (List ℕ × List ℕ)) → read_sent bytes ≡ o → sent_from bytes o ≡ Err left → (read_sent bytes ≡ None) × (sent_place bytes ≡ left)
    go None e k = (e, cc)
    go (Some p) e k = absurd cc

pub sent_taken : (bytes v rest : List ℕ) → scan_octets 2000 bytes ≡ Ok (v, rest) → is_peer_text v ≡ true → scan_sent bytes ≡ Ok (v, rest)
sent_taken bytes v rest h text =
    sent_is bytes ∙ ap (sent_from bytes) (that_read is_peer_text (read_octets 2000) bytes v rest ((octets_scan 2000).found bytes v rest h) text)

pub sent_other : (bytes v rest : List ℕ) → scan_octets 2000 bytes ≡ Ok (v, rest) → is_peer_text v ≡ false → scan_sent bytes ≡ Err (sent_place bytes)
sent_other bytes v rest h other =
    let read : read_octets 2000 bytes ≡ Some (v, rest) = (octets_scan 2000).found bytes v rest h in
    let none : read_sent bytes ≡ None = ap (if_passes is_peer_text) read ∙ ap (λ (t : Bool). elim t as (λ _. Option (List ℕ × List ℕ)) [ true ↦ some_of v rest | false ↦ None ]) other in
    sent_is bytes ∙ ap (sent_from bytes) none

pub sent_none : (bytes : List ℕ) (left : ℕ) → scan_octets 2000 bytes ≡ Err left → scan_sent bytes ≡ Err (sent_place bytes)
sent_none bytes left h = sent_is bytes ∙ ap (λ (o : Option (List ℕ × List ℕ)). sent_from bytes (if_passes is_peer_text o)) (octets_none 2000 bytes left h)

abbrev fault_of : ReadFault → Result (List ℕ) ReadFault
fault_of e = Err e

pub sent_none_at : (bytes : List ℕ) (e : ReadFault) (rest : List ℕ) (bad : BadBytes) → GivesUnlessFull (fault_of e) rest (scan_octets 2000 bytes) → e ≡ ReadFault.Bad bad → scan_sent bytes ≡ Err (sent_place bytes)
sent_none_at bytes e rest bad gives is =
    let P : ReadFault → Type 0 = λ f. GivesUnlessFull (fault_of f) rest (scan_octets 2000 bytes) in
    sent_none bytes bad.left (subst P is gives)

-- octets that are read through are the text of a record
pub text_from : (octets : List ℕ) (v : PeerRecord) (rest : List ℕ) (t : Bool) → scan_peer octets ≡ Ok (v, rest) → t ≡ (length rest == 0) → t ≡ is_peer_text octets
text_from octets v [] t h e = e ∙ sym (ap is_text (peer_scan.found octets v [] h))
  where
    is_text : Option (PeerRecord × List ℕ) → Bool
    is_text o = elim (whole o) [ None ↦ false | Some r ↦ true ]
text_from octets v (b ∷ rest) t h e =
    let some : (length (b ∷ rest) == 0) ≡ false = grind (arith, nat_tests) in
    e ∙ some ∙ sym (ap is_text (peer_scan.found octets v (b ∷ rest) h))
  where
    is_text : Option (PeerRecord × List ℕ) → Bool
    is_text o = elim (whole o) [ None ↦ false | Some r ↦ true ]

pub no_text_from : (octets : List ℕ) (left : ℕ) → AreBytes octets → scan_peer octets ≡ Err left → is_peer_text octets ≡ false
no_text_from octets left fits h = ap is_text ((peer_scan.stuck octets left fits h).none)
  where
    is_text : Option (PeerRecord × List ℕ) → Bool
    is_text o = elim (whole o) [ None ↦ false | Some r ↦ true ]
