-- The walk through a record after its count is the scan of a reader, and that reads the octets of what is sent.
use Rattle.std.proofs.Common.{◌≡◌, ℕ, ◌≤◌, ◌+◌, ◌*◌, Bool, true, false, Option, Some, None, List, [], ◌∷◌, ◌++◌, length, refl, sym, ap, subst, ◌∙◌, length-append, arith}
use Rattle.std.proofs.lemmas.List.{append-nil}
use Rattle.std.proofs.lemmas.Bool.Decides.{nat_tests}
use Rattle.tp_names.specs.Reading.{Reader, chosen_by, read_bytes, read_octets}
use Rattle.tp_names.specs.Places.{AreBytes, Front, IsScan}
use Rattle.tp_names.proofs.Sequences.{some_of, reads_on}
use Rattle.tp_names.proofs.Choices.{Chosen, chosen_parts, bytes_taken}
use Rattle.tp_names.proofs.Counts.{OctetsParts, octets_parts}
use Rattle.tp_names.proofs.Passing.{Passed, that_parts, that_read}
use Rattle.tp_records.specs.declared.peer.PeerRecord.{PeerRecord}
use Rattle.tp_records.specs.BodyReading.{whole, is_peer_text, read_peer}
use Rattle.tp_records.specs.SentScanning.{is_peer_length, scan_peer_count, scan_peer_of, scan_sent}
use Rattle.tp_records.proofs.Scans.{peer_scan}
use Rattle.tp_records.proofs.Agreeing.{consumed}
use Rattle.tp_records.proofs.Choosing.{chosen_within, chosen_read}
use Rattle.tp_records.proofs.OctetsOf.{octets_from}
use Rattle.tp_records.proofs.CountOf.{read_peer_count, count_scan, Counted, counted, count_taken}
use Rattle.tp_records.proofs.PeerOf.{read_peer_of, peer_scan_of, peer_sized, peer_length_is}
use Rattle.tp_records.proofs.Following.{walk, sent_scan_by}
use Rattle.tp_records.proofs.Sent.{read_sent}

abbrev read_walk : Reader (Unit {0})
read_walk = chosen_by read_peer_count read_peer_of

walk_scan : IsScan read_walk walk
walk_scan =
    chosen_within read_peer_count read_peer_of scan_peer_count scan_peer_of count_scan
    (record { next = λ bytes n rest h. peer_scan_of n (counted bytes n rest h).passes })

abbrev is_text : Option (PeerRecord × List ℕ) → Bool
is_text o = elim (whole o) [ None ↦ false | Some r ↦ true ]

text_read : (octets : List ℕ) → is_peer_text octets ≡ true → (r : PeerRecord) × (read_peer octets ≡ Some (r, []))
text_read octets h = go (read_peer octets) refl h
  where
    go : (o : Option (PeerRecord × List ℕ)) → read_peer octets ≡ o → is_text o ≡ true → (r : PeerRecord) × (read_peer octets ≡ Some (r, []))
    go None e h = absurd cc
    go (Some p) e h = on p.1 refl h
      where
        on : (rest : List ℕ) → p.1 ≡ rest → is_text (Some (p.0, rest)) ≡ true → (r : PeerRecord) × (read_peer octets ≡ Some (r, []))
        on [] f h = (p.0, e ∙ ap (λ (w : List ℕ). some_of p.0 w) f)
        on (b ∷ rest) f h = absurd cc

bounded : (n : ℕ) → is_peer_length n ≡ true → (1 ≤ n) × (n ≤ 1072)
bounded n h = (grind (arith, nat_tests), grind (arith, nat_tests))

sent_there : (bytes : List ℕ) (w : Unit {0}) (rest : List ℕ) → read_walk bytes ≡ Some (w, rest) → (v : List ℕ) × (read_sent bytes ≡ Some (v, rest))
sent_there bytes w rest h =
    let c : Chosen (read_peer_count bytes) read_peer_of w rest = chosen_parts (read_peer_count bytes) read_peer_of w rest h in
    let x : Counted bytes c.choice c.middle = counted bytes c.choice c.middle c.first in
    let b = bounded c.choice x.passes in
    let q = (peer_sized c.choice b.0).there c.middle w rest c.second in
    let f : Front read_peer c.middle q.0 rest = peer_scan.steady.fronts c.middle q.0 rest q.1.0 in
    let long : length f.text ≡ x.high * 256 + x.low = omega (arith, q.1.1, ap length f.parts, length-append f.text rest, x.value) in
    let text : is_peer_text f.text ≡ true = ap is_text (ap read_peer (sym (append-nil f.text)) ∙ f.again []) in
    let taken : read_bytes (x.high * 256 + x.low) (f.text ++ rest) ≡ Some (f.text, rest) = ap (λ (n : ℕ). read_bytes n (f.text ++ rest)) (sym long) ∙ bytes_taken f.text rest in
    let octets : read_octets 2000 bytes ≡ Some (f.text, rest) =
    ap (read_octets 2000) (x.parts ∙ ap (λ (w : List ℕ). x.high ∷ x.low ∷ w) f.parts)
    ∙ octets_from 2000 x.high x.low (f.text ++ rest) f.text rest (omega (arith, b.1, x.value)) taken in
    (f.text, that_read is_peer_text (read_octets 2000) bytes f.text rest octets text)

sent_back : (bytes v rest : List ℕ) → AreBytes bytes → read_sent bytes ≡ Some (v, rest) → (w : Unit {0}) × (read_walk bytes ≡ Some (w, rest))
sent_back bytes v rest fits h =
    let p : Passed is_peer_text (read_octets 2000) bytes v rest = that_parts is_peer_text (read_octets 2000) bytes v rest h in
    let x : OctetsParts 2000 bytes v rest = octets_parts 2000 bytes v rest p.read in
    let t = text_read v p.passes in
    let least : 1 + 0 ≤ length v = consumed read_peer peer_scan.steady refl v t.0 [] t.1 in
    let P : List ℕ → Type 0 = λ w. AreBytes w in
    let each : AreBytes (x.high ∷ x.low ∷ (v ++ rest)) = subst P x.parts fits in
    let q = (peer_sized (length v) (omega (arith, least))).back (v ++ rest) t.0 rest each.1.1 (reads_on read_peer v t.0 peer_scan.steady t.1 rest) (length-append v rest) in
    let passes : is_peer_length (length v) ≡ true = peer_length_is (length v) (v ++ rest) q.0 rest q.1 in
    let b = bounded (length v) passes in
    let count : x.high * 256 + x.low ≡ length v = omega (arith, x.count) in
    let first : read_peer_count (x.high ∷ x.low ∷ (v ++ rest)) ≡ Some (x.high * 256 + x.low, v ++ rest) =
    count_taken x.high x.low (v ++ rest) (omega (arith, count, b.1)) (ap is_peer_length count ∙ passes) in (
      q.0,
      ap read_walk x.parts ∙ chosen_read read_peer_count read_peer_of (x.high ∷ x.low ∷ (v ++ rest)) (v ++ rest) (x.high * 256 + x.low) first
          ∙ ap (λ (n : ℕ). read_peer_of n (v ++ rest)) count ∙ q.1,
    )

pub sent_scan : IsScan read_sent scan_sent
sent_scan = sent_scan_by read_walk walk_scan (record { there = sent_there; back = sent_back })
