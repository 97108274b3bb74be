-- The place of octets that are no record's text, from a reader of the same texts whose scan is the walk through a record of a given length.
use Rattle.std.proofs.Common.{◌≡◌, ℕ, ◌≤◌, min, Some, None, Result, Ok, Err, List, [], ◌++◌, length, refl, sym, ap, subst, ◌∙◌, length-append, arith}
use Rattle.tp_names.specs.Reading.{Reader}
use Rattle.tp_names.specs.Scanning.{Scan, then_scan}
use Rattle.tp_names.specs.Places.{AreBytes, Sample, IsStuck, IsScan}
use Rattle.tp_names.proofs.Sequences.{some_of, AreBytes-append, AreBytes-front}
use Rattle.tp_records.specs.SentScanning.{left_of, scan_peer_count, scan_peer_of, sent_place, scan_sent}
use Rattle.tp_records.proofs.Sent.{read_sent, sent_steady, sent_found, sent_refused}

-- the second reads of bytes what the first reads
pub record Tells {A B : Type 0} (r : Reader A) (t : Reader B) : Type 0 where
  pub there : (bytes : List ℕ) (w : B) (rest : List ℕ) → t bytes ≡ Some (w, rest) → (v : A) × (r bytes ≡ Some (v, rest))
  pub back : (bytes : List ℕ) (v : A) (rest : List ℕ) → AreBytes bytes → r bytes ≡ Some (v, rest) → (w : B) × (t bytes ≡ Some (w, rest))

pub stuck_as : {A B : Type 0} (r : Reader A) (t : Reader B) → Tells r t → (bytes : List ℕ) (left : ℕ) → AreBytes bytes → r bytes ≡ None → IsStuck t bytes left → IsStuck r bytes left
stuck_as {A} r t x bytes left fits none k =
    let p = x.there (k.front ++ k.more) k.value [] k.reached in
    record {
      none = none;
      front = k.front;
      rest = k.rest;
      parts = k.parts;
      left_is = k.left_is;
      more = k.more;
      more_bytes = k.more_bytes;
      value = p.0;
      reached = p.1;
      most = λ p q z v w zs cut h.
          let whole : AreBytes (p ++ q) = (let P : List ℕ → Type 0 = λ u. AreBytes u in subst P cut fits) in
          let e = x.back (p ++ z) v w (AreBytes-append p z (AreBytes-front p q whole) zs) h in
          k.most p q z e.0 w zs cut e.1;
    }

abbrev pub walk : Scan (Unit {0})
walk bytes = then_scan (scan_peer_count bytes) scan_peer_of

place_is : (bytes : List ℕ) (left : ℕ) → walk bytes ≡ Err left → left ≤ length bytes → sent_place bytes ≡ left
unfolding sent_place
place_is bytes left e within =
    let least : min (length bytes) left ≡ left = omega (arith, within) in
    ap (λ (o : Result (Unit {0} × List ℕ) ℕ). min (length bytes) (left_of o)) e ∙ least

pub sent_scan_by : (t : Reader (Unit {0})) → IsScan t walk → Tells read_sent t → IsScan read_sent scan_sent
sent_scan_by t x y = record {
  steady = sent_steady;
  sample =
      let s : Sample t = x.sample in
      let p = y.there s.text s.value [] s.reads in
      record { value = p.0; text = s.text; bytes = s.bytes; reads = p.1 };
  found = sent_found;
  stuck = stuck;
}
  where
    go : (bytes : List ℕ) (left : ℕ) → AreBytes bytes → read_sent bytes ≡ None → sent_place bytes ≡ left → (o : Result (Unit {0} × List ℕ) ℕ) → walk bytes ≡ o → IsStuck read_sent bytes left
    go bytes left fits none place (Ok p) e =
        let s : t bytes ≡ Some (p.0, p.1) = x.found bytes p.0 p.1 e in
        let q = y.there bytes p.0 p.1 s in
        let clash : None ≡ some_of q.0 p.1 = sym none ∙ q.1 in
        absurd cc
    go bytes left fits none place (Err l) e =
        let k : IsStuck t bytes l = x.stuck bytes l fits e in
        let at : sent_place bytes ≡ l = place_is bytes l e (omega (arith, ap length k.parts, length-append k.front k.rest, k.left_is)) in
        let P : ℕ → Type 0 = λ m. IsStuck read_sent bytes m in
        subst P (sym at ∙ place) (stuck_as read_sent t y bytes l fits none k)

    stuck : (bytes : List ℕ) (left : ℕ) → AreBytes bytes → scan_sent bytes ≡ Err left → IsStuck read_sent bytes left
    stuck bytes left fits h =
        let none = sent_refused bytes left h in
        go bytes left fits none.0 none.1 (walk bytes) refl
