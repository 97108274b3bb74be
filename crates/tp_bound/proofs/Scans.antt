-- So many writes are scanned one after the other; and what a scan of a body says of the whole bytes.
use Rattle.std.proofs.Common.{◌≡◌, ◌<◌, ℕ, suc, Result, Ok, Err, Some, None, List, [], ◌∷◌, ◌++◌, length, refl, sym, ◌∙◌, ap, append_assoc, arith}
use Rattle.tp_names.specs.Places.{AreBytes}
use Rattle.tp_names.specs.Scanning.{with_value, then_scan, scan_many}
use Rattle.tp_bound.specs.declared.write.Write.{Write}
use Rattle.tp_bound.specs.declared.body.Body.{Body}
use Rattle.tp_bound.specs.Bodies.{whole, body_in}
use Rattle.tp_bound.specs.BodyScanning.{scan_write, scan_body, after}
use Rattle.tp_bound.specs.Gathered.{write_in}
use Rattle.tp_bound.proofs.BodyScans.{body_scan, write_scan}

abbrev Scanned : Type 0
Scanned = Result (List Write × List ℕ) ℕ

abbrev next_write : ℕ → Result (Write × List ℕ) ℕ → Scanned
next_write k (Err left) = Err left
next_write k (Ok p) = with_value (λ rest. p.0 ∷ rest) (scan_many scan_write k p.1)

many_next : (k : ℕ) (bytes : List ℕ) → scan_many scan_write (suc k) bytes ≡ next_write k (scan_write bytes)
many_next k bytes = go (scan_write bytes)
  where
    go : (r : Result (Write × List ℕ) ℕ) → then_scan (with_value (λ (a : Write) (rest : List Write). a ∷ rest) r) (λ g rest. with_value g (scan_many scan_write k rest)) ≡ next_write k r
    go (Err left) = refl
    go (Ok p) = refl

after_more : (front : List Write) (w : Write) (r : Scanned) → after front (with_value (λ rest. w ∷ rest) r) ≡ after (front ++ w ∷ []) r
after_more front w (Err left) = refl
after_more front w (Ok p) = ap (λ v. let s : Scanned = Ok (v, p.1) in s) (sym (append_assoc front (w ∷ []) p.0))

-- one write more
pub many_more : (front : List Write) (k : ℕ) (bytes : List ℕ) (w : Write) (rest : List ℕ) → scan_write bytes ≡ Ok (w, rest)
    → after front (scan_many scan_write (suc k) bytes) ≡ after (front ++ w ∷ []) (scan_many scan_write k rest)
many_more front k bytes w rest e = ap (after front) (many_next k bytes ∙ ap (next_write k) e) ∙ after_more front w (scan_many scan_write k rest)

-- and where none can be had
pub many_stops : (front : List Write) (k : ℕ) (bytes : List ℕ) (left : ℕ) → scan_write bytes ≡ Err left
    → after front (scan_many scan_write (suc k) bytes) ≡ Err left
many_stops front k bytes left e = ap (after front) (many_next k bytes ∙ ap (next_write k) e)

-- ---- the whole bytes

pub is_whole : (bytes : List ℕ) (b : Body) (rest : List ℕ) → scan_body bytes ≡ Ok (b, rest) → length rest ≡ 0 → body_in bytes ≡ Some b
is_whole bytes b [] h none = ap whole (body_scan.found bytes b [] h)
is_whole bytes b (x ∷ rest) h none = absurd (omega (arith, none))

pub is_longer : (bytes : List ℕ) (b : Body) (rest : List ℕ) → scan_body bytes ≡ Ok (b, rest) → 0 < length rest → body_in bytes ≡ None
is_longer bytes b [] h some = absurd (omega (arith, some))
is_longer bytes b (x ∷ rest) h some = ap whole (body_scan.found bytes b (x ∷ rest) h)

pub is_none : (bytes : List ℕ) (left : ℕ) → AreBytes bytes → scan_body bytes ≡ Err left → body_in bytes ≡ None
is_none bytes left fits h = ap whole (body_scan.stuck bytes left fits h).none

-- ---- a write alone

pub write_whole : (bytes : List ℕ) (w : Write) (rest : List ℕ) → scan_write bytes ≡ Ok (w, rest) → length rest ≡ 0 → write_in bytes ≡ Some w
write_whole bytes w [] h none = ap whole (write_scan.found bytes w [] h)
write_whole bytes w (x ∷ rest) h none = absurd (omega (arith, none))

pub write_longer : (bytes : List ℕ) (w : Write) (rest : List ℕ) → scan_write bytes ≡ Ok (w, rest) → 0 < length rest → write_in bytes ≡ None
write_longer bytes w [] h some = absurd (omega (arith, some))
write_longer bytes w (x ∷ rest) h some = ap whole (write_scan.found bytes w (x ∷ rest) h)

pub write_none : (bytes : List ℕ) (left : ℕ) → AreBytes bytes → scan_write bytes ≡ Err left → write_in bytes ≡ None
write_none bytes left fits h = ap whole (write_scan.stuck bytes left fits h).none
