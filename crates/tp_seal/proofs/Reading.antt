-- How far the bytes of a log are read, where they stand for bodies.
use Rattle.std.proofs.Common.{◌≡◌, ◌≢◌, ◌≤◌, ◌+◌, ◌*◌, ◌-◌, ◌/◌, ◌%◌, inl, inr, refl, ℕ, List, [], ◌∷◌, ◌++◌, length, drop, slice_index_or, take, subst, sym, ap, ◌∙◌, arith, append_assoc, length-append, length-drop, take_all}
use Rattle.std.proofs.lemmas.List.{drop_at}
use Rattle.tp_journal.specs.Log.{counted, blocks, place_behind, StandsFor}

-- these bytes are left, which begin with a gate
pub record IsAt (log rest : List ℕ) (bodies : List (List ℕ)) : Type 0 where
  pub more : List (List ℕ)
  pub gate : ℕ
  pub after : List ℕ
  pub whole : rest ≡ blocks more ++ gate ∷ after
  pub closed : gate ≢ 1
  pub place : length log + length (blocks more) ≡ place_behind bodies + length rest

abbrev pub Reads : List ℕ → List ℕ → Type 0
Reads log rest = (bodies : List (List ℕ)) → StandsFor log bodies → IsAt log rest bodies

pub reads_first : (log rest : List ℕ) (a b c d : ℕ) → log ≡ a ∷ b ∷ c ∷ d ∷ 1 ∷ rest → Reads log rest
reads_first log rest a b c d is bodies (inl s) = record {
  more = bodies;
  gate = s.gate;
  after = s.rest;
  whole = ap (λ (l : List ℕ). drop 5 l) (sym is ∙ s.whole);
  closed = s.closed;
  place = omega (arith, ap length is);
}
reads_first log rest a b c d is bodies (inr s) = absurd (omega (arith, ap (λ (l : List ℕ). slice_index_or l 4 0) (sym is ∙ s.whole)))

reads_body : (log rest after : List ℕ) (high low len : ℕ) → rest ≡ 1 ∷ high ∷ low ∷ after → len ≡ high * 256 + low → Reads log rest → Reads log (drop len after)
reads_body log rest after high low len is long reads bodies stands = go (reads bodies stands)
  where
    step : (more : List (List ℕ)) (gate : ℕ) (tail : List ℕ) → rest ≡ blocks more ++ gate ∷ tail → gate ≢ 1 → length log + length (blocks more) ≡ place_behind bodies + length rest → IsAt log (drop len after) bodies
    step [] gate tail whole closed place = absurd (closed (sym (ap (λ (l : List ℕ). slice_index_or l 0 0) (sym is ∙ whole))))
    step (body ∷ more) gate tail whole closed place =
        let both : 1 ∷ high ∷ low ∷ after ≡ (1 ∷ counted body ++ blocks more) ++ gate ∷ tail = sym is ∙ whole in
        let first : high ≡ length body / 256 = ap (λ (l : List ℕ). slice_index_or l 1 0) both in
        let second : low ≡ length body % 256 = ap (λ (l : List ℕ). slice_index_or l 2 0) both in
        let size : len ≡ length body = omega (arith, long, first, second) in
        let parts : after ≡ body ++ (blocks more ++ gate ∷ tail) = ap (λ (l : List ℕ). drop 3 l) both ∙ append_assoc body (blocks more) (gate ∷ tail) in
        let next : drop len after ≡ blocks more ++ gate ∷ tail = ap (λ (l : List ℕ). drop len l) parts ∙ drop_at body (blocks more ++ gate ∷ tail) len (sym size) in
        record {
          more = more;
          gate = gate;
          after = tail;
          whole = next;
          closed = closed;
          place = omega (arith, place, ap length is, ap length parts, ap length next, length-append body (blocks more ++ gate ∷ tail), length-append (1 ∷ counted body) (blocks more));
        }

    go : IsAt log rest bodies → IsAt log (drop len after) bodies
    go at = step at.more at.gate at.after at.whole at.closed at.place

reads_gate : (log rest after : List ℕ) → rest ≡ 0 ∷ after → Reads log rest → (bodies : List (List ℕ)) → StandsFor log bodies → length log - length rest ≤ place_behind bodies
reads_gate log rest after is reads bodies stands = go (reads bodies stands)
  where
    step : (more : List (List ℕ)) (gate : ℕ) (tail : List ℕ) → rest ≡ blocks more ++ gate ∷ tail → length log + length (blocks more) ≡ place_behind bodies + length rest → length log - length rest ≤ place_behind bodies
    step [] gate tail whole place = omega (arith, place)
    step (body ∷ more) gate tail whole place = absurd (omega (arith, ap (λ (l : List ℕ). slice_index_or l 0 0) (sym is ∙ whole)))

    go : IsAt log rest bodies → length log - length rest ≤ place_behind bodies
    go at = step at.more at.gate at.after at.whole at.place

-- the bytes after the body that stands next, as a slice of what stands after its length
pub reads_next : (log rest : List ℕ) (high low : ℕ) → 3 ≤ length rest → slice_index_or rest 0 0 ≡ 1 → high ≡ slice_index_or rest 1 0 → low ≡ slice_index_or rest 2 0 → Reads log rest
    → Reads log (take (length (take (length rest - 3) (drop 3 rest)) - (high * 256 + low)) (drop (high * 256 + low) (take (length rest - 3) (drop 3 rest))))
reads_next log [] high low some opened is_high is_low reads = absurd (omega (arith, some))
reads_next log (a ∷ []) high low some opened is_high is_low reads = absurd (omega (arith, some))
reads_next log (a ∷ b ∷ []) high low some opened is_high is_low reads = absurd (omega (arith, some))
reads_next log (a ∷ b ∷ c ∷ after) high low some opened is_high is_low reads =
    let len = high * 256 + low in
    let behind : take (length (a ∷ b ∷ c ∷ after) - 3) after ≡ after = take_all (length (a ∷ b ∷ c ∷ after) - 3) after (omega arith) in
    let left : take (length after - len) (drop len after) ≡ drop len after = take_all (length after - len) (drop len after) (omega (arith, length-drop len after)) in
    let both : take (length (take (length (a ∷ b ∷ c ∷ after) - 3) after) - len) (drop len (take (length (a ∷ b ∷ c ∷ after) - 3) after)) ≡ drop len after =
    ap (λ (l : List ℕ). take (length l - len) (drop len l)) behind ∙ left in
    let whole : a ∷ b ∷ c ∷ after ≡ 1 ∷ high ∷ low ∷ after = cc in
    subst (Reads log) (sym both) (reads_body log (a ∷ b ∷ c ∷ after) after high low len whole refl reads)

-- a gate that is shut
pub reads_shut : (log rest : List ℕ) → 1 ≤ length rest → slice_index_or rest 0 0 ≡ 0 → Reads log rest → (bodies : List (List ℕ)) → StandsFor log bodies → length log - length rest ≤ place_behind bodies
reads_shut log [] some shut = absurd (omega (arith, some))
reads_shut log (a ∷ after) some shut = reads_gate log (a ∷ after) after (ap (λ (n : ℕ). n ∷ after) shut)
