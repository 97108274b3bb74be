-- The disk that a stop leaves: its bytes, and the records that a start finds on it.
use Rattle.std.proofs.Common.{◌≡◌, ◌≢◌, ◌⊎◌, inl, inr, ◌<◌, ◌+◌, ◌-◌, ◌==◌, ◌^◌, ◌++◌, ℕ, suc, nat_le, Bool, true, false, refl, ap, sym, ◌∙◌, subst, arith, List, [], ◌∷◌, length, take, drop, reverse, replicate, min, append_assoc, length-append}
use Rattle.std.specs.List.{AllByRecursion}
use Rattle.std.proofs.lemmas.Bool.Decides.{nat_tests}
use Rattle.std.proofs.lemmas.List.{append-nil, reverse-append}
use Rattle.tp_logrec.specs.declared.record.LogRec.{LogRec}
use Rattle.tp_outside.specs.Fill.{filled_range}
use Rattle.tp_journal.specs.Log.{StandsInFront, blocks, counted, head, place_behind}
use Rattle.tp_journal.specs.Records.{HasText, text, bodies_of}
use Rattle.tp_journal.specs.Stops.{body_piece, with_piece, with_gate}
use Rattle.tp_journal.proofs.Appending.{blocks-push}
use Rattle.tp_journal.proofs.RecordBodies.{bodies-push, texts_more}
use Rattle.tp_journal.proofs.Sizes.{text_is_body, bodies_are}
use Rattle.tp_model.specs.declared.out_line.RecordFate.{RecordFate}
use Rattle.tp_model.specs.Disk.{Disk, Remains, framed_record, disk_bytes, forced, piece, remains, remains_before_gate, remains_at_gate}
use Rattle.tp_model.specs.Lines.{log_size}
use Rattle.tp_world_sites.specs.Left.{IsReadable}
use Rattle.tp_world_sites.proofs.DiskBytes.{front, at_front, front_more, front_length, take_front, drop_front, counted_is, piece_length, forced_is}

-- ---- the bytes before the gate are the blocks of a journal

all_front : (P : LogRec → Type 0) (xs : List LogRec) (x : LogRec) → AllByRecursion P (xs ++ x ∷ []) → AllByRecursion P xs
all_front P [] x h = tt
all_front P (y ∷ xs) x h = (h.0, all_front P xs x h.1)

all_last : (P : LogRec → Type 0) (xs : List LogRec) (x : LogRec) → AllByRecursion P (xs ++ x ∷ []) → P x
all_last P [] x h = h.0
all_last P (y ∷ xs) x h = all_last P xs x h.1

abbrev Texts : List LogRec → Type 0
Texts rs = AllByRecursion (HasText true) rs

turned : (r : LogRec) (rs : List LogRec) → reverse (r ∷ rs) ≡ reverse rs ++ r ∷ []
turned r rs = reverse-append (r ∷ []) rs

pub texts_before : (r : LogRec) (rs : List LogRec) → Texts (reverse (r ∷ rs)) → Texts (reverse rs)
texts_before r rs h = all_front (HasText true) (reverse rs) r (subst Texts (turned r rs) h)

pub text_last : (r : LogRec) (rs : List LogRec) → Texts (reverse (r ∷ rs)) → HasText true r
text_last r rs h = all_last (HasText true) (reverse rs) r (subst Texts (turned r rs) h)

pub texts_with : (r : LogRec) (rs : List LogRec) → Texts (reverse rs) → HasText true r → Texts (reverse (r ∷ rs))
texts_with r rs h has = subst Texts (sym (turned r rs)) (texts_more true (reverse rs) r h has)

pub front_is : (rs : List LogRec) → Texts (reverse rs) → front rs ≡ head 1 ++ blocks (bodies_of true (reverse rs))
front_is [] h = refl
front_is (r ∷ rs) h =
    let rest : front rs ≡ head 1 ++ blocks (bodies_of true (reverse rs)) = front_is rs (texts_before r rs h) in
    let short : length (text true r) < 2 ^ 16 = (text_is_body true r (text_last r rs h)).1 in
    let body : counted (text true r) ≡ framed_record r = sym (append-nil (counted (text true r))) ∙ counted_is (text true r) [] short ∙ append-nil (framed_record r) in
    front_more r rs
    ∙ ap (λ (l : List ℕ). l ++ 1 ∷ framed_record r) rest
    ∙ ap (λ (l : List ℕ). (head 1 ++ blocks (bodies_of true (reverse rs))) ++ 1 ∷ l) (sym body)
    ∙ append_assoc (head 1) (blocks (bodies_of true (reverse rs))) (1 ∷ counted (text true r))
    ∙ ap (λ (l : List ℕ). head 1 ++ l) (sym (blocks-push (bodies_of true (reverse rs)) (text true r)) ∙ ap blocks (sym (bodies-push true (reverse rs) r)))
    ∙ ap (λ (l : List LogRec). head 1 ++ blocks (bodies_of true l)) (sym (turned r rs))

pub place_is : (rs : List LogRec) → Texts (reverse rs) → place_behind (bodies_of true (reverse rs)) + 1 ≡ log_size rs
place_is rs h =
    let same : length (front rs) ≡ length (head 1 ++ blocks (bodies_of true (reverse rs))) = ap length (front_is rs h) in
    let size : length (front rs) + 1 ≡ log_size rs = front_length rs in
    omega (arith, same, size)

-- the bytes of a disk stand for its records
pub stands_for_records : (d : Disk) → IsReadable d → StandsInFront (disk_bytes d) (bodies_of true (reverse d.records))
stands_for_records d is = record {
  selector = 1;
  gate = d.gate;
  rest = d.behind;
  whole = at_front d ∙ ap (λ (l : List ℕ). l ++ d.gate ∷ d.behind) (front_is d.records is.texts) ∙ append_assoc (head 1) (blocks (bodies_of true (reverse d.records))) (d.gate ∷ d.behind);
  selects = λ e. absurd (omega (arith, e));
  closed = is.closed;
  each = bodies_are true (reverse d.records) is.texts;
}

-- ---- the bytes that a stop leaves

module _ (fill : ℕ) (r : LogRec) (d : Disk) (gate : ℕ) (place : gate + 1 ≡ log_size d.records) (has : HasText true r) where
  abbrev p : List ℕ
  p = front d.records

  abbrev body : List ℕ
  body = text true r

  abbrev last : List ℕ
  last = drop (length (piece r)) d.behind

  short : length body < 2 ^ 16
  short = (text_is_body true r has).1

  at : gate ≡ length p
  at = let size : length p + 1 ≡ log_size d.records = front_length d.records in omega (arith, place, size)

  count : length (body_piece body) ≡ length (piece r)
  count = let one : length (counted body ++ 0 ∷ []) ≡ length (counted body) + 1 = length-append (counted body) (0 ∷ []) in omega (arith, one, piece_length r)

  whole : disk_bytes d ≡ p ++ d.gate ∷ d.behind
  whole = at_front d

  -- so many bytes from the front on
  pub size_is : length (disk_bytes d) ≡ gate + suc (length d.behind)
  size_is = let all : length (disk_bytes d) ≡ length p + length (d.gate ∷ d.behind) = ap length whole ∙ length-append p (d.gate ∷ d.behind) in omega (arith, all, at)

  taken : take gate (disk_bytes d) ≡ p
  taken = ap (λ (n : ℕ). take n (disk_bytes d)) at ∙ ap (take (length p)) whole ∙ take_front p (d.gate ∷ d.behind)

  take_past : (q xs : List ℕ) (x : ℕ) → take (length q + 1) (q ++ x ∷ xs) ≡ q ++ x ∷ []
  take_past [] xs x = refl
  take_past (y ∷ q) xs x = let e : length (y ∷ q) + 1 ≡ suc (length q + 1) = omega arith in ap (λ (n : ℕ). take n ((y ∷ q) ++ x ∷ xs)) e ∙ ap (λ (l : List ℕ). y ∷ l) (take_past q xs x)

  taken_gate : take (gate + 1) (disk_bytes d) ≡ p ++ d.gate ∷ []
  taken_gate = ap (λ (n : ℕ). take (n + 1) (disk_bytes d)) at ∙ ap (take (length p + 1)) whole ∙ take_past p d.behind d.gate

  dropped : drop (gate + 1 + length (body_piece body)) (disk_bytes d) ≡ last
  dropped =
      let past : gate + 1 + length (body_piece body) ≡ length p + suc (length (piece r)) = omega (arith, at, count) in
      ap (λ (n : ℕ). drop n (disk_bytes d)) past ∙ ap (drop (length p + suc (length (piece r)))) whole ∙ drop_front p (d.gate ∷ d.behind) (suc (length (piece r)))

  text_framed : (more : List ℕ) → body_piece body ++ more ≡ piece r ++ more
  text_framed more = append_assoc (counted body) (0 ∷ []) more ∙ counted_is body (0 ∷ more) short ∙ sym (append_assoc (framed_record r) (0 ∷ []) more)

  piece_last : piece r ++ last ≡ framed_record r ++ 0 ∷ last
  piece_last = append_assoc (framed_record r) (0 ∷ []) last

  -- in the first two calls the piece is the fill
  pub left_before_gate : filled_range fill (gate + 1) (length (body_piece body)) (disk_bytes d) ≡ disk_bytes (remains_before_gate fill r d).disk
  left_before_gate =
      let n : ℕ = length (body_piece body) in
      let within : min (gate + 1) (length (disk_bytes d)) ≡ gate + 1 = omega (arith, size_is) in
      let many : gate + 1 + n - min (gate + 1) (length (disk_bytes d)) ≡ length (piece r) = omega (arith, within, count) in
      ap (λ (k : ℕ). take k (disk_bytes d) ++ replicate (gate + 1 + n - min (gate + 1) (length (disk_bytes d))) fill ++ drop (gate + 1 + n) (disk_bytes d)) within
      ∙ ap (λ (k : ℕ). take (gate + 1) (disk_bytes d) ++ replicate k fill ++ drop (gate + 1 + n) (disk_bytes d)) many
      ∙ ap (λ (l : List ℕ). l ++ replicate (length (piece r)) fill ++ drop (gate + 1 + n) (disk_bytes d)) taken_gate
      ∙ ap (λ (l : List ℕ). (p ++ d.gate ∷ []) ++ replicate (length (piece r)) fill ++ l) dropped
      ∙ append_assoc (p ++ d.gate ∷ []) (replicate (length (piece r)) fill) last
      ∙ append_assoc p (d.gate ∷ []) (replicate (length (piece r)) fill ++ last)
      ∙ sym (at_front (remains_before_gate fill r d).disk)

  -- the piece stands, and the gate is not yet open
  pieced : with_piece gate (body_piece body) (disk_bytes d) ≡ p ++ d.gate ∷ (piece r ++ last)
  pieced =
      ap (λ (l : List ℕ). l ++ (body_piece body ++ drop (gate + 1 + length (body_piece body)) (disk_bytes d))) taken_gate
      ∙ ap (λ (l : List ℕ). (p ++ d.gate ∷ []) ++ (body_piece body ++ l)) dropped
      ∙ ap (λ (l : List ℕ). (p ++ d.gate ∷ []) ++ l) (text_framed last)
      ∙ append_assoc p (d.gate ∷ []) (piece r ++ last)

  -- in the next two the gate is
  pub left_at_gate : filled_range fill gate 1 (with_piece gate (body_piece body) (disk_bytes d)) ≡ p ++ fill ∷ (piece r ++ last)
  left_at_gate =
      let file : List ℕ = with_piece gate (body_piece body) (disk_bytes d) in
      let long : length file ≡ length p + length (d.gate ∷ (piece r ++ last)) = ap length pieced ∙ length-append p (d.gate ∷ (piece r ++ last)) in
      let within : min gate (length file) ≡ gate = omega (arith, long, at) in
      let one : gate + 1 - min gate (length file) ≡ 1 = omega (arith, within) in
      let begins : take gate file ≡ p = ap (λ (n : ℕ). take n file) at ∙ ap (take (length p)) pieced ∙ take_front p (d.gate ∷ (piece r ++ last)) in
      let ends : drop (gate + 1) file ≡ piece r ++ last = ap (λ (n : ℕ). drop (n + 1) file) at ∙ ap (drop (length p + 1)) pieced ∙ drop_front p (d.gate ∷ (piece r ++ last)) 1 in
      ap (λ (k : ℕ). take k file ++ replicate (gate + 1 - min gate (length file)) fill ++ drop (gate + 1) file) within
      ∙ ap (λ (k : ℕ). take gate file ++ replicate k fill ++ drop (gate + 1) file) one
      ∙ ap (λ (l : List ℕ). l ++ replicate 1 fill ++ drop (gate + 1) file) begins
      ∙ ap (λ (l : List ℕ). p ++ replicate 1 fill ++ l) ends
      ∙ append_assoc p (fill ∷ []) (piece r ++ last)

  -- the gate is open
  pub left_forced : with_gate gate (body_piece body) (disk_bytes d) ≡ disk_bytes (forced r d)
  left_forced =
      let past : gate + 1 + length (body_piece body) ≡ gate + 4 + length body = omega (arith, count, piece_length r) in
      ap (λ (n : ℕ). take gate (disk_bytes d) ++ (1 ∷ (body_piece body ++ drop n (disk_bytes d)))) past
      ∙ forced_is r d gate place short

  pub gate_remains : p ++ fill ∷ (piece r ++ last) ≡ disk_bytes (remains_at_gate fill r d).disk
  gate_remains = go (fill == 1) refl
    where
      go : (b : Bool) → (fill == 1) ≡ b
          → p ++ fill ∷ (piece r ++ last) ≡ disk_bytes (elim b as (λ _. Remains) [
            | true ↦ record { disk = forced r d; fate = RecordFate.Kept }
            | false ↦ record {
              disk = record { records = d.records; gate = fill; behind = piece r ++ drop (length (piece r)) d.behind };
              fate = RecordFate.Lost;
            }
          ]).disk
      go true e =
          let open_gate : fill ≡ 1 = grind (arith, nat_tests, e) in
          ap (λ (n : ℕ). p ++ n ∷ (piece r ++ last)) open_gate
          ∙ ap (λ (l : List ℕ). p ++ 1 ∷ l) piece_last
          ∙ sym (append_assoc p (1 ∷ framed_record r) (0 ∷ last))
          ∙ ap (λ (l : List ℕ). l ++ 0 ∷ last) (sym (front_more r d.records))
          ∙ sym (at_front (forced r d))
      go false e = sym (at_front (record { records = d.records; gate = fill; behind = piece r ++ last }))

-- ---- the record is kept or lost

pub record IsKept (r : LogRec) (d : Disk) (st : Remains) : Type 0 where
  pub fate : st.fate ≡ RecordFate.Kept
  pub disk : st.disk ≡ forced r d

pub record IsLost (d : Disk) (st : Remains) : Type 0 where
  pub fate : st.fate ≡ RecordFate.Lost
  pub records : st.disk.records ≡ d.records
  pub closed : st.disk.gate ≢ 1

pub kept_or_lost : (call fill : ℕ) (r : LogRec) (d : Disk) → d.gate ≢ 1 → IsKept r d (remains call fill r d) ⊎ IsLost d (remains call fill r d)
kept_or_lost call fill r d closed = by_first (nat_le call 2) (nat_le call 4) (fill == 1) refl
  where
    at_gate : Bool → Remains
    at_gate b = elim b as (λ _. Remains) [
      | true ↦ record { disk = forced r d; fate = RecordFate.Kept }
      | false ↦ record {
        disk = record { records = d.records; gate = fill; behind = piece r ++ drop (length (piece r)) d.behind };
        fate = RecordFate.Lost;
      }
    ]

    by_first : (a b c : Bool) → (fill == 1) ≡ c
        → IsKept r d (elim a as (λ _. Remains) [ true ↦ remains_before_gate fill r d | false ↦ elim b as (λ _. Remains) [ true ↦ at_gate c | false ↦ record { disk = forced r d; fate = RecordFate.Kept } ] ])
        ⊎ IsLost d (elim a as (λ _. Remains) [ true ↦ remains_before_gate fill r d | false ↦ elim b as (λ _. Remains) [ true ↦ at_gate c | false ↦ record { disk = forced r d; fate = RecordFate.Kept } ] ])
    by_first true b c e = inr (record { fate = refl; records = refl; closed = closed })
    by_first false true true e = inl (record { fate = refl; disk = refl })
    by_first false true false e = inr (record { fate = refl; records = refl; closed = λ one. absurd (let two = one in grind (arith, nat_tests, e, two)) })
    by_first false false c e = inl (record { fate = refl; disk = refl })

-- what is left is readable
pub remains_readable : (call fill : ℕ) (r : LogRec) (d : Disk) → IsReadable d → HasText true r → IsReadable (remains call fill r d).disk
remains_readable call fill r d is has = go (kept_or_lost call fill r d is.closed)
  where
    st : Remains
    st = remains call fill r d

    go : IsKept r d (remains call fill r d) ⊎ IsLost d (remains call fill r d) → IsReadable (remains call fill r d).disk
    go (inl kept) = subst IsReadable (sym kept.disk) (record { closed = λ e. absurd (omega (arith, e)); texts = texts_with r d.records is.texts has })
    go (inr lost) = record { closed = lost.closed; texts = subst (λ (rs : List LogRec). Texts (reverse rs)) (sym lost.records) is.texts }
