-- What is read as a log is one.
use Rattle.std.proofs.Common.{◌≡◌, ◌≢◌, ℕ, zero, suc, ◌+◌, ◌-◌, ◌*◌, ◌<◌, ◌≤◌, ◌^◌, inl, inr, Option, Some, None, List, [], ◌∷◌, ◌++◌, length, take, drop, Bool, true, false, refl, sym, subst, ◌∙◌, ap, arith, append_assoc, length-append}
use Rattle.std.specs.Prelude.{◌==◌, ◌&&◌, nat_le}
use Rattle.std.proofs.lemmas.List.{append-nil, length-take-le, take-append-drop, length-drop}
use Rattle.std.proofs.lemmas.Bool.Decides.{nat_tests}
use Rattle.tp_names.specs.Bytes.{short_bytes, long_bytes}
use Rattle.tp_names.specs.Reading.{read_short, read_bytes, number_from}
use Rattle.tp_names.specs.Grammar.{HasText, IsWritten}
use Rattle.tp_names.specs.Places.{AreBytes}
use Rattle.tp_names.specs.Same.{is_name}
use Rattle.tp_names.proofs.Sames.{both, name_same}
use Rattle.tp_names.proofs.Sequences.{some_of, some_pair, AreBytes-front, AreBytes-back}
use Rattle.tp_names.proofs.Choices.{Chosen, chosen_parts, bytes_parts}
use Rattle.tp_names.proofs.Numbers.{short_written, long_written}
use Rattle.tp_names.proofs.Texts.{is_written}
use Rattle.tp_logrec.specs.declared.record.LogRec.{LogRec}
use Rattle.tp_logrec.specs.declared.record.LogVersion.{LogVersion}
use Rattle.tp_logrec.specs.RecordText.{record_bytes}
use Rattle.tp_logrec.specs.RecordReading.{record_in, record_grammar, read_record, whole}
use Rattle.tp_logrec.specs.LogText.{framed, version_text, records_text, log_text, HasBody, HaveBodies, IsListed, log_name, IsFront, IsBack, IsLog, Placed, recs, LogReading, Foreign, Reads, with_record, body_in, records_from, is_marked, listed_from, fitting, last_place, back_reading, selected, read_log}
use Rattle.tp_logrec.proofs.RecordScans.{record_scan}
use Rattle.tp_logrec.proofs.RecordWritten.{record_written}
use Rattle.tp_logrec.proofs.Logs.{on_record, on_body, on_gate, gate_is, on_mark, mark_is, on_selector, selector_is, on_place, place_is}

pub bytes_same : (xs ys : List ℕ) → xs ≡ ys → AreBytes xs → AreBytes ys
bytes_same xs ys e fits = let P : List ℕ → Type 0 = λ w. AreBytes w in subst P e fits

-- ---- a body, and its record

pub short_small : (bytes : List ℕ) (n : ℕ) (rest : List ℕ) → AreBytes bytes → read_short bytes ≡ Some (n, rest) → n < 2 ^ 16
short_small [] n rest fits h = absurd cc
short_small (a ∷ []) n rest fits h = absurd cc
short_small (a ∷ b ∷ bytes) n rest fits h =
    let e = some_pair ((0 * 256 + a) * 256 + b) n bytes rest h in
    omega (arith, e.0, fits.0, fits.1.0)

pub record BodyParts (bytes body more : List ℕ) : Type 0 where
  pub is : bytes ≡ framed body ++ more
  pub short : length body < 2 ^ 16
  pub body_bytes : AreBytes body
  pub more_bytes : AreBytes more

pub body_parts : (bytes body more : List ℕ) → AreBytes bytes → body_in bytes ≡ Some (body, more) → BodyParts bytes body more
body_parts bytes body more fits h =
    let c : Chosen (read_short bytes) read_bytes body more = chosen_parts (read_short bytes) read_bytes body more h in
    let front : bytes ≡ short_bytes c.choice ++ c.middle = short_written.spelled bytes c.choice c.middle fits c.first in
    let parts = bytes_parts c.choice c.middle body more c.second in
    let small : c.choice < 2 ^ 16 = short_small bytes c.choice c.middle fits c.first in
    let middle_bytes : AreBytes c.middle = AreBytes-back (short_bytes c.choice) c.middle (bytes_same bytes (short_bytes c.choice ++ c.middle) front fits) in
    let both_bytes : AreBytes (body ++ more) = bytes_same c.middle (body ++ more) parts.0 middle_bytes in
    record {
      is = front ∙ ap (λ (w : List ℕ). short_bytes c.choice ++ w) parts.0 ∙ ap (λ (n : ℕ). short_bytes n ++ (body ++ more)) (sym parts.1)
          ∙ sym (append_assoc (short_bytes (length body)) body more);
      short = omega (arith, parts.1, small);
      body_bytes = AreBytes-front body more both_bytes;
      more_bytes = AreBytes-back body more both_bytes;
    }

pub whole_parts : (o : Option (LogRec × List ℕ)) (r : LogRec) → whole o ≡ Some r → o ≡ Some (r, [])
whole_parts None r h = absurd cc
whole_parts (Some p) r h = go p.1 h
  where
    go : (l : List ℕ) → elim l as (λ _. Option LogRec) [ [] ↦ Some p.0 | b ∷ bytes ↦ None ] ≡ Some r → some_of p.0 l ≡ Some (r, [])
    go [] e = let same : p.0 ≡ r = cc in ap (λ (x : LogRec). some_of x []) same
    go (b ∷ bytes) e = absurd cc

pub record_parts : (ver : LogVersion) (body : List ℕ) (r : LogRec) → AreBytes body → record_in ver body ≡ Some r → HasText (record_grammar ver) r × (body ≡ record_bytes ver r)
record_parts ver body r fits h =
    let read : read_record ver body ≡ Some (r, []) = whole_parts (read_record ver body) r h in
    let law : IsWritten (record_grammar ver) = is_written (record_grammar ver) (record_scan ver).steady (record_written ver) in
    let w = law r body [] fits read in
    (w.0, w.1 ∙ append-nil (record_bytes ver r))

-- ---- bodies after gates

pub record IsRest (ver : LogVersion) (at : ℕ) (bytes : List ℕ) (ps : List Placed) (gate : ℕ) : Type 0 where
  pub closing : ℕ
  pub rest : List ℕ
  pub bodies : HaveBodies ver (recs ps)
  pub closed : closing ≢ 1
  pub is : bytes ≡ records_text ver (recs ps) ++ closing ∷ rest
  pub gate_at : gate ≡ at + length (records_text ver (recs ps))

-- what a reading of those bytes from that place on says of them
abbrev pub Tells : LogVersion → ℕ → List ℕ → LogReading → Type 0
Tells ver at bytes (Foreign place) = Unit {0}
Tells ver at bytes (Reads v ps gate) = (v ≡ ver) × IsRest ver at bytes ps gate

pub tells_one : (ver : LogVersion) (at : ℕ) (bytes body more : List ℕ) (r : LogRec) → bytes ≡ (1 ∷ framed body) ++ more → body ≡ record_bytes ver r → HasBody ver r
    → (reading : LogReading) → Tells ver (at + 3 + length body) more reading → Tells ver at bytes (with_record (record { place = at; rec = r }) reading)
tells_one ver at bytes body more r is same has (Foreign place) t = tt
tells_one ver at bytes body more r is same has (Reads v ps gate) t =
    let rest = t.1 in
    let wrote = record_bytes ver r in
    let later = records_text ver (recs ps) in
    let tail : List ℕ = rest.closing ∷ rest.rest in
    let size : length ((1 ∷ framed wrote) ++ later) ≡ 3 + length wrote + length later = omega (arith, length-append (1 ∷ framed wrote) later) in
    let sized : length body ≡ length wrote = ap length same in (
      t.0,
      record {
        closing = rest.closing;
        rest = rest.rest;
        bodies = (has, rest.bodies);
        closed = rest.closed;
        is = is ∙ ap (λ (w : List ℕ). (1 ∷ framed w) ++ more) same ∙ ap (λ (w : List ℕ). (1 ∷ framed wrote) ++ w) rest.is
            ∙ sym (append_assoc (1 ∷ framed wrote) later tail);
        gate_at = omega (arith, size, sized, rest.gate_at);
      },
    )

abbrev pub Told : ℕ → LogVersion → Type 0
Told fuel ver = (at : ℕ) (bytes : List ℕ) → AreBytes bytes → Tells ver at bytes (records_from fuel ver at bytes)

pub tells_record : (fuel : ℕ) (ver : LogVersion) (at : ℕ) (bytes : List ℕ) (p : List ℕ × List ℕ) → Told fuel ver → BodyParts bytes p.0 p.1
    → (o : Option LogRec) → record_in ver p.0 ≡ o → Tells ver at (1 ∷ bytes) (on_record ver fuel at p o)
tells_record fuel ver at bytes p told parts None e = tt
tells_record fuel ver at bytes p told parts (Some r) e =
    let w = record_parts ver p.0 r parts.body_bytes e in
    let has : HasBody ver r = record { text = w.0; short = (let n : length p.0 ≡ length (record_bytes ver r) = ap length w.1 in omega (arith, n, parts.short)) } in
    tells_one ver at (1 ∷ bytes) p.0 p.1 r (ap (λ (v : List ℕ). 1 ∷ v) parts.is) w.1 has (records_from fuel ver (at + 3 + length p.0) p.1)
    (told (at + 3 + length p.0) p.1 parts.more_bytes)

pub tells_body : (fuel : ℕ) (ver : LogVersion) (at : ℕ) (bytes : List ℕ) → Told fuel ver → AreBytes bytes
    → (o : Option (List ℕ × List ℕ)) → body_in bytes ≡ o → Tells ver at (1 ∷ bytes) (on_body ver fuel at o)
tells_body fuel ver at bytes told fits None e = tt
tells_body fuel ver at bytes told fits (Some p) e = tells_record fuel ver at bytes p told (body_parts bytes p.0 p.1 fits e) (record_in ver p.0) refl

pub tells_gate : (fuel : ℕ) (ver : LogVersion) (at b : ℕ) (bytes : List ℕ) → Told fuel ver → AreBytes bytes
    → (t : Bool) → (b == 1) ≡ t → Tells ver at (b ∷ bytes) (on_gate ver fuel at bytes t)
tells_gate fuel ver at b bytes told fits false e =
    (refl, record { closing = b; rest = bytes; bodies = tt; closed = not_open; is = refl; gate_at = omega arith })
  where
    not_open : b ≢ 1
    not_open = λ h. let clash : true ≡ false = sym (ap (λ (n : ℕ). n == 1) h) ∙ e in cc
tells_gate fuel ver at b bytes told fits true e =
    let one : b ≡ 1 = grind (arith, nat_tests, e) in
    subst (λ (n : ℕ). Tells ver at (n ∷ bytes) (on_body ver fuel at (body_in bytes))) (sym one) (tells_body fuel ver at bytes told fits (body_in bytes) refl)

pub records_tell : (fuel : ℕ) (ver : LogVersion) → Told fuel ver
records_tell zero ver at [] fits = tt
records_tell zero ver at (b ∷ bytes) fits = tt
records_tell (suc fuel) ver at [] fits = tt
records_tell (suc fuel) ver at (b ∷ bytes) fits =
    subst (λ (w : LogReading). Tells ver at (b ∷ bytes) w) (sym (gate_is fuel ver at b bytes)) (tells_gate fuel ver at b bytes (records_tell fuel ver) fits.1 (b == 1) refl)

-- ---- both versions

pub record IsListedAs (at : ℕ) (bytes : List ℕ) (ver : LogVersion) (ps : List Placed) (gate : ℕ) : Type 0 where
  pub closing : ℕ
  pub rest : List ℕ
  pub bodies : HaveBodies ver (recs ps)
  pub closed : closing ≢ 1
  pub is : bytes ≡ log_text ver (recs ps) ++ closing ∷ rest
  pub gate_at : gate ≡ at + length (log_text ver (recs ps))

abbrev pub TellsList : ℕ → List ℕ → LogReading → Type 0
TellsList at bytes (Foreign place) = Unit {0}
TellsList at bytes (Reads ver ps gate) = IsListedAs at bytes ver ps gate

pub one_tells : (at : ℕ) (bytes : List ℕ) (reading : LogReading) → Tells LogVersion.One at bytes reading → TellsList at bytes reading
one_tells at bytes (Foreign place) t = tt
one_tells at bytes (Reads ver ps gate) t =
    let x = t.1 in
    let listed : IsListedAs at bytes LogVersion.One ps gate = record { closing = x.closing; rest = x.rest; bodies = x.bodies; closed = x.closed; is = x.is; gate_at = x.gate_at } in
    subst (λ (v : LogVersion). IsListedAs at bytes v ps gate) (sym t.0) listed

pub two_tells : (at : ℕ) (bytes later : List ℕ) → bytes ≡ version_text LogVersion.Two ++ later
    → (reading : LogReading) → Tells LogVersion.Two (at + 5) later reading → TellsList at bytes reading
two_tells at bytes later is (Foreign place) t = tt
two_tells at bytes later is (Reads ver ps gate) t =
    let x = t.1 in
    let listed : IsListedAs at bytes LogVersion.Two ps gate = record {
      closing = x.closing;
      rest = x.rest;
      bodies = x.bodies;
      closed = x.closed;
      is = is ∙ ap (λ (w : List ℕ). version_text LogVersion.Two ++ w) x.is;
      gate_at = omega (arith, x.gate_at);
    } in
    subst (λ (v : LogVersion). IsListedAs at bytes v ps gate) (sym t.0) listed

pub listed_tells : (at : ℕ) (bytes : List ℕ) → AreBytes bytes → TellsList at bytes (listed_from at bytes)
listed_tells at bytes fits = subst (λ (w : LogReading). TellsList at bytes w) (sym (mark_is at bytes)) (go (is_marked bytes) refl)
  where
    go : (t : Bool) → is_marked bytes ≡ t → TellsList at bytes (on_mark at bytes t)
    go false e = one_tells at bytes (records_from (length bytes) LogVersion.One at bytes) (records_tell (length bytes) LogVersion.One at bytes fits)
    go true e =
        let cut : bytes ≡ take 5 bytes ++ drop 5 bytes = sym (take-append-drop 5 bytes) in
        let later_bytes : AreBytes (drop 5 bytes) = AreBytes-back (take 5 bytes) (drop 5 bytes) (bytes_same bytes (take 5 bytes ++ drop 5 bytes) cut fits) in
        let is : bytes ≡ version_text LogVersion.Two ++ drop 5 bytes = cut ∙ ap (λ (w : List ℕ). w ++ drop 5 bytes) (name_same (take 5 bytes) (version_text LogVersion.Two) e) in
        two_tells at bytes (drop 5 bytes) is (records_from (length bytes) LogVersion.Two (at + 5) (drop 5 bytes)) (records_tell (length bytes) LogVersion.Two (at + 5) (drop 5 bytes) later_bytes)

-- ---- the front text, and the one after

abbrev pub TellsFile : List ℕ → LogReading → Type 0
TellsFile bytes (Foreign place) = Unit {0}
TellsFile bytes (Reads ver ps gate) = IsLog bytes (recs ps)

pub front_tells : (selector : ℕ) (text : List ℕ) → selector ≢ 2 → (reading : LogReading) → TellsList 5 text reading → TellsFile (log_name ++ selector ∷ text) reading
front_tells selector text other (Foreign place) t = tt
front_tells selector text other (Reads ver ps gate) t =
    let listed : IsListed text (recs ps) = record { version = ver; gate = t.closing; rest = t.rest; bodies = t.bodies; closed = t.closed; is = t.is } in
    let front : IsFront (log_name ++ selector ∷ text) (recs ps) = record { selector = selector; text = text; other = other; is = refl; listed = listed } in
    inl front

-- the last eight bytes are the place that they tell, where it is one
pub place_spelled : (last : List ℕ) → AreBytes last → length last ≡ 8 → (o : Option (ℕ × List ℕ)) → number_from 8 0 last ≡ o
    → 5 ≤ elim o as (λ _. ℕ) [ None ↦ 0 | Some p ↦ p.0 ] → last ≡ long_bytes (elim o as (λ _. ℕ) [ None ↦ 0 | Some p ↦ p.0 ])
place_spelled last fits eight None e h = absurd (omega arith)
place_spelled last fits eight (Some p) e h =
    let is : last ≡ long_bytes p.0 ++ p.1 = long_written.spelled last p.0 p.1 fits e in
    let size : length (long_bytes p.0 ++ p.1) ≡ 8 + length p.1 = omega (arith, length-append (long_bytes p.0) p.1) in
    let same : length last ≡ length (long_bytes p.0 ++ p.1) = ap length is in
    let none : length p.1 ≡ 0 = omega (arith, size, same, eight) in
    is ∙ ap (λ (w : List ℕ). long_bytes p.0 ++ w) (empty p.1 none) ∙ append-nil (long_bytes p.0)
  where
    empty : (w : List ℕ) → length w ≡ 0 → w ≡ []
    empty [] h = refl
    empty (x ∷ w) h = absurd (omega arith)

-- a text after a front of so many bytes, and the last eight bytes after it
pub record Behind (text : List ℕ) (room : ℕ) (listed last : List ℕ) : Type 0 where
  pub front : List ℕ
  pub room_is : length front ≡ room
  pub is : text ≡ (front ++ listed) ++ last

pub behind_tells : (text : List ℕ) (q : ℕ) (listed : List ℕ) → 5 ≤ q → Behind text (q - 5) listed (long_bytes q)
    → (ver : LogVersion) (ps : List Placed) (gate : ℕ) → suc gate - q ≤ q - 5 → IsListedAs q listed ver ps gate → IsLog (log_name ++ 2 ∷ text) (recs ps)
behind_tells text q listed five b ver ps gate room t =
    let wrote = log_text ver (recs ps) in
    let tail : List ℕ = t.closing ∷ t.rest in
    let place : q ≡ 5 + length b.front = omega (arith, b.room_is, five) in
    let parts : text ≡ ((b.front ++ wrote) ++ tail) ++ long_bytes (5 + length b.front) =
    b.is ∙ ap (λ (w : List ℕ). (b.front ++ w) ++ long_bytes q) t.is
    ∙ ap (λ (w : List ℕ). w ++ long_bytes q) (sym (append_assoc b.front wrote tail))
    ∙ ap (λ (n : ℕ). ((b.front ++ wrote) ++ tail) ++ long_bytes n) place in
    let back : IsBack (log_name ++ 2 ∷ text) (recs ps) = record {
      front = b.front;
      version = ver;
      gate = t.closing;
      rest = t.rest;
      bodies = t.bodies;
      closed = t.closed;
      is = ap (λ (w : List ℕ). log_name ++ 2 ∷ w) parts;
      fits = omega (arith, t.gate_at, b.room_is, room, five);
    } in
    inr back

pub fitting_tells : (text : List ℕ) (q : ℕ) (listed : List ℕ) → 5 ≤ q → Behind text (q - 5) listed (long_bytes q)
    → (reading : LogReading) → TellsList q listed reading → TellsFile (log_name ++ 2 ∷ text) (fitting q reading)
fitting_tells text q listed five b (Foreign place) t = tt
fitting_tells text q listed five b (Reads ver ps gate) t = go (nat_le (suc gate - q) (q - 5)) refl
  where
    go : (x : Bool) → nat_le (suc gate - q) (q - 5) ≡ x → TellsFile (log_name ++ 2 ∷ text) (elim x as (λ _. LogReading) [ true ↦ Reads ver ps gate | false ↦ Foreign 4 ])
    go false e = tt
    go true e =
        let room : suc gate - q ≤ q - 5 = grind (arith, nat_tests, e) in
        behind_tells text q listed five b ver ps gate room t

pub drop_bytes : (n : ℕ) (bytes : List ℕ) → AreBytes bytes → AreBytes (drop n bytes)
drop_bytes n bytes fits = AreBytes-back (take n bytes) (drop n bytes) (bytes_same bytes (take n bytes ++ drop n bytes) (sym (take-append-drop n bytes)) fits)

pub take_bytes : (n : ℕ) (bytes : List ℕ) → AreBytes bytes → AreBytes (take n bytes)
take_bytes n bytes fits = AreBytes-front (take n bytes) (drop n bytes) (bytes_same bytes (take n bytes ++ drop n bytes) (sym (take-append-drop n bytes)) fits)

pub place_last : (bytes : List ℕ) (q : ℕ) → AreBytes bytes → 8 ≤ length bytes → last_place bytes ≡ q → 5 ≤ q → drop (length bytes - 8) bytes ≡ long_bytes q
place_last bytes q fits long is five =
    let last = drop (length bytes - 8) bytes in
    let size : length last ≡ 8 = omega (arith, length-drop (length bytes - 8) bytes, long) in
    let there : 5 ≤ last_place bytes = subst (λ (n : ℕ). 5 ≤ n) (sym is) five in
    place_spelled last (drop_bytes (length bytes - 8) bytes fits) size (number_from 8 0 last) refl there ∙ ap long_bytes is

pub back_at : (text : List ℕ) (q : ℕ) → AreBytes (log_name ++ 2 ∷ text) → last_place (log_name ++ 2 ∷ text) ≡ q → 5 ≤ q → q + 9 ≤ 5 + length text
    → TellsFile (log_name ++ 2 ∷ text) (fitting q (listed_from q (drop q (take (length (log_name ++ 2 ∷ text) - 8) (log_name ++ 2 ∷ text)))))
back_at text q fits is five within =
    let bytes : List ℕ = log_name ++ 2 ∷ text in
    let n : ℕ = length text - 8 in
    let long : 8 ≤ length text = omega arith in
    let end : length bytes - 8 ≡ suc (suc (suc (suc (suc n)))) = omega arith in
    let place : q ≡ suc (suc (suc (suc (suc (q - 5))))) = omega arith in
    let all_long : 8 ≤ length bytes = omega arith in
    let last : drop n text ≡ long_bytes q = sym (ap (λ (m : ℕ). drop m bytes) end) ∙ place_last bytes q fits all_long is five in
    let listed : List ℕ = drop (q - 5) (take n text) in
    let there : drop q (take (length bytes - 8) bytes) ≡ listed = ap (λ (m : ℕ). drop q (take m bytes)) end ∙ ap (λ (m : ℕ). drop m (log_name ++ 2 ∷ take n text)) place in
    let cut_size : length (take n text) ≡ n = length-take-le n text (omega arith) in
    let front_fits : q - 5 ≤ length (take n text) = omega (arith, cut_size, within, five) in
    let cut : text ≡ (take (q - 5) (take n text) ++ listed) ++ long_bytes q =
    sym (take-append-drop n text) ∙ ap (λ (w : List ℕ). w ++ drop n text) (sym (take-append-drop (q - 5) (take n text)))
    ∙ ap (λ (w : List ℕ). (take (q - 5) (take n text) ++ listed) ++ w) last in
    let behind : Behind text (q - 5) listed (long_bytes q) = record { front = take (q - 5) (take n text); room_is = length-take-le (q - 5) (take n text) front_fits; is = cut } in
    let text_bytes : AreBytes text = AreBytes-back (log_name ++ 2 ∷ []) text fits in
    let tells : TellsFile bytes (fitting q (listed_from q listed)) =
    fitting_tells text q listed five behind (listed_from q listed) (listed_tells q listed (drop_bytes (q - 5) (take n text) (take_bytes n text text_bytes))) in
    subst (λ (w : List ℕ). TellsFile bytes (fitting q (listed_from q w))) (sym there) tells

pub back_tells : (text : List ℕ) (q : ℕ) → AreBytes (log_name ++ 2 ∷ text) → last_place (log_name ++ 2 ∷ text) ≡ q → TellsFile (log_name ++ 2 ∷ text) (back_reading (log_name ++ 2 ∷ text) q)
back_tells text q fits is = subst (λ (w : LogReading). TellsFile bytes w) (sym (place_is bytes q)) (go (nat_le 5 q && nat_le (q + 9) (length bytes)) refl)
  where
    bytes : List ℕ
    bytes = log_name ++ 2 ∷ text

    go : (t : Bool) → (nat_le 5 q && nat_le (q + 9) (length bytes)) ≡ t → TellsFile bytes (on_place bytes q t)
    go false e = tt
    go true e =
        let p = both (nat_le 5 q) (nat_le (q + 9) (length bytes)) e in
        let five : 5 ≤ q = grind (arith, nat_tests, p.0) in
        let within : q + 9 ≤ length bytes = grind (arith, nat_tests, p.1) in
        back_at text q fits is five (omega (arith, within))

pub selected_tells : (selector : ℕ) (text : List ℕ) → AreBytes (log_name ++ selector ∷ text) → TellsFile (log_name ++ selector ∷ text) (selected selector (log_name ++ selector ∷ text))
selected_tells selector text fits = subst (λ (w : LogReading). TellsFile bytes w) (sym (selector_is selector bytes)) (go (selector == 2) refl)
  where
    bytes : List ℕ
    bytes = log_name ++ selector ∷ text

    go : (t : Bool) → (selector == 2) ≡ t → TellsFile bytes (on_selector bytes t)
    go false e =
        let other : selector ≢ 2 = λ h. (let clash : true ≡ false = sym (ap (λ (n : ℕ). n == 2) h) ∙ e in cc) in
        front_tells selector text other (listed_from 5 text) (listed_tells 5 text (AreBytes-back (log_name ++ selector ∷ []) text fits))
    go true e =
        let two : selector ≡ 2 = grind (arith, nat_tests, e) in
        let there : List ℕ = log_name ++ 2 ∷ text in
        let fits_two : AreBytes there = bytes_same bytes there (ap (λ (n : ℕ). log_name ++ n ∷ text) two) fits in
        subst (λ (n : ℕ). TellsFile (log_name ++ n ∷ text) (back_reading (log_name ++ n ∷ text) (last_place (log_name ++ n ∷ text)))) (sym two)
        (back_tells text (last_place there) fits_two refl)

pub file_tells : (bytes : List ℕ) → AreBytes bytes → TellsFile bytes (read_log bytes)
file_tells bytes fits = go (is_name (take 4 bytes) log_name) refl (drop 4 bytes) refl
  where
    go : (t : Bool) → is_name (take 4 bytes) log_name ≡ t → (l : List ℕ) → drop 4 bytes ≡ l
        → TellsFile bytes (elim t as (λ _. LogReading) [ false ↦ Foreign 0 | true ↦ elim l as (λ _. LogReading) [ [] ↦ Foreign 0 | b ∷ rest ↦ selected b bytes ] ])
    go false e l f = tt
    go true e [] f = tt
    go true e (b ∷ rest) f =
        let is : bytes ≡ log_name ++ b ∷ rest =
        sym (take-append-drop 4 bytes) ∙ ap (λ (w : List ℕ). w ++ drop 4 bytes) (name_same (take 4 bytes) log_name e) ∙ ap (λ (w : List ℕ). log_name ++ w) f in
        subst (λ (w : List ℕ). TellsFile w (selected b w)) (sym is) (selected_tells b rest (bytes_same bytes (log_name ++ b ∷ rest) is fits))

pub read_is_log : (bytes : List ℕ) (version : LogVersion) (placed : List Placed) (gate : ℕ) → AreBytes bytes → read_log bytes ≡ Reads version placed gate → IsLog bytes (recs placed)
read_is_log bytes version placed gate fits e = subst (λ (w : LogReading). TellsFile bytes w) e (file_tells bytes fits)
