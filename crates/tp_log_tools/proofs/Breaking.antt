-- The place at which bytes are no log is the one that the reading tells.
use Rattle.std.proofs.Common.{◌≡◌, ◌≢◌, inl, inr, ℕ, suc, ◌+◌, ◌-◌, ◌<◌, ◌≤◌, ◌^◌, Bool, true, false, List, [], ◌∷◌, ◌++◌, length, take, drop, refl, sym, ap, ◌∙◌, arith, length-append}
use Rattle.std.specs.Prelude.{◌&&◌, nat_le}
use Rattle.std.specs.Int.{to_be_bytes, w64}
use Rattle.std.proofs.lemmas.List.{take_at, drop_at, take-append-drop}
use Rattle.std.proofs.lemmas.Bool.Decides.{nat_tests}
use Rattle.tp_names.specs.Bytes.{long_bytes}
use Rattle.tp_names.specs.Places.{AreBytes}
use Rattle.tp_names.specs.Same.{is_name}
use Rattle.tp_names.proofs.Sames.{both, name_same}
use Rattle.tp_names.proofs.Sequences.{AreBytes-front, AreBytes-back}
use Rattle.tp_logrec.specs.declared.record.LogVersion.{LogVersion}
use Rattle.tp_logrec.specs.LogText.{log_name, LogReading, Foreign, Reads, Placed, listed_from, fitting, last_place, back_reading, selected, read_log}
use Rattle.tp_logrec.proofs.Logs.{selector_is, on_selector, not_two, place_back, place_is, on_place, good_place}
use Rattle.tp_logrec.proofs.ReadLogs.{bytes_same, place_last}
use Rattle.tp_journal.specs.Log.{blocks, head}
use Rattle.tp_journal.specs.Foreign.{IsForeign, HasNoHead, BreaksInFront, HasNoPlace, BreaksBehind, IsTooLong, BreaksAt}
use Rattle.tp_journal.specs.Records.{record_body}
use Rattle.tp_log_tools.specs.Readings.{IsFile}
use Rattle.tp_log_tools.proofs.ReadOn.{listed_breaks, listed_closes, ListsAll}

-- ---- nothing that has a head

no_head : (file : List ℕ) → HasNoHead file → read_log file ≡ Foreign 0
no_head file none = go (is_name (take 4 file) log_name) refl (drop 4 file) refl
  where
    go : (t : Bool) → is_name (take 4 file) log_name ≡ t → (l : List ℕ) → drop 4 file ≡ l
        → (elim t as (λ _. LogReading) [ false ↦ Foreign 0 | true ↦ elim l as (λ _. LogReading) [ [] ↦ Foreign 0 | b ∷ rest ↦ selected b file ] ]) ≡ Foreign 0
    go false e l f = refl
    go true e [] f = refl
    go true e (b ∷ rest) f =
        absurd (none b rest (sym (take-append-drop 4 file) ∙ ap (λ (w : List ℕ). w ++ drop 4 file) (name_same (take 4 file) log_name e) ∙ ap (λ (w : List ℕ). log_name ++ w) f))

-- ---- a text that breaks off

text_breaks : (at : ℕ) (text : List ℕ) (n : ℕ) → AreBytes text → BreaksAt record_body text n → listed_from at text ≡ Foreign (at + n)
text_breaks at text n fits b =
    let parts : AreBytes (blocks b.bodies ++ b.rest) = bytes_same text (blocks b.bodies ++ b.rest) b.whole fits in
    ap (listed_from at) b.whole ∙ listed_breaks at b.bodies b.rest parts b.each b.passed b.broken ∙ ap (λ m. Foreign (at + m)) (sym b.place)

-- at the front
pub front_reads : (selector : ℕ) (text : List ℕ) → selector ≢ 2 → read_log (head selector ++ text) ≡ listed_from 5 text
front_reads selector text other = selector_is selector (head selector ++ text) ∙ ap (on_selector (head selector ++ text)) (not_two selector other)

in_front : (file : List ℕ) (at : ℕ) → AreBytes file → BreaksInFront record_body file at → read_log file ≡ Foreign at
in_front file at fits b =
    let n = b.breaks.0 in
    let text_bytes : AreBytes b.text = AreBytes-back (head b.selector) b.text (bytes_same file (head b.selector ++ b.text) b.whole fits) in
    ap read_log b.whole ∙ front_reads b.selector b.text b.selects ∙ text_breaks 5 b.text n text_bytes b.breaks.1 ∙ ap Foreign (sym b.breaks.2)

-- ---- what stands further back

-- a text after a front, and the place at which it stands
abbrev pub behind : List ℕ → List ℕ → List ℕ
behind front text = head 2 ++ front ++ text ++ to_be_bytes w64 (5 + length front)

-- the place that the last eight bytes tell
pub last_behind : (front text : List ℕ) → length (behind front text) < 2 ^ 64 → last_place (behind front text) ≡ 5 + length front
last_behind front text small =
    let before : List ℕ = head 2 ++ front ++ text in
    let q : ℕ = 5 + length front in
    let size : length (before ++ long_bytes q) ≡ q + length text + 8 = omega (arith, length-append before (long_bytes q), length-append (head 2 ++ front) text) in
    place_back before q (omega (arith, size, small))

pub behind_reads : (front text : List ℕ) → length (behind front text) < 2 ^ 64 → 0 < length text → read_log (behind front text) ≡ fitting (5 + length front) (listed_from (5 + length front) text)
behind_reads front text small some =
    let before : List ℕ = head 2 ++ front ++ text in
    let q : ℕ = 5 + length front in
    let all : List ℕ = before ++ long_bytes q in
    let size : length all ≡ q + length text + 8 = omega (arith, length-append before (long_bytes q), length-append (head 2 ++ front) text) in
    let cut : take (length all - 8) all ≡ before =
    let n : length all - 8 ≡ length before = omega (arith, length-append before (long_bytes q)) in
    ap (λ k. take k all) n ∙ take_at before (long_bytes q) (length before) refl in
    let there : drop q (take (length all - 8) all) ≡ text = ap (drop q) cut ∙ drop_at (head 2 ++ front) text q (omega arith) in
    selector_is 2 all ∙ ap (back_reading all) (last_behind front text small) ∙ place_is all q ∙ ap (on_place all q) (good_place q (length all) (omega arith) (omega (arith, size, some)))
    ∙ ap (λ w. fitting q (listed_from q w)) there

behind_bytes : (front text : List ℕ) → AreBytes (behind front text) → AreBytes text
behind_bytes front text fits = AreBytes-back (head 2 ++ front) text (AreBytes-front (head 2 ++ front ++ text) (to_be_bytes w64 (5 + length front)) fits)

no_place : (file : List ℕ) → IsFile file → HasNoPlace file → read_log file ≡ Foreign 4
no_place file is none =
    let bytes : List ℕ = head 2 ++ none.text in
    ap read_log none.whole ∙ selector_is 2 bytes ∙ place_is bytes (last_place bytes) ∙ go (nat_le 5 (last_place bytes) && nat_le (last_place bytes + 9) (length bytes)) refl
  where
    go : (t : Bool) → (nat_le 5 (last_place (head 2 ++ none.text)) && nat_le (last_place (head 2 ++ none.text) + 9) (length (head 2 ++ none.text))) ≡ t
        → on_place (head 2 ++ none.text) (last_place (head 2 ++ none.text)) t ≡ Foreign 4
    go false e = refl
    go true e =
        let bytes : List ℕ = head 2 ++ none.text in
        let q = last_place bytes in
        let p = both (nat_le 5 q) (nat_le (q + 9) (length bytes)) e in
        let five : 5 ≤ q = grind (arith, nat_tests, p.0) in
        let within : q + 9 ≤ length bytes = grind (arith, nat_tests, p.1) in
        let size : length file ≡ length bytes = ap length none.whole in
        let small : q < 2 ^ 64 = (let s = is.small in omega (arith, s, size, within)) in
        let last : drop (length bytes - 8) bytes ≡ long_bytes q = place_last bytes q (bytes_same file bytes none.whole is.bytes) (omega (arith, within)) refl five in
        let parts : file ≡ take (length bytes - 8) bytes ++ to_be_bytes w64 q =
        none.whole ∙ sym (take-append-drop (length bytes - 8) bytes) ∙ ap (λ (w : List ℕ). take (length bytes - 8) bytes ++ w) last in
        absurd (none.none (take (length bytes - 8) bytes) q small parts five (omega (arith, size, within)))

breaks_behind : (file : List ℕ) (at : ℕ) → IsFile file → BreaksBehind record_body file at → read_log file ≡ Foreign at
breaks_behind file at is b =
    let q = 5 + length b.front in
    let n = b.breaks.0 in
    let small : length (behind b.front b.text) < 2 ^ 64 = (let s = is.small in omega (arith, s, ap length b.whole)) in
    let fits : AreBytes b.text = behind_bytes b.front b.text (bytes_same file (behind b.front b.text) b.whole is.bytes) in
    ap read_log b.whole ∙ behind_reads b.front b.text small b.some ∙ ap (fitting q) (text_breaks q b.text n fits b.breaks.1) ∙ ap Foreign (sym b.breaks.2)

too_long : (file : List ℕ) → IsFile file → IsTooLong record_body file → read_log file ≡ Foreign 4
too_long file is b =
    let q = 5 + length b.front in
    let bodies = b.closes.0 in
    let n = b.closes.1 in
    let c = b.closes.2 in
    let small : length (behind b.front b.text) < 2 ^ 64 = (let s = is.small in omega (arith, s, ap length b.whole)) in
    let fits : AreBytes b.text = behind_bytes b.front b.text (bytes_same file (behind b.front b.text) b.whole is.bytes) in
    let long : 0 < length b.text = omega (arith, ap length c.whole, length-append (blocks bodies) (c.gate ∷ c.rest)) in
    let all : ListsAll q (blocks bodies ++ c.gate ∷ c.rest) (q + length (blocks bodies)) =
    listed_closes q bodies c.gate c.rest (bytes_same b.text (blocks bodies ++ c.gate ∷ c.rest) c.whole fits) c.each c.passed c.closed in
    let over : length b.front < length (blocks bodies) + 1 = omega (arith, b.closes.3, c.place) in
    ap read_log b.whole ∙ behind_reads b.front b.text small long ∙ ap (λ w. fitting q (listed_from q w)) c.whole ∙ ap (fitting q) all.is
    ∙ too_far q all.version all.placed (q + length (blocks bodies)) (omega (arith, over))
  where
    too_far : (q : ℕ) (ver : LogVersion) (ps : List Placed) (gate : ℕ) → q - 5 < suc gate - q → fitting q (Reads ver ps gate) ≡ Foreign 4
    too_far q ver ps gate far =
        let t : nat_le (suc gate - q) (q - 5) ≡ false = grind (arith, nat_tests) in
        ap (λ (b : Bool). elim b as (λ _. LogReading) [ true ↦ Reads ver ps gate | false ↦ Foreign 4 ]) t

pub foreign_is_read : (file : List ℕ) (at : ℕ) → IsFile file → IsForeign record_body file at → read_log file ≡ Foreign at
foreign_is_read file at is (inl none) = no_head file none.1 ∙ ap Foreign (sym none.0)
foreign_is_read file at is (inr (inl b)) = in_front file at is.bytes b
foreign_is_read file at is (inr (inr (inl none))) = no_place file is none.1 ∙ ap Foreign (sym none.0)
foreign_is_read file at is (inr (inr (inr (inl b)))) = breaks_behind file at is b
foreign_is_read file at is (inr (inr (inr (inr long)))) = too_long file is long.1 ∙ ap Foreign (sym long.0)
