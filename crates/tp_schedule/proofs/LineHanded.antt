-- A line that is handed out: what was answered, and what is left.
use Rattle.std.proofs.Common.{◌≡◌, ℕ, ◌+◌, ◌≤◌, true, false, Option, Some, None, Result, Ok, Err, List, ◌∷◌, ◌++◌, length, take, drop, refl, ap, sym, ◌∙◌, arith, length-append}
use Rattle.std.specs.Prelude.{option_map, nat_lt, IfSome}
use Rattle.std.proofs.lemmas.Bool.Decides.{nat_tests}
use Rattle.tp_model.specs.Transcript.{RawLine, raw_lines, content, octets_taken}
use Rattle.tp_schedule.specs.declared.lines_fault.LinesFault.{LinesFault}
use Rattle.tp_schedule.specs.declared.lines.Cut.{Cut}
use Rattle.tp_schedule.specs.AtHand.{together}
use Rattle.tp_schedule.specs.LinesLeft.{Place, judged, first_of, answer, HandsOut, IsFor, IsAhead}
use Rattle.tp_schedule.specs.LineCut.{Takes}
use Rattle.tp_schedule.proofs.Buffers.{at_most}

is_line : (before : ℕ) (l : RawLine) → before + octets_taken l ≤ 1048576 → length (content l) ≤ 8192 → judged before l ≡ Ok (Some (content l))
is_line before l few short = go (before + octets_taken l) (length (content l)) few short
  where
    go : (m n : ℕ) → m ≤ 1048576 → n ≤ 8192
        → elim (nat_lt 1048576 m) as (λ _. Result (Option (List ℕ)) LinesFault) [
          | true ↦ Err LinesFault.Limit
          | false ↦ elim (nat_lt 8192 n) as (λ _. Result (Option (List ℕ)) LinesFault) [ true ↦ Err LinesFault.Long | false ↦ Ok (Some (content l)) ]
        ]
        ≡ Ok (Some (content l))
    go m n a b = grind (arith, nat_tests)

-- the bytes are cut at the line's end
cut_there : (before : ℕ) (bytes : Option (List ℕ)) (w : List ℕ) (rest : Option (List ℕ)) (cut : Cut) (t : Takes before bytes w rest cut)
    → option_map raw_lines bytes ≡ option_map (λ ls. t.line ∷ ls) (option_map raw_lines (together (drop cut.taken w) rest))
cut_there before bytes w rest cut t = ap (option_map raw_lines) (sym t.same) ∙ go rest t.first
  where
    go : (o : Option (List ℕ)) → IfSome o (λ left. raw_lines (w ++ left) ≡ t.line ∷ raw_lines (drop cut.taken w ++ left))
        → option_map raw_lines (together w o) ≡ option_map (λ ls. t.line ∷ ls) (option_map raw_lines (together (drop cut.taken w) o))
    go None is = refl
    go (Some left) is = ap Some is

pub handed : (old new : Place) (left rest : Option (List ℕ)) (w : List ℕ) (cut : Cut) → Takes old.before (together old.held left) w rest cut
    → new.held ≡ drop cut.taken w → new.before ≡ old.before + cut.taken → new.fault ≡ None → HandsOut old left (take cut.len w) new rest
handed old new left rest w cut t held before fault =
    record {
      line = t.line;
      is = t.text;
      before = before ∙ ap (λ (k : ℕ). old.before + k) (sym t.taken);
      fault = fault;
      lines = cut_there old.before (together old.held left) w rest cut t ∙ ap (λ (u : List ℕ). option_map (λ ls. t.line ∷ ls) (option_map raw_lines (together u rest))) (sym held);
    }

pub handed_short : (before : ℕ) (bytes : Option (List ℕ)) (w : List ℕ) (rest : Option (List ℕ)) (cut : Cut) → Takes before bytes w rest cut → length (take cut.len w) ≤ 8192
handed_short before bytes w rest cut t = omega (arith, at_most cut.len w, t.short)

pub handed_answer : (old : Place) (bytes : Option (List ℕ)) (w : List ℕ) (rest : Option (List ℕ)) (cut : Cut) → old.fault ≡ None → Takes old.before bytes w rest cut
    → IsFor (answer old) bytes (Ok (Some (take cut.len w)))
handed_answer old bytes w rest cut none t all is =
    let lines : option_map raw_lines (Some all) ≡ option_map (λ ls. t.line ∷ ls) (option_map raw_lines (together (drop cut.taken w) rest)) =
    ap (option_map raw_lines) (sym is) ∙ cut_there old.before bytes w rest cut t in
    let fits : judged old.before t.line ≡ Ok (Some (take cut.len w)) =
    is_line old.before t.line (omega (arith, t.taken, t.under)) (omega (arith, ap length t.text, handed_short old.before bytes w rest cut t)) ∙ ap (λ (u : List ℕ). Ok (Some u)) t.text in
    sym (ap (λ (o : Option LinesFault). elim o as (λ _. Result (Option (List ℕ)) LinesFault) [ Some f ↦ Err f | None ↦ first_of old.before (raw_lines all) ]) none
    ∙ go (raw_lines all) (option_map raw_lines (together (drop cut.taken w) rest)) lines ∙ fits)
  where
    go : (ls : List RawLine) (o : Option (List RawLine)) → Some ls ≡ option_map (λ more. t.line ∷ more) o → first_of old.before ls ≡ judged old.before t.line
    go ls None e = absurd cc
    go ls (Some more) e = let f : ls ≡ t.line ∷ more = cc in ap (first_of old.before) f

pub handed_ahead : (before : ℕ) (bytes : Option (List ℕ)) (w : List ℕ) (rest : Option (List ℕ)) (cut : Cut) → Takes before bytes w rest cut → (text : List ℕ)
    → IsAhead bytes rest (Ok (Some text))
handed_ahead before bytes w rest cut t text all left is kept =
    let e : Some (w ++ left) ≡ Some all = ap (together w) (sym kept) ∙ t.same ∙ is in
    let f : w ++ left ≡ all = cc in
    omega (arith, ap length f, length-append w left, t.few)
