-- The lists of lines of a schedule, taken a node at a time.
use Rattle.std.proofs.Common.{◌≡◌, ◌∙◌, ℕ, suc, ◌+◌, ◌-◌, ◌*◌, ◌%◌, ◌<◌, ◌≤◌, List, [], ◌∷◌, ◌++◌, length, refl, ap, sym, arith, append_assoc, append-nil}
use Rattle.tp_model.specs.declared.line.LineRequest.{LineRequest}
use Rattle.tp_model.specs.declared.line.Line.{Line}
use Rattle.tp_model.specs.LineText.{line_text}
use Rattle.tp_model.specs.Generator.{texts, from_on, node_lines, begin_lines, accept_lines, transaction_lines, done_lines, node_line, Made, votes, vote_lines, next_state, drawn, round, round_lines, made}
use Rattle.tp_generate.specs.declared.part.Part.{Part}
use Rattle.tp_generate.specs.declared.schedule.Schedule.{Schedule}
use Rattle.tp_generate.specs.Parts.{part_line, part_lines, node_lines_of}
use Rattle.tp_generate.specs.Making.{SoFar, so_far, nothing, with_line, with_lines, opening_lines, IsScheduleOf}

-- ---- lines one after the other

pub with_lines-append : (s : SoFar) (xs ys : List Line) → with_lines s (xs ++ ys) ≡ with_lines (with_lines s xs) ys
with_lines-append s [] ys = refl
with_lines-append s (l ∷ ls) ys = with_lines-append (with_line s l) ls ys

pub text_of : (ls : List Line) (s : SoFar) → (with_lines s ls).text ≡ s.text ++ texts ls
text_of [] s = sym (append-nil s.text)
text_of (l ∷ ls) s =
    text_of ls (with_line s l)
    ∙ append_assoc s.text (line_text l ++ 10 ∷ []) (texts ls)
    ∙ ap (λ t. s.text ++ t) (append_assoc (line_text l) (10 ∷ []) (texts ls))

pub lines_of : (ls : List Line) (s : SoFar) → (with_lines s ls).lines ≡ s.lines + length ls
lines_of [] s = omega arith
lines_of (l ∷ ls) s = let rest : (with_lines (with_line s l) ls).lines ≡ (s.lines + 1) + length ls = lines_of ls (with_line s l) in omega arith

-- ---- the parts

declared : (ns : List ℕ) → part_lines Part.Declared ns ≡ node_lines ns
declared [] = refl
declared (i ∷ ns) = ap (λ ls. node_line i ∷ ls) (declared ns)

opened : (ns : List ℕ) → part_lines Part.Opened ns ≡ begin_lines ns
opened [] = refl
opened (i ∷ ns) = ap (λ ls. part_line Part.Opened i ∷ ls) (opened ns)

accepted : (ns : List ℕ) → part_lines Part.Accepted ns ≡ accept_lines ns
accepted [] = refl
accepted (i ∷ ns) = ap (λ ls. part_line Part.Accepted i ∷ ls) (accepted ns)

begun : (ns : List ℕ) → part_lines Part.Begun ns ≡ transaction_lines ns
begun [] = refl
begun (i ∷ ns) = ap (λ ls. part_line Part.Begun i ∷ Line.Drain ∷ ls) (begun ns)

done : (ns : List ℕ) → part_lines Part.Done ns ≡ done_lines ns
done [] = refl
done (i ∷ ns) = ap (λ ls. part_line Part.Done i ∷ Line.Drain ∷ ls) (done ns)

-- ---- a node at a time

from_on-next : (n m : ℕ) → n < m → from_on n (m - n) ≡ n ∷ from_on (n + 1) (m - (n + 1))
from_on-next n m less =
    let one : m - n ≡ suc (m - (n + 1)) = omega arith in
    let next : suc n ≡ n + 1 = omega arith in
    ap (from_on n) one ∙ ap (λ k. n ∷ from_on k (m - (n + 1))) next

from_on-end : (n m : ℕ) → m ≤ n → from_on n (m - n) ≡ []
from_on-end n m most = let none : m - n ≡ 0 = omega arith in ap (from_on n) none

pub part_preserved : (p : Part) (n m : ℕ) (s next start : SoFar) → n < m → next ≡ with_lines s (node_lines_of p n)
    → with_lines s (part_lines p (from_on n (m - n))) ≡ start → with_lines next (part_lines p (from_on (n + 1) (m - (n + 1)))) ≡ start
part_preserved p n m s next start less more was =
    let rest : List Line = part_lines p (from_on (n + 1) (m - (n + 1))) in
    ap (λ (t : SoFar). with_lines t rest) more
    ∙ sym (with_lines-append s (node_lines_of p n) rest)
    ∙ ap (λ (ks : List ℕ). with_lines s (part_lines p ks)) (sym (from_on-next n m less))
    ∙ was

pub part_ended : (p : Part) (n m : ℕ) (s start : SoFar) → m ≤ n → with_lines s (part_lines p (from_on n (m - n))) ≡ start → s ≡ start
part_ended p n m s start most was = ap (λ (ks : List ℕ). with_lines s (part_lines p ks)) (sym (from_on-end n m most)) ∙ was

-- ---- the votes, likewise

abbrev pub votes_from : ℕ → ℕ → ℕ → ℕ → Made
votes_from nodes s n m = votes nodes s (from_on n (m - n))

abbrev vote_of : ℕ → ℕ → List Line
vote_of n draw = vote_lines n draw ++ Line.Drain ∷ []

pub votes_preserved : (nodes s next_s draw n m : ℕ) (old next start : SoFar) → n < m → next_s ≡ next_state s → draw ≡ drawn next_s % (8 * nodes)
    → next ≡ with_lines old (vote_of n draw) → with_lines old (votes_from nodes s n m).lines ≡ start → with_lines next (votes_from nodes next_s (n + 1) m).lines ≡ start
votes_preserved nodes s next_s draw n m old next start less state drew more was =
    let rest : List Line = (votes_from nodes (next_state s) (n + 1) m).lines in
    let vote : List Line = vote_of n (drawn (next_state s) % (8 * nodes)) in
    let draw_is : draw ≡ drawn (next_state s) % (8 * nodes) = drew ∙ ap (λ (t : ℕ). drawn t % (8 * nodes)) state in
    ap (λ (t : ℕ). with_lines next (votes_from nodes t (n + 1) m).lines) state
    ∙ ap (λ (t : SoFar). with_lines t rest) (more ∙ ap (λ (d : ℕ). with_lines old (vote_of n d)) draw_is)
    ∙ sym (with_lines-append old vote rest)
    ∙ ap (λ (ks : List ℕ). with_lines old (votes nodes s ks).lines) (sym (from_on-next n m less))
    ∙ was

pub votes_state : (nodes s next_s n m end : ℕ) → n < m → next_s ≡ next_state s → (votes_from nodes s n m).state ≡ end → (votes_from nodes next_s (n + 1) m).state ≡ end
votes_state nodes s next_s n m end less state was =
    ap (λ (t : ℕ). (votes_from nodes t (n + 1) m).state) state ∙ ap (λ (ks : List ℕ). (votes nodes s ks).state) (sym (from_on-next n m less)) ∙ was

pub votes_ended : (nodes s n m : ℕ) (old start : SoFar) → m ≤ n → with_lines old (votes_from nodes s n m).lines ≡ start → old ≡ start
votes_ended nodes s n m old start most was = ap (λ (ks : List ℕ). with_lines old (votes nodes s ks).lines) (sym (from_on-end n m most)) ∙ was

pub votes_end : (nodes s n m end : ℕ) → m ≤ n → (votes_from nodes s n m).state ≡ end → s ≡ end
votes_end nodes s n m end most was = ap (λ (ks : List ℕ). (votes nodes s ks).state) (sym (from_on-end n m most)) ∙ was

-- ---- a round

-- what is written in a round: its transactions, the commitment of the root, the votes, and that all are done
pub round_written : (nodes s : ℕ) (old begun_so voted new : SoFar)
    → begun_so ≡ with_lines old (part_lines Part.Begun (from_on 2 (suc nodes - 2)))
    → voted ≡ with_lines (with_line (with_line begun_so (Line.Do 1 LineRequest.Commit)) Line.Drain) (votes nodes s (from_on 2 (nodes - 1))).lines
    → new ≡ with_lines voted (part_lines Part.Done (from_on 1 (suc nodes - 1)))
    → new ≡ with_lines old (round nodes s).lines
round_written nodes s old begun_so voted new first second third =
    let v : List Line = (votes nodes s (from_on 2 (nodes - 1))).lines in
    let ends : List Line = done_lines (from_on 1 nodes) in
    let starts : List Line = transaction_lines (from_on 2 (nodes - 1)) in
    let two : suc nodes - 2 ≡ nodes - 1 = omega arith in
    let one : suc nodes - 1 ≡ nodes = omega arith in
    let begun_is : begun_so ≡ with_lines old starts =
    first ∙ ap (λ (k : ℕ). with_lines old (part_lines Part.Begun (from_on 2 k))) two ∙ ap (λ (ls : List Line). with_lines old ls) (begun (from_on 2 (nodes - 1))) in
    let middle : List Line = Line.Do 1 LineRequest.Commit ∷ Line.Drain ∷ v in
    third
    ∙ ap (λ (k : ℕ). with_lines voted (part_lines Part.Done (from_on 1 k))) one
    ∙ ap (λ (ls : List Line). with_lines voted ls) (done (from_on 1 nodes))
    ∙ ap (λ (t : SoFar). with_lines t ends) second
    ∙ ap (λ (t : SoFar). with_lines (with_lines t middle) ends) begun_is
    ∙ ap (λ (t : SoFar). with_lines t ends) (sym (with_lines-append old starts middle))
    ∙ sym (with_lines-append old (starts ++ middle) ends)

pub round_preserved : (k rounds nodes s next_s : ℕ) (old next start : SoFar) → k < rounds → next ≡ with_lines old (round nodes s).lines → next_s ≡ (round nodes s).state
    → with_lines old (round_lines (rounds - k) nodes s) ≡ start → with_lines next (round_lines (rounds - (k + 1)) nodes next_s) ≡ start
round_preserved k rounds nodes s next_s old next start less more state was =
    let one : rounds - k ≡ suc (rounds - (k + 1)) = omega arith in
    let rest : List Line = round_lines (rounds - (k + 1)) nodes (round nodes s).state in
    ap (λ (t : ℕ). with_lines next (round_lines (rounds - (k + 1)) nodes t)) state
    ∙ ap (λ (t : SoFar). with_lines t rest) more
    ∙ sym (with_lines-append old (round nodes s).lines rest)
    ∙ ap (λ (j : ℕ). with_lines old (round_lines j nodes s)) (sym one)
    ∙ was

pub round_ended : (k rounds nodes s : ℕ) (old start : SoFar) → rounds ≤ k → with_lines old (round_lines (rounds - k) nodes s) ≡ start → old ≡ start
round_ended k rounds nodes s old start most was =
    let none : rounds - k ≡ 0 = omega arith in
    ap (λ (j : ℕ). with_lines old (round_lines j nodes s)) (sym none) ∙ was

-- ---- the whole

pub opening_written : (nodes : ℕ) (old declared_so opened_so accepted_so : SoFar)
    → declared_so ≡ with_lines old (part_lines Part.Declared (from_on 1 (suc nodes - 1)))
    → opened_so ≡ with_lines declared_so (part_lines Part.Opened (from_on 2 (suc nodes - 2)))
    → accepted_so ≡ with_lines (with_line opened_so Line.Drain) (part_lines Part.Accepted (from_on 2 (suc nodes - 2)))
    → with_line accepted_so Line.Drain ≡ with_lines old (opening_lines nodes)
opening_written nodes old declared_so opened_so accepted_so first second third =
    let ns : List ℕ = from_on 2 (nodes - 1) in
    let two : suc nodes - 2 ≡ nodes - 1 = omega arith in
    let one : suc nodes - 1 ≡ nodes = omega arith in
    let all : List Line = node_lines (from_on 1 nodes) in
    let is_declared : declared_so ≡ with_lines old all =
    first ∙ ap (λ (k : ℕ). with_lines old (part_lines Part.Declared (from_on 1 k))) one ∙ ap (λ (ls : List Line). with_lines old ls) (declared (from_on 1 nodes)) in
    let is_opened : opened_so ≡ with_lines declared_so (begin_lines ns) =
    second ∙ ap (λ (k : ℕ). with_lines declared_so (part_lines Part.Opened (from_on 2 k))) two ∙ ap (λ (ls : List Line). with_lines declared_so ls) (opened ns) in
    let is_accepted : accepted_so ≡ with_lines (with_line opened_so Line.Drain) (accept_lines ns) =
    third ∙ ap (λ (k : ℕ). with_lines (with_line opened_so Line.Drain) (part_lines Part.Accepted (from_on 2 k))) two
    ∙ ap (λ (ls : List Line). with_lines (with_line opened_so Line.Drain) ls) (accepted ns) in
    ap (λ (t : SoFar). with_line t Line.Drain) is_accepted
    ∙ ap (λ (t : SoFar). with_lines (with_lines t (Line.Drain ∷ accept_lines ns)) (Line.Drain ∷ [])) (is_opened ∙ ap (λ (t : SoFar). with_lines t (begin_lines ns)) is_declared ∙ sym (with_lines-append old all (begin_lines ns)))
    ∙ ap (λ (t : SoFar). with_lines t (Line.Drain ∷ [])) (sym (with_lines-append old (all ++ begin_lines ns) (Line.Drain ∷ accept_lines ns)))
    ∙ sym (with_lines-append old (all ++ begin_lines ns ++ Line.Drain ∷ accept_lines ns) (Line.Drain ∷ []))

opening_and_rounds : (number nodes rounds : ℕ) → opening_lines nodes ++ round_lines rounds nodes number ≡ made number nodes rounds
opening_and_rounds number nodes rounds =
    append_assoc (node_lines (from_on 1 nodes) ++ begin_lines (from_on 2 (nodes - 1)) ++ Line.Drain ∷ accept_lines (from_on 2 (nodes - 1))) (Line.Drain ∷ []) (round_lines rounds nodes number)

pub schedule_written : (number nodes rounds : ℕ) (opened_so : SoFar) (s : Schedule) → opened_so ≡ with_lines nothing (opening_lines nodes)
    → so_far s ≡ with_lines opened_so (round_lines rounds nodes number) → IsScheduleOf number nodes rounds s
schedule_written number nodes rounds opened_so s first second =
    let ls : List Line = made number nodes rounds in
    let whole : so_far s ≡ with_lines nothing ls =
    second
    ∙ ap (λ (t : SoFar). with_lines t (round_lines rounds nodes number)) first
    ∙ sym (with_lines-append nothing (opening_lines nodes) (round_lines rounds nodes number))
    ∙ ap (λ (t : List Line). with_lines nothing t) (opening_and_rounds number nodes rounds) in
    record {
      text = ap (λ (t : SoFar). t.text) whole ∙ text_of ls nothing;
      lines = let all : (with_lines nothing ls).lines ≡ 0 + length ls = lines_of ls nothing in ap (λ (t : SoFar). t.lines) whole ∙ omega (arith, all);
    }
