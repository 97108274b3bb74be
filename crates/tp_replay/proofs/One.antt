-- What is put next follows from the answers before it; so members whose answers follow from what is put to them give one list of answers.
use Rattle.std.proofs.Common.{◌≡◌, ◌≤◌, ◌+◌, ℕ, zero, suc, nat_lt, Bool, true, false, ◌==◌, Option, Some, None, Result, Ok, Err, List, [], ◌∷◌, ◌++◌, length, length-append, append_assoc, refl, sym, ap, subst, ◌∙◌, arith}
use Rattle.std.proofs.lemmas.Bool.Decides.{nat_tests}
use Rattle.std.proofs.lemmas.List.{append-nil}
use Rattle.tp_records.specs.declared.request.Request.{Request}
use Rattle.tp_records.specs.Answers.{Answer}
use Rattle.tp_model.specs.declared.line.Line.{Line}
use Rattle.tp_model.specs.declared.out_line.OutLine.{OutLine}
use Rattle.tp_model.specs.declared.verdict.What.{What}
use Rattle.tp_model.specs.LineReading.{Reading, Blank, Faulty, Says, read_line}
use Rattle.tp_model.specs.LineText.{line_text}
use Rattle.tp_model.specs.World.{World, empty_world}
use Rattle.tp_model.specs.Happenings.{WorldTurn}
use Rattle.tp_model.specs.Lines.{Fault, line}
use Rattle.tp_model.specs.Transcript.{answered, answer_turn, answers_of, AreAllowed, At_limit, Bad_input, behind, breaks, content, echo, ends, line_played, line_request, octets_taken, Play, Put, puts_of, RawLine, raw_lines, stopped, Transcript, transcript_from, transcript_with, with_lines, with_put}
use Rattle.tp_replay.specs.Certain.{AreCertain, IsOne}

abbrev Requests : Type 0
Requests = List (Option Request)

-- ---- one line

-- Two plays of a line whose answers begin alike, with these: they are one so far, and some of these answers are left; or as many were put,
-- and one more.
data Alike (c u v : Requests) (p q : Play) : Type 0 where
  Same : (left : Requests) → p.left ≡ left ++ u → q.left ≡ left ++ v → p.world ≡ q.world → p.fault ≡ q.fault → p.puts ≡ q.puts → length p.puts + length left ≡ length c → Alike c u v p q
  Past : (ps xs ys : List Put) → length ps ≡ suc (length c) → p.puts ≡ ps ++ xs → q.puts ≡ ps ++ ys → Alike c u v p q

one_more : (q : Put) (a : Option Request) (c u v : Requests) (p r : Play) → Alike c u v p r → Alike (a ∷ c) u v (with_put q p) (with_put q r)
one_more q a c u v p r (Same left l m w f e n) = Same left l m w f (ap (λ (ps : List Put). q ∷ ps) e) (omega (arith, n))
one_more q a c u v p r (Past ps xs ys n e d) = Past (q ∷ ps) xs ys (ap suc n) (ap (λ (zs : List Put). q ∷ zs) e) (ap (λ (zs : List Put). q ∷ zs) d)

with_shown : (ls : List OutLine) (c u v : Requests) (p r : Play) → Alike c u v p r → Alike c u v (with_lines ls p) (with_lines ls r)
with_shown ls c u v p r (Same left l m w f e n) = Same left l m w f e n
with_shown ls c u v p r (Past ps xs ys n e d) = Past ps xs ys n e d

none_waits : (u : Requests) (before : ℕ) (w : World) → answered u before w [] ≡ record { world = w; lines = []; puts = []; left = u; fault = None }
none_waits [] before w = refl
none_waits (a ∷ u) before w = refl

abbrev turned : Option Request → Requests → ℕ → World → Put → List Put → Result WorldTurn Fault → Play
turned a rest before w q qs (Err f) = with_put q (stopped w rest f)
turned None rest before w q qs (Ok t) = with_put q (answered rest before w qs)
turned (Some r) rest before w q qs (Ok t) =
    with_put q (with_lines (OutLine.Echo (line_text (Line.Do q.node (line_request r))) ∷ t.lines) (answered rest (suc before) t.world (qs ++ puts_of t.world t.told)))

abbrev by_turn : Request → Requests → ℕ → World → Put → List Put → Result WorldTurn Fault → Play
by_turn r rest before w q qs x = elim x as (λ _. Play) [
  | Err f ↦ with_put q (stopped w rest f)
  | Ok t ↦ with_put q (with_lines (OutLine.Echo (line_text (Line.Do q.node (line_request r))) ∷ t.lines) (answered rest (suc before) t.world (qs ++ puts_of t.world t.told)))
]

turns : (r : Request) (rest : Requests) (before : ℕ) (w : World) (q : Put) (qs : List Put) (t : Result WorldTurn Fault) → answer_turn before w q.node (line_request r) ≡ t → answered (Some r ∷ rest) before w (q ∷ qs) ≡ turned (Some r) rest before w q qs t
turns r rest before w q qs t is = ap (by_turn r rest before w q qs) is ∙ same t
  where
    same : (x : Result WorldTurn Fault) → by_turn r rest before w q qs x ≡ turned (Some r) rest before w q qs x
    same (Err f) = refl
    same (Ok s) = refl

put_first : (u : Requests) (before : ℕ) (w : World) (q : Put) (qs : List Put) → (xs : List Put) × ((answered u before w (q ∷ qs)).puts ≡ q ∷ xs)
put_first [] before w q qs = (qs, refl)
put_first (None ∷ u) before w q qs = ((answered u before w qs).puts, refl)
put_first (Some r ∷ u) before w q qs = go (answer_turn before w q.node (line_request r)) refl
  where
    go : (t : Result WorldTurn Fault) → answer_turn before w q.node (line_request r) ≡ t → (xs : List Put) × ((answered (Some r ∷ u) before w (q ∷ qs)).puts ≡ q ∷ xs)
    go (Err f) is = ([], ap (λ (p : Play). p.puts) (turns r u before w q qs (Err f) is))
    go (Ok t) is = ((answered u (suc before) t.world (qs ++ puts_of t.world t.told)).puts, ap (λ (p : Play). p.puts) (turns r u before w q qs (Ok t) is))

answered_alike : (c u v : Requests) (before : ℕ) (w : World) (qs : List Put) → Alike c u v (answered (c ++ u) before w qs) (answered (c ++ v) before w qs)
answered_alike [] u v before w [] =
    let a = none_waits u before w in
    let b = none_waits v before w in
    Same [] (ap (λ (p : Play). p.left) a) (ap (λ (p : Play). p.left) b) (ap (λ (p : Play). p.world) a ∙ sym (ap (λ (p : Play). p.world) b)) (ap (λ (p : Play). p.fault) a ∙ sym (ap (λ (p : Play). p.fault) b))
    (ap (λ (p : Play). p.puts) a ∙ sym (ap (λ (p : Play). p.puts) b)) (omega (arith, ap (λ (p : Play). length p.puts) a))
answered_alike [] u v before w (q ∷ qs) =
    let a = put_first u before w q qs in
    let b = put_first v before w q qs in
    Past (q ∷ []) a.0 b.0 refl a.1 b.1
answered_alike (a ∷ c) u v before w [] = Same (a ∷ c) refl refl refl refl refl (omega arith)
answered_alike (None ∷ c) u v before w (q ∷ qs) = one_more q None c u v (answered (c ++ u) before w qs) (answered (c ++ v) before w qs) (answered_alike c u v before w qs)
answered_alike (Some r ∷ c) u v before w (q ∷ qs) = go (answer_turn before w q.node (line_request r)) refl (λ x ps. answered_alike c u v (suc before) x ps)
  where
    go : (t : Result WorldTurn Fault) → answer_turn before w q.node (line_request r) ≡ t → ((x : World) (ps : List Put) → Alike c u v (answered (c ++ u) (suc before) x ps) (answered (c ++ v) (suc before) x ps))
        → Alike (Some r ∷ c) u v (answered (Some r ∷ (c ++ u)) before w (q ∷ qs)) (answered (Some r ∷ (c ++ v)) before w (q ∷ qs))
    go (Err f) is later =
        subst (λ (p : Play). Alike (Some r ∷ c) u v p (answered (Some r ∷ (c ++ v)) before w (q ∷ qs))) (sym (turns r (c ++ u) before w q qs (Err f) is))
        (subst (λ (p : Play). Alike (Some r ∷ c) u v (with_put q (stopped w (c ++ u) f)) p) (sym (turns r (c ++ v) before w q qs (Err f) is)) (Same c refl refl refl refl refl (omega arith)))
    go (Ok t) is later =
        let qs2 = qs ++ puts_of t.world t.told in
        let ls = OutLine.Echo (line_text (Line.Do q.node (line_request r))) ∷ t.lines in
        let a = answered (c ++ u) (suc before) t.world qs2 in
        let b = answered (c ++ v) (suc before) t.world qs2 in
        subst (λ (p : Play). Alike (Some r ∷ c) u v p (answered (Some r ∷ (c ++ v)) before w (q ∷ qs))) (sym (turns r (c ++ u) before w q qs (Ok t) is))
        (subst (λ (p : Play). Alike (Some r ∷ c) u v (with_put q (with_lines ls a)) p) (sym (turns r (c ++ v) before w q qs (Ok t) is))
        (one_more q (Some r) c u v (with_lines ls a) (with_lines ls b) (with_shown ls c u v a b (later t.world qs2))))

-- a line that members are told of
abbrev by_line : World → Line → Requests → Result WorldTurn Fault → Play
by_line w x answers r = elim r as (λ _. Play) [ Err f ↦ stopped w answers f | Ok t ↦ with_lines (echo x ++ t.lines) (answered answers 0 t.world (puts_of t.world t.told)) ]

play_alike : (members : ℕ) (c u v : Requests) (w : World) (x : Line) → Alike c u v (line_played members (c ++ u) w x) (line_played members (c ++ v) w x)
play_alike members c u v w x = go (line members w x) refl
  where
    go : (r : Result WorldTurn Fault) → line members w x ≡ r → Alike c u v (line_played members (c ++ u) w x) (line_played members (c ++ v) w x)
    go (Err f) is =
        subst (λ (p : Play). Alike c u v p (line_played members (c ++ v) w x)) (sym (ap (by_line w x (c ++ u)) is))
        (subst (λ (p : Play). Alike c u v (stopped w (c ++ u) f) p) (sym (ap (by_line w x (c ++ v)) is)) (Same c refl refl refl refl refl (omega arith)))
    go (Ok t) is =
        let ls = echo x ++ t.lines in
        let a = answered (c ++ u) 0 t.world (puts_of t.world t.told) in
        let b = answered (c ++ v) 0 t.world (puts_of t.world t.told) in
        subst (λ (p : Play). Alike c u v p (line_played members (c ++ v) w x)) (sym (ap (by_line w x (c ++ u)) is))
        (subst (λ (p : Play). Alike c u v (with_lines ls a) p) (sym (ap (by_line w x (c ++ v)) is)) (with_shown ls c u v a b (answered_alike c u v 0 t.world (puts_of t.world t.told))))

-- ---- all lines

-- so of two transcripts: no more was put than was answered, and it is the same; or as many were put, and one more
data AreAlike (c : Requests) (s t : Transcript) : Type 0 where
  AllSame : s.puts ≡ t.puts → length s.puts ≤ length c → AreAlike c s t
  AllPast : (ps xs ys : List Put) → length ps ≡ suc (length c) → s.puts ≡ ps ++ xs → t.puts ≡ ps ++ ys → AreAlike c s t

module _ (members at before : ℕ) (w : World) (ls : List RawLine) where
  abbrev by_fault : Play → Option Fault → Transcript
  by_fault p (Some f) = breaks at f p
  by_fault p None = behind p (transcript_from members (suc at) before p.left p.world ls)

  by_play : (p : Play) → (elim p.fault as (λ _. Transcript) [ Some f ↦ breaks at f p | None ↦ behind p (transcript_from members (suc at) before p.left p.world ls) ]) ≡ by_fault p p.fault
  by_play p = same p.fault
    where
      same : (f : Option Fault) → (elim f as (λ _. Transcript) [ Some f ↦ breaks at f p | None ↦ behind p (transcript_from members (suc at) before p.left p.world ls) ]) ≡ by_fault p f
      same (Some f) = refl
      same None = refl

  more_put : (p : Play) (f : Option Fault) → (zs : List Put) × ((by_fault p f).puts ≡ p.puts ++ zs)
  more_put p (Some f) = ([], sym (append-nil p.puts))
  more_put p None = ((transcript_from members (suc at) before p.left p.world ls).puts, refl)

  past_play : (c : Requests) (p q : Play) (ps xs ys : List Put) → length ps ≡ suc (length c) → p.puts ≡ ps ++ xs → q.puts ≡ ps ++ ys → AreAlike c (by_fault p p.fault) (by_fault q q.fault)
  past_play c p q ps xs ys n e d =
      let a = more_put p p.fault in
      let b = more_put q q.fault in
      AllPast ps (xs ++ a.0) (ys ++ b.0) n (a.1 ∙ ap (λ (l : List Put). l ++ a.0) e ∙ append_assoc ps xs a.0) (b.1 ∙ ap (λ (l : List Put). l ++ b.0) d ∙ append_assoc ps ys b.0)

  -- the lines after it are played alike
  on_behind : (c left u v : Requests) (p q : Play) → p.left ≡ left ++ u → q.left ≡ left ++ v → p.world ≡ q.world → p.puts ≡ q.puts → length p.puts + length left ≡ length c
      → AreAlike left (transcript_from members (suc at) before (left ++ u) p.world ls) (transcript_from members (suc at) before (left ++ v) p.world ls) → AreAlike c (by_fault p None) (by_fault q None)
  on_behind c left u v p q l m wd e n rest = by rest
    where
      first : (by_fault p None).puts ≡ p.puts ++ (transcript_from members (suc at) before (left ++ u) p.world ls).puts
      first = ap (λ (a : Requests). p.puts ++ (transcript_from members (suc at) before a p.world ls).puts) l

      other : (by_fault q None).puts ≡ p.puts ++ (transcript_from members (suc at) before (left ++ v) p.world ls).puts
      other = ap (λ (a : Requests). q.puts ++ (transcript_from members (suc at) before a q.world ls).puts) m ∙ ap (λ (x : World). q.puts ++ (transcript_from members (suc at) before (left ++ v) x ls).puts) (sym wd)
          ∙ ap (λ (a : List Put). a ++ (transcript_from members (suc at) before (left ++ v) p.world ls).puts) (sym e)

      by : AreAlike left (transcript_from members (suc at) before (left ++ u) p.world ls) (transcript_from members (suc at) before (left ++ v) p.world ls) → AreAlike c (by_fault p None) (by_fault q None)
      by (AllSame same few) =
          AllSame (first ∙ ap (λ (a : List Put). p.puts ++ a) same ∙ sym other)
          (omega (arith, ap length first, length-append p.puts (transcript_from members (suc at) before (left ++ u) p.world ls).puts, few, n))
      by (AllPast ps xs ys k f g) =
          AllPast (p.puts ++ ps) xs ys (omega (arith, length-append p.puts ps, k, n)) (first ∙ ap (λ (a : List Put). p.puts ++ a) f ∙ sym (append_assoc p.puts ps xs)) (other ∙ ap (λ (a : List Put). p.puts ++ a) g ∙ sym (append_assoc p.puts ps ys))

  same_play : (c left u v : Requests) (p q : Play) (f : Option Fault) → p.fault ≡ f → p.left ≡ left ++ u → q.left ≡ left ++ v → p.world ≡ q.world → p.fault ≡ q.fault → p.puts ≡ q.puts → length p.puts + length left ≡ length c
      → AreAlike left (transcript_from members (suc at) before (left ++ u) p.world ls) (transcript_from members (suc at) before (left ++ v) p.world ls) → AreAlike c (by_fault p p.fault) (by_fault q q.fault)
  same_play c left u v p q (Some f) is l m wd ft e n rest =
      subst (λ (g : Option Fault). AreAlike c (by_fault p g) (by_fault q q.fault)) (sym is) (subst (λ (g : Option Fault). AreAlike c (by_fault p (Some f)) (by_fault q g)) (sym is ∙ ft) (AllSame e (omega (arith, n))))
  same_play c left u v p q None is l m wd ft e n rest =
      subst (λ (g : Option Fault). AreAlike c (by_fault p g) (by_fault q q.fault)) (sym is) (subst (λ (g : Option Fault). AreAlike c (by_fault p None) (by_fault q g)) (sym is ∙ ft) (on_behind c left u v p q l m wd e n rest))

  plays_alike : (c u v : Requests) (p q : Play) → Alike c u v p q
      → ((left : Requests) → AreAlike left (transcript_from members (suc at) before (left ++ u) p.world ls) (transcript_from members (suc at) before (left ++ v) p.world ls)) → AreAlike c (by_fault p p.fault) (by_fault q q.fault)
  plays_alike c u v p q (Same left l m wd f e n) rest = same_play c left u v p q p.fault refl l m wd f e n (rest left)
  plays_alike c u v p q (Past ps xs ys n e d) rest = past_play c p q ps xs ys n e d

module _ (members at before : ℕ) (w : World) (l : RawLine) (ls : List RawLine) where
  abbrev further : ℕ
  further = before + octets_taken l

  abbrev by_reading : Requests → Reading → Transcript
  by_reading answers Blank = transcript_from members (suc at) further answers w ls
  by_reading answers (Faulty why) = ends w (Bad_input at why)
  by_reading answers (Says x) = by_fault members at further w ls (line_played members answers w x) (line_played members answers w x).fault

  abbrev by_test : Requests → Bool → Reading → Transcript
  by_test answers true r = ends w (At_limit What.Schedule at)
  by_test answers false r = by_reading answers r

  abbrev reads_as : Requests → Reading → Transcript
  reads_as answers r = elim r as (λ _. Transcript) [
    | Blank ↦ transcript_from members (suc at) further answers w ls
    | Faulty why ↦ ends w (Bad_input at why)
    | Says x ↦
        (let p : Play = line_played members answers w x in
        elim p.fault as (λ _. Transcript) [ Some f ↦ breaks at f p | None ↦ behind p (transcript_from members (suc at) further p.left p.world ls) ])
  ]

  read_so : (answers : Requests) (r : Reading) → reads_as answers r ≡ by_reading answers r
  read_so answers Blank = refl
  read_so answers (Faulty why) = refl
  read_so answers (Says x) = by_play members at further w ls (line_played members answers w x)

  tested : (answers : Requests) (r : Reading) (t : Bool) → (elim t as (λ _. Transcript) [ true ↦ ends w (At_limit What.Schedule at) | false ↦ reads_as answers r ]) ≡ by_test answers t r
  tested answers r true = refl
  tested answers r false = read_so answers r

  step : (answers : Requests) (b : Bool) (r : Reading) → nat_lt 1048576 further ≡ b → read_line (content l) ≡ r → transcript_from members at before answers w (l ∷ ls) ≡ by_test answers b r
  step answers b r is reads =
      ap (λ (t : Bool). elim t as (λ _. Transcript) [ true ↦ ends w (At_limit What.Schedule at) | false ↦ reads_as answers (read_line (content l)) ]) is
      ∙ ap (λ (x : Reading). elim b as (λ _. Transcript) [ true ↦ ends w (At_limit What.Schedule at) | false ↦ reads_as answers x ]) reads
      ∙ tested answers r b

  both : (c u v : Requests) (b : Bool) (r : Reading) → nat_lt 1048576 further ≡ b → read_line (content l) ≡ r → AreAlike c (by_test (c ++ u) b r) (by_test (c ++ v) b r)
      → AreAlike c (transcript_from members at before (c ++ u) w (l ∷ ls)) (transcript_from members at before (c ++ v) w (l ∷ ls))
  both c u v b r is reads h =
      subst (λ (t : Transcript). AreAlike c t (transcript_from members at before (c ++ v) w (l ∷ ls))) (sym (step (c ++ u) b r is reads))
      (subst (λ (t : Transcript). AreAlike c (by_test (c ++ u) b r) t) (sym (step (c ++ v) b r is reads)) h)

  by_case : (c u v : Requests) (b : Bool) (r : Reading) → nat_lt 1048576 further ≡ b → read_line (content l) ≡ r
      → ((d : Requests) (x : World) → AreAlike d (transcript_from members (suc at) further (d ++ u) x ls) (transcript_from members (suc at) further (d ++ v) x ls))
      → AreAlike c (transcript_from members at before (c ++ u) w (l ∷ ls)) (transcript_from members at before (c ++ v) w (l ∷ ls))
  by_case c u v true r is reads later = both c u v true r is reads (AllSame refl (omega arith))
  by_case c u v false Blank is reads later = both c u v false Blank is reads (later c w)
  by_case c u v false (Faulty why) is reads later = both c u v false (Faulty why) is reads (AllSame refl (omega arith))
  by_case c u v false (Says x) is reads later =
      let p = line_played members (c ++ u) w x in
      let q = line_played members (c ++ v) w x in
      both c u v false (Says x) is reads (plays_alike members at further w ls c u v p q (play_alike members c u v w x) (λ left. later left p.world))

lines_alike : (members : ℕ) (c u v : Requests) (at before : ℕ) (w : World) (ls : List RawLine) → AreAlike c (transcript_from members at before (c ++ u) w ls) (transcript_from members at before (c ++ v) w ls)
lines_alike members c u v at before w [] = AllSame refl (omega arith)
lines_alike members c u v at before w (l ∷ ls) =
    by_case members at before w l ls c u v (nat_lt 1048576 (before + octets_taken l)) (read_line (content l)) refl refl (λ d x. lines_alike members d u v (suc at) (before + octets_taken l) x ls)

-- ---- the answers

abbrev mine : Put → Option Request → Bool → List Answer → List Answer
mine p a b xs = elim b as (λ _. List Answer) [ true ↦ record { node = p.node; indication = p.indication; request = a } ∷ xs | false ↦ xs ]

answers_split : (k : ℕ) (ps zs : List Put) (c rest : Requests) → length c ≡ length ps → answers_of k (ps ++ zs) (c ++ rest) ≡ answers_of k ps c ++ answers_of k zs rest
answers_split k [] zs [] rest n = refl
answers_split k [] zs (a ∷ c) rest n = absurd (omega (arith, n))
answers_split k (p ∷ ps) zs [] rest n = absurd (omega (arith, n))
answers_split k (p ∷ ps) zs (a ∷ c) rest n = go (p.member == k) (answers_split k ps zs c rest (omega (arith, n)))
  where
    go : (b : Bool) → answers_of k (ps ++ zs) (c ++ rest) ≡ answers_of k ps c ++ answers_of k zs rest → mine p a b (answers_of k (ps ++ zs) (c ++ rest)) ≡ mine p a b (answers_of k ps c) ++ answers_of k zs rest
    go true same = ap (λ (xs : List Answer). record { node = p.node; indication = p.indication; request = a } ∷ xs) same
    go false same = same

own_first : (q : Put) (zs : List Put) (a : Option Request) (rest : Requests) → answers_of q.member (q ∷ zs) (a ∷ rest) ≡ record { node = q.node; indication = q.indication; request = a } ∷ answers_of q.member zs rest
own_first q zs a rest = go (q.member == q.member) (grind (arith, nat_tests))
  where
    go : (b : Bool) → b ≡ true → (elim b as (λ _. List Answer) [ true ↦ record { node = q.node; indication = q.indication; request = a } ∷ answers_of q.member zs rest | false ↦ answers_of q.member zs rest ]) ≡ record { node = q.node; indication = q.indication; request = a } ∷ answers_of q.member zs rest
    go true is = refl
    go false is = absurd (cc is)

last_of : (n : ℕ) (ps : List Put) → length ps ≡ suc n → (front : List Put) × (q : Put) × (ps ≡ front ++ q ∷ []) × (length front ≡ n)
last_of n [] is = absurd (omega (arith, is))
last_of zero (p ∷ []) is = ([], p, refl, refl)
last_of (suc n) (p ∷ []) is = absurd (omega (arith, is))
last_of zero (p ∷ q ∷ ps) is = absurd (omega (arith, is))
last_of (suc n) (p ∷ q ∷ ps) is =
    let more = last_of n (q ∷ ps) (omega (arith, is)) in
    (p ∷ more.0, more.1, ap (λ (l : List Put). p ∷ l) more.2, ap suc more.3)

module _ (may : ℕ → List Answer → Type 0) (certain : AreCertain may) (members : ℕ) (bytes : List ℕ) where
  abbrev put_with : Requests → List Put
  put_with answers = (transcript_with members bytes answers).puts

  all_alike : (c u v : Requests) → AreAlike c (transcript_with members bytes (c ++ u)) (transcript_with members bytes (c ++ v))
  all_alike c u v = lines_alike members c u v 1 0 empty_world (raw_lines bytes)

  -- what is answered to the indication that is put next
  own_answer : (c : Requests) (a : Option Request) (x : Requests) (front zs : List Put) (q : Put) → length front ≡ length c → put_with (c ++ a ∷ x) ≡ (front ++ q ∷ []) ++ zs → AreAllowed may (put_with (c ++ a ∷ x)) (c ++ a ∷ x)
      → may q.member (answers_of q.member front c ++ record { node = q.node; indication = q.indication; request = a } ∷ answers_of q.member zs x)
  own_answer c a x front zs q n is allowed =
      subst (may q.member)
      (ap (λ (l : List Put). answers_of q.member l (c ++ a ∷ x)) (is ∙ append_assoc front (q ∷ []) zs)
      ∙ answers_split q.member front (q ∷ zs) c (a ∷ x) (sym n)
      ∙ ap (λ (l : List Answer). answers_of q.member front c ++ l) (own_first q zs a x))
      (allowed.own q.member)

  one_answer : (c : Requests) (a b : Option Request) (x y : Requests) → AreAlike c (transcript_with members bytes (c ++ a ∷ x)) (transcript_with members bytes (c ++ b ∷ y))
      → AreAllowed may (put_with (c ++ a ∷ x)) (c ++ a ∷ x) → AreAllowed may (put_with (c ++ b ∷ y)) (c ++ b ∷ y) → a ≡ b
  one_answer c a b x y (AllSame same few) p q = absurd (omega (arith, few, p.each, length-append c (a ∷ x)))
  one_answer c a b x y (AllPast ps xs ys n e d) p q =
      let last = last_of (length c) ps n in
      let front = last.0 in
      let put = last.1 in
      let first = own_answer c a x front xs put last.3 (e ∙ ap (λ (l : List Put). l ++ xs) last.2) p in
      let other = own_answer c b y front ys put last.3 (d ∙ ap (λ (l : List Put). l ++ ys) last.2) q in
      certain put.member (answers_of put.member front c) (record { node = put.node; indication = put.indication; request = a }) (record { node = put.node; indication = put.indication; request = b }) (answers_of put.member xs x) (answers_of put.member ys y) first other refl refl

  -- no answer is left over
  no_longer : (c : Requests) (b : Option Request) (y : Requests) → AreAlike c (transcript_with members bytes (c ++ [])) (transcript_with members bytes (c ++ b ∷ y)) → AreAllowed may (put_with (c ++ [])) (c ++ []) → AreAllowed may (put_with (c ++ b ∷ y)) (c ++ b ∷ y) → ⊥
  no_longer c b y (AllSame same few) p q = omega (arith, few, ap length same, q.each, length-append c (b ∷ y))
  no_longer c b y (AllPast ps xs ys n e d) p q = omega (arith, n, ap length e, length-append ps xs, p.each, length-append c [])

  no_shorter : (c : Requests) (a : Option Request) (x : Requests) → AreAlike c (transcript_with members bytes (c ++ a ∷ x)) (transcript_with members bytes (c ++ [])) → AreAllowed may (put_with (c ++ a ∷ x)) (c ++ a ∷ x) → AreAllowed may (put_with (c ++ [])) (c ++ []) → ⊥
  no_shorter c a x (AllSame same few) p q = omega (arith, few, p.each, length-append c (a ∷ x))
  no_shorter c a x (AllPast ps xs ys n e d) p q = omega (arith, n, ap length d, length-append ps ys, q.each, length-append c [])

  same_after : (c x y : Requests) → AreAllowed may (put_with (c ++ x)) (c ++ x) → AreAllowed may (put_with (c ++ y)) (c ++ y) → x ≡ y
  same_after c [] [] p q = refl
  same_after c [] (b ∷ y) p q = absurd (no_longer c b y (all_alike c [] (b ∷ y)) p q)
  same_after c (a ∷ x) [] p q = absurd (no_shorter c a x (all_alike c (a ∷ x) []) p q)
  same_after c (a ∷ x) (b ∷ y) p q =
      let same = one_answer c a b x y (all_alike c (a ∷ x) (b ∷ y)) p q in
      let first : (c ++ a ∷ []) ++ x ≡ c ++ a ∷ x = append_assoc c (a ∷ []) x in
      let other : (c ++ a ∷ []) ++ y ≡ c ++ b ∷ y = append_assoc c (a ∷ []) y ∙ ap (λ (z : Option Request). c ++ z ∷ y) same in
      let rest = same_after (c ++ a ∷ []) x y (subst (λ (l : Requests). AreAllowed may (put_with l) l) (sym first) p) (subst (λ (l : Requests). AreAllowed may (put_with l) l) (sym other) q) in
      ap (λ (z : Option Request). z ∷ x) same ∙ ap (λ (l : Requests). b ∷ l) rest

  pub is_one : IsOne may members bytes
  is_one xs ys p q = same_after [] xs ys p q
