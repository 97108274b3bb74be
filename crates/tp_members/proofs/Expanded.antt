-- The expansion of a schedule shows what the schedule shows with its members, and leaves the same world.
use Rattle.std.proofs.Common.{◌≡◌, ℕ, suc, Bool, true, false, refl, ap, sym, subst, ◌∙◌, arith, Option, Some, None, List, [], ◌∷◌, ◌++◌, Result, Ok, Err}
use Rattle.std.proofs.lemmas.List.{append-nil, append_assoc}
use Rattle.std.proofs.lemmas.List.Elements.{All-nil, All-cons, All-append}
use Rattle.std.specs.List.{All}
use Rattle.tp_records.specs.declared.request.Request.{Request}
use Rattle.tp_model.specs.declared.line.LineRequest.{LineRequest}
use Rattle.tp_model.specs.declared.line.Action.{Action}
use Rattle.tp_model.specs.declared.line.Line.{Line}
use Rattle.tp_model.specs.declared.out_line.OutLine.{OutLine}
use Rattle.tp_model.specs.LineText.{line_text}
use Rattle.tp_model.specs.World.{World, empty_world}
use Rattle.tp_model.specs.Happenings.{WorldTurn}
use Rattle.tp_model.specs.Lines.{Fault, action_line, line}
use Rattle.tp_model.specs.Trees.{closing}
use Rattle.tp_model.specs.Transcript.{Put, Play, puts_of, line_request, answer_turn, answered, is_silent, echo, transcript_with, with_put, with_lines, stopped, line_played}
use Rattle.tp_model.specs.Expand.{behind_play, played_all, answer_lines, shown_line, expanded_from, expanded, shown_of, IsExpanded}
use Rattle.tp_members.specs.Expansion.{memberless, LeavesItsWorld, ClosesAlike, SpeaksOfNone, IsWrittenOut, lines_in}
use Rattle.tp_members.proofs.Memberless.{turn_without, result_without, line_without, IsQuiet, quiet_line}
use Rattle.tp_members.proofs.Played.{IsPlayed, transcript_is_played}

-- ---- lists of lines without members

-- from that world the lines show those, and leave that world
pub record Shows (v : World) (ls : List Line) (u : World) (xs : List OutLine) : Type 0 where
  pub world : (played_all 0 [] v ls).world ≡ u
  pub lines : (played_all 0 [] v ls).lines ≡ xs
  pub fault : (played_all 0 [] v ls).fault ≡ None

-- a play goes on with the lines after it
abbrev pub goes_on : ℕ → Play → List Line → Play
goes_on members p ls = elim p.fault [ Some f ↦ p | None ↦ behind_play p (played_all members p.left p.world ls) ]

-- what a line does, with its answers
abbrev pub answered_line : Line → List (Option Request) → Result WorldTurn Fault → World → Play
answered_line l answers r w = elim r [
  | Err f ↦ stopped w answers f
  | Ok t ↦ with_lines (echo l ++ t.lines) (answered answers 0 t.world (puts_of t.world t.told))
]

same_line : (v : World) (l : Line) (t : WorldTurn) → line 0 v l ≡ Ok t → line_played 0 [] v l ≡ answered_line l [] (Ok t) v
same_line v l t h = rw (h, line_played) refl

shows_first : (v : World) (l : Line) (ls : List Line) (t : WorldTurn) (u : World) (xs : List OutLine) → line 0 v l ≡ Ok t → Shows t.world ls u xs → Shows v (l ∷ ls) u ((echo l ++ t.lines) ++ xs)
shows_first v l ls t u xs h s =
    let e : played_all 0 [] v (l ∷ ls) ≡ goes_on 0 (answered_line l [] (Ok t) v) ls = ap (λ (p : Play). goes_on 0 p ls) (same_line v l t h) in
    record {
      world = ap (λ (p : Play). p.world) e ∙ s.world;
      lines = ap (λ (p : Play). p.lines) e ∙ rw (append-nil (echo l ++ t.lines)) (ap (λ (ys : List OutLine). (echo l ++ t.lines) ++ ys) s.lines);
      fault = ap (λ (p : Play). p.fault) e ∙ s.fault;
    }

-- ---- answers

-- an answer that was run is such a line
answer_is_line : (before : ℕ) (w : World) (n : ℕ) (r : LineRequest) (t : WorldTurn) → answer_turn before w n r ≡ Ok t → action_line w (Action.Do n r) ≡ Ok t
answer_is_line before w n r t h = grind (arith, h)

answer_without : (before : ℕ) (w : World) (n : ℕ) (r : LineRequest) (t : WorldTurn) → answer_turn before w n r ≡ Ok t → line 0 (memberless w) (Line.Do n r) ≡ Ok (turn_without t)
answer_without before w n r t h = line_without 0 w (Line.Do n r) refl ∙ ap result_without (answer_is_line before w n r t h)

more_lines : (v : World) (ls : List Line) (u : World) (xs ys zs : List OutLine) → Shows v ls u (xs ++ (ys ++ zs)) → Shows v ls u (xs ++ ys ++ zs)
more_lines v ls u xs ys zs s = subst (λ (all : List OutLine). Shows v ls u all) (sym (append_assoc xs ys zs)) s

-- the answers that were run, as lines, and lines after them
answers_show : (answers : List (Option Request)) (before : ℕ) (w : World) (qs : List Put) (rest : List Line) (u : World) (xs : List OutLine)
    → (answered answers before w qs).fault ≡ None → Shows (memberless (answered answers before w qs).world) rest u xs
    → Shows (memberless w) (answer_lines (answered answers before w qs).puts answers ++ rest) u ((answered answers before w qs).lines ++ xs)
answers_show [] before w [] rest u xs h s = s
answers_show [] before w (q ∷ qs) rest u xs h s = s
answers_show (a ∷ answers) before w [] rest u xs h s = s
answers_show (None ∷ answers) before w (q ∷ qs) rest u xs h s = answers_show answers before w qs rest u xs h s
answers_show (Some r ∷ answers) before w (q ∷ qs) rest u xs h s = go (answer_turn before w q.node (line_request r)) refl (λ v ps. answers_show answers (suc before) v ps rest u xs) h s
  where
    play : Result WorldTurn Fault → Play
    play x = elim x [
      | Err f ↦ with_put q (stopped w answers f)
      | Ok t ↦ with_put
          q
          (with_lines
          (OutLine.Echo (line_text (Line.Do q.node (line_request r))) ∷ t.lines)
          (answered answers (suc before) t.world (qs ++ puts_of t.world t.told)))
    ]

    go : (x : Result WorldTurn Fault) → answer_turn before w q.node (line_request r) ≡ x
        → ((v : World) (ps : List Put) → (answered answers (suc before) v ps).fault ≡ None → Shows (memberless (answered answers (suc before) v ps).world) rest u xs
        → Shows (memberless v) (answer_lines (answered answers (suc before) v ps).puts answers ++ rest) u ((answered answers (suc before) v ps).lines ++ xs))
        → (play x).fault ≡ None → Shows (memberless (play x).world) rest u xs → Shows (memberless w) (answer_lines (play x).puts (Some r ∷ answers) ++ rest) u ((play x).lines ++ xs)
    go (Err f) i more h s = absurd (cc (h))
    go (Ok t) i more h s =
        let l : Line = Line.Do q.node (line_request r) in
        let ps : List Put = qs ++ puts_of t.world t.told in
        let a : Play = answered answers (suc before) t.world ps in
        more_lines (memberless w) _ u (OutLine.Echo (line_text l) ∷ t.lines) a.lines xs
        (shows_first (memberless w) l _ (turn_without t) u (a.lines ++ xs) (answer_without before w q.node (line_request r) t i) (more t.world ps h s))

-- ---- the whole

-- the expansion of a line that was played so, and of those after it
abbrev pub expanded_by : ℕ → Line → List (Option Request) → List Line → Play → List Line
expanded_by members l answers ls p = shown_line l ++ answer_lines p.puts answers ++ elim p.fault [ Some f ↦ [] | None ↦ expanded_from members p.left p.world ls ]

abbrev pub ShowsPlay : ℕ → World → Line → List (Option Request) → List Line → Play → Type 0
ShowsPlay members w l answers ls p = (goes_on members p ls).fault ≡ None
    → Shows (memberless w) (expanded_by members l answers ls p) (memberless (goes_on members p ls).world) (goes_on members p ls).lines

shown_first : (l : Line) → is_silent l ≡ false → shown_line l ≡ l ∷ []
shown_first l h = rw (h, shown_line) refl

hidden_first : (l : Line) → is_silent l ≡ true → shown_line l ≡ []
hidden_first l h = rw (h, shown_line) refl

echo_hidden : (l : Line) → is_silent l ≡ true → echo l ≡ []
echo_hidden l h = rw (h, echo) refl

-- the line itself, before what its expansion goes on with
line_shows : (members : ℕ) (w : World) (l : Line) (t : WorldTurn) (ms ls : List Line) (u : World) (xs : List OutLine) → line members w l ≡ Ok t
    → Shows (memberless t.world) (ms ++ ls) u xs → Shows (memberless w) (shown_line l ++ ms ++ ls) u ((echo l ++ t.lines) ++ xs)
line_shows members w l t ms ls u xs h s = go (is_silent l) refl
  where
    go : (b : Bool) → is_silent l ≡ b → Shows (memberless w) (shown_line l ++ ms ++ ls) u ((echo l ++ t.lines) ++ xs)
    go false i = rw (shown_first l i) (shows_first (memberless w) l (ms ++ ls) (turn_without t) u xs (line_without members w l i ∙ ap result_without h) s)
    go true i =
        let q : IsQuiet w t = quiet_line members w l t i h in
        let same : Shows (memberless w) (ms ++ ls) u xs = subst (λ (v : World). Shows v (ms ++ ls) u xs) q.world s in
        rw (hidden_first l i, echo_hidden l i, q.lines) same

shows_all : (members : ℕ) (ls : List Line) (answers : List (Option Request)) (w : World) → (played_all members answers w ls).fault ≡ None
    → Shows (memberless w) (expanded_from members answers w ls) (memberless (played_all members answers w ls).world) (played_all members answers w ls).lines
shows_all members [] answers w h = record { world = refl; lines = refl; fault = refl }
shows_all members (l ∷ ls) answers w h = go (line members w l) refl (shows_all members ls) h
  where
    behind : (t : WorldTurn) (v : World) (zs : List OutLine) (ps : List Put) (left : List (Option Request)) (f : Option Fault) → line members w l ≡ Ok t
        → ((rest : List Line) (u : World) (xs : List OutLine) → f ≡ None → Shows (memberless v) rest u xs → Shows (memberless t.world) (answer_lines ps answers ++ rest) u (zs ++ xs))
        → ((played_all members left v ls).fault ≡ None → Shows (memberless v) (expanded_from members left v ls) (memberless (played_all members left v ls).world) (played_all members left v ls).lines)
        → ShowsPlay members w l answers ls (with_lines (echo l ++ t.lines) (record { world = v; lines = zs; puts = ps; left = left; fault = f }))
    behind t v zs ps left (Some f) i first more h = absurd (cc (h))
    behind t v zs ps left None i first more h =
        let p : Play = played_all members left v ls in
        more_lines (memberless w) _ (memberless p.world) (echo l ++ t.lines) zs p.lines
        (line_shows members w l t (answer_lines ps answers) (expanded_from members left v ls) (memberless p.world) (zs ++ p.lines) i (first _ _ _ refl (more h)))

    go : (x : Result WorldTurn Fault) → line members w l ≡ x
        → ((bs : List (Option Request)) (v : World) → (played_all members bs v ls).fault ≡ None → Shows (memberless v) (expanded_from members bs v ls) (memberless (played_all members bs v ls).world) (played_all members bs v ls).lines)
        → ShowsPlay members w l answers ls (line_played members answers w l)
    go x i more = subst (ShowsPlay members w l answers ls) (sym (rw (i, line_played) refl)) (by x i more)
      where
        by : (x : Result WorldTurn Fault) → line members w l ≡ x
            → ((bs : List (Option Request)) (v : World) → (played_all members bs v ls).fault ≡ None → Shows (memberless v) (expanded_from members bs v ls) (memberless (played_all members bs v ls).world) (played_all members bs v ls).lines)
            → ShowsPlay members w l answers ls (answered_line l answers x w)
        by (Err f) i more = λ h. absurd (cc (h))
        by (Ok t) i more =
            let a : Play = answered answers 0 t.world (puts_of t.world t.told) in
            behind t a.world a.lines a.puts a.left a.fault i (answers_show answers 0 t.world (puts_of t.world t.told)) (more a.left a.world)

pub expansion : (members : ℕ) (ls : List Line) (answers : List (Option Request)) → IsExpanded members ls answers
expansion members ls answers lines h = go (played_all members answers empty_world ls).fault refl h
  where
    shown : Option Fault → Option (List OutLine)
    shown f = elim f [ Some f ↦ None | None ↦ Some (played_all members answers empty_world ls).lines ]

    go : (f : Option Fault) → (played_all members answers empty_world ls).fault ≡ f → shown f ≡ Some lines → shown_of (played_all 0 [] empty_world (expanded members ls answers)) ≡ Some lines
    go (Some f) i h = absurd (cc (h))
    go None i h =
        let s = shows_all members ls answers empty_world i in
        rw (s.fault, shown_of) (ap (λ (xs : List OutLine). let all : Option (List OutLine) = Some xs in all) s.lines ∙ h)

pub same_world : (members : ℕ) (ls : List Line) (answers : List (Option Request)) → LeavesItsWorld members ls answers
same_world members ls answers h = (shows_all members ls answers empty_world h).world

pub same_closing : (members : ℕ) (ls : List Line) (answers : List (Option Request)) → ClosesAlike members ls answers
same_closing members ls answers h = ap closing (same_world members ls answers h)

pub writes : (members : ℕ) (schedule : List ℕ) (answers : List (Option Request)) → IsWrittenOut members schedule answers
writes members schedule answers h =
    let ls : List Line = lines_in schedule in
    let i : IsPlayed (played_all members answers empty_world ls) (transcript_with members schedule answers) = transcript_is_played members schedule answers h in
    let s = shows_all members ls answers empty_world i.fault in
    i.written ∙ rw (s.lines, same_closing members ls answers i.fault) refl

-- ---- no line of it speaks of members

abbrev pub IsShown : Line → Type 0
IsShown l = is_silent l ≡ false

shown_is : (l : Line) → All IsShown (shown_line l)
shown_is l = go (is_silent l) refl
  where
    go : (b : Bool) → is_silent l ≡ b → All IsShown (shown_line l)
    go true i = rw (hidden_first l i) (All-nil IsShown)
    go false i = rw (shown_first l i) (All-cons IsShown l [] i (All-nil IsShown))

answers_are : (qs : List Put) (answers : List (Option Request)) → All IsShown (answer_lines qs answers)
answers_are [] answers = All-nil IsShown
answers_are (q ∷ qs) [] = All-nil IsShown
answers_are (q ∷ qs) (None ∷ answers) = answers_are qs answers
answers_are (q ∷ qs) (Some r ∷ answers) = All-cons IsShown (Line.Do q.node (line_request r)) (answer_lines qs answers) refl (answers_are qs answers)

expanded_is : (members : ℕ) (answers : List (Option Request)) (w : World) (ls : List Line) → All IsShown (expanded_from members answers w ls)
expanded_is members answers w [] = All-nil IsShown
expanded_is members answers w (l ∷ ls) = go (line_played members answers w l) (λ bs v. expanded_is members bs v ls)
  where
    rest : (p : Play) (f : Option Fault) → All IsShown (expanded_from members p.left p.world ls) → All IsShown (elim f as (λ _. List Line) [ Some f ↦ [] | None ↦ expanded_from members p.left p.world ls ])
    rest p None more = more
    rest p (Some f) more = All-nil IsShown

    go : (p : Play) → ((bs : List (Option Request)) (v : World) → All IsShown (expanded_from members bs v ls)) → All IsShown (expanded_by members l answers ls p)
    go p more =
        All-append IsShown (shown_line l ++ answer_lines p.puts answers) _
        (All-append IsShown (shown_line l) (answer_lines p.puts answers) (shown_is l) (answers_are p.puts answers))
        (rest p p.fault (more p.left p.world))

pub speaks_of_none : (members : ℕ) (ls : List Line) (answers : List (Option Request)) → SpeaksOfNone members ls answers
speaks_of_none members ls answers = expanded_is members answers empty_world ls
