-- Answers that are run, one list of them after another.
use Rattle.std.proofs.Common.{◌≡◌, ◌+◌, ◌++◌, ℕ, suc, refl, ap, sym, ◌∙◌, subst, append_assoc, Option, Some, None, List, [], ◌∷◌, Result, Ok, Err, length, length-append}
use Rattle.std.proofs.lemmas.List.{append-nil}
use Rattle.tp_records.specs.declared.request.Request.{Request}
use Rattle.tp_records.specs.Answers.{Answer}
use Rattle.tp_model.specs.declared.line.Line.{Line}
use Rattle.tp_model.specs.declared.out_line.OutLine.{OutLine}
use Rattle.tp_model.specs.World.{World, driver_of}
use Rattle.tp_model.specs.Happenings.{Told, WorldTurn}
use Rattle.tp_model.specs.LineText.{line_text}
use Rattle.tp_model.specs.Lines.{Fault, line}
use Rattle.tp_model.specs.Transcript.{Put, Play, answered, answer_turn, echo, line_request, puts_of, stopped, with_lines, with_put, line_played}
use Rattle.tp_world_members.specs.Told.{puts_by}
use Rattle.tp_world_members.specs.Members.{silent, Gave, AsksFor}
use Rattle.tp_world_members.specs.Answers.{with_puts, HaveRun, HaveEnded, IsPlayed, IsEnded}
use Rattle.tp_world_members.specs.declared.members.Asked.{Asked}
use Rattle.tp_world_members.proofs.Gave.{gave_none, gave_more, silent_length}

-- ---- the queue of the definitions

pub puts_are : (w : World) (ts : List Told) → puts_of w ts ≡ puts_by (driver_of w.drives) ts
puts_are w [] = refl
puts_are w (t ∷ ts) = go (driver_of w.drives t.node) (puts_are w ts)
  where
    one : ℕ → Put
    one k = record { member = k; node = t.node; indication = t.indication }

    go : (o : Option ℕ) → puts_of w ts ≡ puts_by (driver_of w.drives) ts
        → (elim o as (λ _. List Put) [ None ↦ puts_of w ts | Some k ↦ one k ∷ puts_of w ts ])
        ≡ (elim o as (λ _. List Put) [ None ↦ [] | Some k ↦ one k ∷ [] ]) ++ puts_by (driver_of w.drives) ts
    go None e = e
    go (Some k) e = ap (λ (q : List Put). one k ∷ q) e

-- ---- plays

puts_twice : (p q : List Put) (x : Play) → with_puts p (with_puts q x) ≡ with_puts (p ++ q) x
puts_twice p q x = ap (λ (r : List Put). record x { puts = r }) (sym (append_assoc p q x.puts))

lines_twice : (p q : List OutLine) (x : Play) → with_lines p (with_lines q x) ≡ with_lines (p ++ q) x
lines_twice p q x = ap (λ (r : List OutLine). record x { lines = r }) (sym (append_assoc p q x.lines))

-- ---- one after the other

pub run_none : {M : Type 0} (allowed : M → List Answer → Type 0) (xs : List (Option M)) (b : ℕ) (w : World) (q : List Put) → HaveRun allowed xs xs b w q [] b w q
run_none allowed xs b w q = record { put = []; given = []; each = refl; run = λ later. refl; gave = gave_none allowed xs; count = refl }

pub run_more : {M : Type 0} (allowed : M → List Answer → Type 0) (xs ys zs : List (Option M)) (a b c : ℕ) (u v w : World) (p q r : List Put) (ls ms : List OutLine) → HaveRun allowed xs ys a u p ls b v q → HaveRun allowed ys zs b v q ms c w r
    → HaveRun allowed xs zs a u p (ls ++ ms) c w r
run_more allowed xs ys zs a b c u v w p q r ls ms h i = record {
  put = h.put ++ i.put;
  given = h.given ++ i.given;
  each = length-append h.given i.given ∙ ap (λ (n : ℕ). n + length i.given) h.each ∙ ap (λ (n : ℕ). length h.put + n) i.each ∙ sym (length-append h.put i.put);
  run = λ later. ap (λ (g : List (Option Request)). answered g a u p) (append_assoc h.given i.given later) ∙ h.run (i.given ++ later)
      ∙ ap (λ (x : Play). with_puts h.put (with_lines ls x)) (i.run later)
      ∙ ap (with_puts h.put) (ap (with_puts i.put) (lines_twice ls ms (answered later c w r)))
      ∙ puts_twice h.put i.put (with_lines (ls ++ ms) (answered later c w r));
  gave = gave_more allowed xs ys zs h.put i.put h.given i.given h.each h.gave i.gave;
  count = i.count ∙ h.count;
}

pub run_ended : {M : Type 0} (allowed : M → List Answer → Type 0) (xs ys zs : List (Option M)) (a b : ℕ) (u v : World) (p q : List Put) (ls : List OutLine) (f : Fault) → HaveRun allowed xs ys a u p ls b v q → HaveEnded allowed ys zs b v q f
    → HaveEnded allowed xs zs a u p f
run_ended allowed xs ys zs a b u v p q ls f h i = record {
  given = h.given ++ i.given;
  play = with_puts h.put (with_lines ls i.play);
  each = length-append h.given i.given ∙ ap (λ (n : ℕ). n + length i.given) h.each ∙ ap (λ (n : ℕ). length h.put + n) i.each ∙ sym (length-append h.put i.play.puts);
  run = λ later. ap (λ (g : List (Option Request)). answered g a u p) (append_assoc h.given i.given later) ∙ h.run (i.given ++ later) ∙ ap (λ (x : Play). with_puts h.put (with_lines ls x)) (i.run later);
  fault = i.fault;
  gave = gave_more allowed xs ys zs h.put i.play.puts h.given i.given h.each h.gave i.gave;
}

-- ---- what is asked for

-- those that ask for nothing
passed_by : (p q : List Put) (b : ℕ) (w : World) (later : List (Option Request)) → answered (silent p ++ later) b w (p ++ q) ≡ with_puts p (answered later b w q)
passed_by [] q b w later = refl
passed_by (x ∷ p) q b w later = ap (with_put x) (passed_by p q b w later)

pub none_asked : {M : Type 0} (allowed : M → List Answer → Type 0) (xs ys : List (Option M)) (b : ℕ) (w : World) (q : List Put) → length ys ≡ length xs → Gave allowed xs ys q (silent q) → HaveRun allowed xs ys b w q [] b w []
none_asked allowed xs ys b w q count gave = record {
  put = q;
  given = silent q;
  each = silent_length q;
  run = λ later. ap (answered (silent q ++ later) b w) (sym (append-nil q)) ∙ passed_by q [] b w later;
  gave = gave;
  count = count;
}

asked_each : (p : List Put) (q : Put) (r : Option Request) → length (silent p ++ r ∷ []) ≡ length (p ++ q ∷ [])
asked_each p q r = length-append (silent p) (r ∷ []) ∙ ap (λ (n : ℕ). n + 1) (silent_length p) ∙ sym (length-append p (q ∷ []))

module _ {M : Type 0} (allowed : M → List Answer → Type 0) (xs ys : List (Option M)) (b : ℕ) (w : World) (queue : List Put) (x : Asked) (rest : List Put) (a : AsksFor allowed xs ys queue x rest) where
  -- the answers up to the request, and then others
  up_to : (later : List (Option Request)) → answered ((silent a.passed ++ Some x.request ∷ []) ++ later) b w queue ≡ with_puts a.passed (answered (Some x.request ∷ later) b w (a.put ∷ rest))
  up_to later = ap (λ (g : List (Option Request)). answered g b w queue) (append_assoc (silent a.passed) (Some x.request ∷ []) later)
      ∙ ap (answered (silent a.passed ++ (Some x.request ∷ later)) b w) a.is ∙ passed_by a.passed (a.put ∷ rest) b w (Some x.request ∷ later)

  -- how the request is run
  next_is : (later : List (Option Request)) (r : Result WorldTurn Fault) → answer_turn b w x.node (line_request x.request) ≡ r → answered (Some x.request ∷ later) b w (a.put ∷ rest)
      ≡ elim r as (λ _. Play) [
        | Err f ↦ with_put a.put (stopped w later f)
        | Ok t ↦ with_put a.put (with_lines (OutLine.Echo (line_text (Line.Do x.node (line_request x.request))) ∷ t.lines) (answered later (suc b) t.world (rest ++ puts_of t.world t.told)))
      ]
  next_is later r is = subst (λ (n : ℕ). answered (Some x.request ∷ later) b w (a.put ∷ rest) ≡ run_at n later r) a.node (ap (run_at a.put.node later) (ap (λ (n : ℕ). answer_turn b w n (line_request x.request)) a.node ∙ is))
    where
      run_at : ℕ → List (Option Request) → Result WorldTurn Fault → Play
      run_at n later r = elim r [
        | Err f ↦ with_put a.put (stopped w later f)
        | Ok t ↦ with_put a.put (with_lines (OutLine.Echo (line_text (Line.Do n (line_request x.request))) ∷ t.lines) (answered later (suc b) t.world (rest ++ puts_of t.world t.told)))
      ]

  pub run_asked : (t : WorldTurn) → length ys ≡ length xs → answer_turn b w x.node (line_request x.request) ≡ Ok t
      → HaveRun allowed xs ys b w queue (OutLine.Echo (line_text (Line.Do x.node (line_request x.request))) ∷ t.lines) (suc b) t.world (rest ++ puts_of t.world t.told)
  run_asked t count is = record {
    put = a.passed ++ a.put ∷ [];
    given = silent a.passed ++ Some x.request ∷ [];
    each = asked_each a.passed a.put (Some x.request);
    run = λ later. up_to later ∙ ap (with_puts a.passed) (next_is later (Ok t) is)
        ∙ puts_twice a.passed (a.put ∷ []) (with_lines (OutLine.Echo (line_text (Line.Do x.node (line_request x.request))) ∷ t.lines) (answered later (suc b) t.world (rest ++ puts_of t.world t.told)));
    gave = a.gave;
    count = count;
  }

  pub end_asked : (f : Fault) → answer_turn b w x.node (line_request x.request) ≡ Err f → HaveEnded allowed xs ys b w queue f
  end_asked f is = record {
    given = silent a.passed ++ Some x.request ∷ [];
    play = record { world = w; lines = []; puts = a.passed ++ a.put ∷ []; left = []; fault = Some f };
    each = asked_each a.passed a.put (Some x.request);
    run = λ later. up_to later ∙ ap (with_puts a.passed) (next_is later (Err f) is);
    fault = refl;
    gave = a.gave;
  }

-- ---- a whole line

nothing_waits : (later : List (Option Request)) (c : ℕ) (v : World) → answered later c v [] ≡ record { world = v; lines = []; puts = []; left = later; fault = None }
nothing_waits [] c v = refl
nothing_waits (a ∷ later) c v = refl

played_by : (members : ℕ) (w : World) (l : Line) (t : WorldTurn) (answers : List (Option Request)) → line members w l ≡ Ok t → line_played members answers w l ≡ with_lines (echo l ++ t.lines) (answered answers 0 t.world (puts_of t.world t.told))
played_by members w l t answers is = ap (λ (r : Result WorldTurn Fault). elim r as (λ _. Play) [ Err f ↦ stopped w answers f | Ok t ↦ with_lines (echo l ++ t.lines) (answered answers 0 t.world (puts_of t.world t.told)) ]) is

pub played_line : {M : Type 0} (allowed : M → List Answer → Type 0) (xs ys : List (Option M)) (members : ℕ) (w : World) (l : Line) (t : WorldTurn) (shown : List OutLine) (c : ℕ) (v : World) → line members w l ≡ Ok t
    → HaveRun allowed xs ys 0 t.world (puts_of t.world t.told) shown c v [] → IsPlayed allowed xs ys members w l (t.lines ++ shown) v
played_line allowed xs ys members w l t shown c v is h = record {
  put = h.put;
  given = h.given;
  each = h.each;
  plays = λ later. played_by members w l t (h.given ++ later) is ∙ ap (with_lines (echo l ++ t.lines)) (h.run later ∙ ap (λ (x : Play). with_puts h.put (with_lines shown x)) (nothing_waits later c v))
      ∙ all later;
  gave = h.gave;
  count = h.count;
}
  where
    all : (later : List (Option Request)) → ◌≡◌ {A = Play}
        (record { world = v; lines = (echo l ++ t.lines) ++ (shown ++ []); puts = h.put ++ []; left = later; fault = None })
        (record { world = v; lines = echo l ++ (t.lines ++ shown); puts = h.put; left = later; fault = None })
    all later = ap (λ (ls : List OutLine). let p : Play = record { world = v; lines = ls; puts = h.put ++ []; left = later; fault = None } in p) (ap (λ (ls : List OutLine). (echo l ++ t.lines) ++ ls) (append-nil shown) ∙ append_assoc (echo l) t.lines shown)
        ∙ ap (λ (qs : List Put). let p : Play = record { world = v; lines = echo l ++ (t.lines ++ shown); puts = qs; left = later; fault = None } in p) (append-nil h.put)

pub ended_line : {M : Type 0} (allowed : M → List Answer → Type 0) (xs ys : List (Option M)) (members : ℕ) (w : World) (l : Line) (t : WorldTurn) (f : Fault) → line members w l ≡ Ok t
    → HaveEnded allowed xs ys 0 t.world (puts_of t.world t.told) f → IsEnded allowed xs ys members w l f
ended_line allowed xs ys members w l t f is h = record {
  given = h.given;
  play = with_lines (echo l ++ t.lines) h.play;
  each = h.each;
  plays = λ later. played_by members w l t (h.given ++ later) is ∙ ap (with_lines (echo l ++ t.lines)) (h.run later);
  fault = h.fault;
  gave = h.gave;
}

-- the line itself ends the run
pub ended_by_line : {M : Type 0} (allowed : M → List Answer → Type 0) (xs : List (Option M)) (members : ℕ) (w : World) (l : Line) (f : Fault) → line members w l ≡ Err f → IsEnded allowed xs xs members w l f
ended_by_line allowed xs members w l f is = record {
  given = [];
  play = stopped w [] f;
  each = refl;
  plays = λ later. ap (λ (r : Result WorldTurn Fault). elim r as (λ _. Play) [ Err g ↦ stopped w later g | Ok t ↦ with_lines (echo l ++ t.lines) (answered later 0 t.world (puts_of t.world t.told)) ]) is;
  fault = refl;
  gave = gave_none allowed xs;
}
