-- The forms of lines of a schedule as they are read: a request of a node, a node, a stop, a whole line.
use Rattle.std.proofs.Common.{◌≡◌, ℕ, Bool, true, false, Some, Result, Ok, Err, List, [], ◌∷◌, refl, ap, ◌∙◌, ◌==◌, ◌≤◌, length, codes, arith}
use Rattle.std.specs.Prelude.{◌&&◌, nat_lt, IfSome}
use Rattle.std.proofs.lemmas.Bool.Decides.{nat_tests}
use Rattle.tp_names.specs.Same.{is_name}
use Rattle.tp_model.specs.declared.line.LineRequest.{LineRequest}
use Rattle.tp_model.specs.declared.line.Action.{Action}
use Rattle.tp_model.specs.declared.line.Line.{Line}
use Rattle.tp_model.specs.LineReading.{Form, Wrong, Outside, Well, Reading, Blank, Faulty, says, words_in, read_words, is_comment, line_readers, node_under, crash_in, crash_from, site, number_in, fill, action_readers, with, both, three, do_from, number, read_line, read_by, request_readers}
use Rattle.tp_model.specs.declared.verdict.Why.{Why}
use Rattle.tp_schedule.specs.declared.line_fault.LineFault.{LineFault}
use Rattle.tp_schedule.specs.Answers.{Reads, answered, pair}
use Rattle.tp_schedule.proofs.lemmas.Readings.{mapped, well, wrong, outside, not_long, both_form, three_form}

-- ---- a request of a node

pub do_form : {A : Type 0} → (f : ℕ → LineRequest → A) (ws : List (List ℕ)) → do_from f ws ≡ with (λ (p : ℕ × LineRequest). f p.0 p.1) (do_from pair ws)
do_form f [] = refl
do_form f (n ∷ ws) = both_form f (number n) (read_by request_readers ws)

-- ---- nodes and stops

pub under_form : (n s p : List ℕ) → node_under n s p ≡ with (λ (q : (ℕ × List ℕ) × ℕ). Line.Node q.0.0 q.0.1 (Some q.1)) (both pair (both pair (number n) (site s)) (number p))
under_form n s p = three_form (λ m t q. Line.Node m t (Some q)) (number n) (site s) (number p)

action_form : (t : Form (List ℕ)) (j y : Form ℕ) (l : Form Action)
    → both (λ (g : Action → Line) m. g m) (three (λ a b c. Line.CrashIn a b c) t j y) l
    ≡ with (λ (q : (((List ℕ × ℕ) × ℕ) × Action)). Line.CrashIn q.0.0.0 q.0.0.1 q.0.1 q.1) (both pair (both pair (both pair t j) y) l)
action_form t j y l =
    ap (λ (z : Form (Action → Line)). both (λ (g : Action → Line) m. g m) z l) (three_form (λ a b c. Line.CrashIn a b c) t j y)
    ∙ go (both pair (both pair t j) y) l
  where
    go : (z : Form ((List ℕ × ℕ) × ℕ)) (m : Form Action)
        → both (λ (g : Action → Line) k. g k) (with (λ (p : (List ℕ × ℕ) × ℕ). Line.CrashIn p.0.0 p.0.1 p.1) z) m
        ≡ with (λ (q : (((List ℕ × ℕ) × ℕ) × Action)). Line.CrashIn q.0.0.0 q.0.0.1 q.0.1 q.1) (both pair z m)
    go Wrong m = refl
    go Outside Wrong = refl
    go Outside Outside = refl
    go Outside (Well k) = refl
    go (Well z) Wrong = refl
    go (Well z) Outside = refl
    go (Well z) (Well k) = refl

pub crash_in_form : (s k x : List ℕ) (ws : List (List ℕ))
    → crash_in s k x ws
    ≡ with (λ (q : (((List ℕ × ℕ) × ℕ) × Action)). Line.CrashIn q.0.0.0 q.0.0.1 q.0.1 q.1) (both pair (both pair (both pair (site s) (number_in 1 99 k)) (fill x)) (read_by action_readers ws))
crash_in_form s k x ws = action_form (site s) (number_in 1 99 k) (fill x) (read_by action_readers ws)

name_turned : (v w : List ℕ) → is_name v w ≡ is_name w v
name_turned [] [] = refl
name_turned [] (y ∷ ys) = refl
name_turned (x ∷ xs) [] = refl
name_turned (x ∷ xs) (y ∷ ys) = ap (λ (b : Bool). b && is_name xs ys) (eq_turned x y) ∙ ap (λ (b : Bool). (y == x) && b) (name_turned xs ys)
  where
    eq_turned : (a b : ℕ) → (a == b) ≡ (b == a)
    eq_turned a b = grind (arith, nat_tests)

pub crash_found : (bs s a k f x i : List ℕ) (ws : List (List ℕ)) → words_in bs ≡ s ∷ a ∷ k ∷ f ∷ x ∷ i ∷ ws
    → is_name (codes "at") a ≡ true → is_name (codes "fill") f ≡ true → is_name (codes "in") i ≡ true
    → crash_from (words_in bs) ≡ crash_in s k x ws
crash_found bs s a k f x i ws is at_is fill_is in_is =
    ap crash_from is ∙ ap (λ (b : Bool). elim b as (λ _. Form Line) [ true ↦ crash_in s k x ws | false ↦ Wrong ]) tests
  where
    tests : (is_name a (codes "at") && is_name f (codes "fill") && is_name i (codes "in")) ≡ true
    tests = rw (name_turned a (codes "at"), at_is, name_turned f (codes "fill"), fill_is, name_turned i (codes "in"), in_is) refl

-- ---- a line

short_enough : (n : ℕ) → n ≤ 8192 → nat_lt 8192 n ≡ false
short_enough n small = grind (arith, nat_tests)

pub line_said : (bs w : List ℕ) (ws : List (List ℕ)) (r : Result Line LineFault)
    → length bs ≤ 8192 → is_comment bs ≡ false → words_in bs ≡ w ∷ ws → Reads (read_by line_readers (w ∷ ws)) r
    → IfSome (answered (mapped Some r)) (λ reading. reading ≡ read_line bs)
line_said bs w ws r small plain_line is reads =
    let e : read_line bs ≡ says (read_by line_readers (w ∷ ws)) =
    ap (λ (b : Bool). elim b as (λ _. Reading) [ true ↦ Faulty Why.Long | false ↦ elim (is_comment bs) as (λ _. Reading) [ true ↦ Blank | false ↦ read_words (words_in bs) ] ]) (short_enough (length bs) small)
    ∙ ap (λ (b : Bool). elim b as (λ _. Reading) [ true ↦ Blank | false ↦ read_words (words_in bs) ]) plain_line
    ∙ ap read_words is in
    rw e (go (read_by line_readers (w ∷ ws)) r reads)
  where
    go : (x : Form Line) (s : Result Line LineFault) → Reads x s → IfSome (answered (mapped Some s)) (λ reading. reading ≡ says x)
    go x (Ok l) reads = rw (well x l reads) refl
    go x (Err LineFault.Long) reads = absurd (not_long x reads)
    go x (Err LineFault.Word) reads = rw (wrong x reads) refl
    go x (Err LineFault.Number) reads = rw (outside x reads) refl
    go x (Err LineFault.NoMemory) reads = tt
