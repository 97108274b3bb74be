-- That clap takes every plain command line, and what it finds there: a walk over its words, two for each setting.
use Rattle.std.proofs.Common.{◌≡◌, ◌∙◌, ℕ, ◌==◌, ◌&&◌, ◌||◌, Bool, true, false, not, List, [], ◌∷◌, ◌++◌, Some, None, refl, ap, sym, subst, arith, codes, append-nil}
use Rattle.std.specs.Prelude.{fold, find, is_some}
use Rattle.std.specs.List.{list_any, list_all}
use Rattle.std.specs.Str.{bytes_eq}
use Rattle.std.specs.Fmt.{decimal}
use Rattle.std.proofs.lemmas.Bool.Decides.{nat_tests}
use Rattle.std.proofs.lemmas.Slice.Eq.{bytes_eq-Decides}
use Rattle.clap.specs.Walk.{with_values, without, more_values, finished, Row, Rule, Held, Walk, Waiting, idle, option, positional, walk, walked, walk_from, nothing_held, settled, settled_rows, word_met, plain_word, after_step, at_row, has_row, with_default, is_empty}
use Rattle.clap.specs.Simple.{Shape, built, entered}
use Rattle.clap.specs.Takes.{is_given}
use Rattle.clap.specs.Kinds.{Kinds, or_else}
use Rattle.clap.specs.Faults.{check_fault, entered_fault, walk_fault, turn_fault, settle_fault, defaults_fault, default_fault, step_fault}
use Rattle.clap.specs.Words.{fault_of, matches_of}
use Rattle.clap.proofs.KindLemmas.{value_kinds-ok}
use Rattle.clap.proofs.SimpleLemmas.{is_nil}
use Rattle.clap.specs.declared.builder.value_parser.Reading.TheVariants.{AsWritten}
use Rattle.clap.specs.declared.parser.matches.ValueSource.TheVariants.{CommandLine}
use Rattle.tp_words.specs.CommandLine.{program, Said, alone, found_in, number_of}
use Rattle.tp_words.specs.Plain.{Setting, Name, Number, Nodes, Rounds, option_of, value_of, typed, settings_typed, is_in_range, is_set, are_apart, IsPlain, with_setting, with_settings}
use Rattle.tp_words.proofs.PlainWords.{Begins, not_dashes, no_long, no_short, command_begins, setting_begins, decimal_in, number_of-decimal}

abbrev top : Shape
top = (built program).top

abbrev rules : List Rule
rules = (built program).top.rules

-- ---- one word

abbrev pub at : Held → Waiting → ℕ → Walk
at h waiting position = record { held = h; waiting = waiting; position = position; is_trailing = false; stopped = None }

-- a word that does not begin with a hyphen is no flag
pub plain_met : (c : List Rule) (waiting : Waiting) (position x : ℕ) (xs : List ℕ) (h : Held) → (x == 45) ≡ false
    → word_met c [] false waiting position (x ∷ xs) h ≡ plain_word c waiting (x ∷ xs) h
plain_met c idle position x xs h e = rw (not_dashes x xs e, no_long x xs e, no_short x xs e) refl
plain_met c (option id) position x xs h e = rw (not_dashes x xs e, no_long x xs e, no_short x xs e) refl
plain_met c positional position x xs h e = rw (not_dashes x xs e, no_long x xs e, no_short x xs e) refl

pub walked_plain : (c : List Rule) (waiting : Waiting) (position x : ℕ) (xs : List ℕ) (h : Held) → (x == 45) ≡ false
    → walked c [] (at h waiting position) (x ∷ xs)
    ≡ after_step c (x ∷ xs) (at h waiting position) (plain_word c waiting (x ∷ xs) h).0 (plain_word c waiting (x ∷ xs) h).1
unfolding walked
walked_plain c waiting position x xs h e =
    ap (λ m. after_step c (x ∷ xs) (at h waiting position) m.0 m.1) (plain_met c waiting position x xs h e)

plain_fault : (waiting : Waiting) (position x : ℕ) (xs : List ℕ) (h : Held) → (x == 45) ≡ false
    → turn_fault top [] (at h waiting position) (x ∷ xs) ≡ step_fault top position (plain_word rules waiting (x ∷ xs) h).0 (plain_word rules waiting (x ∷ xs) h).1
plain_fault idle position x xs h e = rw (not_dashes x xs e, no_long x xs e, no_short x xs e) refl
plain_fault (option id) position x xs h e = rw (not_dashes x xs e, no_long x xs e, no_short x xs e) refl
plain_fault positional position x xs h e = rw (not_dashes x xs e, no_long x xs e, no_short x xs e) refl

-- ---- the word of the command

abbrev first_held : List ℕ → Held
first_held word = record { rows = []; pending = Some (codes "command", word ∷ []); skip = 0 }

command_walked : (x : ℕ) (xs : List ℕ) → (x == 45) ≡ false → walked rules [] (walk_from nothing_held) (x ∷ xs) ≡ at (first_held (x ∷ xs)) idle 2
command_walked x xs e = walked_plain rules idle 1 x xs nothing_held e

command_passes : (x : ℕ) (xs : List ℕ) → (x == 45) ≡ false → turn_fault top [] (walk_from nothing_held) (x ∷ xs) ≡ []
command_passes x xs e = plain_fault idle 1 x xs nothing_held e

-- ---- a setting

-- what is held once the option of the setting waits for its value, and once it has it
abbrev waiting_held : Held → Setting → Held
waiting_held h s = record h { rows = settled_rows rules h.pending h.rows; pending = Some (option_of s, []) }

abbrev next_held : Held → Setting → Held
next_held h s = record h { rows = settled_rows rules h.pending h.rows; pending = Some (option_of s, value_of s ∷ []) }

option_walked : (s : Setting) (h : Held) → walked rules [] (at h idle 2) (45 ∷ 45 ∷ option_of s) ≡ at (waiting_held h s) (option (option_of s)) 2
unfolding walked
option_walked (Name n) h = refl
option_walked (Number n) h = refl
option_walked (Nodes n) h = refl
option_walked (Rounds n) h = refl

option_passes : (s : Setting) (h : Held) → settle_fault rules false h ≡ [] → turn_fault top [] (at h idle 2) (45 ∷ 45 ∷ option_of s) ≡ []
option_passes (Name n) h e = ap (λ k. or_else k []) e
option_passes (Number n) h e = ap (λ k. or_else k []) e
option_passes (Nodes n) h e = ap (λ k. or_else k []) e
option_passes (Rounds n) h e = ap (λ k. or_else k []) e

abbrev valued : Held → Setting → List ℕ → Held
valued h s word = record h { rows = settled_rows rules h.pending h.rows; pending = Some (option_of s, word ∷ []) }

value_walked : (s : Setting) (h : Held) (x : ℕ) (xs : List ℕ) → (x == 45) ≡ false
    → walked rules [] (at (waiting_held h s) (option (option_of s)) 2) (x ∷ xs) ≡ at (valued h s (x ∷ xs)) idle 2
value_walked (Name n) h x xs e = walked_plain rules (option (codes "name")) 2 x xs _ e
value_walked (Number n) h x xs e = walked_plain rules (option (codes "number")) 2 x xs _ e
value_walked (Nodes n) h x xs e = walked_plain rules (option (codes "nodes")) 2 x xs _ e
value_walked (Rounds n) h x xs e = walked_plain rules (option (codes "rounds")) 2 x xs _ e

value_passes : (s : Setting) (h : Held) (x : ℕ) (xs : List ℕ) → (x == 45) ≡ false
    → turn_fault top [] (at (waiting_held h s) (option (option_of s)) 2) (x ∷ xs) ≡ []
value_passes (Name n) h x xs e = plain_fault (option (codes "name")) 2 x xs _ e
value_passes (Number n) h x xs e = plain_fault (option (codes "number")) 2 x xs _ e
value_passes (Nodes n) h x xs e = plain_fault (option (codes "nodes")) 2 x xs _ e
value_passes (Rounds n) h x xs e = plain_fault (option (codes "rounds")) 2 x xs _ e

setting_walked : (s : Setting) (h : Held) → Begins (value_of s)
    → walked rules [] (walked rules [] (at h idle 2) (45 ∷ 45 ∷ option_of s)) (value_of s) ≡ at (next_held h s) idle 2
setting_walked s h b =
    let goes : walked rules [] (at (waiting_held h s) (option (option_of s)) 2) (value_of s) ≡ at (next_held h s) idle 2 =
    subst (λ v. walked rules [] (at (waiting_held h s) (option (option_of s)) 2) v ≡ at (valued h s v) idle 2) (sym b.is) (value_walked s h b.first b.rest b.plain) in
    ap (λ w. walked rules [] w (value_of s)) (option_walked s h) ∙ goes

pub setting_passes : (s : Setting) (h : Held) (rest : List (List ℕ)) → Begins (value_of s) → settle_fault rules false h ≡ []
    → walk_fault top [] (at h idle 2) (typed s rest) ≡ walk_fault top [] (at (next_held h s) idle 2) rest
unfolding walk_fault
setting_passes s h rest b e =
    let word : List ℕ = 45 ∷ 45 ∷ option_of s in
    let value : turn_fault top [] (at (waiting_held h s) (option (option_of s)) 2) (value_of s) ≡ [] =
    subst (λ v. turn_fault top [] (at (waiting_held h s) (option (option_of s)) 2) v ≡ []) (sym b.is) (value_passes s h b.first b.rest b.plain) in
    let second : turn_fault top [] (walked rules [] (at h idle 2) word) (value_of s) ≡ [] =
    ap (λ w. turn_fault top [] w (value_of s)) (option_walked s h) ∙ value in
    ap (λ k. or_else k (or_else (turn_fault top [] (walked rules [] (at h idle 2) word) (value_of s)) (walk_fault top [] (walked rules [] (walked rules [] (at h idle 2) word) (value_of s)) rest))) (option_passes s h e)
    ∙ ap (λ k. or_else k (walk_fault top [] (walked rules [] (walked rules [] (at h idle 2) word) (value_of s)) rest)) second
    ∙ ap (λ w. walk_fault top [] w rest) (setting_walked s h b)

-- ---- rows

-- what a setting leaves among the rows
abbrev row_of : Setting → Row
row_of s = record { id = option_of s; values = value_of s ∷ []; count = None; source = Some CommandLine; reading = AsWritten }

pub at_row-missing : (id : List ℕ) (change : Row → List Row) (missing rows : List Row) → has_row id rows ≡ false → at_row id change missing rows ≡ rows ++ missing
at_row-missing id change missing [] h = refl
at_row-missing id change missing (r ∷ rs) h = go (bytes_eq r.id id) refl (at_row-missing id change missing rs)
  where
    go : (b : Bool) → bytes_eq r.id id ≡ b → (has_row id rs ≡ false → at_row id change missing rs ≡ rs ++ missing)
        → at_row id change missing (r ∷ rs) ≡ r ∷ rs ++ missing
    go true e more = let n : true ≡ false = rw e at h in cc
    go false e more = rw e (ap (λ xs. r ∷ xs) (more (rw e at h)))

-- the first row that passes the test, with one row more at the end
pub find-push : (p : Row → Bool) (rows : List Row) (r : Row) → p r ≡ false → find p (rows ++ r ∷ []) ≡ find p rows
find-push p [] r misses = rw misses refl
find-push p (x ∷ xs) r misses = go (p x) refl (find-push p xs r misses)
  where
    go : (b : Bool) → p x ≡ b → find p (xs ++ r ∷ []) ≡ find p xs → find p (x ∷ xs ++ r ∷ []) ≡ find p (x ∷ xs)
    go true e more = rw e refl
    go false e more = rw e more

pub find-none : (p : Row → Bool) (rows : List Row) (r : Row) → list_any p rows ≡ false → p r ≡ true → find p (rows ++ r ∷ []) ≡ Some r
find-none p [] r none passes = rw passes refl
find-none p (x ∷ xs) r none passes = go (p x) refl (λ h. find-none p xs r h passes)
  where
    go : (b : Bool) → p x ≡ b → (list_any p xs ≡ false → find p (xs ++ r ∷ []) ≡ Some r) → find p (x ∷ xs ++ r ∷ []) ≡ Some r
    go true e more = let n : true ≡ false = rw e at none in cc
    go false e more = rw e (more (rw e at none))

pub list_any-push : (p : Row → Bool) (rows : List Row) (r : Row) → list_any p rows ≡ false → p r ≡ false → list_any p (rows ++ r ∷ []) ≡ false
list_any-push p [] r none misses = rw misses refl
list_any-push p (x ∷ xs) r none misses = go (p x) refl (λ h. list_any-push p xs r h misses)
  where
    go : (b : Bool) → p x ≡ b → (list_any p xs ≡ false → list_any p (xs ++ r ∷ []) ≡ false) → list_any p (x ∷ xs ++ r ∷ []) ≡ false
    go true e more = let n : true ≡ false = rw e at none in cc
    go false e more = rw e (more (rw e at none))

-- values of an option that has no row yet are a row at the end
pub with_values-missing : (id : List ℕ) (v : List ℕ) (rows : List Row) → has_row id rows ≡ false
    → with_values id AsWritten CommandLine (v ∷ []) (without id rows)
    ≡ rows ++ record { id = id; values = v ∷ []; count = None; source = Some CommandLine; reading = AsWritten } ∷ []
with_values-missing id v rows free =
    let none : without id rows ≡ rows = at_row-missing id (λ _. []) [] rows free ∙ append-nil rows in
    ap (with_values id AsWritten CommandLine (v ∷ [])) none
    ∙ at_row-missing id (more_values CommandLine (v ∷ [])) (record { id = id; values = v ∷ []; count = None; source = Some CommandLine; reading = AsWritten } ∷ []) rows free

-- a setting that is used for the first time is the last row
setting_used : (s : Setting) (rows : List Row) → has_row (option_of s) rows ≡ false → settled_rows rules (Some (option_of s, value_of s ∷ [])) rows ≡ rows ++ row_of s ∷ []
setting_used (Name n) rows free = with_values-missing (codes "name") (n) rows free
setting_used (Number n) rows free = with_values-missing (codes "number") (decimal n) rows free
setting_used (Nodes n) rows free = with_values-missing (codes "nodes") (decimal n) rows free
setting_used (Rounds n) rows free = with_values-missing (codes "rounds") (decimal n) rows free

-- and passes, where its value does
setting_fault : (s : Setting) (rows : List Row) → has_row (option_of s) rows ≡ false → is_in_range s ≡ true
    → settle_fault rules false (record { rows = rows; pending = Some (option_of s, value_of s ∷ []); skip = 0 }) ≡ []
setting_fault (Name n) rows free range = rw free refl
setting_fault (Number n) rows free range = rw (free, value_kinds-ok false _ (decimal n) (decimal_in 0 18446744073709551615 n (omega arith) (grind (arith, nat_tests)) (grind (arith, nat_tests)))) refl
setting_fault (Nodes n) rows free range = rw (free, value_kinds-ok false _ (decimal n) (decimal_in 2 256 n (grind (arith, nat_tests)) (grind (arith, nat_tests)) (grind (arith, nat_tests)))) refl
setting_fault (Rounds n) rows free range = rw (free, value_kinds-ok false _ (decimal n) (decimal_in 1 30 n (grind (arith, nat_tests)) (grind (arith, nat_tests)) (grind (arith, nat_tests)))) refl

-- ---- what is held between settings

-- once the pending value is used, these rows say s, and none is of an option that is still to come
record Holds (h : Held) (rows : List Row) (s : Said) (rest : List Setting) : Type 0 where
  settles : settled_rows rules h.pending h.rows ≡ rows
  passes : settle_fault rules false h ≡ []
  skips : h.skip ≡ 0
  finds : found_in rows ≡ s
  free : (o : Setting) → is_set (option_of o) rest ≡ true → has_row (option_of o) rows ≡ false
  given : is_given (codes "command") rows ≡ true

is_own : (o : Setting) (os : List Setting) → is_set (option_of o) (o ∷ os) ≡ true
is_own (Name n) os = refl
is_own (Number n) os = refl
is_own (Nodes n) os = refl
is_own (Rounds n) os = refl

-- one setting more says one thing more
found-push : (o : Setting) (rows : List Row) (s : Said) → has_row (option_of o) rows ≡ false → is_in_range o ≡ true → found_in rows ≡ s
    → found_in (rows ++ row_of o ∷ []) ≡ with_setting s o
found-push (Name n) rows s free range e =
    rw (
      find-push (λ r. bytes_eq r.id (codes "command")) rows (row_of (Name n)) refl,
      find-none (λ r. bytes_eq r.id (codes "name")) rows (row_of (Name n)) free refl,
      find-push (λ r. bytes_eq r.id (codes "number")) rows (row_of (Name n)) refl,
      find-push (λ r. bytes_eq r.id (codes "nodes")) rows (row_of (Name n)) refl,
      find-push (λ r. bytes_eq r.id (codes "rounds")) rows (row_of (Name n)) refl,
    ) (ap (λ t. with_setting t (Name n)) e)
found-push (Number n) rows s free range e =
    let is : number_of (decimal n) ≡ n = number_of-decimal n (grind (arith, nat_tests)) in
    rw (
      find-push (λ r. bytes_eq r.id (codes "command")) rows (row_of (Number n)) refl,
      find-push (λ r. bytes_eq r.id (codes "name")) rows (row_of (Number n)) refl,
      find-none (λ r. bytes_eq r.id (codes "number")) rows (row_of (Number n)) free refl,
      find-push (λ r. bytes_eq r.id (codes "nodes")) rows (row_of (Number n)) refl,
      find-push (λ r. bytes_eq r.id (codes "rounds")) rows (row_of (Number n)) refl,
      is,
    ) (ap (λ t. with_setting t (Number n)) e)
found-push (Nodes n) rows s free range e =
    let is : number_of (decimal n) ≡ n = number_of-decimal n (grind (arith, nat_tests)) in
    rw (
      find-push (λ r. bytes_eq r.id (codes "command")) rows (row_of (Nodes n)) refl,
      find-push (λ r. bytes_eq r.id (codes "name")) rows (row_of (Nodes n)) refl,
      find-push (λ r. bytes_eq r.id (codes "number")) rows (row_of (Nodes n)) refl,
      find-none (λ r. bytes_eq r.id (codes "nodes")) rows (row_of (Nodes n)) free refl,
      find-push (λ r. bytes_eq r.id (codes "rounds")) rows (row_of (Nodes n)) refl,
      is,
    ) (ap (λ t. with_setting t (Nodes n)) e)
found-push (Rounds n) rows s free range e =
    let is : number_of (decimal n) ≡ n = number_of-decimal n (grind (arith, nat_tests)) in
    rw (
      find-push (λ r. bytes_eq r.id (codes "command")) rows (row_of (Rounds n)) refl,
      find-push (λ r. bytes_eq r.id (codes "name")) rows (row_of (Rounds n)) refl,
      find-push (λ r. bytes_eq r.id (codes "number")) rows (row_of (Rounds n)) refl,
      find-push (λ r. bytes_eq r.id (codes "nodes")) rows (row_of (Rounds n)) refl,
      find-none (λ r. bytes_eq r.id (codes "rounds")) rows (row_of (Rounds n)) free refl,
      is,
    ) (ap (λ t. with_setting t (Rounds n)) e)

given-push : (o : Setting) (rows : List Row) → is_given (codes "command") rows ≡ true → is_given (codes "command") (rows ++ row_of o ∷ []) ≡ true
given-push (Name n) rows h = rw (find-push (λ r. bytes_eq r.id (codes "command")) rows (row_of (Name n)) refl) h
given-push (Number n) rows h = rw (find-push (λ r. bytes_eq r.id (codes "command")) rows (row_of (Number n)) refl) h
given-push (Nodes n) rows h = rw (find-push (λ r. bytes_eq r.id (codes "command")) rows (row_of (Nodes n)) refl) h
given-push (Rounds n) rows h = rw (find-push (λ r. bytes_eq r.id (codes "command")) rows (row_of (Rounds n)) refl) h

-- an option that is set later is another one
other : (o p : Setting) (os : List Setting) → is_set (option_of o) os ≡ false → is_set (option_of p) os ≡ true → bytes_eq (option_of o) (option_of p) ≡ false
other o p os none some = go (bytes_eq (option_of o) (option_of p)) refl
  where
    go : (b : Bool) → bytes_eq (option_of o) (option_of p) ≡ b → b ≡ false
    go true e =
        let same : option_of o ≡ option_of p = (bytes_eq-Decides (option_of o) (option_of p)).0 e in
        let n : true ≡ false = sym (subst (λ t. is_set t os ≡ true) (sym same) some) ∙ none in
        cc
    go false e = refl

later : (o p : Setting) (os : List Setting) → is_set (option_of p) os ≡ true → is_set (option_of p) (o ∷ os) ≡ true
later o p os set = go (bytes_eq (option_of o) (option_of p))
  where
    go : (b : Bool) → (b || is_set (option_of p) os) ≡ true
    go true = refl
    go false = set

holds_next : (o : Setting) (os : List Setting) (h : Held) (rows : List Row) (s : Said) → Holds h rows s (o ∷ os)
    → is_in_range o ≡ true → is_set (option_of o) os ≡ false
    → Holds (next_held h o) (rows ++ row_of o ∷ []) (with_setting s o) os
holds_next o os h rows s now range apart =
    let free : has_row (option_of o) rows ≡ false = now.free o (is_own o os) in
    let at_rest : next_held h o ≡ record { rows = rows; pending = Some (option_of o, value_of o ∷ []); skip = 0 } = rw (now.settles, now.skips) refl in
    record {
      settles = ap (settled_rows rules (Some (option_of o, value_of o ∷ []))) now.settles ∙ setting_used o rows free;
      passes = ap (settle_fault rules false) at_rest ∙ setting_fault o rows free range;
      skips = now.skips;
      finds = found-push o rows s free range now.finds;
      free = λ p set. list_any-push (λ r. bytes_eq r.id (option_of p)) rows (row_of o) (now.free p (later o p os set)) (other o p os apart set);
      given = given-push o rows now.given;
    }

-- ---- the walk over all settings

record Ends (h : Held) (settings : List Setting) (s : Said) : Type 0 where
  held : Held
  walks : fold (walked rules []) (at h idle 2) (settings_typed settings) ≡ at held idle 2
  passes : walk_fault top [] (at h idle 2) (settings_typed settings) ≡ []
  rows : List Row
  holds : Holds held rows (with_settings s settings) []

pub both : (a b : Bool) → (a && b) ≡ true → (a ≡ true) × (b ≡ true)
both true b h = (refl, h)
both false b h = let n : false ≡ true = h in cc

pub not_true : (a : Bool) → not a ≡ true → a ≡ false
not_true true h = let n : false ≡ true = h in cc
not_true false h = refl

settings_end : (settings : List Setting) (h : Held) (rows : List Row) (s : Said) → Holds h rows s settings
    → list_all is_in_range settings ≡ true → are_apart settings ≡ true → Ends h settings s
unfolding walk_fault
settings_end [] h rows s now ranges apart = record { held = h; walks = refl; passes = refl; rows = rows; holds = now }
settings_end (o ∷ os) h rows s now ranges apart =
    let r = both (is_in_range o) (list_all is_in_range os) ranges in
    let a = both (not (is_set (option_of o) os)) (are_apart os) apart in
    let b = setting_begins o r.0 in
    let more = settings_end os (next_held h o) (rows ++ row_of o ∷ []) (with_setting s o) (holds_next o os h rows s now r.0 (not_true _ a.0)) r.1 a.1 in
    record {
      held = more.held;
      walks = ap (λ w. fold (walked rules []) w (settings_typed os)) (setting_walked o h b) ∙ more.walks;
      passes = setting_passes o h (settings_typed os) b now.passes ∙ more.passes;
      rows = more.rows;
      holds = more.holds;
    }

-- ---- the end

-- rules without defaults leave the rows as they are
pub no_default : (rs : List Rule) → list_all (λ a. is_empty a.defaults) rs ≡ true → (rows : List Row)
    → (fold with_default rows rs ≡ rows) × (defaults_fault rows rs ≡ [])
unfolding defaults_fault
no_default [] h rows = (refl, refl)
no_default (a ∷ rs) h rows =
    let e = both (is_empty a.defaults) (list_all (λ r. is_empty r.defaults) rs) h in
    go (is_nil a.defaults e.0) (no_default rs e.1 rows) (has_row a.id rows) refl
  where
    go : a.defaults ≡ [] → (fold with_default rows rs ≡ rows) × (defaults_fault rows rs ≡ []) → (b : Bool) → has_row a.id rows ≡ b
        → (fold with_default (with_default rows a) rs ≡ rows) × (or_else (default_fault rows a) (defaults_fault (with_default rows a) rs) ≡ [])
    go d more true b = rw (d, b) more
    go d more false b = rw (d, b) more

-- what a level of the parse comes to, by where its walk ends and what its words come to
abbrev level_on : Walk → Kinds → Kinds
level_on w words = or_else words (or_else (entered_fault (built program) w.stopped)
    (or_else (settle_fault rules false w.held) (or_else (defaults_fault (settled rules w.held).rows rules)
    (check_fault top (finished rules w.held) (is_some (entered (built program) w.stopped))))))

abbrev command_row : List ℕ → Row
command_row word = record { id = codes "command"; values = word ∷ []; count = None; source = Some CommandLine; reading = AsWritten }

-- a plain command line passes, and what is found in it are the rows of its settings
pub record Takes (words : List (List ℕ)) (s : Said) : Type 0 where
  pub passes : fault_of program words ≡ []
  pub finds : found_in (matches_of program words) ≡ s

command_holds : (word : List ℕ) (settings : List Setting) → Holds (first_held word) (command_row word ∷ []) (alone word) settings
command_holds word settings = record {
  settles = refl;
  passes = refl;
  skips = refl;
  finds = refl;
  free = λ o set. new o;
  given = refl;
}
  where
    new : (o : Setting) → has_row (option_of o) (command_row word ∷ []) ≡ false
    new (Name n) = refl
    new (Number n) = refl
    new (Nodes n) = refl
    new (Rounds n) = refl

end_passes : (h : Held) (rows : List Row) (s : Said) → Holds h rows s []
    → or_else (settle_fault rules false h) (or_else (defaults_fault (settled_rows rules h.pending h.rows) rules) (check_fault top (fold with_default (settled_rows rules h.pending h.rows) rules) false)) ≡ []
end_passes h rows s e =
    let none = no_default rules refl rows in
    rw (e.passes, e.settles, none.0, none.1, e.given) refl

pub plain_taken : (word : List ℕ) (settings : List Setting) → IsPlain word settings → Takes (word ∷ settings_typed settings) (with_settings (alone word) settings)
unfolding walk_fault
plain_taken word settings plain =
    let b = command_begins word plain.command in
    let ends = settings_end settings (first_held word) (command_row word ∷ []) (alone word) (command_holds word settings) plain.ranges plain.apart in
    let first : walked rules [] (walk_from nothing_held) word ≡ at (first_held word) idle 2 =
    subst (λ w. walked rules [] (walk_from nothing_held) w ≡ at (first_held w) idle 2) (sym b.is) (command_walked b.first b.rest b.plain) in
    let first_passes : turn_fault top [] (walk_from nothing_held) word ≡ [] =
    subst (λ w. turn_fault top [] (walk_from nothing_held) w ≡ []) (sym b.is) (command_passes b.first b.rest b.plain) in
    let walks : walk rules [] nothing_held (word ∷ settings_typed settings) ≡ at ends.held idle 2 =
    ap (λ w. fold (walked rules []) w (settings_typed settings)) first ∙ ends.walks in
    let passes : walk_fault top [] (walk_from nothing_held) (word ∷ settings_typed settings) ≡ [] =
    ap (λ k. or_else k (walk_fault top [] (walked rules [] (walk_from nothing_held) word) (settings_typed settings))) first_passes
    ∙ ap (λ w. walk_fault top [] w (settings_typed settings)) first ∙ ends.passes in
    let none = no_default rules refl ends.rows in
    record {
      passes = ap (λ w. level_on w (walk_fault top [] (walk_from nothing_held) (word ∷ settings_typed settings))) walks
          ∙ ap (λ k. level_on (at ends.held idle 2) k) passes
          ∙ end_passes ends.held ends.rows _ ends.holds;
      finds = ap (λ w. found_in (finished rules w.held)) walks
          ∙ ap (λ rows. found_in (fold with_default rows rules)) ends.holds.settles
          ∙ ap found_in none.0 ∙ ends.holds.finds;
    }
