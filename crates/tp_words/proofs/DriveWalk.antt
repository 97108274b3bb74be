-- That clap takes every plain command line of tpdrive, and what it finds there: a walk over its words, two for each setting.
use Rattle.std.proofs.Common.{◌≡◌, ◌∙◌, ℕ, ◌==◌, ◌||◌, Bool, true, false, not, List, [], ◌∷◌, ◌++◌, Some, None, refl, ap, sym, subst, arith, codes}
use Rattle.std.specs.Prelude.{fold, is_some}
use Rattle.std.specs.List.{list_all}
use Rattle.std.specs.Str.{bytes_eq}
use Rattle.std.specs.Fmt.{decimal}
use Rattle.std.proofs.lemmas.Bool.Decides.{nat_tests}
use Rattle.std.proofs.lemmas.Slice.Eq.{bytes_eq-Decides}
use Rattle.clap.specs.Walk.{finished, Row, Rule, Held, Walk, idle, option, walk, walked, walk_from, nothing_held, settled, settled_rows, plain_word, has_row, with_default}
use Rattle.clap.specs.Simple.{Shape, built, entered}
use Rattle.clap.specs.Kinds.{Kinds, or_else}
use Rattle.clap.specs.Faults.{check_fault, entered_fault, walk_fault, turn_fault, settle_fault, defaults_fault, step_fault}
use Rattle.clap.specs.Words.{fault_of, matches_of}
use Rattle.clap.proofs.KindLemmas.{value_kinds-ok}
use Rattle.clap.specs.declared.builder.value_parser.Reading.TheVariants.{AsWritten}
use Rattle.clap.specs.declared.parser.matches.ValueSource.TheVariants.{CommandLine}
use Rattle.tp_words.specs.CommandLine.{number_of}
use Rattle.tp_words.specs.DriveLine.{drive_program, SaidDrive, found_drive}
use Rattle.tp_words.specs.DrivePlain.{DriveSetting, Site, Workers, drive_option, drive_value, drive_typed, is_drive_in_range, is_drive_set, are_drive_apart, IsPlainDrive, drive_default, with_drive, with_drives}
use Rattle.tp_words.proofs.PlainWords.{Begins, not_dashes, no_long, no_short, site_begins, decimal_begins, decimal_in, number_of-decimal}
use Rattle.tp_words.proofs.PlainWalk.{at, walked_plain, find-push, find-none, list_any-push, with_values-missing, both, not_true, no_default}

abbrev top : Shape
top = (built drive_program).top

abbrev rules : List Rule
rules = (built drive_program).top.rules

-- ---- a setting

drive_begins : (s : DriveSetting) → is_drive_in_range s ≡ true → Begins (drive_value s)
drive_begins (Site n) h = site_begins n h
drive_begins (Workers n) h = decimal_begins n (grind (arith, nat_tests))

value_fault : (id : List ℕ) (x : ℕ) (xs : List ℕ) (h : Held) → (x == 45) ≡ false
    → turn_fault top [] (at h (option id) 1) (x ∷ xs) ≡ step_fault top 1 (plain_word rules (option id) (x ∷ xs) h).0 (plain_word rules (option id) (x ∷ xs) h).1
value_fault id x xs h e = rw (not_dashes x xs e, no_long x xs e, no_short x xs e) refl

-- what is held once the option of the setting waits for its value, and once it has it
abbrev waiting_held : Held → DriveSetting → Held
waiting_held h s = record h { rows = settled_rows rules h.pending h.rows; pending = Some (drive_option s, []) }

abbrev valued : Held → DriveSetting → List ℕ → Held
valued h s word = record h { rows = settled_rows rules h.pending h.rows; pending = Some (drive_option s, word ∷ []) }

abbrev next_held : Held → DriveSetting → Held
next_held h s = valued h s (drive_value s)

option_walked : (s : DriveSetting) (h : Held) → walked rules [] (at h idle 1) (45 ∷ 45 ∷ drive_option s) ≡ at (waiting_held h s) (option (drive_option s)) 1
unfolding walked
option_walked (Site n) h = refl
option_walked (Workers n) h = refl

option_passes : (s : DriveSetting) (h : Held) → settle_fault rules false h ≡ [] → turn_fault top [] (at h idle 1) (45 ∷ 45 ∷ drive_option s) ≡ []
option_passes (Site n) h e = ap (λ k. or_else k []) e
option_passes (Workers n) h e = ap (λ k. or_else k []) e

value_walked : (s : DriveSetting) (h : Held) (x : ℕ) (xs : List ℕ) → (x == 45) ≡ false
    → walked rules [] (at (waiting_held h s) (option (drive_option s)) 1) (x ∷ xs) ≡ at (valued h s (x ∷ xs)) idle 1
value_walked (Site n) h x xs e = walked_plain rules (option (codes "name")) 1 x xs _ e
value_walked (Workers n) h x xs e = walked_plain rules (option (codes "workers")) 1 x xs _ e

value_passes : (s : DriveSetting) (h : Held) (x : ℕ) (xs : List ℕ) → (x == 45) ≡ false
    → turn_fault top [] (at (waiting_held h s) (option (drive_option s)) 1) (x ∷ xs) ≡ []
value_passes (Site n) h x xs e = value_fault (codes "name") x xs _ e
value_passes (Workers n) h x xs e = value_fault (codes "workers") x xs _ e

setting_walked : (s : DriveSetting) (h : Held) → Begins (drive_value s)
    → walked rules [] (walked rules [] (at h idle 1) (45 ∷ 45 ∷ drive_option s)) (drive_value s) ≡ at (next_held h s) idle 1
setting_walked s h b =
    let goes : walked rules [] (at (waiting_held h s) (option (drive_option s)) 1) (drive_value s) ≡ at (next_held h s) idle 1 =
    subst (λ v. walked rules [] (at (waiting_held h s) (option (drive_option s)) 1) v ≡ at (valued h s v) idle 1) (sym b.is) (value_walked s h b.first b.rest b.plain) in
    ap (λ w. walked rules [] w (drive_value s)) (option_walked s h) ∙ goes

setting_passes : (s : DriveSetting) (h : Held) (rest : List (List ℕ)) → Begins (drive_value s) → settle_fault rules false h ≡ []
    → walk_fault top [] (at h idle 1) ((45 ∷ 45 ∷ drive_option s) ∷ drive_value s ∷ rest) ≡ walk_fault top [] (at (next_held h s) idle 1) rest
unfolding walk_fault
setting_passes s h rest b e =
    let word : List ℕ = 45 ∷ 45 ∷ drive_option s in
    let value : turn_fault top [] (at (waiting_held h s) (option (drive_option s)) 1) (drive_value s) ≡ [] =
    subst (λ v. turn_fault top [] (at (waiting_held h s) (option (drive_option s)) 1) v ≡ []) (sym b.is) (value_passes s h b.first b.rest b.plain) in
    let second : turn_fault top [] (walked rules [] (at h idle 1) word) (drive_value s) ≡ [] =
    ap (λ w. turn_fault top [] w (drive_value s)) (option_walked s h) ∙ value in
    ap (λ k. or_else k (or_else (turn_fault top [] (walked rules [] (at h idle 1) word) (drive_value s)) (walk_fault top [] (walked rules [] (walked rules [] (at h idle 1) word) (drive_value s)) rest))) (option_passes s h e)
    ∙ ap (λ k. or_else k (walk_fault top [] (walked rules [] (walked rules [] (at h idle 1) word) (drive_value s)) rest)) second
    ∙ ap (λ w. walk_fault top [] w rest) (setting_walked s h b)

-- ---- rows

-- what a setting leaves among the rows
abbrev row_of : DriveSetting → Row
row_of s = record { id = drive_option s; values = drive_value s ∷ []; count = None; source = Some CommandLine; reading = AsWritten }

-- a setting that is used for the first time is the last row
setting_used : (s : DriveSetting) (rows : List Row) → has_row (drive_option s) rows ≡ false → settled_rows rules (Some (drive_option s, drive_value s ∷ [])) rows ≡ rows ++ row_of s ∷ []
setting_used (Site n) rows free = with_values-missing (codes "name") n rows free
setting_used (Workers n) rows free = with_values-missing (codes "workers") (decimal n) rows free

-- and passes, where its value does
setting_fault : (s : DriveSetting) (rows : List Row) → has_row (drive_option s) rows ≡ false → is_drive_in_range s ≡ true
    → settle_fault rules false (record { rows = rows; pending = Some (drive_option s, drive_value s ∷ []); skip = 0 }) ≡ []
setting_fault (Site n) rows free range = rw free refl
setting_fault (Workers n) rows free range = rw (free, value_kinds-ok false _ (decimal n) (decimal_in 1 16 n (grind (arith, nat_tests)) (grind (arith, nat_tests)) (grind (arith, nat_tests)))) refl

-- ---- what is held between settings

-- once the pending value is used, these rows say s, and none is of an option that is still to come
record Holds (h : Held) (rows : List Row) (s : SaidDrive) (rest : List DriveSetting) : Type 0 where
  settles : settled_rows rules h.pending h.rows ≡ rows
  passes : settle_fault rules false h ≡ []
  skips : h.skip ≡ 0
  finds : found_drive rows ≡ s
  free : (o : DriveSetting) → is_drive_set (drive_option o) rest ≡ true → has_row (drive_option o) rows ≡ false

is_own : (o : DriveSetting) (os : List DriveSetting) → is_drive_set (drive_option o) (o ∷ os) ≡ true
is_own (Site n) os = refl
is_own (Workers n) os = refl

-- one setting more says one thing more
found-push : (o : DriveSetting) (rows : List Row) (s : SaidDrive) → has_row (drive_option o) rows ≡ false → is_drive_in_range o ≡ true → found_drive rows ≡ s
    → found_drive (rows ++ row_of o ∷ []) ≡ with_drive s o
found-push (Site n) rows s free range e =
    rw (
      find-none (λ r. bytes_eq r.id (codes "name")) rows (row_of (Site n)) free refl,
      find-push (λ r. bytes_eq r.id (codes "workers")) rows (row_of (Site n)) refl,
    ) (ap (λ t. with_drive t (Site n)) e)
found-push (Workers n) rows s free range e =
    let is : number_of (decimal n) ≡ n = number_of-decimal n (grind (arith, nat_tests)) in
    rw (
      find-push (λ r. bytes_eq r.id (codes "name")) rows (row_of (Workers n)) refl,
      find-none (λ r. bytes_eq r.id (codes "workers")) rows (row_of (Workers n)) free refl,
      is,
    ) (ap (λ t. with_drive t (Workers n)) e)

-- an option that is set later is another one
other : (o p : DriveSetting) (os : List DriveSetting) → is_drive_set (drive_option o) os ≡ false → is_drive_set (drive_option p) os ≡ true → bytes_eq (drive_option o) (drive_option p) ≡ false
other o p os none some = go (bytes_eq (drive_option o) (drive_option p)) refl
  where
    go : (b : Bool) → bytes_eq (drive_option o) (drive_option p) ≡ b → b ≡ false
    go true e =
        let same : drive_option o ≡ drive_option p = (bytes_eq-Decides (drive_option o) (drive_option p)).0 e in
        let n : true ≡ false = sym (subst (λ t. is_drive_set t os ≡ true) (sym same) some) ∙ none in
        cc
    go false e = refl

later : (o p : DriveSetting) (os : List DriveSetting) → is_drive_set (drive_option p) os ≡ true → is_drive_set (drive_option p) (o ∷ os) ≡ true
later o p os set = go (bytes_eq (drive_option o) (drive_option p))
  where
    go : (b : Bool) → (b || is_drive_set (drive_option p) os) ≡ true
    go true = refl
    go false = set

holds_next : (o : DriveSetting) (os : List DriveSetting) (h : Held) (rows : List Row) (s : SaidDrive) → Holds h rows s (o ∷ os)
    → is_drive_in_range o ≡ true → is_drive_set (drive_option o) os ≡ false
    → Holds (next_held h o) (rows ++ row_of o ∷ []) (with_drive s o) os
holds_next o os h rows s now range apart =
    let free : has_row (drive_option o) rows ≡ false = now.free o (is_own o os) in
    let at_rest : next_held h o ≡ record { rows = rows; pending = Some (drive_option o, drive_value o ∷ []); skip = 0 } = rw (now.settles, now.skips) refl in
    record {
      settles = ap (settled_rows rules (Some (drive_option o, drive_value o ∷ []))) now.settles ∙ setting_used o rows free;
      passes = ap (settle_fault rules false) at_rest ∙ setting_fault o rows free range;
      skips = now.skips;
      finds = found-push o rows s free range now.finds;
      free = λ p set. list_any-push (λ r. bytes_eq r.id (drive_option p)) rows (row_of o) (now.free p (later o p os set)) (other o p os apart set);
    }

-- ---- the walk over all settings

record Ends (h : Held) (settings : List DriveSetting) (s : SaidDrive) : Type 0 where
  held : Held
  walks : fold (walked rules []) (at h idle 1) (drive_typed settings) ≡ at held idle 1
  passes : walk_fault top [] (at h idle 1) (drive_typed settings) ≡ []
  rows : List Row
  holds : Holds held rows (with_drives s settings) []

settings_end : (settings : List DriveSetting) (h : Held) (rows : List Row) (s : SaidDrive) → Holds h rows s settings
    → list_all is_drive_in_range settings ≡ true → are_drive_apart settings ≡ true → Ends h settings s
unfolding walk_fault
settings_end [] h rows s now ranges apart = record { held = h; walks = refl; passes = refl; rows = rows; holds = now }
settings_end (o ∷ os) h rows s now ranges apart =
    let r = both (is_drive_in_range o) (list_all is_drive_in_range os) ranges in
    let a = both (not (is_drive_set (drive_option o) os)) (are_drive_apart os) apart in
    let b = drive_begins o r.0 in
    let more = settings_end os (next_held h o) (rows ++ row_of o ∷ []) (with_drive s o) (holds_next o os h rows s now r.0 (not_true _ a.0)) r.1 a.1 in
    record {
      held = more.held;
      walks = ap (λ w. fold (walked rules []) w (drive_typed os)) (setting_walked o h b) ∙ more.walks;
      passes = setting_passes o h (drive_typed os) b now.passes ∙ more.passes;
      rows = more.rows;
      holds = more.holds;
    }

-- ---- the end

-- what a level of the parse comes to, by where its walk ends and what its words come to
abbrev level_on : Walk → Kinds → Kinds
level_on w words = or_else words (or_else (entered_fault (built drive_program) w.stopped)
    (or_else (settle_fault rules false w.held) (or_else (defaults_fault (settled rules w.held).rows rules)
    (check_fault top (finished rules w.held) (is_some (entered (built drive_program) w.stopped))))))

nothing_holds : (settings : List DriveSetting) → Holds nothing_held [] drive_default settings
nothing_holds settings = record { settles = refl; passes = refl; skips = refl; finds = refl; free = λ o set. refl }

-- no option has to be there
none_missing : (rows : List Row) → check_fault top rows false ≡ []
none_missing rows = refl

end_passes : (h : Held) (rows : List Row) (s : SaidDrive) → Holds h rows s []
    → or_else (settle_fault rules false h) (or_else (defaults_fault (settled_rows rules h.pending h.rows) rules) (check_fault top (fold with_default (settled_rows rules h.pending h.rows) rules) false)) ≡ []
end_passes h rows s e =
    let now = settled_rows rules h.pending h.rows in
    let defaults : defaults_fault now rules ≡ [] = ap (λ r. defaults_fault r rules) e.settles ∙ (no_default rules refl rows).1 in
    let check : check_fault top (fold with_default now rules) false ≡ [] = none_missing (fold with_default now rules) in
    ap (λ k. or_else k (or_else (defaults_fault now rules) (check_fault top (fold with_default now rules) false))) e.passes
    ∙ ap (λ k. or_else k (check_fault top (fold with_default now rules) false)) defaults
    ∙ check

-- a plain command line passes, and what is found in it are the rows of its settings
pub record TakesDrive (settings : List DriveSetting) : Type 0 where
  pub passes : fault_of drive_program (drive_typed settings) ≡ []
  pub finds : found_drive (matches_of drive_program (drive_typed settings)) ≡ with_drives drive_default settings

pub drive_taken : (settings : List DriveSetting) → IsPlainDrive settings → TakesDrive settings
unfolding walk_fault
drive_taken settings plain =
    let ends = settings_end settings nothing_held [] drive_default (nothing_holds settings) plain.ranges plain.apart in
    let walks : walk rules [] nothing_held (drive_typed settings) ≡ at ends.held idle 1 = ends.walks in
    let passes : walk_fault top [] (walk_from nothing_held) (drive_typed settings) ≡ [] = ends.passes in
    let none = no_default rules refl ends.rows in
    record {
      passes = ap (λ w. level_on w (walk_fault top [] (walk_from nothing_held) (drive_typed settings))) walks
          ∙ ap (λ k. level_on (at ends.held idle 1) k) passes
          ∙ end_passes ends.held ends.rows _ ends.holds;
      finds = ap (λ w. found_drive (finished rules w.held)) walks
          ∙ ap (λ rows. found_drive (fold with_default rows rules)) ends.holds.settles
          ∙ ap found_drive none.0 ∙ ends.holds.finds;
    }
