-- That an option of whole numbers has one in its range wherever clap found a value of it.
use Rattle.std.proofs.Common.{◌≡◌, ◌∙◌, ◌⊎◌, inl, inr, ◌<◌, ℕ, zero, suc, Bool, true, false, List, [], ◌∷◌, length, map, Option, Some, None, refl, ap, sym, subst, arith, codes}
use Rattle.std.specs.Prelude.{option_map, unwrap_or, slice_get, Result, Ok, Err, IfOk, filter}
use Rattle.std.specs.List.{All, slice_index_or}
use Rattle.std.specs.Str.{bytes_eq}
use Rattle.std.specs.Borrow.{Bor}
use Rattle.std.proofs.lemmas.List.Elements.{All-get_or}
use Rattle.std.proofs.lemmas.Slice.Eq.{bytes_eq-Decides}
use Rattle.clap.specs.Facts.{Entry, EntryPasses, ValuesPass, PassesArg, HasReading, args_of, groups_of, parser_of_value, IsParsed}
use Rattle.clap.specs.Kinds.{Kinds, FailsBy}
use Rattle.clap.specs.Built.{BuildsTo, BuildsOrBreaks, is_broken}
use Rattle.clap.specs.Values.{Accepts, IsUnsignedIn, read_as, reading_of, kind_of}
use Rattle.clap.specs.Walk.{Rule, rule_of, rows_of}
use Rattle.clap.specs.Simple.{App, app_of, built, is_buildable, is_simple, matches_of, HasMatchesOf}
use Rattle.clap.specs.Matches.{matched_of, one_text, found_of, has_subcommand}
use Rattle.clap.proofs.CallerLemmas.{entry_by_id}
use Rattle.clap.proofs.SimpleLemmas.{plain_fields}
use Rattle.clap.specs.declared.builder.arg.Arg.{Arg}
use Rattle.clap.specs.declared.builder.command.Command.{Command}
use Rattle.clap.specs.declared.builder.command.Command.TheViews.{out-Command}
use Rattle.clap.specs.declared.builder.value_parser.Reading.{Reading}
use Rattle.clap.specs.declared.builder.value_parser.Reading.TheVariants.{AsWritten}
use Rattle.clap.specs.declared.builder.value_parser.ValueParser.TheVariants.{Unsigned}
use Rattle.clap.specs.declared.error.Error.{Error}
use Rattle.clap.specs.declared.error.kind.ErrorKind.TheVariants.{OutOfMemory}
use Rattle.std.specs.Result.{IsErrAnd}
use Rattle.clap.specs.declared.parser.matches.ArgMatches.{ArgMatches}
use Rattle.clap.specs.declared.parser.matches.Found.{Found}
use Rattle.clap.specs.declared.parser.matches.MatchedArg.{MatchedArg}
use Rattle.tp_words.specs.CommandLine.{program, command_rule}
use Rattle.tp_words.specs.Given.{IsNumberIn, HoldsNumbers}
use Rattle.tp_words.specs.DriveLine.{drive_program}

-- ---- rules with one name

abbrev AnyOf : (Rule → Type 0) → List Rule → Type 0
AnyOf Q [] = ⊥
AnyOf Q (r ∷ rs) = Q r ⊎ AnyOf Q rs

of_rules : (Q : Rule → Type 0) (xs : List Arg) (k : ℕ) (x : Arg) → k < length xs → slice_index_or xs k x ≡ x → Q (rule_of x) → AnyOf Q (map rule_of xs)
of_rules Q [] k x lt is q = absurd (omega arith)
of_rules Q (a ∷ rest) zero x lt is q = inl (subst (λ (y : Arg). Q (rule_of y)) (sym is) q)
of_rules Q (a ∷ rest) (suc k) x lt is q = inr (of_rules Q rest k x (omega arith) is q)

-- of the rules with this name, one has the fact
of_name : (Q : Rule → Type 0) (id : List ℕ) (rs : List Rule) → AnyOf (λ r. (bytes_eq r.id id ≡ true) × Q r) rs → AnyOf Q (filter (λ r. bytes_eq r.id id) rs)
of_name Q id [] h = h
of_name Q id (r ∷ rs) h = go (bytes_eq r.id id) refl h (of_name Q id rs)
  where
    go : (b : Bool) → bytes_eq r.id id ≡ b → ((bytes_eq r.id id ≡ true) × Q r) ⊎ AnyOf (λ r. (bytes_eq r.id id ≡ true) × Q r) rs
        → (AnyOf (λ r. (bytes_eq r.id id ≡ true) × Q r) rs → AnyOf Q (filter (λ r. bytes_eq r.id id) rs))
        → AnyOf Q (filter (λ r. bytes_eq r.id id) (r ∷ rs))
    go true e (inl q) more = rw e (inl q.1)
    go true e (inr q) more = rw e (inr (more q))
    go false e (inl q) more = let n : false ≡ true = sym e ∙ q.0 in cc
    go false e (inr q) more = rw e (more q)

-- one rule alone has the name, and takes numbers in the range
pub record IsSole (rs : List Rule) (id : List ℕ) (least most : ℕ) : Type 0 where
  rule : Rule
  sole : filter (λ r. bytes_eq r.id id) rs ≡ rule ∷ []
  parser : rule.parser ≡ Some (Unsigned least most)

sole_has : (rs : List Rule) (id : List ℕ) (least most : ℕ) (s : IsSole rs id least most) (Q : Rule → Type 0) → AnyOf (λ r. (bytes_eq r.id id ≡ true) × Q r) rs → Q s.rule
sole_has rs id least most s Q h = elim (subst (AnyOf Q) s.sole (of_name Q id rs h)) [ inl q ↦ q | inr n ↦ absurd n ]

-- ---- what was found

record IsOption (c : Command) (id : List ℕ) (least most : ℕ) : Type 0 where
  accepts : (t : List ℕ) → PassesArg c id t → IsUnsignedIn least most t
  reads : (how : Reading) → HasReading c id how → how ≡ AsWritten

is_option : (c : Command) (id : List ℕ) (least most : ℕ) → IsSole (map rule_of (args_of c)) id least most → IsOption c id least most
is_option c id least most s = record {
  accepts = λ t p.
      let all : AnyOf (λ r. (bytes_eq r.id id ≡ true) × Accepts r.ignore_case (parser_of_value r.parser) t) (map rule_of (args_of c)) =
      of_rules (λ r. (bytes_eq r.id id ≡ true) × Accepts r.ignore_case (parser_of_value r.parser) t) (args_of c) p.0 p.1 p.2 p.3 p.4 in
      let own = sole_has _ id least most s (λ r. Accepts r.ignore_case (parser_of_value r.parser) t) all in
      rw s.parser at own;
  reads = λ how p.
      let all : AnyOf (λ r. (bytes_eq r.id id ≡ true) × (reading_of (parser_of_value r.parser) ≡ how)) (map rule_of (args_of c)) =
      of_rules (λ r. (bytes_eq r.id id ≡ true) × (reading_of (parser_of_value r.parser) ≡ how)) (args_of c) p.0 p.1 p.2 p.3 p.4 in
      let own = sole_has _ id least most s (λ r. reading_of (parser_of_value r.parser) ≡ how) all in
      sym (rw s.parser at own);
}

value_in : (c : Command) (f : Found) (id : List ℕ) (least most : ℕ) → IsOption c id least most → ValuesPass c f → groups_of c ≡ [] → (id ≡ [] → ⊥)
    → IsNumberIn least most (one_text f id)
value_in c f id least most o values no_groups named = λ t is. go (matched_of f id) refl t is
  where
    first : (x : MatchedArg) (vs : List (Bor (List ℕ))) → x.vals.items ≡ vs → x.reading ≡ AsWritten → All (λ v. PassesArg c id v.now) vs
        → (t : List ℕ) → option_map (λ s. read_as x.reading s.now) (slice_get vs 0) ≡ Some t → IsUnsignedIn least most t
    first x [] same how all t is = cc
    first x (v ∷ vs) same how all t is =
        let whole : read_as x.reading v.now ≡ t = ap (λ (w : Option (List ℕ)). elim w [ None ↦ t | Some u ↦ u ]) is in
        let as_is : v.now ≡ t = ap (λ (h : Reading). read_as h v.now) (sym how) ∙ whole in
        subst (IsUnsignedIn least most) as_is (o.accepts v.now (All-get_or (λ (u : Bor (List ℕ)). PassesArg c id u.now) (v ∷ vs) 0 v (omega arith) all))

    entry : (x : MatchedArg) (e : Entry) → e.1 ≡ x → e.0.now ≡ id → EntryPasses c e
        → (t : List ℕ) → option_map (λ s. read_as x.reading s.now) (slice_get x.vals.items 0) ≡ Some t → IsUnsignedIn least most t
    entry x e same key pass t is =
        let no_group : e.1.is_group ≡ true → ⊥ = λ g. elim (pass.3 g) [
          | inl empty ↦ named (sym key ∙ empty)
          | inr lots ↦ let bad : 0 < 0 = rw no_groups at lots in absurd (omega arith)
        ] in
        let all : All (λ v. PassesArg c id v.now) x.vals.items = elim pass.0 [
          | inl g ↦ absurd (no_group g)
          | inr vals ↦ subst (λ (w : List ℕ). All (λ v. PassesArg c w v.now) x.vals.items) key (rw same at vals)
        ] in
        let how : e.1.reading ≡ AsWritten = elim pass.4 [
          | inl g ↦ absurd (no_group g)
          | inr h ↦ o.reads e.1.reading (subst (λ (w : List ℕ). HasReading c w e.1.reading) key h)
        ] in
        first x x.vals.items refl (ap (λ (y : MatchedArg). y.reading) (sym same) ∙ how) all t is

    go : (m : Option MatchedArg) → matched_of f id ≡ m → (t : List ℕ) → one_text f id ≡ Some t → IsUnsignedIn least most t
    go None e t is = let bad : None ≡ Some t = rw e at is in cc
    go (Some x) e t is =
        let got = entry_by_id (EntryPasses c) f.entries.items id x values e in
        entry x got.0 got.1 ((bytes_eq-Decides got.0.0.now id).0 got.2) got.3 t (rw e at is)

-- the text that an option has, or another
pub text_or : (o : Option (Bor (List ℕ))) (t : Option (List ℕ)) (d r : Bor (List ℕ)) → option_map (λ s. s.now) o ≡ t → r ≡ unwrap_or o d → r.now ≡ unwrap_or t d.now
text_or None t d r e is = ap (λ s. s.now) is ∙ ap (λ v. unwrap_or v d.now) e
text_or (Some s) t d r e is = ap (λ s. s.now) is ∙ ap (λ v. unwrap_or v d.now) e

-- ---- the options of a command line

-- the command is that of the command line, as it was made or as it was built
abbrev IsOf : App → Command → Type 0
IsOf p c = (app_of c ≡ p) ⊎ (app_of c ≡ built p)

-- a command line that is plain, before it is built and after
pub record IsPlainLine (p : App) : Type 0 where
  pub made : p.top.is_plain ≡ true
  pub built_too : (built p).top.is_plain ≡ true
  pub buildable : is_buildable p ≡ true

-- one of its rules alone has the name, and takes numbers in the range
pub record IsNumberOf (p : App) (id : List ℕ) (least most : ℕ) : Type 0 where
  pub made : IsSole p.top.rules id least most
  pub built_too : IsSole (built p).top.rules id least most
  pub named : id ≡ [] → ⊥

rules_are : (c : Command) (a : App) → app_of c ≡ a → map rule_of (args_of c) ≡ a.top.rules
rules_are c a e = ap (λ (b : App). b.top.rules) e

is_plain : (p : App) (c : Command) → IsPlainLine p → IsOf p c → (app_of c).top.is_plain ≡ true
is_plain p c plain (inl e) = ap (λ (a : App). a.top.is_plain) e ∙ plain.made
is_plain p c plain (inr e) = ap (λ (a : App). a.top.is_plain) e ∙ plain.built_too

pub number_in : (p : App) (c : Command) (f : Found) (id : List ℕ) (least most : ℕ) → IsPlainLine p → IsOf p c → ValuesPass c f → IsNumberOf p id least most → IsNumberIn least most (one_text f id)
number_in p c f id least most plain of values n =
    value_in c f id least most (is_option c id least most (sole of)) values (plain_fields c (is_plain p c plain of)).groups n.named
  where
    sole : IsOf p c → IsSole (map rule_of (args_of c)) id least most
    sole (inl e) = subst (λ rs. IsSole rs id least most) (sym (rules_are c p e)) n.made
    sole (inr e) = subst (λ rs. IsSole rs id least most) (sym (rules_are c (built p) e)) n.built_too

-- what holds of all values that pass holds of what a parse finds
pub values_found : (p : App) (Q : Found → Type 0) → IsPlainLine p → ((c : Command) (f : Found) → IsOf p c → ValuesPass c f → Q f)
    → (old new : Command) (words : List (List ℕ)) (r : Result ArgMatches Error) → app_of old ≡ p
    → IfOk r (λ m. BuildsTo old new × ((out-Command new).has_globals ≡ false → IsParsed new (found_of m) (has_subcommand m)) × HasMatchesOf (app_of old) words m)
    → BuildsOrBreaks old new → (is_broken new ≡ true → IsErrAnd r (λ e. kind_of e ≡ OutOfMemory))
    → IfOk r (λ m. Q (found_of m))
values_found p Q plain holds old new words (Err e) is ok after fails = tt
values_found p Q plain holds old new words (Ok m) is ok after fails = elim after [
  | inl broken ↦ absurd (fails broken)
  | inr builds ↦ all (elim builds.2 [ inl same ↦ inl (same ∙ is) | inr made ↦ inr (made (ap is_buildable is ∙ plain.buildable) ∙ ap built is) ])
]
  where
    all : IsOf p new → Q (found_of m)
    all of = holds new (found_of m) of (ok.1 (plain_fields new (is_plain p new plain of)).globals).values

-- and so the rows that are found
pub rows_found : (p : App) → is_simple p ≡ true → (old new : Command) (words : List (List ℕ)) (r : Result ArgMatches Error) → app_of old ≡ p
    → IfOk r (λ m. BuildsTo old new × ((out-Command new).has_globals ≡ false → IsParsed new (found_of m) (has_subcommand m)) × HasMatchesOf (app_of old) words m)
    → IfOk r (λ m. rows_of (found_of m) ≡ matches_of p words)
rows_found p simple old new words (Err e) is ok = tt
rows_found p simple old new words (Ok m) is ok = (ok.2 (ap is_simple is ∙ simple)).0 ∙ ap (λ (a : App). matches_of a words) is

-- ---- those of tpnode

is_number : IsNumberOf program (codes "number") 0 18446744073709551615
is_number = record {
  made = record { rule = slice_index_or (program.top.rules) 2 command_rule; sole = refl; parser = refl };
  built_too = record { rule = slice_index_or ((built program).top.rules) 2 command_rule; sole = refl; parser = refl };
  named = λ e. cc;
}

are_nodes : IsNumberOf program (codes "nodes") 2 256
are_nodes = record {
  made = record { rule = slice_index_or (program.top.rules) 3 command_rule; sole = refl; parser = refl };
  built_too = record { rule = slice_index_or ((built program).top.rules) 3 command_rule; sole = refl; parser = refl };
  named = λ e. cc;
}

are_rounds : IsNumberOf program (codes "rounds") 1 30
are_rounds = record {
  made = record { rule = slice_index_or (program.top.rules) 4 command_rule; sole = refl; parser = refl };
  built_too = record { rule = slice_index_or ((built program).top.rules) 4 command_rule; sole = refl; parser = refl };
  named = λ e. cc;
}

pub program_is_plain : IsPlainLine program
program_is_plain = record { made = refl; built_too = refl; buildable = refl }

pub holds_numbers : (c : Command) (f : Found) → IsOf program c → ValuesPass c f → HoldsNumbers f
holds_numbers c f of values = record {
  number = number_in program c f (codes "number") 0 18446744073709551615 program_is_plain of values is_number;
  nodes = number_in program c f (codes "nodes") 2 256 program_is_plain of values are_nodes;
  rounds = number_in program c f (codes "rounds") 1 30 program_is_plain of values are_rounds;
}

-- ---- those of tpdrive

are_workers : IsNumberOf drive_program (codes "workers") 1 16
are_workers = record {
  made = record { rule = slice_index_or (drive_program.top.rules) 1 command_rule; sole = refl; parser = refl };
  built_too = record { rule = slice_index_or ((built drive_program).top.rules) 1 command_rule; sole = refl; parser = refl };
  named = λ e. cc;
}

pub drive_is_plain : IsPlainLine drive_program
drive_is_plain = record { made = refl; built_too = refl; buildable = refl }

pub holds_workers : (c : Command) (f : Found) → IsOf drive_program c → ValuesPass c f → IsNumberIn 1 16 (one_text f (codes "workers"))
holds_workers c f of values = number_in drive_program c f (codes "workers") 1 16 drive_is_plain of values are_workers

-- ---- out of memory before a parse

pub memory_fails : {T : Type 0} (r : Result T Error) (kinds : Kinds) → IsErrAnd r (λ e. kind_of e ≡ OutOfMemory) → FailsBy kinds r
memory_fails (Err e) kinds h = inl h
memory_fails (Ok v) kinds h = absurd h

pub no_ok : {T : Type 0} (r : Result T Error) (Q : T → Type 0) → IsErrAnd r (λ e. kind_of e ≡ OutOfMemory) → IfOk r Q
no_ok (Err e) Q h = tt
no_ok (Ok v) Q h = absurd h
