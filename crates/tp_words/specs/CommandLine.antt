-- The command line: what clap is told of it, and what words say that clap takes. How clap reads words is no matter of this file: of a
-- simple command its own definitions `fault_of` and `matches_of` say which words it refuses, and what it finds in the others.
use Rattle.std.specs.Prelude.{ℕ, true, Option, Some, None, List, [], ◌∷◌, codes, unwrap_or}
use Rattle.std.specs.Option.{option_map_or}
use Rattle.std.specs.Str.Parse.{digits_value, without_leading_plus}
use Rattle.clap.specs.Words.{App, Kinds, Row, Rule, first_of, one_of, new_app, new_rule, with_rule, fault_of, matches_of}
use Rattle.clap.specs.declared.builder.value_parser.ValueParser.TheVariants.{Unsigned}

-- ---- what clap is told

-- one word must be there, that of the command
abbrev pub command_rule : Rule
command_rule = record (new_rule (codes "command")) { required = true }

-- an option with one value, which may be any text
abbrev pub option_rule : List ℕ → Rule
option_rule name = record (new_rule name) { long = Some name }

-- an option whose value is a whole number in a range
abbrev pub number_rule : List ℕ → ℕ → ℕ → Rule
number_rule name least most = record (option_rule name) { parser = Some (Unsigned least most) }

abbrev pub bare : App
bare = let a : App = new_app (codes "tpnode") in record a { top = record (a.top) { no_binary_name = true } }

-- the word of the command, --name, --number, --nodes and --rounds
abbrev pub program : App
program =
    with_rule (with_rule (with_rule (with_rule (with_rule bare command_rule)
    (option_rule (codes "name")))
    (number_rule (codes "number") 0 18446744073709551615))
    (number_rule (codes "nodes") 2 256))
    (number_rule (codes "rounds") 1 30)

-- ---- what words say

-- the word of the command, and the value of each option, or its default
pub record Said : Type 0 where
  pub word : List ℕ
  pub name : List ℕ
  pub number : ℕ
  pub nodes : ℕ
  pub rounds : ℕ

-- a command with nothing but its word
abbrev pub alone : List ℕ → Said
alone word = record { word = word; name = codes "a"; number = 1; nodes = 2; rounds = 1 }

-- the number that a text of digits is
abbrev pub number_of : List ℕ → ℕ
number_of text = digits_value 10 (without_leading_plus text)

-- what clap found, by the names of the options
abbrev pub found_in : List Row → Said
found_in rows = record {
  word = unwrap_or (first_of (codes "command") rows) [];
  name = unwrap_or (first_of (codes "name") rows) (codes "a");
  number = option_map_or number_of (one_of (codes "number") rows) 1;
  nodes = option_map_or number_of (one_of (codes "nodes") rows) 2;
  rounds = option_map_or number_of (one_of (codes "rounds") rows) 1;
}

abbrev pub said_unless : Kinds → List Row → Option Said
said_unless [] rows = Some (found_in rows)
said_unless (k ∷ ks) rows = None

-- what the words say, unless clap refuses them
abbrev pub said : List (List ℕ) → Option Said
said words = said_unless (fault_of program words) (matches_of program words)
