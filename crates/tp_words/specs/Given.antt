-- What the steps of a reading hand on: what clap found, with the numbers in their ranges, and the command of a word.
use Rattle.std.specs.Prelude.{◌≡◌, ℕ, true, false, Option, Some, None, List, codes}
use Rattle.clap.specs.Words.{one_text}
use Rattle.tp_names.specs.Bytes.{is_site_name}
use Rattle.clap.specs.Values.{IsUnsignedIn}
use Rattle.clap.specs.declared.parser.matches.Found.{Found}
use Rattle.tp_words.specs.CommandLine.{Said}
use Rattle.tp_words.specs.Asked.{is_line, IsAsked, IsPlan}
use Rattle.tp_words.specs.declared.command.Plan.{Plan}
use Rattle.tp_words.specs.declared.command.Command.{Command}
use Rattle.tp_words.specs.declared.command_line.Given.{Given}

-- the values are those that were said
abbrev pub IsSaid : Said → Given → Type 0
IsSaid s g = (g.word.now ≡ s.word) × (g.name.now ≡ s.name) × IsPlan s g.plan

-- the command that is asked for, where there is one
abbrev pub AnswersTo : Said → Option Command → Type 0
AnswersTo s None = is_line (Some s) ≡ false
AnswersTo s (Some c) = (is_site_name s.name ≡ true) × IsAsked s c

-- the command of the word, with this site and this plan
abbrev pub IsNamed : List ℕ → List ℕ → Plan → Command → Type 0
IsNamed word site plan c = IsAsked (record { word = word; name = site; number = plan.number; nodes = plan.nodes; rounds = plan.rounds }) c

-- a text that is there is a number in the range
abbrev pub IsNumberIn : ℕ → ℕ → Option (List ℕ) → Type 0
IsNumberIn least most text = (t : List ℕ) → text ≡ Some t → IsUnsignedIn least most t

-- each option of whole numbers has one in its range, where it has a value
pub record HoldsNumbers (f : Found) : Type 0 where
  pub number : IsNumberIn 0 18446744073709551615 (one_text f (codes "number"))
  pub nodes : IsNumberIn 2 256 (one_text f (codes "nodes"))
  pub rounds : IsNumberIn 1 30 (one_text f (codes "rounds"))
