-- Which command it is that words ask for, once it is known what they say.
use Rattle.std.specs.Prelude.{◌≡◌, ℕ, ◌&&◌, Bool, true, false, Option, Some, None, List, [], ◌∷◌, codes}
use Rattle.std.specs.List.{list_any}
use Rattle.std.specs.Str.{bytes_eq}
use Rattle.tp_names.specs.Bytes.{is_site_name}
use Rattle.tp_words.specs.CommandLine.{Said}
use Rattle.tp_words.specs.declared.command.Plan.{Plan}
use Rattle.tp_words.specs.declared.command.Command.{Command}

-- the words of the commands
abbrev pub command_words : List (List ℕ)
command_words =
    codes "replay" ∷ codes "node" ∷ codes "format" ∷ codes "show" ∷ codes "check" ∷ codes "make" ∷ codes "trial" ∷ codes "compact"
    ∷ codes "migrate" ∷ codes "keys" ∷ codes "tx" ∷ codes "audit" ∷ []

abbrev pub is_command : List ℕ → Bool
is_command word = list_any (bytes_eq word) command_words

-- they are a command line: clap takes them, there is such a command, and the name is that of a site
abbrev pub is_line : Option Said → Bool
is_line None = false
is_line (Some s) = is_command s.word && is_site_name s.name

abbrev pub IsPlan : Said → Plan → Type 0
IsPlan s plan = (plan.number ≡ s.number) × (plan.nodes ≡ s.nodes) × (plan.rounds ≡ s.rounds)

-- the command is the one with this word, with the options that it uses
abbrev pub IsAsked : Said → Command → Type 0
IsAsked s Command.Replay = s.word ≡ codes "replay"
IsAsked s (Command.Node site) = (s.word ≡ codes "node") × (site ≡ s.name)
IsAsked s Command.Format = s.word ≡ codes "format"
IsAsked s Command.Show = s.word ≡ codes "show"
IsAsked s Command.Check = s.word ≡ codes "check"
IsAsked s (Command.Make plan) = (s.word ≡ codes "make") × IsPlan s plan
IsAsked s (Command.Trial plan) = (s.word ≡ codes "trial") × IsPlan s plan
IsAsked s Command.Compact = s.word ≡ codes "compact"
IsAsked s Command.Migrate = s.word ≡ codes "migrate"
IsAsked s Command.Keys = s.word ≡ codes "keys"
IsAsked s (Command.Tx site) = (s.word ≡ codes "tx") × (site ≡ s.name)
IsAsked s Command.Audit = s.word ≡ codes "audit"

-- the words are a command line, and ask for the command
abbrev pub Asks : Option Said → Command → Type 0
Asks said c = (s : Said) × (said ≡ Some s) × (is_site_name s.name ≡ true) × IsAsked s c
