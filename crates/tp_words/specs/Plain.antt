-- The plain command lines, written out: the word of a command, and then settings, each of another option. Nothing is said here of words
-- that clap takes besides, as `--nodes=3`, or an option before the command.
use Rattle.std.specs.Prelude.{◌≡◌, ℕ, ◌&&◌, Bool, true, not, nat_le, List, [], ◌∷◌, codes}
use Rattle.std.specs.Fmt.{decimal}
use Rattle.std.specs.List.{list_any, list_all}
use Rattle.std.specs.Str.{bytes_eq}
use Rattle.tp_names.specs.Bytes.{is_site_name}
use Rattle.tp_words.specs.CommandLine.{Said}
use Rattle.tp_words.specs.Asked.{is_command}

-- an option with its value
pub data Setting : Type 0 where
  Name : List ℕ → Setting
  Number : ℕ → Setting
  Nodes : ℕ → Setting
  Rounds : ℕ → Setting

abbrev pub option_of : Setting → List ℕ
option_of (Name site) = codes "name"
option_of (Number n) = codes "number"
option_of (Nodes k) = codes "nodes"
option_of (Rounds r) = codes "rounds"

-- the value as it is typed: numbers in decimal, without leading zeros
abbrev pub value_of : Setting → List ℕ
value_of (Name site) = site
value_of (Number n) = decimal n
value_of (Nodes k) = decimal k
value_of (Rounds r) = decimal r

-- the name of the option, after two hyphens, and the value
abbrev pub typed : Setting → List (List ℕ) → List (List ℕ)
typed s rest = (45 ∷ 45 ∷ option_of s) ∷ value_of s ∷ rest

abbrev pub settings_typed : List Setting → List (List ℕ)
settings_typed [] = []
settings_typed (s ∷ ss) = typed s (settings_typed ss)

abbrev pub is_in_range : Setting → Bool
is_in_range (Name site) = is_site_name site
is_in_range (Number n) = nat_le n 18446744073709551615
is_in_range (Nodes k) = nat_le 2 k && nat_le k 256
is_in_range (Rounds r) = nat_le 1 r && nat_le r 30

-- the option is set
abbrev pub is_set : List ℕ → List Setting → Bool
is_set option settings = list_any (λ s. bytes_eq (option_of s) option) settings

abbrev pub are_apart : List Setting → Bool
are_apart [] = true
are_apart (s ∷ ss) = not (is_set (option_of s) ss) && are_apart ss

-- the word of a command, and settings in their ranges, no two of one option
pub record IsPlain (word : List ℕ) (settings : List Setting) : Type 0 where
  pub command : is_command word ≡ true
  pub ranges : list_all is_in_range settings ≡ true
  pub apart : are_apart settings ≡ true

abbrev pub with_setting : Said → Setting → Said
with_setting s (Name site) = record s { name = site }
with_setting s (Number n) = record s { number = n }
with_setting s (Nodes k) = record s { nodes = k }
with_setting s (Rounds r) = record s { rounds = r }

-- what was said, and then these settings
abbrev pub with_settings : Said → List Setting → Said
with_settings s [] = s
with_settings s (o ∷ os) = with_settings (with_setting s o) os
