-- The plain command lines of tpdrive, written out: settings, each of another option, in any order. Nothing is said here of words that
-- clap takes besides, as `--workers=3`.
use Rattle.std.specs.Prelude.{◌≡◌, ℕ, ◌&&◌, Bool, true, not, nat_le, List, [], ◌∷◌, codes}
use Rattle.std.specs.Fmt.{decimal}
use Rattle.std.specs.List.{list_any, list_all}
use Rattle.std.specs.Str.{bytes_eq}
use Rattle.tp_names.specs.Bytes.{is_site_name}
use Rattle.tp_words.specs.DriveLine.{SaidDrive}

-- an option with its value
pub data DriveSetting : Type 0 where
  Site : List ℕ → DriveSetting
  Workers : ℕ → DriveSetting

abbrev pub drive_option : DriveSetting → List ℕ
drive_option (Site name) = codes "name"
drive_option (Workers n) = codes "workers"

-- the value as it is typed: numbers in decimal, without leading zeros
abbrev pub drive_value : DriveSetting → List ℕ
drive_value (Site name) = name
drive_value (Workers n) = decimal n

-- the name of each option, after two hyphens, and its value
abbrev pub drive_typed : List DriveSetting → List (List ℕ)
drive_typed [] = []
drive_typed (s ∷ ss) = (45 ∷ 45 ∷ drive_option s) ∷ drive_value s ∷ drive_typed ss

abbrev pub is_drive_in_range : DriveSetting → Bool
is_drive_in_range (Site name) = is_site_name name
is_drive_in_range (Workers n) = nat_le 1 n && nat_le n 16

-- the option is set
abbrev pub is_drive_set : List ℕ → List DriveSetting → Bool
is_drive_set option settings = list_any (λ s. bytes_eq (drive_option s) option) settings

abbrev pub are_drive_apart : List DriveSetting → Bool
are_drive_apart [] = true
are_drive_apart (s ∷ ss) = not (is_drive_set (drive_option s) ss) && are_drive_apart ss

-- settings in their ranges, no two of one option
pub record IsPlainDrive (settings : List DriveSetting) : Type 0 where
  pub ranges : list_all is_drive_in_range settings ≡ true
  pub apart : are_drive_apart settings ≡ true

-- what no word says
abbrev pub drive_default : SaidDrive
drive_default = record { name = codes "a"; workers = 1 }

abbrev pub with_drive : SaidDrive → DriveSetting → SaidDrive
with_drive s (Site name) = record s { name = name }
with_drive s (Workers n) = record s { workers = n }

-- what was said, and then these settings
abbrev pub with_drives : SaidDrive → List DriveSetting → SaidDrive
with_drives s [] = s
with_drives s (o ∷ os) = with_drives (with_drive s o) os
