-- The command line of tpdrive: what clap is told of it, and what words say that clap takes, as CommandLine has it for tpnode.
use Rattle.std.specs.Prelude.{◌≡◌, ℕ, Bool, true, false, Option, Some, None, List, [], ◌∷◌, codes, unwrap_or}
use Rattle.std.specs.Option.{option_map_or}
use Rattle.clap.specs.Words.{App, Kinds, Row, first_of, one_of, new_app, with_rule, fault_of, matches_of}
use Rattle.tp_names.specs.Bytes.{is_site_name}
use Rattle.tp_words.specs.CommandLine.{option_rule, number_rule, number_of}
use Rattle.tp_words.specs.declared.drive.Drive.{Drive}

-- ---- what clap is told

abbrev pub bare_drive : App
bare_drive = let a : App = new_app (codes "tpdrive") in record a { top = record (a.top) { no_binary_name = true } }

-- --name and --workers
abbrev pub drive_program : App
drive_program = with_rule (with_rule bare_drive (option_rule (codes "name"))) (number_rule (codes "workers") 1 16)

-- ---- what words say

-- the value of each option, or its default
pub record SaidDrive : Type 0 where
  pub name : List ℕ
  pub workers : ℕ

-- what clap found, by the names of the options
abbrev pub found_drive : List Row → SaidDrive
found_drive rows = record {
  name = unwrap_or (first_of (codes "name") rows) (codes "a");
  workers = option_map_or number_of (one_of (codes "workers") rows) 1;
}

abbrev pub drive_unless : Kinds → List Row → Option SaidDrive
drive_unless [] rows = Some (found_drive rows)
drive_unless (k ∷ ks) rows = None

-- what the words say, unless clap refuses them
abbrev pub drive_said : List (List ℕ) → Option SaidDrive
drive_said words = drive_unless (fault_of drive_program words) (matches_of drive_program words)

-- ---- what they ask for

-- they are a command line: clap takes them, and the name is that of a site
abbrev pub is_drive : Option SaidDrive → Bool
is_drive None = false
is_drive (Some s) = is_site_name s.name

abbrev pub IsDriveAsked : SaidDrive → Drive → Type 0
IsDriveAsked s d = (d.name ≡ s.name) × (d.workers ≡ s.workers)

-- the words are a command line, and ask for this
abbrev pub AsksDrive : Option SaidDrive → Drive → Type 0
AsksDrive said d = (s : SaidDrive) × (said ≡ Some s) × (is_site_name s.name ≡ true) × IsDriveAsked s d

-- what is asked for, where the name is that of a site
abbrev pub AnswersDrive : SaidDrive → Option Drive → Type 0
AnswersDrive s None = is_site_name s.name ≡ false
AnswersDrive s (Some d) = (is_site_name s.name ≡ true) × IsDriveAsked s d
