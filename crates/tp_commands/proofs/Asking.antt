-- Which command a run is of: none ends with usage, and the one word `replay` asks for a replay.
use Rattle.std.proofs.Common.{◌≡◌, ℕ, Bool, true, false, List, refl, sym, ◌∙◌, subst, codes, []}
use Rattle.std.specs.Str.{bytes_eq}
use Rattle.tp_records.specs.Answers.{Answer}
use Rattle.tp_words.specs.CommandLine.{alone}
use Rattle.tp_words.specs.Asked.{IsAsked}
use Rattle.tp_words.specs.Plain.{IsPlain}
use Rattle.tp_words.specs.declared.command.Command.{Command}
use Rattle.tp_words.specs.declared.fault.WordsFault.{WordsFault}
use Rattle.tp_replay.specs.declared.status.Status.{Status}
use Rattle.tp_replay.specs.Status.{usage, code_of, has}
use Rattle.tp_commands.specs.Commands.{exits, Ran, Runs}

-- no run of a command ends with usage
no_exit : (c : Command) → has usage (exits c) ≡ false
no_exit Command.Replay = refl
no_exit (Command.Node site) = refl
no_exit Command.Format = refl
no_exit Command.Show = refl
no_exit Command.Check = refl
no_exit (Command.Make plan) = refl
no_exit (Command.Trial plan) = refl
no_exit Command.Compact = refl
no_exit Command.Migrate = refl
no_exit Command.Keys = refl
no_exit (Command.Tx site) = refl
no_exit Command.Audit = refl

pub never_usage : {may : ℕ → List Answer → Type 0} {members : ℕ} (c : Command) (r : Ran) (source sink disk : Type 0) → Runs may members c r source sink disk → r.status ≡ Status.Usage → ⊥
never_usage c r source sink disk runs is = go (sym (no_exit c) ∙ subst (λ s. has (code_of s) (exits c) ≡ true) is runs.exit)
  where
    go : false ≡ true → ⊥
    go h = absurd cc

-- ---- the one word

abbrev Holds : Bool → Type 0
Holds true = Unit {0}
Holds false = ⊥

differs : (word : List ℕ) → codes "replay" ≡ word → Holds (bytes_eq word (codes "replay"))
differs word h = subst (λ w. Holds (bytes_eq w (codes "replay"))) h tt

pub replays : {may : ℕ → List Answer → Type 0} {members : ℕ} (c : Command) (r : Ran) (source sink disk : Type 0) → IsAsked (alone (codes "replay")) c → Runs may members c r source sink disk → Runs may members Command.Replay r source sink disk
replays Command.Replay r source sink disk a x = x
replays (Command.Node site) r source sink disk a x = absurd (differs (codes "node") a.0)
replays Command.Format r source sink disk a x = absurd (differs (codes "format") a)
replays Command.Show r source sink disk a x = absurd (differs (codes "show") a)
replays Command.Check r source sink disk a x = absurd (differs (codes "check") a)
replays (Command.Make plan) r source sink disk a x = absurd (differs (codes "make") a.0)
replays (Command.Trial plan) r source sink disk a x = absurd (differs (codes "trial") a.0)
replays Command.Compact r source sink disk a x = absurd (differs (codes "compact") a)
replays Command.Migrate r source sink disk a x = absurd (differs (codes "migrate") a)
replays Command.Keys r source sink disk a x = absurd (differs (codes "keys") a)
replays (Command.Tx site) r source sink disk a x = absurd (differs (codes "tx") a.0)
replays Command.Audit r source sink disk a x = absurd (differs (codes "audit") a)

pub plain_replay : IsPlain (codes "replay") []
plain_replay = record { command = refl; ranges = refl; apart = refl }

-- a plain word is not refused
abbrev IsUsage : WordsFault → Type 0
IsUsage WordsFault.Usage = Unit {0}
IsUsage WordsFault.NoMemory = ⊥

pub no_usage : WordsFault.Usage ≡ WordsFault.NoMemory → ⊥
no_usage e = subst IsUsage e tt
