-- What a run does is what the command does that it matched.
use Rattle.std.proofs.Common.{◌≡◌, ℕ, List, sym, subst}
use Rattle.tp_records.specs.Answers.{Answer}
use Rattle.tp_words.specs.declared.command.Command.{Command}
use Rattle.tp_commands.specs.Commands.{Ran, Runs}

pub runs_as : {may : ℕ → List Answer → Type 0} {members : ℕ} (c d : Command) (r : Ran) (source sink disk : Type 0) → c ≡ d → Runs may members d r source sink disk → Runs may members c r source sink disk
runs_as {may} {members} c d r source sink disk is h = subst (λ x. Runs may members x r source sink disk) (sym is) h
