-- What a site answers to the event of one frame, after a list of them: its outputs, or what stops the program.
use Rattle.std.specs.Prelude.{ℕ, ◌≡◌, ◌⊎◌, None, List, [], ◌∷◌, ◌++◌, Result, Ok, Err}
use Rattle.tp_records.specs.declared.body.Event.{Event as Given}
use Rattle.tp_records.specs.declared.body.Output.{Output}
use Rattle.tp_model.specs.declared.verdict.What.{What}
use Rattle.tp_model.specs.NodeRun.{Opening}
use Rattle.tp_journal.specs.declared.faults.ForceFault.{ForceFault}
use Rattle.tp_journal.specs.declared.faults.ForceFault.TheVariants as force
use Rattle.tp_journal.specs.Keeping.{Standing}
use Rattle.tp_streams.specs.declared.stop.Stop.{Stop}
use Rattle.tp_site.specs.declared.faults.SiteFault.{SiteFault}
use Rattle.tp_site.specs.Site.{Site, IsForced, IsUnforced}
use Rattle.tp_site.specs.Shaped.{HasTextOption}
use Rattle.tp_site.specs.Events.{IsAt, all_nodes, outputs_after, record_after}

-- what a fault of the site means for the program, in the frame with that number
abbrev pub stopped_by : ℕ → SiteFault → Stop
stopped_by at (SiteFault.Refused k) = Stop.NoMemory
stopped_by at (SiteFault.Full size) = Stop.Limit What.Log at
stopped_by at (SiteFault.DiskFault faults) = Stop.DiskFault faults
stopped_by at (SiteFault.Shut faults) = Stop.DiskFault faults
stopped_by at SiteFault.NoMemory = Stop.NoMemory

-- it is one event more, with its outputs; its record was forced, where it has one
pub record IsAnswered {K : Type 0} (standing : K → Standing) (o : Opening) (gs : List Given) (old : Site K) (g : Given)
    (outputs : List Output) (new : Site K) : Type 0 where
  pub at : IsAt standing all_nodes o (gs ++ g ∷ []) new
  pub given : outputs ≡ outputs_after o gs g
  pub forced : IsForced standing old.keeper (record_after o gs g) new.keeper
  pub text : HasTextOption (standing old.keeper).wide (record_after o gs g)
  pub is_open : new.shut ≡ None

-- its record was not forced, and nothing of it is so
pub record IsUnanswered {K : Type 0} (standing : K → Standing) (o : Opening) (gs : List Given) (old : Site K) (g : Given)
    (fault : ForceFault) (new : Site K) : Type 0 where
  pub at : IsAt standing all_nodes o gs new
  pub unforced : IsUnforced standing old.keeper (record_after o gs g) fault new.keeper

-- nothing was done for it, or it is one event more and there was no memory for its outputs
abbrev pub IsWithoutMemory : {K : Type 0} → (K → Standing) → Opening → List Given → Site K → Given → Site K → Type 0
IsWithoutMemory standing o gs old g new =
    (IsAt standing all_nodes o gs new × (standing new.keeper ≡ standing old.keeper) × (new.shut ≡ None))
    ⊎ ((outputs : List Output) × IsAnswered standing o gs old g outputs new)

abbrev pub Answers : {K : Type 0} → (K → Standing) → Opening → List Given → ℕ → Site K → Given → Result (List Output) Stop → Site K → Type 0
Answers standing o gs at old g (Ok outputs) new = IsAnswered standing o gs old g outputs new
Answers standing o gs at old g (Err (Stop.BadInput n why)) new = ⊥
Answers standing o gs at old g (Err (Stop.Limit what n)) new =
    (what ≡ What.Log) × (n ≡ at) × ((size : ℕ) × IsUnanswered standing o gs old g (force.Full size) new) × (new.shut ≡ None)
Answers standing o gs at old g (Err (Stop.Foreign n)) new = ⊥
Answers standing o gs at old g (Err (Stop.ReadFault faults)) new = ⊥
Answers standing o gs at old g (Err (Stop.WriteFault faults)) new = ⊥
Answers standing o gs at old g (Err (Stop.DiskFault faults)) new =
    (IsUnanswered standing o gs old g (force.DiskFault faults) new × HasTextOption (standing old.keeper).wide (record_after o gs g))
    ⊎ IsUnanswered standing o gs old g (force.Shut faults) new
Answers standing o gs at old g (Err Stop.NoMemory) new = IsWithoutMemory standing o gs old g new

-- why there is none, whatever the site had come to
abbrev pub IsAnswerStop : ℕ → Stop → Type 0
IsAnswerStop at (Stop.BadInput n why) = ⊥
IsAnswerStop at (Stop.Limit what n) = (what ≡ What.Log) × (n ≡ at)
IsAnswerStop at (Stop.Foreign n) = ⊥
IsAnswerStop at (Stop.ReadFault faults) = ⊥
IsAnswerStop at (Stop.WriteFault faults) = ⊥
IsAnswerStop at (Stop.DiskFault faults) = Unit {0}
IsAnswerStop at Stop.NoMemory = Unit {0}
