-- The answer to a frame waits behind those before it, or there is none.
use Rattle.std.proofs.Common.{◌≡◌, ℕ, refl, ap, ◌∙◌, inr, List, ◌++◌, Option, Result, Ok, Err}
use Rattle.tp_outside.specs.Story.{Story}
use Rattle.tp_records.specs.declared.body.Event.{Event as Given}
use Rattle.tp_model.specs.NodeRun.{Opening}
use Rattle.tp_journal.specs.Keeping.{Standing}
use Rattle.tp_streams.specs.declared.stop.Stop.{Stop}
use Rattle.tx_face.specs.Face.{Face}
use Rattle.tp_tx.specs.Transcript.{Asks}
use Rattle.tp_tx.specs.Progress.{Responds, AnswersFrame}

module _ {K : Type 0} (standing : K → Standing) (o : Opening) (gs : List Given) (begun : Option Story) (faults at : ℕ) (a : Asks) (f : Face K) (out bytes : List ℕ) where
  pub put_behind : (old new : List ℕ) → Responds standing o gs begun faults at a (Ok tt) f out → bytes ≡ out → new ≡ old ++ bytes → AnswersFrame standing o gs begun faults at a (Ok tt) f old new
  put_behind old new x same more = (x.0, more ∙ ap (λ (b : List ℕ). old ++ b) (same ∙ x.2))

  -- there is no answer
  pub unanswered : (stop : Stop) (old : List ℕ) → Responds standing o gs begun faults at a (Err stop) f out → AnswersFrame standing o gs begun faults at a (Err stop) f old old
  unanswered (Stop.BadInput n why) old x = x
  unanswered (Stop.Limit what n) old x = (x.0, x.1, x.2, x.3, refl)
  unanswered (Stop.Foreign n) old x = x
  unanswered (Stop.ReadFault n) old x = x
  unanswered (Stop.WriteFault n) old x = absurd x
  unanswered (Stop.DiskFault n) old x = (x, refl)
  unanswered Stop.NoMemory old x = (x, refl)

  -- there is no memory for it where it would wait
  pub no_room : (old : List ℕ) → Responds standing o gs begun faults at a (Ok tt) f out → AnswersFrame standing o gs begun faults at a (Err Stop.NoMemory) f old old
  no_room old x = (inr x.0, refl)
