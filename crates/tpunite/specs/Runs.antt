-- What a run does, by how it ends: it writes the line of its verdict and the closing lines of a deployment, or a prefix of it where the sink
-- fails, or nothing.
use Rattle.std.specs.Prelude.{ℕ, ◌≡◌, Option, Some, List, [], ◌∷◌, ◌++◌, codes}
use Rattle.tp_model.specs.declared.out_line.OutLine.{OutLine}
use Rattle.tp_model.specs.OutText.{out_texts}
use Rattle.tp_model.specs.Words.{decimal, words}
use Rattle.tp_streams.specs.declared.stop.Stop.{Stop}
use Rattle.tp_streams.specs.Written.{WritesPrefix}
use Rattle.tp_unite.specs.declared.verdict.Verdict.{Verdict}
use Rattle.tp_unite.specs.Verdicts.{Judges, Closes, Stops}
use Rattle.tpunite.specs.declared.status.Status.{Status}

abbrev pub verdict_words : Verdict → List (List ℕ)
verdict_words Verdict.Deployment = codes "deployment" ∷ []
verdict_words (Verdict.NotPlaced at) = codes "not-placed" ∷ decimal at ∷ []
verdict_words (Verdict.NotCarried at) = codes "not-carried" ∷ decimal at ∷ []

abbrev pub verdict_line : Verdict → List ℕ
verdict_line v = words (verdict_words v) ++ 10 ∷ []

-- the closing lines stand after it
abbrev pub report_text : Verdict → List OutLine → List ℕ
report_text v lines = verdict_line v ++ out_texts lines

abbrev pub status_after : Verdict → Status
status_after Verdict.Deployment = Status.Ok
status_after (Verdict.NotPlaced at) = Status.Findings
status_after (Verdict.NotCarried at) = Status.Findings

pub record IsWritten (v : Verdict) (lines : List OutLine) (status : Status) (old new : Option (List ℕ)) : Type 0 where
  pub status_is : status ≡ status_after v
  pub written : (was : List ℕ) → old ≡ Some was → new ≡ Some (was ++ report_text v lines)

-- all of it, or a prefix where the sink failed, or nothing where there was no memory
abbrev pub Writes : Verdict → List OutLine → Status → Option (List ℕ) → Option (List ℕ) → Type 0
Writes v lines (Status.WriteFault faults) old new = (was : List ℕ) → old ≡ Some was → WritesPrefix was (report_text v lines) new
Writes v lines Status.NoMemory old new = new ≡ old
Writes v lines Status.Ok old new = IsWritten v lines Status.Ok old new
Writes v lines Status.Findings old new = IsWritten v lines Status.Findings old new
Writes v lines Status.Usage old new = ⊥
Writes v lines (Status.BadInput at why) old new = ⊥
Writes v lines (Status.Limit what at) old new = ⊥
Writes v lines (Status.ReadFault faults) old new = ⊥

-- the run ends by this verdict, whose line was written, and after it the closing lines of a deployment
pub record Reports (left : Option (List ℕ)) (v : Verdict) (status : Status) (old new : Option (List ℕ)) : Type 0 where
  pub lines : List OutLine
  pub judges : (bytes : List ℕ) → left ≡ Some bytes → Judges bytes v
  pub closes : (bytes : List ℕ) → left ≡ Some bytes → Closes bytes v [] lines
  pub status_is : status ≡ status_after v
  pub written : (was : List ℕ) → old ≡ Some was → new ≡ Some (was ++ report_text v lines)

-- or a prefix of it, where the sink failed
pub record ReportsPart (left : Option (List ℕ)) (v : Verdict) (old new : Option (List ℕ)) : Type 0 where
  pub lines : List OutLine
  pub judges : (bytes : List ℕ) → left ≡ Some bytes → Judges bytes v
  pub closes : (bytes : List ℕ) → left ≡ Some bytes → Closes bytes v [] lines
  pub written : (was : List ℕ) → old ≡ Some was → WritesPrefix was (report_text v lines) new

abbrev pub Runs : Option (List ℕ) → Status → Option (List ℕ) → Option (List ℕ) → Type 0
Runs left Status.Ok old new = (v : Verdict) × Reports left v Status.Ok old new
Runs left Status.Findings old new = (v : Verdict) × Reports left v Status.Findings old new
Runs left Status.Usage old new = new ≡ old
Runs left (Status.BadInput at why) old new = new ≡ old
Runs left (Status.Limit what at) old new = new ≡ old
Runs left (Status.ReadFault faults) old new = new ≡ old
Runs left (Status.WriteFault faults) old new = (v : Verdict) × ReportsPart left v old new
Runs left Status.NoMemory old new = new ≡ old

-- a status that comes of no verdict
abbrev pub IsStopped : Status → Type 0
IsStopped Status.Ok = ⊥
IsStopped Status.Findings = ⊥
IsStopped Status.Usage = ⊥
IsStopped (Status.BadInput at why) = Unit {0}
IsStopped (Status.Limit what at) = Unit {0}
IsStopped (Status.ReadFault faults) = Unit {0}
IsStopped (Status.WriteFault faults) = ⊥
IsStopped Status.NoMemory = Unit {0}

-- ---- without a verdict

-- why, by what the source had left and by its counts of faults before and after
abbrev pub IsUnjudged : Option (List ℕ) → ℕ → ℕ → Status → Type 0
IsUnjudged left old new Status.Ok = Unit {0}
IsUnjudged left old new Status.Findings = Unit {0}
IsUnjudged left old new Status.Usage = Unit {0}
IsUnjudged left old new (Status.BadInput at why) = Stops left old new (Stop.BadInput at why)
IsUnjudged left old new (Status.Limit what at) = Stops left old new (Stop.Limit what at)
IsUnjudged left old new (Status.ReadFault faults) = Stops left old new (Stop.ReadFault faults)
IsUnjudged left old new (Status.WriteFault faults) = Unit {0}
IsUnjudged left old new Status.NoMemory = Unit {0}
