-- What was written is the verdict over what was read.
use Rattle.std.proofs.Common.{◌≡◌, ℕ, Option, Some, List, [], refl}
use Rattle.tp_model.specs.declared.out_line.OutLine.{OutLine}
use Rattle.tp_unite.specs.declared.verdict.Verdict.{Verdict}
use Rattle.tp_unite.specs.Verdicts.{Judges, Closes}
use Rattle.tpunite.specs.declared.status.Status.{Status}
use Rattle.tpunite.specs.Runs.{Writes, Runs, IsStopped, IsUnjudged}

pub reported : (left : Option (List ℕ)) (v : Verdict) (lines : List OutLine) (status : Status) (old new : Option (List ℕ)) → ((bytes : List ℕ) → left ≡ Some bytes → Judges bytes v) → ((bytes : List ℕ) → left ≡ Some bytes → Closes bytes v [] lines)
    → Writes v lines status old new → Runs left status old new
reported left v lines Status.Ok old new judges closes wrote = (v, record { lines = lines; judges = judges; closes = closes; status_is = wrote.status_is; written = wrote.written })
reported left v lines Status.Findings old new judges closes wrote = (v, record { lines = lines; judges = judges; closes = closes; status_is = wrote.status_is; written = wrote.written })
reported left v lines Status.Usage old new judges closes wrote = absurd wrote
reported left v lines (Status.BadInput at why) old new judges closes wrote = absurd wrote
reported left v lines (Status.Limit what at) old new judges closes wrote = absurd wrote
reported left v lines (Status.ReadFault faults) old new judges closes wrote = absurd wrote
reported left v lines (Status.WriteFault faults) old new judges closes wrote = (v, record { lines = lines; judges = judges; closes = closes; written = wrote })
reported left v lines Status.NoMemory old new judges closes wrote = wrote

pub stopped : (left : Option (List ℕ)) (status : Status) (w : Option (List ℕ)) → IsStopped status → Runs left status w w
stopped left Status.Ok w is = absurd is
stopped left Status.Findings w is = absurd is
stopped left Status.Usage w is = absurd is
stopped left (Status.BadInput at why) w is = refl
stopped left (Status.Limit what at) w is = refl
stopped left (Status.ReadFault faults) w is = refl
stopped left (Status.WriteFault faults) w is = absurd is
stopped left Status.NoMemory w is = refl

-- where there is one
pub judged : (v : Verdict) (lines : List OutLine) (status : Status) (was now : Option (List ℕ)) (left : Option (List ℕ)) (old new : ℕ) → Writes v lines status was now → IsUnjudged left old new status
judged v lines Status.Ok was now left old new wrote = tt
judged v lines Status.Findings was now left old new wrote = tt
judged v lines Status.Usage was now left old new wrote = tt
judged v lines (Status.BadInput at why) was now left old new wrote = absurd wrote
judged v lines (Status.Limit what at) was now left old new wrote = absurd wrote
judged v lines (Status.ReadFault faults) was now left old new wrote = absurd wrote
judged v lines (Status.WriteFault faults) was now left old new wrote = tt
judged v lines Status.NoMemory was now left old new wrote = tt
