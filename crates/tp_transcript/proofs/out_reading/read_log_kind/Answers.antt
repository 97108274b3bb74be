use Rattle.std.proofs.Common.{◌≡◌, ℕ, Option, rules, refl}
use Rattle.tp_names.specs.declared.identifiers.Aaid.{Aaid}
use Rattle.tp_names.specs.declared.identifiers.BranchId.{BranchId}
use Rattle.tp_names.specs.declared.outcome.Outcome.{Outcome}
use Rattle.tp_names.specs.declared.outcome.Report.{Report}
use Rattle.tp_model.specs.declared.out_line.LogWords.{LogWords}
use Rattle.tp_transcript.specs.OutWords.{made_key}
use Rattle.tp_schedule.proofs.lemmas.Readings.{passed_plain, mapped}
use Rattle.tp_transcript.proofs.out_reading.read_log_kind.Goals as goal

pub returns-in-Ready : goal.returns-in-Ready
returns-in-Ready c =
    let f = λ (p : (ℕ × (Aaid × Option BranchId)) × Unit {0}). LogWords.Ready p.0.0 (made_key p.0.1) in
    let is : c.map-in-Ready.result ≡ mapped f c.keyed.result = search rules in
    rw c.in-Ready.is (passed_plain f _ _ _ _ refl c.keyed.ensures is)

pub returns-in-Heuristic : goal.returns-in-Heuristic
returns-in-Heuristic c =
    let f = λ (p : (ℕ × (Aaid × Option BranchId)) × Outcome). LogWords.Heuristic p.0.0 (made_key p.0.1) p.1 in
    let is : c.map-in-Heuristic.result ≡ mapped f c.keyed_outcome.result = search rules in
    rw c.in-Heuristic.is (passed_plain f _ _ _ _ refl c.keyed_outcome.ensures is)

pub returns-in-Commit : goal.returns-in-Commit
returns-in-Commit c =
    let f = λ (p : (ℕ × (Aaid × Option BranchId)) × Unit {0}). LogWords.Commit p.0.0 (made_key p.0.1) in
    let is : c.map-in-Commit.result ≡ mapped f c.keyed-in-Commit.result = search rules in
    rw c.in-Commit.is (passed_plain f _ _ _ _ refl c.keyed-in-Commit.ensures is)

pub returns-in-Damage : goal.returns-in-Damage
returns-in-Damage c =
    let f = λ (p : (ℕ × (Aaid × Option BranchId)) × (Outcome × Report)). LogWords.Damage p.0.0 (made_key p.0.1) p.1.0 p.1.1 in
    let is : c.map-in-Damage.result ≡ mapped f c.keyed_damage.result = search rules in
    rw c.in-Damage.is (passed_plain f _ _ _ _ refl c.keyed_damage.ensures is)

pub returns-in-End : goal.returns-in-End
returns-in-End c =
    let f = λ (p : (ℕ × (Aaid × Option BranchId)) × Outcome). LogWords.End p.0.0 (made_key p.0.1) p.1 in
    let is : c.map-in-End.result ≡ mapped f c.keyed_outcome-in-End.result = search rules in
    rw c.in-End.is (passed_plain f _ _ _ _ refl c.keyed_outcome-in-End.ensures is)
