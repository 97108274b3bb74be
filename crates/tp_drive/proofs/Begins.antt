-- A lane on a log on which a site has started.
use Rattle.std.proofs.Common.{◌≡◌, ℕ, ◌+◌, Bool, List, [], ◌∷◌, ◌++◌, length, refl, ap, ◌∙◌}
use Rattle.std.proofs.lemmas.List.{append-nil}
use Rattle.tp_logrec.specs.declared.record.LogRec.{LogRec}
use Rattle.tp_model.specs.NodeRun.{Opening}
use Rattle.tp_journal.specs.declared.receipts.Receipt.{Receipt}
use Rattle.tp_journal.specs.Records.{receipts_from, placed, first_place, text}
use Rattle.tp_shared_log.specs.Shares.{Shared, share_standing}
use Rattle.tp_site.specs.Resume.{IsStartedOn}
use Rattle.tp_drive.specs.Begun.{IsBegun, recs, booted}

recs_from : (wide : Bool) (rs : List LogRec) (at : ℕ) → recs (receipts_from at wide rs) ≡ rs
recs_from wide [] at = refl
recs_from wide (r ∷ rs) at = ap (λ (l : List LogRec). r ∷ l) (recs_from wide rs (at + 3 + length (text wide r)))

-- the records that stand at places are the records
pub recs-placed : (wide : Bool) (rs : List LogRec) → recs (placed wide rs) ≡ rs
recs-placed wide rs = recs_from wide rs (first_place wide)

pub begun_records : (stood : List Receipt) (wide : Bool) (o : Opening) (name : List ℕ) (boot : ℕ) → IsBegun stood wide o name boot → recs stood ≡ booted o
begun_records stood wide o name boot b = ap recs b.records ∙ recs-placed wide (booted o)

-- a share that has forced nothing stands where the site has started
pub started_on : (stood : List Receipt) (wide : Bool) (o : Opening) (name : List ℕ) (boot : ℕ) (s : Shared) → IsBegun stood wide o name boot → s.receipts ≡ [] → IsStartedOn (share_standing stood wide s) name boot o
started_on stood wide o name boot s b none = record {
  site = b.site;
  version = b.version;
  boot = b.number;
  told = begun_records stood wide o name boot b ∙ ap (λ (n : ℕ). o.records ++ LogRec.Boot n ∷ []) b.number;
  kept = ap (λ (l : List Receipt). recs (stood ++ l)) none ∙ ap recs (append-nil stood);
}
