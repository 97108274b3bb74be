-- What the records of a log make its nodes answer, whatever the boot number.
use Rattle.std.proofs.Common.{◌≡◌, ℕ, Bool, true, false, if◌then◌else◌, ◌&&◌, ◌||◌, Some, None, List, refl, ap, ◌∙◌}
use Rattle.tp_names.specs.declared.identifiers.Aaid.{Aaid}
use Rattle.tp_names.specs.declared.identifiers.BranchId.{BranchId}
use Rattle.tp_records.specs.declared.peer.RecState.{RecState}
use Rattle.tp_logrec.specs.declared.record.LogRec.{LogRec}
use Rattle.tp_logrec.specs.declared.record.LogVersion.{LogVersion}
use Rattle.tp_model.specs.declared.recovery.Known.{Known}
use Rattle.tp_model.specs.declared.recovery.Question.{Question}
use Rattle.tp_model.specs.Dialogues.{is_active, is_ready, is_committing}
use Rattle.tp_model.specs.Parts.{Digest}
use Rattle.tp_model.specs.Events.{started}
use Rattle.tp_model.specs.Recovery.{is_kept_commit, recovery_answer}
use Rattle.tp_model.specs.NodeRun.{boot_of, records_at}
use Rattle.tp_site.specs.Nodes.{Nodes, digest_at, find_node, AreFrom}
use Rattle.tp_site.specs.Recalled.{answer_to_ready, log_at, IsRecalled}
use Rattle.tp_site.proofs.Numbered.{unfound}

-- an answer is found in the records, whatever the boot number
boot_aside : (b c : ℕ) (v : LogVersion) (rs : List LogRec) (t : Aaid) (x : BranchId)
    → answer_to_ready (started (record { boot = b; version = v; records = rs })) t x ≡ answer_to_ready (started (record { boot = c; version = v; records = rs })) t x
unfolding started
boot_aside b c v rs t x = refl

pub recalled : (site : List ℕ) (version : LogVersion) (rs : List LogRec) (v : Nodes) → AreFrom rs v → v.version ≡ version → IsRecalled (log_at site version rs) (record { nodes = v })
recalled site version rs v from is = record {
  answers = λ n t b.
      ap (λ (d : Digest). answer_to_ready d t b) (from n ∙ ap (λ (w : LogVersion). started (record { boot = v.boot; version = w; records = records_at n rs })) is)
      ∙ boot_aside v.boot (boot_of (log_at site version rs)) version (records_at n rs) t b;
}

-- a node of which the log has no record knows of nothing
pub unfound_answer : (v : Nodes) (n : ℕ) (t : Aaid) (b : BranchId) → None ≡ find_node v n → answer_to_ready (digest_at v n) t b ≡ Some RecState.Unknown
unfolding started recovery_answer
unfound_answer v n t b is = ap (λ (d : Digest). answer_to_ready d t b) (unfound v n is)

-- a ready branch is always answered
pub answers_ready : (k : Known) → None ≡ recovery_answer k Question.RecReady → ⊥
unfolding recovery_answer
answers_ready k is = go (is_committing k.phase || is_kept_commit k.kept) ((is_active k.phase || is_ready k.phase) && k.branch) is
  where
    go : (a b : Bool) → None ≡ (if a then Some RecState.Commit else if b then Some RecState.RetryLater else Some RecState.Unknown) → ⊥
    go true b i = cc (i)
    go false true i = cc (i)
    go false false i = cc (i)
