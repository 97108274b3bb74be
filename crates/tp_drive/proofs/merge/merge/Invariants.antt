use Rattle.std.proofs.Common.{List, length}
use Rattle.std.specs.List.{sum_by}
use Rattle.tp_journal.specs.declared.receipts.Receipt.{Receipt}
use Rattle.tp_model.specs.Lanes.{IsInterleaving}
use Rattle.tp_drive.specs.Merging.{AreRising}
use Rattle.tp_drive.proofs.Merging.{IsLeft}
use Rattle.tp_drive.proofs.merge.merge.Given as goal

abbrev pub invariant-loop-at : goal.invariant-loop-at
invariant-loop-at l = record {
  left : (whole : List Receipt) → AreRising whole → IsInterleaving whole l.fn.queues → IsLeft whole l.receipts l.queues;
}

abbrev pub decreases-loop-at : goal.decreases-loop-at
decreases-loop-at l = sum_by (λ q. length q) l.queues
