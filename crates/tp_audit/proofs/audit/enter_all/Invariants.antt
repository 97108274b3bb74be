use Rattle.std.proofs.Common.{◌≡◌, ◌+◌, ◌^◌, ◌<◌, ◌≤◌, List, length}
use Rattle.tp_logrec.specs.Order.{Life}
use Rattle.tp_audit.specs.Entries.{Entry}
use Rattle.tp_audit.specs.Summaries.{summaries}
use Rattle.tp_audit.specs.Ledgers.{IsLedgerOf}
use Rattle.tp_audit.proofs.Judging.{IsUnderWay}
use Rattle.tp_audit.proofs.audit.enter_all.Given as goal

abbrev pub invariant-loop-owner : goal.invariant-loop-owner
invariant-loop-owner l = record {
  next : (goal.iterator-loop-owner).can_next l.owner-iterator;
  finite : (goal.iterator-loop-owner).is_finite l.owner-iterator;
  room : length l.owner-iterator ≤ l.ledger.room;
  numbers : l.ledger.count + length l.owner-iterator < 2 ^ 64;
  under_way : (es : List Entry) (ls : List Life) → IsLedgerOf es l.initial.ledger → l.keys.entries ≡ summaries ls → IsUnderWay l.site es ls l.ledger l.owner-iterator;
}
