use Rattle.std.proofs.Common.{◌≡◌, ◌++◌, [], map}
use Rattle.std.specs.List.{All}
use Rattle.tp_turns.specs.Turns.{lists_of}
use Rattle.tp_shared_log.proofs.closing.join_slips.Given as goal

abbrev pub invariant-loop-slip : goal.invariant-loop-slip
invariant-loop-slip g l = record {
  of : All (λ s. s.of ≡ l.fn.turns.table.shared.table_id) l.slip-iterator.rest.items;
  id : l.root.table_id ≡ l.initial.root.table_id;
  none : l.root.me.1 ≡ [];
  lists : lists_of l.root.me.0.claims ≡ lists_of l.initial.root.me.0.claims ++ map (λ s. s.receipts) l.yielded;
}
