use Rattle.std.proofs.Common.{◌≡◌, ◌+◌, ◌++◌, drop, take, length}
use Rattle.tp_model.specs.Transactions.{fresh_rows}
use Rattle.tp_commit.proofs.row_list.RowList.begin_each.Given as goal

-- those before are begun, and those that are left follow; the first of them are those that were there
abbrev pub invariant-loop-child : goal.invariant-loop-child
invariant-loop-child l = record {
  begun : l.fn.self ++ fresh_rows l.arcs ≡ l.self ++ fresh_rows (drop l.child-index l.arcs);
  count : length l.self ≡ length l.fn.self + l.child-index;
  first : take (length l.fn.self) l.self ≡ l.fn.self;
}
