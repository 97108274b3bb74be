use Rattle.std.proofs.Common.{◌≡◌, ◌+◌, length, drop}
use Rattle.tp_names.specs.Bytes.{each_child_bytes}
use Rattle.tp_journal.proofs.lengths.each_child_len.Given as goal

abbrev pub invariant-loop-child : goal.invariant-loop-child
invariant-loop-child l = l.len + length (each_child_bytes (drop l.child-index l.children)) ≡ length (each_child_bytes l.children)
