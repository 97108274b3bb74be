use Rattle.std.proofs.Common.{◌≡◌, ◌++◌, drop}
use Rattle.tp_names.specs.Bytes.{each_child_bytes}
use Rattle.tp_names.specs.Writing.{Keeps}
use Rattle.tp_logrec.proofs.encode.write_each_child.Given as goal

abbrev pub invariant-loop-child : goal.invariant-loop-child
invariant-loop-child l = record { kept : Keeps l.fn.out l.out; text : l.out ++ each_child_bytes (drop l.child-index l.children) ≡ l.fn.out ++ each_child_bytes l.children }
