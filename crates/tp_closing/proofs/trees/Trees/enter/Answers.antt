-- All of them are as after it.
use Rattle.std.proofs.Common.{◌≤◌, arith, length}
use Rattle.std.specs.Prelude.{min}
use Rattle.tp_closing.specs.Seen.{oldest_first}
use Rattle.tp_closing.proofs.SeenTo.{seen_all}
use Rattle.tp_closing.proofs.trees.Trees.enter.Goals as goal

pub returns : goal.returns
returns c = λ ds es qs is seen.
    let v = c.loop-i.self in
    let past : min (length v.slots.items) (length v.states.items) ≤ c.loop-i.i = omega (arith, c.len.ensures, c.len-2.ensures, c.min-i-end.ensures, c.loop-i.invariant.slots, c.loop-i.invariant.states, c.loop-i-test.false) in
    seen_all es ds c.loop-i.i (oldest_first qs) v.slots.items v.states.items past (c.loop-i.invariant.seen ds es qs is seen)
