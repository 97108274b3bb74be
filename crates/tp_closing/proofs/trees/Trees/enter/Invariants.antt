use Rattle.std.proofs.Common.{◌≡◌, List, length}
use Rattle.tp_deployments.specs.Deployments.{Deed, Place}
use Rattle.tp_closing.specs.Seen.{Sees, IsEntered, AreSeenTo, oldest_first}
use Rattle.tp_closing.proofs.trees.Trees.enter.Given as goal

-- the first so many are as after the entry
abbrev pub invariant-loop-i : goal.invariant-loop-i
invariant-loop-i l = record {
  slots : length l.self.slots.items ≡ length l.fn.self.slots.items;
  states : length l.self.states.items ≡ length l.fn.self.states.items;
  seen : (ds es : List Deed) (qs : List Place) → IsEntered ds es l.at l.shown → Sees ds qs l.fn.self → AreSeenTo es ds l.i (oldest_first qs) l.self.slots.items l.self.states.items;
}
