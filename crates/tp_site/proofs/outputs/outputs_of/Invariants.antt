-- What is made of the outputs so far, and what is left to make, are all of them; and what is left has texts.
use Rattle.std.proofs.Common.{◌≡◌, length, map}
use Rattle.std.specs.Vec.Iter.{into_iter_items, into_iter_len}
use Rattle.tp_model.specs.Refusal.{number_in}
use Rattle.tp_encodable.specs.Sizes.{AreShort}
use Rattle.tp_node_state.specs.Outs.{out_of}
use Rattle.tp_site.specs.Events.{given_out}
use Rattle.tp_site.proofs.Giving.{IsGoing}
use Rattle.tp_site.proofs.outputs.outputs_of.Given as goal

abbrev pub invariant-loop-out : goal.invariant-loop-out
invariant-loop-out l = record {
  left : into_iter_len l.out-iterator ≡ length (into_iter_items l.out-iterator);
  going : IsGoing l.from.site l.from.node (given_out l.from.site l.from.node (number_in l.fn.refusal) l.fn.outs) l.outputs (into_iter_items l.out-iterator);
  short : AreShort (map out_of (into_iter_items l.out-iterator));
}
