use Rattle.std.proofs.Common.{drop, map}
use Rattle.tp_site.specs.Outs.{out_of}
use Rattle.tp_world.proofs.Outputs.{AreGoing}
use Rattle.tp_world.proofs.world.World.give_all.Given as goal

abbrev pub invariant-loop-out : goal.invariant-loop-out
invariant-loop-out l = AreGoing l.from l.outs (map out_of (drop l.out-index l.out-items)) l.fn.lines l.lines l.fn.self l.self
