use Rattle.std.proofs.Common.{◌≤◌, length}
use Rattle.tp_seal.proofs.Reading.{Reads}
use Rattle.tp_seal.proofs.front.front_of.Given as goal

abbrev pub invariant-loop-rest : goal.invariant-loop-rest
invariant-loop-rest l = (length l.rest ≤ length l.log) × Reads l.log l.rest

abbrev pub decreases-loop-rest : goal.decreases-loop-rest
decreases-loop-rest l = length l.rest
