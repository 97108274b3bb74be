use Rattle.std.proofs.Common.{◌≡◌, drop}
use Rattle.tx_face.specs.Codes.{code_given}
use Rattle.tx_face.proofs.code.Code.given.Given as goal

abbrev pub invariant-loop-output : goal.invariant-loop-output
invariant-loop-output l = code_given l.fn.node (drop l.output-index l.outputs) l.code ≡ code_given l.fn.node l.fn.outputs l.fn.before
