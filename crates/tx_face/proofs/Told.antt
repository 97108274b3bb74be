-- The code by the outputs of a site is the code by what its node told.
use Rattle.std.proofs.Common.{◌≡◌, ◌==◌, ℕ, false, refl, arith, Option, Some, None, List, [], ◌∷◌, ◌++◌}
use Rattle.std.proofs.lemmas.Bool.Decides.{nat_tests}
use Rattle.tp_records.specs.declared.body.Output.{Output}
use Rattle.tp_model.specs.Parts.{Out, Tell, Send}
use Rattle.tp_model.specs.NodeRun.{Opening, refusal_of, outputs_of}
use Rattle.tx_face.specs.declared.code.Code.{Code}
use Rattle.tx_face.specs.Codes.{code_by, code_told, code_given}

-- the number of a refusal tells nothing
pub given_refusal : (n : ℕ) (number : Option ℕ) (outputs : List Output) (before : Option Code) → code_given n (refusal_of number ++ outputs) before ≡ code_given n outputs before
given_refusal n None outputs before = refl
given_refusal n (Some k) outputs before = refl

-- the node's own outputs
pub given_own : (o : Opening) (n : ℕ) (outs : List Out) (before : Option Code) → code_given n (outputs_of o n outs) before ≡ code_told outs before
given_own o n [] before = refl
given_own o n (Tell i ∷ outs) before = grind (arith, nat_tests, given_own o n outs (code_by i before))
given_own o n (Send to r ∷ outs) before = given_own o n outs before

-- those of another
pub given_other : (o : Opening) (n m : ℕ) (outs : List Out) (before : Option Code) → (m == n) ≡ false → code_given n (outputs_of o m outs) before ≡ before
given_other o n m [] before other = refl
given_other o n m (Tell i ∷ outs) before other = rw (other, code_given) (given_other o n m outs before other)
given_other o n m (Send to r ∷ outs) before other = given_other o n m outs before other
