-- What was written is the picture of what was read.
use Rattle.std.proofs.Common.{◌≡◌, ℕ, Option, Some, List, ◌++◌, ap, subst, refl, ◌∙◌}
use Rattle.tp_streams.specs.Written.{WritesPrefix}
use Rattle.tp_draw.specs.declared.drawing.Form.{Form}
use Rattle.tpdraw.specs.declared.status.Status.{Status}
use Rattle.tpdraw.specs.Runs.{IsPicture, WritesText, Draws}

pub drawn : (form : Form) (left : Option (List ℕ)) (text : List ℕ) (before after : ℕ) (old new : Option (List ℕ)) (status : Status)
    → ((bytes : List ℕ) → left ≡ Some bytes → IsPicture form bytes text) → WritesText text before after old new status → Draws (Some form) left status old new
drawn form left text before after old new Status.Ok pictured wrote = (
  form,
  refl,
  λ bytes is.
      let p = pictured bytes is in
      record { lines = p.lines; are = p.are; written = λ was from. wrote was from ∙ ap (λ (t : List ℕ). Some (was ++ t)) p.is },
)
drawn form left text before after old new Status.Usage pictured wrote = absurd wrote
drawn form left text before after old new (Status.BadInput at why) pictured wrote = absurd wrote
drawn form left text before after old new (Status.ReadFault faults) pictured wrote = absurd wrote
drawn form left text before after old new (Status.WriteFault faults) pictured wrote = (
  form,
  refl,
  λ bytes is.
      let p = pictured bytes is in
      record { lines = p.lines; are = p.are; written = λ was from. subst (λ (t : List ℕ). WritesPrefix was t new) p.is (wrote.1 was from) },
)
drawn form left text before after old new Status.NoMemory pictured wrote = absurd wrote
