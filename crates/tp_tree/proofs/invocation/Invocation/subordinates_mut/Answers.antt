use Rattle.std.proofs.Common.{◌≡◌, ◌∙◌, ℕ, List, ◌++◌, length, take, drop, ap, refl}
use Rattle.tp_tree.specs.declared.tie.Tie.{Tie}
use Rattle.tp_tree.specs.Invocation.{Invocation, value_of, with_below}
use Rattle.tp_tree.proofs.invocation.Invocation.subordinates_mut.Goals as goal

pub returns : goal.returns
returns c =
    let len : c.self.inside.below.len ≡ length c.self.inside.below.items = c.self.inside.below.ok.0 in
    let filled : List Tie → ℕ → Invocation = λ w n. record (value_of c.self.inside) { below = take n (w ++ drop (length w) c.self.inside.below.items) } in (
      (refl, λ w. ap (filled w) len ∙ ap (λ (v : Invocation). with_below v w) c.self.view_is),
      record { written = tt; value = c.as_mut_slice.ensures.value ∙ ap (λ (v : Invocation). v.below) c.self.view_is },
    )
