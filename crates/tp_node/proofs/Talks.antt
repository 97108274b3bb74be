-- An arc that is not there.
use Rattle.std.proofs.Common.{◌≡◌, ℕ, Bool, true, false, None, List, [], ◌∷◌, refl, arith}
use Rattle.std.specs.Prelude.{◌==◌}
use Rattle.tp_model.specs.Parts.{Arc, Dialogue}
use Rattle.tp_model.specs.Arcs.{find_arc, with_dialogue}

-- an arc that is not there is not changed
pub put_none : (arcs : List Arc) (p : ℕ) (f : Dialogue → Dialogue) → find_arc arcs p ≡ None → arcs ≡ with_dialogue arcs p f
put_none [] p f none = refl
put_none (a ∷ arcs) p f none = go (a.peer.node == p) refl (put_none arcs p f)
  where
    go : (b : Bool) → (a.peer.node == p) ≡ b → (find_arc arcs p ≡ None → arcs ≡ with_dialogue arcs p f) → a ∷ arcs ≡ with_dialogue (a ∷ arcs) p f
    go true e rest = grind (arith, e, none)
    go false e rest = grind (arith, e, none, rest)
