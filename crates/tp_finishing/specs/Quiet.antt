-- Where recovery alone goes on: no node has an association, and none is active or rolls. One stop of each site leaves a world so.
use Rattle.std.specs.Prelude.{ℕ, ◌≡◌, ◌≤◌, false, List, [], ◌∷◌, ◌++◌, length}
use Rattle.tp_model.specs.Parts.{Digest}
use Rattle.tp_model.specs.Dialogues.{is_active, is_rolling}
use Rattle.tp_model.specs.Node.{phase_of}
use Rattle.tp_model.specs.World.{World, Node}
use Rattle.tp_model.specs.Happenings.{Happening, Crash, run}
use Rattle.tp_model.specs.Promises.{IsIn}
use Rattle.tp_finishing.specs.Doubt.{known_of}

pub record IsQuietAt (d : Digest) : Type 0 where
  pub arcs : d.arcs ≡ []
  pub active : is_active (phase_of d) ≡ false
  pub rolling : is_rolling (phase_of d) ≡ false

abbrev pub IsQuiet : World → Type 0
IsQuiet w = (x : Node) → IsIn w x → IsQuietAt (known_of x)

abbrev pub Each : (Happening → Type 0) → List Happening → Type 0
Each P [] = Unit {0}
Each P (e ∷ es) = P e × Each P es

-- a site stops, and starts again
abbrev pub IsStop : Happening → Type 0
IsStop (Crash s) = Unit {0}
IsStop _ = ⊥

-- after `more` of that kind, not longer than `most`, the world is quiet
pub record Quietens (P : Happening → Type 0) (most : ℕ) (es more : List Happening) : Type 0 where
  pub by : Each P more
  pub short : length more ≤ most
  pub quiet : IsQuiet (run (more ++ es))

abbrev pub StopsQuieten : Type 0
StopsQuieten = (es : List Happening) → (more : List Happening) × Quietens IsStop (length (run es).sites) es more
