-- What is known of a node after a history, part by part, against what the questions of the whole history answer. All
-- parts together say that the digest agrees.
use Rattle.std.specs.Prelude.{ℕ, ◌==◌, Bool, List, [], ◌∷◌, if◌then◌else◌}
use Rattle.tp_names.specs.Same.{is_addr_option}
use Rattle.tp_model.specs.Parts.{Origin, Entry, Arc}
use Rattle.tp_steps.specs.Ends.{is_there}
use Rattle.tp_model.specs.History.{digest}
use Rattle.tp_model.specs.Questions.{declared_in, superior_in, boot_in}
use Rattle.tp_histories.specs.KnownTests.{same_bool}

-- ---- the node

abbrev pub declared_agrees : Origin → List Entry → Bool
declared_agrees o h = same_bool (digest o h).declared (declared_in h)

abbrev pub superior_agrees : Origin → List Entry → Bool
superior_agrees o h = is_addr_option (digest o h).superior (superior_in h)

abbrev pub boot_agrees : Origin → List Entry → Bool
boot_agrees o h = (digest o h).boot == boot_in o h

-- of some numbers, those that an arc leads to
abbrev pub with_an_arc : List Arc → List ℕ → List ℕ
with_an_arc arcs [] = []
with_an_arc arcs (p ∷ ps) = if is_there p arcs then p ∷ with_an_arc arcs ps else with_an_arc arcs ps
