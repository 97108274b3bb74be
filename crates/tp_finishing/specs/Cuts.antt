-- A world may be made quiet without a stop: each association is lost, users that owe it say that they have finished, and those of
-- transactions that are still active ask for rollback.
use Rattle.std.specs.Prelude.{ℕ, suc, ◌≡◌, ◌+◌, ◌||◌, true, Some, List, [], ◌∷◌, length, if◌then◌else◌}
use Rattle.tp_model.specs.declared.line.LineRequest.{LineRequest}
use Rattle.tp_model.specs.declared.line.Action.{Action}
use Rattle.tp_model.specs.Parts.{Current, Digest}
use Rattle.tp_model.specs.Dialogues.{is_active, is_rolling}
use Rattle.tp_model.specs.Node.{phase_of}
use Rattle.tp_model.specs.World.{World, Node}
use Rattle.tp_model.specs.Happenings.{Happening, Does, run}
use Rattle.tp_model.specs.Promises.{IsIn}
use Rattle.tp_finishing.specs.Doubt.{known_of, HaveNumbers}
use Rattle.tp_finishing.specs.Quiet.{Quietens}

-- ---- cuts

abbrev pub IsCut : Happening → Type 0
IsCut (Does (Action.Lose n p)) = Unit {0}
IsCut (Does (Action.Do n LineRequest.Done)) = Unit {0}
IsCut (Does (Action.Do n LineRequest.Rollback)) = Unit {0}
IsCut _ = ⊥

-- ---- where they do

-- An active transaction has a number left on each association for a word to each branch and one to the superior: its rollback is
-- said there.
abbrev pub MayBeCut : Digest → Type 0
MayBeCut d = (c : Current) → d.current ≡ Some c → is_active c.phase ≡ true → HaveNumbers (suc (length c.branches)) d.arcs

abbrev pub AllMayBeCut : World → Type 0
AllMayBeCut w = (x : Node) → IsIn w x → MayBeCut (known_of x)

-- ---- how many: one for each association, and one for a transaction that is active or rolls back

abbrev pub cuts_at : Digest → ℕ
cuts_at d = length d.arcs + (if is_active (phase_of d) || is_rolling (phase_of d) then 1 else 0)

abbrev pub most_cuts : List Node → ℕ
most_cuts [] = 0
most_cuts (x ∷ xs) = cuts_at (known_of x) + most_cuts xs

abbrev pub CutsQuieten : Type 0
CutsQuieten = (es : List Happening) → AllMayBeCut (run es) → (more : List Happening) × Quietens IsCut (most_cuts (run es).nodes) es more
