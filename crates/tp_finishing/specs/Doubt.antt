-- A node in doubt hears how its tree ended once its superior knows: by one retry and two deliveries, with its associations in place.
use Rattle.std.specs.Prelude.{ℕ, suc, ◌≡◌, ◌≤◌, ◌<◌, ◌+◌, ◌⊎◌, true, false, Some, List, [], ◌∷◌, length}
use Rattle.tp_model.specs.declared.arc.Phase.{Phase}
use Rattle.tp_model.specs.declared.line.Action.{Action}
use Rattle.tp_model.specs.Parts.{Link, Live, Arc, Current, Digest}
use Rattle.tp_model.specs.Links.{greatest}
use Rattle.tp_model.specs.Dialogues.{is_active, is_ready}
use Rattle.tp_model.specs.Node.{phase_of}
use Rattle.tp_model.specs.History.{digest}
use Rattle.tp_model.specs.World.{World, Node, number_of, addr_of}
use Rattle.tp_model.specs.Happenings.{Happening, Does, run}
use Rattle.tp_model.specs.Promises.{IsIn}

-- what is known of a node
abbrev pub known_of : Node → Digest
known_of x = digest x.origin x.history

-- each live association has so many numbers left for records
abbrev pub sent_on_link : Link → ℕ
sent_on_link (Live x y sent taken) = sent
sent_on_link _ = 0

abbrev pub HaveNumbers : ℕ → List Arc → Type 0
HaveNumbers n [] = Unit {0}
HaveNumbers n (a ∷ arcs) = (sent_on_link a.link + n ≤ greatest) × HaveNumbers n arcs

-- x is in doubt, and y is its superior, which is neither active nor in doubt itself. An association has a number left for a word to
-- each branch, and one to the superior
pub record IsInDoubt (w : World) (x y : Node) : Type 0 where
  pub here : IsIn w x
  pub above : IsIn w y
  pub superior : x.superior ≡ Some (addr_of y)
  pub current : Current
  pub at : (known_of x).current ≡ Some current
  pub ready : is_ready current.phase ≡ true
  pub numbers : HaveNumbers (suc (length current.branches)) (known_of x).arcs
  pub calm : is_active (phase_of (known_of y)) ≡ false
  pub knows : is_ready (phase_of (known_of y)) ≡ false

-- a retry of x, and the delivery of two frames that were sent since
pub record Resolves (es : List Happening) (x : Node) : Type 0 where
  -- the question, and its answer
  pub asks : ℕ
  pub answers : ℕ
  pub asks_new : length (run es).frames < asks
  pub answers_new : length (run es).frames < answers
  -- the node after it
  pub node : Node
  pub here : IsIn (run (Does (Action.Again answers) ∷ Does (Action.Again asks) ∷ Does (Action.Retry (number_of x)) ∷ es)) node
  pub origin : node.origin ≡ x.origin
  pub resolved : (phase_of (known_of node) ≡ Phase.Committing) ⊎ (phase_of (known_of node) ≡ Phase.Rolling)

abbrev pub DoubtEnds : Type 0
DoubtEnds = (es : List Happening) (x y : Node) → IsInDoubt (run es) x y → Resolves es x
