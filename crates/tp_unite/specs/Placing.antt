-- What an event names: the nodes of a recording have their places, and an event may be of one that has none.
use Rattle.std.specs.Prelude.{ℕ, ◌≡◌, Bool, true, Some, List, [], ◌∷◌}
use Rattle.std.specs.Option.{is_some}
use Rattle.tp_names.specs.Same.{is_addr_option}
use Rattle.tp_records.specs.declared.request.Request.{Request}
use Rattle.tp_records.specs.declared.body.Event.{Event as Given}
use Rattle.tp_model.specs.Parts.{Event, Entry}
use Rattle.tp_model.specs.NodeRun.{Is, asked}
use Rattle.tp_site_logs.specs.Lives.{Life, opening_after}
use Rattle.tp_deployments.specs.Deployments.{Place, life_after, answered}
use Rattle.tp_weaving.specs.declared.places.Place.{Place as TheirPlace}
use Rattle.tp_weaving.specs.Frames.{Record}
use Rattle.tp_weaving.specs.Places.{find_place}
use Rattle.tp_weaving.specs.Steps.{HasPlace}

-- by the place of its node
abbrev pub names_placed : List Place → TheirPlace → Event → Bool
names_placed qs q (Event.Declare s) = is_addr_option s q.superior
names_placed qs q (Event.Do (Request.BeginDialogue a u)) = is_some (find_place qs a)
names_placed qs q (Event.Arrive from r) = is_some (find_place qs from)
names_placed qs q _ = true

-- after its deeds the site is given an event that happens at a node; but the node has no place, or is declared under another superior
-- than its place has, or the event names a node that has no place
pub record IsMisplaced (qs : List Place) (r : Record) (g : Given) : Type 0 where
  pub given : List Given
  pub life : Life
  pub lived : life_after r.deeds r.site ≡ given ∷ life
  pub node : ℕ
  pub event : Event
  pub asks : asked (opening_after r.site life) g ≡ Is node event
  pub entry : Entry
  pub made : (answered r.site given life node event).entry ≡ Some entry
  pub unplaced : HasPlace qs (record { site = r.site; node = node }) event → ⊥

-- of the site whose process started last
abbrev pub MisplacesOf : List Place → List Record → Given → Type 0
MisplacesOf qs [] g = ⊥
MisplacesOf qs (r ∷ rs) g = IsMisplaced qs r g
