-- N processes on N machines, and what a carrier brings from one to another: what happened, in the order of time. Each site is run by one
-- process after the other, each on the log that the one before it left. Nothing is said of when anything happens, or that it does.
use Rattle.std.specs.Prelude.{ℕ, ◌≡◌, ◌==◌, ◌⊎◌, ◌||◌, Bool, false, Option, Some, List, [], ◌∷◌, ◌++◌, if◌then◌else◌}
use Rattle.tp_names.specs.declared.identifiers.Addr.{Addr}
use Rattle.tp_names.specs.Same.{is_name}
use Rattle.tp_records.specs.declared.request.Request.{Request}
use Rattle.tp_records.specs.declared.body.Event.{Event as Given}
use Rattle.tp_model.specs.Parts.{Event, Entry, Answer}
use Rattle.tp_model.specs.History.{answer}
use Rattle.tp_model.specs.NodeRun.{AskedEvent, Refuses, Is, asked, origin_at}
use Rattle.tp_histories.specs.Histories.{HasSent}
use Rattle.tp_site_logs.specs.Lives.{Life, opening_after, history_in, history_over}

-- ---- what happens

pub data Deed : Type 0 where
  -- a process of that site starts on the log that is there, and has forced its boot; whatever process ran there before has stopped
  Starts : List ℕ → Deed
  -- the process of that site is given an event, and it happens: its record, if it has one, stands in the log that the process leaves, and
  -- whatever the process wrote, it wrote of events that happened
  Takes : List ℕ → Given → Deed

abbrev pub with_given : Given → Life → Life
with_given g [] = []
with_given g (gs ∷ life) = (gs ++ g ∷ []) ∷ life

-- the life of the site of that name; the deeds stand newest first
abbrev pub life_after : List Deed → List ℕ → Life
life_after [] s = []
life_after (Starts n ∷ ds) s = if is_name n s then [] ∷ life_after ds s else life_after ds s
life_after (Takes n g ∷ ds) s = if is_name n s then with_given g (life_after ds s) else life_after ds s

-- the history of the node at that address: those of all processes of its site, with a stop between one and the next
abbrev pub history_at : List Deed → Addr → List Entry
history_at ds a = history_over a.site (life_after ds a.site) a.node

-- ---- where nodes stand

-- the address of a node, and its superior's, where it has one
pub record Place : Type 0 where
  pub addr : Addr
  pub superior : Option Addr

abbrev pub has_number : List Place → ℕ → Bool
has_number [] n = false
has_number (q ∷ qs) n = (q.addr.node == n) || has_number qs n

abbrev pub IsAmong : Place → List Place → Type 0
IsAmong p [] = ⊥
IsAmong p (q ∷ qs) = (q ≡ p) ⊎ IsAmong p qs

-- a node stands at the address
abbrev pub IsThere : List Place → Addr → Type 0
IsThere qs a = (p : Place) × IsAmong p qs × (p.addr ≡ a)

-- each number is used once, and a superior stands behind in the list, so that no node is below itself
abbrev pub AreArranged : List Place → Type 0
AreArranged [] = Unit {0}
AreArranged (q ∷ qs) = (has_number qs q.addr.node ≡ false) × ((a : Addr) → q.superior ≡ Some a → IsThere qs a) × AreArranged qs

-- ---- what is asked of an event that a node takes, and of nothing else: what is refused may come from anywhere

-- a node is declared where it stands, and a dialogue is asked for with a node that stands somewhere
abbrev pub IsPlaced : List Place → Place → Event → Type 0
IsPlaced qs q (Event.Declare s) = s ≡ q.superior
IsPlaced qs q (Event.Do (Request.BeginDialogue a u)) = IsThere qs a
IsPlaced qs q _ = Unit {0}

-- **the carrier**: a record that arrives was said to that address, some time before, by the node that it is said to be from
abbrev pub IsCarried : List Place → List Deed → Addr → Event → Type 0
IsCarried qs ds to (Event.Arrive from r) = IsThere qs from × HasSent (history_at ds from) to r
IsCarried qs ds to _ = Unit {0}

pub record IsHeeded (qs : List Place) (ds : List Deed) (at : Addr) (e : Event) : Type 0 where
  pub place : Place
  pub among : IsAmong place qs
  pub here : place.addr ≡ at
  pub placed : IsPlaced qs place e
  pub carried : IsCarried qs ds at e

-- what the process of a site answers to an event of a node
abbrev pub answered : List ℕ → List Given → Life → ℕ → Event → Answer
answered s gs life n e = answer (origin_at (opening_after s life) n) (history_in s life gs n) e

abbrev pub IsFit : List Place → List Deed → List ℕ → List Given → Life → AskedEvent → Type 0
IsFit qs ds s gs life (Refuses k) = Unit {0}
IsFit qs ds s gs life (Is n e) = (y : Entry) → (answered s gs life n e).entry ≡ Some y → IsHeeded qs ds (record { site = s; node = n }) e

-- a process runs, and is given the event
abbrev pub IsTaken : List Place → List Deed → List ℕ → Life → Given → Type 0
IsTaken qs ds s [] g = ⊥
IsTaken qs ds s (gs ∷ life) g = IsFit qs ds s gs life (asked (opening_after s life) g)

abbrev pub IsDeployment : List Place → List Deed → Type 0
IsDeployment qs [] = Unit {0}
IsDeployment qs (Starts s ∷ ds) = IsDeployment qs ds
IsDeployment qs (Takes s g ∷ ds) = IsTaken qs ds s (life_after ds s) g × IsDeployment qs ds
