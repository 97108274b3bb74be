-- The frames of a recording, and what they tell: where nodes stand, and of each site what its processes were given, one process after
-- the other.
use Rattle.std.specs.Prelude.{ℕ, suc, ◌+◌, ◌*◌, ◌==◌, ◌&&◌, Bool, true, false, Option, Some, None, option_map, List, [], ◌∷◌, length}
use Rattle.tp_names.specs.Bytes.{is_site_name}
use Rattle.tp_names.specs.Same.{is_name}
use Rattle.tp_records.specs.declared.body.Event.{Event as Given}
use Rattle.tp_records.specs.BodyReading.{event_in}
use Rattle.tp_deployments.specs.Deployments.{Deed, Starts, Takes, Place as APlace}
use Rattle.tp_weaving.specs.declared.frame.Frame.{Frame}
use Rattle.tp_weaving.specs.Places.{placed}

-- ---- frames

-- the name of a site after its length
abbrev pub site_in : ℕ → List ℕ → Option (List ℕ)
site_in n name = elim ((length name == n) && is_site_name name) [ true ↦ Some name | false ↦ None ]

-- a node's number and its site; before the site the number of its superior, where it has one
abbrev pub place_in : List ℕ → Option Frame
place_in (high ∷ low ∷ n ∷ name) = option_map (λ s. Frame.Place (high * 256 + low) None s) (site_in n name)
place_in _ = None

abbrev pub place_under_in : List ℕ → Option Frame
place_under_in (high ∷ low ∷ above ∷ below ∷ n ∷ name) = option_map (λ s. Frame.Place (high * 256 + low) (Some (above * 256 + below)) s) (site_in n name)
place_under_in _ = None

abbrev pub start_in : List ℕ → Option Frame
start_in (n ∷ name) = option_map (λ s. Frame.Starts s) (site_in n name)
start_in _ = None

abbrev pub taking_in : List ℕ → Option Frame
taking_in body = option_map (λ g. Frame.Takes g) (event_in body)

abbrev pub frame_in : List ℕ → Option Frame
frame_in [] = taking_in []
frame_in (code ∷ rest) = elim (code == 80) [
  | true ↦ place_in rest
  | false ↦ elim (code == 81) [
    | true ↦ place_under_in rest
    | false ↦ elim (code == 82) [ true ↦ start_in rest | false ↦ taking_in (code ∷ rest) ]
  ]
]

-- ---- what they tell

-- what the processes of a site did, the newest deed first, and the number of the frame that tells each deed
pub record Record : Type 0 where
  pub site : List ℕ
  pub deeds : List Deed
  pub frames : List ℕ

-- how many frames there were; where nodes stand, the newest first; and of each site its record, the newest first
pub record Recording : Type 0 where
  pub count : ℕ
  pub places : List APlace
  pub records : List Record

abbrev pub nothing_told : Recording
nothing_told = record { count = 0; places = []; records = [] }

-- by the frame of that number
abbrev pub with_deed : Record → ℕ → Deed → Record
with_deed r at d = record { site = r.site; deeds = d ∷ r.deeds; frames = at ∷ r.frames }

abbrev pub first_deed : ℕ → List ℕ → Record
first_deed at s = record { site = s; deeds = Starts s ∷ []; frames = at ∷ [] }

-- a process of the site whose process started last, or the first one of another site
abbrev pub with_start : List Record → ℕ → List ℕ → List Record
with_start [] at s = first_deed at s ∷ []
with_start (r ∷ rs) at s = elim (is_name r.site s) [ true ↦ with_deed r at (Starts r.site) ∷ rs | false ↦ first_deed at s ∷ r ∷ rs ]

abbrev pub with_event : List Record → ℕ → Given → Option (List Record)
with_event [] at g = None
with_event (r ∷ rs) at g = Some (with_deed r at (Takes r.site g) ∷ rs)

-- one frame more
abbrev pub with_records : Recording → List Record → Recording
with_records t rs = record { count = suc t.count; places = t.places; records = rs }

-- places come before all deeds
abbrev pub told_place : Recording → ℕ → Option ℕ → List ℕ → Option Recording
told_place t n under s = elim t.records [
  | [] ↦ option_map (λ qs. record { count = suc t.count; places = qs; records = [] }) (placed t.places n under s)
  | r ∷ rs ↦ None
]

-- the frame of that number
abbrev pub told_frame : ℕ → Recording → Frame → Option Recording
told_frame at t (Frame.Place n under s) = told_place t n under s
told_frame at t (Frame.Starts s) = Some (with_records t (with_start t.records at s))
told_frame at t (Frame.Takes g) = option_map (with_records t) (with_event t.records at g)

abbrev pub told_body : Recording → List ℕ → Option Recording
told_body t body = elim (frame_in body) [ None ↦ None | Some f ↦ told_frame (suc t.count) t f ]

abbrev pub told_from : Recording → List (List ℕ) → Option Recording
told_from t [] = Some t
told_from t (b ∷ bs) = elim (told_body t b) [ None ↦ None | Some u ↦ told_from u bs ]

-- each site has one record
abbrev pub has_record : List Record → List ℕ → Bool
has_record [] s = false
has_record (r ∷ rs) s = elim (is_name r.site s) [ true ↦ true | false ↦ has_record rs s ]
