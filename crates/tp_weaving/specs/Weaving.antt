-- The lanes of all sites, of which some steps were taken, and the one order of the deeds of these.
use Rattle.std.specs.Prelude.{ℕ, ◌≡◌, ◌⊎◌, Bool, true, false, nat_le, if◌then◌else◌, Option, Some, None, option_map, List, [], ◌∷◌, ◌++◌, length, drop, slice_get}
use Rattle.tp_names.specs.declared.identifiers.Addr.{Addr}
use Rattle.tp_records.specs.declared.peer.PeerRecord.{PeerRecord}
use Rattle.tp_histories.specs.Histories.{HasSent}
use Rattle.tp_deployments.specs.Deployments.{Deed, Place, IsDeployment, history_at}
use Rattle.tp_weaving.specs.declared.letter.Letter.{Letter}
use Rattle.tp_weaving.specs.declared.lane.Lane.{Lane}
use Rattle.tp_weaving.specs.declared.said.Said.{Said}
use Rattle.tp_weaving.specs.declared.step.Step.{Step}
use Rattle.tp_weaving.specs.declared.order.Woven.{Woven}
use Rattle.tp_weaving.specs.Frames.{Record, has_record}
use Rattle.tp_weaving.specs.Letters.{letter_to}
use Rattle.tp_weaving.specs.Said.{is_said}
use Rattle.tp_weaving.specs.Parts.{part, AreApart, IsWovenOf, IsBegunOf, ReachesAll}
use Rattle.tp_weaving.specs.Steps.{IsSaid, Leads, numbered}

-- ---- the lanes before any step was taken

pub record IsLane (qs : List Place) (r : Record) (x : Lane) : Type 0 where
  pub name : x.name ≡ r.site
  pub taken : x.taken ≡ 0
  pub leads : Leads qs r.site [] x.steps.items r.deeds
  pub frames : numbered [] x.steps.items ≡ r.frames

abbrev pub AreLanes : List Place → List Record → List Lane → Type 0
AreLanes qs [] [] = Unit {0}
AreLanes qs [] (x ∷ xs) = ⊥
AreLanes qs (r ∷ rs) [] = ⊥
AreLanes qs (r ∷ rs) (x ∷ xs) = IsLane qs r x × AreLanes qs rs xs

-- ---- on the way

pub record IsOnWay (qs : List Place) (ds : List Deed) (r : Record) (x : Lane) : Type 0 where
  pub leads : Leads qs r.site (part r.site ds) (drop x.taken x.steps.items) r.deeds
  pub before : List ℕ
  pub frames : numbered before (drop x.taken x.steps.items) ≡ r.frames

abbrev pub AreOnWay : List Place → List Deed → List Record → List Lane → Type 0
AreOnWay qs ds [] [] = Unit {0}
AreOnWay qs ds [] (x ∷ xs) = ⊥
AreOnWay qs ds (r ∷ rs) [] = ⊥
AreOnWay qs ds (r ∷ rs) (x ∷ xs) = IsOnWay qs ds r x × AreOnWay qs ds rs xs

-- the steps that were taken are a deployment; what counts as said was said, and what was said counts as said
pub record Way (qs : List Place) (rs : List Record) (said : Letter → Bool) (xs : List Lane) : Type 0 where
  pub apart : AreApart rs
  pub deeds : List Deed
  pub fits : IsDeployment qs deeds
  pub lanes : AreOnWay qs deeds rs xs
  pub others : (s : List ℕ) → has_record rs s ≡ false → part s deeds ≡ []
  pub was_said : (x : Letter) → said x ≡ true → IsSaid deeds x
  pub counts : (from to : Addr) (r : PeerRecord) → HasSent (history_at deeds from) to r → said (letter_to from to r) ≡ true

-- whether what a step needs counts as said
abbrev pub is_held : (Letter → Bool) → Option Letter → Bool
is_held said None = true
is_held said (Some x) = said x

abbrev pub IsOneOf : Letter → List Letter → Type 0
IsOneOf l [] = ⊥
IsOneOf l (m ∷ ms) = (m ≡ l) ⊎ IsOneOf l ms

-- these are said, too
pub record Says (old new : Said) (ls : List Letter) : Type 0 where
  pub only : (l : Letter) → is_said new l ≡ true → (is_said old l ≡ true) ⊎ IsOneOf l ls
  pub stays : (l : Letter) → is_said old l ≡ true → is_said new l ≡ true
  pub all : (l : Letter) → IsOneOf l ls → is_said new l ≡ true

-- the next step of a lane, where there is one
abbrev pub next_of : Lane → Option Step
next_of x = slice_get x.steps.items x.taken

-- and it may come; what it says counts as said then, too
pub record TakesNext (old new : Said) (x : Lane) : Type 0 where
  pub step : Step
  pub next : next_of x ≡ Some step
  pub held : is_held (is_said old) step.needs ≡ true
  pub says : Says old new step.says.items

-- there is none that may come
abbrev pub IsStuck : (Letter → Bool) → Lane → Type 0
IsStuck said x = (t : Step) → next_of x ≡ Some t → is_held said t.needs ≡ false

abbrev pub Advances : Said → Said → Lane → Bool → Type 0
Advances old new x true = TakesNext old new x
Advances old new x false = (new ≡ old) × IsStuck (is_said old) x

abbrev pub AreStuck : (Letter → Bool) → List Lane → Type 0
AreStuck said [] = Unit {0}
AreStuck said (x ∷ xs) = IsStuck said x × AreStuck said xs

-- nothing changes, and that lane is stuck
pub record StaysAt (k : ℕ) (old : Said) (olds : List Lane) (new : Said) (news : List Lane) : Type 0 where
  pub said : new ≡ old
  pub lanes : news ≡ olds
  pub stuck : (x : Lane) → slice_get olds k ≡ Some x → IsStuck (is_said old) x

abbrev pub AreDone : List Lane → Type 0
AreDone [] = Unit {0}
AreDone (x ∷ xs) = (next_of x ≡ None) × AreDone xs

-- ---- the end

-- an order of the deeds of the records that is a deployment
pub record Weaves (qs : List Place) (rs : List Record) : Type 0 where
  pub deeds : List Deed
  pub are : IsWovenOf rs deeds
  pub fits : IsDeployment qs deeds

-- no order of them is one
abbrev pub WeavesNone : List Place → List Record → Type 0
WeavesNone qs rs = (ds : List Deed) → IsWovenOf rs ds → IsDeployment qs ds → ⊥

-- the frame of that number tells a deed of the site, and it is the first of its own that is not among these
pub record IsNextOf (r : Record) (ds : List Deed) (at : ℕ) : Type 0 where
  pub deed : Deed
  pub later : List Deed
  pub deeds : r.deeds ≡ later ++ deed ∷ part r.site ds
  pub after : List ℕ
  pub before : List ℕ
  pub frames : r.frames ≡ after ++ at ∷ before
  pub place : length after ≡ length later

abbrev pub IsNextOfOne : List Record → List Deed → ℕ → Type 0
IsNextOfOne [] ds at = ⊥
IsNextOfOne (r ∷ rs) ds at = IsNextOf r ds at ⊎ IsNextOfOne rs ds at

-- some deeds of the records are a deployment, those of each site the first of its own; no other such order reaches a deed more; and the
-- frame of that number tells the first deed of its site that none reaches
pub record Waits (qs : List Place) (rs : List Record) (at : ℕ) : Type 0 where
  pub reached : List Deed
  pub begun : IsBegunOf rs reached
  pub fits : IsDeployment qs reached
  pub most : (ds : List Deed) → IsBegunOf rs ds → IsDeployment qs ds → ReachesAll reached ds
  pub next : IsNextOfOne rs reached at
  pub none : WeavesNone qs rs

-- ---- where the lanes stand

abbrev pub number_next : Lane → Option ℕ
number_next x = option_map (λ t. t.at) (next_of x)

abbrev pub earlier : Option ℕ → Option ℕ → Option ℕ
earlier None b = b
earlier (Some n) None = Some n
earlier (Some n) (Some m) = if nat_le n m then Some n else Some m

abbrev pub waiting : List Lane → Option ℕ
waiting [] = None
waiting (x ∷ xs) = earlier (number_next x) (waiting xs)

abbrev pub woven_of : Option ℕ → Woven
woven_of None = Woven.Whole
woven_of (Some at) = Woven.Waits at

abbrev pub Ends : List Place → List Record → Woven → Type 0
Ends qs rs Woven.Whole = Weaves qs rs
Ends qs rs (Woven.Waits at) = Waits qs rs at
