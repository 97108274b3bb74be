-- The steps of a site: of each deed, the letter without which it may not come, and those that its node said.
use Rattle.std.specs.Prelude.{ℕ, ◌≡◌, Option, Some, None, List, [], ◌∷◌}
use Rattle.tp_names.specs.declared.identifiers.Addr.{Addr}
use Rattle.tp_records.specs.declared.peer.PeerRecord.{PeerRecord}
use Rattle.tp_records.specs.declared.body.Event.{Event as Given}
use Rattle.tp_records.specs.Bodies.{peer_bytes}
use Rattle.tp_records.specs.BodyReading.{peer_in}
use Rattle.tp_model.specs.Parts.{Event, Entry}
use Rattle.tp_model.specs.NodeRun.{AskedEvent, Refuses, Is, asked}
use Rattle.tp_histories.specs.Histories.{HasSent}
use Rattle.tp_site_logs.specs.Lives.{Life, opening_after}
use Rattle.tp_deployments.specs.Deployments.{Deed, Starts, Takes, Place, IsAmong, IsThere, IsPlaced, life_after, history_at, answered}
use Rattle.tp_weaving.specs.declared.letter.Letter.{Letter}
use Rattle.tp_weaving.specs.declared.step.Step.{Step}
use Rattle.tp_weaving.specs.Letters.{letters_in, AreRead}

-- ---- letters

-- its octets are those of that record, from the one node to the other
abbrev pub IsLetterOf : Addr → Addr → PeerRecord → Option Letter → Type 0
IsLetterOf from to r None = ⊥
IsLetterOf from to r (Some x) = (x.from ≡ from) × (x.to ≡ to) × (peer_in x.octets ≡ Some r) × (x.octets ≡ peer_bytes r)

-- its node said it, in these deeds
pub record IsSaid (ds : List Deed) (x : Letter) : Type 0 where
  pub rec : PeerRecord
  pub reads : peer_in x.octets ≡ Some rec
  pub sent : HasSent (history_at ds x.from) x.to rec

-- ---- what a node takes

abbrev pub IsFromThere : List Place → Event → Type 0
IsFromThere qs (Event.Arrive from r) = IsThere qs from
IsFromThere qs _ = Unit {0}

-- all that is asked of the event, but that its record was said: the node has its place, and so has each that the event names
pub record HasPlace (qs : List Place) (at : Addr) (e : Event) : Type 0 where
  pub place : Place
  pub among : IsAmong place qs
  pub here : place.addr ≡ at
  pub placed : IsPlaced qs place e
  pub from : IsFromThere qs e

-- the letter that the event brings, if it brings one
abbrev pub Brings : Addr → Event → Option Letter → Type 0
Brings at (Event.Arrive from r) needs = IsLetterOf from at r needs
Brings at _ needs = needs ≡ None

-- ---- steps

-- nothing is said or needed
pub record IsIdle (t : Step) : Type 0 where
  pub says : t.says.items ≡ []
  pub needs : t.needs ≡ None

-- an event happened at the node of that address: it has its place, and the step needs and says just what the event brought and made
pub record Happened (qs : List Place) (at : Addr) (e : Event) (y : Entry) (t : Step) : Type 0 where
  pub has : HasPlace qs at e
  pub brings : Brings at e t.needs
  pub says : t.says.items ≡ letters_in at y.outs
  pub are_read : AreRead y.outs

abbrev pub IsStepOf : List Place → Addr → Event → Option Entry → Step → Type 0
IsStepOf qs at e None t = IsIdle t
IsStepOf qs at e (Some y) t = Happened qs at e y t

abbrev pub IsTakenBy : List Place → List ℕ → List Given → Life → AskedEvent → Step → Type 0
IsTakenBy qs s gs life (Refuses k) t = IsIdle t
IsTakenBy qs s gs life (Is n e) t = IsStepOf qs (record { site = s; node = n }) e (answered s gs life n e).entry t

abbrev pub IsTaking : List Place → List ℕ → Life → Given → Step → Type 0
IsTaking qs s [] g t = ⊥
IsTaking qs s (gs ∷ life) g t = IsTakenBy qs s gs life (asked (opening_after s life) g) t

-- the deed of the site, after these of its own
abbrev pub IsStep : List Place → List ℕ → List Deed → Deed → Step → Type 0
IsStep qs s before (Starts n) t = (n ≡ s) × IsIdle t
IsStep qs s before (Takes n g) t = (n ≡ s) × IsTaking qs s (life_after before s) g t

-- these steps, the first one first, lead from the one list of deeds to the other
abbrev pub Leads : List Place → List ℕ → List Deed → List Step → List Deed → Type 0
Leads qs s before [] after = before ≡ after
Leads qs s before (t ∷ ts) after = (d : Deed) × IsStep qs s before d t × Leads qs s (d ∷ before) ts after

-- the numbers of their frames, the newest first, after those
abbrev pub numbered : List ℕ → List Step → List ℕ
numbered before [] = before
numbered before (t ∷ ts) = numbered (t.at ∷ before) ts
