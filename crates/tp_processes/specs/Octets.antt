-- What is carried from one process to another is octets, the text of a record. A carrier that brings a node only octets that were written to
-- it brings it only records that were said to it.
use Rattle.std.specs.Prelude.{ℕ, ◌≡◌, ◌⊎◌, ◌<◌, ◌^◌, true, Some, None, List, [], ◌∷◌}
use Rattle.tp_names.specs.declared.identifiers.Aaid.{Aaid}
use Rattle.tp_names.specs.declared.identifiers.Addr.{Addr}
use Rattle.tp_names.specs.declared.identifiers.BranchId.{BranchId}
use Rattle.tp_names.specs.declared.identifiers.Mark.{Mark}
use Rattle.tp_names.specs.Bytes.{is_site_name}
use Rattle.tp_units.specs.Units.{is_permitted}
use Rattle.tp_records.specs.declared.dialogue.DialogueRecord.{DialogueRecord}
use Rattle.tp_records.specs.declared.peer.PeerRecord.{PeerRecord}
use Rattle.tp_records.specs.declared.body.Event.{Event as Given}
use Rattle.tp_records.specs.declared.body.Output.{Output}
use Rattle.tp_records.specs.Bodies.{peer_bytes}
use Rattle.tp_records.specs.BodyReading.{peer_in}
use Rattle.tp_model.specs.Parts.{Event, Entry}
use Rattle.tp_model.specs.NodeRun.{AskedEvent, Refuses, Is, asked, node_run}
use Rattle.tp_histories.specs.Histories.{HasSent}
use Rattle.tp_site_logs.specs.Lives.{Life, opening_after}
use Rattle.tp_deployments.specs.Deployments.{Deed, Starts, Takes, Place, IsAmong, IsThere, IsPlaced, IsDeployment, life_after, history_at, answered}

-- ---- what the types of a program hold: numbers of so many bits, names of sites, permitted sets of units

abbrev pub IsHeldMark : Mark → Type 0
IsHeldMark m = (m.boot < 2 ^ 64) × (m.node < 2 ^ 16) × (m.count < 2 ^ 64)

abbrev pub IsHeldAaid : Aaid → Type 0
IsHeldAaid a = (is_site_name a.owner ≡ true) × IsHeldMark a.mark

abbrev pub IsHeldBranch : BranchId → Type 0
IsHeldBranch b = (is_site_name b.superior ≡ true) × IsHeldMark b.mark

abbrev pub IsHeldUnits : ℕ → Type 0
IsHeldUnits u = (u < 2 ^ 8) × (is_permitted u ≡ true)

abbrev pub IsHeldDialogue : DialogueRecord → Type 0
IsHeldDialogue (DialogueRecord.Begin a b h) = IsHeldAaid a × IsHeldBranch b
IsHeldDialogue _ = Unit {0}

abbrev pub IsHeld : PeerRecord → Type 0
IsHeld (PeerRecord.OpenAssoc x u) = IsHeldMark x × IsHeldUnits u
IsHeld (PeerRecord.AcceptAssoc x y u) = IsHeldMark x × IsHeldMark y × IsHeldUnits u
IsHeld (PeerRecord.ShutAssoc x None) = IsHeldMark x
IsHeld (PeerRecord.ShutAssoc x (Some y)) = IsHeldMark x × IsHeldMark y
IsHeld (PeerRecord.OnAssoc x y q r) = IsHeldMark x × IsHeldMark y × (q < 2 ^ 64) × IsHeldDialogue r
IsHeld (PeerRecord.RecReady a b) = IsHeldAaid a × IsHeldBranch b
IsHeld (PeerRecord.RecCommit a b) = IsHeldAaid a × IsHeldBranch b
IsHeld (PeerRecord.RecReply a b s) = IsHeldAaid a × IsHeldBranch b
IsHeld (PeerRecord.Forget a b) = IsHeldAaid a × IsHeldBranch b

-- ---- what processes write

abbrev pub IsOneOf : Output → List Output → Type 0
IsOneOf x [] = ⊥
IsOneOf x (y ∷ ys) = (y ≡ x) ⊎ IsOneOf x ys

abbrev pub IsPutIn : Output → List (List Output) → Type 0
IsPutIn x [] = ⊥
IsPutIn x (outs ∷ more) = IsOneOf x outs ⊎ IsPutIn x more

-- it is an output of some process of the site, for an event that happened in it
abbrev pub IsPut : Output → List ℕ → Life → Type 0
IsPut x s [] = ⊥
IsPut x s (gs ∷ life) = IsPutIn x (node_run (opening_after s life) gs).outputs ⊎ IsPut x s life

-- ---- a deployment, with a carrier of octets

-- what the node has said in these octets, to that address, is of such records
abbrev pub AreOfHeld : List Deed → Addr → Addr → List ℕ → Type 0
AreOfHeld ds from to octets = (r : PeerRecord) → HasSent (history_at ds from) to r → octets ≡ peer_bytes r → IsHeld r

-- **the carrier**: octets that arrive are an output, for that address, of a process of the site of the node that they are said to be from
abbrev pub AreCarried : List Place → List Deed → Given → Type 0
AreCarried qs ds (Given.Arrive from to octets) =
    IsThere qs from × IsPut (Output.Send from to octets) from.site (life_after ds from.site) × AreOfHeld ds from to octets
AreCarried qs ds _ = Unit {0}

-- asked, as of records, of an event that a node takes, and of nothing else
pub record IsHeededSo (qs : List Place) (ds : List Deed) (at : Addr) (g : Given) (e : Event) : Type 0 where
  pub place : Place
  pub among : IsAmong place qs
  pub here : place.addr ≡ at
  pub placed : IsPlaced qs place e
  pub carried : AreCarried qs ds g

abbrev pub IsFitSo : List Place → List Deed → List ℕ → Given → List Given → Life → AskedEvent → Type 0
IsFitSo qs ds s g gs life (Refuses k) = Unit {0}
IsFitSo qs ds s g gs life (Is n e) = (y : Entry) → (answered s gs life n e).entry ≡ Some y → IsHeededSo qs ds (record { site = s; node = n }) g e

abbrev pub IsTakenSo : List Place → List Deed → List ℕ → Life → Given → Type 0
IsTakenSo qs ds s [] g = ⊥
IsTakenSo qs ds s (gs ∷ life) g = IsFitSo qs ds s g gs life (asked (opening_after s life) g)

abbrev pub IsDeploymentOfOctets : List Place → List Deed → Type 0
IsDeploymentOfOctets qs [] = Unit {0}
IsDeploymentOfOctets qs (Starts s ∷ ds) = IsDeploymentOfOctets qs ds
IsDeploymentOfOctets qs (Takes s g ∷ ds) = IsTakenSo qs ds s (life_after ds s) g × IsDeploymentOfOctets qs ds

-- ---- what holds of it

-- the octets of what is said say it
abbrev pub SaidIsReadBack : Type 0
SaidIsReadBack = (ds : List Deed) (a to : Addr) (r : PeerRecord) → HasSent (history_at ds a) to r → IsHeld r → peer_in (peer_bytes r) ≡ Some r

-- so a carrier of octets is one of records
abbrev pub OctetsCarryRecords : Type 0
OctetsCarryRecords = (qs : List Place) (ds : List Deed) → IsDeploymentOfOctets qs ds → IsDeployment qs ds
