-- What is asked of a site by octets that come from another node.
use Rattle.std.proofs.Common.{◌≡◌, ℕ, Bool, true, false, refl, ap, ◌∙◌, Option, Some, None, List}
use Rattle.tp_names.specs.declared.identifiers.Addr.{Addr}
use Rattle.tp_names.specs.Same.{is_name}
use Rattle.tp_names.proofs.Sames.{name_same}
use Rattle.tp_records.specs.declared.peer.PeerRecord.{PeerRecord}
use Rattle.tp_records.specs.declared.body.Event.{Event as Given}
use Rattle.tp_records.specs.Bodies.{peer_bytes}
use Rattle.tp_records.specs.BodyReading.{peer_in}
use Rattle.tp_model.specs.Parts.{Event}
use Rattle.tp_model.specs.NodeRun.{Opening, AskedEvent, Refuses, Is, asked}
use Rattle.tp_weaving.specs.declared.letter.Letter.{Letter}
use Rattle.tp_weaving.specs.Steps.{Brings}

asked_for : (o : Opening) (from to : Addr) (octets : List ℕ) (read : Option PeerRecord) (here : Bool) → peer_in octets ≡ read → is_name to.site o.site ≡ here
    → asked o (Given.Arrive from to octets) ≡ (elim read as (λ _. AskedEvent) [ None ↦ Refuses 25 | Some r ↦ elim here as (λ _. AskedEvent) [ true ↦ Is to.node (Event.Arrive from r) | false ↦ Refuses 23 ] ])
asked_for o from to octets read here reads is =
    ap (λ (x : Option PeerRecord). elim x as (λ _. AskedEvent) [ None ↦ Refuses 25 | Some r ↦ elim (is_name to.site o.site) as (λ _. AskedEvent) [ true ↦ Is to.node (Event.Arrive from r) | false ↦ Refuses 23 ] ]) reads
    ∙ ap (λ (b : Bool). elim read as (λ _. AskedEvent) [ None ↦ Refuses 25 | Some r ↦ elim b as (λ _. AskedEvent) [ true ↦ Is to.node (Event.Arrive from r) | false ↦ Refuses 23 ] ]) is

pub unread : (o : Opening) (from to : Addr) (octets : List ℕ) → peer_in octets ≡ None → asked o (Given.Arrive from to octets) ≡ Refuses 25
unread o from to octets none = asked_for o from to octets None (is_name to.site o.site) none refl

pub elsewhere : (o : Opening) (from to : Addr) (octets : List ℕ) (r : PeerRecord) → peer_in octets ≡ Some r → is_name to.site o.site ≡ false → asked o (Given.Arrive from to octets) ≡ Refuses 23
elsewhere o from to octets r reads off = asked_for o from to octets (Some r) false reads off

pub arrives : (o : Opening) (from to : Addr) (octets : List ℕ) (r : PeerRecord) → peer_in octets ≡ Some r → is_name to.site o.site ≡ true → asked o (Given.Arrive from to octets) ≡ Is to.node (Event.Arrive from r)
arrives o from to octets r reads on = asked_for o from to octets (Some r) true reads on

-- and it brings just that letter
pub brings : (s : List ℕ) (x : Letter) (r : PeerRecord) → peer_in x.octets ≡ Some r → x.octets ≡ peer_bytes r → is_name x.to.site s ≡ true → Brings (record { site = s; node = x.to.node }) (Event.Arrive x.from r) (Some x)
brings s x r reads spelled on = (refl, ap (λ (t : List ℕ). let a : Addr = record { site = t; node = x.to.node } in a) (name_same x.to.site s on), reads, spelled)
