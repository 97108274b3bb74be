-- An event names only nodes that have their places.
use Rattle.std.proofs.Common.{◌≡◌, ◌==◌, Bool, true, false, refl, ap, sym, ◌∙◌, subst, arith, Option, Some, None, List, [], ◌∷◌, inl, inr}
use Rattle.std.specs.Option.{is_some}
use Rattle.std.specs.Prelude.{◌||◌}
use Rattle.std.proofs.lemmas.Bool.Decides.{nat_tests}
use Rattle.tp_names.specs.declared.identifiers.Addr.{Addr}
use Rattle.tp_names.specs.Same.{is_addr, is_addr_option}
use Rattle.tp_records.specs.declared.request.Request.{Request}
use Rattle.tp_model.specs.Parts.{Event}
use Rattle.tp_deployments.specs.Deployments.{Place, IsAmong, IsThere, IsPlaced, AreArranged, has_number}
use Rattle.tp_weaving.specs.declared.places.Place.{Place as TheirPlace}
use Rattle.tp_weaving.specs.Places.{place_of, find_place}
use Rattle.tp_weaving.specs.Letters.{addr_same, addr_self}
use Rattle.tp_weaving.proofs.Placed.{found, found_there}
use Rattle.tp_weaving.specs.Steps.{IsFromThere, HasPlace}
use Rattle.tp_unite.specs.Placing.{names_placed}

option_same : (a b : Option Addr) → is_addr_option a b ≡ true → a ≡ b
option_same None None h = refl
option_same None (Some b) h = absurd (cc (h))
option_same (Some a) None h = absurd (cc (h))
option_same (Some a) (Some b) h = ap (λ (x : Addr). Some x) (addr_same a b h)

is_there : (qs : List Place) (a : Addr) → is_some (find_place qs a) ≡ true → IsThere qs a
is_there qs a h = go (find_place qs a) refl h
  where
    go : (o : Option Place) → find_place qs a ≡ o → is_some o ≡ true → IsThere qs a
    go None i k = absurd (cc (k))
    go (Some q) i k = found_there qs a q i

named : (qs : List Place) (q : TheirPlace) (e : Event) → names_placed qs q e ≡ true → IsPlaced qs (place_of q) e
named qs q (Event.Declare s) h = option_same s q.superior h
named qs q (Event.Do (Request.BeginDialogue a u)) h = is_there qs a h
named qs q _ h = tt

from_there : (qs : List Place) (q : TheirPlace) (e : Event) → names_placed qs q e ≡ true → IsFromThere qs e
from_there qs q (Event.Arrive from r) h = is_there qs from h
from_there qs q _ h = tt

pub has_place : (qs : List Place) (at : Addr) (q : TheirPlace) (e : Event) → Some (place_of q) ≡ find_place qs at → names_placed qs q e ≡ true → HasPlace qs at e
has_place qs at q e there h =
    let f = found qs at (place_of q) (sym there) in
    record { place = place_of q; among = f.among; here = f.here; placed = named qs q e h; from = from_there qs q e h }

-- ---- and where it does not, something that it names has no place

has_number_of : (qs : List Place) (p : Place) → IsAmong p qs → has_number qs p.addr.node ≡ true
has_number_of [] p among = absurd among
has_number_of (q ∷ qs) p (inl same) =
    let node : q.addr.node ≡ p.addr.node = ap (λ (x : Place). x.addr.node) same in
    let here : (q.addr.node == p.addr.node) ≡ true = grind (arith, nat_tests, node) in
    ap (λ (b : Bool). b || has_number qs p.addr.node) here
has_number_of (q ∷ qs) p (inr more) = either (q.addr.node == p.addr.node) (has_number qs p.addr.node) (has_number_of qs p more)
  where
    either : (a b : Bool) → b ≡ true → (a || b) ≡ true
    either true b h = refl
    either false b h = h

-- the place at an address is the only one there
finds : (qs : List Place) (p : Place) → AreArranged qs → IsAmong p qs → find_place qs p.addr ≡ Some p
finds [] p arranged among = absurd among
finds (q ∷ qs) p arranged among = by (is_addr q.addr p.addr) refl among (λ more. finds qs p arranged.2 more)
  where
    by : (b : Bool) → is_addr q.addr p.addr ≡ b → IsAmong p (q ∷ qs) → (IsAmong p qs → find_place qs p.addr ≡ Some p) → find_place (q ∷ qs) p.addr ≡ Some p
    by true i (inl same) rest = rw (i, find_place) (ap (λ (x : Place). Some x) same)
    by true i (inr more) rest = absurd
        (let node : q.addr.node ≡ p.addr.node = ap (λ a. a.node) (addr_same q.addr p.addr i) in
        let used : has_number qs q.addr.node ≡ true = ap (has_number qs) node ∙ has_number_of qs p more in
        let new = arranged.0 in
        cc (used, new))
    by false i (inl same) rest = absurd (let self : is_addr q.addr p.addr ≡ true = ap (λ (x : Place). is_addr x.addr p.addr) same ∙ addr_self p.addr in cc (i, self))
    by false i (inr more) rest = rw (i, find_place) (rest more)

found_at : (qs : List Place) (p : Place) (at : Addr) → AreArranged qs → IsAmong p qs → p.addr ≡ at → find_place qs at ≡ Some p
found_at qs p at arranged among here = subst (λ (a : Addr). find_place qs a ≡ Some p) here (finds qs p arranged among)

there_found : (qs : List Place) (a : Addr) → AreArranged qs → IsThere qs a → is_some (find_place qs a) ≡ true
there_found qs a arranged t = ap is_some (found_at qs t.0 a arranged t.1 t.2)

option_self : (a : Option Addr) → is_addr_option a a ≡ true
option_self None = refl
option_self (Some a) = addr_self a

named_back : (qs : List Place) (q : TheirPlace) (e : Event) → AreArranged qs → IsPlaced qs (place_of q) e → IsFromThere qs e → names_placed qs q e ≡ true
named_back qs q (Event.Declare s) arranged placed from = ap (λ (a : Option Addr). is_addr_option a q.superior) placed ∙ option_self q.superior
named_back qs q (Event.Do (Request.BeginDialogue a u)) arranged placed from = there_found qs a arranged placed
named_back qs q (Event.Arrive from r) arranged placed there = there_found qs from arranged there
named_back qs q _ arranged placed from = refl

pub no_place : (qs : List Place) (at : Addr) (e : Event) → None ≡ find_place qs at → AreArranged qs → HasPlace qs at e → ⊥
no_place qs at e none arranged has = let some = found_at qs has.place at arranged has.among has.here in cc (none, some)

pub not_named : (qs : List Place) (at : Addr) (q : TheirPlace) (e : Event) → Some (place_of q) ≡ find_place qs at → names_placed qs q e ≡ false → AreArranged qs → HasPlace qs at e → ⊥
not_named qs at q e there off arranged has =
    let both : Some (place_of q) ≡ Some has.place = there ∙ found_at qs has.place at arranged has.among has.here in
    let same : place_of q ≡ has.place = cc (both) in
    let on = named_back qs q e arranged (subst (λ (p : Place). IsPlaced qs p e) (sym same) has.placed) has.from in
    cc (on, off)
