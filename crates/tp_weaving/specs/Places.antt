-- Where nodes stand, the newest place first: what is found there, and how one more comes.
use Rattle.std.specs.Prelude.{ℕ, ◌≡◌, ◌==◌, Bool, true, false, Option, Some, None, List, [], ◌∷◌}
use Rattle.tp_names.specs.declared.identifiers.Addr.{Addr}
use Rattle.tp_names.specs.Same.{is_addr}
use Rattle.tp_deployments.specs.Deployments.{Place}
use Rattle.tp_weaving.specs.declared.places.Place.{Place as TheirPlace}

-- as the code has it
abbrev pub place_of : TheirPlace → Place
place_of p = record { addr = p.addr; superior = p.superior }

abbrev pub find_place : List Place → Addr → Option Place
find_place [] a = None
find_place (q ∷ qs) a = elim (is_addr q.addr a) [ true ↦ Some q | false ↦ find_place qs a ]

abbrev pub addr_at : List Place → ℕ → Option Addr
addr_at [] n = None
addr_at (q ∷ qs) n = elim (q.addr.node == n) [ true ↦ Some q.addr | false ↦ addr_at qs n ]

-- one more, under a superior
abbrev pub with_place : List Place → ℕ → List ℕ → Option Addr → List Place
with_place qs n s superior = record { addr = record { site = s; node = n }; superior = superior } ∷ qs

abbrev pub placed_under : List Place → ℕ → List ℕ → Option ℕ → Option (List Place)
placed_under qs n s None = Some (with_place qs n s None)
placed_under qs n s (Some p) = elim (addr_at qs p) [ None ↦ None | Some a ↦ Some (with_place qs n s (Some a)) ]

-- a node comes, whose number is new, under the node of that number where one is given, which stands there
abbrev pub placed : List Place → ℕ → Option ℕ → List ℕ → Option (List Place)
placed qs n under s = elim (addr_at qs n) [ Some a ↦ None | None ↦ placed_under qs n s under ]

abbrev pub AddsTo : Option (List Place) → Bool → List Place → List Place → Type 0
AddsTo r true old new = r ≡ Some new
AddsTo r false old new = (r ≡ None) × (new ≡ old)

abbrev pub Adds : List Place → ℕ → Option ℕ → List ℕ → Bool → List Place → Type 0
Adds old n under s fits new = AddsTo (placed old n under s) fits old new
