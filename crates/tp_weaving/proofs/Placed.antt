-- Places are arranged, one after the other; what is found among them stands there.
use Rattle.std.proofs.Common.{◌≡◌, ◌==◌, ℕ, Bool, true, false, refl, ap, sym, ◌∙◌, subst, Option, Some, None, List, [], ◌∷◌, inl, inr}
use Rattle.std.specs.Prelude.{◌||◌}
use Rattle.tp_names.specs.declared.identifiers.Addr.{Addr}
use Rattle.tp_names.specs.Same.{is_addr}
use Rattle.tp_deployments.specs.Deployments.{Place, has_number, IsAmong, IsThere, AreArranged}
use Rattle.tp_weaving.specs.Letters.{addr_same}
use Rattle.tp_weaving.specs.Places.{find_place, addr_at, with_place, placed_under, placed}

pub record Found (qs : List Place) (a : Addr) (q : Place) : Type 0 where
  pub among : IsAmong q qs
  pub here : q.addr ≡ a

pub found : (qs : List Place) (a : Addr) (q : Place) → find_place qs a ≡ Some q → Found qs a q
found [] a q h = absurd (cc (h))
found (p ∷ qs) a q h = go (is_addr p.addr a) refl (found qs a q) h
  where
    go : (b : Bool) → is_addr p.addr a ≡ b → (find_place qs a ≡ Some q → Found qs a q) → (elim b as (λ _. Option Place) [ true ↦ Some p | false ↦ find_place qs a ]) ≡ Some q → Found (p ∷ qs) a q
    go true i rest k = let same : p ≡ q = cc (k) in record { among = inl same; here = ap (λ (x : Place). x.addr) (sym same) ∙ addr_same p.addr a i }
    go false i rest k = let f = rest k in record { among = inr f.among; here = f.here }

pub found_there : (qs : List Place) (a : Addr) (q : Place) → find_place qs a ≡ Some q → IsThere qs a
found_there qs a q h = let f = found qs a q h in (q, f.among, f.here)

-- ---- by numbers

number_new : (qs : List Place) (n : ℕ) → addr_at qs n ≡ None → has_number qs n ≡ false
number_new [] n h = refl
number_new (q ∷ qs) n h = go (q.addr.node == n) refl (number_new qs n) h
  where
    go : (b : Bool) → (q.addr.node == n) ≡ b → (addr_at qs n ≡ None → has_number qs n ≡ false) → (elim b as (λ _. Option Addr) [ true ↦ Some q.addr | false ↦ addr_at qs n ]) ≡ None → has_number (q ∷ qs) n ≡ false
    go true i rest k = absurd (cc (k))
    go false i rest k = ap (λ (b : Bool). b || has_number qs n) i ∙ rest k

there_at : (qs : List Place) (n : ℕ) (a : Addr) → addr_at qs n ≡ Some a → IsThere qs a
there_at [] n a h = absurd (cc (h))
there_at (q ∷ qs) n a h = go (q.addr.node == n) (there_at qs n a) h
  where
    go : (b : Bool) → (addr_at qs n ≡ Some a → IsThere qs a) → (elim b as (λ _. Option Addr) [ true ↦ Some q.addr | false ↦ addr_at qs n ]) ≡ Some a → IsThere (q ∷ qs) a
    go true rest k = (q, inl refl, cc (k))
    go false rest k = let t = rest k in (t.0, inr t.1, t.2)

pub stays_arranged : (qs : List Place) (n : ℕ) (under : Option ℕ) (s : List ℕ) (new : List Place) → AreArranged qs → placed qs n under s ≡ Some new → AreArranged new
stays_arranged qs n under s new arr h = go (addr_at qs n) refl h
  where
    one : (superior : Option Addr) → addr_at qs n ≡ None → ((a : Addr) → superior ≡ Some a → IsThere qs a) → AreArranged (with_place qs n s superior)
    one superior i there = (number_new qs n i, there, arr)

    by : (u : Option ℕ) → addr_at qs n ≡ None → placed_under qs n s u ≡ Some new → AreArranged new
    by None i k = let same : with_place qs n s None ≡ new = cc (k) in subst AreArranged same (one None i (λ a none. absurd (cc (none))))
    by (Some p) i k = under_at (addr_at qs p) refl k
      where
        under_at : (o : Option Addr) → addr_at qs p ≡ o → (elim o as (λ _. Option (List Place)) [ None ↦ None | Some a ↦ Some (with_place qs n s (Some a)) ]) ≡ Some new → AreArranged new
        under_at None j l = absurd (cc (l))
        under_at (Some a) j l =
            let same : with_place qs n s (Some a) ≡ new = cc (l) in
            subst AreArranged same (one (Some a) i (λ b is. let eq : a ≡ b = cc (is) in subst (IsThere qs) eq (there_at qs p a j)))

    go : (o : Option Addr) → addr_at qs n ≡ o → (elim o as (λ _. Option (List Place)) [ Some a ↦ None | None ↦ placed_under qs n s under ]) ≡ Some new → AreArranged new
    go (Some a) i k = absurd (cc (k))
    go None i k = by under i k
