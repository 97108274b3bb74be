-- A node at its place among the nodes of a site, and what is written there.
use Rattle.std.proofs.Common.{Box, ◌≡◌, ℕ, nat_eq, ◌==◌, arith, Bool, true, false, cond, Option, Some, None, IfSome, sym, ap, refl, subst, ◌∙◌, get_or, slice_get, position}
use Rattle.std.specs.declared.alloc.Global.{Global}
use Rattle.std.specs.Cmp.{nat_eq_equiv}
use Rattle.std.specs.Option.{option_map}
use Rattle.std.specs.Map.{keys_of, values_of, lookup}
use Rattle.std.proofs.lemmas.List.Quantifiers.{position-Some}
use Rattle.std.proofs.lemmas.Option.{slice_get-get_or, slice_get-map}
use Rattle.std.proofs.lemmas.Map.Entries.{lookup_from_place}
use Rattle.std.proofs.lemmas.Bool.Decides.{nat_tests}
use Rattle.indexmap.specs.IndexMap.{IndexMap, IsUnique, set_value_at}
use Rattle.indexmap.proofs.CallerLemmas.{updates-with_value_at}
use Rattle.tp_model.specs.Parts.{Who, Digest}
use Rattle.tp_model.specs.Events.{started}
use Rattle.tp_node.specs.Node.{Node}
use Rattle.tp_site.specs.Nodes.{Nodes, IsPlaced, who_at, digest_at, node_at, unknown_start}

same_number : (k n : ℕ) → (k == n) ≡ true → k ≡ n
same_number k n is = grind (arith, nat_tests, is)

module _ {X S : Type 0} (m : IndexMap ℕ X S) where
  -- what stands at a place, with its number
  abbrev Stands : ℕ → ℕ → Type 0
  Stands n i = (x : X) × (slice_get m.entries i ≡ Some (n, x)) × (lookup (nat_eq n) m.entries ≡ Some x)

  numbered : (n i : ℕ) → (o : Option (ℕ × X)) → slice_get m.entries i ≡ o → option_map (λ (e : ℕ × X). e.0) (slice_get m.entries i) ≡ Some n → (x : X) × (slice_get m.entries i ≡ Some (n, x))
  numbered n i None e key = absurd (cc (key, e))
  numbered n i (Some y) e key =
      let same : y.0 ≡ n = cc (key, e) in
      (y.1, e ∙ ap (λ (j : ℕ). Some (j, y.1)) same)

  -- the place at which a search by number ends
  pub sought : (n : ℕ) (o : Option ℕ) → IsUnique nat_eq m → o ≡ position (nat_eq n) (keys_of m.entries) → IfSome o (Stands n)
  sought n None unique is = tt
  sought n (Some i) unique is =
      let found = position-Some (nat_eq n) (keys_of m.entries) i n (sym is) in
      let key : option_map (λ (e : ℕ × X). e.0) (slice_get m.entries i) ≡ Some (get_or (keys_of m.entries) i n) =
      sym (slice_get-map (λ (e : ℕ × X). e.0) m.entries i) ∙ slice_get-get_or (keys_of m.entries) i n found.0 in
      let at = numbered n i (slice_get m.entries i) refl (key ∙ ap (λ (j : ℕ). Some j) (sym (same_number n (get_or (keys_of m.entries) i n) found.1))) in
      (at.0, at.1, lookup_from_place nat_eq_equiv m.entries i n at.0 unique at.1)

  -- the place of the last one, where that has the number
  pub sought_last : (k n i : ℕ) (x : X) → k ≡ n → Some (k, x) ≡ slice_get m.entries i → lookup (nat_eq k) m.entries ≡ Some x → Stands n i
  sought_last k n i x is at found = (x, sym at ∙ ap (λ (j : ℕ). Some (j, x)) is, subst (λ (j : ℕ). lookup (nat_eq j) m.entries ≡ Some x) is found)

  -- what is found by each number once another stands at the place of one
  written : (i k : ℕ) (x w : X) → IsUnique nat_eq m → slice_get m.entries i ≡ Some (k, x) → (n : ℕ) → lookup (nat_eq n) (set_value_at m.entries i w) ≡ cond (nat_eq k n) (Some w) (lookup (nat_eq n) m.entries)
  written i k x w unique at n = (updates-with_value_at m i w nat_eq_equiv unique k x at).0 n

abbrev Boxed : Type 0
Boxed = Box Node Global

abbrev digest_in : Nodes → Option Boxed → Digest
digest_in v o = elim o as (λ _. Digest) [ None ↦ started (unknown_start v) | Some x ↦ x.value.digest ]

chosen : (v : Nodes) (b : Bool) (o : Option Boxed) (w : Boxed) → digest_in v (cond b (Some w) o) ≡ cond b w.value.digest (digest_in v o)
chosen v true o w = refl
chosen v false o w = refl

module _ {S : Type 0} (m : IndexMap ℕ Boxed S) (v old : Nodes) (same : record v { nodes = m.entries } ≡ old) (k i : ℕ) (placed : IsPlaced k old i) where
  at : IsPlaced k (record v { nodes = m.entries }) i
  at = subst (λ (x : Nodes). IsPlaced k x i) (sym same) placed

  -- the digest of each node once another stands there
  pub put_there : (w : Boxed) (d : Digest) → IsUnique nat_eq m → w.value.digest ≡ d → (n : ℕ) → digest_at (record v { nodes = set_value_at m.entries i w }) n ≡ cond (k == n) d (digest_at old n)
  put_there w d unique is n =
      ap (λ (o : Option Boxed). digest_in v o) (written m i k at.0 w unique at.1 n)
      ∙ chosen v (nat_eq k n) (lookup (nat_eq n) m.entries) w
      ∙ ap (λ (x : Nodes). cond (nat_eq k n) w.value.digest (digest_at x n)) same
      ∙ ap (λ (x : Digest). cond (nat_eq k n) x (digest_at old n)) is

  -- something is lent there
  pub lent_some : None ≡ slice_get (values_of m.entries) i → ⊥
  lent_some none =
      let gone : None ≡ Some at.0 = none ∙ slice_get-map (λ (e : ℕ × Boxed). e.1) m.entries i ∙ ap (λ (o : Option (ℕ × Boxed)). option_map (λ (e : ℕ × Boxed). e.1) o) at.1 in
      absurd (cc (gone))

  module _ (each : (n : ℕ) (y : Boxed) → lookup (nat_eq n) m.entries ≡ Some y → y.value.who ≡ record { site = v.site; node = n }) where
    -- each still stands under its number
    pub named_there : (w : Boxed) → IsUnique nat_eq m → w.value.who ≡ who_at old k → (n : ℕ) (y : Boxed) → lookup (nat_eq n) (set_value_at m.entries i w) ≡ Some y → y.value.who ≡ record { site = v.site; node = n }
    named_there w unique who n y is = go (nat_eq k n) refl (sym (written m i k at.0 w unique at.1 n) ∙ is)
      where
        go : (b : Bool) → nat_eq k n ≡ b → cond b (Some w) (lookup (nat_eq n) m.entries) ≡ Some y → y.value.who ≡ record { site = v.site; node = n }
        go true e h =
            let one : y ≡ w = cc (h) in
            ap (λ (x : Boxed). x.value.who) one ∙ who ∙ sym (ap (λ (x : Nodes). who_at x k) same) ∙ ap (λ (j : ℕ). who_at v j) (same_number k n e)
        go false e h = each n y h

    -- the node that is lent there
    pub lent_there : (x : Boxed) → Some x ≡ slice_get (values_of m.entries) i → x.value ≡ node_at old k
    lent_there x is =
        let here : Some x ≡ Some at.0 = is ∙ slice_get-map (λ (e : ℕ × Boxed). e.1) m.entries i ∙ ap (λ (o : Option (ℕ × Boxed)). option_map (λ (e : ℕ × Boxed). e.1) o) at.1 in
        let one : x ≡ at.0 = cc (here) in
        ap (λ (y : Boxed). y.value) one
        ∙ ap (λ (w : Who). record at.0.value { who = w }) (each k at.0 at.2)
        ∙ sym (ap (λ (o : Option Boxed). record at.0.value { who = who_at v k; digest = digest_in v o }) at.2)
        ∙ ap (λ (x : Nodes). node_at x k) same
