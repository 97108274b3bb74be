-- Where nodes stand: the world in which each node has its place, and nothing has happened yet.
use Rattle.std.proofs.Common.{◌≡◌, ◌++◌, ℕ, Bool, true, false, cond, refl, ap, sym, ◌∙◌, subst, arith, Option, Some, None, List, [], ◌∷◌, inl, inr}
use Rattle.tp_names.specs.declared.identifiers.Addr.{Addr}
use Rattle.tp_names.specs.Same.{is_name}
use Rattle.tp_names.proofs.Sames.{name_self}
use Rattle.tp_model.specs.World.{World, Node, Site, find_node, addr_at, find_site}
use Rattle.tp_model.specs.Happenings.{Happening, run, still, WorldTurn, new_site, bare_node, placed_at, place_turn}
use Rattle.tp_histories.proofs.worlds.Turns.{by_site}
use Rattle.tp_site_logs.proofs.Places.{site_appended}
use Rattle.tp_deployments.specs.Deployments.{Place, IsAmong, IsThere, AreArranged}
use Rattle.tp_deployments.specs.RunOf.{node_at, nodes_of}
use Rattle.tp_deployments.proofs.Places.{find_none, find_there}

abbrev pub number_over : Option Addr → Option ℕ
number_over None = None
number_over (Some a) = Some a.node

abbrev pub placing : List Place → List Happening
placing [] = []
placing (q ∷ qs) = Happening.Place q.addr.node q.addr.site (number_over q.superior) ∷ placing qs

pub record IsLaidOut (qs : List Place) (w : World) : Type 0 where
  pub nodes : w.nodes ≡ nodes_of qs []
  pub frames : w.frames ≡ []
  pub sites : (q : Place) → IsAmong q qs → (x : Site) × (find_site w.sites q.addr.site ≡ Some x)
  pub boots : (s : List ℕ) (x : Site) → find_site w.sites s ≡ Some x → x.boot ≡ 1

new_place : (qs : List Place) (w : World) (q : Place) → IsLaidOut qs w → IsLaidOut (q ∷ qs) (placed_at w q.addr.node q.addr.site q.superior).world
new_place qs w q k = laid
  where
    s : List ℕ
    s = q.addr.site

    old_site : (x : Site) → find_site w.sites s ≡ Some x → (r : Place) → IsAmong r (q ∷ qs) → (y : Site) × (find_site w.sites r.addr.site ≡ Some y)
    old_site x i r (inl same) = (x, ap (λ (p : Place). find_site w.sites p.addr.site) (sym same) ∙ i)
    old_site x i r (inr h) = k.sites r h

    appended : (t : List ℕ) → find_site w.sites s ≡ None → find_site (w.sites ++ new_site s ∷ []) t ≡ cond (is_name s t) (Some (new_site s)) (find_site w.sites t)
    appended t i = site_appended w.sites (new_site s) t i

    more_site : find_site w.sites s ≡ None → (t : List ℕ) → (b : Bool) → is_name s t ≡ b → (b ≡ false → (y : Site) × (find_site w.sites t ≡ Some y)) → (y : Site) × (find_site (w.sites ++ new_site s ∷ []) t ≡ Some y)
    more_site i t true e old = (new_site s, appended t i ∙ ap (λ (b : Bool). cond b (Some (new_site s)) (find_site w.sites t)) e)
    more_site i t false e old = let y = old refl in (y.0, appended t i ∙ ap (λ (b : Bool). cond b (Some (new_site s)) (find_site w.sites t)) e ∙ y.1)

    new_sites : find_site w.sites s ≡ None → (r : Place) → IsAmong r (q ∷ qs) → (y : Site) × (find_site (w.sites ++ new_site s ∷ []) r.addr.site ≡ Some y)
    new_sites i r (inl same) = subst (λ (p : Place). (y : Site) × (find_site (w.sites ++ new_site s ∷ []) p.addr.site ≡ Some y)) same (new_site s, appended s i ∙ ap (λ (b : Bool). cond b (Some (new_site s)) (find_site w.sites s)) (name_self s))
    new_sites i r (inr h) = more_site i r.addr.site (is_name s r.addr.site) refl (λ off. k.sites r h)

    new_boots : find_site w.sites s ≡ None → (t : List ℕ) (x : Site) (b : Bool) → is_name s t ≡ b → find_site (w.sites ++ new_site s ∷ []) t ≡ Some x → x.boot ≡ 1
    new_boots i t x true e j = let one : new_site s ≡ x = grind (arith, appended t i, e, j) in ap (λ (y : Site). y.boot) (sym one)
    new_boots i t x false e j = k.boots t x (grind (arith, appended t i, e, j))

    laid : IsLaidOut (q ∷ qs) (placed_at w q.addr.node s q.superior).world
    laid = by_site (IsLaidOut (q ∷ qs)) w s (λ (b : ℕ). bare_node s q.addr.node b q.superior) (λ x i. record {
      nodes = ap (λ (l : List Node). l ++ bare_node s q.addr.node x.boot q.superior ∷ []) k.nodes ∙ ap (λ (b : ℕ). nodes_of qs [] ++ bare_node s q.addr.node b q.superior ∷ []) (k.boots s x i);
      frames = k.frames;
      sites = old_site x i;
      boots = k.boots;
    }) (λ i. record {
      nodes = ap (λ (l : List Node). l ++ bare_node s q.addr.node 1 q.superior ∷ []) k.nodes;
      frames = k.frames;
      sites = new_sites i;
      boots = λ t x j. new_boots i t x (is_name s t) refl j;
    })

lands : (w : World) (n : ℕ) (s : List ℕ) (u : Option Addr) → ((a : Addr) → u ≡ Some a → addr_at w a.node ≡ Some a)
    → (elim (number_over u) as (λ _. WorldTurn) [
      | None ↦ placed_at w n s None
      | Some p ↦ elim (addr_at w p) as (λ _. WorldTurn) [ None ↦ still w | Some a ↦ placed_at w n s (Some a) ]
    ]) ≡ placed_at w n s u
lands w n s None above = refl
lands w n s (Some a) above = rw (above a refl) refl

one_comes : (qs : List Place) (w : World) (q : Place) → AreArranged (q ∷ qs) → IsLaidOut qs w → IsLaidOut (q ∷ qs) (place_turn w q.addr.node q.addr.site (number_over q.superior)).world
one_comes qs w q arr k = rw (free, place_turn) (subst (λ (t : WorldTurn). IsLaidOut (q ∷ qs) t.world) (sym (lands w q.addr.node q.addr.site q.superior (λ a i. above a (arr.1 a i)))) (new_place qs w q k))
  where
    free : find_node w.nodes q.addr.node ≡ None
    free = ap (λ (l : List Node). find_node l q.addr.node) k.nodes ∙ find_none qs [] q.addr.node arr.0

    above : (a : Addr) → IsThere qs a → addr_at w a.node ≡ Some a
    above a t =
        let found : find_node w.nodes a.node ≡ Some (node_at [] t.0) = ap (λ (l : List Node). find_node l a.node) k.nodes ∙ ap (λ (b : Addr). find_node (nodes_of qs []) b.node) (sym t.2) ∙ find_there qs [] t.0 arr.2 t.1 in
        rw (found, addr_at) (ap (λ (b : Addr). Some b) t.2)

pub laid_out : (qs : List Place) → AreArranged qs → IsLaidOut qs (run (placing qs))
laid_out [] arr = record { nodes = refl; frames = refl; sites = λ q h. absurd h; boots = λ s x h. absurd (cc (h)) }
laid_out (q ∷ qs) arr = one_comes qs (run (placing qs)) q arr (laid_out qs arr.2)
