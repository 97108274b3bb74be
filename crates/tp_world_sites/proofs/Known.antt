-- What sites know of their nodes: after an entry of one of them, and beside a new site.
use Rattle.std.proofs.Common.{◌≡◌, ◌<◌, ◌==◌, ◌++◌, ℕ, Bool, true, false, cond, refl, ap, sym, ◌∙◌, subst, arith, Some, None, List, [], ◌∷◌, length, slice_set}
use Rattle.std.proofs.lemmas.Bool.Decides.{nat_tests}
use Rattle.tp_logrec.specs.declared.record.LogVersion.{LogVersion}
use Rattle.tp_names.specs.Same.{is_name}
use Rattle.tp_names.proofs.Sames.{name_same}
use Rattle.tp_model.specs.Parts.{Digest}
use Rattle.tp_model.specs.Events.{started}
use Rattle.tp_model.specs.History.{digest}
use Rattle.tp_model.specs.World.{Node, number_of, site_of, find_node, put_node}
use Rattle.tp_site.specs.Nodes.{IsSameSite}
use Rattle.tp_site.specs.Site.{known_at}
use Rattle.tp_world_sites.specs.Sites.{find_site_slot, place_of_site, known_by, unknown_at, KnowNodes}
use Rattle.tp_world_sites.specs.declared.site_slot.SiteSlot.{SiteSlot}
use Rattle.tp_world_sites.proofs.SiteNames.{slot_put, slot_push, slot_name}

-- ---- nodes

pub find_put : (ns : List Node) (y old : Node) (m : ℕ) → find_node ns (number_of y) ≡ Some old
    → find_node (put_node ns y) m ≡ cond (number_of y == m) (Some y) (find_node ns m)
find_put [] y old m h = absurd cc
find_put (x ∷ ns) y old m h = grind (arith, nat_tests, find_put ns y old m)

pub find_append : (ns : List Node) (x : Node) (m : ℕ) → find_node ns (number_of x) ≡ None
    → find_node (ns ++ x ∷ []) m ≡ cond (number_of x == m) (Some x) (find_node ns m)
find_append [] x m h = grind (arith, nat_tests)
find_append (y ∷ ns) x m h = grind (arith, nat_tests, find_append ns x m)

-- ---- at one site

pub known_here : (s : List ℕ) (u : Digest) (n : Node) → is_name (site_of n) s ≡ true → known_by s u (Some n) ≡ digest n.origin n.history
known_here s u n here = grind (arith, here)

pub known_elsewhere : (s : List ℕ) (u : Digest) (n : Node) → is_name (site_of n) s ≡ false → known_by s u (Some n) ≡ u
known_elsewhere s u n there = grind (arith, there)

unknown_same : (x y : SiteSlot) → IsSameSite x.site.nodes y.site.nodes → unknown_at y ≡ unknown_at x
unknown_same x y same = go x.site.nodes.boot y.site.nodes.boot x.site.nodes.version y.site.nodes.version same.boot same.version
  where
    go : (a b : ℕ) (v w : LogVersion) → b ≡ a → w ≡ v → started (record { boot = b; version = w; records = [] }) ≡ started (record { boot = a; version = v; records = [] })
    go a b v w e f = rw (e, f) refl

-- ---- one number is known anew

-- the node of that number is another from now on, and all else is as it was: at the node's site, where it stands
module _ (ns new : List Node) (y : Node) (looks : (m : ℕ) → find_node new m ≡ cond (number_of y == m) (Some y) (find_node ns m)) where
  looked : (s : List ℕ) (u : Digest) (k : ℕ) (b : Bool) → (number_of y == k) ≡ b → known_by s u (find_node new k) ≡ known_by s u (cond b (Some y) (find_node ns k))
  looked s u k b is = ap (known_by s u) (looks k ∙ ap (λ (c : Bool). cond c (Some y) (find_node ns k)) is)

  -- a site at which it does not stand knows what it knew
  pub still_known : (s : List ℕ) (x : SiteSlot) (k : ℕ) → is_name (site_of y) s ≡ false → known_by s (unknown_at x) (find_node ns (number_of y)) ≡ unknown_at x → known_at x.site k ≡ known_by s (unknown_at x) (find_node ns k)
      → known_at x.site k ≡ known_by s (unknown_at x) (find_node new k)
  still_known s x k other before known = go (number_of y == k) refl
    where
      go : (b : Bool) → (number_of y == k) ≡ b → known_at x.site k ≡ known_by s (unknown_at x) (find_node new k)
      go true is =
          let same : number_of y ≡ k = grind (arith, nat_tests, is) in
          known ∙ ap (λ (m : ℕ). known_by s (unknown_at x) (find_node ns m)) (sym same) ∙ before ∙ sym (known_elsewhere s (unknown_at x) y other) ∙ sym (looked s (unknown_at x) k true is)
      go false is = known ∙ sym (looked s (unknown_at x) k false is)

  -- its own site knows the number anew
  pub newly_known : (s : List ℕ) (x z : SiteSlot) (k : ℕ) → is_name (site_of y) s ≡ true → IsSameSite x.site.nodes z.site.nodes → known_at z.site k ≡ cond (number_of y == k) (digest y.origin y.history) (known_at x.site k)
      → known_at x.site k ≡ known_by s (unknown_at x) (find_node ns k) → known_at z.site k ≡ known_by s (unknown_at z) (find_node new k)
  newly_known s x z k here same now known = go (number_of y == k) refl
    where
      go : (b : Bool) → (number_of y == k) ≡ b → known_at z.site k ≡ known_by s (unknown_at z) (find_node new k)
      go true is = now ∙ ap (λ (c : Bool). cond c (digest y.origin y.history) (known_at x.site k)) is ∙ sym (known_here s (unknown_at z) y here) ∙ sym (looked s (unknown_at z) k true is)
      go false is =
          now ∙ ap (λ (c : Bool). cond c (digest y.origin y.history) (known_at x.site k)) is ∙ known ∙ ap (λ (u : Digest). known_by s u (find_node ns k)) (sym (unknown_same x z same)) ∙ sym (looked s (unknown_at z) k false is)

  -- all sites, where one of them takes the place of what it was
  pub know_put : (xs : List SiteSlot) (x z : SiteSlot) → KnowNodes xs ns → find_site_slot xs (site_of y) ≡ Some x → place_of_site xs (site_of y) < length xs → IsSameSite x.site.nodes z.site.nodes
      → ((s : List ℕ) (u : Digest) → is_name (site_of y) s ≡ false → known_by s u (find_node ns (number_of y)) ≡ u)
      → ((k : ℕ) → known_at z.site k ≡ cond (number_of y == k) (digest y.origin y.history) (known_at x.site k))
      → KnowNodes (slice_set xs (place_of_site xs (site_of y)) z) new
  know_put xs x z know found within same before now s v at k = go (is_name (site_of y) s) refl
    where
      name : z.site.nodes.site ≡ site_of y
      name = same.site ∙ slot_name xs (site_of y) x found

      lookup : find_site_slot (slice_set xs (place_of_site xs (site_of y)) z) s ≡ cond (is_name (site_of y) s) (Some z) (find_site_slot xs s)
      lookup = slot_put xs (site_of y) z s within name

      go : (b : Bool) → is_name (site_of y) s ≡ b → known_at v.site k ≡ known_by s (unknown_at v) (find_node new k)
      go true here =
          let is : Some v ≡ Some z = sym at ∙ lookup ∙ ap (λ (c : Bool). cond c (Some z) (find_site_slot xs s)) here in
          let one : v ≡ z = cc (is) in
          let self : find_site_slot xs s ≡ Some x = ap (find_site_slot xs) (sym (name_same (site_of y) s here)) ∙ found in
          subst (λ (t : SiteSlot). known_at t.site k ≡ known_by s (unknown_at t) (find_node new k)) (sym one) (newly_known s x z k here same (now k) (know s x self k))
      go false there =
          let is : find_site_slot xs s ≡ Some v = sym (lookup ∙ ap (λ (c : Bool). cond c (Some z) (find_site_slot xs s)) there) ∙ at in
          still_known s v k there (before s (unknown_at v) there) (know s v is k)

-- ---- a new site

-- no node stands at a site that is not there
pub know_push : (xs : List SiteSlot) (ns : List Node) (y : SiteSlot) → KnowNodes xs ns → find_site_slot xs y.site.nodes.site ≡ None → ((k : ℕ) → known_at y.site k ≡ unknown_at y)
    → ((k : ℕ) (u : Digest) → known_by y.site.nodes.site u (find_node ns k) ≡ u) → KnowNodes (xs ++ y ∷ []) ns
know_push xs ns y know new unknown nobody s v at k = go (is_name y.site.nodes.site s) refl
  where
    lookup : find_site_slot (xs ++ y ∷ []) s ≡ cond (is_name y.site.nodes.site s) (Some y) (find_site_slot xs s)
    lookup = slot_push xs y s new

    go : (b : Bool) → is_name y.site.nodes.site s ≡ b → known_at v.site k ≡ known_by s (unknown_at v) (find_node ns k)
    go true here =
        let is : Some v ≡ Some y = sym at ∙ lookup ∙ ap (λ (c : Bool). cond c (Some y) (find_site_slot xs s)) here in
        let one : v ≡ y = cc (is) in
        let none : unknown_at y ≡ known_by s (unknown_at y) (find_node ns k) = sym (nobody k (unknown_at y)) ∙ ap (λ (n : List ℕ). known_by n (unknown_at y) (find_node ns k)) (name_same y.site.nodes.site s here) in
        subst (λ (t : SiteSlot). known_at t.site k ≡ known_by s (unknown_at t) (find_node ns k)) (sym one) (unknown k ∙ none)
    go false there =
        let is : find_site_slot xs s ≡ Some v = sym (lookup ∙ ap (λ (c : Bool). cond c (Some y) (find_site_slot xs s)) there) ∙ at in
        know s v is k
