use Rattle.std.proofs.Common.{◌≡◌, ◌++◌, ℕ, Some, List, [], ◌∷◌, subst, ap, sym, ◌∙◌, arith}
use Rattle.tp_world_sites.specs.declared.site_slot.SiteSlot.{SiteSlot}
use Rattle.tp_world_sites.specs.Sites.{place_of_site}
use Rattle.tp_world_sites.specs.Placing.{IsAt, IsSiteThere}
use Rattle.tp_world_sites.proofs.SiteNames.{slot_within, slot_missing}
use Rattle.tp_world_sites.proofs.Newcomers.{site_there, site_came, new_place}
use Rattle.tp_world_sites.proofs.sites.site_or_new.Goals as goal

pub returns-then-place-len-clause-there : goal.returns-then-place-len-clause-there
returns-then-place-len-clause-there c w stand placed =
    let xs = c.args.sites.now.items in
    let place : c.place_of-place.result ≡ place_of_site xs c.args.name.now = c.place_of-place.ensures ∙ ap (λ (l : List SiteSlot). place_of_site l c.args.name.now) c.as_slice.ensures.value in
    let slot = slot_within xs c.args.name.now (omega (arith, place)) in
    site_there w c.args.name.now xs slot.0 stand slot.1

pub returns-clause-at : goal.returns-clause-at
returns-clause-at c =
    let xs = c.args.sites.now.items in
    let y = c.in_ok-slot.slot in
    let place : c.place_of-place.result ≡ place_of_site xs c.args.name.now = c.place_of-place.ensures ∙ ap (λ (l : List SiteSlot). place_of_site l c.args.name.now) c.as_slice.ensures.value in
    let items : c.push.new.self.items ≡ xs ++ y ∷ [] = (c.in_ok-push.ensures {u = tt}).items in
    subst (λ (l : List SiteSlot). IsAt l c.args.name.now c.place_of-place.result) (sym items)
    (subst (λ (k : ℕ). IsAt (xs ++ y ∷ []) c.args.name.now k) (sym place) (new_place xs c.args.name.now y (omega (arith, place)) (c.in_ok-slot.ensures {u = tt})))

pub returns-clause-there : goal.returns-clause-there
returns-clause-there c w stand placed =
    let xs = c.args.sites.now.items in
    let y = c.in_ok-slot.slot in
    let place : c.place_of-place.result ≡ place_of_site xs c.args.name.now = c.place_of-place.ensures ∙ ap (λ (l : List SiteSlot). place_of_site l c.args.name.now) c.as_slice.ensures.value in
    let items : c.push.new.self.items ≡ xs ++ y ∷ [] = (c.in_ok-push.ensures {u = tt}).items in
    subst (λ (l : List SiteSlot). IsSiteThere w c.args.name.now (Some c.boot-boot.result) l) (sym items)
    (subst (λ (b : ℕ). IsSiteThere w c.args.name.now (Some b) (xs ++ y ∷ [])) (sym c.boot-boot.ensures)
    (site_came w c.args.name.now xs y stand placed (slot_missing xs c.args.name.now (omega (arith, place))) (c.in_ok-slot.ensures {u = tt})))
