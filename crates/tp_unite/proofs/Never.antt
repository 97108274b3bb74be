-- An event that is not placed so is in no deployment, whatever else is told.
use Rattle.std.proofs.Common.{◌≡◌, ◌⊎◌, ◌++◌, ℕ, suc, Bool, true, false, refl, ap, sym, ◌∙◌, subst, Option, Some, None, List, [], ◌∷◌, inl, inr}
use Rattle.std.specs.Prelude.{option_map}
use Rattle.tp_names.specs.declared.identifiers.Addr.{Addr}
use Rattle.tp_names.specs.Same.{is_name}
use Rattle.tp_names.proofs.Sames.{name_same}
use Rattle.tp_records.specs.declared.body.Event.{Event as Given}
use Rattle.tp_model.specs.Parts.{Event}
use Rattle.tp_model.specs.NodeRun.{Is, asked}
use Rattle.tp_site_logs.specs.Lives.{Life, opening_after}
use Rattle.tp_deployments.specs.Deployments.{Deed, Starts, Takes, Place, IsCarried, IsHeeded, IsFit, IsTaken, IsDeployment, life_after}
use Rattle.tp_weaving.specs.declared.frame.Frame.{Frame}
use Rattle.tp_weaving.specs.Frames.{Record, Recording as Told, with_deed, first_deed, with_start, with_event, with_records, frame_in, told_frame, told_body, told_from}
use Rattle.tp_weaving.specs.Parts.{part, site_of_deed, ArePartsOf}
use Rattle.tp_weaving.specs.Places.{placed}
use Rattle.tp_weaving.specs.Steps.{IsFromThere}
use Rattle.tp_weaving.specs.Weaving.{WeavesNone}
use Rattle.tp_weaving.proofs.Parts.{life_of_part, part_there, part_here}
use Rattle.tp_unite.specs.Placing.{IsMisplaced, MisplacesOf}
use Rattle.tp_unite.specs.Recording.{MisplacesIn, Misplaces}

-- ---- no deployment has that deed after these of its site

from_there : (qs : List Place) (ds : List Deed) (at : Addr) (e : Event) → IsCarried qs ds at e → IsFromThere qs e
from_there qs ds at (Event.Arrive from r) carried = carried.0
from_there qs ds at _ carried = tt

unfit : (qs : List Place) (r : Record) (g : Given) (ds : List Deed) → IsMisplaced qs r g → part r.site ds ≡ r.deeds → IsTaken qs ds r.site (life_after ds r.site) g → ⊥
unfit qs r g ds mis own taken =
    let life : life_after ds r.site ≡ mis.given ∷ mis.life = sym (life_of_part r.site ds) ∙ ap (λ (p : List Deed). life_after p r.site) own ∙ mis.lived in
    let fit : IsFit qs ds r.site mis.given mis.life (asked (opening_after r.site mis.life) g) = subst (λ (l : Life). IsTaken qs ds r.site l g) life taken in
    let on : IsFit qs ds r.site mis.given mis.life (Is mis.node mis.event) = subst (IsFit qs ds r.site mis.given mis.life) mis.asks fit in
    let heeds : IsHeeded qs ds (record { site = r.site; node = mis.node }) mis.event = on mis.entry mis.made in
    mis.unplaced (record { place = heeds.place; among = heeds.among; here = heeds.here; placed = heeds.placed; from = from_there qs ds (record { site = r.site; node = mis.node }) mis.event heeds.carried })

fits_before : (qs : List Place) (d : Deed) (ds : List Deed) → IsDeployment qs (d ∷ ds) → IsDeployment qs ds
fits_before qs (Starts s) ds h = h
fits_before qs (Takes s g) ds h = h.1

taken_of : (qs : List Place) (d : Deed) (ds : List Deed) (s : List ℕ) (g : Given) → IsDeployment qs (d ∷ ds) → d ≡ Takes s g → IsTaken qs ds s (life_after ds s) g
taken_of qs d ds s g fits is = let h : IsDeployment qs (Takes s g ∷ ds) = subst (λ (e : Deed). IsDeployment qs (e ∷ ds)) is fits in h.0

none_at_first : (more : List Deed) (d : Deed) (rest : List Deed) → [] ≡ more ++ d ∷ rest → ⊥
none_at_first [] d rest h = cc (h)
none_at_first (m ∷ more) d rest h = cc (h)

never : (qs : List Place) (r : Record) (g : Given) (ds : List Deed) → IsMisplaced qs r g → (more : List Deed) → part r.site ds ≡ more ++ Takes r.site g ∷ r.deeds → IsDeployment qs ds → ⊥
never qs r g [] mis more is fits = none_at_first more (Takes r.site g) r.deeds is
never qs r g (d ∷ ds) mis more is fits = by (is_name (site_of_deed d) r.site) refl more is (λ ms h. never qs r g ds mis ms h (fits_before qs d ds fits))
  where
    by : (b : Bool) → is_name (site_of_deed d) r.site ≡ b → (ms : List Deed) → part r.site (d ∷ ds) ≡ ms ++ Takes r.site g ∷ r.deeds → ((ks : List Deed) → part r.site ds ≡ ks ++ Takes r.site g ∷ r.deeds → ⊥) → ⊥
    by false i ms h rest = rest ms (sym (part_there r.site d ds i) ∙ h)
    by true i [] h rest =
        let both : d ∷ part r.site ds ≡ Takes r.site g ∷ r.deeds = sym (part_here r.site d ds (name_same (site_of_deed d) r.site i)) ∙ h in
        unfit qs r g ds mis (cc (both)) (taken_of qs d ds r.site g fits (cc (both)))
    by true i (m ∷ ms) h rest =
        let both : d ∷ part r.site ds ≡ m ∷ (ms ++ Takes r.site g ∷ r.deeds) = sym (part_here r.site d ds (name_same (site_of_deed d) r.site i)) ∙ h in
        rest ms (cc (both))

-- ---- what was told stays told

-- a site has these deeds, and maybe more after them
abbrev HasDeeds : List Record → List ℕ → List Deed → Type 0
HasDeeds [] s ds = ⊥
HasDeeds (r ∷ rs) s ds = ((r.site ≡ s) × ((more : List Deed) × (r.deeds ≡ more ++ ds))) ⊎ HasDeeds rs s ds

after_start : (rs : List Record) (at : ℕ) (n s : List ℕ) (ds : List Deed) → HasDeeds rs s ds → HasDeeds (with_start rs at n) s ds
after_start [] at n s ds h = absurd h
after_start (r ∷ rs) at n s ds h = by (is_name r.site n) h
  where
    by : (b : Bool) → HasDeeds (r ∷ rs) s ds → HasDeeds (elim b as (λ _. List Record) [ true ↦ with_deed r at (Starts r.site) ∷ rs | false ↦ first_deed at n ∷ r ∷ rs ]) s ds
    by true (inl own) = inl (own.0, (Starts r.site ∷ own.1.0, ap (λ (l : List Deed). Starts r.site ∷ l) own.1.1))
    by true (inr more) = inr more
    by false k = inr k

abbrev Keeps : Told → Told → List ℕ → List Deed → Type 0
Keeps t u s ds = HasDeeds u.records s ds × (u.places ≡ t.places)

after_event : (t : Told) (rs : List Record) (at : ℕ) (g : Given) (s : List ℕ) (ds : List Deed) (u : Told) → HasDeeds rs s ds → option_map (with_records t) (with_event rs at g) ≡ Some u → Keeps t u s ds
after_event t [] at g s ds u h is = absurd h
after_event t (r ∷ rs) at g s ds u h is =
    let same : with_records t (with_deed r at (Takes r.site g) ∷ rs) ≡ u = cc (is) in
    subst (λ (v : Told). Keeps t v s ds) same (by h, refl)
  where
    by : HasDeeds (r ∷ rs) s ds → HasDeeds (with_deed r at (Takes r.site g) ∷ rs) s ds
    by (inl own) = inl (own.0, (Takes r.site g ∷ own.1.0, ap (λ (l : List Deed). Takes r.site g ∷ l) own.1.1))
    by (inr more) = inr more

after_place : (t u : Told) (rs : List Record) (n : ℕ) (under : Option ℕ) (name : List ℕ) (s : List ℕ) (ds : List Deed) → HasDeeds rs s ds
    → (elim rs as (λ _. Option Told) [ [] ↦ option_map (λ (qs : List Place). record { count = suc t.count; places = qs; records = [] }) (placed t.places n under name) | r ∷ more ↦ None ]) ≡ Some u → Keeps t u s ds
after_place t u [] n under name s ds h is = absurd h
after_place t u (r ∷ rs) n under name s ds h is = absurd (cc (is))

after_frame : (t u : Told) (f : Frame) (at : ℕ) (s : List ℕ) (ds : List Deed) → HasDeeds t.records s ds → told_frame at t f ≡ Some u → Keeps t u s ds
after_frame t u (Frame.Place n under name) at s ds h is = after_place t u t.records n under name s ds h is
after_frame t u (Frame.Starts n) at s ds h is =
    let same : with_records t (with_start t.records at n) ≡ u = cc (is) in
    subst (λ (v : Told). Keeps t v s ds) same (after_start t.records at n s ds h, refl)
after_frame t u (Frame.Takes g) at s ds h is = after_event t t.records at g s ds u h is

after_body : (t u : Told) (body s : List ℕ) (ds : List Deed) → HasDeeds t.records s ds → told_body t body ≡ Some u → Keeps t u s ds
after_body t u body s ds h is = by (frame_in body) is
  where
    by : (o : Option Frame) → (elim o as (λ _. Option Told) [ None ↦ None | Some f ↦ told_frame (suc t.count) t f ]) ≡ Some u → Keeps t u s ds
    by None k = absurd (cc (k))
    by (Some f) k = after_frame t u f (suc t.count) s ds h k

after_all : (t u : Told) (bs : List (List ℕ)) (s : List ℕ) (ds : List Deed) → HasDeeds t.records s ds → told_from t bs ≡ Some u → Keeps t u s ds
after_all t u [] s ds h is = let same : t ≡ u = cc (is) in subst (λ (v : Told). Keeps t v s ds) same (h, refl)
after_all t u (b ∷ bs) s ds h is = by (told_body t b) refl is (λ v k j. after_all v u bs s ds k j)
  where
    by : (o : Option Told) → told_body t b ≡ o → (elim o as (λ _. Option Told) [ None ↦ None | Some v ↦ told_from v bs ]) ≡ Some u → ((v : Told) → HasDeeds v.records s ds → told_from v bs ≡ Some u → Keeps v u s ds) → Keeps t u s ds
    by None i j rest = absurd (cc (j))
    by (Some v) i j rest =
        let first = after_body t v b s ds h i in
        let k = rest v first.0 j in
        (k.0, k.1 ∙ first.1)

own_deeds : (ds : List Deed) (rs : List Record) (s : List ℕ) (old : List Deed) → ArePartsOf ds rs → HasDeeds rs s old → (more : List Deed) × (part s ds ≡ more ++ old)
own_deeds ds [] s old parts h = absurd h
own_deeds ds (r ∷ rs) s old parts (inl own) = (own.1.0, ap (λ (n : List ℕ). part n ds) (sym own.0) ∙ parts.0 ∙ own.1.1)
own_deeds ds (r ∷ rs) s old parts (inr more) = own_deeds ds rs s old parts.1 more

-- ---- so whatever is told after it is no deployment

after_misplaced : (t all : Told) (rs : List Record) (g : Given) (at : ℕ) (more : List (List ℕ)) → MisplacesOf t.places rs g
    → (elim (option_map (with_records t) (with_event rs at g)) as (λ _. Option Told) [ None ↦ None | Some u ↦ told_from u more ]) ≡ Some all → WeavesNone all.places all.records
after_misplaced t all [] g at more mis is = absurd mis
after_misplaced t all (r ∷ rs) g at more mis is = λ ds are fits.
    let u : Told = with_records t (with_deed r at (Takes r.site g) ∷ rs) in
    let keeps = after_all u all more r.site (Takes r.site g ∷ r.deeds) (inl (refl, ([], refl))) is in
    let own = own_deeds ds all.records r.site (Takes r.site g ∷ r.deeds) are.parts keeps.0 in
    never t.places r g ds mis own.0 own.1 (subst (λ (qs : List Place). IsDeployment qs ds) keeps.1 fits)

pub misplaced_never : (t all : Told) (body : List ℕ) (more : List (List ℕ)) → Misplaces t body → told_from t (body ∷ more) ≡ Some all → WeavesNone all.places all.records
misplaced_never t all body more mis is = by (frame_in body) mis is
  where
    by : (o : Option Frame) → (elim o as (λ _. Type 0) [ None ↦ ⊥ | Some f ↦ MisplacesIn t f ])
        → (elim (elim o as (λ _. Option Told) [ None ↦ None | Some f ↦ told_frame (suc t.count) t f ]) as (λ _. Option Told) [ None ↦ None | Some u ↦ told_from u more ]) ≡ Some all → WeavesNone all.places all.records
    by None m k = absurd m
    by (Some (Frame.Place n under name)) m k = absurd m
    by (Some (Frame.Starts n)) m k = absurd m
    by (Some (Frame.Takes g)) m k = after_misplaced t all t.records g (suc t.count) more m k
