-- The deeds of one site among those of all, and an order of all deeds in which each site has its own.
use Rattle.std.specs.Prelude.{ℕ, ◌≡◌, false, List, [], ◌∷◌, ◌++◌, if◌then◌else◌}
use Rattle.tp_names.specs.Same.{is_name}
use Rattle.tp_deployments.specs.Deployments.{Deed, Starts, Takes}
use Rattle.tp_weaving.specs.Frames.{Record, has_record}

abbrev pub site_of_deed : Deed → List ℕ
site_of_deed (Starts s) = s
site_of_deed (Takes s g) = s

abbrev pub part : List ℕ → List Deed → List Deed
part s [] = []
part s (d ∷ ds) = if is_name (site_of_deed d) s then d ∷ part s ds else part s ds

abbrev pub ArePartsOf : List Deed → List Record → Type 0
ArePartsOf ds [] = Unit {0}
ArePartsOf ds (r ∷ rs) = (part r.site ds ≡ r.deeds) × ArePartsOf ds rs

-- the deeds are those of the records, and no others; those of each site stand in its own order
pub record IsWovenOf (rs : List Record) (ds : List Deed) : Type 0 where
  pub parts : ArePartsOf ds rs
  pub others : (s : List ℕ) → has_record rs s ≡ false → part s ds ≡ []

-- some of these deeds, those of each site the first ones of its own order
abbrev pub AreBegunOf : List Deed → List Record → Type 0
AreBegunOf ds [] = Unit {0}
AreBegunOf ds (r ∷ rs) = ((later : List Deed) × (r.deeds ≡ later ++ part r.site ds)) × AreBegunOf ds rs

pub record IsBegunOf (rs : List Record) (ds : List Deed) : Type 0 where
  pub parts : AreBegunOf ds rs
  pub others : (s : List ℕ) → has_record rs s ≡ false → part s ds ≡ []

-- the first list has of each site what the second has, and maybe more after it
abbrev pub ReachesAll : List Deed → List Deed → Type 0
ReachesAll reached ds = (s : List ℕ) → (more : List Deed) × (part s reached ≡ more ++ part s ds)

-- no site has two records
abbrev pub AreApart : List Record → Type 0
AreApart [] = Unit {0}
AreApart (r ∷ rs) = (has_record rs r.site ≡ false) × AreApart rs
