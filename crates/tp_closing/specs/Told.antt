-- The trees of a recording, as far as it was heard.
use Rattle.std.specs.Prelude.{ℕ, ◌≡◌, false, List, [], ◌∷◌}
use Rattle.tp_deployments.specs.Deployments.{Place, life_after}
use Rattle.tp_weaving.specs.Frames.{Record, has_record}
use Rattle.tp_closing.specs.declared.trees.Trees.{Trees}
use Rattle.tp_closing.specs.Closing.{deeds_of}
use Rattle.tp_closing.specs.Seen.{Sees}

-- the site of the newest record lived through what that record tells alone
abbrev pub IsAlone : List Record → Type 0
IsAlone [] = Unit {0}
IsAlone (r ∷ rs) = life_after (deeds_of (r ∷ rs)) r.site ≡ life_after r.deeds r.site

pub record TellTrees (qs : List Place) (rs : List Record) (v : Trees) : Type 0 where
  pub sees : Sees (deeds_of rs) qs v
  -- no process ran at a site without a record
  pub others : (s : List ℕ) → has_record rs s ≡ false → life_after (deeds_of rs) s ≡ []
  pub alone : IsAlone rs
