-- The deeds of one site among those of all.
use Rattle.std.proofs.Common.{◌≡◌, Bool, true, false, refl, ap, sym, ◌∙◌, ℕ, List, [], ◌∷◌}
use Rattle.tp_names.specs.Same.{is_name}
use Rattle.tp_names.proofs.Sames.{name_self}
use Rattle.tp_records.specs.declared.body.Event.{Event as Given}
use Rattle.tp_site_logs.specs.Lives.{Life}
use Rattle.tp_deployments.specs.Deployments.{Deed, Starts, Takes, with_given, life_after}
use Rattle.tp_weaving.specs.Parts.{site_of_deed, part}

part_on : (s : List ℕ) (d : Deed) (ds : List Deed) → is_name (site_of_deed d) s ≡ true → part s (d ∷ ds) ≡ d ∷ part s ds
part_on s d ds i = rw (i, part) refl

part_off : (s : List ℕ) (d : Deed) (ds : List Deed) → is_name (site_of_deed d) s ≡ false → part s (d ∷ ds) ≡ part s ds
part_off s d ds i = rw (i, part) refl

on_start : (n s : List ℕ) (ds : List Deed) → is_name n s ≡ true → life_after (Starts n ∷ ds) s ≡ [] ∷ life_after ds s
on_start n s ds i = rw (i, life_after) refl

off_start : (n s : List ℕ) (ds : List Deed) → is_name n s ≡ false → life_after (Starts n ∷ ds) s ≡ life_after ds s
off_start n s ds i = rw (i, life_after) refl

on_take : (n s : List ℕ) (g : Given) (ds : List Deed) → is_name n s ≡ true → life_after (Takes n g ∷ ds) s ≡ with_given g (life_after ds s)
on_take n s g ds i = rw (i, life_after) refl

off_take : (n s : List ℕ) (g : Given) (ds : List Deed) → is_name n s ≡ false → life_after (Takes n g ∷ ds) s ≡ life_after ds s
off_take n s g ds i = rw (i, life_after) refl

-- what a site lived through is told by its own deeds
pub life_of_part : (s : List ℕ) (ds : List Deed) → life_after (part s ds) s ≡ life_after ds s
life_of_part s [] = refl
life_of_part s (Starts n ∷ ds) = go (is_name n s) refl (life_of_part s ds)
  where
    go : (b : Bool) → is_name n s ≡ b → life_after (part s ds) s ≡ life_after ds s → life_after (part s (Starts n ∷ ds)) s ≡ life_after (Starts n ∷ ds) s
    go true i rest = ap (λ (l : List Deed). life_after l s) (part_on s (Starts n) ds i) ∙ on_start n s (part s ds) i ∙ ap (λ (l : Life). [] ∷ l) rest ∙ sym (on_start n s ds i)
    go false i rest = ap (λ (l : List Deed). life_after l s) (part_off s (Starts n) ds i) ∙ rest ∙ sym (off_start n s ds i)
life_of_part s (Takes n g ∷ ds) = go (is_name n s) refl (life_of_part s ds)
  where
    go : (b : Bool) → is_name n s ≡ b → life_after (part s ds) s ≡ life_after ds s → life_after (part s (Takes n g ∷ ds)) s ≡ life_after (Takes n g ∷ ds) s
    go true i rest = ap (λ (l : List Deed). life_after l s) (part_on s (Takes n g) ds i) ∙ on_take n s g (part s ds) i ∙ ap (with_given g) rest ∙ sym (on_take n s g ds i)
    go false i rest = ap (λ (l : List Deed). life_after l s) (part_off s (Takes n g) ds i) ∙ rest ∙ sym (off_take n s g ds i)

pub part_there : (s : List ℕ) (d : Deed) (ds : List Deed) → is_name (site_of_deed d) s ≡ false → part s (d ∷ ds) ≡ part s ds
part_there s d ds i = part_off s d ds i

pub part_here : (s : List ℕ) (d : Deed) (ds : List Deed) → site_of_deed d ≡ s → part s (d ∷ ds) ≡ d ∷ part s ds
part_here s d ds is = part_on s d ds (ap (λ (n : List ℕ). is_name n s) is ∙ name_self s)
