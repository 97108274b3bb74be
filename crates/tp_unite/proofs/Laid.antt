-- The lanes of the sites that were played, by the names of these sites.
use Rattle.std.proofs.Common.{◌≡◌, suc, ◌-◌, ◌<◌, ◌≤◌, length, take, drop, ℕ, Bool, true, false, refl, ap, sym, ◌∙◌, subst, arith, List, [], ◌∷◌}
use Rattle.std.specs.Prelude.{slice_index_or}
use Rattle.std.proofs.lemmas.List.{take_all}
use Rattle.tp_names.specs.Same.{is_name}
use Rattle.tp_deployments.specs.Deployments.{Place}
use Rattle.tp_weaving.specs.declared.lane.Lane.{Lane}
use Rattle.tp_weaving.specs.Frames.{Record, has_record}
use Rattle.tp_weaving.specs.Weaving.{AreLanes}

chosen : (r : Record) (rs : List Record) (s : List ℕ) (b : Bool) → is_name r.site s ≡ b → has_record (r ∷ rs) s ≡ (elim b as (λ _. Bool) [ true ↦ true | false ↦ has_record rs s ])
chosen r rs s b i = ap (λ (c : Bool). elim c as (λ _. Bool) [ true ↦ true | false ↦ has_record rs s ]) i

pub no_lane : (qs : List Place) (rs : List Record) (xs : List Lane) (s : List ℕ) → length xs < 1 → AreLanes qs rs xs → false ≡ has_record rs s
no_lane qs [] [] s few h = refl
no_lane qs [] (x ∷ xs) s few h = absurd h
no_lane qs (r ∷ rs) [] s few h = absurd h
no_lane qs (r ∷ rs) (x ∷ xs) s few h = absurd (omega (arith, few))

pub first_lane : (qs : List Place) (rs : List Record) (xs : List Lane) (x : Lane) (s : List ℕ) (b : Bool) → 1 ≤ length xs → x ≡ slice_index_or xs 0 x → b ≡ is_name x.name s → b ≡ true → AreLanes qs rs xs → b ≡ has_record rs s
first_lane qs [] [] x s b some is named on h = absurd (omega (arith, some))
first_lane qs [] (y ∷ ys) x s b some is named on h = absurd h
first_lane qs (r ∷ rs) [] x s b some is named on h = absurd h
first_lane qs (r ∷ rs) (y ∷ ys) x s b some is named on h =
    let same : x ≡ y = is in
    let name : r.site ≡ x.name = sym (ap (λ (l : Lane). l.name) same ∙ h.0.name) in
    on ∙ sym (chosen r rs s true (ap (λ (n : List ℕ). is_name n s) name ∙ sym named ∙ on))

pub other_lane : (qs : List Place) (rs : List Record) (xs : List Lane) (x : Lane) (s : List ℕ) (b c : Bool) → 1 ≤ length xs → x ≡ slice_index_or xs 0 x → b ≡ is_name x.name s → b ≡ false
    → ((ps : List Place) (ts : List Record) → AreLanes ps ts (take (length xs - 1) (drop 1 xs)) → c ≡ has_record ts s) → AreLanes qs rs xs → c ≡ has_record rs s
other_lane qs [] [] x s b c some is named off rest h = absurd (omega (arith, some))
other_lane qs [] (y ∷ ys) x s b c some is named off rest h = absurd h
other_lane qs (r ∷ rs) [] x s b c some is named off rest h = absurd h
other_lane qs (r ∷ rs) (y ∷ ys) x s b c some is named off rest h =
    let same : x ≡ y = is in
    let name : r.site ≡ x.name = sym (ap (λ (l : Lane). l.name) same ∙ h.0.name) in
    let behind : take (length (y ∷ ys) - 1) ys ≡ ys = take_all (length (y ∷ ys) - 1) ys (omega arith) in
    rest qs rs (subst (AreLanes qs rs) (sym behind) h.1) ∙ sym (chosen r rs s false (ap (λ (n : List ℕ). is_name n s) name ∙ sym named ∙ off))

pub as_many : (qs : List Place) (rs : List Record) (xs : List Lane) → AreLanes qs rs xs → length xs ≡ length rs
as_many qs [] [] h = refl
as_many qs [] (x ∷ xs) h = absurd h
as_many qs (r ∷ rs) [] h = absurd h
as_many qs (r ∷ rs) (x ∷ xs) h = ap suc (as_many qs rs xs h.1)
