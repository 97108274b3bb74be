-- What holds of each record of a list holds of each record of its brief.
use Rattle.std.proofs.Common.{◌≡◌, ◌⊎◌, inl, inr, ℕ, max, Bool, true, false, Option, Some, None, List, [], ◌∷◌, ◌++◌, sym, subst, arith}
use Rattle.std.specs.List.{AllByRecursion}
use Rattle.tp_outside.proofs.Stories.{split_le}
use Rattle.tp_logrec.specs.declared.record.LogRec.{LogRec}
use Rattle.tp_logrec.specs.declared.owner.Owner.{Owner}
use Rattle.tp_logrec.specs.Order.{Life, is_owner, owner_of, is_end, with_record, without, lives_by, lives_after, lives_from, lives, boots, greatest, boot_record, those, last, last_only, is_ready, is_heuristic, is_commit, is_damage, brief_life, brief_lives, brief}

either_max : (n m : ℕ) → (max n m ≡ n) ⊎ (max n m ≡ m)
either_max n m = elim (split_le n m) [ inl le ↦ inr (omega arith) | inr lt ↦ inl (omega arith) ]

module _ (P : LogRec → Type 0) where
  abbrev Each : List LogRec → Type 0
  Each rs = AllByRecursion P rs

  abbrev EachLife : List Life → Type 0
  EachLife [] = Unit {0}
  EachLife (l ∷ ls) = Each l.records × EachLife ls

  each-append : (xs ys : List LogRec) → Each xs → Each ys → Each (xs ++ ys)
  each-append [] ys some all = all
  each-append (x ∷ xs) ys some all = (some.0, each-append xs ys some.1 all)

  each-those : (test : LogRec → Bool) (rs : List LogRec) → Each rs → Each (those test rs)
  each-those test [] all = tt
  each-those test (r ∷ rs) all = go (each-those test rs all.1) (test r)
    where
      go : Each (those test rs) → (b : Bool) → Each (elim b as (λ _. List LogRec) [ true ↦ r ∷ those test rs | false ↦ those test rs ])
      go rest true = (all.0, rest)
      go rest false = rest

  IfLast : Option LogRec → Type 0
  IfLast None = Unit {0}
  IfLast (Some r) = P r

  if_last : (rs : List LogRec) → Each rs → IfLast (last rs)
  unfolding IfLast
  if_last [] all = tt
  if_last (r ∷ []) all = all.0
  if_last (r ∷ q ∷ qs) all = if_last (q ∷ qs) all.1

  each-last : (rs : List LogRec) → Each rs → Each (last_only rs)
  unfolding IfLast
  each-last rs all = go (last rs) (if_last rs all)
    where
      go : (o : Option LogRec) → IfLast o → Each (elim o as (λ _. List LogRec) [ None ↦ [] | Some r ↦ r ∷ [] ])
      go None some = tt
      go (Some r) some = (some, tt)

  each-life : (rs : List LogRec) → Each rs → Each (brief_life rs)
  each-life rs all =
      each-append (those is_ready rs ++ those is_heuristic rs ++ those is_commit rs) (last_only (those is_damage rs))
      (each-append (those is_ready rs ++ those is_heuristic rs) (those is_commit rs)
      (each-append (those is_ready rs) (those is_heuristic rs) (each-those is_ready rs all) (each-those is_heuristic rs all)) (each-those is_commit rs all))
      (each-last (those is_damage rs) (each-those is_damage rs all))

  each-brief_lives : (ls : List Life) → EachLife ls → Each (brief_lives ls)
  each-brief_lives [] all = tt
  each-brief_lives (l ∷ ls) all = each-append (brief_life l.records) (brief_lives ls) (each-life l.records all.0) (each-brief_lives ls all.1)

  each-with : (ls : List Life) (o : Owner) (r : LogRec) → EachLife ls → P r → EachLife (with_record ls o r)
  each-with [] o r all has = ((has, tt), tt)
  each-with (l ∷ ls) o r all has = go (each-with ls o r all.1 has) (is_owner l.owner o)
    where
      go : EachLife (with_record ls o r) → (b : Bool) → EachLife (elim b as (λ _. List Life) [ true ↦ record l { records = l.records ++ r ∷ [] } ∷ ls | false ↦ l ∷ with_record ls o r ])
      go rest true = (each-append l.records (r ∷ []) all.0 (has, tt), all.1)
      go rest false = (all.0, rest)

  each-without : (ls : List Life) (o : Owner) → EachLife ls → EachLife (without ls o)
  each-without [] o all = tt
  each-without (l ∷ ls) o all = go (each-without ls o all.1) (is_owner l.owner o)
    where
      go : EachLife (without ls o) → (b : Bool) → EachLife (elim b as (λ _. List Life) [ true ↦ without ls o | false ↦ l ∷ without ls o ])
      go rest true = rest
      go rest false = (all.0, rest)

  each-by : (ls : List Life) (o : Owner) (r : LogRec) → EachLife ls → P r → EachLife (lives_by ls o r)
  each-by ls o r all has = go (is_end r)
    where
      go : (b : Bool) → EachLife (elim b as (λ _. List Life) [ true ↦ without ls o | false ↦ with_record ls o r ])
      go true = each-without ls o all
      go false = each-with ls o r all has

  each-after : (ls : List Life) (r : LogRec) → EachLife ls → P r → EachLife (lives_after ls r)
  each-after ls r all has = go (owner_of r)
    where
      go : (o : Option Owner) → EachLife (elim o as (λ _. List Life) [ None ↦ ls | Some o ↦ lives_by ls o r ])
      go None = all
      go (Some o) = each-by ls o r all has

  each-from : (ls : List Life) (rs : List LogRec) → EachLife ls → Each rs → EachLife (lives_from ls rs)
  each-from ls [] all some = all
  each-from ls (r ∷ rs) all some = each-from (lives_after ls r) rs (each-after ls r all some.0) some.1

  abbrev EachBoot : List ℕ → Type 0
  EachBoot ns = AllByRecursion (λ n. P (LogRec.Boot n)) ns

  each-boots : (rs : List LogRec) → Each rs → EachBoot (boots rs)
  each-boots [] all = tt
  each-boots (LogRec.Boot n ∷ rs) all = (all.0, each-boots rs all.1)
  each-boots (LogRec.Ready n k a cs ∷ rs) all = each-boots rs all.1
  each-boots (LogRec.Heuristic n k o ∷ rs) all = each-boots rs all.1
  each-boots (LogRec.Commit n k a cs ∷ rs) all = each-boots rs all.1
  each-boots (LogRec.Damage n k a o r cs ∷ rs) all = each-boots rs all.1
  each-boots (LogRec.End n k o ∷ rs) all = each-boots rs all.1

  larger : (n m : ℕ) → P (LogRec.Boot n) → P (LogRec.Boot m) → P (LogRec.Boot (max n m))
  larger n m one other = elim (either_max n m) [ inl e ↦ subst (λ (k : ℕ). P (LogRec.Boot k)) (sym e) one | inr e ↦ subst (λ (k : ℕ). P (LogRec.Boot k)) (sym e) other ]

  each-greatest : (ns : List ℕ) → EachBoot ns → Each (boot_record (greatest ns))
  each-greatest [] all = tt
  each-greatest (n ∷ ns) all = go (greatest ns) (each-greatest ns all.1)
    where
      go : (o : Option ℕ) → Each (boot_record o) → Each (boot_record (elim o as (λ _. Option ℕ) [ None ↦ Some n | Some m ↦ Some (max n m) ]))
      go None rest = (all.0, tt)
      go (Some m) rest = (larger n m all.0 rest.0, tt)

  pub each-brief : (rs : List LogRec) → Each rs → Each (brief rs)
  each-brief rs all = each-append (boot_record (greatest (boots rs))) (brief_lives (lives rs)) (each-greatest (boots rs) (each-boots rs all)) (each-brief_lives (lives rs) (each-from [] rs tt all))
