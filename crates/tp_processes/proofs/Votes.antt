-- What holds of every boot and of all records of a log holds of those of its brief.
use Rattle.std.specs.List.{AllByRecursion}
use Rattle.std.proofs.Common.{◌≡◌, Bool, true, false, refl, ap, ◌∙◌, Option, Some, None, List, [], ◌∷◌, ◌++◌}
use Rattle.std.specs.Prelude.{ℕ, ◌&&◌}
use Rattle.tp_names.proofs.Sames.{both}
use Rattle.tp_logrec.specs.declared.record.LogRec.{LogRec}
use Rattle.tp_logrec.specs.declared.owner.Owner.{Owner}
use Rattle.tp_logrec.specs.Order.{is_owner, is_end, owner_of, is_ready, is_heuristic, is_commit, is_damage, those, last_or, last_only, brief_life, brief_lives, boot_record, boots, greatest, brief, Life, with_record, without, lives_by, lives_after, lives_from, lives}
use Rattle.tp_site_logs.specs.SiteLogs.{is_vote_of_branch, only_branches_vote}

module _ (P : LogRec → Type 0) (boot : (n : ℕ) → P (LogRec.Boot n)) where
  abbrev Fair : List LogRec → Type 0
  Fair rs = AllByRecursion P rs

  fair_more : (rs qs : List LogRec) → Fair rs → Fair qs → Fair (rs ++ qs)
  fair_more [] qs a b = b
  fair_more (r ∷ rs) qs a b = (a.0, fair_more rs qs a.1 b)

  fair_those : (test : LogRec → Bool) (rs : List LogRec) → Fair rs → Fair (those test rs)
  fair_those test [] a = tt
  fair_those test (r ∷ rs) a = go (test r) (fair_those test rs a.1)
    where
      go : (b : Bool) → Fair (those test rs) → Fair (elim b [ true ↦ r ∷ those test rs | false ↦ those test rs ])
      go true rest = (a.0, rest)
      go false rest = rest

  fair_last : (before : Option LogRec) (rs : List LogRec) → Fair (elim before [ None ↦ [] | Some r ↦ r ∷ [] ]) → Fair rs → Fair (elim (last_or before rs) [ None ↦ [] | Some r ↦ r ∷ [] ])
  fair_last before [] a b = a
  fair_last before (r ∷ rs) a b = fair_last (Some r) rs (b.0, tt) b.1

  fair_life : (rs : List LogRec) → Fair rs → Fair (brief_life rs)
  fair_life rs a =
      fair_more (those is_ready rs ++ those is_heuristic rs ++ those is_commit rs) (last_only (those is_damage rs))
      (fair_more (those is_ready rs ++ those is_heuristic rs) (those is_commit rs) (fair_more (those is_ready rs) (those is_heuristic rs) (fair_those is_ready rs a) (fair_those is_heuristic rs a)) (fair_those is_commit rs a))
      (fair_last None (those is_damage rs) tt (fair_those is_damage rs a))

  -- ---- lives

  abbrev EachFair : List Life → Type 0
  EachFair [] = Unit {0}
  EachFair (l ∷ ls) = Fair l.records × EachFair ls

  fair_with : (ls : List Life) (o : Owner) (r : LogRec) → P r → EachFair ls → EachFair (with_record ls o r)
  fair_with [] o r v a = ((v, tt), tt)
  fair_with (l ∷ ls) o r v a = go (is_owner l.owner o) (fair_with ls o r v a.1)
    where
      go : (b : Bool) → EachFair (with_record ls o r) → EachFair (elim b [ true ↦ record l { records = l.records ++ r ∷ [] } ∷ ls | false ↦ l ∷ with_record ls o r ])
      go true rest = (fair_more l.records (r ∷ []) a.0 (v, tt), a.1)
      go false rest = (a.0, rest)

  fair_without : (ls : List Life) (o : Owner) → EachFair ls → EachFair (without ls o)
  fair_without [] o a = tt
  fair_without (l ∷ ls) o a = go (is_owner l.owner o) (fair_without ls o a.1)
    where
      go : (b : Bool) → EachFair (without ls o) → EachFair (elim b [ true ↦ without ls o | false ↦ l ∷ without ls o ])
      go true rest = rest
      go false rest = (a.0, rest)

  fair_after : (ls : List Life) (r : LogRec) → P r → EachFair ls → EachFair (lives_after ls r)
  fair_after ls r v a = go (owner_of r)
    where
      by : (b : Bool) (o : Owner) → EachFair (elim b [ true ↦ without ls o | false ↦ with_record ls o r ])
      by true o = fair_without ls o a
      by false o = fair_with ls o r v a

      go : (x : Option Owner) → EachFair (elim x as (λ _. List Life) [ None ↦ ls | Some o ↦ lives_by ls o r ])
      go None = a
      go (Some o) = by (is_end r) o

  fair_lives : (ls : List Life) (rs : List LogRec) → Fair rs → EachFair ls → EachFair (lives_from ls rs)
  fair_lives ls [] v a = a
  fair_lives ls (r ∷ rs) v a = fair_lives (lives_after ls r) rs v.1 (fair_after ls r v.0 a)

  fair_briefs : (ls : List Life) → EachFair ls → Fair (brief_lives ls)
  fair_briefs [] a = tt
  fair_briefs (l ∷ ls) a = fair_more (brief_life l.records) (brief_lives ls) (fair_life l.records a.0) (fair_briefs ls a.1)

  fair_boot : (g : Option ℕ) → Fair (boot_record g)
  fair_boot None = tt
  fair_boot (Some n) = (boot n, tt)

  pub brief_all : (rs : List LogRec) → AllByRecursion P rs → AllByRecursion P (brief rs)
  brief_all rs a = fair_more (boot_record (greatest (boots rs))) (brief_lives (lives rs)) (fair_boot (greatest (boots rs))) (fair_briefs (lives rs) (fair_lives [] rs a tt))

-- ---- so of the votes

abbrev IsFair : LogRec → Type 0
IsFair r = is_vote_of_branch r ≡ true

each_fair : (rs : List LogRec) → only_branches_vote rs ≡ true → AllByRecursion IsFair rs
each_fair [] a = tt
each_fair (r ∷ rs) a = let p = both (is_vote_of_branch r) (only_branches_vote rs) a in (p.0, each_fair rs p.1)

all_fair : (rs : List LogRec) → AllByRecursion IsFair rs → only_branches_vote rs ≡ true
all_fair [] a = refl
all_fair (r ∷ rs) a = ap (λ (b : Bool). b && only_branches_vote rs) a.0 ∙ all_fair rs a.1

pub fair_brief : (rs : List LogRec) → only_branches_vote rs ≡ true → only_branches_vote (brief rs) ≡ true
fair_brief rs a = all_fair (brief rs) (brief_all IsFair (λ n. refl) rs (each_fair rs a))
