-- Records that stand in a log, and in one that was made of it.
use Rattle.std.specs.List.{AllByRecursion}
use Rattle.std.proofs.Common.{◌≡◌, ◌⊎◌, inl, inr, refl, subst, Some, List, [], ◌∷◌, ◌++◌}
use Rattle.tp_logrec.specs.declared.owner.Owner.{Owner}
use Rattle.tp_logrec.specs.declared.record.LogRec.{LogRec}
use Rattle.tp_logrec.specs.Order.{owner_of, brief}
use Rattle.tp_processes.specs.Processes.{StandsIn, IsPartOf}
use Rattle.tp_processes.proofs.Votes.{brief_all}

pub in_front : (rs qs : List LogRec) (r : LogRec) → StandsIn rs r → StandsIn (rs ++ qs) r
in_front [] qs r is = absurd is
in_front (x ∷ rs) qs r (inl here) = inl here
in_front (x ∷ rs) qs r (inr more) = inr (in_front rs qs r more)

pub in_back : (rs qs : List LogRec) (r : LogRec) → StandsIn qs r → StandsIn (rs ++ qs) r
in_back [] qs r is = is
in_back (x ∷ rs) qs r is = inr (in_back rs qs r is)

pub in_either : (rs qs : List LogRec) (r : LogRec) → StandsIn (rs ++ qs) r → StandsIn rs r ⊎ StandsIn qs r
in_either [] qs r is = inr is
in_either (x ∷ rs) qs r (inl here) = inl (inl here)
in_either (x ∷ rs) qs r (inr more) = elim (in_either rs qs r more) [ inl one ↦ inl (inr one) | inr other ↦ inr other ]

-- ---- the brief

each_in : (P : LogRec → Type 0) (rs : List LogRec) → ((r : LogRec) → StandsIn rs r → P r) → AllByRecursion P rs
each_in P [] holds = tt
each_in P (r ∷ rs) holds = (holds r (inl refl), each_in P rs (λ q is. holds q (inr is)))

in_each : (P : LogRec → Type 0) (rs : List LogRec) (r : LogRec) → AllByRecursion P rs → StandsIn rs r → P r
in_each P [] r all is = absurd is
in_each P (q ∷ rs) r all (inl here) = subst P here all.0
in_each P (q ∷ rs) r all (inr more) = in_each P rs r all.1 more

pub brief_part : (rs : List LogRec) → IsPartOf (brief rs) rs
brief_part rs r o own is = in_each (λ (q : LogRec). (p : Owner) → owner_of q ≡ Some p → StandsIn rs q) (brief rs) r (brief_all (λ (q : LogRec). (p : Owner) → owner_of q ≡ Some p → StandsIn rs q) (λ n p none. absurd (cc (none))) rs (each_in (λ (q : LogRec). (p : Owner) → owner_of q ≡ Some p → StandsIn rs q) rs (λ q stands p has. stands))) is o own

-- ---- a log that goes on

pub longer_part : (rs qs more new : List LogRec) → IsPartOf rs qs → more ≡ new → IsPartOf (rs ++ more) (qs ++ new)
longer_part rs qs more new part same r o own is = elim (in_either rs more r is) [
  | inl old ↦ in_front qs new r (part r o own old)
  | inr last ↦ in_back qs new r (subst (λ (l : List LogRec). StandsIn l r) same last)
]
