-- A log that has of each number given records, and one record more: of a node, or a boot.
use Rattle.std.specs.Prelude.{nat_lt}
use Rattle.tp_site_logs.proofs.Vocabulary.{both, ◌≡◌, ◌==◌, ◌++◌, ℕ, Bool, true, false, cond, refl, ap, sym, ◌∙◌, arith, Some, List, [], ◌∷◌, nat_tests, append-nil, NodeKey, LogRec, owner, owner_of, boots, all_below, is_begun, last_boot_from, follows, all_follow, begun_after_is, boot_after_is, follow_from-append, records_at, IsOwnRec}
use Rattle.tp_site_logs.specs.SiteLogs.{is_vote_of_branch, only_branches_vote}
use Rattle.tp_site_logs.proofs.OneNumber.{follows_alone}

-- the last start of the log has that number
pub record IsLog (has : ℕ → List LogRec) (boot : ℕ) (list : List LogRec) : Type 0 where
  pub nodes : (k : ℕ) → records_at k list ≡ has k
  pub last : last_boot_from 0 list ≡ boot
  pub begun : is_begun list ≡ true
  pub order : all_follow list ≡ true

-- ---- one record more

pub owned : (n : ℕ) (r : LogRec) → IsOwnRec n (Some r) → (k : NodeKey) × (owner_of r ≡ Some (owner n k))
owned n (LogRec.Boot m) own = absurd own
owned n (LogRec.Ready m k s cs) own = (k, ap (λ (x : ℕ). Some (owner x k)) own)
owned n (LogRec.Heuristic m k o) own = (k, ap (λ (x : ℕ). Some (owner x k)) own)
owned n (LogRec.Commit m k s cs) own = (k, ap (λ (x : ℕ). Some (owner x k)) own)
owned n (LogRec.Damage m k s o r cs) own = (k, ap (λ (x : ℕ). Some (owner x k)) own)
owned n (LogRec.End m k o) own = (k, ap (λ (x : ℕ). Some (owner x k)) own)

pub records_append : (k : ℕ) (rs qs : List LogRec) → records_at k (rs ++ qs) ≡ records_at k rs ++ records_at k qs
records_append k [] qs = refl
records_append k (r ∷ rs) qs = grind (arith, records_append k rs qs)

-- a boot below another, after those that are
pub below_more : (n : ℕ) (ms : List ℕ) (m : ℕ) → all_below n ms ≡ true → nat_lt m n ≡ true → all_below n (ms ++ m ∷ []) ≡ true
below_more n [] m h i = grind (arith, i)
below_more n (k ∷ ms) m h i = grind (arith, h, below_more n ms m, i)

in_order_with : (rs : List LogRec) (r : LogRec) → all_follow rs ≡ true → follows rs r ≡ true → all_follow (rs ++ r ∷ []) ≡ true
in_order_with rs r order next = follow_from-append [] rs (r ∷ []) ∙ grind (arith, order, next)

-- of a node, which follows what the log has of the node after the last boot
pub log_more : (has now : ℕ → List LogRec) (boot n : ℕ) (list : List LogRec) (r : LogRec) → IsLog has boot list → IsOwnRec n (Some r) → follows (LogRec.Boot boot ∷ has n) r ≡ true
    → ((k : ℕ) → now k ≡ cond (n == k) (has n ++ r ∷ []) (has k)) → IsLog now boot (list ++ r ∷ [])
log_more has now boot n list r log own next looks = record {
  nodes = λ k. records_append k list (r ∷ []) ∙ here k (n == k) refl;
  last = boot_after_is 0 list r ∙ grind (arith, log.last, its.1);
  begun = begun_after_is list r;
  order = in_order_with list r log.order (follows_alone list boot r (owner n its.0) its.1 log.begun log.last ∙ ap (λ (rs : List LogRec). follows (LogRec.Boot boot ∷ rs) r) (log.nodes n) ∙ next);
}
  where
    its : (k : NodeKey) × (owner_of r ≡ Some (owner n k))
    its = owned n r own

    here : (k : ℕ) (b : Bool) → (n == k) ≡ b → records_at k list ++ records_at k (r ∷ []) ≡ now k
    here k true e =
        let same : n ≡ k = grind (arith, nat_tests, e) in
        let one : records_at k (r ∷ []) ≡ r ∷ [] = grind (arith, e, its.1) in
        ap (λ (rs : List LogRec). records_at k list ++ rs) one ∙ ap (λ (rs : List LogRec). rs ++ r ∷ []) (log.nodes k ∙ ap has (sym same)) ∙ sym (looks k ∙ ap (λ (b : Bool). cond b (has n ++ r ∷ []) (has k)) e)
    here k false e =
        let none : records_at k (r ∷ []) ≡ [] = grind (arith, e, its.1) in
        ap (λ (rs : List LogRec). records_at k list ++ rs) none ∙ append-nil (records_at k list) ∙ log.nodes k ∙ sym (looks k ∙ ap (λ (b : Bool). cond b (has n ++ r ∷ []) (has k)) e)

-- none
pub log_kept : (has now : ℕ → List LogRec) (boot : ℕ) (list : List LogRec) → IsLog has boot list → ((k : ℕ) → now k ≡ has k) → IsLog now boot list
log_kept has now boot list log looks = record { nodes = λ k. log.nodes k ∙ sym (looks k); last = log.last; begun = log.begun; order = log.order }

-- a boot, which is above all that the log has
pub log_booted : (has now : ℕ → List LogRec) (next : ℕ) (list : List LogRec) → all_below next (boots list) ≡ true → all_follow list ≡ true → ((k : ℕ) → records_at k list ≡ has k) → ((k : ℕ) → now k ≡ has k)
    → IsLog now next (list ++ LogRec.Boot next ∷ [])
log_booted has now next list above order nodes looks = record {
  nodes = λ k. records_append k list (LogRec.Boot next ∷ []) ∙ append-nil (records_at k list) ∙ nodes k ∙ sym (looks k);
  last = boot_after_is 0 list (LogRec.Boot next);
  begun = begun_after_is list (LogRec.Boot next);
  order = in_order_with list (LogRec.Boot next) order above;
}

-- ---- votes

pub votes_append : (rs : List LogRec) (r : LogRec) → only_branches_vote rs ≡ true → is_vote_of_branch r ≡ true → only_branches_vote (rs ++ r ∷ []) ≡ true
votes_append [] r h i = rw i refl
votes_append (q ∷ rs) r h i = let p = both (is_vote_of_branch q) (only_branches_vote rs) h in let rest = votes_append rs r p.1 i in rw (p.0, rest) refl
