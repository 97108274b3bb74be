-- What the order and the brief read of a list grows by one record at a time.
use Rattle.std.proofs.Common.{◌≡◌, ℕ, Option, Some, None, List, [], ◌∷◌, ◌++◌, refl, sym, ◌∙◌, ap, arith, append-nil, Bool, true, false}
use Rattle.std.specs.Prelude.{◌&&◌, nat_lt, max}
use Rattle.std.proofs.lemmas.Bool.Decides.{nat_tests}
use Rattle.tp_logrec.specs.declared.record.LogRec.{LogRec}
use Rattle.tp_logrec.specs.Order.{Owner, owner, is_owner, is_ready, Life, with_record, without, lives_after, lives_from, lives, records_of, last_or, last, those, bound_after, bound_from, boots, all_below, greatest, is_begun, boot_by, last_boot_from, last_by, last_from, ready_by, ready_from}
use Rattle.tp_logrec.specs.OrderCheck.{greatest_by, greatest_after, is_above}
use Rattle.tp_logrec.proofs.Sames.{owner_same}

-- ---- boots

pub above_greatest : (n : ℕ) (bs : List ℕ) → is_above (greatest bs) n ≡ all_below n bs
above_greatest n [] = refl
above_greatest n (b ∷ bs) = go (greatest bs) (above_greatest n bs)
  where
    go : (g : Option ℕ) → is_above g n ≡ all_below n bs → is_above (elim g as (λ _. Option ℕ) [ None ↦ Some b | Some m ↦ Some (max b m) ]) n ≡ (nat_lt b n && all_below n bs)
    go None e = rw (← e) (and_one (nat_lt b n))
      where
        and_one : (t : Bool) → t ≡ (t && true)
        and_one true = refl
        and_one false = refl
    go (Some m) e = grind (arith, nat_tests, e)

-- ---- a key's records

pub owner_through : (a b c : Owner) → is_owner a b ≡ true → is_owner a c ≡ is_owner b c
owner_through a b c e = ap (λ x. is_owner x c) (owner_same a b e)

pub owner_apart : (a b c : Owner) → is_owner a b ≡ false → is_owner b c ≡ true → is_owner a c ≡ false
owner_apart a b c e f = ap (λ x. is_owner a x) (sym (owner_same b c f)) ∙ e

pub records_with : (ls : List Life) (o p : Owner) (r : LogRec) → is_owner p o ≡ true → records_of (with_record ls p r) o ≡ records_of ls o ++ r ∷ []
records_with [] o p r e = grind (arith, e)
records_with (l ∷ ls) o p r e = go (is_owner l.owner p) refl (records_with ls o p r e)
  where
    go : (b : Bool) → is_owner l.owner p ≡ b → records_of (with_record ls p r) o ≡ records_of ls o ++ r ∷ [] → records_of (with_record (l ∷ ls) p r) o ≡ records_of (l ∷ ls) o ++ r ∷ []
    go true t rest = let same = owner_through l.owner p o t in grind (arith, t, same, e)
    go false t rest = let apart = owner_apart l.owner p o t e in grind (arith, t, apart, rest)

pub records_with_other : (ls : List Life) (o p : Owner) (r : LogRec) → is_owner p o ≡ false → records_of (with_record ls p r) o ≡ records_of ls o
records_with_other [] o p r e = grind (arith, e)
records_with_other (l ∷ ls) o p r e = go (is_owner l.owner p) refl (records_with_other ls o p r e)
  where
    go : (b : Bool) → is_owner l.owner p ≡ b → records_of (with_record ls p r) o ≡ records_of ls o → records_of (with_record (l ∷ ls) p r) o ≡ records_of (l ∷ ls) o
    go true t rest = let same = owner_through l.owner p o t in grind (arith, t, same, e)
    go false t rest = grind (arith, t, rest)

pub records_without : (ls : List Life) (o p : Owner) → is_owner p o ≡ true → records_of (without ls p) o ≡ []
records_without [] o p e = refl
records_without (l ∷ ls) o p e = go (is_owner l.owner p) refl (records_without ls o p e)
  where
    go : (b : Bool) → is_owner l.owner p ≡ b → records_of (without ls p) o ≡ [] → records_of (without (l ∷ ls) p) o ≡ []
    go true t rest = grind (arith, t, rest)
    go false t rest = let apart = owner_apart l.owner p o t e in grind (arith, t, apart, rest)

pub records_without_other : (ls : List Life) (o p : Owner) → is_owner p o ≡ false → records_of (without ls p) o ≡ records_of ls o
records_without_other [] o p e = refl
records_without_other (l ∷ ls) o p e = go (is_owner l.owner p) refl (records_without_other ls o p e)
  where
    go : (b : Bool) → is_owner l.owner p ≡ b → records_of (without ls p) o ≡ records_of ls o → records_of (without (l ∷ ls) p) o ≡ records_of (l ∷ ls) o
    go true t rest = let same = owner_through l.owner p o t in grind (arith, t, same, e, rest)
    go false t rest = grind (arith, t, rest)

-- ---- the last record, and the Ready

pub last_or-more : (b : Option LogRec) (rs : List LogRec) (r : LogRec) → last_or b (rs ++ r ∷ []) ≡ Some r
last_or-more b [] r = refl
last_or-more b (q ∷ qs) r = last_or-more (Some q) qs r

pub those-append : (test : LogRec → Bool) (rs qs : List LogRec) → those test (rs ++ qs) ≡ those test rs ++ those test qs
those-append test [] qs = refl
those-append test (r ∷ rs) qs = go (test r) (those-append test rs qs)
  where
    go : (b : Bool) → those test (rs ++ qs) ≡ those test rs ++ those test qs
        → elim b as (λ _. List LogRec) [ true ↦ r ∷ those test (rs ++ qs) | false ↦ those test (rs ++ qs) ] ≡ elim b as (λ _. List LogRec) [ true ↦ r ∷ those test rs | false ↦ those test rs ] ++ those test qs
    go true e = ap (λ w. r ∷ w) e
    go false e = e

-- what a record of its key makes of an answer, and what one of another key does
abbrev pub chosen : Bool → Option LogRec → Option LogRec → Option LogRec
chosen b before now = elim b [ false ↦ before | true ↦ now ]

pub last_step_with : (ls : List Life) (o p : Owner) (r : LogRec) → last (records_of (with_record ls p r) o) ≡ chosen (is_owner p o) (last (records_of ls o)) (Some r)
last_step_with ls o p r = go (is_owner p o) refl
  where
    go : (b : Bool) → is_owner p o ≡ b → last (records_of (with_record ls p r) o) ≡ chosen b (last (records_of ls o)) (Some r)
    go true e = ap last (records_with ls o p r e) ∙ last_or-more None (records_of ls o) r
    go false e = ap last (records_with_other ls o p r e)

pub last_step_without : (ls : List Life) (o p : Owner) → last (records_of (without ls p) o) ≡ chosen (is_owner p o) (last (records_of ls o)) None
last_step_without ls o p = go (is_owner p o) refl
  where
    go : (b : Bool) → is_owner p o ≡ b → last (records_of (without ls p) o) ≡ chosen b (last (records_of ls o)) None
    go true e = ap last (records_without ls o p e)
    go false e = ap last (records_without_other ls o p e)

pub last_step : (ls : List Life) (o : Owner) (r : LogRec) → last (records_of (lives_after ls r) o) ≡ last_by o (last (records_of ls o)) r
last_step ls o (LogRec.Boot n) = refl
last_step ls o (LogRec.Ready n k a cs) = last_step_with ls o (owner n k) (LogRec.Ready n k a cs)
last_step ls o (LogRec.Heuristic n k c) = last_step_with ls o (owner n k) (LogRec.Heuristic n k c)
last_step ls o (LogRec.Commit n k a cs) = last_step_with ls o (owner n k) (LogRec.Commit n k a cs)
last_step ls o (LogRec.Damage n k a c r cs) = last_step_with ls o (owner n k) (LogRec.Damage n k a c r cs)
last_step ls o (LogRec.End n k c) = last_step_without ls o (owner n k)

abbrev pub ready_in : List LogRec → Option LogRec
ready_in rs = last (those is_ready rs)

pub ready_more : (rs : List LogRec) (r : LogRec) → is_ready r ≡ true → ready_in (rs ++ r ∷ []) ≡ Some r
ready_more rs r e =
    ap last (those-append is_ready rs (r ∷ []))
    ∙ ap (λ b. last (those is_ready rs ++ elim b as (λ _. List LogRec) [ true ↦ r ∷ [] | false ↦ [] ])) e
    ∙ last_or-more None (those is_ready rs) r

pub ready_same : (rs : List LogRec) (r : LogRec) → is_ready r ≡ false → ready_in (rs ++ r ∷ []) ≡ ready_in rs
ready_same rs r e =
    ap last (those-append is_ready rs (r ∷ []))
    ∙ ap (λ b. last (those is_ready rs ++ elim b as (λ _. List LogRec) [ true ↦ r ∷ [] | false ↦ [] ])) e
    ∙ ap last (append-nil (those is_ready rs))

pub ready_step_with : (ls : List Life) (o p : Owner) (r : LogRec) → is_ready r ≡ true → ready_in (records_of (with_record ls p r) o) ≡ chosen (is_owner p o) (ready_in (records_of ls o)) (Some r)
ready_step_with ls o p r ready = go (is_owner p o) refl
  where
    go : (b : Bool) → is_owner p o ≡ b → ready_in (records_of (with_record ls p r) o) ≡ chosen b (ready_in (records_of ls o)) (Some r)
    go true e = ap ready_in (records_with ls o p r e) ∙ ready_more (records_of ls o) r ready
    go false e = ap ready_in (records_with_other ls o p r e)

pub ready_step_same : (ls : List Life) (o p : Owner) (r : LogRec) → is_ready r ≡ false → ready_in (records_of (with_record ls p r) o) ≡ chosen (is_owner p o) (ready_in (records_of ls o)) (ready_in (records_of ls o))
ready_step_same ls o p r other = go (is_owner p o) refl
  where
    go : (b : Bool) → is_owner p o ≡ b → ready_in (records_of (with_record ls p r) o) ≡ chosen b (ready_in (records_of ls o)) (ready_in (records_of ls o))
    go true e = ap ready_in (records_with ls o p r e) ∙ ready_same (records_of ls o) r other
    go false e = ap ready_in (records_with_other ls o p r e)

pub ready_step_without : (ls : List Life) (o p : Owner) → ready_in (records_of (without ls p) o) ≡ chosen (is_owner p o) (ready_in (records_of ls o)) None
ready_step_without ls o p = go (is_owner p o) refl
  where
    go : (b : Bool) → is_owner p o ≡ b → ready_in (records_of (without ls p) o) ≡ chosen b (ready_in (records_of ls o)) None
    go true e = ap ready_in (records_without ls o p e)
    go false e = ap ready_in (records_without_other ls o p e)

pub ready_step : (ls : List Life) (o : Owner) (r : LogRec) → ready_in (records_of (lives_after ls r) o) ≡ ready_by o (ready_in (records_of ls o)) r
ready_step ls o (LogRec.Boot n) = refl
ready_step ls o (LogRec.Ready n k a cs) = ready_step_with ls o (owner n k) (LogRec.Ready n k a cs) refl
ready_step ls o (LogRec.Heuristic n k c) = ready_step_same ls o (owner n k) (LogRec.Heuristic n k c) refl
ready_step ls o (LogRec.Commit n k a cs) = ready_step_same ls o (owner n k) (LogRec.Commit n k a cs) refl
ready_step ls o (LogRec.Damage n k a c r cs) = ready_step_same ls o (owner n k) (LogRec.Damage n k a c r cs) refl
ready_step ls o (LogRec.End n k c) = ready_step_without ls o (owner n k)

pub last_all : (ls : List Life) (o : Owner) (rs : List LogRec) → last (records_of (lives_from ls rs) o) ≡ last_from o (last (records_of ls o)) rs
last_all ls o [] = refl
last_all ls o (r ∷ rs) = last_all (lives_after ls r) o rs ∙ ap (λ b. last_from o b rs) (last_step ls o r)

pub ready_all : (ls : List Life) (o : Owner) (rs : List LogRec) → ready_in (records_of (lives_from ls rs) o) ≡ ready_from o (ready_in (records_of ls o)) rs
ready_all ls o [] = refl
ready_all ls o (r ∷ rs) = ready_all (lives_after ls r) o rs ∙ ap (λ b. ready_from o b rs) (ready_step ls o r)

-- ---- one record more

pub greatest-more : (bs : List ℕ) (n : ℕ) → greatest (bs ++ n ∷ []) ≡ Some (greatest_by (greatest bs) n)
greatest-more [] n = refl
greatest-more (b ∷ bs) n = ap (λ g. elim g as (λ _. Option ℕ) [ None ↦ Some b | Some m ↦ Some (max b m) ]) (greatest-more bs n) ∙ go (greatest bs)
  where
    go : (g : Option ℕ) → Some (max b (greatest_by g n)) ≡ Some (greatest_by (elim g as (λ _. Option ℕ) [ None ↦ Some b | Some m ↦ Some (max b m) ]) n)
    go None = refl
    go (Some m) = let e : max b (max m n) ≡ max (max b m) n = omega arith in ap Some e

pub boots-append : (rs qs : List LogRec) → boots (rs ++ qs) ≡ boots rs ++ boots qs
boots-append [] qs = refl
boots-append (LogRec.Boot n ∷ rs) qs = ap (λ w. n ∷ w) (boots-append rs qs)
boots-append (LogRec.Ready n k a cs ∷ rs) qs = boots-append rs qs
boots-append (LogRec.Heuristic n k o ∷ rs) qs = boots-append rs qs
boots-append (LogRec.Commit n k a cs ∷ rs) qs = boots-append rs qs
boots-append (LogRec.Damage n k a o r cs ∷ rs) qs = boots-append rs qs
boots-append (LogRec.End n k o ∷ rs) qs = boots-append rs qs

pub greatest_after_is : (rs : List LogRec) (r : LogRec) → greatest (boots (rs ++ r ∷ [])) ≡ greatest_after (greatest (boots rs)) r
greatest_after_is rs (LogRec.Boot n) = ap greatest (boots-append rs (LogRec.Boot n ∷ [])) ∙ greatest-more (boots rs) n
greatest_after_is rs (LogRec.Ready n k a cs) = ap greatest (boots-append rs (LogRec.Ready n k a cs ∷ []) ∙ append-nil (boots rs))
greatest_after_is rs (LogRec.Heuristic n k o) = ap greatest (boots-append rs (LogRec.Heuristic n k o ∷ []) ∙ append-nil (boots rs))
greatest_after_is rs (LogRec.Commit n k a cs) = ap greatest (boots-append rs (LogRec.Commit n k a cs ∷ []) ∙ append-nil (boots rs))
greatest_after_is rs (LogRec.Damage n k a o r cs) = ap greatest (boots-append rs (LogRec.Damage n k a o r cs ∷ []) ∙ append-nil (boots rs))
greatest_after_is rs (LogRec.End n k o) = ap greatest (boots-append rs (LogRec.End n k o ∷ []) ∙ append-nil (boots rs))

pub boot_after_is : (n : ℕ) (rs : List LogRec) (r : LogRec) → last_boot_from n (rs ++ r ∷ []) ≡ boot_by (last_boot_from n rs) r
boot_after_is n [] r = refl
boot_after_is n (q ∷ qs) r = boot_after_is (boot_by n q) qs r

pub lives_after_is : (ls : List Life) (rs : List LogRec) (r : LogRec) → lives_from ls (rs ++ r ∷ []) ≡ lives_after (lives_from ls rs) r
lives_after_is ls [] r = refl
lives_after_is ls (q ∷ qs) r = lives_after_is (lives_after ls q) qs r

pub bound_after_is : (os : List Owner) (rs : List LogRec) (r : LogRec) → bound_from os (rs ++ r ∷ []) ≡ bound_after (bound_from os rs) r
bound_after_is os [] r = refl
bound_after_is os (q ∷ qs) r = bound_after_is (bound_after os q) qs r

pub begun_after_is : (rs : List LogRec) (r : LogRec) → is_begun (rs ++ r ∷ []) ≡ true
begun_after_is [] r = refl
begun_after_is (q ∷ qs) r = refl
