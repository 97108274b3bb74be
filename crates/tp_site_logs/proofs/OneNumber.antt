-- What follows a log is said of a record by those of its own number and the last boot alone.
use Rattle.std.specs.Prelude.{nat_le}
use Rattle.std.proofs.Common.{◌≡◌, ◌≤◌, ◌==◌, ◌&&◌, ◌++◌, ℕ, Bool, true, false, refl, ap, sym, ◌∙◌, arith, Option, Some, None, List, [], ◌∷◌}
use Rattle.std.proofs.lemmas.Bool.Decides.{nat_tests}
use Rattle.tp_names.specs.declared.identifiers.BranchId.{BranchId}
use Rattle.tp_names.specs.Same.{is_key}
use Rattle.tp_names.proofs.Sames.{both}
use Rattle.tp_logrec.specs.declared.owner.Owner.{Owner}
use Rattle.tp_logrec.specs.declared.record.LogRec.{LogRec}
use Rattle.tp_logrec.specs.Order.{owner_of, is_owner, is_of, is_ready, is_bound, holds, is_new, may_commit, may_damage, may_end, is_free, is_begun, boots, last_number, boot_by, last_boot_from, last_by, last_from, ready_by, ready_from, others, bound_by, bound_after, bound_from, bound, Before, before, may_follow, follows}
use Rattle.tp_logrec.proofs.BriefOrders.{follows_own}
use Rattle.tp_model.specs.NodeRun.{is_record_at, records_at}

-- ---- a record of another number

other_owner : (o : Owner) (w : Option Owner) → elim w as (λ _. Bool) [ None ↦ false | Some p ↦ p.node == o.node ] ≡ false → elim w as (λ _. Bool) [ None ↦ false | Some p ↦ is_owner p o ] ≡ false
other_owner o None h = refl
other_owner o (Some p) h = ap (λ (b : Bool). b && is_key p.key o.key) h

other_number : (o : Owner) (r : LogRec) → is_record_at o.node r ≡ false → is_of o r ≡ false
other_number o r h = other_owner o (owner_of r) h

last_skipped : (o : Owner) (q : Option LogRec) (r : LogRec) → is_record_at o.node r ≡ false → last_by o q r ≡ q
last_skipped o q r h = let other = other_number o r h in grind (arith, other)

ready_skipped : (o : Owner) (q : Option LogRec) (r : LogRec) → is_record_at o.node r ≡ false → ready_by o q r ≡ q
ready_skipped o q r h = let other = other_number o r h in grind (arith, other)

-- ---- the last record of a key, and its Ready

last_alone : (o : Owner) (q : Option LogRec) (rs : List LogRec) → last_from o q rs ≡ last_from o q (records_at o.node rs)
last_alone o q [] = refl
last_alone o q (r ∷ rs) = go (is_record_at o.node r) refl (last_alone o (last_by o q r) rs) (λ (e : last_by o q r ≡ q). ap (λ (x : Option LogRec). last_from o x rs) e ∙ last_alone o q rs)
  where
    go : (b : Bool) → is_record_at o.node r ≡ b → last_from o (last_by o q r) rs ≡ last_from o (last_by o q r) (records_at o.node rs)
        → (last_by o q r ≡ q → last_from o (last_by o q r) rs ≡ last_from o q (records_at o.node rs))
        → last_from o q (r ∷ rs) ≡ last_from o q (elim b as (λ _. List LogRec) [ true ↦ r ∷ records_at o.node rs | false ↦ records_at o.node rs ])
    go true e here skipped = here
    go false e here skipped = skipped (last_skipped o q r e)

ready_alone : (o : Owner) (q : Option LogRec) (rs : List LogRec) → ready_from o q rs ≡ ready_from o q (records_at o.node rs)
ready_alone o q [] = refl
ready_alone o q (r ∷ rs) = go (is_record_at o.node r) refl (ready_alone o (ready_by o q r) rs) (λ (e : ready_by o q r ≡ q). ap (λ (x : Option LogRec). ready_from o x rs) e ∙ ready_alone o q rs)
  where
    go : (b : Bool) → is_record_at o.node r ≡ b → ready_from o (ready_by o q r) rs ≡ ready_from o (ready_by o q r) (records_at o.node rs)
        → (ready_by o q r ≡ q → ready_from o (ready_by o q r) rs ≡ ready_from o q (records_at o.node rs))
        → ready_from o q (r ∷ rs) ≡ ready_from o q (elim b as (λ _. List LogRec) [ true ↦ r ∷ records_at o.node rs | false ↦ records_at o.node rs ])
    go true e here skipped = here
    go false e here skipped = skipped (ready_skipped o q r e)

-- ---- boots

boot_owned : (n k : ℕ) (r : LogRec) → is_record_at k r ≡ true → boot_by n r ≡ n
boot_owned n k (LogRec.Boot m) h = absurd cc
boot_owned n k (LogRec.Ready m j a cs) h = refl
boot_owned n k (LogRec.Heuristic m j o) h = refl
boot_owned n k (LogRec.Commit m j a cs) h = refl
boot_owned n k (LogRec.Damage m j a o r cs) h = refl
boot_owned n k (LogRec.End m j o) h = refl

-- those of a number have none
boot_alone : (n k : ℕ) (rs : List LogRec) → last_boot_from n (records_at k rs) ≡ n
boot_alone n k [] = refl
boot_alone n k (r ∷ rs) = go (is_record_at k r) refl (boot_alone n k rs)
  where
    go : (b : Bool) → is_record_at k r ≡ b → last_boot_from n (records_at k rs) ≡ n → last_boot_from n (elim b as (λ _. List LogRec) [ true ↦ r ∷ records_at k rs | false ↦ records_at k rs ]) ≡ n
    go true e rest = ap (λ (m : ℕ). last_boot_from m (records_at k rs)) (boot_owned n k r e) ∙ rest
    go false e rest = rest

-- ---- bound keys of a number

abbrev at_number : ℕ → List Owner → List Owner
at_number k [] = []
at_number k (o ∷ os) = elim (o.node == k) [ true ↦ o ∷ at_number k os | false ↦ at_number k os ]

free_alone : (k : ℕ) (os : List Owner) → is_free k os ≡ is_free k (at_number k os)
free_alone k [] = refl
free_alone k (o ∷ os) = grind (arith, free_alone k os)

at_append : (k : ℕ) (os ps : List Owner) → at_number k (os ++ ps) ≡ at_number k os ++ at_number k ps
at_append k [] ps = refl
at_append k (o ∷ os) ps = grind (arith, at_append k os ps)

-- without one of that number, and without one of another
others_here : (k : ℕ) (os : List Owner) (o : Owner) → at_number k (others os o) ≡ others (at_number k os) o
others_here k [] o = refl
others_here k (p ∷ os) o = grind (arith, others_here k os o)

others_there : (k : ℕ) (os : List Owner) (o : Owner) → (o.node == k) ≡ false → at_number k (others os o) ≡ at_number k os
others_there k [] o h = refl
others_there k (p ∷ os) o h = grind (arith, nat_tests, others_there k os o)

bound_here : (k : ℕ) (os : List Owner) (o : Owner) (r : LogRec) → (o.node == k) ≡ true → at_number k (bound_by os o r) ≡ bound_by (at_number k os) o r
bound_here k os o r h = go (is_bound r)
  where
    one : at_number k (o ∷ []) ≡ o ∷ []
    one = grind (arith, h)

    go : (b : Bool) → at_number k (elim b as (λ _. List Owner) [ true ↦ others os o ++ o ∷ [] | false ↦ others os o ]) ≡ elim b as (λ _. List Owner) [ true ↦ others (at_number k os) o ++ o ∷ [] | false ↦ others (at_number k os) o ]
    go true = at_append k (others os o) (o ∷ []) ∙ ap (λ (ps : List Owner). ps ++ at_number k (o ∷ [])) (others_here k os o) ∙ ap (λ (ps : List Owner). others (at_number k os) o ++ ps) one
    go false = others_here k os o

append_none : (os : List Owner) → os ++ [] ≡ os
append_none [] = refl
append_none (o ∷ os) = ap (λ (ps : List Owner). o ∷ ps) (append_none os)

bound_there : (k : ℕ) (os : List Owner) (o : Owner) (r : LogRec) → (o.node == k) ≡ false → at_number k (bound_by os o r) ≡ at_number k os
bound_there k os o r h = go (is_bound r)
  where
    none : at_number k (o ∷ []) ≡ []
    none = grind (arith, h)

    go : (b : Bool) → at_number k (elim b as (λ _. List Owner) [ true ↦ others os o ++ o ∷ [] | false ↦ others os o ]) ≡ at_number k os
    go true = at_append k (others os o) (o ∷ []) ∙ ap (λ (ps : List Owner). at_number k (others os o) ++ ps) none ∙ append_none (at_number k (others os o)) ∙ others_there k os o h
    go false = others_there k os o h

abbrev bound_of : List Owner → LogRec → Option Owner → List Owner
bound_of os r w = elim w as (λ _. List Owner) [ None ↦ os | Some o ↦ bound_by os o r ]

abbrev is_at : ℕ → Option Owner → Bool
is_at k w = elim w as (λ _. Bool) [ None ↦ false | Some o ↦ o.node == k ]

bound_once : (k : ℕ) (os : List Owner) (r : LogRec) (w : Option Owner) (b : Bool) → is_at k w ≡ b → at_number k (bound_of os r w) ≡ elim b as (λ _. List Owner) [ true ↦ bound_of (at_number k os) r w | false ↦ at_number k os ]
bound_once k os r None true h = absurd cc
bound_once k os r None false h = refl
bound_once k os r (Some o) true h = bound_here k os o r h
bound_once k os r (Some o) false h = bound_there k os o r h

bound_alone : (k : ℕ) (os : List Owner) (rs : List LogRec) → at_number k (bound_from os rs) ≡ bound_from (at_number k os) (records_at k rs)
bound_alone k os [] = refl
bound_alone k os (r ∷ rs) = go (is_record_at k r) refl (bound_alone k (bound_after os r) rs)
  where
    go : (b : Bool) → is_record_at k r ≡ b → at_number k (bound_from (bound_after os r) rs) ≡ bound_from (at_number k (bound_after os r)) (records_at k rs)
        → at_number k (bound_from os (r ∷ rs)) ≡ bound_from (at_number k os) (elim b as (λ _. List LogRec) [ true ↦ r ∷ records_at k rs | false ↦ records_at k rs ])
    go true e rest = rest ∙ ap (λ (ps : List Owner). bound_from ps (records_at k rs)) (bound_once k os r (owner_of r) true e)
    go false e rest = rest ∙ ap (λ (ps : List Owner). bound_from ps (records_at k rs)) (bound_once k os r (owner_of r) false e)

free_number : (k : ℕ) (rs : List LogRec) → is_free k (bound rs) ≡ is_free k (bound (records_at k rs))
free_number k rs = free_alone k (bound rs) ∙ ap (is_free k) (bound_alone k [] rs)

-- ---- what follows

made : (a a' : Bool) (b b' : ℕ) (c c' : Bool) (d d' e e' : Option LogRec) → a ≡ a' → b ≡ b' → c ≡ c' → d ≡ d' → e ≡ e'
    → ◌≡◌ {A = Before} (record { begun = a; boot = b; free = c; last = d; ready = e }) (record { begun = a'; boot = b'; free = c'; last = d'; ready = e' })
made a a' b b' c c' d d' e e' p q r s t = rw (p, q, r, s, t) refl

-- what a list tells of a key is told by the records of its number and the last boot
before_alone : (list : List LogRec) (b : ℕ) (o : Owner) → is_begun list ≡ true → before (LogRec.Boot b ∷ records_at o.node list) o ≡ record (before list o) { boot = b }
before_alone list b o begun =
    let its : List LogRec = LogRec.Boot b ∷ records_at o.node list in
    made (is_begun its) (is_begun list) (last_boot_from 0 its) b (is_free o.node (bound its)) (is_free o.node (bound list)) (last_from o None its) (last_from o None list) (ready_from o None its) (ready_from o None list)
    (sym begun) (boot_alone b o.node list) (sym (free_number o.node list)) (sym (last_alone o None list)) (sym (ready_alone o None list))

pub follows_alone : (list : List LogRec) (n : ℕ) (r : LogRec) (o : Owner) → owner_of r ≡ Some o → is_begun list ≡ true → last_boot_from 0 list ≡ n → follows list r ≡ follows (LogRec.Boot n ∷ records_at o.node list) r
follows_alone list n r o own begun boot =
    let same : before (LogRec.Boot n ∷ records_at o.node list) o ≡ before list o = before_alone list n o begun ∙ ap (λ (m : ℕ). let x : Before = record (before list o) { boot = m } in x) (sym boot) in
    follows_own list o r own ∙ ap (λ (b : Before). may_follow b r) (sym same) ∙ sym (follows_own (LogRec.Boot n ∷ records_at o.node list) o r own)

-- a record of a key follows none before the first boot
begun_by : (x : Before) (r : LogRec) → may_follow x r ≡ true → x.begun ≡ true
begun_by x (LogRec.Boot m) h = absurd (cc (h))
begun_by x (LogRec.Ready n k s cs) h = (both x.begun (is_new x) h).0
begun_by x (LogRec.Heuristic n k u) h = (both x.begun (holds x.last is_ready) h).0
begun_by x (LogRec.Commit n k s cs) h = (both x.begun (may_commit x k s cs) h).0
begun_by x (LogRec.Damage n k s u w cs) h = (both x.begun (may_damage x k s u w cs) h).0
begun_by x (LogRec.End n k u) h = (both x.begun (holds x.last (may_end u)) h).0

-- and what follows after one boot follows after a later one
after_later : (x : Before) (b : ℕ) (r : LogRec) → x.boot ≤ b → may_follow x r ≡ true → may_follow (record x { boot = b }) r ≡ true
after_later x b (LogRec.Commit n k s cs) le h = go k.branch h
  where
    go : (i : Option BranchId) → may_follow x (LogRec.Commit n (record k { branch = i }) s cs) ≡ true → may_follow (record x { boot = b }) (LogRec.Commit n (record k { branch = i }) s cs) ≡ true
    go None h =
        let p = both x.begun (is_new x && nat_le k.aaid.mark.boot x.boot) h in
        let q = both (is_new x) (nat_le k.aaid.mark.boot x.boot) p.1 in
        let reach : nat_le k.aaid.mark.boot b ≡ true = grind (arith, nat_tests, le, q.1) in
        rw (p.0, q.0, reach) refl
    go (Some i) h = h
after_later x b r le h = h

pub follows_later : (list : List LogRec) (b : ℕ) (r : LogRec) (o : Owner) → owner_of r ≡ Some o → follows list r ≡ true → last_boot_from 0 list ≤ b → follows (LogRec.Boot b ∷ records_at o.node list) r ≡ true
follows_later list b r o own h le =
    let may : may_follow (before list o) r ≡ true = sym (follows_own list o r own) ∙ h in
    follows_own (LogRec.Boot b ∷ records_at o.node list) o r own ∙ ap (λ (x : Before). may_follow x r) (before_alone list b o (begun_by (before list o) r may)) ∙ after_later (before list o) b r le may

-- ---- the last boot

abbrev number_or : ℕ → List ℕ → ℕ
number_or n [] = n
number_or n (m ∷ ms) = last_number (m ∷ ms)

number_next : (n : ℕ) (ms : List ℕ) → number_or n ms ≡ last_number (n ∷ ms)
number_next n [] = refl
number_next n (m ∷ ms) = refl

boot_number : (n : ℕ) (rs : List LogRec) → last_boot_from n rs ≡ number_or n (boots rs)
boot_number n [] = refl
boot_number n (LogRec.Boot m ∷ rs) = boot_number m rs ∙ number_next m (boots rs)
boot_number n (LogRec.Ready m k a cs ∷ rs) = boot_number n rs
boot_number n (LogRec.Heuristic m k o ∷ rs) = boot_number n rs
boot_number n (LogRec.Commit m k a cs ∷ rs) = boot_number n rs
boot_number n (LogRec.Damage m k a o r cs ∷ rs) = boot_number n rs
boot_number n (LogRec.End m k o ∷ rs) = boot_number n rs

pub last_boot : (rs : List LogRec) → last_boot_from 0 rs ≡ last_number (boots rs)
last_boot rs = boot_number 0 rs ∙ none (boots rs)
  where
    none : (ms : List ℕ) → number_or 0 ms ≡ last_number ms
    none [] = refl
    none (m ∷ ms) = refl
