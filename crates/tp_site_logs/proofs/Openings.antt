-- A log in order, as a start finds it: the records of each number follow each other after every later boot, and the roots among them
-- are of boots that the log has.
use Rattle.tp_site_logs.proofs.Vocabulary.{◌≡◌, ◌≤◌, ◌++◌, ℕ, suc, Bool, true, false, refl, ap, sym, ◌∙◌, subst, arith, Option, Some, None, List, [], ◌∷◌, nat_tests, append-nil, append_assoc, both, NodeKey, LogRec, owner, owner_of, boots, all_below, last_number, is_begun, last_boot_from, follows, follow_from, all_follow, boots-append, boot_after_is, is_record_at, records_at, IsSoundStart}
use Rattle.std.specs.Prelude.{nat_lt, nat_le}
use Rattle.tp_names.specs.declared.identifiers.BranchId.{BranchId}
use Rattle.tp_logrec.specs.declared.owner.Owner.{Owner}
use Rattle.tp_names.specs.declared.outcome.Outcome.{Outcome}
use Rattle.tp_logrec.specs.Order.{is_owner, is_of, is_ready, is_new, may_owe, is_decision, may_end, may_commit, may_damage, has_superior, holds, last_by, last_from, Before, before}
use Rattle.tp_logrec.specs.Owners.{owner_same}
use Rattle.tp_model.specs.Keys.{key_of}
use Rattle.tp_model.specs.NodeRun.{Opening, boot_of, origin_at}
use Rattle.tp_histories.specs.Restart.{are_earlier}
use Rattle.tp_model.specs.Legal.{is_older}
use Rattle.tp_histories.proofs.log.StartLog.{AreOf, sound_from}
use Rattle.tp_site_logs.specs.SiteLogs.{is_vote_of_branch, only_branches_vote}
use Rattle.tp_site_logs.proofs.OneNumber.{follows_later, last_boot}
use Rattle.tp_site_logs.proofs.Logged.{below_more, records_append}

-- ---- boots rise

last_below : (m : ℕ) (bs : List ℕ) → all_below m bs ≡ true → last_number bs ≤ m
last_below m [] h = omega arith
last_below m (b ∷ []) h = grind (arith, nat_tests, h)
last_below m (b ∷ c ∷ bs) h = last_below m (c ∷ bs) (both (nat_lt b m) (all_below m (c ∷ bs)) h).1

below_later : (m n : ℕ) (bs : List ℕ) → m ≤ n → all_below m bs ≡ true → all_below n bs ≡ true
below_later m n [] le h = refl
below_later m n (b ∷ bs) le h = let p = both (nat_lt b m) (all_below m bs) h in let rest = below_later m n bs le p.1 in grind (arith, nat_tests, rest, p.0)

-- the last boot of a list is no later than that of one that goes on in order
rises_one : (front : List LogRec) (r : LogRec) → follows front r ≡ true → last_boot_from 0 front ≤ last_boot_from 0 (front ++ r ∷ [])
rises_one front (LogRec.Boot m) h = let new = boot_after_is 0 front (LogRec.Boot m) in let old = last_boot front in let le = last_below m (boots front) h in omega (arith, new, old, le)
rises_one front r h = let new = boot_after_is 0 front r in omega (arith, new)

rises : (front rs : List LogRec) → follow_from front rs ≡ true → last_boot_from 0 front ≤ last_boot_from 0 (front ++ rs)
rises front [] h = let same = ap (last_boot_from 0) (append-nil front) in omega (arith, same)
rises front (r ∷ rs) h =
    let p = both (follows front r) (follow_from (front ++ r ∷ []) rs) h in
    let one = rises_one front r p.0 in
    let rest = rises (front ++ r ∷ []) rs p.1 in
    let same = ap (last_boot_from 0) (append_assoc front (r ∷ []) rs) in
    omega (arith, one, rest, same)

-- all boots of a list in order are below the next
below_one : (front : List LogRec) (r : LogRec) → follows front r ≡ true → all_below (suc (last_boot_from 0 front)) (boots front) ≡ true → all_below (suc (last_boot_from 0 (front ++ r ∷ []))) (boots (front ++ r ∷ [])) ≡ true
below_one front (LogRec.Boot m) h old =
    rw (boot_after_is 0 front (LogRec.Boot m), boots-append front (LogRec.Boot m ∷ [])) (below_more (suc m) (boots front) m (below_later m (suc m) (boots front) (omega arith) h) (grind (arith, nat_tests)))
below_one front r h old = rw (boot_after_is 0 front r, boots-append front (r ∷ []), append-nil (boots front)) old

below_all : (front rs : List LogRec) → follow_from front rs ≡ true → all_below (suc (last_boot_from 0 front)) (boots front) ≡ true → all_below (suc (last_boot_from 0 (front ++ rs))) (boots (front ++ rs)) ≡ true
below_all front [] h old = rw (append-nil front) old
below_all front (r ∷ rs) h old =
    let p = both (follows front r) (follow_from (front ++ r ∷ []) rs) h in
    subst (λ (l : List LogRec). all_below (suc (last_boot_from 0 l)) (boots l) ≡ true) (append_assoc front (r ∷ []) rs) (below_all (front ++ r ∷ []) rs p.1 (below_one front r p.0 old))

pub next_above : (rs : List LogRec) → all_follow rs ≡ true → all_below (suc (last_number (boots rs))) (boots rs) ≡ true
next_above rs order = subst (λ (n : ℕ). all_below (suc n) (boots rs) ≡ true) (last_boot rs) (below_all [] rs order refl)

-- ---- the records of one number

its_owner : (n : ℕ) (r : LogRec) → is_record_at n r ≡ true → (k : NodeKey) × (owner_of r ≡ Some (owner n k))
its_owner n (LogRec.Boot m) h = absurd (cc (h))
its_owner n (LogRec.Ready m k s cs) h = (k, grind (arith, nat_tests, h))
its_owner n (LogRec.Heuristic m k o) h = (k, grind (arith, nat_tests, h))
its_owner n (LogRec.Commit m k s cs) h = (k, grind (arith, nat_tests, h))
its_owner n (LogRec.Damage m k s o r cs) h = (k, grind (arith, nat_tests, h))
its_owner n (LogRec.End m k o) h = (k, grind (arith, nat_tests, h))

pub are_of : (n : ℕ) (rs : List LogRec) → AreOf n (records_at n rs)
are_of n [] = tt
are_of n (r ∷ rs) = go (is_record_at n r) refl (are_of n rs)
  where
    go : (b : Bool) → is_record_at n r ≡ b → AreOf n (records_at n rs) → AreOf n (elim b as (λ _. List LogRec) [ true ↦ r ∷ records_at n rs | false ↦ records_at n rs ])
    go true i rest = (its_owner n r i, rest)
    go false i rest = rest

-- they follow each other after every boot from the last on
in_order_from : (n b : ℕ) (front rs : List LogRec) → follow_from front rs ≡ true → last_boot_from 0 (front ++ rs) ≤ b → follow_from (LogRec.Boot b ∷ records_at n front) (records_at n rs) ≡ true
in_order_from n b front [] h le = refl
in_order_from n b front (r ∷ rs) h le = go (is_record_at n r) refl (in_order_from n b (front ++ r ∷ []) rs p.1 (subst (λ (l : List LogRec). last_boot_from 0 l ≤ b) (sym (append_assoc front (r ∷ []) rs)) le))
  where
    p : (follows front r ≡ true) × (follow_from (front ++ r ∷ []) rs ≡ true)
    p = both (follows front r) (follow_from (front ++ r ∷ []) rs) h

    early : last_boot_from 0 front ≤ b
    early = let rise = rises front (r ∷ rs) h in omega (arith, rise, le)

    go : (c : Bool) → is_record_at n r ≡ c → follow_from (LogRec.Boot b ∷ records_at n (front ++ r ∷ [])) (records_at n rs) ≡ true → follow_from (LogRec.Boot b ∷ records_at n front) (elim c as (λ _. List LogRec) [ true ↦ r ∷ records_at n rs | false ↦ records_at n rs ]) ≡ true
    go true i tail =
        let own = its_owner n r i in
        let one : follows (LogRec.Boot b ∷ records_at n front) r ≡ true = follows_later front b r (owner n own.0) own.1 p.0 early in
        let its : records_at n (front ++ r ∷ []) ≡ records_at n front ++ r ∷ [] = records_append n front (r ∷ []) ∙ ap (λ (c : Bool). records_at n front ++ elim c as (λ _. List LogRec) [ true ↦ r ∷ [] | false ↦ [] ]) i in
        let rest : follow_from (LogRec.Boot b ∷ records_at n front ++ r ∷ []) (records_at n rs) ≡ true = ap (λ (l : List LogRec). follow_from (LogRec.Boot b ∷ l) (records_at n rs)) (sym its) ∙ tail in
        grind (arith, one, rest)
    go false i tail =
        let its : records_at n (front ++ r ∷ []) ≡ records_at n front = records_append n front (r ∷ []) ∙ ap (λ (c : Bool). records_at n front ++ elim c as (λ _. List LogRec) [ true ↦ r ∷ [] | false ↦ [] ]) i ∙ append-nil (records_at n front) in
        ap (λ (l : List LogRec). follow_from (LogRec.Boot b ∷ l) (records_at n rs)) (sym its) ∙ tail

pub in_order_at : (n b : ℕ) (rs : List LogRec) → all_follow rs ≡ true → last_number (boots rs) ≤ b → follow_from (LogRec.Boot b ∷ []) (records_at n rs) ≡ true
in_order_at n b rs order le = in_order_from n b [] rs order (subst (λ (m : ℕ). m ≤ b) (sym (last_boot rs)) le)

-- ---- roots

-- the record's key, where it is a root's, is of an earlier boot
abbrev is_early : ℕ → LogRec → Bool
is_early b r = elim (key_of r) [ None ↦ true | Some k ↦ is_older b k ]

key_later : (b c : ℕ) (k : NodeKey) → b ≤ c → is_older b k ≡ true → is_older c k ≡ true
key_later b c k le h = go k.branch h
  where
    go : (x : Option BranchId) → is_older b (record k { branch = x }) ≡ true → is_older c (record k { branch = x }) ≡ true
    go None h = grind (arith, nat_tests, h, le)
    go (Some i) h = refl

early_later : (b c : ℕ) (r : LogRec) → b ≤ c → is_early b r ≡ true → is_early c r ≡ true
early_later b c (LogRec.Boot m) le h = refl
early_later b c (LogRec.Ready m k s cs) le h = key_later b c k le h
early_later b c (LogRec.Heuristic m k o) le h = key_later b c k le h
early_later b c (LogRec.Commit m k s cs) le h = key_later b c k le h
early_later b c (LogRec.Damage m k s o r cs) le h = key_later b c k le h
early_later b c (LogRec.End m k o) le h = key_later b c k le h

all_later : (b c : ℕ) (rs : List LogRec) → b ≤ c → are_earlier b rs ≡ true → are_earlier c rs ≡ true
all_later b c [] le h = refl
all_later b c (r ∷ rs) le h = let p = both (is_early b r) (are_earlier b rs) h in let one = early_later b c r le p.0 in let rest = all_later b c rs le p.1 in rw (one, rest) refl

all_more : (b : ℕ) (rs : List LogRec) (r : LogRec) → are_earlier b rs ≡ true → is_early b r ≡ true → are_earlier b (rs ++ r ∷ []) ≡ true
all_more b [] r h i = rw i refl
all_more b (q ∷ rs) r h i = let p = both (is_early b q) (are_earlier b rs) h in let rest = all_more b rs r p.1 i in rw (p.0, rest) refl

-- a key whose last record stands is that of a record of the list
key_stands : (b : ℕ) (o : Owner) (first : Option LogRec) (rs : List LogRec) → are_earlier b rs ≡ true → ((q : LogRec) → first ≡ Some q → is_older b o.key ≡ true) → (q : LogRec) → last_from o first rs ≡ Some q → is_older b o.key ≡ true
key_stands b o first [] h here q is = here q is
key_stands b o first (r ∷ rs) h here q is = key_stands b o (last_by o first r) rs p.1 (λ u at. now u (is_of o r) refl at) q is
  where
    p : (is_early b r ≡ true) × (are_earlier b rs ≡ true)
    p = both (is_early b r) (are_earlier b rs) h

    its : (w : Option Owner) → owner_of r ≡ w → elim w as (λ _. Bool) [ None ↦ false | Some x ↦ is_owner x o ] ≡ true → is_older b o.key ≡ true
    its None own i = absurd (cc (i))
    its (Some x) own i =
        let same : x ≡ o = owner_same x o i in
        ap (λ (y : Owner). is_older b y.key) (sym same) ∙ of r x own p.0
      where
        of : (r : LogRec) (x : Owner) → owner_of r ≡ Some x → is_early b r ≡ true → is_older b x.key ≡ true
        of (LogRec.Boot m) x own e = absurd (cc (own))
        of (LogRec.Ready m k s cs) x own e = let same : owner m k ≡ x = cc (own) in ap (λ (y : Owner). is_older b y.key) (sym same) ∙ e
        of (LogRec.Heuristic m k u) x own e = let same : owner m k ≡ x = cc (own) in ap (λ (y : Owner). is_older b y.key) (sym same) ∙ e
        of (LogRec.Commit m k s cs) x own e = let same : owner m k ≡ x = cc (own) in ap (λ (y : Owner). is_older b y.key) (sym same) ∙ e
        of (LogRec.Damage m k s u w cs) x own e = let same : owner m k ≡ x = cc (own) in ap (λ (y : Owner). is_older b y.key) (sym same) ∙ e
        of (LogRec.End m k u) x own e = let same : owner m k ≡ x = cc (own) in ap (λ (y : Owner). is_older b y.key) (sym same) ∙ e

    now : (u : LogRec) (c : Bool) → is_of o r ≡ c → last_by o first r ≡ Some u → is_older b o.key ≡ true
    now u true i at = its (owner_of r) refl i
    now u false i at = here u (rw (i, last_by) at at)

-- a key that has a record standing: so of what may follow it
of_last : (b : ℕ) (o : Owner) (rs : List LogRec) (test : LogRec → Bool) → are_earlier b rs ≡ true → holds (last_from o None rs) test ≡ true → is_older b o.key ≡ true
of_last b o rs test h i = go (last_from o None rs) refl i
  where
    go : (w : Option LogRec) → last_from o None rs ≡ w → holds w test ≡ true → is_older b o.key ≡ true
    go None at i = absurd (cc (i))
    go (Some q) at i = key_stands b o None rs h (λ u off. absurd (cc (off))) q at

early_one : (front : List LogRec) (r : LogRec) → are_earlier (suc (last_boot_from 0 front)) front ≡ true → follows front r ≡ true → is_vote_of_branch r ≡ true → is_early (suc (last_boot_from 0 front)) r ≡ true
early_one front (LogRec.Boot m) old f vote = refl
early_one front (LogRec.Ready n k s cs) old f vote = go k.branch vote
  where
    go : (x : Option BranchId) → is_vote_of_branch (LogRec.Ready n (record k { branch = x }) s cs) ≡ true → is_older (suc (last_boot_from 0 front)) (record k { branch = x }) ≡ true
    go None v = absurd (cc (v))
    go (Some i) v = refl
early_one front (LogRec.Heuristic n k u) old f vote = of_last (suc (last_boot_from 0 front)) (owner n k) front is_ready old (both (is_begun front) (holds (last_from (owner n k) None front) is_ready) f).1
early_one front (LogRec.Commit n k s cs) old f vote = go k.branch (both (is_begun front) (may_commit (before front (owner n k)) k s cs) f).1
  where
    x : Before
    x = before front (owner n k)

    go : (b : Option BranchId) → may_commit x (record k { branch = b }) s cs ≡ true → is_older (suc (last_boot_from 0 front)) (record k { branch = b }) ≡ true
    go None h = let le = (both (is_new x) (nat_le k.aaid.mark.boot (last_boot_from 0 front)) h).1 in grind (arith, nat_tests, le)
    go (Some i) h = refl
early_one front (LogRec.Damage n k s Outcome.Commit w cs) old f vote =
    of_last (suc (last_boot_from 0 front)) (owner n k) front (may_owe cs) old
    (both (holds (last_from (owner n k) None front) (may_owe cs)) (has_superior k s (before front (owner n k)).ready) (both (is_begun front) (may_damage (before front (owner n k)) k s Outcome.Commit w cs) f).1).0
early_one front (LogRec.Damage n k s Outcome.Rollback w cs) old f vote = of_last (suc (last_boot_from 0 front)) (owner n k) front (is_decision Outcome.Commit) old (grind (arith, f))
early_one front (LogRec.End n k u) old f vote = of_last (suc (last_boot_from 0 front)) (owner n k) front (may_end u) old (both (is_begun front) (holds (last_from (owner n k) None front) (may_end u)) f).1

early_all : (front rs : List LogRec) → follow_from front rs ≡ true → only_branches_vote rs ≡ true → are_earlier (suc (last_boot_from 0 front)) front ≡ true → are_earlier (suc (last_boot_from 0 (front ++ rs))) (front ++ rs) ≡ true
early_all front [] h votes old = rw (append-nil front) old
early_all front (r ∷ rs) h votes old =
    let p = both (follows front r) (follow_from (front ++ r ∷ []) rs) h in
    let v = both (is_vote_of_branch r) (only_branches_vote rs) votes in
    let rise = rises_one front r p.0 in
    let le : suc (last_boot_from 0 front) ≤ suc (last_boot_from 0 (front ++ r ∷ [])) = omega (arith, rise) in
    let next = all_more (suc (last_boot_from 0 (front ++ r ∷ []))) front r (all_later _ _ front le old) (early_later _ _ r le (early_one front r old p.0 v.0)) in
    subst (λ (l : List LogRec). are_earlier (suc (last_boot_from 0 l)) l ≡ true) (append_assoc front (r ∷ []) rs) (early_all (front ++ r ∷ []) rs p.1 v.1 next)

early_at : (n b : ℕ) (rs : List LogRec) → are_earlier b rs ≡ true → are_earlier b (records_at n rs) ≡ true
early_at n b [] h = refl
early_at n b (r ∷ rs) h = go (is_record_at n r) (early_at n b rs p.1)
  where
    p : (is_early b r ≡ true) × (are_earlier b rs ≡ true)
    p = both (is_early b r) (are_earlier b rs) h

    go : (c : Bool) → are_earlier b (records_at n rs) ≡ true → are_earlier b (elim c as (λ _. List LogRec) [ true ↦ r ∷ records_at n rs | false ↦ records_at n rs ]) ≡ true
    go true rest = rw (p.0, rest) refl
    go false rest = rest

-- ---- what a start finds

pub sound_opening : (o : Opening) (n : ℕ) → all_follow o.records ≡ true → only_branches_vote o.records ≡ true → IsSoundStart (origin_at o n)
sound_opening o n order votes =
    sound_from (origin_at o n) (are_of n o.records) (λ b le. in_order_at n b o.records order (early b le))
    (early_at n (boot_of o) o.records (subst (λ (m : ℕ). are_earlier (suc m) o.records ≡ true) (last_boot o.records) (early_all [] o.records order votes refl)))
  where
    early : (b : ℕ) → boot_of o ≤ b → last_number (boots o.records) ≤ b
    early b le = omega (arith, le)
