-- Runs of the page with a root and one branch.
use Rattle.std.proofs.Common.{◌≡◌, inl, inr, ℕ, Bool, true, false, refl, ap, subst, ◌∙◌, arith, Option, Some, None, ◌==◌, if◌then◌else◌}
use Rattle.std.proofs.lemmas.Bool.Decides.{nat_tests}
use Rattle.tp_names.specs.declared.outcome.Outcome.{Outcome}
use Rattle.tp_tree_commit.specs.TreeCommit.{Vote, Ending, Part, Tree, EachBranch, HasVoted, IsOver, entering, Acts, with_part, Steps, Reached, first, later}
use Rattle.tp_tree_commit.specs.Examples.{EndsTogether, EndsApart}

bare : Tree
bare m = None

alone : Part → Tree
alone p = with_part bare 1 p

pair : Part → Part → Tree
pair p q = with_part (alone p) 2 q

-- what holds of both as branches of n holds of each of its branches
each : (p q : Part) (n : ℕ) (P : Part → Type 0) → (p.superior ≡ Some n → P p) → (q.superior ≡ Some n → P q) → EachBranch (pair p q) n P
unfolding pair alone bare
each p q n P one two m r at up = go (2 == m) (1 == m) at
  where
    mine : (x : Part) → (x.superior ≡ Some n → P x) → ◌≡◌ {A = Option Part} (Some x) (Some r) → P r
    mine x f e = let same : x ≡ r = cc (e) in by same
      where
        by : x ≡ r → P r
        by same = subst P same (f (ap (λ (y : Part). y.superior) same ∙ up))

    go : (a b : Bool) → ◌≡◌ {A = Option Part} (if a then Some q else if b then Some p else None) (Some r) → P r
    go true b e = mine q two e
    go false true e = mine p one e
    go false false e = absurd (cc (e))

-- the root acts, or its branch
one_number : (m : ℕ) → (2 == m) ≡ true → (1 == m) ≡ true → ⊥
one_number m i j = absurd (grind (arith, nat_tests, i, j))

root_acts : (p q r : Part) → Acts (pair p q) 1 (Some p) r → Steps (pair p q) (pair r q)
unfolding pair alone bare
root_acts p q r a = record { node = 1; part = r; acts = a; then_so = λ m. go (2 == m) (1 == m) (one_number m) }
  where
    go : (a b : Bool) → (a ≡ true → b ≡ true → ⊥) → (if a then Some q else if b then Some r else None) ≡ (if b then Some r else if a then Some q else if b then Some p else None)
    go true true f = absurd (f refl refl)
    go true false f = refl
    go false true f = refl
    go false false f = refl

branch_acts : (p q r : Part) → Acts (pair p q) 2 (Some q) r → Steps (pair p q) (pair p r)
unfolding pair alone bare
branch_acts p q r a = record { node = 2; part = r; acts = a; then_so = λ m. go (2 == m) (1 == m) }
  where
    go : (a b : Bool) → (if a then Some r else if b then Some p else None) ≡ (if a then Some r else if a then Some q else if b then Some p else None)
    go true b = refl
    go false b = refl

-- ---- both enter, and the branch votes

root : Part
root = entering None

branch : Part
branch = entering (Some 1)

ready : Part
ready = record branch { vote = Vote.Ready }

ordered : Part
ordered = record root { ending = Ending.Committed }

entered : Reached (pair root branch)
unfolding pair alone bare root branch
entered =
    later (alone root) (pair root branch)
    (later bare (alone root) (first bare (λ m. refl)) (record { node = 1; part = root; acts = Acts.Enters None (inl (refl, λ m. refl)); then_so = λ m. refl }))
    (record { node = 2; part = branch; acts = Acts.Enters (Some 1) (inr (1, root, refl, refl, (refl, λ e. cc (e)))); then_so = λ m. refl })

voted : Reached (pair root ready)
unfolding root branch ready
voted = later (pair root branch) (pair root ready) entered (branch_acts root branch ready (Acts.Votes branch (λ e. cc (e)) (refl, refl) (each root branch 2 HasVoted (λ e. absurd (cc (e))) (λ e. absurd (cc (e))))))

committed : (q : Part) → HasVoted q → Reached (pair root q) → Reached (pair ordered q)
unfolding root ordered
committed q v r = later (pair root q) (pair ordered q) r (root_acts root q ordered (Acts.Commits root (inl (refl, (refl, refl), each root q 1 HasVoted (λ e. absurd (cc (e))) (λ e. v)))))

-- ---- both complete

over : Part
over = record ready { ending = Ending.Committed }

clear : Part
clear = record over { clear = true }

done : Part
done = record ordered { clear = true }

pub ends_together : EndsTogether
unfolding pair alone bare root branch ready ordered over clear done
ends_together = (pair done clear, done, clear, record { reached = reached; root = refl; branch = refl; above = refl; below = refl }, (refl, refl, refl), (refl, refl, refl))
  where
    reached : Reached (pair done clear)
    reached =
        later (pair ordered clear) (pair done clear)
        (later (pair ordered over) (pair ordered clear)
        (later (pair ordered ready) (pair ordered over) (committed ready (inl refl) voted) (branch_acts ordered ready over (Acts.Commits ready (inr ((refl, refl), (1, ordered, refl, refl, refl))))))
        (branch_acts ordered over clear (Acts.Completes over refl refl (λ e. cc (e)) (each ordered over 2 IsOver (λ e. absurd (cc (e))) (λ e. absurd (cc (e)))))))
        (root_acts ordered clear done (Acts.Completes ordered refl refl (λ e. cc (e)) (each ordered clear 1 IsOver (λ e. absurd (cc (e))) (λ e. inr refl))))

-- ---- the branch decides on its own

parted : Part
parted = record ready { decision = Some Outcome.Rollback }

pub ends_apart : EndsApart
unfolding pair alone bare root branch ready ordered parted
ends_apart = (pair ordered parted, ordered, parted, record { reached = reached; root = refl; branch = refl; above = refl; below = refl }, refl, refl, refl)
  where
    reached : Reached (pair ordered parted)
    reached = committed parted (inl refl) (later (pair root ready) (pair root parted) voted (branch_acts root ready parted (Acts.Decides ready Outcome.Rollback (refl, refl) refl)))
