-- The lives of one node in a log in order: each is in order, and none but the last may be bound.
use Rattle.std.proofs.Common.{◌≡◌, ◌==◌, ℕ, Bool, true, false, refl, ap, ◌∙◌, arith, None, List, [], ◌∷◌}
use Rattle.std.specs.Prelude.{◌||◌}
use Rattle.std.proofs.lemmas.Bool.Decides.{nat_tests}
use Rattle.tp_logrec.specs.declared.record.LogRec.{LogRec}
use Rattle.tp_logrec.specs.declared.owner.Owner.{Owner}
use Rattle.tp_logrec.specs.Order.{is_owner, is_begun, Life, with_record, without, lives_at}
use Rattle.tp_logrec.proofs.Sames.{owner_same}
use Rattle.tp_logrec.proofs.Briefs.{AllOwn, Absent, AreLives}
use Rattle.tp_logrec.proofs.LifeOrders.{runs}
use Rattle.tp_logrec.proofs.LivesInOrder.{at_node, ends_bound, InOrder}

abbrev pub some : List Life → Bool
some [] = false
some (l ∷ ls) = true

pub record Living (n boot : ℕ) (l : Life) (ls : List Life) : Type 0 where
  pub node : (l.owner.node == n) ≡ true
  pub own : AllOwn l.owner l.records
  pub begun : is_begun l.records ≡ true
  pub runs : runs boot None None l.records ≡ true
  pub sole : some ls ≡ true → ends_bound l ≡ false
  pub apart : Absent l.owner ls

abbrev pub Row : ℕ → ℕ → List Life → Type 0
Row n boot [] = Unit {0}
Row n boot (l ∷ ls) = Living n boot l ls × Row n boot ls

-- ---- the lives of a node among all

some_at : (n : ℕ) (ls : List Life) → some (lives_at n ls) ≡ true → at_node n ls ≡ true
some_at n [] h = absurd (cc (h))
some_at n (l ∷ ls) h = go (l.owner.node == n) (some_at n ls) h
  where
    go : (b : Bool) → (some (lives_at n ls) ≡ true → at_node n ls ≡ true) → some (elim b [ true ↦ l ∷ lives_at n ls | false ↦ lives_at n ls ]) ≡ true → (b || at_node n ls) ≡ true
    go true rest i = refl
    go false rest i = rest i

absent_at : (n : ℕ) (o : Owner) (ls : List Life) → Absent o ls → Absent o (lives_at n ls)
absent_at n o [] a = tt
absent_at n o (l ∷ ls) a = go (l.owner.node == n) (absent_at n o ls a.1)
  where
    go : (b : Bool) → Absent o (lives_at n ls) → Absent o (elim b [ true ↦ l ∷ lives_at n ls | false ↦ lives_at n ls ])
    go true rest = (a.0, rest)
    go false rest = rest

pub row_of : (n boot : ℕ) (ls : List Life) → AreLives ls → InOrder boot ls → Row n boot (lives_at n ls)
row_of n boot [] are order = tt
row_of n boot (l ∷ ls) are order = go (l.owner.node == n) refl (row_of n boot ls are.3 order.2)
  where
    sole : (l.owner.node == n) ≡ true → some (lives_at n ls) ≡ true → ends_bound l ≡ false
    sole i h =
        let same : l.owner.node ≡ n = grind (arith, nat_tests, i) in
        order.1 (ap (λ (m : ℕ). at_node m ls) same ∙ some_at n ls h)

    go : (b : Bool) → (l.owner.node == n) ≡ b → Row n boot (lives_at n ls) → Row n boot (elim b [ true ↦ l ∷ lives_at n ls | false ↦ lives_at n ls ])
    go true i rest = (record { node = i; own = are.1; begun = are.2; runs = order.0; sole = sole i; apart = absent_at n l.owner ls are.0 }, rest)
    go false i rest = rest

-- ---- one record more

node_of : (a b : Owner) (n : ℕ) → is_owner a b ≡ true → (a.node == n) ≡ (b.node == n)
node_of a b n h = ap (λ (o : Owner). o.node == n) (owner_same a b h)

pub at_with : (n : ℕ) (ls : List Life) (o : Owner) (r : LogRec) → (o.node == n) ≡ true → lives_at n (with_record ls o r) ≡ with_record (lives_at n ls) o r
at_with n [] o r h = grind (arith, h)
at_with n (l ∷ ls) o r h = go (is_owner l.owner o) (l.owner.node == n) refl refl (at_with n ls o r h)
  where
    go : (b c : Bool) → is_owner l.owner o ≡ b → (l.owner.node == n) ≡ c → lives_at n (with_record ls o r) ≡ with_record (lives_at n ls) o r → lives_at n (with_record (l ∷ ls) o r) ≡ with_record (lives_at n (l ∷ ls)) o r
    go true true i j rest = grind (arith, i, j)
    go true false i j rest = absurd (let yes : (l.owner.node == n) ≡ true = node_of l.owner o n i ∙ h in cc (yes, j))
    go false true i j rest = grind (arith, i, j, rest)
    go false false i j rest = grind (arith, i, j, rest)

pub beside_with : (n : ℕ) (ls : List Life) (o : Owner) (r : LogRec) → (o.node == n) ≡ false → lives_at n (with_record ls o r) ≡ lives_at n ls
beside_with n [] o r h = grind (arith, h)
beside_with n (l ∷ ls) o r h = go (is_owner l.owner o) (l.owner.node == n) refl refl (beside_with n ls o r h)
  where
    go : (b c : Bool) → is_owner l.owner o ≡ b → (l.owner.node == n) ≡ c → lives_at n (with_record ls o r) ≡ lives_at n ls → lives_at n (with_record (l ∷ ls) o r) ≡ lives_at n (l ∷ ls)
    go true true i j rest = absurd (let no : (l.owner.node == n) ≡ false = node_of l.owner o n i ∙ h in cc (no, j))
    go true false i j rest = grind (arith, i, j)
    go false c i j rest = grind (arith, i, j, rest)

pub at_without : (n : ℕ) (ls : List Life) (o : Owner) → lives_at n (without ls o) ≡ without (lives_at n ls) o
at_without n [] o = refl
at_without n (l ∷ ls) o = go (is_owner l.owner o) (l.owner.node == n) refl refl (at_without n ls o)
  where
    go : (b c : Bool) → is_owner l.owner o ≡ b → (l.owner.node == n) ≡ c → lives_at n (without ls o) ≡ without (lives_at n ls) o → lives_at n (without (l ∷ ls) o) ≡ without (lives_at n (l ∷ ls)) o
    go true c i j rest = grind (arith, i, j, rest)
    go false c i j rest = grind (arith, i, j, rest)

-- a key that has no life loses none
pub none_without : (ls : List Life) (o : Owner) → Absent o ls → without ls o ≡ ls
none_without [] o a = refl
none_without (l ∷ ls) o a = let rest = none_without ls o a.1 in grind (arith, a.0, rest)

pub absent_beside : (n : ℕ) (ls : List Life) (o : Owner) → (o.node == n) ≡ false → Absent o (lives_at n ls)
absent_beside n [] o h = tt
absent_beside n (l ∷ ls) o h = go (l.owner.node == n) (is_owner l.owner o) refl refl (absent_beside n ls o h)
  where
    go : (b c : Bool) → (l.owner.node == n) ≡ b → is_owner l.owner o ≡ c → Absent o (lives_at n ls) → Absent o (elim b [ true ↦ l ∷ lives_at n ls | false ↦ lives_at n ls ])
    go true true i j rest = absurd (let no : (l.owner.node == n) ≡ false = node_of l.owner o n j ∙ h in cc (no, i))
    go true false i j rest = (j, rest)
    go false c i j rest = rest
