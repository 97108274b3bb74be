-- How many lines of recovery a world may still take: what each transaction, current or kept, costs, and what an event makes of it.
use Rattle.std.proofs.Common.{if◌then◌else◌, ◌≡◌, ℕ, suc, ◌≤◌, ◌+◌, ◌*◌, Bool, true, false, refl, ap, arith, Option, Some, None, List, [], ◌∷◌, ◌&&◌, ◌||◌, ◌==◌, not, length}
use Rattle.tp_names.specs.declared.identifiers.NodeKey.{NodeKey}
use Rattle.tp_names.specs.declared.children.Child.{Child}
use Rattle.tp_names.specs.declared.identifiers.BranchId.{BranchId}
use Rattle.tp_names.specs.Same.{is_key, is_branch}
use Rattle.tp_logrec.specs.declared.record.LogRec.{LogRec}
use Rattle.tp_model.specs.declared.recovery.Kept.{Kept}
use Rattle.tp_model.specs.Parts.{Branch}
use Rattle.tp_model.specs.Transactions.{Row, child_of, owed_of}
use Rattle.tp_model.specs.Recovery.{is_commit, is_root_key, find_owed, without_owed, put_kept, without_kept, kept_by, kept_after}
use Rattle.tp_model.specs.Node.{branches_of}
use Rattle.tp_model.specs.World.{Node, number_of, find_node, put_node}
use Rattle.tp_steps.proofs.lemmas.Options.{some_same}
use Rattle.tp_finishing.specs.Doubt.{known_of}
use Rattle.tp_finishing.specs.Finishing.{count_open, lines_to_forget, lines_of_kept, lines_at, most_lines}

-- ---- a transaction

-- what a commitment costs that is under way, at a branch or at a root
abbrev pub cost_of_commit : Bool → Bool → List Branch → ℕ
cost_of_commit under owes bs = (if owes then 1 else 0) + lines_to_forget under + 3 * count_open bs

pub open_less : (bs : List Branch) → count_open bs ≤ length bs
open_less [] = omega arith
open_less (b ∷ bs) = go (b.left || b.ended) (open_less bs)
  where
    go : (v : Bool) → count_open bs ≤ length bs → (if v then count_open bs else suc (count_open bs)) ≤ length (b ∷ bs)
    go true h = omega (arith, h)
    go false h = omega (arith, h)

-- those that are owed are the open ones
pub owed_open : (rows : List Row) → length (owed_of rows) ≡ count_open (branches_of rows)
owed_open [] = refl
owed_open (r ∷ rows) = go (r.branch.left || r.branch.ended) (owed_open rows)
  where
    go : (v : Bool) → length (owed_of rows) ≡ count_open (branches_of rows) → length (if v then owed_of rows else child_of r.branch ∷ owed_of rows) ≡ (if v then count_open (branches_of rows) else suc (count_open (branches_of rows)))
    go true h = h
    go false h = ap suc h

-- ---- what is kept

-- one of them
abbrev pub lines_of_one : Kept → ℕ
lines_of_one k = lines_to_forget (is_commit k.side && not (is_root_key k.key)) + 3 * length k.owed

put_less : (ks : List Kept) (k : Kept) → lines_of_kept (put_kept ks k) ≤ lines_of_kept ks + lines_of_one k
put_less [] k = last (lines_of_one k)
  where
    last : (n : ℕ) → n + 0 ≤ 0 + n
    last n = omega arith
put_less (x ∷ ks) k = go (is_key x.key k.key) (put_less ks k)
  where
    swapped : (a b c : ℕ) → a + b ≤ c + b + a
    swapped a b c = omega arith

    behind : (a b c d : ℕ) → b ≤ c + d → a + b ≤ a + c + d
    behind a b c d h = omega (arith, h)

    go : (v : Bool) → lines_of_kept (put_kept ks k) ≤ lines_of_kept ks + lines_of_one k
        → lines_of_kept (if v then record k { forgot = x.forgot } ∷ ks else x ∷ put_kept ks k) ≤ lines_of_kept (x ∷ ks) + lines_of_one k
    go true h = swapped (lines_of_one k) (lines_of_kept ks) (lines_of_one x)
    go false h = behind (lines_of_one x) (lines_of_kept (put_kept ks k)) (lines_of_kept ks) (lines_of_one k) h

without_less : (ks : List Kept) (k : NodeKey) → lines_of_kept (without_kept ks k) ≤ lines_of_kept ks
without_less [] k = omega arith
without_less (x ∷ ks) k = go (is_key x.key k) (without_less ks k)
  where
    go : (v : Bool) → lines_of_kept (without_kept ks k) ≤ lines_of_kept ks → lines_of_kept (if v then ks else x ∷ without_kept ks k) ≤ lines_of_kept (x ∷ ks)
    go true h = omega arith
    go false h = omega (arith, h)

-- what a record adds
abbrev pub cost_of_rec : Option LogRec → ℕ
cost_of_rec (Some (LogRec.Damage n k s o r cs)) = lines_to_forget (is_commit o && not (is_root_key k)) + 3 * length cs
cost_of_rec _ = 0

pub kept_less : (r : Option LogRec) (ks : List Kept) → lines_of_kept (kept_after r ks) ≤ lines_of_kept ks + cost_of_rec r
unfolding kept_by
kept_less (Some (LogRec.Damage n k s o r cs)) ks = put_less ks (record { node = n; key = k; superior = s; side = o; report = r; owed = cs; forgot = false })
kept_less (Some (LogRec.End n k o)) ks = let less = without_less ks k in omega (arith, less)
kept_less None ks = omega arith
kept_less (Some (LogRec.Boot n)) ks = omega arith
kept_less (Some (LogRec.Ready n k s cs)) ks = omega arith
kept_less (Some (LogRec.Heuristic n k o)) ks = omega arith
kept_less (Some (LogRec.Commit n k s cs)) ks = omega arith

pub owed_less : (cs : List Child) (b : BranchId) (c : Child) → find_owed cs b ≡ Some c → suc (length (without_owed cs b)) ≡ length cs
owed_less [] b c h = absurd (cc (h))
owed_less (x ∷ cs) b c h = go (is_branch x.branch b) h (owed_less cs b c)
  where
    go : (v : Bool) → (if v then Some x else find_owed cs b) ≡ Some c → (find_owed cs b ≡ Some c → suc (length (without_owed cs b)) ≡ length cs) → suc (length (if v then cs else x ∷ without_owed cs b)) ≡ length (x ∷ cs)
    go true i rest = refl
    go false i rest = ap suc (rest i)

-- ---- a world

-- a node that takes the place of another one
pub total_put : (of : Node → ℕ) (total : List Node → ℕ) → ((z : Node) (ns : List Node) → total (z ∷ ns) ≡ of z + total ns) → (ns : List Node) (x y : Node) → find_node ns (number_of y) ≡ Some x
    → total (put_node ns y) + of x ≡ total ns + of y
total_put of total sums [] x y h = absurd (cc (h))
total_put of total sums (z ∷ ns) x y h = go (number_of z == number_of y) h (total_put of total sums ns x y)
  where
    go : (v : Bool) → elim v as (λ _. Option Node) [ true ↦ Some z | false ↦ find_node ns (number_of y) ] ≡ Some x → (find_node ns (number_of y) ≡ Some x → total (put_node ns y) + of x ≡ total ns + of y)
        → total (elim v as (λ _. List Node) [ true ↦ y ∷ ns | false ↦ z ∷ put_node ns y ]) + of x ≡ total (z ∷ ns) + of y
    go true i rest =
        let same : of z ≡ of x = ap of (some_same z x i) in
        let new = sums y ns in
        let old = sums z ns in
        omega (arith, same, new, old)
    go false i rest =
        let r = rest i in
        let new = sums z (put_node ns y) in
        let old = sums z ns in
        omega (arith, r, new, old)

pub cost_put : (ns : List Node) (x y : Node) → find_node ns (number_of y) ≡ Some x → most_lines (put_node ns y) + lines_at (known_of x) ≡ most_lines ns + lines_at (known_of y)
cost_put ns x y h = total_put (λ z. lines_at (known_of z)) most_lines (λ z ns. refl) ns x y h
