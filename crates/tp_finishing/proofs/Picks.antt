-- Which node goes on: the first or the last in a world of which something holds, and the first branch that is waited for.
use Rattle.std.proofs.Common.{◌≡◌, ◌⊎◌, inl, inr, ℕ, suc, ◌≤◌, Bool, true, false, refl, ap, sym, ◌∙◌, arith, Some, None, List, [], ◌∷◌, ◌++◌, ◌==◌, ◌||◌}
use Rattle.std.proofs.lemmas.Bool.Decides.{nat_tests}
use Rattle.tp_names.specs.declared.identifiers.Aaid.{Aaid}
use Rattle.tp_names.specs.declared.identifiers.BranchId.{BranchId}
use Rattle.tp_names.specs.declared.children.Child.{Child}
use Rattle.tp_names.specs.Same.{is_branch}
use Rattle.tp_names.proofs.Sames.{branch_self, branch_same}
use Rattle.tp_records.specs.declared.peer.PeerRecord.{PeerRecord}
use Rattle.tp_model.specs.Parts.{Branch}
use Rattle.tp_model.specs.Legal.{is_apart, are_apart}
use Rattle.tp_model.specs.Transactions.{Row, child_of, find_row, find_row_by_id, ask_each}
use Rattle.tp_model.specs.Arrivals.{find_branch_by_id}
use Rattle.tp_model.specs.Node.{seen_row, seen_rows}
use Rattle.tp_model.specs.World.{Node, number_of, find_node, put_node}
use Rattle.tp_model.specs.Happenings.{Happening, run}
use Rattle.tp_steps.specs.Moves.{IsRecoveryIn}
use Rattle.tp_steps.proofs.lemmas.Options.{some_same}
use Rattle.tp_steps.proofs.lemmas.Equality.{and_left, and_right}
use Rattle.tp_steps.proofs.log.KinTurns.{kin}
use Rattle.tp_histories.specs.Undone.{are_done}
use Rattle.tp_histories.specs.Worlds.{place, grown_node}
use Rattle.tp_histories.proofs.worlds.Traversal.{induct}
use Rattle.tp_finishing.proofs.KeptTurns.{EachChild}
use Rattle.tp_finishing.proofs.Sites.{EachNode, nodes_found}
use Rattle.tp_finishing.proofs.Ending.{OpenIn}

-- ---- no two nodes have one number

abbrev pub AreDistinct : List Node → Type 0
AreDistinct [] = Unit {0}
AreDistinct (x ∷ xs) = (find_node xs (number_of x) ≡ None) × AreDistinct xs

none_put : (ns : List Node) (y : Node) (n : ℕ) → find_node ns n ≡ None → find_node (put_node ns y) n ≡ None
none_put [] y n h = refl
none_put (x ∷ ns) y n h = grind (arith, nat_tests, none_put ns y n, h)

none_more : (ns : List Node) (x : Node) (n : ℕ) → find_node ns n ≡ None → (number_of x == n) ≡ false → find_node (ns ++ x ∷ []) n ≡ None
none_more [] x n h i = rw (i, find_node) refl
none_more (y ∷ ns) x n h i = grind (arith, none_more ns x n, h, i)

distinct_put : (ns : List Node) (y : Node) → AreDistinct ns → AreDistinct (put_node ns y)
distinct_put [] y d = tt
distinct_put (x ∷ ns) y d = go (number_of x == number_of y) refl (distinct_put ns y d.1)
  where
    go : (b : Bool) → (number_of x == number_of y) ≡ b → AreDistinct (put_node ns y) → AreDistinct (elim b as (λ _. List Node) [ true ↦ y ∷ ns | false ↦ x ∷ put_node ns y ])
    go true i rest = let same : number_of x ≡ number_of y = grind (arith, nat_tests, i) in (ap (find_node ns) (sym same) ∙ d.0, d.1)
    go false i rest = (none_put ns y (number_of x) d.0, rest)

distinct_more : (ns : List Node) (x : Node) → find_node ns (number_of x) ≡ None → AreDistinct ns → AreDistinct (ns ++ x ∷ [])
distinct_more [] x h d = (refl, tt)
distinct_more (y ∷ ns) x h d = go (number_of y == number_of x) refl (λ k. distinct_more ns x k d.1)
  where
    go : (b : Bool) → (number_of y == number_of x) ≡ b → (find_node ns (number_of x) ≡ None → AreDistinct (ns ++ x ∷ [])) → AreDistinct ((y ∷ ns) ++ x ∷ [])
    go true i rest = absurd (grind (arith, h, i))
    go false i rest = let k : find_node ns (number_of x) ≡ None = grind (arith, h, i) in (none_more ns x (number_of y) d.0 (turn (number_of y) (number_of x) i), rest k)
      where
        turn : (m n : ℕ) → (m == n) ≡ false → (n == m) ≡ false
        turn m n k = grind (arith, nat_tests, k)

pub distinct_run : (es : List Happening) → AreDistinct (run es).nodes
distinct_run es = induct (λ ns fs. AreDistinct ns) (record {
  start = tt;
  comes = λ ns fs x c d. distinct_more ns x c.none d;
  event = λ ns fs x e a b d. distinct_put ns (grown_node x e) d;
  mark = λ ns fs k d. d;
}) es

-- ---- the first and the last

pub record First (f : Node → Bool) (ns : List Node) : Type 0 where
  pub node : Node
  pub here : find_node ns (number_of node) ≡ Some node
  pub is : f node ≡ true
  pub before : (k : ℕ) (z : Node) → find_node ns k ≡ Some z → suc (place ns k) ≤ place ns (number_of node) → f z ≡ false

pub record Last (f : Node → Bool) (ns : List Node) : Type 0 where
  pub node : Node
  pub here : find_node ns (number_of node) ≡ Some node
  pub is : f node ≡ true
  pub behind : (k : ℕ) (z : Node) → find_node ns k ≡ Some z → suc (place ns (number_of node)) ≤ place ns k → f z ≡ false

-- behind a node stand others
other : (x : Node) (ns : List Node) (n : ℕ) (z : Node) → find_node ns (number_of x) ≡ None → find_node ns n ≡ Some z → (number_of x == n) ≡ false
other x ns n z none h = go (number_of x == n) refl
  where
    go : (b : Bool) → (number_of x == n) ≡ b → b ≡ false
    go false i = refl
    go true i = let same : number_of x ≡ n = grind (arith, nat_tests, i) in absurd (let off : None ≡ Some z = sym none ∙ ap (find_node ns) same ∙ h in cc (off))

self : (n : ℕ) → (n == n) ≡ true
self n = grind (arith, nat_tests)

pub pick_first : (f : Node → Bool) (ns : List Node) → AreDistinct ns → EachNode (λ z. f z ≡ false) ns ⊎ First f ns
pick_first f [] d = inl tt
pick_first f (x ∷ ns) d = go (f x) refl (pick_first f ns d.1)
  where
    go : (b : Bool) → f x ≡ b → EachNode (λ z. f z ≡ false) ns ⊎ First f ns → EachNode (λ z. f z ≡ false) (x ∷ ns) ⊎ First f (x ∷ ns)
    go true i rest = inr (record { node = x; here = rw (self (number_of x), find_node) refl; is = i; before = λ k z h less. absurd (no_less (place (x ∷ ns) k) (place (x ∷ ns) (number_of x)) less (rw (self (number_of x), place) refl)) })
      where
        no_less : (m n : ℕ) → suc m ≤ n → n ≡ 0 → ⊥
        no_less m n h j = omega (arith, h, j)
    go false i (inl each) = inl (i, each)
    go false i (inr r) =
        let off = other x ns (number_of r.node) r.node d.0 r.here in
        inr (record { node = r.node; here = rw (off, find_node) r.here; is = r.is; before = λ k z h less. by k z h less (number_of x == k) refl off })
      where
        by : (k : ℕ) (z : Node) → find_node (x ∷ ns) k ≡ Some z → suc (place (x ∷ ns) k) ≤ place (x ∷ ns) (number_of r.node) → (b : Bool) → (number_of x == k) ≡ b → (number_of x == number_of r.node) ≡ false → f z ≡ false
        by k z h less true j off = let same : x ≡ z = some_same x z (rw (j, find_node) at h) in ap f (sym same) ∙ i
        by k z h less false j off =
            let l : suc (suc (place ns k)) ≤ suc (place ns (number_of r.node)) = rw (j, off, place) at less in
            r.before k z (rw (j, find_node) at h) (fewer (place ns k) (place ns (number_of r.node)) l)
          where
            fewer : (m n : ℕ) → suc (suc m) ≤ suc n → suc m ≤ n
            fewer m n w = omega (arith, w)

pub pick_last : (f : Node → Bool) (ns : List Node) → AreDistinct ns → EachNode (λ z. f z ≡ false) ns ⊎ Last f ns
pick_last f [] d = inl tt
pick_last f (x ∷ ns) d = go (pick_last f ns d.1) (f x) refl
  where
    no_less : (m n : ℕ) → suc m ≤ n → n ≡ 0 → ⊥
    no_less m n h j = omega (arith, h, j)

    go : EachNode (λ z. f z ≡ false) ns ⊎ Last f ns → (b : Bool) → f x ≡ b → EachNode (λ z. f z ≡ false) (x ∷ ns) ⊎ Last f (x ∷ ns)
    go (inl each) false i = inl (i, each)
    go (inl each) true i = inr (record { node = x; here = rw (self (number_of x), find_node) refl; is = i; behind = λ k z h less. by k z h less (number_of x == k) refl })
      where
        by : (k : ℕ) (z : Node) → find_node (x ∷ ns) k ≡ Some z → suc (place (x ∷ ns) (number_of x)) ≤ place (x ∷ ns) k → (b : Bool) → (number_of x == k) ≡ b → f z ≡ false
        by k z h less true j = absurd (no_less (place (x ∷ ns) (number_of x)) (place (x ∷ ns) k) less (rw (j, place) refl))
        by k z h less false j = nodes_found (λ v. f v ≡ false) ns k z each (rw (j, find_node) at h)
    go (inr r) b i =
        let off = other x ns (number_of r.node) r.node d.0 r.here in
        inr (record { node = r.node; here = rw (off, find_node) r.here; is = r.is; behind = λ k z h less. by k z h less (number_of x == k) refl off })
      where
        by : (k : ℕ) (z : Node) → find_node (x ∷ ns) k ≡ Some z → suc (place (x ∷ ns) (number_of r.node)) ≤ place (x ∷ ns) k → (b : Bool) → (number_of x == k) ≡ b → (number_of x == number_of r.node) ≡ false → f z ≡ false
        by k z h less true j off = absurd (no_less (place (x ∷ ns) (number_of r.node)) (place (x ∷ ns) k) less (rw (j, place) refl))
        by k z h less false j off =
            let l : suc (suc (place ns (number_of r.node))) ≤ suc (place ns k) = rw (j, off, place) at less in
            r.behind k z (rw (j, find_node) at h) (fewer (place ns (number_of r.node)) (place ns k) l)
          where
            fewer : (m n : ℕ) → suc (suc m) ≤ suc n → suc m ≤ n
            fewer m n w = omega (arith, w)

-- ---- a branch that is waited for

pub record Waits (Q : Child → Type 0) (t : Aaid) (bs : List Branch) : Type 0 where
  pub branch : Branch
  pub opens : OpenIn bs branch
  pub found : find_branch_by_id bs branch.id ≡ Some branch
  pub holds : Q (child_of branch)
  pub asked : IsRecoveryIn (ask_each t (seen_rows [] bs)) branch.peer (PeerRecord.RecCommit t branch.id)

-- in a list, what is found of a later one
later_id : (x : Branch) (bs : List Branch) (b : BranchId) (v : Branch) → is_apart (child_of x) (kin bs) ≡ true → find_branch_by_id bs b ≡ Some v → is_branch x.id b ≡ false
later_id x [] b v h f = absurd (cc (f))
later_id x (y ∷ bs) b v h f = go (is_branch x.id b) refl (is_branch y.id b) refl (later_id x bs b v)
  where
    go : (u : Bool) → is_branch x.id b ≡ u → (w : Bool) → is_branch y.id b ≡ w → (is_apart (child_of x) (kin bs) ≡ true → find_branch_by_id bs b ≡ Some v → is_branch x.id b ≡ false) → u ≡ false
    go false i w j rest = refl
    go true i true j rest =
        let same : is_branch x.id y.id ≡ true = ap (is_branch x.id) (branch_same y.id b j) ∙ i in
        absurd (grind (arith, h, same))
    go true i false j rest = let k = rest (grind (arith, h)) (rw (j, find_branch_by_id) at f) in absurd (cc (i, k))

later_peer : (x : Branch) (bs : List Branch) (v : Branch) (r : Row) → is_apart (child_of x) (kin bs) ≡ true → find_row (seen_rows [] bs) v.peer.node ≡ Some r → (x.peer.node == v.peer.node) ≡ false
later_peer x [] v r h f = absurd (cc (f))
later_peer x (y ∷ bs) v r h f = go (x.peer.node == v.peer.node) refl (y.peer.node == v.peer.node) refl (later_peer x bs v r)
  where
    go : (u : Bool) → (x.peer.node == v.peer.node) ≡ u → (w : Bool) → (y.peer.node == v.peer.node) ≡ w → (is_apart (child_of x) (kin bs) ≡ true → find_row (seen_rows [] bs) v.peer.node ≡ Some r → (x.peer.node == v.peer.node) ≡ false) → u ≡ false
    go false i w j rest = refl
    go true i true j rest = absurd (grind (arith, nat_tests, h, i, j))
    go true i false j rest = let k = rest (grind (arith, h)) (rw (j, find_row) at f) in absurd (cc (i, k))

pub pick_waits : (Q : Child → Type 0) (t : Aaid) (bs : List Branch) → are_apart (kin bs) ≡ true → EachChild Q (kin bs) → are_done bs ≡ false → Waits Q t bs
pick_waits Q t [] apart each h = absurd (cc (h))
pick_waits Q t (x ∷ bs) apart each h = go (x.ended || x.left || x.given_up) refl (pick_waits Q t bs (and_right (is_apart (child_of x) (kin bs)) (are_apart (kin bs)) apart) each.1)
  where
    off_left : (a b c : Bool) → (a || b || c) ≡ false → (a ≡ false) × (b ≡ false)
    off_left a b c i = (grind (arith, i), grind (arith, i))

    go : (v : Bool) → (x.ended || x.left || x.given_up) ≡ v → (are_done bs ≡ false → Waits Q t bs) → Waits Q t (x ∷ bs)
    go false i rest = record {
      branch = x;
      opens = record { by_id = rw (branch_self x.id, find_row_by_id) refl; by_peer = rw (self x.peer.node, find_row) refl; left = (off_left x.ended x.left x.given_up i).1; ended = (off_left x.ended x.left x.given_up i).0 };
      found = rw (branch_self x.id, find_branch_by_id) refl;
      holds = each.0;
      asked = rw (i, ask_each) (inl (refl, refl));
    }
    go true i rest =
        let r = rest (rw (i, are_done) at h) in
        let id = later_id x bs r.branch.id r.branch (and_left (is_apart (child_of x) (kin bs)) (are_apart (kin bs)) apart) r.found in
        let peer = later_peer x bs r.branch (seen_row [] r.branch) (and_left (is_apart (child_of x) (kin bs)) (are_apart (kin bs)) apart) r.opens.by_peer in
        record {
          branch = r.branch;
          opens = record { by_id = rw (id, find_row_by_id) (r.opens.by_id); by_peer = rw (peer, find_row) (r.opens.by_peer); left = r.opens.left; ended = r.opens.ended };
          found = rw (id, find_branch_by_id) (r.found);
          holds = r.holds;
          asked = rw (i, ask_each) (r.asked);
        }
