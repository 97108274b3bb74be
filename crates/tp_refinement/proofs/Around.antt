-- In every run: the superior and the branches of a node in its tree, as the page sees them.
use Rattle.std.proofs.Common.{◌≡◌, ◌≤◌, inl, inr, ℕ, suc, Bool, true, false, refl, ap, sym, subst, ◌∙◌, arith, Option, Some, None, List, [], ◌∷◌, ◌||◌, ◌==◌}
use Rattle.std.specs.Prelude.{◌≢◌}
use Rattle.std.proofs.lemmas.Bool.Decides.{nat_tests}
use Rattle.tp_names.specs.declared.identifiers.Aaid.{Aaid}
use Rattle.tp_names.specs.declared.identifiers.BranchId.{BranchId}
use Rattle.tp_names.specs.declared.identifiers.Addr.{Addr}
use Rattle.tp_names.specs.Same.{is_name, is_aaid}
use Rattle.tp_logrec.specs.declared.record.LogRec.{LogRec}
use Rattle.tp_model.specs.Questions.{is_at}
use Rattle.tp_model.specs.History.{records}
use Rattle.tp_model.specs.Outcomes.{has_left, decided, rolled}
use Rattle.tp_model.specs.World.{Node, number_of, site_of, find_node}
use Rattle.tp_model.specs.Happenings.{Happening, run}
use Rattle.tp_model.specs.Promises.{IsIn, IsOf, IsBranchOf, is_root, has_record, is_bound_of}
use Rattle.tp_model.specs.Promises.{is_ready_of_branch as is_ready_rec}
use Rattle.tp_histories.specs.Members.{is_own}
use Rattle.tp_histories.specs.Fates.{has_ready_in}
use Rattle.tp_histories.specs.Worlds.{place}
use Rattle.tp_tree_commit.specs.TreeCommit.{Part, Superior, EachBranch, HasVoted, HasLeft, HasCommitted}
use Rattle.tp_refinement.specs.Refinement.{vote_of, ending_of, number_above, above_of, part_of, part_in, tree_in}
use Rattle.tp_steps.proofs.lemmas.Equality.{or_case, and_left, and_right}
use Rattle.tp_steps.proofs.lemmas.Options.{some_same}
use Rattle.tp_steps.proofs.words.Leaves.{name_same}
use Rattle.tp_histories.proofs.worlds.Nodes.{find_is}
use Rattle.tp_histories.proofs.worlds.Good.{good_run}
use Rattle.tp_histories.proofs.worlds.Unique.{unique_run}
use Rattle.tp_runs.proofs.Hanging.{Hangs, hangs}
use Rattle.tp_agreement.proofs.BelowRuns.{branch_above}
use Rattle.tp_refinement.proofs.Nodes.{Sound}
use Rattle.tp_refinement.proofs.Parts.{part_there, Seen, seen}

pub sound_run : (es : List Happening) (x : Node) → IsIn (run es) x → Sound x.origin x.superior x.history
sound_run es x here = record { empty = (good_run es).fresh (number_of x) x here; legal = (good_run es).legal (number_of x) x here; once = (unique_run es).once (number_of x) x here }

-- ---- roots

pub root_own : (t : Aaid) (x : Node) → is_root t x ≡ true → is_own x.origin.who t ≡ true
root_own t x h = and_right (is_name t.owner (site_of x)) (t.mark.node == number_of x) h

pub drew_root : (t : Aaid) (x : Node) → (t.owner ≡ site_of x) × (t.mark.node ≡ number_of x) → is_root t x ≡ true
drew_root t x own =
    let site : is_name t.owner (site_of x) ≡ true = ap (λ (n : List ℕ). is_name n (site_of x)) own.0 ∙ name_same (site_of x) in
    rw site (grind (arith, nat_tests, own.1))

pub above_root : (t : Aaid) (x : Node) → is_root t x ≡ true → above_of t x ≡ None
above_root t x h = ap (λ (b : Bool). elim b as (λ _. Option ℕ) [ true ↦ None | false ↦ number_above x.superior ]) h

above_else : (t : Aaid) (x : Node) → is_root t x ≡ false → above_of t x ≡ number_above x.superior
above_else t x h = ap (λ (b : Bool). elim b as (λ _. Option ℕ) [ true ↦ None | false ↦ number_above x.superior ]) h

-- ---- the superior

number_at : (up : Option Addr) (n : ℕ) → is_at up n ≡ true → number_above up ≡ Some n
number_at None n h = absurd (cc (h))
number_at (Some a) n h = let same : a.node ≡ n = grind (arith, nat_tests, h) in ap (λ (k : ℕ). Some k) same

pub record HasSuperior (es : List Happening) (t : Aaid) (y : Node) : Type 0 where
  pub node : Node
  pub id : BranchId
  pub branch : IsBranchOf (run es) t id node y
  pub above : above_of t y ≡ Some (number_of node)
  pub there : tree_in (run es) t (number_of node) ≡ Some (part_of t node)
  pub other : (number_of y == number_of node) ≡ false

pub superior_at : (es : List Happening) (t : Aaid) (y : Node) → IsOf (run es) t y → is_root t y ≡ false → HasSuperior es t y
superior_at es t y of other = record {
  node = u.superior;
  id = u.id;
  branch = u.branch;
  above = above_else t y other ∙ number_at y.superior (number_of u.superior) (branch_above es t u.id u.superior y u.branch);
  there = ap (part_in t) u.branch.superior.here ∙ part_there t u.superior u.branch.superior.of_tree;
  other = apart (number_of y == number_of u.superior) refl;
}
  where
    u : Hangs es t y
    u = hangs es t y of other

    less : (a b : ℕ) → suc a ≤ b → b ≡ a → ⊥
    less a b l i = omega (arith, l, i)

    apart : (b : Bool) → (number_of y == number_of u.superior) ≡ b → (number_of y == number_of u.superior) ≡ false
    apart false i = i
    apart true i = absurd (let same : number_of y ≡ number_of u.superior = grind (arith, nat_tests, i) in less (place (run es).nodes (number_of u.superior)) (place (run es).nodes (number_of y)) u.before (ap (place (run es).nodes) same))

pub root_or_below : (es : List Happening) (t : Aaid) (y : Node) → IsOf (run es) t y → above_of t y ≡ None → is_root t y ≡ true
root_or_below es t y of none = go (is_root t y) refl
  where
    go : (b : Bool) → is_root t y ≡ b → is_root t y ≡ true
    go true i = i
    go false i = absurd (let u = superior_at es t y of i in cc (u.above, none))

pub not_itself : (es : List Happening) (t : Aaid) (y : Node) → IsOf (run es) t y → above_of t y ≢ Some (number_of y)
not_itself es t y of same = go (is_root t y) refl
  where
    self : (n m : ℕ) → ◌≡◌ {A = Option ℕ} (Some n) (Some m) → (m == n) ≡ true
    self n m i = let eq : n ≡ m = cc (i) in grind (arith, nat_tests, eq)

    go : (b : Bool) → is_root t y ≡ b → ⊥
    go true i = cc (above_root t y i, same)
    go false i = let u = superior_at es t y of i in cc (self (number_of u.node) (number_of y) (sym u.above ∙ same), u.other)

-- what holds of the superior
pub with_superior : (es : List Happening) (t : Aaid) (y : Node) (P : Part → Type 0) → IsOf (run es) t y → is_root t y ≡ false → ((x : Node) (b : BranchId) → IsBranchOf (run es) t b x y → P (part_of t x)) → Superior (tree_in (run es) t) (part_of t y) P
with_superior es t y P of other f = let u = superior_at es t y of other in (number_of u.node, part_of t u.node, u.above, u.there, f u.node u.id u.branch)

-- ---- the branches

pub each_branch : (es : List Happening) (t : Aaid) (x : Node) (P : Part → Type 0) → IsIn (run es) x → ((z : Node) (b : BranchId) → IsBranchOf (run es) t b x z → P (part_of t z)) → EachBranch (tree_in (run es) t) (number_of x) P
each_branch es t x P here f m r at up = subst P (sym s.is) (go (is_root t z) refl)
  where
    s : Seen t (find_node (run es).nodes m) r
    s = seen t (find_node (run es).nodes m) r at

    z : Node
    z = s.node

    of : IsOf (run es) t z
    of = record { here = ap (find_node (run es).nodes) (find_is (run es).nodes m z s.found) ∙ s.found; of_tree = s.member }

    above : above_of t z ≡ Some (number_of x)
    above = ap (λ (p : Part). p.superior) (sym s.is) ∙ up

    one : (n k : ℕ) → ◌≡◌ {A = Option ℕ} (Some n) (Some k) → n ≡ k
    one n k i = cc (i)

    go : (b : Bool) → is_root t z ≡ b → P (part_of t z)
    go true i = absurd (cc (above_root t z i, above))
    go false i =
        let u = superior_at es t z of i in
        let number : number_of u.node ≡ number_of x = one (number_of u.node) (number_of x) (sym u.above ∙ above) in
        let same : u.node ≡ x = some_same u.node x (sym u.branch.superior.here ∙ ap (find_node (run es).nodes) number ∙ here) in
        f z u.id (subst (λ (v : Node). IsBranchOf (run es) t u.id v z) same u.branch)

-- ---- what a part is, by what its history tells

pub vote_is : (t : Aaid) (x : Node) (l r : Bool) → has_left x.origin t x.history ≡ l → has_ready_in t (records x.origin x.history) ≡ r → (part_of t x).vote ≡ vote_of l r
vote_is t x l r i j = rw (i, j) refl

pub ending_is : (t : Aaid) (x : Node) (c b : Bool) → decided x.origin t x.history ≡ c → rolled x.origin t x.history ≡ b → (part_of t x).ending ≡ ending_of c b
ending_is t x c b i j = rw (i, j) refl

pub left_is : (t : Aaid) (x : Node) → has_left x.origin t x.history ≡ true → HasLeft (part_of t x)
left_is t x i = ap (λ (l : Bool). vote_of l (has_ready_in t (records x.origin x.history))) i

pub voted_is : (t : Aaid) (x : Node) → has_ready_in t (records x.origin x.history) ≡ true → HasVoted (part_of t x)
voted_is t x r = go (has_left x.origin t x.history) refl
  where
    go : (b : Bool) → has_left x.origin t x.history ≡ b → HasVoted (part_of t x)
    go true i = inr (left_is t x i)
    go false i = inl (vote_is t x false true i r)

pub committed_is : (t : Aaid) (x : Node) → decided x.origin t x.history ≡ true → HasCommitted (part_of t x)
committed_is t x i = ap (λ (c : Bool). ending_of c (rolled x.origin t x.history)) i

-- ---- records

pub later : (x y : Bool) → y ≡ true → (x || y) ≡ true
later true y i = refl
later false y i = i

pub branch_ready : (t : Aaid) (b : BranchId) (rs : List LogRec) → has_record (is_ready_rec t b) rs ≡ true → has_ready_in t rs ≡ true
branch_ready t b [] h = absurd (cc (h))
branch_ready t b (r ∷ rs) h = elim (or_case (is_ready_rec t b r) (has_record (is_ready_rec t b) rs) h) [ inl i ↦ first r i | inr i ↦ more r (branch_ready t b rs i) ]
  where
    first : (r : LogRec) → is_ready_rec t b r ≡ true → has_ready_in t (r ∷ rs) ≡ true
    first (LogRec.Ready n k s cs) i = let tree = and_left (is_aaid t k.aaid) _ i in rw tree refl
    first _ i = absurd (cc (i))

    more : (r : LogRec) → has_ready_in t rs ≡ true → has_ready_in t (r ∷ rs) ≡ true
    more (LogRec.Ready n k s cs) i = later (is_aaid t k.aaid) (has_ready_in t rs) i
    more _ i = i

pub ready_bound : (t : Aaid) (rs : List LogRec) → has_ready_in t rs ≡ true → has_record (is_bound_of t) rs ≡ true
ready_bound t [] h = absurd (cc (h))
ready_bound t (LogRec.Ready n k s cs ∷ rs) h = elim (or_case (is_aaid t k.aaid) (has_ready_in t rs) h) [ inl i ↦ rw i refl | inr i ↦ later (is_aaid t k.aaid) (has_record (is_bound_of t) rs) (ready_bound t rs i) ]
ready_bound t (LogRec.Commit n k s cs ∷ rs) h = later (is_aaid t k.aaid) (has_record (is_bound_of t) rs) (ready_bound t rs h)
ready_bound t (LogRec.Boot n ∷ rs) h = ready_bound t rs h
ready_bound t (LogRec.Heuristic n k u ∷ rs) h = ready_bound t rs h
ready_bound t (LogRec.Damage n k s o p cs ∷ rs) h = ready_bound t rs h
ready_bound t (LogRec.End n k o ∷ rs) h = ready_bound t rs h
