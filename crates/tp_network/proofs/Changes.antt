-- The summaries after a change: which trees it names, and that it leaves the others alone.
use Rattle.std.proofs.Common.{◌≡◌, ◌&&◌, ◌||◌, not, Bool, true, false, refl, ap, sym, ◌∙◌, arith, List, Option, Some, None}
use Rattle.std.specs.Prelude.{cond, Result, Ok, Err, OnErr, OnOk}
use Rattle.tp_names.specs.declared.identifiers.Aaid.{Aaid}
use Rattle.tp_names.specs.declared.outcome.Outcome.{Outcome}
use Rattle.tp_names.specs.Same.{is_aaid}
use Rattle.tp_names.proofs.Sames.{aaid_same}
use Rattle.tp_model.specs.declared.arc.Phase.{Phase}
use Rattle.tp_model.specs.declared.out_line.LogWords.{LogWords}
use Rattle.tp_model.specs.Dialogues.{is_active, is_ready, is_rolling}
use Rattle.tp_names.specs.declared.no_memory.NoMemory.{NoMemory}
use Rattle.tp_network.specs.declared.tree_key.Tree.{Tree}
use Rattle.tp_network.specs.TreeSummaries.{summary_at}
use Rattle.tp_network.specs.TreeKey.{tree_either, tree_of}
use Rattle.tp_node.specs.declared.state.NodeTree.{NodeTree}
use Rattle.tp_network.specs.TreeSummary.{is_in, phase_in, is_commit_of, decision_in, goes_on, has_rolled, is_that, same_tree, speaks_of, stood_in, summary_after, tree_logged}
use Rattle.tp_network.specs.declared.tree_summary.TreeSummary.{TreeSummary}
use Rattle.tp_network.specs.declared.tree_summary.TreeChange.{TreeChange}

-- a tree whose summary was changed already, and one whose summary was not
pub already : (f : Aaid → Bool) (t u : Aaid) → f u ≡ true → (is_aaid t u && not (f t)) ≡ false
already f t u h = go (is_aaid t u) refl
  where
    go : (b : Bool) → is_aaid t u ≡ b → (is_aaid t u && not (f t)) ≡ false
    go true e = ap (λ (b : Bool). b && not (f t)) e ∙ ap (λ (b : Bool). not b) (ap f (aaid_same t u e) ∙ h)
    go false e = ap (λ (b : Bool). b && not (f t)) e

pub once : (f : Aaid → Bool) (t u : Aaid) → f u ≡ false → (is_aaid t u && not (f t)) ≡ is_aaid t u
once f t u h = go (is_aaid t u) refl
  where
    go : (b : Bool) → is_aaid t u ≡ b → (is_aaid t u && not (f t)) ≡ is_aaid t u
    go true e = ap (λ (b : Bool). b && not (f t)) e ∙ ap (λ (b : Bool). not b) (ap f (aaid_same t u e) ∙ h) ∙ sym e
    go false e = ap (λ (b : Bool). b && not (f t)) e ∙ sym e

-- the tree before is the tree after too, or it is not
pub stayed : (t : Aaid) (x y : Option NodeTree) → same_tree x y ≡ true → (is_in t y && not (is_in t x)) ≡ false
stayed t None y h = absurd cc
stayed t (Some x) None h = refl
stayed t (Some x) (Some y) h = already (λ u. is_aaid u x.aaid) t y.aaid (tree_either (tree_of y.aaid) (tree_of x.aaid) ∙ h)

pub left_behind : (x : Option NodeTree) (y : NodeTree) → same_tree x (Some y) ≡ false → is_in y.aaid x ≡ false
left_behind None y h = refl
left_behind (Some x) y h = tree_either (tree_of y.aaid) (tree_of x.aaid) ∙ h

pub neither : (a b : Bool) → (a || b) ≡ false → (a ≡ false) × (b ≡ false)
neither true b h = absurd cc
neither false b h = (refl, h)

-- ---- a change that does not name the tree

summary_made : (m n l k d e r q : Bool) (o p : Option Outcome) → m ≡ n → l ≡ k → d ≡ e → o ≡ p → r ≡ q
    → ◌≡◌ {A = TreeSummary} (record { member = m; left = l; decided = d; decision = o; rolled = r }) (record { member = n; left = k; decided = e; decision = p; rolled = q })
summary_made m n l k d e r q o p a b c f g = rw (a, b, c, f, g) refl

not_in : (t : Aaid) (x : Option NodeTree) → is_in t x ≡ false → phase_in t x ≡ Phase.Nil
not_in t None h = refl
not_in t (Some x) h = rw h refl

not_logged : (t : Aaid) (r : Option LogWords) → is_that t (tree_logged r) ≡ false → (is_commit_of t r ≡ false) × (decision_in t r ≡ None)
not_logged t None h = (refl, refl)
not_logged t (Some (LogWords.Commit n k)) h = (h, refl)
not_logged t (Some (LogWords.Heuristic n k o)) h = (refl, rw h refl)
not_logged t (Some r) h = (grind (arith, h), grind (arith, h))

not_rolled : (t : Aaid) (s : TreeChange) → phase_in t s.before ≡ Phase.Nil → phase_in t s.after ≡ Phase.Nil → has_rolled t s ≡ false
not_rolled t s h i =
    ap (λ (p : Phase). is_rolling (phase_in t s.after) || ((is_active p || is_ready p) && not (goes_on t s.before s.after) && not s.leaves)) h
    ∙ ap (λ (p : Phase). is_rolling p || false) i

or_none : (a b : Bool) → a ≡ false → (a || b) ≡ b
or_none a b h = rw h refl

and_none : (a b : Bool) → a ≡ false → (a && b) ≡ false
and_none a b h = rw h refl

changed_other : (t : Aaid) (s : TreeChange) (p : TreeSummary) → is_in t s.before ≡ false → is_in t s.after ≡ false → is_that t (tree_logged s.rec) ≡ false → summary_after t s p ≡ p
changed_other t s p h i j =
    let rec = not_logged t s.rec j in
    summary_made _ p.member _ p.left _ p.decided _ p.rolled _ p.decision
    (or_none (is_in t s.after) p.member i) (or_none (is_in t s.before && s.leaves) p.left (and_none (is_in t s.before) s.leaves h)) (or_none (is_commit_of t s.rec) p.decided rec.0)
    (ap (λ (o : Option Outcome). elim o as (λ _. Option Outcome) [ Some u ↦ Some u | None ↦ p.decision ]) rec.1) (or_none (has_rolled t s) p.rolled (not_rolled t s (not_in t s.before h) (not_in t s.after i)))

-- ---- at each of the trees that the change names

abbrev where_at : (TreeSummary → TreeSummary) → Bool → TreeSummary → TreeSummary
where_at f b p = cond b (f p) p

by_turns : (f : TreeSummary → TreeSummary) (p : TreeSummary) (a b c : Bool) → (a ≡ false → b ≡ false → c ≡ false → f p ≡ p) → where_at f (c && not (a || b)) (where_at f (b && not a) (where_at f a p)) ≡ f p
by_turns f p true true true other = refl
by_turns f p true true false other = refl
by_turns f p true false true other = refl
by_turns f p true false false other = refl
by_turns f p false true true other = refl
by_turns f p false true false other = refl
by_turns f p false false true other = refl
by_turns f p false false false other = sym (other refl refl refl)

-- the change reaches a tree's summary but once
pub changed_all : (t : Aaid) (s : TreeChange) (p p1 p2 p3 : TreeSummary) → p1 ≡ where_at (summary_after t s) (is_in t s.before) p → p2 ≡ where_at (summary_after t s) (is_in t s.after && not (is_in t s.before)) p1
    → p3 ≡ where_at (summary_after t s) (is_that t (tree_logged s.rec) && not (stood_in t s)) p2 → p3 ≡ summary_after t s p
changed_all t s p p1 p2 p3 one two three =
    three
    ∙ ap (where_at (summary_after t s) (is_that t (tree_logged s.rec) && not (stood_in t s))) (two ∙ ap (where_at (summary_after t s) (is_in t s.after && not (is_in t s.before))) one)
    ∙ by_turns (summary_after t s) p (is_in t s.before) (is_in t s.after) (is_that t (tree_logged s.rec)) (changed_other t s p)

-- ---- a change that was cut short

abbrev Untouched : TreeChange → List (Tree × TreeSummary) → List (Tree × TreeSummary) → Type 0
Untouched s old new = (t : Aaid) → speaks_of t s ≡ false → summary_at new t ≡ summary_at old t

-- after its first part
after_first : (t : Aaid) (s : TreeChange) (p p1 : TreeSummary) → speaks_of t s ≡ false → p1 ≡ where_at (summary_after t s) (is_in t s.before) p → p1 ≡ p
after_first t s p p1 h one =
    let stood : stood_in t s ≡ false = (neither (stood_in t s) (is_that t (tree_logged s.rec)) h).0 in
    one ∙ ap (λ (b : Bool). where_at (summary_after t s) b p) (neither (is_in t s.before) (is_in t s.after) stood).0

-- and after its second
after_second : (t : Aaid) (s : TreeChange) (p p2 : TreeSummary) → speaks_of t s ≡ false → p2 ≡ where_at (summary_after t s) (is_in t s.after && not (is_in t s.before)) p → p2 ≡ p
after_second t s p p2 h two =
    let stood : stood_in t s ≡ false = (neither (stood_in t s) (is_that t (tree_logged s.rec)) h).0 in
    two ∙ ap (λ (b : Bool). where_at (summary_after t s) b p) (and_none (is_in t s.after) (not (is_in t s.before)) (neither (is_in t s.before) (is_in t s.after) stood).1)

pub untouched_at_once : (r : Result (Unit {0}) NoMemory) (s : TreeChange) (old new : List (Tree × TreeSummary)) → new ≡ old → OnErr r (Untouched s old new)
untouched_at_once (Ok v) s old new same = tt
untouched_at_once (Err e) s old new same = λ t h. ap (λ es. summary_at es t) same

pub untouched_by_first : (r : Result (Unit {0}) NoMemory) (s : TreeChange) (old one new : List (Tree × TreeSummary)) → ((t : Aaid) → summary_at one t ≡ where_at (summary_after t s) (is_in t s.before) (summary_at old t)) → new ≡ one → OnErr r (Untouched s old new)
untouched_by_first (Ok v) s old one new first same = tt
untouched_by_first (Err e) s old one new first same = λ t h. ap (λ es. summary_at es t) same ∙ after_first t s (summary_at old t) (summary_at one t) h (first t)

pub untouched_by_second : (r : Result (Unit {0}) NoMemory) (s : TreeChange) (old one two new : List (Tree × TreeSummary)) → ((t : Aaid) → summary_at one t ≡ where_at (summary_after t s) (is_in t s.before) (summary_at old t))
    → ((t : Aaid) → summary_at two t ≡ where_at (summary_after t s) (is_in t s.after && not (is_in t s.before)) (summary_at one t)) → OnErr r (new ≡ two) → OnErr r (Untouched s old new)
untouched_by_second (Ok v) s old one two new first second same = tt
untouched_by_second (Err e) s old one two new first second same = λ t h.
    ap (λ es. summary_at es t) same ∙ after_second t s (summary_at one t) (summary_at two t) h (second t) ∙ after_first t s (summary_at old t) (summary_at one t) h (first t)

pub then_ok : {A E : Type 0} (r : Result A E) {P Q : Type 0} → (P → Q) → OnOk r P → OnOk r Q
then_ok (Ok v) f h = f h
then_ok (Err e) f h = h

pub then_err : {A E : Type 0} (r : Result A E) {P Q : Type 0} → (P → Q) → OnErr r P → OnErr r Q
then_err (Ok v) f h = h
then_err (Err e) f h = f h
