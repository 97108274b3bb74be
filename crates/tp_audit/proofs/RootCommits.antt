-- Where a node of a run logged Commit of a tree, the log of the root's site has a Commit of the root.
use Rattle.std.proofs.Common.{◌≡◌, ◌≤◌, ◌⊎◌, inl, inr, ℕ, zero, suc, Bool, true, false, refl, ap, sym, subst, ◌∙◌, arith, Option, Some, None, List, [], ◌∷◌, ◌++◌, ◌&&◌, ◌||◌, ◌==◌}
use Rattle.std.specs.Prelude.{reverse, if◌then◌else◌}
use Rattle.std.proofs.Math.Nat.{le_refl}
use Rattle.std.proofs.lemmas.Bool.Decides.{nat_tests}
use Rattle.std.proofs.lemmas.List.{reverse-append}
use Rattle.tp_names.specs.declared.identifiers.Aaid.{Aaid}
use Rattle.tp_names.specs.declared.identifiers.Addr.{Addr}
use Rattle.tp_names.specs.Same.{is_name, is_aaid}
use Rattle.tp_names.proofs.Sames.{both, aaid_same, aaid_self, name_same, name_self}
use Rattle.tp_logrec.specs.declared.record.LogRec.{LogRec}
use Rattle.tp_model.specs.Parts.{Origin, Entry}
use Rattle.tp_model.specs.Events.{action}
use Rattle.tp_model.specs.History.{digest, records}
use Rattle.tp_model.specs.NodeRun.{is_record_at, records_at}
use Rattle.tp_model.specs.Outcomes.{is_member, is_commit_of, has_commit_of, decided}
use Rattle.tp_model.specs.World.{World, Node, Site, number_of, site_of, find_node, find_site}
use Rattle.tp_model.specs.Happenings.{Happening, run}
use Rattle.tp_model.specs.Promises.{IsIn, IsOf, is_root, has_record, has_logged}
use Rattle.tp_model.specs.Legal.{IsGrown}
use Rattle.tp_steps.specs.Moves.{prelude}
use Rattle.tp_steps.specs.Trees.{commits_tree}
use Rattle.tp_steps.proofs.lemmas.Equality.{or_case}
use Rattle.tp_histories.proofs.trees.Late.{late_law, late_prelude}
use Rattle.tp_histories.proofs.trees.Knowing.{now_prelude, treed_event}
use Rattle.tp_histories.proofs.trees.Behind.{commit_case, commit_logged}
use Rattle.tp_histories.proofs.worlds.Good.{good_run}
use Rattle.tp_runs.proofs.Hanging.{staying_event, member_head, hangs}
use Rattle.tp_runs.proofs.Family.{commits_up}
use Rattle.tp_agreement.proofs.Agreed.{less, no_less, rank}
use Rattle.tp_agreement.proofs.Logs.{later_member}
use Rattle.tp_site_logs.specs.SiteLogs.{log_of, forced_by}
use Rattle.tp_site_logs.proofs.EveryLog.{run_tells, disks_tell}
use Rattle.tp_site_logs.proofs.Places.{find_name}
use Rattle.tp_audit.specs.Roots.{tree_committed, is_root_commit}

-- ---- what logged Commit is in the tree

decided_member : (o : Origin) (up : Option Addr) (h : List Entry) (t : Aaid) → o.start.records ≡ [] → IsGrown o up h → decided o t h ≡ true → is_member o t h ≡ true
decided_member o up [] t empty legal c = absurd (cc (empty, c))
decided_member o up (e ∷ h) t empty legal c = go (commit_case t e.rec (records o h) c) (decided_member o up h t empty legal.3)
  where
    go : (commits_tree t e.rec ≡ true) ⊎ (has_commit_of t (records o h) ≡ true) → (decided o t h ≡ true → is_member o t h ≡ true) → is_member o t (e ∷ h) ≡ true
    go (inr i) rest = later_member o t e h (rest i)
    go (inl i) rest =
        let late = late_law o up h legal.3 in
        let w = commit_logged t (prelude o.who (digest o h) e.event) (action o.who (digest o h) e.event).rec (treed_event o.who (digest o h) e.event t 0 late legal.0).logs (ap (λ (f : Entry). commits_tree t f.rec) legal.1 ∙ i) in
        elim (now_prelude o.who (digest o h) e.event t legal.0 w.now) [
          | inl j ↦ later_member o t e h (member_head o t h j)
          | inr j ↦ member_head o t (e ∷ h) ((staying_event o.who (digest o h) e.event t 0 late legal.0).stays (late_prelude o.who (digest o h) e.event late) w.now (inr j))
        ]

commit_record : (t : Aaid) (rs : List LogRec) → has_record (is_commit_of t) rs ≡ true → has_commit_of t rs ≡ true
commit_record t [] h = h
commit_record t (r ∷ rs) h = elim (or_case (is_commit_of t r) (has_record (is_commit_of t) rs) h) [
  | inl i ↦ rw i refl
  | inr i ↦ (let k = commit_record t rs i in rw k (grind arith))
]

record_commit : (t : Aaid) (rs : List LogRec) → has_commit_of t rs ≡ true → has_record (is_commit_of t) rs ≡ true
record_commit t [] h = h
record_commit t (r ∷ rs) h = elim (or_case (is_commit_of t r) (has_commit_of t rs) h) [
  | inl i ↦ rw i refl
  | inr i ↦ (let k = record_commit t rs i in rw k (grind arith))
]

-- ---- up to the root

record CommittedRoot (es : List Happening) (t : Aaid) : Type 0 where
  node : Node
  of : IsOf (run es) t node
  root : is_root t node ≡ true
  commits : decided node.origin t node.history ≡ true

committed_root : (es : List Happening) (t : Aaid) (k : ℕ) (y : Node) (b : Bool) → is_root t y ≡ b → rank es y ≤ k → IsOf (run es) t y → decided y.origin t y.history ≡ true → CommittedRoot es t
committed_root es t k y true i le of c = record { node = y; of = of; root = i; commits = c }
committed_root es t zero y false i le of c = let u = hangs es t y of i in absurd (no_less (rank es u.superior) (rank es y) u.before le)
committed_root es t (suc k) y false i le of c =
    let u = hangs es t y of i in
    committed_root es t k u.superior (is_root t u.superior) refl (less (rank es u.superior) (rank es y) k u.before le) u.branch.superior (commits_up es t u.id u.superior y u.branch c)

-- ---- on its disk

has_later : (p : LogRec → Bool) (rs : List LogRec) (r : LogRec) → p r ≡ true → has_record p (rs ++ r ∷ []) ≡ true
has_later p [] r h = rw h refl
has_later p (q ∷ rs) r h = let k = has_later p rs r h in rw k (grind arith)

has_front : (p : LogRec → Bool) (rs : List LogRec) (r : LogRec) → has_record p rs ≡ true → has_record p (rs ++ r ∷ []) ≡ true
has_front p [] r h = absurd (cc h)
has_front p (q ∷ rs) r h = elim (or_case (p q) (has_record p rs) h) [
  | inl i ↦ rw i refl
  | inr i ↦ (let k = has_front p rs r i in rw k (grind arith))
]

reversed : (p : LogRec → Bool) (rs : List LogRec) → has_record p rs ≡ true → has_record p (reverse rs) ≡ true
reversed p [] h = h
reversed p (r ∷ rs) h = subst (λ qs. has_record p qs ≡ true) (sym (reverse-append (r ∷ []) rs)) (elim (or_case (p r) (has_record p rs) h) [
  | inl i ↦ has_later p (reverse rs) r i
  | inr i ↦ has_front p (reverse rs) r (reversed p rs i)
])

-- a Commit of the tree under the root's number
at_root : (t : Aaid) (r : LogRec) → is_record_at t.mark.node r ≡ true → is_commit_of t r ≡ true → is_root_commit t r ≡ true
at_root t (LogRec.Boot n) at is = absurd (cc is)
at_root t (LogRec.Ready n k a cs) at is = absurd (cc is)
at_root t (LogRec.Heuristic n k o) at is = absurd (cc is)
at_root t (LogRec.Commit n k a cs) at is =
    let number : (n == k.aaid.mark.node) ≡ true = ap (λ (u : Aaid). n == u.mark.node) (sym (aaid_same t k.aaid is)) ∙ at in
    ap (λ (b : Bool). elim (elim b as (λ _. Option Aaid) [ true ↦ Some k.aaid | false ↦ None ]) as (λ _. Bool) [ None ↦ false | Some u ↦ is_aaid u t ]) number
    ∙ ap (λ (u : Aaid). is_aaid u t) (sym (aaid_same t k.aaid is)) ∙ aaid_self t
at_root t (LogRec.Damage n k a o q cs) at is = absurd (cc is)
at_root t (LogRec.End n k o) at is = absurd (cc is)

from_number : (t : Aaid) (rs : List LogRec) → has_record (is_commit_of t) (records_at t.mark.node rs) ≡ true → has_record (is_root_commit t) rs ≡ true
from_number t [] h = h
from_number t (r ∷ rs) h = go (is_record_at t.mark.node r) refl h (from_number t rs)
  where
    go : (b : Bool) → is_record_at t.mark.node r ≡ b → has_record (is_commit_of t) (elim b as (λ _. List LogRec) [ true ↦ r ∷ records_at t.mark.node rs | false ↦ records_at t.mark.node rs ]) ≡ true
        → (has_record (is_commit_of t) (records_at t.mark.node rs) ≡ true → has_record (is_root_commit t) rs ≡ true) → has_record (is_root_commit t) (r ∷ rs) ≡ true
    go true i k rest = elim (or_case (is_commit_of t r) (has_record (is_commit_of t) (records_at t.mark.node rs)) k) [
      | inl j ↦ (let here = at_root t r i j in rw here refl)
      | inr j ↦ (let there = rest j in rw there (grind arith))
    ]
    go false i k rest = let there = rest k in rw there (grind arith)

pub roots_commit : (es : List Happening) (t : Aaid) (y : Node) → IsIn (run es) y → has_logged (is_commit_of t) y ≡ true
    → (x : Site) × (find_site (run es).sites t.owner ≡ Some x) × (has_record (is_root_commit t) (log_of x) ≡ true)
roots_commit es t y here logged = (x.0, owner_site, from_number t (log_of x.0) (subst (λ (rs : List LogRec). has_record (is_commit_of t) rs ≡ true) (sym own) (reversed (is_commit_of t) (records r.node.origin r.node.history) (record_commit t (records r.node.origin r.node.history) r.commits))))
  where
    commits : decided y.origin t y.history ≡ true
    commits = commit_record t (records y.origin y.history) logged

    r : CommittedRoot es t
    r = committed_root es t (rank es y) y (is_root t y) refl (le_refl (rank es y))
        (record { here = here; of_tree = decided_member y.origin y.superior y.history t ((good_run es).fresh (number_of y) y here) ((good_run es).legal (number_of y) y here) commits }) commits

    root : (is_name t.owner (site_of r.node) ≡ true) × ((t.mark.node == number_of r.node) ≡ true)
    root = both (is_name t.owner (site_of r.node)) (t.mark.node == number_of r.node) r.root

    owner : t.owner ≡ site_of r.node
    owner = name_same t.owner (site_of r.node) root.0

    number : t.mark.node ≡ number_of r.node
    number = let k = root.1 in grind (arith, nat_tests, k)

    x : (x : Site) × (find_site (run es).sites (site_of r.node) ≡ Some x)
    x = (run_tells es).placed (number_of r.node) r.node r.of.here

    owner_site : find_site (run es).sites t.owner ≡ Some x.0
    owner_site = ap (find_site (run es).sites) owner ∙ x.1

    stands : is_name (site_of r.node) x.0.name ≡ true
    stands = ap (is_name (site_of r.node)) (find_name (run es).sites (site_of r.node) x.0 x.1) ∙ name_self (site_of r.node)

    own : records_at t.mark.node (log_of x.0) ≡ reverse (records r.node.origin r.node.history)
    own = (disks_tell es (site_of r.node) x.0 x.1).nodes t.mark.node ∙ ap (λ n. forced_by x.0.name (find_node (run es).nodes n)) number ∙ ap (forced_by x.0.name) r.of.here
        ∙ ap (λ b. if b then reverse (records r.node.origin r.node.history) else []) stands
