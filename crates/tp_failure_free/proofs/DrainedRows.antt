-- One superior of a drained tree: each branch that stands was begun, each that was begun stands, and the order goes out to each.
use Rattle.std.proofs.Common.{if◌then◌else◌, ◌≡◌, ◌⊎◌, inl, inr, ℕ, Bool, true, false, refl, ap, sym, subst, ◌∙◌, arith, Option, Some, None, List, [], ◌∷◌, ◌++◌, ◌==◌, reverse}
use Rattle.std.proofs.lemmas.Bool.Decides.{nat_tests}
use Rattle.tp_names.specs.declared.identifiers.Aaid.{Aaid}
use Rattle.tp_names.specs.declared.identifiers.BranchId.{BranchId}
use Rattle.tp_names.specs.declared.identifiers.Addr.{Addr}
use Rattle.tp_names.specs.declared.identifiers.Mark.{Mark}
use Rattle.tp_names.specs.declared.identifiers.NodeKey.{NodeKey}
use Rattle.tp_names.specs.declared.children.Child.{Child}
use Rattle.tp_names.specs.Same.{is_aaid, is_key}
use Rattle.tp_records.specs.declared.dialogue.DialogueRecord.{DialogueRecord}
use Rattle.tp_records.specs.declared.dialogue.Holder.{Holder}
use Rattle.tp_records.specs.declared.peer.PeerRecord.{PeerRecord}
use Rattle.tp_logrec.specs.declared.record.LogRec.{LogRec}
use Rattle.tp_model.specs.Parts.{Origin, Event, Out, Entry, Branch, Current, Digest}
use Rattle.tp_model.specs.Transactions.{aaid_of, node_key, child_of}
use Rattle.tp_model.specs.Events.{after_crash, action}
use Rattle.tp_model.specs.History.{digest, records}
use Rattle.tp_model.specs.Legal.{IsGrown, IsLegal, is_apart, are_apart}
use Rattle.tp_model.specs.Keys.{begins, begun_children, branches_in, named_children}
use Rattle.tp_model.specs.Questions.{is_crash}
use Rattle.tp_model.specs.Outcomes.{is_now, decided, has_commit_of}
use Rattle.tp_model.specs.Promises.{has_told_in, has_record, is_bound_of}
use Rattle.tp_histories.specs.Members.{is_known, IsOnce}
use Rattle.tp_histories.specs.Histories.{IsSentIn, HasSent}
use Rattle.tp_steps.specs.Moves.{prelude}
use Rattle.tp_steps.specs.Facts.{BranchKey, find_branch, key_at, is_order}
use Rattle.tp_steps.specs.Trees.{IsLoggedIn, commits_tree}
use Rattle.tp_steps.specs.Passages.{is_commit_rec}
use Rattle.tp_steps.specs.Upward.{Deeds}
use Rattle.tp_histories.specs.Undone.{are_settled, are_done}
use Rattle.tp_steps.specs.Heeding.{has_answered, has_ended}
use Rattle.tp_failure_free.specs.Drained.{IsUnfailed}
use Rattle.tp_failure_free.specs.DrainedWorlds.{HasBegun, says}
use Rattle.tp_steps.proofs.lemmas.Equality.{and_left, and_right, aaids_equal}
use Rattle.tp_histories.proofs.trees.Late.{late_law}
use Rattle.tp_histories.proofs.trees.Knowing.{treed_event, known_more, recovered_now}
use Rattle.tp_histories.proofs.worlds.TreeMembers.{sent_counts, sent_known, now_then}
use Rattle.tp_histories.proofs.trees.Behind.{commit_case}
use Rattle.tp_steps.proofs.log.KinTurns.{kin}
use Rattle.tp_runs.proofs.KnownBranches.{family_law}
use Rattle.tp_agreement.proofs.CountedBranch.{apart_peer}
use Rattle.tp_agreement.proofs.LeftDown.{Below, below_tail, accounts_of, key_branch}
use Rattle.tp_agreement.proofs.Accounts.{left_of}
use Rattle.tp_agreement.proofs.Marked.{Marked}
use Rattle.tp_agreement.proofs.VotedAt.{BoundNow, binds_tree, binding_event}
use Rattle.tp_runs.proofs.Bare.{bare_law}
use Rattle.tp_agreement.proofs.ReadyDown.{bound_begins, bound_tree}
use Rattle.tp_agreement.proofs.Bounds.{commit_bound}
use Rattle.tp_failure_free.proofs.Said.{says_commit}
use Rattle.tp_failure_free.proofs.LiveLaw.{unfailed_before, no_crash}
use Rattle.tp_failure_free.proofs.DrainedDones.{stands_there}
use Rattle.tp_failure_free.proofs.DrainedNode.{logs_plain, is_said, told_first, told_more}
use Rattle.tp_steps.proofs.log.Owned.{key_aaid}

-- ---- each branch was begun

abbrev HasChild : Addr → BranchId → List Child → Type 0
HasChild a b [] = ⊥
HasChild a b (c ∷ cs) = (c.addr ≡ a) × (c.branch ≡ b) ⊎ HasChild a b cs

kin_has : (bs : List Branch) (p : ℕ) (b : Branch) → find_branch bs p ≡ Some b → HasChild b.peer b.id (kin bs) × (b.peer.node ≡ p)
kin_has [] p b h = absurd (cc (h))
kin_has (x ∷ bs) p b h = go (x.peer.node == p) refl (kin_has bs p b)
  where
    go : (v : Bool) → (x.peer.node == p) ≡ v → (find_branch bs p ≡ Some b → HasChild b.peer b.id (kin bs) × (b.peer.node ≡ p)) → HasChild b.peer b.id (kin (x ∷ bs)) × (b.peer.node ≡ p)
    go true i rest =
        let one : Some x ≡ Some b = rw i at h in
        let same : x ≡ b = cc (one) in
        let at : x.peer.node ≡ p = grind (arith, nat_tests, i) in
        (inl (ap (λ (v : Branch). v.peer) same, ap (λ (v : Branch). v.id) same), ap (λ (v : Branch). v.peer.node) (sym same) ∙ at)
    go false i rest = let r = rest (rw i at h) in (inr r.0, r.1)

has_split : (a : Addr) (b : BranchId) (xs ys : List Child) → HasChild a b (xs ++ ys) → HasChild a b xs ⊎ HasChild a b ys
has_split a b [] ys h = inr h
has_split a b (c ∷ xs) ys (inl h) = inl (inl h)
has_split a b (c ∷ xs) ys (inr h) = elim (has_split a b xs ys h) [ inl i ↦ inl (inr i) | inr i ↦ inr i ]

abbrev SentOne : Addr → Aaid → BranchId → (Addr → PeerRecord → Type 0) → Type 0
SentOne a t b P = (x : Mark) × (y : Mark) × (q : ℕ) × (i : Holder) × P a (PeerRecord.OnAssoc x y q (DialogueRecord.Begin t b i))

child_sent : (t : Aaid) (a : Addr) (b : BranchId) (outs : List Out) → HasChild a b (begun_children t outs) → SentOne a t b (IsSentIn outs)
child_sent t a b [] h = absurd h
child_sent t a b (Out.Tell i ∷ outs) h = child_sent t a b outs h
child_sent t a b (Out.Send c (PeerRecord.OnAssoc x y q (DialogueRecord.Begin u d k)) ∷ outs) h = go (is_aaid t u) refl h (child_sent t a b outs)
  where
    word : (c a : Addr) (u t : Aaid) (d b : BranchId) → c ≡ a → u ≡ t → d ≡ b → (c ≡ a) × (PeerRecord.OnAssoc x y q (DialogueRecord.Begin u d k) ≡ PeerRecord.OnAssoc x y q (DialogueRecord.Begin t b k))
    word c a u t d b l m n = (l, rw (m, n) refl)

    later : SentOne a t b (IsSentIn outs) → SentOne a t b (IsSentIn (Out.Send c (PeerRecord.OnAssoc x y q (DialogueRecord.Begin u d k)) ∷ outs))
    later r = (r.0, r.1, r.2, r.3, inr r.4)

    go : (v : Bool) → is_aaid t u ≡ v → HasChild a b (if v then record { addr = c; branch = d } ∷ begun_children t outs else begun_children t outs) → (HasChild a b (begun_children t outs) → SentOne a t b (IsSentIn outs))
        → SentOne a t b (IsSentIn (Out.Send c (PeerRecord.OnAssoc x y q (DialogueRecord.Begin u d k)) ∷ outs))
    go false i m rest = later (rest m)
    go true i (inr m) rest = later (rest m)
    go true i (inl m) rest = (x, y, q, k, inl (word c a u t d b m.0 (sym (aaids_equal t u i)) m.1))
child_sent t a b (Out.Send c _ ∷ outs) h = let k = child_sent t a b outs h in (k.0, k.1, k.2, k.3, inr k.4)

-- who is named by the log, or was begun, is of a tree that is known
named_bound : (k : NodeKey) (a : Addr) (b : BranchId) (rs : List LogRec) → HasChild a b (named_children k rs) → has_record (is_bound_of k.aaid) rs ≡ true
named_bound k a b [] m = absurd m
named_bound k a b (LogRec.Boot n ∷ rs) m = named_bound k a b rs m
named_bound k a b (LogRec.Ready n j s cs ∷ rs) m = go (is_key k j) refl m (named_bound k a b rs)
  where
    go : (v : Bool) → is_key k j ≡ v → HasChild a b (if v then cs else named_children k rs) → (HasChild a b (named_children k rs) → has_record (is_bound_of k.aaid) rs ≡ true) → has_record (is_bound_of k.aaid) (LogRec.Ready n j s cs ∷ rs) ≡ true
    go true i m rest = let same : is_aaid k.aaid j.aaid ≡ true = grind (arith, i) in rw same refl
    go false i m rest = let r = rest m in rw r (grind arith)
named_bound k a b (LogRec.Heuristic n j u ∷ rs) m = named_bound k a b rs m
named_bound k a b (LogRec.Commit n j s cs ∷ rs) m = go (is_key k j) refl m (named_bound k a b rs)
  where
    go : (v : Bool) → is_key k j ≡ v → HasChild a b (if v then cs else named_children k rs) → (HasChild a b (named_children k rs) → has_record (is_bound_of k.aaid) rs ≡ true) → has_record (is_bound_of k.aaid) (LogRec.Commit n j s cs ∷ rs) ≡ true
    go true i m rest = let same : is_aaid k.aaid j.aaid ≡ true = grind (arith, i) in rw same refl
    go false i m rest = let r = rest m in rw r (grind arith)
named_bound k a b (LogRec.Damage n j s u r cs ∷ rs) m = named_bound k a b rs m
named_bound k a b (LogRec.End n j u ∷ rs) m = named_bound k a b rs m

-- what the history's branches are after an entry
branches_case : (o : Origin) (k : NodeKey) (a : Addr) (b : BranchId) (e : Entry) (h : List Entry) → HasChild a b (branches_in o k (e ∷ h))
    → (is_crash e.event ≡ true) × HasChild a b (named_children k (records o (e ∷ h))) ⊎ HasChild a b (begun_children k.aaid e.outs) ⊎ HasChild a b (branches_in o k h)
branches_case o k a b e h m = go (is_crash e.event) refl (begins o k e h) refl
  where
    go : (v : Bool) → is_crash e.event ≡ v → (w : Bool) → begins o k e h ≡ w → (is_crash e.event ≡ true) × HasChild a b (named_children k (records o (e ∷ h))) ⊎ HasChild a b (begun_children k.aaid e.outs) ⊎ HasChild a b (branches_in o k h)
    go true i w j = let one : branches_in o k (e ∷ h) ≡ named_children k (records o (e ∷ h)) = rw (i, branches_in) refl in inl (i, subst (λ (cs : List Child). HasChild a b cs) one m)
    go false i true j = let one : branches_in o k (e ∷ h) ≡ begun_children k.aaid e.outs = rw (i, j, branches_in) refl in inr (inl (subst (λ (cs : List Child). HasChild a b cs) one m))
    go false i false j =
        let one : branches_in o k (e ∷ h) ≡ branches_in o k h ++ begun_children k.aaid e.outs = rw (i, j, branches_in) refl in
        elim (has_split a b (branches_in o k h) (begun_children k.aaid e.outs) (subst (λ (cs : List Child). HasChild a b cs) one m)) [ inl x ↦ inr (inr x) | inr x ↦ inr (inl x) ]

known_child : (o : Origin) (up : Option Addr) (h : List Entry) (k : NodeKey) (a : Addr) (b : BranchId) → o.start.records ≡ [] → IsGrown o up h → IsOnce o h → HasChild a b (branches_in o k h) → is_known o k.aaid h ≡ true
known_child o up [] k a b empty legal once m = absurd (subst (λ (rs : List LogRec). HasChild a b (named_children k (reverse rs))) empty m)
known_child o up (e ∷ h) k a b empty legal once m = go (branches_case o k a b e h m) (known_child o up h k a b empty legal.3 once.1)
  where
    go : (is_crash e.event ≡ true) × HasChild a b (named_children k (records o (e ∷ h))) ⊎ HasChild a b (begun_children k.aaid e.outs) ⊎ HasChild a b (branches_in o k h) → (HasChild a b (branches_in o k h) → is_known o k.aaid h ≡ true)
        → is_known o k.aaid (e ∷ h) ≡ true
    go (inl x) rest = (bare_law o up (e ∷ h) k.aaid empty legal once).known (bound_tree k.aaid (records o (e ∷ h)) (named_bound k a b (records o (e ∷ h)) x.1))
    go (inr (inl x)) rest = let r = child_sent k.aaid a b e.outs x in sent_known o up (e ∷ h) a r.0 r.1 r.2 k.aaid b r.3 empty legal (inl r.4)
    go (inr (inr x)) rest = known_more o up e h k.aaid legal (rest x)

-- while a tree in which nothing failed is current, its node has not stopped
no_stop : (t : Aaid) (o : Origin) (up : Option Addr) (e : Entry) (h : List Entry) → IsUnfailed t o up (e ∷ h) → is_now t (digest o (e ∷ h)).current ≡ true → is_crash e.event ≡ true → ⊥
unfolding after_crash
no_stop t o up e h u now crash = go e.event refl crash
  where
    go : (f : Event) → e.event ≡ f → is_crash f ≡ true → ⊥
    go Event.Crash i c =
        let before : is_now t (digest o h).current ≡ true = recovered_now t (digest o h).current (ap (λ (v : Event). is_now t (action o.who (digest o h) v).next.current) (sym i) ∙ now) in
        no_crash t o up e h u before i
    go f i c = absurd (cc (c))

begun_among : (o : Origin) (up : Option Addr) (h : List Entry) (k : NodeKey) (a : Addr) (b : BranchId) → IsUnfailed k.aaid o up h → is_now k.aaid (digest o h).current ≡ true → HasChild a b (branches_in o k h) → SentOne a k.aaid b (HasSent h)
begun_among o up [] k a b u now m = absurd (subst (λ (rs : List LogRec). HasChild a b (named_children k (reverse rs))) u.fresh m)
begun_among o up (e ∷ h) k a b u now m = go (branches_case o k a b e h m) (begun_among o up h k a b (unfailed_before k.aaid o up e h u).1)
  where
    go : (is_crash e.event ≡ true) × HasChild a b (named_children k (records o (e ∷ h))) ⊎ HasChild a b (begun_children k.aaid e.outs) ⊎ HasChild a b (branches_in o k h)
        → (is_now k.aaid (digest o h).current ≡ true → HasChild a b (branches_in o k h) → SentOne a k.aaid b (HasSent h)) → SentOne a k.aaid b (HasSent (e ∷ h))
    go (inl x) rest = absurd (no_stop k.aaid o up e h u now x.0)
    go (inr (inl x)) rest = let r = child_sent k.aaid a b e.outs x in (r.0, r.1, r.2, r.3, inl r.4)
    go (inr (inr x)) rest =
        let before = now_then o up e h k.aaid u.fresh u.grown u.once (known_child o up h k a b u.fresh u.grown.3 u.once.1 x) now in
        let r = rest before x in
        (r.0, r.1, r.2, r.3, inr r.4)

pub row_begun : (t : Aaid) (o : Origin) (up : Option Addr) (h : List Entry) (c : Current) (p : ℕ) (b : Branch) → IsLegal o up h → IsUnfailed t o up h → (digest o h).current ≡ Some c → is_aaid t (aaid_of c.key) ≡ true → find_branch c.branches p ≡ Some b
    → HasBegun h p (aaid_of c.key) b.id
row_begun t o up h c p b legal u at tree found =
    let m = kin_has c.branches p b found in
    let same : t ≡ (node_key c.key).aaid = aaids_equal t (aaid_of c.key) tree ∙ sym (key_aaid c.key) in
    let here : is_now t (digest o h).current ≡ true = ap (is_now t) at ∙ tree in
    let r = begun_among o up h (node_key c.key) b.peer b.id (subst (λ (v : Aaid). IsUnfailed v o up h) same u) (subst (λ (v : Aaid). is_now v (digest o h).current ≡ true) same here) (subst (λ (cs : List Child). HasChild b.peer b.id cs) (family_law o up h legal c at).0 m.0) in
    (b.peer, r.0, r.1, r.2, r.3, m.1, subst (λ (v : Aaid). HasSent h b.peer (PeerRecord.OnAssoc r.0 r.1 r.2 (DialogueRecord.Begin v b.id r.3))) (key_aaid c.key) r.4)

-- ---- the branch that stands with a peer

pub row_of : (c : Current) (p : ℕ) (t : Aaid) (b : BranchId) → key_at (Some c) p ≡ Some (t, b) → (v : Branch) × (find_branch c.branches p ≡ Some v) × (v.id ≡ b)
row_of c p t b k = let v = key_branch c p (t, b) k in (v.0, v.1, ap (λ (j : BranchKey). j.1) (sym v.2))

-- a tree that is committed begins no branch any more
pub begun_by_then : (o : Origin) (up : Option Addr) (e : Entry) (h : List Entry) (a : Addr) (x y : Mark) (q : ℕ) (t : Aaid) (b : BranchId) (i : Holder) → IsUnfailed t o up (e ∷ h) → decided o t h ≡ true
    → HasSent (e ∷ h) a (PeerRecord.OnAssoc x y q (DialogueRecord.Begin t b i)) → HasSent h a (PeerRecord.OnAssoc x y q (DialogueRecord.Begin t b i))
begun_by_then o up e h a x y q t b i u done (inr m) = m
begun_by_then o up e h a x y q t b i u done (inl m) =
    absurd (bound_begins o up e h a t u.fresh u.grown u.once (inr (commit_bound t (records o h) done))
    (sent_counts t a.node (action o.who (digest o h) e.event).outs a x y q b i refl (subst (λ (f : Entry). IsSentIn f.outs a (PeerRecord.OnAssoc x y q (DialogueRecord.Begin t b i))) (sym u.grown.1) m)))

-- ---- all branches

-- the branches after the first are found as they were
pub later_found : (x : Branch) (bs : List Branch) (p : ℕ) (b : Branch) → are_apart (kin (x ∷ bs)) ≡ true → find_branch bs p ≡ Some b → find_branch (x ∷ bs) p ≡ Some b
later_found x bs p b apart h = go (x.peer.node == p) refl
  where
    go : (v : Bool) → (x.peer.node == p) ≡ v → find_branch (x ∷ bs) p ≡ Some b
    go true i = absurd (apart_peer (child_of x) bs p b (and_left (is_apart (child_of x) (kin bs)) (are_apart (kin bs)) apart) h i)
    go false i = rw i h

pub first_found : (x : Branch) (bs : List Branch) → find_branch (x ∷ bs) x.peer.node ≡ Some x
first_found x bs = let self : (x.peer.node == x.peer.node) ≡ true = grind (arith, nat_tests) in rw self refl

pub all_settled_at : (bs : List Branch) → are_apart (kin bs) ≡ true → ((p : ℕ) (b : Branch) → find_branch bs p ≡ Some b → has_answered b ≡ true) → are_settled bs ≡ true
all_settled_at [] apart h = refl
all_settled_at (x ∷ bs) apart h =
    let here : has_answered x ≡ true = h x.peer.node x (first_found x bs) in
    let rest : are_settled bs ≡ true = all_settled_at bs (and_right (is_apart (child_of x) (kin bs)) (are_apart (kin bs)) apart) (λ p b f. h p b (later_found x bs p b apart f)) in
    rw (here, rest) refl

pub all_done_at : (bs : List Branch) → are_apart (kin bs) ≡ true → ((p : ℕ) (b : Branch) → find_branch bs p ≡ Some b → has_ended b ≡ true) → are_done bs ≡ true
all_done_at [] apart h = refl
all_done_at (x ∷ bs) apart h =
    let here : has_ended x ≡ true = h x.peer.node x (first_found x bs) in
    let rest : are_done bs ≡ true = all_done_at bs (and_right (is_apart (child_of x) (kin bs)) (are_apart (kin bs)) apart) (λ p b f. h p b (later_found x bs p b apart f)) in
    rw (rest) (grind (arith, here))

-- ---- the order goes out to each branch that has not left

commit_in : (t : Aaid) (s : Digest) (r : Option LogRec) → IsLoggedIn t s r → commits_tree t r ≡ true → (is_commit_rec r ≡ true) × (binds_tree t r ≡ true) × (c : Current) × (s.current ≡ Some c) × (is_aaid t (aaid_of c.key) ≡ true)
commit_in t s (Some (LogRec.Commit n k a cs)) l h =
    let c = l h in
    (refl, h, c.0, c.1, ap (is_aaid t) (sym (key_aaid c.0.key) ∙ ap (λ (j : NodeKey). j.aaid) (sym c.2)) ∙ h)
commit_in t s _ l h = absurd (cc (h))

none_commit : (t : Aaid) (r : Option LogRec) → commits_tree t r ≡ true → r ≡ None → ⊥
none_commit t r h is = absurd (cc (ap (commits_tree t) is, h))

pub order_down : (o : Origin) (up : Option Addr) (g : Deeds) (rs : List LogRec) (t : Aaid) (a : Addr) (x y : Mark) (q : ℕ) (b : BranchId) (i : Holder) (h : List Entry) → IsUnfailed t o up h → Below o up a.node g rs h → g.left t ≡ false
    → HasSent h a (PeerRecord.OnAssoc x y q (DialogueRecord.Begin t b i)) → decided o t h ≡ true → has_told_in (says a.node is_order) o t h ≡ true
order_down o up g rs t a x y q b i [] u below stays s done = absurd s
order_down o up g rs t a x y q b i (e ∷ h) u below stays s done = go (commit_case t e.rec (records o h) done) (order_down o up g rs t a x y q b i h (unfailed_before t o up e h u).1 (below_tail o up a.node g rs e h below) stays)
  where
    d : Digest
    d = digest o h

    recs : (action o.who d e.event).rec ≡ e.rec
    recs = ap (λ (v : Entry). v.rec) u.grown.1

    new : commits_tree t e.rec ≡ true → has_told_in (says a.node is_order) o t (e ∷ h) ≡ true
    new m = told_first (says a.node is_order) o t e h (ap (is_now t) at ∙ w.4) (is_said o h e a.node DialogueRecord.Commit is_order (says_commit t o up h e u w.0 (ap (is_now t) at ∙ w.4) now.0 v.0 a.node now.1 v.1 (unleft v.0.left refl)) refl)
      where
        logs : IsLoggedIn t (prelude o.who d e.event) e.rec
        logs = subst (λ (r : Option LogRec). IsLoggedIn t (prelude o.who d e.event) r) recs (treed_event o.who d e.event t 0 (late_law o up h u.grown.3) u.grown.0).logs

        w : (is_commit_rec e.rec ≡ true) × (binds_tree t e.rec ≡ true) × (c : Current) × ((prelude o.who d e.event).current ≡ Some c) × (is_aaid t (aaid_of c.key) ≡ true)
        w = commit_in t (prelude o.who d e.event) e.rec logs m

        at : d.current ≡ Some w.2
        at = sym (logs_plain o up e h u.grown (none_commit t e.rec m)) ∙ w.3

        now : BoundNow t (digest o (e ∷ h))
        now = (binding_event o.who d e.event t (late_law o up h u.grown.3) u.grown.0).rec (ap (binds_tree t) recs ∙ w.1)

        v : (z : Branch) × (find_branch now.0.branches a.node ≡ Some z) × (z.id ≡ b)
        v = row_of now.0 a.node t b (ap (λ (z : Option Current). key_at z a.node) (sym now.1) ∙ stands_there o up (e ∷ h) a x y q t b i u s (ap (is_now t) now.1 ∙ now.2))

        unleft : (k : Bool) → v.0.left ≡ k → v.0.left ≡ false
        unleft false j = j
        unleft true j =
            let m : Marked left_of (digest o (e ∷ h)).current a.node (aaid_of now.0.key, v.0.id) = record { current = now.0; branch = v.0; at = now.1; found = v.1; is = j; key = refl } in
            let gone = (accounts_of o up a.node g rs (e ∷ h) below).left (aaid_of now.0.key, v.0.id) m in
            absurd (cc (stays, ap g.left (aaids_equal t (aaid_of now.0.key) now.2) ∙ gone))

    go : (commits_tree t e.rec ≡ true) ⊎ (has_commit_of t (records o h) ≡ true) → (HasSent h a (PeerRecord.OnAssoc x y q (DialogueRecord.Begin t b i)) → decided o t h ≡ true → has_told_in (says a.node is_order) o t h ≡ true) → has_told_in (says a.node is_order) o t (e ∷ h) ≡ true
    go (inl m) rest = new m
    go (inr m) rest = told_more (says a.node is_order) o t e h (rest (begun_by_then o up e h a x y q t b i u m s) m)
