-- A superior that answers a ready branch that it knows of nothing has rolled.
use Rattle.std.proofs.Common.{◌≡◌, inl, inr, ℕ, Bool, true, false, refl, ap, sym, subst, ◌∙◌, arith, Option, Some, None, List, [], ◌∷◌, ◌&&◌, ◌==◌}
use Rattle.std.proofs.lemmas.Bool.Decides.{nat_tests}
use Rattle.tp_names.specs.declared.identifiers.Aaid.{Aaid}
use Rattle.tp_names.specs.declared.identifiers.BranchId.{BranchId}
use Rattle.tp_names.specs.declared.identifiers.NodeKey.{NodeKey}
use Rattle.tp_names.specs.declared.identifiers.Addr.{Addr}
use Rattle.tp_names.specs.declared.identifiers.Mark.{Mark}
use Rattle.tp_names.specs.declared.outcome.Outcome.{Outcome}
use Rattle.tp_names.specs.declared.outcome.Report.{Report}
use Rattle.tp_names.specs.Same.{is_aaid, is_branch, is_key}
use Rattle.tp_records.specs.declared.dialogue.DialogueRecord.{DialogueRecord}
use Rattle.tp_records.specs.declared.dialogue.Holder.{Holder}
use Rattle.tp_records.specs.declared.peer.PeerRecord.{PeerRecord}
use Rattle.tp_records.specs.declared.peer.RecState.{RecState}
use Rattle.tp_logrec.specs.declared.record.LogRec.{LogRec}
use Rattle.tp_model.specs.declared.arc.Phase.{Phase}
use Rattle.tp_model.specs.declared.recovery.Kept.{Kept}
use Rattle.tp_model.specs.declared.recovery.Known.{Known}
use Rattle.tp_model.specs.declared.recovery.Question.{Question}
use Rattle.tp_model.specs.Parts.{Origin, Event, Entry, Key, Root, Under, Branch, Current, Digest}
use Rattle.tp_model.specs.Dialogues.{is_nil, is_committing}
use Rattle.tp_model.specs.Transactions.{aaid_of, node_key}
use Rattle.tp_model.specs.Recovery.{is_commit, is_kept_commit, find_owed, find_kept, recovery_answer}
use Rattle.tp_model.specs.Arrivals.{Named, branch_key, current_with, named_by_key, find_branch_by_id, is_branch_of, kept_owing, kept_of, current_of, key_of_kept, key_of_branch, named_by_branch, known_of}
use Rattle.tp_model.specs.Node.{phase_of}
use Rattle.tp_model.specs.History.{digest}
use Rattle.tp_model.specs.Outcomes.{is_now, rolled}
use Rattle.tp_model.specs.Legal.{IsGrown}
use Rattle.tp_histories.specs.Histories.{HasSent, HasBrought}
use Rattle.tp_steps.specs.Moves.{keeps_commit, is_committed_in, IsLate}
use Rattle.tp_steps.specs.Facts.{find_branch}
use Rattle.tp_steps.specs.Upward.{Deeds}
use Rattle.tp_histories.specs.Members.{is_own, is_known, IsOnce}
use Rattle.tp_agreement.specs.Owing.{is_standing, RowOwes, KeptOwes, keeps_rollback}
use Rattle.tp_steps.proofs.lemmas.Equality.{aaids_equal}
use Rattle.tp_steps.proofs.log.ApartLog.{keys_equal}
use Rattle.tp_steps.proofs.log.TurnLog.{key_self}
use Rattle.tp_steps.proofs.words.Leaves.{aaid_same, branch_same}
use Rattle.tp_steps.proofs.log.Owned.{key_aaid, found_kept, branch_tree}
use Rattle.tp_steps.proofs.every.EveryEvent.{named_current}
use Rattle.tp_histories.proofs.trees.Late.{late_law}
use Rattle.tp_steps.proofs.branches.Rolls.{phase_at}
use Rattle.tp_steps.proofs.words.Treed.{now_some}
use Rattle.tp_histories.proofs.trees.Knowing.{known_more}
use Rattle.tp_histories.proofs.worlds.TreeMembers.{now_then}
use Rattle.tp_histories.proofs.trees.Fated.{fated_law}
use Rattle.tp_histories.proofs.trees.Above.{IsKeyOf, key_law}
use Rattle.tp_histories.proofs.pairs.Committed.{own_law}
use Rattle.tp_agreement.proofs.LeftDown.{Below, below_tail, left_sent}
use Rattle.tp_agreement.proofs.BelowRuns.{TookKey, later_key, current_took}
use Rattle.tp_agreement.proofs.OwingMoves.{stands_back, found_key}
use Rattle.tp_agreement.proofs.OwingLaw.{Owed, Still_owed, Has_gone, Has_done, Was_told, Had_rolled, Had_left, owed_law, back_rolled, AnsweredUnknown, AnsweredDone}
use Rattle.tp_steps.proofs.lemmas.Options.{some_same}

-- ---- the Begin of a branch

-- it was sent to the node with that number
pub record SentTo (h : List Entry) (n : ℕ) (t : Aaid) (b : BranchId) : Type 0 where
  pub to : Addr
  pub x : Mark
  pub y : Mark
  pub seq : ℕ
  pub holder : Holder
  pub at : to.node ≡ n
  pub sent : HasSent h to (PeerRecord.OnAssoc x y seq (DialogueRecord.Begin t b holder))

-- who asks whether to commit was sent the Begin of its branch by then
abbrev pub AsksBegun : List Entry → Type 0
AsksBegun [] = Unit {0}
AsksBegun (e ∷ h) = ((a : Addr) (t : Aaid) (b : BranchId) → e.event ≡ Event.Arrive a (PeerRecord.RecReady t b) → SentTo h a.node t b) × AsksBegun h

-- ---- what is answered where the branch is owed

has_branch : (bs : List Branch) (p : ℕ) (b : BranchId) (v : Branch) → find_branch bs p ≡ Some v → v.id ≡ b → elim (find_branch_by_id bs b) as (λ _. Bool) [ None ↦ false | Some x ↦ true ] ≡ true
has_branch [] p b v h i = absurd (cc (h))
has_branch (x ∷ bs) p b v h i = go (x.peer.node == p) refl (is_branch x.id b) refl (has_branch bs p b v)
  where
    go : (k : Bool) → (x.peer.node == p) ≡ k → (l : Bool) → is_branch x.id b ≡ l → (find_branch bs p ≡ Some v → v.id ≡ b → elim (find_branch_by_id bs b) as (λ _. Bool) [ None ↦ false | Some x ↦ true ] ≡ true)
        → elim (find_branch_by_id (x ∷ bs) b) as (λ _. Bool) [ None ↦ false | Some x ↦ true ] ≡ true
    go k m true n rest = rw (n, find_branch_by_id) refl
    go true m false n rest =
        let one : Some x ≡ Some v = rw m at h in
        let same : x ≡ v = cc (one) in
        let own : is_branch x.id b ≡ true = ap (λ (i : BranchId). is_branch i b) (ap (λ (y : Branch). y.id) same ∙ i) ∙ branch_same b in
        absurd (cc (n, own))
    go false m false n rest = rw (n, find_branch_by_id) (rest (rw m at h) i)

same_tree : (t u : Aaid) → is_aaid t u ≡ true → is_aaid u t ≡ true
same_tree t u h = ap (λ (v : Aaid). is_aaid v t) (sym (aaids_equal t u h)) ∙ aaid_same t

standing_answer : (k : Known) → is_standing k.phase ≡ true → k.branch ≡ true → recovery_answer k Question.RecReady ≡ Some RecState.Unknown → ⊥
unfolding recovery_answer
standing_answer k h i a = absurd (grind (arith, h, i, a))

committing_answer : (k : Known) → is_committing k.phase ≡ true → recovery_answer k Question.RecReady ≡ Some RecState.Unknown → ⊥
unfolding recovery_answer
committing_answer k h a = absurd (grind (arith, h, a))

kept_answer : (k : Known) → is_kept_commit k.kept ≡ true → recovery_answer k Question.RecReady ≡ Some RecState.Unknown → ⊥
unfolding recovery_answer
kept_answer k h a = absurd (grind (arith, h, a))

pub done_answer : (k : Known) (r : Report) → is_nil k.phase ≡ false → recovery_answer k Question.RecCommit ≡ Some (RecState.Done r) → ⊥
unfolding recovery_answer
done_answer k r i h = absurd (grind (arith, i, h))

pub own_with : (d : Digest) (c : Current) → d.current ≡ Some c → current_with d (node_key c.key) ≡ Some c
own_with d c at = rw (at, current_with) (rw (key_self (node_key c.key)) refl)

pub current_found : (d : Digest) (t : Aaid) (c : Current) → d.current ≡ Some c → is_aaid (aaid_of c.key) t ≡ true → current_of d t ≡ Some c
current_found d t c at own = rw (at, current_of) (rw own refl)

row_answer : (d : Digest) (t : Aaid) (p : ℕ) (b : BranchId) → RowOwes t p b d.current → recovery_answer (known_of (named_by_branch d t b) b) Question.RecReady ≡ Some RecState.Unknown → ⊥
row_answer d t p b k h = standing_answer (known_of (named_by_branch d t b) b) (ap is_standing phase ∙ k.phase) branch h
  where
    c : Current
    c = k.current

    of_tree : current_of d t ≡ Some c
    of_tree = current_found d t c k.at (same_tree t (aaid_of c.key) k.tree)

    has : is_branch_of c b ≡ true
    has = has_branch c.branches p b k.branch k.found k.id

    key : key_of_branch d t b ≡ Some (node_key c.key)
    key = rw (of_tree, key_of_branch) (rw has refl)

    named : (named_by_branch d t b).current ≡ Some c
    named = ap (λ (o : Option NodeKey). (elim o as (λ _. Named) [ None ↦ record { current = None; kept = None } | Some z ↦ named_by_key d z ]).current) key ∙ own_with d c k.at

    phase : (known_of (named_by_branch d t b) b).phase ≡ c.phase
    phase = ap (λ (o : Option Current). elim o as (λ _. Phase) [ None ↦ Phase.Nil | Some x ↦ x.phase ]) named

    branch : (known_of (named_by_branch d t b) b).branch ≡ true
    branch = ap (λ (o : Option Current). elim o as (λ _. Bool) [ None ↦ false | Some x ↦ is_branch_of x b ]) named ∙ has

-- ---- what is answered where the commitment is kept

owing_stands : (ks : List Kept) (t : Aaid) (b : BranchId) (k : NodeKey) → kept_owing ks t b ≡ Some k → find_kept ks k ≡ None → ⊥
owing_stands [] t b k h i = cc (h)
owing_stands (x ∷ ks) t b k h i = go (is_aaid x.key.aaid t && elim (find_owed x.owed b) as (λ _. Bool) [ None ↦ false | Some c ↦ true ]) refl (is_key x.key k) refl (owing_stands ks t b k)
  where
    go : (v : Bool) → (is_aaid x.key.aaid t && elim (find_owed x.owed b) as (λ _. Bool) [ None ↦ false | Some c ↦ true ]) ≡ v → (w : Bool) → is_key x.key k ≡ w → (kept_owing ks t b ≡ Some k → find_kept ks k ≡ None → ⊥) → ⊥
    go v m true n rest = absurd (cc (rw (n, find_kept) at i))
    go true m false n rest =
        let one : Some x.key ≡ Some k = rw (m, kept_owing) at h in
        let same : x.key ≡ k = cc (one) in
        cc (n, ap (λ (j : NodeKey). is_key j k) same ∙ key_self k)
    go false m false n rest = rest (rw (m, kept_owing) at h) (rw (n, find_kept) at i)

tree_stands : (ks : List Kept) (t : Aaid) (k : NodeKey) → kept_of ks t ≡ Some k → find_kept ks k ≡ None → ⊥
tree_stands [] t k h i = cc (h)
tree_stands (x ∷ ks) t k h i = go (is_aaid x.key.aaid t) refl (is_key x.key k) refl (tree_stands ks t k)
  where
    go : (v : Bool) → is_aaid x.key.aaid t ≡ v → (w : Bool) → is_key x.key k ≡ w → (kept_of ks t ≡ Some k → find_kept ks k ≡ None → ⊥) → ⊥
    go v m true n rest = absurd (cc (rw (n, find_kept) at i))
    go true m false n rest =
        let one : Some x.key ≡ Some k = rw (m, kept_of) at h in
        let same : x.key ≡ k = cc (one) in
        cc (n, ap (λ (j : NodeKey). is_key j k) same ∙ key_self k)
    go false m false n rest = rest (rw (m, kept_of) at h) (rw (n, find_kept) at i)

tree_found : (ks : List Kept) (t : Aaid) (j : NodeKey) (x : Kept) → find_kept ks j ≡ Some x → is_aaid x.key.aaid t ≡ true → kept_of ks t ≡ None → ⊥
tree_found [] t j x h i n = cc (h)
tree_found (y ∷ ks) t j x h i n = go (is_aaid y.key.aaid t) refl (is_key y.key j) refl (tree_found ks t j x)
  where
    go : (v : Bool) → is_aaid y.key.aaid t ≡ v → (w : Bool) → is_key y.key j ≡ w → (find_kept ks j ≡ Some x → is_aaid x.key.aaid t ≡ true → kept_of ks t ≡ None → ⊥) → ⊥
    go true m w l rest = absurd (cc (rw (m, kept_of) at n))
    go false m true l rest =
        let one : Some y ≡ Some x = rw (l, find_kept) at h in
        let same : y ≡ x = cc (one) in
        cc (m, ap (λ (z : Kept). is_aaid z.key.aaid t) same ∙ i)
    go false m false l rest = rest (rw (l, find_kept) at h) i (rw (m, kept_of) at n)

current_is : (d : Digest) (t : Aaid) (c : Current) → current_of d t ≡ Some c → d.current ≡ Some c
current_is d t c h = go d.current refl
  where
    go : (o : Option Current) → d.current ≡ o → d.current ≡ Some c
    go None i = absurd (cc (rw (i, current_of) at h))
    go (Some x) i = on (is_aaid (aaid_of x.key) t) refl
      where
        on : (v : Bool) → is_aaid (aaid_of x.key) t ≡ v → d.current ≡ Some c
        on true j = let one : Some x ≡ Some c = rw (i, j, current_of) at h in i ∙ one
        on false j = absurd (cc (rw (i, j, current_of) at h))

of_kept : (d : Digest) (t : Aaid) (b : BranchId) (k : NodeKey) → key_of_kept d t b ≡ Some k → current_with d k ≡ None → find_kept d.kept k ≡ None → ⊥
of_kept d t b k h w n = go (kept_owing d.kept t b) refl (current_of d t) refl
  where
    go : (o : Option NodeKey) → kept_owing d.kept t b ≡ o → (c : Option Current) → current_of d t ≡ c → ⊥
    go (Some j) i c m = owing_stands d.kept t b k (i ∙ (rw (i, key_of_kept) at h)) n
    go None i (Some c) m =
        let same = some_same (node_key c.key) k (rw (i, m, key_of_kept) at h) in
        cc (w, ap (current_with d) (sym same) ∙ own_with d c (current_is d t c m))
    go None i None m = tree_stands d.kept t k (rw (i, m, key_of_kept) at h) n

key_stands : (d : Digest) (t : Aaid) (b : BranchId) (k : NodeKey) → key_of_branch d t b ≡ Some k → current_with d k ≡ None → find_kept d.kept k ≡ None → ⊥
key_stands d t b k h w n = go (current_of d t) refl
  where
    go : (c : Option Current) → current_of d t ≡ c → ⊥
    go None i = of_kept d t b k (rw (i, key_of_branch) at h) w n
    go (Some c) i = on (is_branch_of c b) refl
      where
        on : (v : Bool) → is_branch_of c b ≡ v → ⊥
        on true j =
            let same = some_same (node_key c.key) k (rw (i, j, key_of_branch) at h) in
            cc (w, ap (current_with d) (sym same) ∙ own_with d c (current_is d t c i))
        on false j = of_kept d t b k (rw (i, j, key_of_branch) at h) w n

some_kept_key : (d : Digest) (t : Aaid) (b : BranchId) (j : NodeKey) (x : Kept) → find_kept d.kept j ≡ Some x → is_aaid x.key.aaid t ≡ true → key_of_kept d t b ≡ None → ⊥
some_kept_key d t b j x found tree h = go (kept_owing d.kept t b) refl (current_of d t) refl
  where
    go : (o : Option NodeKey) → kept_owing d.kept t b ≡ o → (c : Option Current) → current_of d t ≡ c → ⊥
    go (Some k) i c m = absurd (cc (rw (i, key_of_kept) at h))
    go None i (Some c) m = absurd (cc (rw (i, m, key_of_kept) at h))
    go None i None m = tree_found d.kept t j x found tree (rw (i, m, key_of_kept) at h)

some_branch_key : (d : Digest) (t : Aaid) (b : BranchId) (j : NodeKey) (x : Kept) → find_kept d.kept j ≡ Some x → is_aaid x.key.aaid t ≡ true → key_of_branch d t b ≡ None → ⊥
some_branch_key d t b j x found tree h = go (current_of d t) refl
  where
    go : (c : Option Current) → current_of d t ≡ c → ⊥
    go None i = some_kept_key d t b j x found tree (rw (i, key_of_branch) at h)
    go (Some c) i = on (is_branch_of c b) refl
      where
        on : (v : Bool) → is_branch_of c b ≡ v → ⊥
        on true j = absurd (cc (rw (i, j, key_of_branch) at h))
        on false j = some_kept_key d t b _ x found tree (rw (i, j, key_of_branch) at h)

-- only a rollback that is kept beside it could be named
kept_unknown : (d : Digest) (t : Aaid) (p : ℕ) (b : BranchId) → KeptOwes t p b d.kept → (is_now t d.current ≡ true → is_committing (phase_of d) ≡ true) → recovery_answer (known_of (named_by_branch d t b) b) Question.RecReady ≡ Some RecState.Unknown → keeps_rollback t d.kept ≡ true
kept_unknown d t p b k committing h = go (key_of_branch d t b) refl
  where
    key : NodeKey → Type 0
    key j = recovery_answer (known_of (named_by_key d j) b) Question.RecReady ≡ Some RecState.Unknown

    at : (j : NodeKey) → is_aaid j.aaid t ≡ true → key_of_branch d t b ≡ Some j → key j → (c : Option Current) → current_with d j ≡ c → (x : Option Kept) → find_kept d.kept j ≡ x → keeps_rollback t d.kept ≡ true
    at j tree is a (Some c) i x m =
        let w = named_current d j c i in
        let same : node_key c.key ≡ j = keys_equal (node_key c.key) j w.1 in
        let own : is_aaid (aaid_of c.key) t ≡ true = ap (λ (u : Aaid). is_aaid u t) (sym (key_aaid c.key) ∙ ap (λ (y : NodeKey). y.aaid) same) ∙ tree in
        let n : is_now t d.current ≡ true = ap (is_now t) w.0 ∙ same_tree (aaid_of c.key) t own in
        let phase : (known_of (named_by_key d j) b).phase ≡ phase_of d = ap (λ (o : Option Current). elim o as (λ _. Phase) [ None ↦ Phase.Nil | Some x ↦ x.phase ]) i ∙ sym (phase_at d c w.0) in
        absurd (committing_answer (known_of (named_by_key d j) b) (ap is_committing phase ∙ committing n) a)
    at j tree is a None i (Some x) m = side (is_commit x.side) refl
      where
        side : (v : Bool) → is_commit x.side ≡ v → keeps_rollback t d.kept ≡ true
        side true n =
            let kept : is_kept_commit (known_of (named_by_key d j) b).kept ≡ true = ap (λ (o : Option Kept). is_kept_commit (elim o as (λ _. Option (Outcome × Report)) [ None ↦ None | Some y ↦ Some (y.side, y.report) ])) m ∙ n in
            absurd (kept_answer (known_of (named_by_key d j) b) kept a)
        side false n = stands_back t d.kept j x m n (same_tree x.key.aaid t (ap (λ (y : NodeKey). is_aaid y.aaid t) (found_key d.kept j x m) ∙ tree))
    at j tree is a None i None m = absurd (key_stands d t b j is i m)

    go : (o : Option NodeKey) → key_of_branch d t b ≡ o → keeps_rollback t d.kept ≡ true
    go None i = absurd (some_branch_key d t b k.key k.kept k.found (same_tree t k.kept.key.aaid k.tree) i)
    go (Some j) i =
        let a : recovery_answer (known_of (named_by_key d j) b) Question.RecReady ≡ Some RecState.Unknown = ap (λ (o : Option NodeKey). recovery_answer (known_of (elim o as (λ _. Named) [ None ↦ record { current = None; kept = None } | Some z ↦ named_by_key d z ]) b) Question.RecReady) (sym i) ∙ h in
        at j (branch_tree d t b j i) i a (current_with d j) refl (find_kept d.kept j) refl

-- ---- the superior's history

kept_commits : (t : Aaid) (p : ℕ) (b : BranchId) (d : Digest) → KeptOwes t p b d.kept → is_committed_in t d ≡ true
kept_commits t p b d k =
    let commits = k.commits in
    let tree = k.tree in
    let held : keeps_commit t d.kept ≡ true = found_kept d.kept k.key k.kept k.found t (rw (commits, tree) refl) in
    rw held (grind arith)

-- where the branch neither left nor is done, and told no Done, an answer that it knows of nothing tells that it rolled
pub unknown_rolled : (o : Origin) (up : Option Addr) (p : ℕ) (g : Deeds) (rs : List LogRec) (h : List Entry) (z : Addr) (t : Aaid) (b : BranchId) → Below o up p g rs h → AsksBegun h → z.node ≡ p → (g.left t ≡ true → ⊥) → (g.committed t ≡ true → ⊥)
    → ((a : Addr) (r : Report) → a.node ≡ p → HasBrought h a (PeerRecord.RecReply t b (RecState.Done r)) → ⊥) → AnsweredUnknown o z t b h → rolled o t h ≡ true
unknown_rolled o up p g rs [] z t b below begun at stayed undone untold s = absurd s
unknown_rolled o up p g rs (e ∷ h) z t b below begun at stayed undone untold (inr s) =
    let r = unknown_rolled o up p g rs h z t b (below_tail o up p g rs e h below) begun.1 at stayed undone (λ a x n k. untold a x n (inr k)) s in
    rw r (grind arith)
unknown_rolled o up p g rs (e ∷ h) z t b below begun at stayed undone untold (inl s) = later (by (owed_law o up p g rs h k.to k.x k.y k.seq t b k.holder tail node k.sent))
  where
    tail : Below o up p g rs h
    tail = below_tail o up p g rs e h below

    k : SentTo h z.node t b
    k = begun.0 z t b s.0

    node : k.to.node ≡ p
    node = k.at ∙ at

    later : rolled o t h ≡ true → rolled o t (e ∷ h) ≡ true
    later r = rw r (grind arith)

    kept : KeptOwes t p b (digest o h).kept → rolled o t h ≡ true
    kept n =
        let done = own_law o up h t tail.empty tail.legal (kept_commits t p b (digest o h) n) in
        back_rolled o up h t tail.empty tail.legal (kept_unknown (digest o h) t p b n (λ now. (fated_law o up h t tail.empty tail.legal tail.once).commit_now done now) s.1)

    by : Owed o p g h t b → rolled o t h ≡ true
    by (Still_owed (inl n)) = absurd (row_answer (digest o h) t p b n s.1)
    by (Still_owed (inr n)) = kept n
    by (Has_gone n) = absurd (stayed n)
    by (Has_done n) = absurd (undone n)
    by (Was_told a r n m) = absurd (untold a r m (inr n))
    by (Had_rolled n) = n
    by (Had_left n) = absurd (stayed (left_sent o up p g rs h k.to k.x k.y k.seq t b k.holder tail node k.sent n))

-- ---- the branch's history

-- an order from the node n came where the tree was known, if the node had begun it there
abbrev pub KnowsOrders : ℕ → (Aaid → Type 0) → (Aaid → Type 0) → Origin → List Entry → Type 0
KnowsOrders n C S o [] = Unit {0}
KnowsOrders n C S o (e ∷ h) = ((a : Addr) (t : Aaid) (b : BranchId) → e.event ≡ Event.Arrive a (PeerRecord.RecCommit t b) → a.node ≡ n → C t × (S t → is_known o t h ≡ true)) × KnowsOrders n C S o h

known_answer : (n : ℕ) (C S : Aaid → Type 0) (o : Origin) (up : Option Addr) (h : List Entry) (z : Addr) (t : Aaid) (b : BranchId) (r : Report) → IsGrown o up h → KnowsOrders n C S o h → z.node ≡ n → S t → AnsweredDone o z t b r h → is_known o t h ≡ true
known_answer n C S o up [] z t b r legal k at s a = absurd a
known_answer n C S o up (e ∷ h) z t b r legal k at s (inl a) = known_more o up e h t legal ((k.0 z t b a.0 at).1 s)
known_answer n C S o up (e ∷ h) z t b r legal k at s (inr a) = known_more o up e h t legal (known_answer n C S o up h z t b r legal.3 k.1 at s a)

pub key_done : (d : Digest) (t : Aaid) (b : BranchId) (r : Report) (c : Current) → IsLate d → d.current ≡ Some c → node_key c.key ≡ branch_key t b → recovery_answer (known_of (named_by_key d (branch_key t b)) b) Question.RecCommit ≡ Some (RecState.Done r) → ⊥
key_done d t b r c late at key h = done_answer (known_of (named_by_key d (branch_key t b)) b) r (ap is_nil phase ∙ late c at) h
  where
    named : current_with d (branch_key t b) ≡ Some c
    named = ap (current_with d) (sym key) ∙ own_with d c at

    phase : (known_of (named_by_key d (branch_key t b)) b).phase ≡ c.phase
    phase = ap (λ (o : Option Current). elim o as (λ _. Phase) [ None ↦ Phase.Nil | Some x ↦ x.phase ]) named

-- a branch that has its key is current told no Done of it
pub done_never : (n : ℕ) (C S : Aaid → Type 0) (o : Origin) (up : Option Addr) (h : List Entry) (z : Addr) (t : Aaid) (b : BranchId) (r : Report) → o.start.records ≡ [] → IsGrown o up h → IsOnce o h → KnowsOrders n C S o h → z.node ≡ n → S t
    → is_own o.who t ≡ false → ((v : BranchId) → TookKey h t v → v ≡ b) → is_now t (digest o h).current ≡ true → AnsweredDone o z t b r h → ⊥
done_never n C S o up [] z t b r empty legal once k at s other ids now a = a
done_never n C S o up (e ∷ h) z t b r empty legal once k at s other ids now (inr a) =
    done_never n C S o up h z t b r empty legal.3 once.1 k.1 at s other (λ v w. ids v (later_key e h t v w)) (now_then o up e h t empty legal once (known_answer n C S o up h z t b r legal.3 k.1 at s a) now) a
done_never n C S o up (e ∷ h) z t b r empty legal once k at s other ids now (inl a) =
    let before = now_then o up e h t empty legal once ((k.0 z t b a.0 at).1 s) now in
    let c = now_some t (digest o h).current before in
    by c.0 c.1 c.2 c.0.key refl
  where
    by : (c : Current) → (digest o h).current ≡ Some c → is_aaid t (aaid_of c.key) ≡ true → (j : Key) → c.key ≡ j → ⊥
    by c cur tree (Root u) j =
        let keyed : IsKeyOf o.who up (Root u) = subst (λ (i : Key). IsKeyOf o.who up i) j (key_law o up h c empty legal.3 cur) in
        let same : t ≡ u = aaids_equal t u (ap (λ (i : Key). is_aaid t (aaid_of i)) (sym j) ∙ tree) in
        let node : t.mark.node ≡ o.who.node = ap (λ (v : Aaid). v.mark.node) same ∙ keyed.1 in
        let own : is_own o.who t ≡ true = grind (arith, nat_tests, node) in
        cc (own, other)
    by c cur tree (Under u v f) j =
        let same : t ≡ u = aaids_equal t u (ap (λ (i : Key). is_aaid t (aaid_of i)) (sym j) ∙ tree) in
        let took : TookKey h u v = current_took o up h c u v f empty legal.3 cur j in
        let id : v ≡ b = ids v (later_key e h t v (subst (λ (w : Aaid). TookKey h w v) (sym same) took)) in
        key_done (digest o h) t b r c (late_law o up h legal.3) cur (ap node_key j ∙ key_is u v same id) a.1
      where
        key_is : (u : Aaid) (v : BranchId) → t ≡ u → v ≡ b → node_key (Under u v f) ≡ branch_key t b
        key_is u v x y = rw (← x, y) refl
