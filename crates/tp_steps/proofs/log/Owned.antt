-- A node orders a commitment in recovery only where it commits, or keeps the commitment.
use Rattle.std.proofs.Common.{◌≡◌, ℕ, Bool, true, false, refl, ap, sym, ◌∙◌, arith, Option, Some, None, List, [], ◌∷◌, ◌++◌, ◌&&◌, ◌||◌}
use Rattle.std.proofs.lemmas.Bool.Decides.{nat_tests}
use Rattle.tp_names.specs.declared.identifiers.Aaid.{Aaid}
use Rattle.tp_names.specs.declared.identifiers.BranchId.{BranchId}
use Rattle.tp_names.specs.declared.identifiers.NodeKey.{NodeKey}
use Rattle.tp_names.specs.declared.identifiers.Addr.{Addr}
use Rattle.tp_names.specs.declared.children.Child.{Child}
use Rattle.tp_names.specs.Same.{is_name, is_aaid, is_key}
use Rattle.tp_records.specs.declared.peer.PeerRecord.{PeerRecord}
use Rattle.tp_records.specs.declared.peer.RecState.{RecState}
use Rattle.tp_model.specs.declared.transaction.TxOut.{TxOut}
use Rattle.tp_model.specs.declared.recovery.Kept.{Kept}
use Rattle.tp_model.specs.declared.recovery.KeptEvent.{KeptEvent}
use Rattle.tp_model.specs.declared.recovery.Question.{Question}
use Rattle.tp_model.specs.Parts.{Key, Root, Under, Current, Digest}
use Rattle.tp_model.specs.Dialogues.{is_committing}
use Rattle.tp_model.specs.Transactions.{aaid_of, node_key}
use Rattle.tp_model.specs.Recovery.{is_commit, is_kept_commit, noted, ask_owed, tell_superior, owed, find_kept, with_forget, find_owed, recovery_answer}
use Rattle.tp_model.specs.Node.{phase_of}
use Rattle.tp_model.specs.Arrivals.{Named, named_by_key, is_branch_of, kept_owing, kept_of, current_of, key_of_kept, key_of_branch, named_by_branch, known_of}
use Rattle.tp_model.specs.Outcomes.{is_now}
use Rattle.tp_steps.specs.Moves.{orders_in, keeps_commit, is_committed_in, IsOwned}

name_join : (a b c : List ℕ) → is_name a c ≡ true → is_name b c ≡ true → is_name a b ≡ true
name_join [] [] c h i = refl
name_join [] (y ∷ b) [] h i = absurd cc
name_join [] (y ∷ b) (z ∷ c) h i = absurd cc
name_join (x ∷ a) [] [] h i = absurd cc
name_join (x ∷ a) [] (z ∷ c) h i = absurd cc
name_join (x ∷ a) (y ∷ b) [] h i = absurd cc
name_join (x ∷ a) (y ∷ b) (z ∷ c) h i = grind (arith, nat_tests, name_join a b c, h, i)

-- what is the same as one is the same
pub aaid_join : (a b c : Aaid) → is_aaid a c ≡ true → is_aaid b c ≡ true → is_aaid a b ≡ true
aaid_join a b c h i = let n = name_join a.owner b.owner c.owner in grind (arith, nat_tests, h, i, n)

-- ---- kept transactions

pub found_kept : (ks : List Kept) (j : NodeKey) (x : Kept) → find_kept ks j ≡ Some x → (u : Aaid) → (is_commit x.side && is_aaid u x.key.aaid) ≡ true → keeps_commit u ks ≡ true
found_kept [] j x h u i = absurd cc
found_kept (k ∷ ks) j x h u i = go (is_key k.key j) refl (found_kept ks j x)
  where
    go : (b : Bool) → is_key k.key j ≡ b → (find_kept ks j ≡ Some x → (u : Aaid) → (is_commit x.side && is_aaid u x.key.aaid) ≡ true → keeps_commit u ks ≡ true) → keeps_commit u (k ∷ ks) ≡ true
    go true m rest =
        let one : Some k ≡ Some x = rw (m, find_kept) at h in
        let same : k ≡ x = cc (one) in
        let here : (is_commit k.side && is_aaid u k.key.aaid) ≡ true = ap (λ (y : Kept). is_commit y.side && is_aaid u y.key.aaid) same ∙ i in
        rw here refl
    go false m rest =
        let one : find_kept ks j ≡ Some x = rw (m, find_kept) at h in
        let there = rest one u i in
        rw there (grind arith)

pub kept_key : (ks : List Kept) (j : NodeKey) (x : Kept) → find_kept ks j ≡ Some x → is_key x.key j ≡ true
kept_key [] j x h = absurd cc
kept_key (k ∷ ks) j x h = go (is_key k.key j) refl (kept_key ks j x)
  where
    go : (b : Bool) → is_key k.key j ≡ b → (find_kept ks j ≡ Some x → is_key x.key j ≡ true) → is_key x.key j ≡ true
    go true m rest =
        let one : Some k ≡ Some x = rw (m, find_kept) at h in
        let same : k ≡ x = cc (one) in
        ap (λ (y : Kept). is_key y.key j) (sym same) ∙ m
    go false m rest = rest (rw (m, find_kept) at h)

noted_same : (u : Aaid) (k : Kept) → (is_commit (noted k KeptEvent.Forget).side && is_aaid u (noted k KeptEvent.Forget).key.aaid) ≡ (is_commit k.side && is_aaid u k.key.aaid)
noted_same u k = grind arith

pub noted_kept : (u : Aaid) (ks : List Kept) (j : NodeKey) → keeps_commit u (with_forget ks j (λ y. noted y KeptEvent.Forget)) ≡ keeps_commit u ks
noted_kept u [] j = refl
noted_kept u (k ∷ ks) j = let one = noted_same u k in grind (arith, one, noted_kept u ks j)

-- the one that is found, as it is noted
pub noted_found : (ks : List Kept) (j : NodeKey) (x : Kept) → find_kept ks j ≡ Some x → (u : Aaid) → (is_commit x.side && is_aaid u x.key.aaid) ≡ true → keeps_commit u (with_forget ks j (λ y. noted y KeptEvent.Forget)) ≡ true
noted_found ks j x h u i = noted_kept u ks j ∙ found_kept ks j x h u i

ask_orders : (u a : Aaid) (cs : List Child) → orders_in u (ask_owed a cs) ≡ true → is_aaid u a ≡ true
ask_orders u a [] h = absurd cc
ask_orders u a (c ∷ cs) h = go (is_aaid u a) refl
  where
    go : (b : Bool) → is_aaid u a ≡ b → is_aaid u a ≡ true
    go true i = i
    go false i = ask_orders_rest (grind (arith, h, i))
      where
        ask_orders_rest : orders_in u (ask_owed a cs) ≡ true → is_aaid u a ≡ true
        ask_orders_rest k = absurd (none_of cs i k)
          where
            none_of : (cs : List Child) → is_aaid u a ≡ false → orders_in u (ask_owed a cs) ≡ true → ⊥
            none_of [] i k = absurd cc
            none_of (c ∷ cs) i k = none_of cs i (grind (arith, k, i))

pub orders_append : (u : Aaid) (xs ys : List TxOut) → orders_in u (xs ++ ys) ≡ (orders_in u xs || orders_in u ys)
orders_append u [] ys = refl
orders_append u (x ∷ xs) ys = grind (arith, orders_append u xs ys)

tell_orders : (u : Aaid) (k : Kept) → orders_in u (tell_superior k) ≡ false
tell_orders u k = grind arith

pub owed_orders : (u : Aaid) (k : Kept) → orders_in u (owed k) ≡ true → (is_commit k.side && is_aaid u k.key.aaid) ≡ true
unfolding owed
owed_orders u k h = go (is_commit k.side) refl
  where
    go : (b : Bool) → is_commit k.side ≡ b → (is_commit k.side && is_aaid u k.key.aaid) ≡ true
    go false i = absurd (grind (arith, h, i))
    go true i =
        let all : orders_in u (ask_owed k.key.aaid k.owed ++ tell_superior k) ≡ true = rw i at h in
        let split = orders_append u (ask_owed k.key.aaid k.owed) (tell_superior k) in
        let none = tell_orders u k in
        let asked : orders_in u (ask_owed k.key.aaid k.owed) ≡ true = grind (arith, all, split, none) in
        rw (i, ask_orders u k.key.aaid k.owed asked) refl

-- ---- replies

pub key_aaid : (k : Key) → (node_key k).aaid ≡ aaid_of k
key_aaid (Root t) = refl
key_aaid (Under t b a) = refl

owing_tree : (ks : List Kept) (t : Aaid) (b : BranchId) (k : NodeKey) → kept_owing ks t b ≡ Some k → is_aaid k.aaid t ≡ true
owing_tree [] t b k h = absurd cc
owing_tree (x ∷ ks) t b k h = go (is_aaid x.key.aaid t && elim (find_owed x.owed b) as (λ _. Bool) [ None ↦ false | Some c ↦ true ]) refl (owing_tree ks t b k)
  where
    go : (v : Bool) → (is_aaid x.key.aaid t && elim (find_owed x.owed b) as (λ _. Bool) [ None ↦ false | Some c ↦ true ]) ≡ v → (kept_owing ks t b ≡ Some k → is_aaid k.aaid t ≡ true) → is_aaid k.aaid t ≡ true
    go true i rest =
        let one : Some x.key ≡ Some k = rw (i, kept_owing) at h in
        let same : x.key ≡ k = cc (one) in
        let here : is_aaid x.key.aaid t ≡ true = grind (arith, i) in
        ap (λ (y : NodeKey). is_aaid y.aaid t) (sym same) ∙ here
    go false i rest = rest (rw (i, kept_owing) at h)

of_tree : (ks : List Kept) (t : Aaid) (k : NodeKey) → kept_of ks t ≡ Some k → is_aaid k.aaid t ≡ true
of_tree [] t k h = absurd cc
of_tree (x ∷ ks) t k h = go (is_aaid x.key.aaid t) refl (of_tree ks t k)
  where
    go : (v : Bool) → is_aaid x.key.aaid t ≡ v → (kept_of ks t ≡ Some k → is_aaid k.aaid t ≡ true) → is_aaid k.aaid t ≡ true
    go true i rest =
        let one : Some x.key ≡ Some k = rw (i, kept_of) at h in
        let same : x.key ≡ k = cc (one) in
        ap (λ (y : NodeKey). is_aaid y.aaid t) (sym same) ∙ i
    go false i rest = rest (rw (i, kept_of) at h)

current_tree : (d : Digest) (t : Aaid) (c : Current) → current_of d t ≡ Some c → is_aaid (node_key c.key).aaid t ≡ true
current_tree d t c h = go d.current refl
  where
    go : (o : Option Current) → d.current ≡ o → is_aaid (node_key c.key).aaid t ≡ true
    go None i = absurd (cc (rw (i, current_of) at h))
    go (Some x) i = on (is_aaid (aaid_of x.key) t) refl
      where
        on : (v : Bool) → is_aaid (aaid_of x.key) t ≡ v → is_aaid (node_key c.key).aaid t ≡ true
        on true j =
            let one : Some x ≡ Some c = rw (i, j, current_of) at h in
            let same : x ≡ c = cc (one) in
            ap (λ (a : Aaid). is_aaid a t) (key_aaid c.key) ∙ ap (λ (y : Current). is_aaid (aaid_of y.key) t) (sym same) ∙ j
        on false j = absurd (cc (rw (i, j, current_of) at h))

key_same : (c : Current) (t : Aaid) (k : NodeKey) → is_aaid (node_key c.key).aaid t ≡ true → Some (node_key c.key) ≡ Some k → is_aaid k.aaid t ≡ true
key_same c t k h i = let same : node_key c.key ≡ k = cc (i) in ap (λ (y : NodeKey). is_aaid y.aaid t) (sym same) ∙ h

kept_tree : (d : Digest) (t : Aaid) (b : BranchId) (k : NodeKey) → key_of_kept d t b ≡ Some k → is_aaid k.aaid t ≡ true
kept_tree d t b k h = go (kept_owing d.kept t b) refl
  where
    go : (o : Option NodeKey) → kept_owing d.kept t b ≡ o → is_aaid k.aaid t ≡ true
    go (Some j) i = owing_tree d.kept t b k (i ∙ (rw (i, key_of_kept) at h))
    go None i = on (current_of d t) refl
      where
        on : (c : Option Current) → current_of d t ≡ c → is_aaid k.aaid t ≡ true
        on (Some c) j = key_same c t k (current_tree d t c j) (rw (i, j, key_of_kept) at h)
        on None j = of_tree d.kept t k (rw (i, j, key_of_kept) at h)

pub branch_tree : (d : Digest) (t : Aaid) (b : BranchId) (k : NodeKey) → key_of_branch d t b ≡ Some k → is_aaid k.aaid t ≡ true
branch_tree d t b k h = go (current_of d t) refl
  where
    go : (c : Option Current) → current_of d t ≡ c → is_aaid k.aaid t ≡ true
    go None i = kept_tree d t b k (rw (i, key_of_branch) at h)
    go (Some c) i = on (is_branch_of c b) refl
      where
        on : (v : Bool) → is_branch_of c b ≡ v → is_aaid k.aaid t ≡ true
        on true j = key_same c t k (current_tree d t c i) (rw (i, j, key_of_branch) at h)
        on false j = kept_tree d t b k (rw (i, j, key_of_branch) at h)

ready_commit : (n : Named) (b : BranchId) → recovery_answer (known_of n b) Question.RecReady ≡ Some RecState.Commit → (is_committing (known_of n b).phase || is_kept_commit (known_of n b).kept) ≡ true
unfolding recovery_answer
ready_commit n b h = go (is_committing (known_of n b).phase || is_kept_commit (known_of n b).kept) refl
  where
    go : (v : Bool) → (is_committing (known_of n b).phase || is_kept_commit (known_of n b).kept) ≡ v → (is_committing (known_of n b).phase || is_kept_commit (known_of n b).kept) ≡ true
    go true i = i
    go false i = absurd (grind (arith, h, i))

pub commit_commit : (n : Named) (b : BranchId) → recovery_answer (known_of n b) Question.RecCommit ≡ Some RecState.Commit → ⊥
unfolding recovery_answer
commit_commit n b h = absurd (grind (arith, h))

-- of the key that is named
named_owned : (d : Digest) (k : NodeKey) (b : BranchId) (u : Aaid) → is_aaid u k.aaid ≡ true → recovery_answer (known_of (named_by_key d k) b) Question.RecReady ≡ Some RecState.Commit → is_committed_in u d ≡ true
named_owned d k b u same h = elim_or (is_committing (known_of (named_by_key d k) b).phase) (is_kept_commit (known_of (named_by_key d k) b).kept) refl refl (ready_commit (named_by_key d k) b h)
  where
    current : (o : Option Current) → d.current ≡ o → is_committing (known_of (named_by_key d k) b).phase ≡ true → is_committed_in u d ≡ true
    current None i j = absurd (grind (arith, i, j))
    current (Some c) i j = on (is_key (node_key c.key) k) refl
      where
        on : (v : Bool) → is_key (node_key c.key) k ≡ v → is_committed_in u d ≡ true
        on false m = absurd (grind (arith, i, j, m))
        on true m =
            let phase : is_committing (phase_of d) ≡ true = grind (arith, i, j, m) in
            let tree : is_aaid (node_key c.key).aaid k.aaid ≡ true = grind (arith, m) in
            let now : is_aaid u (node_key c.key).aaid ≡ true = aaid_join u (node_key c.key).aaid k.aaid same tree in
            let is : is_now u d.current ≡ true = ap (is_now u) i ∙ ap (is_aaid u) (sym (key_aaid c.key)) ∙ now in
            rw (is, phase) refl

    kept : (o : Option Kept) → find_kept d.kept k ≡ o → is_kept_commit (known_of (named_by_key d k) b).kept ≡ true → is_committed_in u d ≡ true
    kept None i j = absurd (grind (arith, i, j))
    kept (Some x) i j =
        let side : is_commit x.side ≡ true = grind (arith, i, j) in
        let key = kept_key d.kept k x i in
        let tree : is_aaid x.key.aaid k.aaid ≡ true = grind (arith, key) in
        let now : is_aaid u x.key.aaid ≡ true = aaid_join u x.key.aaid k.aaid same tree in
        let held = found_kept d.kept k x i u (rw (side, now) refl) in
        rw held (grind arith)

    elim_or : (v w : Bool) → is_committing (known_of (named_by_key d k) b).phase ≡ v → is_kept_commit (known_of (named_by_key d k) b).kept ≡ w → (v || w) ≡ true → is_committed_in u d ≡ true
    elim_or true w i j m = current d.current refl i
    elim_or false w i j m = kept (find_kept d.kept k) refl (j ∙ m)

pub reply_owned : (d : Digest) (from : Addr) (t : Aaid) (b : BranchId) (v : RecState) → recovery_answer (known_of (named_by_branch d t b) b) Question.RecReady ≡ Some v → IsOwned d (TxOut.Recovery from (PeerRecord.RecReply t b v) ∷ [])
reply_owned d from t b RecState.Commit h u i = go (key_of_branch d t b) refl
  where
    same : is_aaid u t ≡ true
    same = grind (arith, i)

    go : (o : Option NodeKey) → key_of_branch d t b ≡ o → is_committed_in u d ≡ true
    go None j = absurd (none (rw (j, named_by_branch) at h))
      where
        none : recovery_answer (known_of (record { current = None; kept = None }) b) Question.RecReady ≡ Some RecState.Commit → ⊥
        none k = let z = ready_commit (record { current = None; kept = None }) b k in cc (z)
    go (Some k) j =
        let tree = branch_tree d t b k j in
        named_owned d k b u (aaid_join u k.aaid t same tree) (rw (j, named_by_branch) at h)
reply_owned d from t b v h u i = absurd (grind (arith, i))
