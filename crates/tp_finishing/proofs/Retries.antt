-- A retry leaves a node as it was, and asks again for all that it waits for.
use Rattle.std.proofs.Common.{if◌then◌else◌, ◌≡◌, inl, inr, Bool, true, false, refl, ap, sym, subst, ◌∙◌, arith, Option, Some, None, List, [], ◌∷◌, ◌++◌, ◌&&◌}
use Rattle.tp_names.specs.declared.identifiers.Aaid.{Aaid}
use Rattle.tp_names.specs.declared.identifiers.Addr.{Addr}
use Rattle.tp_names.specs.declared.identifiers.BranchId.{BranchId}
use Rattle.tp_names.specs.declared.children.Child.{Child}
use Rattle.tp_records.specs.declared.peer.PeerRecord.{PeerRecord}
use Rattle.tp_records.specs.declared.peer.RecState.{RecState}
use Rattle.tp_model.specs.declared.arc.Phase.{Phase}
use Rattle.tp_model.specs.declared.transaction.TxEvent.{TxEvent}
use Rattle.tp_model.specs.declared.transaction.TxOut.{TxOut}
use Rattle.tp_model.specs.declared.recovery.Kept.{Kept}
use Rattle.tp_model.specs.Parts.{Who, Event, Out, Arc, Key, Root, Under, Branch, Current, Digest}
use Rattle.tp_model.specs.Dialogues.{is_nil, is_ready, is_committing}
use Rattle.tp_model.specs.Arcs.{performed}
use Rattle.tp_model.specs.Recovery.{is_commit, owed, ask_owed, tell_superior}
use Rattle.tp_model.specs.Transactions.{Row, Transaction, no_completion, aaid_of, ask_each, retried}
use Rattle.tp_model.specs.Node.{Move, Passage, Stays, move, followed, perform, passage, passed, seen, seen_rows, branches_of, remaining, transact, turned, started_next, entered, played}
use Rattle.tp_model.specs.Events.{refusal, refused_plainly, retry, retry_each, says_nothing, is_no_node}
use Rattle.tp_model.proofs.Verdicts.{plainly_not, none_if_accepted}
use Rattle.tp_steps.specs.Moves.{IsLate, IsRecoveryIn}
use Rattle.tp_histories.specs.Histories.{IsSentIn}

-- ---- outputs that leave the arcs as they are

abbrev pub is_plain : TxOut → Bool
is_plain (TxOut.Tell i) = true
is_plain (TxOut.Recovery a r) = true
is_plain _ = false

abbrev pub are_plain : List TxOut → Bool
are_plain [] = true
are_plain (o ∷ outs) = is_plain o && are_plain outs

pub plain_more : (xs ys : List TxOut) → are_plain xs ≡ true → are_plain ys ≡ true → are_plain (xs ++ ys) ≡ true
plain_more [] ys h i = i
plain_more (x ∷ xs) ys h i = let rest = plain_more xs ys (grind (arith, h)) i in grind (arith, h, rest)

pub plain_arcs : (arcs : List Arc) (outs : List TxOut) → are_plain outs ≡ true → (performed arcs outs).0 ≡ arcs
plain_arcs arcs [] h = refl
plain_arcs arcs (TxOut.Tell i ∷ outs) h = plain_arcs arcs outs h
plain_arcs arcs (TxOut.Recovery a r ∷ outs) h = plain_arcs arcs outs h
plain_arcs arcs (o ∷ outs) h = absurd (grind (arith, h))

pub plain_sent : (arcs : List Arc) (outs : List TxOut) (a : Addr) (r : PeerRecord) → are_plain outs ≡ true → IsRecoveryIn outs a r → IsSentIn (performed arcs outs).1 a r
plain_sent arcs [] a r h i = absurd i
plain_sent arcs (TxOut.Tell x ∷ outs) a r h i = plain_sent arcs outs a r h i
plain_sent arcs (TxOut.Recovery b q ∷ outs) a r h (inl i) = inl i
plain_sent arcs (TxOut.Recovery b q ∷ outs) a r h (inr i) = inr (plain_sent arcs outs a r h i)
plain_sent arcs (o ∷ outs) a r h i = absurd (grind (arith, h))

plain_each : (t : Aaid) (rows : List Row) → are_plain (ask_each t rows) ≡ true
plain_each t [] = refl
plain_each t (r ∷ rows) = let rest = plain_each t rows in grind (arith, rest)

plain_retried : (t : Transaction) → are_plain (retried t) ≡ true
plain_retried t = go t.phase t.key t.owes
  where
    go : (p : Phase) (k : Key) (o : Bool) → are_plain (retried (record t { phase = p; key = k; owes = o })) ≡ true
    go Phase.Nil k o = refl
    go Phase.Active k o = refl
    go Phase.Ready (Root a) o = refl
    go Phase.Ready (Under a b s) o = refl
    go Phase.Committing k true = plain_each (aaid_of k) t.rows
    go Phase.Committing k false = plain_each (aaid_of k) t.rows
    go Phase.Rolling k o = refl

plain_asked : (t : Aaid) (cs : List Child) → are_plain (ask_owed t cs) ≡ true
plain_asked t [] = refl
plain_asked t (c ∷ cs) = plain_asked t cs

plain_told : (k : Kept) → are_plain (tell_superior k) ≡ true
plain_told k = go k.forgot k.key.branch k.superior
  where
    go : (f : Bool) (b : Option BranchId) (s : Option Addr) → are_plain (if f then [] else elim b as (λ _. List TxOut) [ None ↦ [] | Some i ↦ elim s as (λ _. List TxOut) [ None ↦ [] | Some a ↦ TxOut.Recovery a (PeerRecord.RecReply k.key.aaid i (RecState.Done k.report)) ∷ [] ] ]) ≡ true
    go true b s = refl
    go false None s = refl
    go false (Some i) None = refl
    go false (Some i) (Some a) = refl

pub plain_owed : (k : Kept) → are_plain (owed k) ≡ true
unfolding owed
plain_owed k = go (is_commit k.side)
  where
    go : (b : Bool) → are_plain (if b then ask_owed k.key.aaid k.owed ++ tell_superior k else []) ≡ true
    go true = plain_more (ask_owed k.key.aaid k.owed) (tell_superior k) (plain_asked k.key.aaid k.owed) (plain_told k)
    go false = refl

-- ---- a node that retries stays as it was

pub seen_again : (arcs : List Arc) (bs : List Branch) → branches_of (seen_rows arcs bs) ≡ bs
seen_again arcs [] = refl
seen_again arcs (b ∷ bs) = ap (λ (l : List Branch). b ∷ l) (seen_again arcs bs)

pub remains : (who : Who) (arcs : List Arc) (c : Current) → is_nil c.phase ≡ false → remaining (seen who arcs c) ≡ Some c
remains who arcs c late = rw (late, remaining) (ap (λ (bs : List Branch). Some (record c { branches = bs })) (seen_again arcs c.branches))

pub same_phase : (leaving : Bool) (p : Phase) → passage leaving p p ≡ Stays
same_phase leaving Phase.Nil = refl
same_phase leaving Phase.Active = refl
same_phase leaving Phase.Ready = refl
same_phase leaving Phase.Committing = refl
same_phase leaving Phase.Rolling = refl

-- what a transaction says of itself, in its place
pub retry_turn : (who : Who) (d : Digest) (c : Current) → d.current ≡ Some c → is_nil c.phase ≡ false → transact who TxEvent.Retry d ≡ record { rec = None; outs = (performed d.arcs (retried (seen who d.arcs c))).1; next = d }
unfolding transact played entered
retry_turn who d c at late = ap (λ (o : Option Current). elim o as (λ _. Move) [ None ↦ move [] d | Some v ↦ started_next who (passed who TxEvent.Retry d v) (turned who TxEvent.Retry d v) ]) at ∙ stays (passage false c.phase c.phase) (same_phase false c.phase)
  where
    t : Transaction
    t = seen who d.arcs c

    made : (arcs : List Arc) (o : Option Current) → arcs ≡ d.arcs → o ≡ d.current → ◌≡◌ {A = Digest} (record d { arcs = arcs; current = o }) d
    made arcs o i j = rw (i, j) refl

    stays : (w : Passage) → w ≡ Stays
        → started_next who w (let p = played d t w (record { rec = None; outs = retried t; completion = no_completion (retried t); next = t }) (entered t w d.arcs) in record { rec = None; outs = p.1; next = record d { arcs = p.0; current = remaining t; kept = d.kept } })
        ≡ record { rec = None; outs = (performed d.arcs (retried t)).1; next = d }
    stays w i = rw i (ap (λ (x : Digest). let m : Move = record { rec = None; outs = (performed d.arcs (retried t)).1; next = x } in m) (made (performed d.arcs (retried t)).0 (remaining t) (plain_arcs d.arcs (retried t) (plain_retried t)) (remains who d.arcs c late ∙ sym at)))

retry_none : (who : Who) (d : Digest) → d.current ≡ None → transact who TxEvent.Retry d ≡ move [] d
unfolding transact
retry_none who d at = ap (λ (o : Option Current). elim o as (λ _. Move) [ None ↦ move [] d | Some v ↦ started_next who (passed who TxEvent.Retry d v) (turned who TxEvent.Retry d v) ]) at

transact_same : (who : Who) (d : Digest) → IsLate d → (transact who TxEvent.Retry d).next ≡ d
transact_same who d late = go d.current refl
  where
    go : (o : Option Current) → d.current ≡ o → (transact who TxEvent.Retry d).next ≡ d
    go None i = ap (λ (m : Move). m.next) (retry_none who d i)
    go (Some c) i = ap (λ (m : Move). m.next) (retry_turn who d c i (late c i))

perform_same : (outs : List TxOut) (d : Digest) → are_plain outs ≡ true → (perform outs d).next ≡ d
perform_same outs d h = ap (λ (arcs : List Arc). let x : Digest = record d { arcs = arcs } in x) (plain_arcs d.arcs outs h)

each_same : (ks : List Kept) (d : Digest) → (retry_each ks d).next ≡ d
each_same [] d = refl
each_same (k ∷ ks) d = ap (λ (x : Digest). (retry_each ks x).next) (perform_same (owed k) d (plain_owed k)) ∙ each_same ks d

pub retry_same : (who : Who) (d : Digest) → IsLate d → (retry who d).next ≡ d
unfolding retry
retry_same who d late = ap (λ (x : Digest). (retry_each x.kept x).next) (transact_same who d late) ∙ each_same d.kept d

-- ---- what it says

pub sent_first : (xs ys : List Out) (a : Addr) (r : PeerRecord) → IsSentIn xs a r → IsSentIn (xs ++ ys) a r
sent_first [] ys a r h = absurd h
sent_first (Out.Tell i ∷ xs) ys a r h = sent_first xs ys a r h
sent_first (Out.Send b q ∷ xs) ys a r (inl h) = inl h
sent_first (Out.Send b q ∷ xs) ys a r (inr h) = inr (sent_first xs ys a r h)

pub sent_second : (xs ys : List Out) (a : Addr) (r : PeerRecord) → IsSentIn ys a r → IsSentIn (xs ++ ys) a r
sent_second [] ys a r h = h
sent_second (Out.Tell i ∷ xs) ys a r h = sent_second xs ys a r h
sent_second (Out.Send b q ∷ xs) ys a r h = inr (sent_second xs ys a r h)

pub says_of_current : (who : Who) (d : Digest) (c : Current) (a : Addr) (r : PeerRecord) → d.current ≡ Some c → is_nil c.phase ≡ false → IsRecoveryIn (retried (seen who d.arcs c)) a r → IsSentIn (retry who d).outs a r
unfolding retry
says_of_current who d c a r at late i =
    sent_first (transact who TxEvent.Retry d).outs (retry_each (transact who TxEvent.Retry d).next.kept (transact who TxEvent.Retry d).next).outs a r
    (subst (λ (m : Move). IsSentIn m.outs a r) (sym (retry_turn who d c at late)) (plain_sent d.arcs (retried (seen who d.arcs c)) a r (plain_retried (seen who d.arcs c)) i))

-- a node in doubt asks its superior
pub asks_superior : (who : Who) (d : Digest) (c : Current) (t : Aaid) (b : BranchId) (a : Addr) → d.current ≡ Some c → is_ready c.phase ≡ true → c.key ≡ Under t b a → IsSentIn (retry who d).outs a (PeerRecord.RecReady t b)
asks_superior who d c t b a at ready key = says_of_current who d c a (PeerRecord.RecReady t b) at (late c.phase ready) (asks c.phase ready c.key key)
  where
    late : (p : Phase) → is_ready p ≡ true → is_nil p ≡ false
    late p h = grind (arith, h)

    asks : (p : Phase) → is_ready p ≡ true → (k : Key) → k ≡ Under t b a → IsRecoveryIn (retried (record (seen who d.arcs c) { phase = p; key = k })) a (PeerRecord.RecReady t b)
    asks Phase.Ready h (Under u v z) i = let same : ◌≡◌ {A = Key} (Under u v z) (Under t b a) = i in inl (cc (same), word u t v b (cc (same)) (cc (same)))
      where
        word : (u t : Aaid) (v b : BranchId) → u ≡ t → v ≡ b → PeerRecord.RecReady u v ≡ PeerRecord.RecReady t b
        word u t v b x y = rw (x, y) refl
    asks Phase.Ready h (Root u) i = absurd (cc (i))
    asks p h k i = absurd (grind (arith, h))

-- a node that commits asks its branches
pub asks_branches : (who : Who) (d : Digest) (c : Current) (a : Addr) (r : PeerRecord) → d.arcs ≡ [] → d.current ≡ Some c → is_committing c.phase ≡ true → c.owes ≡ false → IsRecoveryIn (ask_each (aaid_of c.key) (seen_rows [] c.branches)) a r → IsSentIn (retry who d).outs a r
asks_branches who d c a r none at phase owes i = says_of_current who d c a r at (late c.phase phase) (subst (λ (arcs : List Arc). IsRecoveryIn (retried (seen who arcs c)) a r) (sym none) (asks c.phase phase c.owes owes))
  where
    late : (p : Phase) → is_committing p ≡ true → is_nil p ≡ false
    late p h = grind (arith, h)

    asks : (p : Phase) → is_committing p ≡ true → (o : Bool) → o ≡ false → IsRecoveryIn (retried (record (seen who [] c) { phase = p; owes = o })) a r
    asks Phase.Committing h false j = i
    asks Phase.Committing h true j = absurd (cc (j))
    asks p h o j = absurd (grind (arith, h))

-- a node without a current transaction speaks of those that it keeps, the oldest first
pub says_of_kept : (who : Who) (d : Digest) (k : Kept) (ks : List Kept) (a : Addr) (r : PeerRecord) → d.current ≡ None → d.kept ≡ k ∷ ks → IsRecoveryIn (owed k) a r → IsSentIn (retry who d).outs a r
unfolding retry
says_of_kept who d k ks a r none kept i = subst (λ (m : Move). IsSentIn (followed m (λ e. retry_each e.kept e)).outs a r) (sym (retry_none who d none)) (subst (λ (l : List Kept). IsSentIn (retry_each l d).outs a r) (sym kept) said)
  where
    said : IsSentIn (retry_each (k ∷ ks) d).outs a r
    said = sent_first (perform (owed k) d).outs (retry_each ks (perform (owed k) d).next).outs a r (plain_sent d.arcs (owed k) a r (plain_owed k) i)

pub asks_owed : (k : Kept) (c : Child) (cs : List Child) → is_commit k.side ≡ true → k.owed ≡ c ∷ cs → IsRecoveryIn (owed k) c.addr (PeerRecord.RecCommit k.key.aaid c.branch)
unfolding owed
asks_owed k c cs side owes = rw (side, owes) (inl (refl, refl))

pub tells_above : (k : Kept) (b : BranchId) (a : Addr) → is_commit k.side ≡ true → k.owed ≡ [] → k.forgot ≡ false → k.key.branch ≡ Some b → k.superior ≡ Some a → IsRecoveryIn (owed k) a (PeerRecord.RecReply k.key.aaid b (RecState.Done k.report))
unfolding owed
tells_above k b a side none new branch up = rw (side, none, new, branch, up) (inl (refl, refl))

-- ---- it is accepted

says_something : (outs : List Out) (a : Addr) (r : PeerRecord) → IsSentIn outs a r → says_nothing outs ≡ false
says_something [] a r h = absurd h
says_something (o ∷ outs) a r h = refl

pub retry_taken : (who : Who) (d : Digest) (a : Addr) (r : PeerRecord) → is_no_node d ≡ false → IsSentIn (retry who d).outs a r → refusal who d Event.Retry ≡ None
retry_taken who d a r node said =
    let plain : refused_plainly who d Event.Retry ≡ None = rw (node, says_something (retry who d).outs a r said, refused_plainly) refl in
    none_if_accepted who d Event.Retry (plainly_not who d Event.Retry plain)
