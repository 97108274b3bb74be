-- A branch commits by its superior's order, and a superior that orders commits.
use Rattle.std.proofs.Common.{◌≡◌, ◌+◌, ◌⊎◌, inl, inr, ℕ, suc, true, false, refl, ap, sym, subst, ◌∙◌, arith, Option, Some, None, List, [], ◌∷◌, ◌++◌, ◌&&◌, ◌==◌, length, append_assoc}
use Rattle.std.proofs.lemmas.Bool.Decides.{nat_tests}
use Rattle.tp_names.specs.declared.identifiers.Mark.{Mark}
use Rattle.tp_names.specs.declared.identifiers.Aaid.{Aaid}
use Rattle.tp_names.specs.declared.identifiers.BranchId.{BranchId}
use Rattle.tp_names.specs.declared.identifiers.NodeKey.{NodeKey}
use Rattle.tp_names.specs.declared.identifiers.Addr.{Addr}
use Rattle.tp_names.specs.Same.{is_aaid, is_addr, is_key}
use Rattle.tp_records.specs.declared.request.Request.{Request}
use Rattle.tp_records.specs.declared.dialogue.DialogueRecord.{DialogueRecord}
use Rattle.tp_records.specs.declared.peer.PeerRecord.{PeerRecord}
use Rattle.tp_records.specs.declared.peer.RecState.{RecState}
use Rattle.tp_logrec.specs.declared.record.LogRec.{LogRec}
use Rattle.tp_model.specs.declared.arc.Phase.{Phase}
use Rattle.tp_model.specs.declared.transaction.TxEvent.{TxEvent}
use Rattle.tp_model.specs.declared.recovery.Kept.{Kept}
use Rattle.tp_model.specs.Parts.{Who, Origin, Event, Out, Entry, Live, Key, Root, Under, Current, Digest}
use Rattle.tp_model.specs.Dialogues.{is_committing}
use Rattle.tp_model.specs.Arcs.{link_with}
use Rattle.tp_model.specs.Transactions.{Transaction, aaid_of, node_key, superior_of, is_under, is_under_at}
use Rattle.tp_model.specs.Recovery.{not_forgotten}
use Rattle.tp_model.specs.Node.{phase_of, seen}
use Rattle.tp_model.specs.Arrivals.{branch_key, refused_arrival}
use Rattle.tp_model.specs.Events.{refusal, verdict, action, recovered_current, after_crash, started}
use Rattle.tp_model.specs.History.{digest, records}
use Rattle.tp_model.specs.Outcomes.{is_now, decided}
use Rattle.tp_model.specs.Questions.{is_at}
use Rattle.tp_model.specs.Legal.{IsGrown}
use Rattle.tp_steps.specs.Histories.{brought}
use Rattle.tp_histories.specs.Histories.{IsSentIn, HasSent, HasBrought}
use Rattle.tp_steps.specs.Turns.{is_order_for}
use Rattle.tp_steps.specs.Moves.{IsLate, prelude, orders_tree, keeps_commit, is_committed_in, IsAskedByRequest}
use Rattle.tp_steps.specs.Traces.{took_of}
use Rattle.tp_histories.specs.Traces.{sent_on, accepted_on}
use Rattle.tp_steps.specs.Facts.{begun_keys, last_from, ends_in, under_at}
use Rattle.tp_steps.specs.Passages.{is_commit_rec}
use Rattle.tp_steps.specs.Trees.{commits_tree, IsLoggedIn}
use Rattle.tp_steps.specs.Keyed.{IsOrdered, IsKeyedMove}
use Rattle.tp_steps.specs.Orders.{sends_order, IsOwnMove}
use Rattle.tp_histories.specs.Pairs.{IsPaired}
use Rattle.tp_steps.proofs.every.EveryEvent.{every_move}
use Rattle.tp_steps.proofs.links.Links.{mark_same}
use Rattle.tp_histories.proofs.trees.Late.{late_law}
use Rattle.tp_steps.proofs.every.Preludes.{takes_next}
use Rattle.tp_steps.proofs.lemmas.Equality.{aaids_equal, addrs_equal, or_case}
use Rattle.tp_steps.proofs.words.Leaves.{aaid_same}
use Rattle.tp_histories.proofs.trees.Knowing.{Came, As_it_was, By_begin, By_crash, came_by}
use Rattle.tp_histories.proofs.trees.Behind.{treed_rolls, commit_case, commit_first}
use Rattle.tp_steps.proofs.log.Orders.{own_moves}
use Rattle.tp_steps.proofs.log.Keyed.{keyed_moves}
use Rattle.tp_histories.proofs.trees.Above.{IsKeyOf}
use Rattle.tp_histories.proofs.pairs.PairedSteps.{paired_law, placed_event}
use Rattle.tp_steps.proofs.lemmas.Folds.{last_is}
use Rattle.tp_steps.proofs.lemmas.Words.{commit_more}
use Rattle.tp_steps.proofs.lemmas.Options.{some_same}
use Rattle.tp_steps.proofs.log.Owned.{key_aaid}

-- ---- what is committed or kept is logged

kept_forgotten : (u : Aaid) (ks : List Kept) → keeps_commit u (not_forgotten ks) ≡ keeps_commit u ks
kept_forgotten u [] = refl
kept_forgotten u (k ∷ ks) = grind (arith, kept_forgotten u ks)

kept_prelude : (who : Who) (d : Digest) (e : Event) (u : Aaid) → keeps_commit u (prelude who d e).kept ≡ keeps_commit u d.kept
unfolding after_crash
kept_prelude who d (Event.Do r) u = grind arith
kept_prelude who d (Event.Arrive from r) u = grind arith
kept_prelude who d Event.Crash u = kept_forgotten u d.kept
kept_prelude who d _ u = refl

recovered_commits : (o : Option Current) (u : Aaid) → (is_now u (recovered_current o) && is_committing (elim (recovered_current o) as (λ _. Phase) [ None ↦ Phase.Nil | Some c ↦ c.phase ])) ≡ true
    → (is_now u o && is_committing (elim o as (λ _. Phase) [ None ↦ Phase.Nil | Some c ↦ c.phase ])) ≡ true
recovered_commits None u h = h
recovered_commits (Some c) u h = grind (arith, h)

pub committed_prelude : (who : Who) (d : Digest) (e : Event) (u : Aaid) → refusal who d e ≡ None → is_committed_in u (prelude who d e) ≡ true → is_committed_in u d ≡ true
committed_prelude who d e u ok h = elim (or_case (is_now u s.current && is_committing (phase_of s)) (keeps_commit u s.kept) h) [
  | inl i ↦ current i (came_by who d e ok)
  | inr i ↦ (let k : keeps_commit u d.kept ≡ true = sym (kept_prelude who d e u) ∙ i in rw k (grind arith))
]
  where
    s : Digest
    s = prelude who d e

    current : (is_now u s.current && is_committing (phase_of s)) ≡ true → Came who d e → is_committed_in u d ≡ true
    current i (As_it_was j) =
        let same : (is_now u d.current && is_committing (phase_of d)) ≡ true = sym (ap (λ (v : Option Current). is_now u v && is_committing (elim v as (λ _. Phase) [ None ↦ Phase.Nil | Some c ↦ c.phase ])) j) ∙ i in
        rw same refl
    current i (By_begin from x y q t b k a is found cur nil above) =
        let none : (is_now u s.current && is_committing (phase_of s)) ≡ false = ap (λ (v : Option Current). is_now u v && is_committing (elim v as (λ _. Phase) [ None ↦ Phase.Nil | Some c ↦ c.phase ])) cur ∙ grind arith in
        absurd (cc (i, none))
    current i (By_crash is j) =
        let old = recovered_commits d.current u (sym (ap (λ (v : Option Current). is_now u v && is_committing (elim v as (λ _. Phase) [ None ↦ Phase.Nil | Some c ↦ c.phase ])) j) ∙ i) in
        rw old refl

sent_orders : (u : Aaid) (outs : List Out) (a : Addr) (r : PeerRecord) → orders_tree u r ≡ true → IsSentIn outs a r → sends_order u outs ≡ true
sent_orders u [] a r h s = absurd s
sent_orders u (Out.Tell i ∷ outs) a r h s = sent_orders u outs a r h s
sent_orders u (Out.Send b q ∷ outs) a r h (inl s) = let k : orders_tree u q ≡ true = ap (orders_tree u) s.1 ∙ h in rw k refl
sent_orders u (Out.Send b q ∷ outs) a r h (inr s) = let k = sent_orders u outs a r h s in rw k (grind arith)

-- an event orders, commits and keeps only what is logged
own_entry : (o : Origin) (up : Option Addr) (e : Entry) (h : List Entry) → IsGrown o up (e ∷ h) → ((u : Aaid) → is_committed_in u (digest o h) ≡ true → decided o u h ≡ true)
    → ((u : Aaid) → sends_order u (action o.who (digest o h) e.event).outs ≡ true → decided o u (e ∷ h) ≡ true) × ((u : Aaid) → is_committed_in u (digest o (e ∷ h)) ≡ true → decided o u (e ∷ h) ≡ true)
own_entry o up e h legal old =
    let d : Digest = digest o h in
    let s : Digest = prelude o.who d e.event in
    let recs : e.rec ≡ (action o.who d e.event).rec = ap (λ (f : Entry). f.rec) (sym legal.1) in
    every_move o.who d e.event IsOwnMove (own_moves o.who e.event s) (late_law o up h legal.3) legal.0 (λ u. decided o u (e ∷ h))
    (λ u i. commit_more u e.rec (records o h) (old u (committed_prelude o.who d e.event u legal.0 i)))
    (λ u i. commit_first u e.rec (records o h) (ap (commits_tree u) recs ∙ i))

pub own_law : (o : Origin) (up : Option Addr) (h : List Entry) (u : Aaid) → o.start.records ≡ [] → IsGrown o up h → is_committed_in u (digest o h) ≡ true → decided o u h ≡ true
unfolding started
own_law o up [] u empty legal h =
    let none : is_committed_in u (digest o []) ≡ false = rw empty refl in
    absurd (cc (none, h))
own_law o up (e ∷ h) u empty legal i = (own_entry o up e h legal (λ v j. own_law o up h v empty legal.3 j)).1 u i

-- who ordered a commitment in recovery has logged it
pub sent_decided : (o : Origin) (up : Option Addr) (h : List Entry) (u : Aaid) (a : Addr) (r : PeerRecord) → o.start.records ≡ [] → IsGrown o up h → orders_tree u r ≡ true → HasSent h a r → decided o u h ≡ true
sent_decided o up [] u a r empty legal k s = absurd s
sent_decided o up (e ∷ h) u a r empty legal k (inr s) = commit_more u e.rec (records o h) (sent_decided o up h u a r empty legal.3 k s)
sent_decided o up (e ∷ h) u a r empty legal k (inl s) =
    let outs : IsSentIn (action o.who (digest o h) e.event).outs a r = subst (λ (f : Entry). IsSentIn f.outs a r) (sym legal.1) s in
    (own_entry o up e h legal (λ v j. own_law o up h v empty legal.3 j)).0 u (sent_orders u (action o.who (digest o h) e.event).outs a r k outs)

-- ---- the order that was taken

pub data OrderTaken (up : Option Addr) (h : List Entry) (t : Aaid) : Type 0 where
  Over_association : (p : ℕ) (x y : Mark) (b : BranchId) (before rest : List DialogueRecord) → is_at up p ≡ true → accepted_on x y p h ≡ before ++ DialogueRecord.Commit ∷ rest → last_from None before ≡ Some (t, b) → OrderTaken up h t
  In_recovery : (a : Addr) (r : PeerRecord) → is_at up a.node ≡ true → orders_tree t r ≡ true → HasBrought h a r → OrderTaken up h t

taken_later : (up : Option Addr) (e : Entry) (h : List Entry) (t : Aaid) → OrderTaken up h t → OrderTaken up (e ∷ h) t
taken_later up e h t (Over_association p x y b before rest at taken last) =
    Over_association p x y b before (rest ++ took_of x y p e.event) at (ap (λ (rs : List DialogueRecord). rs ++ took_of x y p e.event) taken ∙ append_assoc before (DialogueRecord.Commit ∷ rest) (took_of x y p e.event)) last
taken_later up e h t (In_recovery a r at k took) = In_recovery a r at k (inr took)

-- the current key is that of the last Begin that was taken
pub last_taken : (o : Origin) (up : Option Addr) (h : List Entry) (p : ℕ) (x y : Mark) (s k : ℕ) (c : Current) (u : Aaid) (b : BranchId) (a : Addr) → IsPaired o up h → IsLate (digest o h) → link_with (digest o h).arcs p ≡ Live x y s k → (digest o h).current ≡ Some c
    → c.key ≡ Under u b a → is_under_at c.key p ≡ true → last_from None (accepted_on x y p h) ≡ Some (u, b)
last_taken o up h p x y s k c u b a paired late live now key under =
    let place = paired.places p x y s k live c u b a now (late c now) key under in
    let one : under_at (digest o h).current p ≡ 1 = ap (λ (v : Option Current). under_at v p) now ∙ rw (late c now, under) refl in
    last_is None (accepted_on x y p h) (ends_in (sent_on x y p h)) (u, b) place (count (length (begun_keys (accepted_on x y p h))) (ends_in (sent_on x y p h)) (under_at (digest o h).current p) (paired.balance p x y s k live) one)
  where
    count : (n m v : ℕ) → n ≡ m + v → v ≡ 1 → n ≡ suc m
    count n m v h i = omega (arith, h, i)

question_from : (who : Who) (d : Digest) (from : Addr) (t : Aaid) (b : BranchId) (c : Current) (u : Aaid) (v : BranchId) (a : Addr) → refusal who d (Event.Arrive from (PeerRecord.RecCommit t b)) ≡ None → d.current ≡ Some c → is_key (node_key c.key) (branch_key t b) ≡ true
    → c.key ≡ Under u v a → is_addr a from ≡ true
unfolding refusal verdict refused_arrival
question_from who d from t b c u v a ok now key under =
    let one : superior_of c.key ≡ Some a = ap superior_of under in
    grind (arith, ok, now, key, one)

reply_from : (who : Who) (d : Digest) (from : Addr) (t : Aaid) (b : BranchId) (c : Current) (u : Aaid) (v : BranchId) (a : Addr) → refusal who d (Event.Arrive from (PeerRecord.RecReply t b RecState.Commit)) ≡ None → d.current ≡ Some c → is_key (node_key c.key) (branch_key t b) ≡ true
    → c.key ≡ Under u v a → is_addr a from ≡ true
unfolding refusal verdict refused_arrival
reply_from who d from t b c u v a ok now key under =
    let one : superior_of c.key ≡ Some a = ap superior_of under in
    grind (arith, ok, now, key, one)

pub key_of_tree : (c : Current) (u : Aaid) (v : BranchId) (a : Addr) (t : Aaid) (b : BranchId) → c.key ≡ Under u v a → is_key (node_key c.key) (branch_key t b) ≡ true → u ≡ t
key_of_tree c u v a t b under key =
    let one : is_key (node_key (Under u v a)) (branch_key t b) ≡ true = subst (λ (k : Key). is_key (node_key k) (branch_key t b) ≡ true) under key in
    aaids_equal u t (grind (arith, one))

pub order_record : (r : DialogueRecord) (p : ℕ) (c : _) → is_order_for (TxEvent.Took p r) c ≡ true → r ≡ DialogueRecord.Commit
order_record DialogueRecord.Commit p c h = refl
order_record r p c h = absurd (grind (arith, h))

pub no_request : (r : Request) (c : Current) (f : TxEvent) (t : Transaction) → IsAskedByRequest r c f → is_order_for f t ≡ true → ⊥
no_request (Request.UAbort p) c f t asked ord = absurd (cc (ap (λ (g : TxEvent). is_order_for g t) asked.0, ord))
no_request (Request.DeferEnd p) c f t asked ord = absurd (cc (ap (λ (g : TxEvent). is_order_for g t) asked, ord))
no_request (Request.DeferGrant p) c f t asked ord = absurd (cc (ap (λ (g : TxEvent). is_order_for g t) asked, ord))
no_request (Request.Prepare p) c f t asked ord = absurd (cc (ap (λ (g : TxEvent). is_order_for g t) asked, ord))
no_request Request.Commit c f t asked ord = absurd (cc (ap (λ (g : TxEvent). is_order_for g t) asked, ord))
no_request Request.Done c f t asked ord = absurd (cc (ap (λ (g : TxEvent). is_order_for g t) asked, ord))
no_request Request.Rollback c f t asked ord = absurd (cc (ap (λ (g : TxEvent). is_order_for g t) asked, ord))
no_request Request.Unchanged c f t asked ord = absurd (cc (ap (λ (g : TxEvent). is_order_for g t) asked, ord))
no_request r c f t asked ord = absurd asked

ordered_event : (o : Origin) (up : Option Addr) (e : Entry) (h : List Entry) (c : Current) (u : Aaid) (b : BranchId) (a : Addr) → o.start.records ≡ [] → IsGrown o up (e ∷ h) → (prelude o.who (digest o h) e.event).current ≡ Some c → c.key ≡ Under u b a
    → is_at up a.node ≡ true → (f : Event) → e.event ≡ f → IsOrdered o.who f c → OrderTaken up (e ∷ h) u
ordered_event o up e h c u b a empty legal now key at (Event.Arrive from (PeerRecord.OnAssoc x y q r)) is (f, arcs, asked, ord) =
    let ord_f : is_order_for (TxEvent.Took from.node r) (seen o.who arcs c) ≡ true = subst (λ (g : TxEvent). is_order_for g (seen o.who arcs c) ≡ true) asked ord in
    let commit = order_record r from.node (seen o.who arcs c) ord_f in
    go commit (subst (λ (v : DialogueRecord). is_order_for (TxEvent.Took from.node v) (seen o.who arcs c) ≡ true) commit ord_f)
  where
    d : Digest
    d = digest o h

    go : r ≡ DialogueRecord.Commit → is_under_at c.key from.node ≡ true → OrderTaken up (e ∷ h) u
    go commit under =
        let ev : e.event ≡ Event.Arrive from (PeerRecord.OnAssoc x y q DialogueRecord.Commit) = is ∙ ap (λ (v : DialogueRecord). Event.Arrive from (PeerRecord.OnAssoc x y q v)) commit in
        let ok : refusal o.who d (Event.Arrive from (PeerRecord.OnAssoc x y q DialogueRecord.Commit)) ≡ None = subst (λ (v : Event). refusal o.who d v ≡ None) ev legal.0 in
        let now_d : d.current ≡ Some c = sym (ap (λ (v : Event). (prelude o.who d v).current) ev) ∙ now in
        let l = takes_next o.who d from x y q DialogueRecord.Commit ok in
        let last = last_taken o up h from.node x y l.sent q c u b a (paired_law o up h empty legal.3) (late_law o up h legal.3) l.live now_d key under in
        let node : a.node ≡ from.node = node_is (subst (λ (k : Key). is_under_at k from.node ≡ true) key under) in
        let took : took_of x y from.node e.event ≡ DialogueRecord.Commit ∷ [] = ap (took_of x y from.node) ev ∙ grind (arith, nat_tests, mark_same x, mark_same y) in
        Over_association from.node x y b (accepted_on x y from.node h) [] (subst (λ (n : ℕ). is_at up n ≡ true) node at) (ap (λ (rs : List DialogueRecord). accepted_on x y from.node h ++ rs) took) last
      where
        node_is : (a.node == from.node) ≡ true → a.node ≡ from.node
        node_is h = grind (arith, nat_tests, h)
ordered_event o up e h c u b a empty legal now key at (Event.Arrive from (PeerRecord.RecCommit t v)) is (f, arcs, asked, ord) =
    let ok : refusal o.who (digest o h) (Event.Arrive from (PeerRecord.RecCommit t v)) ≡ None = subst (λ (w : Event). refusal o.who (digest o h) w ≡ None) is legal.0 in
    let now_d : (digest o h).current ≡ Some c = sym (ap (λ (w : Event). (prelude o.who (digest o h) w).current) is) ∙ now in
    let same = addrs_equal a from (question_from o.who (digest o h) from t v c u b a ok now_d asked.1 key) in
    let tree = key_of_tree c u b a t v key asked.1 in
    In_recovery from (PeerRecord.RecCommit t v) (ap (λ (w : Addr). is_at up w.node) (sym same) ∙ at) (ap (λ (w : Aaid). is_aaid w t) tree ∙ aaid_same t) (inl (ap brought is))
ordered_event o up e h c u b a empty legal now key at (Event.Arrive from (PeerRecord.RecReply t v RecState.Commit)) is (f, arcs, asked, ord) =
    let ok : refusal o.who (digest o h) (Event.Arrive from (PeerRecord.RecReply t v RecState.Commit)) ≡ None = subst (λ (w : Event). refusal o.who (digest o h) w ≡ None) is legal.0 in
    let now_d : (digest o h).current ≡ Some c = sym (ap (λ (w : Event). (prelude o.who (digest o h) w).current) is) ∙ now in
    let same = addrs_equal a from (reply_from o.who (digest o h) from t v c u b a ok now_d asked.1 key) in
    let tree = key_of_tree c u b a t v key asked.1 in
    In_recovery from (PeerRecord.RecReply t v RecState.Commit) (ap (λ (w : Addr). is_at up w.node) (sym same) ∙ at) (ap (λ (w : Aaid). is_aaid w t) tree ∙ aaid_same t) (inl (ap brought is))
ordered_event o up e h c u b a empty legal now key at (Event.Do r) is (f, arcs, asked, ord) = absurd (no_request r c f (seen o.who arcs c) asked ord)
ordered_event o up e h c u b a empty legal now key at (Event.Arrive from (PeerRecord.RecReply t v (RecState.Done r))) is (f, arcs, asked, ord) = absurd (cc (ap (λ (g : TxEvent). is_order_for g (seen o.who arcs c)) asked.0, ord))
ordered_event o up e h c u b a empty legal now key at (Event.Arrive from (PeerRecord.RecReply t v RecState.Unknown)) is (f, arcs, asked, ord) = absurd (cc (ap (λ (g : TxEvent). is_order_for g (seen o.who arcs c)) asked.0, ord))
ordered_event o up e h c u b a empty legal now key at (Event.Arrive from (PeerRecord.RecReply t v RecState.RetryLater)) is (f, arcs, asked, ord) = absurd (cc (ap (λ (g : TxEvent). is_order_for g (seen o.who arcs c)) asked.0, ord))
ordered_event o up e h c u b a empty legal now key at (Event.Arrive from (PeerRecord.ShutAssoc x None)) is (f, arcs, asked, ord) = absurd asked
ordered_event o up e h c u b a empty legal now key at (Event.Arrive from (PeerRecord.ShutAssoc x (Some y))) is (f, arcs, asked, ord) = absurd (cc (ap (λ (g : TxEvent). is_order_for g (seen o.who arcs c)) asked, ord))
ordered_event o up e h c u b a empty legal now key at (Event.Arrive from r) is (f, arcs, asked, ord) = absurd asked
ordered_event o up e h c u b a empty legal now key at (Event.Declare s) is (f, arcs, asked, ord) = absurd asked
ordered_event o up e h c u b a empty legal now key at (Event.Break from r) is (f, arcs, asked, ord) = absurd (cc (ap (λ (g : TxEvent). is_order_for g (seen o.who arcs c)) asked, ord))
ordered_event o up e h c u b a empty legal now key at (Event.Lose p) is (f, arcs, asked, ord) = absurd (cc (ap (λ (g : TxEvent). is_order_for g (seen o.who arcs c)) asked, ord))
ordered_event o up e h c u b a empty legal now key at (Event.Heur v) is (f, arcs, asked, ord) = absurd (cc (ap (λ (g : TxEvent). is_order_for g (seen o.who arcs c)) asked, ord))
ordered_event o up e h c u b a empty legal now key at (Event.GiveUp p) is (f, arcs, asked, ord) = absurd (cc (ap (λ (g : TxEvent). is_order_for g (seen o.who arcs c)) asked, ord))
ordered_event o up e h c u b a empty legal now key at Event.Retry is (f, arcs, asked, ord) = absurd (cc (ap (λ (g : TxEvent). is_order_for g (seen o.who arcs c)) asked, ord))
ordered_event o up e h c u b a empty legal now key at Event.Purge is (f, arcs, asked, ord) = absurd asked
ordered_event o up e h c u b a empty legal now key at Event.Crash is (f, arcs, asked, ord) = absurd asked

-- ---- every legal history

commit_is : (t : Aaid) (r : Option LogRec) → commits_tree t r ≡ true → is_commit_rec r ≡ true
commit_is t (Some (LogRec.Commit n k s cs)) h = refl
commit_is t _ h = absurd cc

-- the tree of the record is that of what is current
commit_tree : (t : Aaid) (s : Digest) (c : Current) (r : Option LogRec) → IsLoggedIn t s r → s.current ≡ Some c → commits_tree t r ≡ true → t ≡ aaid_of c.key
commit_tree t s c (Some (LogRec.Commit n k a cs)) l at h =
    let x = l h in
    let one : x.0 ≡ c = some_same x.0 c (sym x.1 ∙ at) in
    aaids_equal t k.aaid h ∙ ap (λ (v : NodeKey). v.aaid) x.2 ∙ key_aaid x.0.key ∙ ap (λ (v : Current). aaid_of v.key) one
commit_tree t s c _ l at h = absurd cc

-- a commitment that was logged is of a tree of the node's own, or was ordered by its superior
pub commit_taken : (o : Origin) (up : Option Addr) (h : List Entry) (t : Aaid) → o.start.records ≡ [] → IsGrown o up h → decided o t h ≡ true → ((t.owner ≡ o.who.site) × (t.mark.node ≡ o.who.node)) ⊎ OrderTaken up h t
commit_taken o up [] t empty legal c = let none : decided o t [] ≡ false = rw empty refl in absurd (cc (none, c))
commit_taken o up (e ∷ h) t empty legal c = go (commit_case t e.rec (records o h) c) (commit_taken o up h t empty legal.3)
  where
    d : Digest
    d = digest o h

    s : Digest
    s = prelude o.who d e.event

    recs : e.rec ≡ (action o.who d e.event).rec
    recs = ap (λ (f : Entry). f.rec) (sym legal.1)

    keyed : IsKeyedMove o.who e.event s s (action o.who d e.event)
    keyed = every_move o.who d e.event (IsKeyedMove o.who e.event s) (keyed_moves o.who e.event s) (late_law o up h legal.3) legal.0

    logs : IsLoggedIn t s (action o.who d e.event).rec
    logs = (treed_rolls o.who d e.event t 0 (late_law o up h legal.3) legal.0).logs

    new : commits_tree t (action o.who d e.event).rec ≡ true → ((t.owner ≡ o.who.site) × (t.mark.node ≡ o.who.node)) ⊎ OrderTaken up (e ∷ h) t
    new i =
        let x = keyed.orders (commit_is t (action o.who d e.event).rec i) in
        by_key x.0 x.1 (commit_tree t s x.0 (action o.who d e.event).rec logs x.1 i) x.2 x.0.key refl ((placed_event o up e h 0 empty legal).keyed x.0 x.1)
      where
        by_key : (c : Current) → s.current ≡ Some c → t ≡ aaid_of c.key → (is_under c.key ≡ true → IsOrdered o.who e.event c) → (k : Key) → c.key ≡ k → IsKeyOf o.who up c.key → ((t.owner ≡ o.who.site) × (t.mark.node ≡ o.who.node)) ⊎ OrderTaken up (e ∷ h) t
        by_key c at tree ordered (Root u) j f =
            let own : (u.owner ≡ o.who.site) × (u.mark.node ≡ o.who.node) = subst (λ (v : Key). IsKeyOf o.who up v) j f in
            let same : t ≡ u = tree ∙ ap aaid_of j in
            inl (ap (λ (v : Aaid). v.owner) same ∙ own.0, ap (λ (v : Aaid). v.mark.node) same ∙ own.1)
        by_key c at tree ordered (Under u b a) j f =
            let above : is_at up a.node ≡ true = subst (λ (v : Key). IsKeyOf o.who up v) j f in
            let same : t ≡ u = tree ∙ ap aaid_of j in
            inr (subst (λ (v : Aaid). OrderTaken up (e ∷ h) v) (sym same) (ordered_event o up e h c u b a empty legal at j above e.event refl (ordered (ap is_under j))))

    go : (commits_tree t e.rec ≡ true) ⊎ (decided o t h ≡ true) → (decided o t h ≡ true → ((t.owner ≡ o.who.site) × (t.mark.node ≡ o.who.node)) ⊎ OrderTaken up h t) → ((t.owner ≡ o.who.site) × (t.mark.node ≡ o.who.node)) ⊎ OrderTaken up (e ∷ h) t
    go (inl i) rest = new (ap (commits_tree t) (sym recs) ∙ i)
    go (inr i) rest = elim (rest i) [ inl j ↦ inl j | inr j ↦ inr (taken_later up e h t j) ]
