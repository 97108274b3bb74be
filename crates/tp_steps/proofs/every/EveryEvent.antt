-- Every event of a node: records that arrive, local events, and all together.
use Rattle.std.proofs.Common.{if◌then◌else◌, ◌≡◌, ◌⊎◌, inl, inr, ℕ, Bool, true, false, refl, ap, sym, subst, ◌∙◌, arith, Option, Some, None, List, [], ◌∷◌, ◌++◌, ◌==◌, ◌&&◌, not}
use Rattle.tp_names.specs.declared.identifiers.Mark.{Mark}
use Rattle.tp_names.specs.declared.identifiers.Aaid.{Aaid}
use Rattle.tp_names.specs.declared.identifiers.BranchId.{BranchId}
use Rattle.tp_names.specs.declared.identifiers.NodeKey.{NodeKey}
use Rattle.tp_names.specs.declared.identifiers.Addr.{Addr}
use Rattle.tp_names.specs.declared.children.Child.{Child}
use Rattle.tp_names.specs.declared.outcome.Outcome.{Outcome}
use Rattle.tp_names.specs.declared.outcome.Report.{Report}
use Rattle.tp_names.specs.declared.children.Child.{Child}
use Rattle.tp_names.specs.Same.{is_aaid, is_key, is_addr}
use Rattle.tp_records.specs.declared.request.Request.{Request}
use Rattle.tp_records.specs.declared.indication.Indication.{Indication}
use Rattle.tp_records.specs.declared.dialogue.DialogueRecord.{DialogueRecord}
use Rattle.tp_records.specs.declared.peer.PeerRecord.{PeerRecord}
use Rattle.tp_records.specs.declared.peer.RecState.{RecState}
use Rattle.tp_model.specs.declared.arc.Side.{Side}
use Rattle.tp_model.specs.declared.transaction.TxEvent.{TxEvent}
use Rattle.tp_model.specs.declared.transaction.TxOut.{TxOut}
use Rattle.tp_model.specs.declared.recovery.Kept.{Kept}
use Rattle.tp_model.specs.declared.recovery.KeptEvent.{KeptEvent}
use Rattle.tp_model.specs.declared.recovery.Question.{Question}
use Rattle.tp_model.specs.Parts.{Who, Event, Live, Arc, Branch, Current, Digest}
use Rattle.tp_model.specs.Dialogues.{is_nil, is_active, is_ready, is_committing, fresh_dialogue, is_chained}
use Rattle.tp_model.specs.Arcs.{find_arc, put_arc}
use Rattle.tp_model.specs.Transactions.{aaid_of, node_key, refused_tx}
use Rattle.tp_model.specs.Recovery.{find_owed, is_nothing_owed, is_root_key, refused_kept, is_commit, settled, noted, owed, find_kept, with_forget, forget_to, ask_owed, tell_superior, recovery_answer}
use Rattle.tp_model.specs.Node.{Move, move, followed, perform, phase_of, has_asked, seen, begin_on, try_start, transact, keep}
use Rattle.tp_model.specs.Arrivals.{Named, current_with, child_addr, is_other, find_branch_by_id, branch_key, key_of_branch, named_by_key, named_by_branch, known_of, is_current_ready, lose, refused_arrival, take_accept, reply_to, take_order, take_forget, take_done_reply, take_ready_reply, take_reply, do_arrival, broken_pair, break_off}
use Rattle.tp_model.specs.Requests.{refused_request}
use Rattle.tp_model.specs.Events.{refused_purge, retry_each, retry, purge, action, refusal, verdict}
use Rattle.tp_steps.specs.Moves.{KeepsFor, owes_branch, prelude, linked, IsAsked, are_said, may_begin, some_leads, Moves}
use Rattle.tp_steps.specs.Moves.{IsAmong, StandsIn, IsLate, orders_in, keeps_commit, keeps_idle, is_committed_in, IsOwned, AreSaid, IsFound, IsUnderWay, IsSettling}
use Rattle.tp_steps.specs.Steps.{Steps}
use Rattle.tp_steps.proofs.links.Saying.{one_said, said_ready, said_order}
use Rattle.tp_steps.proofs.links.Saying.{said_owed as owed_so, said_forget as forget_so}
use Rattle.tp_steps.proofs.log.ApartLog.{keys_equal}
use Rattle.tp_steps.proofs.log.TurnLog.{key_self}
use Rattle.tp_steps.proofs.words.Leaves.{aaid_same}
use Rattle.tp_steps.proofs.lemmas.KeptList.{found_among, noted_among, noted_forgotten, found_stands, noted_stands, noted_again}
use Rattle.tp_steps.proofs.log.Owned.{key_aaid, kept_key, branch_tree, found_kept, noted_kept, noted_found, owed_orders, commit_commit, reply_owned}
use Rattle.std.proofs.lemmas.Bool.Decides.{nat_tests}
use Rattle.tp_steps.proofs.every.EveryMove.{said_itself, step_start, step_transact, step_lose, step_request, plain_steps}
use Rattle.tp_steps.proofs.every.EveryRecord.{spoken_owed, spoken_forget, last_owed, last_forget, step_on_begin, step_on_other}
use Rattle.tp_steps.proofs.lemmas.Alike.{same_way}

-- ---- the other records of peers

-- an arc that is put in the place of another, and is chained
accepted_free : (arcs : List Arc) (q : ℕ) (a b : Arc) → find_arc arcs q ≡ Some a → b.peer ≡ a.peer → is_chained b.dialogue ≡ true → some_leads may_begin a.peer.node (put_arc arcs b) ≡ true
accepted_free [] q a b h same c = absurd cc
accepted_free (x ∷ arcs) q a b h same c = go (x.peer.node == b.peer.node) refl (x.peer.node == q) refl (accepted_free arcs q a b)
  where
    node : b.peer.node ≡ a.peer.node
    node = ap (λ (u : Addr). u.node) same

    go : (e : Bool) → (x.peer.node == b.peer.node) ≡ e → (f : Bool) → (x.peer.node == q) ≡ f → (find_arc arcs q ≡ Some a → b.peer ≡ a.peer → is_chained b.dialogue ≡ true → some_leads may_begin a.peer.node (put_arc arcs b) ≡ true)
        → some_leads may_begin a.peer.node (if e then b ∷ arcs else x ∷ put_arc arcs b) ≡ true
    go true i f j rest = let at : (b.peer.node == a.peer.node) ≡ true = grind (arith, nat_tests, node) in grind (arith, c, at)
    go false i true j rest = let one : x ≡ a = cc (h, j) in absurd (grind (arith, nat_tests, i, node, one))
    go false i false j rest = let more = rest (grind (arith, h, j)) same c in grind (arith, more)

said_append : (e : Event) (xs ys : List TxOut) → are_said e xs ≡ true → are_said e ys ≡ true → are_said e (xs ++ ys) ≡ true
said_append e [] ys h i = i
said_append e (x ∷ xs) ys h i = grind (arith, said_append e xs ys)

said_ask : (e : Event) (a : Aaid) (cs : List Child) → are_said e (ask_owed a cs) ≡ true
said_ask e a [] = refl
said_ask e a (c ∷ cs) = said_ask e a cs

said_owed : (e : Event) (k : Kept) → are_said e (owed k) ≡ true
unfolding owed
said_owed e k =
    let asks = said_ask e k.key.aaid k.owed in
    let tells : are_said e (tell_superior k) ≡ true = grind arith in
    grind (arith, said_append e (ask_owed k.key.aaid k.owed) (tell_superior k), asks, tells)

said_forget : (e : Event) (to : Addr) (k : NodeKey) (b : BranchId) (r : Report) → are_said e (forget_to to k b r) ≡ true
said_forget e to k b r = grind arith

step_accepted : (who : Who) (d : Digest) (from : Addr) (x y : Mark) (u : ℕ) (R : Digest → Move → Type 0) → Steps who (Event.Arrive from (PeerRecord.AcceptAssoc x y u)) (linked (find_arc d.arcs from.node) x y u d) R
    → (o : Option Arc) → find_arc d.arcs from.node ≡ o → R (linked o x y u d) (elim o as (λ _. Move) [ None ↦ move [] d | Some a ↦ take_accept who a x y u d ])
unfolding take_accept
step_accepted who d from x y u R k None i = k.still d
step_accepted who d from x y u R k (Some a) i =
    k.chain live first rest (k.speaks live outs refl (λ u h. absurd (cc (h)), λ z r h. absurd h) refl refl) (go (is_chained (fresh_dialogue u Side.Superior)) (is_nil (phase_of first.next)) (is_active (phase_of first.next) && not (has_asked first.next)) refl) (inl refl)
  where
    live : Digest
    live = linked (Some a) x y u d

    outs : List TxOut
    outs = TxOut.Tell (Indication.BegunDialogue a.peer.node u) ∷ []

    first : Move
    first = perform outs live

    rest : Digest → Move
    rest e = if not (is_chained (fresh_dialogue u Side.Superior)) then move [] e else if is_nil (phase_of e) then try_start who e else if is_active (phase_of e) && not (has_asked e) then begin_on who a.peer.node e else move [] e

    go : (b c v : Bool) → is_chained (fresh_dialogue u Side.Superior) ≡ b → R first.next (if not b then move [] first.next else if c then try_start who first.next else if v then begin_on who a.peer.node first.next else move [] first.next)
    go false c v j = k.still first.next
    go true true v j = step_start who _ _ R k first.next
    go true false true j = k.begins first.next a.peer.node (accepted_free d.arcs from.node a (record a { link = Live x y 0 0; dialogue = fresh_dialogue u Side.Superior }) i refl j)
    go true false false j = k.still first.next

step_reply_to : (who : Who) (e : Event) (s : Digest) (R : Digest → Move → Type 0) → Steps who e s R → (from : Addr) (t : Aaid) (b : BranchId) (o : Option RecState) (d : Digest) → ((v : RecState) → o ≡ Some v → IsOwned d (TxOut.Recovery from (PeerRecord.RecReply t b v) ∷ []) × AreSaid e s d (TxOut.Recovery from (PeerRecord.RecReply t b v) ∷ [])) → R d (reply_to from t b o d)
step_reply_to who e s R k from t b None d own = k.still d
step_reply_to who e s R k from t b (Some v) d own = k.speaks d (TxOut.Recovery from (PeerRecord.RecReply t b v) ∷ []) refl (own v refl) refl refl

-- the current transaction is the one that is named, and is ready
pub ready_named : (d : Digest) (t : Aaid) (b : BranchId) (c : Current) → is_current_ready (named_by_key d (branch_key t b)) ≡ true → d.current ≡ Some c
    → (is_key (node_key c.key) (branch_key t b) ≡ true) × (is_ready c.phase ≡ true)
ready_named d t b c h i = (grind (arith, h, i), grind (arith, h, i))

plain_reply : (d : Digest) (from : Addr) (t : Aaid) (b : BranchId) (v : RecState) (n : Named) → recovery_answer (known_of n b) Question.RecCommit ≡ Some v → IsOwned d (TxOut.Recovery from (PeerRecord.RecReply t b v) ∷ [])
plain_reply d from t b RecState.Commit n h u i = absurd (commit_commit n b h)
plain_reply d from t b v n h u i = absurd (grind (arith, i))

forget_orders : (u : Aaid) (to : Addr) (k : NodeKey) (b : BranchId) (r : Report) → orders_in u (forget_to to k b r) ≡ false
forget_orders u to k b r = grind arith

step_order : (who : Who) (d : Digest) (from : Addr) (t : Aaid) (b : BranchId) (R : Digest → Move → Type 0) → Steps who (Event.Arrive from (PeerRecord.RecCommit t b)) d R → IsLate d → R d (take_order who from t b d)
unfolding refused_tx
step_order who d from t b R k late = go (is_current_ready (named_by_key d (branch_key t b))) refl
  where
    go : (v : Bool) → is_current_ready (named_by_key d (branch_key t b)) ≡ v
        → R d (if v then transact who TxEvent.Ordered d else reply_to from t b (recovery_answer (known_of (named_by_key d (branch_key t b)) b) Question.RecCommit) d)
    go true i =
        step_transact who (Event.Arrive from (PeerRecord.RecCommit t b)) d R k TxEvent.Ordered d (refl, refl, λ n off. refl) (λ c j. (refl, (ready_named d t b c i j).0))
        (λ c j. record { late = late c j; ok = λ h. refl; abort = λ n h. cc (h); ordered = λ h. (ready_named d t b c i j).1; not_begun = λ arcs h. cc (h) })
        (λ n i. absurd (cc (i)))
    go false i = step_reply_to who _ d R k from t b (recovery_answer (known_of (named_by_key d (branch_key t b)) b) Question.RecCommit) d (λ v j. (plain_reply d from t b v (named_by_key d (branch_key t b)) j, said_order d from t b v j))

step_replied : (who : Who) (e : Event) (d : Digest) (b : BranchId) (v : RecState) (R : Digest → Move → Type 0) → Steps who e d R → IsLate d → ((c : Current) → d.current ≡ Some c → IsAsked e c (TxEvent.Reply b v))
    → R d (transact who (TxEvent.Reply b v) d)
unfolding refused_tx
step_replied who e d b v R k late asked =
    step_transact who e d R k (TxEvent.Reply b v) d (refl, refl, λ n off. refl) asked
    (λ c j. record { late = late c j; ok = λ h. refl; abort = λ n h. cc (h); ordered = λ h. cc (h); not_begun = λ arcs h. cc (h) })
    (λ n i. absurd (cc (i)))

step_ready_reply : (who : Who) (d : Digest) (from : Addr) (t : Aaid) (b : BranchId) (v : RecState) (R : Digest → Move → Type 0) → Steps who (Event.Arrive from (PeerRecord.RecReply t b v)) d R → IsLate d
    → ((c : Current) → is_key (node_key c.key) (branch_key t b) ≡ true → IsAsked (Event.Arrive from (PeerRecord.RecReply t b v)) c (TxEvent.Reply b v)) → R d (take_ready_reply who t b v d)
step_ready_reply who d from t b v R k late asked = go (is_current_ready (named_by_key d (branch_key t b))) refl
  where
    go : (w : Bool) → is_current_ready (named_by_key d (branch_key t b)) ≡ w → R d (if w then transact who (TxEvent.Reply b v) d else move [] d)
    go true i = step_replied who _ d b v R k late (λ c j. asked c (ready_named d t b c i j).0)
    go false i = k.still d

-- what is found under a key is found under its own
found_again : (ks : List Kept) (j : NodeKey) (x : Kept) → find_kept ks j ≡ Some x → (find_kept ks x.key ≡ Some x) × (x.key ≡ j)
found_again ks j x h =
    let same : x.key ≡ j = keys_equal x.key j (kept_key ks j x h) in
    (ap (find_kept ks) same ∙ h, same)

pub named_current : (d : Digest) (k : NodeKey) (u : Current) → current_with d k ≡ Some u → (d.current ≡ Some u) × (is_key (node_key u.key) k ≡ true)
named_current d k u h = go d.current refl
  where
    go : (o : Option Current) → d.current ≡ o → (d.current ≡ Some u) × (is_key (node_key u.key) k ≡ true)
    go None i = absurd (cc (rw (i, current_with) at h))
    go (Some c) i = on (is_key (node_key c.key) k) refl
      where
        on : (v : Bool) → is_key (node_key c.key) k ≡ v → (d.current ≡ Some u) × (is_key (node_key u.key) k ≡ true)
        on true j =
            let one : Some c ≡ Some u = rw (i, j, current_with) at h in
            (i ∙ one, ap (λ (o : Option Current). elim o as (λ _. Bool) [ None ↦ false | Some x ↦ is_key (node_key x.key) k ]) (sym one) ∙ j)
        on false j = absurd (cc (rw (i, j, current_with) at h))

done_plain : (who : Who) (d : Digest) (from : Addr) (t : Aaid) (b : BranchId) (r : Report) → refused_arrival who d from (PeerRecord.RecReply t b (RecState.Done r)) ≡ None → is_other (child_addr (named_by_branch d t b) b) from ≡ false
unfolding refused_arrival
done_plain who d from t b r ok = go (is_other (child_addr (named_by_branch d t b) b) from) refl
  where
    go : (v : Bool) → is_other (child_addr (named_by_branch d t b) b) from ≡ v → v ≡ false
    go false i = refl
    go true i = absurd (grind (arith, ok, i))

no_other : (a from : Addr) → is_other (Some a) from ≡ false → is_addr a from ≡ true
no_other a from h = grind (arith, h)

-- the branch of the current transaction that is named is where the reply is from
named_branch : (n : Named) (c : Current) (b : BranchId) (from : Addr) → n.current ≡ Some c → is_other (child_addr n b) from ≡ false → (x : Branch) → find_branch_by_id c.branches b ≡ Some x → is_addr x.peer from ≡ true
named_branch n c b from at other x found =
    let one : child_addr n b ≡ Some x.peer = rw (at, child_addr) (rw found refl) in
    no_other x.peer from (ap (λ (o : Option Addr). is_other o from) (sym one) ∙ other)

named_owed : (n : Named) (k : Kept) (b : BranchId) (from : Addr) → n.current ≡ None → n.kept ≡ Some k → is_other (child_addr n b) from ≡ false → (x : Child) → find_owed k.owed b ≡ Some x → is_addr x.addr from ≡ true
named_owed n k b from none at other x found =
    let one : child_addr n b ≡ Some x.addr = rw (none, at, child_addr) (rw found refl) in
    no_other x.addr from (ap (λ (o : Option Addr). is_other o from) (sym one) ∙ other)

pub tree_of_key : (c : Current) (k : NodeKey) (t : Aaid) → is_key (node_key c.key) k ≡ true → is_aaid k.aaid t ≡ true → is_aaid (aaid_of c.key) t ≡ true
tree_of_key c k t h i = let same : node_key c.key ≡ k = keys_equal (node_key c.key) k h in ap (λ (u : Aaid). is_aaid u t) (sym (key_aaid c.key) ∙ ap (λ (j : NodeKey). j.aaid) same) ∙ i

step_done_reply : (who : Who) (d : Digest) (from : Addr) (t : Aaid) (b : BranchId) (r : Report) (R : Digest → Move → Type 0) → Steps who (Event.Arrive from (PeerRecord.RecReply t b (RecState.Done r))) d R → IsLate d
    → refused_arrival who d from (PeerRecord.RecReply t b (RecState.Done r)) ≡ None → R d (take_done_reply who from t b r d)
step_done_reply who d from t b r R k late ok =
    go (elim n.current [ None ↦ false | Some c ↦ is_committing c.phase ]) refl n.kept refl n.current refl
  where
    n : Named
    n = named_by_branch d t b

    other : is_other (child_addr n b) from ≡ false
    other = done_plain who d from t b r ok

    -- the key that is named
    keyed : (c : Option Current) (x : Option Kept) → n.current ≡ c → n.kept ≡ x → ((c ≡ None) × (x ≡ None)) ⊎ (j : NodeKey) × (is_aaid j.aaid t ≡ true) × (current_with d j ≡ c) × (find_kept d.kept j ≡ x)
    keyed c x ic ix = on (key_of_branch d t b) refl
      where
        on : (o : Option NodeKey) → key_of_branch d t b ≡ o → ((c ≡ None) × (x ≡ None)) ⊎ (j : NodeKey) × (is_aaid j.aaid t ≡ true) × (current_with d j ≡ c) × (find_kept d.kept j ≡ x)
        on None j = inl (sym ic ∙ ap (λ (v : Option NodeKey). (elim v as (λ _. Named) [ None ↦ record { current = None; kept = None } | Some z ↦ named_by_key d z ]).current) j, sym ix ∙ ap (λ (v : Option NodeKey). (elim v as (λ _. Named) [ None ↦ record { current = None; kept = None } | Some z ↦ named_by_key d z ]).kept) j)
        on (Some z) j = inr (z, branch_tree d t b z j, sym (ap (λ (v : Option NodeKey). (elim v as (λ _. Named) [ None ↦ record { current = None; kept = None } | Some z ↦ named_by_key d z ]).current) j) ∙ ic, sym (ap (λ (v : Option NodeKey). (elim v as (λ _. Named) [ None ↦ record { current = None; kept = None } | Some z ↦ named_by_key d z ]).kept) j) ∙ ix)

    held : (x : Kept) → n.kept ≡ Some x → (u : Aaid) → (is_commit x.side && is_aaid u x.key.aaid) ≡ true → keeps_commit u d.kept ≡ true
    held x i u m = elim (keyed n.current (Some x) refl i) [ inl z ↦ absurd (cc (z.1)) | inr z ↦ found_kept d.kept z.0 x z.3 u m ]

    among : (x : Kept) → n.kept ≡ Some x → IsAmong d.kept x × StandsIn d.kept x × IsFound d.kept x
    among x i = elim (keyed n.current (Some x) refl i) [
      | inl z ↦ absurd (cc (z.1))
      | inr z ↦ (found_among d.kept z.0 x z.3, found_stands d.kept z.0 x z.3, (x, (found_again d.kept z.0 x z.3).0, refl))
    ]

    settling : (x : Kept) → n.kept ≡ Some x → (c : Option Current) → n.current ≡ c → elim n.current as (λ _. Bool) [ None ↦ false | Some c ↦ is_committing c.phase ] ≡ false → IsSettling (Event.Arrive from (PeerRecord.RecReply t b (RecState.Done r))) d d x (KeptEvent.Done from b r)
    settling x i c m off = elim (keyed c (Some x) m i) [
      | inl z ↦ absurd (cc (z.1))
      | inr z ↦ (let same = (found_again d.kept z.0 x z.3).1 in (t, refl, ap (λ (j : NodeKey). is_aaid j.aaid t) same ∙ z.1, refl, where_from c m z.0 z.2 same, (found_again d.kept z.0 x z.3).0))
    ]
      where
        where_from : (c : Option Current) → n.current ≡ c → (j : NodeKey) → current_with d j ≡ c → x.key ≡ j → ((y : Child) → find_owed x.owed b ≡ Some y → is_addr y.addr from ≡ true) ⊎ IsUnderWay d x.key
        where_from None m j w same = inl (named_owed n x b from m i other)
        where_from (Some u) m j w same =
            let at = named_current d j u w in
            let phase : is_committing u.phase ≡ false = ap (λ (o : Option Current). elim o as (λ _. Bool) [ None ↦ false | Some c ↦ is_committing c.phase ]) (sym m) ∙ off in
            inr (u, at.0, ap (is_key (node_key u.key)) same ∙ at.1, phase)

    asked : elim n.current as (λ _. Bool) [ None ↦ false | Some c ↦ is_committing c.phase ] ≡ true → (c : Option Current) → n.current ≡ c → (u : Current) → d.current ≡ Some u
        → IsAsked (Event.Arrive from (PeerRecord.RecReply t b (RecState.Done r))) u (TxEvent.Reply b (RecState.Done r))
    asked on None m u at = absurd (cc (ap (λ (o : Option Current). elim o as (λ _. Bool) [ None ↦ false | Some c ↦ is_committing c.phase ]) (sym m) ∙ on))
    asked on (Some c) m u at = elim (keyed (Some c) n.kept m refl) [
      | inl z ↦ absurd (cc (z.0))
      | inr z ↦ (let w = named_current d z.0 c z.2 in
          let one : Some c ≡ Some u = sym w.0 ∙ at in
          let same : c ≡ u = cc (one) in
          (refl, subst (λ (v : Current). is_aaid (aaid_of v.key) t ≡ true) same (tree_of_key c z.0 t w.1 z.1), subst (λ (v : Current). (x : Branch) → find_branch_by_id v.branches b ≡ Some x → is_addr x.peer from ≡ true) same (named_branch n c b from m other)))
    ]

    go : (v : Bool) → elim n.current as (λ _. Bool) [ None ↦ false | Some c ↦ is_committing c.phase ] ≡ v → (o : Option Kept) → n.kept ≡ o → (c : Option Current) → n.current ≡ c
        → R d (if v then transact who (TxEvent.Reply b (RecState.Done r)) d
        else elim o as (λ _. Move) [ Some k ↦ keep (settled k (KeptEvent.Done from b r)) d | None ↦ elim c as (λ _. Move) [ Some u ↦ move [] d | None ↦ perform (forget_to from (branch_key t b) b r) d ] ])
    go true v o i c m = step_replied who _ d b (RecState.Done r) R k late (λ u j. asked v c m u j)
    go false v (Some x) i c m = k.keeps d x (KeptEvent.Done from b r) (held x i, (among x i).0, (among x i).1, (among x i).2, settling x i c m v)
    go false v None i (Some u) m = k.still d
    go false v None i None m = k.speaks d (forget_to from (branch_key t b) b r) (spoken_forget from (branch_key t b) b r) (λ u h. absurd (cc (h, forget_orders u from (branch_key t b) b r)), forget_so d d from t b r m) (said_forget (Event.Arrive from (PeerRecord.RecReply t b (RecState.Done r))) from (branch_key t b) b r) (last_forget who d from (branch_key t b) b r)

step_take_reply : (who : Who) (d : Digest) (from : Addr) (t : Aaid) (b : BranchId) (v : RecState) (R : Digest → Move → Type 0) → Steps who (Event.Arrive from (PeerRecord.RecReply t b v)) d R → IsLate d
    → refused_arrival who d from (PeerRecord.RecReply t b v) ≡ None → R d (take_reply who from t b v d)
step_take_reply who d from t b RecState.Commit R k late ok = step_ready_reply who d from t b RecState.Commit R k late (λ c h. (refl, h))
step_take_reply who d from t b (RecState.Done r) R k late ok = step_done_reply who d from t b r R k late ok
step_take_reply who d from t b RecState.Unknown R k late ok = step_ready_reply who d from t b RecState.Unknown R k late (λ c h. (refl, h))
step_take_reply who d from t b RecState.RetryLater R k late ok = step_ready_reply who d from t b RecState.RetryLater R k late (λ c h. (refl, h))

step_forget : (who : Who) (from : Addr) (t : Aaid) (b : BranchId) (s : Digest) (R : Digest → Move → Type 0) → Steps who (Event.Arrive from (PeerRecord.Forget t b)) s R → (d : Digest) → R d (take_forget (branch_key t b) d)
step_forget who from t b s R k d = go (find_kept d.kept j) refl
  where
    j : NodeKey
    j = branch_key t b

    go : (o : Option Kept) → find_kept d.kept j ≡ o → R d (elim o as (λ _. Move) [ None ↦ move [] d | Some x ↦ keep (settled x KeptEvent.Forget) (record d { kept = with_forget d.kept j (λ y. noted y KeptEvent.Forget) }) ])
    go None i = k.still d
    go (Some x) i =
        let g : Digest = record d { kept = with_forget d.kept j (λ y. noted y KeptEvent.Forget) } in
        k.notes_kept d g.kept (keep (settled x KeptEvent.Forget) g) (λ u h. sym (noted_kept u d.kept j) ∙ h, noted_forgotten d.kept j) refl
        (k.keeps g x KeptEvent.Forget (λ u m. noted_found d.kept j x i u m, noted_among d.kept j x i, noted_stands d.kept j x i, noted_again d.kept j x i, (from, t, b, refl, (found_again d.kept j x i).1)))

step_arrival : (who : Who) (d : Digest) (from : Addr) (r : PeerRecord) (R : Digest → Move → Type 0) → Steps who (Event.Arrive from r) (prelude who d (Event.Arrive from r)) R → IsLate d → refused_arrival who d from r ≡ None
    → R (prelude who d (Event.Arrive from r)) (do_arrival who from r d)
step_arrival who d from (PeerRecord.OpenAssoc x u) R k late ok = k.speaks (prelude who d (Event.Arrive from (PeerRecord.OpenAssoc x u))) (TxOut.Tell (Indication.BeginDialogue from.node u) ∷ []) refl (λ u h. absurd (cc (h)), λ z r h. absurd h) refl refl
step_arrival who d from (PeerRecord.AcceptAssoc x y u) R k late ok = step_accepted who d from x y u R k (find_arc d.arcs from.node) refl
step_arrival who d from (PeerRecord.ShutAssoc x None) R k late ok = k.speaks d (TxOut.Close from.node ∷ TxOut.Tell (Indication.Rejected from.node) ∷ []) refl (λ u h. absurd (cc (h)), λ z r h. absurd h) (said_itself from.node) refl
step_arrival who d from (PeerRecord.ShutAssoc x (Some y)) R k late ok = step_lose who (Event.Arrive from (PeerRecord.ShutAssoc x (Some y))) d R k late from.node d (same_way from.node) (refl, refl, λ n off. refl) (λ c. refl)
step_arrival who d from (PeerRecord.OnAssoc x y q (DialogueRecord.Begin t b h)) R k late ok = step_on_begin who d from x y q t b h R k ok (find_arc d.arcs from.node) refl
step_arrival who d from (PeerRecord.OnAssoc x y q DialogueRecord.EndDialogue) R k late ok = step_on_other who d from x y q DialogueRecord.EndDialogue R k late (λ t b h i. cc (i)) ok
step_arrival who d from (PeerRecord.OnAssoc x y q (DialogueRecord.UserData xs)) R k late ok = step_on_other who d from x y q (DialogueRecord.UserData xs) R k late (λ t b h i. cc (i)) ok
step_arrival who d from (PeerRecord.OnAssoc x y q DialogueRecord.UError) R k late ok = step_on_other who d from x y q DialogueRecord.UError R k late (λ t b h i. cc (i)) ok
step_arrival who d from (PeerRecord.OnAssoc x y q DialogueRecord.UAbort) R k late ok = step_on_other who d from x y q DialogueRecord.UAbort R k late (λ t b h i. cc (i)) ok
step_arrival who d from (PeerRecord.OnAssoc x y q DialogueRecord.Grant) R k late ok = step_on_other who d from x y q DialogueRecord.Grant R k late (λ t b h i. cc (i)) ok
step_arrival who d from (PeerRecord.OnAssoc x y q DialogueRecord.AskControl) R k late ok = step_on_other who d from x y q DialogueRecord.AskControl R k late (λ t b h i. cc (i)) ok
step_arrival who d from (PeerRecord.OnAssoc x y q DialogueRecord.Handshake) R k late ok = step_on_other who d from x y q DialogueRecord.Handshake R k late (λ t b h i. cc (i)) ok
step_arrival who d from (PeerRecord.OnAssoc x y q DialogueRecord.HandshakeGrant) R k late ok = step_on_other who d from x y q DialogueRecord.HandshakeGrant R k late (λ t b h i. cc (i)) ok
step_arrival who d from (PeerRecord.OnAssoc x y q DialogueRecord.Response) R k late ok = step_on_other who d from x y q DialogueRecord.Response R k late (λ t b h i. cc (i)) ok
step_arrival who d from (PeerRecord.OnAssoc x y q DialogueRecord.DeferEnd) R k late ok = step_on_other who d from x y q DialogueRecord.DeferEnd R k late (λ t b h i. cc (i)) ok
step_arrival who d from (PeerRecord.OnAssoc x y q DialogueRecord.DeferGrant) R k late ok = step_on_other who d from x y q DialogueRecord.DeferGrant R k late (λ t b h i. cc (i)) ok
step_arrival who d from (PeerRecord.OnAssoc x y q DialogueRecord.Prepare) R k late ok = step_on_other who d from x y q DialogueRecord.Prepare R k late (λ t b h i. cc (i)) ok
step_arrival who d from (PeerRecord.OnAssoc x y q DialogueRecord.Ready) R k late ok = step_on_other who d from x y q DialogueRecord.Ready R k late (λ t b h i. cc (i)) ok
step_arrival who d from (PeerRecord.OnAssoc x y q DialogueRecord.Commit) R k late ok = step_on_other who d from x y q DialogueRecord.Commit R k late (λ t b h i. cc (i)) ok
step_arrival who d from (PeerRecord.OnAssoc x y q (DialogueRecord.Done v)) R k late ok = step_on_other who d from x y q (DialogueRecord.Done v) R k late (λ t b h i. cc (i)) ok
step_arrival who d from (PeerRecord.OnAssoc x y q DialogueRecord.Rollback) R k late ok = step_on_other who d from x y q DialogueRecord.Rollback R k late (λ t b h i. cc (i)) ok
step_arrival who d from (PeerRecord.OnAssoc x y q (DialogueRecord.RolledBack v)) R k late ok = step_on_other who d from x y q (DialogueRecord.RolledBack v) R k late (λ t b h i. cc (i)) ok
step_arrival who d from (PeerRecord.OnAssoc x y q DialogueRecord.Left) R k late ok = step_on_other who d from x y q DialogueRecord.Left R k late (λ t b h i. cc (i)) ok
step_arrival who d from (PeerRecord.OnAssoc x y q DialogueRecord.LeftEnd) R k late ok = step_on_other who d from x y q DialogueRecord.LeftEnd R k late (λ t b h i. cc (i)) ok
step_arrival who d from (PeerRecord.RecReady t b) R k late ok = step_reply_to who _ d R k from t b (recovery_answer (known_of (named_by_branch d t b) b) Question.RecReady) d (λ v i. (reply_owned d from t b v i, said_ready d from t b v i))
step_arrival who d from (PeerRecord.RecCommit t b) R k late ok = step_order who d from t b R k late
step_arrival who d from (PeerRecord.RecReply t b s) R k late ok = step_take_reply who d from t b s R k late ok
step_arrival who d from (PeerRecord.Forget t b) R k late ok = step_forget who from t b d R k d

-- ---- local events

step_break : (who : Who) (d : Digest) (from : Addr) (r : PeerRecord) (R : Digest → Move → Type 0) → Steps who (Event.Break from r) d R → IsLate d → R d (break_off who from r d)
unfolding break_off
step_break who d from r R k late = go (broken_pair r)
  where
    go : (o : Option (Mark × Mark)) → R d (elim o as (λ _. Move) [ None ↦ move [] d | Some xy ↦ followed (perform (TxOut.Recovery from (PeerRecord.ShutAssoc xy.0 (Some xy.1)) ∷ []) d) (lose who from.node) ])
    go None = k.still d
    go (Some xy) =
        let outs : List TxOut = TxOut.Recovery from (PeerRecord.ShutAssoc xy.0 (Some xy.1)) ∷ [] in
        k.chain d (perform outs d) (lose who from.node) (k.speaks d outs refl (λ u h. absurd (cc (h)), one_said (Event.Break from r) d d from (PeerRecord.ShutAssoc xy.0 (Some xy.1)) tt) refl refl) (step_lose who (Event.Break from r) d R k late from.node (perform outs d).next (same_way from.node) (refl, refl, λ n off. refl) (λ c. refl)) (inl refl)

pub quiet_retry : (ks : List Kept) (d : Digest) → (retry_each ks d).rec ≡ None
quiet_retry [] d = refl
quiet_retry (k ∷ ks) d = let rest = quiet_retry ks (perform (owed k) d).next in rw (rest, retry_each) refl

step_retry_each : (who : Who) (e : Event) (s : Digest) (R : Digest → Move → Type 0) → Steps who e s R → (ks : List Kept) (d : Digest) → ((u : Aaid) → keeps_commit u ks ≡ true → keeps_commit u d.kept ≡ true) → (keeps_idle ks ≡ true → keeps_idle d.kept ≡ true) → ((b : BranchId) → owes_branch b ks ≡ true → owes_branch b d.kept ≡ true) → ((a : Addr) (t : Aaid) (r : Report) → KeepsFor ks a t r → KeepsFor d.kept a t r) → R d (retry_each ks d)
step_retry_each who e s R k [] d held idle owes keeps = k.still d
step_retry_each who e s R k (x ∷ ks) d held idle owes keeps =
    let a : Move = perform (owed x) d in
    k.chain d a (retry_each ks) (k.speaks d (owed x) (spoken_owed x) (λ u h. owned u (held u (rw (owed_orders u x h) refl)), owed_so e s d x (λ c. (owned x.key.aaid (held x.key.aaid (rw (c, aaid_same x.key.aaid) refl)), λ n. idle (rw (c, n) refl), held x.key.aaid (rw (c, aaid_same x.key.aaid) refl))) (λ c a i. keeps a x.key.aaid x.report (inl (c, refl, i, refl))) (λ b h. owes b (rw h refl))) (said_owed e x) (last_owed who d x)) (step_retry_each who e s R k ks a.next (λ u h. held u (rw h (grind arith))) (λ h. idle (rw h (grind arith))) (λ b h. owes b (rw h (grind arith))) (λ z t r h. keeps z t r (inr h))) (inl refl)
  where
    owned : (u : Aaid) → keeps_commit u d.kept ≡ true → is_committed_in u d ≡ true
    owned u h = rw h (grind arith)

step_retry : (who : Who) (d : Digest) (R : Digest → Move → Type 0) → Steps who Event.Retry d R → IsLate d → R d (retry who d)
unfolding retry refused_tx
step_retry who d R k late =
    let a : Move = transact who TxEvent.Retry d in
    k.chain d a (λ e. retry_each e.kept e)
    (step_transact who Event.Retry d R k TxEvent.Retry d (refl, refl, λ n off. refl) (λ c j. refl) (λ c j. record { late = late c j; ok = λ h. refl; abort = λ n h. cc (h); ordered = λ h. cc (h); not_begun = λ arcs h. cc (h) }) (λ n i. absurd (cc (i))))
    (step_retry_each who Event.Retry d R k a.next.kept a.next (λ u h. h) (λ h. h) (λ b h. h) (λ z t r h. h))
    (inr (quiet_retry a.next.kept a.next))

purge_plain : (k : Kept) → refused_kept k KeptEvent.Purge ≡ None → is_nothing_owed k.owed ≡ true
purge_plain k h = go (is_nothing_owed k.owed) refl
  where
    go : (v : Bool) → is_nothing_owed k.owed ≡ v → v ≡ true
    go true i = refl
    go false i = absurd (grind (arith, h, i))

purge_root : (k : Kept) → refused_kept k KeptEvent.Purge ≡ None → is_commit k.side ≡ true → is_root_key k.key ≡ true
purge_root k h c = go (is_root_key k.key) refl
  where
    go : (v : Bool) → is_root_key k.key ≡ v → v ≡ true
    go true i = refl
    go false i = absurd (grind (arith, h, i, c))

step_purge : (who : Who) (d : Digest) (R : Digest → Move → Type 0) → Steps who Event.Purge d R → refused_purge d.kept ≡ None → R d (purge d)
unfolding purge
step_purge who d R k ok = go d.kept refl
  where
    go : (ks : List Kept) → d.kept ≡ ks → R d (elim ks as (λ _. Move) [ [] ↦ move [] d | x ∷ xs ↦ keep (settled x KeptEvent.Purge) d ])
    go [] i = k.still d
    go (x ∷ xs) i =
        k.keeps d x KeptEvent.Purge (
          λ u m. ap (keeps_commit u) i ∙ rw m refl,
          rw i (inl (refl, refl)),
          rw i (inl refl),
          (x, ap (λ (l : List Kept). find_kept l x.key) i ∙ rw (key_self x.key) refl, refl),
          (purge_plain x (ap refused_purge (sym i) ∙ ok), purge_root x (ap refused_purge (sym i) ∙ ok)),
        )

-- ---- what an accepted event is not refused for

pub plain_request : (who : Who) (d : Digest) (r : Request) → refusal who d (Event.Do r) ≡ None → refused_request who d r ≡ None
unfolding refusal verdict
plain_request who d r ok = grind (arith, ok)

pub plain_arrival : (who : Who) (d : Digest) (from : Addr) (r : PeerRecord) → refusal who d (Event.Arrive from r) ≡ None → refused_arrival who d from r ≡ None
unfolding refusal verdict
plain_arrival who d from r ok = grind (arith, ok)

pub plain_heur : (who : Who) (d : Digest) (o : Outcome) (c : Current) → refusal who d (Event.Heur o) ≡ None → d.current ≡ Some c → refused_tx (TxEvent.Heur o) (seen who d.arcs c) ≡ None
unfolding refusal verdict
plain_heur who d o c ok i = grind (arith, ok, i)

pub plain_give_up : (who : Who) (d : Digest) (p : ℕ) (c : Current) → refusal who d (Event.GiveUp p) ≡ None → d.current ≡ Some c → refused_tx (TxEvent.GiveUp p) (seen who d.arcs c) ≡ None
unfolding refusal verdict
plain_give_up who d p c ok i = grind (arith, ok, i)

plain_purge : (who : Who) (d : Digest) → refusal who d Event.Purge ≡ None → refused_purge d.kept ≡ None
unfolding refusal verdict
plain_purge who d ok = grind (arith, ok)

-- ---- all events

pub step_move : (who : Who) (d : Digest) (e : Event) (R : Digest → Move → Type 0) → Steps who e (prelude who d e) R → IsLate d → refusal who d e ≡ None → R (prelude who d e) (action who d e)
step_move who d (Event.Declare s) R k late ok = k.still (prelude who d (Event.Declare s))
step_move who d (Event.Do r) R k late ok = step_request who d r R k late (plain_request who d r ok)
step_move who d (Event.Arrive from r) R k late ok = step_arrival who d from r R k late (plain_arrival who d from r ok)
step_move who d (Event.Break from r) R k late ok = step_break who d from r R k late
step_move who d (Event.Lose p) R k late ok = step_lose who (Event.Lose p) d R k late p d (same_way p) (refl, refl, λ n off. refl) (λ c. refl)
step_move who d (Event.Heur o) R k late ok =
    step_transact who (Event.Heur o) d R k (TxEvent.Heur o) d (refl, refl, λ n off. refl) (λ c j. refl)
    (λ c j. record { late = late c j; ok = λ h. plain_heur who d o c ok j; abort = λ n h. cc (h); ordered = λ h. cc (h); not_begun = λ arcs h. cc (h) })
    (λ n i. absurd (cc (i)))
step_move who d (Event.GiveUp p) R k late ok =
    step_transact who (Event.GiveUp p) d R k (TxEvent.GiveUp p) d (refl, refl, λ n off. refl) (λ c j. refl)
    (λ c j. record { late = late c j; ok = λ h. plain_give_up who d p c ok j; abort = λ n h. cc (h); ordered = λ h. cc (h); not_begun = λ arcs h. cc (h) })
    (λ n i. absurd (cc (i)))
step_move who d Event.Retry R k late ok = step_retry who d R k late
step_move who d Event.Purge R k late ok = step_purge who d R k (plain_purge who d ok)
step_move who d Event.Crash R k late ok = k.still (prelude who d Event.Crash)

pub every_move : (who : Who) (d : Digest) (e : Event) (R : Digest → Move → Type 0) → Moves who e (prelude who d e) R → IsLate d → refusal who d e ≡ None → R (prelude who d e) (action who d e)
every_move who d e R k late ok = step_move who d e R (plain_steps who e (prelude who d e) R k) late ok
