-- An event of a node that puts nothing to its current transaction leaves it as it is, but for branches that begin.
use Rattle.std.proofs.Common.{if◌then◌else◌, ◌≡◌, ◌⊎◌, inl, inr, ℕ, Bool, true, false, refl, ap, subst, ◌∙◌, arith, Option, Some, None, List, [], ◌∷◌, ◌&&◌, not}
use Rattle.tp_names.specs.declared.identifiers.Mark.{Mark}
use Rattle.tp_names.specs.declared.identifiers.Aaid.{Aaid}
use Rattle.tp_names.specs.declared.identifiers.BranchId.{BranchId}
use Rattle.tp_names.specs.declared.identifiers.NodeKey.{NodeKey}
use Rattle.tp_names.specs.declared.identifiers.Addr.{Addr}
use Rattle.tp_names.specs.declared.outcome.Report.{Report}
use Rattle.tp_records.specs.declared.request.Request.{Request}
use Rattle.tp_records.specs.declared.dialogue.DialogueRecord.{DialogueRecord}
use Rattle.tp_records.specs.declared.dialogue.Holder.{Holder}
use Rattle.tp_records.specs.declared.peer.PeerRecord.{PeerRecord}
use Rattle.tp_records.specs.declared.peer.RecState.{RecState}
use Rattle.tp_model.specs.declared.arc.Side.{Side}
use Rattle.tp_model.specs.declared.transaction.TxEvent.{TxEvent}
use Rattle.tp_model.specs.declared.transaction.TxOut.{TxOut}
use Rattle.tp_model.specs.declared.recovery.Kept.{Kept}
use Rattle.tp_model.specs.declared.recovery.KeptEvent.{KeptEvent}
use Rattle.tp_model.specs.declared.recovery.Question.{Question}
use Rattle.tp_model.specs.Parts.{Who, Event, Arc, Current, Digest}
use Rattle.tp_model.specs.Links.{with_one_taken}
use Rattle.tp_model.specs.Dialogues.{is_nil, is_active, is_chained, fresh_dialogue, Sight, Acts, Nothing_happens, Out_of_phase}
use Rattle.tp_model.specs.Arcs.{find_arc, without_arc, with_link}
use Rattle.tp_model.specs.Recovery.{settled, noted, find_kept, with_forget, forget_to, recovery_answer}
use Rattle.tp_model.specs.Requests.{call, accept, reject, abort, begin_transaction}
use Rattle.tp_model.specs.Node.{Move, move, perform, phase_of, has_asked, situation_at, start_root, begin_on, try_start, transact, keep}
use Rattle.tp_model.specs.Arrivals.{Named, branch_key, named_by_key, named_by_branch, known_of, is_current_ready, sight_at, take_record, woken_by, take_on, take_accept, reply_to, take_order, take_forget, take_ready_reply, take_done_reply, do_arrival, broken_pair, break_off}
use Rattle.tp_model.specs.Events.{purge, recovered_current, refusal}
use Rattle.tp_steps.specs.Moves.{linked}
use Rattle.tp_steps.specs.Puts.{Put, put, counted_arcs, put_by_record, put_on, put_where_ready, is_committing_named, put_by_peer, put_by}
use Rattle.tp_histories.specs.Puts.{IsLeftAlone, Stays, Begins, Stops}
use Rattle.tp_steps.proofs.every.EveryRecord.{find_arc_is, woken_current}
use Rattle.tp_histories.proofs.trees.Behind.{crash_current}
use Rattle.tp_histories.proofs.trees.Knowing.{begin_seen}

-- ---- requests

called_alone : (who : Who) (d : Digest) (a : Addr) (u : ℕ) → (call who a u d).next.current ≡ d.current
unfolding call
called_alone who d a u = refl

accept_alone : (who : Who) (d : Digest) (u : ℕ) → (accept who u d).next.current ≡ d.current
unfolding accept
accept_alone who d u = grind arith

reject_alone : (d : Digest) → (reject d).next.current ≡ d.current
unfolding reject
reject_alone d = grind arith

abort_alone : (who : Who) (d : Digest) (p : ℕ) → (situation_at who d p).branch ≡ false → (abort who p d).next.current ≡ d.current
unfolding abort
abort_alone who d p i = ap (λ (b : Bool). (if b then transact who (TxEvent.User (Request.UAbort p)) d else perform (TxOut.Carry p DialogueRecord.UAbort ∷ TxOut.Close p ∷ []) d).next.current) i

begin_alone : (who : Who) (d : Digest) (p : ℕ) (c : Current) → d.current ≡ Some c → begin_transaction who p d ≡ begin_on who p d
unfolding begin_transaction
begin_alone who d p c i = ap (λ (o : Option Current). elim o as (λ _. Move) [ None ↦ start_root who (p ∷ []) d | Some b ↦ begin_on who p d ]) i

request_alone : (who : Who) (d : Digest) (r : Request) (c : Current) → d.current ≡ Some c → put_by who d (Event.Do r) ≡ None → IsLeftAlone who d (Event.Do r) c
request_alone who d (Request.BeginDialogue a u) c i h = Stays (called_alone who d a u ∙ i)
request_alone who d (Request.Accept u) c i h = Stays (accept_alone who d u ∙ i)
request_alone who d Request.Reject c i h = Stays (reject_alone d ∙ i)
request_alone who d (Request.EndDialogue p) c i h = Stays i
request_alone who d (Request.UserData p xs) c i h = Stays i
request_alone who d (Request.UError p) c i h = Stays i
request_alone who d (Request.UAbort p) c i h = Stays (go (situation_at who d p).branch refl h)
  where
    go : (b : Bool) → (situation_at who d p).branch ≡ b → (if b then put (TxEvent.User (Request.UAbort p)) d.arcs else None) ≡ None → (abort who p d).next.current ≡ Some c
    go false j h = abort_alone who d p j ∙ i
    go true j h = absurd (cc (h))
request_alone who d (Request.Grant p) c i h = Stays i
request_alone who d (Request.AskControl p) c i h = Stays i
request_alone who d (Request.Handshake p) c i h = Stays i
request_alone who d (Request.Respond p) c i h = Stays i
request_alone who d (Request.HandshakeGrant p) c i h = Stays i
request_alone who d (Request.BeginTransaction p) c i h = Begins p d refl i (ap (λ (m : Move). m.next) (begin_alone who d p c i))
request_alone who d (Request.DeferEnd p) c i h = absurd (cc (h))
request_alone who d (Request.DeferGrant p) c i h = absurd (cc (h))
request_alone who d (Request.Prepare p) c i h = absurd (cc (h))
request_alone who d Request.Commit c i h = absurd (cc (h))
request_alone who d Request.Done c i h = absurd (cc (h))
request_alone who d Request.Rollback c i h = absurd (cc (h))
request_alone who d Request.Unchanged c i h = absurd (cc (h))

-- ---- records on an association

record_alone : (who : Who) (d g : Digest) (r : DialogueRecord) (a : Arc) (arcs : List Arc) → ((t : Aaid) (b : BranchId) (h : Holder) → r ≡ DialogueRecord.Begin t b h → ⊥) → g.current ≡ d.current → put_by_record a.peer.node arcs r ≡ None
    → (take_record who a r g).next.current ≡ d.current
record_alone who d g DialogueRecord.EndDialogue a arcs begins same h = same
record_alone who d g (DialogueRecord.UserData xs) a arcs begins same h = same
record_alone who d g DialogueRecord.UError a arcs begins same h = same
record_alone who d g DialogueRecord.UAbort a arcs begins same h = absurd (cc (h))
record_alone who d g DialogueRecord.Grant a arcs begins same h = same
record_alone who d g DialogueRecord.AskControl a arcs begins same h = same
record_alone who d g DialogueRecord.Handshake a arcs begins same h = same
record_alone who d g DialogueRecord.HandshakeGrant a arcs begins same h = same
record_alone who d g DialogueRecord.Response a arcs begins same h = same
record_alone who d g DialogueRecord.DeferEnd a arcs begins same h = absurd (cc (h))
record_alone who d g DialogueRecord.DeferGrant a arcs begins same h = absurd (cc (h))
record_alone who d g (DialogueRecord.Begin t b v) a arcs begins same h = absurd (begins t b v refl)
record_alone who d g DialogueRecord.Prepare a arcs begins same h = absurd (cc (h))
record_alone who d g DialogueRecord.Ready a arcs begins same h = absurd (cc (h))
record_alone who d g DialogueRecord.Commit a arcs begins same h = absurd (cc (h))
record_alone who d g (DialogueRecord.Done v) a arcs begins same h = absurd (cc (h))
record_alone who d g DialogueRecord.Rollback a arcs begins same h = absurd (cc (h))
record_alone who d g (DialogueRecord.RolledBack v) a arcs begins same h = absurd (cc (h))
record_alone who d g DialogueRecord.Left a arcs begins same h = absurd (cc (h))
record_alone who d g DialogueRecord.LeftEnd a arcs begins same h = absurd (cc (h))

-- while a transaction is current no other one comes from the superior
no_begin : (who : Who) (d : Digest) (from : Addr) (y z : Mark) (q : ℕ) (r : DialogueRecord) (a : Arc) (c : Current) → refusal who d (Event.Arrive from (PeerRecord.OnAssoc y z q r)) ≡ None → find_arc d.arcs from.node ≡ Some a → d.current ≡ Some c
    → is_nil c.phase ≡ false → (t : Aaid) (b : BranchId) (h : Holder) → r ≡ DialogueRecord.Begin t b h → ⊥
no_begin who d from y z q r a c ok found i late t b h is =
    let at : refusal who d (Event.Arrive from (PeerRecord.OnAssoc y z q (DialogueRecord.Begin t b h))) ≡ None = subst (λ (w : DialogueRecord). refusal who d (Event.Arrive from (PeerRecord.OnAssoc y z q w)) ≡ None) is ok in
    let nil : is_nil (phase_of d) ≡ true = (begin_seen who d from y z q t b h a at found).0 in
    let now : is_nil c.phase ≡ true = rw (i, phase_of) at nil in
    cc (now, late)

association_alone : (who : Who) (d : Digest) (from : Addr) (y z : Mark) (q : ℕ) (r : DialogueRecord) (c : Current) → refusal who d (Event.Arrive from (PeerRecord.OnAssoc y z q r)) ≡ None → d.current ≡ Some c → is_nil c.phase ≡ false
    → put_by_peer who d from (PeerRecord.OnAssoc y z q r) ≡ None → (do_arrival who from (PeerRecord.OnAssoc y z q r) d).next.current ≡ Some c
association_alone who d from y z q r c ok i late h = go (find_arc d.arcs from.node) refl h ∙ i
  where
    counted : (p : ℕ) → (woken_by r p (record d { arcs = with_link d.arcs p with_one_taken })).current ≡ d.current
    counted p = (woken_current (Event.Arrive from (PeerRecord.OnAssoc y z q r)) r p (record d { arcs = with_link d.arcs p with_one_taken })).0

    on : (a : Arc) → find_arc d.arcs from.node ≡ Some a → (v : Sight) → sight_at who d a r ≡ v
        → elim v as (λ _. Option Put) [ Acts ↦ put_by_record a.peer.node (counted_arcs d.arcs a.peer.node) r | Nothing_happens ↦ None | Out_of_phase ↦ None ] ≡ None
        → (elim v as (λ _. Move) [
          | Acts ↦ take_record who a r (woken_by r a.peer.node (record d { arcs = with_link d.arcs a.peer.node with_one_taken }))
          | Nothing_happens ↦ move [] (woken_by r a.peer.node (record d { arcs = with_link d.arcs a.peer.node with_one_taken }))
          | Out_of_phase ↦ move [] (woken_by r a.peer.node (record d { arcs = with_link d.arcs a.peer.node with_one_taken }))
        ]).next.current ≡ d.current
    on a j Acts acts h =
        record_alone who d (woken_by r a.peer.node (record d { arcs = with_link d.arcs a.peer.node with_one_taken })) r a (counted_arcs d.arcs a.peer.node) (no_begin who d from y z q r a c ok j i late) (counted a.peer.node) h
    on a j Nothing_happens acts h = counted a.peer.node
    on a j Out_of_phase acts h = counted a.peer.node

    go : (o : Option Arc) → find_arc d.arcs from.node ≡ o → elim o as (λ _. Option Put) [ None ↦ None | Some a ↦ put_on who d a r ] ≡ None
        → (elim o as (λ _. Move) [ None ↦ move [] d | Some a ↦ take_on who a r d ]).next.current ≡ d.current
    go None j h = refl
    go (Some a) j h = on a j (sight_at who d a r) refl h

-- ---- the other records of peers

-- an arc that becomes live takes part where it is chained
accepted_alone : (who : Who) (d : Digest) (from : Addr) (y z : Mark) (u : ℕ) (c : Current) → d.current ≡ Some c → is_nil c.phase ≡ false → IsLeftAlone who d (Event.Arrive from (PeerRecord.AcceptAssoc y z u)) c
unfolding take_accept
accepted_alone who d from y z u c i late = elim (go (find_arc d.arcs from.node) refl) [ inl j ↦ Stays j | inr j ↦ Begins from.node (linked (find_arc d.arcs from.node) y z u d) refl (linked_current (find_arc d.arcs from.node)) j ]
  where
    AcceptsSo : Move → Digest → Type 0
    AcceptsSo m e = (m.next.current ≡ Some c) ⊎ (m.next ≡ (begin_on who from.node e).next)

    linked_current : (o : Option Arc) → (linked o y z u d).current ≡ Some c
    linked_current None = i
    linked_current (Some a) = i

    on : (a : Arc) → a.peer.node ≡ from.node → (b v w : Bool) → let e : Digest = linked (Some a) y z u d in is_nil (phase_of e) ≡ v
        → AcceptsSo (if not b then move [] e else if v then try_start who e else if w then begin_on who a.peer.node e else move [] e) e
    on a at false v w j = inl i
    on a at true true w j = let now : is_nil c.phase ≡ true = rw (i, phase_of) at j in absurd (cc (now, late))
    on a at true false true j = inr (ap (λ (n : ℕ). (begin_on who n (linked (Some a) y z u d)).next) at)
    on a at true false false j = inl i

    go : (o : Option Arc) → find_arc d.arcs from.node ≡ o → AcceptsSo (elim o as (λ _. Move) [ None ↦ move [] d | Some a ↦ take_accept who a y z u d ]) (linked o y z u d)
    go None j = inl i
    go (Some a) j =
        let e : Digest = linked (Some a) y z u d in
        on a (find_arc_is d.arcs from.node a j) (is_chained (fresh_dialogue u Side.Superior)) (is_nil (phase_of e)) (is_active (phase_of e) && not (has_asked e)) refl

reply_to_alone : (from : Addr) (t : Aaid) (b : BranchId) (o : Option RecState) (d : Digest) → (reply_to from t b o d).next.current ≡ d.current
reply_to_alone from t b None d = refl
reply_to_alone from t b (Some s) d = refl

order_alone : (who : Who) (d : Digest) (from : Addr) (t : Aaid) (b : BranchId) → put_where_ready d t b TxEvent.Ordered ≡ None → (take_order who from t b d).next.current ≡ d.current
order_alone who d from t b h = go (is_current_ready n) h
  where
    n : Named
    n = named_by_key d (branch_key t b)

    go : (v : Bool) → (if v then put TxEvent.Ordered d.arcs else None) ≡ None → (if v then transact who TxEvent.Ordered d else reply_to from t b (recovery_answer (known_of n b) Question.RecCommit) d).next.current ≡ d.current
    go false h = reply_to_alone from t b (recovery_answer (known_of n b) Question.RecCommit) d
    go true h = absurd (cc (h))

reply_alone : (who : Who) (d : Digest) (t : Aaid) (b : BranchId) (s : RecState) → put_where_ready d t b (TxEvent.Reply b s) ≡ None → (take_ready_reply who t b s d).next.current ≡ d.current
reply_alone who d t b s h = go (is_current_ready (named_by_key d (branch_key t b))) h
  where
    go : (v : Bool) → (if v then put (TxEvent.Reply b s) d.arcs else None) ≡ None → (if v then transact who (TxEvent.Reply b s) d else move [] d).next.current ≡ d.current
    go false h = refl
    go true h = absurd (cc (h))

done_alone : (who : Who) (d : Digest) (from : Addr) (t : Aaid) (b : BranchId) (r : Report) → (if is_committing_named (named_by_branch d t b).current then put (TxEvent.Reply b (RecState.Done r)) d.arcs else None) ≡ None
    → (take_done_reply who from t b r d).next.current ≡ d.current
done_alone who d from t b r h = go (is_committing_named n.current) n.kept n.current h
  where
    n : Named
    n = named_by_branch d t b

    go : (v : Bool) (k : Option Kept) (c : Option Current) → (if v then put (TxEvent.Reply b (RecState.Done r)) d.arcs else None) ≡ None
        → (if v then transact who (TxEvent.Reply b (RecState.Done r)) d
        else elim k as (λ _. Move) [ Some x ↦ keep (settled x (KeptEvent.Done from b r)) d | None ↦ elim c as (λ _. Move) [ Some u ↦ move [] d | None ↦ perform (forget_to from (branch_key t b) b r) d ] ]).next.current ≡ d.current
    go true k c h = absurd (cc (h))
    go false (Some x) c h = refl
    go false None (Some u) h = refl
    go false None None h = refl

forget_alone : (k : NodeKey) (d : Digest) → (take_forget k d).next.current ≡ d.current
forget_alone k d = go (find_kept d.kept k)
  where
    go : (v : Option Kept) → (elim v as (λ _. Move) [ None ↦ move [] d | Some x ↦ keep (settled x KeptEvent.Forget) (record d { kept = with_forget d.kept k (λ y. noted y KeptEvent.Forget) }) ]).next.current ≡ d.current
    go None = refl
    go (Some x) = refl

peer_alone : (who : Who) (d : Digest) (from : Addr) (r : PeerRecord) (c : Current) → refusal who d (Event.Arrive from r) ≡ None → d.current ≡ Some c → is_nil c.phase ≡ false → put_by_peer who d from r ≡ None → IsLeftAlone who d (Event.Arrive from r) c
peer_alone who d from (PeerRecord.AcceptAssoc y z u) c ok i late h = accepted_alone who d from y z u c i late
peer_alone who d from (PeerRecord.ShutAssoc y (Some z)) c ok i late h = absurd (cc (h))
peer_alone who d from (PeerRecord.OnAssoc y z q r) c ok i late h = Stays (association_alone who d from y z q r c ok i late h)
peer_alone who d from (PeerRecord.RecReady t b) c ok i late h = Stays (reply_to_alone from t b (recovery_answer (known_of (named_by_branch d t b) b) Question.RecReady) d ∙ i)
peer_alone who d from (PeerRecord.RecCommit t b) c ok i late h = Stays (order_alone who d from t b h ∙ i)
peer_alone who d from (PeerRecord.RecReply t b RecState.Commit) c ok i late h = Stays (reply_alone who d t b RecState.Commit h ∙ i)
peer_alone who d from (PeerRecord.RecReply t b (RecState.Done r)) c ok i late h = Stays (done_alone who d from t b r h ∙ i)
peer_alone who d from (PeerRecord.RecReply t b RecState.Unknown) c ok i late h = Stays (reply_alone who d t b RecState.Unknown h ∙ i)
peer_alone who d from (PeerRecord.RecReply t b RecState.RetryLater) c ok i late h = Stays (reply_alone who d t b RecState.RetryLater h ∙ i)
peer_alone who d from (PeerRecord.Forget t b) c ok i late h = Stays (forget_alone (branch_key t b) d ∙ i)
peer_alone who d from _ c ok i late h = Stays i

-- ---- local events

break_alone : (who : Who) (d : Digest) (from : Addr) (r : PeerRecord) → put_by who d (Event.Break from r) ≡ None → (break_off who from r d).next.current ≡ d.current
unfolding break_off
break_alone who d from r h = go (broken_pair r) refl h
  where
    go : (o : Option (Mark × Mark)) → broken_pair r ≡ o → elim o as (λ _. Option Put) [ None ↦ None | Some xy ↦ put (TxEvent.Lost from.node) (without_arc d.arcs from.node) ] ≡ None → (break_off who from r d).next.current ≡ d.current
    go None j h = rw (j, break_off) refl
    go (Some xy) j h = absurd (cc (h))

purge_alone : (d : Digest) → (purge d).next.current ≡ d.current
unfolding purge
purge_alone d = go d.kept
  where
    go : (ks : List Kept) → (elim ks as (λ _. Move) [ [] ↦ move [] d | x ∷ xs ↦ keep (settled x KeptEvent.Purge) d ]).next.current ≡ d.current
    go [] = refl
    go (x ∷ xs) = refl

-- ---- every event

pub event_alone : (who : Who) (d : Digest) (e : Event) (c : Current) → refusal who d e ≡ None → d.current ≡ Some c → is_nil c.phase ≡ false → put_by who d e ≡ None → IsLeftAlone who d e c
event_alone who d (Event.Declare s) c ok i late h = Stays i
event_alone who d (Event.Do r) c ok i late h = request_alone who d r c i h
event_alone who d (Event.Arrive from r) c ok i late h = peer_alone who d from r c ok i late h
event_alone who d (Event.Break from r) c ok i late h = Stays (break_alone who d from r h ∙ i)
event_alone who d Event.Purge c ok i late h = Stays (purge_alone d ∙ i)
event_alone who d Event.Crash c ok i late h = Stops refl (crash_current who d ∙ ap recovered_current i)
event_alone who d _ c ok i late h = absurd (cc (h))
