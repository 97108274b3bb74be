-- What an event does that is no failure of the current transaction; histories in which nothing failed in a tree.
use Rattle.std.proofs.Common.{not, if◌then◌else◌, ◌≡◌, ◌⊎◌, inl, inr, ℕ, suc, Bool, true, false, refl, ap, sym, subst, ◌∙◌, arith, Option, Some, None, List, [], ◌∷◌, ◌&&◌, ◌||◌, ◌==◌}
use Rattle.std.proofs.lemmas.Bool.Decides.{nat_tests}
use Rattle.tp_names.specs.declared.identifiers.Mark.{Mark}
use Rattle.tp_names.specs.declared.identifiers.Addr.{Addr}
use Rattle.tp_names.specs.declared.identifiers.Aaid.{Aaid}
use Rattle.tp_names.specs.declared.identifiers.BranchId.{BranchId}
use Rattle.tp_names.specs.declared.identifiers.NodeKey.{NodeKey}
use Rattle.tp_names.specs.Same.{is_aaid, is_key}
use Rattle.tp_records.specs.declared.request.Request.{Request}
use Rattle.tp_records.specs.declared.dialogue.DialogueRecord.{DialogueRecord}
use Rattle.tp_records.specs.declared.peer.PeerRecord.{PeerRecord}
use Rattle.tp_records.specs.declared.peer.RecState.{RecState}
use Rattle.tp_model.specs.declared.transaction.TxEvent.{TxEvent}
use Rattle.tp_model.specs.declared.transaction.TxOut.{TxOut}
use Rattle.tp_model.specs.Parts.{Who, Origin, Event, Entry, Arc, Branch, Current, Digest}
use Rattle.tp_model.specs.Links.{with_one_taken}
use Rattle.tp_model.specs.Dialogues.{is_nil, is_ready, Sight, Acts, Nothing_happens, Out_of_phase}
use Rattle.tp_model.specs.Arcs.{find_arc, is_live_with_peer, without_arc, with_link}
use Rattle.tp_model.specs.Transactions.{Transaction, aaid_of, node_key, is_under_at, all_left, refused_tx}
use Rattle.tp_model.specs.AmongArcs.{IsAmongArcs, Reaches, IsTakenUp, IsPutOff, IsCut}
use Rattle.tp_model.specs.Requests.{refused_request, abort}
use Rattle.tp_model.specs.Node.{Move, move, followed, perform, seen_rows, seen, situation_at, transact}
use Rattle.tp_model.specs.Arrivals.{branch_key, named_by_key, named_by_branch, is_current_ready, sight_at, broken_pair, break_off, lose, take_record, take_on, woken_by}
use Rattle.tp_model.specs.Events.{action, refusal}
use Rattle.tp_model.specs.History.{digest}
use Rattle.tp_model.specs.Legal.{is_start, IsGrown, IsLegal}
use Rattle.tp_model.specs.Outcomes.{is_now, is_failure}
use Rattle.tp_steps.specs.Facts.{find_branch}
use Rattle.tp_steps.specs.Moves.{IsPut, is_took}
use Rattle.tp_steps.specs.Puts.{Put, put, counted_arcs, put_by_record, put_on, put_where_ready, is_committing_named, put_by_peer, put_by_request, put_by, with_others, IsPutTo}
use Rattle.tp_failure_free.specs.Drained.{branch_is, is_done_with, depends_on, touches, fails_in, has_failed_in, IsUnfailed}
use Rattle.tp_steps.proofs.every.EveryRecord.{find_arc_is}
use Rattle.tp_steps.proofs.every.EveryMove.{abort_active, abort_peer}
use Rattle.tp_steps.proofs.every.EveryEvent.{plain_request, plain_heur, plain_give_up}
use Rattle.tp_steps.proofs.words.Treed.{now_some}
use Rattle.tp_histories.proofs.order.InOrderLaw.{among_law, empty_apart}
use Rattle.tp_failure_free.proofs.Calm.{is_calm, spares, calm_spares, is_given, calm_not_given, leaves_with_end}
use Rattle.tp_failure_free.proofs.LiveTurned.{is_open, needs, IsAlive, alive_transact}
use Rattle.tp_failure_free.proofs.LiveEvents.{IsAside, IsApart, retry_aside, aside_event, aborts_aside, counted_aside, nothing_aside}
use Rattle.tp_failure_free.proofs.ClearTurns.{wild}

-- ---- what is put to the transaction by an event that is no failure

pub record IsCalmPut (d : Digest) (x : Put) : Type 0 where
  pub calm : is_calm x.event ≡ true
  pub ordered : x.event ≡ TxEvent.Ordered → (c : Current) → d.current ≡ Some c → is_ready c.phase ≡ true

given : (d : Digest) (f : TxEvent) (arcs : List Arc) (x : Put) → put f arcs ≡ Some x → is_calm f ≡ true → (f ≡ TxEvent.Ordered → (c : Current) → d.current ≡ Some c → is_ready c.phase ≡ true) → IsCalmPut d x
given d f arcs x h calm ready =
    let same : ◌≡◌ {A = Put} (record { event = f; arcs = arcs }) x = cc (h) in
    subst (IsCalmPut d) same (record { calm = calm; ordered = ready })

plain : (d : Digest) (f : TxEvent) (arcs : List Arc) (x : Put) → put f arcs ≡ Some x → is_calm f ≡ true → (f ≡ TxEvent.Ordered → ⊥) → IsCalmPut d x
plain d f arcs x h calm off = given d f arcs x h calm (λ is. absurd (off is))

calm_request : (who : Who) (d : Digest) (r : Request) (x : Put) → is_failure (Event.Do r) ≡ false → put_by_request who d r ≡ Some x → IsCalmPut d x
calm_request who d (Request.UAbort p) x calm h = absurd (cc (calm))
calm_request who d Request.Rollback x calm h = absurd (cc (calm))
calm_request who d (Request.DeferEnd p) x calm h = plain d _ _ x h refl (λ i. cc (i))
calm_request who d (Request.DeferGrant p) x calm h = plain d _ _ x h refl (λ i. cc (i))
calm_request who d (Request.Prepare p) x calm h = plain d _ _ x h refl (λ i. cc (i))
calm_request who d Request.Commit x calm h = plain d _ _ x h refl (λ i. cc (i))
calm_request who d Request.Done x calm h = plain d _ _ x h refl (λ i. cc (i))
calm_request who d Request.Unchanged x calm h = plain d _ _ x h refl (λ i. cc (i))
calm_request who d r x calm h = absurd (cc (h))

calm_record : (d : Digest) (p : ℕ) (arcs : List Arc) (r : DialogueRecord) (x : Put) → (r ≡ DialogueRecord.UAbort → ⊥) → put_by_record p arcs r ≡ Some x → IsCalmPut d x
calm_record d p arcs DialogueRecord.UAbort x calm h = absurd (calm refl)
calm_record d p arcs DialogueRecord.DeferEnd x calm h = plain d _ _ x h refl (λ i. cc (i))
calm_record d p arcs DialogueRecord.DeferGrant x calm h = plain d _ _ x h refl (λ i. cc (i))
calm_record d p arcs DialogueRecord.Prepare x calm h = plain d _ _ x h refl (λ i. cc (i))
calm_record d p arcs DialogueRecord.Ready x calm h = plain d _ _ x h refl (λ i. cc (i))
calm_record d p arcs DialogueRecord.Commit x calm h = plain d _ _ x h refl (λ i. cc (i))
calm_record d p arcs (DialogueRecord.Done r) x calm h = plain d _ _ x h refl (λ i. cc (i))
calm_record d p arcs DialogueRecord.Rollback x calm h = plain d _ _ x h refl (λ i. cc (i))
calm_record d p arcs (DialogueRecord.RolledBack r) x calm h = plain d _ _ x h refl (λ i. cc (i))
calm_record d p arcs DialogueRecord.Left x calm h = plain d _ _ x h refl (λ i. cc (i))
calm_record d p arcs DialogueRecord.LeftEnd x calm h = plain d _ _ x h refl (λ i. cc (i))
calm_record d p arcs r x calm h = absurd (cc (h))

calm_on : (who : Who) (d : Digest) (a : Arc) (r : DialogueRecord) (x : Put) → (r ≡ DialogueRecord.UAbort → ⊥) → put_on who d a r ≡ Some x → IsCalmPut d x
calm_on who d a r x calm h = go (sight_at who d a r) h
  where
    go : (v : Sight) → elim v as (λ _. Option Put) [ Acts ↦ put_by_record a.peer.node (counted_arcs d.arcs a.peer.node) r | Nothing_happens ↦ None | Out_of_phase ↦ None ] ≡ Some x → IsCalmPut d x
    go Acts h = calm_record d a.peer.node (counted_arcs d.arcs a.peer.node) r x calm h
    go Nothing_happens h = absurd (cc (h))
    go Out_of_phase h = absurd (cc (h))

ready_named : (d : Digest) (k : NodeKey) (c : Current) → is_current_ready (named_by_key d k) ≡ true → d.current ≡ Some c → is_ready c.phase ≡ true
ready_named d k c h i = go (is_key (node_key c.key) k) refl
  where
    go : (b : Bool) → is_key (node_key c.key) k ≡ b → is_ready c.phase ≡ true
    go true j = grind (arith, h, i, j)
    go false j = absurd (grind (arith, h, i, j))

calm_ready : (d : Digest) (t : Aaid) (b : BranchId) (f : TxEvent) (x : Put) → is_calm f ≡ true → put_where_ready d t b f ≡ Some x → IsCalmPut d x
calm_ready d t b f x calm h = go (is_current_ready (named_by_key d (branch_key t b))) refl h
  where
    go : (v : Bool) → is_current_ready (named_by_key d (branch_key t b)) ≡ v → (if v then put f d.arcs else None) ≡ Some x → IsCalmPut d x
    go false j h = absurd (cc (h))
    go true j h = given d f d.arcs x h calm (λ is c i. ready_named d (branch_key t b) c j i)

calm_peer : (who : Who) (d : Digest) (from : Addr) (r : PeerRecord) (x : Put) → is_failure (Event.Arrive from r) ≡ false → put_by_peer who d from r ≡ Some x → IsCalmPut d x
calm_peer who d from (PeerRecord.ShutAssoc y (Some z)) x calm h = absurd (cc (calm))
calm_peer who d from (PeerRecord.OnAssoc y z q r) x calm h = go (find_arc d.arcs from.node) h
  where
    no_abort : r ≡ DialogueRecord.UAbort → ⊥
    no_abort is = let off : is_failure (Event.Arrive from (PeerRecord.OnAssoc y z q DialogueRecord.UAbort)) ≡ false = ap (λ (w : DialogueRecord). is_failure (Event.Arrive from (PeerRecord.OnAssoc y z q w))) (sym is) ∙ calm in absurd (cc (off))

    go : (o : Option Arc) → elim o as (λ _. Option Put) [ None ↦ None | Some a ↦ put_on who d a r ] ≡ Some x → IsCalmPut d x
    go None h = absurd (cc (h))
    go (Some a) h = calm_on who d a r x no_abort h
calm_peer who d from (PeerRecord.RecCommit t b) x calm h = calm_ready d t b TxEvent.Ordered x refl h
calm_peer who d from (PeerRecord.RecReply t b (RecState.Done r)) x calm h = go (is_committing_named (named_by_branch d t b).current) h
  where
    go : (v : Bool) → (if v then put (TxEvent.Reply b (RecState.Done r)) d.arcs else None) ≡ Some x → IsCalmPut d x
    go false h = absurd (cc (h))
    go true h = plain d _ _ x h refl (λ i. cc (i))
calm_peer who d from (PeerRecord.RecReply t b s) x calm h = calm_ready d t b (TxEvent.Reply b s) x refl h
calm_peer who d from _ x calm h = absurd (cc (h))

pub calm_put : (who : Who) (d : Digest) (e : Event) (x : Put) → is_failure e ≡ false → put_by who d e ≡ Some x → IsCalmPut d x
calm_put who d (Event.Declare s) x calm h = absurd (cc (h))
calm_put who d (Event.Do r) x calm h = calm_request who d r x calm h
calm_put who d (Event.Arrive from r) x calm h = calm_peer who d from r x calm h
calm_put who d (Event.Break from r) x calm h = absurd (cc (calm))
calm_put who d (Event.Lose p) x calm h = absurd (cc (calm))
calm_put who d (Event.Heur o) x calm h = absurd (cc (calm))
calm_put who d (Event.GiveUp p) x calm h = absurd (cc (calm))
calm_put who d Event.Retry x calm h = plain d _ _ x h refl (λ i. cc (i))
calm_put who d Event.Purge x calm h = absurd (cc (h))
calm_put who d Event.Crash x calm h = absurd (cc (h))

-- ---- it is put so that it may be acted on

left_either : (xs ys : List Arc) (bs : List Branch) → all_left (seen_rows xs bs) ≡ all_left (seen_rows ys bs)
left_either xs ys [] = refl
left_either xs ys (b ∷ bs) = ap (λ v. b.left && v) (left_either xs ys bs)

refused_either : (who : Who) (f : TxEvent) (xs ys : List Arc) (c : Current) → is_calm f ≡ true → is_took f ≡ false → refused_tx f (seen who xs c) ≡ None → refused_tx f (seen who ys c) ≡ None
unfolding refused_tx
refused_either who (TxEvent.User Request.Unchanged) xs ys c calm off h = let same = left_either xs ys c.branches in grind (arith, h, same)
refused_either who (TxEvent.Took p r) xs ys c calm off h = absurd (cc (off))
refused_either who (TxEvent.GiveUp p) xs ys c calm off h = absurd (cc (calm))
refused_either who _ xs ys c calm off h = h

taken_of : (f : TxEvent) (t : Transaction) → IsTakenUp f t → is_took f ≡ false → refused_tx f t ≡ None
taken_of (TxEvent.Took p r) t k off = absurd (cc (off))
taken_of f t k off = k

pub calm_is_put : (who : Who) (d : Digest) (e : Event) (c : Current) (x : Put) → d.current ≡ Some c → is_nil c.phase ≡ false → IsPutTo who d e c x → IsCalmPut d x → IsPut x.event (seen who x.arcs c)
calm_is_put who d e c x i late k calm = record {
  late = late;
  ok = λ off. refused_either who x.event d.arcs x.arcs c calm.calm off (taken_of x.event (seen who d.arcs c) k.taken off);
  abort = λ p is. absurd (wild x.event (TxEvent.User (Request.UAbort p)) is calm.calm refl);
  ordered = λ is. calm.ordered is c i;
  not_begun = λ arcs is. wild x.event (TxEvent.Begun arcs) is calm.calm refl;
}

put_off_live : (q : ℕ) (arcs later : List Arc) → IsPutOff q arcs later → (p : ℕ) → is_live_with_peer later p ≡ is_live_with_peer arcs p
put_off_live q arcs later k p = go (p == q) refl
  where
    go : (b : Bool) → (p == q) ≡ b → is_live_with_peer later p ≡ is_live_with_peer arcs p
    go false i = (k.others p i).live
    go true i = let same : q ≡ p = grind (arith, nat_tests, i) in subst (λ (n : ℕ). is_live_with_peer later n ≡ is_live_with_peer arcs n) same (k.live ∙ sym k.before)

-- the arcs at which it is put are as live as those before
pub reaches_live : (f : TxEvent) (c : Current) (arcs later : List Arc) → is_calm f ≡ true → Reaches f c arcs later → (p : ℕ) → is_live_with_peer later p ≡ is_live_with_peer arcs p
reaches_live (TxEvent.Begun cs) c arcs later calm h p = absurd (cc (calm))
reaches_live (TxEvent.User (Request.UAbort q)) c arcs later calm h p = absurd (cc (calm))
reaches_live (TxEvent.User (Request.DeferEnd q)) c arcs later calm h p = put_off_live q arcs later h.2 p
reaches_live (TxEvent.User r) c arcs later calm h p = (h p).live
reaches_live (TxEvent.Took q DialogueRecord.UAbort) c arcs later calm h p = absurd (cc (calm))
reaches_live (TxEvent.Took q DialogueRecord.DeferEnd) c arcs later calm h p = put_off_live q arcs later h.2 p
reaches_live (TxEvent.Took q DialogueRecord.LeftEnd) c arcs later calm h p = (h.1 p).live
reaches_live (TxEvent.Took q r) c arcs later calm h p = (h p).live
reaches_live (TxEvent.Lost q) c arcs later calm h p = absurd (cc (calm))
reaches_live (TxEvent.Heur o) c arcs later calm h p = absurd (cc (calm))
reaches_live (TxEvent.GiveUp q) c arcs later calm h p = absurd (cc (calm))
reaches_live TxEvent.Ordered c arcs later calm h p = (h p).live
reaches_live (TxEvent.Reply b s) c arcs later calm h p = (h p).live
reaches_live TxEvent.Retry c arcs later calm h p = (h p).live

-- the superior leaves with no end
pub leaves_below : (f : TxEvent) (c : Current) (arcs later : List Arc) → Reaches f c arcs later → (p : ℕ) → leaves_with_end f p ≡ true → is_under_at c.key p ≡ false
leaves_below (TxEvent.Took q DialogueRecord.LeftEnd) c arcs later h p is = let at : q ≡ p = grind (arith, nat_tests, is) in subst (λ (n : ℕ). is_under_at c.key n ≡ false) at h.0
leaves_below f c arcs later h p is = absurd (cc (is))

-- ---- an event that is no failure, or one of a dialogue that the transaction does not depend on

rollback_ok : (who : Who) (d : Digest) (c : Current) → refused_request who d Request.Rollback ≡ None → d.current ≡ Some c → refused_tx (TxEvent.User Request.Rollback) (seen who d.arcs c) ≡ None
unfolding refused_request refused_tx
rollback_ok who d c ok i = grind (arith, ok, i)

same_put : (who : Who) (c : Current) (f : TxEvent) (arcs : List Arc) (x : Put) → put f arcs ≡ Some x → IsPut f (seen who arcs c) → IsPut x.event (seen who x.arcs c)
same_put who c f arcs x h k =
    let same : ◌≡◌ {A = Put} (record { event = f; arcs = arcs }) x = cc (h) in
    subst (λ (y : Put). IsPut y.event (seen who y.arcs c)) same k

-- so is a failure put to what is current
pub failure_is_put : (who : Who) (d : Digest) (e : Event) (c : Current) (x : Put) → d.current ≡ Some c → is_nil c.phase ≡ false → refusal who d e ≡ None → is_failure e ≡ true → put_by who d e ≡ Some x → IsPut x.event (seen who x.arcs c)
unfolding refused_tx
failure_is_put who d (Event.Do (Request.UAbort p)) c x i late ok fails h = go (situation_at who d p).branch refl h
  where
    go : (b : Bool) → (situation_at who d p).branch ≡ b → (if b then put (TxEvent.User (Request.UAbort p)) d.arcs else None) ≡ Some x → IsPut x.event (seen who x.arcs c)
    go false j h = absurd (cc (h))
    go true j h =
        same_put who c (TxEvent.User (Request.UAbort p)) d.arcs x h
        (record { late = late; ok = λ off. refl; abort = λ q is. abort_active who d p c (plain_request who d (Request.UAbort p) ok) j i late; ordered = λ is. cc (is); not_begun = λ arcs is. cc (is) })
failure_is_put who d (Event.Do Request.Rollback) c x i late ok fails h = same_put who c (TxEvent.User Request.Rollback) d.arcs x h (record { late = late; ok = λ off. rollback_ok who d c (plain_request who d Request.Rollback ok) i; abort = λ q is. cc (is); ordered = λ is. cc (is); not_begun = λ arcs is. cc (is) })
failure_is_put who d (Event.Arrive from (PeerRecord.ShutAssoc y (Some z))) c x i late ok fails h =
    same_put who c (TxEvent.Lost from.node) (without_arc d.arcs from.node) x h (record { late = late; ok = λ off. refl; abort = λ q is. cc (is); ordered = λ is. cc (is); not_begun = λ arcs is. cc (is) })
failure_is_put who d (Event.Arrive from (PeerRecord.OnAssoc y z q DialogueRecord.UAbort)) c x i late ok fails h = go (find_arc d.arcs from.node) h
  where
    on : (a : Arc) (v : Sight) → elim v as (λ _. Option Put) [ Acts ↦ put_by_record a.peer.node (counted_arcs d.arcs a.peer.node) DialogueRecord.UAbort | Nothing_happens ↦ None | Out_of_phase ↦ None ] ≡ Some x → IsPut x.event (seen who x.arcs c)
    on a Acts h = same_put who c (TxEvent.Took a.peer.node DialogueRecord.UAbort) _ x h (record { late = late; ok = λ off. absurd (cc (off)); abort = λ q is. cc (is); ordered = λ is. cc (is); not_begun = λ arcs is. cc (is) })
    on a Nothing_happens h = absurd (cc (h))
    on a Out_of_phase h = absurd (cc (h))

    go : (o : Option Arc) → elim o as (λ _. Option Put) [ None ↦ None | Some a ↦ put_on who d a DialogueRecord.UAbort ] ≡ Some x → IsPut x.event (seen who x.arcs c)
    go None h = absurd (cc (h))
    go (Some a) h = on a (sight_at who d a DialogueRecord.UAbort) h
failure_is_put who d (Event.Break from r) c x i late ok fails h = go (broken_pair r) h
  where
    go : (o : Option (Mark × Mark)) → elim o as (λ _. Option Put) [ None ↦ None | Some xy ↦ put (TxEvent.Lost from.node) (without_arc d.arcs from.node) ] ≡ Some x → IsPut x.event (seen who x.arcs c)
    go None h = absurd (cc (h))
    go (Some xy) h = same_put who c (TxEvent.Lost from.node) (without_arc d.arcs from.node) x h (record { late = late; ok = λ off. refl; abort = λ q is. cc (is); ordered = λ is. cc (is); not_begun = λ arcs is. cc (is) })
failure_is_put who d (Event.Lose p) c x i late ok fails h =
    same_put who c (TxEvent.Lost p) (without_arc d.arcs p) x h (record { late = late; ok = λ off. refl; abort = λ q is. cc (is); ordered = λ is. cc (is); not_begun = λ arcs is. cc (is) })
failure_is_put who d (Event.Heur o) c x i late ok fails h =
    same_put who c (TxEvent.Heur o) d.arcs x h (record { late = late; ok = λ off. plain_heur who d o c ok i; abort = λ q is. cc (is); ordered = λ is. cc (is); not_begun = λ arcs is. cc (is) })
failure_is_put who d (Event.GiveUp p) c x i late ok fails h =
    same_put who c (TxEvent.GiveUp p) d.arcs x h (record { late = late; ok = λ off. plain_give_up who d p c ok i; abort = λ q is. cc (is); ordered = λ is. cc (is); not_begun = λ arcs is. cc (is) })
failure_is_put who d Event.Crash c x i late ok fails h = absurd (cc (h))
failure_is_put who d e c x i late ok fails h = absurd (cc (fails))

-- no dialogue that the transaction depends on is lost
record Elsewhere (c : Current) (x : Put) : Type 0 where
  peer : ℕ
  off : depends_on c peer ≡ false
  is : (x.event ≡ TxEvent.Lost peer) ⊎ (x.event ≡ TxEvent.Took peer DialogueRecord.UAbort)

event_is : (f : TxEvent) (arcs : List Arc) (x : Put) → put f arcs ≡ Some x → x.event ≡ f
event_is f arcs x h = let same : ◌≡◌ {A = Put} (record { event = f; arcs = arcs }) x = cc (h) in ap (λ (y : Put). y.event) (sym same)

elsewhere : (who : Who) (d : Digest) (e : Event) (c : Current) (x : Put) → d.current ≡ Some c → is_failure e ≡ true → touches c e ≡ false → put_by who d e ≡ Some x → Elsewhere c x
elsewhere who d (Event.Do (Request.UAbort p)) c x i fails off h = go (situation_at who d p).branch refl h
  where
    go : (b : Bool) → (situation_at who d p).branch ≡ b → (if b then put (TxEvent.User (Request.UAbort p)) d.arcs else None) ≡ Some x → Elsewhere c x
    go false j h = absurd (cc (h))
    go true j h = absurd (cc (abort_peer who d p c j i, off))
elsewhere who d (Event.Arrive from (PeerRecord.ShutAssoc y (Some z))) c x i fails off h = record { peer = from.node; off = off; is = inl (event_is (TxEvent.Lost from.node) (without_arc d.arcs from.node) x h) }
elsewhere who d (Event.Arrive from (PeerRecord.OnAssoc y z q DialogueRecord.UAbort)) c x i fails off h = go (find_arc d.arcs from.node) refl h
  where
    on : (a : Arc) → a.peer.node ≡ from.node → (v : Sight) → elim v as (λ _. Option Put) [ Acts ↦ put_by_record a.peer.node (counted_arcs d.arcs a.peer.node) DialogueRecord.UAbort | Nothing_happens ↦ None | Out_of_phase ↦ None ] ≡ Some x → Elsewhere c x
    on a at Acts h = record { peer = a.peer.node; off = ap (depends_on c) at ∙ off; is = inr (event_is (TxEvent.Took a.peer.node DialogueRecord.UAbort) _ x h) }
    on a at Nothing_happens h = absurd (cc (h))
    on a at Out_of_phase h = absurd (cc (h))

    go : (o : Option Arc) → find_arc d.arcs from.node ≡ o → elim o as (λ _. Option Put) [ None ↦ None | Some a ↦ put_on who d a DialogueRecord.UAbort ] ≡ Some x → Elsewhere c x
    go None j h = absurd (cc (h))
    go (Some a) j h = on a (find_arc_is d.arcs from.node a j) (sight_at who d a DialogueRecord.UAbort) h
elsewhere who d (Event.Break from r) c x i fails off h = go (broken_pair r) h
  where
    go : (o : Option (Mark × Mark)) → elim o as (λ _. Option Put) [ None ↦ None | Some xy ↦ put (TxEvent.Lost from.node) (without_arc d.arcs from.node) ] ≡ Some x → Elsewhere c x
    go None h = absurd (cc (h))
    go (Some xy) h = record { peer = from.node; off = off; is = inl (event_is (TxEvent.Lost from.node) (without_arc d.arcs from.node) x h) }
elsewhere who d (Event.Lose p) c x i fails off h = record { peer = p; off = off; is = inl (event_is (TxEvent.Lost p) (without_arc d.arcs p) x h) }
elsewhere who d (Event.Do r) c x i fails off h = absurd (cc (off))
elsewhere who d (Event.Heur o) c x i fails off h = absurd (cc (off))
elsewhere who d (Event.GiveUp p) c x i fails off h = absurd (cc (off))
elsewhere who d Event.Crash c x i fails off h = absurd (cc (off))
elsewhere who d e c x i fails off h = absurd (cc (fails))

-- so the transaction's own arcs and rows stay
pub record IsMildPut (who : Who) (d : Digest) (c : Current) (x : Put) : Type 0 where
  pub put : IsPut x.event (seen who x.arcs c)
  pub spare : (p : ℕ) → needs c p ≡ true → spares x.event c.key p ≡ true
  pub reached : (p : ℕ) → needs c p ≡ true → is_live_with_peer x.arcs p ≡ is_live_with_peer d.arcs p
  pub bare : is_given x.event ≡ false
  -- as at some peer at least
  pub some : (p : ℕ) × (leaves_with_end x.event p ≡ false) × (spares x.event c.key p ≡ true)

-- of each event there is a peer that does not leave with an end
other_peer : (f : TxEvent) → (q : ℕ) × (leaves_with_end f q ≡ false)
other_peer (TxEvent.Took q DialogueRecord.LeftEnd) = (suc q, grind (arith, nat_tests))
other_peer f = (0, refl)

-- an arc that is needed is one that the transaction depends on
needed_depends : (c : Current) (p : ℕ) → needs c p ≡ true → depends_on c p ≡ true
needed_depends c p need = go (is_under_at c.key p) refl
  where
    on : (o : Option Branch) → elim o as (λ _. Bool) [ None ↦ false | Some b ↦ is_open b ] ≡ true → elim o as (λ _. Bool) [ None ↦ false | Some b ↦ not (is_done_with b) ] ≡ true
    on None h = absurd (cc (h))
    on (Some b) h = grind (arith, h)

    go : (v : Bool) → is_under_at c.key p ≡ v → depends_on c p ≡ true
    go true i = rw i refl
    go false i = let stands : branch_is is_open c p ≡ true = grind (arith, need, i) in let there : branch_is (λ b. not (is_done_with b)) c p ≡ true = on (find_branch c.branches p) stands in rw there (grind arith)

apart : (c : Current) (p q : ℕ) → needs c p ≡ true → depends_on c q ≡ false → (p == q) ≡ false
apart c p q on off = go (p == q) refl
  where
    go : (b : Bool) → (p == q) ≡ b → b ≡ false
    go false i = refl
    go true i = let same : p ≡ q = grind (arith, nat_tests, i) in absurd (cc (sym (ap (depends_on c) same) ∙ needed_depends c p on, off))

mirrored : (p q : ℕ) → (p == q) ≡ false → (q == p) ≡ false
mirrored p q h = grind (arith, nat_tests, h)

not_under : (c : Current) (q : ℕ) → depends_on c q ≡ false → is_under_at c.key q ≡ false
not_under c q h = grind (arith, h)

spared : (c : Current) (x : Put) (w : Elsewhere c x) (p : ℕ) → (w.peer == p) ≡ false → spares x.event c.key p ≡ true
spared c x w p other = by w.is
  where
    under : is_under_at c.key w.peer ≡ false
    under = not_under c w.peer w.off

    by : (x.event ≡ TxEvent.Lost w.peer) ⊎ (x.event ≡ TxEvent.Took w.peer DialogueRecord.UAbort) → spares x.event c.key p ≡ true
    by (inl is) = ap (λ (f : TxEvent). spares f c.key p) is ∙ rw (other, under) refl
    by (inr is) = ap (λ (f : TxEvent). spares f c.key p) is ∙ rw (other, under) refl

pub mild_put : (who : Who) (d : Digest) (e : Event) (c : Current) (x : Put) → d.current ≡ Some c → is_nil c.phase ≡ false → refusal who d e ≡ None → (is_failure e && touches c e) ≡ false → IsPutTo who d e c x → put_by who d e ≡ Some x → IsMildPut who d c x
mild_put who d e c x i late ok mild to h = go (is_failure e) refl (touches c e) refl mild
  where
    calm : is_failure e ≡ false → IsMildPut who d c x
    calm off =
        let k : IsCalmPut d x = calm_put who d e x off h in
        let q = other_peer x.event in
        record {
          put = calm_is_put who d e c x i late to k;
          spare = λ p on. calm_spares x.event c.key p k.calm;
          reached = λ p on. reaches_live x.event c d.arcs x.arcs k.calm to.reaches p;
          bare = calm_not_given x.event k.calm;
          some = (q.0, q.1, calm_spares x.event c.key q.0 k.calm);
        }

    aside : is_failure e ≡ true → touches c e ≡ false → IsMildPut who d c x
    aside fails off = record {
      put = failure_is_put who d e c x i late ok fails h;
      spare = λ p on. spared c x w p (mirrored p w.peer (apart c p w.peer on w.off));
      reached = λ p on. (cut.others p (apart c p w.peer on w.off)).live;
      bare = bare w.is;
      some = (suc w.peer, ends w.is, spared c x w (suc w.peer) (grind (arith, nat_tests)));
    }
      where
        w : Elsewhere c x
        w = elsewhere who d e c x i fails off h

        cuts : (x.event ≡ TxEvent.Lost w.peer) ⊎ (x.event ≡ TxEvent.Took w.peer DialogueRecord.UAbort) → IsCut w.peer d.arcs x.arcs
        cuts (inl is) = subst (λ (f : TxEvent). Reaches f c d.arcs x.arcs) is to.reaches
        cuts (inr is) = subst (λ (f : TxEvent). Reaches f c d.arcs x.arcs) is to.reaches

        cut : IsCut w.peer d.arcs x.arcs
        cut = cuts w.is

        bare : (x.event ≡ TxEvent.Lost w.peer) ⊎ (x.event ≡ TxEvent.Took w.peer DialogueRecord.UAbort) → is_given x.event ≡ false
        bare (inl is) = ap is_given is
        bare (inr is) = ap is_given is

        ends : (x.event ≡ TxEvent.Lost w.peer) ⊎ (x.event ≡ TxEvent.Took w.peer DialogueRecord.UAbort) → leaves_with_end x.event (suc w.peer) ≡ false
        ends (inl is) = ap (λ (f : TxEvent). leaves_with_end f (suc w.peer)) is
        ends (inr is) = ap (λ (f : TxEvent). leaves_with_end f (suc w.peer)) is

    go : (a : Bool) → is_failure e ≡ a → (b : Bool) → touches c e ≡ b → (is_failure e && touches c e) ≡ false → IsMildPut who d c x
    go false j b k m = calm j
    go true j false k m = aside j k
    go true j true k m = absurd (grind (arith, m, j, k))

alive_others : (d : Digest) (e : Event) (m : Move) → IsAlive m.next → IsAlive (with_others d e m).next
alive_others d Event.Retry m k = (retry_aside m.next.kept m.next).alive k
alive_others d (Event.Break from r) m k = go (broken_pair r)
  where
    go : (o : Option (Mark × Mark)) → IsAlive (elim o as (λ _. Move) [ None ↦ m | Some xy ↦ followed (perform (TxOut.Recovery from (PeerRecord.ShutAssoc xy.0 (Some xy.1)) ∷ []) d) (λ g. m) ]).next
    go None = k
    go (Some xy) = k
alive_others d e m k = k

pub alive_put : (who : Who) (d : Digest) (e : Event) (c : Current) (x : Put) → d.current ≡ Some c → IsPutTo who d e c x → IsMildPut who d c x → IsAlive d → IsAlive (action who d e).next
alive_put who d e c x i k f old =
    let g : Digest = record d { arcs = x.arcs } in
    subst (λ (m : Move). IsAlive m.next) (sym k.acts)
    (alive_others d e (transact who x.event g)
    (alive_transact who x.event g
    (λ u j. let same : c ≡ u = cc (i, j) in subst (λ (v : Current). IsPut x.event (seen who x.arcs v)) same f.put)
    (λ u p j need. let same : c ≡ u = cc (i, j) in subst (λ (v : Current). needs v p ≡ true → spares x.event v.key p ≡ true) same (λ n. f.spare p n) need)
    (λ u p j is. let same : c ≡ u = cc (i, j) in subst (λ (v : Current). is_under_at v.key p ≡ false) same (leaves_below x.event c d.arcs x.arcs k.reaches p is))
    (λ u p j need. let same : c ≡ u = cc (i, j) in f.reached p (subst (λ (v : Current). needs v p ≡ true) (sym same) need) ∙ old u p j need)))

-- ---- one that puts nothing to it

failing_aside : (who : Who) (d : Digest) (e : Event) (c : Current) → d.current ≡ Some c → is_failure e ≡ true → touches c e ≡ false → put_by who d e ≡ None → IsAside d (action who d e)
unfolding abort break_off
failing_aside who d (Event.Do (Request.UAbort p)) c i fails off h = go (situation_at who d p).branch refl
  where
    go : (b : Bool) → (situation_at who d p).branch ≡ b → IsAside d (if b then transact who (TxEvent.User (Request.UAbort p)) d else perform (TxOut.Carry p DialogueRecord.UAbort ∷ TxOut.Close p ∷ []) d)
    go true j = absurd (cc (abort_peer who d p c j i, off))
    go false j = aborts_aside who d p j
failing_aside who d (Event.Arrive from (PeerRecord.ShutAssoc y (Some z))) c i fails off h = absurd (cc (h))
failing_aside who d (Event.Arrive from (PeerRecord.OnAssoc y z q DialogueRecord.UAbort)) c i fails off h = go (find_arc d.arcs from.node) h
  where
    counted : Arc → Digest
    counted a = woken_by DialogueRecord.UAbort a.peer.node (record d { arcs = with_link d.arcs a.peer.node with_one_taken })

    on : (a : Arc) (v : Sight) → elim v as (λ _. Option Put) [ Acts ↦ put_by_record a.peer.node (counted_arcs d.arcs a.peer.node) DialogueRecord.UAbort | Nothing_happens ↦ None | Out_of_phase ↦ None ] ≡ None
        → IsAside d (elim v as (λ _. Move) [ Acts ↦ take_record who a DialogueRecord.UAbort (counted a) | Nothing_happens ↦ move [] (counted a) | Out_of_phase ↦ move [] (counted a) ])
    on a Acts h = absurd (cc (h))
    on a Nothing_happens h = counted_aside d a.peer.node DialogueRecord.UAbort
    on a Out_of_phase h = counted_aside d a.peer.node DialogueRecord.UAbort

    go : (o : Option Arc) → elim o as (λ _. Option Put) [ None ↦ None | Some a ↦ put_on who d a DialogueRecord.UAbort ] ≡ None → IsAside d (elim o as (λ _. Move) [ None ↦ move [] d | Some a ↦ take_on who a DialogueRecord.UAbort d ])
    go None h = nothing_aside d
    go (Some a) h = on a (sight_at who d a DialogueRecord.UAbort) h
failing_aside who d (Event.Break from r) c i fails off h = go (broken_pair r) h
  where
    go : (o : Option (Mark × Mark)) → elim o as (λ _. Option Put) [ None ↦ None | Some xy ↦ put (TxEvent.Lost from.node) (without_arc d.arcs from.node) ] ≡ None
        → IsAside d (elim o as (λ _. Move) [ None ↦ move [] d | Some xy ↦ followed (perform (TxOut.Recovery from (PeerRecord.ShutAssoc xy.0 (Some xy.1)) ∷ []) d) (lose who from.node) ])
    go None h = nothing_aside d
    go (Some xy) h = absurd (cc (h))
failing_aside who d (Event.Lose p) c i fails off h = absurd (cc (h))
failing_aside who d (Event.Do r) c i fails off h = absurd (cc (off))
failing_aside who d (Event.Heur o) c i fails off h = absurd (cc (off))
failing_aside who d (Event.GiveUp p) c i fails off h = absurd (cc (off))
failing_aside who d Event.Crash c i fails off h = absurd (cc (off))
failing_aside who d e c i fails off h = absurd (cc (fails))

pub mild_aside : (who : Who) (d : Digest) (e : Event) (c : Current) → d.current ≡ Some c → (is_failure e && touches c e) ≡ false → refusal who d e ≡ None → IsApart d → put_by who d e ≡ None → IsAside d (action who d e)
mild_aside who d e c i mild ok apart none = go (is_failure e) refl (touches c e) refl mild
  where
    go : (a : Bool) → is_failure e ≡ a → (b : Bool) → touches c e ≡ b → (is_failure e && touches c e) ≡ false → IsAside d (action who d e)
    go false j b k m = aside_event who d e j ok apart (inl none)
    go true j false k m = failing_aside who d e c i j k none
    go true j true k m = absurd (grind (arith, m, j, k))

-- ---- histories

pub legal_of : (o : Origin) (up : Option Addr) (h : List Entry) → o.start.records ≡ [] → IsGrown o up h → IsLegal o up h
legal_of o up h none grown = record { start = rw (none, is_start) refl; grown = grown }

pub unfailed_before : (t : Aaid) (o : Origin) (up : Option Addr) (e : Entry) (h : List Entry) → IsUnfailed t o up (e ∷ h) → (fails_in t (digest o h).current e.event ≡ false) × IsUnfailed t o up h
unfailed_before t o up e h k = (
  either (fails_in t (digest o h).current e.event) (has_failed_in o t h) k.calm,
  record { fresh = k.fresh; grown = k.grown.3; once = k.once.1; calm = other (fails_in t (digest o h).current e.event) (has_failed_in o t h) k.calm },
)
  where
    either : (a b : Bool) → (a || b) ≡ false → a ≡ false
    either a b h = grind (arith, h)

    other : (a b : Bool) → (a || b) ≡ false → b ≡ false
    other a b h = grind (arith, h)

-- an entry that comes while the tree is current is no failure of it
pub mild_entry : (t : Aaid) (o : Origin) (up : Option Addr) (e : Entry) (h : List Entry) (c : Current) → IsUnfailed t o up (e ∷ h) → (digest o h).current ≡ Some c → is_aaid t (aaid_of c.key) ≡ true → (is_failure e.event && touches c e.event) ≡ false
mild_entry t o up e h c k i tree = rest (is_aaid t (aaid_of c.key)) (is_failure e.event) (touches c e.event) tree (ap (λ (v : Option Current). fails_in t v e.event) (sym i) ∙ (unfailed_before t o up e h k).0)
  where
    rest : (a b v : Bool) → a ≡ true → (a && b && v) ≡ false → (b && v) ≡ false
    rest a b v i h = grind (arith, i, h)

-- nor a crash
pub no_crash : (t : Aaid) (o : Origin) (up : Option Addr) (e : Entry) (h : List Entry) → IsUnfailed t o up (e ∷ h) → is_now t (digest o h).current ≡ true → e.event ≡ Event.Crash → ⊥
no_crash t o up e h k now is =
    let c = now_some t (digest o h).current now in
    cc (mild_entry t o up e h c.0 k c.1 c.2, ap (λ (f : Event). is_failure f && touches c.0 f) is)

pub among_of : (o : Origin) (up : Option Addr) (h : List Entry) (c : Current) → o.start.records ≡ [] → IsGrown o up h → (digest o h).current ≡ Some c → IsAmongArcs (digest o h).arcs c
among_of o up h c none grown i = among_law o up h c (legal_of o up h none grown) (empty_apart o none) i

pub apart_of : (o : Origin) (up : Option Addr) (h : List Entry) → o.start.records ≡ [] → IsGrown o up h → IsApart (digest o h)
apart_of o up h none grown c p i under = (among_of o up h c none grown i).apart p under
