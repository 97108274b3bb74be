-- Which events roll a transaction: what the history says, and what the transaction's own rules do.
use Rattle.std.proofs.Common.{◌≡◌, ℕ, Bool, true, false, refl, ap, sym, subst, ◌∙◌, arith, Option, Some, None, List, [], ◌∷◌, ◌||◌, not}
use Rattle.tp_names.specs.declared.identifiers.Mark.{Mark}
use Rattle.tp_names.specs.declared.identifiers.Aaid.{Aaid}
use Rattle.tp_names.specs.declared.identifiers.BranchId.{BranchId}
use Rattle.tp_names.specs.declared.identifiers.Addr.{Addr}
use Rattle.tp_names.specs.Same.{is_key}
use Rattle.tp_records.specs.declared.request.Request.{Request}
use Rattle.tp_records.specs.declared.dialogue.DialogueRecord.{DialogueRecord}
use Rattle.tp_records.specs.declared.peer.PeerRecord.{PeerRecord}
use Rattle.tp_records.specs.declared.peer.RecState.{RecState}
use Rattle.tp_model.specs.declared.arc.Phase.{Phase}
use Rattle.tp_model.specs.declared.transaction.TxEvent.{TxEvent}
use Rattle.tp_model.specs.Parts.{Who, Event, Arc, Branch, Current, Digest}
use Rattle.tp_model.specs.Dialogues.{is_active, is_ready}
use Rattle.tp_model.specs.Arcs.{find_arc}
use Rattle.tp_model.specs.Transactions.{Row, Transaction, node_key, is_under_at, find_row, row_holds, is_waited_for, sight_of_tx, acts, situation_of}
use Rattle.tp_model.specs.Node.{phase_of, seen_rows, seen, situation_at}
use Rattle.tp_model.specs.Arrivals.{branch_key, named_by_key, is_current_ready, sight_at, sight_of}
use Rattle.tp_model.specs.Events.{refusal, verdict}
use Rattle.tp_model.specs.Outcomes.{is_waited_for_at, is_fatal, rolls_by_request, rolls_by_rollback, rolls_by_reply, rolls_by_arrival, rolls}
use Rattle.tp_steps.specs.Turns.{falls, is_fatal_at}
use Rattle.tp_model.specs.AmongArcs.{is_peer}
use Rattle.tp_steps.specs.Moves.{prelude, IsAsked}
use Rattle.tp_steps.proofs.every.EveryMove.{seen_branch}
use Rattle.tp_steps.proofs.every.EveryRecord.{find_arc_is, on_none}

-- ---- the transaction, as it is seen

seen_waited : (arcs : List Arc) (bs : List Branch) (p : ℕ) → row_holds (seen_rows arcs bs) p is_waited_for ≡ is_waited_for_at bs p
seen_waited arcs [] p = refl
seen_waited arcs (b ∷ bs) p = grind (arith, seen_waited arcs bs p)

seen_uncounted : (arcs : List Arc) (arcs' : List Arc) (bs : List Branch) (p : ℕ) → row_holds (seen_rows arcs bs) p (λ b. not b.counted) ≡ row_holds (seen_rows arcs' bs) p (λ b. not b.counted)
seen_uncounted arcs arcs' [] p = refl
seen_uncounted arcs arcs' (b ∷ bs) p = grind (arith, seen_uncounted arcs arcs' bs p)

pub fatal_seen : (who : Who) (d : Digest) (arcs : List Arc) (c : Current) (p : ℕ) → d.current ≡ Some c → is_fatal_at (seen who arcs c) p ≡ is_fatal d p
fatal_seen who d arcs c p i = let s = seen_waited arcs c.branches p in rw (i, is_fatal) (grind (arith, s))

-- ---- an event that falls is one that rolls

rollback_acts : (t : Transaction) (p : ℕ) → falls (TxEvent.Took p DialogueRecord.Rollback) t ≡ true → (acts (sight_of_tx t p DialogueRecord.Rollback) ≡ true) × ((is_active t.phase || is_ready t.phase) ≡ true)
unfolding sight_of_tx
rollback_acts t p h = go (is_under_at t.key p) refl (find_row t.rows p) refl
  where
    go : (b : Bool) → is_under_at t.key p ≡ b → (o : Option Row) → find_row t.rows p ≡ o → (acts (sight_of_tx t p DialogueRecord.Rollback) ≡ true) × ((is_active t.phase || is_ready t.phase) ≡ true)
    go true i o j = (grind (arith, i, h), grind (arith, i, h))
    go false i None j = absurd (grind (arith, i, j, h))
    go false i (Some r) j = (grind (arith, i, j, h), grind (arith, i, j, h))

pub falls_arcs : (who : Who) (arcs arcs' : List Arc) (c : Current) (p : ℕ) → falls (TxEvent.Took p DialogueRecord.Rollback) (seen who arcs c) ≡ true → falls (TxEvent.Took p DialogueRecord.Rollback) (seen who arcs' c) ≡ true
falls_arcs who arcs arcs' c p h = let s = seen_uncounted arcs arcs' c.branches p in grind (arith, h, s)

pub sight_rollback : (who : Who) (d : Digest) (a : Arc) (c : Current) → d.current ≡ Some c → sight_at who d a DialogueRecord.Rollback ≡ sight_of_tx (seen who d.arcs c) a.peer.node DialogueRecord.Rollback
unfolding sight_of
sight_rollback who d a c i = grind (arith, i)

rolls_rollback : (who : Who) (d : Digest) (from : Addr) (x y : Mark) (q : ℕ) (c : Current) (arcs : List Arc) → refusal who d (Event.Arrive from (PeerRecord.OnAssoc x y q DialogueRecord.Rollback)) ≡ None → d.current ≡ Some c
    → falls (TxEvent.Took from.node DialogueRecord.Rollback) (seen who arcs c) ≡ true → rolls_by_rollback who d from.node ≡ true
unfolding refusal verdict
rolls_rollback who d from x y q c arcs ok now h = go (find_arc d.arcs from.node) refl
  where
    go : (o : Option Arc) → find_arc d.arcs from.node ≡ o → rolls_by_rollback who d from.node ≡ true
    go None i = absurd (on_none who d from x y q DialogueRecord.Rollback (grind (arith, ok)) i)
    go (Some a) i =
        let at : a.peer.node ≡ from.node = find_arc_is d.arcs from.node a i in
        let fall : falls (TxEvent.Took a.peer.node DialogueRecord.Rollback) (seen who d.arcs c) ≡ true = subst (λ (p : ℕ). falls (TxEvent.Took p DialogueRecord.Rollback) (seen who d.arcs c) ≡ true) (sym at) (falls_arcs who arcs d.arcs c from.node h) in
        let k = rollback_acts (seen who d.arcs c) a.peer.node fall in
        let act : acts (sight_at who d a DialogueRecord.Rollback) ≡ true = ap acts (sight_rollback who d a c now) ∙ k.0 in
        let phase : (is_active (phase_of d) || is_ready (phase_of d)) ≡ true = ap (λ (p : Phase). is_active p || is_ready p) (phase_is now) ∙ k.1 in
        both phase (rw i act)
      where
        phase_is : d.current ≡ Some c → phase_of d ≡ c.phase
        phase_is n = rw (n, phase_of) refl

        both : (is_active (phase_of d) || is_ready (phase_of d)) ≡ true → elim (find_arc d.arcs from.node) as (λ _. Bool) [ None ↦ false | Some a ↦ acts (sight_at who d a DialogueRecord.Rollback) ] ≡ true → rolls_by_rollback who d from.node ≡ true
        both u v = rw (u, v) refl

pub phase_at : (d : Digest) (c : Current) → d.current ≡ Some c → phase_of d ≡ c.phase
phase_at d c n = rw (n, phase_of) refl

abort_rolls : (who : Who) (d : Digest) (p : ℕ) (c : Current) → d.current ≡ Some c → is_peer c p ≡ true → is_active c.phase ≡ true → rolls_by_request who d (Request.UAbort p) ≡ true
unfolding situation_of
abort_rolls who d p c now peer act =
    let s = seen_branch d.arcs c.branches p in
    let sit : (situation_at who d p).branch ≡ true = rw (now, situation_at) (grind (arith, s, peer)) in
    let a : is_active (phase_of d) ≡ true = ap is_active (phase_at d c now) ∙ act in
    rw (sit, a) refl

reply_rolls : (d : Digest) (c : Current) (t : Aaid) (b : BranchId) → d.current ≡ Some c → is_key (node_key c.key) (branch_key t b) ≡ true → is_ready c.phase ≡ true → rolls_by_reply d (branch_key t b) RecState.Unknown ≡ true
reply_rolls d c t b now key ready = grind (arith, now, key, ready)

-- what an accepted event asks of the transaction makes it roll only if the event rolls
pub rolls_so : (who : Who) (d : Digest) (e : Event) → refusal who d e ≡ None → (c : Current) (f : TxEvent) (arcs : List Arc) → (prelude who d e).current ≡ Some c → IsAsked e c f → falls f (seen who arcs c) ≡ true → rolls who d e ≡ true
rolls_so who d (Event.Declare s) ok c f arcs now asked h = absurd asked
rolls_so who d (Event.Do (Request.UAbort p)) ok c f arcs now asked h =
    let one : falls (TxEvent.User (Request.UAbort p)) (seen who arcs c) ≡ true = subst (λ (g : TxEvent). falls g (seen who arcs c) ≡ true) asked.0 h in
    abort_rolls who d p c now asked.1 one
rolls_so who d (Event.Do Request.Rollback) ok c f arcs now asked h =
    let one : falls (TxEvent.User Request.Rollback) (seen who arcs c) ≡ true = subst (λ (g : TxEvent). falls g (seen who arcs c) ≡ true) asked h in
    ap is_active (phase_at d c now) ∙ one
rolls_so who d (Event.Do (Request.DeferEnd p)) ok c f arcs now asked h = absurd (cc (ap (λ (g : TxEvent). falls g (seen who arcs c)) asked, h))
rolls_so who d (Event.Do (Request.DeferGrant p)) ok c f arcs now asked h = absurd (cc (ap (λ (g : TxEvent). falls g (seen who arcs c)) asked, h))
rolls_so who d (Event.Do (Request.Prepare p)) ok c f arcs now asked h = absurd (cc (ap (λ (g : TxEvent). falls g (seen who arcs c)) asked, h))
rolls_so who d (Event.Do Request.Commit) ok c f arcs now asked h = absurd (cc (ap (λ (g : TxEvent). falls g (seen who arcs c)) asked, h))
rolls_so who d (Event.Do Request.Done) ok c f arcs now asked h = absurd (cc (ap (λ (g : TxEvent). falls g (seen who arcs c)) asked, h))
rolls_so who d (Event.Do Request.Unchanged) ok c f arcs now asked h = absurd (cc (ap (λ (g : TxEvent). falls g (seen who arcs c)) asked, h))
rolls_so who d (Event.Do r) ok c f arcs now asked h = absurd asked
rolls_so who d (Event.Arrive from (PeerRecord.ShutAssoc x None)) ok c f arcs now asked h = absurd asked
rolls_so who d (Event.Arrive from (PeerRecord.ShutAssoc x (Some y))) ok c f arcs now asked h =
    sym (fatal_seen who d arcs c from.node now) ∙ subst (λ (g : TxEvent). falls g (seen who arcs c) ≡ true) asked h
rolls_so who d (Event.Arrive from (PeerRecord.OnAssoc x y q DialogueRecord.UAbort)) ok c f arcs now asked h =
    sym (fatal_seen who d arcs c from.node now) ∙ subst (λ (g : TxEvent). falls g (seen who arcs c) ≡ true) asked h
rolls_so who d (Event.Arrive from (PeerRecord.OnAssoc x y q DialogueRecord.Rollback)) ok c f arcs now asked h =
    rolls_rollback who d from x y q c arcs ok now (subst (λ (g : TxEvent). falls g (seen who arcs c) ≡ true) asked h)
rolls_so who d (Event.Arrive from (PeerRecord.OnAssoc x y q r)) ok c f arcs now asked h = absurd (cc (ap (λ (g : TxEvent). falls g (seen who arcs c)) asked, h))
rolls_so who d (Event.Arrive from (PeerRecord.RecCommit t b)) ok c f arcs now asked h = absurd (cc (ap (λ (g : TxEvent). falls g (seen who arcs c)) asked.0, h))
rolls_so who d (Event.Arrive from (PeerRecord.RecReply t b RecState.Unknown)) ok c f arcs now asked h =
    reply_rolls d c t b now asked.1 (subst (λ (g : TxEvent). falls g (seen who arcs c) ≡ true) asked.0 h)
rolls_so who d (Event.Arrive from (PeerRecord.RecReply t b RecState.Commit)) ok c f arcs now asked h = absurd (cc (ap (λ (g : TxEvent). falls g (seen who arcs c)) asked.0, h))
rolls_so who d (Event.Arrive from (PeerRecord.RecReply t b (RecState.Done r))) ok c f arcs now asked h = absurd (cc (ap (λ (g : TxEvent). falls g (seen who arcs c)) asked.0, h))
rolls_so who d (Event.Arrive from (PeerRecord.RecReply t b RecState.RetryLater)) ok c f arcs now asked h = absurd (cc (ap (λ (g : TxEvent). falls g (seen who arcs c)) asked.0, h))
rolls_so who d (Event.Arrive from r) ok c f arcs now asked h = absurd asked
rolls_so who d (Event.Break from r) ok c f arcs now asked h = sym (fatal_seen who d arcs c from.node now) ∙ subst (λ (g : TxEvent). falls g (seen who arcs c) ≡ true) asked h
rolls_so who d (Event.Lose p) ok c f arcs now asked h = sym (fatal_seen who d arcs c p now) ∙ subst (λ (g : TxEvent). falls g (seen who arcs c) ≡ true) asked h
rolls_so who d (Event.Heur o) ok c f arcs now asked h = absurd (cc (ap (λ (g : TxEvent). falls g (seen who arcs c)) asked, h))
rolls_so who d (Event.GiveUp p) ok c f arcs now asked h = absurd (cc (ap (λ (g : TxEvent). falls g (seen who arcs c)) asked, h))
rolls_so who d Event.Retry ok c f arcs now asked h = absurd (cc (ap (λ (g : TxEvent). falls g (seen who arcs c)) asked, h))
rolls_so who d Event.Purge ok c f arcs now asked h = absurd asked
rolls_so who d Event.Crash ok c f arcs now asked h = absurd asked

-- ---- where it rolls from

pub rolls_from : (who : Who) (d : Digest) (e : Event) → rolls who d e ≡ true → (is_active (phase_of d) || is_ready (phase_of d)) ≡ true
rolls_from who d (Event.Do r) h = grind (arith, h)
rolls_from who d (Event.Arrive from r) h = arrival r h
  where
    fatal : (p : ℕ) → is_fatal d p ≡ true → (is_active (phase_of d) || is_ready (phase_of d)) ≡ true
    fatal p k = go d.current refl
      where
        go : (o : Option Current) → d.current ≡ o → (is_active (phase_of d) || is_ready (phase_of d)) ≡ true
        go None i = absurd (grind (arith, k, i))
        go (Some c) i = grind (arith, k, i)

    reply : (t : Aaid) (b : BranchId) → is_current_ready (named_by_key d (branch_key t b)) ≡ true → (is_active (phase_of d) || is_ready (phase_of d)) ≡ true
    reply t b k = go d.current refl
      where
        go : (o : Option Current) → d.current ≡ o → (is_active (phase_of d) || is_ready (phase_of d)) ≡ true
        go None i = absurd (grind (arith, k, i))
        go (Some c) i = on (is_key (node_key c.key) (branch_key t b)) refl
          where
            on : (v : Bool) → is_key (node_key c.key) (branch_key t b) ≡ v → (is_active (phase_of d) || is_ready (phase_of d)) ≡ true
            on true j = grind (arith, k, i, j)
            on false j = absurd (grind (arith, k, i, j))

    arrival : (r : PeerRecord) → rolls_by_arrival who d from r ≡ true → (is_active (phase_of d) || is_ready (phase_of d)) ≡ true
    arrival (PeerRecord.ShutAssoc x (Some y)) k = fatal from.node k
    arrival (PeerRecord.ShutAssoc x None) k = absurd cc
    arrival (PeerRecord.OnAssoc x y q DialogueRecord.UAbort) k = fatal from.node k
    arrival (PeerRecord.OnAssoc x y q DialogueRecord.Rollback) k = grind (arith, k)
    arrival (PeerRecord.OnAssoc x y q r) k = absurd (grind (arith, k))
    arrival (PeerRecord.RecReply t b RecState.Unknown) k = reply t b k
    arrival (PeerRecord.RecReply t b v) k = absurd (grind (arith, k))
    arrival r k = absurd (grind (arith, k))
rolls_from who d (Event.Break from r) h = fatal_from d from.node h
  where
    fatal_from : (d : Digest) (p : ℕ) → is_fatal d p ≡ true → (is_active (phase_of d) || is_ready (phase_of d)) ≡ true
    fatal_from d p k = go d.current refl
      where
        go : (o : Option Current) → d.current ≡ o → (is_active (phase_of d) || is_ready (phase_of d)) ≡ true
        go None i = absurd (grind (arith, k, i))
        go (Some c) i = grind (arith, k, i)
rolls_from who d (Event.Lose p) h = go d.current refl
  where
    go : (o : Option Current) → d.current ≡ o → (is_active (phase_of d) || is_ready (phase_of d)) ≡ true
    go None i = absurd (grind (arith, h, i))
    go (Some c) i = grind (arith, h, i)
rolls_from who d _ h = absurd cc
