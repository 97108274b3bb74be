-- What an event of a node puts to its current transaction comes to it at arcs that it reaches from those before it.
use Rattle.std.proofs.Common.{if◌then◌else◌, ◌≡◌, inl, inr, ℕ, Bool, true, false, refl, ap, sym, subst, ◌∙◌, arith, Option, Some, None, List, [], ◌∷◌, ◌&&◌, ◌||◌, not}
use Rattle.tp_names.specs.declared.identifiers.Mark.{Mark}
use Rattle.tp_names.specs.declared.identifiers.Aaid.{Aaid}
use Rattle.tp_names.specs.declared.identifiers.BranchId.{BranchId}
use Rattle.tp_names.specs.declared.identifiers.Addr.{Addr}
use Rattle.tp_names.specs.declared.outcome.Report.{Report}
use Rattle.tp_records.specs.declared.request.Request.{Request}
use Rattle.tp_records.specs.declared.indication.Indication.{Indication}
use Rattle.tp_records.specs.declared.dialogue.DialogueRecord.{DialogueRecord}
use Rattle.tp_records.specs.declared.peer.PeerRecord.{PeerRecord}
use Rattle.tp_records.specs.declared.peer.RecState.{RecState}
use Rattle.tp_model.specs.declared.arc.Deferral.{Deferral}
use Rattle.tp_model.specs.declared.transaction.TxEvent.{TxEvent}
use Rattle.tp_model.specs.declared.transaction.TxOut.{TxOut}
use Rattle.tp_model.specs.declared.recovery.KeptEvent.{KeptEvent}
use Rattle.tp_model.specs.declared.recovery.Question.{Question}
use Rattle.tp_model.specs.Parts.{Who, Event, Arc, Branch, Current, Digest}
use Rattle.tp_model.specs.Links.{with_one_taken}
use Rattle.tp_model.specs.Dialogues.{is_nil, is_active, is_rolling, is_end_deferred, Sight, Acts, Nothing_happens, Out_of_phase, Ask_defer_end, Ask_defer_grant, Hear_defer_end, Hear_defer_grant, said, heard, cleared, refused_on_arc, arrived}
use Rattle.tp_model.specs.Arcs.{find_arc, is_live_with_peer, without_arc, with_dialogue, with_link}
use Rattle.tp_model.specs.Transactions.{is_under_at, row_holds, sight_of_tx, refused_tx}
use Rattle.tp_model.specs.Recovery.{settled, forget_to, recovery_answer}
use Rattle.tp_model.specs.Requests.{has_branch_at, refused_request, abort}
use Rattle.tp_model.specs.Node.{Move, move, followed, perform, is_superior, phase_of, is_end_deferred_at, seen_rows, situation_at, transact, keep}
use Rattle.tp_model.specs.Arrivals.{Named, branch_key, named_by_key, named_by_branch, known_of, is_current_ready, sight_at, sight_of, lose, take_abort, take_record, woken_by, take_on, reply_to, take_ready_reply, do_arrival, broken_pair, break_off}
use Rattle.tp_model.specs.Events.{retry, refusal, action}
use Rattle.tp_steps.specs.Moves.{IsLate, may_put_off}
use Rattle.tp_steps.specs.Puts.{Put, put, put_by_request, counted_arcs, put_by_record, put_on, put_where_ready, is_committing_named, put_by_peer, put_by, IsPutTo}
use Rattle.tp_steps.proofs.every.EveryMove.{abort_active, abort_peer, end_said, user_ok}
use Rattle.tp_steps.proofs.every.EveryEvent.{plain_request, plain_arrival, plain_heur, plain_give_up}
use Rattle.tp_steps.proofs.every.EveryRecord.{find_arc_is, end_heard, on_live}
use Rattle.tp_steps.proofs.branches.Rolls.{phase_at}
use Rattle.tp_steps.proofs.lemmas.Alike.{alike_self, alike_then, cleared_alike, grant_said_alike, grant_heard_alike, counted_alike, cut_from, end_said_from, end_heard_from}

-- ---- what is known of the node

-- while it is active, a live arc to where its key came from leads to the node's superior, and one to the superior is no branch
pub record IsKnown (d : Digest) (c : Current) : Type 0 where
  pub late : is_nil c.phase ≡ false
  pub apart : (p : ℕ) → is_under_at c.key p ≡ true → has_branch_at c.branches p ≡ false
  pub key : is_active c.phase ≡ true → (p : ℕ) → is_live_with_peer d.arcs p ≡ true → is_under_at c.key p ≡ true → is_superior d p ≡ true
  pub rows : is_active c.phase ≡ true → (p : ℕ) → is_live_with_peer d.arcs p ≡ true → is_superior d p ≡ true → has_branch_at c.branches p ≡ false

known_late : (d : Digest) (c : Current) → d.current ≡ Some c → IsKnown d c → IsLate d
known_late d c i k x j = let some : Some c ≡ Some x = sym i ∙ j in let same : c ≡ x = cc (some) in subst (λ (y : Current). is_nil y.phase ≡ false) same k.late

-- a subordinate is not where the key came from
not_key : (d : Digest) (c : Current) (p : ℕ) → IsKnown d c → is_active c.phase ≡ true → is_live_with_peer d.arcs p ≡ true → is_superior d p ≡ false → is_under_at c.key p ≡ false
not_key d c p k active live below = go (is_under_at c.key p) refl
  where
    go : (b : Bool) → is_under_at c.key p ≡ b → b ≡ false
    go false i = refl
    go true i = absurd (cc (k.key active p live i, below))

-- nor is a branch
branch_not_key : (d : Digest) (c : Current) (p : ℕ) → IsKnown d c → has_branch_at c.branches p ≡ true → is_under_at c.key p ≡ false
branch_not_key d c p k row = go (is_under_at c.key p) refl
  where
    go : (b : Bool) → is_under_at c.key p ≡ b → b ≡ false
    go false i = refl
    go true i = absurd (cc (k.apart p i, row))

given : (who : Who) (d : Digest) (e : Event) (c : Current) (f : TxEvent) (arcs : List Arc) (x : Put) → put f arcs ≡ Some x → IsPutTo who d e c (record { event = f; arcs = arcs }) → IsPutTo who d e c x
given who d e c f arcs x h k = let same : ◌≡◌ {A = Put} (record { event = f; arcs = arcs }) x = cc (h) in subst (IsPutTo who d e c) same k

-- ---- requests

abort_acts : (who : Who) (d : Digest) (p : ℕ) → (situation_at who d p).branch ≡ true → abort who p d ≡ transact who (TxEvent.User (Request.UAbort p)) d
unfolding abort
abort_acts who d p i = ap (λ (b : Bool). if b then transact who (TxEvent.User (Request.UAbort p)) d else perform (TxOut.Carry p DialogueRecord.UAbort ∷ TxOut.Close p ∷ []) d) i

end_below : (who : Who) (d : Digest) (p : ℕ) → refused_request who d (Request.DeferEnd p) ≡ None → is_superior d p ≡ false
unfolding refused_request refused_on_arc
end_below who d p ok = go (find_arc d.arcs p) refl
  where
    go : (o : Option Arc) → find_arc d.arcs p ≡ o → is_superior d p ≡ false
    go None i = absurd (grind (arith, ok, i))
    go (Some a) i = grind (arith, ok, i)

grant_free : (who : Who) (d : Digest) (p : ℕ) → refused_request who d (Request.DeferGrant p) ≡ None → is_end_deferred_at d.arcs p ≡ false
unfolding refused_request refused_on_arc
grant_free who d p ok = go (find_arc d.arcs p) refl
  where
    on : (a : Arc) → find_arc d.arcs p ≡ Some a → (v : Deferral) → a.dialogue.deferral ≡ v → is_end_deferred_at d.arcs p ≡ false
    on a i Deferral.None j = grind (arith, i, j)
    on a i Deferral.Grant j = grind (arith, i, j)
    on a i Deferral.End j = absurd (grind (arith, ok, i, j))

    go : (o : Option Arc) → find_arc d.arcs p ≡ o → is_end_deferred_at d.arcs p ≡ false
    go None i = rw (i, is_end_deferred_at) refl
    go (Some a) i = on a i a.dialogue.deferral refl

request_put : (who : Who) (d : Digest) (r : Request) (c : Current) (x : Put) → refused_request who d r ≡ None → d.current ≡ Some c → IsKnown d c → put_by_request who d r ≡ Some x → IsPutTo who d (Event.Do r) c x
unfolding refused_tx
request_put who d (Request.UAbort p) c x ok i k h = go (situation_at who d p).branch refl h
  where
    go : (b : Bool) → (situation_at who d p).branch ≡ b → (if b then put (TxEvent.User (Request.UAbort p)) d.arcs else None) ≡ Some x → IsPutTo who d (Event.Do (Request.UAbort p)) c x
    go false j h = absurd (cc (h))
    go true j h =
        given who d (Event.Do (Request.UAbort p)) c (TxEvent.User (Request.UAbort p)) d.arcs x h
        (record { acts = abort_acts who d p j; reaches = (abort_active who d p c ok j i k.late, alike_self d.arcs); taken = refl })
request_put who d (Request.DeferEnd p) c x ok i k h =
    let may : may_put_off d p ≡ true = end_said who d p (known_late d c i k) ok in
    let live : is_live_with_peer d.arcs p ≡ true = grind (arith, may) in
    let now : is_active (phase_of d) ≡ true = grind (arith, may) in
    let active : is_active c.phase ≡ true = ap is_active (sym (phase_at d c i)) ∙ now in
    given who d (Event.Do (Request.DeferEnd p)) c (TxEvent.User (Request.DeferEnd p)) (with_dialogue d.arcs p (said Ask_defer_end)) x h (record {
      acts = refl;
      reaches = (active, not_key d c p k active live (end_below who d p ok), end_said_from d.arcs d.arcs p (alike_self d.arcs) live);
      taken = refl;
    })
request_put who d (Request.DeferGrant p) c x ok i k h =
    given who d (Event.Do (Request.DeferGrant p)) c (TxEvent.User (Request.DeferGrant p)) (with_dialogue d.arcs p (said Ask_defer_grant)) x h
    (record { acts = refl; reaches = grant_said_alike d.arcs p (grant_free who d p ok); taken = refl })
request_put who d (Request.Prepare p) c x ok i k h =
    given who d (Event.Do (Request.Prepare p)) c (TxEvent.User (Request.Prepare p)) d.arcs x h (record { acts = refl; reaches = alike_self d.arcs; taken = refl })
request_put who d Request.Commit c x ok i k h =
    given who d (Event.Do Request.Commit) c (TxEvent.User Request.Commit) d.arcs x h (record { acts = refl; reaches = alike_self d.arcs; taken = user_ok who d Request.Commit ok (inl refl) c i })
request_put who d Request.Done c x ok i k h =
    given who d (Event.Do Request.Done) c (TxEvent.User Request.Done) d.arcs x h (record { acts = refl; reaches = alike_self d.arcs; taken = user_ok who d Request.Done ok (inr (inl refl)) c i })
request_put who d Request.Rollback c x ok i k h =
    given who d (Event.Do Request.Rollback) c (TxEvent.User Request.Rollback) d.arcs x h (record { acts = refl; reaches = alike_self d.arcs; taken = user_ok who d Request.Rollback ok (inr (inr (inl refl))) c i })
request_put who d Request.Unchanged c x ok i k h =
    given who d (Event.Do Request.Unchanged) c (TxEvent.User Request.Unchanged) d.arcs x h (record { acts = refl; reaches = alike_self d.arcs; taken = user_ok who d Request.Unchanged ok (inr (inr (inr refl))) c i })
request_put who d _ c x ok i k h = absurd (cc (h))

-- ---- records on an association

-- what an event that acts does
abbrev on_arc : Who → Digest → Arc → DialogueRecord → Move
on_arc who d a r = take_record who a r (woken_by r a.peer.node (record d { arcs = with_link d.arcs a.peer.node with_one_taken }))

on_acts : (who : Who) (d : Digest) (from : Addr) (x y : Mark) (q : ℕ) (r : DialogueRecord) (a : Arc) → find_arc d.arcs from.node ≡ Some a → sight_at who d a r ≡ Acts
    → do_arrival who from (PeerRecord.OnAssoc x y q r) d ≡ on_arc who d a r
on_acts who d from x y q r a i j =
    let g : Digest = woken_by r a.peer.node (record d { arcs = with_link d.arcs a.peer.node with_one_taken }) in
    ap (λ (o : Option Arc). elim o as (λ _. Move) [ None ↦ move [] d | Some b ↦ take_on who b r d ]) i
    ∙ ap (λ (v : Sight). elim v as (λ _. Move) [ Acts ↦ take_record who a r g | Nothing_happens ↦ move [] g | Out_of_phase ↦ move [] g ]) j

take_abort_acts : (who : Who) (p : ℕ) (d : Digest) (c : Current) → d.current ≡ Some c → take_abort who p d ≡ transact who (TxEvent.Took p DialogueRecord.UAbort) (record d { arcs = without_arc d.arcs p })
unfolding take_abort
take_abort_acts who p d c i =
    let g : Digest = record d { arcs = without_arc d.arcs p } in
    ap (λ (o : Option Current). elim o as (λ _. Move) [ None ↦ perform (TxOut.Tell (Indication.UAbort p) ∷ []) g | Some b ↦ transact who (TxEvent.Took p DialogueRecord.UAbort) g ]) i

lose_acts : (who : Who) (p : ℕ) (d : Digest) (c : Current) → d.current ≡ Some c → lose who p d ≡ transact who (TxEvent.Lost p) (record d { arcs = without_arc d.arcs p })
unfolding lose
lose_acts who p d c i =
    let g : Digest = record d { arcs = without_arc d.arcs p } in
    ap (λ (o : Option Current). elim o as (λ _. Move) [ None ↦ perform (TxOut.Tell (Indication.PAbort p) ∷ []) g | Some b ↦ transact who (TxEvent.Lost p) g ]) i

-- a LeftEnd that acts comes from a branch
held_branch : (arcs : List Arc) (bs : List Branch) (p : ℕ) (f : Branch → Bool) → row_holds (seen_rows arcs bs) p f ≡ true → has_branch_at bs p ≡ true
held_branch arcs [] p f h = absurd (cc (h))
held_branch arcs (b ∷ bs) p f h = grind (arith, h, held_branch arcs bs p f)

left_branch : (who : Who) (d : Digest) (a : Arc) (c : Current) → sight_at who d a DialogueRecord.LeftEnd ≡ Acts → d.current ≡ Some c → has_branch_at c.branches a.peer.node ≡ true
unfolding sight_of sight_of_tx
left_branch who d a c acts i = held_branch d.arcs c.branches a.peer.node f (grind (arith, acts, i))
  where
    f : Branch → Bool
    f b = is_active c.phase && b.prepared && not b.counted && not b.left || is_rolling c.phase && not b.ended && not b.left

end_above : (who : Who) (d : Digest) (a : Arc) → sight_at who d a DialogueRecord.DeferEnd ≡ Acts → (is_superior d a.peer.node ≡ true) × ((situation_at who d a.peer.node).branch ≡ true)
unfolding sight_of arrived
end_above who d a acts = (grind (arith, acts), grind (arith, acts))

-- a branch at its superior is where the key came from
from_key : (who : Who) (d : Digest) (c : Current) (p : ℕ) → d.current ≡ Some c → (situation_at who d p).branch ≡ true → has_branch_at c.branches p ≡ false → is_under_at c.key p ≡ true
from_key who d c p i b off = let peer : (is_under_at c.key p || has_branch_at c.branches p) ≡ true = abort_peer who d p c b i in grind (arith, peer, off)

grant_heard_free : (who : Who) (d : Digest) (a : Arc) → sight_at who d a DialogueRecord.DeferGrant ≡ Acts → find_arc d.arcs a.peer.node ≡ Some a → is_end_deferred_at d.arcs a.peer.node ≡ false
unfolding sight_of arrived
grant_heard_free who d a acts i = go a.dialogue.deferral refl
  where
    go : (v : Deferral) → a.dialogue.deferral ≡ v → is_end_deferred_at d.arcs a.peer.node ≡ false
    go Deferral.None j = rw (i, is_end_deferred_at) (ap is_end_deferred j)
    go Deferral.Grant j = rw (i, is_end_deferred_at) (ap is_end_deferred j)
    go Deferral.End j = absurd (grind (arith, acts, j))

record_put : (who : Who) (d : Digest) (from : Addr) (y z : Mark) (q : ℕ) (r : DialogueRecord) (a : Arc) (c : Current) (x : Put) → d.current ≡ Some c → IsKnown d c → find_arc d.arcs a.peer.node ≡ Some a → is_live_with_peer d.arcs a.peer.node ≡ true
    → sight_at who d a r ≡ Acts → do_arrival who from (PeerRecord.OnAssoc y z q r) d ≡ on_arc who d a r → put_by_record a.peer.node (counted_arcs d.arcs a.peer.node) r ≡ Some x → IsPutTo who d (Event.Arrive from (PeerRecord.OnAssoc y z q r)) c x
record_put who d from y z q DialogueRecord.EndDialogue a c x i k at live acts on h = absurd (cc (h))
record_put who d from y z q (DialogueRecord.UserData xs) a c x i k at live acts on h = absurd (cc (h))
record_put who d from y z q DialogueRecord.UError a c x i k at live acts on h = absurd (cc (h))
record_put who d from y z q DialogueRecord.UAbort a c x i k at live acts on h =
    let p : ℕ = a.peer.node in
    let arcs : List Arc = counted_arcs d.arcs p in
    given who d (Event.Arrive from (PeerRecord.OnAssoc y z q DialogueRecord.UAbort)) c (TxEvent.Took p DialogueRecord.UAbort) (without_arc arcs p) x h
    (record { acts = on ∙ take_abort_acts who p (record d { arcs = arcs }) c i; reaches = cut_from d.arcs arcs p (counted_alike d.arcs p); taken = tt })
record_put who d from y z q DialogueRecord.Grant a c x i k at live acts on h = absurd (cc (h))
record_put who d from y z q DialogueRecord.AskControl a c x i k at live acts on h = absurd (cc (h))
record_put who d from y z q DialogueRecord.Handshake a c x i k at live acts on h = absurd (cc (h))
record_put who d from y z q DialogueRecord.HandshakeGrant a c x i k at live acts on h = absurd (cc (h))
record_put who d from y z q DialogueRecord.Response a c x i k at live acts on h = absurd (cc (h))
record_put who d from y z q DialogueRecord.DeferEnd a c x i k at live acts on h =
    let p : ℕ = a.peer.node in
    let arcs : List Arc = counted_arcs d.arcs p in
    let above = end_above who d a acts in
    let active : is_active c.phase ≡ true = ap is_active (sym (phase_at d c i)) ∙ end_heard who d a acts in
    given who d (Event.Arrive from (PeerRecord.OnAssoc y z q DialogueRecord.DeferEnd)) c (TxEvent.Took p DialogueRecord.DeferEnd) (with_dialogue arcs p (heard Hear_defer_end)) x h (record {
      acts = on;
      reaches = (active, from_key who d c p i above.1 (k.rows active p live above.0), end_heard_from d.arcs arcs p (counted_alike d.arcs p) live);
      taken = tt;
    })
record_put who d from y z q DialogueRecord.DeferGrant a c x i k at live acts on h =
    let p : ℕ = a.peer.node in
    let arcs : List Arc = counted_arcs d.arcs p in
    let free : is_end_deferred_at arcs p ≡ false = (counted_alike d.arcs p p).ends ∙ grant_heard_free who d a acts at in
    given who d (Event.Arrive from (PeerRecord.OnAssoc y z q DialogueRecord.DeferGrant)) c (TxEvent.Took p DialogueRecord.DeferGrant) (with_dialogue arcs p (heard Hear_defer_grant)) x h
    (record { acts = on; reaches = alike_then d.arcs arcs (with_dialogue arcs p (heard Hear_defer_grant)) (counted_alike d.arcs p) (grant_heard_alike arcs p free); taken = tt })
record_put who d from y z q (DialogueRecord.Begin t b v) a c x i k at live acts on h = absurd (cc (h))
record_put who d from y z q DialogueRecord.Prepare a c x i k at live acts on h =
    given who d (Event.Arrive from (PeerRecord.OnAssoc y z q DialogueRecord.Prepare)) c (TxEvent.Took a.peer.node DialogueRecord.Prepare) (counted_arcs d.arcs a.peer.node) x h
    (record { acts = on; reaches = counted_alike d.arcs a.peer.node; taken = tt })
record_put who d from y z q DialogueRecord.Ready a c x i k at live acts on h =
    given who d (Event.Arrive from (PeerRecord.OnAssoc y z q DialogueRecord.Ready)) c (TxEvent.Took a.peer.node DialogueRecord.Ready) (counted_arcs d.arcs a.peer.node) x h
    (record { acts = on; reaches = counted_alike d.arcs a.peer.node; taken = tt })
record_put who d from y z q DialogueRecord.Commit a c x i k at live acts on h =
    given who d (Event.Arrive from (PeerRecord.OnAssoc y z q DialogueRecord.Commit)) c (TxEvent.Took a.peer.node DialogueRecord.Commit) (counted_arcs d.arcs a.peer.node) x h
    (record { acts = on; reaches = counted_alike d.arcs a.peer.node; taken = tt })
record_put who d from y z q (DialogueRecord.Done v) a c x i k at live acts on h =
    given who d (Event.Arrive from (PeerRecord.OnAssoc y z q (DialogueRecord.Done v))) c (TxEvent.Took a.peer.node (DialogueRecord.Done v)) (counted_arcs d.arcs a.peer.node) x h
    (record { acts = on; reaches = counted_alike d.arcs a.peer.node; taken = tt })
record_put who d from y z q DialogueRecord.Rollback a c x i k at live acts on h =
    given who d (Event.Arrive from (PeerRecord.OnAssoc y z q DialogueRecord.Rollback)) c (TxEvent.Took a.peer.node DialogueRecord.Rollback) (counted_arcs d.arcs a.peer.node) x h
    (record { acts = on; reaches = counted_alike d.arcs a.peer.node; taken = tt })
record_put who d from y z q (DialogueRecord.RolledBack v) a c x i k at live acts on h =
    given who d (Event.Arrive from (PeerRecord.OnAssoc y z q (DialogueRecord.RolledBack v))) c (TxEvent.Took a.peer.node (DialogueRecord.RolledBack v)) (counted_arcs d.arcs a.peer.node) x h
    (record { acts = on; reaches = counted_alike d.arcs a.peer.node; taken = tt })
record_put who d from y z q DialogueRecord.Left a c x i k at live acts on h =
    let p : ℕ = a.peer.node in
    let arcs : List Arc = counted_arcs d.arcs p in
    given who d (Event.Arrive from (PeerRecord.OnAssoc y z q DialogueRecord.Left)) c (TxEvent.Took p DialogueRecord.Left) (with_dialogue arcs p cleared) x h
    (record { acts = on; reaches = alike_then d.arcs arcs (with_dialogue arcs p cleared) (counted_alike d.arcs p) (cleared_alike arcs p); taken = tt })
record_put who d from y z q DialogueRecord.LeftEnd a c x i k at live acts on h =
    let p : ℕ = a.peer.node in
    let arcs : List Arc = counted_arcs d.arcs p in
    given who d (Event.Arrive from (PeerRecord.OnAssoc y z q DialogueRecord.LeftEnd)) c (TxEvent.Took p DialogueRecord.LeftEnd) (with_dialogue arcs p cleared) x h (record {
      acts = on;
      reaches = (branch_not_key d c p k (left_branch who d a c acts i), alike_then d.arcs arcs (with_dialogue arcs p cleared) (counted_alike d.arcs p) (cleared_alike arcs p));
      taken = tt;
    })

association_put : (who : Who) (d : Digest) (from : Addr) (y z : Mark) (q : ℕ) (r : DialogueRecord) (c : Current) (x : Put) → refusal who d (Event.Arrive from (PeerRecord.OnAssoc y z q r)) ≡ None → d.current ≡ Some c → IsKnown d c
    → put_by_peer who d from (PeerRecord.OnAssoc y z q r) ≡ Some x → IsPutTo who d (Event.Arrive from (PeerRecord.OnAssoc y z q r)) c x
association_put who d from y z q r c x ok i k h = go (find_arc d.arcs from.node) refl h
  where
    live : is_live_with_peer d.arcs from.node ≡ true
    live = on_live who d from y z q r (plain_arrival who d from (PeerRecord.OnAssoc y z q r) ok)

    on : (a : Arc) → find_arc d.arcs from.node ≡ Some a → (v : Sight) → sight_at who d a r ≡ v
        → elim v as (λ _. Option Put) [ Acts ↦ put_by_record a.peer.node (counted_arcs d.arcs a.peer.node) r | Nothing_happens ↦ None | Out_of_phase ↦ None ] ≡ Some x
        → IsPutTo who d (Event.Arrive from (PeerRecord.OnAssoc y z q r)) c x
    on a j Acts acts h =
        let at : a.peer.node ≡ from.node = find_arc_is d.arcs from.node a j in
        record_put who d from y z q r a c x i k (ap (find_arc d.arcs) at ∙ j) (ap (is_live_with_peer d.arcs) at ∙ live) acts (on_acts who d from y z q r a j acts) h
    on a j Nothing_happens acts h = absurd (cc (h))
    on a j Out_of_phase acts h = absurd (cc (h))

    go : (o : Option Arc) → find_arc d.arcs from.node ≡ o → elim o as (λ _. Option Put) [ None ↦ None | Some a ↦ put_on who d a r ] ≡ Some x → IsPutTo who d (Event.Arrive from (PeerRecord.OnAssoc y z q r)) c x
    go None j h = absurd (cc (h))
    go (Some a) j h = on a j (sight_at who d a r) refl h

-- ---- recovery

order_put : (who : Who) (d : Digest) (from : Addr) (t : Aaid) (b : BranchId) (c : Current) (x : Put) → put_where_ready d t b TxEvent.Ordered ≡ Some x → IsPutTo who d (Event.Arrive from (PeerRecord.RecCommit t b)) c x
unfolding refused_tx
order_put who d from t b c x h = go (is_current_ready n) refl h
  where
    n : Named
    n = named_by_key d (branch_key t b)

    go : (v : Bool) → is_current_ready n ≡ v → (if v then put TxEvent.Ordered d.arcs else None) ≡ Some x → IsPutTo who d (Event.Arrive from (PeerRecord.RecCommit t b)) c x
    go false j h = absurd (cc (h))
    go true j h =
        given who d (Event.Arrive from (PeerRecord.RecCommit t b)) c TxEvent.Ordered d.arcs x h (record {
          acts = ap (λ (v : Bool). if v then transact who TxEvent.Ordered d else reply_to from t b (recovery_answer (known_of n b) Question.RecCommit) d) j;
          reaches = alike_self d.arcs;
          taken = refl;
        })

-- of a reply that is taken where the transaction is ready
reply_put : (who : Who) (d : Digest) (from : Addr) (t : Aaid) (b : BranchId) (s : RecState) (c : Current) (x : Put) → action who d (Event.Arrive from (PeerRecord.RecReply t b s)) ≡ take_ready_reply who t b s d
    → put_where_ready d t b (TxEvent.Reply b s) ≡ Some x → IsPutTo who d (Event.Arrive from (PeerRecord.RecReply t b s)) c x
unfolding refused_tx
reply_put who d from t b s c x is h = go (is_current_ready (named_by_key d (branch_key t b))) refl h
  where
    go : (v : Bool) → is_current_ready (named_by_key d (branch_key t b)) ≡ v → (if v then put (TxEvent.Reply b s) d.arcs else None) ≡ Some x → IsPutTo who d (Event.Arrive from (PeerRecord.RecReply t b s)) c x
    go false j h = absurd (cc (h))
    go true j h =
        given who d (Event.Arrive from (PeerRecord.RecReply t b s)) c (TxEvent.Reply b s) d.arcs x h
        (record { acts = is ∙ ap (λ (v : Bool). if v then transact who (TxEvent.Reply b s) d else move [] d) j; reaches = alike_self d.arcs; taken = refl })

done_put : (who : Who) (d : Digest) (from : Addr) (t : Aaid) (b : BranchId) (r : Report) (c : Current) (x : Put)
    → (if is_committing_named (named_by_branch d t b).current then put (TxEvent.Reply b (RecState.Done r)) d.arcs else None) ≡ Some x → IsPutTo who d (Event.Arrive from (PeerRecord.RecReply t b (RecState.Done r))) c x
unfolding refused_tx
done_put who d from t b r c x h = go (is_committing_named n.current) refl h
  where
    n : Named
    n = named_by_branch d t b

    go : (v : Bool) → is_committing_named n.current ≡ v → (if v then put (TxEvent.Reply b (RecState.Done r)) d.arcs else None) ≡ Some x → IsPutTo who d (Event.Arrive from (PeerRecord.RecReply t b (RecState.Done r))) c x
    go false j h = absurd (cc (h))
    go true j h =
        given who d (Event.Arrive from (PeerRecord.RecReply t b (RecState.Done r))) c (TxEvent.Reply b (RecState.Done r)) d.arcs x h (record {
          acts =
              ap (λ (v : Bool). if v then transact who (TxEvent.Reply b (RecState.Done r)) d
              else elim n.kept as (λ _. Move) [ Some k ↦ keep (settled k (KeptEvent.Done from b r)) d | None ↦ elim n.current as (λ _. Move) [ Some u ↦ move [] d | None ↦ perform (forget_to from (branch_key t b) b r) d ] ]) j;
          reaches = alike_self d.arcs;
          taken = refl;
        })

peer_put : (who : Who) (d : Digest) (from : Addr) (r : PeerRecord) (c : Current) (x : Put) → refusal who d (Event.Arrive from r) ≡ None → d.current ≡ Some c → IsKnown d c → put_by_peer who d from r ≡ Some x → IsPutTo who d (Event.Arrive from r) c x
unfolding refused_tx
peer_put who d from (PeerRecord.ShutAssoc y (Some z)) c x ok i k h =
    given who d (Event.Arrive from (PeerRecord.ShutAssoc y (Some z))) c (TxEvent.Lost from.node) (without_arc d.arcs from.node) x h
    (record { acts = lose_acts who from.node d c i; reaches = cut_from d.arcs d.arcs from.node (alike_self d.arcs); taken = refl })
peer_put who d from (PeerRecord.OnAssoc y z q r) c x ok i k h = association_put who d from y z q r c x ok i k h
peer_put who d from (PeerRecord.RecCommit t b) c x ok i k h = order_put who d from t b c x h
peer_put who d from (PeerRecord.RecReply t b RecState.Commit) c x ok i k h = reply_put who d from t b RecState.Commit c x refl h
peer_put who d from (PeerRecord.RecReply t b (RecState.Done r)) c x ok i k h = done_put who d from t b r c x h
peer_put who d from (PeerRecord.RecReply t b RecState.Unknown) c x ok i k h = reply_put who d from t b RecState.Unknown c x refl h
peer_put who d from (PeerRecord.RecReply t b RecState.RetryLater) c x ok i k h = reply_put who d from t b RecState.RetryLater c x refl h
peer_put who d from _ c x ok i k h = absurd (cc (h))

-- ---- local events

break_put : (who : Who) (d : Digest) (from : Addr) (r : PeerRecord) (c : Current) (x : Put) → d.current ≡ Some c → put_by who d (Event.Break from r) ≡ Some x → IsPutTo who d (Event.Break from r) c x
unfolding break_off refused_tx
break_put who d from r c x i h = go (broken_pair r) refl h
  where
    g : Digest
    g = record d { arcs = without_arc d.arcs from.node }

    shut : Mark × Mark → Move
    shut xy = perform (TxOut.Recovery from (PeerRecord.ShutAssoc xy.0 (Some xy.1)) ∷ []) d

    go : (o : Option (Mark × Mark)) → broken_pair r ≡ o → elim o as (λ _. Option Put) [ None ↦ None | Some xy ↦ put (TxEvent.Lost from.node) (without_arc d.arcs from.node) ] ≡ Some x → IsPutTo who d (Event.Break from r) c x
    go None j h = absurd (cc (h))
    go (Some xy) j h =
        given who d (Event.Break from r) c (TxEvent.Lost from.node) (without_arc d.arcs from.node) x h (record {
          acts =
              ap (λ (o : Option (Mark × Mark)). elim o as (λ _. Move) [ None ↦ move [] d | Some v ↦ followed (shut v) (lose who from.node) ]) j
              ∙ ap (λ (m : Move). followed (shut xy) (λ v. m)) (lose_acts who from.node d c i)
              ∙ sym (ap (λ (o : Option (Mark × Mark)). elim o as (λ _. Move) [ None ↦ transact who (TxEvent.Lost from.node) g | Some v ↦ followed (shut v) (λ w. transact who (TxEvent.Lost from.node) g) ]) j);
          reaches = cut_from d.arcs d.arcs from.node (alike_self d.arcs);
          taken = refl;
        })

-- ---- every event

pub event_put : (who : Who) (d : Digest) (e : Event) (c : Current) (x : Put) → refusal who d e ≡ None → d.current ≡ Some c → IsKnown d c → put_by who d e ≡ Some x → IsPutTo who d e c x
unfolding retry refused_tx
event_put who d (Event.Do r) c x ok i k h = request_put who d r c x (plain_request who d r ok) i k h
event_put who d (Event.Arrive from r) c x ok i k h = peer_put who d from r c x ok i k h
event_put who d (Event.Break from r) c x ok i k h = break_put who d from r c x i h
event_put who d (Event.Lose p) c x ok i k h =
    given who d (Event.Lose p) c (TxEvent.Lost p) (without_arc d.arcs p) x h (record { acts = lose_acts who p d c i; reaches = cut_from d.arcs d.arcs p (alike_self d.arcs); taken = refl })
event_put who d (Event.Heur o) c x ok i k h =
    given who d (Event.Heur o) c (TxEvent.Heur o) d.arcs x h (record { acts = refl; reaches = alike_self d.arcs; taken = plain_heur who d o c ok i })
event_put who d (Event.GiveUp p) c x ok i k h =
    given who d (Event.GiveUp p) c (TxEvent.GiveUp p) d.arcs x h (record { acts = refl; reaches = alike_self d.arcs; taken = plain_give_up who d p c ok i })
event_put who d Event.Retry c x ok i k h = given who d Event.Retry c TxEvent.Retry d.arcs x h (record { acts = refl; reaches = alike_self d.arcs; taken = refl })
event_put who d _ c x ok i k h = absurd (cc (h))
