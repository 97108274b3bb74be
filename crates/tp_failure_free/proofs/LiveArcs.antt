-- In every legal history the arcs that the current transaction needs are live, where nothing failed while its tree was current: a
-- tree begins on live arcs, whatever happened before it.
use Rattle.std.proofs.Common.{if◌then◌else◌, ◌≡◌, inr, ℕ, Bool, true, false, refl, ap, sym, subst, ◌∙◌, arith, Option, Some, None, List, [], ◌∷◌}
use Rattle.tp_names.specs.declared.identifiers.Mark.{Mark}
use Rattle.tp_names.specs.declared.identifiers.Addr.{Addr}
use Rattle.tp_names.specs.declared.identifiers.Aaid.{Aaid}
use Rattle.tp_names.specs.Same.{is_aaid}
use Rattle.tp_records.specs.declared.request.Request.{Request}
use Rattle.tp_records.specs.declared.dialogue.DialogueRecord.{DialogueRecord}
use Rattle.tp_records.specs.declared.peer.PeerRecord.{PeerRecord}
use Rattle.tp_model.specs.declared.transaction.TxEvent.{TxEvent}
use Rattle.tp_model.specs.declared.transaction.TxOut.{TxOut}
use Rattle.tp_model.specs.Parts.{Who, Origin, Event, Entry, Arc, Key, Current, Digest}
use Rattle.tp_model.specs.Links.{with_one_taken}
use Rattle.tp_model.specs.Dialogues.{Sight, Acts, Nothing_happens, Out_of_phase}
use Rattle.tp_model.specs.Arcs.{find_arc, with_link}
use Rattle.tp_model.specs.Transactions.{Transaction, aaid_of, transacted}
use Rattle.tp_model.specs.Requests.{abort}
use Rattle.tp_model.specs.Node.{Move, move, followed, perform, seen, situation_at, remaining, is_leaving, is_over, begin_on, try_start, passed, turned, transact, started_next}
use Rattle.tp_model.specs.Arrivals.{broken_pair, break_off, lose, take_abort, take_record, take_on, woken_by, sight_at}
use Rattle.tp_model.specs.Events.{recovered_current, after_crash, action}
use Rattle.tp_model.specs.History.{digest}
use Rattle.tp_model.specs.Outcomes.{is_now, is_failure}
use Rattle.tp_steps.specs.Moves.{IsPut}
use Rattle.tp_steps.specs.Passages.{IsPassed}
use Rattle.tp_steps.specs.Puts.{Put, put, put_by, with_others, IsPutTo}
use Rattle.tp_histories.specs.Puts.{IsLeftAlone, Stays, Begins, Stops}
use Rattle.tp_failure_free.specs.Drained.{IsUnfailed, BranchLive, SuperiorLive}
use Rattle.tp_steps.proofs.words.Treed.{now_some}
use Rattle.tp_steps.proofs.log.Sound.{left_is}
use Rattle.tp_steps.proofs.log.Passed.{passed_turn}
use Rattle.tp_histories.proofs.order.InOrderLaw.{empty_apart}
use Rattle.tp_histories.proofs.trees.Knowing.{current_none, recovered_now}
use Rattle.tp_histories.proofs.order.PutLaw.{put_law, alone_law}
use Rattle.tp_failure_free.proofs.LiveTurned.{IsAlive, alive_start}
use Rattle.tp_failure_free.proofs.LiveEvents.{no_transact, retry_aside, aside_event}
use Rattle.tp_failure_free.proofs.LiveLaw.{calm_put, calm_is_put, failure_is_put, mild_put, mild_aside, alive_put, legal_of, unfailed_before, mild_entry, among_of, apart_of}
use Rattle.tp_failure_free.proofs.AfterEvent.{over_none, remains_none, retry_current, begin_after}

-- ---- a tree that begins

begun_other : (t : Aaid) (who : Who) (p : ℕ) (g : Digest) (c : Current) → g.current ≡ Some c → is_aaid t (aaid_of c.key) ≡ false → is_now t (begin_on who p g).next.current ≡ true → ⊥
begun_other t who p g c at other n =
    let u = now_some t (begin_on who p g).next.current n in
    cc ((u.2), ap (λ (k : Key). is_aaid t (aaid_of k)) (begin_after who p g c u.0 at u.1).0, other)

stopped_other : (t : Aaid) (c : Current) → is_aaid t (aaid_of c.key) ≡ false → is_now t (recovered_current (Some c)) ≡ true → ⊥
stopped_other t c other n = cc (recovered_now t (Some c) n, other)

alive_none : (d : Digest) → d.current ≡ None → IsAlive d
alive_none d none c p is need = absurd (cc (none, is))

-- what follows the turn of another tree
next_alive : (t : Aaid) (who : Who) (f : TxEvent) (g : Digest) (c : Current) → g.current ≡ Some c → is_aaid t (aaid_of c.key) ≡ false → IsPut f (seen who g.arcs c) → is_now t (transact who f g).next.current ≡ true → IsAlive (transact who f g).next
unfolding transact
next_alive t who f g c i other put = subst (λ (o : Option Current). is_now t (after o).next.current ≡ true → IsAlive (after o).next) (sym i) (go (is_over (passed who f g c)) refl)
  where
    a : Transaction
    a = (transacted f (seen who g.arcs c)).next

    after : Option Current → Move
    after o = elim o as (λ _. Move) [ None ↦ move [] g | Some x ↦ started_next who (passed who f g x) (turned who f g x) ]

    same : (v : Option Current) → remaining a ≡ v → is_now t v ≡ true → ⊥
    same None j n = cc (n)
    same (Some u) j n = cc (n, ap (λ (k : Key). is_aaid t (aaid_of k)) ((left_is a u j).0 ∙ IsPassed.key (passed_turn f (seen who g.arcs c) put)), other)

    go : (b : Bool) → is_over (passed who f g c) ≡ b → is_now t (if b then followed (turned who f g c) (try_start who) else turned who f g c).next.current ≡ true → IsAlive (if b then followed (turned who f g c) (try_start who) else turned who f g c).next
    go false j n = absurd (same (remaining a) refl n)
    go true j n = alive_start who (turned who f g c).next (alive_none (turned who f g c).next (remains_none a (over_none (is_leaving f) c.phase a.phase j)))

-- and what else the event does
others_alive : (t : Aaid) (d : Digest) (e : Event) (m : Move) → (is_now t m.next.current ≡ true → IsAlive m.next) → is_now t (with_others d e m).next.current ≡ true → IsAlive (with_others d e m).next
others_alive t d Event.Retry m k n = (retry_aside m.next.kept m.next).alive (k (ap (is_now t) (sym (retry_current m.next.kept m.next)) ∙ n))
others_alive t d (Event.Break from r) m k n = go (broken_pair r) n
  where
    go : (o : Option (Mark × Mark)) → is_now t (elim o as (λ _. Move) [ None ↦ m | Some xy ↦ followed (perform (TxOut.Recovery from (PeerRecord.ShutAssoc xy.0 (Some xy.1)) ∷ []) d) (λ g. m) ]).next.current ≡ true
        → IsAlive (elim o as (λ _. Move) [ None ↦ m | Some xy ↦ followed (perform (TxOut.Recovery from (PeerRecord.ShutAssoc xy.0 (Some xy.1)) ∷ []) d) (λ g. m) ]).next
    go None n = k n
    go (Some xy) n = k n
others_alive t d e m k n = k n

-- where nothing is current, a failure begins nothing
lose_none : (who : Who) (p : ℕ) (d : Digest) → d.current ≡ None → (lose who p d).next.current ≡ None
unfolding lose
lose_none who p d none = rw none refl

failure_begins_none : (who : Who) (d : Digest) (e : Event) → d.current ≡ None → is_failure e ≡ true → (action who d e).next.current ≡ None
unfolding abort break_off after_crash take_abort
failure_begins_none who d (Event.Do (Request.UAbort p)) none fails = go (situation_at who d p).branch
  where
    go : (b : Bool) → (if b then transact who (TxEvent.User (Request.UAbort p)) d else perform (TxOut.Carry p DialogueRecord.UAbort ∷ TxOut.Close p ∷ []) d).next.current ≡ None
    go true = ap (λ (m : Move). m.next.current) (no_transact who (TxEvent.User (Request.UAbort p)) d none) ∙ none
    go false = none
failure_begins_none who d (Event.Do Request.Rollback) none fails = ap (λ (m : Move). m.next.current) (no_transact who (TxEvent.User Request.Rollback) d none) ∙ none
failure_begins_none who d (Event.Arrive from (PeerRecord.ShutAssoc y (Some z))) none fails = lose_none who from.node d none
failure_begins_none who d (Event.Arrive from (PeerRecord.OnAssoc y z q DialogueRecord.UAbort)) none fails = go (find_arc d.arcs from.node)
  where
    counted : Arc → Digest
    counted a = woken_by DialogueRecord.UAbort a.peer.node (record d { arcs = with_link d.arcs a.peer.node with_one_taken })

    on : (a : Arc) (v : Sight) → (elim v as (λ _. Move) [ Acts ↦ take_record who a DialogueRecord.UAbort (counted a) | Nothing_happens ↦ move [] (counted a) | Out_of_phase ↦ move [] (counted a) ]).next.current ≡ None
    on a Acts = rw none none
    on a Nothing_happens = none
    on a Out_of_phase = none

    go : (o : Option Arc) → (elim o as (λ _. Move) [ None ↦ move [] d | Some a ↦ take_on who a DialogueRecord.UAbort d ]).next.current ≡ None
    go None = none
    go (Some a) = on a (sight_at who d a DialogueRecord.UAbort)
failure_begins_none who d (Event.Break from r) none fails = go (broken_pair r)
  where
    go : (o : Option (Mark × Mark)) → (elim o as (λ _. Move) [ None ↦ move [] d | Some xy ↦ followed (perform (TxOut.Recovery from (PeerRecord.ShutAssoc xy.0 (Some xy.1)) ∷ []) d) (lose who from.node) ]).next.current ≡ None
    go None = none
    go (Some xy) = lose_none who from.node (perform (TxOut.Recovery from (PeerRecord.ShutAssoc xy.0 (Some xy.1)) ∷ []) d).next none
failure_begins_none who d (Event.Lose p) none fails = lose_none who p d none
failure_begins_none who d (Event.Heur o) none fails = ap (λ (m : Move). m.next.current) (no_transact who (TxEvent.Heur o) d none) ∙ none
failure_begins_none who d (Event.GiveUp p) none fails = ap (λ (m : Move). m.next.current) (no_transact who (TxEvent.GiveUp p) d none) ∙ none
failure_begins_none who d Event.Crash none fails = rw none refl
failure_begins_none who d e none fails = absurd (cc (fails))

begins_alive : (t : Aaid) (o : Origin) (up : Option Addr) (e : Entry) (h : List Entry) → IsUnfailed t o up (e ∷ h) → is_now t (digest o h).current ≡ false → is_now t (digest o (e ∷ h)).current ≡ true → IsAlive (digest o (e ∷ h))
begins_alive t o up e h k before now = go d.current refl
  where
    d : Digest
    d = digest o h

    none : d.current ≡ None → (b : Bool) → is_failure e.event ≡ b → IsAlive (action o.who d e.event).next
    none i false j = (aside_event o.who d e.event j k.grown.0 (apart_of o up h k.fresh k.grown.3) (inr i)).alive (alive_none d i)
    none i true j = alive_none (action o.who d e.event).next (failure_begins_none o.who d e.event i j)

    aside : (c : Current) → is_aaid t (aaid_of c.key) ≡ false → IsLeftAlone o.who d e.event c → ⊥
    aside c other (Stays same) = cc (now, ap (is_now t) same, other)
    aside c other (Begins p g may at same) = begun_other t o.who p g c at other (ap (λ (x : Digest). is_now t x.current) (sym same) ∙ now)
    aside c other (Stops crash same) = stopped_other t c other (ap (is_now t) (sym same) ∙ now)

    is_put : (c : Current) (x : Put) → d.current ≡ Some c → put_by o.who d e.event ≡ Some x → IsPutTo o.who d e.event c x → (b : Bool) → is_failure e.event ≡ b → IsPut x.event (seen o.who x.arcs c)
    is_put c x i j to false calm = calm_is_put o.who d e.event c x i (among_of o up h c k.fresh k.grown.3 i).current to (calm_put o.who d e.event x calm j)
    is_put c x i j to true fails = failure_is_put o.who d e.event c x i (among_of o up h c k.fresh k.grown.3 i).current k.grown.0 fails j

    on : (c : Current) → d.current ≡ Some c → is_aaid t (aaid_of c.key) ≡ false → (v : Option Put) → put_by o.who d e.event ≡ v → IsAlive (action o.who d e.event).next
    on c i other None j = absurd (aside c other (alone_law o up h e.event c k.grown.3 k.grown.0 i j))
    on c i other (Some x) j =
        let g : Digest = record d { arcs = x.arcs } in
        let to : IsPutTo o.who d e.event c x = put_law o up h e.event c x (legal_of o up h k.fresh k.grown.3) (empty_apart o k.fresh) k.grown.0 i j in
        subst (λ (m : Move). is_now t m.next.current ≡ true → IsAlive m.next) (sym to.acts)
        (others_alive t d e.event (transact o.who x.event g) (next_alive t o.who x.event g c i other (is_put c x i j to (is_failure e.event) refl))) now

    go : (v : Option Current) → d.current ≡ v → IsAlive (action o.who d e.event).next
    go None i = none i (is_failure e.event) refl
    go (Some c) i = on c i (sym (ap (is_now t) i) ∙ before) (put_by o.who d e.event) refl

-- ---- every history

alive_step : (t : Aaid) (o : Origin) (up : Option Addr) (e : Entry) (h : List Entry) → IsUnfailed t o up (e ∷ h) → is_now t (digest o h).current ≡ true → IsAlive (digest o h) → IsAlive (digest o (e ∷ h))
alive_step t o up e h k now old = go d.current refl
  where
    d : Digest
    d = digest o h

    on : (c : Current) → d.current ≡ Some c → is_aaid t (aaid_of c.key) ≡ true → (v : Option Put) → put_by o.who d e.event ≡ v → IsAlive (action o.who d e.event).next
    on c i tree None j = (mild_aside o.who d e.event c i (mild_entry t o up e h c k i tree) k.grown.0 (apart_of o up h k.fresh k.grown.3) j).alive old
    on c i tree (Some x) j =
        let to : IsPutTo o.who d e.event c x = put_law o up h e.event c x (legal_of o up h k.fresh k.grown.3) (empty_apart o k.fresh) k.grown.0 i j in
        alive_put o.who d e.event c x i to (mild_put o.who d e.event c x i (among_of o up h c k.fresh k.grown.3 i).current k.grown.0 (mild_entry t o up e h c k i tree) to j) old

    go : (v : Option Current) → d.current ≡ v → IsAlive (action o.who d e.event).next
    go None i = absurd (cc (now, ap (is_now t) i))
    go (Some c) i = on c i (sym (ap (is_now t) i) ∙ now) (put_by o.who d e.event) refl

pub alive_law : (t : Aaid) (o : Origin) (up : Option Addr) (h : List Entry) → IsUnfailed t o up h → is_now t (digest o h).current ≡ true → IsAlive (digest o h)
alive_law t o up [] k now = alive_none (digest o []) (current_none o k.fresh)
alive_law t o up (e ∷ h) k now = go (is_now t (digest o h).current) refl (alive_law t o up h (unfailed_before t o up e h k).1)
  where
    go : (b : Bool) → is_now t (digest o h).current ≡ b → (is_now t (digest o h).current ≡ true → IsAlive (digest o h)) → IsAlive (digest o (e ∷ h))
    go false i rest = begins_alive t o up e h k i now
    go true i rest = alive_step t o up e h k i (rest i)

pub branch_live : (t : Aaid) (o : Origin) (up : Option Addr) (h : List Entry) → IsUnfailed t o up h → BranchLive t o h
branch_live t o up h k c b p now tree found off = alive_law t o up h k (ap (is_now t) now ∙ tree) c p now (grind (arith, found, off))

pub superior_live : (t : Aaid) (o : Origin) (up : Option Addr) (h : List Entry) → IsUnfailed t o up h → SuperiorLive t o h
superior_live t o up h k c p now tree under = alive_law t o up h k (ap (is_now t) now ∙ tree) c p now (rw under refl)
