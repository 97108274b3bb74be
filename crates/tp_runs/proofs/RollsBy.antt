-- What an event that rolls must leave, and one that leaves: the transaction rolls, or the user is told that its rollback is
-- complete; after a leaving nothing is current, or a root is begun.
use Rattle.std.proofs.Common.{if◌then◌else◌, ◌≡◌, ◌⊎◌, inl, inr, ℕ, suc, Bool, true, false, refl, ap, sym, subst, ◌∙◌, arith, Option, Some, None, [], ◌∷◌, ◌++◌, ◌&&◌, ◌||◌, not}
use Rattle.tp_names.specs.declared.identifiers.Mark.{Mark}
use Rattle.tp_names.specs.declared.identifiers.Aaid.{Aaid}
use Rattle.tp_names.specs.declared.identifiers.BranchId.{BranchId}
use Rattle.tp_names.specs.declared.identifiers.Addr.{Addr}
use Rattle.tp_names.specs.Same.{is_key}
use Rattle.tp_records.specs.declared.request.Request.{Request}
use Rattle.tp_records.specs.declared.indication.Indication.{Indication}
use Rattle.tp_records.specs.declared.dialogue.DialogueRecord.{DialogueRecord}
use Rattle.tp_records.specs.declared.peer.PeerRecord.{PeerRecord}
use Rattle.tp_records.specs.declared.peer.RecState.{RecState}
use Rattle.tp_model.specs.declared.arc.Phase.{Phase}
use Rattle.tp_model.specs.declared.transaction.TxEvent.{TxEvent}
use Rattle.tp_model.specs.declared.transaction.TxOut.{TxOut}
use Rattle.tp_model.specs.Parts.{Who, Event, Arc, Current, Digest}
use Rattle.tp_model.specs.Dialogues.{Sight, Acts, Nothing_happens, Out_of_phase, is_nil, is_active, is_ready, is_rolling}
use Rattle.tp_model.specs.Arcs.{find_arc, without_arc}
use Rattle.tp_model.specs.Transactions.{Transaction, Turn, node_key, sight_of_tx, acts, leave, transacted, refused_tx}
use Rattle.tp_model.specs.Requests.{abort, refused_request}
use Rattle.tp_model.specs.Node.{Move, move, followed, perform, phase_of, may_root, seen, situation_at, remaining, Passage, passage, is_leaving, is_over, has_none, chained_peers, start_root, try_start, transact, turned, started_next}
use Rattle.tp_model.specs.Arrivals.{branch_key, named_by_key, is_current_ready, sight_at, lose, take_abort, take_record, woken_by, take_on, take_ready_reply, broken_pair, break_off}
use Rattle.tp_model.specs.Events.{refusal, action}
use Rattle.tp_model.specs.Outcomes.{is_fatal, rolls_by_request, rolls_by_rollback, rolls, is_unchanged}
use Rattle.tp_steps.specs.Turns.{falls}
use Rattle.tp_steps.specs.Steps.{first_begin, next_tree, next_branch}
use Rattle.tp_steps.specs.Moves.{IsPut}
use Rattle.tp_steps.proofs.every.EveryMove.{put_plain}
use Rattle.tp_steps.proofs.log.Passed.{passed_turn}
use Rattle.tp_steps.proofs.links.Apart.{apart_turn}
use Rattle.tp_steps.specs.Passages.{asks_tell}
use Rattle.tp_steps.specs.Ends.{are_separate}
use Rattle.tp_steps.proofs.every.EveryRecord.{find_arc_is}
use Rattle.tp_steps.proofs.every.RootBegins.{chained_says}
use Rattle.tp_steps.proofs.links.Told.{told_append, told_played}
use Rattle.tp_steps.proofs.branches.Staged.{is_rolled_told}
use Rattle.tp_steps.proofs.branches.Rolls.{fatal_seen, sight_rollback, falls_arcs}
use Rattle.tp_histories.proofs.trees.Fallen.{IsDown, down_turn, counted, abort_sight, sight_acts, acting_falls, rolling_is, arrived_some, no_pair}
use Rattle.tp_histories.proofs.marks.Separate.{thins_turned}
use Rattle.tp_steps.proofs.log.Sound.{left_is}
use Rattle.tp_steps.proofs.every.Course.{tells_rolled, first_none_append, first_played}
use Rattle.tp_steps.proofs.every.EveryEvent.{plain_request}
use Rattle.tp_steps.proofs.links.Whole.{whole_turn}

-- ---- an event that rolls

abbrev pub IsDownMove : Move → Type 0
IsDownMove m = (tells_rolled m ≡ true) ⊎ ((u : Current) × (m.next.current ≡ Some u) × (is_rolling u.phase ≡ true))

over_rolling : (l : Bool) (p : Phase) → is_over (passage l p Phase.Rolling) ≡ false
over_rolling l Phase.Nil = refl
over_rolling l Phase.Active = refl
over_rolling l Phase.Ready = refl
over_rolling l Phase.Committing = refl
over_rolling l Phase.Rolling = refl

rolling_eq : (p : Phase) → is_rolling p ≡ true → p ≡ Phase.Rolling
rolling_eq Phase.Rolling h = refl
rolling_eq _ h = absurd (cc (h))

down_transact : (who : Who) (f : TxEvent) (d : Digest) (c : Current) → d.current ≡ Some c → falls f (seen who d.arcs c) ≡ true → IsDownMove (transact who f d)
unfolding transact
down_transact who f d c now fall =
    subst (λ (o : Option Current). IsDownMove (elim o as (λ _. Move) [ None ↦ move [] d | Some x ↦ started_next who (passage (is_leaving f) (seen who d.arcs x).phase (transacted f (seen who d.arcs x)).next.phase) (turned who f d x) ])) (sym now)
    (go (is_nil a.next.phase) refl)
  where
    t : Transaction
    t = seen who d.arcs c

    a : Turn
    a = transacted f t

    w : Passage
    w = passage (is_leaving f) c.phase a.next.phase

    m : Move
    m = turned who f d c

    down : IsDown a
    down = down_turn f t fall

    tells : tells_rolled m ≡ asks_tell is_rolled_told a.outs
    tells = told_played is_rolled_told d t _ a (whole_turn f t) _

    more : (b : Bool) → tells_rolled m ≡ true → tells_rolled (if b then followed m (try_start who) else m) ≡ true
    more true h = told_append is_rolled_told m.outs (try_start who m.next).outs ∙ rw h refl
    more false h = h

    nil_told : (x y : Bool) → (x || y) ≡ true → x ≡ false → y ≡ true
    nil_told true y h i = absurd (cc (i))
    nil_told false y h i = h

    nil_flat : (p : Phase) → is_nil p ≡ true → is_rolling p ≡ false
    nil_flat p h = grind (arith, h)

    on : (o : Option Current) → remaining a.next ≡ o → is_nil a.next.phase ≡ false → IsDownMove m
    on None i j = absurd (grind (arith, i, j))
    on (Some u) i j = inr (u, i, ap is_rolling (left_is a.next u i).1 ∙ rolling_is a.next.phase down.0 j)

    go : (b : Bool) → is_nil a.next.phase ≡ b → IsDownMove (if is_over w then followed m (try_start who) else m)
    go true i = inl (more (is_over w) (tells ∙ nil_told (is_rolling a.next.phase) (asks_tell is_rolled_told a.outs) down.2 (nil_flat a.next.phase i)))
    go false i =
        let stays : is_over w ≡ false = ap (λ (p : Phase). is_over (passage (is_leaving f) c.phase p)) (rolling_eq a.next.phase (rolling_is a.next.phase down.0 i)) ∙ over_rolling (is_leaving f) c.phase in
        subst (λ (b : Bool). IsDownMove (if b then followed m (try_start who) else m)) (sym stays) (on (remaining a.next) refl i)

down_lose : (who : Who) (d : Digest) (p : ℕ) (c : Current) → d.current ≡ Some c → is_fatal d p ≡ true → IsDownMove (lose who p d)
unfolding lose
down_lose who d p c n fatal =
    let gone : Digest = record d { arcs = without_arc d.arcs p } in
    subst (λ (o : Option Current). IsDownMove (elim o as (λ _. Move) [ None ↦ perform (TxOut.Tell (Indication.PAbort p) ∷ []) gone | Some x ↦ transact who (TxEvent.Lost p) gone ])) (sym n)
    (down_transact who (TxEvent.Lost p) gone c n (fatal_seen who d gone.arcs c p n ∙ fatal))

down_abort_taken : (who : Who) (d : Digest) (p : ℕ) (c : Current) → d.current ≡ Some c → is_fatal d p ≡ true → IsDownMove (take_abort who p d)
unfolding take_abort
down_abort_taken who d p c n fatal =
    let gone : Digest = record d { arcs = without_arc d.arcs p } in
    subst (λ (o : Option Current). IsDownMove (elim o as (λ _. Move) [ None ↦ perform (TxOut.Tell (Indication.UAbort p) ∷ []) gone | Some x ↦ transact who (TxEvent.Took p DialogueRecord.UAbort) gone ])) (sym n)
    (down_transact who (TxEvent.Took p DialogueRecord.UAbort) gone c n (fatal_seen who d gone.arcs c p n ∙ fatal))

down_abort : (who : Who) (d : Digest) (p : ℕ) (c : Current) → d.current ≡ Some c → rolls_by_request who d (Request.UAbort p) ≡ true → IsDownMove (abort who p d)
unfolding abort
down_abort who d p c n rolled =
    let branch : (situation_at who d p).branch ≡ true = grind (arith, rolled) in
    let act : is_active c.phase ≡ true = ap is_active (sym (phase c n)) ∙ grind (arith, rolled) in
    rw branch (down_transact who (TxEvent.User (Request.UAbort p)) d c n act)
  where
    phase : (c : Current) → d.current ≡ Some c → phase_of d ≡ c.phase
    phase c i = rw (i, phase_of) refl

-- ---- records that arrive

down_on : (who : Who) (d : Digest) (a : Arc) (r : DialogueRecord) (c : Current) → sight_at who d a r ≡ Acts → IsDownMove (take_record who a r (woken_by r a.peer.node (counted d a.peer.node))) → IsDownMove (take_on who a r d)
down_on who d a r c seen one =
    let g : Digest = woken_by r a.peer.node (counted d a.peer.node) in
    subst (λ (v : Sight). IsDownMove (elim v as (λ _. Move) [ Acts ↦ take_record who a r g | Nothing_happens ↦ move [] g | Out_of_phase ↦ move [] g ])) (sym seen) one

down_took_abort : (who : Who) (d : Digest) (from : Addr) (c : Current) (o : Option Arc) → find_arc d.arcs from.node ≡ o → d.current ≡ Some c → is_fatal d from.node ≡ true
    → (o ≡ None → ⊥) → IsDownMove (elim o as (λ _. Move) [ None ↦ move [] d | Some a ↦ take_on who a DialogueRecord.UAbort d ])
down_took_abort who d from c None i n fatal some = absurd (some refl)
down_took_abort who d from c (Some a) i n fatal some =
    let at : a.peer.node ≡ from.node = find_arc_is d.arcs from.node a i in
    let here : is_fatal d a.peer.node ≡ true = ap (is_fatal d) at ∙ fatal in
    down_on who d a DialogueRecord.UAbort c (abort_sight who d a) (down_abort_taken who (woken_by DialogueRecord.UAbort a.peer.node (counted d a.peer.node)) a.peer.node c n here)

down_took_rollback : (who : Who) (d : Digest) (from : Addr) (c : Current) (o : Option Arc) → find_arc d.arcs from.node ≡ o → d.current ≡ Some c → rolls_by_rollback who d from.node ≡ true
    → IsDownMove (elim o as (λ _. Move) [ None ↦ move [] d | Some a ↦ take_on who a DialogueRecord.Rollback d ])
down_took_rollback who d from c None i n rolled = absurd (grind (arith, i, rolled))
down_took_rollback who d from c (Some a) i n rolled =
    let act : acts (sight_at who d a DialogueRecord.Rollback) ≡ true = grind (arith, i, rolled) in
    let phase : (is_active (phase_of d) || is_ready (phase_of d)) ≡ true = grind (arith, rolled) in
    let g : Digest = woken_by DialogueRecord.Rollback a.peer.node (counted d a.peer.node) in
    let tx : acts (sight_of_tx (seen who d.arcs c) a.peer.node DialogueRecord.Rollback) ≡ true = ap acts (sym (sight_rollback who d a c n)) ∙ act in
    let open_phase : (is_active c.phase || is_ready c.phase) ≡ true = ap (λ (p : Phase). is_active p || is_ready p) (sym (phase_is c n)) ∙ phase in
    down_on who d a DialogueRecord.Rollback c (sight_acts (sight_at who d a DialogueRecord.Rollback) act)
    (down_transact who (TxEvent.Took a.peer.node DialogueRecord.Rollback) g c n (falls_arcs who d.arcs g.arcs c a.peer.node (acting_falls (seen who d.arcs c) a.peer.node tx open_phase)))
  where
    phase_is : (c : Current) → d.current ≡ Some c → phase_of d ≡ c.phase
    phase_is c i = rw (i, phase_of) refl

down_reply : (who : Who) (d : Digest) (c : Current) (u : Aaid) (b : BranchId) → d.current ≡ Some c → is_current_ready (named_by_key d (branch_key u b)) ≡ true → IsDownMove (take_ready_reply who u b RecState.Unknown d)
down_reply who d c u b n ready =
    let r : is_ready c.phase ≡ true = named_ready c n (is_key (node_key c.key) (branch_key u b)) refl in
    rw ready (down_transact who (TxEvent.Reply b RecState.Unknown) d c n r)
  where
    named_ready : (c : Current) → d.current ≡ Some c → (v : Bool) → is_key (node_key c.key) (branch_key u b) ≡ v → is_ready c.phase ≡ true
    named_ready c i true j = grind (arith, ready, i, j)
    named_ready c i false j = absurd (grind (arith, ready, i, j))

-- ---- every event

down_break : (who : Who) (d : Digest) (from : Addr) (r : PeerRecord) (c : Current) → refusal who d (Event.Break from r) ≡ None → d.current ≡ Some c → is_fatal d from.node ≡ true → IsDownMove (break_off who from r d)
unfolding break_off
down_break who d from r c ok n fatal = go (broken_pair r) refl
  where
    go : (o : Option (Mark × Mark)) → broken_pair r ≡ o → IsDownMove (elim o as (λ _. Move) [ None ↦ move [] d | Some xy ↦ followed (perform (TxOut.Recovery from (PeerRecord.ShutAssoc xy.0 (Some xy.1)) ∷ []) d) (lose who from.node) ])
    go None i = absurd (no_pair who d from r ok i)
    go (Some xy) i =
        let g : Digest = (perform (TxOut.Recovery from (PeerRecord.ShutAssoc xy.0 (Some xy.1)) ∷ []) d).next in
        let one : IsDownMove (lose who from.node g) = down_lose who g from.node c n fatal in
        one

pub down_event : (who : Who) (d : Digest) (e : Event) (c : Current) → refusal who d e ≡ None → rolls who d e ≡ true → d.current ≡ Some c → IsDownMove (action who d e)
down_event who d (Event.Declare s) c ok h n = absurd cc
down_event who d (Event.Do (Request.UAbort p)) c ok h n = down_abort who d p c n h
down_event who d (Event.Do Request.Rollback) c ok h n =
    down_transact who (TxEvent.User Request.Rollback) d c n (ap is_active (sym (phase_is c n)) ∙ h)
  where
    phase_is : (c : Current) → d.current ≡ Some c → phase_of d ≡ c.phase
    phase_is c i = rw (i, phase_of) refl
down_event who d (Event.Do r) c ok h n = absurd (grind (arith, h))
down_event who d (Event.Arrive from (PeerRecord.ShutAssoc x (Some y))) c ok h n = down_lose who d from.node c n h
down_event who d (Event.Arrive from (PeerRecord.ShutAssoc x None)) c ok h n = absurd cc
down_event who d (Event.Arrive from (PeerRecord.OnAssoc x y q DialogueRecord.UAbort)) c ok h n =
    down_took_abort who d from c (find_arc d.arcs from.node) refl n h (λ i. arrived_some who d from x y q DialogueRecord.UAbort ok i)
down_event who d (Event.Arrive from (PeerRecord.OnAssoc x y q DialogueRecord.Rollback)) c ok h n = down_took_rollback who d from c (find_arc d.arcs from.node) refl n h
down_event who d (Event.Arrive from (PeerRecord.OnAssoc x y q r)) c ok h n = absurd (grind (arith, h))
down_event who d (Event.Arrive from (PeerRecord.RecReply u b RecState.Unknown)) c ok h n = down_reply who d c u b n h
down_event who d (Event.Arrive from (PeerRecord.RecReply u b v)) c ok h n = absurd (grind (arith, h))
down_event who d (Event.Arrive from r) c ok h n = absurd (grind (arith, h))
down_event who d (Event.Break from r) c ok h n = down_break who d from r c ok n h
down_event who d (Event.Lose p) c ok h n = down_lose who d p c n h
down_event who d (Event.Heur o) c ok h n = absurd cc
down_event who d (Event.GiveUp p) c ok h n = absurd cc
down_event who d Event.Retry c ok h n = absurd cc
down_event who d Event.Purge c ok h n = absurd cc
down_event who d Event.Crash c ok h n = absurd cc

-- ---- an event that leaves

-- nothing is current after it, or a root is begun in it
abbrev pub IsLeftMove : Who → ℕ → Move → Type 0
IsLeftMove who n m = (m.next.current ≡ None) ⊎ ((t : Aaid) × (b : BranchId) × (first_begin m.outs ≡ Some (t, b)) × (b.mark.count ≡ suc (suc n)))

left_start : (who : Who) (m : Move) → first_begin m.outs ≡ None → m.next.current ≡ None → are_separate m.next.arcs ≡ true → IsLeftMove who m.next.drawn (followed m (try_start who))
unfolding try_start
left_start who m quiet none apart =
    go (is_nil (phase_of m.next) && may_root m.next && not (has_none (chained_peers who m.next))) refl
  where
    start : (b : Bool) → Digest → Move
    start b d = if b then start_root who [] d else move [] d

    go : (b : Bool) → (is_nil (phase_of m.next) && may_root m.next && not (has_none (chained_peers who m.next))) ≡ b
        → IsLeftMove who m.next.drawn (record {
          rec = elim (start b m.next).rec [ None ↦ m.rec | Some r ↦ Some r ];
          outs = m.outs ++ (start b m.next).outs;
          next = (start b m.next).next;
        })
    go false i = inl none
    go true i =
        let some : has_none (chained_peers who m.next) ≡ false = grind (arith, i) in
        inr (next_tree who m.next, next_branch who m.next, first_none_append m.outs (start_root who [] m.next).outs quiet ∙ chained_says who m.next some apart, refl)

left_transact : (who : Who) (d : Digest) (c : Current) → d.current ≡ Some c → is_active c.phase ≡ true → are_separate d.arcs ≡ true → IsPut (TxEvent.User Request.Unchanged) (seen who d.arcs c) → IsLeftMove who d.drawn (transact who (TxEvent.User Request.Unchanged) d)
unfolding transact leave
left_transact who d c now act apart put =
    subst (λ (o : Option Current). IsLeftMove who d.drawn (elim o as (λ _. Move) [ None ↦ move [] d | Some x ↦ started_next who (passage true (seen who d.arcs x).phase (transacted (TxEvent.User Request.Unchanged) (seen who d.arcs x)).next.phase) (turned who (TxEvent.User Request.Unchanged) d x) ])) (sym now)
    (subst (λ (b : Bool). IsLeftMove who d.drawn (if b then followed m (try_start who) else m)) (sym (over c.phase act)) (left_start who m quiet refl ((thins_turned who f d c).apart apart)))
  where
    f : TxEvent
    f = TxEvent.User Request.Unchanged

    t : Transaction
    t = seen who d.arcs c

    m : Move
    m = turned who f d c

    quiet : first_begin m.outs ≡ None
    quiet = first_played d t _ (transacted f t) (whole_turn f t) _ (passed_turn f t put).begins (apart_turn f t put)

    over : (p : Phase) → is_active p ≡ true → is_over (passage true p Phase.Nil) ≡ true
    over Phase.Nil h = absurd (cc (h))
    over Phase.Active h = refl
    over Phase.Ready h = refl
    over Phase.Committing h = refl
    over Phase.Rolling h = refl

pub left_active : (who : Who) (d : Digest) (c : Current) → refusal who d (Event.Do Request.Unchanged) ≡ None → d.current ≡ Some c → is_nil c.phase ≡ false → is_active c.phase ≡ true
unfolding refused_request
left_active who d c ok now late =
    let plain : refused_request who d Request.Unchanged ≡ None = plain_request who d Request.Unchanged ok in
    go c.phase refl plain
  where
    go : (p : Phase) → c.phase ≡ p → refused_request who d Request.Unchanged ≡ None → is_active c.phase ≡ true
    go Phase.Active i plain = ap is_active i
    go Phase.Nil i plain = absurd (cc (late, ap is_nil i))
    go Phase.Ready i plain = absurd (grind (arith, now, i, plain))
    go Phase.Committing i plain = absurd (grind (arith, now, i, plain))
    go Phase.Rolling i plain = absurd (grind (arith, now, i, plain))

left_allowed : (who : Who) (d : Digest) (c : Current) → refused_request who d Request.Unchanged ≡ None → d.current ≡ Some c → refused_tx (TxEvent.User Request.Unchanged) (seen who d.arcs c) ≡ None
unfolding refused_request refused_tx
left_allowed who d c ok now = rw now at ok

left_put : (who : Who) (d : Digest) (c : Current) → refusal who d (Event.Do Request.Unchanged) ≡ None → d.current ≡ Some c → is_nil c.phase ≡ false → IsPut (TxEvent.User Request.Unchanged) (seen who d.arcs c)
left_put who d c ok now late =
    put_plain who d c (TxEvent.User Request.Unchanged) late (λ t. left_allowed who d c (plain_request who d Request.Unchanged ok) now) (λ p h. cc (h)) (λ h. cc (h)) (λ arcs h. cc (h))

pub left_event : (who : Who) (d : Digest) (e : Event) (c : Current) → refusal who d e ≡ None → is_unchanged e ≡ true → d.current ≡ Some c → is_nil c.phase ≡ false → are_separate d.arcs ≡ true → IsLeftMove who d.drawn (action who d e)
left_event who d (Event.Do Request.Unchanged) c ok h now late apart = left_transact who d c now (left_active who d c ok now late) apart (left_put who d c ok now late)
left_event who d e c ok h now late apart = absurd (grind (arith, h))
