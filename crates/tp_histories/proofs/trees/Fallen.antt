-- What an event that rolls leaves: the transaction rolls or is over, and neither Ready nor Commit is logged.
use Rattle.std.proofs.Common.{if◌then◌else◌, ◌≡◌, inl, inr, ℕ, Bool, true, false, refl, ap, sym, subst, ◌∙◌, arith, Option, Some, None, [], ◌∷◌, ◌||◌}
use Rattle.tp_names.specs.declared.identifiers.Mark.{Mark}
use Rattle.tp_names.specs.declared.identifiers.Aaid.{Aaid}
use Rattle.tp_names.specs.declared.identifiers.BranchId.{BranchId}
use Rattle.tp_names.specs.declared.identifiers.Addr.{Addr}
use Rattle.tp_names.specs.Same.{is_key}
use Rattle.tp_records.specs.declared.request.Request.{Request}
use Rattle.tp_records.specs.declared.indication.Indication.{Indication}
use Rattle.tp_records.specs.declared.dialogue.DialogueRecord.{DialogueRecord}
use Rattle.tp_records.specs.declared.peer.PeerRecord.{PeerRecord}
use Rattle.tp_records.specs.declared.peer.RecState.{RecState}
use Rattle.tp_logrec.specs.declared.record.LogRec.{LogRec}
use Rattle.tp_model.specs.declared.arc.Phase.{Phase}
use Rattle.tp_model.specs.declared.transaction.TxEvent.{TxEvent}
use Rattle.tp_model.specs.declared.transaction.TxOut.{TxOut}
use Rattle.tp_model.specs.Parts.{Who, Event, Arc, Current, Digest}
use Rattle.tp_model.specs.Links.{with_one_taken}
use Rattle.tp_model.specs.Dialogues.{Sight, Acts, Nothing_happens, Out_of_phase, is_nil, is_active, is_ready, is_rolling}
use Rattle.tp_model.specs.Arcs.{find_arc, with_link, without_arc}
use Rattle.tp_model.specs.Transactions.{Row, Transaction, Turn, turn, node_key, is_under_at, find_row, complete_rollback, begin_rolling, roll, lost_arc, superior_rolls, sight_of_tx, acts, transacted}
use Rattle.tp_model.specs.Requests.{abort}
use Rattle.tp_model.specs.Node.{Move, move, followed, perform, phase_of, seen, situation_at, Passage, passage, is_leaving, is_over, try_start, transact, started_next}
use Rattle.tp_model.specs.Arrivals.{branch_key, named_by_key, is_current_ready, sight_at, sight_of, lose, take_abort, take_record, woken_by, take_on, take_ready_reply, broken_pair, break_off}
use Rattle.tp_model.specs.Events.{refusal, verdict, action}
use Rattle.tp_model.specs.Outcomes.{is_now, is_fatal, rolls_by_request, rolls_by_rollback, rolls}
use Rattle.tp_steps.specs.Turns.{falls, is_fatal_at}
use Rattle.tp_model.specs.Node.{turned}
use Rattle.tp_steps.specs.Moves.{IsLate}
use Rattle.tp_steps.specs.Traces.{is_old}
use Rattle.tp_steps.specs.Passages.{may_move, asks_tell}
use Rattle.tp_steps.proofs.lemmas.Phases.{tell_append}
use Rattle.tp_steps.proofs.branches.Staged.{is_rolled_told, staged_rollback}
use Rattle.tp_steps.specs.Trees.{IsTreed}
use Rattle.tp_steps.proofs.every.EveryMove.{every_start, quiet_start}
use Rattle.tp_histories.proofs.trees.Late.{late_remaining}
use Rattle.tp_steps.proofs.words.Treed.{now_some, now_left, phase_left, drawn_new}
use Rattle.tp_histories.proofs.trees.TreedMoves.{treed_moves}
use Rattle.tp_steps.proofs.every.EveryRecord.{find_arc_is, on_none}
use Rattle.tp_steps.proofs.branches.Rolls.{fatal_seen, sight_rollback, falls_arcs}

-- neither Ready nor Commit
abbrev pub is_plain : Option LogRec → Bool
is_plain None = true
is_plain (Some (LogRec.Ready n k s cs)) = false
is_plain (Some (LogRec.Commit n k s cs)) = false
is_plain (Some _) = true

-- ---- the transaction

abbrev pub IsDown : Turn → Type 0
IsDown a = (may_move Phase.Rolling a.next.phase ≡ true) × (is_plain a.rec ≡ true) × ((is_rolling a.next.phase || asks_tell is_rolled_told a.outs) ≡ true)

down_phase : (b : Bool) (t : Transaction) → may_move Phase.Rolling (roll b t).next.phase ≡ true
unfolding begin_rolling complete_rollback
down_phase b t = grind arith

down_plain : (b : Bool) (t : Transaction) → is_plain (roll b t).rec ≡ true
unfolding begin_rolling complete_rollback
down_plain b t = grind arith

down_roll : (b : Bool) (t : Transaction) → IsDown (roll b t)
unfolding begin_rolling
down_roll b t =
    let u : Transaction = (begin_rolling b t).next in
    let more = staged_rollback TxEvent.Retry u u refl in
    let none : (is_rolling (roll b t).next.phase || asks_tell is_rolled_told (roll b t).outs) ≡ (is_rolling (complete_rollback u).next.phase || (asks_tell is_rolled_told (begin_rolling b t).outs || asks_tell is_rolled_told (complete_rollback u).outs)) =
    ap (λ (v : Bool). is_rolling (complete_rollback u).next.phase || v) (tell_append is_rolled_told (begin_rolling b t).outs (complete_rollback u).outs) in
    (down_phase b t, down_plain b t, none ∙ either (is_rolling (complete_rollback u).next.phase) (asks_tell is_rolled_told (begin_rolling b t).outs) (asks_tell is_rolled_told (complete_rollback u).outs) (more.rolling refl))
  where
    either : (x y z : Bool) → (x || z) ≡ true → (x || (y || z)) ≡ true
    either x y z h = grind (arith, h)

down_lost : (p : ℕ) (s : Transaction) → is_fatal_at s p ≡ true → IsDown (lost_arc p s)
unfolding lost_arc
down_lost p s h = rw h (down_roll false _)

down_superior : (s : Transaction) → is_rolling s.phase ≡ false → IsDown (superior_rolls s)
down_superior s h = rw h (down_roll false (record s { superior_rolled = true }))

pub down_turn : (e : TxEvent) (s : Transaction) → falls e s ≡ true → IsDown (transacted e s)
unfolding sight_of_tx
down_turn (TxEvent.Begun arcs) s h = absurd cc
down_turn (TxEvent.User Request.Rollback) s h = down_roll true s
down_turn (TxEvent.User (Request.UAbort p)) s h = down_roll true _
down_turn (TxEvent.User r) s h = absurd (grind (arith, h))
down_turn (TxEvent.Took p DialogueRecord.UAbort) s h = down_lost p s h
down_turn (TxEvent.Took p DialogueRecord.Rollback) s h = go (is_under_at s.key p) refl (sight_of_tx s p DialogueRecord.Rollback) refl
  where
    seen_acts : (b : Bool) → is_under_at s.key p ≡ b → (o : Option Row) → find_row s.rows p ≡ o → acts (sight_of_tx s p DialogueRecord.Rollback) ≡ true
    seen_acts true i o j = grind (arith, i, h)
    seen_acts false i None j = absurd (grind (arith, i, j, h))
    seen_acts false i (Some r) j = grind (arith, i, j, h)

    up : is_under_at s.key p ≡ true → IsDown (superior_rolls s)
    up i = down_superior s (grind (arith, i, h))

    go : (b : Bool) → is_under_at s.key p ≡ b → (g : Sight) → sight_of_tx s p DialogueRecord.Rollback ≡ g
        → IsDown (elim g as (λ _. Turn) [ Acts ↦ if is_under_at s.key p then superior_rolls s else roll false s | Nothing_happens ↦ turn [] s | Out_of_phase ↦ turn [] s ])
    go true i Acts j = rw i (up i)
    go false i Acts j = rw i (down_roll false s)
    go b i Nothing_happens j = absurd (cc (ap acts j, seen_acts (is_under_at s.key p) refl (find_row s.rows p) refl))
    go b i Out_of_phase j = absurd (cc (ap acts j, seen_acts (is_under_at s.key p) refl (find_row s.rows p) refl))
down_turn (TxEvent.Took p r) s h = absurd (grind (arith, h))
down_turn (TxEvent.Lost p) s h = down_lost p s h
down_turn (TxEvent.Heur o) s h = absurd cc
down_turn (TxEvent.GiveUp p) s h = absurd cc
down_turn TxEvent.Ordered s h = absurd cc
down_turn (TxEvent.Reply b RecState.Unknown) s h = on (is_ready s.phase) h refl
  where
    on : (b : Bool) → b ≡ true → is_ready s.phase ≡ b → IsDown (if b then superior_rolls s else turn [] s)
    on true i j = down_superior s (grind (arith, j))
    on false i j = absurd cc
down_turn (TxEvent.Reply b r) s h = absurd (grind (arith, h))
down_turn TxEvent.Retry s h = absurd cc

-- ---- the node

-- of a tree that was drawn before
pub record IsFallen (t : Aaid) (m : Move) : Type 0 where
  pub rolling : is_now t m.next.current ≡ true → is_rolling (phase_of m.next) ≡ true
  pub plain : is_plain m.rec ≡ true

rolling_past : (p q : Phase) → may_move Phase.Rolling p ≡ true → is_nil p ≡ false → may_move p q ≡ true → is_nil q ≡ false → is_rolling q ≡ true
rolling_past Phase.Rolling Phase.Rolling h i j k = refl
rolling_past _ _ h i j k = absurd cc

pub rolling_is : (p : Phase) → may_move Phase.Rolling p ≡ true → is_nil p ≡ false → is_rolling p ≡ true
rolling_is Phase.Rolling h i = refl
rolling_is _ h i = absurd cc

pub nil_phase : (d : Digest) (t : Aaid) → IsLate d → is_now t d.current ≡ true → is_nil (phase_of d) ≡ false
nil_phase d t late n = let c = now_some t d.current n in ap is_nil (at c.0 c.1) ∙ late c.0 c.1
  where
    at : (c : Current) → d.current ≡ Some c → phase_of d ≡ c.phase
    at c i = rw (i, phase_of) refl

fallen_transact : (who : Who) (f : TxEvent) (d : Digest) (c : Current) (t : Aaid) → d.current ≡ Some c → falls f (seen who d.arcs c) ≡ true → is_old who d t.mark ≡ true → IsFallen t (transact who f d)
unfolding transact
fallen_transact who f d c t now fall old =
    subst (λ (o : Option Current). IsFallen t (elim o as (λ _. Move) [ None ↦ move [] d | Some x ↦ started_next who (passage (is_leaving f) (seen who d.arcs x).phase (transacted f (seen who d.arcs x)).next.phase) (turned who f d x) ])) (sym now)
    (over (is_over w) refl)
  where
    a : Turn
    a = transacted f (seen who d.arcs c)

    w : Passage
    w = passage (is_leaving f) c.phase a.next.phase

    m : Move
    m = turned who f d c

    g : Digest
    g = m.next

    down : IsDown a
    down = down_turn f (seen who d.arcs c) fall

    late : IsLate g
    late = late_remaining a.next

    phase : is_now t g.current ≡ true → (phase_of g ≡ a.next.phase) × (is_nil a.next.phase ≡ false)
    phase n = let k = now_left t a.next n in (phase_left a.next g refl k.1, k.1)

    starts : IsTreed who g true t 0 g (try_start who g)
    starts = every_start who Event.Retry g (IsTreed who g true t 0) (treed_moves who Event.Retry g true t 0 (λ x y z at asked h. refl)) g

    over : (b : Bool) → is_over w ≡ b → IsFallen t (if b then followed m (try_start who) else m)
    over false i = record { rolling = λ n. let k = phase n in ap is_rolling k.0 ∙ rolling_is a.next.phase down.0 k.1; plain = down.1 }
    over true i = record {
      rolling = λ n. elim (starts.enters late n) [
        | inl here ↦
            (let k = phase here in
            let move : may_move a.next.phase (phase_of (try_start who g).next) ≡ true = ap (λ (p : Phase). may_move p (phase_of (try_start who g).next)) (sym k.0) ∙ starts.moves late (λ z. old) here n in
            rolling_past a.next.phase (phase_of (try_start who g).next) down.0 k.1 move (nil_phase (try_start who g).next t (starts.late late) n))
        | inr x ↦ absurd (drawn_new who g (try_start who g).next t x old)
      ];
      plain = rw (quiet_start who g, is_plain) down.1;
    }

some_now : (d : Digest) (t : Aaid) → is_now t d.current ≡ true → (c : Current) × (d.current ≡ Some c)
some_now d t n = let c = now_some t d.current n in (c.0, c.1)

fallen_lose : (who : Who) (d : Digest) (p : ℕ) (t : Aaid) → is_now t d.current ≡ true → is_fatal d p ≡ true → is_old who d t.mark ≡ true → IsFallen t (lose who p d)
unfolding lose
fallen_lose who d p t n fatal old =
    let c = some_now d t n in
    let gone : Digest = record d { arcs = without_arc d.arcs p } in
    subst (λ (o : Option Current). IsFallen t (elim o as (λ _. Move) [ None ↦ perform (TxOut.Tell (Indication.PAbort p) ∷ []) gone | Some x ↦ transact who (TxEvent.Lost p) gone ])) (sym c.1)
    (fallen_transact who (TxEvent.Lost p) gone c.0 t c.1 (fatal_seen who d gone.arcs c.0 p c.1 ∙ fatal) old)

fallen_abort_taken : (who : Who) (d : Digest) (p : ℕ) (t : Aaid) → is_now t d.current ≡ true → is_fatal d p ≡ true → is_old who d t.mark ≡ true → IsFallen t (take_abort who p d)
unfolding take_abort
fallen_abort_taken who d p t n fatal old =
    let c = some_now d t n in
    let gone : Digest = record d { arcs = without_arc d.arcs p } in
    subst (λ (o : Option Current). IsFallen t (elim o as (λ _. Move) [ None ↦ perform (TxOut.Tell (Indication.UAbort p) ∷ []) gone | Some x ↦ transact who (TxEvent.Took p DialogueRecord.UAbort) gone ])) (sym c.1)
    (fallen_transact who (TxEvent.Took p DialogueRecord.UAbort) gone c.0 t c.1 (fatal_seen who d gone.arcs c.0 p c.1 ∙ fatal) old)

fallen_abort : (who : Who) (d : Digest) (p : ℕ) (t : Aaid) → is_now t d.current ≡ true → rolls_by_request who d (Request.UAbort p) ≡ true → is_old who d t.mark ≡ true → IsFallen t (abort who p d)
unfolding abort
fallen_abort who d p t n rolled old =
    let c = some_now d t n in
    let branch : (situation_at who d p).branch ≡ true = grind (arith, rolled) in
    let act : is_active c.0.phase ≡ true = ap is_active (sym (phase c.0 c.1)) ∙ grind (arith, rolled) in
    rw branch (fallen_transact who (TxEvent.User (Request.UAbort p)) d c.0 t c.1 act old)
  where
    phase : (c : Current) → d.current ≡ Some c → phase_of d ≡ c.phase
    phase c i = rw (i, phase_of) refl

-- ---- records that arrive

abbrev pub counted : Digest → ℕ → Digest
counted d p = record d { arcs = with_link d.arcs p with_one_taken }

pub abort_sight : (who : Who) (d : Digest) (a : Arc) → sight_at who d a DialogueRecord.UAbort ≡ Acts
unfolding sight_of
abort_sight who d a = grind arith

pub sight_acts : (g : Sight) → acts g ≡ true → g ≡ Acts
sight_acts Acts h = refl
sight_acts _ h = absurd cc

fallen_on : (who : Who) (d : Digest) (a : Arc) (r : DialogueRecord) (t : Aaid) → sight_at who d a r ≡ Acts → IsFallen t (take_record who a r (woken_by r a.peer.node (counted d a.peer.node))) → IsFallen t (take_on who a r d)
fallen_on who d a r t seen one =
    let g : Digest = woken_by r a.peer.node (counted d a.peer.node) in
    subst (λ (v : Sight). IsFallen t (elim v as (λ _. Move) [ Acts ↦ take_record who a r g | Nothing_happens ↦ move [] g | Out_of_phase ↦ move [] g ])) (sym seen) one

fallen_took_abort : (who : Who) (d : Digest) (from : Addr) (t : Aaid) (o : Option Arc) → find_arc d.arcs from.node ≡ o → is_now t d.current ≡ true → is_fatal d from.node ≡ true → is_old who d t.mark ≡ true
    → (o ≡ None → ⊥) → IsFallen t (elim o as (λ _. Move) [ None ↦ move [] d | Some a ↦ take_on who a DialogueRecord.UAbort d ])
fallen_took_abort who d from t None i n fatal old some = absurd (some refl)
fallen_took_abort who d from t (Some a) i n fatal old some =
    let at : a.peer.node ≡ from.node = find_arc_is d.arcs from.node a i in
    let here : is_fatal d a.peer.node ≡ true = ap (is_fatal d) at ∙ fatal in
    fallen_on who d a DialogueRecord.UAbort t (abort_sight who d a) (fallen_abort_taken who (woken_by DialogueRecord.UAbort a.peer.node (counted d a.peer.node)) a.peer.node t n here old)

pub acting_falls : (u : Transaction) (p : ℕ) → acts (sight_of_tx u p DialogueRecord.Rollback) ≡ true → (is_active u.phase || is_ready u.phase) ≡ true → falls (TxEvent.Took p DialogueRecord.Rollback) u ≡ true
unfolding sight_of_tx
acting_falls u p h k = go (is_under_at u.key p) refl (find_row u.rows p) refl
  where
    go : (b : Bool) → is_under_at u.key p ≡ b → (o : Option Row) → find_row u.rows p ≡ o → falls (TxEvent.Took p DialogueRecord.Rollback) u ≡ true
    go true i o j = grind (arith, i, h, k)
    go false i None j = absurd (grind (arith, i, j, h))
    go false i (Some r) j = grind (arith, i, j, h, k)

fallen_took_rollback : (who : Who) (d : Digest) (from : Addr) (t : Aaid) (o : Option Arc) → find_arc d.arcs from.node ≡ o → is_now t d.current ≡ true → rolls_by_rollback who d from.node ≡ true → is_old who d t.mark ≡ true
    → IsFallen t (elim o as (λ _. Move) [ None ↦ move [] d | Some a ↦ take_on who a DialogueRecord.Rollback d ])
fallen_took_rollback who d from t None i n rolled old = absurd (grind (arith, i, rolled))
fallen_took_rollback who d from t (Some a) i n rolled old =
    let act : acts (sight_at who d a DialogueRecord.Rollback) ≡ true = grind (arith, i, rolled) in
    let phase : (is_active (phase_of d) || is_ready (phase_of d)) ≡ true = grind (arith, rolled) in
    let c = some_now d t n in
    let g : Digest = woken_by DialogueRecord.Rollback a.peer.node (counted d a.peer.node) in
    let tx : acts (sight_of_tx (seen who d.arcs c.0) a.peer.node DialogueRecord.Rollback) ≡ true = ap acts (sym (sight_rollback who d a c.0 c.1)) ∙ act in
    let open_phase : (is_active c.0.phase || is_ready c.0.phase) ≡ true = ap (λ (p : Phase). is_active p || is_ready p) (sym (phase_is c.0 c.1)) ∙ phase in
    fallen_on who d a DialogueRecord.Rollback t (sight_acts (sight_at who d a DialogueRecord.Rollback) act)
    (fallen_transact who (TxEvent.Took a.peer.node DialogueRecord.Rollback) g c.0 t c.1 (falls_arcs who d.arcs g.arcs c.0 a.peer.node (acting_falls (seen who d.arcs c.0) a.peer.node tx open_phase)) old)
  where
    phase_is : (c : Current) → d.current ≡ Some c → phase_of d ≡ c.phase
    phase_is c i = rw (i, phase_of) refl

fallen_reply : (who : Who) (d : Digest) (t u : Aaid) (b : BranchId) → is_now t d.current ≡ true → is_current_ready (named_by_key d (branch_key u b)) ≡ true → is_old who d t.mark ≡ true → IsFallen t (take_ready_reply who u b RecState.Unknown d)
fallen_reply who d t u b n ready old =
    let c = some_now d t n in
    let r : is_ready c.0.phase ≡ true = named_ready c.0 c.1 (is_key (node_key c.0.key) (branch_key u b)) refl in
    rw ready (fallen_transact who (TxEvent.Reply b RecState.Unknown) d c.0 t c.1 r old)
  where
    named_ready : (c : Current) → d.current ≡ Some c → (v : Bool) → is_key (node_key c.key) (branch_key u b) ≡ v → is_ready c.phase ≡ true
    named_ready c i true j = grind (arith, ready, i, j)
    named_ready c i false j = absurd (grind (arith, ready, i, j))

-- ---- every event

pub arrived_some : (who : Who) (d : Digest) (from : Addr) (x y : Mark) (q : ℕ) (r : DialogueRecord) → refusal who d (Event.Arrive from (PeerRecord.OnAssoc x y q r)) ≡ None → find_arc d.arcs from.node ≡ None → ⊥
unfolding refusal verdict
arrived_some who d from x y q r ok i = on_none who d from x y q r (grind (arith, ok)) i

pub no_pair : (who : Who) (d : Digest) (from : Addr) (r : PeerRecord) → refusal who d (Event.Break from r) ≡ None → broken_pair r ≡ None → ⊥
unfolding refusal verdict
no_pair who d from r ok i = absurd (grind (arith, ok, i))

fallen_break : (who : Who) (d : Digest) (from : Addr) (r : PeerRecord) (t : Aaid) → refusal who d (Event.Break from r) ≡ None → is_now t d.current ≡ true → is_fatal d from.node ≡ true → is_old who d t.mark ≡ true → IsFallen t (break_off who from r d)
unfolding break_off
fallen_break who d from r t ok n fatal old = go (broken_pair r) refl
  where
    go : (o : Option (Mark × Mark)) → broken_pair r ≡ o → IsFallen t (elim o as (λ _. Move) [ None ↦ move [] d | Some xy ↦ followed (perform (TxOut.Recovery from (PeerRecord.ShutAssoc xy.0 (Some xy.1)) ∷ []) d) (lose who from.node) ])
    go None i = absurd (no_pair who d from r ok i)
    go (Some xy) i =
        let g : Digest = (perform (TxOut.Recovery from (PeerRecord.ShutAssoc xy.0 (Some xy.1)) ∷ []) d).next in
        let one : IsFallen t (lose who from.node g) = fallen_lose who g from.node t n fatal old in
        record { rolling = one.rolling; plain = plain_after (lose who from.node g).rec one.plain }
      where
        plain_after : (o : Option LogRec) → is_plain o ≡ true → is_plain (elim o as (λ _. Option LogRec) [ None ↦ None | Some r ↦ Some r ]) ≡ true
        plain_after None h = refl
        plain_after (Some r) h = h

pub fallen_event : (who : Who) (d : Digest) (e : Event) (t : Aaid) → refusal who d e ≡ None → rolls who d e ≡ true → is_now t d.current ≡ true → is_old who d t.mark ≡ true → IsFallen t (action who d e)
fallen_event who d (Event.Declare s) t ok h n old = absurd cc
fallen_event who d (Event.Do (Request.UAbort p)) t ok h n old = fallen_abort who d p t n h old
fallen_event who d (Event.Do Request.Rollback) t ok h n old =
    let c = some_now d t n in
    fallen_transact who (TxEvent.User Request.Rollback) d c.0 t c.1 (ap is_active (sym (phase_is c.0 c.1)) ∙ h) old
  where
    phase_is : (c : Current) → d.current ≡ Some c → phase_of d ≡ c.phase
    phase_is c i = rw (i, phase_of) refl
fallen_event who d (Event.Do r) t ok h n old = absurd (grind (arith, h))
fallen_event who d (Event.Arrive from (PeerRecord.ShutAssoc x (Some y))) t ok h n old = fallen_lose who d from.node t n h old
fallen_event who d (Event.Arrive from (PeerRecord.ShutAssoc x None)) t ok h n old = absurd cc
fallen_event who d (Event.Arrive from (PeerRecord.OnAssoc x y q DialogueRecord.UAbort)) t ok h n old =
    fallen_took_abort who d from t (find_arc d.arcs from.node) refl n h old (λ i. arrived_some who d from x y q DialogueRecord.UAbort ok i)
fallen_event who d (Event.Arrive from (PeerRecord.OnAssoc x y q DialogueRecord.Rollback)) t ok h n old = fallen_took_rollback who d from t (find_arc d.arcs from.node) refl n h old
fallen_event who d (Event.Arrive from (PeerRecord.OnAssoc x y q r)) t ok h n old = absurd (grind (arith, h))
fallen_event who d (Event.Arrive from (PeerRecord.RecReply u b RecState.Unknown)) t ok h n old = fallen_reply who d t u b n h old
fallen_event who d (Event.Arrive from (PeerRecord.RecReply u b v)) t ok h n old = absurd (grind (arith, h))
fallen_event who d (Event.Arrive from r) t ok h n old = absurd (grind (arith, h))
fallen_event who d (Event.Break from r) t ok h n old = fallen_break who d from r t ok n h old
fallen_event who d (Event.Lose p) t ok h n old = fallen_lose who d p t n h old
fallen_event who d (Event.Heur o) t ok h n old = absurd cc
fallen_event who d (Event.GiveUp p) t ok h n old = absurd cc
fallen_event who d Event.Retry t ok h n old = absurd cc
fallen_event who d Event.Purge t ok h n old = absurd cc
fallen_event who d Event.Crash t ok h n old = absurd cc
