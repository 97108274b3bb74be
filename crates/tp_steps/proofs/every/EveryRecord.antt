-- Every record that a node takes on an association.
use Rattle.std.proofs.Common.{if◌then◌else◌, ◌≡◌, inl, ℕ, Bool, true, false, refl, ap, sym, subst, ◌∙◌, arith, Option, Some, None, List, [], ◌∷◌, ◌++◌, ◌&&◌, ◌||◌, ◌==◌}
use Rattle.std.proofs.lemmas.Bool.Decides.{nat_tests}
use Rattle.tp_names.specs.declared.identifiers.Mark.{Mark}
use Rattle.tp_names.specs.declared.identifiers.Aaid.{Aaid}
use Rattle.tp_names.specs.declared.identifiers.BranchId.{BranchId}
use Rattle.tp_names.specs.declared.identifiers.NodeKey.{NodeKey}
use Rattle.tp_names.specs.declared.identifiers.Addr.{Addr}
use Rattle.tp_names.specs.declared.children.Child.{Child}
use Rattle.tp_names.specs.declared.outcome.Report.{Report}
use Rattle.tp_records.specs.declared.indication.Indication.{Indication}
use Rattle.tp_records.specs.declared.dialogue.DialogueRecord.{DialogueRecord}
use Rattle.tp_records.specs.declared.dialogue.Holder.{Holder}
use Rattle.tp_records.specs.declared.peer.PeerRecord.{PeerRecord}
use Rattle.tp_model.specs.declared.arc.Phase.{Phase}
use Rattle.tp_model.specs.declared.arc.Side.{Side}
use Rattle.tp_model.specs.declared.transaction.TxEvent.{TxEvent}
use Rattle.tp_model.specs.declared.transaction.TxOut.{TxOut}
use Rattle.tp_model.specs.declared.recovery.Kept.{Kept}
use Rattle.tp_model.specs.Parts.{Who, Event, Link, Idle, Live, Dialogue, Arc, Under, Current, Digest}
use Rattle.tp_model.specs.Links.{with_one_taken}
use Rattle.tp_model.specs.Dialogues.{is_active, is_end_deferred, arrived, Sight, Acts, Nothing_happens, Out_of_phase, Heard, Hear_data, Hear_error, Hear_grant, Hear_control, Hear_handshake, Hear_handshake_grant, Hear_response, Hear_defer_end, Hear_defer_grant, heard, cleared, woken, begun_by}
use Rattle.tp_model.specs.Arcs.{find_arc, is_live_with_peer, link_with, without_arc, with_dialogue, with_link}
use Rattle.tp_model.specs.Transactions.{situation_of}
use Rattle.tp_model.specs.Recovery.{owed, ask_owed, tell_superior, forget_to}
use Rattle.tp_model.specs.Node.{is_end_deferred_at, Move, move, perform, phase_of, fresh_current, begin_chained, transact}
use Rattle.tp_model.specs.Arrivals.{sight_at, sight_of, take_begin, take_abort, take_record, is_response, woken_by, take_on, refused_arrival}
use Rattle.tp_steps.specs.Turns.{loses, is_outcome_told}
use Rattle.tp_steps.proofs.links.Links.{link_without}
use Rattle.tp_steps.specs.Moves.{prelude, begun_in, counted_in, are_spoken, closes_at, heard_by, begun_by_record, may_put_off, wakes, IsChange, By_waking, By_hearing, By_beginning, By_leaving}
use Rattle.tp_steps.specs.Moves.{IsLate}
use Rattle.tp_steps.specs.Steps.{carries_last, carry_last, is_deferred_by, puts_off_at, IsLike, Steps}
use Rattle.tp_steps.proofs.every.EveryMove.{apart, ends_elsewhere, ends_dialogue, step_chained, step_transact}
use Rattle.tp_steps.proofs.lemmas.Alike.{counted_alike}
pub use Rattle.tp_steps.proofs.every.RootBegins.{find_arc_is}

-- ---- what is said in recovery

spoken_append : (xs ys : List TxOut) → are_spoken xs ≡ true → are_spoken ys ≡ true → are_spoken (xs ++ ys) ≡ true
spoken_append [] ys h i = i
spoken_append (x ∷ xs) ys h i = grind (arith, spoken_append xs ys)

spoken_ask : (a : Aaid) (cs : List Child) → are_spoken (ask_owed a cs) ≡ true
spoken_ask a [] = refl
spoken_ask a (c ∷ cs) = spoken_ask a cs

spoken_tell : (k : Kept) → are_spoken (tell_superior k) ≡ true
spoken_tell k = grind arith

pub spoken_owed : (k : Kept) → are_spoken (owed k) ≡ true
unfolding owed
spoken_owed k = grind (arith, spoken_append (ask_owed k.key.aaid k.owed) (tell_superior k), spoken_ask k.key.aaid k.owed, spoken_tell k)

last_append : (who : Who) (d : Digest) (xs ys : List TxOut) → carry_last who d xs ≡ true → carry_last who d ys ≡ true → carry_last who d (xs ++ ys) ≡ true
last_append who d [] ys h i = i
last_append who d (TxOut.Tell t ∷ xs) ys h i = last_append who d xs ys h i
last_append who d (TxOut.Carry p r ∷ xs) ys h i = last_append who d xs ys h i
last_append who d (TxOut.Shut p ∷ xs) ys h i = last_append who d xs ys h i
last_append who d (TxOut.Recovery a r ∷ xs) ys h i = let rest = last_append who d xs ys in go (carries_last who d r) (carry_last who d xs) h rest i
  where
    go : (a b : Bool) → (a && b) ≡ true → (b ≡ true → carry_last who d ys ≡ true → carry_last who d (xs ++ ys) ≡ true) → carry_last who d ys ≡ true → (a && carry_last who d (xs ++ ys)) ≡ true
    go true true h rest i = rest refl i
    go true false h rest i = absurd (cc (h))
    go false b h rest i = absurd (cc (h))
last_append who d (TxOut.Close p ∷ xs) ys h i = last_append who d xs ys h i

last_ask : (who : Who) (d : Digest) (a : Aaid) (cs : List Child) → carry_last who d (ask_owed a cs) ≡ true
last_ask who d a [] = refl
last_ask who d a (c ∷ cs) = last_ask who d a cs

last_tell : (who : Who) (d : Digest) (k : Kept) → carry_last who d (tell_superior k) ≡ true
last_tell who d k = grind arith

pub last_owed : (who : Who) (d : Digest) (k : Kept) → carry_last who d (owed k) ≡ true
unfolding owed
last_owed who d k = grind (arith, last_append who d (ask_owed k.key.aaid k.owed) (tell_superior k), last_ask who d k.key.aaid k.owed, last_tell who d k)

pub last_forget : (who : Who) (d : Digest) (to : Addr) (k : NodeKey) (b : BranchId) (r : Report) → carry_last who d (forget_to to k b r) ≡ true
last_forget who d to k b r = grind arith

pub spoken_forget : (to : Addr) (k : NodeKey) (b : BranchId) (r : Report) → are_spoken (forget_to to k b r) ≡ true
spoken_forget to k b r = grind arith

-- ---- records on an association

-- the record that arrives, and the event that it is
abbrev pub the : Addr → Mark → Mark → ℕ → DialogueRecord → Event
the from x y q r = Event.Arrive from (PeerRecord.OnAssoc x y q r)

step_took : (who : Who) (from : Addr) (x y : Mark) (q : ℕ) (r : DialogueRecord) (s : Digest) (R : Digest → Move → Type 0) → Steps who (the from x y q r) s R → IsLate s → (p : ℕ) → p ≡ from.node
    → (d : Digest) → IsLike (the from x y q r) d s → ((n : ℕ) → loses (TxEvent.Took p r) n ≡ true → link_with d.arcs n ≡ Idle) → R d (transact who (TxEvent.Took p r) d)
step_took who from x y q r s R k late p at d same gone =
    step_transact who (the from x y q r) s R k (TxEvent.Took p r) d same (λ c j. ap (λ n. TxEvent.Took n r) at)
    (λ c j. record { late = late c j; ok = λ h. cc (h); abort = λ n h. cc (h); ordered = λ h. cc (h); not_begun = λ arcs h. cc (h) })
    gone

step_hear : (who : Who) (e : Event) (s : Digest) (R : Digest → Move → Type 0) → Steps who e s R → (p : ℕ) (h : Heard) (i : Indication) (d : Digest) → is_outcome_told i ≡ false
    → heard_by e ≡ Some (p, h) → (h ≡ Hear_defer_end → ⊥) → R d (perform (TxOut.Tell i ∷ []) (record d { arcs = with_dialogue d.arcs p (heard h) }))
step_hear who e s R k p h i d none by other =
    let g : Digest = record d { arcs = with_dialogue d.arcs p (heard h) } in
    k.changes_dialogue d p (heard h) (perform (TxOut.Tell i ∷ []) g) (By_hearing h by refl (λ j. absurd (other j))) (k.speaks g (TxOut.Tell i ∷ []) (rw none refl) (λ u h. absurd (cc (h)), λ z r h. absurd h) refl refl)

comes : (from : Addr) (p : ℕ) → p ≡ from.node → (from.node == p) ≡ true
comes from p at = grind (arith, nat_tests, at)

step_abort_taken : (who : Who) (from : Addr) (x y : Mark) (q : ℕ) (s : Digest) (R : Digest → Move → Type 0) → Steps who (the from x y q DialogueRecord.UAbort) s R → IsLate s → (p : ℕ) → p ≡ from.node
    → (d : Digest) → IsLike (the from x y q DialogueRecord.UAbort) d s → R d (take_abort who p d)
unfolding take_abort
step_abort_taken who from x y q s R k late p at d same = k.drops_arc d p (take_abort who p d) (comes from p at) (go d.current refl)
  where
    g : Digest
    g = record d { arcs = without_arc d.arcs p }

    gone_arc : (n : ℕ) → p ≡ n → link_with g.arcs n ≡ Idle
    gone_arc n same = link_without d.arcs p n ∙ grind (arith, nat_tests, same)

    go : (o : Option Current) → d.current ≡ o → R g (elim o as (λ _. Move) [ None ↦ perform (TxOut.Tell (Indication.UAbort p) ∷ []) g | Some c ↦ transact who (TxEvent.Took p DialogueRecord.UAbort) g ])
    go None i = k.speaks g (TxOut.Tell (Indication.UAbort p) ∷ []) refl (λ u h. absurd (cc (h)), λ z r h. absurd h) refl refl
    go (Some c) i = step_took who from x y q DialogueRecord.UAbort s R k late p at g (same.0, same.1, λ n off. ends_elsewhere d.arcs p n (apart (the from x y q DialogueRecord.UAbort) p n (comes from p at) off) ∙ same.2 n off) (λ n h. gone_arc n (grind (arith, nat_tests, h)))

step_deferred : (who : Who) (from : Addr) (x y : Mark) (q : ℕ) (r : DialogueRecord) (s : Digest) (R : Digest → Move → Type 0) → Steps who (the from x y q r) s R → IsLate s → (p : ℕ) → p ≡ from.node
    → (f : Dialogue → Dialogue) (d : Digest) → IsLike (the from x y q r) d s → ((n : ℕ) → (puts_off_at (the from x y q r) n || closes_at (the from x y q r) n) ≡ false → is_end_deferred_at (with_dialogue d.arcs p f) n ≡ is_end_deferred_at d.arcs n) → ((n : ℕ) → loses (TxEvent.Took p r) n ≡ true → ⊥) → IsChange (the from x y q r) d p f → R d (transact who (TxEvent.Took p r) (record d { arcs = with_dialogue d.arcs p f }))
step_deferred who from x y q r s R k late p at f d same aside none by =
    let g : Digest = record d { arcs = with_dialogue d.arcs p f } in
    k.changes_dialogue d p f (transact who (TxEvent.Took p r) g) by (step_took who from x y q r s R k late p at g (same.0, same.1, λ n off. aside n off ∙ same.2 n off) (λ n h. absurd (none n h)))

pub on_none : (who : Who) (d : Digest) (from : Addr) (x y : Mark) (q : ℕ) (r : DialogueRecord) → refused_arrival who d from (PeerRecord.OnAssoc x y q r) ≡ None → find_arc d.arcs from.node ≡ None → ⊥
unfolding refused_arrival
on_none who d from x y q r ok i = absurd (grind (arith, ok, i))

-- an accepted Begin acts
pub begin_acts : (who : Who) (d : Digest) (from : Addr) (x y : Mark) (q : ℕ) (t : Aaid) (b : BranchId) (h : Holder) (a : Arc) → refused_arrival who d from (PeerRecord.OnAssoc x y q (DialogueRecord.Begin t b h)) ≡ None
    → find_arc d.arcs from.node ≡ Some a → (v : Sight) → sight_at who d a (DialogueRecord.Begin t b h) ≡ v → v ≡ Acts
unfolding refused_arrival sight_of
begin_acts who d from x y q t b h a ok i Acts j = refl
begin_acts who d from x y q t b h a ok i Nothing_happens j = absurd (grind (arith, j))
begin_acts who d from x y q t b h a ok i Out_of_phase j = absurd (grind (arith, ok, i, j))

pub begin_wakes : (e : Event) (p : ℕ) (h : Holder) → begun_by_record e ≡ Some (p, h) → wakes e p ≡ true
begin_wakes (Event.Arrive from (PeerRecord.OnAssoc x y q (DialogueRecord.Begin t b k))) p h by =
    let same : from.node ≡ p = ap (λ (o : Option (ℕ × Holder)). elim o as (λ _. ℕ) [ None ↦ from.node | Some v ↦ v.0 ]) by in
    grind (arith, nat_tests, same)
begin_wakes e p h by = absurd (cc (by))

-- where the peer's dialogue is woken
abbrev pub woken_at : ℕ → Digest → Digest
woken_at p d = record d { arcs = with_dialogue d.arcs p woken }

begun_woken : (who : Who) (e : Event) (d : Digest) (t : Aaid) (b : BranchId) (h : Holder) (a : Arc) (R : Digest → Move → Type 0) → Steps who e (record d { current = Some (fresh_current (Under t b a.peer)) }) R
    → begun_by_record e ≡ Some (a.peer.node, h) → R (woken_at a.peer.node (record d { current = Some (fresh_current (Under t b a.peer)) })) (take_begin who a t b h (woken_by (DialogueRecord.Begin t b h) a.peer.node d))
unfolding take_begin
begun_woken who e d t b h a R k by =
    let p : ℕ = a.peer.node in
    let s : Digest = record d { current = Some (fresh_current (Under t b a.peer)) } in
    let u : Digest = woken_at p s in
    let v : Digest = record u { arcs = with_dialogue u.arcs p (begun_by h Side.Subordinate) } in
    let m : Move = take_begin who a t b h (woken_by (DialogueRecord.Begin t b h) p d) in
    let outs : List TxOut = TxOut.Tell (Indication.BeginTransaction p t) ∷ [] in
    let first : Move = perform outs v in
    k.changes_dialogue u p (begun_by h Side.Subordinate) m (By_beginning h by refl)
    (k.chain v first (begin_chained who) (k.speaks v outs refl (λ u h. absurd (cc (h)), λ z r h. absurd h) refl refl) (step_chained who e s R k first.next) (inl refl))

step_begun : (who : Who) (e : Event) (d : Digest) (t : Aaid) (b : BranchId) (h : Holder) (a : Arc) (R : Digest → Move → Type 0) → Steps who e (record d { current = Some (fresh_current (Under t b a.peer)) }) R
    → begun_by_record e ≡ Some (a.peer.node, h) → R (record d { current = Some (fresh_current (Under t b a.peer)) }) (take_begin who a t b h (woken_by (DialogueRecord.Begin t b h) a.peer.node d))
step_begun who e d t b h a R k by =
    k.changes_dialogue (record d { current = Some (fresh_current (Under t b a.peer)) }) a.peer.node woken (take_begin who a t b h (woken_by (DialogueRecord.Begin t b h) a.peer.node d)) (By_waking (begin_wakes e a.peer.node h by) refl)
    (begun_woken who e d t b h a R k by)

-- what holds of the rule of a Begin holds of the record, which acts
on_begin_so : (who : Who) (d : Digest) (from : Addr) (x y : Mark) (q : ℕ) (t : Aaid) (b : BranchId) (h : Holder) (Q : Digest → Move → Type 0) → refused_arrival who d from (PeerRecord.OnAssoc x y q (DialogueRecord.Begin t b h)) ≡ None
    → ((g : Digest) (a : Arc) → find_arc d.arcs from.node ≡ Some a → a.peer.node ≡ from.node → record g { current = Some (fresh_current (Under t b a.peer)) } ≡ begun_in (Some a) t b (counted_in d from)
    → Q (record g { current = Some (fresh_current (Under t b a.peer)) }) (take_begin who a t b h (woken_by (DialogueRecord.Begin t b h) a.peer.node g)))
    → (o : Option Arc) → find_arc d.arcs from.node ≡ o → Q (begun_in o t b (counted_in d from)) (elim o as (λ _. Move) [ None ↦ move [] d | Some a ↦ take_on who a (DialogueRecord.Begin t b h) d ])
on_begin_so who d from x y q t b h Q ok rule None i = absurd (on_none who d from x y q (DialogueRecord.Begin t b h) ok i)
on_begin_so who d from x y q t b h Q ok rule (Some a) i = go (sight_at who d a r) refl
  where
    r : DialogueRecord
    r = DialogueRecord.Begin t b h

    at : a.peer.node ≡ from.node
    at = find_arc_is d.arcs from.node a i

    g : Digest
    g = record d { arcs = with_link d.arcs a.peer.node with_one_taken }

    s : Digest
    s = begun_in (Some a) t b (counted_in d from)

    same : g ≡ counted_in d from
    same = ap (λ (n : ℕ). record d { arcs = with_link d.arcs n with_one_taken }) at

    taken : Q s (take_begin who a t b h (woken_by r a.peer.node g))
    taken =
        let all : record g { current = Some (fresh_current (Under t b a.peer)) } ≡ s = ap (λ (c : Digest). record c { current = Some (fresh_current (Under t b a.peer)) }) same in
        subst (λ (c : Digest). Q c (take_begin who a t b h (woken_by r a.peer.node g))) all (rule g a i at all)

    go : (v : Sight) → sight_at who d a r ≡ v → Q s (take_on who a r d)
    go v j =
        let acts : sight_at who d a r ≡ Acts = j ∙ begin_acts who d from x y q t b h a ok i v j in
        let is : take_on who a r d ≡ take_begin who a t b h (woken_by r a.peer.node g) = ap (λ (w : Sight). elim w as (λ _. Move) [ Acts ↦ take_record who a r (woken_by r a.peer.node g) | Nothing_happens ↦ move [] (woken_by r a.peer.node g) | Out_of_phase ↦ move [] (woken_by r a.peer.node g) ]) acts in
        subst (λ (m : Move). Q s m) (sym is) taken

-- the steps from where the prelude left the node
begin_steps : (who : Who) (d : Digest) (from : Addr) (x y : Mark) (q : ℕ) (t : Aaid) (b : BranchId) (h : Holder) (R : Digest → Move → Type 0)
    → Steps who (the from x y q (DialogueRecord.Begin t b h)) (prelude who d (the from x y q (DialogueRecord.Begin t b h))) R → (g : Digest) (a : Arc) → find_arc d.arcs from.node ≡ Some a
    → record g { current = Some (fresh_current (Under t b a.peer)) } ≡ begun_in (Some a) t b (counted_in d from)
    → Steps who (the from x y q (DialogueRecord.Begin t b h)) (record g { current = Some (fresh_current (Under t b a.peer)) }) R
begin_steps who d from x y q t b h R k g a i all =
    let one : Steps who (the from x y q (DialogueRecord.Begin t b h)) (begun_in (Some a) t b (counted_in d from)) R = subst (λ (o : Option Arc). Steps who (the from x y q (DialogueRecord.Begin t b h)) (begun_in o t b (counted_in d from)) R) i k in
    subst (λ (c : Digest). Steps who (the from x y q (DialogueRecord.Begin t b h)) c R) (sym all) one

pub step_on_begin : (who : Who) (d : Digest) (from : Addr) (x y : Mark) (q : ℕ) (t : Aaid) (b : BranchId) (h : Holder) (R : Digest → Move → Type 0)
    → Steps who (the from x y q (DialogueRecord.Begin t b h)) (prelude who d (the from x y q (DialogueRecord.Begin t b h))) R
    → refused_arrival who d from (PeerRecord.OnAssoc x y q (DialogueRecord.Begin t b h)) ≡ None → (o : Option Arc) → find_arc d.arcs from.node ≡ o
    → R (begun_in o t b (counted_in d from)) (elim o as (λ _. Move) [ None ↦ move [] d | Some a ↦ take_on who a (DialogueRecord.Begin t b h) d ])
step_on_begin who d from x y q t b h R k ok =
    on_begin_so who d from x y q t b h R ok
    (λ g a i at all. step_begun who (the from x y q (DialogueRecord.Begin t b h)) g t b h a R (begin_steps who d from x y q t b h R k g a i all) (ap (λ (n : ℕ). Some (n, h)) (sym at)))

-- and from where the dialogue is woken
pub woken_on_begin : (who : Who) (d : Digest) (from : Addr) (x y : Mark) (q : ℕ) (t : Aaid) (b : BranchId) (h : Holder) (R : Digest → Move → Type 0)
    → Steps who (the from x y q (DialogueRecord.Begin t b h)) (prelude who d (the from x y q (DialogueRecord.Begin t b h))) R
    → refused_arrival who d from (PeerRecord.OnAssoc x y q (DialogueRecord.Begin t b h)) ≡ None → (o : Option Arc) → find_arc d.arcs from.node ≡ o
    → R (woken_at from.node (begun_in o t b (counted_in d from))) (elim o as (λ _. Move) [ None ↦ move [] d | Some a ↦ take_on who a (DialogueRecord.Begin t b h) d ])
woken_on_begin who d from x y q t b h R k ok =
    on_begin_so who d from x y q t b h (λ c m. R (woken_at from.node c) m) ok
    (λ g a i at all. subst (λ (n : ℕ). R (woken_at n (record g { current = Some (fresh_current (Under t b a.peer)) })) (take_begin who a t b h (woken_by (DialogueRecord.Begin t b h) a.peer.node g))) at
    (begun_woken who (the from x y q (DialogueRecord.Begin t b h)) g t b h a R (begin_steps who d from x y q t b h R k g a i all) (ap (λ (n : ℕ). Some (n, h)) (sym at))))

-- what is heard on one arc puts nothing off on another
heard_off : (h : Heard) (x : Dialogue) → is_deferred_by h ≡ false → is_end_deferred (heard h x).deferral ≡ is_end_deferred x.deferral
unfolding heard
heard_off Hear_defer_end x i = absurd (cc (i))
heard_off Hear_defer_grant x i = absurd (cc (i))
heard_off h x i = grind (arith, i)

pub cleared_off : (x : Dialogue) → is_end_deferred (cleared x).deferral ≡ is_end_deferred x.deferral
unfolding cleared
cleared_off x = refl

heard_aside : (e : Event) (arcs : List Arc) (q : ℕ) (h : Heard) → heard_by e ≡ Some (q, h) → (p : ℕ) → (puts_off_at e p || closes_at e p) ≡ false → is_end_deferred_at (with_dialogue arcs q (heard h)) p ≡ is_end_deferred_at arcs p
heard_aside e arcs q h by p off =
    let mine : ((q == p) && is_deferred_by h) ≡ false = ap (λ (o : Option (ℕ × Heard)). elim o as (λ _. Bool) [ None ↦ false | Some v ↦ (v.0 == p) && is_deferred_by v.1 ]) (sym by) ∙ first_of _ _ _ off in
    ends_dialogue arcs q (heard h) p (λ x at. heard_off h x (second_of (q == p) (is_deferred_by h) mine at))
  where
    first_of : (x y z : Bool) → ((x || y) || z) ≡ false → y ≡ false
    first_of x y z h = grind (arith, h)

    second_of : (x y : Bool) → (x && y) ≡ false → x ≡ true → y ≡ false
    second_of x y h i = grind (arith, h, i)

step_taken : (who : Who) (from : Addr) (x y : Mark) (q : ℕ) (r : DialogueRecord) (s : Digest) (R : Digest → Move → Type 0) → Steps who (the from x y q r) s R → IsLate s
    → (a : Arc) → a.peer.node ≡ from.node → ((t : Aaid) (b : BranchId) (h : Holder) → r ≡ DialogueRecord.Begin t b h → ⊥)
    → (d : Digest) → IsLike (the from x y q r) d s → (r ≡ DialogueRecord.DeferEnd → may_put_off d a.peer.node ≡ true) → R d (take_record who a r d)
step_taken who from x y q DialogueRecord.EndDialogue s R k late a at begins d same off = k.speaks d (TxOut.Tell (Indication.EndDialogue a.peer.node) ∷ TxOut.Close a.peer.node ∷ []) refl (λ u h. absurd (cc (h)), λ z r h. absurd h) (rw (comes from a.peer.node at) refl) refl
step_taken who from x y q (DialogueRecord.UserData xs) s R k late a at begins d same off = step_hear who _ s R k a.peer.node Hear_data (Indication.UserData a.peer.node xs) d refl (ap (λ (n : ℕ). Some (n, Hear_data)) (sym at)) (λ i. cc (i))
step_taken who from x y q DialogueRecord.UError s R k late a at begins d same off = step_hear who _ s R k a.peer.node Hear_error (Indication.UError a.peer.node) d refl (ap (λ (n : ℕ). Some (n, Hear_error)) (sym at)) (λ i. cc (i))
step_taken who from x y q DialogueRecord.UAbort s R k late a at begins d same off = step_abort_taken who from x y q s R k late a.peer.node at d same
step_taken who from x y q DialogueRecord.Grant s R k late a at begins d same off = step_hear who _ s R k a.peer.node Hear_grant (Indication.Grant a.peer.node) d refl (ap (λ (n : ℕ). Some (n, Hear_grant)) (sym at)) (λ i. cc (i))
step_taken who from x y q DialogueRecord.AskControl s R k late a at begins d same off = step_hear who _ s R k a.peer.node Hear_control (Indication.AskControl a.peer.node) d refl (ap (λ (n : ℕ). Some (n, Hear_control)) (sym at)) (λ i. cc (i))
step_taken who from x y q DialogueRecord.Handshake s R k late a at begins d same off = step_hear who _ s R k a.peer.node Hear_handshake (Indication.Handshake a.peer.node) d refl (ap (λ (n : ℕ). Some (n, Hear_handshake)) (sym at)) (λ i. cc (i))
step_taken who from x y q DialogueRecord.HandshakeGrant s R k late a at begins d same off = step_hear who _ s R k a.peer.node Hear_handshake_grant (Indication.HandshakeGrant a.peer.node) d refl (ap (λ (n : ℕ). Some (n, Hear_handshake_grant)) (sym at)) (λ i. cc (i))
step_taken who from x y q DialogueRecord.Response s R k late a at begins d same off = step_hear who _ s R k a.peer.node Hear_response (Indication.HandshakeConfirm a.peer.node) d refl (ap (λ (n : ℕ). Some (n, Hear_response)) (sym at)) (λ i. cc (i))
step_taken who from x y q DialogueRecord.DeferEnd s R k late a at begins d same off = step_deferred who from x y q DialogueRecord.DeferEnd s R k late a.peer.node at (heard Hear_defer_end) d same (heard_aside (the from x y q DialogueRecord.DeferEnd) d.arcs a.peer.node Hear_defer_end (ap (λ (n : ℕ). Some (n, Hear_defer_end)) (sym at))) (λ n i. absurd (cc (i))) (By_hearing Hear_defer_end (ap (λ (n : ℕ). Some (n, Hear_defer_end)) (sym at)) refl (λ i. off refl))
step_taken who from x y q DialogueRecord.DeferGrant s R k late a at begins d same off = step_deferred who from x y q DialogueRecord.DeferGrant s R k late a.peer.node at (heard Hear_defer_grant) d same (heard_aside (the from x y q DialogueRecord.DeferGrant) d.arcs a.peer.node Hear_defer_grant (ap (λ (n : ℕ). Some (n, Hear_defer_grant)) (sym at))) (λ n i. absurd (cc (i))) (By_hearing Hear_defer_grant (ap (λ (n : ℕ). Some (n, Hear_defer_grant)) (sym at)) refl (λ i. cc (i)))
step_taken who from x y q (DialogueRecord.Begin t b h) s R k late a at begins d same off = absurd (begins t b h refl)
step_taken who from x y q DialogueRecord.Left s R k late a at begins d same off = step_deferred who from x y q DialogueRecord.Left s R k late a.peer.node at cleared d same (λ n off. ends_dialogue d.arcs a.peer.node cleared n (λ z i. cleared_off z)) (λ n i. absurd (cc (i))) (By_leaving (ap (λ (n : ℕ). Some n) (sym at)) refl)
step_taken who from x y q DialogueRecord.LeftEnd s R k late a at begins d same off = step_deferred who from x y q DialogueRecord.LeftEnd s R k late a.peer.node at cleared d same (λ n off. ends_dialogue d.arcs a.peer.node cleared n (λ z i. cleared_off z)) (λ n i. absurd (cc (i))) (By_leaving (ap (λ (n : ℕ). Some n) (sym at)) refl)
step_taken who from x y q DialogueRecord.Prepare s R k late a at begins d same off = step_took who from x y q DialogueRecord.Prepare s R k late a.peer.node at d same (λ n i. absurd (cc (i)))
step_taken who from x y q DialogueRecord.Ready s R k late a at begins d same off = step_took who from x y q DialogueRecord.Ready s R k late a.peer.node at d same (λ n i. absurd (cc (i)))
step_taken who from x y q DialogueRecord.Commit s R k late a at begins d same off = step_took who from x y q DialogueRecord.Commit s R k late a.peer.node at d same (λ n i. absurd (cc (i)))
step_taken who from x y q (DialogueRecord.Done r) s R k late a at begins d same off = step_took who from x y q (DialogueRecord.Done r) s R k late a.peer.node at d same (λ n i. absurd (cc (i)))
step_taken who from x y q DialogueRecord.Rollback s R k late a at begins d same off = step_took who from x y q DialogueRecord.Rollback s R k late a.peer.node at d same (λ n i. absurd (cc (i)))
step_taken who from x y q (DialogueRecord.RolledBack r) s R k late a at begins d same off = step_took who from x y q (DialogueRecord.RolledBack r) s R k late a.peer.node at d same (λ n i. absurd (cc (i)))

pub woken_off : (x : Dialogue) → is_end_deferred (woken x).deferral ≡ is_end_deferred x.deferral
unfolding woken
woken_off x = refl

pub woken_current : (e : Event) (r : DialogueRecord) (p : ℕ) (d : Digest) → IsLike e (woken_by r p d) d
woken_current e r p d = (grind arith, grind arith, λ n off. go n (is_response r))
  where
    go : (n : ℕ) (b : Bool) → is_end_deferred_at (if b then d else record d { arcs = with_dialogue d.arcs p woken }).arcs n ≡ is_end_deferred_at d.arcs n
    go n true = refl
    go n false = ends_dialogue d.arcs p woken n (λ x i. woken_off x)

-- a record that is no response wakes its arc
woken_step : (who : Who) (e : Event) (s : Digest) (R : Digest → Move → Type 0) → Steps who e s R → (r : DialogueRecord) (p : ℕ) → (is_response r ≡ false → wakes e p ≡ true) → (d : Digest) (m : Move) → R (woken_by r p d) m → R d m
woken_step who e s R k r p wake d m one = go (is_response r) refl
  where
    go : (b : Bool) → is_response r ≡ b → R d m
    go true i = let same : woken_by r p d ≡ d = rw i refl in subst (λ (u : Digest). R u m) same one
    go false i =
        let same : woken_by r p d ≡ record d { arcs = with_dialogue d.arcs p woken } = rw i refl in
        k.changes_dialogue d p woken m (By_waking (wake i) refl) (subst (λ (u : Digest). R u m) same one)

-- the superior defers an end of an active transaction
pub end_heard : (who : Who) (d : Digest) (a : Arc) → sight_at who d a DialogueRecord.DeferEnd ≡ Acts → is_active (phase_of d) ≡ true
unfolding sight_of arrived situation_of
end_heard who d a acts = go d.current refl
  where
    phase : (c : Current) → d.current ≡ Some c → (q : Phase) → c.phase ≡ q → is_active (phase_of d) ≡ true
    phase c i Phase.Active j = rw (i, phase_of) (ap is_active j)
    phase c i q j = absurd (grind (arith, acts, i, j))

    go : (o : Option Current) → d.current ≡ o → is_active (phase_of d) ≡ true
    go None i = absurd (grind (arith, acts, i))
    go (Some c) i = phase c i c.phase refl

-- a record is taken on a live arc
pub on_live : (who : Who) (d : Digest) (from : Addr) (x y : Mark) (q : ℕ) (r : DialogueRecord) → refused_arrival who d from (PeerRecord.OnAssoc x y q r) ≡ None → is_live_with_peer d.arcs from.node ≡ true
unfolding refused_arrival
on_live who d from x y q r ok = go (find_arc d.arcs from.node) refl
  where
    on : (a : Arc) (l : Link) → find_arc d.arcs from.node ≡ Some a → a.link ≡ l → is_live_with_peer d.arcs from.node ≡ true
    on a (Live z w s t) i j = grind (arith, i, j)
    on a l i j = absurd (grind (arith, ok, i, j))

    go : (o : Option Arc) → find_arc d.arcs from.node ≡ o → is_live_with_peer d.arcs from.node ≡ true
    go None i = absurd (grind (arith, ok, i))
    go (Some a) i = on a a.link i refl

-- it is counted first, and wakes the arc
still_put_off : (d : Digest) (p : ℕ) → is_live_with_peer d.arcs p ≡ true → is_active (phase_of d) ≡ true → may_put_off (woken_by DialogueRecord.DeferEnd p (record d { arcs = with_link d.arcs p with_one_taken })) p ≡ true
still_put_off d p live active = ap (λ (b : Bool). b && is_active (phase_of d)) ((counted_alike d.arcs p p).live ∙ live) ∙ active

-- it acts on a woken arc on which an end may be deferred
put_off_there : (who : Who) (d : Digest) (from : Addr) (r : DialogueRecord) (a : Arc) → a.peer.node ≡ from.node → is_live_with_peer d.arcs from.node ≡ true → sight_at who d a r ≡ Acts → r ≡ DialogueRecord.DeferEnd
    → may_put_off (woken_by r a.peer.node (record d { arcs = with_link d.arcs a.peer.node with_one_taken })) a.peer.node ≡ true
put_off_there who d from r a at live acts is =
    let g : Digest = record d { arcs = with_link d.arcs a.peer.node with_one_taken } in
    let heard : sight_at who d a DialogueRecord.DeferEnd ≡ Acts = subst (λ (w : DialogueRecord). sight_at who d a w ≡ Acts) is acts in
    subst (λ (w : DialogueRecord). may_put_off (woken_by w a.peer.node g) a.peer.node ≡ true) (sym is) (still_put_off d a.peer.node (ap (is_live_with_peer d.arcs) at ∙ live) (end_heard who d a heard))

like_counted : (from : Addr) (x y : Mark) (q : ℕ) (r : DialogueRecord) (d : Digest) (p : ℕ) → p ≡ from.node → IsLike (the from x y q r) (woken_by r p (record d { arcs = with_link d.arcs p with_one_taken })) (counted_in d from)
like_counted from x y q r d p at =
    let w = woken_current (the from x y q r) r p (record d { arcs = with_link d.arcs p with_one_taken }) in
    (w.0, w.1, λ n off. w.2 n off ∙ ap (λ (k : ℕ). is_end_deferred_at (with_link d.arcs k with_one_taken) n) at)

step_on : (who : Who) (d : Digest) (from : Addr) (x y : Mark) (q : ℕ) (r : DialogueRecord) (R : Digest → Move → Type 0) → Steps who (the from x y q r) (counted_in d from) R → IsLate d
    → ((t : Aaid) (b : BranchId) (h : Holder) → r ≡ DialogueRecord.Begin t b h → ⊥) → (a : Arc) → a.peer.node ≡ from.node → is_live_with_peer d.arcs from.node ≡ true → R (counted_in d from) (take_on who a r d)
step_on who d from x y q r R k late other a at live =
    subst (λ (n : ℕ). R (record d { arcs = with_link d.arcs n with_one_taken }) (take_on who a r d)) at
    (woken_step who _ _ R k r p wake g (take_on who a r d) (on (sight_at who d a r) refl))
  where
    p : ℕ
    p = a.peer.node

    wake : is_response r ≡ false → wakes (the from x y q r) p ≡ true
    wake i = grind (arith, nat_tests, at, i)

    g : Digest
    g = record d { arcs = with_link d.arcs p with_one_taken }

    u : Digest
    u = woken_by r p g

    on : (v : Sight) → sight_at who d a r ≡ v → R u (elim v as (λ _. Move) [ Acts ↦ take_record who a r u | Nothing_happens ↦ move [] u | Out_of_phase ↦ move [] u ])
    on Acts i = step_taken who from x y q r (counted_in d from) R k late a at other u (like_counted from x y q r d p at) (put_off_there who d from r a at live i)
    on Nothing_happens i = k.still u
    on Out_of_phase i = k.still u

pub step_on_other : (who : Who) (d : Digest) (from : Addr) (x y : Mark) (q : ℕ) (r : DialogueRecord) (R : Digest → Move → Type 0) → Steps who (the from x y q r) (counted_in d from) R → IsLate d
    → ((t : Aaid) (b : BranchId) (h : Holder) → r ≡ DialogueRecord.Begin t b h → ⊥) → refused_arrival who d from (PeerRecord.OnAssoc x y q r) ≡ None
    → R (counted_in d from) (elim (find_arc d.arcs from.node) as (λ _. Move) [ None ↦ move [] d | Some a ↦ take_on who a r d ])
step_on_other who d from x y q r R k late other ok = go (find_arc d.arcs from.node) refl
  where
    go : (o : Option Arc) → find_arc d.arcs from.node ≡ o → R (counted_in d from) (elim o as (λ _. Move) [ None ↦ move [] d | Some a ↦ take_on who a r d ])
    go None i = absurd (on_none who d from x y q r ok i)
    go (Some a) i = step_on who d from x y q r R k late other a (find_arc_is d.arcs from.node a i) (on_live who d from x y q r ok)

-- from where the dialogue is woken, of a record that is no response and no Begin
pub woken_on_other : (who : Who) (d : Digest) (from : Addr) (x y : Mark) (q : ℕ) (r : DialogueRecord) (R : Digest → Move → Type 0) → Steps who (the from x y q r) (counted_in d from) R → IsLate d
    → ((t : Aaid) (b : BranchId) (h : Holder) → r ≡ DialogueRecord.Begin t b h → ⊥) → is_response r ≡ false → refused_arrival who d from (PeerRecord.OnAssoc x y q r) ≡ None
    → R (woken_at from.node (counted_in d from)) (elim (find_arc d.arcs from.node) as (λ _. Move) [ None ↦ move [] d | Some a ↦ take_on who a r d ])
woken_on_other who d from x y q r R k late other plain ok = go (find_arc d.arcs from.node) refl
  where
    on : (a : Arc) → a.peer.node ≡ from.node → (u : Digest) → IsLike (the from x y q r) u (counted_in d from) → (v : Sight) → (v ≡ Acts → r ≡ DialogueRecord.DeferEnd → may_put_off u a.peer.node ≡ true)
        → R u (elim v as (λ _. Move) [ Acts ↦ take_record who a r u | Nothing_happens ↦ move [] u | Out_of_phase ↦ move [] u ])
    on a at u same Acts off = step_taken who from x y q r (counted_in d from) R k late a at other u same (off refl)
    on a at u same Nothing_happens off = k.still u
    on a at u same Out_of_phase off = k.still u

    taken : (a : Arc) → a.peer.node ≡ from.node → R (woken_at a.peer.node (record d { arcs = with_link d.arcs a.peer.node with_one_taken })) (take_on who a r d)
    taken a at =
        let g : Digest = record d { arcs = with_link d.arcs a.peer.node with_one_taken } in
        let same : woken_by r a.peer.node g ≡ woken_at a.peer.node g = rw (plain, woken_by) refl in
        subst (λ (u : Digest). R u (take_on who a r d)) same (on a at (woken_by r a.peer.node g) (like_counted from x y q r d a.peer.node at) (sight_at who d a r) (put_off_there who d from r a at (on_live who d from x y q r ok)))

    go : (o : Option Arc) → find_arc d.arcs from.node ≡ o → R (woken_at from.node (counted_in d from)) (elim o as (λ _. Move) [ None ↦ move [] d | Some a ↦ take_on who a r d ])
    go None i = absurd (on_none who d from x y q r ok i)
    go (Some a) i =
        let at : a.peer.node ≡ from.node = find_arc_is d.arcs from.node a i in
        subst (λ (n : ℕ). R (woken_at n (record d { arcs = with_link d.arcs n with_one_taken })) (take_on who a r d)) at (taken a at)
