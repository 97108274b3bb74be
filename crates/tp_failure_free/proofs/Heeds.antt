-- What a node takes of a transaction it heeds, as long as the transaction is current: in every legal history without a failure.
use Rattle.std.proofs.Common.{if◌then◌else◌, ◌≡◌, ◌⊎◌, inl, inr, ℕ, Bool, true, false, refl, ap, sym, subst, ◌∙◌, arith, Option, Some, None, List, [], ◌∷◌, ◌&&◌, ◌||◌, ◌==◌, not}
use Rattle.std.proofs.lemmas.Bool.Decides.{nat_tests}
use Rattle.tp_names.specs.declared.identifiers.Mark.{Mark}
use Rattle.tp_names.specs.declared.identifiers.Addr.{Addr}
use Rattle.tp_names.specs.declared.identifiers.Aaid.{Aaid}
use Rattle.tp_names.specs.declared.outcome.Report.{Report}
use Rattle.tp_names.specs.Same.{is_aaid}
use Rattle.tp_records.specs.declared.dialogue.DialogueRecord.{DialogueRecord}
use Rattle.tp_records.specs.declared.peer.PeerRecord.{PeerRecord}
use Rattle.tp_model.specs.declared.arc.Phase.{Phase}
use Rattle.tp_model.specs.declared.transaction.TxEvent.{TxEvent}
use Rattle.tp_model.specs.Parts.{Who, Origin, Event, Entry, Arc, Key, Branch, Current, Digest}
use Rattle.tp_model.specs.Dialogues.{is_nil, is_active, is_ready, is_committing, is_rolling, Sight, Acts, Nothing_happens, Out_of_phase}
use Rattle.tp_model.specs.Arcs.{find_arc}
use Rattle.tp_model.specs.Transactions.{Transaction, aaid_of, is_under_at, row_holds, sight_of_tx, out_of_phase, refused_tx, transacted}
use Rattle.tp_model.specs.Requests.{has_branch_at}
use Rattle.tp_model.specs.Node.{Move, seen_rows, seen, branches_of, remaining, passage, is_leaving, is_over, passed, transact}
use Rattle.tp_model.specs.Arrivals.{sight_at, sight_of, refused_arrival}
use Rattle.tp_model.specs.Events.{refusal}
use Rattle.tp_model.specs.History.{digest, records}
use Rattle.tp_model.specs.Outcomes.{is_now, decided, rolled}
use Rattle.tp_model.specs.Questions.{heard_from, is_record}
use Rattle.tp_histories.specs.Members.{is_known}
use Rattle.tp_steps.specs.Moves.{IsPut}
use Rattle.tp_steps.specs.Facts.{find_branch, is_order}
use Rattle.tp_steps.specs.Passages.{IsPassed}
use Rattle.tp_steps.specs.Heeding.{is_answer, has_answered, has_ended}
use Rattle.tp_steps.specs.Puts.{Put, counted_arcs, put_by_record, put_on, put_by, IsPutTo}
use Rattle.tp_failure_free.specs.Drained.{branch_is, took_in, is_done, IsUnfailed, HeedsReady, HeedsCommit, HeedsDone}
use Rattle.tp_steps.proofs.every.EveryEvent.{plain_arrival}
use Rattle.tp_steps.proofs.every.EveryRecord.{find_arc_is}
use Rattle.tp_steps.proofs.lemmas.Equality.{or_case, and_left, and_right}
use Rattle.tp_steps.proofs.branches.Rolls.{phase_at}
use Rattle.tp_steps.proofs.lemmas.Words.{commit_more}
use Rattle.tp_histories.proofs.trees.Knowing.{known_more, now_known}
use Rattle.tp_histories.proofs.worlds.TreeMembers.{now_then}
use Rattle.tp_histories.proofs.trees.Fated.{fated_law}
use Rattle.tp_steps.proofs.branches.Heeding.{heeding_event}
use Rattle.tp_failure_free.proofs.LiveLaw.{mild_put, legal_of, unfailed_before, mild_entry, among_of}
use Rattle.tp_histories.proofs.order.InOrderLaw.{empty_apart}
use Rattle.tp_histories.proofs.order.PutLaw.{put_law}
use Rattle.tp_steps.proofs.log.Passed.{passed_turn}
use Rattle.tp_failure_free.proofs.AfterEvent.{IsAfter, Untouched, Was_put, after_event, holds_after, found_holds, stays_counted, stays_ended, transact_forward, others_current}
use Rattle.tp_histories.proofs.trees.Fallen.{arrived_some}
use Rattle.tp_steps.proofs.words.Treed.{now_some}
use Rattle.tp_control.proofs.LedEvents.{seen_holds}

-- ---- what a record is to the transaction, when it is accepted

-- it is not out of phase
taken_sight : (who : Who) (d : Digest) (from : Addr) (y z : Mark) (q : ℕ) (w : DialogueRecord) (a : Arc) → refusal who d (Event.Arrive from (PeerRecord.OnAssoc y z q w)) ≡ None → find_arc d.arcs from.node ≡ Some a → out_of_phase (sight_at who d a w) ≡ None
unfolding refused_arrival
taken_sight who d from y z q w a ok i = let plain = plain_arrival who d from (PeerRecord.OnAssoc y z q w) ok in grind (arith, plain, i)

-- what is asked of rows, at any arcs
rows_either : (xs ys : List Arc) (bs : List Branch) (p : ℕ) (f : Branch → Bool) → row_holds (seen_rows xs bs) p f ≡ row_holds (seen_rows ys bs) p f
rows_either xs ys bs p f = seen_holds xs bs p f ∙ sym (seen_holds ys bs p f)

answer_either : (who : Who) (xs ys : List Arc) (c : Current) (p : ℕ) (w : DialogueRecord) → is_answer w ≡ true → sight_of_tx (seen who xs c) p w ≡ sight_of_tx (seen who ys c) p w
unfolding sight_of_tx
answer_either who xs ys c p DialogueRecord.Ready is = let same = rows_either xs ys c.branches p (λ b. b.prepared && not b.counted) in grind (arith, same)
answer_either who xs ys c p DialogueRecord.Left is = let same = rows_either xs ys c.branches p (λ b. is_active c.phase && b.prepared && not b.counted && not b.left || is_rolling c.phase && not b.ended && not b.left) in grind (arith, same)
answer_either who xs ys c p DialogueRecord.LeftEnd is = let same = rows_either xs ys c.branches p (λ b. is_active c.phase && b.prepared && not b.counted && not b.left || is_rolling c.phase && not b.ended && not b.left) in grind (arith, same)
answer_either who xs ys c p w is = absurd (cc (is))

-- an answer acts, where nothing rolls
answer_acts : (who : Who) (d : Digest) (a : Arc) (c : Current) (w : DialogueRecord) → is_answer w ≡ true → d.current ≡ Some c → is_rolling c.phase ≡ false → out_of_phase (sight_at who d a w) ≡ None
    → (sight_at who d a w ≡ Acts) × (sight_of_tx (seen who d.arcs c) a.peer.node w ≡ Acts)
unfolding sight_of sight_of_tx
answer_acts who d a c DialogueRecord.Ready is i still ok = (grind (arith, i, still, ok), grind (arith, i, still, ok))
answer_acts who d a c DialogueRecord.Left is i still ok = (grind (arith, i, still, ok), grind (arith, i, still, ok))
answer_acts who d a c DialogueRecord.LeftEnd is i still ok = (grind (arith, i, still, ok), grind (arith, i, still, ok))
answer_acts who d a c w is i still ok = absurd (cc (is))

-- an order of the superior in active or ready
order_acts : (who : Who) (d : Digest) (a : Arc) (c : Current) → d.current ≡ Some c → is_under_at c.key a.peer.node ≡ true → (is_active c.phase || is_ready c.phase) ≡ true → out_of_phase (sight_at who d a DialogueRecord.Commit) ≡ None
    → (sight_at who d a DialogueRecord.Commit ≡ Acts) × (sight_of_tx (seen who d.arcs c) a.peer.node DialogueRecord.Commit ≡ Acts)
unfolding sight_of sight_of_tx
order_acts who d a c i under early ok = (grind (arith, i, under, early, ok), grind (arith, i, under, early, ok))

order_ready : (who : Who) (xs ys : List Arc) (c : Current) (p : ℕ) → is_under_at c.key p ≡ true → (is_active c.phase || is_ready c.phase) ≡ true → sight_of_tx (seen who xs c) p DialogueRecord.Commit ≡ Acts → refused_tx (TxEvent.Took p DialogueRecord.Commit) (seen who ys c) ≡ None
unfolding refused_tx sight_of_tx
order_ready who xs ys c p under early acts = grind (arith, acts, under, early)

-- a Done in committing
done_is : (who : Who) (d : Digest) (a : Arc) (c : Current) (r : Report) → d.current ≡ Some c → is_committing c.phase ≡ true → out_of_phase (sight_at who d a (DialogueRecord.Done r)) ≡ None → (b : Bool) → row_holds (seen_rows d.arcs c.branches) a.peer.node (λ x. not x.ended && not x.left) ≡ b
    → sight_at who d a (DialogueRecord.Done r) ≡ (if b then Acts else Nothing_happens)
unfolding sight_of sight_of_tx
done_is who d a c r i late ok true rows = grind (arith, i, late, ok, rows)
done_is who d a c r i late ok false rows = grind (arith, i, late, ok, rows)

-- ---- what the event of an entry takes

pub record Hears (e : Event) (p : ℕ) (w : DialogueRecord) : Type 0 where
  from : Addr
  y : Mark
  z : Mark
  q : ℕ
  is : e ≡ Event.Arrive from (PeerRecord.OnAssoc y z q w)
  at : from.node ≡ p

hears : (e : Event) (p : ℕ) (w : DialogueRecord) → heard_from p e ≡ Some w → Hears e p w
hears (Event.Arrive from (PeerRecord.OnAssoc y z q r)) p w h = go (from.node == p) refl h
  where
    go : (b : Bool) → (from.node == p) ≡ b → (if b then Some r else None) ≡ Some w → Hears (Event.Arrive from (PeerRecord.OnAssoc y z q r)) p w
    go false i h = absurd (cc (h))
    go true i h = let same : r ≡ w = cc (h) in record { from = from; y = y; z = z; q = q; is = ap (λ (v : DialogueRecord). Event.Arrive from (PeerRecord.OnAssoc y z q v)) same; at = grind (arith, nat_tests, i) }
hears e p w h = absurd (cc (h))

-- the arc that it comes on
abbrev pub Comes : Who → Digest → Event → ℕ → DialogueRecord → Type 0
Comes who d e p w =
    (a : Arc) × (a.peer.node ≡ p) × (out_of_phase (sight_at who d a w) ≡ None) × ((s : Sight) → sight_at who d a w ≡ s → put_by who d e ≡ elim s as (λ _. Option Put) [ Acts ↦ put_by_record a.peer.node (counted_arcs d.arcs a.peer.node) w | Nothing_happens ↦ None | Out_of_phase ↦ None ])

comes : (who : Who) (d : Digest) (e : Event) (p : ℕ) (w : DialogueRecord) → refusal who d e ≡ None → Hears e p w → Comes who d e p w
comes who d e p w ok k = subst (λ (v : Event). Comes who d v p w) (sym k.is) (go (find_arc d.arcs k.from.node) refl)
  where
    v : Event
    v = Event.Arrive k.from (PeerRecord.OnAssoc k.y k.z k.q w)

    fine : refusal who d v ≡ None
    fine = ap (refusal who d) (sym k.is) ∙ ok

    go : (o : Option Arc) → find_arc d.arcs k.from.node ≡ o → Comes who d v p w
    go None i = absurd (arrived_some who d k.from k.y k.z k.q w fine i)
    go (Some a) i = (
      a,
      find_arc_is d.arcs k.from.node a i ∙ k.at,
      taken_sight who d k.from k.y k.z k.q w a fine i,
      λ s j. ap (λ (o : Option Arc). elim o as (λ _. Option Put) [ None ↦ None | Some x ↦ put_on who d x w ]) i ∙ ap (λ (x : Sight). elim x as (λ _. Option Put) [ Acts ↦ put_by_record a.peer.node (counted_arcs d.arcs a.peer.node) w | Nothing_happens ↦ None | Out_of_phase ↦ None ]) j,
    )

-- of what is put, the event is the record's
abbrev is_put_word : DialogueRecord → Bool
is_put_word w = is_answer w || is_order w || is_done w

put_word : (p : ℕ) (arcs : List Arc) (w : DialogueRecord) → is_put_word w ≡ true → (later : List Arc) × (put_by_record p arcs w ≡ Some (record { event = TxEvent.Took p w; arcs = later }))
put_word p arcs DialogueRecord.Ready h = (_, refl)
put_word p arcs DialogueRecord.Left h = (_, refl)
put_word p arcs DialogueRecord.LeftEnd h = (_, refl)
put_word p arcs DialogueRecord.Commit h = (_, refl)
put_word p arcs (DialogueRecord.Done r) h = (_, refl)
put_word p arcs w h = absurd (cc (h))

event_of : (x : Put) (f : TxEvent) (arcs : List Arc) → Some (record { event = f; arcs = arcs }) ≡ Some x → f ≡ x.event
event_of x f arcs h = let same : ◌≡◌ {A = Put} (record { event = f; arcs = arcs }) x = cc (h) in ap (λ (y : Put). y.event) same

acts_not_refused : (t : Transaction) (p : ℕ) (w : DialogueRecord) → sight_of_tx t p w ≡ Acts → refused_tx (TxEvent.Took p w) t ≡ None
unfolding refused_tx
acts_not_refused t p w h = ap out_of_phase h

-- ---- trees

some_current : (v : Option Current) (g : Current → Bool) → elim v as (λ _. Bool) [ None ↦ false | Some c ↦ g c ] ≡ true → (c : Current) × (v ≡ Some c) × (g c ≡ true)
some_current None g h = absurd (cc (h))
some_current (Some c) g h = (c, refl, h)

-- where something was taken of the tree, it is known
took_known : (o : Origin) (up : Option Addr) (h : List Entry) (t : Aaid) (g : Current → Bool) (f : DialogueRecord → Bool) (p : ℕ) → ((c : Current) → g c ≡ true → is_aaid t (aaid_of c.key) ≡ true) → IsUnfailed t o up h → took_in g f o p h ≡ true → is_known o t h ≡ true
took_known o up [] t g f p tree k took = absurd (cc (took))
took_known o up (e ∷ h) t g f p tree k took = go (or_case new (took_in g f o p h) took) (took_known o up h t g f p tree (unfailed_before t o up e h k).1)
  where
    new : Bool
    new = elim (digest o h).current as (λ _. Bool) [ None ↦ false | Some c ↦ g c ] && is_record f (heard_from p e.event)

    go : (new ≡ true) ⊎ (took_in g f o p h ≡ true) → (took_in g f o p h ≡ true → is_known o t h ≡ true) → is_known o t (e ∷ h) ≡ true
    go (inr j) rest = known_more o up e h t k.grown (rest j)
    go (inl j) rest =
        let at = some_current (digest o h).current g (and_left (elim (digest o h).current as (λ _. Bool) [ None ↦ false | Some c ↦ g c ]) (is_record f (heard_from p e.event)) j) in
        known_more o up e h t k.grown (now_known o up h t k.fresh k.grown.3 (ap (is_now t) at.1 ∙ tree at.0 at.2))

-- so it was current before the entry, where it is after it
took_before : (o : Origin) (up : Option Addr) (e : Entry) (h : List Entry) (t : Aaid) (g : Current → Bool) (f : DialogueRecord → Bool) (p : ℕ) (u : Current) → ((c : Current) → g c ≡ true → is_aaid t (aaid_of c.key) ≡ true) → IsUnfailed t o up (e ∷ h)
    → took_in g f o p h ≡ true → (digest o (e ∷ h)).current ≡ Some u → is_aaid t (aaid_of u.key) ≡ true → (c : Current) × ((digest o h).current ≡ Some c) × (is_aaid t (aaid_of c.key) ≡ true)
took_before o up e h t g f p u tree k took now same =
    now_some t (digest o h).current
    (now_then o up e h t k.fresh k.grown k.once (took_known o up h t g f p tree (unfailed_before t o up e h k).1 took) (ap (is_now t) now ∙ same))

either_off : (a b : Bool) → (a || b) ≡ false → b ≡ false
either_off a b h = grind (arith, h)

-- a tree that did not roll is not rolling
not_rolling : (o : Origin) (up : Option Addr) (h : List Entry) (t : Aaid) (c : Current) → IsUnfailed t o up h → rolled o t h ≡ false → (digest o h).current ≡ Some c → is_aaid t (aaid_of c.key) ≡ true → is_rolling c.phase ≡ false
not_rolling o up h t c k off now same = go (is_rolling c.phase) refl
  where
    go : (b : Bool) → is_rolling c.phase ≡ b → b ≡ false
    go false i = refl
    go true i = absurd (cc ((fated_law o up h t k.fresh k.grown k.once).rolling (ap (is_now t) now ∙ same) (ap is_rolling (phase_at (digest o h) c now) ∙ i), off))

word_of : (f : DialogueRecord → Bool) (v : Option DialogueRecord) → is_record f v ≡ true → (w : DialogueRecord) × (v ≡ Some w) × (f w ≡ true)
word_of f None h = absurd (cc (h))
word_of f (Some w) h = (w, refl, h)

-- ---- answers of branches

answers_now : (t : Aaid) (o : Origin) (up : Option Addr) (h : List Entry) (e : Entry) (c u : Current) (p : ℕ) (w : DialogueRecord) → IsUnfailed t o up (e ∷ h) → (digest o h).current ≡ Some c → (digest o (e ∷ h)).current ≡ Some u → is_aaid t (aaid_of c.key) ≡ true → is_aaid t (aaid_of u.key) ≡ true
    → is_rolling c.phase ≡ false → is_answer w ≡ true → Comes o.who (digest o h) e.event p w → branch_is has_answered u p ≡ true
answers_now t o up h e c u p w k i is tree same still word at = go (after_event t o up h e c u k i is tree same)
  where
    d : Digest
    d = digest o h

    a : Arc
    a = at.0

    acts : (sight_at o.who d a w ≡ Acts) × (sight_of_tx (seen o.who d.arcs c) a.peer.node w ≡ Acts)
    acts = answer_acts o.who d a c w word i still at.2

    put_is : (later : List Arc) × (put_by_record a.peer.node (counted_arcs d.arcs a.peer.node) w ≡ Some (record { event = TxEvent.Took a.peer.node w; arcs = later }))
    put_is = put_word a.peer.node (counted_arcs d.arcs a.peer.node) w (rw word refl)

    some : put_by o.who d e.event ≡ Some (record { event = TxEvent.Took a.peer.node w; arcs = put_is.0 })
    some = at.3 Acts acts.0 ∙ put_is.1

    go : IsAfter o h e c u → branch_is has_answered u p ≡ true
    go (Untouched j key phase finds) = absurd (cc (j, some))
    go (Was_put x j put rest) =
        let took : TxEvent.Took a.peer.node w ≡ x.event = event_of x (TxEvent.Took a.peer.node w) put_is.0 (sym some ∙ j) in
        let fine : refused_tx x.event (seen o.who x.arcs c) ≡ None = subst (λ (f : TxEvent). refused_tx f (seen o.who x.arcs c) ≡ None) took (acts_not_refused (seen o.who x.arcs c) a.peer.node w (answer_either o.who x.arcs d.arcs c a.peer.node w word ∙ acts.1)) in
        let heeded = (heeding_event x.event (seen o.who x.arcs c) put).answers a.peer.node w (sym took) word fine still in
        subst (λ (n : ℕ). branch_is has_answered u n ≡ true) at.1 (holds_after o.who x.arcs c u (transacted x.event (seen o.who x.arcs c)).next a.peer.node has_answered rest heeded.1)

ready_step : (t : Aaid) (o : Origin) (up : Option Addr) (e : Entry) (h : List Entry) → IsUnfailed t o up (e ∷ h) → HeedsReady t o h → HeedsReady t o (e ∷ h)
ready_step t o up e h k rest u p off took now same = go (or_case new (took_in (λ d. is_aaid t (aaid_of d.key)) is_answer o p h) took)
  where
    old : rolled o t h ≡ false
    old = either_off _ (rolled o t h) off

    new : Bool
    new = elim (digest o h).current as (λ _. Bool) [ None ↦ false | Some c ↦ is_aaid t (aaid_of c.key) ] && is_record is_answer (heard_from p e.event)

    go : (new ≡ true) ⊎ (took_in (λ d. is_aaid t (aaid_of d.key)) is_answer o p h ≡ true) → branch_is has_answered u p ≡ true
    go (inr j) =
        let c = took_before o up e h t (λ d. is_aaid t (aaid_of d.key)) is_answer p u (λ x y. y) k j now same in
        stays_counted t o up h e k c.0 u p c.1 now c.2 same (rest c.0 p old j c.1 c.2)
    go (inl j) =
        let c = some_current (digest o h).current (λ x. is_aaid t (aaid_of x.key)) (and_left _ (is_record is_answer (heard_from p e.event)) j) in
        let w = word_of is_answer (heard_from p e.event) (and_right _ (is_record is_answer (heard_from p e.event)) j) in
        answers_now t o up h e c.0 u p w.0 k c.1 now c.2 same (not_rolling o up h t c.0 (unfailed_before t o up e h k).1 old c.1 c.2) w.2
        (comes o.who (digest o h) e.event p w.0 k.grown.0 (hears e.event p w.0 w.1))

pub heeds_ready : (t : Aaid) (o : Origin) (up : Option Addr) (h : List Entry) → IsUnfailed t o up h → HeedsReady t o h
heeds_ready t o up [] k = λ c p off took now same. absurd (cc (took))
heeds_ready t o up (e ∷ h) k = ready_step t o up e h k (heeds_ready t o up h (unfailed_before t o up e h k).1)

-- ---- a branch that is done

ended_there : (bs : List Branch) (p : ℕ) → has_branch_at bs p ≡ true → elim (find_branch bs p) as (λ _. Bool) [ None ↦ false | Some b ↦ not b.ended && not b.left ] ≡ false → elim (find_branch bs p) as (λ _. Bool) [ None ↦ false | Some b ↦ has_ended b ] ≡ true
ended_there [] p h off = absurd (cc (h))
ended_there (b ∷ bs) p h off = grind (arith, h, off, ended_there bs p)

there : (arcs : List Arc) (bs : List Branch) (p : ℕ) → has_branch_at bs p ≡ true → row_holds (seen_rows arcs bs) p (λ b. true) ≡ true
there arcs [] p h = absurd (cc (h))
there arcs (b ∷ bs) p h = grind (arith, h, there arcs bs p)

done_now : (t : Aaid) (o : Origin) (up : Option Addr) (h : List Entry) (e : Entry) (c u : Current) (p : ℕ) (r : Report) → IsUnfailed t o up (e ∷ h) → (digest o h).current ≡ Some c → (digest o (e ∷ h)).current ≡ Some u → is_aaid t (aaid_of c.key) ≡ true → is_aaid t (aaid_of u.key) ≡ true
    → is_committing c.phase ≡ true → has_branch_at c.branches p ≡ true → Comes o.who (digest o h) e.event p (DialogueRecord.Done r) → branch_is has_ended u p ≡ true
done_now t o up h e c u p r k i is tree same late branch at = subst (λ (n : ℕ). branch_is has_ended u n ≡ true) at.1 (on (row_holds (seen_rows d.arcs c.branches) a.peer.node (λ x. not x.ended && not x.left)) refl)
  where
    d : Digest
    d = digest o h

    a : Arc
    a = at.0

    w : DialogueRecord
    w = DialogueRecord.Done r

    here : has_branch_at c.branches a.peer.node ≡ true
    here = ap (has_branch_at c.branches) at.1 ∙ branch

    after : IsAfter o h e c u
    after = after_event t o up h e c u k i is tree same

    put_is : (later : List Arc) × (put_by_record a.peer.node (counted_arcs d.arcs a.peer.node) w ≡ Some (record { event = TxEvent.Took a.peer.node w; arcs = later }))
    put_is = put_word a.peer.node (counted_arcs d.arcs a.peer.node) w refl

    acting : put_by o.who d e.event ≡ Some (record { event = TxEvent.Took a.peer.node w; arcs = put_is.0 }) → IsAfter o h e c u → branch_is has_ended u a.peer.node ≡ true
    acting some (Untouched j key phase finds) = absurd (cc (j, some))
    acting some (Was_put x j put rest) =
        let took : TxEvent.Took a.peer.node w ≡ x.event = event_of x (TxEvent.Took a.peer.node w) put_is.0 (sym some ∙ j) in
        holds_after o.who x.arcs c u (transacted x.event (seen o.who x.arcs c)).next a.peer.node has_ended rest
        ((heeding_event x.event (seen o.who x.arcs c) put).ends a.peer.node r (sym took) late (there x.arcs c.branches a.peer.node here))

    idle : branch_is has_ended c a.peer.node ≡ true → put_by o.who d e.event ≡ None → IsAfter o h e c u → branch_is has_ended u a.peer.node ≡ true
    idle ended none (Untouched j key phase finds) = found_holds c u a.peer.node has_ended finds ended
    idle ended none (Was_put x j put rest) = absurd (cc (none, j))

    on : (b : Bool) → row_holds (seen_rows d.arcs c.branches) a.peer.node (λ x. not x.ended && not x.left) ≡ b → branch_is has_ended u a.peer.node ≡ true
    on true rows = acting (at.3 Acts (done_is o.who d a c r i late at.2 true rows) ∙ put_is.1) after
    on false rows =
        idle (ended_there c.branches a.peer.node here (sym (seen_holds d.arcs c.branches a.peer.node (λ x. not x.ended && not x.left)) ∙ rows))
        (at.3 Nothing_happens (done_is o.who d a c r i late at.2 false rows)) after

done_word : (w : DialogueRecord) → is_done w ≡ true → (r : Report) × (w ≡ DialogueRecord.Done r)
done_word (DialogueRecord.Done r) h = (r, refl)
done_word w h = absurd (cc (h))

abbrev pub is_done_in : Aaid → ℕ → Current → Bool
is_done_in t p d = is_aaid t (aaid_of d.key) && is_committing d.phase && has_branch_at d.branches p

done_tree : (t : Aaid) (p : ℕ) (c : Current) → is_done_in t p c ≡ true → is_aaid t (aaid_of c.key) ≡ true
done_tree t p c h = grind (arith, h)

done_step : (t : Aaid) (o : Origin) (up : Option Addr) (e : Entry) (h : List Entry) → IsUnfailed t o up (e ∷ h) → HeedsDone t o h → HeedsDone t o (e ∷ h)
done_step t o up e h k rest u p took now same = go (or_case new (took_in (is_done_in t p) is_done o p h) took)
  where
    new : Bool
    new = elim (digest o h).current as (λ _. Bool) [ None ↦ false | Some c ↦ is_done_in t p c ] && is_record is_done (heard_from p e.event)

    parts : (x y z : Bool) → (x && y && z) ≡ true → (x ≡ true) × (y ≡ true) × (z ≡ true)
    parts x y z h = (grind (arith, h), grind (arith, h), grind (arith, h))

    go : (new ≡ true) ⊎ (took_in (is_done_in t p) is_done o p h ≡ true) → branch_is has_ended u p ≡ true
    go (inr j) =
        let c = took_before o up e h t (is_done_in t p) is_done p u (done_tree t p) k j now same in
        stays_ended t o up h e k c.0 u p c.1 now c.2 same (rest c.0 p j c.1 c.2)
    go (inl j) =
        let c = some_current (digest o h).current (is_done_in t p) (and_left _ (is_record is_done (heard_from p e.event)) j) in
        let w = word_of is_done (heard_from p e.event) (and_right _ (is_record is_done (heard_from p e.event)) j) in
        let r = done_word w.0 w.2 in
        let m = parts (is_aaid t (aaid_of c.0.key)) (is_committing c.0.phase) (has_branch_at c.0.branches p) c.2 in
        done_now t o up h e c.0 u p r.0 k c.1 now m.0 same m.1 m.2 (comes o.who (digest o h) e.event p (DialogueRecord.Done r.0) k.grown.0 (hears e.event p (DialogueRecord.Done r.0) (w.1 ∙ ap (λ (v : DialogueRecord). Some v) r.1)))

pub heeds_done : (t : Aaid) (o : Origin) (up : Option Addr) (h : List Entry) → IsUnfailed t o up h → HeedsDone t o h
heeds_done t o up [] k = λ c p took now same. absurd (cc (took))
heeds_done t o up (e ∷ h) k = done_step t o up e h k (heeds_done t o up h (unfailed_before t o up e h k).1)

-- ---- the superior's order

enters_not_over : (l : Bool) (p q : Phase) → is_ready p ≡ true → is_committing q ≡ true → is_over (passage l p q) ≡ false
enters_not_over l p q h i = grind (arith, h, i)

remains_committing : (t : Transaction) → is_committing t.phase ≡ true → (u : Current) × (remaining t ≡ Some u) × (u.key ≡ t.key) × (is_committing u.phase ≡ true)
remains_committing t h = go (is_nil t.phase) refl
  where
    left : Current
    left = record {
      key = t.key;
      phase = t.phase;
      branches = branches_of t.rows;
      told_prepare = t.told_prepare;
      asked = t.asked;
      owes = t.owes;
      superior_rolled = t.superior_rolled;
      decision = t.decision;
      own = t.own;
    }

    go : (b : Bool) → is_nil t.phase ≡ b → (u : Current) × (remaining t ≡ Some u) × (u.key ≡ t.key) × (is_committing u.phase ≡ true)
    go true i = absurd (grind (arith, h, i))
    go false i = (left, rw (i, remaining) refl, refl, h)

early_of : (h : Phase) → is_nil h ≡ false → is_rolling h ≡ false → is_committing h ≡ false → (is_active h || is_ready h) ≡ true
early_of Phase.Nil a b c = absurd (cc (a))
early_of Phase.Committing a b c = absurd (cc (c))
early_of Phase.Rolling a b c = absurd (cc (b))
early_of _ a b c = refl

-- a node that is ready goes on to commit
order_now : (o : Origin) (up : Option Addr) (h : List Entry) (e : Entry) (c : Current) (p : ℕ) (t : Aaid) → IsUnfailed t o up (e ∷ h) → (digest o h).current ≡ Some c → is_aaid t (aaid_of c.key) ≡ true → is_under_at c.key p ≡ true
    → (is_active c.phase || is_ready c.phase) ≡ true → Comes o.who (digest o h) e.event p DialogueRecord.Commit → decided o t (e ∷ h) ≡ true
order_now o up h e c p t k i tree above early at = go (put_by o.who d e.event) refl
  where
    d : Digest
    d = digest o h

    a : Arc
    a = at.0

    w : DialogueRecord
    w = DialogueRecord.Commit

    under : is_under_at c.key a.peer.node ≡ true
    under = ap (is_under_at c.key) at.1 ∙ above

    acts : (sight_at o.who d a w ≡ Acts) × (sight_of_tx (seen o.who d.arcs c) a.peer.node w ≡ Acts)
    acts = order_acts o.who d a c i under early at.2

    put_is : (later : List Arc) × (put_by_record a.peer.node (counted_arcs d.arcs a.peer.node) w ≡ Some (record { event = TxEvent.Took a.peer.node w; arcs = later }))
    put_is = put_word a.peer.node (counted_arcs d.arcs a.peer.node) w refl

    some : put_by o.who d e.event ≡ Some (record { event = TxEvent.Took a.peer.node w; arcs = put_is.0 })
    some = at.3 Acts acts.0 ∙ put_is.1

    go : (v : Option Put) → put_by o.who d e.event ≡ v → decided o t (e ∷ h) ≡ true
    go None j = absurd (cc (j, some))
    go (Some x) j =
        let s : Transaction = seen o.who x.arcs c in
        let g : Digest = record d { arcs = x.arcs } in
        let took : TxEvent.Took a.peer.node w ≡ x.event = event_of x (TxEvent.Took a.peer.node w) put_is.0 (sym some ∙ j) in
        let to : IsPutTo o.who d e.event c x = put_law o up h e.event c x (legal_of o up h k.fresh k.grown.3) (empty_apart o k.fresh) k.grown.0 i j in
        let put : IsPut x.event s = (mild_put o.who d e.event c x i (among_of o up h c k.fresh k.grown.3 i).current k.grown.0 (mild_entry t o up e h c k i tree) to j).put in
        let fine : refused_tx x.event s ≡ None = subst (λ (f : TxEvent). refused_tx f s ≡ None) took (order_ready o.who d.arcs x.arcs c a.peer.node under early acts.1) in
        let heeded = (heeding_event x.event s put).orders a.peer.node (sym took) fine under early in
        let next : Transaction = (transacted x.event s).next in
        let over : is_over (passed o.who x.event g c) ≡ false = enters_not_over (is_leaving x.event) c.phase next.phase heeded.0 heeded.1 in
        let u = remains_committing next heeded.1 in
        let now : (digest o (e ∷ h)).current ≡ Some u.0 = ap (λ (m : Move). m.next.current) to.acts ∙ others_current d e.event (transact o.who x.event g) ∙ transact_forward o.who x.event g c i over ∙ u.1 in
        let key : u.0.key ≡ c.key = u.2 ∙ IsPassed.key (passed_turn x.event s put) in
        (fated_law o up (e ∷ h) t k.fresh k.grown k.once).committing (ap (is_now t) now ∙ ap (λ (y : Key). is_aaid t (aaid_of y)) key ∙ tree) (ap is_committing (phase_at (digest o (e ∷ h)) u.0 now) ∙ u.3)

order_step : (t : Aaid) (o : Origin) (up : Option Addr) (e : Entry) (h : List Entry) → IsUnfailed t o up (e ∷ h) → HeedsCommit t o h → HeedsCommit t o (e ∷ h)
order_step t o up e h k rest p off took = go (or_case new (took_in below is_order o p h) took)
  where
    below : Current → Bool
    below c = is_aaid t (aaid_of c.key) && is_under_at c.key p

    new : Bool
    new = elim (digest o h).current as (λ _. Bool) [ None ↦ false | Some c ↦ below c ] && is_record is_order (heard_from p e.event)

    old : rolled o t h ≡ false
    old = either_off _ (rolled o t h) off

    word : (w : DialogueRecord) → is_order w ≡ true → w ≡ DialogueRecord.Commit
    word DialogueRecord.Commit h = refl
    word w h = absurd (cc (h))

    phase : (c : Current) → (digest o h).current ≡ Some c → is_aaid t (aaid_of c.key) ≡ true → is_under_at c.key p ≡ true → Comes o.who (digest o h) e.event p DialogueRecord.Commit → (b : Bool) → is_committing c.phase ≡ b → decided o t (e ∷ h) ≡ true
    phase c i tree above at true j = commit_more t e.rec (records o h) ((fated_law o up h t k.fresh k.grown.3 k.once.1).committing (ap (is_now t) i ∙ tree) (ap is_committing (phase_at (digest o h) c i) ∙ j))
    phase c i tree above at false j =
        order_now o up h e c p t k i tree above (early_of c.phase (among_of o up h c k.fresh k.grown.3 i).current (not_rolling o up h t c (unfailed_before t o up e h k).1 old i tree) j) at

    go : (new ≡ true) ⊎ (took_in below is_order o p h ≡ true) → decided o t (e ∷ h) ≡ true
    go (inr j) = commit_more t e.rec (records o h) (rest p old j)
    go (inl j) =
        let c = some_current (digest o h).current below (and_left _ (is_record is_order (heard_from p e.event)) j) in
        let w = word_of is_order (heard_from p e.event) (and_right _ (is_record is_order (heard_from p e.event)) j) in
        let same = word w.0 w.2 in
        phase c.0 c.1 (and_left (is_aaid t (aaid_of c.0.key)) (is_under_at c.0.key p) c.2) (and_right (is_aaid t (aaid_of c.0.key)) (is_under_at c.0.key p) c.2)
        (comes o.who (digest o h) e.event p DialogueRecord.Commit k.grown.0 (hears e.event p DialogueRecord.Commit (w.1 ∙ ap (λ (v : DialogueRecord). Some v) same))) (is_committing c.0.phase) refl

pub heeds_commit : (t : Aaid) (o : Origin) (up : Option Addr) (h : List Entry) → IsUnfailed t o up h → HeedsCommit t o h
heeds_commit t o up [] k = λ p off took. absurd (cc (took))
heeds_commit t o up (e ∷ h) k = order_step t o up e h k (heeds_commit t o up h (unfailed_before t o up e h k).1)
