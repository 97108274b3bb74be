-- In every legal history a node that has a transaction, current or kept, takes requests and retries: it is declared, or known from
-- its log.
use Rattle.std.proofs.Common.{◌≡◌, ◌⊎◌, inl, inr, ℕ, Bool, true, false, refl, ap, sym, subst, ◌∙◌, arith, Option, Some, None, List, [], ◌∷◌}
use Rattle.tp_names.specs.declared.identifiers.Aaid.{Aaid}
use Rattle.tp_names.specs.declared.identifiers.Addr.{Addr}
use Rattle.tp_names.specs.declared.identifiers.BranchId.{BranchId}
use Rattle.tp_records.specs.declared.dialogue.DialogueRecord.{DialogueRecord}
use Rattle.tp_records.specs.declared.peer.PeerRecord.{PeerRecord}
use Rattle.tp_records.specs.declared.peer.RecState.{RecState}
use Rattle.tp_model.specs.declared.recovery.Kept.{Kept}
use Rattle.tp_model.specs.Parts.{Who, Origin, Event, Entry, Arc, Current, Digest}
use Rattle.tp_model.specs.Arcs.{find_arc}
use Rattle.tp_model.specs.Arrivals.{refused_arrival, reply_to}
use Rattle.tp_model.specs.Events.{refused_plainly, action, after_crash, is_no_node, recovered_current}
use Rattle.tp_model.specs.History.{digest}
use Rattle.tp_model.specs.Questions.{is_crash}
use Rattle.tp_model.specs.Legal.{IsGrown}
use Rattle.tp_model.proofs.Verdicts.{plainly_none}
use Rattle.tp_steps.specs.Moves.{prelude, begun_in, counted_in}
use Rattle.tp_steps.specs.Traces.{IsLinked}
use Rattle.tp_steps.proofs.every.EveryEvent.{every_move}
use Rattle.tp_steps.proofs.links.Linked.{linked_moves}
use Rattle.tp_histories.proofs.trees.Late.{late_law}
use Rattle.tp_histories.proofs.trees.Knowing.{current_none}
use Rattle.tp_agreement.proofs.OwingLaw.{kept_none}
use Rattle.tp_runs.proofs.KnownForgot.{known_moves}

abbrev IsNothing : Digest → Type 0
IsNothing d = (d.current ≡ None) × (d.kept ≡ [])

abbrev IsAwake : Digest → Type 0
IsAwake d = IsNothing d ⊎ (is_no_node d ≡ false)

-- ---- what stays of a node in an event

abbrev is_declare : Event → Bool
is_declare (Event.Declare s) = true
is_declare _ = false

first_same : (who : Who) (d : Digest) (e : Event) → is_crash e ≡ false → is_declare e ≡ false → ((prelude who d e).known ≡ d.known) × ((prelude who d e).declared ≡ d.declared)
first_same who d (Event.Declare s) h i = absurd (cc (i))
first_same who d (Event.Do r) h i = (grind arith, grind arith)
first_same who d (Event.Arrive from (PeerRecord.OnAssoc x y q (DialogueRecord.Begin t b k))) h i = go (find_arc d.arcs from.node)
  where
    go : (o : Option Arc) → ((begun_in o t b (counted_in d from)).known ≡ d.known) × ((begun_in o t b (counted_in d from)).declared ≡ d.declared)
    go None = (refl, refl)
    go (Some a) = (refl, refl)
first_same who d (Event.Arrive from r) h i = (grind arith, grind arith)
first_same who d Event.Crash h i = absurd (cc (h))
first_same who d _ h i = (refl, refl)

no_node_by : (d e : Digest) → e.known ≡ d.known → e.declared ≡ d.declared → is_no_node e ≡ is_no_node d
no_node_by d e i j = rw (i, j) refl

stays_awake : (o : Origin) (up : Option Addr) (e : Entry) (h : List Entry) → IsGrown o up (e ∷ h) → is_crash e.event ≡ false → is_declare e.event ≡ false → is_no_node (digest o (e ∷ h)) ≡ is_no_node (digest o h)
stays_awake o up e h legal calm old =
    let d : Digest = digest o h in
    let s : Digest = prelude o.who d e.event in
    let known = every_move o.who d e.event (λ d m. m.next.known ≡ d.known) (known_moves o.who e.event s) (late_law o up h legal.3) legal.0 in
    let linked : IsLinked 0 s (action o.who d e.event) = every_move o.who d e.event (IsLinked 0) (linked_moves o.who e.event s 0) (late_law o up h legal.3) legal.0 in
    let first = first_same o.who d e.event calm old in
    no_node_by d (action o.who d e.event).next (known ∙ first.0) (linked.declared ∙ first.1)

-- ---- a node that has nothing

pub reply_same : (from : Addr) (t : Aaid) (b : BranchId) (o : Option RecState) (d : Digest) → (reply_to from t b o d).next ≡ d
reply_same from t b None d = refl
reply_same from t b (Some s) d = refl

bare : (d : Digest) → IsNothing d → ◌≡◌ {A = Digest} d (record d { current = None; kept = [] })
bare d h =
    let one : ◌≡◌ {A = Digest} d (record d { current = None }) = ap (λ (o : Option Current). let z : Digest = record d { current = o } in z) h.0 in
    one ∙ ap (λ (ks : List Kept). let z : Digest = record d { current = None; kept = ks } in z) h.1

-- a record of recovery leaves it so
nothing_after : (who : Who) (d : Digest) (e : Event) → IsNothing d → is_no_node d ≡ true → is_crash e ≡ false → is_declare e ≡ false → refused_plainly who d e ≡ None → IsNothing (action who d e).next
unfolding refused_arrival
nothing_after who d (Event.Declare s) h out calm old ok = absurd (cc (old))
nothing_after who d (Event.Do r) h out calm old ok = absurd (grind (arith, out, ok))
nothing_after who d (Event.Arrive from (PeerRecord.OpenAssoc x u)) h out calm old ok = absurd (grind (arith, out, ok))
nothing_after who d (Event.Arrive from (PeerRecord.AcceptAssoc x y u)) h out calm old ok = absurd (grind (arith, out, ok))
nothing_after who d (Event.Arrive from (PeerRecord.ShutAssoc x y)) h out calm old ok = absurd (grind (arith, out, ok))
nothing_after who d (Event.Arrive from (PeerRecord.OnAssoc x y q r)) h out calm old ok = absurd (grind (arith, out, ok))
nothing_after who d (Event.Arrive from (PeerRecord.RecReady t b)) h out calm old ok = subst IsNothing (sym (reply_same from t b _ d)) h
nothing_after who d (Event.Arrive from (PeerRecord.RecCommit t b)) h out calm old ok = subst (λ (x : Digest). IsNothing (action who x (Event.Arrive from (PeerRecord.RecCommit t b))).next) (sym (bare d h)) (subst IsNothing (sym (reply_same from t b _ (record d { current = None; kept = [] }))) (refl, refl))
nothing_after who d (Event.Arrive from (PeerRecord.RecReply t b RecState.Commit)) h out calm old ok = subst (λ (x : Digest). IsNothing (action who x (Event.Arrive from (PeerRecord.RecReply t b RecState.Commit))).next) (sym (bare d h)) (refl, refl)
nothing_after who d (Event.Arrive from (PeerRecord.RecReply t b (RecState.Done r))) h out calm old ok = subst (λ (x : Digest). IsNothing (action who x (Event.Arrive from (PeerRecord.RecReply t b (RecState.Done r)))).next) (sym (bare d h)) (refl, refl)
nothing_after who d (Event.Arrive from (PeerRecord.RecReply t b RecState.Unknown)) h out calm old ok = subst (λ (x : Digest). IsNothing (action who x (Event.Arrive from (PeerRecord.RecReply t b RecState.Unknown))).next) (sym (bare d h)) (refl, refl)
nothing_after who d (Event.Arrive from (PeerRecord.RecReply t b RecState.RetryLater)) h out calm old ok = subst (λ (x : Digest). IsNothing (action who x (Event.Arrive from (PeerRecord.RecReply t b RecState.RetryLater))).next) (sym (bare d h)) (refl, refl)
nothing_after who d (Event.Arrive from (PeerRecord.Forget t b)) h out calm old ok = subst (λ (x : Digest). IsNothing (action who x (Event.Arrive from (PeerRecord.Forget t b))).next) (sym (bare d h)) (refl, refl)
nothing_after who d (Event.Break from r) h out calm old ok = absurd (grind (arith, out, ok))
nothing_after who d (Event.Lose p) h out calm old ok = absurd (grind (arith, out, ok))
nothing_after who d (Event.Heur o) h out calm old ok = absurd (grind (arith, out, ok))
nothing_after who d (Event.GiveUp p) h out calm old ok = absurd (grind (arith, out, ok))
nothing_after who d Event.Retry h out calm old ok = absurd (grind (arith, out, ok))
nothing_after who d Event.Purge h out calm old ok = absurd (grind (arith, out, ok))
nothing_after who d Event.Crash h out calm old ok = absurd (cc (calm))

crashed_awake : (d : Digest) → IsAwake (after_crash d)
unfolding after_crash
crashed_awake d = go (recovered_current d.current) d.kept refl refl
  where
    go : (o : Option Current) (ks : List Kept) → recovered_current d.current ≡ o → d.kept ≡ ks → IsAwake (after_crash d)
    go None [] i j = inl (rw (i, after_crash) refl, rw (j, after_crash) refl)
    go None (k ∷ ks) i j = inr (rw (i, j, after_crash) refl)
    go (Some c) ks i j = inr (rw (i, after_crash) refl)

pub awake_law : (o : Origin) (up : Option Addr) (h : List Entry) → o.start.records ≡ [] → IsGrown o up h → IsAwake (digest o h)
awake_law o up [] empty legal = inl (current_none o empty, kept_none o empty)
awake_law o up (e ∷ h) empty legal = go (is_crash e.event) refl (is_declare e.event) refl (is_no_node (digest o h)) refl (awake_law o up h empty legal.3)
  where
    d : Digest
    d = digest o h

    crash_is : (f : Event) → is_crash f ≡ true → IsAwake (action o.who d f).next
    crash_is Event.Crash i = crashed_awake d
    crash_is f i = absurd (grind (arith, i))

    declare_is : (f : Event) → is_declare f ≡ true → IsAwake (action o.who d f).next
    declare_is (Event.Declare s) i = inr refl
    declare_is f i = absurd (grind (arith, i))

    go : (a : Bool) → is_crash e.event ≡ a → (b : Bool) → is_declare e.event ≡ b → (c : Bool) → is_no_node d ≡ c → IsAwake d → IsAwake (digest o (e ∷ h))
    go true i b j c k old = crash_is e.event i
    go false i true j c k old = declare_is e.event j
    go false i false j false k old = inr (stays_awake o up e h legal i j ∙ k)
    go false i false j true k (inr w) = absurd (cc (w, k))
    go false i false j true k (inl w) = inl (nothing_after o.who d e.event w k i j (plainly_none o.who d e.event legal.0))

-- it has a transaction
pub has_node : (o : Origin) (up : Option Addr) (h : List Entry) (c : Current) → o.start.records ≡ [] → IsGrown o up h → (digest o h).current ≡ Some c → is_no_node (digest o h) ≡ false
has_node o up h c empty legal at = elim (awake_law o up h empty legal) [ inl i ↦ absurd (let off : None ≡ Some c = sym i.0 ∙ at in cc (off)) | inr i ↦ i ]

pub keeps_node : (o : Origin) (up : Option Addr) (h : List Entry) (k : Kept) (ks : List Kept) → o.start.records ≡ [] → IsGrown o up h → (digest o h).kept ≡ k ∷ ks → is_no_node (digest o h) ≡ false
keeps_node o up h k ks empty legal at = elim (awake_law o up h empty legal) [ inl i ↦ absurd (let off : [] ≡ k ∷ ks = sym i.1 ∙ at in cc (off)) | inr i ↦ i ]
