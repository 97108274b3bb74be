-- What an entry of a legal history is to the keys of its node: a crash, a Begin that is taken, or neither.
use Rattle.std.proofs.Common.{if◌then◌else◌, ◌≡◌, ℕ, suc, Bool, true, false, refl, ap, ◌∙◌, arith, Option, Some, None, List, [], ◌∷◌, ◌&&◌, ◌==◌}
use Rattle.std.specs.Prelude.{nat_lt}
use Rattle.std.proofs.lemmas.Bool.Decides.{nat_tests}
use Rattle.tp_names.specs.declared.identifiers.Mark.{Mark}
use Rattle.tp_names.specs.declared.identifiers.Aaid.{Aaid}
use Rattle.tp_names.specs.declared.identifiers.BranchId.{BranchId}
use Rattle.tp_names.specs.declared.identifiers.NodeKey.{NodeKey}
use Rattle.tp_names.specs.declared.identifiers.Addr.{Addr}
use Rattle.tp_names.specs.Same.{is_key, is_name, is_addr}
use Rattle.tp_records.specs.declared.indication.Indication.{Indication}
use Rattle.tp_model.specs.declared.arc.Side.{Side}
use Rattle.tp_records.specs.declared.dialogue.DialogueRecord.{DialogueRecord}
use Rattle.tp_records.specs.declared.dialogue.Holder.{Holder}
use Rattle.tp_records.specs.declared.peer.PeerRecord.{PeerRecord}
use Rattle.tp_logrec.specs.declared.record.LogRec.{LogRec}
use Rattle.tp_model.specs.declared.transaction.TxOut.{TxOut}
use Rattle.tp_model.specs.Parts.{Who, Origin, Event, Entry, Out, Arc, Under, Digest}
use Rattle.tp_model.specs.Dialogues.{is_nil, begun_by, Sight, Acts, Nothing_happens, Out_of_phase}
use Rattle.tp_model.specs.Arcs.{find_arc, with_dialogue, with_link}
use Rattle.tp_model.specs.Links.{with_one_taken}
use Rattle.tp_model.specs.Transactions.{acts}
use Rattle.tp_model.specs.Node.{Move, move, perform, phase_of, chained_peers, begin_chained, fresh_current}
use Rattle.tp_model.specs.Arrivals.{sight_at, take_begin, take_record, woken_by, take_on, refused_arrival}
use Rattle.tp_model.specs.Events.{refusal, action}
use Rattle.tp_model.specs.History.{digest}
use Rattle.tp_model.specs.Questions.{is_crash, heard_from, acting_from, boot_in, drawn_in}
use Rattle.tp_model.specs.Outcomes.{rolls, is_unchanged}
use Rattle.tp_model.specs.Keys.{Begun as Begin_sent, first_begun, is_own_tree, is_drawn_here, starts_tree, takes_begin, begun_key, begins, sender_of}
use Rattle.tp_steps.specs.Moves.{prelude, begun_in, counted_in}
use Rattle.tp_steps.specs.Steps.{first_begin}
use Rattle.tp_steps.proofs.every.EveryMove.{quiet_followed, quiet_each}
use Rattle.tp_steps.proofs.every.EveryRecord.{begin_acts}
use Rattle.tp_histories.proofs.trees.Knowing.{begin_seen, begin_arc}
use Rattle.tp_steps.proofs.every.Course.{tree_at, branch_at}
use Rattle.tp_histories.proofs.known.KnownPhase.{begun_first}
use Rattle.tp_histories.proofs.known.KnownPlain.{number_self}
use Rattle.tp_steps.proofs.every.EveryEvent.{plain_arrival}
use Rattle.tp_steps.proofs.words.Leaves.{name_same}

pub data Entered (o : Origin) (e : Entry) (h : List Entry) : Type 0 where
  Crashed : e.event ≡ Event.Crash → Entered o e h
  Begun : (from : Addr) (t : Aaid) (b : BranchId) (a : Arc) → takes_begin o e h ≡ Some (record { aaid = t; branch = Some b }) → is_crash e.event ≡ false
      → (prelude o.who (digest o h) e.event).current ≡ Some (fresh_current (Under t b a.peer)) → is_nil (phase_of (digest o h)) ≡ true
      → (rolls o.who (digest o h) e.event ≡ false) × (is_unchanged e.event ≡ false) × ((action o.who (digest o h) e.event).rec ≡ None)
      → (sender_of e.event ≡ Some from) × (is_addr a.peer from ≡ true) → Entered o e h
  Plain : is_crash e.event ≡ false → takes_begin o e h ≡ None → (prelude o.who (digest o h) e.event).current ≡ (digest o h).current → Entered o e h

-- ---- a Begin

begin_quiet : (who : Who) (a : Arc) (t : Aaid) (b : BranchId) (h : Holder) (d : Digest) → (take_begin who a t b h d).rec ≡ None
unfolding take_begin
begin_quiet who a t b h d =
    let u : Digest = record d { arcs = with_dialogue d.arcs a.peer.node (begun_by h Side.Subordinate); current = Some (fresh_current (Under t b a.peer)) } in
    let first : Move = perform (TxOut.Tell (Indication.BeginTransaction a.peer.node t) ∷ []) u in
    quiet_followed first (begin_chained who) refl (quiet_each who (chained_peers who first.next) first.next)

begin_rec : (who : Who) (d : Digest) (from : Addr) (x y : Mark) (q : ℕ) (t : Aaid) (b : BranchId) (h : Holder) (a : Arc) → find_arc d.arcs from.node ≡ Some a → sight_at who d a (DialogueRecord.Begin t b h) ≡ Acts
    → (action who d (Event.Arrive from (PeerRecord.OnAssoc x y q (DialogueRecord.Begin t b h)))).rec ≡ None
begin_rec who d from x y q t b h a found sight =
    let r : DialogueRecord = DialogueRecord.Begin t b h in
    ap (λ (o : Option Arc). (elim o as (λ _. Move) [ None ↦ move [] d | Some z ↦ take_on who z r d ]).rec) found
    ∙ ap (λ (v : Sight). (elim v as (λ _. Move) [ Acts ↦ take_record who a r g | Nothing_happens ↦ move [] g | Out_of_phase ↦ move [] g ]).rec) sight
    ∙ begin_quiet who a t b h g
  where
    g : Digest
    g = woken_by (DialogueRecord.Begin t b h) a.peer.node (record d { arcs = with_link d.arcs a.peer.node with_one_taken })

begin_from : (who : Who) (d : Digest) (from : Addr) (x y : Mark) (q : ℕ) (t : Aaid) (b : BranchId) (h : Holder) (a : Arc) → refused_arrival who d from (PeerRecord.OnAssoc x y q (DialogueRecord.Begin t b h)) ≡ None → find_arc d.arcs from.node ≡ Some a → is_addr a.peer from ≡ true
unfolding refused_arrival
begin_from who d from x y q t b h a ok i = go (is_addr a.peer from) refl
  where
    go : (v : Bool) → is_addr a.peer from ≡ v → is_addr a.peer from ≡ true
    go true j = j
    go false j = absurd (grind (arith, ok, i, j))

begin_heard : (o : Origin) (h : List Entry) (from : Addr) (x y : Mark) (q : ℕ) (t : Aaid) (b : BranchId) (k : Holder) (a : Arc) (rec : Option LogRec) (outs : List Out) → find_arc (digest o h).arcs from.node ≡ Some a → sight_at o.who (digest o h) a (DialogueRecord.Begin t b k) ≡ Acts
    → takes_begin o (record { event = Event.Arrive from (PeerRecord.OnAssoc x y q (DialogueRecord.Begin t b k)); rec = rec; outs = outs }) h ≡ Some (record { aaid = t; branch = Some b })
begin_heard o h from x y q t b k a rec outs found sight =
    let self : (from.node == from.node) ≡ true = number_self from.node from.node refl in
    let on : acts (sight_at o.who (digest o h) a (DialogueRecord.Begin t b k)) ≡ true = ap acts sight in
    rw (self, takes_begin, acting_from, heard_from) (rw (found, on) refl)

-- ---- every event

pub no_begin : (o : Origin) (h : List Entry) (from : Addr) (x y : Mark) (q : ℕ) (r : DialogueRecord) (rec : Option LogRec) (outs : List Out) → ((t : Aaid) (b : BranchId) (k : Holder) → r ≡ DialogueRecord.Begin t b k → ⊥)
    → takes_begin o (record { event = Event.Arrive from (PeerRecord.OnAssoc x y q r); rec = rec; outs = outs }) h ≡ None
no_begin o h from x y q (DialogueRecord.Begin t b k) rec outs off = absurd (off t b k refl)
no_begin o h from x y q r rec outs off = grind arith

entered_at : (o : Origin) (h : List Entry) (ev : Event) (rec : Option LogRec) (outs : List Out) → refusal o.who (digest o h) ev ≡ None → Entered o (record { event = ev; rec = rec; outs = outs }) h
entered_at o h (Event.Do r) rec outs ok = Plain refl refl (grind arith)
entered_at o h (Event.Arrive from (PeerRecord.OnAssoc x y q (DialogueRecord.Begin t b k))) rec outs ok = go (find_arc (digest o h).arcs from.node) refl
  where
    d : Digest
    d = digest o h

    go : (v : Option Arc) → find_arc d.arcs from.node ≡ v → Entered o (record { event = Event.Arrive from (PeerRecord.OnAssoc x y q (DialogueRecord.Begin t b k)); rec = rec; outs = outs }) h
    go None i = absurd (begin_arc o.who d from x y q t b k ok i)
    go (Some a) i =
        let plain : refused_arrival o.who d from (PeerRecord.OnAssoc x y q (DialogueRecord.Begin t b k)) ≡ None = plain_arrival o.who d from (PeerRecord.OnAssoc x y q (DialogueRecord.Begin t b k)) ok in
        let sight : sight_at o.who d a (DialogueRecord.Begin t b k) ≡ Acts = begin_acts o.who d from x y q t b k a plain i (sight_at o.who d a (DialogueRecord.Begin t b k)) refl in
        Begun from t b a (begin_heard o h from x y q t b k a rec outs i sight) refl (ap (λ (v : Option Arc). (begun_in v t b (counted_in d from)).current) i) (begin_seen o.who d from x y q t b k a ok i).0
        (refl, refl, begin_rec o.who d from x y q t b k a i sight) (refl, begin_from o.who d from x y q t b k a plain i)
entered_at o h (Event.Arrive from (PeerRecord.OnAssoc x y q r)) rec outs ok = Plain refl (no_begin o h from x y q r rec outs (λ t b k i. cc (i))) (grind arith)
entered_at o h (Event.Arrive from r) rec outs ok = Plain refl (grind arith) (grind arith)
entered_at o h Event.Crash rec outs ok = Crashed refl
entered_at o h _ rec outs ok = Plain refl refl refl

pub entered : (o : Origin) (e : Entry) (h : List Entry) → refusal o.who (digest o h) e.event ≡ None → Entered o e h
entered o e h ok = entered_at o h e.event e.rec e.outs ok

-- ---- the key that is begun

pub begins_peer : (o : Origin) (k j : NodeKey) (e : Entry) (h : List Entry) → takes_begin o e h ≡ Some j → begins o k e h ≡ is_key k j
begins_peer o k j e h i =
    let one : begun_key o e h ≡ Some j = ap (λ (v : Option NodeKey). elim v as (λ _. Option NodeKey) [ Some x ↦ Some x | None ↦ starts_tree o e h ]) i in
    ap (λ (v : Option NodeKey). elim v as (λ _. Bool) [ None ↦ false | Some x ↦ is_key k x ]) one

root_key : (o : Origin) (k : NodeKey) (e : Entry) (h : List Entry) → takes_begin o e h ≡ None → (v : Option NodeKey) → starts_tree o e h ≡ v → begins o k e h ≡ elim v as (λ _. Bool) [ None ↦ false | Some x ↦ is_key k x ]
root_key o k e h i v j =
    let one : begun_key o e h ≡ v = ap (λ (v : Option NodeKey). elim v as (λ _. Option NodeKey) [ Some x ↦ Some x | None ↦ starts_tree o e h ]) i ∙ j in
    ap (λ (v : Option NodeKey). elim v as (λ _. Bool) [ None ↦ false | Some x ↦ is_key k x ]) one

root_by : (o : Origin) (e : Entry) (h : List Entry) (t : Aaid) (b : BranchId) → first_begin e.outs ≡ Some (t, b) → (v : Bool) → is_own_tree o (record { tree = t; branch = b }) h ≡ v
    → starts_tree o e h ≡ (if v then Some (record { aaid = t; branch = None }) else None)
root_by o e h t b i v j =
    let tree : first_begun e.outs ≡ Some (record { tree = t; branch = b }) = begun_first e.outs ∙ ap (λ (x : Option (Aaid × BranchId)). elim x as (λ _. Option Begin_sent) [ None ↦ None | Some k ↦ Some (record { tree = k.0; branch = k.1 }) ]) i in
    ap (λ (x : Option Begin_sent). elim x as (λ _. Option NodeKey) [ None ↦ None | Some f ↦ if is_own_tree o f h then Some (record { aaid = f.tree; branch = None }) else None ]) tree
    ∙ ap (λ (c : Bool). if◌then◌else◌ {A = Option NodeKey} c (Some (record { aaid = t; branch = None })) None) j

-- an entry that sends no Begin begins no root
pub begins_none_at : (o : Origin) (k : NodeKey) (e : Entry) (h : List Entry) → takes_begin o e h ≡ None → first_begin e.outs ≡ None → begins o k e h ≡ false
begins_none_at o k e h i none =
    let tree : first_begun e.outs ≡ None = begun_first e.outs ∙ ap (λ (x : Option (Aaid × BranchId)). elim x as (λ _. Option Begin_sent) [ None ↦ None | Some j ↦ Some (record { tree = j.0; branch = j.1 }) ]) none in
    root_key o k e h i None (ap (λ (x : Option Begin_sent). elim x as (λ _. Option NodeKey) [ None ↦ None | Some f ↦ if is_own_tree o f h then Some (record { aaid = f.tree; branch = None }) else None ]) tree)

-- nor does one whose first branch has the first mark that it draws
pub begins_grown : (o : Origin) (k : NodeKey) (e : Entry) (h : List Entry) (t : Aaid) (b : BranchId) → takes_begin o e h ≡ None → first_begin e.outs ≡ Some (t, b) → b.mark.count ≡ suc (drawn_in o h) → begins o k e h ≡ false
begins_grown o k e h t b i first count = root_key o k e h i None (root_by o e h t b first false off)
  where
    between : (m n : ℕ) → (nat_lt m n && nat_lt n (suc m)) ≡ false
    between m n = grind (arith, nat_tests)

    last : (x y z u v : Bool) → (u && v) ≡ false → (x && (y && z && u) && v) ≡ false
    last x y z u v h = grind (arith, h)

    off : is_own_tree o (record { tree = t; branch = b }) h ≡ false
    off =
        ap (λ (n : ℕ). is_name t.owner o.who.site && is_drawn_here o t.mark h && nat_lt t.mark.count n) count
        ∙ last (is_name t.owner o.who.site) (t.mark.node == o.who.node) (t.mark.boot == boot_in o h) (nat_lt (drawn_in o h) t.mark.count) (nat_lt t.mark.count (suc (drawn_in o h))) (between (drawn_in o h) t.mark.count)

pub begins_rooted : (o : Origin) (k : NodeKey) (e : Entry) (h : List Entry) → takes_begin o e h ≡ None → first_begin e.outs ≡ Some (tree_at o.who (boot_in o h) (drawn_in o h), branch_at o.who (boot_in o h) (drawn_in o h))
    → begins o k e h ≡ is_key k (record { aaid = tree_at o.who (boot_in o h) (drawn_in o h); branch = None })
begins_rooted o k e h i first = root_key o k e h i (Some (record { aaid = tree_at o.who (boot_in o h) (drawn_in o h); branch = None })) (root_by o e h (tree_at o.who (boot_in o h) (drawn_in o h)) (branch_at o.who (boot_in o h) (drawn_in o h)) first true on)
  where
    up : (n : ℕ) → nat_lt n (suc n) ≡ true
    up n = grind (arith, nat_tests)

    on : is_own_tree o (record { tree = tree_at o.who (boot_in o h) (drawn_in o h); branch = branch_at o.who (boot_in o h) (drawn_in o h) }) h ≡ true
    on = rw (name_same o.who.site, number_self o.who.node o.who.node refl, number_self (boot_in o h) (boot_in o h) refl, up (drawn_in o h), up (suc (drawn_in o h))) refl
