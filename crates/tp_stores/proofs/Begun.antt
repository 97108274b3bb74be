-- The tree of the branch that is current at a node is that of the Begin which its user was told last.
use Rattle.std.proofs.Common.{◌≡◌, ℕ, Bool, true, false, refl, ap, sym, subst, ◌∙◌, Option, Some, None, List, [], ◌∷◌, inl, inr}
use Rattle.tp_names.specs.declared.identifiers.Aaid.{Aaid}
use Rattle.tp_names.specs.declared.identifiers.BranchId.{BranchId}
use Rattle.tp_names.specs.declared.identifiers.Addr.{Addr}
use Rattle.tp_names.specs.declared.identifiers.Mark.{Mark}
use Rattle.tp_records.specs.declared.indication.Indication.{Indication}
use Rattle.tp_records.specs.declared.dialogue.DialogueRecord.{DialogueRecord}
use Rattle.tp_records.specs.declared.dialogue.Holder.{Holder}
use Rattle.tp_records.specs.declared.peer.PeerRecord.{PeerRecord}
use Rattle.tp_model.specs.declared.arc.Side.{Side}
use Rattle.tp_model.specs.declared.arc.Phase.{Phase}
use Rattle.tp_model.specs.declared.transaction.TxEvent.{TxEvent}
use Rattle.tp_model.specs.declared.transaction.TxOut.{TxOut}
use Rattle.tp_model.specs.Parts.{Who, Origin, Event, Entry, Out, Tell, Arc, Key, Root, Under, Current, Digest}
use Rattle.tp_model.specs.Links.{with_one_taken}
use Rattle.tp_model.specs.Dialogues.{is_active, begun_by, Sight, Acts, Nothing_happens, Out_of_phase}
use Rattle.tp_model.specs.Arcs.{find_arc, with_dialogue, with_link}
use Rattle.tp_model.specs.Transactions.{aaid_of, transacted}
use Rattle.tp_model.specs.Node.{Move, move, perform, seen, may_begin_on, begin_on, begin_each, chained_peers, begin_chained, fresh_current}
use Rattle.tp_model.specs.Arrivals.{sight_at, take_begin, take_record, woken_by, take_on, refused_arrival}
use Rattle.tp_model.specs.Events.{refusal, action, recovered_current}
use Rattle.tp_model.specs.History.{digest}
use Rattle.tp_model.specs.Questions.{is_crash}
use Rattle.tp_model.specs.Outcomes.{root_of}
use Rattle.tp_model.specs.Legal.{IsGrown}
use Rattle.tp_steps.specs.Moves.{prelude, begun_in, counted_in}
use Rattle.tp_steps.specs.Keyed.{HasKeyFrom, IsKeyedMove}
use Rattle.tp_steps.specs.Trees.{out_tells}
use Rattle.tp_steps.proofs.every.EveryEvent.{every_move, plain_arrival}
use Rattle.tp_steps.proofs.every.EveryRecord.{begin_acts}
use Rattle.tp_steps.proofs.every.BeginCases.{next_child, begun_over, begin_cases}
use Rattle.tp_steps.proofs.log.Sound.{left_is}
use Rattle.tp_steps.proofs.log.Keyed.{keyed_moves}
use Rattle.tp_steps.proofs.log.ApartLog.{logged_key}
use Rattle.tp_steps.proofs.lemmas.Options.{some_same}
use Rattle.tp_histories.proofs.trees.Late.{late_law}
use Rattle.tp_histories.proofs.trees.Knowing.{Came, As_it_was, By_begin, By_crash, came_by, begin_arc, current_none}
use Rattle.tp_encodable.specs.Begins.{is_begin_told, takes_begin}
use Rattle.tp_encodable.proofs.Short.{begins_untold, chained_untold}
use Rattle.tp_stores.specs.Stores.{told_in, IsHeardOf, IsHeardIn}
use Rattle.tp_stores.proofs.Hearing.{last_begun, last_append}
use Rattle.tp_stores.proofs.Telling.{some, some_told, heard_none, last_quiet, begin_heard}
use Rattle.tp_histories.proofs.trees.Behind.{crash_current}

-- ---- a Begin that is taken

-- what is current is active
abbrev IsActiveIn : Digest → Type 0
IsActiveIn d = (c : Current) → d.current ≡ Some c → is_active c.phase ≡ true

active_begin : (who : Who) (p : ℕ) (d : Digest) → IsActiveIn d → IsActiveIn (begin_on who p d).next
active_begin who p d h = begin_cases (λ m. IsActiveIn m.next) who p d h on
  where
    on : (c : Current) (a : Arc) → d.current ≡ Some c → find_arc d.arcs p ≡ Some a → may_begin_on who d a ≡ true → IsActiveIn (begun_over who p d c a).next
    on c a now found may u i =
        let left = left_is (transacted (TxEvent.Begun (next_child who d a ∷ [])) (seen who d.arcs c)).next u i in
        ap is_active left.1 ∙ h c now

active_each : (who : Who) (ps : List ℕ) (d : Digest) → IsActiveIn d → IsActiveIn (begin_each who ps d).next
active_each who [] d h = h
active_each who (p ∷ ps) d h = active_each who ps (begin_on who p d).next (active_begin who p d h)

-- the user is told first, and of no other; and its transaction is active
record TakesBegin (t : Aaid) (m : Move) : Type 0 where
  peer : ℕ
  rest : List Out
  is : m.outs ≡ Tell (Indication.BeginTransaction peer t) ∷ rest
  quiet : out_tells is_begin_told rest ≡ false
  active : IsActiveIn m.next

take_tells : (who : Who) (a : Arc) (t : Aaid) (b : BranchId) (h : Holder) (d : Digest) → TakesBegin t (take_begin who a t b h d)
unfolding take_begin
take_tells who a t b h d =
    let fresh : Current = fresh_current (Under t b a.peer) in
    let begun : Digest = record d { arcs = with_dialogue d.arcs a.peer.node (begun_by h Side.Subordinate); current = Some fresh } in
    let first : Move = perform (TxOut.Tell (Indication.BeginTransaction a.peer.node t) ∷ []) begun in
    record {
      peer = a.peer.node;
      rest = (begin_chained who first.next).outs;
      is = refl;
      quiet = chained_untold who first.next;
      active = active_each who (chained_peers who first.next) first.next (λ c i. ap (λ (x : Current). is_active x.phase) (sym (some_same fresh c i)));
    }

abbrev begin_event : Addr → Mark → Mark → ℕ → Aaid → BranchId → Holder → Event
begin_event from x y q t b h = Event.Arrive from (PeerRecord.OnAssoc x y q (DialogueRecord.Begin t b h))

begin_tells : (who : Who) (d : Digest) (from : Addr) (x y : Mark) (q : ℕ) (t : Aaid) (b : BranchId) (h : Holder) (a : Arc) → refusal who d (begin_event from x y q t b h) ≡ None → find_arc d.arcs from.node ≡ Some a
    → TakesBegin t (action who d (begin_event from x y q t b h))
begin_tells who d from x y q t b h a ok found = subst (TakesBegin t) (sym is) (take_tells who a t b h g)
  where
    r : DialogueRecord
    r = DialogueRecord.Begin t b h

    g : Digest
    g = woken_by r a.peer.node (record d { arcs = with_link d.arcs a.peer.node with_one_taken })

    plain : refused_arrival who d from (PeerRecord.OnAssoc x y q (DialogueRecord.Begin t b h)) ≡ None
    plain = plain_arrival who d from (PeerRecord.OnAssoc x y q (DialogueRecord.Begin t b h)) ok

    sight : sight_at who d a r ≡ Acts
    sight = begin_acts who d from x y q t b h a plain found (sight_at who d a r) refl

    is : action who d (begin_event from x y q t b h) ≡ take_begin who a t b h g
    is =
        ap (λ (o : Option Arc). elim o as (λ _. Move) [ None ↦ move [] d | Some z ↦ take_on who z r d ]) found
        ∙ ap (λ (v : Sight). elim v as (λ _. Move) [ Acts ↦ take_record who a r g | Nothing_happens ↦ move [] g | Out_of_phase ↦ move [] g ]) sight

pub record IsBegin (e : Event) : Type 0 where
  pub from : Addr
  pub x : Mark
  pub y : Mark
  pub q : ℕ
  pub tree : Aaid
  pub branch : BranchId
  pub holder : Holder
  pub is : e ≡ Event.Arrive from (PeerRecord.OnAssoc x y q (DialogueRecord.Begin tree branch holder))

pub is_begin : (e : Event) → takes_begin e ≡ true → IsBegin e
is_begin (Event.Arrive from (PeerRecord.OnAssoc x y q (DialogueRecord.Begin t b h))) i = record { from = from; x = x; y = y; q = q; tree = t; branch = b; holder = h; is = refl }
is_begin e i = absurd (cc (i))

-- ---- a crash

-- what is current after it was not active
passive : (v c : Current) → recovered_current (Some v) ≡ Some c → is_active v.phase ≡ false
passive v c h = go v.phase h
  where
    go : (p : Phase) → recovered_current (Some (record v { phase = p })) ≡ Some c → is_active p ≡ false
    go Phase.Active i = absurd (cc (i))
    go _ i = refl

pub crash_is : (e : Event) → is_crash e ≡ true → e ≡ Event.Crash
crash_is Event.Crash i = refl
crash_is e i = absurd (cc (i))

-- ---- every legal history

abbrev root_in : Key → Option Aaid
root_in k = elim k as (λ _. Option Aaid) [ Root t ↦ Some t | Under t b a ↦ None ]

-- of what is active where the site stops in the newest entry nothing is said: it is gone
pub begun_law : (o : Origin) (up : Option Addr) (h : List Entry) (stops : Bool) (is : List Indication) (c : Current) → o.start.records ≡ [] → IsGrown o up h → IsHeardIn stops h is → (digest o h).current ≡ Some c → root_of (Some c) ≡ None
    → (stops ≡ true → is_active c.phase ≡ false) → last_begun None is ≡ Some (aaid_of c.key)
begun_law o up [] stops is c empty legal heard now under lasts = let none = current_none o empty in absurd (cc (none, now))
begun_law o up (e ∷ h) stops is u empty legal heard now under lasts =
    ap (last_begun None) heard.2 ∙ last_append None before own ∙ go (takes_begin e.event) refl (λ c i k l. begun_law o up h (is_crash e.event) before c empty legal.3 heard.4 i k l)
  where
    d : Digest
    d = digest o h

    s : Digest
    s = prelude o.who d e.event

    m : Move
    m = action o.who d e.event

    before : List Indication
    before = heard.0

    own : List Indication
    own = heard.1

    last : Option Aaid
    last = last_begun None before

    Before : Type 0
    Before = (c : Current) → d.current ≡ Some c → root_of (Some c) ≡ None → (is_crash e.event ≡ true → is_active c.phase ≡ false) → last ≡ Some (aaid_of c.key)

    outs : e.outs ≡ m.outs
    outs = ap (λ (v : Entry). v.outs) (sym legal.1)

    keyed : IsKeyedMove o.who e.event s s m
    keyed = every_move o.who d e.event (IsKeyedMove o.who e.event s) (keyed_moves o.who e.event s) (late_law o up h legal.3) legal.0

    -- what is current is no root's
    no_root : {A : Type 0} (t : Aaid) → u.key ≡ Root t → A
    no_root t k = let root : root_of (Some u) ≡ Some t = ap root_in k in absurd (cc (root, under))

    -- where no Begin is told
    goes_on : out_tells is_begin_told m.outs ≡ false → (c : Current) → d.current ≡ Some c → u.key ≡ c.key → (is_crash e.event ≡ true → is_active c.phase ≡ false) → Before → last_begun last own ≡ Some (aaid_of u.key)
    goes_on q c at same ends was =
        let none : some is_begin_told (told_in e.outs) ≡ false = some_told is_begin_told e.outs ∙ ap (out_tells is_begin_told) outs ∙ q in
        last_quiet last own (heard_none is_begin_told stops (told_in e.outs) own heard.3 none) ∙ was c at (ap root_in (sym same) ∙ under) ends ∙ ap (λ (x : Key). Some (aaid_of x)) (sym same)

    begins : (b : IsBegin e.event) (a : Arc) → find_arc d.arcs b.from.node ≡ Some a → last_begun last own ≡ Some (aaid_of u.key)
    begins b a found =
        elim (begin_heard stops last tells.peer b.tree (told_in tells.rest) own part (some_told is_begin_told tells.rest ∙ tells.quiet)) [
          | inl i ↦ i ∙ named (keyed.keys u now)
          | inr i ↦ (let yes = tells.active u now in let no = lasts i in absurd (cc (yes, no)))
        ]
      where
        ok : refusal o.who d (begin_event b.from b.x b.y b.q b.tree b.branch b.holder) ≡ None
        ok = ap (λ (v : Event). refusal o.who d v) (sym b.is) ∙ legal.0

        tells : TakesBegin b.tree m
        tells = subst (λ (v : Event). TakesBegin b.tree (action o.who d v)) (sym b.is) (begin_tells o.who d b.from b.x b.y b.q b.tree b.branch b.holder a ok found)

        part : IsHeardOf stops (Indication.BeginTransaction tells.peer b.tree ∷ told_in tells.rest) own
        part = subst (λ (l : List Indication). IsHeardOf stops l own) (ap told_in (outs ∙ tells.is)) heard.3

        cur : s.current ≡ Some (fresh_current (Under b.tree b.branch a.peer))
        cur = ap (λ (v : Event). (prelude o.who d v).current) b.is ∙ ap (λ (v : Option Arc). (begun_in v b.tree b.branch (counted_in d b.from)).current) found

        named : HasKeyFrom o.who s u → ◌≡◌ {A = Option Aaid} (Some b.tree) (Some (aaid_of u.key))
        named (inl k) =
            let one : k.0 ≡ fresh_current (Under b.tree b.branch a.peer) = some_same k.0 (fresh_current (Under b.tree b.branch a.peer)) (sym k.1 ∙ cur) in
            ap (λ (x : Key). Some (aaid_of x)) (sym (k.2 ∙ ap (λ (c : Current). c.key) one))
        named (inr k) = no_root k.0 k.1

    arc : (b : IsBegin e.event) (v : Option Arc) → find_arc d.arcs b.from.node ≡ v → last_begun last own ≡ Some (aaid_of u.key)
    arc b None i = absurd (begin_arc o.who d b.from b.x b.y b.q b.tree b.branch b.holder (ap (λ (v : Event). refusal o.who d v) (sym b.is) ∙ legal.0) i)
    arc b (Some a) i = begins b a i

    go : (b : Bool) → takes_begin e.event ≡ b → Before → last_begun last own ≡ Some (aaid_of u.key)
    go true i was = let b : IsBegin e.event = is_begin e.event i in arc b (find_arc d.arcs b.from.node) refl
    go false i was = by (is_crash e.event) refl (keyed.keys u now)
      where
        q : out_tells is_begin_told m.outs ≡ false
        q = begins_untold o.who d e.event legal.0 i

        came : Came o.who d e.event → is_crash e.event ≡ false → (c : Current) → s.current ≡ Some c → d.current ≡ Some c
        came (As_it_was same) off c at = sym same ∙ at
        came (By_begin from x y n t b k a is found cur nil above) off c at = absurd (let yes : takes_begin e.event ≡ true = ap takes_begin is in cc (yes, i))
        came (By_crash is cur) off c at = absurd (let yes : is_crash e.event ≡ true = ap is_crash is in cc (yes, off))

        by : (b : Bool) → is_crash e.event ≡ b → HasKeyFrom o.who s u → last_begun last own ≡ Some (aaid_of u.key)
        by b j (inr k) = no_root k.0 k.1
        by false j (inl k) = goes_on q k.0 (came (came_by o.who d e.event legal.0) j k.0 k.1) k.2 (λ y. absurd (cc (y, j))) was
        by true j (inl k) =
            let is : e.event ≡ Event.Crash = crash_is e.event j in
            let left : recovered_current d.current ≡ Some k.0 = sym (ap (λ (v : Event). (prelude o.who d v).current) is ∙ crash_current o.who d) ∙ k.1 in
            let l = logged_key d.current k.0 left in
            goes_on q l.0 l.1 (k.2 ∙ l.2) (λ y. passive l.0 k.0 (ap recovered_current (sym l.1) ∙ left)) was
