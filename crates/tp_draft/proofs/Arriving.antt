-- What a record that is not refused may count on.
use Rattle.std.proofs.Common.{◌≡◌, ◌∙◌, ℕ, Bool, true, false, Option, Some, None, List, [], ◌∷◌, refl, ap, sym, arith}
use Rattle.std.specs.Prelude.{not, if◌then◌else◌}
use Rattle.std.specs.Option.{option_map}
use Rattle.tp_model.specs.Dialogues.{first, Sight, Acts, Nothing_happens, Out_of_phase}
use Rattle.std.proofs.lemmas.Bool.Decides.{nat_tests}
use Rattle.std.proofs.lemmas.Grind.{common_steps}
use Rattle.tp_names.specs.declared.identifiers.Addr.{Addr}
use Rattle.tp_names.specs.declared.identifiers.Mark.{Mark}
use Rattle.tp_names.specs.Same.{is_name, is_addr}
use Rattle.tp_records.specs.declared.dialogue.DialogueRecord.{DialogueRecord}
use Rattle.tp_records.specs.declared.peer.PeerRecord.{PeerRecord}
use Rattle.tp_model.specs.declared.arc.Side.{Side}
use Rattle.tp_model.specs.Parts.{Who, Link, Idle, Opening, Offered, Live, Arc, Digest}
use Rattle.tp_model.specs.Links.{is_idle, is_opening_with, dropped_by, with_one_taken}
use Rattle.tp_model.specs.Arcs.{find_arc, link_of, link_from, link_with, with_link}
use Rattle.tp_model.specs.Node.{Move, move, side_at}
use Rattle.tp_model.specs.Arrivals.{refused_arrival, refused_on, is_bad_answer, do_arrival, take_accept, take_begin, take_record, take_on, sight_at, woken_by}
use Rattle.tp_model.specs.Questions.{is_begin}
use Rattle.tp_node.proofs.Arriving.{at_peer}
use Rattle.tp_draft.specs.Taking.{arc_to, taking_on}
use Rattle.tp_draft.proofs.Sights.{begin_side}
use Rattle.tp_node_state.specs.Arcs.{fits_link}
use Rattle.tp_model.specs.declared.refusal.Refusal.{Refusal}

pub open_declared : (who : Who) (d : Digest) (from : Addr) (x : Mark) (u : ℕ) → refused_arrival who d from (PeerRecord.OpenAssoc x u) ≡ None → d.declared ≡ true
unfolding refused_arrival
open_declared who d from x u ok = grind (arith, common_steps, ok)

pub open_side : (who : Who) (d : Digest) (from : Addr) (x : Mark) (u : ℕ) → refused_arrival who d from (PeerRecord.OpenAssoc x u) ≡ None → Side.Subordinate ≡ side_at d from.node
unfolding refused_arrival
open_side who d from x u ok = go d.superior refl
  where
    go : (o : Option Addr) → d.superior ≡ o → Side.Subordinate ≡ side_at d from.node
    go None e = absurd (grind (arith, common_steps, ok, e))
    go (Some a) e = grind (arith, nat_tests, ok, e)

-- no association is over
not_idle : (side : Side) (l : Link) → fits_link side l ≡ true → is_idle l ≡ true → ⊥
not_idle Side.Superior Idle h i = let clash : false ≡ true = h in absurd (cc clash)
not_idle Side.Subordinate Idle h i = let clash : false ≡ true = h in absurd (cc clash)
not_idle side (Opening x) h i = let clash : false ≡ true = i in absurd (cc clash)
not_idle side (Offered x) h i = let clash : false ≡ true = i in absurd (cc clash)
not_idle side (Live x y s t) h i = let clash : false ≡ true = i in absurd (cc clash)

pub open_alone : (who : Who) (d : Digest) (from : Addr) (x : Mark) (u : ℕ) (a : Arc) (side : Side) → refused_arrival who d from (PeerRecord.OpenAssoc x u) ≡ None → find_arc d.arcs from.node ≡ Some a → fits_link side a.link ≡ true → ⊥
unfolding refused_arrival
open_alone who d from x u a side ok found fits = not_idle side a.link fits (grind (arith, common_steps, ok, found))

-- equal addresses are the same
same_name : (xs ys : List ℕ) → is_name xs ys ≡ true → xs ≡ ys
same_name [] [] h = refl
same_name [] (y ∷ ys) h = absurd (cc h)
same_name (x ∷ xs) [] h = absurd (cc h)
same_name (x ∷ xs) (y ∷ ys) h = grind (arith, common_steps, nat_tests, same_name xs ys)

same_addr : (a b : Addr) → is_addr a b ≡ true → a ≡ b
same_addr a b h = grind (arith, common_steps, nat_tests, same_name a.site b.site)

-- the first test of a list is not met
first_off : (x : Bool) (n : Refusal) (ts : List (Bool × Refusal)) → first ((x, n) ∷ ts) ≡ None → (x ≡ false) × (first ts ≡ None)
first_off true n ts h = absurd (let clash : Some n ≡ None = h in cc)
first_off false n ts h = (refl, h)

not_not : (x : Bool) → not x ≡ false → x ≡ true
not_not true h = refl
not_not false h = absurd (let clash : true ≡ false = h in cc)

from_opening : (d : Digest) (from : Addr) (x : Mark) (a : Arc) → is_opening_with (link_from d.arcs from) x ≡ true → find_arc d.arcs from.node ≡ Some a → is_opening_with a.link x ≡ true
from_opening d from x a opens found = go (is_addr a.peer from) refl
  where
    seen : link_from d.arcs from ≡ (if is_addr a.peer from then a.link else Idle)
    seen = ap (λ (o : Option Arc). elim o as (λ _. Link) [ None ↦ Idle | Some b ↦ if is_addr b.peer from then b.link else Idle ]) found

    go : (b : Bool) → is_addr a.peer from ≡ b → is_opening_with a.link x ≡ true
    go true e = sym (ap (λ (l : Link). is_opening_with l x) (seen ∙ ap (λ (c : Bool). if c then a.link else Idle) e)) ∙ opens
    go false e = absurd (let clash : false ≡ true = sym (ap (λ (l : Link). is_opening_with l x) (seen ∙ ap (λ (c : Bool). if c then a.link else Idle) e)) ∙ opens in cc)

pub accept_opening : (who : Who) (d : Digest) (from : Addr) (x y : Mark) (u : ℕ) (a : Arc) → refused_arrival who d from (PeerRecord.AcceptAssoc x y u) ≡ None → find_arc d.arcs from.node ≡ Some a → is_opening_with a.link x ≡ true
unfolding refused_arrival
accept_opening who d from x y u a ok found =
    let rest = (first_off (not d.declared) Refusal.WrongSite ((not (is_opening_with (link_from d.arcs from) x), Refusal.OldAssociation) ∷ (is_bad_answer d from u, Refusal.OutOfPhase) ∷ []) ok).1 in
    from_opening d from x a (not_not (is_opening_with (link_from d.arcs from) x) (first_off (not (is_opening_with (link_from d.arcs from) x)) Refusal.OldAssociation ((is_bad_answer d from u, Refusal.OutOfPhase) ∷ []) rest).0) found

pub accept_there : (who : Who) (d : Digest) (from : Addr) (x y : Mark) (u : ℕ) (a : Arc) → find_arc d.arcs from.node ≡ Some a → do_arrival who from (PeerRecord.AcceptAssoc x y u) d ≡ take_accept who a x y u d
accept_there who d from x y u a found = ap (λ (o : Option Arc). elim o as (λ _. Move) [ None ↦ move [] d | Some b ↦ take_accept who b x y u d ]) found

pub from_dropped : (l : Link) (x y : Mark) (q : ℕ) (o : Option Refusal) → elim (dropped_by l x y q) as (λ _. Option Refusal) [ Some n ↦ Some n | None ↦ o ] ≡ None → dropped_by l x y q ≡ None
from_dropped l x y q o h = go (dropped_by l x y q) refl
  where
    go : (p : Option Refusal) → dropped_by l x y q ≡ p → dropped_by l x y q ≡ None
    go None e = e
    go (Some n) e = absurd (let clash : Some n ≡ None = sym (ap (λ (p : Option Refusal). elim p as (λ _. Option Refusal) [ Some m ↦ Some m | None ↦ o ]) e) ∙ h in cc)

from_number : (d : Digest) (from : Addr) (x y : Mark) (q : ℕ) (a : Arc) → dropped_by (link_from d.arcs from) x y q ≡ None → find_arc d.arcs from.node ≡ Some a → dropped_by a.link x y q ≡ None
from_number d from x y q a ok found = go (is_addr a.peer from) refl
  where
    seen : link_from d.arcs from ≡ (if is_addr a.peer from then a.link else Idle)
    seen = ap (λ (o : Option Arc). elim o as (λ _. Link) [ None ↦ Idle | Some b ↦ if is_addr b.peer from then b.link else Idle ]) found

    go : (b : Bool) → is_addr a.peer from ≡ b → dropped_by a.link x y q ≡ None
    go true e = sym (ap (λ (l : Link). dropped_by l x y q) (seen ∙ ap (λ (c : Bool). if c then a.link else Idle) e)) ∙ ok
    go false e = absurd (let clash : Some Refusal.OldAssociation ≡ None = sym (ap (λ (l : Link). dropped_by l x y q) (seen ∙ ap (λ (c : Bool). if c then a.link else Idle) e)) ∙ ok in cc)

from_peer : (d : Digest) (from : Addr) (x y : Mark) (q : ℕ) (a : Arc) → dropped_by (link_from d.arcs from) x y q ≡ None → find_arc d.arcs from.node ≡ Some a → is_addr a.peer from ≡ true
from_peer d from x y q a ok found = go (is_addr a.peer from) refl
  where
    seen : link_from d.arcs from ≡ (if is_addr a.peer from then a.link else Idle)
    seen = ap (λ (o : Option Arc). elim o as (λ _. Link) [ None ↦ Idle | Some b ↦ if is_addr b.peer from then b.link else Idle ]) found

    go : (b : Bool) → is_addr a.peer from ≡ b → is_addr a.peer from ≡ true
    go true e = e
    go false e = absurd (let clash : Some Refusal.OldAssociation ≡ None = sym (ap (λ (l : Link). dropped_by l x y q) (seen ∙ ap (λ (c : Bool). if c then a.link else Idle) e)) ∙ ok in cc)

taken_from : (who : Who) (d : Digest) (from : Addr) (x y : Mark) (q : ℕ) (r : DialogueRecord) → refused_arrival who d from (PeerRecord.OnAssoc x y q r) ≡ None → dropped_by (link_from d.arcs from) x y q ≡ None
unfolding refused_arrival
taken_from who d from x y q r ok = go d.declared refl
  where
    go : (b : Bool) → d.declared ≡ b → dropped_by (link_from d.arcs from) x y q ≡ None
    go false e = absurd (let clash : Some Refusal.WrongSite ≡ None = sym (ap (λ (c : Bool). if not c then Some Refusal.WrongSite else refused_on who d from x y q r) e) ∙ ok in cc)
    go true e = from_dropped (link_from d.arcs from) x y q _ (sym (ap (λ (c : Bool). if not c then Some Refusal.WrongSite else refused_on who d from x y q r) e) ∙ ok)

-- ---- what is taken from an arc rests on the peer's address

by_peer : (who : Who) (a : Arc) (r : DialogueRecord) (d : Digest) → take_record who a r d ≡ take_record who (arc_to a.peer) r d
unfolding take_begin
by_peer who a DialogueRecord.EndDialogue d = refl
by_peer who a (DialogueRecord.UserData xs) d = refl
by_peer who a DialogueRecord.UError d = refl
by_peer who a DialogueRecord.UAbort d = refl
by_peer who a DialogueRecord.Grant d = refl
by_peer who a DialogueRecord.AskControl d = refl
by_peer who a DialogueRecord.Handshake d = refl
by_peer who a DialogueRecord.HandshakeGrant d = refl
by_peer who a DialogueRecord.Response d = refl
by_peer who a DialogueRecord.DeferEnd d = refl
by_peer who a DialogueRecord.DeferGrant d = refl
by_peer who a (DialogueRecord.Begin t b h) d = refl
by_peer who a DialogueRecord.Prepare d = refl
by_peer who a DialogueRecord.Ready d = refl
by_peer who a DialogueRecord.Commit d = refl
by_peer who a (DialogueRecord.Done x) d = refl
by_peer who a DialogueRecord.Rollback d = refl
by_peer who a (DialogueRecord.RolledBack x) d = refl
by_peer who a DialogueRecord.Left d = refl
by_peer who a DialogueRecord.LeftEnd d = refl

on_peer : (who : Who) (a : Arc) (r : DialogueRecord) (d : Digest) → take_on who a r d ≡ taking_on a.peer (sight_at who d a r) r who d
on_peer who a r d =
    let counted : Digest = woken_by r a.peer.node (record d { arcs = with_link d.arcs a.peer.node with_one_taken }) in
    ap (λ (m : Move). elim (sight_at who d a r) as (λ _. Move) [ Acts ↦ m | Nothing_happens ↦ move [] counted | Out_of_phase ↦ move [] counted ]) (by_peer who a r counted)

-- what comes of the record on the arc with that peer
abbrev pub sight_with : Who → Digest → ℕ → DialogueRecord → Option Sight
sight_with who d p r = option_map (λ (a : Arc). sight_at who d a r) (find_arc d.arcs p)

pub taken_number : (who : Who) (d : Digest) (from : Addr) (x y : Mark) (q : ℕ) (r : DialogueRecord) (s : Sight) → refused_arrival who d from (PeerRecord.OnAssoc x y q r) ≡ None → Some s ≡ sight_with who d from.node r → dropped_by (link_with d.arcs from.node) x y q ≡ None
taken_number who d from x y q r s ok is = go (find_arc d.arcs from.node) refl
  where
    go : (o : Option Arc) → find_arc d.arcs from.node ≡ o → dropped_by (link_with d.arcs from.node) x y q ≡ None
    go None e = absurd (let clash : Some s ≡ None = is ∙ ap (option_map (λ (a : Arc). sight_at who d a r)) e in cc)
    go (Some a) e = ap (λ (o : Option Arc). dropped_by (link_of o) x y q) e ∙ from_number d from x y q a (taken_from who d from x y q r ok) e

pub taken_side : (who : Who) (d : Digest) (from : Addr) (r : DialogueRecord) (s : Sight) → Some s ≡ sight_with who d from.node r → s ≡ Acts → is_begin r ≡ true → Side.Subordinate ≡ side_at d from.node
taken_side who d from r s is acts begins = go (find_arc d.arcs from.node) refl
  where
    go : (o : Option Arc) → find_arc d.arcs from.node ≡ o → Side.Subordinate ≡ side_at d from.node
    go None e = absurd (let clash : Some s ≡ None = is ∙ ap (option_map (λ (a : Arc). sight_at who d a r)) e in cc)
    go (Some a) e =
        let same : Some s ≡ Some (sight_at who d a r) = is ∙ ap (option_map (λ (b : Arc). sight_at who d b r)) e in
        let sees : sight_at who d a r ≡ s = cc same in
        begin_side who d a r (sees ∙ acts) begins ∙ ap (side_at d) (sym (at_peer d from.node a e))

pub taken_there : (who : Who) (d : Digest) (from : Addr) (x y : Mark) (q : ℕ) (r : DialogueRecord) (s : Sight) → refused_arrival who d from (PeerRecord.OnAssoc x y q r) ≡ None → Some s ≡ sight_with who d from.node r → do_arrival who from (PeerRecord.OnAssoc x y q r) d ≡ taking_on from s r who d
taken_there who d from x y q r s ok is = go (find_arc d.arcs from.node) refl
  where
    go : (o : Option Arc) → find_arc d.arcs from.node ≡ o → do_arrival who from (PeerRecord.OnAssoc x y q r) d ≡ taking_on from s r who d
    go None e = absurd (let clash : Some s ≡ None = is ∙ ap (option_map (λ (a : Arc). sight_at who d a r)) e in cc)
    go (Some a) e =
        let same : Some s ≡ Some (sight_at who d a r) = is ∙ ap (option_map (λ (b : Arc). sight_at who d b r)) e in
        let sees : sight_at who d a r ≡ s = cc same in
        ap (λ (o : Option Arc). elim o as (λ _. Move) [ None ↦ move [] d | Some b ↦ take_on who b r d ]) e
        ∙ on_peer who a r d
        ∙ ap (λ (t : Sight). taking_on a.peer t r who d) sees
        ∙ ap (λ (z : Addr). taking_on z s r who d) (same_addr a.peer from (from_peer d from x y q a (taken_from who d from x y q r ok) e))

pub taken_nowhere : (who : Who) (d : Digest) (from : Addr) (x y : Mark) (q : ℕ) (r : DialogueRecord) → None ≡ sight_with who d from.node r → do_arrival who from (PeerRecord.OnAssoc x y q r) d ≡ move [] d
taken_nowhere who d from x y q r is = go (find_arc d.arcs from.node) refl
  where
    go : (o : Option Arc) → find_arc d.arcs from.node ≡ o → do_arrival who from (PeerRecord.OnAssoc x y q r) d ≡ move [] d
    go None e = ap (λ (o : Option Arc). elim o as (λ _. Move) [ None ↦ move [] d | Some b ↦ take_on who b r d ]) e
    go (Some a) e = absurd (let clash : None ≡ Some (sight_at who d a r) = is ∙ ap (option_map (λ (b : Arc). sight_at who d b r)) e in cc)
