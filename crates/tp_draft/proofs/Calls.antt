-- Dialogues that are asked for and answered.
use Rattle.std.proofs.Common.{◌≡◌, ◌≤◌, ℕ, suc, Bool, true, false, Option, Some, None, [], ◌∷◌, ◌++◌, refl, ap, sym, ◌∙◌, arith}
use Rattle.std.specs.Prelude.{◌||◌, ◌&&◌, not, nat_lt, if◌then◌else◌}
use Rattle.tp_names.specs.declared.identifiers.Addr.{Addr}
use Rattle.tp_names.specs.declared.identifiers.Mark.{Mark}
use Rattle.tp_records.specs.declared.peer.PeerRecord.{PeerRecord}
use Rattle.tp_model.specs.declared.arc.Side.{Side}
use Rattle.tp_model.specs.declared.transaction.TxOut.{TxOut}
use Rattle.tp_model.specs.Parts.{Who, Link, Idle, Opening, Offered, Live, Arc, Digest}
use Rattle.tp_model.specs.Links.{greatest}
use Rattle.tp_model.specs.Dialogues.{fresh_dialogue, is_nil, is_active, is_chained}
use Rattle.tp_model.specs.Node.{Move, move, followed, perform, phase_of, has_asked, try_start, begin_on, begin_chained, next_mark, with_mark_drawn, superior_arc}
use Rattle.tp_model.specs.Events.{needs_numbers, some_past_numbers}
use Rattle.tp_model.specs.Requests.{call, accept, reject}
use Rattle.tp_draft.specs.Calls.{answering, entering_tree, binding, taking_part}
use Rattle.tp_node.specs.Calls.{offer_of}
use Rattle.tp_model.specs.Arrivals.{take_begin, take_accept}
use Rattle.tp_names.specs.declared.identifiers.Aaid.{Aaid}
use Rattle.tp_names.specs.declared.identifiers.BranchId.{BranchId}
use Rattle.tp_records.specs.declared.dialogue.Holder.{Holder}
use Rattle.tp_draft.proofs.Beginnings.{begin_rises, start_rises}
use Rattle.tp_node_state.specs.Arcs.{new_arc}
use Rattle.tp_draft.specs.Draft.{Draft, goes_on}
use Rattle.tp_draft.proofs.Drafts.{perform_none}

-- past the greatest mark numbers are wanting
past_greatest : (m : Move) (f : Digest → Move) → (f m.next).next.drawn ≡ suc m.next.drawn → m.next.drawn ≡ greatest → needs_numbers (followed m f) ≡ true
past_greatest m f one last = ap (λ n. nat_lt greatest n || some_past_numbers (m.outs ++ (f m.next).outs)) (one ∙ ap suc last)

pub call_spent : (m : Move) (who : Who) (a : Addr) (units : ℕ) → m.next.drawn ≡ greatest → needs_numbers (followed m (call who a units)) ≡ true
unfolding call
call_spent m who a units last = past_greatest m (call who a units) refl last

pub answer_spent : (m : Move) (who : Who) (a : Arc) (x : Mark) (units : ℕ) → m.next.drawn ≡ greatest → needs_numbers (followed m (answering a x units who)) ≡ true
answer_spent m who a x units last = past_greatest m (answering a x units who) refl last

pub call_is : (who : Who) (a : Addr) (units : ℕ) (d : Digest)
    → call who a units d ≡ perform (TxOut.Recovery a (PeerRecord.OpenAssoc (next_mark who d) units) ∷ []) (record (with_mark_drawn d) { arcs = d.arcs ++ new_arc a units Side.Superior (Opening (next_mark who d)) ∷ [] })
unfolding call
call_is who a units d = refl

pub accept_is : (who : Who) (units : ℕ) (d : Digest) → accept who units d ≡ elim (offer_of d) as (λ _. Move) [ None ↦ move [] d | Some o ↦ answering o.0 o.1 units who d ]
unfolding accept
accept_is who units d = go (superior_arc d) refl
  where
    on : (a : Arc) (l : Link) → a.link ≡ l → superior_arc d ≡ Some a → accept who units d ≡ elim (offer_of d) as (λ _. Move) [ None ↦ move [] d | Some o ↦ answering o.0 o.1 units who d ]
    on a Idle e i = grind (arith, e, i)
    on a (Opening x) e i = grind (arith, e, i)
    on a (Offered x) e i = grind (arith, e, i)
    on a (Live x y s t) e i = grind (arith, e, i)

    go : (o : Option Arc) → superior_arc d ≡ o → accept who units d ≡ elim (offer_of d) as (λ _. Move) [ None ↦ move [] d | Some p ↦ answering p.0 p.1 units who d ]
    go None i = grind (arith, i)
    go (Some a) i = on a a.link refl i

pub reject_is : (d : Digest) → reject d ≡ elim (offer_of d) as (λ _. Move) [ None ↦ move [] d | Some o ↦ perform (TxOut.Recovery o.0.peer (PeerRecord.ShutAssoc o.1 None) ∷ TxOut.Close o.0.peer.node ∷ []) d ]
unfolding reject
reject_is d = go (superior_arc d) refl
  where
    on : (a : Arc) (l : Link) → a.link ≡ l → superior_arc d ≡ Some a → reject d ≡ elim (offer_of d) as (λ _. Move) [ None ↦ move [] d | Some o ↦ perform (TxOut.Recovery o.0.peer (PeerRecord.ShutAssoc o.1 None) ∷ TxOut.Close o.0.peer.node ∷ []) d ]
    on a Idle e i = grind (arith, e, i)
    on a (Opening x) e i = grind (arith, e, i)
    on a (Offered x) e i = grind (arith, e, i)
    on a (Live x y s t) e i = grind (arith, e, i)

    go : (o : Option Arc) → superior_arc d ≡ o → reject d ≡ elim (offer_of d) as (λ _. Move) [ None ↦ move [] d | Some p ↦ perform (TxOut.Recovery p.0.peer (PeerRecord.ShutAssoc p.1 None) ∷ TxOut.Close p.0.peer.node ∷ []) d ]
    go None i = grind (arith, i)
    go (Some a) i = on a a.link refl i

-- ---- of a draft

pub stays : (a : Draft) (f : Who → Digest → Move) → f a.who a.move.next ≡ move [] a.move.next → goes_on a f ≡ a
stays a f e = ap (λ (m : Move). record a { move = followed a.move (λ _. m) }) e ∙ perform_none a

pub accept_none : (a : Draft) (units : ℕ) → offer_of a.move.next ≡ None → goes_on a (λ who. accept who units) ≡ a
accept_none a units none = stays a (λ who. accept who units) (accept_is a.who units a.move.next ∙ ap (λ (o : Option (Arc × Mark)). elim o as (λ _. Move) [ None ↦ move [] a.move.next | Some p ↦ answering p.0 p.1 units a.who a.move.next ]) none)

pub accept_some : (who : Who) (units : ℕ) (d : Digest) (o : Arc × Mark) → offer_of d ≡ Some o → accept who units d ≡ answering o.0 o.1 units who d
accept_some who units d o e = accept_is who units d ∙ ap (λ (x : Option (Arc × Mark)). elim x as (λ _. Move) [ None ↦ move [] d | Some p ↦ answering p.0 p.1 units who d ]) e

abbrev pub rejecting : Addr → Mark → Digest → Move
rejecting to x d = perform (TxOut.Recovery to (PeerRecord.ShutAssoc x None) ∷ TxOut.Close to.node ∷ []) d

pub reject_none : (a : Draft) → offer_of a.move.next ≡ None → goes_on a (λ who. reject) ≡ a
reject_none a none = stays a (λ who. reject) (reject_is a.move.next ∙ ap (λ (o : Option (Arc × Mark)). elim o as (λ _. Move) [ None ↦ move [] a.move.next | Some p ↦ rejecting p.0.peer p.1 a.move.next ]) none)

pub reject_some : (d : Digest) (o : Arc × Mark) → offer_of d ≡ Some o → reject d ≡ rejecting o.0.peer o.1 d
reject_some d o e = reject_is d ∙ ap (λ (x : Option (Arc × Mark)). elim x as (λ _. Move) [ None ↦ move [] d | Some p ↦ rejecting p.0.peer p.1 d ]) e

-- ---- the superior's Begin

pub take_begin_is : (a : Arc) (s : Addr) (t : Aaid) (b : BranchId) (h : Holder) → s ≡ a.peer → (who : Who) (d : Digest) → take_begin who a t b h d ≡ followed (entering_tree s t b h who d) (begin_chained who)
unfolding take_begin
take_begin_is a s t b h same who d = ap (λ (z : Addr). followed (entering_tree z t b h who d) (begin_chained who)) (sym same)

-- ---- a call is answered

pub bound_is : (a : Arc) (x y : Mark) (units : ℕ) (who : Who) (d : Digest) → take_accept who a x y units d ≡ followed (binding a x y units who d) (taking_part a.peer.node units who)
unfolding take_accept
bound_is a x y units who d = refl

pub part_rises : (p units : ℕ) (who : Who) (d : Digest) → d.drawn ≤ (taking_part p units who d).next.drawn
part_rises p units who d = first (not (is_chained (fresh_dialogue units Side.Superior)))
  where
    third : (c : Bool) → d.drawn ≤ (if c then begin_on who p d else move [] d).next.drawn
    third true = begin_rises who p d
    third false = omega arith

    second : (b : Bool) → d.drawn ≤ (if b then try_start who d else if is_active (phase_of d) && not (has_asked d) then begin_on who p d else move [] d).next.drawn
    second true = start_rises who d
    second false = third (is_active (phase_of d) && not (has_asked d))

    first : (a : Bool) → d.drawn ≤ (if a then move [] d else if is_nil (phase_of d) then try_start who d else if is_active (phase_of d) && not (has_asked d) then begin_on who p d else move [] d).next.drawn
    first true = omega arith
    first false = second (is_nil (phase_of d))
