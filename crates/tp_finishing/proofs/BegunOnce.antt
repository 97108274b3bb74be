-- In every legal history each branch is begun once: two Begins of one identifier go to one node. An instance of the steps of a node.
use Rattle.std.proofs.Common.{◌≡◌, ◌⊎◌, inl, inr, ℕ, Bool, true, false, refl, ap, sym, ◌∙◌, arith, Option, Some, List, [], ◌∷◌, ◌++◌}
use Rattle.tp_names.specs.declared.identifiers.Aaid.{Aaid}
use Rattle.tp_names.specs.declared.identifiers.Addr.{Addr}
use Rattle.tp_names.specs.declared.identifiers.BranchId.{BranchId}
use Rattle.tp_names.specs.declared.identifiers.Mark.{Mark}
use Rattle.tp_records.specs.declared.dialogue.DialogueRecord.{DialogueRecord}
use Rattle.tp_records.specs.declared.dialogue.Holder.{Holder}
use Rattle.tp_records.specs.declared.peer.PeerRecord.{PeerRecord}
use Rattle.tp_model.specs.declared.arc.Side.{Side}
use Rattle.tp_model.specs.Parts.{Who, Origin, Event, Out, Entry, Arc, Current, Digest}
use Rattle.tp_model.specs.Dialogues.{begun_by, named_holder}
use Rattle.tp_model.specs.Arcs.{find_arc, with_dialogue}
use Rattle.tp_model.specs.Transactions.{aaid_of}
use Rattle.tp_model.specs.Recovery.{settled}
use Rattle.tp_model.specs.Node.{Move, move, followed, perform, next_mark, with_mark_drawn, may_begin_on, begin_on, turned, keep}
use Rattle.tp_model.specs.Events.{action}
use Rattle.tp_model.specs.History.{digest}
use Rattle.tp_model.specs.Legal.{IsGrown}
use Rattle.tp_steps.specs.Moves.{Moves, prelude}
use Rattle.tp_steps.specs.Facts.{words_to}
use Rattle.tp_steps.specs.Traces.{IsLinked, is_old}
use Rattle.tp_steps.specs.Trees.{begins_of}
use Rattle.tp_steps.proofs.every.EveryEvent.{every_move}
use Rattle.tp_steps.proofs.every.BeginCases.{begun_over, begin_cases}
use Rattle.tp_steps.proofs.links.Linked.{linked_moves}
use Rattle.tp_steps.proofs.links.Marks.{Drawn, Same_boot, Later_boot, old_stays, new_mark, drawn_old, prelude_drawn}
use Rattle.tp_steps.proofs.words.Hushed.{settled_spoken}
use Rattle.tp_histories.specs.Histories.{IsSentIn, HasSent}
use Rattle.tp_histories.proofs.trees.Late.{late_law}
use Rattle.tp_histories.proofs.worlds.TreeMembers.{sent_counts}
use Rattle.tp_agreement.specs.Owing.{BeginsTo}
use Rattle.tp_agreement.proofs.Closing.{turned_none}
use Rattle.tp_agreement.proofs.LeftDown.{no_begins}
use Rattle.tp_agreement.proofs.OwingMoves.{sent_split, carried_is, one_sent, begin_id, spoken_words, no_begin}
use Rattle.tp_agreement.proofs.OwingLaw.{sent_now}

abbrev Begin : Aaid → BranchId → Mark → Mark → ℕ → Holder → PeerRecord
Begin t b x y q i = PeerRecord.OnAssoc x y q (DialogueRecord.Begin t b i)

-- the branch is begun in the outputs, at that node
abbrev IsBegun : List Out → BranchId → Addr → Type 0
IsBegun outs b a = (t : Aaid) × (x : Mark) × (y : Mark) × (q : ℕ) × (i : Holder) × IsSentIn outs a (Begin t b x y q i)

record IsFresh (who : Who) (d : Digest) (m : Move) : Type 0 where
  linked : IsLinked 0 d m
  -- its identifier is drawn in the event
  new : (a : Addr) (b : BranchId) → IsBegun m.outs b a → (is_old who d b.mark ≡ false) × (is_old who m.next b.mark ≡ true)
  one : (a c : Addr) (b : BranchId) → IsBegun m.outs b a → IsBegun m.outs b c → a.node ≡ c.node

fresh_none : (who : Who) (d : Digest) (m : Move) → IsLinked 0 d m → ((t : Aaid) (p : ℕ) (b : BranchId) → BeginsTo t p b m.outs → ⊥) → IsFresh who d m
fresh_none who d m linked none = record {
  linked = linked;
  new = λ a b h. absurd (none h.0 a.node b (a, h.1, h.2, h.3, h.4, refl, h.5));
  one = λ a c b h i. absurd (none h.0 a.node b (a, h.1, h.2, h.3, h.4, refl, h.5));
}

fresh_begins : (who : Who) (q : ℕ) (d : Digest) → IsLinked 0 d (begin_on who q d) → IsFresh who d (begin_on who q d)
fresh_begins who q d = begin_cases (λ (m : Move). IsLinked 0 d m → IsFresh who d m) who q d (λ l. fresh_none who d (move [] d) l (λ t p b h. h.6)) on
  where
    on : (c : Current) (a : Arc) → d.current ≡ Some c → find_arc d.arcs q ≡ Some a → may_begin_on who d a ≡ true → IsLinked 0 d (begun_over who q d c a) → IsFresh who d (begun_over who q d c a)
    on c a now found may linked = record {
      linked = linked;
      new = λ z b h. (ap (is_old who d) (at z b h).1 ∙ new_mark who d, ap (is_old who (begun_over who q d c a).next) (at z b h).1 ∙ drawn_old who d (begun_over who q d c a).next refl (omega arith));
      one = λ z v b h i. (at z b h).0 ∙ sym (at v b i).0;
    }
      where
        id : BranchId
        id = record { superior = who.site; mark = next_mark who d }

        word : DialogueRecord
        word = DialogueRecord.Begin (aaid_of c.key) id (named_holder a.dialogue)

        arcs : List Arc
        arcs = with_dialogue d.arcs q (begun_by (named_holder a.dialogue) Side.Superior)

        at : (z : Addr) (b : BranchId) → IsBegun (begun_over who q d c a).outs b z → (z.node ≡ q) × (b.mark ≡ next_mark who d)
        at z b h =
            let w = carried_is arcs q word z (Begin h.0 b h.1 h.2 h.3 h.4) (one_sent arcs q word z (Begin h.0 b h.1 h.2 h.3 h.4) h.5) in
            let same : id ≡ b = begin_id h.1 w.1 h.2 w.2 h.3 w.3 h.0 (aaid_of c.key) b id h.4 (named_holder a.dialogue) w.4 in
            (w.0, ap (λ (v : BranchId). v.mark) (sym same))

begun_split : (xs ys : List Out) (b : BranchId) (a : Addr) → IsBegun (xs ++ ys) b a → IsBegun xs b a ⊎ IsBegun ys b a
begun_split xs ys b a h = elim (sent_split xs ys a (Begin h.0 b h.1 h.2 h.3 h.4) h.5) [ inl i ↦ inl (h.0, h.1, h.2, h.3, h.4, i) | inr i ↦ inr (h.0, h.1, h.2, h.3, h.4, i) ]

drawn_by : (d : Digest) (m : Move) → IsLinked 0 d m → Drawn d m.next
drawn_by d m l = Same_boot l.boot l.drawn

-- a mark that is new after a is new before it
new_before : (who : Who) (d e : Digest) (m : Mark) → Drawn d e → is_old who e m ≡ false → is_old who d m ≡ false
new_before who d e m drawn h = go (is_old who d m) refl
  where
    go : (v : Bool) → is_old who d m ≡ v → is_old who d m ≡ false
    go false i = i
    go true i = absurd (cc (h, old_stays who d e m drawn i))

fresh_then : (who : Who) (d : Digest) (a : Move) (f : Digest → Move) → IsLinked 0 d (followed a f) → IsFresh who d a → IsFresh who a.next (f a.next) → IsFresh who d (followed a f)
fresh_then who d a f linked one two = record {
  linked = linked;
  new = λ z b h. elim (begun_split a.outs (f a.next).outs b z h) [
    | inl i ↦ ((one.new z b i).0, old_stays who a.next (f a.next).next b.mark (drawn_by a.next (f a.next) two.linked) (one.new z b i).1)
    | inr i ↦ (new_before who d a.next b.mark (drawn_by d a one.linked) (two.new z b i).0, (two.new z b i).1)
  ];
  one = λ z v b h i. both z v b (begun_split a.outs (f a.next).outs b z h) (begun_split a.outs (f a.next).outs b v i);
}
  where
    both : (z v : Addr) (b : BranchId) → IsBegun a.outs b z ⊎ IsBegun (f a.next).outs b z → IsBegun a.outs b v ⊎ IsBegun (f a.next).outs b v → z.node ≡ v.node
    both z v b (inl h) (inl i) = one.one z v b h i
    both z v b (inr h) (inr i) = two.one z v b h i
    both z v b (inl h) (inr i) = absurd (cc ((one.new z b h).1, (two.new v b i).0))
    both z v b (inr h) (inl i) = absurd (cc ((one.new v b i).1, (two.new z b h).0))

fresh_moves : (who : Who) (e : Event) (s : Digest) → Moves who e s (IsFresh who)
fresh_moves who e s = record {
  still = λ d. fresh_none who d (move [] d) (lk.still d) (λ t p b h. h.6);
  chain = λ d a f one two quiet. fresh_then who d a f (lk.chain d a f one.linked two.linked quiet) one two;
  speaks = λ d outs h own said. fresh_none who d (perform outs d) (lk.speaks d outs h own said) (λ t p b i. no_begin d.arcs outs t p b (ap (begins_of t) (spoken_words d.arcs outs p h)) i);
  changes_dialogue = λ d p f m by one. record { linked = lk.changes_dialogue d p f m by one.linked; new = one.new; one = one.one };
  drops_arc = λ d p m at one. record { linked = lk.drops_arc d p m at one.linked; new = one.new; one = one.one };
  notes_kept = λ d ks m held one. record { linked = lk.notes_kept d ks m held one.linked; new = one.new; one = one.one };
  keeps = λ d k f held. fresh_none who d (keep (settled k f) d) (lk.keeps d k f held) (λ t p b i. no_begin d.arcs (settled k f).outs t p b (ap (begins_of t) (spoken_words d.arcs (settled k f).outs p (settled_spoken k f))) i);
  turns = λ d c f now at asked put gone. fresh_none who d (turned who f d c) (lk.turns d c f now at asked put gone) (λ t p b h.
      absurd (omega (arith, no_begins t (words_to p (turned who f d c).outs) (turned_none who f d c p put), sent_counts t p (turned who f d c).outs h.0 h.1 h.2 h.3 b h.4 h.5 h.6)));
  begins = λ d q free. fresh_begins who q d (lk.begins d q free);
  roots = λ d m nil may one. record { linked = lk.roots d m nil may one.linked; new = λ a b h. (new_before who d (with_mark_drawn d) b.mark (Same_boot refl (omega arith)) (one.new a b h).0, (one.new a b h).1); one = one.one };
}
  where
    lk : Moves who e s (IsLinked 0)
    lk = linked_moves who e s 0

-- ---- every legal history

fresh_at : (o : Origin) (up : Option Addr) (e : Entry) (h : List Entry) → IsGrown o up (e ∷ h) → IsFresh o.who (prelude o.who (digest o h) e.event) (action o.who (digest o h) e.event)
fresh_at o up e h legal = every_move o.who (digest o h) e.event (IsFresh o.who) (fresh_moves o.who e.event (prelude o.who (digest o h) e.event)) (late_law o up h legal.3) legal.0

first_drawn : (who : Who) (d : Digest) (e : Event) → Drawn d (prelude who d e)
first_drawn who d e = elim (prelude_drawn who d e) [ inl i ↦ Same_boot i.0 i.1 | inr i ↦ Later_boot i ]

-- some Begin of the branch was sent there
abbrev pub HasBegun : List Entry → BranchId → Addr → Type 0
HasBegun h b a = (t : Aaid) × (x : Mark) × (y : Mark) × (q : ℕ) × (i : Holder) × HasSent h a (PeerRecord.OnAssoc x y q (DialogueRecord.Begin t b i))

begun_old : (o : Origin) (up : Option Addr) (h : List Entry) (b : BranchId) (a : Addr) → IsGrown o up h → HasBegun h b a → is_old o.who (digest o h) b.mark ≡ true
begun_old o up [] b a legal s = absurd s.5
begun_old o up (e ∷ h) b a legal s = go s.5 (λ r. begun_old o up h b a legal.3 (s.0, s.1, s.2, s.3, s.4, r))
  where
    d : Digest
    d = digest o h

    w : Digest
    w = prelude o.who d e.event

    k : IsFresh o.who w (action o.who d e.event)
    k = fresh_at o up e h legal

    go : IsSentIn e.outs a (Begin s.0 b s.1 s.2 s.3 s.4) ⊎ HasSent h a (Begin s.0 b s.1 s.2 s.3 s.4) → (HasSent h a (Begin s.0 b s.1 s.2 s.3 s.4) → is_old o.who d b.mark ≡ true) → is_old o.who (digest o (e ∷ h)) b.mark ≡ true
    go (inl i) rest = (k.new a b (s.0, s.1, s.2, s.3, s.4, sent_now o up e h a (Begin s.0 b s.1 s.2 s.3 s.4) legal i)).1
    go (inr i) rest = old_stays o.who w (action o.who d e.event).next b.mark (drawn_by w (action o.who d e.event) k.linked) (old_stays o.who d w b.mark (first_drawn o.who d e.event) (rest i))

pub begun_once : (o : Origin) (up : Option Addr) (h : List Entry) (b : BranchId) (a c : Addr) → IsGrown o up h → HasBegun h b a → HasBegun h b c → a.node ≡ c.node
begun_once o up [] b a c legal s u = absurd s.5
begun_once o up (e ∷ h) b a c legal s u = go s.5 u.5 (λ r v. begun_once o up h b a c legal.3 (s.0, s.1, s.2, s.3, s.4, r) (u.0, u.1, u.2, u.3, u.4, v))
  where
    d : Digest
    d = digest o h

    w : Digest
    w = prelude o.who d e.event

    k : IsFresh o.who w (action o.who d e.event)
    k = fresh_at o up e h legal

    new : (z : Addr) (t : Aaid) (x y : Mark) (q : ℕ) (i : Holder) → IsSentIn e.outs z (Begin t b x y q i) → (v : Addr) → HasBegun h b v → ⊥
    new z t x y q i sent v old =
        cc ((k.new z b (t, x, y, q, i, sent_now o up e h z (Begin t b x y q i) legal sent)).0, old_stays o.who d w b.mark (first_drawn o.who d e.event) (begun_old o up h b v legal.3 old))

    go : IsSentIn e.outs a (Begin s.0 b s.1 s.2 s.3 s.4) ⊎ HasSent h a (Begin s.0 b s.1 s.2 s.3 s.4) → IsSentIn e.outs c (Begin u.0 b u.1 u.2 u.3 u.4) ⊎ HasSent h c (Begin u.0 b u.1 u.2 u.3 u.4)
        → (HasSent h a (Begin s.0 b s.1 s.2 s.3 s.4) → HasSent h c (Begin u.0 b u.1 u.2 u.3 u.4) → a.node ≡ c.node) → a.node ≡ c.node
    go (inr i) (inr j) rest = rest i j
    go (inl i) (inr j) rest = absurd (new a s.0 s.1 s.2 s.3 s.4 i c (u.0, u.1, u.2, u.3, u.4, j))
    go (inr i) (inl j) rest = absurd (new c u.0 u.1 u.2 u.3 u.4 j a (s.0, s.1, s.2, s.3, s.4, i))
    go (inl i) (inl j) rest = k.one a c b (s.0, s.1, s.2, s.3, s.4, sent_now o up e h a (Begin s.0 b s.1 s.2 s.3 s.4) legal i) (u.0, u.1, u.2, u.3, u.4, sent_now o up e h c (Begin u.0 b u.1 u.2 u.3 u.4) legal j)
