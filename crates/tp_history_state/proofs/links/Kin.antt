-- An arc keeps its peer and its units in every event, from the event's prelude on: an instance of the steps of a node.
use Rattle.tp_history_state.proofs.Vocabulary.{if◌then◌else◌, ◌≡◌, ℕ, Bool, true, false, refl, ap, sym, ◌∙◌, arith, Option, Some, None, List, [], ◌∷◌, ◌==◌, nat_tests, Addr, Outcome, DialogueRecord, Side, TxEvent, TxOut, Who, Event, Out, Link, Dialogue, Arc, Current, Digest, Heard, Asked, said, heard, begun_by, cleared, woken, completed, rested, named_holder, find_arc, without_arc, with_dialogue, with_dialogues, with_link, carried, carried_on, performed_one, performed, Transaction, Turn, transacted, settled, Move, is_arc_of, is_arc_below, is_granting, is_leaving, Passage, Stays, Enters, Falls, Falls_at_once, Commits, Rolls_back, Leaves, passage, entered, played, completed_arcs, committed_arcs, committed_dialogue, left_arcs, grants, side_at, without_deferral, turned, begin_on, seen, Moves, IsChange, By_waking, By_saying, By_hearing, By_beginning, By_leaving, around_grants}
use Rattle.tp_steps.proofs.lemmas.Options.{some_same}
use Rattle.tp_model.specs.Arcs.{shut_says, shut_with}
use Rattle.tp_model.specs.Dialogues.{Ask_grant}
use Rattle.tp_history_state.proofs.lemmas.Begins.{begin_word, begin_arcs, begins_so}

-- each arc with p was there, with the same peer and the same units
abbrev pub IsKin : ℕ → List Arc → List Arc → Type 0
IsKin p xs ys = (a : Arc) → find_arc ys p ≡ Some a → (b : Arc) × (find_arc xs p ≡ Some b) × (a.peer ≡ b.peer) × (a.dialogue.units ≡ b.dialogue.units)

pub kin_self : (p : ℕ) (xs : List Arc) → IsKin p xs xs
kin_self p xs a i = (a, i, refl, refl)

pub kin_then : (p : ℕ) (xs ys zs : List Arc) → IsKin p xs ys → IsKin p ys zs → IsKin p xs zs
kin_then p xs ys zs one two a i = let y = two a i in let x = one y.0 y.1 in (x.0, x.1, y.2 ∙ x.2, y.3 ∙ x.3)

kin_none : (p : ℕ) (xs : List Arc) → IsKin p xs []
kin_none p xs a i = absurd (cc (i))

-- the first arc has the peer and the units that it had
kin_head : (p : ℕ) (a b : Arc) (xs ys : List Arc) → b.peer ≡ a.peer → b.dialogue.units ≡ a.dialogue.units → IsKin p xs ys → IsKin p (a ∷ xs) (b ∷ ys)
kin_head p a b xs ys peer units rest c h = go (b.peer.node == p) refl h
  where
    same : (a.peer.node == p) ≡ (b.peer.node == p)
    same = ap (λ (v : Addr). v.node == p) (sym peer)

    go : (v : Bool) → (b.peer.node == p) ≡ v → (if v then Some b else find_arc ys p) ≡ Some c
        → (x : Arc) × ((if a.peer.node == p then Some a else find_arc xs p) ≡ Some x) × (c.peer ≡ x.peer) × (c.dialogue.units ≡ x.dialogue.units)
    go true i k =
        let at : (a.peer.node == p) ≡ true = same ∙ i in
        let one : b ≡ c = some_same b c k in
        (a, rw at refl, ap (λ (x : Arc). x.peer) (sym one) ∙ peer, ap (λ (x : Arc). x.dialogue.units) (sym one) ∙ units)
    go false i k =
        let off : (a.peer.node == p) ≡ false = same ∙ i in
        let z = rest c k in
        (z.0, rw off z.1, z.2, z.3)

pub kin_dialogue : (p q : ℕ) (f : Dialogue → Dialogue) → ((x : Dialogue) → (f x).units ≡ x.units) → (arcs : List Arc) → IsKin p arcs (with_dialogue arcs q f)
kin_dialogue p q f k [] = kin_none p []
kin_dialogue p q f k (a ∷ arcs) = go (a.peer.node == q) (kin_dialogue p q f k arcs)
  where
    go : (b : Bool) → IsKin p arcs (with_dialogue arcs q f) → IsKin p (a ∷ arcs) (if b then record a { dialogue = f a.dialogue } ∷ arcs else a ∷ with_dialogue arcs q f)
    go true rest = kin_head p a (record a { dialogue = f a.dialogue }) arcs arcs refl (k a.dialogue) (kin_self p arcs)
    go false rest = kin_head p a a arcs (with_dialogue arcs q f) refl refl rest

kin_dialogues : (p : ℕ) (t : Arc → Bool) (f : Arc → Dialogue) → ((a : Arc) → (f a).units ≡ a.dialogue.units) → (arcs : List Arc) → IsKin p arcs (with_dialogues arcs t f)
kin_dialogues p t f k [] = kin_none p []
kin_dialogues p t f k (a ∷ arcs) = go (t a) (kin_dialogues p t f k arcs)
  where
    go : (b : Bool) → IsKin p arcs (with_dialogues arcs t f) → IsKin p (a ∷ arcs) ((if b then record a { dialogue = f a } else a) ∷ with_dialogues arcs t f)
    go true rest = kin_head p a (record a { dialogue = f a }) arcs (with_dialogues arcs t f) refl (k a) rest
    go false rest = kin_head p a a arcs (with_dialogues arcs t f) refl refl rest

pub kin_link : (p q : ℕ) (f : Link → Link) (arcs : List Arc) → IsKin p arcs (with_link arcs q f)
kin_link p q f [] = kin_none p []
kin_link p q f (a ∷ arcs) = go (a.peer.node == q) (kin_link p q f arcs)
  where
    go : (b : Bool) → IsKin p arcs (with_link arcs q f) → IsKin p (a ∷ arcs) (if b then record a { link = f a.link } ∷ arcs else a ∷ with_link arcs q f)
    go true rest = kin_head p a (record a { link = f a.link }) arcs arcs refl refl (kin_self p arcs)
    go false rest = kin_head p a a arcs (with_link arcs q f) refl refl rest

pub found_without : (arcs : List Arc) (q p : ℕ) → find_arc (without_arc arcs q) p ≡ (if q == p then None else find_arc arcs p)
found_without [] q p = grind arith
found_without (a ∷ arcs) q p = grind (arith, nat_tests, found_without arcs q p)

pub kin_without : (p q : ℕ) (arcs : List Arc) → IsKin p arcs (without_arc arcs q)
kin_without p q arcs a h = go (q == p) (sym (found_without arcs q p) ∙ h)
  where
    go : (b : Bool) → (if b then None else find_arc arcs p) ≡ Some a → (x : Arc) × (find_arc arcs p ≡ Some x) × (a.peer ≡ x.peer) × (a.dialogue.units ≡ x.dialogue.units)
    go true k = absurd (cc (k))
    go false k = (a, k, refl, refl)

-- ---- outputs

kin_carried : (p : ℕ) (arcs : List Arc) (q : ℕ) (r : DialogueRecord) → IsKin p arcs (carried arcs q r).0
kin_carried p [] q r = kin_none p []
kin_carried p (a ∷ arcs) q r = go (a.peer.node == q) (kin_carried p arcs q r)
  where
    same : ((carried_on a r).0.peer ≡ a.peer) × ((carried_on a r).0.dialogue.units ≡ a.dialogue.units)
    same = grind arith

    go : (b : Bool) → IsKin p arcs (carried arcs q r).0 → IsKin p (a ∷ arcs) (if◌then◌else◌ {A = List Arc × List Out} b (let s = carried_on a r in (s.0 ∷ arcs, s.1)) (let s = carried arcs q r in (a ∷ s.0, s.1))).0
    go true rest = kin_head p a (carried_on a r).0 arcs arcs same.0 same.1 (kin_self p arcs)
    go false rest = kin_head p a a arcs (carried arcs q r).0 refl refl rest

kin_shut : (p : ℕ) (arcs : List Arc) (q : ℕ) → IsKin p arcs (shut_with arcs q).0
kin_shut p arcs q = go (find_arc arcs q)
  where
    go : (o : Option Arc) → IsKin p arcs (elim o as (λ _. List Arc × List Out) [ None ↦ (arcs, []) | Some a ↦ (without_arc arcs q, shut_says a.peer a.link) ]).0
    go None = kin_self p arcs
    go (Some a) = kin_without p q arcs

kin_one : (p : ℕ) (arcs : List Arc) (o : TxOut) → IsKin p arcs (performed_one arcs o).0
kin_one p arcs (TxOut.Tell i) = kin_self p arcs
kin_one p arcs (TxOut.Carry q r) = kin_carried p arcs q r
kin_one p arcs (TxOut.Shut q) = kin_shut p arcs q
kin_one p arcs (TxOut.Recovery a r) = kin_self p arcs
kin_one p arcs (TxOut.Close q) = kin_without p q arcs

pub kin_performed : (p : ℕ) (arcs : List Arc) (outs : List TxOut) → IsKin p arcs (performed arcs outs).0
kin_performed p arcs [] = kin_self p arcs
kin_performed p arcs (o ∷ outs) = kin_then p arcs (performed_one arcs o).0 (performed (performed_one arcs o).0 outs).0 (kin_one p arcs o) (kin_performed p (performed_one arcs o).0 outs)

-- ---- passages

cleared_units : (x : Dialogue) → (cleared x).units ≡ x.units
unfolding cleared
cleared_units x = refl

completed_units : (o : Outcome) (s : Side) (x : Dialogue) → (completed o s x).units ≡ x.units
unfolding completed
completed_units o s x = refl

rested_units : (x : Dialogue) → (rested x).units ≡ x.units
unfolding rested cleared
rested_units x = refl

committed_units : (d : Digest) (t : Transaction) (a : Arc) → (committed_dialogue d t a).units ≡ a.dialogue.units
unfolding completed said
committed_units d t a = go (is_granting t a)
  where
    over : Dialogue
    over = completed Outcome.Commit (side_at d a.peer.node) a.dialogue

    go : (b : Bool) → (if b then said Ask_grant over else over).units ≡ a.dialogue.units
    go true = refl
    go false = refl

kin_entered : (p : ℕ) (t : Transaction) (w : Passage) (arcs : List Arc) → IsKin p arcs (entered t w arcs)
unfolding entered
kin_entered p t Enters arcs = kin_dialogues p (is_arc_of t) (λ a. cleared a.dialogue) (λ a. cleared_units a.dialogue) arcs
kin_entered p t Falls arcs = kin_dialogues p (is_arc_of t) (λ a. without_deferral (cleared a.dialogue)) (λ a. cleared_units a.dialogue) arcs
kin_entered p t Falls_at_once arcs = kin_dialogues p (is_arc_of t) (λ a. without_deferral (cleared a.dialogue)) (λ a. cleared_units a.dialogue) arcs
kin_entered p t _ arcs = kin_self p arcs

kin_over : (p : ℕ) (d : Digest) (t : Transaction) (o : Outcome) (arcs : List Arc) → IsKin p arcs (completed_arcs d t o arcs)
kin_over p d t o arcs = kin_dialogues p (is_arc_of t) (λ a. completed o (side_at d a.peer.node) a.dialogue) (λ a. completed_units o (side_at d a.peer.node) a.dialogue) arcs

kin_left : (p : ℕ) (t : Transaction) (arcs : List Arc) → IsKin p arcs (left_arcs t arcs)
kin_left p t arcs =
    let mid : List Arc = with_dialogues arcs (is_arc_below t) (λ a. completed Outcome.Rollback Side.Superior a.dialogue) in
    kin_then p arcs mid (left_arcs t arcs) (kin_dialogues p (is_arc_below t) (λ a. completed Outcome.Rollback Side.Superior a.dialogue) (λ a. completed_units Outcome.Rollback Side.Superior a.dialogue) arcs)
    (kin_dialogues p _ (λ a. rested a.dialogue) (λ a. rested_units a.dialogue) mid)

kin_committed : (p : ℕ) (d : Digest) (t : Transaction) (asks : Turn) (arcs : List Arc) → IsKin p arcs (played d t Commits asks arcs).0
unfolding played
kin_committed p d t asks arcs =
    let s = around_grants asks in
    let one = performed arcs s.0 in
    let mid : List Arc = committed_arcs d t one.0 in
    let two = performed mid (grants t one.0) in
    let three = performed two.0 s.1 in
    kin_then p arcs one.0 three.0 (kin_performed p arcs s.0)
    (kin_then p one.0 mid three.0 (kin_dialogues p (is_arc_of t) (committed_dialogue d t) (committed_units d t) one.0) (kin_then p mid two.0 three.0 (kin_performed p mid (grants t one.0)) (kin_performed p two.0 s.1)))

kin_played : (p : ℕ) (d : Digest) (t : Transaction) (w : Passage) (asks : Turn) (arcs : List Arc) → IsKin p arcs (played d t w asks arcs).0
unfolding played
kin_played p d t Stays asks arcs = kin_performed p arcs asks.outs
kin_played p d t Enters asks arcs = kin_performed p arcs asks.outs
kin_played p d t Falls asks arcs = kin_performed p arcs asks.outs
kin_played p d t Falls_at_once asks arcs = kin_then p arcs (performed arcs asks.outs).0 (completed_arcs d t Outcome.Rollback (performed arcs asks.outs).0) (kin_performed p arcs asks.outs) (kin_over p d t Outcome.Rollback (performed arcs asks.outs).0)
kin_played p d t Commits asks arcs = kin_committed p d t asks arcs
kin_played p d t Rolls_back asks arcs = kin_then p arcs (performed arcs asks.outs).0 (completed_arcs d t Outcome.Rollback (performed arcs asks.outs).0) (kin_performed p arcs asks.outs) (kin_over p d t Outcome.Rollback (performed arcs asks.outs).0)
kin_played p d t Leaves asks arcs = kin_then p arcs (performed arcs asks.outs).0 (left_arcs t (performed arcs asks.outs).0) (kin_performed p arcs asks.outs) (kin_left p t (performed arcs asks.outs).0)

kin_turned : (who : Who) (f : TxEvent) (d : Digest) (c : Current) (p : ℕ) → IsKin p d.arcs (turned who f d c).next.arcs
kin_turned who f d c p =
    let t : Transaction = seen who d.arcs c in
    let a : Turn = transacted f t in
    let w : Passage = passage (is_leaving f) t.phase a.next.phase in
    kin_then p d.arcs (entered t w d.arcs) (turned who f d c).next.arcs (kin_entered p t w d.arcs) (kin_played p d t w a (entered t w d.arcs))

-- ---- the steps

begun_units : (h : _) (s : Side) (x : Dialogue) → (begun_by h s x).units ≡ x.units
unfolding begun_by
begun_units h s x = refl

kin_begins : (who : Who) (p q : ℕ) (d : Digest) → IsKin p d.arcs (begin_on who q d).next.arcs
kin_begins who p q d =
    begins_so (λ (m : Move). IsKin p d.arcs m.next.arcs) who q d (kin_self p d.arcs)
    (λ c i a found may. kin_then p d.arcs (begin_arcs q d a) (performed (begin_arcs q d a) (TxOut.Carry q (begin_word who d c a) ∷ [])).0 (kin_dialogue p q (begun_by (named_holder a.dialogue) Side.Superior) (begun_units (named_holder a.dialogue) Side.Superior) d.arcs)
    (kin_performed p (begin_arcs q d a) (TxOut.Carry q (begin_word who d c a) ∷ [])))

change_units : (e : Event) (d : Digest) (q : ℕ) (f : Dialogue → Dialogue) → IsChange e d q f → (x : Dialogue) → (f x).units ≡ x.units
unfolding said heard begun_by cleared woken
change_units e d q f (By_waking at is) x = ap (λ (g : Dialogue → Dialogue). (g x).units) is
change_units e d q f (By_saying a at is k) x = ap (λ (g : Dialogue → Dialogue). (g x).units) is ∙ go a
  where
    go : (a : Asked) → (said a x).units ≡ x.units
    go a = grind arith
change_units e d q f (By_hearing a at is k) x = ap (λ (g : Dialogue → Dialogue). (g x).units) is ∙ go a
  where
    go : (a : Heard) → (heard a x).units ≡ x.units
    go a = grind arith
change_units e d q f (By_beginning h at is) x = ap (λ (g : Dialogue → Dialogue). (g x).units) is
change_units e d q f (By_leaving at is) x = ap (λ (g : Dialogue → Dialogue). (g x).units) is

pub kin_moves : (who : Who) (e : Event) (s : Digest) (p : ℕ) → Moves who e s (λ d m. IsKin p d.arcs m.next.arcs)
kin_moves who e s p = record {
  still = λ d. kin_self p d.arcs;
  chain = λ d a f one two quiet. kin_then p d.arcs a.next.arcs (f a.next).next.arcs one two;
  speaks = λ d outs h own said. kin_performed p d.arcs outs;
  changes_dialogue = λ d q f m by one. kin_then p d.arcs (with_dialogue d.arcs q f) m.next.arcs (kin_dialogue p q f (change_units e d q f by) d.arcs) one;
  drops_arc = λ d q m at one. kin_then p d.arcs (without_arc d.arcs q) m.next.arcs (kin_without p q d.arcs) one;
  notes_kept = λ d ks m held one. one;
  keeps = λ d k f held. kin_performed p d.arcs (settled k f).outs;
  turns = λ d c f now at asked put gone. kin_turned who f d c p;
  begins = λ d q may. kin_begins who p q d;
  roots = λ d m nil may one. one;
}
