-- From its prelude on, an event sends to a peer what the link with it sends, and draws marks only upwards: an instance
-- of the steps of a node.
use Rattle.std.proofs.Common.{◌≡◌, ◌≤◌, ℕ, suc, true, refl, sym, subst, ◌∙◌, arith, Some, List, [], ◌∷◌, ◌++◌, ◌&&◌, ap}
use Rattle.tp_names.specs.declared.outcome.Outcome.{Outcome}
use Rattle.tp_records.specs.declared.dialogue.DialogueRecord.{DialogueRecord}
use Rattle.tp_model.specs.declared.arc.Side.{Side}
use Rattle.tp_model.specs.declared.transaction.TxEvent.{TxEvent}
use Rattle.tp_model.specs.declared.transaction.TxOut.{TxOut}
use Rattle.tp_model.specs.Parts.{Who, Event, Out, Link, Arc, Current, Digest}
use Rattle.tp_model.specs.Arcs.{find_arc, link_with, with_dialogue, without_arc, performed}
use Rattle.tp_model.specs.Dialogues.{begun_by, named_holder}
use Rattle.tp_model.specs.Transactions.{Transaction, Turn, aaid_of, transacted}
use Rattle.tp_model.specs.Recovery.{settled}
use Rattle.tp_model.specs.Node.{Move, move, followed, perform, next_mark, seen, Passage, Stays, Enters, Falls, Falls_at_once, Commits, Rolls_back, Leaves, passage, is_leaving, entered, played, completed_arcs, left_arcs, perform_commit, committed_arcs, grants, may_begin_on, begin_on, around_grants}
use Rattle.tp_model.specs.Node.{turned}
use Rattle.tp_steps.specs.Moves.{are_apart, Moves, IsPut}
use Rattle.tp_steps.specs.Traces.{IsSaidOver, IsLinked}
use Rattle.tp_steps.proofs.links.Links.{over_none, over_then, over_performed, over_without, link_dialogue, link_dialogues}
use Rattle.tp_steps.proofs.links.Apart.{apart_spoken, apart_grants, apart_settled, apart_turn, apart_append}
use Rattle.tp_steps.proofs.every.BeginCases.{begun_over, begin_cases}
use Rattle.std.proofs.Math.Nat.{le_refl}
use Rattle.tp_steps.proofs.words.Fair.{at_most_then}
use Rattle.tp_steps.proofs.links.Whole.{IsWhole, whole_turn}

-- ---- outputs of a transaction at the arcs

pub parts_apart : (s : List TxOut × List TxOut) → are_apart (s.0 ++ s.1) ≡ true → (are_apart s.0 && are_apart s.1) ≡ true
parts_apart s h = sym (apart_append s.0 s.1) ∙ h

pub link_entered : (t : Transaction) (w : Passage) (arcs : List Arc) (p : ℕ) → link_with (entered t w arcs) p ≡ link_with arcs p
unfolding entered
link_entered t Stays arcs p = refl
link_entered t Enters arcs p = link_dialogues arcs _ _ p
link_entered t Falls arcs p = link_dialogues arcs _ _ p
link_entered t Falls_at_once arcs p = link_dialogues arcs _ _ p
link_entered t Commits arcs p = refl
link_entered t Rolls_back arcs p = refl
link_entered t Leaves arcs p = refl

pub link_completed : (d : Digest) (t : Transaction) (o : Outcome) (arcs : List Arc) (p : ℕ) → link_with (completed_arcs d t o arcs) p ≡ link_with arcs p
link_completed d t o arcs p = link_dialogues arcs _ _ p

pub link_committed : (d : Digest) (t : Transaction) (arcs : List Arc) (p : ℕ) → link_with (committed_arcs d t arcs) p ≡ link_with arcs p
link_committed d t arcs p = link_dialogues arcs _ _ p

pub link_left : (t : Transaction) (arcs : List Arc) (p : ℕ) → link_with (left_arcs t arcs) p ≡ link_with arcs p
link_left t arcs p = link_dialogues _ _ _ p ∙ link_dialogues arcs _ _ p

-- the link before and after may be named by equal arcs
over_ends : (p : ℕ) (l m n : Link) (outs : List Out) → n ≡ m → IsSaidOver p l outs m → IsSaidOver p l outs n
over_ends p l m n outs same over = subst (λ (k : Link). IsSaidOver p l outs k) (sym same) over

over_begins : (p : ℕ) (l m n : Link) (outs : List Out) → m ≡ l → IsSaidOver p m outs n → IsSaidOver p l outs n
over_begins p l m n outs same over = subst (λ (k : Link). IsSaidOver p k outs n) same over

over_commit : (d : Digest) (t : Transaction) (s : List TxOut × List TxOut) (arcs : List Arc) (p : ℕ) → are_apart (s.0 ++ s.1) ≡ true
    → IsSaidOver p (link_with arcs p) (perform_commit d t s arcs).1 (link_with (perform_commit d t s arcs).0 p)
over_commit d t s arcs p h =
    let parts = parts_apart s h in
    let one = performed arcs s.0 in
    let mid : List Arc = committed_arcs d t one.0 in
    let two = performed mid (grants t one.0) in
    let three = performed two.0 s.1 in
    let first : IsSaidOver p (link_with arcs p) one.1 (link_with one.0 p) = over_performed arcs s.0 p (grind (arith, parts)) in
    let second : IsSaidOver p (link_with one.0 p) two.1 (link_with two.0 p) =
    over_begins p (link_with one.0 p) (link_with mid p) (link_with two.0 p) two.1 (link_committed d t one.0 p) (over_performed mid (grants t one.0) p (apart_grants t one.0)) in
    let third : IsSaidOver p (link_with two.0 p) three.1 (link_with three.0 p) = over_performed two.0 s.1 p (grind (arith, parts)) in
    over_then p (link_with arcs p) (link_with two.0 p) (link_with three.0 p) (one.1 ++ two.1) three.1 (over_then p (link_with arcs p) (link_with one.0 p) (link_with two.0 p) one.1 two.1 first second) third

pub over_played : (d : Digest) (t : Transaction) (w : Passage) (b : Turn) → IsWhole b → (arcs : List Arc) (p : ℕ) → are_apart b.outs ≡ true
    → IsSaidOver p (link_with arcs p) (played d t w b arcs).1 (link_with (played d t w b arcs).0 p)
unfolding played
over_played d t Falls_at_once b whole arcs p h =
    let a = performed arcs b.outs in
    over_ends p (link_with arcs p) (link_with a.0 p) (link_with (completed_arcs d t Outcome.Rollback a.0) p) a.1 (link_completed d t Outcome.Rollback a.0 p) (over_performed arcs b.outs p h)
over_played d t Commits b whole arcs p h = over_commit d t (around_grants b) arcs p (ap are_apart whole ∙ h)
over_played d t Rolls_back b whole arcs p h =
    let a = performed arcs b.outs in
    over_ends p (link_with arcs p) (link_with a.0 p) (link_with (completed_arcs d t Outcome.Rollback a.0) p) a.1 (link_completed d t Outcome.Rollback a.0 p) (over_performed arcs b.outs p h)
over_played d t Leaves b whole arcs p h =
    let a = performed arcs b.outs in
    over_ends p (link_with arcs p) (link_with a.0 p) (link_with (left_arcs t a.0) p) a.1 (link_left t a.0 p) (over_performed arcs b.outs p h)
over_played d t _ b whole arcs p h = over_performed arcs b.outs p h

-- ---- the steps

pub one_more : (a b : ℕ) → suc a ≤ b → a ≤ b
one_more a b h = omega (arith, h)

linked_turned : (who : Who) (f : TxEvent) (d : Digest) (c : Current) (p : ℕ) → IsPut f (seen who d.arcs c) → IsLinked p d (turned who f d c)
linked_turned who f d c p put =
    let t : Transaction = seen who d.arcs c in
    let a : Turn = transacted f t in
    let w : Passage = passage (is_leaving f) t.phase a.next.phase in
    let arcs : List Arc = entered t w d.arcs in
    let s = played d t w a arcs in
    record {
      over = over_begins p (link_with d.arcs p) (link_with arcs p) (link_with s.0 p) s.1 (link_entered t w d.arcs p) (over_played d t w a (whole_turn f t) arcs p (apart_turn f t put));
      drawn = le_refl d.drawn;
      boot = refl;
      superior = refl;
      declared = refl;
    }

linked_perform : (d : Digest) (outs : List TxOut) (p : ℕ) → are_apart outs ≡ true → IsLinked p d (perform outs d)
linked_perform d outs p h = record { over = over_performed d.arcs outs p h; drawn = le_refl d.drawn; boot = refl; superior = refl; declared = refl }

linked_begins : (who : Who) (p q : ℕ) (d : Digest) → IsLinked p d (begin_on who q d)
linked_begins who p q d = begin_cases (IsLinked p d) who q d still on
  where
    still : IsLinked p d (move [] d)
    still = record { over = over_none p (link_with d.arcs p) [] refl; drawn = le_refl d.drawn; boot = refl; superior = refl; declared = refl }

    on : (c : Current) (a : Arc) → d.current ≡ Some c → find_arc d.arcs q ≡ Some a → may_begin_on who d a ≡ true → IsLinked p d (begun_over who q d c a)
    on c a now found may =
        let arcs : List Arc = with_dialogue d.arcs q (begun_by (named_holder a.dialogue) Side.Superior) in
        let outs : List TxOut = TxOut.Carry q (DialogueRecord.Begin (aaid_of c.key) (record { superior = who.site; mark = next_mark who d }) (named_holder a.dialogue)) ∷ [] in
        let s = performed arcs outs in
        record {
          over = over_begins p (link_with d.arcs p) (link_with arcs p) (link_with s.0 p) s.1 (link_dialogue d.arcs q (begun_by (named_holder a.dialogue) Side.Superior) p) (over_performed arcs outs p refl);
          drawn = one_more d.drawn (suc d.drawn) (le_refl (suc d.drawn));
          boot = refl;
          superior = refl;
          declared = refl;
        }

linked_chain : (p : ℕ) (d : Digest) (a : Move) (f : Digest → Move) → IsLinked p d a → IsLinked p a.next (f a.next) → IsLinked p d (followed a f)
linked_chain p d a f one two = record {
  over = over_then p (link_with d.arcs p) (link_with a.next.arcs p) (link_with (f a.next).next.arcs p) a.outs (f a.next).outs one.over two.over;
  drawn = at_most_then d.drawn a.next.drawn (f a.next).next.drawn one.drawn two.drawn;
  boot = two.boot ∙ one.boot;
  superior = two.superior ∙ one.superior;
  declared = two.declared ∙ one.declared;
}

linked_dropped : (p : ℕ) (d : Digest) (q : ℕ) (m : Move) → IsLinked p (record d { arcs = without_arc d.arcs q }) m → IsLinked p d m
linked_dropped p d q m one = record {
  over = over_then p (link_with d.arcs p) (link_with (without_arc d.arcs q) p) (link_with m.next.arcs p) [] m.outs (over_without d.arcs q p [] refl) one.over;
  drawn = one.drawn;
  boot = one.boot;
  superior = one.superior;
  declared = one.declared;
}

pub linked_moves : (who : Who) (e : Event) (s : Digest) (p : ℕ) → Moves who e s (IsLinked p)
linked_moves who e s p = record {
  still = λ d. record { over = over_none p (link_with d.arcs p) [] refl; drawn = le_refl d.drawn; boot = refl; superior = refl; declared = refl };
  chain = λ d a f one two none. linked_chain p d a f one two;
  speaks = λ d outs h own said. linked_perform d outs p (apart_spoken outs h);
  changes_dialogue = λ d q f m by one. record {
    over = over_begins p (link_with d.arcs p) (link_with (with_dialogue d.arcs q f) p) (link_with m.next.arcs p) m.outs (link_dialogue d.arcs q f p) one.over;
    drawn = one.drawn;
    boot = one.boot;
    superior = one.superior;
    declared = one.declared;
  };
  drops_arc = λ d q m at one. linked_dropped p d q m one;
  notes_kept = λ d ks m held one. record { over = one.over; drawn = one.drawn; boot = one.boot; superior = one.superior; declared = one.declared };
  keeps = λ d k f held. record { over = over_performed d.arcs (settled k f).outs p (apart_settled k f); drawn = le_refl d.drawn; boot = refl; superior = refl; declared = refl };
  turns = λ d c f now at asked put gone. linked_turned who f d c p put;
  begins = λ d q free. linked_begins who p q d;
  roots = λ d m nil may one. record { over = one.over; drawn = one_more d.drawn m.next.drawn one.drawn; boot = one.boot; superior = one.superior; declared = one.declared };
}
