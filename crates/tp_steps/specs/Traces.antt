-- What one end of an association sent and took, by its history: as lists, and how they fit its link.
use Rattle.std.specs.Prelude.{ℕ, suc, ◌≤◌, ◌==◌, ◌≡◌, ◌&&◌, ◌||◌, ◌⊎◌, not, nat_lt, nat_le, Bool, true, false, if◌then◌else◌, List, [], ◌∷◌, length}
use Rattle.tp_names.specs.declared.identifiers.Mark.{Mark}
use Rattle.tp_names.specs.Same.{is_mark}
use Rattle.tp_records.specs.declared.dialogue.DialogueRecord.{DialogueRecord}
use Rattle.tp_records.specs.declared.peer.PeerRecord.{PeerRecord}
use Rattle.tp_model.specs.Parts.{Who, Event, Out, Link, Idle, Opening, Offered, Live, Digest}
use Rattle.tp_model.specs.Arcs.{link_with}
use Rattle.tp_model.specs.Node.{Move}
use Rattle.tp_model.specs.Questions.{said_to, sent_more}

-- the link sends next with this pair and number
abbrev pub is_next : Link → Mark → Mark → ℕ → Bool
is_next Idle x y seq = false
is_next (Opening z) x y seq = false
is_next (Offered z) x y seq = false
is_next (Live z w sent taken) x y seq = is_mark x z && is_mark y w && (seq == sent)

abbrev pub sent_one : Link → Link
sent_one Idle = Idle
sent_one (Opening x) = Opening x
sent_one (Offered x) = Offered x
sent_one (Live x y sent taken) = Live x y (suc sent) taken

-- the records to the peer are what the link sends, one after the other
abbrev pub fits : ℕ → Link → List Out → Bool
fits p l [] = true
fits p l (Out.Tell i ∷ outs) = fits p l outs
fits p l (Out.Send a (PeerRecord.OnAssoc x y seq r) ∷ outs) = if a.node == p then is_next l x y seq && fits p (sent_one l) outs else fits p l outs
fits p l (Out.Send a _ ∷ outs) = fits p l outs

-- how many records go to the peer
abbrev pub count_to : ℕ → List Out → ℕ
count_to p outs = length (said_to p outs)

-- outputs over a link, and what is left of it
pub record IsSaidOver (p : ℕ) (l : Link) (outs : List Out) (after : Link) : Type 0 where
  pub numbered : fits p l outs ≡ true
  pub link : (after ≡ sent_more (count_to p outs) l) ⊎ (after ≡ Idle)

-- what every event keeps of the link with a peer, of the marks and of the node's place, from its prelude on
pub record IsLinked (p : ℕ) (d : Digest) (m : Move) : Type 0 where
  pub over : IsSaidOver p (link_with d.arcs p) m.outs (link_with m.next.arcs p)
  pub drawn : d.drawn ≤ m.next.drawn
  pub boot : m.next.boot ≡ d.boot
  pub superior : m.next.superior ≡ d.superior
  pub declared : m.next.declared ≡ d.declared

-- ---- traces of a history, oldest first

abbrev pub sent_of : Mark → Mark → ℕ → List Out → List DialogueRecord
sent_of x y p [] = []
sent_of x y p (Out.Tell i ∷ outs) = sent_of x y p outs
sent_of x y p (Out.Send a (PeerRecord.OnAssoc z w s r) ∷ outs) = if (a.node == p) && is_mark x z
    && is_mark y w then r ∷ sent_of x y p outs else sent_of x y p outs
sent_of x y p (Out.Send a _ ∷ outs) = sent_of x y p outs

abbrev pub took_of : Mark → Mark → ℕ → Event → List DialogueRecord
took_of x y p (Event.Arrive a (PeerRecord.OnAssoc z w s r)) = if (a.node == p) && is_mark x z && is_mark y w then r ∷ [] else []
took_of x y p _ = []

-- ---- marks

-- the mark is none that this node draws later
abbrev pub is_old : Who → Digest → Mark → Bool
is_old who d m = not (m.node == who.node) || nat_lt m.boot d.boot || ((m.boot == d.boot) && nat_le m.count d.drawn)
