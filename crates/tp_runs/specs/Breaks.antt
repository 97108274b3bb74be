-- Records that were answered out of phase: each ended the association that it came on.
use Rattle.std.specs.Prelude.{ℕ, ◌==◌, ◌≡◌, ◌&&◌, ◌||◌, Bool, true, false, Option, List, [], ◌∷◌}
use Rattle.tp_names.specs.declared.identifiers.Mark.{Mark}
use Rattle.tp_names.specs.declared.identifiers.Addr.{Addr}
use Rattle.tp_names.specs.Same.{is_mark}
use Rattle.tp_records.specs.declared.peer.PeerRecord.{PeerRecord}
use Rattle.tp_model.specs.Parts.{Who, Event, Entry, Opening, Live, Digest}
use Rattle.tp_model.specs.Arcs.{link_with}
use Rattle.tp_steps.specs.Traces.{is_old}
use Rattle.tp_histories.specs.Traces.{own_mark}

-- with that pair, from the node p
abbrev pub is_broken_by : Mark → Mark → ℕ → Event → Bool
is_broken_by x y p (Event.Break a (PeerRecord.OnAssoc z w s r)) = (a.node == p) && is_mark x z && is_mark y w
is_broken_by x y p _ = false

abbrev pub has_broken : Mark → Mark → ℕ → List Entry → Bool
has_broken x y p [] = false
has_broken x y p (e ∷ h) = is_broken_by x y p e.event || has_broken x y p h

-- in a legal history: the pair's own mark was drawn, and no link has the pair again
pub record AreBreaks (who : Who) (up : Option Addr) (d : Digest) (h : List Entry) : Type 0 where
  pub old : (p : ℕ) (x y : Mark) → has_broken x y p h ≡ true → is_old who d (own_mark up p x y) ≡ true
  pub live : (p : ℕ) (x y : Mark) (s t : ℕ) → link_with d.arcs p ≡ Live x y s t → has_broken x y p h ≡ false
  pub opening : (p : ℕ) (x y : Mark) → link_with d.arcs p ≡ Opening x → has_broken x y p h ≡ false
