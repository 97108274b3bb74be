-- The letters among the outputs of a node.
use Rattle.std.specs.Prelude.{ℕ, ◌≡◌, ◌++◌, Option, Some, None, List}
use Rattle.tp_names.specs.declared.identifiers.Addr.{Addr}
use Rattle.tp_records.specs.declared.peer.PeerRecord.{PeerRecord}
use Rattle.tp_records.specs.Bodies.{peer_bytes}
use Rattle.tp_records.specs.BodyReading.{peer_in}
use Rattle.tp_model.specs.Parts.{Out}
use Rattle.tp_weaving.specs.declared.letter.Letter.{Letter}
use Rattle.tp_weaving.specs.Letters.{letters_in, AreRead}

-- the octets say the record, and it is read back from them
pub record Spells (r : PeerRecord) (octets : List ℕ) : Type 0 where
  pub spelled : octets ≡ peer_bytes r
  pub reads : peer_in (peer_bytes r) ≡ Some r

-- the octets are those of the record that is read from them
abbrev pub IsRecordIn : List ℕ → Option PeerRecord → Type 0
IsRecordIn octets None = peer_in octets ≡ None
IsRecordIn octets (Some r) = (peer_in octets ≡ Some r) × (octets ≡ peer_bytes r)

-- the letters of the outputs are put behind the others
pub record AddsLetters (from : Addr) (outs : List Out) (old new : List Letter) : Type 0 where
  pub says : new ≡ old ++ letters_in from outs
  pub are_read : AreRead outs
