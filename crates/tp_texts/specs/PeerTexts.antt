-- Which peer records have a text, and what their octets are.
use Rattle.std.specs.Prelude.{◌≤◌, length}
use Rattle.tp_names.specs.Grammar.{HasText}
use Rattle.tp_records.specs.declared.dialogue.DialogueRecord.{DialogueRecord}
use Rattle.tp_records.specs.declared.peer.PeerRecord.{PeerRecord}
use Rattle.tp_records.specs.BodyReading.{peer_grammar}

pub record HasPeerText (v : PeerRecord) : Type 0 where
  pub text : HasText peer_grammar v

-- no more of a user's octets than fit in a record
abbrev pub HasFewOctets : DialogueRecord → Type 0
HasFewOctets (DialogueRecord.UserData xs) = length xs ≤ 1024
HasFewOctets _ = Unit {0}

-- nor in a record that goes from node to node
abbrev pub CarriesFew : PeerRecord → Type 0
CarriesFew (PeerRecord.OnAssoc x y q r) = HasFewOctets r
CarriesFew _ = Unit {0}
