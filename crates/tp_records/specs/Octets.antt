-- Peer records whose octets are few enough for a count of two bytes, as those of every text are.
use Rattle.std.specs.Prelude.{ℕ, ◌<◌, ◌^◌, List, length}
use Rattle.tp_records.specs.declared.dialogue.DialogueRecord.{DialogueRecord}
use Rattle.tp_records.specs.declared.peer.PeerRecord.{PeerRecord}

abbrev pub IsShort : List ℕ → Type 0
IsShort octets = length octets < 2 ^ 16

abbrev pub IsShortDialogue : DialogueRecord → Type 0
IsShortDialogue (DialogueRecord.UserData xs) = IsShort xs
IsShortDialogue _ = Unit {0}

abbrev pub IsShortPeer : PeerRecord → Type 0
IsShortPeer (PeerRecord.OnAssoc x y s r) = IsShortDialogue r
IsShortPeer _ = Unit {0}
