-- Octets that fit are read back after their count, and the names of what is begun one after the other.
use Rattle.tp_texts.proofs.PeerParts.{dialogue_taken}
use Rattle.tp_texts.proofs.peer_texts.dialogue_reads.Goals as goal

pub returns-in-Begin : goal.returns-in-Begin
returns-in-Begin c = rw c.in-Begin.is (dialogue_taken _ (c.aaid_reads.ensures, c.branch_reads.ensures))

pub returns-in-UserData : goal.returns-in-UserData
returns-in-UserData c = rw c.in-UserData.is (dialogue_taken _ (rw c.in-UserData.is at c.requires))
