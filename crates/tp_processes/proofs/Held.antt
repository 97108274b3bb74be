-- A record whose numbers and names a program holds, and that carries no more of a user's octets than fit, is read back from its octets.
use Rattle.std.proofs.Common.{◌≡◌, ap, Some, None}
use Rattle.tp_names.specs.declared.identifiers.Aaid.{Aaid}
use Rattle.tp_names.specs.declared.identifiers.BranchId.{BranchId}
use Rattle.tp_names.specs.declared.identifiers.Mark.{Mark}
use Rattle.tp_names.specs.Bytes.{mark_bytes, aaid_bytes, branch_bytes}
use Rattle.tp_names.specs.Reading.{read_mark, read_aaid, read_branch}
use Rattle.tp_records.specs.declared.dialogue.DialogueRecord.{DialogueRecord}
use Rattle.tp_records.specs.declared.peer.PeerRecord.{PeerRecord}
use Rattle.tp_records.specs.Bodies.{peer_bytes}
use Rattle.tp_records.specs.BodyReading.{whole, peer_in}
use Rattle.tp_texts.specs.Texts.{Takes}
use Rattle.tp_texts.specs.PeerTexts.{HasPeerText, HasFewOctets, CarriesFew}
use Rattle.tp_texts.proofs.TakenValues.{name_taken, mark_taken, aaid_taken, branch_taken}
use Rattle.tp_texts.proofs.PeerParts.{units_taken, no_mark_taken, some_mark_taken, PartsTaken, dialogue_taken}
use Rattle.tp_texts.proofs.PeerTexts.{open_text, accept_text, shut_text, on_assoc_text, ready_text, commit_text, reply_text, forget_text}
use Rattle.tp_processes.specs.Octets.{IsHeldMark, IsHeldAaid, IsHeldBranch, IsHeldDialogue, IsHeld}

mark : (m : Mark) → IsHeldMark m → Takes read_mark (mark_bytes m) m
mark m h = mark_taken m h.0 h.1 h.2

aaid : (a : Aaid) → IsHeldAaid a → Takes read_aaid (aaid_bytes a) a
aaid a h = aaid_taken a (name_taken a.owner h.0) (mark a.mark h.1)

branch : (b : BranchId) → IsHeldBranch b → Takes read_branch (branch_bytes b) b
branch b h = branch_taken b (name_taken b.superior h.0) (mark b.mark h.1)

parts : (r : DialogueRecord) → HasFewOctets r → IsHeldDialogue r → PartsTaken r
parts (DialogueRecord.UserData xs) few held = few
parts (DialogueRecord.Begin a b h) few held = (aaid a held.0, branch b held.1)
parts _ few held = tt

has_text : (r : PeerRecord) → CarriesFew r → IsHeld r → HasPeerText r
has_text (PeerRecord.OpenAssoc x u) few held = open_text x u (mark x held.0) (units_taken u held.1.0 held.1.1)
has_text (PeerRecord.AcceptAssoc x y u) few held = accept_text x y u (mark x held.0) (mark y held.1) (units_taken u held.2.0 held.2.1)
has_text (PeerRecord.ShutAssoc x None) few held = shut_text x None (mark x held) no_mark_taken
has_text (PeerRecord.ShutAssoc x (Some y)) few held = shut_text x (Some y) (mark x held.0) (some_mark_taken y (mark y held.1))
has_text (PeerRecord.OnAssoc x y q r) few held = on_assoc_text x y q r held.2 (mark x held.0) (mark y held.1) (dialogue_taken r (parts r few held.3))
has_text (PeerRecord.RecReady a b) few held = ready_text a b (aaid a held.0) (branch b held.1)
has_text (PeerRecord.RecCommit a b) few held = commit_text a b (aaid a held.0) (branch b held.1)
has_text (PeerRecord.RecReply a b s) few held = reply_text a b s (aaid a held.0) (branch b held.1)
has_text (PeerRecord.Forget a b) few held = forget_text a b (aaid a held.0) (branch b held.1)

pub read_back : (r : PeerRecord) → CarriesFew r → IsHeld r → peer_in (peer_bytes r) ≡ Some r
read_back r few held = ap whole (has_text r few held).text
