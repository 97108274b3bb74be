-- Which peer records have a text: all whose parts are read back, and of those on an association none with more octets than fit.
use Rattle.std.proofs.Common.{◌≡◌, ℕ, ◌<◌, ◌^◌, Option, List, [], ◌∷◌, ◌++◌, refl, sym, ap, ◌∙◌}
use Rattle.std.proofs.lemmas.List.{append-nil}
use Rattle.tp_names.specs.declared.identifiers.Mark.{Mark}
use Rattle.tp_names.specs.declared.identifiers.Aaid.{Aaid}
use Rattle.tp_names.specs.declared.identifiers.BranchId.{BranchId}
use Rattle.tp_names.specs.Bytes.{byte_bytes, long_bytes, mark_bytes, aaid_bytes, branch_bytes, maybe_bytes}
use Rattle.tp_names.specs.Reading.{Reader, make, ◌and◌, read_long, read_mark, read_aaid, read_branch, read_maybe}
use Rattle.tp_records.specs.declared.dialogue.DialogueRecord.{DialogueRecord}
use Rattle.tp_records.specs.declared.peer.PeerRecord.{PeerRecord}
use Rattle.tp_records.specs.declared.peer.RecState.{RecState}
use Rattle.tp_records.specs.Bodies.{dialogue_bytes, state_bytes, peer_bytes}
use Rattle.tp_records.specs.BodyReading.{read_units, read_dialogue, read_state, read_peer}
use Rattle.tp_texts.specs.Texts.{Takes}
use Rattle.tp_texts.specs.PeerTexts.{HasPeerText}
use Rattle.tp_texts.proofs.TakenValues.{made, both, long_taken}
use Rattle.tp_texts.proofs.PeerParts.{state_taken}

-- what a row of the table takes, after its code
kind_taken : (r : Reader PeerRecord) (text : List ℕ) (v : PeerRecord) (code : ℕ) → ((bytes : List ℕ) → read_peer (code ∷ bytes) ≡ r bytes) → peer_bytes v ≡ code ∷ text → Takes r text v → HasPeerText v
kind_taken r text v code row same x = record { text = ap read_peer (same ∙ sym (append-nil (code ∷ text))) ∙ row (text ++ []) ∙ x.reads [] }

pub open_text : (m : Mark) (u : ℕ) → Takes read_mark (mark_bytes m) m → Takes read_units (byte_bytes u) u → HasPeerText (PeerRecord.OpenAssoc m u)
open_text m u x y =
    kind_taken (make (λ m u. PeerRecord.OpenAssoc m u) and read_mark and read_units) (mark_bytes m ++ byte_bytes u) (PeerRecord.OpenAssoc m u) 1 (λ bytes. refl) refl
    (both (both (made (λ m u. PeerRecord.OpenAssoc m u)) x) y)

pub accept_text : (m n : Mark) (u : ℕ) → Takes read_mark (mark_bytes m) m → Takes read_mark (mark_bytes n) n → Takes read_units (byte_bytes u) u → HasPeerText (PeerRecord.AcceptAssoc m n u)
accept_text m n u x y z =
    kind_taken (make (λ m n u. PeerRecord.AcceptAssoc m n u) and read_mark and read_mark and read_units) ((mark_bytes m ++ mark_bytes n) ++ byte_bytes u) (PeerRecord.AcceptAssoc m n u) 2 (λ bytes. refl) refl
    (both (both (both (made (λ m n u. PeerRecord.AcceptAssoc m n u)) x) y) z)

pub shut_text : (m : Mark) (n : Option Mark) → Takes read_mark (mark_bytes m) m → Takes (read_maybe read_mark) (maybe_bytes mark_bytes n) n → HasPeerText (PeerRecord.ShutAssoc m n)
shut_text m n x y =
    kind_taken (make (λ m n. PeerRecord.ShutAssoc m n) and read_mark and read_maybe read_mark) (mark_bytes m ++ maybe_bytes mark_bytes n) (PeerRecord.ShutAssoc m n) 3 (λ bytes. refl) refl
    (both (both (made (λ m n. PeerRecord.ShutAssoc m n)) x) y)

pub on_assoc_text : (m n : Mark) (s : ℕ) (d : DialogueRecord) → s < 2 ^ 64 → Takes read_mark (mark_bytes m) m → Takes read_mark (mark_bytes n) n → Takes read_dialogue (dialogue_bytes d) d → HasPeerText (PeerRecord.OnAssoc m n s d)
on_assoc_text m n s d h x y z =
    kind_taken (make (λ m n s d. PeerRecord.OnAssoc m n s d) and read_mark and read_mark and read_long and read_dialogue) (((mark_bytes m ++ mark_bytes n) ++ long_bytes s) ++ dialogue_bytes d) (PeerRecord.OnAssoc m n s d) 4 (λ bytes. refl) refl
    (both (both (both (both (made (λ m n s d. PeerRecord.OnAssoc m n s d)) x) y) (long_taken s h)) z)

pub ready_text : (a : Aaid) (b : BranchId) → Takes read_aaid (aaid_bytes a) a → Takes read_branch (branch_bytes b) b → HasPeerText (PeerRecord.RecReady a b)
ready_text a b x y =
    kind_taken (make (λ a b. PeerRecord.RecReady a b) and read_aaid and read_branch) (aaid_bytes a ++ branch_bytes b) (PeerRecord.RecReady a b) 5 (λ bytes. refl) refl
    (both (both (made (λ a b. PeerRecord.RecReady a b)) x) y)

pub commit_text : (a : Aaid) (b : BranchId) → Takes read_aaid (aaid_bytes a) a → Takes read_branch (branch_bytes b) b → HasPeerText (PeerRecord.RecCommit a b)
commit_text a b x y =
    kind_taken (make (λ a b. PeerRecord.RecCommit a b) and read_aaid and read_branch) (aaid_bytes a ++ branch_bytes b) (PeerRecord.RecCommit a b) 6 (λ bytes. refl) refl
    (both (both (made (λ a b. PeerRecord.RecCommit a b)) x) y)

pub reply_text : (a : Aaid) (b : BranchId) (s : RecState) → Takes read_aaid (aaid_bytes a) a → Takes read_branch (branch_bytes b) b → HasPeerText (PeerRecord.RecReply a b s)
reply_text a b s x y =
    kind_taken (make (λ a b s. PeerRecord.RecReply a b s) and read_aaid and read_branch and read_state) ((aaid_bytes a ++ branch_bytes b) ++ state_bytes s) (PeerRecord.RecReply a b s) 7 (λ bytes. refl) refl
    (both (both (both (made (λ a b s. PeerRecord.RecReply a b s)) x) y) (state_taken s))

pub forget_text : (a : Aaid) (b : BranchId) → Takes read_aaid (aaid_bytes a) a → Takes read_branch (branch_bytes b) b → HasPeerText (PeerRecord.Forget a b)
forget_text a b x y =
    kind_taken (make (λ a b. PeerRecord.Forget a b) and read_aaid and read_branch) (aaid_bytes a ++ branch_bytes b) (PeerRecord.Forget a b) 8 (λ bytes. refl) refl
    (both (both (made (λ a b. PeerRecord.Forget a b)) x) y)
