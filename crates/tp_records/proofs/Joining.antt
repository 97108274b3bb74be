-- Texts that are written in pieces.
use Rattle.std.proofs.Common.{◌≡◌, ℕ, List, ◌++◌, refl, ap, ◌∙◌, append_assoc}
use Rattle.tp_names.specs.Bytes.{byte_bytes, long_bytes, maybe_bytes, mark_bytes}
use Rattle.tp_names.specs.declared.identifiers.Mark.{Mark}
use Rattle.std.specs.Prelude.{Option}
use Rattle.tp_records.specs.Openings.{opening, pair}
use Rattle.tp_records.specs.Bodies.{peer_bytes, dialogue_bytes}
use Rattle.tp_records.specs.declared.peer.PeerRecord.{PeerRecord}
use Rattle.tp_records.specs.declared.dialogue.DialogueRecord.{DialogueRecord}

pub joined : (old mid new front text : List ℕ) → mid ≡ old ++ front → new ≡ mid ++ text → new ≡ old ++ (front ++ text)
joined old mid new front text first second = second ∙ ap (λ (w : List ℕ). w ++ text) first ∙ append_assoc old front text

pub open_text : (x : Mark) (u : ℕ) → peer_bytes (PeerRecord.OpenAssoc x u) ≡ opening 1 x ++ byte_bytes u
unfolding opening
open_text x u = refl

pub accept_text : (x y : Mark) (u : ℕ) → peer_bytes (PeerRecord.AcceptAssoc x y u) ≡ pair 2 x y ++ byte_bytes u
unfolding opening pair
accept_text x y u = refl

pub shut_text : (x : Mark) (y : Option Mark) → peer_bytes (PeerRecord.ShutAssoc x y) ≡ opening 3 x ++ maybe_bytes mark_bytes y
unfolding opening
shut_text x y = refl

pub on_text : (x y : Mark) (s : ℕ) (r : DialogueRecord) → peer_bytes (PeerRecord.OnAssoc x y s r) ≡ (pair 4 x y ++ long_bytes s) ++ dialogue_bytes r
unfolding opening pair
on_text x y s r = refl
