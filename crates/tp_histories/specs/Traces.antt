-- What one end of an association sent and took, by its history: as lists, and how they fit its link.
use Rattle.std.specs.Prelude.{ℕ, ◌≡◌, ◌&&◌, not, Bool, true, false, if◌then◌else◌, Option, Some, None, List, [], ◌∷◌, ◌++◌, length}
use Rattle.tp_names.specs.declared.identifiers.Mark.{Mark}
use Rattle.tp_names.specs.declared.identifiers.Addr.{Addr}
use Rattle.tp_records.specs.declared.dialogue.DialogueRecord.{DialogueRecord}
use Rattle.tp_model.specs.Parts.{Who, Entry, Link, Idle, Opening, Offered, Live, Digest}
use Rattle.tp_model.specs.Arcs.{link_with}
use Rattle.tp_model.specs.World.{Node, find_node}
use Rattle.tp_model.specs.Questions.{is_at}
use Rattle.tp_steps.specs.Traces.{sent_of, took_of, is_old}

abbrev pub sent_on : Mark → Mark → ℕ → List Entry → List DialogueRecord
sent_on x y p [] = []
sent_on x y p (e ∷ h) = sent_on x y p h ++ sent_of x y p e.outs

abbrev pub accepted_on : Mark → Mark → ℕ → List Entry → List DialogueRecord
accepted_on x y p [] = []
accepted_on x y p (e ∷ h) = accepted_on x y p h ++ took_of x y p e.event

-- of a pair with the peer, the mark that this node drew
abbrev pub own_mark : Option Addr → ℕ → Mark → Mark → Mark
own_mark up p x y = if is_at up p then y else x

abbrev pub own_old : Who → Digest → Option Addr → ℕ → Link → Bool
own_old who d up p Idle = true
own_old who d up p (Opening x) = is_old who d x && not (is_at up p)
own_old who d up p (Offered x) = is_at up p
own_old who d up p (Live x y s t) = is_old who d (own_mark up p x y)

abbrev pub IsQuiet : Mark → Mark → ℕ → List Entry → Type 0
IsQuiet x y p h = (sent_on x y p h ≡ []) × (accepted_on x y p h ≡ [])

-- in a legal history: a live link's counts are those of the history, and a mark that was not yet drawn is in no trace
pub record IsTraced (who : Who) (up : Option Addr) (d : Digest) (h : List Entry) : Type 0 where
  pub live : (p : ℕ) (x y : Mark) (s t : ℕ) → link_with d.arcs p ≡ Live x y s t → (length (sent_on x y p h) ≡ s) × (length (accepted_on x y p h) ≡ t)
  pub own : (p : ℕ) → own_old who d up p (link_with d.arcs p) ≡ true
  pub fresh : (p : ℕ) (x y : Mark) → is_old who d (own_mark up p x y) ≡ false → IsQuiet x y p h
  pub opening : (p : ℕ) (x y : Mark) → link_with d.arcs p ≡ Opening x → IsQuiet x y p h
  pub under : (a : Addr) → d.superior ≡ Some a → up ≡ Some a
  pub declared : d.declared ≡ true → d.superior ≡ up

-- ---- in a world

abbrev pub history_at : List Node → ℕ → List Entry
history_at ns n = elim (find_node ns n) [ None ↦ [] | Some x ↦ x.history ]
