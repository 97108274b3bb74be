-- Which branches of an active transaction can still be reached, and which were told to prepare.
use Rattle.std.specs.Prelude.{ℕ, ◌≡◌, ◌&&◌, ◌||◌, not, Bool, true, false, Some, None}
use Rattle.tp_model.specs.Parts.{Branch, Current, Digest}
use Rattle.tp_model.specs.Dialogues.{is_active}
use Rattle.tp_model.specs.Arcs.{is_live_with_peer}
use Rattle.tp_steps.specs.Facts.{find_branch}

-- the branch with p is such
abbrev pub marked : (Branch → Bool) → ℕ → Current → Bool
marked w p c = elim (find_branch c.branches p) as (λ _. Bool) [ None ↦ false | Some b ↦ w b ]

-- it has neither answered nor ended
abbrev pub is_pending : Branch → Bool
is_pending b = not (b.counted || b.left || b.ended)

-- while the transaction is active, such a branch with the peer is on a live arc
abbrev pub IsReached : ℕ → Digest → Type 0
IsReached p d = (c : Current) → d.current ≡ Some c → is_active c.phase ≡ true → marked is_pending p c ≡ true → is_live_with_peer d.arcs p ≡ true

-- it has answered or ended, and was not told to prepare
abbrev pub is_hasty : Branch → Bool
is_hasty b = (b.counted || b.left || b.ended) && not b.prepared

-- no branch is so, while the transaction is active
abbrev pub IsProper : Current → Type 0
IsProper c = is_active c.phase ≡ true → (p : ℕ) → marked is_hasty p c ≡ false
