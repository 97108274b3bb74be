-- Control of a dialogue as its two ends tell it, each by its own words: what the superior end gave, and what the
-- subordinate end returned. A round is a transaction with what is said before the next one; each end closes its part of
-- a round by a word after which it says nothing of control in it. What one law needs of each end stands here.
use Rattle.std.specs.Prelude.{ℕ, zero, suc, ◌+◌, ◌≤◌, ◌≡◌, Bool, true, false, if◌then◌else◌, List, [], ◌∷◌}
use Rattle.tp_names.specs.declared.identifiers.Mark.{Mark}
use Rattle.tp_records.specs.declared.dialogue.DialogueRecord.{DialogueRecord}
use Rattle.tp_records.specs.declared.dialogue.Holder.{Holder}
use Rattle.tp_model.specs.History.{digest}
use Rattle.tp_model.specs.Questions.{is_at}
use Rattle.tp_model.specs.Traces.{sent_on, taken_on}
use Rattle.tp_model.specs.World.{World, Node, number_of}
use Rattle.tp_model.specs.Promises.{IsIn, holds_on}
use Rattle.tp_steps.specs.Moves.{some_leads}
use Rattle.tp_histories.specs.Control.{closes_down, begun_behind, answered}
use Rattle.tp_steps.specs.Control.{closes_up, voted_behind}

-- what stands after so many closed rounds
abbrev pub behind : (Bool → DialogueRecord → Bool) → (Bool → DialogueRecord → Bool) → Bool → ℕ → List DialogueRecord → List DialogueRecord
behind closes flag b zero rs = rs
behind closes flag b (suc k) [] = []
behind closes flag b (suc k) (r ∷ rs) = if closes b r then behind closes flag (flag b r) k rs else behind closes flag (flag b r) (suc k) rs

abbrev pub count : (DialogueRecord → Bool) → List DialogueRecord → ℕ
count f [] = 0
count f (r ∷ rs) = (if f r then 1 else 0) + count f rs

-- it gives control: at once, for a response, or with a transaction
abbrev pub is_giving : DialogueRecord → Bool
is_giving DialogueRecord.Grant = true
is_giving DialogueRecord.HandshakeGrant = true
is_giving (DialogueRecord.Begin t b Holder.Subordinate) = true
is_giving _ = false

abbrev pub is_returning : DialogueRecord → Bool
is_returning DialogueRecord.Grant = true
is_returning DialogueRecord.HandshakeGrant = true
is_returning _ = false

-- what was given after so many rounds that the superior end closed, and returned after so many that the other closed
abbrev pub given : ℕ → List DialogueRecord → ℕ
given k rs = count is_giving (behind closes_down begun_behind false k rs)

abbrev pub returned : ℕ → List DialogueRecord → ℕ
returned k rs = count is_returning (behind closes_up voted_behind false k rs)

-- ---- the ends at the arcs

-- an arc to the peer that is live with the pair holds control
abbrev pub holds_with : Mark → Mark → ℕ → Node → Bool
holds_with x y p n = some_leads (holds_on x y) p (digest n.origin n.history).arcs

-- ---- what one holder rests on

-- a superior end that holds control of the dialogue with a subordinate took back what it gave in the round that is not
-- answered, and gave nothing ahead of it
abbrev pub TookBack : World → Type 0
TookBack w =
    (n m : Node) (x y : Mark) → IsIn w n → IsIn w m → is_at m.superior (number_of n) ≡ true → is_at n.superior (number_of m) ≡ false
    → holds_with x y (number_of m) n ≡ true
    → (given (answered (taken_on x y (number_of m) n.history)) (sent_on x y (number_of m) n.history)
    ≤ returned (answered (taken_on x y (number_of m) n.history)) (taken_on x y (number_of m) n.history))
    × (given (suc (answered (taken_on x y (number_of m) n.history))) (sent_on x y (number_of m) n.history) ≡ 0)

-- a subordinate end that holds control took more than it returned, in the round that it has not answered
abbrev pub TookMore : World → Type 0
TookMore w =
    (m : Node) (p : ℕ) (x y : Mark) → IsIn w m → is_at m.superior p ≡ true → holds_with x y p m ≡ true
    → suc (returned (answered (sent_on x y p m.history)) (sent_on x y p m.history)) ≤ given (answered (sent_on x y p m.history)) (taken_on x y p m.history)
