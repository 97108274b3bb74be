-- Control of a dialogue as its two ends tell it, each by its own words: what the superior end gave, and what the
-- subordinate end returned. A round is a transaction with what is said before the next one; each end closes its part of
-- a round by a word after which it says nothing of control in it. What one law needs of each end stands here.
use Rattle.std.specs.Prelude.{ℕ, ◌+◌, ◌&&◌, ◌||◌, not, Bool, if◌then◌else◌, List, [], ◌∷◌}
use Rattle.tp_records.specs.declared.dialogue.DialogueRecord.{DialogueRecord}
use Rattle.tp_steps.specs.Facts.{is_vote, is_end}

-- ---- rounds: what closes one, where a flag holds or not, and the flag after a word

abbrev pub rounds : (Bool → DialogueRecord → Bool) → (Bool → DialogueRecord → Bool) → Bool → List DialogueRecord → ℕ
rounds closes flag b [] = 0
rounds closes flag b (r ∷ rs) = (if closes b r then 1 else 0) + rounds closes flag (flag b r) rs

-- the flag after all of them
abbrev pub flag_from : (Bool → DialogueRecord → Bool) → Bool → List DialogueRecord → Bool
flag_from flag b [] = b
flag_from flag b (r ∷ rs) = flag_from flag (flag b r) rs

-- ---- the subordinate end: Ready closes a round, or else its last word in the transaction

abbrev pub closes_up : Bool → DialogueRecord → Bool
closes_up voted r = not voted && (is_vote r || is_end r)

abbrev pub voted_behind : Bool → DialogueRecord → Bool
voted_behind voted r = is_vote r || (voted && not (is_end r))
