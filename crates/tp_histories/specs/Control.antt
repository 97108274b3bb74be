-- Control of a dialogue as its two ends tell it, each by its own words: what the superior end gave, and what the
-- subordinate end returned. A round is a transaction with what is said before the next one; each end closes its part of
-- a round by a word after which it says nothing of control in it. What one law needs of each end stands here.
use Rattle.std.specs.Prelude.{ℕ, ◌&&◌, ◌||◌, not, Bool, true, false, List}
use Rattle.tp_records.specs.declared.dialogue.DialogueRecord.{DialogueRecord}
use Rattle.tp_steps.specs.Control.{rounds, closes_up, voted_behind}
use Rattle.tp_model.specs.Questions.{is_begin}

-- ---- the superior end: its Begin opens a round, and its first Prepare, Commit or Rollback closes it

abbrev pub is_closing : DialogueRecord → Bool
is_closing DialogueRecord.Prepare = true
is_closing DialogueRecord.Commit = true
is_closing DialogueRecord.Rollback = true
is_closing _ = false

abbrev pub closes_down : Bool → DialogueRecord → Bool
closes_down begun r = begun && is_closing r

abbrev pub begun_behind : Bool → DialogueRecord → Bool
begun_behind begun r = is_begin r || (begun && not (is_closing r))

-- ---- counted

-- the rounds that the superior end closed, and those that the subordinate end closed
abbrev pub closed : List DialogueRecord → ℕ
closed rs = rounds closes_down begun_behind false rs

abbrev pub answered : List DialogueRecord → ℕ
answered rs = rounds closes_up voted_behind false rs
