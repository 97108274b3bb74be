-- The members of `replay`, and what they may answer.
use Rattle.std.specs.Prelude.{ℕ, Option, Some, None, List, [], ◌∷◌}
use Rattle.tp_records.specs.Answers.{Answer}
use Rattle.tp_bound.specs.Bounds.{Standing}
use Rattle.tp_bound.specs.Says.{CanSay, speaker}
use Rattle.tp_replay.specs.declared.voter.Voter.{Voter}
use Rattle.tp_replay.specs.declared.participant.Participant.{Participant}
use Rattle.tp_replay.specs.Voters.{may_vote}

-- by the count of faults of the store's disk
abbrev pub may_answer : {D : Type 0} → (D → ℕ) → Participant D → List Answer → Type 0
may_answer faults (Participant.Alike v) answers = may_vote v answers
may_answer faults (Participant.Stored b) answers = CanSay faults b.disk (speaker b) answers

abbrev pub willing : {D : Type 0} → Participant D
willing = Participant.Alike (Voter.Willing (record {}))

abbrev pub unwilling : {D : Type 0} → Participant D
unwilling = Participant.Alike (Voter.Unwilling (record {}))

-- member 1, member 2, and member 3 where there is a store
abbrev pub numbered : {D : Type 0} → Option (Standing D) → List (Participant D)
numbered None = willing ∷ unwilling ∷ []
numbered (Some b) = willing ∷ unwilling ∷ Participant.Stored b ∷ []
