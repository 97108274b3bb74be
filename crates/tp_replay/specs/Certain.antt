-- Members whose answers follow from what is put to them, and a schedule that has one transcript then.
use Rattle.std.specs.Prelude.{ℕ, ◌≡◌, Option, None, Some, List, ◌∷◌, ◌++◌}
use Rattle.tp_outside.specs.Faults.{HasRisen}
use Rattle.tp_records.specs.declared.request.Request.{Request}
use Rattle.tp_records.specs.Answers.{Answer}
use Rattle.tp_model.specs.Transcript.{AreAllowed, transcript_with}
use Rattle.tp_bound.specs.Bounds.{Standing}

-- after the same answers a member that is told the same has one answer
abbrev pub AreCertain : (ℕ → List Answer → Type 0) → Type 0
AreCertain may =
    (k : ℕ) (before : List Answer) (a b : Answer) (xs ys : List Answer) → may k (before ++ a ∷ xs) → may k (before ++ b ∷ ys)
    → a.node ≡ b.node → a.indication ≡ b.indication → a.request ≡ b.request

-- Of all answers that the members may give, to each indication that is put to them, there is one list. So the transcript with them is one.
abbrev pub IsOne : (ℕ → List Answer → Type 0) → ℕ → List ℕ → Type 0
IsOne may members bytes =
    (xs ys : List (Option Request)) → AreAllowed may (transcript_with members bytes xs).puts xs
    → AreAllowed may (transcript_with members bytes ys).puts ys → xs ≡ ys

-- no call of a disk of that type fails: no count is one that has risen since another
abbrev pub NeverFails : {D : Type 0} → (D → ℕ) → Type 0
NeverFails {D} faults = (c d : D) → HasRisen (faults c) (faults d) → ⊥

-- no call of the store's disk has failed yet, if there is a store
abbrev pub IsWell : {D : Type 0} → Option (Standing D) → Type 0
IsWell None = Unit {0}
IsWell (Some b) = b.shut ≡ None
