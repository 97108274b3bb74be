-- What a transaction still waits for beside one of its branches: where there is any, a Ready or a Done of that one is noted
-- on it, and nothing else follows.
use Rattle.std.specs.Prelude.{ℕ, ◌==◌, ◌&&◌, ◌||◌, not, Bool, true, false, if◌then◌else◌, List, [], ◌∷◌}
use Rattle.tp_names.specs.declared.outcome.Report.{Report}
use Rattle.tp_model.specs.Parts.{Branch}
use Rattle.tp_model.specs.Transactions.{is_waited_for}

-- it is neither done, left nor given up
abbrev pub is_owing : Branch → Bool
is_owing b = not (b.ended || b.left || b.given_up)

-- a branch with another peer is so
abbrev pub is_beside : (Branch → Bool) → ℕ → Branch → Bool
is_beside f p b = not (b.peer.node == p) && f b

abbrev pub some_beside : (Branch → Bool) → List Branch → ℕ → Bool
some_beside f [] p = false
some_beside f (b ∷ bs) p = is_beside f p b || some_beside f bs p

abbrev pub waits_beside : List Branch → ℕ → Bool
waits_beside bs p = some_beside is_waited_for bs p

abbrev pub owes_beside : List Branch → ℕ → Bool
owes_beside bs p = some_beside is_owing bs p

-- a change of the first branch with that peer
abbrev pub with_branch_at : List Branch → ℕ → (Branch → Branch) → List Branch
with_branch_at [] p f = []
with_branch_at (b ∷ bs) p f = if b.peer.node == p then f b ∷ bs else b ∷ with_branch_at bs p f

-- its Ready, and its Done with a report
abbrev pub with_counted : List Branch → ℕ → List Branch
with_counted bs p = with_branch_at bs p (λ b. record b { counted = true })

abbrev pub with_ended : List Branch → ℕ → Report → List Branch
with_ended bs p r = with_branch_at bs p (λ b. record b { ended = true; report = r })
