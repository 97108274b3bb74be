-- What a start makes of one arc: nothing, or a Begin is sent on it.
use Rattle.tp_history_state.proofs.Vocabulary.{if◌then◌else◌, ◌≡◌, ℕ, false, ap, Some, [], ◌∷◌, not, Who, Arc, Current, Digest, find_arc, Move, move, may_begin_on, begin_on}
pub use Rattle.tp_steps.proofs.every.BeginCases.{next_child, begin_word, begin_arcs, begun_over, begin_cases}

-- what holds where nothing happens, and where Begin is sent
pub begins_so : (R : Move → Type 0) (who : Who) (q : ℕ) (d : Digest) → R (move [] d)
    → ((c : Current) → d.current ≡ Some c → (a : Arc) → find_arc d.arcs q ≡ Some a → not (may_begin_on who d a) ≡ false → R (begun_over who q d c a)) → R (begin_on who q d)
begins_so R who q d still sent = begin_cases R who q d still (λ c a i j may. sent c i a j (ap not may))
