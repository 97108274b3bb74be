-- What is said outside transactions, and by what is kept of those that are over.
use Rattle.tp_history_state.proofs.Vocabulary.{◌≡◌, ℕ, Bool, true, false, refl, subst, arith, List, [], ◌∷◌, ◌&&◌, ◌==◌, not, nat_tests, Indication, DialogueRecord, TxOut, Kept, KeptEvent, Event, settled, logs_ready_or_commit, is_outcome_told, is_word, is_spoken, are_spoken, is_said, are_said, asks_tell, carries_not, carries_none, and_left, and_right}
use Rattle.tp_history_state.proofs.rests.Foreign.{carries_not_to, carries_none_to}

pub spoken_none : (g : DialogueRecord → Bool) → ((r : DialogueRecord) → is_word r ≡ false → g r ≡ false) → (outs : List TxOut) → are_spoken outs ≡ true → carries_none g outs ≡ true
spoken_none g k [] h = refl
spoken_none g k (o ∷ outs) h =
    let rest : carries_none g outs ≡ true = spoken_none g k outs (and_right (is_spoken o) (are_spoken outs) h) in
    rw (one o (and_left (is_spoken o) (are_spoken outs) h), rest) refl
  where
    off : (v : Bool) → not v ≡ true → v ≡ false
    off v i = grind (arith, i)

    one : (o : TxOut) → is_spoken o ≡ true → carries_not g o ≡ true
    one (TxOut.Carry q r) j = let no : g r ≡ false = k r (off (is_word r) j) in rw no refl
    one (TxOut.Recovery a r) j = j
    one _ j = refl

-- a word that is said by its request alone
pub said_not : (e : Event) (g : DialogueRecord → Bool) (p : ℕ) → ((r : DialogueRecord) → is_word r ≡ false → is_said e (TxOut.Carry p r) ≡ true → g r ≡ false) → (outs : List TxOut) → are_spoken outs ≡ true → are_said e outs ≡ true → carries_none_to g p outs ≡ true
said_not e g p k [] h i = refl
said_not e g p k (o ∷ outs) h i =
    let rest : carries_none_to g p outs ≡ true = said_not e g p k outs (and_right (is_spoken o) (are_spoken outs) h) (and_right (is_said e o) (are_said e outs) i) in
    rw (one o (and_left (is_spoken o) (are_spoken outs) h) (and_left (is_said e o) (are_said e outs) i), rest) refl
  where
    off : (v : Bool) → not v ≡ true → v ≡ false
    off v i = grind (arith, i)

    one : (o : TxOut) → is_spoken o ≡ true → is_said e o ≡ true → carries_not_to g p o ≡ true
    one (TxOut.Carry q r) j l = go (q == p) refl
      where
        go : (b : Bool) → (q == p) ≡ b → not (b && g r) ≡ true
        go true n = let at : q ≡ p = grind (arith, nat_tests, n) in let no : g r ≡ false = k r (off (is_word r) j) (subst (λ (x : ℕ). is_said e (TxOut.Carry x r) ≡ true) at l) in rw no refl
        go false n = refl
    one (TxOut.Recovery a r) j l = j
    one _ j l = refl

-- nor is an outcome told
pub spoken_untold : (f : Indication → Bool) → ((i : Indication) → is_outcome_told i ≡ false → f i ≡ false) → (outs : List TxOut) → are_spoken outs ≡ true → asks_tell f outs ≡ false
spoken_untold f k [] h = refl
spoken_untold f k (TxOut.Tell i ∷ outs) h = let rest = spoken_untold f k outs (and_right (is_spoken (TxOut.Tell i)) (are_spoken outs) h) in let one : f i ≡ false = k i (grind (arith, h)) in rw (one, rest) refl
spoken_untold f k (TxOut.Carry p r ∷ outs) h = spoken_untold f k outs (and_right (is_spoken (TxOut.Carry p r)) (are_spoken outs) h)
spoken_untold f k (TxOut.Shut p ∷ outs) h = spoken_untold f k outs h
spoken_untold f k (TxOut.Recovery a r ∷ outs) h = spoken_untold f k outs (and_right (is_spoken (TxOut.Recovery a r)) (are_spoken outs) h)
spoken_untold f k (TxOut.Close p ∷ outs) h = spoken_untold f k outs h

pub quiet_settled : (k : Kept) (f : KeptEvent) → logs_ready_or_commit (settled k f).rec ≡ false
unfolding settled
quiet_settled k f = grind arith
