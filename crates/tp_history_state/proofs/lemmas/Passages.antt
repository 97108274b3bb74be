-- The passage of an event that is no leaving.
use Rattle.tp_history_state.proofs.Vocabulary.{◌≡◌, false, refl, Phase, is_nil, Leaves, passage, is_over}

pub no_leaving : (p q : Phase) → passage false p q ≡ Leaves → ⊥
no_leaving Phase.Nil q h = cc (h)
no_leaving Phase.Active Phase.Nil h = cc (h)
no_leaving _ Phase.Nil h = cc (h)
no_leaving _ q h = cc (h)

pub over_is : (p q : Phase) → is_nil p ≡ false → is_over (passage false p q) ≡ is_nil q
over_is Phase.Nil q h = absurd (cc (h))
over_is Phase.Active Phase.Nil h = refl
over_is _ Phase.Nil h = refl
over_is _ q h = refl
