use Rattle.tp_history_state.proofs.links.Named.{named_law}
use Rattle.tp_history_state.proofs.arcs_are_named.Goals as goal

pub returns : goal.returns
returns c = record { address = λ o up h p a legal i. (named_law o up h p legal.grown a i).0; units = λ o up h p a legal i. (named_law o up h p legal.grown a i).1 }
