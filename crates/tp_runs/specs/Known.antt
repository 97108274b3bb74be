-- What is known of a node after a history, part by part, against what the questions of the whole history answer. All
-- parts together say that the digest agrees.
use Rattle.std.specs.Prelude.{◌==◌, ◌&&◌, Bool, true, Some, None, List, [], ◌∷◌}
use Rattle.tp_names.specs.declared.identifiers.NodeKey.{NodeKey}
use Rattle.tp_names.specs.Same.{is_addr_option}
use Rattle.tp_model.specs.Parts.{Origin, Entry, Arc, Current}
use Rattle.tp_model.specs.Transactions.{node_key, superior_of}
use Rattle.tp_model.specs.History.{digest}
use Rattle.tp_model.specs.Questions.{drawn_in}
use Rattle.tp_model.specs.Keys.{phase_in, superior_for, branches_in, asked_in, kept_in, known_in}
use Rattle.tp_model.specs.Consistency.{all_children}
use Rattle.tp_histories.specs.KnownTests.{same_bool, same_list, same_kept, number_of_phase, others_quiet}
use Rattle.tp_logrec.specs.Order.{is_child}

abbrev pub known_agrees : Origin → List Entry → Bool
known_agrees o h = same_bool (digest o h).known (known_in o h)

abbrev pub drawn_agrees : Origin → List Entry → Bool
drawn_agrees o h = (digest o h).drawn == drawn_in o h

abbrev pub kept_agrees : Origin → List Entry → Bool
kept_agrees o h = same_list same_kept (digest o h).kept (kept_in o h)

-- ---- its arcs

abbrev pub all_arcs : (Arc → Bool) → List Arc → Bool
all_arcs f [] = true
all_arcs f (a ∷ arcs) = f a && all_arcs f arcs

-- ---- its current transaction

abbrev pub now_agrees : Origin → List Entry → (NodeKey → Current → Bool) → Bool
now_agrees o h f = elim (digest o h).current [ None ↦ true | Some c ↦ f (node_key c.key) c ]

-- the phase of its key; and that every other key that was begun or logged is in none
abbrev pub phase_agrees : Origin → List Entry → Bool
phase_agrees o h = now_agrees o h (λ k c. number_of_phase c.phase == number_of_phase (phase_in o k h))

abbrev pub key_agrees : Origin → List Entry → Bool
key_agrees o h = others_quiet o h h

-- the address of its superior
abbrev pub above_agrees : Origin → List Entry → Bool
above_agrees o h = now_agrees o h (λ k c. is_addr_option (superior_of c.key) (superior_for o k h))

abbrev pub branches_agree : Origin → List Entry → Bool
branches_agree o h = now_agrees o h (λ k c. same_list is_child (all_children c.branches) (branches_in o k h))

abbrev pub asked_agrees : Origin → List Entry → Bool
asked_agrees o h = now_agrees o h (λ k c. same_bool c.asked (asked_in o k h))
