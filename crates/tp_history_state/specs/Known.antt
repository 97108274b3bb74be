-- What is known of a node after a history, part by part, against what the questions of the whole history answer. All
-- parts together say that the digest agrees.
use Rattle.std.specs.Prelude.{ℕ, ◌==◌, ◌&&◌, ◌||◌, not, Bool, true, List, [], ◌∷◌}
use Rattle.tp_names.specs.Same.{is_outcome}
use Rattle.tp_names.specs.Reports.{rank}
use Rattle.tp_units.specs.Units.{has_bit}
use Rattle.tp_model.specs.Parts.{Origin, Entry, Arc, Branch}
use Rattle.tp_model.specs.Links.{is_live, is_idle}
use Rattle.tp_model.specs.Arcs.{link_with}
use Rattle.tp_model.specs.History.{digest}
use Rattle.tp_model.specs.Questions.{link_in, holds_in, awaits_in, due_in, deferral_in, rests_in}
use Rattle.tp_model.specs.Keys.{told_prepare_in, superior_rolled_in, owes_in, decision_for, own_in, prepared_in, counted_in, left_in, given_up_in, ended_in}
use Rattle.tp_model.specs.Consistency.{report_of, peers_in, peers_below}
use Rattle.tp_histories.specs.KnownTests.{same_bool, same_list, same_option, same_link, number_of_due, number_of_deferral, agrees_order, agrees_branches, is_number}
use Rattle.std.specs.Prelude.{is_some}
use Rattle.tp_runs.specs.Known.{all_arcs, now_agrees, known_agrees, drawn_agrees, kept_agrees, phase_agrees, key_agrees, above_agrees, branches_agree, asked_agrees}
use Rattle.tp_histories.specs.Known.{with_an_arc, declared_agrees, superior_agrees, boot_agrees}
use Rattle.tp_model.specs.Transactions.{child_of}

abbrev pub links_agree : Origin → List Entry → Bool
links_agree o h = all_arcs (λ a. same_link a.link (link_in o a.peer.node h) && not (is_idle a.link)) (digest o h).arcs

-- with every peer: where there is no arc to it, the link is idle
abbrev pub link_agrees : Origin → ℕ → List Entry → Bool
link_agrees o p h = same_link (link_with (digest o h).arcs p) (link_in o p h)

abbrev pub order_agrees : Origin → List Entry → Bool
order_agrees o h = agrees_order o h

-- the arcs below are those to the nodes asked for a dialogue, in that order
abbrev pub below_as_asked : Origin → List Entry → Bool
below_as_asked o h = same_list is_number (peers_below (digest o h) (digest o h).arcs) (with_an_arc (digest o h).arcs (peers_in h))

-- control, handshake, deferral and rest are asked of a live arc; control, of a polarized one
abbrev pub all_live : Origin → List Entry → (Arc → Bool) → Bool
all_live o h f = all_arcs (λ a. not (is_live a.link) || f a) (digest o h).arcs

abbrev pub control_agrees : Origin → List Entry → Bool
control_agrees o h = all_live o h (λ a. not (has_bit a.dialogue.units 2) || same_bool a.dialogue.holds (holds_in o a.peer.node h))

abbrev pub awaits_agrees : Origin → List Entry → Bool
awaits_agrees o h = all_live o h (λ a. same_bool a.dialogue.awaits (awaits_in o a.peer.node h))

abbrev pub due_agrees : Origin → List Entry → Bool
due_agrees o h = all_live o h (λ a. number_of_due a.dialogue.due == number_of_due (due_in o a.peer.node h))

abbrev pub deferral_agrees : Origin → List Entry → Bool
deferral_agrees o h = all_live o h (λ a. number_of_deferral a.dialogue.deferral == number_of_deferral (deferral_in o a.peer.node h))

abbrev pub rests_agrees : Origin → List Entry → Bool
rests_agrees o h = all_live o h (λ a. same_bool a.dialogue.rests (rests_in o a.peer.node h))

-- of each branch
abbrev pub each_branch : (Branch → Bool) → List Branch → Bool
each_branch f [] = true
each_branch f (b ∷ bs) = f b && each_branch f bs

abbrev pub prepared_agrees : Origin → List Entry → Bool
prepared_agrees o h = now_agrees o h (λ k c. each_branch (λ b. same_bool b.prepared (prepared_in o k b.peer.node h)) c.branches)

abbrev pub counted_agrees : Origin → List Entry → Bool
counted_agrees o h = now_agrees o h (λ k c. each_branch (λ b. same_bool b.counted (counted_in o k b.peer.node h)) c.branches)

abbrev pub left_agrees : Origin → List Entry → Bool
left_agrees o h = now_agrees o h (λ k c. each_branch (λ b. same_bool b.left (left_in o k b.peer.node h)) c.branches)

abbrev pub given_up_agrees : Origin → List Entry → Bool
given_up_agrees o h = now_agrees o h (λ k c. each_branch (λ b. same_bool b.given_up (given_up_in o k b.peer.node h)) c.branches)

-- that it has ended, and with which report
abbrev pub ended_agrees : Origin → List Entry → Bool
ended_agrees o h = now_agrees o h
    (λ k c. each_branch (λ b. same_bool b.ended (is_some (ended_in o k (child_of b) h))
    && (rank b.report == rank (report_of (ended_in o k (child_of b) h)))) c.branches)

-- all of them
abbrev pub marks_agree : Origin → List Entry → Bool
marks_agree o h = now_agrees o h (λ k c. agrees_branches o k h c.branches)

abbrev pub told_prepare_agrees : Origin → List Entry → Bool
told_prepare_agrees o h = now_agrees o h (λ k c. same_bool c.told_prepare (told_prepare_in o k h))

abbrev pub owes_agrees : Origin → List Entry → Bool
owes_agrees o h = now_agrees o h (λ k c. same_bool c.owes (owes_in o k h))

abbrev pub superior_rolled_agrees : Origin → List Entry → Bool
superior_rolled_agrees o h = now_agrees o h (λ k c. same_bool c.superior_rolled (superior_rolled_in o k h))

abbrev pub decision_agrees : Origin → List Entry → Bool
decision_agrees o h = now_agrees o h (λ k c. same_option is_outcome c.decision (decision_for o k h))

abbrev pub own_agrees : Origin → List Entry → Bool
own_agrees o h = now_agrees o h (λ k c. rank c.own == rank (own_in o k h))

-- ---- all parts

abbrev pub node_agrees : Origin → List Entry → Bool
node_agrees o h = declared_agrees o h && known_agrees o h && superior_agrees o h && drawn_agrees o h && boot_agrees o h && kept_agrees o h

abbrev pub arcs_agree : Origin → List Entry → Bool
arcs_agree o h =
    links_agree o h && order_agrees o h && control_agrees o h && awaits_agrees o h && due_agrees o h && deferral_agrees o h && rests_agrees o h

abbrev pub current_agrees : Origin → List Entry → Bool
current_agrees o h =
    phase_agrees o h && key_agrees o h && above_agrees o h && branches_agree o h && marks_agree o h && told_prepare_agrees o h && asked_agrees o h
    && owes_agrees o h && superior_rolled_agrees o h && decision_agrees o h && own_agrees o h

abbrev pub agrees_in_parts : Origin → List Entry → Bool
agrees_in_parts o h = node_agrees o h && arcs_agree o h && current_agrees o h
