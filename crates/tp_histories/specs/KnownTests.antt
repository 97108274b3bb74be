-- Tests, that compute, of what is known after a history against what the questions to it answer: two things are equal where their test
-- holds. What they test is stated as equalities beside the definitions of the service.
use Rattle.std.specs.Prelude.{ℕ, ◌==◌, ◌&&◌, ◌||◌, not, Bool, true, false, Option, Some, None, is_some, List, [], ◌∷◌}
use Rattle.tp_names.specs.declared.identifiers.NodeKey.{NodeKey}
use Rattle.tp_names.specs.declared.children.Child.{Child}
use Rattle.tp_names.specs.Same.{is_mark, is_key, is_branch, is_addr, is_addr_option, is_outcome}
use Rattle.tp_names.specs.Reports.{rank}
use Rattle.tp_logrec.specs.Order.{is_child}
use Rattle.tp_units.specs.Units.{has_bit}
use Rattle.tp_model.specs.declared.arc.Phase.{Phase}
use Rattle.tp_model.specs.declared.arc.Deferral.{Deferral}
use Rattle.tp_model.specs.declared.recovery.Kept.{Kept}
use Rattle.tp_model.specs.Parts.{Origin, Entry, Link, Idle, Opening, Offered, Live, Due, No_response, Response_due, Response_with_control, Arc, Branch, Current}
use Rattle.tp_model.specs.Links.{is_live, is_idle}
use Rattle.tp_model.specs.Arcs.{find_arc}
use Rattle.tp_model.specs.Transactions.{node_key, superior_of, child_of}
use Rattle.tp_model.specs.History.{digest}
use Rattle.tp_model.specs.Questions.{declared_in, superior_in, boot_in, link_in, holds_in, awaits_in, due_in, deferral_in, rests_in, drawn_in}
use Rattle.tp_model.specs.Keys.{phase_in, superior_for, branches_in, prepared_in, counted_in, left_in, given_up_in, ended_in, told_prepare_in, asked_in, superior_rolled_in, owes_in, decision_for, own_in, kept_in, known_in, begun_key, key_of}
use Rattle.tp_model.specs.Consistency.{peers_in, not_idle, report_of, is_current, all_children, peers_below}

-- ---- tests of equality

abbrev pub same_bool : Bool → Bool → Bool
same_bool true b = b
same_bool false b = not b

abbrev pub same_list : {X : Type 0} → (X → X → Bool) → List X → List X → Bool
same_list f [] [] = true
same_list f [] (y ∷ ys) = false
same_list f (x ∷ xs) [] = false
same_list f (x ∷ xs) (y ∷ ys) = f x y && same_list f xs ys

abbrev pub same_option : {X : Type 0} → (X → X → Bool) → Option X → Option X → Bool
same_option f None None = true
same_option f None (Some y) = false
same_option f (Some x) None = false
same_option f (Some x) (Some y) = f x y

abbrev pub number_of_phase : Phase → ℕ
number_of_phase Phase.Nil = 0
number_of_phase Phase.Active = 1
number_of_phase Phase.Ready = 2
number_of_phase Phase.Committing = 3
number_of_phase Phase.Rolling = 4

abbrev pub number_of_deferral : Deferral → ℕ
number_of_deferral Deferral.None = 0
number_of_deferral Deferral.End = 1
number_of_deferral Deferral.Grant = 2

abbrev pub number_of_due : Due → ℕ
number_of_due No_response = 0
number_of_due Response_due = 1
number_of_due Response_with_control = 2

abbrev pub same_link : Link → Link → Bool
same_link Idle l = is_idle l
same_link (Opening x) (Opening y) = is_mark x y
same_link (Offered x) (Offered y) = is_mark x y
same_link (Live x y s t) (Live v w m n) = is_mark x v && is_mark y w && (s == m) && (t == n)
same_link _ _ = false

abbrev pub same_kept : Kept → Kept → Bool
same_kept a b =
    (a.node == b.node) && is_key a.key b.key && is_addr_option a.superior b.superior && is_outcome a.side b.side
    && (rank a.report == rank b.report) && same_list is_child a.owed b.owed && same_bool a.forgot b.forgot

-- ---- arcs

-- control, handshake, deferral and rest are asked of a live arc; control, of a polarized one
abbrev pub agrees_live : Origin → List Entry → Arc → Bool
agrees_live o h a =
    (not (has_bit a.dialogue.units 2) || same_bool a.dialogue.holds (holds_in o a.peer.node h))
    && same_bool a.dialogue.awaits (awaits_in o a.peer.node h)
    && (number_of_due a.dialogue.due == number_of_due (due_in o a.peer.node h))
    && (number_of_deferral a.dialogue.deferral == number_of_deferral (deferral_in o a.peer.node h))
    && same_bool a.dialogue.rests (rests_in o a.peer.node h)

abbrev pub agrees_arc : Origin → List Entry → Arc → Bool
agrees_arc o h a =
    same_link a.link (link_in o a.peer.node h) && not (is_idle a.link)
    && (not (is_live a.link) || agrees_live o h a)

abbrev pub agrees_arcs : Origin → List Entry → List Arc → Bool
agrees_arcs o h [] = true
agrees_arcs o h (a ∷ arcs) = agrees_arc o h a && agrees_arcs o h arcs

-- ---- their order

abbrev pub is_number : ℕ → ℕ → Bool
is_number m n = m == n

abbrev pub agrees_up : Origin → List Entry → Bool
agrees_up o h = elim (superior_in h) [
  | None ↦ true
  | Some a ↦ elim (find_arc (digest o h).arcs a.node) [ None ↦ is_idle (link_in o a.node h) | Some b ↦ true ]
]

abbrev pub agrees_order : Origin → List Entry → Bool
agrees_order o h = same_list is_number (peers_below (digest o h) (digest o h).arcs) (not_idle o h (peers_in h)) && agrees_up o h

-- ---- transactions

abbrev pub agrees_branch : Origin → NodeKey → List Entry → Branch → Bool
agrees_branch o k h b =
    same_bool b.prepared (prepared_in o k b.peer.node h)
    && same_bool b.counted (counted_in o k b.peer.node h)
    && same_bool b.left (left_in o k b.peer.node h)
    && same_bool b.given_up (given_up_in o k b.peer.node h)
    && same_bool b.ended (is_some (ended_in o k (child_of b) h))
    && (rank b.report == rank (report_of (ended_in o k (child_of b) h)))

abbrev pub agrees_branches : Origin → NodeKey → List Entry → List Branch → Bool
agrees_branches o k h [] = true
agrees_branches o k h (b ∷ bs) = agrees_branch o k h b && agrees_branches o k h bs

abbrev pub agrees_current : Origin → NodeKey → List Entry → Current → Bool
agrees_current o k h c =
    (number_of_phase c.phase == number_of_phase (phase_in o k h))
    && is_addr_option (superior_of c.key) (superior_for o k h)
    && same_list is_child (all_children c.branches) (branches_in o k h)
    && agrees_branches o k h c.branches
    && same_bool c.told_prepare (told_prepare_in o k h)
    && same_bool c.asked (asked_in o k h)
    && same_bool c.owes (owes_in o k h)
    && same_bool c.superior_rolled (superior_rolled_in o k h)
    && same_option is_outcome c.decision (decision_for o k h)
    && (rank c.own == rank (own_in o k h))

-- every key that was begun or logged is in no phase, but the current one
abbrev pub is_quiet : Origin → List Entry → Option NodeKey → Bool
is_quiet o h None = true
is_quiet o h (Some k) = is_current (digest o h).current k || (number_of_phase (phase_in o k h) == 0)

abbrev pub key_logged : Entry → Option NodeKey
key_logged e = elim e.rec [ None ↦ None | Some r ↦ key_of r ]

abbrev pub others_quiet : Origin → List Entry → List Entry → Bool
others_quiet o h [] = true
others_quiet o h (e ∷ g) = is_quiet o h (begun_key o e g) && is_quiet o h (key_logged e) && others_quiet o h g

abbrev pub agrees_transactions : Origin → List Entry → Bool
agrees_transactions o h =
    elim (digest o h).current [ None ↦ true | Some c ↦ agrees_current o (node_key c.key) h c ]
    && others_quiet o h h
    && same_list same_kept (digest o h).kept (kept_in o h)

-- ---- the whole

abbrev pub agrees : Origin → List Entry → Bool
agrees o h =
    same_bool (digest o h).declared (declared_in h)
    && same_bool (digest o h).known (known_in o h)
    && is_addr_option (digest o h).superior (superior_in h)
    && agrees_arcs o h (digest o h).arcs
    && agrees_order o h
    && agrees_transactions o h
    && ((digest o h).drawn == drawn_in o h)
    && ((digest o h).boot == boot_in o h)
