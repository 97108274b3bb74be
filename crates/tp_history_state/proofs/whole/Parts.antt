-- The parts of what is known, together, are the whole.
use Rattle.tp_history_state.proofs.Vocabulary.{◌≡◌, Bool, true, refl, arith, Option, Some, None, List, [], ◌∷◌, ◌&&◌, ◌||◌, not, NodeKey, is_addr_option, is_outcome, rank, has_bit, Origin, Entry, Arc, Current, is_live, is_idle, node_key, superior_of, digest, link_in, holds_in, awaits_in, due_in, deferral_in, rests_in, phase_in, superior_for, branches_in, told_prepare_in, asked_in, superior_rolled_in, owes_in, decision_for, own_in, same_link, same_bool, same_list, same_option, number_of_phase, number_of_due, number_of_deferral, agrees_arc, agrees_arcs, agrees_branches, agrees_current, agrees, declared_agrees, superior_agrees, boot_agrees, all_arcs, known_agrees, drawn_agrees, kept_agrees, phase_agrees, key_agrees, above_agrees, branches_agree, asked_agrees, links_agree, order_agrees, control_agrees, awaits_agrees, due_agrees, deferral_agrees, rests_agrees, marks_agree, told_prepare_agrees, owes_agrees, superior_rolled_agrees, decision_agrees, own_agrees, node_agrees, arcs_agree, current_agrees, agrees_in_parts, both_true, all_children, is_child}
use Rattle.std.specs.Prelude.{◌==◌}

-- seven tests of all arcs are one
abbrev all_seven : (f g p q r s : Arc → Bool) → List Arc → Bool
all_seven f g p q r s arcs = all_arcs f arcs && all_arcs g arcs && all_arcs p arcs && all_arcs q arcs && all_arcs r arcs && all_arcs s arcs

abbrev link_is : Origin → List Entry → Arc → Bool
link_is o h a = same_link a.link (link_in o a.peer.node h) && not (is_idle a.link)

abbrev control_is : Origin → List Entry → Arc → Bool
control_is o h a = not (is_live a.link) || (not (has_bit a.dialogue.units 2) || same_bool a.dialogue.holds (holds_in o a.peer.node h))

abbrev awaits_is : Origin → List Entry → Arc → Bool
awaits_is o h a = not (is_live a.link) || same_bool a.dialogue.awaits (awaits_in o a.peer.node h)

abbrev due_is : Origin → List Entry → Arc → Bool
due_is o h a = not (is_live a.link) || (number_of_due a.dialogue.due == number_of_due (due_in o a.peer.node h))

abbrev deferral_is : Origin → List Entry → Arc → Bool
deferral_is o h a = not (is_live a.link) || (number_of_deferral a.dialogue.deferral == number_of_deferral (deferral_in o a.peer.node h))

abbrev rests_is : Origin → List Entry → Arc → Bool
rests_is o h a = not (is_live a.link) || same_bool a.dialogue.rests (rests_in o a.peer.node h)

one_arc : (o : Origin) (h : List Entry) (a : Arc) → (link_is o h a && control_is o h a && awaits_is o h a && due_is o h a && deferral_is o h a && rests_is o h a) ≡ true → agrees_arc o h a ≡ true
one_arc o h a i = grind arith

every_arc : (o : Origin) (h : List Entry) (arcs : List Arc) → all_seven (link_is o h) (control_is o h) (awaits_is o h) (due_is o h) (deferral_is o h) (rests_is o h) arcs ≡ true → agrees_arcs o h arcs ≡ true
every_arc o h [] i = refl
every_arc o h (a ∷ arcs) i =
    both_true (agrees_arc o h a) (agrees_arcs o h arcs)
    (one_arc o h a (heads (link_is o h a) (control_is o h a) (awaits_is o h a) (due_is o h a) (deferral_is o h a) (rests_is o h a) (all_arcs (link_is o h) arcs) (all_arcs (control_is o h) arcs) (all_arcs (awaits_is o h) arcs) (all_arcs (due_is o h) arcs) (all_arcs (deferral_is o h) arcs) (all_arcs (rests_is o h) arcs) i))
    (every_arc o h arcs (tails (link_is o h a) (control_is o h a) (awaits_is o h a) (due_is o h a) (deferral_is o h a) (rests_is o h a) (all_arcs (link_is o h) arcs) (all_arcs (control_is o h) arcs) (all_arcs (awaits_is o h) arcs) (all_arcs (due_is o h) arcs) (all_arcs (deferral_is o h) arcs) (all_arcs (rests_is o h) arcs) i))
  where
    heads : (a b c d e f u v w x y z : Bool) → ((a && u) && (b && v) && (c && w) && (d && x) && (e && y) && (f && z)) ≡ true → (a && b && c && d && e && f) ≡ true
    heads a b c d e f u v w x y z i = grind (arith, i)

    tails : (a b c d e f u v w x y z : Bool) → ((a && u) && (b && v) && (c && w) && (d && x) && (e && y) && (f && z)) ≡ true → (u && v && w && x && y && z) ≡ true
    tails a b c d e f u v w x y z i = grind (arith, i)

-- ---- many tests that hold

pub six : (a b c d e f : Bool) → (a && b && c && d && e && f) ≡ true → (a ≡ true) × (b ≡ true) × (c ≡ true) × (d ≡ true) × (e ≡ true) × (f ≡ true)
six a b c d e f h = (grind (arith, h), grind (arith, h), grind (arith, h), grind (arith, h), grind (arith, h), grind (arith, h))

seven : (a b c d e f g : Bool) → (a && b && c && d && e && f && g) ≡ true → (b ≡ true) × ((a && c && d && e && f && g) ≡ true)
seven a b c d e f g h = (grind (arith, h), grind (arith, h))

eleven : (a b c d e f g p q r s : Bool) → (a && b && c && d && e && f && g && p && q && r && s) ≡ true → ((a && c && d && e && f && g) ≡ true) × ((b && p && q && r && s) ≡ true)
eleven a b c d e f g p q r s h = (grind (arith, h), grind (arith, h))

pub five : (a b c d e : Bool) → (a && b && c && d && e) ≡ true → (a ≡ true) × (b ≡ true) × (c ≡ true) × (d ≡ true) × (e ≡ true)
five a b c d e h = (grind (arith, h), grind (arith, h), grind (arith, h), grind (arith, h), grind (arith, h))

pub three : (a b c : Bool) → (a && b && c) ≡ true → (a ≡ true) × (b ≡ true) × (c ≡ true)
three a b c h = (grind (arith, h), grind (arith, h), grind (arith, h))

abbrev agrees_now : Origin → List Entry → Option Current → Bool
agrees_now o h v = elim v [ None ↦ true | Some c ↦ agrees_current o (node_key c.key) h c ]

abbrev of_now : Option Current → (NodeKey → Current → Bool) → Bool
of_now v f = elim v [ None ↦ true | Some c ↦ f (node_key c.key) c ]

all_now : (o : Origin) (h : List Entry) (v : Option Current)
    → of_now v (λ k c. number_of_phase c.phase == number_of_phase (phase_in o k h)) ≡ true
    → of_now v (λ k c. is_addr_option (superior_of c.key) (superior_for o k h)) ≡ true
    → of_now v (λ k c. same_list is_child (all_children c.branches) (branches_in o k h)) ≡ true
    → of_now v (λ k c. agrees_branches o k h c.branches) ≡ true
    → of_now v (λ k c. same_bool c.told_prepare (told_prepare_in o k h)) ≡ true
    → of_now v (λ k c. same_bool c.asked (asked_in o k h)) ≡ true
    → of_now v (λ k c. same_bool c.owes (owes_in o k h)) ≡ true
    → of_now v (λ k c. same_bool c.superior_rolled (superior_rolled_in o k h)) ≡ true
    → of_now v (λ k c. same_option is_outcome c.decision (decision_for o k h)) ≡ true
    → of_now v (λ k c. rank c.own == rank (own_in o k h)) ≡ true
    → agrees_now o h v ≡ true
all_now o h None a b c d e f g p q r = refl
all_now o h (Some x) a b c d e f g p q r = rw (a, b, c, d, e, f, g, p, q, r) refl

pub whole : (o : Origin) (h : List Entry) → agrees_in_parts o h ≡ true → agrees o h ≡ true
whole o h i =
    let all = three (node_agrees o h) (arcs_agree o h) (current_agrees o h) i in
    let n = six (declared_agrees o h) (known_agrees o h) (superior_agrees o h) (drawn_agrees o h) (boot_agrees o h) (kept_agrees o h) all.0 in
    let a = seven (links_agree o h) (order_agrees o h) (control_agrees o h) (awaits_agrees o h) (due_agrees o h) (deferral_agrees o h) (rests_agrees o h) all.1 in
    let c = eleven (phase_agrees o h) (key_agrees o h) (above_agrees o h) (branches_agree o h) (marks_agree o h) (told_prepare_agrees o h) (asked_agrees o h) (owes_agrees o h) (superior_rolled_agrees o h) (decision_agrees o h) (own_agrees o h) all.2 in
    let x = six (phase_agrees o h) (above_agrees o h) (branches_agree o h) (marks_agree o h) (told_prepare_agrees o h) (asked_agrees o h) c.0 in
    let y = five (key_agrees o h) (owes_agrees o h) (superior_rolled_agrees o h) (decision_agrees o h) (own_agrees o h) c.1 in
    let arcs : agrees_arcs o h (digest o h).arcs ≡ true = every_arc o h (digest o h).arcs a.1 in
    let now : agrees_now o h (digest o h).current ≡ true = all_now o h (digest o h).current x.0 x.1 x.2 x.3 x.4 x.5 y.1 y.2 y.3 y.4 in
    rw (n.0, n.1, n.2, n.3, n.4, n.5, arcs, a.0, now, y.0) refl
