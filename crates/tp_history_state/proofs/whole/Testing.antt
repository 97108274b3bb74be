-- Where what is known is equal to what the questions answer, part by part, every test of it holds.
use Rattle.std.specs.Prelude.{ℕ, ◌==◌, ◌&&◌, ◌||◌, ◌≡◌, not, Bool, true, false, Option, Some, None, is_some, List, [], ◌∷◌, All}
use Rattle.std.proofs.Common.{refl, ap, sym, ◌∙◌, subst, arith}
use Rattle.std.proofs.lemmas.Bool.Decides.{nat_tests}
use Rattle.std.proofs.lemmas.List.Elements.{All-head, All-tail}
use Rattle.tp_names.specs.declared.identifiers.NodeKey.{NodeKey}
use Rattle.tp_names.specs.declared.identifiers.Addr.{Addr}
use Rattle.tp_names.specs.declared.children.Child.{Child}
use Rattle.tp_names.specs.declared.outcome.Outcome.{Outcome}
use Rattle.tp_names.specs.Same.{is_name, is_mark, is_key, is_addr, is_addr_option, is_outcome}
use Rattle.tp_names.specs.Reports.{rank}
use Rattle.tp_names.proofs.Sames.{name_self, mark_self, key_self, branch_self}
use Rattle.tp_units.specs.Units.{has_bit}
use Rattle.tp_model.specs.declared.arc.Phase.{Phase}
use Rattle.tp_model.specs.declared.recovery.Kept.{Kept}
use Rattle.tp_model.specs.Dialogues.{is_polarized}
use Rattle.tp_model.specs.Parts.{Origin, Entry, Link, Idle, Opening, Offered, Live, Arc, Branch, Current, Digest}
use Rattle.tp_model.specs.Links.{is_live, is_idle}
use Rattle.tp_model.specs.Arcs.{find_arc}
use Rattle.tp_model.specs.Transactions.{node_key, superior_of, child_of}
use Rattle.tp_model.specs.History.{digest}
use Rattle.tp_model.specs.Questions.{declared_in, superior_in, boot_in, link_in, holds_in, awaits_in, due_in, deferral_in, rests_in, drawn_in}
use Rattle.tp_model.specs.Keys.{phase_in, superior_for, branches_in, prepared_in, counted_in, left_in, given_up_in, ended_in, told_prepare_in, asked_in, superior_rolled_in, owes_in, decision_for, own_in, kept_in, known_in, begun_key}
use Rattle.tp_model.specs.Consistency.{IsKnown, IsKnownArc, IsKnownDialogue, IsKnownBranch, IsKnownCurrent, peers_below, peers_in, not_idle, all_children, report_of, is_current}
use Rattle.tp_histories.specs.KnownTests.{same_bool, same_list, same_option, number_of_phase, number_of_deferral, number_of_due, same_link, same_kept, agrees_live, agrees_arc, agrees_arcs, is_number, agrees_up, agrees_order, agrees_branch, agrees_branches, agrees_current, is_quiet, key_logged, others_quiet, agrees_transactions, agrees}
use Rattle.tp_logrec.specs.Order.{is_child}
use Rattle.tp_steps.proofs.lemmas.Equality.{both_true}

-- ---- each test of equality, of a thing with itself

number_self : (n : ℕ) → (n == n) ≡ true
number_self n = grind (arith, nat_tests)

bool_self : (b : Bool) → same_bool b b ≡ true
bool_self true = refl
bool_self false = refl

addr_self : (a : Option Addr) → is_addr_option a a ≡ true
addr_self None = refl
addr_self (Some a) = both_true (is_name a.site a.site) (a.node == a.node) (name_self a.site) (number_self a.node)

outcome_self : (u : Outcome) → is_outcome u u ≡ true
outcome_self Outcome.Commit = refl
outcome_self Outcome.Rollback = refl

link_self : (l : Link) → same_link l l ≡ true
link_self Idle = refl
link_self (Opening x) = mark_self x
link_self (Offered x) = mark_self x
link_self (Live x y s t) = rw (mark_self x, mark_self y, number_self s, number_self t) refl

child_self : (c : Child) → is_child c c ≡ true
child_self c = both_true _ _ (addr_self (Some c.addr)) (branch_self c.branch)

list_self : {X : Type 0} (f : X → X → Bool) → ((x : X) → f x x ≡ true) → (xs : List X) → same_list f xs xs ≡ true
list_self f one [] = refl
list_self f one (x ∷ xs) = both_true (f x x) (same_list f xs xs) (one x) (list_self f one xs)

option_self : {X : Type 0} (f : X → X → Bool) → ((x : X) → f x x ≡ true) → (a : Option X) → same_option f a a ≡ true
option_self f one None = refl
option_self f one (Some x) = one x

kept_self : (k : Kept) → same_kept k k ≡ true
kept_self k = rw (number_self k.node, key_self k.key, addr_self k.superior, outcome_self k.side, number_self (rank k.report), list_self is_child child_self k.owed, bool_self k.forgot) refl

-- of two things that are equal
same : {X : Type 0} (f : X → X → Bool) → ((x : X) → f x x ≡ true) → (x y : X) → x ≡ y → f x y ≡ true
same f one x y e = ap (f x) (sym e) ∙ one x

-- ---- arcs

live_tested : (o : Origin) (h : List Entry) (a : Arc) → IsKnownDialogue o h a → agrees_live o h a ≡ true
live_tested o h a k =
    five (not (has_bit a.dialogue.units 2) || same_bool a.dialogue.holds (holds_in o p h)) (same_bool a.dialogue.awaits (awaits_in o p h))
    (number_of_due a.dialogue.due == number_of_due (due_in o p h)) (number_of_deferral a.dialogue.deferral == number_of_deferral (deferral_in o p h)) (same_bool a.dialogue.rests (rests_in o p h))
    (holds (has_bit a.dialogue.units 2) refl)
    (same same_bool bool_self a.dialogue.awaits (awaits_in o p h) k.awaits)
    (same (λ x y. number_of_due x == number_of_due y) (λ x. number_self (number_of_due x)) a.dialogue.due (due_in o p h) k.due)
    (same (λ x y. number_of_deferral x == number_of_deferral y) (λ x. number_self (number_of_deferral x)) a.dialogue.deferral (deferral_in o p h) k.deferral)
    (same same_bool bool_self a.dialogue.rests (rests_in o p h) k.rests)
  where
    p : ℕ
    p = a.peer.node

    five : (a b c d e : Bool) → a ≡ true → b ≡ true → c ≡ true → d ≡ true → e ≡ true → (a && b && c && d && e) ≡ true
    five a b c d e i j k l m = rw (i, j, k, l, m) refl

    holds : (b : Bool) → has_bit a.dialogue.units 2 ≡ b → (not b || same_bool a.dialogue.holds (holds_in o p h)) ≡ true
    holds false i = refl
    holds true i = same same_bool bool_self a.dialogue.holds (holds_in o p h) (k.holds i)

arc_tested : (o : Origin) (h : List Entry) (a : Arc) → IsKnownArc o h a → agrees_arc o h a ≡ true
arc_tested o h a k =
    three (same_link a.link (link_in o a.peer.node h)) (is_idle a.link) (not (is_live a.link) || agrees_live o h a)
    (same same_link link_self a.link (link_in o a.peer.node h) k.link) k.linked (live (is_live a.link) refl)
  where
    three : (a b c : Bool) → a ≡ true → b ≡ false → c ≡ true → (a && not b && c) ≡ true
    three a b c i j k = rw (i, j, k) refl

    live : (b : Bool) → is_live a.link ≡ b → (not b || agrees_live o h a) ≡ true
    live false i = refl
    live true i = live_tested o h a (k.dialogue i)

arcs_tested : (o : Origin) (h : List Entry) (arcs : List Arc) → All (IsKnownArc o h) arcs → agrees_arcs o h arcs ≡ true
arcs_tested o h [] k = refl
arcs_tested o h (a ∷ arcs) k =
    both_true (agrees_arc o h a) (agrees_arcs o h arcs) (arc_tested o h a (All-head (IsKnownArc o h) a arcs k)) (arcs_tested o h arcs (All-tail (IsKnownArc o h) a arcs k))

upward_tested : (o : Origin) (h : List Entry) → ((a : Addr) → superior_in h ≡ Some a → find_arc (digest o h).arcs a.node ≡ None → link_in o a.node h ≡ Idle) → agrees_up o h ≡ true
upward_tested o h k = go (superior_in h) refl
  where
    at : (a : Addr) → superior_in h ≡ Some a → (v : Option Arc) → find_arc (digest o h).arcs a.node ≡ v → elim v as (λ _. Bool) [ None ↦ is_idle (link_in o a.node h) | Some b ↦ true ] ≡ true
    at a i None j = ap is_idle (k a i j)
    at a i (Some b) j = refl

    go : (s : Option Addr) → superior_in h ≡ s → elim s as (λ _. Bool) [ None ↦ true | Some a ↦ elim (find_arc (digest o h).arcs a.node) as (λ _. Bool) [ None ↦ is_idle (link_in o a.node h) | Some b ↦ true ] ] ≡ true
    go None i = refl
    go (Some a) i = at a i (find_arc (digest o h).arcs a.node) refl

-- ---- the current transaction

branch_tested : (o : Origin) (k : NodeKey) (h : List Entry) (b : Branch) → IsKnownBranch o k h b → agrees_branch o k h b ≡ true
branch_tested o k h b x =
    six (same_bool b.prepared (prepared_in o k b.peer.node h)) (same_bool b.counted (counted_in o k b.peer.node h)) (same_bool b.left (left_in o k b.peer.node h))
    (same_bool b.given_up (given_up_in o k b.peer.node h)) (same_bool b.ended (is_some (ended_in o k (child_of b) h))) (rank b.report == rank (report_of (ended_in o k (child_of b) h)))
    (same same_bool bool_self b.prepared (prepared_in o k b.peer.node h) x.prepared)
    (same same_bool bool_self b.counted (counted_in o k b.peer.node h) x.counted)
    (same same_bool bool_self b.left (left_in o k b.peer.node h) x.left)
    (same same_bool bool_self b.given_up (given_up_in o k b.peer.node h) x.given_up)
    (same same_bool bool_self b.ended (is_some (ended_in o k (child_of b) h)) x.ended)
    (same (λ r s. rank r == rank s) (λ r. number_self (rank r)) b.report (report_of (ended_in o k (child_of b) h)) x.report)
  where
    six : (a b c d e f : Bool) → a ≡ true → b ≡ true → c ≡ true → d ≡ true → e ≡ true → f ≡ true → (a && b && c && d && e && f) ≡ true
    six a b c d e f i j k l m n = rw (i, j, k, l, m, n) refl

branches_tested : (o : Origin) (k : NodeKey) (h : List Entry) (bs : List Branch) → All (IsKnownBranch o k h) bs → agrees_branches o k h bs ≡ true
branches_tested o k h [] x = refl
branches_tested o k h (b ∷ bs) x =
    both_true (agrees_branch o k h b) (agrees_branches o k h bs) (branch_tested o k h b (All-head (IsKnownBranch o k h) b bs x)) (branches_tested o k h bs (All-tail (IsKnownBranch o k h) b bs x))

current_tested : (o : Origin) (h : List Entry) (c : Current) → IsKnownCurrent o h c → agrees_current o (node_key c.key) h c ≡ true
current_tested o h c x =
    ten (number_of_phase c.phase == number_of_phase (phase_in o k h)) (is_addr_option (superior_of c.key) (superior_for o k h)) (same_list is_child (all_children c.branches) (branches_in o k h)) (agrees_branches o k h c.branches)
    (same_bool c.told_prepare (told_prepare_in o k h)) (same_bool c.asked (asked_in o k h)) (same_bool c.owes (owes_in o k h)) (same_bool c.superior_rolled (superior_rolled_in o k h))
    (same_option is_outcome c.decision (decision_for o k h)) (rank c.own == rank (own_in o k h))
    (same (λ p q. number_of_phase p == number_of_phase q) (λ p. number_self (number_of_phase p)) c.phase (phase_in o k h) x.phase)
    (same is_addr_option addr_self (superior_of c.key) (superior_for o k h) x.superior)
    (same (same_list is_child) (list_self is_child child_self) (all_children c.branches) (branches_in o k h) x.children)
    (branches_tested o k h c.branches x.branches)
    (same same_bool bool_self c.told_prepare (told_prepare_in o k h) x.told_prepare)
    (same same_bool bool_self c.asked (asked_in o k h) x.asked)
    (same same_bool bool_self c.owes (owes_in o k h) x.owes)
    (same same_bool bool_self c.superior_rolled (superior_rolled_in o k h) x.superior_rolled)
    (same (same_option is_outcome) (option_self is_outcome outcome_self) c.decision (decision_for o k h) x.decision)
    (same (λ r s. rank r == rank s) (λ r. number_self (rank r)) c.own (own_in o k h) x.own)
  where
    k : NodeKey
    k = node_key c.key

    ten : (a b c d e f g p q r : Bool) → a ≡ true → b ≡ true → c ≡ true → d ≡ true → e ≡ true → f ≡ true → g ≡ true → p ≡ true → q ≡ true → r ≡ true → (a && b && c && d && e && f && g && p && q && r) ≡ true
    ten a b c d e f g p q r ha hb hc hd he hf hg hp hq hr = rw (ha, hb, hc, hd, he, hf, hg, hp, hq, hr) refl

now_tested : (o : Origin) (h : List Entry) (v : Option Current) → ((c : Current) → v ≡ Some c → IsKnownCurrent o h c) → elim v as (λ _. Bool) [ None ↦ true | Some c ↦ agrees_current o (node_key c.key) h c ] ≡ true
now_tested o h None x = refl
now_tested o h (Some c) x = current_tested o h c (x c refl)

quiet_tested : (o : Origin) (h : List Entry) → ((k : NodeKey) → is_current (digest o h).current k ≡ false → phase_in o k h ≡ Phase.Nil) → (k : Option NodeKey) → is_quiet o h k ≡ true
quiet_tested o h x None = refl
quiet_tested o h x (Some k) = go (is_current (digest o h).current k) refl
  where
    go : (b : Bool) → is_current (digest o h).current k ≡ b → (b || (number_of_phase (phase_in o k h) == 0)) ≡ true
    go true i = refl
    go false i = ap (λ (p : Phase). number_of_phase p == 0) (x k i)

others_tested : (o : Origin) (h g : List Entry) → ((k : Option NodeKey) → is_quiet o h k ≡ true) → others_quiet o h g ≡ true
others_tested o h [] x = refl
others_tested o h (e ∷ g) x = three (is_quiet o h (begun_key o e g)) (is_quiet o h (key_logged e)) (others_quiet o h g) (x (begun_key o e g)) (x (key_logged e)) (others_tested o h g x)
  where
    three : (a b c : Bool) → a ≡ true → b ≡ true → c ≡ true → (a && b && c) ≡ true
    three a b c i j k = rw (i, j, k) refl

-- ---- the whole

pub tests_from_known : (o : Origin) (h : List Entry) → IsKnown o h → agrees o h ≡ true
tests_from_known o h x =
    eight (same_bool d.declared (declared_in h)) (same_bool d.known (known_in o h)) (is_addr_option d.superior (superior_in h)) (agrees_arcs o h d.arcs) (agrees_order o h) (agrees_transactions o h) (d.drawn == drawn_in o h) (d.boot == boot_in o h)
    (same same_bool bool_self d.declared (declared_in h) x.declared)
    (same same_bool bool_self d.known (known_in o h) x.known)
    (same is_addr_option addr_self d.superior (superior_in h) x.superior)
    (arcs_tested o h d.arcs x.arcs)
    (both_true (same_list is_number (peers_below d d.arcs) (not_idle o h (peers_in h))) (agrees_up o h)
    (same (same_list is_number) (list_self is_number number_self) (peers_below d d.arcs) (not_idle o h (peers_in h)) x.order) (upward_tested o h x.upward))
    (three (elim d.current as (λ _. Bool) [ None ↦ true | Some c ↦ agrees_current o (node_key c.key) h c ]) (others_quiet o h h) (same_list same_kept d.kept (kept_in o h))
    (now_tested o h d.current x.current) (others_tested o h h (quiet_tested o h x.others)) (same (same_list same_kept) (list_self same_kept kept_self) d.kept (kept_in o h) x.kept))
    (same (λ m n. m == n) number_self d.drawn (drawn_in o h) x.drawn)
    (same (λ m n. m == n) number_self d.boot (boot_in o h) x.boot)
  where
    d : Digest
    d = digest o h

    three : (a b c : Bool) → a ≡ true → b ≡ true → c ≡ true → (a && b && c) ≡ true
    three a b c i j k = rw (i, j, k) refl

    eight : (a b c d e f g p : Bool) → a ≡ true → b ≡ true → c ≡ true → d ≡ true → e ≡ true → f ≡ true → g ≡ true → p ≡ true → (a && b && c && d && e && f && g && p) ≡ true
    eight a b c d e f g p ha hb hc hd he hf hg hp = rw (ha, hb, hc, hd, he, hf, hg, hp) refl
