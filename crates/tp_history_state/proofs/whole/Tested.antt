-- The tests of what is known say that it is equal to what the questions answer, part by part.
use Rattle.std.specs.Prelude.{ℕ, ◌==◌, ◌&&◌, ◌||◌, ◌≡◌, not, Bool, true, false, Option, Some, None, is_some, List, [], ◌∷◌, All}
use Rattle.std.proofs.Common.{refl, ap, sym, ◌∙◌, arith}
use Rattle.std.proofs.lemmas.Bool.Decides.{nat_tests}
use Rattle.std.proofs.lemmas.List.Elements.{All-nil, All-cons}
use Rattle.tp_names.specs.declared.identifiers.NodeKey.{NodeKey}
use Rattle.tp_names.specs.declared.identifiers.Addr.{Addr}
use Rattle.tp_names.specs.declared.identifiers.Mark.{Mark}
use Rattle.tp_names.specs.declared.children.Child.{Child}
use Rattle.tp_names.specs.declared.outcome.Report.{Report}
use Rattle.tp_names.specs.declared.outcome.Outcome.{Outcome}
use Rattle.tp_names.specs.Same.{is_mark, is_key, is_branch, is_addr, is_addr_option, is_outcome}
use Rattle.tp_names.specs.Reports.{rank}
use Rattle.tp_units.specs.Units.{has_bit}
use Rattle.tp_model.specs.declared.arc.Phase.{Phase}
use Rattle.tp_model.specs.declared.arc.Deferral.{Deferral}
use Rattle.tp_model.specs.declared.recovery.Kept.{Kept}
use Rattle.tp_model.specs.Parts.{Origin, Entry, Link, Idle, Opening, Offered, Live, Due, No_response, Response_due, Response_with_control, Arc, Branch, Current}
use Rattle.tp_model.specs.Links.{is_live, is_idle}
use Rattle.tp_model.specs.Arcs.{find_arc}
use Rattle.tp_model.specs.Transactions.{node_key, superior_of, child_of}
use Rattle.tp_model.specs.History.{digest}
use Rattle.tp_model.specs.Questions.{declared_in, superior_in, boot_in, link_in, holds_in, awaits_in, due_in, deferral_in, rests_in, drawn_in}
use Rattle.tp_model.specs.Keys.{phase_in, superior_for, branches_in, prepared_in, counted_in, left_in, given_up_in, ended_in, told_prepare_in, asked_in, superior_rolled_in, owes_in, decision_for, own_in, kept_in, known_in}
use Rattle.tp_model.specs.Consistency.{IsKnown, IsKnownArc, IsKnownDialogue, IsKnownBranch, IsKnownCurrent, peers_in, not_idle, report_of, is_current, all_children, peers_below}
use Rattle.tp_histories.specs.KnownTests.{same_bool, same_list, same_option, number_of_phase, number_of_deferral, number_of_due, same_link, same_kept, agrees_live, agrees_arc, agrees_arcs, is_number, agrees_up, agrees_order, agrees_branch, agrees_branches, agrees_current, is_quiet, others_quiet, agrees_transactions, agrees}
use Rattle.tp_logrec.specs.Order.{is_child}
use Rattle.tp_steps.proofs.lemmas.Equality.{and_left, and_right, addrs_equal, branches_equal}
use Rattle.tp_steps.proofs.every.Preludes.{marks_same}
use Rattle.tp_steps.proofs.log.ApartLog.{keys_equal}
use Rattle.tp_history_state.proofs.whole.Parts.{six, five, three}

-- ---- each test of equality

pub bool_equal : (a b : Bool) → same_bool a b ≡ true → a ≡ b
bool_equal true b h = sym h
bool_equal false true h = absurd cc
bool_equal false false h = refl

number_equal : (m n : ℕ) → (m == n) ≡ true → m ≡ n
number_equal m n h = grind (arith, nat_tests, h)

addr_equal : (a b : Option Addr) → is_addr_option a b ≡ true → a ≡ b
addr_equal None None h = refl
addr_equal (Some a) (Some b) h = ap (λ (x : Addr). Some x) (addrs_equal a b h)
addr_equal _ _ h = absurd cc

outcome_equal : (a b : Outcome) → is_outcome a b ≡ true → a ≡ b
outcome_equal Outcome.Commit Outcome.Commit h = refl
outcome_equal Outcome.Rollback Outcome.Rollback h = refl
outcome_equal _ _ h = absurd cc

phase_equal : (a b : Phase) → (number_of_phase a == number_of_phase b) ≡ true → a ≡ b
phase_equal Phase.Nil Phase.Nil h = refl
phase_equal Phase.Active Phase.Active h = refl
phase_equal Phase.Ready Phase.Ready h = refl
phase_equal Phase.Committing Phase.Committing h = refl
phase_equal Phase.Rolling Phase.Rolling h = refl
phase_equal _ _ h = absurd cc

deferral_equal : (a b : Deferral) → (number_of_deferral a == number_of_deferral b) ≡ true → a ≡ b
deferral_equal Deferral.None Deferral.None h = refl
deferral_equal Deferral.End Deferral.End h = refl
deferral_equal Deferral.Grant Deferral.Grant h = refl
deferral_equal _ _ h = absurd cc

due_equal : (a b : Due) → (number_of_due a == number_of_due b) ≡ true → a ≡ b
due_equal No_response No_response h = refl
due_equal Response_due Response_due h = refl
due_equal Response_with_control Response_with_control h = refl
due_equal _ _ h = absurd cc

report_equal : (a b : Report) → (rank a == rank b) ≡ true → a ≡ b
report_equal Report.None Report.None h = refl
report_equal Report.Hazard Report.Hazard h = refl
report_equal Report.Mix Report.Mix h = refl
report_equal _ _ h = absurd cc

live_made : (x v y w : Mark) (s m t n : ℕ) → x ≡ v → y ≡ w → s ≡ m → t ≡ n → Live x y s t ≡ Live v w m n
live_made x v y w s m t n a b c d = rw (a, b, c, d) refl

link_equal : (a b : Link) → same_link a b ≡ true → a ≡ b
link_equal Idle Idle h = refl
link_equal (Opening x) (Opening y) h = ap (λ (z : Mark). Opening z) (marks_same x y h)
link_equal (Offered x) (Offered y) h = ap (λ (z : Mark). Offered z) (marks_same x y h)
link_equal (Live x y s t) (Live v w m n) h =
    let one : is_mark x v ≡ true = grind (arith, h) in
    let two : is_mark y w ≡ true = grind (arith, h) in
    live_made x v y w s m t n (marks_same x v one) (marks_same y w two) (grind (arith, nat_tests, h)) (grind (arith, nat_tests, h))
link_equal _ _ h = absurd cc

child_made : (a b : Addr) (c d : _) → a ≡ b → c ≡ d → ◌≡◌ {A = Child} (record { addr = a; branch = c }) (record { addr = b; branch = d })
child_made a b c d e f = rw (e, f) refl

child_equal : (a b : Child) → is_child a b ≡ true → a ≡ b
child_equal a b h =
    child_made a.addr b.addr a.branch b.branch
    (addrs_equal a.addr b.addr (and_left (is_addr a.addr b.addr) (is_branch a.branch b.branch) h))
    (branches_equal a.branch b.branch (and_right (is_addr a.addr b.addr) (is_branch a.branch b.branch) h))

cons_made : {X : Type 0} (x y : X) (xs ys : List X) → x ≡ y → xs ≡ ys → x ∷ xs ≡ y ∷ ys
cons_made x y xs ys e f = rw (e, f) refl

list_equal : {X : Type 0} (f : X → X → Bool) → ((x y : X) → f x y ≡ true → x ≡ y) → (xs ys : List X) → same_list f xs ys ≡ true → xs ≡ ys
list_equal f one [] [] h = refl
list_equal f one (x ∷ xs) (y ∷ ys) h =
    cons_made x y xs ys (one x y (and_left (f x y) (same_list f xs ys) h)) (list_equal f one xs ys (and_right (f x y) (same_list f xs ys) h))
list_equal f one _ _ h = absurd cc

option_equal : {X : Type 0} (f : X → X → Bool) → ((x y : X) → f x y ≡ true → x ≡ y) → (a b : Option X) → same_option f a b ≡ true → a ≡ b
option_equal f one None None h = refl
option_equal f one (Some x) (Some y) h = ap (λ z. Some z) (one x y h)
option_equal f one _ _ h = absurd cc

kept_made : (a b : Kept) → a.node ≡ b.node → a.key ≡ b.key → a.superior ≡ b.superior → a.side ≡ b.side → a.report ≡ b.report → a.owed ≡ b.owed → a.forgot ≡ b.forgot → a ≡ b
kept_made a b = made a.node b.node a.key b.key a.superior b.superior a.side b.side a.report b.report a.owed b.owed a.forgot b.forgot
  where
    made : (n m : ℕ) (k j : NodeKey) (s t : Option Addr) (u v : Outcome) (r q : Report) (cs ds : List Child) (f g : Bool)
        → n ≡ m → k ≡ j → s ≡ t → u ≡ v → r ≡ q → cs ≡ ds → f ≡ g
        → ◌≡◌ {A = Kept} (record { node = n; key = k; superior = s; side = u; report = r; owed = cs; forgot = f }) (record { node = m; key = j; superior = t; side = v; report = q; owed = ds; forgot = g })
    made n m k j s t u v r q cs ds f g e1 e2 e3 e4 e5 e6 e7 = rw (e1, e2, e3, e4, e5, e6, e7) refl

seven : (a b c d e f g : Bool) → (a && b && c && d && e && f && g) ≡ true → (a ≡ true) × (b ≡ true) × (c ≡ true) × (d ≡ true) × (e ≡ true) × (f ≡ true) × (g ≡ true)
seven a b c d e f g h = (grind (arith, h), grind (arith, h), grind (arith, h), grind (arith, h), grind (arith, h), grind (arith, h), grind (arith, h))

kept_equal : (a b : Kept) → same_kept a b ≡ true → a ≡ b
kept_equal a b h =
    let p = seven (a.node == b.node) (is_key a.key b.key) (is_addr_option a.superior b.superior) (is_outcome a.side b.side) (rank a.report == rank b.report) (same_list is_child a.owed b.owed) (same_bool a.forgot b.forgot) h in
    kept_made a b (number_equal a.node b.node p.0) (keys_equal a.key b.key p.1) (addr_equal a.superior b.superior p.2) (outcome_equal a.side b.side p.3) (report_equal a.report b.report p.4)
    (list_equal is_child child_equal a.owed b.owed p.5) (bool_equal a.forgot b.forgot p.6)

-- ---- arcs

turned : (b : Bool) → not b ≡ true → b ≡ false
turned true h = absurd (cc (h))
turned false h = refl

then : (b c : Bool) → (not b || c) ≡ true → b ≡ true → c ≡ true
then true c h i = h
then false c h i = absurd (cc (i))

dialogue_known : (o : Origin) (h : List Entry) (a : Arc) → agrees_live o h a ≡ true → IsKnownDialogue o h a
dialogue_known o h a i =
    let p : ℕ = a.peer.node in
    let q = five (not (has_bit a.dialogue.units 2) || same_bool a.dialogue.holds (holds_in o p h)) (same_bool a.dialogue.awaits (awaits_in o p h)) (number_of_due a.dialogue.due == number_of_due (due_in o p h)) (number_of_deferral a.dialogue.deferral == number_of_deferral (deferral_in o p h)) (same_bool a.dialogue.rests (rests_in o p h)) i in
    record {
      holds = λ on. bool_equal a.dialogue.holds (holds_in o p h) (then (has_bit a.dialogue.units 2) (same_bool a.dialogue.holds (holds_in o p h)) q.0 on);
      awaits = bool_equal a.dialogue.awaits (awaits_in o p h) q.1;
      due = due_equal a.dialogue.due (due_in o p h) q.2;
      deferral = deferral_equal a.dialogue.deferral (deferral_in o p h) q.3;
      rests = bool_equal a.dialogue.rests (rests_in o p h) q.4;
    }

arc_known : (o : Origin) (h : List Entry) (a : Arc) → agrees_arc o h a ≡ true → IsKnownArc o h a
arc_known o h a i =
    let q = three (same_link a.link (link_in o a.peer.node h)) (not (is_idle a.link)) (not (is_live a.link) || agrees_live o h a) i in
    record {
      link = link_equal a.link (link_in o a.peer.node h) q.0;
      linked = turned (is_idle a.link) q.1;
      dialogue = λ on. dialogue_known o h a (then (is_live a.link) (agrees_live o h a) q.2 on);
    }

arcs_known : (o : Origin) (h : List Entry) (arcs : List Arc) → agrees_arcs o h arcs ≡ true → All (IsKnownArc o h) arcs
arcs_known o h [] i = All-nil (IsKnownArc o h)
arcs_known o h (a ∷ arcs) i =
    All-cons (IsKnownArc o h) a arcs (arc_known o h a (and_left (agrees_arc o h a) (agrees_arcs o h arcs) i))
    (arcs_known o h arcs (and_right (agrees_arc o h a) (agrees_arcs o h arcs) i))

upward_known : (o : Origin) (h : List Entry) → agrees_up o h ≡ true → (a : Addr) → superior_in h ≡ Some a → find_arc (digest o h).arcs a.node ≡ None → link_in o a.node h ≡ Idle
upward_known o h i a up off = idle (link_in o a.node h) (sym here ∙ i)
  where
    here : agrees_up o h ≡ is_idle (link_in o a.node h)
    here =
        ap (λ (s : Option Addr). elim s as (λ _. Bool) [ None ↦ true | Some x ↦ elim (find_arc (digest o h).arcs x.node) as (λ _. Bool) [ None ↦ is_idle (link_in o x.node h) | Some b ↦ true ] ]) up
        ∙ ap (λ (v : Option Arc). elim v as (λ _. Bool) [ None ↦ is_idle (link_in o a.node h) | Some b ↦ true ]) off

    idle : (l : Link) → is_idle l ≡ true → l ≡ Idle
    idle Idle j = refl
    idle _ j = absurd cc

-- ---- the current transaction

branch_known : (o : Origin) (k : NodeKey) (h : List Entry) (b : Branch) → agrees_branch o k h b ≡ true → IsKnownBranch o k h b
branch_known o k h b i =
    let q = six (same_bool b.prepared (prepared_in o k b.peer.node h)) (same_bool b.counted (counted_in o k b.peer.node h)) (same_bool b.left (left_in o k b.peer.node h)) (same_bool b.given_up (given_up_in o k b.peer.node h)) (same_bool b.ended (is_some (ended_in o k (child_of b) h))) (rank b.report == rank (report_of (ended_in o k (child_of b) h))) i in
    record {
      prepared = bool_equal b.prepared (prepared_in o k b.peer.node h) q.0;
      counted = bool_equal b.counted (counted_in o k b.peer.node h) q.1;
      left = bool_equal b.left (left_in o k b.peer.node h) q.2;
      given_up = bool_equal b.given_up (given_up_in o k b.peer.node h) q.3;
      ended = bool_equal b.ended (is_some (ended_in o k (child_of b) h)) q.4;
      report = report_equal b.report (report_of (ended_in o k (child_of b) h)) q.5;
    }

branches_known : (o : Origin) (k : NodeKey) (h : List Entry) (bs : List Branch) → agrees_branches o k h bs ≡ true → All (IsKnownBranch o k h) bs
branches_known o k h [] i = All-nil (IsKnownBranch o k h)
branches_known o k h (b ∷ bs) i =
    All-cons (IsKnownBranch o k h) b bs (branch_known o k h b (and_left (agrees_branch o k h b) (agrees_branches o k h bs) i))
    (branches_known o k h bs (and_right (agrees_branch o k h b) (agrees_branches o k h bs) i))

ten : (a b c d e f g p q r : Bool) → (a && b && c && d && e && f && g && p && q && r) ≡ true → ((a ≡ true) × (b ≡ true) × (c ≡ true) × (d ≡ true) × (e ≡ true)) × ((f ≡ true) × (g ≡ true) × (p ≡ true) × (q ≡ true) × (r ≡ true))
ten a b c d e f g p q r h =
    ((grind (arith, h), grind (arith, h), grind (arith, h), grind (arith, h), grind (arith, h)), (grind (arith, h), grind (arith, h), grind (arith, h), grind (arith, h), grind (arith, h)))

current_known : (o : Origin) (h : List Entry) (c : Current) → agrees_current o (node_key c.key) h c ≡ true → IsKnownCurrent o h c
current_known o h c i =
    let k : NodeKey = node_key c.key in
    let p = ten (number_of_phase c.phase == number_of_phase (phase_in o k h)) (is_addr_option (superior_of c.key) (superior_for o k h)) (same_list is_child (all_children c.branches) (branches_in o k h)) (agrees_branches o k h c.branches) (same_bool c.told_prepare (told_prepare_in o k h)) (same_bool c.asked (asked_in o k h)) (same_bool c.owes (owes_in o k h)) (same_bool c.superior_rolled (superior_rolled_in o k h)) (same_option is_outcome c.decision (decision_for o k h)) (rank c.own == rank (own_in o k h)) i in
    record {
      phase = phase_equal c.phase (phase_in o k h) p.0.0;
      superior = addr_equal (superior_of c.key) (superior_for o k h) p.0.1;
      children = list_equal is_child child_equal (all_children c.branches) (branches_in o k h) p.0.2;
      branches = branches_known o k h c.branches p.0.3;
      told_prepare = bool_equal c.told_prepare (told_prepare_in o k h) p.0.4;
      asked = bool_equal c.asked (asked_in o k h) p.1.0;
      owes = bool_equal c.owes (owes_in o k h) p.1.1;
      superior_rolled = bool_equal c.superior_rolled (superior_rolled_in o k h) p.1.2;
      decision = option_equal is_outcome outcome_equal c.decision (decision_for o k h) p.1.3;
      own = report_equal c.own (own_in o k h) p.1.4;
    }

-- ---- the whole

eight : (a b c d e f g p : Bool) → (a && b && c && d && e && f && g && p) ≡ true → ((a ≡ true) × (b ≡ true) × (c ≡ true) × (d ≡ true)) × ((e ≡ true) × (f ≡ true) × (g ≡ true) × (p ≡ true))
eight a b c d e f g p h = ((grind (arith, h), grind (arith, h), grind (arith, h), grind (arith, h)), (grind (arith, h), grind (arith, h), grind (arith, h), grind (arith, h)))

pub known_from_tests : (o : Origin) (h : List Entry) → agrees o h ≡ true → ((k : NodeKey) → is_quiet o h (Some k) ≡ true) → (digest o h).version ≡ o.start.version → IsKnown o h
known_from_tests o h i quiet version =
    let d = digest o h in
    let p = eight (same_bool d.declared (declared_in h)) (same_bool d.known (known_in o h)) (is_addr_option d.superior (superior_in h)) (agrees_arcs o h d.arcs) (agrees_order o h) (agrees_transactions o h) (d.drawn == drawn_in o h) (d.boot == boot_in o h) i in
    let t = three (elim d.current as (λ _. Bool) [ None ↦ true | Some c ↦ agrees_current o (node_key c.key) h c ]) (others_quiet o h h) (same_list same_kept d.kept (kept_in o h)) p.1.1 in
    record {
      declared = bool_equal d.declared (declared_in h) p.0.0;
      known = bool_equal d.known (known_in o h) p.0.1;
      superior = addr_equal d.superior (superior_in h) p.0.2;
      arcs = arcs_known o h d.arcs p.0.3;
      order = list_equal is_number number_equal (peers_below d d.arcs) (not_idle o h (peers_in h)) (and_left (same_list is_number (peers_below d d.arcs) (not_idle o h (peers_in h))) (agrees_up o h) p.1.0);
      upward = upward_known o h (and_right (same_list is_number (peers_below d d.arcs) (not_idle o h (peers_in h))) (agrees_up o h) p.1.0);
      current = λ c now. current_known o h c (sym (ap (λ (v : Option Current). elim v as (λ _. Bool) [ None ↦ true | Some x ↦ agrees_current o (node_key x.key) h x ]) now) ∙ t.0);
      others = λ k off. silent k off;
      kept = list_equal same_kept kept_equal d.kept (kept_in o h) t.2;
      drawn = number_equal d.drawn (drawn_in o h) p.1.2;
      boot = number_equal d.boot (boot_in o h) p.1.3;
      version = version;
    }
  where
    silent : (k : NodeKey) → is_current (digest o h).current k ≡ false → phase_in o k h ≡ Phase.Nil
    silent k off = phase_equal (phase_in o k h) Phase.Nil (other (is_current (digest o h).current k) (number_of_phase (phase_in o k h) == 0) (quiet k) off)
      where
        other : (b c : Bool) → (b || c) ≡ true → b ≡ false → c ≡ true
        other true c i j = absurd (cc (j))
        other false c i j = i
