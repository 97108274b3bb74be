-- The parts of what is known, put together.
use Rattle.tp_history_state.proofs.Vocabulary.{◌≡◌, Bool, true, refl, Option, List, ◌&&◌, Addr, Origin, Entry, agrees, IsLegal, declared_agrees, superior_agrees, boot_agrees, known_agrees, drawn_agrees, kept_agrees, phase_agrees, key_agrees, above_agrees, branches_agree, asked_agrees, arcs_agree, links_agree, order_agrees, control_agrees, awaits_agrees, due_agrees, deferral_agrees, rests_agrees, marks_agree, told_prepare_agrees, owes_agrees, superior_rolled_agrees, decision_agrees, own_agrees, node_agrees, current_agrees, declared_law, superior_law, boot_law, known_agrees_law, kept_agrees_law, phase_agrees_law, key_agrees_law, above_law, branches_law, asked_agrees_law}
use Rattle.tp_model.specs.Consistency.{IsKnown}
use Rattle.tp_history_state.proofs.whole.Parts.{whole}
use Rattle.tp_history_state.proofs.whole.Quiet.{quiet_law, version_law}
use Rattle.tp_history_state.proofs.whole.Tested.{known_from_tests}
use Rattle.tp_history_state.proofs.marks.AllMarks.{all_marks_law}
use Rattle.tp_runs.proofs.KnownDrawn.{drawn_agrees_law}
use Rattle.tp_history_state.proofs.requests.Decision.{decision_agrees_law}
use Rattle.tp_history_state.proofs.requests.Prepared.{told_prepare_agrees_law}
use Rattle.tp_history_state.proofs.orders.Owes.{owes_agrees_law}
use Rattle.tp_history_state.proofs.orders.Rolled.{superior_rolled_agrees_law}
use Rattle.tp_history_state.proofs.orders.Own.{own_agrees_law}
use Rattle.tp_history_state.proofs.rests.Rests.{rests_law}
use Rattle.tp_history_state.proofs.links.Link.{links_law}
use Rattle.tp_history_state.proofs.links.ArcOrder.{order_law}
use Rattle.tp_history_state.proofs.control.Law.{control_law}
use Rattle.tp_history_state.proofs.handshakes.Handshakes.{awaits_law}
use Rattle.tp_history_state.proofs.handshakes.Due.{due_law}
use Rattle.tp_history_state.proofs.deferral.Deferral.{deferral_law}

pub node_law : (o : Origin) (up : Option Addr) (h : List Entry) → IsLegal o up h → node_agrees o h ≡ true
node_law o up h legal = six (declared_agrees o h) (known_agrees o h) (superior_agrees o h) (drawn_agrees o h) (boot_agrees o h) (kept_agrees o h) (declared_law o up h legal) (known_agrees_law o up h legal) (superior_law o up h legal) (drawn_agrees_law o up h legal) (boot_law o up h legal) (kept_agrees_law o up h legal)
  where
    six : (a b c d e f : Bool) → a ≡ true → b ≡ true → c ≡ true → d ≡ true → e ≡ true → f ≡ true → (a && b && c && d && e && f) ≡ true
    six a b c d e f i j k l m n = rw (i, j, k, l, m, n) refl

pub arcs_law : (o : Origin) (up : Option Addr) (h : List Entry) → IsLegal o up h → arcs_agree o h ≡ true
arcs_law o up h legal =
    seven (links_agree o h) (order_agrees o h) (control_agrees o h) (awaits_agrees o h) (due_agrees o h) (deferral_agrees o h) (rests_agrees o h)
    (links_law o up h legal) (order_law o up h legal) (control_law o up h legal) (awaits_law o up h legal) (due_law o up h legal) (deferral_law o up h legal) (rests_law o up h legal)
  where
    seven : (a b c d e f g : Bool) → a ≡ true → b ≡ true → c ≡ true → d ≡ true → e ≡ true → f ≡ true → g ≡ true → (a && b && c && d && e && f && g) ≡ true
    seven a b c d e f g i j k l m n p = rw (i, j, k, l, m, n, p) refl

pub current_law : (o : Origin) (up : Option Addr) (h : List Entry) → IsLegal o up h → current_agrees o h ≡ true
current_law o up h legal =
    eleven (phase_agrees o h) (key_agrees o h) (above_agrees o h) (branches_agree o h) (marks_agree o h) (told_prepare_agrees o h) (asked_agrees o h) (owes_agrees o h) (superior_rolled_agrees o h) (decision_agrees o h) (own_agrees o h)
    (phase_agrees_law o up h legal) (key_agrees_law o up h legal) (above_law o up h legal) (branches_law o up h legal) (all_marks_law o up h legal) (told_prepare_agrees_law o up h legal) (asked_agrees_law o up h legal) (owes_agrees_law o up h legal) (superior_rolled_agrees_law o up h legal) (decision_agrees_law o up h legal) (own_agrees_law o up h legal)
  where
    eleven : (p k a b m t s w r d n : Bool) → p ≡ true → k ≡ true → a ≡ true → b ≡ true → m ≡ true → t ≡ true → s ≡ true → w ≡ true → r ≡ true → d ≡ true → n ≡ true → (p && k && a && b && m && t && s && w && r && d && n) ≡ true
    eleven p k a b m t s w r d n hp hk ha hb hm ht hs hw hr hd hn = rw (hp, hk, ha, hb, hm, ht, hs, hw, hr, hd, hn) refl

pub tests_law : (o : Origin) (up : Option Addr) (h : List Entry) → IsLegal o up h → agrees o h ≡ true
tests_law o up h legal = whole o h (three (node_agrees o h) (arcs_agree o h) (current_agrees o h) (node_law o up h legal) (arcs_law o up h legal) (current_law o up h legal))
  where
    three : (a b c : Bool) → a ≡ true → b ≡ true → c ≡ true → (a && b && c) ≡ true
    three a b c i j k = rw (i, j, k) refl

pub whole_law : (o : Origin) (up : Option Addr) (h : List Entry) → IsLegal o up h → IsKnown o h
whole_law o up h legal = known_from_tests o h (tests_law o up h legal) (λ k. quiet_law o up h k legal) (version_law o up h legal)
