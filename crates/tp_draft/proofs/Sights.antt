-- A Begin comes from the superior.
use Rattle.std.proofs.Common.{◌≡◌, ◌∙◌, ℕ, Bool, true, false, Option, Some, None, refl, ap, sym, arith}
use Rattle.std.specs.Prelude.{◌==◌, cond}
use Rattle.tp_names.specs.declared.identifiers.Addr.{Addr}
use Rattle.tp_records.specs.declared.dialogue.DialogueRecord.{DialogueRecord}
use Rattle.tp_model.specs.Parts.{Who, Arc, Digest}
use Rattle.tp_model.specs.Dialogues.{Sight, Acts, Out_of_phase}
use Rattle.tp_model.specs.declared.arc.Side.{Side}
use Rattle.tp_model.specs.Links.{with_one_taken}
use Rattle.tp_model.specs.Arcs.{with_link}
use Rattle.tp_model.specs.Node.{is_superior, side_at}
use Rattle.tp_model.specs.Arrivals.{sight_at, sight_of_begin, branch_key, is_response, woken_by}
use Rattle.tp_model.specs.Questions.{is_begin}
use Rattle.tp_node.specs.Sights.{sight_by}
use Rattle.tp_node.proofs.Sights.{sight_is}

-- ---- a Begin comes from the superior

begin_from : (who : Who) (d : Digest) (a : Arc) (r : DialogueRecord) → sight_by who d a r ≡ Acts → is_begin r ≡ true → Side.Subordinate ≡ side_at d a.peer.node
begin_from who d a (DialogueRecord.Begin t b h) acts begins = go (is_superior d a.peer.node) refl
  where
    s : Sight
    s = sight_of_begin d a (branch_key t b)

    go : (v : Bool) → is_superior d a.peer.node ≡ v → Side.Subordinate ≡ side_at d a.peer.node
    go true e = sym (ap (λ (x : Bool). cond x Side.Subordinate Side.Superior) e)
    go false e = absurd (let clash : Out_of_phase ≡ Acts = sym (ap (λ (x : Bool). cond x s Out_of_phase) e) ∙ acts in cc)
begin_from who d a r acts begins = absurd (cc begins)

woken_superior : (r : DialogueRecord) (p : ℕ) (d : Digest) → (woken_by r p d).superior ≡ d.superior
woken_superior r p d = go (is_response r) refl
  where
    go : (b : Bool) → is_response r ≡ b → (woken_by r p d).superior ≡ d.superior
    go true e = grind (arith, e)
    go false e = grind (arith, e)

abbrev side_by : Option Addr → ℕ → Side
side_by s p = cond (elim s as (λ _. Bool) [ None ↦ false | Some a ↦ a.node == p ]) Side.Subordinate Side.Superior

pub begin_side : (who : Who) (d : Digest) (a : Arc) (r : DialogueRecord) → sight_at who d a r ≡ Acts → is_begin r ≡ true → Side.Subordinate ≡ side_at d a.peer.node
begin_side who d a r acts begins = begin_from who d a r (sym (sight_is who d a r) ∙ acts) begins

-- the sides stay where a record is counted
pub side_counted : (d : Digest) (r : DialogueRecord) (p q : ℕ) → side_at (woken_by r p (record d { arcs = with_link d.arcs p with_one_taken })) q ≡ side_at d q
side_counted d r p q = ap (λ (s : Option Addr). side_by s q) (woken_superior r p (record d { arcs = with_link d.arcs p with_one_taken }))
