-- What a request that is not refused may count on.
use Rattle.std.proofs.Common.{◌≡◌, ℕ, Bool, true, false, Option, Some, None, ◌+◌, [], ◌∷◌, refl, arith}
use Rattle.std.specs.Prelude.{nat_lt, nat_le}
use Rattle.std.proofs.lemmas.Bool.Decides.{nat_tests}
use Rattle.std.proofs.lemmas.Grind.{common_steps}
use Rattle.tp_names.specs.declared.identifiers.Addr.{Addr}
use Rattle.tp_units.specs.Units.{bad_bit}
use Rattle.tp_records.specs.declared.request.Request.{Request}
use Rattle.tp_model.specs.declared.arc.Side.{Side}
use Rattle.tp_model.specs.Parts.{Who, Arc, Digest}
use Rattle.tp_model.specs.Arcs.{find_arc}
use Rattle.tp_model.specs.Node.{side_at, has_asked}
use Rattle.tp_model.specs.Requests.{refused_request, room, count_below, count_gone, count_subordinates}
use Rattle.std.specs.Prelude.{is_some}
use Rattle.tp_model.specs.Dialogues.{first}
use Rattle.tp_node.specs.Node.{has_place_at}
use Rattle.tp_model.specs.declared.refusal.Refusal.{Refusal}

pub call_other : (who : Who) (d : Digest) (a : Addr) (u : ℕ) → refused_request who d (Request.BeginDialogue a u) ≡ None → find_arc d.arcs a.node ≡ None
unfolding refused_request
call_other who d a u ok = go (find_arc d.arcs a.node) refl
  where
    go : (o : Option Arc) → find_arc d.arcs a.node ≡ o → find_arc d.arcs a.node ≡ None
    go None i = i
    go (Some b) i = absurd (grind (arith, common_steps, ok, i))

pub call_side : (who : Who) (d : Digest) (a : Addr) (u : ℕ) → refused_request who d (Request.BeginDialogue a u) ≡ None → Side.Superior ≡ side_at d a.node
unfolding refused_request
call_side who d a u ok = grind (arith, common_steps, ok)

pub call_place : (who : Who) (d : Digest) (a : Addr) (u : ℕ) → refused_request who d (Request.BeginDialogue a u) ≡ None → has_place_at Side.Superior d ≡ true
unfolding refused_request
call_place who d a u ok = below (count_below d d.arcs) (elim d.current as (λ _. ℕ) [ None ↦ 0 | Some c ↦ count_gone d.arcs c.branches ]) (room d.version) (last _ (is_some (bad_bit u)) (has_asked d) (nat_le (room d.version) (count_subordinates d)) ok)
  where
    below : (m n k : ℕ) → nat_le k (m + n) ≡ false → nat_lt m k ≡ true
    below m n k h = grind (arith, nat_tests, h)

    last : (x y z w : Bool) → first ((x, Refusal.WrongPhase) ∷ (y, Refusal.UnitAbsent) ∷ (z, Refusal.AlreadyAsked) ∷ (w, Refusal.TooMany) ∷ []) ≡ None → w ≡ false
    last true y z w h = absurd (let clash : Some Refusal.WrongPhase ≡ None = h in cc)
    last false true z w h = absurd (let clash : Some Refusal.UnitAbsent ≡ None = h in cc)
    last false false true w h = absurd (let clash : Some Refusal.AlreadyAsked ≡ None = h in cc)
    last false false false true h = absurd (let clash : Some Refusal.TooMany ≡ None = h in cc)
    last false false false false h = refl

pub call_units : (who : Who) (d : Digest) (a : Addr) (u : ℕ) → refused_request who d (Request.BeginDialogue a u) ≡ None → bad_bit u ≡ None
unfolding refused_request
call_units who d a u ok = go (bad_bit u) refl
  where
    go : (o : Option ℕ) → bad_bit u ≡ o → bad_bit u ≡ None
    go None i = i
    go (Some b) i = absurd (grind (arith, common_steps, ok, i))

pub accept_units : (who : Who) (d : Digest) (u : ℕ) → refused_request who d (Request.Accept u) ≡ None → bad_bit u ≡ None
unfolding refused_request
accept_units who d u ok = go (bad_bit u) refl
  where
    go : (o : Option ℕ) → bad_bit u ≡ o → bad_bit u ≡ None
    go None i = i
    go (Some b) i = absurd (grind (arith, common_steps, ok, i))
