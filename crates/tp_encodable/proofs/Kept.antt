-- What is kept true of a node, in the words of the definitions.
use Rattle.std.proofs.Common.{◌≡◌, ◌≤◌, ◌+◌, ℕ, refl, ap, sym, ◌∙◌, arith, Option, Some, None, List, [], ◌∷◌}
use Rattle.tp_logrec.specs.declared.record.LogRec.{LogRec}
use Rattle.tp_logrec.specs.declared.record.LogVersion.{LogVersion}
use Rattle.tp_model.specs.declared.recovery.Kept.{Kept}
use Rattle.tp_model.specs.Parts.{Who, Start, Event, Branch, Digest}
use Rattle.tp_model.specs.Requests.{count_below, count_gone}
use Rattle.tp_model.specs.Events.{started, refusal, action}
use Rattle.tp_steps.proofs.log.KinTurns.{kin}
use Rattle.tp_texts.specs.Shapes.{AreShaped}
use Rattle.tp_encodable.specs.Standing as said
use Rattle.tp_encodable.specs.Standing.{StandsShaped, IsShapedMove}
use Rattle.tp_encodable.proofs.Places.{peers, below, gone, are_apart, count_is, gone_is, kin_length}
use Rattle.tp_encodable.proofs.Turning.{IsShapedOption}
use Rattle.tp_encodable.proofs.Standing.{AreShapedKept, Stands}
use Rattle.tp_encodable.proofs.Moving.{IsNext, next_move, at_branch, room_is}
use Rattle.tp_encodable.proofs.Running.{stands_started}

apart_is : (d : Digest) (bs : List Branch) → are_apart d.superior (kin bs) ≡ said.are_apart d bs
apart_is d [] = refl
apart_is d (b ∷ bs) = rw (at_branch bs b.peer.node, apart_is d bs) refl

kept_in : (ver : LogVersion) (ks : List Kept) → said.AreShapedKept ver ks → AreShapedKept ver ks
kept_in ver [] h = tt
kept_in ver (k ∷ ks) h = (h.0, kept_in ver ks h.1)

kept_out : (ver : LogVersion) (ks : List Kept) → AreShapedKept ver ks → said.AreShapedKept ver ks
kept_out ver [] h = tt
kept_out ver (k ∷ ks) h = (h.0, kept_out ver ks h.1)

along : (a b c e : ℕ) → a ≡ b → c ≡ e → a ≤ c → b ≤ e
along a b c e h i j = omega (arith, h, i, j)

sum_is : (d : Digest) (bs : List Branch) → count_below d d.arcs + count_gone d.arcs bs ≡ below d.superior (peers d.arcs) + gone (peers d.arcs) (kin bs)
sum_is d bs = ap (λ (n : ℕ). n + count_gone d.arcs bs) (count_is d d.arcs) ∙ ap (λ (n : ℕ). below d.superior (peers d.arcs) + n) (gone_is d.arcs bs)

inside : (d : Digest) → StandsShaped d → Stands d
inside d s = record {
  late = λ c now. (s.current c now).late;
  kept = kept_in d.version d.kept s.kept;
  current = λ c now. let f = s.current c now in record { under = f.under; few = along _ _ _ _ (sym (kin_length c.branches)) refl f.few };
  room = along _ _ _ _ (count_is d d.arcs) (room_is d.version) s.room;
  active = λ c now act.
      let p = s.active c now act in
      record { apart = apart_is d c.branches ∙ p.apart; room = along _ _ _ _ (sum_is d c.branches) (room_is d.version) p.room };
  bare = λ off. let b = s.bare off in record { arcs = b.arcs; branches = b.branches };
}

outside : (d : Digest) → Stands d → StandsShaped d
outside d s = record {
  kept = kept_out d.version d.kept s.kept;
  current = λ c now. let f = s.current c now in record { late = s.late c now; under = f.under; few = along _ _ _ _ (kin_length c.branches) refl f.few };
  room = along _ _ _ _ (sym (count_is d d.arcs)) (sym (room_is d.version)) s.room;
  active = λ c now act.
      let p = s.active c now act in
      record { apart = sym (apart_is d c.branches) ∙ p.apart; room = along _ _ _ _ (sym (sum_is d c.branches)) (sym (room_is d.version)) p.room };
  bare = λ off. let b = s.bare off in record { arcs = b.arcs; branches = b.branches };
}

shaped_option : (ver : LogVersion) (r : Option LogRec) → IsShapedOption ver r → said.IsShapedOption ver r
shaped_option ver None h = tt
shaped_option ver (Some r) h = h

pub start_stands : (s : Start) → AreShaped s.version s.records → StandsShaped (started s)
start_stands s h = outside (started s) (stands_started s h)

pub move_stands : (who : Who) (d : Digest) (e : Event) → refusal who d e ≡ None → StandsShaped d → IsShapedMove d (action who d e)
move_stands who d e ok s =
    let m : IsNext d (action who d e) = next_move who d e ok (inside d s) in
    record { rec = shaped_option d.version (action who d e).rec m.rec; next = outside (action who d e).next m.stands; version = m.version }
