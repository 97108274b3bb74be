-- What the superior offers.
use Rattle.std.proofs.Common.{◌≡◌, true, false, Option, Some, None, refl, ap, sym, ◌∙◌, arith}
use Rattle.std.specs.Prelude.{◌==◌}
use Rattle.std.specs.Cmp.{unsigned_Decides}
use Rattle.std.proofs.lemmas.Bool.Decides.{nat_tests}
use Rattle.tp_names.specs.declared.identifiers.Addr.{Addr}
use Rattle.tp_names.specs.declared.identifiers.Mark.{Mark}
use Rattle.tp_model.specs.declared.arc.Side.{Side}
use Rattle.tp_model.specs.Parts.{Link, Idle, Opening, Offered, Live, Arc, Digest}
use Rattle.tp_model.specs.Links.{is_offered}
use Rattle.tp_model.specs.Node.{superior_arc, side_at}
use Rattle.tp_node.specs.Calls.{offer_of, offer_at}
use Rattle.tp_model.specs.Arcs.{find_arc}
use Rattle.tp_node.proofs.Beginnings.{peer_found}

-- ---- what the superior offers

pub no_arc : (d : Digest) → superior_arc d ≡ None → offer_of d ≡ None
no_arc d e = ap (λ (o : Option Arc). elim o as (λ _. Option (Arc × Mark)) [ None ↦ None | Some a ↦ offer_at a a.link ]) e

pub offer_there : (d : Digest) (a : Arc) → superior_arc d ≡ Some a → offer_of d ≡ offer_at a a.link
offer_there d a e = ap (λ (o : Option Arc). elim o as (λ _. Option (Arc × Mark)) [ None ↦ None | Some b ↦ offer_at b b.link ]) e

-- an offer stands on the superior's arc
pub record IsOffered (d : Digest) (a : Arc) (x : Mark) : Type 0 where
  pub arc : find_arc d.arcs a.peer.node ≡ Some a
  pub side : Side.Subordinate ≡ side_at d a.peer.node
  pub link : a.link ≡ Offered x

pub offered_arc : (d : Digest) (a : Arc) (x : Mark) → offer_of d ≡ Some (a, x) → IsOffered d a x
offered_arc d a x i = go d.superior refl
  where
    on : (s : Addr) → d.superior ≡ Some s → (o : Option Arc) → find_arc d.arcs s.node ≡ o → IsOffered d a x
    on s e None f = absurd (let clash : None ≡ Some (a, x) = sym (no_arc d (grind (arith, e, f))) ∙ i in cc)
    on s e (Some b) f = at b.link refl
      where
        n : offer_at b b.link ≡ Some (a, x)
        n = sym (offer_there d b (grind (arith, e, f))) ∙ i

        the_arc : Option (Arc × Mark) → Arc
        the_arc None = b
        the_arc (Some v) = v.0

        the_mark : Option (Arc × Mark) → Mark
        the_mark None = x
        the_mark (Some v) = v.1

        here : (b.peer.node == s.node) ≡ true
        here = peer_found d.arcs s.node b f

        on_it : b ≡ a → b.link ≡ Offered x → IsOffered d a x
        on_it same l =
            let number : s.node ≡ a.peer.node = sym ((unsigned_Decides b.peer.node s.node).0 here) ∙ ap (λ (c : Arc). c.peer.node) same in
            let found : find_arc d.arcs s.node ≡ Some a = f ∙ ap (λ (c : Arc). Some c) same in
            record {
              arc = ap (find_arc d.arcs) (sym number) ∙ found;
              side = grind (arith, nat_tests, e, number);
              link = ap (λ (c : Arc). c.link) (sym same) ∙ l;
            }

        at : (l : Link) → b.link ≡ l → IsOffered d a x
        at Idle j = absurd (let clash : None ≡ Some (a, x) = sym (ap (offer_at b) j) ∙ n in cc)
        at (Opening z) j = absurd (let clash : None ≡ Some (a, x) = sym (ap (offer_at b) j) ∙ n in cc)
        at (Offered z) j =
            let put : Some (b, z) ≡ Some (a, x) = sym (ap (offer_at b) j) ∙ n in
            on_it (ap the_arc put) (j ∙ ap Offered (ap the_mark put))
        at (Live z w t u) j = absurd (let clash : None ≡ Some (a, x) = sym (ap (offer_at b) j) ∙ n in cc)

    go : (o : Option Addr) → d.superior ≡ o → IsOffered d a x
    go None e = absurd (let clash : None ≡ Some (a, x) = sym (no_arc d (grind (arith, e))) ∙ i in cc)
    go (Some s) e = on s e (find_arc d.arcs s.node) refl

pub no_offer : (d : Digest) (a : Arc) → superior_arc d ≡ Some a → is_offered a.link ≡ false → offer_of d ≡ None
no_offer d a e none = go a.link refl
  where
    go : (l : Link) → a.link ≡ l → offer_of d ≡ None
    go (Offered x) i = absurd (let clash : true ≡ false = sym (ap is_offered i) ∙ none in cc)
    go Idle i = offer_there d a e ∙ ap (offer_at a) i
    go (Opening x) i = offer_there d a e ∙ ap (offer_at a) i
    go (Live x y s t) i = offer_there d a e ∙ ap (offer_at a) i

pub an_offer : (d : Digest) (a : Arc) (x : Mark) → superior_arc d ≡ Some a → a.link ≡ Offered x → offer_of d ≡ Some (a, x)
an_offer d a x e i = offer_there d a e ∙ ap (offer_at a) i
