-- A branch that begins on an arc of a node.
use Rattle.std.proofs.Common.{◌≡◌, ℕ, suc, Bool, true, false, Option, Some, None, List, [], ◌∷◌, ◌++◌, refl, ap, sym, ◌∙◌, arith}
use Rattle.std.specs.Prelude.{◌==◌, ◌&&◌, not, cond, nat_lt}
use Rattle.std.proofs.lemmas.Grind.{common_steps}
use Rattle.std.specs.Cmp.{unsigned_Decides}
use Rattle.tp_names.specs.declared.identifiers.Aaid.{Aaid}
use Rattle.tp_records.specs.declared.dialogue.DialogueRecord.{DialogueRecord}
use Rattle.tp_model.specs.declared.arc.Side.{Side}
use Rattle.tp_model.specs.Parts.{Who, Arc, Dialogue, Current, Digest}
use Rattle.tp_model.specs.Arcs.{find_arc, with_dialogue}
use Rattle.tp_model.specs.Dialogues.{begun_by, named_holder, is_active}
use Rattle.tp_model.specs.Links.{is_live, greatest}
use Rattle.tp_model.specs.Transactions.{Row, Transaction, aaid_of}
use Rattle.tp_model.specs.Node.{branches_of, is_superior, side_at, phase_of, situation_at, may_begin_on, with_mark_drawn, chained_from, chained_peers, grants}
use Rattle.tp_node_state.specs.SharedArcs.{has_none_chained, has_no_grant}
use Rattle.tp_node.specs.Begins.{aaid_in, with_branch, new_branch, begun_at, begun_on}

pub branches_more : (rs : List Row) (r : Row) → branches_of (rs ++ r ∷ []) ≡ branches_of rs ++ r.branch ∷ []
branches_more [] r = refl
branches_more (q ∷ rs) r = ap (λ l. q.branch ∷ l) (branches_more rs r)

-- a change of the dialogue that is there
pub dialogue_put : (arcs : List Arc) (p : ℕ) (a : Arc) (f : Dialogue → Dialogue) → find_arc arcs p ≡ Some a → with_dialogue arcs p (λ _. f a.dialogue) ≡ with_dialogue arcs p f
dialogue_put [] p a f found = refl
dialogue_put (b ∷ arcs) p a f found = go (b.peer.node == p) refl (dialogue_put arcs p a f)
  where
    go : (t : Bool) → (b.peer.node == p) ≡ t → (find_arc arcs p ≡ Some a → with_dialogue arcs p (λ _. f a.dialogue) ≡ with_dialogue arcs p f) → with_dialogue (b ∷ arcs) p (λ _. f a.dialogue) ≡ with_dialogue (b ∷ arcs) p f
    go true e rest = grind (arith, e, found)
    go false e rest = grind (arith, e, found, rest)

pub peer_found : (arcs : List Arc) (p : ℕ) (a : Arc) → find_arc arcs p ≡ Some a → (a.peer.node == p) ≡ true
peer_found [] p a found = grind (arith, found)
peer_found (b ∷ arcs) p a found = go (b.peer.node == p) refl (peer_found arcs p a)
  where
    go : (t : Bool) → (b.peer.node == p) ≡ t → (find_arc arcs p ≡ Some a → (a.peer.node == p) ≡ true) → (a.peer.node == p) ≡ true
    go true e rest = grind (arith, e, found)
    go false e rest = grind (arith, e, found, rest)

-- ---- Begin on an arc

pub on_found : (who : Who) (p : ℕ) (d : Digest) (c : Current) (a : Arc) → d.current ≡ Some c → find_arc d.arcs p ≡ Some a → may_begin_on who d a ≡ true
    → begun_on who p d ≡ (begun_at who a d, Some (DialogueRecord.Begin (aaid_of c.key) (new_branch who d) (named_holder a.dialogue)))
on_found who p d c a e f g = grind (arith, e, f, g)

below_superior : (who : Who) (d : Digest) (a : Arc) → may_begin_on who d a ≡ true → is_superior d a.peer.node ≡ false
below_superior who d a may = go (is_live a.link) (is_superior d a.peer.node) (is_active (phase_of d)) (situation_at who d a.peer.node).branch may
  where
    go : (l s t u : Bool) → (l && not s && t && not u) ≡ true → s ≡ false
    go l false t u e = refl
    go true true t u e = absurd (let clash : false ≡ true = e in cc)
    go false true t u e = absurd (let clash : false ≡ true = e in cc)

pub side_below : (who : Who) (d : Digest) (a : Arc) → may_begin_on who d a ≡ true → side_at d a.peer.node ≡ Side.Superior
side_below who d a may = ap (λ b. cond b Side.Subordinate Side.Superior) (below_superior who d a may)

-- the node after a Begin, made part by part
pub begun_is : (who : Who) (p : ℕ) (d : Digest) (a : Arc) (side : Side) (u : Aaid) → aaid_in d.current ≡ Some u → find_arc d.arcs p ≡ Some a → side ≡ side_at d p → may_begin_on who d a ≡ true
    → record (with_mark_drawn d) {
      arcs = with_dialogue d.arcs a.peer.node (λ _. begun_by (named_holder a.dialogue) side a.dialogue);
      current = with_branch (record { addr = a.peer; branch = new_branch who d }) d.current;
    } ≡ (begun_on who p d).0
begun_is who p d a side u tree found is may = go d.current refl tree
  where
    at : a.peer.node ≡ p
    at = (unsigned_Decides a.peer.node p).0 (peer_found d.arcs p a found)

    above : side ≡ Side.Superior
    above = is ∙ ap (side_at d) (sym at) ∙ side_below who d a may

    put : with_dialogue d.arcs a.peer.node (λ _. begun_by (named_holder a.dialogue) side a.dialogue) ≡ with_dialogue d.arcs a.peer.node (begun_by (named_holder a.dialogue) Side.Superior)
    put =
        ap (λ (x : Side). with_dialogue d.arcs a.peer.node (λ _. begun_by (named_holder a.dialogue) x a.dialogue)) above
        ∙ dialogue_put d.arcs a.peer.node a (begun_by (named_holder a.dialogue) Side.Superior) (ap (find_arc d.arcs) at ∙ found)

    go : (o : Option Current) → d.current ≡ o → aaid_in o ≡ Some u
        → record (with_mark_drawn d) {
          arcs = with_dialogue d.arcs a.peer.node (λ _. begun_by (named_holder a.dialogue) side a.dialogue);
          current = with_branch (record { addr = a.peer; branch = new_branch who d }) d.current;
        } ≡ (begun_on who p d).0
    go None e f = grind (arith, f)
    go (Some c) e f =
        ap (λ (x : List Arc). record (with_mark_drawn d) { arcs = x; current = with_branch (record { addr = a.peer; branch = new_branch who d }) d.current }) put
        ∙ sym (ap (λ (x : Digest × Option DialogueRecord). x.0) (on_found who p d c a e found may))

pub begun_record : (who : Who) (p : ℕ) (d : Digest) (a : Arc) (u : Aaid) → aaid_in d.current ≡ Some u → find_arc d.arcs p ≡ Some a → may_begin_on who d a ≡ true
    → Some (DialogueRecord.Begin u (new_branch who d) (named_holder a.dialogue)) ≡ (begun_on who p d).1
begun_record who p d a u tree found may = go d.current refl tree
  where
    go : (o : Option Current) → d.current ≡ o → aaid_in o ≡ Some u → Some (DialogueRecord.Begin u (new_branch who d) (named_holder a.dialogue)) ≡ (begun_on who p d).1
    go None e f = grind (arith, f)
    go (Some c) e f =
        let same : u ≡ aaid_of c.key = grind (arith, f) in
        ap (λ x. Some (DialogueRecord.Begin x (new_branch who d) (named_holder a.dialogue))) same
        ∙ sym (ap (λ (x : Digest × Option DialogueRecord). x.1) (on_found who p d c a e found may))

pub begun_spent : (who : Who) (p : ℕ) (d : Digest) (a : Arc) (u : Aaid) → aaid_in d.current ≡ Some u → find_arc d.arcs p ≡ Some a → may_begin_on who d a ≡ true → d.drawn ≡ greatest → nat_lt greatest (begun_on who p d).0.drawn ≡ true
begun_spent who p d a u tree found may all = go d.current refl tree
  where
    go : (o : Option Current) → d.current ≡ o → aaid_in o ≡ Some u → nat_lt greatest (begun_on who p d).0.drawn ≡ true
    go None e f = grind (arith, f)
    go (Some c) e f = ap (λ (x : Digest × Option DialogueRecord). nat_lt greatest x.0.drawn) (on_found who p d c a e found may) ∙ ap (λ n. nat_lt greatest (suc n)) all

-- ---- none of the dialogues is chained

pub none_from : (who : Who) (d : Digest) (arcs : List Arc) → has_none_chained arcs ≡ true → chained_from who d arcs ≡ []
none_from who d [] h = refl
none_from who d (a ∷ arcs) h = grind (arith, common_steps, none_from who d arcs, h)

pub none_chained : (who : Who) (d : Digest) → has_none_chained d.arcs ≡ true → [] ≡ chained_peers who d
none_chained who d h = sym (none_from who d d.arcs h)

-- ---- no grant is deferred

pub none_granted : (t : Transaction) (arcs : List Arc) → has_no_grant arcs ≡ true → [] ≡ grants t arcs
none_granted t [] h = refl
none_granted t (a ∷ arcs) h = grind (arith, common_steps, none_granted t arcs, h)
