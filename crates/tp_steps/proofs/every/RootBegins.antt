-- Where a node starts a transaction of its own, its first word is the Begin of that transaction.
use Rattle.std.proofs.Common.{if◌then◌else◌, ◌≡◌, ℕ, Bool, true, false, refl, ap, sym, subst, ◌∙◌, arith, Option, Some, None, List, [], ◌∷◌, ◌++◌, ◌==◌, not}
use Rattle.std.proofs.lemmas.Bool.Decides.{nat_tests}
use Rattle.tp_names.specs.declared.identifiers.Aaid.{Aaid}
use Rattle.tp_names.specs.declared.identifiers.BranchId.{BranchId}
use Rattle.tp_records.specs.declared.request.Request.{Request}
use Rattle.tp_records.specs.declared.dialogue.DialogueRecord.{DialogueRecord}
use Rattle.tp_records.specs.declared.dialogue.Holder.{Holder}
use Rattle.tp_records.specs.declared.peer.PeerRecord.{PeerRecord}
use Rattle.tp_model.specs.declared.arc.Side.{Side}
use Rattle.tp_model.specs.declared.transaction.TxOut.{TxOut}
use Rattle.tp_model.specs.Parts.{Who, Out, Arc, Root, Current, Digest}
use Rattle.tp_model.specs.Links.{is_live}
use Rattle.tp_model.specs.Dialogues.{begun_by, named_holder, refused_on_arc}
use Rattle.tp_model.specs.Arcs.{find_arc, link_of, link_with, with_dialogue, carried}
use Rattle.tp_model.specs.Transactions.{aaid_of, situation_of}
use Rattle.tp_model.specs.Node.{Move, move, followed, perform, next_mark, with_mark_drawn, is_superior, fresh_current, with_begun, may_begin_on, begin_on, begin_each, is_chained_below, chained_from, chained_peers, begin_chained, start_root, has_none}
use Rattle.tp_model.specs.Requests.{refused_request}
use Rattle.tp_steps.specs.Steps.{first_begin, next_tree, next_branch}
use Rattle.tp_steps.specs.Ends.{is_there, are_separate}
use Rattle.tp_steps.proofs.links.Links.{link_dialogue}

pub first_append : (xs ys : List Out) (k : Aaid × BranchId) → first_begin xs ≡ Some k → first_begin (xs ++ ys) ≡ Some k
first_append [] ys k h = absurd (cc (h))
first_append (Out.Tell i ∷ xs) ys k h = first_append xs ys k h
first_append (Out.Send a (PeerRecord.OnAssoc x y q (DialogueRecord.Begin t b v)) ∷ xs) ys k h = h
first_append (Out.Send a _ ∷ xs) ys k h = let rest = first_append xs ys k in grind (arith, h, rest)

pub begin_carried : (arcs : List Arc) (p : ℕ) (t : Aaid) (b : BranchId) (h : Holder) → is_live (link_with arcs p) ≡ true → first_begin (carried arcs p (DialogueRecord.Begin t b h)).1 ≡ Some (t, b)
begin_carried [] p t b h live = absurd (cc (live))
begin_carried (a ∷ arcs) p t b h live = go (a.peer.node == p) refl (begin_carried arcs p t b h)
  where
    go : (v : Bool) → (a.peer.node == p) ≡ v → (is_live (link_with arcs p) ≡ true → first_begin (carried arcs p (DialogueRecord.Begin t b h)).1 ≡ Some (t, b)) → first_begin (carried (a ∷ arcs) p (DialogueRecord.Begin t b h)).1 ≡ Some (t, b)
    go true i rest = grind (arith, live, i)
    go false i rest = let one : is_live (link_with arcs p) ≡ true = grind (arith, live, i) in rw (i, carried) (rest one)

-- a Begin that may be sent is sent
pub begin_says : (who : Who) (p : ℕ) (d : Digest) (c : Current) (a : Arc) → d.current ≡ Some c → find_arc d.arcs p ≡ Some a → may_begin_on who d a ≡ true
    → first_begin (begin_on who p d).outs ≡ Some (aaid_of c.key, record { superior = who.site; mark = next_mark who d })
unfolding begin_on
begin_says who p d c a now found may =
    subst (λ (o : Option Current). first_begin (at o (find_arc d.arcs p)).outs ≡ Some (aaid_of c.key, id)) (sym now)
    (subst (λ (u : Option Arc). first_begin (at (Some c) u).outs ≡ Some (aaid_of c.key, id)) (sym found)
    (subst (λ (v : Bool). first_begin (if not v then move [] d else sent c a).outs ≡ Some (aaid_of c.key, id)) (sym may)
    (first_append (carried arcs p (DialogueRecord.Begin (aaid_of c.key) id (named_holder a.dialogue))).1 [] (aaid_of c.key, id) (begin_carried arcs p (aaid_of c.key) id (named_holder a.dialogue) live))))
  where
    id : BranchId
    id = record { superior = who.site; mark = next_mark who d }

    arcs : List Arc
    arcs = with_dialogue d.arcs p (begun_by (named_holder a.dialogue) Side.Superior)

    sent : Current → Arc → Move
    sent x y = perform (TxOut.Carry p (DialogueRecord.Begin (aaid_of x.key) id (named_holder y.dialogue)) ∷ []) (record (with_begun who (with_mark_drawn d) x (record { addr = y.peer; branch = id })) { arcs = with_dialogue d.arcs p (begun_by (named_holder y.dialogue) Side.Superior) })

    at : Option Current → Option Arc → Move
    at o u = elim o as (λ _. Move) [ None ↦ move [] d | Some x ↦ elim u as (λ _. Move) [ None ↦ move [] d | Some y ↦ if not (may_begin_on who d y) then move [] d else sent x y ] ]

    live : is_live (link_with arcs p) ≡ true
    live = ap is_live (link_dialogue d.arcs p (begun_by (named_holder a.dialogue) Side.Superior) p) ∙ ap (λ (o : Option Arc). is_live (link_of o)) found ∙ grind (arith, may)

-- the node with the new tree
abbrev pub rooted : Who → Digest → Digest
rooted who d = record (with_mark_drawn d) { current = Some (fresh_current (Root (next_tree who d))) }

may_rooted : (who : Who) (d : Digest) (a : Arc) → is_live a.link ≡ true → is_superior d a.peer.node ≡ false → may_begin_on who (rooted who d) a ≡ true
unfolding situation_of
may_rooted who d a live down = grind (arith, live, down)

root_says : (who : Who) (d : Digest) (p : ℕ) (a : Arc) → find_arc d.arcs p ≡ Some a → is_live a.link ≡ true → is_superior d a.peer.node ≡ false
    → first_begin (begin_on who p (rooted who d)).outs ≡ Some (next_tree who d, next_branch who d)
root_says who d p a found live down = begin_says who p (rooted who d) (fresh_current (Root (next_tree who d))) a refl found (may_rooted who d a live down)

-- ---- on an arc that is named

pub find_arc_is : (arcs : List Arc) (p : ℕ) (a : Arc) → find_arc arcs p ≡ Some a → a.peer.node ≡ p
find_arc_is [] p a h = absurd cc
find_arc_is (b ∷ arcs) p a h = grind (arith, nat_tests, find_arc_is arcs p a)

pub named_says : (who : Who) (d : Digest) (p : ℕ) → refused_request who d (Request.BeginTransaction p) ≡ None → first_begin (start_root who (p ∷ []) d).outs ≡ Some (next_tree who d, next_branch who d)
unfolding refused_request refused_on_arc situation_of start_root
named_says who d p ok = go (find_arc d.arcs p) refl
  where
    go : (o : Option Arc) → find_arc d.arcs p ≡ o → first_begin (followed (begin_each who (p ∷ []) (rooted who d)) (begin_chained who)).outs ≡ Some (next_tree who d, next_branch who d)
    go None i = absurd (grind (arith, i, ok))
    go (Some a) i =
        let live : is_live a.link ≡ true = grind (arith, i, ok) in
        let down : is_superior d p ≡ false = grind (arith, i, ok) in
        let here : is_superior d a.peer.node ≡ false = ap (is_superior d) (find_arc_is d.arcs p a i) ∙ down in
        let one : first_begin (begin_on who p (rooted who d)).outs ≡ Some (next_tree who d, next_branch who d) = root_says who d p a i live here in
        let two = first_append (begin_on who p (rooted who d)).outs [] (next_tree who d, next_branch who d) one in
        first_append ((begin_on who p (rooted who d)).outs ++ []) _ (next_tree who d, next_branch who d) two

-- ---- on a chained arc

chained_rooted : (who : Who) (d : Digest) (a : Arc) → is_chained_below who d a ≡ true → is_chained_below who (rooted who d) a ≡ true
unfolding situation_of
chained_rooted who d a h = grind (arith, h)

some_rooted : (who : Who) (d : Digest) (arcs : List Arc) → has_none (chained_from who d arcs) ≡ false → has_none (chained_from who (rooted who d) arcs) ≡ false
some_rooted who d [] h = absurd (cc (h))
some_rooted who d (a ∷ arcs) h = go (is_chained_below who d a) refl (some_rooted who d arcs)
  where
    go : (b : Bool) → is_chained_below who d a ≡ b → (has_none (chained_from who d arcs) ≡ false → has_none (chained_from who (rooted who d) arcs) ≡ false) → has_none (chained_from who (rooted who d) (a ∷ arcs)) ≡ false
    go true i rest = rw (chained_rooted who d a i, chained_from) refl
    go false i rest = on (is_chained_below who (rooted who d) a) refl
      where
        on : (b : Bool) → is_chained_below who (rooted who d) a ≡ b → has_none (chained_from who (rooted who d) (a ∷ arcs)) ≡ false
        on true j = rw (j, chained_from) refl
        on false j = rw (j, chained_from) (rest (rw (i, chained_from) at h))

pub found_there : (arcs : List Arc) (p : ℕ) (a : Arc) → find_arc arcs p ≡ Some a → is_there p arcs ≡ true
found_there [] p a h = absurd (cc (h))
found_there (b ∷ arcs) p a h = go (b.peer.node == p) refl (found_there arcs p a)
  where
    go : (v : Bool) → (b.peer.node == p) ≡ v → (find_arc arcs p ≡ Some a → is_there p arcs ≡ true) → is_there p (b ∷ arcs) ≡ true
    go true i rest = rw i refl
    go false i rest = rw i (rest (rw (i, find_arc) at h))

-- the first chained arc is the one with its number
head_found : (who : Who) (g : Digest) (arcs : List Arc) (p : ℕ) (ps : List ℕ) → are_separate arcs ≡ true → chained_from who g arcs ≡ p ∷ ps → (a : Arc) × (find_arc arcs p ≡ Some a) × (is_chained_below who g a ≡ true)
head_found who g [] p ps h i = absurd (cc (i))
head_found who g (b ∷ arcs) p ps h i = go (is_chained_below who g b) refl (head_found who g arcs p ps)
  where
    go : (v : Bool) → is_chained_below who g b ≡ v → (are_separate arcs ≡ true → chained_from who g arcs ≡ p ∷ ps → (a : Arc) × (find_arc arcs p ≡ Some a) × (is_chained_below who g a ≡ true))
        → (a : Arc) × (find_arc (b ∷ arcs) p ≡ Some a) × (is_chained_below who g a ≡ true)
    go true j rest =
        let one : b.peer.node ∷ chained_from who g arcs ≡ p ∷ ps = rw (j, chained_from) at i in
        let same : b.peer.node ≡ p = cc (one) in
        (b, grind (arith, nat_tests, same), j)
    go false j rest =
        let later : chained_from who g arcs ≡ p ∷ ps = rw (j, chained_from) at i in
        let x = rest (grind (arith, h)) later in
        let there : is_there p arcs ≡ true = found_there arcs p x.0 x.1 in
        (x.0, apart p (b.peer.node == p) refl x.0 x.1 there, x.2)
      where
        apart : (p : ℕ) (v : Bool) → (b.peer.node == p) ≡ v → (a : Arc) → find_arc arcs p ≡ Some a → is_there p arcs ≡ true → find_arc (b ∷ arcs) p ≡ Some a
        apart p false k a f there = rw (k, find_arc) f
        apart p true k a f there =
            let same : b.peer.node ≡ p = grind (arith, nat_tests, k) in
            let none : is_there b.peer.node arcs ≡ false = grind (arith, h) in
            let off : is_there p arcs ≡ false = ap (λ (n : ℕ). is_there n arcs) (sym same) ∙ none in
            absurd (cc (off, there))

pub chained_says : (who : Who) (d : Digest) → has_none (chained_peers who d) ≡ false → are_separate d.arcs ≡ true → first_begin (start_root who [] d).outs ≡ Some (next_tree who d, next_branch who d)
unfolding start_root
chained_says who d some apart = go (chained_peers who g) refl
  where
    g : Digest
    g = rooted who d

    go : (ps : List ℕ) → chained_peers who g ≡ ps → first_begin (begin_each who (chained_peers who g) g).outs ≡ Some (next_tree who d, next_branch who d)
    go [] i = absurd (let no : has_none (chained_peers who g) ≡ true = ap has_none i in cc (no, some_rooted who d d.arcs some))
    go (p ∷ ps) i =
        let x = head_found who g d.arcs p ps apart i in
        let live : is_live x.0.link ≡ true = grind (arith, x.2) in
        let down : is_superior d x.0.peer.node ≡ false = grind (arith, x.2) in
        let one : first_begin (begin_on who p g).outs ≡ Some (next_tree who d, next_branch who d) = root_says who d p x.0 x.1 live down in
        rw i (first_append (begin_on who p g).outs (begin_each who ps (begin_on who p g).next).outs (next_tree who d, next_branch who d) one)
