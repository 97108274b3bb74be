-- Branches that begin on the arcs of a node, one after another.
use Rattle.std.proofs.Common.{◌≡◌, ◌≤◌, ℕ, suc, Bool, true, false, Option, Some, None, Result, List, [], ◌∷◌, ◌++◌, Err, refl, ap, sym, subst, ◌∙◌, arith}
use Rattle.std.specs.Prelude.{◌&&◌, ◌||◌, not, cond, nat_lt}
use Rattle.std.specs.Cmp.{unsigned_Decides}
use Rattle.tp_records.specs.declared.dialogue.DialogueRecord.{DialogueRecord}
use Rattle.tp_model.specs.declared.transaction.TxOut.{TxOut}
use Rattle.tp_names.specs.declared.children.Child.{Child}
use Rattle.tp_model.specs.declared.arc.Phase.{Phase}
use Rattle.tp_model.specs.Parts.{Who, Arc, Branch, Current, Digest}
use Rattle.tp_model.specs.Arcs.{find_arc}
use Rattle.tp_model.specs.Dialogues.{is_nil, is_active}
use Rattle.tp_model.specs.Links.{is_live, greatest}
use Rattle.tp_model.specs.Transactions.{fresh_branch, fresh_rows}
use Rattle.tp_model.specs.Node.{branches_of, seen_rows, with_begun, is_superior, phase_of, situation_at, may_begin_on, with_mark_drawn, Move, followed, begin_on, begin_each, begin_chained, chained_peers, start_root, try_start, move, perform}
use Rattle.tp_model.specs.Events.{needs_numbers, some_past_numbers}
use Rattle.tp_draft.proofs.Drafts.{perform_none, plays_alike, goes_on_twice, still_needs, followed_silent}
use Rattle.tp_node.specs.declared.halt.Halt.{Halt}
use Rattle.tp_draft.specs.Draft.{Draft, goes_on, Plays}
use Rattle.tp_node.specs.Begins.{with_branch, new_branch, begun_on, may_start}
use Rattle.tp_draft.specs.Begins.{carried_of, opened_root, named_begun}
use Rattle.tp_node.proofs.Beginnings.{branches_more, peer_found}

-- ---- the rule as a whole

pub branches_seen : (arcs : List Arc) (bs : List Branch) → branches_of (seen_rows arcs bs) ≡ bs
branches_seen arcs [] = refl
branches_seen arcs (b ∷ bs) = ap (λ l. b ∷ l) (branches_seen arcs bs)

branch_added : (arcs : List Arc) (bs : List Branch) (x : Child) → branches_of (seen_rows arcs bs ++ fresh_rows (x ∷ [])) ≡ bs ++ fresh_branch x ∷ []
branch_added arcs bs x = branches_more (seen_rows arcs bs) (record { branch = fresh_branch x; live = true; ends = false }) ∙ ap (λ l. l ++ fresh_branch x ∷ []) (branches_seen arcs bs)

pub begun_current : (who : Who) (d : Digest) (c : Current) (x : Child) → is_active c.phase ≡ true → (with_begun who d c x).current ≡ with_branch x (Some c)
begun_current who d c x active = go c.phase refl active
  where
    go : (p : Phase) → c.phase ≡ p → is_active p ≡ true → (with_begun who d c x).current ≡ with_branch x (Some c)
    go Phase.Nil e f = absurd (let clash : false ≡ true = f in cc)
    go Phase.Ready e f = absurd (let clash : false ≡ true = f in cc)
    go Phase.Committing e f = absurd (let clash : false ≡ true = f in cc)
    go Phase.Rolling e f = absurd (let clash : false ≡ true = f in cc)
    go Phase.Active e f =
        ap (λ (p : Phase). cond (is_nil p) None (Some (record c { branches = branches_of (seen_rows d.arcs c.branches ++ fresh_rows (x ∷ [])) }))) e
        ∙ ap (λ bs. Some (record c { branches = bs })) (branch_added d.arcs c.branches x)

active_there : (who : Who) (d : Digest) (c : Current) (a : Arc) → d.current ≡ Some c → may_begin_on who d a ≡ true → is_active c.phase ≡ true
active_there who d c a e may = sym (ap (λ (o : Option Current). is_active (elim o as (λ _. Phase) [ None ↦ Phase.Nil | Some x ↦ x.phase ])) e) ∙ go (is_live a.link) (is_superior d a.peer.node) (is_active (phase_of d)) (situation_at who d a.peer.node).branch may
  where
    go : (l s t u : Bool) → (l && not s && t && not u) ≡ true → t ≡ true
    go l s true u f = refl
    go true true false u f = absurd (let clash : false ≡ true = f in cc)
    go true false false u f = absurd (let clash : false ≡ true = f in cc)
    go false s false u f = absurd (let clash : false ≡ true = f in cc)

pub begin_split : (who : Who) (p : ℕ) (d : Digest) → begin_on who p d ≡ perform (carried_of p (begun_on who p d).1) (begun_on who p d).0
unfolding begin_on
begin_split who p d = with_current d.current refl
  where
    with_may : (c : Current) (a : Arc) (b : Bool) → d.current ≡ Some c → find_arc d.arcs p ≡ Some a → may_begin_on who d a ≡ b → begin_on who p d ≡ perform (carried_of p (begun_on who p d).1) (begun_on who p d).0
    with_may c a false e f g = grind (arith, e, f, g)
    with_may c a true e f g =
        let at : p ≡ a.peer.node = sym ((unsigned_Decides a.peer.node p).0 (peer_found d.arcs p a f)) in
        let now : (with_begun who (with_mark_drawn d) c (record { addr = a.peer; branch = new_branch who d })).current ≡ with_branch (record { addr = a.peer; branch = new_branch who d }) (Some c) =
        begun_current who (with_mark_drawn d) c (record { addr = a.peer; branch = new_branch who d }) (active_there who d c a e g) in
        grind (arith, e, f, g, at, now)

    with_arc : (c : Current) (o : Option Arc) → d.current ≡ Some c → find_arc d.arcs p ≡ o → begin_on who p d ≡ perform (carried_of p (begun_on who p d).1) (begun_on who p d).0
    with_arc c None e f = grind (arith, e, f)
    with_arc c (Some a) e f = with_may c a (may_begin_on who d a) e f refl

    with_current : (o : Option Current) → d.current ≡ o → begin_on who p d ≡ perform (carried_of p (begun_on who p d).1) (begun_on who p d).0
    with_current None e = grind (arith, e)
    with_current (Some c) e = with_arc c (find_arc d.arcs p) e refl

-- ---- on a draft

pub begins_with : (a b : Draft) (p : ℕ) → b ≡ record a { move = record a.move { next = (begun_on a.who p a.move.next).0 } }
    → goes_on b (λ who. perform (carried_of p (begun_on a.who p a.move.next).1)) ≡ goes_on a (λ who. begin_on who p)
begins_with a b p is =
    ap (λ (x : Draft). goes_on x (λ who. perform (carried_of p (begun_on a.who p a.move.next).1))) is
    ∙ sym (ap (λ (m : Move). record a { move = record { rec = elim m.rec [ None ↦ a.move.rec | Some r ↦ Some r ]; outs = a.move.outs ++ m.outs; next = m.next } }) (begin_split a.who p a.move.next))

pub begins_none : (a b : Draft) (p : ℕ) → b ≡ record a { move = record a.move { next = (begun_on a.who p a.move.next).0 } } → (begun_on a.who p a.move.next).1 ≡ None
    → b ≡ goes_on a (λ who. begin_on who p)
begins_none a b p is none =
    sym (perform_none b) ∙ sym (ap (λ (r : Option DialogueRecord). goes_on b (λ who. perform (carried_of p r))) none) ∙ begins_with a b p is

pub begins_spent : (a : Draft) (p : ℕ) → nat_lt greatest (begun_on a.who p a.move.next).0.drawn ≡ true → needs_numbers (followed a.move (begin_on a.who p)) ≡ true
begins_spent a p h =
    ap (λ (m : Move). nat_lt greatest m.next.drawn || some_past_numbers (a.move.outs ++ m.outs)) (begin_split a.who p a.move.next)
    ∙ ap (λ b. b || some_past_numbers (a.move.outs ++ (perform (carried_of p (begun_on a.who p a.move.next).1) (begun_on a.who p a.move.next).0).outs)) h

pub begins_carried : (r : Result (Unit {0}) Halt) (a b c : Draft) (p : ℕ) (rec : DialogueRecord) → b ≡ record a { move = record a.move { next = (begun_on a.who p a.move.next).0 } } → (begun_on a.who p a.move.next).1 ≡ Some rec
    → Plays r b c (λ who. perform (TxOut.Carry p rec ∷ [])) → Plays r a c (λ who. begin_on who p)
begins_carried r a b c p rec is some =
    plays_alike r a b c (λ who. begin_on who p) (λ who. perform (TxOut.Carry p rec ∷ []))
    (sym (ap (λ (x : Option DialogueRecord). goes_on b (λ who. perform (carried_of p x))) some) ∙ begins_with a b p is)

-- ---- one after another

-- what a node has drawn it has drawn
begun_rises : (who : Who) (p : ℕ) (d : Digest) → d.drawn ≤ (begun_on who p d).0.drawn
begun_rises who p d = with_current d.current refl
  where
    with_may : (c : Current) (a : Arc) (b : Bool) → d.current ≡ Some c → find_arc d.arcs p ≡ Some a → may_begin_on who d a ≡ b → d.drawn ≤ (begun_on who p d).0.drawn
    with_may c a false e f g = let h : (begun_on who p d).0.drawn ≡ d.drawn = grind (arith, e, f, g) in omega (arith, h)
    with_may c a true e f g = let h : (begun_on who p d).0.drawn ≡ suc d.drawn = grind (arith, e, f, g) in omega (arith, h)

    with_arc : (c : Current) (o : Option Arc) → d.current ≡ Some c → find_arc d.arcs p ≡ o → d.drawn ≤ (begun_on who p d).0.drawn
    with_arc c None e f = let h : (begun_on who p d).0.drawn ≡ d.drawn = grind (arith, e, f) in omega (arith, h)
    with_arc c (Some a) e f = with_may c a (may_begin_on who d a) e f refl

    with_current : (o : Option Current) → d.current ≡ o → d.drawn ≤ (begun_on who p d).0.drawn
    with_current None e = let h : (begun_on who p d).0.drawn ≡ d.drawn = grind (arith, e) in omega (arith, h)
    with_current (Some c) e = with_arc c (find_arc d.arcs p) e refl

pub begin_rises : (who : Who) (p : ℕ) (d : Digest) → d.drawn ≤ (begin_on who p d).next.drawn
begin_rises who p d = subst (λ (m : Move). d.drawn ≤ m.next.drawn) (sym (begin_split who p d)) (begun_rises who p d)

pub each_rises : (who : Who) (ps : List ℕ) (d : Digest) → d.drawn ≤ (begin_each who ps d).next.drawn
each_rises who [] d = omega arith
each_rises who (p ∷ ps) d =
    let one : d.drawn ≤ (begin_on who p d).next.drawn = begin_rises who p d in
    let more : (begin_on who p d).next.drawn ≤ (begin_each who ps (begin_on who p d).next).next.drawn = each_rises who ps (begin_on who p d).next in
    omega (arith, one, more)

pub each_none : (a : Draft) → goes_on a (λ who. begin_each who []) ≡ a
each_none a = perform_none a

pub each_more : (a : Draft) (p : ℕ) (ps : List ℕ) → goes_on (goes_on a (λ who. begin_on who p)) (λ who. begin_each who ps) ≡ goes_on a (λ who. begin_each who (p ∷ ps))
each_more a p ps = goes_on_twice a (λ who. begin_on who p) (λ who. begin_each who ps)

-- where numbers are wanting for one, they are wanting for all
pub each_halts : (e : Halt) (a b c d : Draft) (p : ℕ) (ps xs ys : List ℕ) → xs ≡ p ∷ ps → goes_on a (λ who. begin_each who xs) ≡ goes_on b (λ who. begin_each who ys) → Plays (Err e) a c (λ who. begin_on who p) → Plays (Err e) b d (λ who. begin_each who ys)
each_halts Halt.NoMemory a b c d p ps xs ys is same h = tt
each_halts Halt.NumbersSpent a b c d p ps xs ys is same h =
    sym (ap (λ (x : Draft). needs_numbers x.move) same)
    ∙ ap (λ (l : List ℕ). needs_numbers (followed a.move (begin_each a.who l))) is
    ∙ sym (ap (λ (x : Draft). needs_numbers x.move) (each_more a p ps))
    ∙ still_needs (followed a.move (begin_on a.who p)) (begin_each a.who ps) (each_rises a.who ps (begin_on a.who p a.move.next).next) h

pub chained_rises : (who : Who) (d : Digest) → d.drawn ≤ (begin_chained who d).next.drawn
chained_rises who d = each_rises who (chained_peers who d) d

pub named_rises : (ps : List ℕ) (who : Who) (d : Digest) → d.drawn ≤ (named_begun ps who d).next.drawn
named_rises ps who d =
    let one : d.drawn ≤ (begin_each who ps d).next.drawn = each_rises who ps d in
    let more : (begin_each who ps d).next.drawn ≤ (begin_chained who (begin_each who ps d).next).next.drawn = chained_rises who (begin_each who ps d).next in
    omega (arith, one, more)

pub root_is : (ps : List ℕ) (who : Who) (d : Digest) → start_root who ps d ≡ followed (opened_root who d) (named_begun ps who)
unfolding start_root
root_is ps who d = sym (followed_silent (opened_root who d).next (named_begun ps who))

pub root_rises : (ps : List ℕ) (who : Who) (d : Digest) → d.drawn ≤ (start_root who ps d).next.drawn
root_rises ps who d =
    subst (λ (m : Move). d.drawn ≤ m.next.drawn) (sym (root_is ps who d)) (let more : suc d.drawn ≤ (named_begun ps who (opened_root who d).next).next.drawn = named_rises ps who (opened_root who d).next in omega (arith, more))

-- ---- the next transaction

start_when : (who : Who) (d : Digest) (b : Bool) → may_start who d ≡ b → try_start who d ≡ cond b (start_root who [] d) (move [] d)
unfolding try_start
start_when who d b e = ap (λ t. cond t (start_root who [] d) (move [] d)) e

pub starts_not : (a : Draft) → may_start a.who a.move.next ≡ false → goes_on a try_start ≡ a
starts_not a e = ap (λ (m : Move). record a { move = followed a.move (λ _. m) }) (start_when a.who a.move.next false e) ∙ perform_none a

pub starts_now : (a : Draft) → may_start a.who a.move.next ≡ true → goes_on a (λ who. start_root who []) ≡ goes_on a try_start
starts_now a e = sym (ap (λ (m : Move). record a { move = followed a.move (λ _. m) }) (start_when a.who a.move.next true e))

pub start_rises : (who : Who) (d : Digest) → d.drawn ≤ (try_start who d).next.drawn
start_rises who d = go (may_start who d) refl
  where
    go : (b : Bool) → may_start who d ≡ b → d.drawn ≤ (try_start who d).next.drawn
    go true e = subst (λ (m : Move). d.drawn ≤ m.next.drawn) (sym (start_when who d true e)) (root_rises [] who d)
    go false e = subst (λ (m : Move). d.drawn ≤ m.next.drawn) (sym (start_when who d false e)) (omega arith)
