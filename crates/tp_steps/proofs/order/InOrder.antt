-- A node's current transaction stays in order among its arcs, whatever event is put to it and wherever transactions begin.
use Rattle.std.proofs.Common.{◌≡◌, ℕ, Bool, true, false, refl, ap, sym, subst, ◌∙◌, arith, Some, List, [], ◌∷◌, ◌++◌, ◌&&◌, ◌||◌, ◌==◌, not}
use Rattle.std.proofs.lemmas.Bool.Decides.{nat_tests}
use Rattle.tp_names.specs.declared.children.Child.{Child}
use Rattle.tp_records.specs.declared.dialogue.DialogueRecord.{DialogueRecord}
use Rattle.tp_model.specs.declared.arc.Phase.{Phase}
use Rattle.tp_model.specs.declared.arc.Side.{Side}
use Rattle.tp_model.specs.declared.transaction.TxEvent.{TxEvent}
use Rattle.tp_model.specs.declared.transaction.TxOut.{TxOut}
use Rattle.tp_model.specs.Parts.{Who, Arc, Key, Branch, Current, Digest}
use Rattle.tp_model.specs.Dialogues.{is_nil, is_active, is_rolling, begun_by, named_holder}
use Rattle.tp_model.specs.Arcs.{find_arc, is_live_with_peer, with_dialogue, performed}
use Rattle.tp_model.specs.Transactions.{Transaction, Turn, aaid_of, is_under_at, row_holds, situation_of, transacted}
use Rattle.tp_model.specs.Requests.{has_branch_at}
use Rattle.tp_model.specs.Node.{Move, perform, next_mark, with_mark_drawn, phase_of, is_end_deferred_at, seen_rows, seen, Passage, Falls, passage, is_leaving, is_arc_of, entered, played, with_begun, may_begin_on, begin_on, fresh_current, turned}
use Rattle.tp_model.specs.AmongArcs.{are_distinct, is_peer, IsAmongArcs}
use Rattle.tp_steps.specs.Moves.{IsPut}
use Rattle.tp_steps.specs.Passages.{may_move, IsPassed}
use Rattle.tp_steps.proofs.every.EveryMove.{seen_branch}
use Rattle.tp_steps.proofs.branches.Rolls.{phase_at}
use Rattle.tp_steps.proofs.log.Passed.{passed_turn}
use Rattle.tp_steps.proofs.log.KinTurns.{kin, kids_seen, kids_left, kids_more, kin_turn}
use Rattle.tp_steps.proofs.log.Sound.{left_is, left_branches}
use Rattle.tp_steps.proofs.links.Fading.{FadesAt, Fades, fades_then, fades_dialogue, keeps_begun, fades_performed, fades_entered, fades_played, forgets_all}
use Rattle.tp_steps.proofs.every.BeginCases.{begun_over, begin_cases}

-- ---- a node in order

pub record IsInOrder (d : Digest) : Type 0 where
  -- an end is deferred on live arcs alone
  pub live : (p : ℕ) → is_end_deferred_at d.arcs p ≡ true → is_live_with_peer d.arcs p ≡ true
  pub now : (c : Current) → d.current ≡ Some c → IsAmongArcs d.arcs c

off_stays : (p : ℕ) (xs ys : List Arc) → FadesAt p xs ys → is_end_deferred_at xs p ≡ false → is_end_deferred_at ys p ≡ false
off_stays p xs ys fades off = go (is_end_deferred_at ys p) refl
  where
    go : (b : Bool) → is_end_deferred_at ys p ≡ b → b ≡ false
    go false i = refl
    go true i = absurd (cc (fades.ends i, off))

pub live_stays : (xs ys : List Arc) → Fades xs ys → ((p : ℕ) → is_end_deferred_at xs p ≡ true → is_live_with_peer xs p ≡ true) → (p : ℕ) → is_end_deferred_at ys p ≡ true → is_live_with_peer ys p ≡ true
live_stays xs ys fades live p off = (fades p).live off (live p ((fades p).ends off))

-- arcs on which no end is deferred, while the transaction stays as it is
pub fade : (d g : Digest) → g.current ≡ d.current → Fades d.arcs g.arcs → IsInOrder d → IsInOrder g
fade d g same fades o = record {
  live = live;
  now = λ c is. let k : IsAmongArcs d.arcs c = o.now c (sym same ∙ is) in record {
    current = k.current;
    distinct = k.distinct;
    apart = k.apart;
    put_off = λ p h off. live p off;
    forgotten = λ rolls p h. off_stays p d.arcs g.arcs (fades p) (k.forgotten rolls p h);
  };
}
  where
    live : (p : ℕ) → is_end_deferred_at g.arcs p ≡ true → is_live_with_peer g.arcs p ≡ true
    live = live_stays d.arcs g.arcs fades o.live

pub not_both : (q : Phase) → is_active q ≡ true → is_rolling q ≡ true → ⊥
not_both Phase.Active x y = absurd (cc (y))
not_both _ x y = absurd (cc (x))

-- ---- the peers of a transaction, by its branches' names

abbrev has_kid : List Child → ℕ → Bool
has_kid [] p = false
has_kid (c ∷ cs) p = (c.addr.node == p) || has_kid cs p

abbrev kids_differ : List Child → Bool
kids_differ [] = true
kids_differ (c ∷ cs) = not (has_kid cs c.addr.node) && kids_differ cs

pub has_is : (bs : List Branch) (p : ℕ) → has_branch_at bs p ≡ has_kid (kin bs) p
has_is [] p = refl
has_is (b ∷ bs) p = ap (λ v. (b.peer.node == p) || v) (has_is bs p)

pub differ_is : (bs : List Branch) → are_distinct bs ≡ kids_differ (kin bs)
differ_is [] = refl
differ_is (b ∷ bs) = ap (λ v. not v && are_distinct bs) (has_is bs b.peer.node) ∙ ap (λ v. not (has_kid (kin bs) b.peer.node) && v) (differ_is bs)

has_end : (cs : List Child) (c : Child) (p : ℕ) → has_kid (cs ++ c ∷ []) p ≡ (has_kid cs p || (c.addr.node == p))
has_end [] c p = grind arith
has_end (d ∷ ds) c p = grind (arith, has_end ds c p)

differ_end : (cs : List Child) (c : Child) → kids_differ cs ≡ true → has_kid cs c.addr.node ≡ false → kids_differ (cs ++ c ∷ []) ≡ true
differ_end [] c h off = refl
differ_end (d ∷ ds) c h off =
    let other : (d.addr.node == c.addr.node) ≡ false = grind (arith, off) in
    let swapped : (c.addr.node == d.addr.node) ≡ false = grind (arith, nat_tests, other) in
    let rest : kids_differ (ds ++ c ∷ []) ≡ true = differ_end ds c (grind (arith, h)) (grind (arith, off)) in
    let mine : has_kid (ds ++ c ∷ []) d.addr.node ≡ false = has_end ds c d.addr.node ∙ grind (arith, h, swapped) in
    grind (arith, rest, mine)

-- ---- an event of the transaction

pub rolling_is : (q : Phase) → is_rolling q ≡ true → q ≡ Phase.Rolling
rolling_is Phase.Rolling h = refl
rolling_is _ h = absurd (cc (h))

-- the arcs of a transaction's peers are its arcs
peers_are : (who : Who) (arcs : List Arc) (c : Current) (p : ℕ) → is_peer c p ≡ true → (a : Arc) → a.peer.node ≡ p → is_arc_of (seen who arcs c) a ≡ true
peers_are who arcs c p h a at =
    ap (λ (n : ℕ). is_under_at c.key n || row_holds (seen_rows arcs c.branches) n (λ b. true)) at ∙ ap (λ v. is_under_at c.key p || v) (seen_branch arcs c.branches p) ∙ h

pub fades_turned : (who : Who) (f : TxEvent) (d : Digest) (c : Current) → Fades d.arcs (turned who f d c).next.arcs
fades_turned who f d c =
    let t : Transaction = seen who d.arcs c in
    let a : Turn = transacted f t in
    let w : Passage = passage (is_leaving f) t.phase a.next.phase in
    let arcs : List Arc = entered t w d.arcs in
    fades_then d.arcs arcs (played d t w a arcs).0 (fades_entered t w d.arcs) (fades_played d t w a arcs)

-- rolling begins, and nothing is deferred any more
fallen : (who : Who) (f : TxEvent) (d : Digest) (c : Current) (p : ℕ) → is_peer c p ≡ true → passage (is_leaving f) c.phase (transacted f (seen who d.arcs c)).next.phase ≡ Falls
    → is_end_deferred_at (turned who f d c).next.arcs p ≡ false
fallen who f d c p peer falls =
    let t : Transaction = seen who d.arcs c in
    let a : Turn = transacted f t in
    subst (λ (w : Passage). is_end_deferred_at (played d t w a (entered t w d.arcs)).0 p ≡ false) (sym falls)
    (off_stays p (entered t Falls d.arcs) (played d t Falls a (entered t Falls d.arcs)).0 (fades_played d t Falls a (entered t Falls d.arcs) p) (forgets_all t d.arcs p (peers_are who d.arcs c p peer)))

pub turned_in_order : (who : Who) (f : TxEvent) (d : Digest) (c : Current) → d.current ≡ Some c → IsPut f (seen who d.arcs c) → IsInOrder d → IsInOrder (turned who f d c).next
turned_in_order who f d c now put o = record { live = live; now = among }
  where
    t : Transaction
    t = seen who d.arcs c

    next : Transaction
    next = (transacted f t).next

    later : List Arc
    later = (turned who f d c).next.arcs

    k : IsAmongArcs d.arcs c
    k = o.now c now

    moved : IsPassed f t t (transacted f t)
    moved = passed_turn f t put

    live : (p : ℕ) → is_end_deferred_at later p ≡ true → is_live_with_peer later p ≡ true
    live = live_stays d.arcs later (fades_turned who f d c) o.live

    gone : (p : ℕ) → is_peer c p ≡ true → next.phase ≡ Phase.Rolling → is_end_deferred_at later p ≡ false
    gone p peer rolls = go c.phase refl
      where
        into : (q : Phase) → c.phase ≡ q → passage (is_leaving f) c.phase next.phase ≡ passage (is_leaving f) q Phase.Rolling
        into q i = ap (λ (x : Phase). passage (is_leaving f) x next.phase) i ∙ ap (passage (is_leaving f) q) rolls

        moves : (q : Phase) → c.phase ≡ q → may_move q Phase.Rolling ≡ true
        moves q i = ap (λ (x : Phase). may_move x Phase.Rolling) (sym i) ∙ ap (may_move c.phase) (sym rolls) ∙ moved.moves

        go : (q : Phase) → c.phase ≡ q → is_end_deferred_at later p ≡ false
        go Phase.Nil i = let off : may_move Phase.Nil Phase.Rolling ≡ true = moves Phase.Nil i in absurd (cc (off))
        go Phase.Active i = fallen who f d c p peer (into Phase.Active i)
        go Phase.Ready i = fallen who f d c p peer (into Phase.Ready i)
        go Phase.Committing i = let off : may_move Phase.Committing Phase.Rolling ≡ true = moves Phase.Committing i in absurd (cc (off))
        go Phase.Rolling i = off_stays p d.arcs later (fades_turned who f d c p) (k.forgotten (ap is_rolling i) p peer)

    among : (u : Current) → (turned who f d c).next.current ≡ Some u → IsAmongArcs later u
    among u is = record {
      current = ap is_nil left.1 ∙ left.3;
      distinct = differ_is u.branches ∙ ap kids_differ same ∙ sym (differ_is c.branches) ∙ k.distinct;
      apart = λ p h. has p ∙ k.apart p (sym (ap (λ x. is_under_at x p) key) ∙ h);
      put_off = λ p h off. live p off;
      forgotten = λ rolls p h. gone p (sym (ap (λ x. is_under_at x p || has_branch_at u.branches p) key ∙ ap (λ v. is_under_at c.key p || v) (has p)) ∙ h) (rolling_is next.phase (ap is_rolling (sym left.1) ∙ rolls));
    }
      where
        left : (u.key ≡ next.key) × (u.phase ≡ next.phase) × (u.decision ≡ next.decision) × (is_nil next.phase ≡ false)
        left = left_is next u is

        key : u.key ≡ c.key
        key = left.0 ∙ moved.key

        same : kin u.branches ≡ kin c.branches
        same = ap kin (left_branches next u is) ∙ kids_left next.rows ∙ kin_turn f t put ∙ kids_seen d.arcs c.branches

        has : (p : ℕ) → has_branch_at u.branches p ≡ has_branch_at c.branches p
        has p = has_is u.branches p ∙ ap (λ cs. has_kid cs p) same ∙ sym (has_is c.branches p)

-- ---- transactions begin

pub fresh_in_order : (d g : Digest) (k : Key) → g.current ≡ Some (fresh_current k) → Fades d.arcs g.arcs → IsInOrder d → IsInOrder g
fresh_in_order d g k is fades o = record { live = live; now = among }
  where
    live : (p : ℕ) → is_end_deferred_at g.arcs p ≡ true → is_live_with_peer g.arcs p ≡ true
    live = live_stays d.arcs g.arcs fades o.live

    fresh : IsAmongArcs g.arcs (fresh_current k)
    fresh = record { current = refl; distinct = refl; apart = λ p h. refl; put_off = λ p h off. live p off; forgotten = λ rolls. absurd (cc (rolls)) }

    among : (c : Current) → g.current ≡ Some c → IsAmongArcs g.arcs c
    among c i = let some : Some (fresh_current k) ≡ Some c = sym is ∙ i in let same : fresh_current k ≡ c = cc (some) in subst (IsAmongArcs g.arcs) same fresh

-- a new branch is no peer yet
pub new_peer : (who : Who) (d : Digest) (c : Current) (a : Arc) → d.current ≡ Some c → may_begin_on who d a ≡ true → is_peer c a.peer.node ≡ false
unfolding situation_of
new_peer who d c a i j =
    let two = seen_branch d.arcs c.branches a.peer.node in
    grind (arith, i, j, two)

active_now : (who : Who) (d : Digest) (c : Current) (a : Arc) → d.current ≡ Some c → may_begin_on who d a ≡ true → is_active c.phase ≡ true
active_now who d c a i j = let active : is_active (phase_of d) ≡ true = grind (arith, j) in ap is_active (sym (phase_at d c i)) ∙ active

abbrev begun_child : Who → Digest → Arc → Child
begun_child who d a = record { addr = a.peer; branch = record { superior = who.site; mark = next_mark who d } }

begun_in_order : (who : Who) (d g : Digest) (c : Current) (a : Arc) → d.current ≡ Some c → may_begin_on who d a ≡ true → g.current ≡ (with_begun who (with_mark_drawn d) c (begun_child who d a)).current → Fades d.arcs g.arcs
    → IsInOrder d → IsInOrder g
begun_in_order who d g c a i j is fades o = record { live = live; now = among }
  where
    next : Transaction
    next = (transacted (TxEvent.Begun (begun_child who d a ∷ [])) (seen who d.arcs c)).next

    live : (p : ℕ) → is_end_deferred_at g.arcs p ≡ true → is_live_with_peer g.arcs p ≡ true
    live = live_stays d.arcs g.arcs fades o.live

    k : IsAmongArcs d.arcs c
    k = o.now c i

    alone : is_peer c a.peer.node ≡ false
    alone = new_peer who d c a i j

    unborn : has_kid (kin c.branches) a.peer.node ≡ false
    unborn = sym (has_is c.branches a.peer.node) ∙ grind (arith, alone)

    not_above : (p : ℕ) → is_under_at c.key p ≡ true → (a.peer.node == p) ≡ false
    not_above p h = go (a.peer.node == p) refl
      where
        go : (v : Bool) → (a.peer.node == p) ≡ v → v ≡ false
        go false e = refl
        go true e =
            let at : a.peer.node ≡ p = grind (arith, nat_tests, e) in
            let above : is_under_at c.key a.peer.node ≡ true = ap (is_under_at c.key) at ∙ h in
            absurd (grind (arith, alone, above))

    among : (u : Current) → g.current ≡ Some u → IsAmongArcs g.arcs u
    among u e = record {
      current = ap is_nil left.1 ∙ left.3;
      distinct = differ_is u.branches ∙ ap kids_differ same ∙ differ_end (kin c.branches) (begun_child who d a) (sym (differ_is c.branches) ∙ k.distinct) unborn;
      apart = λ p h. apart p (sym (ap (λ x. is_under_at x p) left.0) ∙ h);
      put_off = λ p h off. live p off;
      forgotten = λ rolls p h. let active : is_active u.phase ≡ true = ap is_active left.1 ∙ active_now who d c a i j in absurd (not_both u.phase active rolls);
    }
      where
        left : (u.key ≡ c.key) × (u.phase ≡ c.phase) × (u.decision ≡ c.decision) × (is_nil c.phase ≡ false)
        left = left_is next u (sym is ∙ e)

        same : kin u.branches ≡ kin c.branches ++ begun_child who d a ∷ []
        same =
            ap kin (left_branches next u (sym is ∙ e)) ∙ kids_left next.rows ∙ kids_more (seen_rows d.arcs c.branches) (begun_child who d a)
            ∙ ap (λ cs. cs ++ begun_child who d a ∷ []) (kids_seen d.arcs c.branches)

        apart : (p : ℕ) → is_under_at c.key p ≡ true → has_branch_at u.branches p ≡ false
        apart p h =
            has_is u.branches p ∙ ap (λ cs. has_kid cs p) same ∙ has_end (kin c.branches) (begun_child who d a) p
            ∙ ap (λ v. v || (a.peer.node == p)) (sym (has_is c.branches p) ∙ k.apart p h) ∙ not_above p h

pub begin_in_order : (who : Who) (q : ℕ) (d : Digest) → IsInOrder d → IsInOrder (begin_on who q d).next
begin_in_order who q d o = begin_cases (λ (m : Move). IsInOrder m.next) who q d o on
  where
    on : (c : Current) (a : Arc) → d.current ≡ Some c → find_arc d.arcs q ≡ Some a → may_begin_on who d a ≡ true → IsInOrder (begun_over who q d c a).next
    on c a i found j =
        let arcs : List Arc = with_dialogue d.arcs q (begun_by (named_holder a.dialogue) Side.Superior) in
        let outs : List TxOut = TxOut.Carry q (DialogueRecord.Begin (aaid_of c.key) (record { superior = who.site; mark = next_mark who d }) (named_holder a.dialogue)) ∷ [] in
        begun_in_order who d (perform outs (record (with_begun who (with_mark_drawn d) c (begun_child who d a)) { arcs = arcs })).next c a i j refl
        (fades_then d.arcs arcs (performed arcs outs).0 (fades_dialogue d.arcs q (begun_by (named_holder a.dialogue) Side.Superior) (keeps_begun (named_holder a.dialogue) Side.Superior)) (fades_performed arcs outs)) o
