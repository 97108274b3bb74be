-- Events that shut an arc: an abort, a branch that leaves and ends its dialogue, a branch that is given up.
use Rattle.std.proofs.Common.{◌≡◌, ℕ, Bool, true, false, refl, ap, sym, subst, ◌∙◌, arith, Option, Some, None, List, [], ◌∷◌, ◌++◌, ◌&&◌, ◌||◌, ◌==◌, not, if◌then◌else◌}
use Rattle.std.proofs.lemmas.Bool.Decides.{nat_tests}
use Rattle.tp_records.specs.declared.request.Request.{Request}
use Rattle.tp_records.specs.declared.dialogue.DialogueRecord.{DialogueRecord}
use Rattle.tp_model.specs.declared.arc.Phase.{Phase}
use Rattle.tp_model.specs.declared.transaction.TxEvent.{TxEvent}
use Rattle.tp_model.specs.declared.transaction.TxOut.{TxOut}
use Rattle.tp_model.specs.Parts.{Who, Arc, Key, Root, Under, Branch, Current, Digest}
use Rattle.tp_model.specs.Dialogues.{Sight, Acts, Nothing_happens, Out_of_phase, is_nil, is_active, is_committing, is_rolling}
use Rattle.tp_model.specs.Arcs.{is_live_with_peer, without_arc, carried, shut_with, performed}
use Rattle.tp_model.specs.Transactions.{Row, Transaction, Turn, turn, and_then, is_under_at, find_row, with_row, with_arc_lost, complete_commit, roll, takes_left, takes, sight_of_tx, transacted, refused_tx, after}
use Rattle.tp_model.specs.Node.{is_end_deferred_at, is_up_live, is_up_ending, seen_row, seen_rows, seen}
use Rattle.tp_model.specs.Requests.{has_branch_at}
use Rattle.tp_commit.specs.declared.row.Note.{Note}
use Rattle.tp_commit.specs.Row.{noted, noted_at}
use Rattle.tp_model.specs.AmongArcs.{IsAmongArcs, is_peer, IsCut}
use Rattle.tp_commit.proofs.Notes.{noted_row}
use Rattle.tp_commit.proofs.Marks.{IsLater, cuts, has_row_at, seen_has, noted_has, cut_seen, cut_rows, apart_rows}
use Rattle.tp_commit.proofs.Still.{IsStill, Goes, still_turn, goes_commit, goes_roll, goes_left}
use Rattle.tp_commit.proofs.Passages.{peer_of, later_aborted, later_cut, later_shut, cut_off}
use Rattle.tp_commit.proofs.Among.{left_of, left_seen, noted_numbers, same_among, among_cut}
use Rattle.tp_commit.proofs.Shown.{or_second, IsSeenAt, IsShown, seen_is, mid_of, mid_later, arcs_are, Shows, goes_shows, rest_shows}

-- ---- an arc is shut

-- the transaction without the arc
cut_is : (who : Who) (arcs later : List Arc) (c : Current) (p : ℕ) (n : Note) → IsAmongArcs arcs c → IsCut p arcs later → cuts n ≡ true → is_under_at c.key p ≡ false
    → IsSeenAt (record (seen who arcs c) { rows = noted_at (seen_rows arcs c.branches) p n }) later
cut_is who arcs later c p n among cut h other =
    let ups = up c.key other in
    record { up = ups.0; up_ends = ups.1; rows = cut_seen p arcs later cut n h c.branches among.distinct }
  where
    up : (k : Key) → is_under_at k p ≡ false → (is_up_live arcs k ≡ is_up_live later k) × (is_up_ending arcs k ≡ is_up_ending later k)
    up (Root t) i = (refl, refl)
    up (Under t b a) i = let k = cut.others a.node i in (sym k.live, sym k.ends)

-- the arc that is lost is gone
pub lost_now : (who : Who) (arcs later : List Arc) (c : Current) (p : ℕ) → IsAmongArcs arcs c → IsCut p arcs later → with_arc_lost (seen who arcs c) p ≡ seen who later c
lost_now who arcs later c p among cut = go (is_under_at c.key p) refl
  where
    t : Transaction
    t = seen who arcs c

    with_parts : Bool → Bool → List Row → Transaction
    with_parts u e rs = record t { up = u; up_ends = e; rows = rs }

    above : (k : Key) → is_under_at k p ≡ true → (is_up_live later k ≡ false) × (is_up_ending later k ≡ false)
    above (Root a) i = absurd cc
    above (Under a b s) i =
        let here : s.node ≡ p = grind (arith, nat_tests, i) in
        (ap (is_live_with_peer later) here ∙ cut.live, ap (is_end_deferred_at later) here ∙ cut.ends)

    apart : (k : Key) → is_under_at k p ≡ false → (is_up_live arcs k ≡ is_up_live later k) × (is_up_ending arcs k ≡ is_up_ending later k)
    apart (Root a) i = (refl, refl)
    apart (Under a b s) i = let k = cut.others s.node i in (sym k.live, sym k.ends)

    go : (b : Bool) → is_under_at c.key p ≡ b → (if b then record t { up = false; up_ends = false } else with_row t p (noted Note.Lost)) ≡ seen who later c
    go true i =
        let ups = above c.key i in
        ap (λ u. with_parts u false t.rows) (sym ups.0)
        ∙ ap (λ e. with_parts (is_up_live later c.key) e t.rows) (sym ups.1)
        ∙ ap (with_parts (is_up_live later c.key) (is_up_ending later c.key)) (apart_rows p arcs later cut.others c.branches (among.apart p i))
    go false i =
        let ups = apart c.key i in
        noted_row t p Note.Lost
        ∙ ap (λ u. with_parts u t.up_ends (noted_at t.rows p Note.Lost)) ups.0
        ∙ ap (λ e. with_parts (is_up_live later c.key) e (noted_at t.rows p Note.Lost)) ups.1
        ∙ ap (with_parts (is_up_live later c.key) (is_up_ending later c.key)) (cut_rows p arcs later cut c.branches among.distinct)

lost_is : (who : Who) (arcs : List Arc) (c : Current) (p : ℕ) → IsAmongArcs arcs c → IsSeenAt (with_arc_lost (seen who arcs c) p) (without_arc arcs p)
lost_is who arcs c p among = subst (λ (u : Transaction). IsSeenAt u (without_arc arcs p)) (sym (lost_now who arcs (without_arc arcs p) c p among (cut_off p arcs))) (seen_is who (without_arc arcs p) c)

lost_node : (t : Transaction) (p : ℕ) → (with_arc_lost t p).node ≡ t.node
lost_node t p = grind arith

lost_phase : (t : Transaction) (p : ℕ) → (with_arc_lost t p).phase ≡ t.phase
lost_phase t p = grind arith

lost_key : (t : Transaction) (p : ℕ) → (with_arc_lost t p).key ≡ t.key
lost_key t p = grind arith

lost_peer : (t : Transaction) (p q : ℕ) → peer_of (with_arc_lost t p) q ≡ peer_of t q
lost_peer t p q = go (is_under_at t.key p)
  where
    go : (b : Bool) → peer_of (if b then record t { up = false; up_ends = false } else with_row t p (noted Note.Lost)) q ≡ peer_of t q
    go true = refl
    go false = ap (λ (u : Transaction). peer_of u q) (noted_row t p Note.Lost) ∙ ap (λ b. is_under_at t.key q || b) (noted_has t.rows p q Note.Lost)

active_only : (p : Phase) → is_active p ≡ true → is_committing p ≡ false
active_only Phase.Nil h = refl
active_only Phase.Active h = refl
active_only Phase.Ready h = refl
active_only Phase.Committing h = absurd cc
active_only Phase.Rolling h = refl

lost_among : (who : Who) (arcs : List Arc) (c : Current) (p : ℕ) → IsAmongArcs arcs c → IsAmongArcs (without_arc arcs p) (left_of (with_arc_lost (seen who arcs c) p))
lost_among who arcs c p among =
    subst (IsAmongArcs (without_arc arcs p)) (sym (ap left_of (lost_now who arcs (without_arc arcs p) c p among (cut_off p arcs)) ∙ left_seen who (without_arc arcs p) c)) (among_cut arcs (without_arc arcs p) c p among (cut_off p arcs))

pub abort_shows : (who : Who) (d : Digest) (c : Current) (p : ℕ) → IsAmongArcs d.arcs c → is_active c.phase ≡ true → Shows who (TxEvent.User (Request.UAbort p)) d c
abort_shows who d c p among active late =
    rest_shows who f d c u a (without_arc d.arcs p) (without_arc (carried (mid_of who f d c) p DialogueRecord.UAbort).0 p) late refl (lost_node t p) (lost_is who d.arcs c p among) (lost_among who d.arcs c p among)
    (goes_roll true u not_yet late)
    (λ q peer. later_aborted (is_rolling a.next.phase) p q DialogueRecord.UAbort d.arcs (mid_of who f d c) (mid_later who f d c among late (λ h. absurd (cc (h, active_only c.phase active))) q (sym (lost_peer t p q) ∙ peer)))
    (arcs_are who f d c late)
  where
    f : TxEvent
    f = TxEvent.User (Request.UAbort p)

    t : Transaction
    t = seen who d.arcs c

    u : Transaction
    u = with_arc_lost t p

    a : Turn
    a = roll true u

    not_yet : is_committing u.phase ≡ false
    not_yet = ap is_committing (lost_phase t p) ∙ active_only c.phase active

-- ---- a branch leaves, and its dialogue ends

-- the transaction with the branch cut off
abbrev cut_of : Who → List Arc → Current → ℕ → Note → Transaction
cut_of who arcs c p n = record (seen who arcs c) { rows = noted_at (seen_rows arcs c.branches) p n }

cut_peer : (who : Who) (arcs : List Arc) (c : Current) (p q : ℕ) (n : Note) → peer_of (cut_of who arcs c p n) q ≡ peer_of (seen who arcs c) q
cut_peer who arcs c p q n = ap (λ b. is_under_at c.key q || b) (noted_has (seen_rows arcs c.branches) p q n)

noted_among : (who : Who) (arcs later : List Arc) (c : Current) (p : ℕ) (n : Note) → IsAmongArcs arcs c → IsCut p arcs later → IsAmongArcs later (left_of (cut_of who arcs c p n))
noted_among who arcs later c p n among cut =
    same_among (seen who arcs c) (cut_of who arcs c p n) later (subst (IsAmongArcs later) (sym (left_seen who arcs c)) (among_cut arcs later c p among cut)) refl refl (noted_numbers (seen_rows arcs c.branches) p n)

-- of three things that a record may come to, the transaction takes up one
took_is : (t : Transaction) (p : ℕ) (r : DialogueRecord) (s : Sight) → sight_of_tx t p r ≡ s
    → transacted (TxEvent.Took p r) t ≡ elim s as (λ _. Turn) [ Acts ↦ takes p r t | Nothing_happens ↦ turn [] t | Out_of_phase ↦ turn [] t ]
took_is t p r s i = ap (λ x. elim x as (λ _. Turn) [ Acts ↦ takes p r t | Nothing_happens ↦ turn [] t | Out_of_phase ↦ turn [] t ]) i

goes_nowhere : (t : Transaction) (a : Turn) → a ≡ turn [] t → Goes t a
goes_nowhere t a e late = subst (λ (x : Turn). IsStill t x) (sym e) (still_turn t [] refl)

pub left_shows : (who : Who) (d : Digest) (c : Current) (p : ℕ) → IsAmongArcs d.arcs c → is_under_at c.key p ≡ false → Shows who (TxEvent.Took p DialogueRecord.LeftEnd) d c
left_shows who d c p among other late = go (sight_of_tx t p DialogueRecord.LeftEnd) refl
  where
    f : TxEvent
    f = TxEvent.Took p DialogueRecord.LeftEnd

    t : Transaction
    t = seen who d.arcs c

    u : Transaction
    u = cut_of who d.arcs c p Note.Lost

    a : Turn
    a = takes_left p u

    closed : Turn → Turn
    closed b = record { rec = b.rec; outs = TxOut.Close p ∷ b.outs; completion = after (TxOut.Close p ∷ []) b.completion; next = b.next }

    acted : takes p DialogueRecord.LeftEnd t ≡ closed a
    acted = ap (λ (v : Transaction). closed (takes_left p v)) (noted_row t p Note.Lost)

    acts : transacted f t ≡ closed a → Goes u a
        → IsShown who f d c
    acts e goes =
        let next : (transacted f t).next ≡ a.next = ap (λ (b : Turn). b.next) e in
        let still : IsStill u a = goes (ap (λ (v : Transaction). is_nil v.phase) (sym next) ∙ late) in
        let commits : is_committing c.phase ≡ true → is_committing (transacted f t).next.phase ≡ true = λ h. ap (λ (v : Transaction). is_committing v.phase) next ∙ still.commits h in
        rest_shows who f d c u a (without_arc d.arcs p) (without_arc (mid_of who f d c) p) late next refl
        (cut_is who d.arcs (without_arc d.arcs p) c p Note.Lost among (cut_off p d.arcs) refl other) (noted_among who d.arcs (without_arc d.arcs p) c p Note.Lost among (cut_off p d.arcs)) still
        (λ q peer. later_cut (is_rolling (transacted f t).next.phase) p q d.arcs (mid_of who f d c) (mid_later who f d c among late commits q (sym (cut_peer who d.arcs c p q Note.Lost) ∙ peer)))
        (arcs_are who f d c late ∙ ap (λ (b : Turn). (performed (mid_of who f d c) b.outs).0) e)

    go : (s : Sight) → sight_of_tx t p DialogueRecord.LeftEnd ≡ s → IsShown who f d c
    go Acts i = acts (took_is t p DialogueRecord.LeftEnd Acts i ∙ acted) (goes_left p u)
    go Nothing_happens i = goes_shows who f d c among (goes_nowhere t (transacted f t) (took_is t p DialogueRecord.LeftEnd Nothing_happens i)) late
    go Out_of_phase i = goes_shows who f d c among (goes_nowhere t (transacted f t) (took_is t p DialogueRecord.LeftEnd Out_of_phase i)) late

-- ---- a branch is given up

found_live : (arcs : List Arc) (bs : List Branch) (p : ℕ) (r : Row) → find_row (seen_rows arcs bs) p ≡ Some r → r.live ≡ (is_live_with_peer arcs p && not (r.branch.ended || r.branch.left))
found_live arcs [] p r h = absurd cc
found_live arcs (b ∷ bs) p r h = go (b.peer.node == p) refl (found_live arcs bs p r) h
  where
    go : (v : Bool) → (b.peer.node == p) ≡ v → (find_row (seen_rows arcs bs) p ≡ Some r → r.live ≡ (is_live_with_peer arcs p && not (r.branch.ended || r.branch.left)))
        → (if v then Some (seen_row arcs b) else find_row (seen_rows arcs bs) p) ≡ Some r → r.live ≡ (is_live_with_peer arcs p && not (r.branch.ended || r.branch.left))
    go true i rest e =
        let here : b.peer.node ≡ p = grind (arith, nat_tests, i) in
        let is : seen_row arcs b ≡ r = cc (e) in
        sym (ap (λ (x : Row). x.live) is) ∙ ap (λ n. is_live_with_peer arcs n && not (b.ended || b.left)) here ∙ ap (λ (x : Row). is_live_with_peer arcs p && not (x.branch.ended || x.branch.left)) is
    go false i rest e = rest e

found_has : (rs : List Row) (p : ℕ) (r : Row) → find_row rs p ≡ Some r → has_row_at rs p ≡ true
found_has rs p r h = grind (arith, h)

open_given : (t : Transaction) (p : ℕ) (r : Row) → refused_tx (TxEvent.GiveUp p) t ≡ None → find_row t.rows p ≡ Some r → (r.branch.ended || r.branch.left) ≡ false
unfolding refused_tx
open_given t p r ok found = grind (arith, ok, found)

pub give_up_shows : (who : Who) (d : Digest) (c : Current) (p : ℕ) → IsAmongArcs d.arcs c → refused_tx (TxEvent.GiveUp p) (seen who d.arcs c) ≡ None → Shows who (TxEvent.GiveUp p) d c
give_up_shows who d c p among ok late = go (find_row t.rows p) refl
  where
    f : TxEvent
    f = TxEvent.GiveUp p

    t : Transaction
    t = seen who d.arcs c

    u : Transaction
    u = cut_of who d.arcs c p Note.GivenUp

    a : Turn
    a = complete_commit u

    shut : Bool → List TxOut
    shut live = if live then TxOut.Shut p ∷ [] else []

    found : Option Row → Turn
    found o = elim o [ None ↦ turn [] t | Some r ↦ and_then (turn (shut r.live) (with_row t p (noted Note.GivenUp))) complete_commit ]

    given : (r : Row) → find_row t.rows p ≡ Some r → transacted f t ≡ and_then (turn (shut r.live) u) complete_commit
    given r i = ap found i ∙ ap (λ (v : Transaction). and_then (turn (shut r.live) v) complete_commit) (noted_row t p Note.GivenUp)

    with_arcs : (r : Row) (arcs mid : List Arc) → find_row t.rows p ≡ Some r → IsCut p d.arcs arcs → ((q : ℕ) → IsLater (is_rolling (transacted f t).next.phase) q d.arcs (mid_of who f d c) → IsLater (is_rolling (transacted f t).next.phase) q arcs mid)
        → (performed (mid_of who f d c) (shut r.live ++ a.outs)).0 ≡ (performed mid a.outs).0 → IsShown who f d c
    with_arcs r arcs mid i cut moved outs =
        let e = given r i in
        let next : (transacted f t).next ≡ a.next = ap (λ (b : Turn). b.next) e in
        let still : IsStill u a = goes_commit u (ap (λ (v : Transaction). is_nil v.phase) (sym next) ∙ late) in
        let commits : is_committing c.phase ≡ true → is_committing (transacted f t).next.phase ≡ true = λ h. ap (λ (v : Transaction). is_committing v.phase) next ∙ still.commits h in
        rest_shows who f d c u a arcs mid late next refl (cut_is who d.arcs arcs c p Note.GivenUp among cut refl (below r i)) (noted_among who d.arcs arcs c p Note.GivenUp among cut) still
        (λ q peer. moved q (mid_later who f d c among late commits q (sym (cut_peer who d.arcs c p q Note.GivenUp) ∙ peer)))
        (arcs_are who f d c late ∙ ap (λ (b : Turn). (performed (mid_of who f d c) b.outs).0) e ∙ outs)
      where
        below : (r : Row) → find_row t.rows p ≡ Some r → is_under_at c.key p ≡ false
        below r i = side (is_under_at c.key p) refl
          where
            side : (b : Bool) → is_under_at c.key p ≡ b → is_under_at c.key p ≡ false
            side true h = absurd (cc (sym (seen_has d.arcs c.branches p) ∙ found_has t.rows p r i, among.apart p h))
            side false h = h

    dead : (r : Row) → find_row t.rows p ≡ Some r → r.live ≡ false → is_live_with_peer d.arcs p ≡ false
    dead r i off =
        let closed = open_given t p r ok i in
        let live = found_live d.arcs c.branches p r i in
        grind (arith, closed, live, off)

    peer : (r : Row) → find_row t.rows p ≡ Some r → is_peer c p ≡ true
    peer r i = or_second (is_under_at c.key p) (has_branch_at c.branches p) (sym (seen_has d.arcs c.branches p) ∙ found_has t.rows p r i)

    put_off_none : (v : Bool) → is_end_deferred_at d.arcs p ≡ v → is_peer c p ≡ true → is_live_with_peer d.arcs p ≡ false → is_end_deferred_at d.arcs p ≡ false
    put_off_none true h here off = absurd (cc (among.put_off p here h, off))
    put_off_none false h here off = h

    by_live : (r : Row) → find_row t.rows p ≡ Some r → (b : Bool) → r.live ≡ b → IsShown who f d c
    by_live r i true live =
        with_arcs r (without_arc d.arcs p) (shut_with (mid_of who f d c) p).0 i (cut_off p d.arcs) (λ q k. later_shut (is_rolling (transacted f t).next.phase) p q d.arcs (mid_of who f d c) k)
        (ap (λ b. (performed (mid_of who f d c) (shut b ++ a.outs)).0) live)
    by_live r i false off =
        let no : is_live_with_peer d.arcs p ≡ false = dead r i off in
        with_arcs r d.arcs (mid_of who f d c) i
        (record { live = no; ends = put_off_none (is_end_deferred_at d.arcs p) refl (peer r i) no; others = λ q other. record { live = refl; ends = refl } })
        (λ q k. k)
        (ap (λ b. (performed (mid_of who f d c) (shut b ++ a.outs)).0) off)

    go : (o : Option Row) → find_row t.rows p ≡ o → IsShown who f d c
    go None i = goes_shows who f d c among (goes_nowhere t (transacted f t) (ap found i)) late
    go (Some r) i = by_live r i r.live refl
