-- A transaction as it stands, and what is known of its node after an event: the same, where what is left of the
-- event leaves it as it is among the arcs.
use Rattle.std.proofs.Common.{◌≡◌, ℕ, Bool, true, false, refl, ap, sym, subst, ◌∙◌, List, ◌&&◌, ◌||◌, not}
use Rattle.tp_names.specs.declared.children.Child.{Child}
use Rattle.tp_model.specs.declared.transaction.TxEvent.{TxEvent}
use Rattle.tp_model.specs.Parts.{Who, Arc, Current, Digest}
use Rattle.tp_model.specs.Dialogues.{is_nil, is_committing, is_rolling}
use Rattle.tp_model.specs.Arcs.{performed}
use Rattle.tp_model.specs.Transactions.{Row, Transaction, Turn, is_under_at, transacted}
use Rattle.tp_model.specs.Node.{is_up_live, is_up_ending, seen_rows, seen, branches_of, is_leaving, passage, entered, turned}
use Rattle.tp_commit.specs.Branch.{standing_rows, standing}
use Rattle.tp_model.specs.AmongArcs.{is_peer, IsAmongArcs, AreNew}
use Rattle.tp_commit.proofs.Marks.{IsLater, has_row_at, rows_stand, seen_has, seen_twice, up_later, begun_stand}
use Rattle.tp_commit.proofs.Among.{left_of, left_seen, marked_numbers, rows_among}
use Rattle.tp_commit.proofs.Still.{IsStill, Goes}
use Rattle.tp_commit.proofs.Passages.{not_over, lasting, peer_of, passed_later, later_performed}

-- ---- where a transaction stands

-- a transaction sees the arcs as they are
pub record IsSeenAt (t : Transaction) (arcs : List Arc) : Type 0 where
  pub up : t.up ≡ is_up_live arcs t.key
  pub up_ends : t.up_ends ≡ is_up_ending arcs t.key
  pub rows : seen_rows arcs (branches_of t.rows) ≡ t.rows

pub shows : (who : Who) (t : Transaction) (later : List Arc) → t.node ≡ who.node → t.up ≡ is_up_live later t.key → (t.up_ends && not (is_rolling t.phase)) ≡ is_up_ending later t.key
    → standing_rows (is_rolling t.phase) t.rows ≡ seen_rows later (branches_of t.rows) → standing t ≡ seen who later (left_of t)
shows who t later node up ends rows =
    let with_parts : ℕ → Bool → Bool → List Row → Transaction = λ n u e rs. record t { node = n; up = u; up_ends = e; rows = rs } in
    ap (λ n. with_parts n t.up (t.up_ends && not (is_rolling t.phase)) (standing_rows (is_rolling t.phase) t.rows)) node
    ∙ ap (λ u. with_parts who.node u (t.up_ends && not (is_rolling t.phase)) (standing_rows (is_rolling t.phase) t.rows)) up
    ∙ ap (λ e. with_parts who.node (is_up_live later t.key) e (standing_rows (is_rolling t.phase) t.rows)) ends
    ∙ ap (λ rs. with_parts who.node (is_up_live later t.key) (is_up_ending later t.key) rs) rows

pub or_first : (a b : Bool) → a ≡ true → (a || b) ≡ true
or_first a b h = rw h refl

pub or_second : (a b : Bool) → b ≡ true → (a || b) ≡ true
or_second true b h = refl
or_second false b h = h

still_shows : (who : Who) (t : Transaction) (a : Turn) (arcs later : List Arc) → t.node ≡ who.node → IsSeenAt t arcs → IsStill t a → ((q : ℕ) → peer_of t q ≡ true → IsLater (is_rolling a.next.phase) q arcs later)
    → standing a.next ≡ seen who later (left_of a.next)
still_shows who t a arcs later node is still laters =
    let u : Transaction = a.next in
    let ups = up_later (is_rolling u.phase) arcs later t.key (λ q h. laters q (or_first (is_under_at t.key q) (has_row_at t.rows q) h)) in
    shows who u later
    (still.node ∙ node)
    (still.up ∙ is.up ∙ sym ups.0 ∙ ap (is_up_live later) (sym still.key))
    (ap (λ e. e && not (is_rolling u.phase)) (still.up_ends ∙ is.up_ends) ∙ sym ups.1 ∙ ap (is_up_ending later) (sym still.key))
    (rows_stand arcs later (is_rolling u.phase) t.rows u.rows is.rows still.rows (λ q h. laters q (or_second (is_under_at t.key q) (has_row_at t.rows q) h)))

-- ---- an event at the node

-- the arcs after the passage, before the outputs
abbrev pub mid_of : Who → TxEvent → Digest → Current → List Arc
mid_of who f d c = let t : Transaction = seen who d.arcs c in entered t (passage (is_leaving f) t.phase (transacted f t).next.phase) d.arcs

pub seen_is : (who : Who) (arcs : List Arc) (c : Current) → IsSeenAt (seen who arcs c) arcs
seen_is who arcs c = record { up = refl; up_ends = refl; rows = seen_twice arcs c.branches }

pub peer_is : (who : Who) (arcs : List Arc) (c : Current) (q : ℕ) → peer_of (seen who arcs c) q ≡ is_peer c q
peer_is who arcs c q = ap (λ b. is_under_at c.key q || b) (seen_has arcs c.branches q)

pub mid_later : (who : Who) (f : TxEvent) (d : Digest) (c : Current) → IsAmongArcs d.arcs c → is_nil (transacted f (seen who d.arcs c)).next.phase ≡ false
    → (is_committing c.phase ≡ true → is_committing (transacted f (seen who d.arcs c)).next.phase ≡ true)
    → (q : ℕ) → peer_of (seen who d.arcs c) q ≡ true → IsLater (is_rolling (transacted f (seen who d.arcs c)).next.phase) q d.arcs (mid_of who f d c)
mid_later who f d c among late commits q peer =
    passed_later (seen who d.arcs c) (is_leaving f) (transacted f (seen who d.arcs c)).next.phase d.arcs q among.current late commits peer
    (λ rolls. among.forgotten rolls q (sym (peer_is who d.arcs c q) ∙ peer))

pub arcs_are : (who : Who) (f : TxEvent) (d : Digest) (c : Current) → is_nil (transacted f (seen who d.arcs c)).next.phase ≡ false
    → (turned who f d c).next.arcs ≡ (performed (mid_of who f d c) (transacted f (seen who d.arcs c)).outs).0
arcs_are who f d c late =
    let t : Transaction = seen who d.arcs c in
    let a : Turn = transacted f t in
    lasting d t (passage (is_leaving f) t.phase a.next.phase) a (mid_of who f d c) (not_over (is_leaving f) t.phase a.next.phase late)

-- unless the transaction is over after the event: it stands for what the node then knows, in order among the arcs
pub record IsShown (who : Who) (f : TxEvent) (d : Digest) (c : Current) : Type 0 where
  pub stands : standing (transacted f (seen who d.arcs c)).next ≡ seen who (turned who f d c).next.arcs (left_of (transacted f (seen who d.arcs c)).next)
  pub among : IsAmongArcs (turned who f d c).next.arcs (left_of (transacted f (seen who d.arcs c)).next)

abbrev pub Shows : Who → TxEvent → Digest → Current → Type 0
Shows who f d c = is_nil (transacted f (seen who d.arcs c)).next.phase ≡ false → IsShown who f d c

-- what the rest of an event makes of a transaction, as which the arcs show it before that
pub rest_shows : (who : Who) (f : TxEvent) (d : Digest) (c : Current) (t : Transaction) (a : Turn) (arcs mid : List Arc) → is_nil (transacted f (seen who d.arcs c)).next.phase ≡ false
    → (transacted f (seen who d.arcs c)).next ≡ a.next → t.node ≡ who.node → IsSeenAt t arcs → IsAmongArcs arcs (left_of t) → IsStill t a
    → ((q : ℕ) → peer_of t q ≡ true → IsLater (is_rolling (transacted f (seen who d.arcs c)).next.phase) q arcs mid) → (turned who f d c).next.arcs ≡ (performed mid a.outs).0
    → IsShown who f d c
rest_shows who f d c t a arcs mid late next node is among still laters after = record {
  stands =
      subst (λ (u : Transaction). standing u ≡ seen who (turned who f d c).next.arcs (left_of u)) (sym next)
      (subst (λ (later : List Arc). standing a.next ≡ seen who later (left_of a.next)) (sym after) (still_shows who t a arcs (performed mid a.outs).0 node is still now));
  among =
      subst (λ (u : Transaction). IsAmongArcs (turned who f d c).next.arcs (left_of u)) (sym next)
      (subst (λ (later : List Arc). IsAmongArcs later (left_of a.next)) (sym after)
      (rows_among t a.next arcs (performed mid a.outs).0 among still.key (marked_numbers t.rows a.next.rows still.rows) (ap (λ (u : Transaction). is_nil u.phase) (sym next) ∙ late) now));
}
  where
    now : (q : ℕ) → peer_of t q ≡ true → IsLater (is_rolling a.next.phase) q arcs (performed mid a.outs).0
    now q peer = later_performed (is_rolling a.next.phase) q arcs mid a.outs (subst (λ (u : Transaction). IsLater (is_rolling u.phase) q arcs mid) next (laters q peer)) still.outs

-- no arc is shut
pub goes_shows : (who : Who) (f : TxEvent) (d : Digest) (c : Current) → IsAmongArcs d.arcs c → Goes (seen who d.arcs c) (transacted f (seen who d.arcs c)) → Shows who f d c
goes_shows who f d c among goes late =
    let t : Transaction = seen who d.arcs c in
    let still : IsStill t (transacted f t) = goes late in
    rest_shows who f d c t (transacted f t) d.arcs (mid_of who f d c) late refl refl (seen_is who d.arcs c) (subst (IsAmongArcs d.arcs) (sym (left_seen who d.arcs c)) among) still
    (λ q peer. mid_later who f d c among late still.commits q peer) (arcs_are who f d c late)

-- ---- branches begin

pub begun_shown : (who : Who) (arcs : List Arc) (c : Current) (cs : List Child) → is_rolling c.phase ≡ false → AreNew cs arcs c
    → standing (transacted (TxEvent.Begun cs) (seen who arcs c)).next ≡ seen who arcs (left_of (transacted (TxEvent.Begun cs) (seen who arcs c)).next)
begun_shown who arcs c cs calm new = shows who u arcs refl refl ends (ap (λ b. standing_rows b u.rows) calm ∙ begun_stand arcs c c.branches cs new)
  where
    u : Transaction
    u = (transacted (TxEvent.Begun cs) (seen who arcs c)).next

    and_true : (b : Bool) → (b && true) ≡ b
    and_true true = refl
    and_true false = refl

    ends : (is_up_ending arcs c.key && not (is_rolling c.phase)) ≡ is_up_ending arcs c.key
    ends = ap (λ b. is_up_ending arcs c.key && not b) calm ∙ and_true (is_up_ending arcs c.key)
