-- The loss of an association at a node: its transaction rolls back, is complete, or stays as it was; and which association may be lost next.
use Rattle.std.proofs.Common.{if◌then◌else◌, ◌≡◌, ◌⊎◌, inl, inr, ℕ, suc, ◌≤◌, ◌+◌, Bool, true, false, refl, ap, sym, subst, ◌∙◌, arith, Option, Some, None, List, [], ◌∷◌, ◌++◌, ◌&&◌, ◌||◌, ◌==◌, not, length}
use Rattle.std.proofs.lemmas.Bool.Decides.{nat_tests}
use Rattle.tp_records.specs.declared.dialogue.DialogueRecord.{DialogueRecord}
use Rattle.tp_records.specs.declared.indication.Indication.{Indication}
use Rattle.tp_model.specs.declared.arc.Phase.{Phase}
use Rattle.tp_model.specs.declared.transaction.TxEvent.{TxEvent}
use Rattle.tp_model.specs.declared.transaction.TxOut.{TxOut}
use Rattle.tp_model.specs.Parts.{Who, Event, Out, Link, Dialogue, Arc, Key, Root, Under, Branch, Current, Digest}
use Rattle.tp_model.specs.Links.{greatest, is_live, is_idle}
use Rattle.tp_model.specs.Dialogues.{is_nil, is_active, is_rolling, is_end_deferred}
use Rattle.tp_model.specs.Arcs.{find_arc, link_of, link_with, is_live_with_peer, without_arc, carried, performed, with_dialogues}
use Rattle.tp_model.specs.Transactions.{Row, Transaction, Turn, turn, before, is_under_at, find_row, put_row, row_holds, with_row, with_arc_lost, is_waited_for, all_rolled_back, carry_up, carry_down, begin_rolling, complete_rollback, roll, transacted, refused_tx}
unfoldable use Rattle.tp_model.specs.Transactions.{lost_arc}
use Rattle.tp_model.specs.Recovery.{kept_after}
use Rattle.tp_model.specs.Node.{Move, Passage, Stays, move, perform, passage, passed, seen, seen_row, seen_rows, is_up_live, is_up_ending, remaining, started_next, transact, turned, entered, played}
use Rattle.tp_model.specs.Arrivals.{lose}
use Rattle.tp_model.specs.Events.{refusal, refused_plainly, needs_numbers, action, is_no_node}
use Rattle.tp_steps.specs.Moves.{IsPut, IsLate}
use Rattle.tp_steps.specs.Undone.{may_roll_back}
use Rattle.tp_steps.proofs.lemmas.Options.{some_same}
use Rattle.tp_steps.proofs.links.Links.{link_without}
use Rattle.tp_finishing.specs.Doubt.{HaveNumbers}
use Rattle.tp_finishing.specs.Waiting.{WaitsFor, Waits}
use Rattle.tp_finishing.specs.Cuts.{MayBeCut, cuts_at}
use Rattle.tp_finishing.proofs.Waiting.{awaited_blocks}
use Rattle.tp_finishing.proofs.Hearing.{are_words, Words, joined, nothing, told, down_words, up_words, within_turn, fewer}
use Rattle.tp_finishing.proofs.Retries.{remains, same_phase}
use Rattle.tp_finishing.proofs.Still.{left_by, Turned, quiet_turn, enough}
use Rattle.tp_finishing.proofs.Ending.{all_gone}
use Rattle.tp_finishing.proofs.Taking.{taken_by}

-- ---- a transaction that sees no association with the peer has nothing to lose there

dead_row : (arcs : List Arc) (b : Branch) (p : ℕ) → find_arc arcs p ≡ None → b.peer.node ≡ p → ◌≡◌ {A = Row} (record (seen_row arcs b) { live = false; ends = false }) (seen_row arcs b)
dead_row arcs b p none at = sym (ap row (ap (find_arc arcs) at ∙ none))
  where
    row : Option Arc → Row
    row o = record { branch = b; live = is_live (link_of o) && not (b.ended || b.left); ends = elim o as (λ _. Bool) [ None ↦ false | Some a ↦ is_end_deferred a.dialogue.deferral ] }

put_same : (rows : List Row) (r : Row) → find_row rows r.branch.peer.node ≡ Some r → put_row rows r ≡ rows
put_same [] r h = refl
put_same (x ∷ rows) r h = go (x.branch.peer.node == r.branch.peer.node) h (put_same rows r)
  where
    go : (b : Bool) → (if b then Some x else find_row rows r.branch.peer.node) ≡ Some r → (find_row rows r.branch.peer.node ≡ Some r → put_row rows r ≡ rows) → (if b then r ∷ rows else x ∷ put_row rows r) ≡ x ∷ rows
    go true k rest = ap (λ (z : Row). z ∷ rows) (sym (some_same x r k))
    go false k rest = ap (λ (l : List Row). x ∷ l) (rest k)

row_seen : (arcs : List Arc) (bs : List Branch) (p : ℕ) (r : Row) → find_row (seen_rows arcs bs) p ≡ Some r → (r ≡ seen_row arcs r.branch) × (r.branch.peer.node ≡ p)
row_seen arcs [] p r h = absurd (cc (h))
row_seen arcs (b ∷ bs) p r h = go (b.peer.node == p) refl h (row_seen arcs bs p r)
  where
    go : (v : Bool) → (b.peer.node == p) ≡ v → (if v then Some (seen_row arcs b) else find_row (seen_rows arcs bs) p) ≡ Some r → (find_row (seen_rows arcs bs) p ≡ Some r → (r ≡ seen_row arcs r.branch) × (r.branch.peer.node ≡ p)) → (r ≡ seen_row arcs r.branch) × (r.branch.peer.node ≡ p)
    go true i k rest = let same : seen_row arcs b ≡ r = some_same (seen_row arcs b) r k in subst (λ (z : Row). (z ≡ seen_row arcs z.branch) × (z.branch.peer.node ≡ p)) same (refl, grind (arith, nat_tests, i))
    go false i k rest = rest k

up_none : (arcs : List Arc) (k : Key) (p : ℕ) → find_arc arcs p ≡ None → is_under_at k p ≡ true → (is_up_live arcs k ≡ false) × (is_up_ending arcs k ≡ false)
up_none arcs (Root t) p none h = absurd (cc (h))
up_none arcs (Under t b a) p none h =
    let at : a.node ≡ p = grind (arith, nat_tests, h) in
    let gone : find_arc arcs a.node ≡ None = ap (find_arc arcs) at ∙ none in
    (ap (λ (o : Option Arc). is_live (link_of o)) gone, ap (λ (o : Option Arc). elim o as (λ _. Bool) [ None ↦ false | Some x ↦ is_end_deferred x.dialogue.deferral ]) gone)

nothing_lost : (who : Who) (arcs : List Arc) (c : Current) (p : ℕ) → find_arc arcs p ≡ None → with_arc_lost (seen who arcs c) p ≡ seen who arcs c
nothing_lost who arcs c p none = go (is_under_at c.key p) refl
  where
    t : Transaction
    t = seen who arcs c

    dead : Row → Row
    dead r = record r { live = false; ends = false }

    below : (o : Option Row) → find_row t.rows p ≡ o → elim o as (λ _. Transaction) [ None ↦ t | Some r ↦ record t { rows = put_row t.rows (dead r) } ] ≡ t
    below None i = refl
    below (Some r) i =
        let k = row_seen arcs c.branches p r i in
        let same : dead r ≡ r = ap dead k.0 ∙ dead_row arcs r.branch p none k.1 ∙ sym k.0 in
        let rows : put_row t.rows (dead r) ≡ t.rows = ap (put_row t.rows) same ∙ put_same t.rows r (ap (find_row t.rows) k.1 ∙ i) in
        ap (λ (l : List Row). let z : Transaction = record t { rows = l } in z) rows

    go : (b : Bool) → is_under_at c.key p ≡ b → (if b then record t { up = false; up_ends = false } else with_row t p dead) ≡ t
    go false i = below (find_row t.rows p) refl
    go true i =
        let k = up_none arcs c.key p none i in
        ap (λ (v : Bool). let z : Transaction = record t { up = v; up_ends = false } in z) (sym k.0) ∙ ap (λ (v : Bool). let z : Transaction = record t { up_ends = v } in z) (sym k.1)

-- ---- what the loss does

data Loses (t : Transaction) (p : ℕ) : Type 0 where
  Rolls_now : is_active t.phase ≡ true → lost_arc p t ≡ roll false t → Loses t p
  Completes_now : is_rolling t.phase ≡ true → lost_arc p t ≡ complete_rollback t → Loses t p
  Stays_so : is_rolling t.phase ≡ false → lost_arc p t ≡ turn [] t → Loses t p

loses : (t : Transaction) (p : ℕ) → with_arc_lost t p ≡ t → Loses t p
unfolding lost_arc
loses t p same = go (is_active t.phase) refl (is_under_at t.key p || row_holds t.rows p is_waited_for) refl (is_rolling t.phase) refl
  where
    by : (a b c : Bool) → Transaction → Turn
    by a b c u = if a && b then roll false u else if c then complete_rollback u else turn [] u

    made : (a b c : Bool) → is_active t.phase ≡ a → (is_under_at t.key p || row_holds t.rows p is_waited_for) ≡ b → is_rolling t.phase ≡ c → lost_arc p t ≡ by a b c t
    made a b c i j k = ap (by (is_active t.phase) (is_under_at t.key p || row_holds t.rows p is_waited_for) (is_rolling t.phase)) same ∙ rw (i, j, k) refl

    go : (a : Bool) → is_active t.phase ≡ a → (b : Bool) → (is_under_at t.key p || row_holds t.rows p is_waited_for) ≡ b → (c : Bool) → is_rolling t.phase ≡ c → Loses t p
    go true i true j c k = Rolls_now i (made true true c i j k)
    go true i false j true k = Completes_now k (made true false true i j k)
    go true i false j false k = Stays_so k (made true false false i j k)
    go false i b j true k = Completes_now k (made false b true i j k)
    go false i b j false k = Stays_so k (made false b false i j k)

-- a rollback that may not be complete stays as it is
waits_still : (t : Transaction) → is_rolling t.phase ≡ true → may_roll_back t ≡ false → complete_rollback t ≡ turn [] t
unfolding complete_rollback
waits_still t h i = go (not t.owes && all_rolled_back t.rows && (t.superior_rolled || not t.up)) refl
  where
    go : (b : Bool) → (not t.owes && all_rolled_back t.rows && (t.superior_rolled || not t.up)) ≡ b → complete_rollback t ≡ turn [] t
    go false j = rw (j, complete_rollback) refl
    go true j = absurd (let on : may_roll_back t ≡ true = rw (h, j) refl in cc (on, i))

-- ---- at the node

-- what a turn makes of it
turned_by : Who → Digest → Current → Turn → Move
turned_by who d c a =
    let t : Transaction = seen who d.arcs c in
    let w : Passage = passage false c.phase a.next.phase in
    let p = played d t w a (entered t w d.arcs) in
    started_next who w (record { rec = a.rec; outs = p.1; next = record d { arcs = p.0; current = remaining a.next; kept = kept_after a.rec d.kept } })

lost_turn : (who : Who) (d : Digest) (c : Current) (p : ℕ) → d.current ≡ Some c → transact who (TxEvent.Lost p) d ≡ turned_by who d c (transacted (TxEvent.Lost p) (seen who d.arcs c))
unfolding transact turned_by
lost_turn who d c p at = ap (λ (o : Option Current). elim o as (λ _. Move) [ None ↦ move [] d | Some v ↦ started_next who (passed who (TxEvent.Lost p) d v) (turned who (TxEvent.Lost p) d v) ]) at

told_lost : ℕ → Turn → Turn
told_lost p a = before (TxOut.Tell (Indication.PAbort p) ∷ []) a

-- it stays as it was
stays_turn : (who : Who) (d : Digest) (c : Current) (p : ℕ) → d.current ≡ Some c → is_nil c.phase ≡ false → turned_by who d c (told_lost p (turn [] (seen who d.arcs c))) ≡ record { rec = None; outs = Out.Tell (Indication.PAbort p) ∷ []; next = d }
unfolding turned_by told_lost played entered
stays_turn who d c p at late = stays (passage false c.phase c.phase) (same_phase false c.phase)
  where
    t : Transaction
    t = seen who d.arcs c

    made : (o : Option Current) → o ≡ d.current → ◌≡◌ {A = Digest} (record d { current = o }) d
    made o i = rw i refl

    stays : (w : Passage) → w ≡ Stays
        → started_next who w (let q = played d t w (told_lost p (turn [] t)) (entered t w d.arcs) in record { rec = None; outs = q.1; next = record d { arcs = q.0; current = remaining t; kept = d.kept } })
        ≡ record { rec = None; outs = Out.Tell (Indication.PAbort p) ∷ []; next = d }
    stays w i = rw i (ap (λ (x : Digest). let m : Move = record { rec = None; outs = Out.Tell (Indication.PAbort p) ∷ []; next = x } in m) (made (remaining t) (remains who d.arcs c late ∙ sym at)))

-- it rolls back, and its user owes that it has finished
pub record Falls (d : Digest) (m : Move) : Type 0 where
  pub numbers : needs_numbers m ≡ false
  pub current : Current
  pub at : m.next.current ≡ Some current
  pub rolling : current.phase ≡ Phase.Rolling
  pub owes : current.owes ≡ true
  pub arcs : length m.next.arcs ≡ length d.arcs

words_length : (arcs : List Arc) (outs : List TxOut) → are_words outs ≡ true → length (performed arcs outs).0 ≡ length arcs
words_length arcs [] h = refl
words_length arcs (TxOut.Tell i ∷ outs) h = words_length arcs outs h
words_length arcs (TxOut.Carry p r ∷ outs) h = words_length (carried arcs p r).0 outs (grind (arith, h)) ∙ one arcs
  where
    one : (xs : List Arc) → length (carried xs p r).0 ≡ length xs
    one [] = refl
    one (a ∷ xs) = go (a.peer.node == p) refl (one xs)
      where
        go : (b : Bool) → (a.peer.node == p) ≡ b → length (carried xs p r).0 ≡ length xs → length (carried (a ∷ xs) p r).0 ≡ suc (length xs)
        go true j rest = rw (j, carried) refl
        go false j rest = rw (j, carried) (ap suc rest)
words_length arcs (o ∷ outs) h = absurd (grind (arith, h))

chosen_length : (arcs : List Arc) (t : Arc → Bool) (f : Arc → Dialogue) → length (with_dialogues arcs t f) ≡ length arcs
chosen_length [] t f = refl
chosen_length (a ∷ arcs) t f = ap suc (chosen_length arcs t f)

abbrev active : Current → Current
active c = record c { phase = Phase.Active }

falls_turn : (who : Who) (d : Digest) (c : Current) (p : ℕ) → d.drawn ≤ greatest → HaveNumbers (suc (length c.branches)) d.arcs → Falls d (turned_by who d (active c) (told_lost p (roll false (seen who d.arcs (active c)))))
unfolding turned_by told_lost played entered begin_rolling complete_rollback
falls_turn who d c p h n = record {
  numbers = within_turn d.drawn (0 + (0 + (1 + length c.branches) + 0)) d.arcs _ _ outs h words (fewer (0 + (0 + (1 + length c.branches) + 0)) (suc (length c.branches)) d.arcs (omega arith) n);
  current = _;
  at = refl;
  rolling = refl;
  owes = refl;
  arcs = words_length (with_dialogues d.arcs _ _) outs words.0 ∙ chosen_length d.arcs _ _;
}
  where
    t : Transaction
    t = seen who d.arcs (active c)

    said : List TxOut
    said = carry_up t DialogueRecord.Rollback ++ carry_down (seen_rows d.arcs c.branches) DialogueRecord.Rollback

    outs : List TxOut
    outs = (TxOut.Tell (Indication.PAbort p) ∷ []) ++ (((TxOut.Tell Indication.Rollback ∷ []) ++ said) ++ [])

    words : Words (0 + (0 + (1 + length c.branches) + 0)) outs
    words =
        joined 0 (0 + (1 + length c.branches) + 0) (TxOut.Tell (Indication.PAbort p) ∷ []) (((TxOut.Tell Indication.Rollback ∷ []) ++ said) ++ []) (told (Indication.PAbort p))
        (joined (0 + (1 + length c.branches)) 0 ((TxOut.Tell Indication.Rollback ∷ []) ++ said) []
        (joined 0 (1 + length c.branches) (TxOut.Tell Indication.Rollback ∷ []) said (told Indication.Rollback)
        (joined 1 (length c.branches) (carry_up t DialogueRecord.Rollback) (carry_down (seen_rows d.arcs c.branches) DialogueRecord.Rollback) (up_words t DialogueRecord.Rollback) (down_words d.arcs c.branches DialogueRecord.Rollback)))
        nothing)

-- ---- a node without associations

up_dead : (k : Key) → is_up_live [] k ≡ false
up_dead (Root t) = refl
up_dead (Under t b a) = refl

-- a rollback is complete there once its user has finished
pub gone_alone : (who : Who) (c : Current) → c.owes ≡ false → (complete_rollback (seen who [] c)).next.phase ≡ Phase.Nil
unfolding complete_rollback
gone_alone who c owes = go (not c.owes && all_rolled_back (seen_rows [] c.branches) && (c.superior_rolled || not (is_up_live [] c.key))) refl
  where
    either : (b : Bool) → (b || true) ≡ true
    either b = grind arith

    on : (not c.owes && all_rolled_back (seen_rows [] c.branches) && (c.superior_rolled || not (is_up_live [] c.key))) ≡ true
    on = rw (owes, all_gone c.branches, up_dead c.key) (either c.superior_rolled)

    go : (b : Bool) → (not c.owes && all_rolled_back (seen_rows [] c.branches) && (c.superior_rolled || not (is_up_live [] c.key))) ≡ b → (complete_rollback (seen who [] c)).next.phase ≡ Phase.Nil
    go true i = rw (i, complete_rollback) refl
    go false i = absurd (cc (i, on))

refused_none : (t : Transaction) (p : ℕ) → refused_tx (TxEvent.Lost p) t ≡ None
unfolding refused_tx
refused_none t p = refl

pub nil_remains : (t : Transaction) → t.phase ≡ Phase.Nil → remaining t ≡ None
nil_remains t h = rw (h, remaining) refl

-- ---- which association may be lost: one whose loss leaves a rollback waiting, or the last one

-- an association with another peer, where not all are with this one
record Another (arcs : List Arc) (q : ℕ) : Type 0 where
  peer : ℕ
  arc : Arc
  found : find_arc arcs peer ≡ Some arc
  other : (peer == q) ≡ false

another : (arcs : List Arc) (q : ℕ) → (without_arc arcs q ≡ []) ⊎ Another arcs q
another [] q = inl refl
another (a ∷ arcs) q = go (a.peer.node == q) refl (another arcs q)
  where
    self : (a.peer.node == a.peer.node) ≡ true
    self = grind (arith, nat_tests)

    apart : (m n k : ℕ) → (m == n) ≡ true → (k == n) ≡ false → (m == k) ≡ false
    apart m n k i j = grind (arith, nat_tests, i, j)

    go : (b : Bool) → (a.peer.node == q) ≡ b → (without_arc arcs q ≡ []) ⊎ Another arcs q → ((if b then without_arc arcs q else a ∷ without_arc arcs q) ≡ []) ⊎ Another (a ∷ arcs) q
    go true i (inl none) = inl none
    go true i (inr k) = inr (record { peer = k.peer; arc = k.arc; found = rw (apart a.peer.node q k.peer i k.other, find_arc) k.found; other = k.other })
    go false i rest = inr (record { peer = a.peer.node; arc = a; found = rw (self, find_arc) refl; other = i })

-- a peer whose association may be lost
pub record Losable (who : Who) (arcs : List Arc) (c : Current) : Type 0 where
  pub peer : ℕ
  pub arc : Arc
  pub found : find_arc arcs peer ≡ Some arc
  pub so : (without_arc arcs peer ≡ []) ⊎ (may_roll_back (seen who (without_arc arcs peer) c) ≡ false)

live_found : (arcs : List Arc) (q : ℕ) → is_live_with_peer arcs q ≡ true → (a : Arc) × (find_arc arcs q ≡ Some a)
live_found arcs q h = go (find_arc arcs q) refl
  where
    go : (o : Option Arc) → find_arc arcs q ≡ o → (a : Arc) × (find_arc arcs q ≡ Some a)
    go None i = absurd (let off : is_live_with_peer arcs q ≡ false = ap (λ (v : Option Arc). is_live (link_of v)) i in cc (off, h))
    go (Some a) i = (a, i)

pub losable : (who : Who) (a : Arc) (arcs : List Arc) (c : Current) → (is_rolling c.phase ≡ true → c.owes ≡ false → WaitsFor (a ∷ arcs) c) → Losable who (a ∷ arcs) c
losable who a arcs c waits = go (is_rolling c.phase) refl c.owes refl
  where
    self : (a.peer.node == a.peer.node) ≡ true
    self = grind (arith, nat_tests)

    first : ((xs : List Arc) → may_roll_back (seen who xs c) ≡ false) → Losable who (a ∷ arcs) c
    first off = record { peer = a.peer.node; arc = a; found = rw (self, find_arc) refl; so = inr (off (without_arc (a ∷ arcs) a.peer.node)) }

    unless : (p o r s : Bool) → (p && not o) ≡ false → (p && not o && r && s) ≡ false
    unless p o r s i = grind (arith, i)

    on : WaitsFor (a ∷ arcs) c → Losable who (a ∷ arcs) c
    on k = by (another (a ∷ arcs) k.peer)
      where
        by : (without_arc (a ∷ arcs) k.peer ≡ []) ⊎ Another (a ∷ arcs) k.peer → Losable who (a ∷ arcs) c
        by (inl none) = let x = live_found (a ∷ arcs) k.peer k.linked in record { peer = k.peer; arc = x.0; found = x.1; so = inl none }
        by (inr z) = record {
          peer = z.peer;
          arc = z.arc;
          found = z.found;
          so = inr (awaited_blocks who (without_arc (a ∷ arcs) z.peer) c k.peer (ap is_live (link_without (a ∷ arcs) z.peer k.peer) ∙ ap (λ (b : Bool). is_live (if b then Link.Idle else link_with (a ∷ arcs) k.peer)) z.other ∙ k.linked) k.awaited);
        }

    go : (b : Bool) → is_rolling c.phase ≡ b → (o : Bool) → c.owes ≡ o → Losable who (a ∷ arcs) c
    go true i false j = on (waits i j)
    go true i true j = first (λ xs. unless (is_rolling c.phase) c.owes (all_rolled_back (seen_rows xs c.branches)) (c.superior_rolled || not (is_up_live xs c.key)) (rw (i, j) refl))
    go false i o j = first (λ xs. unless (is_rolling c.phase) c.owes (all_rolled_back (seen_rows xs c.branches)) (c.superior_rolled || not (is_up_live xs c.key)) (rw i refl))

-- ---- the cut

pub record Cut (who : Who) (d : Digest) (e : Event) : Type 0 where
  pub ok : refusal who d e ≡ None
  pub may : MayBeCut (action who d e).next
  pub less : suc (cuts_at (action who d e).next) ≤ cuts_at d

-- what an event leaves that is cut
record Leaves (who : Who) (d : Digest) (m : Move) : Type 0 where
  numbers : needs_numbers m ≡ false
  may : MayBeCut m.next
  less : suc (cuts_at m.next) ≤ cuts_at d

cut_by : (who : Who) (d : Digest) (e : Event) (m : Move) → action who d e ≡ m → refused_plainly who d e ≡ None → Leaves who d m → Cut who d e
cut_by who d e m same plain k = record {
  ok = (taken_by who d e m.next plain (ap needs_numbers same ∙ k.numbers) (ap (λ (x : Move). x.next) same)).ok;
  may = subst (λ (x : Move). MayBeCut x.next) (sym same) k.may;
  less = subst (λ (x : Move). suc (cuts_at x.next) ≤ cuts_at d) (sym same) k.less;
}

pub none_cut : (d : Digest) → d.current ≡ None → MayBeCut d
none_cut d none c i act = absurd (let off : None ≡ Some c = sym none ∙ i in cc (off))

fewer_arcs : (arcs : List Arc) (p : ℕ) (x : Arc) → find_arc arcs p ≡ Some x → suc (length (without_arc arcs p)) ≤ length arcs
fewer_arcs [] p x h = absurd (cc (h))
fewer_arcs (a ∷ arcs) p x h = go (a.peer.node == p) h (λ i. fewer_arcs arcs p x i)
  where
    few : (xs : List Arc) → length (without_arc xs p) ≤ length xs
    few [] = omega arith
    few (y ∷ xs) = by (y.peer.node == p) (few xs)
      where
        by : (b : Bool) → length (without_arc xs p) ≤ length xs → length (if b then without_arc xs p else y ∷ without_arc xs p) ≤ suc (length xs)
        by true r = omega (arith, r)
        by false r = omega (arith, r)

    go : (b : Bool) → (if b then Some a else find_arc arcs p) ≡ Some x → (find_arc arcs p ≡ Some x → suc (length (without_arc arcs p)) ≤ length arcs) → suc (length (if b then without_arc arcs p else a ∷ without_arc arcs p)) ≤ suc (length arcs)
    go true i rest = let k = few arcs in omega (arith, k)
    go false i rest = let k = rest i in omega (arith, k)

numbers_without : (n p : ℕ) (arcs : List Arc) → HaveNumbers n arcs → HaveNumbers n (without_arc arcs p)
numbers_without n p [] h = tt
numbers_without n p (a ∷ arcs) h = go (a.peer.node == p) (numbers_without n p arcs h.1)
  where
    go : (b : Bool) → HaveNumbers n (without_arc arcs p) → HaveNumbers n (if b then without_arc arcs p else a ∷ without_arc arcs p)
    go true rest = rest
    go false rest = (h.0, rest)

lose_plain : (who : Who) (d : Digest) (p : ℕ) (x : Arc) → find_arc d.arcs p ≡ Some x → is_idle x.link ≡ false → is_no_node d ≡ false → refused_plainly who d (Event.Lose p) ≡ None
lose_plain who d p x found idle node = let link : is_idle (link_with d.arcs p) ≡ false = ap (λ (o : Option Arc). is_idle (link_of o)) found ∙ idle in rw (node, link, refused_plainly) refl

without : Digest → ℕ → Digest
without d p = record d { arcs = without_arc d.arcs p }

-- nothing is current
lose_idle : (who : Who) (d : Digest) (p : ℕ) (x : Arc) → find_arc d.arcs p ≡ Some x → d.drawn ≤ greatest → d.current ≡ None → Leaves who d (perform (TxOut.Tell (Indication.PAbort p) ∷ []) (without d p))
unfolding without
lose_idle who d p x found h none = record {
  numbers = enough d.drawn false h refl;
  may = none_cut (record d { arcs = without_arc d.arcs p }) none;
  less = let k = fewer_arcs d.arcs p x found in omega (arith, k);
}

-- something is
lose_held : (who : Who) (d : Digest) (c : Current) (p : ℕ) (x : Arc) → find_arc d.arcs p ≡ Some x → d.drawn ≤ greatest → d.current ≡ Some c → is_nil c.phase ≡ false → MayBeCut d
    → (without_arc d.arcs p ≡ []) ⊎ (may_roll_back (seen who (without_arc d.arcs p) c) ≡ false) → Leaves who d (transact who (TxEvent.Lost p) (without d p))
unfolding without told_lost
lose_held who d c p x found h at late may so = subst (Leaves who d) (sym (lost_turn who g c p at)) (go (loses t p same))
  where
    g : Digest
    g = record d { arcs = without_arc d.arcs p }

    t : Transaction
    t = seen who g.arcs c

    none : find_arc g.arcs p ≡ None
    none = gone d.arcs
      where
        gone : (arcs : List Arc) → find_arc (without_arc arcs p) p ≡ None
        gone [] = refl
        gone (a ∷ arcs) = by (a.peer.node == p) refl (gone arcs)
          where
            by : (b : Bool) → (a.peer.node == p) ≡ b → find_arc (without_arc arcs p) p ≡ None → find_arc (if b then without_arc arcs p else a ∷ without_arc arcs p) p ≡ None
            by true i rest = rest
            by false i rest = rw (i, find_arc) rest

    same : with_arc_lost t p ≡ t
    same = nothing_lost who g.arcs c p none

    few : suc (length g.arcs) ≤ length d.arcs
    few = fewer_arcs d.arcs p x found

    made : (a : Turn) → lost_arc p t ≡ a → Leaves who d (turned_by who g c (told_lost p a)) → Leaves who d (turned_by who g c (transacted (TxEvent.Lost p) t))
    made a i k = subst (λ (v : Turn). Leaves who d (turned_by who g c (told_lost p v))) (sym i) k

    flag : Option Current → ℕ
    flag o = if is_active (elim o as (λ _. Phase) [ None ↦ Phase.Nil | Some u ↦ u.phase ]) || is_rolling (elim o as (λ _. Phase) [ None ↦ Phase.Nil | Some u ↦ u.phase ]) then 1 else 0

    -- as it was, without that association
    stays : Leaves who d (turned_by who g c (told_lost p (turn [] t)))
    stays = subst (Leaves who d) (sym (stays_turn who g c p at late)) (record {
      numbers = enough d.drawn false h refl;
      may = λ u i act. numbers_without (suc (length u.branches)) p d.arcs (may u i act);
      less = lower (length g.arcs) (length d.arcs) (flag d.current) few;
    })
      where
        lower : (m n f : ℕ) → suc m ≤ n → suc (m + f) ≤ n + f
        lower m n f i = omega (arith, i)

    -- it rolls back
    falls : is_active c.phase ≡ true → Leaves who d (turned_by who g c (told_lost p (roll false t)))
    falls act = subst (λ (v : Current). Leaves who d (turned_by who g v (told_lost p (roll false (seen who g.arcs v))))) (sym is) (made_so fallen)
      where
        phase_is : (v : Phase) → is_active v ≡ true → v ≡ Phase.Active
        phase_is Phase.Active i = refl
        phase_is v i = absurd (grind (arith, i))

        is : c ≡ active c
        is = ap (λ (v : Phase). let u : Current = record c { phase = v } in u) (phase_is c.phase act)

        fallen : Falls g (turned_by who g (active c) (told_lost p (roll false (seen who g.arcs (active c)))))
        fallen = falls_turn who g c p h (numbers_without (suc (length c.branches)) p d.arcs (may c at act))

        before_it : cuts_at d ≡ length d.arcs + 1
        before_it = ap (λ (o : Option Current). length d.arcs + flag o) (at ∙ ap (λ (u : Current). Some u) is)

        made_so : {m : Move} → Falls g m → Leaves who d m
        made_so {m} f = record {
          numbers = f.numbers;
          may = λ u i act. absurd (let one : u ≡ f.current = some_same u f.current (sym i ∙ f.at) in let roll : u.phase ≡ Phase.Rolling = ap (λ (v : Current). v.phase) one ∙ f.rolling in let off : is_active u.phase ≡ false = ap is_active roll in cc (act, off));
          less = lower (cuts_at m.next) (cuts_at d) (length m.next.arcs) (length g.arcs) (length d.arcs) (flag m.next.current) (flag_less m.next.current) f.arcs few before_it;
        }
          where
            flag_less : (o : Option Current) → flag o ≤ 1
            flag_less o = less (is_active (elim o as (λ _. Phase) [ None ↦ Phase.Nil | Some u ↦ u.phase ]) || is_rolling (elim o as (λ _. Phase) [ None ↦ Phase.Nil | Some u ↦ u.phase ]))
              where
                less : (b : Bool) → (if b then 1 else 0) ≤ 1
                less true = omega arith
                less false = omega arith

            lower : (v w m n k f : ℕ) → f ≤ 1 → m ≡ n → suc n ≤ k → w ≡ k + 1 → suc (m + f) ≤ w
            lower v w m n k f i j l z = omega (arith, i, j, l, z)

    -- it was the last one, and the rollback is complete
    ends : is_rolling c.phase ≡ true → may_roll_back t ≡ true → g.arcs ≡ [] → lost_arc p t ≡ complete_rollback t → Leaves who d (turned_by who g c (transacted (TxEvent.Lost p) t))
    ends phase on alone lost = subst (Leaves who d) (lost_turn who g c p at) (record {
      numbers = k.numbers h;
      may = subst MayBeCut (sym k.next) (none_cut (left_by who (TxEvent.Lost p) g c) over);
      less = subst (λ (z : Digest). suc (cuts_at z) ≤ cuts_at d) (sym k.next) (lower (length d.arcs) (flag d.current) (flag (left_by who (TxEvent.Lost p) g c).current) few (ap flag over));
    })
      where
        put : IsPut (TxEvent.Lost p) (seen who [] c)
        put = record { late = late; ok = λ i. lost_ok; abort = λ q i. absurd (cc (i)); ordered = λ i. absurd (cc (i)); not_begun = λ arcs i. cc (i) }
          where
            lost_ok : refused_tx (TxEvent.Lost p) (seen who [] c) ≡ None
            lost_ok = refused_none (seen who [] c) p

        k : Turned who (TxEvent.Lost p) g c
        k = quiet_turn who (TxEvent.Lost p) g c alone at put

        unowed : (p o r s : Bool) → (p && not o && r && s) ≡ true → o ≡ false
        unowed p o r s i = grind (arith, i)

        owes : c.owes ≡ false
        owes = unowed (is_rolling c.phase) c.owes (all_rolled_back t.rows) (c.superior_rolled || not (is_up_live g.arcs c.key)) on

        lost_alone : lost_arc p (seen who [] c) ≡ complete_rollback (seen who [] c)
        lost_alone = subst (λ (arcs : List Arc). lost_arc p (seen who arcs c) ≡ complete_rollback (seen who arcs c)) alone lost

        over : (left_by who (TxEvent.Lost p) g c).current ≡ None
        over = ap (λ (a : Turn). remaining a.next) lost_alone ∙ nil_remains (complete_rollback (seen who [] c)).next (gone_alone who c owes)

        lower : (n f v : ℕ) → suc (length g.arcs) ≤ n → v ≡ 0 → suc (0 + v) ≤ n + f
        lower n f v i j = omega (arith, i, j)

    go : Loses t p → Leaves who d (turned_by who g c (transacted (TxEvent.Lost p) t))
    go (Rolls_now act i) = made (roll false t) i (falls act)
    go (Stays_so off i) = made (turn [] t) i stays
    go (Completes_now phase i) = by (may_roll_back t) refl so
      where
        by : (b : Bool) → may_roll_back t ≡ b → (g.arcs ≡ []) ⊎ (may_roll_back t ≡ false) → Leaves who d (turned_by who g c (transacted (TxEvent.Lost p) t))
        by false j either = made (turn [] t) (i ∙ waits_still t phase j) stays
        by true j (inl alone) = ends phase j alone i
        by true j (inr off) = absurd (cc (j, off))

lose_none : (who : Who) (d : Digest) (p : ℕ) → d.current ≡ None → lose who p d ≡ perform (TxOut.Tell (Indication.PAbort p) ∷ []) (without d p)
unfolding lose without
lose_none who d p at = ap (λ (o : Option Current). elim o as (λ _. Move) [ None ↦ perform (TxOut.Tell (Indication.PAbort p) ∷ []) (record d { arcs = without_arc d.arcs p }) | Some c ↦ transact who (TxEvent.Lost p) (record d { arcs = without_arc d.arcs p }) ]) at

lose_some : (who : Who) (d : Digest) (c : Current) (p : ℕ) → d.current ≡ Some c → lose who p d ≡ transact who (TxEvent.Lost p) (without d p)
unfolding lose without
lose_some who d c p at = ap (λ (o : Option Current). elim o as (λ _. Move) [ None ↦ perform (TxOut.Tell (Indication.PAbort p) ∷ []) (record d { arcs = without_arc d.arcs p }) | Some c ↦ transact who (TxEvent.Lost p) (record d { arcs = without_arc d.arcs p }) ]) at

-- a node that has an association may lose one
pub loses_one : (who : Who) (d : Digest) (a : Arc) (arcs : List Arc) → d.arcs ≡ a ∷ arcs → ((p : ℕ) (x : Arc) → find_arc d.arcs p ≡ Some x → is_idle x.link ≡ false) → is_no_node d ≡ false → d.drawn ≤ greatest → IsLate d → Waits d → MayBeCut d
    → (p : ℕ) × Cut who d (Event.Lose p)
loses_one who d a arcs are linked node h late waits may = go d.current refl
  where
    self : (a.peer.node == a.peer.node) ≡ true
    self = grind (arith, nat_tests)

    top : find_arc d.arcs a.peer.node ≡ Some a
    top = ap (λ (l : List Arc). find_arc l a.peer.node) are ∙ rw (self, find_arc) refl

    go : (o : Option Current) → d.current ≡ o → (p : ℕ) × Cut who d (Event.Lose p)
    go None i = (a.peer.node, cut_by who d (Event.Lose a.peer.node) _ (lose_none who d a.peer.node i) (lose_plain who d a.peer.node a top (linked a.peer.node a top) node) (lose_idle who d a.peer.node a top h i))
    go (Some c) i = (k.peer, cut_by who d (Event.Lose k.peer) _ (lose_some who d c k.peer i) (lose_plain who d k.peer k.arc k.found (linked k.peer k.arc k.found) node) (lose_held who d c k.peer k.arc k.found h i (late c i) may k.so))
      where
        k : Losable who d.arcs c
        k = subst (λ (l : List Arc). Losable who l c) (sym are) (losable who a arcs c (λ rolls owes. subst (λ (l : List Arc). WaitsFor l c) are (waits c i rolls owes)))
