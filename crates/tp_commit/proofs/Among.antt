-- A transaction stays in order among its arcs: its branches have the peers that they had, and its arcs look as they did.
use Rattle.std.proofs.Common.{◌≡◌, ℕ, Bool, true, false, refl, ap, sym, subst, ◌∙◌, arith, List, [], ◌∷◌, ◌++◌, ◌&&◌, ◌||◌, ◌==◌, not, if◌then◌else◌}
use Rattle.std.proofs.lemmas.Bool.Decides.{nat_tests}
use Rattle.tp_names.specs.declared.children.Child.{Child}
use Rattle.tp_model.specs.declared.arc.Phase.{Phase}
use Rattle.tp_model.specs.Parts.{Who, Arc, Branch, Current}
use Rattle.tp_model.specs.Dialogues.{is_nil, is_active, is_rolling}
use Rattle.tp_model.specs.Arcs.{is_live_with_peer}
use Rattle.tp_model.specs.Transactions.{Row, Transaction, is_under_at, fresh_rows}
use Rattle.tp_model.specs.Requests.{has_branch_at}
use Rattle.tp_model.specs.Node.{is_end_deferred_at, seen_rows, seen, branches_of}
use Rattle.tp_commit.specs.declared.row.Note.{Note}
use Rattle.tp_commit.specs.Row.{noted, noted_at, numbers_of}
use Rattle.tp_model.specs.AmongArcs.{are_distinct, is_peer, IsAmongArcs, IsAlike, IsCut, IsPutOff, AreNew, is_child_at}
use Rattle.tp_commit.proofs.Marks.{IsLater, IsMarked, has_row_at}
use Rattle.tp_commit.proofs.Passages.{peer_of}

-- ---- what is left of a transaction

abbrev pub left_of : Transaction → Current
left_of t = record {
  key = t.key;
  phase = t.phase;
  branches = branches_of t.rows;
  told_prepare = t.told_prepare;
  asked = t.asked;
  owes = t.owes;
  superior_rolled = t.superior_rolled;
  decision = t.decision;
  own = t.own;
}

branches_seen : (arcs : List Arc) (bs : List Branch) → branches_of (seen_rows arcs bs) ≡ bs
branches_seen arcs [] = refl
branches_seen arcs (b ∷ bs) = ap (λ (l : List Branch). b ∷ l) (branches_seen arcs bs)

pub left_seen : (who : Who) (arcs : List Arc) (c : Current) → left_of (seen who arcs c) ≡ c
left_seen who arcs c = ap (λ bs. let x : Current = record c { branches = bs } in x) (branches_seen arcs c.branches)

-- ---- the numbers of the peers

abbrev has_number : List ℕ → ℕ → Bool
has_number [] q = false
has_number (n ∷ ns) q = (n == q) || has_number ns q

abbrev all_differ : List ℕ → Bool
all_differ [] = true
all_differ (n ∷ ns) = not (has_number ns n) && all_differ ns

has_is : (rs : List Row) (q : ℕ) → has_branch_at (branches_of rs) q ≡ has_number (numbers_of rs) q
has_is [] q = refl
has_is (r ∷ rs) q = ap (λ b. (r.branch.peer.node == q) || b) (has_is rs q)

differ_is : (rs : List Row) → are_distinct (branches_of rs) ≡ all_differ (numbers_of rs)
differ_is [] = refl
differ_is (r ∷ rs) =
    ap (λ b. not b && are_distinct (branches_of rs)) (has_is rs r.branch.peer.node) ∙ ap (λ b. not (has_number (numbers_of rs) r.branch.peer.node) && b) (differ_is rs)

row_has : (rs : List Row) (q : ℕ) → has_row_at rs q ≡ has_number (numbers_of rs) q
row_has [] q = refl
row_has (r ∷ rs) q = grind (arith, nat_tests, row_has rs q)

pub marked_numbers : (rs ss : List Row) → IsMarked rs ss → numbers_of ss ≡ numbers_of rs
marked_numbers [] [] m = refl
marked_numbers [] (s ∷ ss) m = absurd m
marked_numbers (r ∷ rs) [] m = absurd m
marked_numbers (r ∷ rs) (s ∷ ss) m = ap (λ n. n ∷ numbers_of ss) m.0.peer ∙ ap (λ (ns : List ℕ). r.branch.peer.node ∷ ns) (marked_numbers rs ss m.1)

pub noted_numbers : (rs : List Row) (p : ℕ) (n : Note) → numbers_of (noted_at rs p n) ≡ numbers_of rs
noted_numbers [] p n = refl
noted_numbers (r ∷ rs) p n = go (r.branch.peer.node == p) (noted_numbers rs p n)
  where
    same : (m : Note) → (noted m r).branch.peer.node ≡ r.branch.peer.node
    same Note.Prepared = refl
    same Note.Counted = refl
    same Note.Left = refl
    same (Note.Ended v) = refl
    same Note.GivenUp = refl
    same Note.Lost = refl
    same Note.Ending = refl

    go : (b : Bool) → numbers_of (noted_at rs p n) ≡ numbers_of rs → numbers_of (if b then noted n r ∷ rs else r ∷ noted_at rs p n) ≡ numbers_of (r ∷ rs)
    go true rest = ap (λ m. m ∷ numbers_of rs) (same n)
    go false rest = ap (λ (ns : List ℕ). r.branch.peer.node ∷ ns) rest

-- ---- in order still

peer_left : (t : Transaction) (q : ℕ) → is_peer (left_of t) q ≡ peer_of t q
peer_left t q = ap (λ b. is_under_at t.key q || b) (has_is t.rows q ∙ sym (row_has t.rows q))

pub rows_among : (t u : Transaction) (arcs later : List Arc) → IsAmongArcs arcs (left_of t) → u.key ≡ t.key → numbers_of u.rows ≡ numbers_of t.rows → is_nil u.phase ≡ false
    → ((q : ℕ) → peer_of t q ≡ true → IsLater (is_rolling u.phase) q arcs later) → IsAmongArcs later (left_of u)
rows_among t u arcs later among key numbers late laters = record {
  current = late;
  distinct = differ_is u.rows ∙ ap all_differ numbers ∙ sym (differ_is t.rows) ∙ among.distinct;
  apart = λ p h. has p ∙ among.apart p (sym (ap (λ k. is_under_at k p) key) ∙ h);
  put_off = λ p h off. put p (before p h) off (is_rolling u.phase) (laters p (sym (peer_left t p) ∙ before p h));
  forgotten = λ rolls p h. none p (is_rolling u.phase) rolls (laters p (sym (peer_left t p) ∙ before p h));
}
  where
    has : (q : ℕ) → has_branch_at (branches_of u.rows) q ≡ has_branch_at (branches_of t.rows) q
    has q = has_is u.rows q ∙ ap (λ ns. has_number ns q) numbers ∙ sym (has_is t.rows q)

    before : (q : ℕ) → is_peer (left_of u) q ≡ true → is_peer (left_of t) q ≡ true
    before q h = sym (ap (λ k. is_under_at k q || has_branch_at (branches_of u.rows) q) key ∙ ap (λ b. is_under_at t.key q || b) (has q)) ∙ h

    and_left : (a b : Bool) → (a && b) ≡ true → a ≡ true
    and_left true b h = refl
    and_left false b h = h

    put : (q : ℕ) → is_peer (left_of t) q ≡ true → is_end_deferred_at later q ≡ true → (rolls : Bool) → IsLater rolls q arcs later → is_live_with_peer later q ≡ true
    put q h off rolls k = k.live ∙ among.put_off q h (and_left (is_end_deferred_at arcs q) (not rolls) (sym k.ends ∙ off))

    and_none : (a : Bool) → (a && false) ≡ false
    and_none true = refl
    and_none false = refl

    none : (q : ℕ) (rolls : Bool) → rolls ≡ true → IsLater rolls q arcs later → is_end_deferred_at later q ≡ false
    none q rolls h k = k.ends ∙ ap (λ b. is_end_deferred_at arcs q && not b) h ∙ and_none (is_end_deferred_at arcs q)

-- the same transaction, but for what is noted of its branches
pub same_among : (t u : Transaction) (arcs : List Arc) → IsAmongArcs arcs (left_of t) → u.key ≡ t.key → u.phase ≡ t.phase → numbers_of u.rows ≡ numbers_of t.rows → IsAmongArcs arcs (left_of u)
same_among t u arcs among key phase numbers = rows_among t u arcs arcs among key numbers (ap is_nil phase ∙ among.current) (λ q h. stays q (peer_left t q ∙ h) (is_rolling t.phase) refl)
  where
    stays : (q : ℕ) → is_peer (left_of t) q ≡ true → (b : Bool) → is_rolling t.phase ≡ b → IsLater (is_rolling u.phase) q arcs arcs
    stays q h b i = subst (λ v. IsLater v q arcs arcs) (sym (ap is_rolling phase ∙ i)) (by b i)
      where
        and_true : (x : Bool) → x ≡ (x && true)
        and_true true = refl
        and_true false = refl

        and_none : (x : Bool) → x ≡ false → x ≡ (x && false)
        and_none true e = absurd cc
        and_none false e = refl

        by : (v : Bool) → is_rolling t.phase ≡ v → IsLater v q arcs arcs
        by true j = record { live = refl; ends = and_none (is_end_deferred_at arcs q) (among.forgotten j q h) }
        by false j = record { live = refl; ends = and_true (is_end_deferred_at arcs q) }

-- ---- at the arcs that an event has touched

active_not_rolling : (p : Phase) → is_active p ≡ true → is_rolling p ≡ false
active_not_rolling Phase.Nil h = refl
active_not_rolling Phase.Active h = refl
active_not_rolling Phase.Ready h = refl
active_not_rolling Phase.Committing h = refl
active_not_rolling Phase.Rolling h = absurd cc

pub among_alike : (arcs later : List Arc) (c : Current) → IsAmongArcs arcs c → ((q : ℕ) → is_peer c q ≡ true → IsAlike q arcs later) → IsAmongArcs later c
among_alike arcs later c among k = record {
  current = among.current;
  distinct = among.distinct;
  apart = among.apart;
  put_off = λ p peer h. (k p peer).live ∙ among.put_off p peer (sym (k p peer).ends ∙ h);
  forgotten = λ rolls p peer. (k p peer).ends ∙ among.forgotten rolls p peer;
}

pub among_cut : (arcs later : List Arc) (c : Current) (p : ℕ) → IsAmongArcs arcs c → IsCut p arcs later → IsAmongArcs later c
among_cut arcs later c p among cut = record {
  current = among.current;
  distinct = among.distinct;
  apart = among.apart;
  put_off = λ q peer h. off q peer (q == p) refl h;
  forgotten = λ rolls q h. none rolls q h (q == p) refl;
}
  where
    off : (q : ℕ) → is_peer c q ≡ true → (b : Bool) → (q == p) ≡ b → is_end_deferred_at later q ≡ true → is_live_with_peer later q ≡ true
    off q peer true i h = let same : q ≡ p = grind (arith, nat_tests, i) in absurd (cc (h, ap (is_end_deferred_at later) same ∙ cut.ends))
    off q peer false i h = let k = cut.others q i in k.live ∙ among.put_off q peer (sym k.ends ∙ h)

    none : is_rolling c.phase ≡ true → (q : ℕ) → is_peer c q ≡ true → (b : Bool) → (q == p) ≡ b → is_end_deferred_at later q ≡ false
    none rolls q h true i = let same : q ≡ p = grind (arith, nat_tests, i) in ap (is_end_deferred_at later) same ∙ cut.ends
    none rolls q h false i = (cut.others q i).ends ∙ among.forgotten rolls q h

pub among_off : (arcs later : List Arc) (c : Current) (p : ℕ) → IsAmongArcs arcs c → is_active c.phase ≡ true → IsPutOff p arcs later → IsAmongArcs later c
among_off arcs later c p among active put = record {
  current = among.current;
  distinct = among.distinct;
  apart = among.apart;
  put_off = λ q peer h. off q peer (q == p) refl h;
  forgotten = λ rolls q h. absurd (cc (rolls, active_not_rolling c.phase active));
}
  where
    off : (q : ℕ) → is_peer c q ≡ true → (b : Bool) → (q == p) ≡ b → is_end_deferred_at later q ≡ true → is_live_with_peer later q ≡ true
    off q peer true i h = let same : q ≡ p = grind (arith, nat_tests, i) in ap (is_live_with_peer later) same ∙ put.live
    off q peer false i h = let k = put.others q i in k.live ∙ among.put_off q peer (sym k.ends ∙ h)

-- ---- branches begin

append_numbers : (rs ss : List Row) → numbers_of (rs ++ ss) ≡ numbers_of rs ++ numbers_of ss
append_numbers [] ss = refl
append_numbers (r ∷ rs) ss = ap (λ (ns : List ℕ). r.branch.peer.node ∷ ns) (append_numbers rs ss)

has_append : (ms ns : List ℕ) (q : ℕ) → has_number (ms ++ ns) q ≡ (has_number ms q || has_number ns q)
has_append [] ns q = refl
has_append (m ∷ ms) ns q = grind (arith, has_append ms ns q)

named_is : (cs : List Child) (q : ℕ) → has_number (numbers_of (fresh_rows cs)) q ≡ is_child_at cs q
named_is [] q = refl
named_is (x ∷ xs) q = ap (λ b. (x.addr.node == q) || b) (named_is xs q)

-- what is known of each new branch
new_is : (cs : List Child) (arcs : List Arc) (c : Current) (q : ℕ) → AreNew cs arcs c → is_child_at cs q ≡ true → (is_live_with_peer arcs q ≡ true) × (is_peer c q ≡ false)
new_is [] arcs c q new h = absurd cc
new_is (x ∷ xs) arcs c q new h = go (x.addr.node == q) refl (new_is xs arcs c q new.4) h
  where
    go : (b : Bool) → (x.addr.node == q) ≡ b → (is_child_at xs q ≡ true → (is_live_with_peer arcs q ≡ true) × (is_peer c q ≡ false)) → (b || is_child_at xs q) ≡ true → (is_live_with_peer arcs q ≡ true) × (is_peer c q ≡ false)
    go true i rest j =
        let same : x.addr.node ≡ q = grind (arith, nat_tests, i) in
        (sym (ap (is_live_with_peer arcs) same) ∙ new.0, sym (ap (is_peer c) same) ∙ new.2)
    go false i rest j = rest j

new_differ : (cs : List Child) (arcs : List Arc) (c : Current) → AreNew cs arcs c → all_differ (numbers_of (fresh_rows cs)) ≡ true
new_differ [] arcs c new = refl
new_differ (x ∷ xs) arcs c new =
    ap (λ b. not b && all_differ (numbers_of (fresh_rows xs))) (named_is xs x.addr.node ∙ new.3) ∙ new_differ xs arcs c new.4

differ_append : (ms ns : List ℕ) → all_differ ms ≡ true → all_differ ns ≡ true → ((q : ℕ) → has_number ms q ≡ true → has_number ns q ≡ false) → all_differ (ms ++ ns) ≡ true
differ_append [] ns one two apart = two
differ_append (m ∷ ms) ns one two apart =
    let here : has_number ns m ≡ false = apart m (grind (arith, nat_tests)) in
    let first : has_number ms m ≡ false = grind arith in
    let rest : all_differ (ms ++ ns) ≡ true = differ_append ms ns (grind arith) two (λ q h. apart q (grind (arith, h))) in
    let none : has_number (ms ++ ns) m ≡ false = has_append ms ns m ∙ ap (λ b. b || has_number ns m) first ∙ here in
    ap (λ b. not b && all_differ (ms ++ ns)) none ∙ rest

pub begun_among : (who : Who) (arcs : List Arc) (c : Current) (cs : List Child) → IsAmongArcs arcs c → is_rolling c.phase ≡ false → AreNew cs arcs c
    → let t : Transaction = seen who arcs c in let u : Transaction = record t { rows = t.rows ++ fresh_rows cs } in IsAmongArcs arcs (left_of u)
begun_among who arcs c cs among calm new = record {
  current = among.current;
  distinct = differ_is rows ∙ ap all_differ (append_numbers old (fresh_rows cs)) ∙ differ_append (numbers_of old) (numbers_of (fresh_rows cs)) old_differ (new_differ cs arcs c new) (λ q h. other q (old_has q ∙ h) (is_child_at cs q) refl);
  apart = λ p h. has p ∙ ap (λ b. b || is_child_at cs p) (among.apart p h) ∙ unnamed p h (is_child_at cs p) refl;
  put_off = λ p h off. put p off (is_child_at cs p) refl h;
  forgotten = λ rolls p h. absurd (cc (rolls, calm));
}
  where
    old : List Row
    old = seen_rows arcs c.branches

    rows : List Row
    rows = old ++ fresh_rows cs

    old_has : (q : ℕ) → has_branch_at c.branches q ≡ has_number (numbers_of old) q
    old_has q = sym (ap (λ bs. has_branch_at bs q) (branches_seen arcs c.branches)) ∙ has_is old q

    old_differ : all_differ (numbers_of old) ≡ true
    old_differ = sym (differ_is old) ∙ ap are_distinct (branches_seen arcs c.branches) ∙ among.distinct

    has : (q : ℕ) → has_branch_at (branches_of rows) q ≡ (has_branch_at c.branches q || is_child_at cs q)
    has q =
        has_is rows q ∙ ap (λ ns. has_number ns q) (append_numbers old (fresh_rows cs)) ∙ has_append (numbers_of old) (numbers_of (fresh_rows cs)) q
        ∙ ap (λ b. b || has_number (numbers_of (fresh_rows cs)) q) (sym (old_has q)) ∙ ap (λ b. has_branch_at c.branches q || b) (named_is cs q)

    or_right : (a b : Bool) → (a || b) ≡ false → b ≡ false
    or_right true b h = absurd cc
    or_right false b h = h

    or_left : (a b : Bool) → (a || b) ≡ false → a ≡ false
    or_left true b h = h
    or_left false b h = refl

    other : (q : ℕ) → has_branch_at c.branches q ≡ true → (b : Bool) → is_child_at cs q ≡ b → has_number (numbers_of (fresh_rows cs)) q ≡ false
    other q h true i = absurd (cc (h, or_right (is_under_at c.key q) (has_branch_at c.branches q) (new_is cs arcs c q new i).1))
    other q h false i = named_is cs q ∙ i

    unnamed : (q : ℕ) → is_under_at c.key q ≡ true → (b : Bool) → is_child_at cs q ≡ b → is_child_at cs q ≡ false
    unnamed q h true i = absurd (cc (h, or_left (is_under_at c.key q) (has_branch_at c.branches q) (new_is cs arcs c q new i).1))
    unnamed q h false i = i

    put : (q : ℕ) → is_end_deferred_at arcs q ≡ true → (b : Bool) → is_child_at cs q ≡ b → is_peer (left_of (let u : Transaction = record (seen who arcs c) { rows = rows } in u)) q ≡ true → is_live_with_peer arcs q ≡ true
    put q off true i h = (new_is cs arcs c q new i).0
    put q off false i h = among.put_off q (peer q i h) off
      where
        or_none : (a : Bool) → (a || false) ≡ a
        or_none true = refl
        or_none false = refl

        peer : (q : ℕ) → is_child_at cs q ≡ false → (is_under_at c.key q || has_branch_at (branches_of rows) q) ≡ true → is_peer c q ≡ true
        peer q i h = ap (λ b. is_under_at c.key q || b) (sym (has q ∙ ap (λ b. has_branch_at c.branches q || b) i ∙ or_none (has_branch_at c.branches q))) ∙ h
