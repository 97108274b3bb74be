-- In every legal history the current transaction stands in order among its arcs.
use Rattle.std.proofs.Common.{◌≡◌, ℕ, true, false, refl, ap, sym, subst, ◌∙◌, arith, Option, Some, None, List, [], ◌∷◌, ◌==◌, not}
use Rattle.std.proofs.lemmas.Bool.Decides.{nat_tests}
use Rattle.tp_names.specs.declared.identifiers.NodeKey.{NodeKey}
use Rattle.tp_names.specs.declared.identifiers.Addr.{Addr}
use Rattle.tp_names.specs.declared.outcome.Outcome.{Outcome}
use Rattle.tp_names.specs.declared.children.Child.{Child}
use Rattle.tp_logrec.specs.declared.record.LogRec.{LogRec}
use Rattle.tp_logrec.specs.Order.{all_follow}
use Rattle.tp_model.specs.declared.arc.Phase.{Phase}
use Rattle.tp_model.specs.Parts.{Origin, Entry, Key, Root, Under, Branch, Current}
use Rattle.tp_model.specs.Dialogues.{is_nil, is_rolling}
use Rattle.tp_model.specs.Transactions.{is_under_at}
use Rattle.tp_model.specs.Requests.{has_branch_at}
use Rattle.tp_model.specs.Events.{fresh_branches, current_in_log, key_in_log, decision_of, without_current, current_by, current_from, started}
use Rattle.tp_model.specs.History.{digest, again, crashed}
use Rattle.tp_model.specs.Legal.{is_own_record, are_own_records, is_apart, are_apart, is_start, IsGrown, IsLegal}
use Rattle.tp_model.specs.AmongArcs.{are_distinct, IsAmongArcs}
use Rattle.tp_model.specs.Happenings.{Happening, run}
use Rattle.tp_model.specs.World.{Node, number_of}
use Rattle.tp_model.specs.Promises.{IsIn}
use Rattle.tp_histories.specs.Arcs.{is_no_branch, is_headed_apart, finds_apart}
use Rattle.tp_steps.proofs.lemmas.Equality.{and_left, and_right}
use Rattle.tp_histories.proofs.worlds.Good.{good_run}
use Rattle.tp_histories.proofs.worlds.Starts.{all_legal}
use Rattle.tp_histories.proofs.log.WellLog.{restart_is_crash}
use Rattle.tp_steps.proofs.order.InOrder.{IsInOrder}
use Rattle.tp_steps.proofs.order.InOrderMoves.{crash_in_order, event_in_order}

-- ---- the superior is no branch, by its number

under_apart : (k : Key) (bs : List Branch) → is_no_branch k bs ≡ true → (p : ℕ) → is_under_at k p ≡ true → has_branch_at bs p ≡ false
under_apart (Root t) bs h p i = absurd (cc (i))
under_apart (Under t b a) bs h p i =
    let at : a.node ≡ p = grind (arith, nat_tests, i) in
    let off : has_branch_at bs a.node ≡ false = grind (arith, h) in
    ap (has_branch_at bs) (sym at) ∙ off

apart_under : (k : Key) (bs : List Branch) → ((p : ℕ) → is_under_at k p ≡ true → has_branch_at bs p ≡ false) → is_no_branch k bs ≡ true
apart_under (Root t) bs h = refl
apart_under (Under t b a) bs h = let off : has_branch_at bs a.node ≡ false = h a.node (grind (arith, nat_tests)) in ap not off

-- ---- what the records of a start leave

unnamed : (c : Child) (cs : List Child) → is_apart c cs ≡ true → has_branch_at (fresh_branches cs) c.addr.node ≡ false
unnamed c [] h = refl
unnamed c (d ∷ ds) h =
    let other : (c.addr.node == d.addr.node) ≡ false = grind (arith, h) in
    let swapped : (d.addr.node == c.addr.node) ≡ false = grind (arith, nat_tests, other) in
    let rest : has_branch_at (fresh_branches ds) c.addr.node ≡ false = unnamed c ds (grind (arith, h)) in
    grind (arith, swapped, rest)

distinct_fresh : (cs : List Child) → are_apart cs ≡ true → are_distinct (fresh_branches cs) ≡ true
distinct_fresh [] h = refl
distinct_fresh (c ∷ cs) h =
    let off : has_branch_at (fresh_branches cs) c.addr.node ≡ false = unnamed c cs (and_left (is_apart c cs) (are_apart cs) h) in
    let rest : are_distinct (fresh_branches cs) ≡ true = distinct_fresh cs (and_right (is_apart c cs) (are_apart cs) h) in
    grind (arith, off, rest)

record IsFound (c : Current) : Type 0 where
  current : is_nil c.phase ≡ false
  calm : is_rolling c.phase ≡ false
  distinct : are_distinct c.branches ≡ true

abbrev AllFound : Option Current → Type 0
AllFound o = (c : Current) → o ≡ Some c → IsFound c

found_in_log : (k : Option Key) (p : Phase) (cs : List Child) (u : Option Outcome) → is_nil p ≡ false → is_rolling p ≡ false → are_apart cs ≡ true → AllFound (current_in_log k p cs u)
found_in_log None p cs u n r h c is = absurd (cc (is))
found_in_log (Some k) p cs u n r h c is =
    let branches : fresh_branches cs ≡ c.branches = grind (arith, is) in
    let phase : p ≡ c.phase = grind (arith, is) in
    record { current = ap is_nil (sym phase) ∙ n; calm = ap is_rolling (sym phase) ∙ r; distinct = ap are_distinct (sym branches) ∙ distinct_fresh cs h }

found_let_go : (k : NodeKey) (o : Option Current) → AllFound o → AllFound (without_current k o)
found_let_go k None h c is = absurd (cc (is))
found_let_go k (Some x) h c is = h c (grind (arith, is))

found_by : (n b : ℕ) (r : LogRec) (o : Option Current) → is_own_record n b r ≡ true → AllFound o → AllFound (current_by r o)
found_by n b (LogRec.Boot m) o w h = h
found_by n b (LogRec.Ready m k s cs) o w h = found_in_log (key_in_log k (Some s)) Phase.Ready cs None refl refl (grind (arith, w))
found_by n b (LogRec.Heuristic m k u) None w h = λ c is. absurd (cc (is))
found_by n b (LogRec.Heuristic m k u) (Some x) w h = λ c is. let same : ◌≡◌ {A = Current} (record x { decision = Some u }) c = cc (is) in let f : IsFound x = h x refl in
    subst IsFound same (record { current = f.current; calm = f.calm; distinct = f.distinct })
found_by n b (LogRec.Commit m k s cs) o w h = found_in_log (key_in_log k s) Phase.Committing cs (decision_of o) refl refl (grind (arith, w))
found_by n b (LogRec.Damage m k s u v cs) o w h = found_let_go k o h
found_by n b (LogRec.End m k u) o w h = found_let_go k o h

found_from : (n b : ℕ) (rs : List LogRec) (o : Option Current) → are_own_records n b rs ≡ true → AllFound o → AllFound (current_from o rs)
found_from n b [] o w h = h
found_from n b (r ∷ rs) o w h =
    found_from n b rs (current_by r o) (and_right (is_own_record n b r) (are_own_records n b rs) w) (found_by n b r o (and_left (is_own_record n b r) (are_own_records n b rs) w) h)

headed : (v : Option Current) → is_headed_apart v ≡ true → (c : Current) → v ≡ Some c → is_no_branch c.key c.branches ≡ true
headed v h c i = ap is_headed_apart (sym i) ∙ h

start_in_order : (o : Origin) → is_start o ≡ true → finds_apart o ≡ true → IsInOrder (digest o [])
unfolding started
start_in_order o start apart = record { live = λ p off. absurd (cc (off)); now = among }
  where
    rs : List LogRec
    rs = o.start.records

    own : are_own_records o.who.node o.start.boot rs ≡ true
    own = and_right (all_follow (LogRec.Boot o.start.boot ∷ rs)) (are_own_records o.who.node o.start.boot rs) start

    among : (c : Current) → current_from None rs ≡ Some c → IsAmongArcs [] c
    among c i =
        let f : IsFound c = found_from o.who.node o.start.boot rs None own (λ x is. absurd (cc (is))) c i in
        record {
          current = f.current;
          distinct = f.distinct;
          apart = under_apart c.key c.branches (headed (current_from None rs) apart c i);
          put_off = λ p h off. absurd (cc (off));
          forgotten = λ rolls. absurd (cc (rolls, f.calm));
        }

-- ---- every legal history

grown_in_order : (o : Origin) (up : Option Addr) (h : List Entry) → is_start o ≡ true → finds_apart o ≡ true → IsGrown o up h → IsInOrder (digest o h)
grown_in_order o up [] start apart legal = start_in_order o start apart
grown_in_order o up (e ∷ h) start apart legal = event_in_order o.who (digest o h) e.event legal.0 (grown_in_order o up h start apart legal.3)

pub in_order_law : (o : Origin) (up : Option Addr) (h : List Entry) → IsLegal o up h → finds_apart o ≡ true → IsInOrder (digest o h)
in_order_law o up h legal apart = grown_in_order o up h legal.start apart legal.grown

pub among_law : (o : Origin) (up : Option Addr) (h : List Entry) (c : Current) → IsLegal o up h → finds_apart o ≡ true → (digest o h).current ≡ Some c → IsAmongArcs (digest o h).arcs c
among_law o up h c legal apart is = (in_order_law o up h legal apart).now c is

-- the next start is such a one
headed_apart : (v : Option Current) → ((c : Current) → v ≡ Some c → (p : ℕ) → is_under_at c.key p ≡ true → has_branch_at c.branches p ≡ false) → is_headed_apart v ≡ true
headed_apart None h = refl
headed_apart (Some c) h = apart_under c.key c.branches (h c refl)

pub again_apart : (o : Origin) (up : Option Addr) (h : List Entry) → IsLegal o up h → finds_apart o ≡ true → finds_apart (again o h) ≡ true
again_apart o up h legal apart =
    let k : IsInOrder (digest o (crashed h)) = crash_in_order (digest o h) (in_order_law o up h legal apart) in
    ap (λ d. is_headed_apart d.current) (restart_is_crash o up h legal) ∙ headed_apart (digest o (crashed h)).current (λ c i. (k.now c i).apart)

-- ---- every run

pub empty_apart : (o : Origin) → o.start.records ≡ [] → finds_apart o ≡ true
unfolding started
empty_apart o none = ap (λ (rs : List LogRec). is_headed_apart (current_from None rs)) none

pub run_among : (es : List Happening) (x : Node) (c : Current) → IsIn (run es) x → (digest x.origin x.history).current ≡ Some c → IsAmongArcs (digest x.origin x.history).arcs c
run_among es x c here is =
    among_law x.origin x.superior x.history c (all_legal es x here) (empty_apart x.origin ((good_run es).fresh (number_of x) x here)) is
