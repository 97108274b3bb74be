-- That a branch has ended, with a report of some rank, is raised by the record, or the reply, that ends it: a mark as others.
use Rattle.tp_history_state.proofs.Vocabulary.{Bool, List, None, Option, Some, ap, arith, false, if◌then◌else◌, inl, inr, not, refl, sym, true, ℕ, ◌&&◌, ◌==◌, ◌||◌, ◌∙◌, ◌≡◌, ◌⊎◌, nat_tests, Aaid, Addr, Child, Mark, NodeKey, Report, is_branch, rank, DialogueRecord, PeerRecord, RecState, LogRec, Acts, is_active, Branch, Current, Entry, Event, Origin, Out, IsLegal, Phase, Row, Transaction, and_then, branch_left, complete_rollback, end_branch, find_row, node_key, put_row, row_holds, settle, sight_of_tx, takes, takes_left, with_row, TxEvent, acting_from, is_left_record, is_record, action, refusal, digest, seen, ending_report, phase_in, replied_report, report_by, is_left_word, row_dead, IsStep, key_self, phase_law, find_put, row_is, row_phase, the}
use Rattle.tp_history_state.specs.Reaching.{marked}
use Rattle.tp_history_state.proofs.marks.BranchMark.{IsMarking, hit_by, row_put, row_same, rows_completed, rows_settled, rows_unrolled, seen_marked}
use Rattle.tp_history_state.proofs.handshakes.TouchedEntry.{acting_is}
use Rattle.tp_history_state.proofs.marks.Taken.{held_row, is_taken, left_row, taken_mark}
use Rattle.tp_histories.proofs.known.KnownPhase.{phase_at}

-- ---- what ends a branch

-- the child's branch, of those with its peer; it stands open; it has ended with a report of that rank
abbrev pub is_open : Child → Branch → Bool
is_open x b = is_branch b.id x.branch && not b.ended && not b.left

abbrev pub is_ended_at : Child → ℕ → Branch → Bool
is_ended_at x n b = is_branch b.id x.branch && b.ended && (rank b.report == n)

abbrev pub has_rank : ℕ → Option Report → Bool
has_rank n None = false
has_rank n (Some r) = rank r == n

abbrev pub ends : ℕ → TxEvent → Bool
ends p (TxEvent.Took q (DialogueRecord.Done r)) = q == p
ends p (TxEvent.Took q (DialogueRecord.RolledBack r)) = q == p
ends p (TxEvent.Took q DialogueRecord.Left) = q == p
ends p (TxEvent.Took q DialogueRecord.LeftEnd) = q == p
ends p (TxEvent.Reply i (RecState.Done r)) = true
ends p _ = false

-- an entry ends the child's open branch
abbrev pub ended_by : Child → ℕ → Origin → NodeKey → Entry → List Entry → Bool
ended_by x n o k e h = elim (digest o h).current [ None ↦ false | Some c ↦ marked (is_open x) x.addr.node c ] && has_rank n (report_by o k x e h)

pub ends_marking : (x : Child) (n : ℕ) → IsMarking (is_ended_at x n) x.addr.node (ends x.addr.node)
ends_marking x n = record {
  fresh = λ c. flat (is_branch c.branch x.branch) (0 == n);
  prepared = λ b. refl;
  done = λ q r b off at. absurd (cc (off, at));
  rolled = λ q r b off at. absurd (cc (off, at));
  left_late = λ q v b word off at. absurd (late q v word off at);
  replied = λ i r b off. absurd (cc (off));
  given_up = λ q b off at. refl;
  counted = λ q b off at. refl;
  left = λ q r b word off at. refl;
}
  where
    flat : (v z : Bool) → (v && false && z) ≡ false
    flat true z = refl
    flat false z = refl

    late : (q : ℕ) (r : DialogueRecord) → is_left_word r ≡ true → ends x.addr.node (TxEvent.Took q r) ≡ false → (q == x.addr.node) ≡ true → ⊥
    late q DialogueRecord.Left word off at = cc (off, at)
    late q DialogueRecord.LeftEnd word off at = cc (off, at)
    late q r word off at = cc (word)

-- ---- which entries do

abbrev pub has_report : DialogueRecord → Bool
has_report r = elim (ending_report r) as (λ _. Bool) [ None ↦ false | Some z ↦ true ]

acts_none : (x : Child) (o : Origin) (h : List Entry) (v : Event) → hit_by (ends x.addr.node) v ≡ false → (b : Bool) → is_record has_report (acting_from o x.addr.node v h) ≡ b → is_record has_report (acting_from o x.addr.node v h) ≡ false
acts_none x o h v h1 b h2 = grind (arith, nat_tests, acting_is, ends)

replies_none : (x : Child) (t : Aaid) (v : Event) → hit_by (ends x.addr.node) v ≡ false → replied_report t x.branch v ≡ None
replies_none x t (Event.Arrive a (PeerRecord.RecReply u c (RecState.Done r))) off = absurd (cc (off))
replies_none x t v off = refl

-- by the phase, the record that acts, and the reply
abbrev pub report_of : Phase → Option DialogueRecord → Option Report → Option Report
report_of Phase.Nil a y = None
report_of Phase.Active a y = None
report_of Phase.Ready a y = None
report_of Phase.Committing a y = elim a [ Some r ↦ ending_report r | None ↦ y ]
report_of Phase.Rolling a y = elim a [ Some r ↦ ending_report r | None ↦ None ]

pub report_is : (o : Origin) (k : NodeKey) (x : Child) (e : Entry) (h : List Entry) → report_by o k x e h ≡ report_of (phase_in o k h) (acting_from o x.addr.node e.event h) (replied_report k.aaid x.branch e.event)
report_is o k x e h = grind arith

report_none : (p : Phase) (a : Option DialogueRecord) (y : Option Report) → is_record has_report a ≡ false → y ≡ None → report_of p a y ≡ None
report_none p a y h1 h2 = grind arith

pub and_off : (v : Bool) {w : Bool} → w ≡ false → (v && w) ≡ false
and_off true i = i
and_off false i = refl

pub ends_calm : (x : Child) (n : ℕ) (o : Origin) (k : NodeKey) (e : Entry) (h : List Entry) → hit_by (ends x.addr.node) e.event ≡ false → ended_by x n o k e h ≡ false
ends_calm x n o k e h off =
    and_off (elim (digest o h).current as (λ _. Bool) [ None ↦ false | Some c ↦ marked (is_open x) x.addr.node c ])
    (ap (has_rank n) (report_is o k x e h ∙ report_none (phase_in o k h) (acting_from o x.addr.node e.event h) (replied_report k.aaid x.branch e.event) (acts_none x o h e.event off (is_record has_report (acting_from o x.addr.node e.event h)) refl) (replies_none x k.aaid e.event off)))

-- ---- a turn that ends it

end_so : (v e l s z : Bool) → (not e && not l) ≡ true → (v && true && s) ≡ ((v && not e && not l) && s || v && e && z)
end_so v e l s z h1 = grind arith

abbrev pub ending : Report → Row → Row
ending r y = record y { branch = record y.branch { ended = true; report = r } }

-- an open branch ends with that report
pub end_put : (x : Child) (n : ℕ) (t : Transaction) (r : Report) (y : Row) → find_row t.rows x.addr.node ≡ Some y → (not y.branch.ended && not y.branch.left) ≡ true
    → row_holds (with_row t x.addr.node (ending r)).rows x.addr.node (is_ended_at x n) ≡ (row_holds t.rows x.addr.node (is_open x) && (rank r == n) || row_holds t.rows x.addr.node (is_ended_at x n))
end_put x n t r y found free =
    row_put (is_ended_at x n) p t p (ending r) (λ z. refl) y found ∙ ap (λ (b : Bool). if b then is_ended_at x n (ending r y).branch else row_holds t.rows p (is_ended_at x n)) self
    ∙ end_so (is_branch y.branch.id x.branch) y.branch.ended y.branch.left (rank r == n) (rank y.branch.report == n) free
    ∙ sym (ap (λ (v : Option Row). elim v as (λ _. Bool) [ None ↦ false | Some z ↦ is_open x z.branch ] && (rank r == n) || elim v as (λ _. Bool) [ None ↦ false | Some z ↦ is_ended_at x n z.branch ]) found)
  where
    p : ℕ
    p = x.addr.node

    self : (p == p) ≡ true
    self = grind (arith, nat_tests)

abbrev IsEnding : Child → ℕ → Transaction → DialogueRecord → Type 0
IsEnding x n t r = row_holds (takes x.addr.node r t).next.rows x.addr.node (is_ended_at x n) ≡ (row_holds t.rows x.addr.node (is_open x) && has_rank n (report_of t.phase (Some r) None) || row_holds t.rows x.addr.node (is_ended_at x n))

done_row : (t : Transaction) (p : ℕ) (r : Report) → sight_of_tx t p (DialogueRecord.Done r) ≡ Acts → (t.phase ≡ Phase.Committing) × (row_holds t.rows p (λ b. not b.ended && not b.left) ≡ true)
unfolding sight_of_tx
done_row t p r h = grind arith

rolled_row : (t : Transaction) (p : ℕ) (r : Report) → sight_of_tx t p (DialogueRecord.RolledBack r) ≡ Acts → (t.phase ≡ Phase.Rolling) × (row_holds t.rows p (λ b. not b.ended && not b.left) ≡ true)
unfolding sight_of_tx
rolled_row t p r h = grind arith

-- a leaving acts in active, or in rolling on an open branch
left_so : (t : Transaction) (p : ℕ) (r : DialogueRecord) → is_left_record r ≡ true → sight_of_tx t p r ≡ Acts → (t.phase ≡ Phase.Active) ⊎ (t.phase ≡ Phase.Rolling) × (row_holds t.rows p (λ b. not b.ended && not b.left) ≡ true)
unfolding sight_of_tx
left_so t p r h1 h2 = grind arith

none_raised : (v : Bool) {w : Bool} → w ≡ (v && false || w)
none_raised true = refl
none_raised false = refl

left_ends : (x : Child) (n : ℕ) (t : Transaction) (r : DialogueRecord) → ending_report r ≡ Some Report.None → (y : Row) → find_row t.rows x.addr.node ≡ Some y → (t.phase ≡ Phase.Active) ⊎ (t.phase ≡ Phase.Rolling) × (row_holds t.rows x.addr.node (λ b. not b.ended && not b.left) ≡ true)
    → row_holds (takes_left x.addr.node t).next.rows x.addr.node (is_ended_at x n) ≡ (row_holds t.rows x.addr.node (is_open x) && has_rank n (report_of t.phase (Some r) None) || row_holds t.rows x.addr.node (is_ended_at x n))
unfolding branch_left end_branch
left_ends x n t r report y found (inl i) =
    ap (λ (q : Phase). row_holds (if is_active q then and_then (branch_left x.addr.node t) settle else and_then (end_branch x.addr.node Report.None t) complete_rollback).next.rows x.addr.node (is_ended_at x n)) i
    ∙ ap (λ (rows : List Row). row_holds rows x.addr.node (is_ended_at x n)) (rows_settled (with_row t x.addr.node (λ z. record z { branch = record z.branch { left = true } })))
    ∙ row_same (is_ended_at x n) x.addr.node t x.addr.node (λ z. record z { branch = record z.branch { left = true } }) (λ z. refl) (λ z j. refl)
    ∙ none_raised (row_holds t.rows x.addr.node (is_open x))
    ∙ sym (ap (λ (q : Phase). row_holds t.rows x.addr.node (is_open x) && has_rank n (report_of q (Some r) None) || row_holds t.rows x.addr.node (is_ended_at x n)) i)
left_ends x n t r report y found (inr i) =
    ap (λ (q : Phase). row_holds (if is_active q then and_then (branch_left x.addr.node t) settle else and_then (end_branch x.addr.node Report.None t) complete_rollback).next.rows x.addr.node (is_ended_at x n)) i.0
    ∙ ap (λ (rows : List Row). row_holds rows x.addr.node (is_ended_at x n)) (rows_unrolled (with_row t x.addr.node (ending Report.None)))
    ∙ end_put x n t Report.None y found (sym (ap (λ (v : Option Row). elim v as (λ _. Bool) [ None ↦ false | Some z ↦ not z.branch.ended && not z.branch.left ]) found) ∙ i.1)
    ∙ sym (ap (λ (q : Phase). row_holds t.rows x.addr.node (is_open x) && has_rank n (report_of q (Some r) None) || row_holds t.rows x.addr.node (is_ended_at x n)) i.0 ∙ ap (λ (v : Option Report). row_holds t.rows x.addr.node (is_open x) && has_rank n v || row_holds t.rows x.addr.node (is_ended_at x n)) report)

ends_turn : (x : Child) (n : ℕ) (t : Transaction) (r : DialogueRecord) → has_report r ≡ true → sight_of_tx t x.addr.node r ≡ Acts → IsEnding x n t r
unfolding end_branch
ends_turn x n t (DialogueRecord.Done r) k h =
    let so = done_row t x.addr.node r h in
    let row = held_row t.rows x.addr.node (λ b. not b.ended && not b.left) so.1 in
    ap (λ (rows : List Row). row_holds rows x.addr.node (is_ended_at x n)) (rows_completed (with_row t x.addr.node (ending r))) ∙ end_put x n t r row.0 row.1 row.2
    ∙ sym (ap (λ (q : Phase). row_holds t.rows x.addr.node (is_open x) && has_rank n (report_of q (Some (DialogueRecord.Done r)) None) || row_holds t.rows x.addr.node (is_ended_at x n)) so.0)
ends_turn x n t (DialogueRecord.RolledBack r) k h =
    let so = rolled_row t x.addr.node r h in
    let row = held_row t.rows x.addr.node (λ b. not b.ended && not b.left) so.1 in
    ap (λ (rows : List Row). row_holds rows x.addr.node (is_ended_at x n)) (rows_unrolled (with_row t x.addr.node (ending r))) ∙ end_put x n t r row.0 row.1 row.2
    ∙ sym (ap (λ (q : Phase). row_holds t.rows x.addr.node (is_open x) && has_rank n (report_of q (Some (DialogueRecord.RolledBack r)) None) || row_holds t.rows x.addr.node (is_ended_at x n)) so.0)
ends_turn x n t DialogueRecord.Left k h = let row = left_row t x.addr.node DialogueRecord.Left refl h in left_ends x n t DialogueRecord.Left refl row.0 row.1 (left_so t x.addr.node DialogueRecord.Left refl h)
ends_turn x n t DialogueRecord.LeftEnd k h =
    left_ends x n dead DialogueRecord.LeftEnd refl (row_dead row.0) there so
    ∙ ap (λ (q : Phase). row_holds dead.rows p (is_open x) && has_rank n (report_of q (Some DialogueRecord.LeftEnd) None) || row_holds dead.rows p (is_ended_at x n)) (row_phase t p row_dead)
    ∙ ap (λ (v : Bool). v && has_rank n (report_of t.phase (Some DialogueRecord.LeftEnd) None) || row_holds dead.rows p (is_ended_at x n)) (same (is_open x))
    ∙ ap (λ (v : Bool). row_holds t.rows p (is_open x) && has_rank n (report_of t.phase (Some DialogueRecord.LeftEnd) None) || v) (same (is_ended_at x n))
  where
    p : ℕ
    p = x.addr.node

    row : (y : Row) × (find_row t.rows p ≡ Some y)
    row = left_row t p DialogueRecord.LeftEnd refl h

    dead : Transaction
    dead = with_row t p row_dead

    self : (p == p) ≡ true
    self = grind (arith, nat_tests)

    same : (w : Branch → Bool) → row_holds dead.rows p w ≡ row_holds t.rows p w
    same w = row_same w p t p row_dead (λ z. refl) (λ z j. refl)

    there : find_row dead.rows p ≡ Some (row_dead row.0)
    there =
        ap (λ (v : Option Row). find_row (elim v as (λ _. Transaction) [ None ↦ t | Some z ↦ record t { rows = put_row t.rows (row_dead z) } ]).rows p) row.1 ∙ find_put t.rows p row.0 (row_dead row.0) p row.1 (row_is t.rows p row.0 row.1)
        ∙ ap (λ (b : Bool). if b then Some (row_dead row.0) else find_row t.rows p) self

    so : (dead.phase ≡ Phase.Active) ⊎ (dead.phase ≡ Phase.Rolling) × (row_holds dead.rows p (λ b. not b.ended && not b.left) ≡ true)
    so = elim (left_so t p DialogueRecord.LeftEnd refl h) [ inl i ↦ inl (row_phase t p row_dead ∙ i) | inr i ↦ inr (row_phase t p row_dead ∙ i.0, same (λ b. not b.ended && not b.left) ∙ i.1) ]
ends_turn x n t r k h = absurd (cc (k))

-- ---- a record that ends it

pub phase_now : (o : Origin) (up : Option Addr) (h : List Entry) (c : Current) → IsLegal o up h → (digest o h).current ≡ Some c → phase_in o (node_key c.key) h ≡ c.phase
phase_now o up h c legal now = phase_law o up h (node_key c.key) legal ∙ ap (λ (v : Option Current). phase_at v (node_key c.key)) now ∙ ap (λ (b : Bool). if b then c.phase else Phase.Nil) (key_self (node_key c.key))

pub ends_step : (x : Child) (n : ℕ) (r : DialogueRecord) → has_report r ≡ true → is_taken r ≡ true → (o : Origin) (up : Option Addr) (h : List Entry) (from : Addr) (a b : Mark) (q : ℕ) (rec : Option LogRec) (outs : List Out) → IsLegal o up h → from.node ≡ x.addr.node
    → refusal o.who (digest o h) (the from a b q r) ≡ None → (u : Current) → (action o.who (digest o h) (the from a b q r)).next.current ≡ Some u
    → IsStep (marked (is_ended_at x n) x.addr.node) o.who (digest o h) (ended_by x n o (node_key u.key) (record { event = the from a b q r; rec = rec; outs = outs }) h) u
ends_step x n r k taken o up h from a b q rec outs legal at ok u is =
    taken_mark w p (ends p) (ends_marking x n) r taken o up h from a b q legal.grown ok u is (λ key. ended_by x n o (node_key key) e h)
    (λ none key.
    and_off (elim (digest o h).current as (λ _. Bool) [ None ↦ false | Some c ↦ marked (is_open x) p c ])
    (ap (has_rank n) (report_is o (node_key key) x e h ∙ report_none (phase_in o (node_key key) h) (acting_from o p ev h) None (ap (is_record has_report) (ap (λ (n : ℕ). acting_from o n ev h) (sym at) ∙ none)) refl)))
    (λ c now acting arcs sight.
    let t : Transaction = seen o.who arcs c in
    let report : report_by o (node_key c.key) x e h ≡ report_of c.phase (Some r) None =
    report_is o (node_key c.key) x e h ∙ ap (λ (z : Phase). report_of z (acting_from o p ev h) None) (phase_now o up h c legal now) ∙ ap (λ (z : Option DialogueRecord). report_of c.phase z None) (ap (λ (n : ℕ). acting_from o n ev h) (sym at) ∙ acting) in
    let free : elim (digest o h).current as (λ _. Bool) [ None ↦ false | Some z ↦ marked (is_open x) p z ] ≡ marked (is_open x) p c = ap (λ (z : Option Current). elim z as (λ _. Bool) [ None ↦ false | Some y ↦ marked (is_open x) p y ]) now in
    ap (λ (n : ℕ). row_holds (takes n r t).next.rows p w) at ∙ ends_turn x n t r k (ap (λ (n : ℕ). sight_of_tx t n r) (sym at) ∙ sight)
    ∙ ap (λ (v : Bool). v && has_rank n (report_of c.phase (Some r) None) || row_holds t.rows p w) (seen_marked (is_open x) p o.who arcs c)
    ∙ ap (λ (v : Bool). marked (is_open x) p c && has_rank n (report_of c.phase (Some r) None) || v) (seen_marked w p o.who arcs c)
    ∙ sym (ap (λ (v : Bool). v && has_rank n (report_by o (node_key c.key) x e h) || marked w p c) free ∙ ap (λ (v : Option Report). marked (is_open x) p c && has_rank n v || marked w p c) report))
  where
    p : ℕ
    p = x.addr.node

    w : Branch → Bool
    w = is_ended_at x n

    ev : Event
    ev = the from a b q r

    e : Entry
    e = record { event = ev; rec = rec; outs = outs }
