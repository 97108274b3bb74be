-- In every legal history a branch of the current transaction has ended if a record, or a reply, ended it since its key was
-- begun, with the report of the first of them.
use Rattle.tp_history_state.proofs.Vocabulary.{Bool, List, None, Option, Some, [], ap, arith, false, if◌then◌else◌, inl, inr, refl, sym, true, ℕ, ◌&&◌, ◌||◌, ◌∙◌, ◌∷◌, ◌≡◌, not, ◌==◌, or-false, nat_tests, Aaid, Addr, BranchId, Child, Report, is_aaid, is_branch, NodeKey, rank, DialogueRecord, PeerRecord, RecState, LogRec, Branch, Current, Digest, Entry, Event, Key, Origin, Out, Who, Under, IsLegal, Kept, KeptEvent, Move, move, keep, perform, seen, transact, turned, fresh_current, Phase, Transaction, node_key, refused_tx, transacted, child_of, TxEvent, action, refusal, branch_key, named_by_branch, digest, records, forget_to, settled, is_committing, is_active, begins, report_by, some_since, ended_in, is_active_in, is_rolling_in, last_of, left_in, phase_by_rec, replied_report, acting_from, is_crash, same_bool, is_some, each_branch, ended_agrees, branch_self, rolls, is_unchanged, IsPut, counted_in, prelude, find_branch, IsStep, before_it, late_law, left_is, passed_turn, Closed, Course, Free, Grew, Held, Rooted, some_same, Entered, Begun, Crashed, Plain, course_entry, kin, no_both}
use Rattle.tp_model.specs.Consistency.{report_of as report_said}
use Rattle.tp_model.specs.Transactions.{child_of as branch_child}
use Rattle.tp_history_state.proofs.marks.Unended.{is_unclean, clean_law}
use Rattle.tp_history_state.proofs.marks.Marked.{IsBranchMark, each_found, marked_law, spread_law}
use Rattle.tp_history_state.proofs.marks.Replied.{Raised, is_committing_named, not_both, named_so, raised_id, raised_so, raises, reply, reply_turn, tree_so}
use Rattle.tp_history_state.proofs.marks.Ends.{ended_by, ends, ends_calm, ends_marking, ends_step, has_rank, is_ended_at, is_open, phase_now, report_is, report_of, and_off}
use Rattle.tp_history_state.specs.Reaching.{marked}
use Rattle.tp_history_state.proofs.marks.BranchMark.{hit_by, left_marked, unmarked}
use Rattle.tp_history_state.proofs.orders.Told.{least, started_from}
use Rattle.tp_history_state.proofs.orders.Rolled.{nothing_there}
use Rattle.tp_histories.proofs.trees.Entered.{entered}
use Rattle.tp_history_state.proofs.marks.Taken.{active_key, left_since}

-- ---- a reply

reply_plain : (i : BranchId) (v : RecState) (t : Transaction) → refused_tx (TxEvent.Reply i v) t ≡ None
unfolding refused_tx
reply_plain i v t = refl

reply_step : (x : Child) (n : ℕ) (o : Origin) (up : Option Addr) (h : List Entry) (from : Addr) (t : Aaid) (i : BranchId) (r : Report) (rec : Option LogRec) (outs : List Out) → IsLegal o up h → (u : Current) → (action o.who (digest o h) (reply from t i r)).next.current ≡ Some u
    → IsStep (marked (is_ended_at x n) x.addr.node) o.who (digest o h) (ended_by x n o (node_key u.key) (record { event = reply from t i r; rec = rec; outs = outs }) h) u
reply_step x n o up h from t i r rec outs legal u is = go (is_committing_named (named_by_branch d t i).current) refl (named_by_branch d t i).kept (named_by_branch d t i).current is
  where
    d : Digest
    d = digest o h

    p : ℕ
    p = x.addr.node

    w : Branch → Bool
    w = is_ended_at x n

    f : TxEvent
    f = TxEvent.Reply i (RecState.Done r)

    e : Entry
    e = record { event = reply from t i r; rec = rec; outs = outs }

    raise_is : (c : Current) → d.current ≡ Some c → ended_by x n o (node_key c.key) e h ≡ raises x n t i r c
    raise_is c now =
        ap (λ (v : Option Current). elim v as (λ _. Bool) [ None ↦ false | Some z ↦ marked (is_open x) p z ] && has_rank n (report_by o (node_key c.key) x e h)) now
        ∙ ap (λ (v : Option Report). marked (is_open x) p c && has_rank n v) (report_is o (node_key c.key) x e h ∙ ap (λ (z : Phase). report_of z None (if is_aaid (node_key c.key).aaid t && is_branch x.branch i then Some r else None)) (phase_now o up h c legal now))

    IsSo : Type 0
    IsSo = IsStep (marked w p) o.who d (ended_by x n o (node_key u.key) e h) u

    still : is_committing_named (named_by_branch d t i).current ≡ false → d.current ≡ Some u → IsSo
    still off now =
        inl (u, now, refl, sym (ap (λ (v : Bool). v || marked w p u) (raise_is u now ∙ not_both (raises x n t i r u) (λ k. contrary (raised_so x n t i r u k)))))
      where
        contrary : Raised x n t i r u → ⊥
        contrary z =
            let named : (named_by_branch d t i).current ≡ Some u = named_so d t i u z.branch now z.tree (raised_id x n t i r u z (spread_law o up h legal u now)) in
            let on : is_committing_named (named_by_branch d t i).current ≡ true = ap is_committing_named named ∙ ap is_committing z.phase in
            cc (on, off)

    turns : is_committing_named (named_by_branch d t i).current ≡ true → (v : Option Current) → d.current ≡ v → (transact o.who f d).next.current ≡ Some u → IsSo
    turns on None now next = absurd (let same : (transact o.who f d).next.current ≡ None = nothing_there o.who f d now in let no : None ≡ Some u = sym same ∙ next in cc (no))
    turns on (Some c) now next =
        elim (started_from (marked w p) (unmarked w p (ends p) (ends_marking x n) Event.Crash refl) o.who d d c f (raises x n t i r c || marked w p c) now (refl, least d.drawn) (λ y j. (at_key y j, at_mark y j)) u next) [
          | inl z ↦ inl (c, now, z.0, z.1 ∙ ap (λ (v : Bool). v || marked w p c) (sym (raise_is c now)) ∙ ap (λ (key : Key). ended_by x n o (node_key key) e h || marked w p c) (sym z.0))
          | inr z ↦ inr (z.0, z.1)
        ]
      where
        s : Transaction
        s = seen o.who d.arcs c

        put : IsPut f s
        put = record { late = late_law o up h legal.grown c now; ok = λ k. reply_plain i (RecState.Done r) s; abort = λ m k. cc (k); ordered = λ k. cc (k); not_begun = λ arcs k. cc (k) }

        at_key : (y : Current) → (turned o.who f d c).next.current ≡ Some y → y.key ≡ c.key
        at_key y j = (left_is (transacted f s).next y j).0 ∙ (passed_turn f s put).key

        at_mark : (y : Current) → (turned o.who f d c).next.current ≡ Some y → marked w p y ≡ (raises x n t i r c || marked w p c)
        at_mark y j = left_marked w p (transacted f s).next y j ∙ reply_turn o.who d.arcs x n t i r c (spread_law o up h legal c now) (tree_so d t i c now on)

    go : (v : Bool) → is_committing_named (named_by_branch d t i).current ≡ v → (k : Option Kept) (c : Option Current)
        → (if v then transact o.who f d
        else elim k as (λ _. Move) [ Some z ↦ keep (settled z (KeptEvent.Done from i r)) d | None ↦ elim c as (λ _. Move) [ Some z ↦ move [] d | None ↦ perform (forget_to from (branch_key t i) i r) d ] ]).next.current ≡ Some u → IsSo
    go true on k c next = turns on d.current refl next
    go false off (Some z) c next = still off next
    go false off None (Some z) next = still off next
    go false off None None next = still off next

-- ---- the mark

counted_first : (g : Current → Bool) (who : Who) (d : Digest) (from : Addr) (v : Bool) (u : Current) → IsStep g who d v u → IsStep g who (counted_in d from) v u
counted_first g who d from v u (inl z) = inl (z.0, z.1, z.2, z.3)
counted_first g who d from v u (inr z) = inr z

ends_mark : (x : Child) (n : ℕ) → IsBranchMark (is_ended_at x n) x.addr.node (ends x.addr.node) (ended_by x n)
ends_mark x n = record {
  marking = ends_marking x n;
  hit = λ o up e h legal on u is. heard o up e h e.event refl legal on u is;
  calm = λ o k e h off. ends_calm x n o k e h off;
  begin = λ m t b k. refl;
}
  where
    p : ℕ
    p = x.addr.node

    w : Branch → Bool
    w = is_ended_at x n

    heard : (o : Origin) (up : Option Addr) (e : Entry) (h : List Entry) (v : Event) → e.event ≡ v → IsLegal o up (e ∷ h) → hit_by (ends p) v ≡ true → (u : Current) → (action o.who (digest o h) v).next.current ≡ Some u
        → IsStep (marked w p) o.who (prelude o.who (digest o h) v) (ended_by x n o (node_key u.key) (record { event = v; rec = e.rec; outs = e.outs }) h) u
    heard o up e h (Event.Arrive from (PeerRecord.OnAssoc a b q (DialogueRecord.Done r))) same legal on u is =
        counted_first (marked w p) o.who (digest o h) from _ u (ends_step x n (DialogueRecord.Done r) refl refl o up h from a b q e.rec e.outs (before_it o up e h legal) (grind (arith, nat_tests, on)) (ap (refusal o.who (digest o h)) (sym same) ∙ legal.grown.0) u is)
    heard o up e h (Event.Arrive from (PeerRecord.OnAssoc a b q (DialogueRecord.RolledBack r))) same legal on u is =
        counted_first (marked w p) o.who (digest o h) from _ u (ends_step x n (DialogueRecord.RolledBack r) refl refl o up h from a b q e.rec e.outs (before_it o up e h legal) (grind (arith, nat_tests, on)) (ap (refusal o.who (digest o h)) (sym same) ∙ legal.grown.0) u is)
    heard o up e h (Event.Arrive from (PeerRecord.OnAssoc a b q DialogueRecord.Left)) same legal on u is =
        counted_first (marked w p) o.who (digest o h) from _ u (ends_step x n DialogueRecord.Left refl refl o up h from a b q e.rec e.outs (before_it o up e h legal) (grind (arith, nat_tests, on)) (ap (refusal o.who (digest o h)) (sym same) ∙ legal.grown.0) u is)
    heard o up e h (Event.Arrive from (PeerRecord.OnAssoc a b q DialogueRecord.LeftEnd)) same legal on u is =
        counted_first (marked w p) o.who (digest o h) from _ u (ends_step x n DialogueRecord.LeftEnd refl refl o up h from a b q e.rec e.outs (before_it o up e h legal) (grind (arith, nat_tests, on)) (ap (refusal o.who (digest o h)) (sym same) ∙ legal.grown.0) u is)
    heard o up e h (Event.Arrive from (PeerRecord.RecReply t i (RecState.Done r))) same legal on u is = reply_step x n o up h from t i r e.rec e.outs (before_it o up e h legal) u is
    heard o up e h _ same legal on u is = absurd (cc (on))

-- an entry of the history ended it
raised_law : (x : Child) (n : ℕ) (o : Origin) (up : Option Addr) (h : List Entry) → IsLegal o up h → (c : Current) → (digest o h).current ≡ Some c → marked (is_ended_at x n) x.addr.node c ≡ some_since o (node_key c.key) (ended_by x n o (node_key c.key)) h
raised_law x n o up h legal c is = marked_law (is_ended_at x n) x.addr.node (ends x.addr.node) (ended_by x n) (ends_mark x n) o up h legal c is

-- ---- nothing ends in active

report_active : (o : Origin) (k : NodeKey) (x : Child) (e : Entry) (h : List Entry) → is_active_in o k h ≡ true → report_by o k x e h ≡ None
report_active o k x e h on = report_is o k x e h ∙ ap (λ (v : Bool). report_of (if v then Phase.Active else if is_rolling_in o k h then Phase.Rolling else phase_by_rec (last_of k (records o h))) (acting_from o x.addr.node e.event h) (replied_report k.aaid x.branch e.event)) on

-- an entry after which the key is active, but for one that begins it, is one before which it is
active_before : (o : Origin) (k : NodeKey) (e : Entry) (h : List Entry) → is_active_in o k (e ∷ h) ≡ true → is_crash e.event ≡ false → begins o k e h ≡ false → is_active_in o k h ≡ true
active_before o k e h on calm off = grind (arith, begins)

none_ended : (x : Child) (o : Origin) (k : NodeKey) (h : List Entry) → is_active_in o k h ≡ true → ended_in o k x h ≡ None
none_ended x o k [] on = refl
none_ended x o k (e ∷ h) on = go (is_crash e.event) refl (begins o k e h) refl (λ j. none_ended x o k h j)
  where
    none : Option Report
    none = None

    flat : (v : Bool) → (if v then none else none) ≡ none
    flat true = refl
    flat false = refl

    go : (v : Bool) → is_crash e.event ≡ v → (b : Bool) → begins o k e h ≡ b → (is_active_in o k h ≡ true → ended_in o k x h ≡ None) → ended_in o k x (e ∷ h) ≡ None
    go true i b j rest = rw (i, ended_in) refl
    go false i true j rest = rw (i, j, ended_in) refl
    go false i false j rest =
        let before : is_active_in o k h ≡ true = active_before o k e h on i j in
        rw (i, j, ended_in) (rw (rest before, report_active o k x e h before) (flat (left_in o k x.addr.node h)))

none_raised_since : (x : Child) (n : ℕ) (o : Origin) (k : NodeKey) (h : List Entry) → is_active_in o k h ≡ true → some_since o k (ended_by x n o k) h ≡ false
none_raised_since x n o k [] on = refl
none_raised_since x n o k (e ∷ h) on = go (is_crash e.event) refl (begins o k e h) refl (λ j. none_raised_since x n o k h j)
  where
    go : (v : Bool) → is_crash e.event ≡ v → (b : Bool) → begins o k e h ≡ b → (is_active_in o k h ≡ true → some_since o k (ended_by x n o k) h ≡ false) → some_since o k (ended_by x n o k) (e ∷ h) ≡ false
    go true i b j rest = rw (i, some_since) refl
    go false i true j rest = rw (i, j, some_since) refl
    go false i false j rest =
        let before : is_active_in o k h ≡ true = active_before o k e h on i j in
        let off : ended_by x n o k e h ≡ false = and_off (elim (digest o h).current as (λ _. Bool) [ None ↦ false | Some c ↦ marked (is_open x) x.addr.node c ]) (ap (has_rank n) (report_active o k x e h before)) in
        rw (i, j, some_since) (rw (off) (rest before))

-- ---- every legal history

kin_find : (bs cs : List Branch) (p : ℕ) (b : Branch) → kin bs ≡ kin cs → find_branch bs p ≡ Some b → (y : Branch) × (find_branch cs p ≡ Some y) × (y.id ≡ b.id)
kin_find [] cs p b same found = absurd (cc (found))
kin_find (a ∷ bs) [] p b same found = absurd (cc (same))
kin_find (a ∷ bs) (c ∷ cs) p b same found = go (a.peer.node == p) refl (λ k. kin_find bs cs p b rest k)
  where
    rest : kin bs ≡ kin cs
    rest = cc (same)

    one : child_of a ≡ child_of c
    one = cc (same)

    peer : (a.peer.node == p) ≡ (c.peer.node == p)
    peer = ap (λ (z : Child). z.addr.node == p) one

    go : (v : Bool) → (a.peer.node == p) ≡ v → (find_branch bs p ≡ Some b → (y : Branch) × (find_branch cs p ≡ Some y) × (y.id ≡ b.id)) → (y : Branch) × ((if c.peer.node == p then Some c else find_branch cs p) ≡ Some y) × (y.id ≡ b.id)
    go true i next =
        let here : Some a ≡ Some b = sym (ap (λ (v : Bool). if v then Some a else find_branch bs p) i) ∙ found in
        let is : a ≡ b = cc (here) in
        (c, ap (λ (v : Bool). if v then Some c else find_branch cs p) (sym peer ∙ i), sym (ap (λ (z : Child). z.branch) one) ∙ ap (λ (z : Branch). z.id) is)
    go false i next =
        let z = next (sym (ap (λ (v : Bool). if v then Some a else find_branch bs p) i) ∙ found) in
        (z.0, ap (λ (v : Bool). if v then Some c else find_branch cs p) (sym peer ∙ i) ∙ z.1, z.2)

-- a branch of a key that is no longer active was there before the entry
stood_before : (o : Origin) (up : Option Addr) (e : Entry) (h : List Entry) → IsLegal o up (e ∷ h) → is_crash e.event ≡ false → (u : Current) → (digest o (e ∷ h)).current ≡ Some u → is_active u.phase ≡ false → (p : ℕ) (b : Branch) → find_branch u.branches p ≡ Some b
    → (c : Current) × ((digest o h).current ≡ Some c) × (u.key ≡ c.key) × ((y : Branch) × (find_branch c.branches p ≡ Some y) × (y.id ≡ b.id))
stood_before o up e h legal calm u is off p b found = go (course_entry o up e h legal)
  where
    d : Digest
    d = digest o h

    s : Digest
    s = prelude o.who d e.event

    m : Move
    m = action o.who d e.event

    IsSo : Type 0
    IsSo = (c : Current) × (d.current ≡ Some c) × (u.key ≡ c.key) × ((y : Branch) × (find_branch c.branches p ≡ Some y) × (y.id ≡ b.id))

    born : (y : Current) → m.next.current ≡ Some y → is_active y.phase ≡ true → IsSo
    born y j act = absurd (let on : is_active u.phase ≡ true = ap (λ (z : Current). is_active z.phase) (some_same u y (sym is ∙ j)) ∙ act in cc (on, off))

    held : (c : Current) → s.current ≡ Some c → u.key ≡ c.key → kin u.branches ≡ kin c.branches → Entered o e h → IsSo
    held c i key same (Crashed j) = absurd (let on : is_crash e.event ≡ true = ap is_crash j in cc (on, calm))
    held c i key same (Begun from t id a begun v cur nil quiet sent) =
        let fresh : kin c.branches ≡ [] = ap (λ (z : Current). kin z.branches) (some_same c (fresh_current (Under t id a.peer)) (sym i ∙ cur)) in
        let z = kin_find u.branches [] p b (same ∙ fresh) found in
        absurd (cc (z.1))
    held c i key same (Plain v begun now) = (c, sym now ∙ i, key, kin_find u.branches c.branches p b same found)

    go : Course o.who (rolls o.who d e.event) (is_unchanged e.event) s.drawn s.current s.boot s.drawn m → IsSo
    go (Free i j fi dr tl) = absurd (no_both m.next.current u j is)
    go (Closed c i j st at fi dr) = absurd (no_both m.next.current u j is)
    go (Held c y i j key st hm fi dr kn) =
        let one : y ≡ u = some_same y u (sym j ∙ is) in
        held c i (ap (λ (z : Current). z.key) (sym one) ∙ key) (ap (λ (z : Current). kin z.branches) (sym one) ∙ kn) (entered o e h legal.grown.0)
    go (Grew c y x i j key act qt fi cn dr kn) = born y j act.1
    go (Rooted y j key act fi dr kn w) = born y j act

since_over : (o : Origin) (k : NodeKey) (f : Entry → List Entry → Bool) (e : Entry) (h : List Entry) → (is_crash e.event || begins o k e h) ≡ true → some_since o k f (e ∷ h) ≡ false
since_over o k f e h over = grind (arith, begins)

since_goes : (o : Origin) (k : NodeKey) (f : Entry → List Entry → Bool) (e : Entry) (h : List Entry) → is_crash e.event ≡ false → begins o k e h ≡ false → some_since o k f (e ∷ h) ≡ (f e h || some_since o k f h)
since_goes o k f e h calm off = rw (calm, off, some_since) refl

ended_over : (x : Child) (o : Origin) (k : NodeKey) (e : Entry) (h : List Entry) → (is_crash e.event || begins o k e h) ≡ true → ended_in o k x (e ∷ h) ≡ None
ended_over x o k e h over = grind (arith, begins)

ended_goes : (x : Child) (o : Origin) (k : NodeKey) (e : Entry) (h : List Entry) → is_crash e.event ≡ false → begins o k e h ≡ false → ended_in o k x (e ∷ h) ≡ elim (ended_in o k x h) as (λ _. Option Report) [ Some r ↦ Some r | None ↦ if left_in o k x.addr.node h then None else report_by o k x e h ]
ended_goes x o k e h calm off = rw (calm, off, ended_in) refl

-- the report with which a branch ended, by its rank
abbrev IsEnded : Child → Origin → List Entry → Type 0
IsEnded x o h = (c : Current) → (digest o h).current ≡ Some c → (b : Branch) → find_branch c.branches x.addr.node ≡ Some b → is_branch b.id x.branch ≡ true → (n : ℕ) → marked (is_ended_at x n) x.addr.node c ≡ has_rank n (ended_in o (node_key c.key) x h)

ended_next : (x : Child) (o : Origin) (up : Option Addr) (e : Entry) (h : List Entry) → IsLegal o up (e ∷ h) → is_crash e.event ≡ false → IsEnded x o h → (u c : Current) → (digest o (e ∷ h)).current ≡ Some u → (digest o h).current ≡ Some c → u.key ≡ c.key → begins o (node_key u.key) e h ≡ false → (y : Branch)
    → find_branch c.branches x.addr.node ≡ Some y → is_branch y.id x.branch ≡ true → (n : ℕ) → marked (is_ended_at x n) x.addr.node u ≡ has_rank n (ended_in o (node_key u.key) x (e ∷ h))
ended_next x o up e h legal calm was u c is now key off y there mine n =
    raised_law x n o up (e ∷ h) legal u is ∙ since_goes o k (ended_by x n o k) e h calm off ∙ go (ended_in o k x h) refl ∙ sym (ap (has_rank n) (ended_goes x o k e h calm off))
  where
    k : NodeKey
    k = node_key u.key

    p : ℕ
    p = x.addr.node

    before : IsLegal o up h
    before = before_it o up e h legal

    since : (m : ℕ) → some_since o k (ended_by x m o k) h ≡ marked (is_ended_at x m) p c
    since m = ap (λ (j : Key). some_since o (node_key j) (ended_by x m o (node_key j)) h) key ∙ sym (raised_law x m o up h before c now)

    at : (m : ℕ) → marked (is_ended_at x m) p c ≡ has_rank m (ended_in o k x h)
    at m = was c now y there mine m ∙ ap (λ (j : Key). has_rank m (ended_in o (node_key j) x h)) (sym key)

    mark : (f : Branch → Bool) → marked f p c ≡ f y
    mark f = ap (λ (v : Option Branch). elim v as (λ _. Bool) [ None ↦ false | Some z ↦ f z ]) there

    self : (m : ℕ) → (m == m) ≡ true
    self m = grind (arith, nat_tests)

    stands : elim (digest o h).current as (λ _. Bool) [ None ↦ false | Some z ↦ marked (is_open x) p z ] ≡ (not y.ended && not y.left)
    stands = ap (λ (v : Option Current). elim v as (λ _. Bool) [ None ↦ false | Some z ↦ marked (is_open x) p z ]) now ∙ mark (is_open x) ∙ ap (λ (v : Bool). v && not y.ended && not y.left) mine

    left : y.left ≡ left_in o k p h
    left = sym (mark (λ b. b.left)) ∙ left_since p o up h before c now ∙ ap (λ (j : Key). left_in o (node_key j) p h) (sym key)

    go : (v : Option Report) → ended_in o k x h ≡ v
        → (ended_by x n o k e h || some_since o k (ended_by x n o k) h) ≡ has_rank n (elim v as (λ _. Option Report) [ Some r ↦ Some r | None ↦ if left_in o k p h then None else report_by o k x e h ])
    go (Some r) i =
        ap (λ (v : Bool). v && has_rank n (report_by o k x e h) || some_since o k (ended_by x n o k) h) (stands ∙ ap (λ (v : Bool). not v && not y.left) ended) ∙ since n ∙ at n ∙ ap (has_rank n) i
      where
        ended : y.ended ≡ true
        ended = second (is_branch y.id x.branch) y.ended (rank y.report == rank r) (sym (mark (is_ended_at x (rank r))) ∙ at (rank r) ∙ ap (has_rank (rank r)) i ∙ self (rank r))
          where
            second : (a b z : Bool) → (a && b && z) ≡ true → b ≡ true
            second a true z j = refl
            second true false z j = absurd (cc (j))
            second false false z j = absurd (cc (j))
    go None i =
        ap (λ (v : Bool). v && has_rank n (report_by o k x e h) || some_since o k (ended_by x n o k) h) (stands ∙ ap (λ (v : Bool). not v && not y.left) free ∙ ap not left)
        ∙ ap (λ (v : Bool). not (left_in o k p h) && has_rank n (report_by o k x e h) || v) (since n ∙ at n ∙ ap (has_rank n) i) ∙ on (left_in o k p h) (report_by o k x e h)
      where
        free : y.ended ≡ false
        free = third (is_branch y.id x.branch) y.ended (rank y.report == rank y.report) mine (self (rank y.report)) (sym (mark (is_ended_at x (rank y.report))) ∙ at (rank y.report) ∙ ap (has_rank (rank y.report)) i)
          where
            third : (a b z : Bool) → a ≡ true → z ≡ true → (a && b && z) ≡ false → b ≡ false
            third a false z i j k = refl
            third true true true i j k = absurd (cc (k))
            third false true z i j k = absurd (cc (i))
            third true true false i j k = absurd (cc (j))

        on : (v : Bool) (z : Option Report) → (not v && has_rank n z || false) ≡ has_rank n (if v then None else z)
        on true z = refl
        on false z = or-false (has_rank n z)

ended_rank : (x : Child) (o : Origin) (up : Option Addr) (h : List Entry) → IsLegal o up h → IsEnded x o h
ended_rank x o up [] legal c is b found mine n = raised_law x n o up [] legal c is
ended_rank x o up (e ∷ h) legal u is b found mine n = go (is_crash e.event) refl (begins o k e h) refl (is_active u.phase) refl (ended_rank x o up h (before_it o up e h legal))
  where
    k : NodeKey
    k = node_key u.key

    over : (is_crash e.event || begins o k e h) ≡ true → marked (is_ended_at x n) x.addr.node u ≡ has_rank n (ended_in o k x (e ∷ h))
    over j = raised_law x n o up (e ∷ h) legal u is ∙ since_over o k (ended_by x n o k) e h j ∙ sym (ap (has_rank n) (ended_over x o k e h j))

    go : (v : Bool) → is_crash e.event ≡ v → (w : Bool) → begins o k e h ≡ w → (a : Bool) → is_active u.phase ≡ a → IsEnded x o h → marked (is_ended_at x n) x.addr.node u ≡ has_rank n (ended_in o k x (e ∷ h))
    go true i w j a l was = over (rw i refl)
    go false i true j a l was = over (rw (i, j) refl)
    go false i false j true l was =
        let on : is_active_in o k (e ∷ h) ≡ true = active_key o up (e ∷ h) u legal is ∙ l in
        raised_law x n o up (e ∷ h) legal u is ∙ none_raised_since x n o k (e ∷ h) on ∙ sym (ap (has_rank n) (none_ended x o k (e ∷ h) on))
    go false i false j false l was =
        let z = stood_before o up e h legal i u is l x.addr.node b found in
        ended_next x o up e h legal i was u z.0 is z.1 z.2 j z.3.0 z.3.1 (ap (λ (y : BranchId). is_branch y x.branch) z.3.2 ∙ mine) n

-- of each branch
self_number : (m : ℕ) → (m == m) ≡ true
self_number m = grind (arith, nat_tests)

ended_branch : (b : Branch) (v : Option Report) → ((n : ℕ) → (is_branch b.id b.id && b.ended && (rank b.report == n)) ≡ has_rank n v) → is_unclean b ≡ false → (same_bool b.ended (is_some v) && (rank b.report == rank (report_said v))) ≡ true
ended_branch b v k clean = go b.ended refl v k clean
  where
    self : is_branch b.id b.id ≡ true
    self = branch_self b.id

    zero : (m : ℕ) → (not (m == 0)) ≡ false → (m == 0) ≡ true
    zero m h = go (m == 0) h
      where
        go : (v : Bool) → not v ≡ false → v ≡ true
        go true i = refl
        go false i = absurd (cc (i))

    go : (e : Bool) → b.ended ≡ e → (v : Option Report) → ((n : ℕ) → (is_branch b.id b.id && b.ended && (rank b.report == n)) ≡ has_rank n v) → is_unclean b ≡ false → (same_bool b.ended (is_some v) && (rank b.report == rank (report_said v))) ≡ true
    go true i (Some r) k clean =
        let at : (rank b.report == rank r) ≡ true = sym (rw (self, i) refl) ∙ k (rank r) ∙ self_number (rank r) in
        rw (i, at) refl
    go true i None k clean =
        absurd (let at : true ≡ false = sym (rw (self, i, self_number (rank b.report)) refl) ∙ k (rank b.report) in cc (at))
    go false i (Some r) k clean =
        absurd (let at : false ≡ true = sym (rw (self, i) refl) ∙ k (rank r) ∙ self_number (rank r) in cc (at))
    go false i None k clean =
        let none : (rank b.report == 0) ≡ true = zero (rank b.report) (sym (ap (λ (v : Bool). not v && not (rank b.report == 0)) i) ∙ clean) in
        rw (i, none) refl

pub ended_law : (o : Origin) (up : Option Addr) (h : List Entry) → IsLegal o up h → ended_agrees o h ≡ true
ended_law o up h legal = go (digest o h).current refl
  where
    go : (v : Option Current) → (digest o h).current ≡ v
        → elim v as (λ _. Bool) [
          | None ↦ true
          | Some c ↦ each_branch (λ b. same_bool b.ended (is_some (ended_in o (node_key c.key) (branch_child b) h)) && (rank b.report == rank (report_said (ended_in o (node_key c.key) (branch_child b) h)))) c.branches
        ] ≡ true
    go None i = refl
    go (Some c) i =
        each_found _ c.branches (spread_law o up h legal c i)
        (λ b found.
        let mark : (f : Branch → Bool) → marked f b.peer.node c ≡ f b = λ f. ap (λ (v : Option Branch). elim v as (λ _. Bool) [ None ↦ false | Some z ↦ f z ]) found in
        ended_branch b (ended_in o (node_key c.key) (branch_child b) h) (λ n. sym (mark (is_ended_at (branch_child b) n)) ∙ ended_rank (branch_child b) o up h legal c i b found (branch_self b.id) n) (sym (mark is_unclean) ∙ clean_law o up h legal c i b.peer.node))
