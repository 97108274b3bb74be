-- A mark of the branch with a peer that some events raise, and that is false where a key begins, in every legal history.
use Rattle.tp_history_state.proofs.Vocabulary.{Bool, List, None, Option, Some, [], ap, arith, false, if◌then◌else◌, inl, inr, refl, subst, sym, true, ℕ, ◌==◌, ◌||◌, ◌∙◌, ◌∷◌, ◌≡◌, nat_tests, Aaid, Addr, BranchId, Child, NodeKey, DialogueRecord, Holder, PeerRecord, LogRec, Branch, Current, Digest, Entry, Event, Origin, Out, Who, is_apart, IsLegal, Row, Transaction, Turn, and_then, child_of, complete_commit, find_row, fresh_branch, node_key, refused_tx, row_holds, transacted, turn, with_row, TxEvent, TxOut, action, recovered_current, refusal, takes_begin, is_give_up_of, some_since, digest, same_bool, seen, transact, turned, IsLate, IsPut, prelude, now_agrees, each_branch, given_up_agrees, find_branch, out_tells, IsMark, IsStep, mark_law, started_again, bool_self, crash_next, kin, late_law, left_is, no_begin, passed_turn, plain_give_up, some_same}
use Rattle.tp_model.specs.Legal.{are_apart}
use Rattle.tp_histories.specs.Restart.{IsFounded}
use Rattle.tp_history_state.specs.Reaching.{marked}
use Rattle.tp_history_state.proofs.marks.BranchMark.{IsMarking, again_same, hit_by, left_marked, rows_completed, row_put, unmarked}
use Rattle.tp_history_state.proofs.orders.Told.{always, least, none_told, raised_event, raised_step, started_from}
use Rattle.tp_histories.proofs.log.WellLog.{founded_by, well_law, well_start}
use Rattle.tp_history_state.proofs.orders.Rolled.{nothing_there}
use Rattle.tp_histories.proofs.log.StartLog.{sound_start}

-- the mark w of the branch with p is raised by what q tells of an entry; it can be only where the entry's event hits it
pub record IsBranchMark (w : Branch → Bool) (p : ℕ) (hits : TxEvent → Bool) (q : Origin → NodeKey → Entry → List Entry → Bool) : Type 0 where
  pub marking : IsMarking w p hits
  pub hit : (o : Origin) (up : Option Addr) (e : Entry) (h : List Entry) → IsLegal o up (e ∷ h) → hit_by hits e.event ≡ true → (u : Current) → (action o.who (digest o h) e.event).next.current ≡ Some u
      → IsStep (marked w p) o.who (prelude o.who (digest o h) e.event) (q o (node_key u.key) e h) u
  pub calm : (o : Origin) (k : NodeKey) (e : Entry) (h : List Entry) → hit_by hits e.event ≡ false → q o k e h ≡ false
  pub begin : (n : ℕ) (t : Aaid) (b : BranchId) (k : Holder) → hits (TxEvent.Took n (DialogueRecord.Begin t b k)) ≡ false

-- the event that begins a key hits none
pub begun_calm : (hits : TxEvent → Bool) → ((n : ℕ) (t : Aaid) (b : BranchId) (k : Holder) → hits (TxEvent.Took n (DialogueRecord.Begin t b k)) ≡ false) → (o : Origin) (h : List Entry) (ev : Event) (rec : Option LogRec) (outs : List Out) (j : NodeKey)
    → takes_begin o (record { event = ev; rec = rec; outs = outs }) h ≡ Some j → hit_by hits ev ≡ false
begun_calm hits h1 o h ev rec outs j h2 = grind (arith, no_begin)

-- what a start gives back has none
pub again_marked : (w : Branch → Bool) (p : ℕ) → ((c : Child) → w (fresh_branch c) ≡ false) → (v : Option Current) (c : Current) → recovered_current v ≡ Some c → marked w p c ≡ false
again_marked w p h1 v c h2 = grind (arith, again_same, marked, some_same)

pub quiet_told : (outs : List Out) → out_tells none_told outs ≡ false
quiet_told [] = refl
quiet_told (Out.Tell i ∷ outs) = quiet_told outs
quiet_told (Out.Send a r ∷ outs) = quiet_told outs

mark_of_branch : (w : Branch → Bool) (p : ℕ) (hits : TxEvent → Bool) (q : Origin → NodeKey → Entry → List Entry → Bool) → IsBranchMark w p hits q → IsMark Bool false (marked w p) (λ o k h. some_since o k (q o k) h) (λ o k e h b. q o k e h || b)
mark_of_branch w p hits q m = record {
  fresh = λ k. refl;
  first = λ o up legal c is. again_marked w p m.marking.fresh (digest o []).current c (started_again o up c legal is);
  crash = λ o up e h legal crash c is. again_marked w p m.marking.fresh (digest o h).current c (sym (crash_next o e h crash) ∙ is) ∙ sym (rw (crash, some_since) refl);
  begun = λ o k e h calm begun. rw (calm, begun, some_since) refl;
  goes = λ o k e h calm off. rw (calm, off, some_since) refl;
  step = λ o up e h legal calm u is. step o up e h legal u is (hit_by hits e.event) refl;
  taken = λ o up e h legal k j begun. rw (m.calm o k e h (begun_calm hits m.begin o h e.event e.rec e.outs j begun)) refl;
}
  where
    step : (o : Origin) (up : Option Addr) (e : Entry) (h : List Entry) → IsLegal o up (e ∷ h) → (u : Current) → (action o.who (digest o h) e.event).next.current ≡ Some u → (b : Bool) → hit_by hits e.event ≡ b
        → IsStep (marked w p) o.who (prelude o.who (digest o h) e.event) (q o (node_key u.key) e h) u
    step o up e h legal u is true on = m.hit o up e h legal on u is
    step o up e h legal u is false off =
        subst (λ (b : Bool). IsStep (marked w p) o.who (prelude o.who (digest o h) e.event) b u) (quiet_told (action o.who (digest o h) e.event).outs ∙ sym (m.calm o (node_key u.key) e h off))
        (raised_step none_told (marked w p) always true o.who (prelude o.who (digest o h) e.event) (action o.who (digest o h) e.event) (raised_event none_told (marked w p) always o.who (digest o h) e.event true (unmarked w p hits m.marking e.event off) (late_law o up h legal.grown.3) legal.grown.0 (λ c i. tt)) u is)

pub marked_law : (w : Branch → Bool) (p : ℕ) (hits : TxEvent → Bool) (q : Origin → NodeKey → Entry → List Entry → Bool) → IsBranchMark w p hits q → (o : Origin) (up : Option Addr) (h : List Entry) → IsLegal o up h → (c : Current) → (digest o h).current ≡ Some c
    → marked w p c ≡ some_since o (node_key c.key) (q o (node_key c.key)) h
marked_law w p hits q m = mark_law Bool false (marked w p) (λ o k h. some_since o k (q o k) h) (λ o k e h b. q o k e h || b) (mark_of_branch w p hits q m)

-- ---- every branch

-- branches stand at different numbers
pub spread_law : (o : Origin) (up : Option Addr) (h : List Entry) → IsLegal o up h → (c : Current) → (digest o h).current ≡ Some c → are_apart (kin c.branches) ≡ true
spread_law o up h legal c is =
    let start : IsFounded o up [] = founded_by o up [] (record { start = legal.start; grown = tt }) in
    ((well_law o up h (well_start o (sound_start o legal.start start.earlier) legal.start start.earlier) legal.grown).inside.2 c is).0

apart_find : (c : Child) (bs : List Branch) (n : ℕ) (x : Branch) → is_apart c (kin bs) ≡ true → find_branch bs n ≡ Some x → (c.addr.node == n) ≡ false
apart_find c [] n x h found = absurd (cc (found))
apart_find c (b ∷ bs) n x h found = go (b.peer.node == n) refl (λ k. apart_find c bs n x (grind (arith, h)) k)
  where
    go : (v : Bool) → (b.peer.node == n) ≡ v → (find_branch bs n ≡ Some x → (c.addr.node == n) ≡ false) → (c.addr.node == n) ≡ false
    go true i rest =
        let off : (c.addr.node == b.peer.node) ≡ false = grind (arith, h) in
        grind (arith, nat_tests, i, off)
    go false i rest = rest (sym (ap (λ (v : Bool). if v then Some b else find_branch bs n) i) ∙ found)

pub each_found : (f : Branch → Bool) (bs : List Branch) → are_apart (kin bs) ≡ true → ((b : Branch) → find_branch bs b.peer.node ≡ Some b → f b ≡ true) → each_branch f bs ≡ true
each_found f [] apart k = refl
each_found f (x ∷ bs) apart k =
    let one : f x ≡ true = k x (rw (self x.peer.node) refl) in
    let rest : each_branch f bs ≡ true = each_found f bs (grind (arith, apart)) (λ b found. k b (later b found)) in
    rw (one, rest) refl
  where
    self : (n : ℕ) → (n == n) ≡ true
    self n = grind (arith, nat_tests)

    later : (b : Branch) → find_branch bs b.peer.node ≡ Some b → find_branch (x ∷ bs) b.peer.node ≡ Some b
    later b found = let off : (x.peer.node == b.peer.node) ≡ false = apart_find (child_of x) bs b.peer.node b (grind (arith, apart)) found in ap (λ (v : Bool). if v then Some x else find_branch bs b.peer.node) off ∙ found

pub each_law : (w : Branch → Bool) (q : ℕ → Origin → NodeKey → Entry → List Entry → Bool) → ((o : Origin) (up : Option Addr) (h : List Entry) → IsLegal o up h → (p : ℕ) (c : Current) → (digest o h).current ≡ Some c → marked w p c ≡ some_since o (node_key c.key) (q p o (node_key c.key)) h)
    → (o : Origin) (up : Option Addr) (h : List Entry) → IsLegal o up h → now_agrees o h (λ k c. each_branch (λ b. same_bool (w b) (some_since o k (q b.peer.node o k) h)) c.branches) ≡ true
each_law w q law o up h legal = go (digest o h).current refl
  where
    go : (v : Option Current) → (digest o h).current ≡ v → elim v as (λ _. Bool) [ None ↦ true | Some c ↦ each_branch (λ b. same_bool (w b) (some_since o (node_key c.key) (q b.peer.node o (node_key c.key)) h)) c.branches ] ≡ true
    go None i = refl
    go (Some c) i =
        each_found _ c.branches (spread_law o up h legal c i)
        (λ b found. bool_self (w b) (some_since o (node_key c.key) (q b.peer.node o (node_key c.key)) h) (sym (ap (λ (v : Option Branch). elim v as (λ _. Bool) [ None ↦ false | Some x ↦ w x ]) found) ∙ law o up h legal b.peer.node c i))

-- ---- given up

abbrev gives : ℕ → TxEvent → Bool
gives p (TxEvent.GiveUp q) = q == p
gives p _ = false

given_marking : (p : ℕ) → IsMarking (λ b. b.given_up) p (gives p)
given_marking p = record {
  fresh = λ c. refl;
  prepared = λ b. refl;
  done = λ q r b off at. refl;
  rolled = λ q r b off at. refl;
  left_late = λ q v b word off at. refl;
  replied = λ i r b off. refl;
  given_up = λ q b off at. absurd (cc (off, at));
  counted = λ q b off at. refl;
  left = λ q r b word off at. refl;
}

given_turn : (p q : ℕ) (t : Transaction) → (q == p) ≡ true → refused_tx (TxEvent.GiveUp q) t ≡ None → row_holds (transacted (TxEvent.GiveUp q) t).next.rows p (λ b. b.given_up) ≡ true
unfolding refused_tx
given_turn p q t at ok = go (find_row t.rows q) refl
  where
    f : Row → Row
    f r = record r { branch = record r.branch { given_up = true }; live = false; ends = false }

    go : (v : Option Row) → find_row t.rows q ≡ v → row_holds (transacted (TxEvent.GiveUp q) t).next.rows p (λ b. b.given_up) ≡ true
    go None i = absurd (grind (arith, ok, i))
    go (Some r) i =
        ap (λ (v : Option Row). row_holds (elim v as (λ _. Turn) [ None ↦ turn [] t | Some x ↦ and_then (turn (if x.live then TxOut.Shut q ∷ [] else []) (with_row t q f)) complete_commit ]).next.rows p (λ b. b.given_up)) i
        ∙ ap (λ (rows : List Row). row_holds rows p (λ b. b.given_up)) (rows_completed (with_row t q f)) ∙ row_put (λ b. b.given_up) p t q f (λ x. refl) r i ∙ ap (λ (b : Bool). if b then true else row_holds t.rows p (λ b. b.given_up)) at

given_mark : (p : ℕ) → IsBranchMark (λ b. b.given_up) p (gives p) (λ o k e h. is_give_up_of p e.event)
given_mark p = record {
  marking = given_marking p;
  hit = λ o up e h legal on u is. heard o up e h e.event refl legal on u is;
  calm = λ o k e h off. calm e.event off;
  begin = λ n t b k. refl;
}
  where
    calm : (v : Event) → hit_by (gives p) v ≡ false → is_give_up_of p v ≡ false
    calm (Event.GiveUp q) off = off
    calm v off = refl

    w : Branch → Bool
    w = λ b. b.given_up

    given : (who : Who) (d : Digest) (q : ℕ) → (q == p) ≡ true → IsLate d → refusal who d (Event.GiveUp q) ≡ None → (v : Option Current) → d.current ≡ v → (u : Current) → (transact who (TxEvent.GiveUp q) d).next.current ≡ Some u → IsStep (marked w p) who d true u
    given who d q at late ok None now u is = absurd (let same : (transact who (TxEvent.GiveUp q) d).next.current ≡ None = nothing_there who (TxEvent.GiveUp q) d now in let no : None ≡ Some u = sym same ∙ is in cc (no))
    given who d q at late ok (Some c) now u is =
        elim (started_from (marked w p) (unmarked w p (gives p) (given_marking p) Event.Crash refl) who d d c (TxEvent.GiveUp q) true now (refl, least d.drawn) (λ x i. (at_key x i, at_mark x i)) u is) [
          | inl z ↦ inl (c, now, z.0, z.1)
          | inr z ↦ inr (z.0, z.1)
        ]
      where
        t : Transaction
        t = seen who d.arcs c

        plain : refused_tx (TxEvent.GiveUp q) t ≡ None
        plain = plain_give_up who d q c ok now

        put : IsPut (TxEvent.GiveUp q) t
        put = record { late = late c now; ok = λ h. plain; abort = λ n h. cc (h); ordered = λ h. cc (h); not_begun = λ arcs h. cc (h) }

        at_key : (x : Current) → (turned who (TxEvent.GiveUp q) d c).next.current ≡ Some x → x.key ≡ c.key
        at_key x i = (left_is (transacted (TxEvent.GiveUp q) t).next x i).0 ∙ (passed_turn (TxEvent.GiveUp q) t put).key

        at_mark : (x : Current) → (turned who (TxEvent.GiveUp q) d c).next.current ≡ Some x → marked w p x ≡ true
        at_mark x i = left_marked w p (transacted (TxEvent.GiveUp q) t).next x i ∙ given_turn p q t at plain

    heard : (o : Origin) (up : Option Addr) (e : Entry) (h : List Entry) (v : Event) → e.event ≡ v → IsLegal o up (e ∷ h) → hit_by (gives p) v ≡ true → (u : Current) → (action o.who (digest o h) v).next.current ≡ Some u → IsStep (marked w p) o.who (prelude o.who (digest o h) v) (is_give_up_of p v) u
    heard o up e h (Event.GiveUp q) same legal on u is = subst (λ (b : Bool). IsStep (marked w p) o.who (digest o h) b u) (sym on) (given o.who (digest o h) q on (late_law o up h legal.grown.3) (ap (refusal o.who (digest o h)) (sym same) ∙ legal.grown.0) (digest o h).current refl u is)
    heard o up e h (Event.Arrive a r) same legal on u is = absurd (let off : hit_by (gives p) (Event.Arrive a r) ≡ false = arrived a r in cc (on, off))
      where
        arrived : (a : Addr) (r : PeerRecord) → hit_by (gives p) (Event.Arrive a r) ≡ false
        arrived a (PeerRecord.RecCommit t b) = refl
        arrived a r = refl
    heard o up e h v same legal on u is = absurd (cc (on))

pub given_up_law : (o : Origin) (up : Option Addr) (h : List Entry) → IsLegal o up h → given_up_agrees o h ≡ true
given_up_law = each_law (λ b. b.given_up) (λ p o k e h. is_give_up_of p e.event) (λ o up h legal p c is. marked_law (λ b. b.given_up) p (gives p) (λ o k e h. is_give_up_of p e.event) (given_mark p) o up h legal c is)
