-- In every legal history the key of an active transaction is a root's or comes from the node's superior, and no branch of it
-- stands at the superior's number.
use Rattle.std.proofs.Common.{if◌then◌else◌, ◌≡◌, ◌⊎◌, inl, inr, ℕ, Bool, true, false, refl, ap, sym, subst, ◌∙◌, arith, Option, Some, None, List, [], ◌∷◌, ◌++◌, ◌&&◌, ◌||◌, ◌==◌, not}
use Rattle.std.proofs.lemmas.Bool.Decides.{nat_tests}
use Rattle.tp_names.specs.declared.identifiers.Addr.{Addr}
use Rattle.tp_names.specs.declared.identifiers.NodeKey.{NodeKey}
use Rattle.tp_names.specs.declared.outcome.Outcome.{Outcome}
use Rattle.tp_names.specs.declared.children.Child.{Child}
use Rattle.tp_logrec.specs.declared.record.LogRec.{LogRec}
use Rattle.tp_model.specs.declared.arc.Phase.{Phase}
use Rattle.tp_model.specs.declared.transaction.TxEvent.{TxEvent}
use Rattle.tp_model.specs.Parts.{Who, Origin, Event, Entry, Link, Idle, Live, Arc, Key, Root, Under, Branch, Current, Digest}
use Rattle.tp_model.specs.Dialogues.{is_active}
use Rattle.tp_model.specs.Links.{is_idle, is_live}
use Rattle.tp_model.specs.Arcs.{find_arc, link_of, link_with, is_live_with_peer, without_arc, with_dialogue}
use Rattle.tp_model.specs.Transactions.{Transaction, is_under_at, transacted}
use Rattle.tp_model.specs.Requests.{has_branch_at}
use Rattle.tp_model.specs.Node.{Move, next_mark, with_mark_drawn, is_superior, seen_rows, seen, with_begun, may_begin_on, begin_on, fresh_current, turned}
use Rattle.tp_model.specs.Events.{recovered_current, key_in_log, current_in_log, decision_of, without_current, current_by, current_from, after_crash, started, action}
use Rattle.tp_model.specs.History.{digest}
use Rattle.tp_model.specs.Questions.{is_at, sent_more}
use Rattle.tp_model.specs.Legal.{IsUnder, IsGrown}
use Rattle.tp_steps.specs.Moves.{Moves, prelude, IsPut}
use Rattle.tp_steps.specs.Passages.{IsPassed}
use Rattle.tp_steps.proofs.every.EveryEvent.{every_move}
use Rattle.tp_steps.specs.Traces.{IsLinked}
use Rattle.tp_histories.proofs.trees.Above.{declared_prelude, undeclared_idle}
use Rattle.tp_histories.proofs.trees.Knowing.{Came, As_it_was, By_begin, By_crash, came_by}
use Rattle.tp_steps.proofs.log.KinTurns.{kin, kids_seen, kids_left, kids_more, kin_turn}
use Rattle.tp_steps.proofs.links.Fading.{live_without}
use Rattle.tp_histories.proofs.trees.Late.{late_law}
use Rattle.tp_steps.proofs.links.Linked.{linked_moves}
use Rattle.tp_steps.proofs.links.Links.{link_dialogue}
use Rattle.tp_steps.proofs.log.Passed.{passed_turn}
use Rattle.tp_steps.proofs.lemmas.Phases.{was_active}
use Rattle.tp_steps.proofs.log.Sound.{left_is, left_branches}
use Rattle.tp_histories.proofs.marks.Traced.{traced_law}
use Rattle.tp_histories.proofs.worlds.Unique.{superior_is}
use Rattle.tp_steps.proofs.every.BeginCases.{begin_cases}

-- ---- the key and the branches, by the node's superior

abbrev pub is_headed_by : Option Addr → Key → Bool
is_headed_by up (Root t) = true
is_headed_by up (Under t b a) = is_at up a.node

abbrev pub are_below : Option Addr → List Branch → Bool
are_below up [] = true
are_below up (b ∷ bs) = not (is_at up b.peer.node) && are_below up bs

abbrev pub kin_below : Option Addr → List Child → Bool
kin_below up [] = true
kin_below up (c ∷ cs) = not (is_at up c.addr.node) && kin_below up cs

pub below_is : (up : Option Addr) (bs : List Branch) → are_below up bs ≡ kin_below up (kin bs)
below_is up [] = refl
below_is up (b ∷ bs) = ap (λ v. not (is_at up b.peer.node) && v) (below_is up bs)

pub below_end : (up : Option Addr) (cs : List Child) (c : Child) → kin_below up cs ≡ true → is_at up c.addr.node ≡ false → kin_below up (cs ++ c ∷ []) ≡ true
below_end up [] c h off = grind (arith, off)
below_end up (d ∷ ds) c h off =
    let rest : kin_below up (ds ++ c ∷ []) ≡ true = below_end up ds c (grind (arith, h)) off in
    grind (arith, h, rest)

pub under_headed : (up : Option Addr) (k : Key) (p : ℕ) → is_headed_by up k ≡ true → is_under_at k p ≡ true → is_at up p ≡ true
under_headed up (Root t) p h i = absurd (cc (i))
under_headed up (Under t b a) p h i = let at : a.node ≡ p = grind (arith, nat_tests, i) in ap (is_at up) (sym at) ∙ h

pub none_below : (up : Option Addr) (bs : List Branch) (p : ℕ) → are_below up bs ≡ true → is_at up p ≡ true → has_branch_at bs p ≡ false
none_below up [] p h i = refl
none_below up (b ∷ bs) p h i = go (b.peer.node == p) refl (none_below up bs p)
  where
    go : (v : Bool) → (b.peer.node == p) ≡ v → (are_below up bs ≡ true → is_at up p ≡ true → has_branch_at bs p ≡ false) → (v || has_branch_at bs p) ≡ false
    go true j rest =
        let at : b.peer.node ≡ p = grind (arith, nat_tests, j) in
        let off : is_at up b.peer.node ≡ false = grind (arith, h) in
        let on : is_at up b.peer.node ≡ true = ap (is_at up) at ∙ i in
        absurd (cc (off, on))
    go false j rest = rest (grind (arith, h)) i

-- ---- a node whose superior is known, or that has no live arc

abbrev pub IsPlaced : Option Addr → Digest → Type 0
IsPlaced up d = (d.superior ≡ up) ⊎ ((p : ℕ) → is_live_with_peer d.arcs p ≡ false)

abbrev pub IsHeaded : Option Addr → Option Current → Type 0
IsHeaded up o = (c : Current) → o ≡ Some c → is_active c.phase ≡ true → (is_headed_by up c.key ≡ true) × (are_below up c.branches ≡ true)

abbrev pub IsHeadedMove : Option Addr → Digest → Move → Type 0
IsHeadedMove up d m = ((p : ℕ) → IsLinked p d m) × (IsPlaced up d → IsHeaded up d.current → IsHeaded up m.next.current)

dead_more : (n : ℕ) (l : Link) → is_live l ≡ false → is_live (sent_more n l) ≡ false
dead_more n (Live x y s t) h = absurd (cc (h))
dead_more n _ h = refl

pub placed_then : (up : Option Addr) (d : Digest) (m : Move) → ((p : ℕ) → IsLinked p d m) → IsPlaced up d → IsPlaced up m.next
placed_then up d m k (inl s) = inl ((k 0).superior ∙ s)
placed_then up d m k (inr n) =
    inr (λ p. elim (k p).over.link [
      | inl i ↦ ap is_live i ∙ dead_more _ (link_with d.arcs p) (n p)
      | inr i ↦ ap is_live i
    ])

pub superior_at : (d : Digest) (p : ℕ) → is_superior d p ≡ is_at d.superior p
superior_at d p = go d.superior
  where
    go : (o : Option Addr) → elim o as (λ _. Bool) [ None ↦ false | Some a ↦ a.node == p ] ≡ is_at o p
    go None = refl
    go (Some a) = refl

-- ---- the steps

headed_turned : (up : Option Addr) (who : Who) (f : TxEvent) (d : Digest) (c : Current) → d.current ≡ Some c → IsPut f (seen who d.arcs c) → IsHeaded up d.current → IsHeaded up (turned who f d c).next.current
headed_turned up who f d c now put h u is on =
    let t : Transaction = seen who d.arcs c in
    let next : Transaction = (transacted f t).next in
    let moved : IsPassed f t t (transacted f t) = passed_turn f t put in
    let key : u.key ≡ c.key = (left_is next u is).0 ∙ moved.key in
    let same : kin u.branches ≡ kin c.branches = ap kin (left_branches next u is) ∙ kids_left next.rows ∙ kin_turn f t put ∙ kids_seen d.arcs c.branches in
    let act : is_active c.phase ≡ true = was_active c.phase next.phase moved.moves (ap is_active (sym (left_is next u is).1) ∙ on) in
    (ap (is_headed_by up) key ∙ (h c now act).0, below_is up u.branches ∙ ap (kin_below up) same ∙ sym (below_is up c.branches) ∙ (h c now act).1)

pub headed_fresh : (up : Option Addr) (k : Key) → is_headed_by up k ≡ true → IsHeaded up (Some (fresh_current k))
headed_fresh up k h c is on = let same : fresh_current k ≡ c = cc (is) in subst (λ (x : Current). (is_headed_by up x.key ≡ true) × (are_below up x.branches ≡ true)) same (h, refl)

-- an arc on which a transaction may begin does not lead to the superior
pub not_above : (up : Option Addr) (who : Who) (d : Digest) (q : ℕ) (a : Arc) → find_arc d.arcs q ≡ Some a → not (may_begin_on who d a) ≡ false → IsPlaced up d → is_at up a.peer.node ≡ false
not_above up who d q a found may (inl s) =
    let off : is_superior d a.peer.node ≡ false = grind (arith, may) in
    ap (λ (o : Option Addr). is_at o a.peer.node) (sym s) ∙ sym (superior_at d a.peer.node) ∙ off
not_above up who d q a found may (inr n) =
    let live : is_live a.link ≡ true = grind (arith, may) in
    let dead : is_live a.link ≡ false = ap (λ (o : Option Arc). is_live (link_of o)) (sym found) ∙ n q in
    absurd (cc (live, dead))

headed_begun : (up : Option Addr) (who : Who) (d : Digest) (c : Current) (a : Arc) → d.current ≡ Some c → is_at up a.peer.node ≡ false → IsHeaded up d.current
    → IsHeaded up (with_begun who (with_mark_drawn d) c (record { addr = a.peer; branch = record { superior = who.site; mark = next_mark who d } })).current
headed_begun up who d c a i off h u is on =
    let child : Child = record { addr = a.peer; branch = record { superior = who.site; mark = next_mark who d } } in
    let next : Transaction = (transacted (TxEvent.Begun (child ∷ [])) (seen who d.arcs c)).next in
    let same : kin u.branches ≡ kin c.branches ++ child ∷ [] =
    ap kin (left_branches next u is) ∙ kids_left next.rows ∙ kids_more (seen_rows d.arcs c.branches) child ∙ ap (λ cs. cs ++ child ∷ []) (kids_seen d.arcs c.branches) in
    let act : is_active c.phase ≡ true = ap is_active (sym (left_is next u is).1) ∙ on in (
      ap (is_headed_by up) (left_is next u is).0 ∙ (h c i act).0,
      below_is up u.branches ∙ ap (kin_below up) same ∙ below_end up (kin c.branches) child (sym (below_is up c.branches) ∙ (h c i act).1) off,
    )

headed_begins : (up : Option Addr) (who : Who) (q : ℕ) (d : Digest) → IsPlaced up d → IsHeaded up d.current → IsHeaded up (begin_on who q d).next.current
headed_begins up who q d placed h = begin_cases (λ (m : Move). IsHeaded up m.next.current) who q d h (λ c a i found j. headed_begun up who d c a i (not_above up who d q a found (grind (arith, j)) placed) h)

-- a change of the arcs that leaves dead links dead
pub placed_arcs : (up : Option Addr) (d : Digest) (arcs : List Arc) → ((p : ℕ) → is_live_with_peer d.arcs p ≡ false → is_live_with_peer arcs p ≡ false) → IsPlaced up d → IsPlaced up (record d { arcs = arcs })
placed_arcs up d arcs k (inl s) = inl s
placed_arcs up d arcs k (inr n) = inr (λ p. k p (n p))

pub dead_without : (arcs : List Arc) (q p : ℕ) → is_live_with_peer arcs p ≡ false → is_live_with_peer (without_arc arcs q) p ≡ false
dead_without arcs q p h = live_without arcs q p ∙ go (q == p)
  where
    go : (b : Bool) → (if b then false else is_live_with_peer arcs p) ≡ false
    go true = refl
    go false = h

pub headed_moves : (up : Option Addr) (who : Who) (e : Event) (s : Digest) → Moves who e s (IsHeadedMove up)
headed_moves up who e s = record {
  still = λ d. (λ p. (linked p).still d, λ placed h. h);
  chain = λ d a f one two none. (λ p. (linked p).chain d a f (one.0 p) (two.0 p) none, λ placed h. two.1 (placed_then up d a one.0 placed) (one.1 placed h));
  speaks = λ d outs spoken own said. (λ p. (linked p).speaks d outs spoken own said, λ placed h. h);
  changes_dialogue = λ d q f m by one. (
    λ p. (linked p).changes_dialogue d q f m by (one.0 p),
    λ placed h. one.1 (placed_arcs up d (with_dialogue d.arcs q f) (λ p off. ap is_live (link_dialogue d.arcs q f p) ∙ off) placed) h,
  );
  drops_arc = λ d q m at one. (λ p. (linked p).drops_arc d q m at (one.0 p), λ placed h. one.1 (placed_arcs up d (without_arc d.arcs q) (dead_without d.arcs q) placed) h);
  notes_kept = λ d ks m held one. (λ p. (linked p).notes_kept d ks m held (one.0 p), λ placed h. one.1 placed h);
  keeps = λ d k f held. (λ p. (linked p).keeps d k f held, λ placed h. h);
  turns = λ d c f now at asked put gone. (λ p. (linked p).turns d c f now at asked put gone, λ placed h. headed_turned up who f d c now put h);
  begins = λ d q may. (λ p. (linked p).begins d q may, λ placed h. headed_begins up who q d placed h);
  roots = λ d m nil may one. (λ p. (linked p).roots d m nil may (one.0 p), λ placed h. one.1 placed (headed_fresh up (Root _) refl));
}
  where
    linked : (p : ℕ) → Moves who e s (IsLinked p)
    linked p = linked_moves who e s p

-- ---- what comes first in an event

above_first : (up : Option Addr) (who : Who) (d : Digest) (e : Event) → IsUnder up e → (d.declared ≡ true → d.superior ≡ up) → (prelude who d e).declared ≡ true → (prelude who d e).superior ≡ up
unfolding after_crash
above_first up who d (Event.Declare s) under here h = under
above_first up who d (Event.Do r) under here h =
    let one : (prelude who d (Event.Do r)).superior ≡ d.superior = grind arith in
    let two : (prelude who d (Event.Do r)).declared ≡ d.declared = grind arith in
    one ∙ here (sym two ∙ h)
above_first up who d (Event.Arrive from r) under here h =
    let one : (prelude who d (Event.Arrive from r)).superior ≡ d.superior = grind arith in
    let two : (prelude who d (Event.Arrive from r)).declared ≡ d.declared = grind arith in
    one ∙ here (sym two ∙ h)
above_first up who d Event.Crash under here h = absurd (cc (h))
above_first up who d _ under here h = here h

idle_dead : (l : Link) → is_idle l ≡ true → is_live l ≡ false
idle_dead Idle h = refl
idle_dead _ h = absurd (cc (h))

-- ---- what the log gives is not active

abbrev IsDormant : Option Current → Type 0
IsDormant o = (c : Current) → o ≡ Some c → is_active c.phase ≡ false

dormant_crash : (o : Option Current) → IsDormant (recovered_current o)
dormant_crash None c is = absurd (cc (is))
dormant_crash (Some u) c is = go u.phase refl
  where
    go : (q : Phase) → u.phase ≡ q → is_active c.phase ≡ false
    go Phase.Nil j = let none : None ≡ Some c = rw (j, recovered_current) at is in absurd (cc (none))
    go Phase.Active j = let none : None ≡ Some c = rw (j, recovered_current) at is in absurd (cc (none))
    go Phase.Ready j = grind (arith, is, j)
    go Phase.Committing j = grind (arith, is, j)
    go Phase.Rolling j = let none : None ≡ Some c = rw (j, recovered_current) at is in absurd (cc (none))

dormant_logged : (k : Option Key) (p : Phase) (cs : List Child) (u : Option Outcome) → is_active p ≡ false → IsDormant (current_in_log k p cs u)
dormant_logged None p cs u n c is = absurd (cc (is))
dormant_logged (Some k) p cs u n c is = let phase : p ≡ c.phase = grind (arith, is) in ap is_active (sym phase) ∙ n

dormant_let_go : (k : NodeKey) (o : Option Current) → IsDormant o → IsDormant (without_current k o)
dormant_let_go k None h c is = absurd (cc (is))
dormant_let_go k (Some x) h c is = h c (grind (arith, is))

dormant_by : (r : LogRec) (o : Option Current) → IsDormant o → IsDormant (current_by r o)
dormant_by (LogRec.Boot n) o h = h
dormant_by (LogRec.Ready n k s cs) o h = dormant_logged (key_in_log k (Some s)) Phase.Ready cs None refl
dormant_by (LogRec.Heuristic n k u) None h = λ c is. absurd (cc (is))
dormant_by (LogRec.Heuristic n k u) (Some x) h = λ c is. let same : ◌≡◌ {A = Current} (record x { decision = Some u }) c = cc (is) in ap (λ (y : Current). is_active y.phase) (sym same) ∙ h x refl
dormant_by (LogRec.Commit n k s cs) o h = dormant_logged (key_in_log k s) Phase.Committing cs (decision_of o) refl
dormant_by (LogRec.Damage n k s u v cs) o h = dormant_let_go k o h
dormant_by (LogRec.End n k u) o h = dormant_let_go k o h

dormant_from : (o : Option Current) (rs : List LogRec) → IsDormant o → IsDormant (current_from o rs)
dormant_from o [] h = h
dormant_from o (r ∷ rs) h = dormant_from (current_by r o) rs (dormant_by r o h)

headed_start : (up : Option Addr) (o : Origin) → IsHeaded up (digest o []).current
unfolding started
headed_start up o c is on = absurd (cc (dormant_from None o.start.records (λ x i. absurd (cc (i))) c is, on))

-- ---- every legal history

pub placed_law : (o : Origin) (up : Option Addr) (h : List Entry) → IsGrown o up h → IsPlaced up (digest o h)
placed_law o up h legal = go (digest o h).declared refl
  where
    go : (b : Bool) → (digest o h).declared ≡ b → IsPlaced up (digest o h)
    go true i = inl ((traced_law o up h legal).declared i)
    go false i = inr (λ p. idle_dead (link_with (digest o h).arcs p) (undeclared_idle o up h legal p i))

-- after what comes first in an event
pub headed_first : (o : Origin) (up : Option Addr) (e : Entry) (h : List Entry) → IsGrown o up (e ∷ h) → IsHeaded up (digest o h).current
    → IsPlaced up (prelude o.who (digest o h) e.event) × IsHeaded up (prelude o.who (digest o h) e.event).current
headed_first o up e h legal was = (placed, first (came_by o.who d e.event legal.0) was)
  where
    d : Digest
    d = digest o h

    s : Digest
    s = prelude o.who d e.event

    placed : IsPlaced up s
    placed = go s.declared refl
      where
        go : (b : Bool) → s.declared ≡ b → IsPlaced up s
        go true i = inl (above_first up o.who d e.event legal.2 (traced_law o up h legal.3).declared i)
        go false i = inr (λ p. idle_dead (link_with s.arcs p) (declared_prelude o.who d e.event legal.0 (undeclared_idle o up h legal.3) p i))

    first : Came o.who d e.event → IsHeaded up d.current → IsHeaded up s.current
    first (As_it_was i) k = subst (IsHeaded up) (sym i) k
    first (By_begin from x y q t b g a is found cur nil above) k =
        let sup = superior_is d up a.peer.node (traced_law o up h legal.3).under above in
        let at : is_at up a.peer.node ≡ true = rw (sup.1) (grind (arith, nat_tests, sup.2)) in
        subst (IsHeaded up) (sym cur) (headed_fresh up (Under t b a.peer) at)
    first (By_crash is cur) k = subst (IsHeaded up) (sym cur) (λ c i on. absurd (cc (dormant_crash d.current c i, on)))

pub headed_law : (o : Origin) (up : Option Addr) (h : List Entry) → IsGrown o up h → IsHeaded up (digest o h).current
headed_law o up [] legal = headed_start up o
headed_law o up (e ∷ h) legal = let first = headed_first o up e h legal (headed_law o up h legal.3) in moves.1 first.0 first.1
  where
    d : Digest
    d = digest o h

    s : Digest
    s = prelude o.who d e.event

    moves : IsHeadedMove up s (action o.who d e.event)
    moves = every_move o.who d e.event (IsHeadedMove up) (headed_moves up o.who e.event s) (late_law o up h legal.3) legal.0
