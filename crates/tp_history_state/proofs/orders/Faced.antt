-- In every legal history the current transaction is a root's or comes from the node's superior, and none of its branches is
-- the superior; or it is one that a start gave, and no arc of the node is or becomes live before it is over.
use Rattle.tp_history_state.proofs.Vocabulary.{if◌then◌else◌, ◌≡◌, ◌⊎◌, inl, inr, ℕ, Bool, true, false, refl, ap, sym, subst, ◌∙◌, arith, Option, Some, None, List, [], ◌∷◌, ◌++◌, ◌==◌, not, nat_tests, Addr, Child, Request, Phase, TxEvent, Who, Origin, Event, Entry, Link, Idle, Opening, Offered, Live, Arc, Key, Root, Under, Current, Digest, is_nil, is_active, is_late, is_live, find_arc, link_with, is_live_with_peer, without_arc, with_dialogue, Transaction, is_under_at, transacted, has_branch_at, refused_request, Move, perform, next_mark, is_superior, phase_of, seen_rows, seen, may_begin_on, begin_on, fresh_current, turned, refusal, verdict, after_crash, started, action, digest, is_at, sent_more, IsGrown, Moves, IsPut, prelude, IsLinked, every_move, root_in, Came, As_it_was, By_begin, By_crash, came_by, kin, kids_seen, kids_left, kids_more, kin_turn, is_headed_by, are_below, kin_below, below_is, below_end, none_below, under_headed, IsPlaced, placed_then, placed_arcs, dead_without, not_above, superior_at, placed_law, headed_first, headed_law, late_law, linked_moves, link_dialogue, link_without, passed_turn, Prelinked, As_before, Now_idle, Now_called, Now_offered, Now_accepted, Now_confirmed, Took_one, called_at, prelinked, left_is, left_branches, traced_law}
use Rattle.tp_histories.proofs.worlds.Unique.{superior_is}
use Rattle.tp_history_state.proofs.lemmas.Begins.{next_child, begun_over, begins_so}

-- neither live nor opening
abbrev is_waiting : Link → Bool
is_waiting Idle = true
is_waiting (Opening x) = false
is_waiting (Offered x) = true
is_waiting (Live x y s t) = false

abbrev AreWaiting : List Arc → Type 0
AreWaiting arcs = (p : ℕ) → is_waiting (link_with arcs p) ≡ true

abbrev Faces : Option Addr → Current → Type 0
Faces up c = (is_headed_by up c.key ≡ true) × (are_below up c.branches ≡ true)

abbrev IsFaced : Option Addr → Digest → Type 0
IsFaced up d = (c : Current) → d.current ≡ Some c → Faces up c ⊎ AreWaiting d.arcs

abbrev IsFacedMove : Option Addr → Digest → Move → Type 0
IsFacedMove up d m = ((p : ℕ) → IsLinked p d m) × (IsPlaced up d → IsFaced up d → IsFaced up m.next)

waits_more : (n : ℕ) (l : Link) → is_waiting l ≡ true → is_waiting (sent_more n l) ≡ true
waits_more n l h1 = grind arith

waits_then : (d : Digest) (m : Move) → ((p : ℕ) → IsLinked p d m) → AreWaiting d.arcs → AreWaiting m.next.arcs
waits_then d m k w p = elim (k p).over.link [ inl i ↦ ap is_waiting i ∙ waits_more _ (link_with d.arcs p) (w p) | inr i ↦ ap is_waiting i ]

-- what is current stays
faced_same : (up : Option Addr) (d : Digest) (m : Move) → m.next.current ≡ d.current → ((p : ℕ) → IsLinked p d m) → IsFaced up d → IsFaced up m.next
faced_same up d m same k h c is = elim (h c (sym same ∙ is)) [ inl f ↦ inl f | inr w ↦ inr (waits_then d m k w) ]

faced_arcs : (up : Option Addr) (d : Digest) (arcs : List Arc) → ((p : ℕ) → is_waiting (link_with d.arcs p) ≡ true → is_waiting (link_with arcs p) ≡ true) → IsFaced up d → IsFaced up (record d { arcs = arcs })
faced_arcs up d arcs k h c is = elim (h c is) [ inl f ↦ inl f | inr w ↦ inr (λ p. k p (w p)) ]

faced_turned : (up : Option Addr) (who : Who) (f : TxEvent) (d : Digest) (c : Current) → d.current ≡ Some c → IsPut f (seen who d.arcs c) → ((p : ℕ) → IsLinked p d (turned who f d c)) → IsFaced up d → IsFaced up (turned who f d c).next
faced_turned up who f d c now put k h u is = elim (h c now) [
  | inl x ↦ inl (ap (is_headed_by up) key ∙ x.0, below_is up u.branches ∙ ap (kin_below up) same ∙ sym (below_is up c.branches) ∙ x.1)
  | inr w ↦ inr (waits_then d (turned who f d c) k w)
]
  where
    t : Transaction
    t = seen who d.arcs c

    next : Transaction
    next = (transacted f t).next

    key : u.key ≡ c.key
    key = (left_is next u is).0 ∙ (passed_turn f t put).key

    same : kin u.branches ≡ kin c.branches
    same = ap kin (left_branches next u is) ∙ kids_left next.rows ∙ kin_turn f t put ∙ kids_seen d.arcs c.branches

faced_begins : (up : Option Addr) (who : Who) (q : ℕ) (d : Digest) → ((p : ℕ) → IsLinked p d (begin_on who q d)) → IsPlaced up d → IsFaced up d → IsFaced up (begin_on who q d).next
faced_begins up who q d k placed h = begins_so (λ m. ((p : ℕ) → IsLinked p d m) → IsFaced up m.next) who q d (λ l. h) sent k
  where
    sent : (c : Current) → d.current ≡ Some c → (a : Arc) → find_arc d.arcs q ≡ Some a → not (may_begin_on who d a) ≡ false → ((p : ℕ) → IsLinked p d (begun_over who q d c a)) → IsFaced up (begun_over who q d c a).next
    sent c i a found j l = λ u is. elim (h c i) [
      | inl x ↦ inl (ap (is_headed_by up) (left_is next u is).0 ∙ x.0, below_is up u.branches ∙ ap (kin_below up) (same u is) ∙ below_end up (kin c.branches) child (sym (below_is up c.branches) ∙ x.1) (not_above up who d q a found j placed))
      | inr w ↦ inr (waits_then d (begun_over who q d c a) l w)
    ]
      where
        child : Child
        child = next_child who d a

        next : Transaction
        next = (transacted (TxEvent.Begun (child ∷ [])) (seen who d.arcs c)).next

        same : (u : Current) → (begun_over who q d c a).next.current ≡ Some u → kin u.branches ≡ kin c.branches ++ child ∷ []
        same u is = ap kin (left_branches next u is) ∙ kids_left next.rows ∙ kids_more (seen_rows d.arcs c.branches) child ∙ ap (λ cs. cs ++ child ∷ []) (kids_seen d.arcs c.branches)

faced_fresh : (up : Option Addr) (k : Key) (d : Digest) → is_headed_by up k ≡ true → d.current ≡ Some (fresh_current k) → IsFaced up d
faced_fresh up k d h cur c is = let same : fresh_current k ≡ c = cc (sym cur ∙ is) in inl (subst (Faces up) same (h, refl))

faced_moves : (up : Option Addr) (who : Who) (e : Event) (s : Digest) → Moves who e s (IsFacedMove up)
faced_moves up who e s = record {
  still = λ d. (λ p. (linked p).still d, λ placed h. h);
  chain = λ d a f one two none. (λ p. (linked p).chain d a f (one.0 p) (two.0 p) none, λ placed h. two.1 (placed_then up d a one.0 placed) (one.1 placed h));
  speaks = λ d outs spoken own said. let k : (p : ℕ) → IsLinked p d (perform outs d) = λ p. (linked p).speaks d outs spoken own said in (k, λ placed h. faced_same up d (perform outs d) refl k h);
  changes_dialogue = λ d q f m by one. (
    λ p. (linked p).changes_dialogue d q f m by (one.0 p),
    λ placed h. one.1 (placed_arcs up d (with_dialogue d.arcs q f) (λ p off. ap is_live (link_dialogue d.arcs q f p) ∙ off) placed) (faced_arcs up d (with_dialogue d.arcs q f) (λ p w. ap is_waiting (link_dialogue d.arcs q f p) ∙ w) h),
  );
  drops_arc = λ d q m at one. (λ p. (linked p).drops_arc d q m at (one.0 p), λ placed h. one.1 (placed_arcs up d (without_arc d.arcs q) (dead_without d.arcs q) placed) (faced_arcs up d (without_arc d.arcs q) (λ p w. ap is_waiting (link_without d.arcs q p) ∙ dropped (q == p) (link_with d.arcs p) w) h));
  notes_kept = λ d ks m held one. (λ p. (linked p).notes_kept d ks m held (one.0 p), λ placed h. one.1 placed h);
  keeps = λ d k f held. let l : (p : ℕ) → IsLinked p d _ = λ p. (linked p).keeps d k f held in (l, λ placed h. faced_same up d _ refl l h);
  turns = λ d c f now at asked put gone. let l : (p : ℕ) → IsLinked p d (turned who f d c) = λ p. (linked p).turns d c f now at asked put gone in (l, λ placed h. faced_turned up who f d c now put l h);
  begins = λ d q may. let l : (p : ℕ) → IsLinked p d (begin_on who q d) = λ p. (linked p).begins d q may in (l, λ placed h. faced_begins up who q d l placed h);
  roots = λ d m nil may one. (λ p. (linked p).roots d m nil may (one.0 p), λ placed h. one.1 placed (faced_fresh up (Root (record { owner = who.site; mark = next_mark who d })) (root_in who d) refl refl));
}
  where
    linked : (p : ℕ) → Moves who e s (IsLinked p)
    linked p = linked_moves who e s p

    dropped : (b : Bool) (l : Link) → is_waiting l ≡ true → is_waiting (if b then Idle else l) ≡ true
    dropped true l w = refl
    dropped false l w = w

-- ---- what comes first in an event

-- nothing is called while a transaction is late
not_called : (who : Who) (d : Digest) (e : Event) (p : ℕ) → refusal who d e ≡ None → called_at e ≡ Some p → is_late (phase_of d) ≡ false
unfolding refusal verdict refused_request
not_called who d (Event.Do (Request.BeginDialogue a u)) p ok at = grind (arith, ok)
not_called who d e p ok at = absurd (cc (at))

faced_first : (o : Origin) (up : Option Addr) (e : Entry) (h : List Entry) → IsGrown o up (e ∷ h) → IsFaced up (digest o h) → IsFaced up (prelude o.who (digest o h) e.event)
unfolding after_crash
faced_first o up e h legal was = first (came_by o.who d e.event legal.0)
  where
    d : Digest
    d = digest o h

    s : Digest
    s = prelude o.who d e.event

    late_so : (q : Phase) → is_nil q ≡ false → is_active q ≡ false → is_late q ≡ true
    late_so q i j = grind (arith, i, j)

    phase : (c : Current) → d.current ≡ Some c → phase_of d ≡ c.phase
    phase c i = ap (λ (v : Option Current). elim v as (λ _. Phase) [ None ↦ Phase.Nil | Some x ↦ x.phase ]) i

    -- of one link, while what is current is late
    link : (c : Current) → d.current ≡ Some c → is_active c.phase ≡ false → AreWaiting d.arcs → (p : ℕ) → Prelinked o.who up p d e.event (link_with s.arcs p) → is_waiting (link_with s.arcs p) ≡ true
    link c i off w p (As_before l t) = ap is_waiting l ∙ w p
    link c i off w p (Now_idle l t) = ap is_waiting l
    link c i off w p (Now_called l a n t b at) =
        absurd (let no : is_late (phase_of d) ≡ false = not_called o.who d e.event p legal.0 at in let on : is_late (phase_of d) ≡ true = ap is_late (phase c i) ∙ late_so c.phase (late_law o up h legal.3 c i) off in cc (on, no))
    link c i off w p (Now_offered x l a t) = ap is_waiting l
    link c i off w p (Now_accepted x l a n t nil) = absurd (let on : is_nil c.phase ≡ true = ap is_nil (sym (phase c i)) ∙ nil in let no : is_nil c.phase ≡ false = late_law o up h legal.3 c i in cc (on, no))
    link c i off w p (Now_confirmed x y l m t) = absurd (let no : is_waiting (link_with d.arcs p) ≡ false = ap is_waiting l in let on : is_waiting (link_with d.arcs p) ≡ true = w p in cc (on, no))
    link c i off w p (Took_one a x y m n r l k at is) = absurd (let no : is_waiting (link_with d.arcs p) ≡ false = ap is_waiting l in let on : is_waiting (link_with d.arcs p) ≡ true = w p in cc (on, no))

    kept : (c : Current) → d.current ≡ Some c → (b : Bool) → is_active c.phase ≡ b → Faces up c ⊎ AreWaiting d.arcs → Faces up c ⊎ AreWaiting s.arcs
    kept c i b j (inl f) = inl f
    kept c i true j (inr w) = inl (headed_law o up h legal.3 c i j)
    kept c i false j (inr w) = inr (λ p. link c i j w p (prelinked o.who up p d e.event (traced_law o up h legal.3).under (traced_law o up h legal.3).declared legal.0))

    first : Came o.who d e.event → IsFaced up s
    first (As_it_was i) = λ c is. let now : d.current ≡ Some c = sym i ∙ is in kept c now (is_active c.phase) refl (was c now)
    first (By_begin from x y q t b g a is found cur nil above) =
        let sup = superior_is d up a.peer.node (traced_law o up h legal.3).under above in
        let at : is_at up a.peer.node ≡ true = rw (sup.1) (grind (arith, nat_tests, sup.2)) in
        faced_fresh up (Under t b a.peer) s at cur
    first (By_crash is cur) = λ c i. inr (λ p. ap (λ (v : Event). is_waiting (link_with (prelude o.who d v).arcs p)) is)

faced_law : (o : Origin) (up : Option Addr) (h : List Entry) → IsGrown o up h → IsFaced up (digest o h)
unfolding started
faced_law o up [] legal = λ c is. inr (λ p. refl)
faced_law o up (e ∷ h) legal = moves.1 (headed_first o up e h legal (headed_law o up h legal.3)).0 (faced_first o up e h legal (faced_law o up h legal.3))
  where
    d : Digest
    d = digest o h

    moves : IsFacedMove up (prelude o.who d e.event) (action o.who d e.event)
    moves = every_move o.who d e.event (IsFacedMove up) (faced_moves up o.who e.event (prelude o.who d e.event)) (late_law o up h legal.3) legal.0

-- ---- on a live arc

pub at_superior : (o : Origin) (up : Option Addr) (h : List Entry) (p : ℕ) → IsGrown o up h → is_live_with_peer (digest o h).arcs p ≡ true → is_superior (digest o h) p ≡ is_at up p
at_superior o up h p legal live = go (placed_law o up h legal)
  where
    go : IsPlaced up (digest o h) → is_superior (digest o h) p ≡ is_at up p
    go (inl s) = superior_at (digest o h) p ∙ ap (λ (v : Option Addr). is_at v p) s
    go (inr n) = absurd (let off : is_live_with_peer (digest o h).arcs p ≡ false = n p in cc (live, off))

waiting_dead : (l : Link) → is_waiting l ≡ true → is_live l ≡ false
waiting_dead l h1 = grind arith

-- it leads to the superior if the transaction came over it, and then to no branch
pub faced_live : (o : Origin) (up : Option Addr) (h : List Entry) (c : Current) (p : ℕ) → IsGrown o up h → (digest o h).current ≡ Some c → is_live_with_peer (digest o h).arcs p ≡ true
    → (is_under_at c.key p ≡ true → is_superior (digest o h) p ≡ true) × (is_superior (digest o h) p ≡ true → has_branch_at c.branches p ≡ false)
faced_live o up h c p legal is live = go (faced_law o up h legal c is)
  where
    at : is_superior (digest o h) p ≡ is_at up p
    at = at_superior o up h p legal live

    go : Faces up c ⊎ AreWaiting (digest o h).arcs → (is_under_at c.key p ≡ true → is_superior (digest o h) p ≡ true) × (is_superior (digest o h) p ≡ true → has_branch_at c.branches p ≡ false)
    go (inl f) = (λ u. at ∙ under_headed up c.key p f.0 u, λ s. none_below up c.branches p f.1 (sym at ∙ s))
    go (inr w) = absurd (let off : is_live_with_peer (digest o h).arcs p ≡ false = waiting_dead (link_with (digest o h).arcs p) (w p) in cc (live, off))
