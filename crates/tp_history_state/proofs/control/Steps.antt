-- Every event that makes no change of its own to the dialogue with a peer changes control on it as its signs tell.
use Rattle.tp_history_state.proofs.Vocabulary.{Bool, List, None, Option, Some, [], ap, arith, false, if◌then◌else◌, inl, inr, not, refl, subst, suc, sym, true, ℕ, ◌&&◌, ◌==◌, ◌||◌, ◌∙◌, ◌∷◌, ◌≡◌, ◌≤◌, ◌⊎◌, Addr, Child, is_late, is_nil, is_rolling, is_polarized, Current, Who, Event, Digest, Arc, Branch, Dialogue, Key, Idle, Move, move, followed, perform, seen, Passage, Leaves, passage, is_leaving, entered, played, turned, is_superior, is_arc_of, remaining, phase_of, fresh_current, keep, with_mark_drawn, is_over, transact, try_start, is_at, has_said, said_to, logs_ready_or_commit, Phase, Transaction, Turn, is_under_at, row_holds, transacted, TxEvent, has_branch_at, is_live, is_live_with_peer, with_dialogue, without_arc, link_with, is_unchanged, settled, falls, loses, IsAsked, IsChange, IsLate, IsPut, Moves, gives_to, responds_to, IsLinked, Steps, asks_tell, out_tells, IsHeadedMove, IsPlaced, dead_without, headed_moves, placed_arcs, superior_at, Thins, thins_dialogue, thins_moves, thins_without, thins_entered, carries_none, keeps_without, live_back, said_none, is_rolled_told, staged_turn, kids_left, kids_seen, kin, kin_turn, late_fresh, late_moves, leaves_so, left_branches, left_is, link_dialogue, linked_moves, passed_turn, seen_branch, quiet_start, step_start, settled_spoken, tells_rolled, told_played, nothing_late, whole_turn, started_next}
use Rattle.tp_history_state.proofs.control.Moves.{IsWell, Stands, Controls, IsPast, IsBareAt, is_branch_at, stands_moved, stands_quiet, stands_performed, stands_begins, well_then, unsigned, unsigned_settled}
use Rattle.tp_history_state.proofs.control.Turned.{Meets, Plays, Over, played_control, entered_control, gift_alien, shift_alien}
use Rattle.tp_history_state.proofs.control.Arcs.{Alike, control_at, is_gift, is_ruled, ruled_live, same_dialogue, same_self, same_without}
use Rattle.tp_history_state.proofs.control.Turns.{Passes, late_before, passes}
use Rattle.tp_history_state.proofs.rests.Foreign.{is_foreign, foreign_turn, none_narrow, said_played}
use Rattle.tp_history_state.proofs.passages.Shown.{clears, clears_early, is_early, rolling_left}
use Rattle.tp_history_state.proofs.control.Signs.{Signs, Unshifted, effect, is_shift, no_signs, plus, plus_plus, signs, signs_then, unshifted}
use Rattle.tp_history_state.proofs.orders.OverTold.{is_over_told}
use Rattle.tp_history_state.proofs.lemmas.Passages.{no_leaving, over_is}
use Rattle.tp_history_state.proofs.lemmas.Spoken.{quiet_settled}

-- ---- an event of the transaction

-- what the event of the node says of the branch, and of its transaction
pub record IsGiven (who : Who) (e : Event) (s : Digest) (p : ℕ) (branch fall : Bool) : Type 0 where
  pub is_branch : (c : Current) → s.current ≡ Some c → (is_under_at c.key p || has_branch_at c.branches p) ≡ branch
  pub early : fall ≡ true → (c : Current) → s.current ≡ Some c → is_early c.phase ≡ true
  pub falls_so : (c : Current) (f : TxEvent) (arcs : List Arc) → s.current ≡ Some c → IsAsked e c f → falls f (seen who arcs c) ≡ true → fall ≡ true
  pub stays : is_unchanged e ≡ false

effect_from : (above branch fall : Bool) (old : Bool × Bool) (rolling : Bool) (y : Signs) (c k : Bool) → y.begun ≡ None → y.over ≡ c → (y.logged || fall && (rolling || y.rolled)) ≡ k
    → effect above branch fall old rolling y ≡ (if y.given then (false, false) else if c && branch && not above then (true, false) else if k && branch then (false, false) else old)
effect_from above branch fall old rolling y c k h i j = rw (h, i, j) refl

compare : (g c k b above : Bool) (z : Bool × Bool) → (g ≡ true → (c && b && not above) ≡ true) → (c ≡ true → b ≡ true → above ≡ true → k ≡ false → z ≡ (false, false))
    → (if c then Over above b g (if k && b then (false, false) else z) else (if k && b then (false, false) else z)) ≡ (if g then (false, false) else if c && b && not above then (true, false) else if k && b then (false, false) else z)
compare g c k b above z h1 h2 = grind arith

late_over : (p q : Phase) → is_over (passage false p q) ≡ true → clears (passage false p q) ≡ false → is_late p ≡ true
late_over p q h1 h2 = grind arith

ungiven : (p : ℕ) (d : Digest) (t : Transaction) (w : Passage) (asks : Turn) (xs : List Arc) → is_over w ≡ false → carries_none is_gift asks.outs ≡ true → has_said is_gift (said_to p (played d t w asks xs).1) ≡ false
unfolding played
ungiven p d t w asks xs h1 h2 = grind (arith, said_none)

abbrev child_at : List Child → ℕ → Bool
child_at [] p = false
child_at (c ∷ cs) p = (c.addr.node == p) || child_at cs p

branch_kin : (bs : List Branch) (p : ℕ) → has_branch_at bs p ≡ child_at (kin bs) p
branch_kin [] p = refl
branch_kin (b ∷ bs) p = ap (λ (v : Bool). (b.peer.node == p) || v) (branch_kin bs p)

stands_turned : (up : Option Addr) (p : ℕ) (branch fall : Bool) (old : Bool × Bool) (s : Digest) (who : Who) (e : Event) (d : Digest) (c : Current) (f : TxEvent) → IsGiven who e s p branch fall → d.current ≡ Some c → s.current ≡ Some c → IsAsked e c f → IsPut f (seen who d.arcs c)
    → IsLinked p d (turned who f d c) → IsWell up d → Stands up p branch fall old s no_signs d → Stands up p branch fall old s (signs p (turned who f d c)) (turned who f d c).next
stands_turned up p branch fall old s who e d c f given now at asked put link well st = record {
  drawn = st.drawn;
  state = state;
  past = past;
  bare = bare;
  begun = λ k is. absurd (cc (is, uns.begun));
  calm = λ same drawn. calm (same ∙ at);
  unsaid = (uns.left, uns.answered);
}
  where
    above : Bool
    above = is_at up p

    t : Transaction
    t = seen who d.arcs c

    a : Turn
    a = transacted f t

    w : Passage
    w = passage (is_leaving f) t.phase a.next.phase

    v : Passage
    v = passage false t.phase a.next.phase

    xs : List Arc
    xs = entered t w d.arcs

    m : Move
    m = turned who f d c

    off : is_leaving f ≡ false
    off = go (is_leaving f) refl
      where
        go : (b : Bool) → is_leaving f ≡ b → b ≡ false
        go true i = absurd (let on : is_unchanged e ≡ true = leaves_so e c f asked i in cc (on, given.stays))
        go false i = refl

    plain : w ≡ v
    plain = ap (λ (b : Bool). passage b t.phase a.next.phase) off

    never : w ≡ Leaves → ⊥
    never h = no_leaving t.phase a.next.phase (sym plain ∙ h)

    pass : Passes f t fall
    pass = passes f t fall put off (λ i. given.early i c at) (λ i. given.falls_so c f d.arcs at asked i)

    alien : carries_none is_foreign a.outs ≡ true
    alien = foreign_turn f t off put

    gifts : carries_none is_gift a.outs ≡ true
    gifts = none_narrow is_gift gift_alien a.outs alien

    uns : Unshifted (said_to p m.outs)
    uns = unshifted (said_to p m.outs) (said_played is_shift refl d t w a (whole_turn f t) xs p (none_narrow is_shift shift_alien a.outs alien))

    told_over : out_tells is_over_told m.outs ≡ asks_tell is_over_told a.outs
    told_over = told_played is_over_told d t w a (whole_turn f t) xs

    told_rolled : tells_rolled m ≡ asks_tell is_rolled_told a.outs
    told_rolled = told_played is_rolled_told d t w a (whole_turn f t) xs

    rolling : is_rolling (phase_of m.next) ≡ is_rolling a.next.phase
    rolling = rolling_left a.next

    told_is : out_tells is_over_told m.outs ≡ is_over w
    told_is = told_over ∙ sym pass.complete ∙ sym (ap is_over plain)

    entered_is : (logs_ready_or_commit a.rec || fall && (is_rolling (phase_of m.next) || tells_rolled m)) ≡ clears w
    entered_is = ap (λ (b : Bool). logs_ready_or_commit a.rec || fall && (b || tells_rolled m)) rolling ∙ ap (λ (b : Bool). logs_ready_or_commit a.rec || fall && (is_rolling a.next.phase || b)) told_rolled ∙ sym pass.clear ∙ sym (ap clears plain)

    arc_is : (is_under_at c.key p || row_holds t.rows p (λ b. true)) ≡ branch
    arc_is = ap (λ (b : Bool). is_under_at c.key p || b) (seen_branch d.arcs c.branches p) ∙ given.is_branch c at

    all : (x : Arc) → x.peer.node ≡ p → is_arc_of t x ≡ branch
    all x i = ap (λ (n : ℕ). is_under_at c.key n || row_holds t.rows n (λ b. true)) i ∙ arc_is

    meets : is_live_with_peer d.arcs p ≡ true → Meets p above branch d t
    meets live = record { side = side well.2; all = all; under = λ top on. under top (given.is_branch c at ∙ on) }
      where
        side : IsPlaced up d → is_superior d p ≡ above
        side (inl i) = superior_at d p ∙ ap (λ (o : Option Addr). is_at o p) i
        side (inr k) = absurd (let dead : is_live_with_peer d.arcs p ≡ false = k p in cc (live, dead))

        under : above ≡ true → (is_under_at c.key p || has_branch_at c.branches p) ≡ true → is_under_at c.key p ≡ true
        under top i = only (is_under_at c.key p) (has_branch_at c.branches p) i (st.bare top c now live)
          where
            only : (x y : Bool) → (x || y) ≡ true → y ≡ false → x ≡ true
            only true y h i = refl
            only false y h i = absurd (cc (h, i))

    was_old : is_ruled p d.arcs ≡ true → control_at p d.arcs ≡ old
    was_old h = (st.state h).1 ∙ go fall refl
      where
        go : (b : Bool) → fall ≡ b → effect above branch fall old (is_rolling (phase_of d)) no_signs ≡ old
        go false i = rw i refl
        go true i = let calm : is_rolling (phase_of d) ≡ false = ap (λ (o : Option Current). is_rolling (elim o as (λ _. Phase) [ None ↦ Phase.Nil | Some y ↦ y.phase ])) now ∙ flat c.phase (given.early i c at) in rw (calm, i) refl
          where
            flat : (q : Phase) → is_early q ≡ true → is_rolling q ≡ false
            flat q h = grind (arith, h)

    both : (h : is_ruled p m.next.arcs ≡ true) → Plays p above branch w xs m.next.arcs m.outs × (is_ruled p d.arcs ≡ true) × (control_at p xs ≡ (if clears w && branch then (false, false) else control_at p d.arcs))
    both h =
        let k : Plays p above branch w xs m.next.arcs m.outs = played_control p above branch d t w a (whole_turn f t) xs never (meets (live_back p d m link (ruled_live p m.next.arcs h))) ((thins_entered t w d.arcs).apart well.0) gifts h in
        let l = entered_control p branch t w d.arcs all k.ruled in
        (k, l.0, l.1)

    state : is_ruled p m.next.arcs ≡ true → (is_ruled p s.arcs ≡ true) × (control_at p m.next.arcs ≡ effect above branch fall old (is_rolling (phase_of m.next)) (signs p m))
    state h =
        let k = both h in
        let was = was_old k.1 in
        let g : Bool = has_said is_gift (said_to p m.outs) in (
          (st.state k.1).0,
          k.0.control
              ∙ ap (λ (z : Bool × Bool). if is_over w then Over above branch g z else z) (k.2 ∙ ap (λ (z : Bool × Bool). if clears w && branch then (false, false) else z) was)
              ∙ compare g (is_over w) (clears w) branch above old k.0.gift (λ i j top l. sym was ∙ st.past top c now (top_under top j k.1) (late_over t.phase a.next.phase (ap is_over (sym plain) ∙ i) (ap clears (sym plain) ∙ l)) k.1)
              ∙ sym (effect_from above branch fall old (is_rolling (phase_of m.next)) (signs p m) (is_over w) (clears w) uns.begun told_is entered_is),
        )
      where
        top_under : above ≡ true → branch ≡ true → is_ruled p d.arcs ≡ true → is_under_at c.key p ≡ true
        top_under top on ruled = (meets (ruled_live p d.arcs ruled)).under top on

    past : IsPast up p m.next
    past top u is under late h = k.0.control ∙ rw unended refl ∙ k.2 ∙ go (clears w) refl
      where
        k : Plays p above branch w xs m.next.arcs m.outs × (is_ruled p d.arcs ≡ true) × (control_at p xs ≡ (if clears w && branch then (false, false) else control_at p d.arcs))
        k = both h

        left : (u.key ≡ a.next.key) × (u.phase ≡ a.next.phase) × (is_nil a.next.phase ≡ false)
        left = let l = left_is a.next u is in (l.0, l.1, l.3)

        unended : is_over w ≡ false
        unended = ap is_over plain ∙ over_is t.phase a.next.phase put.late ∙ left.2

        under_old : is_under_at c.key p ≡ true
        under_old = ap (λ (j : Key). is_under_at j p) (sym (left.0 ∙ (passed_turn f t put).key)) ∙ under

        on : branch ≡ true
        on = sym (given.is_branch c at) ∙ rw under_old refl

        go : (b : Bool) → clears w ≡ b → (if clears w && branch then (false, false) else control_at p d.arcs) ≡ (false, false)
        go true i = rw (i, on) refl
        go false i = rw i (st.past top c now under_old (late_before t.phase a.next.phase put.late (ap is_late (sym left.1) ∙ late) (ap clears (sym plain) ∙ i)) k.1)

    bare : IsBareAt up p m.next
    bare top u is live =
        let same : kin u.branches ≡ kin c.branches = ap kin (left_branches a.next u is) ∙ kids_left a.next.rows ∙ kin_turn f t put ∙ kids_seen d.arcs c.branches in
        branch_kin u.branches p ∙ ap (λ (cs : List Child). child_at cs p) same ∙ sym (branch_kin c.branches p) ∙ st.bare top c now (live_back p d m link live)

    calm : remaining a.next ≡ Some c → signs p m ≡ no_signs
    calm is = rw (uns.begun, ungiven p d t w a xs unended gifts, told_is ∙ unended, none_rolled (tells_rolled m) refl, none_logged (logs_ready_or_commit a.rec) refl, uns.left, uns.answered) refl
      where
        left : (c.phase ≡ a.next.phase) × (is_nil a.next.phase ≡ false)
        left = let l = left_is a.next c is in (l.1, l.3)

        unended : is_over w ≡ false
        unended = ap is_over plain ∙ over_is t.phase a.next.phase put.late ∙ left.1

        none_rolled : (b : Bool) → tells_rolled m ≡ b → tells_rolled m ≡ false
        none_rolled false i = i
        none_rolled true i = absurd (let on : is_nil a.next.phase ≡ true = (staged_turn f t put).ended (sym told_rolled ∙ i) in let no : is_nil a.next.phase ≡ false = left.1 in cc (on, no))

        none_logged : (b : Bool) → logs_ready_or_commit a.rec ≡ b → logs_ready_or_commit a.rec ≡ false
        none_logged false i = i
        none_logged true i = absurd ((clears_early t.phase a.next.phase (pass.clear ∙ rw i refl)).1 (sym left.0))

-- ---- chains

pub controls_then : (up : Option Addr) (p : ℕ) (branch fall : Bool) (old : Bool × Bool) (s d : Digest) (a : Move) (f : Digest → Move) → Controls up p branch fall old s d a → Controls up p branch fall old s a.next (f a.next) → (a.rec ≡ None) ⊎ ((f a.next).rec ≡ None)
    → (who : Who) (e : Event) → Controls up p branch fall old s d (followed a f)
controls_then up p branch fall old s d a f one two none who e = (
  (headed_moves up who e s).chain d a f one.0 two.0 none,
  (thins_moves who e s).chain d a f one.1 two.1 none,
  (late_moves who e s).chain d a f one.2 two.2 none,
  λ x well st.
      subst (λ (y : Signs). Stands up p branch fall old s y (f a.next).next) (plus_plus x (signs p a) (signs p (f a.next)) ∙ ap (plus x) (sym (signs_then p a f none)))
      (two.3 (plus x (signs p a)) (well_then up p branch fall old s d a one well) (one.3 x well st)),
)

-- ---- a root

stands_root : (up : Option Addr) (p : ℕ) (branch fall : Bool) (old : Bool × Bool) (s : Digest) (x : Signs) (d : Digest) (k : Key) → is_nil (phase_of d) ≡ true → IsLate d → Stands up p branch fall old s x d
    → Stands up p branch fall old s x (record (with_mark_drawn d) { current = Some (fresh_current k) })
stands_root up p branch fall old s x d k nil late st = record {
  drawn = less s.drawn d.drawn st.drawn;
  state = λ h. let b = st.state h in (b.0, b.1 ∙ ap (λ (r : Bool). effect (is_at up p) branch fall old r x) (flat (phase_of d) nil));
  past = λ top c is under on h. let same : fresh_current k ≡ c = cc (is) in absurd (let off : is_late c.phase ≡ false = ap (λ (y : Current). is_late y.phase) (sym same) in cc (on, off));
  bare = λ top c is live. let same : fresh_current k ≡ c = cc (is) in ap (λ (y : Current). has_branch_at y.branches p) (sym same);
  begun = λ h is. absurd (let on : is_branch_at d.current p ≡ true = (st.begun h is).0 in let off : is_branch_at d.current p ≡ false = ap (λ (o : Option Current). is_branch_at o p) none in cc (on, off));
  calm = λ i j. absurd (no s.drawn d.drawn st.drawn j);
  unsaid = st.unsaid;
}
  where
    less : (n k : ℕ) → n ≤ k → n ≤ suc k
    less n k i = omega (arith, i)

    no : (n k : ℕ) → n ≤ k → suc k ≡ n → ⊥
    no n k i j = omega (arith, i, j)

    flat : (q : Phase) → is_nil q ≡ true → is_rolling q ≡ false
    flat q h = grind (arith, h)

    none : d.current ≡ None
    none = nothing_late d late nil

-- ---- the steps

-- the event makes no change of its own to control there
pub record IsQuietAt (e : Event) (p : ℕ) : Type 0 where
  pub gives : gives_to e p ≡ false
  pub responds : responds_to e p ≡ false
  pub same : (d : Digest) (q : ℕ) (f : Dialogue → Dialogue) → IsChange e d q f → (q == p) ≡ true → (x : Dialogue) → Alike x (f x)

pub controls_steps : (up : Option Addr) (p : ℕ) (branch fall : Bool) (old : Bool × Bool) (who : Who) (e : Event) (s : Digest) → IsGiven who e s p branch fall → IsQuietAt e p → Steps who e s (Controls up p branch fall old s)
controls_steps up p branch fall old who e s given calm = record {
  still = λ d. (k1.still d, k2.still d, k3.still d, λ x well st. stands_quiet up p branch fall old s x (move [] d) refl st);
  chain = λ d a f one two none. controls_then up p branch fall old s d a f one two none who e;
  speaks = λ d outs h own says last. (
    k1.speaks d outs h own says,
    k2.speaks d outs h own says,
    k3.speaks d outs h own says,
    λ x well st. stands_performed up p branch fall old s x d outs (perform outs d) refl refl refl refl refl (unsigned e p outs calm.gives calm.responds h says) h st,
  );
  changes_dialogue = λ d q f m by one. (
    k1.changes_dialogue d q f m by one.0,
    k2.changes_dialogue d q f m by one.1,
    k3.changes_dialogue d q f m by one.2,
    λ x well st.
        one.3 x ((thins_dialogue d.arcs q f).apart well.0, well.1, placed_arcs up d (with_dialogue d.arcs q f) (λ n dead. ap is_live (link_dialogue d.arcs q f n) ∙ dead) well.2)
        (stands_moved up p branch fall old s x d (record d { arcs = with_dialogue d.arcs q f }) refl refl (same_dialogue p d.arcs q f (calm.same d q f by)) (λ live. sym (ap is_live (link_dialogue d.arcs q f p)) ∙ live) st),
  );
  drops_arc = λ d q m at one. (
    k1.drops_arc d q m at one.0,
    k2.drops_arc d q m at one.1,
    k3.drops_arc d q m at one.2,
    λ x well st.
        one.3 x ((thins_without d.arcs q).apart well.0, well.1, placed_arcs up d (without_arc d.arcs q) (dead_without d.arcs q) well.2)
        (stands_moved up p branch fall old s x d (record d { arcs = without_arc d.arcs q }) refl refl (same_without p d.arcs q) (λ live. (keeps_without is_polarized p d.arcs q live).0) st),
  );
  notes_kept = λ d ks m held noted one. (
    k1.notes_kept d ks m held one.0,
    k2.notes_kept d ks m held one.1,
    k3.notes_kept d ks m held one.2,
    λ x well st. one.3 x well (stands_moved up p branch fall old s x d (record d { kept = ks }) refl refl (same_self p d.arcs) (λ live. live) st),
  );
  keeps = λ d k f held. (
    k1.keeps d k f held,
    k2.keeps d k f held,
    k3.keeps d k f held,
    λ x well st. stands_performed up p branch fall old s x d (settled k f).outs (keep (settled k f) d) refl refl refl refl (quiet_settled k f) (unsigned_settled p k f) (settled_spoken k f) st,
  );
  turns = λ d c f now at asked put gone like alike. (
    k1.turns d c f now at asked put gone,
    k2.turns d c f now at asked put gone,
    k3.turns d c f now at asked put gone,
    λ x well st.
        let none : x ≡ no_signs = st.calm (now ∙ sym at) like in
        subst (λ (y : Signs). Stands up p branch fall old s (plus y (signs p (turned who f d c))) (turned who f d c).next) (sym none)
        (stands_turned up p branch fall old s who e d c f given now at asked put ((linked_moves who e s p).turns d c f now at asked put gone) well (subst (λ (y : Signs). Stands up p branch fall old s y d) none st)),
  );
  begins = λ d q may. (k1.begins d q may, k2.begins d q may, k3.begins d q may, λ x well st. stands_begins up p branch fall old s x who q d well st);
  roots = λ d m nil may says one. (
    k1.roots d m nil may one.0,
    k2.roots d m nil may one.1,
    k3.roots d m nil may one.2,
    λ x well st. one.3 x (well.0, late_fresh _, well.2) (stands_root up p branch fall old s x d _ nil well.1 st),
  );
}
  where
    k1 : Moves who e s (IsHeadedMove up)
    k1 = headed_moves up who e s

    k2 : Moves who e s (λ d m. Thins d.arcs m.next.arcs)
    k2 = thins_moves who e s

    k3 : Moves who e s (λ d m. IsLate d → IsLate m.next)
    k3 = late_moves who e s

-- ---- an event of the transaction, at the node

pub controls_turned : (up : Option Addr) (p : ℕ) (branch fall : Bool) (old : Bool × Bool) (who : Who) (e : Event) (s d : Digest) (c : Current) (f : TxEvent) → IsGiven who e s p branch fall → d.current ≡ Some c → s.current ≡ Some c → IsAsked e c f → IsPut f (seen who d.arcs c)
    → ((q : ℕ) → loses f q ≡ true → link_with d.arcs q ≡ Idle) → d.drawn ≡ s.drawn → Controls up p branch fall old s d (turned who f d c)
controls_turned up p branch fall old who e s d c f given now at asked put gone like = (
  (headed_moves up who e s).turns d c f now at asked put gone,
  (thins_moves who e s).turns d c f now at asked put gone,
  (late_moves who e s).turns d c f now at asked put gone,
  λ x well st.
      let none : x ≡ no_signs = st.calm (now ∙ sym at) like in
      subst (λ (y : Signs). Stands up p branch fall old s (plus y (signs p (turned who f d c))) (turned who f d c).next) (sym none)
      (stands_turned up p branch fall old s who e d c f given now at asked put ((linked_moves who e s p).turns d c f now at asked put gone) well (subst (λ (y : Signs). Stands up p branch fall old s y d) none st)),
)

quiet_retry : (p : ℕ) → IsQuietAt Event.Retry p
quiet_retry p = grind arith

pub still_steps : (up : Option Addr) (p : ℕ) (branch fall : Bool) (old : Bool × Bool) (who : Who) (s : Digest) → is_branch_at s.current p ≡ branch → (fall ≡ true → (c : Current) → s.current ≡ Some c → is_early c.phase ≡ true) → Steps who Event.Retry s (Controls up p branch fall old s)
still_steps up p branch fall old who s is early = controls_steps up p branch fall old who Event.Retry s (record {
  is_branch = λ c at. ap (λ (o : Option Current). is_branch_at o p) (sym at) ∙ is;
  early = early;
  falls_so = λ c f arcs at asked fell. absurd (let no : falls f (seen who arcs c) ≡ false = ap (λ (g : TxEvent). falls g (seen who arcs c)) asked in cc (no, fell));
  stays = refl;
}) (quiet_retry p)

pub controls_transact : (up : Option Addr) (p : ℕ) (branch fall : Bool) (old : Bool × Bool) (who : Who) (e : Event) (s : Digest) (c : Current) (f : TxEvent) → IsGiven who e s p branch fall → s.current ≡ Some c → IsAsked e c f → IsPut f (seen who s.arcs c)
    → ((q : ℕ) → loses f q ≡ true → link_with s.arcs q ≡ Idle) → Controls up p branch fall old s s (transact who f s)
unfolding transact
controls_transact up p branch fall old who e s c f given now asked put gone =
    subst (λ (o : Option Current). Controls up p branch fall old s s (elim o as (λ _. Move) [
      | None ↦ move [] s
      | Some x ↦ started_next who (passage (is_leaving f) (seen who s.arcs x).phase (transacted f (seen who s.arcs x)).next.phase) (turned who f s x)
    ])) (sym now) (over (is_over (passage (is_leaving f) c.phase (transacted f (seen who s.arcs c)).next.phase)))
  where
    m : Move
    m = turned who f s c

    one : Controls up p branch fall old s s m
    one = controls_turned up p branch fall old who e s s c f given now now asked put gone refl

    over : (b : Bool) → Controls up p branch fall old s s (if b then followed m (try_start who) else m)
    over false = one
    over true =
        controls_then up p branch fall old s s m (try_start who) one
        (step_start who Event.Retry s (Controls up p branch fall old s) (still_steps up p branch fall old who s (ap (λ (o : Option Current). is_branch_at o p) now ∙ given.is_branch c now) given.early) m.next) (inr (quiet_start who m.next)) who e
