-- Every event of a node gives it control towards its superior by a record of that superior alone, and leaves it none past
-- work: an instance of the steps of a node.
use Rattle.std.proofs.Common.{◌≡◌, ◌⊎◌, inl, inr, ℕ, Bool, true, false, refl, ap, sym, subst, ◌∙◌, arith, Option, Some, None, List, [], ◌∷◌, ◌++◌, ◌&&◌, ◌||◌, ◌==◌, not}
use Rattle.std.proofs.lemmas.Bool.Decides.{nat_tests}
use Rattle.tp_names.specs.declared.identifiers.Aaid.{Aaid}
use Rattle.tp_records.specs.declared.dialogue.DialogueRecord.{DialogueRecord}
use Rattle.tp_model.specs.declared.arc.Phase.{Phase}
use Rattle.tp_model.specs.declared.arc.Side.{Side}
use Rattle.tp_model.specs.declared.transaction.TxEvent.{TxEvent}
use Rattle.tp_model.specs.declared.transaction.TxOut.{TxOut}
use Rattle.tp_model.specs.Parts.{Who, Event, Dialogue, Arc, Key, Root, Current, Digest}
use Rattle.tp_model.specs.Links.{is_live}
use Rattle.tp_model.specs.Dialogues.{is_nil, is_active, begun_by, named_holder}
use Rattle.tp_model.specs.Arcs.{find_arc, link_with, without_arc, with_dialogue, performed}
use Rattle.tp_model.specs.Transactions.{Transaction, Turn, aaid_of, is_under_at, row_holds, transacted}
use Rattle.tp_model.specs.Recovery.{settled}
use Rattle.tp_model.specs.Node.{Move, move, followed, perform, next_mark, with_mark_drawn, is_superior, phase_of, seen, passage, is_leaving, Passage, Commits, entered, played, committed_arcs, grants, perform_commit, turned, fresh_current, with_begun, may_begin_on, begin_on, keep, remaining, around_grants}
use Rattle.tp_model.specs.Questions.{said_to}
use Rattle.tp_model.specs.Events.{refusal, action}
use Rattle.tp_steps.specs.Moves.{IsPut, IsLate, IsChange, prelude, gives_to, Moves}
use Rattle.tp_steps.specs.Facts.{none_of, find_branch, under_at, IsHeard, Reads}
use Rattle.tp_control.specs.Control.{is_returning}
use Rattle.tp_control.specs.Holding.{is_holding, holding_at, gains_at, returns_in, IsPastHolding, IsHolding, IsAbove}
use Rattle.tp_steps.proofs.every.EveryRecord.{find_arc_is}
use Rattle.tp_steps.proofs.every.EveryEvent.{every_move}
use Rattle.tp_steps.proofs.links.Links.{link_dialogue}
use Rattle.tp_steps.proofs.words.Heard.{heard_moves, dropped_live}
use Rattle.tp_names.specs.declared.identifiers.Addr.{Addr}
use Rattle.tp_steps.proofs.log.Passed.{passed_turn}
use Rattle.tp_control.proofs.Returns.{returns_turn, returns_then, returns_performed, returns_grants, returns_split, returns_said, returns_settled}
use Rattle.tp_control.proofs.Holding.{Gains, gains_self, gains_then, none_gained, gains_dialogue, gains_without, gains_performed, change_gains, entered_gains, Faces, played_gains, passed_none, bare_rows}
use Rattle.tp_steps.proofs.every.BeginCases.{begun_over, begin_cases}
use Rattle.tp_steps.proofs.links.Whole.{IsWhole, whole_turn}

-- ---- moves that change no transaction

holding_same : (g : Bool) (p : ℕ) (d : Digest) (m : Move) → m.next.current ≡ d.current → Gains g p d.arcs m.next.arcs → none_of is_returning (said_to p m.outs) ≡ true → IsHolding g p d m
holding_same g p d m same gains returns = record { gains = gains; past = past; over = over; returns = returns }
  where
    past : g ≡ false → IsPastHolding p d → IsPastHolding p m.next
    past none old c is under done = none_gained p d.arcs m.next.arcs (subst (λ (b : Bool). Gains b p d.arcs m.next.arcs) none gains) (old c (sym same ∙ is) under done)

    over : g ≡ false → IsPastHolding p d → under_at d.current p ≡ 1 → under_at m.next.current p ≡ 0 → holding_at p m.next.arcs ≡ false
    over none old one zero = absurd (cc (ap (λ (o : Option Current). under_at o p) same, one, zero))

holding_perform : (g : Bool) (p : ℕ) (d : Digest) (outs : List TxOut) → returns_in p outs ≡ false → IsHolding g p d (perform outs d)
holding_perform g p d outs none = holding_same g p d (perform outs d) refl (gains_performed g d.arcs outs p) (returns_performed d.arcs outs p none)

-- a change before a move
holding_after : (g : Bool) (p : ℕ) (d u : Digest) (m : Move) → u.current ≡ d.current → Gains g p d.arcs u.arcs → IsHolding g p u m → IsHolding g p d m
holding_after g p d u m same less one = record { gains = gains; past = past; over = over; returns = one.returns }
  where
    wide : (a b : Bool) → (a || b) ≡ true → (a ≡ true → (holding_at p d.arcs || b) ≡ true) → (holding_at p d.arcs || b) ≡ true
    wide true b h k = k refl
    wide false b h k = let is : b ≡ true = h in grind (arith, is)

    gains : Gains g p d.arcs m.next.arcs
    gains h = wide (holding_at p u.arcs) g (one.gains h) less

    moved : g ≡ false → IsPastHolding p d → IsPastHolding p u
    moved none old c is under done = none_gained p d.arcs u.arcs (subst (λ (b : Bool). Gains b p d.arcs u.arcs) none less) (old c (sym same ∙ is) under done)

    past : g ≡ false → IsPastHolding p d → IsPastHolding p m.next
    past none old = one.past none (moved none old)

    over : g ≡ false → IsPastHolding p d → under_at d.current p ≡ 1 → under_at m.next.current p ≡ 0 → holding_at p m.next.arcs ≡ false
    over none old is zero = one.over none (moved none old) (ap (λ (o : Option Current). under_at o p) same ∙ is) zero

-- ---- an event of the transaction

commit_returns : (d : Digest) (t : Transaction) (s : List TxOut × List TxOut) (arcs : List Arc) (p : ℕ) → row_holds t.rows p (λ b. true) ≡ false → returns_in p (s.0 ++ s.1) ≡ false → none_of is_returning (said_to p (perform_commit d t s arcs).1) ≡ true
commit_returns d t s arcs p bare none =
    let parts = returns_split p s none in
    let one = performed arcs s.0 in
    let mid : List Arc = committed_arcs d t one.0 in
    let two = performed mid (grants t one.0) in
    let three = performed two.0 s.1 in
    returns_then p (one.1 ++ two.1) three.1
    (returns_then p one.1 two.1 (returns_performed arcs s.0 p (grind (arith, parts))) (returns_performed mid (grants t one.0) p (returns_grants p t one.0 bare)))
    (returns_performed two.0 s.1 p (grind (arith, parts)))

played_returns : (d : Digest) (t : Transaction) (w : Passage) (asks : Turn) → IsWhole asks → (arcs : List Arc) (p : ℕ) → row_holds t.rows p (λ b. true) ≡ false → returns_in p asks.outs ≡ false → none_of is_returning (said_to p (played d t w asks arcs).1) ≡ true
unfolding played
played_returns d t Commits asks whole arcs p bare none = commit_returns d t (around_grants asks) arcs p bare (ap (returns_in p) whole ∙ none)
played_returns d t _ asks whole arcs p bare none = returns_performed arcs asks.outs p none

record StaysIn (t : Transaction) (c : Current) : Type 0 where
  key : c.key ≡ t.key
  phase : c.phase ≡ t.phase

stays_in : (t : Transaction) (c : Current) → remaining t ≡ Some c → StaysIn t c
stays_in t c h = record { key = grind (arith, h); phase = grind (arith, h) }

over_nil : (t : Transaction) (p : ℕ) → is_under_at t.key p ≡ true → under_at (remaining t) p ≡ 0 → is_active t.phase ≡ false
over_nil t p under none = go t.phase refl
  where
    go : (x : Phase) → t.phase ≡ x → is_active t.phase ≡ false
    go Phase.Active i = absurd (grind (arith, under, none, i))
    go x i = grind (arith, i)

holding_turned : (who : Who) (g : Bool) (f : TxEvent) (d : Digest) (c : Current) (p : ℕ) → is_superior d p ≡ true → find_branch c.branches p ≡ None → d.current ≡ Some c → IsPut f (seen who d.arcs c) → (transacted f (seen who d.arcs c)).next.key ≡ c.key
    → IsHolding g p d (turned who f d c)
holding_turned who g f d c p above bare now put key = record { gains = gains; past = λ none old. past old; over = λ none old one zero. over old one zero; returns = returns }
  where
    t : Transaction
    t = seen who d.arcs c

    a : Turn
    a = transacted f t

    m : Move
    m = turned who f d c

    w : Passage
    w = passage (is_leaving f) t.phase a.next.phase

    rows : row_holds t.rows p (λ b. true) ≡ false
    rows = bare_rows d.arcs c.branches p bare (λ b. true)

    f_is : Faces d t p
    f_is = record { side = above; bare = rows }

    lowers : Gains false p d.arcs m.next.arcs
    lowers = gains_then false p d.arcs (entered t w d.arcs) m.next.arcs (entered_gains t w d.arcs p) (played_gains d t w a (entered t w d.arcs) p f_is)

    widen : (b : Bool) → (b || false) ≡ true → (b || g) ≡ true
    widen true h = refl
    widen false h = absurd (cc (h))

    gains : Gains g p d.arcs m.next.arcs
    gains h = widen (holding_at p d.arcs) (lowers h)

    ended : IsPastHolding p d → is_under_at c.key p ≡ true → is_active a.next.phase ≡ false → holding_at p m.next.arcs ≡ false
    ended old under after = passed_none d t (is_leaving f) a.next.phase a d.arcs p f_is under put.late (λ done. old c now under done) after

    past : IsPastHolding p d → IsPastHolding p m.next
    past old x is under done =
        let s = stays_in a.next x is in
        ended old (ap (λ (k : Key). is_under_at k p) (sym key ∙ sym s.key) ∙ under) (ap is_active (sym s.phase) ∙ done)

    over : IsPastHolding p d → under_at d.current p ≡ 1 → under_at m.next.current p ≡ 0 → holding_at p m.next.arcs ≡ false
    over old one zero =
        let here : is_under_at c.key p ≡ true = under_one c p (ap (λ (o : Option Current). under_at o p) (sym now) ∙ one) in
        ended old here (over_nil a.next p (ap (λ (k : Key). is_under_at k p) key ∙ here) zero)
      where
        under_one : (c : Current) (p : ℕ) → under_at (Some c) p ≡ 1 → is_under_at c.key p ≡ true
        under_one c p h = grind (arith, h)

    returns : none_of is_returning (said_to p m.outs) ≡ true
    returns = played_returns d t w a (whole_turn f t) (entered t w d.arcs) p rows (returns_turn f t p put)

-- ---- a transaction begins on an arc

holding_begins : (who : Who) (g : Bool) (p q : ℕ) (d : Digest) → is_superior d p ≡ true → IsHolding g p d (begin_on who q d)
holding_begins who g p q d above = begin_cases (IsHolding g p d) who q d still on
  where
    still : IsHolding g p d (move [] d)
    still = holding_same g p d (move [] d) refl (gains_self g p d.arcs) refl

    on : (c : Current) (a : Arc) → d.current ≡ Some c → find_arc d.arcs q ≡ Some a → may_begin_on who d a ≡ true → IsHolding g p d (begun_over who q d c a)
    on c a now found i = record { gains = gains; past = λ none old. past none old; over = λ none old one zero. over one zero; returns = returns_performed arcs outs p refl }
      where
        outs : List TxOut
        outs = TxOut.Carry q (DialogueRecord.Begin (aaid_of c.key) (record { superior = who.site; mark = next_mark who d }) (named_holder a.dialogue)) ∷ []

        arcs : List Arc
        arcs = with_dialogue d.arcs q (begun_by (named_holder a.dialogue) Side.Superior)

        begun : Transaction
        begun = (transacted (TxEvent.Begun (record { addr = a.peer; branch = record { superior = who.site; mark = next_mark who d } } ∷ [])) (seen who d.arcs c)).next

        m : Move
        m = perform outs (record (with_begun who (with_mark_drawn d) c (record { addr = a.peer; branch = record { superior = who.site; mark = next_mark who d } })) { arcs = arcs })

        node : a.peer.node ≡ q
        node = find_arc_is d.arcs q a found

        below : is_superior d a.peer.node ≡ false
        below = grind (arith, i)

        other : (q == p) ≡ true → ⊥
        other same =
            let eq : q ≡ p = grind (arith, nat_tests, same) in
            let at : is_superior d a.peer.node ≡ true = ap (is_superior d) (node ∙ eq) ∙ above in
            cc (at, below)

        changed : Gains g p d.arcs arcs
        changed = gains_dialogue g d.arcs q (begun_by (named_holder a.dialogue) Side.Superior) p (λ same x h. absurd (other same))

        gains : Gains g p d.arcs m.next.arcs
        gains = gains_then g p d.arcs arcs m.next.arcs changed (gains_performed g arcs outs p)

        past : g ≡ false → IsPastHolding p d → IsPastHolding p m.next
        past none old x is under done =
            let s = stays_in begun x is in
            none_gained p d.arcs m.next.arcs (subst (λ (b : Bool). Gains b p d.arcs m.next.arcs) none gains) (old c now (ap (λ (k : Key). is_under_at k p) (sym s.key) ∙ under) (ap is_active (sym s.phase) ∙ done))

        over : under_at d.current p ≡ 1 → under_at m.next.current p ≡ 0 → holding_at p m.next.arcs ≡ false
        over one zero = absurd (same c p (ap (λ (o : Option Current). under_at o p) (sym now) ∙ one) zero)
          where
            same : (c : Current) (p : ℕ) → under_at (Some c) p ≡ 1 → under_at (remaining (transacted (TxEvent.Begun (record { addr = a.peer; branch = record { superior = who.site; mark = next_mark who d } } ∷ [])) (seen who d.arcs c)).next) p ≡ 0 → ⊥
            same c p h z = grind (arith, h, z)

-- ---- chains

pub zero_or_one : (o : Option Current) (p : ℕ) → (under_at o p ≡ 0) ⊎ (under_at o p ≡ 1)
zero_or_one None p = inl refl
zero_or_one (Some c) p = go (not (is_nil c.phase) && is_under_at c.key p) refl
  where
    go : (b : Bool) → (not (is_nil c.phase) && is_under_at c.key p) ≡ b → (under_at (Some c) p ≡ 0) ⊎ (under_at (Some c) p ≡ 1)
    go true i = inr (grind (arith, i))
    go false i = inl (grind (arith, i))

holding_then : (g : Bool) (p : ℕ) (d : Digest) (a : Move) (f : Digest → Move) → IsHolding g p d a → IsHolding g p a.next (f a.next) → IsHolding g p d (followed a f)
holding_then g p d a f one two = record {
  gains = gains_then g p d.arcs a.next.arcs (f a.next).next.arcs one.gains two.gains;
  past = λ none old. two.past none (one.past none old);
  over = λ none old is zero. elim (zero_or_one a.next.current p) [
    | inl z ↦ none_gained p a.next.arcs (f a.next).next.arcs (subst (λ (b : Bool). Gains b p a.next.arcs (f a.next).next.arcs) none two.gains) (one.over none old is z)
    | inr o ↦ two.over none (one.past none old) o zero
  ];
  returns = returns_then p a.outs (f a.next).outs one.returns two.returns;
}

-- ---- the steps

holding_root : (g : Bool) (p : ℕ) (d : Digest) (t : Aaid) (m : Move) → is_nil (phase_of d) ≡ true → IsHolding g p (record (with_mark_drawn d) { current = Some (fresh_current (Root t)) }) m → IsHolding g p d m
holding_root g p d t m nil one = record { gains = one.gains; past = λ none old. one.past none fresh; over = λ none old is zero. absurd (idle is); returns = one.returns }
  where
    fresh : IsPastHolding p (record (with_mark_drawn d) { current = Some (fresh_current (Root t)) })
    fresh c is under done = let same : fresh_current (Root t) ≡ c = cc (is) in absurd (cc (ap (λ (y : Current). is_under_at y.key p) same, under))

    idle : under_at d.current p ≡ 1 → ⊥
    idle is = go d.current refl
      where
        go : (o : Option Current) → d.current ≡ o → ⊥
        go None i = cc (ap (λ (v : Option Current). under_at v p) i, is)
        go (Some c) i = let n : is_nil c.phase ≡ true = rw (i, phase_of) at nil in let z : under_at (Some c) p ≡ 1 = ap (λ (v : Option Current). under_at v p) (sym i) ∙ is in grind (arith, n, z)

holding_moves : (who : Who) (e : Event) (s : Digest) (p : ℕ) (sup fall : Bool) (shut : ℕ) → gives_to e p ≡ false → IsAbove p s
    → Moves who e s (λ d m. d.superior ≡ s.superior → (is_live (link_with d.arcs p) ≡ true → is_live (link_with s.arcs p) ≡ true) → IsHeard p sup fall shut s d m)
    → Moves who e s (λ d m. d.superior ≡ s.superior → (is_live (link_with d.arcs p) ≡ true → is_live (link_with s.arcs p) ≡ true) → IsHeard p sup fall shut s d m × (is_live (link_with m.next.arcs p) ≡ true → IsHolding (gains_at e p) p d m))
holding_moves who e s p sup fall shut none above h = record {
  still = λ d up lives. (h.still d up lives, λ live. holding_same g p d (move [] d) refl (gains_self g p d.arcs) refl);
  chain = λ d a f one two quiet up lives.
      let x = one up lives in
      let y = two (x.0.superior ∙ up) (λ l. lives (x.0.back l)) in
      (h.chain d a f (λ u l. x.0) (λ u l. y.0) quiet up lives, λ live. holding_then g p d a f (x.1 (y.0.back live)) (y.1 live));
  speaks = λ d outs k own said up lives. (h.speaks d outs k own said up lives, λ live. holding_perform g p d outs (returns_said e p outs none said k));
  changes_dialogue = λ d q f m by one up lives.
      let same : link_with (with_dialogue d.arcs q f) p ≡ link_with d.arcs p = link_dialogue d.arcs q f p in
      let x = one up (λ l. lives (ap is_live (sym same) ∙ l)) in
      (h.changes_dialogue d q f m by (λ u l. x.0) up lives, λ live. holding_after g p d (record d { arcs = with_dialogue d.arcs q f }) m refl (changed d q f by) (x.1 live));
  drops_arc = λ d q m at one up lives.
      let x = one up (λ l. lives (dropped_live d.arcs q p l)) in
      (h.drops_arc d q m at (λ u l. x.0) up lives, λ live. holding_after g p d (record d { arcs = without_arc d.arcs q }) m refl (gains_without g d.arcs q p) (x.1 live));
  notes_kept = λ d ks m held one up lives.
      let x = one up lives in
      (h.notes_kept d ks m held (λ u l. x.0) up lives, λ live. let y = x.1 live in record { gains = y.gains; past = λ b old. y.past b (λ c. old c); over = λ b old. y.over b (λ c. old c); returns = y.returns });
  keeps = λ d k f held up lives. (h.keeps d k f held up lives, λ live. holding_same g p d (keep (settled k f) d) refl (gains_performed g d.arcs (settled k f).outs p) (returns_performed d.arcs (settled k f).outs p (returns_settled p k f)));
  turns = λ d c f now at asked put gone up lives.
      let x = h.turns d c f now at asked put gone up lives in
      (x, λ live. holding_turned who g f d c p (superior_there d up (lives (x.back live))) (above.bare c at (lives (x.back live))) now put (key_stays f (seen who d.arcs c) put));
  begins = λ d q free up lives.
      let x = h.begins d q free up lives in
      (x, λ live. holding_begins who g p q d (superior_there d up (lives (x.back live))));
  roots = λ d m nil may one up lives. let x = one up lives in (h.roots d m nil may (λ u l. x.0) up lives, λ live. holding_root g p d _ m nil (x.1 live));
}
  where
    g : Bool
    g = gains_at e p

    superior_there : (d : Digest) → d.superior ≡ s.superior → is_live (link_with s.arcs p) ≡ true → is_superior d p ≡ true
    superior_there d up live = ap (λ (o : Option Addr). elim o [ None ↦ false | Some a ↦ a.node == p ]) up ∙ above.superior live

    changed : (d : Digest) (q : ℕ) (f : Dialogue → Dialogue) → IsChange e d q f → Gains g p d.arcs (with_dialogue d.arcs q f)
    changed d q f by = gains_dialogue g d.arcs q f p (λ same x now. let eq : q ≡ p = grind (arith, nat_tests, same) in subst (λ (n : ℕ). (is_holding x || gains_at e n) ≡ true) eq (change_gains e d q f by x now))

    key_stays : (f : TxEvent) (t : Transaction) → IsPut f t → (transacted f t).next.key ≡ t.key
    key_stays f t put = (passed_turn f t put).key

-- every accepted event that sends no control to the superior by request, from its prelude on
pub holding_event : (who : Who) (d : Digest) (e : Event) (p : ℕ) (sup fall : Bool) (shut : ℕ) → IsLate d → refusal who d e ≡ None → Reads who e p sup fall shut (prelude who d e) → gives_to e p ≡ false → IsAbove p (prelude who d e)
    → is_live (link_with (action who d e).next.arcs p) ≡ true → IsHolding (gains_at e p) p (prelude who d e) (action who d e)
holding_event who d e p sup fall shut late ok reads none above =
    (every_move who d e (λ g m. g.superior ≡ (prelude who d e).superior → (is_live (link_with g.arcs p) ≡ true → is_live (link_with (prelude who d e).arcs p) ≡ true) → IsHeard p sup fall shut (prelude who d e) g m × (is_live (link_with m.next.arcs p) ≡ true → IsHolding (gains_at e p) p g m))
    (holding_moves who e (prelude who d e) p sup fall shut none above (heard_moves who e (prelude who d e) p sup fall shut reads)) late ok refl (λ h. h)).1
