-- What every event keeps of control on the arc with a peer: it changes as the signs of the event tell, an instance of the
-- steps of a node.
use Rattle.tp_history_state.proofs.Vocabulary.{Bool, List, None, Option, Some, [], ap, append-nil, arith, false, if◌then◌else◌, not, refl, subst, suc, sym, true, ℕ, ◌&&◌, ◌++◌, ◌==◌, ◌||◌, ◌∙◌, ◌∷◌, ◌≡◌, ◌≤◌, or-false, nat_tests, Addr, Child, DialogueRecord, Holder, is_late, is_polarized, is_holder, begun_by, is_nil, is_active, is_rolling, named_holder, Arc, Branch, Current, Dialogue, Digest, Event, Out, Who, Kept, KeptEvent, move, Move, begin_on, branches_of, may_begin_on, phase_of, remaining, seen, seen_rows, Phase, Side, Transaction, fresh_rows, is_under_at, situation_of, transacted, TxEvent, TxOut, carried, find_arc, is_live_with_peer, link_of, performed, with_dialogue, has_branch_at, has_said, is_at, logs_ready_or_commit, said_to, is_live, settled, is_said, are_said, are_spoken, gives_to, responds_to, IsLate, are_separate, out_tells, IsHeadedMove, IsPlaced, not_above, placed_then, Thins, find_arc_is, is_rolled_told, keeps_performed, said_carried, left_branches, left_is, link_dialogue, said_append, seen_branch, tells_rolled, told_performed}
use Rattle.tp_history_state.proofs.control.Arcs.{Same, control_at, control_from, dialogue_gets, is_ruled, same_dialogue, same_performed, same_then}
use Rattle.tp_history_state.proofs.control.Signs.{Signs, effect, is_sign, no_signs, plus, plus_none, signs, signs_none, signs_of}
use Rattle.tp_history_state.proofs.orders.OverTold.{is_over_told}
use Rattle.tp_history_state.proofs.lemmas.Begins.{next_child, begin_word, begun_over, begins_so}
use Rattle.tp_history_state.proofs.lemmas.Spoken.{said_not, spoken_untold}
use Rattle.tp_history_state.proofs.rests.Foreign.{carries_none_to, said_none_to}

-- ---- what is kept of what is known

-- a branch is with the peer
abbrev pub is_branch_at : Option Current → ℕ → Bool
is_branch_at None p = false
is_branch_at (Some c) p = is_under_at c.key p || has_branch_at c.branches p

-- in a transaction of that superior that is past work, this end holds no control
abbrev pub IsPast : Option Addr → ℕ → Digest → Type 0
IsPast up p d =
    is_at up p ≡ true → (c : Current) → d.current ≡ Some c → is_under_at c.key p ≡ true → is_late c.phase ≡ true → is_ruled p d.arcs ≡ true → control_at p d.arcs ≡ (false, false)

-- a live arc with the superior is that of no branch below
abbrev pub IsBareAt : Option Addr → ℕ → Digest → Type 0
IsBareAt up p d = is_at up p ≡ true → (c : Current) → d.current ≡ Some c → is_live_with_peer d.arcs p ≡ true → has_branch_at c.branches p ≡ false

abbrev pub IsWell : Option Addr → Digest → Type 0
IsWell up d = (are_separate d.arcs ≡ true) × IsLate d × IsPlaced up d

-- s: where the steps begin, with that control; x: the signs since then, d: what is known now
pub record Stands (up : Option Addr) (p : ℕ) (branch fall : Bool) (old : Bool × Bool) (s : Digest) (x : Signs) (d : Digest) : Type 0 where
  pub drawn : s.drawn ≤ d.drawn
  pub state : is_ruled p d.arcs ≡ true → (is_ruled p s.arcs ≡ true) × (control_at p d.arcs ≡ effect (is_at up p) branch fall old (is_rolling (phase_of d)) x)
  pub past : IsPast up p d
  pub bare : IsBareAt up p d
  pub begun : (k : Holder) → x.begun ≡ Some k → (is_branch_at d.current p ≡ true) × (is_at up p ≡ false) × (suc s.drawn ≤ d.drawn)
  pub calm : d.current ≡ s.current → d.drawn ≡ s.drawn → x ≡ no_signs
  pub unsaid : (x.left ≡ false) × (x.answered ≡ false)

-- the arcs change, and not the peer's
pub stands_moved : (up : Option Addr) (p : ℕ) (branch fall : Bool) (old : Bool × Bool) (s : Digest) (x : Signs) (d u : Digest) → u.current ≡ d.current → u.drawn ≡ d.drawn → Same p d.arcs u.arcs
    → (is_live_with_peer u.arcs p ≡ true → is_live_with_peer d.arcs p ≡ true) → Stands up p branch fall old s x d → Stands up p branch fall old s x u
stands_moved up p branch fall old s x d u now drawn same live st = record {
  drawn = subst (λ (n : ℕ). s.drawn ≤ n) (sym drawn) st.drawn;
  state = λ h. let a = same h in let b = st.state a.0 in (b.0, a.1 ∙ b.1 ∙ ap (λ (o : Option Current). effect (is_at up p) branch fall old (is_rolling (elim o as (λ _. Phase) [ None ↦ Phase.Nil | Some c ↦ c.phase ])) x) (sym now));
  past = λ top c is under late h. let a = same h in a.1 ∙ st.past top c (sym now ∙ is) under late a.0;
  bare = λ top c is h. st.bare top c (sym now ∙ is) (live h);
  begun = λ k is. let b = st.begun k is in (ap (λ (o : Option Current). is_branch_at o p) now ∙ b.0, b.1, subst (λ (n : ℕ). suc s.drawn ≤ n) (sym drawn) b.2);
  calm = λ h i. st.calm (sym now ∙ h) (sym drawn ∙ i);
  unsaid = st.unsaid;
}

pub stands_quiet : (up : Option Addr) (p : ℕ) (branch fall : Bool) (old : Bool × Bool) (s : Digest) (x : Signs) (m : Move) → signs p m ≡ no_signs → Stands up p branch fall old s x m.next → Stands up p branch fall old s (plus x (signs p m)) m.next
stands_quiet up p branch fall old s x m none st = subst (λ (y : Signs). Stands up p branch fall old s y m.next) (sym (ap (plus x) none ∙ plus_none x)) st

abbrev pub Controls : Option Addr → ℕ → Bool → Bool → Bool × Bool → Digest → Digest → Move → Type 0
Controls up p branch fall old s d m =
    IsHeadedMove up d m × Thins d.arcs m.next.arcs × (IsLate d → IsLate m.next)
    × ((x : Signs) → IsWell up d → Stands up p branch fall old s x d → Stands up p branch fall old s (plus x (signs p m)) m.next)

pub well_then : (up : Option Addr) (p : ℕ) (branch fall : Bool) (old : Bool × Bool) (s d : Digest) (m : Move) → Controls up p branch fall old s d m → IsWell up d → IsWell up m.next
well_then up p branch fall old s d m one well = (one.1.apart well.0, one.2 well.1, placed_then up d m one.0.0 well.2)

-- ---- outputs that are no sign

pub unsigned : (e : Event) (p : ℕ) (outs : List TxOut) → gives_to e p ≡ false → responds_to e p ≡ false → are_spoken outs ≡ true → are_said e outs ≡ true → carries_none_to is_sign p outs ≡ true
unsigned e p outs none off = grind (arith, is_said, said_not)

signs_performed : (p : ℕ) (arcs : List Arc) (outs : List TxOut) (m : Move) → m.outs ≡ (performed arcs outs).1 → logs_ready_or_commit m.rec ≡ false → carries_none_to is_sign p outs ≡ true → are_spoken outs ≡ true → signs p m ≡ no_signs
signs_performed p arcs outs m is quiet none spoken =
    signs_none (said_to p m.outs) (out_tells is_over_told m.outs) (tells_rolled m) (logs_ready_or_commit m.rec)
    (ap (λ (xs : List Out). has_said is_sign (said_to p xs)) is ∙ said_none_to is_sign p arcs outs none)
    (ap (out_tells is_over_told) is ∙ told_performed is_over_told arcs outs ∙ spoken_untold is_over_told (λ i h. grind (arith, h)) outs spoken)
    (ap (out_tells is_rolled_told) is ∙ told_performed is_rolled_told arcs outs ∙ spoken_untold is_rolled_told (λ i h. grind (arith, h)) outs spoken) quiet

pub unsigned_settled : (p : ℕ) (k : Kept) (f : KeptEvent) → carries_none_to is_sign p (settled k f).outs ≡ true
unfolding settled
unsigned_settled p k (KeptEvent.Done a b r) = grind arith
unsigned_settled p k _ = refl

-- outputs that are no sign, and change no transaction
pub stands_performed : (up : Option Addr) (p : ℕ) (branch fall : Bool) (old : Bool × Bool) (s : Digest) (x : Signs) (d : Digest) (outs : List TxOut) (m : Move) → m.outs ≡ (performed d.arcs outs).1 → m.next.arcs ≡ (performed d.arcs outs).0 → m.next.current ≡ d.current
    → m.next.drawn ≡ d.drawn → logs_ready_or_commit m.rec ≡ false → carries_none_to is_sign p outs ≡ true → are_spoken outs ≡ true → Stands up p branch fall old s x d → Stands up p branch fall old s (plus x (signs p m)) m.next
stands_performed up p branch fall old s x d outs m is arcs now drawn quiet none spoken st =
    stands_quiet up p branch fall old s x m (signs_performed p d.arcs outs m is quiet none spoken)
    (stands_moved up p branch fall old s x d m.next now drawn (subst (λ (ys : List Arc). Same p d.arcs ys) (sym arcs) (same_performed p d.arcs outs))
    (λ h. (keeps_performed is_polarized p d.arcs outs (ap (λ (ys : List Arc). is_live_with_peer ys p) (sym arcs) ∙ h)).0) st)

-- ---- a transaction begins on an arc

begun_at : (arcs : List Arc) (bs : List Branch) (c : Child) (p : ℕ) → has_branch_at (branches_of (seen_rows arcs bs ++ fresh_rows (c ∷ []))) p ≡ (has_branch_at bs p || (c.addr.node == p))
begun_at arcs [] c p = or-false (c.addr.node == p)
begun_at arcs (b ∷ bs) c p = rw (begun_at arcs bs c p) (join (b.peer.node == p) (has_branch_at bs p) (c.addr.node == p))
  where
    join : (x y z : Bool) → (x || (y || z)) ≡ ((x || y) || z)
    join true y z = refl
    join false y z = refl

not_branch : (who : Who) (d : Digest) (a : Arc) → not (may_begin_on who d a) ≡ false → is_branch_at d.current a.peer.node ≡ false
unfolding situation_of
not_branch who d a h = grind (arith, seen_branch)

begins_active : (who : Who) (d : Digest) (a : Arc) (c : Current) → d.current ≡ Some c → not (may_begin_on who d a) ≡ false → is_active c.phase ≡ true
begins_active who d a c i h = let on : is_active (phase_of d) ≡ true = grind (arith, h) in ap (λ (o : Option Current). is_active (elim o as (λ _. Phase) [ None ↦ Phase.Nil | Some x ↦ x.phase ])) (sym i) ∙ on

control_begun : (h : Holder) (x : Dialogue) → is_polarized x ≡ true → control_from (begun_by h Side.Superior x) ≡ (is_holder h Side.Superior, false)
unfolding begun_by
control_begun h x pol = grind arith

pub units_begun : (h : Holder) (s : Side) (x : Dialogue) → is_polarized (begun_by h s x) ≡ is_polarized x
unfolding begun_by
units_begun h s x = refl

none_nil : (t : Transaction) → remaining t ≡ None → is_nil t.phase ≡ true
none_nil t h = grind arith

active_late : (p : Phase) → is_active p ≡ true → is_nil p ≡ false
active_late p h = grind (arith, h)

pub stands_begins : (up : Option Addr) (p : ℕ) (branch fall : Bool) (old : Bool × Bool) (s : Digest) (x : Signs) (who : Who) (q : ℕ) (d : Digest) → IsWell up d → Stands up p branch fall old s x d → Stands up p branch fall old s (plus x (signs p (begin_on who q d))) (begin_on who q d).next
stands_begins up p branch fall old s x who q d well st =
    begins_so (λ m. Stands up p branch fall old s (plus x (signs p m)) m.next) who q d (stands_quiet up p branch fall old s x (move [] d) refl st) (λ c now a found may. on c a now found may)
  where
    child : Arc → Child
    child = next_child who d

    word : Current → Arc → DialogueRecord
    word = begin_word who d

    sent : Current → Arc → Move
    sent = begun_over who q d

    on : (c : Current) (a : Arc) → d.current ≡ Some c → find_arc d.arcs q ≡ Some a → not (may_begin_on who d a) ≡ false → Stands up p branch fall old s (plus x (signs p (sent c a))) (sent c a).next
    on c a now found may = at_peer (q == p) refl
      where
        h : Holder
        h = named_holder a.dialogue

        xs : List Arc
        xs = with_dialogue d.arcs q (begun_by h Side.Superior)

        outs : List TxOut
        outs = TxOut.Carry q (word c a) ∷ []

        m : Move
        m = sent c a

        node : a.peer.node ≡ q
        node = find_arc_is d.arcs q a found

        active : is_active c.phase ≡ true
        active = begins_active who d a c now may

        live : is_live_with_peer xs q ≡ true
        live =
            let there : is_live a.link ≡ true = grind (arith, may) in
            ap is_live (link_dialogue d.arcs q (begun_by h Side.Superior) q) ∙ ap (λ (o : Option Arc). is_live (link_of o)) found ∙ there

        said_it : said_to p m.outs ≡ (if (q == p) && is_live_with_peer xs q then word c a ∷ [] else [])
        said_it = said_append p (carried xs q (word c a)).1 [] ∙ append-nil (said_to p (carried xs q (word c a)).1) ∙ said_carried p xs q (word c a)

        signs_are : (rs : List DialogueRecord) → said_to p m.outs ≡ rs → signs p m ≡ signs_of rs false false false
        signs_are rs is = rw (is, told_performed is_over_told xs outs, told_performed is_rolled_told xs outs) refl

        t : Transaction
        t = (transacted (TxEvent.Begun (child a ∷ [])) (seen who d.arcs c)).next

        some : (u : Current) → remaining t ≡ Some u → (u.key ≡ c.key) × (u.phase ≡ c.phase) × (has_branch_at u.branches p ≡ (has_branch_at c.branches p || (q == p)))
        some u is = ((left_is t u is).0, (left_is t u is).1, ap (λ (bs : List Branch). has_branch_at bs p) (left_branches t u is) ∙ begun_at d.arcs c.branches (child a) p ∙ ap (λ (n : ℕ). has_branch_at c.branches p || (n == p)) node)

        there : (o : Option Current) → remaining t ≡ o → (u : Current) × (remaining t ≡ Some u)
        there None i = absurd (let late : is_nil c.phase ≡ true = none_nil t i in let none : is_nil c.phase ≡ false = active_late c.phase active in cc (late, none))
        there (Some u) i = (u, i)

        u : Current
        u = (there (remaining t) refl).0

        u_is : remaining t ≡ Some u
        u_is = (there (remaining t) refl).1

        work : is_late u.phase ≡ false
        work = ap is_late (some u u_is).1 ∙ flat c.phase active
          where
            flat : (v : Phase) → is_active v ≡ true → is_late v ≡ false
            flat v i = grind (arith, i)

        calmly : is_rolling (phase_of m.next) ≡ is_rolling (phase_of d)
        calmly = ap (λ (o : Option Current). is_rolling (elim o as (λ _. Phase) [ None ↦ Phase.Nil | Some y ↦ y.phase ])) u_is ∙ ap is_rolling (some u u_is).1 ∙ sym (ap (λ (o : Option Current). is_rolling (elim o as (λ _. Phase) [ None ↦ Phase.Nil | Some y ↦ y.phase ])) now)

        past : IsPast up p m.next
        past top v is under late ruled = let same : u ≡ v = cc (sym u_is ∙ is) in absurd (let off : is_late v.phase ≡ false = ap (λ (w : Current). is_late w.phase) (sym same) ∙ work in cc (late, off))

        below : is_at up q ≡ false
        below = ap (is_at up) (sym node) ∙ not_above up who d q a found may well.2

        more : s.drawn ≤ suc d.drawn
        more = less s.drawn d.drawn st.drawn
          where
            less : (n k : ℕ) → n ≤ k → n ≤ suc k
            less n k i = omega (arith, i)

        more_suc : suc s.drawn ≤ suc d.drawn
        more_suc = less s.drawn d.drawn st.drawn
          where
            less : (n k : ℕ) → n ≤ k → suc n ≤ suc k
            less n k i = omega (arith, i)

        far : suc d.drawn ≡ s.drawn → ⊥
        far i = no s.drawn d.drawn st.drawn i
          where
            no : (n k : ℕ) → n ≤ k → suc k ≡ n → ⊥
            no n k i j = omega (arith, i, j)

        bare : IsBareAt up p m.next
        bare top v is live_now = other (q == p) refl
          where
            same : u ≡ v
            same = cc (sym u_is ∙ is)

            old_live : is_live_with_peer d.arcs p ≡ true
            old_live = sym (ap is_live (link_dialogue d.arcs q (begun_by h Side.Superior) p)) ∙ (keeps_performed is_polarized p xs outs live_now).0

            other : (b : Bool) → (q == p) ≡ b → has_branch_at v.branches p ≡ false
            other true j = let at : q ≡ p = grind (arith, nat_tests, j) in absurd (let off : is_at up p ≡ false = ap (is_at up) (sym at) ∙ below in cc (top, off))
            other false j = ap (λ (w : Current). has_branch_at w.branches p) (sym same) ∙ (some u u_is).2 ∙ rw (st.bare top c now old_live, j) refl

        at_branch : is_branch_at m.next.current p ≡ (is_under_at c.key p || (has_branch_at c.branches p || (q == p)))
        at_branch = ap (λ (o : Option Current). is_branch_at o p) u_is ∙ rw ((some u u_is).2, (some u u_is).0) refl

        branch_old : is_branch_at d.current p ≡ true → is_branch_at m.next.current p ≡ true
        branch_old i = at_branch ∙ wide (is_under_at c.key p) (has_branch_at c.branches p) (q == p) (sym (ap (λ (o : Option Current). is_branch_at o p) now) ∙ i)
          where
            wide : (y z w : Bool) → (y || z) ≡ true → (y || (z || w)) ≡ true
            wide true z w i = refl
            wide false true w i = refl
            wide false false w i = absurd (cc (i))

        at_peer : (b : Bool) → (q == p) ≡ b → Stands up p branch fall old s (plus x (signs p m)) m.next
        at_peer false j =
            let none : signs p m ≡ no_signs = signs_are [] (said_it ∙ rw j refl) in
            stands_quiet up p branch fall old s x m none (record {
              drawn = more;
              state = λ ruled.
                  let a = same_then p d.arcs xs m.next.arcs (same_dialogue p d.arcs q (begun_by h Side.Superior) (λ i. absurd (cc (i, j)))) (same_performed p xs outs) ruled in
                  let b = st.state a.0 in
                  (b.0, a.1 ∙ b.1 ∙ ap (λ (r : Bool). effect (is_at up p) branch fall old r x) (sym calmly));
              past = past;
              bare = bare;
              begun = λ k is. let b = st.begun k is in (branch_old b.0, b.1, more_suc);
              calm = λ i k. absurd (far k);
              unsaid = st.unsaid;
            })
        at_peer true j = subst (λ (y : Signs). Stands up p branch fall old s (plus x y) m.next) (sym is) (record {
          drawn = more;
          state = λ ruled.
              let one = same_performed p xs outs ruled in
              let two = get one.0 in
              let b = st.state two.0 in
              (b.0, one.1 ∙ two.1 ∙ sym (first x.begun refl));
          past = past;
          bare = bare;
          begun = λ k i. (at_branch ∙ rw j (last (is_under_at c.key p) (has_branch_at c.branches p)), ap (is_at up) (sym at) ∙ below, more_suc);
          calm = λ i k. absurd (far k);
          unsaid = (rw st.unsaid.0 refl, rw st.unsaid.1 refl);
        })
          where
            at : q ≡ p
            at = grind (arith, nat_tests, j)

            is : signs p m ≡ signs_of (word c a ∷ []) false false false
            is = signs_are (word c a ∷ []) (said_it ∙ rw (j, live) refl)

            last : (y z : Bool) → (y || (z || true)) ≡ true
            last true z = refl
            last false true = refl
            last false false = refl

            get : is_ruled p xs ≡ true → (is_ruled p d.arcs ≡ true) × (control_at p xs ≡ (is_holder h Side.Superior, false))
            get i =
                subst (λ (n : ℕ). is_ruled p (with_dialogue d.arcs n (begun_by h Side.Superior)) ≡ true → (is_ruled p d.arcs ≡ true) × (control_at p (with_dialogue d.arcs n (begun_by h Side.Superior)) ≡ (is_holder h Side.Superior, false))) (sym at)
                (dialogue_gets d.arcs (begun_by h Side.Superior) p (is_holder h Side.Superior, false) (λ b i. (units_begun h Side.Superior b.dialogue, control_begun h b.dialogue))) i

            first : (o : Option Holder) → x.begun ≡ o → effect (is_at up p) branch fall old (is_rolling (phase_of m.next)) (plus x (signs_of (word c a ∷ []) false false false)) ≡ (is_holder h Side.Superior, false)
            first None i = rw i refl
            first (Some k) i = absurd (let off : is_branch_at d.current p ≡ false = ap (is_branch_at d.current) (sym (node ∙ at)) ∙ not_branch who d a may in cc ((st.begun k i).0, off))
