-- What every event of a node makes of its branches: an instance of the steps of a node.
use Rattle.std.proofs.Common.{if◌then◌else◌, ◌≡◌, ◌⊎◌, inl, inr, ℕ, Bool, true, false, refl, ap, sym, subst, ◌∙◌, arith, Option, Some, None, List, [], ◌∷◌, ◌++◌, ◌||◌, ◌==◌}
use Rattle.tp_names.specs.declared.identifiers.Aaid.{Aaid}
use Rattle.tp_names.specs.declared.identifiers.BranchId.{BranchId}
use Rattle.tp_model.specs.declared.transaction.TxEvent.{TxEvent}
use Rattle.tp_model.specs.Parts.{Who, Event, Arc, Branch, Root, Current, Digest}
use Rattle.tp_model.specs.Dialogues.{is_nil}
use Rattle.tp_model.specs.Arcs.{find_arc}
use Rattle.tp_model.specs.Transactions.{Row, Transaction, find_row, transacted}
use Rattle.tp_model.specs.Node.{Move, move, followed, perform, next_mark, with_mark_drawn, seen_row, seen_rows, seen, branches_of, remaining, fresh_current, may_begin_on, begin_on, turned}
use Rattle.tp_model.specs.Events.{refusal, action}
use Rattle.tp_steps.specs.Moves.{IsAsked, IsPut, IsLate, prelude, Moves}
use Rattle.tp_steps.specs.Facts.{find_branch}
use Rattle.tp_steps.specs.Branches.{may_count, may_leave, may_end, May, IsMovedAt, Stood, IsNew, IsBranched}
use Rattle.tp_steps.proofs.every.EveryEvent.{every_move}
use Rattle.tp_steps.proofs.lemmas.Equality.{or_case}
use Rattle.tp_steps.proofs.words.HeardTurned.{seen_find, left_find}
use Rattle.tp_steps.proofs.words.Heard.{find_last, row_fresh}
use Rattle.tp_steps.proofs.branches.Rowed.{rowed_turn}
use Rattle.tp_steps.proofs.every.BeginCases.{begun_over, begin_cases}
use Rattle.tp_steps.proofs.lemmas.Options.{some_same}

moved_self : (who : Who) (e : Event) (s : Digest) (p : ℕ) (b : Branch) → IsMovedAt who e s p b b
moved_self who e s p b = record { counted = λ h. inl h; left = λ h. inl h; ended = λ h. inl h }

moved_over : (who : Who) (e : Event) (s : Digest) (p : ℕ) (b c n : Branch) → IsMovedAt who e s p b c → IsMovedAt who e s p c n → IsMovedAt who e s p b n
moved_over who e s p b c n one two = record {
  counted = λ h. elim (two.counted h) [ inl k ↦ one.counted k | inr k ↦ inr k ];
  left = λ h. elim (two.left h) [ inl k ↦ one.left k | inr k ↦ inr k ];
  ended = λ h. elim (two.ended h) [ inl k ↦ one.ended k | inr k ↦ inr k ];
}

branched_same : (who : Who) (e : Event) (s d : Digest) (m : Move) → m.next.current ≡ d.current → IsBranched who e s d m
branched_same who e s d m same = record { branches = λ p n h. (n, inl (h.0, sym same ∙ h.1, h.2), moved_self who e s p n) }

branched_then : (who : Who) (e : Event) (s d : Digest) (a : Move) (f : Digest → Move) → IsBranched who e s d a → IsBranched who e s a.next (f a.next) → IsBranched who e s d (followed a f)
branched_then who e s d a f one two = record { branches = λ p n h. let y = two.branches p n h in go p n y.0 y.1 y.2 }
  where
    go : (p : ℕ) (n b : Branch) → Stood a.next p b ⊎ IsNew b → IsMovedAt who e s p b n → (b : Branch) × (Stood d p b ⊎ IsNew b) × IsMovedAt who e s p b n
    go p n b (inr new) k = (b, inr new, k)
    go p n b (inl old) k = let x = one.branches p b old in (x.0, x.1, moved_over who e s p x.0 b n x.2 k)

-- a row of what remains
pub row_left : (u : Transaction) (p : ℕ) (c : Current) (n : Branch) → remaining u ≡ Some c → find_branch c.branches p ≡ Some n → (r : Row) × (find_row u.rows p ≡ Some r) × (r.branch ≡ n)
row_left u p c n is found = go (is_nil u.phase) refl
  where
    go : (b : Bool) → is_nil u.phase ≡ b → (r : Row) × (find_row u.rows p ≡ Some r) × (r.branch ≡ n)
    go true i = let none : None ≡ Some c = rw (i, remaining) at is in absurd (cc (none))
    go false i = on (find_row u.rows p) refl
      where
        rows : branches_of u.rows ≡ c.branches
        rows = grind (arith, is, i)

        at : elim (find_row u.rows p) as (λ _. Option Branch) [ None ↦ None | Some r ↦ Some r.branch ] ≡ Some n
        at = sym (left_find u.rows p) ∙ ap (λ (bs : List Branch). find_branch bs p) rows ∙ found

        on : (o : Option Row) → find_row u.rows p ≡ o → (r : Row) × (find_row u.rows p ≡ Some r) × (r.branch ≡ n)
        on None j = absurd (grind (arith, at, j))
        on (Some r) j = (r, j, some_same r.branch n (rw j at at))

-- a row that is seen
pub row_seen : (arcs : List Arc) (bs : List Branch) (p : ℕ) (r : Row) → find_row (seen_rows arcs bs) p ≡ Some r → find_branch bs p ≡ Some r.branch
row_seen arcs bs p r h = go (find_branch bs p) refl
  where
    at : elim (find_branch bs p) as (λ _. Option Row) [ None ↦ None | Some b ↦ Some (seen_row arcs b) ] ≡ Some r
    at = sym (seen_find arcs bs p) ∙ h

    go : (o : Option Branch) → find_branch bs p ≡ o → find_branch bs p ≡ Some r.branch
    go None i = absurd (grind (arith, at, i))
    go (Some b) i =
        let one : Some (seen_row arcs b) ≡ Some r = rw i at at in
        i ∙ ap (λ (w : Option Row). elim w as (λ _. Option Branch) [ None ↦ None | Some x ↦ Some x.branch ]) one

branched_turned : (who : Who) (e : Event) (f : TxEvent) (s d : Digest) (c : Current) → d.current ≡ Some c → s.current ≡ Some c → IsAsked e c f → IsPut f (seen who d.arcs c) → IsBranched who e s d (turned who f d c)
branched_turned who e f s d c now at asked put = record { branches = λ p n h. go p n h (row_left (transacted f q).next p h.0 n h.1 h.2) }
  where
    q : Transaction
    q = seen who d.arcs c

    may : (g : TxEvent → Transaction → ℕ → Bool) (p : ℕ) (x : Bool) → (x || g f q p) ≡ true → (x ≡ true) ⊎ May who e s g p
    may g p x h = elim (or_case x (g f q p) h) [ inl i ↦ inl i | inr i ↦ inr (c, at, f, d.arcs, asked, i) ]

    go : (p : ℕ) (n : Branch) → Stood (turned who f d c).next p n → (r : Row) × (find_row (transacted f q).next.rows p ≡ Some r) × (r.branch ≡ n) → (b : Branch) × (Stood d p b ⊎ IsNew b) × IsMovedAt who e s p b n
    go p n h w =
        let x = (rowed_turn f q put).rows p w.0 w.1 in (
          x.0.branch,
          inl (c, now, row_seen d.arcs c.branches p x.0 x.1),
          subst (λ (v : Branch). IsMovedAt who e s p x.0.branch v) w.2 (record {
            counted = λ i. may may_count p x.0.branch.counted (x.2.counted i);
            left = λ i. may may_leave p x.0.branch.left (x.2.left i);
            ended = λ i. may may_end p x.0.branch.ended (x.2.ended i);
          }),
        )

branched_begins : (who : Who) (e : Event) (q : ℕ) (s d : Digest) → IsBranched who e s d (begin_on who q d)
branched_begins who e q s d = begin_cases (IsBranched who e s d) who q d still on
  where
    still : IsBranched who e s d (move [] d)
    still = branched_same who e s d (move [] d) refl

    on : (c : Current) (a : Arc) → d.current ≡ Some c → find_arc d.arcs q ≡ Some a → may_begin_on who d a ≡ true → IsBranched who e s d (begun_over who q d c a)
    on c a now found may = record { branches = λ p n h. at p n (row_left u p h.0 n h.1 h.2) }
      where
        id : BranchId
        id = record { superior = who.site; mark = next_mark who d }

        t : Transaction
        t = seen who (with_mark_drawn d).arcs c

        u : Transaction
        u = record t { rows = t.rows ++ row_fresh a.peer id ∷ [] }

        at : (p : ℕ) (n : Branch) → (r : Row) × (find_row u.rows p ≡ Some r) × (r.branch ≡ n) → (b : Branch) × (Stood d p b ⊎ IsNew b) × IsMovedAt who e s p b n
        at p n w = pick (find_row t.rows p) refl (a.peer.node == p) refl (sym (find_last t.rows (row_fresh a.peer id) p) ∙ w.1)
          where
            pick : (o : Option Row) → find_row t.rows p ≡ o → (b : Bool) → (a.peer.node == p) ≡ b
                → elim (find_row t.rows p) as (λ _. Option Row) [ None ↦ if a.peer.node == p then Some (row_fresh a.peer id) else None | Some x ↦ Some x ] ≡ Some w.0
                → (b : Branch) × (Stood d p b ⊎ IsNew b) × IsMovedAt who e s p b n
            pick (Some x) i b j h =
                let one : Some x ≡ Some w.0 = rw i at h in
                let same : x.branch ≡ n = ap (λ (v : Row). v.branch) (some_same x w.0 one) ∙ w.2 in
                (x.branch, inl (c, now, row_seen d.arcs c.branches p x i), subst (λ (v : Branch). IsMovedAt who e s p x.branch v) same (moved_self who e s p x.branch))
            pick None i true j h =
                let one : Some (row_fresh a.peer id) ≡ Some w.0 = rw (i, j) at h in
                let same : (row_fresh a.peer id).branch ≡ n = ap (λ (v : Row). v.branch) (some_same (row_fresh a.peer id) w.0 one) ∙ w.2 in
                ((row_fresh a.peer id).branch, inr (refl, refl, refl), subst (λ (v : Branch). IsMovedAt who e s p (row_fresh a.peer id).branch v) same (moved_self who e s p (row_fresh a.peer id).branch))
            pick None i false j h = let none : None ≡ Some w.0 = rw (i, j) at h in absurd (cc (none))

branched_root : (who : Who) (e : Event) (s d : Digest) (t : Aaid) (m : Move) → IsBranched who e s (record (with_mark_drawn d) { current = Some (fresh_current (Root t)) }) m → IsBranched who e s d m
branched_root who e s d t m one = record { branches = λ p n h. let x = one.branches p n h in (x.0, elim x.1 [ inl k ↦ absurd (none p x.0 k.0 k.1 k.2) | inr k ↦ inr k ], x.2) }
  where
    none : (p : ℕ) (b : Branch) (c : Current) → Some (fresh_current (Root t)) ≡ Some c → find_branch c.branches p ≡ Some b → ⊥
    none p b c i h =
        let same : fresh_current (Root t) ≡ c = cc (i) in
        let empty : None ≡ Some b = ap (λ (x : Current). find_branch x.branches p) same ∙ h in
        cc (empty)

branched_moves : (who : Who) (e : Event) (s : Digest) → Moves who e s (IsBranched who e s)
branched_moves who e s = record {
  still = λ d. branched_same who e s d (move [] d) refl;
  chain = λ d a f one two quiet. branched_then who e s d a f one two;
  speaks = λ d outs h own said. branched_same who e s d (perform outs d) refl;
  changes_dialogue = λ d q f m by one. record { branches = one.branches };
  drops_arc = λ d q m at one. record { branches = one.branches };
  notes_kept = λ d ks m held one. record { branches = one.branches };
  keeps = λ d k f held. branched_same who e s d _ refl;
  turns = λ d c f now at asked put gone. branched_turned who e f s d c now at asked put;
  begins = λ d q free. branched_begins who e q s d;
  roots = λ d m nil may one. branched_root who e s d _ m one;
}

-- every accepted event, from its prelude on
pub branched_event : (who : Who) (d : Digest) (e : Event) → IsLate d → refusal who d e ≡ None → IsBranched who e (prelude who d e) (prelude who d e) (action who d e)
branched_event who d e late ok = every_move who d e (IsBranched who e (prelude who d e)) (branched_moves who e (prelude who d e)) late ok
