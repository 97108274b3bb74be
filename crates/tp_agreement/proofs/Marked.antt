-- A branch that carries a mark carried it before, under the same key, or the event sets it there.
use Rattle.std.proofs.Common.{if◌then◌else◌, ◌≡◌, ◌⊎◌, inl, inr, ℕ, Bool, true, false, refl, ap, sym, subst, ◌∙◌, arith, Option, Some, None, List, [], ◌∷◌, ◌++◌, ◌||◌, ◌==◌}
use Rattle.tp_names.specs.declared.identifiers.Aaid.{Aaid}
use Rattle.tp_names.specs.declared.identifiers.BranchId.{BranchId}
use Rattle.tp_names.specs.declared.children.Child.{Child}
use Rattle.tp_model.specs.declared.transaction.TxEvent.{TxEvent}
use Rattle.tp_model.specs.Parts.{Who, Event, Arc, Branch, Root, Current, Digest}
use Rattle.tp_model.specs.Dialogues.{is_nil}
use Rattle.tp_model.specs.Arcs.{find_arc}
use Rattle.tp_model.specs.Transactions.{Row, Transaction, aaid_of, find_row, fresh_branch, transacted}
use Rattle.tp_model.specs.Node.{Move, move, next_mark, with_mark_drawn, seen, remaining, fresh_current, may_begin_on, begin_on, turned}
use Rattle.tp_model.specs.Events.{refusal, action}
use Rattle.tp_steps.specs.Moves.{IsAsked, IsPut, IsLate, prelude, Moves}
use Rattle.tp_steps.specs.Facts.{BranchKey, find_branch}
use Rattle.tp_steps.specs.Branches.{IsMoved}
use Rattle.tp_steps.proofs.every.EveryEvent.{every_move}
use Rattle.tp_steps.proofs.lemmas.Equality.{or_case}
use Rattle.tp_steps.proofs.words.Heard.{find_last, row_fresh}
use Rattle.tp_steps.proofs.branches.Rowed.{rowed_turn}
use Rattle.tp_steps.proofs.branches.Branched.{row_left, row_seen}
use Rattle.tp_steps.proofs.log.Passed.{passed_turn}
use Rattle.tp_steps.proofs.every.BeginCases.{begun_over, begin_cases}
use Rattle.tp_steps.proofs.lemmas.Options.{some_same}

-- the branch with the peer carries the mark, and has the key
pub record Marked (mark : Branch → Bool) (o : Option Current) (p : ℕ) (k : BranchKey) : Type 0 where
  pub current : Current
  pub branch : Branch
  pub at : o ≡ Some current
  pub found : find_branch current.branches p ≡ Some branch
  pub is : mark branch ≡ true
  pub key : k ≡ (aaid_of current.key, branch.id)

-- the event sets it, at what was current
pub record MayMark (who : Who) (e : Event) (s : Digest) (may : TxEvent → Transaction → ℕ → Bool) (p : ℕ) (k : BranchKey) : Type 0 where
  pub current : Current
  pub branch : Branch
  pub at : s.current ≡ Some current
  pub found : find_branch current.branches p ≡ Some branch
  pub key : k ≡ (aaid_of current.key, branch.id)
  pub event : TxEvent
  pub arcs : List Arc
  pub asked : IsAsked e current event
  pub sets : may event (seen who arcs current) p ≡ true

-- a mark that only such events set, and that no fresh branch has
pub record IsMark (mark : Branch → Bool) (may : TxEvent → Transaction → ℕ → Bool) : Type 0 where
  pub moves : (f : TxEvent) (q : Transaction) (p : ℕ) (b n : Branch) → IsMoved f q p b n → mark n ≡ true → (mark b || may f q p) ≡ true
  pub fresh : (c : Child) → mark (fresh_branch c) ≡ false

abbrev pub IsMarking : Who → Event → (Branch → Bool) → (TxEvent → Transaction → ℕ → Bool) → Digest → Digest → Move → Type 0
IsMarking who e mark may s d m = (p : ℕ) (k : BranchKey) → Marked mark m.next.current p k → Marked mark d.current p k ⊎ MayMark who e s may p k

pub marked_same : (mark : Branch → Bool) (o u : Option Current) (p : ℕ) (k : BranchKey) → o ≡ u → Marked mark o p k → Marked mark u p k
marked_same mark o u p k same h = subst (λ (v : Option Current). Marked mark v p k) same h

pub remaining_key : (u : Transaction) (c : Current) → remaining u ≡ Some c → u.key ≡ c.key
remaining_key u c is = go (is_nil u.phase) refl
  where
    go : (b : Bool) → is_nil u.phase ≡ b → u.key ≡ c.key
    go true i = absurd (grind (arith, is, i))
    go false i = grind (arith, is, i)

key_moved : (k : BranchKey) (t u : Aaid) (b c : BranchId) → k ≡ (t, b) → t ≡ u → b ≡ c → k ≡ (u, c)
key_moved k t u b c h i j = h ∙ rw (i, j) refl

marking_turned : (who : Who) (e : Event) (f : TxEvent) (mark : Branch → Bool) (may : TxEvent → Transaction → ℕ → Bool) (s d : Digest) (c : Current) → IsMark mark may → d.current ≡ Some c → s.current ≡ Some c → IsAsked e c f → IsPut f (seen who d.arcs c)
    → IsMarking who e mark may s d (turned who f d c)
marking_turned who e f mark may s d c law now at asked put p k h = go (or_case (mark x.0.branch) (may f q p) (law.moves f q p x.0.branch w.0.branch x.2 (ap mark w.2 ∙ h.is)))
  where
    q : Transaction
    q = seen who d.arcs c

    w : (r : Row) × (find_row (transacted f q).next.rows p ≡ Some r) × (r.branch ≡ h.branch)
    w = row_left (transacted f q).next p h.current h.branch h.at h.found

    x : (r : Row) × (find_row q.rows p ≡ Some r) × IsMoved f q p r.branch w.0.branch
    x = (rowed_turn f q put).rows p w.0 w.1

    found : find_branch c.branches p ≡ Some x.0.branch
    found = row_seen d.arcs c.branches p x.0 x.1

    key : k ≡ (aaid_of c.key, x.0.branch.id)
    key =
        let same : h.current.key ≡ c.key = sym (remaining_key (transacted f q).next h.current h.at) ∙ (passed_turn f q put).key in
        let id : h.branch.id ≡ x.0.branch.id = ap (λ (b : Branch). b.id) (sym w.2) ∙ x.2.id in
        key_moved k (aaid_of h.current.key) (aaid_of c.key) h.branch.id x.0.branch.id h.key (ap aaid_of same) id

    go : (mark x.0.branch ≡ true) ⊎ (may f q p ≡ true) → Marked mark d.current p k ⊎ MayMark who e s may p k
    go (inl i) = inl (record { current = c; branch = x.0.branch; at = now; found = found; is = i; key = key })
    go (inr i) = inr (record { current = c; branch = x.0.branch; at = at; found = found; key = key; event = f; arcs = d.arcs; asked = asked; sets = i })

marking_begins : (who : Who) (e : Event) (mark : Branch → Bool) (may : TxEvent → Transaction → ℕ → Bool) (q : ℕ) (s d : Digest) → IsMark mark may → IsMarking who e mark may s d (begin_on who q d)
marking_begins who e mark may q s d law = begin_cases (IsMarking who e mark may s d) who q d still on
  where
    still : IsMarking who e mark may s d (move [] d)
    still = λ p k h. inl h

    on : (c : Current) (a : Arc) → d.current ≡ Some c → find_arc d.arcs q ≡ Some a → may_begin_on who d a ≡ true → IsMarking who e mark may s d (begun_over who q d c a)
    on c a now found_so may_so = λ p k h. at p k h (row_left u p h.current h.branch h.at h.found)
      where
        id : BranchId
        id = record { superior = who.site; mark = next_mark who d }

        t : Transaction
        t = seen who (with_mark_drawn d).arcs c

        u : Transaction
        u = record t { rows = t.rows ++ row_fresh a.peer id ∷ [] }

        at : (p : ℕ) (k : BranchKey) (h : Marked mark (remaining u) p k) → (r : Row) × (find_row u.rows p ≡ Some r) × (r.branch ≡ h.branch) → Marked mark d.current p k ⊎ MayMark who e s may p k
        at p k h w = pick (find_row t.rows p) refl (a.peer.node == p) refl (sym (find_last t.rows (row_fresh a.peer id) p) ∙ w.1)
          where
            pick : (o : Option Row) → find_row t.rows p ≡ o → (b : Bool) → (a.peer.node == p) ≡ b
                → elim (find_row t.rows p) as (λ _. Option Row) [ None ↦ if a.peer.node == p then Some (row_fresh a.peer id) else None | Some x ↦ Some x ] ≡ Some w.0
                → Marked mark d.current p k ⊎ MayMark who e s may p k
            pick (Some x) i b j m =
                let one : Some x ≡ Some w.0 = rw i at m in
                let same : x.branch ≡ h.branch = ap (λ (v : Row). v.branch) (some_same x w.0 one) ∙ w.2 in
                let tree : h.current.key ≡ c.key = sym (remaining_key u h.current h.at) in
                inl (record {
                  current = c;
                  branch = x.branch;
                  at = now;
                  found = row_seen d.arcs c.branches p x i;
                  is = ap mark same ∙ h.is;
                  key = key_moved k (aaid_of h.current.key) (aaid_of c.key) h.branch.id x.branch.id h.key (ap aaid_of tree) (ap (λ (v : Branch). v.id) (sym same));
                })
            pick None i true j m =
                let one : Some (row_fresh a.peer id) ≡ Some w.0 = rw (i, j) at m in
                let same : (row_fresh a.peer id).branch ≡ h.branch = ap (λ (v : Row). v.branch) (some_same (row_fresh a.peer id) w.0 one) ∙ w.2 in
                absurd (cc (ap mark same ∙ h.is, law.fresh (record { addr = a.peer; branch = id })))
            pick None i false j m = let none : None ≡ Some w.0 = rw (i, j) at m in absurd (cc (none))

fresh_unmarked : (mark : Branch → Bool) (t : Aaid) (p : ℕ) (k : BranchKey) → Marked mark (Some (fresh_current (Root t))) p k → ⊥
fresh_unmarked mark t p k h =
    let same : fresh_current (Root t) ≡ h.current = cc (h.at) in
    let empty : None ≡ Some h.branch = ap (λ (x : Current). find_branch x.branches p) same ∙ h.found in
    cc (empty)

marking_moves : (who : Who) (e : Event) (mark : Branch → Bool) (may : TxEvent → Transaction → ℕ → Bool) (s : Digest) → IsMark mark may → Moves who e s (IsMarking who e mark may s)
marking_moves who e mark may s law = record {
  still = λ d p k h. inl h;
  chain = λ d a f one two quiet p k h. elim (two p k h) [ inl i ↦ one p k i | inr i ↦ inr i ];
  speaks = λ d outs h own said p k i. inl i;
  changes_dialogue = λ d q f m by one. one;
  drops_arc = λ d q m at one. one;
  notes_kept = λ d ks m held one. one;
  keeps = λ d k f held p j h. inl h;
  turns = λ d c f now at asked put gone. marking_turned who e f mark may s d c law now at asked put;
  begins = λ d q free. marking_begins who e mark may q s d law;
  roots = λ d m nil may one p k h. elim (one p k h) [ inl i ↦ absurd (fresh_unmarked mark _ p k i) | inr i ↦ inr i ];
}

pub marking_event : (who : Who) (d : Digest) (e : Event) (mark : Branch → Bool) (may : TxEvent → Transaction → ℕ → Bool) → IsMark mark may → IsLate d → refusal who d e ≡ None → IsMarking who e mark may (prelude who d e) (prelude who d e) (action who d e)
marking_event who d e mark may law late ok = every_move who d e (IsMarking who e mark may (prelude who d e)) (marking_moves who e mark may (prelude who d e) law) late ok
