-- The arcs that a transaction needs stay live, by every event of it that is no failure, and where transactions begin.
use Rattle.std.proofs.Common.{if◌then◌else◌, ◌≡◌, ◌⊎◌, inl, inr, ℕ, Bool, true, false, refl, ap, sym, subst, ◌∙◌, arith, Option, Some, None, List, [], ◌∷◌, ◌++◌, ◌&&◌, ◌||◌, ◌==◌, not}
use Rattle.std.proofs.lemmas.Bool.Decides.{nat_tests}
use Rattle.tp_names.specs.declared.children.Child.{Child}
use Rattle.tp_names.specs.declared.outcome.Report.{Report}
use Rattle.tp_records.specs.declared.dialogue.DialogueRecord.{DialogueRecord}
use Rattle.tp_model.specs.declared.arc.Side.{Side}
use Rattle.tp_model.specs.declared.transaction.TxEvent.{TxEvent}
use Rattle.tp_model.specs.Parts.{Who, Arc, Key, Root, Branch, Current, Digest}
use Rattle.tp_model.specs.Links.{is_live}
use Rattle.tp_model.specs.Dialogues.{is_nil, is_active, is_rolling, begun_by, named_holder, Sight, Acts, Nothing_happens, Out_of_phase}
use Rattle.tp_model.specs.Arcs.{find_arc, link_with, is_live_with_peer, with_dialogue, carried}
use Rattle.tp_model.specs.Transactions.{Row, Transaction, Turn, turn, and_then, aaid_of, is_under_at, find_row, row_holds, with_row, settle, complete_rollback, end_branch, branch_left, takes_left, takes, sight_of_tx, fresh_rows, fresh_branch, transacted}
use Rattle.tp_model.specs.Node.{Move, move, followed, next_mark, with_mark_drawn, phase_of, may_root, seen_rows, seen, branches_of, remaining, Passage, passage, is_leaving, is_over, may_begin_on, begin_on, begin_each, chained_peers, start_root, has_none, try_start, fresh_current, turned, passed, transact, started_next}
use Rattle.tp_steps.specs.Turns.{row_dead}
use Rattle.tp_steps.specs.Moves.{IsPut}
use Rattle.tp_steps.specs.Facts.{stays, find_branch}
use Rattle.tp_steps.specs.Branches.{IsMoved}
use Rattle.tp_steps.specs.Passages.{IsPassed}
use Rattle.tp_steps.specs.Heeding.{has_ended}
use Rattle.tp_failure_free.specs.Drained.{branch_is}
use Rattle.tp_steps.proofs.links.Apart.{apart_turn}
use Rattle.tp_steps.proofs.lemmas.Alike.{live_same}
use Rattle.tp_steps.proofs.links.Wrapped.{agrees_played}
use Rattle.tp_steps.proofs.branches.Heeding.{heeding_event, rows_rollback, rows_settle, marked, some_there}
use Rattle.tp_steps.proofs.log.Passed.{passed_turn}
use Rattle.tp_steps.proofs.branches.Rowed.{rowed_turn}
use Rattle.tp_steps.proofs.log.Sound.{left_is, left_branches}
use Rattle.tp_steps.proofs.every.EveryRecord.{find_arc_is}
use Rattle.tp_failure_free.proofs.Calm.{spares, leaves_with_end, keeps_event}
use Rattle.tp_steps.proofs.every.BeginCases.{begun_over, begin_cases}
use Rattle.tp_control.proofs.LedEvents.{seen_holds}
use Rattle.tp_steps.proofs.links.Whole.{whole_turn}

-- ---- branches among the arcs

pub holds_left : (rows : List Row) (p : ℕ) (f : Branch → Bool) → elim (find_branch (branches_of rows) p) as (λ _. Bool) [ None ↦ false | Some b ↦ f b ] ≡ row_holds rows p f
holds_left [] p f = refl
holds_left (r ∷ rows) p f = grind (arith, holds_left rows p f)

-- ---- arcs that are needed

abbrev pub is_open : Branch → Bool
is_open b = not (has_ended b)

-- the superior's, and that of each open branch
abbrev pub needs : Current → ℕ → Bool
needs c p = is_under_at c.key p || branch_is is_open c p

abbrev pub IsAlive : Digest → Type 0
IsAlive d = (c : Current) (p : ℕ) → d.current ≡ Some c → needs c p ≡ true → is_live_with_peer d.arcs p ≡ true

-- ---- an event of the transaction

gone_left : (t : Transaction) (p : ℕ) → row_holds t.rows p (λ b. true) ≡ true → row_holds (branch_left p t).next.rows p has_ended ≡ true
unfolding branch_left
gone_left t p there = marked has_ended t p (λ r. record r { branch = record r.branch { left = true } }) (λ r. refl) (λ r. grind arith) there

gone_end : (t : Transaction) (p : ℕ) → row_holds t.rows p (λ b. true) ≡ true → row_holds (end_branch p Report.None t).next.rows p has_ended ≡ true
unfolding end_branch
gone_end t p there = marked has_ended t p (λ r. record r { branch = record r.branch { ended = true; report = Report.None } }) (λ r. refl) (λ r. refl) there

gone_takes : (t : Transaction) (p : ℕ) → row_holds t.rows p (λ b. true) ≡ true → row_holds (takes_left p t).next.rows p has_ended ≡ true
gone_takes t p there = go (is_active t.phase)
  where
    go : (b : Bool) → row_holds (if b then and_then (branch_left p t) settle else and_then (end_branch p Report.None t) complete_rollback).next.rows p has_ended ≡ true
    go true = ap (λ (rs : List Row). row_holds rs p has_ended) (rows_settle (branch_left p t).next) ∙ gone_left t p there
    go false = ap (λ (rs : List Row). row_holds rs p has_ended) (rows_rollback (end_branch p Report.None t).next) ∙ gone_end t p there

-- the branch that leaves with an end has left or ended, where anything happens
pub leaves_closed : (f : TxEvent) (s : Transaction) (p : ℕ) → leaves_with_end f p ≡ true → (transacted f s ≡ turn [] s) ⊎ (row_holds (transacted f s).next.rows p has_ended ≡ true)
unfolding sight_of_tx
leaves_closed (TxEvent.Took q DialogueRecord.LeftEnd) s p h =
    subst (λ (n : ℕ). (transacted (TxEvent.Took n DialogueRecord.LeftEnd) s ≡ turn [] s) ⊎ (row_holds (transacted (TxEvent.Took n DialogueRecord.LeftEnd) s).next.rows p has_ended ≡ true)) (sym at) (go (sight_of_tx s p DialogueRecord.LeftEnd) refl)
  where
    at : q ≡ p
    at = grind (arith, nat_tests, h)

    a : Sight → Turn
    a g = elim g as (λ _. Turn) [ Acts ↦ takes p DialogueRecord.LeftEnd s | Nothing_happens ↦ turn [] s | Out_of_phase ↦ turn [] s ]

    go : (g : Sight) → sight_of_tx s p DialogueRecord.LeftEnd ≡ g → (a g ≡ turn [] s) ⊎ (row_holds (a g).next.rows p has_ended ≡ true)
    go Nothing_happens i = inl refl
    go Out_of_phase i = inl refl
    go Acts i =
        let row : row_holds s.rows p (λ b. is_active s.phase && b.prepared && not b.counted && not b.left || is_rolling s.phase && not b.ended && not b.left) ≡ true = grind (arith, i) in
        inr (gone_takes (with_row s p row_dead) p (marked (λ b. true) s p row_dead (λ r. refl) (λ r. refl) (some_there s.rows p _ row)))
leaves_closed f s p h = absurd (cc (h))

-- a branch that is open after the event was so before
pub was_open : (f : TxEvent) (s : Transaction) (p : ℕ) → IsPut f s → row_holds (transacted f s).next.rows p is_open ≡ true → row_holds s.rows p is_open ≡ true
was_open f s p put h = go (find_row (transacted f s).next.rows p) refl
  where
    go : (o : Option Row) → find_row (transacted f s).next.rows p ≡ o → row_holds s.rows p is_open ≡ true
    go None i = absurd (grind (arith, h, i))
    go (Some n) i = on was.0 was.1 (has_ended was.0.branch) refl
      where
        was : (r : Row) × (find_row s.rows p ≡ Some r) × IsMoved f s p r.branch n.branch
        was = (rowed_turn f s put).rows p n i

        on : (r : Row) → find_row s.rows p ≡ Some r → (v : Bool) → has_ended r.branch ≡ v → row_holds s.rows p is_open ≡ true
        on r k false j = rw (k, row_holds) (rw j refl)
        on r k true j =
            let ended : row_holds s.rows p has_ended ≡ true = rw (k, row_holds) j in
            let later : row_holds (transacted f s).next.rows p has_ended ≡ true = (heeding_event f s put).ended p ended in
            absurd (grind (arith, h, later, i))

pub alive_turned : (who : Who) (f : TxEvent) (d : Digest) (c : Current) → d.current ≡ Some c → IsPut f (seen who d.arcs c) → ((p : ℕ) → needs c p ≡ true → spares f c.key p ≡ true) → ((p : ℕ) → leaves_with_end f p ≡ true → is_under_at c.key p ≡ false)
    → IsAlive d → IsAlive (turned who f d c).next
alive_turned who f d c now put spare above old u p is need = go (is_under_at c.key p) refl
  where
    s : Transaction
    s = seen who d.arcs c

    a : Turn
    a = transacted f s

    w : Passage
    w = passage (is_leaving f) s.phase a.next.phase

    left : (u.key ≡ a.next.key) × (u.phase ≡ a.next.phase) × (u.decision ≡ a.next.decision) × (is_nil a.next.phase ≡ false)
    left = left_is a.next u is

    key : u.key ≡ c.key
    key = left.0 ∙ IsPassed.key (passed_turn f s put)

    after : stays true p a.outs ≡ true → is_live_with_peer d.arcs p ≡ true → is_live_with_peer (turned who f d c).next.arcs p ≡ true
    after st live = (agrees_played d s w a (whole_turn f s) d.arcs p (apart_turn f s put)).live ∙ ap (λ v. stays v p a.outs) live ∙ st

    shut : needs c p ≡ true → leaves_with_end f p ≡ false → stays true p a.outs ≡ true
    shut need off = (keeps_event f p s (spare p need) off put.late).shut left.3

    branch : is_under_at c.key p ≡ false → row_holds a.next.rows p is_open ≡ true
    branch i =
        let off : is_under_at u.key p ≡ false = ap (λ (k : Key). is_under_at k p) key ∙ i in
        let now_open : branch_is is_open u p ≡ true = grind (arith, need, off) in
        sym (holds_left a.next.rows p is_open) ∙ ap (λ (bs : List Branch). elim (find_branch bs p) as (λ _. Bool) [ None ↦ false | Some b ↦ is_open b ]) (sym (left_branches a.next u is)) ∙ now_open

    needed : row_holds s.rows p is_open ≡ true → needs c p ≡ true
    needed h = let was : branch_is is_open c p ≡ true = sym (seen_holds d.arcs c.branches p is_open) ∙ h in grind (arith, was)

    before : row_holds s.rows p is_open ≡ true → is_live_with_peer d.arcs p ≡ true
    before h = old c p now (needed h)

    aside : is_under_at c.key p ≡ false → (v : Bool) → leaves_with_end f p ≡ v → is_live_with_peer (turned who f d c).next.arcs p ≡ true
    aside i false j = let was = was_open f s p put (branch i) in after (shut (needed was) j) (before was)
    aside i true j = elim (leaves_closed f s p j) [
      | inl same ↦ after (ap (λ (b : Turn). stays true p b.outs) same) (before (was_open f s p put (branch i)))
      | inr ended ↦ absurd (clash (find_row a.next.rows p) (branch i) ended)
    ]
      where
        clash : (o : Option Row) → elim o as (λ _. Bool) [ None ↦ false | Some r ↦ is_open r.branch ] ≡ true → elim o as (λ _. Bool) [ None ↦ false | Some r ↦ has_ended r.branch ] ≡ true → ⊥
        clash None x y = absurd (cc (x))
        clash (Some r) x y = absurd (grind (arith, x, y))

    go : (b : Bool) → is_under_at c.key p ≡ b → is_live_with_peer (turned who f d c).next.arcs p ≡ true
    go true i = under_live (leaves_with_end f p) refl
      where
        under_live : (v : Bool) → leaves_with_end f p ≡ v → is_live_with_peer (turned who f d c).next.arcs p ≡ true
        under_live false j = after (shut (rw i refl) j) (old c p now (rw i refl))
        under_live true j = absurd (cc (above p j, i))
    go false i = aside i (leaves_with_end f p) refl

-- ---- transactions begin

live_said : (arcs : List Arc) (q : ℕ) (r : DialogueRecord) (p : ℕ) → is_live_with_peer (carried arcs q r).0 p ≡ is_live_with_peer arcs p
live_said [] q r p = refl
live_said (a ∷ arcs) q r p = grind (arith, nat_tests, live_said arcs q r p)

pub more_branches : (arcs : List Arc) (bs : List Branch) (n : Child) (p : ℕ) → find_branch (branches_of (seen_rows arcs bs ++ fresh_rows (n ∷ []))) p ≡ elim (find_branch bs p) as (λ _. Option Branch) [ None ↦ if n.addr.node == p then Some (fresh_branch n) else None | Some b ↦ Some b ]
more_branches arcs [] n p = grind arith
more_branches arcs (b ∷ bs) n p = grind (arith, more_branches arcs bs n p)

begun_needs : (who : Who) (arcs : List Arc) (c u : Current) (n : Child) (p : ℕ) → remaining (transacted (TxEvent.Begun (n ∷ [])) (seen who arcs c)).next ≡ Some u → needs u p ≡ true → (needs c p || (n.addr.node == p)) ≡ true
begun_needs who arcs c u n p is need = grind (arith, branch, key, need)
  where
    t : Transaction
    t = (transacted (TxEvent.Begun (n ∷ [])) (seen who arcs c)).next

    key : u.key ≡ c.key
    key = (left_is t u is).0

    branches : u.branches ≡ branches_of (seen_rows arcs c.branches ++ fresh_rows (n ∷ []))
    branches = left_branches t u is

    found : find_branch u.branches p ≡ elim (find_branch c.branches p) as (λ _. Option Branch) [ None ↦ if n.addr.node == p then Some (fresh_branch n) else None | Some b ↦ Some b ]
    found = ap (λ (bs : List Branch). find_branch bs p) branches ∙ more_branches arcs c.branches n p

    on : (o : Option Branch) → elim (elim o as (λ _. Option Branch) [ None ↦ if n.addr.node == p then Some (fresh_branch n) else None | Some b ↦ Some b ]) as (λ _. Bool) [ None ↦ false | Some b ↦ is_open b ] ≡ true
        → (elim o as (λ _. Bool) [ None ↦ false | Some b ↦ is_open b ] || (n.addr.node == p)) ≡ true
    on None h = grind (arith, h)
    on (Some b) h = grind (arith, h)

    branch : branch_is is_open u p ≡ true → (branch_is is_open c p || (n.addr.node == p)) ≡ true
    branch h = on (find_branch c.branches p) (sym (ap (λ (o : Option Branch). elim o as (λ _. Bool) [ None ↦ false | Some b ↦ is_open b ]) found) ∙ h)

pub alive_begin : (who : Who) (q : ℕ) (d : Digest) → IsAlive d → IsAlive (begin_on who q d).next
alive_begin who q d old = begin_cases (λ (m : Move). IsAlive m.next) who q d old on
  where
    on : (c : Current) (a : Arc) → d.current ≡ Some c → find_arc d.arcs q ≡ Some a → may_begin_on who d a ≡ true → IsAlive (begun_over who q d c a).next
    on c a i j k = λ u p is need.
        let child : Child = record { addr = a.peer; branch = record { superior = who.site; mark = next_mark who d } } in
        let f = begun_by (named_holder a.dialogue) Side.Superior in
        let r : DialogueRecord = DialogueRecord.Begin (aaid_of c.key) (record { superior = who.site; mark = next_mark who d }) (named_holder a.dialogue) in
        live_said (with_dialogue d.arcs q f) q r p ∙ live_same d.arcs q f p ∙ before c i a j k p (begun_needs who d.arcs c u child p is need)
      where
        before : (c : Current) → d.current ≡ Some c → (a : Arc) → find_arc d.arcs q ≡ Some a → may_begin_on who d a ≡ true → (p : ℕ) → (needs c p || (a.peer.node == p)) ≡ true → is_live_with_peer d.arcs p ≡ true
        before c i a j k p h = choose (needs c p) refl
          where
            at : a.peer.node ≡ q
            at = find_arc_is d.arcs q a j

            live : is_live a.link ≡ true
            live = grind (arith, k)

            here : is_live_with_peer d.arcs q ≡ true
            here = rw (j, link_with) live

            choose : (v : Bool) → needs c p ≡ v → is_live_with_peer d.arcs p ≡ true
            choose true n = old c p i n
            choose false n = let same : q ≡ p = sym at ∙ grind (arith, nat_tests, h, n) in subst (λ (x : ℕ). is_live_with_peer d.arcs x ≡ true) same here

pub alive_each : (who : Who) (ps : List ℕ) (d : Digest) → IsAlive d → IsAlive (begin_each who ps d).next
alive_each who [] d old = old
alive_each who (p ∷ ps) d old = alive_each who ps (begin_on who p d).next (alive_begin who p d old)

-- a root needs no arc yet
alive_fresh : (d : Digest) (t : _) → IsAlive (record d { current = Some (fresh_current (Root t)) })
alive_fresh d t c p is need = let same : fresh_current (Root t) ≡ c = cc (is) in let now : needs (fresh_current (Root t)) p ≡ true = ap (λ (x : Current). needs x p) same ∙ need in absurd (cc (now))

pub alive_root : (who : Who) (ps : List ℕ) (d : Digest) → IsAlive (start_root who ps d).next
unfolding start_root
alive_root who ps d =
    let g : Digest = record (with_mark_drawn d) { current = Some (fresh_current (Root (record { owner = who.site; mark = next_mark who d }))) } in
    let a : Move = begin_each who ps g in
    alive_each who (chained_peers who a.next) a.next (alive_each who ps g (alive_fresh (with_mark_drawn d) (record { owner = who.site; mark = next_mark who d })))

pub alive_start : (who : Who) (d : Digest) → IsAlive d → IsAlive (try_start who d).next
unfolding try_start
alive_start who d old = go (is_nil (phase_of d) && may_root d && not (has_none (chained_peers who d)))
  where
    go : (b : Bool) → IsAlive (if b then start_root who [] d else move [] d).next
    go true = alive_root who [] d
    go false = old

-- ---- an event of the transaction at the node

pub alive_transact : (who : Who) (f : TxEvent) (d : Digest) → ((c : Current) → d.current ≡ Some c → IsPut f (seen who d.arcs c)) → ((c : Current) (p : ℕ) → d.current ≡ Some c → needs c p ≡ true → spares f c.key p ≡ true)
    → ((c : Current) (p : ℕ) → d.current ≡ Some c → leaves_with_end f p ≡ true → is_under_at c.key p ≡ false) → IsAlive d → IsAlive (transact who f d).next
unfolding transact
alive_transact who f d put spare above old = go d.current refl
  where
    over : (c : Current) → IsAlive (turned who f d c).next → (b : Bool) → IsAlive (if b then followed (turned who f d c) (try_start who) else turned who f d c).next
    over c one true = alive_start who (turned who f d c).next one
    over c one false = one

    go : (o : Option Current) → d.current ≡ o → IsAlive (elim o as (λ _. Move) [ None ↦ move [] d | Some c ↦ started_next who (passed who f d c) (turned who f d c) ]).next
    go None i = old
    go (Some c) i = over c (alive_turned who f d c i (put c i) (λ p. spare c p i) (λ p. above c p i) old) (is_over (passed who f d c))
