-- What keeps the current transaction apart from the kept ones: keys, and marks that are drawn.
use Rattle.std.proofs.Common.{◌≡◌, Bool, true, false, refl, ap, sym, subst, ◌∙◌, arith, Option, Some, None, List}
use Rattle.tp_names.specs.declared.identifiers.NodeKey.{NodeKey}
use Rattle.tp_logrec.specs.declared.record.LogRec.{LogRec}
use Rattle.tp_model.specs.declared.arc.Phase.{Phase}
use Rattle.tp_model.specs.declared.transaction.TxEvent.{TxEvent}
use Rattle.tp_model.specs.declared.recovery.Kept.{Kept}
use Rattle.tp_model.specs.Parts.{Who, Current, Digest}
use Rattle.tp_model.specs.Dialogues.{is_nil, is_active, is_rolling}
use Rattle.tp_model.specs.Transactions.{Transaction, node_key, children_of, transacted}
use Rattle.tp_model.specs.Recovery.{put_kept, without_kept, kept_after}
use Rattle.tp_model.specs.Node.{seen, branches_of, remaining, turned}
use Rattle.tp_model.specs.Events.{without_current}
use Rattle.tp_steps.specs.Moves.{IsPut}
use Rattle.tp_steps.specs.Passages.{may_move, IsPassed}
use Rattle.tp_steps.specs.Standing.{standing, in_log, current_after, AreApart, IsApart, IsTold}
use Rattle.tp_steps.proofs.log.Passed.{passed_turn}
use Rattle.tp_steps.proofs.log.TurnLog.{gone, told_turn}
use Rattle.tp_steps.proofs.lemmas.EachKept.{IsEach, each_put, each_without, each_after}

pub apart_each : (k : NodeKey) → IsEach (λ x. x.key ≡ k → ⊥) (AreApart k)
apart_each k = record { none = tt; both = λ x ks h i. (h, i); first = λ x ks h. h.0; rest = λ x ks h. h.1 }

pub apart_put : (k : NodeKey) (ks : List Kept) (x : Kept) → AreApart k ks → (x.key ≡ k → ⊥) → AreApart k (put_kept ks x)
apart_put k ks x h i = each_put (λ y. y.key ≡ k → ⊥) (AreApart k) (apart_each k) ks x h (λ b. i)

pub apart_without : (k : NodeKey) (ks : List Kept) (j : NodeKey) → AreApart k ks → AreApart k (without_kept ks j)
apart_without k ks j h = each_without (λ y. y.key ≡ k → ⊥) (AreApart k) (apart_each k) ks j h

-- a record keeps a key only by a Damage of it
abbrev pub IsKeptBy : NodeKey → Option LogRec → Type 0
IsKeptBy k (Some (LogRec.Damage n j s o r cs)) = j ≡ k
IsKeptBy k _ = ⊥

pub apart_after : (k : NodeKey) (r : Option LogRec) (ks : List Kept) → AreApart k ks → (IsKeptBy k r → ⊥) → AreApart k (kept_after r ks)
apart_after k r ks h i = each_after (λ x. x.key ≡ k → ⊥) (AreApart k) (apart_each k) r ks h (λ n j s o p cs b is same. i (subst (IsKeptBy k) (sym is) same))

came : (p q : Phase) → may_move p q ≡ true → is_rolling q ≡ false → is_nil q ≡ false → is_rolling p ≡ false
came Phase.Nil q h i j = refl
came Phase.Active q h i j = refl
came Phase.Ready q h i j = refl
came Phase.Committing q h i j = refl
came Phase.Rolling Phase.Nil h i j = absurd (cc (j))
came Phase.Rolling Phase.Active h i j = absurd (cc (h))
came Phase.Rolling Phase.Ready h i j = absurd (cc (h))
came Phase.Rolling Phase.Committing h i j = absurd (cc (h))
came Phase.Rolling Phase.Rolling h i j = absurd (cc (i))

-- nothing of it stands in the log: then it is active, rolls or is over
unlogged : (t : Transaction) → in_log t ≡ None → is_rolling t.phase ≡ false → is_nil t.phase ≡ false → is_active t.phase ≡ true
unlogged t h i j = go t.phase h i j
  where
    go : (p : Phase) → standing t.key p (children_of t.rows) t.decision ≡ None → is_rolling p ≡ false → is_nil p ≡ false → is_active p ≡ true
    go Phase.Nil h i j = absurd (cc (j))
    go Phase.Active h i j = refl
    go Phase.Ready h i j = absurd (cc (h))
    go Phase.Committing h i j = absurd (cc (h))
    go Phase.Rolling h i j = absurd (cc (i))

pub left_is : (t : Transaction) (u : Current) → remaining t ≡ Some u → (u.key ≡ t.key) × (u.phase ≡ t.phase) × (u.decision ≡ t.decision) × (is_nil t.phase ≡ false)
left_is t u i = go (is_nil t.phase) refl
  where
    go : (b : Bool) → is_nil t.phase ≡ b → (u.key ≡ t.key) × (u.phase ≡ t.phase) × (u.decision ≡ t.decision) × (is_nil t.phase ≡ false)
    go true j = let no : None ≡ Some u = rw (j, remaining) at i in absurd (cc (no))
    go false j = (grind (arith, i, j), grind (arith, i, j), grind (arith, i, j), j)

pub left_branches : (t : Transaction) (u : Current) → remaining t ≡ Some u → u.branches ≡ branches_of t.rows
left_branches t u i = go (is_nil t.phase) refl
  where
    go : (b : Bool) → is_nil t.phase ≡ b → u.branches ≡ branches_of t.rows
    go true j = let no : None ≡ Some u = rw (j, remaining) at i in absurd (cc (no))
    go false j = grind (arith, i, j)

-- a turn that goes on, and does not roll, keeps nothing of its key
not_kept : (f : TxEvent) (t : Transaction) → IsPut f t → (is_active t.phase ≡ true → t.decision ≡ None) → is_rolling (transacted f t).next.phase ≡ false → is_nil (transacted f t).next.phase ≡ false
    → (r : Option LogRec) → (transacted f t).rec ≡ r → IsKeptBy (node_key t.key) r → ⊥
not_kept f t put un roll nil (Some (LogRec.Damage n j s o r cs)) e kept =
    let told : IsTold t (transacted f t) = told_turn f t put un in
    let own : in_log (transacted f t).next ≡ None =
    sym told.log ∙ ap (λ (x : Option LogRec). current_after x (in_log t)) e ∙ ap (λ (k : NodeKey). without_current k (in_log t)) kept ∙ gone t.key t.phase (children_of t.rows) t.decision in
    let act : is_active (transacted f t).next.phase ≡ true = unlogged (transacted f t).next own roll nil in
    cc ((told.active act).1, e)
not_kept f t put un roll nil _ e kept = kept

-- an event of the current transaction keeps it apart
pub apart_turned : (who : Who) (f : TxEvent) (d : Digest) (c : Current) → d.current ≡ Some c → IsPut f (seen who d.arcs c) → (is_active c.phase ≡ true → c.decision ≡ None) → IsApart d → IsApart (turned who f d c).next
apart_turned who f d c now put un apart u is rolls =
    let t : Transaction = seen who d.arcs c in
    let passed : IsPassed f t t (transacted f t) = passed_turn f t put in
    let left = left_is (transacted f t).next u is in
    let roll : is_rolling (transacted f t).next.phase ≡ false = ap is_rolling (sym left.1) ∙ rolls in
    let before : is_rolling c.phase ≡ false = came c.phase (transacted f t).next.phase passed.moves roll left.3 in
    let same : u.key ≡ c.key = left.0 ∙ passed.key in
    subst (λ (k : NodeKey). AreApart k (kept_after (transacted f t).rec d.kept)) (sym (ap node_key same))
    (apart_after (node_key c.key) (transacted f t).rec d.kept (apart c now before) (not_kept f t put un roll left.3 (transacted f t).rec refl))
