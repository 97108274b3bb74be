-- In every legal history, where nothing failed while a tree was current, no branch of it has ended while it is active or ready.
use Rattle.std.proofs.Common.{◌≡◌, ◌⊎◌, inl, inr, ℕ, Bool, true, false, refl, ap, sym, ◌∙◌, arith, Option, Some, None, List, [], ◌∷◌, ◌&&◌, ◌||◌, ◌==◌}
use Rattle.tp_names.specs.declared.identifiers.Addr.{Addr}
use Rattle.tp_names.specs.declared.identifiers.BranchId.{BranchId}
use Rattle.tp_names.specs.declared.identifiers.Aaid.{Aaid}
use Rattle.tp_names.specs.Same.{is_aaid}
use Rattle.tp_records.specs.declared.dialogue.DialogueRecord.{DialogueRecord}
use Rattle.tp_records.specs.declared.peer.RecState.{RecState}
use Rattle.tp_model.specs.declared.arc.Phase.{Phase}
use Rattle.tp_model.specs.declared.transaction.TxEvent.{TxEvent}
use Rattle.tp_model.specs.Parts.{Origin, Entry, Under, Branch, Current, Digest}
use Rattle.tp_model.specs.Dialogues.{is_nil, is_active, is_ready, is_committing, is_rolling}
use Rattle.tp_model.specs.Transactions.{Row, Transaction, aaid_of, find_row_by_id, is_open_in_commit, transacted}
use Rattle.tp_model.specs.Node.{seen, fresh_current}
use Rattle.tp_model.specs.History.{digest}
use Rattle.tp_model.specs.Outcomes.{is_now}
use Rattle.tp_steps.specs.Moves.{prelude}
use Rattle.tp_steps.specs.Facts.{BranchKey, find_branch}
use Rattle.tp_steps.specs.Passages.{may_move, IsPassed}
use Rattle.tp_steps.specs.Branches.{may_end}
use Rattle.tp_failure_free.specs.Drained.{IsUnfailed}
use Rattle.tp_histories.proofs.trees.Late.{late_law}
use Rattle.tp_histories.proofs.trees.Knowing.{Came, As_it_was, By_begin, By_crash, came_by, current_none, recovered_now}
use Rattle.tp_agreement.proofs.Marked.{Marked, MayMark, IsMark, marking_event}
use Rattle.tp_agreement.proofs.Accounts.{marked_back}
use Rattle.tp_steps.proofs.log.Passed.{passed_turn}
use Rattle.tp_steps.proofs.log.Sound.{left_is}
use Rattle.tp_failure_free.proofs.LiveLaw.{unfailed_before, no_crash, among_of}
use Rattle.tp_failure_free.proofs.AfterEvent.{IsAfter, Untouched, Was_put, after_event}
use Rattle.tp_steps.proofs.lemmas.Options.{some_same}

abbrev pub ended_of : Branch → Bool
ended_of b = b.ended

ends_mark : IsMark ended_of may_end
ends_mark = record { moves = λ f q p b n m h. m.ended h; fresh = λ c. refl }

abbrev pub is_over_work : Phase → Bool
is_over_work h = is_committing h || is_rolling h

end_in_commit : (s : Transaction) (b : BranchId) (p : ℕ) (o : Option Row) → elim o as (λ _. Bool) [ None ↦ false | Some w ↦ (w.branch.peer.node == p) && is_open_in_commit s w.branch ] ≡ true → is_committing s.phase ≡ true
end_in_commit s b p None h = absurd (cc (h))
end_in_commit s b p (Some w) h = grind (arith, h)

pub may_end_over : (f : TxEvent) (s : Transaction) (p : ℕ) → may_end f s p ≡ true → is_over_work s.phase ≡ true
may_end_over (TxEvent.Took q (DialogueRecord.Done r)) s p h = grind (arith, h)
may_end_over (TxEvent.Took q (DialogueRecord.RolledBack r)) s p h = grind (arith, h)
may_end_over (TxEvent.Took q DialogueRecord.Left) s p h = grind (arith, h)
may_end_over (TxEvent.Took q DialogueRecord.LeftEnd) s p h = grind (arith, h)
may_end_over (TxEvent.Reply b (RecState.Done r)) s p h = let late = end_in_commit s b p (find_row_by_id s.rows b) h in rw late refl
may_end_over f s p h = absurd (cc (h))

over_then : (p q : Phase) → may_move p q ≡ true → is_nil q ≡ false → is_over_work p ≡ true → is_over_work q ≡ true
over_then Phase.Committing q h i j = grind (arith, h, i)
over_then Phase.Rolling q h i j = grind (arith, h, i)
over_then p q h i j = absurd (cc (j))

over_after : (o : Origin) (h : List Entry) (e : Entry) (c u : Current) → is_nil u.phase ≡ false → IsAfter o h e c u → is_over_work c.phase ≡ true → is_over_work u.phase ≡ true
over_after o h e c u late (Untouched j key phase finds) over = ap is_over_work phase ∙ over
over_after o h e c u late (Was_put x j put rest) over =
    let left = left_is (transacted x.event (seen o.who x.arcs c)).next u rest in
    ap is_over_work left.1 ∙ over_then c.phase (transacted x.event (seen o.who x.arcs c)).next.phase (IsPassed.moves (passed_turn x.event (seen o.who x.arcs c) put)) left.3 over

-- a branch that has ended is of a transaction past ready
abbrev pub IsEnded : Aaid → Origin → List Entry → Type 0
IsEnded t o h = (c : Current) (p : ℕ) (k : BranchKey) → (digest o h).current ≡ Some c → is_aaid t (aaid_of c.key) ≡ true → Marked ended_of (digest o h).current p k → is_over_work c.phase ≡ true

ended_step : (t : Aaid) (o : Origin) (up : Option Addr) (e : Entry) (h : List Entry) → IsUnfailed t o up (e ∷ h) → IsEnded t o h → IsEnded t o (e ∷ h)
ended_step t o up e h k rest u p j now same m = go (marking_event o.who d e.event ended_of may_end ends_mark (late_law o up h k.grown.3) k.grown.0 p j m)
  where
    d : Digest
    d = digest o h

    -- of the branch's transaction before the entry
    tree_of : (c : Current) (b : BranchId) → j ≡ (aaid_of c.key, b) → is_aaid t (aaid_of c.key) ≡ true
    tree_of c b key =
        let here : m.current ≡ u = some_same m.current u (sym m.at ∙ now) in
        ap (is_aaid t) (ap (λ (x : BranchKey). x.0) (sym key ∙ m.key) ∙ ap (λ (x : Current). aaid_of x.key) here) ∙ same

    by : (c : Current) (b : BranchId) → d.current ≡ Some c → j ≡ (aaid_of c.key, b) → is_over_work c.phase ≡ true → is_over_work u.phase ≡ true
    by c b i key over = over_after o h e c u (among_of o up (e ∷ h) u k.fresh k.grown now).current (after_event t o up h e c u k i now (tree_of c b key) same) over

    fresh : (x : MayMark o.who e.event (prelude o.who d e.event) may_end p j) → (prelude o.who d e.event).current ≡ d.current → is_over_work u.phase ≡ true
    fresh x i = by x.current x.branch.id (sym i ∙ x.at) x.key (may_end_over x.event (seen o.who x.arcs x.current) p x.sets)

    came : (x : MayMark o.who e.event (prelude o.who d e.event) may_end p j) → Came o.who d e.event → is_over_work u.phase ≡ true
    came x (As_it_was i) = fresh x i
    came x (By_begin from y z q t b g a is found cur nil above) =
        let same : fresh_current (Under t b a.peer) ≡ x.current = some_same (fresh_current (Under t b a.peer)) x.current (sym cur ∙ x.at) in
        let empty : None ≡ Some x.branch = ap (λ (c : Current). find_branch c.branches p) same ∙ x.found in
        absurd (cc (empty))
    came x (By_crash is cur) =
        absurd (no_crash t o up e h k (recovered_now t d.current (ap (is_now t) (sym cur ∙ x.at) ∙ tree_of x.current x.branch.id x.key)) is)

    go : Marked ended_of (prelude o.who d e.event).current p j ⊎ MayMark o.who e.event (prelude o.who d e.event) may_end p j → is_over_work u.phase ≡ true
    go (inl x) = let b = marked_back o.who d e.event ended_of may_end p j ends_mark k.grown.0 x in by b.current b.branch.id b.at b.key (rest b.current p j b.at (tree_of b.current b.branch.id b.key) b)
    go (inr x) = came x (came_by o.who d e.event k.grown.0)

ended_law : (t : Aaid) (o : Origin) (up : Option Addr) (h : List Entry) → IsUnfailed t o up h → IsEnded t o h
ended_law t o up [] k = λ c p j now same m. absurd (cc (current_none o k.fresh, now))
ended_law t o up (e ∷ h) k = ended_step t o up e h k (ended_law t o up h (unfailed_before t o up e h k).1)

pub clash : (h : Phase) → (is_active h || is_ready h) ≡ true → is_over_work h ≡ true → ⊥
clash h a b = absurd (grind (arith, a, b))

pub unended_law : (t : Aaid) (o : Origin) (up : Option Addr) (h : List Entry) (c : Current) (p : ℕ) (b : Branch) → IsUnfailed t o up h → (digest o h).current ≡ Some c → is_aaid t (aaid_of c.key) ≡ true → (is_active c.phase || is_ready c.phase) ≡ true → find_branch c.branches p ≡ Some b → b.ended ≡ false
unended_law t o up h c p b k now tree early found = go b.ended refl
  where
    go : (v : Bool) → b.ended ≡ v → v ≡ false
    go false i = refl
    go true i =
        absurd (clash c.phase early (ended_law t o up h k c p (aaid_of c.key, b.id) now tree (record { current = c; branch = b; at = now; found = found; is = i; key = refl })))
