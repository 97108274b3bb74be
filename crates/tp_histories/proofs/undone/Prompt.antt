-- Nothing is left undone at a node, in every legal history and in every run: an instance of the steps of a node.
use Rattle.std.proofs.Common.{◌≡◌, ℕ, Bool, true, false, refl, ap, sym, ◌∙◌, arith, Option, Some, None, List, [], ◌∷◌, ◌++◌, ◌&&◌, ◌||◌}
use Rattle.tp_names.specs.declared.identifiers.NodeKey.{NodeKey}
use Rattle.tp_names.specs.declared.identifiers.Addr.{Addr}
use Rattle.tp_names.specs.declared.outcome.Outcome.{Outcome}
use Rattle.tp_names.specs.declared.children.Child.{Child}
use Rattle.tp_records.specs.declared.dialogue.DialogueRecord.{DialogueRecord}
use Rattle.tp_records.specs.declared.peer.PeerRecord.{PeerRecord}
use Rattle.tp_logrec.specs.declared.record.LogRec.{LogRec}
use Rattle.tp_model.specs.declared.arc.Phase.{Phase}
use Rattle.tp_model.specs.declared.transaction.TxEvent.{TxEvent}
use Rattle.tp_model.specs.Parts.{Who, Event, Entry, Origin, Start, Arc, Branch, Key, Under, Current, Digest}
use Rattle.tp_model.specs.Dialogues.{is_nil, is_ready, is_committing}
use Rattle.tp_model.specs.Arcs.{find_arc}
use Rattle.tp_model.specs.Transactions.{Row, Transaction, all_settled, all_done, fresh_rows, transacted}
use Rattle.tp_model.specs.Node.{Move, next_mark, with_mark_drawn, seen, seen_rows, branches_of, remaining, may_begin_on, begin_on, fresh_current}
use Rattle.tp_model.specs.Events.{recovered, recovered_current, named_again, after_crash, current_in_log, key_in_log, fresh_branches, decision_of, without_current, current_by, current_from, started}
use Rattle.tp_model.specs.History.{digest}
use Rattle.tp_model.specs.Legal.{IsGrown, IsLegal}
use Rattle.tp_model.specs.World.{Node}
use Rattle.tp_model.specs.Happenings.{Happening, run}
use Rattle.tp_model.specs.Promises.{IsIn}
use Rattle.tp_steps.specs.Moves.{Moves, IsPut, prelude, begun_in, counted_in}
use Rattle.tp_steps.specs.Undone.{may_settle, may_complete, IsPromptTurn}
use Rattle.tp_histories.specs.Undone.{are_settled, are_done, is_left_unsettled, is_left_incomplete, is_left_undone}
use Rattle.tp_steps.proofs.every.EveryEvent.{every_move}
use Rattle.tp_histories.proofs.trees.Late.{late_law}
use Rattle.tp_histories.proofs.worlds.Starts.{all_legal}
use Rattle.tp_steps.proofs.branches.Undone.{prompt_event}
use Rattle.tp_steps.proofs.every.BeginCases.{begun_over, begin_cases}
use Rattle.std.proofs.lemmas.Bool.{or_from}

-- ---- branches, as a transaction sees them among the arcs and leaves them

settled_seen : (arcs : List Arc) (bs : List Branch) → all_settled (seen_rows arcs bs) ≡ are_settled bs
settled_seen arcs [] = refl
settled_seen arcs (b ∷ bs) = ap (λ (v : Bool). (b.counted || b.left) && v) (settled_seen arcs bs)

done_seen : (arcs : List Arc) (bs : List Branch) → all_done (seen_rows arcs bs) ≡ are_done bs
done_seen arcs [] = refl
done_seen arcs (b ∷ bs) = ap (λ (v : Bool). (b.ended || b.left || b.given_up) && v) (done_seen arcs bs)

settled_behind : (rows : List Row) → are_settled (branches_of rows) ≡ all_settled rows
settled_behind [] = refl
settled_behind (r ∷ rs) = ap (λ (v : Bool). (r.branch.counted || r.branch.left) && v) (settled_behind rs)

done_behind : (rows : List Row) → are_done (branches_of rows) ≡ all_done rows
done_behind [] = refl
done_behind (r ∷ rs) = ap (λ (v : Bool). (r.branch.ended || r.branch.left || r.branch.given_up) && v) (done_behind rs)

-- one that has just begun is open
settled_fresh : (rows : List Row) (c : Child) → all_settled (rows ++ fresh_rows (c ∷ [])) ≡ false
settled_fresh [] c = refl
settled_fresh (r ∷ rs) c = grind (arith, settled_fresh rs c)

done_fresh : (rows : List Row) (c : Child) → all_done (rows ++ fresh_rows (c ∷ [])) ≡ false
done_fresh [] c = refl
done_fresh (r ∷ rs) c = grind (arith, done_fresh rs c)

-- ---- what is current

record IsPromptAt (o : Option Current) : Type 0 where
  settles : (c : Current) → o ≡ Some c → is_left_unsettled c ≡ false
  completes : (c : Current) → o ≡ Some c → is_left_incomplete c ≡ false

prompt_none : IsPromptAt None
prompt_none = record { settles = λ c h. absurd (cc (h)); completes = λ c h. absurd (cc (h)) }

prompt_some : (c : Current) → is_left_unsettled c ≡ false → is_left_incomplete c ≡ false → IsPromptAt (Some c)
prompt_some c s i = record {
  settles = λ x h. let same : c ≡ x = cc (h) in ap is_left_unsettled (sym same) ∙ s;
  completes = λ x h. let same : c ≡ x = cc (h) in ap is_left_incomplete (sym same) ∙ i;
}

prompt_remaining : (t : Transaction) → may_settle t ≡ false → may_complete t ≡ false → IsPromptAt (remaining t)
prompt_remaining t s i = go (is_nil t.phase) refl
  where
    go : (b : Bool) → is_nil t.phase ≡ b → IsPromptAt (remaining t)
    go true n = rw (n, remaining) prompt_none
    go false n = rw (n, remaining) (prompt_some _ (grind (arith, settled_behind t.rows, s)) (grind (arith, done_behind t.rows, i)))

prompt_begin : (who : Who) (p : ℕ) (d : Digest) → IsPromptAt d.current → IsPromptAt (begin_on who p d).next.current
prompt_begin who p d old = begin_cases (λ (m : Move). IsPromptAt m.next.current) who p d old on
  where
    on : (c : Current) (a : Arc) → d.current ≡ Some c → find_arc d.arcs p ≡ Some a → may_begin_on who d a ≡ true → IsPromptAt (begun_over who p d c a).next.current
    on c a now found may =
        let child : Child = record { addr = a.peer; branch = record { superior = who.site; mark = next_mark who d } } in
        let t : Transaction = (transacted (TxEvent.Begun (child ∷ [])) (seen who (with_mark_drawn d).arcs c)).next in
        prompt_remaining t (grind (arith, settled_fresh (seen_rows (with_mark_drawn d).arcs c.branches) child)) (grind (arith, done_fresh (seen_rows (with_mark_drawn d).arcs c.branches) child))

prompt_fresh : (k : Key) → IsPromptAt (Some (fresh_current k))
prompt_fresh k = prompt_some (fresh_current k) refl refl

prompt_turned : (who : Who) (f : TxEvent) (d : Digest) (c : Current) → d.current ≡ Some c → IsPut f (seen who d.arcs c) → IsPromptAt d.current → IsPromptAt (remaining (transacted f (seen who d.arcs c)).next)
prompt_turned who f d c now put old =
    let k : IsPromptTurn (seen who d.arcs c) (transacted f (seen who d.arcs c)) = prompt_event f (seen who d.arcs c) put in
    prompt_remaining (transacted f (seen who d.arcs c)).next (k.settles before_settles) (k.completes before_completes)
  where
    before_settles : may_settle (seen who d.arcs c) ≡ false
    before_settles = let s = old.settles c now in grind (arith, settled_seen d.arcs c.branches, s)

    before_completes : may_complete (seen who d.arcs c) ≡ false
    before_completes = let s = old.completes c now in grind (arith, done_seen d.arcs c.branches, s)

prompt_moves : (who : Who) (e : Event) (s : Digest) → Moves who e s (λ d m. IsPromptAt d.current → IsPromptAt m.next.current)
prompt_moves who e s = record {
  still = λ d old. old;
  chain = λ d a f one two none old. two (one old);
  speaks = λ d outs h own said old. old;
  changes_dialogue = λ d p f m by one old. one old;
  drops_arc = λ d p m at one old. one old;
  notes_kept = λ d ks m held one old. one old;
  keeps = λ d k f held old. old;
  turns = λ d c f now at asked put gone old. prompt_turned who f d c now put old;
  begins = λ d p free old. prompt_begin who p d old;
  roots = λ d m nil may one old. one (prompt_fresh _);
}

-- ---- what an event brings, and the start

prompt_recovered : (k : Key) (p : Phase) (bs : List Branch) (o : Option Outcome) → (is_ready p || is_committing p) ≡ true → IsPromptAt (Some (recovered k p bs o))
prompt_recovered k p bs o h = prompt_some (recovered k p bs o) (grind (arith, h)) (grind (arith, h))

prompt_crashed : (o : Option Current) → IsPromptAt (recovered_current o)
prompt_crashed None = prompt_none
prompt_crashed (Some x) = go (is_ready x.phase || is_committing x.phase) refl
  where
    go : (b : Bool) → (is_ready x.phase || is_committing x.phase) ≡ b → IsPromptAt (recovered_current (Some x))
    go true i = rw (i, recovered_current) (prompt_recovered x.key x.phase (named_again x.branches) x.decision i)
    go false i = rw (i, recovered_current) prompt_none

prompt_prelude : (who : Who) (d : Digest) (e : Event) → IsPromptAt d.current → IsPromptAt (prelude who d e).current
unfolding after_crash
prompt_prelude who d (Event.Declare s) old = record { settles = old.settles; completes = old.completes }
prompt_prelude who d (Event.Do r) old = record { settles = λ c h. old.settles c (same ∙ h); completes = λ c h. old.completes c (same ∙ h) }
  where
    same : d.current ≡ (prelude who d (Event.Do r)).current
    same = grind arith
prompt_prelude who d (Event.Arrive from (PeerRecord.OnAssoc x y q (DialogueRecord.Begin t b k))) old = go (find_arc d.arcs from.node)
  where
    go : (o : Option Arc) → IsPromptAt (begun_in o t b (counted_in d from)).current
    go None = record { settles = old.settles; completes = old.completes }
    go (Some a) = prompt_fresh (Under t b a.peer)
prompt_prelude who d (Event.Arrive from r) old = record { settles = λ c h. old.settles c (same ∙ h); completes = λ c h. old.completes c (same ∙ h) }
  where
    same : d.current ≡ (prelude who d (Event.Arrive from r)).current
    same = grind arith
prompt_prelude who d Event.Crash old = prompt_crashed d.current
prompt_prelude who d _ old = old

prompt_in_log : (k : Option Key) (p : Phase) (cs : List Child) (o : Option Outcome) → (is_ready p || is_committing p) ≡ true → IsPromptAt (current_in_log k p cs o)
prompt_in_log None p cs o n = prompt_none
prompt_in_log (Some k) p cs o n = prompt_recovered k p (fresh_branches cs) o n

prompt_without : (k : NodeKey) (o : Option Current) → IsPromptAt o → IsPromptAt (without_current k o)
prompt_without k None old = prompt_none
prompt_without k (Some x) old = record { settles = λ c h. old.settles c (grind (arith, h)); completes = λ c h. old.completes c (grind (arith, h)) }

prompt_by : (r : LogRec) (o : Option Current) → IsPromptAt o → IsPromptAt (current_by r o)
prompt_by (LogRec.Ready n k s cs) o old = prompt_in_log (key_in_log k (Some s)) Phase.Ready cs None refl
prompt_by (LogRec.Heuristic n k u) (Some x) old = prompt_some (record x { decision = Some u }) (old.settles x refl) (old.completes x refl)
prompt_by (LogRec.Commit n k s cs) o old = prompt_in_log (key_in_log k s) Phase.Committing cs (decision_of o) refl
prompt_by (LogRec.Damage n k s u r cs) o old = prompt_without k o old
prompt_by (LogRec.End n k u) o old = prompt_without k o old
prompt_by _ _ old = old

prompt_from : (o : Option Current) (rs : List LogRec) → IsPromptAt o → IsPromptAt (current_from o rs)
prompt_from o [] old = old
prompt_from o (r ∷ rs) old = prompt_from (current_by r o) rs (prompt_by r o old)

prompt_started : (s : Start) → IsPromptAt (started s).current
unfolding started
prompt_started s = prompt_from None s.records prompt_none

-- ---- every legal history, and every run

prompt_history : (o : Origin) (up : Option Addr) (h : List Entry) → IsGrown o up h → IsPromptAt (digest o h).current
prompt_history o up [] grown = prompt_started o.start
prompt_history o up (e ∷ h) grown =
    every_move o.who (digest o h) e.event (λ d m. IsPromptAt d.current → IsPromptAt m.next.current) (prompt_moves o.who e.event (prelude o.who (digest o h) e.event)) (late_law o up h grown.3) grown.0 (prompt_prelude o.who (digest o h) e.event (prompt_history o up h grown.3))

pub prompt_law : (o : Origin) (up : Option Addr) (h : List Entry) (c : Current) → IsGrown o up h → (digest o h).current ≡ Some c → is_left_undone c ≡ false
prompt_law o up h c grown now = let k = prompt_history o up h grown in or_from (is_left_unsettled c) (is_left_incomplete c) (k.settles c now) (k.completes c now)

pub prompt_run : (es : List Happening) (x : Node) (c : Current) → IsIn (run es) x → (digest x.origin x.history).current ≡ Some c → is_left_undone c ≡ false
prompt_run es x c here now = prompt_law x.origin x.superior x.history c (IsLegal.grown (all_legal es x here)) now
