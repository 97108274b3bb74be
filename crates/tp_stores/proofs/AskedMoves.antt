-- Of an event of a node: a branch whose user has asked for commitment, or that is bound, was so before, or the user asks now;
-- and only a branch that is ready commits.
use Rattle.std.proofs.Common.{◌≡◌, ◌⊎◌, ℕ, Bool, true, false, refl, ap, sym, ◌∙◌, arith, Option, Some, None, [], ◌∷◌, inl, inr, ◌||◌}
use Rattle.tp_logrec.specs.declared.record.LogRec.{LogRec}
use Rattle.tp_model.specs.declared.transaction.TxEvent.{TxEvent}
use Rattle.tp_model.specs.declared.recovery.Kept.{Kept}
use Rattle.tp_model.specs.declared.recovery.KeptEvent.{KeptEvent}
use Rattle.tp_model.specs.Parts.{Who, Event, Arc, Key, Root, Current, Digest}
use Rattle.tp_model.specs.Dialogues.{is_ready}
use Rattle.tp_model.specs.Arcs.{find_arc}
use Rattle.tp_model.specs.Recovery.{settled}
use Rattle.tp_model.specs.Transactions.{Transaction, is_under, transacted}
use Rattle.tp_model.specs.Node.{Move, move, followed, perform, next_mark, with_mark_drawn, seen, remaining, turned, keep, fresh_current, may_begin_on, begin_on}
use Rattle.tp_model.specs.Events.{refusal, action}
use Rattle.tp_model.specs.Outcomes.{is_commit_request}
use Rattle.tp_steps.specs.Moves.{IsPut, IsLate, prelude, Moves}
use Rattle.tp_steps.specs.Passages.{is_commit_rec}
use Rattle.tp_steps.proofs.every.EveryEvent.{every_move}
use Rattle.tp_steps.proofs.every.BeginCases.{next_child, begun_over, begin_cases}
use Rattle.tp_steps.proofs.log.Sound.{left_is}
use Rattle.tp_steps.proofs.lemmas.Equality.{or_case}
use Rattle.tp_steps.proofs.lemmas.Options.{some_same}
use Rattle.tp_runs.proofs.KnownAsked.{step_of, left_asked}
use Rattle.tp_runs.proofs.KnownFlags.{IsStep}
use Rattle.tp_stores.proofs.Hearing.{or_first, or_over}
use Rattle.tp_stores.proofs.AskedTurns.{is_bound, IsAskedTurn, asked_turn}

-- its user has asked for commitment, or it is bound
abbrev pub is_asked : Current → Bool
is_asked c = c.asked || is_bound c.phase

-- it was bound before
abbrev IsBoundFrom : Digest → Current → Type 0
IsBoundFrom d u = (c : Current) × (d.current ≡ Some c) × (u.key ≡ c.key) × (is_bound c.phase ≡ true) × (c.asked ≡ true → u.asked ≡ true)

pub record IsAskedMove (s d : Digest) (m : Move) : Type 0 where
  pub goes : (u : Current) → m.next.current ≡ Some u → is_under u.key ≡ true → is_bound u.phase ≡ true → (u.asked ≡ true) ⊎ IsBoundFrom d u
  pub orders : is_commit_rec m.rec ≡ true → (c : Current) × (s.current ≡ Some c) × (is_under c.key ≡ true → is_ready c.phase ≡ true)

same_move : (s d : Digest) (m : Move) → m.next.current ≡ d.current → is_commit_rec m.rec ≡ false → IsAskedMove s d m
same_move s d m same none = record {
  goes = λ u at under bound. inr (u, sym same ∙ at, refl, bound, λ h. h);
  orders = λ h. absurd (cc (h, none));
}

turned_move : (who : Who) (s : Digest) (f : TxEvent) (d : Digest) (c : Current) → d.current ≡ Some c → s.current ≡ Some c → IsPut f (seen who d.arcs c) → IsAskedMove s d (turned who f d c)
turned_move who s f d c now at put = record { goes = goes; orders = λ h. (c, at, λ u. a.orders h u) }
  where
    q : Transaction
    q = seen who d.arcs c

    n : Transaction
    n = (transacted f q).next

    a : IsAskedTurn q q (transacted f q)
    a = asked_turn f q put

    goes : (u : Current) → remaining n ≡ Some u → is_under u.key ≡ true → is_bound u.phase ≡ true → (u.asked ≡ true) ⊎ IsBoundFrom d u
    goes u is under bound =
        let left = left_is n u is in
        let asked : u.asked ≡ n.asked = left_asked n u is in
        elim (or_case (is_bound c.phase) n.asked (a.bound (ap is_bound (sym left.1) ∙ bound))) [
          | inl i ↦ inr (c, now, left.0 ∙ a.key, i, λ h. asked ∙ a.keeps h)
          | inr i ↦ inl (asked ∙ i)
        ]

begins_move : (who : Who) (s : Digest) (p : ℕ) (d : Digest) → IsAskedMove s d (begin_on who p d)
begins_move who s p d = begin_cases (IsAskedMove s d) who p d (same_move s d (move [] d) refl refl) on
  where
    on : (c : Current) (a : Arc) → d.current ≡ Some c → find_arc d.arcs p ≡ Some a → may_begin_on who d a ≡ true → IsAskedMove s d (begun_over who p d c a)
    on c a now found may = record { goes = goes; orders = λ h. absurd (cc (h)) }
      where
        n : Transaction
        n = (transacted (TxEvent.Begun (next_child who d a ∷ [])) (seen who d.arcs c)).next

        goes : (u : Current) → remaining n ≡ Some u → is_under u.key ≡ true → is_bound u.phase ≡ true → (u.asked ≡ true) ⊎ IsBoundFrom d u
        goes u is under bound = let left = left_is n u is in inr (c, now, left.0, ap is_bound (sym left.1) ∙ bound, λ h. left_asked n u is ∙ h)

then_move : (s d : Digest) (a : Move) (f : Digest → Move) → IsAskedMove s d a → IsAskedMove s a.next (f a.next) → IsAskedMove s d (followed a f)
then_move s d a f one two = record { goes = λ u at under bound. goes u under (two.goes u at under bound); orders = orders (f a.next).rec refl }
  where
    goes : (u : Current) → is_under u.key ≡ true → (u.asked ≡ true) ⊎ IsBoundFrom a.next u → (u.asked ≡ true) ⊎ IsBoundFrom d u
    goes u under (inl h) = inl h
    goes u under (inr w) = on (one.goes w.0 w.1 (ap is_under (sym w.2) ∙ under) w.3)
      where
        on : (w.0.asked ≡ true) ⊎ IsBoundFrom d w.0 → (u.asked ≡ true) ⊎ IsBoundFrom d u
        on (inl h) = inl (w.4 h)
        on (inr v) = inr (v.0, v.1, w.2 ∙ v.2, v.3, λ h. w.4 (v.4 h))

    orders : (r : Option LogRec) → (f a.next).rec ≡ r → is_commit_rec (elim r as (λ _. Option LogRec) [ None ↦ a.rec | Some l ↦ Some l ]) ≡ true → (c : Current) × (s.current ≡ Some c) × (is_under c.key ≡ true → is_ready c.phase ≡ true)
    orders None i h = one.orders h
    orders (Some l) i h = two.orders (ap is_commit_rec i ∙ h)

settled_none : (k : Kept) (f : KeptEvent) → is_commit_rec (settled k f).rec ≡ false
unfolding settled
settled_none k (KeptEvent.Done a b r) = grind arith
settled_none k KeptEvent.Forget = grind arith
settled_none k KeptEvent.Purge = refl

-- a root that starts is no branch
roots_move : (s d e : Digest) (m : Move) (k : Key) → e.current ≡ Some (fresh_current k) → is_under k ≡ false → IsAskedMove s e m → IsAskedMove s d m
roots_move s d e m k is root one = record { goes = λ u at under bound. go u under (one.goes u at under bound); orders = one.orders }
  where
    go : (u : Current) → is_under u.key ≡ true → (u.asked ≡ true) ⊎ IsBoundFrom e u → (u.asked ≡ true) ⊎ IsBoundFrom d u
    go u under (inl h) = inl h
    go u under (inr w) =
        let same : fresh_current k ≡ w.0 = some_same (fresh_current k) w.0 (sym is ∙ w.1) in
        let off : is_under u.key ≡ false = ap is_under w.2 ∙ ap (λ (c : Current). is_under c.key) (sym same) ∙ root in
        absurd (cc (under, off))

asked_moves : (who : Who) (e : Event) (s : Digest) → Moves who e s (IsAskedMove s)
asked_moves who e s = record {
  still = λ d. same_move s d (move [] d) refl refl;
  chain = λ d a f one two quiet. then_move s d a f one two;
  speaks = λ d outs h own said. same_move s d (perform outs d) refl refl;
  changes_dialogue = λ d q f m by one. record { goes = one.goes; orders = one.orders };
  drops_arc = λ d q m at one. record { goes = one.goes; orders = one.orders };
  notes_kept = λ d ks m held one. record { goes = one.goes; orders = one.orders };
  keeps = λ d k f held. same_move s d (keep (settled k f) d) refl (settled_none k f);
  turns = λ d c f now at asked put gone. turned_move who s f d c now at put;
  begins = λ d q free. begins_move who s q d;
  roots = λ d m nil may one. roots_move s d (record (with_mark_drawn d) { current = Some (fresh_current (Root (record { owner = who.site; mark = next_mark who d }))) }) m (Root (record { owner = who.site; mark = next_mark who d })) refl refl one;
}

asked_event : (who : Who) (d : Digest) (e : Event) → IsLate d → refusal who d e ≡ None → IsAskedMove (prelude who d e) (prelude who d e) (action who d e)
asked_event who d e late ok = every_move who d e (IsAskedMove (prelude who d e)) (asked_moves who e (prelude who d e)) late ok

-- a commit is logged of a branch that was ready
pub ready_commits : (who : Who) (d : Digest) (e : Event) → IsLate d → refusal who d e ≡ None → is_commit_rec (action who d e).rec ≡ true → (c : Current) × ((prelude who d e).current ≡ Some c) × (is_under c.key ≡ true → is_ready c.phase ≡ true)
ready_commits who d e late ok h = (asked_event who d e late ok).orders h

abbrev pub IsAskedFrom : Digest → Current → Type 0
IsAskedFrom s u = (c : Current) × (s.current ≡ Some c) × (u.key ≡ c.key) × (is_asked c ≡ true)

-- where the user does not ask, it had asked before
pub asked_before : (who : Who) (d : Digest) (e : Event) → IsLate d → refusal who d e ≡ None → is_commit_request e ≡ false → (u : Current) → (action who d e).next.current ≡ Some u → is_under u.key ≡ true → is_asked u ≡ true
    → IsAskedFrom (prelude who d e) u
asked_before who d e late ok off u at under h =
    elim (or_case u.asked (is_bound u.phase) h) [
      | inl i ↦ by i (step_of who d e late ok u at)
      | inr i ↦ on ((asked_event who d e late ok).goes u at under i)
    ]
  where
    s : Digest
    s = prelude who d e

    by : u.asked ≡ true → IsStep (λ c. c.asked) who s (is_commit_request e) u → IsAskedFrom s u
    by i (inl w) = (w.0, w.1, w.2, or_first w.0.asked (is_bound w.0.phase) (sym (w.3 ∙ ap (λ (b : Bool). b || w.0.asked) off) ∙ i))
    by i (inr n) = absurd (let no = n.1 in cc (no, i))

    on : (u.asked ≡ true) ⊎ IsBoundFrom s u → IsAskedFrom s u
    on (inl i) = by i (step_of who d e late ok u at)
    on (inr w) = (w.0, w.1, w.2, or_over w.0.asked (is_bound w.0.phase) w.3)
