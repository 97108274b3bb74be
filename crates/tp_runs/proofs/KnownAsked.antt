-- In every legal history the current transaction was asked for commitment if the user asked since its key was begun, and
-- since the last crash.
use Rattle.std.proofs.Common.{if◌then◌else◌, ◌≡◌, ◌≤◌, ◌⊎◌, inl, inr, ℕ, suc, Bool, true, false, refl, ap, sym, subst, ◌∙◌, arith, Option, Some, None, List, [], ◌∷◌}
use Rattle.tp_names.specs.declared.identifiers.Addr.{Addr}
use Rattle.tp_names.specs.declared.identifiers.NodeKey.{NodeKey}
use Rattle.tp_records.specs.declared.request.Request.{Request}
use Rattle.tp_records.specs.declared.dialogue.DialogueRecord.{DialogueRecord}
use Rattle.tp_records.specs.declared.peer.PeerRecord.{PeerRecord}
use Rattle.tp_records.specs.declared.peer.RecState.{RecState}
use Rattle.tp_model.specs.declared.arc.Side.{Side}
use Rattle.tp_model.specs.declared.transaction.TxEvent.{TxEvent}
use Rattle.tp_model.specs.declared.transaction.TxOut.{TxOut}
use Rattle.tp_model.specs.Parts.{Who, Origin, Event, Entry, Arc, Key, Root, Current, Digest}
use Rattle.tp_model.specs.Dialogues.{is_nil, begun_by, named_holder}
use Rattle.tp_model.specs.Arcs.{find_arc, without_arc, with_dialogue}
use Rattle.tp_model.specs.Recovery.{settled}
use Rattle.tp_model.specs.Transactions.{Transaction, aaid_of, node_key, order, settle, ask_commit, transacted}
use Rattle.tp_model.specs.Node.{Move, move, followed, perform, next_mark, with_mark_drawn, seen, remaining, with_begun, may_begin_on, begin_on, is_over, is_leaving, passage, try_start, transact, fresh_current, turned, keep, started_next}
use Rattle.tp_model.specs.Outcomes.{is_commit_request}
use Rattle.tp_model.specs.Keys.{takes_begin, asked_in}
use Rattle.tp_model.specs.History.{digest}
use Rattle.tp_model.specs.Events.{refusal, action}
use Rattle.tp_histories.specs.KnownTests.{same_bool}
use Rattle.tp_model.specs.Legal.{IsLegal}
use Rattle.tp_steps.specs.Moves.{Moves, IsPut, IsAsked, prelude}
use Rattle.tp_steps.specs.Traces.{is_old}
use Rattle.tp_runs.specs.Known.{asked_agrees}
use Rattle.tp_steps.proofs.every.EveryTurn.{every_turn}
use Rattle.tp_steps.proofs.every.EveryMove.{plain_steps, step_start}
use Rattle.tp_steps.proofs.every.EveryEvent.{every_move}
use Rattle.tp_steps.proofs.links.Marks.{new_mark, Drawn, Same_boot, Later_boot, old_stays}
use Rattle.tp_steps.proofs.log.Sound.{left_is}
use Rattle.tp_histories.proofs.trees.Late.{late_law}
use Rattle.tp_steps.proofs.log.Passed.{passed_turn}
use Rattle.tp_steps.proofs.every.Course.{some_same}
use Rattle.tp_histories.proofs.known.KnownPlain.{bool_self}
use Rattle.tp_runs.proofs.KnownBranches.{no_both}
use Rattle.tp_runs.proofs.KnownFlags.{IsNew, IsStep, IsFlag, flag_law}
use Rattle.tp_steps.proofs.every.BeginCases.{begun_over, begin_cases}
use Rattle.tp_runs.proofs.FlagTurns.{IsFlagTurn, kept_settles, flag_turns}

commit_asks : (t : Transaction) → (transacted (TxEvent.User Request.Commit) t).next.asked ≡ true
unfolding ask_commit
commit_asks t = (kept_settles (ask_commit t).next).0

-- ---- of what is known of a node

pub left_asked : (t : Transaction) (u : Current) → remaining t ≡ Some u → u.asked ≡ t.asked
left_asked t u i = go (is_nil t.phase) refl
  where
    go : (b : Bool) → is_nil t.phase ≡ b → u.asked ≡ t.asked
    go true j = let no : None ≡ Some u = rw (j, remaining) at i in absurd (cc (no))
    go false j = grind (arith, i, j)

abbrev IsFrom : Who → Digest → Digest → Current → Type 0
IsFrom who s d u = ((v : Current) × (d.current ≡ Some v) × (u.key ≡ v.key) × (u.asked ≡ v.asked)) ⊎ (IsNew who s u × (u.asked ≡ false))

-- where the user does not ask
abbrev IsCarried : Who → Digest → Digest → Move → Type 0
IsCarried who s d m = Drawn s d → Drawn s m.next × ((u : Current) → m.next.current ≡ Some u → IsFrom who s d u)

carried_same : (who : Who) (s d : Digest) (m : Move) → m.next.current ≡ d.current → m.next.boot ≡ d.boot → m.next.drawn ≡ d.drawn → IsCarried who s d m
carried_same who s d m same boot drawn after = (on after, λ u is. inl (u, sym same ∙ is, refl, refl))
  where
    on : Drawn s d → Drawn s m.next
    on (Same_boot b n) = Same_boot (boot ∙ b) (subst (λ (x : ℕ). s.drawn ≤ x) (sym drawn) n)
    on (Later_boot b) = Later_boot (subst (λ (x : ℕ). suc s.boot ≤ x) (sym boot) b)

carried_then : (who : Who) (s d : Digest) (a : Move) (f : Digest → Move) → IsCarried who s d a → IsCarried who s a.next (f a.next) → IsCarried who s d (followed a f)
carried_then who s d a f one two after = let x = one after in let y = two x.0 in (y.0, λ u is. go u (y.1 u is) x.1)
  where
    go : (u : Current) → IsFrom who s a.next u → ((v : Current) → a.next.current ≡ Some v → IsFrom who s d v) → IsFrom who s d u
    go u (inr n) h = inr n
    go u (inl w) h = on (h w.0 w.1)
      where
        on : IsFrom who s d w.0 → IsFrom who s d u
        on (inl x) = inl (x.0, x.1, w.2 ∙ x.2, w.3 ∙ x.3)
        on (inr n) = inr ((n.0.0, w.2 ∙ n.0.1, n.0.2), w.3 ∙ n.1)

commits_so : (e : Event) (c : Current) (f : TxEvent) → is_commit_request e ≡ false → IsAsked e c f → f ≡ TxEvent.User Request.Commit → ⊥
commits_so (Event.Declare s) c f off asked l = absurd asked
commits_so (Event.Do Request.Commit) c f off asked l = absurd (cc (off))
commits_so (Event.Do Request.Unchanged) c f off asked l = absurd (let no = sym asked ∙ l in cc (no))
commits_so (Event.Do (Request.UAbort p)) c f off asked l = absurd (let no = sym asked.0 ∙ l in cc (no))
commits_so (Event.Do (Request.DeferEnd p)) c f off asked l = absurd (let no = sym asked ∙ l in cc (no))
commits_so (Event.Do (Request.DeferGrant p)) c f off asked l = absurd (let no = sym asked ∙ l in cc (no))
commits_so (Event.Do (Request.Prepare p)) c f off asked l = absurd (let no = sym asked ∙ l in cc (no))
commits_so (Event.Do Request.Done) c f off asked l = absurd (let no = sym asked ∙ l in cc (no))
commits_so (Event.Do Request.Rollback) c f off asked l = absurd (let no = sym asked ∙ l in cc (no))
commits_so (Event.Do r) c f off asked l = absurd asked
commits_so (Event.Arrive from (PeerRecord.ShutAssoc x None)) c f off asked l = absurd asked
commits_so (Event.Arrive from (PeerRecord.ShutAssoc x (Some y))) c f off asked l = absurd (let no = sym asked ∙ l in cc (no))
commits_so (Event.Arrive from (PeerRecord.OnAssoc x y q r)) c f off asked l = absurd (let no = sym asked ∙ l in cc (no))
commits_so (Event.Arrive from (PeerRecord.RecCommit t b)) c f off asked l = absurd (let no = sym asked.0 ∙ l in cc (no))
commits_so (Event.Arrive from (PeerRecord.RecReply t b RecState.Commit)) c f off asked l = absurd (let no = sym asked.0 ∙ l in cc (no))
commits_so (Event.Arrive from (PeerRecord.RecReply t b (RecState.Done r))) c f off asked l = absurd (let no = sym asked.0 ∙ l in cc (no))
commits_so (Event.Arrive from (PeerRecord.RecReply t b RecState.Unknown)) c f off asked l = absurd (let no = sym asked.0 ∙ l in cc (no))
commits_so (Event.Arrive from (PeerRecord.RecReply t b RecState.RetryLater)) c f off asked l = absurd (let no = sym asked.0 ∙ l in cc (no))
commits_so (Event.Arrive from r) c f off asked l = absurd asked
commits_so (Event.Break from r) c f off asked l = absurd (let no = sym asked ∙ l in cc (no))
commits_so (Event.Lose p) c f off asked l = absurd (let no = sym asked ∙ l in cc (no))
commits_so (Event.Heur o) c f off asked l = absurd (let no = sym asked ∙ l in cc (no))
commits_so (Event.GiveUp p) c f off asked l = absurd (let no = sym asked ∙ l in cc (no))
commits_so Event.Retry c f off asked l = absurd (let no = sym asked ∙ l in cc (no))
commits_so Event.Purge c f off asked l = absurd asked
commits_so Event.Crash c f off asked l = absurd asked

carried_turned : (who : Who) (e : Event) (s : Digest) → is_commit_request e ≡ false → (f : TxEvent) (d : Digest) (c : Current) → d.current ≡ Some c → IsAsked e c f → IsPut f (seen who d.arcs c) → IsCarried who s d (turned who f d c)
carried_turned who e s off f d c now asked put after = (
  on after,
  λ u is.
      let t : Transaction = seen who d.arcs c in
      inl (c, now, (left_is (transacted f t).next u is).0 ∙ (passed_turn f t put).key, left_asked (transacted f t).next u is ∙ (every_turn f t (IsFlagTurn f t) (flag_turns f t) put).0 (commits_so e c f off asked)),
)
  where
    on : Drawn s d → Drawn s (turned who f d c).next
    on (Same_boot b n) = Same_boot b n
    on (Later_boot b) = Later_boot b

drawn_more : (s d : Digest) → Drawn s d → Drawn s (with_mark_drawn d)
drawn_more s d (Same_boot b n) = Same_boot b (omega (arith, n))
drawn_more s d (Later_boot b) = Later_boot b

drawn_like : (s d e : Digest) → e.boot ≡ d.boot → e.drawn ≡ d.drawn → Drawn s d → Drawn s e
drawn_like s d e boot drawn (Same_boot b n) = Same_boot (boot ∙ b) (subst (λ (x : ℕ). s.drawn ≤ x) (sym drawn) n)
drawn_like s d e boot drawn (Later_boot b) = Later_boot (subst (λ (x : ℕ). suc s.boot ≤ x) (sym boot) b)

carried_begins : (who : Who) (s : Digest) (q : ℕ) (d : Digest) → IsCarried who s d (begin_on who q d)
carried_begins who s q d after = begin_cases IsAfter who q d still on
  where
    sent : Current → Arc → Move
    sent x y = perform (TxOut.Carry q (DialogueRecord.Begin (aaid_of x.key) (record { superior = who.site; mark = next_mark who d }) (named_holder y.dialogue)) ∷ []) (record (with_begun who (with_mark_drawn d) x (record { addr = y.peer; branch = record { superior = who.site; mark = next_mark who d } })) { arcs = with_dialogue d.arcs q (begun_by (named_holder y.dialogue) Side.Superior) })

    IsAfter : Move → Type 0
    IsAfter m = Drawn s m.next × ((u : Current) → m.next.current ≡ Some u → IsFrom who s d u)

    still : IsAfter (move [] d)
    still = (after, λ u is. inl (u, is, refl, refl))

    on : (c : Current) (a : Arc) → d.current ≡ Some c → find_arc d.arcs q ≡ Some a → may_begin_on who d a ≡ true → IsAfter (begun_over who q d c a)
    on c a i found may = (
      drawn_like s (with_mark_drawn d) (sent c a).next refl refl (drawn_more s d after),
      λ u is.
          let v : Transaction = (transacted (TxEvent.Begun (record { addr = a.peer; branch = record { superior = who.site; mark = next_mark who d } } ∷ [])) (seen who d.arcs c)).next in
          inl (c, i, (left_is v u is).0, left_asked v u is),
    )

abbrev pub root_in : Who → Digest → Digest
root_in who d = record (with_mark_drawn d) { current = Some (fresh_current (Root (record { owner = who.site; mark = next_mark who d }))) }

pub next_new : (who : Who) (s d : Digest) → Drawn s d → (b : Bool) → is_old who s (next_mark who d) ≡ b → is_old who s (next_mark who d) ≡ false
next_new who s d after false i = i
next_new who s d after true i = absurd (let old : is_old who d (next_mark who d) ≡ true = old_stays who s d (next_mark who d) after i in let new = new_mark who d in cc (old, new))

carried_roots : (who : Who) (s d : Digest) (m : Move) → IsCarried who s (root_in who d) m → IsCarried who s d m
carried_roots who s d m one after = let x = one (drawn_like s (with_mark_drawn d) (root_in who d) refl refl (drawn_more s d after)) in (x.0, λ u is. go u (x.1 u is))
  where
    k : Key
    k = Root (record { owner = who.site; mark = next_mark who d })

    go : (u : Current) → IsFrom who s (root_in who d) u → IsFrom who s d u
    go u (inr n) = inr n
    go u (inl w) =
        let same : fresh_current k ≡ w.0 = some_same (fresh_current k) w.0 w.1 in
        inr ((record { owner = who.site; mark = next_mark who d }, w.2 ∙ ap (λ (x : Current). x.key) (sym same), next_new who s d after (is_old who s (next_mark who d)) refl), w.3 ∙ ap (λ (x : Current). x.asked) (sym same))

carried_moves : (who : Who) (e : Event) (s : Digest) → is_commit_request e ≡ false → Moves who e s (IsCarried who s)
carried_moves who e s off = record {
  still = λ d. carried_same who s d (move [] d) refl refl refl;
  chain = λ d a f one two quiet. carried_then who s d a f one two;
  speaks = λ d outs h own said. carried_same who s d (perform outs d) refl refl refl;
  changes_dialogue = λ d p f m by one after. one (drawn_like s d (record d { arcs = with_dialogue d.arcs p f }) refl refl after);
  drops_arc = λ d p m at one after. one (drawn_like s d (record d { arcs = without_arc d.arcs p }) refl refl after);
  notes_kept = λ d ks m held one after. one (drawn_like s d (record d { kept = ks }) refl refl after);
  keeps = λ d k f held. carried_same who s d (keep (settled k f) d) refl refl refl;
  turns = λ d c f now at asked put gone. carried_turned who e s off f d c now asked put;
  begins = λ d p free. carried_begins who s p d;
  roots = λ d m nil may one. carried_roots who s d m one;
}

-- ---- where the user asks

abbrev HasAsked : Who → Digest → Digest → Type 0
HasAsked who s d = (u : Current) → d.current ≡ Some u → IsStep (λ c. c.asked) who s true u

-- after the turn a tree may start, no more
asked_start : (who : Who) (s d : Digest) → Drawn s d → HasAsked who s d → HasAsked who s (try_start who d).next
asked_start who s d after has u is = go (((step_start who Event.Crash s (IsCarried who s) (plain_steps who Event.Crash s (IsCarried who s) (carried_moves who Event.Crash s refl)) d) after).1 u is)
  where
    go : IsFrom who s d u → IsStep (λ c. c.asked) who s true u
    go (inr n) = inr n
    go (inl w) = on (has w.0 w.1)
      where
        on : IsStep (λ c. c.asked) who s true w.0 → IsStep (λ c. c.asked) who s true u
        on (inl x) = inl (x.0, x.1, w.2 ∙ x.2, w.3 ∙ x.3)
        on (inr n) = inr ((n.0.0, w.2 ∙ n.0.1, n.0.2), w.3 ∙ n.1)

commit_key : (t : Transaction) → (transacted (TxEvent.User Request.Commit) t).next.key ≡ t.key
unfolding ask_commit settle order
commit_key t = grind arith

restarted_asked : (who : Who) (d : Digest) → HasAsked who d (transact who (TxEvent.User Request.Commit) d).next
unfolding transact
restarted_asked who d = go d.current refl
  where
    f : TxEvent
    f = TxEvent.User Request.Commit

    has : (c : Current) → d.current ≡ Some c → HasAsked who d (turned who f d c).next
    has c i u is = let t : Transaction = seen who d.arcs c in inl (c, i, (left_is (transacted f t).next u is).0 ∙ commit_key t, left_asked (transacted f t).next u is ∙ commit_asks t)

    least : (n : ℕ) → n ≤ n
    least n = omega arith

    over : (c : Current) → d.current ≡ Some c → (b : Bool) → HasAsked who d (if b then followed (turned who f d c) (try_start who) else turned who f d c).next
    over c i true = asked_start who d (turned who f d c).next (Same_boot refl (least d.drawn)) (has c i)
    over c i false = has c i

    go : (o : Option Current) → d.current ≡ o
        → HasAsked who d (elim o as (λ _. Move) [
          | None ↦ move [] d
          | Some c ↦ started_next who (passage (is_leaving f) (seen who d.arcs c).phase (transacted f (seen who d.arcs c)).next.phase) (turned who f d c)
        ]).next
    go None i = λ u is. absurd (no_both d.current u i is)
    go (Some c) i = over c i (is_over (passage (is_leaving f) (seen who d.arcs c).phase (transacted f (seen who d.arcs c)).next.phase))

asks_so : (e : Event) → is_commit_request e ≡ true → e ≡ Event.Do Request.Commit
asks_so (Event.Do Request.Commit) h = refl
asks_so (Event.Do r) h = absurd (cc (h))
asks_so e h = absurd (cc (h))

asks_at : (who : Who) (d : Digest) (e : Event) → e ≡ Event.Do Request.Commit → (u : Current) → (action who d e).next.current ≡ Some u → IsStep (λ c. c.asked) who (prelude who d e) true u
asks_at who d e i u is = subst (λ (f : Event). IsStep (λ c. c.asked) who (prelude who d f) true u) (sym i) (restarted_asked who d u (ap (λ (f : Event). (action who d f).next.current) (sym i) ∙ is))

pub step_of : (who : Who) (d : Digest) (e : Event) → ((c : Current) → d.current ≡ Some c → is_nil c.phase ≡ false) → refusal who d e ≡ None → (u : Current) → (action who d e).next.current ≡ Some u → IsStep (λ c. c.asked) who (prelude who d e) (is_commit_request e) u
step_of who d e late ok u is = go (is_commit_request e) refl
  where
    s : Digest
    s = prelude who d e

    least : (n : ℕ) → n ≤ n
    least n = omega arith

    on : IsFrom who s s u → IsStep (λ c. c.asked) who s false u
    on (inl w) = inl (w.0, w.1, w.2, w.3)
    on (inr n) = inr n

    go : (b : Bool) → is_commit_request e ≡ b → IsStep (λ c. c.asked) who s (is_commit_request e) u
    go true i = rw i (asks_at who d e (asks_so e i) u is)
    go false i = rw i (on ((every_move who d e (IsCarried who s) (carried_moves who e s i) late ok (Same_boot refl (least s.drawn))).1 u is))

-- ---- every legal history

taken_off : (o : Origin) (h : List Entry) (ev : Event) (rec : _) (outs : _) (j : NodeKey) → takes_begin o (record { event = ev; rec = rec; outs = outs }) h ≡ Some j → is_commit_request ev ≡ false
taken_off o h (Event.Do r) rec outs j b = absurd (cc (b))
taken_off o h _ rec outs j b = refl

abbrev asks_of : Origin → NodeKey → Entry → List Entry → Bool
asks_of o k e h = is_commit_request e.event

asked_flag : IsFlag (λ c. c.asked) asks_of
asked_flag = record {
  fresh = λ k. refl;
  again = λ k p bs u. refl;
  step = λ o up e h legal calm u is. step_of o.who (digest o h) e.event (late_law o up h legal.grown.3) legal.grown.0 u is;
  taken = λ o up e h legal k j begun. taken_off o h e.event e.rec e.outs j begun;
}

asked_law : (o : Origin) (up : Option Addr) (h : List Entry) → IsLegal o up h → (c : Current) → (digest o h).current ≡ Some c → c.asked ≡ asked_in o (node_key c.key) h
asked_law o up h legal c is = flag_law (λ c. c.asked) asks_of asked_flag o up h legal c is

pub asked_agrees_law : (o : Origin) (up : Option Addr) (h : List Entry) → IsLegal o up h → asked_agrees o h ≡ true
asked_agrees_law o up h legal = go (digest o h).current refl
  where
    go : (v : Option Current) → (digest o h).current ≡ v → elim v as (λ _. Bool) [ None ↦ true | Some c ↦ same_bool c.asked (asked_in o (node_key c.key) h) ] ≡ true
    go None i = refl
    go (Some c) i = bool_self c.asked (asked_in o (node_key c.key) h) (asked_law o up h legal c i)
