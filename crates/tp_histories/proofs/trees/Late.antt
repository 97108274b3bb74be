-- The current transaction is never over: an instance of the steps of a node.
use Rattle.std.proofs.Common.{◌≡◌, ℕ, Bool, true, false, refl, ap, sym, ◌∙◌, arith, Option, Some, None, List, [], ◌∷◌, ◌||◌}
use Rattle.tp_names.specs.declared.identifiers.NodeKey.{NodeKey}
use Rattle.tp_names.specs.declared.identifiers.Addr.{Addr}
use Rattle.tp_names.specs.declared.outcome.Outcome.{Outcome}
use Rattle.tp_names.specs.declared.children.Child.{Child}
use Rattle.tp_records.specs.declared.dialogue.DialogueRecord.{DialogueRecord}
use Rattle.tp_records.specs.declared.peer.PeerRecord.{PeerRecord}
use Rattle.tp_logrec.specs.declared.record.LogRec.{LogRec}
use Rattle.tp_model.specs.declared.arc.Phase.{Phase}
use Rattle.tp_model.specs.declared.transaction.TxEvent.{TxEvent}
use Rattle.tp_model.specs.Parts.{Who, Event, Entry, Origin, Start, Arc, Key, Under, Current, Digest}
use Rattle.tp_model.specs.Dialogues.{is_nil, is_ready, is_committing}
use Rattle.tp_model.specs.Arcs.{find_arc}
use Rattle.tp_model.specs.Transactions.{Transaction, transacted}
use Rattle.tp_model.specs.Node.{Move, next_mark, with_mark_drawn, seen, remaining, may_begin_on, begin_on, fresh_current}
use Rattle.tp_model.specs.Events.{recovered, recovered_current, after_crash, current_in_log, key_in_log, fresh_branches, decision_of, without_current, current_by, current_from, started, refusal, action}
use Rattle.tp_model.specs.History.{digest}
use Rattle.tp_model.specs.Legal.{IsGrown}
use Rattle.tp_steps.specs.Moves.{Moves, prelude, begun_in, counted_in}
use Rattle.tp_steps.specs.Moves.{IsLate}
use Rattle.tp_steps.proofs.every.EveryEvent.{every_move}
use Rattle.tp_steps.proofs.every.BeginCases.{begun_over, begin_cases}

abbrev pub LateOption : Option Current → Type 0
LateOption o = (c : Current) → o ≡ Some c → is_nil c.phase ≡ false

pub late_remaining : (t : Transaction) → LateOption (remaining t)
late_remaining t c h = go (is_nil t.phase) refl
  where
    go : (b : Bool) → is_nil t.phase ≡ b → is_nil c.phase ≡ false
    go true i = let none : None ≡ Some c = rw (i, remaining) at h in absurd (cc (none))
    go false i = grind (arith, i, h)

pub late_begin : (who : Who) (p : ℕ) (d : Digest) → IsLate d → IsLate (begin_on who p d).next
late_begin who p d late = begin_cases (λ (m : Move). IsLate m.next) who p d late on
  where
    on : (c : Current) (a : Arc) → d.current ≡ Some c → find_arc d.arcs p ≡ Some a → may_begin_on who d a ≡ true → IsLate (begun_over who p d c a).next
    on c a now found may = late_remaining (transacted (TxEvent.Begun (record { addr = a.peer; branch = record { superior = who.site; mark = next_mark who d } } ∷ [])) (seen who (with_mark_drawn d).arcs c)).next

pub late_fresh : (k : Key) → LateOption (Some (fresh_current k))
late_fresh k c h = let same : fresh_current k ≡ c = cc (h) in ap (λ (x : Current). is_nil x.phase) (sym same)

pub late_moves : (who : Who) (e : Event) (s : Digest) → Moves who e s (λ d m. IsLate d → IsLate m.next)
late_moves who e s = record {
  still = λ d late. late;
  chain = λ d a f one two none late. two (one late);
  speaks = λ d outs h own said late. late;
  changes_dialogue = λ d p f m by one late. one late;
  drops_arc = λ d p m at one late. one late;
  notes_kept = λ d ks m held one late. one late;
  keeps = λ d k f held late. late;
  turns = λ d c f now at asked put gone late. late_remaining (transacted f (seen who d.arcs c)).next;
  begins = λ d p free late. late_begin who p d late;
  roots = λ d m nil may one late. one (late_fresh _);
}

late_crashed : (o : Option Current) → LateOption (recovered_current o)
late_crashed None c h = absurd cc
late_crashed (Some x) c h = go (is_ready x.phase || is_committing x.phase) refl
  where
    go : (b : Bool) → (is_ready x.phase || is_committing x.phase) ≡ b → is_nil c.phase ≡ false
    go true i = grind (arith, i, h)
    go false i = let none : None ≡ Some c = rw (i, recovered_current) at h in absurd (cc (none))

pub late_prelude : (who : Who) (d : Digest) (e : Event) → IsLate d → IsLate (prelude who d e)
unfolding after_crash
late_prelude who d (Event.Do r) late c h = late c (same ∙ h)
  where
    same : d.current ≡ (prelude who d (Event.Do r)).current
    same = grind arith
late_prelude who d (Event.Arrive from (PeerRecord.OnAssoc x y q (DialogueRecord.Begin t b k))) late c h = go (find_arc d.arcs from.node) h
  where
    go : (o : Option Arc) → (begun_in o t b (counted_in d from)).current ≡ Some c → is_nil c.phase ≡ false
    go None i = late c i
    go (Some a) i = late_fresh (Under t b a.peer) c i
late_prelude who d (Event.Arrive from r) late c h = late c (same ∙ h)
  where
    same : d.current ≡ (prelude who d (Event.Arrive from r)).current
    same = grind arith
late_prelude who d Event.Crash late c h = late_crashed d.current c h
late_prelude who d _ late c h = late c h

-- ---- the start

late_in_log : (k : Option Key) (p : Phase) (cs : List Child) (o : Option Outcome) → is_nil p ≡ false → LateOption (current_in_log k p cs o)
late_in_log None p cs o n c h = absurd cc
late_in_log (Some k) p cs o n c h = let same : recovered k p (fresh_branches cs) o ≡ c = cc (h) in ap (λ (x : Current). is_nil x.phase) (sym same) ∙ n

late_without : (k : NodeKey) (o : Option Current) → LateOption o → LateOption (without_current k o)
late_without k None late c h = absurd cc
late_without k (Some x) late c h = late c (grind (arith, h))

late_by : (r : LogRec) (o : Option Current) → LateOption o → LateOption (current_by r o)
late_by (LogRec.Ready n k s cs) o late = late_in_log (key_in_log k (Some s)) Phase.Ready cs None refl
late_by (LogRec.Heuristic n k u) (Some x) late = λ c h. let same : ◌≡◌ {A = Current} (record x { decision = Some u }) c = cc (h) in ap (λ (y : Current). is_nil y.phase) (sym same) ∙ late x refl
late_by (LogRec.Commit n k s cs) o late = late_in_log (key_in_log k s) Phase.Committing cs (decision_of o) refl
late_by (LogRec.Damage n k s u r cs) o late = late_without k o late
late_by (LogRec.End n k u) o late = late_without k o late
late_by _ _ late = late

late_from : (o : Option Current) (rs : List LogRec) → LateOption o → LateOption (current_from o rs)
late_from o [] late = late
late_from o (r ∷ rs) late = late_from (current_by r o) rs (late_by r o late)

pub late_started : (s : Start) → IsLate (started s)
unfolding started
late_started s = late_from None s.records (λ c h. absurd (cc (h)))

-- an event that is accepted
pub late_event : (who : Who) (d : Digest) (e : Event) → IsLate d → refusal who d e ≡ None → IsLate (action who d e).next
late_event who d e late ok = every_move who d e (λ d m. IsLate d → IsLate m.next) (late_moves who e (prelude who d e)) late ok (late_prelude who d e late)

-- ---- every legal history

pub late_law : (o : Origin) (up : Option Addr) (h : List Entry) → IsGrown o up h → IsLate (digest o h)
late_law o up [] legal = late_started o.start
late_law o up (e ∷ h) legal =
    late_event o.who (digest o h) e.event (late_law o up h legal.3) legal.0
