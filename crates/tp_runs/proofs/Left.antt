-- A node that left a tree is out of it: the tree is current no more, and did not roll.
use Rattle.std.proofs.Common.{if◌then◌else◌, ◌≡◌, ◌⊎◌, inl, inr, Bool, true, false, refl, ap, sym, subst, ◌∙◌, arith, Option, Some, None, List, [], ◌∷◌, ◌&&◌, ◌||◌}
use Rattle.tp_names.specs.declared.identifiers.Aaid.{Aaid}
use Rattle.tp_names.specs.declared.identifiers.Addr.{Addr}
use Rattle.tp_records.specs.declared.request.Request.{Request}
use Rattle.tp_model.specs.declared.transaction.TxEvent.{TxEvent}
use Rattle.tp_model.specs.Parts.{Who, Origin, Event, Entry, Current, Digest}
use Rattle.tp_model.specs.Dialogues.{is_nil, is_active}
use Rattle.tp_model.specs.Transactions.{Turn, transacted, leave}
use Rattle.tp_model.specs.Requests.{refused_request}
use Rattle.tp_model.specs.Node.{Move, move, followed, phase_of, seen, Passage, passage, is_leaving, is_over, try_start, transact, started_next}
use Rattle.tp_model.specs.Events.{refusal, verdict, after}
use Rattle.tp_model.specs.History.{digest}
use Rattle.tp_model.specs.Outcomes.{is_now, rolls, is_crash_in_active, is_unchanged, has_left, rolled}
use Rattle.tp_model.specs.World.{Node, number_of}
use Rattle.tp_model.specs.Happenings.{Happening, run}
use Rattle.tp_model.specs.Promises.{IsOf}
use Rattle.tp_model.specs.Legal.{IsGrown}
use Rattle.tp_model.specs.Node.{turned}
use Rattle.tp_steps.specs.Moves.{IsLate}
use Rattle.tp_steps.specs.Traces.{is_old}
use Rattle.tp_steps.specs.Trees.{IsTreed}
use Rattle.tp_histories.specs.Members.{IsOnce, is_known}
use Rattle.tp_steps.proofs.lemmas.Equality.{or_case, and_left, and_right}
use Rattle.tp_steps.proofs.every.EveryMove.{every_start}
use Rattle.tp_histories.proofs.trees.Late.{late_law, late_remaining}
use Rattle.tp_steps.proofs.words.Treed.{now_some, now_left, drawn_new}
use Rattle.tp_histories.proofs.trees.TreedMoves.{treed_moves}
use Rattle.tp_histories.proofs.trees.Knowing.{known_more, now_known}
use Rattle.tp_histories.proofs.worlds.TreeMembers.{known_old, now_then}
use Rattle.tp_histories.proofs.trees.Fated.{fated_law}
use Rattle.tp_histories.proofs.worlds.Good.{good_run}
use Rattle.tp_histories.proofs.worlds.Unique.{unique_run}
use Rattle.tp_steps.proofs.branches.Rolls.{phase_at}
use Rattle.std.proofs.lemmas.Bool.{false_from_ne_true}
use Rattle.tp_steps.proofs.order.InOrder.{not_both}

-- ---- the event

-- the tree is over, and another one may begin at once
left_transact : (who : Who) (d : Digest) (c : Current) (t : Aaid) → d.current ≡ Some c → is_old who d t.mark ≡ true → is_now t (transact who (TxEvent.User Request.Unchanged) d).next.current ≡ true → ⊥
unfolding transact leave
left_transact who d c t now old =
    subst (λ (o : Option Current). is_now t (elim o as (λ _. Move) [ None ↦ move [] d | Some x ↦ started_next who (passage (is_leaving f) (seen who d.arcs x).phase (transacted f (seen who d.arcs x)).next.phase) (turned who f d x) ]).next.current ≡ true → ⊥) (sym now)
    (over (is_over w))
  where
    f : TxEvent
    f = TxEvent.User Request.Unchanged

    a : Turn
    a = transacted f (seen who d.arcs c)

    w : Passage
    w = passage (is_leaving f) c.phase a.next.phase

    m : Move
    m = turned who f d c

    g : Digest
    g = m.next

    gone : is_now t g.current ≡ true → ⊥
    gone n = let k = now_left t a.next n in let none : is_nil a.next.phase ≡ true = refl in absurd (cc (k.1, none))

    starts : IsTreed who g true t 0 g (try_start who g)
    starts = every_start who Event.Retry g (IsTreed who g true t 0) (treed_moves who Event.Retry g true t 0 (λ x y z at asked h. refl)) g

    over : (b : Bool) → is_now t (if b then followed m (try_start who) else m).next.current ≡ true → ⊥
    over false n = gone n
    over true n = elim (starts.enters (late_remaining a.next) n) [
      | inl here ↦ gone here
      | inr x ↦ drawn_new who g (try_start who g).next t x old
    ]

pub left_active : (who : Who) (d : Digest) (c : Current) → d.current ≡ Some c → is_nil c.phase ≡ false → refusal who d (Event.Do Request.Unchanged) ≡ None → is_active c.phase ≡ true
unfolding refusal verdict refused_request
left_active who d c now late ok = grind (arith, ok, now, late)

-- ---- every legal history

-- the tree that was left is current no more, and did not roll
pub record HasGone (o : Origin) (h : List Entry) (t : Aaid) : Type 0 where
  pub gone : is_now t (digest o h).current ≡ true → ⊥
  pub known : is_known o t h ≡ true
  pub whole : rolled o t h ≡ true → ⊥

left_here : (o : Origin) (up : Option Addr) (e : Entry) (h : List Entry) (t : Aaid) → o.start.records ≡ [] → IsGrown o up (e ∷ h) → IsOnce o (e ∷ h) → is_now t (digest o h).current ≡ true → is_unchanged e.event ≡ true
    → HasGone o (e ∷ h) t
left_here o up e h t empty legal once n un = at e.event refl un
  where
    d : Digest
    d = digest o h

    late : IsLate d
    late = late_law o up h legal.3

    cur : (c : Current) × (d.current ≡ Some c)
    cur = let c = now_some t d.current n in (c.0, c.1)

    know : is_known o t h ≡ true
    know = now_known o up h t empty legal.3 n

    at : (f : Event) → e.event ≡ f → is_unchanged f ≡ true → HasGone o (e ∷ h) t
    at (Event.Do Request.Unchanged) i u = record {
      gone = λ m. left_transact o.who d cur.0 t cur.1 (known_old o h t once.1 know) (ap (λ (v : Event). is_now t (after o.who d v).current) (sym i) ∙ m);
      known = known_more o up e h t legal know;
      whole = λ r. elim (or_case (is_now t d.current && (rolls o.who d e.event || is_crash_in_active d e.event)) (rolled o t h) r) [
        | inl j ↦ no_roll (ap (λ (v : Event). rolls o.who d v || is_crash_in_active d v) (sym i) ∙ and_right (is_now t d.current) (rolls o.who d e.event || is_crash_in_active d e.event) j)
        | inr j ↦ not_both (phase_of d) active ((fated_law o up h t empty legal.3 once.1).rolled_now j n)
      ];
    }
      where
        no_roll : (rolls o.who d (Event.Do Request.Unchanged) || is_crash_in_active d (Event.Do Request.Unchanged)) ≡ true → ⊥
        no_roll j = absurd (cc (j))

        active : is_active (phase_of d) ≡ true
        active = ap is_active (phase_at d cur.0 cur.1) ∙ left_active o.who d cur.0 cur.1 (late cur.0 cur.1) (ap (refusal o.who d) (sym i) ∙ legal.0)
    at f i u = absurd (cc (u))

pub left_law : (o : Origin) (up : Option Addr) (h : List Entry) (t : Aaid) → o.start.records ≡ [] → IsGrown o up h → IsOnce o h → has_left o t h ≡ true → HasGone o h t
left_law o up [] t empty legal once l = absurd cc
left_law o up (e ∷ h) t empty legal once l = go (or_case (is_now t (digest o h).current && is_unchanged e.event) (has_left o t h) l) (left_law o up h t empty legal.3 once.1)
  where
    go : ((is_now t (digest o h).current && is_unchanged e.event) ≡ true) ⊎ (has_left o t h ≡ true) → (has_left o t h ≡ true → HasGone o h t) → HasGone o (e ∷ h) t
    go (inl i) rest = left_here o up e h t empty legal once (and_left (is_now t (digest o h).current) (is_unchanged e.event) i) (and_right (is_now t (digest o h).current) (is_unchanged e.event) i)
    go (inr i) rest =
        let k = rest i in
        record {
          gone = λ n. k.gone (now_then o up e h t empty legal once k.known n);
          known = known_more o up e h t legal k.known;
          whole = λ r. elim (or_case (is_now t (digest o h).current && (rolls o.who (digest o h) e.event || is_crash_in_active (digest o h) e.event)) (rolled o t h) r) [
            | inl j ↦ k.gone (and_left (is_now t (digest o h).current) (rolls o.who (digest o h) e.event || is_crash_in_active (digest o h) e.event) j)
            | inr j ↦ k.whole j
          ];
        }

-- ---- every run

pub left_is_not_rolled : (es : List Happening) (t : Aaid) (x : Node) → IsOf (run es) t x → has_left x.origin t x.history ≡ true → rolled x.origin t x.history ≡ false
left_is_not_rolled es t x of l =
    let good = good_run es in
    false_from_ne_true (rolled x.origin t x.history)
    (left_law x.origin x.superior x.history t (good.fresh (number_of x) x of.here) (good.legal (number_of x) x of.here) ((unique_run es).once (number_of x) x of.here) l).whole
