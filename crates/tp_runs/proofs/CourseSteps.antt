-- The course of the current transaction in every event of a node.
use Rattle.std.proofs.Common.{◌≡◌, ◌≤◌, inl, inr, ℕ, suc, Bool, true, false, refl, ap, sym, ◌∙◌, arith, Option, Some, None, [], ◌++◌}
use Rattle.tp_records.specs.declared.request.Request.{Request}
use Rattle.tp_records.specs.declared.peer.PeerRecord.{PeerRecord}
use Rattle.tp_records.specs.declared.peer.RecState.{RecState}
use Rattle.tp_model.specs.declared.transaction.TxEvent.{TxEvent}
use Rattle.tp_model.specs.Parts.{Who, Event, Root, Current, Digest}
use Rattle.tp_model.specs.Dialogues.{is_nil}
use Rattle.tp_model.specs.Transactions.{aaid_of}
use Rattle.tp_model.specs.Node.{Move, move, phase_of, is_leaving, fresh_current}
use Rattle.tp_model.specs.Events.{refusal, action}
use Rattle.tp_model.specs.Outcomes.{rolls, is_unchanged}
use Rattle.tp_model.specs.Keys.{begun_children}
use Rattle.tp_steps.specs.Moves.{IsAsked, IsLate, prelude}
use Rattle.tp_steps.specs.Steps.{first_begin, next_tree, next_branch, Steps}
use Rattle.tp_steps.specs.Traces.{IsLinked}
use Rattle.tp_steps.specs.Ends.{are_separate}
use Rattle.tp_steps.proofs.every.EveryMove.{plain_steps}
use Rattle.tp_steps.proofs.every.EveryEvent.{step_move}
use Rattle.tp_steps.proofs.links.Linked.{linked_moves, one_more}
use Rattle.tp_histories.proofs.trees.Late.{late_fresh, late_moves, late_prelude}
use Rattle.tp_histories.proofs.marks.Separate.{Thins, thins_moves, thins_dialogue, thins_without, separate_prelude}
use Rattle.tp_steps.proofs.log.SoundMoves.{IsSound, IsSoundMove, sound_root, sound_noted, sound_moves}
use Rattle.tp_histories.proofs.log.SoundLog.{sound_first}
use Rattle.tp_steps.proofs.branches.Rolls.{rolls_so}
use Rattle.tp_steps.proofs.log.KinTurns.{kin}
use Rattle.tp_steps.proofs.every.Course.{tree_at, branch_at, Course, Free, Held, Closed, Grew, Rooted, IsRight, IsCourse, Means, course_same, course_perform, course_keep, course_turned, course_begins, course_then, logs_then, logs_apart, some_same}

-- all that is kept in the steps
abbrev pub IsCourseMove : Who → Bool → Bool → ℕ → Digest → Move → Type 0
IsCourseMove who fall leave first d m = IsSoundMove who d m × (IsLate d → IsLate m.next) × Thins d.arcs m.next.arcs × IsLinked 0 d m × IsCourse who fall leave first d m

right_behind : (who : Who) (fall leave : Bool) (first : ℕ) (d : Digest) (m : Move) → IsCourseMove who fall leave first d m → IsRight who first d → IsRight who first m.next
right_behind who fall leave first d m one right = ((one.0 right.0).0, one.1 right.1, one.2.apart right.2, most first d.drawn m.next.drawn right.3 one.3.drawn)
  where
    most : (x y z : ℕ) → x ≤ y → y ≤ z → x ≤ z
    most x y z h i = omega (arith, h, i)

-- ---- a root

pub nothing_now : (d : Digest) → IsLate d → is_nil (phase_of d) ≡ true → d.current ≡ None
nothing_now d late nil = go d.current refl
  where
    go : (o : Option Current) → d.current ≡ o → d.current ≡ None
    go None i = i
    go (Some c) i =
        let alive : is_nil c.phase ≡ false = late c i in
        let over : is_nil c.phase ≡ true = rw (i, phase_of) at nil in
        absurd (cc (alive, over))

course_root : (who : Who) (fall leave : Bool) (first : ℕ) (d : Digest) (m : Move) → is_nil (phase_of d) ≡ true → (are_separate d.arcs ≡ true → first_begin m.outs ≡ Some (next_tree who d, next_branch who d))
    → IsRight who first d → Course who fall leave first (Some (fresh_current (Root (next_tree who d)))) d.boot (suc d.drawn) m → Course who fall leave first d.current d.boot d.drawn m
course_root who fall leave first d m nil says right one = go one
  where
    none : d.current ≡ None
    none = nothing_now d right.1 nil

    said : first_begin m.outs ≡ Some (tree_at who d.boot d.drawn, branch_at who d.boot d.drawn)
    said = says right.2

    c : Current
    c = fresh_current (Root (next_tree who d))

    far : suc d.drawn ≡ first → ⊥
    far h = let low = right.3 in past first d.drawn low h
      where
        past : (x y : ℕ) → x ≤ y → suc y ≡ x → ⊥
        past x y h i = omega (arith, h, i)

    go : Course who fall leave first (Some c) d.boot (suc d.drawn) m → Course who fall leave first d.current d.boot d.drawn m
    go (Free i j f dr t) = absurd (cc (i))
    go (Held x u i j k st h f dr kn) = absurd (let no : None ≡ Some (tree_at who d.boot d.drawn, branch_at who d.boot d.drawn) = sym f ∙ said in cc (no))
    go (Closed x i j st h f dr) = absurd (far h)
    go (Rooted u j k act f dr kn (inl w)) = absurd (cc (w.0))
    go (Rooted u j k act f dr kn (inr w)) = absurd (far w.3)
    go (Grew x u b i j k act l f cn dr kn) =
        let same : c ≡ x = some_same c x i in
        let key : x.key ≡ Root (tree_at who d.boot d.drawn) = ap (λ (z : Current). z.key) (sym same) in
        Rooted u j (k ∙ key) act.1 said (one_more (suc d.drawn) m.next.drawn dr)
        (kn ∙ ap (λ (z : Current). kin z.branches ++ begun_children (aaid_of z.key) m.outs) (sym same)) (inl (none, l.1))

-- ---- the steps

course_steps : (who : Who) (e : Event) (fall leave : Bool) (s : Digest) → Means who e fall leave s → Steps who e s (IsCourseMove who fall leave s.drawn)
course_steps who e fall leave s means = record {
  still = λ d. (k1.still d, k2.still d, k3.still d, k4.still d, λ right. course_same who fall leave s.drawn d (move [] d) refl refl refl refl (λ c i act. refl));
  chain = λ d a f one two quiet. (
    k1.chain d a f one.0 two.0 quiet,
    k2.chain d a f one.1 two.1 quiet,
    k3.chain d a f one.2 two.2 quiet,
    k4.chain d a f one.3 two.3 quiet,
    λ right. course_then who fall leave s.drawn d.current d.boot d.drawn a (f a.next) _ (λ k. logs_then k a.rec (f a.next).rec quiet) (λ k. logs_apart k a.rec (f a.next).rec quiet) one.3.boot right.3 (one.4 right) (two.4 (right_behind who fall leave s.drawn d a one right)),
  );
  speaks = λ d outs h own said last. (k1.speaks d outs h own said last, k2.speaks d outs h own said last, k3.speaks d outs h own said last, k4.speaks d outs h own said last, λ right. course_perform who fall leave s.drawn d outs h);
  changes_dialogue = λ d p f m by one. (
    k1.changes_dialogue d p f m by one.0,
    k2.changes_dialogue d p f m by one.1,
    k3.changes_dialogue d p f m by one.2,
    k4.changes_dialogue d p f m by one.3,
    λ right. one.4 (right.0, right.1, (thins_dialogue d.arcs p f).apart right.2, right.3),
  );
  drops_arc = λ d p m at one. (
    k1.drops_arc d p m at one.0,
    k2.drops_arc d p m at one.1,
    k3.drops_arc d p m at one.2,
    k4.drops_arc d p m at one.3,
    λ right. one.4 (right.0, right.1, (thins_without d.arcs p).apart right.2, right.3),
  );
  notes_kept = λ d ks m held noted one. (
    k1.notes_kept d ks m held noted one.0,
    k2.notes_kept d ks m held noted one.1,
    k3.notes_kept d ks m held noted one.2,
    k4.notes_kept d ks m held noted one.3,
    λ right. one.4 (sound_noted who d ks held.1 right.0, right.1, right.2, right.3),
  );
  keeps = λ d k f held. (k1.keeps d k f held, k2.keeps d k f held, k3.keeps d k f held, k4.keeps d k f held, λ right. course_keep who fall leave s.drawn d k f held.1 right);
  turns = λ d c f now at asked put gone like alike. (
    k1.turns d c f now at asked put gone like alike,
    k2.turns d c f now at asked put gone like alike,
    k3.turns d c f now at asked put gone like alike,
    k4.turns d c f now at asked put gone like alike,
    λ right. course_turned who e fall leave s.drawn s d c f means now at asked put like right,
  );
  begins = λ d p may. (k1.begins d p may, k2.begins d p may, k3.begins d p may, k4.begins d p may, λ right. course_begins who fall leave s.drawn p d);
  roots = λ d m nil may says one. (
    k1.roots d m nil may says one.0,
    k2.roots d m nil may says one.1,
    k3.roots d m nil may says one.2,
    k4.roots d m nil may says one.3,
    λ right. course_root who fall leave s.drawn d m nil says right (one.4 (sound_root who d right.0, late_fresh _, right.2, up s.drawn d.drawn right.3)),
  );
}
  where
    k1 : Steps who e s (IsSoundMove who)
    k1 = plain_steps who e s (IsSoundMove who) (sound_moves who e s)

    k2 : Steps who e s (λ d m. IsLate d → IsLate m.next)
    k2 = plain_steps who e s (λ d m. IsLate d → IsLate m.next) (late_moves who e s)

    k3 : Steps who e s (λ d m. Thins d.arcs m.next.arcs)
    k3 = plain_steps who e s (λ d m. Thins d.arcs m.next.arcs) (thins_moves who e s)

    k4 : Steps who e s (IsLinked 0)
    k4 = plain_steps who e s (IsLinked 0) (linked_moves who e s 0)

    up : (x y : ℕ) → x ≤ y → x ≤ suc y
    up x y h = omega (arith, h)

-- ---- every event

pub leaves_so : (e : Event) (c : Current) (f : TxEvent) → IsAsked e c f → is_leaving f ≡ true → is_unchanged e ≡ true
leaves_so (Event.Declare s) c f asked l = absurd asked
leaves_so (Event.Do Request.Unchanged) c f asked l = refl
leaves_so (Event.Do (Request.UAbort p)) c f asked l = absurd (cc (ap is_leaving asked.0, l))
leaves_so (Event.Do (Request.DeferEnd p)) c f asked l = absurd (cc (ap is_leaving asked, l))
leaves_so (Event.Do (Request.DeferGrant p)) c f asked l = absurd (cc (ap is_leaving asked, l))
leaves_so (Event.Do (Request.Prepare p)) c f asked l = absurd (cc (ap is_leaving asked, l))
leaves_so (Event.Do Request.Commit) c f asked l = absurd (cc (ap is_leaving asked, l))
leaves_so (Event.Do Request.Done) c f asked l = absurd (cc (ap is_leaving asked, l))
leaves_so (Event.Do Request.Rollback) c f asked l = absurd (cc (ap is_leaving asked, l))
leaves_so (Event.Do r) c f asked l = absurd asked
leaves_so (Event.Arrive from (PeerRecord.ShutAssoc x None)) c f asked l = absurd asked
leaves_so (Event.Arrive from (PeerRecord.ShutAssoc x (Some y))) c f asked l = absurd (cc (ap is_leaving asked, l))
leaves_so (Event.Arrive from (PeerRecord.OnAssoc x y q r)) c f asked l = absurd (cc (ap is_leaving asked, l))
leaves_so (Event.Arrive from (PeerRecord.RecCommit t b)) c f asked l = absurd (cc (ap is_leaving asked.0, l))
leaves_so (Event.Arrive from (PeerRecord.RecReply t b RecState.Commit)) c f asked l = absurd (cc (ap is_leaving asked.0, l))
leaves_so (Event.Arrive from (PeerRecord.RecReply t b (RecState.Done r))) c f asked l = absurd (cc (ap is_leaving asked.0, l))
leaves_so (Event.Arrive from (PeerRecord.RecReply t b RecState.Unknown)) c f asked l = absurd (cc (ap is_leaving asked.0, l))
leaves_so (Event.Arrive from (PeerRecord.RecReply t b RecState.RetryLater)) c f asked l = absurd (cc (ap is_leaving asked.0, l))
leaves_so (Event.Arrive from r) c f asked l = absurd asked
leaves_so (Event.Break from r) c f asked l = absurd (cc (ap is_leaving asked, l))
leaves_so (Event.Lose p) c f asked l = absurd (cc (ap is_leaving asked, l))
leaves_so (Event.Heur o) c f asked l = absurd (cc (ap is_leaving asked, l))
leaves_so (Event.GiveUp p) c f asked l = absurd (cc (ap is_leaving asked, l))
leaves_so Event.Retry c f asked l = absurd (cc (ap is_leaving asked, l))
leaves_so Event.Purge c f asked l = absurd asked
leaves_so Event.Crash c f asked l = absurd asked

pub means_of : (who : Who) (d : Digest) (e : Event) → refusal who d e ≡ None → Means who e (rolls who d e) (is_unchanged e) (prelude who d e)
means_of who d e ok = record { falls_so = λ c f arcs at asked h. rolls_so who d e ok c f arcs at asked h; leaves_so = λ c f asked h. leaves_so e c f asked h }

pub course_event : (who : Who) (d : Digest) (e : Event) → IsSound who d → IsLate d → are_separate d.arcs ≡ true → refusal who d e ≡ None
    → Course who (rolls who d e) (is_unchanged e) (prelude who d e).drawn (prelude who d e).current (prelude who d e).boot (prelude who d e).drawn (action who d e)
course_event who d e sound late apart ok =
    let s : Digest = prelude who d e in
    (step_move who d e (IsCourseMove who (rolls who d e) (is_unchanged e) s.drawn) (course_steps who e (rolls who d e) (is_unchanged e) s (means_of who d e ok)) late ok).4
    ((sound_first who d e ok sound).0, late_prelude who d e late, separate_prelude who d e ok apart, self s.drawn)
  where
    self : (n : ℕ) → n ≤ n
    self n = omega arith
