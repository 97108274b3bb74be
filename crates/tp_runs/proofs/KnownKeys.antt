-- In every legal history the key of the current transaction is in its phase, and no other key is in one.
use Rattle.std.proofs.Common.{if◌then◌else◌, ◌≡◌, ◌⊎◌, inl, inr, ℕ, suc, Bool, true, false, refl, ap, sym, subst, ◌∙◌, arith, Option, Some, None, List, [], ◌∷◌, ◌&&◌, ◌||◌, ◌==◌}
use Rattle.tp_names.specs.declared.identifiers.Aaid.{Aaid}
use Rattle.tp_names.specs.declared.identifiers.BranchId.{BranchId}
use Rattle.tp_names.specs.declared.identifiers.NodeKey.{NodeKey}
use Rattle.tp_names.specs.declared.identifiers.Addr.{Addr}
use Rattle.tp_names.specs.Same.{is_key}
use Rattle.tp_model.specs.declared.arc.Phase.{Phase}
use Rattle.tp_model.specs.Parts.{Origin, Event, Entry, Key, Under, Current, Digest}
use Rattle.tp_model.specs.Dialogues.{is_nil, is_active, is_rolling}
use Rattle.tp_model.specs.Transactions.{aaid_of, node_key}
use Rattle.tp_model.specs.Node.{Move, phase_of, fresh_current}
use Rattle.tp_model.specs.Events.{recovered_current, current_from, after_crash, started, action}
use Rattle.tp_model.specs.History.{digest}
use Rattle.tp_model.specs.Questions.{is_crash, tells_rollback_complete, boot_in, drawn_in}
use Rattle.tp_model.specs.Outcomes.{rolls, is_unchanged}
use Rattle.tp_model.specs.Keys.{logs_of, takes_begin, begun_key, begins, is_current_key, rolls_for, is_active_in, is_rolling_in, phase_in}
use Rattle.tp_model.specs.Consistency.{is_current}
use Rattle.tp_histories.specs.KnownTests.{number_of_phase, is_quiet, key_logged, others_quiet}
use Rattle.tp_model.specs.Legal.{IsLegal}
use Rattle.tp_steps.specs.Moves.{IsLate, prelude}
use Rattle.tp_steps.specs.Steps.{first_begin}
use Rattle.tp_steps.specs.Trees.{out_tells}
use Rattle.tp_histories.specs.Restart.{IsFounded}
use Rattle.tp_runs.specs.Known.{phase_agrees, key_agrees}
use Rattle.tp_steps.proofs.log.TurnLog.{key_self}
use Rattle.tp_steps.proofs.log.ApartLog.{keys_equal}
use Rattle.tp_histories.proofs.trees.Late.{late_law}
use Rattle.tp_steps.proofs.branches.Rolls.{phase_at}
use Rattle.tp_histories.proofs.marks.Separate.{separate_law}
use Rattle.tp_steps.proofs.log.SoundMoves.{IsSound}
use Rattle.tp_histories.proofs.log.StartLog.{sound_start}
use Rattle.tp_histories.proofs.log.OrderLog.{order_law}
use Rattle.tp_histories.proofs.log.WellLog.{founded_by}
use Rattle.tp_steps.proofs.branches.Staged.{is_rolled_told}
use Rattle.tp_steps.proofs.every.Ending.{pass_active}
use Rattle.tp_steps.proofs.every.Course.{PhaseStep, tree_at, branch_at, Course, Free, Held, Closed, Grew, Rooted, tells_rolled, some_same, no_some}
use Rattle.tp_runs.proofs.CourseSteps.{course_event}
use Rattle.tp_runs.proofs.RollsBy.{IsDownMove, down_event, IsLeftMove, left_event}
use Rattle.tp_histories.proofs.log.StandingKeys.{key_sym}
use Rattle.tp_histories.proofs.known.KnownPlain.{number_self, plain_law}
use Rattle.tp_histories.proofs.known.KnownKept.{log_told}
use Rattle.tp_runs.proofs.KnownForgot.{before_it}
use Rattle.tp_runs.proofs.KnownDrawn.{First_draws, No_mark, One_mark, first_draws, same_boot, drawn_law, crash_is}
use Rattle.tp_histories.proofs.known.KnownPhase.{phase_at as phase_of_key, phase_made, last_phase, KeyStep, step_begun, step_absent, step_of, rolled_tells}
use Rattle.tp_histories.proofs.trees.Entered.{Entered, Crashed, Begun, Plain, entered, begins_peer, begins_none_at, begins_grown, begins_rooted}
use Rattle.tp_steps.proofs.order.InOrder.{not_both}

-- ---- the course of an entry

pub sound_at : (o : Origin) (up : Option Addr) (h : List Entry) → IsLegal o up h → IsSound o.who (digest o h)
sound_at o up h legal =
    let founded : IsFounded o up h = founded_by o up h legal in
    (order_law o up h (sound_start o legal.start founded.earlier) legal.grown).sound

pub course_entry : (o : Origin) (up : Option Addr) (e : Entry) (h : List Entry) → IsLegal o up (e ∷ h)
    → Course o.who (rolls o.who (digest o h) e.event) (is_unchanged e.event) (prelude o.who (digest o h) e.event).drawn (prelude o.who (digest o h) e.event).current (prelude o.who (digest o h) e.event).boot (prelude o.who (digest o h) e.event).drawn (action o.who (digest o h) e.event)
course_entry o up e h legal =
    course_event o.who (digest o h) e.event (sound_at o up h (before_it o up e h legal)) (late_law o up h legal.grown.3) (separate_law o up h legal.grown.3) legal.grown.0

-- ---- one key

-- the key is not that of the transaction
phase_other : (c : Current) (k : NodeKey) → is_key k (node_key c.key) ≡ false → phase_of_key (Some c) k ≡ Phase.Nil
phase_other c k i = rw i refl

phase_mine : (c : Current) (k : NodeKey) → is_key k (node_key c.key) ≡ true → phase_of_key (Some c) k ≡ c.phase
phase_mine c k i = rw i refl

abbrev StepAt : Origin → Entry → List Entry → NodeKey → Type 0
StepAt o e h k =
    KeyStep (begins o k e h) (logs_of k e.rec) (rolls_for o k e h) (is_unchanged e.event && is_current_key o k h) (tells_rollback_complete e.outs && is_current_key o k h) (phase_of_key (digest o h).current k) (phase_of_key (digest o (e ∷ h)).current k)

-- as it is put together from what the entry is to the key
made_step : (o : Origin) (e : Entry) (h : List Entry) (k : NodeKey) (b n : Bool) (p q : Phase) → begins o k e h ≡ b → is_current_key o k h ≡ n → phase_of_key (digest o h).current k ≡ p → phase_of_key (digest o (e ∷ h)).current k ≡ q
    → KeyStep b (logs_of k e.rec) (rolls o.who (digest o h) e.event && n) (is_unchanged e.event && n) (tells_rollback_complete e.outs && n) p q → StepAt o e h k
made_step o e h k b n p q begun now was is one = rw (begun, now, was, is) one

and_off : (b : Bool) → (b && false) ≡ false
and_off true = refl
and_off false = refl

and_on : (b : Bool) → (b && true) ≡ b
and_on true = refl
and_on false = refl

-- a key that is not current before: it is begun, or stays so
step_away : (o : Origin) (e : Entry) (h : List Entry) (k : NodeKey) (b : Bool) (q : Phase) → begins o k e h ≡ b → is_current_key o k h ≡ false → phase_of_key (digest o h).current k ≡ Phase.Nil → phase_of_key (digest o (e ∷ h)).current k ≡ q
    → (b ≡ true → is_active q ≡ true) → (b ≡ false → q ≡ Phase.Nil) → StepAt o e h k
step_away o e h k true q begun now was is on off = made_step o e h k true false Phase.Nil q begun now was is (step_begun (logs_of k e.rec) _ _ _ Phase.Nil q (on refl))
step_away o e h k false q begun now was is on off =
    made_step o e h k false false Phase.Nil Phase.Nil begun now was (is ∙ off refl)
    (rw (and_off (rolls o.who (digest o h) e.event), and_off (is_unchanged e.event), and_off (tells_rollback_complete e.outs)) (step_absent (logs_of k e.rec)))

-- the current key, that is not begun
step_mine : (o : Origin) (e : Entry) (h : List Entry) (k : NodeKey) (p q : Phase) → begins o k e h ≡ false → is_current_key o k h ≡ true → phase_of_key (digest o h).current k ≡ p → phase_of_key (digest o (e ∷ h)).current k ≡ q
    → KeyStep false (logs_of k e.rec) (rolls o.who (digest o h) e.event) (is_unchanged e.event) (tells_rollback_complete e.outs) p q → StepAt o e h k
step_mine o e h k p q begun now was is one =
    made_step o e h k false true p q begun now was is (rw (and_on (rolls o.who (digest o h) e.event), and_on (is_unchanged e.event), and_on (tells_rollback_complete e.outs)) one)

next_is : (o : Origin) (e : Entry) (h : List Entry) (k : NodeKey) (v : Option Current) → (action o.who (digest o h) e.event).next.current ≡ v → phase_of_key (digest o (e ∷ h)).current k ≡ phase_of_key v k
next_is o e h k v i = ap (λ (x : Option Current). phase_of_key x k) i

current_is : (o : Origin) (h : List Entry) (k : NodeKey) (v : Option Current) → (digest o h).current ≡ v → is_current_key o k h ≡ elim v as (λ _. Bool) [ None ↦ false | Some c ↦ is_key k (node_key c.key) ]
current_is o h k v i = ap (λ (x : Option Current). elim x as (λ _. Bool) [ None ↦ false | Some c ↦ is_key k (node_key c.key) ]) i

was_is : (o : Origin) (h : List Entry) (k : NodeKey) (v : Option Current) → (digest o h).current ≡ v → phase_of_key (digest o h).current k ≡ phase_of_key v k
was_is o h k v i = ap (λ (x : Option Current). phase_of_key x k) i

pub nothing_late : (d : Digest) → IsLate d → is_nil (phase_of d) ≡ true → d.current ≡ None
nothing_late d late nil = go d.current refl
  where
    go : (v : Option Current) → d.current ≡ v → d.current ≡ None
    go None i = i
    go (Some c) i = let over : is_nil c.phase ≡ true = ap is_nil (sym (phase_at d c i)) ∙ nil in absurd (cc (late c i, over))

key_same : (k : NodeKey) (c u : Current) (b : Bool) → u.key ≡ c.key → is_key k (node_key c.key) ≡ b → is_key k (node_key u.key) ≡ b
key_same k c u b same i = ap (λ (j : Key). is_key k (node_key j)) same ∙ i

-- an entry that takes a Begin
step_taken : (o : Origin) (up : Option Addr) (e : Entry) (h : List Entry) (k : NodeKey) → IsLegal o up (e ∷ h) → (t : Aaid) (b : BranchId) (a : Addr) → takes_begin o e h ≡ Some (record { aaid = t; branch = Some b })
    → (prelude o.who (digest o h) e.event).current ≡ Some (fresh_current (Under t b a)) → is_nil (phase_of (digest o h)) ≡ true
    → (rolls o.who (digest o h) e.event ≡ false) × (is_unchanged e.event ≡ false) × ((action o.who (digest o h) e.event).rec ≡ None) → StepAt o e h k
step_taken o up e h k legal t b a begun cur nil quiet = go (course_entry o up e h legal)
  where
    d : Digest
    d = digest o h

    s : Digest
    s = prelude o.who d e.event

    m : Move
    m = action o.who d e.event

    c : Current
    c = fresh_current (Under t b a)

    none : d.current ≡ None
    none = nothing_late d (late_law o up h legal.grown.3) nil

    begin : begins o k e h ≡ is_key k (record { aaid = t; branch = Some b })
    begin = begins_peer o k (record { aaid = t; branch = Some b }) e h begun

    there : (u : Current) → m.next.current ≡ Some u → u.key ≡ Under t b a → is_active u.phase ≡ true → StepAt o e h k
    there u i key act =
        let mine : is_key k (node_key u.key) ≡ is_key k (record { aaid = t; branch = Some b }) = ap (λ (j : Key). is_key k (node_key j)) key in
        step_away o e h k (is_key k (record { aaid = t; branch = Some b })) (phase_of_key (Some u) k) begin (current_is o h k None none) (was_is o h k None none) (next_is o e h k (Some u) i)
        (λ yes. ap is_active (phase_mine u k (mine ∙ yes)) ∙ act) (λ off. phase_other u k (mine ∙ off))

    -- nothing ends it in the same entry
    alive : (x : Current) (q : Phase) → s.current ≡ Some x → PhaseStep (rolls o.who d e.event) (is_unchanged e.event) x.phase q (logs_of (node_key x.key) m.rec) (tells_rolled m) → is_active q ≡ true
    alive x q i step =
        let same : c ≡ x = some_same c x (sym cur ∙ i) in
        let act : is_active x.phase ≡ true = ap (λ (z : Current). is_active z.phase) (sym same) in
        only (is_active q) (rolls o.who d e.event) (is_unchanged e.event) (logs_of (node_key x.key) m.rec) (step.active act) quiet.0 quiet.1 (ap (logs_of (node_key x.key)) quiet.2)
      where
        only : (w f l v : Bool) → (w || f || l || v) ≡ true → f ≡ false → l ≡ false → v ≡ false → w ≡ true
        only w f l v h i j k = grind (arith, h, i, j, k)

    key_of_it : (x u : Current) → s.current ≡ Some x → u.key ≡ x.key → u.key ≡ Under t b a
    key_of_it x u i key = key ∙ ap (λ (z : Current). z.key) (sym (some_same c x (sym cur ∙ i)))

    go : Course o.who (rolls o.who d e.event) (is_unchanged e.event) s.drawn s.current s.boot s.drawn m → StepAt o e h k
    go (Free i j f dr tl) = absurd (no_some s.current c i cur)
    go (Held x u i j key st hm f dr kn) = there u j (key_of_it x u i key) (alive x u.phase i st)
    go (Closed x i j st at f dr) = absurd (let no : is_active Phase.Nil ≡ true = alive x Phase.Nil i st in cc (no))
    go (Grew x u y i j key act q f cn dr kn) = there u j (key_of_it x u i key) act.1
    go (Rooted u j key act f dr kn (inl w)) = absurd (no_some s.current c w.0 cur)
    go (Rooted u j key act f dr kn (inr w)) = absurd (let no : is_active Phase.Nil ≡ true = alive w.0 Phase.Nil w.1 w.2 in cc (no))

-- any other entry but a crash
step_plain : (o : Origin) (up : Option Addr) (e : Entry) (h : List Entry) (k : NodeKey) → IsLegal o up (e ∷ h) → is_crash e.event ≡ false → takes_begin o e h ≡ None → (prelude o.who (digest o h) e.event).current ≡ (digest o h).current → StepAt o e h k
step_plain o up e h k legal calm begun same = go (subst (λ (v : Option Current). Course o.who fall left s.drawn v s.boot s.drawn m) same (course_entry o up e h legal))
  where
    d : Digest
    d = digest o h

    s : Digest
    s = prelude o.who d e.event

    m : Move
    m = action o.who d e.event

    fall : Bool
    fall = rolls o.who d e.event

    left : Bool
    left = is_unchanged e.event

    outs : m.outs ≡ e.outs
    outs = ap (λ (x : Entry). x.outs) legal.grown.1

    rec : m.rec ≡ e.rec
    rec = ap (λ (x : Entry). x.rec) legal.grown.1

    first_outs : first_begin m.outs ≡ first_begin e.outs
    first_outs = ap first_begin outs

    told : tells_rolled m ≡ tells_rollback_complete e.outs
    told = ap (out_tells is_rolled_told) outs ∙ sym (rolled_tells e.outs)

    -- the phases of the current key
    phases : (c : Current) (p q : Phase) → is_key k (node_key c.key) ≡ true → PhaseStep fall left p q (logs_of (node_key c.key) m.rec) (tells_rolled m) → PhaseStep fall left p q (logs_of k e.rec) (tells_rollback_complete e.outs)
    phases c p q i st =
        subst (λ (v : Bool). PhaseStep fall left p q (logs_of k e.rec) v) told
        (subst (λ (v : Bool). PhaseStep fall left p q v (tells_rolled m)) (ap (λ (j : NodeKey). logs_of j m.rec) (sym (keys_equal k (node_key c.key) i)) ∙ ap (logs_of k) rec) st)

    down : (c : Current) → d.current ≡ Some c → fall ≡ true → IsDownMove m
    down c i f = down_event o.who d e.event c legal.grown.0 f i

    gone : (c : Current) → d.current ≡ Some c → left ≡ true → IsLeftMove o.who d.drawn m
    gone c i l = left_event o.who d e.event c legal.grown.0 l i (late_law o up h legal.grown.3 c i) (separate_law o up h legal.grown.3)

    -- what the event must do
    must : (c u : Current) → d.current ≡ Some c → m.next.current ≡ Some u → fall ≡ true → (tells_rollback_complete e.outs ≡ true) ⊎ (is_rolling u.phase ≡ true)
    must c u i j f = elim (down c i f) [ inl x ↦ inl (sym told ∙ x) | inr x ↦ inr (ap (λ (z : Current). is_rolling z.phase) (some_same u x.0 (sym j ∙ x.1)) ∙ x.2) ]

    drawn_is : d.drawn ≡ drawn_in o h
    drawn_is = drawn_law o up h legal.grown.3

    boot_is : s.boot ≡ boot_in o h
    boot_is = same_boot o.who d e.event calm ∙ (plain_law o up h legal.grown.3).boot

    -- no mark is drawn before a Begin
    start : (x : Aaid × BranchId) → first_begin m.outs ≡ Some x → s.drawn ≡ d.drawn
    start x f = on (first_draws o.who d e.event calm)
      where
        on : First_draws o.who d e.event → s.drawn ≡ d.drawn
        on (No_mark j) = j
        on (One_mark j l none) = absurd (let off : None ≡ Some x = sym none ∙ f in cc (off))

    held : (c u : Current) → d.current ≡ Some c → m.next.current ≡ Some u → u.key ≡ c.key → PhaseStep fall left c.phase u.phase (logs_of (node_key c.key) m.rec) (tells_rolled m) → begins o k e h ≡ false → (left ≡ true → is_active u.phase ≡ true → ⊥)
        → (b : Bool) → is_key k (node_key c.key) ≡ b → StepAt o e h k
    held c u i j key st off none false b =
        step_away o e h k false (phase_of_key (Some u) k) off (current_is o h k (Some c) i ∙ b) (was_is o h k (Some c) i ∙ phase_other c k b) (next_is o e h k (Some u) j) (λ yes. absurd (cc (yes))) (λ z. phase_other u k (key_same k c u false key b))
    held c u i j key st off none true b =
        step_mine o e h k c.phase u.phase off (current_is o h k (Some c) i ∙ b) (was_is o h k (Some c) i ∙ phase_mine c k b) (next_is o e h k (Some u) j ∙ phase_mine u k (key_same k c u true key b))
        (step_of (logs_of k e.rec) fall left (tells_rollback_complete e.outs) c.phase u.phase (phases c c.phase u.phase b st) (must c u i j) none)

    -- a key that is over in the entry
    closed : (c : Current) (v : Option Current) → d.current ≡ Some c → m.next.current ≡ v → PhaseStep fall left c.phase Phase.Nil (logs_of (node_key c.key) m.rec) (tells_rolled m) → begins o k e h ≡ false → phase_of_key v k ≡ Phase.Nil
        → ((u : Current) → v ≡ Some u → is_rolling u.phase ≡ false) → (b : Bool) → is_key k (node_key c.key) ≡ b → StepAt o e h k
    closed c v i j st off nil flat false b =
        step_away o e h k false (phase_of_key v k) off (current_is o h k (Some c) i ∙ b) (was_is o h k (Some c) i ∙ phase_other c k b) (next_is o e h k v j) (λ yes. absurd (cc (yes))) (λ z. nil)
    closed c v i j st off nil flat true b =
        step_mine o e h k c.phase Phase.Nil off (current_is o h k (Some c) i ∙ b) (was_is o h k (Some c) i ∙ phase_mine c k b) (next_is o e h k v j ∙ nil)
        (step_of (logs_of k e.rec) fall left (tells_rollback_complete e.outs) c.phase Phase.Nil (phases c c.phase Phase.Nil b st)
        (λ f. elim (down c i f) [ inl x ↦ inl (sym told ∙ x) | inr x ↦ absurd (let off : is_rolling x.0.phase ≡ false = flat x.0 (sym j ∙ x.1) in cc (off, x.2)) ]) (λ l act. cc (act)))

    go : Course o.who fall left s.drawn d.current s.boot s.drawn m → StepAt o e h k
    go (Free i j f dr tl) =
        step_away o e h k false Phase.Nil (begins_none_at o k e h begun (sym first_outs ∙ f)) (current_is o h k None i) (was_is o h k None i) (next_is o e h k None j) (λ yes. absurd (cc (yes))) (λ z. refl)
    go (Held c u i j key st hm f dr kn) =
        held c u i j key st (begins_none_at o k e h begun (sym first_outs ∙ f)) (λ l act. elim (gone c i l) [ inl x ↦ no_some m.next.current u x j | inr x ↦ (let off : None ≡ Some (x.0, x.1) = sym f ∙ x.2 in cc (off)) ]) (is_key k (node_key c.key)) refl
    go (Closed c i j st at f dr) = closed c None i j st (begins_none_at o k e h begun (sym first_outs ∙ f)) refl (λ u z. absurd (cc (z))) (is_key k (node_key c.key)) refl
    go (Grew c u x i j key act quiet f cn dr kn) =
        let drawn : s.drawn ≡ d.drawn = start (aaid_of c.key, x) f in
        let off : begins o k e h ≡ false = begins_grown o k e h (aaid_of c.key) x begun (sym first_outs ∙ f) (cn ∙ ap suc (drawn ∙ drawn_is)) in
        held c u i j key (grown c u act quiet) off
        (λ l a. elim (gone c i l) [
          | inl z ↦ no_some m.next.current u z j
          | inr z ↦
              (let one : x ≡ z.1 = pair_same (aaid_of c.key) z.0 x z.1 (sym f ∙ z.2) in
              far d.drawn (sym (cn ∙ ap suc drawn) ∙ ap (λ (y : BranchId). y.mark.count) one ∙ z.3))
        ])
        (is_key k (node_key c.key)) refl
      where
        far : (n : ℕ) → suc n ≡ suc (suc n) → ⊥
        far n h = omega (arith, h)

        pair_same : (p q : Aaid) (v w : BranchId) → ◌≡◌ {A = Option (Aaid × BranchId)} (Some (p, v)) (Some (q, w)) → v ≡ w
        pair_same p q v w h = ap (λ (z : Option (Aaid × BranchId)). elim z as (λ _. BranchId) [ None ↦ v | Some y ↦ y.1 ]) h

        grown : (c u : Current) → (is_active c.phase ≡ true) × (is_active u.phase ≡ true) → (logs_of (node_key c.key) m.rec ≡ false) × (tells_rolled m ≡ false) → PhaseStep fall left c.phase u.phase (logs_of (node_key c.key) m.rec) (tells_rolled m)
        grown c u a q = record {
          active = λ h. rw (a.1) refl;
          kept = λ h. (a.0, q.0);
          rolling = λ h. absurd (not_both c.phase a.0 h);
          rolled = λ h. absurd (not_both u.phase a.1 h);
          ended = λ h. absurd (cc (q.1, h));
          over = λ h. absurd (alive c.phase a.0 h);
          passes = pass_active fall left c.phase u.phase (logs_of (node_key c.key) m.rec) a.0 a.1;
        }
          where
            alive : (p : Phase) → is_active p ≡ true → is_nil p ≡ true → ⊥
            alive p h i = grind (arith, h, i)
    go (Rooted u j key act f dr kn was) = root was
      where
        drawn : s.drawn ≡ drawn_in o h
        drawn = start (tree_at o.who s.boot s.drawn, branch_at o.who s.boot s.drawn) f ∙ drawn_is

        first_is : first_begin e.outs ≡ Some (tree_at o.who (boot_in o h) (drawn_in o h), branch_at o.who (boot_in o h) (drawn_in o h))
        first_is = sym first_outs ∙ f ∙ ap (λ (n : ℕ). Some (tree_at o.who s.boot n, branch_at o.who s.boot n)) drawn ∙ ap (λ (n : ℕ). Some (tree_at o.who n (drawn_in o h), branch_at o.who n (drawn_in o h))) boot_is

        begin : begins o k e h ≡ is_key k (node_key u.key)
        begin =
            begins_rooted o k e h begun first_is
            ∙ ap (λ (t : Aaid). is_key k (record { aaid = t; branch = None })) (sym (ap (λ (n : ℕ). tree_at o.who s.boot n) drawn ∙ ap (λ (n : ℕ). tree_at o.who n (drawn_in o h)) boot_is))
            ∙ ap (λ (x : Key). is_key k (node_key x)) (sym key)

        flat : is_rolling u.phase ≡ false
        flat = calm_phase u.phase act
          where
            calm_phase : (p : Phase) → is_active p ≡ true → is_rolling p ≡ false
            calm_phase p h = grind (arith, h)

        root : ((d.current ≡ None) × (tells_rolled m ≡ false)) ⊎ ((c : Current) × (d.current ≡ Some c) × PhaseStep fall left c.phase Phase.Nil (logs_of (node_key c.key) m.rec) (tells_rolled m) × (s.drawn ≡ s.drawn)) → StepAt o e h k
        root w = on (is_key k (node_key u.key)) refl w
          where
            on : (b : Bool) → is_key k (node_key u.key) ≡ b → ((d.current ≡ None) × (tells_rolled m ≡ false)) ⊎ ((c : Current) × (d.current ≡ Some c) × PhaseStep fall left c.phase Phase.Nil (logs_of (node_key c.key) m.rec) (tells_rolled m) × (s.drawn ≡ s.drawn)) → StepAt o e h k
            on true b w =
                made_step o e h k true (is_current_key o k h) (phase_of_key d.current k) u.phase (begin ∙ b) refl refl (next_is o e h k (Some u) j ∙ phase_mine u k b)
                (step_begun (logs_of k e.rec) _ _ _ (phase_of_key d.current k) u.phase act)
            on false b (inl w) =
                step_away o e h k false (phase_of_key (Some u) k) (begin ∙ b) (current_is o h k None w.0) (was_is o h k None w.0) (next_is o e h k (Some u) j) (λ yes. absurd (cc (yes))) (λ z. phase_other u k b)
            on false b (inr w) =
                closed w.0 (Some u) w.1 j w.2 (begin ∙ b) (phase_other u k b) (λ x z. ap (λ (y : Current). is_rolling y.phase) (sym (some_same u x z)) ∙ flat) (is_key k (node_key w.0.key)) refl

-- ---- every entry but a crash

step_of_entry : (o : Origin) (up : Option Addr) (e : Entry) (h : List Entry) (k : NodeKey) → IsLegal o up (e ∷ h) → is_crash e.event ≡ false → StepAt o e h k
step_of_entry o up e h k legal calm = go (entered o e h legal.grown.0)
  where
    go : Entered o e h → StepAt o e h k
    go (Crashed i) = absurd (let yes : is_crash e.event ≡ true = ap is_crash i in cc (yes, calm))
    go (Begun from t b a begun c cur nil quiet sent) = step_taken o up e h k legal t b a.peer begun cur nil quiet
    go (Plain c begun same) = step_plain o up e h k legal c begun same

-- ---- a crash

crash_phases : (c : Option Current) (k : NodeKey) → (is_active (phase_of_key (recovered_current c) k) ≡ false) × (is_rolling (phase_of_key (recovered_current c) k) ≡ false)
crash_phases None k = (refl, refl)
crash_phases (Some c) k = go c.phase
  where
    on : (b : Bool) (p : Phase) → is_active p ≡ false → is_rolling p ≡ false → (is_active (if b then p else Phase.Nil) ≡ false) × (is_rolling (if b then p else Phase.Nil) ≡ false)
    on true p h i = (h, i)
    on false p h i = (refl, refl)

    go : (p : Phase) → (is_active (phase_of_key (recovered_current (Some (record c { phase = p }))) k) ≡ false) × (is_rolling (phase_of_key (recovered_current (Some (record c { phase = p }))) k) ≡ false)
    go Phase.Nil = (refl, refl)
    go Phase.Active = (refl, refl)
    go Phase.Ready = on (is_key k (node_key c.key)) Phase.Ready refl refl
    go Phase.Committing = on (is_key k (node_key c.key)) Phase.Committing refl refl
    go Phase.Rolling = (refl, refl)

crashed_current : (d : Digest) → (after_crash d).current ≡ recovered_current d.current
unfolding after_crash
crashed_current d = refl

pub crash_next : (o : Origin) (e : Entry) (h : List Entry) → is_crash e.event ≡ true → (digest o (e ∷ h)).current ≡ recovered_current (digest o h).current
crash_next o e h i = ap (λ (f : Event). (action o.who (digest o h) f).next.current) (crash_is e.event i) ∙ crashed_current (digest o h)

pub started_current : (o : Origin) → (digest o []).current ≡ current_from None o.start.records
unfolding started
started_current o = refl

start_phases : (o : Origin) (up : Option Addr) (k : NodeKey) → IsLegal o up [] → (is_active (phase_of_key (digest o []).current k) ≡ false) × (is_rolling (phase_of_key (digest o []).current k) ≡ false)
start_phases o up k legal =
    let founded : IsFounded o up [] = founded_by o up [] legal in
    let start = sound_start o legal.start founded.earlier in
    let same : (digest o []).current ≡ recovered_current (digest o []).current = started_current o ∙ sym start.again in
    subst (λ (c : Option Current). (is_active (phase_of_key c k) ≡ false) × (is_rolling (phase_of_key c k) ≡ false)) (sym same) (crash_phases (digest o []).current k)

-- ---- every legal history

pub record IsKeyIn (o : Origin) (h : List Entry) (k : NodeKey) : Type 0 where
  pub active : is_active_in o k h ≡ is_active (phase_of_key (digest o h).current k)
  pub rolling : is_rolling_in o k h ≡ is_rolling (phase_of_key (digest o h).current k)

key_calm : (o : Origin) (e : Entry) (h : List Entry) (k : NodeKey) → is_crash e.event ≡ false → StepAt o e h k → IsKeyIn o h k → IsKeyIn o (e ∷ h) k
key_calm o e h k calm step was = record {
  active = rw (calm, is_active_in) (rw was.active (on (begins o k e h) refl));
  rolling = rw (calm, is_rolling_in) (rw was.rolling (roll (begins o k e h) refl));
}
  where
    p : Phase
    p = phase_of_key (digest o h).current k

    q : Phase
    q = phase_of_key (digest o (e ∷ h)).current k

    l : Bool
    l = logs_of k e.rec

    f : Bool
    f = rolls_for o k e h

    u : Bool
    u = is_unchanged e.event && is_current_key o k h

    t : Bool
    t = tells_rollback_complete e.outs && is_current_key o k h

    stays : (x y z : Bool) → (y ≡ true → (x ≡ true) × (z ≡ false)) → (x ≡ true → (y || z) ≡ true) → (if z then false else x) ≡ y
    stays true true z i j = let w = (i refl).1 in rw w refl
    stays false true z i j = absurd (cc ((i refl).0))
    stays true false true i j = refl
    stays true false false i j = absurd (cc (j refl))
    stays false false true i j = refl
    stays false false false i j = refl

    rolls_on : (x y v w : Bool) → (y ≡ true → (v ≡ false) × ((w || x) ≡ true)) → ((w || x) ≡ true → (y || v) ≡ true) → (if v then false else (w || x)) ≡ y
    rolls_on x true v w i j = let a = i refl in rw a.0 a.1
    rolls_on x false true w i j = refl
    rolls_on x false false true i j = absurd (cc (j refl))
    rolls_on true false false false i j = absurd (cc (j refl))
    rolls_on false false false false i j = refl

    on : (b : Bool) → begins o k e h ≡ b → (if begins o k e h then true else if (l || f || u) then false else is_active p) ≡ is_active q
    on true i = rw i (sym (step.begins i))
    on false i = rw i (stays (is_active p) (is_active q) (l || f || u) (λ a. step.active i a) (λ a. step.stays i a))

    roll : (b : Bool) → begins o k e h ≡ b → (if begins o k e h then false else if t then false else (f || is_rolling p)) ≡ is_rolling q
    roll true i = rw i (sym (calm_phase q (step.begins i)))
      where
        calm_phase : (p : Phase) → is_active p ≡ true → is_rolling p ≡ false
        calm_phase p h = grind (arith, h)
    roll false i = rw i (rolls_on (is_rolling p) (is_rolling q) t f (λ a. step.rolling i a) (λ a. step.rolls i a))

pub key_law : (o : Origin) (up : Option Addr) (h : List Entry) (k : NodeKey) → IsLegal o up h → IsKeyIn o h k
key_law o up [] k legal = let s = start_phases o up k legal in record { active = sym s.0; rolling = sym s.1 }
key_law o up (e ∷ h) k legal = go (is_crash e.event) refl (key_law o up h k (before_it o up e h legal))
  where
    go : (b : Bool) → is_crash e.event ≡ b → IsKeyIn o h k → IsKeyIn o (e ∷ h) k
    go true i was =
        let s = crash_phases (digest o h).current k in
        let next = crash_next o e h i in
        record {
          active = rw (i, is_active_in) (sym (ap (λ (c : Option Current). is_active (phase_of_key c k)) next ∙ s.0));
          rolling = rw (i, is_rolling_in) (sym (ap (λ (c : Option Current). is_rolling (phase_of_key c k)) next ∙ s.1));
        }
    go false i was = key_calm o e h k i (step_of_entry o up e h k legal i) was

-- the phase of any key
pub phase_law : (o : Origin) (up : Option Addr) (h : List Entry) (k : NodeKey) → IsLegal o up h → phase_in o k h ≡ phase_of_key (digest o h).current k
phase_law o up h k legal =
    let is : IsKeyIn o h k = key_law o up h k legal in
    let p : Phase = phase_of_key (digest o h).current k in
    rw (is.active, is.rolling, last_phase o h k (log_told o up h legal)) (phase_made p)

pub phase_agrees_law : (o : Origin) (up : Option Addr) (h : List Entry) → IsLegal o up h → phase_agrees o h ≡ true
phase_agrees_law o up h legal = go (digest o h).current refl
  where
    go : (v : Option Current) → (digest o h).current ≡ v → elim v as (λ _. Bool) [ None ↦ true | Some c ↦ number_of_phase c.phase == number_of_phase (phase_in o (node_key c.key) h) ] ≡ true
    go None i = refl
    go (Some c) i =
        let self : is_key (node_key c.key) (node_key c.key) ≡ true = key_self (node_key c.key) in
        let same : phase_in o (node_key c.key) h ≡ c.phase = phase_law o up h (node_key c.key) legal ∙ ap (λ (v : Option Current). phase_of_key v (node_key c.key)) i ∙ phase_mine c (node_key c.key) self in
        number_self (number_of_phase c.phase) (number_of_phase (phase_in o (node_key c.key) h)) (ap number_of_phase (sym same))

quiet_key : (o : Origin) (up : Option Addr) (h : List Entry) (v : Option NodeKey) → IsLegal o up h → is_quiet o h v ≡ true
quiet_key o up h None legal = refl
quiet_key o up h (Some k) legal = go (digest o h).current refl
  where
    phase : phase_in o k h ≡ phase_of_key (digest o h).current k
    phase = phase_law o up h k legal

    nil : phase_in o k h ≡ Phase.Nil → (number_of_phase (phase_in o k h) == 0) ≡ true
    nil i = number_self (number_of_phase (phase_in o k h)) 0 (ap number_of_phase i)

    go : (v : Option Current) → (digest o h).current ≡ v → (is_current v k || (number_of_phase (phase_in o k h) == 0)) ≡ true
    go None i = nil (phase ∙ ap (λ (x : Option Current). phase_of_key x k) i)
    go (Some c) i = on (is_key (node_key c.key) k) refl
      where
        on : (b : Bool) → is_key (node_key c.key) k ≡ b → (is_current (Some c) k || (number_of_phase (phase_in o k h) == 0)) ≡ true
        on true j = rw j refl
        on false j = rw j (nil (phase ∙ ap (λ (x : Option Current). phase_of_key x k) i ∙ phase_other c k (key_sym k (node_key c.key) ∙ j)))

quiet_others : (o : Origin) (up : Option Addr) (h g : List Entry) → IsLegal o up h → others_quiet o h g ≡ true
quiet_others o up h [] legal = refl
quiet_others o up h (e ∷ g) legal =
    rw (quiet_key o up h (begun_key o e g) legal, quiet_key o up h (key_logged e) legal) (quiet_others o up h g legal)

pub key_agrees_law : (o : Origin) (up : Option Addr) (h : List Entry) → IsLegal o up h → key_agrees o h ≡ true
key_agrees_law o up h legal = quiet_others o up h h legal
