-- What a store heard of an outcome its node's user was told in that tree; so no two stores of one tree disagree.
use Rattle.std.proofs.Common.{◌≡◌, ◌&&◌, ◌||◌, Bool, true, false, refl, ap, sym, ◌∙◌, Option, Some, None, List, [], ◌∷◌, inl, inr}
use Rattle.tp_names.specs.declared.identifiers.Aaid.{Aaid}
use Rattle.tp_names.specs.declared.identifiers.Addr.{Addr}
use Rattle.tp_names.specs.Same.{is_aaid}
use Rattle.tp_records.specs.declared.indication.Indication.{Indication}
use Rattle.tp_model.specs.Parts.{Origin, Event, Entry, Out, Under, Current, Digest}
use Rattle.tp_model.specs.Dialogues.{is_nil, is_active, is_committing, is_rolling}
use Rattle.tp_model.specs.Transactions.{aaid_of}
use Rattle.tp_model.specs.Arcs.{find_arc}
use Rattle.tp_model.specs.Node.{Move, phase_of, fresh_current}
use Rattle.tp_model.specs.Events.{refusal, action}
use Rattle.tp_model.specs.History.{digest}
use Rattle.tp_model.specs.Questions.{is_crash}
use Rattle.tp_model.specs.Outcomes.{is_now, is_member, root_of, rolls}
use Rattle.tp_model.specs.World.{number_of}
use Rattle.tp_model.specs.Happenings.{Happening, run}
use Rattle.tp_model.specs.Promises.{tells_commit, tells_rollback, has_told_in}
use Rattle.tp_model.specs.Legal.{IsGrown}
use Rattle.tp_steps.specs.Moves.{prelude}
use Rattle.tp_steps.specs.Passages.{is_commit_told, is_rollback_told, is_commit_rec}
use Rattle.tp_steps.specs.Trees.{out_tells, IsTreed}
use Rattle.tp_steps.proofs.branches.Rolls.{phase_at}
use Rattle.tp_steps.proofs.lemmas.Equality.{or_case, and_left, and_right}
use Rattle.tp_steps.proofs.lemmas.Options.{some_same}
use Rattle.tp_histories.specs.Worlds.{IsGood}
use Rattle.tp_histories.proofs.trees.Late.{late_law}
use Rattle.tp_histories.proofs.trees.Knowing.{begin_seen, begin_arc}
use Rattle.tp_histories.proofs.trees.Entered.{Entered, Crashed, Begun, Plain, entered}
use Rattle.tp_histories.proofs.trees.Behind.{treed_rolls}
use Rattle.tp_histories.proofs.worlds.Good.{good_run}
use Rattle.tp_runs.proofs.Users.{users_see, commit_tells, rollback_tells}
use Rattle.tp_agreement.proofs.Agreed.{commits_alone}
use Rattle.tp_encodable.specs.Begins.{is_begin_told, takes_begin}
use Rattle.tp_encodable.proofs.Short.{begins_untold}
use Rattle.tp_stores.specs.Stores.{told_in, IsHeardIn, heard_of, is_none, only_under, StoresAgree}
use Rattle.tp_stores.proofs.Hearing.{last_begun, is_of, hears, is_commit, is_rollback, or_first, or_over, hears_append, committed_heard, rolled_back_heard}
use Rattle.tp_stores.proofs.Telling.{some, some_told, heard_some, heard_none, hears_some, hears_of, some_weaker}
use Rattle.tp_stores.proofs.Begun.{IsBegin, is_begin, crash_is, begun_law}

-- ---- an event that tells an outcome

-- nothing is told in a crash
pub crash_tells : (f : Indication → Bool) (o : Origin) (up : Option Addr) (e : Entry) (h : List Entry) → IsGrown o up (e ∷ h) → e.event ≡ Event.Crash → out_tells f e.outs ≡ true → ⊥
crash_tells f o up e h legal is told =
    let none : e.outs ≡ [] = ap (λ (v : Entry). v.outs) (sym legal.1) ∙ ap (λ (v : Event). (action o.who (digest o h) v).outs) is in
    absurd (cc (told, ap (out_tells f) none))

-- it has a current transaction
abbrev pub IsNow : (Indication → Bool) → Type 0
IsNow g = (o : Origin) (up : Option Addr) (e : Entry) (h : List Entry) (t : Aaid) → IsGrown o up (e ∷ h) → out_tells g e.outs ≡ true → (c : Current) × ((digest o h).current ≡ Some c)

neither : (a b : Bool) → a ≡ false → b ≡ false → (a || b) ≡ true → ⊥
neither a b i j h = let off : (a || b) ≡ false = rw (i, j) refl in absurd (cc (off, h))

pub now_commit : IsNow is_commit_told
now_commit o up e h t legal told = go (entered o e h legal.0)
  where
    d : Digest
    d = digest o h

    m : Move
    m = action o.who d e.event

    treed : IsTreed o.who (prelude o.who d e.event) (rolls o.who d e.event) t 0 (prelude o.who d e.event) m
    treed = treed_rolls o.who d e.event t 0 (late_law o up h legal.3) legal.0

    k : (c : Current) × ((prelude o.who d e.event).current ≡ Some c) × ((is_committing c.phase || is_commit_rec m.rec) ≡ true)
    k = treed.tells_commit (ap (λ (v : Entry). out_tells is_commit_told v.outs) legal.1 ∙ told)

    go : Entered o e h → (c : Current) × ((digest o h).current ≡ Some c)
    go (Crashed is) = absurd (crash_tells is_commit_told o up e h legal is told)
    go (Begun from u b a by calm cur nil quiet sender) =
        let one : k.0 ≡ fresh_current (Under u b a.peer) = some_same k.0 (fresh_current (Under u b a.peer)) (sym k.1 ∙ cur) in
        absurd (neither (is_committing k.0.phase) (is_commit_rec m.rec) (ap (λ (c : Current). is_committing c.phase) one) (ap is_commit_rec quiet.2) k.2)
    go (Plain calm by same) = (k.0, sym same ∙ k.1)

now_rollback : IsNow is_rollback_told
now_rollback o up e h t legal told = go (entered o e h legal.0)
  where
    d : Digest
    d = digest o h

    treed : IsTreed o.who (prelude o.who d e.event) (rolls o.who d e.event) t 0 (prelude o.who d e.event) (action o.who d e.event)
    treed = treed_rolls o.who d e.event t 0 (late_law o up h legal.3) legal.0

    k : (c : Current) × ((prelude o.who d e.event).current ≡ Some c) × ((is_rolling c.phase || rolls o.who d e.event) ≡ true)
    k = treed.tells_rollback (ap (λ (v : Entry). out_tells is_rollback_told v.outs) legal.1 ∙ told)

    go : Entered o e h → (c : Current) × ((digest o h).current ≡ Some c)
    go (Crashed is) = absurd (crash_tells is_rollback_told o up e h legal is told)
    go (Begun from u b a by calm cur nil quiet sender) =
        let one : k.0 ≡ fresh_current (Under u b a.peer) = some_same k.0 (fresh_current (Under u b a.peer)) (sym k.1 ∙ cur) in
        absurd (neither (is_rolling k.0.phase) (rolls o.who d e.event) (ap (λ (c : Current). is_rolling c.phase) one) quiet.0 k.2)
    go (Plain calm by same) = (k.0, sym same ∙ k.1)

-- ---- an outcome that was heard

pub record IsOutcome (f g : Indication → Bool) (tells : List Out → Bool) : Type 0 where
  pub weaker : (i : Indication) → f i ≡ true → g i ≡ true
  pub tells_so : (outs : List Out) → out_tells g outs ≡ true → tells outs ≡ true
  pub now : IsNow g

pub none_is : (o : Option Aaid) → is_none o ≡ true → o ≡ None
none_is None h = refl
none_is (Some t) h = absurd (cc (h))

pub heard_told : (f g : Indication → Bool) (tells : List Out → Bool) → IsOutcome f g tells → (o : Origin) (up : Option Addr) (h : List Entry) (t : Aaid) (stops : Bool) (is : List Indication) → o.start.records ≡ [] → IsGrown o up h → only_under o h ≡ true → IsHeardIn stops h is → hears f t None is ≡ true
    → has_told_in tells o t h ≡ true
heard_told f g tells k o up [] t stops is empty legal only in_all heard = absurd (let none = ap (hears f t None) in_all in cc (none, heard))
heard_told f g tells k o up (e ∷ h) t stops is empty legal only in_all heard =
    elim (or_case (hears f t None before) (hears f t last own) (sym (ap (hears f t None) in_all.2 ∙ hears_append f t None before own) ∙ heard)) [
      | inl i ↦ or_over (is_now t d.current && tells e.outs) (has_told_in tells o t h) (heard_told f g tells k o up h t (is_crash e.event) before empty legal.3 (and_right (is_none (root_of d.current)) (only_under o h) only) in_all.4 i)
      | inr i ↦ new i
    ]
  where
    d : Digest
    d = digest o h

    before : List Indication
    before = in_all.0

    own : List Indication
    own = in_all.1

    last : Option Aaid
    last = last_begun None before

    new : hears f t last own ≡ true → has_told_in tells o t (e ∷ h) ≡ true
    new i = go (takes_begin e.event) refl
      where
        out : out_tells g e.outs ≡ true
        out = sym (some_told g e.outs) ∙ heard_some g stops (told_in e.outs) own in_all.3 (some_weaker f g k.weaker own (hears_some f t last own i))

        c : (c : Current) × (d.current ≡ Some c)
        c = k.now o up e h t legal out

        late : is_nil c.0.phase ≡ false
        late = late_law o up h legal.3 c.0 c.1

        calm : is_crash e.event ≡ true → is_active c.0.phase ≡ false
        calm j = absurd (crash_tells g o up e h legal (crash_is e.event j) out)

        -- a Begin is taken where nothing is current
        begun : (b : IsBegin e.event) (v : Option _) → find_arc d.arcs b.from.node ≡ v → has_told_in tells o t (e ∷ h) ≡ true
        begun b None j = absurd (begin_arc o.who d b.from b.x b.y b.q b.tree b.branch b.holder (ap (λ (v : Event). refusal o.who d v) (sym b.is) ∙ legal.0) j)
        begun b (Some a) j =
            let nil : is_nil (phase_of d) ≡ true = (begin_seen o.who d b.from b.x b.y b.q b.tree b.branch b.holder a (ap (λ (v : Event). refusal o.who d v) (sym b.is) ∙ legal.0) j).0 in
            let off : is_nil (phase_of d) ≡ false = ap is_nil (phase_at d c.0 c.1) ∙ late in
            absurd (cc (nil, off))

        told : takes_begin e.event ≡ false → has_told_in tells o t (e ∷ h) ≡ true
        told j =
            let none : some is_begin_told (told_in e.outs) ≡ false = some_told is_begin_told e.outs ∙ ap (λ (v : Entry). out_tells is_begin_told v.outs) (sym legal.1) ∙ begins_untold o.who d e.event legal.0 j in
            let quiet : some is_begin_told own ≡ false = heard_none is_begin_told stops (told_in e.outs) own in_all.3 none in
            let under : root_of (Some c.0) ≡ None = ap root_of (sym c.1) ∙ none_is (root_of d.current) (and_left (is_none (root_of d.current)) (only_under o h) only) in
            let of_last : is_of t last ≡ true = hears_of f t last own quiet i in
            let of_tree : is_aaid t (aaid_of c.0.key) ≡ true = ap (is_of t) (sym (begun_law o up h (is_crash e.event) before c.0 empty legal.3 in_all.4 c.1 under calm)) ∙ of_last in
            let at : is_now t d.current ≡ true = ap (is_now t) c.1 ∙ of_tree in
            let both : (is_now t d.current && tells e.outs) ≡ true = rw (at, k.tells_so e.outs out) refl in
            or_first (is_now t d.current && tells e.outs) (has_told_in tells o t h) both

        go : (b : Bool) → takes_begin e.event ≡ b → has_told_in tells o t (e ∷ h) ≡ true
        go true j = let b : IsBegin e.event = is_begin e.event j in begun b (find_arc d.arcs b.from.node) refl
        go false j = told j

pub commit_weaker : (i : Indication) → is_commit i ≡ true → is_commit_told i ≡ true
commit_weaker Indication.Commit h = refl
commit_weaker i h = absurd (cc (h))

pub rollback_weaker : (i : Indication) → is_rollback i ≡ true → is_rollback_told i ≡ true
rollback_weaker Indication.Rollback h = refl
rollback_weaker i h = absurd (cc (h))

committing : IsOutcome is_commit is_commit_told tells_commit
committing = record { weaker = commit_weaker; tells_so = λ outs h. commit_tells outs ∙ h; now = now_commit }

rolling : IsOutcome is_rollback is_rollback_told tells_rollback
rolling = record { weaker = rollback_weaker; tells_so = λ outs h. rollback_tells outs ∙ h; now = now_rollback }

-- ---- who was told anything in a tree is of it

now_member : (o : Origin) (t : Aaid) (h : List Entry) → is_now t (digest o h).current ≡ true → is_member o t h ≡ true
now_member o t [] i = i
now_member o t (e ∷ h) i = or_first (is_now t (digest o (e ∷ h)).current) (is_member o t h) i

told_member : (tells : List Out → Bool) (o : Origin) (t : Aaid) (h : List Entry) → has_told_in tells o t h ≡ true → is_member o t h ≡ true
told_member tells o t [] i = absurd (cc (i))
told_member tells o t (e ∷ h) i =
    or_over (is_now t (digest o (e ∷ h)).current) (is_member o t h)
    (elim (or_case (is_now t (digest o h).current && tells e.outs) (has_told_in tells o t h) i) [
      | inl k ↦ now_member o t h (and_left (is_now t (digest o h).current) (tells e.outs) k)
      | inr k ↦ told_member tells o t h k
    ])

-- ---- every run

pub stores_agree : (es : List Happening) → StoresAgree (run es)
stores_agree es t x y hs gs here there only others heard heard_there commits rolls_back =
    commits_alone es t x y (record { here = here; of_tree = told_member tells_commit x.origin t x.history told }) (record { here = there; of_tree = told_member tells_rollback y.origin t y.history told_there })
    ((users_see es).sees_commit t x here told) ((users_see es).sees_rollback t y there told_there)
  where
    good : IsGood (run es).nodes (run es).frames
    good = good_run es

    told : has_told_in tells_commit x.origin t x.history ≡ true
    told =
        heard_told is_commit is_commit_told tells_commit committing x.origin x.superior x.history t false (heard_of hs) (good.fresh (number_of x) x here) (good.legal (number_of x) x here) only heard
        (committed_heard t None hs commits)

    told_there : has_told_in tells_rollback y.origin t y.history ≡ true
    told_there =
        heard_told is_rollback is_rollback_told tells_rollback rolling y.origin y.superior y.history t false (heard_of gs) (good.fresh (number_of y) y there) (good.legal (number_of y) y there) others heard_there
        (rolled_back_heard t None gs rolls_back)
