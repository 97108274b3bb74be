-- An event of the transaction changes control on the arc with a peer as its signs tell.
use Rattle.tp_history_state.proofs.Vocabulary.{Bool, List, None, Option, Some, ap, false, if◌then◌else◌, not, refl, subst, sym, true, ℕ, ◌&&◌, ◌++◌, ◌||◌, ◌∙◌, ◌≡◌, or-false, Outcome, DialogueRecord, is_polarized, gives_control, without_control, cleared, completed, said, Ask_grant, Due, No_response, Arc, Dialogue, Digest, Out, Passage, Stays, Enters, Falls, Falls_at_once, Commits, Rolls_back, Leaves, entered, played, without_deferral, completed_arcs, committed_arcs, committed_dialogue, grants, is_superior, side_at, is_arc_of, is_arc_below, is_granting, is_over, has_said, said_to, Side, Transaction, is_under_at, row_holds, TxOut, find_arc, performed, with_dialogues, are_separate, and_left, and_right, carries_none, said_both, said_none, find_arc_is, thins_performed, around_grants, parts_none, Turn, IsWhole}
use Rattle.tp_history_state.proofs.control.Arcs.{control_at, control_from, control_of, dialogues_get, granting_at, grants_say, is_gift, is_ruled, ruled_live, same_dialogues, same_performed}
use Rattle.tp_history_state.proofs.rests.Foreign.{is_foreign}
use Rattle.tp_history_state.proofs.passages.Shown.{clears}
use Rattle.tp_history_state.proofs.control.Signs.{is_shift}

-- ---- dialogues

pub cleared_gets : (x : Dialogue) → (is_polarized (cleared x) ≡ is_polarized x) × (is_polarized x ≡ true → control_from (cleared x) ≡ (false, false))
unfolding cleared
cleared_gets x = (refl, λ pol. refl)

pub completed_above : (o : Outcome) (x : Dialogue) → (is_polarized (completed o Side.Superior x) ≡ is_polarized x) × (is_polarized x ≡ true → control_from (completed o Side.Superior x) ≡ (true, false))
unfolding completed
completed_above o x = (refl, λ pol. rw pol (go x.due))
  where
    go : (v : Due) → ◌≡◌ {A = Bool × Bool} (true, gives_control (without_control v)) (true, false)
    go No_response = refl
    go _ = refl

completed_below : (o : Outcome) (x : Dialogue) → (is_polarized (completed o Side.Subordinate x) ≡ is_polarized x) × (is_polarized x ≡ true → control_from (completed o Side.Subordinate x) ≡ (false, gives_control x.due))
unfolding completed
completed_below o x = (refl, λ pol. rw pol refl)

granted_gets : (x : Dialogue) (v : Bool × Bool) → control_from x ≡ v → (is_polarized (said Ask_grant x) ≡ is_polarized x) × (control_from (said Ask_grant x) ≡ (false, v.1))
unfolding said
granted_gets x v h = (refl, rw (ap (λ (w : Bool × Bool). w.1) h) refl)

-- ---- a phase is entered

pub entered_control : (p : ℕ) (branch : Bool) (t : Transaction) (w : Passage) (arcs : List Arc) → ((x : Arc) → x.peer.node ≡ p → is_arc_of t x ≡ branch) → is_ruled p (entered t w arcs) ≡ true
    → (is_ruled p arcs ≡ true) × (control_at p (entered t w arcs) ≡ (if clears w && branch then (false, false) else control_at p arcs))
unfolding entered
entered_control p branch t w arcs all = go w branch all
  where
    clear : (b : Bool) → ((x : Arc) → x.peer.node ≡ p → is_arc_of t x ≡ b) → (f : Arc → Dialogue) → ((a : Arc) → (is_polarized (f a) ≡ is_polarized a.dialogue) × (is_polarized a.dialogue ≡ true → control_from (f a) ≡ (false, false))) → is_ruled p (with_dialogues arcs (is_arc_of t) f) ≡ true
        → (is_ruled p arcs ≡ true) × (control_at p (with_dialogues arcs (is_arc_of t) f) ≡ (if b then (false, false) else control_at p arcs))
    clear true at f k = dialogues_get p arcs (is_arc_of t) f (false, false) (λ a found node. (at a node, (k a).0, (k a).1))
    clear false at f k = same_dialogues p arcs (is_arc_of t) f (λ a node is. absurd (let off : is_arc_of t a ≡ false = at a node in cc (is, off)))

    go : (w : Passage) (b : Bool) → ((x : Arc) → x.peer.node ≡ p → is_arc_of t x ≡ b) → is_ruled p (entered t w arcs) ≡ true → (is_ruled p arcs ≡ true) × (control_at p (entered t w arcs) ≡ (if clears w && b then (false, false) else control_at p arcs))
    go Enters b at h = clear b at (λ a. cleared a.dialogue) (λ a. cleared_gets a.dialogue) h
    go Falls b at h = clear b at (λ a. without_deferral (cleared a.dialogue)) (λ a. cleared_gets a.dialogue) h
    go Falls_at_once b at h = clear b at (λ a. without_deferral (cleared a.dialogue)) (λ a. cleared_gets a.dialogue) h
    go _ b at h = (h, refl)

-- ---- and is over

-- the peer's arcs, where the transaction meets them: above, of a branch, and how many
pub record Meets (p : ℕ) (above branch : Bool) (d : Digest) (t : Transaction) : Type 0 where
  pub side : is_superior d p ≡ above
  pub all : (x : Arc) → x.peer.node ≡ p → is_arc_of t x ≡ branch
  pub under : above ≡ true → branch ≡ true → is_under_at t.key p ≡ true

abbrev pub Over : Bool → Bool → Bool → Bool × Bool → Bool × Bool
Over above branch gift v = if branch then (if above then (false, v.1) else (not gift, false)) else v

side_is : (p : ℕ) (above branch : Bool) (d : Digest) (t : Transaction) → Meets p above branch d t → (a : Arc) → a.peer.node ≡ p → side_at d a.peer.node ≡ (if above then Side.Subordinate else Side.Superior)
side_is p above branch d t m a at = ap (λ (b : Bool). if b then Side.Subordinate else Side.Superior) (ap (is_superior d) at ∙ m.side)

completed_control : (p : ℕ) (above branch : Bool) (d : Digest) (t : Transaction) (xs : List Arc) → Meets p above branch d t → is_ruled p (completed_arcs d t Outcome.Rollback xs) ≡ true
    → (is_ruled p xs ≡ true) × (control_at p (completed_arcs d t Outcome.Rollback xs) ≡ Over above branch false (control_at p xs))
completed_control p above false d t xs meets h = same_dialogues p xs (is_arc_of t) _ (λ a at is. absurd (let off : is_arc_of t a ≡ false = meets.all a at in cc (is, off))) h
completed_control p true true d t xs meets h =
    dialogues_get p xs (is_arc_of t) _ (false, (control_at p xs).1)
    (λ a found at.
    let side : side_at d a.peer.node ≡ Side.Subordinate = side_is p true true d t meets a at in
    let k = subst (λ (s : Side). (is_polarized (completed Outcome.Rollback s a.dialogue) ≡ is_polarized a.dialogue) × (is_polarized a.dialogue ≡ true → control_from (completed Outcome.Rollback s a.dialogue) ≡ (false, gives_control a.dialogue.due))) (sym side) (completed_below Outcome.Rollback a.dialogue) in
    (meets.all a at, k.0, λ pol. k.1 pol ∙ ap (λ (o : Option Arc). (false, (control_of o).1)) (sym found)))
    h
completed_control p false true d t xs meets h =
    dialogues_get p xs (is_arc_of t) _ (true, false)
    (λ a found at.
    let side : side_at d a.peer.node ≡ Side.Superior = side_is p false true d t meets a at in
    let k = subst (λ (s : Side). (is_polarized (completed Outcome.Rollback s a.dialogue) ≡ is_polarized a.dialogue) × (is_polarized a.dialogue ≡ true → control_from (completed Outcome.Rollback s a.dialogue) ≡ (true, false))) (sym side) (completed_above Outcome.Rollback a.dialogue) in
    (meets.all a at, k.0, k.1))
    h

-- the arcs of a completed commitment, of which those that are granted hold no control
below_it : (t : Transaction) (a : Arc) → is_granting t a ≡ true → is_arc_below t a ≡ true
below_it t a h = and_left (is_arc_below t a) _ (and_left _ _ (and_left _ _ h))

committed_control : (p : ℕ) (above branch : Bool) (d : Digest) (t : Transaction) (xs : List Arc) → Meets p above branch d t → is_ruled p (committed_arcs d t xs) ≡ true
    → (is_ruled p xs ≡ true) × (control_at p (committed_arcs d t xs) ≡ Over above branch (granting_at t p xs) (control_at p xs))
committed_control p above false d t xs meets h = same_dialogues p xs (is_arc_of t) (committed_dialogue d t) (λ a at is. absurd (let off : is_arc_of t a ≡ false = meets.all a at in cc (is, off))) h
committed_control p true true d t xs meets h =
    dialogues_get p xs (is_arc_of t) (committed_dialogue d t) (false, (control_at p xs).1)
    (λ a found at.
    let side : side_at d a.peer.node ≡ Side.Subordinate = side_is p true true d t meets a at in
    let k = subst (λ (s : Side). (is_polarized (completed Outcome.Commit s a.dialogue) ≡ is_polarized a.dialogue) × (is_polarized a.dialogue ≡ true → control_from (completed Outcome.Commit s a.dialogue) ≡ (false, gives_control a.dialogue.due))) (sym side) (completed_below Outcome.Commit a.dialogue) in
    let under : is_under_at t.key a.peer.node ≡ true = ap (is_under_at t.key) at ∙ meets.under refl refl in
    let plain : is_granting t a ≡ false = rw under refl in
    let same : committed_dialogue d t a ≡ completed Outcome.Commit (side_at d a.peer.node) a.dialogue = rw plain refl in
    (meets.all a at, ap is_polarized same ∙ k.0, λ pol. ap control_from same ∙ k.1 pol ∙ ap (λ (o : Option Arc). (false, (control_of o).1)) (sym found)))
    h
committed_control p false true d t xs meets h =
    dialogues_get p xs (is_arc_of t) (committed_dialogue d t) (not (granting_at t p xs), false)
    (λ a found at.
    let side : side_at d a.peer.node ≡ Side.Superior = side_is p false true d t meets a at in
    let k = subst (λ (s : Side). (is_polarized (completed Outcome.Commit s a.dialogue) ≡ is_polarized a.dialogue) × (is_polarized a.dialogue ≡ true → control_from (completed Outcome.Commit s a.dialogue) ≡ (true, false))) (sym side) (completed_above Outcome.Commit a.dialogue) in
    let g : granting_at t p xs ≡ is_granting t a = ap (λ (o : Option Arc). elim o as (λ _. Bool) [ None ↦ false | Some x ↦ is_granting t x ]) found in
    let both = on (is_granting t a) (completed Outcome.Commit (side_at d a.peer.node) a.dialogue) in
    (meets.all a at, both.0 ∙ k.0, λ pol. both.1 (k.1 pol) ∙ ap (λ (b : Bool). (not b, false)) (sym g)))
    h
  where
    on : (b : Bool) (x : Dialogue) → (is_polarized (if b then said Ask_grant x else x) ≡ is_polarized x) × (control_from x ≡ (true, false) → control_from (if b then said Ask_grant x else x) ≡ (not b, false))
    on true x = ((granted_gets x (control_from x) refl).0, λ h. (granted_gets x (true, false) h).1)
    on false x = (refl, λ h. h)

-- what the passage makes of control, and when a Grant goes out with it
pub record Plays (p : ℕ) (above branch : Bool) (w : Passage) (xs ys : List Arc) (outs : List Out) : Type 0 where
  pub ruled : is_ruled p xs ≡ true
  pub control : control_at p ys ≡ (if is_over w then Over above branch (has_said is_gift (said_to p outs)) (control_at p xs) else control_at p xs)
  pub gift : has_said is_gift (said_to p outs) ≡ true → (is_over w && branch && not above) ≡ true

plays_still : (p : ℕ) (above branch : Bool) (w : Passage) (xs : List Arc) (outs : List TxOut) → is_over w ≡ false → carries_none is_gift outs ≡ true → is_ruled p (performed xs outs).0 ≡ true → Plays p above branch w xs (performed xs outs).0 (performed xs outs).1
plays_still p above branch w xs outs off none h =
    let k = same_performed p xs outs h in
    let no : has_said is_gift (said_to p (performed xs outs).1) ≡ false = said_none is_gift p xs outs none in
    record { ruled = k.0; control = k.1 ∙ rw off refl; gift = λ i. absurd (cc (i, no)) }

plays_back : (p : ℕ) (above branch : Bool) (w : Passage) (d : Digest) (t : Transaction) (xs : List Arc) (outs : List TxOut) → is_over w ≡ true → Meets p above branch d t → carries_none is_gift outs ≡ true → is_ruled p (completed_arcs d t Outcome.Rollback (performed xs outs).0) ≡ true
    → Plays p above branch w xs (completed_arcs d t Outcome.Rollback (performed xs outs).0) (performed xs outs).1
plays_back p above branch w d t xs outs on meets none h =
    let two = completed_control p above branch d t (performed xs outs).0 meets h in
    let one = same_performed p xs outs two.0 in
    let no : has_said is_gift (said_to p (performed xs outs).1) ≡ false = said_none is_gift p xs outs none in
    record { ruled = one.0; control = two.1 ∙ ap (Over above branch false) one.1 ∙ rw (on, no) refl; gift = λ i. absurd (cc (i, no)) }

pub played_control : (p : ℕ) (above branch : Bool) (d : Digest) (t : Transaction) (w : Passage) (asks : Turn) → IsWhole asks → (xs : List Arc) → (w ≡ Leaves → ⊥) → Meets p above branch d t → are_separate xs ≡ true → carries_none is_gift asks.outs ≡ true
    → is_ruled p (played d t w asks xs).0 ≡ true → Plays p above branch w xs (played d t w asks xs).0 (played d t w asks xs).1
unfolding played
played_control p above branch d t Stays asks whole xs other meets apart none h = plays_still p above branch Stays xs asks.outs refl none h
played_control p above branch d t Enters asks whole xs other meets apart none h = plays_still p above branch Enters xs asks.outs refl none h
played_control p above branch d t Falls asks whole xs other meets apart none h = plays_still p above branch Falls xs asks.outs refl none h
played_control p above branch d t Falls_at_once asks whole xs other meets apart none h = plays_back p above branch Falls_at_once d t xs asks.outs refl meets none h
played_control p above branch d t Rolls_back asks whole xs other meets apart none h = plays_back p above branch Rolls_back d t xs asks.outs refl meets none h
played_control p above branch d t Leaves asks whole xs other meets apart none h = absurd (other refl)
played_control p above branch d t Commits asks whole xs other meets apart none h =
    record { ruled = one.0; control = three.1 ∙ two.1 ∙ mid.1 ∙ rw (one.1, sym gifts) refl; gift = λ i. needed (sym gifts ∙ i) }
  where
    s : List TxOut × List TxOut
    s = around_grants asks

    parts : (carries_none is_gift s.0 && carries_none is_gift s.1) ≡ true
    parts = parts_none is_gift s (ap (carries_none is_gift) whole ∙ none)

    first : List Arc × List Out
    first = performed xs s.0

    ys : List Arc
    ys = committed_arcs d t first.0

    given : List Arc × List Out
    given = performed ys (grants t first.0)

    last : List Arc × List Out
    last = performed given.0 s.1

    three : (is_ruled p given.0 ≡ true) × (control_at p last.0 ≡ control_at p given.0)
    three = same_performed p given.0 s.1 h

    two : (is_ruled p ys ≡ true) × (control_at p given.0 ≡ control_at p ys)
    two = same_performed p ys (grants t first.0) three.0

    mid : (is_ruled p first.0 ≡ true) × (control_at p ys ≡ Over above branch (granting_at t p first.0) (control_at p first.0))
    mid = committed_control p above branch d t first.0 meets two.0

    one : (is_ruled p xs ≡ true) × (control_at p first.0 ≡ control_at p xs)
    one = same_performed p xs s.0 mid.0

    gifts : has_said is_gift (said_to p ((first.1 ++ given.1) ++ last.1)) ≡ granting_at t p first.0
    gifts =
        said_both is_gift p (first.1 ++ given.1) last.1
        ∙ rw (said_both is_gift p first.1 given.1, said_none is_gift p xs s.0 (and_left (carries_none is_gift s.0) (carries_none is_gift s.1) parts), said_none is_gift p given.0 s.1 (and_right (carries_none is_gift s.0) (carries_none is_gift s.1) parts), grants_say t p first.0 ys ((thins_performed xs s.0).apart apart) (ruled_live p ys two.0)) (or-false (granting_at t p first.0))

    needed : granting_at t p first.0 ≡ true → (branch && not above) ≡ true
    needed i = go (find_arc first.0 p) refl
      where
        on : (a : Arc) → a.peer.node ≡ p → is_granting t a ≡ true → (b : Bool) → branch ≡ b → (v : Bool) → above ≡ v → (b && not v) ≡ true
        on a at is true j false k = refl
        on a at is false j v k = absurd (let under : is_arc_below t a ≡ true = below_it t a is in let off : is_arc_of t a ≡ false = meets.all a at ∙ j in mixed (is_under_at t.key a.peer.node) (row_holds t.rows a.peer.node (λ b. true)) under off)
          where
            mixed : (x y : Bool) → (not x && y) ≡ true → (x || y) ≡ false → ⊥
            mixed true y h i = cc (i)
            mixed false y h i = cc (h, i)
        on a at is true j true k = absurd (let under : is_arc_below t a ≡ true = below_it t a is in let top : is_under_at t.key a.peer.node ≡ true = ap (is_under_at t.key) at ∙ meets.under k j in mixed (is_under_at t.key a.peer.node) (row_holds t.rows a.peer.node (λ b. true)) under top)
          where
            mixed : (x y : Bool) → (not x && y) ≡ true → x ≡ true → ⊥
            mixed true y h i = cc (h)
            mixed false y h i = cc (i)

        go : (o : Option Arc) → find_arc first.0 p ≡ o → (branch && not above) ≡ true
        go None j = absurd (let off : granting_at t p first.0 ≡ false = ap (λ (o : Option Arc). elim o as (λ _. Bool) [ None ↦ false | Some x ↦ is_granting t x ]) j in cc (i, off))
        go (Some a) j = on a (find_arc_is first.0 p a j) (sym (ap (λ (o : Option Arc). elim o as (λ _. Bool) [ None ↦ false | Some x ↦ is_granting t x ]) j) ∙ i) branch refl above refl

-- ---- what is said besides

pub gift_alien : (r : DialogueRecord) → is_foreign r ≡ false → is_gift r ≡ false
gift_alien DialogueRecord.Grant h = absurd (cc (h))
gift_alien DialogueRecord.HandshakeGrant h = absurd (cc (h))
gift_alien r h = refl

pub shift_alien : (r : DialogueRecord) → is_foreign r ≡ false → is_shift r ≡ false
shift_alien DialogueRecord.Response h = absurd (cc (h))
shift_alien (DialogueRecord.Begin t b k) h = absurd (cc (h))
shift_alien DialogueRecord.Left h = absurd (cc (h))
shift_alien DialogueRecord.LeftEnd h = absurd (cc (h))
shift_alien r h = refl
