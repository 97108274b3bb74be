-- What every step of a node makes of the dialogue with one peer, by what it logs and says: an instance of the steps of a node.
use Rattle.tp_history_state.proofs.Vocabulary.{if◌then◌else◌, ◌≡◌, ◌⊎◌, inl, inr, ℕ, Bool, true, false, refl, ap, sym, subst, ◌∙◌, arith, Option, Some, None, List, [], ◌∷◌, ◌++◌, ◌&&◌, ◌||◌, ◌==◌, not, or-true, and_parts, or_parts, or_right, nat_tests, Aaid, BranchId, Addr, Outcome, Request, Indication, DialogueRecord, Holder, Phase, Side, TxEvent, TxOut, Who, Event, Out, Dialogue, Arc, Key, Root, Under, Current, Digest, is_live, is_nil, is_active, is_rolling, is_unchained, is_grant_deferred, begun_by, named_holder, is_live_with_peer, without_arc, with_dialogue, carried, performed, find_arc, Transaction, Turn, is_under_at, row_holds, leave, transacted, has_branch_at, settled, is_end_deferred_at, Move, move, followed, perform, is_superior, seen, seen_rows, phase_of, begin_on, is_leaving, Passage, Stays, Leaves, passage, is_over, is_arc_of, is_granting, entered, played, left_arcs, turned, keep, may_begin_on, said_to, has_said, is_begin, is_left_record, is_grant_record, logs_ready_or_commit, is_left_end, is_unchanged, falls, asks_tell, out_tells, IsLinked, IsPut, IsAsked, are_spoken, is_said, is_word, grants_to, hands_to, shakes_with, responds_to, Moves, part_at, part_same, keeps_performed, said_both, carries_none, said_carried, said_none, live_back, every_turn, seen_branch, leaves_so, tells_rolled, settled_spoken, linked_moves, link_left, passed_turn, is_rolled_told, staged_turn, told_append, told_performed, told_played, find_arc_is, whole_turn}
use Rattle.tp_model.specs.AmongArcs.{is_peer}
use Rattle.tp_history_state.proofs.rests.Foreign.{is_foreign, IsForeign, none_narrow, foreign_turn, foreign_settled, said_played, granted_played, ungranted_played, said_none_to}
use Rattle.tp_history_state.proofs.orders.OverTold.{is_over_told, over_turn}
use Rattle.tp_history_state.proofs.passages.Shown.{is_early, IsShown, shown_turns, clears, clears_early, clears_down, rolling_left, logs_clear, logs_joined}
use Rattle.tp_history_state.proofs.handshakes.Touches.{Touch, Ending, Resting, Beginning, run, some_touch, is_passing, is_ending, is_resting, is_beginning, FitsTouch, FitTouches, some_more, fit_more, run_more, IsMade, made_keeps, made_then, made_after, made_performed, made_without, made_dialogue, when, passing_by, ending_by, made_entered, made_played, made_left, touch_of}
use Rattle.tp_history_state.proofs.lemmas.Begins.{next_child, begin_word, begin_arcs, begun_over, begins_so}
use Rattle.tp_history_state.proofs.lemmas.Passages.{no_leaving, over_is}
use Rattle.tp_history_state.proofs.lemmas.Spoken.{spoken_none, said_not, spoken_untold, quiet_settled}
use Rattle.tp_history_state.proofs.lemmas.Leaving.{gone, says_of, active_put, leaving_is}

-- ---- what is said to the peer

abbrev pub said_left : ℕ → List Out → Bool
said_left p outs = has_said is_left_record (said_to p outs)

abbrev pub said_begin : ℕ → List Out → Bool
said_begin p outs = has_said is_begin (said_to p outs)

abbrev pub said_grant : ℕ → List Out → Bool
said_grant p outs = has_said is_grant_record (said_to p outs)

-- a handshake, or its response
abbrev pub is_shaking : DialogueRecord → Bool
is_shaking DialogueRecord.Handshake = true
is_shaking DialogueRecord.HandshakeGrant = true
is_shaking DialogueRecord.Response = true
is_shaking _ = false

abbrev pub said_shaking : ℕ → List Out → Bool
said_shaking p outs = has_said is_shaking (said_to p outs)

abbrev pub shakes : Event → ℕ → Bool
shakes e p = hands_to e p || shakes_with e p || responds_to e p

abbrev pub said_left_end : ℕ → List Out → Bool
said_left_end p outs = has_said is_left_end (said_to p outs)

-- an end that is said is said as Left or as LeftEnd
end_less : (rs : List DialogueRecord) → has_said is_left_record rs ≡ false → has_said is_left_end rs ≡ false
end_less [] h = refl
end_less (DialogueRecord.Left ∷ rs) h = absurd (cc (h))
end_less (DialogueRecord.LeftEnd ∷ rs) h = absurd (cc (h))
end_less (r ∷ rs) h = end_less rs h

abbrev pub tells_over : Move → Bool
tells_over m = out_tells is_over_told m.outs

-- ---- from d on to what a move makes of it; `branch`: the arc is one of the transaction at first; `fall`: the event rolls;
-- `up`: the arc leads to the superior

pub record IsTouched (p : ℕ) (branch fall up : Bool) (e : Event) (d : Digest) (m : Move) : Type 0 where
  pub touches : List Touch
  pub live : is_live_with_peer d.arcs p ≡ true
  pub made : (g : Dialogue → Bool) → part_at g p m.next.arcs ≡ part_at (λ x. g (run touches x)) p d.arcs
  pub fits : FitTouches e p up touches
  pub passing : some_touch is_passing touches ≡ true → (branch && (logs_ready_or_commit m.rec || fall)) ≡ true
  pub logged : branch ≡ true → logs_ready_or_commit m.rec ≡ true → some_touch is_passing touches ≡ true
  pub rolled : branch ≡ true → fall ≡ true → is_rolling (phase_of d) ≡ false → (is_rolling (phase_of m.next) || tells_rolled m) ≡ true → some_touch is_passing touches ≡ true
  pub ends_so : some_touch is_ending touches ≡ true → (branch && (is_unchanged e || tells_over m)) ≡ true
  pub ends : branch ≡ true → tells_over m ≡ true → some_touch is_ending touches ≡ true
  pub rests : some_touch is_resting touches ≡ said_left p m.outs
  pub begins : some_touch is_beginning touches ≡ said_begin p m.outs
  pub grants : grants_to e p ≡ false → some_touch is_ending touches ≡ false → said_grant p m.outs ≡ false
  pub words : shakes e p ≡ false → said_shaking p m.outs ≡ false
  pub open_end : said_left_end p m.outs ≡ false

abbrev pub Touched : ℕ → Bool → Bool → Bool → Event → Digest → Digest → Move → Type 0
Touched p branch fall up e s d m = IsLinked p d m × (d.superior ≡ s.superior → is_live_with_peer m.next.arcs p ≡ true → IsTouched p branch fall up e d m)

-- ---- chains

touched_then : (p : ℕ) (branch fall up : Bool) (e : Event) (s d : Digest) (a : Move) (f : Digest → Move) → Touched p branch fall up e s d a → Touched p branch fall up e s a.next (f a.next) → (a.rec ≡ None) ⊎ ((f a.next).rec ≡ None)
    → d.superior ≡ s.superior → is_live_with_peer (f a.next).next.arcs p ≡ true → IsTouched p branch fall up e d (followed a f)
touched_then p branch fall up e s d a f one two none above live = record {
  touches = x.touches ++ y.touches;
  live = x.live;
  made = made.1;
  fits = fit_more e p up x.touches y.touches x.fits y.fits;
  passing = λ h. passing (some_touch is_passing x.touches) refl (some_touch is_passing y.touches) refl (sym (some_more is_passing x.touches y.touches) ∙ h);
  logged = λ br l. some_more is_passing x.touches y.touches ∙ either (logs_ready_or_commit a.rec) (logs_ready_or_commit b.rec) _ _ (sym logs ∙ l) (λ i. x.logged br i) (λ i. y.logged br i);
  rolled = λ br fa off h. some_more is_passing x.touches y.touches ∙ rolls (is_rolling (phase_of a.next)) refl (tells_rolled a) refl br fa off (sym (ap (λ (v : Bool). is_rolling (phase_of b.next) || v) (told_append is_rolled_told a.outs b.outs)) ∙ h);
  ends_so = λ h. ending (some_touch is_ending x.touches) refl (some_touch is_ending y.touches) refl (sym (some_more is_ending x.touches y.touches) ∙ h);
  ends = λ br h. some_more is_ending x.touches y.touches ∙ either (tells_over a) (tells_over b) _ _ (sym over ∙ h) (λ i. x.ends br i) (λ i. y.ends br i);
  rests = some_more is_resting x.touches y.touches ∙ two_same x.rests y.rests ∙ sym (said_both is_left_record p a.outs b.outs);
  begins = some_more is_beginning x.touches y.touches ∙ two_same x.begins y.begins ∙ sym (said_both is_begin p a.outs b.outs);
  grants = λ g h. let k = or_parts _ _ (sym (some_more is_ending x.touches y.touches) ∙ h) in said_both is_grant_record p a.outs b.outs ∙ rw (x.grants g k.0, y.grants g k.1) refl;
  words = λ w. said_both is_shaking p a.outs b.outs ∙ rw (x.words w, y.words w) refl;
  open_end = said_both is_left_end p a.outs b.outs ∙ rw (x.open_end, y.open_end) refl;
}
  where
    b : Move
    b = f a.next

    x : IsTouched p branch fall up e d a
    x = one.1 above (live_back p a.next b two.0 live)

    y : IsTouched p branch fall up e a.next b
    y = two.1 (one.0.superior ∙ above) live

    made : (is_live_with_peer d.arcs p ≡ true) × ((g : Dialogue → Bool) → part_at g p b.next.arcs ≡ part_at (λ z. g (run (x.touches ++ y.touches) z)) p d.arcs)
    made = made_then p d.arcs a.next.arcs b.next.arcs x.touches y.touches (λ l. (x.live, x.made)) (λ l. (y.live, y.made)) live

    over : tells_over (followed a f) ≡ (tells_over a || tells_over b)
    over = told_append is_over_told a.outs b.outs

    logs : logs_ready_or_commit (followed a f).rec ≡ (logs_ready_or_commit a.rec || logs_ready_or_commit b.rec)
    logs = logs_joined a.rec b.rec none

    two_same : {u v w z : Bool} → u ≡ v → w ≡ z → (u || w) ≡ (v || z)
    two_same i j = rw (i, j) refl

    either : (u v w z : Bool) → (u || v) ≡ true → (u ≡ true → w ≡ true) → (v ≡ true → z ≡ true) → (w || z) ≡ true
    either true v w z h i j = let on = i refl in rw on refl
    either false v true z h i j = refl
    either false v false z h i j = j h

    rolls : (r : Bool) → is_rolling (phase_of a.next) ≡ r → (v : Bool) → tells_rolled a ≡ v → branch ≡ true → fall ≡ true → is_rolling (phase_of d) ≡ false → (is_rolling (phase_of b.next) || (v || tells_rolled b)) ≡ true → (some_touch is_passing x.touches || some_touch is_passing y.touches) ≡ true
    rolls true i v j br fa off h = let on : some_touch is_passing x.touches ≡ true = x.rolled br fa off (rw i refl) in rw on refl
    rolls false i true j br fa off h = let on : some_touch is_passing x.touches ≡ true = x.rolled br fa off (rw (i, j) refl) in rw on refl
    rolls false i false j br fa off h = or_right (some_touch is_passing x.touches) _ (y.rolled br fa i h)

    first : (u v w z : Bool) → (u && (v || z)) ≡ true → (u && ((v || w) || z)) ≡ true
    first u v w z h = grind (arith, h)

    second : (u v w z : Bool) → (u && (w || z)) ≡ true → (u && ((v || w) || z)) ≡ true
    second u v w z h = grind (arith, h)

    passing : (v : Bool) → some_touch is_passing x.touches ≡ v → (w : Bool) → some_touch is_passing y.touches ≡ w → (v || w) ≡ true → (branch && (logs_ready_or_commit (followed a f).rec || fall)) ≡ true
    passing true i w j h = ap (λ (z : Bool). branch && (z || fall)) logs ∙ first branch (logs_ready_or_commit a.rec) (logs_ready_or_commit b.rec) fall (x.passing i)
    passing false i w j h = ap (λ (z : Bool). branch && (z || fall)) logs ∙ second branch (logs_ready_or_commit a.rec) (logs_ready_or_commit b.rec) fall (y.passing (j ∙ h))

    before : (u v w z : Bool) → (u && (v || w)) ≡ true → (u && (v || (w || z))) ≡ true
    before u v w z h = grind (arith, h)

    behind : (u v w z : Bool) → (u && (v || z)) ≡ true → (u && (v || (w || z))) ≡ true
    behind u v w z h = grind (arith, h)

    ending : (v : Bool) → some_touch is_ending x.touches ≡ v → (w : Bool) → some_touch is_ending y.touches ≡ w → (v || w) ≡ true → (branch && (is_unchanged e || tells_over (followed a f))) ≡ true
    ending true i w j h = ap (λ (z : Bool). branch && (is_unchanged e || z)) over ∙ before branch (is_unchanged e) (tells_over a) (tells_over b) (x.ends_so i)
    ending false i w j h = ap (λ (z : Bool). branch && (is_unchanged e || z)) over ∙ behind branch (is_unchanged e) (tells_over a) (tells_over b) (y.ends_so (j ∙ h))

-- ---- changes that belong to no passage

-- a touch of a passage, of a rest, or of a Begin that is sent
abbrev pub is_marked : Touch → Bool
is_marked t = is_passing t || is_ending t || is_resting t || is_beginning t

some_less : (f k : Touch → Bool) → ((t : Touch) → f t ≡ true → k t ≡ true) → (ts : List Touch) → some_touch k ts ≡ false → some_touch f ts ≡ false
some_less f k less [] h = refl
some_less f k less (t ∷ ts) h = go (f t) refl (k t) refl (some_less f k less ts)
  where
    go : (b : Bool) → f t ≡ b → (c : Bool) → k t ≡ c → (some_touch k ts ≡ false → some_touch f ts ≡ false) → (b || some_touch f ts) ≡ false
    go true i c j rest = absurd (let on : k t ≡ true = less t i in let off : (k t || some_touch k ts) ≡ false = h in cc (rw on at off))
    go false i true j rest = absurd (let off : (k t || some_touch k ts) ≡ false = h in cc (rw j at off))
    go false i false j rest = let off : (k t || some_touch k ts) ≡ false = h in rest (rw j at off)

none_passing : (ts : List Touch) → some_touch is_marked ts ≡ false → some_touch is_passing ts ≡ false
none_passing = some_less is_passing is_marked (λ t h. grind (arith, h))

none_ending : (ts : List Touch) → some_touch is_marked ts ≡ false → some_touch is_ending ts ≡ false
none_ending = some_less is_ending is_marked (λ t h. grind (arith, h))

none_resting : (ts : List Touch) → some_touch is_marked ts ≡ false → some_touch is_resting ts ≡ false
none_resting = some_less is_resting is_marked (λ t h. grind (arith, h))

none_beginning : (ts : List Touch) → some_touch is_marked ts ≡ false → some_touch is_beginning ts ≡ false
none_beginning = some_less is_beginning is_marked (λ t h. grind (arith, h))

-- such a change first
pub touched_first_so : (p : ℕ) (branch fall up : Bool) (e : Event) (d g : Digest) (m : Move) (ts : List Touch) → IsMade p d.arcs g.arcs ts → FitTouches e p up ts → some_touch is_marked ts ≡ false → (is_rolling (phase_of d) ≡ false → is_rolling (phase_of g) ≡ false)
    → (x : IsTouched p branch fall up e g m) → (y : IsTouched p branch fall up e d m) × (y.touches ≡ ts ++ x.touches)
touched_first_so p branch fall up e d g m ts made fits plain calm x = (
  record {
    touches = ts ++ x.touches;
    live = (made x.live).0;
    made = λ k. x.made k ∙ (made x.live).1 (λ z. k (run x.touches z)) ∙ part_same (λ z. k (run x.touches (run ts z))) (λ z. k (run (ts ++ x.touches) z)) p d.arcs (λ z. ap k (sym (run_more ts x.touches z)));
    fits = fit_more e p up ts x.touches fits x.fits;
    passing = λ h. x.passing (sym (later is_passing (none_passing ts plain)) ∙ h);
    logged = λ br l. later is_passing (none_passing ts plain) ∙ x.logged br l;
    rolled = λ br fa off h. later is_passing (none_passing ts plain) ∙ x.rolled br fa (calm off) h;
    ends_so = λ h. x.ends_so (sym (later is_ending (none_ending ts plain)) ∙ h);
    ends = λ br h. later is_ending (none_ending ts plain) ∙ x.ends br h;
    rests = later is_resting (none_resting ts plain) ∙ x.rests;
    begins = later is_beginning (none_beginning ts plain) ∙ x.begins;
    grants = λ k h. x.grants k (sym (later is_ending (none_ending ts plain)) ∙ h);
    words = x.words;
    open_end = x.open_end;
  },
  refl,
)
  where
    later : (f : Touch → Bool) → some_touch f ts ≡ false → some_touch f (ts ++ x.touches) ≡ some_touch f x.touches
    later f h = some_more f ts x.touches ∙ rw h refl

touched_first : (p : ℕ) (branch fall up : Bool) (e : Event) (d g : Digest) (m : Move) (ts : List Touch) → IsMade p d.arcs g.arcs ts → FitTouches e p up ts → some_touch is_marked ts ≡ false → (is_rolling (phase_of d) ≡ false → is_rolling (phase_of g) ≡ false)
    → IsTouched p branch fall up e g m → IsTouched p branch fall up e d m
touched_first p branch fall up e d g m ts made fits plain calm x = (touched_first_so p branch fall up e d g m ts made fits plain calm x).0

-- such a change alone, and what is said beside it
record IsBare (p : ℕ) (e : Event) (d : Digest) (m : Move) : Type 0 where
  quiet : logs_ready_or_commit m.rec ≡ false
  phase : is_rolling (phase_of m.next) ≡ is_rolling (phase_of d)
  untold : tells_rolled m ≡ false
  open_yet : tells_over m ≡ false
  left : said_left p m.outs ≡ false
  grants : grants_to e p ≡ false → said_grant p m.outs ≡ false
  words : shakes e p ≡ false → said_shaking p m.outs ≡ false

touched_bare : (p : ℕ) (branch fall up : Bool) (e : Event) (d : Digest) (m : Move) (ts : List Touch) → IsMade p d.arcs m.next.arcs ts → FitTouches e p up ts → some_touch is_passing ts ≡ false → some_touch is_ending ts ≡ false → some_touch is_resting ts ≡ false → some_touch is_beginning ts ≡ said_begin p m.outs
    → IsBare p e d m → is_live_with_peer m.next.arcs p ≡ true → IsTouched p branch fall up e d m
touched_bare p branch fall up e d m ts made fits passing ending resting begins b live = record {
  touches = ts;
  live = (made live).0;
  made = (made live).1;
  fits = fits;
  passing = λ h. absurd (cc (h, passing));
  logged = λ br l. absurd (cc (l, b.quiet));
  rolled = λ br fa off h. absurd (let none : (is_rolling (phase_of m.next) || tells_rolled m) ≡ false = rw (b.phase, off, b.untold) refl in cc (h, none));
  ends_so = λ h. absurd (cc (h, ending));
  ends = λ br h. absurd (cc (h, b.open_yet));
  rests = resting ∙ sym b.left;
  begins = begins;
  grants = λ k h. b.grants k;
  words = b.words;
  open_end = end_less (said_to p m.outs) b.left;
}

-- ---- outputs outside transactions

ungiven : (e : Event) (p : ℕ) → grants_to e p ≡ false → (r : DialogueRecord) → is_said e (TxOut.Carry p r) ≡ true → is_grant_record r ≡ false
ungiven e p off DialogueRecord.Grant h = absurd (cc (h, off))
ungiven e p off r h = refl

unshaken : (e : Event) (p : ℕ) → shakes e p ≡ false → (r : DialogueRecord) → is_said e (TxOut.Carry p r) ≡ true → is_shaking r ≡ false
unshaken e p h1 r h2 = grind arith

no_left_word : (r : DialogueRecord) → is_word r ≡ false → is_left_record r ≡ false
no_left_word DialogueRecord.Left h = absurd (cc (h))
no_left_word DialogueRecord.LeftEnd h = absurd (cc (h))
no_left_word r h = refl

no_begin_word : (r : DialogueRecord) → is_word r ≡ false → is_begin r ≡ false
no_begin_word (DialogueRecord.Begin t b k) h = absurd (cc (h))
no_begin_word r h = refl

touched_spoken : (p : ℕ) (branch fall up : Bool) (e : Event) (d : Digest) (outs : List TxOut) (m : Move) → m.next.arcs ≡ (performed d.arcs outs).0 → m.outs ≡ (performed d.arcs outs).1 → m.next.current ≡ d.current → logs_ready_or_commit m.rec ≡ false → are_spoken outs ≡ true
    → (grants_to e p ≡ false → said_grant p (performed d.arcs outs).1 ≡ false) → (shakes e p ≡ false → said_shaking p (performed d.arcs outs).1 ≡ false) → is_live_with_peer m.next.arcs p ≡ true → IsTouched p branch fall up e d m
touched_spoken p branch fall up e d outs m arcs says now quiet spoken given shaken =
    touched_bare p branch fall up e d m [] (subst (λ (xs : List Arc). IsMade p d.arcs xs []) (sym arcs) (made_performed p d.arcs outs)) tt refl refl refl
    (sym (ap (said_begin p) says ∙ said_none is_begin p d.arcs outs (spoken_none is_begin no_begin_word outs spoken)))
    (record {
      quiet = quiet;
      phase = ap (λ (o : Option Current). is_rolling (elim o as (λ _. Phase) [ None ↦ Phase.Nil | Some c ↦ c.phase ])) now;
      untold = ap (out_tells is_rolled_told) says ∙ told_performed is_rolled_told d.arcs outs ∙ spoken_untold is_rolled_told (λ i h. grind (arith, h)) outs spoken;
      open_yet = ap (out_tells is_over_told) says ∙ told_performed is_over_told d.arcs outs ∙ spoken_untold is_over_told (λ i h. grind (arith, h)) outs spoken;
      left = ap (said_left p) says ∙ said_none is_left_record p d.arcs outs (spoken_none is_left_record no_left_word outs spoken);
      grants = λ k. ap (said_grant p) says ∙ given k;
      words = λ k. ap (said_shaking p) says ∙ shaken k;
    })

-- ---- a transaction begins on an arc

touched_begins : (who : Who) (p : ℕ) (branch fall up : Bool) (e : Event) (q : ℕ) (d : Digest) → is_superior d p ≡ up → is_live_with_peer (begin_on who q d).next.arcs p ≡ true → IsTouched p branch fall up e d (begin_on who q d)
touched_begins who p branch fall up e q d side =
    begins_so (λ m. is_live_with_peer m.next.arcs p ≡ true → IsTouched p branch fall up e d m) who q d
    (touched_bare p branch fall up e d (move [] d) [] (made_keeps p d.arcs d.arcs (λ g l. (l, refl))) tt refl refl refl refl (record { quiet = refl; phase = refl; untold = refl; open_yet = refl; left = refl; grants = λ k. refl; words = λ k. refl }))
    (λ c now a found may. on c now a found may)
  where
    on : (c : Current) → d.current ≡ Some c → (a : Arc) → find_arc d.arcs q ≡ Some a → not (may_begin_on who d a) ≡ false → is_live_with_peer (begun_over who q d c a).next.arcs p ≡ true → IsTouched p branch fall up e d (begun_over who q d c a)
    on c i a found may live =
        touched_bare p branch fall up e d (begun_over who q d c a) ts
        (made_after p d.arcs xs (performed xs outs).0 ts (made_dialogue p d.arcs q (begun_by h Side.Superior) (Beginning h) (λ x. refl)) (made_performed p xs outs))
        (fits (q == p) refl) (plain is_passing refl (q == p)) (plain is_ending refl (q == p)) (plain is_resting refl (q == p))
        (begins (q == p) refl)
        (record {
          quiet = refl;
          phase = rolling_left t ∙ sym was;
          untold = told_performed is_rolled_told xs outs;
          open_yet = told_performed is_over_told xs outs;
          left = said_none is_left_record p xs outs refl;
          grants = λ k. said_none is_grant_record p xs outs refl;
          words = λ k. said_none is_shaking p xs outs refl;
        })
        live
      where
        h : Holder
        h = named_holder a.dialogue

        r : DialogueRecord
        r = begin_word who d c a

        xs : List Arc
        xs = begin_arcs q d a

        outs : List TxOut
        outs = TxOut.Carry q r ∷ []

        ts : List Touch
        ts = if q == p then Beginning h ∷ [] else []

        t : Transaction
        t = (transacted (TxEvent.Begun (next_child who d a ∷ [])) (seen who d.arcs c)).next

        was : is_rolling (phase_of d) ≡ is_rolling c.phase
        was = ap (λ (o : Option Current). is_rolling (elim o as (λ _. Phase) [ None ↦ Phase.Nil | Some x ↦ x.phase ])) i

        below : (q == p) ≡ true → up ≡ false
        below i =
            let at : q ≡ p = grind (arith, nat_tests, i) in
            let off : is_superior d a.peer.node ≡ false = grind (arith, may) in
            sym side ∙ ap (is_superior d) (sym at ∙ sym (find_arc_is d.arcs q a found)) ∙ off

        fits : (b : Bool) → (q == p) ≡ b → FitTouches e p up (if b then Beginning h ∷ [] else [])
        fits true i = (below i, tt)
        fits false i = tt

        plain : (f : Touch → Bool) → f (Beginning h) ≡ false → (b : Bool) → some_touch f (if b then Beginning h ∷ [] else []) ≡ false
        plain f off true = rw off refl
        plain f off false = refl

        live_first : is_live_with_peer xs p ≡ true
        live_first = (keeps_performed (λ x. true) p xs outs live).0

        begins : (b : Bool) → (q == p) ≡ b → some_touch is_beginning (if b then Beginning h ∷ [] else []) ≡ said_begin p (performed xs outs).1
        begins true j =
            let at : q ≡ p = grind (arith, nat_tests, j) in
            let there : is_live_with_peer xs q ≡ true = ap (is_live_with_peer xs) at ∙ live_first in
            sym (said_both is_begin p (carried xs q r).1 [] ∙ rw (said_carried p xs q r, j, there) refl)
        begins false j = sym (said_both is_begin p (carried xs q r).1 [] ∙ rw (said_carried p xs q r, j) refl)

-- ---- turns

-- what the event of the node says of its transaction
-- where it leaves, its superior is that of the node
abbrev pub IsLed : Digest → ℕ → Type 0
IsLed s p = (c : Current) → s.current ≡ Some c → is_active c.phase ≡ true → is_under_at c.key p ≡ true → is_superior s p ≡ true

pub record IsGiven (who : Who) (e : Event) (s : Digest) (p : ℕ) (fall : Bool) : Type 0 where
  pub early : fall ≡ true → (c : Current) → s.current ≡ Some c → is_early c.phase ≡ true
  pub stays : fall ≡ true → is_unchanged e ≡ false
  pub led : IsLed s p
  pub falls_so : (c : Current) (f : TxEvent) (arcs : List Arc) → s.current ≡ Some c → IsAsked e c f → falls f (seen who arcs c) ≡ true → fall ≡ true

-- the arc is one of what is current
abbrev pub is_arc_in : Option Current → ℕ → Bool
is_arc_in o p = elim o [ None ↦ false | Some c ↦ is_peer c p ]

some_when : (f : Touch → Bool) (b : Bool) (ts : List Touch) → some_touch f (when b ts) ≡ (b && some_touch f ts)
some_when f true ts = refl
some_when f false ts = refl

passing_passage : (w : Passage) → some_touch is_passing (passing_by w) ≡ clears w
passing_passage Stays = refl
passing_passage _ = refl

passing_marks : (w : Passage) → (some_touch is_ending (passing_by w) ≡ false) × (some_touch is_resting (passing_by w) ≡ false) × (some_touch is_beginning (passing_by w) ≡ false)
passing_marks Stays = (refl, refl, refl)
passing_marks _ = (refl, refl, refl)

ending_passage : (d : Digest) (t : Transaction) (p : ℕ) (w : Passage) (asks : Turn) (arcs : List Arc) → (w ≡ Leaves → ⊥) → some_touch is_ending (ending_by d t p w asks arcs) ≡ is_over w
ending_passage d t p Leaves asks arcs other = absurd (other refl)
ending_passage d t p _ asks arcs other = refl

ending_marks : (d : Digest) (t : Transaction) (p : ℕ) (w : Passage) (asks : Turn) (arcs : List Arc) → (some_touch is_passing (ending_by d t p w asks arcs) ≡ false) × (some_touch is_resting (ending_by d t p w asks arcs) ≡ false) × (some_touch is_beginning (ending_by d t p w asks arcs) ≡ false)
ending_marks d t p Stays asks arcs = (refl, refl, refl)
ending_marks d t p _ asks arcs = (refl, refl, refl)

passing_fits : (e : Event) (p : ℕ) (up b : Bool) (w : Passage) → FitTouches e p up (when b (passing_by w))
passing_fits e p up b w = grind arith

ending_fits : (e : Event) (p : ℕ) (up b : Bool) (d : Digest) (t : Transaction) (w : Passage) (asks : Turn) (arcs : List Arc) → is_superior d p ≡ up → FitTouches e p up (when b (ending_by d t p w asks arcs))
ending_fits e p up b d t w asks arcs is = grind arith

foreign_left : IsForeign is_left_record
foreign_left DialogueRecord.Left h = absurd (cc (h))
foreign_left DialogueRecord.LeftEnd h = absurd (cc (h))
foreign_left r h = refl

foreign_begin : IsForeign is_begin
foreign_begin (DialogueRecord.Begin t b k) h = absurd (cc (h))
foreign_begin r h = refl

foreign_grant : IsForeign is_grant_record
foreign_grant DialogueRecord.Grant h = absurd (cc (h))
foreign_grant r h = refl

foreign_shaking : IsForeign is_shaking
foreign_shaking DialogueRecord.Handshake h = absurd (cc (h))
foreign_shaking DialogueRecord.HandshakeGrant h = absurd (cc (h))
foreign_shaking DialogueRecord.Response h = absurd (cc (h))
foreign_shaking r h = refl

plain_turned : (who : Who) (p : ℕ) (branch fall up : Bool) (e : Event) (s d : Digest) (c : Current) (f : TxEvent) → IsGiven who e s p fall → s.current ≡ Some c → is_arc_in s.current p ≡ branch → is_superior d p ≡ up → IsAsked e c f → IsPut f (seen who d.arcs c) → is_leaving f ≡ false
    → is_live_with_peer (turned who f d c).next.arcs p ≡ true → IsTouched p branch fall up e d (turned who f d c)
plain_turned who p branch fall up e s d c f given at branch_is side asked put off live = record {
  touches = ts ++ us;
  live = made.0;
  made = made.1;
  fits = fit_more e p up ts us (passing_fits e p up branch w) (ending_fits e p up branch d t w a xs side);
  passing = λ h. let k = and_parts branch (clears w) (sym passes ∙ h) in cause k.0 (why k.1 (every_turn f t (IsShown f t) (shown_turns f t) put (clears_early t.phase a.next.phase (plain k.1)).0));
  logged = λ b l. passes ∙ rw (b, clear (logs_clear t a.next a.rec l (passed_turn f t put).logs)) refl;
  rolled = λ b fa nr h. passes ∙ rw (b, clear (clears_down c.phase a.next.phase (given.early fa c at) (ends (is_rolling (phase_of m.next)) (tells_rolled m) h (λ i. sym (rolling_left a.next) ∙ i) (λ i. (staged_turn f t put).ended (sym told ∙ i))))) refl;
  ends_so = λ h. let k = and_parts branch (is_over w) (sym finishes ∙ h) in rw (k.0, over ∙ sym over_w ∙ k.1) (or-true (is_unchanged e));
  ends = λ b h. finishes ∙ rw (b, over_w ∙ sym over ∙ h) refl;
  rests = some_more is_resting ts us ∙ rw (some_when is_resting branch (passing_by w), (passing_marks w).1, some_when is_resting branch (ending_by d t p w a xs), (ending_marks d t p w a xs).1) (nothing branch) ∙ sym (said_played is_left_record refl d t w a (whole_turn f t) xs p (none_narrow is_left_record foreign_left a.outs outs));
  begins = some_more is_beginning ts us ∙ rw (some_when is_beginning branch (passing_by w), (passing_marks w).2, some_when is_beginning branch (ending_by d t p w a xs), (ending_marks d t p w a xs).2) (nothing branch) ∙ sym (said_played is_begin refl d t w a (whole_turn f t) xs p (none_narrow is_begin foreign_begin a.outs outs));
  grants = λ g h. granted branch refl (is_over w) refl (sym finishes ∙ h);
  words = λ k. said_played is_shaking refl d t w a (whole_turn f t) xs p (none_narrow is_shaking foreign_shaking a.outs outs);
  open_end = end_less (said_to p m.outs) (said_played is_left_record refl d t w a (whole_turn f t) xs p (none_narrow is_left_record foreign_left a.outs outs));
}
  where
    t : Transaction
    t = seen who d.arcs c

    a : Turn
    a = transacted f t

    w : Passage
    w = passage (is_leaving f) t.phase a.next.phase

    xs : List Arc
    xs = entered t w d.arcs

    m : Move
    m = turned who f d c

    ts : List Touch
    ts = when branch (passing_by w)

    us : List Touch
    us = when branch (ending_by d t p w a xs)

    never : w ≡ Leaves → ⊥
    never h = no_leaving t.phase a.next.phase (ap (λ (b : Bool). passage b t.phase a.next.phase) (sym off) ∙ h)

    outs : carries_none is_foreign a.outs ≡ true
    outs = foreign_turn f t off put

    arc_is : (is_under_at c.key p || row_holds t.rows p (λ b. true)) ≡ branch
    arc_is = ap (λ (v : Bool). is_under_at c.key p || v) (seen_branch d.arcs c.branches p) ∙ ap (λ (o : Option Current). is_arc_in o p) (sym at) ∙ branch_is

    all : (x : Arc) → x.peer.node ≡ p → is_arc_of t x ≡ branch
    all x i = ap (λ (n : ℕ). is_under_at c.key n || row_holds t.rows n (λ b. true)) i ∙ arc_is

    made : (is_live_with_peer d.arcs p ≡ true) × ((g : Dialogue → Bool) → part_at g p m.next.arcs ≡ part_at (λ z. g (run (ts ++ us) z)) p d.arcs)
    made = made_then p d.arcs xs m.next.arcs ts us (made_entered p t w d.arcs branch all) (made_played p d t w a xs branch all never) live

    told : tells_rolled m ≡ asks_tell is_rolled_told a.outs
    told = told_played is_rolled_told d t w a (whole_turn f t) xs

    over : tells_over m ≡ is_nil a.next.phase
    over = told_played is_over_told d t w a (whole_turn f t) xs ∙ sym (over_turn f t put off)

    over_w : is_over w ≡ is_nil a.next.phase
    over_w = ap (λ (b : Bool). is_over (passage b t.phase a.next.phase)) off ∙ over_is t.phase a.next.phase put.late

    flat : (x b : Bool) → (x || b && false) ≡ x
    flat x b = grind arith

    less : (x b : Bool) → (b && false || x) ≡ x
    less x b = grind arith

    nothing : (b : Bool) → (b && false || b && false) ≡ false
    nothing b = grind arith

    passes : some_touch is_passing (ts ++ us) ≡ (branch && clears w)
    passes = some_more is_passing ts us ∙ rw (some_when is_passing branch (passing_by w), passing_passage w, some_when is_passing branch (ending_by d t p w a xs), (ending_marks d t p w a xs).0) (flat (branch && clears w) branch)

    finishes : some_touch is_ending (ts ++ us) ≡ (branch && is_over w)
    finishes = some_more is_ending ts us ∙ rw (some_when is_ending branch (passing_by w), (passing_marks w).0, some_when is_ending branch (ending_by d t p w a xs), ending_passage d t p w a xs never) (less (branch && is_over w) branch)

    clear : clears (passage false t.phase a.next.phase) ≡ true → clears w ≡ true
    clear h = ap (λ (b : Bool). clears (passage b t.phase a.next.phase)) off ∙ h

    plain : clears w ≡ true → clears (passage false t.phase a.next.phase) ≡ true
    plain h = ap (λ (b : Bool). clears (passage b t.phase a.next.phase)) (sym off) ∙ h

    ends : (x y : Bool) → (x || y) ≡ true → (x ≡ true → is_rolling a.next.phase ≡ true) → (y ≡ true → is_nil a.next.phase ≡ true) → (is_rolling a.next.phase || is_nil a.next.phase) ≡ true
    ends true y h i j = let on = i refl in rw on refl
    ends false y h i j = let on = j h in rw on (or-true (is_rolling a.next.phase))

    cause : branch ≡ true → (logs_ready_or_commit a.rec || fall) ≡ true → (branch && (logs_ready_or_commit m.rec || fall)) ≡ true
    cause b h = rw (b, h) refl

    fell : (x y z : Bool) → (x || y || z) ≡ true → z ≡ false → (y ≡ true → fall ≡ true) → (x || fall) ≡ true
    fell true y z h i j = refl
    fell false true z h i j = j refl
    fell false false z h i j = absurd (cc (h, i))

    why : clears w ≡ true → (a.next.phase ≡ t.phase) ⊎ ((logs_ready_or_commit a.rec || falls f t || is_leaving f) ≡ true) → (logs_ready_or_commit a.rec || fall) ≡ true
    why h (inl i) = absurd ((clears_early t.phase a.next.phase (plain h)).1 i)
    why h (inr k) = fell (logs_ready_or_commit a.rec) (falls f t) (is_leaving f) k off (λ i. given.falls_so c f d.arcs at asked i)

    none : branch ≡ false → (x : Arc) → x.peer.node ≡ p → is_granting t x ≡ false
    none b x i = let no : is_arc_of t x ≡ false = all x i ∙ b in not_granting (is_under_at t.key x.peer.node) (row_holds t.rows x.peer.node (λ b. true)) (is_live x.link) (is_unchained x.dialogue) (is_grant_deferred x.dialogue.deferral) no
      where
        not_granting : (u v y z k : Bool) → (u || v) ≡ false → ((not u && v) && y && z && k) ≡ false
        not_granting u v y z k h = grind (arith, h)

    granted : (b : Bool) → branch ≡ b → (o : Bool) → is_over w ≡ o → (branch && is_over w) ≡ false → said_grant p m.outs ≡ false
    granted false i o j h = granted_played d t w a (whole_turn f t) xs p (none i) (none_narrow is_grant_record foreign_grant a.outs outs)
    granted true i false j h = ungranted_played d t w a xs p (λ k. let on : is_over w ≡ true = ap is_over k in cc (on, j)) (none_narrow is_grant_record foreign_grant a.outs outs)
    granted true i true j h = absurd (let on : (branch && is_over w) ≡ true = rw (i, j) refl in cc (on, h))

-- ---- the leaver: Left goes to the superior, whose arc rests; the arcs below are as after a completion

leaving_turned : (who : Who) (p : ℕ) (branch fall up : Bool) (e : Event) (s d : Digest) (c : Current) → IsGiven who e s p fall → is_peer c p ≡ branch → (is_under_at c.key p ≡ true → up ≡ true) → is_active c.phase ≡ true → is_unchanged e ≡ true
    → is_live_with_peer (turned who (TxEvent.User Request.Unchanged) d c).next.arcs p ≡ true → IsTouched p branch fall up e d (turned who (TxEvent.User Request.Unchanged) d c)
unfolding leave entered played
leaving_turned who p branch fall up e s d c given branch_is led act is = go c.key c.phase branch_is led act
  where
    f : TxEvent
    f = TxEvent.User Request.Unchanged

    at_key : Key → Current
    at_key k = record c { key = k; phase = Phase.Active }

    at : Key → Transaction
    at k = seen who d.arcs (at_key k)

    below : Key → Bool
    below k = not (is_under_at k p) && row_holds (seen_rows d.arcs c.branches) p (λ b. true)

    ts : Key → List Touch
    ts k = when (below k) (Ending Outcome.Rollback Side.Superior false ∷ []) ++ when (is_under_at k p) (Resting ∷ [])

    made_at : (k : Key) (outs : List TxOut) → IsMade p d.arcs (left_arcs (at k) (performed d.arcs outs).0) (ts k)
    made_at k outs =
        let xs : List Arc = (performed d.arcs outs).0 in
        made_then p d.arcs xs (left_arcs (at k) xs) [] (ts k) (made_performed p d.arcs outs)
        (made_left p (at k) xs (below k) (is_under_at k p) (λ a i. ap (λ (n : ℕ). not (is_under_at k n) && row_holds (seen_rows d.arcs c.branches) n (λ b. true)) i) refl)

    live_left : (k : Key) (xs : List Arc) → is_live_with_peer (left_arcs (at k) xs) p ≡ is_live_with_peer xs p
    live_left k xs = ap is_live (link_left (at k) xs p)

    IsPair : Key → List TxOut → Type 0
    IsPair k outs = is_live_with_peer (left_arcs (at k) (performed d.arcs outs).0) p ≡ true → (is_under_at k p ≡ said_left p (performed d.arcs outs).1) × (said_left_end p (performed d.arcs outs).1 ≡ false)

    dead : (k : Key) (outs : List TxOut) → is_live_with_peer (performed d.arcs outs).0 p ≡ false → IsPair k outs
    dead k outs off live = absurd (let on : is_live_with_peer (performed d.arcs outs).0 p ≡ true = sym (live_left k (performed d.arcs outs).0) ∙ live in cc (on, off))

    on : (u : Aaid) (b : BranchId) (s : Addr) → (v : Bool) → (s.node == p) ≡ v → (x y : Bool) → is_live_with_peer d.arcs s.node ≡ y → IsPair (Under u b s) (says_of x y s.node)
    on u b s true i true true j live = dead (Under u b s) (says_of true true s.node) (gone p (carried d.arcs s.node DialogueRecord.LeftEnd).0 s.node i) live
    on u b s true i true false j live = dead (Under u b s) (says_of true false s.node) (gone p d.arcs s.node i) live
    on u b s true i false true j live = (i ∙ sym (said_both is_left_record p (carried d.arcs s.node DialogueRecord.Left).1 [] ∙ rw (said_carried p d.arcs s.node DialogueRecord.Left, i, j) refl), said_none is_left_end p d.arcs (says_of false true s.node) refl)
    on u b s true i false false j live =
        let at : s.node ≡ p = grind (arith, nat_tests, i) in
        absurd (let on : is_live_with_peer d.arcs p ≡ true = sym (live_left (Under u b s) d.arcs) ∙ live in let off : is_live_with_peer d.arcs p ≡ false = ap (is_live_with_peer d.arcs) (sym at) ∙ j in cc (on, off))
    on u b s false i x y j live = let none : said_left p (performed d.arcs (says_of x y s.node)).1 ≡ false = none_there x y in (i ∙ sym none, end_less (said_to p (performed d.arcs (says_of x y s.node)).1) none)
      where
        none_there : (x y : Bool) → said_left p (performed d.arcs (says_of x y s.node)).1 ≡ false
        none_there true true = said_both is_left_record p (carried d.arcs s.node DialogueRecord.LeftEnd).1 [] ∙ rw (said_carried p d.arcs s.node DialogueRecord.LeftEnd, i) refl
        none_there true false = refl
        none_there false true = said_both is_left_record p (carried d.arcs s.node DialogueRecord.Left).1 [] ∙ rw (said_carried p d.arcs s.node DialogueRecord.Left, i) refl
        none_there false false = refl

    none_of : (x y : Bool) (n : ℕ) (g : DialogueRecord → Bool) → g DialogueRecord.Left ≡ false → g DialogueRecord.LeftEnd ≡ false → carries_none g (says_of x y n) ≡ true
    none_of true true n g i j = rw j refl
    none_of true false n g i j = refl
    none_of false true n g i j = rw i refl
    none_of false false n g i j = refl

    untold : (x y : Bool) (n : ℕ) (g : Indication → Bool) → asks_tell g (says_of x y n) ≡ false
    untold true true n g = refl
    untold true false n g = refl
    untold false true n g = refl
    untold false false n g = refl

    whole : (k : Key) (outs : List TxOut) → is_peer (at_key k) p ≡ branch → (is_under_at k p ≡ true → up ≡ true) → (turned who f d (at_key k)).next.arcs ≡ left_arcs (at k) (performed d.arcs outs).0 → (turned who f d (at_key k)).outs ≡ (performed d.arcs outs).1
        → logs_ready_or_commit (turned who f d (at_key k)).rec ≡ false → ((g : DialogueRecord → Bool) → g DialogueRecord.Left ≡ false → g DialogueRecord.LeftEnd ≡ false → carries_none g outs ≡ true) → ((g : Indication → Bool) → asks_tell g outs ≡ false)
        → IsPair k outs → is_live_with_peer (turned who f d (at_key k)).next.arcs p ≡ true → IsTouched p branch fall up e d (turned who f d (at_key k))
    whole k outs peer led arcs says quiet none told pair live =
        let l : is_live_with_peer (left_arcs (at k) (performed d.arcs outs).0) p ≡ true = ap (λ (xs : List Arc). is_live_with_peer xs p) (sym arcs) ∙ live in
        record {
          touches = ts k;
          live = (made_at k outs l).0;
          made = λ g. ap (part_at g p) arcs ∙ (made_at k outs l).1 g;
          fits = fits (below k) (is_under_at k p) led;
          passing = λ h. absurd (let no : some_touch is_passing (ts k) ≡ false = flat is_passing refl refl (below k) (is_under_at k p) in cc (h, no));
          logged = λ b l. absurd (cc (l, quiet));
          rolled = λ b fa nr h. absurd (let no : is_unchanged e ≡ false = given.stays fa in cc (is, no));
          ends_so = λ h. rw (one (is_under_at k p) (row_holds (seen_rows d.arcs c.branches) p (λ b. true)) (has_branch_at c.branches p) (seen_branch d.arcs c.branches p) (sym (ends (below k) (is_under_at k p)) ∙ h) peer, is) refl;
          ends = λ b h. absurd (let no : tells_over (turned who f d (at_key k)) ≡ false = ap (out_tells is_over_told) says ∙ told_performed is_over_told d.arcs outs ∙ told is_over_told in cc (h, no));
          rests = rests (below k) (is_under_at k p) ∙ (pair l).0 ∙ ap (said_left p) (sym says);
          open_end = ap (said_left_end p) says ∙ (pair l).1;
          begins = flat is_beginning refl refl (below k) (is_under_at k p) ∙ sym (ap (said_begin p) says ∙ said_none is_begin p d.arcs outs (none is_begin refl refl));
          grants = λ g h. ap (said_grant p) says ∙ said_none is_grant_record p d.arcs outs (none is_grant_record refl refl);
          words = λ h. ap (said_shaking p) says ∙ said_none is_shaking p d.arcs outs (none is_shaking refl refl);
        }
      where
        fits : (u v : Bool) → (v ≡ true → up ≡ true) → FitTouches e p up (when u (Ending Outcome.Rollback Side.Superior false ∷ []) ++ when v (Resting ∷ []))
        fits true true l = (λ h. refl, ((is, l refl), tt))
        fits true false l = (λ h. refl, tt)
        fits false true l = ((is, l refl), tt)
        fits false false l = tt

        flat : (g : Touch → Bool) → g (Ending Outcome.Rollback Side.Superior false) ≡ false → g Resting ≡ false → (u v : Bool) → some_touch g (when u (Ending Outcome.Rollback Side.Superior false ∷ []) ++ when v (Resting ∷ [])) ≡ false
        flat g i j true true = rw (i, j) refl
        flat g i j true false = rw i refl
        flat g i j false true = rw j refl
        flat g i j false false = refl

        ends : (u v : Bool) → some_touch is_ending (when u (Ending Outcome.Rollback Side.Superior false ∷ []) ++ when v (Resting ∷ [])) ≡ u
        ends true v = refl
        ends false true = refl
        ends false false = refl

        rests : (u v : Bool) → some_touch is_resting (when u (Ending Outcome.Rollback Side.Superior false ∷ []) ++ when v (Resting ∷ [])) ≡ v
        rests true true = refl
        rests true false = refl
        rests false true = refl
        rests false false = refl

        one : (u v w : Bool) → v ≡ w → (not u && v) ≡ true → (u || w) ≡ branch → branch ≡ true
        one true v w i h j = absurd (cc (h))
        one false v w i h j = sym j ∙ sym i ∙ h

    go : (k : Key) (q : Phase) → is_peer (record c { key = k; phase = q }) p ≡ branch → (is_under_at k p ≡ true → up ≡ true) → is_active q ≡ true → is_live_with_peer (turned who f d (record c { key = k; phase = q })).next.arcs p ≡ true → IsTouched p branch fall up e d (turned who f d (record c { key = k; phase = q }))
    go (Root u) Phase.Active b l a = whole (Root u) [] b l refl refl refl (λ g i j. refl) (λ g. refl) (λ live. (refl, refl))
    go (Under u b s) Phase.Active br l a =
        let x : Bool = is_end_deferred_at d.arcs s.node in
        let y : Bool = is_live_with_peer d.arcs s.node in
        whole (Under u b s) (says_of x y s.node) br l refl refl refl (none_of x y s.node) (untold x y s.node) (on u b s (s.node == p) refl x y refl)
    go k q b l a = absurd (cc (a))

touched_turned : (who : Who) (p : ℕ) (branch fall up : Bool) (e : Event) (s d : Digest) (c : Current) (f : TxEvent) → IsGiven who e s p fall → s.current ≡ Some c → is_arc_in s.current p ≡ branch → is_superior s p ≡ up → is_superior d p ≡ up → IsAsked e c f → IsPut f (seen who d.arcs c)
    → is_live_with_peer (turned who f d c).next.arcs p ≡ true → IsTouched p branch fall up e d (turned who f d c)
touched_turned who p branch fall up e s d c f given at branch_is first side asked put = go (is_leaving f) refl
  where
    go : (b : Bool) → is_leaving f ≡ b → is_live_with_peer (turned who f d c).next.arcs p ≡ true → IsTouched p branch fall up e d (turned who f d c)
    go true i =
        let same : f ≡ TxEvent.User Request.Unchanged = leaving_is f i in
        let again : IsPut (TxEvent.User Request.Unchanged) (seen who d.arcs c) = subst (λ (g : TxEvent). IsPut g (seen who d.arcs c)) same put in
        let act : is_active c.phase ≡ true = active_put (seen who d.arcs c) (again.ok refl) again.late in
        subst (λ (g : TxEvent). is_live_with_peer (turned who g d c).next.arcs p ≡ true → IsTouched p branch fall up e d (turned who g d c)) (sym same)
        (leaving_turned who p branch fall up e s d c given (ap (λ (o : Option Current). is_arc_in o p) (sym at) ∙ branch_is) (λ h. sym first ∙ given.led c at act h) act (leaves_so e c f asked i))
    go false i = plain_turned who p branch fall up e s d c f given at branch_is side asked put i

-- ---- the steps

pub touched_moves : (who : Who) (p : ℕ) (fall : Bool) (e : Event) (s : Digest) → IsGiven who e s p fall → Moves who e s (Touched p (is_arc_in s.current p) fall (is_superior s p) e s)
touched_moves who p fall e s given = record {
  still = λ d. (link.still d, λ above live. touched_bare p branch fall up e d (move [] d) [] (made_keeps p d.arcs d.arcs (λ g l. (l, refl))) tt refl refl refl refl (record { quiet = refl; phase = refl; untold = refl; open_yet = refl; left = refl; grants = λ k. refl; words = λ k. refl }) live);
  chain = λ d a f one two none. (link.chain d a f one.0 two.0 none, touched_then p branch fall up e s d a f one two none);
  speaks = λ d outs h own so. (
    link.speaks d outs h own so,
    λ above. touched_spoken p branch fall up e d outs (perform outs d) refl refl refl refl h (λ g. said_none_to is_grant_record p d.arcs outs (said_not e is_grant_record p (λ r word. ungiven e p g r) outs h so)) (λ w. said_none_to is_shaking p d.arcs outs (said_not e is_shaking p (λ r word. unshaken e p w r) outs h so)),
  );
  changes_dialogue = λ d q f m by one. (
    link.changes_dialogue d q f m by one.0,
    λ above live.
        let x = touch_of e d q f up by in
        let g : Digest = record d { arcs = with_dialogue d.arcs q f } in
        touched_first p branch fall up e d g m (if q == p then x.0 ∷ [] else []) (made_dialogue p d.arcs q f x.0 x.2) (fitting q (q == p) refl x.0 x.1) (unmarked (q == p) x.0 x.3) (λ h. h) (one.1 above live),
  );
  drops_arc = λ d q m at one. (
    link.drops_arc d q m at one.0,
    λ above live. touched_first p branch fall up e d (record d { arcs = without_arc d.arcs q }) m [] (made_without p d.arcs q) tt refl (λ h. h) (one.1 above live),
  );
  notes_kept = λ d ks m held one. (link.notes_kept d ks m held one.0, λ above live. touched_first p branch fall up e d (record d { kept = ks }) m [] (made_keeps p d.arcs d.arcs (λ g l. (l, refl))) tt refl (λ h. h) (one.1 above live));
  keeps = λ d k f held. (
    link.keeps d k f held,
    λ above. touched_spoken p branch fall up e d (settled k f).outs (keep (settled k f) d) refl refl refl (quiet_settled k f) (settled_spoken k f) (λ g. said_none is_grant_record p d.arcs (settled k f).outs (none_narrow is_grant_record foreign_grant (settled k f).outs (foreign_settled k f))) (λ w. said_none is_shaking p d.arcs (settled k f).outs (none_narrow is_shaking foreign_shaking (settled k f).outs (foreign_settled k f))),
  );
  turns = λ d c f now at asked put gone. (link.turns d c f now at asked put gone, λ above. touched_turned who p branch fall up e s d c f given at refl refl (side d above) asked put);
  begins = λ d q may. (link.begins d q may, λ above. touched_begins who p branch fall up e q d (side d above));
  roots = λ d m nil may one. (link.roots d m nil may one.0, λ above live. touched_first p branch fall up e d _ m [] (made_keeps p d.arcs d.arcs (λ g l. (l, refl))) tt refl (λ h. refl) (one.1 above live));
}
  where
    link : Moves who e s (IsLinked p)
    link = linked_moves who e s p

    branch : Bool
    branch = is_arc_in s.current p

    up : Bool
    up = is_superior s p

    side : (d : Digest) → d.superior ≡ s.superior → is_superior d p ≡ up
    side d above = ap (λ (o : Option Addr). elim o as (λ _. Bool) [ None ↦ false | Some a ↦ a.node == p ]) above

    fitting : (q : ℕ) (b : Bool) → (q == p) ≡ b → (t : Touch) → FitsTouch e q up t → FitTouches e p up (if b then t ∷ [] else [])
    fitting q true i t h = let at : q ≡ p = grind (arith, nat_tests, i) in (subst (λ (n : ℕ). FitsTouch e n up t) at h, tt)
    fitting q false i t h = tt

    unmarked : (b : Bool) (t : Touch) → (is_passing t || is_ending t || is_resting t || is_beginning t) ≡ false → some_touch is_marked (if b then t ∷ [] else []) ≡ false
    unmarked true t h = rw h refl
    unmarked false t h = refl
