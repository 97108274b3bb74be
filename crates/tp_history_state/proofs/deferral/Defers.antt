-- What becomes in an event of what is deferred on a live arc, and what the event says there: instances of the steps of a node.
use Rattle.tp_history_state.proofs.Vocabulary.{if◌then◌else◌, ◌≡◌, ◌⊎◌, inl, inr, ℕ, Bool, true, false, refl, ap, sym, subst, ◌∙◌, arith, Option, Some, None, List, [], ◌∷◌, ◌++◌, ◌&&◌, ◌||◌, ◌==◌, not, or-true, nat_tests, Outcome, has_bit, Indication, DialogueRecord, Holder, PeerRecord, Phase, Side, Deferral, TxEvent, TxOut, Kept, KeptEvent, Who, Event, Out, Dialogue, Arc, Current, Digest, is_live, is_rolling, Asked, Ask_end, Ask_defer_end, Ask_defer_grant, Heard, Hear_end, Hear_defer_end, Hear_defer_grant, said, heard, begun_by, cleared, woken, completed, named_holder, find_arc, is_live_with_peer, without_arc, with_dialogue, with_dialogues, carried, performed, Transaction, Turn, is_under_at, row_holds, transacted, has_branch_at, settled, Move, move, followed, perform, phase_of, seen, begin_on, is_leaving, Passage, Stays, Enters, Falls, Falls_at_once, Commits, Rolls_back, Leaves, side_at, passage, entered, played, without_deferral, is_arc_of, committed_dialogue, committed_arcs, grants, turned, keep, said_to, has_said, is_begin, is_defer_end_record, is_defer_grant_record, is_unchanged, falls, is_outcome_told, IsPut, IsAsked, IsChange, By_waking, By_saying, By_hearing, By_beginning, By_leaving, begun_by_record, is_spoken, are_spoken, closes_at, is_said, are_said, Moves, is_deferring, is_deferred_by, puts_off_at, first_begin, asks_tell, out_tells, IsLinked, part_at, Keeps, keeps_self, keeps_then, part_dialogue, part_none, part_same, keeps_dialogues, keeps_without, keeps_performed, said_both, carries_none, said_carried, said_none, live_back, seen_branch, find_arc_is, leaves_so, first_performed, first_played, spoken_none, apart_spoken, apart_turn, passed_turn, phase_at, settled_spoken, link_dialogue, link_dialogues, linked_moves, row_phase, is_rolled_told, told_append, told_performed, told_played, and_right, around_grants, whole_turn}
use Rattle.tp_history_state.proofs.deferral.Silent.{defer_peer, silent_turned, still_turned}
use Rattle.tp_history_state.proofs.passages.Passage.{is_committed_told, drops, ends, IsPassage, passage_turn}
use Rattle.tp_history_state.proofs.lemmas.Begins.{next_child, begin_word, begin_arcs, begun_over, begins_so}
use Rattle.tp_history_state.proofs.passages.Shown.{rolling_left}
use Rattle.tp_history_state.proofs.lemmas.Spoken.{spoken_untold}

-- what is deferred is of that kind
abbrev pub put : (Deferral → Bool) → Dialogue → Bool
put k x = k x.deferral

abbrev pub loose : Dialogue → Bool
loose x = has_bit x.units 32

-- ---- dialogues that a test chooses

find_dialogues : (arcs : List Arc) (t : Arc → Bool) (f : Arc → Dialogue) (p : ℕ) → find_arc (with_dialogues arcs t f) p ≡ elim (find_arc arcs p) as (λ _. Option Arc) [ None ↦ None | Some a ↦ Some (if t a then record a { dialogue = f a } else a) ]
find_dialogues [] t f p = refl
find_dialogues (a ∷ arcs) t f p = go (a.peer.node == p) refl (t a) refl (find_dialogues arcs t f p)
  where
    go : (u : Bool) → (a.peer.node == p) ≡ u → (v : Bool) → t a ≡ v → find_arc (with_dialogues arcs t f) p ≡ elim (find_arc arcs p) as (λ _. Option Arc) [ None ↦ None | Some a ↦ Some (if t a then record a { dialogue = f a } else a) ]
        → find_arc ((if v then record a { dialogue = f a } else a) ∷ with_dialogues arcs t f) p ≡ elim (if u then Some a else find_arc arcs p) as (λ _. Option Arc) [ None ↦ None | Some a ↦ Some (if t a then record a { dialogue = f a } else a) ]
    go true i true j rest = rw (i, j) refl
    go true i false j rest = rw (i, j) refl
    go false i true j rest = rw i rest
    go false i false j rest = rw i rest

abbrev pub at_arc : (Arc → Bool) → Option Arc → Bool
at_arc g o = elim o [ None ↦ false | Some a ↦ g a ]

chosen_dialogues : (g : Dialogue → Bool) (p : ℕ) (arcs : List Arc) (t : Arc → Bool) (f : Arc → Dialogue) (b : Bool) → ((a : Arc) → a.peer.node ≡ p → t a ≡ b) → part_at g p (with_dialogues arcs t f) ≡ (if b then at_arc (λ a. g (f a)) (find_arc arcs p) else part_at g p arcs)
chosen_dialogues g p arcs t f b all = grind (arith, find_arc_is, find_dialogues)

-- they forget what is deferred
pub dropped_part : (k : Deferral → Bool) (p : ℕ) (arcs : List Arc) (t : Arc → Bool) (f : Arc → Dialogue) (b : Bool) → ((a : Arc) → a.peer.node ≡ p → t a ≡ b) → ((a : Arc) → k (f a).deferral ≡ false) → part_at (put k) p (with_dialogues arcs t f) ≡ (not b && part_at (put k) p arcs)
dropped_part k p arcs t f true all none = chosen_dialogues (put k) p arcs t f true all ∙ go (find_arc arcs p)
  where
    go : (o : Option Arc) → at_arc (λ a. k (f a).deferral) o ≡ false
    go None = refl
    go (Some a) = none a
dropped_part k p arcs t f false all none = chosen_dialogues (put k) p arcs t f false all

-- a commitment ends it on an unchained arc
put_committed : (k : Deferral → Bool) → k Deferral.None ≡ false → (d : Digest) (t : Transaction) (a : Arc) → k (committed_dialogue d t a).deferral ≡ (not (loose a.dialogue) && put k a.dialogue)
unfolding completed said
put_committed k none d t a = grind arith

loose_committed : (d : Digest) (t : Transaction) (a : Arc) → loose (committed_dialogue d t a) ≡ loose a.dialogue
unfolding completed said
loose_committed d t a = grind arith

committed_part : (k : Deferral → Bool) → k Deferral.None ≡ false → (d : Digest) (t : Transaction) (p : ℕ) (arcs : List Arc) (b : Bool) → ((a : Arc) → a.peer.node ≡ p → is_arc_of t a ≡ b)
    → part_at (put k) p (committed_arcs d t arcs) ≡ (not (b && part_at loose p arcs) && part_at (put k) p arcs)
committed_part k none d t p arcs false all = chosen_dialogues (put k) p arcs (is_arc_of t) (committed_dialogue d t) false all
committed_part k none d t p arcs true all = chosen_dialogues (put k) p arcs (is_arc_of t) (committed_dialogue d t) true all ∙ go (find_arc arcs p)
  where
    go : (o : Option Arc) → at_arc (λ a. k (committed_dialogue d t a).deferral) o ≡ (not (at_arc (λ a. loose a.dialogue) o) && at_arc (λ a. put k a.dialogue) o)
    go None = refl
    go (Some a) = put_committed k none d t a

pub put_completed : (k : Deferral → Bool) → k Deferral.None ≡ false → (s : Side) (x : Dialogue) → k (completed Outcome.Rollback s x).deferral ≡ false
unfolding completed
put_completed k none s x = none

pub loose_completed : (o : Outcome) (s : Side) (x : Dialogue) → loose (completed o s x) ≡ loose x
unfolding completed
loose_completed o s x = refl

pub put_cleared : (k : Deferral → Bool) (x : Dialogue) → put k (cleared x) ≡ put k x
unfolding cleared
put_cleared k x = refl

pub loose_cleared : (x : Dialogue) → loose (cleared x) ≡ loose x
unfolding cleared
loose_cleared x = refl

-- ---- a turn that is no leaving

record IsTurned (k : Deferral → Bool) (p : ℕ) (b : Bool) (w : Passage) (xs ys : List Arc) : Type 0 where
  live : is_live_with_peer xs p ≡ true
  units : part_at loose p ys ≡ part_at loose p xs
  deferral : part_at (put k) p ys ≡ (not (b && (drops w || (ends w && part_at loose p xs))) && part_at (put k) p xs)

not_off : (b x : Bool) → x ≡ (not (b && false) && x)
not_off true x = refl
not_off false x = refl

not_on : (b x : Bool) → (not b && x) ≡ (not (b && true) && x)
not_on true x = refl
not_on false x = refl

twice : (b x : Bool) → (not b && (not b && x)) ≡ (not (b && true) && x)
twice true x = refl
twice false x = refl

turned_arcs : (k : Deferral → Bool) → k Deferral.None ≡ false → (p : ℕ) (d : Digest) (t : Transaction) (w : Passage) (asks : Turn) (arcs : List Arc) (b : Bool) → ((a : Arc) → a.peer.node ≡ p → is_arc_of t a ≡ b) → (w ≡ Leaves → ⊥)
    → is_live_with_peer (played d t w asks (entered t w arcs)).0 p ≡ true → IsTurned k p b w arcs (played d t w asks (entered t w arcs)).0
unfolding entered played
turned_arcs k none p d t Stays asks arcs b all other live =
    let u = keeps_performed loose p arcs asks.outs live in
    let v = keeps_performed (put k) p arcs asks.outs live in
    record { live = u.0; units = u.1; deferral = v.1 ∙ not_off b (part_at (put k) p arcs) }
turned_arcs k none p d t Enters asks arcs b all other live =
    let xs : List Arc = with_dialogues arcs (is_arc_of t) (λ a. cleared a.dialogue) in
    let u = keeps_then loose p arcs xs (performed xs asks.outs).0 (keeps_dialogues loose p arcs (is_arc_of t) (λ a. cleared a.dialogue) (λ a at is. loose_cleared a.dialogue)) (keeps_performed loose p xs asks.outs) live in
    let v = keeps_then (put k) p arcs xs (performed xs asks.outs).0 (keeps_dialogues (put k) p arcs (is_arc_of t) (λ a. cleared a.dialogue) (λ a at is. put_cleared k a.dialogue)) (keeps_performed (put k) p xs asks.outs) live in
    record { live = u.0; units = u.1; deferral = v.1 ∙ not_off b (part_at (put k) p arcs) }
turned_arcs k none p d t Falls asks arcs b all other live =
    let xs : List Arc = with_dialogues arcs (is_arc_of t) (λ a. without_deferral (cleared a.dialogue)) in
    let u = keeps_then loose p arcs xs (performed xs asks.outs).0 (keeps_dialogues loose p arcs (is_arc_of t) (λ a. without_deferral (cleared a.dialogue)) (λ a at is. loose_cleared a.dialogue)) (keeps_performed loose p xs asks.outs) live in
    let v = keeps_performed (put k) p xs asks.outs live in
    record { live = u.0; units = u.1; deferral = v.1 ∙ dropped_part k p arcs (is_arc_of t) (λ a. without_deferral (cleared a.dialogue)) b all (λ a. none) ∙ not_on b (part_at (put k) p arcs) }
turned_arcs k none p d t Falls_at_once asks arcs b all other live =
    let xs : List Arc = with_dialogues arcs (is_arc_of t) (λ a. without_deferral (cleared a.dialogue)) in
    let ys : List Arc = (performed xs asks.outs).0 in
    let up : is_live_with_peer ys p ≡ true = ap is_live (sym (link_dialogues ys _ _ p)) ∙ live in
    let u = keeps_then loose p arcs xs ys (keeps_dialogues loose p arcs (is_arc_of t) (λ a. without_deferral (cleared a.dialogue)) (λ a at is. loose_cleared a.dialogue)) (keeps_performed loose p xs asks.outs) up in
    let w = keeps_dialogues loose p ys (is_arc_of t) (λ a. completed Outcome.Rollback (side_at d a.peer.node) a.dialogue) (λ a at is. loose_completed Outcome.Rollback _ a.dialogue) live in
    let v = keeps_performed (put k) p xs asks.outs up in
    record {
      live = u.0;
      units = w.1 ∙ u.1;
      deferral = dropped_part k p ys (is_arc_of t) _ b all (λ a. put_completed k none _ a.dialogue) ∙ ap (λ (x : Bool). not b && x) (v.1 ∙ dropped_part k p arcs (is_arc_of t) (λ a. without_deferral (cleared a.dialogue)) b all (λ a. none)) ∙ twice b (part_at (put k) p arcs);
    }
turned_arcs k none p d t Commits asks arcs b all other live =
    let s = around_grants asks in
    let one : List Arc = (performed arcs s.0).0 in
    let mid : List Arc = committed_arcs d t one in
    let two : List Arc = (performed mid (grants t one)).0 in
    let last : List Arc = (performed two s.1).0 in
    let up2 : is_live_with_peer two p ≡ true = (keeps_performed loose p two s.1 live).0 in
    let up1 : is_live_with_peer mid p ≡ true = (keeps_performed loose p mid (grants t one) up2).0 in
    let up0 : is_live_with_peer one p ≡ true = ap is_live (sym (link_dialogues one _ _ p)) ∙ up1 in
    let u0 = keeps_performed loose p arcs s.0 up0 in
    let u1 = keeps_dialogues loose p one (is_arc_of t) (committed_dialogue d t) (λ a at is. loose_committed d t a) up1 in
    let u2 = keeps_performed loose p mid (grants t one) up2 in
    let u3 = keeps_performed loose p two s.1 live in
    let v0 = keeps_performed (put k) p arcs s.0 up0 in
    let v2 = keeps_performed (put k) p mid (grants t one) up2 in
    let v3 = keeps_performed (put k) p two s.1 live in
    record {
      live = u0.0;
      units = u3.1 ∙ u2.1 ∙ u1.1 ∙ u0.1;
      deferral = v3.1 ∙ v2.1 ∙ committed_part k none d t p one b all ∙ both_same (part_at loose p one) (part_at loose p arcs) (part_at (put k) p one) (part_at (put k) p arcs) u0.1 v0.1;
    }
  where
    both_same : (x y z w : Bool) → x ≡ y → z ≡ w → (not (b && x) && z) ≡ (not (b && y) && w)
    both_same x y z w i j = rw (i, j) refl
turned_arcs k none p d t Rolls_back asks arcs b all other live =
    let ys : List Arc = (performed arcs asks.outs).0 in
    let up : is_live_with_peer ys p ≡ true = ap is_live (sym (link_dialogues ys _ _ p)) ∙ live in
    let u = keeps_performed loose p arcs asks.outs up in
    let w = keeps_dialogues loose p ys (is_arc_of t) (λ a. completed Outcome.Rollback (side_at d a.peer.node) a.dialogue) (λ a at is. loose_completed Outcome.Rollback _ a.dialogue) live in
    let v = keeps_performed (put k) p arcs asks.outs up in
    record {
      live = u.0;
      units = w.1 ∙ u.1;
      deferral = dropped_part k p ys (is_arc_of t) _ b all (λ a. put_completed k none _ a.dialogue) ∙ ap (λ (x : Bool). not b && x) v.1 ∙ not_on b (part_at (put k) p arcs);
    }
turned_arcs k none p d t Leaves asks arcs b all other live = absurd (other refl)

-- ---- from d on to what a move makes of it; `branch`: the arc is a branch at first; `fall`: the event rolls

abbrev pub said_begin : ℕ → List Out → Bool
said_begin p outs = has_said is_begin (said_to p outs)

abbrev pub told_rolled : List Out → Bool
told_rolled outs = out_tells is_rolled_told outs

abbrev pub told_committed : List Out → Bool
told_committed outs = out_tells is_committed_told outs

pub record IsDeferring (k : Deferral → Bool) (p : ℕ) (branch fall : Bool) (d : Digest) (m : Move) : Type 0 where
  pub live : is_live_with_peer d.arcs p ≡ true
  pub units : part_at loose p m.next.arcs ≡ part_at loose p d.arcs
  pub kept : (part_at (put k) p m.next.arcs ≡ part_at (put k) p d.arcs)
      ⊎ ((part_at (put k) p m.next.arcs ≡ false) × ((branch && (fall || told_rolled m.outs || (told_committed m.outs && part_at loose p d.arcs)) || said_begin p m.outs) ≡ true))
  pub begun : said_begin p m.outs ≡ true → part_at (put k) p m.next.arcs ≡ false
  pub unrolled : branch ≡ true → told_rolled m.outs ≡ true → part_at (put k) p m.next.arcs ≡ false
  pub committed : branch ≡ true → told_committed m.outs ≡ true → part_at loose p d.arcs ≡ true → part_at (put k) p m.next.arcs ≡ false
  pub rolled : branch ≡ true → is_rolling (phase_of d) ≡ false → is_rolling (phase_of m.next) ≡ true → part_at (put k) p m.next.arcs ≡ false

abbrev pub Defers : (Deferral → Bool) → ℕ → Bool → Bool → Digest → Move → Type 0
Defers k p branch fall d m = IsLinked p d m × (is_live_with_peer m.next.arcs p ≡ true → IsDeferring k p branch fall d m)

deferring_same : (k : Deferral → Bool) (p : ℕ) (branch fall : Bool) (d : Digest) (m : Move) → Keeps (put k) p d.arcs m.next.arcs → Keeps loose p d.arcs m.next.arcs → is_rolling (phase_of m.next) ≡ is_rolling (phase_of d)
    → told_rolled m.outs ≡ false → told_committed m.outs ≡ false → said_begin p m.outs ≡ false → is_live_with_peer m.next.arcs p ≡ true → IsDeferring k p branch fall d m
deferring_same k p branch fall d m keeps units phase unrolled uncommitted none live =
    let v = keeps live in
    let u = units live in
    record {
      live = v.0;
      units = u.1;
      kept = inl v.1;
      begun = λ h. absurd (cc (h, none));
      unrolled = λ b h. absurd (cc (h, unrolled));
      committed = λ b h. absurd (cc (h, uncommitted));
      rolled = λ b off on. absurd (let same : is_rolling (phase_of m.next) ≡ false = phase ∙ off in cc (on, same));
    }

deferring_then : (k : Deferral → Bool) (p : ℕ) (branch fall : Bool) (d : Digest) (a : Move) (f : Digest → Move) → Defers k p branch fall d a → Defers k p branch fall a.next (f a.next) → is_live_with_peer (f a.next).next.arcs p ≡ true → IsDeferring k p branch fall d (followed a f)
deferring_then k p branch fall d a f one two live = record {
  live = x.live;
  units = y.units ∙ x.units;
  kept = kept x.kept y.kept;
  begun = λ h. either (said_begin p a.outs) (said_begin p b.outs) (sym joined ∙ h) (λ i. later (x.begun i)) (λ i. y.begun i);
  unrolled = λ br h. either (told_rolled a.outs) (told_rolled b.outs) (sym rb ∙ h) (λ i. later (x.unrolled br i)) (λ i. y.unrolled br i);
  committed = λ br h u. either (told_committed a.outs) (told_committed b.outs) (sym cm ∙ h) (λ i. later (x.committed br i u)) (λ i. y.committed br i (x.units ∙ u));
  rolled = λ br off on. rolls (is_rolling (phase_of a.next)) refl br off on;
}
  where
    b : Move
    b = f a.next

    x : IsDeferring k p branch fall d a
    x = one.1 (live_back p a.next b two.0 live)

    y : IsDeferring k p branch fall a.next b
    y = two.1 live

    joined : said_begin p (a.outs ++ b.outs) ≡ (said_begin p a.outs || said_begin p b.outs)
    joined = said_both is_begin p a.outs b.outs

    rb : told_rolled (a.outs ++ b.outs) ≡ (told_rolled a.outs || told_rolled b.outs)
    rb = told_append is_rolled_told a.outs b.outs

    cm : told_committed (a.outs ++ b.outs) ≡ (told_committed a.outs || told_committed b.outs)
    cm = told_append is_committed_told a.outs b.outs

    later : part_at (put k) p a.next.arcs ≡ false → part_at (put k) p b.next.arcs ≡ false
    later off = elim y.kept [ inl i ↦ i ∙ off | inr i ↦ i.0 ]

    either : (u v : Bool) → (u || v) ≡ true → (u ≡ true → part_at (put k) p b.next.arcs ≡ false) → (v ≡ true → part_at (put k) p b.next.arcs ≡ false) → part_at (put k) p b.next.arcs ≡ false
    either true v h i j = i refl
    either false v h i j = j h

    rolls : (r : Bool) → is_rolling (phase_of a.next) ≡ r → branch ≡ true → is_rolling (phase_of d) ≡ false → is_rolling (phase_of b.next) ≡ true → part_at (put k) p b.next.arcs ≡ false
    rolls true i br off on = later (x.rolled br off i)
    rolls false i br off on = y.rolled br i on

    first : (c f r1 r2 m1 m2 l s1 s2 : Bool) → (c && (f || r1 || (m1 && l)) || s1) ≡ true → (c && (f || (r1 || r2) || ((m1 || m2) && l)) || (s1 || s2)) ≡ true
    first c f r1 r2 m1 m2 l s1 s2 h = grind (arith, h)

    last : (c f r1 r2 m1 m2 l s1 s2 : Bool) → (c && (f || r2 || (m2 && l)) || s2) ≡ true → (c && (f || (r1 || r2) || ((m1 || m2) && l)) || (s1 || s2)) ≡ true
    last c f r1 r2 m1 m2 l s1 s2 h = grind (arith, h)

    cause : (branch && (fall || (told_rolled a.outs || told_rolled b.outs) || ((told_committed a.outs || told_committed b.outs) && part_at loose p d.arcs)) || (said_begin p a.outs || said_begin p b.outs)) ≡ true
        → (branch && (fall || told_rolled (a.outs ++ b.outs) || (told_committed (a.outs ++ b.outs) && part_at loose p d.arcs)) || said_begin p (a.outs ++ b.outs)) ≡ true
    cause h = rw (rb, cm, joined) h

    kept : (part_at (put k) p a.next.arcs ≡ part_at (put k) p d.arcs) ⊎ ((part_at (put k) p a.next.arcs ≡ false) × ((branch && (fall || told_rolled a.outs || (told_committed a.outs && part_at loose p d.arcs)) || said_begin p a.outs) ≡ true))
        → (part_at (put k) p b.next.arcs ≡ part_at (put k) p a.next.arcs) ⊎ ((part_at (put k) p b.next.arcs ≡ false) × ((branch && (fall || told_rolled b.outs || (told_committed b.outs && part_at loose p a.next.arcs)) || said_begin p b.outs) ≡ true))
        → (part_at (put k) p b.next.arcs ≡ part_at (put k) p d.arcs) ⊎ ((part_at (put k) p b.next.arcs ≡ false) × ((branch && (fall || told_rolled (a.outs ++ b.outs) || (told_committed (a.outs ++ b.outs) && part_at loose p d.arcs)) || said_begin p (a.outs ++ b.outs)) ≡ true))
    kept (inl i) (inl j) = inl (j ∙ i)
    kept (inr i) (inl j) = inr (j ∙ i.0, cause (first branch fall (told_rolled a.outs) (told_rolled b.outs) (told_committed a.outs) (told_committed b.outs) (part_at loose p d.arcs) (said_begin p a.outs) (said_begin p b.outs) i.1))
    kept i (inr j) = inr (j.0, cause (last branch fall (told_rolled a.outs) (told_rolled b.outs) (told_committed a.outs) (told_committed b.outs) (part_at loose p d.arcs) (said_begin p a.outs) (said_begin p b.outs) (ap (λ (l : Bool). branch && (fall || told_rolled b.outs || (told_committed b.outs && l)) || said_begin p b.outs) (sym x.units) ∙ j.1)))

-- ---- turns

-- what the event of the node says of the branch and of its transaction
pub record IsGiven (who : Who) (e : Event) (s : Digest) (p : ℕ) (branch fall : Bool) : Type 0 where
  pub is_branch : (c : Current) → s.current ≡ Some c → (is_under_at c.key p || has_branch_at c.branches p) ≡ branch
  pub falls_so : (c : Current) (f : TxEvent) (arcs : List Arc) → s.current ≡ Some c → IsAsked e c f → falls f (seen who arcs c) ≡ true → fall ≡ true

-- outputs that begin nothing say no Begin
pub unbegun : (p : ℕ) (outs : List Out) → first_begin outs ≡ None → said_begin p outs ≡ false
unbegun p [] h = refl
unbegun p (Out.Tell i ∷ outs) h = unbegun p outs h
unbegun p (Out.Send a (PeerRecord.OnAssoc x y q (DialogueRecord.Begin t b v)) ∷ outs) h = absurd (cc (h))
unbegun p (Out.Send a (PeerRecord.OnAssoc x y q r) ∷ outs) h = let rest = unbegun p outs in grind (arith, h, rest)
unbegun p (Out.Send a r ∷ outs) h = let rest = unbegun p outs in grind (arith, h, rest)

plain_turned : (k : Deferral → Bool) → k Deferral.None ≡ false → (who : Who) (p : ℕ) (branch fall : Bool) (e : Event) (s d : Digest) (c : Current) (f : TxEvent) → IsGiven who e s p branch fall → d.current ≡ Some c → s.current ≡ Some c → IsAsked e c f → IsPut f (seen who d.arcs c) → is_leaving f ≡ false
    → is_live_with_peer (turned who f d c).next.arcs p ≡ true → IsDeferring k p branch fall d (turned who f d c)
plain_turned k none who p branch fall e s d c f given now at asked fits off live = record {
  live = moved.live;
  units = moved.units;
  kept = kept (branch && (drops w || (ends w && part_at loose p d.arcs))) refl;
  begun = λ h. absurd (let no : said_begin p m.outs ≡ false = unbegun p m.outs (first_played d t w a (whole_turn f t) (entered t w d.arcs) (passed_turn f t fits).begins (apart_turn f t fits)) in cc (h, no));
  unrolled = λ b h. down (let one : drops w ≡ true = way.told (sym rb ∙ h) in rw (b, one) refl);
  committed = λ b h u. down (let one : ends w ≡ true = way.ended ∙ sym cm ∙ h in rw (b, one, u) (or-true (drops w)));
  rolled = λ b flat on. down (let one : drops w ≡ true = way.rolled (sym (ap is_rolling (phase_at d c now)) ∙ flat) (sym (rolling_left a.next) ∙ on) in rw (b, one) refl);
}
  where
    t : Transaction
    t = seen who d.arcs c

    a : Turn
    a = transacted f t

    w : Passage
    w = passage (is_leaving f) t.phase a.next.phase

    m : Move
    m = turned who f d c

    way : IsPassage f t w a
    way = passage_turn f t off fits

    rb : told_rolled m.outs ≡ asks_tell is_rolled_told a.outs
    rb = told_played is_rolled_told d t w a (whole_turn f t) (entered t w d.arcs)

    cm : told_committed m.outs ≡ asks_tell is_committed_told a.outs
    cm = told_played is_committed_told d t w a (whole_turn f t) (entered t w d.arcs)

    all : (x : Arc) → x.peer.node ≡ p → is_arc_of t x ≡ branch
    all x i = ap (λ (n : ℕ). is_under_at c.key n || row_holds t.rows n (λ b. true)) i ∙ ap (λ (v : Bool). is_under_at c.key p || v) (seen_branch d.arcs c.branches p) ∙ given.is_branch c at

    moved : IsTurned k p branch w d.arcs m.next.arcs
    moved = turned_arcs k none p d t w a d.arcs branch all way.left live

    down : (branch && (drops w || (ends w && part_at loose p d.arcs))) ≡ true → part_at (put k) p m.next.arcs ≡ false
    down h = moved.deferral ∙ rw h refl

    cause : (c u v l f r : Bool) → (c && (u || (v && l))) ≡ true → (u ≡ true → (f || r) ≡ true) → (c && (f || r || (v && l)) || said_begin p m.outs) ≡ true
    cause true true v l f r h i = let one = i refl in rest f r one
      where
        rest : (f r : Bool) → (f || r) ≡ true → ((f || r || (v && l)) || said_begin p m.outs) ≡ true
        rest true r h = refl
        rest false true h = refl
        rest false false h = absurd (cc (h))
    cause true false v l f r h i = go f r (v && l) h
      where
        go : (f r z : Bool) → z ≡ true → ((f || r || z) || said_begin p m.outs) ≡ true
        go true r z h = refl
        go false true z h = refl
        go false false z h = rw h refl
    cause false u v l f r h i = absurd (cc (h))

    fell : (x : Bool) → falls f t ≡ x → (x || asks_tell is_rolled_told a.outs) ≡ true → (fall || told_rolled m.outs) ≡ true
    fell true i h = let one : fall ≡ true = given.falls_so c f d.arcs at asked i in rw one refl
    fell false i h = let one : told_rolled m.outs ≡ true = rb ∙ h in rw one (or-true fall)

    kept : (v : Bool) → (branch && (drops w || (ends w && part_at loose p d.arcs))) ≡ v → (part_at (put k) p m.next.arcs ≡ part_at (put k) p d.arcs) ⊎ ((part_at (put k) p m.next.arcs ≡ false) × ((branch && (fall || told_rolled m.outs || (told_committed m.outs && part_at loose p d.arcs)) || said_begin p m.outs) ≡ true))
    kept true i = inr (down i, ap (λ (v : Bool). branch && (fall || told_rolled m.outs || (v && part_at loose p d.arcs)) || said_begin p m.outs) (cm ∙ sym way.ended) ∙ cause branch (drops w) (ends w) (part_at loose p d.arcs) fall (told_rolled m.outs) i (λ j. fell (falls f t) refl (way.dropped j)))
    kept false i = inl (moved.deferral ∙ rw i refl)

-- ---- changes of one dialogue

put_said : (k : Deferral → Bool) (a : Asked) (x : Dialogue) → is_deferring a ≡ false → put k (said a x) ≡ put k x
unfolding said
put_said k Ask_defer_end x h = absurd (cc (h))
put_said k Ask_defer_grant x h = absurd (cc (h))
put_said k _ x h = refl

put_heard : (k : Deferral → Bool) (a : Heard) (x : Dialogue) → is_deferred_by a ≡ false → put k (heard a x) ≡ put k x
unfolding heard
put_heard k Hear_defer_end x h = absurd (cc (h))
put_heard k Hear_defer_grant x h = absurd (cc (h))
put_heard k _ x h = refl

pub put_woken : (k : Deferral → Bool) (x : Dialogue) → put k (woken x) ≡ put k x
unfolding woken
put_woken k x = refl

pub put_begun : (k : Deferral → Bool) → k Deferral.None ≡ false → (h : Holder) (s : Side) (x : Dialogue) → put k (begun_by h s x) ≡ false
unfolding begun_by
put_begun k none h s x = none

loose_said : (a : Asked) (x : Dialogue) → loose (said a x) ≡ loose x
unfolding said
loose_said Ask_end x = refl
loose_said _ x = refl

loose_heard : (a : Heard) (x : Dialogue) → loose (heard a x) ≡ loose x
unfolding heard
loose_heard Hear_end x = refl
loose_heard _ x = refl

pub loose_woken : (x : Dialogue) → loose (woken x) ≡ loose x
unfolding woken
loose_woken x = refl

pub loose_begun : (h : Holder) (s : Side) (x : Dialogue) → loose (begun_by h s x) ≡ loose x
unfolding begun_by
loose_begun h s x = refl

pub same_part : (g : Dialogue → Bool) (p q : ℕ) (f : Dialogue → Dialogue) (arcs : List Arc) → ((q == p) ≡ true → (x : Dialogue) → g (f x) ≡ g x) → part_at g p (with_dialogue arcs q f) ≡ part_at g p arcs
same_part g p q f arcs same = part_dialogue g p arcs q f ∙ go (q == p) refl
  where
    go : (b : Bool) → (q == p) ≡ b → (if b then part_at (λ x. g (f x)) p arcs else part_at g p arcs) ≡ part_at g p arcs
    go true i = part_same (λ x. g (f x)) g p arcs (same i)
    go false i = refl

-- a transaction that a record begins there
abbrev pub begins_at : Event → ℕ → Bool
begins_at e p = elim (begun_by_record e) [ None ↦ false | Some v ↦ v.0 == p ]

-- the event puts nothing off on the arc, no record begins a transaction there, and it is no leaving
pub record IsAside (e : Event) (p : ℕ) : Type 0 where
  pub deferral : puts_off_at e p ≡ false
  pub begun : begins_at e p ≡ false
  pub stays : is_unchanged e ≡ false

none_of_both : (x y : Bool) → (x && y) ≡ false → x ≡ true → y ≡ false
none_of_both x y h i = grind (arith, h, i)

left_off : (x y : Bool) → (x || y) ≡ false → x ≡ false
left_off x y h = grind (arith, h)

right_off : (x y : Bool) → (x || y) ≡ false → y ≡ false
right_off x y h = grind (arith, h)

change_put : (k : Deferral → Bool) (e : Event) (d : Digest) (p q : ℕ) (f : Dialogue → Dialogue) (arcs : List Arc) → IsChange e d q f → IsAside e p → part_at (put k) p (with_dialogue arcs q f) ≡ part_at (put k) p arcs
change_put k e d p q f arcs (By_waking w i) aside = subst (λ (g : Dialogue → Dialogue). part_at (put k) p (with_dialogue arcs q g) ≡ part_at (put k) p arcs) (sym i) (same_part (put k) p q woken arcs (λ at. put_woken k))
change_put k e d p q f arcs (By_saying a by i off) aside =
    let mine : ((q == p) && is_deferring a) ≡ false = ap (λ (o : Option (ℕ × Asked)). elim o as (λ _. Bool) [ None ↦ false | Some v ↦ (v.0 == p) && is_deferring v.1 ]) (sym by) ∙ left_off _ _ aside.deferral in
    subst (λ (g : Dialogue → Dialogue). part_at (put k) p (with_dialogue arcs q g) ≡ part_at (put k) p arcs) (sym i) (same_part (put k) p q (said a) arcs (λ at x. put_said k a x (none_of_both (q == p) (is_deferring a) mine at)))
change_put k e d p q f arcs (By_hearing a by i off) aside =
    let mine : ((q == p) && is_deferred_by a) ≡ false = ap (λ (o : Option (ℕ × Heard)). elim o as (λ _. Bool) [ None ↦ false | Some v ↦ (v.0 == p) && is_deferred_by v.1 ]) (sym by) ∙ right_off _ _ aside.deferral in
    subst (λ (g : Dialogue → Dialogue). part_at (put k) p (with_dialogue arcs q g) ≡ part_at (put k) p arcs) (sym i) (same_part (put k) p q (heard a) arcs (λ at x. put_heard k a x (none_of_both (q == p) (is_deferred_by a) mine at)))
change_put k e d p q f arcs (By_beginning h by i) aside =
    let off : (q == p) ≡ false = ap (λ (o : Option (ℕ × Holder)). elim o as (λ _. Bool) [ None ↦ false | Some v ↦ v.0 == p ]) (sym by) ∙ aside.begun in
    subst (λ (g : Dialogue → Dialogue). part_at (put k) p (with_dialogue arcs q g) ≡ part_at (put k) p arcs) (sym i) (same_part (put k) p q (begun_by h Side.Subordinate) arcs (λ at. absurd (cc (at, off))))
change_put k e d p q f arcs (By_leaving by i) aside = subst (λ (g : Dialogue → Dialogue). part_at (put k) p (with_dialogue arcs q g) ≡ part_at (put k) p arcs) (sym i) (same_part (put k) p q cleared arcs (λ at. put_cleared k))

change_loose : (e : Event) (d : Digest) (p q : ℕ) (f : Dialogue → Dialogue) (arcs : List Arc) → IsChange e d q f → part_at loose p (with_dialogue arcs q f) ≡ part_at loose p arcs
change_loose e d p q f arcs h1 = grind (arith, begun_by, loose_begun, loose_cleared, loose_heard, loose_said, loose_woken, same_part)

-- ---- the steps

pub live_dialogue : (arcs : List Arc) (q : ℕ) (f : Dialogue → Dialogue) (p : ℕ) → is_live_with_peer (with_dialogue arcs q f) p ≡ is_live_with_peer arcs p
live_dialogue arcs q f p = ap is_live (link_dialogue arcs q f p)

plain_rolled : (i : Indication) → is_outcome_told i ≡ false → is_rolled_told i ≡ false
plain_rolled i h = grind (arith, h)

pub plain_committed : (i : Indication) → is_outcome_told i ≡ false → is_committed_told i ≡ false
plain_committed i h = grind (arith, h)

deferring_spoken : (k : Deferral → Bool) (p : ℕ) (branch fall : Bool) (d : Digest) (outs : List TxOut) (m : Move) → m.next.arcs ≡ (performed d.arcs outs).0 → m.outs ≡ (performed d.arcs outs).1 → m.next.current ≡ d.current → are_spoken outs ≡ true
    → is_live_with_peer m.next.arcs p ≡ true → IsDeferring k p branch fall d m
deferring_spoken k p branch fall d outs m arcs said now spoken =
    deferring_same k p branch fall d m (subst (λ (xs : List Arc). Keeps (put k) p d.arcs xs) (sym arcs) (keeps_performed (put k) p d.arcs outs)) (subst (λ (xs : List Arc). Keeps loose p d.arcs xs) (sym arcs) (keeps_performed loose p d.arcs outs))
    (ap (λ (o : Option Current). is_rolling (elim o as (λ _. Phase) [ None ↦ Phase.Nil | Some c ↦ c.phase ])) now)
    (ap told_rolled said ∙ told_performed is_rolled_told d.arcs outs ∙ spoken_untold is_rolled_told plain_rolled outs spoken)
    (ap told_committed said ∙ told_performed is_committed_told d.arcs outs ∙ spoken_untold is_committed_told plain_committed outs spoken)
    (ap (said_begin p) said ∙ unbegun p (performed d.arcs outs).1 (first_performed d.arcs outs (spoken_none outs spoken) (apart_spoken outs spoken)))

deferring_begins : (k : Deferral → Bool) → k Deferral.None ≡ false → (who : Who) (p : ℕ) (branch fall : Bool) (q : ℕ) (d : Digest) → is_live_with_peer (begin_on who q d).next.arcs p ≡ true → IsDeferring k p branch fall d (begin_on who q d)
deferring_begins k none who p branch fall q d =
    begins_so (λ m. is_live_with_peer m.next.arcs p ≡ true → IsDeferring k p branch fall d m) who q d
    (deferring_same k p branch fall d (move [] d) (keeps_self (put k) p d.arcs) (keeps_self loose p d.arcs) refl refl refl refl) (λ c now a found may. on c now a)
  where
    on : (c : Current) → d.current ≡ Some c → (a : Arc) → is_live_with_peer (begun_over who q d c a).next.arcs p ≡ true → IsDeferring k p branch fall d (begun_over who q d c a)
    on c i a live = there (q == p) refl
      where
        h : Holder
        h = named_holder a.dialogue

        r : DialogueRecord
        r = begin_word who d c a

        xs : List Arc
        xs = begin_arcs q d a

        outs : List TxOut
        outs = TxOut.Carry q r ∷ []

        t : Transaction
        t = (transacted (TxEvent.Begun (next_child who d a ∷ [])) (seen who d.arcs c)).next

        units : Keeps loose p d.arcs (performed xs outs).0
        units l = let u = keeps_performed loose p xs outs l in (sym (live_dialogue d.arcs q (begun_by h Side.Superior) p) ∙ u.0, u.1 ∙ same_part loose p q (begun_by h Side.Superior) d.arcs (λ at. loose_begun h Side.Superior))

        phase : is_rolling (phase_of (begun_over who q d c a).next) ≡ is_rolling (phase_of d)
        phase = rolling_left t ∙ sym (ap is_rolling (phase_at d c i))

        there : (v : Bool) → (q == p) ≡ v → IsDeferring k p branch fall d (begun_over who q d c a)
        there false at =
            let same : part_at (put k) p xs ≡ part_at (put k) p d.arcs = same_part (put k) p q (begun_by h Side.Superior) d.arcs (λ on. absurd (cc (on, at))) in
            deferring_same k p branch fall d (begun_over who q d c a) (λ l. let u = keeps_performed (put k) p xs outs l in (sym (live_dialogue d.arcs q (begun_by h Side.Superior) p) ∙ u.0, u.1 ∙ same)) units phase
            (told_performed is_rolled_told xs outs) (told_performed is_committed_told xs outs) (said_both is_begin p (carried xs q r).1 [] ∙ rw (said_carried p xs q r, at) refl) live
        there true at =
            let node : q ≡ p = grind (arith, nat_tests, at) in
            let up = units live in
            let off : part_at (put k) p (performed xs outs).0 ≡ false = (keeps_performed (put k) p xs outs live).1 ∙ part_dialogue (put k) p d.arcs q (begun_by h Side.Superior) ∙ rw at (part_none (λ x. put k (begun_by h Side.Superior x)) p d.arcs (put_begun k none h Side.Superior)) in
            let linked : is_live_with_peer xs q ≡ true = ap (is_live_with_peer xs) node ∙ live_dialogue d.arcs q (begun_by h Side.Superior) p ∙ up.0 in
            let here : said_begin p (performed xs outs).1 ≡ true = said_both is_begin p (carried xs q r).1 [] ∙ rw (said_carried p xs q r, at, linked) refl in
            record {
              live = up.0;
              units = up.1;
              kept = inr (off, rw here (or-true (branch && (fall || told_rolled (begun_over who q d c a).outs || (told_committed (begun_over who q d c a).outs && part_at loose p d.arcs)))));
              begun = λ z. off;
              unrolled = λ b z. off;
              committed = λ b z u. off;
              rolled = λ b z on. off;
            }

staying : (e : Event) (p : ℕ) → IsAside e p → (c : Current) (f : TxEvent) → IsAsked e c f → (b : Bool) → is_leaving f ≡ b → is_leaving f ≡ false
staying e p aside c f asked false i = i
staying e p aside c f asked true i = absurd (let on : is_unchanged e ≡ true = leaves_so e c f asked i in let off : is_unchanged e ≡ false = aside.stays in cc (on, off))

pub defers_moves : (k : Deferral → Bool) → k Deferral.None ≡ false → (who : Who) (p : ℕ) (branch fall : Bool) (e : Event) (s : Digest) → IsGiven who e s p branch fall → IsAside e p → Moves who e s (Defers k p branch fall)
defers_moves k none who p branch fall e s given aside = record {
  still = λ d. (link.still d, deferring_same k p branch fall d (move [] d) (keeps_self (put k) p d.arcs) (keeps_self loose p d.arcs) refl refl refl refl);
  chain = λ d a f one two none. (link.chain d a f one.0 two.0 none, deferring_then k p branch fall d a f one two);
  speaks = λ d outs h own said. (link.speaks d outs h own said, deferring_spoken k p branch fall d outs (perform outs d) refl refl refl h);
  changes_dialogue = λ d q f m by one. (
    link.changes_dialogue d q f m by one.0,
    λ live. changed d q f m (change_put k e d p q f d.arcs by aside) (change_loose e d p q f d.arcs by) (one.1 live),
  );
  drops_arc = λ d q m at one. (link.drops_arc d q m at one.0, λ live. dropped d q m (one.1 live));
  notes_kept = λ d ks m held one. (link.notes_kept d ks m held one.0, λ live. let x = one.1 live in record { live = x.live; units = x.units; kept = x.kept; begun = x.begun; unrolled = x.unrolled; committed = x.committed; rolled = x.rolled });
  keeps = λ d c f held. (link.keeps d c f held, deferring_spoken k p branch fall d (settled c f).outs (keep (settled c f) d) refl refl refl (settled_spoken c f));
  turns = λ d c f now at asked fits gone. (link.turns d c f now at asked fits gone, plain_turned k none who p branch fall e s d c f given now at asked fits (staying e p aside c f asked (is_leaving f) refl));
  begins = λ d q may. (link.begins d q may, deferring_begins k none who p branch fall q d);
  roots = λ d m nil may one. (
    link.roots d m nil may one.0,
    λ live.
        let x = one.1 live in
        record { live = x.live; units = x.units; kept = x.kept; begun = x.begun; unrolled = x.unrolled; committed = x.committed; rolled = λ b off on. x.rolled b refl on },
  );
}
  where
    link : Moves who e s (IsLinked p)
    link = linked_moves who e s p

    changed : (d : Digest) (q : ℕ) (f : Dialogue → Dialogue) (m : Move) → part_at (put k) p (with_dialogue d.arcs q f) ≡ part_at (put k) p d.arcs → part_at loose p (with_dialogue d.arcs q f) ≡ part_at loose p d.arcs
        → IsDeferring k p branch fall (record d { arcs = with_dialogue d.arcs q f }) m → IsDeferring k p branch fall d m
    changed d q f m same units x = record {
      live = sym (live_dialogue d.arcs q f p) ∙ x.live;
      units = x.units ∙ units;
      kept = elim x.kept [ inl i ↦ inl (i ∙ same) | inr i ↦ inr (i.0, ap (λ (l : Bool). branch && (fall || told_rolled m.outs || (told_committed m.outs && l)) || said_begin p m.outs) (sym units) ∙ i.1) ];
      begun = x.begun;
      unrolled = x.unrolled;
      committed = λ b h u. x.committed b h (units ∙ u);
      rolled = x.rolled;
    }

    dropped : (d : Digest) (q : ℕ) (m : Move) → IsDeferring k p branch fall (record d { arcs = without_arc d.arcs q }) m → IsDeferring k p branch fall d m
    dropped d q m x =
        let v = keeps_without (put k) p d.arcs q x.live in
        let u = keeps_without loose p d.arcs q x.live in
        record {
          live = v.0;
          units = x.units ∙ u.1;
          kept = elim x.kept [ inl i ↦ inl (i ∙ v.1) | inr i ↦ inr (i.0, ap (λ (l : Bool). branch && (fall || told_rolled m.outs || (told_committed m.outs && l)) || said_begin p m.outs) (sym u.1) ∙ i.1) ];
          begun = x.begun;
          unrolled = x.unrolled;
          committed = λ b h w. x.committed b h (u.1 ∙ w);
          rolled = x.rolled;
        }

-- ---- nothing else puts anything off

abbrev pub is_defer : DialogueRecord → Bool
is_defer r = is_defer_end_record r || is_defer_grant_record r

undeferred_spoken : (e : Event) (outs : List TxOut) → are_spoken outs ≡ true → are_said e outs ≡ true → carries_none is_defer outs ≡ true
undeferred_spoken e [] h i = refl
undeferred_spoken e (TxOut.Tell v ∷ outs) h i = undeferred_spoken e outs (and_right (is_spoken (TxOut.Tell v)) (are_spoken outs) h) i
undeferred_spoken e (TxOut.Carry p r ∷ outs) h i = let rest = undeferred_spoken e outs (and_right (is_spoken (TxOut.Carry p r)) (are_spoken outs) h) (and_right (is_said e (TxOut.Carry p r)) (are_said e outs) i) in grind (arith, rest)
undeferred_spoken e (TxOut.Recovery a r ∷ outs) h i = let rest = undeferred_spoken e outs (and_right (is_spoken (TxOut.Recovery a r)) (are_spoken outs) h) i in grind (arith, h, rest)
undeferred_spoken e (TxOut.Close p ∷ outs) h i = undeferred_spoken e outs h (and_right (closes_at e p) (are_said e outs) i)
undeferred_spoken e _ h i = absurd (cc (i))

undeferred_settled : (x : Kept) (f : KeptEvent) → carries_none is_defer (settled x f).outs ≡ true
unfolding settled
undeferred_settled x (KeptEvent.Done a b r) = grind arith
undeferred_settled x _ = refl

-- the request that defers something at another peer
defers_so : (e : Event) (c : Current) (f : TxEvent) (p q : ℕ) → IsAsked e c f → defer_peer f ≡ Some q → puts_off_at e p ≡ false → (q == p) ≡ false
defers_so e c f p q h1 h2 h3 = grind (arith, nat_tests)

-- what is said on one arc is not said on another
pub said_elsewhere : (g : DialogueRecord → Bool) (p q : ℕ) (arcs : List Arc) (r : DialogueRecord) → (q == p) ≡ false → has_said g (said_to p (performed arcs (TxOut.Carry q r ∷ [])).1) ≡ false
said_elsewhere g p q arcs r off = said_both g p (carried arcs q r).1 [] ∙ rw (said_carried p arcs q r, off) refl

undefers_turned : (who : Who) (p : ℕ) (f : TxEvent) (d : Digest) (c : Current) → is_leaving f ≡ false → IsPut f (seen who d.arcs c) → ((q : ℕ) → defer_peer f ≡ Some q → (q == p) ≡ false) → (o : Option ℕ) → defer_peer f ≡ o → has_said is_defer (said_to p (turned who f d c).outs) ≡ false
undefers_turned who p f d c h1 h2 h3 o h4 = grind (arith, ends, row_phase, said_elsewhere, silent_turned, still_turned)

undefers_begins : (who : Who) (p q : ℕ) (d : Digest) → has_said is_defer (said_to p (begin_on who q d).outs) ≡ false
undefers_begins who p q d = begins_so (λ m. has_said is_defer (said_to p m.outs) ≡ false) who q d refl (λ c i a found may. said_none is_defer p (begin_arcs q d a) (TxOut.Carry q (begin_word who d c a) ∷ []) refl)

abbrev pub Undefers : ℕ → Digest → Move → Type 0
Undefers p d m = has_said is_defer (said_to p m.outs) ≡ false

pub undefers_moves : (who : Who) (p : ℕ) (e : Event) (s : Digest) → IsAside e p → Moves who e s (Undefers p)
undefers_moves who p e s aside = record {
  still = λ d. refl;
  chain = λ d a f one two none. said_both is_defer p a.outs (f a.next).outs ∙ rw (one, two) refl;
  speaks = λ d outs h own said. said_none is_defer p d.arcs outs (undeferred_spoken e outs h said);
  changes_dialogue = λ d q f m by one. one;
  drops_arc = λ d q m at one. one;
  notes_kept = λ d ks m held one. one;
  keeps = λ d x f held. said_none is_defer p d.arcs (settled x f).outs (undeferred_settled x f);
  turns = λ d c f now at asked fits gone. undefers_turned who p f d c (staying e p aside c f asked (is_leaving f) refl) fits (λ q l. defers_so e c f p q asked l aside.deferral) (defer_peer f) refl;
  begins = λ d q may. undefers_begins who p q d;
  roots = λ d m nil may one. one;
}
