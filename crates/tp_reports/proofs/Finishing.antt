-- How an event ends a tree at a node, and that Done with no report over an association and the logged end of a commitment go with
-- what the user is told: an instance of the steps of a node.
use Rattle.std.proofs.Common.{◌≡◌, ◌⊎◌, inl, inr, ℕ, Bool, true, false, refl, ap, sym, subst, ◌∙◌, arith, Option, Some, None, List, [], ◌∷◌, ◌++◌, ◌&&◌, ◌||◌}
use Rattle.tp_names.specs.declared.identifiers.Aaid.{Aaid}
use Rattle.tp_names.specs.declared.outcome.Report.{Report}
use Rattle.tp_names.specs.Same.{is_aaid}
use Rattle.tp_records.specs.declared.request.Request.{Request}
use Rattle.tp_records.specs.declared.indication.Indication.{Indication}
use Rattle.tp_records.specs.declared.dialogue.DialogueRecord.{DialogueRecord}
use Rattle.tp_logrec.specs.declared.record.LogRec.{LogRec}
use Rattle.tp_model.specs.declared.arc.Side.{Side}
use Rattle.tp_model.specs.declared.transaction.TxEvent.{TxEvent}
use Rattle.tp_model.specs.declared.transaction.TxOut.{TxOut}
use Rattle.tp_model.specs.Parts.{Who, Event, Out, Arc, Current, Digest}
use Rattle.tp_model.specs.Dialogues.{is_nil, is_committing, is_rolling, begun_by, named_holder}
use Rattle.tp_model.specs.Arcs.{find_arc, with_dialogue, without_arc, performed}
use Rattle.tp_model.specs.Transactions.{Transaction, Turn, aaid_of, transacted}
use Rattle.tp_model.specs.declared.recovery.Kept.{Kept}
use Rattle.tp_model.specs.Recovery.{settled}
use Rattle.tp_model.specs.Node.{Move, move, followed, perform, committed_arcs, grants, played, Passage, Commits, passage, next_mark, with_mark_drawn, phase_of, seen, remaining, is_leaving, entered, with_begun, may_begin_on, begin_on, turned, keep, around_grants}
use Rattle.tp_model.specs.Events.{refusal, action}
use Rattle.tp_model.specs.Outcomes.{is_now, is_unchanged, rolls}
use Rattle.tp_model.specs.Questions.{tells_commit_complete}
use Rattle.tp_model.specs.Questions.{said_to, has_said}
use Rattle.tp_steps.specs.Turns.{falls}
use Rattle.tp_steps.specs.Moves.{Moves, IsAsked, IsPut, IsLate, are_spoken, is_word, prelude, IsAmong}
use Rattle.tp_steps.specs.Passages.{asks_tell, IsLogged}
use Rattle.tp_steps.specs.Outspoken.{IsToldIn, IsOutspoken}
use Rattle.tp_steps.specs.Trees.{out_tells, IsTreed}
use Rattle.tp_steps.specs.Traces.{is_old}
use Rattle.tp_steps.specs.Clearing.{is_complete_none, damages_tree}
use Rattle.tp_reports.specs.Clearing.{is_clear_rec, is_keeping_rec, is_ended_by, IsClearing, ends_tree}
use Rattle.tp_steps.proofs.lemmas.Equality.{or_case, and_left, and_right}
use Rattle.tp_steps.proofs.every.EveryTurn.{every_turn}
use Rattle.tp_steps.proofs.every.EveryEvent.{every_move}
use Rattle.tp_steps.proofs.branches.Rolls.{phase_at, rolls_so}
use Rattle.tp_steps.proofs.links.Told.{told_append, told_played}
use Rattle.tp_steps.proofs.words.Hushed.{settled_spoken}
use Rattle.tp_steps.proofs.log.Passed.{later_rec}
use Rattle.tp_steps.proofs.log.Sound.{left_is}
use Rattle.tp_steps.proofs.words.Treed.{old_kept}
use Rattle.tp_histories.proofs.trees.TreedMoves.{treed_moves}
use Rattle.tp_histories.proofs.trees.Knowing.{nil_now}
use Rattle.tp_histories.proofs.upward.Risen.{unchanged_asked}
use Rattle.tp_runs.proofs.AtPeer.{carries_none, said_none, said_both, parts_none}
use Rattle.tp_steps.proofs.branches.Outspoken.{outspoken_event}
use Rattle.tp_reports.proofs.ClearingTurns.{clearing_turn}
use Rattle.tp_reports.proofs.ClearingMoves.{clear_tree, tree_clear, ends_key, damage_after, settled_ends}
use Rattle.tp_runs.specs.Bare.{keeps_tree}
use Rattle.tp_model.specs.declared.recovery.KeptEvent.{KeptEvent}
use Rattle.tp_reports.proofs.DoneTurns.{is_clear_done, IsDoneTurn, done_turns, IsToldTurn, told_turns}
use Rattle.tp_runs.proofs.Bare.{among_tree, forgotten_tree}
use Rattle.tp_steps.proofs.every.BeginCases.{begun_over, begin_cases}
use Rattle.tp_steps.proofs.links.Whole.{IsWhole, whole_turn}

-- ---- Done with no report, at the arcs

none_spoken : (outs : List TxOut) → are_spoken outs ≡ true → carries_none is_clear_done outs ≡ true
none_spoken [] h = refl
none_spoken (TxOut.Tell i ∷ outs) h = none_spoken outs (grind (arith, h))
none_spoken (TxOut.Carry p r ∷ outs) h = let rest = none_spoken outs (grind (arith, h)) in let one : is_clear_done r ≡ false = no r (grind (arith, h)) in rw (one, rest) refl
  where
    no : (r : DialogueRecord) → is_word r ≡ false → is_clear_done r ≡ false
    no (DialogueRecord.Done x) i = absurd (cc (i))
    no r i = refl
none_spoken (TxOut.Shut p ∷ outs) h = none_spoken outs h
none_spoken (TxOut.Recovery a r ∷ outs) h = let rest = none_spoken outs (grind (arith, h)) in grind (arith, h, rest)
none_spoken (TxOut.Close p ∷ outs) h = none_spoken outs h

none_grants : (t : Transaction) (arcs : List Arc) → carries_none is_clear_done (grants t arcs) ≡ true
none_grants t [] = refl
none_grants t (a ∷ arcs) = grind (arith, none_grants t arcs)

abbrev pub says_clear : ℕ → List Out → Bool
says_clear p outs = has_said is_clear_done (said_to p outs)

none_played : (d : Digest) (t : Transaction) (w : Passage) (asks : Turn) → IsWhole asks → (arcs : List Arc) (p : ℕ) → carries_none is_clear_done asks.outs ≡ true → says_clear p (played d t w asks arcs).1 ≡ false
unfolding played
none_played d t Commits asks whole arcs p h =
    let s = around_grants asks in
    let k = parts_none is_clear_done s (ap (carries_none is_clear_done) whole ∙ h) in
    let one = performed arcs s.0 in
    let mid : List Arc = committed_arcs d t one.0 in
    let two = performed mid (grants t one.0) in
    let three = performed two.0 s.1 in
    said_both is_clear_done p (one.1 ++ two.1) three.1
    ∙ rw (said_both is_clear_done p one.1 two.1, said_none is_clear_done p arcs s.0 (and_left (carries_none is_clear_done s.0) (carries_none is_clear_done s.1) k), said_none is_clear_done p mid (grants t one.0) (none_grants t one.0), said_none is_clear_done p two.0 s.1 (and_right (carries_none is_clear_done s.0) (carries_none is_clear_done s.1) k)) refl
none_played d t _ asks whole arcs p h = said_none is_clear_done p arcs asks.outs h

-- ---- a node

abbrev pub is_complete : Indication → Bool
is_complete (Indication.CommitComplete r) = true
is_complete _ = false

pub completes_told : (outs : List Out) → tells_commit_complete outs ≡ out_tells is_complete outs
completes_told (Out.Tell i ∷ outs) = grind (arith, completes_told outs)
completes_told (Out.Send a r ∷ outs) = completes_told outs
completes_told _ = refl

asked_complete : (outs : List TxOut) (r : Report) → IsToldIn outs (Indication.CommitComplete r) → asks_tell is_complete outs ≡ true
asked_complete [] r h = absurd h
asked_complete (TxOut.Tell j ∷ outs) r (inl h) = rw (h, asks_tell) refl
asked_complete (TxOut.Tell j ∷ outs) r (inr h) = let rest = asked_complete outs r h in rw (rest, asks_tell) (grind arith)
asked_complete (TxOut.Carry q w ∷ outs) r h = asked_complete outs r h
asked_complete (TxOut.Shut q ∷ outs) r h = asked_complete outs r h
asked_complete (TxOut.Recovery a w ∷ outs) r h = asked_complete outs r h
asked_complete (TxOut.Close q ∷ outs) r h = asked_complete outs r h

-- how a tree ends
pub data Finishes (e : Event) (fall : Bool) (s : Digest) (t : Aaid) (d : Digest) (m : Move) : Type 0 where
  Now_rolls : is_now t s.current ≡ true → fall ≡ true → Finishes e fall s t d m
  Rolled_on : is_rolling (phase_of d) ≡ true → Finishes e fall s t d m
  Now_leaves : is_now t s.current ≡ true → is_unchanged e ≡ true → Finishes e fall s t d m
  Now_told : is_now t s.current ≡ true → out_tells is_complete m.outs ≡ true → Finishes e fall s t d m

-- an event e whose prelude left s, from d on, for a tree t
pub record IsFinishing (who : Who) (e : Event) (fall : Bool) (s : Digest) (t : Aaid) (d : Digest) (m : Move) : Type 0 where
  pub over : IsLate d → is_old who d t.mark ≡ true → is_now t d.current ≡ true → (is_now t m.next.current ≡ true) ⊎ Finishes e fall s t d m
  pub says : (p : ℕ) → is_now t s.current ≡ true → says_clear p m.outs ≡ true → (ends_tree t m.rec ≡ true) × (is_committing (phase_of s) ≡ true)
  pub keeps : keeps_tree t m.next.kept ≡ true → (keeps_tree t d.kept ≡ true) ⊎ (damages_tree t m.rec ≡ true)
  pub clears : ends_tree t m.rec ≡ true → (keeps_tree t d.kept ≡ true) ⊎ (is_now t s.current ≡ true) × (is_committing (phase_of s) ≡ true) × (out_tells is_complete_none m.outs ≡ true)

finishing_same : (who : Who) (e : Event) (fall : Bool) (s : Digest) (t : Aaid) (d : Digest) (m : Move) → m.next.current ≡ d.current → ((p : ℕ) → says_clear p m.outs ≡ false) → m.rec ≡ None → m.next.kept ≡ d.kept → IsFinishing who e fall s t d m
finishing_same who e fall s t d m cur none quiet kept = record {
  over = λ late old n. inl (ap (is_now t) cur ∙ n);
  says = λ p n h. absurd (cc (none p, h));
  keeps = λ h. inl (ap (keeps_tree t) (sym kept) ∙ h);
  clears = λ h. absurd (cc (ap (ends_tree t) quiet, h));
}

finishing_keep : (who : Who) (e : Event) (fall : Bool) (s : Digest) (t : Aaid) (d : Digest) (k : Kept) (f : KeptEvent) → IsAmong d.kept k → IsFinishing who e fall s t d (keep (settled k f) d)
finishing_keep who e fall s t d k f among = record {
  over = λ late old n. inl n;
  says = λ p n h. absurd (cc (said_none is_clear_done p d.arcs (settled k f).outs (none_spoken (settled k f).outs (settled_spoken k f)), h));
  keeps = λ h. damage_after t (settled k f).rec d.kept h;
  clears = λ h. inl (among_tree t d.kept k among (settled_ends t k f h));
}

finishing_turned : (who : Who) (e : Event) (fall : Bool) (s : Digest) (t : Aaid) (f : TxEvent) (d : Digest) (c : Current) → (falls f (seen who d.arcs c) ≡ true → fall ≡ true) → d.current ≡ Some c → s.current ≡ Some c → IsAsked e c f → IsPut f (seen who d.arcs c)
    → IsFinishing who e fall s t d (turned who f d c)
finishing_turned who e fall s t f d c so now at asked put = record {
  over = λ late old n. over (late c now) (ap (is_now t) (sym now) ∙ n) (is_nil a.next.phase) refl;
  says = λ p n h. says p n h (every_turn f q IsDoneTurn (done_turns f q) put);
  keeps = λ h. damage_after t a.rec d.kept h;
  clears = λ h. inr (ap (is_now t) at ∙ ends_key t q a.next a.rec own.passed.logs h, ap is_committing (phase_at s c at) ∙ (own.clears (tree_clear t a.rec h)).0, told_played is_complete_none d q w a (whole_turn f q) (entered q w d.arcs) ∙ every_turn f q IsToldTurn (told_turns f q) put (tree_clear t a.rec h));
}
  where
    q : Transaction
    q = seen who d.arcs c

    a : Turn
    a = transacted f q

    w : Passage
    w = passage (is_leaving f) q.phase a.next.phase

    m : Move
    m = turned who f d c

    own : IsClearing f q q a
    own = clearing_turn f q put

    spoken : IsOutspoken q a
    spoken = outspoken_event f q put

    says : (p : ℕ) → is_now t s.current ≡ true → says_clear p m.outs ≡ true → IsDoneTurn q a → (ends_tree t m.rec ≡ true) × (is_committing (phase_of s) ≡ true)
    says p n h (inl i) = absurd (cc (none_played d q w a (whole_turn f q) (entered q w d.arcs) p i, h))
    says p n h (inr i) = (clear_tree t q a.next a.rec own.passed.logs (ap (is_now t) (sym at) ∙ n) i, ap is_committing (phase_at s c at) ∙ (own.clears i).0)

    told : is_committing c.phase ≡ true → is_nil a.next.phase ≡ true → out_tells is_complete m.outs ≡ true
    told committing nil = let k = spoken.completes committing nil in told_played is_complete d q w a (whole_turn f q) (entered q w d.arcs) ∙ asked_complete a.outs k.0 k.1

    keeping : (r : Option LogRec) → IsLogged q r a.next → is_keeping_rec r ≡ true → is_committing c.phase ≡ true
    keeping (Some (LogRec.Damage n j u o x cs)) l h = l.1 h
    keeping None l h = absurd (cc (h))
    keeping (Some (LogRec.Boot n)) l h = absurd (cc (h))
    keeping (Some (LogRec.Ready n j u cs)) l h = absurd (cc (h))
    keeping (Some (LogRec.Heuristic n j o)) l h = absurd (cc (h))
    keeping (Some (LogRec.Commit n j u cs)) l h = absurd (cc (h))
    keeping (Some (LogRec.End n j o)) l h = absurd (cc (h))

    departs_is : (g : TxEvent) → is_leaving g ≡ true → g ≡ TxEvent.User Request.Unchanged
    departs_is (TxEvent.User Request.Unchanged) h = refl
    departs_is g h = absurd (cc (h))

    over : is_nil c.phase ≡ false → is_aaid t (aaid_of c.key) ≡ true → (v : Bool) → is_nil a.next.phase ≡ v → (is_now t m.next.current ≡ true) ⊎ Finishes e fall s t d m
    over late tree false i = inl (stay (remaining a.next) refl)
      where
        stay : (o : Option Current) → remaining a.next ≡ o → is_now t o ≡ true
        stay None j = absurd (grind (arith, i, j))
        stay (Some x) j = let l = left_is a.next x j in ap (λ (k : _). is_aaid t (aaid_of k)) (l.0 ∙ own.passed.key) ∙ tree
    over late tree true i = inr (by (own.over late i))
      where
        here : is_now t s.current ≡ true
        here = ap (is_now t) at ∙ tree

        by : is_ended_by f q q a.rec ≡ true → Finishes e fall s t d m
        by h = go (falls f q) refl (is_rolling c.phase) refl (is_leaving f) refl (is_clear_rec a.rec) refl (is_keeping_rec a.rec) refl
          where
            go : (v : Bool) → falls f q ≡ v → (x : Bool) → is_rolling c.phase ≡ x → (y : Bool) → is_leaving f ≡ y → (z : Bool) → is_clear_rec a.rec ≡ z → (u : Bool) → is_keeping_rec a.rec ≡ u → Finishes e fall s t d m
            go true j x k y l z o u r = Now_rolls here (so j)
            go false j true k y l z o u r = Rolled_on (ap is_rolling (phase_at d c now) ∙ k)
            go false j false k true l z o u r = Now_leaves here (unchanged_asked e c (subst (λ (g : TxEvent). IsAsked e c g) (departs_is f l) asked))
            go false j false k false l true o u r = Now_told here (told (own.clears o).0 i)
            go false j false k false l false o true r = Now_told here (told (keeping a.rec own.passed.logs r) i)
            go false j false k false l false o false r = let all : is_ended_by f q q a.rec ≡ false = rw (j, k, l, o, r) refl in absurd (cc (h, all))

finishing_begins : (who : Who) (e : Event) (fall : Bool) (s : Digest) (t : Aaid) (d : Digest) (q : ℕ) → IsFinishing who e fall s t d (begin_on who q d)
finishing_begins who e fall s t d q = begin_cases (IsFinishing who e fall s t d) who q d still on
  where
    still : IsFinishing who e fall s t d (move [] d)
    still = finishing_same who e fall s t d (move [] d) refl (λ p. refl) refl refl

    on : (c : Current) (a : Arc) → d.current ≡ Some c → find_arc d.arcs q ≡ Some a → may_begin_on who d a ≡ true → IsFinishing who e fall s t d (begun_over who q d c a)
    on c a now found may = record {
      over = λ late old n. inl (over (late c now) (ap (is_now t) (sym now) ∙ n));
      says = λ p n h. absurd (cc (said_none is_clear_done p (with_dialogue d.arcs q (begun_by (named_holder a.dialogue) Side.Superior)) (TxOut.Carry q (DialogueRecord.Begin (aaid_of c.key) (record { superior = who.site; mark = next_mark who d }) (named_holder a.dialogue)) ∷ []) refl, h));
      keeps = λ h. inl h;
      clears = λ h. absurd (cc (h));
    }
      where
        over : is_nil c.phase ≡ false → is_aaid t (aaid_of c.key) ≡ true → is_now t (with_begun who (with_mark_drawn d) c (record { addr = a.peer; branch = record { superior = who.site; mark = next_mark who d } })).current ≡ true
        over late tree = grind (arith, late, tree)

finishing_then : (who : Who) (e : Event) (fall : Bool) (s : Digest) (t : Aaid) (d : Digest) (a : Move) (f : Digest → Move) → IsTreed who s fall t 0 d a → (a.rec ≡ None) ⊎ ((f a.next).rec ≡ None) → IsFinishing who e fall s t d a → IsFinishing who e fall s t a.next (f a.next) → IsFinishing who e fall s t d (followed a f)
finishing_then who e fall s t d a f tree quiet one two = record {
  over = over;
  says = λ p n h. says p n (or_case (says_clear p a.outs) (says_clear p b.outs) (sym (said_both is_clear_done p a.outs b.outs) ∙ h)) which;
  keeps = λ h. elim (two.keeps h) [
    | inr i ↦ inr (from_b which i)
    | inl i ↦ elim (one.keeps i) [ inl j ↦ inl j | inr j ↦ inr (from_a which j) ]
  ];
  clears = λ h. clears h which;
}
  where
    b : Move
    b = f a.next

    m : Move
    m = followed a f

    Which : Type 0
    Which = (a.rec ≡ None) × (m.rec ≡ b.rec) ⊎ (b.rec ≡ None) × (m.rec ≡ a.rec)

    which : Which
    which = later_rec a.rec b.rec quiet

    from_a : Which → damages_tree t a.rec ≡ true → damages_tree t m.rec ≡ true
    from_a (inl w) h = absurd (cc (ap (damages_tree t) w.0, h))
    from_a (inr w) h = ap (damages_tree t) w.1 ∙ h

    from_b : Which → damages_tree t b.rec ≡ true → damages_tree t m.rec ≡ true
    from_b (inl w) h = ap (damages_tree t) w.1 ∙ h
    from_b (inr w) h = absurd (cc (ap (damages_tree t) w.0, h))

    also : (xs ys : Bool) → xs ≡ true → (ys || xs) ≡ true
    also xs ys h = rw h (grind arith)

    clears : ends_tree t m.rec ≡ true → Which → (keeps_tree t d.kept ≡ true) ⊎ (is_now t s.current ≡ true) × (is_committing (phase_of s) ≡ true) × (out_tells is_complete_none m.outs ≡ true)
    clears h (inr w) = elim (one.clears (ap (ends_tree t) (sym w.1) ∙ h)) [ inl k ↦ inl k | inr k ↦ (let x = k.2 in inr (k.0, k.1, told_append is_complete_none a.outs b.outs ∙ rw x refl)) ]
    clears h (inl w) = elim (two.clears (ap (ends_tree t) (sym w.1) ∙ h)) [
      | inl k ↦ elim (one.keeps k) [ inl j ↦ inl j | inr j ↦ absurd (cc (ap (damages_tree t) w.0, j)) ]
      | inr k ↦ inr (k.0, k.1, told_append is_complete_none a.outs b.outs ∙ also (out_tells is_complete_none b.outs) (out_tells is_complete_none a.outs) k.2)
    ]

    says : (p : ℕ) → is_now t s.current ≡ true → (says_clear p a.outs ≡ true) ⊎ (says_clear p b.outs ≡ true) → (a.rec ≡ None) × (m.rec ≡ b.rec) ⊎ (b.rec ≡ None) × (m.rec ≡ a.rec) → (ends_tree t m.rec ≡ true) × (is_committing (phase_of s) ≡ true)
    says p n (inl i) (inl w) = let x = one.says p n i in absurd (cc (ap (ends_tree t) w.0, x.0))
    says p n (inl i) (inr w) = let x = one.says p n i in (ap (ends_tree t) w.1 ∙ x.0, x.1)
    says p n (inr i) (inl w) = let x = two.says p n i in (ap (ends_tree t) w.1 ∙ x.0, x.1)
    says p n (inr i) (inr w) = let x = two.says p n i in absurd (cc (ap (ends_tree t) w.0, x.0))

    told : (out_tells is_complete a.outs || out_tells is_complete b.outs) ≡ true → out_tells is_complete m.outs ≡ true
    told h = told_append is_complete a.outs b.outs ∙ h

    first : Finishes e fall s t d a → Finishes e fall s t d m
    first (Now_rolls i j) = Now_rolls i j
    first (Rolled_on i) = Rolled_on i
    first (Now_leaves i j) = Now_leaves i j
    first (Now_told i j) = Now_told i (told (rw j refl))

    second : IsLate d → is_now t a.next.current ≡ true → Finishes e fall s t a.next b → Finishes e fall s t d m
    second late here (Now_rolls i j) = Now_rolls i j
    second late here (Rolled_on i) = elim (or_case (is_now t d.current && is_rolling (phase_of d)) (is_now t s.current && fall) (tree.rolling late here i)) [
      | inl j ↦ Rolled_on (and_right (is_now t d.current) (is_rolling (phase_of d)) j)
      | inr j ↦ Now_rolls (and_left (is_now t s.current) fall j) (and_right (is_now t s.current) fall j)
    ]
    second late here (Now_leaves i j) = Now_leaves i j
    second late here (Now_told i j) = Now_told i (told (rw j (grind arith)))

    over : IsLate d → is_old who d t.mark ≡ true → is_now t d.current ≡ true → (is_now t b.next.current ≡ true) ⊎ Finishes e fall s t d m
    over late old n = elim (one.over late old n) [
      | inr i ↦ inr (first i)
      | inl i ↦ elim (two.over (tree.late late) (old_kept who d a.next t.mark tree.boot tree.drawn old) i) [ inl j ↦ inl j | inr j ↦ inr (second late i j) ]
    ]

abbrev IsFinishingAll : Who → Event → Bool → Digest → Aaid → Digest → Move → Type 0
IsFinishingAll who e fall s t d m = IsTreed who s fall t 0 d m × IsFinishing who e fall s t d m

finishing_moves : (who : Who) (e : Event) (fall : Bool) (s : Digest) (t : Aaid) → ((c : Current) (f : TxEvent) (arcs : List Arc) → s.current ≡ Some c → IsAsked e c f → falls f (seen who arcs c) ≡ true → fall ≡ true) → Moves who e s (IsFinishingAll who e fall s t)
finishing_moves who e fall s t so = record {
  still = λ d. (tree.still d, finishing_same who e fall s t d (move [] d) refl (λ p. refl) refl refl);
  chain = λ d a f one two quiet. (tree.chain d a f one.0 two.0 quiet, finishing_then who e fall s t d a f one.0 quiet one.1 two.1);
  speaks = λ d outs h said told. (tree.speaks d outs h said told, finishing_same who e fall s t d (perform outs d) refl (λ p. said_none is_clear_done p d.arcs outs (none_spoken outs h)) refl refl);
  changes_dialogue = λ d q f m by one. (tree.changes_dialogue d q f m by one.0, alike (with_dialogue d.arcs q f) d.kept d m (λ i. i) one.1);
  drops_arc = λ d q m at one. (tree.drops_arc d q m at one.0, alike (without_arc d.arcs q) d.kept d m (λ i. i) one.1);
  notes_kept = λ d ks m held one. (tree.notes_kept d ks m held one.0, alike d.arcs ks d m (λ i. sym (forgotten_tree t d.kept) ∙ ap (keeps_tree t) (sym held.1) ∙ forgotten_tree t ks ∙ i) one.1);
  keeps = λ d k f held. (tree.keeps d k f held, finishing_keep who e fall s t d k f held.1);
  turns = λ d c f now at asked put gone. (tree.turns d c f now at asked put gone, finishing_turned who e fall s t f d c (so c f d.arcs at asked) now at asked put);
  begins = λ d q may. (tree.begins d q may, finishing_begins who e fall s t d q);
  roots = λ d m nil may one. (tree.roots d m nil may one.0, record { over = λ late old n. absurd (cc (n, nil_now d t late nil)); says = one.1.says; keeps = one.1.keeps; clears = one.1.clears });
}
  where
    tree : Moves who e s (IsTreed who s fall t 0)
    tree = treed_moves who e s fall t 0 so

    alike : (arcs : List Arc) (ks : List Kept) (d : Digest) (m : Move) → (keeps_tree t ks ≡ true → keeps_tree t d.kept ≡ true) → IsFinishing who e fall s t (record d { arcs = arcs; kept = ks }) m → IsFinishing who e fall s t d m
    alike arcs ks d m same one = record {
      over = λ late old n. elim (one.over late old n) [ inl i ↦ inl i | inr i ↦ inr (ends i) ];
      says = one.says;
      keeps = λ h. elim (one.keeps h) [ inl i ↦ inl (same i) | inr i ↦ inr i ];
      clears = λ h. elim (one.clears h) [ inl i ↦ inl (same i) | inr i ↦ inr i ];
    }
      where
        ends : Finishes e fall s t (record d { arcs = arcs; kept = ks }) m → Finishes e fall s t d m
        ends (Now_rolls i j) = Now_rolls i j
        ends (Rolled_on i) = Rolled_on i
        ends (Now_leaves i j) = Now_leaves i j
        ends (Now_told i j) = Now_told i j

pub finishing_event : (who : Who) (d : Digest) (e : Event) (t : Aaid) → IsLate d → refusal who d e ≡ None → IsFinishing who e (rolls who d e) (prelude who d e) t (prelude who d e) (action who d e)
finishing_event who d e t late ok =
    (every_move who d e (IsFinishingAll who e (rolls who d e) (prelude who d e) t) (finishing_moves who e (rolls who d e) (prelude who d e) t (λ c f arcs at asked h. rolls_so who d e ok c f arcs at asked h)) late ok).1
