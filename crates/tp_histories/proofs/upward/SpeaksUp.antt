-- In every legal history what a subordinate says to its superior stands in order.
use Rattle.std.proofs.Common.{◌≡◌, ◌+◌, ◌⊎◌, inl, inr, ℕ, suc, Bool, true, false, refl, ap, sym, subst, ◌∙◌, arith, Option, Some, None, List, [], ◌∷◌, ◌++◌, length, slice_get}
use Rattle.tp_names.specs.declared.identifiers.Mark.{Mark}
use Rattle.tp_names.specs.declared.identifiers.Aaid.{Aaid}
use Rattle.tp_names.specs.declared.identifiers.Addr.{Addr}
use Rattle.tp_names.specs.declared.outcome.Outcome.{Outcome}
use Rattle.tp_names.specs.declared.outcome.Report.{Report}
use Rattle.tp_names.specs.Same.{is_aaid}
use Rattle.tp_records.specs.declared.indication.Indication.{Indication}
use Rattle.tp_records.specs.declared.dialogue.DialogueRecord.{DialogueRecord}
use Rattle.tp_model.specs.declared.arc.Phase.{Phase}
use Rattle.tp_model.specs.Parts.{Who, Origin, Event, Out, Entry, Link, Idle, Live, Key, Under, Current, Digest}
use Rattle.tp_model.specs.Links.{is_live}
use Rattle.tp_model.specs.Dialogues.{is_nil, is_active, is_committing, is_rolling}
use Rattle.tp_model.specs.Arcs.{link_with}
use Rattle.tp_model.specs.Transactions.{aaid_of}
use Rattle.tp_model.specs.Node.{next_mark, phase_of, fresh_current}
use Rattle.tp_model.specs.Events.{refusal, action, after_crash, recovered_current, started}
use Rattle.tp_model.specs.History.{digest, records}
use Rattle.tp_model.specs.Outcomes.{is_now, rolls, is_unchanged, decided, rolled, has_left, tells_complete_none, completed_none}
use Rattle.tp_model.specs.Promises.{has_told_in}
use Rattle.tp_model.specs.Questions.{said_to, is_at}
use Rattle.tp_model.specs.Legal.{IsGrown}
use Rattle.tp_steps.specs.Moves.{prelude}
use Rattle.tp_steps.specs.Traces.{sent_of, took_of}
use Rattle.tp_histories.specs.Traces.{sent_on, accepted_on}
use Rattle.tp_steps.specs.Trees.{commits_tree, out_tells}
use Rattle.tp_steps.specs.Passages.{is_commit_told, is_rollback_told, is_commit_rec}
use Rattle.tp_steps.specs.Clearing.{is_complete_none, is_complete, damages_tree, has_damage}
use Rattle.tp_histories.specs.Members.{IsOnce}
use Rattle.tp_histories.specs.Fates.{IsFated}
use Rattle.tp_steps.specs.Facts.{ends_in, BranchKey, begun_keys, last_from, words_to, key_at, KnowsAt, IsHeard}
use Rattle.tp_steps.specs.Upward.{voting_from, each_up, Deeds, holds_at, may_say}
use Rattle.tp_histories.specs.Upward.{VotesAt, TellsAt, IsRisen, deeds_of, SpeaksUp}
use Rattle.tp_histories.proofs.trees.Late.{late_law}
use Rattle.tp_steps.proofs.every.Preludes.{Prelinked, As_before, Now_idle, Now_called, Now_offered, Now_accepted, Now_confirmed, Took_one}
use Rattle.tp_histories.proofs.marks.Traced.{Told, traced_law, live_before, long_of}
use Rattle.tp_steps.proofs.lemmas.Words.{keys_append, commit_more, damage_first, damage_more}
use Rattle.tp_steps.proofs.words.Leaves.{aaid_same}
use Rattle.tp_steps.proofs.lemmas.Equality.{or_case, both_true}
use Rattle.tp_histories.proofs.trees.Knowing.{Came, As_it_was, By_begin, By_crash, came_by}
use Rattle.tp_histories.proofs.trees.Behind.{treed_rolls, commit_first}
use Rattle.tp_histories.proofs.trees.Entered.{Entered, Crashed, Begun, Plain, entered}
use Rattle.tp_histories.proofs.trees.Fated.{fated_law}
use Rattle.tp_steps.proofs.branches.Rolls.{phase_at}
use Rattle.tp_steps.proofs.lemmas.Folds.{key_before}
use Rattle.tp_histories.proofs.pairs.Paired.{at_prelude}
use Rattle.tp_histories.proofs.pairs.PairedSteps.{paired_law, reads_event, placed_event, fallen_rolled, told_entry, sent_said, sent_over}
use Rattle.tp_steps.proofs.lemmas.UpwardWords.{up_append, voting_append, up_weaker, say_wider, IsWider, words_up, words_voting}
use Rattle.tp_steps.proofs.words.Heard.{heard_event}
use Rattle.tp_histories.proofs.upward.Risen.{risen_event}
use Rattle.tp_steps.proofs.lemmas.Options.{some_same}
use Rattle.std.proofs.lemmas.Bool.{or_from}

-- ---- what an event tells of the tree that is current after its prelude

-- a tree that commits or rolls there did so before
pub record Before (d : Digest) (c : Current) : Type 0 where
  pub now : is_now (aaid_of c.key) d.current ≡ true
  pub phase : phase_of d ≡ c.phase

pub recovered_before : (o : Option Current) (c : Current) → recovered_current o ≡ Some c → (u : Current) × (o ≡ Some u) × (c.key ≡ u.key) × (c.phase ≡ u.phase)
recovered_before None c h = absurd cc
recovered_before (Some u) c h = (u, refl, grind (arith, h), grind (arith, h))

pub before : (who : Who) (d : Digest) (e : Event) (c : Current) → refusal who d e ≡ None → (prelude who d e).current ≡ Some c → is_active c.phase ≡ false → Before d c
before who d e c ok at past = go (came_by who d e ok)
  where
    go : Came who d e → Before d c
    go (As_it_was i) = let now : d.current ≡ Some c = sym i ∙ at in record { now = ap (is_now (aaid_of c.key)) now ∙ aaid_same (aaid_of c.key); phase = phase_at d c now }
    go (By_begin from x y q t b g a is found cur nil above) = let same = some_same (fresh_current (Under t b a.peer)) c (sym cur ∙ at) in absurd (cc (ap (λ (u : Current). is_active u.phase) same, past))
    go (By_crash is cur) =
        let r = recovered_before d.current c (sym cur ∙ at) in
        record { now = ap (is_now (aaid_of c.key)) r.1 ∙ ap (λ (k : Key). is_aaid (aaid_of c.key) (aaid_of k)) (sym r.2) ∙ aaid_same (aaid_of c.key); phase = phase_at d r.0 r.1 ∙ sym r.3 }

not_active_committing : (p : Phase) → is_committing p ≡ true → is_active p ≡ false
not_active_committing p h = grind (arith, h)

pub not_active_rolling : (p : Phase) → is_rolling p ≡ true → is_active p ≡ false
not_active_rolling p h = grind (arith, h)

pub complete_tells : (outs : List Out) → tells_complete_none outs ≡ out_tells is_complete_none outs
complete_tells [] = refl
complete_tells (Out.Tell (Indication.CommitComplete r) ∷ outs) = let rest = complete_tells outs in grind (arith, rest)
complete_tells (o ∷ outs) = let rest = complete_tells outs in grind (arith, rest)

pub complete_commit_told : (outs : List Out) → out_tells is_complete_none outs ≡ true → out_tells is_commit_told outs ≡ true
complete_commit_told [] h = h
complete_commit_told (Out.Send a r ∷ outs) h = complete_commit_told outs h
complete_commit_told (Out.Tell Indication.Commit ∷ outs) h = refl
complete_commit_told (Out.Tell (Indication.CommitComplete r) ∷ outs) h = refl
complete_commit_told (Out.Tell i ∷ outs) h = let some : out_tells is_complete_none outs ≡ true = grind (arith, h) in rw (complete_commit_told outs some) (grind arith)

told_weaker : (f g : Indication → Bool) → ((i : Indication) → f i ≡ true → g i ≡ true) → (outs : List Out) → out_tells f outs ≡ true → out_tells g outs ≡ true
told_weaker f g w [] h = h
told_weaker f g w (Out.Send a r ∷ outs) h = told_weaker f g w outs h
told_weaker f g w (Out.Tell i ∷ outs) h = elim (or_case (f i) (out_tells f outs) h) [ inl j ↦ (let k : g i ≡ true = w i j in rw k refl) | inr j ↦ (let k : out_tells g outs ≡ true = told_weaker f g w outs j in rw k (grind arith)) ]

complete_committed : (r : Report) (i : Indication) → is_complete Outcome.Commit r i ≡ true → is_commit_told i ≡ true
complete_committed r (Indication.CommitComplete s) h = refl
complete_committed r i h = absurd (cc (h))

complete_rolled : (r : Report) (i : Indication) → is_complete Outcome.Rollback r i ≡ true → is_rollback_told i ≡ true
complete_rolled r (Indication.RollbackComplete s) h = refl
complete_rolled r i h = absurd (cc (h))

pub tells_event : (o : Origin) (up : Option Addr) (e : Entry) (h : List Entry) → o.start.records ≡ [] → IsGrown o up (e ∷ h) → IsOnce o h
    → TellsAt (deeds_of o (e ∷ h)) e.event (rolls o.who (digest o h) e.event) (prelude o.who (digest o h) e.event) (action o.who (digest o h) e.event)
tells_event o up e h empty legal once = record {
  committing = λ c at i. let b = before o.who d e.event c legal.0 at (not_active_committing c.phase i) in commit_more (aaid_of c.key) e.rec (records o h) ((fated (aaid_of c.key)).committing b.now (ap is_committing b.phase ∙ i));
  commits = λ c at i. commit_first (aaid_of c.key) e.rec (records o h) (ap (commits_tree (aaid_of c.key)) (ap (λ (f : Entry). f.rec) (sym legal.1)) ∙ i);
  rolling = λ c at i. let b = before o.who d e.event c legal.0 at (not_active_rolling c.phase i) in rolled_later (aaid_of c.key) ((fated (aaid_of c.key)).rolling b.now (ap is_rolling b.phase ∙ i));
  falls = λ c at i. fallen_rolled o up e h legal i c at;
  leaves = λ c at i. left_now c i (came_by o.who d e.event legal.0) at;
  completes = λ c at i. done_now c i (entered o e h legal.0) at;
  damages = λ c at i. damage_first (aaid_of c.key) e.rec (records o h) (ap (damages_tree (aaid_of c.key)) (ap (λ (f : Entry). f.rec) (sym legal.1)) ∙ i);
  tells = λ c at u r i. told_now u r c i (entered o e h legal.0) at;
}
  where
    d : Digest
    d = digest o h

    fated : (t : Aaid) → IsFated o h t
    fated t = fated_law o up h t empty legal.3 once

    rolled_later : (t : Aaid) → rolled o t h ≡ true → rolled o t (e ∷ h) ≡ true
    rolled_later t r = rw r (grind arith)

    left_now : (c : Current) → is_unchanged e.event ≡ true → Came o.who d e.event → (prelude o.who d e.event).current ≡ Some c → has_left o (aaid_of c.key) (e ∷ h) ≡ true
    left_now c u (As_it_was i) at = let now : is_now (aaid_of c.key) d.current ≡ true = ap (is_now (aaid_of c.key)) (sym i ∙ at) ∙ aaid_same (aaid_of c.key) in rw (now, u) refl
    left_now c u (By_begin from x y q t b g a is found cur nil above) at = absurd (cc (u, ap is_unchanged is))
    left_now c u (By_crash is cur) at = absurd (cc (u, ap is_unchanged is))

    -- what tells of a completion was current before
    done_now : (c : Current) → out_tells is_complete_none (action o.who d e.event).outs ≡ true → Entered o e h → (prelude o.who d e.event).current ≡ Some c → completed_none o (aaid_of c.key) (e ∷ h) ≡ true
    done_now c told (Plain calm none same) at =
        let now : is_now (aaid_of c.key) d.current ≡ true = ap (is_now (aaid_of c.key)) (sym same ∙ at) ∙ aaid_same (aaid_of c.key) in
        let tell : tells_complete_none e.outs ≡ true = complete_tells e.outs ∙ ap (λ (f : Entry). out_tells is_complete_none f.outs) (sym legal.1) ∙ told in
        rw (now, tell) refl
    done_now c told (Begun from t b a key calm cur nil facts sent) at =
        let k = (treed_rolls o.who d e.event (aaid_of c.key) 0 (late_law o up h legal.3) legal.0).tells_commit (complete_commit_told (action o.who d e.event).outs told) in
        let same = some_same (fresh_current (Under t b a.peer)) k.0 (sym cur ∙ k.1) in
        let off : is_committing k.0.phase ≡ false = ap (λ (u : Current). is_committing u.phase) (sym same) in
        let none : is_commit_rec (action o.who d e.event).rec ≡ false = ap is_commit_rec facts.2 in
        absurd (cc (k.2, or_from (is_committing k.0.phase) (is_commit_rec (action o.who d e.event).rec) off none))
    done_now c told (Crashed is) at = absurd (cc (told, ap (λ (f : Event). out_tells is_complete_none (action o.who d f).outs) is))

    -- and with any report
    told_now : (u : Outcome) (r : Report) (c : Current) → out_tells (is_complete u r) (action o.who d e.event).outs ≡ true → Entered o e h → (prelude o.who d e.event).current ≡ Some c → has_told_in (out_tells (is_complete u r)) o (aaid_of c.key) (e ∷ h) ≡ true
    told_now u r c told (Plain calm none same) at =
        let now : is_now (aaid_of c.key) d.current ≡ true = ap (is_now (aaid_of c.key)) (sym same ∙ at) ∙ aaid_same (aaid_of c.key) in
        let tell : out_tells (is_complete u r) e.outs ≡ true = ap (λ (f : Entry). out_tells (is_complete u r) f.outs) (sym legal.1) ∙ told in
        rw (now, tell) refl
    told_now Outcome.Commit r c told (Begun from t b a key calm cur nil facts sent) at =
        let k = (treed_rolls o.who d e.event (aaid_of c.key) 0 (late_law o up h legal.3) legal.0).tells_commit (told_weaker (is_complete Outcome.Commit r) is_commit_told (complete_committed r) (action o.who d e.event).outs told) in
        let same = some_same (fresh_current (Under t b a.peer)) k.0 (sym cur ∙ k.1) in
        let off : is_committing k.0.phase ≡ false = ap (λ (u : Current). is_committing u.phase) (sym same) in
        let none : is_commit_rec (action o.who d e.event).rec ≡ false = ap is_commit_rec facts.2 in
        absurd (cc (k.2, or_from (is_committing k.0.phase) (is_commit_rec (action o.who d e.event).rec) off none))
    told_now Outcome.Rollback r c told (Begun from t b a key calm cur nil facts sent) at =
        let k = (treed_rolls o.who d e.event (aaid_of c.key) 0 (late_law o up h legal.3) legal.0).tells_rollback (told_weaker (is_complete Outcome.Rollback r) is_rollback_told (complete_rolled r) (action o.who d e.event).outs told) in
        let same = some_same (fresh_current (Under t b a.peer)) k.0 (sym cur ∙ k.1) in
        let off : is_rolling k.0.phase ≡ false = ap (λ (u : Current). is_rolling u.phase) (sym same) in
        absurd (cc (k.2, or_from (is_rolling k.0.phase) (rolls o.who d e.event) off facts.0))
    told_now u r c told (Crashed is) at = absurd (cc (told, ap (λ (f : Event). out_tells (is_complete u r) (action o.who d f).outs) is))

-- ---- Ready before the event

nothing_said : (xs : List DialogueRecord) → length xs ≡ 0 → voting_from false xs ≡ false
nothing_said [] h = refl
nothing_said (x ∷ xs) h = absurd cc

no_votes : (v : Bool) (c : Option Current) (p : ℕ) → v ≡ false → VotesAt v c p
no_votes v c p z h = absurd (cc (z, h))

votes_prelude : (o : Origin) (up : Option Addr) (e : Event) (h : List Entry) (p : ℕ) (x y : Mark) (s k : ℕ) → SpeaksUp o up h → IsGrown o up h → refusal o.who (digest o h) e ≡ None → is_at up p ≡ true
    → link_with (prelude o.who (digest o h) e).arcs p ≡ Live x y s k → (l : Link) → link_with (prelude o.who (digest o h) e).arcs p ≡ l → Prelinked o.who up p (digest o h) e l
    → VotesAt (voting_from false (sent_on x y p h)) (prelude o.who (digest o h) e).current p
unfolding after_crash
votes_prelude o up e h p x y s k old legal ok above live l at pre = go pre
  where
    d : Digest
    d = digest o h

    kept : (q : ℕ) → link_with d.arcs p ≡ Live x y s q → Came o.who d e → VotesAt (voting_from false (sent_on x y p h)) (prelude o.who d e).current p
    kept q was (As_it_was i) = subst (λ (c : Option Current). VotesAt (voting_from false (sent_on x y p h)) c p) (sym i) (old.votes p x y s q above was)
    kept q was (By_begin from z w r t b g a is found cur nil sup) = λ v. let c = old.votes p x y s q above was v in absurd (cc (sym (ap is_nil (phase_at d c.0 c.1)) ∙ nil, c.2))
    kept q was (By_crash is cur) = let idle : link_with (prelude o.who d e).arcs p ≡ Idle = ap (λ (f : Event). link_with (prelude o.who d f).arcs p) is in absurd (cc (idle, live))

    first : (z w : Mark) → l ≡ Live z w 0 0 → Prelinked o.who up p d e l → VotesAt (voting_from false (sent_on x y p h)) (prelude o.who d e).current p
    first z w i q =
        let same : Live x y s k ≡ Live z w 0 0 = sym live ∙ at ∙ i in
        let zs : s ≡ 0 = cc (same) in
        let long = long_of o.who up d e h (traced_law o up h legal) p l q x y s k (sym at ∙ live) in
        no_votes (voting_from false (sent_on x y p h)) (prelude o.who d e).current p (nothing_said (sent_on x y p h) (long.0 ∙ zs))

    go : Prelinked o.who up p d e l → VotesAt (voting_from false (sent_on x y p h)) (prelude o.who d e).current p
    go (As_before i none) = kept k (sym i ∙ sym at ∙ live) (came_by o.who d e ok)
    go (Now_idle i none) = absurd (cc (sym live ∙ at ∙ i))
    go (Now_called i down n none below calls) = absurd (cc (sym live ∙ at ∙ i))
    go (Now_offered z i u none) = absurd (cc (sym live ∙ at ∙ i))
    go (Now_accepted z i u n none nil) = first z (next_mark o.who d) i (Now_accepted z i u n none nil)
    go (Now_confirmed z w op i none) = first z w i (Now_confirmed z w op i none)
    go (Took_one a z w v u r i j node ev) =
        let same : Live x y s k ≡ Live z w v (suc u) = sym live ∙ at ∙ j in
        let ez : z ≡ x = cc (same) in
        let ew : w ≡ y = cc (same) in
        let ev : v ≡ s = cc (same) in
        kept u (i ∙ made z x w y v s u ez ew ev) (came_by o.who d e ok)
      where
        made : (z x w y : Mark) (v s u : ℕ) → z ≡ x → w ≡ y → v ≡ s → Live z w v u ≡ Live x y s u
        made z x w y v s u a b c = rw (a, b, c) refl

-- ---- the step

wider : (o : Origin) (e : Entry) (h : List Entry) (ks more : List BranchKey) → IsWider ks (deeds_of o h) (ks ++ more) (deeds_of o (e ∷ h))
wider o e h ks more n = (
  λ i. later (λ t. decided o t h) (λ t. decided o t (e ∷ h)) (λ t j. commit_more t e.rec (records o h) j) i,
  λ i. later (λ t. rolled o t h) (λ t. rolled o t (e ∷ h)) (λ t j. rw j (grind arith)) i,
  λ i. later (λ t. has_left o t h) (λ t. has_left o t (e ∷ h)) (λ t j. rw j (grind arith)) i,
  λ i. later (λ t. completed_none o t h) (λ t. completed_none o t (e ∷ h)) (λ t j. rw j (grind arith)) i,
  λ i. later (λ t. has_damage t (records o h)) (λ t. has_damage t (records o (e ∷ h))) (λ t j. damage_more t e.rec (records o h) j) i,
  λ u r i. later (λ t. has_told_in (out_tells (is_complete u r)) o t h) (λ t. has_told_in (out_tells (is_complete u r)) o t (e ∷ h)) (λ t j. rw j (grind arith)) i,
)
  where
    later : (f g : Aaid → Bool) → ((t : Aaid) → f t ≡ true → g t ≡ true) → holds_at ks n f ≡ true → holds_at (ks ++ more) n g ≡ true
    later f g w i = go (slice_get ks n) refl
      where
        go : (b : Option BranchKey) → slice_get ks n ≡ b → holds_at (ks ++ more) n g ≡ true
        go None j = absurd (cc (rw (j, holds_at) at i))
        go (Some b) j =
            let one : f b.0 ≡ true = rw (j, holds_at) at i in
            let wide : slice_get (ks ++ more) n ≡ Some b = key_before ks more n b j in
            rw (wide, holds_at) (w b.0 one)

speaks_step : (o : Origin) (up : Option Addr) (e : Entry) (h : List Entry) → o.start.records ≡ [] → IsGrown o up (e ∷ h) → IsOnce o h → SpeaksUp o up h → SpeaksUp o up (e ∷ h)
speaks_step o up e h empty legal once old = record {
  words = λ p x y above.
      let ks : List BranchKey = begun_keys (accepted_on x y p h ++ took_of x y p e.event) in
      let g : Deeds = deeds_of o (e ∷ h) in
      up_append (may_say ks g) 0 false (sent_on x y p h) (sent_of x y p e.outs)
      ∙ both_true (each_up (may_say ks g) 0 false (sent_on x y p h)) (each_up (may_say ks g) (ends_in (sent_on x y p h) + 0) (voting_from false (sent_on x y p h)) (sent_of x y p e.outs))
      (up_weaker (may_say (begun_keys (accepted_on x y p h)) (deeds_of o h)) (may_say ks g) (λ n v r i. say_wider (begun_keys (accepted_on x y p h)) ks (deeds_of o h) g (wide p x y) n v r i) 0 false (sent_on x y p h) (old.words p x y above))
      (subst (λ (n : ℕ). each_up (may_say ks g) n (voting_from false (sent_on x y p h)) (sent_of x y p e.outs) ≡ true) (sym (no_more (ends_in (sent_on x y p h))))
      (elim (sent_is p x y) [
        | inl none ↦ ap (each_up (may_say ks g) (ends_in (sent_on x y p h)) (voting_from false (sent_on x y p h))) none
        | inr w ↦
            (let pre = at_prelude o up e.event h p x y w.0 w.1 empty (paired_law o up h empty legal.3) legal.3 legal.0 w.2 (l p) refl (k_of p).pre in
            let votes = votes_prelude o up e.event h p x y w.0 w.1 old legal.3 legal.0 above w.2 (l p) refl (k_of p).pre in
            ap (each_up (may_say ks g) (ends_in (sent_on x y p h)) (voting_from false (sent_on x y p h))) (said p x y w.0 w.1 w.2)
            ∙ words_up ks g (ends_in (sent_on x y p h)) (voting_from false (sent_on x y p h)) (said_to p (action o.who d e.event).outs)
            ((risen p).words ks g (ends_in (sent_on x y p h)) (voting_from false (sent_on x y p h)) (no_branch p x y above pre.rows) ((heard p).upward above) pre.places votes (tells_event o up e h empty legal once)))
      ]));
  votes = λ p x y v k above live.
      let w = live_before p (l p) (link_with next.arcs p) (action o.who d e.event).outs x y v k (k_of p).linked.over live in
      let votes = votes_prelude o up e.event h p x y w.sent k old legal.3 legal.0 above w.is (l p) refl (k_of p).pre in
      subst (λ (b : Bool). VotesAt b next.current p) (sym (sent_votes p x y w.sent k w.is)) ((risen p).votes (voting_from false (sent_on x y p h)) (ap is_live live) votes);
}
  where
    d : Digest
    d = digest o h

    s : Digest
    s = prelude o.who d e.event

    next : Digest
    next = digest o (e ∷ h)

    l : ℕ → Link
    l p = link_with s.arcs p

    k_of : (p : ℕ) → Told o.who up p d e.event
    k_of p = told_entry o up e h legal p

    risen : (p : ℕ) → IsRisen e.event p (rolls o.who d e.event) s s (action o.who d e.event)
    risen p = risen_event o.who d e.event p (is_at up p) (rolls o.who d e.event) 1 (late_law o up h legal.3) legal.0 (reads_event o up e.event h p legal.0 (placed_event o up e h p empty legal))

    heard : (p : ℕ) → IsHeard p (is_at up p) (rolls o.who d e.event) 1 s s (action o.who d e.event)
    heard p = heard_event o.who d e.event p (is_at up p) (rolls o.who d e.event) 1 (late_law o up h legal.3) legal.0 (reads_event o up e.event h p legal.0 (placed_event o up e h p empty legal))

    -- the superior is no branch
    no_branch : (p : ℕ) (x y : Mark) → is_at up p ≡ true → KnowsAt (last_from None (sent_on x y p h)) s.current p → key_at s.current p ≡ None
    no_branch p x y above rows = on (key_at s.current p) refl
      where
        never : {k : BranchKey} → None ≡ Some k → ⊥
        never i = cc (i)

        on : (b : Option BranchKey) → key_at s.current p ≡ b → key_at s.current p ≡ None
        on None i = i
        on (Some k) i = absurd (never (sym ((paired_law o up h empty legal.3).upward p x y above) ∙ rows k i))

    said : (p : ℕ) (x y : Mark) (v k : ℕ) → l p ≡ Live x y v k → sent_of x y p e.outs ≡ said_to p (action o.who d e.event).outs
    said p x y v k is = sent_said o up e h legal p x y v k is

    sent_votes : (p : ℕ) (x y : Mark) (v k : ℕ) → l p ≡ Live x y v k → voting_from false (sent_on x y p h ++ sent_of x y p e.outs) ≡ voting_from (voting_from false (sent_on x y p h)) (words_to p (action o.who d e.event).outs)
    sent_votes p x y v k is =
        voting_append false (sent_on x y p h) (sent_of x y p e.outs) ∙ ap (voting_from (voting_from false (sent_on x y p h))) (said p x y v k is)
        ∙ sym (words_voting (voting_from false (sent_on x y p h)) (said_to p (action o.who d e.event).outs))

    sent_is : (p : ℕ) (x y : Mark) → (sent_of x y p e.outs ≡ []) ⊎ (v : ℕ) × (k : ℕ) × (l p ≡ Live x y v k)
    sent_is p x y = sent_over o up e h legal p x y

    no_more : (n : ℕ) → n + 0 ≡ n
    no_more n = omega arith

    wide : (p : ℕ) (x y : Mark) → IsWider (begun_keys (accepted_on x y p h)) (deeds_of o h) (begun_keys (accepted_on x y p h ++ took_of x y p e.event)) (deeds_of o (e ∷ h))
    wide p x y = subst (λ (ks : List BranchKey). IsWider (begun_keys (accepted_on x y p h)) (deeds_of o h) ks (deeds_of o (e ∷ h))) (sym (keys_append (accepted_on x y p h) (took_of x y p e.event))) (wider o e h (begun_keys (accepted_on x y p h)) (begun_keys (took_of x y p e.event)))

pub speaks_law : (o : Origin) (up : Option Addr) (h : List Entry) → o.start.records ≡ [] → IsGrown o up h → IsOnce o h → SpeaksUp o up h
unfolding started
speaks_law o up [] empty legal once = record { words = λ p x y above. refl; votes = λ p x y s k above live. absurd (cc (live)) }
speaks_law o up (e ∷ h) empty legal once = speaks_step o up e h empty legal once.1 (speaks_law o up h empty legal.3 once.1)
