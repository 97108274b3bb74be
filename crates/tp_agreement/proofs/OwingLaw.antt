-- In every legal history a node owes each branch that it began, until the branch is done or has left, or it rolled or left
-- itself. And what was said beside the associations was a question of the current key, or an answer.
use Rattle.std.proofs.Common.{◌≡◌, ◌≤◌, ◌+◌, ◌⊎◌, inl, inr, ℕ, suc, Bool, true, false, refl, ap, sym, subst, ◌∙◌, arith, Option, Some, None, List, [], ◌∷◌, ◌&&◌, ◌||◌, ◌==◌, not, length, slice_get}
use Rattle.std.proofs.lemmas.Bool.Decides.{nat_tests}
use Rattle.tp_names.specs.declared.identifiers.Aaid.{Aaid}
use Rattle.tp_names.specs.declared.identifiers.Mark.{Mark}
use Rattle.tp_names.specs.declared.identifiers.BranchId.{BranchId}
use Rattle.tp_names.specs.declared.identifiers.Addr.{Addr}
use Rattle.tp_names.specs.declared.children.Child.{Child}
use Rattle.tp_names.specs.declared.outcome.Outcome.{Outcome}
use Rattle.tp_names.specs.declared.outcome.Report.{Report}
use Rattle.tp_names.specs.Same.{is_aaid, is_branch, is_addr}
use Rattle.tp_names.specs.Reports.{is_report_none}
use Rattle.tp_records.specs.declared.request.Request.{Request}
use Rattle.tp_records.specs.declared.dialogue.DialogueRecord.{DialogueRecord}
use Rattle.tp_records.specs.declared.dialogue.Holder.{Holder}
use Rattle.tp_records.specs.declared.peer.PeerRecord.{PeerRecord}
use Rattle.tp_records.specs.declared.peer.RecState.{RecState}
use Rattle.tp_logrec.specs.declared.record.LogRec.{LogRec}
use Rattle.tp_model.specs.declared.arc.Phase.{Phase}
use Rattle.tp_model.specs.declared.transaction.TxEvent.{TxEvent}
use Rattle.tp_model.specs.declared.recovery.Kept.{Kept}
use Rattle.tp_model.specs.declared.recovery.Question.{Question}
use Rattle.tp_model.specs.Parts.{Who, Origin, Event, Entry, Live, Arc, Key, Branch, Current, Digest}
use Rattle.tp_model.specs.Dialogues.{is_nil, is_active, is_ready, is_committing, is_rolling}
use Rattle.tp_model.specs.Links.{is_live}
use Rattle.tp_model.specs.Arcs.{link_with}
use Rattle.tp_model.specs.Transactions.{Row, Transaction, aaid_of, child_of, fresh_branch, find_row_by_id}
use Rattle.tp_model.specs.Recovery.{recovery_answer}
use Rattle.tp_model.specs.Arrivals.{branch_key, find_branch_by_id, named_by_key, named_by_branch, known_of}
use Rattle.tp_model.specs.Node.{phase_of, seen, seen_row, seen_rows}
use Rattle.tp_model.specs.Events.{refusal, action, started, recovered, named_again, recovered_current, current_from}
use Rattle.tp_model.specs.History.{digest, records}
use Rattle.tp_model.specs.Outcomes.{is_now, is_unchanged, rolls, is_crash_in_active, rolled, decided, has_left}
use Rattle.tp_model.specs.Questions.{is_at}
use Rattle.tp_model.specs.Legal.{is_apart, are_apart, IsGrown}
use Rattle.tp_steps.specs.Histories.{brought}
use Rattle.tp_histories.specs.Histories.{IsSentIn, HasSent, HasBrought}
use Rattle.tp_steps.specs.Moves.{IsAsked, IsAskedByRequest, prelude}
use Rattle.tp_histories.specs.Traces.{sent_on}
use Rattle.tp_steps.specs.Trees.{commits_tree}
use Rattle.tp_steps.specs.Facts.{BranchKey, last_from, find_branch, open_at}
use Rattle.tp_steps.specs.Upward.{Deeds, holds_at}
use Rattle.tp_runs.specs.Heeded.{heeds_event, heeds}
use Rattle.tp_steps.specs.Branches.{may_leave, may_end}
use Rattle.tp_histories.specs.Members.{is_begun_by, IsOnce}
use Rattle.tp_agreement.specs.Owing.{is_standing, KeptOwes, Owes, keeps_rollback, OwesIn, UnmarkedRow, is_done_branch}
use Rattle.tp_steps.proofs.lemmas.Equality.{aaids_equal, branches_equal, addrs_equal, and_left, and_right}
use Rattle.tp_histories.proofs.trees.Late.{late_law}
use Rattle.tp_steps.proofs.words.Leaves.{aaid_same}
use Rattle.tp_steps.proofs.branches.Rolls.{phase_at}
use Rattle.tp_steps.proofs.every.Preludes.{takes_next}
use Rattle.tp_steps.proofs.lemmas.Words.{commit_more}
use Rattle.tp_steps.proofs.words.Treed.{now_some}
use Rattle.tp_histories.proofs.trees.Knowing.{Came, As_it_was, By_begin, By_crash, came_by, now_prelude, current_none}
use Rattle.tp_histories.proofs.trees.Behind.{commit_first}
use Rattle.tp_histories.proofs.trees.Fated.{fated_law}
use Rattle.tp_histories.proofs.upward.SpeaksUp.{Before, before, not_active_rolling}
use Rattle.tp_histories.proofs.trees.Above.{IsKeyOf}
use Rattle.tp_histories.proofs.pairs.PairedSteps.{paired_law, placed_event}
use Rattle.tp_histories.proofs.pairs.Committed.{committed_prelude, own_law}
use Rattle.tp_agreement.proofs.SettledAt.{settled_law}
use Rattle.tp_agreement.proofs.Marked.{Marked, MayMark}
use Rattle.tp_agreement.proofs.Accounts.{leaves_word, asked_took, TookWord, Balanced, keys_to, ends_from, votes_from, Accounts, last_at, marked_key, open_most}
use Rattle.tp_agreement.proofs.AccountSteps.{Rules, heeded_at, voted_ready, zero_or_one, open_counted, bound_phase}
use Rattle.tp_agreement.proofs.AccountLaw.{took_mark, left_key, holds_long}
use Rattle.tp_agreement.proofs.LeftDown.{Below, below_tail, accounts_of}
use Rattle.tp_agreement.proofs.BelowRuns.{TookKey, behind_key, current_took}
use Rattle.tp_histories.proofs.log.KeptLog.{kept_prelude}
use Rattle.tp_steps.proofs.log.SoundMoves.{IsSound, AllKeys, AreOld}
use Rattle.tp_histories.proofs.log.SoundLog.{sound_first, sound_law}
use Rattle.tp_steps.proofs.log.KinTurns.{kin}
use Rattle.tp_steps.proofs.log.OwnRecords.{AreAt}
use Rattle.tp_histories.proofs.log.WellMoves.{IsReachedKey}
use Rattle.tp_histories.proofs.log.WellLog.{all_well, IsWellLog, well_law}
use Rattle.tp_agreement.proofs.OwingMoves.{kept_noted, kept_unnoted, rollback_noted, QuitsAt, Done_here, Left_here, Done_told, Rolls_here, Leaves_here, Rolling_here, OwesOr, IsOwingMove, owing_event}

-- ---- a log that was empty at first

pub kept_none : (o : Origin) → o.start.records ≡ [] → (digest o []).kept ≡ []
unfolding started
kept_none o empty = rw empty refl

pub sound_at : (o : Origin) (up : Option Addr) (h : List Entry) → o.start.records ≡ [] → IsGrown o up h → IsSound o.who (digest o h)
sound_at o up h empty legal = (sound_law o up h first (ap recovered_current (current_none o empty) ∙ sym (ap (current_from None) empty)) legal).0
  where
    first : IsSound o.who (digest o [])
    first = (
      λ c is rolls. absurd (cc (current_none o empty, is)),
      subst (λ (ks : List Kept). AreOld o.who (digest o []) ks) (sym (kept_none o empty)) tt,
      λ c is. absurd (cc (current_none o empty, is)),
      λ c is act. absurd (cc (current_none o empty, is)),
    )

-- ---- an event

pub owing_entry : (o : Origin) (up : Option Addr) (e : Entry) (h : List Entry) → IsGrown o up (e ∷ h) → IsOwingMove o.who e.event (rolls o.who (digest o h) e.event) (prelude o.who (digest o h) e.event) (prelude o.who (digest o h) e.event) (action o.who (digest o h) e.event)
owing_entry o up e h legal = owing_event o.who (digest o h) e.event (late_law o up h legal.3) legal.0

pub sent_now : (o : Origin) (up : Option Addr) (e : Entry) (h : List Entry) (z : Addr) (r : PeerRecord) → IsGrown o up (e ∷ h) → IsSentIn e.outs z r → IsSentIn (action o.who (digest o h) e.event).outs z r
sent_now o up e h z r legal s = subst (λ (f : Entry). IsSentIn f.outs z r) (sym legal.1) s

-- a Begin that is taken rolls nothing
begun_rolls : (who : Who) (d : Digest) (t : Aaid) (f : Event) → is_begun_by t f ≡ true → rolls who d f ≡ false
begun_rolls who d t (Event.Arrive from (PeerRecord.OnAssoc x y q (DialogueRecord.Begin u b k))) h = refl
begun_rolls who d t f h = absurd (grind (arith, h))

pub rolled_here : (o : Origin) (up : Option Addr) (e : Entry) (h : List Entry) (t : Aaid) → IsGrown o up (e ∷ h) → is_now t (prelude o.who (digest o h) e.event).current ≡ true → rolls o.who (digest o h) e.event ≡ true → rolled o t (e ∷ h) ≡ true
rolled_here o up e h t legal n r = elim (now_prelude o.who (digest o h) e.event t legal.0 n) [
  | inl i ↦ rw (i, r) refl
  | inr i ↦ absurd (cc (begun_rolls o.who (digest o h) t e.event i, r))
]

pub rolled_more : (o : Origin) (e : Entry) (h : List Entry) (t : Aaid) → rolled o t h ≡ true → rolled o t (e ∷ h) ≡ true
rolled_more o e h t r = rw r (grind arith)

pub rolling_here : (o : Origin) (up : Option Addr) (e : Entry) (h : List Entry) (t : Aaid) → o.start.records ≡ [] → IsGrown o up (e ∷ h) → IsOnce o (e ∷ h) → (c : Current) → (prelude o.who (digest o h) e.event).current ≡ Some c → is_aaid t (aaid_of c.key) ≡ true → is_rolling c.phase ≡ true → rolled o t (e ∷ h) ≡ true
rolling_here o up e h t empty legal once c at tree roll =
    let b : Before (digest o h) c = before o.who (digest o h) e.event c legal.0 at (not_active_rolling c.phase roll) in
    let same : t ≡ aaid_of c.key = aaids_equal t (aaid_of c.key) tree in
    rolled_more o e h t ((fated_law o up h t empty legal.3 once.1).rolling (ap (λ (u : Aaid). is_now u (digest o h).current) same ∙ b.now) (ap is_rolling b.phase ∙ roll))

-- ---- a rollback that is kept for its damage rolled

pub back_rolled : (o : Origin) (up : Option Addr) (h : List Entry) (u : Aaid) → o.start.records ≡ [] → IsGrown o up h → keeps_rollback u (digest o h).kept ≡ true → rolled o u h ≡ true
back_rolled o up [] u empty legal k = absurd (cc (ap (keeps_rollback u) (kept_none o empty), k))
back_rolled o up (e ∷ h) u empty legal k = go ((owing_entry o up e h legal).rolls u k) (back_rolled o up h u empty legal.3)
  where
    s : Digest
    s = prelude o.who (digest o h) e.event

    first : keeps_rollback u s.kept ≡ keeps_rollback u (digest o h).kept
    first = sym (rollback_noted u s.kept) ∙ ap (keeps_rollback u) (kept_prelude o.who (digest o h) e.event).0 ∙ rollback_noted u (digest o h).kept

    go : (keeps_rollback u s.kept ≡ true) ⊎ (is_now u s.current ≡ true) × (rolls o.who (digest o h) e.event ≡ true) → (keeps_rollback u (digest o h).kept ≡ true → rolled o u h ≡ true) → rolled o u (e ∷ h) ≡ true
    go (inl i) rest = rolled_more o e h u (rest (sym first ∙ i))
    go (inr i) rest = rolled_here o up e h u legal i.0 i.1

-- ---- what was said

-- a question of a ready node is of a key that it took from its superior
pub record Asked (up : Option Addr) (h : List Entry) (z : Addr) (t : Aaid) (b : BranchId) : Type 0 where
  pub took : TookKey h t b
  pub above : is_at up z.node ≡ true

pub asked_key : (o : Origin) (up : Option Addr) (h : List Entry) (z : Addr) (t : Aaid) (b : BranchId) → o.start.records ≡ [] → IsGrown o up h → HasSent h z (PeerRecord.RecReady t b) → Asked up h z t b
asked_key o up [] z t b empty legal s = absurd s
asked_key o up (e ∷ h) z t b empty legal (inr s) =
    let k = asked_key o up h z t b empty legal.3 s in
    let w = k.took in
    record { took = record { from = w.from; x = w.x; y = w.y; seq = w.seq; holder = w.holder; took = inr w.took }; above = k.above }
asked_key o up (e ∷ h) z t b empty legal (inl s) =
    let w = (owing_entry o up e h legal).says z (PeerRecord.RecReady t b) (sent_now o up e h z (PeerRecord.RecReady t b) legal s) in
    let keyed : IsKeyOf o.who up w.0.key = (placed_event o up e h 0 empty legal).keyed w.0 w.1 in
    record {
      took = behind_key o up e h w.0 t b z legal w.1 w.2 (λ v at k. current_took o up h v t b z empty legal.3 at k);
      above = subst (λ (k : Key). IsKeyOf o.who up k) w.2 keyed;
    }

abbrev pub AnsweredUnknown : Origin → Addr → Aaid → BranchId → List Entry → Type 0
AnsweredUnknown o z t b [] = ⊥
AnsweredUnknown o z t b (e ∷ h) =
    (e.event ≡ Event.Arrive z (PeerRecord.RecReady t b)) × (recovery_answer (known_of (named_by_branch (digest o h) t b) b) Question.RecReady ≡ Some RecState.Unknown) ⊎ AnsweredUnknown o z t b h

pub unknown_answered : (o : Origin) (up : Option Addr) (h : List Entry) (z : Addr) (t : Aaid) (b : BranchId) → IsGrown o up h → HasSent h z (PeerRecord.RecReply t b RecState.Unknown) → AnsweredUnknown o z t b h
unknown_answered o up [] z t b legal s = s
unknown_answered o up (e ∷ h) z t b legal (inr s) = inr (unknown_answered o up h z t b legal.3 s)
unknown_answered o up (e ∷ h) z t b legal (inl s) =
    let w = (owing_entry o up e h legal).says z (PeerRecord.RecReply t b RecState.Unknown) (sent_now o up e h z (PeerRecord.RecReply t b RecState.Unknown) legal s) in
    inl (w.0, ap (λ (f : Event). recovery_answer (known_of (named_by_branch (prelude o.who (digest o h) f) t b) b) Question.RecReady) (sym w.0) ∙ w.1)

abbrev pub AnsweredDone : Origin → Addr → Aaid → BranchId → Report → List Entry → Type 0
AnsweredDone o z t b r [] = ⊥
AnsweredDone o z t b r (e ∷ h) =
    (e.event ≡ Event.Arrive z (PeerRecord.RecCommit t b)) × (recovery_answer (known_of (named_by_key (digest o h) (branch_key t b)) b) Question.RecCommit ≡ Some (RecState.Done r)) ⊎ AnsweredDone o z t b r h

pub done_answered : (o : Origin) (up : Option Addr) (h : List Entry) (z : Addr) (t : Aaid) (b : BranchId) (r : Report) → o.start.records ≡ [] → IsGrown o up h → HasSent h z (PeerRecord.RecReply t b (RecState.Done r)) → (decided o t h ≡ true) ⊎ AnsweredDone o z t b r h
done_answered o up [] z t b r empty legal s = inr s
done_answered o up (e ∷ h) z t b r empty legal (inr s) = elim (done_answered o up h z t b r empty legal.3 s) [ inl i ↦ inl (commit_more t e.rec (records o h) i) | inr i ↦ inr (inr i) ]
done_answered o up (e ∷ h) z t b r empty legal (inl s) =
    let w = (owing_entry o up e h legal).says z (PeerRecord.RecReply t b (RecState.Done r)) (sent_now o up e h z (PeerRecord.RecReply t b (RecState.Done r)) legal s) in
    elim (w (λ v. decided o v (e ∷ h))
    (λ v i. commit_more v e.rec (records o h) (own_law o up h v empty legal.3 (committed_prelude o.who (digest o h) e.event v legal.0 i)))
    (λ v i. commit_first v e.rec (records o h) (ap (commits_tree v) (ap (λ (f : Entry). f.rec) (sym legal.1)) ∙ i))) [
      | inl i ↦ inl i
      | inr i ↦ inr (inl (i.0, ap (λ (f : Event). recovery_answer (known_of (named_by_key (prelude o.who (digest o h) f) (branch_key t b)) b) Question.RecCommit) (sym i.0) ∙ i.1))
    ]

-- ---- branches stand at different numbers

pub spread_at : (o : Origin) (up : Option Addr) (h : List Entry) → o.start.records ≡ [] → IsGrown o up h → (c : Current) → (digest o h).current ≡ Some c → are_apart (kin c.branches) ≡ true
spread_at o up h empty legal c at = ((well_law o up h first legal).inside.2 c at).0
  where
    first : IsWellLog o o.start.records (digest o [])
    first = record {
      all = ap (all_well o.who.node (digest o []).boot) empty;
      inside = (
        λ c is root. absurd (cc (current_none o empty, is)),
        subst (λ (ks : List Kept). AllKeys (IsReachedKey (digest o []).boot) ks) (sym (kept_none o empty)) tt,
        λ c is. absurd (cc (current_none o empty, is)),
        subst (λ (ks : List Kept). AreAt o.who.node ks) (sym (kept_none o empty)) tt,
      );
    }

apart_from : (c : Child) (bs : List Branch) (b : BranchId) (w : Branch) → is_apart c (kin bs) ≡ true → find_branch_by_id bs b ≡ Some w → c.addr.node ≡ w.peer.node → ⊥
apart_from c [] b w h f same = cc (f)
apart_from c (x ∷ bs) b w h f same = go (is_branch x.id b) refl (apart_from c bs b w)
  where
    go : (v : Bool) → is_branch x.id b ≡ v → (is_apart c (kin bs) ≡ true → find_branch_by_id bs b ≡ Some w → c.addr.node ≡ w.peer.node → ⊥) → ⊥
    go true i rest =
        let one : Some x ≡ Some w = rw (i, find_branch_by_id) at f in
        let eq : x ≡ w = cc (one) in
        let at : c.addr.node ≡ x.peer.node = same ∙ ap (λ (y : Branch). y.peer.node) (sym eq) in
        absurd (grind (arith, nat_tests, h, at))
    go false i rest = rest (grind (arith, h)) (rw (i, find_branch_by_id) at f) same

pub same_peer : (bs : List Branch) (p : ℕ) (b : BranchId) (v w : Branch) → are_apart (kin bs) ≡ true → find_branch bs p ≡ Some v → find_branch_by_id bs b ≡ Some w → w.peer.node ≡ p → v ≡ w
same_peer [] p b v w h f g at = absurd (cc (f))
same_peer (x ∷ bs) p b v w h f g at = go (x.peer.node == p) refl (is_branch x.id b) refl (same_peer bs p b v w)
  where
    go : (k : Bool) → (x.peer.node == p) ≡ k → (l : Bool) → is_branch x.id b ≡ l → (are_apart (kin bs) ≡ true → find_branch bs p ≡ Some v → find_branch_by_id bs b ≡ Some w → w.peer.node ≡ p → v ≡ w) → v ≡ w
    go true i true j rest =
        let one : Some x ≡ Some v = rw i at f in
        let two : Some x ≡ Some w = rw (j, find_branch_by_id) at g in
        let ev : x ≡ v = cc (one) in
        let ew : x ≡ w = cc (two) in
        sym ev ∙ ew
    go true i false j rest =
        let here : x.peer.node ≡ p = grind (arith, nat_tests, i) in
        absurd (apart_from (child_of x) bs b w (and_left (is_apart (child_of x) (kin bs)) (are_apart (kin bs)) h) (rw (j, find_branch_by_id) at g) (here ∙ sym at))
    go false i true j rest =
        let two : Some x ≡ Some w = rw (j, find_branch_by_id) at g in
        let ew : x ≡ w = cc (two) in
        let here : x.peer.node ≡ p = ap (λ (y : Branch). y.peer.node) ew ∙ at in
        absurd (grind (arith, nat_tests, i, here))
    go false i false j rest = rest (and_right (is_apart (child_of x) (kin bs)) (are_apart (kin bs)) h) (rw i at f) (rw (j, find_branch_by_id) at g) at

pub rows_by_id : (arcs : List Arc) (bs : List Branch) (b : BranchId) (w : Row) → find_row_by_id (seen_rows arcs bs) b ≡ Some w → find_branch_by_id bs b ≡ Some w.branch
rows_by_id arcs [] b w h = absurd (cc (h))
rows_by_id arcs (x ∷ bs) b w h = go (is_branch x.id b) refl (rows_by_id arcs bs b w)
  where
    go : (v : Bool) → is_branch x.id b ≡ v → (find_row_by_id (seen_rows arcs bs) b ≡ Some w → find_branch_by_id bs b ≡ Some w.branch) → find_branch_by_id (x ∷ bs) b ≡ Some w.branch
    go true i rest =
        let one : Some (seen_row arcs x) ≡ Some w = rw (i, find_row_by_id) at h in
        rw (i, find_branch_by_id) (ap (λ (o : Option Row). elim o as (λ _. Option Branch) [ None ↦ None | Some r ↦ Some r.branch ]) one)
    go false i rest = rw (i, find_branch_by_id) (rest (rw (i, find_row_by_id) at h))

pub id_found : (bs : List Branch) (b : BranchId) (w : Branch) → find_branch_by_id bs b ≡ Some w → w.id ≡ b
id_found [] b w h = absurd (cc (h))
id_found (x ∷ bs) b w h = go (is_branch x.id b) refl (id_found bs b w)
  where
    go : (v : Bool) → is_branch x.id b ≡ v → (find_branch_by_id bs b ≡ Some w → w.id ≡ b) → w.id ≡ b
    go true i rest =
        let one : Some x ≡ Some w = rw (i, find_branch_by_id) at h in
        let eq : x ≡ w = cc (one) in
        ap (λ (y : Branch). y.id) (sym eq) ∙ branches_equal x.id b i
    go false i rest = rest (rw (i, find_branch_by_id) at h)

-- ---- the word that a branch is done

-- what Done with that report tells of the tree
abbrev pub done_tells : Deeds → Aaid → Report → Bool
done_tells g t r = g.committed t && (not (is_report_none r) || g.completed t) && (is_report_none r || g.damaged t) && g.told Outcome.Commit r t

-- Done that is taken in a commitment is of this branch
pub done_word : (o : Origin) (up : Option Addr) (p : ℕ) (g : Deeds) (rs : List LogRec) (e : Entry) (h : List Entry) → Rules o up p g rs e h → Accounts o p g rs h → (j : BranchKey) (may : TxEvent → Transaction → ℕ → Bool) (m : MayMark o.who e.event (prelude o.who (digest o h) e.event) may p j) (r : Report)
    → m.event ≡ TxEvent.Took p (DialogueRecord.Done r) → is_committing m.current.phase ≡ true → done_tells g j.0 r ≡ true
done_word o up p g rs e h rules old j may m r word committing = rw (place, holds_at) at said
  where
    d : Digest
    d = digest o h

    t : TookWord e.event p (DialogueRecord.Done r)
    t = asked_took e.event m.current p (DialogueRecord.Done r) (subst (λ (f : TxEvent). IsAsked e.event m.current f) word m.asked)

    ok : refusal o.who d (Event.Arrive t.from (PeerRecord.OnAssoc t.x t.y t.seq (DialogueRecord.Done r))) ≡ None
    ok = subst (λ (f : Event). refusal o.who d f ≡ None) t.is rules.legal.0

    sent : ℕ
    sent = (takes_next o.who d t.from t.x t.y t.seq (DialogueRecord.Done r) ok).sent

    live : link_with d.arcs p ≡ Live t.x t.y sent t.seq
    live = ap (link_with d.arcs) (sym t.at) ∙ (takes_next o.who d t.from t.x t.y t.seq (DialogueRecord.Done r) ok).live

    ks : List BranchKey
    ks = keys_to t.x t.y p h

    n : ℕ
    n = ends_from t.x t.y p h

    said : (holds_at ks n g.committed && (not (is_report_none r) || holds_at ks n g.completed) && (is_report_none r || holds_at ks n g.damaged) && holds_at ks n (g.told Outcome.Commit r)) ≡ true
    said = and_left (holds_at ks n g.committed && (not (is_report_none r) || holds_at ks n g.completed) && (is_report_none r || holds_at ks n g.damaged) && holds_at ks n (g.told Outcome.Commit r)) true (heeded_at p g rs e.event h t.from t.x t.y t.seq (DialogueRecord.Done r) t.is t.at rules.heeded)

    held : holds_at ks n g.committed ≡ true
    held = and_left (holds_at ks n g.committed) (not (is_report_none r) || holds_at ks n g.completed) (and_left (holds_at ks n g.committed && (not (is_report_none r) || holds_at ks n g.completed)) (is_report_none r || holds_at ks n g.damaged) (and_left (holds_at ks n g.committed && (not (is_report_none r) || holds_at ks n g.completed) && (is_report_none r || holds_at ks n g.damaged)) (holds_at ks n (g.told Outcome.Commit r)) said))

    long : suc n ≤ length ks
    long = holds_long ks n g.committed held

    at : d.current ≡ Some m.current
    at = sym (ap (λ (f : Event). (prelude o.who d f).current) t.is) ∙ m.at

    stands : Marked (λ b. true) d.current p j
    stands = record { current = m.current; branch = m.branch; at = at; found = m.found; is = refl; key = m.key }

    rows : last_from None (sent_on t.x t.y p h) ≡ Some j
    rows = (paired_law o up h rules.empty rules.legal.3).rows p t.x t.y sent t.seq live j (marked_key (λ b. true) d p j (late_law o up h rules.legal.3) stands)

    exactly : (a b : ℕ) → suc b ≤ a → a ≤ suc b → a ≡ suc b
    exactly a b h i = omega (arith, h, i)

    open_less : (a b q : ℕ) → a ≤ b + q → q ≤ 1 → a ≤ suc b
    open_less a b q h i = omega (arith, h, i)

    shut_less : (a b q : ℕ) → a ≤ b + 1 + q → q ≡ 0 → a ≤ suc b
    shut_less a b q h i = omega (arith, h, i)

    least : Balanced o h ks n (votes_from t.x t.y p h) (open_at d.current p) → length ks ≤ suc n
    least (inl b) = open_less (length ks) n (open_at d.current p) b (open_most d.current p)
    least (inr debt) = elim (zero_or_one (open_at d.current p) (open_most d.current p)) [
      | inl z ↦ shut_less (length ks) n (open_at d.current p) debt.least z
      | inr one ↦
          (let k = open_counted d m.current p (settled_law o up h rules.empty rules.legal.3) at (bound_phase m.current.phase committing) (ap is_live live) one in
          (old.clear t.x t.y sent t.seq k.0 live k.1 one).0)
    ]

    place : slice_get ks n ≡ Some j
    place = last_at (sent_on t.x t.y p h) n j rows (exactly (length ks) n long (least (old.balance t.x t.y sent t.seq live)))

done_front : (o : Origin) (up : Option Addr) (p : ℕ) (g : Deeds) (rs : List LogRec) (e : Entry) (h : List Entry) → Rules o up p g rs e h → Accounts o p g rs h → (j : BranchKey) (may : TxEvent → Transaction → ℕ → Bool) (m : MayMark o.who e.event (prelude o.who (digest o h) e.event) may p j) (r : Report)
    → m.event ≡ TxEvent.Took p (DialogueRecord.Done r) → is_committing m.current.phase ≡ true → (g.committed j.0 && (not (is_report_none r) || g.completed j.0) && (is_report_none r || g.damaged j.0)) ≡ true
done_front o up p g rs e h rules old j may m r word committing =
    and_left (g.committed j.0 && (not (is_report_none r) || g.completed j.0) && (is_report_none r || g.damaged j.0)) (g.told Outcome.Commit r j.0) (done_word o up p g rs e h rules old j may m r word committing)

-- its user was told so, with that report
pub told_word : (o : Origin) (up : Option Addr) (p : ℕ) (g : Deeds) (rs : List LogRec) (e : Entry) (h : List Entry) → Rules o up p g rs e h → Accounts o p g rs h → (j : BranchKey) (may : TxEvent → Transaction → ℕ → Bool) (m : MayMark o.who e.event (prelude o.who (digest o h) e.event) may p j) (r : Report)
    → m.event ≡ TxEvent.Took p (DialogueRecord.Done r) → is_committing m.current.phase ≡ true → g.told Outcome.Commit r j.0 ≡ true
told_word o up p g rs e h rules old j may m r word committing =
    and_right (g.committed j.0 && (not (is_report_none r) || g.completed j.0) && (is_report_none r || g.damaged j.0)) (g.told Outcome.Commit r j.0) (done_word o up p g rs e h rules old j may m r word committing)

committed_word : (o : Origin) (up : Option Addr) (p : ℕ) (g : Deeds) (rs : List LogRec) (e : Entry) (h : List Entry) → Rules o up p g rs e h → Accounts o p g rs h → (j : BranchKey) (m : MayMark o.who e.event (prelude o.who (digest o h) e.event) may_end p j) (r : Report)
    → m.event ≡ TxEvent.Took p (DialogueRecord.Done r) → is_committing m.current.phase ≡ true → g.committed j.0 ≡ true
committed_word o up p g rs e h rules old j m r word committing =
    and_left (g.committed j.0) (not (is_report_none r) || g.completed j.0) (and_left (g.committed j.0 && (not (is_report_none r) || g.completed j.0)) (is_report_none r || g.damaged j.0) (done_front o up p g rs e h rules old j may_end m r word committing))

-- RolledBack that is taken where the tree stands is of this branch, and its user was told so, with that report
pub backed_word : (o : Origin) (up : Option Addr) (p : ℕ) (g : Deeds) (rs : List LogRec) (e : Entry) (h : List Entry) → Rules o up p g rs e h → Accounts o p g rs h → (j : BranchKey) (from : Addr) (x y : Mark) (q : ℕ) (r : Report)
    → e.event ≡ Event.Arrive from (PeerRecord.OnAssoc x y q (DialogueRecord.RolledBack r)) → from.node ≡ p → Marked (λ b. true) (digest o h).current p j → g.told Outcome.Rollback r j.0 ≡ true
backed_word o up p g rs e h rules old j from x y q r is at stands = by (old.balance x y sent q live)
  where
    d : Digest
    d = digest o h

    ok : refusal o.who d (Event.Arrive from (PeerRecord.OnAssoc x y q (DialogueRecord.RolledBack r))) ≡ None
    ok = subst (λ (f : Event). refusal o.who d f ≡ None) is rules.legal.0

    sent : ℕ
    sent = (takes_next o.who d from x y q (DialogueRecord.RolledBack r) ok).sent

    live : link_with d.arcs p ≡ Live x y sent q
    live = ap (link_with d.arcs) (sym at) ∙ (takes_next o.who d from x y q (DialogueRecord.RolledBack r) ok).live

    ks : List BranchKey
    ks = keys_to x y p h

    n : ℕ
    n = ends_from x y p h

    said : (holds_at ks n g.rolled && holds_at ks n (g.told Outcome.Rollback r)) ≡ true
    said = and_left (holds_at ks n g.rolled && holds_at ks n (g.told Outcome.Rollback r)) true (heeded_at p g rs e.event h from x y q (DialogueRecord.RolledBack r) is at rules.heeded)

    back : holds_at ks n g.rolled ≡ true
    back = and_left (holds_at ks n g.rolled) (holds_at ks n (g.told Outcome.Rollback r)) said

    told : holds_at ks n (g.told Outcome.Rollback r) ≡ true
    told = and_right (holds_at ks n g.rolled) (holds_at ks n (g.told Outcome.Rollback r)) said

    exactly : (a b k : ℕ) → suc b ≤ a → a ≤ b + k → k ≤ 1 → a ≡ suc b
    exactly a b k h i j = omega (arith, h, i, j)

    by : Balanced o h ks n (votes_from x y p h) (open_at d.current p) → g.told Outcome.Rollback r j.0 ≡ true
    by (inl b) =
        let place = last_at (sent_on x y p h) n j ((paired_law o up h rules.empty rules.legal.3).rows p x y sent q live j (marked_key (λ b. true) d p j (late_law o up h rules.legal.3) stands)) (exactly (length ks) n (open_at d.current p) (holds_long ks n g.rolled back) b (open_most d.current p)) in
        rw (place, holds_at) at told
    by (inr debt) =
        let rolls : g.rolled debt.key.0 ≡ true = (let at = debt.at in rw (at, holds_at) at back) in
        absurd (rules.never debt.key rolls (voted_ready ks rs n debt.key debt.at (old.voted x y debt.voted)) debt.done)

-- and with no report, of one that was complete with none
pub completed_word : (o : Origin) (up : Option Addr) (p : ℕ) (g : Deeds) (rs : List LogRec) (e : Entry) (h : List Entry) → Rules o up p g rs e h → Accounts o p g rs h → (j : BranchKey) (may : TxEvent → Transaction → ℕ → Bool) (m : MayMark o.who e.event (prelude o.who (digest o h) e.event) may p j) (r : Report)
    → m.event ≡ TxEvent.Took p (DialogueRecord.Done r) → is_committing m.current.phase ≡ true → is_report_none r ≡ true → g.completed j.0 ≡ true
completed_word o up p g rs e h rules old j may m r word committing none =
    go (is_report_none r) none (and_right (g.committed j.0) (not (is_report_none r) || g.completed j.0) (and_left (g.committed j.0 && (not (is_report_none r) || g.completed j.0)) (is_report_none r || g.damaged j.0) (done_front o up p g rs e h rules old j may m r word committing)))
  where
    go : (v : Bool) → v ≡ true → (not v || g.completed j.0) ≡ true → g.completed j.0 ≡ true
    go true i h = h
    go false i h = absurd (cc (i))

-- and with a report, of one that is kept for its damage
pub damaged_word : (o : Origin) (up : Option Addr) (p : ℕ) (g : Deeds) (rs : List LogRec) (e : Entry) (h : List Entry) → Rules o up p g rs e h → Accounts o p g rs h → (j : BranchKey) (may : TxEvent → Transaction → ℕ → Bool) (m : MayMark o.who e.event (prelude o.who (digest o h) e.event) may p j) (r : Report)
    → m.event ≡ TxEvent.Took p (DialogueRecord.Done r) → is_committing m.current.phase ≡ true → is_report_none r ≡ false → g.damaged j.0 ≡ true
damaged_word o up p g rs e h rules old j may m r word committing some =
    go (is_report_none r) some (and_right (g.committed j.0 && (not (is_report_none r) || g.completed j.0)) (is_report_none r || g.damaged j.0) (done_front o up p g rs e h rules old j may m r word committing))
  where
    go : (v : Bool) → v ≡ false → (v || g.damaged j.0) ≡ true → g.damaged j.0 ≡ true
    go false i h = h
    go true i h = absurd (cc (i))

-- what ends a branch: its Done in a commitment, a word in a rollback, or a reply
data Ending (f : TxEvent) (q : Transaction) (p : ℕ) : Type 0 where
  By_word : (r : Report) → f ≡ TxEvent.Took p (DialogueRecord.Done r) → is_committing q.phase ≡ true → Ending f q p
  In_rollback : is_rolling q.phase ≡ true → Ending f q p
  By_answer : (c : BranchId) (r : Report) (w : Row) → f ≡ TxEvent.Reply c (RecState.Done r) → find_row_by_id q.rows c ≡ Some w → w.branch.peer.node ≡ p → Ending f q p

ending : (f : TxEvent) (q : Transaction) (p : ℕ) → may_end f q p ≡ true → Ending f q p
ending (TxEvent.Took n (DialogueRecord.Done r)) q p h = let same : n ≡ p = grind (arith, nat_tests, h) in By_word r (rw same refl) (grind (arith, h))
ending (TxEvent.Took n (DialogueRecord.RolledBack r)) q p h = In_rollback (grind (arith, h))
ending (TxEvent.Took n DialogueRecord.Left) q p h = In_rollback (grind (arith, h))
ending (TxEvent.Took n DialogueRecord.LeftEnd) q p h = In_rollback (grind (arith, h))
ending (TxEvent.Reply c (RecState.Done r)) q p h = go (find_row_by_id q.rows c) refl
  where
    go : (o : Option Row) → find_row_by_id q.rows c ≡ o → Ending (TxEvent.Reply c (RecState.Done r)) q p
    go None i = absurd (grind (arith, h, i))
    go (Some w) i = let at : w.branch.peer.node ≡ p = grind (arith, nat_tests, h, i) in By_answer c r w refl i at
ending f q p h = absurd (grind (arith, h))

-- the event that a reply is
pub record Replied (e : Event) (c : Current) (b : BranchId) (r : Report) : Type 0 where
  pub from : Addr
  pub tree : Aaid
  pub is : e ≡ Event.Arrive from (PeerRecord.RecReply tree b (RecState.Done r))
  pub same : is_aaid (aaid_of c.key) tree ≡ true
  pub peer : (x : Branch) → find_branch_by_id c.branches b ≡ Some x → is_addr x.peer from ≡ true

reply_request : (q : Request) (c : Current) (b : BranchId) (r : Report) → IsAskedByRequest q c (TxEvent.Reply b (RecState.Done r)) → ⊥
reply_request (Request.UAbort n) c b r asked = cc (asked.0)
reply_request (Request.DeferEnd n) c b r asked = cc (asked)
reply_request (Request.DeferGrant n) c b r asked = cc (asked)
reply_request (Request.Prepare n) c b r asked = cc (asked)
reply_request Request.Commit c b r asked = cc (asked)
reply_request Request.Done c b r asked = cc (asked)
reply_request Request.Rollback c b r asked = cc (asked)
reply_request Request.Unchanged c b r asked = cc (asked)
reply_request q c b r asked = asked

pub replied_by : (e : Event) (c : Current) (b : BranchId) (r : Report) → IsAsked e c (TxEvent.Reply b (RecState.Done r)) → Replied e c b r
replied_by (Event.Do q) c b r asked = absurd (reply_request q c b r asked)
replied_by (Event.Arrive a (PeerRecord.RecReply t d (RecState.Done w))) c b r asked =
    let id : b ≡ d = cc (asked.0) in
    let report : r ≡ w = cc (asked.0) in
    record { from = a; tree = t; is = word id report; same = asked.1; peer = λ x h. asked.2 x (subst (λ (i : BranchId). find_branch_by_id c.branches i ≡ Some x) id h) }
  where
    word : b ≡ d → r ≡ w → Event.Arrive a (PeerRecord.RecReply t d (RecState.Done w)) ≡ Event.Arrive a (PeerRecord.RecReply t b (RecState.Done r))
    word i j = rw (i, j) refl
replied_by (Event.Arrive a (PeerRecord.RecReply t d RecState.Commit)) c b r asked = absurd (cc (asked.0))
replied_by (Event.Arrive a (PeerRecord.RecReply t d RecState.Unknown)) c b r asked = absurd (cc (asked.0))
replied_by (Event.Arrive a (PeerRecord.RecReply t d RecState.RetryLater)) c b r asked = absurd (cc (asked.0))
replied_by (Event.Arrive a (PeerRecord.RecCommit t d)) c b r asked = absurd (cc (asked.0))
replied_by (Event.Arrive a (PeerRecord.OnAssoc x y q w)) c b r asked = absurd (cc (asked))
replied_by (Event.Arrive a (PeerRecord.ShutAssoc x None)) c b r asked = absurd asked
replied_by (Event.Arrive a (PeerRecord.ShutAssoc x (Some y))) c b r asked = absurd (cc (asked))
replied_by (Event.Arrive a w) c b r asked = absurd asked
replied_by (Event.Declare s) c b r asked = absurd asked
replied_by (Event.Break a w) c b r asked = absurd (cc (asked))
replied_by (Event.Lose n) c b r asked = absurd (cc (asked))
replied_by (Event.Heur o) c b r asked = absurd (cc (asked))
replied_by (Event.GiveUp n) c b r asked = absurd (cc (asked))
replied_by Event.Retry c b r asked = absurd (cc (asked))
replied_by Event.Purge c b r asked = absurd asked
replied_by Event.Crash c b r asked = absurd asked

-- ---- after the prelude

pub find_named : (bs : List Branch) (p : ℕ) (v : Branch) → find_branch bs p ≡ Some v → v.left ≡ false → find_branch (named_again bs) p ≡ Some (fresh_branch (record { addr = v.peer; branch = v.id }))
find_named [] p v h l = absurd (cc (h))
find_named (x ∷ bs) p v h l = go (x.peer.node == p) refl x.left refl (find_named bs p v)
  where
    go : (k : Bool) → (x.peer.node == p) ≡ k → (w : Bool) → x.left ≡ w → (find_branch bs p ≡ Some v → v.left ≡ false → find_branch (named_again bs) p ≡ Some (fresh_branch (record { addr = v.peer; branch = v.id })))
        → find_branch (named_again (x ∷ bs)) p ≡ Some (fresh_branch (record { addr = v.peer; branch = v.id }))
    go true i w m rest =
        let one : Some x ≡ Some v = rw i at h in
        let same : x ≡ v = cc (one) in
        let off : x.left ≡ false = ap (λ (y : Branch). y.left) same ∙ l in
        rw (off, named_again) (rw i (ap (λ (y : Branch). Some (fresh_branch (record { addr = y.peer; branch = y.id }))) same))
    go false i true m rest = rw (m, named_again) (rest (rw i at h) l)
    go false i false m rest = rw (m, named_again) (rw i (rest (rw i at h) l))

nil_standing : (v : Phase) → is_nil v ≡ true → is_standing v ≡ true → ⊥
nil_standing v h i = absurd (grind (arith, h, i))

pub row_first : (m : Branch → Bool) → ((x : Child) → m (fresh_branch x) ≡ false) → (o : Origin) (up : Option Addr) (e : Entry) (h : List Entry) (t : Aaid) (p : ℕ) (b : BranchId) → IsGrown o up (e ∷ h) → UnmarkedRow m t p b (digest o h).current → UnmarkedRow m t p b (prelude o.who (digest o h) e.event).current ⊎ (rolled o t (e ∷ h) ≡ true)
row_first m fresh o up e h t p b legal k = go (came_by o.who d e.event legal.0)
  where
    d : Digest
    d = digest o h

    crashed : e.event ≡ Event.Crash → (v : Bool) → is_active k.current.phase ≡ v → UnmarkedRow m t p b (recovered_current d.current) ⊎ (rolled o t (e ∷ h) ≡ true)
    crashed is true act =
        let n : is_now t d.current ≡ true = ap (is_now t) k.at ∙ k.tree in
        let a : is_crash_in_active d e.event ≡ true = ap (is_crash_in_active d) is ∙ ap is_active (phase_at d k.current k.at) ∙ act in
        inr (rw (n, a) (grind arith))
    crashed is false act = inl (record {
      current = recovered k.current.key k.current.phase (named_again k.current.branches) k.current.decision;
      at = ap recovered_current k.at ∙ rw bound refl;
      tree = k.tree;
      phase = k.phase;
      branch = fresh_branch (record { addr = k.branch.peer; branch = k.branch.id });
      found = find_named k.current.branches p k.branch k.found k.left;
      id = k.id;
      left = refl;
      off = fresh (record { addr = k.branch.peer; branch = k.branch.id });
    })
      where
        past : (v : Phase) → is_standing v ≡ true → is_active v ≡ false → (is_ready v || is_committing v) ≡ true
        past v h i = grind (arith, h, i)

        bound : (is_ready k.current.phase || is_committing k.current.phase) ≡ true
        bound = past k.current.phase k.phase act

    go : Came o.who d e.event → UnmarkedRow m t p b (prelude o.who d e.event).current ⊎ (rolled o t (e ∷ h) ≡ true)
    go (As_it_was i) = inl (subst (λ (u : Option Current). UnmarkedRow m t p b u) (sym i) k)
    go (By_begin from x y q v w g l is found cur nil above) = absurd (nil_standing k.current.phase (rw (k.at, phase_of) at nil) k.phase)
    go (By_crash is cur) = elim (crashed is (is_active k.current.phase) refl) [ inl i ↦ inl (subst (λ (u : Option Current). UnmarkedRow m t p b u) (sym cur) i) | inr i ↦ inr i ]

kept_first : (o : Origin) (e : Entry) (h : List Entry) (t : Aaid) (p : ℕ) (b : BranchId) → KeptOwes t p b (digest o h).kept → KeptOwes t p b (prelude o.who (digest o h) e.event).kept
kept_first o e h t p b k =
    kept_unnoted (OwesIn p b) (λ x h. h) t (prelude o.who (digest o h) e.event).kept (subst (λ (ks : List Kept). KeptOwes t p b ks) (sym (kept_prelude o.who (digest o h) e.event).0) (kept_noted (OwesIn p b) (λ x h. h) t (digest o h).kept k))

-- ---- every legal history

-- the branch is owed; or it left or is done, its Done came as a reply, or the node rolled or left
pub data Owed (o : Origin) (p : ℕ) (g : Deeds) (h : List Entry) (t : Aaid) (b : BranchId) : Type 0 where
  Still_owed : Owes t p b (digest o h) → Owed o p g h t b
  Has_gone : g.left t ≡ true → Owed o p g h t b
  Has_done : g.committed t ≡ true → Owed o p g h t b
  Was_told : (a : Addr) (r : Report) → HasBrought h a (PeerRecord.RecReply t b (RecState.Done r)) → a.node ≡ p → Owed o p g h t b
  Had_rolled : rolled o t h ≡ true → Owed o p g h t b
  Had_left : has_left o t h ≡ true → Owed o p g h t b

pub rules_of : (o : Origin) (up : Option Addr) (p : ℕ) (g : Deeds) (rs : List LogRec) (e : Entry) (h : List Entry) → Below o up p g rs (e ∷ h) → Rules o up p g rs e h
rules_of o up p g rs e h below = record {
  empty = below.empty;
  legal = below.legal;
  once = below.once;
  heeded = and_left (heeds_event g rs p h e.event) (heeds g rs p h) below.heeded;
  never = λ j r v c. below.never j r v (commit_more j.0 e.rec (records o h) c);
}

pub tree_marked : (t : Aaid) (b : BranchId) (c : Current) (i : BranchId) → ◌≡◌ {A = BranchKey} (t, b) (aaid_of c.key, i) → is_aaid t (aaid_of c.key) ≡ true
tree_marked t b c i same = ap (λ (k : BranchKey). is_aaid t k.0) (sym same) ∙ aaid_same t

-- a branch that is marked as left has left
pub mark_left : (o : Origin) (up : Option Addr) (p : ℕ) (g : Deeds) (rs : List LogRec) (e : Entry) (h : List Entry) (t : Aaid) (b : BranchId) → Below o up p g rs (e ∷ h)
    → (m : MayMark o.who e.event (prelude o.who (digest o h) e.event) may_leave p (t, b)) → (m.event ≡ TxEvent.Took p DialogueRecord.Left) ⊎ (m.event ≡ TxEvent.Took p DialogueRecord.LeftEnd) → g.left t ≡ true
mark_left o up p g rs e h t b below m (inl w) =
    let k = took_mark o up p g rs e h (rules_of o up p g rs e h below) (accounts_of o up p g rs h (below_tail o up p g rs e h below)) DialogueRecord.Left (t, b) may_leave m (λ a x y q. refl) w in
    left_key o p g rs e.event h DialogueRecord.Left (t, b) k (and_left (not (votes_from k.x k.y p h) && holds_at (keys_to k.x k.y p h) (ends_from k.x k.y p h) g.left) true k.heeded)
mark_left o up p g rs e h t b below m (inr w) =
    let k = took_mark o up p g rs e h (rules_of o up p g rs e h below) (accounts_of o up p g rs h (below_tail o up p g rs e h below)) DialogueRecord.LeftEnd (t, b) may_leave m (λ a x y q. refl) w in
    left_key o p g rs e.event h DialogueRecord.LeftEnd (t, b) k (and_left (not (votes_from k.x k.y p h) && holds_at (keys_to k.x k.y p h) (ends_from k.x k.y p h) g.left) true k.heeded)

pub unchanged_current : (who : Who) (d : Digest) (f : Event) → is_unchanged f ≡ true → (prelude who d f).current ≡ d.current
unchanged_current who d (Event.Do Request.Unchanged) u = refl
unchanged_current who d f u = absurd (cc (u))

quit_now : (o : Origin) (up : Option Addr) (p : ℕ) (g : Deeds) (rs : List LogRec) (e : Entry) (h : List Entry) (t : Aaid) (b : BranchId) → Below o up p g rs (e ∷ h) → QuitsAt o.who e.event (rolls o.who (digest o h) e.event) (prelude o.who (digest o h) e.event) t p b → Owed o p g (e ∷ h) t b
quit_now o up p g rs e h t b below quit = by quit
  where
    d : Digest
    d = digest o h

    s : Digest
    s = prelude o.who d e.event

    rules : Rules o up p g rs e h
    rules = rules_of o up p g rs e h below

    old : Accounts o p g rs h
    old = accounts_of o up p g rs h (below_tail o up p g rs e h below)

    ended : (m : MayMark o.who e.event s may_end p (t, b)) → Ending m.event (seen o.who m.arcs m.current) p → Owed o p g (e ∷ h) t b
    ended m (By_word r word committing) = Has_done (committed_word o up p g rs e h rules old (t, b) m r word committing)
    ended m (In_rollback roll) = Had_rolled (rolling_here o up e h t below.empty below.legal below.once m.current m.at (tree_marked t b m.current m.branch.id m.key) roll)
    ended m (By_answer c r w word found at) = answered (replied_by e.event m.current c r (subst (λ (f : TxEvent). IsAsked e.event m.current f) word m.asked))
      where
        by_id : find_branch_by_id m.current.branches c ≡ Some w.branch
        by_id = rows_by_id m.arcs m.current.branches c w found

        answered : Replied e.event m.current c r → Owed o p g (e ∷ h) t b
        answered k =
            let now : d.current ≡ Some m.current = sym (ap (λ (f : Event). (prelude o.who d f).current) k.is) ∙ m.at in
            let same : m.branch ≡ w.branch = same_peer m.current.branches p c m.branch w.branch (spread_at o up h below.empty below.legal.3 m.current now) m.found by_id at in
            let id : c ≡ b = sym (id_found m.current.branches c w.branch by_id) ∙ ap (λ (y : Branch). y.id) (sym same) ∙ sym (ap (λ (j : BranchKey). j.1) m.key) in
            let from : w.branch.peer ≡ k.from = addrs_equal w.branch.peer k.from (k.peer w.branch by_id) in
            let one : t ≡ k.tree = ap (λ (j : BranchKey). j.0) m.key ∙ aaids_equal (aaid_of m.current.key) k.tree k.same in
            Was_told k.from r (inl (ap brought k.is ∙ word_is k.from k.tree c r one id)) (ap (λ (y : Addr). y.node) (sym from) ∙ at)
          where
            word_is : (a : Addr) (u : Aaid) (i : BranchId) (r : Report) → t ≡ u → i ≡ b → ◌≡◌ {A = Option (Addr × PeerRecord)} (Some (a, PeerRecord.RecReply u i (RecState.Done r))) (Some (a, PeerRecord.RecReply t b (RecState.Done r)))
            word_is a u i r x y = rw (← x, y) refl

    by : QuitsAt o.who e.event (rolls o.who d e.event) s t p b → Owed o p g (e ∷ h) t b
    by (Done_here m) = ended m (ending m.event (seen o.who m.arcs m.current) p m.sets)
    by (Left_here m) = Has_gone (mark_left o up p g rs e h t b below m (leaves_word m.event (seen o.who m.arcs m.current) p m.sets))
    by (Done_told a r is at) = Was_told a r (inl (ap brought is)) at
    by (Rolls_here n f) = Had_rolled (rolled_here o up e h t below.legal n f)
    by (Leaves_here n u) = let now : is_now t d.current ≡ true = ap (is_now t) (sym (unchanged_current o.who d e.event u)) ∙ n in Had_left (rw (now, u) refl)
    by (Rolling_here n r) = let c = now_some t s.current n in Had_rolled (rolling_here o up e h t below.empty below.legal below.once c.0 c.1 c.2 (ap is_rolling (sym (phase_at s c.0 c.1)) ∙ r))

pub owed_law : (o : Origin) (up : Option Addr) (p : ℕ) (g : Deeds) (rs : List LogRec) (h : List Entry) (a : Addr) (x y : Mark) (q : ℕ) (t : Aaid) (b : BranchId) (i : Holder) → Below o up p g rs h → a.node ≡ p → HasSent h a (PeerRecord.OnAssoc x y q (DialogueRecord.Begin t b i)) → Owed o p g h t b
owed_law o up p g rs [] a x y q t b i below at s = absurd s
owed_law o up p g rs (e ∷ h) a x y q t b i below at s = go s (owed_law o up p g rs h a x y q t b i (below_tail o up p g rs e h below) at)
  where
    d : Digest
    d = digest o h

    w : Digest
    w = prelude o.who d e.event

    k : IsOwingMove o.who e.event (rolls o.who d e.event) w w (action o.who d e.event)
    k = owing_entry o up e h below.legal

    sound : IsSound o.who w
    sound = (sound_first o.who d e.event below.legal.0 (sound_at o up h below.empty below.legal.3)).0

    on : OwesOr o.who e.event (rolls o.who d e.event) w t p b (digest o (e ∷ h)) → Owed o p g (e ∷ h) t b
    on (inl n) = Still_owed n
    on (inr n) = quit_now o up p g rs e h t b below n

    later : Owed o p g h t b → Owed o p g (e ∷ h) t b
    later (Still_owed (inl n)) = elim (row_first is_done_branch (λ x. refl) o up e h t p b below.legal n) [ inl j ↦ on (k.stays t p b sound (inl j)) | inr j ↦ Had_rolled j ]
    later (Still_owed (inr n)) = on (k.stays t p b sound (inr (kept_first o e h t p b n)))
    later (Has_gone n) = Has_gone n
    later (Has_done n) = Has_done n
    later (Was_told c r n m) = Was_told c r (inr n) m
    later (Had_rolled n) = Had_rolled (rolled_more o e h t n)
    later (Had_left n) = Had_left (rw n (grind arith))

    go : IsSentIn e.outs a (PeerRecord.OnAssoc x y q (DialogueRecord.Begin t b i)) ⊎ HasSent h a (PeerRecord.OnAssoc x y q (DialogueRecord.Begin t b i)) → (HasSent h a (PeerRecord.OnAssoc x y q (DialogueRecord.Begin t b i)) → Owed o p g h t b) → Owed o p g (e ∷ h) t b
    go (inl n) rest = on (k.begins t p b sound (a, x, y, q, i, at, sent_now o up e h a (PeerRecord.OnAssoc x y q (DialogueRecord.Begin t b i)) below.legal n))
    go (inr n) rest = later (rest n)
