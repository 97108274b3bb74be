-- One node of a drained tree without failure: how it stands in the tree, and what it has said of it.
use Rattle.std.proofs.Common.{if◌then◌else◌, ◌≡◌, ◌⊎◌, inl, inr, ℕ, Bool, true, false, refl, ap, sym, subst, ◌∙◌, arith, Option, Some, None, List, [], ◌∷◌, ◌&&◌, ◌==◌, reverse}
use Rattle.tp_names.specs.declared.identifiers.Aaid.{Aaid}
use Rattle.tp_names.specs.declared.identifiers.BranchId.{BranchId}
use Rattle.tp_names.specs.declared.identifiers.Addr.{Addr}
use Rattle.tp_names.specs.declared.identifiers.Mark.{Mark}
use Rattle.tp_names.specs.declared.identifiers.NodeKey.{NodeKey}
use Rattle.tp_names.specs.declared.children.Child.{Child}
use Rattle.tp_names.specs.declared.outcome.Report.{Report}
use Rattle.tp_names.specs.declared.outcome.Outcome.{Outcome}
use Rattle.tp_names.specs.Same.{is_aaid, is_mark, is_key}
use Rattle.tp_records.specs.declared.indication.Indication.{Indication}
use Rattle.tp_records.specs.declared.dialogue.DialogueRecord.{DialogueRecord}
use Rattle.tp_records.specs.declared.peer.PeerRecord.{PeerRecord}
use Rattle.tp_logrec.specs.declared.record.LogRec.{LogRec}
use Rattle.tp_model.specs.declared.arc.Phase.{Phase}
use Rattle.tp_model.specs.Parts.{Origin, Event, Out, Entry, Key, Root, Under, Current, Digest}
use Rattle.tp_model.specs.Dialogues.{is_nil, is_active, is_ready, is_committing, is_rolling}
use Rattle.tp_model.specs.Transactions.{aaid_of, node_key, superior_of}
use Rattle.tp_model.specs.Events.{action, recovered, recovered_current, current_from, current_by, current_in_log, key_in_log, without_current, fresh_branches, decision_of, named_again}
use Rattle.tp_model.specs.History.{digest, records, with_rec}
use Rattle.tp_model.specs.Legal.{IsGrown, IsLegal}
use Rattle.tp_model.specs.Questions.{is_at, said_to, has_said}
use Rattle.tp_model.specs.Outcomes.{is_now, is_unchanged, is_commit_request, has_asked_commit, has_left, decided, rolled, tells_complete_none, completed_none, is_member, has_commit_of}
use Rattle.tp_model.specs.Promises.{has_told_in, has_record, is_bound_of, tells_commit}
use Rattle.tp_model.specs.Questions.{tells_commit_complete}
use Rattle.tp_steps.specs.Moves.{prelude}
use Rattle.tp_steps.specs.Traces.{sent_of, is_old}
use Rattle.tp_steps.specs.Trees.{IsLoggedIn}
use Rattle.tp_steps.specs.Outspoken.{is_ready_rec}
use Rattle.tp_histories.specs.Members.{is_own, is_known, has_taken_begin}
use Rattle.tp_histories.specs.Fates.{readies_tree, has_ready_in, IsFated}
use Rattle.tp_failure_free.specs.Drained.{IsUnfailed, IsOneOf, IsSaid, is_done}
use Rattle.tp_failure_free.specs.DrainedWorlds.{says}
use Rattle.tp_steps.specs.Heeding.{is_answer}
use Rattle.tp_steps.proofs.lemmas.Equality.{or_case, and_left, and_right, aaids_equal}
use Rattle.tp_histories.proofs.trees.Late.{late_law}
use Rattle.tp_steps.proofs.branches.Rolls.{phase_at}
use Rattle.tp_steps.proofs.words.Treed.{now_some}
use Rattle.tp_histories.proofs.trees.Knowing.{known_more, now_known, nil_now, old_prelude, treed_event}
use Rattle.tp_histories.proofs.worlds.TreeMembers.{known_old, now_then}
use Rattle.tp_runs.proofs.KnownFlags.{IsStep}
use Rattle.tp_runs.proofs.KnownAsked.{step_of}
use Rattle.tp_agreement.proofs.BelowRuns.{TookKey, current_took}
use Rattle.tp_agreement.proofs.ReadyDown.{took_taken}
use Rattle.tp_histories.proofs.log.SoundLog.{from_newest}
use Rattle.tp_runs.proofs.KnownBranches.{log_current}
use Rattle.tp_agreement.proofs.Bounds.{commit_bound}
use Rattle.tp_histories.proofs.trees.Fated.{fated_law}
use Rattle.tp_runs.proofs.Users.{sees_commit}
use Rattle.tp_failure_free.proofs.LiveLaw.{unfailed_before, no_crash}
use Rattle.tp_failure_free.proofs.DrainedWords.{under_superior}
use Rattle.tp_failure_free.proofs.Said.{says_ready, says_done, says_leaving}
use Rattle.tp_reports.proofs.Finished.{Ending, Goes_on, It_rolled, It_left, It_was_told, ending_law}
use Rattle.tp_histories.proofs.trees.Entered.{Entered, Crashed, Begun, Plain, entered}
use Rattle.tp_steps.proofs.lemmas.Options.{some_same}
use Rattle.tp_steps.proofs.log.Owned.{key_aaid}

-- ---- outputs

in_list : (f : DialogueRecord → Bool) (r : DialogueRecord) (rs : List DialogueRecord) → IsOneOf r rs → f r ≡ true → has_said f rs ≡ true
in_list f r [] k h = absurd k
in_list f r (y ∷ rs) (inl is) h = let one : f y ≡ true = ap f is ∙ h in rw one refl
in_list f r (y ∷ rs) (inr k) h = let rest = in_list f r rs k h in rw rest (grind arith)

said_sent : (f : DialogueRecord → Bool) (x y : Mark) (p : ℕ) (outs : List Out) → has_said f (sent_of x y p outs) ≡ true → has_said f (said_to p outs) ≡ true
said_sent f x y p [] h = h
said_sent f x y p (Out.Tell i ∷ outs) h = said_sent f x y p outs h
said_sent f x y p (Out.Send a (PeerRecord.OnAssoc z w s r) ∷ outs) h = go (a.node == p) (is_mark x z) (is_mark y w) h (said_sent f x y p outs)
  where
    go : (b c d : Bool) → has_said f (if b && c && d then r ∷ sent_of x y p outs else sent_of x y p outs) ≡ true → (has_said f (sent_of x y p outs) ≡ true → has_said f (said_to p outs) ≡ true) → has_said f (if b then r ∷ said_to p outs else said_to p outs) ≡ true
    go false c d k rest = rest k
    go true false d k rest = let i = rest k in rw i (grind arith)
    go true true false k rest = let i = rest k in rw i (grind arith)
    go true true true k rest = elim (or_case (f r) (has_said f (sent_of x y p outs)) k) [ inl i ↦ rw i refl | inr i ↦ (let j = rest i in rw j (grind arith)) ]
said_sent f x y p (Out.Send a (PeerRecord.OpenAssoc z u) ∷ outs) h = said_sent f x y p outs h
said_sent f x y p (Out.Send a (PeerRecord.AcceptAssoc z w u) ∷ outs) h = said_sent f x y p outs h
said_sent f x y p (Out.Send a (PeerRecord.ShutAssoc z w) ∷ outs) h = said_sent f x y p outs h
said_sent f x y p (Out.Send a (PeerRecord.RecReady t b) ∷ outs) h = said_sent f x y p outs h
said_sent f x y p (Out.Send a (PeerRecord.RecCommit t b) ∷ outs) h = said_sent f x y p outs h
said_sent f x y p (Out.Send a (PeerRecord.RecReply t b s) ∷ outs) h = said_sent f x y p outs h
said_sent f x y p (Out.Send a (PeerRecord.Forget t b) ∷ outs) h = said_sent f x y p outs h

pub is_said : (o : Origin) (h : List Entry) (e : Entry) (p : ℕ) (r : DialogueRecord) (f : DialogueRecord → Bool) → IsSaid o h e p r → f r ≡ true → says p f e.outs ≡ true
is_said o h e p r f k is = said_sent f k.x k.y p e.outs (in_list f r (sent_of k.x k.y p e.outs) k.says is)

pub told_first : (test : List Out → Bool) (o : Origin) (t : Aaid) (e : Entry) (h : List Entry) → is_now t (digest o h).current ≡ true → test e.outs ≡ true → has_told_in test o t (e ∷ h) ≡ true
told_first test o t e h n i = rw (n, i) refl

pub told_more : (test : List Out → Bool) (o : Origin) (t : Aaid) (e : Entry) (h : List Entry) → has_told_in test o t h ≡ true → has_told_in test o t (e ∷ h) ≡ true
told_more test o t e h i = rw i (grind arith)

-- ---- histories without a failure

-- an entry that logs leaves the transaction as it was before the event's own work
pub logs_plain : (o : Origin) (up : Option Addr) (e : Entry) (h : List Entry) → IsGrown o up (e ∷ h) → (e.rec ≡ None → ⊥) → (prelude o.who (digest o h) e.event).current ≡ (digest o h).current
logs_plain o up e h legal some = go (entered o e h legal.0)
  where
    recs : e.rec ≡ (action o.who (digest o h) e.event).rec
    recs = ap (λ (v : Entry). v.rec) (sym legal.1)

    go : Entered o e h → (prelude o.who (digest o h) e.event).current ≡ (digest o h).current
    go (Crashed is) = absurd (some (recs ∙ ap (λ (f : Event). (action o.who (digest o h) f).rec) is))
    go (Begun from t b a begun calm cur nil quiet by) = absurd (some (recs ∙ quiet.2))
    go (Plain calm none same) = same

-- ---- what the log says of a ready transaction

ready_from : (t : Aaid) (rs : List LogRec) (c : Current) → current_from None (reverse rs) ≡ Some c → is_ready c.phase ≡ true → is_aaid t (aaid_of c.key) ≡ true → has_ready_in t rs ≡ true
ready_from t [] c is r tree = absurd (cc (is))
ready_from t (l ∷ rs) c is r tree = by l (sym (from_newest (Some l) rs) ∙ is) (ready_from t rs)
  where
    none_some : (v w : Option Current) → v ≡ None → v ≡ w → w ≡ Some c → ⊥
    none_some v w i j k = cc (i, j, k)

    with_key : (k : Option Key) (p : Phase) (cs : List Child) (u : Option Outcome) → current_in_log k p cs u ≡ Some c → (j : Key) × (k ≡ Some j) × (c.key ≡ j) × (c.phase ≡ p)
    with_key None p cs u i = absurd (cc (i))
    with_key (Some j) p cs u i =
        let same : recovered j p (fresh_branches cs) u ≡ c = some_same (recovered j p (fresh_branches cs) u) c i in
        (j, refl, ap (λ (v : Current). v.key) (sym same), ap (λ (v : Current). v.phase) (sym same))

    key_is : (k : NodeKey) (s : Option Addr) (j : Key) → key_in_log k s ≡ Some j → aaid_of j ≡ k.aaid
    key_is k s j i = go k.branch refl s refl
      where
        go : (b : Option BranchId) → k.branch ≡ b → (a : Option Addr) → s ≡ a → aaid_of j ≡ k.aaid
        go None m a n = let one : Some (Root k.aaid) ≡ Some j = rw (m, key_in_log) at i in let same : Root k.aaid ≡ j = cc (one) in ap aaid_of (sym same)
        go (Some b) m None n = let one : None ≡ Some j = rw (m, n, key_in_log) at i in absurd (cc (one))
        go (Some b) m (Some a) n = let one : Some (Under k.aaid b a) ≡ Some j = rw (m, n, key_in_log) at i in let same : Under k.aaid b a ≡ j = cc (one) in ap aaid_of (sym same)

    other : (o : Option Current) (k : NodeKey) → without_current k o ≡ Some c → o ≡ Some c
    other None k i = absurd (cc (i))
    other (Some x) k i = go (is_key (node_key x.key) k) refl
      where
        go : (v : Bool) → is_key (node_key x.key) k ≡ v → Some x ≡ Some c
        go true j = let one : None ≡ Some c = rw (j, without_current) at i in absurd (cc (one))
        go false j = rw (j, without_current) at i

    decided_too : (u : Outcome) (o : Option Current) → current_by (LogRec.Heuristic 0 (node_key c.key) u) o ≡ Some c → (x : Current) × (o ≡ Some x) × (c.key ≡ x.key) × (c.phase ≡ x.phase)
    decided_too u None i = absurd (cc (i))
    decided_too u (Some x) i =
        let same : record x { decision = Some u } ≡ c = some_same (record x { decision = Some u }) c i in
        (x, refl, ap (λ (v : Current). v.key) (sym same), ap (λ (v : Current). v.phase) (sym same))

    rest_of : (l : LogRec) → has_ready_in t rs ≡ true → has_ready_in t (l ∷ rs) ≡ true
    rest_of l i = rw i (grind arith)

    by : (l : LogRec) → current_by l (current_from None (reverse rs)) ≡ Some c → ((d : Current) → current_from None (reverse rs) ≡ Some d → is_ready d.phase ≡ true → is_aaid t (aaid_of d.key) ≡ true → has_ready_in t rs ≡ true) → has_ready_in t (l ∷ rs) ≡ true
    by (LogRec.Boot n) i rest = rest_of (LogRec.Boot n) (rest c i r tree)
    by (LogRec.Ready n k s cs) i rest =
        let w = with_key (key_in_log k (Some s)) Phase.Ready cs None i in
        let one : is_aaid t k.aaid ≡ true = ap (is_aaid t) (sym (key_is k (Some s) w.0 w.1) ∙ ap aaid_of (sym w.2)) ∙ tree in
        rw one refl
    by (LogRec.Heuristic n k u) i rest =
        let w = decided_too u (current_from None (reverse rs)) i in
        rest_of (LogRec.Heuristic n k u) (rest w.0 w.1 (ap is_ready (sym w.3) ∙ r) (ap (λ (v : Key). is_aaid t (aaid_of v)) (sym w.2) ∙ tree))
    by (LogRec.Commit n k s cs) i rest = let w = with_key (key_in_log k s) Phase.Committing cs (decision_of (current_from None (reverse rs))) i in absurd (cc (r, ap is_ready w.3))
    by (LogRec.Damage n k s o x cs) i rest = rest_of (LogRec.Damage n k s o x cs) (rest c (other (current_from None (reverse rs)) k i) r tree)
    by (LogRec.End n k o) i rest = rest_of (LogRec.End n k o) (rest c (other (current_from None (reverse rs)) k i) r tree)

ready_recovers : (c : Current) → is_ready c.phase ≡ true → (d : Current) × (recovered_current (Some c) ≡ Some d) × (d.key ≡ c.key) × (is_ready d.phase ≡ true)
ready_recovers c h = go c.phase refl
  where
    go : (p : Phase) → c.phase ≡ p → (d : Current) × (recovered_current (Some c) ≡ Some d) × (d.key ≡ c.key) × (is_ready d.phase ≡ true)
    go Phase.Ready i = (recovered c.key Phase.Ready (named_again c.branches) c.decision, rw (i, recovered_current) refl, refl, refl)
    go Phase.Nil i = absurd (cc (h, ap is_ready i))
    go Phase.Active i = absurd (cc (h, ap is_ready i))
    go Phase.Committing i = absurd (cc (h, ap is_ready i))
    go Phase.Rolling i = absurd (cc (h, ap is_ready i))

ready_logged_now : (o : Origin) (up : Option Addr) (h : List Entry) (t : Aaid) (c : Current) → IsLegal o up h → (digest o h).current ≡ Some c → is_ready c.phase ≡ true → is_aaid t (aaid_of c.key) ≡ true → has_ready_in t (records o h) ≡ true
ready_logged_now o up h t c legal at ready tree =
    let d = ready_recovers c ready in
    ready_from t (records o h) d.0 (log_current o up h legal ∙ ap recovered_current at ∙ d.1) d.3 (ap (λ (k : Key). is_aaid t (aaid_of k)) d.2 ∙ tree)

-- ---- how the node stands in the tree at the end

pub ready_bound_in : (t : Aaid) (rs : List LogRec) → has_ready_in t rs ≡ true → has_record (is_bound_of t) rs ≡ true
ready_bound_in t [] h = absurd (cc (h))
ready_bound_in t (LogRec.Ready n k s cs ∷ rs) h = let rest = ready_bound_in t rs in grind (arith, h, rest)
ready_bound_in t (LogRec.Commit n k s cs ∷ rs) h = let i = ready_bound_in t rs h in rw i (grind arith)
ready_bound_in t (LogRec.Boot n ∷ rs) h = ready_bound_in t rs h
ready_bound_in t (LogRec.Heuristic n k u ∷ rs) h = ready_bound_in t rs h
ready_bound_in t (LogRec.Damage n k s u r cs ∷ rs) h = ready_bound_in t rs h
ready_bound_in t (LogRec.End n k u ∷ rs) h = ready_bound_in t rs h

pub bound_by : (t : Aaid) (rs : List LogRec) → has_record (is_bound_of t) rs ≡ true → (has_ready_in t rs ≡ true) ⊎ (has_commit_of t rs ≡ true)
bound_by t [] h = absurd (cc (h))
bound_by t (LogRec.Ready n k s cs ∷ rs) h = elim (or_case (is_aaid t k.aaid) (has_record (is_bound_of t) rs) h) [
  | inl i ↦ inl (rw i refl)
  | inr i ↦ elim (bound_by t rs i) [ inl j ↦ inl (rw j (grind arith)) | inr j ↦ inr j ]
]
bound_by t (LogRec.Commit n k s cs ∷ rs) h = elim (or_case (is_aaid t k.aaid) (has_record (is_bound_of t) rs) h) [
  | inl i ↦ inr (rw i refl)
  | inr i ↦ elim (bound_by t rs i) [ inl j ↦ inl j | inr j ↦ inr (rw j (grind arith)) ]
]
bound_by t (LogRec.Boot n ∷ rs) h = bound_by t rs h
bound_by t (LogRec.Heuristic n k u ∷ rs) h = bound_by t rs h
bound_by t (LogRec.Damage n k s u r cs ∷ rs) h = bound_by t rs h
bound_by t (LogRec.End n k u ∷ rs) h = bound_by t rs h

complete_commits : (outs : List Out) → tells_commit_complete outs ≡ true → tells_commit outs ≡ true
complete_commits [] h = h
complete_commits (Out.Tell Indication.Commit ∷ outs) h = refl
complete_commits (Out.Tell (Indication.CommitComplete r) ∷ outs) h = refl
complete_commits (o ∷ outs) h = let rest = complete_commits outs in grind (arith, h, rest)

pub complete_told : (o : Origin) (t : Aaid) (h : List Entry) → has_told_in tells_commit_complete o t h ≡ true → has_told_in tells_commit o t h ≡ true
complete_told o t [] i = i
complete_told o t (e ∷ h) i = elim (or_case (is_now t (digest o h).current && tells_commit_complete e.outs) (has_told_in tells_commit_complete o t h) i) [
  | inl j ↦ told_first tells_commit o t e h (and_left (is_now t (digest o h).current) (tells_commit_complete e.outs) j) (complete_commits e.outs (and_right (is_now t (digest o h).current) (tells_commit_complete e.outs) j))
  | inr j ↦ told_more tells_commit o t e h (complete_told o t h j)
]

-- it is active in the tree, is bound by a record, or has left
pub data Stands (o : Origin) (h : List Entry) (t : Aaid) : Type 0 where
  Is_active : (c : Current) → (digest o h).current ≡ Some c → is_aaid t (aaid_of c.key) ≡ true → is_active c.phase ≡ true → Stands o h t
  Is_bound : has_record (is_bound_of t) (records o h) ≡ true → Stands o h t
  Has_left : has_left o t h ≡ true → Stands o h t

-- and, once it has committed, is committing or was told that the commitment is complete
pub data Commits (o : Origin) (h : List Entry) (t : Aaid) : Type 0 where
  Is_committing : (c : Current) → (digest o h).current ≡ Some c → is_aaid t (aaid_of c.key) ≡ true → is_committing c.phase ≡ true → Commits o h t
  Was_told : has_told_in tells_commit_complete o t h ≡ true → Commits o h t

pub stands_law : (o : Origin) (up : Option Addr) (h : List Entry) (t : Aaid) → IsLegal o up h → IsUnfailed t o up h → rolled o t h ≡ false → is_member o t h ≡ true → Stands o h t
stands_law o up h t legal u whole member = go (ending_law o up h t u.fresh u.grown u.once member)
  where
    fated : IsFated o h t
    fated = fated_law o up h t u.fresh u.grown u.once

    by : (c : Current) → (digest o h).current ≡ Some c → is_aaid t (aaid_of c.key) ≡ true → (p : Phase) → c.phase ≡ p → Stands o h t
    by c at tree Phase.Nil i = absurd (cc (late_law o up h u.grown c at, ap is_nil i))
    by c at tree Phase.Active i = Is_active c at tree (ap is_active i)
    by c at tree Phase.Ready i = Is_bound (ready_bound_in t (records o h) (ready_logged_now o up h t c legal at (ap is_ready i) tree))
    by c at tree Phase.Committing i = Is_bound (commit_bound t (records o h) (fated.committing (ap (is_now t) at ∙ tree) (ap is_committing (phase_at (digest o h) c at) ∙ ap is_committing i)))
    by c at tree Phase.Rolling i = absurd (cc (whole, fated.rolling (ap (is_now t) at ∙ tree) (ap is_rolling (phase_at (digest o h) c at) ∙ ap is_rolling i)))

    go : Ending o h t → Stands o h t
    go (Goes_on n) = let c = now_some t (digest o h).current n in by c.0 c.1 c.2 c.0.phase refl
    go (It_rolled r) = absurd (cc (whole, r))
    go (It_left l) = Has_left l
    go (It_was_told x) = Is_bound (commit_bound t (records o h) (sees_commit o up h t u.fresh u.grown u.once (complete_told o t h x)))

pub commits_law : (o : Origin) (up : Option Addr) (h : List Entry) (t : Aaid) → IsUnfailed t o up h → rolled o t h ≡ false → has_left o t h ≡ false → is_member o t h ≡ true → decided o t h ≡ true → Commits o h t
commits_law o up h t u whole stays member done = go (ending_law o up h t u.fresh u.grown u.once member)
  where
    go : Ending o h t → Commits o h t
    go (Goes_on n) =
        let c = now_some t (digest o h).current n in
        Is_committing c.0 c.1 c.2 (sym (ap is_committing (phase_at (digest o h) c.0 c.1)) ∙ (fated_law o up h t u.fresh u.grown u.once).commit_now done n)
    go (It_rolled r) = absurd (cc (whole, r))
    go (It_left l) = absurd (cc (stays, l))
    go (It_was_told x) = Was_told x

-- ---- whether commitment was asked for

asked_known : (o : Origin) (up : Option Addr) (h : List Entry) (t : Aaid) → IsUnfailed t o up h → has_asked_commit o t h ≡ true → is_known o t h ≡ true
asked_known o up [] t u a = absurd (cc (a))
asked_known o up (e ∷ h) t u a = elim (or_case (is_now t (digest o h).current && is_commit_request e.event) (has_asked_commit o t h) a) [
  | inl i ↦ known_more o up e h t u.grown (now_known o up h t u.fresh u.grown.3 (and_left (is_now t (digest o h).current) (is_commit_request e.event) i))
  | inr i ↦ known_more o up e h t u.grown (asked_known o up h t (unfailed_before t o up e h u).1 i)
]

-- the current transaction of a known tree is that of before
pub plain_before : (o : Origin) (up : Option Addr) (e : Entry) (h : List Entry) (t : Aaid) → IsUnfailed t o up (e ∷ h) → is_known o t h ≡ true → is_now t (digest o (e ∷ h)).current ≡ true
    → (is_now t (digest o h).current ≡ true) × ((prelude o.who (digest o h) e.event).current ≡ (digest o h).current)
plain_before o up e h t u known n = (before, go (entered o e h u.grown.0))
  where
    before : is_now t (digest o h).current ≡ true
    before = now_then o up e h t u.fresh u.grown u.once known n

    go : Entered o e h → (prelude o.who (digest o h) e.event).current ≡ (digest o h).current
    go (Crashed is) = absurd (no_crash t o up e h u before is)
    go (Begun from v b a begun calm cur nil quiet by) = absurd (cc (before, nil_now (digest o h) t (late_law o up h u.grown.3) nil))
    go (Plain calm none same) = same

pub asked_now : (o : Origin) (up : Option Addr) (h : List Entry) (t : Aaid) (c : Current) → IsUnfailed t o up h → has_asked_commit o t h ≡ true → (digest o h).current ≡ Some c → is_aaid t (aaid_of c.key) ≡ true → c.asked ≡ true
asked_now o up [] t c u a at tree = absurd (cc (a))
asked_now o up (e ∷ h) t c u a at tree = go (step_of o.who d e.event (late_law o up h u.grown.3) u.grown.0 c at) (or_case (is_now t d.current && is_commit_request e.event) (has_asked_commit o t h) a) (λ v i j k. asked_now o up h t v (unfailed_before t o up e h u).1 i j k)
  where
    d : Digest
    d = digest o h

    s : Digest
    s = prelude o.who d e.event

    known : ((is_now t d.current && is_commit_request e.event) ≡ true) ⊎ (has_asked_commit o t h ≡ true) → is_known o t h ≡ true
    known (inl i) = now_known o up h t u.fresh u.grown.3 (and_left (is_now t d.current) (is_commit_request e.event) i)
    known (inr i) = asked_known o up h t (unfailed_before t o up e h u).1 i

    go : IsStep (λ v. v.asked) o.who s (is_commit_request e.event) c → ((is_now t d.current && is_commit_request e.event) ≡ true) ⊎ (has_asked_commit o t h ≡ true)
        → ((v : Current) → has_asked_commit o t h ≡ true → d.current ≡ Some v → is_aaid t (aaid_of v.key) ≡ true → v.asked ≡ true) → c.asked ≡ true
    go (inl w) (inl i) rest = let now = and_right (is_now t d.current) (is_commit_request e.event) i in w.3 ∙ rw now refl
    go (inl w) (inr i) rest =
        let same = (plain_before o up e h t u (known (inr i)) (ap (is_now t) at ∙ tree)).1 in
        let old : w.0.asked ≡ true = rest w.0 i (sym same ∙ w.1) (ap (λ (k : Key). is_aaid t (aaid_of k)) (sym w.2) ∙ tree) in
        w.3 ∙ rw old (grind arith)
    go (inr w) asked rest =
        let same : t ≡ w.0.0 = aaids_equal t w.0.0 (ap (λ (k : Key). is_aaid t (aaid_of k)) (sym w.0.1) ∙ tree) in
        let old : is_old o.who s t.mark ≡ true = old_prelude o.who d e.event t.mark (known_old o h t u.once.1 (known asked)) in
        let new : is_old o.who s t.mark ≡ false = ap (λ (v : Aaid). is_old o.who s v.mark) same ∙ w.0.2 in
        absurd (cc (old, new))

-- ---- what a branch says to its superior

-- a branch's tree is none of its own
pub record IsBelow (o : Origin) (up : Option Addr) (t : Aaid) (p : ℕ) : Type 0 where
  pub other : is_own o.who t ≡ true → ⊥
  pub above : is_at up p ≡ true

abbrev ready_opt : Aaid → Option LogRec → Bool
ready_opt t None = false
ready_opt t (Some r) = readies_tree t r

ready_split : (t : Aaid) (r : Option LogRec) (rs : List LogRec) → has_ready_in t (with_rec r rs) ≡ true → (ready_opt t r ≡ true) ⊎ (has_ready_in t rs ≡ true)
ready_split t None rs h = inr h
ready_split t (Some r) rs h = or_case (readies_tree t r) (has_ready_in t rs) h

ready_in : (t : Aaid) (s : Digest) (r : Option LogRec) → IsLoggedIn t s r → ready_opt t r ≡ true
    → (is_ready_rec r ≡ true) × (c : Current) × (s.current ≡ Some c) × (is_aaid t (aaid_of c.key) ≡ true) × (a : Addr) × (superior_of c.key ≡ Some a)
ready_in t s (Some (LogRec.Ready n k a cs)) l h =
    let c = l h in
    (refl, c.0, c.1, ap (is_aaid t) (sym (key_aaid c.0.key) ∙ ap (λ (j : NodeKey). j.aaid) (sym c.2)) ∙ h, a, c.3)
ready_in t s _ l h = absurd (cc (h))

none_ready : (t : Aaid) (r : Option LogRec) → ready_opt t r ≡ true → r ≡ None → ⊥
none_ready t r h is = absurd (cc (ap (ready_opt t) is, h))

-- who logged Ready of a tree has taken its Begin
pub ready_begun : (o : Origin) (up : Option Addr) (h : List Entry) (t : Aaid) → IsUnfailed t o up h → has_ready_in t (records o h) ≡ true → has_taken_begin t h ≡ true
ready_begun o up [] t u r = let none : has_ready_in t (records o []) ≡ false = ap (λ (rs : List LogRec). has_ready_in t (reverse rs)) u.fresh in absurd (cc (none, r))
ready_begun o up (e ∷ h) t u r = go (ready_split t e.rec (records o h) r) (ready_begun o up h t (unfailed_before t o up e h u).1)
  where
    d : Digest
    d = digest o h

    recs : (action o.who d e.event).rec ≡ e.rec
    recs = ap (λ (v : Entry). v.rec) u.grown.1

    key_of : (c : Current) (a : Addr) → is_aaid t (aaid_of c.key) ≡ true → superior_of c.key ≡ Some a → (k : Key) → c.key ≡ k → (b : BranchId) × (c.key ≡ Under t b a)
    key_of c a tree sup (Root v) i = absurd (cc (sup, ap superior_of i))
    key_of c a tree sup (Under v b z) i =
        let same : t ≡ v = aaids_equal t v (ap (λ (k : Key). is_aaid t (aaid_of k)) (sym i) ∙ tree) in
        let at : z ≡ a = cc (sup, ap superior_of i) in
        (b, i ∙ rw (at, same) refl)

    new : ready_opt t e.rec ≡ true → has_taken_begin t h ≡ true
    new i =
        let logs : IsLoggedIn t (prelude o.who d e.event) e.rec = subst (λ (v : Option LogRec). IsLoggedIn t (prelude o.who d e.event) v) recs (treed_event o.who d e.event t 0 (late_law o up h u.grown.3) u.grown.0).logs in
        let c = ready_in t (prelude o.who d e.event) e.rec logs i in
        let at : d.current ≡ Some c.1 = sym (logs_plain o up e h u.grown (none_ready t e.rec i)) ∙ c.2 in
        let k = key_of c.1 c.4 c.3 c.5 c.1.key refl in
        let b : TookKey h t k.0 = current_took o up h c.1 t k.0 c.4 u.fresh u.grown.3 at k.1 in
        took_taken t k.0 b.from b.x b.y b.seq b.holder h b.took

    go : (ready_opt t e.rec ≡ true) ⊎ (has_ready_in t (records o h) ≡ true) → (has_ready_in t (records o h) ≡ true → has_taken_begin t h ≡ true) → has_taken_begin t (e ∷ h) ≡ true
    go (inl i) rest = let r = new i in rw r (grind arith)
    go (inr i) rest = let r = rest i in rw r (grind arith)

pub ready_up : (o : Origin) (up : Option Addr) (h : List Entry) (t : Aaid) (p : ℕ) → IsUnfailed t o up h → IsBelow o up t p → has_ready_in t (records o h) ≡ true → has_told_in (says p is_answer) o t h ≡ true
ready_up o up [] t p u k r = let none : has_ready_in t (records o []) ≡ false = ap (λ (rs : List LogRec). has_ready_in t (reverse rs)) u.fresh in absurd (cc (none, r))
ready_up o up (e ∷ h) t p u k r = go (ready_split t e.rec (records o h) r) (ready_up o up h t p (unfailed_before t o up e h u).1 k)
  where
    d : Digest
    d = digest o h

    recs : (action o.who d e.event).rec ≡ e.rec
    recs = ap (λ (v : Entry). v.rec) u.grown.1

    new : ready_opt t e.rec ≡ true → has_told_in (says p is_answer) o t (e ∷ h) ≡ true
    new i =
        let logs : IsLoggedIn t (prelude o.who d e.event) e.rec = subst (λ (v : Option LogRec). IsLoggedIn t (prelude o.who d e.event) v) recs (treed_event o.who d e.event t 0 (late_law o up h u.grown.3) u.grown.0).logs in
        let c = ready_in t (prelude o.who d e.event) e.rec logs i in
        let at : d.current ≡ Some c.1 = sym (logs_plain o up e h u.grown (none_ready t e.rec i)) ∙ c.2 in
        let under = (under_superior o up h t p c.1 u.fresh u.grown.3 k.other k.above at c.3).3 in
        told_first (says p is_answer) o t e h (ap (is_now t) at ∙ c.3) (is_said o h e p DialogueRecord.Ready is_answer (says_ready t o up h e u c.0 c.1 p at c.3 under) refl)

    go : (ready_opt t e.rec ≡ true) ⊎ (has_ready_in t (records o h) ≡ true) → (has_ready_in t (records o h) ≡ true → has_told_in (says p is_answer) o t h ≡ true) → has_told_in (says p is_answer) o t (e ∷ h) ≡ true
    go (inl i) rest = new i
    go (inr i) rest = told_more (says p is_answer) o t e h (rest i)

pub left_up : (o : Origin) (up : Option Addr) (h : List Entry) (t : Aaid) (p : ℕ) → IsUnfailed t o up h → IsBelow o up t p → has_left o t h ≡ true → has_told_in (says p is_answer) o t h ≡ true
left_up o up [] t p u k l = absurd (cc (l))
left_up o up (e ∷ h) t p u k l = go (or_case (is_now t d.current && is_unchanged e.event) (has_left o t h) l) (left_up o up h t p (unfailed_before t o up e h u).1 k)
  where
    d : Digest
    d = digest o h

    new : is_now t d.current ≡ true → is_unchanged e.event ≡ true → has_told_in (says p is_answer) o t (e ∷ h) ≡ true
    new n i =
        let c = now_some t d.current n in
        let under = (under_superior o up h t p c.0 u.fresh u.grown.3 k.other k.above c.1 c.2).3 in
        told_first (says p is_answer) o t e h n (elim (says_leaving t o up h e u i c.0 p c.1 c.2 under) [
          | inl s ↦ is_said o h e p DialogueRecord.Left is_answer s refl
          | inr s ↦ is_said o h e p DialogueRecord.LeftEnd is_answer s refl
        ])

    go : ((is_now t d.current && is_unchanged e.event) ≡ true) ⊎ (has_left o t h ≡ true) → (has_left o t h ≡ true → has_told_in (says p is_answer) o t h ≡ true) → has_told_in (says p is_answer) o t (e ∷ h) ≡ true
    go (inl i) rest = new (and_left (is_now t d.current) (is_unchanged e.event) i) (and_right (is_now t d.current) (is_unchanged e.event) i)
    go (inr i) rest = told_more (says p is_answer) o t e h (rest i)

pub done_up : (o : Origin) (up : Option Addr) (h : List Entry) (t : Aaid) (p : ℕ) → IsUnfailed t o up h → IsBelow o up t p → completed_none o t h ≡ true → has_told_in (says p is_done) o t h ≡ true
done_up o up [] t p u k l = absurd (cc (l))
done_up o up (e ∷ h) t p u k l = go (or_case (is_now t d.current && tells_complete_none e.outs) (completed_none o t h) l) (done_up o up h t p (unfailed_before t o up e h u).1 k)
  where
    d : Digest
    d = digest o h

    new : is_now t d.current ≡ true → tells_complete_none e.outs ≡ true → has_told_in (says p is_done) o t (e ∷ h) ≡ true
    new n i =
        let c = now_some t d.current n in
        let under = (under_superior o up h t p c.0 u.fresh u.grown.3 k.other k.above c.1 c.2).3 in
        told_first (says p is_done) o t e h n (is_said o h e p (DialogueRecord.Done Report.None) is_done (says_done t o up h e u i c.0 p c.1 c.2 under) refl)

    go : ((is_now t d.current && tells_complete_none e.outs) ≡ true) ⊎ (completed_none o t h ≡ true) → (completed_none o t h ≡ true → has_told_in (says p is_done) o t h ≡ true) → has_told_in (says p is_done) o t (e ∷ h) ≡ true
    go (inl i) rest = new (and_left (is_now t d.current) (tells_complete_none e.outs) i) (and_right (is_now t d.current) (tells_complete_none e.outs) i)
    go (inr i) rest = told_more (says p is_done) o t e h (rest i)
