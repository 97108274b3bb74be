-- In every run a commitment that is complete with mix has behind it a decision to roll back, at the node or below it, and one that is
-- complete with hazard a branch that was given up: a Done with a report that a node heeds, over an association or as a reply, is of a
-- branch whose own commitment was complete with it, or that took such a reply itself.
use Rattle.std.proofs.Common.{◌≡◌, inl, inr, ℕ, Bool, true, false, refl, ap, sym, ◌∙◌, arith, Some, List, [], ◌∷◌, ◌||◌, ◌++◌, Option, ◌⊎◌, subst, length}
use Rattle.tp_names.specs.declared.identifiers.Addr.{Addr}
use Rattle.tp_names.specs.declared.identifiers.Aaid.{Aaid}
use Rattle.tp_names.specs.declared.identifiers.BranchId.{BranchId}
use Rattle.tp_names.specs.declared.outcome.Outcome.{Outcome}
use Rattle.tp_names.specs.declared.outcome.Report.{Report}
use Rattle.tp_names.specs.Same.{is_aaid}
use Rattle.tp_names.specs.Reports.{is_report_none}
use Rattle.tp_names.specs.declared.identifiers.Mark.{Mark}
use Rattle.tp_records.specs.declared.indication.Indication.{Indication}
use Rattle.tp_records.specs.declared.dialogue.DialogueRecord.{DialogueRecord}
use Rattle.tp_records.specs.declared.peer.PeerRecord.{PeerRecord}
use Rattle.tp_records.specs.declared.peer.RecState.{RecState}
use Rattle.tp_logrec.specs.declared.record.LogRec.{LogRec}
use Rattle.tp_model.specs.Transactions.{aaid_of}
use Rattle.tp_model.specs.Parts.{Event, Entry, Current, Out}
use Rattle.tp_model.specs.Dialogues.{is_committing}
use Rattle.tp_model.specs.History.{records}
use Rattle.tp_model.specs.Outcomes.{decided}
use Rattle.tp_model.specs.World.{Node, number_of, find_node}
use Rattle.tp_model.specs.Happenings.{Happening, run}
use Rattle.tp_model.specs.Promises.{IsIn, has_told_in, IsOf, IsBranchOf, tells_commit}
use Rattle.tp_model.specs.Questions.{is_at}
use Rattle.tp_steps.specs.Clearing.{is_complete, same_report}
use Rattle.tp_steps.specs.Facts.{find_branch}
use Rattle.tp_steps.specs.Trees.{out_tells}
use Rattle.tp_steps.specs.Upward.{Deeds}
use Rattle.tp_steps.specs.Branches.{may_end}
use Rattle.tp_steps.specs.Histories.{brought}
use Rattle.tp_histories.specs.Upward.{deeds_of}
use Rattle.tp_histories.specs.Histories.{HasBrought}
use Rattle.tp_histories.specs.Worlds.{IsGood}
use Rattle.tp_histories.specs.Members.{is_known}
use Rattle.tp_report_causes.specs.Causes.{is_awaited, hears, has_heard, has_given_up, tells_committed}
use Rattle.tp_report_causes.specs.Apart.{Beneath, HasOpposed, CommitmentsAreApart}
use Rattle.tp_steps.proofs.lemmas.Equality.{and_left, and_right, both_true, aaids_equal, or_case}
use Rattle.tp_steps.proofs.upward.Rising.{report_self}
use Rattle.tp_histories.proofs.worlds.Good.{good_run, Sender, was_sent}
use Rattle.tp_runs.proofs.Users.{sees_commit}
use Rattle.tp_agreement.proofs.OwingLaw.{told_word}
use Rattle.tp_reports.proofs.ClearedLaw.{damage_is_known}
use Rattle.tp_reports.proofs.ClearedReplies.{damage_replied}
use Rattle.tp_failure_free.proofs.DrainedUp.{all_within}
use Rattle.tp_outcomes.proofs.Shown.{told_member}
use Rattle.tp_report_causes.proofs.Causes.{same_is, reports_have_causes}
use Rattle.tp_report_causes.proofs.Heard.{Found, find_met, Speaker, speaker, kin_branch, DoneMark, done_mark}
use Rattle.tp_report_causes.proofs.Rollbacks.{is_told, Facts, Hears, A_done, A_back, A_reply, hears_case, told_as, Next, down, facts, rolled_there}
use Rattle.tp_report_causes.proofs.Voiced.{replied, is_reply, took_reply, is_told_or_took}

-- what holds down the tree: the node's user was told so, or it took such a reply
abbrev Speaks : Report → Aaid → Node → Type 0
Speaks r t z = (is_known z.origin t z.history ≡ true) × (is_told_or_took r t z.origin z.history ≡ true)

committed_is : (r : Report) (outs : List Out) → out_tells (is_complete Outcome.Commit r) outs ≡ tells_committed r outs
committed_is r [] = refl
committed_is r (Out.Tell (Indication.CommitComplete s) ∷ outs) = ap (λ (b : Bool). same_report r s || b) (committed_is r outs)
committed_is r (Out.Tell i ∷ outs) = committed_is r outs
committed_is r (Out.Send a w ∷ outs) = committed_is r outs

committed_tells : (r : Report) (outs : List Out) → out_tells (is_complete Outcome.Commit r) outs ≡ true → tells_commit outs ≡ true
committed_tells r [] h = absurd (cc (h))
committed_tells r (Out.Tell (Indication.CommitComplete s) ∷ outs) h = refl
committed_tells r (Out.Tell Indication.Commit ∷ outs) h = refl
committed_tells r (Out.Tell i ∷ outs) h = committed_tells r outs h
committed_tells r (Out.Send a w ∷ outs) h = committed_tells r outs h

told_decided : (es : List Happening) (t : Aaid) (r : Report) (x : Node) → IsIn (run es) x → is_told Outcome.Commit r t x ≡ true → decided x.origin t x.history ≡ true
told_decided es t r x here told =
    let k : Facts t x = facts es t x here in
    sees_commit x.origin x.superior x.history t k.empty k.legal k.once (told_as (out_tells (is_complete Outcome.Commit r)) tells_commit (committed_tells r) x.origin t x.history told)

-- ---- a reply

-- which was taken
record TookReply (r : Report) (t : Aaid) (h : List Entry) : Type 0 where
  from : Addr
  id : BranchId
  took : HasBrought h from (PeerRecord.RecReply t id (RecState.Done r))

found_reply : (r : Report) (t : Aaid) (h : List Entry) → took_reply r t h ≡ true → TookReply r t h
found_reply r t [] m = absurd (cc (m))
found_reply r t (e ∷ h) m = go (or_case (is_reply r t e.event) (took_reply r t h) m) (found_reply r t h)
  where
    word : (a : Addr) (u : Aaid) (b : BranchId) (s : Report) → t ≡ u → r ≡ s → ◌≡◌ {A = Option (Addr × PeerRecord)} (Some (a, PeerRecord.RecReply u b (RecState.Done s))) (Some (a, PeerRecord.RecReply t b (RecState.Done r)))
    word a u b s x y = rw (x, y) refl

    here : (f : Event) → e.event ≡ f → is_reply r t f ≡ true → TookReply r t (e ∷ h)
    here (Event.Arrive a (PeerRecord.RecReply u b (RecState.Done s))) i k =
        record { from = a; id = b; took = inl (ap brought i ∙ word a u b s (aaids_equal t u (and_left (is_aaid t u) (same_report r s) k)) (same_is r s (and_right (is_aaid t u) (same_report r s) k))) }
    here f i k = absurd (cc (k))

    go : (is_reply r t e.event ≡ true) ⊎ (took_reply r t h ≡ true) → (took_reply r t h ≡ true → TookReply r t h) → TookReply r t (e ∷ h)
    go (inl k) rest = here e.event refl k
    go (inr k) rest = let w = rest k in record { from = w.from; id = w.id; took = inr w.took }

took_behind : (r : Report) (t : Aaid) (before : List Entry) (e : Entry) (h : List Entry) → is_reply r t e.event ≡ true → took_reply r t (before ++ e ∷ h) ≡ true
took_behind r t [] e h i = rw i refl
took_behind r t (x ∷ xs) e h i = let k = took_behind r t xs e h i in rw k (grind arith)

-- its sender stands just below, and speaks so too
reply_next : (es : List Happening) (t : Aaid) (r : Report) (x : Node) → IsOf (run es) t x → is_known x.origin t x.history ≡ true → is_report_none r ≡ false → took_reply r t x.history ≡ true → Next es t (Speaks r t) x
reply_next es t r x x_of known some took = record { id = kin.0; node = y; branch = kin.1; is = (known_y, voice.0) }
  where
    ns : List Node
    ns = (run es).nodes

    good : IsGood ns (run es).frames
    good = good_run es

    k : TookReply r t x.history
    k = found_reply r t x.history took

    reply : PeerRecord
    reply = PeerRecord.RecReply t k.id (RecState.Done r)

    s : Sender ns k.from (number_of x) reply
    s = was_sent ns (run es).frames k.from (number_of x) reply good.sent (good.taken (number_of x) x k.from reply x_of.here k.took)

    y : Node
    y = s.node

    hy : find_node ns (number_of y) ≡ Some y
    hy = ap (find_node ns) (ap (λ (v : Addr). v.node) s.is) ∙ s.found

    f : Facts t y
    f = facts es t y hy

    voice : (is_told_or_took r t y.origin y.history ≡ true) × (is_at y.superior s.to.node ≡ true)
    voice = replied y.origin y.superior y.history s.to t k.id r f.empty f.legal f.once some s.sent

    under : is_at y.superior (number_of x) ≡ true
    under = subst (λ (n : ℕ). is_at y.superior n ≡ true) s.at voice.1

    known_y : is_known y.origin t y.history ≡ true
    known_y = damage_is_known y.origin y.superior y.history t f.empty f.legal f.once (damage_replied y.origin y.superior y.history s.to t k.id r f.empty f.legal f.once some s.sent)

    kin : (b : BranchId) × IsBranchOf (run es) t b x y
    kin = kin_branch es t x y x_of known hy under known_y

-- ---- a word on its association

word_next : (es : List Happening) (t : Aaid) (r : Report) (x : Node) → IsOf (run es) t x → is_known x.origin t x.history ≡ true → (f : Current → Event → Bool) (w : Found f x.origin t x.history) (a : Addr) (m k : Mark) (q : ℕ)
    → w.entry.event ≡ Event.Arrive a (PeerRecord.OnAssoc m k q (DialogueRecord.Done r)) → is_committing w.current.phase ≡ true → is_awaited (find_branch w.current.branches a.node) ≡ true → Next es t (Speaks r t) x
word_next es t r x x_of known f w a m k q is committing waits = record { id = kin.0; node = s.node; branch = kin.1; is = (known_y, told_so (is_told Outcome.Commit r t s.node) (took_reply r t s.node.history) told) }
  where
    s : Speaker es x w.entry w.rest w.current a
    s = speaker es t x x_of.here f w a m k q (DialogueRecord.Done r) is waits

    g : Deeds
    g = deeds_of s.node.origin s.node.history

    rs : List LogRec
    rs = records s.node.origin s.node.history

    mark : DoneMark es x w.entry w.rest w.current a r s
    mark = done_mark es x w.entry w.rest w.current a m k q r s is w.at committing

    said : is_told Outcome.Commit r (aaid_of w.current.key) s.node ≡ true
    said = told_word x.origin x.superior (number_of s.node) g rs w.entry w.rest s.rules s.old (aaid_of w.current.key, s.branch.id) may_end mark.mark r mark.event mark.late

    told : is_told Outcome.Commit r t s.node ≡ true
    told = subst (λ (u : Aaid). is_told Outcome.Commit r u s.node ≡ true) (sym (aaids_equal t (aaid_of w.current.key) w.own)) said

    told_so : (b c : Bool) → b ≡ true → (b || c) ≡ true
    told_so b c h = rw h refl

    known_y : is_known s.node.origin t s.node.history ≡ true
    known_y = (facts es t s.node s.here).fated.commit_known (told_decided es t r s.node s.here told)

    kin : (b : BranchId) × IsBranchOf (run es) t b x s.node
    kin = kin_branch es t x s.node x_of known s.here s.under known_y

heard_next : (es : List Happening) (t : Aaid) (r : Report) (x : Node) → IsOf (run es) t x → is_report_none r ≡ false → decided x.origin t x.history ≡ true → has_heard r t x ≡ true → Next es t (Speaks r t) x
heard_next es t r x of some done m = on (hears_case w.current w.entry.event r w.met)
  where
    w : Found (hears r) x.origin t x.history
    w = find_met (hears r) x.origin t x.history m

    known : is_known x.origin t x.history ≡ true
    known = (facts es t x of.here).fated.commit_known done

    on : Hears r w.current w.entry.event → Next es t (Speaks r t) x
    on (A_done a n k q is phase waits) = word_next es t r x of known (hears r) w a n k q is phase waits
    on (A_back a n k q is phase waits) = absurd ((facts es t x of.here).fated.never_both done (rolled_there es t x of.here (hears r) w phase))
    on (A_reply a u b is phase waits same) =
        let one : is_reply r t w.entry.event ≡ true = ap (is_reply r t) is ∙ both_true (is_aaid t u) (same_report r r) (ap (λ (v : Aaid). is_aaid v u) (aaids_equal t (aaid_of w.current.key) w.own) ∙ same) (report_self r) in
        reply_next es t r x of known some (subst (λ (h : List Entry). took_reply r t h ≡ true) (sym w.is) (took_behind r t w.before w.entry w.rest one))

-- ---- every run

-- one step down: the node's own part, or a branch
commit_step : (es : List Happening) (t : Aaid) (r : Report) (F : Node → Type 0) → is_report_none r ≡ false → ((x : Node) → IsOf (run es) t x → has_told_in (tells_committed r) x.origin t x.history ≡ true → F x ⊎ (has_heard r t x ≡ true))
    → (x : Node) → IsOf (run es) t x → Speaks r t x → F x ⊎ Next es t (Speaks r t) x
commit_step es t r F some own x of speaks = elim (or_case (is_told Outcome.Commit r t x) (took_reply r t x.history) speaks.1) [
  | inl told ↦ elim (own x of (told_as (out_tells (is_complete Outcome.Commit r)) (tells_committed r) (λ outs i. sym (committed_is r outs) ∙ i) x.origin t x.history told)) [
    | inl i ↦ inl i
    | inr m ↦ inr (heard_next es t r x of some (told_decided es t r x of.here told) m)
  ]
  | inr took ↦ inr (reply_next es t r x of speaks.0 some took)
]

pub commitments_apart : (es : List Happening) → CommitmentsAreApart (run es)
commitments_apart es = record {
  mixed = λ t x here told.
      from t Report.Mix (HasOpposed Outcome.Commit t) refl (λ z of i. (reports_have_causes es).mixed_commit t z of.here i) x here told;
  hazardous = λ t x here told.
      from t Report.Hazard (λ z. has_given_up t z ≡ true) refl (λ z of i. (reports_have_causes es).hazard_commit t z of.here i) x here told;
}
  where
    from : (t : Aaid) (r : Report) (F : Node → Type 0) → is_report_none r ≡ false → ((x : Node) → IsOf (run es) t x → has_told_in (tells_committed r) x.origin t x.history ≡ true → F x ⊎ (has_heard r t x ≡ true))
        → (x : Node) → IsIn (run es) x → has_told_in (tells_committed r) x.origin t x.history ≡ true → Beneath F (run es) t x
    from t r F some own x here told = down es t (Speaks r t) F (commit_step es t r F some own) (length (run es).nodes) x of (all_within es x) (known, told_so (is_told Outcome.Commit r t x) (took_reply r t x.history) is)
      where
        of : IsOf (run es) t x
        of = record { here = here; of_tree = told_member (tells_committed r) x.origin t x.history told }

        is : is_told Outcome.Commit r t x ≡ true
        is = told_as (tells_committed r) (out_tells (is_complete Outcome.Commit r)) (λ outs i. committed_is r outs ∙ i) x.origin t x.history told

        known : is_known x.origin t x.history ≡ true
        known = (facts es t x here).fated.commit_known (told_decided es t r x here is)

        told_so : (b c : Bool) → b ≡ true → (b || c) ≡ true
        told_so b c h = rw h refl
