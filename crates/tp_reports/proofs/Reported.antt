-- While a superior has not completed, a Done with no report of its branch tells that all at and below the branch are told commit.
use Rattle.std.proofs.Common.{◌≡◌, ◌⊎◌, inl, inr, ℕ, Bool, true, false, refl, ap, sym, subst, ◌∙◌, arith, Option, Some, List, [], ◌∷◌}
use Rattle.std.proofs.lemmas.Bool.Decides.{nat_tests}
use Rattle.tp_names.specs.declared.identifiers.Aaid.{Aaid}
use Rattle.tp_names.specs.declared.identifiers.BranchId.{BranchId}
use Rattle.tp_names.specs.declared.identifiers.Mark.{Mark}
use Rattle.tp_names.specs.declared.identifiers.Addr.{Addr}
use Rattle.tp_names.specs.declared.outcome.Report.{Report}
use Rattle.tp_names.specs.Same.{is_aaid, is_branch}
use Rattle.tp_records.specs.declared.dialogue.DialogueRecord.{DialogueRecord}
use Rattle.tp_records.specs.declared.peer.PeerRecord.{PeerRecord}
use Rattle.tp_records.specs.declared.peer.RecState.{RecState}
use Rattle.tp_model.specs.Parts.{Origin, Out, Entry}
use Rattle.tp_model.specs.History.{digest, records}
use Rattle.tp_model.specs.Outcomes.{is_now, decided, rolled, has_left}
use Rattle.tp_model.specs.Questions.{is_at}
use Rattle.tp_model.specs.World.{Node, number_of, find_node}
use Rattle.tp_model.specs.Happenings.{Happening, run}
use Rattle.tp_model.specs.Promises.{IsIn, IsOf, IsBranchOf, IsBelow, has_told_in, is_done_none, some_out, has_sent_done_none, Reports}
use Rattle.tp_model.specs.Questions.{tells_commit_complete}
use Rattle.tp_model.specs.Legal.{IsGrown}
use Rattle.tp_steps.specs.Histories.{brought}
use Rattle.tp_histories.specs.Histories.{IsSentIn, HasSent, HasBrought}
use Rattle.tp_histories.specs.Worlds.{IsGood}
use Rattle.tp_histories.specs.Members.{IsOnce}
use Rattle.tp_steps.specs.Clearing.{has_damage}
use Rattle.tp_reports.specs.Clearing.{has_cleared}
use Rattle.tp_steps.proofs.lemmas.Equality.{aaids_equal, branches_equal, or_case, and_left, and_right}
use Rattle.tp_histories.proofs.worlds.Good.{good_run, Sender, was_sent}
use Rattle.tp_histories.proofs.trees.Fated.{fated_law}
use Rattle.tp_runs.proofs.Family.{at_same}
use Rattle.tp_agreement.proofs.Bounds.{commit_bound}
use Rattle.tp_agreement.proofs.BelowRuns.{SentBegin, branch_above, branch_sent}
use Rattle.tp_agreement.proofs.OwingLaw.{AnsweredDone}
use Rattle.tp_agreement.proofs.Unknown.{KnowsOrders}
use Rattle.tp_agreement.proofs.RollsUp.{Commits, Begins, tied_run, rolls_up, left_down, ready_down}
use Rattle.tp_reports.proofs.MarkTurns.{is_of}
use Rattle.tp_reports.proofs.BranchMarks.{ordered_mark, begun_mark}
use Rattle.tp_reports.proofs.Finished.{Ending, Goes_on, It_rolled, It_left, It_was_told, ending_law, done_clears}
use Rattle.tp_reports.proofs.ClearedLaw.{cleared_more, cleared_law, cleared_told}
use Rattle.tp_reports.proofs.ClearedFate.{KeyIs, branch_key_is}
use Rattle.tp_reports.proofs.ClearedReplies.{Answered, By_rolling, By_leaving, By_clearing, By_forgetting, answered_fate, done_said, forget_said, forget_past}
use Rattle.tp_reports.proofs.ClearedRuns.{Foreign, dones_run}
use Rattle.tp_reports.proofs.ClearedDown.{cleared_down}
use Rattle.tp_reports.specs.Reports.{DoneBelow}
use Rattle.tp_reports.proofs.ReportFree.{has_committed}
use Rattle.tp_model.specs.Trees.{stays}
use Rattle.tp_steps.proofs.lemmas.Options.{some_same}

-- ---- what was sent

-- over an association while the tree is current, or as a reply
abbrev SaidSo : Aaid → BranchId → Bool → List Out → Type 0
SaidSo t b now outs =
    ((now ≡ true) × (z : Addr) × (x : Mark) × (y : Mark) × (q : ℕ) × IsSentIn outs z (PeerRecord.OnAssoc x y q (DialogueRecord.Done Report.None))) ⊎ (z : Addr) × IsSentIn outs z (PeerRecord.RecReply t b (RecState.Done Report.None))

said_more : (t : Aaid) (b : BranchId) (now : Bool) (o : Out) (outs : List Out) → ((z : Addr) (r : PeerRecord) → IsSentIn outs z r → IsSentIn (o ∷ outs) z r) → SaidSo t b now outs → SaidSo t b now (o ∷ outs)
said_more t b now o outs more (inl w) = inl (w.0, w.1, w.2, w.3, w.4, more w.1 (PeerRecord.OnAssoc w.2 w.3 w.4 (DialogueRecord.Done Report.None)) w.5)
said_more t b now o outs more (inr w) = inr (w.0, more w.0 (PeerRecord.RecReply t b (RecState.Done Report.None)) w.1)

said_so : (t : Aaid) (b : BranchId) (now : Bool) (outs : List Out) → some_out (is_done_none t b now) outs ≡ true → SaidSo t b now outs
said_so t b now [] h = absurd (cc (h))
said_so t b now (Out.Tell i ∷ outs) h = said_more t b now (Out.Tell i) outs (λ z r s. s) (said_so t b now outs h)
said_so t b now (Out.Send a r ∷ outs) h = elim (or_case (is_done_none t b now (Out.Send a r)) (some_out (is_done_none t b now) outs) h) [
  | inl i ↦ one r i
  | inr i ↦ said_more t b now (Out.Send a r) outs (λ z w s. inr s) (said_so t b now outs i)
]
  where
    reply : (u : Aaid) (c : BranchId) → t ≡ u → b ≡ c → PeerRecord.RecReply u c (RecState.Done Report.None) ≡ PeerRecord.RecReply t b (RecState.Done Report.None)
    reply u c i j = rw (i, j) refl

    one : (r : PeerRecord) → is_done_none t b now (Out.Send a r) ≡ true → SaidSo t b now (Out.Send a r ∷ outs)
    one (PeerRecord.OnAssoc x y q (DialogueRecord.Done Report.None)) i = inl (i, a, x, y, q, inl (refl, refl))
    one (PeerRecord.RecReply u c (RecState.Done Report.None)) i = inr (a, inl (refl, reply u c (aaids_equal t u (and_left (is_aaid t u) (is_branch b c) i)) (branches_equal b c (and_right (is_aaid t u) (is_branch b c) i))))
    one r i = absurd (cc (i))

said_how : (o : Origin) (up : Option Addr) (h : List Entry) (t : Aaid) (b : BranchId) → o.start.records ≡ [] → IsGrown o up h → IsOnce o h → has_sent_done_none o t b h ≡ true
    → (has_cleared t (records o h) ≡ true) ⊎ (z : Addr) × HasSent h z (PeerRecord.RecReply t b (RecState.Done Report.None))
said_how o up [] t b empty legal once x = absurd (cc (x))
said_how o up (e ∷ h) t b empty legal once x = elim (or_case (some_out (is_done_none t b (is_now t (digest o h).current)) e.outs) (has_sent_done_none o t b h) x) [
  | inl i ↦ elim (said_so t b (is_now t (digest o h).current) e.outs i) [ inl w ↦ inl (done_clears o up e h t w.1 w.2 w.3 w.4 empty legal once w.0 w.5) | inr w ↦ inr (w.0, inl w.1) ]
  | inr i ↦ elim (said_how o up h t b empty legal.3 once.1 i) [ inl w ↦ inl (cleared_more t e.rec (records o h) w) | inr w ↦ inr (w.0, inr w.1) ]
]

-- ---- who asked

answered_took : (o : Origin) (z : Addr) (t : Aaid) (b : BranchId) (r : Report) (h : List Entry) → AnsweredDone o z t b r h → HasBrought h z (PeerRecord.RecCommit t b)
answered_took o z t b r [] a = absurd a
answered_took o z t b r (e ∷ h) (inl a) = inl (ap brought a.0)
answered_took o z t b r (e ∷ h) (inr a) = inr (answered_took o z t b r h a)

answered_commits : (n : ℕ) (C S : Aaid → Type 0) (o : Origin) (h : List Entry) (z : Addr) (t : Aaid) (b : BranchId) (r : Report) → KnowsOrders n C S o h → z.node ≡ n → AnsweredDone o z t b r h → C t
answered_commits n C S o [] z t b r k at a = absurd a
answered_commits n C S o (e ∷ h) z t b r k at (inl a) = (k.0 z t b a.0 at).0
answered_commits n C S o (e ∷ h) z t b r k at (inr a) = answered_commits n C S o h z t b r k.1 at a

-- ---- every run

reported : (es : List Happening) (t : Aaid) (b : BranchId) (x y : Node) → IsBranchOf (run es) t b x y → has_told_in tells_commit_complete x.origin t x.history ≡ false → has_sent_done_none y.origin t b y.history ≡ true
    → (has_left y.origin t y.history ≡ true) ⊎ (has_cleared t (records y.origin y.history) ≡ true)
reported es t b x y branch untold sent = elim (said_how y.origin y.superior y.history t b empty legal once sent) [
  | inl i ↦ inr i
  | inr w ↦ elim (done_said y.origin y.superior y.history w.0 t b empty legal once w.1) [ inl i ↦ inr i | inr a ↦ answered w.0 a ]
]
  where
    good : IsGood (run es).nodes (run es).frames
    good = good_run es

    hx : IsIn (run es) x
    hx = branch.superior.here

    hy : IsIn (run es) y
    hy = branch.child.here

    empty : y.origin.start.records ≡ []
    empty = good.fresh (number_of y) y hy

    legal : IsGrown y.origin y.superior y.history
    legal = good.legal (number_of y) y hy

    once : IsOnce y.origin y.history
    once = (tied_run es).unique.once (number_of y) y hy

    empty_x : x.origin.start.records ≡ []
    empty_x = good.fresh (number_of x) x hx

    legal_x : IsGrown x.origin x.superior x.history
    legal_x = good.legal (number_of x) x hx

    once_x : IsOnce x.origin x.history
    once_x = (tied_run es).unique.once (number_of x) x hx

    above : is_at y.superior (number_of x) ≡ true
    above = branch_above es t b x y branch

    keys : KeyIs y.origin y.history t b
    keys = branch_key_is es t b x y branch

    s : SentBegin x y t b
    s = branch_sent es t b x y branch

    Said : Type 0
    Said = (has_left y.origin t y.history ≡ true) ⊎ (has_cleared t (records y.origin y.history) ≡ true)

    -- the identifier of the branch is of the superior's mark
    asker : (z : Addr) → HasBrought y.history z (PeerRecord.RecCommit t b) → z.node ≡ number_of x
    asker z taken =
        let d : Sender (run es).nodes z (number_of y) (PeerRecord.RecCommit t b) = was_sent (run es).nodes (run es).frames z (number_of y) (PeerRecord.RecCommit t b) good.sent (good.taken (number_of y) y z (PeerRecord.RecCommit t b) hy taken) in
        let node : number_of d.node ≡ z.node = ap (λ (a : Addr). a.node) d.is in
        let here : find_node (run es).nodes (number_of d.node) ≡ Some d.node = ap (find_node (run es).nodes) node ∙ d.found in
        let one : is_of (number_of d.node) b ≡ true = ordered_mark d.node.origin d.node.superior d.node.history d.to t b (good.fresh (number_of d.node) d.node here) (good.legal (number_of d.node) d.node here) d.sent in
        let two : is_of (number_of x) b ≡ true = begun_mark x.origin x.superior x.history s.to s.x_mark s.y_mark s.seq t b s.holder legal_x s.sent in
        sym node ∙ grind (arith, nat_tests, one, two)

    answered : (z : Addr) → AnsweredDone y.origin z t b Report.None y.history → Said
    answered z a = by (answered_fate (number_of x) (Commits x) (Begins x (number_of y)) y.origin y.superior y.history z t b empty legal once keys orders at begins a)
      where
        at : z.node ≡ number_of x
        at = asker z (answered_took y.origin z t b Report.None y.history a)

        orders : KnowsOrders (number_of x) (Commits x) (Begins x (number_of y)) y.origin y.history
        orders = (tied_run es).orders x y hx hy above

        begins : Begins x (number_of y) t
        begins = (b, record { to = s.to; x = s.x_mark; y = s.y_mark; seq = s.seq; holder = s.holder; at = s.at; sent = s.sent })

        done : decided x.origin t x.history ≡ true
        done = answered_commits (number_of x) (Commits x) (Begins x (number_of y)) y.origin y.history z t b Report.None orders at a

        never : rolled x.origin t x.history ≡ true → ⊥
        never r = (fated_law x.origin x.superior x.history t empty_x legal_x once_x).never_both done r

        forgotten : (f : Addr) → f.node ≡ number_of y → HasSent x.history f (PeerRecord.Forget t b) → Said
        forgotten f to said = go (ending_law x.origin x.superior x.history t empty_x legal_x once_x branch.superior.of_tree)
          where
            damage : is_now t (digest x.origin x.history).current ≡ true → has_damage t (records x.origin x.history) ≡ true
            damage n = elim (forget_said x.origin x.superior x.history f t b empty_x legal_x once_x said) [
              | inl i ↦ i
              | inr i ↦ forget_past (number_of y) (Foreign y) x.origin x.superior x.history f t b empty_x legal_x once_x (dones_run es x y hx hy above) to keys.other n i
            ]

            go : Ending x.origin x.history t → Said
            go (Goes_on n) = absurd (never ((fated_law x.origin x.superior x.history t empty_x legal_x once_x).rolling n ((cleared_law x.origin x.superior x.history t empty_x legal_x once_x).damage_now (damage n) n)))
            go (It_rolled r) = absurd (never r)
            go (It_left l) = inl (left_down es t b x y branch l)
            go (It_was_told i) = absurd (cc (untold, i))

        by : Answered y.origin y.superior y.history t b → Said
        by (By_leaving l) = inl l
        by (By_clearing c) = inr c
        by (By_rolling r) = elim (ready_down es t b x y branch (commit_bound t (records x.origin x.history) done)) [ inl gone ↦ inl gone | inr voted ↦ absurd (never (rolls_up es t b x y branch voted r)) ]
        by (By_forgetting f taken up) =
            let r : PeerRecord = PeerRecord.Forget t b in
            let d : Sender (run es).nodes f (number_of y) r = was_sent (run es).nodes (run es).frames f (number_of y) r good.sent (good.taken (number_of y) y f r hy taken) in
            let mine : d.node ≡ x = some_same d.node x (sym d.found ∙ ap (find_node (run es).nodes) (at_same y.superior f.node (number_of x) up above) ∙ hx) in
            forgotten d.to d.at (subst (λ (w : Node). HasSent w.history d.to r) mine d.sent)

-- ---- down

below_of : (es : List Happening) (t : Aaid) (y z : Node) → IsOf (run es) t y → IsBelow (run es) t y z → IsOf (run es) t z
below_of es t y z of IsBelow.itself = of
below_of es t y z of (IsBelow.below b w v i branch) = branch.child

below_clear : (es : List Happening) (t : Aaid) (y z : Node) → IsBelow (run es) t y z → (has_left y.origin t y.history ≡ true) ⊎ (has_cleared t (records y.origin y.history) ≡ true)
    → (has_left z.origin t z.history ≡ true) ⊎ (has_cleared t (records z.origin z.history) ≡ true)
below_clear es t y z IsBelow.itself h = h
below_clear es t y z (IsBelow.below b w v i branch) h = elim (below_clear es t y w i h) [
  | inl gone ↦ inl (left_down es t b w z branch gone)
  | inr clear ↦ cleared_down es t b w z branch clear
]

clear_under : (es : List Happening) (t : Aaid) (b : BranchId) (x y z : Node) → IsBranchOf (run es) t b x y → has_told_in tells_commit_complete x.origin t x.history ≡ false → has_sent_done_none y.origin t b y.history ≡ true → IsBelow (run es) t y z → stays t z ≡ true
    → has_cleared t (records z.origin z.history) ≡ true
clear_under es t b x y z branch untold sent under stay = elim (below_clear es t y z under (reported es t b x y branch untold sent)) [ inl gone ↦ absurd (grind (arith, gone, stay)) | inr clear ↦ clear ]

pub reports : (es : List Happening) → Reports (run es)
reports es t b x y z branch untold sent under stay =
    let of = below_of es t y z branch.child under in
    cleared_told z.origin z.superior z.history t ((good_run es).fresh (number_of z) z of.here) ((good_run es).legal (number_of z) z of.here) ((tied_run es).unique.once (number_of z) z of.here) (clear_under es t b x y z branch untold sent under stay)

pub done_below : (es : List Happening) → DoneBelow (run es)
done_below es t b x y z branch untold sent under stay = has_committed es t z (below_of es t y z branch.child under) (clear_under es t b x y z branch untold sent under stay)
