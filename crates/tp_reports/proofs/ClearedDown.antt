-- A node whose commitment ended clear answers for each branch that it began: it left, or its commitment ended clear too.
use Rattle.std.proofs.Common.{◌≡◌, ◌⊎◌, inl, inr, ℕ, true, refl, ap, sym, subst, ◌∙◌, arith, Option, Some, None, List, [], ◌∷◌, ◌&&◌, ◌||◌}
use Rattle.std.proofs.lemmas.Bool.Decides.{nat_tests}
use Rattle.tp_names.specs.declared.identifiers.Aaid.{Aaid}
use Rattle.tp_names.specs.declared.identifiers.Mark.{Mark}
use Rattle.tp_names.specs.declared.identifiers.BranchId.{BranchId}
use Rattle.tp_names.specs.declared.identifiers.Addr.{Addr}
use Rattle.tp_names.specs.declared.outcome.Report.{Report}
use Rattle.tp_records.specs.declared.dialogue.DialogueRecord.{DialogueRecord}
use Rattle.tp_records.specs.declared.dialogue.Holder.{Holder}
use Rattle.tp_records.specs.declared.peer.PeerRecord.{PeerRecord}
use Rattle.tp_records.specs.declared.peer.RecState.{RecState}
use Rattle.tp_logrec.specs.declared.record.LogRec.{LogRec}
use Rattle.tp_model.specs.declared.transaction.TxEvent.{TxEvent}
use Rattle.tp_model.specs.Parts.{Origin, Event, Entry, Branch, Digest}
use Rattle.tp_model.specs.Dialogues.{is_committing, is_rolling}
use Rattle.tp_model.specs.Transactions.{Row, Transaction, aaid_of, find_row_by_id}
use Rattle.tp_model.specs.Arrivals.{find_branch_by_id}
use Rattle.tp_model.specs.Node.{phase_of, seen}
use Rattle.tp_model.specs.Events.{action}
use Rattle.tp_model.specs.History.{digest, records}
use Rattle.tp_model.specs.Outcomes.{is_now, rolls, rolled, has_left}
use Rattle.tp_model.specs.Questions.{is_at}
use Rattle.tp_model.specs.World.{Node, number_of}
use Rattle.tp_model.specs.Happenings.{Happening, run}
use Rattle.tp_model.specs.Promises.{IsIn, IsBranchOf}
use Rattle.tp_histories.specs.Histories.{IsSentIn, HasSent}
use Rattle.tp_histories.specs.Worlds.{IsGood}
use Rattle.tp_steps.specs.Moves.{IsAsked, prelude}
use Rattle.tp_steps.specs.Facts.{BranchKey}
use Rattle.tp_steps.specs.Upward.{Deeds}
use Rattle.tp_histories.specs.Upward.{deeds_of}
use Rattle.tp_histories.specs.Members.{IsOnce}
use Rattle.tp_steps.specs.Clearing.{damages_tree, has_damage}
use Rattle.tp_reports.specs.Clearing.{may_clear, has_cleared, OpenRow, is_clear_branch}
use Rattle.tp_steps.proofs.lemmas.Equality.{aaids_equal, addrs_equal}
use Rattle.tp_histories.proofs.trees.Late.{late_law}
use Rattle.tp_steps.proofs.branches.Rolls.{phase_at}
use Rattle.tp_steps.proofs.lemmas.Words.{damage_first, damage_more}
use Rattle.tp_histories.proofs.trees.Fated.{fated_law}
use Rattle.tp_runs.proofs.Bare.{left_is_bare}
use Rattle.tp_agreement.proofs.Marked.{MayMark}
use Rattle.tp_agreement.proofs.Accounts.{leaves_word, Accounts}
use Rattle.tp_agreement.proofs.AccountSteps.{Rules}
use Rattle.tp_agreement.proofs.LeftDown.{Below, below_tail, accounts_of}
use Rattle.tp_agreement.proofs.BelowRuns.{SentBegin, branch_above, branch_sent}
use Rattle.tp_agreement.proofs.OwingLaw.{sent_now, rolled_here, rolled_more, rolling_here, completed_word, Replied, replied_by, same_peer, rows_by_id, id_found, spread_at, row_first, rules_of, tree_marked, mark_left, unchanged_current}
use Rattle.tp_agreement.proofs.Unknown.{SentTo}
use Rattle.tp_agreement.proofs.RollsUp.{tied_run, below_run}
use Rattle.tp_histories.proofs.worlds.Good.{good_run}
use Rattle.tp_reports.proofs.ClearingMoves.{SettlesAt, Clear_here, Left_here, Rolls_here, Leaves_here, IsClearingMove, clearing_event}
use Rattle.tp_reports.proofs.ClearedLaw.{cleared_record, IsCleared, cleared_law}
use Rattle.tp_reports.proofs.ClearedFate.{branch_key_is}
use Rattle.tp_reports.proofs.ClearedRuns.{HearsClear, Clears, hears_run}

-- what clears a branch
data Clearance (f : TxEvent) (q : Transaction) (p : ℕ) : Type 0 where
  By_word : f ≡ TxEvent.Took p (DialogueRecord.Done Report.None) → is_committing q.phase ≡ true → Clearance f q p
  In_rollback : is_rolling q.phase ≡ true → Clearance f q p
  By_answer : (c : BranchId) (w : Row) → f ≡ TxEvent.Reply c (RecState.Done Report.None) → find_row_by_id q.rows c ≡ Some w → w.branch.peer.node ≡ p → is_committing q.phase ≡ true → Clearance f q p

clearance : (f : TxEvent) (q : Transaction) (p : ℕ) → may_clear f q p ≡ true → Clearance f q p
clearance (TxEvent.Took n (DialogueRecord.Done Report.None)) q p h = let same : n ≡ p = grind (arith, nat_tests, h) in By_word (rw same refl) (grind (arith, h))
clearance (TxEvent.Took n (DialogueRecord.Done Report.Hazard)) q p h = absurd (grind (arith, h))
clearance (TxEvent.Took n (DialogueRecord.Done Report.Mix)) q p h = absurd (grind (arith, h))
clearance (TxEvent.Took n (DialogueRecord.RolledBack r)) q p h = In_rollback (grind (arith, h))
clearance (TxEvent.Took n DialogueRecord.Left) q p h = In_rollback (grind (arith, h))
clearance (TxEvent.Took n DialogueRecord.LeftEnd) q p h = In_rollback (grind (arith, h))
clearance (TxEvent.Reply c (RecState.Done Report.None)) q p h = go (find_row_by_id q.rows c) refl
  where
    go : (o : Option Row) → find_row_by_id q.rows c ≡ o → Clearance (TxEvent.Reply c (RecState.Done Report.None)) q p
    go None i = absurd (grind (arith, h, i))
    go (Some w) i = let at : w.branch.peer.node ≡ p = grind (arith, nat_tests, h, i) in By_answer c w refl i at (grind (arith, h, i))
clearance (TxEvent.Reply c (RecState.Done Report.Hazard)) q p h = absurd (cc (h))
clearance (TxEvent.Reply c (RecState.Done Report.Mix)) q p h = absurd (cc (h))
clearance f q p h = absurd (grind (arith, h))

-- ---- every legal history

-- the branch's Done with no report came as a reply, while the tree committed
abbrev HeardClear : Origin → ℕ → Aaid → BranchId → List Entry → Type 0
HeardClear o n t b [] = ⊥
HeardClear o n t b (e ∷ h) =
    ((a : Addr) × (e.event ≡ Event.Arrive a (PeerRecord.RecReply t b (RecState.Done Report.None))) × (a.node ≡ n) × (is_now t (digest o h).current ≡ true) × (is_committing (phase_of (digest o h)) ≡ true) × SentTo (e ∷ h) n t b)
    ⊎ HeardClear o n t b h

heard_so : (n : ℕ) (K : Aaid → BranchId → Type 0) (o : Origin) (h : List Entry) (t : Aaid) (b : BranchId) → HearsClear n K o h → HeardClear o n t b h → K t b
heard_so n K o [] t b k w = absurd w
heard_so n K o (e ∷ h) t b k (inl w) = k.0 w.0 t b w.1 w.2 w.3 w.4 w.5
heard_so n K o (e ∷ h) t b k (inr w) = heard_so n K o h t b k.1 w

-- the branch is open; or it left, was complete with no report, its Done with none came as a reply, or the node has its damage
-- logged, rolled or left
data Opened (o : Origin) (p : ℕ) (g : Deeds) (h : List Entry) (t : Aaid) (b : BranchId) : Type 0 where
  Still_open : OpenRow t p b (digest o h).current → Opened o p g h t b
  Is_gone : g.left t ≡ true → Opened o p g h t b
  Is_clear : g.completed t ≡ true → Opened o p g h t b
  Was_told : HeardClear o p t b h → Opened o p g h t b
  Is_damaged : has_damage t (records o h) ≡ true → Opened o p g h t b
  Had_rolled : rolled o t h ≡ true → Opened o p g h t b
  Had_left : has_left o t h ≡ true → Opened o p g h t b

settle_now : (o : Origin) (up : Option Addr) (p : ℕ) (g : Deeds) (rs : List LogRec) (e : Entry) (h : List Entry) (t : Aaid) (b : BranchId) → SentTo (e ∷ h) p t b → Below o up p g rs (e ∷ h) → SettlesAt o.who e.event (rolls o.who (digest o h) e.event) (prelude o.who (digest o h) e.event) t p b → Opened o p g (e ∷ h) t b
settle_now o up p g rs e h t b begun below settles = by settles
  where
    d : Digest
    d = digest o h

    s : Digest
    s = prelude o.who d e.event

    rules : Rules o up p g rs e h
    rules = rules_of o up p g rs e h below

    old : Accounts o p g rs h
    old = accounts_of o up p g rs h (below_tail o up p g rs e h below)

    cleared : (m : MayMark o.who e.event s may_clear p (t, b)) → Clearance m.event (seen o.who m.arcs m.current) p → Opened o p g (e ∷ h) t b
    cleared m (By_word word committing) = Is_clear (completed_word o up p g rs e h rules old (t, b) may_clear m Report.None word committing refl)
    cleared m (In_rollback roll) = Had_rolled (rolling_here o up e h t below.empty below.legal below.once m.current m.at (tree_marked t b m.current m.branch.id m.key) roll)
    cleared m (By_answer c w word found at committing) = answered (replied_by e.event m.current c Report.None (subst (λ (f : TxEvent). IsAsked e.event m.current f) word m.asked))
      where
        by_id : find_branch_by_id m.current.branches c ≡ Some w.branch
        by_id = rows_by_id m.arcs m.current.branches c w found

        answered : Replied e.event m.current c Report.None → Opened o p g (e ∷ h) t b
        answered k =
            let now : d.current ≡ Some m.current = sym (ap (λ (f : Event). (prelude o.who d f).current) k.is) ∙ m.at in
            let same : m.branch ≡ w.branch = same_peer m.current.branches p c m.branch w.branch (spread_at o up h below.empty below.legal.3 m.current now) m.found by_id at in
            let id : c ≡ b = sym (id_found m.current.branches c w.branch by_id) ∙ ap (λ (y : Branch). y.id) (sym same) ∙ sym (ap (λ (j : BranchKey). j.1) m.key) in
            let from : w.branch.peer ≡ k.from = addrs_equal w.branch.peer k.from (k.peer w.branch by_id) in
            let one : t ≡ k.tree = ap (λ (j : BranchKey). j.0) m.key ∙ aaids_equal (aaid_of m.current.key) k.tree k.same in
            Was_told (inl (k.from, k.is ∙ word_is k.from k.tree c one id, ap (λ (y : Addr). y.node) (sym from) ∙ at, ap (is_now t) now ∙ tree_marked t b m.current m.branch.id m.key, ap is_committing (phase_at d m.current now) ∙ committing, begun))
          where
            word_is : (a : Addr) (u : Aaid) (i : BranchId) → t ≡ u → i ≡ b → Event.Arrive a (PeerRecord.RecReply u i (RecState.Done Report.None)) ≡ Event.Arrive a (PeerRecord.RecReply t b (RecState.Done Report.None))
            word_is a u i x y = rw (← x, y) refl

    by : SettlesAt o.who e.event (rolls o.who d e.event) s t p b → Opened o p g (e ∷ h) t b
    by (Clear_here m) = cleared m (clearance m.event (seen o.who m.arcs m.current) p m.sets)
    by (Left_here m) = Is_gone (mark_left o up p g rs e h t b below m (leaves_word m.event (seen o.who m.arcs m.current) p m.sets))
    by (Rolls_here n f) = Had_rolled (rolled_here o up e h t below.legal n f)
    by (Leaves_here n u) = let now : is_now t d.current ≡ true = ap (is_now t) (sym (unchanged_current o.who d e.event u)) ∙ n in Had_left (rw (now, u) refl)

opened_law : (o : Origin) (up : Option Addr) (p : ℕ) (g : Deeds) (rs : List LogRec) (h : List Entry) (a : Addr) (x y : Mark) (q : ℕ) (t : Aaid) (b : BranchId) (i : Holder) → Below o up p g rs h → a.node ≡ p → HasSent h a (PeerRecord.OnAssoc x y q (DialogueRecord.Begin t b i)) → Opened o p g h t b
opened_law o up p g rs [] a x y q t b i below at s = absurd s
opened_law o up p g rs (e ∷ h) a x y q t b i below at s = go s (opened_law o up p g rs h a x y q t b i (below_tail o up p g rs e h below) at)
  where
    begun : SentTo (e ∷ h) p t b
    begun = record { to = a; x = x; y = y; seq = q; holder = i; at = at; sent = s }

    w : Digest
    w = prelude o.who (digest o h) e.event

    k : IsClearingMove o.who e.event (rolls o.who (digest o h) e.event) w t w (action o.who (digest o h) e.event)
    k = clearing_event o.who (digest o h) e.event t (late_law o up h below.legal.3) below.legal.0

    on : OpenRow t p b (digest o (e ∷ h)).current ⊎ SettlesAt o.who e.event (rolls o.who (digest o h) e.event) w t p b ⊎ (damages_tree t (action o.who (digest o h) e.event).rec ≡ true) → Opened o p g (e ∷ h) t b
    on (inl n) = Still_open n
    on (inr (inl n)) = settle_now o up p g rs e h t b begun below n
    on (inr (inr n)) = Is_damaged (damage_first t e.rec (records o h) (ap (damages_tree t) (ap (λ (v : Entry). v.rec) (sym below.legal.1)) ∙ n))

    later : Opened o p g h t b → Opened o p g (e ∷ h) t b
    later (Still_open n) = elim (row_first is_clear_branch (λ x. refl) o up e h t p b below.legal n) [ inl j ↦ on (k.stays p b j) | inr j ↦ Had_rolled j ]
    later (Is_gone n) = Is_gone n
    later (Is_clear n) = Is_clear n
    later (Was_told n) = Was_told (inr n)
    later (Is_damaged n) = Is_damaged (damage_more t e.rec (records o h) n)
    later (Had_rolled n) = Had_rolled (rolled_more o e h t n)
    later (Had_left n) = Had_left (rw n (grind arith))

    go : IsSentIn e.outs a (PeerRecord.OnAssoc x y q (DialogueRecord.Begin t b i)) ⊎ HasSent h a (PeerRecord.OnAssoc x y q (DialogueRecord.Begin t b i)) → (HasSent h a (PeerRecord.OnAssoc x y q (DialogueRecord.Begin t b i)) → Opened o p g h t b) → Opened o p g (e ∷ h) t b
    go (inl n) rest = on (k.begins p b (a, x, y, q, i, at, sent_now o up e h a (PeerRecord.OnAssoc x y q (DialogueRecord.Begin t b i)) below.legal n))
    go (inr n) rest = later (rest n)

-- ---- every run

-- what ended clear answers for its branches
pub cleared_down : (es : List Happening) (t : Aaid) (b : BranchId) (x y : Node) → IsBranchOf (run es) t b x y → has_cleared t (records x.origin x.history) ≡ true → (has_left y.origin t y.history ≡ true) ⊎ (has_cleared t (records y.origin y.history) ≡ true)
cleared_down es t b x y branch clear = by (opened_law x.origin x.superior (number_of y) (deeds_of y.origin y.history) (records y.origin y.history) x.history s.to s.x_mark s.y_mark s.seq t b s.holder (below_run es x y branch.superior.here branch.child.here above) s.at s.sent)
  where
    s : SentBegin x y t b
    s = branch_sent es t b x y branch

    above : is_at y.superior (number_of x) ≡ true
    above = branch_above es t b x y branch

    good : IsGood (run es).nodes (run es).frames
    good = good_run es

    once : (z : Node) → IsIn (run es) z → IsOnce z.origin z.history
    once z here = (tied_run es).unique.once (number_of z) z here

    f : (z : Node) → IsIn (run es) z → IsCleared z.origin z.history t
    f z here = cleared_law z.origin z.superior z.history t (good.fresh (number_of z) z here) (good.legal (number_of z) z here) (once z here)

    own : IsCleared x.origin x.history t
    own = f x branch.superior.here

    by : Opened x.origin (number_of y) (deeds_of y.origin y.history) x.history t b → (has_left y.origin t y.history ≡ true) ⊎ (has_cleared t (records y.origin y.history) ≡ true)
    by (Still_open n) = absurd (own.clear_over clear (ap (is_now t) n.at ∙ n.tree))
    by (Is_gone n) = inl n
    by (Is_clear n) = inr ((f y branch.child.here).completed n)
    by (Was_told n) = elim (heard_so (number_of y) (Clears y) x.origin x.history t b (hears_run es x y branch.superior.here branch.child.here above) n (branch_key_is es t b x y branch)) [ inl i ↦ inr i | inr i ↦ inl i ]
    by (Is_damaged n) = absurd (cc (own.clear_whole clear, n))
    by (Had_rolled n) = absurd ((fated_law x.origin x.superior x.history t (good.fresh (number_of x) x branch.superior.here) (good.legal (number_of x) x branch.superior.here) (once x branch.superior.here)).never_both (own.clear_decided clear) n)
    by (Had_left n) = absurd (cc (left_is_bare es t x branch.superior n, cleared_record t (records x.origin x.history) clear))
