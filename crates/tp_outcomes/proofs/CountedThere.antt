-- In every run, a branch that a node counts is a node of the tree, which logged Ready for it.
use Rattle.std.proofs.Common.{◌≡◌, ◌⊎◌, inl, inr, ℕ, Bool, true, false, refl, ap, sym, subst, ◌∙◌, arith, Option, Some, None, List, [], ◌∷◌, ◌&&◌, ◌||◌, ◌+◌, ◌==◌}
use Rattle.std.proofs.lemmas.Bool.Decides.{nat_tests}
use Rattle.tp_names.specs.declared.identifiers.Aaid.{Aaid}
use Rattle.tp_names.specs.declared.identifiers.BranchId.{BranchId}
use Rattle.tp_names.specs.declared.identifiers.Mark.{Mark}
use Rattle.tp_names.specs.declared.identifiers.Addr.{Addr}
use Rattle.tp_names.specs.Same.{is_branch}
use Rattle.tp_records.specs.declared.dialogue.DialogueRecord.{DialogueRecord}
use Rattle.tp_records.specs.declared.peer.PeerRecord.{PeerRecord}
use Rattle.tp_logrec.specs.declared.record.LogRec.{LogRec}
use Rattle.tp_model.specs.declared.transaction.TxEvent.{TxEvent}
use Rattle.tp_model.specs.Parts.{Origin, Out, Entry, Branch, Current, Digest}
use Rattle.tp_model.specs.Transactions.{aaid_of, child_of}
use Rattle.tp_model.specs.Events.{action}
use Rattle.tp_model.specs.History.{digest, records, with_rec}
use Rattle.tp_model.specs.Outcomes.{is_now, rolls}
use Rattle.tp_model.specs.Questions.{is_at}
use Rattle.tp_model.specs.World.{Node, number_of, addr_of, find_node}
use Rattle.tp_model.specs.Happenings.{Happening, run}
use Rattle.tp_model.specs.Promises.{IsIn, IsBranchOf, is_counted, is_counted_in, has_begun}
use Rattle.tp_model.specs.Legal.{IsGrown, is_apart, are_apart}
use Rattle.tp_steps.specs.Moves.{IsAsked, prelude}
use Rattle.tp_steps.specs.Facts.{find_branch, BranchKey, HasPlaceAt, IsHeard, has_ready_of, is_vote, is_voted, each_vote, ends, words_to}
use Rattle.tp_steps.specs.Branches.{may_count}
use Rattle.tp_steps.specs.Histories.{brought}
use Rattle.tp_histories.specs.Histories.{HasSent, IsSentIn, HasBrought}
use Rattle.tp_histories.specs.Members.{has_taken_begin, is_begun_by}
use Rattle.tp_histories.specs.Worlds.{IsGood}
use Rattle.tp_histories.specs.Upward.{deeds_of}
use Rattle.tp_outcomes.specs.Counting.{CountedIsThere}
use Rattle.tp_steps.proofs.words.Leaves.{aaid_same}
use Rattle.tp_steps.proofs.log.KinTurns.{kin}
use Rattle.tp_steps.proofs.lemmas.Equality.{aaids_equal, branches_equal, or_case, and_left, and_right}
use Rattle.tp_steps.proofs.lemmas.Options.{some_same}
use Rattle.tp_histories.proofs.trees.Late.{late_law}
use Rattle.tp_histories.proofs.trees.Knowing.{current_none}
use Rattle.tp_histories.proofs.pairs.PairedSteps.{heard_entry, reads_event, placed_event}
use Rattle.tp_histories.proofs.worlds.Nodes.{find_is}
use Rattle.tp_histories.proofs.worlds.Unique.{TookOn, took_has}
use Rattle.tp_histories.proofs.worlds.Good.{good_run, Sender, was_sent}
use Rattle.tp_runs.proofs.Hanging.{member_head, began_from}
use Rattle.tp_agreement.proofs.Marked.{Marked, MayMark, marking_event}
use Rattle.tp_agreement.proofs.Accounts.{counts_mark, counted_of, marked_back, counts_word, TookWord, asked_took}
use Rattle.tp_agreement.proofs.LeftDown.{accounts_of}
use Rattle.tp_agreement.proofs.CountedBranch.{apart_peer}
use Rattle.tp_runs.proofs.Family.{begun_up}
use Rattle.tp_agreement.proofs.BelowRuns.{TookKey, ready_took, ready_logged}
use Rattle.tp_agreement.proofs.OwingLaw.{sent_now, spread_at}
use Rattle.tp_agreement.proofs.RollsUp.{below_run}
use Rattle.tp_outcomes.proofs.Starting.{taken_member}

-- ---- Ready was taken

pub record TookReady (h : List Entry) (p : ℕ) : Type 0 where
  pub from : Addr
  pub x : Mark
  pub y : Mark
  pub seq : ℕ
  pub at : from.node ≡ p
  pub took : HasBrought h from (PeerRecord.OnAssoc x y seq DialogueRecord.Ready)

pub took_ready : (o : Origin) (up : Option Addr) (h : List Entry) (p : ℕ) (j : BranchKey) → o.start.records ≡ [] → IsGrown o up h → Marked counted_of (digest o h).current p j → TookReady h p
took_ready o up [] p j empty legal m = absurd (let off : None ≡ Some m.current = sym (current_none o empty) ∙ m.at in cc (off))
took_ready o up (e ∷ h) p j empty legal m = go (marking_event o.who d e.event counted_of may_count counts_mark (late_law o up h legal.3) legal.0 p j m) (took_ready o up h p j empty legal.3)
  where
    d : Digest
    d = digest o h

    s : Digest
    s = prelude o.who d e.event

    go : Marked counted_of s.current p j ⊎ MayMark o.who e.event s may_count p j → (Marked counted_of d.current p j → TookReady h p) → TookReady (e ∷ h) p
    go (inl n) rest = let r = rest (marked_back o.who d e.event counted_of may_count p j counts_mark legal.0 n) in record { from = r.from; x = r.x; y = r.y; seq = r.seq; at = r.at; took = inr r.took }
    go (inr n) rest =
        let word : n.event ≡ TxEvent.Took p DialogueRecord.Ready = counts_word n.event _ p n.sets in
        let w : TookWord e.event p DialogueRecord.Ready = asked_took e.event n.current p DialogueRecord.Ready (subst (λ (f : TxEvent). IsAsked e.event n.current f) word n.asked) in
        record { from = w.from; x = w.x; y = w.y; seq = w.seq; at = w.at; took = inl (ap brought w.is) }

-- ---- Ready is said to a superior alone

abbrev has_vote : List DialogueRecord → Bool
has_vote [] = false
has_vote (r ∷ rs) = is_vote r || has_vote rs

vote_in : (p : ℕ) (outs : List Out) (a : Addr) (x y : Mark) (q : ℕ) → a.node ≡ p → IsSentIn outs a (PeerRecord.OnAssoc x y q DialogueRecord.Ready) → has_vote (words_to p outs) ≡ true
vote_in p [] a x y q at s = absurd s
vote_in p (Out.Tell i ∷ outs) a x y q at s = vote_in p outs a x y q at s
vote_in p (Out.Send c (PeerRecord.OnAssoc z w n r) ∷ outs) a x y q at (inl s) =
    let node : c.node ≡ p = ap (λ (u : Addr). u.node) s.0 ∙ at in
    let is : r ≡ DialogueRecord.Ready = cc (s.1) in
    let words : words_to p (Out.Send c (PeerRecord.OnAssoc z w n r) ∷ outs) ≡ DialogueRecord.Ready ∷ words_to p outs = rw (node, is) (grind (arith, nat_tests)) in
    ap has_vote words
vote_in p (Out.Send c (PeerRecord.OnAssoc z w n r) ∷ outs) a x y q at (inr s) = let rest = vote_in p outs a x y q at s in grind (arith, rest)
vote_in p (Out.Send c r ∷ outs) a x y q at (inl s) = absurd (cc (s.1))
vote_in p (Out.Send c r ∷ outs) a x y q at (inr s) = vote_in p outs a x y q at s

no_vote : (rs : List LogRec) (n : ℕ) (ws : List DialogueRecord) → each_vote (is_voted [] rs) n ws ≡ true → has_vote ws ≡ true → ⊥
no_vote rs n [] h i = cc (i)
no_vote rs n (w ∷ ws) h i = go (is_vote w) refl (no_vote rs (ends w + n) ws)
  where
    go : (b : Bool) → is_vote w ≡ b → (each_vote (is_voted [] rs) (ends w + n) ws ≡ true → has_vote ws ≡ true → ⊥) → ⊥
    go true j rest = absurd (grind (arith, h, j))
    go false j rest = rest (grind (arith, h, j)) (grind (arith, i, j))

pub said_above : (o : Origin) (up : Option Addr) (h : List Entry) (a : Addr) (x y : Mark) (q : ℕ) → o.start.records ≡ [] → IsGrown o up h → HasSent h a (PeerRecord.OnAssoc x y q DialogueRecord.Ready) → is_at up a.node ≡ true
said_above o up [] a x y q empty legal s = absurd s
said_above o up (e ∷ h) a x y q empty legal (inr s) = said_above o up h a x y q empty legal.3 s
said_above o up (e ∷ h) a x y q empty legal (inl s) = go (is_at up a.node) refl
  where
    d : Digest
    d = digest o h

    w : Digest
    w = prelude o.who d e.event

    heard : IsHeard a.node (is_at up a.node) (rolls o.who d e.event) 1 w w (action o.who d e.event)
    heard = heard_entry o up e h a.node empty legal

    vote : has_vote (words_to a.node (action o.who d e.event).outs) ≡ true
    vote = vote_in a.node (action o.who d e.event).outs a x y q refl (sent_now o up e h a (PeerRecord.OnAssoc x y q DialogueRecord.Ready) legal s)

    go : (b : Bool) → is_at up a.node ≡ b → is_at up a.node ≡ true
    go true i = i
    go false i =
        let placed : HasPlaceAt [] 0 w.current a.node = λ c u b z at nil key under. absurd (cc (i, (reads_event o up e.event h a.node legal.0 (placed_event o up e h a.node empty legal)).under_superior c at under)) in
        absurd (no_vote (with_rec (action o.who d e.event).rec []) 0 (words_to a.node (action o.who d e.event).outs) (heard.votes [] [] 0 placed) vote)

-- ---- every run

-- what is counted of the tree
record Counts (t : Aaid) (b : BranchId) (x : Node) : Type 0 where
  current : Current
  at : (digest x.origin x.history).current ≡ Some current
  now : is_now t (Some current) ≡ true
  counted : is_counted_in b current.branches ≡ true

counts_of : (t : Aaid) (b : BranchId) (x : Node) → is_counted t b x ≡ true → Counts t b x
counts_of t b x h = go (digest x.origin x.history).current refl h
  where
    go : (o : Option Current) → (digest x.origin x.history).current ≡ o → elim o as (λ _. Bool) [ None ↦ false | Some c ↦ is_now t (Some c) && is_counted_in b c.branches ] ≡ true → Counts t b x
    go None i k = absurd (cc (k))
    go (Some c) i k = record { current = c; at = i; now = and_left (is_now t (Some c)) (is_counted_in b c.branches) k; counted = and_right (is_now t (Some c)) (is_counted_in b c.branches) k }

-- it is the branch with some peer
counted_some : (b : BranchId) (bs : List Branch) → are_apart (kin bs) ≡ true → is_counted_in b bs ≡ true → (p : ℕ) × (v : Branch) × (find_branch bs p ≡ Some v) × (v.counted ≡ true) × (v.id ≡ b)
counted_some b [] h i = absurd (cc (i))
counted_some b (x ∷ bs) h i = go (or_case (is_branch b x.id && x.counted) (is_counted_in b bs) i) (counted_some b bs (and_right (is_apart (child_of x) (kin bs)) (are_apart (kin bs)) h))
  where
    go : ((is_branch b x.id && x.counted) ≡ true) ⊎ (is_counted_in b bs ≡ true) → (is_counted_in b bs ≡ true → (p : ℕ) × (v : Branch) × (find_branch bs p ≡ Some v) × (v.counted ≡ true) × (v.id ≡ b))
        → (p : ℕ) × (v : Branch) × (find_branch (x ∷ bs) p ≡ Some v) × (v.counted ≡ true) × (v.id ≡ b)
    go (inl j) rest =
        let self : (x.peer.node == x.peer.node) ≡ true = grind (arith, nat_tests) in
        (x.peer.node, x, rw self refl, and_right (is_branch b x.id) x.counted j, sym (branches_equal b x.id (and_left (is_branch b x.id) x.counted j)))
    go (inr j) rest = let r = rest j in on r (x.peer.node == r.0) refl
      where
        on : (r : (p : ℕ) × (v : Branch) × (find_branch bs p ≡ Some v) × (v.counted ≡ true) × (v.id ≡ b)) (k : Bool) → (x.peer.node == r.0) ≡ k
            → (p : ℕ) × (v : Branch) × (find_branch (x ∷ bs) p ≡ Some v) × (v.counted ≡ true) × (v.id ≡ b)
        on r true k = absurd (apart_peer (child_of x) bs r.0 r.1 (and_left (is_apart (child_of x) (kin bs)) (are_apart (kin bs)) h) r.2 k)
        on r false k = (r.0, r.1, rw k (r.2), r.3, r.4)

-- the Begin that a node took, from the node that sent it
took_begin : (t : Aaid) (b : BranchId) (h : List Entry) → (k : TookKey h t b) → has_taken_begin t h ≡ true
took_begin t b h k = on h k.from k.took
  where
    on : (g : List Entry) (from : Addr) → TookOn g from k.x k.y k.seq (DialogueRecord.Begin t b k.holder) → has_taken_begin t g ≡ true
    on [] from w = absurd w
    on (e ∷ g) from (inl i) = let one : is_begun_by t e.event ≡ true = ap (is_begun_by t) i ∙ aaid_same t in rw one refl
    on (e ∷ g) from (inr w) = let rest = on g from w in rw rest (grind arith)

pub counted_is_there : (es : List Happening) → CountedIsThere (run es)
counted_is_there es t b x here counted = (y, branch, ready_logged (t, b) (records y.origin y.history) ready)
  where
    good : IsGood (run es).nodes (run es).frames
    good = good_run es

    c : Counts t b x
    c = counts_of t b x counted

    v : (p : ℕ) × (v : Branch) × (find_branch c.current.branches p ≡ Some v) × (v.counted ≡ true) × (v.id ≡ b)
    v = counted_some b c.current.branches (spread_at x.origin x.superior x.history (good.fresh (number_of x) x here) (good.legal (number_of x) x here) c.current c.at) c.counted

    tree : t ≡ aaid_of c.current.key
    tree = aaids_equal t (aaid_of c.current.key) c.now

    key : ◌≡◌ {A = BranchKey} (t, b) (aaid_of c.current.key, v.1.id)
    key = pair t (aaid_of c.current.key) b v.1.id tree (sym v.4)
      where
        pair : (t u : Aaid) (b d : BranchId) → t ≡ u → b ≡ d → ◌≡◌ {A = BranchKey} (t, b) (u, d)
        pair t u b d i j = rw (i, j) refl

    marked : Marked counted_of (digest x.origin x.history).current v.0 (t, b)
    marked = record { current = c.current; branch = v.1; at = c.at; found = v.2; is = v.3; key = key }

    r : TookReady x.history v.0
    r = took_ready x.origin x.superior x.history v.0 (t, b) (good.fresh (number_of x) x here) (good.legal (number_of x) x here) marked

    sender : Sender (run es).nodes r.from (number_of x) (PeerRecord.OnAssoc r.x r.y r.seq DialogueRecord.Ready)
    sender = was_sent (run es).nodes (run es).frames r.from (number_of x) (PeerRecord.OnAssoc r.x r.y r.seq DialogueRecord.Ready) good.sent (good.taken (number_of x) x r.from (PeerRecord.OnAssoc r.x r.y r.seq DialogueRecord.Ready) here r.took)

    y : Node
    y = sender.node

    number : number_of y ≡ v.0
    number = find_is (run es).nodes r.from.node y sender.found ∙ r.at

    there : IsIn (run es) y
    there = ap (find_node (run es).nodes) (find_is (run es).nodes r.from.node y sender.found) ∙ sender.found

    above : is_at y.superior (number_of x) ≡ true
    above = subst (λ (n : ℕ). is_at y.superior n ≡ true) sender.at (said_above y.origin y.superior y.history sender.to r.x r.y r.seq (good.fresh (number_of y) y there) (good.legal (number_of y) y there) sender.sent)

    ready : has_ready_of (t, b) (records y.origin y.history) ≡ true
    ready =
        (accounts_of x.origin x.superior (number_of y) (deeds_of y.origin y.history) (records y.origin y.history) x.history (below_run es x y here there above)).counted (t, b)
        (subst (λ (n : ℕ). Marked counted_of (digest x.origin x.history).current n (t, b)) (sym number) marked)

    k : TookKey y.history t b
    k = ready_took y.origin y.superior y.history (t, b) (good.fresh (number_of y) y there) (good.legal (number_of y) y there) ready

    begin : Sender (run es).nodes k.from (number_of y) (PeerRecord.OnAssoc k.x k.y k.seq (DialogueRecord.Begin t b k.holder))
    begin =
        was_sent (run es).nodes (run es).frames k.from (number_of y) (PeerRecord.OnAssoc k.x k.y k.seq (DialogueRecord.Begin t b k.holder)) good.sent
        (good.taken (number_of y) y k.from (PeerRecord.OnAssoc k.x k.y k.seq (DialogueRecord.Begin t b k.holder)) there (took_has y.history k.from k.x k.y k.seq (DialogueRecord.Begin t b k.holder) k.took))

    began : has_begun t b k.from y.history ≡ true
    began = began_from y.history k.from k.x k.y k.seq t b k.holder k.took

    -- it came from its superior, which is the node
    from_x : k.from ≡ addr_of x
    from_x =
        let up = (begun_up y.origin y.superior y.history t b k.from (good.legal (number_of y) y there) began).above in
        let one : k.from.node ≡ number_of x = one_superior y.superior k.from.node (number_of x) up above in
        let same : begin.node ≡ x = some_same begin.node x (sym begin.found ∙ ap (find_node (run es).nodes) one ∙ here) in
        sym begin.is ∙ ap addr_of same
      where
        one_superior : (o : Option Addr) (m n : ℕ) → is_at o m ≡ true → is_at o n ≡ true → m ≡ n
        one_superior None m n h i = absurd (cc (h))
        one_superior (Some a) m n h i = grind (arith, nat_tests, h, i)

    branch : IsBranchOf (run es) t b x y
    branch = record {
      superior = record { here = here; of_tree = member_head x.origin t x.history (ap (is_now t) c.at ∙ c.now) };
      child = record { here = there; of_tree = taken_member y.origin y.superior y.history t (good.legal (number_of y) y there) (took_begin t b y.history k) };
      begun = ap (λ (a : Addr). has_begun t b a y.history) (sym from_x) ∙ began;
    }
