-- What may be done next in a quiet world where nobody is in doubt: a branch is asked to commit, is let forget, or a kept transaction is
-- purged.
use Rattle.std.proofs.Common.{◌≡◌, ℕ, ◌≤◌, ◌+◌, ◌*◌, Bool, true, false, refl, ap, sym, subst, ◌∙◌, arith, Option, Some, None, List, [], ◌∷◌, ◌==◌, ◌||◌, ◌&&◌, not, length}
use Rattle.std.proofs.lemmas.Bool.Decides.{nat_tests}
use Rattle.tp_names.specs.declared.identifiers.Aaid.{Aaid}
use Rattle.tp_names.specs.declared.identifiers.Addr.{Addr}
use Rattle.tp_names.specs.declared.identifiers.BranchId.{BranchId}
use Rattle.tp_names.specs.declared.identifiers.NodeKey.{NodeKey}
use Rattle.tp_names.specs.declared.children.Child.{Child}
use Rattle.tp_names.specs.Same.{is_aaid}
use Rattle.tp_names.specs.Reports.{is_report_none}
use Rattle.tp_names.proofs.Sames.{aaid_self, key_self, key_same, branch_self}
use Rattle.tp_records.specs.declared.peer.PeerRecord.{PeerRecord}
use Rattle.tp_records.specs.declared.peer.RecState.{RecState}
use Rattle.tp_model.specs.declared.arc.Phase.{Phase}
use Rattle.tp_model.specs.declared.line.Action.{Action}
use Rattle.tp_model.specs.declared.transaction.TxEvent.{TxEvent}
use Rattle.tp_model.specs.declared.recovery.Kept.{Kept}
use Rattle.tp_model.specs.declared.recovery.KeptEvent.{KeptEvent}
use Rattle.tp_model.specs.Parts.{Event, Key, Root, Under, Current, Digest}
use Rattle.tp_model.specs.Dialogues.{is_committing}
use Rattle.tp_model.specs.Transactions.{aaid_of, node_key, superior_of, child_of}
use Rattle.tp_model.specs.Recovery.{is_commit, is_root_key, is_nothing_owed, find_owed, find_kept, owed, settled, kept_after}
use Rattle.tp_model.specs.Arrivals.{branch_key, current_with, named_by_key, named_by_branch, child_addr, is_other}
use Rattle.tp_model.specs.Node.{phase_of}
use Rattle.tp_model.specs.Events.{action}
use Rattle.tp_model.specs.Outcomes.{is_now, decided}
use Rattle.tp_model.specs.Questions.{is_at}
use Rattle.tp_model.specs.World.{World, Node, number_of, addr_of}
use Rattle.tp_model.specs.Happenings.{Happening, Does, run}
use Rattle.tp_model.specs.Promises.{IsIn, IsOf}
use Rattle.tp_steps.specs.Moves.{IsRecoveryIn, is_committed_in, keeps_commit}
use Rattle.tp_steps.proofs.every.EveryEvent.{named_current}
use Rattle.tp_steps.proofs.lemmas.Options.{some_same}
use Rattle.tp_steps.proofs.log.Owned.{key_aaid}
use Rattle.tp_histories.specs.Undone.{are_done}
use Rattle.tp_histories.specs.Worlds.{IsGood, grown_node}
use Rattle.tp_histories.proofs.pairs.Committed.{own_law}
use Rattle.tp_histories.proofs.undone.Prompt.{prompt_law}
use Rattle.tp_histories.proofs.worlds.Good.{good_run}
use Rattle.tp_histories.proofs.worlds.Nodes.{find_is}
use Rattle.tp_runs.proofs.Hanging.{sent_member}
use Rattle.tp_runs.proofs.Heeded.{own_superior}
use Rattle.tp_agreement.proofs.Agreed.{commits_alone}
use Rattle.tp_agreement.proofs.Logs.{rolled_member}
use Rattle.tp_agreement.proofs.OwingMoves.{stands_back}
use Rattle.tp_agreement.proofs.OwingLaw.{back_rolled, spread_at}
use Rattle.tp_agreement.proofs.RollsUp.{took_sent}
use Rattle.tp_agreement.proofs.Unknown.{SentTo}
use Rattle.tp_reports.proofs.MarkTurns.{is_of}
use Rattle.tp_reports.proofs.BranchMarks.{begun_mark}
use Rattle.tp_reports.proofs.ClearedFate.{idle_never}
use Rattle.tp_finishing.specs.Doubt.{known_of as digest_of}
use Rattle.tp_finishing.specs.Quiet.{IsQuiet}
use Rattle.tp_finishing.specs.Finishing.{lines_to_forget, lines_of_current, lines_of_kept, lines_at, most_lines}
use Rattle.tp_finishing.proofs.KeptTurns.{EachChild}
use Rattle.tp_finishing.proofs.Kindred.{KeyAt, FitsKept, AllFit, Fits}
use Rattle.tp_finishing.proofs.BegunOnce.{HasBegun, begun_once}
use Rattle.tp_finishing.proofs.Numbers.{drawn_law}
use Rattle.tp_finishing.proofs.Awake.{has_node, keeps_node}
use Rattle.tp_finishing.proofs.Deliveries.{does_take, task_here}
use Rattle.tp_finishing.proofs.Retries.{asks_branches, says_of_kept, asks_owed, tells_above}
use Rattle.tp_finishing.proofs.Answering.{FoundIn, child_known, no_other, kept_fits}
use Rattle.tp_finishing.proofs.Still.{left_by}
use Rattle.tp_finishing.proofs.Ending.{Lowers, waiting, reply_ends}
use Rattle.tp_finishing.proofs.Taking.{Taken, Orders, order_taken, reply_taken}
use Rattle.tp_finishing.proofs.Keeping.{idle, idle_is, found_key, done_kept, owed_done, HearsDone, done_heard, forget_taken, purge_taken}
use Rattle.tp_finishing.proofs.Rounds.{round}
use Rattle.tp_finishing.proofs.Doubts.{IsThere, there_is, IsSuperiorAt, IsBranchAt, fit_run, own_child}
use Rattle.tp_finishing.proofs.Picks.{Waits, pick_waits}
use Rattle.tp_finishing.proofs.Noted.{AreNotedSo, noted_law}
use Rattle.tp_finishing.proofs.Exchanges.{Progress, line, quiet_but, committing_is, round_progress, is_there}

-- ---- a branch of a node that commits the tree

-- the key of a branch
key_under : (k : Key) (t : Aaid) (b : BranchId) → node_key k ≡ branch_key t b → (a : Addr) × (k ≡ Under t b a)
key_under (Root u) t b h = absurd (let off : None ≡ Some b = ap (λ (k : NodeKey). k.branch) h in cc (off))
key_under (Under u v a) t b h = (a, made u t v b a (ap (λ (k : NodeKey). k.aaid) h) (some_same v b (ap (λ (k : NodeKey). k.branch) h)))
  where
    made : (u t : Aaid) (v b : BranchId) (a : Addr) → u ≡ t → v ≡ b → Under u v a ≡ Under t b a
    made u t v b a i j = rw (i, j) refl

-- the superior of a node that took a Begin is the one that begins branches with such identifiers
begun_by : (es : List Happening) (x z : Node) (t u : Aaid) (b : BranchId) (a : Addr) (ch : Child) → IsIn (run es) x → IsIn (run es) z → IsSuperiorAt (run es) z t b a → IsBranchAt (run es) x u ch → ch.branch ≡ b → a.node ≡ number_of x
begun_by es x z t u b a ch here there above branch same = sym (find_is (run es).nodes a.node y above.0.1) ∙ one (number_of y) (number_of x) mine its
  where
    good : IsGood (run es).nodes (run es).frames
    good = good_run es

    y : Node
    y = above.0.0

    at : IsIn (run es) y
    at = is_there es a above.0

    sent : SentTo y.history (number_of z) t b
    sent = took_sent (run es).nodes (run es).frames y z t b good at there (subst (λ (n : ℕ). is_at z.superior n ≡ true) (sym (find_is (run es).nodes a.node y above.0.1)) above.2) above.1

    mine : is_of (number_of y) b ≡ true
    mine = begun_mark y.origin y.superior y.history sent.to sent.x sent.y sent.seq t b sent.holder (good.legal (number_of y) y at) sent.sent

    its : is_of (number_of x) b ≡ true
    its = subst (λ (v : BranchId). is_of (number_of x) v ≡ true) same (begun_mark x.origin x.superior x.history ch.addr branch.2.0 branch.2.1 branch.2.2 u ch.branch branch.2.3 (good.legal (number_of x) x here) branch.2.4)

    one : (m n : ℕ) → is_of m b ≡ true → is_of n b ≡ true → m ≡ n
    one m n i j = grind (arith, nat_tests, i, j)

-- it takes the order of its superior, or answers that it is done; no transaction with that key is under way at it
order_there : (es : List Happening) (x z : Node) (t : Aaid) (ch : Child) → IsIn (run es) x → IsIn (run es) z → ch.addr.node ≡ number_of z → IsBranchAt (run es) x t ch → is_committed_in t (digest_of x) ≡ true
    → ((c : Current) → (digest_of z).current ≡ Some c → is_at z.superior (number_of x) ≡ true → ⊥) → Orders z.origin.who (digest_of z) (addr_of x) t ch.branch
order_there es x z t ch here there at branch commits still = order_taken z.origin.who (digest_of z) (addr_of x) t ch.branch none kept (drawn_law z.origin z.superior z.history (good.legal (number_of z) z there))
  where
    good : IsGood (run es).nodes (run es).frames
    good = good_run es

    fits : Fits (IsSuperiorAt (run es) z) (IsBranchAt (run es) z) (digest_of z)
    fits = fit_run es z there

    none : (named_by_key (digest_of z) (branch_key t ch.branch)).current ≡ None
    none = go (current_with (digest_of z) (branch_key t ch.branch)) refl
      where
        go : (o : Option Current) → current_with (digest_of z) (branch_key t ch.branch) ≡ o → o ≡ None
        go None i = refl
        go (Some c) i =
            let n = named_current (digest_of z) (branch_key t ch.branch) c i in
            let k = key_under c.key t ch.branch (key_same (node_key c.key) (branch_key t ch.branch) n.1) in
            let above : IsSuperiorAt (run es) z t ch.branch k.0 = subst (λ (j : Key). KeyAt (IsSuperiorAt (run es) z) j) k.1 (fits.0 c n.0).0 in
            absurd (still c n.0 (subst (λ (m : ℕ). is_at z.superior m ≡ true) (begun_by es x z t t ch.branch k.0 ch here there above branch refl) above.2))

    committed : decided x.origin t x.history ≡ true
    committed = own_law x.origin x.superior x.history t (good.fresh (number_of x) x here) (good.legal (number_of x) x here) commits

    of_x : IsOf (run es) t x
    of_x = record { here = here; of_tree = sent_member x.origin x.superior x.history ch.addr branch.2.0 branch.2.1 branch.2.2 t ch.branch branch.2.3 (good.legal (number_of x) x here) branch.2.4 }

    side : (k : Kept) → find_kept (digest_of z).kept (branch_key t ch.branch) ≡ Some k → (b : Bool) → is_commit k.side ≡ b → b ≡ true
    side k i true j = refl
    side k i false j =
        let tree : is_aaid t k.key.aaid ≡ true = ap (λ (n : NodeKey). is_aaid t n.aaid) (found_key (digest_of z).kept (branch_key t ch.branch) k i) ∙ aaid_self t in
        let back = back_rolled z.origin z.superior z.history t (good.fresh (number_of z) z there) (good.legal (number_of z) z there) (stands_back t (digest_of z).kept (branch_key t ch.branch) k i j tree) in
        absurd (commits_alone es t x z of_x (record { here = there; of_tree = rolled_member z.origin t z.history back }) committed back)

    kept : (k : Kept) → find_kept (digest_of z).kept (branch_key t ch.branch) ≡ Some k → (is_commit k.side ≡ true) × (k.superior ≡ Some (addr_of x))
    kept k i =
        let fit : FitsKept (IsSuperiorAt (run es) z) (IsBranchAt (run es) z) k = kept_fits (IsSuperiorAt (run es) z) (IsBranchAt (run es) z) (digest_of z).kept (branch_key t ch.branch) k fits.1 i in
        let j = key_under fit.0 t ch.branch (sym fit.1 ∙ found_key (digest_of z).kept (branch_key t ch.branch) k i) in
        let above : IsSuperiorAt (run es) z t ch.branch j.0 = subst (λ (v : Key). KeyAt (IsSuperiorAt (run es) z) v) j.1 fit.3 in
        let address : j.0 ≡ addr_of x = there_is (run es) j.0 x above.0 here (begun_by es x z t t ch.branch j.0 ch here there above branch refl) in
        (side k i (is_commit k.side) refl ∙ refl, fit.2 ∙ ap superior_of j.1 ∙ ap (λ (v : Addr). Some v) address)

-- what a node keeps under a branch's identifier is that branch
own_branch : (es : List Happening) (x z : Node) (t : Aaid) (ch : Child) → IsIn (run es) x → IsIn (run es) z → ch.addr.node ≡ number_of z → IsBranchAt (run es) x t ch → is_other (child_addr (named_by_branch (digest_of x) t ch.branch) ch.branch) (addr_of z) ≡ false
own_branch es x z t ch here there at branch = no_other (child_addr (named_by_branch (digest_of x) t ch.branch) ch.branch) (addr_of z) found
  where
    found : (a : Addr) → child_addr (named_by_branch (digest_of x) t ch.branch) ch.branch ≡ Some a → a ≡ addr_of z
    found a i =
        let f : FoundIn (IsBranchAt (run es) x) a ch.branch = child_known (IsSuperiorAt (run es) x) (IsBranchAt (run es) x) (digest_of x) t ch.branch a (fit_run es x here) i in
        let k = f.holds.2 in
        let begun : HasBegun x.history f.child.branch f.child.addr = (f.tree, k.0, k.1, k.2, k.3, k.4) in
        let same : HasBegun x.history ch.branch a = subst (λ (v : Addr). HasBegun x.history ch.branch v) f.addr (subst (λ (v : BranchId). HasBegun x.history v f.child.addr) f.branch begun) in
        let one : a.node ≡ ch.addr.node = begun_once x.origin x.superior x.history ch.branch a ch.addr ((good_run es).legal (number_of x) x here) same (t, branch.2.0, branch.2.1, branch.2.2, branch.2.3, branch.2.4) in
        there_is (run es) a z (subst (IsThere (run es)) f.addr f.holds.0) there (one ∙ at)

turned : (m n : ℕ) → (m == n) ≡ false → (n == m) ≡ false
turned m n h = grind (arith, nat_tests, h)

-- ---- a node that commits asks a branch

pub asks_branch : (es : List Happening) (x : Node) (c : Current) → IsQuiet (run es) → IsIn (run es) x → (digest_of x).current ≡ Some c → is_committing c.phase ≡ true → c.owes ≡ false
    → ((z : Node) (u : Current) → IsIn (run es) z → (digest_of z).current ≡ Some u → is_at z.superior (number_of x) ≡ true → ⊥) → Progress es
asks_branch es x c quiet here at phase owes last =
    round_progress es x z (digest_of z) d2
    (round es x z (digest_of z) d2 (record {
      here = here;
      there = there;
      apart = turned (number_of z) (number_of x) (ap (λ (n : ℕ). n == number_of x) (sym to) ∙ w.holds.1);
      node = has_node x.origin x.superior x.history c (good.fresh (number_of x) x here) (good.legal (number_of x) x here) at;
      question = PeerRecord.RecCommit t w.branch.id;
      to = w.branch.peer;
      to_is = to;
      said = asks_branches x.origin.who (digest_of x) c w.branch.peer (PeerRecord.RecCommit t w.branch.id) (quiet x here).arcs at phase owes w.asked;
      taken = o.ok;
      answer = PeerRecord.RecReply t w.branch.id (RecState.Done o.report);
      answered = o.says;
      after = o.same;
      heard = took.ok;
      last = took.next_is;
    }))
    quiet (quiet z there) low.quiet (total (lines_at d2) (lines_at (digest_of z)) (lines_at (digest_of x)) low.less)
  where
    good : IsGood (run es).nodes (run es).frames
    good = good_run es

    t : Aaid
    t = aaid_of c.key

    undone : (a b d e : Bool) → (a || (b && not d && e)) ≡ false → b ≡ true → d ≡ false → e ≡ false
    undone a b d e h i j = grind (arith, h, i, j)

    w : Waits (IsBranchAt (run es) x t) t c.branches
    w =
        pick_waits (IsBranchAt (run es) x t) t c.branches (spread_at x.origin x.superior x.history (good.fresh (number_of x) x here) (good.legal (number_of x) x here) c at) ((fit_run es x here).0 c at).1
        (undone _ (is_committing c.phase) c.owes (are_done c.branches) (prompt_law x.origin x.superior x.history c (good.legal (number_of x) x here) at) phase owes)

    z : Node
    z = w.holds.0.0

    there : IsIn (run es) z
    there = is_there es w.branch.peer w.holds.0

    to : w.branch.peer.node ≡ number_of z
    to = sym (find_is (run es).nodes w.branch.peer.node z w.holds.0.1)

    both : (a b k : Bool) → a ≡ true → b ≡ true → ((a && b) || k) ≡ true
    both a b k i j = rw (i, j) refl

    commits : is_committed_in t (digest_of x) ≡ true
    commits = both (is_now t (digest_of x).current) (is_committing (phase_of (digest_of x))) (keeps_commit t (digest_of x).kept) (ap (is_now t) at ∙ aaid_self t) (ap (λ (v : Option Current). is_committing (elim v as (λ _. Phase) [ None ↦ Phase.Nil | Some u ↦ u.phase ])) at ∙ phase)

    o : Orders z.origin.who (digest_of z) (addr_of x) t w.branch.id
    o = order_there es x z t (child_of w.branch) here there to w.holds commits (λ u i up. last z u there i up)

    now : (digest_of x).current ≡ Some (waiting c)
    now = at ∙ ap (λ (u : Current). Some u) (committing_is c false phase owes)

    d2 : Digest
    d2 = left_by x.origin.who (TxEvent.Reply w.branch.id (RecState.Done o.report)) (digest_of x) (waiting c)

    took : Taken x.origin.who (digest_of x) (Event.Arrive (addr_of z) (PeerRecord.RecReply t w.branch.id (RecState.Done o.report))) d2
    took =
        reply_taken x.origin.who (digest_of x) c (addr_of z) t w.branch o.report (quiet x here).arcs now (aaid_self t) w.found (own_branch es x z t (child_of w.branch) here there to w.holds)
        (drawn_law x.origin x.superior x.history (good.legal (number_of x) x here))

    low : Lowers 3 (lines_at (digest_of x)) d2
    low = subst (λ (v : Option Current). Lowers 3 (lines_of_current v + lines_of_kept (digest_of x).kept) d2) (sym now) (reply_ends x.origin.who (digest_of x) c w.branch o.report w.opens)

    total : (m n k : ℕ) → m + 3 ≤ k → m + n + 3 ≤ k + n
    total m n k h = omega (arith, h)

-- ---- a kept commitment that is owed

-- nobody has a current transaction
abbrev pub AreIdle : World → Type 0
AreIdle w = (z : Node) → IsIn w z → (digest_of z).current ≡ None

pub asks_kept : (es : List Happening) (x : Node) (k : Kept) (ks : List Kept) (ch : Child) (cs : List Child) → IsQuiet (run es) → AreIdle (run es) → IsIn (run es) x → (digest_of x).kept ≡ k ∷ ks → k.owed ≡ ch ∷ cs → Progress es
asks_kept es x k ks ch cs quiet still here kept owes =
    round_progress es x z (digest_of z) d2
    (round es x z (digest_of z) d2 (record {
      here = here;
      there = there;
      apart = turned (number_of z) (number_of x) (ap (λ (n : ℕ). n == number_of x) (sym to) ∙ branch.1);
      node = keeps_node x.origin x.superior x.history k ks (good.fresh (number_of x) x here) (good.legal (number_of x) x here) kept;
      question = PeerRecord.RecCommit t ch.branch;
      to = ch.addr;
      to_is = to;
      said = says_of_kept x.origin.who (digest_of x) k ks ch.addr (PeerRecord.RecCommit t ch.branch) (still x here) kept (asks_owed k ch cs side owes);
      taken = o.ok;
      answer = PeerRecord.RecReply t ch.branch (RecState.Done o.report);
      answered = o.says;
      after = o.same;
      heard = took.ok;
      last = took.next_is;
    }))
    quiet (quiet z there) (record { arcs = refl; active = refl; rolling = refl }) (total (lines_at d2) (lines_at (digest_of z)) (lines_at (digest_of x)) low)
  where
    good : IsGood (run es).nodes (run es).frames
    good = good_run es

    t : Aaid
    t = k.key.aaid

    fit : FitsKept (IsSuperiorAt (run es) x) (IsBranchAt (run es) x) k
    fit = (fits_head ((fit_run es x here).1) kept)
      where
        fits_head : {l : List Kept} → AllFit (IsSuperiorAt (run es) x) (IsBranchAt (run es) x) l → l ≡ k ∷ ks → FitsKept (IsSuperiorAt (run es) x) (IsBranchAt (run es) x) k
        fits_head h i = (subst (AllFit (IsSuperiorAt (run es) x) (IsBranchAt (run es) x)) i h).0

    tree : aaid_of fit.0 ≡ t
    tree = sym (key_aaid fit.0) ∙ ap (λ (n : NodeKey). n.aaid) (sym fit.1)

    branch : IsBranchAt (run es) x t ch
    branch = subst (λ (u : Aaid). IsBranchAt (run es) x u ch) tree (subst (EachChild (IsBranchAt (run es) x (aaid_of fit.0))) owes fit.4).0

    side : is_commit k.side ≡ true
    side = go (is_commit k.side) refl
      where
        go : (b : Bool) → is_commit k.side ≡ b → b ≡ true
        go true i = refl
        go false i = absurd (let off : [] ≡ ch ∷ cs = sym (fit.5 i) ∙ owes in cc (off))

    z : Node
    z = branch.0.0

    there : IsIn (run es) z
    there = is_there es ch.addr branch.0

    to : ch.addr.node ≡ number_of z
    to = sym (find_is (run es).nodes ch.addr.node z branch.0.1)

    commits : is_committed_in t (digest_of x) ≡ true
    commits = rw kept (rw (side, aaid_self t) (or_true (is_now t (digest_of x).current && is_committing (phase_of (digest_of x)))))
      where
        or_true : (b : Bool) → (b || true) ≡ true
        or_true true = refl
        or_true false = refl

    o : Orders z.origin.who (digest_of z) (addr_of x) t ch.branch
    o = order_there es x z t ch here there to branch commits (λ u i up. let off : None ≡ Some u = sym (still z there) ∙ i in cc (off))

    same : digest_of x ≡ idle (digest_of x) (k ∷ ks)
    same = idle_is (digest_of x) (k ∷ ks) (quiet x here).arcs (still x here) kept

    f : Event
    f = Event.Arrive (addr_of z) (PeerRecord.RecReply t ch.branch (RecState.Done o.report))

    d2 : Digest
    d2 = idle (digest_of x) (kept_after (settled k (KeptEvent.Done (addr_of z) ch.branch o.report)).rec (k ∷ ks))

    found : find_owed k.owed ch.branch ≡ Some ch
    found = rw owes (rw (branch_self ch.branch) refl)

    took : Taken x.origin.who (digest_of x) f d2
    took =
        subst (λ (d : Digest). Taken x.origin.who d f d2) (sym same)
        (owed_done x.origin.who (digest_of x) k ks (addr_of z) t ch.branch o.report ch (aaid_self t) found
        (subst (λ (d : Digest). is_other (child_addr (named_by_branch d t ch.branch) ch.branch) (addr_of z) ≡ false) same (own_branch es x z t ch here there to branch))
        (drawn_law x.origin x.superior x.history (good.legal (number_of x) x here)))

    low : lines_at d2 + 3 ≤ lines_at (digest_of x)
    low = subst (λ (d : Digest). lines_at d2 + 3 ≤ lines_at d) (sym same) (less (lines_of_kept d2.kept) (lines_of_kept (k ∷ ks)) (done_kept k (k ∷ ks) (addr_of z) ch.branch o.report ch head found))
      where
        less : (m n : ℕ) → m + 3 ≤ n → 0 + m + 3 ≤ 0 + n
        less m n h = omega (arith, h)

        head : find_kept (k ∷ ks) k.key ≡ Some k
        head = rw (key_self k.key, find_kept) refl

    total : (m n j : ℕ) → m + 3 ≤ j → m + n + 3 ≤ j + n
    total m n j h = omega (arith, h)

-- ---- a kept commitment of a branch that nobody owes: its superior lets it forget

pub forgets_kept : (es : List Happening) (x : Node) (k : Kept) (ks : List Kept) (t : Aaid) (b : BranchId) (a : Addr) → IsQuiet (run es) → AreIdle (run es) → IsIn (run es) x → (digest_of x).kept ≡ k ∷ ks → k.owed ≡ [] → is_commit k.side ≡ true
    → k.key ≡ node_key (Under t b a) → k.superior ≡ Some a → IsSuperiorAt (run es) x t b a → Progress es
forgets_kept es x k ks t b a quiet still here kept none side key up above =
    round_progress es x y d1 (idle (digest_of x) ks)
    (round es x y d1 (idle (digest_of x) ks) (record {
      here = here;
      there = there;
      apart = apart (number_of x == number_of y) refl;
      node = keeps_node x.origin x.superior x.history k ks (good.fresh (number_of x) x here) (good.legal (number_of x) x here) kept;
      question = PeerRecord.RecReply t b (RecState.Done k.report);
      to = a;
      to_is = to;
      said = says_of_kept x.origin.who (digest_of x) k ks a (PeerRecord.RecReply t b (RecState.Done k.report)) (still x here) kept (subst (λ (u : Aaid). IsRecoveryIn (owed k) a (PeerRecord.RecReply u b (RecState.Done k.report))) tree (tells_above k b a side none new branch up));
      taken = h.ok;
      answer = PeerRecord.Forget t b;
      answered = h.says;
      after = refl;
      heard = took.ok;
      last = took.next_is;
    }))
    quiet h.lowers.quiet (record { arcs = refl; active = refl; rolling = refl }) (total (lines_of_kept ks) (lines_at d1) (lines_at (digest_of y)) (lines_at (digest_of x)) h.lowers.less cost)
  where
    good : IsGood (run es).nodes (run es).frames
    good = good_run es

    y : Node
    y = above.0.0

    there : IsIn (run es) y
    there = is_there es a above.0

    to : a.node ≡ number_of y
    to = sym (find_is (run es).nodes a.node y above.0.1)

    address : a ≡ addr_of y
    address = there_is (run es) a y above.0 there to

    up_y : is_at x.superior (number_of y) ≡ true
    up_y = subst (λ (n : ℕ). is_at x.superior n ≡ true) to above.2

    apart : (v : Bool) → (number_of x == number_of y) ≡ v → v ≡ false
    apart false i = refl
    apart true i = let same : number_of x ≡ number_of y = grind (arith, nat_tests, i) in absurd (own_superior (run es).nodes (run es).frames x good here (subst (λ (n : ℕ). is_at x.superior n ≡ true) (sym same) up_y))

    tree : k.key.aaid ≡ t
    tree = ap (λ (n : NodeKey). n.aaid) key

    branch : k.key.branch ≡ Some b
    branch = ap (λ (n : NodeKey). n.branch) key

    noted : AreNotedSo (k ∷ ks)
    noted = subst AreNotedSo kept (noted_law x.origin x.superior x.history (good.fresh (number_of x) x here) (good.legal (number_of x) x here))

    new : k.forgot ≡ false
    new = go k.forgot (ap (λ (cs : List Child). not (k.forgot && is_nothing_owed cs)) (sym none) ∙ noted.0)
      where
        go : (v : Bool) → not (v && true) ≡ true → v ≡ false
        go false i = refl
        go true i = absurd (cc (i))

    some : is_report_none k.report ≡ false
    some = go (is_report_none k.report) refl
      where
        go : (v : Bool) → is_report_none k.report ≡ v → v ≡ false
        go false i = refl
        go true i = absurd (idle_never x.origin x.superior x.history t (good.fresh (number_of x) x here) (good.legal (number_of x) x here) (rw kept (rw (side, i) refl)))

    same_y : digest_of y ≡ idle (digest_of y) (digest_of y).kept
    same_y = idle_is (digest_of y) (digest_of y).kept (quiet y there).arcs (still y there) refl

    h : HearsDone y.origin.who (digest_of y) (addr_of x) t b k.report
    h =
        subst (λ (d : Digest). HearsDone y.origin.who d (addr_of x) t b k.report) (sym same_y)
        (done_heard y.origin.who (digest_of y) (digest_of y).kept (addr_of x) t b k.report some
        (subst (λ (d : Digest). is_other (child_addr (named_by_branch d t b) b) (addr_of x) ≡ false) same_y (own_child es x y t b here there up_y above.1))
        (drawn_law y.origin y.superior y.history (good.legal (number_of y) y there)))

    d1 : Digest
    d1 = (action y.origin.who (digest_of y) (Event.Arrive (addr_of x) (PeerRecord.RecReply t b (RecState.Done k.report)))).next

    same : digest_of x ≡ idle (digest_of x) (k ∷ ks)
    same = idle_is (digest_of x) (k ∷ ks) (quiet x here).arcs (still x here) kept

    took : Taken x.origin.who (digest_of x) (Event.Arrive (addr_of y) (PeerRecord.Forget t b)) (idle (digest_of x) ks)
    took =
        subst (λ (d : Digest). Taken x.origin.who d (Event.Arrive (addr_of y) (PeerRecord.Forget t b)) (idle (digest_of x) ks)) (sym same)
        (forget_taken x.origin.who (digest_of x) k ks (addr_of y) t b key (up ∙ ap (λ (v : Addr). Some v) address) side none (drawn_law x.origin x.superior x.history (good.legal (number_of x) x here)))

    cost : lines_of_kept ks + 3 ≤ lines_at (digest_of x)
    cost = subst (λ (d : Digest). lines_of_kept ks + 3 ≤ lines_at d) (sym same) (costs (lines_to_forget (is_commit k.side && not (is_root_key k.key))) (length k.owed) (lines_of_kept ks) to_forget)
      where
        to_forget : lines_to_forget (is_commit k.side && not (is_root_key k.key)) ≡ 3
        to_forget = rw (side, key) refl

        costs : (n m l : ℕ) → n ≡ 3 → l + 3 ≤ 0 + (n + 3 * m + l)
        costs n m l i = omega (arith, i)

    total : (l m n j : ℕ) → m + 0 ≤ n → l + 3 ≤ j → 0 + l + m + 3 ≤ j + n
    total l m n j p q = omega (arith, p, q)

-- ---- the oldest that waits for nobody is purged

pub purges : (es : List Happening) (x : Node) (k : Kept) (ks : List Kept) → IsQuiet (run es) → AreIdle (run es) → IsIn (run es) x → (digest_of x).kept ≡ k ∷ ks → k.owed ≡ [] → (is_commit k.side && not (is_root_key k.key)) ≡ false → Progress es
purges es x k ks quiet still here kept none free = record {
  more = Does (Action.Purge (number_of x)) ∷ [];
  recovers = (tt, tt);
  quiet = done.0;
  less = done.1;
  some = omega arith;
}
  where
    good : IsGood (run es).nodes (run es).frames
    good = good_run es

    same : digest_of x ≡ idle (digest_of x) (k ∷ ks)
    same = idle_is (digest_of x) (k ∷ ks) (quiet x here).arcs (still x here) kept

    took : Taken x.origin.who (digest_of x) Event.Purge (idle (digest_of x) ks)
    took =
        subst (λ (d : Digest). Taken x.origin.who d Event.Purge (idle (digest_of x) ks)) (sym same)
        (purge_taken x.origin.who (digest_of x) k ks (keeps_node x.origin x.superior x.history k ks (good.fresh (number_of x) x here) (good.legal (number_of x) x here) kept) none free)

    low : Lowers 1 (lines_at (digest_of x)) (digest_of (grown_node x Event.Purge))
    low = subst (Lowers 1 (lines_at (digest_of x))) (sym took.next_is) (record { quiet = record { arcs = refl; active = refl; rolling = refl }; less = subst (λ (d : Digest). lines_at (idle (digest_of x) ks) + 1 ≤ lines_at d) (sym same) (costs (lines_to_forget (is_commit k.side && not (is_root_key k.key))) (length k.owed) (lines_of_kept ks) (one_to_forget (is_commit k.side && not (is_root_key k.key)))) })
      where
        one_to_forget : (b : Bool) → 1 ≤ lines_to_forget b
        one_to_forget true = omega arith
        one_to_forget false = omega arith

        costs : (n m l : ℕ) → 1 ≤ n → 0 + l + 1 ≤ 0 + (n + 3 * m + l)
        costs n m l i = omega (arith, i)

    done : IsQuiet (run (Does (Action.Purge (number_of x)) ∷ es)) × (most_lines (run (Does (Action.Purge (number_of x)) ∷ es)).nodes + 1 ≤ most_lines (run es).nodes)
    done = line es x (Action.Purge (number_of x)) Event.Purge 1 (quiet_but (run es) (number_of x) quiet) here (does_take (run es) (Action.Purge (number_of x)) x Event.Purge (task_here (run es) x Event.Purge here) took.ok) low
