-- What may be done next in a quiet world, and that it takes no more lines than it saves.
use Rattle.std.proofs.Common.{◌≡◌, ◌⊎◌, inl, inr, ℕ, ◌≤◌, ◌+◌, ◌*◌, Bool, true, false, refl, ap, sym, subst, ◌∙◌, arith, Option, Some, List, [], ◌∷◌, ◌++◌, ◌||◌, length}
use Rattle.tp_names.specs.declared.identifiers.Aaid.{Aaid}
use Rattle.tp_names.specs.declared.identifiers.Addr.{Addr}
use Rattle.tp_names.specs.declared.identifiers.BranchId.{BranchId}
use Rattle.tp_records.specs.declared.request.Request.{Request}
use Rattle.tp_records.specs.declared.peer.PeerRecord.{PeerRecord}
use Rattle.tp_records.specs.declared.peer.RecState.{RecState}
use Rattle.tp_model.specs.declared.arc.Phase.{Phase}
use Rattle.tp_model.specs.declared.line.Action.{Action}
use Rattle.tp_model.specs.declared.line.LineRequest.{LineRequest}
use Rattle.tp_model.specs.declared.transaction.TxEvent.{TxEvent}
use Rattle.tp_model.specs.declared.recovery.Question.{Question}
use Rattle.tp_model.specs.Parts.{Who, Origin, Event, Key, Under, Current, Digest}
use Rattle.tp_model.specs.Links.{greatest}
use Rattle.tp_model.specs.Dialogues.{is_ready, is_committing, is_rolling}
use Rattle.tp_model.specs.Recovery.{recovery_answer}
use Rattle.tp_model.specs.Arrivals.{named_by_branch, known_of}
use Rattle.tp_model.specs.Node.{phase_of}
use Rattle.tp_model.specs.Events.{is_no_node}
use Rattle.tp_model.specs.Questions.{is_at}
use Rattle.tp_model.specs.World.{World, Node, number_of, find_node}
use Rattle.tp_model.specs.Happenings.{Happening, Does, run}
use Rattle.tp_model.specs.Promises.{IsIn}
use Rattle.tp_histories.specs.Worlds.{IsGood, grown_node}
use Rattle.tp_histories.proofs.worlds.Good.{good_run}
use Rattle.tp_histories.proofs.worlds.Nodes.{find_is}
use Rattle.tp_finishing.specs.Doubt.{known_of as digest_of}
use Rattle.tp_finishing.specs.Quiet.{IsQuietAt, IsQuiet, Each}
use Rattle.tp_finishing.specs.Finishing.{IsRecovery, lines_of_current, lines_of_kept, lines_at, most_lines}
use Rattle.tp_finishing.proofs.Kindred.{KeyAt}
use Rattle.tp_finishing.proofs.Numbers.{drawn_law}
use Rattle.tp_finishing.proofs.Awake.{has_node}
use Rattle.tp_finishing.proofs.Deliveries.{Takes, does_take, task_here, taken_here, taken_there}
use Rattle.tp_finishing.proofs.Answering.{decided_answer}
use Rattle.tp_finishing.proofs.Hearing.{doubting}
use Rattle.tp_finishing.proofs.Still.{left_by}
use Rattle.tp_finishing.proofs.Ending.{Lowers, ordered, done_commits, answer_commits, RollsIn, answer_rolls, rolling, done_rolls}
use Rattle.tp_finishing.proofs.Taking.{Taken, done_taken, commit_taken, unknown_taken}
use Rattle.tp_finishing.proofs.Rounds.{Round, round, takes_cost, IsQuietBut, quiet_with, quiet_at, round_quiet}
use Rattle.tp_finishing.proofs.Doubts.{IsThere, IsSuperiorAt, fit_run, key_of, doubting_is, doubt_asks}

-- ---- so much is done

pub record Progress (es : List Happening) : Type 0 where
  pub more : List Happening
  pub recovers : Each (IsRecovery (length (run es).frames)) more
  pub quiet : IsQuiet (run (more ++ es))
  pub less : most_lines (run (more ++ es)).nodes + length more ≤ most_lines (run es).nodes
  pub some : 1 ≤ length more

-- ---- one line of a node: its user's done, or a purge

pub line : (es : List Happening) (x : Node) (d : Action) (e : Event) (n : ℕ) → IsQuietBut (run es) (number_of x) → IsIn (run es) x → Takes (run es) x e (run (Does d ∷ es)) → Lowers n (lines_at (digest_of x)) (digest_of (grown_node x e))
    → IsQuiet (run (Does d ∷ es)) × (most_lines (run (Does d ∷ es)).nodes + n ≤ most_lines (run es).nodes)
line es x d e n others here t low = (
  quiet_with (run (Does d ∷ es)) (number_of x) (grown_node x e) (λ k z at off. others k z (sym (taken_there (run es) (run (Does d ∷ es)) x e k here t off) ∙ at) off) (taken_here (run es) (run (Does d ∷ es)) x e here t) low.quiet,
  total (most_lines (run es).nodes) (most_lines (run (Does d ∷ es)).nodes) (lines_at (digest_of x)) (lines_at (digest_of (grown_node x e))) (takes_cost (run es) (run (Does d ∷ es)) x e here t) low.less,
)
  where
    total : (v w a b : ℕ) → w + a ≡ v + b → b + n ≤ a → w + n ≤ v
    total v w a b h i = omega (arith, h, i)

pub quiet_but : (w : World) (n : ℕ) → IsQuiet w → IsQuietBut w n
quiet_but w n quiet k z at off = quiet_at w k z quiet at

phase_committing : (p : Phase) → is_committing p ≡ true → p ≡ Phase.Committing
phase_committing Phase.Committing h = refl
phase_committing p h = absurd (grind (arith, h))

pub committing_is : (c : Current) (o : Bool) → is_committing c.phase ≡ true → c.owes ≡ o → ◌≡◌ {A = Current} c (record c { phase = Phase.Committing; owes = o })
committing_is c o h i =
    let one : ◌≡◌ {A = Current} c (record c { phase = Phase.Committing }) = ap (λ (p : Phase). let z : Current = record c { phase = p } in z) (phase_committing c.phase h) in
    one ∙ ap (λ (b : Bool). let z : Current = record c { phase = Phase.Committing; owes = b } in z) i

-- a user that owes it says that it has finished
pub finishes : (es : List Happening) (x : Node) (c : Current) → IsQuiet (run es) → IsIn (run es) x → (digest_of x).current ≡ Some c → is_committing c.phase ≡ true → c.owes ≡ true → Progress es
finishes es x c quiet here at phase owes = record {
  more = Does (Action.Do (number_of x) LineRequest.Done) ∷ [];
  recovers = (tt, tt);
  quiet = done.0;
  less = done.1;
  some = omega arith;
}
  where
    good : IsGood (run es).nodes (run es).frames
    good = good_run es

    e : Event
    e = Event.Do Request.Done

    now : (digest_of x).current ≡ Some (ordered c)
    now = at ∙ ap (λ (u : Current). Some u) (committing_is c true phase owes)

    took : Taken x.origin.who (digest_of x) e (left_by x.origin.who (TxEvent.User Request.Done) (digest_of x) (ordered c))
    took =
        done_taken x.origin.who (digest_of x) (ordered c) (quiet x here).arcs now refl refl
        (has_node x.origin x.superior x.history c (good.fresh (number_of x) x here) (good.legal (number_of x) x here) at) (drawn_law x.origin x.superior x.history (good.legal (number_of x) x here))

    cost : lines_of_current (Some (ordered c)) + lines_of_kept (digest_of x).kept ≡ lines_at (digest_of x)
    cost = ap (λ (o : Option Current). lines_of_current o + lines_of_kept (digest_of x).kept) (sym now)

    low : Lowers 1 (lines_at (digest_of x)) (digest_of (grown_node x e))
    low = subst (Lowers 1 (lines_at (digest_of x))) (sym took.next_is) (subst (λ (n : ℕ). Lowers 1 n (left_by x.origin.who (TxEvent.User Request.Done) (digest_of x) (ordered c))) cost (done_commits x.origin.who (digest_of x) c))

    done : IsQuiet (run (Does (Action.Do (number_of x) LineRequest.Done) ∷ es)) × (most_lines (run (Does (Action.Do (number_of x) LineRequest.Done) ∷ es)).nodes + 1 ≤ most_lines (run es).nodes)
    done = line es x (Action.Do (number_of x) LineRequest.Done) e 1 (quiet_but (run es) (number_of x) quiet) here (does_take (run es) (Action.Do (number_of x) LineRequest.Done) x e (task_here (run es) x e here) took.ok) low

-- ---- a round of recovery

pub round_progress : (es : List Happening) (x y : Node) (d1 d2 : Digest) → Round es x y d1 d2 → IsQuiet (run es) → IsQuietAt d1 → IsQuietAt d2 → lines_at d2 + lines_at d1 + 3 ≤ lines_at (digest_of x) + lines_at (digest_of y) → Progress es
round_progress es x y d1 d2 r quiet one two less = record {
  more = Does (Action.Again r.answers) ∷ Does (Action.Again r.asks) ∷ Does (Action.Retry (number_of x)) ∷ [];
  recovers = (r.answers_new, (r.asks_new, (tt, tt)));
  quiet = quiet_with v (number_of x) r.first (round_quiet es x y d1 d2 r quiet one) r.first_here (subst IsQuietAt (sym r.first_is) two);
  less = total (most_lines v.nodes) (most_lines (run es).nodes) (lines_at (digest_of x)) (lines_at (digest_of y)) (lines_at d1) (lines_at d2) r.costs less;
  some = omega arith;
}
  where
    v : World
    v = run (Does (Action.Again r.answers) ∷ Does (Action.Again r.asks) ∷ Does (Action.Retry (number_of x)) ∷ es)

    total : (v w a b c d : ℕ) → v + a + b ≡ w + d + c → d + c + 3 ≤ a + b → v + 3 ≤ w
    total v w a b c d h i = omega (arith, h, i)

-- ---- a node in doubt asks its superior, which is not in doubt

pub is_there : (es : List Happening) (a : Addr) → (h : IsThere (run es) a) → IsIn (run es) h.0
is_there es a h = ap (find_node (run es).nodes) (find_is (run es).nodes a.node h.0 h.1) ∙ h.1

-- the superior's answer is that it commits
commits : (es : List Happening) (x y : Node) (c : Current) (t : Aaid) (b : BranchId) (a : Addr) → IsQuiet (run es) → IsIn (run es) x → IsIn (run es) y → a.node ≡ number_of y → (digest_of x).current ≡ Some c → is_ready c.phase ≡ true → c.key ≡ Under t b a → is_ready (phase_of (digest_of y)) ≡ false
    → recovery_answer (known_of (named_by_branch (digest_of y) t b) b) Question.RecReady ≡ Some RecState.Commit → Progress es
commits es x y c t b a quiet here there to at ready key knows answer =
    round_progress es x y (digest_of y) d2 (round es x y (digest_of y) d2 (doubt_asks es x y c t b a RecState.Commit d2 here there to at ready key knows answer took.ok took.next_is)) quiet (quiet y there) low.quiet (total (lines_at d2) (lines_at (digest_of y)) (lines_at (digest_of x)) low.less)
  where
    d2 : Digest
    d2 = left_by x.origin.who (TxEvent.Reply b RecState.Commit) (digest_of x) (doubting c t b a)

    now : (digest_of x).current ≡ Some (doubting c t b a)
    now = at ∙ ap (λ (u : Current). Some u) (doubting_is c t b a ready key)

    took : Taken x.origin.who (digest_of x) (Event.Arrive a (PeerRecord.RecReply t b RecState.Commit)) d2
    took = commit_taken x.origin.who (digest_of x) c t b a (quiet x here).arcs now (drawn_law x.origin x.superior x.history ((good_run es).legal (number_of x) x here))

    low : Lowers 3 (lines_at (digest_of x)) d2
    low = subst (λ (o : Option Current). Lowers 3 (lines_of_current o + lines_of_kept (digest_of x).kept) d2) (sym now) (answer_commits x.origin.who (digest_of x) c t b a)

    total : (m n k : ℕ) → m + 3 ≤ k → m + n + 3 ≤ k + n
    total m n k h = omega (arith, h)

-- or that it knows of nothing: the node rolls back, and its user says that it has finished
rolls_back : (es : List Happening) (x y : Node) (c : Current) (t : Aaid) (b : BranchId) (a : Addr) → IsQuiet (run es) → IsIn (run es) x → IsIn (run es) y → a.node ≡ number_of y → (digest_of x).current ≡ Some c → is_ready c.phase ≡ true → c.key ≡ Under t b a → is_ready (phase_of (digest_of y)) ≡ false
    → recovery_answer (known_of (named_by_branch (digest_of y) t b) b) Question.RecReady ≡ Some RecState.Unknown → Progress es
rolls_back es x y c t b a quiet here there to at ready key knows answer = record {
  more = Does (Action.Do (number_of x) LineRequest.Done) ∷ Does (Action.Again r.answers) ∷ Does (Action.Again r.asks) ∷ Does (Action.Retry (number_of x)) ∷ [];
  recovers = (tt, (r.answers_new, (r.asks_new, (tt, tt))));
  quiet = ended.0;
  less =
      total (most_lines (run es4).nodes) (most_lines (run es3).nodes) (most_lines (run es).nodes) (lines_at (digest_of x)) (lines_at (digest_of y)) (lines_at (digest_of r.first)) (lines_at (digest_of (grown_node r.first e))) (lines_at d2) (lines_of_kept d2.kept) (lines_of_kept (digest_of x).kept) (length c.branches)
      (takes_cost (run es3) (run es4) r.first e here3 takes) (ap lines_at r.first_is) r.costs (subst (λ (d : Digest). lines_at d ≤ lines_of_kept d2.kept) (sym next_is) (none (lines_at (left_by x.origin.who (TxEvent.User Request.Done) d2 rc.current)) (lines_of_kept d2.kept) gone.less)) rc.less cost;
  some = omega arith;
}
  where
    d2 : Digest
    d2 = left_by x.origin.who (TxEvent.Reply b RecState.Unknown) (digest_of x) (doubting c t b a)

    now : (digest_of x).current ≡ Some (doubting c t b a)
    now = at ∙ ap (λ (u : Current). Some u) (doubting_is c t b a ready key)

    took : Taken x.origin.who (digest_of x) (Event.Arrive a (PeerRecord.RecReply t b RecState.Unknown)) d2
    took = unknown_taken x.origin.who (digest_of x) c t b a (quiet x here).arcs now (drawn_law x.origin x.superior x.history ((good_run es).legal (number_of x) x here))

    r : Round es x y (digest_of y) d2
    r = round es x y (digest_of y) d2 (doubt_asks es x y c t b a RecState.Unknown d2 here there to at ready key knows answer took.ok took.next_is)

    rc : RollsIn x.origin.who (digest_of x) (TxEvent.Reply b RecState.Unknown) (doubting c t b a)
    rc = answer_rolls x.origin.who (digest_of x) c t b a

    es3 : List Happening
    es3 = Does (Action.Again r.answers) ∷ Does (Action.Again r.asks) ∷ Does (Action.Retry (number_of x)) ∷ es

    number : number_of r.first ≡ number_of x
    number = ap (λ (o : Origin). o.who.node) r.first_origin

    here3 : IsIn (run es3) r.first
    here3 = ap (find_node (run es3).nodes) number ∙ r.first_here

    e : Event
    e = Event.Do Request.Done

    es4 : List Happening
    es4 = Does (Action.Do (number_of x) LineRequest.Done) ∷ es3

    rolling_is : (u : Current) → is_rolling u.phase ≡ true → u.superior_rolled ≡ true → u.owes ≡ true → u ≡ rolling u
    rolling_is u p s o =
        let one : ◌≡◌ {A = Current} u (record u { phase = Phase.Rolling }) = ap (λ (v : Phase). let z : Current = record u { phase = v } in z) (phase u.phase p) in
        let two : ◌≡◌ {A = Current} (record u { phase = Phase.Rolling }) (record u { phase = Phase.Rolling; superior_rolled = true }) = ap (λ (v : Bool). let z : Current = record u { phase = Phase.Rolling; superior_rolled = v } in z) s in
        one ∙ two ∙ ap (λ (v : Bool). let z : Current = record u { phase = Phase.Rolling; superior_rolled = true; owes = v } in z) o
      where
        phase : (v : Phase) → is_rolling v ≡ true → v ≡ Phase.Rolling
        phase Phase.Rolling h = refl
        phase v h = absurd (grind (arith, h))

    either : (a b : Bool) → b ≡ true → (a || b) ≡ true
    either a b h = grind (arith, h)

    node3 : is_no_node d2 ≡ false
    node3 = ap is_no_node (sym r.first_is) ∙ has_node r.first.origin r.first.superior r.first.history rc.current ((good_run es3).fresh (number_of r.first) r.first here3) ((good_run es3).legal (number_of r.first) r.first here3) (ap (λ (d : Digest). d.current) r.first_is ∙ rc.at)

    drawn3 : d2.drawn ≤ greatest
    drawn3 = subst (λ (d : Digest). d.drawn ≤ greatest) r.first_is (drawn_law r.first.origin r.first.superior r.first.history ((good_run es3).legal (number_of r.first) r.first here3))

    done : Taken x.origin.who d2 e (left_by x.origin.who (TxEvent.User Request.Done) d2 rc.current)
    done = done_taken x.origin.who d2 rc.current refl rc.at rc.owes (either (is_committing rc.current.phase) (is_rolling rc.current.phase) rc.rolling) node3 drawn3

    gone : Lowers 0 (lines_of_kept d2.kept) (left_by x.origin.who (TxEvent.User Request.Done) d2 rc.current)
    gone = subst (λ (u : Current). Lowers 0 (lines_of_kept d2.kept) (left_by x.origin.who (TxEvent.User Request.Done) d2 u)) (sym (rolling_is rc.current rc.rolling rc.told rc.owes)) (done_rolls x.origin.who d2 rc.current)

    own : Taken r.first.origin.who (digest_of r.first) e (left_by x.origin.who (TxEvent.User Request.Done) d2 rc.current)
    own = subst (λ (w : Who). Taken w (digest_of r.first) e (left_by x.origin.who (TxEvent.User Request.Done) d2 rc.current)) (ap (λ (o : Origin). o.who) (sym r.first_origin)) (subst (λ (d : Digest). Taken x.origin.who d e (left_by x.origin.who (TxEvent.User Request.Done) d2 rc.current)) (sym r.first_is) done)

    next_is : digest_of (grown_node r.first e) ≡ left_by x.origin.who (TxEvent.User Request.Done) d2 rc.current
    next_is = own.next_is

    takes : Takes (run es3) r.first e (run es4)
    takes = subst (λ (n : ℕ). Takes (run es3) r.first e (run (Does (Action.Do n LineRequest.Done) ∷ es3))) number (does_take (run es3) (Action.Do (number_of r.first) LineRequest.Done) r.first e (task_here (run es3) r.first e here3) own.ok)

    none : (m n : ℕ) → m + 0 ≤ n → m ≤ n
    none m n h = omega (arith, h)

    others : IsQuietBut (run es3) (number_of r.first)
    others = subst (IsQuietBut (run es3)) (sym number) (round_quiet es x y (digest_of y) d2 r quiet (quiet y there))

    ended : IsQuiet (run es4) × Unit {0}
    ended = (quiet_with (run es4) (number_of r.first) (grown_node r.first e) (λ k z found off. others k z (sym (taken_there (run es3) (run es4) r.first e k here3 takes off) ∙ found) off) (taken_here (run es3) (run es4) r.first e here3 takes) (subst IsQuietAt (sym next_is) gone.quiet), tt)

    cost : lines_at (digest_of x) ≡ 7 + 3 * length c.branches + lines_of_kept (digest_of x).kept
    cost = ap (λ (o : Option Current). lines_of_current o + lines_of_kept (digest_of x).kept) now

    total : (v4 v3 w cx cy c3 c4 c2 k2 k n : ℕ) → v4 + c3 ≡ v3 + c4 → c3 ≡ c2 → v3 + cx + cy ≡ w + c2 + cy → c4 ≤ k2 → k2 ≤ 3 + k → cx ≡ 7 + 3 * n + k → v4 + 4 ≤ w
    total v4 v3 w cx cy c3 c4 c2 k2 k n h i j l m o = omega (arith, h, i, j, l, m, o)

pub answers : (es : List Happening) (x : Node) (c : Current) → IsQuiet (run es) → IsIn (run es) x → (digest_of x).current ≡ Some c → is_ready c.phase ≡ true → ((z : Node) → IsIn (run es) z → is_at x.superior (number_of z) ≡ true → is_ready (phase_of (digest_of z)) ≡ false) → Progress es
answers es x c quiet here at ready knows = go (decided_answer (digest_of y) k.0 k.1 (quiet y there).active (knows y there (subst (λ (n : ℕ). is_at x.superior n ≡ true) to above.2)))
  where
    k : (t : Aaid) × (b : BranchId) × (a : Addr) × (c.key ≡ Under t b a)
    k = key_of c.key (((fit_run es x here).0 c at).2 ready)

    above : IsSuperiorAt (run es) x k.0 k.1 k.2
    above = subst (λ (j : Key). KeyAt (IsSuperiorAt (run es) x) j) k.3 ((fit_run es x here).0 c at).0

    y : Node
    y = above.0.0

    there : IsIn (run es) y
    there = is_there es k.2 above.0

    to : k.2.node ≡ number_of y
    to = sym (find_is (run es).nodes k.2.node y above.0.1)

    out : is_ready (phase_of (digest_of y)) ≡ false
    out = knows y there (subst (λ (n : ℕ). is_at x.superior n ≡ true) to above.2)

    go : (recovery_answer (known_of (named_by_branch (digest_of y) k.0 k.1) k.1) Question.RecReady ≡ Some RecState.Commit) ⊎ (recovery_answer (known_of (named_by_branch (digest_of y) k.0 k.1) k.1) Question.RecReady ≡ Some RecState.Unknown) → Progress es
    go (inl i) = commits es x y c k.0 k.1 k.2 quiet here there to at ready k.3 out i
    go (inr i) = rolls_back es x y c k.0 k.1 k.2 quiet here there to at ready k.3 out i
