-- A node in doubt whose superior is neither active nor in doubt hears the outcome by one retry and two deliveries.
use Rattle.std.proofs.Common.{◌≡◌, ◌⊎◌, inl, inr, ℕ, ◌≤◌, Bool, true, false, refl, ap, sym, subst, ◌∙◌, arith, Option, Some, None, List, ◌∷◌, ◌==◌}
use Rattle.std.proofs.lemmas.Bool.Decides.{nat_tests}
use Rattle.tp_names.specs.declared.identifiers.Aaid.{Aaid}
use Rattle.tp_names.specs.declared.identifiers.Addr.{Addr}
use Rattle.tp_names.specs.declared.identifiers.BranchId.{BranchId}
use Rattle.tp_names.specs.declared.identifiers.Mark.{Mark}
use Rattle.tp_names.specs.declared.children.Child.{Child}
use Rattle.tp_records.specs.declared.dialogue.DialogueRecord.{DialogueRecord}
use Rattle.tp_records.specs.declared.dialogue.Holder.{Holder}
use Rattle.tp_records.specs.declared.peer.PeerRecord.{PeerRecord}
use Rattle.tp_records.specs.declared.peer.RecState.{RecState}
use Rattle.tp_model.specs.declared.arc.Phase.{Phase}
use Rattle.tp_model.specs.declared.line.Action.{Action}
use Rattle.tp_model.specs.declared.recovery.Question.{Question}
use Rattle.tp_model.specs.Parts.{Origin, Event, Key, Root, Under, Current, Digest}
use Rattle.tp_model.specs.Links.{greatest}
use Rattle.tp_model.specs.Dialogues.{is_ready}
use Rattle.tp_model.specs.Node.{phase_of}
use Rattle.tp_model.specs.Recovery.{recovery_answer}
use Rattle.tp_model.specs.Transactions.{is_under}
use Rattle.tp_model.specs.Arrivals.{named_by_branch, child_addr, is_other, known_of}
use Rattle.tp_model.specs.Events.{refusal, action}
use Rattle.tp_model.specs.Questions.{is_at}
use Rattle.tp_model.specs.World.{World, Node, number_of, addr_of, find_node}
use Rattle.tp_model.specs.Happenings.{Happening, Does, run}
use Rattle.tp_model.specs.Promises.{IsIn}
use Rattle.tp_histories.specs.Histories.{HasSent}
use Rattle.tp_histories.specs.Worlds.{IsGood}
use Rattle.tp_histories.proofs.worlds.Good.{good_run, Sender, was_sent}
use Rattle.tp_steps.proofs.lemmas.Options.{some_same}
use Rattle.tp_runs.proofs.Heeded.{own_superior}
use Rattle.tp_agreement.proofs.BelowRuns.{TookKey}
use Rattle.tp_agreement.proofs.RollsUp.{took_sent}
use Rattle.tp_agreement.proofs.Unknown.{SentTo}
use Rattle.tp_finishing.specs.Doubt.{known_of as digest_of, IsInDoubt, Resolves, DoubtEnds}
use Rattle.tp_finishing.proofs.Kindred.{KeyAt, Fits, fit_law}
use Rattle.tp_finishing.proofs.BegunOnce.{HasBegun, begun_once}
use Rattle.tp_finishing.proofs.Numbers.{drawn_law}
use Rattle.tp_finishing.proofs.Awake.{has_node}
use Rattle.tp_finishing.proofs.Rounds.{Asks, Round, round}
use Rattle.tp_finishing.proofs.Retries.{asks_superior}
use Rattle.tp_finishing.proofs.Answering.{FoundIn, child_known, no_other, question_taken, question_same, question_says, decided_answer}
use Rattle.tp_finishing.proofs.Hearing.{doubting, IsResolved, Hears, hears_commit, hears_unknown}

-- ---- addresses in a run

-- a node has the address
abbrev pub IsThere : World → Addr → Type 0
IsThere w a = (z : Node) × (find_node w.nodes a.node ≡ Some z) × (addr_of z ≡ a)

-- the node at that number has it
pub there_is : (w : World) (a : Addr) (x : Node) → IsThere w a → IsIn w x → a.node ≡ number_of x → a ≡ addr_of x
there_is w a x h here at = let same : h.0 ≡ x = some_same h.0 x (sym h.1 ∙ ap (find_node w.nodes) at ∙ here) in sym h.2 ∙ ap addr_of same

-- the superior of a branch: it is there, and the branch took its Begin
abbrev pub IsSuperiorAt : World → Node → Aaid → BranchId → Addr → Type 0
IsSuperiorAt w x t b a = IsThere w a × TookKey x.history t b × (is_at x.superior a.node ≡ true)

-- a branch: it is there, another node, and its Begin was sent to it
abbrev pub IsBranchAt : World → Node → Aaid → Child → Type 0
IsBranchAt w x t c = IsThere w c.addr × ((c.addr.node == number_of x) ≡ false) × ((y : Mark) × (z : Mark) × (q : ℕ) × (i : Holder) × HasSent x.history c.addr (PeerRecord.OnAssoc y z q (DialogueRecord.Begin t c.branch i)))

pub fit_run : (es : List Happening) (x : Node) → IsIn (run es) x → Fits (IsSuperiorAt (run es) x) (IsBranchAt (run es) x) (digest_of x)
fit_run es x here =
    let good = good_run es in
    (fit_law (IsThere (run es)) (IsSuperiorAt (run es) x) (IsBranchAt (run es) x) x.origin x.superior x.history (good.fresh (number_of x) x here) (good.legal (number_of x) x here)
    (λ a r b. let s : Sender (run es).nodes a (number_of x) r = was_sent (run es).nodes (run es).frames a (number_of x) r good.sent (good.taken (number_of x) x a r here b) in (s.node, s.found, s.is))
    (λ t c y z q i sent there other. (there, other, (y, z, q, i, sent)))
    (λ t b from y z q i a took there up. (there, record { from = from; x = y; y = z; seq = q; holder = i; took = took }, up)) (own_superior (run es).nodes (run es).frames x good here)).2

-- a branch that a superior keeps under the identifier of x is x
pub own_child : (es : List Happening) (x y : Node) (t : Aaid) (b : BranchId) → IsIn (run es) x → IsIn (run es) y → is_at x.superior (number_of y) ≡ true → TookKey x.history t b
    → is_other (child_addr (named_by_branch (digest_of y) t b) b) (addr_of x) ≡ false
own_child es x y t b here above up took = no_other (child_addr (named_by_branch (digest_of y) t b) b) (addr_of x) found
  where
    good : IsGood (run es).nodes (run es).frames
    good = good_run es

    sent : SentTo y.history (number_of x) t b
    sent = took_sent (run es).nodes (run es).frames y x t b good above here up took

    found : (z : Addr) → child_addr (named_by_branch (digest_of y) t b) b ≡ Some z → z ≡ addr_of x
    found z i =
        let f : FoundIn (IsBranchAt (run es) y) z b = child_known (IsSuperiorAt (run es) y) (IsBranchAt (run es) y) (digest_of y) t b z (fit_run es y above) i in
        let k = f.holds.2 in
        let begun : HasBegun y.history f.child.branch f.child.addr = (f.tree, k.0, k.1, k.2, k.3, k.4) in
        let same : HasBegun y.history b z = subst (λ (v : Addr). HasBegun y.history b v) f.addr (subst (λ (v : BranchId). HasBegun y.history v f.child.addr) f.branch begun) in
        let one : z.node ≡ sent.to.node = begun_once y.origin y.superior y.history b z sent.to (good.legal (number_of y) y above) same (t, sent.x, sent.y, sent.seq, sent.holder, sent.sent) in
        there_is (run es) z x (subst (IsThere (run es)) f.addr f.holds.0) here (one ∙ sent.at)

-- ---- the exchange

-- two nodes of different phases have different numbers
pub apart : (w : World) (x y : Node) (f : Phase → Bool) → IsIn w x → IsIn w y → f (phase_of (digest_of x)) ≡ true → f (phase_of (digest_of y)) ≡ false → (number_of x == number_of y) ≡ false
apart w x y f here above h i = go (number_of x == number_of y) refl
  where
    go : (b : Bool) → (number_of x == number_of y) ≡ b → b ≡ false
    go false j = refl
    go true j =
        let at : number_of x ≡ number_of y = grind (arith, nat_tests, j) in
        let same : x ≡ y = some_same x y (sym here ∙ ap (find_node w.nodes) at ∙ above) in
        absurd (cc (ap (λ (z : Node). f (phase_of (digest_of z))) (sym same) ∙ h, i))

pub key_of : (k : Key) → is_under k ≡ true → (t : Aaid) × (b : BranchId) × (a : Addr) × (k ≡ Under t b a)
key_of (Root t) h = absurd (cc (h))
key_of (Under t b a) h = (t, b, a, refl)

pub doubting_is : (c : Current) (t : Aaid) (b : BranchId) (a : Addr) → is_ready c.phase ≡ true → c.key ≡ Under t b a → c ≡ doubting c t b a
doubting_is c t b a ready key = made (ready_is c.phase ready) key
  where
    ready_is : (p : Phase) → is_ready p ≡ true → p ≡ Phase.Ready
    ready_is Phase.Ready h = refl
    ready_is p h = absurd (grind (arith, h))

    made : c.phase ≡ Phase.Ready → c.key ≡ Under t b a → c ≡ doubting c t b a
    made i j =
        let one : ◌≡◌ {A = Current} c (record c { phase = Phase.Ready }) = ap (λ (p : Phase). let z : Current = record c { phase = p } in z) i in
        one ∙ ap (λ (k : Key). let z : Current = record c { phase = Phase.Ready; key = k } in z) j

at_number : (o : Option Addr) (a : Addr) (n : ℕ) → o ≡ Some a → is_at o n ≡ true → a.node ≡ n
at_number o a n i h = let k : is_at (Some a) n ≡ true = ap (λ (v : Option Addr). is_at v n) (sym i) ∙ h in grind (arith, nat_tests, k)

-- ---- the round

-- x asks y, and hears s
pub doubt_asks : (es : List Happening) (x y : Node) (c : Current) (t : Aaid) (b : BranchId) (a : Addr) (s : RecState) (d2 : Digest) → IsIn (run es) x → IsIn (run es) y → a.node ≡ number_of y → (digest_of x).current ≡ Some c → is_ready c.phase ≡ true → c.key ≡ Under t b a
    → is_ready (phase_of (digest_of y)) ≡ false → recovery_answer (known_of (named_by_branch (digest_of y) t b) b) Question.RecReady ≡ Some s
    → refusal x.origin.who (digest_of x) (Event.Arrive a (PeerRecord.RecReply t b s)) ≡ None → (action x.origin.who (digest_of x) (Event.Arrive a (PeerRecord.RecReply t b s))).next ≡ d2 → Asks es x y (digest_of y) d2
doubt_asks es x y c t b a s d2 here there at now ready key knows answer heard last = record {
  here = here;
  there = there;
  apart = apart (run es) x y is_ready here there (ap (λ (o : Option Current). is_ready (elim o as (λ _. Phase) [ None ↦ Phase.Nil | Some u ↦ u.phase ])) now ∙ ready) knows;
  node = has_node x.origin x.superior x.history c (good.fresh (number_of x) x here) (good.legal (number_of x) x here) now;
  question = PeerRecord.RecReady t b;
  to = a;
  to_is = at;
  said = asks_superior x.origin.who (digest_of x) c t b a now ready key;
  taken =
      question_taken y.origin.who (digest_of y) (addr_of x) t b (drawn_law y.origin y.superior y.history (good.legal (number_of y) y there))
      (own_child es x y t b here there (subst (λ (n : ℕ). is_at x.superior n ≡ true) at above.2) above.1);
  answer = PeerRecord.RecReply t b s;
  answered = question_says y.origin.who (digest_of y) (addr_of x) t b s answer;
  after = question_same y.origin.who (digest_of y) (addr_of x) t b;
  heard = subst (λ (z : Addr). refusal x.origin.who (digest_of x) (Event.Arrive z (PeerRecord.RecReply t b s)) ≡ None) address heard;
  last = subst (λ (z : Addr). (action x.origin.who (digest_of x) (Event.Arrive z (PeerRecord.RecReply t b s))).next ≡ d2) address last;
}
  where
    good : IsGood (run es).nodes (run es).frames
    good = good_run es

    above : IsSuperiorAt (run es) x t b a
    above = subst (λ (k : Key). KeyAt (IsSuperiorAt (run es) x) k) key ((fit_run es x here).0 c now).0

    address : a ≡ addr_of y
    address = there_is (run es) a y above.0 there at

resolves : (es : List Happening) (x y : Node) (h : IsInDoubt (run es) x y) (t : Aaid) (b : BranchId) (a : Addr) (s : RecState) → h.current.key ≡ Under t b a → recovery_answer (known_of (named_by_branch (digest_of y) t b) b) Question.RecReady ≡ Some s
    → Hears x.origin.who (digest_of x) (Event.Arrive a (PeerRecord.RecReply t b s)) → Resolves es x
resolves es x y h t b a s key answer hears = record {
  asks = r.asks;
  answers = r.answers;
  asks_new = r.asks_new;
  answers_new = r.answers_new;
  node = r.first;
  here = ap (λ (n : ℕ). find_node (run (Does (Action.Again r.answers) ∷ Does (Action.Again r.asks) ∷ Does (Action.Retry (number_of x)) ∷ es)).nodes n) (ap (λ (o : Origin). o.who.node) r.first_origin) ∙ r.first_here;
  origin = r.first_origin;
  resolved = subst IsResolved (sym r.first_is) hears.resolved;
}
  where
    good : IsGood (run es).nodes (run es).frames
    good = good_run es

    above : IsSuperiorAt (run es) x t b a
    above = subst (λ (k : Key). KeyAt (IsSuperiorAt (run es) x) k) key ((fit_run es x h.here).0 h.current h.at).0

    at : a.node ≡ number_of y
    at = sym (at_number x.superior (addr_of y) a.node h.superior above.2)

    d2 : Digest
    d2 = (action x.origin.who (digest_of x) (Event.Arrive a (PeerRecord.RecReply t b s))).next

    r : Round es x y (digest_of y) d2
    r = round es x y (digest_of y) d2 (doubt_asks es x y h.current t b a s d2 h.here h.above at h.at h.ready key h.knows answer hears.taken refl)

pub doubt_ends : DoubtEnds
doubt_ends es x y h = go (decided_answer (digest_of y) k.0 k.1 h.calm h.knows)
  where
    good : IsGood (run es).nodes (run es).frames
    good = good_run es

    k : (t : Aaid) × (b : BranchId) × (a : Addr) × (h.current.key ≡ Under t b a)
    k = key_of h.current.key (((fit_run es x h.here).0 h.current h.at).2 h.ready)

    now : (digest_of x).current ≡ Some (doubting h.current k.0 k.1 k.2)
    now = h.at ∙ ap (λ (c : Current). Some c) (doubting_is h.current k.0 k.1 k.2 h.ready k.3)

    drawn : (digest_of x).drawn ≤ greatest
    drawn = drawn_law x.origin x.superior x.history (good.legal (number_of x) x h.here)

    go : (recovery_answer (known_of (named_by_branch (digest_of y) k.0 k.1) k.1) Question.RecReady ≡ Some RecState.Commit) ⊎ (recovery_answer (known_of (named_by_branch (digest_of y) k.0 k.1) k.1) Question.RecReady ≡ Some RecState.Unknown) → Resolves es x
    go (inl i) = resolves es x y h k.0 k.1 k.2 RecState.Commit k.3 i (hears_commit x.origin.who (digest_of x) h.current k.0 k.1 k.2 now drawn h.numbers)
    go (inr i) = resolves es x y h k.0 k.1 k.2 RecState.Unknown k.3 i (hears_unknown x.origin.who (digest_of x) h.current k.0 k.1 k.2 now drawn h.numbers)
