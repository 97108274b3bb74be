-- Whose word it is that a node hears of a branch that it awaits: that of a node just below it, which is at the end of a branch.
use Rattle.std.proofs.Common.{◌≡◌, ◌≤◌, ◌⊎◌, inl, inr, ℕ, Bool, true, false, refl, ap, sym, subst, ◌∙◌, arith, Option, Some, None, List, [], ◌∷◌, ◌++◌, ◌&&◌, ◌||◌, ◌==◌}
use Rattle.std.proofs.lemmas.Bool.Decides.{nat_tests}
use Rattle.tp_names.specs.declared.identifiers.Aaid.{Aaid}
use Rattle.tp_names.specs.declared.identifiers.Mark.{Mark}
use Rattle.tp_names.specs.declared.identifiers.Addr.{Addr}
use Rattle.tp_names.specs.declared.identifiers.BranchId.{BranchId}
use Rattle.tp_names.specs.declared.outcome.Report.{Report}
use Rattle.tp_names.specs.Same.{is_aaid}
use Rattle.tp_records.specs.declared.dialogue.DialogueRecord.{DialogueRecord}
use Rattle.tp_records.specs.declared.peer.PeerRecord.{PeerRecord}
use Rattle.tp_logrec.specs.declared.record.LogRec.{LogRec}
use Rattle.tp_model.specs.declared.transaction.TxEvent.{TxEvent}
use Rattle.tp_model.specs.Parts.{Origin, Event, Out, Entry, Live, Branch, Current, Digest}
use Rattle.tp_model.specs.Dialogues.{is_committing}
use Rattle.tp_model.specs.Arcs.{link_with}
use Rattle.tp_model.specs.Transactions.{aaid_of}
use Rattle.tp_model.specs.Events.{refusal}
use Rattle.tp_model.specs.History.{digest, records}
use Rattle.tp_model.specs.Outcomes.{is_now, rolled}
use Rattle.tp_model.specs.Questions.{is_at}
use Rattle.tp_model.specs.World.{Node, number_of, addr_of, find_node}
use Rattle.tp_model.specs.Happenings.{Happening, run}
use Rattle.tp_model.specs.Promises.{IsIn, IsOf, IsBranchOf, has_begun, has_told_in}
use Rattle.tp_model.specs.Legal.{IsGrown}
use Rattle.tp_steps.specs.Moves.{IsAsked, prelude}
use Rattle.tp_steps.specs.Facts.{BranchKey, find_branch}
use Rattle.tp_steps.specs.Branches.{may_end}
use Rattle.tp_steps.specs.Histories.{brought}
use Rattle.tp_steps.specs.Upward.{Deeds}
use Rattle.tp_histories.specs.Histories.{HasBrought}
use Rattle.tp_histories.specs.Worlds.{IsGood}
use Rattle.tp_histories.specs.Members.{IsOnce, is_own, is_known, has_taken_begin}
use Rattle.tp_histories.specs.Upward.{deeds_of}
use Rattle.tp_runs.specs.Heeded.{heeds_event, heeds}
use Rattle.tp_report_causes.specs.Causes.{is_awaited, is_met, has_met}
use Rattle.tp_steps.proofs.lemmas.Equality.{or_case, and_left, and_right, both_true}
use Rattle.tp_steps.proofs.lemmas.Options.{some_same}
use Rattle.tp_steps.proofs.lemmas.Words.{commit_more}
use Rattle.tp_steps.proofs.every.Preludes.{Taken, takes_next}
use Rattle.tp_histories.proofs.trees.Late.{late_law}
use Rattle.tp_histories.proofs.pairs.PairedSteps.{paired_law}
use Rattle.tp_histories.proofs.worlds.Good.{good_run, Sender, was_sent}
use Rattle.tp_histories.proofs.worlds.Unique.{unique_run, TookBegin, took_begin, took_has}
use Rattle.tp_runs.proofs.Hanging.{began_from}
use Rattle.tp_agreement.proofs.Marked.{Marked, MayMark}
use Rattle.tp_agreement.proofs.Accounts.{Accounts, marked_key}
use Rattle.tp_agreement.proofs.AccountSteps.{Rules}
use Rattle.tp_agreement.proofs.LeftDown.{Below, below_tail, accounts_of}
use Rattle.tp_agreement.proofs.OwingLaw.{rolled_more}
use Rattle.tp_agreement.proofs.RollsUp.{below_run}
use Rattle.tp_failure_free.proofs.NoRolling.{below_it}
use Rattle.tp_outcomes.proofs.Starting.{taken_member}
use Rattle.tp_failure_free.proofs.DrainedDones.{not_drawn}

-- ---- an event in a history

pub record Found (f : Current → Event → Bool) (o : Origin) (t : Aaid) (h : List Entry) : Type 0 where
  pub entry : Entry
  pub rest : List Entry
  pub before : List Entry
  pub is : h ≡ before ++ entry ∷ rest
  pub current : Current
  pub at : (digest o rest).current ≡ Some current
  pub own : is_aaid t (aaid_of current.key) ≡ true
  pub met : f current entry.event ≡ true

pub find_met : (f : Current → Event → Bool) (o : Origin) (t : Aaid) (h : List Entry) → has_met f o t h ≡ true → Found f o t h
find_met f o t [] m = absurd (cc (m))
find_met f o t (e ∷ h) m = go (or_case (is_met f t (digest o h).current e.event) (has_met f o t h) m) (find_met f o t h)
  where
    here : (v : Option Current) → (digest o h).current ≡ v → is_met f t v e.event ≡ true → Found f o t (e ∷ h)
    here None i k = absurd (cc (k))
    here (Some c) i k = record { entry = e; rest = h; before = []; is = refl; current = c; at = i; own = and_left (is_aaid t (aaid_of c.key)) (f c e.event) k; met = and_right (is_aaid t (aaid_of c.key)) (f c e.event) k }

    go : (is_met f t (digest o h).current e.event ≡ true) ⊎ (has_met f o t h ≡ true) → (has_met f o t h ≡ true → Found f o t h) → Found f o t (e ∷ h)
    go (inl k) rest = here (digest o h).current refl k
    go (inr k) rest = let w = rest k in record { entry = w.entry; rest = w.rest; before = e ∷ w.before; is = ap (λ (v : List Entry). e ∷ v) w.is; current = w.current; at = w.at; own = w.own; met = w.met }

pub legal_at : (o : Origin) (up : Option Addr) (before : List Entry) (e : Entry) (h : List Entry) → IsGrown o up (before ++ e ∷ h) → IsGrown o up (e ∷ h)
legal_at o up [] e h k = k
legal_at o up (x ∷ xs) e h k = legal_at o up xs e h k.3

pub once_at : (o : Origin) (before : List Entry) (e : Entry) (h : List Entry) → IsOnce o (before ++ e ∷ h) → IsOnce o (e ∷ h)
once_at o [] e h k = k
once_at o (x ∷ xs) e h k = once_at o xs e h k.1

pub taken_at : (before : List Entry) (e : Entry) (h : List Entry) (a : Addr) (r : PeerRecord) → brought e.event ≡ Some (a, r) → HasBrought (before ++ e ∷ h) a r
taken_at [] e h a r i = inl i
taken_at (x ∷ xs) e h a r i = inr (taken_at xs e h a r i)

pub below_at : (o : Origin) (up : Option Addr) (p : ℕ) (g : Deeds) (rs : List LogRec) (before : List Entry) (e : Entry) (h : List Entry) → Below o up p g rs (before ++ e ∷ h) → Below o up p g rs (e ∷ h)
below_at o up p g rs [] e h k = k
below_at o up p g rs (x ∷ xs) e h k = below_at o up p g rs xs e h (below_tail o up p g rs x (xs ++ e ∷ h) k)

pub rolled_at : (o : Origin) (t : Aaid) (before : List Entry) (h : List Entry) → rolled o t h ≡ true → rolled o t (before ++ h) ≡ true
rolled_at o t [] h r = r
rolled_at o t (x ∷ xs) h r = rolled_more o x (xs ++ h) t (rolled_at o t xs h r)

-- ---- what is told

pub told_split : (f g k : List Out → Bool) → ((outs : List Out) → f outs ≡ true → (g outs ≡ true) ⊎ (k outs ≡ true)) → (o : Origin) (t : Aaid) (h : List Entry) → has_told_in f o t h ≡ true → (has_told_in g o t h ≡ true) ⊎ (has_told_in k o t h ≡ true)
told_split f g k split o t [] m = absurd (cc (m))
told_split f g k split o t (e ∷ h) m = go (or_case (is_now t (digest o h).current && f e.outs) (has_told_in f o t h) m) (told_split f g k split o t h)
  where
    more : (r : List Out → Bool) → has_told_in r o t h ≡ true → has_told_in r o t (e ∷ h) ≡ true
    more r i = later (is_now t (digest o h).current && r e.outs) (has_told_in r o t h) i
      where
        later : (x y : Bool) → y ≡ true → (x || y) ≡ true
        later true y j = refl
        later false y j = j

    first : (r : List Out → Bool) → is_now t (digest o h).current ≡ true → r e.outs ≡ true → has_told_in r o t (e ∷ h) ≡ true
    first r n i = let both : (is_now t (digest o h).current && r e.outs) ≡ true = both_true (is_now t (digest o h).current) (r e.outs) n i in rw both refl

    go : ((is_now t (digest o h).current && f e.outs) ≡ true) ⊎ (has_told_in f o t h ≡ true) → (has_told_in f o t h ≡ true → (has_told_in g o t h ≡ true) ⊎ (has_told_in k o t h ≡ true))
        → (has_told_in g o t (e ∷ h) ≡ true) ⊎ (has_told_in k o t (e ∷ h) ≡ true)
    go (inr i) rest = elim (rest i) [ inl j ↦ inl (more g j) | inr j ↦ inr (more k j) ]
    go (inl i) rest =
        let n : is_now t (digest o h).current ≡ true = and_left (is_now t (digest o h).current) (f e.outs) i in
        elim (split e.outs (and_right (is_now t (digest o h).current) (f e.outs) i)) [ inl j ↦ inl (first g n j) | inr j ↦ inr (first k n j) ]

-- ---- a word that is heard on its association

pub branch_found : (o : Option Branch) → is_awaited o ≡ true → (b : Branch) × (o ≡ Some b)
branch_found None h = absurd (cc (h))
branch_found (Some b) h = (b, refl)

-- who said it
pub record Speaker (es : List Happening) (x : Node) (e : Entry) (h : List Entry) (c : Current) (a : Addr) : Type 0 where
  pub node : Node
  pub here : IsIn (run es) node
  pub number : number_of node ≡ a.node
  pub under : is_at node.superior (number_of x) ≡ true
  pub branch : Branch
  pub found : find_branch c.branches (number_of node) ≡ Some branch
  pub stands : Marked (λ v. true) (digest x.origin h).current (number_of node) (aaid_of c.key, branch.id)
  pub rules : Rules x.origin x.superior (number_of node) (deeds_of node.origin node.history) (records node.origin node.history) e h
  pub old : Accounts x.origin (number_of node) (deeds_of node.origin node.history) (records node.origin node.history) h

pub speaker : (es : List Happening) (t : Aaid) (x : Node) → IsIn (run es) x → (f : Current → Event → Bool) (w : Found f x.origin t x.history) (a : Addr) (m k : Mark) (q : ℕ) (said : DialogueRecord)
    → w.entry.event ≡ Event.Arrive a (PeerRecord.OnAssoc m k q said) → is_awaited (find_branch w.current.branches a.node) ≡ true → Speaker es x w.entry w.rest w.current a
speaker es t x hx f w a m k q said is waits = record { node = y; here = hy; number = number; under = under; branch = b.0; found = found; stands = stands; rules = rules; old = old }
  where
    ns : List Node
    ns = (run es).nodes

    good : IsGood ns (run es).frames
    good = good_run es

    c : Current
    c = w.current

    d : Digest
    d = digest x.origin w.rest

    word : PeerRecord
    word = PeerRecord.OnAssoc m k q said

    empty_x : x.origin.start.records ≡ []
    empty_x = good.fresh (number_of x) x hx

    legal : IsGrown x.origin x.superior (w.entry ∷ w.rest)
    legal = legal_at x.origin x.superior w.before w.entry w.rest (subst (λ (h : List Entry). IsGrown x.origin x.superior h) w.is (good.legal (number_of x) x hx))

    s : Sender ns a (number_of x) word
    s = was_sent ns (run es).frames a (number_of x) word good.sent (good.taken (number_of x) x a word hx (subst (λ (h : List Entry). HasBrought h a word) (sym w.is) (taken_at w.before w.entry w.rest a word (ap brought is))))

    y : Node
    y = s.node

    number : number_of y ≡ a.node
    number = ap (λ (v : Addr). v.node) s.is

    hy : find_node ns (number_of y) ≡ Some y
    hy = ap (find_node ns) number ∙ s.found

    next : Taken d a m k q
    next = takes_next x.origin.who d a m k q said (subst (λ (v : Event). refusal x.origin.who d v ≡ None) is legal.0)

    live : link_with d.arcs (number_of y) ≡ Live m k next.sent q
    live = ap (link_with d.arcs) number ∙ next.live

    b : (v : Branch) × (find_branch c.branches a.node ≡ Some v)
    b = branch_found (find_branch c.branches a.node) waits

    found : find_branch c.branches (number_of y) ≡ Some b.0
    found = ap (find_branch c.branches) number ∙ b.1

    j : BranchKey
    j = (aaid_of c.key, b.0.id)

    stands : Marked (λ v. true) d.current (number_of y) j
    stands = record { current = c; branch = b.0; at = w.at; found = found; is = refl; key = refl }

    not_above : is_at x.superior (number_of y) ≡ false
    not_above = off (is_at x.superior (number_of y)) refl
      where
        never : {v : BranchKey} → None ≡ Some v → ⊥
        never i = cc (i)

        off : (v : Bool) → is_at x.superior (number_of y) ≡ v → is_at x.superior (number_of y) ≡ false
        off false i = i
        off true i =
            let key = marked_key (λ v. true) d (number_of y) j (late_law x.origin x.superior w.rest legal.3) stands in
            let paired = paired_law x.origin x.superior w.rest empty_x legal.3 in
            absurd (never {v = j} (sym (paired.upward (number_of y) m k i) ∙ paired.rows (number_of y) m k next.sent q live j key))

    under : is_at y.superior (number_of x) ≡ true
    under = below_it ns (run es).frames x y w.rest m k next.sent q s.to q said good legal.3 hy not_above live s.at s.sent

    g : Deeds
    g = deeds_of y.origin y.history

    rs : List LogRec
    rs = records y.origin y.history

    behind : Below x.origin x.superior (number_of y) g rs (w.entry ∷ w.rest)
    behind = below_at x.origin x.superior (number_of y) g rs w.before w.entry w.rest (subst (λ (h : List Entry). Below x.origin x.superior (number_of y) g rs h) w.is (below_run es x y hx hy under))

    rules : Rules x.origin x.superior (number_of y) g rs w.entry w.rest
    rules = record {
      empty = behind.empty;
      legal = behind.legal;
      once = behind.once;
      heeded = and_left (heeds_event g rs (number_of y) w.rest w.entry.event) (heeds g rs (number_of y) w.rest) behind.heeded;
      never = λ i rolls voted commits. behind.never i rolls voted (commit_more i.0 w.entry.rec (records x.origin w.rest) commits);
    }

    old : Accounts x.origin (number_of y) g rs w.rest
    old = accounts_of x.origin x.superior (number_of y) g rs w.rest (below_tail x.origin x.superior (number_of y) g rs w.entry w.rest behind)

-- a Done of the branch ends it in the commitment
pub record DoneMark (es : List Happening) (x : Node) (e : Entry) (h : List Entry) (c : Current) (a : Addr) (r : Report) (s : Speaker es x e h c a) : Type 0 where
  pub mark : MayMark x.origin.who e.event (prelude x.origin.who (digest x.origin h) e.event) may_end (number_of s.node) (aaid_of c.key, s.branch.id)
  pub event : mark.event ≡ TxEvent.Took (number_of s.node) (DialogueRecord.Done r)
  pub late : is_committing mark.current.phase ≡ true

pub done_mark : (es : List Happening) (x : Node) (e : Entry) (h : List Entry) (c : Current) (a : Addr) (m k : Mark) (q : ℕ) (r : Report) (s : Speaker es x e h c a) → e.event ≡ Event.Arrive a (PeerRecord.OnAssoc m k q (DialogueRecord.Done r))
    → (digest x.origin h).current ≡ Some c → is_committing c.phase ≡ true → DoneMark es x e h c a r s
done_mark es x e h c a m k q r s is at committing = record {
  mark = record {
    current = c;
    branch = s.branch;
    at = ap (λ (v : Event). (prelude x.origin.who d v).current) is ∙ at;
    found = s.found;
    key = refl;
    event = TxEvent.Took (number_of s.node) (DialogueRecord.Done r);
    arcs = d.arcs;
    asked = subst (λ (v : Event). IsAsked v c (TxEvent.Took (number_of s.node) (DialogueRecord.Done r))) (sym is) (ap (λ (n : ℕ). TxEvent.Took n (DialogueRecord.Done r)) s.number);
    sets = both_true (number_of s.node == number_of s.node) (is_committing c.phase) self committing;
  };
  event = refl;
  late = committing;
}
  where
    d : Digest
    d = digest x.origin h

    self : (number_of s.node == number_of s.node) ≡ true
    self = grind (arith, nat_tests)

-- ---- a node just below, where the tree is known at both

pub kin_branch : (es : List Happening) (t : Aaid) (x y : Node) → IsOf (run es) t x → is_known x.origin t x.history ≡ true → IsIn (run es) y → is_at y.superior (number_of x) ≡ true → is_known y.origin t y.history ≡ true → (b : BranchId) × IsBranchOf (run es) t b x y
kin_branch es t x y x_of known_x hy under known_y = (begin.id, branch)
  where
    ns : List Node
    ns = (run es).nodes

    good : IsGood ns (run es).frames
    good = good_run es

    hx : IsIn (run es) x
    hx = x_of.here

    legal_y : IsGrown y.origin y.superior y.history
    legal_y = good.legal (number_of y) y hy

    took : has_taken_begin t y.history ≡ true
    took = by (is_own y.origin.who t) refl
      where
        by : (v : Bool) → is_own y.origin.who t ≡ v → has_taken_begin t y.history ≡ true
        by true i = absurd (not_drawn ns (run es).frames x y t good (unique_run es) hx hy under known_x i)
        by false i = grind (arith, known_y, i)

    of : IsOf (run es) t y
    of = record { here = hy; of_tree = taken_member y.origin y.superior y.history t legal_y took }

    begin : TookBegin y.superior y.history t
    begin = took_begin y.origin y.superior y.history t legal_y took

    begun : PeerRecord
    begun = PeerRecord.OnAssoc begin.x begin.y begin.seq (DialogueRecord.Begin t begin.id begin.holder)

    from : begin.from ≡ addr_of x
    from =
        let sb : Sender ns begin.from (number_of y) begun =
        was_sent ns (run es).frames begin.from (number_of y) begun good.sent (good.taken (number_of y) y begin.from begun hy (took_has y.history begin.from begin.x begin.y begin.seq (DialogueRecord.Begin t begin.id begin.holder) begin.took)) in
        let up : is_at (Some begin.superior) (number_of x) ≡ true = ap (λ (v : Option Addr). is_at v (number_of x)) (sym begin.is) ∙ under in
        let node : begin.superior.node ≡ number_of x = grind (arith, nat_tests, up) in
        let one : begin.from.node ≡ number_of x = sym begin.at ∙ node in
        let same : sb.node ≡ x = some_same sb.node x (sym sb.found ∙ ap (find_node ns) one ∙ hx) in
        sym sb.is ∙ ap addr_of same

    branch : IsBranchOf (run es) t begin.id x y
    branch = record {
      superior = x_of;
      child = of;
      begun = ap (λ (v : Addr). has_begun t begin.id v y.history) (sym from) ∙ began_from y.history begin.from begin.x begin.y begin.seq t begin.id begin.holder begin.took;
    }
