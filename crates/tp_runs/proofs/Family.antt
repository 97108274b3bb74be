-- In every run, Commit goes up: a branch that logged Commit has a superior that did.
use Rattle.std.proofs.Common.{◌≡◌, ◌⊎◌, inl, inr, ℕ, true, refl, ap, sym, subst, ◌∙◌, arith, Option, Some, None, List, [], ◌∷◌, ◌++◌, ◌&&◌, ◌||◌, not, Bool, append_assoc}
use Rattle.std.proofs.lemmas.Bool.Decides.{nat_tests}
use Rattle.tp_names.specs.declared.identifiers.Mark.{Mark}
use Rattle.tp_names.specs.declared.identifiers.Aaid.{Aaid}
use Rattle.tp_names.specs.declared.identifiers.BranchId.{BranchId}
use Rattle.tp_names.specs.declared.identifiers.Addr.{Addr}
use Rattle.tp_records.specs.declared.dialogue.DialogueRecord.{DialogueRecord}
use Rattle.tp_records.specs.declared.peer.PeerRecord.{PeerRecord}
use Rattle.tp_model.specs.Parts.{Origin, Event, Entry}
use Rattle.tp_model.specs.History.{records}
use Rattle.tp_model.specs.Outcomes.{decided}
use Rattle.tp_model.specs.Questions.{is_at}
use Rattle.tp_model.specs.World.{Node, Frame, number_of, addr_of, find_node}
use Rattle.tp_model.specs.Happenings.{Happening, run}
use Rattle.tp_model.specs.Promises.{IsBranchOf, is_begin_of, has_begun}
use Rattle.tp_model.specs.Legal.{IsGrown}
use Rattle.tp_histories.specs.Histories.{HasSent}
use Rattle.tp_histories.specs.Worlds.{IsGood}
use Rattle.tp_histories.specs.Traces.{sent_on, history_at, accepted_on}
use Rattle.tp_steps.specs.Facts.{is_order, BranchKey, begins_by, last_from, each_under, is_ordered}
use Rattle.tp_histories.specs.Members.{is_begun_by, has_taken_begin, is_own}
use Rattle.tp_histories.proofs.worlds.Good.{good_run, Sender, was_sent}
use Rattle.tp_steps.proofs.lemmas.Equality.{or_case, and_left, and_right, addrs_equal}
use Rattle.tp_steps.proofs.lemmas.Words.{under_append}
use Rattle.tp_histories.proofs.worlds.TreeMembers.{own_untaken}
use Rattle.tp_histories.proofs.worlds.Unique.{enters, unique_run}
use Rattle.tp_histories.proofs.worlds.Prefix.{prefix_list}
use Rattle.tp_histories.proofs.pairs.PairedSteps.{paired_law}
use Rattle.tp_histories.proofs.pairs.Committed.{OrderTaken, Over_association, In_recovery, commit_taken, sent_decided}
use Rattle.tp_steps.proofs.lemmas.Options.{some_same}

-- ---- a Begin comes from the superior

pub record Begun (up : Option Addr) (t : Aaid) (a : Addr) (h : List Entry) : Type 0 where
  pub above : is_at up a.node ≡ true
  pub taken : has_taken_begin t h ≡ true

pub begin_is : (t : Aaid) (b : BranchId) (a : Addr) (e : Event) → is_begin_of t b a e ≡ true → is_begun_by t e ≡ true
begin_is t b a (Event.Arrive from (PeerRecord.OnAssoc x y s (DialogueRecord.Begin u c k))) h = grind (arith, h)
begin_is t b a e h = absurd (grind (arith, h))

begin_from : (t : Aaid) (b : BranchId) (a from : Addr) (x y : Mark) (s : ℕ) (u : Aaid) (c : BranchId) (k : _) (e : Event) → e ≡ Event.Arrive from (PeerRecord.OnAssoc x y s (DialogueRecord.Begin u c k)) → is_begin_of t b a e ≡ true → a ≡ from
begin_from t b a from x y s u c k e is h =
    let one : is_begin_of t b a (Event.Arrive from (PeerRecord.OnAssoc x y s (DialogueRecord.Begin u c k))) ≡ true = sym (ap (is_begin_of t b a) is) ∙ h in
    addrs_equal a from (grind (arith, one))

up_at : (up : Option Addr) (a : Addr) → up ≡ Some a → is_at up a.node ≡ true
up_at up a h = ap (λ (v : Option Addr). is_at v a.node) h ∙ grind (arith, nat_tests)

pub begun_up : (o : Origin) (up : Option Addr) (h : List Entry) (t : Aaid) (b : BranchId) (a : Addr) → IsGrown o up h → has_begun t b a h ≡ true → Begun up t a h
begun_up o up [] t b a legal k = absurd cc
begun_up o up (e ∷ h) t b a legal k = go (or_case (is_begin_of t b a e.event) (has_begun t b a h) k) (begun_up o up h t b a legal.3)
  where
    go : (is_begin_of t b a e.event ≡ true) ⊎ (has_begun t b a h ≡ true) → (has_begun t b a h ≡ true → Begun up t a h) → Begun up t a (e ∷ h)
    go (inl i) rest =
        let began = begin_is t b a e.event i in
        let n = enters o up h e.event t legal.3 legal.0 began in
        let same = begin_from t b a n.from n.x n.y n.seq t n.id n.holder e.event n.is i in
        let at : is_at up n.superior.node ≡ true = up_at up n.superior n.under in
        record { above = subst (λ (q : ℕ). is_at up q ≡ true) (n.at ∙ ap (λ (v : Addr). v.node) (sym same)) at; taken = rw began refl }
    go (inr i) rest = let r = rest i in record { above = r.above; taken = rw (r.taken) (grind arith) }

-- ---- the superior's half

-- a record stands among what it sent, under the last Begin before it
pub placed_under : (f : DialogueRecord → Bool) (g : Option BranchKey → Bool) (k : Option BranchKey) (r : DialogueRecord) (before rest more sent : List DialogueRecord) → sent ≡ (before ++ r ∷ rest) ++ more → last_from None before ≡ k → f r ≡ true
    → each_under f g None sent ≡ true → g k ≡ true
placed_under f g k r before rest more sent is last kind each =
    let split : sent ≡ before ++ (r ∷ (rest ++ more)) = is ∙ append_assoc before (r ∷ rest) more in
    let all : (each_under f g None before && each_under f g (last_from None before) (r ∷ (rest ++ more))) ≡ true =
    sym (under_append f g None before (r ∷ (rest ++ more))) ∙ sym (ap (each_under f g None) split) ∙ each in
    let tail = and_right (each_under f g None before) (each_under f g (last_from None before) (r ∷ (rest ++ more))) all in
    let here : ((not (f r) || g k) && each_under f g (begins_by k r) (rest ++ more)) ≡ true = sym (ap (λ (j : Option BranchKey). each_under f g j (r ∷ (rest ++ more))) last) ∙ tail in
    let one : (not (f r) || g k) ≡ true = and_left (not (f r) || g k) (each_under f g (begins_by k r) (rest ++ more)) here in
    rw kind at one

pub at_same : (up : Option Addr) (p q : ℕ) → is_at up p ≡ true → is_at up q ≡ true → p ≡ q
at_same None p q h i = absurd cc
at_same (Some a) p q h i = grind (arith, nat_tests, h, i)

pub history_is : (ns : List Node) (n : ℕ) (x : Node) → find_node ns n ≡ Some x → history_at ns n ≡ x.history
history_is ns n x h = rw (h, history_at) refl

pub commits_above : (ns : List Node) (fs : List Frame) (t : Aaid) (x y : Node) → IsGood ns fs → find_node ns (number_of x) ≡ Some x → find_node ns (number_of y) ≡ Some y → is_at y.superior (number_of x) ≡ true → (is_own y.origin.who t ≡ true → ⊥)
    → decided y.origin t y.history ≡ true → decided x.origin t x.history ≡ true
commits_above ns fs t x y good hx hy above foreign done = go (commit_taken y.origin y.superior y.history t (good.fresh (number_of y) y hy) legal_y done)
  where
    legal_y : IsGrown y.origin y.superior y.history
    legal_y = good.legal (number_of y) y hy

    legal_x : IsGrown x.origin x.superior x.history
    legal_x = good.legal (number_of x) x hx

    fresh_x : x.origin.start.records ≡ []
    fresh_x = good.fresh (number_of x) x hx

    go : ((t.owner ≡ y.origin.who.site) × (t.mark.node ≡ y.origin.who.node)) ⊎ OrderTaken y.superior y.history t → decided x.origin t x.history ≡ true
    go (inl own) = absurd (foreign (grind (arith, nat_tests, own)))
    go (inr (Over_association p m k c before rest at taken last)) =
        let same : p ≡ number_of x = at_same y.superior p (number_of x) at above in
        let there : find_node ns p ≡ Some x = ap (find_node ns) same ∙ hx in
        let pre = prefix_list ns fs good (number_of y) p m k in
        let sent : sent_on m k (number_of y) x.history ≡ (before ++ DialogueRecord.Commit ∷ rest) ++ pre.0 =
        ap (sent_on m k (number_of y)) (sym (history_is ns p x there)) ∙ pre.1
        ∙ ap (λ (h : List Entry). accepted_on m k p h ++ pre.0) (history_is ns (number_of y) y hy) ∙ ap (λ (rs : List DialogueRecord). rs ++ pre.0) taken in
        placed_under is_order (is_ordered (records x.origin x.history)) (Some (t, c)) DialogueRecord.Commit before rest pre.0 (sent_on m k (number_of y) x.history) sent last refl ((paired_law x.origin x.superior x.history fresh_x legal_x).orders (number_of y) m k)
    go (inr (In_recovery a r at orders took)) =
        let same : a.node ≡ number_of x = at_same y.superior a.node (number_of x) at above in
        let s : Sender ns a (number_of y) r = was_sent ns fs a (number_of y) r good.sent (good.taken (number_of y) y a r hy took) in
        let one : s.node ≡ x = some_same s.node x (sym s.found ∙ ap (find_node ns) same ∙ hx) in
        let sent : HasSent x.history s.to r = subst (λ (v : Node). HasSent v.history s.to r) one s.sent in
        sent_decided x.origin x.superior x.history t s.to r fresh_x legal_x orders sent

pub commits_up : (es : List Happening) (t : Aaid) (b : BranchId) (x y : Node) → IsBranchOf (run es) t b x y → decided y.origin t y.history ≡ true → decided x.origin t x.history ≡ true
commits_up es t b x y branch done = commits_above (run es).nodes (run es).frames t x y (good_run es) branch.superior.here branch.child.here begun.above foreign done
  where
    begun : Begun y.superior t (addr_of x) y.history
    begun = begun_up y.origin y.superior y.history t b (addr_of x) ((good_run es).legal (number_of y) y branch.child.here) branch.begun

    foreign : is_own y.origin.who t ≡ true → ⊥
    foreign mine = cc (begun.taken, own_untaken y.origin t y.history ((unique_run es).once (number_of y) y branch.child.here) mine)
