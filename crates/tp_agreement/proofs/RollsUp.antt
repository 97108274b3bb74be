-- In every run a ready branch rolls only with its superior; so leaving goes down, and Ready goes down.
use Rattle.std.proofs.Common.{◌≡◌, ◌⊎◌, inl, inr, ℕ, Bool, true, false, cond, refl, ap, sym, subst, ◌∙◌, arith, Option, Some, None, List, [], ◌∷◌, ◌++◌, ◌==◌}
use Rattle.std.proofs.lemmas.Bool.Decides.{nat_tests}
use Rattle.tp_names.specs.declared.identifiers.Aaid.{Aaid}
use Rattle.tp_names.specs.declared.identifiers.BranchId.{BranchId}
use Rattle.tp_names.specs.declared.identifiers.Addr.{Addr}
use Rattle.tp_names.specs.declared.outcome.Report.{Report}
use Rattle.tp_records.specs.declared.dialogue.DialogueRecord.{DialogueRecord}
use Rattle.tp_records.specs.declared.peer.PeerRecord.{PeerRecord}
use Rattle.tp_records.specs.declared.peer.RecState.{RecState}
use Rattle.tp_logrec.specs.declared.record.LogRec.{LogRec}
use Rattle.tp_model.specs.Parts.{Origin, Event, Entry}
use Rattle.tp_model.specs.Dialogues.{is_ready, is_committing}
use Rattle.tp_model.specs.Node.{phase_of}
use Rattle.tp_model.specs.Events.{action}
use Rattle.tp_model.specs.History.{digest, records, entry_of}
use Rattle.tp_model.specs.Outcomes.{is_now, rolled, decided}
use Rattle.tp_model.specs.Questions.{is_at}
use Rattle.tp_model.specs.World.{Node, Frame, number_of, addr_of, find_node, put_node}
use Rattle.tp_model.specs.Happenings.{Happening, frames_of, run}
use Rattle.tp_model.specs.Promises.{has_record, has_logged}
use Rattle.tp_model.specs.Promises.{is_ready_of_branch as is_ready_rec}
use Rattle.tp_model.specs.Legal.{IsGrown}
use Rattle.tp_steps.specs.Histories.{brought}
use Rattle.tp_histories.specs.Histories.{IsSentIn, HasSent, HasBrought}
use Rattle.tp_histories.specs.Worlds.{IsGood, grown_node, Comes, shown}
use Rattle.tp_steps.specs.Facts.{BranchKey, has_ready_of}
use Rattle.tp_histories.specs.Upward.{deeds_of}
use Rattle.tp_histories.specs.Members.{has_taken_begin, is_own, is_known, IsOnce, IsUnique}
use Rattle.tp_runs.specs.Heeded.{HeedsBranches}
use Rattle.tp_agreement.specs.Hanging.{ReadyDown, LeftDown, RollsUp}
use Rattle.tp_histories.proofs.worlds.Nodes.{find_put, find_append}
use Rattle.tp_steps.proofs.words.Leaves.{aaid_same}
use Rattle.tp_steps.proofs.branches.Rolls.{phase_at}
use Rattle.tp_steps.proofs.lemmas.Words.{commit_more}
use Rattle.tp_histories.proofs.worlds.TreeMembers.{own_untaken, sent_counts}
use Rattle.tp_histories.proofs.trees.Fated.{fated_law}
use Rattle.tp_runs.proofs.Left.{left_law}
use Rattle.tp_histories.proofs.worlds.Good.{good_run, event_good, Sender, was_sent, Step, law}
use Rattle.tp_histories.proofs.worlds.Unique.{took_has, unique_comes, unique_event}
use Rattle.tp_runs.proofs.Hanging.{began_from}
use Rattle.tp_runs.proofs.Family.{begun_up, at_same}
use Rattle.tp_histories.proofs.pairs.Committed.{sent_decided}
use Rattle.tp_runs.proofs.Heeded.{own_superior, heeds_comes, heeds_step}
use Rattle.tp_agreement.proofs.ReadyRolls.{ReadyRolls, By_rollback, By_unknown, RollbackTaken, UnknownTaken, RollsNow, rollback_taken, unknown_taken, ready_rolls, rollback_sent}
use Rattle.tp_agreement.proofs.LeftDown.{Below, left_sent}
use Rattle.tp_agreement.proofs.BelowRuns.{TookKey, current_took, ready_took, ready_logged, SentBegin, branch_above, branch_sent}
use Rattle.tp_agreement.proofs.ReadyDown.{bound_begins, voted_sent, took_taken, once_same}
use Rattle.tp_agreement.proofs.Bounds.{commit_bound}
use Rattle.tp_agreement.proofs.OwingLaw.{Asked, asked_key, unknown_answered, done_answered, AnsweredDone}
use Rattle.tp_agreement.proofs.Unknown.{SentTo, AsksBegun, KnowsOrders, unknown_rolled, done_never}
use Rattle.tp_steps.proofs.lemmas.Options.{some_same}

-- ---- what holds of the nodes of a world

-- a branch that was ready and rolled has a superior that rolled
abbrev pub AreRolledUp : List Node → Type 0
AreRolledUp ns =
    (x y : Node) → find_node ns (number_of x) ≡ Some x → find_node ns (number_of y) ≡ Some y → is_at y.superior (number_of x) ≡ true
    → (j : BranchKey) → has_ready_of j (records y.origin y.history) ≡ true → rolled y.origin j.0 y.history ≡ true → rolled x.origin j.0 x.history ≡ true

abbrev pub Commits : Node → Aaid → Type 0
Commits x t = decided x.origin t x.history ≡ true

abbrev pub Begins : Node → ℕ → Aaid → Type 0
Begins x n t = (b : BranchId) × SentTo x.history n t b

abbrev pub Orders : Node → Node → Type 0
Orders x y = KnowsOrders (number_of x) (Commits x) (Begins x (number_of y)) y.origin y.history

pub record IsTied (ns : List Node) : Type 0 where
  pub unique : IsUnique ns
  pub heeds : HeedsBranches ns
  pub asks : (n : ℕ) (x : Node) → find_node ns n ≡ Some x → AsksBegun x.history
  pub orders : (x y : Node) → find_node ns (number_of x) ≡ Some x → find_node ns (number_of y) ≡ Some y → is_at y.superior (number_of x) ≡ true → Orders x y
  pub rolls : AreRolledUp ns

-- so the superior takes from the branch only what it did
pub below_of : (ns : List Node) (fs : List Frame) (x y : Node) → IsGood ns fs → IsTied ns → find_node ns (number_of x) ≡ Some x → find_node ns (number_of y) ≡ Some y → is_at y.superior (number_of x) ≡ true
    → Below x.origin x.superior (number_of y) (deeds_of y.origin y.history) (records y.origin y.history) x.history
below_of ns fs x y good tied hx hy above = record {
  empty = good.fresh (number_of x) x hx;
  legal = good.legal (number_of x) x hx;
  once = tied.unique.once (number_of x) x hx;
  heeded = tied.heeds x y hx hy above;
  never = λ j r v c. (fated_law x.origin x.superior x.history j.0 (good.fresh (number_of x) x hx) (good.legal (number_of x) x hx) (tied.unique.once (number_of x) x hx)).never_both c (tied.rolls x y hx hy above j v r);
}

-- the superior sent the Begin that was taken
pub took_sent : (ns : List Node) (fs : List Frame) (x y : Node) (t : Aaid) (b : BranchId) → IsGood ns fs → find_node ns (number_of x) ≡ Some x → find_node ns (number_of y) ≡ Some y → is_at y.superior (number_of x) ≡ true → TookKey y.history t b
    → SentTo x.history (number_of y) t b
took_sent ns fs x y t b good hx hy above k =
    let r : PeerRecord = PeerRecord.OnAssoc k.x k.y k.seq (DialogueRecord.Begin t b k.holder) in
    let frame = good.taken (number_of y) y k.from r hy (took_has y.history k.from k.x k.y k.seq (DialogueRecord.Begin t b k.holder) k.took) in
    let s : Sender ns k.from (number_of y) r = was_sent ns fs k.from (number_of y) r good.sent frame in
    let up = (begun_up y.origin y.superior y.history t b k.from (good.legal (number_of y) y hy) (began_from y.history k.from k.x k.y k.seq t b k.holder k.took)).above in
    let at = at_same y.superior k.from.node (number_of x) up above in
    let one : s.node ≡ x = some_same s.node x (sym s.found ∙ ap (find_node ns) at ∙ hx) in
    record { to = s.to; x = k.x; y = k.y; seq = k.seq; holder = k.holder; at = s.at; sent = subst (λ (u : Node). HasSent u.history s.to r) one s.sent }

-- ---- a node comes

pub comes_pair : (ns : List Node) (fs : List Frame) (z u v : Node) → Comes ns z → IsGood ns fs → find_node (ns ++ z ∷ []) (number_of u) ≡ Some u → find_node (ns ++ z ∷ []) (number_of v) ≡ Some v → is_at v.superior (number_of u) ≡ true
    → (find_node ns (number_of u) ≡ Some u) × (find_node ns (number_of v) ≡ Some v) ⊎ (v.history ≡ [])
comes_pair ns fs z u v c good hu hv above = go (number_of z == number_of v) refl (number_of z == number_of u) refl
  where
    at : (n : ℕ) → find_node (ns ++ z ∷ []) n ≡ cond (number_of z == n) (Some z) (find_node ns n)
    at n = find_append ns z n c.none

    new : (n : ℕ) (y : Node) → (number_of z == n) ≡ true → find_node (ns ++ z ∷ []) n ≡ Some y → z ≡ y
    new n y b i = grind (arith, at n, b, i)

    was : (n : ℕ) (y : Node) → (number_of z == n) ≡ false → find_node (ns ++ z ∷ []) n ≡ Some y → find_node ns n ≡ Some y
    was n y b i = grind (arith, at n, b, i)

    there : find_node ns (number_of v) ≡ Some v → (number_of z == number_of u) ≡ true → (s : Option Addr) → v.superior ≡ s → ⊥
    there old m None i = cc (ap (λ (w : Option Addr). is_at w (number_of u)) i, above)
    there old m (Some s) i =
        let under : is_at (Some s) (number_of u) ≡ true = ap (λ (w : Option Addr). is_at w (number_of u)) (sym i) ∙ above in
        let same : s.node ≡ number_of z = grind (arith, nat_tests, under, m) in
        let a = good.above (number_of v) v s old i in
        cc (a.found, ap (find_node ns) same, c.none)

    go : (b : Bool) → (number_of z == number_of v) ≡ b → (d : Bool) → (number_of z == number_of u) ≡ d → (find_node ns (number_of u) ≡ Some u) × (find_node ns (number_of v) ≡ Some v) ⊎ (v.history ≡ [])
    go true i d m = inr (ap (λ (y : Node). y.history) (sym (new (number_of v) v i hv)) ∙ c.bare)
    go false i true m = absurd (there (was (number_of v) v i hv) m v.superior refl)
    go false i false m = inl (was (number_of u) u m hu, was (number_of v) v i hv)

pub tied_comes : (ns : List Node) (fs : List Frame) (z : Node) → Comes ns z → IsGood ns fs → IsTied ns → IsTied (ns ++ z ∷ [])
tied_comes ns fs z c good p = record {
  unique = unique_comes ns fs z c good p.unique;
  heeds = heeds_comes ns fs z c good p.heeds;
  asks = λ n x i. asks n x (number_of z == n) refl i;
  orders = λ x y hx hy above. elim (comes_pair ns fs z x y c good hx hy above) [
    | inl o ↦ p.orders x y o.0 o.1 above
    | inr bare ↦ subst (λ (h : List Entry). KnowsOrders (number_of x) (Commits x) (Begins x (number_of y)) y.origin h) (sym bare) tt
  ];
  rolls = λ x y hx hy above j r v. elim (comes_pair ns fs z x y c good hx hy above) [
    | inl o ↦ p.rolls x y o.0 o.1 above j r v
    | inr bare ↦ absurd (cc (ap (rolled y.origin j.0) bare, v))
  ];
}
  where
    at : (n : ℕ) → find_node (ns ++ z ∷ []) n ≡ cond (number_of z == n) (Some z) (find_node ns n)
    at n = find_append ns z n c.none

    new : (n : ℕ) (y : Node) → (number_of z == n) ≡ true → find_node (ns ++ z ∷ []) n ≡ Some y → z ≡ y
    new n y b i = grind (arith, at n, b, i)

    was : (n : ℕ) (y : Node) → (number_of z == n) ≡ false → find_node (ns ++ z ∷ []) n ≡ Some y → find_node ns n ≡ Some y
    was n y b i = grind (arith, at n, b, i)

    asks : (n : ℕ) (x : Node) (b : Bool) → (number_of z == n) ≡ b → find_node (ns ++ z ∷ []) n ≡ Some x → AsksBegun x.history
    asks n x true b i = subst (λ (h : List Entry). AsksBegun h) (sym (ap (λ (y : Node). y.history) (sym (new n x b i)) ∙ c.bare)) tt
    asks n x false b i = p.asks n x (was n x b i)

-- ---- an event

-- of two nodes of which one stands below the other, at most one has the event
pub data Grew (ns : List Node) (z y u v : Node) : Type 0 where
  Neither : find_node ns (number_of u) ≡ Some u → find_node ns (number_of v) ≡ Some v → Grew ns z y u v
  The_upper : y ≡ u → find_node ns (number_of v) ≡ Some v → is_at v.superior (number_of z) ≡ true → Grew ns z y u v
  The_lower : y ≡ v → find_node ns (number_of u) ≡ Some u → is_at z.superior (number_of u) ≡ true → Grew ns z y u v

pub grew : (ns : List Node) (fs : List Frame) (z : Node) (e : Event) (u v : Node) → Step ns fs z e → find_node (put_node ns (grown_node z e)) (number_of u) ≡ Some u → find_node (put_node ns (grown_node z e)) (number_of v) ≡ Some v → is_at v.superior (number_of u) ≡ true
    → Grew ns z (grown_node z e) u v
grew ns fs z e u v st hu hv above = go (number_of z == number_of u) refl (number_of z == number_of v) refl
  where
    y : Node
    y = grown_node z e

    at : (n : ℕ) → find_node (put_node ns y) n ≡ cond (number_of z == n) (Some y) (find_node ns n)
    at n = find_put ns y z n st.accepts.here

    new : (n : ℕ) (w : Node) → (number_of z == n) ≡ true → find_node (put_node ns y) n ≡ Some w → y ≡ w
    new n w b i = grind (arith, at n, b, i)

    was : (n : ℕ) (w : Node) → (number_of z == n) ≡ false → find_node (put_node ns y) n ≡ Some w → find_node ns n ≡ Some w
    was n w b i = grind (arith, at n, b, i)

    go : (b : Bool) → (number_of z == number_of u) ≡ b → (d : Bool) → (number_of z == number_of v) ≡ d → Grew ns z y u v
    go true i true m =
        let su = new (number_of u) u i hu in
        let sv = new (number_of v) v m hv in
        let one : is_at y.superior (number_of u) ≡ true = ap (λ (w : Node). is_at w.superior (number_of u)) sv ∙ above in
        let own : is_at z.superior (number_of z) ≡ true = ap (λ (w : Node). is_at z.superior (number_of w)) su ∙ one in
        absurd (own_superior ns fs z st.good st.accepts.here own)
    go true i false m = let su = new (number_of u) u i hu in The_upper su (was (number_of v) v m hv) (ap (λ (w : Node). is_at v.superior (number_of w)) su ∙ above)
    go false i true m = let sv = new (number_of v) v m hv in The_lower sv (was (number_of u) u i hu) (ap (λ (w : Node). is_at w.superior (number_of u)) sv ∙ above)
    go false i false m = Neither (was (number_of u) u i hu) (was (number_of v) v m hv)

pub legal_now : (ns : List Node) (fs : List Frame) (z : Node) (e : Event) → Step ns fs z e → IsGrown z.origin z.superior (entry_of z.origin z.history e ∷ z.history)
legal_now ns fs z e st = (st.accepts.ok, refl, st.accepts.under, st.good.legal (number_of z) z st.accepts.here)

pub once_now : (ns : List Node) (fs : List Frame) (z : Node) (e : Event) → Step ns fs z e → IsUnique ns → IsOnce z.origin (entry_of z.origin z.history e ∷ z.history)
once_now ns fs z e st unique = (unique_event ns fs z e st unique).once (number_of z) (grown_node z e) (here (find_put ns (grown_node z e) z (number_of z) st.accepts.here))
  where
    here : find_node (put_node ns (grown_node z e)) (number_of z) ≡ cond (number_of z == number_of z) (Some (grown_node z e)) (find_node ns (number_of z)) → find_node (put_node ns (grown_node z e)) (number_of z) ≡ Some (grown_node z e)
    here h = grind (arith, nat_tests, h)

-- who asks was sent the Begin of its branch
asks_now : (ns : List Node) (fs : List Frame) (z : Node) (e : Event) → Step ns fs z e → (a : Addr) (t : Aaid) (b : BranchId) → e ≡ Event.Arrive a (PeerRecord.RecReady t b) → SentTo z.history a.node t b
asks_now ns fs z e st a t b is =
    let r : PeerRecord = PeerRecord.RecReady t b in
    let s : Sender ns a (number_of z) r = was_sent ns fs a (number_of z) r st.good.sent (st.accepts.came a r (ap brought is)) in
    let node : number_of s.node ≡ a.node = ap (λ (c : Addr). c.node) s.is in
    let here : find_node ns (number_of s.node) ≡ Some s.node = ap (find_node ns) node ∙ s.found in
    let k : Asked s.node.superior s.node.history s.to t b = asked_key s.node.origin s.node.superior s.node.history s.to t b (st.good.fresh a.node s.node s.found) (st.good.legal a.node s.node s.found) s.sent in
    let above : is_at s.node.superior (number_of z) ≡ true = subst (λ (n : ℕ). is_at s.node.superior n ≡ true) s.at k.above in
    subst (λ (n : ℕ). SentTo z.history n t b) node (took_sent ns fs z s.node t b st.good st.accepts.here here above k.took)

knows_more : (n : ℕ) (C D S T : Aaid → Type 0) (o : Origin) (h : List Entry) → ((t : Aaid) → C t → D t) → ((t : Aaid) → C t → T t → S t) → KnowsOrders n C S o h → KnowsOrders n D T o h
knows_more n C D S T o [] more less k = tt
knows_more n C D S T o (e ∷ h) more less k = (λ a t b is at. let w = k.0 a t b is at in (more t w.0, λ s. w.1 (less t w.0 s)), knows_more n C D S T o h more less k.1)

-- a tree that committed begins no more
pub begun_before : (ns : List Node) (fs : List Frame) (z : Node) (e : Event) (n : ℕ) (t : Aaid) → Step ns fs z e → IsUnique ns → Commits z t → Begins (grown_node z e) n t → Begins z n t
begun_before ns fs z e n t st unique c s = (s.0, by s.1 s.1.sent)
  where
    by : (k : SentTo (grown_node z e).history n t s.0) → IsSentIn (action z.origin.who (digest z.origin z.history) e).outs k.to (PeerRecord.OnAssoc k.x k.y k.seq (DialogueRecord.Begin t s.0 k.holder)) ⊎ HasSent z.history k.to (PeerRecord.OnAssoc k.x k.y k.seq (DialogueRecord.Begin t s.0 k.holder))
        → SentTo z.history n t s.0
    by k (inr i) = record { to = k.to; x = k.x; y = k.y; seq = k.seq; holder = k.holder; at = k.at; sent = i }
    by k (inl i) =
        absurd (bound_begins z.origin z.superior (entry_of z.origin z.history e) z.history k.to t (st.good.fresh (number_of z) z st.accepts.here) (legal_now ns fs z e st) (once_now ns fs z e st unique) (inr (commit_bound t (records z.origin z.history) c))
        (sent_counts t k.to.node (action z.origin.who (digest z.origin z.history) e).outs k.to k.x k.y k.seq s.0 k.holder refl i))

pub known_taken : (o : Origin) (t : Aaid) (h : List Entry) → has_taken_begin t h ≡ true → is_known o t h ≡ true
known_taken o t h i = rw i (grind arith)

-- an order comes where the tree is known, if it was begun there
orders_now : (ns : List Node) (fs : List Frame) (z : Node) (e : Event) (u : Node) → Step ns fs z e → IsTied ns → find_node ns (number_of u) ≡ Some u → is_at z.superior (number_of u) ≡ true
    → (a : Addr) (t : Aaid) (b : BranchId) → e ≡ Event.Arrive a (PeerRecord.RecCommit t b) → a.node ≡ number_of u → Commits u t × (Begins u (number_of z) t → is_known z.origin t z.history ≡ true)
orders_now ns fs z e u st p hu above a t b is at = (done, λ s. known s.0 s.1)
  where
    r : PeerRecord
    r = PeerRecord.RecCommit t b

    s : Sender ns a (number_of z) r
    s = was_sent ns fs a (number_of z) r st.good.sent (st.accepts.came a r (ap brought is))

    one : s.node ≡ u
    one = some_same s.node u (sym s.found ∙ ap (find_node ns) at ∙ hu)

    done : Commits u t
    done = sent_decided u.origin u.superior u.history t s.to r (st.good.fresh (number_of u) u hu) (st.good.legal (number_of u) u hu) (aaid_same t) (subst (λ (w : Node). HasSent w.history s.to r) one s.sent)

    known : (c : BranchId) → SentTo u.history (number_of z) t c → is_known z.origin t z.history ≡ true
    known c k =
        elim (voted_sent u.origin u.superior (number_of z) (deeds_of z.origin z.history) (records z.origin z.history) u.history k.to k.x k.y k.seq t c k.holder (below_of ns fs u z st.good p hu st.accepts.here above) k.at (inr (commit_bound t (records u.origin u.history) done)) k.sent) [
          | inl gone ↦ (left_law z.origin z.superior z.history t (st.good.fresh (number_of z) z st.accepts.here) (st.good.legal (number_of z) z st.accepts.here) (p.unique.once (number_of z) z st.accepts.here) gone).known
          | inr v ↦
              (let w = ready_took z.origin z.superior z.history (t, v.0) (st.good.fresh (number_of z) z st.accepts.here) (st.good.legal (number_of z) z st.accepts.here) v.1 in
              known_taken z.origin t z.history (took_taken t v.0 w.from w.x w.y w.seq w.holder z.history w.took))
        ]

foreign : (o : Origin) (t : Aaid) (h : List Entry) → IsOnce o h → has_taken_begin t h ≡ true → (b : Bool) → is_own o.who t ≡ b → b ≡ false
foreign o t h once taken false i = refl
foreign o t h once taken true i = absurd (cc (own_untaken o t h once i, taken))

no_two : (v : _) → is_ready v ≡ true → is_committing v ≡ true → ⊥
no_two v h i = absurd (grind (arith, h, i))

-- the superior whose Rollback was taken rolled
pub rollback_above : (ns : List Node) (fs : List Frame) (z : Node) (e : Event) (told : Bool) (u : Node) (t : Aaid) → Step ns fs z e → find_node ns (number_of u) ≡ Some u → is_at z.superior (number_of u) ≡ true
    → RollbackTaken z.superior (entry_of z.origin z.history e ∷ z.history) t → rolled u.origin t u.history ≡ true
rollback_above ns fs z e told u t st hu above r =
    rollback_sent (put_node ns (grown_node z e)) (fs ++ shown told (frames_of (addr_of z) (entry_of z.origin z.history e).outs)) u (grown_node z e) t (event_good ns fs z e st.accepts told st.good) (other (number_of z == number_of u) refl) here above r
  where
    at : (n : ℕ) → find_node (put_node ns (grown_node z e)) n ≡ cond (number_of z == n) (Some (grown_node z e)) (find_node ns n)
    at n = find_put ns (grown_node z e) z n st.accepts.here

    here : find_node (put_node ns (grown_node z e)) (number_of z) ≡ Some (grown_node z e)
    here = grind (arith, nat_tests, at (number_of z))

    other : (b : Bool) → (number_of z == number_of u) ≡ b → find_node (put_node ns (grown_node z e)) (number_of u) ≡ Some u
    other false i = grind (arith, at (number_of u), i, hu)
    other true i =
        let same : number_of u ≡ number_of z = grind (arith, nat_tests, i) in
        absurd (own_superior ns fs z st.good st.accepts.here (subst (λ (n : ℕ). is_at z.superior n ≡ true) same above))

-- what is ready rolls, and so did the superior
pub ready_above : (ns : List Node) (fs : List Frame) (z : Node) (e : Event) (told : Bool) (u : Node) (t : Aaid) → Step ns fs z e → IsTied ns → find_node ns (number_of u) ≡ Some u → is_at z.superior (number_of u) ≡ true
    → RollsNow z.origin (entry_of z.origin z.history e) z.history t → rolled u.origin t u.history ≡ true
ready_above ns fs z e told u t st p hu above now = by now.by
  where
    o : Origin
    o = z.origin

    up : Option Addr
    up = z.superior

    h : List Entry
    h = z.history

    entry : Entry
    entry = entry_of z.origin z.history e

    hz : find_node ns (number_of z) ≡ Some z
    hz = st.accepts.here

    empty : o.start.records ≡ []
    empty = st.good.fresh (number_of z) z hz

    legal : IsGrown o up (entry ∷ h)
    legal = legal_now ns fs z e st

    once : IsOnce o (entry ∷ h)
    once = once_now ns fs z e st p.unique

    unknown : UnknownTaken up e now.current t → rolled u.origin t u.history ≡ true
    unknown k =
        unknown_rolled u.origin u.superior (number_of z) (deeds_of o h) (records o h) u.history s.to t k.id (below_of ns fs u z st.good p hu hz above) (p.asks (number_of u) u hu) s.at
        (λ l. (left_law o up h t empty legal.3 once.1 l).gone is_current) undone untold
        (unknown_answered u.origin u.superior u.history s.to t k.id (st.good.legal (number_of u) u hu) (subst (λ (w : Node). HasSent w.history s.to r) one s.sent))
      where
        r : PeerRecord
        r = PeerRecord.RecReply t k.id RecState.Unknown

        s : Sender ns k.from (number_of z) r
        s = was_sent ns fs k.from (number_of z) r st.good.sent (st.accepts.came k.from r (ap brought k.is))

        one : s.node ≡ u
        one = some_same s.node u (sym s.found ∙ ap (find_node ns) (at_same up k.from.node (number_of u) k.at above) ∙ hu)

        is_current : is_now t (digest o h).current ≡ true
        is_current = ap (is_now t) now.now ∙ now.tree

        undone : decided o t h ≡ true → ⊥
        undone d = no_two (phase_of (digest o h)) (ap is_ready (phase_at (digest o h) now.current now.now) ∙ now.ready) ((fated_law o up h t empty legal.3 once.1).commit_now d is_current)

        took : TookKey h t k.id
        took = current_took o up h now.current t k.id k.from empty legal.3 now.now k.key

        ids : (v : BranchId) → TookKey h t v → v ≡ k.id
        ids v w = once_same o h t k.id v took.from w.from w.x w.y w.seq w.holder once.1 (began_from h took.from took.x took.y took.seq t k.id took.holder took.took) w.took

        untold : (a : Addr) (x : Report) → a.node ≡ number_of z → HasBrought u.history a (PeerRecord.RecReply t k.id (RecState.Done x)) → ⊥
        untold a x at taken =
            let w : PeerRecord = PeerRecord.RecReply t k.id (RecState.Done x) in
            let d : Sender ns a (number_of u) w = was_sent ns fs a (number_of u) w st.good.sent (st.good.taken (number_of u) u a w hu taken) in
            let mine : d.node ≡ z = some_same d.node z (sym d.found ∙ ap (find_node ns) at ∙ hz) in
            answered d.to x d.at (done_answered o up h d.to t k.id x empty legal.3 (subst (λ (v : Node). HasSent v.history d.to w) mine d.sent))
          where
            answered : (to : Addr) (x : Report) → to.node ≡ number_of u → (decided o t h ≡ true) ⊎ AnsweredDone o to t k.id x h → ⊥
            answered to x at (inl d) = undone d
            answered to x at (inr a) =
                done_never (number_of u) (Commits u) (Begins u (number_of z)) o up h to t k.id x empty legal.3 once.1 (p.orders u z hu hz above) at (k.id, took_sent ns fs u z t k.id st.good hu hz above took)
                (foreign o t h once.1 (took_taken t k.id took.from took.x took.y took.seq took.holder h took.took) (is_own o.who t) refl) ids is_current a

    by : ReadyRolls now.current e → rolled u.origin t u.history ≡ true
    by (By_rollback from x y q is under) = rollback_above ns fs z e told u t st hu above (rollback_taken o up entry h t now.current empty legal now.now now.tree now.current.key refl from x y q is under)
    by (By_unknown from v w is same) = unknown (unknown_taken o up entry h t now.current empty legal now.now now.tree now.current.key refl from v w is same)

-- the branch rolls
rolls_now : (ns : List Node) (fs : List Frame) (z : Node) (e : Event) (told : Bool) (u : Node) (j : BranchKey) → Step ns fs z e → IsTied ns → find_node ns (number_of u) ≡ Some u → is_at z.superior (number_of u) ≡ true
    → has_ready_of j (records z.origin (entry_of z.origin z.history e ∷ z.history)) ≡ true → rolled z.origin j.0 (entry_of z.origin z.history e ∷ z.history) ≡ true → rolled u.origin j.0 u.history ≡ true
rolls_now ns fs z e told u j st p hu above ready roll =
    elim (ready_rolls z.origin z.superior (entry_of z.origin z.history e) z.history j (st.good.fresh (number_of z) z st.accepts.here) (legal_now ns fs z e st) (once_now ns fs z e st p.unique) ready roll) [
      | inl old ↦ p.rolls u z hu st.accepts.here above j old.0 old.1
      | inr now ↦ ready_above ns fs z e told u j.0 st p hu above now
    ]

pub tied_event : (ns : List Node) (fs : List Frame) (z : Node) (e : Event) → Step ns fs z e → (told : Bool) → IsTied ns → IsTied (put_node ns (grown_node z e))
tied_event ns fs z e st told p = record {
  unique = unique_event ns fs z e st p.unique;
  heeds = heeds_step ns fs z e st p.unique p.heeds;
  asks = λ n x i. asks n x (number_of z == n) refl i;
  orders = λ x v hx hv above. orders x v (grew ns fs z e x v st hx hv above) above;
  rolls = λ x v hx hv above j r w. rolls x v (grew ns fs z e x v st hx hv above) above j r w;
}
  where
    y : Node
    y = grown_node z e

    at : (n : ℕ) → find_node (put_node ns y) n ≡ cond (number_of z == n) (Some y) (find_node ns n)
    at n = find_put ns y z n st.accepts.here

    new : (n : ℕ) (w : Node) → (number_of z == n) ≡ true → find_node (put_node ns y) n ≡ Some w → y ≡ w
    new n w b i = grind (arith, at n, b, i)

    was : (n : ℕ) (w : Node) → (number_of z == n) ≡ false → find_node (put_node ns y) n ≡ Some w → find_node ns n ≡ Some w
    was n w b i = grind (arith, at n, b, i)

    asks : (n : ℕ) (x : Node) (b : Bool) → (number_of z == n) ≡ b → find_node (put_node ns y) n ≡ Some x → AsksBegun x.history
    asks n x true b i = subst (λ (w : Node). AsksBegun w.history) (new n x b i) (asks_now ns fs z e st, p.asks (number_of z) z st.accepts.here)
    asks n x false b i = p.asks n x (was n x b i)

    orders : (x v : Node) → Grew ns z y x v → is_at v.superior (number_of x) ≡ true → Orders x v
    orders x v (Neither hx hv) above = p.orders x v hx hv above
    orders x v (The_upper same hv below) above =
        subst (λ (w : Node). Orders w v) same
        (knows_more (number_of z) (Commits z) (Commits y) (Begins z (number_of v)) (Begins y (number_of v)) v.origin v.history
        (λ t c. commit_more t (entry_of z.origin z.history e).rec (records z.origin z.history) c) (λ t c s. begun_before ns fs z e (number_of v) t st p.unique c s) (p.orders z v st.accepts.here hv below))
    orders x v (The_lower same hx below) above = subst (λ (w : Node). Orders x w) same (orders_now ns fs z e x st p hx below, p.orders x z hx st.accepts.here below)

    more : (t : Aaid) → rolled z.origin t z.history ≡ true → rolled y.origin t y.history ≡ true
    more t r = rw r (grind arith)

    rolls : (x v : Node) → Grew ns z y x v → is_at v.superior (number_of x) ≡ true → (j : BranchKey) → has_ready_of j (records v.origin v.history) ≡ true → rolled v.origin j.0 v.history ≡ true → rolled x.origin j.0 x.history ≡ true
    rolls x v (Neither hx hv) above j r w = p.rolls x v hx hv above j r w
    rolls x v (The_upper same hv below) above j r w = subst (λ (n : Node). rolled n.origin j.0 n.history ≡ true) same (more j.0 (p.rolls z v st.accepts.here hv below j r w))
    rolls x v (The_lower same hx below) above j r w =
        rolls_now ns fs z e told x j st p hx below (subst (λ (n : Node). has_ready_of j (records n.origin n.history) ≡ true) (sym same) r) (subst (λ (n : Node). rolled n.origin j.0 n.history ≡ true) (sym same) w)

-- ---- every run

pub tied_run : (es : List Happening) → IsTied (run es).nodes
tied_run es = law (λ ns fs. IsTied ns) (record {
  start = record {
    unique = record { once = λ n x i. absurd (cc (i)); drawn = λ n x t i k. absurd (cc (i)) };
    heeds = λ x y hx hy under. absurd (cc (hx));
    asks = λ n x i. absurd (cc (i));
    orders = λ x y hx hy above. absurd (cc (hx));
    rolls = λ x y hx hy above j r v. absurd (cc (hx));
  };
  comes = λ ns fs x c g p. tied_comes ns fs x c g p;
  event = λ ns fs x e st b p. tied_event ns fs x e st b p;
  mark = λ ns fs k p. p;
}) es

key_ready : (t : Aaid) (b : BranchId) (rs : List LogRec) → has_record (is_ready_rec t b) rs ≡ true → has_ready_of (t, b) rs ≡ true
key_ready t b [] h = absurd (cc (h))
key_ready t b (LogRec.Ready n k s cs ∷ rs) h = go k.branch refl (key_ready t b rs)
  where
    go : (i : Option BranchId) → k.branch ≡ i → (has_record (is_ready_rec t b) rs ≡ true → has_ready_of (t, b) rs ≡ true) → has_ready_of (t, b) (LogRec.Ready n k s cs ∷ rs) ≡ true
    go None m rest = let r = rest (grind (arith, h, m)) in rw r (grind arith)
    go (Some c) m rest = grind (arith, h, m, rest)
key_ready t b (LogRec.Commit n k s cs ∷ rs) h = key_ready t b rs h
key_ready t b (LogRec.Boot n ∷ rs) h = key_ready t b rs h
key_ready t b (LogRec.Heuristic n k u ∷ rs) h = key_ready t b rs h
key_ready t b (LogRec.Damage n k s u r cs ∷ rs) h = key_ready t b rs h
key_ready t b (LogRec.End n k u ∷ rs) h = key_ready t b rs h

-- a ready branch rolls only with its superior
pub rolls_up : (es : List Happening) → RollsUp (run es)
rolls_up es t b x y branch voted roll = (tied_run es).rolls x y branch.superior.here branch.child.here (branch_above es t b x y branch) (t, b) (key_ready t b (records y.origin y.history) voted) roll

pub below_run : (es : List Happening) (x y : Node) → find_node (run es).nodes (number_of x) ≡ Some x → find_node (run es).nodes (number_of y) ≡ Some y → is_at y.superior (number_of x) ≡ true
    → Below x.origin x.superior (number_of y) (deeds_of y.origin y.history) (records y.origin y.history) x.history
below_run es x y hx hy above = below_of (run es).nodes (run es).frames x y (good_run es) (tied_run es) hx hy above

-- leaving goes down
pub left_down : (es : List Happening) → LeftDown (run es)
left_down es t b x y branch l =
    let s = branch_sent es t b x y branch in
    left_sent x.origin x.superior (number_of y) (deeds_of y.origin y.history) (records y.origin y.history) x.history s.to s.x_mark s.y_mark s.seq t b s.holder
    (below_run es x y branch.superior.here branch.child.here (branch_above es t b x y branch)) s.at s.sent l

-- Ready goes down
pub ready_down : (es : List Happening) → ReadyDown (run es)
ready_down es t b x y branch bound = elim (voted_sent x.origin x.superior (number_of y) (deeds_of y.origin y.history) (records y.origin y.history) x.history s.to s.x_mark s.y_mark s.seq t b s.holder below s.at (inr bound) s.sent) [
  | inl gone ↦ inl gone
  | inr r ↦
      (let k = ready_took y.origin y.superior y.history (t, r.0) (good.fresh (number_of y) y branch.child.here) (good.legal (number_of y) y branch.child.here) r.1 in
      let same = once_same y.origin y.history t b r.0 _ k.from k.x k.y k.seq k.holder ((tied_run es).unique.once (number_of y) y branch.child.here) branch.begun k.took in
      inr (subst (λ (id : BranchId). has_logged (is_ready_rec t id) y ≡ true) same (ready_logged (t, r.0) (records y.origin y.history) r.1)))
]
  where
    good : IsGood (run es).nodes (run es).frames
    good = good_run es

    s : SentBegin x y t b
    s = branch_sent es t b x y branch

    below : Below x.origin x.superior (number_of y) (deeds_of y.origin y.history) (records y.origin y.history) x.history
    below = below_run es x y branch.superior.here branch.child.here (branch_above es t b x y branch)
