-- In every run, a branch whose Done with no report came as a reply to a superior that commits has ended its commitment clear, or left.
use Rattle.std.proofs.Common.{◌≡◌, ◌⊎◌, inl, inr, ℕ, Bool, true, false, cond, refl, ap, sym, subst, ◌∙◌, arith, Some, List, [], ◌∷◌, ◌++◌, ◌==◌}
use Rattle.std.proofs.lemmas.Bool.Decides.{nat_tests}
use Rattle.tp_names.specs.declared.identifiers.Aaid.{Aaid}
use Rattle.tp_names.specs.declared.identifiers.BranchId.{BranchId}
use Rattle.tp_names.specs.declared.identifiers.Addr.{Addr}
use Rattle.tp_names.specs.declared.outcome.Report.{Report}
use Rattle.tp_names.specs.Reports.{is_report_none}
use Rattle.tp_records.specs.declared.peer.PeerRecord.{PeerRecord}
use Rattle.tp_records.specs.declared.peer.RecState.{RecState}
use Rattle.tp_model.specs.Parts.{Origin, Event, Entry}
use Rattle.tp_model.specs.Dialogues.{is_committing}
use Rattle.tp_model.specs.Node.{phase_of}
use Rattle.tp_model.specs.History.{digest, records, entry_of}
use Rattle.tp_model.specs.Outcomes.{is_now, decided, has_left}
use Rattle.tp_model.specs.Questions.{is_at}
use Rattle.tp_model.specs.World.{Node, Frame, number_of, find_node, put_node}
use Rattle.tp_model.specs.Happenings.{Happening, run}
use Rattle.tp_model.specs.Legal.{IsGrown}
use Rattle.tp_steps.specs.Histories.{brought}
use Rattle.tp_histories.specs.Histories.{HasSent, HasBrought}
use Rattle.tp_histories.specs.Worlds.{IsGood, grown_node, Comes}
use Rattle.tp_histories.specs.Upward.{deeds_of}
use Rattle.tp_histories.specs.Members.{has_taken_begin, is_own, is_known, IsOnce}
use Rattle.tp_reports.specs.Clearing.{has_cleared}
use Rattle.tp_histories.proofs.worlds.Nodes.{find_append}
use Rattle.tp_histories.proofs.worlds.TreeMembers.{sent_known}
use Rattle.tp_histories.proofs.worlds.Unique.{TookBegin, took_begin}
use Rattle.tp_histories.proofs.trees.Fated.{fated_law}
use Rattle.tp_histories.proofs.worlds.Good.{Sender, was_sent, Step, law}
use Rattle.tp_runs.proofs.Family.{at_same}
use Rattle.tp_agreement.proofs.ReadyDown.{voted_sent}
use Rattle.tp_agreement.proofs.Bounds.{commit_bound}
use Rattle.tp_agreement.proofs.OwingLaw.{done_answered}
use Rattle.tp_agreement.proofs.Unknown.{SentTo}
use Rattle.tp_agreement.proofs.RollsUp.{Commits, Begins, IsTied, below_of, took_sent, Grew, Neither, The_upper, The_lower, grew, begun_before, tied_run, tied_comes, tied_event}
use Rattle.tp_reports.proofs.ClearedLaw.{cleared_more}
use Rattle.tp_reports.proofs.ClearedFate.{KeyIs, key_tail}
use Rattle.tp_reports.proofs.ClearedReplies.{Answered, By_rolling, By_leaving, By_clearing, By_forgetting, answered_fate, done_said, KnowsDones, forgotten_now, done_known}
use Rattle.tp_steps.proofs.lemmas.Options.{some_same}

-- ---- what a node took as replies

-- of each Done with no report that came from the node n, of a branch that had been begun there, while its tree committed
abbrev pub HearsClear : ℕ → (Aaid → BranchId → Type 0) → Origin → List Entry → Type 0
HearsClear n K o [] = Unit {0}
HearsClear n K o (e ∷ h) =
    ((a : Addr) (t : Aaid) (b : BranchId) → e.event ≡ Event.Arrive a (PeerRecord.RecReply t b (RecState.Done Report.None)) → a.node ≡ n → is_now t (digest o h).current ≡ true → is_committing (phase_of (digest o h)) ≡ true → SentTo (e ∷ h) n t b → K t b)
    × HearsClear n K o h

hears_more : (n : ℕ) (K L : Aaid → BranchId → Type 0) (o : Origin) (h : List Entry) → ((t : Aaid) (b : BranchId) → K t b → L t b) → HearsClear n K o h → HearsClear n L o h
hears_more n K L o [] more k = tt
hears_more n K L o (e ∷ h) more k = (λ a t b is at now committing begun. more t b (k.0 a t b is at now committing begun), hears_more n K L o h more k.1)

-- a node of which nothing was taken
hears_none : (n : ℕ) (K : Aaid → BranchId → Type 0) (o : Origin) (h : List Entry) → ((a : Addr) (r : PeerRecord) → HasBrought h a r → a.node ≡ n → ⊥) → HearsClear n K o h
hears_none n K o [] none = tt
hears_none n K o (e ∷ h) none = (λ a t b is at now committing begun. absurd (none a (PeerRecord.RecReply t b (RecState.Done Report.None)) (inl (ap brought is)) at), hears_none n K o h (λ a r k at. none a r (inr k) at))

dones_none : (n : ℕ) (S : Aaid → Type 0) (o : Origin) (h : List Entry) → ((a : Addr) (r : PeerRecord) → HasBrought h a r → a.node ≡ n → ⊥) → KnowsDones n S o h
dones_none n S o [] none = tt
dones_none n S o (e ∷ h) none = (λ a t b r is at some s. absurd (none a (PeerRecord.RecReply t b (RecState.Done r)) (inl (ap brought is)) at), dones_none n S o h (λ a r k at. none a r (inr k) at))

-- ---- what holds of the nodes of a world

abbrev pub Foreign : Node → Aaid → Type 0
Foreign y t = is_own y.origin.who t ≡ false

abbrev pub Clears : Node → Aaid → BranchId → Type 0
Clears y t b = KeyIs y.origin y.history t b → (has_cleared t (records y.origin y.history) ≡ true) ⊎ (has_left y.origin t y.history ≡ true)

abbrev Dones : Node → Node → Type 0
Dones x y = KnowsDones (number_of y) (Foreign y) x.origin x.history

abbrev Hears : Node → Node → Type 0
Hears x y = HearsClear (number_of y) (Clears y) x.origin x.history

record AreHeard (ns : List Node) : Type 0 where
  dones : (x y : Node) → find_node ns (number_of x) ≡ Some x → find_node ns (number_of y) ≡ Some y → is_at y.superior (number_of x) ≡ true → Dones x y
  hears : (x y : Node) → find_node ns (number_of x) ≡ Some x → find_node ns (number_of y) ≡ Some y → is_at y.superior (number_of x) ≡ true → Hears x y

-- ---- a node comes

untaken : (ns : List Node) (fs : List Frame) (z u v : Node) → Comes ns z → IsGood ns fs → find_node (ns ++ z ∷ []) (number_of u) ≡ Some u → find_node (ns ++ z ∷ []) (number_of v) ≡ Some v → is_at v.superior (number_of u) ≡ true
    → (find_node ns (number_of u) ≡ Some u) × (find_node ns (number_of v) ≡ Some v) ⊎ ((a : Addr) (r : PeerRecord) → HasBrought u.history a r → a.node ≡ number_of v → ⊥)
untaken ns fs z u v c good hu hv above = go (number_of z == number_of u) refl (number_of z == number_of v) refl
  where
    at : (n : ℕ) → find_node (ns ++ z ∷ []) n ≡ cond (number_of z == n) (Some z) (find_node ns n)
    at n = find_append ns z n c.none

    new : (n : ℕ) (y : Node) → (number_of z == n) ≡ true → find_node (ns ++ z ∷ []) n ≡ Some y → z ≡ y
    new n y b i = grind (arith, at n, b, i)

    was : (n : ℕ) (y : Node) → (number_of z == n) ≡ false → find_node (ns ++ z ∷ []) n ≡ Some y → find_node ns n ≡ Some y
    was n y b i = grind (arith, at n, b, i)

    go : (b : Bool) → (number_of z == number_of u) ≡ b → (d : Bool) → (number_of z == number_of v) ≡ d → (find_node ns (number_of u) ≡ Some u) × (find_node ns (number_of v) ≡ Some v) ⊎ ((a : Addr) (r : PeerRecord) → HasBrought u.history a r → a.node ≡ number_of v → ⊥)
    go true i d j =
        let bare : u.history ≡ [] = ap (λ (y : Node). y.history) (sym (new (number_of u) u i hu)) ∙ c.bare in
        inr (λ a r t n. subst (λ (h : List Entry). HasBrought h a r) bare t)
    go false i false j = inl (was (number_of u) u i hu, was (number_of v) v j hv)
    go false i true j =
        inr (λ a r t n.
        let s : Sender ns a (number_of u) r = was_sent ns fs a (number_of u) r good.sent (good.taken (number_of u) u a r (was (number_of u) u i hu) t) in
        let eq : number_of z ≡ number_of v = grind (arith, nat_tests, j) in
        cc (s.found, ap (find_node ns) (n ∙ sym eq), c.none))

heard_comes : (ns : List Node) (fs : List Frame) (z : Node) → Comes ns z → IsGood ns fs → AreHeard ns → AreHeard (ns ++ z ∷ [])
heard_comes ns fs z c good p = record {
  dones = λ x y hx hy above. elim (untaken ns fs z x y c good hx hy above) [ inl o ↦ p.dones x y o.0 o.1 above | inr none ↦ dones_none (number_of y) (Foreign y) x.origin x.history none ];
  hears = λ x y hx hy above. elim (untaken ns fs z x y c good hx hy above) [ inl o ↦ p.hears x y o.0 o.1 above | inr none ↦ hears_none (number_of y) (Clears y) x.origin x.history none ];
}

-- ---- an event

-- what a node that is found said to another
said_by : (ns : List Node) (fs : List Frame) (z : Node) (e : Event) (v : Node) (a : Addr) (r : PeerRecord) → Step ns fs z e → find_node ns (number_of v) ≡ Some v → e ≡ Event.Arrive a r → a.node ≡ number_of v → (to : Addr) × (to.node ≡ number_of z) × HasSent v.history to r
said_by ns fs z e v a r st hv is at =
    let s : Sender ns a (number_of z) r = was_sent ns fs a (number_of z) r st.good.sent (st.accepts.came a r (ap brought is)) in
    let one : s.node ≡ v = some_same s.node v (sym s.found ∙ ap (find_node ns) at ∙ hv) in
    (s.to, s.at, subst (λ (w : Node). HasSent w.history s.to r) one s.sent)

dones_now : (ns : List Node) (fs : List Frame) (z : Node) (e : Event) (v : Node) → Step ns fs z e → IsTied ns → find_node ns (number_of v) ≡ Some v → is_at v.superior (number_of z) ≡ true
    → (a : Addr) (t : Aaid) (b : BranchId) (r : Report) → e ≡ Event.Arrive a (PeerRecord.RecReply t b (RecState.Done r)) → a.node ≡ number_of v → is_report_none r ≡ false → Foreign v t → is_known z.origin t z.history ≡ true
dones_now ns fs z e v st p hv above a t b r is at some other = begun (took_begin v.origin v.superior v.history t legal taken)
  where
    empty : v.origin.start.records ≡ []
    empty = st.good.fresh (number_of v) v hv

    legal : IsGrown v.origin v.superior v.history
    legal = st.good.legal (number_of v) v hv

    once : IsOnce v.origin v.history
    once = p.unique.once (number_of v) v hv

    said : (to : Addr) × (to.node ≡ number_of z) × HasSent v.history to (PeerRecord.RecReply t b (RecState.Done r))
    said = said_by ns fs z e v a (PeerRecord.RecReply t b (RecState.Done r)) st hv is at

    known : is_known v.origin t v.history ≡ true
    known = elim (done_answered v.origin v.superior v.history said.0 t b r empty legal said.2) [
      | inl i ↦ (fated_law v.origin v.superior v.history t empty legal once).commit_known i
      | inr i ↦ done_known v.origin v.superior v.history said.0 t b r empty legal once some i
    ]

    taken : has_taken_begin t v.history ≡ true
    taken = grind (arith, known, other)

    begun : TookBegin v.superior v.history t → is_known z.origin t z.history ≡ true
    begun k =
        let s : SentTo z.history (number_of v) t k.id = took_sent ns fs z v t k.id st.good st.accepts.here hv above (record { from = k.from; x = k.x; y = k.y; seq = k.seq; holder = k.holder; took = k.took }) in
        sent_known z.origin z.superior z.history s.to s.x s.y s.seq t k.id s.holder (st.good.fresh (number_of z) z st.accepts.here) (st.good.legal (number_of z) z st.accepts.here) s.sent

hears_now : (ns : List Node) (fs : List Frame) (z : Node) (e : Event) (v : Node) → Step ns fs z e → IsTied ns → AreHeard ns → find_node ns (number_of v) ≡ Some v → is_at v.superior (number_of z) ≡ true
    → (a : Addr) (t : Aaid) (b : BranchId) → e ≡ Event.Arrive a (PeerRecord.RecReply t b (RecState.Done Report.None)) → a.node ≡ number_of v → is_now t (digest z.origin z.history).current ≡ true → is_committing (phase_of (digest z.origin z.history)) ≡ true
    → SentTo (entry_of z.origin z.history e ∷ z.history) (number_of v) t b → Clears v t b
hears_now ns fs z e v st p q hv above a t b is at now committing begun keys = elim (done_said v.origin v.superior v.history said.0 t b empty legal once said.2) [
  | inl i ↦ inl i
  | inr i ↦ by (answered_fate (number_of z) (Commits z) (Begins z (number_of v)) v.origin v.superior v.history said.0 t b empty legal once keys (p.orders z v hz hv above) said.1 begins i)
]
  where
    hz : find_node ns (number_of z) ≡ Some z
    hz = st.accepts.here

    empty : v.origin.start.records ≡ []
    empty = st.good.fresh (number_of v) v hv

    legal : IsGrown v.origin v.superior v.history
    legal = st.good.legal (number_of v) v hv

    once : IsOnce v.origin v.history
    once = p.unique.once (number_of v) v hv

    empty_z : z.origin.start.records ≡ []
    empty_z = st.good.fresh (number_of z) z hz

    legal_z : IsGrown z.origin z.superior z.history
    legal_z = st.good.legal (number_of z) z hz

    once_z : IsOnce z.origin z.history
    once_z = p.unique.once (number_of z) z hz

    said : (to : Addr) × (to.node ≡ number_of z) × HasSent v.history to (PeerRecord.RecReply t b (RecState.Done Report.None))
    said = said_by ns fs z e v a (PeerRecord.RecReply t b (RecState.Done Report.None)) st hv is at

    done : decided z.origin t z.history ≡ true
    done = (fated_law z.origin z.superior z.history t empty_z legal_z once_z).committing now committing

    begins : Begins z (number_of v) t
    begins = begun_before ns fs z e (number_of v) t st p.unique done (b, begun)

    by : Answered v.origin v.superior v.history t b → (has_cleared t (records v.origin v.history) ≡ true) ⊎ (has_left v.origin t v.history ≡ true)
    by (By_leaving l) = inr l
    by (By_clearing c) = inl c
    by (By_rolling r) =
        let k : SentTo z.history (number_of v) t begins.0 = begins.1 in
        elim (voted_sent z.origin z.superior (number_of v) (deeds_of v.origin v.history) (records v.origin v.history) z.history k.to k.x k.y k.seq t begins.0 k.holder (below_of ns fs z v st.good p hz hv above) k.at (inr (commit_bound t (records z.origin z.history) done)) k.sent) [
          | inl gone ↦ inr gone
          | inr w ↦ absurd ((fated_law z.origin z.superior z.history t empty_z legal_z once_z).never_both done (p.rolls z v hz hv above (t, w.0) w.1 r))
        ]
    by (By_forgetting f taken up) =
        let r : PeerRecord = PeerRecord.Forget t b in
        let d : Sender ns f (number_of v) r = was_sent ns fs f (number_of v) r st.good.sent (st.good.taken (number_of v) v f r hv taken) in
        let mine : d.node ≡ z = some_same d.node z (sym d.found ∙ ap (find_node ns) (at_same v.superior f.node (number_of z) up above) ∙ hz) in
        absurd (forgotten_now (number_of v) (Foreign v) z.origin z.superior z.history d.to t b empty_z legal_z once_z (q.dones z v hz hv above) d.at keys.other now committing (subst (λ (w : Node). HasSent w.history d.to r) mine d.sent))

heard_event : (ns : List Node) (fs : List Frame) (z : Node) (e : Event) → Step ns fs z e → IsTied ns → AreHeard ns → AreHeard (put_node ns (grown_node z e))
heard_event ns fs z e st p q = record { dones = λ x v hx hv above. dones x v (grew ns fs z e x v st hx hv above) above; hears = λ x v hx hv above. hears x v (grew ns fs z e x v st hx hv above) above }
  where
    y : Node
    y = grown_node z e

    dones : (x v : Node) → Grew ns z y x v → is_at v.superior (number_of x) ≡ true → Dones x v
    dones x v (Neither hx hv) above = q.dones x v hx hv above
    dones x v (The_upper same hv below) above = subst (λ (w : Node). Dones w v) same (dones_now ns fs z e v st p hv below, q.dones z v st.accepts.here hv below)
    dones x v (The_lower same hx below) above = subst (λ (w : Node). Dones x w) same (q.dones x z hx st.accepts.here below)

    more : (t : Aaid) (b : BranchId) → Clears z t b → Clears y t b
    more t b k keys = elim (k (key_tail z.origin (entry_of z.origin z.history e) z.history t b keys)) [
      | inl i ↦ inl (cleared_more t (entry_of z.origin z.history e).rec (records z.origin z.history) i)
      | inr i ↦ inr (rw i (grind arith))
    ]

    hears : (x v : Node) → Grew ns z y x v → is_at v.superior (number_of x) ≡ true → Hears x v
    hears x v (Neither hx hv) above = q.hears x v hx hv above
    hears x v (The_upper same hv below) above = subst (λ (w : Node). Hears w v) same (hears_now ns fs z e v st p q hv below, q.hears z v st.accepts.here hv below)
    hears x v (The_lower same hx below) above = subst (λ (w : Node). Hears x w) same (hears_more (number_of z) (Clears z) (Clears y) x.origin x.history more (q.hears x z hx st.accepts.here below))

-- ---- every run

heard_run : (es : List Happening) → AreHeard (run es).nodes
heard_run es = (law (λ ns fs. IsTied ns × AreHeard ns) (record {
  start = (tied_run [], record { dones = λ x y hx hy above. absurd (cc (hx)); hears = λ x y hx hy above. absurd (cc (hx)) });
  comes = λ ns fs x c g p. (tied_comes ns fs x c g p.0, heard_comes ns fs x c g p.1);
  event = λ ns fs x e st b p. (tied_event ns fs x e st b p.0, heard_event ns fs x e st p.0 p.1);
  mark = λ ns fs k p. p;
}) es).1

pub hears_run : (es : List Happening) (x y : Node) → find_node (run es).nodes (number_of x) ≡ Some x → find_node (run es).nodes (number_of y) ≡ Some y → is_at y.superior (number_of x) ≡ true → HearsClear (number_of y) (Clears y) x.origin x.history
hears_run es x y hx hy above = (heard_run es).hears x y hx hy above

pub dones_run : (es : List Happening) (x y : Node) → find_node (run es).nodes (number_of x) ≡ Some x → find_node (run es).nodes (number_of y) ≡ Some y → is_at y.superior (number_of x) ≡ true → KnowsDones (number_of y) (Foreign y) x.origin x.history
dones_run es x y hx hy above = (heard_run es).dones x y hx hy above
