-- In every run, what a superior's history tells of the nodes below it.
use Rattle.std.proofs.Common.{◌≡◌, ◌⊎◌, inl, inr, ℕ, Bool, true, false, refl, ap, sym, subst, ◌∙◌, arith, Option, Some, None, List, [], ◌∷◌}
use Rattle.tp_names.specs.declared.identifiers.Aaid.{Aaid}
use Rattle.tp_names.specs.declared.identifiers.BranchId.{BranchId}
use Rattle.tp_names.specs.declared.identifiers.NodeKey.{NodeKey}
use Rattle.tp_names.specs.declared.identifiers.Addr.{Addr}
use Rattle.tp_names.specs.declared.identifiers.Mark.{Mark}
use Rattle.tp_names.specs.Same.{is_aaid, is_key}
use Rattle.tp_records.specs.declared.dialogue.DialogueRecord.{DialogueRecord}
use Rattle.tp_records.specs.declared.dialogue.Holder.{Holder}
use Rattle.tp_records.specs.declared.peer.PeerRecord.{PeerRecord}
use Rattle.tp_logrec.specs.declared.record.LogRec.{LogRec}
use Rattle.tp_model.specs.Parts.{Origin, Event, Entry, Key, Under, Root, Current, Digest}
use Rattle.tp_model.specs.Transactions.{node_key, superior_of}
use Rattle.tp_model.specs.Node.{fresh_current}
use Rattle.tp_model.specs.Events.{action}
use Rattle.tp_model.specs.History.{digest, records, with_rec}
use Rattle.tp_model.specs.Questions.{is_at}
use Rattle.tp_model.specs.World.{Node, number_of, addr_of}
use Rattle.tp_model.specs.Happenings.{Happening, run}
use Rattle.tp_model.specs.Promises.{IsBranchOf, has_record, has_begun, is_begin_of}
use Rattle.tp_model.specs.Promises.{is_ready_of_branch as is_ready_rec}
use Rattle.tp_model.specs.Legal.{IsGrown}
use Rattle.tp_steps.specs.Histories.{brought}
use Rattle.tp_histories.specs.Histories.{HasSent, HasBrought}
use Rattle.tp_steps.specs.Moves.{prelude}
use Rattle.tp_steps.specs.Facts.{BranchKey, has_ready_of, is_ready_of_key}
use Rattle.tp_steps.specs.Trees.{IsLoggedIn}
use Rattle.tp_steps.specs.Keyed.{HasKeyFrom, IsKeyedMove}
use Rattle.tp_histories.proofs.trees.Late.{late_law}
use Rattle.tp_steps.proofs.every.EveryEvent.{every_move}
use Rattle.tp_steps.proofs.log.Keyed.{keyed_moves}
use Rattle.tp_histories.proofs.trees.Knowing.{Came, As_it_was, By_begin, By_crash, came_by, current_none, treed_event}
use Rattle.tp_steps.proofs.lemmas.Equality.{aaids_equal, branches_equal, addrs_equal, or_case}
use Rattle.tp_histories.proofs.worlds.Unique.{TookOn}
use Rattle.tp_histories.proofs.worlds.Good.{good_run, Sender, was_sent}
use Rattle.tp_runs.proofs.Family.{begun_up}
use Rattle.tp_steps.proofs.lemmas.Options.{some_same}
use Rattle.tp_histories.proofs.trees.Above.{recovered_key}

-- ---- whose key is current, or was logged ready, has taken its Begin

pub record TookKey (h : List Entry) (t : Aaid) (b : BranchId) : Type 0 where
  pub from : Addr
  pub x : Mark
  pub y : Mark
  pub seq : ℕ
  pub holder : Holder
  pub took : TookOn h from x y seq (DialogueRecord.Begin t b holder)

pub later_key : (e : Entry) (h : List Entry) (t : Aaid) (b : BranchId) → TookKey h t b → TookKey (e ∷ h) t b
later_key e h t b k = record { from = k.from; x = k.x; y = k.y; seq = k.seq; holder = k.holder; took = inr k.took }

same_key : (v w : Aaid) (x y : BranchId) (f g : Addr) → Under v x f ≡ Under w y g → (v ≡ w) × (x ≡ y)
same_key v w x y f g k = (cc (k), cc (k))

-- after the prelude of an event
pub behind_key : (o : Origin) (up : Option Addr) (e : Entry) (h : List Entry) (c : Current) (t : Aaid) (b : BranchId) (a : Addr) → IsGrown o up (e ∷ h) → (prelude o.who (digest o h) e.event).current ≡ Some c → c.key ≡ Under t b a → ((v : Current) → (digest o h).current ≡ Some v → v.key ≡ Under t b a → TookKey h t b) → TookKey (e ∷ h) t b
behind_key o up e h c t b a legal at key rest = go (came_by o.who (digest o h) e.event legal.0)
  where
    go : Came o.who (digest o h) e.event → TookKey (e ∷ h) t b
    go (As_it_was i) = later_key e h t b (rest c (sym i ∙ at) key)
    go (By_begin from x y q v w g l is found cur nil above) =
        let same = some_same (fresh_current (Under v w l.peer)) c (sym cur ∙ at) in
        let eq = same_key v t w b l.peer a (ap (λ (u : Current). u.key) same ∙ key) in
        record { from = from; x = x; y = y; seq = q; holder = g; took = inl (is ∙ word from x y q v t w b g eq.0 eq.1) }
      where
        word : (from : Addr) (x y : Mark) (q : ℕ) (v t : Aaid) (w b : BranchId) (g : Holder) → v ≡ t → w ≡ b → Event.Arrive from (PeerRecord.OnAssoc x y q (DialogueRecord.Begin v w g)) ≡ Event.Arrive from (PeerRecord.OnAssoc x y q (DialogueRecord.Begin t b g))
        word from x y q v t w b g i j = rw (i, j) refl
    go (By_crash is cur) = let r = recovered_key (digest o h).current c (sym cur ∙ at) in later_key e h t b (rest r.0 r.1 (sym r.2 ∙ key))

pub current_took : (o : Origin) (up : Option Addr) (h : List Entry) (u : Current) (t : Aaid) (b : BranchId) (a : Addr) → o.start.records ≡ [] → IsGrown o up h → (digest o h).current ≡ Some u → u.key ≡ Under t b a → TookKey h t b
current_took o up [] u t b a empty legal i key = absurd (cc (current_none o empty, i))
current_took o up (e ∷ h) u t b a empty legal i key = go (moves.keys u i) (λ v at k. current_took o up h v t b a empty legal.3 at k)
  where
    s : Digest
    s = prelude o.who (digest o h) e.event

    moves : IsKeyedMove o.who e.event s s (action o.who (digest o h) e.event)
    moves = every_move o.who (digest o h) e.event (IsKeyedMove o.who e.event s) (keyed_moves o.who e.event s) (late_law o up h legal.3) legal.0

    go : HasKeyFrom o.who s u → ((v : Current) → (digest o h).current ≡ Some v → v.key ≡ Under t b a → TookKey h t b) → TookKey (e ∷ h) t b
    go (inl c) rest = behind_key o up e h c.0 t b a legal c.1 (sym c.2 ∙ key) rest
    go (inr c) rest = absurd (cc (sym c.1 ∙ key))

abbrev ready_opt : BranchKey → Option LogRec → Bool
ready_opt j None = false
ready_opt j (Some r) = is_ready_of_key j r

ready_case : (j : BranchKey) (r : Option LogRec) (rs : List LogRec) → has_ready_of j (with_rec r rs) ≡ true → (ready_opt j r ≡ true) ⊎ (has_ready_of j rs ≡ true)
ready_case j None rs h = inr h
ready_case j (Some r) rs h = or_case (is_ready_of_key j r) (has_ready_of j rs) h

-- a key of that branch is one of a superior
ready_key : (j : BranchKey) (k : NodeKey) (c : Key) (a : Addr) → is_key (record { aaid = j.0; branch = Some j.1 }) k ≡ true → k ≡ node_key c → superior_of c ≡ Some a → c ≡ Under j.0 j.1 a
ready_key j k (Root t) a h i s = absurd (cc (s))
ready_key j k (Under t b f) a h i s =
    let one : is_key (record { aaid = j.0; branch = Some j.1 }) (node_key (Under t b f)) ≡ true = ap (is_key (record { aaid = j.0; branch = Some j.1 })) (sym i) ∙ h in
    let tree = aaids_equal j.0 t (grind (arith, one)) in
    let id = branches_equal j.1 b (grind (arith, one)) in
    let at : f ≡ a = cc (s) in
    rw (← tree, ← id, at) refl

logged_key : (o : Origin) (up : Option Addr) (e : Entry) (h : List Entry) (j : BranchKey) → o.start.records ≡ [] → IsGrown o up (e ∷ h) → (r : Option LogRec) → IsLoggedIn j.0 (prelude o.who (digest o h) e.event) r → ready_opt j r ≡ true → TookKey (e ∷ h) j.0 j.1
logged_key o up e h j empty legal (Some (LogRec.Ready n k s cs)) logs new =
    let tree : is_aaid j.0 k.aaid ≡ true = grind (arith, new) in
    let c = logs tree in
    let key = ready_key j k c.0.key s new c.2 c.3 in
    behind_key o up e h c.0 j.0 j.1 s legal c.1 key (λ v at i. current_took o up h v j.0 j.1 s empty legal.3 at i)
logged_key o up e h j empty legal _ logs new = absurd (cc (new))

pub ready_took : (o : Origin) (up : Option Addr) (h : List Entry) (j : BranchKey) → o.start.records ≡ [] → IsGrown o up h → has_ready_of j (records o h) ≡ true → TookKey h j.0 j.1
ready_took o up [] j empty legal r = let none : has_ready_of j (records o []) ≡ false = rw empty refl in absurd (cc (none, r))
ready_took o up (e ∷ h) j empty legal r = go (ready_case j e.rec (records o h) r) (ready_took o up h j empty legal.3)
  where
    recs : e.rec ≡ (action o.who (digest o h) e.event).rec
    recs = ap (λ (v : Entry). v.rec) (sym legal.1)

    go : (ready_opt j e.rec ≡ true) ⊎ (has_ready_of j (records o h) ≡ true) → (has_ready_of j (records o h) ≡ true → TookKey h j.0 j.1) → TookKey (e ∷ h) j.0 j.1
    go (inr old) rest = later_key e h j.0 j.1 (rest old)
    go (inl new) rest = logged_key o up e h j empty legal e.rec (subst (λ (v : Option LogRec). IsLoggedIn j.0 (prelude o.who (digest o h) e.event) v) (sym recs) (treed_event o.who (digest o h) e.event j.0 0 (late_law o up h legal.3) legal.0).logs) new

-- ---- both forms of the record

pub ready_logged : (j : BranchKey) (rs : List LogRec) → has_ready_of j rs ≡ true → has_record (is_ready_rec j.0 j.1) rs ≡ true
ready_logged j [] h = absurd (cc (h))
ready_logged j (LogRec.Ready n k s cs ∷ rs) h = let rest = ready_logged j rs in grind (arith, h, rest)
ready_logged j (LogRec.Commit n k s cs ∷ rs) h = ready_logged j rs h
ready_logged j (LogRec.Boot n ∷ rs) h = ready_logged j rs h
ready_logged j (LogRec.Heuristic n k u ∷ rs) h = ready_logged j rs h
ready_logged j (LogRec.Damage n k s u r cs ∷ rs) h = ready_logged j rs h
ready_logged j (LogRec.End n k u ∷ rs) h = ready_logged j rs h

-- ---- every run

-- the Begin of a branch was sent by its superior
pub record SentBegin (x y : Node) (t : Aaid) (b : BranchId) : Type 0 where
  pub to : Addr
  pub x_mark : Mark
  pub y_mark : Mark
  pub seq : ℕ
  pub holder : Holder
  pub at : to.node ≡ number_of y
  pub sent : HasSent x.history to (PeerRecord.OnAssoc x_mark y_mark seq (DialogueRecord.Begin t b holder))

begun_took : (t : Aaid) (b : BranchId) (a : Addr) (h : List Entry) → has_begun t b a h ≡ true → (x : Mark) × (y : Mark) × (q : ℕ) × (i : Holder) × HasBrought h a (PeerRecord.OnAssoc x y q (DialogueRecord.Begin t b i))
begun_took t b a [] h = absurd (cc (h))
begun_took t b a (e ∷ h) k = go (or_case (is_begin_of t b a e.event) (has_begun t b a h) k) (begun_took t b a h)
  where
    one : (f : Event) → e.event ≡ f → is_begin_of t b a f ≡ true → (x : Mark) × (y : Mark) × (q : ℕ) × (i : Holder) × HasBrought (e ∷ h) a (PeerRecord.OnAssoc x y q (DialogueRecord.Begin t b i))
    one (Event.Arrive from (PeerRecord.OnAssoc x y q (DialogueRecord.Begin u c i))) is m =
        let at = addrs_equal a from (grind (arith, m)) in
        let tree = aaids_equal t u (grind (arith, m)) in
        let id = branches_equal b c (grind (arith, m)) in
        (x, y, q, i, inl (ap brought is ∙ word a from t u b c x y q i at tree id))
      where
        word : (a from : Addr) (t u : Aaid) (b c : BranchId) (x y : Mark) (q : ℕ) (i : Holder) → a ≡ from → t ≡ u → b ≡ c → ◌≡◌ {A = Option (Addr × PeerRecord)} (Some (from, PeerRecord.OnAssoc x y q (DialogueRecord.Begin u c i))) (Some (a, PeerRecord.OnAssoc x y q (DialogueRecord.Begin t b i)))
        word a from t u b c x y q i l m n = rw (l, m, n) refl
    one f is m = absurd (grind (arith, m))

    go : (is_begin_of t b a e.event ≡ true) ⊎ (has_begun t b a h ≡ true) → (has_begun t b a h ≡ true → (x : Mark) × (y : Mark) × (q : ℕ) × (i : Holder) × HasBrought h a (PeerRecord.OnAssoc x y q (DialogueRecord.Begin t b i))) → (x : Mark) × (y : Mark) × (q : ℕ) × (i : Holder) × HasBrought (e ∷ h) a (PeerRecord.OnAssoc x y q (DialogueRecord.Begin t b i))
    go (inl i) rest = one e.event refl i
    go (inr i) rest = let r = rest i in (r.0, r.1, r.2, r.3, inr r.4)

pub branch_above : (es : List Happening) (t : Aaid) (b : BranchId) (x y : Node) → IsBranchOf (run es) t b x y → is_at y.superior (number_of x) ≡ true
branch_above es t b x y branch = (begun_up y.origin y.superior y.history t b (addr_of x) ((good_run es).legal (number_of y) y branch.child.here) branch.begun).above

pub branch_sent : (es : List Happening) (t : Aaid) (b : BranchId) (x y : Node) → IsBranchOf (run es) t b x y → SentBegin x y t b
branch_sent es t b x y branch =
    let good = good_run es in
    let k = begun_took t b (addr_of x) y.history branch.begun in
    let frame = good.taken (number_of y) y (addr_of x) (PeerRecord.OnAssoc k.0 k.1 k.2 (DialogueRecord.Begin t b k.3)) branch.child.here k.4 in
    let s : Sender (run es).nodes (addr_of x) (number_of y) (PeerRecord.OnAssoc k.0 k.1 k.2 (DialogueRecord.Begin t b k.3)) = was_sent (run es).nodes (run es).frames (addr_of x) (number_of y) (PeerRecord.OnAssoc k.0 k.1 k.2 (DialogueRecord.Begin t b k.3)) good.sent frame in
    let one : s.node ≡ x = some_same s.node x (sym s.found ∙ branch.superior.here) in
    record { to = s.to; x_mark = k.0; y_mark = k.1; seq = k.2; holder = k.3; at = s.at; sent = subst (λ (u : Node). HasSent u.history s.to (PeerRecord.OnAssoc k.0 k.1 k.2 (DialogueRecord.Begin t b k.3))) one s.sent }
