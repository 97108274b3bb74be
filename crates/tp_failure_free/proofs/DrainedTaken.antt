-- What a node of a drained tree sent in the tree was taken at its place; a tree whose nodes never failed, and whose frames were all
-- taken, is drained.
use Rattle.std.proofs.Common.{◌≡◌, ◌≤◌, ◌<◌, ◌⊎◌, inl, inr, ℕ, zero, suc, Bool, true, false, refl, ap, sym, subst, ◌∙◌, arith, Option, Some, None, List, [], ◌∷◌, ◌++◌, ◌+◌, ◌&&◌, ◌||◌, ◌==◌, length, slice_get}
use Rattle.std.proofs.lemmas.Bool.Decides.{nat_tests}
use Rattle.std.proofs.lemmas.List.{append-nil}
use Rattle.std.specs.List.{Any, slice_index_or}
use Rattle.tp_names.specs.declared.identifiers.Aaid.{Aaid}
use Rattle.tp_names.specs.declared.identifiers.BranchId.{BranchId}
use Rattle.tp_names.specs.declared.identifiers.Addr.{Addr}
use Rattle.tp_names.specs.declared.identifiers.Mark.{Mark}
use Rattle.tp_records.specs.declared.dialogue.DialogueRecord.{DialogueRecord}
use Rattle.tp_records.specs.declared.dialogue.Holder.{Holder}
use Rattle.tp_records.specs.declared.peer.PeerRecord.{PeerRecord}
use Rattle.tp_names.specs.Same.{is_aaid, is_mark}
use Rattle.tp_model.specs.Parts.{Origin, Event, Entry, Out, Link, Live, Current, Digest}
use Rattle.tp_model.specs.Transactions.{aaid_of}
use Rattle.tp_model.specs.Arcs.{link_with}
use Rattle.tp_model.specs.Events.{action}
use Rattle.tp_model.specs.History.{digest}
use Rattle.tp_model.specs.Outcomes.{is_now, is_failure, has_failed}
use Rattle.tp_model.specs.World.{Node, Frame, number_of, addr_of, find_node}
use Rattle.tp_model.specs.Promises.{IsIn, IsOf}
use Rattle.tp_model.specs.Happenings.{Happening, run}
use Rattle.tp_model.specs.Legal.{IsGrown}
use Rattle.tp_histories.specs.Histories.{IsSentIn, HasSent}
use Rattle.tp_runs.specs.Framed.{is_stop, has_stopped, IsFrameTo}
use Rattle.tp_steps.specs.Traces.{fits, sent_of}
use Rattle.tp_histories.specs.Traces.{sent_on, history_at, accepted_on}
use Rattle.tp_failure_free.specs.Drained.{touches, fails_in, has_failed_in}
use Rattle.tp_failure_free.specs.DrainedWorlds.{HasCome, is_word_of, HasSaidIn, IsDrainedTree, AllCame, AllTaken, FramesDrain, NoFailureInTree, WordsAreTaken}
use Rattle.tp_steps.specs.Moves.{prelude}
use Rattle.tp_histories.proofs.worlds.Good.{good_run}
use Rattle.tp_runs.proofs.Framed.{goes_out}
use Rattle.tp_steps.proofs.links.Links.{mark_same}
use Rattle.tp_steps.proofs.every.Preludes.{marks_same}
use Rattle.tp_histories.proofs.marks.Traced.{Told, traced_law, long_of}
use Rattle.tp_histories.proofs.worlds.Prefix.{prefix_list}
use Rattle.tp_histories.proofs.pairs.PairedSteps.{told_entry, sent_over}
use Rattle.tp_histories.proofs.worlds.Unique.{TookOn, taken_below}
use Rattle.tp_runs.proofs.Family.{history_is}
use Rattle.tp_runs.proofs.Heeded.{zero_more}
use Rattle.tp_steps.proofs.words.Leaves.{aaid_same}
use Rattle.tp_failure_free.proofs.Moments.{IsMoment}

-- ---- no failure, no stop

stop_fails : (e : Event) → is_failure e ≡ false → is_stop e ≡ false
stop_fails Event.Crash h = absurd (cc (h))
stop_fails e h = refl

pub never_stopped : (h : List Entry) → has_failed h ≡ false → has_stopped h ≡ false
never_stopped [] f = refl
never_stopped (e ∷ h) f =
    let here = stop_fails e.event (grind (arith, f)) in
    let rest = never_stopped h (grind (arith, f)) in
    rw (here, rest) refl

-- ---- frames and entries, in both forms

any_first : {X : Type 0} (P : X → Type 0) (x : X) (xs : List X) → P x → Any P (x ∷ xs)
any_first P x xs h = (0, x, omega arith, refl, h)

any_later : {X : Type 0} (P : X → Type 0) (x : X) (xs : List X) → Any P xs → Any P (x ∷ xs)
any_later P x xs h = (suc h.0, h.1, (let l = h.2 in omega (arith, l)), h.3, h.4)

frame_is : (fs : List Frame) (a z : Addr) (r : PeerRecord) → IsFrameTo fs a z r → (f : Frame) × Any (λ g. g ≡ f) fs × (f.from ≡ a) × (f.to ≡ z) × (f.rec ≡ r)
frame_is [] a z r h = absurd h
frame_is (f ∷ fs) a z r (inl h) = (f, any_first (λ g. g ≡ f) f fs refl, h.0, h.1, h.2)
frame_is (f ∷ fs) a z r (inr h) = let k = frame_is fs a z r h in (k.0, any_later (λ g. g ≡ k.0) f fs k.1, k.2, k.3, k.4)

come_at : (a : Addr) (r : PeerRecord) (h : List Entry) (k : ℕ) (e : Entry) → k < length h → slice_index_or h k e ≡ e → e.event ≡ Event.Arrive a r → HasCome h a r
come_at a r [] k e l at is = absurd (omega (arith, l))
come_at a r (x ∷ h) zero e l at is = inl (ap (λ (y : Entry). y.event) at ∙ is)
come_at a r (x ∷ h) (suc k) e l at is = inr (come_at a r h k e (less l) at is)
  where
    less : suc k < suc (length h) → k < length h
    less i = omega (arith, i)

came_any : (a : Addr) (r : PeerRecord) (h : List Entry) → Any (λ e. e.event ≡ Event.Arrive a r) h → HasCome h a r
came_any a r h k = come_at a r h k.0 k.1 k.2 k.3 k.4

-- ---- what was sent went out, and came

in_sent : (o : Origin) (t : Aaid) (h : List Entry) (a : Addr) (r : PeerRecord) → HasSaidIn o t h a r → HasSent h a r
in_sent o t [] a r k = k
in_sent o t (e ∷ h) a r (inl k) = inl k.1
in_sent o t (e ∷ h) a r (inr k) = inr (in_sent o t h a r k)

pub all_came : (es : List Happening) → AllCame (run es)
all_came es t drained fine x z a r x_in sent there =
    let f = frame_is (run es).frames (addr_of x) a r (goes_out es x x_in.here (never_stopped x.history (fine x x_in)) a r sent) in
    let here : find_node (run es).nodes f.0.to.node ≡ Some z = ap (λ (b : Addr). find_node (run es).nodes b.node) f.3 ∙ there in
    let took = came_any f.0.from f.0.rec z.history (drained.taken x z f.0 x_in f.1 f.2 here) in
    subst (λ (s : PeerRecord). HasCome z.history (addr_of x) s) f.4 (subst (λ (b : Addr). HasCome z.history b f.0.rec) f.2 took)

pub frames_drain : (es : List Happening) → FramesDrain (run es)
frames_drain es t drained fine = record { taken = came; settled = drained.settled }
  where
    came : (x z : Node) (a : Addr) (r : PeerRecord) → IsOf (run es) t x → HasSaidIn x.origin t x.history a r → find_node (run es).nodes a.node ≡ Some z → HasCome z.history (addr_of x) r
    came x z a r x_in sent there = all_came es t drained fine x z a r x_in (in_sent x.origin t x.history a r sent) there

unfailed_in : (o : Origin) (t : Aaid) (h : List Entry) → has_failed h ≡ false → has_failed_in o t h ≡ false
unfailed_in o t [] fine = refl
unfailed_in o t (e ∷ h) fine = both (fails_in t (digest o h).current e.event) (is_failure e.event) (has_failed h) (has_failed_in o t h) (fails (digest o h).current) fine (unfailed_in o t h)
  where
    off : (v w : Bool) → (v && false && w) ≡ false
    off true w = refl
    off false w = refl

    fails : (v : Option Current) → is_failure e.event ≡ false → fails_in t v e.event ≡ false
    fails None i = refl
    fails (Some c) i = rw i (off (is_aaid t (aaid_of c.key)) (touches c e.event))

    both : (n a b c : Bool) → (a ≡ false → n ≡ false) → (a || b) ≡ false → (b ≡ false → c ≡ false) → (n || c) ≡ false
    both n a b c first h rest = let here : a ≡ false = grind (arith, h) in let old : b ≡ false = grind (arith, h) in let one = first here in let new = rest old in grind (arith, one, new)

pub no_failure_in_tree : (es : List Happening) → NoFailureInTree (run es)
no_failure_in_tree es t fine x of = unfailed_in x.origin t x.history (fine x of)

-- ---- as lists

in_front : (f j : ℕ) → f + suc j ≡ suc f + j
in_front f j = omega arith

-- what stands among the records of an event was sent with its number
sent_here : (p : ℕ) (outs : List Out) (x y : Mark) (f t j : ℕ) (r : DialogueRecord) → fits p (Live x y f t) outs ≡ true → slice_get (sent_of x y p outs) j ≡ Some r
    → (a : Addr) × (a.node ≡ p) × IsSentIn outs a (PeerRecord.OnAssoc x y (f + j) r)
sent_here p [] x y f t j r h s = absurd (cc (s))
sent_here p (Out.Tell i ∷ outs) x y f t j r h s = sent_here p outs x y f t j r h s
sent_here p (Out.Send b (PeerRecord.OnAssoc z w q u) ∷ outs) x y f t j r h s = go (b.node == p) refl (λ l i k. sent_here p outs x y l t i r k) (sent_here p outs x y f t j r)
  where
    Found : List Out → ℕ → Type 0
    Found os n = (a : Addr) × (a.node ≡ p) × IsSentIn os a (PeerRecord.OnAssoc x y n r)

    all : List Out
    all = Out.Send b (PeerRecord.OnAssoc z w q u) ∷ outs

    at : (i : ℕ) → j ≡ i → slice_get (u ∷ sent_of x y p outs) i ≡ Some r → b.node ≡ p → z ≡ x → w ≡ y → q ≡ f → fits p (Live x y (suc f) t) outs ≡ true
        → ((l i : ℕ) → fits p (Live x y l t) outs ≡ true → slice_get (sent_of x y p outs) i ≡ Some r → Found outs (l + i)) → Found all (f + i)
    at zero k g node ex ey eq rest deep = (b, node, inl (refl, (let same : u ≡ r = cc (g) in rw (ex, ey, eq, same, zero_more f) refl)))
    at (suc i) k g node ex ey eq rest deep = let d = deep (suc f) i rest g in (d.0, d.1, inr (subst (λ (n : ℕ). IsSentIn outs d.0 (PeerRecord.OnAssoc x y n r)) (sym (in_front f i)) d.2))

    go : (c : Bool) → (b.node == p) ≡ c → ((l i : ℕ) → fits p (Live x y l t) outs ≡ true → slice_get (sent_of x y p outs) i ≡ Some r → Found outs (l + i))
        → (fits p (Live x y f t) outs ≡ true → slice_get (sent_of x y p outs) j ≡ Some r → Found outs (f + j)) → Found all (f + j)
    go false i deep same =
        let k = same (grind (arith, h, i)) (sym (ap (λ (rs : List DialogueRecord). slice_get rs j) (grind (arith, i))) ∙ s) in
        (k.0, k.1, inr k.2)
    go true i deep same =
        let next : (is_mark z x && is_mark w y && (q == f)) ≡ true = grind (arith, h, i) in
        let ex = marks_same z x (grind (arith, next)) in
        let ey = marks_same w y (grind (arith, next)) in
        let eq : q ≡ f = grind (arith, nat_tests, next) in
        let rest : fits p (Live x y (suc f) t) outs ≡ true = grind (arith, h, i) in
        let mx : is_mark x z ≡ true = rw ex (mark_same x) in
        let my : is_mark y w ≡ true = rw ey (mark_same y) in
        let list : sent_of x y p all ≡ u ∷ sent_of x y p outs = grind (arith, i, mx, my) in
        at j refl (sym (ap (λ (rs : List DialogueRecord). slice_get rs j) list) ∙ s) (grind (arith, nat_tests, i)) ex ey eq rest deep
sent_here p (Out.Send b v ∷ outs) x y f t j r h s = let k = sent_here p outs x y f t j r h s in (k.0, k.1, inr k.2)

get_split : (xs ys : List DialogueRecord) (k : ℕ) (r : DialogueRecord) → slice_get (xs ++ ys) k ≡ Some r → (slice_get xs k ≡ Some r) ⊎ (j : ℕ) × (k ≡ length xs + j) × (slice_get ys j ≡ Some r)
get_split [] ys k r h = inr (k, omega arith, h)
get_split (x ∷ xs) ys zero r h = inl h
get_split (x ∷ xs) ys (suc k) r h = elim (get_split xs ys k r h) [ inl i ↦ inl i | inr i ↦ inr (i.0, (let e = i.1 in omega (arith, e)), i.2) ]

-- each record of the list was sent with its place as number: before the entry, or by it
sent_split : (o : Origin) (up : Option Addr) (e : Entry) (h : List Entry) (p : ℕ) (x y : Mark) (k : ℕ) (r : DialogueRecord) → IsGrown o up (e ∷ h) → slice_get (sent_on x y p (e ∷ h)) k ≡ Some r
    → (slice_get (sent_on x y p h) k ≡ Some r) ⊎ (a : Addr) × (a.node ≡ p) × IsSentIn e.outs a (PeerRecord.OnAssoc x y k r)
sent_split o up e h p x y k r legal s = go (get_split (sent_on x y p h) (sent_of x y p e.outs) k r s) (sent_over o up e h legal p x y)
  where
    Found : Type 0
    Found = (slice_get (sent_on x y p h) k ≡ Some r) ⊎ (a : Addr) × (a.node ≡ p) × IsSentIn e.outs a (PeerRecord.OnAssoc x y k r)

    go : (slice_get (sent_on x y p h) k ≡ Some r) ⊎ (j : ℕ) × (k ≡ length (sent_on x y p h) + j) × (slice_get (sent_of x y p e.outs) j ≡ Some r)
        → (sent_of x y p e.outs ≡ []) ⊎ (v : ℕ) × (n : ℕ) × (link_with (prelude o.who (digest o h) e.event).arcs p ≡ Live x y v n) → Found
    go (inl old) l = inl old
    go (inr new) (inl none) = absurd (cc (sym (ap (λ (rs : List DialogueRecord). slice_get rs new.0) none) ∙ new.2))
    go (inr new) (inr l) =
        let d : Digest = digest o h in
        let t : Told o.who up p d e.event = told_entry o up e h legal p in
        let outs : e.outs ≡ (action o.who d e.event).outs = ap (λ (f : Entry). f.outs) (sym legal.1) in
        let fit : fits p (Live x y l.0 l.1) e.outs ≡ true = subst (λ (os : List Out). fits p (Live x y l.0 l.1) os ≡ true) (sym outs) (subst (λ (m : Link). fits p m (action o.who d e.event).outs ≡ true) l.2 t.linked.over.numbered) in
        let long = long_of o.who up d e.event h (traced_law o up h legal.3) p (link_with (prelude o.who d e.event).arcs p) t.pre x y l.0 l.1 l.2 in
        let w = sent_here p e.outs x y l.0 l.1 new.0 r fit new.2 in
        let seq : l.0 + new.0 ≡ k = ap (λ (n : ℕ). n + new.0) (sym long.0) ∙ sym new.1 in
        inr (w.0, w.1, subst (λ (n : ℕ). IsSentIn e.outs w.0 (PeerRecord.OnAssoc x y n r)) seq w.2)

pub sent_with : (o : Origin) (up : Option Addr) (h : List Entry) (p : ℕ) (x y : Mark) (k : ℕ) (r : DialogueRecord) → IsGrown o up h → slice_get (sent_on x y p h) k ≡ Some r
    → (a : Addr) × (a.node ≡ p) × HasSent h a (PeerRecord.OnAssoc x y k r)
sent_with o up [] p x y k r legal s = absurd (cc (s))
sent_with o up (e ∷ h) p x y k r legal s = go (sent_split o up e h p x y k r legal s) (sent_with o up h p x y k r legal.3)
  where
    Found : List Entry → Type 0
    Found l = (a : Addr) × (a.node ≡ p) × HasSent l a (PeerRecord.OnAssoc x y k r)

    go : (slice_get (sent_on x y p h) k ≡ Some r) ⊎ (a : Addr) × (a.node ≡ p) × IsSentIn e.outs a (PeerRecord.OnAssoc x y k r) → (slice_get (sent_on x y p h) k ≡ Some r → Found h) → Found (e ∷ h)
    go (inl old) rest = let w = rest old in (w.0, w.1, inr w.2)
    go (inr w) rest = (w.0, w.1, inl w.2)

pub come_took : (h : List Entry) (a : Addr) (x y : Mark) (q : ℕ) (r : DialogueRecord) → HasCome h a (PeerRecord.OnAssoc x y q r) → TookOn h a x y q r
come_took [] a x y q r k = k
come_took (e ∷ h) a x y q r (inl k) = inl k
come_took (e ∷ h) a x y q r (inr k) = inr (come_took h a x y q r k)

at_end : (xs ys : List DialogueRecord) (r : DialogueRecord) → slice_get (xs ++ r ∷ ys) (length xs) ≡ Some r
at_end [] ys r = refl
at_end (x ∷ xs) ys r = at_end xs ys r

beyond : (n : ℕ) → suc n ≤ n → ⊥
beyond n h = omega (arith, h)

pub all_taken : (es : List Happening) → AllTaken (run es)
all_taken es t drained fine x z m k x_in z_in = go pre.0 both
  where
    sent : List DialogueRecord
    sent = sent_on m k (number_of z) x.history

    taken : List DialogueRecord
    taken = accepted_on m k (number_of x) z.history

    pre : (more : List DialogueRecord) × (sent_on m k (number_of z) (history_at (run es).nodes (number_of x)) ≡ accepted_on m k (number_of x) (history_at (run es).nodes (number_of z)) ++ more)
    pre = prefix_list (run es).nodes (run es).frames (good_run es) (number_of z) (number_of x) m k

    both : sent ≡ taken ++ pre.0
    both =
        ap (sent_on m k (number_of z)) (sym (history_is (run es).nodes (number_of x) x x_in.here)) ∙ pre.1
        ∙ ap (λ (h : List Entry). accepted_on m k (number_of x) h ++ pre.0) (history_is (run es).nodes (number_of z) z z_in)

    go : (more : List DialogueRecord) → sent ≡ taken ++ more → sent ≡ taken
    go [] is = is ∙ append-nil taken
    go (r ∷ more) is =
        let w = sent_with x.origin x.superior x.history (number_of z) m k (length taken) r ((good_run es).legal (number_of x) x x_in.here) (ap (λ (rs : List DialogueRecord). slice_get rs (length taken)) is ∙ at_end taken more r) in
        let there : find_node (run es).nodes w.0.node ≡ Some z = ap (find_node (run es).nodes) w.1 ∙ z_in in
        let took = come_took z.history (addr_of x) m k (length taken) r (all_came es t drained fine x z w.0 (PeerRecord.OnAssoc m k (length taken) r) x_in w.2 there) in
        absurd (beyond (length taken) (taken_below z.origin z.superior z.history (addr_of x) m k (length taken) r ((good_run es).legal (number_of z) z z_in) took))

pub words_are_taken : (es : List Happening) → WordsAreTaken (run es)
words_are_taken es t drained x z a m k q r x_in z_in at sent =
    taken_below z.origin z.superior z.history (addr_of x) m k q r ((good_run es).legal (number_of z) z z_in)
    (come_took z.history (addr_of x) m k q r (drained.taken x z a (PeerRecord.OnAssoc m k q r) x_in sent (ap (find_node (run es).nodes) at ∙ z_in)))

-- ---- a word of the tree

-- it was sent in the tree, with that number
abbrev pub WasSaid : Origin → Aaid → List Entry → ℕ → Mark → Mark → ℕ → DialogueRecord → Type 0
WasSaid o t h p x y q r = (a : Addr) × (a.node ≡ p) × HasSaidIn o t h a (PeerRecord.OnAssoc x y q r)

-- by an entry that came while the tree was current
sent_since_in : (o : Origin) (t : Aaid) (e : Entry) (b h : List Entry) (a : Addr) (r : PeerRecord) → IsMoment e b h → is_now t (digest o b).current ≡ true → is_word_of t true r ≡ true → IsSentIn e.outs a r → HasSaidIn o t h a r
sent_since_in o t e b [] a r m now word s = absurd m
sent_since_in o t e b (f ∷ h) a r (inl m) now word s =
    let here : is_now t (digest o h).current ≡ true = subst (λ (l : List Entry). is_now t (digest o l).current ≡ true) (sym m.1) now in
    inl (ap (λ (v : Bool). is_word_of t v r) here ∙ word, subst (λ (v : Entry). IsSentIn v.outs a r) (sym m.0) s)
sent_since_in o t e b (f ∷ h) a r (inr m) now word s = inr (sent_since_in o t e b h a r m now word s)

-- a Begin of the tree was
pub begin_sent_in : (o : Origin) (t : Aaid) (h : List Entry) (a : Addr) (x y : Mark) (q : ℕ) (b : BranchId) (i : Holder) → HasSent h a (PeerRecord.OnAssoc x y q (DialogueRecord.Begin t b i)) → HasSaidIn o t h a (PeerRecord.OnAssoc x y q (DialogueRecord.Begin t b i))
begin_sent_in o t [] a x y q b i s = s
begin_sent_in o t (e ∷ h) a x y q b i (inl s) = inl (aaid_same t, s)
begin_sent_in o t (e ∷ h) a x y q b i (inr s) = inr (begin_sent_in o t h a x y q b i s)

get_below : (xs : List DialogueRecord) (k : ℕ) (r : DialogueRecord) → slice_get xs k ≡ Some r → suc k ≤ length xs
get_below [] k r h = absurd (cc (h))
get_below (x ∷ xs) zero r h = omega arith
get_below (x ∷ xs) (suc k) r h = let l = get_below xs k r h in omega (arith, l)

longer : (xs ys : List DialogueRecord) → length xs ≤ length (xs ++ ys)
longer [] ys = omega arith
longer (x ∷ xs) ys = let l = longer xs ys in omega (arith, l)

pub was_said : (o : Origin) (up : Option Addr) (t : Aaid) (e : Entry) (b h : List Entry) (p : ℕ) (x y : Mark) (before : List DialogueRecord) (w : DialogueRecord) (rest : List DialogueRecord) → IsMoment e b h → IsGrown o up (e ∷ b) → is_now t (digest o b).current ≡ true → ((n : ℕ) → is_word_of t true (PeerRecord.OnAssoc x y n w) ≡ true)
    → sent_on x y p (e ∷ b) ≡ (sent_on x y p b ++ before) ++ w ∷ rest → WasSaid o t h p x y (length (sent_on x y p b ++ before)) w
was_said o up t e b h p x y before w rest m legal now word is = go (sent_split o up e b p x y k w legal (ap (λ (rs : List DialogueRecord). slice_get rs k) is ∙ at_end (sent_on x y p b ++ before) rest w))
  where
    k : ℕ
    k = length (sent_on x y p b ++ before)

    over : (i j : ℕ) → suc j ≤ i → i ≤ j → ⊥
    over i j l n = absurd (omega (arith, l, n))

    go : (slice_get (sent_on x y p b) k ≡ Some w) ⊎ (a : Addr) × (a.node ≡ p) × IsSentIn e.outs a (PeerRecord.OnAssoc x y k w) → WasSaid o t h p x y k w
    go (inl old) = absurd (over (length (sent_on x y p b)) k (get_below (sent_on x y p b) k w old) (longer (sent_on x y p b) before))
    go (inr s) = (s.0, s.1, sent_since_in o t e b h s.0 (PeerRecord.OnAssoc x y k w) m now (word k) s.2)

-- the other end took it at its place
within : (before : List DialogueRecord) (w : DialogueRecord) (rest xs ys : List DialogueRecord) → before ++ w ∷ rest ≡ xs ++ ys → suc (length before) ≤ length xs → (less : List DialogueRecord) × (xs ≡ before ++ w ∷ less)
within before w rest [] ys is l = absurd (omega (arith, l))
within [] w rest (x ∷ xs) ys is l = let same : w ≡ x = cc (is) in (xs, ap (λ (v : DialogueRecord). v ∷ xs) (sym same))
within (c ∷ before) w rest (x ∷ xs) ys is l =
    let same : c ≡ x = cc (is) in
    let tail : before ++ w ∷ rest ≡ xs ++ ys = cc (is) in
    let r = within before w rest xs ys tail (less_by (length before) (length xs) l) in
    (r.0, both x c xs (before ++ w ∷ r.0) (sym same) r.1)
  where
    less_by : (i j : ℕ) → suc (suc i) ≤ suc j → suc i ≤ j
    less_by i j n = omega (arith, n)

    both : (v u : DialogueRecord) (vs us : List DialogueRecord) → v ≡ u → vs ≡ us → v ∷ vs ≡ u ∷ us
    both v u vs us i j = rw (i, j) refl

pub taken_at : (es : List Happening) (t : Aaid) → IsDrainedTree (run es) t → (x z : Node) (m k : Mark) (before : List DialogueRecord) (w : DialogueRecord) (rest : List DialogueRecord) → IsOf (run es) t x → IsIn (run es) z
    → sent_on m k (number_of z) x.history ≡ before ++ w ∷ rest → WasSaid x.origin t x.history (number_of z) m k (length before) w → (less : List DialogueRecord) × (accepted_on m k (number_of x) z.history ≡ before ++ w ∷ less)
taken_at es t drained x z m k before w rest x_in z_in sent said = within before w rest (accepted_on m k (number_of x) z.history) pre.0 (sym sent ∙ both) (words_are_taken es t drained x z said.0 m k (length before) w x_in z_in said.1 said.2)
  where
    pre : (more : List DialogueRecord) × (sent_on m k (number_of z) (history_at (run es).nodes (number_of x)) ≡ accepted_on m k (number_of x) (history_at (run es).nodes (number_of z)) ++ more)
    pre = prefix_list (run es).nodes (run es).frames (good_run es) (number_of z) (number_of x) m k

    both : sent_on m k (number_of z) x.history ≡ accepted_on m k (number_of x) z.history ++ pre.0
    both =
        ap (sent_on m k (number_of z)) (sym (history_is (run es).nodes (number_of x) x x_in.here)) ∙ pre.1
        ∙ ap (λ (h : List Entry). accepted_on m k (number_of x) h ++ pre.0) (history_is (run es).nodes (number_of z) z z_in)
