-- In every run a superior takes from a branch only words of Begins that it has sent.
use Rattle.std.proofs.Common.{◌≡◌, ◌≤◌, ◌+◌, inl, inr, ℕ, zero, suc, Bool, true, false, cond, refl, ap, sym, subst, ◌∙◌, arith, Option, Some, None, List, [], ◌∷◌, ◌++◌, ◌||◌, ◌==◌, not, length, slice_get}
use Rattle.std.proofs.lemmas.Bool.Decides.{nat_tests}
use Rattle.tp_names.specs.declared.identifiers.Mark.{Mark}
use Rattle.tp_names.specs.declared.identifiers.Aaid.{Aaid}
use Rattle.tp_names.specs.declared.identifiers.Addr.{Addr}
use Rattle.tp_names.specs.declared.outcome.Outcome.{Outcome}
use Rattle.tp_names.specs.declared.outcome.Report.{Report}
use Rattle.tp_records.specs.declared.dialogue.DialogueRecord.{DialogueRecord}
use Rattle.tp_records.specs.declared.peer.PeerRecord.{PeerRecord}
use Rattle.tp_logrec.specs.declared.record.LogRec.{LogRec}
use Rattle.tp_model.specs.Parts.{Origin, Event, Entry}
use Rattle.tp_model.specs.History.{records, entry_of}
use Rattle.tp_model.specs.Outcomes.{rolled, has_left, completed_none}
use Rattle.tp_model.specs.Promises.{has_told_in}
use Rattle.tp_model.specs.Questions.{is_at}
use Rattle.tp_model.specs.World.{Node, Frame, number_of, find_node, put_node}
use Rattle.tp_model.specs.Happenings.{Happening, run}
use Rattle.tp_model.specs.Legal.{IsGrown}
use Rattle.tp_steps.specs.Histories.{brought}
use Rattle.tp_steps.specs.Trees.{out_tells}
use Rattle.tp_steps.specs.Clearing.{is_complete}
use Rattle.tp_histories.specs.Histories.{HasSent, HasBrought}
use Rattle.tp_histories.specs.Worlds.{place, IsGood, grown_node, Comes}
use Rattle.tp_histories.specs.Traces.{sent_on, accepted_on}
use Rattle.tp_steps.specs.Facts.{is_vote, is_voted, ends, ends_in, BranchKey, begun_keys, each_vote}
use Rattle.tp_steps.specs.Upward.{voting, voting_from, each_up, Deeds, holds_at, may_say}
use Rattle.tp_histories.specs.Upward.{deeds_of, SpeaksUp}
use Rattle.tp_histories.specs.Members.{IsUnique}
use Rattle.tp_runs.specs.Heeded.{is_heeded, heeds_event, heeds, HeedsBranches}
use Rattle.tp_histories.proofs.worlds.Nodes.{find_put, find_append}
use Rattle.tp_steps.proofs.lemmas.Words.{keys_append, vote_append, commit_more, ready_more, damage_more}
use Rattle.tp_steps.proofs.lemmas.UpwardWords.{up_append, say_wider, still_kept}
use Rattle.tp_steps.proofs.lemmas.Folds.{key_before}
use Rattle.tp_histories.proofs.marks.Traced.{traced_law}
use Rattle.tp_histories.proofs.worlds.Prefix.{sent_at, took_place, prefix_list}
use Rattle.tp_histories.proofs.pairs.PairedSteps.{paired_law}
use Rattle.tp_histories.proofs.upward.SpeaksUp.{speaks_law}
use Rattle.tp_runs.proofs.Family.{history_is}
use Rattle.tp_histories.proofs.worlds.Good.{Sender, was_sent, Step, law}
use Rattle.tp_histories.proofs.worlds.Unique.{unique_comes, unique_event}
use Rattle.tp_steps.proofs.lemmas.Equality.{and_left, and_right, both_true}
use Rattle.tp_steps.proofs.lemmas.Options.{some_same}

-- ---- the peer's deeds and its log grow

record Grows (g k : Deeds) (rs ls : List LogRec) : Type 0 where
  committed : (t : Aaid) → g.committed t ≡ true → k.committed t ≡ true
  rolled : (t : Aaid) → g.rolled t ≡ true → k.rolled t ≡ true
  left : (t : Aaid) → g.left t ≡ true → k.left t ≡ true
  completed : (t : Aaid) → g.completed t ≡ true → k.completed t ≡ true
  damaged : (t : Aaid) → g.damaged t ≡ true → k.damaged t ≡ true
  told : (u : Outcome) (r : Report) (t : Aaid) → g.told u r t ≡ true → k.told u r t ≡ true
  voted : (ks : List BranchKey) (n : ℕ) → is_voted ks rs n ≡ true → is_voted ks ls n ≡ true

holds_more : (ks more : List BranchKey) (n : ℕ) (f g : Aaid → Bool) → ((t : Aaid) → f t ≡ true → g t ≡ true) → holds_at ks n f ≡ true → holds_at (ks ++ more) n g ≡ true
holds_more ks more n f g w i = go (slice_get ks n) refl
  where
    go : (b : Option BranchKey) → slice_get ks n ≡ b → holds_at (ks ++ more) n g ≡ true
    go None j = absurd (cc (rw (j, holds_at) at i))
    go (Some b) j =
        let one : f b.0 ≡ true = rw (j, holds_at) at i in
        let wide : slice_get (ks ++ more) n ≡ Some b = key_before ks more n b j in
        rw (wide, holds_at) (w b.0 one)

holds_grown : (ks : List BranchKey) (n : ℕ) (f g : Aaid → Bool) → ((t : Aaid) → f t ≡ true → g t ≡ true) → holds_at ks n f ≡ true → holds_at ks n g ≡ true
holds_grown ks n f g w i = go (slice_get ks n) refl
  where
    go : (b : Option BranchKey) → slice_get ks n ≡ b → holds_at ks n g ≡ true
    go None j = absurd (cc (rw (j, holds_at) at i))
    go (Some b) j =
        let one : f b.0 ≡ true = rw (j, holds_at) at i in
        rw (j, holds_at) (w b.0 one)

vote_kept : (b c d : Bool) → (c ≡ true → d ≡ true) → (not b || c) ≡ true → (not b || d) ≡ true
vote_kept false c d f h = refl
vote_kept true c d f h = f h

heeded_more : (g k : Deeds) (rs ls : List LogRec) → Grows g k rs ls → (ks : List BranchKey) (n : ℕ) (v : Bool) (r : DialogueRecord) → is_heeded ks g rs n v r ≡ true → is_heeded ks k ls n v r ≡ true
heeded_more g k rs ls w ks n v r h =
    both_true (may_say ks k n v r) (not (is_vote r) || is_voted ks ls n)
    (say_wider ks ks g k (λ m. (λ i. holds_grown ks m g.committed k.committed w.committed i, λ i. holds_grown ks m g.rolled k.rolled w.rolled i, λ i. holds_grown ks m g.left k.left w.left i, λ i. holds_grown ks m g.completed k.completed w.completed i, λ i. holds_grown ks m g.damaged k.damaged w.damaged i, λ u r i. holds_grown ks m (g.told u r) (k.told u r) (w.told u r) i)) n v r (and_left (may_say ks g n v r) (not (is_vote r) || is_voted ks rs n) h))
    (vote_kept (is_vote r) (is_voted ks rs n) (is_voted ks ls n) (w.voted ks n) (and_right (may_say ks g n v r) (not (is_vote r) || is_voted ks rs n) h))

event_more : (g k : Deeds) (rs ls : List LogRec) → Grows g k rs ls → (p : ℕ) (h : List Entry) (e : Event) → heeds_event g rs p h e ≡ true → heeds_event k ls p h e ≡ true
event_more g k rs ls w p h (Event.Arrive a (PeerRecord.OnAssoc x y q r)) i =
    still_kept (not (a.node == p)) (is_heeded (begun_keys (sent_on x y p h)) g rs (ends_in (accepted_on x y p h)) (voting_from false (accepted_on x y p h)) r)
    (is_heeded (begun_keys (sent_on x y p h)) k ls (ends_in (accepted_on x y p h)) (voting_from false (accepted_on x y p h)) r)
    (heeded_more g k rs ls w (begun_keys (sent_on x y p h)) (ends_in (accepted_on x y p h)) (voting_from false (accepted_on x y p h)) r) i
event_more g k rs ls w p h e i = refl

heeds_more : (g k : Deeds) (rs ls : List LogRec) → Grows g k rs ls → (p : ℕ) (h : List Entry) → heeds g rs p h ≡ true → heeds k ls p h ≡ true
heeds_more g k rs ls w p [] i = refl
heeds_more g k rs ls w p (e ∷ h) i =
    both_true (heeds_event k ls p h e.event) (heeds k ls p h)
    (event_more g k rs ls w p h e.event (and_left (heeds_event g rs p h e.event) (heeds g rs p h) i))
    (heeds_more g k rs ls w p h (and_right (heeds_event g rs p h e.event) (heeds g rs p h) i))

grown : (o : Origin) (e : Entry) (h : List Entry) → Grows (deeds_of o h) (deeds_of o (e ∷ h)) (records o h) (records o (e ∷ h))
grown o e h = record {
  committed = λ t i. commit_more t e.rec (records o h) i;
  rolled = λ t i. let r : rolled o t h ≡ true = i in rw r (grind arith);
  left = λ t i. let r : has_left o t h ≡ true = i in rw r (grind arith);
  completed = λ t i. let r : completed_none o t h ≡ true = i in rw r (grind arith);
  damaged = λ t i. damage_more t e.rec (records o h) i;
  told = λ u r t i. let s : has_told_in (out_tells (is_complete u r)) o t h ≡ true = i in rw s (grind arith);
  voted = λ ks n i. go ks n (slice_get ks n) refl i;
}
  where
    go : (ks : List BranchKey) (n : ℕ) (b : Option BranchKey) → slice_get ks n ≡ b → is_voted ks (records o h) n ≡ true → is_voted ks (records o (e ∷ h)) n ≡ true
    go ks n None i v = absurd (cc (rw (i, is_voted) at v))
    go ks n (Some b) i v = rw (i, is_voted) (ready_more b e.rec (records o h) (rw (i, is_voted) at v))

-- ---- a word that is taken

get_next : (xs more : List DialogueRecord) (n : ℕ) (r : DialogueRecord) → length xs ≡ n → slice_get (xs ++ more) n ≡ Some r → (rest : List DialogueRecord) × (more ≡ r ∷ rest)
get_next [] [] n r e h = absurd (cc (h))
get_next [] (y ∷ ys) n r e h = let z : n ≡ 0 = sym e in let one : Some y ≡ Some r = rw z at h in (ys, head_same y r ys one)
  where
    head_same : (a b : DialogueRecord) (ys : List DialogueRecord) → Some a ≡ Some b → a ∷ ys ≡ b ∷ ys
    head_same a b ys i = let same : a ≡ b = cc (i) in rw same refl
get_next (x ∷ xs) more zero r e h = absurd (cc (e))
get_next (x ∷ xs) more (suc n) r e h = get_next xs more n r (less e) h
  where
    less : suc (length xs) ≡ suc n → length xs ≡ n
    less i = omega (arith, i)

pub zero_more : (n : ℕ) → n + 0 ≡ n
zero_more n = omega arith

-- of all that was sent, this word
pub said_there : (ks : List BranchKey) (g : Deeds) (before rest : List DialogueRecord) (r : DialogueRecord) → each_up (may_say ks g) 0 false (before ++ r ∷ rest) ≡ true → may_say ks g (ends_in before) (voting_from false before) r ≡ true
said_there ks g before rest r h =
    let tail = and_right (each_up (may_say ks g) 0 false before) (each_up (may_say ks g) (ends_in before + 0) (voting_from false before) (r ∷ rest)) (sym (up_append (may_say ks g) 0 false before (r ∷ rest)) ∙ h) in
    let at : each_up (may_say ks g) (ends_in before) (voting_from false before) (r ∷ rest) ≡ true = subst (λ (n : ℕ). each_up (may_say ks g) n (voting_from false before) (r ∷ rest) ≡ true) (zero_more (ends_in before)) tail in
    and_left (may_say ks g (ends_in before) (voting_from false before) r) (each_up (may_say ks g) (ends r + ends_in before) (voting (voting_from false before) r) rest) at

pub voted_there : (f : ℕ → Bool) (before rest : List DialogueRecord) (r : DialogueRecord) → each_vote f 0 (before ++ r ∷ rest) ≡ true → (not (is_vote r) || f (ends_in before)) ≡ true
voted_there f before rest r h =
    let tail = and_right (each_vote f 0 before) (each_vote f (ends_in before + 0) (r ∷ rest)) (sym (vote_append f 0 before (r ∷ rest)) ∙ h) in
    let at : each_vote f (ends_in before) (r ∷ rest) ≡ true = subst (λ (n : ℕ). each_vote f n (r ∷ rest) ≡ true) (zero_more (ends_in before)) tail in
    and_left (not (is_vote r) || f (ends_in before)) (each_vote f (ends r + ends_in before) rest) at

pub voted_wide : (ks more : List BranchKey) (rs : List LogRec) (n : ℕ) → is_voted ks rs n ≡ true → is_voted (ks ++ more) rs n ≡ true
voted_wide ks more rs n v = go (slice_get ks n) refl
  where
    go : (b : Option BranchKey) → slice_get ks n ≡ b → is_voted (ks ++ more) rs n ≡ true
    go None i = absurd (cc (rw (i, is_voted) at v))
    go (Some b) i = let wide : slice_get (ks ++ more) n ≡ Some b = key_before ks more n b i in rw (wide, is_voted) (rw (i, is_voted) at v)

pub word_taken : (ns : List Node) (fs : List Frame) (x y : Node) (a : Addr) (m k : Mark) (q : ℕ) (r : DialogueRecord) → Step ns fs x (Event.Arrive a (PeerRecord.OnAssoc m k q r)) → IsUnique ns → find_node ns (number_of y) ≡ Some y → is_at y.superior (number_of x) ≡ true → a.node ≡ number_of y
    → is_heeded (begun_keys (sent_on m k (number_of y) x.history)) (deeds_of y.origin y.history) (records y.origin y.history) (ends_in (accepted_on m k (number_of y) x.history)) (voting_from false (accepted_on m k (number_of y) x.history)) r ≡ true
word_taken ns fs x y a m k q r st unique here under at =
    both_true (may_say (begun_keys (sent_on m k (number_of y) x.history)) g n v r) (not (is_vote r) || is_voted (begun_keys (sent_on m k (number_of y) x.history)) rs n)
    (subst (λ (ks : List BranchKey). may_say ks g n v r ≡ true) (sym wide)
    (say_wider heard (heard ++ begun_keys down.0) g g (λ j. (λ i. holds_more heard (begun_keys down.0) j g.committed g.committed (λ t h. h) i, λ i. holds_more heard (begun_keys down.0) j g.rolled g.rolled (λ t h. h) i, λ i. holds_more heard (begun_keys down.0) j g.left g.left (λ t h. h) i, λ i. holds_more heard (begun_keys down.0) j g.completed g.completed (λ t h. h) i, λ i. holds_more heard (begun_keys down.0) j g.damaged g.damaged (λ t h. h) i, λ u r i. holds_more heard (begun_keys down.0) j (g.told u r) (g.told u r) (λ t h. h) i)) n v r
    (said_there heard g before next.0 r (subst (λ (l : List DialogueRecord). each_up (may_say heard g) 0 false l ≡ true) sent (speaks.words (number_of x) m k under)))))
    (subst (λ (ks : List BranchKey). (not (is_vote r) || is_voted ks rs n) ≡ true) (sym wide)
    (vote_kept (is_vote r) (is_voted heard rs n) (is_voted (heard ++ begun_keys down.0) rs n) (voted_wide heard (begun_keys down.0) rs n)
    (voted_there (is_voted heard rs) before next.0 r (subst (λ (l : List DialogueRecord). each_vote (is_voted heard rs) 0 l ≡ true) sent (votes (number_of x) m k)))))
  where
    g : Deeds
    g = deeds_of y.origin y.history

    rs : List LogRec
    rs = records y.origin y.history

    before : List DialogueRecord
    before = accepted_on m k (number_of y) x.history

    n : ℕ
    n = ends_in before

    v : Bool
    v = voting_from false before

    heard : List BranchKey
    heard = begun_keys (accepted_on m k (number_of x) y.history)

    legal_x : IsGrown x.origin x.superior x.history
    legal_x = st.good.legal (number_of x) x st.accepts.here

    legal_y : IsGrown y.origin y.superior y.history
    legal_y = st.good.legal (number_of y) y here

    fresh_y : y.origin.start.records ≡ []
    fresh_y = st.good.fresh (number_of y) y here

    speaks : SpeaksUp y.origin y.superior y.history
    speaks = speaks_law y.origin y.superior y.history fresh_y legal_y (unique.once (number_of y) y here)

    votes : (p : ℕ) (z w : Mark) → each_vote (is_voted (begun_keys (accepted_on z w p y.history)) rs) 0 (sent_on z w p y.history) ≡ true
    votes = (paired_law y.origin y.superior y.history fresh_y legal_y).votes

    -- it was sent by the branch, at its number
    s : Sender ns a (number_of x) (PeerRecord.OnAssoc m k q r)
    s = was_sent ns fs a (number_of x) (PeerRecord.OnAssoc m k q r) st.good.sent (st.accepts.came a (PeerRecord.OnAssoc m k q r) refl)

    same : s.node ≡ y
    same = some_same s.node y (sym s.found ∙ ap (find_node ns) at ∙ here)

    placed : slice_get (sent_on m k (number_of x) y.history) q ≡ Some r
    placed =
        subst (λ (j : ℕ). slice_get (sent_on m k j y.history) q ≡ Some r) s.at
        (sent_at y.origin y.superior y.history s.to m k q r legal_y (subst (λ (u : Node). HasSent u.history s.to (PeerRecord.OnAssoc m k q r)) same s.sent))

    long : length before ≡ q
    long = subst (λ (j : ℕ). length (accepted_on m k j x.history) ≡ q) at (took_place x.origin x.superior x.history a m k q r (traced_law x.origin x.superior x.history legal_x) st.accepts.ok)

    up : (more : List DialogueRecord) × (sent_on m k (number_of x) y.history ≡ before ++ more)
    up =
        let pre = prefix_list ns fs st.good (number_of x) (number_of y) m k in
        (pre.0, ap (sent_on m k (number_of x)) (sym (history_is ns (number_of y) y here)) ∙ pre.1 ∙ ap (λ (h : List Entry). accepted_on m k (number_of y) h ++ pre.0) (history_is ns (number_of x) x st.accepts.here))

    next : (rest : List DialogueRecord) × (up.0 ≡ r ∷ rest)
    next = get_next before up.0 q r long (ap (λ (l : List DialogueRecord). slice_get l q) (sym up.1) ∙ placed)

    sent : sent_on m k (number_of x) y.history ≡ before ++ r ∷ next.0
    sent = up.1 ∙ ap (λ (l : List DialogueRecord). before ++ l) next.1

    down : (more : List DialogueRecord) × (sent_on m k (number_of y) x.history ≡ accepted_on m k (number_of x) y.history ++ more)
    down =
        let pre = prefix_list ns fs st.good (number_of y) (number_of x) m k in
        (pre.0, ap (sent_on m k (number_of y)) (sym (history_is ns (number_of x) x st.accepts.here)) ∙ pre.1 ∙ ap (λ (h : List Entry). accepted_on m k (number_of x) h ++ pre.0) (history_is ns (number_of y) y here))

    wide : begun_keys (sent_on m k (number_of y) x.history) ≡ heard ++ begun_keys down.0
    wide = ap begun_keys down.1 ∙ keys_append (accepted_on m k (number_of x) y.history) down.0

event_taken : (ns : List Node) (fs : List Frame) (x y : Node) (e : Event) → Step ns fs x e → IsUnique ns → find_node ns (number_of y) ≡ Some y → is_at y.superior (number_of x) ≡ true
    → heeds_event (deeds_of y.origin y.history) (records y.origin y.history) (number_of y) x.history e ≡ true
event_taken ns fs x y (Event.Arrive a (PeerRecord.OnAssoc m k q r)) st unique here under = go (a.node == number_of y) refl
  where
    go : (b : Bool) → (a.node == number_of y) ≡ b
        → (not b || is_heeded (begun_keys (sent_on m k (number_of y) x.history)) (deeds_of y.origin y.history) (records y.origin y.history) (ends_in (accepted_on m k (number_of y) x.history)) (voting_from false (accepted_on m k (number_of y) x.history)) r) ≡ true
    go false i = refl
    go true i = let at : a.node ≡ number_of y = grind (arith, nat_tests, i) in word_taken ns fs x y a m k q r st unique here under at
event_taken ns fs x y e st unique here under = refl

-- ---- the steps of a run

pub own_superior : (ns : List Node) (fs : List Frame) (x : Node) → IsGood ns fs → find_node ns (number_of x) ≡ Some x → is_at x.superior (number_of x) ≡ true → ⊥
own_superior ns fs x good here under = go x.superior refl
  where
    never : (a b : ℕ) → a ≡ b → suc a ≤ b → ⊥
    never a b h i = omega (arith, h, i)

    go : (s : Option Addr) → x.superior ≡ s → ⊥
    go None i = absurd (cc (ap (λ (u : Option Addr). is_at u (number_of x)) i, under))
    go (Some a) i =
        let at : is_at (Some a) (number_of x) ≡ true = ap (λ (u : Option Addr). is_at u (number_of x)) (sym i) ∙ under in
        let same : a.node ≡ number_of x = grind (arith, nat_tests, at) in
        let above = good.above (number_of x) x a here i in
        never (place ns a.node) (place ns (number_of x)) (ap (place ns) same) above.before

-- of a node that sent nothing
none_taken : (g : Deeds) (rs : List LogRec) (p : ℕ) (h : List Entry) → ((a : Addr) (r : PeerRecord) → HasBrought h a r → a.node ≡ p → ⊥) → heeds g rs p h ≡ true
none_taken g rs p [] none = refl
none_taken g rs p (e ∷ h) none = both_true (heeds_event g rs p h e.event) (heeds g rs p h) (here e.event refl) (none_taken g rs p h (λ a r t. none a r (inr t)))
  where
    here : (f : Event) → e.event ≡ f → heeds_event g rs p h f ≡ true
    here (Event.Arrive a (PeerRecord.OnAssoc x y q r)) i = go (a.node == p) refl
      where
        go : (b : Bool) → (a.node == p) ≡ b → (not b || is_heeded (begun_keys (sent_on x y p h)) g rs (ends_in (accepted_on x y p h)) (voting_from false (accepted_on x y p h)) r) ≡ true
        go false j = refl
        go true j = let at : a.node ≡ p = grind (arith, nat_tests, j) in absurd (none a (PeerRecord.OnAssoc x y q r) (inl (ap brought i)) at)
    here f i = refl

pub heeds_comes : (ns : List Node) (fs : List Frame) (x : Node) → Comes ns x → IsGood ns fs → HeedsBranches ns → HeedsBranches (ns ++ x ∷ [])
heeds_comes ns fs x c good old u z hu hz under = go (number_of x == number_of u) refl (number_of x == number_of z) refl
  where
    at : (n : ℕ) → find_node (ns ++ x ∷ []) n ≡ cond (number_of x == n) (Some x) (find_node ns n)
    at n = find_append ns x n c.none

    new : (n : ℕ) (y : Node) → (number_of x == n) ≡ true → find_node (ns ++ x ∷ []) n ≡ Some y → x ≡ y
    new n y b i = grind (arith, at n, b, i)

    was : (n : ℕ) (y : Node) → (number_of x == n) ≡ false → find_node (ns ++ x ∷ []) n ≡ Some y → find_node ns n ≡ Some y
    was n y b i = grind (arith, at n, b, i)

    go : (b : Bool) → (number_of x == number_of u) ≡ b → (d : Bool) → (number_of x == number_of z) ≡ d → heeds (deeds_of z.origin z.history) (records z.origin z.history) (number_of z) u.history ≡ true
    go true i d j =
        let same = new (number_of u) u i hu in
        let bare : u.history ≡ [] = ap (λ (v : Node). v.history) (sym same) ∙ c.bare in
        ap (heeds (deeds_of z.origin z.history) (records z.origin z.history) (number_of z)) bare
    go false i false j = old u z (was (number_of u) u i hu) (was (number_of z) z j hz) under
    go false i true j =
        none_taken (deeds_of z.origin z.history) (records z.origin z.history) (number_of z) u.history
        (λ a r t n.
        let s : Sender ns a (number_of u) r = was_sent ns fs a (number_of u) r good.sent (good.taken (number_of u) u a r (was (number_of u) u i hu) t) in
        let eq : number_of x ≡ number_of z = grind (arith, nat_tests, j) in
        cc (s.found, ap (find_node ns) (n ∙ sym eq), c.none))

abbrev Heeds : Node → Node → Type 0
Heeds a b = heeds (deeds_of b.origin b.history) (records b.origin b.history) (number_of b) a.history ≡ true

pub heeds_step : (ns : List Node) (fs : List Frame) (x : Node) (e : Event) → Step ns fs x e → IsUnique ns → HeedsBranches ns → HeedsBranches (put_node ns (grown_node x e))
heeds_step ns fs x e st unique old u z hu hz under = go (number_of x == number_of u) refl (number_of x == number_of z) refl
  where
    y : Node
    y = grown_node x e

    at : (n : ℕ) → find_node (put_node ns y) n ≡ cond (number_of x == n) (Some y) (find_node ns n)
    at n = find_put ns y x n st.accepts.here

    new : (n : ℕ) (v : Node) → (number_of x == n) ≡ true → find_node (put_node ns y) n ≡ Some v → y ≡ v
    new n v b i = grind (arith, at n, b, i)

    was : (n : ℕ) (v : Node) → (number_of x == n) ≡ false → find_node (put_node ns y) n ≡ Some v → find_node ns n ≡ Some v
    was n v b i = grind (arith, at n, b, i)

    above : (v : Node) → find_node ns (number_of v) ≡ Some v → is_at v.superior (number_of x) ≡ true → Heeds y v
    above v here below =
        both_true (heeds_event (deeds_of v.origin v.history) (records v.origin v.history) (number_of v) x.history e) (heeds (deeds_of v.origin v.history) (records v.origin v.history) (number_of v) x.history)
        (event_taken ns fs x v e st unique here below) (old x v st.accepts.here here below)

    go : (b : Bool) → (number_of x == number_of u) ≡ b → (d : Bool) → (number_of x == number_of z) ≡ d → heeds (deeds_of z.origin z.history) (records z.origin z.history) (number_of z) u.history ≡ true
    go true i true j =
        let su = new (number_of u) u i hu in
        let sz = new (number_of z) z j hz in
        let one : is_at y.superior (number_of u) ≡ true = ap (λ (v : Node). is_at v.superior (number_of u)) sz ∙ under in
        let own : is_at x.superior (number_of x) ≡ true = ap (λ (v : Node). is_at x.superior (number_of v)) su ∙ one in
        absurd (own_superior ns fs x st.good st.accepts.here own)
    go true i false j =
        let su = new (number_of u) u i hu in
        subst (λ (v : Node). Heeds v z) su (above z (was (number_of z) z j hz) (ap (λ (v : Node). is_at z.superior (number_of v)) su ∙ under))
    go false i true j =
        let sz = new (number_of z) z j hz in
        let below : is_at x.superior (number_of u) ≡ true = ap (λ (v : Node). is_at v.superior (number_of u)) sz ∙ under in
        subst (λ (v : Node). Heeds u v) sz
        (heeds_more (deeds_of x.origin x.history) (deeds_of y.origin y.history) (records x.origin x.history) (records y.origin y.history) (grown x.origin (entry_of x.origin x.history e) x.history) (number_of x) u.history
        (old u x (was (number_of u) u i hu) st.accepts.here below))
    go false i false j = old u z (was (number_of u) u i hu) (was (number_of z) z j hz) under

pub heeds_run : (es : List Happening) → HeedsBranches (run es).nodes
heeds_run es = (law (λ ns fs. IsUnique ns × HeedsBranches ns) (record {
  start = (record { once = λ n x i. absurd (cc (i)); drawn = λ n x t i k. absurd (cc (i)) }, λ x y hx hy under. absurd (cc (hx)));
  comes = λ ns fs x c g p. (unique_comes ns fs x c g p.0, heeds_comes ns fs x c g p.1);
  event = λ ns fs x e st b p. (unique_event ns fs x e st p.0, heeds_step ns fs x e st p.0 p.1);
  mark = λ ns fs k p. p;
}) es).1
