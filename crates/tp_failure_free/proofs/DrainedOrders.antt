-- In a drained tree without failure a branch takes its superior's order while the tree is current.
use Rattle.std.proofs.Common.{◌≡◌, ◌⊎◌, inl, inr, ℕ, Bool, true, false, refl, ap, sym, subst, ◌∙◌, arith, Option, Some, None, List, [], ◌∷◌, ◌++◌, ◌&&◌, ◌||◌, not, length, append_assoc}
use Rattle.tp_names.specs.declared.identifiers.Mark.{Mark}
use Rattle.tp_names.specs.declared.identifiers.Aaid.{Aaid}
use Rattle.tp_names.specs.declared.identifiers.BranchId.{BranchId}
use Rattle.tp_names.specs.declared.identifiers.Addr.{Addr}
use Rattle.tp_names.specs.Same.{is_aaid}
use Rattle.tp_records.specs.declared.dialogue.DialogueRecord.{DialogueRecord}
use Rattle.tp_records.specs.declared.peer.PeerRecord.{PeerRecord}
use Rattle.tp_logrec.specs.declared.record.LogRec.{LogRec}
use Rattle.tp_model.specs.Parts.{Origin, Event, Out, Entry, Live, Under, Current, Digest}
use Rattle.tp_model.specs.Links.{is_live}
use Rattle.tp_model.specs.Arcs.{link_with}
use Rattle.tp_model.specs.Transactions.{aaid_of, is_under_at}
use Rattle.tp_model.specs.Events.{action}
use Rattle.tp_model.specs.History.{digest, with_rec}
use Rattle.tp_model.specs.Outcomes.{is_now, has_commit_of, rolls}
use Rattle.tp_model.specs.Questions.{is_at, said_to, has_said}
use Rattle.tp_model.specs.World.{number_of, find_node}
use Rattle.tp_model.specs.Happenings.{Happening, run}
use Rattle.tp_model.specs.Legal.{IsGrown}
use Rattle.tp_model.specs.Promises.{has_told_in}
use Rattle.tp_histories.specs.Worlds.{IsGood}
use Rattle.tp_steps.specs.Moves.{is_word, prelude}
use Rattle.tp_steps.specs.Traces.{took_of}
use Rattle.tp_histories.specs.Traces.{sent_on, accepted_on}
use Rattle.tp_steps.specs.Facts.{is_order, BranchKey, begins_by, last_from, each_under, is_ordered, IsHeard}
use Rattle.tp_steps.specs.Trees.{commits_tree}
use Rattle.tp_histories.specs.Members.{is_begun_by, has_taken_begin, is_own, IsOnce}
use Rattle.tp_failure_free.specs.DrainedWorlds.{is_word_of, says, OrdersAreTaken}
use Rattle.tp_histories.proofs.trees.Late.{late_law}
use Rattle.tp_steps.proofs.words.Leaves.{aaid_same}
use Rattle.tp_steps.proofs.lemmas.Equality.{aaids_equal, and_left, and_right}
use Rattle.tp_steps.proofs.lemmas.Words.{last_append, under_append}
use Rattle.tp_steps.proofs.lemmas.Folds.{words_under, quiet_order}
use Rattle.tp_steps.proofs.words.Treed.{now_some}
use Rattle.tp_histories.proofs.trees.Knowing.{treed_event}
use Rattle.tp_histories.proofs.trees.Behind.{commit_logged}
use Rattle.tp_histories.proofs.worlds.TreeMembers.{own_untaken}
use Rattle.tp_steps.proofs.words.Heard.{heard_event}
use Rattle.tp_histories.proofs.pairs.Paired.{AtPrelude, at_prelude}
use Rattle.tp_histories.proofs.pairs.PairedSteps.{paired_law, reads_event, placed_event, told_entry, sent_said}
use Rattle.tp_histories.proofs.worlds.Good.{good_run}
use Rattle.tp_histories.proofs.worlds.Unique.{unique_run}
use Rattle.tp_agreement.proofs.AccountSteps.{took_case, took_here}
use Rattle.tp_agreement.proofs.BelowRuns.{branch_above}
use Rattle.tp_failure_free.proofs.DrainedTaken.{WasSaid, was_said, taken_at}
use Rattle.tp_failure_free.proofs.Moments.{moment_legal, moment_once, now_since, sent_since, TakenThen, taken_then, took_then, ToldThen, told_then, Said, said_word}
use Rattle.tp_failure_free.proofs.DrainedWords.{said_words, live_parts, same_current, under_superior, heard_word}
use Rattle.tp_agreement.proofs.RollsUp.{known_taken}

-- ---- what a superior ordered in a tree

-- Commit, after the Begin of the tree
record Ordered (o : Origin) (h : List Entry) (t : Aaid) (p : ℕ) : Type 0 where
  x : Mark
  y : Mark
  before : List DialogueRecord
  word : DialogueRecord
  rest : List DialogueRecord
  id : BranchId
  kind : is_order word ≡ true
  sent : sent_on x y p h ≡ before ++ word ∷ rest
  last : last_from None before ≡ Some (t, id)
  said : WasSaid o t h p x y (length before) word

order_of_tree : (t : Aaid) (x y : Mark) (n : ℕ) (r : DialogueRecord) → is_order r ≡ true → is_word_of t true (PeerRecord.OnAssoc x y n r) ≡ true
order_of_tree t x y n DialogueRecord.Commit h = refl
order_of_tree t x y n r h = absurd (cc (h))

order_word : (r : DialogueRecord) → is_order r ≡ true → is_word r ≡ true
order_word DialogueRecord.Commit h = refl
order_word r h = absurd (cc (h))

-- the one record of an event
commit_in : (t : Aaid) (r : Option LogRec) → has_commit_of t (with_rec r []) ≡ true → commits_tree t r ≡ true
commit_in t (Some (LogRec.Commit n k s cs)) h = grind (arith, h)
commit_in t _ h = absurd (cc (h))

-- a record that stands under the last Begin before it
stands_under : (f : DialogueRecord → Bool) (g : Option BranchKey → Bool) (k : Option BranchKey) (before : List DialogueRecord) (r : DialogueRecord) (rest : List DialogueRecord) → each_under f g k (before ++ r ∷ rest) ≡ true → f r ≡ true → g (last_from k before) ≡ true
stands_under f g k before r rest each kind =
    let tail = and_right (each_under f g k before) (each_under f g (last_from k before) (r ∷ rest)) (sym (under_append f g k before (r ∷ rest)) ∙ each) in
    let one : (not (f r) || g (last_from k before)) ≡ true = and_left (not (f r) || g (last_from k before)) (each_under f g (begins_by (last_from k before) r) rest) tail in
    rw kind at one

ordered : (o : Origin) (up : Option Addr) (h : List Entry) (t : Aaid) (p : ℕ) → o.start.records ≡ [] → IsGrown o up h → IsOnce o h → has_told_in (says p is_order) o t h ≡ true → Ordered o h t p
ordered o up h t p empty legal once told = record {
  x = l.0;
  y = l.1;
  before = before;
  word = word.word;
  rest = word.rest ++ more.0;
  id = key.0.1;
  kind = word.kind;
  sent = more.1 ∙ ap (λ (rs : List DialogueRecord). rs ++ more.0) sent ∙ append_assoc before (word.word ∷ word.rest) more.0;
  last = last_append None first word.before ∙ key.1 ∙ made key.0 tree;
  said = was_said o up t e b h p l.0 l.1 word.before word.word word.rest m.moment legal_now m.now (λ n. order_of_tree t l.0 l.1 n word.word word.kind) sent;
}
  where
    m : ToldThen (says p is_order) o t h
    m = told_then (says p is_order) o t h told

    e : Entry
    e = m.entry

    b : List Entry
    b = m.behind

    d : Digest
    d = digest o b

    s : Digest
    s = prelude o.who d e.event

    legal_now : IsGrown o up (e ∷ b)
    legal_now = moment_legal o up e b h m.moment legal

    outs : List Out
    outs = (action o.who d e.event).outs

    tells : has_said is_order (said_to p outs) ≡ true
    tells = ap (λ (v : Entry). has_said is_order (said_to p v.outs)) legal_now.1 ∙ m.tells

    current : s.current ≡ d.current
    current = same_current o up e b t legal_now m.now (λ none. absurd (cc (m.tells, ap (says p is_order) none)))

    heard : IsHeard p (is_at up p) (rolls o.who d e.event) 1 s s (action o.who d e.event)
    heard = heard_event o.who d e.event p (is_at up p) (rolls o.who d e.event) 1 (late_law o up b legal_now.3) legal_now.0 (reads_event o up e.event b p legal_now.0 (placed_event o up e b p empty legal_now))

    live : (v : Bool) → is_live (link_with s.arcs p) ≡ v → is_live (link_with s.arcs p) ≡ true
    live true i = i
    live false i = absurd (said_words is_order order_word (said_to p outs) tells (heard.dead i))

    l : (x : Mark) × (y : Mark) × (n : ℕ) × (k : ℕ) × (link_with s.arcs p ≡ Live x y n k)
    l = live_parts (link_with s.arcs p) (live (is_live (link_with s.arcs p)) refl)

    word : Said is_order (said_to p outs)
    word = said_word is_order (said_to p outs) tells

    first : List DialogueRecord
    first = sent_on l.0 l.1 p b

    before : List DialogueRecord
    before = first ++ word.before

    sent : sent_on l.0 l.1 p (e ∷ b) ≡ before ++ word.word ∷ word.rest
    sent = ap (λ (rs : List DialogueRecord). first ++ rs) (sent_said o up e b legal_now p l.0 l.1 l.2 l.3 l.4 ∙ word.is) ∙ sym (append_assoc first word.before (word.word ∷ word.rest))

    pre : AtPrelude o e.event b p l.0 l.1
    pre = at_prelude o up e.event b p l.0 l.1 l.2 l.3 empty (paired_law o up b empty legal_now.3) legal_now.3 legal_now.0 l.4 (link_with s.arcs p) refl (told_entry o up e b legal_now p).pre

    rec : Option LogRec
    rec = (action o.who d e.event).rec

    under : is_ordered (with_rec rec []) (last_from (last_from None first) word.before) ≡ true
    under =
        stands_under is_order (is_ordered (with_rec rec [])) (last_from None first) word.before word.word word.rest
        (subst (λ (rs : List DialogueRecord). each_under is_order (is_ordered (with_rec rec [])) (last_from None first) rs ≡ true) word.is
        (words_under is_order (is_ordered (with_rec rec [])) quiet_order (last_from None first) (said_to p outs) (heard.orders (last_from None first) [] pre.rows))) word.kind

    keyed : (k : Option BranchKey) → is_ordered (with_rec rec []) k ≡ true → (j : BranchKey) × (k ≡ Some j) × (commits_tree j.0 rec ≡ true)
    keyed None h = absurd (cc (h))
    keyed (Some j) h = (j, refl, commit_in j.0 rec h)

    key : (j : BranchKey) × (last_from (last_from None first) word.before ≡ Some j) × (commits_tree j.0 rec ≡ true)
    key = keyed (last_from (last_from None first) word.before) under

    -- what is logged is of the current tree
    tree : key.0.0 ≡ t
    tree =
        let c = now_some t d.current m.now in
        let now : is_now key.0.0 s.current ≡ true = (commit_logged key.0.0 s rec (treed_event o.who d e.event key.0.0 0 (late_law o up b legal_now.3) legal_now.0).logs key.2).now in
        let other : is_aaid key.0.0 (aaid_of c.0.key) ≡ true = ap (is_now key.0.0) (sym (current ∙ c.1)) ∙ now in
        aaids_equal key.0.0 (aaid_of c.0.key) other ∙ sym (aaids_equal t (aaid_of c.0.key) c.2)

    made : (j : BranchKey) → j.0 ≡ t → Some j ≡ Some (t, j.1)
    made j i = ap (λ (v : Aaid). Some (v, j.1)) i

    more : (rs : List DialogueRecord) × (sent_on l.0 l.1 p h ≡ sent_on l.0 l.1 p (e ∷ b) ++ rs)
    more = sent_since l.0 l.1 p e b h m.moment

-- ---- the moment at which the branch took it

begun_taken : (h : List Entry) (x y : Mark) (p : ℕ) (t : Aaid) (id : BranchId) → last_from None (accepted_on x y p h) ≡ Some (t, id) → has_taken_begin t h ≡ true
begun_taken [] x y p t id i = absurd (cc (i))
begun_taken (e ∷ h) x y p t id i = go (took_case e.event p x y) (begun_taken h x y p t id)
  where
    last : last_from (last_from None (accepted_on x y p h)) (took_of x y p e.event) ≡ Some (t, id)
    last = sym (last_append None (accepted_on x y p h) (took_of x y p e.event)) ∙ i

    more : has_taken_begin t h ≡ true → has_taken_begin t (e ∷ h) ≡ true
    more k = rw k (grind arith)

    word : (a : Addr) (q : ℕ) (r : DialogueRecord) → e.event ≡ Event.Arrive a (PeerRecord.OnAssoc x y q r) → begins_by (last_from None (accepted_on x y p h)) r ≡ Some (t, id) → (last_from None (accepted_on x y p h) ≡ Some (t, id) → has_taken_begin t h ≡ true) → has_taken_begin t (e ∷ h) ≡ true
    word a q (DialogueRecord.Begin u c k) is j rest =
        let same : ◌≡◌ {A = BranchKey} (u, c) (t, id) = cc (j) in
        let tree : u ≡ t = ap (λ (v : BranchKey). v.0) same in
        let begun : is_begun_by t e.event ≡ true = ap (is_begun_by t) is ∙ ap (is_aaid t) tree ∙ aaid_same t in
        rw begun refl
    word a q r is j rest = more (rest j)

    go : (took_of x y p e.event ≡ []) ⊎ (a : Addr) × (q : ℕ) × (r : DialogueRecord) × (e.event ≡ Event.Arrive a (PeerRecord.OnAssoc x y q r)) × (a.node ≡ p) → (last_from None (accepted_on x y p h) ≡ Some (t, id) → has_taken_begin t h ≡ true) → has_taken_begin t (e ∷ h) ≡ true
    go (inl none) rest = more (rest (sym (ap (last_from (last_from None (accepted_on x y p h))) none) ∙ last))
    go (inr w) rest = word w.0 w.1 w.2 w.3 (sym (ap (last_from (last_from None (accepted_on x y p h))) (took_here p e.event w.0 x y w.1 w.2 w.3 w.4)) ∙ last) rest

pub orders_are_taken : (es : List Happening) → OrdersAreTaken (run es)
orders_are_taken es t drained b x z branch told now =
    took_then (λ d. is_aaid t (aaid_of d.key) && is_under_at d.key (number_of x)) is_order z.origin (number_of x) m.entry m.behind z.history m.moment c.0 c.1 (rw (c.2, under.3) refl)
    (heard_word is_order (number_of x) m.entry.event m.from said.x said.y m.seq said.word m.is m.at said.kind)
  where
    good : IsGood (run es).nodes (run es).frames
    good = good_run es

    hx : find_node (run es).nodes (number_of x) ≡ Some x
    hx = branch.superior.here

    hz : find_node (run es).nodes (number_of z) ≡ Some z
    hz = branch.child.here

    legal : IsGrown z.origin z.superior z.history
    legal = good.legal (number_of z) z hz

    empty : z.origin.start.records ≡ []
    empty = good.fresh (number_of z) z hz

    once : IsOnce z.origin z.history
    once = (unique_run es).once (number_of z) z hz

    said : Ordered x.origin x.history t (number_of z)
    said = ordered x.origin x.superior x.history t (number_of z) (good.fresh (number_of x) x hx) (good.legal (number_of x) x hx) ((unique_run es).once (number_of x) x hx) told

    took : (less : List DialogueRecord) × (accepted_on said.x said.y (number_of x) z.history ≡ said.before ++ said.word ∷ less)
    took = taken_at es t drained x z said.x said.y said.before said.word said.rest branch.superior hz said.sent said.said

    m : TakenThen z.history said.x said.y (number_of x) said.before said.word
    m = taken_then z.history said.x said.y (number_of x) said.before said.word took.0 took.1

    legal_now : IsGrown z.origin z.superior (m.entry ∷ m.behind)
    legal_now = moment_legal z.origin z.superior m.entry m.behind z.history m.moment legal

    begun : has_taken_begin t m.behind ≡ true
    begun = begun_taken m.behind said.x said.y (number_of x) t said.id (ap (last_from None) m.taken ∙ said.last)

    c : (u : Current) × ((digest z.origin m.behind).current ≡ Some u) × (is_aaid t (aaid_of u.key) ≡ true)
    c = now_some t (digest z.origin m.behind).current (now_since z.origin z.superior t m.entry m.behind z.history empty legal once m.moment (known_taken z.origin t m.behind begun) now)

    foreign : (v : Bool) → is_own z.origin.who t ≡ v → v ≡ true → ⊥
    foreign true i k = cc (own_untaken z.origin t m.behind (moment_once z.origin m.entry m.behind z.history m.moment once).1 i, begun)
    foreign false i k = cc (k)

    under : (id : BranchId) × (a : Addr) × (c.0.key ≡ Under t id a) × (is_under_at c.0.key (number_of x) ≡ true)
    under = under_superior z.origin z.superior m.behind t (number_of x) c.0 empty legal_now.3 (foreign (is_own z.origin.who t) refl) (branch_above es t b x z branch) c.1 c.2
