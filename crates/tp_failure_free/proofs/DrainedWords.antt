-- In a drained tree without failure a branch's answer, a superior's order and a branch's end are taken while the tree is current.
use Rattle.std.proofs.Common.{◌≡◌, ◌≤◌, ◌+◌, ℕ, zero, suc, Bool, true, false, refl, ap, sym, subst, ◌∙◌, arith, Option, Some, None, List, [], ◌∷◌, ◌++◌, ◌||◌, not, length, append_assoc, slice_get}
use Rattle.std.proofs.lemmas.Bool.Decides.{nat_tests}
use Rattle.tp_names.specs.declared.identifiers.Mark.{Mark}
use Rattle.tp_names.specs.declared.identifiers.Aaid.{Aaid}
use Rattle.tp_names.specs.declared.identifiers.BranchId.{BranchId}
use Rattle.tp_names.specs.declared.identifiers.Addr.{Addr}
use Rattle.tp_names.specs.Same.{is_aaid}
use Rattle.tp_records.specs.declared.dialogue.DialogueRecord.{DialogueRecord}
use Rattle.tp_records.specs.declared.dialogue.Holder.{Holder}
use Rattle.tp_records.specs.declared.peer.PeerRecord.{PeerRecord}
use Rattle.tp_logrec.specs.declared.record.LogRec.{LogRec}
use Rattle.tp_model.specs.Parts.{Origin, Event, Out, Entry, Link, Live, Key, Root, Under, Current, Digest}
use Rattle.tp_model.specs.Links.{is_live}
use Rattle.tp_model.specs.Dialogues.{is_nil}
use Rattle.tp_model.specs.Arcs.{link_with}
use Rattle.tp_model.specs.Transactions.{aaid_of, is_under_at}
use Rattle.tp_model.specs.Events.{action}
use Rattle.tp_model.specs.History.{digest, records}
use Rattle.tp_model.specs.Outcomes.{is_now, rolls}
use Rattle.tp_model.specs.Questions.{is_at, said_to, has_said, heard_from, is_record}
use Rattle.tp_model.specs.World.{Node, number_of, addr_of, find_node}
use Rattle.tp_model.specs.Happenings.{Happening, run}
use Rattle.tp_model.specs.Legal.{IsGrown}
use Rattle.tp_model.specs.Promises.{IsBranchOf, has_told_in}
use Rattle.tp_histories.specs.Histories.{HasSent}
use Rattle.tp_histories.specs.Worlds.{IsGood}
use Rattle.tp_steps.specs.Moves.{is_word, prelude}
use Rattle.tp_steps.specs.Traces.{sent_of}
use Rattle.tp_histories.specs.Traces.{sent_on, history_at, accepted_on}
use Rattle.tp_steps.specs.Facts.{only_words, is_vote, ends_in, BranchKey, begun_keys, each_vote, is_voted, under_at, IsHeard}
use Rattle.tp_histories.specs.Members.{has_taken_begin, is_own, IsOnce}
use Rattle.tp_histories.specs.Pairs.{IsPaired}
use Rattle.tp_steps.specs.Upward.{voting_from, each_up, Deeds, may_say}
use Rattle.tp_histories.specs.Upward.{deeds_of, SpeaksUp}
use Rattle.tp_runs.specs.Heeded.{is_heeded, heeds_event, heeds}
use Rattle.tp_steps.specs.Heeding.{is_answer}
use Rattle.tp_failure_free.specs.DrainedWorlds.{is_word_of, IsDrainedTree, says, AnswersAreTaken}
use Rattle.tp_histories.proofs.trees.Late.{late_law}
use Rattle.tp_steps.proofs.lemmas.Equality.{aaids_equal, and_left, and_right, both_true}
use Rattle.tp_steps.proofs.lemmas.Words.{ends_append}
use Rattle.tp_steps.proofs.words.Treed.{now_some}
use Rattle.tp_histories.proofs.trees.Knowing.{Came, As_it_was, By_begin, By_crash, came_by}
use Rattle.tp_histories.proofs.trees.Fallen.{nil_phase}
use Rattle.tp_histories.proofs.worlds.TreeMembers.{sent_known, own_untaken}
use Rattle.tp_histories.proofs.trees.Above.{IsKeyOf, key_law}
use Rattle.tp_steps.proofs.lemmas.UpwardWords.{is_upward}
use Rattle.tp_steps.proofs.words.Heard.{heard_event}
use Rattle.tp_histories.proofs.pairs.Paired.{AtPrelude, at_prelude}
use Rattle.tp_histories.proofs.pairs.PairedSteps.{paired_law, reads_event, placed_event, told_entry, sent_said}
use Rattle.tp_histories.proofs.worlds.Prefix.{prefix_list}
use Rattle.tp_histories.proofs.upward.SpeaksUp.{speaks_law}
use Rattle.tp_histories.proofs.worlds.Good.{good_run}
use Rattle.tp_histories.proofs.worlds.Unique.{unique_run}
use Rattle.tp_runs.proofs.Family.{at_same, begun_up, history_is}
use Rattle.tp_runs.proofs.Heeded.{said_there, voted_there}
use Rattle.tp_agreement.proofs.Accounts.{get_long}
use Rattle.tp_agreement.proofs.AccountSteps.{heeded_at}
use Rattle.tp_agreement.proofs.BelowRuns.{branch_above}
use Rattle.tp_agreement.proofs.RollsUp.{tied_run}
use Rattle.tp_failure_free.proofs.DrainedTaken.{sent_with, WasSaid, was_said, taken_at}
use Rattle.tp_failure_free.proofs.Moments.{IsMoment, moment_of, moment_legal, moment_once, now_since, sent_since, taken_since, key_stays, TakenThen, taken_then, took_then, ToldThen, told_then, Said, said_word}
use Rattle.tp_steps.proofs.lemmas.Options.{some_same}

-- ---- a word that goes up has a key at its place

keyless : (ks : List BranchKey) (g : Deeds) (rs : List LogRec) (n : ℕ) (v : Bool) (r : DialogueRecord) → slice_get ks n ≡ None → is_heeded ks g rs n v r ≡ true → is_upward r ≡ true → ⊥
keyless ks g rs n v DialogueRecord.Ready i h u = absurd (grind (arith, i, h))
keyless ks g rs n v (DialogueRecord.Done r) i h u = absurd (grind (arith, i, h))
keyless ks g rs n v (DialogueRecord.RolledBack r) i h u = absurd (grind (arith, i, h))
keyless ks g rs n v DialogueRecord.Left i h u = absurd (grind (arith, i, h))
keyless ks g rs n v DialogueRecord.LeftEnd i h u = absurd (grind (arith, i, h))
keyless ks g rs n v r i h u = absurd (cc (u))

keyed : (ks : List BranchKey) (g : Deeds) (rs : List LogRec) (n : ℕ) (v : Bool) (r : DialogueRecord) → is_heeded ks g rs n v r ≡ true → is_upward r ≡ true → (j : BranchKey) × (slice_get ks n ≡ Some j)
keyed ks g rs n v r h u = go (slice_get ks n) refl
  where
    go : (o : Option BranchKey) → slice_get ks n ≡ o → (j : BranchKey) × (slice_get ks n ≡ Some j)
    go None i = absurd (keyless ks g rs n v r i h u)
    go (Some j) i = (j, i)

-- what a subordinate said is such as its superior heeds
heeded_said : (o : Origin) (up : Option Addr) (h : List Entry) (p : ℕ) (x y : Mark) (before : List DialogueRecord) (w : DialogueRecord) (rest : List DialogueRecord) → SpeaksUp o up h → IsPaired o up h → is_at up p ≡ true
    → sent_on x y p h ≡ before ++ w ∷ rest → is_heeded (begun_keys (accepted_on x y p h)) (deeds_of o h) (records o h) (ends_in before) (voting_from false before) w ≡ true
heeded_said o up h p x y before w rest speaks paired above is =
    let ks : List BranchKey = begun_keys (accepted_on x y p h) in
    both_true (may_say ks (deeds_of o h) (ends_in before) (voting_from false before) w) (not (is_vote w) || is_voted ks (records o h) (ends_in before))
    (said_there ks (deeds_of o h) before rest w (subst (λ (l : List DialogueRecord). each_up (may_say ks (deeds_of o h)) 0 false l ≡ true) is (speaks.words p x y above)))
    (voted_there (is_voted ks (records o h)) before rest w (subst (λ (l : List DialogueRecord). each_vote (is_voted ks (records o h)) 0 l ≡ true) is (paired.votes p x y)))

-- ---- what a subordinate said in a tree

-- a word with the tree's key at its place
pub record SaidUp (o : Origin) (h : List Entry) (t : Aaid) (p : ℕ) (f : DialogueRecord → Bool) : Type 0 where
  pub x : Mark
  pub y : Mark
  pub before : List DialogueRecord
  pub word : DialogueRecord
  pub rest : List DialogueRecord
  pub id : BranchId
  pub kind : f word ≡ true
  pub sent : sent_on x y p h ≡ before ++ word ∷ rest
  pub place : slice_get (begun_keys (accepted_on x y p h)) (ends_in before) ≡ Some (t, id)
  pub said : WasSaid o t h p x y (length before) word

word_of_tree : (t : Aaid) (x y : Mark) (n : ℕ) (r : DialogueRecord) → is_upward r ≡ true → is_word_of t true (PeerRecord.OnAssoc x y n r) ≡ true
word_of_tree t x y n DialogueRecord.Ready h = refl
word_of_tree t x y n (DialogueRecord.Done r) h = refl
word_of_tree t x y n (DialogueRecord.RolledBack r) h = refl
word_of_tree t x y n DialogueRecord.Left h = refl
word_of_tree t x y n DialogueRecord.LeftEnd h = refl
word_of_tree t x y n r h = absurd (cc (h))

upward_word : (r : DialogueRecord) → is_upward r ≡ true → is_word r ≡ true
upward_word DialogueRecord.Ready h = refl
upward_word (DialogueRecord.Done r) h = refl
upward_word (DialogueRecord.RolledBack r) h = refl
upward_word DialogueRecord.Left h = refl
upward_word DialogueRecord.LeftEnd h = refl
upward_word r h = absurd (cc (h))

pub said_words : (f : DialogueRecord → Bool) → ((r : DialogueRecord) → f r ≡ true → is_word r ≡ true) → (rs : List DialogueRecord) → has_said f rs ≡ true → only_words rs ≡ [] → ⊥
said_words f words [] h none = cc (h)
said_words f words (r ∷ rs) h none = go (is_word r) refl (f r) refl (said_words f words rs)
  where
    go : (b : Bool) → is_word r ≡ b → (c : Bool) → f r ≡ c → (has_said f rs ≡ true → only_words rs ≡ [] → ⊥) → ⊥
    go true i c j rest = absurd (let some : r ∷ only_words rs ≡ [] = rw (i, only_words) at none in cc (some))
    go false i true j rest = absurd (cc (i, words r j))
    go false i false j rest = rest (rw j at h) (rw (i, only_words) at none)

pub live_parts : (l : Link) → is_live l ≡ true → (x : Mark) × (y : Mark) × (s : ℕ) × (k : ℕ) × (l ≡ Live x y s k)
live_parts (Live x y s k) h = (x, y, s, k, refl)
live_parts _ h = absurd (cc (h))

-- after the prelude of an event that says something, what was current is
pub same_current : (o : Origin) (up : Option Addr) (e : Entry) (b : List Entry) (t : Aaid) → IsGrown o up (e ∷ b) → is_now t (digest o b).current ≡ true → (e.outs ≡ [] → ⊥) → (prelude o.who (digest o b) e.event).current ≡ (digest o b).current
same_current o up e b t legal now some = go (came_by o.who (digest o b) e.event legal.0)
  where
    go : Came o.who (digest o b) e.event → (prelude o.who (digest o b) e.event).current ≡ (digest o b).current
    go (As_it_was i) = i
    go (By_begin from x y q u v k l is found cur nil above) = absurd (cc (nil, nil_phase (digest o b) t (late_law o up b legal.3) now))
    go (By_crash is cur) = absurd (some (ap (λ (f : Entry). f.outs) (sym legal.1) ∙ ap (λ (f : Event). (action o.who (digest o b) f).outs) is))

none_between : (n m k l : ℕ) → k ≡ n + m → l ≡ n + 1 → suc k ≤ l → k ≡ n
none_between n m k l h i j = omega (arith, h, i, j)

-- the tree's transaction came from the superior
pub under_superior : (o : Origin) (up : Option Addr) (b : List Entry) (t : Aaid) (p : ℕ) (c : Current) → o.start.records ≡ [] → IsGrown o up b → (is_own o.who t ≡ true → ⊥) → is_at up p ≡ true → (digest o b).current ≡ Some c → is_aaid t (aaid_of c.key) ≡ true
    → (id : BranchId) × (a : Addr) × (c.key ≡ Under t id a) × (is_under_at c.key p ≡ true)
under_superior o up b t p c empty legal foreign above now tree = go c.key refl
  where
    law : (k : Key) → c.key ≡ k → IsKeyOf o.who up k
    law k i = subst (λ (v : Key). IsKeyOf o.who up v) i (key_law o up b c empty legal now)

    same : (k : Key) → c.key ≡ k → t ≡ aaid_of k
    same k i = aaids_equal t (aaid_of k) (ap (λ (v : Key). is_aaid t (aaid_of v)) (sym i) ∙ tree)

    go : (k : Key) → c.key ≡ k → (id : BranchId) × (a : Addr) × (c.key ≡ Under t id a) × (is_under_at c.key p ≡ true)
    go (Root u) i =
        let mine : t.mark.node ≡ o.who.node = ap (λ (v : Aaid). v.mark.node) (same (Root u) i) ∙ (law (Root u) i).1 in
        absurd (foreign (grind (arith, nat_tests, mine)))
    go (Under u id a) i =
        let at : a.node ≡ p = at_same up a.node p (law (Under u id a) i) above in
        (id, a, i ∙ ap (λ (v : Aaid). Under v id a) (sym (same (Under u id a) i)), ap (λ (v : Key). is_under_at v p) i ∙ grind (arith, nat_tests, at))

pub said_up : (o : Origin) (up : Option Addr) (h : List Entry) (t : Aaid) (p : ℕ) (f : DialogueRecord → Bool) → o.start.records ≡ [] → IsGrown o up h → IsOnce o h → is_at up p ≡ true → has_taken_begin t h ≡ true
    → ((r : DialogueRecord) → f r ≡ true → is_upward r ≡ true) → has_told_in (says p f) o t h ≡ true → SaidUp o h t p f
said_up o up h t p f empty legal once above taken upward told = record {
  x = l.0;
  y = l.1;
  before = before;
  word = word.word;
  rest = word.rest ++ more.0;
  id = under.0;
  kind = word.kind;
  sent = more.1 ∙ ap (λ (rs : List DialogueRecord). rs ++ more.0) sent ∙ append_assoc before (word.word ∷ word.rest) more.0;
  place = key_stays (accepted_on l.0 l.1 p (e ∷ b)) (accepted_on l.0 l.1 p h) took.0 (ends_in before) (t, under.0) took.1 place;
  said = was_said o up t e b h p l.0 l.1 word.before word.word word.rest m.moment legal_now m.now (λ n. word_of_tree t l.0 l.1 n word.word (upward word.word word.kind)) sent;
}
  where
    m : ToldThen (says p f) o t h
    m = told_then (says p f) o t h told

    e : Entry
    e = m.entry

    b : List Entry
    b = m.behind

    d : Digest
    d = digest o b

    s : Digest
    s = prelude o.who d e.event

    legal_now : IsGrown o up (e ∷ b)
    legal_now = moment_legal o up e b h m.moment legal

    once_now : IsOnce o (e ∷ b)
    once_now = moment_once o e b h m.moment once

    outs : List Out
    outs = (action o.who d e.event).outs

    outs_are : e.outs ≡ outs
    outs_are = ap (λ (v : Entry). v.outs) (sym legal_now.1)

    said : has_said f (said_to p outs) ≡ true
    said = ap (λ (os : List Out). has_said f (said_to p os)) (sym outs_are) ∙ m.tells

    current : s.current ≡ d.current
    current = same_current o up e b t legal_now m.now (λ none. absurd (cc (m.tells, ap (says p f) none)))

    heard : IsHeard p (is_at up p) (rolls o.who d e.event) 1 s s (action o.who d e.event)
    heard = heard_event o.who d e.event p (is_at up p) (rolls o.who d e.event) 1 (late_law o up b legal_now.3) legal_now.0 (reads_event o up e.event b p legal_now.0 (placed_event o up e b p empty legal_now))

    live : (v : Bool) → is_live (link_with s.arcs p) ≡ v → is_live (link_with s.arcs p) ≡ true
    live true i = i
    live false i = absurd (said_words f (λ r k. upward_word r (upward r k)) (said_to p outs) said (heard.dead i))

    l : (x : Mark) × (y : Mark) × (n : ℕ) × (k : ℕ) × (link_with s.arcs p ≡ Live x y n k)
    l = live_parts (link_with s.arcs p) (live (is_live (link_with s.arcs p)) refl)

    word : Said f (said_to p outs)
    word = said_word f (said_to p outs) said

    first : List DialogueRecord
    first = sent_on l.0 l.1 p b

    before : List DialogueRecord
    before = first ++ word.before

    sent : sent_on l.0 l.1 p (e ∷ b) ≡ before ++ word.word ∷ word.rest
    sent = ap (λ (rs : List DialogueRecord). first ++ rs) (sent_said o up e b legal_now p l.0 l.1 l.2 l.3 l.4 ∙ word.is) ∙ sym (append_assoc first word.before (word.word ∷ word.rest))

    pre : AtPrelude o e.event b p l.0 l.1
    pre = at_prelude o up e.event b p l.0 l.1 l.2 l.3 empty (paired_law o up b empty legal_now.3) legal_now.3 legal_now.0 l.4 (link_with s.arcs p) refl (told_entry o up e b legal_now p).pre

    c : (u : Current) × (d.current ≡ Some u) × (is_aaid t (aaid_of u.key) ≡ true)
    c = now_some t d.current m.now

    foreign : (v : Bool) → is_own o.who t ≡ v → v ≡ true → ⊥
    foreign true i k = cc (own_untaken o t h once i, taken)
    foreign false i k = cc (k)

    under : (id : BranchId) × (a : Addr) × (c.0.key ≡ Under t id a) × (is_under_at c.0.key p ≡ true)
    under = under_superior o up b t p c.0 empty legal_now.3 (foreign (is_own o.who t) refl) above c.1 c.2

    late : is_nil c.0.phase ≡ false
    late = late_law o up b legal_now.3 c.0 c.1

    one : under_at s.current p ≡ 1
    one = ap (λ (v : Option Current). under_at v p) (current ∙ c.1) ∙ (let u = under.3 in rw (late, u) refl)

    keys : List BranchKey
    keys = begun_keys (accepted_on l.0 l.1 p (e ∷ b))

    j : (k : BranchKey) × (slice_get keys (ends_in before) ≡ Some k)
    j = keyed keys (deeds_of o (e ∷ b)) (records o (e ∷ b)) (ends_in before) (voting_from false before) word.word
        (heeded_said o up (e ∷ b) p l.0 l.1 before word.word word.rest (speaks_law o up (e ∷ b) empty legal_now once_now) (paired_law o up (e ∷ b) empty legal_now) above sent) (upward word.word word.kind)

    at_place : ends_in before ≡ ends_in first
    at_place =
        none_between (ends_in first) (ends_in word.before) (ends_in before) (length keys) (ends_append first word.before) (pre.balance ∙ ap (λ (n : ℕ). ends_in first + n) one) (get_long keys (ends_in before) j.0 j.1)

    place : slice_get keys (ends_in before) ≡ Some (t, under.0)
    place = ap (slice_get keys) at_place ∙ pre.places c.0 t under.0 under.1 (current ∙ c.1) late under.2 under.3

    more : (rs : List DialogueRecord) × (sent_on l.0 l.1 p h ≡ sent_on l.0 l.1 p (e ∷ b) ++ rs)
    more = sent_since l.0 l.1 p e b h m.moment

    took : (rs : List DialogueRecord) × (accepted_on l.0 l.1 p h ≡ accepted_on l.0 l.1 p (e ∷ b) ++ rs)
    took = taken_since l.0 l.1 p e b h m.moment

-- ---- the moment at which the superior took it

pub begin_at : (ws : List DialogueRecord) (n : ℕ) (t : Aaid) (id : BranchId) → slice_get (begun_keys ws) n ≡ Some (t, id) → (i : ℕ) × (k : Holder) × (slice_get ws i ≡ Some (DialogueRecord.Begin t id k))
begin_at [] n t id h = absurd (cc (h))
begin_at (DialogueRecord.Begin u b k ∷ ws) zero t id h =
    let same : ◌≡◌ {A = BranchKey} (u, b) (t, id) = some_same (u, b) (t, id) h in
    (0, k, made u t b id k (ap (λ (v : BranchKey). v.0) same) (ap (λ (v : BranchKey). v.1) same))
  where
    made : (u t : Aaid) (b id : BranchId) (k : Holder) → u ≡ t → b ≡ id → Some (DialogueRecord.Begin u b k) ≡ Some (DialogueRecord.Begin t id k)
    made u t b id k i j = rw (i, j) refl
begin_at (DialogueRecord.Begin u b k ∷ ws) (suc n) t id h = let r = begin_at ws n t id h in (suc r.0, r.1, r.2)
begin_at (w ∷ ws) n t id h = let r = begin_at ws n t id h in (suc r.0, r.1, r.2)

pub record Reached (o : Origin) (h : List Entry) (t : Aaid) (p : ℕ) (f : DialogueRecord → Bool) : Type 0 where
  pub entry : Entry
  pub behind : List Entry
  pub moment : IsMoment entry behind h
  pub x : Mark
  pub y : Mark
  pub from : Addr
  pub seq : ℕ
  pub word : DialogueRecord
  pub id : BranchId
  pub kind : f word ≡ true
  pub is : entry.event ≡ Event.Arrive from (PeerRecord.OnAssoc x y seq word)
  pub at : from.node ≡ p
  pub current : Current
  pub now : (digest o behind).current ≡ Some current
  pub tree : is_aaid t (aaid_of current.key) ≡ true
  -- the Begin of the tree stands at its place, and was sent by then
  pub place : slice_get (begun_keys (sent_on x y p behind)) (ends_in (accepted_on x y p behind)) ≡ Some (t, id)
  pub to : Addr
  pub number : ℕ
  pub holder : Holder
  pub there : to.node ≡ p
  pub begun : HasSent behind to (PeerRecord.OnAssoc x y number (DialogueRecord.Begin t id holder))

pub reached : (o : Origin) (up : Option Addr) (h : List Entry) (t : Aaid) (p : ℕ) (f : DialogueRecord → Bool) (g : Deeds) (rs : List LogRec) (x y : Mark) (before : List DialogueRecord) (w : DialogueRecord) (rest : List DialogueRecord) (id : BranchId)
    → o.start.records ≡ [] → IsGrown o up h → IsOnce o h → heeds g rs p h ≡ true → accepted_on x y p h ≡ before ++ w ∷ rest → slice_get (begun_keys (sent_on x y p h)) (ends_in before) ≡ Some (t, id) → f w ≡ true → is_upward w ≡ true
    → is_now t (digest o h).current ≡ true → Reached o h t p f
reached o up h t p f g rs x y before w rest id empty legal once heeded is at kind upward now = record {
  entry = e;
  behind = b;
  moment = m.moment;
  x = x;
  y = y;
  from = m.from;
  seq = m.seq;
  word = w;
  id = id;
  kind = kind;
  is = m.is;
  at = m.at;
  current = c.0;
  now = c.1;
  tree = c.2;
  place = place;
  to = sent.0;
  number = i.0;
  holder = i.1;
  there = sent.1;
  begun = sent.2;
}
  where
    m : TakenThen h x y p before w
    m = taken_then h x y p before w rest is

    e : Entry
    e = m.entry

    b : List Entry
    b = m.behind

    legal_now : IsGrown o up (e ∷ b)
    legal_now = moment_legal o up e b h m.moment legal

    once_now : IsOnce o (e ∷ b)
    once_now = moment_once o e b h m.moment once

    heeds_now : heeds g rs p (e ∷ b) ≡ true
    heeds_now = moment_of (λ l. heeds g rs p l ≡ true) (λ u l k. and_right (heeds_event g rs p l u.event) (heeds g rs p l) k) e b h m.moment heeded

    j : (k : BranchKey) × (slice_get (begun_keys (sent_on x y p b)) (ends_in (accepted_on x y p b)) ≡ Some k)
    j = keyed (begun_keys (sent_on x y p b)) g rs (ends_in (accepted_on x y p b)) (voting_from false (accepted_on x y p b)) w
        (heeded_at p g rs e.event b m.from x y m.seq w m.is m.at (and_left (heeds_event g rs p b e.event) (heeds g rs p b) heeds_now)) upward

    more : (rs : List DialogueRecord) × (sent_on x y p h ≡ sent_on x y p (e ∷ b) ++ rs)
    more = sent_since x y p e b h m.moment

    later : slice_get (begun_keys (sent_on x y p h)) (ends_in before) ≡ Some j.0
    later =
        ap (λ (rs : List DialogueRecord). slice_get (begun_keys (sent_on x y p h)) (ends_in rs)) (sym m.taken)
        ∙ key_stays (sent_on x y p (e ∷ b)) (sent_on x y p h) more.0 (ends_in (accepted_on x y p b)) j.0 more.1
        (key_stays (sent_on x y p b) (sent_on x y p (e ∷ b)) (sent_of x y p e.outs) (ends_in (accepted_on x y p b)) j.0 refl j.1)

    place : slice_get (begun_keys (sent_on x y p b)) (ends_in (accepted_on x y p b)) ≡ Some (t, id)
    place = j.1 ∙ sym later ∙ at

    i : (n : ℕ) × (k : Holder) × (slice_get (sent_on x y p b) n ≡ Some (DialogueRecord.Begin t id k))
    i = begin_at (sent_on x y p b) (ends_in (accepted_on x y p b)) t id place

    sent : (a : Addr) × (a.node ≡ p) × HasSent b a (PeerRecord.OnAssoc x y i.0 (DialogueRecord.Begin t id i.1))
    sent = sent_with o up b p x y i.0 (DialogueRecord.Begin t id i.1) legal_now.3 i.2

    c : (u : Current) × ((digest o b).current ≡ Some u) × (is_aaid t (aaid_of u.key) ≡ true)
    c = now_some t (digest o b).current (now_since o up t e b h empty legal once m.moment (sent_known o up b sent.0 x y i.0 t id i.1 empty legal_now.3 sent.2) now)

-- in a drained tree without failure
pub reached_up : (es : List Happening) (t : Aaid) → IsDrainedTree (run es) t → (b : BranchId) (x z : Node) → IsBranchOf (run es) t b x z → (f : DialogueRecord → Bool) → ((r : DialogueRecord) → f r ≡ true → is_upward r ≡ true)
    → has_told_in (says (number_of x) f) z.origin t z.history ≡ true → is_now t (digest x.origin x.history).current ≡ true → Reached x.origin x.history t (number_of z) f
reached_up es t drained b x z branch f upward told now =
    reached x.origin x.superior x.history t (number_of z) f (deeds_of z.origin z.history) (records z.origin z.history) said.x said.y said.before said.word took.0 said.id
    (good.fresh (number_of x) x hx) (good.legal (number_of x) x hx) ((unique_run es).once (number_of x) x hx) ((tied_run es).heeds x z hx hz above)
    took.1
    (key_stays (accepted_on said.x said.y (number_of x) z.history) (sent_on said.x said.y (number_of z) x.history) pre.0 (ends_in said.before) (t, said.id) began said.place) said.kind (upward said.word said.kind) now
  where
    good : IsGood (run es).nodes (run es).frames
    good = good_run es

    hx : find_node (run es).nodes (number_of x) ≡ Some x
    hx = branch.superior.here

    hz : find_node (run es).nodes (number_of z) ≡ Some z
    hz = branch.child.here

    above : is_at z.superior (number_of x) ≡ true
    above = branch_above es t b x z branch

    said : SaidUp z.origin z.history t (number_of x) f
    said = said_up z.origin z.superior z.history t (number_of x) f (good.fresh (number_of z) z hz) (good.legal (number_of z) z hz) ((unique_run es).once (number_of z) z hz) above
        (begun_up z.origin z.superior z.history t b (addr_of x) (good.legal (number_of z) z hz) branch.begun).taken upward told

    took : (less : List DialogueRecord) × (accepted_on said.x said.y (number_of z) x.history ≡ said.before ++ said.word ∷ less)
    took = taken_at es t drained z x said.x said.y said.before said.word said.rest branch.child hx said.sent said.said

    pre : (more : List DialogueRecord) × (sent_on said.x said.y (number_of z) (history_at (run es).nodes (number_of x)) ≡ accepted_on said.x said.y (number_of x) (history_at (run es).nodes (number_of z)) ++ more)
    pre = prefix_list (run es).nodes (run es).frames good (number_of z) (number_of x) said.x said.y

    began : sent_on said.x said.y (number_of z) x.history ≡ accepted_on said.x said.y (number_of x) z.history ++ pre.0
    began =
        ap (sent_on said.x said.y (number_of z)) (sym (history_is (run es).nodes (number_of x) x hx)) ∙ pre.1
        ∙ ap (λ (h : List Entry). accepted_on said.x said.y (number_of x) h ++ pre.0) (history_is (run es).nodes (number_of z) z hz)

pub heard_word : (f : DialogueRecord → Bool) (p : ℕ) (e : Event) (a : Addr) (x y : Mark) (q : ℕ) (r : DialogueRecord) → e ≡ Event.Arrive a (PeerRecord.OnAssoc x y q r) → a.node ≡ p → f r ≡ true → is_record f (heard_from p e) ≡ true
heard_word f p e a x y q r is at kind = ap (λ (v : Event). is_record f (heard_from p v)) is ∙ grind (arith, nat_tests, at, kind)

answer_up : (r : DialogueRecord) → is_answer r ≡ true → is_upward r ≡ true
answer_up DialogueRecord.Ready h = refl
answer_up DialogueRecord.Left h = refl
answer_up DialogueRecord.LeftEnd h = refl
answer_up r h = absurd (cc (h))

pub answers_are_taken : (es : List Happening) → AnswersAreTaken (run es)
answers_are_taken es t drained b x z branch told now =
    let k = reached_up es t drained b x z branch is_answer answer_up told now in
    took_then (λ d. is_aaid t (aaid_of d.key)) is_answer x.origin (number_of z) k.entry k.behind x.history k.moment k.current k.now k.tree
    (heard_word is_answer (number_of z) k.entry.event k.from k.x k.y k.seq k.word k.is k.at k.kind)
