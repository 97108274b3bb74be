-- The accounts of a branch, from one entry of its superior's history to the next.
use Rattle.std.proofs.Common.{◌≡◌, ◌≤◌, ◌+◌, ◌⊎◌, ◌&&◌, inl, inr, ℕ, zero, suc, Bool, true, false, refl, ap, sym, subst, ◌∙◌, arith, Option, Some, None, List, [], ◌∷◌, ◌++◌, ◌||◌, ◌==◌, not, nat_le, length, length-append, slice_get}
use Rattle.std.proofs.lemmas.Bool.Decides.{nat_tests}
use Rattle.std.proofs.lemmas.List.{append-nil}
use Rattle.tp_names.specs.declared.identifiers.Aaid.{Aaid}
use Rattle.tp_names.specs.declared.identifiers.Addr.{Addr}
use Rattle.tp_names.specs.declared.identifiers.Mark.{Mark}
use Rattle.tp_names.specs.declared.outcome.Outcome.{Outcome}
use Rattle.tp_names.specs.Same.{is_mark}
use Rattle.tp_records.specs.declared.dialogue.DialogueRecord.{DialogueRecord}
use Rattle.tp_records.specs.declared.peer.PeerRecord.{PeerRecord}
use Rattle.tp_records.specs.declared.peer.RecState.{RecState}
use Rattle.tp_logrec.specs.declared.record.LogRec.{LogRec}
use Rattle.tp_model.specs.declared.arc.Phase.{Phase}
use Rattle.tp_model.specs.Parts.{Origin, Event, Entry, Link, Live, Branch, Current, Digest}
use Rattle.tp_model.specs.Links.{is_live}
use Rattle.tp_model.specs.Dialogues.{is_active, is_committing}
use Rattle.tp_model.specs.Arcs.{link_with}
use Rattle.tp_model.specs.Transactions.{aaid_of}
use Rattle.tp_model.specs.Node.{Move, next_mark}
use Rattle.tp_model.specs.Events.{action}
use Rattle.tp_model.specs.History.{digest, records}
use Rattle.tp_model.specs.Outcomes.{decided, rolls}
use Rattle.tp_model.specs.Questions.{said_to, is_at}
use Rattle.tp_model.specs.Legal.{IsGrown}
use Rattle.tp_steps.specs.Moves.{prelude}
use Rattle.tp_steps.specs.Traces.{count_to, sent_of, took_of}
use Rattle.tp_histories.specs.Traces.{sent_on, accepted_on}
use Rattle.tp_steps.specs.Facts.{is_vote, is_end, ends, ends_in, ends_in_phase, is_open, is_voted, has_ready_of, BranchKey, begun_keys, last_from, words_to, find_branch, open_at, key_at, Reads}
use Rattle.tp_steps.specs.Trees.{begins_of, branch_of_tree}
use Rattle.tp_histories.specs.Members.{IsOnce}
use Rattle.tp_steps.specs.Upward.{voting, voting_from, Deeds, holds_at}
use Rattle.tp_steps.specs.Branches.{may_count}
use Rattle.tp_runs.specs.Heeded.{is_heeded, heeds_event}
use Rattle.tp_steps.proofs.links.Links.{mark_same}
use Rattle.tp_histories.proofs.trees.Late.{late_law, late_prelude}
use Rattle.tp_steps.proofs.every.Preludes.{Prelinked, As_before, Now_idle, Now_called, Now_offered, Now_accepted, Now_confirmed, Took_one, marks_same}
use Rattle.tp_histories.proofs.marks.Traced.{Told, WasLive, traced_law, live_before, long_of}
use Rattle.tp_steps.proofs.lemmas.Words.{keys_append, ends_append, last_append, commit_more}
use Rattle.tp_steps.proofs.lemmas.UpwardWords.{voting_append}
use Rattle.tp_steps.proofs.lemmas.Folds.{key_before, words_keys, words_last}
use Rattle.tp_steps.proofs.words.Heard.{heard_event}
use Rattle.tp_histories.proofs.trees.Knowing.{treed_event}
use Rattle.tp_histories.proofs.worlds.TreeMembers.{prelude_old}
use Rattle.tp_steps.proofs.words.Leaves.{aaid_same}
use Rattle.tp_steps.proofs.lemmas.Equality.{and_left, and_right}
use Rattle.tp_histories.proofs.trees.Fated.{fated_law}
use Rattle.tp_histories.proofs.pairs.Paired.{AtPrelude, at_prelude, empty_is}
use Rattle.tp_histories.proofs.pairs.PairedSteps.{paired_law, reads_event, placed_event, told_entry, sent_said}
use Rattle.tp_histories.proofs.upward.SpeaksUp.{Before, before}
use Rattle.tp_agreement.proofs.Settled.{is_bound_phase}
use Rattle.tp_agreement.proofs.SettledAt.{SettledAt, settled_behind}
use Rattle.tp_agreement.proofs.Marked.{Marked}
use Rattle.tp_agreement.proofs.Closing.{find_by_id, closes_at, closes_none, opens_closing}
use Rattle.tp_agreement.proofs.Accounts.{counted_of, counts_mark, marked_back, open_back, Debt, Balanced, keys_to, ends_from, votes_from, IsClear, Accounts, last_at, said_last, marked_key, open_most}
use Rattle.tp_steps.proofs.words.Fair.{at_most_none}

-- ---- what stands at the prelude

-- what is known of the peer below
pub record Rules (o : Origin) (up : Option Addr) (p : ℕ) (g : Deeds) (rs : List LogRec) (e : Entry) (h : List Entry) : Type 0 where
  pub empty : o.start.records ≡ []
  pub legal : IsGrown o up (e ∷ h)
  pub once : IsOnce o (e ∷ h)
  pub heeded : heeds_event g rs p h e.event ≡ true
  -- a ready branch of a tree that committed here did not roll
  pub never : (j : BranchKey) → g.rolled j.0 ≡ true → has_ready_of j rs ≡ true → decided o j.0 h ≡ true → ⊥

pub record TookHere (p : ℕ) (g : Deeds) (rs : List LogRec) (e : Event) (h : List Entry) (x y : Mark) : Type 0 where
  pub from : Addr
  pub seq : ℕ
  pub word : DialogueRecord
  pub is : e ≡ Event.Arrive from (PeerRecord.OnAssoc x y seq word)
  pub at : from.node ≡ p
  pub heeded : is_heeded (keys_to x y p h) g rs (ends_from x y p h) (votes_from x y p h) word ≡ true

pub took_here : (p : ℕ) (e : Event) (from : Addr) (x y : Mark) (q : ℕ) (r : DialogueRecord) → e ≡ Event.Arrive from (PeerRecord.OnAssoc x y q r) → from.node ≡ p → took_of x y p e ≡ r ∷ []
took_here p e from x y q r is at = ap (took_of x y p) is ∙ grind (arith, nat_tests, at, mark_same x, mark_same y)

pub heeded_at : (p : ℕ) (g : Deeds) (rs : List LogRec) (e : Event) (h : List Entry) (from : Addr) (x y : Mark) (q : ℕ) (r : DialogueRecord) → e ≡ Event.Arrive from (PeerRecord.OnAssoc x y q r) → from.node ≡ p → heeds_event g rs p h e ≡ true
    → is_heeded (keys_to x y p h) g rs (ends_from x y p h) (votes_from x y p h) r ≡ true
heeded_at p g rs e h from x y q r is at all =
    let eq : (from.node == p) ≡ true = grind (arith, nat_tests, at) in
    let one : (not (from.node == p) || is_heeded (keys_to x y p h) g rs (ends_from x y p h) (votes_from x y p h) r) ≡ true = sym (ap (heeds_event g rs p h) is) ∙ all in
    rw eq at one

pub took_case : (e : Event) (p : ℕ) (x y : Mark) → (took_of x y p e ≡ []) ⊎ (a : Addr) × (q : ℕ) × (r : DialogueRecord) × (e ≡ Event.Arrive a (PeerRecord.OnAssoc x y q r)) × (a.node ≡ p)
took_case (Event.Arrive a (PeerRecord.OnAssoc z w q r)) p x y = go (a.node == p) refl (is_mark x z) refl (is_mark y w) refl
  where
    go : (b : Bool) → (a.node == p) ≡ b → (c : Bool) → is_mark x z ≡ c → (d : Bool) → is_mark y w ≡ d
        → (took_of x y p (Event.Arrive a (PeerRecord.OnAssoc z w q r)) ≡ []) ⊎ (b : Addr) × (n : ℕ) × (s : DialogueRecord) × (Event.Arrive a (PeerRecord.OnAssoc z w q r) ≡ Event.Arrive b (PeerRecord.OnAssoc x y n s)) × (b.node ≡ p)
    go true i true j true k =
        let ex = marks_same x z j in
        let ey = marks_same y w k in
        inr (a, q, r, rw (ex, ey) refl, grind (arith, nat_tests, i))
    go false i c j d k = inl (grind (arith, i))
    go b i false j d k = inl (grind (arith, j))
    go b i c j false k = inl (grind (arith, k))
took_case e p x y = inl refl

pub record AtBehind (o : Origin) (p : ℕ) (g : Deeds) (rs : List LogRec) (e : Event) (h : List Entry) (x y : Mark) : Type 0 where
  pub balance : Balanced o h (keys_to x y p h) (ends_from x y p h) (votes_from x y p h) (open_at (prelude o.who (digest o h) e).current p)
  pub clear : (j : BranchKey) → Marked counted_of (prelude o.who (digest o h) e).current p j → open_at (prelude o.who (digest o h) e).current p ≡ 1 → IsClear (keys_to x y p h) (ends_from x y p h) (votes_from x y p h)
  pub took : ((z w : Mark) → took_of z w p e ≡ []) ⊎ TookHere p g rs e h x y

none_more : (a n : ℕ) → a ≡ 0 → suc n ≤ a → ⊥
none_more a n h i = omega (arith, h, i)

behind : (o : Origin) (up : Option Addr) (p : ℕ) (g : Deeds) (rs : List LogRec) (e : Entry) (h : List Entry) → Rules o up p g rs e h → Accounts o p g rs h → (x y : Mark) (s k : ℕ) → link_with (prelude o.who (digest o h) e.event).arcs p ≡ Live x y s k → AtBehind o p g rs e.event h x y
behind o up p g rs e h rules old x y s k live = go (link_with (prelude o.who (digest o h) e.event).arcs p) refl (told_entry o up e h rules.legal p).pre
  where
    d : Digest
    d = digest o h

    same_open : open_at (prelude o.who d e.event).current p ≡ open_at d.current p
    same_open = open_back o.who d e.event p rules.legal.0 (ap is_live live)

    old_at : (q : ℕ) → link_with d.arcs p ≡ Live x y s q → ((z w : Mark) → took_of z w p e.event ≡ []) ⊎ TookHere p g rs e.event h x y → AtBehind o p g rs e.event h x y
    old_at q was took = record {
      balance = subst (λ (n : ℕ). Balanced o h (keys_to x y p h) (ends_from x y p h) (votes_from x y p h) n) (sym same_open) (old.balance x y s q was);
      clear = λ j m one. old.clear x y s q j was (marked_back o.who d e.event counted_of may_count p j counts_mark rules.legal.0 m) (sym same_open ∙ one);
      took = took;
    }

    fresh : (l : Link) → link_with (prelude o.who d e.event).arcs p ≡ l → Prelinked o.who up p d e.event l → s ≡ 0 → ((z w : Mark) → took_of z w p e.event ≡ []) → AtBehind o p g rs e.event h x y
    fresh l at pre zs none =
        let long = long_of o.who up d e.event h (traced_law o up h rules.legal.3) p l pre x y s k (sym at ∙ live) in
        let sent = empty_is (sent_on x y p h) (long.0 ∙ zs) in
        let keys : length (keys_to x y p h) ≡ 0 = ap (λ (l : List DialogueRecord). length (begun_keys l)) sent in
        record {
          balance = inl (at_most_none (length (keys_to x y p h)) _ keys);
          clear = λ j m one. (at_most_none (length (keys_to x y p h)) _ keys, λ i. absurd (none_more (length (keys_to x y p h)) (ends_from x y p h) keys i));
          took = inl none;
        }

    go : (l : Link) → link_with (prelude o.who d e.event).arcs p ≡ l → Prelinked o.who up p d e.event l → AtBehind o p g rs e.event h x y
    go l at (As_before i none) = old_at k (sym i ∙ sym at ∙ live) (inl none)
    go l at (Now_idle i none) = absurd (cc (sym live ∙ at ∙ i))
    go l at (Now_called i down n none below apart) = absurd (cc (sym live ∙ at ∙ i))
    go l at (Now_offered z i u none) = absurd (cc (sym live ∙ at ∙ i))
    go l at (Now_accepted z i u n none nil) =
        let same : Live x y s k ≡ Live z (next_mark o.who d) 0 0 = sym live ∙ at ∙ i in
        fresh l at (Now_accepted z i u n none nil) (cc (same)) none
    go l at (Now_confirmed z w op i none) =
        let same : Live x y s k ≡ Live z w 0 0 = sym live ∙ at ∙ i in
        fresh l at (Now_confirmed z w op i none) (cc (same)) none
    go l at (Took_one a z w v u r i j node ev) =
        let same : Live x y s k ≡ Live z w v (suc u) = sym live ∙ at ∙ j in
        let ez : z ≡ x = cc (same) in
        let ew : w ≡ y = cc (same) in
        let es : v ≡ s = cc (same) in
        let is : e.event ≡ Event.Arrive a (PeerRecord.OnAssoc x y u r) = ev ∙ pair z x w y ez ew a u r in
        old_at u (i ∙ made z x w y v s u ez ew es) (inr (record { from = a; seq = u; word = r; is = is; at = node; heeded = heeded_at p g rs e.event h a x y u r is node rules.heeded }))
      where
        made : (z x w y : Mark) (v s u : ℕ) → z ≡ x → w ≡ y → v ≡ s → Live z w v u ≡ Live x y s u
        made z x w y v s u a b c = rw (a, b, c) refl

        pair : (z x w y : Mark) → z ≡ x → w ≡ y → (a : Addr) (u : ℕ) (r : DialogueRecord) → Event.Arrive a (PeerRecord.OnAssoc z w u r) ≡ Event.Arrive a (PeerRecord.OnAssoc x y u r)
        pair z x w y i j a u r = rw (i, j) refl

-- ---- numbers

at_most_or : (a b : ℕ) → (a ≤ b) ⊎ (suc b ≤ a)
at_most_or a b = go (nat_le a b) refl
  where
    go : (v : Bool) → nat_le a b ≡ v → (a ≤ b) ⊎ (suc b ≤ a)
    go true i = inl (grind (arith, nat_tests, i))
    go false i = inr (grind (arith, nat_tests, i))

pub zero_or_one : (a : ℕ) → a ≤ 1 → (a ≡ 0) ⊎ (a ≡ 1)
zero_or_one zero h = inl refl
zero_or_one (suc zero) h = inr refl
zero_or_one (suc (suc a)) h = absurd (omega (arith, h))

keeps_sum : (l b m n q r : ℕ) → m ≡ l + b → l ≤ n + q → b + q ≤ r → m ≤ n + r
keeps_sum l b m n q r e h i = omega (arith, e, h, i)

grows_sum : (l m b n r : ℕ) → m ≡ l + b → l ≤ n → b ≤ r → m ≤ n + r
grows_sum l m b n r e h i = omega (arith, e, h, i)

pub one_over : (l n : ℕ) → l ≤ suc n → l ≤ n + 1
one_over l n h = omega (arith, h)

pub is_next : (l n q : ℕ) → suc n ≤ l → l ≤ n + q → q ≤ 1 → (l ≡ suc n) × (q ≡ 1)
is_next l n q h i j = (omega (arith, h, i, j), omega (arith, h, i, j))

debt_none : (l n q : ℕ) → l ≤ n + 1 + q → q ≡ 0 → l ≤ n + 1
debt_none l n q h z = omega (arith, h, z)

open_one : (l n q : ℕ) → l ≤ n + q → q ≤ 1 → l ≤ n + 1
open_one l n q h z = omega (arith, h, z)

-- past the active phase, on a live association, what stands open is counted
pub open_counted : (s : Digest) (c : Current) (p : ℕ) → SettledAt s → s.current ≡ Some c → is_bound_phase c.phase ≡ true → is_live (link_with s.arcs p) ≡ true → open_at s.current p ≡ 1 → (j : BranchKey) × Marked counted_of s.current p j × (j.0 ≡ aaid_of c.key)
open_counted s c p settled at bound live one = go (find_branch c.branches p) refl
  where
    stands : open_at (Some c) p ≡ 1
    stands = ap (λ (o : Option Current). open_at o p) (sym at) ∙ one

    go : (o : Option Branch) → find_branch c.branches p ≡ o → (j : BranchKey) × Marked counted_of s.current p j × (j.0 ≡ aaid_of c.key)
    go None i = absurd (grind (arith, stands, i))
    go (Some b) i =
        let k = settled c at bound p b i live in
        let o : is_open b ≡ true = grind (arith, stands, i) in
        let counted : b.counted ≡ true = grind (arith, k, o) in
        ((aaid_of c.key, b.id), record { current = c; branch = b; at = at; found = i; is = counted; key = refl }, refl)

-- an event that takes nothing and closes a branch is a reply, in committing
reply_phase : (e : Event) (o : Option Current) (p : ℕ) → ((z w : Mark) → took_of z w p e ≡ []) → closes_at e o p ≡ true → (c : Current) × (o ≡ Some c) × (is_committing c.phase ≡ true)
reply_phase e None p none h = absurd (cc (h))
reply_phase (Event.Arrive a (PeerRecord.OnAssoc x y q r)) (Some c) p none h =
    let at : (a.node == p) ≡ true = and_left (a.node == p) (ends_in_phase r c.phase) h in
    let took : took_of x y p (Event.Arrive a (PeerRecord.OnAssoc x y q r)) ≡ r ∷ [] = grind (arith, at, mark_same x, mark_same y) in
    absurd (cc (none x y, took))
reply_phase (Event.Arrive a (PeerRecord.RecReply t b (RecState.Done r))) (Some c) p none h = (c, refl, go (find_by_id c.branches b) refl)
  where
    go : (v : Option Branch) → find_by_id c.branches b ≡ v → is_committing c.phase ≡ true
    go None i = absurd (cc (rw (i, closes_at) at h))
    go (Some w) i = and_right (w.peer.node == p) (is_committing c.phase) (rw (i, closes_at) at h)
reply_phase e (Some c) p none h = absurd (grind (arith, h))

done_phase : (a : Addr) (x y : Mark) (q : ℕ) (w : _) (o : Option Current) (p : ℕ) → closes_at (Event.Arrive a (PeerRecord.OnAssoc x y q (DialogueRecord.Done w))) o p ≡ true → (c : Current) × (o ≡ Some c) × (is_committing c.phase ≡ true)
done_phase a x y q w None p h = absurd (cc (h))
done_phase a x y q w (Some c) p h = (c, refl, and_right (a.node == p) (is_committing c.phase) h)

not_closing : (a : Addr) (x y : Mark) (q : ℕ) (r : DialogueRecord) (o : Option Current) (p : ℕ) → is_end r ≡ false → closes_at (Event.Arrive a (PeerRecord.OnAssoc x y q r)) o p ≡ false
not_closing a x y q r None p h = refl
not_closing a x y q r (Some c) p h = let none = never r c.phase h in rw none (grind arith)
  where
    never : (r : DialogueRecord) (v : Phase) → is_end r ≡ false → ends_in_phase r v ≡ false
    never (DialogueRecord.Done w) v i = absurd (cc (i))
    never (DialogueRecord.RolledBack w) v i = absurd (cc (i))
    never DialogueRecord.Left v i = absurd (cc (i))
    never DialogueRecord.LeftEnd v i = absurd (cc (i))
    never r v i = refl

-- ---- the step

pub heeded_vote : (ks : List BranchKey) (g : Deeds) (rs : List LogRec) (n : ℕ) (v : Bool) (r : DialogueRecord) → is_vote r ≡ true → is_heeded ks g rs n v r ≡ true → (v ≡ false) × (is_voted ks rs n ≡ true)
heeded_vote ks g rs n v DialogueRecord.Ready i h = (grind (arith, h), grind (arith, h))
heeded_vote ks g rs n v r i h = absurd (grind (arith, i))

-- what an end tells after a debt: it is Done
pub debt_word : (ks : List BranchKey) (g : Deeds) (rs : List LogRec) (n : ℕ) (v : Bool) (r : DialogueRecord) (j : BranchKey) → is_end r ≡ true → v ≡ true → slice_get ks n ≡ Some j → is_heeded ks g rs n v r ≡ true → (g.rolled j.0 ≡ true → ⊥) → (w : _) × (r ≡ DialogueRecord.Done w)
debt_word ks g rs n v (DialogueRecord.Done w) j i vt at h never = (w, refl)
debt_word ks g rs n v (DialogueRecord.RolledBack w) j i vt at h never =
    let one : holds_at ks n g.rolled ≡ true = and_left (holds_at ks n g.rolled) (holds_at ks n (g.told Outcome.Rollback w)) (and_left (holds_at ks n g.rolled && holds_at ks n (g.told Outcome.Rollback w)) true h) in
    absurd (never (rw (at, holds_at) at one))
debt_word ks g rs n v DialogueRecord.Left j i vt at h never = absurd (grind (arith, h, vt))
debt_word ks g rs n v DialogueRecord.LeftEnd j i vt at h never = absurd (grind (arith, h, vt))
debt_word ks g rs n v r j i vt at h never = absurd (grind (arith, i))

pub voted_ready : (ks : List BranchKey) (rs : List LogRec) (n : ℕ) (j : BranchKey) → slice_get ks n ≡ Some j → is_voted ks rs n ≡ true → has_ready_of j rs ≡ true
voted_ready ks rs n j at h = rw (at, is_voted) at h

-- what holds of an entry at which the association with the peer stays live
pub record Live_step (o : Origin) (p : ℕ) (g : Deeds) (rs : List LogRec) (e : Entry) (h : List Entry) (x y : Mark) : Type 0 where
  pub more : List BranchKey
  pub keys : keys_to x y p (e ∷ h) ≡ keys_to x y p h ++ more
  pub long : length (keys_to x y p (e ∷ h)) ≡ length (keys_to x y p h) + length more
  -- the Begins and what stands open
  pub stays : closes_at e.event (prelude o.who (digest o h) e.event).current p ≡ false → length more + open_at (prelude o.who (digest o h) e.event).current p ≤ open_at (digest o (e ∷ h)).current p
  pub opens : length more ≤ open_at (digest o (e ∷ h)).current p
  pub last : (j : BranchKey) → key_at (prelude o.who (digest o h) e.event).current p ≡ Some j → last_from None (sent_on x y p h) ≡ Some j
  pub live : is_live (link_with (prelude o.who (digest o h) e.event).arcs p) ≡ true
  pub behind : AtBehind o p g rs e.event h x y
  -- no Begin goes to a branch of the tree
  pub once : (j : BranchKey) → Marked counted_of (prelude o.who (digest o h) e.event).current p j → Marked counted_of (digest o (e ∷ h)).current p j → length more ≡ 0

pub live_step : (o : Origin) (up : Option Addr) (p : ℕ) (g : Deeds) (rs : List LogRec) (e : Entry) (h : List Entry) → Rules o up p g rs e h → Accounts o p g rs h → (x y : Mark) (v k : ℕ) → link_with (digest o (e ∷ h)).arcs p ≡ Live x y v k → Live_step o p g rs e h x y
live_step o up p g rs e h rules old x y v k live = record {
  more = begun_keys (words_to p m.outs);
  keys = keys;
  long = ap length keys ∙ length-append (keys_to x y p h) (begun_keys (words_to p m.outs));
  stays = stays;
  opens = opens (closes_at e.event s.current p) refl;
  last = λ j at. pre.rows j at;
  live = ap is_live w.is;
  behind = behind o up p g rs e h rules old x y w.sent k w.is;
  once = once;
}
  where
    d : Digest
    d = digest o h

    s : Digest
    s = prelude o.who d e.event

    next : Digest
    next = digest o (e ∷ h)

    m : Move
    m = action o.who d e.event

    told : Told o.who up p d e.event
    told = told_entry o up e h rules.legal p

    w : WasLive (link_with s.arcs p) (count_to p m.outs) x y v k
    w = live_before p (link_with s.arcs p) (link_with next.arcs p) m.outs x y v k told.linked.over live

    pre : AtPrelude o e.event h p x y
    pre = at_prelude o up e.event h p x y w.sent k rules.empty (paired_law o up h rules.empty rules.legal.3) rules.legal.3 rules.legal.0 w.is (link_with s.arcs p) refl told.pre

    said : begun_keys (sent_of x y p e.outs) ≡ begun_keys (words_to p m.outs)
    said = ap begun_keys (sent_said o up e h rules.legal p x y w.sent k w.is) ∙ sym (words_keys (said_to p m.outs))

    keys : keys_to x y p (e ∷ h) ≡ keys_to x y p h ++ begun_keys (words_to p m.outs)
    keys = keys_append (sent_on x y p h) (sent_of x y p e.outs) ∙ ap (λ (ks : List BranchKey). keys_to x y p h ++ ks) said

    reads : Reads o.who e.event p (is_at up p) (rolls o.who d e.event) 1 s
    reads = reads_event o up e.event h p rules.legal.0 (placed_event o up e h p rules.empty rules.legal)

    stays : closes_at e.event s.current p ≡ false → length (begun_keys (words_to p m.outs)) + open_at s.current p ≤ open_at next.current p
    stays off =
        let none : Reads o.who e.event p (is_at up p) (rolls o.who d e.event) 0 s = record {
          falls_so = reads.falls_so;
          closes_so = λ c f arcs at asked z. closes_none o.who e.event c f arcs p asked (ap (λ (u : Option Current). closes_at e.event u p) (sym at) ∙ off);
          under_superior = reads.under_superior;
          is_superior_so = reads.is_superior_so;
        } in
        (heard_event o.who d e.event p (is_at up p) (rolls o.who d e.event) 0 (late_law o up h rules.legal.3) rules.legal.0 none).opens refl (ap is_live live)

    opens : (b : Bool) → closes_at e.event s.current p ≡ b → length (begun_keys (words_to p m.outs)) ≤ open_at next.current p
    opens false i = first (length (begun_keys (words_to p m.outs))) (open_at s.current p) (open_at next.current p) (stays i)
      where
        first : (a b c : ℕ) → a + b ≤ c → a ≤ c
        first a b c i = omega (arith, i)
    opens true i = opens_closing o.who d e.event s.current p (late_law o up h rules.legal.3) i (ap is_live live)

    last_now : last_from None (sent_on x y p (e ∷ h)) ≡ last_from (last_from None (sent_on x y p h)) (words_to p m.outs)
    last_now =
        last_append None (sent_on x y p h) (sent_of x y p e.outs) ∙ ap (last_from (last_from None (sent_on x y p h))) (sent_said o up e h rules.legal p x y w.sent k w.is)
        ∙ sym (words_last (last_from None (sent_on x y p h)) (said_to p m.outs))

    once : (j : BranchKey) → Marked counted_of s.current p j → Marked counted_of next.current p j → length (begun_keys (words_to p m.outs)) ≡ 0
    once j a b =
        let late = late_prelude o.who d e.event (late_law o up h rules.legal.3) in
        let before = marked_key counted_of s p j late a in
        let behind = marked_key counted_of next p j (late_law o up (e ∷ h) rules.legal) b in
        let one = (treed_event o.who d e.event j.0 p (late_law o up h rules.legal.3) rules.legal.0).once late (prelude_old o up e h j.0 rules.empty rules.legal rules.once) in
        let here : branch_of_tree j.0 (key_at s.current p) ≡ 1 = ap (branch_of_tree j.0) before ∙ rw (aaid_same j.0) refl in
        let now : last_from (last_from None (sent_on x y p h)) (words_to p m.outs) ≡ Some j = sym last_now ∙ (paired_law o up (e ∷ h) rules.empty rules.legal).rows p x y v k live j behind in
        ap length (said_last (last_from None (sent_on x y p h)) (words_to p m.outs) j now (none (begins_of j.0 (words_to p m.outs)) (branch_of_tree j.0 (key_at s.current p)) one here))
      where
        none : (a b : ℕ) → a + b ≤ 1 → b ≡ 1 → a ≡ 0
        none a b h i = omega (arith, h, i)

-- ---- the balance

split_ends : (xs : List DialogueRecord) (r : DialogueRecord) → ends_in (xs ++ r ∷ []) ≡ ends_in xs + ends r
split_ends xs r = ends_append xs (r ∷ []) ∙ zero_right (ends_in xs) (ends r)
  where
    zero_right : (a b : ℕ) → a + (b + 0) ≡ a + b
    zero_right a b = omega arith

pub record Taken (p : ℕ) (e : Entry) (h : List Entry) (x y : Mark) (r : DialogueRecord) : Type 0 where
  pub ends_now : ends_from x y p (e ∷ h) ≡ ends_from x y p h + ends r
  pub votes_now : votes_from x y p (e ∷ h) ≡ voting (votes_from x y p h) r

pub taken_now : (p : ℕ) (e : Entry) (h : List Entry) (x y : Mark) (r : DialogueRecord) → took_of x y p e.event ≡ r ∷ [] → Taken p e h x y r
taken_now p e h x y r took = record {
  ends_now = ap (λ (l : List DialogueRecord). ends_in (accepted_on x y p h ++ l)) took ∙ split_ends (accepted_on x y p h) r;
  votes_now = ap (λ (l : List DialogueRecord). voting_from false (accepted_on x y p h ++ l)) took ∙ voting_append false (accepted_on x y p h) (r ∷ []);
}

pub none_now : (p : ℕ) (e : Entry) (h : List Entry) (x y : Mark) → took_of x y p e.event ≡ [] → accepted_on x y p (e ∷ h) ≡ accepted_on x y p h
none_now p e h x y none = ap (λ (l : List DialogueRecord). accepted_on x y p h ++ l) none ∙ append-nil (accepted_on x y p h)

pub quiet_ends : (r : DialogueRecord) (n : ℕ) → is_end r ≡ false → n + ends r ≡ n
quiet_ends r n h = let z : ends r ≡ 0 = grind (arith, h) in omega (arith, z)

pub end_ends : (r : DialogueRecord) (n : ℕ) → is_end r ≡ true → n + ends r ≡ n + 1
end_ends r n h = let z : ends r ≡ 1 = grind (arith, h) in omega (arith, z)

pub quiet_voting : (v : Bool) (r : DialogueRecord) → is_end r ≡ false → is_vote r ≡ false → voting v r ≡ v
quiet_voting v r h i = grind (arith, h, i)

pub vote_voting : (v : Bool) (r : DialogueRecord) → is_vote r ≡ true → voting v r ≡ true
vote_voting v DialogueRecord.Ready h = grind arith
vote_voting v r h = absurd (grind (arith, h))

pub end_voting : (v : Bool) (r : DialogueRecord) → is_end r ≡ true → voting v r ≡ false
end_voting v r h = grind (arith, h)

debt_later : (o : Origin) (e : Entry) (h : List Entry) (ks ls more : List BranchKey) (n : ℕ) (v : Bool) (q r : ℕ) → ls ≡ ks ++ more → length ls ≤ n + 1 + r → Debt o h ks n v q → Debt o (e ∷ h) ls n v r
debt_later o e h ks ls more n v q r is long d = record {
  key = d.key;
  at = ap (λ (l : List BranchKey). slice_get l n) is ∙ key_before ks more n d.key d.at;
  voted = d.voted;
  done = commit_more d.key.0 e.rec (records o h) d.done;
  least = long;
}

-- where nothing closes
still_balanced : (o : Origin) (e : Entry) (h : List Entry) (ks ls more : List BranchKey) (n : ℕ) (v : Bool) (q r : ℕ) → ls ≡ ks ++ more → length ls ≡ length ks + length more → length more + q ≤ r → Balanced o h ks n v q → Balanced o (e ∷ h) ls n v r
still_balanced o e h ks ls more n v q r is long less (inl b) = inl (keeps_sum (length ks) (length more) (length ls) n q r long b less)
still_balanced o e h ks ls more n v q r is long less (inr d) = inr (debt_later o e h ks ls more n v q r is (keeps_sum (length ks) (length more) (length ls) (n + 1) q r long d.least less) d)

-- after an end, where no debt stood or nothing closed
end_balanced : (o : Origin) (e : Entry) (h : List Entry) (ks ls more : List BranchKey) (n : ℕ) (q r : ℕ) → length ls ≡ length ks + length more → length more ≤ r → length ks ≤ n + 1 → Balanced o (e ∷ h) ls (n + 1) false r
end_balanced o e h ks ls more n q r long less b = inl (grows_sum (length ks) (length ls) (length more) (n + 1) r long b less)

move_balanced : (o : Origin) (h : List Entry) (ks : List BranchKey) (n m : ℕ) (v w : Bool) (k : ℕ) → m ≡ n → w ≡ v → Balanced o h ks n v k → Balanced o h ks m w k
move_balanced o h ks n m v w k i j b = subst (λ (a : ℕ). Balanced o h ks a w k) (sym i) (subst (λ (u : Bool). Balanced o h ks n u k) (sym j) b)

committed_at : (o : Origin) (up : Option Addr) (p : ℕ) (g : Deeds) (rs : List LogRec) (e : Entry) (h : List Entry) → Rules o up p g rs e h → (c : Current) → (prelude o.who (digest o h) e.event).current ≡ Some c → is_committing c.phase ≡ true → decided o (aaid_of c.key) h ≡ true
committed_at o up p g rs e h rules c at ordered =
    let b : Before (digest o h) c = before o.who (digest o h) e.event c rules.legal.0 at (not_active c.phase ordered) in
    (fated_law o up h (aaid_of c.key) rules.empty rules.legal.3 rules.once.1).committing b.now (ap is_committing b.phase ∙ ordered)
  where
    not_active : (v : Phase) → is_committing v ≡ true → is_active v ≡ false
    not_active v i = grind (arith, i)

pub bound_phase : (v : Phase) → is_committing v ≡ true → is_bound_phase v ≡ true
bound_phase v i = grind (arith, i)

-- in committing, a counted branch that stands open has no debt before it
committing_clear : (o : Origin) (up : Option Addr) (p : ℕ) (g : Deeds) (rs : List LogRec) (e : Entry) (h : List Entry) → Rules o up p g rs e h → (x y : Mark) → Live_step o p g rs e h x y → (c : Current) → (prelude o.who (digest o h) e.event).current ≡ Some c → is_committing c.phase ≡ true
    → length (keys_to x y p h) ≤ ends_from x y p h + 1 + open_at (prelude o.who (digest o h) e.event).current p → length (keys_to x y p h) ≤ ends_from x y p h + 1
committing_clear o up p g rs e h rules x y st c at ordered least = elim (zero_or_one (open_at s.current p) (open_most s.current p)) [
  | inl z ↦ debt_none (length (keys_to x y p h)) (ends_from x y p h) (open_at s.current p) least z
  | inr one ↦
      (let k = open_counted s c p (settled_behind o up e h rules.empty rules.legal) at (bound_phase c.phase ordered) st.live one in
      one_over (length (keys_to x y p h)) (ends_from x y p h) (st.behind.clear k.0 k.1 one).0)
]
  where
    s : Digest
    s = prelude o.who (digest o h) e.event

reply_balanced : (o : Origin) (up : Option Addr) (p : ℕ) (g : Deeds) (rs : List LogRec) (e : Entry) (h : List Entry) → Rules o up p g rs e h → (x y : Mark) → Live_step o p g rs e h x y → (c : Current) → (prelude o.who (digest o h) e.event).current ≡ Some c → is_committing c.phase ≡ true
    → Balanced o (e ∷ h) (keys_to x y p (e ∷ h)) (ends_from x y p h) (votes_from x y p h) (open_at (digest o (e ∷ h)).current p)
reply_balanced o up p g rs e h rules x y st c at ordered = go (at_most_or (length ks) n)
  where
    s : Digest
    s = prelude o.who (digest o h) e.event

    ks : List BranchKey
    ks = keys_to x y p h

    ls : List BranchKey
    ls = keys_to x y p (e ∷ h)

    n : ℕ
    n = ends_from x y p h

    v : Bool
    v = votes_from x y p h

    q : ℕ
    q = open_at s.current p

    r : ℕ
    r = open_at (digest o (e ∷ h)).current p

    owed : suc n ≤ length ks → Balanced o h ks n v q → Balanced o (e ∷ h) ls n v r
    owed gt (inr d) = inr (debt_later o e h ks ls st.more n v q r st.keys (grows_sum (length ks) (length ls) (length st.more) (n + 1) r st.long (committing_clear o up p g rs e h rules x y st c at ordered d.least) st.opens) d)
    owed gt (inl b) =
        let i = is_next (length ks) n q gt b (open_most s.current p) in
        let k = open_counted s c p (settled_behind o up e h rules.empty rules.legal) at (bound_phase c.phase ordered) st.live i.1 in
        let clear = st.behind.clear k.0 k.1 i.1 in
        let late = late_prelude o.who (digest o h) e.event (late_law o up h rules.legal.3) in
        let key = last_at (sent_on x y p h) n k.0 (st.last k.0 (marked_key counted_of s p k.0 late k.1)) i.0 in
        inr (record {
          key = k.0;
          at = ap (λ (l : List BranchKey). slice_get l n) st.keys ∙ key_before ks st.more n k.0 key;
          voted = clear.1 gt;
          done = commit_more k.0.0 e.rec (records o h) (ap (λ (t : Aaid). decided o t h) k.2 ∙ committed_at o up p g rs e h rules c at ordered);
          least = grows_sum (length ks) (length ls) (length st.more) (n + 1) r st.long (one_over (length ks) n clear.0) st.opens;
        })

    go : (length ks ≤ n) ⊎ (suc n ≤ length ks) → Balanced o (e ∷ h) ls n v r
    go (inl le) = inl (grows_sum (length ks) (length ls) (length st.more) n r st.long le st.opens)
    go (inr gt) = owed gt st.behind.balance

-- what the entry takes of the peer
abbrev NextBalanced : Origin → ℕ → Entry → List Entry → Mark → Mark → Type 0
NextBalanced o p e h x y = Balanced o (e ∷ h) (keys_to x y p (e ∷ h)) (ends_from x y p (e ∷ h)) (votes_from x y p (e ∷ h)) (open_at (digest o (e ∷ h)).current p)

pub none_balanced : (o : Origin) (up : Option Addr) (p : ℕ) (g : Deeds) (rs : List LogRec) (e : Entry) (h : List Entry) → Rules o up p g rs e h → (x y : Mark) → Live_step o p g rs e h x y → ((z w : Mark) → took_of z w p e.event ≡ []) → NextBalanced o p e h x y
none_balanced o up p g rs e h rules x y st none =
    move_balanced o (e ∷ h) (keys_to x y p (e ∷ h)) (ends_from x y p h) (ends_from x y p (e ∷ h)) (votes_from x y p h) (votes_from x y p (e ∷ h)) (open_at (digest o (e ∷ h)).current p)
    (ap ends_in (none_now p e h x y (none x y))) (ap (voting_from false) (none_now p e h x y (none x y))) (go (closes_at e.event s.current p) refl)
  where
    s : Digest
    s = prelude o.who (digest o h) e.event

    go : (b : Bool) → closes_at e.event s.current p ≡ b → Balanced o (e ∷ h) (keys_to x y p (e ∷ h)) (ends_from x y p h) (votes_from x y p h) (open_at (digest o (e ∷ h)).current p)
    go false i = still_balanced o e h (keys_to x y p h) (keys_to x y p (e ∷ h)) st.more (ends_from x y p h) (votes_from x y p h) (open_at s.current p) (open_at (digest o (e ∷ h)).current p) st.keys st.long (st.stays i) st.behind.balance
    go true i = let c = reply_phase e.event s.current p none i in reply_balanced o up p g rs e h rules x y st c.0 c.1 c.2

took_off : (o : Origin) (p : ℕ) (g : Deeds) (rs : List LogRec) (e : Entry) (h : List Entry) (x y : Mark) (t : TookHere p g rs e.event h x y) → is_end t.word ≡ false → closes_at e.event (prelude o.who (digest o h) e.event).current p ≡ false
took_off o p g rs e h x y t i = ap (λ (f : Event). closes_at f (prelude o.who (digest o h) e.event).current p) t.is ∙ not_closing t.from x y t.seq t.word (prelude o.who (digest o h) e.event).current p i

-- after Ready no debt stands
pub vote_balanced : (o : Origin) (p : ℕ) (g : Deeds) (rs : List LogRec) (e : Entry) (h : List Entry) (x y : Mark) → Live_step o p g rs e h x y → (t : TookHere p g rs e.event h x y) → is_end t.word ≡ false → is_vote t.word ≡ true → length (keys_to x y p (e ∷ h)) ≤ ends_from x y p h + open_at (digest o (e ∷ h)).current p
vote_balanced o p g rs e h x y st t i j = go st.behind.balance
  where
    heard : (votes_from x y p h ≡ false) × (is_voted (keys_to x y p h) rs (ends_from x y p h) ≡ true)
    heard = heeded_vote (keys_to x y p h) g rs (ends_from x y p h) (votes_from x y p h) t.word j t.heeded

    go : Balanced o h (keys_to x y p h) (ends_from x y p h) (votes_from x y p h) (open_at (prelude o.who (digest o h) e.event).current p) → length (keys_to x y p (e ∷ h)) ≤ ends_from x y p h + open_at (digest o (e ∷ h)).current p
    go (inl b) = keeps_sum (length (keys_to x y p h)) (length st.more) (length (keys_to x y p (e ∷ h))) (ends_from x y p h) (open_at (prelude o.who (digest o h) e.event).current p) (open_at (digest o (e ∷ h)).current p) st.long b (st.stays (took_off o p g rs e h x y t i))
    go (inr d) = absurd (cc (heard.0, d.voted))

end_is : (o : Origin) (up : Option Addr) (p : ℕ) (g : Deeds) (rs : List LogRec) (e : Entry) (h : List Entry) → Rules o up p g rs e h → Accounts o p g rs h → (x y : Mark) → Live_step o p g rs e h x y → (t : TookHere p g rs e.event h x y) → is_end t.word ≡ true
    → Balanced o (e ∷ h) (keys_to x y p (e ∷ h)) (ends_from x y p h + 1) false (open_at (digest o (e ∷ h)).current p)
end_is o up p g rs e h rules old x y st t i = go st.behind.balance
  where
    s : Digest
    s = prelude o.who (digest o h) e.event

    ks : List BranchKey
    ks = keys_to x y p h

    ls : List BranchKey
    ls = keys_to x y p (e ∷ h)

    n : ℕ
    n = ends_from x y p h

    v : Bool
    v = votes_from x y p h

    q : ℕ
    q = open_at s.current p

    r : ℕ
    r = open_at (digest o (e ∷ h)).current p

    owed : (d : Debt o h ks n v q) → (w : _) × (t.word ≡ DialogueRecord.Done w) → (b : Bool) → closes_at e.event s.current p ≡ b → Balanced o (e ∷ h) ls (n + 1) false r
    owed d w false j = inl (keeps_sum (length ks) (length st.more) (length ls) (n + 1) q r st.long d.least (st.stays j))
    owed d w true j =
        let is : closes_at (Event.Arrive t.from (PeerRecord.OnAssoc x y t.seq (DialogueRecord.Done w.0))) s.current p ≡ true = ap (λ (u : DialogueRecord). closes_at (Event.Arrive t.from (PeerRecord.OnAssoc x y t.seq u)) s.current p) (sym w.1) ∙ ap (λ (f : Event). closes_at f s.current p) (sym t.is) ∙ j in
        let c = done_phase t.from x y t.seq w.0 s.current p is in
        end_balanced o e h ks ls st.more n q r st.long st.opens (committing_clear o up p g rs e h rules x y st c.0 c.1 c.2 d.least)

    go : Balanced o h ks n v q → Balanced o (e ∷ h) ls (n + 1) false r
    go (inl b) = end_balanced o e h ks ls st.more n q r st.long st.opens (open_one (length ks) n q b (open_most s.current p))
    go (inr d) =
        owed d (debt_word ks g rs n v t.word d.key i d.voted d.at t.heeded (λ roll. rules.never d.key roll (voted_ready ks rs n d.key d.at (old.voted x y d.voted)) d.done)) (closes_at e.event s.current p) refl

pub took_balanced : (o : Origin) (up : Option Addr) (p : ℕ) (g : Deeds) (rs : List LogRec) (e : Entry) (h : List Entry) → Rules o up p g rs e h → Accounts o p g rs h → (x y : Mark) → Live_step o p g rs e h x y → (t : TookHere p g rs e.event h x y) → NextBalanced o p e h x y
took_balanced o up p g rs e h rules old x y st t = go (is_end t.word) refl (is_vote t.word) refl
  where
    w : Taken p e h x y t.word
    w = taken_now p e h x y t.word (took_here p e.event t.from x y t.seq t.word t.is t.at)

    to : (n : ℕ) (v : Bool) → ends_from x y p (e ∷ h) ≡ n → votes_from x y p (e ∷ h) ≡ v → Balanced o (e ∷ h) (keys_to x y p (e ∷ h)) n v (open_at (digest o (e ∷ h)).current p) → NextBalanced o p e h x y
    to n v i j b = move_balanced o (e ∷ h) (keys_to x y p (e ∷ h)) n (ends_from x y p (e ∷ h)) v (votes_from x y p (e ∷ h)) (open_at (digest o (e ∷ h)).current p) i j b

    go : (a : Bool) → is_end t.word ≡ a → (b : Bool) → is_vote t.word ≡ b → NextBalanced o p e h x y
    go true i b j = to (ends_from x y p h + 1) false (w.ends_now ∙ end_ends t.word (ends_from x y p h) i) (w.votes_now ∙ end_voting (votes_from x y p h) t.word i) (end_is o up p g rs e h rules old x y st t i)
    go false i true j = to (ends_from x y p h) true (w.ends_now ∙ quiet_ends t.word (ends_from x y p h) i) (w.votes_now ∙ vote_voting (votes_from x y p h) t.word j) (inl (vote_balanced o p g rs e h x y st t i j))
    go false i false j =
        to (ends_from x y p h) (votes_from x y p h) (w.ends_now ∙ quiet_ends t.word (ends_from x y p h) i) (w.votes_now ∙ quiet_voting (votes_from x y p h) t.word i j)
        (still_balanced o e h (keys_to x y p h) (keys_to x y p (e ∷ h)) st.more (ends_from x y p h) (votes_from x y p h) (open_at (prelude o.who (digest o h) e.event).current p) (open_at (digest o (e ∷ h)).current p) st.keys st.long (st.stays (took_off o p g rs e h x y t i)) st.behind.balance)
