-- In every legal history the accounts of a branch below are true.
use Rattle.std.proofs.Common.{◌≡◌, ◌≤◌, ◌+◌, ◌⊎◌, inl, inr, ℕ, suc, Bool, true, false, refl, ap, sym, subst, ◌∙◌, arith, Option, Some, None, List, [], ◌∷◌, ◌&&◌, not, length, slice_get}
use Rattle.tp_names.specs.declared.identifiers.Aaid.{Aaid}
use Rattle.tp_names.specs.declared.identifiers.Addr.{Addr}
use Rattle.tp_names.specs.declared.identifiers.Mark.{Mark}
use Rattle.tp_records.specs.declared.dialogue.DialogueRecord.{DialogueRecord}
use Rattle.tp_records.specs.declared.peer.PeerRecord.{PeerRecord}
use Rattle.tp_logrec.specs.declared.record.LogRec.{LogRec}
use Rattle.tp_model.specs.declared.transaction.TxEvent.{TxEvent}
use Rattle.tp_model.specs.Parts.{Origin, Event, Entry, Live, Digest}
use Rattle.tp_model.specs.Arcs.{link_with}
use Rattle.tp_model.specs.Node.{seen}
use Rattle.tp_model.specs.Events.{refusal, started}
use Rattle.tp_model.specs.History.{digest, records}
use Rattle.tp_model.specs.Outcomes.{decided}
use Rattle.tp_model.specs.Transactions.{Transaction}
use Rattle.tp_model.specs.Legal.{IsGrown}
use Rattle.tp_steps.specs.Moves.{IsAsked, prelude}
use Rattle.tp_steps.specs.Traces.{sent_of, took_of}
use Rattle.tp_histories.specs.Traces.{sent_on}
use Rattle.tp_steps.specs.Facts.{is_vote, is_end, ends_in, is_voted, has_ready_of, BranchKey, begun_keys, open_at}
use Rattle.tp_histories.specs.Members.{IsOnce}
use Rattle.tp_steps.specs.Upward.{voting_from, Deeds, holds_at}
use Rattle.tp_steps.specs.Branches.{may_count, may_leave}
use Rattle.tp_runs.specs.Heeded.{is_heeded, heeds_event, heeds}
use Rattle.tp_histories.proofs.trees.Late.{late_law}
use Rattle.tp_steps.proofs.every.Preludes.{takes_next}
use Rattle.tp_steps.proofs.lemmas.Words.{keys_append, commit_more}
use Rattle.tp_histories.proofs.trees.Knowing.{current_none}
use Rattle.tp_steps.proofs.lemmas.Equality.{and_left, and_right}
use Rattle.tp_histories.proofs.pairs.PairedSteps.{paired_law}
use Rattle.tp_agreement.proofs.Marked.{Marked, MayMark, marking_event}
use Rattle.tp_agreement.proofs.Accounts.{counted_of, left_of, counts_mark, leaves_mark, marked_back, TookWord, asked_took, counts_word, leaves_word, Balanced, keys_to, ends_from, votes_from, IsClear, Accounts, get_long, last_at, marked_key, open_most}
use Rattle.tp_agreement.proofs.AccountSteps.{Rules, TookHere, Taken, Live_step, took_here, heeded_at, took_case, zero_or_one, is_next, heeded_vote, voted_ready, quiet_ends, end_ends, quiet_voting, vote_voting, end_voting, taken_now, none_now, live_step, vote_balanced, none_balanced, took_balanced}
use Rattle.tp_runs.proofs.Heeded.{voted_wide}

-- ---- Ready was taken since the last end

voted_next : (o : Origin) (up : Option Addr) (p : ℕ) (g : Deeds) (rs : List LogRec) (e : Entry) (h : List Entry) → Rules o up p g rs e h → Accounts o p g rs h → (x y : Mark) → votes_from x y p (e ∷ h) ≡ true → is_voted (keys_to x y p (e ∷ h)) rs (ends_from x y p (e ∷ h)) ≡ true
voted_next o up p g rs e h rules old x y v = go (took_case e.event p x y)
  where
    wide : (n : ℕ) → ends_from x y p (e ∷ h) ≡ n → is_voted (keys_to x y p h) rs n ≡ true → is_voted (keys_to x y p (e ∷ h)) rs (ends_from x y p (e ∷ h)) ≡ true
    wide n i k =
        subst (λ (m : ℕ). is_voted (keys_to x y p (e ∷ h)) rs m ≡ true) (sym i)
        (subst (λ (ks : List BranchKey). is_voted ks rs n ≡ true) (sym (keys_append (sent_on x y p h) (sent_of x y p e.outs))) (voted_wide (keys_to x y p h) (begun_keys (sent_of x y p e.outs)) rs n k))

    word : (a : Addr) (q : ℕ) (r : DialogueRecord) → e.event ≡ Event.Arrive a (PeerRecord.OnAssoc x y q r) → a.node ≡ p → (b : Bool) → is_end r ≡ b → (c : Bool) → is_vote r ≡ c → is_voted (keys_to x y p (e ∷ h)) rs (ends_from x y p (e ∷ h)) ≡ true
    word a q r is at b i c j =
        let w = taken_now p e h x y r (took_here p e.event a x y q r is at) in
        by w b i c j
      where
        by : Taken p e h x y r → (b : Bool) → is_end r ≡ b → (c : Bool) → is_vote r ≡ c → is_voted (keys_to x y p (e ∷ h)) rs (ends_from x y p (e ∷ h)) ≡ true
        by w true i c j = absurd (cc (v, w.votes_now ∙ end_voting (votes_from x y p h) r i))
        by w false i true j = wide (ends_from x y p h) (w.ends_now ∙ quiet_ends r (ends_from x y p h) i) (heeded_vote (keys_to x y p h) g rs (ends_from x y p h) (votes_from x y p h) r j (heeded_at p g rs e.event h a x y q r is at rules.heeded)).1
        by w false i false j = wide (ends_from x y p h) (w.ends_now ∙ quiet_ends r (ends_from x y p h) i) (old.voted x y (sym (w.votes_now ∙ quiet_voting (votes_from x y p h) r i j) ∙ v))

    go : (took_of x y p e.event ≡ []) ⊎ (a : Addr) × (q : ℕ) × (r : DialogueRecord) × (e.event ≡ Event.Arrive a (PeerRecord.OnAssoc x y q r)) × (a.node ≡ p) → is_voted (keys_to x y p (e ∷ h)) rs (ends_from x y p (e ∷ h)) ≡ true
    go (inl none) = wide (ends_from x y p h) (ap ends_in (none_now p e h x y none)) (old.voted x y (sym (ap (voting_from false) (none_now p e h x y none)) ∙ v))
    go (inr w) = word w.0 w.1 w.2 w.3 w.4 (is_end w.2) refl (is_vote w.2) refl

-- ---- the word that marks a branch

-- the event takes a word, and the branch that stands there has the key at its place
pub record TookMark (o : Origin) (p : ℕ) (g : Deeds) (rs : List LogRec) (e : Event) (h : List Entry) (r : DialogueRecord) (j : BranchKey) : Type 0 where
  pub from : Addr
  pub x : Mark
  pub y : Mark
  pub seq : ℕ
  pub is : e ≡ Event.Arrive from (PeerRecord.OnAssoc x y seq r)
  pub at : from.node ≡ p
  pub heeded : is_heeded (keys_to x y p h) g rs (ends_from x y p h) (votes_from x y p h) r ≡ true
  pub place : votes_from x y p h ≡ false → suc (ends_from x y p h) ≤ length (keys_to x y p h) → slice_get (keys_to x y p h) (ends_from x y p h) ≡ Some j

pub took_mark : (o : Origin) (up : Option Addr) (p : ℕ) (g : Deeds) (rs : List LogRec) (e : Entry) (h : List Entry) → Rules o up p g rs e h → Accounts o p g rs h → (r : DialogueRecord) (j : BranchKey) (may : TxEvent → Transaction → ℕ → Bool) (m : MayMark o.who e.event (prelude o.who (digest o h) e.event) may p j)
    → ((a : Addr) (x y : Mark) (q : ℕ) → (prelude o.who (digest o h) (Event.Arrive a (PeerRecord.OnAssoc x y q r))).current ≡ (digest o h).current) → m.event ≡ TxEvent.Took p r → TookMark o p g rs e.event h r j
took_mark o up p g rs e h rules old r j may m quiet word = record {
  from = t.from;
  x = t.x;
  y = t.y;
  seq = t.seq;
  is = t.is;
  at = t.at;
  heeded = heeded_at p g rs e.event h t.from t.x t.y t.seq r t.is t.at rules.heeded;
  place = λ v gt. place v gt (old.balance t.x t.y sent t.seq live);
}
  where
    d : Digest
    d = digest o h

    t : TookWord e.event p r
    t = asked_took e.event m.current p r (subst (λ (f : TxEvent). IsAsked e.event m.current f) word m.asked)

    ok : refusal o.who d (Event.Arrive t.from (PeerRecord.OnAssoc t.x t.y t.seq r)) ≡ None
    ok = subst (λ (f : Event). refusal o.who d f ≡ None) t.is rules.legal.0

    sent : ℕ
    sent = (takes_next o.who d t.from t.x t.y t.seq r ok).sent

    live : link_with d.arcs p ≡ Live t.x t.y sent t.seq
    live = ap (link_with d.arcs) (sym t.at) ∙ (takes_next o.who d t.from t.x t.y t.seq r ok).live

    current : (prelude o.who d e.event).current ≡ d.current
    current = ap (λ (f : Event). (prelude o.who d f).current) t.is ∙ quiet t.from t.x t.y t.seq

    stands : Marked (λ b. true) d.current p j
    stands = record { current = m.current; branch = m.branch; at = sym current ∙ m.at; found = m.found; is = refl; key = m.key }

    place : votes_from t.x t.y p h ≡ false → suc (ends_from t.x t.y p h) ≤ length (keys_to t.x t.y p h) → Balanced o h (keys_to t.x t.y p h) (ends_from t.x t.y p h) (votes_from t.x t.y p h) (open_at d.current p) → slice_get (keys_to t.x t.y p h) (ends_from t.x t.y p h) ≡ Some j
    place v gt (inr debt) = absurd (cc (v, debt.voted))
    place v gt (inl b) =
        let i = is_next (length (keys_to t.x t.y p h)) (ends_from t.x t.y p h) (open_at d.current p) gt b (open_most d.current p) in
        last_at (sent_on t.x t.y p h) (ends_from t.x t.y p h) j ((paired_law o up h rules.empty rules.legal.3).rows p t.x t.y sent t.seq live j (marked_key (λ b. true) d p j (late_law o up h rules.legal.3) stands)) i.0

voted_long : (ks : List BranchKey) (rs : List LogRec) (n : ℕ) → is_voted ks rs n ≡ true → suc n ≤ length ks
voted_long ks rs n h = go (slice_get ks n) refl
  where
    go : (b : Option BranchKey) → slice_get ks n ≡ b → suc n ≤ length ks
    go None i = absurd (cc (rw (i, is_voted) at h))
    go (Some j) i = get_long ks n j i

pub holds_long : (ks : List BranchKey) (n : ℕ) (f : Aaid → Bool) → holds_at ks n f ≡ true → suc n ≤ length ks
holds_long ks n f h = go (slice_get ks n) refl
  where
    go : (b : Option BranchKey) → slice_get ks n ≡ b → suc n ≤ length ks
    go None i = absurd (cc (rw (i, holds_at) at h))
    go (Some j) i = get_long ks n j i

pub holds_key : (ks : List BranchKey) (n : ℕ) (f : Aaid → Bool) (j : BranchKey) → slice_get ks n ≡ Some j → holds_at ks n f ≡ true → f j.0 ≡ true
holds_key ks n f j i h = rw (i, holds_at) at h

-- Ready that counts a branch was logged for it
counted_ready : (o : Origin) (p : ℕ) (g : Deeds) (rs : List LogRec) (e : Event) (h : List Entry) (j : BranchKey) → TookMark o p g rs e h DialogueRecord.Ready j → has_ready_of j rs ≡ true
counted_ready o p g rs e h j t =
    let v = heeded_vote (keys_to t.x t.y p h) g rs (ends_from t.x t.y p h) (votes_from t.x t.y p h) DialogueRecord.Ready refl t.heeded in
    voted_ready (keys_to t.x t.y p h) rs (ends_from t.x t.y p h) j (t.place v.0 (voted_long (keys_to t.x t.y p h) rs (ends_from t.x t.y p h) v.1)) v.1

-- a branch that leaves left the tree
pub left_key : (o : Origin) (p : ℕ) (g : Deeds) (rs : List LogRec) (e : Event) (h : List Entry) (r : DialogueRecord) (j : BranchKey) (t : TookMark o p g rs e h r j) → (not (votes_from t.x t.y p h) && holds_at (keys_to t.x t.y p h) (ends_from t.x t.y p h) g.left) ≡ true → g.left j.0 ≡ true
left_key o p g rs e h r j t both =
    let held = and_right (not (votes_from t.x t.y p h)) (holds_at (keys_to t.x t.y p h) (ends_from t.x t.y p h) g.left) both in
    let off = no_vote (votes_from t.x t.y p h) (and_left (not (votes_from t.x t.y p h)) (holds_at (keys_to t.x t.y p h) (ends_from t.x t.y p h) g.left) both) in
    holds_key (keys_to t.x t.y p h) (ends_from t.x t.y p h) g.left j (t.place off (holds_long (keys_to t.x t.y p h) (ends_from t.x t.y p h) g.left held)) held
  where
    no_vote : (v : Bool) → not v ≡ true → v ≡ false
    no_vote v h = grind (arith, h)

-- ---- the step

clear_at : (o : Origin) (p : ℕ) (g : Deeds) (rs : List LogRec) (e : Entry) (h : List Entry) (x y : Mark) (j : BranchKey) → Live_step o p g rs e h x y → Marked counted_of (prelude o.who (digest o h) e.event).current p j → IsClear (keys_to x y p h) (ends_from x y p h) (votes_from x y p h)
clear_at o p g rs e h x y j st m = elim (zero_or_one (open_at s.current p) (open_most s.current p)) [ inr one ↦ st.behind.clear j m one | inl z ↦ go z st.behind.balance ]
  where
    s : Digest
    s = prelude o.who (digest o h) e.event

    small : (l n q : ℕ) → l ≤ n + q → q ≡ 0 → l ≤ suc n
    small l n q h z = omega (arith, h, z)

    never : (l n q : ℕ) → l ≤ n + q → q ≡ 0 → suc n ≤ l → ⊥
    never l n q h z i = omega (arith, h, z, i)

    owed : (l n q : ℕ) → l ≤ n + 1 + q → q ≡ 0 → l ≤ suc n
    owed l n q h z = omega (arith, h, z)

    go : open_at s.current p ≡ 0 → Balanced o h (keys_to x y p h) (ends_from x y p h) (votes_from x y p h) (open_at s.current p) → IsClear (keys_to x y p h) (ends_from x y p h) (votes_from x y p h)
    go z (inl b) = (small (length (keys_to x y p h)) (ends_from x y p h) (open_at s.current p) b z, λ i. absurd (never (length (keys_to x y p h)) (ends_from x y p h) (open_at s.current p) b z i))
    go z (inr d) = (owed (length (keys_to x y p h)) (ends_from x y p h) (open_at s.current p) d.least z, λ i. d.voted)

clear_next : (o : Origin) (up : Option Addr) (p : ℕ) (g : Deeds) (rs : List LogRec) (e : Entry) (h : List Entry) → Rules o up p g rs e h → Accounts o p g rs h → (x y : Mark) (j : BranchKey) → Live_step o p g rs e h x y → Marked counted_of (digest o (e ∷ h)).current p j → open_at (digest o (e ∷ h)).current p ≡ 1
    → IsClear (keys_to x y p (e ∷ h)) (ends_from x y p (e ∷ h)) (votes_from x y p (e ∷ h))
clear_next o up p g rs e h rules old x y j st m one = by st.behind.took
  where
    s : Digest
    s = prelude o.who (digest o h) e.event

    abbrev_same : (l m b : ℕ) → l ≡ m + b → b ≡ 0 → l ≡ m
    abbrev_same l m b h z = omega (arith, h, z)

    -- no Begin went out, where the branch was counted before
    same : Marked counted_of s.current p j → length (keys_to x y p (e ∷ h)) ≡ length (keys_to x y p h)
    same a = abbrev_same (length (keys_to x y p (e ∷ h))) (length (keys_to x y p h)) (length st.more) st.long (st.once j a m)

    still : (n : ℕ) (v : Bool) → ends_from x y p (e ∷ h) ≡ n → votes_from x y p (e ∷ h) ≡ v → (length (keys_to x y p (e ∷ h)) ≤ suc n) × (suc n ≤ length (keys_to x y p (e ∷ h)) → v ≡ true) → IsClear (keys_to x y p (e ∷ h)) (ends_from x y p (e ∷ h)) (votes_from x y p (e ∷ h))
    still n v i k c = rw (i, k) c

    kept : Marked counted_of s.current p j → (ends_from x y p (e ∷ h) ≡ ends_from x y p h) → votes_from x y p (e ∷ h) ≡ votes_from x y p h → IsClear (keys_to x y p (e ∷ h)) (ends_from x y p (e ∷ h)) (votes_from x y p (e ∷ h))
    kept a i k =
        let c = clear_at o p g rs e h x y j st a in
        let l = same a in
        still (ends_from x y p h) (votes_from x y p h) i k (subst (λ (z : ℕ). z ≤ suc (ends_from x y p h)) (sym l) c.0, λ gt. c.1 (subst (λ (z : ℕ). suc (ends_from x y p h) ≤ z) l gt))

    ended : Marked counted_of s.current p j → ends_from x y p (e ∷ h) ≡ ends_from x y p h + 1 → votes_from x y p (e ∷ h) ≡ false → IsClear (keys_to x y p (e ∷ h)) (ends_from x y p (e ∷ h)) (votes_from x y p (e ∷ h))
    ended a i k =
        let c = clear_at o p g rs e h x y j st a in
        let l = same a in
        still (ends_from x y p h + 1) false i k (low (length (keys_to x y p (e ∷ h))) (length (keys_to x y p h)) (ends_from x y p h) l c.0, λ gt. absurd (high (length (keys_to x y p (e ∷ h))) (length (keys_to x y p h)) (ends_from x y p h) l c.0 gt))
      where
        low : (l m n : ℕ) → l ≡ m → m ≤ suc n → l ≤ suc (n + 1)
        low l m n h i = omega (arith, h, i)

        high : (l m n : ℕ) → l ≡ m → m ≤ suc n → suc (n + 1) ≤ l → ⊥
        high l m n h i j = omega (arith, h, i, j)

    before : Marked counted_of s.current p j ⊎ MayMark o.who e.event s may_count p j
    before = marking_event o.who (digest o h) e.event counted_of may_count counts_mark (late_law o up h rules.legal.3) rules.legal.0 p j m

    ready : MayMark o.who e.event s may_count p j → TookWord e.event p DialogueRecord.Ready
    ready n = asked_took e.event n.current p DialogueRecord.Ready (subst (λ (f : TxEvent). IsAsked e.event n.current f) (counts_word n.event (seen o.who n.arcs n.current) p n.sets) n.asked)

    word : (a b : Addr) (x y z w : Mark) (q v : ℕ) (r : DialogueRecord) → Event.Arrive a (PeerRecord.OnAssoc x y q r) ≡ Event.Arrive b (PeerRecord.OnAssoc z w v DialogueRecord.Ready) → r ≡ DialogueRecord.Ready
    word a b x y z w q v r h = cc (h)

    took : (t : TookHere p g rs e.event h x y) → (a : Bool) → is_end t.word ≡ a → (b : Bool) → is_vote t.word ≡ b → Marked counted_of s.current p j ⊎ MayMark o.who e.event s may_count p j → IsClear (keys_to x y p (e ∷ h)) (ends_from x y p (e ∷ h)) (votes_from x y p (e ∷ h))
    took t a i b k before = go (taken_now p e h x y t.word (took_here p e.event t.from x y t.seq t.word t.is t.at)) a i b k before
      where
        not_ready : MayMark o.who e.event s may_count p j → t.word ≡ DialogueRecord.Ready
        not_ready n = let w = ready n in word t.from w.from x y w.x w.y t.seq w.seq t.word (sym t.is ∙ w.is)

        go : Taken p e h x y t.word → (a : Bool) → is_end t.word ≡ a → (b : Bool) → is_vote t.word ≡ b → Marked counted_of s.current p j ⊎ MayMark o.who e.event s may_count p j → IsClear (keys_to x y p (e ∷ h)) (ends_from x y p (e ∷ h)) (votes_from x y p (e ∷ h))
        go w true i b k (inr n) = absurd (cc (i, ap is_end (not_ready n)))
        go w true i b k (inl c) = ended c (w.ends_now ∙ end_ends t.word (ends_from x y p h) i) (w.votes_now ∙ end_voting (votes_from x y p h) t.word i)
        go w false i true k c =
            still (ends_from x y p h) true (w.ends_now ∙ quiet_ends t.word (ends_from x y p h) i) (w.votes_now ∙ vote_voting (votes_from x y p h) t.word k)
            (least (length (keys_to x y p (e ∷ h))) (ends_from x y p h) (open_at (digest o (e ∷ h)).current p) (vote_balanced o p g rs e h x y st t i k) one, λ gt. refl)
          where
            least : (l n q : ℕ) → l ≤ n + q → q ≡ 1 → l ≤ suc n
            least l n q h z = omega (arith, h, z)
        go w false i false k (inr n) = absurd (cc (k, ap is_vote (not_ready n)))
        go w false i false k (inl c) = kept c (w.ends_now ∙ quiet_ends t.word (ends_from x y p h) i) (w.votes_now ∙ quiet_voting (votes_from x y p h) t.word i k)

    quiet : ((z w : Mark) → took_of z w p e.event ≡ []) → Marked counted_of s.current p j ⊎ MayMark o.who e.event s may_count p j → IsClear (keys_to x y p (e ∷ h)) (ends_from x y p (e ∷ h)) (votes_from x y p (e ∷ h))
    quiet none (inl c) = kept c (ap ends_in (none_now p e h x y (none x y))) (ap (voting_from false) (none_now p e h x y (none x y)))
    quiet none (inr n) = let w = ready n in absurd (cc (none w.x w.y, took_here p e.event w.from w.x w.y w.seq DialogueRecord.Ready w.is w.at))

    by : ((z w : Mark) → took_of z w p e.event ≡ []) ⊎ TookHere p g rs e.event h x y → IsClear (keys_to x y p (e ∷ h)) (ends_from x y p (e ∷ h)) (votes_from x y p (e ∷ h))
    by (inl none) = quiet none before
    by (inr t) = took t (is_end t.word) refl (is_vote t.word) refl before

pub account_step : (o : Origin) (up : Option Addr) (p : ℕ) (g : Deeds) (rs : List LogRec) (e : Entry) (h : List Entry) → Rules o up p g rs e h → Accounts o p g rs h → Accounts o p g rs (e ∷ h)
account_step o up p g rs e h rules old = record {
  balance = λ x y v k live. balance x y (live_step o up p g rs e h rules old x y v k live) (live_step o up p g rs e h rules old x y v k live).behind.took;
  voted = λ x y v. voted_next o up p g rs e h rules old x y v;
  clear = λ x y v k j live m one. clear_next o up p g rs e h rules old x y j (live_step o up p g rs e h rules old x y v k live) m one;
  counted = λ j m. elim (marking_event o.who (digest o h) e.event counted_of may_count counts_mark (late_law o up h rules.legal.3) rules.legal.0 p j m) [
    | inl n ↦ old.counted j (marked_back o.who (digest o h) e.event counted_of may_count p j counts_mark rules.legal.0 n)
    | inr n ↦ counted_ready o p g rs e.event h j (took_mark o up p g rs e h rules old DialogueRecord.Ready j may_count n (λ a x y q. refl) (counts_word n.event (seen o.who n.arcs n.current) p n.sets))
  ];
  left = λ j m. elim (marking_event o.who (digest o h) e.event left_of may_leave leaves_mark (late_law o up h rules.legal.3) rules.legal.0 p j m) [
    | inl n ↦ old.left j (marked_back o.who (digest o h) e.event left_of may_leave p j leaves_mark rules.legal.0 n)
    | inr n ↦ leaves j n (leaves_word n.event (seen o.who n.arcs n.current) p n.sets)
  ];
}
  where
    balance : (x y : Mark) → Live_step o p g rs e h x y → ((z w : Mark) → took_of z w p e.event ≡ []) ⊎ TookHere p g rs e.event h x y → Balanced o (e ∷ h) (keys_to x y p (e ∷ h)) (ends_from x y p (e ∷ h)) (votes_from x y p (e ∷ h)) (open_at (digest o (e ∷ h)).current p)
    balance x y st (inl none) = none_balanced o up p g rs e h rules x y st none
    balance x y st (inr t) = took_balanced o up p g rs e h rules old x y st t

    leaves : (j : BranchKey) (n : MayMark o.who e.event (prelude o.who (digest o h) e.event) may_leave p j) → (n.event ≡ TxEvent.Took p DialogueRecord.Left) ⊎ (n.event ≡ TxEvent.Took p DialogueRecord.LeftEnd) → g.left j.0 ≡ true
    leaves j n (inl w) =
        let t = took_mark o up p g rs e h rules old DialogueRecord.Left j may_leave n (λ a x y q. refl) w in
        left_key o p g rs e.event h DialogueRecord.Left j t (and_left (not (votes_from t.x t.y p h) && holds_at (keys_to t.x t.y p h) (ends_from t.x t.y p h) g.left) true t.heeded)
    leaves j n (inr w) =
        let t = took_mark o up p g rs e h rules old DialogueRecord.LeftEnd j may_leave n (λ a x y q. refl) w in
        left_key o p g rs e.event h DialogueRecord.LeftEnd j t (and_left (not (votes_from t.x t.y p h) && holds_at (keys_to t.x t.y p h) (ends_from t.x t.y p h) g.left) true t.heeded)

-- what the peer below did, and what is known of it, at every moment
pub account_law : (o : Origin) (up : Option Addr) (p : ℕ) (g : Deeds) (rs : List LogRec) (h : List Entry) → o.start.records ≡ [] → IsGrown o up h → IsOnce o h → heeds g rs p h ≡ true
    → ((j : BranchKey) → g.rolled j.0 ≡ true → has_ready_of j rs ≡ true → decided o j.0 h ≡ true → ⊥) → Accounts o p g rs h
unfolding started
account_law o up p g rs [] empty legal once heeded never = record {
  balance = λ x y s k i. absurd (cc (i));
  voted = λ x y v. absurd (cc (v));
  clear = λ x y s k j i m one. absurd (cc (current_none o empty, m.at));
  counted = λ j m. absurd (cc (current_none o empty, m.at));
  left = λ j m. absurd (cc (current_none o empty, m.at));
}
account_law o up p g rs (e ∷ h) empty legal once heeded never =
    account_step o up p g rs e h
    (record { empty = empty; legal = legal; once = once; heeded = and_left (heeds_event g rs p h e.event) (heeds g rs p h) heeded; never = λ j a b c. never j a b (commit_more j.0 e.rec (records o h) c) })
    (account_law o up p g rs h empty legal.3 once.1 (and_right (heeds_event g rs p h e.event) (heeds g rs p h) heeded) (λ j a b c. never j a b (commit_more j.0 e.rec (records o h) c)))
