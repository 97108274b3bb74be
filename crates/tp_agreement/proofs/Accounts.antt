-- What a superior knows of a branch below it, by its own history: how many Begins it sent and ends it took, and what it
-- may make of the branch's words.
use Rattle.std.proofs.Common.{◌≡◌, ◌≤◌, ◌+◌, ◌⊎◌, inl, inr, ℕ, zero, suc, Bool, true, false, refl, ap, sym, ◌∙◌, arith, Option, Some, None, List, [], ◌∷◌, ◌==◌, length, slice_get}
use Rattle.std.proofs.lemmas.Bool.Decides.{nat_tests}
use Rattle.tp_names.specs.declared.identifiers.Aaid.{Aaid}
use Rattle.tp_names.specs.declared.identifiers.BranchId.{BranchId}
use Rattle.tp_names.specs.declared.identifiers.Addr.{Addr}
use Rattle.tp_names.specs.declared.identifiers.Mark.{Mark}
use Rattle.tp_names.specs.declared.children.Child.{Child}
use Rattle.tp_names.specs.Same.{is_aaid}
use Rattle.tp_records.specs.declared.dialogue.DialogueRecord.{DialogueRecord}
use Rattle.tp_records.specs.declared.request.Request.{Request}
use Rattle.tp_records.specs.declared.peer.PeerRecord.{PeerRecord}
use Rattle.tp_records.specs.declared.peer.RecState.{RecState}
use Rattle.tp_logrec.specs.declared.record.LogRec.{LogRec}
use Rattle.tp_model.specs.declared.transaction.TxEvent.{TxEvent}
use Rattle.tp_model.specs.Parts.{Who, Origin, Event, Entry, Idle, Live, Branch, Under, Current, Digest}
use Rattle.tp_model.specs.Links.{is_live}
use Rattle.tp_model.specs.Dialogues.{is_nil}
use Rattle.tp_model.specs.Arcs.{link_with}
use Rattle.tp_model.specs.Transactions.{Transaction, fresh_branch}
use Rattle.tp_model.specs.Node.{fresh_current}
use Rattle.tp_model.specs.Events.{refusal, after_crash, named_again, recovered_current}
use Rattle.tp_model.specs.History.{digest}
use Rattle.tp_model.specs.Outcomes.{decided}
use Rattle.tp_steps.specs.Moves.{IsAsked, IsAskedByRequest, IsLate, prelude}
use Rattle.tp_histories.specs.Traces.{sent_on, accepted_on}
use Rattle.tp_steps.specs.Facts.{ends_in, is_open, is_voted, has_ready_of, BranchKey, begun_keys, last_from, find_branch, open_at, key_at}
use Rattle.tp_steps.specs.Trees.{begins_of}
use Rattle.tp_steps.specs.Upward.{voting_from, Deeds}
use Rattle.tp_steps.specs.Branches.{may_count, may_leave}
use Rattle.tp_steps.proofs.lemmas.Folds.{last_is}
use Rattle.tp_steps.proofs.words.Heard.{nil_under}
use Rattle.tp_histories.proofs.trees.Knowing.{Came, As_it_was, By_begin, By_crash, came_by}
use Rattle.tp_steps.proofs.words.Leaves.{aaid_same}
use Rattle.tp_agreement.proofs.Marked.{Marked, IsMark, marked_same}
use Rattle.tp_steps.proofs.lemmas.Options.{some_same}

-- ---- the marks

abbrev pub counted_of : Branch → Bool
counted_of b = b.counted

abbrev pub left_of : Branch → Bool
left_of b = b.left

pub counts_mark : IsMark counted_of may_count
counts_mark = record { moves = λ f q p b n m h. m.counted h; fresh = λ c. refl }

pub leaves_mark : IsMark left_of may_leave
leaves_mark = record { moves = λ f q p b n m h. m.left h; fresh = λ c. refl }

pub none_again : (mark : Branch → Bool) → ((c : Child) → mark (fresh_branch c) ≡ false) → (bs : List Branch) (p : ℕ) (b : Branch) → find_branch (named_again bs) p ≡ Some b → mark b ≡ true → ⊥
none_again mark fresh [] p b h i = absurd (cc (h))
none_again mark fresh (x ∷ bs) p b h i = go x.left refl (λ k. none_again mark fresh bs p b k i)
  where
    on : (v : Bool) → (x.peer.node == p) ≡ v → (find_branch (named_again bs) p ≡ Some b → ⊥) → find_branch (fresh_branch (record { addr = x.peer; branch = x.id }) ∷ named_again bs) p ≡ Some b → ⊥
    on true j rest k =
        let one : Some (fresh_branch (record { addr = x.peer; branch = x.id })) ≡ Some b = rw j at k in
        let same : fresh_branch (record { addr = x.peer; branch = x.id }) ≡ b = cc (one) in
        cc (fresh (record { addr = x.peer; branch = x.id }), ap mark same ∙ i)
    on false j rest k = rest (rw j at k)

    go : (v : Bool) → x.left ≡ v → (find_branch (named_again bs) p ≡ Some b → ⊥) → ⊥
    go true j rest = rest (rw j at h)
    go false j rest = on (x.peer.node == p) refl rest (rw j at h)

-- what is marked after the prelude was marked before
pub marked_back : (who : Who) (d : Digest) (e : Event) (mark : Branch → Bool) (may : TxEvent → Transaction → ℕ → Bool) (p : ℕ) (j : BranchKey) → IsMark mark may → refusal who d e ≡ None → Marked mark (prelude who d e).current p j → Marked mark d.current p j
marked_back who d e mark may p j law ok h = go (came_by who d e ok)
  where
    crashed : (o : Option Current) → d.current ≡ o → recovered_current o ≡ Some h.current → ⊥
    crashed None i k = cc (k)
    crashed (Some c) i k =
        let same : named_again c.branches ≡ h.current.branches = grind (arith, k) in
        none_again mark law.fresh c.branches p h.branch (ap (λ (bs : List Branch). find_branch bs p) same ∙ h.found) h.is

    go : Came who d e → Marked mark d.current p j
    go (As_it_was i) = marked_same mark (prelude who d e).current d.current p j i h
    go (By_begin from x y q t b g a is found cur nil above) =
        let same = some_same (fresh_current (Under t b a.peer)) h.current (sym cur ∙ h.at) in
        let empty : None ≡ Some h.branch = ap (λ (c : Current). find_branch c.branches p) same ∙ h.found in
        absurd (cc (empty))
    go (By_crash is cur) = absurd (crashed d.current refl (sym cur ∙ h.at))

-- and so is what stands open, where the association is live
pub open_back : (who : Who) (d : Digest) (e : Event) (p : ℕ) → refusal who d e ≡ None → is_live (link_with (prelude who d e).arcs p) ≡ true → open_at (prelude who d e).current p ≡ open_at d.current p
unfolding after_crash
open_back who d e p ok live = go (came_by who d e ok)
  where
    go : Came who d e → open_at (prelude who d e).current p ≡ open_at d.current p
    go (As_it_was i) = ap (λ (o : Option Current). open_at o p) i
    go (By_begin from x y q t b g a is found cur nil above) = ap (λ (o : Option Current). open_at o p) cur ∙ sym ((nil_under d p nil).1)
    go (By_crash is cur) = let idle : link_with (prelude who d e).arcs p ≡ Idle = ap (λ (f : Event). link_with (prelude who d f).arcs p) is in absurd (cc (live, ap is_live idle))

-- ---- which events count a branch, or let it leave

asked_request : (q : Request) (c : Current) (p : ℕ) (r : DialogueRecord) → IsAskedByRequest q c (TxEvent.Took p r) → ⊥
asked_request (Request.UAbort n) c p r asked = cc (asked.0)
asked_request (Request.DeferEnd n) c p r asked = cc (asked)
asked_request (Request.DeferGrant n) c p r asked = cc (asked)
asked_request (Request.Prepare n) c p r asked = cc (asked)
asked_request Request.Commit c p r asked = cc (asked)
asked_request Request.Done c p r asked = cc (asked)
asked_request Request.Rollback c p r asked = cc (asked)
asked_request Request.Unchanged c p r asked = cc (asked)
asked_request q c p r asked = asked

pub record TookWord (e : Event) (p : ℕ) (r : DialogueRecord) : Type 0 where
  pub from : Addr
  pub x : Mark
  pub y : Mark
  pub seq : ℕ
  pub is : e ≡ Event.Arrive from (PeerRecord.OnAssoc x y seq r)
  pub at : from.node ≡ p

pub asked_took : (e : Event) (c : Current) (p : ℕ) (r : DialogueRecord) → IsAsked e c (TxEvent.Took p r) → TookWord e p r
asked_took (Event.Do q) c p r asked = absurd (asked_request q c p r asked)
asked_took (Event.Arrive a (PeerRecord.OnAssoc x y q w)) c p r asked =
    let node : p ≡ a.node = cc (asked) in
    let word : r ≡ w = cc (asked) in
    record { from = a; x = x; y = y; seq = q; is = ap (λ (v : DialogueRecord). Event.Arrive a (PeerRecord.OnAssoc x y q v)) (sym word); at = sym node }
asked_took (Event.Arrive a (PeerRecord.RecReply t b (RecState.Done w))) c p r asked = absurd (cc (asked.0))
asked_took (Event.Arrive a (PeerRecord.RecReply t b RecState.Commit)) c p r asked = absurd (cc (asked.0))
asked_took (Event.Arrive a (PeerRecord.RecReply t b RecState.Unknown)) c p r asked = absurd (cc (asked.0))
asked_took (Event.Arrive a (PeerRecord.RecReply t b RecState.RetryLater)) c p r asked = absurd (cc (asked.0))
asked_took (Event.Arrive a (PeerRecord.RecCommit t b)) c p r asked = absurd (cc (asked.0))
asked_took (Event.Arrive a (PeerRecord.ShutAssoc x None)) c p r asked = absurd asked
asked_took (Event.Arrive a (PeerRecord.ShutAssoc x (Some y))) c p r asked = absurd (cc (asked))
asked_took (Event.Arrive a w) c p r asked = absurd asked
asked_took (Event.Declare s) c p r asked = absurd asked
asked_took (Event.Break a w) c p r asked = absurd (cc (asked))
asked_took (Event.Lose n) c p r asked = absurd (cc (asked))
asked_took (Event.Heur o) c p r asked = absurd (cc (asked))
asked_took (Event.GiveUp n) c p r asked = absurd (cc (asked))
asked_took Event.Retry c p r asked = absurd (cc (asked))
asked_took Event.Purge c p r asked = absurd asked
asked_took Event.Crash c p r asked = absurd asked

pub counts_word : (f : TxEvent) (q : Transaction) (p : ℕ) → may_count f q p ≡ true → f ≡ TxEvent.Took p DialogueRecord.Ready
counts_word (TxEvent.Took n DialogueRecord.Ready) q p h = let same : n ≡ p = grind (arith, nat_tests, h) in rw same refl
counts_word f q p h = absurd (grind (arith, h))

pub leaves_word : (f : TxEvent) (q : Transaction) (p : ℕ) → may_leave f q p ≡ true → (f ≡ TxEvent.Took p DialogueRecord.Left) ⊎ (f ≡ TxEvent.Took p DialogueRecord.LeftEnd)
leaves_word (TxEvent.Took n DialogueRecord.Left) q p h = let same : n ≡ p = grind (arith, nat_tests, h) in inl (rw same refl)
leaves_word (TxEvent.Took n DialogueRecord.LeftEnd) q p h = let same : n ≡ p = grind (arith, nat_tests, h) in inr (rw same refl)
leaves_word f q p h = absurd (grind (arith, h))

-- ---- the accounts

-- a branch that a reply closed: its end has not come, Ready did
pub record Debt (o : Origin) (h : List Entry) (ks : List BranchKey) (n : ℕ) (v : Bool) (k : ℕ) : Type 0 where
  pub key : BranchKey
  pub at : slice_get ks n ≡ Some key
  pub voted : v ≡ true
  pub done : decided o key.0 h ≡ true
  pub least : length ks ≤ n + 1 + k

abbrev pub Balanced : Origin → List Entry → List BranchKey → ℕ → Bool → ℕ → Type 0
Balanced o h ks n v k = (length ks ≤ n + k) ⊎ Debt o h ks n v k

abbrev pub keys_to : Mark → Mark → ℕ → List Entry → List BranchKey
keys_to x y p h = begun_keys (sent_on x y p h)

abbrev pub ends_from : Mark → Mark → ℕ → List Entry → ℕ
ends_from x y p h = ends_in (accepted_on x y p h)

abbrev pub votes_from : Mark → Mark → ℕ → List Entry → Bool
votes_from x y p h = voting_from false (accepted_on x y p h)

-- a counted branch that stands open: no debt before it, and Ready was taken
abbrev pub IsClear : List BranchKey → ℕ → Bool → Type 0
IsClear ks n v = (length ks ≤ suc n) × (suc n ≤ length ks → v ≡ true)

pub record Accounts (o : Origin) (p : ℕ) (g : Deeds) (rs : List LogRec) (h : List Entry) : Type 0 where
  pub balance : (x y : Mark) (s k : ℕ) → link_with (digest o h).arcs p ≡ Live x y s k → Balanced o h (keys_to x y p h) (ends_from x y p h) (votes_from x y p h) (open_at (digest o h).current p)
  pub voted : (x y : Mark) → votes_from x y p h ≡ true → is_voted (keys_to x y p h) rs (ends_from x y p h) ≡ true
  pub clear : (x y : Mark) (s k : ℕ) (j : BranchKey) → link_with (digest o h).arcs p ≡ Live x y s k → Marked counted_of (digest o h).current p j → open_at (digest o h).current p ≡ 1 → IsClear (keys_to x y p h) (ends_from x y p h) (votes_from x y p h)
  pub counted : (j : BranchKey) → Marked counted_of (digest o h).current p j → has_ready_of j rs ≡ true
  pub left : (j : BranchKey) → Marked left_of (digest o h).current p j → g.left j.0 ≡ true

-- ---- keys and places

pub get_some : (ks : List BranchKey) (n : ℕ) → suc n ≤ length ks → (j : BranchKey) × (slice_get ks n ≡ Some j)
get_some [] n h = absurd (omega (arith, h))
get_some (k ∷ ks) zero h = (k, refl)
get_some (k ∷ ks) (suc n) h = get_some ks n (less h)
  where
    less : suc (suc n) ≤ suc (length ks) → suc n ≤ length ks
    less i = omega (arith, i)

pub get_long : (ks : List BranchKey) (n : ℕ) (j : BranchKey) → slice_get ks n ≡ Some j → suc n ≤ length ks
get_long [] n j h = absurd (cc (h))
get_long (k ∷ ks) zero j h = omega arith
get_long (k ∷ ks) (suc n) j h = let r = get_long ks n j h in omega (arith, r)

-- the key at the last place is that of the last Begin
pub last_at : (ws : List DialogueRecord) (n : ℕ) (j : BranchKey) → last_from None ws ≡ Some j → length (begun_keys ws) ≡ suc n → slice_get (begun_keys ws) n ≡ Some j
last_at ws n j last long =
    let g = get_some (begun_keys ws) n (self (length (begun_keys ws)) n long) in
    let l = last_is None ws n g.0 g.1 long in
    g.1 ∙ sym l ∙ last
  where
    self : (a n : ℕ) → a ≡ suc n → suc n ≤ a
    self a n h = omega (arith, h)

-- a Begin of the last key was said, where one was said at all
pub said_last : (k : Option BranchKey) (ws : List DialogueRecord) (j : BranchKey) → last_from k ws ≡ Some j → begins_of j.0 ws ≡ 0 → begun_keys ws ≡ []
said_last k [] j h z = refl
said_last k (DialogueRecord.Begin t b i ∷ ws) j h z = go (is_aaid j.0 t) refl (said_last (Some (t, b)) ws j h)
  where
    go : (v : Bool) → is_aaid j.0 t ≡ v → (begins_of j.0 ws ≡ 0 → begun_keys ws ≡ []) → begun_keys (DialogueRecord.Begin t b i ∷ ws) ≡ []
    go true m below = absurd (grind (arith, m, z))
    go false m below =
        let rest = below (grind (arith, m, z)) in
        let one : last_from (Some (t, b)) ws ≡ Some (t, b) = keeps (Some (t, b)) ws rest in
        let same : Some (t, b) ≡ Some j = sym one ∙ h in
        let tree : j.0 ≡ t = first t b j same in
        absurd (cc (m, ap (λ (u : Aaid). is_aaid u t) tree ∙ aaid_same t))
      where
        keeps : (k : Option BranchKey) (ws : List DialogueRecord) → begun_keys ws ≡ [] → last_from k ws ≡ k
        keeps k [] h = refl
        keeps k (DialogueRecord.Begin t b i ∷ ws) h = absurd (cc (h))
        keeps k (r ∷ ws) h = keeps k ws h

        first : (t : Aaid) (b : BranchId) (j : BranchKey) → Some (t, b) ≡ Some j → j.0 ≡ t
        first t b j h = let one : ◌≡◌ {A = BranchKey} (t, b) j = cc (h) in ap (λ (k : BranchKey). k.0) (sym one)
said_last k (r ∷ ws) j h z = said_last k ws j h z

pub marked_key : (mark : Branch → Bool) (d : Digest) (p : ℕ) (j : BranchKey) → IsLate d → Marked mark d.current p j → key_at d.current p ≡ Some j
marked_key mark d p j late h = let l = late h.current h.at in let f = h.found in rw (h.at, key_at) (rw (l, f) (ap (λ (k : BranchKey). Some k) (sym h.key)))

pub open_most : (o : Option Current) (p : ℕ) → open_at o p ≤ 1
open_most None p = omega arith
open_most (Some c) p = go (is_nil c.phase) refl (find_branch c.branches p) refl
  where
    go : (v : Bool) → is_nil c.phase ≡ v → (b : Option Branch) → find_branch c.branches p ≡ b → open_at (Some c) p ≤ 1
    go true i b j = rw (i, open_at) (omega arith)
    go false i None j = rw (i, j, open_at) (omega arith)
    go false i (Some b) j = on (is_open b) refl
      where
        on : (w : Bool) → is_open b ≡ w → open_at (Some c) p ≤ 1
        on true k = let z : open_at (Some c) p ≡ 1 = grind (arith, i, j, k) in omega (arith, z)
        on false k = let z : open_at (Some c) p ≡ 0 = grind (arith, i, j, k) in omega (arith, z)
