-- In every legal history a subordinate answered no more rounds than its superior closed.
use Rattle.std.proofs.Common.{◌≡◌, ◌≤◌, ◌+◌, ◌⊎◌, inl, inr, ℕ, suc, Bool, true, false, refl, ap, sym, subst, ◌∙◌, arith, Option, Some, None, List, [], ◌∷◌, ◌++◌, ◌||◌, ◌==◌}
use Rattle.std.proofs.lemmas.Bool.Decides.{nat_tests}
use Rattle.std.proofs.lemmas.List.{append-nil}
use Rattle.tp_names.specs.declared.identifiers.Mark.{Mark}
use Rattle.tp_names.specs.declared.identifiers.Addr.{Addr}
use Rattle.tp_records.specs.declared.request.Request.{Request}
use Rattle.tp_records.specs.declared.dialogue.DialogueRecord.{DialogueRecord}
use Rattle.tp_records.specs.declared.peer.PeerRecord.{PeerRecord}
use Rattle.tp_records.specs.declared.peer.RecState.{RecState}
use Rattle.tp_model.specs.declared.transaction.TxEvent.{TxEvent}
use Rattle.tp_model.specs.Parts.{Who, Origin, Event, Entry, Link, Idle, Opening, Live, Key, Root, Under, Current, Digest}
use Rattle.tp_model.specs.Links.{is_live}
use Rattle.tp_model.specs.Dialogues.{is_nil, is_ready, is_committing}
use Rattle.tp_model.specs.Arcs.{link_with}
use Rattle.tp_model.specs.Transactions.{Transaction, is_under_at}
use Rattle.tp_model.specs.Node.{next_mark, phase_of, seen, fresh_current}
use Rattle.tp_model.specs.Events.{refusal, action, started, after_crash}
use Rattle.tp_model.specs.History.{digest}
use Rattle.tp_model.specs.Outcomes.{rolls}
use Rattle.tp_model.specs.Questions.{said_to, is_at}
use Rattle.tp_model.specs.Legal.{IsGrown}
use Rattle.tp_steps.specs.Turns.{hears_close}
use Rattle.tp_steps.specs.Moves.{is_word, prelude, IsAskedByRequest}
use Rattle.tp_steps.specs.Traces.{sent_of, took_of}
use Rattle.tp_histories.specs.Traces.{sent_on, own_old, accepted_on}
use Rattle.tp_steps.specs.Facts.{only_words, words_to}
use Rattle.tp_steps.specs.Control.{rounds, flag_from, closes_up, voted_behind}
use Rattle.tp_histories.specs.Control.{is_closing, closes_down, begun_behind, answered, closed}
use Rattle.tp_steps.specs.Answering.{MayAnswer, AnswersAt, IsAnswered}
use Rattle.tp_histories.specs.Answering.{closes_now}
use Rattle.tp_histories.proofs.trees.Late.{late_law}
use Rattle.tp_steps.proofs.links.Links.{mark_same}
use Rattle.tp_steps.proofs.every.EveryRecord.{find_arc_is}
use Rattle.tp_steps.proofs.every.Preludes.{Prelinked, As_before, Now_idle, Now_called, Now_offered, Now_accepted, Now_confirmed, Took_one}
use Rattle.tp_histories.proofs.marks.Traced.{traced_law, live_before, long_of}
use Rattle.tp_histories.proofs.trees.Knowing.{Came, As_it_was, By_begin, By_crash, came_by}
use Rattle.tp_steps.proofs.branches.Rolls.{phase_at}
use Rattle.tp_histories.proofs.pairs.PairedSteps.{reads_event, placed_event, told_entry, sent_said}
use Rattle.tp_steps.proofs.upward.Answering.{rounds_append, flag_append}
use Rattle.tp_steps.proofs.upward.Answered.{Hears, answered_event}
use Rattle.tp_histories.proofs.pairs.Paired.{empty_is}

-- ---- what an event closes

pub asked_user : (r : Request) (c : Current) (f : TxEvent) → IsAskedByRequest r c f → (q : Request) × (f ≡ TxEvent.User q)
asked_user (Request.UAbort p) c f h = (Request.UAbort p, h.0)
asked_user (Request.DeferEnd p) c f h = (Request.DeferEnd p, h)
asked_user (Request.DeferGrant p) c f h = (Request.DeferGrant p, h)
asked_user (Request.Prepare p) c f h = (Request.Prepare p, h)
asked_user Request.Commit c f h = (Request.Commit, h)
asked_user Request.Done c f h = (Request.Done, h)
asked_user Request.Rollback c f h = (Request.Rollback, h)
asked_user Request.Unchanged c f h = (Request.Unchanged, h)
asked_user r c f h = absurd h

under_same : (k : Key) (p q : ℕ) → is_under_at k p ≡ true → is_under_at k q ≡ true → (q == p) ≡ true
under_same (Root t) p q h i = absurd cc
under_same (Under t b a) p q h i = grind (arith, nat_tests, h, i)

not_heard : (f g : TxEvent) (t : Transaction) → f ≡ g → hears_close f t ≡ true → hears_close g t ≡ false → ⊥
not_heard f g t is h other = cc (ap (λ (u : TxEvent). hears_close u t) is, h, other)

took_hears : (s : Digest) (p : ℕ) (from : Addr) (x y : Mark) (q : ℕ) (r : DialogueRecord) (t : Transaction) → is_under_at t.key p ≡ true → hears_close (TxEvent.Took from.node r) t ≡ true → closes_now s p (Event.Arrive from (PeerRecord.OnAssoc x y q r)) ≡ true
took_hears s p from x y q DialogueRecord.Prepare t under h = under_same t.key p from.node under h
took_hears s p from x y q DialogueRecord.Rollback t under h = under_same t.key p from.node under h
took_hears s p from x y q r t under h = absurd (cc (h))

hears_event : (who : Who) (e : Event) (p : ℕ) (s : Digest) → Hears who e p (closes_now s p e) s
hears_event who (Event.Do r) p s c f arcs is asked under h = let q = asked_user r c f asked in absurd (not_heard f (TxEvent.User q.0) (seen who arcs c) q.1 h refl)
hears_event who (Event.Arrive from (PeerRecord.OnAssoc x y q r)) p s c f arcs is asked under h =
    took_hears s p from x y q r (seen who arcs c) under (sym (ap (λ (u : TxEvent). hears_close u (seen who arcs c)) asked) ∙ h)
hears_event who (Event.Arrive from (PeerRecord.ShutAssoc x (Some y))) p s c f arcs is asked under h = absurd (not_heard f (TxEvent.Lost from.node) (seen who arcs c) asked h refl)
hears_event who (Event.Arrive from (PeerRecord.RecCommit t b)) p s c f arcs is asked under h = absurd (not_heard f TxEvent.Ordered (seen who arcs c) asked.0 h refl)
hears_event who (Event.Arrive from (PeerRecord.RecReply t b RecState.Commit)) p s c f arcs is asked under h = absurd (not_heard f (TxEvent.Reply b RecState.Commit) (seen who arcs c) asked.0 h refl)
hears_event who (Event.Arrive from (PeerRecord.RecReply t b (RecState.Done r))) p s c f arcs is asked under h = absurd (not_heard f (TxEvent.Reply b (RecState.Done r)) (seen who arcs c) asked.0 h refl)
hears_event who (Event.Arrive from (PeerRecord.RecReply t b RecState.Unknown)) p s c f arcs is asked under h =
    let ready : is_ready c.phase ≡ true = sym (ap (λ (u : TxEvent). hears_close u (seen who arcs c)) asked.0) ∙ h in
    ap is_ready (phase_at s c is) ∙ ready
hears_event who (Event.Arrive from (PeerRecord.RecReply t b RecState.RetryLater)) p s c f arcs is asked under h = absurd (not_heard f (TxEvent.Reply b RecState.RetryLater) (seen who arcs c) asked.0 h refl)
hears_event who (Event.Break from r) p s c f arcs is asked under h = absurd (not_heard f (TxEvent.Lost from.node) (seen who arcs c) asked h refl)
hears_event who (Event.Lose q) p s c f arcs is asked under h = absurd (not_heard f (TxEvent.Lost q) (seen who arcs c) asked h refl)
hears_event who (Event.Heur o) p s c f arcs is asked under h = absurd (not_heard f (TxEvent.Heur o) (seen who arcs c) asked h refl)
hears_event who (Event.GiveUp q) p s c f arcs is asked under h = absurd (not_heard f (TxEvent.GiveUp q) (seen who arcs c) asked h refl)
hears_event who Event.Retry p s c f arcs is asked under h = absurd (not_heard f TxEvent.Retry (seen who arcs c) asked h refl)
hears_event who _ p s c f arcs is asked under h = absurd asked

-- a record that closes is taken from the superior, or the transaction is ready
record Took (p : ℕ) (e : Event) : Type 0 where
  from : Addr
  first : Mark
  second : Mark
  number : ℕ
  word : DialogueRecord
  is : e ≡ Event.Arrive from (PeerRecord.OnAssoc first second number word)
  at : from.node ≡ p
  closing : is_closing word ≡ true

closing_took : (s : Digest) (p : ℕ) (from : Addr) (x y : Mark) (q : ℕ) (r : DialogueRecord) → closes_now s p (Event.Arrive from (PeerRecord.OnAssoc x y q r)) ≡ true → (from.node ≡ p) × (is_closing r ≡ true)
closing_took s p from x y q DialogueRecord.Prepare h = (grind (arith, nat_tests, h), refl)
closing_took s p from x y q DialogueRecord.Rollback h = (grind (arith, nat_tests, h), refl)
closing_took s p from x y q r h = absurd (cc (h))

closing_by : (s : Digest) (p : ℕ) (e : Event) → closes_now s p e ≡ true → Took p e ⊎ (is_ready (phase_of s) ≡ true)
closing_by s p (Event.Arrive from (PeerRecord.OnAssoc x y q r)) h =
    let t = closing_took s p from x y q r h in
    inl (record { from = from; first = x; second = y; number = q; word = r; is = refl; at = t.0; closing = t.1 })
closing_by s p (Event.Arrive from (PeerRecord.RecReply t b RecState.Unknown)) h = inr h
closing_by s p e h = absurd (cc (h))

pub took_it : (p : ℕ) (from : Addr) (x y : Mark) (q : ℕ) (r : DialogueRecord) → from.node ≡ p → took_of x y p (Event.Arrive from (PeerRecord.OnAssoc x y q r)) ≡ r ∷ []
took_it p from x y q r at = grind (arith, nat_tests, at, mark_same x, mark_same y)

-- an event that takes nothing from the peer takes no record of it
pub took_none : (p : ℕ) (e : Event) (from : Addr) (x y : Mark) (q : ℕ) (r : DialogueRecord) → e ≡ Event.Arrive from (PeerRecord.OnAssoc x y q r) → from.node ≡ p → took_of x y p e ≡ [] → ⊥
took_none p e from x y q r is at none = let one : took_of x y p e ≡ r ∷ [] = ap (took_of x y p) is ∙ took_it p from x y q r at in cc (one, none)

-- ---- rounds with one more record

more_opens : (f : Bool) (r : DialogueRecord) (c b d : ℕ) → d ≡ b + rounds closes_down begun_behind f (r ∷ []) → c ≤ b → (f ≡ true) ⊎ (suc c ≤ b) → (flag_from begun_behind f (r ∷ []) ≡ true) ⊎ (suc c ≤ d)
more_opens f r c b d i le (inr h) = inr (omega (arith, i, h))
more_opens f r c b d i le (inl h) = go (is_closing r) refl
  where
    go : (x : Bool) → is_closing r ≡ x → (flag_from begun_behind f (r ∷ []) ≡ true) ⊎ (suc c ≤ d)
    go true j = let one : rounds closes_down begun_behind f (r ∷ []) ≡ 1 = grind (arith, h, j) in inr (omega (arith, i, one, le))
    go false j = inl (grind (arith, h, j))

more_closes : (f : Bool) (r : DialogueRecord) (c b d : ℕ) → is_closing r ≡ true → d ≡ b + rounds closes_down begun_behind f (r ∷ []) → c ≤ b → (f ≡ true) ⊎ (suc c ≤ b) → suc c ≤ d
more_closes f r c b d j i le (inr h) = omega (arith, i, h)
more_closes f r c b d j i le (inl h) = let one : rounds closes_down begun_behind f (r ∷ []) ≡ 1 = grind (arith, h, j) in omega (arith, i, one, le)

word_quiet : (v : Bool) (r : DialogueRecord) → is_word r ≡ false → (closes_up v r ≡ false) × (voted_behind v r ≡ v)
word_quiet v DialogueRecord.Ready h = absurd cc
word_quiet v (DialogueRecord.Done r) h = absurd cc
word_quiet v (DialogueRecord.RolledBack r) h = absurd cc
word_quiet v DialogueRecord.Left h = absurd cc
word_quiet v DialogueRecord.LeftEnd h = absurd cc
word_quiet v r h = (grind arith, grind arith)

zero_more : (m n : ℕ) → m ≡ n → m ≡ 0 + n
zero_more m n h = omega (arith, h)

words_rounds : (v : Bool) (rs : List DialogueRecord) → (rounds closes_up voted_behind v (only_words rs) ≡ rounds closes_up voted_behind v rs) × (flag_from voted_behind v (only_words rs) ≡ flag_from voted_behind v rs)
words_rounds v [] = (refl, refl)
words_rounds v (r ∷ rs) = go (is_word r) refl (words_rounds (voted_behind v r) rs) (words_rounds v rs)
  where
    go : (b : Bool) → is_word r ≡ b → (rounds closes_up voted_behind (voted_behind v r) (only_words rs) ≡ rounds closes_up voted_behind (voted_behind v r) rs) × (flag_from voted_behind (voted_behind v r) (only_words rs) ≡ flag_from voted_behind (voted_behind v r) rs)
        → (rounds closes_up voted_behind v (only_words rs) ≡ rounds closes_up voted_behind v rs) × (flag_from voted_behind v (only_words rs) ≡ flag_from voted_behind v rs)
        → (rounds closes_up voted_behind v (only_words (r ∷ rs)) ≡ rounds closes_up voted_behind v (r ∷ rs)) × (flag_from voted_behind v (only_words (r ∷ rs)) ≡ flag_from voted_behind v (r ∷ rs))
    go true i one two = (rw (i, only_words, one.0) refl, rw (i, only_words) one.1)
    go false i one two =
        let q = word_quiet v r i in
        (rw (i, only_words, q.0, q.1) (zero_more (rounds closes_up voted_behind v (only_words rs)) (rounds closes_up voted_behind v rs) two.0), rw (i, only_words, q.1) two.1)

-- ---- the law

abbrev voted : List DialogueRecord → Bool
voted rs = flag_from voted_behind false rs

abbrev begun : List DialogueRecord → Bool
begun rs = flag_from begun_behind false rs

-- of what was sent and taken, and what is current
abbrev Holds : Bool → List DialogueRecord → List DialogueRecord → Option Current → ℕ → Type 0
Holds cl sent taken o p = (answered sent ≤ closed taken) × AnswersAt cl (answered sent) (closed taken) (voted sent) (begun taken) o p

or_left : (a b c : Bool) → (a || b || c) ≡ true → ((a || b || false) ≡ true) ⊎ (c ≡ true)
or_left true b c h = inl refl
or_left false true c h = inl refl
or_left false false c h = inr h

told_so : (a b : Bool) → a ≡ true → (a || b || false) ≡ true
told_so a b h = rw h refl

ready_so : (a : Bool) (b c : Bool) → b ≡ true → (a || b || c) ≡ true
ready_so a b c h = grind (arith, h)

-- nothing was taken in the event
holds_still : (cl : Bool) (sent taken : List DialogueRecord) (s : Digest) (o : Option Current) (p : ℕ) → s.current ≡ o → Holds false sent taken o p → (cl ≡ true → is_ready (phase_of s) ≡ true) → Holds cl sent taken s.current p
holds_still cl sent taken s o p same old ready = (old.0, on)
  where
    on : AnswersAt cl (answered sent) (closed taken) (voted sent) (begun taken) s.current p
    on x is n u =
        let was = old.1 x (sym same ∙ is) n u in
        record {
          marks = was.marks;
          opens = was.opens;
          closes = λ z l. elim (or_left x.told_prepare x.superior_rolled cl l) [
            | inl h ↦ was.closes z h
            | inr h ↦
                (let now : is_ready x.phase ≡ true = sym (ap is_ready (phase_at s x is)) ∙ ready h in
                was.closes z (told_so x.told_prepare x.superior_rolled (was.marks (ready_so x.asked (is_ready x.phase) (is_committing x.phase) now))))
          ];
        }

-- a record was taken
holds_taken : (cl : Bool) (sent taken : List DialogueRecord) (r : DialogueRecord) (s : Digest) (o : Option Current) (p : ℕ) → s.current ≡ o → Holds false sent taken o p → (cl ≡ true → (is_closing r ≡ true) ⊎ (is_ready (phase_of s) ≡ true))
    → Holds cl sent (taken ++ r ∷ []) s.current p
holds_taken cl sent taken r s o p same old ready = (omega (arith, old.0, sum), on)
  where
    sum : closed (taken ++ r ∷ []) ≡ closed taken + rounds closes_down begun_behind (begun taken) (r ∷ [])
    sum = rounds_append closes_down begun_behind false taken (r ∷ [])

    flag : begun (taken ++ r ∷ []) ≡ flag_from begun_behind (begun taken) (r ∷ [])
    flag = flag_append begun_behind false taken (r ∷ [])

    later : (c : ℕ) → suc c ≤ closed taken → suc c ≤ closed (taken ++ r ∷ [])
    later c h = omega (arith, sum, h)

    opened_so : (c : ℕ) → (flag_from begun_behind (begun taken) (r ∷ []) ≡ true) ⊎ (suc c ≤ closed (taken ++ r ∷ [])) → (begun (taken ++ r ∷ []) ≡ true) ⊎ (suc c ≤ closed (taken ++ r ∷ []))
    opened_so c (inl h) = inl (flag ∙ h)
    opened_so c (inr h) = inr h

    on : AnswersAt cl (answered sent) (closed (taken ++ r ∷ [])) (voted sent) (begun (taken ++ r ∷ [])) s.current p
    on x is n u =
        let was = old.1 x (sym same ∙ is) n u in
        record {
          marks = was.marks;
          opens = λ z. opened_so (answered sent) (more_opens (begun taken) r (answered sent) (closed taken) (closed (taken ++ r ∷ [])) sum old.0 (was.opens z));
          closes = λ z l. elim (or_left x.told_prepare x.superior_rolled cl l) [
            | inl h ↦ later (answered sent) (was.closes z h)
            | inr h ↦ elim (ready h) [
              | inl k ↦ more_closes (begun taken) r (answered sent) (closed taken) (closed (taken ++ r ∷ [])) k sum old.0 (was.opens z)
              | inr k ↦
                  (let now : is_ready x.phase ≡ true = sym (ap is_ready (phase_at s x is)) ∙ k in
                  later (answered sent) (was.closes z (told_so x.told_prepare x.superior_rolled (was.marks (ready_so x.asked (is_ready x.phase) (is_committing x.phase) now)))))
            ]
          ];
        }

-- a Begin was taken
holds_begun : (cl : Bool) (sent taken : List DialogueRecord) (r : DialogueRecord) (s : Digest) (o : Option Current) (p : ℕ) (k : Key) → s.current ≡ Some (fresh_current k) → Holds false sent taken o p → cl ≡ false
    → begun_behind (begun taken) r ≡ true → Holds cl sent (taken ++ r ∷ []) s.current p
holds_begun cl sent taken r s o p k cur old none begins = (omega (arith, old.0, sum), on)
  where
    sum : closed (taken ++ r ∷ []) ≡ closed taken + rounds closes_down begun_behind (begun taken) (r ∷ [])
    sum = rounds_append closes_down begun_behind false taken (r ∷ [])

    flag : begun (taken ++ r ∷ []) ≡ true
    flag = flag_append begun_behind false taken (r ∷ []) ∙ begins

    fresh : MayAnswer cl (answered sent) (closed (taken ++ r ∷ [])) (voted sent) (begun (taken ++ r ∷ [])) (fresh_current k).asked (fresh_current k).phase (fresh_current k).told_prepare (fresh_current k).superior_rolled
    fresh = record { marks = λ h. absurd (cc (h)); opens = λ z. inl flag; closes = λ z l. absurd (cc (l, none)) }

    on : AnswersAt cl (answered sent) (closed (taken ++ r ∷ [])) (voted sent) (begun (taken ++ r ∷ [])) s.current p
    on x is n u =
        let same : fresh_current k ≡ x = cc (sym cur ∙ is) in
        subst (λ (y : Current). MayAnswer cl (answered sent) (closed (taken ++ r ∷ [])) (voted sent) (begun (taken ++ r ∷ [])) y.asked y.phase y.told_prepare y.superior_rolled) same fresh

holds_prelude : (o : Origin) (up : Option Addr) (e : Event) (h : List Entry) (p : ℕ) (x y : Mark) (s k : ℕ)
    → ((z w : Mark) (v u : ℕ) → link_with (digest o h).arcs p ≡ Live z w v u → Holds false (sent_on z w p h) (accepted_on z w p h) (digest o h).current p) → IsGrown o up h → refusal o.who (digest o h) e ≡ None → is_at up p ≡ true
    → link_with (prelude o.who (digest o h) e).arcs p ≡ Live x y s k → (l : Link) → link_with (prelude o.who (digest o h) e).arcs p ≡ l → Prelinked o.who up p (digest o h) e l
    → Holds (closes_now (prelude o.who (digest o h) e) p e) (sent_on x y p h) (accepted_on x y p h ++ took_of x y p e) (prelude o.who (digest o h) e).current p
unfolding after_crash
holds_prelude o up e h p x y s k old legal ok above live l at pre = go pre
  where
    d : Digest
    d = digest o h

    now : Digest
    now = prelude o.who d e

    cl : Bool
    cl = closes_now now p e

    crashed : e ≡ Event.Crash → ⊥
    crashed is = let idle : link_with now.arcs p ≡ Idle = ap (λ (f : Event). link_with (prelude o.who d f).arcs p) is in cc (idle, live)

    quiet : ((z w : Mark) → took_of z w p e ≡ []) → cl ≡ true → is_ready (phase_of now) ≡ true
    quiet none c = elim (closing_by now p e c) [ inl t ↦ absurd (took_none p e t.from t.first t.second t.number t.word t.is t.at (none t.first t.second)) | inr r ↦ r ]

    same_taken : took_of x y p e ≡ [] → accepted_on x y p h ≡ accepted_on x y p h ++ took_of x y p e
    same_taken none = sym (ap (λ (ys : List DialogueRecord). accepted_on x y p h ++ ys) none ∙ append-nil (accepted_on x y p h))

    -- a Begin that is taken from another peer leaves no transaction under this one
    elsewhere : ((z w : Mark) → took_of z w p e ≡ []) → (c b : ℕ) (v f : Bool) → Came o.who d e → (now.current ≡ d.current → AnswersAt cl c b v f now.current p) → AnswersAt cl c b v f now.current p
    elsewhere none c b v f (As_it_was i) rest = rest i
    elsewhere none c b v f (By_crash is cur) rest = absurd (crashed is)
    elsewhere none c b v f (By_begin from z w q t i g a is found cur nil sup) rest = λ r here n u. absurd (mine r here u)
      where
        mine : (r : Current) → now.current ≡ Some r → is_under_at r.key p ≡ true → ⊥
        mine r here u =
            let same : fresh_current (Under t i a.peer) ≡ r = cc (sym cur ∙ here) in
            let under : (a.peer.node == p) ≡ true = ap (λ (y : Current). is_under_at y.key p) same ∙ u in
            let node : a.peer.node ≡ p = grind (arith, nat_tests, under) in
            took_none p e from z w q (DialogueRecord.Begin t i g) is (sym (find_arc_is d.arcs from.node a found) ∙ node) (none z w)

    kept : (v u : ℕ) → link_with d.arcs p ≡ Live x y v u → ((z w : Mark) → took_of z w p e ≡ []) → Holds cl (sent_on x y p h) (accepted_on x y p h ++ took_of x y p e) now.current p
    kept v u was none =
        let before = old x y v u was in
        let stays : (answered (sent_on x y p h) ≤ closed (accepted_on x y p h)) × AnswersAt cl (answered (sent_on x y p h)) (closed (accepted_on x y p h)) (voted (sent_on x y p h)) (begun (accepted_on x y p h)) now.current p =
        (before.0, elsewhere none (answered (sent_on x y p h)) (closed (accepted_on x y p h)) (voted (sent_on x y p h)) (begun (accepted_on x y p h)) (came_by o.who d e ok) (λ i. (holds_still cl (sent_on x y p h) (accepted_on x y p h) now d.current p i before (quiet none)).1)) in
        subst (λ (ts : List DialogueRecord). Holds cl (sent_on x y p h) ts now.current p) (same_taken (none x y)) stays

    first : (z w : Mark) → l ≡ Live z w 0 0 → is_nil (phase_of d) ≡ true → ((z w : Mark) → took_of z w p e ≡ []) → Prelinked o.who up p d e l → Holds cl (sent_on x y p h) (accepted_on x y p h ++ took_of x y p e) now.current p
    first z w i nil none q =
        let same : Live x y s k ≡ Live z w 0 0 = sym live ∙ at ∙ i in
        let zs : s ≡ 0 = cc (same) in
        let zk : k ≡ 0 = cc (same) in
        let long = long_of o.who up d e h (traced_law o up h legal) p l q x y s k (sym at ∙ live) in
        let no_sent : sent_on x y p h ≡ [] = empty_is (sent_on x y p h) (long.0 ∙ zs) in
        let no_taken : accepted_on x y p h ++ took_of x y p e ≡ [] = empty_is (accepted_on x y p h ++ took_of x y p e) (long.1 ∙ zk) in
        let start : (0 ≤ 0) × AnswersAt cl 0 0 false false now.current p = (omega arith, elsewhere none 0 0 false false (came_by o.who d e ok) (λ j. λ r here n u. absurd (cc (n, ap is_nil (sym (phase_at d r (sym j ∙ here))) ∙ nil)))) in
        subst (λ (ts : List DialogueRecord). Holds cl (sent_on x y p h) ts now.current p) (sym no_taken) (subst (λ (ss : List DialogueRecord). Holds cl ss [] now.current p) (sym no_sent) start)

    opening_down : (z : Mark) → link_with d.arcs p ≡ Opening z → ⊥
    opening_down z op =
        let own : own_old o.who d up p (Opening z) ≡ true = ap (own_old o.who d up p) (sym op) ∙ (traced_law o up h legal).own p in
        absurd (grind (arith, own, above))

    one_more : (a : Addr) (v u : ℕ) (r : DialogueRecord) → link_with d.arcs p ≡ Live x y v u → a.node ≡ p → e ≡ Event.Arrive a (PeerRecord.OnAssoc x y u r) → Holds cl (sent_on x y p h) (accepted_on x y p h ++ took_of x y p e) now.current p
    one_more a v u r was node ev =
        let one : took_of x y p e ≡ r ∷ [] = ap (took_of x y p) ev ∙ took_it p a x y u r node in
        subst (λ (ys : List DialogueRecord). Holds cl (sent_on x y p h) (accepted_on x y p h ++ ys) now.current p) (sym one) (by (came_by o.who d e ok))
      where
        word : (from : Addr) (z w : Mark) (q : ℕ) (g : DialogueRecord) → e ≡ Event.Arrive from (PeerRecord.OnAssoc z w q g) → g ≡ r
        word from z w q g is = let same : Event.Arrive from (PeerRecord.OnAssoc z w q g) ≡ Event.Arrive a (PeerRecord.OnAssoc x y u r) = sym is ∙ ev in cc (same)

        closing : cl ≡ true → (is_closing r ≡ true) ⊎ (is_ready (phase_of now) ≡ true)
        closing c = elim (closing_by now p e c) [ inl t ↦ inl (ap is_closing (sym (word t.from t.first t.second t.number t.word t.is)) ∙ t.closing) | inr q ↦ inr q ]

        by : Came o.who d e → Holds cl (sent_on x y p h) (accepted_on x y p h ++ r ∷ []) now.current p
        by (As_it_was i) = holds_taken cl (sent_on x y p h) (accepted_on x y p h) r now d.current p i (old x y v u was) closing
        by (By_crash is cur) = absurd (crashed is)
        by (By_begin from z w q t i g b is found cur nil sup) =
            let same : DialogueRecord.Begin t i g ≡ r = word from z w q (DialogueRecord.Begin t i g) is in
            let none : cl ≡ false = ap (closes_now now p) is in
            let begins : begun_behind (begun (accepted_on x y p h)) r ≡ true = ap (begun_behind (begun (accepted_on x y p h))) (sym same) in
            holds_begun cl (sent_on x y p h) (accepted_on x y p h) r now d.current p (Under t i b.peer) cur (old x y v u was) none begins

    go : Prelinked o.who up p d e l → Holds cl (sent_on x y p h) (accepted_on x y p h ++ took_of x y p e) now.current p
    go (As_before i none) = kept s k (sym i ∙ sym at ∙ live) none
    go (Now_idle i none) = absurd (cc (sym live ∙ at ∙ i))
    go (Now_called i down n none below calls) = absurd (cc (sym live ∙ at ∙ i))
    go (Now_offered z i u none) = absurd (cc (sym live ∙ at ∙ i))
    go (Now_accepted z i u n none nil) = first z (next_mark o.who d) i nil none (Now_accepted z i u n none nil)
    go (Now_confirmed z w op i none) = absurd (opening_down z op)
    go (Took_one a z w v u r i j node ev) =
        let same : Live x y s k ≡ Live z w v (suc u) = sym live ∙ at ∙ j in
        let ez : z ≡ x = cc (same) in
        let ew : w ≡ y = cc (same) in
        one_more a v u r (i ∙ made z x w y v u ez ew) node (ev ∙ renamed a z x w y u r ez ew)
      where
        made : (z x w y : Mark) (v u : ℕ) → z ≡ x → w ≡ y → Live z w v u ≡ Live x y v u
        made z x w y v u f g = rw (f, g) refl

        renamed : (a : Addr) (z x w y : Mark) (u : ℕ) (r : DialogueRecord) → z ≡ x → w ≡ y → Event.Arrive a (PeerRecord.OnAssoc z w u r) ≡ Event.Arrive a (PeerRecord.OnAssoc x y u r)
        renamed a z x w y u r f g = rw (f, g) refl

-- ---- every legal history

no_closing : (c b : ℕ) (v f : Bool) (cl : Bool) (o : Option Current) (p : ℕ) → AnswersAt cl c b v f o p → AnswersAt false c b v f o p
no_closing c b v f cl o p old x is n u =
    let was = old x is n u in
    record { marks = was.marks; opens = was.opens; closes = λ z l. was.closes z (wider x.told_prepare x.superior_rolled cl l) }
  where
    wider : (a b c : Bool) → (a || b || false) ≡ true → (a || b || c) ≡ true
    wider a b c h = grind (arith, h)

pub answerable_law : (o : Origin) (up : Option Addr) (h : List Entry) → o.start.records ≡ [] → IsGrown o up h → (p : ℕ) (x y : Mark) (s k : ℕ) → is_at up p ≡ true → link_with (digest o h).arcs p ≡ Live x y s k
    → Holds false (sent_on x y p h) (accepted_on x y p h) (digest o h).current p
unfolding started
answerable_law o up [] empty legal p x y s k above live = absurd (cc (live))
answerable_law o up (e ∷ h) empty legal p x y s k above live =
    let d : Digest = digest o h in
    let now : Digest = prelude o.who d e.event in
    let cl : Bool = closes_now now p e.event in
    let t = told_entry o up e h legal p in
    let w = live_before p (link_with now.arcs p) (link_with (digest o (e ∷ h)).arcs p) (action o.who d e.event).outs x y s k t.linked.over live in
    let pre = holds_prelude o up e.event h p x y w.sent k (λ z w v u l. answerable_law o up h empty legal.3 p z w v u above l) legal.3 legal.0 above w.is (link_with now.arcs p) refl t.pre in
    let event : IsAnswered p cl now (action o.who d e.event) = answered_event o.who d e.event p (is_at up p) (rolls o.who d e.event) 1 cl (late_law o up h legal.3) legal.0 (reads_event o up e.event h p legal.0 (placed_event o up e h p empty legal)) (hears_event o.who e.event p now) in
    let said : sent_of x y p e.outs ≡ said_to p (action o.who d e.event).outs = sent_said o up e h legal p x y w.sent k w.is in
    let words = words_rounds (voted (sent_on x y p h)) (said_to p (action o.who d e.event).outs) in
    let count : answered (sent_on x y p h ++ sent_of x y p e.outs) ≡ answered (sent_on x y p h) + rounds closes_up voted_behind (voted (sent_on x y p h)) (words_to p (action o.who d e.event).outs) =
    rounds_append closes_up voted_behind false (sent_on x y p h) (sent_of x y p e.outs)
    ∙ ap (λ (n : ℕ). answered (sent_on x y p h) + n) (ap (rounds closes_up voted_behind (voted (sent_on x y p h))) said ∙ sym words.0) in
    let flag : voted (sent_on x y p h ++ sent_of x y p e.outs) ≡ flag_from voted_behind (voted (sent_on x y p h)) (words_to p (action o.who d e.event).outs) =
    flag_append voted_behind false (sent_on x y p h) (sent_of x y p e.outs) ∙ ap (flag_from voted_behind (voted (sent_on x y p h))) said ∙ sym words.1 in
    let r = event.answers (answered (sent_on x y p h)) (closed (accepted_on x y p h ++ took_of x y p e.event)) (voted (sent_on x y p h)) (begun (accepted_on x y p h ++ took_of x y p e.event)) pre.0 pre.1 (ap is_live live)
    (answered (sent_on x y p h ++ sent_of x y p e.outs)) (voted (sent_on x y p h ++ sent_of x y p e.outs)) count flag in
    (r.0, no_closing (answered (sent_on x y p h ++ sent_of x y p e.outs)) (closed (accepted_on x y p h ++ took_of x y p e.event)) (voted (sent_on x y p h ++ sent_of x y p e.outs)) (begun (accepted_on x y p h ++ took_of x y p e.event)) cl (digest o (e ∷ h)).current p r.1)

pub answers_behind : (o : Origin) (up : Option Addr) (h : List Entry) (p : ℕ) (x y : Mark) (s k : ℕ) → o.start.records ≡ [] → IsGrown o up h → is_at up p ≡ true → link_with (digest o h).arcs p ≡ Live x y s k
    → answered (sent_on x y p h) ≤ closed (accepted_on x y p h)
answers_behind o up h p x y s k empty legal above live = (answerable_law o up h empty legal p x y s k above live).0
