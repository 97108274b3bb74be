-- In every run a subordinate end that holds control took more than it returned, in the round that it has not answered.
use Rattle.std.proofs.Common.{◌≡◌, ◌≤◌, ◌+◌, ◌⊎◌, inl, inr, ℕ, zero, suc, Bool, true, false, refl, ap, sym, subst, ◌∙◌, arith, Option, Some, None, List, [], ◌∷◌, ◌++◌, ◌||◌, ◌==◌}
use Rattle.std.proofs.lemmas.Bool.Decides.{nat_tests}
use Rattle.tp_names.specs.declared.identifiers.Mark.{Mark}
use Rattle.tp_names.specs.declared.identifiers.Aaid.{Aaid}
use Rattle.tp_names.specs.declared.identifiers.BranchId.{BranchId}
use Rattle.tp_names.specs.declared.identifiers.Addr.{Addr}
use Rattle.tp_records.specs.declared.request.Request.{Request}
use Rattle.tp_records.specs.declared.dialogue.DialogueRecord.{DialogueRecord}
use Rattle.tp_records.specs.declared.dialogue.Holder.{Holder}
use Rattle.tp_records.specs.declared.peer.PeerRecord.{PeerRecord}
use Rattle.tp_model.specs.Parts.{Who, Origin, Event, Entry, Link, Idle, Opening, Live, Arc, Key, Under, Branch, Current, Digest}
use Rattle.tp_model.specs.Links.{is_live, with_one_taken}
use Rattle.tp_model.specs.Dialogues.{is_nil, is_active}
use Rattle.tp_model.specs.Arcs.{link_with}
use Rattle.tp_model.specs.Transactions.{aaid_of, is_under_at}
use Rattle.tp_model.specs.Node.{Move, is_superior, next_mark, fresh_current}
use Rattle.tp_model.specs.Events.{refusal, action, started, after_crash}
use Rattle.tp_model.specs.History.{digest}
use Rattle.tp_model.specs.Outcomes.{rolls}
use Rattle.tp_model.specs.Questions.{said_to, is_at}
use Rattle.tp_model.specs.Legal.{IsGrown}
use Rattle.tp_model.specs.Happenings.{Happening, run}
use Rattle.tp_model.specs.World.{number_of}
use Rattle.tp_model.specs.Promises.{holds_on}
use Rattle.tp_model.specs.Traces as model
use Rattle.tp_steps.specs.Moves.{IsLate, prelude, gives_to, some_leads}
use Rattle.tp_steps.specs.Traces.{count_to, sent_of, took_of}
use Rattle.tp_histories.specs.Traces.{sent_on, own_old, accepted_on}
use Rattle.tp_steps.specs.Facts.{none_of, ends_in, find_branch, under_at, key_at, KnowsAt, words_to, IsHeard}
use Rattle.tp_histories.specs.Members.{IsOnce}
use Rattle.tp_steps.specs.Ends.{is_there, are_separate}
use Rattle.tp_steps.specs.Upward.{voting_from}
use Rattle.tp_histories.specs.Upward.{VotesAt}
use Rattle.tp_steps.specs.Control.{rounds, flag_from, closes_up, voted_behind}
use Rattle.tp_histories.specs.Control.{closes_down, begun_behind, answered, closed}
use Rattle.tp_control.specs.Control.{is_giving, is_returning, given, returned, TookMore}
use Rattle.tp_control.specs.Holding.{is_holding, holding_at, gains_at, IsPastHolding, IsHolding}
use Rattle.tp_histories.proofs.trees.Late.{late_law, late_prelude}
use Rattle.tp_steps.proofs.every.Preludes.{Prelinked, As_before, Now_idle, Now_called, Now_offered, Now_accepted, Now_confirmed, Took_one}
use Rattle.tp_histories.proofs.marks.Traced.{Told, WasLive, traced_law, live_before, long_of}
use Rattle.tp_histories.proofs.trees.Knowing.{Came, As_it_was, By_begin, By_crash, came_by}
use Rattle.tp_steps.proofs.lemmas.Folds.{words_ends}
use Rattle.tp_histories.proofs.pairs.Paired.{AtPrelude, at_prelude, empty_is}
use Rattle.tp_histories.proofs.pairs.PairedSteps.{reads_event, placed_event, heard_entry, told_entry, sent_said, paired_law}
use Rattle.tp_histories.proofs.upward.SpeaksUp.{speaks_law}
use Rattle.tp_steps.proofs.lemmas.UpwardWords.{is_upward, voting_append}
use Rattle.tp_steps.proofs.upward.Answering.{rounds_append, none_rounds}
use Rattle.tp_histories.proofs.upward.Answerable.{took_it, took_none, answers_behind}
use Rattle.tp_control.proofs.OneHolder.{behind_more, live_link}
use Rattle.tp_control.proofs.Counting.{behind_quiet, behind_past, behind_one, behind_next, ends_or_votes}
use Rattle.tp_control.proofs.Holding.{none_gained}
use Rattle.tp_control.proofs.HoldingMoves.{holding_event, zero_or_one}
use Rattle.tp_control.proofs.HoldingEvents.{Prepared, Stays_there, Holds_none, prepared, Gave, gave_grant, gave_handshake, Took_control, took_grant, took_handshake, Took_begin, took_begin}
use Rattle.tp_histories.proofs.worlds.Good.{good_run}
use Rattle.tp_histories.proofs.worlds.Unique.{unique_run}
use Rattle.tp_histories.proofs.marks.Separate.{separate_law}
use Rattle.tp_runs.proofs.Breaks.{breaks_law, all_sent, all_taken}
use Rattle.tp_steps.proofs.words.Fair.{at_most_none}

-- ---- what is kept

-- of what was sent and taken, where the node knows s
pub record HoldsBelow (p : ℕ) (s : Digest) (sent taken : List DialogueRecord) : Type 0 where
  pub keeps : returned (answered sent) sent ≤ given (answered sent) taken
  pub holds : holding_at p s.arcs ≡ true → suc (returned (answered sent) sent) ≤ given (answered sent) taken
  pub past : IsPastHolding p s

bare_of : (o : Option Current) (p : ℕ) → KnowsAt None o p → (c : Current) → o ≡ Some c → is_nil c.phase ≡ false → find_branch c.branches p ≡ None
bare_of o p knows c is late = go (find_branch c.branches p) refl
  where
    go : (b : Option Branch) → find_branch c.branches p ≡ b → find_branch c.branches p ≡ None
    go None i = i
    go (Some b) i =
        let key : key_at o p ≡ Some (aaid_of c.key, b.id) = ap (λ (v : Option Current). key_at v p) is ∙ grind (arith, i, late) in
        absurd (cc (knows (aaid_of c.key, b.id) key))

-- ---- after the prelude

pub taken_live : (l : Link) (x y : Mark) (s k : ℕ) → Live x y s k ≡ with_one_taken l → (v : ℕ) × (u : ℕ) × (l ≡ Live x y v u)
taken_live (Live z w v u) x y s k h = let ez : x ≡ z = cc (h) in let ew : y ≡ w = cc (h) in (v, u, made z x w y ez ew)
  where
    made : (z x w y : Mark) → x ≡ z → y ≡ w → Live z w v u ≡ Live x y v u
    made z x w y f g = rw (f, g) refl
taken_live _ x y s k h = absurd (cc (h))

pub crash_idle : (who : Who) (d : Digest) (p : ℕ) → link_with (prelude who d Event.Crash).arcs p ≡ Idle
unfolding after_crash
crash_idle who d p = refl

below_prelude : (o : Origin) (up : Option Addr) (e : Event) (h : List Entry) (p : ℕ) (x y : Mark) (s k : ℕ) → IsGrown o up h → refusal o.who (digest o h) e ≡ None → is_at up p ≡ true
    → ((v u : ℕ) → link_with (digest o h).arcs p ≡ Live x y v u → HoldsBelow p (digest o h) (sent_on x y p h) (accepted_on x y p h))
    → link_with (prelude o.who (digest o h) e).arcs p ≡ Live x y s k → (l : Link) → link_with (prelude o.who (digest o h) e).arcs p ≡ l → Prelinked o.who up p (digest o h) e l
    → HoldsBelow p (prelude o.who (digest o h) e) (sent_on x y p h) (accepted_on x y p h)
below_prelude o up e h p x y s k legal ok above old live l at pre = go (prepared o.who d e p ok shut (ap is_live live))
  where
    d : Digest
    d = digest o h

    now : Digest
    now = prelude o.who d e

    shut : (z : Mark) → link_with d.arcs p ≡ Opening z → ⊥
    shut z op =
        let own : own_old o.who d up p (Opening z) ≡ true = ap (own_old o.who d up p) (sym op) ∙ (traced_law o up h legal).own p in
        absurd (grind (arith, own, above))

    keeps : Prelinked o.who up p d e l → returned (answered (sent_on x y p h)) (sent_on x y p h) ≤ given (answered (sent_on x y p h)) (accepted_on x y p h)
    keeps (As_before i none) = (old s k (sym i ∙ sym at ∙ live)).keeps
    keeps (Now_idle i none) = absurd (cc (sym live ∙ at ∙ i))
    keeps (Now_called i down n none below calls) = absurd (cc (sym live ∙ at ∙ i))
    keeps (Now_offered z i u none) = absurd (cc (sym live ∙ at ∙ i))
    keeps (Now_accepted z i u n none nil) =
        let same : Live x y s k ≡ Live z (next_mark o.who d) 0 0 = sym live ∙ at ∙ i in
        let zs : s ≡ 0 = cc (same) in
        let long = long_of o.who up d e h (traced_law o up h legal) p l (Now_accepted z i u n none nil) x y s k (sym at ∙ live) in
        let none_sent : sent_on x y p h ≡ [] = empty_is (sent_on x y p h) (long.0 ∙ zs) in
        subst (λ (ss : List DialogueRecord). returned (answered ss) ss ≤ given (answered ss) (accepted_on x y p h)) (sym none_sent) (omega arith)
    keeps (Now_confirmed z w op i none) = absurd (shut z op)
    keeps (Took_one a z w v u r i j node ev) =
        let t = taken_live (link_with d.arcs p) x y s k (sym live ∙ at ∙ j ∙ sym (ap with_one_taken i)) in
        (old t.0 t.1 t.2).keeps

    crashed : e ≡ Event.Crash → ⊥
    crashed is = let idle : link_with now.arcs p ≡ Idle = ap (λ (f : Event). link_with (prelude o.who d f).arcs p) is ∙ crash_idle o.who d p in cc (idle, live)

    past : IsPastHolding p d → (holding_at p d.arcs ≡ false → holding_at p now.arcs ≡ false) → Came o.who d e → IsPastHolding p now
    past was less (As_it_was i) c is under done = less (was c (sym i ∙ is) under done)
    past was less (By_crash is cur) c i under done = absurd (crashed is)
    past was less (By_begin from z w q t i g a is found cur nil sup) c here under done = absurd (young here)
      where
        young : now.current ≡ Some c → ⊥
        young here = let same : fresh_current (Under t i a.peer) ≡ c = cc (sym cur ∙ here) in cc (ap (λ (y : Current). is_active y.phase) same, done)

    on : HoldsBelow p d (sent_on x y p h) (accepted_on x y p h) → (holding_at p now.arcs ≡ true → (holding_at p d.arcs || false) ≡ true) → HoldsBelow p now (sent_on x y p h) (accepted_on x y p h)
    on was g = record {
      keeps = was.keeps;
      holds = λ held. was.holds (plain (holding_at p d.arcs) (g held));
      past = past was.past (none_gained p d.arcs now.arcs g) (came_by o.who d e ok);
    }
      where
        plain : (b : Bool) → (b || false) ≡ true → b ≡ true
        plain true h = refl
        plain false h = absurd (cc (h))

    go : Prepared p d now → HoldsBelow p now (sent_on x y p h) (accepted_on x y p h)
    go (Holds_none n) = record { keeps = keeps pre; holds = λ held. absurd (cc (held, n)); past = λ c is under done. n }
    go (Stays_there g (inl same)) = on (old s k (sym same ∙ live)) g
    go (Stays_there g (inr one)) = let t = taken_live (link_with d.arcs p) x y s k (sym live ∙ one) in on (old t.0 t.1 t.2) g

-- ---- what a record gives

data Gain (p : ℕ) (e : Event) : Type 0 where
  By_grant : (from : Addr) (x y : Mark) (q : ℕ) → e ≡ Event.Arrive from (PeerRecord.OnAssoc x y q DialogueRecord.Grant) → from.node ≡ p → Gain p e
  By_handshake : (from : Addr) (x y : Mark) (q : ℕ) → e ≡ Event.Arrive from (PeerRecord.OnAssoc x y q DialogueRecord.HandshakeGrant) → from.node ≡ p → Gain p e
  By_transaction : (from : Addr) (x y : Mark) (q : ℕ) (t : Aaid) (b : BranchId) → e ≡ Event.Arrive from (PeerRecord.OnAssoc x y q (DialogueRecord.Begin t b Holder.Subordinate)) → from.node ≡ p → Gain p e

gain_of : (p : ℕ) (e : Event) → gains_at e p ≡ true → Gain p e
gain_of p (Event.Arrive from (PeerRecord.OnAssoc x y q DialogueRecord.Grant)) h = By_grant from x y q refl (grind (arith, nat_tests, h))
gain_of p (Event.Arrive from (PeerRecord.OnAssoc x y q DialogueRecord.HandshakeGrant)) h = By_handshake from x y q refl (grind (arith, nat_tests, h))
gain_of p (Event.Arrive from (PeerRecord.OnAssoc x y q (DialogueRecord.Begin t b Holder.Subordinate))) h = By_transaction from x y q t b refl (grind (arith, nat_tests, h))
gain_of p e h = absurd (cc (h))

record GainedWord (p : ℕ) (e : Event) : Type 0 where
  from : Addr
  first : Mark
  second : Mark
  number : ℕ
  word : DialogueRecord
  is : e ≡ Event.Arrive from (PeerRecord.OnAssoc first second number word)
  at : from.node ≡ p
  gives : is_giving word ≡ true

gained_word : (p : ℕ) (e : Event) → Gain p e → GainedWord p e
gained_word p e (By_grant from x y q is at) = record { from = from; first = x; second = y; number = q; word = DialogueRecord.Grant; is = is; at = at; gives = refl }
gained_word p e (By_handshake from x y q is at) = record { from = from; first = x; second = y; number = q; word = DialogueRecord.HandshakeGrant; is = is; at = at; gives = refl }
gained_word p e (By_transaction from x y q t b is at) = record { from = from; first = x; second = y; number = q; word = DialogueRecord.Begin t b Holder.Subordinate; is = is; at = at; gives = refl }

-- ---- numbers

no_less : (r r' g g' : ℕ) → r' ≡ r → g ≤ g' → r ≤ g → r' ≤ g'
no_less r r' g g' i le h = omega (arith, i, le, h)

no_less_one : (r r' g g' : ℕ) → r' ≡ r → g ≤ g' → suc r ≤ g → suc r' ≤ g'
no_less_one r r' g g' i le h = omega (arith, i, le, h)

more_rounds : (c c' n : ℕ) → c' ≡ c + suc n → suc c ≤ c'
more_rounds c c' n h = omega (arith, h)

same_rounds : (c c' n : ℕ) → c' ≡ c + n → n ≡ 0 → c' ≡ c
same_rounds c c' n h i = omega (arith, h, i)

-- ---- one entry

record Step (o : Origin) (up : Option Addr) (e : Entry) (h : List Entry) (p : ℕ) (x y : Mark) : Type 0 where
  before : HoldsBelow p (prelude o.who (digest o h) e.event) (sent_on x y p h) (accepted_on x y p h)
  said : sent_of x y p e.outs ≡ said_to p (action o.who (digest o h) e.event).outs
  live : is_live (link_with (action o.who (digest o h) e.event).next.arcs p) ≡ true
  heard : IsHeard p (is_at up p) (rolls o.who (digest o h) e.event) 1 (prelude o.who (digest o h) e.event) (prelude o.who (digest o h) e.event) (action o.who (digest o h) e.event)
  votes : VotesAt (voting_from false (sent_on x y p h ++ sent_of x y p e.outs)) (action o.who (digest o h) e.event).next.current p
  bare : (c : Current) → (prelude o.who (digest o h) e.event).current ≡ Some c → find_branch c.branches p ≡ None
  above : is_live (link_with (prelude o.who (digest o h) e.event).arcs p) ≡ true → is_superior (prelude o.who (digest o h) e.event) p ≡ true

-- a round is answered where the transaction ends in the event, or is ready after it
data Answered (p : ℕ) (s t : Digest) : Type 0 where
  Ended : under_at s.current p ≡ 1 → under_at t.current p ≡ 0 → Answered p s t
  Voted : (c : Current) → t.current ≡ Some c → is_under_at c.key p ≡ true → is_active c.phase ≡ false → Answered p s t

one_ends : (a b c : ℕ) → suc 0 ≤ a → a + b ≡ c → (c ≡ 0) ⊎ (c ≡ 1) → (c ≡ 1) × (b ≡ 0)
one_ends a b c h i (inl z) = absurd (omega (arith, h, i, z))
one_ends a b c h i (inr o) = (o, omega (arith, h, i, o))

answers_so : (o : Origin) (up : Option Addr) (e : Entry) (h : List Entry) (p : ℕ) (x y : Mark) → Step o up e h p x y → (v : Bool) (n : ℕ) → rounds closes_up voted_behind v (sent_of x y p e.outs) ≡ suc n
    → Answered p (prelude o.who (digest o h) e.event) (action o.who (digest o h) e.event).next
answers_so o up e h p x y st v n some = go (ends_or_votes (voting_from false (sent_on x y p h)) xs upward)
  where
    xs : List DialogueRecord
    xs = sent_of x y p e.outs

    s : Digest
    s = prelude o.who (digest o h) e.event

    m : Move
    m = action o.who (digest o h) e.event

    upward : none_of is_upward xs ≡ false
    upward = split (none_of is_upward xs) refl
      where
        split : (b : Bool) → none_of is_upward xs ≡ b → b ≡ false
        split false i = refl
        split true i = absurd (cc ((none_rounds v xs i).0, some))

    go : (suc 0 ≤ ends_in xs) ⊎ (voting_from (voting_from false (sent_on x y p h)) xs ≡ true) → Answered p s m.next
    go (inl ends) =
        let words : ends_in (words_to p m.outs) ≡ ends_in xs = words_ends (said_to p m.outs) ∙ ap ends_in (sym st.said) in
        let more : suc 0 ≤ ends_in (words_to p m.outs) = subst (λ (k : ℕ). suc 0 ≤ k) (sym words) ends in
        let r = one_ends (ends_in (words_to p m.outs)) (under_at m.next.current p) (under_at s.current p) more (st.heard.balance st.live) (zero_or_one s.current p) in
        Ended r.0 r.1
    go (inr vote) = let c = st.votes (voting_append false (sent_on x y p h) xs ∙ vote) in Voted c.0 c.1 c.3 c.4

below_quiet : (o : Origin) (up : Option Addr) (e : Entry) (h : List Entry) (p : ℕ) (x y : Mark) → Step o up e h p x y → IsHolding false p (prelude o.who (digest o h) e.event) (action o.who (digest o h) e.event)
    → HoldsBelow p (action o.who (digest o h) e.event).next (sent_on x y p h ++ sent_of x y p e.outs) (accepted_on x y p h ++ took_of x y p e.event)
below_quiet o up e h p x y st hold = go (rounds closes_up voted_behind (flag_from voted_behind false sent) xs) refl
  where
    sent : List DialogueRecord
    sent = sent_on x y p h

    taken : List DialogueRecord
    taken = accepted_on x y p h

    xs : List DialogueRecord
    xs = sent_of x y p e.outs

    ts : List DialogueRecord
    ts = took_of x y p e.event

    m : Move
    m = action o.who (digest o h) e.event

    past : IsPastHolding p m.next
    past = hold.past refl st.before.past

    sum : answered (sent ++ xs) ≡ answered sent + rounds closes_up voted_behind (flag_from voted_behind false sent) xs
    sum = rounds_append closes_up voted_behind false sent xs

    quiet : none_of is_returning xs ≡ true
    quiet = ap (none_of is_returning) st.said ∙ hold.returns

    same : returned (answered (sent ++ xs)) (sent ++ xs) ≡ returned (answered (sent ++ xs)) sent
    same = behind_quiet is_returning closes_up voted_behind false (answered (sent ++ xs)) sent xs quiet

    plain : (b : Bool) → (b || false) ≡ true → b ≡ true
    plain true h = refl
    plain false h = absurd (cc (h))

    go : (n : ℕ) → rounds closes_up voted_behind (flag_from voted_behind false sent) xs ≡ n → HoldsBelow p m.next (sent ++ xs) (taken ++ ts)
    go zero i =
        let still : answered (sent ++ xs) ≡ answered sent = same_rounds (answered sent) (answered (sent ++ xs)) _ sum i in
        let r : returned (answered (sent ++ xs)) (sent ++ xs) ≡ returned (answered sent) sent = same ∙ ap (λ (k : ℕ). returned k sent) still in
        let g : given (answered sent) taken ≤ given (answered (sent ++ xs)) (taken ++ ts) =
        subst (λ (k : ℕ). given (answered sent) taken ≤ given k (taken ++ ts)) (sym still) (behind_more is_giving closes_down begun_behind false (answered sent) taken ts) in
        record {
          keeps = no_less (returned (answered sent) sent) (returned (answered (sent ++ xs)) (sent ++ xs)) (given (answered sent) taken) (given (answered (sent ++ xs)) (taken ++ ts)) r g st.before.keeps;
          holds = λ held. no_less_one (returned (answered sent) sent) (returned (answered (sent ++ xs)) (sent ++ xs)) (given (answered sent) taken) (given (answered (sent ++ xs)) (taken ++ ts)) r g (st.before.holds (plain _ (hold.gains held)));
          past = past;
        }
    go (suc n) i =
        let more : suc (answered sent) ≤ answered (sent ++ xs) = more_rounds (answered sent) (answered (sent ++ xs)) n (subst (λ (k : ℕ). answered (sent ++ xs) ≡ answered sent + k) i sum) in
        let none : returned (answered (sent ++ xs)) (sent ++ xs) ≡ 0 = same ∙ behind_past is_returning closes_up voted_behind false (answered (sent ++ xs)) sent more in
        record {
          keeps = at_most_none (returned (answered (sent ++ xs)) (sent ++ xs)) (given (answered (sent ++ xs)) (taken ++ ts)) none;
          holds = λ held. absurd (cc (held, away (answers_so o up e h p x y st (flag_from voted_behind false sent) n i)));
          past = past;
        }
      where
        away : Answered p (prelude o.who (digest o h) e.event) m.next → holding_at p m.next.arcs ≡ false
        away (Ended one none) = hold.over refl st.before.past one none
        away (Voted c is under done) = past c is under done

-- a record gave control
below_gained : (o : Origin) (up : Option Addr) (e : Entry) (h : List Entry) (p : ℕ) (x y : Mark) (r : DialogueRecord) → Step o up e h p x y → took_of x y p e.event ≡ r ∷ [] → is_giving r ≡ true → answered (sent_on x y p h) ≤ closed (accepted_on x y p h)
    → none_of is_returning (sent_of x y p e.outs) ≡ true → rounds closes_up voted_behind (flag_from voted_behind false (sent_on x y p h)) (sent_of x y p e.outs) ≡ 0 → IsPastHolding p (action o.who (digest o h) e.event).next
    → HoldsBelow p (action o.who (digest o h) e.event).next (sent_on x y p h ++ sent_of x y p e.outs) (accepted_on x y p h ++ took_of x y p e.event)
below_gained o up e h p x y r st took gives le quiet still_zero past =
    let sent : List DialogueRecord = sent_on x y p h in
    let taken : List DialogueRecord = accepted_on x y p h in
    let xs : List DialogueRecord = sent_of x y p e.outs in
    let ts : List DialogueRecord = took_of x y p e.event in
    let still : answered (sent ++ xs) ≡ answered sent = same_rounds (answered sent) (answered (sent ++ xs)) _ (rounds_append closes_up voted_behind false sent xs) still_zero in
    let back : returned (answered (sent ++ xs)) (sent ++ xs) ≡ returned (answered sent) sent =
    behind_quiet is_returning closes_up voted_behind false (answered (sent ++ xs)) sent xs quiet ∙ ap (λ (k : ℕ). returned k sent) still in
    let more : given (answered (sent ++ xs)) (taken ++ ts) ≡ suc (given (answered sent) taken) =
    ap (λ (k : ℕ). given k (taken ++ ts)) still ∙ ap (λ (us : List DialogueRecord). given (answered sent) (taken ++ us)) took ∙ behind_one is_giving closes_down begun_behind false (answered sent) taken r le gives in
    let all : suc (returned (answered (sent ++ xs)) (sent ++ xs)) ≤ given (answered (sent ++ xs)) (taken ++ ts) = one_more (returned (answered sent) sent) (returned (answered (sent ++ xs)) (sent ++ xs)) (given (answered sent) taken) (given (answered (sent ++ xs)) (taken ++ ts)) back more st.before.keeps in
    record { keeps = less (returned (answered (sent ++ xs)) (sent ++ xs)) (given (answered (sent ++ xs)) (taken ++ ts)) all; holds = λ held. all; past = past }
  where
    one_more : (a a' g g' : ℕ) → a' ≡ a → g' ≡ suc g → a ≤ g → suc a' ≤ g'
    one_more a a' g g' i j k = omega (arith, i, j, k)

    less : (a g : ℕ) → suc a ≤ g → a ≤ g
    less a g k = omega (arith, k)

-- a request gave it back
below_gave : (o : Origin) (up : Option Addr) (e : Entry) (h : List Entry) (p : ℕ) (x y : Mark) (r : DialogueRecord) → Step o up e h p x y → ((v : Bool) → rounds closes_up voted_behind v (r ∷ []) ≡ 0) → prelude o.who (digest o h) e.event ≡ digest o h
    → Gave p r (digest o h) (action o.who (digest o h) e.event) → HoldsBelow p (action o.who (digest o h) e.event).next (sent_on x y p h ++ sent_of x y p e.outs) (accepted_on x y p h ++ took_of x y p e.event)
below_gave o up e h p x y r st none same gave =
    let sent : List DialogueRecord = sent_on x y p h in
    let taken : List DialogueRecord = accepted_on x y p h in
    let xs : List DialogueRecord = sent_of x y p e.outs in
    let ts : List DialogueRecord = took_of x y p e.event in
    let one : xs ≡ r ∷ [] = st.said ∙ gave.said in
    let still : answered (sent ++ xs) ≡ answered sent =
    same_rounds (answered sent) (answered (sent ++ xs)) _ (rounds_append closes_up voted_behind false sent xs) (ap (rounds closes_up voted_behind (flag_from voted_behind false sent)) one ∙ none (flag_from voted_behind false sent)) in
    let back : returned (answered (sent ++ xs)) (sent ++ xs) ≤ suc (returned (answered sent) sent) =
    subst (λ (k : ℕ). returned k (sent ++ xs) ≤ suc (returned (answered sent) sent)) (sym still)
    (subst (λ (us : List DialogueRecord). returned (answered sent) (sent ++ us) ≤ suc (returned (answered sent) sent)) (sym one) (behind_next is_returning closes_up voted_behind false (answered sent) sent r)) in
    let more : given (answered sent) taken ≤ given (answered (sent ++ xs)) (taken ++ ts) =
    subst (λ (k : ℕ). given (answered sent) taken ≤ given k (taken ++ ts)) (sym still) (behind_more is_giving closes_down begun_behind false (answered sent) taken ts) in
    let held : suc (returned (answered sent) sent) ≤ given (answered sent) taken = st.before.holds (ap (λ (s : Digest). holding_at p s.arcs) same ∙ gave.before) in
    record {
      keeps = enough (returned (answered sent) sent) (returned (answered (sent ++ xs)) (sent ++ xs)) (given (answered sent) taken) (given (answered (sent ++ xs)) (taken ++ ts)) back more held;
      holds = λ now. absurd (cc (now, gave.after));
      past = λ c is under done. gave.after;
    }
  where
    enough : (a a' g g' : ℕ) → a' ≤ suc a → g ≤ g' → suc a ≤ g → a' ≤ g'
    enough a a' g g' i j k = omega (arith, i, j, k)

-- ---- which event it is

pub data Gives (p : ℕ) (e : Event) : Type 0 where
  Gives_plainly : e ≡ Event.Do (Request.Grant p) → Gives p e
  Gives_for_response : e ≡ Event.Do (Request.HandshakeGrant p) → Gives p e

pub gives_by : (p : ℕ) (e : Event) → gives_to e p ≡ true → Gives p e
gives_by p (Event.Do (Request.Grant q)) h = let same : q ≡ p = grind (arith, nat_tests, h) in Gives_plainly (ap (λ (n : ℕ). Event.Do (Request.Grant n)) same)
gives_by p (Event.Do (Request.HandshakeGrant q)) h = let same : q ≡ p = grind (arith, nat_tests, h) in Gives_for_response (ap (λ (n : ℕ). Event.Do (Request.HandshakeGrant n)) same)
gives_by p e h = absurd (cc (h))

below_gives : (o : Origin) (up : Option Addr) (e : Entry) (h : List Entry) (p : ℕ) (x y : Mark) → Step o up e h p x y → refusal o.who (digest o h) e.event ≡ None → Gives p e.event
    → HoldsBelow p (action o.who (digest o h) e.event).next (sent_on x y p h ++ sent_of x y p e.outs) (accepted_on x y p h ++ took_of x y p e.event)
below_gives o up e h p x y st ok (Gives_plainly is) =
    below_gave o up e h p x y DialogueRecord.Grant st (λ v. grind arith) (ap (prelude o.who (digest o h)) is)
    (subst (λ (f : Event). Gave p DialogueRecord.Grant (digest o h) (action o.who (digest o h) f)) (sym is) (gave_grant o.who (digest o h) p (sym (ap (refusal o.who (digest o h)) is) ∙ ok)))
below_gives o up e h p x y st ok (Gives_for_response is) =
    below_gave o up e h p x y DialogueRecord.HandshakeGrant st (λ v. grind arith) (ap (prelude o.who (digest o h)) is)
    (subst (λ (f : Event). Gave p DialogueRecord.HandshakeGrant (digest o h) (action o.who (digest o h) f)) (sym is) (gave_handshake o.who (digest o h) p (sym (ap (refusal o.who (digest o h)) is) ∙ ok)))

-- the record that gives control is the one that was taken
record Word (o : Origin) (e : Event) (h : List Entry) (p : ℕ) (x y : Mark) : Type 0 where
  word : DialogueRecord
  took : took_of x y p e ≡ word ∷ []
  gives : is_giving word ≡ true
  sent : ℕ
  taken : ℕ
  was : link_with (digest o h).arcs p ≡ Live x y sent taken

word_of : (o : Origin) (up : Option Addr) (e : Event) (h : List Entry) (p : ℕ) (x y : Mark) (s k : ℕ) → GainedWord p e → link_with (prelude o.who (digest o h) e).arcs p ≡ Live x y s k → ((z : Mark) → link_with (digest o h).arcs p ≡ Opening z → ⊥)
    → (l : Link) → link_with (prelude o.who (digest o h) e).arcs p ≡ l → Prelinked o.who up p (digest o h) e l → Word o e h p x y
word_of o up e h p x y s k g live shut l at (As_before i none) = absurd (took_none p e g.from g.first g.second g.number g.word g.is g.at (none g.first g.second))
word_of o up e h p x y s k g live shut l at (Now_idle i none) = absurd (cc (sym live ∙ at ∙ i))
word_of o up e h p x y s k g live shut l at (Now_called i down n none below calls) = absurd (cc (sym live ∙ at ∙ i))
word_of o up e h p x y s k g live shut l at (Now_offered z i u none) = absurd (cc (sym live ∙ at ∙ i))
word_of o up e h p x y s k g live shut l at (Now_accepted z i u n none nil) = absurd (took_none p e g.from g.first g.second g.number g.word g.is g.at (none g.first g.second))
word_of o up e h p x y s k g live shut l at (Now_confirmed z w op i none) = absurd (shut z op)
word_of o up e h p x y s k g live shut l at (Took_one a z w v u r i j node ev) =
    let same : Live x y s k ≡ Live z w v (suc u) = sym live ∙ at ∙ j in
    let ez : z ≡ x = cc (same) in
    let ew : w ≡ y = cc (same) in
    let event : Event.Arrive a (PeerRecord.OnAssoc z w u r) ≡ Event.Arrive g.from (PeerRecord.OnAssoc g.first g.second g.number g.word) = sym ev ∙ g.is in
    let word : g.word ≡ r = cc (event) in
    record {
      word = r;
      took = subst (λ (m : Mark). took_of m y p e ≡ r ∷ []) ez (subst (λ (m : Mark). took_of z m p e ≡ r ∷ []) ew (ap (took_of z w p) ev ∙ took_it p a z w u r node));
      gives = ap is_giving (sym word) ∙ g.gives;
      sent = v;
      taken = u;
      was = i ∙ made z x w y v u ez ew;
    }
  where
    made : (z x w y : Mark) (v u : ℕ) → z ≡ x → w ≡ y → Live z w v u ≡ Live x y v u
    made z x w y v u f g = rw (f, g) refl

below_gains : (o : Origin) (up : Option Addr) (e : Entry) (h : List Entry) (p : ℕ) (x y : Mark) → Step o up e h p x y → IsGrown o up h → refusal o.who (digest o h) e.event ≡ None → answered (sent_on x y p h) ≤ closed (accepted_on x y p h) → IsPastHolding p (digest o h)
    → IsHolding true p (prelude o.who (digest o h) e.event) (action o.who (digest o h) e.event) → (r : DialogueRecord) → took_of x y p e.event ≡ r ∷ [] → is_giving r ≡ true → Gain p e.event
    → HoldsBelow p (action o.who (digest o h) e.event).next (sent_on x y p h ++ sent_of x y p e.outs) (accepted_on x y p h ++ took_of x y p e.event)
below_gains o up e h p x y st legal ok le was hold r took gives gain =
    below_gained o up e h p x y r st took gives le (ap (none_of is_returning) st.said ∙ hold.returns) (quiet gain) (past gain)
  where
    d : Digest
    d = digest o h

    late : IsLate d
    late = late_law o up h legal

    m : Move
    m = action o.who d e.event

    v : Bool
    v = flag_from voted_behind false (sent_on x y p h)

    bare_grant : (f : Event) → e.event ≡ f → (prelude o.who d f).current ≡ d.current → (c : Current) → d.current ≡ Some c → find_branch c.branches p ≡ None
    bare_grant f is same c now = st.bare c (ap (λ (u : Event). (prelude o.who d u).current) is ∙ same ∙ now)

    nothing : (f : Event) → e.event ≡ f → said_to p (action o.who d f).outs ≡ [] → rounds closes_up voted_behind v (sent_of x y p e.outs) ≡ 0
    nothing f is none = ap (rounds closes_up voted_behind v) (st.said ∙ ap (λ (u : Event). said_to p (action o.who d u).outs) is ∙ none)

    grant : (from : Addr) (z w : Mark) (q : ℕ) → e.event ≡ Event.Arrive from (PeerRecord.OnAssoc z w q DialogueRecord.Grant) → from.node ≡ p → Took_control p d (action o.who d (Event.Arrive from (PeerRecord.OnAssoc z w q DialogueRecord.Grant)))
    grant from z w q is at = took_grant o.who d from z w q p at late (bare_grant (Event.Arrive from (PeerRecord.OnAssoc z w q DialogueRecord.Grant)) is refl)

    handshake : (from : Addr) (z w : Mark) (q : ℕ) → e.event ≡ Event.Arrive from (PeerRecord.OnAssoc z w q DialogueRecord.HandshakeGrant) → from.node ≡ p → Took_control p d (action o.who d (Event.Arrive from (PeerRecord.OnAssoc z w q DialogueRecord.HandshakeGrant)))
    handshake from z w q is at = took_handshake o.who d from z w q p at late (bare_grant (Event.Arrive from (PeerRecord.OnAssoc z w q DialogueRecord.HandshakeGrant)) is refl)

    begun : (from : Addr) (z w : Mark) (q : ℕ) (t : Aaid) (b : BranchId) → e.event ≡ Event.Arrive from (PeerRecord.OnAssoc z w q (DialogueRecord.Begin t b Holder.Subordinate)) → Took_begin d from (prelude o.who d e.event) m
    begun from z w q t b is =
        let f : Event = Event.Arrive from (PeerRecord.OnAssoc z w q (DialogueRecord.Begin t b Holder.Subordinate)) in
        subst (λ (u : Event). Took_begin d from (prelude o.who d u) (action o.who d u)) (sym is) (took_begin o.who d from z w q t b Holder.Subordinate (sym (ap (refusal o.who d) is) ∙ ok))

    -- what it begins is active after it
    goes_on : (from : Addr) → Took_begin d from (prelude o.who d e.event) m → Answered p (prelude o.who d e.event) m.next → ⊥
    goes_on from b (Ended one none) =
        let same : under_at m.next.current p ≡ under_at (prelude o.who d e.event).current p = ap (λ (c : Option Current). under_at c p) b.active.is ∙ under_same b.active.now b.key p b.active.key b.active.active ∙ sym (ap (λ (c : Option Current). under_at c p) b.begun) in
        cc (same, one, none)
      where
        under_same : (c : Current) (k : Key) (p : ℕ) → c.key ≡ k → is_active c.phase ≡ true → under_at (Some c) p ≡ under_at (Some (fresh_current k)) p
        under_same c k p i act = grind (arith, i, act)
    goes_on from b (Voted c is under done) = let same : b.active.now ≡ c = cc (sym b.active.is ∙ is) in cc (ap (λ (x : Current). is_active x.phase) (sym same) ∙ b.active.active, done)

    quiet : Gain p e.event → rounds closes_up voted_behind v (sent_of x y p e.outs) ≡ 0
    quiet (By_grant from z w q is at) = nothing (Event.Arrive from (PeerRecord.OnAssoc z w q DialogueRecord.Grant)) is (grant from z w q is at).none
    quiet (By_handshake from z w q is at) = nothing (Event.Arrive from (PeerRecord.OnAssoc z w q DialogueRecord.HandshakeGrant)) is (handshake from z w q is at).none
    quiet (By_transaction from z w q t b is at) = split (rounds closes_up voted_behind v (sent_of x y p e.outs)) refl
      where
        split : (n : ℕ) → rounds closes_up voted_behind v (sent_of x y p e.outs) ≡ n → rounds closes_up voted_behind v (sent_of x y p e.outs) ≡ 0
        split zero i = i
        split (suc n) i = absurd (goes_on from (begun from z w q t b is) (answers_so o up e h p x y st v n i))

    past : Gain p e.event → IsPastHolding p m.next
    past (By_grant from z w q is at) = subst (λ (u : Event). IsPastHolding p (action o.who d u).next) (sym is) ((grant from z w q is at).past was)
    past (By_handshake from z w q is at) = subst (λ (u : Event). IsPastHolding p (action o.who d u).next) (sym is) ((handshake from z w q is at).past was)
    past (By_transaction from z w q t b is at) =
        let k = begun from z w q t b is in
        λ c now under done. let same : k.active.now ≡ c = cc (sym k.active.is ∙ now) in absurd (cc (ap (λ (x : Current). is_active x.phase) (sym same) ∙ k.active.active, done))

-- ---- every legal history

below_step : (o : Origin) (up : Option Addr) (e : Entry) (h : List Entry) → o.start.records ≡ [] → IsGrown o up (e ∷ h) → IsOnce o (e ∷ h) → (p : ℕ) (x y : Mark) (s k : ℕ) → is_at up p ≡ true → link_with (digest o (e ∷ h)).arcs p ≡ Live x y s k
    → ((v u : ℕ) → link_with (digest o h).arcs p ≡ Live x y v u → HoldsBelow p (digest o h) (sent_on x y p h) (accepted_on x y p h)) → HoldsBelow p (digest o (e ∷ h)) (sent_on x y p (e ∷ h)) (accepted_on x y p (e ∷ h))
below_step o up e h empty legal once p x y s k above live old = go (gives_to e.event p) refl (gains_at e.event p) refl
  where
    d : Digest
    d = digest o h

    now : Digest
    now = prelude o.who d e.event

    m : Move
    m = action o.who d e.event

    go : (b : Bool) → gives_to e.event p ≡ b → (g : Bool) → gains_at e.event p ≡ g → HoldsBelow p m.next (sent_on x y p h ++ sent_of x y p e.outs) (accepted_on x y p h ++ took_of x y p e.event)
    go b i g j = on b i g j
      where
        t : Told o.who up p d e.event
        t = told_entry o up e h legal p

        w : WasLive (link_with now.arcs p) (count_to p m.outs) x y s k
        w = live_before p (link_with now.arcs p) (link_with (digest o (e ∷ h)).arcs p) m.outs x y s k t.linked.over live

        rows : AtPrelude o e.event h p x y
        rows = at_prelude o up e.event h p x y w.sent k empty (paired_law o up h empty legal.3) legal.3 legal.0 w.is (link_with now.arcs p) refl t.pre

        st : Step o up e h p x y
        st = record {
          before = below_prelude o up e.event h p x y w.sent k legal.3 legal.0 above old w.is (link_with now.arcs p) refl t.pre;
          said = sent_said o up e h legal p x y w.sent k w.is;
          live = ap is_live live;
          heard = heard_entry o up e h p empty legal;
          votes = (speaks_law o up (e ∷ h) empty legal once).votes p x y s k above live;
          bare = λ c is. bare_of now.current p (subst (λ (v : Option _). KnowsAt v now.current p) ((paired_law o up h empty legal.3).upward p x y above) rows.rows) c is (late_prelude o.who d e.event (late_law o up h legal.3) c is);
          above = λ l. (placed_event o up e h p empty legal).above above l;
        }

        shut : (z : Mark) → link_with d.arcs p ≡ Opening z → ⊥
        shut z op =
            let own : own_old o.who d up p (Opening z) ≡ true = ap (own_old o.who d up p) (sym op) ∙ (traced_law o up h legal.3).own p in
            absurd (grind (arith, own, above))

        hold : gives_to e.event p ≡ false → IsHolding (gains_at e.event p) p now m
        hold none =
            holding_event o.who d e.event p (is_at up p) (rolls o.who d e.event) 1 (late_law o up h legal.3) legal.0 (reads_event o up e.event h p legal.0 (placed_event o up e h p empty legal)) none
            (record { superior = st.above; bare = λ c is l. st.bare c is }) (ap is_live live)

        on : (b : Bool) → gives_to e.event p ≡ b → (g : Bool) → gains_at e.event p ≡ g → HoldsBelow p m.next (sent_on x y p h ++ sent_of x y p e.outs) (accepted_on x y p h ++ took_of x y p e.event)
        on true i g j = below_gives o up e h p x y st legal.0 (gives_by p e.event i)
        on false i false j = below_quiet o up e h p x y st (subst (λ (g : Bool). IsHolding g p now m) j (hold i))
        on false i true j =
            let gain = gain_of p e.event j in
            let word = word_of o up e.event h p x y w.sent k (gained_word p e.event gain) w.is shut (link_with now.arcs p) refl t.pre in
            below_gains o up e h p x y st legal.3 legal.0 (answers_behind o up h p x y word.sent word.taken empty legal.3 above word.was) (old word.sent word.taken word.was).past (subst (λ (g : Bool). IsHolding g p now m) j (hold i)) word.word word.took word.gives gain

pub below_law : (o : Origin) (up : Option Addr) (h : List Entry) → o.start.records ≡ [] → IsGrown o up h → IsOnce o h → (p : ℕ) (x y : Mark) (s k : ℕ) → is_at up p ≡ true → link_with (digest o h).arcs p ≡ Live x y s k
    → HoldsBelow p (digest o h) (sent_on x y p h) (accepted_on x y p h)
unfolding started
below_law o up [] empty legal once p x y s k above live = absurd (cc (live))
below_law o up (e ∷ h) empty legal once p x y s k above live = below_step o up e h empty legal once p x y s k above live (λ v u was. below_law o up h empty legal.3 once.1 p x y v u above was)

-- ---- every run

held_there : (x y : Mark) (p : ℕ) (arcs : List Arc) → are_separate arcs ≡ true → some_leads (holds_on x y) p arcs ≡ true → (s : ℕ) × (k : ℕ) × (link_with arcs p ≡ Live x y s k) × (holding_at p arcs ≡ true)
held_there x y p [] apart h = absurd (cc (h))
held_there x y p (a ∷ arcs) apart h = go (a.peer.node == p) refl (held_there x y p arcs)
  where
    none : (arcs : List Arc) → is_there p arcs ≡ false → some_leads (holds_on x y) p arcs ≡ false
    none [] i = refl
    none (b ∷ arcs) i = grind (arith, i, none arcs)

    go : (b : Bool) → (a.peer.node == p) ≡ b → (are_separate arcs ≡ true → some_leads (holds_on x y) p arcs ≡ true → (s : ℕ) × (k : ℕ) × (link_with arcs p ≡ Live x y s k) × (holding_at p arcs ≡ true))
        → (s : ℕ) × (k : ℕ) × (link_with (a ∷ arcs) p ≡ Live x y s k) × (holding_at p (a ∷ arcs) ≡ true)
    go true i rest =
        let same : a.peer.node ≡ p = grind (arith, nat_tests, i) in
        let gone : is_there p arcs ≡ false = subst (λ (n : ℕ). is_there n arcs ≡ false) same (grind (arith, apart)) in
        let no : some_leads (holds_on x y) p arcs ≡ false = none arcs gone in
        let here : holds_on x y a ≡ true = grind (arith, h, no) in
        let l = live_link a.link x y (grind (arith, here)) in
        let held : is_holding a.dialogue ≡ true = grind (arith, here) in
        let mine : link_with (a ∷ arcs) p ≡ a.link = grind (arith, i) in
        (l.0, l.1, mine ∙ l.2, grind (arith, i, held))
    go false i rest =
        let more = rest (grind (arith, apart)) (grind (arith, h, i)) in
        let link : link_with (a ∷ arcs) p ≡ link_with arcs p = grind (arith, i) in
        (more.0, more.1, link ∙ more.2, grind (arith, i, more.3))

pub took_more : (es : List Happening) → TookMore (run es)
took_more es m p x y here above held =
    let good = good_run es in
    let legal = good.legal (number_of m) m here in
    let found = held_there x y p (digest m.origin m.history).arcs (separate_law m.origin m.superior m.history legal) held in
    let law = below_law m.origin m.superior m.history (good.fresh (number_of m) m here) legal ((unique_run es).once (number_of m) m here) p x y found.0 found.1 above found.2 in
    let sent : model.sent_on x y p m.history ≡ sent_on x y p m.history = all_sent x y p m.history in
    let taken : model.taken_on x y p m.history ≡ accepted_on x y p m.history = all_taken x y p m.history ((breaks_law m.origin m.superior m.history legal).live p x y found.0 found.1 found.2) in
    subst (λ (ss : List DialogueRecord). suc (returned (answered ss) ss) ≤ given (answered ss) (model.taken_on x y p m.history)) (sym sent)
    (subst (λ (ts : List DialogueRecord). suc (returned (answered (sent_on x y p m.history)) (sent_on x y p m.history)) ≤ given (answered (sent_on x y p m.history)) ts) (sym taken) (law.holds found.3))
