-- A superior takes RolledBack of a branch that was ready only for the last round that it closed: where a tree that it
-- committed did not roll at a branch that was ready.
use Rattle.std.proofs.Common.{if◌then◌else◌, ◌≡◌, ◌≤◌, ◌+◌, inl, inr, ℕ, Bool, true, false, refl, ap, sym, subst, ◌∙◌, arith, Option, List, [], ◌∷◌, ◌||◌, ◌==◌, not, nat_le, length}
use Rattle.std.proofs.lemmas.Bool.Decides.{nat_tests}
use Rattle.tp_names.specs.declared.identifiers.Mark.{Mark}
use Rattle.tp_names.specs.declared.identifiers.Addr.{Addr}
use Rattle.tp_names.specs.declared.outcome.Report.{Report}
use Rattle.tp_records.specs.declared.dialogue.DialogueRecord.{DialogueRecord}
use Rattle.tp_records.specs.declared.peer.PeerRecord.{PeerRecord}
use Rattle.tp_logrec.specs.declared.record.LogRec.{LogRec}
use Rattle.tp_model.specs.Parts.{Origin, Event, Entry, Live}
use Rattle.tp_model.specs.Arcs.{link_with}
use Rattle.tp_model.specs.History.{digest, records}
use Rattle.tp_model.specs.World.{number_of}
use Rattle.tp_model.specs.Happenings.{Happening, run}
use Rattle.tp_model.specs.Legal.{IsGrown}
use Rattle.tp_model.specs.Promises.{OneHolder}
use Rattle.tp_model.specs.Questions.{is_begin}
use Rattle.tp_steps.specs.Moves.{prelude}
use Rattle.tp_steps.specs.Traces.{took_of}
use Rattle.tp_histories.specs.Traces.{sent_on, accepted_on}
use Rattle.tp_steps.specs.Facts.{ends, ends_in, open_at, has_ready_of, BranchKey, begun_keys}
use Rattle.tp_steps.specs.Upward.{voting, voting_from, Deeds}
use Rattle.tp_histories.specs.Upward.{deeds_of}
use Rattle.tp_runs.specs.Heeded.{is_heeded, heeds_event, heeds}
use Rattle.tp_steps.specs.Control.{rounds, closes_up, voted_behind}
use Rattle.tp_histories.specs.Control.{closes_down, begun_behind, is_closing, answered, closed}
use Rattle.tp_control.specs.Control.{TookBack}
use Rattle.tp_control.specs.Leading.{ends_round, takes_event, takes, EndsRounds}
use Rattle.tp_steps.proofs.every.Preludes.{Prelinked, As_before, Now_idle, Now_called, Now_offered, Now_accepted, Now_confirmed, Took_one}
use Rattle.tp_histories.proofs.pairs.PairedSteps.{told_entry}
use Rattle.tp_histories.proofs.upward.Answerable.{took_none}
use Rattle.tp_steps.proofs.lemmas.Equality.{and_left}
use Rattle.tp_agreement.proofs.Accounts.{Accounts, Balanced, open_most}
use Rattle.tp_agreement.proofs.AccountSteps.{debt_word, voted_ready}
use Rattle.tp_agreement.proofs.LeftDown.{Below, below_tail, accounts_of}
use Rattle.tp_agreement.proofs.RollsUp.{below_run}
use Rattle.tp_control.proofs.OneHolder.{one_holder}
use Rattle.tp_control.proofs.TookMore.{took_more}
use Rattle.tp_control.proofs.TookBack.{took_back}

-- ---- rounds, Begins and ends

abbrev one : Bool → ℕ
one b = if b then 1 else 0

-- a round is closed after its Begin
close_step : (f : Bool) (r : DialogueRecord) → one (closes_down f r) + one (begun_behind f r) ≤ one (is_begin r) + one f
close_step true (DialogueRecord.Begin t b h) = omega arith
close_step false (DialogueRecord.Begin t b h) = omega arith
close_step true DialogueRecord.Prepare = omega arith
close_step false DialogueRecord.Prepare = omega arith
close_step true DialogueRecord.Commit = omega arith
close_step false DialogueRecord.Commit = omega arith
close_step true DialogueRecord.Rollback = omega arith
close_step false DialogueRecord.Rollback = omega arith
close_step true r = go (is_closing r) refl
  where
    go : (c : Bool) → is_closing r ≡ c → one (closes_down true r) + one (begun_behind true r) ≤ one (is_begin r) + 1
    go true i = grind (arith, i)
    go false i = grind (arith, i)
close_step false r = go (is_closing r) refl
  where
    go : (c : Bool) → is_closing r ≡ c → one (closes_down false r) + one (begun_behind false r) ≤ one (is_begin r) + 0
    go true i = grind (arith, i)
    go false i = grind (arith, i)

key_step : (r : DialogueRecord) (rs : List DialogueRecord) → length (begun_keys (r ∷ rs)) ≡ one (is_begin r) + length (begun_keys rs)
key_step (DialogueRecord.Begin t b h) rs = omega arith
key_step r rs = omega arith

closed_begun : (f : Bool) (rs : List DialogueRecord) → rounds closes_down begun_behind f rs ≤ length (begun_keys rs) + one f
closed_begun f [] = zero_least (one f)
  where
    zero_least : (n : ℕ) → 0 ≤ 0 + n
    zero_least n = omega arith
closed_begun f (r ∷ rs) =
    let rest = closed_begun (begun_behind f r) rs in
    let step = close_step f r in
    let keys = key_step r rs in
    sums (one (closes_down f r)) (rounds closes_down begun_behind (begun_behind f r) rs) (length (begun_keys rs)) (one (begun_behind f r)) (one (is_begin r)) (one f) (length (begun_keys (r ∷ rs))) rest step keys
  where
    sums : (c n k w b f l : ℕ) → n ≤ k + w → c + w ≤ b + f → l ≡ b + k → c + n ≤ l + f
    sums c n k w b f l h i j = omega (arith, h, i, j)

-- the rounds that are answered are those that ended, and one where Ready stands
answer_step : (v : Bool) (r : DialogueRecord) → (one (closes_up v r) + one v ≡ ends r + one (voting v r)) × (voted_behind v r ≡ voting v r)
answer_step true DialogueRecord.Ready = (omega arith, refl)
answer_step false DialogueRecord.Ready = (omega arith, refl)
answer_step true (DialogueRecord.Done w) = (omega arith, refl)
answer_step false (DialogueRecord.Done w) = (omega arith, refl)
answer_step true (DialogueRecord.RolledBack w) = (omega arith, refl)
answer_step false (DialogueRecord.RolledBack w) = (omega arith, refl)
answer_step true DialogueRecord.Left = (omega arith, refl)
answer_step false DialogueRecord.Left = (omega arith, refl)
answer_step true DialogueRecord.LeftEnd = (omega arith, refl)
answer_step false DialogueRecord.LeftEnd = (omega arith, refl)
answer_step true r = (omega arith, refl)
answer_step false r = (omega arith, refl)

answered_ends : (v : Bool) (rs : List DialogueRecord) → rounds closes_up voted_behind v rs + one v ≡ ends_in rs + one (voting_from v rs)
answered_ends v [] = refl
answered_ends v (r ∷ rs) =
    let step = answer_step v r in
    let rest : rounds closes_up voted_behind (voted_behind v r) rs + one (voting v r) ≡ ends_in rs + one (voting_from (voting v r) rs) =
    subst (λ (w : Bool). rounds closes_up voted_behind w rs + one (voting v r) ≡ ends_in rs + one (voting_from (voting v r) rs)) (sym step.1) (answered_ends (voting v r) rs) in
    sums (one (closes_up v r)) (rounds closes_up voted_behind (voted_behind v r) rs) (one v) (ends r) (one (voting v r)) (ends_in rs) (one (voting_from (voting v r) rs)) step.0 rest
  where
    sums : (c n v e w k u : ℕ) → c + v ≡ e + w → n + w ≡ k + u → c + n + v ≡ e + k + u
    sums c n v e w k u h i = omega (arith, h, i)

-- ---- every legal history

-- the association on which a record was taken
live_at : (o : Origin) (up : Option Addr) (e : Entry) (h : List Entry) (p : ℕ) (a : Addr) (x y : Mark) (q : ℕ) (r : DialogueRecord) → IsGrown o up (e ∷ h) → e.event ≡ Event.Arrive a (PeerRecord.OnAssoc x y q r) → a.node ≡ p
    → (s : ℕ) × (k : ℕ) × (link_with (digest o h).arcs p ≡ Live x y s k)
live_at o up e h p a x y q r legal is at = go (told_entry o up e h legal p).pre
  where
    none : ((z w : Mark) → took_of z w p e.event ≡ []) → ⊥
    none nothing = took_none p e.event a x y q r is at (nothing x y)

    go : Prelinked o.who up p (digest o h) e.event (link_with (prelude o.who (digest o h) e.event).arcs p) → (s : ℕ) × (k : ℕ) × (link_with (digest o h).arcs p ≡ Live x y s k)
    go (As_before i nothing) = absurd (none nothing)
    go (Now_idle i nothing) = absurd (none nothing)
    go (Now_called i down n nothing branch calls) = absurd (none nothing)
    go (Now_offered z i u nothing) = absurd (none nothing)
    go (Now_accepted z i u n nothing nil) = absurd (none nothing)
    go (Now_confirmed z w op i nothing) = absurd (none nothing)
    go (Took_one b z w v u s i j node ev) =
        let same : Event.Arrive b (PeerRecord.OnAssoc z w u s) ≡ Event.Arrive a (PeerRecord.OnAssoc x y q r) = sym ev ∙ is in
        let ez : z ≡ x = cc (same) in
        let ew : w ≡ y = cc (same) in
        (v, u, i ∙ made z x w y v u ez ew)
      where
        made : (z x w y : Mark) (v u : ℕ) → z ≡ x → w ≡ y → Live z w v u ≡ Live x y v u
        made z x w y v u f g = rw (f, g) refl

at_most : (m n : ℕ) → m ≤ n → nat_le m n ≡ true
at_most m n h = grind (arith, nat_tests, h)

rolled_last : (o : Origin) (up : Option Addr) (p : ℕ) (g : Deeds) (rs : List LogRec) (e : Entry) (h : List Entry) (a : Addr) (x y : Mark) (q : ℕ) (w : Report) → Below o up p g rs (e ∷ h) → e.event ≡ Event.Arrive a (PeerRecord.OnAssoc x y q (DialogueRecord.RolledBack w)) → a.node ≡ p
    → voting_from false (accepted_on x y p h) ≡ true → nat_le (closed (sent_on x y p h)) (answered (accepted_on x y p h)) ≡ true
rolled_last o up p g rs e h a x y q w below is at vote = go (accounts.balance x y link.0 link.1 link.2)
  where
    accounts : Accounts o p g rs h
    accounts = accounts_of o up p g rs h (below_tail o up p g rs e h below)

    link : (s : ℕ) × (k : ℕ) × (link_with (digest o h).arcs p ≡ Live x y s k)
    link = live_at o up e h p a x y q (DialogueRecord.RolledBack w) below.legal is at

    ks : List BranchKey
    ks = begun_keys (sent_on x y p h)

    n : ℕ
    n = ends_in (accepted_on x y p h)

    count : answered (accepted_on x y p h) ≡ n + 1
    count =
        let sum = answered_ends false (accepted_on x y p h) in
        let flag : one (voting_from false (accepted_on x y p h)) ≡ 1 = ap one vote in
        omega (arith, sum, flag)

    few : length ks ≤ n + 1 → nat_le (closed (sent_on x y p h)) (answered (accepted_on x y p h)) ≡ true
    few le = let sent = closed_begun false (sent_on x y p h) in at_most (closed (sent_on x y p h)) (answered (accepted_on x y p h)) (omega (arith, le, sent, count))

    heeded : is_heeded ks g rs n (voting_from false (accepted_on x y p h)) (DialogueRecord.RolledBack w) ≡ true
    heeded =
        let all : (not (a.node == p) || is_heeded ks g rs n (voting_from false (accepted_on x y p h)) (DialogueRecord.RolledBack w)) ≡ true = sym (ap (heeds_event g rs p h) is) ∙ and_left (heeds_event g rs p h e.event) (heeds g rs p h) below.heeded in
        let here : (a.node == p) ≡ true = grind (arith, nat_tests, at) in
        rw here at all

    go : Balanced o h ks n (voting_from false (accepted_on x y p h)) (open_at (digest o h).current p) → nat_le (closed (sent_on x y p h)) (answered (accepted_on x y p h)) ≡ true
    go (inl le) = let most = open_most (digest o h).current p in few (omega (arith, le, most))
    go (inr debt) =
        let ready : has_ready_of debt.key rs ≡ true = voted_ready ks rs n debt.key debt.at (accounts.voted x y vote) in
        let word = debt_word ks g rs n (voting_from false (accepted_on x y p h)) (DialogueRecord.RolledBack w) debt.key refl vote debt.at heeded (λ rolled. (below_tail o up p g rs e h below).never debt.key rolled ready debt.done) in
        absurd (cc (word.1))

pub rounds_end : (o : Origin) (up : Option Addr) (p : ℕ) (g : Deeds) (rs : List LogRec) (h : List Entry) → Below o up p g rs h → takes ends_round p h ≡ true
rounds_end o up p g rs [] below = refl
rounds_end o up p g rs (e ∷ h) below =
    let rest : takes ends_round p h ≡ true = rounds_end o up p g rs h (below_tail o up p g rs e h below) in
    let here : takes_event ends_round p h e.event ≡ true = event e.event refl in
    rw (here, rest) refl
  where
    other : (sent taken : List DialogueRecord) (a : Addr) (x y : Mark) (q : ℕ) (r : DialogueRecord) → e.event ≡ Event.Arrive a (PeerRecord.OnAssoc x y q r) → a.node ≡ p → ends_round (sent_on x y p h) (accepted_on x y p h) r ≡ true
    other sent taken a x y q (DialogueRecord.RolledBack w) is at = go (voting_from false (accepted_on x y p h)) refl
      where
        go : (v : Bool) → voting_from false (accepted_on x y p h) ≡ v → (not (voting_from false (accepted_on x y p h)) || nat_le (closed (sent_on x y p h)) (answered (accepted_on x y p h))) ≡ true
        go false i = rw i refl
        go true i = let le = rolled_last o up p g rs e h a x y q w below is at i in rw (i, le) refl
    other sent taken a x y q r is at = refl

    event : (f : Event) → e.event ≡ f → takes_event ends_round p h f ≡ true
    event (Event.Arrive a (PeerRecord.OnAssoc x y q r)) is = go (a.node == p) refl
      where
        go : (b : Bool) → (a.node == p) ≡ b → (not (a.node == p) || ends_round (sent_on x y p h) (accepted_on x y p h) r) ≡ true
        go false i = rw i refl
        go true i = let at : a.node ≡ p = grind (arith, nat_tests, i) in rw i (other (sent_on x y p h) (accepted_on x y p h) a x y q r is at)
    event (Event.Declare s) is = refl
    event (Event.Do r) is = refl
    event (Event.Arrive a r) is = refl
    event (Event.Break a r) is = refl
    event (Event.Lose q) is = refl
    event (Event.Heur u) is = refl
    event (Event.GiveUp q) is = refl
    event Event.Retry is = refl
    event Event.Purge is = refl
    event Event.Crash is = refl

-- ---- every run

pub ends_rounds : (es : List Happening) → EndsRounds (run es)
ends_rounds es n m here there up = rounds_end n.origin n.superior (number_of m) (deeds_of m.origin m.history) (records m.origin m.history) n.history (below_run es n m here there up)

pub above_took_back : (es : List Happening) → TookBack (run es)
above_took_back es = took_back es (ends_rounds es)

pub control_is_one : (es : List Happening) → OneHolder (run es)
control_is_one es = one_holder es (above_took_back es) (took_more es)
