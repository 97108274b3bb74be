-- In every legal history that takes a subordinate's words in their rounds, a superior end that holds control took back what
-- it gave in the round that is not answered, and gave nothing ahead of it.
use Rattle.std.proofs.Common.{if◌then◌else◌, ◌≡◌, ◌≤◌, ◌+◌, ◌⊎◌, inl, inr, ℕ, suc, Bool, true, false, refl, ap, sym, subst, ◌∙◌, arith, Option, Some, None, List, [], ◌∷◌, ◌++◌, ◌&&◌, ◌||◌, ◌==◌, not, nat_le}
use Rattle.std.proofs.lemmas.Bool.Decides.{nat_tests}
use Rattle.std.proofs.lemmas.List.{append-nil}
use Rattle.tp_names.specs.declared.identifiers.Mark.{Mark}
use Rattle.tp_names.specs.declared.identifiers.Addr.{Addr}
use Rattle.tp_records.specs.declared.request.Request.{Request}
use Rattle.tp_records.specs.declared.dialogue.DialogueRecord.{DialogueRecord}
use Rattle.tp_records.specs.declared.dialogue.Holder.{Holder}
use Rattle.tp_records.specs.declared.peer.PeerRecord.{PeerRecord}
use Rattle.tp_records.specs.declared.peer.RecState.{RecState}
use Rattle.tp_model.specs.declared.arc.Phase.{Phase}
use Rattle.tp_model.specs.declared.transaction.TxEvent.{TxEvent}
use Rattle.tp_model.specs.Parts.{Who, Origin, Event, Entry, Link, Idle, Opening, Live, Arc, Branch, Current, Digest}
use Rattle.tp_model.specs.Links.{is_live, with_one_taken}
use Rattle.tp_model.specs.Dialogues.{is_polarized}
use Rattle.tp_model.specs.Arcs.{find_arc, link_with}
use Rattle.tp_model.specs.Transactions.{Transaction, is_under_at}
use Rattle.tp_model.specs.Node.{Move, is_superior, seen}
use Rattle.tp_model.specs.Arrivals.{sight_of, refused_arrival}
use Rattle.tp_model.specs.Events.{refusal, action, started}
use Rattle.tp_logrec.specs.declared.record.LogRec.{LogRec}
use Rattle.tp_model.specs.History.{digest, records}
use Rattle.tp_model.specs.World.{number_of}
use Rattle.tp_model.specs.Happenings.{Happening, run}
use Rattle.tp_model.specs.Traces as model
use Rattle.tp_model.specs.Outcomes.{rolls}
use Rattle.tp_model.specs.Questions.{said_to, is_at}
use Rattle.tp_model.specs.Legal.{IsGrown}
use Rattle.tp_model.specs.Promises.{holds_on}
use Rattle.tp_steps.specs.Moves.{IsLate, IsAsked, prelude, counted_in, begun_in, begun_by_record, left_by, gives_to, some_leads}
use Rattle.tp_steps.specs.Traces.{count_to, sent_of, took_of}
use Rattle.tp_histories.specs.Traces.{sent_on, accepted_on}
use Rattle.tp_steps.specs.Facts.{find_branch, key_at, ends_in, BranchKey, begun_keys, Reads}
use Rattle.tp_steps.specs.Ends.{is_there, are_separate}
use Rattle.tp_steps.specs.Upward.{voting, voting_from, Deeds}
use Rattle.tp_histories.specs.Upward.{deeds_of}
use Rattle.tp_runs.specs.Heeded.{is_heeded, heeds_event, heeds}
use Rattle.tp_steps.specs.Control.{rounds, flag_from, closes_up, voted_behind}
use Rattle.tp_histories.specs.Control.{answered, closed}
use Rattle.tp_control.specs.Control.{is_returning, given, returned, TookBack}
use Rattle.tp_control.specs.Holding.{is_holding, gains_at}
use Rattle.tp_control.specs.Leading.{lags, answers, of_branch, IsLed, is_in_round, ends_round, takes_event, takes, EndsRounds}
use Rattle.tp_histories.proofs.trees.Late.{late_law}
use Rattle.tp_steps.proofs.every.EveryEvent.{plain_arrival}
use Rattle.tp_steps.proofs.every.EveryRecord.{on_none, find_arc_is}
use Rattle.tp_steps.proofs.every.Preludes.{Prelinked, As_before, Now_idle, Now_called, Now_offered, Now_accepted, Now_confirmed, Took_one}
use Rattle.tp_histories.proofs.marks.Traced.{Told, WasLive, traced_law, live_before, long_of, superior_pre}
use Rattle.tp_histories.proofs.trees.Knowing.{came_by}
use Rattle.tp_histories.proofs.pairs.PairedSteps.{reads_event, placed_event, told_entry, sent_said, paired_law}
use Rattle.tp_histories.proofs.marks.Separate.{separate_law, separate_prelude}
use Rattle.tp_steps.proofs.upward.Answering.{rounds_append}
use Rattle.tp_histories.proofs.upward.Answerable.{took_it, took_none, asked_user}
use Rattle.tp_control.proofs.OneHolder.{behind_more, live_link}
use Rattle.tp_control.proofs.Counting.{behind_one}
use Rattle.tp_histories.proofs.worlds.Good.{good_run}
use Rattle.tp_runs.proofs.Heeded.{heeds_run}
use Rattle.tp_runs.proofs.Breaks.{breaks_law, all_sent, all_taken}
use Rattle.tp_control.proofs.TookMore.{taken_live, crash_idle, Gives, Gives_plainly, Gives_for_response, gives_by}
use Rattle.tp_control.proofs.LedTurned.{dialogue_is}
use Rattle.tp_control.proofs.LedMoves.{IsCalm, led_event}
use Rattle.tp_control.proofs.LedEvents.{counted_link, led_later, nothing_ahead, Readied, Had_it, Is_new, readied, same_branch, led_prelude, led_new, led_grant, led_handshake, led_gained, is_answer, led_answer}
use Rattle.tp_histories.proofs.pairs.Paired.{empty_is}

-- ---- votes and rounds

same_flag : (v : Bool) (rs : List DialogueRecord) → flag_from voted_behind v rs ≡ voting_from v rs
same_flag v [] = refl
same_flag v (r ∷ rs) = ap (λ (b : Bool). flag_from voted_behind b rs) (one r) ∙ same_flag (voting v r) rs
  where
    one : (r : DialogueRecord) → voted_behind v r ≡ voting v r
    one r = grind arith

-- one more record answers one round at most
record OneMore (taken : List DialogueRecord) (w : DialogueRecord) : Type 0 where
  more : (answered (taken ++ w ∷ []) ≡ answered taken) × (returned (answered taken) taken ≤ returned (answered (taken ++ w ∷ [])) (taken ++ w ∷ [])) ⊎ (answered (taken ++ w ∷ []) ≡ suc (answered taken))

one_more : (taken : List DialogueRecord) (w : DialogueRecord) → OneMore taken w
one_more taken w = go (closes_up (flag_from voted_behind false taken) w) refl
  where
    sum : answered (taken ++ w ∷ []) ≡ answered taken + rounds closes_up voted_behind (flag_from voted_behind false taken) (w ∷ [])
    sum = rounds_append closes_up voted_behind false taken (w ∷ [])

    one : (b : Bool) → closes_up (flag_from voted_behind false taken) w ≡ b → rounds closes_up voted_behind (flag_from voted_behind false taken) (w ∷ []) ≡ (if b then 1 else 0) + 0
    one b i = ap (λ (x : Bool). (if x then 1 else 0) + 0) i

    go : (b : Bool) → closes_up (flag_from voted_behind false taken) w ≡ b → OneMore taken w
    go true i = let n = one true i in record { more = inr (omega (arith, sum, n)) }
    go false i =
        let n = one false i in
        let same : answered (taken ++ w ∷ []) ≡ answered taken = omega (arith, sum, n) in
        record { more = inl (same, subst (λ (k : ℕ). returned (answered taken) taken ≤ returned k (taken ++ w ∷ [])) (sym same) (behind_more is_returning closes_up voted_behind false (answered taken) taken (w ∷ []))) }

-- a word that answers where no Ready stands
answers_next : (taken : List DialogueRecord) (w : DialogueRecord) → is_answer w ≡ true → voting_from false taken ≡ false → answered (taken ++ w ∷ []) ≡ suc (answered taken)
answers_next taken w answer fresh =
    let sum = rounds_append closes_up voted_behind false taken (w ∷ []) in
    let flag : flag_from voted_behind false taken ≡ false = same_flag false taken ∙ fresh in
    let one : rounds closes_up voted_behind (flag_from voted_behind false taken) (w ∷ []) ≡ 1 = ap (λ (b : Bool). rounds closes_up voted_behind b (w ∷ [])) flag ∙ closing w answer in
    omega (arith, sum, one)
  where
    closing : (w : DialogueRecord) → is_answer w ≡ true → rounds closes_up voted_behind false (w ∷ []) ≡ 1
    closing w h = grind (arith, h)

-- it finds the rounds closed that it answers
room : (p : ℕ) (d : Digest) (sent taken : List DialogueRecord) (w : DialogueRecord) → is_answer w ≡ true → is_in_round sent taken w ≡ true → IsLed p d sent (answered taken) (returned (answered taken) taken) → closed sent ≤ answered (taken ++ w ∷ [])
room p d sent taken w answer in_round old = go (voting_from false taken) refl
  where
    fresh : voting_from false taken ≡ false → closed sent ≤ answered (taken ++ w ∷ [])
    fresh v = let next = answers_next taken w answer v in wide (of_branch false lags d.current p) next old.ahead
      where
        wide : (x : Bool) → answered (taken ++ w ∷ []) ≡ suc (answered taken) → closed sent ≤ answered taken + (if x then 1 else 0) → closed sent ≤ answered (taken ++ w ∷ [])
        wide true n le = omega (arith, n, le)
        wide false n le = omega (arith, n, le)

    behind : (w : DialogueRecord) → is_answer w ≡ true → is_in_round sent taken w ≡ true → voting_from false taken ≡ true → nat_le (closed sent) (answered taken) ≡ true
    behind DialogueRecord.Ready a h v = absurd (grind (arith, h, v))
    behind DialogueRecord.Left a h v = absurd (grind (arith, h, v))
    behind DialogueRecord.LeftEnd a h v = absurd (grind (arith, h, v))
    behind (DialogueRecord.RolledBack r) a h v = grind (arith, h, v)
    behind w a h v = absurd (cc (a))

    late : nat_le (closed sent) (answered taken) ≡ true → closed sent ≤ answered (taken ++ w ∷ [])
    late h =
        let le : closed sent ≤ answered taken = grind (arith, nat_tests, h) in
        let m = one_more taken w in
        elim m.more [ inl k ↦ (let same = k.0 in omega (arith, le, same)) | inr k ↦ omega (arith, le, k) ]

    go : (b : Bool) → voting_from false taken ≡ b → closed sent ≤ answered (taken ++ w ∷ [])
    go false i = fresh i
    go true i = late (behind w answer in_round i)

-- ---- which event it is

abbrev answer_from : ℕ → Event → Bool
answer_from p (Event.Arrive a (PeerRecord.OnAssoc x y q w)) = (a.node == p) && is_answer w
answer_from p _ = false

-- a Begin of a subordinate is out of phase
begins_none_below : (who : Who) (d : Digest) (p : ℕ) (e : Event) (h : Holder) → refusal who d e ≡ None → is_superior d p ≡ false → begun_by_record e ≡ Some (p, h) → ⊥
unfolding refused_arrival sight_of
begins_none_below who d p (Event.Arrive from (PeerRecord.OnAssoc x y q (DialogueRecord.Begin t b k))) h ok below is = go (find_arc d.arcs from.node) refl
  where
    plain : refused_arrival who d from (PeerRecord.OnAssoc x y q (DialogueRecord.Begin t b k)) ≡ None
    plain = plain_arrival who d from (PeerRecord.OnAssoc x y q (DialogueRecord.Begin t b k)) ok

    node : from.node ≡ p
    node = let pair : (from.node, k) ≡ (p, h) = cc (is) in ap (λ (z : ℕ × Holder). z.0) pair

    go : (o : Option Arc) → find_arc d.arcs from.node ≡ o → ⊥
    go None i = absurd (on_none who d from x y q (DialogueRecord.Begin t b k) plain i)
    go (Some a) i =
        let at : is_superior d a.peer.node ≡ false = ap (is_superior d) (find_arc_is d.arcs from.node a i ∙ node) ∙ below in
        absurd (grind (arith, plain, i, at))
begins_none_below who d p e h ok below is = cc (is)

answers_took : (p q : ℕ) (w : DialogueRecord) (t : Transaction) → answers (TxEvent.Took q w) t p ≡ true → ((q == p) && is_answer w) ≡ true
answers_took p q DialogueRecord.Ready t h = rw h refl
answers_took p q DialogueRecord.Left t h = rw h refl
answers_took p q DialogueRecord.LeftEnd t h = rw h refl
answers_took p q (DialogueRecord.RolledBack r) t h = grind (arith, h)
answers_took p q w t h = absurd (cc (h))

not_answered : (f g : TxEvent) (t : Transaction) (p : ℕ) → f ≡ g → answers g t p ≡ false → answers f t p ≡ false
not_answered f g t p is none = ap (λ (u : TxEvent). answers u t p) is ∙ none

silent_event : (who : Who) (e : Event) (p : ℕ) (c : Current) (f : TxEvent) (arcs : List Arc) → answer_from p e ≡ false → IsAsked e c f → answers f (seen who arcs c) p ≡ false
silent_event who (Event.Do r) p c f arcs none asked = let q = asked_user r c f asked in not_answered f (TxEvent.User q.0) (seen who arcs c) p q.1 refl
silent_event who (Event.Arrive from (PeerRecord.OnAssoc x y q w)) p c f arcs none asked = go (answers (TxEvent.Took from.node w) (seen who arcs c) p) refl
  where
    go : (b : Bool) → answers (TxEvent.Took from.node w) (seen who arcs c) p ≡ b → answers f (seen who arcs c) p ≡ false
    go false i = not_answered f (TxEvent.Took from.node w) (seen who arcs c) p asked i
    go true i = absurd (cc (answers_took p from.node w (seen who arcs c) i, none))
silent_event who (Event.Arrive from (PeerRecord.ShutAssoc x (Some y))) p c f arcs none asked = not_answered f (TxEvent.Lost from.node) (seen who arcs c) p asked refl
silent_event who (Event.Arrive from (PeerRecord.RecCommit t b)) p c f arcs none asked = not_answered f TxEvent.Ordered (seen who arcs c) p asked.0 refl
silent_event who (Event.Arrive from (PeerRecord.RecReply t b RecState.Commit)) p c f arcs none asked = not_answered f (TxEvent.Reply b RecState.Commit) (seen who arcs c) p asked.0 refl
silent_event who (Event.Arrive from (PeerRecord.RecReply t b (RecState.Done r))) p c f arcs none asked = not_answered f (TxEvent.Reply b (RecState.Done r)) (seen who arcs c) p asked.0 refl
silent_event who (Event.Arrive from (PeerRecord.RecReply t b RecState.Unknown)) p c f arcs none asked = not_answered f (TxEvent.Reply b RecState.Unknown) (seen who arcs c) p asked.0 refl
silent_event who (Event.Arrive from (PeerRecord.RecReply t b RecState.RetryLater)) p c f arcs none asked = not_answered f (TxEvent.Reply b RecState.RetryLater) (seen who arcs c) p asked.0 refl
silent_event who (Event.Break from r) p c f arcs none asked = not_answered f (TxEvent.Lost from.node) (seen who arcs c) p asked refl
silent_event who (Event.Lose q) p c f arcs none asked = not_answered f (TxEvent.Lost q) (seen who arcs c) p asked refl
silent_event who (Event.Heur o) p c f arcs none asked = not_answered f (TxEvent.Heur o) (seen who arcs c) p asked refl
silent_event who (Event.GiveUp q) p c f arcs none asked = not_answered f (TxEvent.GiveUp q) (seen who arcs c) p asked refl
silent_event who Event.Retry p c f arcs none asked = not_answered f TxEvent.Retry (seen who arcs c) p asked refl
silent_event who _ p c f arcs none asked = absurd asked

left_answer : (p : ℕ) (e : Event) → left_by e ≡ Some p → answer_from p e ≡ true
left_answer p (Event.Arrive from (PeerRecord.OnAssoc x y q DialogueRecord.Left)) h = grind (arith, nat_tests, h)
left_answer p (Event.Arrive from (PeerRecord.OnAssoc x y q DialogueRecord.LeftEnd)) h = grind (arith, nat_tests, h)
left_answer p e h = absurd (cc (h))

-- the words of control from below
data Back (p : ℕ) (e : Event) : Type 0 where
  Comes_back : (from : Addr) (x y : Mark) (q : ℕ) (w : DialogueRecord) → e ≡ Event.Arrive from (PeerRecord.OnAssoc x y q w) → from.node ≡ p → (w ≡ DialogueRecord.Grant) ⊎ (w ≡ DialogueRecord.HandshakeGrant) → Back p e
  Begins_below : (h : Holder) → begun_by_record e ≡ Some (p, h) → Back p e

back_of : (p : ℕ) (e : Event) → gains_at e p ≡ true → Back p e
back_of p (Event.Arrive from (PeerRecord.OnAssoc x y q DialogueRecord.Grant)) h = Comes_back from x y q DialogueRecord.Grant refl (grind (arith, nat_tests, h)) (inl refl)
back_of p (Event.Arrive from (PeerRecord.OnAssoc x y q DialogueRecord.HandshakeGrant)) h = Comes_back from x y q DialogueRecord.HandshakeGrant refl (grind (arith, nat_tests, h)) (inr refl)
back_of p (Event.Arrive from (PeerRecord.OnAssoc x y q (DialogueRecord.Begin t b Holder.Subordinate))) h = let node : from.node ≡ p = grind (arith, nat_tests, h) in Begins_below Holder.Subordinate (ap (λ (n : ℕ). Some (n, Holder.Subordinate)) node)
back_of p e h = absurd (cc (h))

record AnswerOf (p : ℕ) (e : Event) : Type 0 where
  from : Addr
  first : Mark
  second : Mark
  number : ℕ
  word : DialogueRecord
  is : e ≡ Event.Arrive from (PeerRecord.OnAssoc first second number word)
  at : from.node ≡ p
  answer : is_answer word ≡ true

answer_of : (p : ℕ) (e : Event) → answer_from p e ≡ true → AnswerOf p e
answer_of p (Event.Arrive from (PeerRecord.OnAssoc x y q w)) h = record { from = from; first = x; second = y; number = q; word = w; is = refl; at = grind (arith, nat_tests, h); answer = grind (arith, h) }
answer_of p e h = absurd (cc (h))

-- ---- one entry

abbrev IsAbove : ℕ → Digest → List DialogueRecord → List DialogueRecord → Type 0
IsAbove p s sent taken = IsLed p s sent (answered taken) (returned (answered taken) taken)

-- what was taken with the pair in the event
data TookWith (x y : Mark) (p : ℕ) (e : Event) : Type 0 where
  Took_none : took_of x y p e ≡ [] → TookWith x y p e
  Took_word : (from : Addr) (q : ℕ) (w : DialogueRecord) → e ≡ Event.Arrive from (PeerRecord.OnAssoc x y q w) → from.node ≡ p → took_of x y p e ≡ w ∷ [] → TookWith x y p e

took_with : (o : Origin) (up : Option Addr) (e : Event) (h : List Entry) (p : ℕ) (x y : Mark) (s k : ℕ) → is_at up p ≡ false → link_with (prelude o.who (digest o h) e).arcs p ≡ Live x y s k → (l : Link) → link_with (prelude o.who (digest o h) e).arcs p ≡ l → Prelinked o.who up p (digest o h) e l → TookWith x y p e
took_with o up e h p x y s k below live l at (As_before i none) = Took_none (none x y)
took_with o up e h p x y s k below live l at (Now_idle i none) = Took_none (none x y)
took_with o up e h p x y s k below live l at (Now_called i down n none branch calls) = Took_none (none x y)
took_with o up e h p x y s k below live l at (Now_offered z i u none) = Took_none (none x y)
took_with o up e h p x y s k below live l at (Now_accepted z i u n none nil) = Took_none (none x y)
took_with o up e h p x y s k below live l at (Now_confirmed z w op i none) = Took_none (none x y)
took_with o up e h p x y s k below live l at (Took_one a z w v u r i j node ev) =
    let same : Live x y s k ≡ Live z w v (suc u) = sym live ∙ at ∙ j in
    let ez : z ≡ x = cc (same) in
    let ew : w ≡ y = cc (same) in
    subst (λ (m : Mark). TookWith m y p e) ez (subst (λ (m : Mark). TookWith z m p e) ew (Took_word a u r ev node (ap (took_of z w p) ev ∙ took_it p a z w u r node)))

-- after the prelude, of what was taken before it
before_it : (o : Origin) (up : Option Addr) (e : Event) (h : List Entry) (p : ℕ) (x y : Mark) (s k : ℕ) → o.start.records ≡ [] → IsGrown o up h → refusal o.who (digest o h) e ≡ None → is_at up p ≡ false
    → ((v u : ℕ) → link_with (digest o h).arcs p ≡ Live x y v u → IsAbove p (digest o h) (sent_on x y p h) (accepted_on x y p h))
    → link_with (prelude o.who (digest o h) e).arcs p ≡ Live x y s k → (l : Link) → link_with (prelude o.who (digest o h) e).arcs p ≡ l → Prelinked o.who up p (digest o h) e l
    → IsAbove p (prelude o.who (digest o h) e) (sent_on x y p h) (accepted_on x y p h)
before_it o up e h p x y s k empty legal ok below old live l at pre = go (readied o.who up d e p (traced_law o up h legal).under below ok (ap is_live live))
  where
    d : Digest
    d = digest o h

    now : Digest
    now = prelude o.who d e

    late : IsLate d
    late = late_law o up h legal

    crashed : e ≡ Event.Crash → ⊥
    crashed is = let idle : link_with now.arcs p ≡ Idle = ap (λ (f : Event). link_with (prelude o.who d f).arcs p) is ∙ crash_idle o.who d p in cc (idle, live)

    branches : (v : Bool) (f : Phase → Branch → Bool) → of_branch v f now.current p ≡ of_branch v f d.current p
    branches v f = same_branch o.who d e p late crashed (came_by o.who d e ok) v f

    on : IsAbove p d (sent_on x y p h) (accepted_on x y p h) → ((b : Arc) → find_arc now.arcs p ≡ Some b → (a : Arc) × (find_arc d.arcs p ≡ Some a) × (b.dialogue ≡ a.dialogue)) → IsAbove p now (sent_on x y p h) (accepted_on x y p h)
    on was arcs = led_prelude p d now (sent_on x y p h) (answered (accepted_on x y p h)) (returned (answered (accepted_on x y p h)) (accepted_on x y p h)) branches arcs was

    go : Readied p d now → IsAbove p now (sent_on x y p h) (accepted_on x y p h)
    go (Had_it arcs (inl same)) = on (old s k (sym same ∙ live)) arcs
    go (Had_it arcs (inr one)) = let t = taken_live (link_with d.arcs p) x y s k (sym live ∙ one) in on (old t.0 t.1 t.2) arcs
    go (Is_new u z good op fresh) = new pre
      where
        none : (v : Bool) (f : Phase → Branch → Bool) → of_branch v f now.current p ≡ v
        none v f = branches v f ∙ bare d.current refl
          where
            bare : (c : Option Current) → d.current ≡ c → of_branch v f d.current p ≡ v
            bare None i = ap (λ (c : Option Current). of_branch v f c p) i
            bare (Some c) i = ap (λ (c : Option Current). of_branch v f c p) i ∙ row (find_branch c.branches p) refl
              where
                row : (b : Option Branch) → find_branch c.branches p ≡ b → of_branch v f (Some c) p ≡ v
                row None j = let young = late c i in grind (arith, young, j)
                row (Some b) j =
                    let key : key_at d.current p ≡ None = (paired_law o up h empty legal).closed p z op in
                    let key_now : key_at (Some c) p ≡ None = ap (λ (c : Option Current). key_at c p) (sym i) ∙ key in
                    let young = late c i in
                    absurd (grind (arith, young, j, key_now))

        lists : Prelinked o.who up p d e l → (sent_on x y p h ≡ []) × (accepted_on x y p h ≡ [])
        lists (Now_confirmed a b opening i nothing) =
            let same : Live x y s k ≡ Live a b 0 0 = sym live ∙ at ∙ i in
            let zs : s ≡ 0 = cc (same) in
            let zk : k ≡ 0 = cc (same) in
            let long = long_of o.who up d e h (traced_law o up h legal) p l (Now_confirmed a b opening i nothing) x y s k (sym at ∙ live) in
            (empty_is (sent_on x y p h) (long.0 ∙ zs), empty_left (accepted_on x y p h) (took_of x y p e) (empty_is (accepted_on x y p h ++ took_of x y p e) (long.1 ∙ zk)))
          where
            empty_left : (xs ys : List DialogueRecord) → xs ++ ys ≡ [] → xs ≡ []
            empty_left [] ys h = refl
            empty_left (x ∷ xs) ys h = absurd (cc (h))
        lists (As_before i nothing) = let was : link_with d.arcs p ≡ Live x y s k = sym i ∙ sym at ∙ live in absurd (cc (was, op))
        lists (Now_idle i nothing) = absurd (cc (sym live ∙ at ∙ i))
        lists (Now_called i down n nothing branch calls) = absurd (cc (sym live ∙ at ∙ i))
        lists (Now_offered a i b nothing) = absurd (cc (sym live ∙ at ∙ i))
        lists (Now_accepted a i b n nothing nil) = absurd (cc (b, below))
        lists (Took_one a b w v u r i j node ev) = absurd (cc (i, op))

        new : Prelinked o.who up p d e l → IsAbove p now (sent_on x y p h) (accepted_on x y p h)
        new q =
            let e2 = lists q in
            subst (λ (ss : List DialogueRecord). IsAbove p now ss (accepted_on x y p h)) (sym e2.0) (subst (λ (ts : List DialogueRecord). IsAbove p now [] ts) (sym e2.1) (led_new p now u 0 none good fresh))

below_superior : (d : Digest) (up : Option Addr) (p : ℕ) → ((a : Addr) → d.superior ≡ Some a → up ≡ Some a) → is_at up p ≡ false → is_superior d p ≡ false
below_superior d up p under below = go d.superior refl
  where
    go : (o : Option Addr) → d.superior ≡ o → is_superior d p ≡ false
    go None i = rw (i, is_superior) refl
    go (Some a) i =
        let at : (a.node == p) ≡ false = sym (ap (λ (u : Option Addr). is_at u p) (under a i)) ∙ below in
        rw (i, is_superior) at

-- an association that opens is not live by a record that is counted
opening_counted : (d : Digest) (from : Addr) (q : ℕ) (a b : Mark) (u : DialogueRecord) (p : ℕ) (z x y : Mark) (s k : ℕ) → link_with d.arcs p ≡ Opening z → (who : Who) → link_with (prelude who d (Event.Arrive from (PeerRecord.OnAssoc a b q u))).arcs p ≡ Live x y s k → ⊥
opening_counted d from q a b u p z x y s k op who live = elim (counted_link d.arcs from.node p) [
  | inl same ↦ (let now : link_with (counted_in d from).arcs p ≡ Live x y s k = sym (counted_arcs u) ∙ live in cc (now, same, op))
  | inr one ↦ (let now : link_with (counted_in d from).arcs p ≡ Live x y s k = sym (counted_arcs u) ∙ live in cc (now, one ∙ ap with_one_taken op))
]
  where
    counted_arcs : (u : DialogueRecord) → link_with (prelude who d (Event.Arrive from (PeerRecord.OnAssoc a b q u))).arcs p ≡ link_with (counted_in d from).arcs p
    counted_arcs (DialogueRecord.Begin t i g) = on (find_arc d.arcs from.node)
      where
        on : (o : Option Arc) → link_with (begun_in o t i (counted_in d from)).arcs p ≡ link_with (counted_in d from).arcs p
        on None = refl
        on (Some c) = refl
    counted_arcs u = refl

-- ---- every entry

above_step : (o : Origin) (up : Option Addr) (e : Entry) (h : List Entry) → o.start.records ≡ [] → IsGrown o up (e ∷ h) → (p : ℕ) → is_at up p ≡ false → takes_event is_in_round p h e.event ≡ true → (x y : Mark) (s k : ℕ) → link_with (digest o (e ∷ h)).arcs p ≡ Live x y s k
    → ((v u : ℕ) → link_with (digest o h).arcs p ≡ Live x y v u → IsAbove p (digest o h) (sent_on x y p h) (accepted_on x y p h)) → IsAbove p (digest o (e ∷ h)) (sent_on x y p (e ∷ h)) (accepted_on x y p (e ∷ h))
above_step o up e h empty legal p below in_round x y s k live old = subst (λ (xs : List DialogueRecord). IsAbove p m.next (sent ++ xs) (taken ++ ts)) (sym said) (go (gives_to e.event p) refl (gains_at e.event p) refl (answer_from p e.event) refl)
  where
    d : Digest
    d = digest o h

    now : Digest
    now = prelude o.who d e.event

    m : Move
    m = action o.who d e.event

    sent : List DialogueRecord
    sent = sent_on x y p h

    taken : List DialogueRecord
    taken = accepted_on x y p h

    ts : List DialogueRecord
    ts = took_of x y p e.event

    t : Told o.who up p d e.event
    t = told_entry o up e h legal p

    w : WasLive (link_with now.arcs p) (count_to p m.outs) x y s k
    w = live_before p (link_with now.arcs p) (link_with (digest o (e ∷ h)).arcs p) m.outs x y s k t.linked.over live

    said : sent_of x y p e.outs ≡ said_to p m.outs
    said = sent_said o up e h legal p x y w.sent k w.is

    after : is_live (link_with m.next.arcs p) ≡ true
    after = ap is_live live

    late : IsLate d
    late = late_law o up h legal.3

    reads : Reads o.who e.event p (is_at up p) (rolls o.who d e.event) 1 now
    reads = reads_event o up e.event h p legal.0 (placed_event o up e h p empty legal)

    under_now : (c : Current) → now.current ≡ Some c → is_under_at c.key p ≡ false
    under_now c is = split (is_under_at c.key p) refl
      where
        split : (b : Bool) → is_under_at c.key p ≡ b → is_under_at c.key p ≡ false
        split false i = i
        split true i = absurd (cc (reads.under_superior c is i, below))

    below_d : is_superior d p ≡ false
    below_d = below_superior d up p (traced_law o up h legal.3).under below

    below_now : is_superior now p ≡ false
    below_now = below_superior now up p (superior_pre o.who up d e.event legal.2 (traced_law o up h legal.3).under (traced_law o up h legal.3).declared).0 below

    sep : are_separate d.arcs ≡ true
    sep = separate_law o up h legal.3

    was : IsAbove p now sent taken
    was = before_it o up e.event h p x y w.sent k empty legal.3 legal.0 below old w.is (link_with now.arcs p) refl t.pre

    took : TookWith x y p e.event
    took = took_with o up e.event h p x y w.sent k below w.is (link_with now.arcs p) refl t.pre

    -- with what was taken in the event
    with_it : (d : Digest) → IsAbove p d sent taken → IsAbove p d sent (taken ++ ts)
    with_it d led = by took
      where
        by : TookWith x y p e.event → IsAbove p d sent (taken ++ ts)
        by (Took_none none) = subst (λ (us : List DialogueRecord). IsAbove p d sent us) (sym (append-nil taken) ∙ ap (λ (us : List DialogueRecord). taken ++ us) (sym none)) led
        by (Took_word from q v is at one) =
            subst (λ (us : List DialogueRecord). IsAbove p d sent (taken ++ us)) (sym one)
            (led_later p d sent (answered taken) (returned (answered taken) taken) (answered (taken ++ v ∷ [])) (returned (answered (taken ++ v ∷ [])) (taken ++ v ∷ [])) (one_more taken v).more led)

    calm : gives_to e.event p ≡ false → gains_at e.event p ≡ false → answer_from p e.event ≡ false → IsCalm o.who e.event now p
    calm i j l = record {
      gives = i;
      gains = j;
      begins = λ b is. begins_none_below o.who d p e.event b legal.0 below_d is;
      leaves = λ is. cc (left_answer p e.event is, l);
      silent = λ c f arcs at asked. silent_event o.who e.event p c f arcs l asked;
      below = below_now;
      under = under_now;
    }

    -- a request that gives control away
    gave : (f : Event) → e.event ≡ f → prelude o.who d f ≡ d → took_of x y p f ≡ [] → ((c r : ℕ) → IsLed p d sent c r → IsLed p (action o.who d f).next (sent ++ said_to p (action o.who d f).outs) c r) → IsAbove p m.next (sent ++ said_to p m.outs) (taken ++ ts)
    gave f is same none step =
        let led_d : IsAbove p d sent taken = subst (λ (g : Digest). IsAbove p g sent taken) (ap (λ (u : Event). prelude o.who d u) is ∙ same) was in
        let next : IsAbove p (action o.who d f).next (sent ++ said_to p (action o.who d f).outs) taken = step (answered taken) (returned (answered taken) taken) led_d in
        let there : IsAbove p m.next (sent ++ said_to p m.outs) taken = subst (λ (u : Event). IsAbove p (action o.who d u).next (sent ++ said_to p (action o.who d u).outs) taken) (sym is) next in
        let nothing : ts ≡ [] = ap (took_of x y p) is ∙ none in
        subst (λ (us : List DialogueRecord). IsAbove p m.next (sent ++ said_to p m.outs) us) (sym (append-nil taken) ∙ ap (λ (us : List DialogueRecord). taken ++ us) (sym nothing)) there

    under_d : prelude o.who d e.event ≡ d → (c : Current) → d.current ≡ Some c → is_under_at c.key p ≡ false
    under_d same c is = under_now c (ap (λ (g : Digest). g.current) same ∙ is)

    gives : gives_to e.event p ≡ true → IsAbove p m.next (sent ++ said_to p m.outs) (taken ++ ts)
    gives i = by (gives_by p e.event i)
      where
        by : Gives p e.event → IsAbove p m.next (sent ++ said_to p m.outs) (taken ++ ts)
        by (Gives_plainly is) =
            gave (Event.Do (Request.Grant p)) is refl refl
            (λ c r led. led_grant o.who d p sent c r late (under_d (ap (λ (u : Event). prelude o.who d u) is)) (sym (ap (refusal o.who d) is) ∙ legal.0) led)
        by (Gives_for_response is) =
            gave (Event.Do (Request.HandshakeGrant p)) is refl refl
            (λ c r led. led_handshake o.who d p sent c r late (under_d (ap (λ (u : Event). prelude o.who d u) is)) (sym (ap (refusal o.who d) is) ∙ legal.0) led)

    -- the digest before the event, where a record of the peer was taken
    led_before : (v : DialogueRecord) → ts ≡ v ∷ [] → (from : Addr) (q : ℕ) (z z2 : Mark) (u : DialogueRecord) → e.event ≡ Event.Arrive from (PeerRecord.OnAssoc z z2 q u) → IsAbove p d sent taken
    led_before v one from q z z2 u is = by (readied o.who up d e.event p (traced_law o up h legal.3).under below legal.0 (ap is_live w.is))
      where
        by : Readied p d now → IsAbove p d sent taken
        by (Had_it arcs (inl same)) = old w.sent k (sym same ∙ w.is)
        by (Had_it arcs (inr counted)) = let l = taken_live (link_with d.arcs p) x y w.sent k (sym w.is ∙ counted) in old l.0 l.1 l.2
        by (Is_new b z good op fresh) =
            let same : link_with now.arcs p ≡ link_with (prelude o.who d (Event.Arrive from (PeerRecord.OnAssoc z z2 q u))).arcs p = ap (λ (f : Event). link_with (prelude o.who d f).arcs p) is in
            absurd (never_new from q z z2 u op (sym same ∙ w.is))
          where
            never_new : (from : Addr) (q : ℕ) (a b : Mark) (u : DialogueRecord) → link_with d.arcs p ≡ Opening z → link_with (prelude o.who d (Event.Arrive from (PeerRecord.OnAssoc a b q u))).arcs p ≡ Live x y w.sent k → ⊥
            never_new from q a b u op live = opening_counted d from q a b u p z x y w.sent k op o.who live

    -- control that came back
    returns : gains_at e.event p ≡ true → IsAbove p m.next (sent ++ said_to p m.outs) (taken ++ ts)
    returns i = by (back_of p e.event i) took
      where
        by : Back p e.event → TookWith x y p e.event → IsAbove p m.next (sent ++ said_to p m.outs) (taken ++ ts)
        by (Begins_below b is) q = absurd (begins_none_below o.who d p e.event b legal.0 below_d is)
        by (Comes_back from a b n v is at kind) (Took_none none) = absurd (took_some from a b n v is at kind none)
          where
            took_some : (from : Addr) (a b : Mark) (n : ℕ) (v : DialogueRecord) → e.event ≡ Event.Arrive from (PeerRecord.OnAssoc a b n v) → from.node ≡ p → (v ≡ DialogueRecord.Grant) ⊎ (v ≡ DialogueRecord.HandshakeGrant) → took_of x y p e.event ≡ [] → ⊥
            took_some from a b n v is at kind none = no_pair from a b n v is at (prelinked_pair t.pre)
              where
                no_pair : (from : Addr) (a b : Mark) (n : ℕ) (v : DialogueRecord) → e.event ≡ Event.Arrive from (PeerRecord.OnAssoc a b n v) → from.node ≡ p → ((a b : Mark) → took_of a b p e.event ≡ []) ⊎ (⊥) → ⊥
                no_pair from a b n v is at (inl nothing) = took_none p e.event from a b n v is at (nothing a b)
                no_pair from a b n v is at (inr no_way) = absurd no_way

                prelinked_pair : Prelinked o.who up p d e.event (link_with now.arcs p) → ((a b : Mark) → took_of a b p e.event ≡ []) ⊎ (⊥)
                prelinked_pair (As_before j nothing) = inl nothing
                prelinked_pair (Now_idle j nothing) = inl nothing
                prelinked_pair (Now_called j down u nothing branch calls) = inl nothing
                prelinked_pair (Now_offered z j u nothing) = inl nothing
                prelinked_pair (Now_accepted z j u u2 nothing nil) = inl nothing
                prelinked_pair (Now_confirmed z z2 op j nothing) = inl nothing
                prelinked_pair (Took_one a2 z z2 v2 u r j l node ev) =
                    let same : Live x y w.sent k ≡ Live z z2 v2 (suc u) = sym w.is ∙ l in
                    let ez : z ≡ x = cc (same) in
                    let ew : z2 ≡ y = cc (same) in
                    let one : took_of x y p e.event ≡ r ∷ [] = subst (λ (c : Mark). took_of c y p e.event ≡ r ∷ []) ez (subst (λ (c : Mark). took_of z c p e.event ≡ r ∷ []) ew (ap (took_of z z2 p) ev ∙ took_it p a2 z z2 u r node)) in
                    absurd (cc (one, none))
        by (Comes_back from a b n v is at kind) (Took_word from2 q u is2 at2 one) =
            let event : Event.Arrive from (PeerRecord.OnAssoc a b n v) ≡ Event.Arrive from2 (PeerRecord.OnAssoc x y q u) = sym is ∙ is2 in
            let word : v ≡ u = cc (event) in
            let kind_u : (u ≡ DialogueRecord.Grant) ⊎ (u ≡ DialogueRecord.HandshakeGrant) = subst (λ (r : DialogueRecord). (r ≡ DialogueRecord.Grant) ⊎ (r ≡ DialogueRecord.HandshakeGrant)) word kind in
            let led_d = led_before u one from2 q x y u is2 in
            let next = led_gained o.who d from2 x y q p u sent (answered taken) (returned (answered taken) taken) kind_u led_d in
            let there : IsLed p m.next (sent ++ said_to p m.outs) (answered taken) (suc (returned (answered taken) taken)) = subst (λ (f : Event). IsLed p (action o.who d f).next (sent ++ said_to p (action o.who d f).outs) (answered taken) (suc (returned (answered taken) taken))) (sym is2) next in
            let still : answered (taken ++ u ∷ []) ≡ answered taken = quiet_word u kind_u in
            let more : returned (answered taken) (taken ++ u ∷ []) ≡ suc (returned (answered taken) taken) = behind_one is_returning closes_up voted_behind false (answered taken) taken u (at_most_self (answered taken)) (returning u kind_u) in
            subst (λ (us : List DialogueRecord). IsAbove p m.next (sent ++ said_to p m.outs) (taken ++ us)) (sym one)
            (subst (λ (c : ℕ). IsLed p m.next (sent ++ said_to p m.outs) c (returned c (taken ++ u ∷ []))) (sym still) (subst (λ (r : ℕ). IsLed p m.next (sent ++ said_to p m.outs) (answered taken) r) (sym more) there))
          where
            at_most_self : (n : ℕ) → n ≤ n
            at_most_self n = omega arith

            returning : (u : DialogueRecord) → (u ≡ DialogueRecord.Grant) ⊎ (u ≡ DialogueRecord.HandshakeGrant) → is_returning u ≡ true
            returning u (inl i) = ap is_returning i
            returning u (inr i) = ap is_returning i

            quiet_word : (u : DialogueRecord) → (u ≡ DialogueRecord.Grant) ⊎ (u ≡ DialogueRecord.HandshakeGrant) → answered (taken ++ u ∷ []) ≡ answered taken
            quiet_word u kind =
                let sum = rounds_append closes_up voted_behind false taken (u ∷ []) in
                let none : rounds closes_up voted_behind (flag_from voted_behind false taken) (u ∷ []) ≡ 0 = grind (arith, kind) in
                omega (arith, sum, none)

    -- a word that answers
    answers_it : answer_from p e.event ≡ true → IsAbove p m.next (sent ++ said_to p m.outs) (taken ++ ts)
    answers_it i = by took
      where
        a : AnswerOf p e.event
        a = answer_of p e.event i

        by : TookWith x y p e.event → IsAbove p m.next (sent ++ said_to p m.outs) (taken ++ ts)
        by (Took_none none) = absurd (took_some t.pre)
          where
            took_some : Prelinked o.who up p d e.event (link_with now.arcs p) → ⊥
            took_some (As_before j nothing) = took_none p e.event a.from a.first a.second a.number a.word a.is a.at (nothing a.first a.second)
            took_some (Now_idle j nothing) = took_none p e.event a.from a.first a.second a.number a.word a.is a.at (nothing a.first a.second)
            took_some (Now_called j down u nothing branch calls) = took_none p e.event a.from a.first a.second a.number a.word a.is a.at (nothing a.first a.second)
            took_some (Now_offered z j u nothing) = took_none p e.event a.from a.first a.second a.number a.word a.is a.at (nothing a.first a.second)
            took_some (Now_accepted z j u u2 nothing nil) = took_none p e.event a.from a.first a.second a.number a.word a.is a.at (nothing a.first a.second)
            took_some (Now_confirmed z z2 op j nothing) = took_none p e.event a.from a.first a.second a.number a.word a.is a.at (nothing a.first a.second)
            took_some (Took_one a2 z z2 v2 u r j l node ev) =
                let same : Live x y w.sent k ≡ Live z z2 v2 (suc u) = sym w.is ∙ l in
                let ez : z ≡ x = cc (same) in
                let ew : z2 ≡ y = cc (same) in
                let one : took_of x y p e.event ≡ r ∷ [] = subst (λ (c : Mark). took_of c y p e.event ≡ r ∷ []) ez (subst (λ (c : Mark). took_of z c p e.event ≡ r ∷ []) ew (ap (took_of z z2 p) ev ∙ took_it p a2 z z2 u r node)) in
                cc (one, none)
        by (Took_word from q v is at one) =
            let event : Event.Arrive a.from (PeerRecord.OnAssoc a.first a.second a.number a.word) ≡ Event.Arrive from (PeerRecord.OnAssoc x y q v) = sym a.is ∙ is in
            let word : a.word ≡ v = cc (event) in
            let answer : is_answer v ≡ true = ap is_answer (sym word) ∙ a.answer in
            let led_d = led_before v one from q x y v is in
            let round : is_in_round sent taken v ≡ true = heeded from q v is at in
            let le : closed sent ≤ answered (taken ++ v ∷ []) = room p d sent taken v answer round led_d in
            let later = led_later p d sent (answered taken) (returned (answered taken) taken) (answered (taken ++ v ∷ [])) (returned (answered (taken ++ v ∷ [])) (taken ++ v ∷ [])) (one_more taken v).more led_d in
            let under : (c : Current) → d.current ≡ Some c → is_under_at c.key p ≡ false = λ c cur. under_now c (other_now from q v is answer ∙ cur) in
            let next = led_answer o.who d from x y q p v sent (answered (taken ++ v ∷ [])) (returned (answered (taken ++ v ∷ [])) (taken ++ v ∷ [])) answer at late under below_d sep le later in
            let there : is_live (link_with m.next.arcs p) ≡ true → IsLed p m.next (sent ++ said_to p m.outs) (answered (taken ++ v ∷ [])) (returned (answered (taken ++ v ∷ [])) (taken ++ v ∷ [])) =
            subst (λ (f : Event). is_live (link_with (action o.who d f).next.arcs p) ≡ true → IsLed p (action o.who d f).next (sent ++ said_to p (action o.who d f).outs) (answered (taken ++ v ∷ [])) (returned (answered (taken ++ v ∷ [])) (taken ++ v ∷ []))) (sym is) next in
            subst (λ (us : List DialogueRecord). IsAbove p m.next (sent ++ said_to p m.outs) (taken ++ us)) (sym one) (there after)
          where
            heeded : (from : Addr) (q : ℕ) (v : DialogueRecord) → e.event ≡ Event.Arrive from (PeerRecord.OnAssoc x y q v) → from.node ≡ p → is_in_round sent taken v ≡ true
            heeded from q v is at =
                let all : (not (from.node == p) || is_in_round sent taken v) ≡ true = sym (ap (takes_event is_in_round p h) is) ∙ in_round in
                let here : (from.node == p) ≡ true = grind (arith, nat_tests, at) in
                rw here at all

            other_now : (from : Addr) (q : ℕ) (v : DialogueRecord) → e.event ≡ Event.Arrive from (PeerRecord.OnAssoc x y q v) → is_answer v ≡ true → now.current ≡ d.current
            other_now from q v is answer = ap (λ (f : Event). (prelude o.who d f).current) is ∙ plain v answer
              where
                plain : (v : DialogueRecord) → is_answer v ≡ true → (prelude o.who d (Event.Arrive from (PeerRecord.OnAssoc x y q v))).current ≡ d.current
                plain (DialogueRecord.Begin t b i) a = absurd (cc (a))
                plain v a = refl

    go : (g : Bool) → gives_to e.event p ≡ g → (b : Bool) → gains_at e.event p ≡ b → (a : Bool) → answer_from p e.event ≡ a → IsAbove p m.next (sent ++ said_to p m.outs) (taken ++ ts)
    go true i b j a l = gives i
    go false i true j a l = returns j
    go false i false j true l = answers_it l
    go false i false j false l =
        led_event o.who d e.event p (is_at up p) (rolls o.who d e.event) 1 late legal.0 reads (calm i j l) (separate_prelude o.who d e.event legal.0 sep) sent (answered (taken ++ ts)) (returned (answered (taken ++ ts)) (taken ++ ts)) (with_it now was) after

-- ---- every legal history

pub above_law : (o : Origin) (up : Option Addr) (h : List Entry) → o.start.records ≡ [] → IsGrown o up h → (p : ℕ) → is_at up p ≡ false → takes is_in_round p h ≡ true → (x y : Mark) (s k : ℕ) → link_with (digest o h).arcs p ≡ Live x y s k
    → IsAbove p (digest o h) (sent_on x y p h) (accepted_on x y p h)
unfolding started
above_law o up [] empty legal p below rounds x y s k live = absurd (cc (live))
above_law o up (e ∷ h) empty legal p below rounds x y s k live =
    above_step o up e h empty legal p below (grind (arith, rounds)) x y s k live (λ v u was. above_law o up h empty legal.3 p below (grind (arith, rounds)) x y v u was)

-- ---- every run

-- what a superior heeds stands in its round, where RolledBack does
in_rounds : (g : Deeds) (rs : List LogRec) (p : ℕ) (h : List Entry) → heeds g rs p h ≡ true → takes ends_round p h ≡ true → takes is_in_round p h ≡ true
in_rounds g rs p [] heeded ends = refl
in_rounds g rs p (e ∷ h) heeded ends =
    let rest : takes is_in_round p h ≡ true = in_rounds g rs p h (grind (arith, heeded)) (grind (arith, ends)) in
    let one : takes_event is_in_round p h e.event ≡ true = event e.event (grind (arith, heeded)) (grind (arith, ends)) in
    rw (one, rest) refl
  where
    word : (ks : List BranchKey) (n : ℕ) (sent taken : List DialogueRecord) (r : DialogueRecord) → is_heeded ks g rs n (voting_from false taken) r ≡ true → ends_round sent taken r ≡ true → is_in_round sent taken r ≡ true
    word ks n sent taken DialogueRecord.Ready a b = grind (arith, a)
    word ks n sent taken DialogueRecord.Left a b = grind (arith, a)
    word ks n sent taken DialogueRecord.LeftEnd a b = grind (arith, a)
    word ks n sent taken (DialogueRecord.RolledBack r) a b = b
    word ks n sent taken r a b = refl

    event : (e : Event) → heeds_event g rs p h e ≡ true → takes_event ends_round p h e ≡ true → takes_event is_in_round p h e ≡ true
    event (Event.Arrive a (PeerRecord.OnAssoc x y q r)) b c = go (a.node == p) refl
      where
        go : (z : Bool) → (a.node == p) ≡ z → (not (a.node == p) || is_in_round (sent_on x y p h) (accepted_on x y p h) r) ≡ true
        go false i = rw i refl
        go true i =
            let here : is_heeded (begun_keys (sent_on x y p h)) g rs (ends_in (accepted_on x y p h)) (voting_from false (accepted_on x y p h)) r ≡ true = rw i at b in
            let last : ends_round (sent_on x y p h) (accepted_on x y p h) r ≡ true = rw i at c in
            rw i (word (begun_keys (sent_on x y p h)) (ends_in (accepted_on x y p h)) (sent_on x y p h) (accepted_on x y p h) r here last)
    event (Event.Declare s) b c = refl
    event (Event.Do r) b c = refl
    event (Event.Arrive a r) b c = refl
    event (Event.Break a r) b c = refl
    event (Event.Lose q) b c = refl
    event (Event.Heur o) b c = refl
    event (Event.GiveUp q) b c = refl
    event Event.Retry b c = refl
    event Event.Purge b c = refl
    event Event.Crash b c = refl

-- the arc that holds control
record HeldArc (x y : Mark) (p : ℕ) (arcs : List Arc) : Type 0 where
  arc : Arc
  sent : ℕ
  taken : ℕ
  found : find_arc arcs p ≡ Some arc
  live : link_with arcs p ≡ Live x y sent taken
  polarized : is_polarized arc.dialogue ≡ true
  held : arc.dialogue.holds ≡ true

held_arc : (x y : Mark) (p : ℕ) (arcs : List Arc) → are_separate arcs ≡ true → some_leads (holds_on x y) p arcs ≡ true → HeldArc x y p arcs
held_arc x y p [] apart h = absurd (cc (h))
held_arc x y p (a ∷ arcs) apart h = go (a.peer.node == p) refl (held_arc x y p arcs)
  where
    none : (arcs : List Arc) → is_there p arcs ≡ false → some_leads (holds_on x y) p arcs ≡ false
    none [] i = refl
    none (b ∷ arcs) i = grind (arith, i, none arcs)

    go : (b : Bool) → (a.peer.node == p) ≡ b → (are_separate arcs ≡ true → some_leads (holds_on x y) p arcs ≡ true → HeldArc x y p arcs) → HeldArc x y p (a ∷ arcs)
    go true i rest =
        let same : a.peer.node ≡ p = grind (arith, nat_tests, i) in
        let gone : is_there p arcs ≡ false = subst (λ (n : ℕ). is_there n arcs ≡ false) same (grind (arith, apart)) in
        let others : some_leads (holds_on x y) p arcs ≡ false = none arcs gone in
        let here : holds_on x y a ≡ true = grind (arith, h, others) in
        let l = live_link a.link x y (grind (arith, here)) in
        let mine : link_with (a ∷ arcs) p ≡ a.link = grind (arith, i) in
        record { arc = a; sent = l.0; taken = l.1; found = grind (arith, i); live = mine ∙ l.2; polarized = grind (arith, here); held = grind (arith, here) }
    go false i rest =
        let more = rest (grind (arith, apart)) (grind (arith, h, i)) in
        let link : link_with (a ∷ arcs) p ≡ link_with arcs p = grind (arith, i) in
        record { arc = more.arc; sent = more.sent; taken = more.taken; found = grind (arith, i, more.found); live = link ∙ more.live; polarized = more.polarized; held = more.held }

-- who holds control took it back
back_now : (p : ℕ) (d : Digest) (sent taken : List DialogueRecord) (a : Arc) → find_arc d.arcs p ≡ Some a → is_polarized a.dialogue ≡ true → a.dialogue.holds ≡ true → IsAbove p d sent taken
    → (given (answered taken) sent ≤ returned (answered taken) taken) × (given (suc (answered taken)) sent ≡ 0)
back_now p d sent taken a found pol held led =
    let kept = led.kept a.dialogue (dialogue_is d.arcs p a found) in
    let holds : is_holding a.dialogue ≡ true = rw held refl in
    let le : given (answered taken) sent + 1 ≤ suc (returned (answered taken) taken) = subst (λ (x : Bool). given (answered taken) sent + (if x then 1 else 0) ≤ suc (returned (answered taken) taken)) holds (kept.control pol) in
    (omega (arith, le), nothing_ahead p d sent (answered taken) (returned (answered taken) taken) led)

pub took_back : (es : List Happening) → EndsRounds (run es) → TookBack (run es)
took_back es ends n m x y here there up below held =
    let good = good_run es in
    let p : ℕ = number_of m in
    let legal = good.legal (number_of n) n here in
    let arc = held_arc x y p (digest n.origin n.history).arcs (separate_law n.origin n.superior n.history legal) held in
    let rounds = in_rounds (deeds_of m.origin m.history) (records m.origin m.history) p n.history (heeds_run es n m here there up) (ends n m here there up) in
    let law = above_law n.origin n.superior n.history (good.fresh (number_of n) n here) legal p below rounds x y arc.sent arc.taken arc.live in
    let both = back_now p (digest n.origin n.history) (sent_on x y p n.history) (accepted_on x y p n.history) arc.arc arc.found arc.polarized arc.held law in
    let sent : model.sent_on x y p n.history ≡ sent_on x y p n.history = all_sent x y p n.history in
    let taken : model.taken_on x y p n.history ≡ accepted_on x y p n.history = all_taken x y p n.history ((breaks_law n.origin n.superior n.history legal).live p x y arc.sent arc.taken arc.live) in
    subst (λ (ss : List DialogueRecord). (given (answered (model.taken_on x y p n.history)) ss ≤ returned (answered (model.taken_on x y p n.history)) (model.taken_on x y p n.history)) × (given (suc (answered (model.taken_on x y p n.history))) ss ≡ 0)) (sym sent)
    (subst (λ (ts : List DialogueRecord). (given (answered ts) (sent_on x y p n.history) ≤ returned (answered ts) ts) × (given (suc (answered ts)) (sent_on x y p n.history) ≡ 0)) (sym taken) both)
