-- In every legal history, where nothing failed while the tree was current, a commitment whose branches reported nothing is complete
-- with no report.
use Rattle.std.proofs.Common.{◌≡◌, ◌⊎◌, inl, inr, ℕ, Bool, true, false, refl, ap, sym, subst, ◌∙◌, arith, Option, Some, None, List, [], ◌∷◌, ◌++◌, ◌&&◌, ◌||◌, not}
use Rattle.tp_names.specs.declared.identifiers.Addr.{Addr}
use Rattle.tp_names.specs.declared.identifiers.Aaid.{Aaid}
use Rattle.tp_names.specs.declared.children.Child.{Child}
use Rattle.tp_names.specs.declared.identifiers.BranchId.{BranchId}
use Rattle.tp_names.specs.declared.outcome.Report.{Report}
use Rattle.tp_names.specs.Reports.{is_report_none}
use Rattle.tp_names.specs.Same.{is_aaid}
use Rattle.tp_records.specs.declared.request.Request.{Request}
use Rattle.tp_records.specs.declared.indication.Indication.{Indication}
use Rattle.tp_records.specs.declared.dialogue.DialogueRecord.{DialogueRecord}
use Rattle.tp_records.specs.declared.peer.PeerRecord.{PeerRecord}
use Rattle.tp_records.specs.declared.peer.RecState.{RecState}
use Rattle.tp_model.specs.declared.transaction.TxEvent.{TxEvent}
use Rattle.tp_model.specs.Parts.{Who, Origin, Event, Out, Entry, Arc, Key, Under, Branch, Current, Digest}
use Rattle.tp_model.specs.Dialogues.{is_nil, is_rolling}
use Rattle.tp_model.specs.Transactions.{Row, Transaction, Turn, aaid_of, fresh_rows, transacted}
use Rattle.std.specs.Prelude.{is_some}
use Rattle.tp_model.specs.Recovery.{settled}
use Rattle.tp_model.specs.Node.{Move, move, followed, perform, next_mark, seen_rows, seen, branches_of, remaining, passage, is_leaving, entered, begin_on, fresh_current, turned, keep}
use Rattle.tp_model.specs.Events.{action}
use Rattle.tp_model.specs.History.{digest}
use Rattle.tp_model.specs.Outcomes.{is_now, is_failure, tells_complete_none, completed_none}
use Rattle.tp_model.specs.Promises.{has_told_in}
use Rattle.tp_model.specs.Questions.{tells_commit_complete}
use Rattle.tp_steps.specs.Turns.{is_outcome_told}
use Rattle.tp_steps.specs.Moves.{Moves, IsAsked, IsPut, prelude}
use Rattle.tp_steps.specs.Trees.{out_tells}
use Rattle.tp_steps.specs.Passages.{asks_tell, IsPassed}
use Rattle.tp_steps.specs.Clearing.{is_complete_none}
use Rattle.tp_failure_free.specs.Drained.{touches, IsUnfailed, is_clear_event, took_clear, ClearReport}
use Rattle.tp_steps.proofs.every.EveryEvent.{every_move}
use Rattle.tp_steps.proofs.lemmas.Equality.{aaids_equal, or_case, and_left, and_right}
use Rattle.tp_agreement.proofs.Accounts.{asked_took}
use Rattle.tp_agreement.proofs.OwingLaw.{replied_by}
use Rattle.tp_steps.proofs.words.Hushed.{settled_spoken}
use Rattle.tp_histories.proofs.trees.Knowing.{Came, As_it_was, By_begin, By_crash, came_by, current_none, nil_now, recovered_now}
use Rattle.tp_histories.proofs.trees.Late.{late_law}
use Rattle.tp_steps.proofs.log.Passed.{passed_turn}
use Rattle.tp_steps.proofs.log.Sound.{left_is, left_branches}
use Rattle.tp_histories.proofs.upward.SpeaksUp.{complete_tells}
use Rattle.tp_steps.proofs.links.Told.{told_append, told_performed, told_played}
use Rattle.tp_failure_free.proofs.Calm.{is_given}
use Rattle.tp_failure_free.proofs.LiveEvents.{quiet_begin, spoken_quiet}
use Rattle.tp_failure_free.proofs.LiveLaw.{unfailed_before, mild_entry, no_crash}
use Rattle.tp_failure_free.proofs.Said.{out_weaker}
use Rattle.tp_failure_free.proofs.ClearTurns.{is_complete, brings_none, is_clear_branch, clear_rows, is_clear, clears}
use Rattle.tp_steps.proofs.every.BeginCases.{begin_cases}
use Rattle.tp_reports.proofs.Finishing.{completes_told}
use Rattle.tp_steps.proofs.links.Whole.{whole_turn}

-- ---- what is current

abbrev clear_branches : List Branch → Bool
clear_branches [] = true
clear_branches (b ∷ bs) = is_clear_branch b && clear_branches bs

abbrev clear_at : Current → Bool
clear_at c = is_rolling c.phase || is_nil c.phase || (not (is_some c.decision) && clear_branches c.branches)

-- of the tree
abbrev pub IsClearIn : Aaid → Option Current → Type 0
IsClearIn t o = (c : Current) → o ≡ Some c → is_aaid t (aaid_of c.key) ≡ true → clear_at c ≡ true

rows_seen : (arcs : List Arc) (bs : List Branch) → clear_rows (seen_rows arcs bs) ≡ clear_branches bs
rows_seen arcs [] = refl
rows_seen arcs (b ∷ bs) = ap (λ v. is_clear_branch b && v) (rows_seen arcs bs)

rows_left : (rows : List Row) → clear_branches (branches_of rows) ≡ clear_rows rows
rows_left [] = refl
rows_left (r ∷ rs) = ap (λ v. is_clear_branch r.branch && v) (rows_left rs)

rows_more : (rows : List Row) (n : Child) → clear_rows (rows ++ fresh_rows (n ∷ [])) ≡ clear_rows rows
rows_more [] n = refl
rows_more (r ∷ rs) n = ap (λ v. is_clear_branch r.branch && v) (rows_more rs n)

clear_seen : (who : Who) (arcs : List Arc) (c : Current) → is_clear (seen who arcs c) ≡ clear_at c
clear_seen who arcs c = ap (λ v. is_rolling c.phase || is_nil c.phase || (not (is_some c.decision) && v)) (rows_seen arcs c.branches)

clear_left : (t : Transaction) (u : Current) → remaining t ≡ Some u → is_clear t ≡ true → clear_at u ≡ true
clear_left t u is h =
    let left = left_is t u is in
    let rows : clear_branches u.branches ≡ clear_rows t.rows = ap clear_branches (left_branches t u is) ∙ rows_left t.rows in
    made (is_rolling u.phase) (is_nil u.phase) (is_some u.decision) (clear_branches u.branches) (is_rolling t.phase) (is_nil t.phase) (is_some t.decision) (clear_rows t.rows) (ap is_rolling left.1) (ap is_nil left.1) (ap is_some left.2) rows h
  where
    made : (a b c d x y z w : Bool) → a ≡ x → b ≡ y → c ≡ z → d ≡ w → (x || y || (not z && w)) ≡ true → (a || b || (not c && d)) ≡ true
    made a b c d x y z w i j k l h = rw (i, j, k, l) h

-- ---- the steps of an event whose prelude left s

record IsClearMove (t : Aaid) (s d : Digest) (m : Move) : Type 0 where
  clear : IsClearIn t d.current → IsClearIn t m.next.current
  tells : IsClearIn t d.current → is_now t s.current ≡ true → out_tells is_complete m.outs ≡ true → out_tells is_complete_none m.outs ≡ true

complete_told : (i : Indication) → is_complete i ≡ true → is_outcome_told i ≡ true
complete_told (Indication.CommitComplete r) h = refl
complete_told i h = absurd (cc (h))

untold : (outs : List Out) → out_tells is_outcome_told outs ≡ false → out_tells is_complete outs ≡ false
untold outs off = go (out_tells is_complete outs) refl
  where
    go : (b : Bool) → out_tells is_complete outs ≡ b → b ≡ false
    go false i = refl
    go true i = absurd (cc (out_weaker is_complete is_outcome_told outs complete_told i, off))

same_move : (t : Aaid) (s d : Digest) (m : Move) → m.next.current ≡ d.current → out_tells is_outcome_told m.outs ≡ false → IsClearMove t s d m
same_move t s d m same none = record { clear = λ k c is. k c (sym same ∙ is); tells = λ k now told. absurd (cc (untold m.outs none, told)) }

clear_then : (t : Aaid) (s d : Digest) (a : Move) (f : Digest → Move) → IsClearMove t s d a → IsClearMove t s a.next (f a.next) → IsClearMove t s d (followed a f)
clear_then t s d a f one two = record {
  clear = λ k. two.clear (one.clear k);
  tells = λ k now told. told_append is_complete_none a.outs b.outs ∙ go k now (out_tells is_complete a.outs) refl (sym (told_append is_complete a.outs b.outs) ∙ told);
}
  where
    b : Move
    b = f a.next

    go : IsClearIn t d.current → is_now t s.current ≡ true → (v : Bool) → out_tells is_complete a.outs ≡ v → (out_tells is_complete a.outs || out_tells is_complete b.outs) ≡ true → (out_tells is_complete_none a.outs || out_tells is_complete_none b.outs) ≡ true
    go k now true i told = rw (one.tells k now i) refl
    go k now false i told = let second : out_tells is_complete b.outs ≡ true = grind (arith, told, i) in let there = two.tells (one.clear k) now second in grind (arith, there)

-- what a transaction of the tree is asked brings no report
abbrev pub BringsNone : Who → Aaid → Event → Digest → Type 0
BringsNone who t e s = (c : Current) (f : TxEvent) (arcs : List Arc) → s.current ≡ Some c → is_aaid t (aaid_of c.key) ≡ true → IsAsked e c f → (is_given f ≡ false) × (brings_none f (seen who arcs c) ≡ true)

clear_turned : (t : Aaid) (who : Who) (e : Event) (s d : Digest) (c : Current) (f : TxEvent) → BringsNone who t e s → d.current ≡ Some c → s.current ≡ Some c → IsAsked e c f → IsPut f (seen who d.arcs c) → IsClearMove t s d (turned who f d c)
clear_turned t who e s d c f brings now at asked put = record {
  clear = λ k u is tree. clear_left a.next u is ((done k (ap (is_aaid t) (sym (ap aaid_of (key u is))) ∙ tree)).0);
  tells = λ k here told.
      let tree : is_aaid t (aaid_of c.key) ≡ true = ap (is_now t) (sym at) ∙ here in
      played is_complete_none ∙ (done k tree).1 (sym (played is_complete) ∙ told);
}
  where
    q : Transaction
    q = seen who d.arcs c

    a : Turn
    a = transacted f q

    key : (u : Current) → remaining a.next ≡ Some u → u.key ≡ c.key
    key u is = (left_is a.next u is).0 ∙ IsPassed.key (passed_turn f q put)

    played : (g : Indication → Bool) → out_tells g (turned who f d c).outs ≡ asks_tell g a.outs
    played g = told_played g d q (passage (is_leaving f) q.phase a.next.phase) a (whole_turn f q) (entered q (passage (is_leaving f) q.phase a.next.phase) d.arcs)

    done : IsClearIn t d.current → is_aaid t (aaid_of c.key) ≡ true → (is_clear a.next ≡ true) × (asks_tell is_complete a.outs ≡ true → asks_tell is_complete_none a.outs ≡ true)
    done k tree = let b = brings c f d.arcs at tree asked in clears f q put b.0 b.1 (clear_seen who d.arcs c ∙ k c now tree)

begun_clear : (t : Aaid) (who : Who) (arcs : List Arc) (c : Current) (n : Child) → IsClearIn t (Some c) → IsClearIn t (remaining (transacted (TxEvent.Begun (n ∷ [])) (seen who arcs c)).next)
begun_clear t who arcs c n k u is tree =
    let next : Transaction = (transacted (TxEvent.Begun (n ∷ [])) (seen who arcs c)).next in
    let key : u.key ≡ c.key = (left_is next u is).0 in
    let old : is_clear (seen who arcs c) ≡ true = clear_seen who arcs c ∙ k c refl (ap (is_aaid t) (ap aaid_of (sym key)) ∙ tree) in
    clear_left next u is (ap (λ v. is_rolling c.phase || is_nil c.phase || (not (is_some c.decision) && v)) (rows_more (seen_rows arcs c.branches) n) ∙ old)

clear_begin : (t : Aaid) (who : Who) (q : ℕ) (d : Digest) → IsClearIn t d.current → IsClearIn t (begin_on who q d).next.current
clear_begin t who q d old = begin_cases (λ (m : Move). IsClearIn t m.next.current) who q d old (λ c a i found may. begun_clear t who d.arcs c (record { addr = a.peer; branch = record { superior = who.site; mark = next_mark who d } }) (subst (IsClearIn t) i old))

fresh_clear : (t : Aaid) (k : Key) → IsClearIn t (Some (fresh_current k))
fresh_clear t k c is tree = let same : fresh_current k ≡ c = cc (is) in ap clear_at (sym same)

clear_moves : (t : Aaid) (who : Who) (e : Event) (s : Digest) → BringsNone who t e s → Moves who e s (IsClearMove t s)
clear_moves t who e s brings = record {
  still = λ d. same_move t s d (move [] d) refl refl;
  chain = λ d a f one two none. clear_then t s d a f one two;
  speaks = λ d outs h own said. same_move t s d (perform outs d) refl (told_performed is_outcome_told d.arcs outs ∙ spoken_quiet outs h);
  changes_dialogue = λ d p f m by one. record { clear = one.clear; tells = one.tells };
  drops_arc = λ d p m at one. record { clear = one.clear; tells = one.tells };
  notes_kept = λ d ks m held one. record { clear = one.clear; tells = one.tells };
  keeps = λ d k f held. same_move t s d (keep (settled k f) d) refl (told_performed is_outcome_told d.arcs (settled k f).outs ∙ spoken_quiet (settled k f).outs (settled_spoken k f));
  turns = λ d c f now at asked put gone. clear_turned t who e s d c f brings now at asked put;
  begins = λ d p free. record { clear = clear_begin t who p d; tells = λ k now told. absurd (cc (untold (begin_on who p d).outs (quiet_begin who p d), told)) };
  roots = λ d m nil may one. record { clear = λ k. one.clear (fresh_clear t _); tells = λ k. one.tells (fresh_clear t _) };
}

-- ---- the event of an entry

-- the node decides, or gives a branch up
abbrev pub is_given_event : Event → Bool
is_given_event (Event.Heur o) = true
is_given_event (Event.GiveUp p) = true
is_given_event _ = false

bare_request : (r : Request) (c : Current) (f : TxEvent) → IsAsked (Event.Do r) c f → is_given f ≡ false
bare_request (Request.UAbort p) c f asked = rw (asked.0) refl
bare_request Request.Rollback c f asked = rw asked refl
bare_request (Request.DeferEnd p) c f asked = rw asked refl
bare_request (Request.DeferGrant p) c f asked = rw asked refl
bare_request (Request.Prepare p) c f asked = rw asked refl
bare_request Request.Commit c f asked = rw asked refl
bare_request Request.Done c f asked = rw asked refl
bare_request Request.Unchanged c f asked = rw asked refl
bare_request r c f asked = absurd asked

bare_record : (from : Addr) (r : PeerRecord) (c : Current) (f : TxEvent) → IsAsked (Event.Arrive from r) c f → is_given f ≡ false
bare_record from (PeerRecord.OpenAssoc x u) c f asked = absurd asked
bare_record from (PeerRecord.AcceptAssoc x y u) c f asked = absurd asked
bare_record from (PeerRecord.ShutAssoc x None) c f asked = absurd asked
bare_record from (PeerRecord.ShutAssoc x (Some y)) c f asked = rw asked refl
bare_record from (PeerRecord.OnAssoc x y q r) c f asked = rw asked refl
bare_record from (PeerRecord.RecReady u b) c f asked = absurd asked
bare_record from (PeerRecord.RecCommit u b) c f asked = rw (asked.0) refl
bare_record from (PeerRecord.RecReply u b RecState.Commit) c f asked = rw (asked.0) refl
bare_record from (PeerRecord.RecReply u b (RecState.Done r)) c f asked = rw (asked.0) refl
bare_record from (PeerRecord.RecReply u b RecState.Unknown) c f asked = rw (asked.0) refl
bare_record from (PeerRecord.RecReply u b RecState.RetryLater) c f asked = rw (asked.0) refl
bare_record from (PeerRecord.Forget u b) c f asked = absurd asked

pub bare_event : (e : Event) (c : Current) (f : TxEvent) → is_given_event e ≡ false → IsAsked e c f → is_given f ≡ false
bare_event (Event.Declare s) c f bare asked = absurd asked
bare_event (Event.Do r) c f bare asked = bare_request r c f asked
bare_event (Event.Arrive from r) c f bare asked = bare_record from r c f asked
bare_event (Event.Break from r) c f bare asked = rw asked refl
bare_event (Event.Lose p) c f bare asked = rw asked refl
bare_event (Event.Heur o) c f bare asked = absurd (cc (bare))
bare_event (Event.GiveUp p) c f bare asked = absurd (cc (bare))
bare_event Event.Retry c f bare asked = rw asked refl
bare_event Event.Purge c f bare asked = absurd asked
bare_event Event.Crash c f bare asked = absurd asked

given_fails : (c : Current) (e : Event) → (is_failure e && touches c e) ≡ false → is_given_event e ≡ false
given_fails c (Event.Heur o) h = absurd (cc (h))
given_fails c (Event.GiveUp p) h = absurd (cc (h))
given_fails c e h = refl

-- what can bring a report: a branch's Done, or its reply
pub data Brings (f : TxEvent) : Type 0 where
  Nothing_brought : ((q : Transaction) → brings_none f q ≡ true) → Brings f
  By_word : (p : ℕ) (r : Report) → f ≡ TxEvent.Took p (DialogueRecord.Done r) → Brings f
  By_answer : (b : BranchId) (r : Report) → f ≡ TxEvent.Reply b (RecState.Done r) → Brings f

pub brought_by : (f : TxEvent) → Brings f
brought_by (TxEvent.Took p (DialogueRecord.Done r)) = By_word p r refl
brought_by (TxEvent.Reply b (RecState.Done r)) = By_answer b r refl
brought_by _ = Nothing_brought (λ q. refl)

clear_brings : (t : Aaid) (e : Event) (c : Current) (f : TxEvent) (q : Transaction) → is_clear_event t e ≡ true → is_aaid t (aaid_of c.key) ≡ true → IsAsked e c f → Brings f → brings_none f q ≡ true
clear_brings t e c f q clear tree asked (Nothing_brought n) = n q
clear_brings t e c f q clear tree asked (By_word p r is) =
    let w = asked_took e c p (DialogueRecord.Done r) (subst (λ (g : TxEvent). IsAsked e c g) is asked) in
    let none : is_report_none r ≡ true = ap (is_clear_event t) (sym w.is) ∙ clear in
    rw is (rw none refl)
clear_brings t e c f q clear tree asked (By_answer b r is) =
    let w = replied_by e c b r (subst (λ (g : TxEvent). IsAsked e c g) is asked) in
    let same : is_aaid t w.tree ≡ true = ap (λ (v : Aaid). is_aaid v w.tree) (aaids_equal t (aaid_of c.key) tree) ∙ w.same in
    let one : is_clear_event t (Event.Arrive w.from (PeerRecord.RecReply w.tree b (RecState.Done r))) ≡ true = ap (is_clear_event t) (sym w.is) ∙ clear in
    let none : is_report_none r ≡ true = grind (arith, one, same) in
    rw is (rw none refl)

-- each entry brings no report
abbrev pub AreClear : Aaid → Origin → List Entry → Type 0
AreClear t o [] = Unit {0}
AreClear t o (e ∷ h) = BringsNone o.who t e.event (prelude o.who (digest o h) e.event) × AreClear t o h

entry_moves : (o : Origin) (up : Option Addr) (e : Entry) (h : List Entry) (t : Aaid) → IsUnfailed t o up (e ∷ h) → BringsNone o.who t e.event (prelude o.who (digest o h) e.event) → IsClearMove t (prelude o.who (digest o h) e.event) (prelude o.who (digest o h) e.event) (action o.who (digest o h) e.event)
entry_moves o up e h t k brings = every_move o.who d e.event (IsClearMove t s) (clear_moves t o.who e.event s brings) (late_law o up h k.grown.3) k.grown.0
  where
    d : Digest
    d = digest o h

    s : Digest
    s = prelude o.who d e.event

-- where the tree is current in the prelude, the node neither decides nor gives up
pub bare_prelude : (o : Origin) (up : Option Addr) (e : Entry) (h : List Entry) (t : Aaid) (c : Current) → IsUnfailed t o up (e ∷ h) → (prelude o.who (digest o h) e.event).current ≡ Some c → is_aaid t (aaid_of c.key) ≡ true → is_given_event e.event ≡ false
bare_prelude o up e h t c k at tree = go (came_by o.who (digest o h) e.event k.grown.0)
  where
    go : Came o.who (digest o h) e.event → is_given_event e.event ≡ false
    go (As_it_was i) = given_fails c e.event (mild_entry t o up e h c k (sym i ∙ at) tree)
    go (By_begin from x y q u b g a is found cur nil above) = ap is_given_event is
    go (By_crash is cur) = ap is_given_event is

brings_entry : (o : Origin) (up : Option Addr) (e : Entry) (h : List Entry) (t : Aaid) → IsUnfailed t o up (e ∷ h) → took_clear t o (e ∷ h) ≡ true → BringsNone o.who t e.event (prelude o.who (digest o h) e.event)
brings_entry o up e h t k took c f arcs at tree asked = (bare_event e.event c f (bare_prelude o up e h t c k at tree) asked, clear_brings t e.event c f (seen o.who arcs c) (go (came_by o.who d e.event k.grown.0) c at tree) tree asked (brought_by f))
  where
    d : Digest
    d = digest o h

    s : Digest
    s = prelude o.who d e.event

    event : is_now t d.current ≡ true → is_clear_event t e.event ≡ true
    event now = grind (arith, took, now)

    go : Came o.who d e.event → (c : Current) → s.current ≡ Some c → is_aaid t (aaid_of c.key) ≡ true → is_clear_event t e.event ≡ true
    go (As_it_was i) c at tree = event (ap (is_now t) (sym i ∙ at) ∙ tree)
    go (By_begin from x y q u b g a is found cur nil above) c at tree = ap (is_clear_event t) is
    go (By_crash is cur) c at tree = ap (is_clear_event t) is

are_clear : (o : Origin) (up : Option Addr) (h : List Entry) (t : Aaid) → IsUnfailed t o up h → took_clear t o h ≡ true → AreClear t o h
are_clear o up [] t k took = tt
are_clear o up (e ∷ h) t k took = (brings_entry o up e h t k took, are_clear o up h t (unfailed_before t o up e h k).1 (and_right (not (is_now t (digest o h).current) || is_clear_event t e.event) (took_clear t o h) took))

entry_prelude : (o : Origin) (up : Option Addr) (e : Entry) (h : List Entry) (t : Aaid) → IsUnfailed t o up (e ∷ h) → IsClearIn t (digest o h).current → IsClearIn t (prelude o.who (digest o h) e.event).current
entry_prelude o up e h t k old = go (came_by o.who (digest o h) e.event k.grown.0)
  where
    go : Came o.who (digest o h) e.event → IsClearIn t (prelude o.who (digest o h) e.event).current
    go (As_it_was i) c at tree = old c (sym i ∙ at) tree
    go (By_begin from x y q u b g a is found cur nil above) c at tree = fresh_clear t (Under u b a.peer) c (sym cur ∙ at) tree
    go (By_crash is cur) c at tree = absurd (no_crash t o up e h k (recovered_now t (digest o h).current (ap (is_now t) (sym cur ∙ at) ∙ tree)) is)

clear_law : (o : Origin) (up : Option Addr) (h : List Entry) (t : Aaid) → IsUnfailed t o up h → AreClear t o h → IsClearIn t (digest o h).current
clear_law o up [] t k took = λ c is tree. absurd (cc (current_none o k.fresh, is))
clear_law o up (e ∷ h) t k took =
    (entry_moves o up e h t k took.0).clear (entry_prelude o up e h t k (clear_law o up h t (unfailed_before t o up e h k).1 took.1))

report_step : (o : Origin) (up : Option Addr) (e : Entry) (h : List Entry) (t : Aaid) → IsUnfailed t o up (e ∷ h) → AreClear t o (e ∷ h) → is_now t (digest o h).current ≡ true → tells_commit_complete e.outs ≡ true → tells_complete_none e.outs ≡ true
report_step o up e h t k took now told = complete_tells e.outs ∙ ap (λ (v : Entry). out_tells is_complete_none v.outs) (sym k.grown.1) ∙ (entry_moves o up e h t k took.0).tells (entry_prelude o up e h t k clear) (here (came_by o.who d e.event k.grown.0)) said
  where
    d : Digest
    d = digest o h

    clear : IsClearIn t d.current
    clear = clear_law o up h t (unfailed_before t o up e h k).1 took.1

    said : out_tells is_complete (action o.who d e.event).outs ≡ true
    said = ap (λ (v : Entry). out_tells is_complete v.outs) k.grown.1 ∙ sym (completes_told e.outs) ∙ told

    here : Came o.who d e.event → is_now t (prelude o.who d e.event).current ≡ true
    here (As_it_was i) = ap (is_now t) i ∙ now
    here (By_begin from x y q u b g a is found cur nil above) = absurd (cc (now, nil_now d t (late_law o up h k.grown.3) nil))
    here (By_crash is cur) = absurd (no_crash t o up e h k now is)

report_then : (o : Origin) (up : Option Addr) (e : Entry) (h : List Entry) (t : Aaid) → IsUnfailed t o up (e ∷ h) → AreClear t o (e ∷ h) → has_told_in tells_commit_complete o t (e ∷ h) ≡ true → (has_told_in tells_commit_complete o t h ≡ true → completed_none o t h ≡ true) → completed_none o t (e ∷ h) ≡ true
report_then o up e h t k took told rest = go (or_case (is_now t (digest o h).current && tells_commit_complete e.outs) (has_told_in tells_commit_complete o t h) told)
  where
    go : ((is_now t (digest o h).current && tells_commit_complete e.outs) ≡ true) ⊎ (has_told_in tells_commit_complete o t h ≡ true) → completed_none o t (e ∷ h) ≡ true
    go (inr j) = let more = rest j in grind (arith, more)
    go (inl j) =
        let now : is_now t (digest o h).current ≡ true = and_left (is_now t (digest o h).current) (tells_commit_complete e.outs) j in
        let none : tells_complete_none e.outs ≡ true = report_step o up e h t k took now (and_right (is_now t (digest o h).current) (tells_commit_complete e.outs) j) in
        rw (now, none) refl

pub report_law : (o : Origin) (up : Option Addr) (h : List Entry) (t : Aaid) → IsUnfailed t o up h → AreClear t o h → has_told_in tells_commit_complete o t h ≡ true → completed_none o t h ≡ true
report_law o up [] t k took told = absurd (cc (told))
report_law o up (e ∷ h) t k took told = report_then o up e h t k took told (report_law o up h t (unfailed_before t o up e h k).1 took.1)

pub clear_report : (t : Aaid) (o : Origin) (up : Option Addr) (h : List Entry) → IsUnfailed t o up h → ClearReport t o h
clear_report t o up h k took = report_law o up h t k (are_clear o up h t k took)
