-- What a node without associations takes in recovery, and what is known of it then.
use Rattle.std.proofs.Common.{if◌then◌else◌, ◌≡◌, inl, ℕ, ◌≤◌, Bool, true, false, refl, ap, sym, subst, ◌∙◌, arith, Option, Some, None, List, [], ◌&&◌, ◌||◌, not}
use Rattle.std.proofs.lemmas.Bool.Decides.{nat_tests}
use Rattle.tp_names.specs.declared.identifiers.Aaid.{Aaid}
use Rattle.tp_names.specs.declared.identifiers.Addr.{Addr}
use Rattle.tp_names.specs.declared.identifiers.BranchId.{BranchId}
use Rattle.tp_names.specs.declared.identifiers.NodeKey.{NodeKey}
use Rattle.tp_names.specs.declared.outcome.Report.{Report}
use Rattle.tp_names.specs.Same.{is_aaid}
use Rattle.tp_records.specs.declared.request.Request.{Request}
use Rattle.tp_records.specs.declared.peer.PeerRecord.{PeerRecord}
use Rattle.tp_records.specs.declared.peer.RecState.{RecState}
use Rattle.tp_model.specs.declared.arc.Phase.{Phase}
use Rattle.tp_model.specs.declared.transaction.TxEvent.{TxEvent}
use Rattle.tp_model.specs.declared.recovery.Kept.{Kept}
use Rattle.tp_model.specs.declared.recovery.KeptEvent.{KeptEvent}
use Rattle.tp_model.specs.declared.recovery.Question.{Question}
use Rattle.tp_model.specs.Parts.{Who, Event, Arc, Branch, Current, Digest, Verdict}
use Rattle.tp_model.specs.Links.{greatest}
use Rattle.tp_model.specs.Dialogues.{is_nil, is_committing, is_rolling}
use Rattle.tp_model.specs.Transactions.{aaid_of, node_key, refused_tx}
use Rattle.tp_model.specs.Recovery.{is_commit, find_kept, settled, forget_to, recovery_answer}
use Rattle.tp_model.specs.Node.{Move, move, perform, seen, transact, keep}
use Rattle.tp_model.specs.Requests.{refused_request}
use Rattle.tp_model.specs.Arrivals.{Named, branch_key, named_by_key, named_by_branch, key_of_branch, is_branch_of, find_branch_by_id, child_addr, kept_superior, known_of, is_other, is_current_ready, refused_arrival, reply_to, take_ready_reply, take_done_reply}
use Rattle.tp_model.specs.Events.{refusal, refused_plainly, unless_missing, unless_spent, may_need_numbers, needs_numbers, action, is_no_node}
use Rattle.tp_model.proofs.Verdicts.{plainly_not, none_if_accepted}
use Rattle.tp_steps.specs.Moves.{IsPut}
use Rattle.tp_histories.specs.Histories.{IsSentIn}
use Rattle.tp_agreement.proofs.Unknown.{own_with, current_found}
use Rattle.tp_finishing.specs.Doubt.{HaveNumbers}
use Rattle.tp_finishing.proofs.Answering.{addr_self}
use Rattle.tp_finishing.proofs.Awake.{reply_same}
use Rattle.tp_finishing.proofs.Hearing.{doubting, hears_commit, hears_unknown}
use Rattle.tp_finishing.proofs.Still.{left_by, Turned, quiet_turn}
use Rattle.tp_finishing.proofs.Ending.{waiting}

pub record Taken (who : Who) (d : Digest) (e : Event) (next : Digest) : Type 0 where
  pub ok : refusal who d e ≡ None
  pub next_is : (action who d e).next ≡ next

-- an event that is not refused, and needs no number
pub taken_by : (who : Who) (d : Digest) (e : Event) (next : Digest) → refused_plainly who d e ≡ None → needs_numbers (action who d e) ≡ false → (action who d e).next ≡ next → Taken who d e next
taken_by who d e next plain enough same = record { ok = none_if_accepted who d e (plainly_not who d e plain ∙ go (may_need_numbers e)); next_is = same }
  where
    go : (b : Bool) → (if b then unless_spent (action who d e) Verdict.Accepted else Verdict.Accepted) ≡ Verdict.Accepted
    go true = rw enough refl
    go false = refl

-- ---- the user has finished

late : (p : Phase) → (is_committing p || is_rolling p) ≡ true → is_nil p ≡ false
late p h = grind (arith, h)

done_put : (who : Who) (c : Current) → c.owes ≡ true → (is_committing c.phase || is_rolling c.phase) ≡ true → IsPut (TxEvent.User Request.Done) (seen who [] c)
unfolding refused_tx
done_put who c owes phase = record { late = late c.phase phase; ok = λ h. rw (owes, phase) refl; abort = λ p h. absurd (cc (h)); ordered = λ h. absurd (cc (h)); not_begun = λ arcs h. cc (h) }

pub done_taken : (who : Who) (d : Digest) (c : Current) → d.arcs ≡ [] → d.current ≡ Some c → c.owes ≡ true → (is_committing c.phase || is_rolling c.phase) ≡ true → is_no_node d ≡ false → d.drawn ≤ greatest
    → Taken who d (Event.Do Request.Done) (left_by who (TxEvent.User Request.Done) d c)
unfolding refused_request
done_taken who d c none at owes phase node h = taken_by who d (Event.Do Request.Done) (left_by who (TxEvent.User Request.Done) d c) plain (turned.numbers h) turned.next
  where
    turned : Turned who (TxEvent.User Request.Done) d c
    turned = quiet_turn who (TxEvent.User Request.Done) d c none at (done_put who c owes phase)

    declared : (b : Bool) → unless_missing (not b && false) None ≡ None
    declared true = refl
    declared false = refl

    plain : refused_plainly who d (Event.Do Request.Done) ≡ None
    plain = rw (node, at, refused_plainly) (rw (owes, phase) (declared d.declared))

-- ---- the superior's answer

answer_put : (who : Who) (c : Current) (t : Aaid) (b : BranchId) (a : Addr) (s : RecState) → IsPut (TxEvent.Reply b s) (seen who [] (doubting c t b a))
unfolding refused_tx
answer_put who c t b a s = record { late = refl; ok = λ h. refl; abort = λ p h. absurd (cc (h)); ordered = λ h. absurd (cc (h)); not_begun = λ arcs h. cc (h) }

answer_turn : (who : Who) (d : Digest) (c : Current) (t : Aaid) (b : BranchId) (a : Addr) (s : RecState) → d.current ≡ Some (doubting c t b a) → take_ready_reply who t b s d ≡ transact who (TxEvent.Reply b s) d
answer_turn who d c t b a s at = ap (λ (o : Option Current). if is_current_ready (record { current = o; kept = (named_by_key d (branch_key t b)).kept }) then transact who (TxEvent.Reply b s) d else move [] d) (own_with d (doubting c t b a) at)

answer_next : (who : Who) (d : Digest) (c : Current) (t : Aaid) (b : BranchId) (a : Addr) (s : RecState) → d.arcs ≡ [] → d.current ≡ Some (doubting c t b a) → (take_ready_reply who t b s d).next ≡ left_by who (TxEvent.Reply b s) d (doubting c t b a)
answer_next who d c t b a s none at = ap (λ (m : Move). m.next) (answer_turn who d c t b a s at) ∙ (quiet_turn who (TxEvent.Reply b s) d (doubting c t b a) none at (answer_put who c t b a s)).next

numbers_none : (n : ℕ) (arcs : List Arc) → arcs ≡ [] → HaveNumbers n arcs
numbers_none n arcs i = subst (HaveNumbers n) (sym i) tt

pub commit_taken : (who : Who) (d : Digest) (c : Current) (t : Aaid) (b : BranchId) (a : Addr) → d.arcs ≡ [] → d.current ≡ Some (doubting c t b a) → d.drawn ≤ greatest
    → Taken who d (Event.Arrive a (PeerRecord.RecReply t b RecState.Commit)) (left_by who (TxEvent.Reply b RecState.Commit) d (doubting c t b a))
commit_taken who d c t b a none at h = record { ok = (hears_commit who d c t b a at h (numbers_none _ d.arcs none)).taken; next_is = answer_next who d c t b a RecState.Commit none at }

pub unknown_taken : (who : Who) (d : Digest) (c : Current) (t : Aaid) (b : BranchId) (a : Addr) → d.arcs ≡ [] → d.current ≡ Some (doubting c t b a) → d.drawn ≤ greatest
    → Taken who d (Event.Arrive a (PeerRecord.RecReply t b RecState.Unknown)) (left_by who (TxEvent.Reply b RecState.Unknown) d (doubting c t b a))
unknown_taken who d c t b a none at h = record { ok = (hears_unknown who d c t b a at h (numbers_none _ d.arcs none)).taken; next_is = answer_next who d c t b a RecState.Unknown none at }

-- ---- the order of a superior, at a node that has no transaction under way with that key

order_answer : (n : Named) (b : BranchId) → n.current ≡ None → ((k : Kept) → n.kept ≡ Some k → is_commit k.side ≡ true) → (r : Report) × (recovery_answer (known_of n b) Question.RecCommit ≡ Some (RecState.Done r))
unfolding recovery_answer
order_answer n b none commits = go n.kept refl
  where
    go : (o : Option Kept) → n.kept ≡ o → (r : Report) × (recovery_answer (known_of n b) Question.RecCommit ≡ Some (RecState.Done r))
    go None i = (Report.None, rw (none, i) refl)
    go (Some k) i = let side = commits k i in (k.report, rw (none, i) (rw side refl))

pub record Orders (who : Who) (d : Digest) (from : Addr) (t : Aaid) (b : BranchId) : Type 0 where
  pub ok : refusal who d (Event.Arrive from (PeerRecord.RecCommit t b)) ≡ None
  pub same : (action who d (Event.Arrive from (PeerRecord.RecCommit t b))).next ≡ d
  pub report : Report
  pub says : IsSentIn (action who d (Event.Arrive from (PeerRecord.RecCommit t b))).outs from (PeerRecord.RecReply t b (RecState.Done report))

pub order_taken : (who : Who) (d : Digest) (from : Addr) (t : Aaid) (b : BranchId) → (named_by_key d (branch_key t b)).current ≡ None → ((k : Kept) → find_kept d.kept (branch_key t b) ≡ Some k → (is_commit k.side ≡ true) × (k.superior ≡ Some from)) → d.drawn ≤ greatest
    → Orders who d from t b
unfolding refused_arrival
order_taken who d from t b none kept h = record {
  ok = (taken_by who d f d plain (ap needs_numbers turned ∙ enough) (ap (λ (m : Move). m.next) turned ∙ reply_same from t b (Some (RecState.Done answer.0)) d)).ok;
  same = ap (λ (m : Move). m.next) turned ∙ reply_same from t b (Some (RecState.Done answer.0)) d;
  report = answer.0;
  says = subst (λ (m : Move). IsSentIn m.outs from (PeerRecord.RecReply t b (RecState.Done answer.0))) (sym turned) (inl (refl, refl));
}
  where
    n : Named
    n = named_by_key d (branch_key t b)

    f : Event
    f = Event.Arrive from (PeerRecord.RecCommit t b)

    answer : (r : Report) × (recovery_answer (known_of n b) Question.RecCommit ≡ Some (RecState.Done r))
    answer = order_answer n b none (λ k i. (kept k i).0)

    unready : is_current_ready n ≡ false
    unready = rw none refl

    turned : action who d f ≡ reply_to from t b (Some (RecState.Done answer.0)) d
    turned = rw unready (rw (answer.1) refl)

    enough : needs_numbers (reply_to from t b (Some (RecState.Done answer.0)) d) ≡ false
    enough = grind (arith, nat_tests, h)

    above : (o : Option Kept) → find_kept d.kept (branch_key t b) ≡ o → is_other (elim o as (λ _. Option Addr) [ None ↦ None | Some k ↦ k.superior ]) from ≡ false
    above None i = refl
    above (Some k) i = rw ((kept k i).1) (rw (addr_self from) refl)

    own : is_other (kept_superior n) from ≡ false
    own = rw none (above (find_kept d.kept (branch_key t b)) refl)

    plain : refused_plainly who d f ≡ None
    plain = rw (own, unready, answer.1) refl

-- ---- a branch is done

reply_put : (who : Who) (c : Current) (v : Branch) (r : Report) → IsPut (TxEvent.Reply v.id (RecState.Done r)) (seen who [] (waiting c))
unfolding refused_tx
reply_put who c v r = record { late = refl; ok = λ h. refl; abort = λ p h. absurd (cc (h)); ordered = λ h. absurd (cc (h)); not_begun = λ arcs h. cc (h) }

-- in a commitment
pub reply_taken : (who : Who) (d : Digest) (c : Current) (from : Addr) (t : Aaid) (v : Branch) (r : Report) → d.arcs ≡ [] → d.current ≡ Some (waiting c) → is_aaid (aaid_of c.key) t ≡ true → find_branch_by_id c.branches v.id ≡ Some v
    → is_other (child_addr (named_by_branch d t v.id) v.id) from ≡ false → d.drawn ≤ greatest
    → Taken who d (Event.Arrive from (PeerRecord.RecReply t v.id (RecState.Done r))) (left_by who (TxEvent.Reply v.id (RecState.Done r)) d (waiting c))
unfolding refused_arrival
reply_taken who d c from t v r none at tree found own h = taken_by who d f (left_by who (TxEvent.Reply v.id (RecState.Done r)) d (waiting c)) plain (ap needs_numbers same ∙ turned.numbers h) (ap (λ (m : Move). m.next) same ∙ turned.next)
  where
    f : Event
    f = Event.Arrive from (PeerRecord.RecReply t v.id (RecState.Done r))

    plain : refused_plainly who d f ≡ None
    plain = rw own refl

    put : IsPut (TxEvent.Reply v.id (RecState.Done r)) (seen who [] (waiting c))
    put = reply_put who c v r

    turned : Turned who (TxEvent.Reply v.id (RecState.Done r)) d (waiting c)
    turned = quiet_turn who (TxEvent.Reply v.id (RecState.Done r)) d (waiting c) none at put

    has : is_branch_of (waiting c) v.id ≡ true
    has = ap (λ (o : Option Branch). elim o as (λ _. Bool) [ None ↦ false | Some x ↦ true ]) found

    key : key_of_branch d t v.id ≡ Some (node_key c.key)
    key = rw (current_found d t (waiting c) at tree, key_of_branch) (rw has refl)

    named : (named_by_branch d t v.id).current ≡ Some (waiting c)
    named = ap (λ (o : Option NodeKey). (elim o as (λ _. Named) [ None ↦ record { current = None; kept = None } | Some z ↦ named_by_key d z ]).current) key ∙ own_with d (waiting c) at

    same : take_done_reply who from t v.id r d ≡ transact who (TxEvent.Reply v.id (RecState.Done r)) d
    same = ap (λ (o : Option Current). if elim o as (λ _. Bool) [ None ↦ false | Some x ↦ is_committing x.phase ] then transact who (TxEvent.Reply v.id (RecState.Done r)) d else elim (named_by_branch d t v.id).kept as (λ _. Move) [ Some k ↦ keep (settled k (KeptEvent.Done from v.id r)) d | None ↦ elim o as (λ _. Move) [ Some x ↦ move [] d | None ↦ perform (forget_to from (branch_key t v.id) v.id r) d ] ]) named
