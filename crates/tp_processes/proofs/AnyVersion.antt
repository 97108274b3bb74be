-- What a node does of an event is the same in each version of its log.
use Rattle.std.proofs.Common.{◌≡◌, ◌&&◌, ℕ, not, Bool, true, false, refl, ap, ◌∙◌, Option, Some, None, List, [], ◌∷◌, ◌++◌, if◌then◌else◌, arith}
use Rattle.tp_names.specs.declared.identifiers.Mark.{Mark}
use Rattle.tp_names.specs.declared.identifiers.Aaid.{Aaid}
use Rattle.tp_names.specs.declared.identifiers.Addr.{Addr}
use Rattle.tp_names.specs.declared.identifiers.BranchId.{BranchId}
use Rattle.tp_names.specs.declared.identifiers.NodeKey.{NodeKey}
use Rattle.tp_names.specs.declared.outcome.Report.{Report}
use Rattle.tp_records.specs.declared.dialogue.DialogueRecord.{DialogueRecord}
use Rattle.tp_records.specs.declared.dialogue.Holder.{Holder}
use Rattle.tp_records.specs.declared.indication.Indication.{Indication}
use Rattle.tp_records.specs.declared.peer.PeerRecord.{PeerRecord}
use Rattle.tp_records.specs.declared.peer.RecState.{RecState}
use Rattle.tp_records.specs.declared.request.Request.{Request}
use Rattle.tp_logrec.specs.declared.record.LogVersion.{LogVersion}
use Rattle.tp_model.specs.declared.arc.Side.{Side}
use Rattle.tp_model.specs.declared.recovery.Kept.{Kept}
use Rattle.tp_model.specs.declared.recovery.KeptEvent.{KeptEvent}
use Rattle.tp_model.specs.declared.recovery.Question.{Question}
use Rattle.tp_model.specs.declared.transaction.TxEvent.{TxEvent}
use Rattle.tp_model.specs.declared.transaction.TxOut.{TxOut}
use Rattle.tp_model.specs.Parts.{Who, Event, Out, Root, Under, Live, Arc, Current, Digest}
use Rattle.tp_model.specs.Dialogues.{is_nil, is_active, is_committing, is_chained, Sight, Acts, Nothing_happens, Out_of_phase, fresh_dialogue, begun_by, woken}
use Rattle.tp_model.specs.Arcs.{find_arc, put_arc, without_arc, with_dialogue, with_link}
use Rattle.tp_model.specs.Links.{with_one_taken}
use Rattle.tp_model.specs.Transactions.{Transaction, Turn, transacted}
use Rattle.tp_model.specs.Recovery.{settled, noted, find_kept, with_forget, owed, forget_to, kept_after, recovery_answer}
use Rattle.tp_model.specs.Node.{Move, move, followed, perform, keep, next_mark, with_mark_drawn, may_root, phase_of, has_asked, seen, remaining, situation_at, Passage, Stays, Enters, Falls, Falls_at_once, Commits, Rolls_back, Leaves, is_over, entered, played, fresh_current, begin_on, begin_each, is_chained_below, chained_from, chained_peers, begin_chained, start_root, has_none, try_start, started_next, turned, passed, transact}
use Rattle.tp_model.specs.Requests.{call, accept, reject, abort, begin_transaction, do_request}
use Rattle.tp_model.specs.Arrivals.{Named, branch_key, named_by_key, named_by_branch, known_of, is_current_ready, sight_of, take_begin, lose, take_abort, take_record, is_response, sight_at, woken_by, take_on, take_accept, take_shut, reply_to, take_order, take_forget, take_done_reply, take_ready_reply, take_reply, do_arrival, broken_pair, break_off}
use Rattle.tp_model.specs.Events.{retry_each, retry, purge, after_crash, action}

-- a node whose log is of this version, and is as it is else
abbrev pub at : LogVersion → Digest → Digest
at v d = record d { version = v }

abbrev pub leaves : LogVersion → Move → Move
leaves v m = record m { next = at v m.next }

-- the rule does the same in each version
abbrev pub IsSame : (Digest → Move) → Type 0
IsSame f = (v : LogVersion) (d : Digest) → f (at v d) ≡ leaves v (f d)

-- ---- rules that are made of others

follows : (a : Move) (f : Digest → Move) (v : LogVersion) → f (at v a.next) ≡ leaves v (f a.next) → followed (leaves v a) f ≡ leaves v (followed a f)
follows a f v same = ap (λ (b : Move). let m : Move = record { rec = elim b.rec [ None ↦ a.rec | Some r ↦ Some r ]; outs = a.outs ++ b.outs; next = b.next } in m) same

both_same : (a f : Digest → Move) → IsSame a → IsSame f → IsSame (λ d. followed (a d) f)
both_same a f p q v d = ap (λ (m : Move). followed m f) (p v d) ∙ follows (a d) f v (q v (a d).next)

if_same : (b : Bool) (v : LogVersion) (x y m n : Move) → x ≡ leaves v m → y ≡ leaves v n → (if b then x else y) ≡ leaves v (if b then m else n)
if_same true v x y m n p q = p
if_same false v x y m n p q = q

option_same : {A : Type 0} (o : Option A) (v : LogVersion) (x m : Move) (f g : A → Move) → x ≡ leaves v m → ((a : A) → f a ≡ leaves v (g a))
    → elim o as (λ _. Move) [ None ↦ x | Some a ↦ f a ] ≡ leaves v (elim o as (λ _. Move) [ None ↦ m | Some a ↦ g a ])
option_same None v x m f g p q = p
option_same (Some a) v x m f g p q = q a

-- ---- transactions begin

begins_on : (who : Who) (p : ℕ) → IsSame (begin_on who p)
unfolding begin_on
begins_on who p v d = grind arith

begins_each : (who : Who) (ps : List ℕ) → IsSame (begin_each who ps)
begins_each who [] v d = refl
begins_each who (p ∷ ps) v d = both_same (begin_on who p) (begin_each who ps) (begins_on who p) (begins_each who ps) v d

chained : (who : Who) (v : LogVersion) (d : Digest) (arcs : List Arc) → chained_from who (at v d) arcs ≡ chained_from who d arcs
chained who v d [] = refl
chained who v d (a ∷ arcs) = ap (λ (ps : List ℕ). if is_chained_below who d a then a.peer.node ∷ ps else ps) (chained who v d arcs)

begins_chained : (who : Who) → IsSame (begin_chained who)
begins_chained who v d = ap (λ (ps : List ℕ). begin_each who ps (at v d)) (chained who v d d.arcs) ∙ begins_each who (chained_peers who d) v d

abbrev rooted : Who → Digest → Digest
rooted who d = record (with_mark_drawn d) { current = Some (fresh_current (Root (record { owner = who.site; mark = next_mark who d }))) }

starts_root : (who : Who) (named : List ℕ) → IsSame (start_root who named)
unfolding start_root
starts_root who named v d = both_same (λ e. begin_each who named (rooted who e)) (begin_chained who) (λ u e. begins_each who named u (rooted who e)) (begins_chained who) v d

abbrev may_start : Digest → List ℕ → Bool
may_start d ps = is_nil (phase_of d) && may_root d && not (has_none ps)

tries : (who : Who) → IsSame (try_start who)
unfolding try_start
tries who v d =
    ap (λ (ps : List ℕ). if may_start d ps then start_root who [] (at v d) else move [] (at v d)) (chained who v d d.arcs)
    ∙ if_same (may_start d (chained_peers who d)) v (start_root who [] (at v d)) (move [] (at v d)) (start_root who [] d) (move [] d) (starts_root who [] v d) refl

-- ---- an event of the current transaction

plays : (v : LogVersion) (d : Digest) (t : Transaction) (w : Passage) (a : Turn) (arcs : List Arc) → played (at v d) t w a arcs ≡ played d t w a arcs
unfolding played
plays v d t Stays a arcs = refl
plays v d t Enters a arcs = refl
plays v d t Falls a arcs = refl
plays v d t Falls_at_once a arcs = refl
plays v d t Commits a arcs = refl
plays v d t Rolls_back a arcs = refl
plays v d t Leaves a arcs = refl

turns : (who : Who) (e : TxEvent) (v : LogVersion) (d : Digest) (c : Current) → turned who e (at v d) c ≡ leaves v (turned who e d c)
turns who e v d c = ap made (plays v d t w a (entered t w d.arcs))
  where
    t : Transaction
    t = seen who d.arcs c

    a : Turn
    a = transacted e t

    w : Passage
    w = passed who e d c

    made : List Arc × List Out → Move
    made p = record { rec = a.rec; outs = p.1; next = record (at v d) { arcs = p.0; current = remaining a.next; kept = kept_after a.rec d.kept } }

next_starts : (who : Who) (w : Passage) (v : LogVersion) (m : Move) → started_next who w (leaves v m) ≡ leaves v (started_next who w m)
next_starts who w v m = if_same (is_over w) v (followed (leaves v m) (try_start who)) (leaves v m) (followed m (try_start who)) m (follows m (try_start who) v (tries who v m.next)) refl

transacts : (who : Who) (e : TxEvent) → IsSame (transact who e)
unfolding transact
transacts who e v d =
    option_same d.current v (move [] (at v d)) (move [] d) (λ c. started_next who (passed who e d c) (turned who e (at v d) c)) (λ c. started_next who (passed who e d c) (turned who e d c)) refl
    (λ c. ap (started_next who (passed who e d c)) (turns who e v d c) ∙ next_starts who (passed who e d c) v (turned who e d c))

-- ---- requests

calls : (who : Who) (a : Addr) (u : ℕ) → IsSame (call who a u)
unfolding call
calls who a u v d = refl

accepts : (who : Who) (u : ℕ) → IsSame (accept who u)
unfolding accept
accepts who u v d = grind arith

rejects : IsSame reject
unfolding reject
rejects v d = grind arith

aborts : (who : Who) (p : ℕ) → IsSame (abort who p)
unfolding abort
aborts who p v d =
    if_same (situation_at who d p).branch v (transact who (TxEvent.User (Request.UAbort p)) (at v d)) (ends (at v d)) (transact who (TxEvent.User (Request.UAbort p)) d) (ends d) (transacts who (TxEvent.User (Request.UAbort p)) v d) refl
  where
    ends : Digest → Move
    ends e = perform (TxOut.Carry p DialogueRecord.UAbort ∷ TxOut.Close p ∷ []) e

begins : (who : Who) (p : ℕ) → IsSame (begin_transaction who p)
unfolding begin_transaction
begins who p v d =
    option_same d.current v (start_root who (p ∷ []) (at v d)) (start_root who (p ∷ []) d) (λ c. begin_on who p (at v d)) (λ c. begin_on who p d) (starts_root who (p ∷ []) v d) (λ c. begins_on who p v d)

requests : (who : Who) (r : Request) → IsSame (do_request who r)
requests who (Request.BeginDialogue a u) v d = calls who a u v d
requests who (Request.Accept u) v d = accepts who u v d
requests who Request.Reject v d = rejects v d
requests who (Request.EndDialogue p) v d = refl
requests who (Request.UserData p xs) v d = refl
requests who (Request.UError p) v d = refl
requests who (Request.UAbort p) v d = aborts who p v d
requests who (Request.Grant p) v d = refl
requests who (Request.AskControl p) v d = refl
requests who (Request.Handshake p) v d = refl
requests who (Request.Respond p) v d = refl
requests who (Request.HandshakeGrant p) v d = refl
requests who (Request.BeginTransaction p) v d = begins who p v d
requests who (Request.DeferEnd p) v d = transacts who (TxEvent.User (Request.DeferEnd p)) v _
requests who (Request.DeferGrant p) v d = transacts who (TxEvent.User (Request.DeferGrant p)) v _
requests who (Request.Prepare p) v d = transacts who (TxEvent.User (Request.Prepare p)) v d
requests who Request.Commit v d = transacts who (TxEvent.User Request.Commit) v d
requests who Request.Done v d = transacts who (TxEvent.User Request.Done) v d
requests who Request.Rollback v d = transacts who (TxEvent.User Request.Rollback) v d
requests who Request.Unchanged v d = transacts who (TxEvent.User Request.Unchanged) v d

-- ---- records on an association

takes_begin : (who : Who) (a : Arc) (t : Aaid) (b : BranchId) (h : Holder) → IsSame (take_begin who a t b h)
unfolding take_begin
takes_begin who a t b h v d = follows (told d) (begin_chained who) v (begins_chained who v (told d).next)
  where
    told : Digest → Move
    told e =
        perform
        (TxOut.Tell (Indication.BeginTransaction a.peer.node t) ∷ [])
        (record e { arcs = with_dialogue e.arcs a.peer.node (begun_by h Side.Subordinate); current = Some (fresh_current (Under t b a.peer)) })

abbrev without : ℕ → Digest → Digest
without p d = record d { arcs = without_arc d.arcs p }

pub loses : (who : Who) (p : ℕ) → IsSame (lose who p)
unfolding lose
loses who p v d =
    option_same d.current v (perform (TxOut.Tell (Indication.PAbort p) ∷ []) (without p (at v d))) (perform (TxOut.Tell (Indication.PAbort p) ∷ []) (without p d))
    (λ c. transact who (TxEvent.Lost p) (without p (at v d))) (λ c. transact who (TxEvent.Lost p) (without p d)) refl (λ c. transacts who (TxEvent.Lost p) v (without p d))

takes_abort : (who : Who) (p : ℕ) → IsSame (take_abort who p)
unfolding take_abort
takes_abort who p v d =
    option_same d.current v (perform (TxOut.Tell (Indication.UAbort p) ∷ []) (without p (at v d))) (perform (TxOut.Tell (Indication.UAbort p) ∷ []) (without p d))
    (λ c. transact who (TxEvent.Took p DialogueRecord.UAbort) (without p (at v d))) (λ c. transact who (TxEvent.Took p DialogueRecord.UAbort) (without p d)) refl
    (λ c. transacts who (TxEvent.Took p DialogueRecord.UAbort) v (without p d))

takes : (who : Who) (a : Arc) (r : DialogueRecord) → IsSame (take_record who a r)
takes who a DialogueRecord.EndDialogue v d = refl
takes who a (DialogueRecord.UserData xs) v d = refl
takes who a DialogueRecord.UError v d = refl
takes who a DialogueRecord.UAbort v d = takes_abort who a.peer.node v d
takes who a DialogueRecord.Grant v d = refl
takes who a DialogueRecord.AskControl v d = refl
takes who a DialogueRecord.Handshake v d = refl
takes who a DialogueRecord.HandshakeGrant v d = refl
takes who a DialogueRecord.Response v d = refl
takes who a DialogueRecord.DeferEnd v d = transacts who (TxEvent.Took a.peer.node DialogueRecord.DeferEnd) v _
takes who a DialogueRecord.DeferGrant v d = transacts who (TxEvent.Took a.peer.node DialogueRecord.DeferGrant) v _
takes who a (DialogueRecord.Begin t b h) v d = takes_begin who a t b h v d
takes who a DialogueRecord.Prepare v d = transacts who (TxEvent.Took a.peer.node DialogueRecord.Prepare) v d
takes who a DialogueRecord.Ready v d = transacts who (TxEvent.Took a.peer.node DialogueRecord.Ready) v d
takes who a DialogueRecord.Commit v d = transacts who (TxEvent.Took a.peer.node DialogueRecord.Commit) v d
takes who a (DialogueRecord.Done r) v d = transacts who (TxEvent.Took a.peer.node (DialogueRecord.Done r)) v d
takes who a DialogueRecord.Rollback v d = transacts who (TxEvent.Took a.peer.node DialogueRecord.Rollback) v d
takes who a (DialogueRecord.RolledBack r) v d = transacts who (TxEvent.Took a.peer.node (DialogueRecord.RolledBack r)) v d
takes who a DialogueRecord.Left v d = transacts who (TxEvent.Took a.peer.node DialogueRecord.Left) v _
takes who a DialogueRecord.LeftEnd v d = transacts who (TxEvent.Took a.peer.node DialogueRecord.LeftEnd) v _

sees : (who : Who) (v : LogVersion) (d : Digest) (a : Arc) (r : DialogueRecord) → sight_of who (at v d) a r ≡ sight_of who d a r
unfolding sight_of
sees who v d a DialogueRecord.EndDialogue = refl
sees who v d a (DialogueRecord.UserData xs) = refl
sees who v d a DialogueRecord.UError = refl
sees who v d a DialogueRecord.UAbort = refl
sees who v d a DialogueRecord.Grant = refl
sees who v d a DialogueRecord.AskControl = refl
sees who v d a DialogueRecord.Handshake = refl
sees who v d a DialogueRecord.HandshakeGrant = refl
sees who v d a DialogueRecord.Response = refl
sees who v d a DialogueRecord.DeferEnd = refl
sees who v d a DialogueRecord.DeferGrant = refl
sees who v d a (DialogueRecord.Begin t b h) = refl
sees who v d a DialogueRecord.Prepare = refl
sees who v d a DialogueRecord.Ready = refl
sees who v d a DialogueRecord.Commit = refl
sees who v d a (DialogueRecord.Done r) = refl
sees who v d a DialogueRecord.Rollback = refl
sees who v d a (DialogueRecord.RolledBack r) = refl
sees who v d a DialogueRecord.Left = refl
sees who v d a DialogueRecord.LeftEnd = refl

pub sees_at : (who : Who) (v : LogVersion) (d : Digest) (a : Arc) (r : DialogueRecord) → sight_at who (at v d) a r ≡ sight_at who d a r
sees_at who v d a r = ap (λ (s : Sight). if a.dialogue.rests && is_response r then Nothing_happens else s) (sees who v d a r)

wakes : (r : DialogueRecord) (p : ℕ) (v : LogVersion) (d : Digest) → woken_by r p (at v d) ≡ at v (woken_by r p d)
wakes r p v d = by (is_response r)
  where
    by : (b : Bool) → (if b then at v d else record (at v d) { arcs = with_dialogue d.arcs p woken }) ≡ at v (if b then d else record d { arcs = with_dialogue d.arcs p woken })
    by true = refl
    by false = refl

abbrev taken_by : Who → Arc → DialogueRecord → Digest → Sight → Move
taken_by who a r d s = elim s as (λ _. Move) [ Acts ↦ take_record who a r d | Nothing_happens ↦ move [] d | Out_of_phase ↦ move [] d ]

abbrev linked : Arc → Digest → Digest
linked a d = record d { arcs = with_link d.arcs a.peer.node with_one_taken }

takes_on : (who : Who) (a : Arc) (r : DialogueRecord) → IsSame (take_on who a r)
takes_on who a r v d =
    ap (taken_by who a r (woken_by r a.peer.node (linked a (at v d)))) (sees_at who v d a r)
    ∙ ap (λ (e : Digest). taken_by who a r e (sight_at who d a r)) (wakes r a.peer.node v (linked a d))
    ∙ by (sight_at who d a r) (woken_by r a.peer.node (linked a d))
  where
    by : (s : Sight) (e : Digest) → taken_by who a r (at v e) s ≡ leaves v (taken_by who a r e s)
    by Acts e = takes who a r v e
    by Nothing_happens e = refl
    by Out_of_phase e = refl

-- ---- other records

abbrev on_live : Who → ℕ → ℕ → Digest → Move
on_live who p u e =
    if not (is_chained (fresh_dialogue u Side.Superior)) then move [] e
    else if is_nil (phase_of e) then try_start who e
    else if is_active (phase_of e) && not (has_asked e) then begin_on who p e
    else move [] e

on_lives : (who : Who) (p u : ℕ) → IsSame (on_live who p u)
on_lives who p u v e =
    if_same (not (is_chained (fresh_dialogue u Side.Superior))) v _ _ _ _ refl
    (if_same (is_nil (phase_of e)) v _ _ _ _ (tries who v e) (if_same (is_active (phase_of e) && not (has_asked e)) v _ _ _ _ (begins_on who p v e) refl))

takes_accept : (who : Who) (a : Arc) (x y : Mark) (u : ℕ) → IsSame (take_accept who a x y u)
unfolding take_accept
takes_accept who a x y u v d = follows (told d) (on_live who a.peer.node u) v (on_lives who a.peer.node u v (told d).next)
  where
    told : Digest → Move
    told e =
        perform
        (TxOut.Tell (Indication.BegunDialogue a.peer.node u) ∷ [])
        (record e { arcs = put_arc e.arcs (record a { link = Live x y 0 0; dialogue = fresh_dialogue u Side.Superior }) })

takes_shut : (who : Who) (p : ℕ) (y : Option Mark) → IsSame (take_shut who p y)
takes_shut who p None v d = refl
takes_shut who p (Some y) v d = loses who p v d

replies : (from : Addr) (t : Aaid) (b : BranchId) (s : Option RecState) → IsSame (reply_to from t b s)
replies from t b None v d = refl
replies from t b (Some s) v d = refl

takes_order : (who : Who) (from : Addr) (t : Aaid) (b : BranchId) → IsSame (take_order who from t b)
takes_order who from t b v d =
    if_same (is_current_ready n) v (transact who TxEvent.Ordered (at v d)) (reply_to from t b s (at v d)) (transact who TxEvent.Ordered d) (reply_to from t b s d) (transacts who TxEvent.Ordered v d) (replies from t b s v d)
  where
    n : Named
    n = named_by_key d (branch_key t b)

    s : Option RecState
    s = recovery_answer (known_of n b) Question.RecCommit

takes_forget : (k : NodeKey) → IsSame (take_forget k)
takes_forget k v d = option_same (find_kept d.kept k) v (move [] (at v d)) (move [] d) (forgets (at v d)) (forgets d) refl (λ x. refl)
  where
    forgets : Digest → Kept → Move
    forgets e x = keep (settled x KeptEvent.Forget) (record e { kept = with_forget e.kept k (λ y. noted y KeptEvent.Forget) })

takes_done : (who : Who) (from : Addr) (t : Aaid) (b : BranchId) (r : Report) → IsSame (take_done_reply who from t b r)
takes_done who from t b r v d =
    if_same (elim n.current [ None ↦ false | Some c ↦ is_committing c.phase ]) v (transact who (TxEvent.Reply b (RecState.Done r)) (at v d)) (later (at v d)) (transact who (TxEvent.Reply b (RecState.Done r)) d) (later d)
    (transacts who (TxEvent.Reply b (RecState.Done r)) v d)
    (option_same n.kept v (gone (at v d)) (gone d) (λ k. keep (settled k (KeptEvent.Done from b r)) (at v d)) (λ k. keep (settled k (KeptEvent.Done from b r)) d)
    (option_same n.current v (forgets (at v d)) (forgets d) (λ c. move [] (at v d)) (λ c. move [] d) refl (λ c. refl)) (λ k. refl))
  where
    n : Named
    n = named_by_branch d t b

    forgets : Digest → Move
    forgets e = perform (forget_to from (branch_key t b) b r) e

    gone : Digest → Move
    gone e = elim n.current as (λ _. Move) [ Some c ↦ move [] e | None ↦ forgets e ]

    later : Digest → Move
    later e = elim n.kept as (λ _. Move) [ Some k ↦ keep (settled k (KeptEvent.Done from b r)) e | None ↦ gone e ]

takes_ready : (who : Who) (t : Aaid) (b : BranchId) (s : RecState) → IsSame (take_ready_reply who t b s)
takes_ready who t b s v d =
    if_same (is_current_ready (named_by_key d (branch_key t b))) v (transact who (TxEvent.Reply b s) (at v d)) (move [] (at v d)) (transact who (TxEvent.Reply b s) d) (move [] d) (transacts who (TxEvent.Reply b s) v d) refl

takes_reply : (who : Who) (from : Addr) (t : Aaid) (b : BranchId) (s : RecState) → IsSame (take_reply who from t b s)
takes_reply who from t b RecState.Commit v d = takes_ready who t b RecState.Commit v d
takes_reply who from t b (RecState.Done r) v d = takes_done who from t b r v d
takes_reply who from t b RecState.Unknown v d = takes_ready who t b RecState.Unknown v d
takes_reply who from t b RecState.RetryLater v d = takes_ready who t b RecState.RetryLater v d

arrivals : (who : Who) (from : Addr) (r : PeerRecord) → IsSame (do_arrival who from r)
arrivals who from (PeerRecord.OpenAssoc x u) v d = refl
arrivals who from (PeerRecord.AcceptAssoc x y u) v d =
    option_same (find_arc d.arcs from.node) v (move [] (at v d)) (move [] d) (λ a. take_accept who a x y u (at v d)) (λ a. take_accept who a x y u d) refl (λ a. takes_accept who a x y u v d)
arrivals who from (PeerRecord.ShutAssoc x y) v d = takes_shut who from.node y v d
arrivals who from (PeerRecord.OnAssoc x y seq r) v d =
    option_same (find_arc d.arcs from.node) v (move [] (at v d)) (move [] d) (λ a. take_on who a r (at v d)) (λ a. take_on who a r d) refl (λ a. takes_on who a r v d)
arrivals who from (PeerRecord.RecReady t b) v d = replies from t b (recovery_answer (known_of (named_by_branch d t b) b) Question.RecReady) v d
arrivals who from (PeerRecord.RecCommit t b) v d = takes_order who from t b v d
arrivals who from (PeerRecord.RecReply t b s) v d = takes_reply who from t b s v d
arrivals who from (PeerRecord.Forget t b) v d = takes_forget (branch_key t b) v d

pub breaks : (who : Who) (from : Addr) (r : PeerRecord) → IsSame (break_off who from r)
unfolding break_off
breaks who from r v d =
    option_same (broken_pair r) v (move [] (at v d)) (move [] d) (λ xy. followed (shuts xy (at v d)) (lose who from.node)) (λ xy. followed (shuts xy d) (lose who from.node)) refl
    (λ xy. follows (shuts xy d) (lose who from.node) v (loses who from.node v (shuts xy d).next))
  where
    shuts : Mark × Mark → Digest → Move
    shuts xy e = perform (TxOut.Recovery from (PeerRecord.ShutAssoc xy.0 (Some xy.1)) ∷ []) e

-- ---- local events

retries_each : (ks : List Kept) → IsSame (retry_each ks)
retries_each [] v d = refl
retries_each (k ∷ ks) v d = follows (perform (owed k) d) (retry_each ks) v (retries_each ks v (perform (owed k) d).next)

pub retries : (who : Who) → IsSame (retry who)
unfolding retry
retries who v d = both_same (transact who TxEvent.Retry) (λ e. retry_each e.kept e) (transacts who TxEvent.Retry) (λ u e. retries_each e.kept u e) v d

purges : IsSame purge
unfolding purge
purges v d = by d.kept
  where
    by : (ks : List Kept) → elim ks as (λ _. Move) [ [] ↦ move [] (at v d) | k ∷ more ↦ keep (settled k KeptEvent.Purge) (at v d) ] ≡ leaves v (elim ks as (λ _. Move) [ [] ↦ move [] d | k ∷ more ↦ keep (settled k KeptEvent.Purge) d ])
    by [] = refl
    by (k ∷ ks) = refl

crashes : (v : LogVersion) (d : Digest) → after_crash (at v d) ≡ at v (after_crash d)
unfolding after_crash
crashes v d = refl

-- ---- every event

pub acts : (who : Who) (e : Event) → IsSame (λ d. action who d e)
acts who (Event.Declare s) v d = refl
acts who (Event.Do r) v d = requests who r v d
acts who (Event.Arrive from r) v d = arrivals who from r v d
acts who (Event.Break from r) v d = breaks who from r v d
acts who (Event.Lose p) v d = loses who p v d
acts who (Event.Heur o) v d = transacts who (TxEvent.Heur o) v d
acts who (Event.GiveUp p) v d = transacts who (TxEvent.GiveUp p) v d
acts who Event.Retry v d = retries who v d
acts who Event.Purge v d = purges v d
acts who Event.Crash v d = ap (move []) (crashes v d)
