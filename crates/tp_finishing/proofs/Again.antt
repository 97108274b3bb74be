-- What a node says where it retries after a stop: all that its log still has to say.
use Rattle.std.proofs.Common.{if◌then◌else◌, ◌≡◌, inl, inr, Bool, true, false, refl, ap, sym, subst, ◌∙◌, arith, Option, Some, None, List, [], ◌∷◌, ◌++◌, ◌||◌}
use Rattle.tp_names.specs.declared.identifiers.Aaid.{Aaid}
use Rattle.tp_names.specs.declared.identifiers.Addr.{Addr}
use Rattle.tp_names.specs.declared.children.Child.{Child}
use Rattle.tp_records.specs.declared.request.Request.{Request}
use Rattle.tp_records.specs.declared.indication.Indication.{Indication}
use Rattle.tp_records.specs.declared.peer.PeerRecord.{PeerRecord}
use Rattle.tp_records.specs.declared.peer.RecState.{RecState}
use Rattle.tp_model.specs.declared.arc.Phase.{Phase}
use Rattle.tp_model.specs.declared.recovery.Kept.{Kept}
use Rattle.tp_model.specs.declared.refusal.Refusal.{Refusal}
use Rattle.tp_model.specs.declared.transaction.TxEvent.{TxEvent}
use Rattle.tp_model.specs.declared.transaction.TxOut.{TxOut}
use Rattle.tp_model.specs.Parts.{Who, Event, Out, Branch, Current, Digest}
use Rattle.tp_model.specs.Dialogues.{is_active, is_ready, is_committing, is_rolling}
use Rattle.tp_model.specs.Transactions.{aaid_of, fresh_branch, ask_each, retried}
use Rattle.tp_model.specs.Recovery.{owed, ask_owed, tell_superior, not_forgotten}
use Rattle.tp_model.specs.Node.{Move, perform, seen, seen_rows, transact}
use Rattle.tp_model.specs.Requests.{refused_request}
use Rattle.tp_model.specs.Events.{refusal, refusal_in, refused_plainly, retry, retry_each, says_nothing, is_no_node, recovered, recovered_current, named_again, after_crash}
use Rattle.tp_model.specs.World.{Node}
use Rattle.tp_model.specs.Happenings.{Happening, restarted, run}
use Rattle.tp_model.proofs.Verdicts.{plainly_not, plainly_by, none_if_accepted}
use Rattle.tp_steps.specs.Moves.{IsRecoveryIn}
use Rattle.tp_histories.specs.Histories.{IsSentIn}
use Rattle.tp_finishing.specs.Doubt.{known_of}
use Rattle.tp_finishing.specs.Again.{tells_to_commit, speaks_of_whole, AreOrdered, AreOwed, IsSpokenOf, AreSpokenOf, SaysAgain, LostIsSaidAgain}
use Rattle.tp_finishing.proofs.Retries.{plain_owed, plain_sent, sent_first, sent_second, says_of_current, asks_superior, retry_turn}
use Rattle.tp_finishing.proofs.Stops.{stopped_is}

-- ---- a node that stopped and is declared again

abbrev again : Digest → Option Addr → Digest
again d s = record (after_crash d) { declared = true; superior = s }

again_current : (d : Digest) (s : Option Addr) (c : Current) → d.current ≡ Some c → (is_ready c.phase || is_committing c.phase) ≡ true → (again d s).current ≡ Some (recovered c.key c.phase (named_again c.branches) c.decision)
unfolding after_crash
again_current d s c at h = ap recovered_current at ∙ rw h refl

again_none : (d : Digest) (s : Option Addr) (c : Current) → d.current ≡ Some c → (is_active c.phase || is_rolling c.phase) ≡ true → (again d s).current ≡ None
unfolding after_crash
again_none d s c at h = ap recovered_current at ∙ rw (off c.phase h) refl
  where
    off : (p : Phase) → (is_active p || is_rolling p) ≡ true → (is_ready p || is_committing p) ≡ false
    off p i = grind (arith, i)

again_arcs : (d : Digest) (s : Option Addr) → (again d s).arcs ≡ []
unfolding after_crash
again_arcs d s = refl

again_kept : (d : Digest) (s : Option Addr) → (again d s).kept ≡ not_forgotten d.kept
unfolding after_crash
again_kept d s = refl

-- ---- what it says of what it commits

abbrev started_again : Current → Current
started_again c = recovered c.key Phase.Committing (named_again c.branches) c.decision

committing_is : (c : Current) → is_committing c.phase ≡ true → recovered c.key c.phase (named_again c.branches) c.decision ≡ started_again c
committing_is c h = ap (λ (p : Phase). recovered c.key p (named_again c.branches) c.decision) (phase c.phase h)
  where
    phase : (p : Phase) → is_committing p ≡ true → p ≡ Phase.Committing
    phase Phase.Committing i = refl
    phase p i = absurd (grind (arith, i))

told_first : (xs ys : List Out) → tells_to_commit xs ≡ true → tells_to_commit (xs ++ ys) ≡ true
told_first [] ys h = absurd (cc (h))
told_first (Out.Tell Indication.Commit ∷ xs) ys h = refl
told_first (x ∷ xs) ys h = let rest = told_first xs ys in grind (arith, h, rest)

tells : (who : Who) (d : Digest) (c : Current) → d.current ≡ Some (started_again c) → tells_to_commit (retry who d).outs ≡ true
unfolding retry
tells who d c at =
    told_first (transact who TxEvent.Retry d).outs (retry_each (transact who TxEvent.Retry d).next.kept (transact who TxEvent.Retry d).next).outs
    (subst (λ (m : Move). tells_to_commit m.outs ≡ true) (sym (retry_turn who d (started_again c) at refl)) refl)

in_second : (xs ys : List TxOut) (a : Addr) (r : PeerRecord) → IsRecoveryIn ys a r → IsRecoveryIn (xs ++ ys) a r
in_second [] ys a r h = h
in_second (TxOut.Tell i ∷ xs) ys a r h = in_second xs ys a r h
in_second (TxOut.Carry p w ∷ xs) ys a r h = in_second xs ys a r h
in_second (TxOut.Shut p ∷ xs) ys a r h = in_second xs ys a r h
in_second (TxOut.Recovery b w ∷ xs) ys a r h = inr (in_second xs ys a r h)
in_second (TxOut.Close p ∷ xs) ys a r h = in_second xs ys a r h

in_first : (xs ys : List TxOut) (a : Addr) (r : PeerRecord) → IsRecoveryIn xs a r → IsRecoveryIn (xs ++ ys) a r
in_first [] ys a r h = absurd h
in_first (TxOut.Tell i ∷ xs) ys a r h = in_first xs ys a r h
in_first (TxOut.Carry p w ∷ xs) ys a r h = in_first xs ys a r h
in_first (TxOut.Shut p ∷ xs) ys a r h = in_first xs ys a r h
in_first (TxOut.Recovery b w ∷ xs) ys a r (inl h) = inl h
in_first (TxOut.Recovery b w ∷ xs) ys a r (inr h) = inr (in_first xs ys a r h)
in_first (TxOut.Close p ∷ xs) ys a r h = in_first xs ys a r h

-- what is said of each, where more is said before
ordered_in : (outs : List Out) (t : Aaid) (bs : List Branch) → ((a : Addr) (r : PeerRecord) → IsRecoveryIn (ask_each t (seen_rows [] (named_again bs))) a r → IsSentIn outs a r) → AreOrdered outs t bs
ordered_in outs t [] said = tt
ordered_in outs t (b ∷ bs) said = go b.left said (ordered_in outs t bs)
  where
    go : (v : Bool) → ((a : Addr) (r : PeerRecord) → IsRecoveryIn (ask_each t (seen_rows [] (if v then named_again bs else fresh_branch (record { addr = b.peer; branch = b.id }) ∷ named_again bs))) a r → IsSentIn outs a r)
        → (((a : Addr) (r : PeerRecord) → IsRecoveryIn (ask_each t (seen_rows [] (named_again bs))) a r → IsSentIn outs a r) → AreOrdered outs t bs) → (v ≡ false → IsSentIn outs b.peer (PeerRecord.RecCommit t b.id)) × AreOrdered outs t bs
    go true k rest = (λ off. absurd (cc (off)), rest k)
    go false k rest = (λ off. k b.peer (PeerRecord.RecCommit t b.id) (inl (refl, refl)), rest (λ a r i. k a r (inr i)))

orders : (who : Who) (d : Digest) (c : Current) → d.arcs ≡ [] → d.current ≡ Some (started_again c) → AreOrdered (retry who d).outs (aaid_of c.key) c.branches
orders who d c none at = ordered_in (retry who d).outs (aaid_of c.key) c.branches (λ a r i. says_of_current who d (started_again c) a r at refl (subst (λ (arcs : List _). IsRecoveryIn (retried (seen who arcs (started_again c))) a r) (sym none) i))

-- ---- what it says of what it keeps

each_first : (k : Kept) (ks : List Kept) (d : Digest) (a : Addr) (r : PeerRecord) → IsRecoveryIn (owed k) a r → IsSentIn (retry_each (k ∷ ks) d).outs a r
each_first k ks d a r i = sent_first (perform (owed k) d).outs (retry_each ks (perform (owed k) d).next).outs a r (plain_sent d.arcs (owed k) a r (plain_owed k) i)

owed_in : (outs : List Out) (t : Aaid) (cs : List Child) → ((a : Addr) (r : PeerRecord) → IsRecoveryIn (ask_owed t cs) a r → IsSentIn outs a r) → AreOwed outs t cs
owed_in outs t [] said = tt
owed_in outs t (c ∷ cs) said = (said c.addr (PeerRecord.RecCommit t c.branch) (inl (refl, refl)), owed_in outs t cs (λ a r i. said a r (inr i)))

spoken : (outs : List Out) (k : Kept) → ((a : Addr) (r : PeerRecord) → IsRecoveryIn (owed (record k { forgot = false })) a r → IsSentIn outs a r) → IsSpokenOf outs k
unfolding owed
spoken outs k said side = (
  owed_in outs k.key.aaid k.owed (λ a r i. said a r (subst (λ (b : Bool). IsRecoveryIn (if b then ask_owed k.key.aaid k.owed ++ tell_superior (record k { forgot = false }) else []) a r) (sym side) (in_first (ask_owed k.key.aaid k.owed) (tell_superior (record k { forgot = false })) a r i))),
  λ b a branch up. said a (PeerRecord.RecReply k.key.aaid b (RecState.Done k.report)) (subst (λ (v : Bool). IsRecoveryIn (if v then ask_owed k.key.aaid k.owed ++ tell_superior (record k { forgot = false }) else []) a (PeerRecord.RecReply k.key.aaid b (RecState.Done k.report))) (sym side)
      (in_second (ask_owed k.key.aaid k.owed) (tell_superior (record k { forgot = false })) a (PeerRecord.RecReply k.key.aaid b (RecState.Done k.report)) (rw (branch, up) (inl (refl, refl))))),
)

spoken_each : (outs : List Out) (ks : List Kept) (d : Digest) → ((a : Addr) (r : PeerRecord) → IsSentIn (retry_each (not_forgotten ks) d).outs a r → IsSentIn outs a r) → AreSpokenOf outs ks
spoken_each outs [] d said = tt
spoken_each outs (k ∷ ks) d said = (
  spoken outs k (λ a r i. said a r (each_first (record k { forgot = false }) (not_forgotten ks) d a r i)),
  spoken_each outs ks (perform (owed (record k { forgot = false })) d).next (λ a r i. said a r (sent_second (perform (owed (record k { forgot = false })) d).outs (retry_each (not_forgotten ks) (perform (owed (record k { forgot = false })) d).next).outs a r i)),
)

transact_kept : (who : Who) (d : Digest) → (transact who TxEvent.Retry d).next.kept ≡ d.kept
unfolding transact
transact_kept who d = grind arith

keeps : (who : Who) (d : Digest) (ks : List Kept) → (transact who TxEvent.Retry d).next.kept ≡ not_forgotten ks → AreSpokenOf (retry who d).outs ks
unfolding retry
keeps who d ks i =
    spoken_each (retry who d).outs ks (transact who TxEvent.Retry d).next
    (λ a r k. sent_second (transact who TxEvent.Retry d).outs (retry_each (transact who TxEvent.Retry d).next.kept (transact who TxEvent.Retry d).next).outs a r (subst (λ (l : List Kept). IsSentIn (retry_each l (transact who TxEvent.Retry d).next).outs a r) (sym i) k))

-- ---- it is taken

retry_ok : (who : Who) (d : Digest) → d.declared ≡ true → says_nothing (retry who d).outs ≡ false → refusal who d Event.Retry ≡ None
retry_ok who d on says =
    let node : is_no_node d ≡ false = rw on refl in
    let plain : refused_plainly who d Event.Retry ≡ None = rw (node, says, refused_plainly) refl in
    none_if_accepted who d Event.Retry (plainly_not who d Event.Retry plain)

-- ---- a node without a transaction says that there is none

hears_none : (who : Who) (d : Digest) (r : Request) → d.declared ≡ true → d.current ≡ None → speaks_of_whole r ≡ true → refusal who d (Event.Do r) ≡ Some Refusal.NoTransaction
unfolding refusal refused_request
hears_none who d r on none is = ap refusal_in (plainly_by who d (Event.Do r) Refusal.NoTransaction (plain r is))
  where
    node : is_no_node d ≡ false
    node = rw on refl

    by : (q : Request) → refused_request who d q ≡ Some Refusal.NoTransaction → refused_plainly who d (Event.Do q) ≡ Some Refusal.NoTransaction
    by q same = rw (node, on, same, refused_plainly) refl

    plain : (q : Request) → speaks_of_whole q ≡ true → refused_plainly who d (Event.Do q) ≡ Some Refusal.NoTransaction
    plain Request.Commit h = by Request.Commit (rw none refl)
    plain Request.Done h = by Request.Done (rw none refl)
    plain Request.Rollback h = by Request.Rollback (rw none refl)
    plain Request.Unchanged h = by Request.Unchanged (rw none refl)
    plain q h = absurd (cc (h))

-- ---- every node

says : (x : Node) → SaysAgain x
says x = record {
  told = λ c at phase. on (λ (z : Digest). tells_to_commit (retry w z).outs ≡ true) (tells w e c (again_current d x.superior c at (either c.phase phase) ∙ ap (λ (u : Current). Some u) (committing_is c phase)));
  ordered = λ c at phase. on (λ (z : Digest). AreOrdered (retry w z).outs (aaid_of c.key) c.branches) (orders w e c (again_arcs d x.superior) (again_current d x.superior c at (either c.phase phase) ∙ ap (λ (u : Current). Some u) (committing_is c phase)));
  asked = λ c t b a at phase key. on (λ (z : Digest). IsSentIn (retry w z).outs a (PeerRecord.RecReady t b)) (asks_superior w e (recovered c.key c.phase (named_again c.branches) c.decision) t b a (again_current d x.superior c at (rw phase refl)) phase key);
  kept = on (λ (z : Digest). AreSpokenOf (retry w z).outs d.kept) (keeps w e d.kept (transact_kept w e ∙ again_kept d x.superior));
  taken = λ some. on (λ (z : Digest). says_nothing (retry w z).outs ≡ false → refusal w z Event.Retry ≡ None) (λ s. retry_ok w e refl s) some;
  gone = λ c at phase. ap (λ (z : Digest). z.current) same ∙ again_none d x.superior c at phase;
  heard = on (λ (z : Digest). z.current ≡ None → (r : Request) → speaks_of_whole r ≡ true → refusal w z (Event.Do r) ≡ Some Refusal.NoTransaction) (λ none r is. hears_none w e r refl none is);
}
  where
    w : Who
    w = x.origin.who

    d : Digest
    d = known_of x

    e : Digest
    e = again d x.superior

    same : known_of (restarted x) ≡ e
    same = stopped_is x.origin x.history x.superior

    on : (P : Digest → Type 0) → P e → P (known_of (restarted x))
    on P h = subst P (sym same) h

    either : (p : Phase) → is_committing p ≡ true → (is_ready p || is_committing p) ≡ true
    either p h = grind (arith, h)

pub lost_is_said_again : (es : List Happening) → LostIsSaidAgain (run es)
lost_is_said_again es x here = says x
