-- Declaring, deciding, asking again and letting go want no number, so that what refuses them is known before; and what an
-- event is refused by once it was tried.
use Rattle.std.proofs.Common.{◌≡◌, ◌≤◌, ℕ, Bool, true, false, ◌++◌, ◌||◌, ◌&&◌, Option, Some, None, List, [], ◌∷◌, refl, ap, sym, ◌∙◌, arith, if◌then◌else◌, nat_lt}
use Rattle.std.proofs.lemmas.Bool.Decides.{nat_tests}
use Rattle.std.proofs.lemmas.Grind.{common_steps}
use Rattle.tp_names.specs.declared.identifiers.Aaid.{Aaid}
use Rattle.tp_names.specs.declared.children.Child.{Child}
use Rattle.tp_names.specs.declared.outcome.Outcome.{Outcome}
use Rattle.tp_records.specs.declared.peer.PeerRecord.{PeerRecord}
use Rattle.tp_model.specs.declared.arc.Phase.{Phase}
use Rattle.tp_model.specs.declared.recovery.Kept.{Kept}
use Rattle.tp_model.specs.declared.transaction.TxOut.{TxOut}
use Rattle.tp_model.specs.declared.transaction.TxEvent.{TxEvent}
use Rattle.tp_model.specs.Parts.{Who, Arc, Out, Current, Digest, Event, Verdict, Declare, Do, Arrive, Lose, Heur, GiveUp, Retry, Purge}
use Rattle.tp_model.specs.Links.{greatest}
use Rattle.tp_model.specs.Arcs.{performed}
use Rattle.tp_model.specs.Dialogues.{first}
use Rattle.tp_model.specs.Transactions.{Row, Transaction, retried, ask_each, transacted, Turn}
use Rattle.tp_model.specs.Recovery.{owed, ask_owed, tell_superior, settled}
use Rattle.tp_model.specs.Node.{Move, move, followed, Passage, passage, Stays, passed, turned, transact, played, entered, seen, started_next}
use Rattle.tp_model.specs.Events.{action, refusal, verdict, retry, retry_each, purge, needs_numbers, some_past_numbers, says_nothing, is_no_node, refused_plainly, unless_missing, verdict_within, refusal_in}
use Rattle.tp_model.proofs.Verdicts.{plainly_not, plainly_by}
use Rattle.tp_node.specs.declared.event.NodeEvent.{NodeEvent}
use Rattle.tp_node.specs.NodeEvent.{event_of, refused_at_once, is_retry}
use Rattle.tp_model.specs.declared.refusal.Refusal.{Refusal}

-- ---- what goes out is an indication, or a record outside every association

abbrev is_plain_out : TxOut → Bool
is_plain_out (TxOut.Tell i) = true
is_plain_out (TxOut.Carry p r) = false
is_plain_out (TxOut.Shut p) = false
is_plain_out (TxOut.Recovery a (PeerRecord.OpenAssoc x u)) = true
is_plain_out (TxOut.Recovery a (PeerRecord.AcceptAssoc x y u)) = true
is_plain_out (TxOut.Recovery a (PeerRecord.ShutAssoc x y)) = true
is_plain_out (TxOut.Recovery a (PeerRecord.OnAssoc x y seq r)) = false
is_plain_out (TxOut.Recovery a (PeerRecord.RecReady t b)) = true
is_plain_out (TxOut.Recovery a (PeerRecord.RecCommit t b)) = true
is_plain_out (TxOut.Recovery a (PeerRecord.RecReply t b s)) = true
is_plain_out (TxOut.Recovery a (PeerRecord.Forget t b)) = true
is_plain_out (TxOut.Close p) = true

abbrev are_plain : List TxOut → Bool
are_plain [] = true
are_plain (o ∷ outs) = if is_plain_out o then are_plain outs else false

past_both : (xs ys : List Out) → some_past_numbers (xs ++ ys) ≡ (some_past_numbers xs || some_past_numbers ys)
past_both [] ys = refl
past_both (x ∷ xs) ys = grind (arith, common_steps, past_both xs ys)

plain_one : (o : TxOut) (arcs : List Arc) (outs : List TxOut) → is_plain_out o ≡ true → ((more : List Arc) → some_past_numbers (performed more outs).1 ≡ false) → some_past_numbers (performed arcs (o ∷ outs)).1 ≡ false
plain_one (TxOut.Tell i) arcs outs h rest = rest arcs
plain_one (TxOut.Carry p r) arcs outs h rest = absurd (cc (h))
plain_one (TxOut.Shut p) arcs outs h rest = absurd (cc (h))
plain_one (TxOut.Recovery a (PeerRecord.OpenAssoc x u)) arcs outs h rest = rest arcs
plain_one (TxOut.Recovery a (PeerRecord.AcceptAssoc x y u)) arcs outs h rest = rest arcs
plain_one (TxOut.Recovery a (PeerRecord.ShutAssoc x y)) arcs outs h rest = rest arcs
plain_one (TxOut.Recovery a (PeerRecord.OnAssoc x y seq r)) arcs outs h rest = absurd (cc (h))
plain_one (TxOut.Recovery a (PeerRecord.RecReady t b)) arcs outs h rest = rest arcs
plain_one (TxOut.Recovery a (PeerRecord.RecCommit t b)) arcs outs h rest = rest arcs
plain_one (TxOut.Recovery a (PeerRecord.RecReply t b s)) arcs outs h rest = rest arcs
plain_one (TxOut.Recovery a (PeerRecord.Forget t b)) arcs outs h rest = rest arcs
plain_one (TxOut.Close p) arcs outs h rest = rest _

plain_past : (outs : List TxOut) (arcs : List Arc) → are_plain outs ≡ true → some_past_numbers (performed arcs outs).1 ≡ false
plain_past [] arcs h = refl
plain_past (o ∷ outs) arcs h = plain_one o arcs outs (grind (arith, h)) (λ more. plain_past outs more (grind (arith, h)))

plain_both : (xs ys : List TxOut) → are_plain xs ≡ true → are_plain ys ≡ true → are_plain (xs ++ ys) ≡ true
plain_both [] ys h i = i
plain_both (x ∷ xs) ys h i = let rest = plain_both xs ys (grind (arith, h)) i in grind (arith, h, rest)

-- ---- asking again

plain_asks : (a : Aaid) (rows : List Row) → are_plain (ask_each a rows) ≡ true
plain_asks a [] = refl
plain_asks a (r ∷ rows) = grind (arith, plain_asks a rows)

plain_owed_asks : (a : Aaid) (cs : List Child) → are_plain (ask_owed a cs) ≡ true
plain_owed_asks a [] = refl
plain_owed_asks a (c ∷ cs) = plain_owed_asks a cs

plain_retried : (t : Transaction) → are_plain (retried t) ≡ true
plain_retried t = let a = plain_asks in grind (arith, common_steps, a, plain_both)

plain_superior : (k : Kept) → are_plain (tell_superior k) ≡ true
plain_superior k = grind (arith, common_steps)

plain_owed : (k : Kept) → are_plain (owed k) ≡ true
unfolding owed
plain_owed k = let a = plain_owed_asks in let b = plain_superior k in grind (arith, common_steps, a, b, plain_both)

-- ---- the events

within : (n : ℕ) → n ≤ greatest → (nat_lt greatest n || false) ≡ false
within n h = grind (arith, nat_tests, h)

both_false : (a b : Bool) → (a || false) ≡ false → b ≡ false → (a || b) ≡ false
both_false a b h i = grind (arith, h, i)

-- what a transaction says plainly, staying in its phase
turned_quiet : (who : Who) (e : TxEvent) (d : Digest) (c : Current) → passed who e d c ≡ Stays → are_plain (transacted e (seen who d.arcs c)).outs ≡ true → d.drawn ≤ greatest → needs_numbers (turned who e d c) ≡ false
unfolding played entered
turned_quiet who e d c stays plain h =
    ap (λ (w : Passage). nat_lt greatest d.drawn || some_past_numbers (played d t w a (entered t w d.arcs)).1) stays
    ∙ both_false (nat_lt greatest d.drawn) (some_past_numbers (performed d.arcs a.outs).1) (within d.drawn h) (plain_past a.outs d.arcs plain)
  where
    t : Transaction
    t = seen who d.arcs c

    a : Turn
    a = transacted e t

stays_put : (p : Phase) → passage false p p ≡ Stays
stays_put Phase.Nil = refl
stays_put Phase.Active = refl
stays_put Phase.Ready = refl
stays_put Phase.Committing = refl
stays_put Phase.Rolling = refl

abbrev quiet_move : Who → TxEvent → Digest → Option Current → Move
quiet_move who e d c = elim c as (λ _. Move) [ None ↦ move [] d | Some x ↦ started_next who (passed who e d x) (turned who e d x) ]

transact_quiet : (who : Who) (e : TxEvent) (d : Digest) → ((c : Current) → passed who e d c ≡ Stays) → ((c : Current) → are_plain (transacted e (seen who d.arcs c)).outs ≡ true) → d.drawn ≤ greatest → needs_numbers (transact who e d) ≡ false
unfolding transact
transact_quiet who e d stays plain h = go d.current
  where
    go : (c : Option Current) → needs_numbers (quiet_move who e d c) ≡ false
    go None = within d.drawn h
    go (Some c) = ap (λ (w : Passage). needs_numbers (started_next who w (turned who e d c))) (stays c) ∙ turned_quiet who e d c (stays c) (plain c) h

each_quiet : (ks : List Kept) (d : Digest) → d.drawn ≤ greatest → needs_numbers (retry_each ks d) ≡ false
each_quiet [] d h = within d.drawn h
each_quiet (k ∷ ks) d h =
    let one : some_past_numbers (performed d.arcs (owed k)).1 ≡ false = plain_past (owed k) d.arcs (plain_owed k) in
    let more : needs_numbers (retry_each ks (record d { arcs = (performed d.arcs (owed k)).0 })) ≡ false = each_quiet ks (record d { arcs = (performed d.arcs (owed k)).0 }) h in
    grind (arith, common_steps, one, more, past_both (performed d.arcs (owed k)).1)

heur_quiet : (who : Who) (o : Outcome) (d : Digest) → d.drawn ≤ greatest → needs_numbers (transact who (TxEvent.Heur o) d) ≡ false
heur_quiet who o d h = transact_quiet who (TxEvent.Heur o) d (λ c. stays_put c.phase) (λ c. refl) h

again_quiet : (who : Who) (d : Digest) → d.drawn ≤ greatest → needs_numbers (transact who TxEvent.Retry d) ≡ false
again_quiet who d h = transact_quiet who TxEvent.Retry d (λ c. stays_put c.phase) (λ c. plain_retried (seen who d.arcs c)) h

retry_quiet : (who : Who) (d : Digest) → d.drawn ≤ greatest → needs_numbers (retry who d) ≡ false
unfolding retry
retry_quiet who d h = both (transact who TxEvent.Retry d) (again_quiet who d h)
  where
    least : (n : ℕ) → nat_lt greatest n ≡ false → n ≤ greatest
    least n i = grind (arith, nat_tests, i)

    both : (m : Move) → needs_numbers m ≡ false → needs_numbers (followed m (λ e. retry_each e.kept e)) ≡ false
    both m i =
        let e : Digest = m.next in
        let less : nat_lt greatest e.drawn ≡ false = grind (arith, common_steps, i) in
        let more : needs_numbers (retry_each e.kept e) ≡ false = each_quiet e.kept e (least e.drawn less) in
        let outs : List Out = (retry_each e.kept e).outs in
        let joined : some_past_numbers (m.outs ++ outs) ≡ (some_past_numbers m.outs || some_past_numbers outs) = past_both m.outs outs in
        grind (arith, common_steps, i, more, joined)

purge_quiet : (d : Digest) → d.drawn ≤ greatest → needs_numbers (purge d) ≡ false
unfolding purge settled
purge_quiet d h = go d.kept refl
  where
    go : (ks : List Kept) → d.kept ≡ ks → needs_numbers (purge d) ≡ false
    go [] i = rw (i) (within d.drawn h)
    go (k ∷ ks) i = rw (i) (within d.drawn h)

-- ---- what refuses an event that was tried

abbrev pub tried : NodeEvent → Move → Option Refusal
tried e m = if needs_numbers m then Some Refusal.NumbersSpent else if is_retry e && says_nothing m.outs then Some Refusal.NothingOwed else None

-- an event that is refused plainly by no number
plainly : (who : Who) (d : Digest) (e : Event) → refused_plainly who d e ≡ None → refusal_in (verdict who d e) ≡ refusal_in (verdict_within who d e)
plainly who d e h = ap refusal_in (plainly_not who d e h)

spent : (b : Bool) → refusal_in (if b then Verdict.Refused Refusal.NumbersSpent else Verdict.Accepted) ≡ (if b then Some Refusal.NumbersSpent else None)
spent true = refl
spent false = refl

-- one that wants no number
quietly : (n : Option Refusal) (m : Move) → needs_numbers m ≡ false → (if needs_numbers m then Some Refusal.NumbersSpent else n) ≡ n
quietly n m h = ap (λ (b : Bool). if b then Some Refusal.NumbersSpent else n) h

refusal_tried : (who : Who) (d : Digest) (e : NodeEvent) → d.drawn ≤ greatest → refused_at_once who d e ≡ None → refusal who d (event_of e) ≡ tried e (action who d (event_of e))
unfolding refusal verdict
refusal_tried who d (NodeEvent.Declare s) h n = plainly who d (Declare s) n ∙ sym (quietly None (action who d (Declare s)) (within d.drawn h))
refusal_tried who d (NodeEvent.Do r) h n = plainly who d (Do r.now) n ∙ spent (needs_numbers (action who d (Do r.now)))
refusal_tried who d (NodeEvent.Arrive from r) h n = plainly who d (Arrive from r.now) n ∙ spent (needs_numbers (action who d (Arrive from r.now)))
refusal_tried who d (NodeEvent.Lose p) h n = plainly who d (Lose p) n ∙ spent (needs_numbers (action who d (Lose p)))
refusal_tried who d (NodeEvent.Heur o) h n = plainly who d (Heur o) n ∙ sym (quietly None (action who d (Heur o)) (heur_quiet who o d h))
refusal_tried who d (NodeEvent.GiveUp p) h n = plainly who d (GiveUp p) n ∙ spent (needs_numbers (action who d (GiveUp p)))
refusal_tried who d NodeEvent.Retry h n = shown (refused_plainly who d Retry) refl ∙ go (is_no_node d) n refl ∙ sym (quietly (first ((says_nothing (retry who d).outs, Refusal.NothingOwed) ∷ [])) (action who d Retry) (retry_quiet who d h))
  where
    shown : (o : Option Refusal) → refused_plainly who d Retry ≡ o → refusal_in (verdict who d Retry) ≡ o
    shown None i = ap refusal_in (plainly_not who d Retry i)
    shown (Some k) i = ap refusal_in (plainly_by who d Retry k i)

    go : (b : Bool) → unless_missing b None ≡ None → is_no_node d ≡ b → unless_missing (is_no_node d) (first ((says_nothing (retry who d).outs, Refusal.NothingOwed) ∷ [])) ≡ first ((says_nothing (retry who d).outs, Refusal.NothingOwed) ∷ [])
    go true i j = absurd (cc (i))
    go false i j = ap (λ (b : Bool). unless_missing b (first ((says_nothing (retry who d).outs, Refusal.NothingOwed) ∷ []))) j
refusal_tried who d NodeEvent.Purge h n = plainly who d Purge n ∙ sym (quietly None (action who d Purge) (purge_quiet d h))

pub refused_spent : (who : Who) (d : Digest) (e : NodeEvent) → d.drawn ≤ greatest → refused_at_once who d e ≡ None → needs_numbers (action who d (event_of e)) ≡ true → refusal who d (event_of e) ≡ Some Refusal.NumbersSpent
refused_spent who d e h n s = refusal_tried who d e h n ∙ ap (λ (b : Bool). if b then Some Refusal.NumbersSpent else if is_retry e && says_nothing (action who d (event_of e)).outs then Some Refusal.NothingOwed else None) s

tried_later : (who : Who) (d : Digest) (e : NodeEvent) → d.drawn ≤ greatest → refused_at_once who d e ≡ None → needs_numbers (action who d (event_of e)) ≡ false → refusal who d (event_of e) ≡ (if is_retry e && says_nothing (action who d (event_of e)).outs then Some Refusal.NothingOwed else None)
tried_later who d e h n s = refusal_tried who d e h n ∙ ap (λ (b : Bool). if b then Some Refusal.NumbersSpent else if is_retry e && says_nothing (action who d (event_of e)).outs then Some Refusal.NothingOwed else None) s

pub refused_silent : (who : Who) (d : Digest) (e : NodeEvent) → d.drawn ≤ greatest → refused_at_once who d e ≡ None → needs_numbers (action who d (event_of e)) ≡ false → is_retry e ≡ true → says_nothing (action who d (event_of e)).outs ≡ true → refusal who d (event_of e) ≡ Some Refusal.NothingOwed
refused_silent who d e h n s r q = tried_later who d e h n s ∙ ap (λ (b : Bool). if b && says_nothing (action who d (event_of e)).outs then Some Refusal.NothingOwed else None) r ∙ ap (λ (b : Bool). if b then Some Refusal.NothingOwed else None) q

pub refused_not : (who : Who) (d : Digest) (e : NodeEvent) → d.drawn ≤ greatest → refused_at_once who d e ≡ None → needs_numbers (action who d (event_of e)) ≡ false → (is_retry e && says_nothing (action who d (event_of e)).outs) ≡ false → refusal who d (event_of e) ≡ None
refused_not who d e h n s q = tried_later who d e h n s ∙ ap (λ (b : Bool). if b then Some Refusal.NothingOwed else None) q
