-- The small steps that every event of a node is made of. An event first changes who is linked with
-- whom, and may bring a transaction (its prelude); then it goes on by steps that link nobody anew.
-- What all steps keep, every event keeps from its prelude on.
use Rattle.std.specs.Prelude.{ℕ, ◌==◌, ◌≡◌, ◌&&◌, ◌||◌, ◌⊎◌, not, Bool, true, false, Option, Some, None, List, [], ◌∷◌, ◌++◌}
use Rattle.tp_names.specs.declared.identifiers.Mark.{Mark}
use Rattle.tp_names.specs.declared.identifiers.Aaid.{Aaid}
use Rattle.tp_names.specs.declared.identifiers.BranchId.{BranchId}
use Rattle.tp_names.specs.declared.identifiers.Addr.{Addr}
use Rattle.tp_names.specs.declared.identifiers.NodeKey.{NodeKey}
use Rattle.tp_names.specs.declared.children.Child.{Child}
use Rattle.tp_names.specs.Same.{is_aaid, is_key, is_addr}
use Rattle.tp_names.specs.declared.outcome.Report.{Report}
use Rattle.tp_names.specs.Reports.{is_report_none}
use Rattle.tp_records.specs.declared.request.Request.{Request}
use Rattle.tp_records.specs.declared.dialogue.DialogueRecord.{DialogueRecord}
use Rattle.tp_records.specs.declared.dialogue.Holder.{Holder}
use Rattle.tp_records.specs.declared.peer.PeerRecord.{PeerRecord}
use Rattle.tp_records.specs.declared.peer.RecState.{RecState}
use Rattle.tp_model.specs.declared.arc.Side.{Side}
use Rattle.tp_model.specs.declared.transaction.TxEvent.{TxEvent}
use Rattle.tp_model.specs.declared.transaction.TxOut.{TxOut}
use Rattle.tp_model.specs.declared.recovery.Kept.{Kept}
use Rattle.tp_model.specs.declared.recovery.KeptEvent.{KeptEvent}
use Rattle.tp_model.specs.declared.recovery.Question.{Question}
use Rattle.tp_model.specs.Parts.{Who, Event, Link, Idle, Opening, Offered, Live, Dialogue, Arc, Root, Under, Branch, Current, Digest}
use Rattle.tp_model.specs.Links.{with_one_taken}
use Rattle.tp_model.specs.Dialogues.{is_nil, is_active, is_ready, is_committing, is_chained, lacks_control, Asked, Ask_data, Ask_error, Ask_grant, Ask_control, Ask_handshake, Ask_respond, Ask_handshake_grant, Ask_defer_end, Ask_defer_grant, Heard, Hear_data, Hear_error, Hear_grant, Hear_control, Hear_handshake, Hear_handshake_grant, Hear_response, Hear_defer_end, Hear_defer_grant, said, heard, begun_by, cleared, woken, fresh_dialogue}
use Rattle.tp_model.specs.Arcs.{find_arc, is_live_with_peer, link_with, put_arc, without_arc, with_dialogue, with_link}
use Rattle.tp_model.specs.Transactions.{Transaction, aaid_of, node_key, refused_tx}
use Rattle.tp_model.specs.AmongArcs.{is_peer}
use Rattle.tp_model.specs.Recovery.{is_commit, find_owed, is_nothing_owed, is_root_key, find_kept, settled, not_forgotten, recovery_answer}
use Rattle.tp_model.specs.Arrivals.{is_response, branch_key, find_branch_by_id, named_by_key, named_by_branch, known_of}
use Rattle.tp_model.specs.Outcomes.{is_now}
use Rattle.tp_model.specs.Node.{turned, Move, move, followed, perform, next_mark, with_mark_drawn, superior_arc, may_root, phase_of, seen, fresh_current, begin_on, keep}
use Rattle.tp_model.specs.Events.{after_crash}
use Rattle.tp_steps.specs.Turns.{loses, is_outcome_told}

-- ---- the prelude

abbrev pub called : Who → Addr → ℕ → Digest → Digest
called who a u d = record (with_mark_drawn d)
    { arcs = d.arcs ++ (record { peer = a; link = Opening (next_mark who d); dialogue = fresh_dialogue u Side.Superior } ∷ []) }

abbrev pub accepted_on : Who → ℕ → Arc → Link → Digest → Digest
accepted_on who u a Idle d = d
accepted_on who u a (Opening x) d = d
accepted_on who u a (Offered x) d = record (with_mark_drawn d)
    { arcs = put_arc d.arcs (record a { link = Live x (next_mark who d) 0 0; dialogue = fresh_dialogue u Side.Subordinate }) }
accepted_on who u a (Live x y s t) d = d

abbrev pub accepted_by : Who → ℕ → Option Arc → Digest → Digest
accepted_by who u None d = d
accepted_by who u (Some a) d = accepted_on who u a a.link d

abbrev pub linked : Option Arc → Mark → Mark → ℕ → Digest → Digest
linked None x y u d = d
linked (Some a) x y u d = record d { arcs = put_arc d.arcs (record a { link = Live x y 0 0; dialogue = fresh_dialogue u Side.Superior }) }

abbrev pub prelude_of_request : Who → Digest → Request → Digest
prelude_of_request who d (Request.BeginDialogue a u) = called who a u d
prelude_of_request who d (Request.Accept u) = accepted_by who u (superior_arc d) d
prelude_of_request who d _ = d

-- a Begin that is taken makes its transaction the current one
abbrev pub begun_in : Option Arc → Aaid → BranchId → Digest → Digest
begun_in None t b d = d
begun_in (Some a) t b d = record d { current = Some (fresh_current (Under t b a.peer)) }

abbrev pub counted_in : Digest → Addr → Digest
counted_in d from = record d { arcs = with_link d.arcs from.node with_one_taken }

abbrev pub prelude_of_record : Digest → Addr → PeerRecord → Digest
prelude_of_record d from (PeerRecord.OpenAssoc x u) = record d
    { arcs = record { peer = from; link = Offered x; dialogue = fresh_dialogue u Side.Subordinate } ∷ d.arcs }
prelude_of_record d from (PeerRecord.AcceptAssoc x y u) = linked (find_arc d.arcs from.node) x y u d
prelude_of_record d from (PeerRecord.OnAssoc x y q (DialogueRecord.Begin t b h)) = begun_in (find_arc d.arcs from.node) t b (counted_in d from)
prelude_of_record d from (PeerRecord.OnAssoc x y q _) = counted_in d from
prelude_of_record d from _ = d

abbrev pub prelude : Who → Digest → Event → Digest
prelude who d (Event.Declare s) = record d { declared = true; superior = s }
prelude who d (Event.Do r) = prelude_of_request who d r
prelude who d (Event.Arrive from r) = prelude_of_record d from r
prelude who d (Event.Break from r) = d
prelude who d (Event.Lose p) = d
prelude who d (Event.Heur o) = d
prelude who d (Event.GiveUp p) = d
prelude who d Event.Retry = d
prelude who d Event.Purge = d
prelude who d Event.Crash = after_crash d

-- ---- an event of the transaction, before the next one starts

-- which event of the transaction it is
abbrev pub IsAskedByRecord : Addr → PeerRecord → Current → TxEvent → Type 0
IsAskedByRecord from (PeerRecord.OpenAssoc x u) c f = ⊥
IsAskedByRecord from (PeerRecord.AcceptAssoc x y u) c f = ⊥
IsAskedByRecord from (PeerRecord.ShutAssoc x None) c f = ⊥
IsAskedByRecord from (PeerRecord.ShutAssoc x (Some y)) c f = f ≡ TxEvent.Lost from.node
IsAskedByRecord from (PeerRecord.OnAssoc x y q r) c f = f ≡ TxEvent.Took from.node r
IsAskedByRecord from (PeerRecord.RecReady t b) c f = ⊥
IsAskedByRecord from (PeerRecord.RecCommit t b) c f = (f ≡ TxEvent.Ordered) × (is_key (node_key c.key) (record { aaid = t; branch = Some b }) ≡ true)
IsAskedByRecord from (PeerRecord.RecReply t b RecState.Commit) c f = (f ≡ TxEvent.Reply b RecState.Commit)
    × (is_key (node_key c.key) (record { aaid = t; branch = Some b }) ≡ true)
-- of a branch of its tree, from where that branch is
IsAskedByRecord from (PeerRecord.RecReply t b (RecState.Done r)) c f =
    (f ≡ TxEvent.Reply b (RecState.Done r)) × (is_aaid (aaid_of c.key) t ≡ true)
    × ((x : Branch) → find_branch_by_id c.branches b ≡ Some x → is_addr x.peer from ≡ true)
IsAskedByRecord from (PeerRecord.RecReply t b RecState.Unknown) c f = (f ≡ TxEvent.Reply b RecState.Unknown)
    × (is_key (node_key c.key) (record { aaid = t; branch = Some b }) ≡ true)
IsAskedByRecord from (PeerRecord.RecReply t b RecState.RetryLater) c f = (f ≡ TxEvent.Reply b RecState.RetryLater)
    × (is_key (node_key c.key) (record { aaid = t; branch = Some b }) ≡ true)
IsAskedByRecord from (PeerRecord.Forget t b) c f = ⊥

abbrev pub IsAskedByRequest : Request → Current → TxEvent → Type 0
IsAskedByRequest (Request.UAbort p) c f = (f ≡ TxEvent.User (Request.UAbort p)) × (is_peer c p ≡ true)
IsAskedByRequest (Request.BeginDialogue a u) c f = ⊥
IsAskedByRequest (Request.Accept u) c f = ⊥
IsAskedByRequest Request.Reject c f = ⊥
IsAskedByRequest (Request.EndDialogue p) c f = ⊥
IsAskedByRequest (Request.UserData p xs) c f = ⊥
IsAskedByRequest (Request.UError p) c f = ⊥
IsAskedByRequest (Request.Grant p) c f = ⊥
IsAskedByRequest (Request.AskControl p) c f = ⊥
IsAskedByRequest (Request.Handshake p) c f = ⊥
IsAskedByRequest (Request.Respond p) c f = ⊥
IsAskedByRequest (Request.HandshakeGrant p) c f = ⊥
IsAskedByRequest (Request.BeginTransaction p) c f = ⊥
IsAskedByRequest (Request.DeferEnd p) c f = f ≡ TxEvent.User (Request.DeferEnd p)
IsAskedByRequest (Request.DeferGrant p) c f = f ≡ TxEvent.User (Request.DeferGrant p)
IsAskedByRequest (Request.Prepare p) c f = f ≡ TxEvent.User (Request.Prepare p)
IsAskedByRequest Request.Commit c f = f ≡ TxEvent.User Request.Commit
IsAskedByRequest Request.Done c f = f ≡ TxEvent.User Request.Done
IsAskedByRequest Request.Rollback c f = f ≡ TxEvent.User Request.Rollback
IsAskedByRequest Request.Unchanged c f = f ≡ TxEvent.User Request.Unchanged

abbrev pub IsAsked : Event → Current → TxEvent → Type 0
IsAsked (Event.Declare s) c f = ⊥
IsAsked (Event.Do r) c f = IsAskedByRequest r c f
IsAsked (Event.Arrive from r) c f = IsAskedByRecord from r c f
IsAsked (Event.Break from r) c f = f ≡ TxEvent.Lost from.node
IsAsked (Event.Lose p) c f = f ≡ TxEvent.Lost p
IsAsked (Event.Heur o) c f = f ≡ TxEvent.Heur o
IsAsked (Event.GiveUp p) c f = f ≡ TxEvent.GiveUp p
IsAsked Event.Retry c f = f ≡ TxEvent.Retry
IsAsked Event.Purge c f = ⊥
IsAsked Event.Crash c f = ⊥

abbrev pub is_took : TxEvent → Bool
is_took (TxEvent.Took p r) = true
is_took _ = false

-- how an event may be put to a transaction
pub record IsPut (e : TxEvent) (s : Transaction) : Type 0 where
  pub late : is_nil s.phase ≡ false
  pub ok : is_took e ≡ false → refused_tx e s ≡ None
  pub abort : (p : ℕ) → e ≡ TxEvent.User (Request.UAbort p) → is_active s.phase ≡ true
  pub ordered : e ≡ TxEvent.Ordered → is_ready s.phase ≡ true
  pub not_begun : (arcs : _) → e ≡ TxEvent.Begun arcs → ⊥

-- ---- what is said outside transactions

-- a word of a transaction's protocol, which counts for its outcome
abbrev pub is_word : DialogueRecord → Bool
is_word DialogueRecord.EndDialogue = false
is_word (DialogueRecord.UserData xs) = false
is_word DialogueRecord.UError = false
is_word DialogueRecord.UAbort = false
is_word DialogueRecord.Grant = false
is_word DialogueRecord.AskControl = false
is_word DialogueRecord.Handshake = false
is_word DialogueRecord.HandshakeGrant = false
is_word DialogueRecord.Response = false
is_word DialogueRecord.DeferEnd = false
is_word DialogueRecord.DeferGrant = false
is_word (DialogueRecord.Begin a b h) = true
is_word DialogueRecord.Prepare = false
is_word DialogueRecord.Ready = true
is_word DialogueRecord.Commit = true
is_word (DialogueRecord.Done r) = true
is_word DialogueRecord.Rollback = true
is_word (DialogueRecord.RolledBack r) = true
is_word DialogueRecord.Left = true
is_word DialogueRecord.LeftEnd = true

-- records with a number go out by Carry alone
abbrev pub is_apart_record : PeerRecord → Bool
is_apart_record (PeerRecord.OnAssoc x y q r) = false
is_apart_record _ = true

abbrev pub is_apart : TxOut → Bool
is_apart (TxOut.Tell i) = true
is_apart (TxOut.Carry p r) = true
is_apart (TxOut.Shut p) = true
is_apart (TxOut.Recovery a r) = is_apart_record r
is_apart (TxOut.Close p) = true

abbrev pub are_apart : List TxOut → Bool
are_apart [] = true
are_apart (o ∷ outs) = is_apart o && are_apart outs

abbrev pub is_spoken : TxOut → Bool
is_spoken (TxOut.Tell i) = not (is_outcome_told i)
is_spoken (TxOut.Carry p r) = not (is_word r)
is_spoken (TxOut.Shut p) = true
is_spoken (TxOut.Recovery a r) = is_apart_record r
is_spoken (TxOut.Close p) = true

abbrev pub are_spoken : List TxOut → Bool
are_spoken [] = true
are_spoken (o ∷ outs) = is_spoken o && are_spoken outs

-- ---- orders of commitment in recovery

-- the question of a superior that commits, and its reply
abbrev pub orders_tree : Aaid → PeerRecord → Bool
orders_tree u (PeerRecord.RecCommit t b) = is_aaid u t
orders_tree u (PeerRecord.RecReply t b RecState.Commit) = is_aaid u t
orders_tree u _ = false

abbrev pub orders_in : Aaid → List TxOut → Bool
orders_in u [] = false
orders_in u (TxOut.Tell i ∷ outs) = orders_in u outs
orders_in u (TxOut.Carry p r ∷ outs) = orders_in u outs
orders_in u (TxOut.Shut p ∷ outs) = orders_in u outs
orders_in u (TxOut.Recovery a r ∷ outs) = orders_tree u r || orders_in u outs
orders_in u (TxOut.Close p ∷ outs) = orders_in u outs

-- a commitment of the tree is kept
abbrev pub keeps_commit : Aaid → List Kept → Bool
keeps_commit u [] = false
keeps_commit u (k ∷ ks) = (is_commit k.side && is_aaid u k.key.aaid) || keeps_commit u ks

-- or is under way
abbrev pub is_committed_in : Aaid → Digest → Bool
is_committed_in u d = (is_now u d.current && is_committing (phase_of d)) || keeps_commit u d.kept

abbrev pub IsOwned : Digest → List TxOut → Type 0
IsOwned d outs = (u : Aaid) → orders_in u outs ≡ true → is_committed_in u d ≡ true

-- a kept transaction stands in the list, whatever is noted of it
abbrev pub IsAmong : List Kept → Kept → Type 0
IsAmong [] k = ⊥
IsAmong (x ∷ xs) k = ((x.node ≡ k.node) × (x.key ≡ k.key)) ⊎ IsAmong xs k

-- and as it is, but for what is noted of it
abbrev pub StandsIn : List Kept → Kept → Type 0
StandsIn [] k = ⊥
StandsIn (x ∷ xs) k = ◌≡◌ {A = Kept} (record x { forgot = false }) (record k { forgot = false }) ⊎ StandsIn xs k

-- the current transaction is never over
abbrev pub IsLate : Digest → Type 0
IsLate d = (c : Current) → d.current ≡ Some c → is_nil c.phase ≡ false

-- a commitment is kept with no report, which never is
abbrev pub keeps_idle : List Kept → Bool
keeps_idle [] = false
keeps_idle (k ∷ ks) = (is_commit k.side && is_report_none k.report) || keeps_idle ks

-- a kept transaction owes the branch
abbrev pub owes_branch : BranchId → List Kept → Bool
owes_branch b [] = false
owes_branch b (k ∷ ks) = elim (find_owed k.owed b) [ None ↦ false | Some c ↦ true ] || owes_branch b ks

-- a commitment of the tree is kept with that report, below that superior
abbrev pub KeepsFor : List Kept → Addr → Aaid → Report → Type 0
KeepsFor [] a t r = ⊥
KeepsFor (k ∷ ks) a t r = (is_commit k.side ≡ true) × (k.key.aaid ≡ t) × (k.superior ≡ Some a) × (k.report ≡ r) ⊎ KeepsFor ks a t r

-- ---- what goes out beside the associations, in the event e whose prelude left s

-- the record goes to that address
abbrev pub IsRecoveryIn : List TxOut → Addr → PeerRecord → Type 0
IsRecoveryIn [] a r = ⊥
IsRecoveryIn (TxOut.Tell i ∷ outs) a r = IsRecoveryIn outs a r
IsRecoveryIn (TxOut.Carry p w ∷ outs) a r = IsRecoveryIn outs a r
IsRecoveryIn (TxOut.Shut p ∷ outs) a r = IsRecoveryIn outs a r
IsRecoveryIn (TxOut.Recovery b q ∷ outs) a r = (b ≡ a) × (q ≡ r) ⊎ IsRecoveryIn outs a r
IsRecoveryIn (TxOut.Close p ∷ outs) a r = IsRecoveryIn outs a r

-- outside its transaction a node never asks whether to commit, and orders it to a branch that a kept transaction owes; that it
-- knows of nothing is an answer, and so is Done, or it is said of a commitment that is kept, with its report, to its superior.
-- Forget outside a transaction answers a Done of a branch that nothing is known of
abbrev pub IsSaid : Event → Digest → Digest → Addr → PeerRecord → Type 0
IsSaid e s d a (PeerRecord.OpenAssoc x u) = Unit {0}
IsSaid e s d a (PeerRecord.AcceptAssoc x y u) = Unit {0}
IsSaid e s d a (PeerRecord.ShutAssoc x y) = Unit {0}
IsSaid e s d a (PeerRecord.OnAssoc x y q r) = Unit {0}
IsSaid e s d a (PeerRecord.RecReady t b) = ⊥
IsSaid e s d a (PeerRecord.RecCommit t b) = owes_branch b d.kept ≡ true
IsSaid e s d a (PeerRecord.RecReply t b RecState.Commit) = Unit {0}
IsSaid e s d a (PeerRecord.RecReply t b (RecState.Done r)) =
    (is_committed_in t d ≡ true) × (is_report_none r ≡ true → keeps_idle d.kept ≡ true) × (keeps_commit t d.kept ≡ true) × KeepsFor d.kept a t r
    ⊎ (e ≡ Event.Arrive a (PeerRecord.RecCommit t b))
    × (recovery_answer (known_of (named_by_key s (branch_key t b)) b) Question.RecCommit ≡ Some (RecState.Done r))
IsSaid e s d a (PeerRecord.RecReply t b RecState.Unknown) =
    (e ≡ Event.Arrive a (PeerRecord.RecReady t b)) × (recovery_answer (known_of (named_by_branch s t b) b) Question.RecReady ≡ Some RecState.Unknown)
IsSaid e s d a (PeerRecord.RecReply t b RecState.RetryLater) = Unit {0}
IsSaid e s d a (PeerRecord.Forget t b) = (r : Report) × (e ≡ Event.Arrive a (PeerRecord.RecReply t b (RecState.Done r)))
    × (is_report_none r ≡ false) × ((named_by_branch s t b).current ≡ None)

abbrev pub AreSaid : Event → Digest → Digest → List TxOut → Type 0
AreSaid e s d outs = (a : Addr) (r : PeerRecord) → IsRecoveryIn outs a r → IsSaid e s d a r

-- ---- what settles a kept transaction

-- the kept transaction with that key is this one, but for what is noted of it
abbrev pub IsFound : List Kept → Kept → Type 0
IsFound ks k = (x : Kept) × (find_kept ks k.key ≡ Some x) × ◌≡◌ {A = Kept} (record x { forgot = false }) (record k { forgot = false })

-- what is current has the key, and does not commit
abbrev pub IsUnderWay : Digest → NodeKey → Type 0
IsUnderWay s k = (c : Current) × (s.current ≡ Some c) × (is_key (node_key c.key) k ≡ true) × (is_committing c.phase ≡ false)

abbrev pub IsSettling : Event → Digest → Digest → Kept → KeptEvent → Type 0
IsSettling e s d k (KeptEvent.Done a b r) =
    (t : Aaid) × (e ≡ Event.Arrive a (PeerRecord.RecReply t b (RecState.Done r))) × (is_aaid k.key.aaid t ≡ true) × (d.current ≡ s.current)
    × (((c : Child) → find_owed k.owed b ≡ Some c → is_addr c.addr a ≡ true) ⊎ IsUnderWay s k.key) × (find_kept d.kept k.key ≡ Some k)
IsSettling e s d k KeptEvent.Forget = (a : Addr) × (t : Aaid) × (b : BranchId) × (e ≡ Event.Arrive a (PeerRecord.Forget t b)) × (k.key ≡ branch_key t b)
IsSettling e s d k KeptEvent.Purge = (is_nothing_owed k.owed ≡ true) × (is_commit k.side ≡ true → is_root_key k.key ≡ true)

-- ---- what an event says of control, and what it makes of a dialogue

-- a request that gives control to that peer
abbrev pub gives_to : Event → ℕ → Bool
gives_to (Event.Do (Request.Grant q)) p = q == p
gives_to (Event.Do (Request.HandshakeGrant q)) p = q == p
gives_to _ p = false

-- the requests that say one record of a dialogue there
abbrev pub grants_to : Event → ℕ → Bool
grants_to (Event.Do (Request.Grant q)) p = q == p
grants_to _ p = false

abbrev pub hands_to : Event → ℕ → Bool
hands_to (Event.Do (Request.HandshakeGrant q)) p = q == p
hands_to _ p = false

abbrev pub shakes_with : Event → ℕ → Bool
shakes_with (Event.Do (Request.Handshake q)) p = q == p
shakes_with _ p = false

abbrev pub responds_to : Event → ℕ → Bool
responds_to (Event.Do (Request.Respond q)) p = q == p
responds_to _ p = false

-- an event that may end the association with the peer: a request, a record or a loss; an offer that is refused may be anyone's
abbrev pub closes_at : Event → ℕ → Bool
closes_at (Event.Do (Request.EndDialogue q)) p = q == p
closes_at (Event.Do (Request.UAbort q)) p = q == p
closes_at (Event.Do Request.Reject) p = true
closes_at (Event.Arrive from (PeerRecord.ShutAssoc x y)) p = from.node == p
closes_at (Event.Arrive from (PeerRecord.OnAssoc x y q DialogueRecord.EndDialogue)) p = from.node == p
closes_at (Event.Arrive from (PeerRecord.OnAssoc x y q DialogueRecord.UAbort)) p = from.node == p
closes_at (Event.Arrive from (PeerRecord.OnAssoc x y q DialogueRecord.LeftEnd)) p = from.node == p
closes_at (Event.Break from r) p = from.node == p
closes_at (Event.Lose q) p = q == p
closes_at (Event.GiveUp q) p = q == p
closes_at _ p = false

-- outside transactions a Grant, a handshake and its response are said by their request alone, an association is ended by an
-- event that may end it alone, no Prepare goes out, and nothing is deferred
abbrev pub is_said : Event → TxOut → Bool
is_said e (TxOut.Carry p DialogueRecord.Grant) = grants_to e p
is_said e (TxOut.Carry p DialogueRecord.HandshakeGrant) = hands_to e p
is_said e (TxOut.Carry p DialogueRecord.Handshake) = shakes_with e p
is_said e (TxOut.Carry p DialogueRecord.Response) = responds_to e p
is_said e (TxOut.Carry p DialogueRecord.Prepare) = false
is_said e (TxOut.Carry p DialogueRecord.DeferEnd) = false
is_said e (TxOut.Carry p DialogueRecord.DeferGrant) = false
is_said e (TxOut.Shut p) = false
is_said e (TxOut.Close p) = closes_at e p
is_said e _ = true

abbrev pub are_said : Event → List TxOut → Bool
are_said e [] = true
are_said e (o ∷ outs) = is_said e o && are_said e outs

-- what a request says on an arc
abbrev pub said_by : Event → Option (ℕ × Asked)
said_by (Event.Do (Request.UserData p xs)) = Some (p, Ask_data)
said_by (Event.Do (Request.UError p)) = Some (p, Ask_error)
said_by (Event.Do (Request.Grant p)) = Some (p, Ask_grant)
said_by (Event.Do (Request.AskControl p)) = Some (p, Ask_control)
said_by (Event.Do (Request.Handshake p)) = Some (p, Ask_handshake)
said_by (Event.Do (Request.Respond p)) = Some (p, Ask_respond)
said_by (Event.Do (Request.HandshakeGrant p)) = Some (p, Ask_handshake_grant)
said_by (Event.Do (Request.DeferEnd p)) = Some (p, Ask_defer_end)
said_by (Event.Do (Request.DeferGrant p)) = Some (p, Ask_defer_grant)
said_by _ = None

-- what a record makes heard on an arc
abbrev pub heard_in : ℕ → DialogueRecord → Option (ℕ × Heard)
heard_in p (DialogueRecord.UserData xs) = Some (p, Hear_data)
heard_in p DialogueRecord.UError = Some (p, Hear_error)
heard_in p DialogueRecord.Grant = Some (p, Hear_grant)
heard_in p DialogueRecord.AskControl = Some (p, Hear_control)
heard_in p DialogueRecord.Handshake = Some (p, Hear_handshake)
heard_in p DialogueRecord.HandshakeGrant = Some (p, Hear_handshake_grant)
heard_in p DialogueRecord.Response = Some (p, Hear_response)
heard_in p DialogueRecord.DeferEnd = Some (p, Hear_defer_end)
heard_in p DialogueRecord.DeferGrant = Some (p, Hear_defer_grant)
heard_in p _ = None

abbrev pub heard_by : Event → Option (ℕ × Heard)
heard_by (Event.Arrive from (PeerRecord.OnAssoc x y q r)) = heard_in from.node r
heard_by _ = None

-- the holder of the transaction that a record begins there
abbrev pub begun_by_record : Event → Option (ℕ × Holder)
begun_by_record (Event.Arrive from (PeerRecord.OnAssoc x y q (DialogueRecord.Begin t b h))) = Some (from.node, h)
begun_by_record _ = None

-- whose Left it is
abbrev pub left_by : Event → Option ℕ
left_by (Event.Arrive from (PeerRecord.OnAssoc x y q DialogueRecord.Left)) = Some from.node
left_by (Event.Arrive from (PeerRecord.OnAssoc x y q DialogueRecord.LeftEnd)) = Some from.node
left_by _ = None

-- a record that ends the rest of its arc: any but a response
abbrev pub wakes : Event → ℕ → Bool
wakes (Event.Arrive from (PeerRecord.OnAssoc x y q r)) p = (from.node == p) && not (is_response r)
wakes _ p = false

-- an end is deferred on a live arc, while the transaction is active
abbrev pub may_put_off : Digest → ℕ → Bool
may_put_off d p = is_live_with_peer d.arcs p && is_active (phase_of d)

-- what it makes of the dialogue with a peer, outside the passages of its transaction
pub data IsChange (e : Event) (d : Digest) (p : ℕ) (f : Dialogue → Dialogue) : Type 0 where
  By_waking : wakes e p ≡ true → f ≡ woken → IsChange e d p f
  By_saying : (a : Asked) → said_by e ≡ Some (p, a) → f ≡ said a → (a ≡ Ask_defer_end → may_put_off d p ≡ true) → IsChange e d p f
  By_hearing : (h : Heard) → heard_by e ≡ Some (p, h) → f ≡ heard h → (h ≡ Hear_defer_end → may_put_off d p ≡ true) → IsChange e d p f
  By_beginning : (h : Holder) → begun_by_record e ≡ Some (p, h) → f ≡ begun_by h Side.Subordinate → IsChange e d p f
  By_leaving : left_by e ≡ Some p → f ≡ cleared → IsChange e d p f

-- a transaction begins on an arc that is chained, or on which this end may speak
abbrev pub may_begin : Arc → Bool
may_begin a = is_chained a.dialogue || not (lacks_control a.dialogue)

-- some arc to the peer is such
abbrev pub some_leads : (Arc → Bool) → ℕ → List Arc → Bool
some_leads f p [] = false
some_leads f p (a ∷ arcs) = (f a && (a.peer.node == p)) || some_leads f p arcs

-- ---- the steps of an event e at what was known after its prelude

pub record Moves (who : Who) (e : Event) (s : Digest) (R : Digest → Move → Type 0) : Type 0 where
  -- chains
  pub still : (d : Digest) → R d (move [] d)
  pub chain : (d : Digest) (a : Move) (f : Digest → Move) → R d a → R a.next (f a.next) → (a.rec ≡ None) ⊎ ((f a.next).rec ≡ None) → R d (followed a f)
  -- outputs, and changes that are no matter of transactions
  pub speaks : (d : Digest) (outs : List TxOut) → are_spoken outs ≡ true → IsOwned d outs × AreSaid e s d outs → are_said e outs ≡ true → R d (perform outs d)
  pub changes_dialogue : (d : Digest) (p : ℕ) (f : Dialogue → Dialogue) (m : Move) → IsChange e d p f
      → R (record d { arcs = with_dialogue d.arcs p f }) m → R d m
  pub drops_arc : (d : Digest) (p : ℕ) (m : Move) → closes_at e p ≡ true → R (record d { arcs = without_arc d.arcs p }) m → R d m
  pub notes_kept : (d : Digest) (ks : List Kept) (m : Move)
      → ((u : Aaid) → keeps_commit u ks ≡ true → keeps_commit u d.kept ≡ true) × (not_forgotten ks ≡ not_forgotten d.kept)
      → R (record d { kept = ks }) m → R d m
  pub keeps : (d : Digest) (k : Kept) (f : KeptEvent)
      → ((u : Aaid) → (is_commit k.side && is_aaid u k.key.aaid) ≡ true → keeps_commit u d.kept ≡ true) × IsAmong d.kept k
      × StandsIn d.kept k × IsFound d.kept k × IsSettling e s d k f → R d (keep (settled k f) d)
  -- the current transaction
  pub turns : (d : Digest) (c : Current) (f : TxEvent) → d.current ≡ Some c → s.current ≡ Some c → IsAsked e c f
      → IsPut f (seen who d.arcs c) → ((p : ℕ) → loses f p ≡ true → link_with d.arcs p ≡ Idle) → R d (turned who f d c)
  -- transactions begin
  pub begins : (d : Digest) (p : ℕ) → some_leads may_begin p d.arcs ≡ true → R d (begin_on who p d)
  pub roots : (d : Digest) (m : Move) → is_nil (phase_of d) ≡ true → may_root d ≡ true
      → R (record (with_mark_drawn d) { current = Some (fresh_current (Root (record { owner = who.site; mark = next_mark who d }))) }) m → R d m
