-- Which events close a branch, and what of the Begins that an event says: none more than branches that stand open after it.
use Rattle.std.proofs.Common.{if◌then◌else◌, ◌≡◌, ◌≤◌, ◌+◌, ℕ, Bool, true, false, refl, ap, sym, subst, ◌∙◌, arith, Option, Some, None, List, [], ◌∷◌, ◌++◌, ◌&&◌, ◌==◌, not, length}
use Rattle.tp_names.specs.declared.identifiers.Aaid.{Aaid}
use Rattle.tp_names.specs.declared.identifiers.BranchId.{BranchId}
use Rattle.tp_names.specs.declared.identifiers.Addr.{Addr}
use Rattle.tp_names.specs.declared.identifiers.Mark.{Mark}
use Rattle.tp_names.specs.declared.outcome.Report.{Report}
use Rattle.tp_names.specs.Same.{is_branch}
use Rattle.tp_records.specs.declared.dialogue.DialogueRecord.{DialogueRecord}
use Rattle.tp_records.specs.declared.request.Request.{Request}
use Rattle.tp_records.specs.declared.peer.PeerRecord.{PeerRecord}
use Rattle.tp_records.specs.declared.peer.RecState.{RecState}
use Rattle.tp_model.specs.declared.transaction.TxEvent.{TxEvent}
use Rattle.tp_model.specs.declared.transaction.TxOut.{TxOut}
use Rattle.tp_model.specs.declared.recovery.Kept.{Kept}
use Rattle.tp_model.specs.Parts.{Who, Event, Arc, Branch, Current, Digest}
use Rattle.tp_model.specs.Links.{is_live}
use Rattle.tp_model.specs.Dialogues.{Sight, Acts, Nothing_happens, Out_of_phase, is_nil, is_committing, cleared}
use Rattle.tp_model.specs.Arcs.{find_arc, link_with, with_dialogue}
use Rattle.tp_model.specs.Transactions.{Row, Transaction, Turn, find_row_by_id, transacted}
use Rattle.tp_model.specs.Node.{Move, move, followed, perform, seen_row, seen_rows, seen, phase_of, passed, turned, is_over, try_start, transact, started_next}
use Rattle.tp_model.specs.Links.{with_one_taken}
use Rattle.tp_model.specs.Arcs.{with_link}
use Rattle.tp_model.specs.Arrivals.{sight_at, woken_by, take_on, branch_key, named_by_branch}
use Rattle.tp_model.specs.declared.recovery.KeptEvent.{KeptEvent}
use Rattle.tp_model.specs.declared.arc.Phase.{Phase}
use Rattle.tp_model.specs.Transactions.{refused_tx}
use Rattle.tp_model.specs.Recovery.{settled}
use Rattle.tp_model.specs.Node.{keep}
use Rattle.tp_steps.specs.Moves.{are_spoken}
use Rattle.tp_steps.specs.Facts.{is_end}
use Rattle.tp_model.specs.Recovery.{forget_to}
use Rattle.tp_steps.proofs.every.EveryRecord.{spoken_forget}
use Rattle.tp_steps.proofs.words.Hushed.{spoken_none, settled_spoken}
use Rattle.tp_steps.proofs.links.Apart.{apart_spoken}
use Rattle.tp_steps.proofs.links.Wrapped.{agrees_performed}
use Rattle.tp_steps.proofs.lemmas.Equality.{and_right}
use Rattle.tp_model.specs.Events.{action}
use Rattle.tp_model.specs.Questions.{said_to}
use Rattle.tp_steps.specs.Moves.{IsAsked, IsAskedByRequest, IsPut, IsLate}
use Rattle.tp_steps.specs.Facts.{ends_in_phase, closes, spoken, only_words, words_to, begun_keys, open_at, Reads, IsHeard}
use Rattle.tp_steps.specs.Passages.{begins_none}
use Rattle.tp_steps.proofs.every.EveryMove.{every_start, put_plain}
use Rattle.tp_steps.proofs.words.Heard.{heard_moves}
use Rattle.tp_steps.proofs.log.Passed.{passed_turn}
use Rattle.tp_steps.proofs.links.Apart.{apart_turn}
use Rattle.tp_steps.proofs.links.Links.{said_append}
use Rattle.tp_steps.proofs.links.Wrapped.{Agrees, agrees_played, words_append}
use Rattle.tp_steps.proofs.lemmas.Words.{keys_append}
use Rattle.tp_histories.proofs.trees.Late.{late_remaining}
use Rattle.tp_steps.proofs.words.Fair.{at_most_none}
use Rattle.tp_steps.proofs.links.Whole.{whole_turn}

-- ---- which events close a branch

abbrev pub find_by_id : List Branch → BranchId → Option Branch
find_by_id [] b = None
find_by_id (r ∷ rs) b = if is_branch r.id b then Some r else find_by_id rs b

-- the event may close the branch with the peer
abbrev pub closes_at : Event → Option Current → ℕ → Bool
closes_at e None p = false
closes_at (Event.Arrive a (PeerRecord.OnAssoc x y q r)) (Some c) p = (a.node == p) && ends_in_phase r c.phase
closes_at (Event.Arrive a (PeerRecord.RecReply t b (RecState.Done r))) (Some c) p = elim (find_by_id c.branches b) [ None ↦ false | Some w ↦ (w.peer.node == p) && is_committing c.phase ]
closes_at e (Some c) p = false

seen_by_id : (arcs : List Arc) (bs : List Branch) (b : BranchId) → find_row_by_id (seen_rows arcs bs) b ≡ elim (find_by_id bs b) as (λ _. Option Row) [ None ↦ None | Some w ↦ Some (seen_row arcs w) ]
seen_by_id arcs [] b = refl
seen_by_id arcs (x ∷ bs) b = grind (arith, seen_by_id arcs bs b)

reply_closes : (who : Who) (arcs : List Arc) (c : Current) (b : BranchId) (r : Report) (p : ℕ) → elim (find_by_id c.branches b) as (λ _. Bool) [ None ↦ false | Some w ↦ (w.peer.node == p) && is_committing c.phase ] ≡ false
    → closes (TxEvent.Reply b (RecState.Done r)) (seen who arcs c) p ≡ 0
reply_closes who arcs c b r p h = go (find_by_id c.branches b) refl
  where
    at : find_row_by_id (seen_rows arcs c.branches) b ≡ elim (find_by_id c.branches b) as (λ _. Option Row) [ None ↦ None | Some w ↦ Some (seen_row arcs w) ]
    at = seen_by_id arcs c.branches b

    go : (o : Option Branch) → find_by_id c.branches b ≡ o → closes (TxEvent.Reply b (RecState.Done r)) (seen who arcs c) p ≡ 0
    go None i = let none : find_row_by_id (seen_rows arcs c.branches) b ≡ None = at ∙ rw i refl in rw (none, closes) refl
    go (Some w) i =
        let row : find_row_by_id (seen_rows arcs c.branches) b ≡ Some (seen_row arcs w) = at ∙ rw i refl in
        let off : ((w.peer.node == p) && is_committing c.phase) ≡ false = rw i at h in
        rw (row, closes) (rw off refl)

no_request : (q : Request) (c : Current) (f : TxEvent) (t : Transaction) (p : ℕ) → IsAskedByRequest q c f → closes f t p ≡ 0
no_request (Request.UAbort n) c f t p asked = ap (λ (g : TxEvent). closes g t p) asked.0
no_request (Request.DeferEnd n) c f t p asked = ap (λ (g : TxEvent). closes g t p) asked
no_request (Request.DeferGrant n) c f t p asked = ap (λ (g : TxEvent). closes g t p) asked
no_request (Request.Prepare n) c f t p asked = ap (λ (g : TxEvent). closes g t p) asked
no_request Request.Commit c f t p asked = ap (λ (g : TxEvent). closes g t p) asked
no_request Request.Done c f t p asked = ap (λ (g : TxEvent). closes g t p) asked
no_request Request.Rollback c f t p asked = ap (λ (g : TxEvent). closes g t p) asked
no_request Request.Unchanged c f t p asked = ap (λ (g : TxEvent). closes g t p) asked
no_request q c f t p asked = absurd asked

pub closes_none : (who : Who) (e : Event) (c : Current) (f : TxEvent) (arcs : List Arc) (p : ℕ) → IsAsked e c f → closes_at e (Some c) p ≡ false → closes f (seen who arcs c) p ≡ 0
closes_none who (Event.Do r) c f arcs p asked h = no_request r c f (seen who arcs c) p asked
closes_none who (Event.Arrive a (PeerRecord.OnAssoc x y q r)) c f arcs p asked h = ap (λ (g : TxEvent). closes g (seen who arcs c) p) asked ∙ rw h refl
closes_none who (Event.Arrive a (PeerRecord.RecReply t b (RecState.Done r))) c f arcs p asked h = ap (λ (g : TxEvent). closes g (seen who arcs c) p) asked.0 ∙ reply_closes who arcs c b r p h
closes_none who (Event.Arrive a (PeerRecord.RecReply t b RecState.Commit)) c f arcs p asked h = ap (λ (g : TxEvent). closes g (seen who arcs c) p) asked.0
closes_none who (Event.Arrive a (PeerRecord.RecReply t b RecState.Unknown)) c f arcs p asked h = ap (λ (g : TxEvent). closes g (seen who arcs c) p) asked.0
closes_none who (Event.Arrive a (PeerRecord.RecReply t b RecState.RetryLater)) c f arcs p asked h = ap (λ (g : TxEvent). closes g (seen who arcs c) p) asked.0
closes_none who (Event.Arrive a (PeerRecord.RecCommit t b)) c f arcs p asked h = ap (λ (g : TxEvent). closes g (seen who arcs c) p) asked.0
closes_none who (Event.Arrive a (PeerRecord.ShutAssoc x None)) c f arcs p asked h = absurd asked
closes_none who (Event.Arrive a (PeerRecord.ShutAssoc x (Some y))) c f arcs p asked h = ap (λ (g : TxEvent). closes g (seen who arcs c) p) asked
closes_none who (Event.Arrive a r) c f arcs p asked h = absurd asked
closes_none who (Event.Declare s) c f arcs p asked h = absurd asked
closes_none who (Event.Break a r) c f arcs p asked h = ap (λ (g : TxEvent). closes g (seen who arcs c) p) asked
closes_none who (Event.Lose n) c f arcs p asked h = ap (λ (g : TxEvent). closes g (seen who arcs c) p) asked
closes_none who (Event.Heur o) c f arcs p asked h = ap (λ (g : TxEvent). closes g (seen who arcs c) p) asked
closes_none who (Event.GiveUp n) c f arcs p asked h = ap (λ (g : TxEvent). closes g (seen who arcs c) p) asked
closes_none who Event.Retry c f arcs p asked h = ap (λ (g : TxEvent). closes g (seen who arcs c) p) asked
closes_none who Event.Purge c f arcs p asked h = absurd asked
closes_none who Event.Crash c f arcs p asked h = absurd asked

-- ---- the Begins of an event that closes a branch

no_keys : (b : Bool) (p : ℕ) (outs : List TxOut) → begins_none outs ≡ true → begun_keys (spoken b p outs) ≡ []
no_keys b p [] h = refl
no_keys b p (TxOut.Tell i ∷ outs) h = no_keys b p outs h
no_keys b p (TxOut.Carry q (DialogueRecord.Begin t c k) ∷ outs) h = absurd cc
no_keys b p (TxOut.Carry q r ∷ outs) h = let rest = no_keys b p outs (grind (arith, h)) in grind (arith, rest)
no_keys b p (TxOut.Shut q ∷ outs) h = no_keys (b && not (q == p)) p outs h
no_keys b p (TxOut.Recovery a r ∷ outs) h = no_keys b p outs h
no_keys b p (TxOut.Close q ∷ outs) h = no_keys (b && not (q == p)) p outs h

abbrev pub begun_to : ℕ → Move → ℕ
begun_to p m = length (begun_keys (words_to p m.outs))

less_sum : (a b c : ℕ) → a + b ≤ c → a ≤ c
less_sum a b c h = omega (arith, h)

start_still : (who : Who) (d : Digest) → is_nil (phase_of d) ≡ false → try_start who d ≡ move [] d
unfolding try_start
start_still who d h = rw h refl

-- a transaction that starts where none was
start_opens : (who : Who) (d : Digest) (p : ℕ) → IsLate d → is_live (link_with (try_start who d).next.arcs p) ≡ true → begun_to p (try_start who d) ≤ open_at (try_start who d).next.current p
start_opens who d p late live = go (is_nil (phase_of d)) refl
  where
    go : (b : Bool) → is_nil (phase_of d) ≡ b → begun_to p (try_start who d) ≤ open_at (try_start who d).next.current p
    go false i = at_most_none (begun_to p (try_start who d)) (open_at (try_start who d).next.current p) (ap (begun_to p) (start_still who d i))
    go true i =
        let reads : Reads who Event.Purge p false false 0 d = record {
          falls_so = λ c f arcs at asked h. absurd asked;
          closes_so = λ c f arcs at asked h. absurd asked;
          under_superior = λ c at under. absurd (over c at);
          is_superior_so = λ h l. absurd (cc (h));
        } in
        let heard : IsHeard p false false 0 d d (try_start who d) =
        every_start who Event.Purge d (λ g m. g.superior ≡ d.superior → (is_live (link_with g.arcs p) ≡ true → is_live (link_with d.arcs p) ≡ true) → IsHeard p false false 0 d g m) (heard_moves who Event.Purge d p false false 0 reads) d refl (λ h. h) in
        less_sum (begun_to p (try_start who d)) (open_at d.current p) (open_at (try_start who d).next.current p) (heard.opens refl live)
      where
        over : (c : Current) → d.current ≡ Some c → ⊥
        over c at = let nil : is_nil c.phase ≡ true = rw (at, phase_of) at i in cc (late c at, nil)

abbrev pub Opens : ℕ → Move → Type 0
Opens p m = is_live (link_with m.next.arcs p) ≡ true → begun_to p m ≤ open_at m.next.current p

opens_none : (p : ℕ) (m : Move) → begun_keys (words_to p m.outs) ≡ [] → Opens p m
opens_none p m none live = at_most_none (begun_to p m) (open_at m.next.current p) (ap length none)

pub turned_none : (who : Who) (f : TxEvent) (d : Digest) (c : Current) (p : ℕ) → IsPut f (seen who d.arcs c) → begun_keys (words_to p (turned who f d c).outs) ≡ []
turned_none who f d c p put =
    let t : Transaction = seen who d.arcs c in
    let a : Turn = transacted f t in
    let agrees : Agrees p (is_live (link_with d.arcs p)) a.outs (turned who f d c).outs (is_live (link_with (turned who f d c).next.arcs p)) = agrees_played d t (passed who f d c) a (whole_turn f t) d.arcs p (apart_turn f t put) in
    ap begun_keys agrees.words ∙ no_keys (is_live (link_with d.arcs p)) p a.outs (passed_turn f t put).begins

pub opens_transact : (who : Who) (f : TxEvent) (d : Digest) (p : ℕ) → ((c : Current) → d.current ≡ Some c → IsPut f (seen who d.arcs c)) → Opens p (transact who f d)
unfolding transact
opens_transact who f d p put = go d.current refl
  where
    over : (c : Current) → IsPut f (seen who d.arcs c) → (b : Bool) → Opens p (if b then followed (turned who f d c) (try_start who) else turned who f d c)
    over c q false live = opens_none p (turned who f d c) (turned_none who f d c p q) live
    over c q true live =
        let m : Move = turned who f d c in
        let n : Move = try_start who m.next in
        let keys : begun_keys (words_to p (followed m (try_start who)).outs) ≡ begun_keys (words_to p n.outs) =
        ap begun_keys (ap only_words (said_append p m.outs n.outs) ∙ words_append (said_to p m.outs) (said_to p n.outs)) ∙ keys_append (words_to p m.outs) (words_to p n.outs) ∙ ap (λ (ks : List _). ks ++ begun_keys (words_to p n.outs)) (turned_none who f d c p q) in
        subst (λ (k : ℕ). k ≤ open_at n.next.current p) (sym (ap length keys)) (start_opens who m.next p (late_remaining (transacted f (seen who d.arcs c)).next) live)

    go : (o : Option Current) → d.current ≡ o → Opens p (elim o as (λ _. Move) [ None ↦ move [] d | Some c ↦ started_next who (passed who f d c) (turned who f d c) ])
    go None i = opens_none p (move [] d) refl
    go (Some c) i = over c (put c i) (is_over (passed who f d c))

-- a word that ends a branch
opens_took : (who : Who) (d g : Digest) (n : ℕ) (r : DialogueRecord) (p : ℕ) → IsLate d → g.current ≡ d.current → Opens p (transact who (TxEvent.Took n r) g)
opens_took who d g n r p late same = opens_transact who (TxEvent.Took n r) g p (λ c at. put_plain who g c (TxEvent.Took n r) (late c (sym same ∙ at)) (λ t. absurd (cc (t))) (λ m h. cc (h)) (λ h. cc (h)) (λ arcs h. cc (h)))

opens_sight : (p : ℕ) (g : Digest) (m : Move) (v : Sight) → Opens p m → Opens p (elim v as (λ _. Move) [ Acts ↦ m | Nothing_happens ↦ move [] g | Out_of_phase ↦ move [] g ])
opens_sight p g m Acts h = h
opens_sight p g m Nothing_happens h = opens_none p (move [] g) refl
opens_sight p g m Out_of_phase h = opens_none p (move [] g) refl

opens_record : (who : Who) (d : Digest) (a : Addr) (x y : Mark) (q : ℕ) (r : DialogueRecord) (p : ℕ) → IsLate d → ((z : Arc) → Opens p (take_on who z r d)) → Opens p (action who d (Event.Arrive a (PeerRecord.OnAssoc x y q r)))
opens_record who d a x y q r p late on = go (find_arc d.arcs a.node)
  where
    go : (o : Option Arc) → Opens p (elim o as (λ _. Move) [ None ↦ move [] d | Some z ↦ take_on who z r d ])
    go None = opens_none p (move [] d) refl
    go (Some z) = on z

pub opens_end : (who : Who) (d : Digest) (a : Addr) (x y : Mark) (q : ℕ) (r : DialogueRecord) (p : ℕ) → IsLate d → is_end r ≡ true → Opens p (action who d (Event.Arrive a (PeerRecord.OnAssoc x y q r)))
opens_end who d a x y q (DialogueRecord.Done r) p late h = opens_record who d a x y q (DialogueRecord.Done r) p late (λ z. opens_sight p _ _ (sight_at who d z (DialogueRecord.Done r)) (opens_took who d (counted z) z.peer.node (DialogueRecord.Done r) p late refl))
  where
    counted : Arc → Digest
    counted z = woken_by (DialogueRecord.Done r) z.peer.node (record d { arcs = with_link d.arcs z.peer.node with_one_taken })
opens_end who d a x y q (DialogueRecord.RolledBack r) p late h = opens_record who d a x y q (DialogueRecord.RolledBack r) p late (λ z. opens_sight p _ _ (sight_at who d z (DialogueRecord.RolledBack r)) (opens_took who d (counted z) z.peer.node (DialogueRecord.RolledBack r) p late refl))
  where
    counted : Arc → Digest
    counted z = woken_by (DialogueRecord.RolledBack r) z.peer.node (record d { arcs = with_link d.arcs z.peer.node with_one_taken })
opens_end who d a x y q DialogueRecord.Left p late h = opens_record who d a x y q DialogueRecord.Left p late (λ z. opens_sight p _ _ (sight_at who d z DialogueRecord.Left) (opens_took who d (record (counted z) { arcs = with_dialogue (counted z).arcs z.peer.node cleared }) z.peer.node DialogueRecord.Left p late refl))
  where
    counted : Arc → Digest
    counted z = woken_by DialogueRecord.Left z.peer.node (record d { arcs = with_link d.arcs z.peer.node with_one_taken })
opens_end who d a x y q DialogueRecord.LeftEnd p late h = opens_record who d a x y q DialogueRecord.LeftEnd p late (λ z. opens_sight p _ _ (sight_at who d z DialogueRecord.LeftEnd) (opens_took who d (record (counted z) { arcs = with_dialogue (counted z).arcs z.peer.node cleared }) z.peer.node DialogueRecord.LeftEnd p late refl))
  where
    counted : Arc → Digest
    counted z = woken_by DialogueRecord.LeftEnd z.peer.node (record d { arcs = with_link d.arcs z.peer.node with_one_taken })
opens_end who d a x y q r p late h = absurd (grind (arith, h))

-- a reply that a branch is done
pub opens_reply : (who : Who) (d : Digest) (a : Addr) (t : Aaid) (b : BranchId) (r : Report) (p : ℕ) → IsLate d → Opens p (action who d (Event.Arrive a (PeerRecord.RecReply t b (RecState.Done r))))
unfolding refused_tx
opens_reply who d a t b r p late = go (elim (named_by_branch d t b).current as (λ _. Bool) [ None ↦ false | Some c ↦ is_committing c.phase ]) (named_by_branch d t b).kept (named_by_branch d t b).current
  where
    quiet : (g : Digest) (outs : List TxOut) → are_spoken outs ≡ true → Opens p (perform outs g)
    quiet g outs h =
        let w = agrees_performed g.arcs outs p (apart_spoken outs h) in
        opens_none p (perform outs g) (ap begun_keys (w.words ∙ spoken_none (is_live (link_with g.arcs p)) p outs h))

    held : (k : Kept) (f : KeptEvent) → Opens p (keep (settled k f) d)
    held k f =
        let h = settled_spoken k f in
        let w = agrees_performed d.arcs (settled k f).outs p (apart_spoken (settled k f).outs h) in
        opens_none p (keep (settled k f) d) (ap begun_keys (w.words ∙ spoken_none (is_live (link_with d.arcs p)) p (settled k f).outs h))

    go : (v : Bool) (o : Option Kept) (c : Option Current)
        → Opens p (if v then transact who (TxEvent.Reply b (RecState.Done r)) d
        else elim o as (λ _. Move) [ Some k ↦ keep (settled k (KeptEvent.Done a b r)) d | None ↦ elim c as (λ _. Move) [ Some u ↦ move [] d | None ↦ perform (forget_to a (branch_key t b) b r) d ] ])
    go true o c = opens_transact who (TxEvent.Reply b (RecState.Done r)) d p (λ u at. record { late = late u at; ok = λ h. refl; abort = λ n h. cc (h); ordered = λ h. cc (h); not_begun = λ arcs h. cc (h) })
    go false (Some k) c = held k (KeptEvent.Done a b r)
    go false None (Some u) = opens_none p (move [] d) refl
    go false None None = quiet d (forget_to a (branch_key t b) b r) (spoken_forget a (branch_key t b) b r)

-- of every event that may close a branch
pub opens_closing : (who : Who) (d : Digest) (e : Event) (o : Option Current) (p : ℕ) → IsLate d → closes_at e o p ≡ true → Opens p (action who d e)
opens_closing who d e None p late h = absurd (cc (h))
opens_closing who d (Event.Arrive a (PeerRecord.OnAssoc x y q r)) (Some c) p late h = opens_end who d a x y q r p late (ending r c.phase (and_right (a.node == p) (ends_in_phase r c.phase) h))
  where
    ending : (r : DialogueRecord) (v : Phase) → ends_in_phase r v ≡ true → is_end r ≡ true
    ending (DialogueRecord.Done w) v i = refl
    ending (DialogueRecord.RolledBack w) v i = refl
    ending DialogueRecord.Left v i = refl
    ending DialogueRecord.LeftEnd v i = refl
    ending r v i = absurd (cc (i))
opens_closing who d (Event.Arrive a (PeerRecord.RecReply t b (RecState.Done r))) (Some c) p late h = opens_reply who d a t b r p late
opens_closing who d e (Some c) p late h = absurd (grind (arith, h))
