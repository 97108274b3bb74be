-- What a node decides of a tree goes out on the live arcs, in every legal history where nothing failed while the tree was current.
use Rattle.std.proofs.Common.{if◌then◌else◌, ◌≡◌, ◌⊎◌, inl, inr, ℕ, suc, Bool, true, false, refl, ap, sym, subst, ◌∙◌, arith, Option, Some, None, List, [], ◌∷◌, ◌++◌, ◌&&◌, ◌||◌, ◌==◌, not}
use Rattle.std.proofs.lemmas.Bool.Decides.{nat_tests}
use Rattle.tp_names.specs.declared.identifiers.Mark.{Mark}
use Rattle.tp_names.specs.declared.identifiers.Addr.{Addr}
use Rattle.tp_names.specs.declared.identifiers.Aaid.{Aaid}
use Rattle.tp_names.specs.declared.identifiers.BranchId.{BranchId}
use Rattle.tp_names.specs.declared.outcome.Report.{Report}
use Rattle.tp_names.specs.Same.{is_aaid, is_mark}
use Rattle.tp_records.specs.declared.request.Request.{Request}
use Rattle.tp_records.specs.declared.indication.Indication.{Indication}
use Rattle.tp_records.specs.declared.dialogue.DialogueRecord.{DialogueRecord}
use Rattle.tp_records.specs.declared.peer.PeerRecord.{PeerRecord}
use Rattle.tp_logrec.specs.declared.record.LogRec.{LogRec}
use Rattle.tp_model.specs.declared.transaction.TxEvent.{TxEvent}
use Rattle.tp_model.specs.declared.transaction.TxOut.{TxOut}
use Rattle.tp_model.specs.Parts.{Who, Origin, Event, Out, Entry, Link, Live, Arc, Key, Root, Under, Branch, Current, Digest}
use Rattle.tp_model.specs.Dialogues.{is_nil, is_active, is_ready, Sight, Acts, Nothing_happens, Out_of_phase}
use Rattle.tp_model.specs.Arcs.{find_arc, link_with, is_live_with_peer}
use Rattle.tp_model.specs.Transactions.{Row, Transaction, Turn, aaid_of, is_under_at, find_row, row_holds, carry_up, end_up, leave, transacted}
use Rattle.tp_model.specs.Node.{Move, move, perform, seen_row, seen_rows, seen, is_up_live, remaining, Passage, passage, is_leaving, is_over, entered, followed, try_start, passed, turned, transact, started_next}
use Rattle.tp_model.specs.Arrivals.{sight_at, broken_pair}
use Rattle.tp_model.specs.Events.{retry_each, action}
use Rattle.tp_model.specs.History.{digest}
use Rattle.tp_model.specs.Outcomes.{is_now}
use Rattle.tp_model.specs.Questions.{said_to, logs_ready_or_commit}
use Rattle.tp_steps.specs.Turns.{is_outcome_told}
use Rattle.tp_steps.specs.Moves.{is_word, IsPut, prelude, counted_in}
use Rattle.tp_histories.specs.Histories.{IsSentIn}
use Rattle.tp_steps.specs.Traces.{fits, IsLinked, sent_of}
use Rattle.tp_steps.specs.Facts.{only_words, spoken, stays, words_to, find_branch}
use Rattle.tp_steps.specs.Trees.{out_tells}
use Rattle.tp_steps.specs.Passages.{asks_tell, is_commit_rec, IsLogged, IsPassed}
use Rattle.tp_steps.specs.Branches.{IsMoved, may_end}
use Rattle.tp_steps.specs.Clearing.{is_complete_none}
use Rattle.tp_steps.specs.Heeding.{has_ended}
use Rattle.tp_steps.specs.Outspoken.{IsCarriedIn, is_ready_rec, is_there}
use Rattle.tp_steps.specs.Puts.{Put, put_on, put_by, with_others, IsPutTo}
use Rattle.tp_failure_free.specs.Drained.{branch_is, IsUnfailed, IsOneOf, IsSaid, SaysReady, SaysCommit, SaysDone, SaysLeaving}
use Rattle.tp_steps.proofs.every.EveryMove.{quiet_start}
use Rattle.tp_steps.proofs.every.EveryEvent.{every_move, quiet_retry}
use Rattle.tp_steps.proofs.links.Links.{said_append}
use Rattle.tp_steps.proofs.links.Linked.{linked_moves}
use Rattle.tp_histories.proofs.trees.Late.{late_law}
use Rattle.tp_steps.proofs.links.Marks.{sent_is_said}
use Rattle.tp_steps.proofs.every.Preludes.{marks_same, link_counted}
use Rattle.tp_steps.proofs.lemmas.Words.{dead_stays}
use Rattle.tp_steps.proofs.words.Leaves.{up_spoken, leave_said}
use Rattle.tp_steps.proofs.links.Apart.{apart_turn}
use Rattle.tp_steps.proofs.links.Wrapped.{agrees_played}
use Rattle.tp_steps.proofs.links.Told.{told_append, told_played}
use Rattle.tp_histories.proofs.upward.SpeaksUp.{complete_tells}
use Rattle.tp_steps.proofs.branches.Outspoken.{outspoken_event}
use Rattle.tp_steps.proofs.words.Treed.{now_some}
use Rattle.tp_steps.proofs.words.HeardTurned.{seen_find, branch_is as peer_is}
use Rattle.tp_steps.proofs.lemmas.Equality.{or_case}
use Rattle.tp_steps.proofs.branches.Branched.{row_left, row_seen}
use Rattle.tp_steps.proofs.branches.Rowed.{rowed_turn}
use Rattle.tp_steps.proofs.log.Passed.{passed_turn}
use Rattle.tp_histories.proofs.order.InOrderLaw.{empty_apart}
use Rattle.tp_histories.proofs.order.PutLaw.{put_law}
use Rattle.tp_failure_free.proofs.Calm.{spares, leaves_with_end, IsKeeping, keeps_event, live_row, one_first}
use Rattle.tp_failure_free.proofs.LiveTurned.{is_open, needs, was_open, leaves_closed}
use Rattle.tp_failure_free.proofs.LiveEvents.{IsAside, retry_aside, quiet_start as start_tells}
use Rattle.tp_failure_free.proofs.LiveLaw.{IsMildPut, mild_put, mild_aside, leaves_below, legal_of, unfailed_before, mild_entry, among_of, apart_of}
use Rattle.tp_failure_free.proofs.LiveArcs.{alive_law}
use Rattle.tp_failure_free.proofs.AfterEvent.{over_none, transact_forward, others_current}
use Rattle.tp_failure_free.proofs.Unended.{may_end_over, clash, unended_law}
use Rattle.tp_runs.proofs.Bare.{unchanged_is}
use Rattle.tp_control.proofs.LedEvents.{seen_holds}
use Rattle.tp_reports.proofs.ClearingMoves.{complete_outcome}
use Rattle.tp_failure_free.proofs.DrainedWords.{live_parts}
use Rattle.tp_steps.proofs.links.Whole.{whole_turn}

-- ---- records among others

only_one : (r : DialogueRecord) (xs : List DialogueRecord) → IsOneOf r (only_words xs) → IsOneOf r xs
only_one r [] h = h
only_one r (x ∷ xs) h = go (is_word x) refl (only_one r xs)
  where
    go : (b : Bool) → is_word x ≡ b → (IsOneOf r (only_words xs) → IsOneOf r xs) → IsOneOf r (x ∷ xs)
    go false i rest = inr (rest (rw (i, only_words) at h))
    go true i rest = elim (rw (i, only_words) at h) as (λ _. IsOneOf r (x ∷ xs)) [ inl j ↦ inl j | inr j ↦ inr (rest j) ]

-- what is carried to the peer, whose association stays live, is spoken
carried_spoken : (b : Bool) (p : ℕ) (outs : List TxOut) (r : DialogueRecord) → is_word r ≡ true → stays b p outs ≡ true → IsCarriedIn outs p r → IsOneOf r (spoken b p outs)
carried_spoken b p [] r word st h = absurd h
carried_spoken b p (TxOut.Tell i ∷ outs) r word st h = carried_spoken b p outs r word st h
carried_spoken false p (TxOut.Carry q w ∷ outs) r word st h = absurd (cc (st, dead_stays p outs))
carried_spoken true p (TxOut.Carry q w ∷ outs) r word st (inl h) = subst (λ (l : List DialogueRecord). IsOneOf r l) (sym here) (inl h.1)
  where
    same : (q == p) ≡ true
    same = grind (arith, nat_tests, h)

    said : is_word w ≡ true
    said = ap is_word h.1 ∙ word

    here : spoken true p (TxOut.Carry q w ∷ outs) ≡ w ∷ spoken true p outs
    here = rw (said, same) refl
carried_spoken true p (TxOut.Carry q w ∷ outs) r word st (inr h) = go (is_word w && (q == p) && true) (carried_spoken true p outs r word st h)
  where
    go : (b : Bool) → IsOneOf r (spoken true p outs) → IsOneOf r (if b then w ∷ spoken true p outs else spoken true p outs)
    go true rest = inr rest
    go false rest = rest
carried_spoken b p (TxOut.Shut q ∷ outs) r word st h = carried_spoken (b && not (q == p)) p outs r word st h
carried_spoken b p (TxOut.Recovery a w ∷ outs) r word st h = carried_spoken b p outs r word st h
carried_spoken b p (TxOut.Close q ∷ outs) r word st h = carried_spoken (b && not (q == p)) p outs r word st h

-- a record that went out with the pair went out with a number
pub record Goes (x y : Mark) (p : ℕ) (outs : List Out) (r : DialogueRecord) : Type 0 where
  to : Addr
  number : ℕ
  at : to.node ≡ p
  goes : IsSentIn outs to (PeerRecord.OnAssoc x y number r)

goes_on : (x y : Mark) (p : ℕ) (o : Out) (outs : List Out) (r : DialogueRecord) → ((a : Addr) (w : PeerRecord) → IsSentIn outs a w → IsSentIn (o ∷ outs) a w) → Goes x y p outs r → Goes x y p (o ∷ outs) r
goes_on x y p o outs r more k = record { to = k.to; number = k.number; at = k.at; goes = more k.to (PeerRecord.OnAssoc x y k.number r) k.goes }

sent_goes : (x y : Mark) (p : ℕ) (outs : List Out) (r : DialogueRecord) → IsOneOf r (sent_of x y p outs) → Goes x y p outs r
sent_goes x y p [] r h = absurd h
sent_goes x y p (Out.Tell i ∷ outs) r h = goes_on x y p (Out.Tell i) outs r (λ a w k. k) (sent_goes x y p outs r h)
sent_goes x y p (Out.Send a (PeerRecord.OnAssoc z w s v) ∷ outs) r h = go ((a.node == p) && is_mark x z && is_mark y w) refl h (sent_goes x y p outs r)
  where
    more : Goes x y p outs r → Goes x y p (Out.Send a (PeerRecord.OnAssoc z w s v) ∷ outs) r
    more k = goes_on x y p (Out.Send a (PeerRecord.OnAssoc z w s v)) outs r (λ b q j. inr j) k

    made : (z' w' : Mark) (v' : DialogueRecord) → z' ≡ z → w' ≡ w → v ≡ v' → PeerRecord.OnAssoc z w s v ≡ PeerRecord.OnAssoc z' w' s v'
    made z' w' v' i j k = rw (i, j, k) refl

    go : (b : Bool) → ((a.node == p) && is_mark x z && is_mark y w) ≡ b → IsOneOf r (if b then v ∷ sent_of x y p outs else sent_of x y p outs) → (IsOneOf r (sent_of x y p outs) → Goes x y p outs r) → Goes x y p (Out.Send a (PeerRecord.OnAssoc z w s v) ∷ outs) r
    go false i h rest = more (rest h)
    go true i (inr h) rest = more (rest h)
    go true i (inl h) rest = record { to = a; number = s; at = grind (arith, nat_tests, i); goes = inl (refl, made x y r (marks_same x z (grind (arith, i))) (marks_same y w (grind (arith, i))) h) }
sent_goes x y p (Out.Send a w ∷ outs) r h = goes_on x y p (Out.Send a w) outs r (λ b q k. inr k) (sent_goes x y p outs r h)

-- ---- the pair stays

counted_pair : (d : Digest) (from : Addr) (p : ℕ) (x y : Mark) (s k : ℕ) → link_with d.arcs p ≡ Live x y s k → (m : ℕ) × (link_with (counted_in d from).arcs p ≡ Live x y s m)
counted_pair d from p x y s k live = go (from.node == p) refl
  where
    go : (b : Bool) → (from.node == p) ≡ b → (m : ℕ) × (link_with (counted_in d from).arcs p ≡ Live x y s m)
    go true i = (suc k, link_counted d.arcs from.node p ∙ rw (i, live) refl)
    go false i = (k, link_counted d.arcs from.node p ∙ rw i live)

no_begin : (who : Who) (d : Digest) (a : Arc) (t : Aaid) (b : BranchId) (h : _) (x : Put) → put_on who d a (DialogueRecord.Begin t b h) ≡ Some x → ⊥
no_begin who d a t b h x i = go (sight_at who d a (DialogueRecord.Begin t b h)) i
  where
    go : (v : Sight) → elim v as (λ _. Option Put) [ Acts ↦ None | Nothing_happens ↦ None | Out_of_phase ↦ None ] ≡ Some x → ⊥
    go Acts i = cc (i)
    go Nothing_happens i = cc (i)
    go Out_of_phase i = cc (i)

keeps_pair : (who : Who) (d : Digest) (e : Event) (z : Put) (p : ℕ) (x y : Mark) (s k : ℕ) → put_by who d e ≡ Some z → link_with d.arcs p ≡ Live x y s k → (m : ℕ) × (link_with (prelude who d e).arcs p ≡ Live x y s m)
keeps_pair who d (Event.Declare q) z p x y s k is live = absurd (cc (is))
keeps_pair who d (Event.Do (Request.BeginDialogue a u)) z p x y s k is live = absurd (cc (is))
keeps_pair who d (Event.Do (Request.Accept u)) z p x y s k is live = absurd (cc (is))
keeps_pair who d (Event.Do r) z p x y s k is live = (k, live)
keeps_pair who d (Event.Arrive from (PeerRecord.OpenAssoc v u)) z p x y s k is live = absurd (cc (is))
keeps_pair who d (Event.Arrive from (PeerRecord.AcceptAssoc v w u)) z p x y s k is live = absurd (cc (is))
keeps_pair who d (Event.Arrive from (PeerRecord.OnAssoc v w q (DialogueRecord.Begin t b h))) z p x y s k is live = absurd (go (find_arc d.arcs from.node) is)
  where
    go : (o : Option Arc) → elim o as (λ _. Option Put) [ None ↦ None | Some a ↦ put_on who d a (DialogueRecord.Begin t b h) ] ≡ Some z → ⊥
    go None i = cc (i)
    go (Some a) i = no_begin who d a t b h z i
keeps_pair who d (Event.Arrive from (PeerRecord.OnAssoc v w q r)) z p x y s k is live = counted_pair d from p x y s k live
keeps_pair who d (Event.Arrive from r) z p x y s k is live = (k, live)
keeps_pair who d (Event.Break from r) z p x y s k is live = (k, live)
keeps_pair who d (Event.Lose q) z p x y s k is live = (k, live)
keeps_pair who d (Event.Heur o) z p x y s k is live = (k, live)
keeps_pair who d (Event.GiveUp q) z p x y s k is live = (k, live)
keeps_pair who d Event.Retry z p x y s k is live = (k, live)
keeps_pair who d Event.Purge z p x y s k is live = absurd (cc (is))
keeps_pair who d Event.Crash z p x y s k is live = absurd (cc (is))

-- ---- the outputs and the record of what is put

later_none : (x y : Option LogRec) → y ≡ None → elim y as (λ _. Option LogRec) [ None ↦ x | Some r ↦ Some r ] ≡ x
later_none x y h = rw h refl

others_rec : (d : Digest) (e : Event) (m : Move) → (with_others d e m).rec ≡ m.rec
others_rec d Event.Retry m = later_none m.rec (retry_each m.next.kept m.next).rec (quiet_retry m.next.kept m.next)
others_rec d (Event.Break from r) m = go (broken_pair r)
  where
    same : (v : Option LogRec) → elim v as (λ _. Option LogRec) [ None ↦ None | Some l ↦ Some l ] ≡ v
    same None = refl
    same (Some l) = refl

    go : (o : Option (Mark × Mark)) → (elim o as (λ _. Move) [ None ↦ m | Some xy ↦ followed (perform (TxOut.Recovery from (PeerRecord.ShutAssoc xy.0 (Some xy.1)) ∷ []) d) (λ g. m) ]).rec ≡ m.rec
    go None = refl
    go (Some xy) = same m.rec
others_rec d e m = refl

transact_rec : (who : Who) (f : TxEvent) (g : Digest) (c : Current) → g.current ≡ Some c → (transact who f g).rec ≡ (transacted f (seen who g.arcs c)).rec
unfolding transact
transact_rec who f g c i = ap (λ (o : Option Current). (elim o as (λ _. Move) [ None ↦ move [] g | Some x ↦ started_next who (passed who f g x) (turned who f g x) ]).rec) i ∙ go (is_over (passed who f g c))
  where
    go : (b : Bool) → (if b then followed (turned who f g c) (try_start who) else turned who f g c).rec ≡ (transacted f (seen who g.arcs c)).rec
    go true = later_none (turned who f g c).rec (try_start who (turned who f g c).next).rec (quiet_start who (turned who f g c).next)
    go false = refl

said_first : (p : ℕ) (r : DialogueRecord) (xs ys : List Out) → IsOneOf r (said_to p xs) → IsOneOf r (said_to p (xs ++ ys))
said_first p r xs ys h = subst (IsOneOf r) (sym (said_append p xs ys)) (one_first r (said_to p xs) (said_to p ys) h)

others_say : (d : Digest) (e : Event) (m : Move) (p : ℕ) (r : DialogueRecord) → IsOneOf r (said_to p m.outs) → IsOneOf r (said_to p (with_others d e m).outs)
others_say d Event.Retry m p r h = said_first p r m.outs (retry_each m.next.kept m.next).outs h
others_say d (Event.Break from v) m p r h = go (broken_pair v)
  where
    go : (o : Option (Mark × Mark)) → IsOneOf r (said_to p (elim o as (λ _. Move) [ None ↦ m | Some xy ↦ followed (perform (TxOut.Recovery from (PeerRecord.ShutAssoc xy.0 (Some xy.1)) ∷ []) d) (λ g. m) ]).outs)
    go None = h
    go (Some xy) = h
others_say d e m p r h = h

transact_says : (who : Who) (f : TxEvent) (g : Digest) (c : Current) (p : ℕ) (r : DialogueRecord) → g.current ≡ Some c → IsOneOf r (said_to p (turned who f g c).outs) → IsOneOf r (said_to p (transact who f g).outs)
unfolding transact
transact_says who f g c p r i h = subst (λ (o : Option Current). IsOneOf r (said_to p (elim o as (λ _. Move) [ None ↦ move [] g | Some x ↦ started_next who (passed who f g x) (turned who f g x) ]).outs)) (sym i) (go (is_over (passed who f g c)))
  where
    go : (b : Bool) → IsOneOf r (said_to p (if b then followed (turned who f g c) (try_start who) else turned who f g c).outs)
    go true = said_first p r (turned who f g c).outs (try_start who (turned who f g c).next).outs h
    go false = h

-- ---- what a turn says goes out

-- an entry that puts x to the transaction c
record IsEntry (t : Aaid) (o : Origin) (up : Option Addr) (h : List Entry) (e : Entry) (c : Current) (x : Put) : Type 0 where
  unfailed : IsUnfailed t o up (e ∷ h)
  now : (digest o h).current ≡ Some c
  tree : is_aaid t (aaid_of c.key) ≡ true
  puts : put_by o.who (digest o h) e.event ≡ Some x

entry_to : (t : Aaid) (o : Origin) (up : Option Addr) (h : List Entry) (e : Entry) (c : Current) (x : Put) → IsEntry t o up h e c x → IsPutTo o.who (digest o h) e.event c x
entry_to t o up h e c x k = put_law o up h e.event c x (legal_of o up h k.unfailed.fresh k.unfailed.grown.3) (empty_apart o k.unfailed.fresh) k.unfailed.grown.0 k.now k.puts

entry_mild : (t : Aaid) (o : Origin) (up : Option Addr) (h : List Entry) (e : Entry) (c : Current) (x : Put) → IsEntry t o up h e c x → IsMildPut o.who (digest o h) c x
entry_mild t o up h e c x k =
    mild_put o.who (digest o h) e.event c x k.now (among_of o up h c k.unfailed.fresh k.unfailed.grown.3 k.now).current k.unfailed.grown.0 (mild_entry t o up e h c k.unfailed k.now k.tree) (entry_to t o up h e c x k) k.puts

entry_put : (t : Aaid) (o : Origin) (up : Option Addr) (h : List Entry) (e : Entry) (c : Current) (x : Put) → IsEntry t o up h e c x → IsPut x.event (seen o.who x.arcs c)
entry_put t o up h e c x k = (entry_mild t o up h e c x k).put

entry_live : (t : Aaid) (o : Origin) (up : Option Addr) (h : List Entry) (e : Entry) (c : Current) (x : Put) (p : ℕ) → IsEntry t o up h e c x → needs c p ≡ true → is_live_with_peer (digest o h).arcs p ≡ true
entry_live t o up h e c x p k need = alive_law t o up h (unfailed_before t o up e h k.unfailed).1 (ap (is_now t) k.now ∙ k.tree) c p k.now need

entry_reached : (t : Aaid) (o : Origin) (up : Option Addr) (h : List Entry) (e : Entry) (c : Current) (x : Put) (p : ℕ) → IsEntry t o up h e c x → needs c p ≡ true → is_live_with_peer (digest o h).arcs p ≡ true → is_live_with_peer x.arcs p ≡ true
entry_reached t o up h e c x p k need live = (entry_mild t o up h e c x k).reached p need ∙ live

entry_keeps : (t : Aaid) (o : Origin) (up : Option Addr) (h : List Entry) (e : Entry) (c : Current) (x : Put) (p : ℕ) → IsEntry t o up h e c x → spares x.event c.key p ≡ true → leaves_with_end x.event p ≡ false → IsKeeping p (seen o.who x.arcs c) (transacted x.event (seen o.who x.arcs c))
entry_keeps t o up h e c x p k spare off = keeps_event x.event p (seen o.who x.arcs c) spare off (IsPut.late (entry_put t o up h e c x k))

entry_spares : (t : Aaid) (o : Origin) (up : Option Addr) (h : List Entry) (e : Entry) (c : Current) (x : Put) (p : ℕ) → IsEntry t o up h e c x → needs c p ≡ true → spares x.event c.key p ≡ true
entry_spares t o up h e c x p k need = (entry_mild t o up h e c x k).spare p need

entry_rec : (t : Aaid) (o : Origin) (up : Option Addr) (h : List Entry) (e : Entry) (c : Current) (x : Put) → IsEntry t o up h e c x → e.rec ≡ (transacted x.event (seen o.who x.arcs c)).rec
entry_rec t o up h e c x k =
    let d : Digest = digest o h in
    ap (λ (v : Entry). v.rec) (sym k.unfailed.grown.1) ∙ ap (λ (m : Move). m.rec) (IsPutTo.acts (entry_to t o up h e c x k))
    ∙ others_rec d e.event (transact o.who x.event (record d { arcs = x.arcs })) ∙ transact_rec o.who x.event (record d { arcs = x.arcs }) c k.now

entry_says : (t : Aaid) (o : Origin) (up : Option Addr) (h : List Entry) (e : Entry) (c : Current) (x : Put) (p : ℕ) (r : DialogueRecord) → IsEntry t o up h e c x → needs c p ≡ true → is_live_with_peer (digest o h).arcs p ≡ true
    → IsOneOf r (spoken true p (transacted x.event (seen o.who x.arcs c)).outs) → IsSaid o h e p r
entry_says t o up h e c x p r k need live says = record { x = pair.0; y = pair.1; sent = pair.2; taken = pair.3; live = pair.4; says = sent; to = out.to; number = out.number; at = out.at; goes = out.goes }
  where
    d : Digest
    d = digest o h

    g : Digest
    g = record d { arcs = x.arcs }

    s : Transaction
    s = seen o.who x.arcs c

    a : Turn
    a = transacted x.event s

    w : Passage
    w = passage (is_leaving x.event) s.phase a.next.phase

    words : words_to p (turned o.who x.event g c).outs ≡ spoken true p a.outs
    words = (agrees_played g s w a (whole_turn x.event s) x.arcs p (apart_turn x.event s (entry_put t o up h e c x k))).words ∙ ap (λ v. spoken v p a.outs) (entry_reached t o up h e c x p k need live)

    turn_says : IsOneOf r (said_to p (turned o.who x.event g c).outs)
    turn_says = only_one r (said_to p (turned o.who x.event g c).outs) (subst (IsOneOf r) (sym words) says)

    all : IsOneOf r (said_to p (action o.who d e.event).outs)
    all =
        subst (λ (m : Move). IsOneOf r (said_to p m.outs)) (sym (IsPutTo.acts (entry_to t o up h e c x k)))
        (others_say d e.event (transact o.who x.event g) p r (transact_says o.who x.event g c p r k.now turn_says))

    pair : (x : Mark) × (y : Mark) × (s : ℕ) × (t : ℕ) × (link_with d.arcs p ≡ Live x y s t)
    pair = live_parts (link_with d.arcs p) live

    later : (m : ℕ) × (link_with (prelude o.who d e.event).arcs p ≡ Live pair.0 pair.1 pair.2 m)
    later = keeps_pair o.who d e.event x p pair.0 pair.1 pair.2 pair.3 k.puts pair.4

    linked : IsLinked p (prelude o.who d e.event) (action o.who d e.event)
    linked = every_move o.who d e.event (IsLinked p) (linked_moves o.who e.event (prelude o.who d e.event) p) (late_law o up h k.unfailed.grown.3) k.unfailed.grown.0

    numbered : fits p (Live pair.0 pair.1 pair.2 later.0) (action o.who d e.event).outs ≡ true
    numbered = ap (λ (l : Link). fits p l (action o.who d e.event).outs) (sym later.1) ∙ linked.over.numbered

    sent_there : IsOneOf r (sent_of pair.0 pair.1 p (action o.who d e.event).outs)
    sent_there = subst (IsOneOf r) (sym (sent_is_said pair.0 pair.1 p pair.2 later.0 (action o.who d e.event).outs numbered)) all

    sent : IsOneOf r (sent_of pair.0 pair.1 p e.outs)
    sent = subst (λ (v : Entry). IsOneOf r (sent_of pair.0 pair.1 p v.outs)) k.unfailed.grown.1 sent_there

    out : Goes pair.0 pair.1 p e.outs r
    out = sent_goes pair.0 pair.1 p e.outs r sent

-- ---- the superior

no_end_above : (t : Aaid) (o : Origin) (up : Option Addr) (h : List Entry) (e : Entry) (c : Current) (x : Put) (p : ℕ) → IsEntry t o up h e c x → is_under_at c.key p ≡ true → leaves_with_end x.event p ≡ false
no_end_above t o up h e c x p k under = go (leaves_with_end x.event p) refl
  where
    go : (b : Bool) → leaves_with_end x.event p ≡ b → b ≡ false
    go false i = refl
    go true i = absurd (cc (leaves_below x.event c (digest o h).arcs x.arcs (IsPutTo.reaches (entry_to t o up h e c x k)) p i, under))

up_live : (arcs : List Arc) (k : Key) (p : ℕ) → is_under_at k p ≡ true → is_live_with_peer arcs p ≡ true → is_up_live arcs k ≡ true
up_live arcs (Root t) p under live = absurd (cc (under))
up_live arcs (Under t b a) p under live = let at : p ≡ a.node = grind (arith, nat_tests, under) in ap (is_live_with_peer arcs) (sym at) ∙ live

entry_up : (t : Aaid) (o : Origin) (up : Option Addr) (h : List Entry) (e : Entry) (c : Current) (x : Put) (p : ℕ) → IsEntry t o up h e c x → is_under_at c.key p ≡ true → is_up_live x.arcs c.key ≡ true
entry_up t o up h e c x p k under = up_live x.arcs c.key p under (entry_reached t o up h e c x p k (rw under refl) (entry_live t o up h e c x p k (rw under refl)))

ready_logs : (r : Option LogRec) → is_ready_rec r ≡ true → logs_ready_or_commit r ≡ true
ready_logs r h = grind (arith, h)

commit_logs : (r : Option LogRec) → is_commit_rec r ≡ true → logs_ready_or_commit r ≡ true
commit_logs r h = grind (arith, h)

-- where something is logged or told, something was put
plain_none : (t : Aaid) (o : Origin) (up : Option Addr) (h : List Entry) (e : Entry) → IsUnfailed t o up (e ∷ h) → is_now t (digest o h).current ≡ true → put_by o.who (digest o h) e.event ≡ None → IsAside (digest o h) (action o.who (digest o h) e.event)
plain_none t o up h e k now none =
    let c = now_some t (digest o h).current now in
    mild_aside o.who (digest o h) e.event c.0 c.1 (mild_entry t o up e h c.0 k c.1 c.2) k.grown.0 (apart_of o up h k.fresh k.grown.3) none

pub says_ready : (t : Aaid) (o : Origin) (up : Option Addr) (h : List Entry) (e : Entry) → IsUnfailed t o up (e ∷ h) → SaysReady t o h e
says_ready t o up h e k logs c p now tree under = go (put_by o.who (digest o h) e.event) refl
  where
    go : (v : Option Put) → put_by o.who (digest o h) e.event ≡ v → IsSaid o h e p DialogueRecord.Ready
    go None i = absurd (cc ((plain_none t o up h e k (ap (is_now t) now ∙ tree) i).plain, ap (λ (v : Entry). logs_ready_or_commit v.rec) k.grown.1 ∙ ready_logs e.rec logs))
    go (Some x) i =
        let m : IsEntry t o up h e c x = record { unfailed = k; now = now; tree = tree; puts = i } in
        let s : Transaction = seen o.who x.arcs c in
        let a : Turn = transacted x.event s in
        let keeps : IsKeeping p s a = entry_keeps t o up h e c x p m (entry_spares t o up h e c x p m (rw under refl)) (no_end_above t o up h e c x p m under) in
        let rec_is : is_ready_rec a.rec ≡ true = ap is_ready_rec (sym (entry_rec t o up h e c x m)) ∙ logs in
        let carried : IsCarriedIn a.outs p DialogueRecord.Ready = (outspoken_event x.event s (entry_put t o up h e c x m)).votes rec_is p under (keeps.up ∙ entry_up t o up h e c x p m under) in
        entry_says t o up h e c x p DialogueRecord.Ready m (rw under refl) (entry_live t o up h e c x p m (rw under refl)) (carried_spoken true p a.outs DialogueRecord.Ready refl (keeps.shut (keeps.logged (ready_logs a.rec rec_is))) carried)

-- ---- a completion

pub out_weaker : (f g : Indication → Bool) (outs : List Out) → ((i : Indication) → f i ≡ true → g i ≡ true) → out_tells f outs ≡ true → out_tells g outs ≡ true
out_weaker f g [] k h = h
out_weaker f g (Out.Send a r ∷ outs) k h = out_weaker f g outs k h
out_weaker f g (Out.Tell i ∷ outs) k h = go (f i) refl (out_weaker f g outs k)
  where
    go : (b : Bool) → f i ≡ b → (out_tells f outs ≡ true → out_tells g outs ≡ true) → (g i || out_tells g outs) ≡ true
    go true j rest = rw (k i j) refl
    go false j rest = let more : out_tells f outs ≡ true = grind (arith, h, j) in let there = rest more in grind (arith, there)

untold : (outs : List Out) → out_tells is_outcome_told outs ≡ false → out_tells is_complete_none outs ≡ false
untold outs off = go (out_tells is_complete_none outs) refl
  where
    go : (b : Bool) → out_tells is_complete_none outs ≡ b → b ≡ false
    go false i = refl
    go true i = absurd (cc (out_weaker is_complete_none is_outcome_told outs complete_outcome i, off))

others_tell : (d : Digest) (e : Event) (m : Move) → out_tells is_complete_none (with_others d e m).outs ≡ out_tells is_complete_none m.outs
others_tell d Event.Retry m =
    told_append is_complete_none m.outs (retry_each m.next.kept m.next).outs ∙ rw (untold (retry_each m.next.kept m.next).outs (retry_aside m.next.kept m.next).quiet) (last (out_tells is_complete_none m.outs))
  where
    last : (b : Bool) → (b || false) ≡ b
    last true = refl
    last false = refl
others_tell d (Event.Break from r) m = go (broken_pair r)
  where
    go : (o : Option (Mark × Mark)) → out_tells is_complete_none (elim o as (λ _. Move) [ None ↦ m | Some xy ↦ followed (perform (TxOut.Recovery from (PeerRecord.ShutAssoc xy.0 (Some xy.1)) ∷ []) d) (λ g. m) ]).outs ≡ out_tells is_complete_none m.outs
    go None = refl
    go (Some xy) = refl
others_tell d e m = refl

transact_tells : (who : Who) (f : TxEvent) (g : Digest) (c : Current) → g.current ≡ Some c → out_tells is_complete_none (transact who f g).outs ≡ asks_tell is_complete_none (transacted f (seen who g.arcs c)).outs
unfolding transact
transact_tells who f g c i = ap (λ (o : Option Current). out_tells is_complete_none (elim o as (λ _. Move) [ None ↦ move [] g | Some x ↦ started_next who (passed who f g x) (turned who f g x) ]).outs) i ∙ go (is_over (passed who f g c)) ∙ one
  where
    m : Move
    m = turned who f g c

    s : Transaction
    s = seen who g.arcs c

    one : out_tells is_complete_none m.outs ≡ asks_tell is_complete_none (transacted f s).outs
    one = told_played is_complete_none g s (passed who f g c) (transacted f s) (whole_turn f s) (entered s (passed who f g c) g.arcs)

    last : (b : Bool) → (b || false) ≡ b
    last true = refl
    last false = refl

    go : (b : Bool) → out_tells is_complete_none (if b then followed m (try_start who) else m).outs ≡ out_tells is_complete_none m.outs
    go true = told_append is_complete_none m.outs (try_start who m.next).outs ∙ rw (untold (try_start who m.next).outs (start_tells who m.next)) (last (out_tells is_complete_none m.outs))
    go false = refl

pub says_done : (t : Aaid) (o : Origin) (up : Option Addr) (h : List Entry) (e : Entry) → IsUnfailed t o up (e ∷ h) → SaysDone t o h e
says_done t o up h e k tells c p now tree under = go (put_by o.who (digest o h) e.event) refl
  where
    d : Digest
    d = digest o h

    told : out_tells is_complete_none (action o.who d e.event).outs ≡ true
    told = ap (λ (v : Entry). out_tells is_complete_none v.outs) k.grown.1 ∙ sym (complete_tells e.outs) ∙ tells

    go : (v : Option Put) → put_by o.who d e.event ≡ v → IsSaid o h e p (DialogueRecord.Done Report.None)
    go None i = absurd (cc (untold (action o.who d e.event).outs (plain_none t o up h e k (ap (is_now t) now ∙ tree) i).quiet, told))
    go (Some x) i =
        let m : IsEntry t o up h e c x = record { unfailed = k; now = now; tree = tree; puts = i } in
        let s : Transaction = seen o.who x.arcs c in
        let g : Digest = record d { arcs = x.arcs } in
        let a : Turn = transacted x.event s in
        let keeps : IsKeeping p s a = entry_keeps t o up h e c x p m (entry_spares t o up h e c x p m (rw under refl)) (no_end_above t o up h e c x p m under) in
        let asked : asks_tell is_complete_none a.outs ≡ true =
        sym (transact_tells o.who x.event g c now) ∙ sym (others_tell d e.event (transact o.who x.event g)) ∙ ap (λ (v : Move). out_tells is_complete_none v.outs) (sym (IsPutTo.acts (entry_to t o up h e c x m))) ∙ told in
        entry_says t o up h e c x p (DialogueRecord.Done Report.None) m (rw under refl) (entry_live t o up h e c x p m (rw under refl)) (keeps.told asked under (entry_up t o up h e c x p m under))

-- ---- one that leaves

leave_spoken : (s : Transaction) (p : ℕ) → is_under_at s.key p ≡ true → s.up ≡ true → IsOneOf DialogueRecord.Left (spoken true p (leave s).outs) ⊎ IsOneOf DialogueRecord.LeftEnd (spoken true p (leave s).outs)
unfolding leave
leave_spoken s p under up = go s.up_ends
  where
    go : (b : Bool) → IsOneOf DialogueRecord.Left (spoken true p (if b then carry_up s DialogueRecord.LeftEnd ++ end_up s else carry_up s DialogueRecord.Left)) ⊎ IsOneOf DialogueRecord.LeftEnd (spoken true p (if b then carry_up s DialogueRecord.LeftEnd ++ end_up s else carry_up s DialogueRecord.Left))
    go true = let is : spoken true p (carry_up s DialogueRecord.LeftEnd ++ end_up s) ≡ DialogueRecord.LeftEnd ∷ [] = leave_said s p ∙ rw (under, up) refl in inr (subst (IsOneOf DialogueRecord.LeftEnd) (sym is) (inl refl))
    go false = let is : spoken true p (carry_up s DialogueRecord.Left) ≡ DialogueRecord.Left ∷ [] = up_spoken s p DialogueRecord.Left refl ∙ rw (under, up) refl in inl (subst (IsOneOf DialogueRecord.Left) (sym is) (inl refl))

pub says_leaving : (t : Aaid) (o : Origin) (up : Option Addr) (h : List Entry) (e : Entry) → IsUnfailed t o up (e ∷ h) → SaysLeaving t o h e
says_leaving t o up h e k is c p now tree under = elim (leave_spoken s p under (entry_up t o up h e c x p m under)) as (λ _. IsSaid o h e p DialogueRecord.Left ⊎ IsSaid o h e p DialogueRecord.LeftEnd) [
  | inl i ↦ inl (entry_says t o up h e c x p DialogueRecord.Left m (rw under refl) live i)
  | inr i ↦ inr (entry_says t o up h e c x p DialogueRecord.LeftEnd m (rw under refl) live i)
]
  where
    d : Digest
    d = digest o h

    x : Put
    x = record { event = TxEvent.User Request.Unchanged; arcs = d.arcs }

    s : Transaction
    s = seen o.who d.arcs c

    m : IsEntry t o up h e c x
    m = record { unfailed = k; now = now; tree = tree; puts = ap (put_by o.who d) (unchanged_is e.event is) }

    live : is_live_with_peer d.arcs p ≡ true
    live = entry_live t o up h e c x p m (rw under refl)

-- ---- an order

commit_early : (t : Transaction) (r : Option LogRec) (u : Transaction) → IsLogged t r u → is_commit_rec r ≡ true → (is_active t.phase || is_ready t.phase) ≡ true
commit_early t (Some (LogRec.Commit n k s cs)) u l h = l.2
commit_early t _ u l h = absurd (cc (h))

live_seen : (arcs : List Arc) (bs : List Branch) (p : ℕ) → row_holds (seen_rows arcs bs) p is_open ≡ true → is_live_with_peer arcs p ≡ true → live_row (find_row (seen_rows arcs bs) p) ≡ true
live_seen arcs bs p h live = go (find_branch bs p) refl
  where
    go : (o : Option Branch) → find_branch bs p ≡ o → live_row (find_row (seen_rows arcs bs) p) ≡ true
    go None i = let none : find_row (seen_rows arcs bs) p ≡ None = seen_find arcs bs p ∙ rw i refl in absurd (cc (rw (none, row_holds) at h))
    go (Some b) i =
        let row : find_row (seen_rows arcs bs) p ≡ Some (seen_row arcs b) = seen_find arcs bs p ∙ rw i refl in
        let at : b.peer.node ≡ p = peer_is bs p b i in
        let there : is_live_with_peer arcs b.peer.node ≡ true = ap (is_live_with_peer arcs) at ∙ live in
        let free : not (has_ended b) ≡ true = rw (row, row_holds) at h in
        rw (row, live_row) (rw (there, free) refl)

pub says_commit : (t : Aaid) (o : Origin) (up : Option Addr) (h : List Entry) (e : Entry) → IsUnfailed t o up (e ∷ h) → SaysCommit t o h e
says_commit t o up h e k logs before u b p later found stayed = start (digest o h).current refl
  where
    d : Digest
    d = digest o h

    some : logs_ready_or_commit (action o.who d e.event).rec ≡ true
    some = ap (λ (v : Entry). logs_ready_or_commit v.rec) k.grown.1 ∙ commit_logs e.rec logs

    on : (c : Current) → d.current ≡ Some c → (x : Put) → put_by o.who d e.event ≡ Some x → IsSaid o h e p DialogueRecord.Commit
    on c now x puts = entry_says t o up h e c x p DialogueRecord.Commit m need live (carried_spoken true p a.outs DialogueRecord.Commit refl (keeps.shut goes) carried)
      where
        tree : is_aaid t (aaid_of c.key) ≡ true
        tree = sym (ap (is_now t) now) ∙ before

        m : IsEntry t o up h e c x
        m = record { unfailed = k; now = now; tree = tree; puts = puts }

        s : Transaction
        s = seen o.who x.arcs c

        g : Digest
        g = record d { arcs = x.arcs }

        a : Turn
        a = transacted x.event s

        put : IsPut x.event s
        put = entry_put t o up h e c x m

        rec_is : is_commit_rec a.rec ≡ true
        rec_is = ap is_commit_rec (sym (entry_rec t o up h e c x m)) ∙ logs

        early : (is_active c.phase || is_ready c.phase) ≡ true
        early = commit_early s a.rec a.next (IsPassed.logs (passed_turn x.event s put)) rec_is

        goes : is_nil a.next.phase ≡ false
        goes = let q = (entry_mild t o up h e c x m).some in (entry_keeps t o up h e c x q.0 m q.2 q.1).logged (commit_logs a.rec rec_is)

        over : (v : Bool) → is_over (passed o.who x.event g c) ≡ v → v ≡ false
        over false i = refl
        over true i = absurd (cc (over_none (is_leaving x.event) c.phase a.next.phase i, goes))

        rest : remaining a.next ≡ Some u
        rest =
            sym (transact_forward o.who x.event g c now (over (is_over (passed o.who x.event g c)) refl)) ∙ sym (others_current d e.event (transact o.who x.event g))
            ∙ ap (λ (v : Move). v.next.current) (sym (IsPutTo.acts (entry_to t o up h e c x m))) ∙ later

        n : (r : Row) × (find_row a.next.rows p ≡ Some r) × (r.branch ≡ b)
        n = row_left a.next p u b rest found

        was : (r : Row) × (find_row s.rows p ≡ Some r) × IsMoved x.event s p r.branch n.0.branch
        was = (rowed_turn x.event s put).rows p n.0 n.1

        fresh : was.0.branch.ended ≡ false
        fresh = unended_law t o up h c p was.0.branch (unfailed_before t o up e h k).1 now tree early (row_seen x.arcs c.branches p was.0 was.1)

        ended_off : (v : Bool) → n.0.branch.ended ≡ v → v ≡ false
        ended_off false i = refl
        ended_off true i = elim (or_case was.0.branch.ended (may_end x.event s p) (was.2.ended i)) [
          | inl j ↦ absurd (cc (j, fresh))
          | inr j ↦ absurd (clash c.phase early (may_end_over x.event s p j))
        ]

        open_branch : is_open n.0.branch ≡ true
        open_branch = let ended : n.0.branch.ended ≡ false = ended_off n.0.branch.ended refl in let left : n.0.branch.left ≡ false = ap (λ (y : Branch). y.left) n.2 ∙ stayed in rw (ended, left) refl

        open_row : row_holds a.next.rows p is_open ≡ true
        open_row = rw (n.1, row_holds) open_branch

        off : (v : Bool) → leaves_with_end x.event p ≡ v → v ≡ false
        off false i = refl
        off true i = elim (leaves_closed x.event s p i) [
          | inl same ↦ (let none : is_commit_rec a.rec ≡ false = ap (λ (y : Turn). is_commit_rec y.rec) same in absurd (cc (rec_is, none)))
          | inr ended ↦ (let there : has_ended n.0.branch ≡ true = rw (n.1, row_holds) at ended in absurd (both n.0.branch open_branch there))
        ]
          where
            both : (y : Branch) → is_open y ≡ true → has_ended y ≡ true → ⊥
            both y i j = absurd (grind (arith, i, j))

        open_before : row_holds s.rows p is_open ≡ true
        open_before = was_open x.event s p put open_row

        need : needs c p ≡ true
        need = let here : branch_is is_open c p ≡ true = sym (seen_holds x.arcs c.branches p is_open) ∙ open_before in rw here (grind arith)

        keeps : IsKeeping p s a
        keeps = entry_keeps t o up h e c x p m (entry_spares t o up h e c x p m need) (off (leaves_with_end x.event p) refl)

        live : is_live_with_peer d.arcs p ≡ true
        live = entry_live t o up h e c x p m need

        row_live : n.0.live ≡ true
        row_live = ap live_row (sym n.1) ∙ keeps.rows ∙ live_seen x.arcs c.branches p open_before (entry_reached t o up h e c x p m need live)

        there : is_there p a.next ≡ true
        there = let left : n.0.branch.left ≡ false = ap (λ (y : Branch). y.left) n.2 ∙ stayed in rw (n.1, is_there) (rw (row_live, left) refl)

        carried : IsCarriedIn a.outs p DialogueRecord.Commit
        carried = (outspoken_event x.event s put).orders rec_is p there

    go : (c : Current) → d.current ≡ Some c → (v : Option Put) → put_by o.who d e.event ≡ v → IsSaid o h e p DialogueRecord.Commit
    go c now None i = absurd (cc ((plain_none t o up h e k before i).plain, some))
    go c now (Some x) i = on c now x i

    start : (v : Option Current) → d.current ≡ v → IsSaid o h e p DialogueRecord.Commit
    start None i = absurd (cc (before, ap (is_now t) i))
    start (Some c) i = go c i (put_by o.who d e.event) refl
