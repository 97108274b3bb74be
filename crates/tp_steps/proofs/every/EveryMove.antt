-- Every event of a node is its prelude and then small steps.
use Rattle.std.proofs.Common.{if◌then◌else◌, ◌≡◌, ◌⊎◌, inl, inr, ℕ, Bool, true, false, refl, ap, sym, ◌∙◌, arith, Option, Some, None, List, [], ◌∷◌, ◌==◌, ◌&&◌, ◌||◌, not}
use Rattle.std.proofs.lemmas.Bool.Decides.{nat_tests}
use Rattle.tp_names.specs.declared.identifiers.Addr.{Addr}
use Rattle.tp_records.specs.declared.request.Request.{Request}
use Rattle.tp_records.specs.declared.indication.Indication.{Indication}
use Rattle.tp_records.specs.declared.dialogue.DialogueRecord.{DialogueRecord}
use Rattle.tp_records.specs.declared.dialogue.Holder.{Holder}
use Rattle.tp_records.specs.declared.peer.PeerRecord.{PeerRecord}
use Rattle.tp_model.specs.declared.arc.Phase.{Phase}
use Rattle.tp_model.specs.declared.arc.Side.{Side}
use Rattle.tp_model.specs.declared.transaction.TxEvent.{TxEvent}
use Rattle.tp_model.specs.declared.transaction.TxOut.{TxOut}
use Rattle.tp_model.specs.Parts.{Who, Event, Link, Idle, Opening, Offered, Live, Dialogue, Arc, Root, Branch, Current, Digest}
use Rattle.tp_model.specs.Dialogues.{is_nil, is_active, is_end_deferred, Asked, Ask_data, Ask_error, Ask_abort, Ask_grant, Ask_control, Ask_handshake, Ask_respond, Ask_handshake_grant, Ask_defer_end, Ask_defer_grant, is_chained, said, begun_by, refused_on_arc, fresh_dialogue}
use Rattle.tp_model.specs.Arcs.{find_arc, is_live_with_peer, link_with, put_arc, without_arc, with_dialogue, carried}
use Rattle.tp_model.specs.Transactions.{is_under_at, row_holds, transacted, refused_tx, situation_of}
use Rattle.tp_model.specs.Node.{is_end_deferred_at, Move, move, followed, perform, next_mark, with_mark_drawn, superior_arc, may_root, phase_of, seen_rows, seen, situation_at, Passage, passage, is_leaving, is_over, fresh_current, begin_on, begin_each, is_chained_below, chained_from, chained_peers, begin_chained, start_root, has_none, try_start, transact, started_next}
use Rattle.tp_model.specs.Requests.{has_branch_at, refused_request, refused_at, call, accept, reject, abort, begin_transaction, do_request}
use Rattle.tp_model.specs.Arrivals.{lose}
use Rattle.tp_steps.specs.Turns.{loses}
use Rattle.tp_steps.proofs.links.Links.{link_without, mark_same}
use Rattle.tp_steps.proofs.links.Fading.{ends_without}
use Rattle.tp_steps.proofs.every.RootBegins.{named_says, chained_says}
use Rattle.tp_steps.specs.Ends.{are_separate}
use Rattle.tp_steps.specs.Steps.{first_begin, next_tree, next_branch, is_deferring, puts_off_at, IsLike, Steps}
use Rattle.tp_model.specs.Node.{turned}
use Rattle.tp_model.specs.AmongArcs.{is_peer}
use Rattle.tp_steps.specs.Moves.{IsLate, prelude, called, accepted_by, accepted_on, IsAsked, IsPut, is_took, are_spoken, are_said, closes_at, said_by, may_put_off, By_saying, may_begin, some_leads, Moves}
use Rattle.tp_steps.proofs.links.Saying.{one_said}
use Rattle.tp_steps.proofs.every.AcceptCases.{reject_cases}

-- ---- starts log nothing

pub quiet_begin : (who : Who) (p : ℕ) (d : Digest) → (begin_on who p d).rec ≡ None
unfolding begin_on
quiet_begin who p d = grind arith

pub quiet_followed : (a : Move) (f : Digest → Move) → a.rec ≡ None → (f a.next).rec ≡ None → (followed a f).rec ≡ None
quiet_followed a f h i = rw (i, followed) h

pub quiet_each : (who : Who) (ps : List ℕ) (d : Digest) → (begin_each who ps d).rec ≡ None
quiet_each who [] d = refl
quiet_each who (p ∷ ps) d = quiet_followed (begin_on who p d) (begin_each who ps) (quiet_begin who p d) (quiet_each who ps (begin_on who p d).next)

pub quiet_root : (who : Who) (named : List ℕ) (d : Digest) → (start_root who named d).rec ≡ None
unfolding start_root
quiet_root who named d =
    let g : Digest = record (with_mark_drawn d) { current = Some (fresh_current (Root (record { owner = who.site; mark = next_mark who d }))) } in
    let a : Move = begin_each who named g in
    quiet_followed a (begin_chained who) (quiet_each who named g) (quiet_each who (chained_peers who a.next) a.next)

pub quiet_start : (who : Who) (d : Digest) → (try_start who d).rec ≡ None
unfolding try_start
quiet_start who d = grind (arith, quiet_root who [] d)

-- ---- rules that several events share

-- an arc that is chained stays so when a transaction begins on one
chained_dialogue : (arcs : List Arc) (q : ℕ) (h : Holder) (p : ℕ) → some_leads (λ a. is_chained a.dialogue) p (with_dialogue arcs q (begun_by h Side.Superior)) ≡ some_leads (λ a. is_chained a.dialogue) p arcs
unfolding begun_by
chained_dialogue [] q h p = refl
chained_dialogue (a ∷ arcs) q h p = grind (arith, chained_dialogue arcs q h p)

chained_carried : (arcs : List Arc) (q : ℕ) (r : DialogueRecord) (p : ℕ) → some_leads (λ a. is_chained a.dialogue) p (carried arcs q r).0 ≡ some_leads (λ a. is_chained a.dialogue) p arcs
chained_carried [] q r p = refl
chained_carried (a ∷ arcs) q r p = grind (arith, chained_carried arcs q r p)

chained_begin : (who : Who) (q : ℕ) (d : Digest) (p : ℕ) → some_leads (λ a. is_chained a.dialogue) p (begin_on who q d).next.arcs ≡ some_leads (λ a. is_chained a.dialogue) p d.arcs
unfolding begin_on
chained_begin who q d p = grind (arith, chained_dialogue, chained_carried)

free_chained : (p : ℕ) (arcs : List Arc) → some_leads (λ a. is_chained a.dialogue) p arcs ≡ true → some_leads may_begin p arcs ≡ true
free_chained p [] h = absurd cc
free_chained p (a ∷ arcs) h = grind (arith, h, free_chained p arcs)

-- of each peer, some arc to it is chained
abbrev pub all_chained : List ℕ → List Arc → Bool
all_chained [] arcs = true
all_chained (p ∷ ps) arcs = some_leads (λ a. is_chained a.dialogue) p arcs && all_chained ps arcs

still_chained : (who : Who) (q : ℕ) (d : Digest) (ps : List ℕ) → all_chained ps d.arcs ≡ true → all_chained ps (begin_on who q d).next.arcs ≡ true
still_chained who q d [] h = refl
still_chained who q d (p ∷ ps) h =
    let rest : all_chained ps (begin_on who q d).next.arcs ≡ true = still_chained who q d ps (grind (arith, h)) in
    let one : some_leads (λ a. is_chained a.dialogue) p (begin_on who q d).next.arcs ≡ true = chained_begin who q d p ∙ grind (arith, h) in
    rw (one, rest) refl

pub step_begin : (who : Who) (e : Event) (s : Digest) (R : Digest → Move → Type 0) → Steps who e s R → (ps : List ℕ) (d : Digest) → all_chained ps d.arcs ≡ true → R d (begin_each who ps d)
step_begin who e s R k [] d h = k.still d
step_begin who e s R k (p ∷ ps) d h =
    let a : Move = begin_on who p d in
    k.chain d a (begin_each who ps) (k.begins d p (free_chained p d.arcs (grind (arith, h)))) (step_begin who e s R k ps a.next (still_chained who p d ps (grind (arith, h)))) (inr (quiet_each who ps a.next))

-- the chained arcs of a node are chained
leads_itself : (a : Arc) (arcs : List Arc) → is_chained a.dialogue ≡ true → some_leads (λ b. is_chained b.dialogue) a.peer.node (a ∷ arcs) ≡ true
leads_itself a arcs h = grind (arith, nat_tests, h)

more_chained : (ps : List ℕ) (a : Arc) (arcs : List Arc) → all_chained ps arcs ≡ true → all_chained ps (a ∷ arcs) ≡ true
more_chained [] a arcs h = refl
more_chained (p ∷ ps) a arcs h = grind (arith, h, more_chained ps a arcs)

chained_below : (who : Who) (d : Digest) (arcs : List Arc) → all_chained (chained_from who d arcs) arcs ≡ true
chained_below who d [] = refl
chained_below who d (a ∷ arcs) = go (is_chained_below who d a) refl (more_chained (chained_from who d arcs) a arcs (chained_below who d arcs))
  where
    go : (b : Bool) → is_chained_below who d a ≡ b → all_chained (chained_from who d arcs) (a ∷ arcs) ≡ true → all_chained (if b then a.peer.node ∷ chained_from who d arcs else chained_from who d arcs) (a ∷ arcs) ≡ true
    go true i rest = rw (leads_itself a arcs (grind (arith, i)), rest) refl
    go false i rest = rest

pub step_chained : (who : Who) (e : Event) (s : Digest) (R : Digest → Move → Type 0) → Steps who e s R → (d : Digest) → R d (begin_chained who d)
step_chained who e s R k d = step_begin who e s R k (chained_peers who d) d (chained_below who d d.arcs)

-- none is named, or one on which this end may speak
abbrev pub AreFree : List ℕ → List Arc → Type 0
AreFree [] arcs = Unit {0}
AreFree (p ∷ []) arcs = some_leads may_begin p arcs ≡ true
AreFree (p ∷ q ∷ ps) arcs = ⊥

step_named : (who : Who) (e : Event) (s : Digest) (R : Digest → Move → Type 0) → Steps who e s R → (ps : List ℕ) (d : Digest) → AreFree ps d.arcs → R d (begin_each who ps d)
step_named who e s R k [] d h = k.still d
step_named who e s R k (p ∷ []) d h = let a : Move = begin_on who p d in k.chain d a (begin_each who []) (k.begins d p h) (k.still a.next) (inr refl)
step_named who e s R k (p ∷ q ∷ ps) d h = absurd h

step_root : (who : Who) (e : Event) (s : Digest) (R : Digest → Move → Type 0) → Steps who e s R → (named : List ℕ) (d : Digest) → is_nil (phase_of d) ≡ true → may_root d ≡ true → AreFree named d.arcs
    → (are_separate d.arcs ≡ true → first_begin (start_root who named d).outs ≡ Some (next_tree who d, next_branch who d)) → R d (start_root who named d)
unfolding start_root
step_root who e s R k named d nil may free says =
    let g : Digest = record (with_mark_drawn d) { current = Some (fresh_current (Root (record { owner = who.site; mark = next_mark who d }))) } in
    let a : Move = begin_each who named g in
    k.roots d (followed a (begin_chained who)) nil may says
    (k.chain g a (begin_chained who) (step_named who e s R k named g free) (step_chained who e s R k a.next) (inr (quiet_each who (chained_peers who a.next) a.next)))

pub step_start : (who : Who) (e : Event) (s : Digest) (R : Digest → Move → Type 0) → Steps who e s R → (d : Digest) → R d (try_start who d)
unfolding try_start
step_start who e s R k d = go (is_nil (phase_of d) && may_root d && not (has_none (chained_peers who d))) refl
  where
    go : (b : Bool) → (is_nil (phase_of d) && may_root d && not (has_none (chained_peers who d))) ≡ b → R d (if b then start_root who [] d else move [] d)
    go true i = step_root who e s R k [] d (grind arith) (grind arith) tt (λ apart. chained_says who d (grind (arith, i)) apart)
    go false i = k.still d

pub step_transact : (who : Who) (e : Event) (s : Digest) (R : Digest → Move → Type 0) → Steps who e s R → (f : TxEvent) (d : Digest) → IsLike e d s
    → ((c : Current) → s.current ≡ Some c → IsAsked e c f) → ((c : Current) → s.current ≡ Some c → IsPut f (seen who d.arcs c)) → ((p : ℕ) → loses f p ≡ true → link_with d.arcs p ≡ Idle) → R d (transact who f d)
unfolding transact
step_transact who e s R k f d same asked put gone = go d.current refl
  where
    over : (c : Current) (w : Passage) → R d (turned who f d c) → (b : Bool) → is_over w ≡ b → R d (if b then followed (turned who f d c) (try_start who) else turned who f d c)
    over c w one true i = k.chain d (turned who f d c) (try_start who) one (step_start who e s R k (turned who f d c).next) (inr (quiet_start who (turned who f d c).next))
    over c w one false i = one

    go : (o : Option Current) → d.current ≡ o
        → R d (elim o as (λ _. Move) [
          | None ↦ move [] d
          | Some c ↦ started_next who (passage (is_leaving f) (seen who d.arcs c).phase (transacted f (seen who d.arcs c)).next.phase) (turned who f d c)
        ])
    go None i = k.still d
    go (Some c) i =
        let at : s.current ≡ Some c = sym same.0 ∙ i in
        let w : Passage = passage (is_leaving f) (seen who d.arcs c).phase (transacted f (seen who d.arcs c)).next.phase in
        over c w (k.turns d c f i at (asked c at) (put c at) gone same.1 same.2) (is_over w) refl

-- an event that needs no more than a transaction that is not over
pub put_plain : (who : Who) (d : Digest) (c : Current) (f : TxEvent) → is_nil c.phase ≡ false → (is_took f ≡ false → refused_tx f (seen who d.arcs c) ≡ None)
    → ((p : ℕ) → f ≡ TxEvent.User (Request.UAbort p) → ⊥) → (f ≡ TxEvent.Ordered → ⊥) → ((arcs : _) → f ≡ TxEvent.Begun arcs → ⊥) → IsPut f (seen who d.arcs c)
put_plain who d c f late ok a o b = record { late = late; ok = ok; abort = λ p i. absurd (a p i); ordered = λ i. absurd (o i); not_begun = b }

-- the event ends no association but with that peer
pub apart : (e : Event) (p n : ℕ) → closes_at e p ≡ true → (puts_off_at e n || closes_at e n) ≡ false → (p == n) ≡ false
apart e p n h off = go (p == n) refl
  where
    go : (b : Bool) → (p == n) ≡ b → b ≡ false
    go false i = refl
    go true i = let same : p ≡ n = grind (arith, nat_tests, i) in let on : closes_at e n ≡ true = ap (closes_at e) (sym same) ∙ h in absurd (grind (arith, on, off))

pub ends_elsewhere : (arcs : List Arc) (q p : ℕ) → (q == p) ≡ false → is_end_deferred_at (without_arc arcs q) p ≡ is_end_deferred_at arcs p
ends_elsewhere arcs q p off = ends_without arcs q p ∙ rw off refl

pub step_lose : (who : Who) (e : Event) (s : Digest) (R : Digest → Move → Type 0) → Steps who e s R → IsLate s → (p : ℕ) (d : Digest) → closes_at e p ≡ true → IsLike e d s
    → ((c : Current) → IsAsked e c (TxEvent.Lost p)) → R d (lose who p d)
unfolding lose refused_tx
step_lose who e s R k late p d closes same asked = k.drops_arc d p (lose who p d) closes (go d.current refl)
  where
    g : Digest
    g = record d { arcs = without_arc d.arcs p }

    gone_arc : (n : ℕ) → p ≡ n → link_with g.arcs n ≡ Idle
    gone_arc n same = link_without d.arcs p n ∙ grind (arith, nat_tests, same)

    go : (o : Option Current) → d.current ≡ o → R g (elim o as (λ _. Move) [ None ↦ perform (TxOut.Tell (Indication.PAbort p) ∷ []) g | Some c ↦ transact who (TxEvent.Lost p) g ])
    go None i = k.speaks g (TxOut.Tell (Indication.PAbort p) ∷ []) refl (λ u h. absurd (cc (h)), λ z r h. absurd h) refl refl
    go (Some c) i =
        step_transact who e s R k (TxEvent.Lost p) g (same.0, same.1, λ n off. ends_elsewhere d.arcs p n (apart e p n closes off) ∙ same.2 n off) (λ b j. asked b)
        (λ b j. put_plain who g b (TxEvent.Lost p) (late b j) (λ t. refl) (λ q h. cc (h)) (λ h. cc (h)) (λ arcs h. cc (h)))
        (λ n i. gone_arc n (grind (arith, nat_tests, i)))

-- ---- requests

pub abort_active : (who : Who) (d : Digest) (p : ℕ) (c : Current) → refused_request who d (Request.UAbort p) ≡ None → (situation_at who d p).branch ≡ true → d.current ≡ Some c
    → is_nil c.phase ≡ false → is_active c.phase ≡ true
unfolding refused_request refused_on_arc situation_of
abort_active who d p c ok b i late = phase c.phase refl
  where
    one : refused_at who d p 0 Ask_abort None ≡ None
    one = ok

    phase : (q : Phase) → c.phase ≡ q → is_active c.phase ≡ true
    phase Phase.Active j = ap is_active j
    phase Phase.Nil j = absurd (cc (late, ap is_nil j))
    phase q j = absurd (grind (arith, one, b, i, j))

step_call : (who : Who) (d : Digest) (a : Addr) (u : ℕ) (R : Digest → Move → Type 0) → Steps who (Event.Do (Request.BeginDialogue a u)) (called who a u d) R → R (called who a u d) (call who a u d)
unfolding call
step_call who d a u R k = k.speaks (called who a u d) (TxOut.Recovery a (PeerRecord.OpenAssoc (next_mark who d) u) ∷ []) refl (λ u h. absurd (cc (h)), one_said (Event.Do (Request.BeginDialogue a u)) (called who a u d) (called who a u d) a (PeerRecord.OpenAssoc (next_mark who d) u) tt) refl (rw (mark_same (next_mark who d)) refl)

step_accept : (who : Who) (e : Event) (s d : Digest) (u : ℕ) (R : Digest → Move → Type 0) → Steps who e s R → (o : Option Arc) → superior_arc d ≡ o → R (accepted_by who u o d) (accept who u d)
unfolding accept
step_accept who e s d u R k None i = rw (i, accept) (k.still d)
step_accept who e s d u R k (Some a) i = rw (i, accept) (go a.link)
  where
    go : (l : Link) → R (accepted_on who u a l d) (elim l as (λ _. Move) [
      | Idle ↦ move [] d
      | Opening x ↦ move [] d
      | Offered x ↦
          perform
          (TxOut.Recovery a.peer (PeerRecord.AcceptAssoc x (next_mark who d) u) ∷ [])
          (record (with_mark_drawn d) { arcs = put_arc d.arcs (record a { link = Live x (next_mark who d) 0 0; dialogue = fresh_dialogue u Side.Subordinate }) })
      | Live x y sent taken ↦ move [] d
    ])
    go Idle = k.still d
    go (Opening x) = k.still d
    go (Offered x) = k.speaks (accepted_on who u a (Offered x) d) (TxOut.Recovery a.peer (PeerRecord.AcceptAssoc x (next_mark who d) u) ∷ []) refl (λ u h. absurd (cc (h)), one_said e s (accepted_on who u a (Offered x) d) a.peer (PeerRecord.AcceptAssoc x (next_mark who d) u) tt) refl (rw (mark_same (next_mark who d)) refl)
    go (Live x y v w) = k.still d

step_reject : (who : Who) (s d : Digest) (R : Digest → Move → Type 0) → Steps who (Event.Do Request.Reject) s R → R d (reject d)
step_reject who s d R k = reject_cases (R d) d (k.still d) (λ a x i j. k.speaks d (TxOut.Recovery a.peer (PeerRecord.ShutAssoc x None) ∷ TxOut.Close a.peer.node ∷ []) refl (λ u h. absurd (cc (h)), one_said (Event.Do Request.Reject) s d a.peer (PeerRecord.ShutAssoc x None) tt) refl refl)

pub said_itself : (p : ℕ) → ((p == p) && true) ≡ true
said_itself p = grind (arith, nat_tests)

step_speak : (who : Who) (e : Event) (s d : Digest) (R : Digest → Move → Type 0) → Steps who e s R → (p : ℕ) (a : Asked) (r : DialogueRecord) → are_spoken (TxOut.Carry p r ∷ []) ≡ true
    → said_by e ≡ Some (p, a) → (a ≡ Ask_defer_end → ⊥) → are_said e (TxOut.Carry p r ∷ []) ≡ true → R d (perform (TxOut.Carry p r ∷ []) (record d { arcs = with_dialogue d.arcs p (said a) }))
step_speak who e s d R k p a r ok asked other said_so =
    k.changes_dialogue d p (said a) (perform (TxOut.Carry p r ∷ []) (record d { arcs = with_dialogue d.arcs p (said a) })) (By_saying a asked refl (λ i. absurd (other i)))
    (k.speaks (record d { arcs = with_dialogue d.arcs p (said a) }) (TxOut.Carry p r ∷ []) ok (λ u h. absurd (cc (h)), λ z r h. absurd h) said_so refl)

pub seen_branch : (arcs : List Arc) (bs : List Branch) (p : ℕ) → row_holds (seen_rows arcs bs) p (λ b. true) ≡ has_branch_at bs p
seen_branch arcs [] p = refl
seen_branch arcs (b ∷ bs) p = grind (arith, seen_branch arcs bs p)

pub abort_peer : (who : Who) (d : Digest) (p : ℕ) (c : Current) → (situation_at who d p).branch ≡ true → d.current ≡ Some c → is_peer c p ≡ true
unfolding situation_of
abort_peer who d p c b i =
    let one : (is_under_at c.key p || row_holds (seen_rows d.arcs c.branches) p (λ b. true)) ≡ true = rw (i, situation_at) at b in
    let two = seen_branch d.arcs c.branches p in
    grind (arith, one, two)

step_abort : (who : Who) (d : Digest) (p : ℕ) (R : Digest → Move → Type 0) → Steps who (Event.Do (Request.UAbort p)) d R → IsLate d → refused_request who d (Request.UAbort p) ≡ None → R d (abort who p d)
unfolding abort refused_tx
step_abort who d p R k late ok = go (situation_at who d p).branch refl
  where
    go : (b : Bool) → (situation_at who d p).branch ≡ b
        → R d (if b then transact who (TxEvent.User (Request.UAbort p)) d else perform (TxOut.Carry p DialogueRecord.UAbort ∷ TxOut.Close p ∷ []) d)
    go false i = k.speaks d (TxOut.Carry p DialogueRecord.UAbort ∷ TxOut.Close p ∷ []) refl (λ u h. absurd (cc (h)), λ z r h. absurd h) (said_itself p) refl
    go true i =
        step_transact who (Event.Do (Request.UAbort p)) d R k (TxEvent.User (Request.UAbort p)) d (refl, refl, λ n off. refl) (λ c j. (refl, abort_peer who d p c i j))
        (λ c j. record {
          late = late c j;
          ok = λ t. refl;
          abort = λ q h. abort_active who d p c ok i j (late c j);
          ordered = λ h. cc (h);
          not_begun = λ arcs h. cc (h);
        })
        (λ n i. absurd (cc (i)))

-- a request that speaks of the transaction as a whole
step_user_request : (who : Who) (d : Digest) (r : Request) (R : Digest → Move → Type 0) → Steps who (Event.Do r) d R → IsLate d → ((c : Current) → IsAsked (Event.Do r) c (TxEvent.User r)) → ((p : ℕ) → r ≡ Request.UAbort p → ⊥)
    → ((c : Current) → d.current ≡ Some c → refused_tx (TxEvent.User r) (seen who d.arcs c) ≡ None) → R d (transact who (TxEvent.User r) d)
step_user_request who d r R k late asked a ok =
    step_transact who (Event.Do r) d R k (TxEvent.User r) d (refl, refl, λ n off. refl) (λ c j. asked c)
    (λ c j. put_plain who d c (TxEvent.User r) (late c j) (λ t. ok c j) (λ p h. absurd (a p (cc (h)))) (λ h. cc (h)) (λ arcs h. cc (h))) (λ n i. absurd (cc (i)))

-- the user defers an end on a live arc of an active transaction
pub end_said : (who : Who) (d : Digest) (p : ℕ) → IsLate d → refused_request who d (Request.DeferEnd p) ≡ None → may_put_off d p ≡ true
unfolding refused_request refused_on_arc situation_of
end_said who d p late ok = rw (live (find_arc d.arcs p) refl, active d.current refl) refl
  where
    live : (o : Option Arc) → find_arc d.arcs p ≡ o → is_live_with_peer d.arcs p ≡ true
    live None i = absurd (grind (arith, ok, i))
    live (Some a) i = grind (arith, ok, i)

    one : refused_at who d p 0 Ask_defer_end None ≡ None
    one = ok

    phase : (c : Current) → d.current ≡ Some c → (q : Phase) → c.phase ≡ q → is_active (phase_of d) ≡ true
    phase c i Phase.Active j = rw (i, phase_of) (ap is_active j)
    phase c i Phase.Nil j = absurd (cc (late c i, ap is_nil j))
    phase c i q j = absurd (grind (arith, one, i, j))

    active : (o : Option Current) → d.current ≡ o → is_active (phase_of d) ≡ true
    active None i = absurd (grind (arith, one, i))
    active (Some c) i = phase c i c.phase refl

-- what is said on one arc puts nothing off on another
pub ends_dialogue : (arcs : List Arc) (q : ℕ) (f : Dialogue → Dialogue) (p : ℕ) → ((x : Dialogue) → (q == p) ≡ true → is_end_deferred (f x).deferral ≡ is_end_deferred x.deferral) → is_end_deferred_at (with_dialogue arcs q f) p ≡ is_end_deferred_at arcs p
ends_dialogue [] q f p k = refl
ends_dialogue (a ∷ arcs) q f p k = go (a.peer.node == q) refl (a.peer.node == p) refl (ends_dialogue arcs q f p k)
  where
    go : (u : Bool) → (a.peer.node == q) ≡ u → (v : Bool) → (a.peer.node == p) ≡ v → is_end_deferred_at (with_dialogue arcs q f) p ≡ is_end_deferred_at arcs p
        → is_end_deferred_at (if u then record a { dialogue = f a.dialogue } ∷ arcs else a ∷ with_dialogue arcs q f) p ≡ is_end_deferred_at (a ∷ arcs) p
    go true i true j rest = rw (j, is_end_deferred_at) (k a.dialogue (grind (arith, nat_tests, i, j)))
    go true i false j rest = rw (j, is_end_deferred_at) refl
    go false i true j rest = rw (j, is_end_deferred_at) refl
    go false i false j rest = rw (j, is_end_deferred_at) rest

said_off : (a : Asked) (x : Dialogue) → is_deferring a ≡ false → is_end_deferred (said a x).deferral ≡ is_end_deferred x.deferral
unfolding said
said_off Ask_defer_end x h = absurd (cc (h))
said_off Ask_defer_grant x h = absurd (cc (h))
said_off a x h = grind (arith, h)

said_aside : (e : Event) (arcs : List Arc) (q : ℕ) (a : Asked) (p : ℕ) → said_by e ≡ Some (q, a) → (puts_off_at e p || closes_at e p) ≡ false → is_end_deferred_at (with_dialogue arcs q (said a)) p ≡ is_end_deferred_at arcs p
said_aside e arcs q a p by off =
    let mine : ((q == p) && is_deferring a) ≡ false = ap (λ (o : Option (ℕ × Asked)). elim o as (λ _. Bool) [ None ↦ false | Some v ↦ (v.0 == p) && is_deferring v.1 ]) (sym by) ∙ first_of _ _ _ off in
    ends_dialogue arcs q (said a) p (λ x at. said_off a x (second_of (q == p) (is_deferring a) mine at))
  where
    first_of : (x y z : Bool) → ((x || y) || z) ≡ false → x ≡ false
    first_of x y z h = grind (arith, h)

    second_of : (x y : Bool) → (x && y) ≡ false → x ≡ true → y ≡ false
    second_of x y h i = grind (arith, h, i)

step_defer : (who : Who) (d : Digest) (r : Request) (p : ℕ) (a : Asked) (R : Digest → Move → Type 0) → Steps who (Event.Do r) d R → IsLate d → ((c : Current) → IsAsked (Event.Do r) c (TxEvent.User r)) → ((q : ℕ) → r ≡ Request.UAbort q → ⊥)
    → ((g : Digest) (c : Current) → refused_tx (TxEvent.User r) (seen who g.arcs c) ≡ None) → said_by (Event.Do r) ≡ Some (p, a) → (a ≡ Ask_defer_end → may_put_off d p ≡ true) → R d (transact who (TxEvent.User r) (record d { arcs = with_dialogue d.arcs p (said a) }))
step_defer who d r p a R k late asked b ok by off =
    let g : Digest = record d { arcs = with_dialogue d.arcs p (said a) } in
    k.changes_dialogue d p (said a) (transact who (TxEvent.User r) g) (By_saying a by refl off)
    (step_transact who (Event.Do r) d R k (TxEvent.User r) g (refl, refl, λ n off. said_aside (Event.Do r) d.arcs p a n by off) (λ c j. asked c)
    (λ c j. put_plain who g c (TxEvent.User r) (late c j) (λ t. ok g c) (λ q h. absurd (b q (cc (h)))) (λ h. cc (h)) (λ arcs h. cc (h))) (λ n i. absurd (cc (i))))

root_may : (who : Who) (d : Digest) (p : ℕ) → refused_request who d (Request.BeginTransaction p) ≡ None → d.current ≡ None → may_root d ≡ true
unfolding refused_request refused_on_arc situation_of
root_may who d p ok none = go (find_arc d.arcs p) refl
  where
    go : (o : Option Arc) → find_arc d.arcs p ≡ o → may_root d ≡ true
    go None i = absurd (grind (arith, i, none, ok))
    go (Some a) i = grind (arith, i, none, ok)

free_leads : (arcs : List Arc) (p : ℕ) (a : Arc) → find_arc arcs p ≡ Some a → may_begin a ≡ true → some_leads may_begin p arcs ≡ true
free_leads [] p a h i = absurd cc
free_leads (b ∷ arcs) p a h i = grind (arith, nat_tests, h, i, free_leads arcs p a)

begin_free : (who : Who) (d : Digest) (p : ℕ) → refused_request who d (Request.BeginTransaction p) ≡ None → some_leads may_begin p d.arcs ≡ true
unfolding refused_request refused_on_arc
begin_free who d p ok = go (find_arc d.arcs p) refl
  where
    go : (o : Option Arc) → find_arc d.arcs p ≡ o → some_leads may_begin p d.arcs ≡ true
    go None i = absurd (grind (arith, i, ok))
    go (Some a) i = free_leads d.arcs p a i (grind (arith, i, ok))

step_begin_request : (who : Who) (d : Digest) (p : ℕ) (R : Digest → Move → Type 0) → Steps who (Event.Do (Request.BeginTransaction p)) d R → refused_request who d (Request.BeginTransaction p) ≡ None
    → R d (begin_transaction who p d)
unfolding begin_transaction
step_begin_request who d p R k ok = go d.current refl
  where
    go : (o : Option Current) → d.current ≡ o → R d (elim o as (λ _. Move) [ None ↦ start_root who (p ∷ []) d | Some c ↦ begin_on who p d ])
    go None i = step_root who (Event.Do (Request.BeginTransaction p)) d R k (p ∷ []) d (rw (i, phase_of) refl) (root_may who d p ok i) (begin_free who d p ok) (λ apart. named_says who d p ok)
    go (Some c) i = k.begins d p (begin_free who d p ok)

pub user_ok : (who : Who) (d : Digest) (r : Request) → refused_request who d r ≡ None → (r ≡ Request.Commit) ⊎ (r ≡ Request.Done) ⊎ (r ≡ Request.Rollback) ⊎ (r ≡ Request.Unchanged)
    → (c : Current) → d.current ≡ Some c → refused_tx (TxEvent.User r) (seen who d.arcs c) ≡ None
unfolding refused_request refused_tx
user_ok who d Request.Commit ok w c i = rw i at ok
user_ok who d Request.Done ok w c i = rw i at ok
user_ok who d Request.Rollback ok w c i = rw i at ok
user_ok who d Request.Unchanged ok w c i = rw i at ok
user_ok who d r ok w c i = absurd (grind (arith, w))

defer_ok : (who : Who) (r : Request) → (p : ℕ) → (r ≡ Request.DeferEnd p) ⊎ (r ≡ Request.DeferGrant p) ⊎ (r ≡ Request.Prepare p) → (g : Digest) (c : Current)
    → refused_tx (TxEvent.User r) (seen who g.arcs c) ≡ None
unfolding refused_tx
defer_ok who (Request.DeferEnd q) p w g c = refl
defer_ok who (Request.DeferGrant q) p w g c = refl
defer_ok who (Request.Prepare q) p w g c = refl
defer_ok who r p w g c = absurd (grind (arith, w))

pub step_request : (who : Who) (d : Digest) (r : Request) (R : Digest → Move → Type 0) → Steps who (Event.Do r) (prelude who d (Event.Do r)) R → IsLate d → refused_request who d r ≡ None
    → R (prelude who d (Event.Do r)) (do_request who r d)
step_request who d (Request.BeginDialogue a u) R k late ok = step_call who d a u R k
step_request who d (Request.Accept u) R k late ok = step_accept who (Event.Do (Request.Accept u)) (prelude who d (Event.Do (Request.Accept u))) d u R k (superior_arc d) refl
step_request who d Request.Reject R k late ok = step_reject who d d R k
step_request who d (Request.EndDialogue p) R k late ok = k.speaks d (TxOut.Carry p DialogueRecord.EndDialogue ∷ TxOut.Close p ∷ []) refl (λ u h. absurd (cc (h)), λ z r h. absurd h) (said_itself p) refl
step_request who d (Request.UserData p xs) R k late ok = step_speak who _ d d R k p Ask_data (DialogueRecord.UserData xs) refl refl (λ i. cc (i)) refl
step_request who d (Request.UError p) R k late ok = step_speak who _ d d R k p Ask_error DialogueRecord.UError refl refl (λ i. cc (i)) refl
step_request who d (Request.UAbort p) R k late ok = step_abort who d p R k late ok
step_request who d (Request.Grant p) R k late ok = step_speak who _ d d R k p Ask_grant DialogueRecord.Grant refl refl (λ i. cc (i)) (said_itself p)
step_request who d (Request.AskControl p) R k late ok = step_speak who _ d d R k p Ask_control DialogueRecord.AskControl refl refl (λ i. cc (i)) refl
step_request who d (Request.Handshake p) R k late ok = step_speak who _ d d R k p Ask_handshake DialogueRecord.Handshake refl refl (λ i. cc (i)) (said_itself p)
step_request who d (Request.Respond p) R k late ok = step_speak who _ d d R k p Ask_respond DialogueRecord.Response refl refl (λ i. cc (i)) (said_itself p)
step_request who d (Request.HandshakeGrant p) R k late ok = step_speak who _ d d R k p Ask_handshake_grant DialogueRecord.HandshakeGrant refl refl (λ i. cc (i)) (said_itself p)
step_request who d (Request.BeginTransaction p) R k late ok = step_begin_request who d p R k ok
step_request who d (Request.DeferEnd p) R k late ok = step_defer who d (Request.DeferEnd p) p Ask_defer_end R k late (λ c. refl) (λ q h. cc (h)) (λ g c. defer_ok who (Request.DeferEnd p) p (inl refl) g c) refl (λ i. end_said who d p late ok)
step_request who d (Request.DeferGrant p) R k late ok = step_defer who d (Request.DeferGrant p) p Ask_defer_grant R k late (λ c. refl) (λ q h. cc (h)) (λ g c. defer_ok who (Request.DeferGrant p) p (inr (inl refl)) g c) refl (λ i. cc (i))
step_request who d (Request.Prepare p) R k late ok = step_user_request who d (Request.Prepare p) R k late (λ c. refl) (λ q h. cc (h)) (λ c j. defer_ok who (Request.Prepare p) p (inr (inr refl)) d c)
step_request who d Request.Commit R k late ok = step_user_request who d Request.Commit R k late (λ c. refl) (λ q h. cc (h)) (λ c j. user_ok who d Request.Commit ok (inl refl) c j)
step_request who d Request.Done R k late ok = step_user_request who d Request.Done R k late (λ c. refl) (λ q h. cc (h)) (λ c j. user_ok who d Request.Done ok (inr (inl refl)) c j)
step_request who d Request.Rollback R k late ok = step_user_request who d Request.Rollback R k late (λ c. refl) (λ q h. cc (h)) (λ c j. user_ok who d Request.Rollback ok (inr (inr (inl refl))) c j)
step_request who d Request.Unchanged R k late ok = step_user_request who d Request.Unchanged R k late (λ c. refl) (λ q h. cc (h)) (λ c j. user_ok who d Request.Unchanged ok (inr (inr (inr refl))) c j)

-- ---- what the plain steps keep, these keep

pub plain_steps : (who : Who) (e : Event) (s : Digest) (R : Digest → Move → Type 0) → Moves who e s R → Steps who e s R
plain_steps who e s R k = record {
  still = k.still;
  chain = k.chain;
  speaks = λ d outs h own said last. k.speaks d outs h own said;
  changes_dialogue = k.changes_dialogue;
  drops_arc = k.drops_arc;
  notes_kept = λ d ks m held noted one. k.notes_kept d ks m held one;
  keeps = k.keeps;
  turns = λ d c f now at asked put gone like alike. k.turns d c f now at asked put gone;
  begins = k.begins;
  roots = λ d m nil may says one. k.roots d m nil may one;
}

pub every_start : (who : Who) (e : Event) (s : Digest) (R : Digest → Move → Type 0) → Moves who e s R → (d : Digest) → R d (try_start who d)
every_start who e s R k d = step_start who e s R (plain_steps who e s R k) d

pub every_transact : (who : Who) (e : Event) (s : Digest) (R : Digest → Move → Type 0) → Moves who e s R → (f : TxEvent) (d : Digest) → d.current ≡ s.current
    → ((c : Current) → s.current ≡ Some c → IsAsked e c f) → ((c : Current) → s.current ≡ Some c → IsPut f (seen who d.arcs c)) → ((p : ℕ) → loses f p ≡ true → link_with d.arcs p ≡ Idle) → R d (transact who f d)
every_transact who e s R k f d same asked put gone = step_transact who e t R (plain_steps who e t R plain) f d (same, refl, λ n off. refl) asked put gone
  where
    t : Digest
    t = record s { arcs = d.arcs; drawn = d.drawn }

    plain : Moves who e t R
    plain = record {
      still = k.still;
      chain = k.chain;
      speaks = k.speaks;
      changes_dialogue = k.changes_dialogue;
      drops_arc = k.drops_arc;
      notes_kept = k.notes_kept;
      keeps = k.keeps;
      turns = k.turns;
      begins = k.begins;
      roots = k.roots;
    }
