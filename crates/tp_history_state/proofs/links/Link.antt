-- In every legal history the link of every arc is what the questions answer.
use Rattle.tp_history_state.proofs.Vocabulary.{if◌then◌else◌, ◌≡◌, ◌+◌, inl, inr, ℕ, Bool, true, false, refl, ap, sym, subst, ◌∙◌, arith, Option, Some, None, List, [], ◌∷◌, ◌++◌, ◌&&◌, ◌||◌, ◌==◌, not, and-false, nat_tests, Mark, Aaid, BranchId, Addr, Request, Indication, DialogueRecord, Holder, PeerRecord, LogRec, Side, TxEvent, TxOut, Who, Origin, Event, Entry, Out, Link, Idle, Arc, Under, Branch, Current, Digest, is_live, is_idle, with_one_taken, is_nil, is_active, Sight, Acts, Nothing_happens, Out_of_phase, acts_or_out, begun_by, cleared, find_arc, link_of, link_with, is_live_with_peer, without_arc, with_dialogue, performed, Transaction, Turn, turn, acts, is_under, is_under_at, row_holds, with_row, complete_commit, sight_of_tx, takes, leave, transacted, refused_tx, has_branch_at, refused_request, abort, reject, Move, move, followed, perform, is_leaving, is_end_deferred_at, is_up_ending, seen, seen_rows, situation_at, Passage, Leaves, passage, is_over, entered, played, turned, passed, transact, left_arcs, try_start, begin_chained, fresh_current, sight_at, sight_of, take_record, take_abort, take_begin, take_on, lose, broken_pair, break_off, refusal, verdict, action, after_crash, started, digest, acting_from, is_abort, is_end_dialogue, is_left_end, is_at, is_up, was_branch, superior_in, sent_more, link_by, deferral_in, tells_commit_complete, closes_by_deferral, link_in, shuts_to, is_unchanged, same_link, IsGrown, IsLegal, IsLate, IsPut, are_apart, closes_at, prelude, asks_tell, count_to, IsLinked, links_agree, link_agrees, apart_turn, are_separate, all_found, there_found, abort_active, every_transact, plain_arrival, plain_request, plain_give_up, find_arc_is, the, begin_acts, abort_sight, is_headed_by, are_below, IsPlaced, headed_law, placed_law, superior_at, begin_seen, Came, As_it_was, By_begin, By_crash, came_by, plain_law, late_law, count_append, more_none, more_more, mark_same, link_dialogue, link_without, linked_moves, link_entered, link_left, link_counted, superior_found, separate_law, busy_there, told_append, told_performed, nothing_late, is_end_deferred, whole_turn, started_next}
use Rattle.tp_runs.proofs.Breaks.{lost_idle}
use Rattle.tp_history_state.proofs.passages.Passage.{is_committed_told}
use Rattle.tp_history_state.proofs.deferral.Defers.{told_committed, begins_at}
use Rattle.tp_history_state.proofs.deferral.Deferral.{branch_now, branch_none, now_some, committed_tells, counted, taken_arc, acting_is, left_turned, may_leave, above_is}
use Rattle.tp_history_state.proofs.links.Shuts.{shuts_in, shuts_append, over_link, over_then, shuts_performed, shuts_played, shutless_up, up_shut, up_ends_at, ends_at, put_ends, seen_ends, closing_commits}
use Rattle.tp_history_state.proofs.links.Linked.{start_over, start_tells, chained_over}
use Rattle.tp_history_state.proofs.links.GivenUp.{IsGivenUp, no_give_up, given_up, given_row, given_outs, shuts_to_append, keep_commit, unshut_played, unshut_start, shut_played, given_turn, keep_shut}
use Rattle.tp_history_state.proofs.links.LinkBy.{IsLinkKnown, link_asks, closed_asks, end_is, off_when_dead, stale_idle, took_same, no_acting, aside_link}
use Rattle.tp_history_state.proofs.lemmas.Tells.{leave_tells}

-- ---- what ends a link

performed_idle : (arcs : List Arc) (outs : List TxOut) (p : ℕ) → are_apart outs ≡ true → shuts_in p outs ≡ true → link_with (performed arcs outs).0 p ≡ Idle
performed_idle arcs outs p h shuts = shuts_performed arcs outs p h ∙ rw shuts refl

idle_start : (who : Who) (p : ℕ) (d : Digest) → link_with d.arcs p ≡ Idle → link_with (try_start who d).next.arcs p ≡ Idle
idle_start who p d idle = start_over who p d ∙ ap (sent_more (count_to p (try_start who d).outs)) idle

-- an event of the transaction, whether a root is begun after it or not
pub transact_so : (Q : Move → Type 0) (who : Who) (f : TxEvent) (d : Digest) (c : Current) → d.current ≡ Some c → Q (turned who f d c) → Q (followed (turned who f d c) (try_start who)) → Q (transact who f d)
unfolding transact
transact_so Q who f d c now one two = grind (arith, is_over, passed, turned)

closed_transact : (who : Who) (f : TxEvent) (d : Digest) (c : Current) (p : ℕ) → d.current ≡ Some c → IsPut f (seen who d.arcs c) → shuts_in p (transacted f (seen who d.arcs c)).outs ≡ true → link_with (transact who f d).next.arcs p ≡ Idle
closed_transact who f d c p now fits shuts = transact_so (λ m. link_with m.next.arcs p ≡ Idle) who f d c now idle (idle_start who p (turned who f d c).next idle)
  where
    t : Transaction
    t = seen who d.arcs c

    a : Turn
    a = transacted f t

    w : Passage
    w = passage (is_leaving f) t.phase a.next.phase

    idle : link_with (turned who f d c).next.arcs p ≡ Idle
    idle = shuts_played d t w a (whole_turn f t) (entered t w d.arcs) p (apart_turn f t fits) ∙ rw shuts refl

self : (n : ℕ) → (n == n) ≡ true
self n = grind (arith, nat_tests)

-- a record that ends it is taken on the arc
aborted_idle : (who : Who) (b : Addr) (d : Digest) → IsLate d → link_with (take_abort who b.node d).next.arcs b.node ≡ Idle
unfolding take_abort
aborted_idle who b d late = stays (take_abort who p d) (go d.current refl)
  where
    p : ℕ
    p = b.node

    mark : Mark
    mark = record { boot = 0; node = 0; count = 0 }

    e : Event
    e = the b mark mark 0 DialogueRecord.UAbort

    g : Digest
    g = record d { arcs = without_arc d.arcs p }

    idle : (n : ℕ) → p ≡ n → link_with g.arcs n ≡ Idle
    idle n same = link_without d.arcs p n ∙ grind (arith, nat_tests, same)

    go : (o : Option Current) → d.current ≡ o → IsLinked p g (elim o as (λ _. Move) [ None ↦ perform (TxOut.Tell (Indication.UAbort p) ∷ []) g | Some c ↦ transact who (TxEvent.Took p DialogueRecord.UAbort) g ])
    go None i = (linked_moves who e d p).speaks g (TxOut.Tell (Indication.UAbort p) ∷ []) refl (λ u h. absurd (cc (h)), λ z r h. absurd h) refl
    go (Some c) i =
        every_transact who e d (IsLinked p) (linked_moves who e d p) (TxEvent.Took p DialogueRecord.UAbort) g refl (λ v j. refl)
        (λ v j. record { late = late v j; ok = λ h. cc (h); abort = λ n h. cc (h); ordered = λ h. cc (h); not_begun = λ arcs h. cc (h) })
        (λ n i. idle n (grind (arith, nat_tests, i)))

    stays : (m : Move) → IsLinked p g m → link_with m.next.arcs p ≡ Idle
    stays m k = elim k.over.link [
      | inl i ↦ i ∙ ap (sent_more (count_to p m.outs)) (idle p refl)
      | inr i ↦ i
    ]

-- ---- each event that ends it

abbrev IsLinkStep : Origin → ℕ → Event → Option LogRec → List Out → List Entry → Type 0
IsLinkStep o p v rec outs h = link_with (action o.who (digest o h) v).next.arcs p ≡ link_in o p (record { event = v; rec = rec; outs = outs } ∷ h)

closed_step : (o : Origin) (p : ℕ) (v : Event) (rec : Option LogRec) (outs : List Out) (h : List Entry) → IsLinkKnown o h → link_by o p (record { event = v; rec = rec; outs = outs }) h (link_with (digest o h).arcs p) ≡ Idle → link_with (action o.who (digest o h) v).next.arcs p ≡ Idle → IsLinkStep o p v rec outs h
closed_step o p v rec outs h known by idle = idle ∙ sym (closed_asks o p (record { event = v; rec = rec; outs = outs }) h known by)

end_step : (o : Origin) (q : ℕ) (rec : Option LogRec) (outs : List Out) (h : List Entry) (p : ℕ) → IsLinkKnown o h → (q == p) ≡ true → IsLinkStep o p (Event.Do (Request.EndDialogue q)) rec outs h
end_step o q rec outs h p known i = closed_step o p (Event.Do (Request.EndDialogue q)) rec outs h known (rw i refl) (performed_idle (digest o h).arcs (TxOut.Carry q DialogueRecord.EndDialogue ∷ TxOut.Close q ∷ []) p refl (rw i refl))

abort_step : (o : Origin) (up : Option Addr) (q : ℕ) (rec : Option LogRec) (outs : List Out) (h : List Entry) (p : ℕ) → IsGrown o up (record { event = Event.Do (Request.UAbort q); rec = rec; outs = outs } ∷ h) → IsLinkKnown o h → (q == p) ≡ true → IsLinkStep o p (Event.Do (Request.UAbort q)) rec outs h
unfolding abort refused_tx
abort_step o up q rec outs h p legal known i = closed_step o p (Event.Do (Request.UAbort q)) rec outs h known (rw i refl) (go (situation_at o.who d q).branch refl)
  where
    d : Digest
    d = digest o h

    late : IsLate d
    late = late_law o up h legal.3

    some : (v : Option Current) → d.current ≡ v → (situation_at o.who d q).branch ≡ true → (c : Current) × (d.current ≡ Some c)
    some None j b = absurd (cc (ap (λ (w : Option Current). (situation_at o.who (record d { current = w }) q).branch) (sym j) ∙ b))
    some (Some c) j b = (c, j)

    go : (b : Bool) → (situation_at o.who d q).branch ≡ b → link_with (if b then transact o.who (TxEvent.User (Request.UAbort q)) d else perform (TxOut.Carry q DialogueRecord.UAbort ∷ TxOut.Close q ∷ []) d).next.arcs p ≡ Idle
    go false j = performed_idle d.arcs (TxOut.Carry q DialogueRecord.UAbort ∷ TxOut.Close q ∷ []) p refl (rw i refl)
    go true j =
        let c = some d.current refl j in
        closed_transact o.who (TxEvent.User (Request.UAbort q)) d c.0 p c.1
        (record { late = late c.0 c.1; ok = λ t. refl; abort = λ n k. abort_active o.who d q c.0 (plain_request o.who d (Request.UAbort q) legal.0) j c.1 (late c.0 c.1); ordered = λ k. cc (k); not_begun = λ arcs k. cc (k) })
        (rw i refl)

lose_step : (o : Origin) (up : Option Addr) (q : ℕ) (rec : Option LogRec) (outs : List Out) (h : List Entry) (p : ℕ) → IsGrown o up (record { event = Event.Lose q; rec = rec; outs = outs } ∷ h) → IsLinkKnown o h → (q == p) ≡ true → IsLinkStep o p (Event.Lose q) rec outs h
lose_step o up q rec outs h p legal known i =
    let at : q ≡ p = grind (arith, nat_tests, i) in
    closed_step o p (Event.Lose q) rec outs h known (rw i refl) (ap (link_with (action o.who (digest o h) (Event.Lose q)).next.arcs) (sym at) ∙ lost_idle o.who (Event.Lose q) (digest o h) (late_law o up h legal.3) q (λ c. refl))

break_step : (o : Origin) (up : Option Addr) (from : Addr) (r : PeerRecord) (rec : Option LogRec) (outs : List Out) (h : List Entry) (p : ℕ) → IsGrown o up (record { event = Event.Break from r; rec = rec; outs = outs } ∷ h) → IsLinkKnown o h → (from.node == p) ≡ true → IsLinkStep o p (Event.Break from r) rec outs h
unfolding break_off refusal verdict
break_step o up from r rec outs h p legal known i =
    let at : from.node ≡ p = grind (arith, nat_tests, i) in
    closed_step o p (Event.Break from r) rec outs h known (rw i refl) (ap (link_with (action o.who d (Event.Break from r)).next.arcs) (sym at) ∙ go (broken_pair r) refl)
  where
    d : Digest
    d = digest o h

    go : (v : Option (Mark × Mark)) → broken_pair r ≡ v → link_with (elim v as (λ _. Move) [ None ↦ move [] d | Some xy ↦ followed (perform (TxOut.Recovery from (PeerRecord.ShutAssoc xy.0 (Some xy.1)) ∷ []) d) (lose o.who from.node) ]).next.arcs from.node ≡ Idle
    go None j = absurd (let ok = legal.0 in grind (arith, ok, j))
    go (Some xy) j = lost_idle o.who (Event.Lose from.node) (perform (TxOut.Recovery from (PeerRecord.ShutAssoc xy.0 (Some xy.1)) ∷ []) d).next (late_law o up h legal.3) from.node (λ c. refl)

shut_step : (o : Origin) (up : Option Addr) (from : Addr) (x : Mark) (y : Option Mark) (rec : Option LogRec) (outs : List Out) (h : List Entry) (p : ℕ) → IsGrown o up (record { event = Event.Arrive from (PeerRecord.ShutAssoc x y); rec = rec; outs = outs } ∷ h) → IsLinkKnown o h → (from.node == p) ≡ true
    → IsLinkStep o p (Event.Arrive from (PeerRecord.ShutAssoc x y)) rec outs h
shut_step o up from x None rec outs h p legal known i = closed_step o p (Event.Arrive from (PeerRecord.ShutAssoc x None)) rec outs h known (rw i refl) (performed_idle (digest o h).arcs (TxOut.Close from.node ∷ TxOut.Tell (Indication.Rejected from.node) ∷ []) p refl (rw i refl))
shut_step o up from x (Some y) rec outs h p legal known i =
    let at : from.node ≡ p = grind (arith, nat_tests, i) in
    closed_step o p (Event.Arrive from (PeerRecord.ShutAssoc x (Some y))) rec outs h known (rw i refl) (ap (link_with (action o.who (digest o h) (Event.Arrive from (PeerRecord.ShutAssoc x (Some y)))).next.arcs) (sym at) ∙ lost_idle o.who (Event.Lose from.node) (digest o h) (late_law o up h legal.3) from.node (λ c. refl))

-- the offer of the superior is refused
pub record IsRefused (who : Who) (d : Digest) (p : ℕ) : Type 0 where
  pub top : Addr
  pub superior : d.superior ≡ Some top
  pub link : link_with (reject d).next.arcs p ≡ (if top.node == p then Idle else link_with d.arcs p)
  pub silent : (count_to p (reject d).outs ≡ 0) × (told_committed (reject d).outs ≡ false)

pub refused_link : (who : Who) (d : Digest) (p : ℕ) → refusal who d (Event.Do Request.Reject) ≡ None → IsRefused who d p
unfolding refusal verdict refused_request reject
refused_link who d p ok = grind (arith, find_arc_is, link_without, superior_found)

-- an entry that completes nothing, and is no leaving, closes nothing that is deferred
closes_none : (o : Origin) (p : ℕ) (e : Entry) (h : List Entry) → told_committed e.outs ≡ false → is_unchanged e.event ≡ false → closes_by_deferral o p e h ≡ false
closes_none o p e h told stays = grind (arith, committed_tells)

-- and is what the entry says of it
stays_step : (o : Origin) (p : ℕ) (v : Event) (rec : Option LogRec) (outs : List Out) (h : List Entry) → IsLinkKnown o h → told_committed outs ≡ false → is_unchanged v ≡ false → link_with (action o.who (digest o h) v).next.arcs p ≡ sent_more (count_to p outs) (link_by o p (record { event = v; rec = rec; outs = outs }) h (link_with (digest o h).arcs p)) → IsLinkStep o p v rec outs h
stays_step o p v rec outs h known told stays is =
    let e : Entry = record { event = v; rec = rec; outs = outs } in
    is ∙ sym (link_asks o p e h known ∙ ap (λ (b : Bool). over_link b (count_to p outs) (link_by o p e h (link_with (digest o h).arcs p))) (closes_none o p e h told stays))

reject_step : (o : Origin) (up : Option Addr) (rec : Option LogRec) (outs : List Out) (h : List Entry) (p : ℕ) → IsGrown o up (record { event = Event.Do Request.Reject; rec = rec; outs = outs } ∷ h) → IsLinkKnown o h → IsLinkStep o p (Event.Do Request.Reject) rec outs h
reject_step o up rec outs h p legal known =
    let d : Digest = digest o h in
    let k : IsRefused o.who d p = refused_link o.who d p legal.0 in
    let said : (reject d).outs ≡ outs = ap (λ (e : Entry). e.outs) legal.1 in
    let count : count_to p outs ≡ 0 = ap (count_to p) (sym said) ∙ k.silent.0 in
    let above : Some k.top ≡ superior_in h = sym k.superior ∙ (plain_law o up h legal.3).superior in
    stays_step o p (Event.Do Request.Reject) rec outs h known (ap told_committed (sym said) ∙ k.silent.1) refl
    (k.link ∙ ap (λ (v : Option Addr). if is_at v p then Idle else link_with d.arcs p) above ∙ sym (ap (λ (n : ℕ). sent_more n (if is_at (superior_in h) p then Idle else link_with d.arcs p)) count ∙ more_none (if is_at (superior_in h) p then Idle else link_with d.arcs p)))

-- ---- records that end it, where they act

pub counted_link : (r : DialogueRecord) (n p : ℕ) (d : Digest) → link_with (counted r n d).arcs p ≡ (if n == p then with_one_taken (link_with d.arcs p) else link_with d.arcs p)
counted_link r n p d = grind (arith, link_counted, link_dialogue)

-- a record that does not act is counted alone
unheeded : (o : Origin) (up : Option Addr) (from : Addr) (x y : Mark) (q : ℕ) (r : DialogueRecord) (rec : Option LogRec) (outs : List Out) (h : List Entry) (p : ℕ) → IsGrown o up (record { event = the from x y q r; rec = rec; outs = outs } ∷ h) → IsLinkKnown o h → from.node ≡ p → is_abort r ≡ false
    → (b : Arc) → b.peer.node ≡ from.node → acting_from o p (the from x y q r) h ≡ None → action o.who (digest o h) (the from x y q r) ≡ move [] (counted r b.peer.node (digest o h)) → IsLinkStep o p (the from x y q r) rec outs h
unheeded o up from x y q r rec outs h p legal known at plain b node none moved = grind (arith, nat_tests, counted_link, more_none, took_same)

-- what is taken on the arc
taken_by : (o : Origin) (up : Option Addr) (from : Addr) (x y : Mark) (q : ℕ) (r : DialogueRecord) (rec : Option LogRec) (outs : List Out) (h : List Entry) (p : ℕ) → IsGrown o up (record { event = the from x y q r; rec = rec; outs = outs } ∷ h) → IsLinkKnown o h → from.node ≡ p → is_abort r ≡ false
    → ((b : Arc) → b.peer.node ≡ from.node → find_arc (digest o h).arcs from.node ≡ Some b → sight_at o.who (digest o h) b r ≡ Acts → link_with (take_record o.who b r (counted r b.peer.node (digest o h))).next.arcs p ≡ Idle)
    → ((l : Link) → acting_from o p (the from x y q r) h ≡ Some r → link_by o p (record { event = the from x y q r; rec = rec; outs = outs }) h l ≡ Idle) → IsLinkStep o p (the from x y q r) rec outs h
taken_by o up from x y q r rec outs h p legal known at plain ends by = go (sight_at o.who d b r) refl
  where
    d : Digest
    d = digest o h

    arc : (b : Arc) × (find_arc d.arcs from.node ≡ Some b) × (b.peer.node ≡ from.node) × (action o.who d (the from x y q r) ≡ take_on o.who b r d)
    arc = taken_arc o.who d from x y q r legal.0

    b : Arc
    b = arc.0

    acting : acting_from o p (the from x y q r) h ≡ (if acts (sight_at o.who d b r) then Some r else None)
    acting = acting_is o p from x y q r h b at arc.1

    taken : (w : Sight) → sight_at o.who d b r ≡ w → action o.who d (the from x y q r) ≡ elim w as (λ _. Move) [ Acts ↦ take_record o.who b r (counted r b.peer.node d) | Nothing_happens ↦ move [] (counted r b.peer.node d) | Out_of_phase ↦ move [] (counted r b.peer.node d) ]
    taken w j = arc.3 ∙ ap (λ (z : Sight). elim z as (λ _. Move) [ Acts ↦ take_record o.who b r (counted r b.peer.node d) | Nothing_happens ↦ move [] (counted r b.peer.node d) | Out_of_phase ↦ move [] (counted r b.peer.node d) ]) j

    go : (w : Sight) → sight_at o.who d b r ≡ w → IsLinkStep o p (the from x y q r) rec outs h
    go Acts j = closed_step o p (the from x y q r) rec outs h known (by (link_with d.arcs p) (acting ∙ rw (ap acts j) refl)) (ap (λ (m : Move). link_with m.next.arcs p) (taken Acts j) ∙ ends b arc.2 arc.1 j)
    go Nothing_happens j = unheeded o up from x y q r rec outs h p legal known at plain b arc.2 (acting ∙ rw (ap acts j) refl) (taken Nothing_happens j)
    go Out_of_phase j = unheeded o up from x y q r rec outs h p legal known at plain b arc.2 (acting ∙ rw (ap acts j) refl) (taken Out_of_phase j)

end_record_step : (o : Origin) (up : Option Addr) (from : Addr) (x y : Mark) (q : ℕ) (rec : Option LogRec) (outs : List Out) (h : List Entry) (p : ℕ) → IsGrown o up (record { event = the from x y q DialogueRecord.EndDialogue; rec = rec; outs = outs } ∷ h) → IsLinkKnown o h → from.node ≡ p → IsLinkStep o p (the from x y q DialogueRecord.EndDialogue) rec outs h
end_record_step o up from x y q rec outs h p legal known at =
    taken_by o up from x y q DialogueRecord.EndDialogue rec outs h p legal known at refl
    (λ b node found j. let same : (b.peer.node == p) ≡ true = grind (arith, nat_tests, node, at) in performed_idle (counted DialogueRecord.EndDialogue b.peer.node (digest o h)).arcs (TxOut.Tell (Indication.EndDialogue b.peer.node) ∷ TxOut.Close b.peer.node ∷ []) p refl (rw same refl))
    (λ l acting. let here : (from.node == p) ≡ true = grind (arith, nat_tests, at) in rw (here, acting) refl)

-- the branches that a test chooses are the same among any arcs
holds_arcs : (arcs later : List Arc) (bs : List Branch) (p : ℕ) (f : Branch → Bool) → row_holds (seen_rows arcs bs) p f ≡ row_holds (seen_rows later bs) p f
holds_arcs arcs later [] p f = refl
holds_arcs arcs later (b ∷ bs) p f = grind (arith, holds_arcs arcs later bs p f)

left_end_acts : (who : Who) (d : Digest) (b : Arc) → sight_at who d b DialogueRecord.LeftEnd ≡ Acts → (c : Current) × (d.current ≡ Some c) × ((arcs : List Arc) → sight_of_tx (seen who arcs c) b.peer.node DialogueRecord.LeftEnd ≡ Acts)
unfolding sight_of sight_of_tx
left_end_acts who d b h = go d.current refl
  where
    go : (v : Option Current) → d.current ≡ v → (c : Current) × (d.current ≡ Some c) × ((arcs : List Arc) → sight_of_tx (seen who arcs c) b.peer.node DialogueRecord.LeftEnd ≡ Acts)
    go None i = absurd (grind (arith, h, i))
    go (Some c) i = (c, i, λ arcs. ap acts_or_out (holds_arcs arcs d.arcs c.branches b.peer.node _) ∙ grind (arith, h, i))

left_end_shuts : (t : Transaction) (n p : ℕ) → sight_of_tx t n DialogueRecord.LeftEnd ≡ Acts → (n == p) ≡ true → shuts_in p (transacted (TxEvent.Took n DialogueRecord.LeftEnd) t).outs ≡ true
left_end_shuts t n p acts i = ap (λ (v : Sight). shuts_in p (elim v as (λ _. Turn) [ Acts ↦ takes n DialogueRecord.LeftEnd t | Nothing_happens ↦ turn [] t | Out_of_phase ↦ turn [] t ]).outs) acts ∙ rw i refl

left_end_step : (o : Origin) (up : Option Addr) (from : Addr) (x y : Mark) (q : ℕ) (rec : Option LogRec) (outs : List Out) (h : List Entry) (p : ℕ) → IsGrown o up (record { event = the from x y q DialogueRecord.LeftEnd; rec = rec; outs = outs } ∷ h) → IsLinkKnown o h → from.node ≡ p → IsLinkStep o p (the from x y q DialogueRecord.LeftEnd) rec outs h
left_end_step o up from x y q rec outs h p legal known at =
    taken_by o up from x y q DialogueRecord.LeftEnd rec outs h p legal known at refl (λ b node found j. ends b node j)
    (λ l acting. let here : (from.node == p) ≡ true = grind (arith, nat_tests, at) in rw (here, acting) refl)
  where
    d : Digest
    d = digest o h

    late : IsLate d
    late = late_law o up h legal.3

    ends : (b : Arc) → b.peer.node ≡ from.node → sight_at o.who d b DialogueRecord.LeftEnd ≡ Acts → link_with (take_record o.who b DialogueRecord.LeftEnd (counted DialogueRecord.LeftEnd b.peer.node d)).next.arcs p ≡ Idle
    ends b node j =
        let n : ℕ = b.peer.node in
        let k = left_end_acts o.who d b j in
        let g : Digest = record (counted DialogueRecord.LeftEnd n d) { arcs = with_dialogue (counted DialogueRecord.LeftEnd n d).arcs n cleared } in
        let t : Transaction = seen o.who g.arcs k.0 in
        let same : (n == p) ≡ true = grind (arith, nat_tests, node, at) in
        let shuts : shuts_in p (transacted (TxEvent.Took n DialogueRecord.LeftEnd) t).outs ≡ true = left_end_shuts t n p (k.2 g.arcs) same in
        closed_transact o.who (TxEvent.Took n DialogueRecord.LeftEnd) g k.0 p k.1 (record { late = late k.0 k.1; ok = λ i. cc (i); abort = λ m i. cc (i); ordered = λ i. cc (i); not_begun = λ arcs i. cc (i) }) shuts

abort_record_step : (o : Origin) (up : Option Addr) (from : Addr) (x y : Mark) (q : ℕ) (rec : Option LogRec) (outs : List Out) (h : List Entry) (p : ℕ) → IsGrown o up (record { event = the from x y q DialogueRecord.UAbort; rec = rec; outs = outs } ∷ h) → IsLinkKnown o h → from.node ≡ p → IsLinkStep o p (the from x y q DialogueRecord.UAbort) rec outs h
abort_record_step o up from x y q rec outs h p legal known at = closed_step o p (the from x y q DialogueRecord.UAbort) rec outs h known (rw here refl) (ap (λ (m : Move). link_with m.next.arcs p) moved ∙ ap (link_with (take_abort o.who n g).next.arcs) (sym (arc.2 ∙ at)) ∙ aborted_idle o.who b.peer g (λ c i. late_law o up h legal.3 c i))
  where
    d : Digest
    d = digest o h

    here : (from.node == p) ≡ true
    here = grind (arith, nat_tests, at)

    arc : (b : Arc) × (find_arc d.arcs from.node ≡ Some b) × (b.peer.node ≡ from.node) × (action o.who d (the from x y q DialogueRecord.UAbort) ≡ take_on o.who b DialogueRecord.UAbort d)
    arc = taken_arc o.who d from x y q DialogueRecord.UAbort legal.0

    b : Arc
    b = arc.0

    n : ℕ
    n = b.peer.node

    g : Digest
    g = counted DialogueRecord.UAbort n d

    moved : action o.who d (the from x y q DialogueRecord.UAbort) ≡ take_abort o.who n g
    moved = arc.3 ∙ ap (λ (z : Sight). elim z as (λ _. Move) [ Acts ↦ take_record o.who b DialogueRecord.UAbort g | Nothing_happens ↦ move [] g | Out_of_phase ↦ move [] g ]) (abort_sight o.who d b)

-- ---- a record that begins a transaction

begin_link : (who : Who) (b : Arc) (t : Aaid) (i : BranchId) (v : Holder) (d : Digest) (p : ℕ) → link_with (take_begin who b t i v d).next.arcs p ≡ sent_more (count_to p (take_begin who b t i v d).outs) (link_with d.arcs p)
unfolding take_begin
begin_link who b t i v d p = chained_over who p g ∙ ap (sent_more (count_to p (begin_chained who g).outs)) (link_dialogue d.arcs b.peer.node (begun_by v Side.Subordinate) p)
  where
    g : Digest
    g = record d { arcs = with_dialogue d.arcs b.peer.node (begun_by v Side.Subordinate); current = Some (fresh_current (Under t i b.peer)) }

begin_step : (o : Origin) (up : Option Addr) (from : Addr) (x y : Mark) (q : ℕ) (t : Aaid) (i : BranchId) (v : Holder) (rec : Option LogRec) (outs : List Out) (h : List Entry) (p : ℕ) → IsGrown o up (record { event = the from x y q (DialogueRecord.Begin t i v); rec = rec; outs = outs } ∷ h) → IsLinkKnown o h → from.node ≡ p
    → IsLinkStep o p (the from x y q (DialogueRecord.Begin t i v)) rec outs h
begin_step o up from x y q t i v rec outs h p legal known at =
    ap (λ (m : Move). link_with m.next.arcs p) moved ∙ begin_link o.who b t i v (counted r n d) p ∙ ap (λ (k : ℕ). sent_more k (link_with (counted r n d).arcs p)) count ∙ ap (sent_more (count_to p outs)) (counted_link r n p d ∙ rw (arc.2, here) (took_same (link_with d.arcs p)) ∙ sym by)
    ∙ sym (link_asks o p e h known ∙ ap (λ (z : Bool). over_link z (count_to p outs) (link_by o p e h (link_with d.arcs p))) closes)
  where
    d : Digest
    d = digest o h

    r : DialogueRecord
    r = DialogueRecord.Begin t i v

    e : Entry
    e = record { event = the from x y q r; rec = rec; outs = outs }

    here : (from.node == p) ≡ true
    here = grind (arith, nat_tests, at)

    arc : (b : Arc) × (find_arc d.arcs from.node ≡ Some b) × (b.peer.node ≡ from.node) × (action o.who d (the from x y q r) ≡ take_on o.who b r d)
    arc = taken_arc o.who d from x y q r legal.0

    b : Arc
    b = arc.0

    n : ℕ
    n = b.peer.node

    acts_so : sight_at o.who d b r ≡ Acts
    acts_so = begin_acts o.who d from x y q t i v b (plain_arrival o.who d from _ legal.0) arc.1 (sight_at o.who d b r) refl

    moved : action o.who d (the from x y q r) ≡ take_begin o.who b t i v (counted r n d)
    moved = arc.3 ∙ ap (λ (z : Sight). elim z as (λ _. Move) [ Acts ↦ take_record o.who b r (counted r n d) | Nothing_happens ↦ move [] (counted r n d) | Out_of_phase ↦ move [] (counted r n d) ]) acts_so

    count : count_to p (take_begin o.who b t i v (counted r n d)).outs ≡ count_to p outs
    count = ap (λ (m : Move). count_to p m.outs) (sym moved) ∙ ap (λ (z : Entry). count_to p z.outs) legal.1

    by : link_by o p e h (link_with d.arcs p) ≡ with_one_taken (link_with d.arcs p)
    by = rw (here, no_acting is_end_dialogue o p from x y q r h refl, no_acting is_left_end o p from x y q r h refl) refl

    none : d.current ≡ None
    none = nothing_late d (late_law o up h legal.3) (begin_seen o.who d from x y q t i v b legal.0 arc.1).0

    closes : closes_by_deferral o p e h ≡ false
    closes = rw (branch_none o p h none) refl

-- ---- the user leaves

leave_shuts : (t : Transaction) (p : ℕ) → shuts_in p (leave t).outs ≡ (is_under_at t.key p && t.up_ends)
unfolding leave
leave_shuts t p = grind (arith, shutless_up, shuts_append, up_shut)

leave_apart : (t : Transaction) → are_apart (leave t).outs ≡ true
unfolding leave
leave_apart t = grind arith

leaves_step : (o : Origin) (up : Option Addr) (rec : Option LogRec) (outs : List Out) (h : List Entry) (p : ℕ) → IsGrown o up (record { event = Event.Do Request.Unchanged; rec = rec; outs = outs } ∷ h) → IsLinkKnown o h → IsLinkStep o p (Event.Do Request.Unchanged) rec outs h
unfolding transact
leaves_step o up rec outs h p legal known = moved_link ∙ go (is_live_with_peer d.arcs p) refl ∙ sym (link_asks o p e h known)
  where
    d : Digest
    d = digest o h

    late : IsLate d
    late = late_law o up h legal.3

    e : Entry
    e = record { event = Event.Do Request.Unchanged; rec = rec; outs = outs }

    m : Move
    m = action o.who d e.event

    may : (c : Current) × (d.current ≡ Some c) × (is_active c.phase ≡ true) × (is_under c.key ≡ true)
    may = may_leave o.who d late (plain_request o.who d Request.Unchanged legal.0)

    c : Current
    c = may.0

    t : Transaction
    t = seen o.who d.arcs c

    one : Move
    one = turned o.who (TxEvent.User Request.Unchanged) d c

    g : Digest
    g = one.next

    st : Move
    st = try_start o.who g

    left : (g.arcs ≡ left_arcs t (performed d.arcs (leave t).outs).0) × (one.outs ≡ (performed d.arcs (leave t).outs).1) × (passed o.who (TxEvent.User Request.Unchanged) d c ≡ Leaves)
    left = left_turned o.who d c may.2

    moved : m ≡ followed one (try_start o.who)
    moved = ap (λ (v : Option Current). elim v as (λ _. Move) [ None ↦ move [] d | Some x ↦ started_next o.who (passed o.who (TxEvent.User Request.Unchanged) d x) (turned o.who (TxEvent.User Request.Unchanged) d x) ]) may.1 ∙ ap (λ (w : Passage). started_next o.who w one) left.2

    said : outs ≡ one.outs ++ st.outs
    said = ap (λ (z : Entry). z.outs) (sym legal.1) ∙ ap (λ (z : Move). z.outs) moved

    xs : List Arc
    xs = (performed d.arcs (leave t).outs).0

    shut : Bool
    shut = is_under_at c.key p && is_end_deferred_at d.arcs p

    link_one : link_with g.arcs p ≡ over_link shut (count_to p one.outs) (link_with d.arcs p)
    link_one =
        ap (λ (ys : List Arc). link_with ys p) left.0 ∙ link_left t xs p ∙ shuts_performed d.arcs (leave t).outs p (leave_apart t)
        ∙ joined (shuts_in p (leave t).outs) shut (count_to p (performed d.arcs (leave t).outs).1) (count_to p one.outs) (leave_shuts t p ∙ up_ends_at d.arcs c.key p) (ap (count_to p) (sym left.1))
      where
        joined : (u v : Bool) (n k : ℕ) → u ≡ v → n ≡ k → over_link u n (link_with d.arcs p) ≡ over_link v k (link_with d.arcs p)
        joined u v n k i j = rw (i, j) refl

    moved_link : link_with m.next.arcs p ≡ over_link shut (count_to p outs) (link_with d.arcs p)
    moved_link =
        ap (λ (z : Move). link_with z.next.arcs p) moved ∙ start_over o.who p g ∙ ap (over_link false (count_to p st.outs)) link_one ∙ over_then shut false (count_to p one.outs) (count_to p st.outs) (link_with d.arcs p)
        ∙ joined shut (count_to p one.outs + count_to p st.outs) (count_to p outs) (sym (ap (count_to p) said ∙ count_append p one.outs st.outs))
      where
        joined : (u : Bool) (n k : ℕ) → n ≡ k → over_link (u || false) n (link_with d.arcs p) ≡ over_link u k (link_with d.arcs p)
        joined true n k i = refl
        joined false n k i = rw i refl

    untold : told_committed outs ≡ false
    untold = ap told_committed said ∙ told_append is_committed_told one.outs st.outs ∙ rw (ap told_committed left.1 ∙ told_performed is_committed_told d.arcs (leave t).outs ∙ leave_tells is_committed_told t, start_tells o.who g) refl

    closes : closes_by_deferral o p e h ≡ (was_branch o p h && is_end_deferred (deferral_in o p h) && is_up o p h)
    closes = rw (committed_tells outs, untold) refl

    head : (is_headed_by up c.key ≡ true) × (are_below up c.branches ≡ true)
    head = headed_law o up h legal.3 c may.1 may.2

    above : is_under_at c.key p ≡ is_at up p
    above = above_is up c p may.3 head.0

    -- on a live link what is deferred is as the question has it
    alive : is_live_with_peer d.arcs p ≡ true → shut ≡ closes_by_deferral o p e h
    alive i =
        let top : is_up o p h ≡ is_at up p = at_top (placed_law o up h legal.3) in
        sym (closes ∙ rw (branch_now o p h c may.1, end_is o up h p legal.3 i, top, above) (flat (is_at up p) refl (has_branch_at c.branches p) refl (is_end_deferred_at d.arcs p)))
      where
        at_top : IsPlaced up d → is_up o p h ≡ is_at up p
        at_top (inl j) = superior_at d p ∙ ap (λ (v : Option Addr). is_at v p) j
        at_top (inr n) = absurd (let off = n p in cc (i, off))

        flat : (v : Bool) → is_at up p ≡ v → (w : Bool) → has_branch_at c.branches p ≡ w → (x : Bool) → ((v || w) && x && v) ≡ (v && x)
        flat true i w j true = refl
        flat true i w j false = refl
        flat false i true j true = refl
        flat false i true j false = refl
        flat false i false j x = refl

    idle_over : (b : Bool) → over_link b (count_to p outs) Idle ≡ Idle
    idle_over true = refl
    idle_over false = refl

    dead : is_live_with_peer d.arcs p ≡ false → (b : Bool) → closes_by_deferral o p e h ≡ b → over_link shut (count_to p outs) (link_with d.arcs p) ≡ over_link b (count_to p outs) (link_with d.arcs p)
    dead i true j =
        let idle : link_with d.arcs p ≡ Idle = stale_idle o up h p legal.3 i (middle (was_branch o p h) (is_end_deferred (deferral_in o p h)) (is_up o p h) (sym closes ∙ j)) in
        ap (over_link shut (count_to p outs)) idle ∙ idle_over shut
      where
        middle : (x y z : Bool) → (x && y && z) ≡ true → y ≡ true
        middle x y z h = grind (arith, h)
    dead i false j = rw (off_when_dead o up h p legal.3 i) (none (is_under_at c.key p))
      where
        none : (x : Bool) → over_link (x && false) (count_to p outs) (link_with d.arcs p) ≡ sent_more (count_to p outs) (link_with d.arcs p)
        none true = refl
        none false = refl

    go : (b : Bool) → is_live_with_peer d.arcs p ≡ b → over_link shut (count_to p outs) (link_with d.arcs p) ≡ over_link (closes_by_deferral o p e h) (count_to p outs) (link_with d.arcs p)
    go true i = ap (λ (b : Bool). over_link b (count_to p outs) (link_with d.arcs p)) (alive i)
    go false i = dead i (closes_by_deferral o p e h) refl

-- ---- a branch is given up

given_ends : (who : Who) (d : Digest) (c : Current) (p : ℕ) → IsGivenUp who d c p → is_end_deferred_at d.arcs p ≡ false → ends_at p (with_row (seen who d.arcs c) p given_row) ≡ false
given_ends who d c p k off = rw (k.found, with_row) (ap (λ (b : Bool). (is_under_at c.key p && is_up_ending d.arcs c.key) || b) (put_ends p (seen_rows d.arcs c.branches) p k.row (given_row k.row) k.found refl (inr (sym (k.ends ∙ off)))) ∙ seen_ends who d.arcs c p ∙ ap (λ (b : Bool). (is_under_at c.key p || has_branch_at c.branches p) && b) off ∙ and-false (is_under_at c.key p || has_branch_at c.branches p))

-- on a live link: it is shut
given_shut : (who : Who) (d : Digest) (c : Current) (p : ℕ) → d.current ≡ Some c → IsPut (TxEvent.GiveUp p) (seen who d.arcs c) → IsGivenUp who d c p → is_live_with_peer d.arcs p ≡ true
    → (link_with (transact who (TxEvent.GiveUp p) d).next.arcs p ≡ Idle) × (shuts_to p (transact who (TxEvent.GiveUp p) d).outs ≡ true)
given_shut who d c p now fits k live = (
  closed_transact who (TxEvent.GiveUp p) d c p now fits (rw outs (rw (self p) refl)),
  transact_so (λ m. shuts_to p m.outs ≡ true) who (TxEvent.GiveUp p) d c now shut (shuts_to_append p m.outs (try_start who m.next).outs ∙ rw shut refl),
)
  where
    t : Transaction
    t = seen who d.arcs c

    a : Turn
    a = transacted (TxEvent.GiveUp p) t

    w : Passage
    w = passage false t.phase a.next.phase

    m : Move
    m = turned who (TxEvent.GiveUp p) d c

    rest : List TxOut
    rest = (complete_commit (with_row t p given_row)).outs

    outs : a.outs ≡ TxOut.Shut p ∷ rest
    outs = given_outs t p k.row k.found ∙ ap (λ (b : Bool). (if b then TxOut.Shut p ∷ [] else []) ++ rest) (k.live ∙ live)

    there : is_live_with_peer (entered t w d.arcs) p ≡ true
    there = ap is_live (link_entered t w d.arcs p) ∙ live

    shut : shuts_to p m.outs ≡ true
    shut = ap (λ (b : Turn). shuts_to p (played d t w b (entered t w d.arcs)).1) (given_turn t p k.row k.found (k.live ∙ live)) ∙ shut_played d t (with_row t p given_row) w complete_commit (entered t w d.arcs) p there

-- on another: nothing is shut, and the link stays
given_stays : (who : Who) (d : Digest) (c : Current) (p : ℕ) → d.current ≡ Some c → IsPut (TxEvent.GiveUp p) (seen who d.arcs c) → IsGivenUp who d c p → is_live_with_peer d.arcs p ≡ false → is_end_deferred_at d.arcs p ≡ false
    → (link_with (transact who (TxEvent.GiveUp p) d).next.arcs p ≡ sent_more (count_to p (transact who (TxEvent.GiveUp p) d).outs) (link_with d.arcs p)) × (shuts_to p (transact who (TxEvent.GiveUp p) d).outs ≡ false)
given_stays who d c p now fits k dead off = (
  transact_so (λ n. link_with n.next.arcs p ≡ sent_more (count_to p n.outs) (link_with d.arcs p)) who (TxEvent.GiveUp p) d c now one two,
  transact_so (λ n. shuts_to p n.outs ≡ false) who (TxEvent.GiveUp p) d c now unshut (shuts_to_append p m.outs st.outs ∙ rw (unshut, unshut_start who p m.next) refl),
)
  where
    t : Transaction
    t = seen who d.arcs c

    a : Turn
    a = transacted (TxEvent.GiveUp p) t

    w : Passage
    w = passage false t.phase a.next.phase

    m : Move
    m = turned who (TxEvent.GiveUp p) d c

    st : Move
    st = try_start who m.next

    u : Transaction
    u = with_row t p given_row

    outs : a.outs ≡ (complete_commit u).outs
    outs = given_outs t p k.row k.found ∙ ap (λ (b : Bool). (if b then TxOut.Shut p ∷ [] else []) ++ (complete_commit u).outs) (k.live ∙ dead)

    shuts : shuts_in p a.outs ≡ false
    shuts = ap (shuts_in p) outs ∙ (closing_commits p u).shuts ∙ ap (λ (b : Bool). b && asks_tell is_committed_told (complete_commit u).outs) (given_ends who d c p k off)

    unshut : shuts_to p m.outs ≡ false
    unshut = unshut_played d t w a (whole_turn (TxEvent.GiveUp p) t) (entered t w d.arcs) p (ap (keep_shut p) outs ∙ keep_commit p u)

    one : link_with m.next.arcs p ≡ sent_more (count_to p m.outs) (link_with d.arcs p)
    one = shuts_played d t w a (whole_turn (TxEvent.GiveUp p) t) (entered t w d.arcs) p (apart_turn (TxEvent.GiveUp p) t fits) ∙ ap (λ (b : Bool). over_link b (count_to p m.outs) (link_with (entered t w d.arcs) p)) shuts ∙ ap (sent_more (count_to p m.outs)) (link_entered t w d.arcs p)

    two : link_with st.next.arcs p ≡ sent_more (count_to p (m.outs ++ st.outs)) (link_with d.arcs p)
    two = start_over who p m.next ∙ ap (sent_more (count_to p st.outs)) one ∙ sym (ap (λ (n : ℕ). sent_more n (link_with d.arcs p)) (count_append p m.outs st.outs) ∙ more_more (count_to p m.outs) (count_to p st.outs) (link_with d.arcs p))

give_up_step : (o : Origin) (up : Option Addr) (q : ℕ) (rec : Option LogRec) (outs : List Out) (h : List Entry) (p : ℕ) → IsGrown o up (record { event = Event.GiveUp q; rec = rec; outs = outs } ∷ h) → IsLinkKnown o h → q ≡ p → IsLinkStep o p (Event.GiveUp q) rec outs h
give_up_step o up q rec outs h p legal known at = subst (λ (n : ℕ). IsGrown o up (record { event = Event.GiveUp n; rec = rec; outs = outs } ∷ h) → IsLinkStep o p (Event.GiveUp n) rec outs h) (sym at) (λ legal. step legal (is_live_with_peer (digest o h).arcs p) refl) legal
  where
    d : Digest
    d = digest o h

    e : Entry
    e = record { event = Event.GiveUp p; rec = rec; outs = outs }

    step : IsGrown o up (e ∷ h) → (b : Bool) → is_live_with_peer d.arcs p ≡ b → IsLinkStep o p (Event.GiveUp p) rec outs h
    step legal b i = go b i
      where
        now : (c : Current) × (d.current ≡ Some c)
        now = now_some d.current (no_give_up o.who d p legal.0)

        c : Current
        c = now.0

        late : is_nil c.phase ≡ false
        late = late_law o up h legal.3 c now.1

        fits : IsPut (TxEvent.GiveUp p) (seen o.who d.arcs c)
        fits = record { late = late; ok = λ n. plain_give_up o.who d p c legal.0 now.1; abort = λ n j. cc (j); ordered = λ j. cc (j); not_begun = λ arcs j. cc (j) }

        k : IsGivenUp o.who d c p
        k = given_up o.who d c p legal.0 now.1

        m : Move
        m = transact o.who (TxEvent.GiveUp p) d

        said : m.outs ≡ outs
        said = ap (λ (x : Entry). x.outs) legal.1

        go : (b : Bool) → is_live_with_peer d.arcs p ≡ b → IsLinkStep o p (Event.GiveUp p) rec outs h
        go true i =
            let w = given_shut o.who d c p now.1 fits k i in
            let shut : shuts_to p outs ≡ true = ap (shuts_to p) (sym said) ∙ w.1 in
            closed_step o p (Event.GiveUp p) rec outs h known (rw (self p, shut) refl) w.0
        go false i = stays (is_end_deferred (deferral_in o p h)) refl
          where
            w : (link_with m.next.arcs p ≡ sent_more (count_to p m.outs) (link_with d.arcs p)) × (shuts_to p m.outs ≡ false)
            w = given_stays o.who d c p now.1 fits k i (off_when_dead o up h p legal.3 i)

            unshut : shuts_to p outs ≡ false
            unshut = ap (shuts_to p) (sym said) ∙ w.1

            stays : (v : Bool) → is_end_deferred (deferral_in o p h) ≡ v → IsLinkStep o p (Event.GiveUp p) rec outs h
            stays true j =
                let idle : link_with d.arcs p ≡ Idle = stale_idle o up h p legal.3 i j in
                closed_step o p (Event.GiveUp p) rec outs h known (rw (self p, unshut) idle) (w.0 ∙ ap (sent_more (count_to p m.outs)) idle)
            stays false j =
                let closes : closes_by_deferral o p e h ≡ false = rw j (none (was_branch o p h) (tells_commit_complete outs || is_unchanged (Event.GiveUp p) && is_up o p h)) in
                w.0 ∙ ap (λ (n : ℕ). sent_more n (link_with d.arcs p)) (ap (count_to p) said) ∙ sym (link_asks o p e h known ∙ ap (λ (b : Bool). over_link b (count_to p outs) (link_by o p e h (link_with d.arcs p))) closes ∙ ap (sent_more (count_to p outs)) by)
              where
                none : (x y : Bool) → (x && false && y) ≡ false
                none x y = grind arith

                by : link_by o p e h (link_with d.arcs p) ≡ link_with d.arcs p
                by = rw (self p, unshut) refl

-- ---- every legal history

-- how the event meets the link with the peer
data LinkKind (e : Event) (p : ℕ) : Type 0 where
  Ends_dialogue : (q : ℕ) → e ≡ Event.Do (Request.EndDialogue q) → (q == p) ≡ true → LinkKind e p
  Aborts : (q : ℕ) → e ≡ Event.Do (Request.UAbort q) → (q == p) ≡ true → LinkKind e p
  Rejects : e ≡ Event.Do Request.Reject → LinkKind e p
  Leaves_tree : e ≡ Event.Do Request.Unchanged → LinkKind e p
  Is_shut : (from : Addr) (x : Mark) (y : Option Mark) → e ≡ Event.Arrive from (PeerRecord.ShutAssoc x y) → (from.node == p) ≡ true → LinkKind e p
  Ended_by_record : (from : Addr) (x y : Mark) (q : ℕ) → e ≡ the from x y q DialogueRecord.EndDialogue → from.node ≡ p → LinkKind e p
  Aborted_by_record : (from : Addr) (x y : Mark) (q : ℕ) → e ≡ the from x y q DialogueRecord.UAbort → from.node ≡ p → LinkKind e p
  Left_by_record : (from : Addr) (x y : Mark) (q : ℕ) → e ≡ the from x y q DialogueRecord.LeftEnd → from.node ≡ p → LinkKind e p
  Begun_by_record : (from : Addr) (x y : Mark) (q : ℕ) (t : Aaid) (b : BranchId) (v : Holder) → e ≡ the from x y q (DialogueRecord.Begin t b v) → from.node ≡ p → LinkKind e p
  Breaks : (from : Addr) (r : PeerRecord) → e ≡ Event.Break from r → (from.node == p) ≡ true → LinkKind e p
  Loses : (q : ℕ) → e ≡ Event.Lose q → (q == p) ≡ true → LinkKind e p
  Gives_up : (q : ℕ) → e ≡ Event.GiveUp q → q ≡ p → LinkKind e p
  Crashes : e ≡ Event.Crash → LinkKind e p
  Leaves_link : closes_at e p ≡ false → is_unchanged e ≡ false → begins_at e p ≡ false → (e ≡ Event.Crash → ⊥) → LinkKind e p

link_kind : (e : Event) (p : ℕ) → LinkKind e p
link_kind (Event.Do (Request.EndDialogue q)) p = go (q == p) refl
  where
    go : (b : Bool) → (q == p) ≡ b → LinkKind (Event.Do (Request.EndDialogue q)) p
    go true i = Ends_dialogue q refl i
    go false i = Leaves_link i refl refl (λ c. cc (c))
link_kind (Event.Do (Request.UAbort q)) p = go (q == p) refl
  where
    go : (b : Bool) → (q == p) ≡ b → LinkKind (Event.Do (Request.UAbort q)) p
    go true i = Aborts q refl i
    go false i = Leaves_link i refl refl (λ c. cc (c))
link_kind (Event.Do Request.Reject) p = Rejects refl
link_kind (Event.Do Request.Unchanged) p = Leaves_tree refl
link_kind (Event.Do r) p = Leaves_link refl refl refl (λ c. cc (c))
link_kind (Event.Arrive from (PeerRecord.ShutAssoc x y)) p = go (from.node == p) refl
  where
    go : (b : Bool) → (from.node == p) ≡ b → LinkKind (Event.Arrive from (PeerRecord.ShutAssoc x y)) p
    go true i = Is_shut from x y refl i
    go false i = Leaves_link i refl refl (λ c. cc (c))
link_kind (Event.Arrive from (PeerRecord.OnAssoc x y q DialogueRecord.EndDialogue)) p = go (from.node == p) refl
  where
    go : (b : Bool) → (from.node == p) ≡ b → LinkKind (the from x y q DialogueRecord.EndDialogue) p
    go true i = Ended_by_record from x y q refl (grind (arith, nat_tests, i))
    go false i = Leaves_link i refl refl (λ c. cc (c))
link_kind (Event.Arrive from (PeerRecord.OnAssoc x y q DialogueRecord.UAbort)) p = go (from.node == p) refl
  where
    go : (b : Bool) → (from.node == p) ≡ b → LinkKind (the from x y q DialogueRecord.UAbort) p
    go true i = Aborted_by_record from x y q refl (grind (arith, nat_tests, i))
    go false i = Leaves_link i refl refl (λ c. cc (c))
link_kind (Event.Arrive from (PeerRecord.OnAssoc x y q DialogueRecord.LeftEnd)) p = go (from.node == p) refl
  where
    go : (b : Bool) → (from.node == p) ≡ b → LinkKind (the from x y q DialogueRecord.LeftEnd) p
    go true i = Left_by_record from x y q refl (grind (arith, nat_tests, i))
    go false i = Leaves_link i refl refl (λ c. cc (c))
link_kind (Event.Arrive from (PeerRecord.OnAssoc x y q (DialogueRecord.Begin t b v))) p = go (from.node == p) refl
  where
    go : (u : Bool) → (from.node == p) ≡ u → LinkKind (the from x y q (DialogueRecord.Begin t b v)) p
    go true i = Begun_by_record from x y q t b v refl (grind (arith, nat_tests, i))
    go false i = Leaves_link refl refl i (λ c. cc (c))
link_kind (Event.Arrive from r) p = Leaves_link (grind arith) refl (grind arith) (λ c. cc (c))
link_kind (Event.Break from r) p = go (from.node == p) refl
  where
    go : (b : Bool) → (from.node == p) ≡ b → LinkKind (Event.Break from r) p
    go true i = Breaks from r refl i
    go false i = Leaves_link i refl refl (λ c. cc (c))
link_kind (Event.Lose q) p = go (q == p) refl
  where
    go : (b : Bool) → (q == p) ≡ b → LinkKind (Event.Lose q) p
    go true i = Loses q refl i
    go false i = Leaves_link i refl refl (λ c. cc (c))
link_kind (Event.GiveUp q) p = go (q == p) refl
  where
    go : (b : Bool) → (q == p) ≡ b → LinkKind (Event.GiveUp q) p
    go true i = Gives_up q refl (grind (arith, nat_tests, i))
    go false i = Leaves_link i refl refl (λ c. cc (c))
link_kind Event.Crash p = Crashes refl
link_kind e p = Leaves_link refl refl refl (λ c. cc (c))

-- whether the arc was a branch, where no transaction begins on it
was_so : (o : Origin) (up : Option Addr) (v : Event) (h : List Entry) (p : ℕ) → IsGrown o up h → refusal o.who (digest o h) v ≡ None → begins_at v p ≡ false → (v ≡ Event.Crash → ⊥) → (c : Current) → (prelude o.who (digest o h) v).current ≡ Some c → (is_under_at c.key p || has_branch_at c.branches p) ≡ was_branch o p h
was_so o up v h p legal ok begun calm c = go (came_by o.who d v ok)
  where
    d : Digest
    d = digest o h

    go : Came o.who d v → (prelude o.who d v).current ≡ Some c → (is_under_at c.key p || has_branch_at c.branches p) ≡ was_branch o p h
    go (As_it_was i) at = sym (branch_now o p h c (sym i ∙ at))
    go (By_begin from x y q t b g a is found cur nil above) at =
        let same : fresh_current (Under t b a.peer) ≡ c = ap (λ (u : Option Current). elim u as (λ _. Current) [ None ↦ fresh_current (Under t b a.peer) | Some z ↦ z ]) (sym cur ∙ at) in
        let off : (from.node == p) ≡ false = sym (ap (λ (f : Event). begins_at f p) is) ∙ begun in
        let node : a.peer.node ≡ from.node = find_arc_is d.arcs from.node a found in
        subst (λ (z : Current). (is_under_at z.key p || has_branch_at z.branches p) ≡ was_branch o p h) same (rw (node, off) (sym (branch_none o p h (nothing_late d (late_law o up h legal) nil))))
    go (By_crash is cur) at = absurd (calm is)

link_step : (o : Origin) (up : Option Addr) (v : Event) (rec : Option LogRec) (outs : List Out) (h : List Entry) (p : ℕ) → IsGrown o up (record { event = v; rec = rec; outs = outs } ∷ h) → IsLinkKnown o h → IsLinkStep o p v rec outs h
unfolding after_crash
link_step o up v rec outs h p = go (link_kind v p)
  where
    IsStep : Event → Type 0
    IsStep v = IsGrown o up (record { event = v; rec = rec; outs = outs } ∷ h) → IsLinkKnown o h → IsLinkStep o p v rec outs h

    go : LinkKind v p → IsStep v
    go (Ends_dialogue q is i) = subst IsStep (sym is) (λ legal known. end_step o q rec outs h p known i)
    go (Aborts q is i) = subst IsStep (sym is) (λ legal known. abort_step o up q rec outs h p legal known i)
    go (Rejects is) = subst IsStep (sym is) (λ legal known. reject_step o up rec outs h p legal known)
    go (Leaves_tree is) = subst IsStep (sym is) (λ legal known. leaves_step o up rec outs h p legal known)
    go (Is_shut from x y is i) = subst IsStep (sym is) (λ legal known. shut_step o up from x y rec outs h p legal known i)
    go (Ended_by_record from x y q is at) = subst IsStep (sym is) (λ legal known. end_record_step o up from x y q rec outs h p legal known at)
    go (Aborted_by_record from x y q is at) = subst IsStep (sym is) (λ legal known. abort_record_step o up from x y q rec outs h p legal known at)
    go (Left_by_record from x y q is at) = subst IsStep (sym is) (λ legal known. left_end_step o up from x y q rec outs h p legal known at)
    go (Begun_by_record from x y q t b w is at) = subst IsStep (sym is) (λ legal known. begin_step o up from x y q t b w rec outs h p legal known at)
    go (Breaks from r is i) = subst IsStep (sym is) (λ legal known. break_step o up from r rec outs h p legal known i)
    go (Loses q is i) = subst IsStep (sym is) (λ legal known. lose_step o up q rec outs h p legal known i)
    go (Gives_up q is at) = subst IsStep (sym is) (λ legal known. give_up_step o up q rec outs h p legal known at)
    go (Crashes is) = subst IsStep (sym is) (λ legal known. closed_step o p Event.Crash rec outs h known refl refl)
    go (Leaves_link off stays begun calm) = λ legal known. aside_link o up v rec outs h p legal known off stays (was_so o up v h p legal.3 legal.0 begun calm)

-- with every peer: where there is no arc, the questions answer that the link is idle
pub link_law : (o : Origin) (up : Option Addr) (h : List Entry) → IsGrown o up h → IsLinkKnown o h
unfolding started
link_law o up [] legal = λ p. refl
link_law o up (e ∷ h) legal = λ p. link_step o up e.event e.rec e.outs h p legal (link_law o up h legal.3)

-- ---- of all arcs

link_self : (l k : Link) → l ≡ k → same_link l k ≡ true
link_self l k same = grind (arith, mark_same, self)

pub links_law : (o : Origin) (up : Option Addr) (h : List Entry) → IsLegal o up h → links_agree o h ≡ true
links_law o up h legal = all_found _ (digest o h).arcs apart (λ a found. go a found)
  where
    apart : are_separate (digest o h).arcs ≡ true
    apart = separate_law o up h legal.grown

    go : (a : Arc) → find_arc (digest o h).arcs a.peer.node ≡ Some a → (same_link a.link (link_in o a.peer.node h) && not (is_idle a.link)) ≡ true
    go a found =
        let is : a.link ≡ link_in o a.peer.node h = ap link_of (sym found) ∙ link_law o up h legal.grown a.peer.node in
        let busy : is_idle a.link ≡ false = ap (λ (v : Option Arc). is_idle (link_of v)) (sym found) ∙ busy_there a.peer.node (digest o h).arcs apart (there_found (digest o h).arcs a.peer.node a found) in
        rw (link_self a.link (link_in o a.peer.node h) is, busy) refl

pub peer_law : (o : Origin) (up : Option Addr) (h : List Entry) → IsLegal o up h → (p : ℕ) → link_agrees o p h ≡ true
peer_law o up h legal p = link_self (link_with (digest o h).arcs p) (link_in o p h) (link_law o up h legal.grown p)
