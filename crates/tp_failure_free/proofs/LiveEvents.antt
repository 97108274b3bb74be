-- The arcs that a transaction needs stay live by every event of its node that puts nothing to it and is no failure; and such an
-- event tells the user of no outcome, and logs neither Ready nor Commit.
use Rattle.std.proofs.Common.{if◌then◌else◌, ◌≡◌, ◌⊎◌, inl, inr, ℕ, Bool, true, false, refl, ap, sym, subst, ◌∙◌, arith, Option, Some, None, List, [], ◌∷◌, ◌++◌, ◌&&◌, ◌||◌, ◌==◌, not}
use Rattle.std.proofs.lemmas.Bool.Decides.{nat_tests}
use Rattle.tp_names.specs.declared.identifiers.Mark.{Mark}
use Rattle.tp_names.specs.declared.identifiers.Aaid.{Aaid}
use Rattle.tp_names.specs.declared.identifiers.BranchId.{BranchId}
use Rattle.tp_names.specs.declared.identifiers.NodeKey.{NodeKey}
use Rattle.tp_names.specs.declared.identifiers.Addr.{Addr}
use Rattle.tp_names.specs.declared.outcome.Report.{Report}
use Rattle.tp_records.specs.declared.request.Request.{Request}
use Rattle.tp_records.specs.declared.indication.Indication.{Indication}
use Rattle.tp_records.specs.declared.dialogue.DialogueRecord.{DialogueRecord}
use Rattle.tp_records.specs.declared.dialogue.Holder.{Holder}
use Rattle.tp_records.specs.declared.peer.PeerRecord.{PeerRecord}
use Rattle.tp_records.specs.declared.peer.RecState.{RecState}
use Rattle.tp_model.specs.declared.arc.Side.{Side}
use Rattle.tp_model.specs.declared.transaction.TxEvent.{TxEvent}
use Rattle.tp_model.specs.declared.transaction.TxOut.{TxOut}
use Rattle.tp_model.specs.declared.recovery.Kept.{Kept}
use Rattle.tp_model.specs.declared.recovery.KeptEvent.{KeptEvent}
use Rattle.tp_model.specs.declared.recovery.Question.{Question}
use Rattle.tp_model.specs.Parts.{Who, Event, Out, Link, Idle, Opening, Offered, Live, Dialogue, Arc, Key, Under, Branch, Current, Digest}
use Rattle.tp_model.specs.Links.{is_live, with_one_taken}
use Rattle.tp_model.specs.Dialogues.{is_nil, is_active, is_chained, fresh_dialogue, begun_by, named_holder, said, heard, cleared, woken, Sight, Acts, Nothing_happens, Out_of_phase, Asked, Ask_data, Ask_error, Ask_grant, Ask_control, Ask_handshake, Ask_respond, Ask_handshake_grant, Ask_defer_end, Ask_defer_grant, Heard, Hear_data, Hear_error, Hear_grant, Hear_control, Hear_handshake, Hear_handshake_grant, Hear_response, Hear_defer_end, Hear_defer_grant, refused_on_arc, arrived}
use Rattle.tp_model.specs.Arcs.{find_arc, link_with, is_live_with_peer, put_arc, with_dialogue, with_link, performed}
use Rattle.tp_model.specs.Transactions.{row_holds, is_under_at, situation_of, aaid_of}
use Rattle.tp_names.specs.declared.children.Child.{Child}
use Rattle.tp_model.specs.Recovery.{owed, ask_owed, tell_superior, settled, noted, find_kept, with_forget, forget_to, recovery_answer}
use Rattle.tp_model.specs.Requests.{has_branch_at, refused_request, call, accept, reject, begin_transaction, do_request}
use Rattle.tp_model.specs.Node.{Move, move, followed, perform, next_mark, with_mark_drawn, superior_arc, may_root, phase_of, has_asked, seen_rows, situation_at, start_root, has_none, chained_peers, may_begin_on, begin_on, begin_each, begin_chained, try_start, passed, turned, fresh_current, transact, keep, started_next}
use Rattle.tp_model.specs.Arrivals.{Named, branch_key, named_by_key, named_by_branch, known_of, is_current_ready, sight_at, sight_of, is_response, take_begin, take_record, woken_by, take_on, take_accept, take_open, reply_to, take_order, take_forget, take_ready_reply, take_done_reply, do_arrival, refused_arrival}
use Rattle.tp_model.specs.Events.{retry_each, retry, purge, action, refusal}
use Rattle.tp_logrec.specs.declared.record.LogRec.{LogRec}
use Rattle.tp_model.specs.Questions.{logs_ready_or_commit}
use Rattle.tp_model.specs.Outcomes.{is_failure}
use Rattle.tp_steps.specs.Turns.{is_outcome_told}
use Rattle.tp_steps.specs.Moves.{are_spoken}
use Rattle.tp_steps.specs.Facts.{stays, find_branch}
use Rattle.tp_steps.specs.Trees.{out_tells}
use Rattle.tp_steps.specs.Passages.{asks_tell}
use Rattle.tp_steps.specs.Heeding.{has_ended}
use Rattle.tp_steps.specs.Puts.{Put, put, counted_arcs, put_by_record, put_on, put_where_ready, is_committing_named, put_by_peer, put_by_request, put_by}
use Rattle.tp_steps.proofs.lemmas.Alike.{live_same, taken_alike}
use Rattle.tp_steps.proofs.links.Apart.{apart_spoken}
use Rattle.tp_steps.proofs.words.Hushed.{settled_spoken}
use Rattle.tp_steps.proofs.links.Told.{told_append, told_performed}
use Rattle.tp_steps.proofs.links.Wrapped.{agrees_performed}
use Rattle.tp_steps.proofs.every.EveryMove.{quiet_begin as no_rec_begin, quiet_each as no_rec_each, quiet_followed, quiet_start as no_rec_start}
use Rattle.tp_steps.proofs.every.EveryEvent.{plain_request, plain_arrival}
use Rattle.tp_steps.proofs.every.EveryRecord.{find_arc_is, spoken_owed, spoken_forget, on_live}
use Rattle.tp_failure_free.proofs.LiveTurned.{needs, IsAlive, alive_begin, alive_each, alive_root, alive_start}
use Rattle.tp_steps.proofs.every.BeginCases.{begun_over, begin_cases}
use Rattle.tp_histories.proofs.pairs.PairedSteps.{find_none}
use Rattle.tp_control.proofs.LedEvents.{seen_holds}
use Rattle.tp_steps.proofs.every.AcceptCases.{accept_cases, reject_cases}

pub record IsAside (d : Digest) (m : Move) : Type 0 where
  pub alive : IsAlive d → IsAlive m.next
  pub quiet : out_tells is_outcome_told m.outs ≡ false
  pub plain : logs_ready_or_commit m.rec ≡ false

-- what is known of the current transaction: the superior is no branch
abbrev pub IsApart : Digest → Type 0
IsApart d = (c : Current) (p : ℕ) → d.current ≡ Some c → is_under_at c.key p ≡ true → has_branch_at c.branches p ≡ false

-- of those that are needed, and live
abbrev IfNeeded : Digest → (ℕ → Type 0) → Type 0
IfNeeded d g = (c : Current) (p : ℕ) → d.current ≡ Some c → needs c p ≡ true → is_live_with_peer d.arcs p ≡ true → g p

-- ---- outputs

pub spoken_quiet : (outs : List TxOut) → are_spoken outs ≡ true → asks_tell is_outcome_told outs ≡ false
spoken_quiet [] h = refl
spoken_quiet (TxOut.Tell i ∷ outs) h = grind (arith, h, spoken_quiet outs)
spoken_quiet (TxOut.Carry q r ∷ outs) h = spoken_quiet outs (grind (arith, h))
spoken_quiet (TxOut.Shut q ∷ outs) h = spoken_quiet outs h
spoken_quiet (TxOut.Recovery a r ∷ outs) h = spoken_quiet outs (grind (arith, h))
spoken_quiet (TxOut.Close q ∷ outs) h = spoken_quiet outs h

says_so : (d : Digest) (arcs : List Arc) (outs : List TxOut) (m : Move) → m.outs ≡ (performed arcs outs).1 → m.next.arcs ≡ (performed arcs outs).0 → m.next.current ≡ d.current → logs_ready_or_commit m.rec ≡ false → are_spoken outs ≡ true
    → IfNeeded d (λ p. is_live_with_peer arcs p ≡ true) → IfNeeded d (λ p. stays true p outs ≡ true) → IsAside d m
says_so d arcs outs m says later same plain spoken grows shut = record {
  alive = λ old c p is need.
      let now : d.current ≡ Some c = sym same ∙ is in
      let live : is_live_with_peer d.arcs p ≡ true = old c p now need in
      ap (λ (xs : List Arc). is_live_with_peer xs p) later
      ∙ (agrees_performed arcs outs p (apart_spoken outs spoken)).live ∙ ap (λ v. stays v p outs) (grows c p now need live) ∙ shut c p now need live;
  quiet = ap (out_tells is_outcome_told) says ∙ told_performed is_outcome_told arcs outs ∙ spoken_quiet outs spoken;
  plain = plain;
}

aside_perform : (d g : Digest) (outs : List TxOut) → g.current ≡ d.current → are_spoken outs ≡ true → IfNeeded d (λ p. is_live_with_peer g.arcs p ≡ true) → IfNeeded d (λ p. stays true p outs ≡ true) → IsAside d (perform outs g)
aside_perform d g outs same spoken grows shut = says_so d g.arcs outs (perform outs g) refl refl same refl spoken grows shut

-- nothing is shut
abbrev shuts_none : List TxOut → Bool
shuts_none [] = true
shuts_none (TxOut.Shut q ∷ outs) = false
shuts_none (TxOut.Close q ∷ outs) = false
shuts_none (o ∷ outs) = shuts_none outs

none_shut : (outs : List TxOut) (p : ℕ) → shuts_none outs ≡ true → stays true p outs ≡ true
none_shut [] p h = refl
none_shut (TxOut.Tell i ∷ outs) p h = none_shut outs p h
none_shut (TxOut.Carry q r ∷ outs) p h = none_shut outs p h
none_shut (TxOut.Recovery a r ∷ outs) p h = none_shut outs p h
none_shut _ p h = absurd (cc (h))

aside_says : (d g : Digest) (outs : List TxOut) → g.current ≡ d.current → are_spoken outs ≡ true → shuts_none outs ≡ true → IfNeeded d (λ p. is_live_with_peer g.arcs p ≡ true) → IsAside d (perform outs g)
aside_says d g outs same spoken shut grows = aside_perform d g outs same spoken grows (λ c p is need live. none_shut outs p shut)

settled_shuts : (k : Kept) (f : KeptEvent) → shuts_none (settled k f).outs ≡ true
unfolding settled
settled_shuts k (KeptEvent.Done a b r) = grind arith
settled_shuts k _ = refl

settled_plain : (k : Kept) (f : KeptEvent) → logs_ready_or_commit (settled k f).rec ≡ false
unfolding settled
settled_plain k KeptEvent.Purge = refl
settled_plain k _ = grind arith

shuts_append : (xs ys : List TxOut) → shuts_none xs ≡ true → shuts_none ys ≡ true → shuts_none (xs ++ ys) ≡ true
shuts_append [] ys h i = i
shuts_append (TxOut.Tell t ∷ xs) ys h i = shuts_append xs ys h i
shuts_append (TxOut.Carry q r ∷ xs) ys h i = shuts_append xs ys h i
shuts_append (TxOut.Recovery a r ∷ xs) ys h i = shuts_append xs ys h i
shuts_append _ ys h i = absurd (cc (h))

ask_shuts : (a : Aaid) (cs : List Child) → shuts_none (ask_owed a cs) ≡ true
ask_shuts a [] = refl
ask_shuts a (c ∷ cs) = ask_shuts a cs

tell_shuts : (k : Kept) → shuts_none (tell_superior k) ≡ true
tell_shuts k = grind arith

owed_shuts : (k : Kept) → shuts_none (owed k) ≡ true
unfolding owed
owed_shuts k = grind (arith, shuts_append (ask_owed k.key.aaid k.owed) (tell_superior k), ask_shuts k.key.aaid k.owed, tell_shuts k)

aside_keep : (d g : Digest) (k : Kept) (f : KeptEvent) → g.current ≡ d.current → g.arcs ≡ d.arcs → IsAside d (keep (settled k f) g)
aside_keep d g k f same arcs =
    says_so d g.arcs (settled k f).outs (keep (settled k f) g) refl refl same (settled_plain k f) (settled_spoken k f) (λ c p is need live. ap (λ (xs : List Arc). is_live_with_peer xs p) arcs ∙ live) (λ c p is need live. none_shut (settled k f).outs p (settled_shuts k f))

aside_still : (d g : Digest) → g.current ≡ d.current → IfNeeded d (λ p. is_live_with_peer g.arcs p ≡ true) → IsAside d (move [] g)
aside_still d g same grows = record { alive = λ old c p is need. grows c p (sym same ∙ is) need (old c p (sym same ∙ is) need); quiet = refl; plain = refl }

-- nothing is current
aside_none : (d : Digest) (m : Move) → m.next.current ≡ None → out_tells is_outcome_told m.outs ≡ false → logs_ready_or_commit m.rec ≡ false → IsAside d m
aside_none d m none quiet plain = record { alive = λ old c p is need. absurd (cc (none, is)); quiet = quiet; plain = plain }

pub no_transact : (who : Who) (f : TxEvent) (g : Digest) → g.current ≡ None → transact who f g ≡ move [] g
unfolding transact
no_transact who f g none = ap (λ (o : Option Current). elim o as (λ _. Move) [ None ↦ move [] g | Some c ↦ started_next who (passed who f g c) (turned who f g c) ]) none

aside_idle : (d g : Digest) (who : Who) (f : TxEvent) → g.current ≡ None → IsAside d (transact who f g)
aside_idle d g who f none = subst (IsAside d) (sym (no_transact who f g none)) (aside_none d (move [] g) none refl refl)

aside_same : (d g : Digest) (m : Move) → g.current ≡ d.current → ((p : ℕ) → is_live_with_peer d.arcs p ≡ true → is_live_with_peer g.arcs p ≡ true) → IsAside g m → IsAside d m
aside_same d g m same grows k = record { alive = λ old. k.alive (λ c p is need. grows p (old c p (sym same ∙ is) need)); quiet = k.quiet; plain = k.plain }

plain_later : (x y : Option LogRec) → logs_ready_or_commit x ≡ false → logs_ready_or_commit y ≡ false → logs_ready_or_commit (elim y as (λ _. Option LogRec) [ None ↦ x | Some r ↦ Some r ]) ≡ false
plain_later x None h i = h
plain_later x (Some r) h i = i

-- ---- transactions begin

pub quiet_begin : (who : Who) (p : ℕ) (d : Digest) → out_tells is_outcome_told (begin_on who p d).outs ≡ false
quiet_begin who p d = begin_cases (λ (m : Move). out_tells is_outcome_told m.outs ≡ false) who p d refl on
  where
    on : (c : Current) (a : Arc) → d.current ≡ Some c → find_arc d.arcs p ≡ Some a → may_begin_on who d a ≡ true → out_tells is_outcome_told (begun_over who p d c a).outs ≡ false
    on c a now found may = told_performed is_outcome_told (with_dialogue d.arcs p (begun_by (named_holder a.dialogue) Side.Superior)) (TxOut.Carry p (DialogueRecord.Begin (aaid_of c.key) (record { superior = who.site; mark = next_mark who d }) (named_holder a.dialogue)) ∷ [])

quiet_then : (xs ys : List _) → out_tells is_outcome_told xs ≡ false → out_tells is_outcome_told ys ≡ false → out_tells is_outcome_told (xs ++ ys) ≡ false
quiet_then xs ys h i = told_append is_outcome_told xs ys ∙ grind (arith, h, i)

quiet_each : (who : Who) (ps : List ℕ) (d : Digest) → out_tells is_outcome_told (begin_each who ps d).outs ≡ false
quiet_each who [] d = refl
quiet_each who (p ∷ ps) d = quiet_then (begin_on who p d).outs (begin_each who ps (begin_on who p d).next).outs (quiet_begin who p d) (quiet_each who ps (begin_on who p d).next)

quiet_root : (who : Who) (ps : List ℕ) (d : Digest) → out_tells is_outcome_told (start_root who ps d).outs ≡ false
unfolding start_root
quiet_root who ps d =
    let g : Digest = record (with_mark_drawn d) { current = Some (fresh_current (Key.Root (record { owner = who.site; mark = next_mark who d }))) } in
    let a : Move = begin_each who ps g in
    quiet_then a.outs (begin_chained who a.next).outs (quiet_each who ps g) (quiet_each who (chained_peers who a.next) a.next)

pub quiet_start : (who : Who) (d : Digest) → out_tells is_outcome_told (try_start who d).outs ≡ false
unfolding try_start
quiet_start who d = go (is_nil (phase_of d) && may_root d && not (has_none (chained_peers who d)))
  where
    go : (b : Bool) → out_tells is_outcome_told (if b then start_root who [] d else move [] d).outs ≡ false
    go true = quiet_root who [] d
    go false = refl

no_rec_root : (who : Who) (ps : List ℕ) (d : Digest) → (start_root who ps d).rec ≡ None
unfolding start_root
no_rec_root who ps d =
    let g : Digest = record (with_mark_drawn d) { current = Some (fresh_current (Key.Root (record { owner = who.site; mark = next_mark who d }))) } in
    let a : Move = begin_each who ps g in
    quiet_followed a (begin_chained who) (no_rec_each who ps g) (no_rec_each who (chained_peers who a.next) a.next)

begins_aside : (who : Who) (p : ℕ) (d : Digest) → IsAside d (begin_on who p d)
begins_aside who p d = record { alive = alive_begin who p d; quiet = quiet_begin who p d; plain = ap logs_ready_or_commit (no_rec_begin who p d) }

roots_aside : (who : Who) (ps : List ℕ) (d : Digest) → IsAside d (start_root who ps d)
roots_aside who ps d = record { alive = λ old. alive_root who ps d; quiet = quiet_root who ps d; plain = ap logs_ready_or_commit (no_rec_root who ps d) }

starts_aside : (who : Who) (d : Digest) → IsAside d (try_start who d)
starts_aside who d = record { alive = alive_start who d; quiet = quiet_start who d; plain = ap logs_ready_or_commit (no_rec_start who d) }

-- ---- arcs

live_more : (arcs : List Arc) (a : Arc) (p : ℕ) → is_live_with_peer arcs p ≡ true → is_live_with_peer (arcs ++ a ∷ []) p ≡ true
live_more [] a p h = absurd (cc (h))
live_more (b ∷ arcs) a p h = grind (arith, h, live_more arcs a p)

live_put : (arcs : List Arc) (b : Arc) (p : ℕ) → is_live b.link ≡ true → is_live_with_peer arcs p ≡ true → is_live_with_peer (put_arc arcs b) p ≡ true
live_put [] b p l h = h
live_put (a ∷ arcs) b p l h = grind (arith, nat_tests, l, h, live_put arcs b p)

link_is : (arcs : List Arc) (p : ℕ) (a : Arc) → find_arc arcs p ≡ Some a → link_with arcs p ≡ a.link
link_is arcs p a i = rw (i, link_with) refl

-- ---- requests

is_peer_no : (who : Who) (d : Digest) (c : Current) (p : ℕ) → d.current ≡ Some c → needs c p ≡ true → (situation_at who d p).branch ≡ true
unfolding situation_of
is_peer_no who d c p i need = rw (i, situation_at) (go (find_branch c.branches p) refl)
  where
    rows : row_holds (seen_rows d.arcs c.branches) p (λ b. true) ≡ elim (find_branch c.branches p) as (λ _. Bool) [ None ↦ false | Some b ↦ true ]
    rows = seen_holds d.arcs c.branches p (λ b. true)

    go : (o : Option Branch) → find_branch c.branches p ≡ o → (is_under_at c.key p || row_holds (seen_rows d.arcs c.branches) p (λ b. true)) ≡ true
    go None j = let under : is_under_at c.key p ≡ true = grind (arith, need, j) in rw (under) refl
    go (Some b) j = let row : row_holds (seen_rows d.arcs c.branches) p (λ b. true) ≡ true = rows ∙ rw j refl in grind (arith, row)

refused_end : (who : Who) (d : Digest) (p : ℕ) → refused_request who d (Request.EndDialogue p) ≡ None → (situation_at who d p).branch ≡ false
unfolding refused_request refused_on_arc
refused_end who d p ok = grind (arith, ok)

same_arcs : (d : Digest) → IfNeeded d (λ p. is_live_with_peer d.arcs p ≡ true)
same_arcs d c p is need live = live

changed : (d : Digest) (q : ℕ) (f : Dialogue → Dialogue) → IfNeeded d (λ p. is_live_with_peer (with_dialogue d.arcs q f) p ≡ true)
changed d q f c p is need live = live_same d.arcs q f p ∙ live

call_aside : (who : Who) (d : Digest) (a : Addr) (u : ℕ) → IsAside d (call who a u d)
unfolding call
call_aside who d a u =
    let x : Arc = record { peer = a; link = Opening (next_mark who d); dialogue = fresh_dialogue u Side.Superior } in
    aside_says d (record (with_mark_drawn d) { arcs = d.arcs ++ (x ∷ []) }) (TxOut.Recovery a (PeerRecord.OpenAssoc (next_mark who d) u) ∷ []) refl refl refl (λ c p is need live. live_more d.arcs x p live)

accept_aside : (who : Who) (d : Digest) (u : ℕ) → IsAside d (accept who u d)
accept_aside who d u = accept_cases (IsAside d) who u d (aside_still d d refl (same_arcs d)) (λ a x i j.
    let b : Arc = record a { link = Live x (next_mark who d) 0 0; dialogue = fresh_dialogue u Side.Subordinate } in
    aside_says d (record (with_mark_drawn d) { arcs = put_arc d.arcs b }) (TxOut.Recovery a.peer (PeerRecord.AcceptAssoc x (next_mark who d) u) ∷ []) refl refl refl (λ c p is need live. live_put d.arcs b p refl live))

superior_found : (d : Digest) (a : Arc) → superior_arc d ≡ Some a → find_arc d.arcs a.peer.node ≡ Some a
superior_found d a h = go d.superior refl
  where
    go : (s : Option Addr) → d.superior ≡ s → find_arc d.arcs a.peer.node ≡ Some a
    go None i = let none : None ≡ Some a = rw (i, superior_arc) at h in absurd (cc (none))
    go (Some z) i = let found : find_arc d.arcs z.node ≡ Some a = rw (i, superior_arc) at h in ap (find_arc d.arcs) (find_arc_is d.arcs z.node a found) ∙ found

-- what is shut there is not live
not_this : (arcs : List Arc) (q p : ℕ) → is_live_with_peer arcs q ≡ false → is_live_with_peer arcs p ≡ true → (q == p) ≡ false
not_this arcs q p off live = go (q == p) refl
  where
    go : (b : Bool) → (q == p) ≡ b → b ≡ false
    go false i = refl
    go true i = let same : q ≡ p = grind (arith, nat_tests, i) in absurd (cc (ap (is_live_with_peer arcs) same ∙ live, off))

reject_aside : (d : Digest) → IsAside d (reject d)
reject_aside d = reject_cases (IsAside d) d (aside_still d d refl (same_arcs d)) (λ a x i j.
    let off : is_live_with_peer d.arcs a.peer.node ≡ false = ap is_live (link_is d.arcs a.peer.node a (superior_found d a i) ∙ j) in
    aside_perform d d (TxOut.Recovery a.peer (PeerRecord.ShutAssoc x None) ∷ TxOut.Close a.peer.node ∷ []) refl refl (same_arcs d) (λ c p is need live. rw (not_this d.arcs a.peer.node p off live) refl))

begin_aside : (who : Who) (d : Digest) (p : ℕ) → IsAside d (begin_transaction who p d)
unfolding begin_transaction
begin_aside who d p = go d.current
  where
    go : (o : Option Current) → IsAside d (elim o as (λ _. Move) [ None ↦ start_root who (p ∷ []) d | Some c ↦ begin_on who p d ])
    go None = roots_aside who (p ∷ []) d
    go (Some c) = begins_aside who p d

speaks_aside : (d : Digest) (p : ℕ) (a : Asked) (r : DialogueRecord) → are_spoken (TxOut.Carry p r ∷ []) ≡ true → IsAside d (perform (TxOut.Carry p r ∷ []) (record d { arcs = with_dialogue d.arcs p (said a) }))
speaks_aside d p a r spoken = aside_says d (record d { arcs = with_dialogue d.arcs p (said a) }) (TxOut.Carry p r ∷ []) refl spoken refl (changed d p (said a))

-- it is put to nobody, or there is no transaction
abbrev pub IsNone : Option Put → Digest → Type 0
IsNone x d = (x ≡ None) ⊎ (d.current ≡ None)

idle_tx : (d g : Digest) (who : Who) (f : TxEvent) (x : Put) → g.current ≡ d.current → IsNone (Some x) d → IsAside d (transact who f g)
idle_tx d g who f x same (inl h) = absurd (cc (h))
idle_tx d g who f x same (inr h) = aside_idle d g who f (same ∙ h)

end_aside : (who : Who) (d : Digest) (p : ℕ) → refused_request who d (Request.EndDialogue p) ≡ None → IsAside d (perform (TxOut.Carry p DialogueRecord.EndDialogue ∷ TxOut.Close p ∷ []) d)
end_aside who d p ok = aside_perform d d (TxOut.Carry p DialogueRecord.EndDialogue ∷ TxOut.Close p ∷ []) refl refl (same_arcs d) (λ c q is need live. rw (other c q is need (p == q) refl) refl)
  where
    other : (c : Current) (q : ℕ) → d.current ≡ Some c → needs c q ≡ true → (b : Bool) → (p == q) ≡ b → b ≡ false
    other c q is need false i = refl
    other c q is need true i =
        let same : p ≡ q = grind (arith, nat_tests, i) in
        absurd (cc (is_peer_no who d c q is need, ap (λ (n : ℕ). (situation_at who d n).branch) (sym same) ∙ refused_end who d p ok))

-- a dialogue that is no branch is aborted
pub aborts_aside : (who : Who) (d : Digest) (p : ℕ) → (situation_at who d p).branch ≡ false → IsAside d (perform (TxOut.Carry p DialogueRecord.UAbort ∷ TxOut.Close p ∷ []) d)
aborts_aside who d p off = aside_perform d d (TxOut.Carry p DialogueRecord.UAbort ∷ TxOut.Close p ∷ []) refl refl (same_arcs d) (λ c q is need live. rw (other c q is need (p == q) refl) refl)
  where
    other : (c : Current) (q : ℕ) → d.current ≡ Some c → needs c q ≡ true → (b : Bool) → (p == q) ≡ b → b ≡ false
    other c q is need false i = refl
    other c q is need true i =
        let same : p ≡ q = grind (arith, nat_tests, i) in
        absurd (cc (is_peer_no who d c q is need, ap (λ (n : ℕ). (situation_at who d n).branch) (sym same) ∙ off))

pub nothing_aside : (d : Digest) → IsAside d (move [] d)
nothing_aside d = aside_still d d refl (same_arcs d)

request_aside : (who : Who) (d : Digest) (r : Request) → is_failure (Event.Do r) ≡ false → refused_request who d r ≡ None → IsNone (put_by_request who d r) d → IsAside d (do_request who r d)
request_aside who d (Request.BeginDialogue a u) calm ok h = call_aside who d a u
request_aside who d (Request.Accept u) calm ok h = accept_aside who d u
request_aside who d Request.Reject calm ok h = reject_aside d
request_aside who d (Request.EndDialogue p) calm ok h = end_aside who d p ok
request_aside who d (Request.UserData p xs) calm ok h = speaks_aside d p Ask_data (DialogueRecord.UserData xs) refl
request_aside who d (Request.UError p) calm ok h = speaks_aside d p Ask_error DialogueRecord.UError refl
request_aside who d (Request.Grant p) calm ok h = speaks_aside d p Ask_grant DialogueRecord.Grant refl
request_aside who d (Request.AskControl p) calm ok h = speaks_aside d p Ask_control DialogueRecord.AskControl refl
request_aside who d (Request.Handshake p) calm ok h = speaks_aside d p Ask_handshake DialogueRecord.Handshake refl
request_aside who d (Request.Respond p) calm ok h = speaks_aside d p Ask_respond DialogueRecord.Response refl
request_aside who d (Request.HandshakeGrant p) calm ok h = speaks_aside d p Ask_handshake_grant DialogueRecord.HandshakeGrant refl
request_aside who d (Request.BeginTransaction p) calm ok h = begin_aside who d p
request_aside who d (Request.DeferEnd p) calm ok h = idle_tx d (record d { arcs = with_dialogue d.arcs p (said Ask_defer_end) }) who (TxEvent.User (Request.DeferEnd p)) _ refl h
request_aside who d (Request.DeferGrant p) calm ok h = idle_tx d (record d { arcs = with_dialogue d.arcs p (said Ask_defer_grant) }) who (TxEvent.User (Request.DeferGrant p)) _ refl h
request_aside who d (Request.Prepare p) calm ok h = idle_tx d d who (TxEvent.User (Request.Prepare p)) _ refl h
request_aside who d Request.Commit calm ok h = idle_tx d d who (TxEvent.User Request.Commit) _ refl h
request_aside who d Request.Done calm ok h = idle_tx d d who (TxEvent.User Request.Done) _ refl h
request_aside who d Request.Unchanged calm ok h = idle_tx d d who (TxEvent.User Request.Unchanged) _ refl h
request_aside who d _ calm ok h = absurd (cc (calm))

-- ---- records on an association

heard_end : (who : Who) (d : Digest) (a : Arc) → sight_at who d a DialogueRecord.EndDialogue ≡ Acts
    → (not (situation_at who d a.peer.node).branch || (situation_at who d a.peer.node).done || (situation_at who d a.peer.node).left) ≡ true
unfolding sight_of arrived
heard_end who d a acts = grind (arith, acts)

end_is_off : (who : Who) (d : Digest) (c : Current) (p : ℕ) → d.current ≡ Some c → IsApart d → needs c p ≡ true → ((situation_at who d p).done || (situation_at who d p).left) ≡ false
unfolding situation_of
end_is_off who d c p i apart need = rw (i, situation_at) (go (find_branch c.branches p) refl)
  where
    rows : (f : Branch → Bool) → row_holds (seen_rows d.arcs c.branches) p f ≡ elim (find_branch c.branches p) as (λ _. Bool) [ None ↦ false | Some b ↦ f b ]
    rows f = seen_holds d.arcs c.branches p f

    go : (o : Option Branch) → find_branch c.branches p ≡ o → (row_holds (seen_rows d.arcs c.branches) p (λ b. b.ended) || row_holds (seen_rows d.arcs c.branches) p (λ b. b.left)) ≡ false
    go None j = rw (rows (λ b. b.ended), rows (λ b. b.left), j) refl
    go (Some b) j = on (is_under_at c.key p) refl
      where
        on : (v : Bool) → is_under_at c.key p ≡ v → (row_holds (seen_rows d.arcs c.branches) p (λ x. x.ended) || row_holds (seen_rows d.arcs c.branches) p (λ x. x.left)) ≡ false
        on true k = let none : find_branch c.branches p ≡ None = find_none c.branches p (apart c p i k) in absurd (cc (none, j))
        on false k = let off : has_ended b ≡ false = grind (arith, need, k, j) in rw (rows (λ x. x.ended), rows (λ x. x.left), j) off

counted_live : (r : DialogueRecord) (q : ℕ) (d : Digest) (p : ℕ) → is_live_with_peer (woken_by r q (record d { arcs = with_link d.arcs q with_one_taken })).arcs p ≡ is_live_with_peer d.arcs p
counted_live r q d p = go (is_response r)
  where
    g : Digest
    g = record d { arcs = with_link d.arcs q with_one_taken }

    go : (b : Bool) → is_live_with_peer (if b then g else record g { arcs = with_dialogue g.arcs q woken }).arcs p ≡ is_live_with_peer d.arcs p
    go true = (taken_alike d.arcs q p).live
    go false = live_same g.arcs q woken p ∙ (taken_alike d.arcs q p).live

counted_same : (r : DialogueRecord) (q : ℕ) (d : Digest) → (woken_by r q (record d { arcs = with_link d.arcs q with_one_taken })).current ≡ d.current
counted_same r q d = grind arith

pub counted_aside : (d : Digest) (q : ℕ) (r : DialogueRecord) → IsAside d (move [] (woken_by r q (record d { arcs = with_link d.arcs q with_one_taken })))
counted_aside d q r = aside_still d (woken_by r q (record d { arcs = with_link d.arcs q with_one_taken })) (counted_same r q d) (λ c p is need live. counted_live r q d p ∙ live)

hear_aside : (d : Digest) (p : ℕ) (h : Heard) (i : Indication) → is_outcome_told i ≡ false → IsAside d (perform (TxOut.Tell i ∷ []) (record d { arcs = with_dialogue d.arcs p (heard h) }))
hear_aside d p h i none = aside_says d (record d { arcs = with_dialogue d.arcs p (heard h) }) (TxOut.Tell i ∷ []) refl (rw none refl) refl (changed d p (heard h))

-- the transaction of a Begin needs the arc that it came on
taken_begin : (who : Who) (a : Arc) (t : Aaid) (b : BranchId) (h : Holder) (d : Digest) → is_live_with_peer d.arcs a.peer.node ≡ true → IsAside d (take_begin who a t b h d)
unfolding take_begin
taken_begin who a t b h d live =
    let g : Digest = record d { arcs = with_dialogue d.arcs a.peer.node (begun_by h Side.Subordinate); current = Some (fresh_current (Under t b a.peer)) } in
    record {
      alive = λ old. alive_each who (chained_peers who g) g (fresh g refl);
      quiet = quiet_each who (chained_peers who g) g;
      plain = plain_later None (begin_each who (chained_peers who g) g).rec refl (ap logs_ready_or_commit (no_rec_each who (chained_peers who g) g));
    }
  where
    fresh : (g : Digest) → g ≡ record d { arcs = with_dialogue d.arcs a.peer.node (begun_by h Side.Subordinate); current = Some (fresh_current (Under t b a.peer)) } → IsAlive g
    fresh g at c p is need =
        let now : Some (fresh_current (Under t b a.peer)) ≡ Some c = sym (ap (λ (x : Digest). x.current) at) ∙ is in
        let same : fresh_current (Under t b a.peer) ≡ c = cc (now) in
        let here : needs (fresh_current (Under t b a.peer)) p ≡ true = ap (λ (x : Current). needs x p) same ∙ need in
        let peer : a.peer.node ≡ p = grind (arith, nat_tests, here) in
        ap (λ (x : Digest). is_live_with_peer x.arcs p) at ∙ live_same d.arcs a.peer.node (begun_by h Side.Subordinate) p ∙ subst (λ (n : ℕ). is_live_with_peer d.arcs n ≡ true) peer live

record_aside : (who : Who) (d g : Digest) (a : Arc) (r : DialogueRecord) (arcs : List Arc) → g.current ≡ d.current → ((p : ℕ) → is_live_with_peer g.arcs p ≡ is_live_with_peer d.arcs p) → IsApart d → is_live_with_peer d.arcs a.peer.node ≡ true
    → (r ≡ DialogueRecord.UAbort → ⊥) → sight_at who d a r ≡ Acts → IsNone (put_by_record a.peer.node arcs r) d → IsAside g (take_record who a r g)
record_aside who d g a DialogueRecord.EndDialogue arcs same lives apart live calm acts h =
    aside_perform g g (TxOut.Tell (Indication.EndDialogue a.peer.node) ∷ TxOut.Close a.peer.node ∷ []) refl refl (same_arcs g) (λ c q is need on. rw (other c q (sym same ∙ is) need (a.peer.node == q) refl) refl)
  where
    other : (c : Current) (q : ℕ) → d.current ≡ Some c → needs c q ≡ true → (b : Bool) → (a.peer.node == q) ≡ b → b ≡ false
    other c q is need false i = refl
    other c q is need true i =
        let at : a.peer.node ≡ q = grind (arith, nat_tests, i) in
        let branch : (situation_at who d a.peer.node).branch ≡ true = ap (λ (n : ℕ). (situation_at who d n).branch) at ∙ is_peer_no who d c q is need in
        let off : ((situation_at who d a.peer.node).done || (situation_at who d a.peer.node).left) ≡ false = ap (λ (n : ℕ). (situation_at who d n).done || (situation_at who d n).left) at ∙ end_is_off who d c q is apart need in
        let on : (not (situation_at who d a.peer.node).branch || (situation_at who d a.peer.node).done || (situation_at who d a.peer.node).left) ≡ true = heard_end who d a acts in
        absurd (clash (situation_at who d a.peer.node).branch (situation_at who d a.peer.node).done (situation_at who d a.peer.node).left branch off on)
      where
        clash : (x y z : Bool) → x ≡ true → (y || z) ≡ false → (not x || y || z) ≡ true → ⊥
        clash x y z i j k = absurd (grind (arith, i, j, k))
record_aside who d g a (DialogueRecord.UserData xs) arcs same lives apart live calm acts h = hear_aside g a.peer.node Hear_data (Indication.UserData a.peer.node xs) refl
record_aside who d g a DialogueRecord.UError arcs same lives apart live calm acts h = hear_aside g a.peer.node Hear_error (Indication.UError a.peer.node) refl
record_aside who d g a DialogueRecord.UAbort arcs same lives apart live calm acts h = absurd (calm refl)
record_aside who d g a DialogueRecord.Grant arcs same lives apart live calm acts h = hear_aside g a.peer.node Hear_grant (Indication.Grant a.peer.node) refl
record_aside who d g a DialogueRecord.AskControl arcs same lives apart live calm acts h = hear_aside g a.peer.node Hear_control (Indication.AskControl a.peer.node) refl
record_aside who d g a DialogueRecord.Handshake arcs same lives apart live calm acts h = hear_aside g a.peer.node Hear_handshake (Indication.Handshake a.peer.node) refl
record_aside who d g a DialogueRecord.HandshakeGrant arcs same lives apart live calm acts h = hear_aside g a.peer.node Hear_handshake_grant (Indication.HandshakeGrant a.peer.node) refl
record_aside who d g a DialogueRecord.Response arcs same lives apart live calm acts h = hear_aside g a.peer.node Hear_response (Indication.HandshakeConfirm a.peer.node) refl
record_aside who d g a (DialogueRecord.Begin t b k) arcs same lives apart live calm acts h = taken_begin who a t b k g (lives a.peer.node ∙ live)
record_aside who d g a DialogueRecord.DeferEnd arcs same lives apart live calm acts (inl h) = absurd (cc (h))
record_aside who d g a DialogueRecord.DeferEnd arcs same lives apart live calm acts (inr h) = aside_idle g (record g { arcs = with_dialogue g.arcs a.peer.node (heard Hear_defer_end) }) who (TxEvent.Took a.peer.node DialogueRecord.DeferEnd) (same ∙ h)
record_aside who d g a DialogueRecord.DeferGrant arcs same lives apart live calm acts (inl h) = absurd (cc (h))
record_aside who d g a DialogueRecord.DeferGrant arcs same lives apart live calm acts (inr h) = aside_idle g (record g { arcs = with_dialogue g.arcs a.peer.node (heard Hear_defer_grant) }) who (TxEvent.Took a.peer.node DialogueRecord.DeferGrant) (same ∙ h)
record_aside who d g a DialogueRecord.Prepare arcs same lives apart live calm acts (inl h) = absurd (cc (h))
record_aside who d g a DialogueRecord.Prepare arcs same lives apart live calm acts (inr h) = aside_idle g g who (TxEvent.Took a.peer.node DialogueRecord.Prepare) (same ∙ h)
record_aside who d g a DialogueRecord.Ready arcs same lives apart live calm acts (inl h) = absurd (cc (h))
record_aside who d g a DialogueRecord.Ready arcs same lives apart live calm acts (inr h) = aside_idle g g who (TxEvent.Took a.peer.node DialogueRecord.Ready) (same ∙ h)
record_aside who d g a DialogueRecord.Commit arcs same lives apart live calm acts (inl h) = absurd (cc (h))
record_aside who d g a DialogueRecord.Commit arcs same lives apart live calm acts (inr h) = aside_idle g g who (TxEvent.Took a.peer.node DialogueRecord.Commit) (same ∙ h)
record_aside who d g a (DialogueRecord.Done r) arcs same lives apart live calm acts (inl h) = absurd (cc (h))
record_aside who d g a (DialogueRecord.Done r) arcs same lives apart live calm acts (inr h) = aside_idle g g who (TxEvent.Took a.peer.node (DialogueRecord.Done r)) (same ∙ h)
record_aside who d g a DialogueRecord.Rollback arcs same lives apart live calm acts (inl h) = absurd (cc (h))
record_aside who d g a DialogueRecord.Rollback arcs same lives apart live calm acts (inr h) = aside_idle g g who (TxEvent.Took a.peer.node DialogueRecord.Rollback) (same ∙ h)
record_aside who d g a (DialogueRecord.RolledBack r) arcs same lives apart live calm acts (inl h) = absurd (cc (h))
record_aside who d g a (DialogueRecord.RolledBack r) arcs same lives apart live calm acts (inr h) = aside_idle g g who (TxEvent.Took a.peer.node (DialogueRecord.RolledBack r)) (same ∙ h)
record_aside who d g a DialogueRecord.Left arcs same lives apart live calm acts (inl h) = absurd (cc (h))
record_aside who d g a DialogueRecord.Left arcs same lives apart live calm acts (inr h) = aside_idle g (record g { arcs = with_dialogue g.arcs a.peer.node cleared }) who (TxEvent.Took a.peer.node DialogueRecord.Left) (same ∙ h)
record_aside who d g a DialogueRecord.LeftEnd arcs same lives apart live calm acts (inl h) = absurd (cc (h))
record_aside who d g a DialogueRecord.LeftEnd arcs same lives apart live calm acts (inr h) = aside_idle g (record g { arcs = with_dialogue g.arcs a.peer.node cleared }) who (TxEvent.Took a.peer.node DialogueRecord.LeftEnd) (same ∙ h)

on_aside : (who : Who) (d : Digest) (from : Addr) (y z : Mark) (q : ℕ) (r : DialogueRecord) → IsApart d → is_live_with_peer d.arcs from.node ≡ true → (r ≡ DialogueRecord.UAbort → ⊥) → IsNone (put_by_peer who d from (PeerRecord.OnAssoc y z q r)) d
    → IsAside d (do_arrival who from (PeerRecord.OnAssoc y z q r) d)
on_aside who d from y z q r apart live calm h = go (find_arc d.arcs from.node) refl h
  where
    counted : Arc → Digest
    counted a = woken_by r a.peer.node (record d { arcs = with_link d.arcs a.peer.node with_one_taken })

    lives : (a : Arc) (p : ℕ) → is_live_with_peer (counted a).arcs p ≡ is_live_with_peer d.arcs p
    lives a p = counted_live r a.peer.node d p

    aside : (a : Arc) (m : Move) → IsAside (counted a) m → IsAside d m
    aside a m k = aside_same d (counted a) m (counted_same r a.peer.node d) (λ p on. lives a p ∙ on) k

    on : (a : Arc) → find_arc d.arcs from.node ≡ Some a → (v : Sight) → sight_at who d a r ≡ v
        → IsNone (elim v as (λ _. Option Put) [ Acts ↦ put_by_record a.peer.node (counted_arcs d.arcs a.peer.node) r | Nothing_happens ↦ None | Out_of_phase ↦ None ]) d
        → IsAside d (elim v as (λ _. Move) [ Acts ↦ take_record who a r (counted a) | Nothing_happens ↦ move [] (counted a) | Out_of_phase ↦ move [] (counted a) ])
    on a j Acts acts h =
        aside a (take_record who a r (counted a)) (record_aside who d (counted a) a r (counted_arcs d.arcs a.peer.node) (counted_same r a.peer.node d) (lives a) apart (ap (is_live_with_peer d.arcs) (find_arc_is d.arcs from.node a j) ∙ live) calm acts h)
    on a j Nothing_happens acts h = aside a (move [] (counted a)) (aside_still (counted a) (counted a) refl (same_arcs (counted a)))
    on a j Out_of_phase acts h = aside a (move [] (counted a)) (aside_still (counted a) (counted a) refl (same_arcs (counted a)))

    go : (o : Option Arc) → find_arc d.arcs from.node ≡ o → IsNone (elim o as (λ _. Option Put) [ None ↦ None | Some a ↦ put_on who d a r ]) d
        → IsAside d (elim o as (λ _. Move) [ None ↦ move [] d | Some a ↦ take_on who a r d ])
    go None j h = aside_still d d refl (same_arcs d)
    go (Some a) j h = on a j (sight_at who d a r) refl h

-- ---- the other records of peers

open_aside : (d : Digest) (from : Addr) (x : Mark) (u : ℕ) → is_live_with_peer d.arcs from.node ≡ false → IsAside d (take_open from x u d)
open_aside d from x u idle =
    let a : Arc = record { peer = from; link = Offered x; dialogue = fresh_dialogue u Side.Subordinate } in
    aside_says d (record d { arcs = a ∷ d.arcs }) (TxOut.Tell (Indication.BeginDialogue from.node u) ∷ []) refl refl refl (λ c p is need live. rw (not_this d.arcs from.node p idle live) live)

accepted_aside : (who : Who) (d : Digest) (from : Addr) (y z : Mark) (u : ℕ) → IsAside d (do_arrival who from (PeerRecord.AcceptAssoc y z u) d)
unfolding take_accept
accepted_aside who d from y z u = go (find_arc d.arcs from.node)
  where
    live : Arc → Digest
    live a = record d { arcs = put_arc d.arcs (record a { link = Live y z 0 0; dialogue = fresh_dialogue u Side.Superior }) }

    on : (a : Arc) (b v w : Bool) → IsAside (live a) (if not b then move [] (live a) else if v then try_start who (live a) else if w then begin_on who a.peer.node (live a) else move [] (live a))
    on a false v w = aside_still (live a) (live a) refl (same_arcs (live a))
    on a true true w = starts_aside who (live a)
    on a true false true = begins_aside who a.peer.node (live a)
    on a true false false = aside_still (live a) (live a) refl (same_arcs (live a))

    whole : (a : Arc) (m : Move) → IsAside (live a) m → IsAside d (followed (perform (TxOut.Tell (Indication.BegunDialogue a.peer.node u) ∷ []) (live a)) (λ e. m))
    whole a m k = record {
      alive = λ old. k.alive (λ c p is need. live_put d.arcs (record a { link = Live y z 0 0; dialogue = fresh_dialogue u Side.Superior }) p refl (old c p is need));
      quiet = quiet_then (Out.Tell (Indication.BegunDialogue a.peer.node u) ∷ []) m.outs refl k.quiet;
      plain = plain_later None m.rec refl k.plain;
    }

    go : (o : Option Arc) → IsAside d (elim o as (λ _. Move) [ None ↦ move [] d | Some a ↦ take_accept who a y z u d ])
    go None = aside_still d d refl (same_arcs d)
    go (Some a) = whole a _ (on a (is_chained (fresh_dialogue u Side.Superior)) (is_nil (phase_of (live a))) (is_active (phase_of (live a)) && not (has_asked (live a))))

reply_to_aside : (from : Addr) (t : Aaid) (b : BranchId) (o : Option RecState) (d : Digest) → IsAside d (reply_to from t b o d)
reply_to_aside from t b None d = aside_still d d refl (same_arcs d)
reply_to_aside from t b (Some s) d = aside_says d d (TxOut.Recovery from (PeerRecord.RecReply t b s) ∷ []) refl refl refl (same_arcs d)

order_aside : (who : Who) (d : Digest) (from : Addr) (t : Aaid) (b : BranchId) → IsNone (put_where_ready d t b TxEvent.Ordered) d → IsAside d (take_order who from t b d)
order_aside who d from t b h = go (is_current_ready n) h
  where
    n : Named
    n = named_by_key d (branch_key t b)

    go : (v : Bool) → IsNone (if v then put TxEvent.Ordered d.arcs else None) d → IsAside d (if v then transact who TxEvent.Ordered d else reply_to from t b (recovery_answer (known_of n b) Question.RecCommit) d)
    go false h = reply_to_aside from t b (recovery_answer (known_of n b) Question.RecCommit) d
    go true h = idle_tx d d who TxEvent.Ordered _ refl h

reply_aside : (who : Who) (d : Digest) (t : Aaid) (b : BranchId) (s : RecState) → IsNone (put_where_ready d t b (TxEvent.Reply b s)) d → IsAside d (take_ready_reply who t b s d)
reply_aside who d t b s h = go (is_current_ready (named_by_key d (branch_key t b))) h
  where
    go : (v : Bool) → IsNone (if v then put (TxEvent.Reply b s) d.arcs else None) d → IsAside d (if v then transact who (TxEvent.Reply b s) d else move [] d)
    go false h = aside_still d d refl (same_arcs d)
    go true h = idle_tx d d who (TxEvent.Reply b s) _ refl h

forget_shuts : (to : Addr) (k : NodeKey) (b : BranchId) (r : Report) → shuts_none (forget_to to k b r) ≡ true
forget_shuts to k b r = grind arith

done_aside : (who : Who) (d : Digest) (from : Addr) (t : Aaid) (b : BranchId) (r : Report) → IsNone (if is_committing_named (named_by_branch d t b).current then put (TxEvent.Reply b (RecState.Done r)) d.arcs else None) d
    → IsAside d (take_done_reply who from t b r d)
done_aside who d from t b r h = go (is_committing_named n.current) n.kept n.current h
  where
    n : Named
    n = named_by_branch d t b

    go : (v : Bool) (k : Option Kept) (c : Option Current) → IsNone (if v then put (TxEvent.Reply b (RecState.Done r)) d.arcs else None) d
        → IsAside d (if v then transact who (TxEvent.Reply b (RecState.Done r)) d
        else elim k as (λ _. Move) [ Some x ↦ keep (settled x (KeptEvent.Done from b r)) d | None ↦ elim c as (λ _. Move) [ Some u ↦ move [] d | None ↦ perform (forget_to from (branch_key t b) b r) d ] ])
    go true k c h = idle_tx d d who (TxEvent.Reply b (RecState.Done r)) _ refl h
    go false (Some x) c h = aside_keep d d x (KeptEvent.Done from b r) refl refl
    go false None (Some u) h = aside_still d d refl (same_arcs d)
    go false None None h = aside_says d d (forget_to from (branch_key t b) b r) refl (spoken_forget from (branch_key t b) b r) (forget_shuts from (branch_key t b) b r) (same_arcs d)

forget_aside : (k : NodeKey) (d : Digest) → IsAside d (take_forget k d)
forget_aside k d = go (find_kept d.kept k)
  where
    go : (v : Option Kept) → IsAside d (elim v as (λ _. Move) [ None ↦ move [] d | Some x ↦ keep (settled x KeptEvent.Forget) (record d { kept = with_forget d.kept k (λ y. noted y KeptEvent.Forget) }) ])
    go None = aside_still d d refl (same_arcs d)
    go (Some x) = aside_keep d (record d { kept = with_forget d.kept k (λ y. noted y KeptEvent.Forget) }) x KeptEvent.Forget refl refl

idle_open : (who : Who) (d : Digest) (from : Addr) (x : Mark) (u : ℕ) → refused_arrival who d from (PeerRecord.OpenAssoc x u) ≡ None → is_live_with_peer d.arcs from.node ≡ false
unfolding refused_arrival
idle_open who d from x u ok = go (link_with d.arcs from.node) refl
  where
    go : (l : Link) → link_with d.arcs from.node ≡ l → is_live l ≡ false
    go Idle i = refl
    go (Opening z) i = refl
    go (Offered z) i = refl
    go (Live z w s t) i = absurd (grind (arith, ok, i))

opening_shut : (who : Who) (d : Digest) (from : Addr) (x : Mark) → refused_arrival who d from (PeerRecord.ShutAssoc x None) ≡ None → is_live_with_peer d.arcs from.node ≡ false
unfolding refused_arrival
opening_shut who d from x ok = go (find_arc d.arcs from.node) refl
  where
    on : (a : Arc) → find_arc d.arcs from.node ≡ Some a → (l : Link) → a.link ≡ l → is_live l ≡ false
    on a i Idle j = refl
    on a i (Opening z) j = refl
    on a i (Offered z) j = refl
    on a i (Live z w s t) j = absurd (grind (arith, ok, i, j))

    go : (o : Option Arc) → find_arc d.arcs from.node ≡ o → is_live_with_peer d.arcs from.node ≡ false
    go None i = rw (i, link_with) refl
    go (Some a) i = rw (i, link_with) (on a i a.link refl)

no_abort : (from : Addr) (y z : Mark) (q : ℕ) (r : DialogueRecord) → is_failure (Event.Arrive from (PeerRecord.OnAssoc y z q r)) ≡ false → r ≡ DialogueRecord.UAbort → ⊥
no_abort from y z q r calm is = let off : is_failure (Event.Arrive from (PeerRecord.OnAssoc y z q DialogueRecord.UAbort)) ≡ false = ap (λ (w : DialogueRecord). is_failure (Event.Arrive from (PeerRecord.OnAssoc y z q w))) (sym is) ∙ calm in absurd (cc (off))

peer_aside : (who : Who) (d : Digest) (from : Addr) (r : PeerRecord) → is_failure (Event.Arrive from r) ≡ false → refused_arrival who d from r ≡ None → IsApart d → IsNone (put_by_peer who d from r) d → IsAside d (do_arrival who from r d)
peer_aside who d from (PeerRecord.OpenAssoc x u) calm ok apart h = open_aside d from x u (idle_open who d from x u ok)
peer_aside who d from (PeerRecord.AcceptAssoc x y u) calm ok apart h = accepted_aside who d from x y u
peer_aside who d from (PeerRecord.ShutAssoc x None) calm ok apart h =
    aside_perform d d (TxOut.Close from.node ∷ TxOut.Tell (Indication.Rejected from.node) ∷ []) refl refl (same_arcs d) (λ c p is need live. rw (not_this d.arcs from.node p (opening_shut who d from x ok) live) refl)
peer_aside who d from (PeerRecord.ShutAssoc x (Some y)) calm ok apart h = absurd (cc (calm))
peer_aside who d from (PeerRecord.OnAssoc x y q r) calm ok apart h = on_aside who d from x y q r apart (on_live who d from x y q r ok) (no_abort from x y q r calm) h
peer_aside who d from (PeerRecord.RecReady t b) calm ok apart h = reply_to_aside from t b (recovery_answer (known_of (named_by_branch d t b) b) Question.RecReady) d
peer_aside who d from (PeerRecord.RecCommit t b) calm ok apart h = order_aside who d from t b h
peer_aside who d from (PeerRecord.RecReply t b RecState.Commit) calm ok apart h = reply_aside who d t b RecState.Commit h
peer_aside who d from (PeerRecord.RecReply t b (RecState.Done r)) calm ok apart h = done_aside who d from t b r h
peer_aside who d from (PeerRecord.RecReply t b RecState.Unknown) calm ok apart h = reply_aside who d t b RecState.Unknown h
peer_aside who d from (PeerRecord.RecReply t b RecState.RetryLater) calm ok apart h = reply_aside who d t b RecState.RetryLater h
peer_aside who d from (PeerRecord.Forget t b) calm ok apart h = forget_aside (branch_key t b) d

purge_aside : (d : Digest) → IsAside d (purge d)
unfolding purge
purge_aside d = go d.kept
  where
    go : (ks : List Kept) → IsAside d (elim ks as (λ _. Move) [ [] ↦ move [] d | x ∷ xs ↦ keep (settled x KeptEvent.Purge) d ])
    go [] = aside_still d d refl (same_arcs d)
    go (x ∷ xs) = aside_keep d d x KeptEvent.Purge refl refl

pub retry_aside : (ks : List Kept) (d : Digest) → IsAside d (retry_each ks d)
retry_aside [] d = aside_still d d refl (same_arcs d)
retry_aside (k ∷ ks) d =
    let one : IsAside d (perform (owed k) d) = aside_says d d (owed k) refl (spoken_owed k) (owed_shuts k) (same_arcs d) in
    let two : IsAside (perform (owed k) d).next (retry_each ks (perform (owed k) d).next) = retry_aside ks (perform (owed k) d).next in
    record { alive = λ old. two.alive (one.alive old); quiet = quiet_then (perform (owed k) d).outs (retry_each ks (perform (owed k) d).next).outs one.quiet two.quiet; plain = plain_later None (retry_each ks (perform (owed k) d).next).rec refl two.plain }

pub aside_event : (who : Who) (d : Digest) (e : Event) → is_failure e ≡ false → refusal who d e ≡ None → IsApart d → IsNone (put_by who d e) d → IsAside d (action who d e)
unfolding retry
aside_event who d (Event.Declare s) calm ok apart h = aside_still d (record d { declared = true; superior = s }) refl (same_arcs d)
aside_event who d (Event.Do r) calm ok apart h = request_aside who d r calm (plain_request who d r ok) h
aside_event who d (Event.Arrive from r) calm ok apart h = peer_aside who d from r calm (plain_arrival who d from r ok) apart h
aside_event who d Event.Retry calm ok apart (inl h) = absurd (cc (h))
aside_event who d Event.Retry calm ok apart (inr h) =
    let a : Move = transact who TxEvent.Retry d in
    let one : IsAside d a = aside_idle d d who TxEvent.Retry h in
    let two : IsAside a.next (retry_each a.next.kept a.next) = retry_aside a.next.kept a.next in
    record { alive = λ old. two.alive (one.alive old); quiet = quiet_then a.outs (retry_each a.next.kept a.next).outs one.quiet two.quiet; plain = plain_later a.rec (retry_each a.next.kept a.next).rec one.plain two.plain }
aside_event who d Event.Purge calm ok apart h = purge_aside d
aside_event who d _ calm ok apart h = absurd (cc (calm))
