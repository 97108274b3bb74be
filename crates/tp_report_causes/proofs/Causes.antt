-- In every run, a completion that tells a report has its cause at the node, or at a branch that told it.
use Rattle.std.proofs.Common.{if◌then◌else◌, ◌≡◌, ◌⊎◌, inl, inr, ℕ, Bool, true, false, refl, ap, sym, subst, ◌∙◌, Option, Some, None, List, [], ◌∷◌, ◌&&◌, ◌||◌}
use Rattle.std.specs.Prelude.{not}
use Rattle.tp_names.specs.declared.identifiers.Aaid.{Aaid}
use Rattle.tp_names.specs.declared.identifiers.BranchId.{BranchId}
use Rattle.tp_names.specs.declared.identifiers.Mark.{Mark}
use Rattle.tp_names.specs.declared.identifiers.Addr.{Addr}
use Rattle.tp_names.specs.declared.outcome.Outcome.{Outcome}
use Rattle.tp_names.specs.declared.outcome.Report.{Report}
use Rattle.tp_names.specs.Same.{is_aaid, is_outcome}
use Rattle.tp_records.specs.declared.request.Request.{Request}
use Rattle.tp_records.specs.declared.indication.Indication.{Indication}
use Rattle.tp_records.specs.declared.dialogue.DialogueRecord.{DialogueRecord}
use Rattle.tp_records.specs.declared.dialogue.Holder.{Holder}
use Rattle.tp_records.specs.declared.peer.PeerRecord.{PeerRecord}
use Rattle.tp_records.specs.declared.peer.RecState.{RecState}
use Rattle.tp_logrec.specs.declared.record.LogRec.{LogRec}
use Rattle.tp_model.specs.declared.arc.Phase.{Phase}
use Rattle.tp_model.specs.declared.transaction.TxEvent.{TxEvent}
use Rattle.tp_model.specs.Parts.{Who, Origin, Event, Out, Entry, Arc, Branch, Under, Current, Digest}
use Rattle.tp_model.specs.Dialogues.{is_ready, is_committing, is_rolling}
use Rattle.tp_model.specs.Transactions.{Row, Transaction, aaid_of, node_key, row_holds, find_row, find_row_by_id, is_open_in_commit}
use Rattle.tp_model.specs.Arrivals.{find_branch_by_id}
use Rattle.tp_model.specs.Node.{Move, move, seen, seen_row, seen_rows, fresh_current, passage, passed, turned, transact, started_next}
use Rattle.tp_model.specs.Events.{action, recovered, named_again, recovered_current}
use Rattle.tp_model.specs.History.{digest, records, with_rec}
use Rattle.tp_model.specs.Outcomes.{is_now, last_decision, decision}
use Rattle.tp_model.specs.World.{Node, number_of}
use Rattle.tp_model.specs.Happenings.{Happening, run}
use Rattle.tp_model.specs.Promises.{IsIn, has_told_in}
use Rattle.tp_model.specs.Legal.{IsGrown}
use Rattle.tp_steps.specs.Moves.{IsAsked, prelude}
use Rattle.tp_steps.specs.Facts.{find_branch}
use Rattle.tp_steps.specs.Trees.{out_tells}
use Rattle.tp_histories.specs.Members.{IsOnce}
use Rattle.tp_steps.specs.Clearing.{same_report}
use Rattle.tp_report_causes.specs.Causes.{tells_committed, tells_rolled_back, is_awaited, hears, gives_up, is_met, has_met, has_heard, has_given_up, ReportsHaveCauses}
use Rattle.tp_steps.proofs.every.EveryEvent.{every_move}
use Rattle.tp_steps.proofs.log.Owned.{key_aaid}
use Rattle.tp_steps.proofs.words.HeardTurned.{seen_find}
use Rattle.tp_steps.proofs.lemmas.Equality.{or_case, and_left, and_right, both_true}
use Rattle.tp_steps.proofs.lemmas.Options.{some_same}
use Rattle.tp_histories.proofs.trees.Late.{late_law}
use Rattle.tp_histories.proofs.trees.Knowing.{Came, As_it_was, By_begin, By_crash, came_by, nil_now, current_none}
use Rattle.tp_histories.proofs.worlds.Good.{good_run}
use Rattle.tp_histories.proofs.worlds.Unique.{unique_run}
use Rattle.tp_agreement.proofs.OwingLaw.{rows_by_id}
use Rattle.tp_outcomes.proofs.Staying.{decision_step}
use Rattle.tp_report_causes.proofs.CausedTurns.{Known, may_hear, branch_ok, decision_ok, own_ok, has_cause, is_bad, Adds}
use Rattle.tp_report_causes.proofs.CausedMoves.{branches_ok, IsOkNow, IsOkAt, CausedMove, IsCausedMove, caused_moves}

-- ---- what a history knows of a tree

abbrev is_so : Outcome → Option Outcome → Bool
is_so u None = false
is_so u (Some v) = is_outcome u v

abbrev known_of : Origin → Aaid → List Entry → Known
known_of o t h = record { heard = λ r. has_met (hears r) o t h; gave = has_met gives_up o t h; decides = λ u. is_so u (decision o t h) }

so_is : (u : Outcome) (o : Option Outcome) → is_so u o ≡ true → o ≡ Some u
so_is Outcome.Commit (Some Outcome.Commit) h = refl
so_is Outcome.Rollback (Some Outcome.Rollback) h = refl
so_is _ _ h = absurd (cc (h))

is_so_of : (u : Outcome) (o : Option Outcome) → o ≡ Some u → is_so u o ≡ true
is_so_of Outcome.Commit o h = ap (is_so Outcome.Commit) h
is_so_of Outcome.Rollback o h = ap (is_so Outcome.Rollback) h

-- ---- more is known

record IsWider (k l : Known) : Type 0 where
  heard : (r : Report) → k.heard r ≡ true → l.heard r ≡ true
  gave : k.gave ≡ true → l.gave ≡ true
  decides : (u : Outcome) → k.decides u ≡ true → l.decides u ≡ true

or_wider : (a b c d : Bool) → (a ≡ true → c ≡ true) → (b ≡ true → d ≡ true) → (a || b) ≡ true → (c || d) ≡ true
or_wider true b c d f g h = let i = f refl in rw i refl
or_wider false b c d f g h = later c d (g h)
  where
    later : (x y : Bool) → y ≡ true → (x || y) ≡ true
    later true y i = refl
    later false y i = i

hear_wider : (k l : Known) → IsWider k l → (r : Report) → may_hear k r ≡ true → may_hear l r ≡ true
hear_wider k l w Report.None h = refl
hear_wider k l w Report.Hazard h = w.heard Report.Hazard h
hear_wider k l w Report.Mix h = w.heard Report.Mix h

branch_wider : (k l : Known) → IsWider k l → (b : Branch) → branch_ok k b ≡ true → branch_ok l b ≡ true
branch_wider k l w b h =
    both_true (may_hear l b.report) (not b.given_up || l.gave) (hear_wider k l w b.report (and_left (may_hear k b.report) (not b.given_up || k.gave) h))
    (or_wider (not b.given_up) k.gave (not b.given_up) l.gave (λ i. i) w.gave (and_right (may_hear k b.report) (not b.given_up || k.gave) h))

branches_wider : (k l : Known) → IsWider k l → (bs : List Branch) → branches_ok k bs ≡ true → branches_ok l bs ≡ true
branches_wider k l w [] h = refl
branches_wider k l w (b ∷ bs) h =
    both_true (branch_ok l b) (branches_ok l bs) (branch_wider k l w b (and_left (branch_ok k b) (branches_ok k bs) h)) (branches_wider k l w bs (and_right (branch_ok k b) (branches_ok k bs) h))

decision_wider : (k l : Known) → IsWider k l → (o : Option Outcome) → decision_ok k o ≡ true → decision_ok l o ≡ true
decision_wider k l w None h = refl
decision_wider k l w (Some u) h = w.decides u h

own_wider : (k l : Known) → IsWider k l → (r : Report) → own_ok k r ≡ true → own_ok l r ≡ true
own_wider k l w Report.None h = refl
own_wider k l w Report.Hazard h = absurd (cc (h))
own_wider k l w Report.Mix h = w.decides Outcome.Commit h

now_wider : (k l : Known) → IsWider k l → (c : Current) → IsOkNow k c → IsOkNow l c
now_wider k l w c o = record { branches = branches_wider k l w c.branches o.branches; decision = decision_wider k l w c.decision o.decision; own = own_wider k l w c.own o.own }

cause_wider : (k l : Known) → IsWider k l → (u : Outcome) (r : Report) → has_cause k u r ≡ true → has_cause l u r ≡ true
cause_wider k l w u Report.None h = refl
cause_wider k l w u Report.Hazard h = or_wider k.gave (k.heard Report.Hazard) l.gave (l.heard Report.Hazard) w.gave (w.heard Report.Hazard) h
cause_wider k l w u Report.Mix h = or_wider (k.decides u) (k.heard Report.Mix) (l.decides u) (l.heard Report.Mix) (w.decides u) (w.heard Report.Mix) h

met_more : (f : Current → Event → Bool) (o : Origin) (t : Aaid) (e : Entry) (h : List Entry) → has_met f o t h ≡ true → has_met f o t (e ∷ h) ≡ true
met_more f o t e h i = or_wider false (has_met f o t h) (is_met f t (digest o h).current e.event) (has_met f o t h) (λ j. absurd (cc (j))) (λ j. j) i

wider : (o : Origin) (up : Option Addr) (e : Entry) (h : List Entry) (t : Aaid) → o.start.records ≡ [] → IsGrown o up (e ∷ h) → IsOnce o (e ∷ h) → IsWider (known_of o t h) (known_of o t (e ∷ h))
wider o up e h t empty legal once = record {
  heard = λ r i. met_more (hears r) o t e h i;
  gave = λ i. met_more gives_up o t e h i;
  decides = λ u i. is_so_of u (decision o t (e ∷ h)) (decision_step o up e h t u empty legal once (so_is u (decision o t h) i));
}

-- ---- what an event adds

-- an event of the transaction that brings no report, gives nothing up and decides nothing
abbrev is_adding : TxEvent → Bool
is_adding (TxEvent.Took p (DialogueRecord.Done r)) = true
is_adding (TxEvent.Took p (DialogueRecord.RolledBack r)) = true
is_adding (TxEvent.Reply b (RecState.Done r)) = true
is_adding (TxEvent.GiveUp p) = true
is_adding (TxEvent.Heur o) = true
is_adding _ = false

plain : (k : Known) (f : TxEvent) (s : Transaction) → is_adding f ≡ false → Adds k f s
plain k f s h = record {
  done = λ p r i c row. absurd (cc (ap is_adding i, h));
  rolled = λ p r i c row. absurd (cc (ap is_adding i, h));
  replied = λ b w r i found o. absurd (cc (ap is_adding i, h));
  gives = λ p i. absurd (cc (ap is_adding i, h));
  decides = λ o i. absurd (cc (ap is_adding i, h));
}

same_self : (r : Report) → same_report r r ≡ true
same_self Report.None = refl
same_self Report.Hazard = refl
same_self Report.Mix = refl

hears_it : (k : Known) (r : Report) → ((v : Report) → same_report v r ≡ true → k.heard v ≡ true) → may_hear k r ≡ true
hears_it k Report.None f = refl
hears_it k Report.Hazard f = f Report.Hazard refl
hears_it k Report.Mix f = f Report.Mix refl

abbrev IsWaited : Transaction → ℕ → Type 0
IsWaited s p = row_holds s.rows p (λ b. not b.ended && not b.left) ≡ true

took_done : (k : Known) (p : ℕ) (r : Report) (s : Transaction) → (is_committing s.phase ≡ true → IsWaited s p → may_hear k r ≡ true) → Adds k (TxEvent.Took p (DialogueRecord.Done r)) s
took_done k p r s h = record {
  done = λ q v i c row. ap (may_hear k) (sym (one p q r v i)) ∙ h c (subst (λ (n : ℕ). IsWaited s n) (sym (at p q r v i)) row);
  rolled = λ q v i c row. absurd (cc (i));
  replied = λ b w v i found o. absurd (cc (i));
  gives = λ q i. absurd (cc (i));
  decides = λ o i. absurd (cc (i));
}
  where
    one : (p q : ℕ) (r v : Report) → TxEvent.Took p (DialogueRecord.Done r) ≡ TxEvent.Took q (DialogueRecord.Done v) → r ≡ v
    one p q r v i = cc (i)

    at : (p q : ℕ) (r v : Report) → TxEvent.Took p (DialogueRecord.Done r) ≡ TxEvent.Took q (DialogueRecord.Done v) → p ≡ q
    at p q r v i = cc (i)

took_rolled : (k : Known) (p : ℕ) (r : Report) (s : Transaction) → (is_rolling s.phase ≡ true → IsWaited s p → may_hear k r ≡ true) → Adds k (TxEvent.Took p (DialogueRecord.RolledBack r)) s
took_rolled k p r s h = record {
  done = λ q v i c row. absurd (cc (i));
  rolled = λ q v i c row. ap (may_hear k) (sym (one p q r v i)) ∙ h c (subst (λ (n : ℕ). IsWaited s n) (sym (at p q r v i)) row);
  replied = λ b w v i found o. absurd (cc (i));
  gives = λ q i. absurd (cc (i));
  decides = λ o i. absurd (cc (i));
}
  where
    one : (p q : ℕ) (r v : Report) → TxEvent.Took p (DialogueRecord.RolledBack r) ≡ TxEvent.Took q (DialogueRecord.RolledBack v) → r ≡ v
    one p q r v i = cc (i)

    at : (p q : ℕ) (r v : Report) → TxEvent.Took p (DialogueRecord.RolledBack r) ≡ TxEvent.Took q (DialogueRecord.RolledBack v) → p ≡ q
    at p q r v i = cc (i)

took_reply : (k : Known) (b : BranchId) (r : Report) (s : Transaction) → ((w : Row) → find_row_by_id s.rows b ≡ Some w → is_open_in_commit s w.branch ≡ true → may_hear k r ≡ true) → Adds k (TxEvent.Reply b (RecState.Done r)) s
took_reply k b r s h = record {
  done = λ q v i c row. absurd (cc (i));
  rolled = λ q v i c row. absurd (cc (i));
  replied = λ d w v i found o. ap (may_hear k) (sym (one b d r v i)) ∙ h w (ap (find_row_by_id s.rows) (at b d r v i) ∙ found) o;
  gives = λ q i. absurd (cc (i));
  decides = λ o i. absurd (cc (i));
}
  where
    one : (b d : BranchId) (r v : Report) → TxEvent.Reply b (RecState.Done r) ≡ TxEvent.Reply d (RecState.Done v) → r ≡ v
    one b d r v i = cc (i)

    at : (b d : BranchId) (r v : Report) → TxEvent.Reply b (RecState.Done r) ≡ TxEvent.Reply d (RecState.Done v) → b ≡ d
    at b d r v i = cc (i)

gave_up : (k : Known) (p : ℕ) (s : Transaction) → k.gave ≡ true → Adds k (TxEvent.GiveUp p) s
gave_up k p s h = record { done = λ q v i c row. absurd (cc (i)); rolled = λ q v i c row. absurd (cc (i)); replied = λ b w v i found o. absurd (cc (i)); gives = λ q i. h; decides = λ o i. absurd (cc (i)) }

decided_so : (k : Known) (u : Outcome) (s : Transaction) → k.decides u ≡ true → Adds k (TxEvent.Heur u) s
decided_so k u s h = record { done = λ q v i c row. absurd (cc (i)); rolled = λ q v i c row. absurd (cc (i)); replied = λ b w v i found o. absurd (cc (i)); gives = λ q i. absurd (cc (i)); decides = λ o i. ap k.decides (sym (one u o i)) ∙ h }
  where
    one : (u o : Outcome) → TxEvent.Heur u ≡ TxEvent.Heur o → u ≡ o
    one u o i = cc (i)

-- the branch at a row is awaited
awaited_row : (arcs : List Arc) (bs : List Branch) (p : ℕ) → row_holds (seen_rows arcs bs) p (λ b. not b.ended && not b.left) ≡ true → is_awaited (find_branch bs p) ≡ true
awaited_row arcs bs p h = go (find_branch bs p) refl
  where
    found : (o : Option Branch) → find_branch bs p ≡ o → find_row (seen_rows arcs bs) p ≡ elim o as (λ _. Option Row) [ None ↦ None | Some b ↦ Some (seen_row arcs b) ]
    found o i = seen_find arcs bs p ∙ ap (λ (v : Option Branch). elim v as (λ _. Option Row) [ None ↦ None | Some b ↦ Some (seen_row arcs b) ]) i

    go : (o : Option Branch) → find_branch bs p ≡ o → is_awaited o ≡ true
    go None i = sym (ap (λ (v : Option Row). elim v as (λ _. Bool) [ None ↦ false | Some r ↦ not r.branch.ended && not r.branch.left ]) (found None i)) ∙ h
    go (Some b) i = sym (ap (λ (v : Option Row). elim v as (λ _. Bool) [ None ↦ false | Some r ↦ not r.branch.ended && not r.branch.left ]) (found (Some b) i)) ∙ h

awaited_id : (c : Current) (b : BranchId) (w : Row) (v : Bool) → find_branch_by_id c.branches b ≡ Some w.branch → (v && not w.branch.ended && not w.branch.left) ≡ true → is_awaited (find_branch_by_id c.branches b) ≡ true
awaited_id c b w v at o =
    ap is_awaited at
    ∙ both_true (not w.branch.ended) (not w.branch.left) (and_right v (not w.branch.ended) (and_left (v && not w.branch.ended) (not w.branch.left) o)) (and_right (v && not w.branch.ended) (not w.branch.left) o)

-- what an event tells of a node, where it adds to what is known
record Telling (k : Known) (e : Event) (c : Current) : Type 0 where
  heard : (r : Report) → hears r c e ≡ true → k.heard r ≡ true
  gave : gives_up c e ≡ true → k.gave ≡ true
  decides : (u : Outcome) → e ≡ Event.Heur u → k.decides u ≡ true

heard_done : (who : Who) (k : Known) (arcs : List Arc) (from : Addr) (x y : Mark) (q : ℕ) (r : Report) (c : Current) → Telling k (Event.Arrive from (PeerRecord.OnAssoc x y q (DialogueRecord.Done r))) c → Adds k (TxEvent.Took from.node (DialogueRecord.Done r)) (seen who arcs c)
heard_done who k arcs from x y q r c tell =
    took_done k from.node r (seen who arcs c)
    (λ now row. hears_it k r
    (λ v i. tell.heard v (both_true (is_committing c.phase && is_awaited (find_branch c.branches from.node)) (same_report v r) (both_true (is_committing c.phase) (is_awaited (find_branch c.branches from.node)) now (awaited_row arcs c.branches from.node row)) i)))

heard_rolled : (who : Who) (k : Known) (arcs : List Arc) (from : Addr) (x y : Mark) (q : ℕ) (r : Report) (c : Current) → Telling k (Event.Arrive from (PeerRecord.OnAssoc x y q (DialogueRecord.RolledBack r))) c → Adds k (TxEvent.Took from.node (DialogueRecord.RolledBack r)) (seen who arcs c)
heard_rolled who k arcs from x y q r c tell =
    took_rolled k from.node r (seen who arcs c)
    (λ now row. hears_it k r
    (λ v i. tell.heard v (both_true (is_rolling c.phase && is_awaited (find_branch c.branches from.node)) (same_report v r) (both_true (is_rolling c.phase) (is_awaited (find_branch c.branches from.node)) now (awaited_row arcs c.branches from.node row)) i)))

heard_reply : (who : Who) (k : Known) (arcs : List Arc) (from : Addr) (u : Aaid) (b : BranchId) (r : Report) (c : Current) → is_aaid (aaid_of c.key) u ≡ true → Telling k (Event.Arrive from (PeerRecord.RecReply u b (RecState.Done r))) c → Adds k (TxEvent.Reply b (RecState.Done r)) (seen who arcs c)
heard_reply who k arcs from u b r c tree tell =
    took_reply k b r (seen who arcs c)
    (λ w found o. let now : is_committing c.phase ≡ true = and_left (is_committing c.phase) (not w.branch.ended) (and_left (is_committing c.phase && not w.branch.ended) (not w.branch.left) o) in
    let waits : is_awaited (find_branch_by_id c.branches b) ≡ true = awaited_id c b w (is_committing c.phase) (rows_by_id arcs c.branches b w found) o in
    hears_it k r
    (λ v i. tell.heard v (both_true (is_committing c.phase && is_awaited (find_branch_by_id c.branches b) && is_aaid (aaid_of c.key) u) (same_report v r)
    (both_true (is_committing c.phase && is_awaited (find_branch_by_id c.branches b)) (is_aaid (aaid_of c.key) u) (both_true (is_committing c.phase) (is_awaited (find_branch_by_id c.branches b)) now waits) tree) i)))

adds_request : (k : Known) (q : Request) (c : Current) (f : TxEvent) (s : Transaction) → IsAsked (Event.Do q) c f → Adds k f s
adds_request k (Request.UAbort p) c f s a = subst (λ (g : TxEvent). Adds k g s) (sym a.0) (plain k (TxEvent.User (Request.UAbort p)) s refl)
adds_request k (Request.DeferEnd p) c f s a = subst (λ (g : TxEvent). Adds k g s) (sym a) (plain k (TxEvent.User (Request.DeferEnd p)) s refl)
adds_request k (Request.DeferGrant p) c f s a = subst (λ (g : TxEvent). Adds k g s) (sym a) (plain k (TxEvent.User (Request.DeferGrant p)) s refl)
adds_request k (Request.Prepare p) c f s a = subst (λ (g : TxEvent). Adds k g s) (sym a) (plain k (TxEvent.User (Request.Prepare p)) s refl)
adds_request k Request.Commit c f s a = subst (λ (g : TxEvent). Adds k g s) (sym a) (plain k (TxEvent.User Request.Commit) s refl)
adds_request k Request.Done c f s a = subst (λ (g : TxEvent). Adds k g s) (sym a) (plain k (TxEvent.User Request.Done) s refl)
adds_request k Request.Rollback c f s a = subst (λ (g : TxEvent). Adds k g s) (sym a) (plain k (TxEvent.User Request.Rollback) s refl)
adds_request k Request.Unchanged c f s a = subst (λ (g : TxEvent). Adds k g s) (sym a) (plain k (TxEvent.User Request.Unchanged) s refl)
adds_request k q c f s a = absurd a

adds_asked : (who : Who) (k : Known) (e : Event) (c : Current) (f : TxEvent) (arcs : List Arc) → Telling k e c → IsAsked e c f → Adds k f (seen who arcs c)
adds_asked who k (Event.Declare n) c f arcs tell a = absurd a
adds_asked who k (Event.Do q) c f arcs tell a = adds_request k q c f (seen who arcs c) a
adds_asked who k (Event.Arrive from (PeerRecord.ShutAssoc x None)) c f arcs tell a = absurd a
adds_asked who k (Event.Arrive from (PeerRecord.ShutAssoc x (Some y))) c f arcs tell a = subst (λ (g : TxEvent). Adds k g (seen who arcs c)) (sym a) (plain k (TxEvent.Lost from.node) (seen who arcs c) refl)
adds_asked who k (Event.Arrive from (PeerRecord.OnAssoc x y q (DialogueRecord.Done r))) c f arcs tell a = subst (λ (g : TxEvent). Adds k g (seen who arcs c)) (sym a) (heard_done who k arcs from x y q r c tell)
adds_asked who k (Event.Arrive from (PeerRecord.OnAssoc x y q (DialogueRecord.RolledBack r))) c f arcs tell a = subst (λ (g : TxEvent). Adds k g (seen who arcs c)) (sym a) (heard_rolled who k arcs from x y q r c tell)
adds_asked who k (Event.Arrive from (PeerRecord.OnAssoc x y q r)) c f arcs tell a = subst (λ (g : TxEvent). Adds k g (seen who arcs c)) (sym a) (plain k (TxEvent.Took from.node r) (seen who arcs c) refl)
adds_asked who k (Event.Arrive from (PeerRecord.RecCommit u b)) c f arcs tell a = subst (λ (g : TxEvent). Adds k g (seen who arcs c)) (sym a.0) (plain k TxEvent.Ordered (seen who arcs c) refl)
adds_asked who k (Event.Arrive from (PeerRecord.RecReply u b RecState.Commit)) c f arcs tell a = subst (λ (g : TxEvent). Adds k g (seen who arcs c)) (sym a.0) (plain k (TxEvent.Reply b RecState.Commit) (seen who arcs c) refl)
adds_asked who k (Event.Arrive from (PeerRecord.RecReply u b (RecState.Done r))) c f arcs tell a = subst (λ (g : TxEvent). Adds k g (seen who arcs c)) (sym a.0) (heard_reply who k arcs from u b r c a.1 tell)
adds_asked who k (Event.Arrive from (PeerRecord.RecReply u b RecState.Unknown)) c f arcs tell a = subst (λ (g : TxEvent). Adds k g (seen who arcs c)) (sym a.0) (plain k (TxEvent.Reply b RecState.Unknown) (seen who arcs c) refl)
adds_asked who k (Event.Arrive from (PeerRecord.RecReply u b RecState.RetryLater)) c f arcs tell a = subst (λ (g : TxEvent). Adds k g (seen who arcs c)) (sym a.0) (plain k (TxEvent.Reply b RecState.RetryLater) (seen who arcs c) refl)
adds_asked who k (Event.Arrive from r) c f arcs tell a = absurd a
adds_asked who k (Event.Break from r) c f arcs tell a = subst (λ (g : TxEvent). Adds k g (seen who arcs c)) (sym a) (plain k (TxEvent.Lost from.node) (seen who arcs c) refl)
adds_asked who k (Event.Lose p) c f arcs tell a = subst (λ (g : TxEvent). Adds k g (seen who arcs c)) (sym a) (plain k (TxEvent.Lost p) (seen who arcs c) refl)
adds_asked who k (Event.Heur u) c f arcs tell a = subst (λ (g : TxEvent). Adds k g (seen who arcs c)) (sym a) (decided_so k u (seen who arcs c) (tell.decides u refl))
adds_asked who k (Event.GiveUp p) c f arcs tell a = subst (λ (g : TxEvent). Adds k g (seen who arcs c)) (sym a) (gave_up k p (seen who arcs c) (tell.gave refl))
adds_asked who k Event.Retry c f arcs tell a = subst (λ (g : TxEvent). Adds k g (seen who arcs c)) (sym a) (plain k TxEvent.Retry (seen who arcs c) refl)
adds_asked who k Event.Purge c f arcs tell a = absurd a
adds_asked who k Event.Crash c f arcs tell a = absurd a

-- ---- a decision is logged

heur_rec : (who : Who) (d : Digest) (c : Current) (u : Outcome) → d.current ≡ Some c → (transact who (TxEvent.Heur u) d).rec ≡ Some (LogRec.Heuristic who.node (node_key c.key) u)
unfolding transact
heur_rec who d c u now =
    ap (λ (v : Option Current). (elim v as (λ _. Move) [ None ↦ move [] d | Some x ↦ started_next who (passed who (TxEvent.Heur u) d x) (turned who (TxEvent.Heur u) d x) ]).rec) now ∙ on c.phase
  where
    on : (p : Phase) → (started_next who (passage false p p) (turned who (TxEvent.Heur u) d c)).rec ≡ Some (LogRec.Heuristic who.node (node_key c.key) u)
    on Phase.Nil = refl
    on Phase.Active = refl
    on Phase.Ready = refl
    on Phase.Committing = refl
    on Phase.Rolling = refl

heur_decision : (t : Aaid) (n : ℕ) (c : Current) (u : Outcome) (rs : List LogRec) → is_aaid t (aaid_of c.key) ≡ true → last_decision t (LogRec.Heuristic n (node_key c.key) u ∷ rs) ≡ Some u
heur_decision t n c u rs own =
    let of : is_aaid t (node_key c.key).aaid ≡ true = ap (is_aaid t) (key_aaid c.key) ∙ own in
    ap (λ (b : Bool). elim (if b then Some u else None) as (λ _. Option Outcome) [ Some v ↦ Some v | None ↦ last_decision t rs ]) of

-- ---- every legal history

named_ok : (k : Known) (bs : List Branch) → branches_ok k (named_again bs) ≡ true
named_ok k [] = refl
named_ok k (b ∷ bs) = go b.left (named_ok k bs)
  where
    go : (v : Bool) → branches_ok k (named_again bs) ≡ true → branches_ok k (if v then named_again bs else record { peer = b.peer; id = b.id; prepared = false; counted = false; left = false; ended = false; given_up = false; report = Report.None } ∷ named_again bs) ≡ true
    go true rest = rest
    go false rest = rest

recovered_ok : (k : Known) (t : Aaid) (v : Option Current) → IsOkAt k t v → IsOkAt k t (recovered_current v)
recovered_ok k t None ok c is own = absurd (cc (is))
recovered_ok k t (Some x) ok c is own = go (is_ready x.phase || is_committing x.phase) refl
  where
    r : Current
    r = recovered x.key x.phase (named_again x.branches) x.decision

    go : (b : Bool) → (is_ready x.phase || is_committing x.phase) ≡ b → IsOkNow k c
    go false i = absurd (let off : None ≡ Some c = sym (ap (λ (b : Bool). if b then Some r else None) i) ∙ is in cc (off))
    go true i =
        let same : r ≡ c = some_same r c (sym (ap (λ (b : Bool). if b then Some r else None) i) ∙ is) in
        let o : IsOkNow k x = ok x refl (ap (λ (v : Current). is_aaid t (aaid_of v.key)) same ∙ own) in
        subst (λ (v : Current). IsOkNow k v) same (record { branches = named_ok k x.branches; decision = o.decision; own = refl })

record EntryStep (o : Origin) (up : Option Addr) (e : Entry) (h : List Entry) (t : Aaid) : Type 0 where
  made : CausedMove (known_of o t (e ∷ h)) t (prelude o.who (digest o h) e.event) (action o.who (digest o h) e.event)

step : (o : Origin) (up : Option Addr) (e : Entry) (h : List Entry) (t : Aaid) → o.start.records ≡ [] → IsGrown o up (e ∷ h) → IsOnce o (e ∷ h) → IsOkAt (known_of o t h) t (digest o h).current → EntryStep o up e h t
step o up e h t empty legal once ok = record { made = moved before }
  where
    d : Digest
    d = digest o h

    s : Digest
    s = prelude o.who d e.event

    k : Known
    k = known_of o t (e ∷ h)

    came : Came o.who d e.event
    came = came_by o.who d e.event legal.0

    old : IsOkAt k t d.current
    old c is own = now_wider (known_of o t h) k (wider o up e h t empty legal once) c (ok c is own)

    before : IsOkAt k t s.current
    before = go came
      where
        go : Came o.who d e.event → IsOkAt k t s.current
        go (As_it_was i) = λ c is own. old c (sym i ∙ is) own
        go (By_begin from x y q u b hd a is found cur nil above) = λ c at own. subst (λ (v : Current). IsOkNow k v) (some_same (fresh_current (Under u b a.peer)) c (sym cur ∙ at)) (record { branches = refl; decision = refl; own = refl })
        go (By_crash is cur) = subst (λ (v : Option Current). IsOkAt k t v) (sym cur) (recovered_ok k t d.current old)

    -- an event that the transaction takes comes while the tree is current
    met : (c : Current) → s.current ≡ Some c → is_aaid t (aaid_of c.key) ≡ true → (g : Current → Event → Bool)
        → ((from : Addr) (x y : Mark) (q : ℕ) (u : Aaid) (b : BranchId) (hd : Holder) → g c (Event.Arrive from (PeerRecord.OnAssoc x y q (DialogueRecord.Begin u b hd))) ≡ false) → g c Event.Crash ≡ false → g c e.event ≡ true → has_met g o t (e ∷ h) ≡ true
    met c at own g begin crash i = go came
      where
        go : Came o.who d e.event → has_met g o t (e ∷ h) ≡ true
        go (As_it_was j) = let n : is_met g t d.current e.event ≡ true = ap (λ (v : Option Current). is_met g t v e.event) (sym j ∙ at) ∙ both_true (is_aaid t (aaid_of c.key)) (g c e.event) own i in rw n refl
        go (By_begin from x y q u b hd a is found cur nil above) = absurd (cc (sym (ap (g c) is) ∙ i, begin from x y q u b hd))
        go (By_crash is cur) = absurd (cc (sym (ap (g c) is) ∙ i, crash))

    decided : (c : Current) → s.current ≡ Some c → is_aaid t (aaid_of c.key) ≡ true → (u : Outcome) → e.event ≡ Event.Heur u → is_so u (decision o t (e ∷ h)) ≡ true
    decided c at own u is =
        let now : d.current ≡ Some c = ap (λ (v : Event). (prelude o.who d v).current) (sym is) ∙ at in
        let rec : e.rec ≡ Some (LogRec.Heuristic o.who.node (node_key c.key) u) = ap (λ (v : Entry). v.rec) (sym legal.1) ∙ ap (λ (v : Event). (action o.who d v).rec) is ∙ heur_rec o.who d c u now in
        is_so_of u (decision o t (e ∷ h)) (ap (λ (v : Option LogRec). last_decision t (with_rec v (records o h))) rec ∙ heur_decision t o.who.node c u (records o h) own)

    adds : (c : Current) (f : TxEvent) (arcs : List Arc) → s.current ≡ Some c → IsAsked e.event c f → is_aaid t (aaid_of c.key) ≡ true → Adds k f (seen o.who arcs c)
    adds c f arcs at asked own =
        adds_asked o.who k e.event c f arcs (record {
          heard = λ r i. met c at own (hears r) (λ from x y q u b hd. refl) refl i;
          gave = λ i. met c at own gives_up (λ from x y q u b hd. refl) refl i;
          decides = decided c at own;
        }) asked

    moved : IsCausedMove k t s s (action o.who d e.event)
    moved = every_move o.who d e.event (IsCausedMove k t s) (caused_moves o.who e.event s k t adds) (late_law o up h legal.3) legal.0

ok_law : (o : Origin) (up : Option Addr) (h : List Entry) (t : Aaid) → o.start.records ≡ [] → IsGrown o up h → IsOnce o h → IsOkAt (known_of o t h) t (digest o h).current
ok_law o up [] t empty legal once = λ c is own. absurd (let off : None ≡ Some c = sym (current_none o empty) ∙ is in cc (off))
ok_law o up (e ∷ h) t empty legal once = (step o up e h t empty legal once (ok_law o up h t empty legal.3 once.1)).made.ok

-- ---- what is told

pub same_is : (r s : Report) → same_report r s ≡ true → r ≡ s
same_is Report.None Report.None h = refl
same_is Report.Hazard Report.Hazard h = refl
same_is Report.Mix Report.Mix h = refl
same_is _ _ h = absurd (cc (h))

or_off : (x y : Bool) → (x || y) ≡ false → (x ≡ false) × (y ≡ false)
or_off false y h = (refl, h)
or_off true y h = absurd (cc (h))

unless : (b : Bool) → not b ≡ false → b ≡ true
unless true h = refl
unless false h = absurd (cc (h))

committed_cause : (k : Known) (r : Report) (outs : List Out) → tells_committed r outs ≡ true → out_tells (is_bad k) outs ≡ false → has_cause k Outcome.Rollback r ≡ true
committed_cause k r [] h i = absurd (cc (h))
committed_cause k r (Out.Tell (Indication.CommitComplete s) ∷ outs) h i = go (or_case (same_report r s) (tells_committed r outs) h) (committed_cause k r outs)
  where
    p : (not (has_cause k Outcome.Rollback s) ≡ false) × (out_tells (is_bad k) outs ≡ false)
    p = or_off (not (has_cause k Outcome.Rollback s)) (out_tells (is_bad k) outs) i

    go : (same_report r s ≡ true) ⊎ (tells_committed r outs ≡ true) → (tells_committed r outs ≡ true → out_tells (is_bad k) outs ≡ false → has_cause k Outcome.Rollback r ≡ true) → has_cause k Outcome.Rollback r ≡ true
    go (inl j) rest = ap (has_cause k Outcome.Rollback) (same_is r s j) ∙ unless (has_cause k Outcome.Rollback s) p.0
    go (inr j) rest = rest j p.1
committed_cause k r (Out.Tell j ∷ outs) h i = committed_cause k r outs h (or_off (is_bad k j) (out_tells (is_bad k) outs) i).1
committed_cause k r (Out.Send a w ∷ outs) h i = committed_cause k r outs h i

rolled_cause : (k : Known) (r : Report) (outs : List Out) → tells_rolled_back r outs ≡ true → out_tells (is_bad k) outs ≡ false → has_cause k Outcome.Commit r ≡ true
rolled_cause k r [] h i = absurd (cc (h))
rolled_cause k r (Out.Tell (Indication.RollbackComplete s) ∷ outs) h i = go (or_case (same_report r s) (tells_rolled_back r outs) h) (rolled_cause k r outs)
  where
    p : (not (has_cause k Outcome.Commit s) ≡ false) × (out_tells (is_bad k) outs ≡ false)
    p = or_off (not (has_cause k Outcome.Commit s)) (out_tells (is_bad k) outs) i

    go : (same_report r s ≡ true) ⊎ (tells_rolled_back r outs ≡ true) → (tells_rolled_back r outs ≡ true → out_tells (is_bad k) outs ≡ false → has_cause k Outcome.Commit r ≡ true) → has_cause k Outcome.Commit r ≡ true
    go (inl j) rest = ap (has_cause k Outcome.Commit) (same_is r s j) ∙ unless (has_cause k Outcome.Commit s) p.0
    go (inr j) rest = rest j p.1
rolled_cause k r (Out.Tell j ∷ outs) h i = rolled_cause k r outs h (or_off (is_bad k j) (out_tells (is_bad k) outs) i).1
rolled_cause k r (Out.Send a w ∷ outs) h i = rolled_cause k r outs h i

-- of a test that is false where nothing is told, and asks for a cause
record Asks (f : List Out → Bool) (u : Outcome) (r : Report) : Type 0 where
  none : f [] ≡ false
  cause : (k : Known) (outs : List Out) → f outs ≡ true → out_tells (is_bad k) outs ≡ false → has_cause k u r ≡ true

told_cause : (f : List Out → Bool) (u : Outcome) (r : Report) → Asks f u r → (o : Origin) (up : Option Addr) (h : List Entry) (t : Aaid) → o.start.records ≡ [] → IsGrown o up h → IsOnce o h → has_told_in f o t h ≡ true → has_cause (known_of o t h) u r ≡ true
told_cause f u r asks o up [] t empty legal once h = absurd (cc (h))
told_cause f u r asks o up (e ∷ h) t empty legal once told = go (or_case (is_now t d.current && f e.outs) (has_told_in f o t h) told) (told_cause f u r asks o up h t empty legal.3 once.1)
  where
    d : Digest
    d = digest o h

    k : Known
    k = known_of o t (e ∷ h)

    outs : e.outs ≡ (action o.who d e.event).outs
    outs = ap (λ (v : Entry). v.outs) (sym legal.1)

    m : CausedMove k t (prelude o.who d e.event) (action o.who d e.event)
    m = (step o up e h t empty legal once (ok_law o up h t empty legal.3 once.1)).made

    here : is_now t d.current ≡ true → f e.outs ≡ true → has_cause k u r ≡ true
    here n tell = on (came_by o.who d e.event legal.0)
      where
        on : Came o.who d e.event → has_cause k u r ≡ true
        on (As_it_was i) = asks.cause k e.outs tell (ap (out_tells (is_bad k)) outs ∙ m.tells (ap (is_now t) i ∙ n))
        on (By_begin from x y q v b hd a is found cur nil above) = absurd (cc (n, nil_now d t (late_law o up h legal.3) nil))
        on (By_crash is cur) = absurd (let none : e.outs ≡ [] = outs ∙ ap (λ (v : Event). (action o.who d v).outs) is in cc (sym (ap f none) ∙ tell, asks.none))

    go : ((is_now t d.current && f e.outs) ≡ true) ⊎ (has_told_in f o t h ≡ true) → (has_told_in f o t h ≡ true → has_cause (known_of o t h) u r ≡ true) → has_cause k u r ≡ true
    go (inl i) rest = here (and_left (is_now t d.current) (f e.outs) i) (and_right (is_now t d.current) (f e.outs) i)
    go (inr i) rest = cause_wider (known_of o t h) k (wider o up e h t empty legal once) u r (rest i)

-- ---- every run

pub reports_have_causes : (es : List Happening) → ReportsHaveCauses (run es)
reports_have_causes es = record {
  mixed_commit = λ t x here told. mixed Outcome.Rollback t x (cause (tells_committed Report.Mix) Outcome.Rollback Report.Mix (record { none = refl; cause = λ k outs. committed_cause k Report.Mix outs }) t x here told);
  mixed_rollback = λ t x here told. mixed Outcome.Commit t x (cause (tells_rolled_back Report.Mix) Outcome.Commit Report.Mix (record { none = refl; cause = λ k outs. rolled_cause k Report.Mix outs }) t x here told);
  hazard_commit = λ t x here told.
      or_case (has_given_up t x) (has_heard Report.Hazard t x) (cause (tells_committed Report.Hazard) Outcome.Rollback Report.Hazard (record { none = refl; cause = λ k outs. committed_cause k Report.Hazard outs }) t x here told);
  hazard_rollback = λ t x here told.
      or_case (has_given_up t x) (has_heard Report.Hazard t x) (cause (tells_rolled_back Report.Hazard) Outcome.Commit Report.Hazard (record { none = refl; cause = λ k outs. rolled_cause k Report.Hazard outs }) t x here told);
}
  where
    cause : (f : List Out → Bool) (u : Outcome) (r : Report) → Asks f u r → (t : Aaid) (x : Node) → IsIn (run es) x → has_told_in f x.origin t x.history ≡ true → has_cause (known_of x.origin t x.history) u r ≡ true
    cause f u r asks t x here told =
        told_cause f u r asks x.origin x.superior x.history t ((good_run es).fresh (number_of x) x here) ((good_run es).legal (number_of x) x here) ((unique_run es).once (number_of x) x here) told

    mixed : (u : Outcome) (t : Aaid) (x : Node) → (is_so u (decision x.origin t x.history) || has_heard Report.Mix t x) ≡ true → (decision x.origin t x.history ≡ Some u) ⊎ (has_heard Report.Mix t x ≡ true)
    mixed u t x h = elim (or_case (is_so u (decision x.origin t x.history)) (has_heard Report.Mix t x) h) [ inl i ↦ inl (so_is u (decision x.origin t x.history) i) | inr i ↦ inr i ]
