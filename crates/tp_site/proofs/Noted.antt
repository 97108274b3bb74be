-- A Ready or a Done that acts, and is only noted on its branch.
use Rattle.std.proofs.Common.{◌≡◌, ◌≤◌, ◌==◌, ℕ, Bool, true, false, ◌&&◌, ◌||◌, ◌++◌, Option, Some, None, List, [], ◌∷◌, refl, ap, sym, subst, ◌∙◌, arith, Bor}
use Rattle.std.specs.Option.{option_map}
use Rattle.std.specs.Prelude.{not, if◌then◌else◌}
use Rattle.std.proofs.lemmas.Bool.Decides.{nat_tests}
use Rattle.tp_names.specs.declared.identifiers.Addr.{Addr}
use Rattle.tp_names.specs.declared.identifiers.Mark.{Mark}
use Rattle.tp_names.specs.declared.outcome.Report.{Report}
use Rattle.tp_names.specs.Reports.{is_report_none}
use Rattle.tp_names.specs.Same.{is_addr}
use Rattle.tp_records.specs.declared.dialogue.DialogueRecord.{DialogueRecord}
use Rattle.tp_records.specs.declared.indication.Indication.{Indication}
use Rattle.tp_records.specs.declared.peer.PeerRecord.{PeerRecord}
use Rattle.tp_model.specs.declared.arc.Phase.{Phase}
use Rattle.tp_logrec.specs.declared.record.LogRec.{LogRec}
use Rattle.tp_model.specs.declared.transaction.TxEvent.{TxEvent}
use Rattle.tp_model.specs.declared.transaction.TxOut.{TxOut}
use Rattle.tp_model.specs.declared.refusal.Refusal.{Refusal}
use Rattle.tp_model.specs.Parts.{Who, Link, Idle, Arc, Branch, Current, Digest, Out, Tell}
use Rattle.tp_model.specs.Dialogues.{Sight, Acts, Nothing_happens, Out_of_phase, is_active, is_committing, is_nil}
use Rattle.tp_model.specs.Links.{greatest, dropped_by}
use Rattle.tp_model.specs.Arcs.{find_arc, link_from, link_with, performed}
use Rattle.tp_model.specs.Transactions.{Row, Transaction, Turn, turn, find_row, put_row, with_branch, all_settled, all_done, tell_report, settle, complete_commit, count_branch, end_branch, takes, transacted, sight_of_tx, after}
use Rattle.tp_model.specs.Recovery.{kept_after}
use Rattle.tp_model.specs.Node.{Move, move, Passage, passage, Stays, passed, turned, transact, played, entered, seen, branches_of, remaining, is_leaving, is_superior, started_next}
use Rattle.tp_model.specs.Arrivals.{refused_arrival, refused_on, do_arrival, take_record, take_on, sight_at, sight_of}
use Rattle.tp_model.specs.Events.{some_past_numbers}
use Rattle.tp_commit.specs.Waiting.{waits_beside, owes_beside, with_branch_at, with_counted, with_ended}
use Rattle.tp_node.specs.declared.event.NodeEvent.{NodeEvent}
use Rattle.tp_node.specs.Node.{Node, current_of}
use Rattle.tp_node.specs.Noted.{counted_in, ended_in}
use Rattle.tp_node.proofs.Arriving.{at_peer}
use Rattle.tp_node.proofs.Seen.{sight_seen}
use Rattle.tp_site.specs.InPlace.{is_only_noted, is_acting, acts_at, told_of, noted_on, arrived_in_place, IsPlanned, with_record_taken}
use Rattle.tp_draft.proofs.Arriving.{taken_number, from_dropped}
use Rattle.tp_draft.proofs.Turns.{seen_again}
use Rattle.tp_draft.proofs.Beginnings.{branches_seen}

-- ---- rows and branches

abbrev counts : Branch → Branch
counts b = record b { counted = true }

abbrev ends : Report → Branch → Branch
ends x b = record b { ended = true; report = x }

-- a change of the first row with that peer
abbrev rows_with : List Row → ℕ → (Branch → Branch) → List Row
rows_with [] p f = []
rows_with (r ∷ rs) p f = if r.branch.peer.node == p then record r { branch = f r.branch } ∷ rs else r ∷ rows_with rs p f

found_row : (rs : List Row) (p : ℕ) (r : Row) → find_row rs p ≡ Some r → (r.branch.peer.node == p) ≡ true
found_row [] p r e = grind (arith, e)
found_row (x ∷ rs) p r e = grind (arith, nat_tests, e, found_row rs p r)

abbrev put_back : List Row → (Branch → Branch) → Option Row → List Row
put_back rs f None = rs
put_back rs f (Some r) = put_row rs (record r { branch = f r.branch })

put_there : (f : Branch → Branch) → ((b : Branch) → (f b).peer ≡ b.peer) → (rs : List Row) (p : ℕ) → put_back rs f (find_row rs p) ≡ rows_with rs p f
put_there f keeps [] p = refl
put_there f keeps (r ∷ rs) p = go (find_row rs p) refl (put_there f keeps rs p)
  where
    go : (o : Option Row) → find_row rs p ≡ o → put_back rs f (find_row rs p) ≡ rows_with rs p f → put_back (r ∷ rs) f (find_row (r ∷ rs) p) ≡ rows_with (r ∷ rs) p f
    go None e h = grind (arith, nat_tests, keeps r.branch, e, h)
    go (Some q) e h = grind (arith, nat_tests, keeps r.branch, keeps q.branch, found_row rs p q e, e, h)

row_noted : (f : Branch → Branch) → ((b : Branch) → (f b).peer ≡ b.peer) → (t : Transaction) (p : ℕ) → with_branch t p f ≡ record t { rows = rows_with t.rows p f }
row_noted f keeps t p = go (find_row t.rows p) ∙ ap (λ rs. let u : Transaction = record t { rows = rs } in u) (put_there f keeps t.rows p)
  where
    go : (o : Option Row) → elim o as (λ _. Transaction) [ None ↦ t | Some r ↦ record t { rows = put_row t.rows (record r { branch = f r.branch }) } ] ≡ record t { rows = put_back t.rows f o }
    go None = refl
    go (Some r) = refl

branches_with : (f : Branch → Branch) (rs : List Row) (p : ℕ) → branches_of (rows_with rs p f) ≡ with_branch_at (branches_of rs) p f
branches_with f [] p = refl
branches_with f (r ∷ rs) p = grind (arith, branches_with f rs p)

-- another branch is waited for, and so not each is settled
unsettled : (rs : List Row) (p : ℕ) → waits_beside (branches_of rs) p ≡ true → all_settled rs ≡ false
unsettled [] p h = absurd (cc (h))
unsettled (r ∷ rs) p h = grind (arith, unsettled rs p, h)

still_unsettled : (f : Branch → Branch) (rs : List Row) (p : ℕ) → waits_beside (branches_of rs) p ≡ true → all_settled (rows_with rs p f) ≡ false
still_unsettled f [] p h = absurd (cc (h))
still_unsettled f (r ∷ rs) p h = grind (arith, unsettled rs p, still_unsettled f rs p, h)

undone : (rs : List Row) (p : ℕ) → owes_beside (branches_of rs) p ≡ true → all_done rs ≡ false
undone [] p h = absurd (cc (h))
undone (r ∷ rs) p h = grind (arith, undone rs p, h)

still_undone : (f : Branch → Branch) (rs : List Row) (p : ℕ) → owes_beside (branches_of rs) p ≡ true → all_done (rows_with rs p f) ≡ false
still_undone f [] p h = absurd (cc (h))
still_undone f (r ∷ rs) p h = grind (arith, undone rs p, still_undone f rs p, h)

-- ---- the transaction

settles_not : (t : Transaction) → (t.asked && all_settled t.rows) ≡ false → settle t ≡ turn [] t
unfolding settle
settles_not t h = grind (arith, h)

completes_not : (t : Transaction) → (not t.owes && all_done t.rows) ≡ false → complete_commit t ≡ turn [] t
unfolding complete_commit
completes_not t h = grind (arith, h)

nothing_more : (outs : List TxOut) → outs ++ [] ≡ outs
nothing_more [] = refl
nothing_more (o ∷ outs) = ap (λ (l : List TxOut). o ∷ l) (nothing_more outs)

-- a rule that says so much, and another one that does nothing
abbrev joined : List TxOut → Turn → Turn
joined outs a = record { rec = elim a.rec as (λ _. Option LogRec) [ None ↦ None | Some r ↦ Some r ]; outs = outs ++ a.outs; completion = after outs a.completion; next = a.next }

abbrev by_sight : Turn → Transaction → Sight → Turn
by_sight a t s = elim s as (λ _. Turn) [ Acts ↦ a | Nothing_happens ↦ turn [] t | Out_of_phase ↦ turn [] t ]

ready_turn : (t : Transaction) (p : ℕ) → sight_of_tx t p DialogueRecord.Ready ≡ Acts → (not t.asked || waits_beside (branches_of t.rows) p) ≡ true
    → transacted (TxEvent.Took p DialogueRecord.Ready) t ≡ turn (TxOut.Tell (Indication.Ready p) ∷ []) (record t { rows = rows_with t.rows p counts })
unfolding count_branch
ready_turn t p acts waits =
    let noted : Transaction = record t { rows = rows_with t.rows p counts } in
    let waiting : (noted.asked && all_settled noted.rows) ≡ false = grind (arith, waits, still_unsettled counts t.rows p) in
    ap (by_sight (takes p DialogueRecord.Ready t) t) acts
    ∙ ap (λ (u : Transaction). joined (TxOut.Tell (Indication.Ready p) ∷ []) (settle u)) (row_noted counts (λ b. refl) t p)
    ∙ ap (joined (TxOut.Tell (Indication.Ready p) ∷ [])) (settles_not noted waiting)

done_turn : (t : Transaction) (p : ℕ) (x : Report) → sight_of_tx t p (DialogueRecord.Done x) ≡ Acts → (t.owes || owes_beside (branches_of t.rows) p) ≡ true
    → transacted (TxEvent.Took p (DialogueRecord.Done x)) t ≡ turn (tell_report p x) (record t { rows = rows_with t.rows p (ends x) })
unfolding end_branch
done_turn t p x acts waits =
    let noted : Transaction = record t { rows = rows_with t.rows p (ends x) } in
    let waiting : (not noted.owes && all_done noted.rows) ≡ false = grind (arith, waits, still_undone (ends x) t.rows p) in
    ap (by_sight (takes p (DialogueRecord.Done x) t) t) acts
    ∙ ap (λ (u : Transaction). joined (tell_report p x) (complete_commit u)) (row_noted (ends x) (λ b. refl) t p)
    ∙ ap (joined (tell_report p x)) (completes_not noted waiting)
    ∙ ap (λ (l : List TxOut). turn l noted) (nothing_more (tell_report p x))

-- ---- the node

stays_put : (p : Phase) → passage false p p ≡ Stays
stays_put Phase.Nil = refl
stays_put Phase.Active = refl
stays_put Phase.Ready = refl
stays_put Phase.Committing = refl
stays_put Phase.Rolling = refl

-- what a turn of the transaction makes of the node
abbrev by_passage : Who → Digest → Transaction → Turn → Passage → Move
by_passage who d t a w =
    let p : List Arc × List Out = played d t w a (entered t w d.arcs) in
    started_next who w (record { rec = a.rec; outs = p.1; next = record d { arcs = p.0; current = remaining a.next; kept = kept_after a.rec d.kept } })

abbrev by_current : Who → TxEvent → Digest → Option Current → Move
by_current who e d o = elim o as (λ _. Move) [ None ↦ move [] d | Some c ↦ started_next who (passed who e d c) (turned who e d c) ]

-- a turn that stays in its phase, logs nothing and leaves the arcs as they are
noted_turn : (who : Who) (e : TxEvent) (d : Digest) (c : Current) (outs : List TxOut) (said : List Out) (u : Transaction) → is_leaving e ≡ false → d.current ≡ Some c
    → transacted e (seen who d.arcs c) ≡ turn outs u → u.phase ≡ c.phase → is_nil c.phase ≡ false → performed d.arcs outs ≡ (d.arcs, said) → transact who e d ≡ move said (record d { current = Some (current_of u) })
unfolding transact played entered
noted_turn who e d c outs said u leaving is turns same there says =
    let t : Transaction = seen who d.arcs c in
    let stays : passage (is_leaving e) c.phase u.phase ≡ Stays = ap (λ (b : Bool). passage b c.phase u.phase) leaving ∙ ap (passage false c.phase) same ∙ stays_put c.phase in
    let remains : remaining u ≡ Some (current_of u) = ap (λ (p : Phase). if is_nil p then None else Some (current_of u)) same ∙ ap (λ (b : Bool). if b then None else Some (current_of u)) there in
    ap (by_current who e d) is
    ∙ ap (λ (a : Turn). by_passage who d t a (passage (is_leaving e) c.phase a.next.phase)) turns
    ∙ ap (by_passage who d t (turn outs u)) stays
    ∙ ap (λ (p : List Arc × List Out). move p.1 (record d { arcs = p.0; current = remaining u })) says
    ∙ ap (λ (o : Option Current). move said (record d { current = o })) remains

-- what comes of a record rests on nothing that the transaction sees of its arcs
sight_kept : (who : Who) (arcs more : List Arc) (c : Current) (p : ℕ) (r : DialogueRecord) → sight_of_tx (seen who arcs c) p r ≡ sight_of_tx (seen who more c) p r
sight_kept who arcs more c p r = sight_seen who more (seen who arcs c) p r ∙ ap (λ (x : Current). sight_of_tx (seen who more x) p r) (seen_again who arcs c)

tested : (a b : Bool) → (a && b) ≡ true → (a ≡ true) × (b ≡ true)
tested true b h = (refl, h)
tested false b h = absurd (cc (h))

active_there : (p : Phase) → is_active p ≡ true → is_nil p ≡ false
active_there Phase.Active h = refl
active_there Phase.Nil h = absurd (cc (h))
active_there Phase.Ready h = absurd (cc (h))
active_there Phase.Committing h = absurd (cc (h))
active_there Phase.Rolling h = absurd (cc (h))

committing_there : (p : Phase) → is_committing p ≡ true → is_nil p ≡ false
committing_there Phase.Committing h = refl
committing_there Phase.Nil h = absurd (cc (h))
committing_there Phase.Active h = absurd (cc (h))
committing_there Phase.Ready h = absurd (cc (h))
committing_there Phase.Rolling h = absurd (cc (h))

ready_noted : (who : Who) (p : ℕ) (d : Digest) (c : Current) → d.current ≡ Some c → sight_of_tx (seen who d.arcs c) p DialogueRecord.Ready ≡ Acts → (is_active c.phase && (not c.asked || waits_beside c.branches p)) ≡ true
    → transact who (TxEvent.Took p DialogueRecord.Ready) d ≡ move (Tell (Indication.Ready p) ∷ []) (record d { current = counted_in d.current p })
ready_noted who p d c is acts test =
    let t : Transaction = seen who d.arcs c in
    let tests = tested (is_active c.phase) (not c.asked || waits_beside c.branches p) test in
    let bs : branches_of t.rows ≡ c.branches = branches_seen d.arcs c.branches in
    let waits : (not t.asked || waits_beside (branches_of t.rows) p) ≡ true = ap (λ (l : List Branch). not c.asked || waits_beside l p) bs ∙ tests.1 in
    let u : Transaction = record t { rows = rows_with t.rows p counts } in
    let left : current_of u ≡ record c { branches = with_counted c.branches p } =
    ap (λ (l : List Branch). let x : Current = record c { branches = l } in x) (branches_with counts t.rows p ∙ ap (λ (l : List Branch). with_counted l p) bs) in
    noted_turn who (TxEvent.Took p DialogueRecord.Ready) d c (TxOut.Tell (Indication.Ready p) ∷ []) (Tell (Indication.Ready p) ∷ []) u refl is (ready_turn t p acts waits) refl (active_there c.phase tests.0) refl
    ∙ ap (λ (o : Option Current). move (Tell (Indication.Ready p) ∷ []) (record d { current = o })) (ap (λ (x : Current). Some x) left ∙ sym (ap (λ (o : Option Current). counted_in o p) is))

-- what is reported, at the arcs
reported : (arcs : List Arc) (p : ℕ) (x : Report) → performed arcs (tell_report p x) ≡ (arcs, told_of p (DialogueRecord.Done x))
reported arcs p x = go (is_report_none x)
  where
    go : (b : Bool) → performed arcs (if b then [] else TxOut.Tell (Indication.HeuristicReport p x) ∷ []) ≡ (arcs, if b then [] else Tell (Indication.HeuristicReport p x) ∷ [])
    go true = refl
    go false = refl

done_noted : (who : Who) (p : ℕ) (x : Report) (d : Digest) (c : Current) → d.current ≡ Some c → sight_of_tx (seen who d.arcs c) p (DialogueRecord.Done x) ≡ Acts → (is_committing c.phase && (c.owes || owes_beside c.branches p)) ≡ true
    → transact who (TxEvent.Took p (DialogueRecord.Done x)) d ≡ move (told_of p (DialogueRecord.Done x)) (record d { current = ended_in d.current p x })
done_noted who p x d c is acts test =
    let t : Transaction = seen who d.arcs c in
    let tests = tested (is_committing c.phase) (c.owes || owes_beside c.branches p) test in
    let bs : branches_of t.rows ≡ c.branches = branches_seen d.arcs c.branches in
    let waits : (t.owes || owes_beside (branches_of t.rows) p) ≡ true = ap (λ (l : List Branch). c.owes || owes_beside l p) bs ∙ tests.1 in
    let u : Transaction = record t { rows = rows_with t.rows p (ends x) } in
    let left : current_of u ≡ record c { branches = with_ended c.branches p x } =
    ap (λ (l : List Branch). let y : Current = record c { branches = l } in y) (branches_with (ends x) t.rows p ∙ ap (λ (l : List Branch). with_ended l p x) bs) in
    noted_turn who (TxEvent.Took p (DialogueRecord.Done x)) d c (tell_report p x) (told_of p (DialogueRecord.Done x)) u refl is (done_turn t p x acts waits) refl (committing_there c.phase tests.0) (reported d.arcs p x)
    ∙ ap (λ (o : Option Current). move (told_of p (DialogueRecord.Done x)) (record d { current = o })) (ap (λ (y : Current). Some y) left ∙ sym (ap (λ (o : Option Current). ended_in o p x) is))

-- ---- the record that arrives

acting_is : (s : Sight) → is_acting s ≡ true → s ≡ Acts
acting_is Acts h = refl
acting_is Nothing_happens h = absurd (cc (h))
acting_is Out_of_phase h = absurd (cc (h))

-- a record that comes from a subordinate alone, on whatever arc
from_below : (rests above : Bool) (s : Sight) → is_acting (if rests && false then Nothing_happens else (if above then Out_of_phase else s)) ≡ true → s ≡ Acts
from_below rests above Acts h = refl
from_below true true Nothing_happens h = absurd (cc (h))
from_below true false Nothing_happens h = absurd (cc (h))
from_below false true Nothing_happens h = absurd (cc (h))
from_below false false Nothing_happens h = absurd (cc (h))
from_below true true Out_of_phase h = absurd (cc (h))
from_below true false Out_of_phase h = absurd (cc (h))
from_below false true Out_of_phase h = absurd (cc (h))
from_below false false Out_of_phase h = absurd (cc (h))

abbrev in_current : Who → Digest → ℕ → DialogueRecord → Sight → Option Current → Sight
in_current who d p r none o = elim o as (λ _. Sight) [ None ↦ none | Some c ↦ sight_of_tx (seen who d.arcs c) p r ]

ready_acts : (who : Who) (d : Digest) (a : Arc) (c : Current) → d.current ≡ Some c → is_acting (sight_at who d a DialogueRecord.Ready) ≡ true → sight_of_tx (seen who d.arcs c) a.peer.node DialogueRecord.Ready ≡ Acts
unfolding sight_of
ready_acts who d a c is h =
    sym (ap (in_current who d a.peer.node DialogueRecord.Ready Out_of_phase) is)
    ∙ from_below a.dialogue.rests (is_superior d a.peer.node) (in_current who d a.peer.node DialogueRecord.Ready Out_of_phase d.current) h

done_acts : (who : Who) (d : Digest) (a : Arc) (c : Current) (x : Report) → d.current ≡ Some c → is_acting (sight_at who d a (DialogueRecord.Done x)) ≡ true → sight_of_tx (seen who d.arcs c) a.peer.node (DialogueRecord.Done x) ≡ Acts
unfolding sight_of
done_acts who d a c x is h =
    sym (ap (in_current who d a.peer.node (DialogueRecord.Done x) Nothing_happens) is)
    ∙ from_below a.dialogue.rests (is_superior d a.peer.node) (in_current who d a.peer.node (DialogueRecord.Done x) Nothing_happens d.current) h

abbrev taken_by : Who → Digest → Arc → DialogueRecord → Sight → Move
taken_by who d a r s =
    let counted : Digest = with_record_taken a.peer.node r d in
    elim s as (λ _. Move) [ Acts ↦ take_record who a r counted | Nothing_happens ↦ move [] counted | Out_of_phase ↦ move [] counted ]

-- what is taken on the arc that is found
taken_on_arc : (who : Who) (d : Digest) (from : Addr) (x y : Mark) (q : ℕ) (r : DialogueRecord) (a : Arc) → find_arc d.arcs from.node ≡ Some a → do_arrival who from (PeerRecord.OnAssoc x y q r) d ≡ take_on who a r d
taken_on_arc who d from x y q r a found = ap (λ (o : Option Arc). elim o as (λ _. Move) [ None ↦ move [] d | Some b ↦ take_on who b r d ]) found

ready_arrives : (who : Who) (d : Digest) (from : Addr) (x y : Mark) (q : ℕ) (a : Arc) (c : Current) → find_arc d.arcs from.node ≡ Some a → d.current ≡ Some c → is_acting (sight_at who d a DialogueRecord.Ready) ≡ true
    → (is_active c.phase && (not c.asked || waits_beside c.branches from.node)) ≡ true
    → do_arrival who from (PeerRecord.OnAssoc x y q DialogueRecord.Ready) d ≡ move (told_of from.node DialogueRecord.Ready) (noted_on from.node DialogueRecord.Ready d)
ready_arrives who d from x y q a c found is acts test =
    let p : ℕ = from.node in
    let at : p ≡ a.peer.node = at_peer d p a found in
    let k : Digest = with_record_taken p DialogueRecord.Ready d in
    let sight : sight_of_tx (seen who k.arcs c) p DialogueRecord.Ready ≡ Acts =
    sight_kept who k.arcs d.arcs c p DialogueRecord.Ready ∙ ap (λ (n : ℕ). sight_of_tx (seen who d.arcs c) n DialogueRecord.Ready) at ∙ ready_acts who d a c is acts in
    taken_on_arc who d from x y q DialogueRecord.Ready a found
    ∙ ap (taken_by who d a DialogueRecord.Ready) (acting_is (sight_at who d a DialogueRecord.Ready) acts)
    ∙ ap (λ (n : ℕ). transact who (TxEvent.Took n DialogueRecord.Ready) (with_record_taken n DialogueRecord.Ready d)) (sym at)
    ∙ ready_noted who p k c is sight test

done_arrives : (who : Who) (d : Digest) (from : Addr) (x y : Mark) (q : ℕ) (z : Report) (a : Arc) (c : Current) → find_arc d.arcs from.node ≡ Some a → d.current ≡ Some c
    → is_acting (sight_at who d a (DialogueRecord.Done z)) ≡ true → (is_committing c.phase && (c.owes || owes_beside c.branches from.node)) ≡ true
    → do_arrival who from (PeerRecord.OnAssoc x y q (DialogueRecord.Done z)) d ≡ move (told_of from.node (DialogueRecord.Done z)) (noted_on from.node (DialogueRecord.Done z) d)
done_arrives who d from x y q z a c found is acts test =
    let p : ℕ = from.node in
    let r : DialogueRecord = DialogueRecord.Done z in
    let at : p ≡ a.peer.node = at_peer d p a found in
    let k : Digest = with_record_taken p (DialogueRecord.Done z) d in
    let sight : sight_of_tx (seen who k.arcs c) p (DialogueRecord.Done z) ≡ Acts =
    sight_kept who k.arcs d.arcs c p (DialogueRecord.Done z) ∙ ap (λ (n : ℕ). sight_of_tx (seen who d.arcs c) n (DialogueRecord.Done z)) at ∙ done_acts who d a c z is acts in
    taken_on_arc who d from x y q (DialogueRecord.Done z) a found
    ∙ ap (taken_by who d a (DialogueRecord.Done z)) (acting_is (sight_at who d a (DialogueRecord.Done z)) acts)
    ∙ ap (λ (n : ℕ). transact who (TxEvent.Took n (DialogueRecord.Done z)) (with_record_taken n (DialogueRecord.Done z) d)) (sym at)
    ∙ done_noted who p z k c is sight test

abbrev acts_by : Who → Digest → DialogueRecord → Option Arc → Bool
acts_by who d r o = elim o as (λ _. Bool) [ None ↦ false | Some a ↦ is_acting (sight_at who d a r) ]

abbrev counts_by : Option Current → ℕ → Bool
counts_by o p = elim o as (λ _. Bool) [ None ↦ false | Some c ↦ is_active c.phase && (not c.asked || waits_beside c.branches p) ]

abbrev ends_by : Option Current → ℕ → Bool
ends_by o p = elim o as (λ _. Bool) [ None ↦ false | Some c ↦ is_committing c.phase && (c.owes || owes_beside c.branches p) ]

arrives : (who : Who) (d : Digest) (from : Addr) (x y : Mark) (q : ℕ) (r : DialogueRecord) → acts_at who d from.node r ≡ true → is_only_noted d from.node r ≡ true
    → do_arrival who from (PeerRecord.OnAssoc x y q r) d ≡ move (told_of from.node r) (noted_on from.node r d)
arrives who d from x y q DialogueRecord.Ready acts noted = go (find_arc d.arcs from.node) d.current refl refl acts noted
  where
    go : (o : Option Arc) (k : Option Current) → find_arc d.arcs from.node ≡ o → d.current ≡ k → acts_by who d DialogueRecord.Ready o ≡ true → counts_by k from.node ≡ true
        → do_arrival who from (PeerRecord.OnAssoc x y q DialogueRecord.Ready) d ≡ move (told_of from.node DialogueRecord.Ready) (noted_on from.node DialogueRecord.Ready d)
    go None k e f g h = absurd (cc (g))
    go (Some a) None e f g h = absurd (cc (h))
    go (Some a) (Some c) e f g h = ready_arrives who d from x y q a c e f g h
arrives who d from x y q (DialogueRecord.Done z) acts noted = go (find_arc d.arcs from.node) d.current refl refl acts noted
  where
    go : (o : Option Arc) (k : Option Current) → find_arc d.arcs from.node ≡ o → d.current ≡ k → acts_by who d (DialogueRecord.Done z) o ≡ true → ends_by k from.node ≡ true
        → do_arrival who from (PeerRecord.OnAssoc x y q (DialogueRecord.Done z)) d ≡ move (told_of from.node (DialogueRecord.Done z)) (noted_on from.node (DialogueRecord.Done z) d)
    go None k e f g h = absurd (cc (g))
    go (Some a) None e f g h = absurd (cc (h))
    go (Some a) (Some c) e f g h = done_arrives who d from x y q z a c e f g h
arrives who d from x y q _ acts noted = absurd (cc (noted))

told_numbers : (p : ℕ) (r : DialogueRecord) → some_past_numbers (told_of p r) ≡ false
told_numbers p (DialogueRecord.Done x) = go (is_report_none x)
  where
    go : (b : Bool) → some_past_numbers (if b then [] else Tell (Indication.HeuristicReport p x) ∷ []) ≡ false
    go true = refl
    go false = refl
told_numbers p _ = refl

-- no mark is drawn
noted_drawn : (p : ℕ) (r : DialogueRecord) (d : Digest) → (noted_on p r d).drawn ≡ d.drawn
noted_drawn p DialogueRecord.Ready d = refl
noted_drawn p (DialogueRecord.Done x) d = refl
noted_drawn p _ d = refl

arrived_drawn : (p : ℕ) (r : PeerRecord) (d : Digest) → (arrived_in_place p r d).drawn ≡ d.drawn
arrived_drawn p (PeerRecord.OnAssoc x y q r) d = noted_drawn p r d
arrived_drawn p _ d = refl

-- what is planned of a record that arrives
pub planned : (v : Node) (from : Addr) (b : Bor PeerRecord) (x y : Mark) (q : ℕ) (r : DialogueRecord) (outs : List Out) → b.now ≡ PeerRecord.OnAssoc x y q r → refused_arrival v.who v.digest from b.now ≡ None
    → acts_at v.who v.digest from.node r ≡ true → is_only_noted v.digest from.node r ≡ true → outs ≡ told_of from.node r → v.digest.drawn ≤ greatest → IsPlanned v (NodeEvent.Arrive from b) outs
planned v from b x y q r outs is ok acts noted said drawn = record {
  refused = ok;
  sure = refl;
  drawn = drawn;
  marks = subst (λ (n : ℕ). n ≤ greatest) (sym (arrived_drawn from.node b.now v.digest)) drawn;
  move =
      ap (λ (z : PeerRecord). do_arrival v.who from z v.digest) is
      ∙ arrives v.who v.digest from x y q r acts noted
      ∙ ap (λ (l : List Out). move l (noted_on from.node r v.digest)) (sym said)
      ∙ sym (ap (λ (z : PeerRecord). move outs (arrived_in_place from.node z v.digest)) is);
  numbers = ap some_past_numbers said ∙ told_numbers from.node r;
  retry = refl;
}

-- ---- what acting and taking rest on

pub acts_seen : (who : Who) (d : Digest) (p : ℕ) (r : DialogueRecord) → Some Acts ≡ option_map (λ a. sight_at who d a r) (find_arc d.arcs p) → acts_at who d p r ≡ true
acts_seen who d p r is = go (find_arc d.arcs p) is
  where
    go : (o : Option Arc) → Some Acts ≡ option_map (λ a. sight_at who d a r) o → acts_by who d r o ≡ true
    go None h = absurd (cc (h))
    go (Some a) h = grind (arith, h)

pub side_found : (d : Digest) (p : ℕ) (a : Arc) → find_arc d.arcs p ≡ Some a → p ≡ a.peer.node
side_found d p a found = at_peer d p a found

on_assoc : (who : Who) (d : Digest) (from : Addr) (x y : Mark) (q : ℕ) (r : DialogueRecord) → refused_arrival who d from (PeerRecord.OnAssoc x y q r) ≡ None → dropped_by (link_from d.arcs from) x y q ≡ None
unfolding refused_arrival
on_assoc who d from x y q r ok = go d.declared refl
  where
    go : (b : Bool) → d.declared ≡ b → dropped_by (link_from d.arcs from) x y q ≡ None
    go false e = absurd (let clash : Some Refusal.WrongSite ≡ None = sym (ap (λ (c : Bool). if not c then Some Refusal.WrongSite else refused_on who d from x y q r) e) ∙ ok in cc)
    go true e = from_dropped (link_from d.arcs from) x y q _ (sym (ap (λ (c : Bool). if not c then Some Refusal.WrongSite else refused_on who d from x y q r) e) ∙ ok)

pub taken_with : (who : Who) (d : Digest) (from : Addr) (x y : Mark) (q : ℕ) (r : DialogueRecord) → refused_arrival who d from (PeerRecord.OnAssoc x y q r) ≡ None → dropped_by (link_with d.arcs from.node) x y q ≡ None
taken_with who d from x y q r ok = go (find_arc d.arcs from.node) refl
  where
    go : (o : Option Arc) → find_arc d.arcs from.node ≡ o → dropped_by (link_with d.arcs from.node) x y q ≡ None
    go None e =
        ap (λ (o : Option Arc). dropped_by (elim o as (λ _. Link) [ None ↦ Idle | Some a ↦ a.link ]) x y q) e
        ∙ sym (ap (λ (o : Option Arc). dropped_by (elim o as (λ _. Link) [ None ↦ Idle | Some a ↦ if is_addr a.peer from then a.link else Idle ]) x y q) e)
        ∙ on_assoc who d from x y q r ok
    go (Some a) e = taken_number who d from x y q r (sight_at who d a r) ok (sym (ap (option_map (λ (b : Arc). sight_at who d b r)) e))

pub taken_rec : (who : Who) (d : Digest) (from : Addr) (z : PeerRecord) (x y : Mark) (q : ℕ) (r : DialogueRecord) → z ≡ PeerRecord.OnAssoc x y q r → refused_arrival who d from z ≡ None → dropped_by (link_with d.arcs from.node) x y q ≡ None
taken_rec who d from z x y q r is ok = taken_with who d from x y q r (sym (ap (refused_arrival who d from) is) ∙ ok)
