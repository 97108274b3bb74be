-- What an event asks for and leaves, at the arcs before it and at those at which it is put to the transaction.
use Rattle.std.proofs.Common.{◌≡◌, ℕ, Bool, true, false, refl, ap, sym, ◌∙◌, arith, Some, None, List, [], ◌∷◌, ◌++◌, ◌&&◌, ◌||◌, ◌==◌, if◌then◌else◌}
use Rattle.std.proofs.lemmas.Bool.Decides.{nat_tests}
use Rattle.tp_records.specs.declared.request.Request.{Request}
use Rattle.tp_records.specs.declared.indication.Indication.{Indication}
use Rattle.tp_records.specs.declared.dialogue.DialogueRecord.{DialogueRecord}
use Rattle.tp_model.specs.declared.transaction.TxEvent.{TxEvent}
use Rattle.tp_model.specs.declared.transaction.TxOut.{TxOut}
use Rattle.tp_model.specs.Parts.{Who, Arc, Key, Root, Under, Branch, Current}
use Rattle.tp_model.specs.Dialogues.{is_active, is_rolling}
use Rattle.tp_model.specs.Arcs.{is_live_with_peer}
use Rattle.tp_model.specs.Transactions.{is_waited_for, row_holds, complete_rollback, Row, Transaction, Turn, turn, is_under_at, find_row, with_row, with_arc_lost, roll, lost_arc, takes, sight_of_tx, by_user, transacted, after}
use Rattle.tp_model.specs.Requests.{has_branch_at}
use Rattle.tp_model.specs.Node.{is_up_live, is_up_ending, seen_row, seen_rows, seen}
use Rattle.tp_commit.specs.declared.row.Note.{Note}
use Rattle.tp_commit.specs.Row.{noted, noted_at}
use Rattle.tp_model.specs.AmongArcs.{is_peer, IsAmongArcs, IsAlike, AreAlike, IsCut, IsPutOff, Reaches}
use Rattle.tp_commit.proofs.Notes.{noted_row}
use Rattle.tp_commit.proofs.Marks.{apart_rows, rows_alike, off_rows}
use Rattle.tp_commit.proofs.Shown.{or_first, or_second}
use Rattle.tp_commit.proofs.Lasting.{lost_already, ending_already}
use Rattle.tp_commit.proofs.Shut.{lost_now}

-- ---- what is seen of the arcs

pub seen_alike : (who : Who) (arcs later : List Arc) (c : Current) → ((q : ℕ) → is_peer c q ≡ true → IsAlike q arcs later) → seen who arcs c ≡ seen who later c
seen_alike who arcs later c k =
    let ups = up c.key (λ q h. k q (or_first (is_under_at c.key q) (has_branch_at c.branches q) h)) in
    let rows = rows_alike arcs later c.branches (λ q h. k q (or_second (is_under_at c.key q) (has_branch_at c.branches q) h)) in
    let with_parts : Bool → Bool → List Row → Transaction = λ u e rs. record (seen who arcs c) { up = u; up_ends = e; rows = rs } in
    ap (λ u. with_parts u (is_up_ending arcs c.key) (seen_rows arcs c.branches)) ups.0
    ∙ ap (λ e. with_parts (is_up_live later c.key) e (seen_rows arcs c.branches)) ups.1
    ∙ ap (with_parts (is_up_live later c.key) (is_up_ending later c.key)) rows
  where
    up : (k : Key) → ((q : ℕ) → is_under_at k q ≡ true → IsAlike q arcs later) → (is_up_live arcs k ≡ is_up_live later k) × (is_up_ending arcs k ≡ is_up_ending later k)
    up (Root t) h = (refl, refl)
    up (Under t b a) h = let here = h a.node (grind (arith, nat_tests)) in (sym here.live, sym here.ends)

all_alike : (who : Who) (arcs later : List Arc) (c : Current) → AreAlike arcs later → seen who arcs c ≡ seen who later c
all_alike who arcs later c k = seen_alike who arcs later c (λ q h. k q)

-- ---- an arc that is lost

holds_alike : (arcs later : List Arc) (bs : List Branch) (p : ℕ) (f : Branch → Bool) → row_holds (seen_rows arcs bs) p f ≡ row_holds (seen_rows later bs) p f
holds_alike arcs later [] p f = refl
holds_alike arcs later (b ∷ bs) p f = go (b.peer.node == p) (holds_alike arcs later bs p f)
  where
    go : (v : Bool) → row_holds (seen_rows arcs bs) p f ≡ row_holds (seen_rows later bs) p f
        → elim (if v then Some (seen_row arcs b) else find_row (seen_rows arcs bs) p) as (λ _. Bool) [ None ↦ false | Some r ↦ f r.branch ]
        ≡ elim (if v then Some (seen_row later b) else find_row (seen_rows later bs) p) as (λ _. Bool) [ None ↦ false | Some r ↦ f r.branch ]
    go true rest = refl
    go false rest = rest

lost_alike : (who : Who) (arcs later : List Arc) (c : Current) (p : ℕ) → IsAmongArcs arcs c → IsCut p arcs later → lost_arc p (seen who arcs c) ≡ lost_arc p (seen who later c)
unfolding lost_arc
lost_alike who arcs later c p among cut =
    let with_parts : Bool → Transaction → Turn = λ b u. if is_active c.phase && (is_under_at c.key p || b) then roll false u else if is_rolling c.phase then complete_rollback u else turn [] u in
    let gone : with_arc_lost (seen who arcs c) p ≡ with_arc_lost (seen who later c) p = lost_now who arcs later c p among cut ∙ sym (lost_already who later c p cut.live cut.ends) in
    ap (λ b. with_parts b (with_arc_lost (seen who arcs c) p)) (holds_alike arcs later c.branches p is_waited_for)
    ∙ ap (with_parts (row_holds (seen_rows later c.branches) p is_waited_for)) gone

abort_acts : (t : Transaction) (p : ℕ) → transacted (TxEvent.Took p DialogueRecord.UAbort) t ≡ takes p DialogueRecord.UAbort t
unfolding sight_of_tx
abort_acts t p = refl

end_acts : (t : Transaction) (p : ℕ) → transacted (TxEvent.Took p DialogueRecord.DeferEnd) t ≡ takes p DialogueRecord.DeferEnd t
unfolding sight_of_tx
end_acts t p = refl

abbrev told_before : List TxOut → Turn → Turn
told_before outs a = record { rec = a.rec; outs = outs ++ a.outs; completion = after outs a.completion; next = a.next }

-- ---- an end that is deferred

off_below : (who : Who) (arcs later : List Arc) (c : Current) (p : ℕ) → IsAmongArcs arcs c → is_under_at c.key p ≡ false → IsPutOff p arcs later → with_row (seen who arcs c) p (noted Note.Ending) ≡ seen who later c
off_below who arcs later c p among other off =
    let t : Transaction = seen who arcs c in
    let ups = up c.key other in
    let with_parts : Bool → Bool → List Row → Transaction = λ u e rs. record t { up = u; up_ends = e; rows = rs } in
    noted_row t p Note.Ending
    ∙ ap (λ u. with_parts u t.up_ends (noted_at t.rows p Note.Ending)) ups.0
    ∙ ap (λ e. with_parts (is_up_live later c.key) e (noted_at t.rows p Note.Ending)) ups.1
    ∙ ap (with_parts (is_up_live later c.key) (is_up_ending later c.key)) (off_rows p arcs later off c.branches among.distinct)
  where
    up : (k : Key) → is_under_at k p ≡ false → (is_up_live arcs k ≡ is_up_live later k) × (is_up_ending arcs k ≡ is_up_ending later k)
    up (Root t) i = (refl, refl)
    up (Under t b a) i = let k = off.others a.node i in (sym k.live, sym k.ends)

off_above : (who : Who) (arcs later : List Arc) (c : Current) (p : ℕ) → IsAmongArcs arcs c → is_under_at c.key p ≡ true → IsPutOff p arcs later
    → let with_end : Transaction → Transaction = λ t. record t { up_ends = true } in with_end (seen who arcs c) ≡ with_end (seen who later c)
off_above who arcs later c p among here off =
    let with_parts : Bool → List Row → Transaction = λ u rs. record (seen who arcs c) { up = u; up_ends = true; rows = rs } in
    ap (λ u. with_parts u (seen_rows arcs c.branches)) (up c.key here) ∙ ap (with_parts (is_up_live later c.key)) (apart_rows p arcs later off.others c.branches (among.apart p here))
  where
    up : (k : Key) → is_under_at k p ≡ true → is_up_live arcs k ≡ is_up_live later k
    up (Root t) i = absurd cc
    up (Under t b a) i =
        let same : a.node ≡ p = grind (arith, nat_tests, i) in
        ap (is_live_with_peer arcs) same ∙ off.before ∙ sym (ap (is_live_with_peer later) same ∙ off.live)

-- ---- every event

user_reached : (who : Who) (r : Request) (arcs later : List Arc) (c : Current) → IsAmongArcs arcs c → Reaches (TxEvent.User r) c arcs later → by_user r (seen who arcs c) ≡ by_user r (seen who later c)
user_reached who (Request.UAbort p) arcs later c among k = ap (by_user (Request.UAbort p)) (all_alike who arcs later c k.1)
user_reached who (Request.DeferEnd p) arcs later c among k =
    let off : IsPutOff p arcs later = k.2 in
    ap (turn (TxOut.Carry p DialogueRecord.DeferEnd ∷ [])) (off_below who arcs later c p among k.1 off ∙ sym (ending_already who later c p off.ends))
user_reached who r arcs later c among k = ap (by_user r) (all_alike who arcs later c k)

pub reached : (who : Who) (f : TxEvent) (arcs later : List Arc) (c : Current) → IsAmongArcs arcs c → Reaches f c arcs later → transacted f (seen who arcs c) ≡ transacted f (seen who later c)
reached who (TxEvent.Begun cs) arcs later c among k = ap (transacted (TxEvent.Begun cs)) (all_alike who arcs later c k.2)
reached who (TxEvent.User r) arcs later c among k = user_reached who r arcs later c among k
reached who (TxEvent.Took p DialogueRecord.UAbort) arcs later c among k =
    abort_acts (seen who arcs c) p ∙ ap (told_before (TxOut.Tell (Indication.UAbort p) ∷ [])) (lost_alike who arcs later c p among k) ∙ sym (abort_acts (seen who later c) p)
reached who (TxEvent.Took p DialogueRecord.DeferEnd) arcs later c among k =
    end_acts (seen who arcs c) p ∙ ap (turn (TxOut.Tell (Indication.DeferEnd p) ∷ [])) (off_above who arcs later c p among k.1 k.2) ∙ sym (end_acts (seen who later c) p)
reached who (TxEvent.Took p DialogueRecord.LeftEnd) arcs later c among k = ap (transacted (TxEvent.Took p DialogueRecord.LeftEnd)) (all_alike who arcs later c k.1)
reached who (TxEvent.Took p r) arcs later c among k = ap (transacted (TxEvent.Took p r)) (all_alike who arcs later c k)
reached who (TxEvent.Lost p) arcs later c among k = ap (told_before (TxOut.Tell (Indication.PAbort p) ∷ [])) (lost_alike who arcs later c p among k)
reached who (TxEvent.Heur o) arcs later c among k = ap (transacted (TxEvent.Heur o)) (all_alike who arcs later c k)
reached who (TxEvent.GiveUp p) arcs later c among k = ap (transacted (TxEvent.GiveUp p)) (all_alike who arcs later c k)
reached who TxEvent.Ordered arcs later c among k = ap (transacted TxEvent.Ordered) (all_alike who arcs later c k)
reached who (TxEvent.Reply b s) arcs later c among k = ap (transacted (TxEvent.Reply b s)) (all_alike who arcs later c k)
reached who TxEvent.Retry arcs later c among k = ap (transacted TxEvent.Retry) (all_alike who arcs later c k)
