-- Events that shut no arc: a request, a record that is taken, a reply, and what the arcs of the event say already.
use Rattle.std.proofs.Common.{◌≡◌, ℕ, Bool, true, false, refl, ap, sym, subst, ◌∙◌, arith, Option, Some, None, List, [], ◌∷◌, ◌||◌, if◌then◌else◌}
use Rattle.std.proofs.lemmas.Bool.Decides.{nat_tests}
use Rattle.tp_names.specs.declared.identifiers.BranchId.{BranchId}
use Rattle.tp_names.specs.declared.outcome.Outcome.{Outcome}
use Rattle.tp_records.specs.declared.request.Request.{Request}
use Rattle.tp_records.specs.declared.indication.Indication.{Indication}
use Rattle.tp_records.specs.declared.dialogue.DialogueRecord.{DialogueRecord}
use Rattle.tp_records.specs.declared.peer.RecState.{RecState}
use Rattle.tp_model.specs.declared.arc.Phase.{Phase}
use Rattle.tp_model.specs.declared.transaction.TxEvent.{TxEvent}
use Rattle.tp_model.specs.declared.transaction.TxOut.{TxOut}
use Rattle.tp_model.specs.Parts.{Who, Arc, Key, Root, Under, Current}
use Rattle.tp_model.specs.Dialogues.{Sight, Acts, Nothing_happens, Out_of_phase, is_active, is_ready, is_committing, is_rolling}
use Rattle.tp_model.specs.Arcs.{is_live_with_peer}
use Rattle.tp_model.specs.Transactions.{Row, Transaction, Turn, turn, and_then, is_under_at, find_row, find_row_by_id, with_row, with_arc_lost, complete_commit, complete_rollback, roll, order, settle, ask_commit, count_branch, end_branch, complete, leave, lost_arc, superior_rolls, takes, sight_of_tx, is_open_in_commit, replied, by_user, refused_user, transacted, retried, after}
use Rattle.tp_model.specs.Node.{is_end_deferred_at, is_up_live, is_up_ending, seen}
use Rattle.tp_commit.specs.declared.row.Note.{Note}
use Rattle.tp_commit.specs.Row.{noted}
use Rattle.tp_commit.proofs.Notes.{noted_row}
use Rattle.tp_commit.proofs.Marks.{unmarked, lost_again, ending_again}
use Rattle.tp_commit.proofs.Still.{IsStill, Goes, over, still_then, still_turn, still_order, still_settle, still_ask, still_count, still_end, still_mark, goes_commit, goes_rollback, goes_roll, goes_lost, goes_complete, goes_superior, goes_left, retried_none}

-- ---- what the arcs say already

pub lost_already : (who : Who) (arcs : List Arc) (c : Current) (p : ℕ) → is_live_with_peer arcs p ≡ false → is_end_deferred_at arcs p ≡ false → with_arc_lost (seen who arcs c) p ≡ seen who arcs c
lost_already who arcs c p dead none = go (is_under_at c.key p) refl
  where
    t : Transaction
    t = seen who arcs c

    above : (k : Key) → is_under_at k p ≡ true → (is_up_live arcs k ≡ false) × (is_up_ending arcs k ≡ false)
    above (Root a) i = absurd cc
    above (Under a b s) i =
        let here : s.node ≡ p = grind (arith, nat_tests, i) in
        (ap (is_live_with_peer arcs) here ∙ dead, ap (is_end_deferred_at arcs) here ∙ none)

    go : (b : Bool) → is_under_at c.key p ≡ b → (if b then record t { up = false; up_ends = false } else with_row t p (noted Note.Lost)) ≡ t
    go true i =
        let ups = above c.key i in
        let with_up : Bool → Bool → Transaction = λ u e. record t { up = u; up_ends = e } in
        sym (ap (λ u. with_up u (is_up_ending arcs c.key)) ups.0 ∙ ap (with_up false) ups.1)
    go false i = noted_row t p Note.Lost ∙ ap (λ rs. let u : Transaction = record t { rows = rs } in u) (lost_again p arcs dead none c.branches)

pub ending_already : (who : Who) (arcs : List Arc) (c : Current) (p : ℕ) → is_end_deferred_at arcs p ≡ true → with_row (seen who arcs c) p (noted Note.Ending) ≡ seen who arcs c
ending_already who arcs c p off = noted_row (seen who arcs c) p Note.Ending ∙ ap (λ rs. let u : Transaction = record (seen who arcs c) { rows = rs } in u) (ending_again p arcs off c.branches)

-- ---- requests

active_or_ready : (p : Phase) → (is_active p || is_ready p || is_rolling p) ≡ true → is_committing p ≡ false
active_or_ready Phase.Nil h = refl
active_or_ready Phase.Active h = refl
active_or_ready Phase.Ready h = refl
active_or_ready Phase.Committing h = absurd cc
active_or_ready Phase.Rolling h = refl

goes_done : (t : Transaction) → Goes t (complete (record t { owes = false }))
goes_done t late =
    let u : Transaction = record t { owes = false } in
    still_then t (turn [] u) (complete u) (complete u).rec (record { node = refl; key = refl; up = refl; up_ends = refl; rows = unmarked t.rows; outs = refl; commits = λ h. h }) (goes_complete u late)

goes_leave : (t : Transaction) → Goes t (leave t)
unfolding leave
goes_leave t = over t _ refl

pub user_goes : (t : Transaction) (r : Request) → refused_user t r ≡ None → ((p : ℕ) → r ≡ Request.UAbort p → ⊥) → ((p : ℕ) → r ≡ Request.DeferEnd p → with_row t p (noted Note.Ending) ≡ t) → Goes t (by_user r t)
user_goes t (Request.BeginDialogue a u) ok other off late = still_turn t [] refl
user_goes t (Request.Accept u) ok other off late = still_turn t [] refl
user_goes t Request.Reject ok other off late = still_turn t [] refl
user_goes t (Request.EndDialogue p) ok other off late = still_turn t [] refl
user_goes t (Request.UserData p xs) ok other off late = still_turn t [] refl
user_goes t (Request.UError p) ok other off late = still_turn t [] refl
user_goes t (Request.UAbort p) ok other off late = absurd (other p refl)
user_goes t (Request.Grant p) ok other off late = still_turn t [] refl
user_goes t (Request.AskControl p) ok other off late = still_turn t [] refl
user_goes t (Request.Handshake p) ok other off late = still_turn t [] refl
user_goes t (Request.Respond p) ok other off late = still_turn t [] refl
user_goes t (Request.HandshakeGrant p) ok other off late = still_turn t [] refl
user_goes t (Request.BeginTransaction p) ok other off late = still_turn t [] refl
user_goes t (Request.DeferEnd p) ok other off late =
    subst (λ (v : Transaction). IsStill t (turn (TxOut.Carry p DialogueRecord.DeferEnd ∷ []) v)) (sym (off p refl)) (still_turn t (TxOut.Carry p DialogueRecord.DeferEnd ∷ []) refl)
user_goes t (Request.DeferGrant p) ok other off late = still_turn t (TxOut.Carry p DialogueRecord.DeferGrant ∷ []) refl
user_goes t (Request.Prepare p) ok other off late = still_mark t p Note.Prepared (TxOut.Carry p DialogueRecord.Prepare ∷ []) _ refl refl (noted_row t p Note.Prepared)
user_goes t Request.Commit ok other off late = still_then t (ask_commit t) (settle (ask_commit t).next) _ (still_ask t) (still_settle (ask_commit t).next)
user_goes t Request.Done ok other off late = goes_done t late
user_goes t Request.Rollback ok other off late = goes_roll true t (not_late t.phase (grind arith)) late
  where
    not_late : (p : Phase) → (is_ready p || is_committing p || is_rolling p) ≡ false → is_committing p ≡ false
    not_late Phase.Nil h = refl
    not_late Phase.Active h = refl
    not_late Phase.Ready h = refl
    not_late Phase.Committing h = absurd cc
    not_late Phase.Rolling h = refl
user_goes t Request.Unchanged ok other off late = goes_leave t late

-- ---- records taken

goes_end : (p : ℕ) (t : Transaction) (r : _) → Goes t (and_then (end_branch p r t) complete_commit)
goes_end p t r late = still_then t (end_branch p r t) (complete_commit (end_branch p r t).next) _ (still_end p r t) (goes_commit (end_branch p r t).next late)

goes_rolled : (p : ℕ) (t : Transaction) (r : _) → Goes t (and_then (end_branch p r t) complete_rollback)
goes_rolled p t r late = still_then t (end_branch p r t) (complete_rollback (end_branch p r t).next) _ (still_end p r t) (goes_rollback (end_branch p r t).next late)

-- something is told, and then it goes on
goes_told : (t : Transaction) (i : Indication) (a : Turn) → Goes t a → Goes t (record { rec = a.rec; outs = TxOut.Tell i ∷ a.outs; completion = after (TxOut.Tell i ∷ []) a.completion; next = a.next })
goes_told t i a goes late = let still = goes late in record { node = still.node; key = still.key; up = still.up; up_ends = still.up_ends; rows = still.rows; outs = still.outs; commits = still.commits }

acts_under : (t : Transaction) (p : ℕ) → sight_of_tx t p DialogueRecord.Rollback ≡ Acts → is_committing t.phase ≡ false
unfolding sight_of_tx
acts_under t p h = go t.phase h
  where
    go : (q : Phase) → sight_of_tx (record t { phase = q }) p DialogueRecord.Rollback ≡ Acts → is_committing q ≡ false
    go Phase.Nil i = refl
    go Phase.Active i = refl
    go Phase.Ready i = refl
    go Phase.Committing i = side (is_under_at t.key p) (find_row t.rows p) i
      where
        side : (b : Bool) (o : Option Row)
            → (if b then Out_of_phase else elim o as (λ _. Sight) [ None ↦ Nothing_happens | Some r ↦ Out_of_phase ]) ≡ Acts → true ≡ false
        side true o j = absurd (cc (j))
        side false None j = absurd (cc (j))
        side false (Some r) j = absurd (cc (j))
    go Phase.Rolling i = refl

goes_rollback_taken : (t : Transaction) (p : ℕ) → sight_of_tx t p DialogueRecord.Rollback ≡ Acts → Goes t (takes p DialogueRecord.Rollback t)
goes_rollback_taken t p acts = go (is_under_at t.key p)
  where
    go : (b : Bool) → Goes t (if b then superior_rolls t else roll false t)
    go true late = goes_superior t (acts_under t p acts) late
    go false late = goes_roll false t (acts_under t p acts) late

takes_goes : (t : Transaction) (p : ℕ) (r : DialogueRecord) → sight_of_tx t p r ≡ Acts → (r ≡ DialogueRecord.LeftEnd → ⊥) → (r ≡ DialogueRecord.UAbort → with_arc_lost t p ≡ t) → (r ≡ DialogueRecord.DeferEnd → t.up_ends ≡ true) → Goes t (takes p r t)
takes_goes t p DialogueRecord.EndDialogue acts other lost off late = still_turn t [] refl
takes_goes t p (DialogueRecord.UserData xs) acts other lost off late = still_turn t [] refl
takes_goes t p DialogueRecord.UError acts other lost off late = still_turn t [] refl
takes_goes t p DialogueRecord.UAbort acts other lost off late = goes_told t (Indication.UAbort p) (lost_arc p t) (goes_lost p t (lost refl)) late
takes_goes t p DialogueRecord.Grant acts other lost off late = still_turn t [] refl
takes_goes t p DialogueRecord.AskControl acts other lost off late = still_turn t [] refl
takes_goes t p DialogueRecord.Handshake acts other lost off late = still_turn t [] refl
takes_goes t p DialogueRecord.HandshakeGrant acts other lost off late = still_turn t [] refl
takes_goes t p DialogueRecord.Response acts other lost off late = still_turn t [] refl
takes_goes t p DialogueRecord.DeferEnd acts other lost off late = record { node = refl; key = refl; up = refl; up_ends = sym (off refl); rows = unmarked t.rows; outs = refl; commits = λ h. h }
takes_goes t p DialogueRecord.DeferGrant acts other lost off late = still_turn t (TxOut.Tell (Indication.DeferGrant p) ∷ []) refl
takes_goes t p (DialogueRecord.Begin a b h) acts other lost off late = still_turn t [] refl
takes_goes t p DialogueRecord.Prepare acts other lost off late = record { node = refl; key = refl; up = refl; up_ends = refl; rows = unmarked t.rows; outs = refl; commits = λ h. h }
takes_goes t p DialogueRecord.Ready acts other lost off late = still_then t (count_branch p t) (settle (count_branch p t).next) _ (still_count p t) (still_settle (count_branch p t).next)
takes_goes t p DialogueRecord.Commit acts other lost off late = still_order t
takes_goes t p (DialogueRecord.Done r) acts other lost off late = goes_end p t r late
takes_goes t p DialogueRecord.Rollback acts other lost off late = goes_rollback_taken t p acts late
takes_goes t p (DialogueRecord.RolledBack r) acts other lost off late = goes_rolled p t r late
takes_goes t p DialogueRecord.Left acts other lost off late = goes_left p t late
takes_goes t p DialogueRecord.LeftEnd acts other lost off late = absurd (other refl)

pub took_goes : (t : Transaction) (p : ℕ) (r : DialogueRecord) → (r ≡ DialogueRecord.LeftEnd → ⊥) → (r ≡ DialogueRecord.UAbort → with_arc_lost t p ≡ t) → (r ≡ DialogueRecord.DeferEnd → t.up_ends ≡ true)
    → Goes t (transacted (TxEvent.Took p r) t)
took_goes t p r other lost off = go (sight_of_tx t p r) refl
  where
    go : (s : Sight) → sight_of_tx t p r ≡ s → Goes t (elim s as (λ _. Turn) [ Acts ↦ takes p r t | Nothing_happens ↦ turn [] t | Out_of_phase ↦ turn [] t ])
    go Acts i late = takes_goes t p r i other lost off late
    go Nothing_happens i late = still_turn t [] refl
    go Out_of_phase i late = still_turn t [] refl

-- ---- the other events

pub lost_goes : (t : Transaction) (p : ℕ) → with_arc_lost t p ≡ t → Goes t (transacted (TxEvent.Lost p) t)
lost_goes t p lost = goes_told t (Indication.PAbort p) (lost_arc p t) (goes_lost p t lost)

pub heuristic_goes : (t : Transaction) (o : Outcome) → Goes t (transacted (TxEvent.Heur o) t)
heuristic_goes t o late = record { node = refl; key = refl; up = refl; up_ends = refl; rows = unmarked t.rows; outs = refl; commits = λ h. h }

pub ordered_goes : (t : Transaction) → Goes t (transacted TxEvent.Ordered t)
ordered_goes t late = still_order t

pub retried_goes : (t : Transaction) → Goes t (transacted TxEvent.Retry t)
retried_goes t late = still_turn t (retried t) (retried_none t)

pub reply_goes : (t : Transaction) (b : BranchId) (s : RecState) → Goes t (replied t b s)
reply_goes t b RecState.Commit = go (is_ready t.phase)
  where
    go : (v : Bool) → Goes t (if v then order t else turn [] t)
    go true late = still_order t
    go false late = still_turn t [] refl
reply_goes t b (RecState.Done r) = go (find_row_by_id t.rows b)
  where
    on : (row : Row) (v : Bool) → Goes t (if v then and_then (end_branch row.branch.peer.node r t) complete_commit else turn [] t)
    on row true late = goes_end row.branch.peer.node t r late
    on row false late = still_turn t [] refl

    go : (o : Option Row) → Goes t (elim o as (λ _. Turn) [ None ↦ turn [] t | Some row ↦ if is_open_in_commit t row.branch then and_then (end_branch row.branch.peer.node r t) complete_commit else turn [] t ])
    go None late = still_turn t [] refl
    go (Some row) late = on row (is_open_in_commit t row.branch) late
reply_goes t b RecState.Unknown = go (is_ready t.phase) refl
  where
    ready_only : (p : Phase) → is_ready p ≡ true → is_committing p ≡ false
    ready_only Phase.Nil h = refl
    ready_only Phase.Active h = refl
    ready_only Phase.Ready h = refl
    ready_only Phase.Committing h = absurd cc
    ready_only Phase.Rolling h = refl

    go : (v : Bool) → is_ready t.phase ≡ v → Goes t (if v then superior_rolls t else turn [] t)
    go true i late = goes_superior t (ready_only t.phase i) late
    go false i late = still_turn t [] refl
reply_goes t b RecState.RetryLater = λ late. still_turn t [] refl
