-- How a commitment ends at a node, and what is known of its branches by then: an instance of the steps of a node.
use Rattle.std.proofs.Common.{if◌then◌else◌, ◌≡◌, ◌≤◌, ◌⊎◌, inl, inr, ℕ, suc, Bool, true, false, refl, ap, sym, subst, ◌∙◌, arith, Option, Some, None, List, [], ◌∷◌, ◌++◌, ◌&&◌, ◌||◌, ◌==◌, not}
use Rattle.tp_names.specs.declared.identifiers.Aaid.{Aaid}
use Rattle.tp_names.specs.declared.identifiers.BranchId.{BranchId}
use Rattle.tp_names.specs.declared.identifiers.NodeKey.{NodeKey}
use Rattle.tp_names.specs.declared.identifiers.Addr.{Addr}
use Rattle.tp_names.specs.declared.children.Child.{Child}
use Rattle.tp_names.specs.declared.outcome.Outcome.{Outcome}
use Rattle.tp_names.specs.declared.outcome.Report.{Report}
use Rattle.tp_names.specs.Same.{is_aaid, is_key}
use Rattle.tp_names.specs.Reports.{join, is_report_none}
use Rattle.tp_records.specs.declared.request.Request.{Request}
use Rattle.tp_records.specs.declared.indication.Indication.{Indication}
use Rattle.tp_records.specs.declared.peer.PeerRecord.{PeerRecord}
use Rattle.tp_records.specs.declared.peer.RecState.{RecState}
use Rattle.tp_logrec.specs.declared.record.LogRec.{LogRec}
use Rattle.tp_model.specs.declared.arc.Phase.{Phase}
use Rattle.tp_model.specs.declared.transaction.TxEvent.{TxEvent}
use Rattle.tp_model.specs.declared.transaction.TxOut.{TxOut}
use Rattle.tp_model.specs.declared.recovery.Kept.{Kept}
use Rattle.tp_model.specs.declared.recovery.KeptEvent.{KeptEvent}
use Rattle.tp_model.specs.declared.recovery.Question.{Question}
use Rattle.tp_model.specs.Parts.{Who, Event, Arc, Key, Root, Current, Digest}
use Rattle.tp_model.specs.Dialogues.{is_nil, is_committing, is_rolling}
use Rattle.tp_model.specs.Arcs.{find_arc}
use Rattle.tp_model.specs.Transactions.{Row, Transaction, Turn, aaid_of, node_key, fresh_branch, transacted}
use Rattle.tp_model.specs.Recovery.{is_commit, find_owed, without_owed, is_nothing_owed, is_root_key, rec_of_done, settled, noted, find_kept, put_kept, with_forget, kept_by, kept_after, not_forgotten, recovery_answer}
use Rattle.tp_model.specs.Arrivals.{branch_key, named_by_key, named_by_branch, known_of}
use Rattle.tp_model.specs.Node.{Move, move, followed, perform, with_mark_drawn, phase_of, seen, fresh_current, remaining, Passage, passage, is_leaving, entered, with_begun, may_begin_on, begin_on, keep, turned}
use Rattle.tp_model.specs.Events.{refusal, action, decision_of}
use Rattle.tp_model.specs.Outcomes.{is_now, is_unchanged, rolls}
use Rattle.tp_histories.specs.Histories.{IsSentIn}
use Rattle.tp_steps.specs.Turns.{falls, is_outcome_told}
use Rattle.tp_steps.specs.Moves.{IsRecoveryIn, IsSaid, AreSaid, IsAmong, StandsIn, IsFound, IsSettling, IsAsked, IsPut, IsLate, keeps_commit, keeps_idle, are_spoken, prelude}
use Rattle.tp_steps.specs.Steps.{IsNotedBy, next_tree, Steps}
use Rattle.tp_steps.specs.Passages.{IsLogged}
use Rattle.tp_steps.specs.Trees.{begins_of, out_tells, IsTreed}
use Rattle.tp_steps.specs.Traces.{is_old}
use Rattle.tp_steps.specs.Facts.{words_to}
use Rattle.tp_steps.specs.Branches.{may_leave}
use Rattle.tp_runs.specs.Bare.{keeps_tree}
use Rattle.tp_agreement.specs.Owing.{BeginsTo}
use Rattle.tp_steps.specs.Clearing.{is_complete_none, damages_tree}
use Rattle.tp_steps.specs.Owing.{is_damage_rec}
use Rattle.tp_reports.specs.Clearing.{is_clear_rec, is_keeping_rec, is_idle_rec, decided_by, is_for_rollback, is_clear_branch, may_clear, Settles, Is_clear, Has_left, Rolls, Departs, is_ended_by, IsClearing, ends_tree, notes_forget, keeps_beside, KeepsAt, LetsGo, Forgets, Noted, Beside, Beside_here, OpenRow}
use Rattle.tp_steps.proofs.lemmas.Equality.{or_case, and_left, and_right}
use Rattle.tp_steps.proofs.log.ApartLog.{keys_equal}
use Rattle.tp_steps.proofs.log.TurnLog.{key_self}
use Rattle.tp_steps.proofs.words.Leaves.{aaid_same}
use Rattle.tp_steps.proofs.log.Owned.{key_aaid}
use Rattle.tp_steps.proofs.every.EveryMove.{plain_steps}
use Rattle.tp_steps.proofs.every.EveryEvent.{step_move}
use Rattle.tp_steps.proofs.words.Hushed.{settled_spoken}
use Rattle.tp_steps.proofs.branches.Rolls.{phase_at, rolls_so}
use Rattle.tp_steps.proofs.links.Told.{told_append, told_performed, told_played}
use Rattle.tp_agreement.proofs.Closing.{turned_none}
use Rattle.tp_histories.proofs.worlds.TreeMembers.{sent_counts}
use Rattle.tp_agreement.proofs.Marked.{MayMark}
use Rattle.tp_steps.proofs.log.Sound.{left_is}
use Rattle.tp_steps.proofs.log.SoundMoves.{IsSound, IsSoundMove, sound_root, sound_noted, sound_moves}
use Rattle.tp_steps.proofs.log.Passed.{later_rec}
use Rattle.tp_histories.proofs.upward.Risen.{unchanged_asked}
use Rattle.tp_agreement.proofs.LeftDown.{no_begins}
use Rattle.tp_steps.proofs.words.Treed.{now_some, now_left, phase_left, old_kept, drawn_new, tells_none}
use Rattle.tp_histories.proofs.trees.TreedMoves.{treed_moves}
use Rattle.tp_histories.proofs.trees.Knowing.{nil_now}
use Rattle.tp_histories.proofs.trees.Late.{late_fresh}
use Rattle.tp_histories.proofs.trees.Behind.{to_rolling}
use Rattle.tp_runs.proofs.Bare.{is_of_tree_kept, tree_one, forgotten_tree, among_tree}
use Rattle.tp_agreement.proofs.OwingTurns.{owing_turn}
use Rattle.tp_agreement.proofs.OwingMoves.{sent_split, sent_performed, sent_played, other_logged, found_apart, no_rolling, late_standing, no_begin, spoken_words, settled_silent, settled_key, Same, same_of, begins_split, kept_other, kept_new, kept_noted, kept_unnoted, row_seen, row_remains, row_marked, row_begun, row_begins}
use Rattle.tp_reports.proofs.ClearingTurns.{clearing_turn}
use Rattle.tp_steps.proofs.every.BeginCases.{begun_over, begin_cases, next_child, begin_word, begin_arcs}
use Rattle.tp_steps.proofs.lemmas.EachKept.{IsOne, one_without, one_after, one_noted}
use Rattle.tp_steps.proofs.lemmas.Options.{some_same}
use Rattle.tp_steps.proofs.lemmas.KeptList.{noted_key}
use Rattle.tp_steps.proofs.links.Whole.{whole_turn}

-- ---- records of a tree

pub tree_clear : (t : Aaid) (r : Option LogRec) → ends_tree t r ≡ true → is_clear_rec r ≡ true
tree_clear t (Some (LogRec.End n k o)) h = and_left (is_commit o) (is_aaid t k.aaid) h
tree_clear t _ h = absurd (cc (h))

tree_damage : (t : Aaid) (r : Option LogRec) → damages_tree t r ≡ true → is_damage_rec r ≡ true
tree_damage t (Some (LogRec.Damage n k s o r cs)) h = refl
tree_damage t _ h = absurd (cc (h))

tree_of : (t : Aaid) (q : Transaction) (j : NodeKey) → j ≡ node_key q.key → is_aaid t (aaid_of q.key) ≡ true → is_aaid t j.aaid ≡ true
tree_of t q j same h = ap (is_aaid t) (ap (λ (x : NodeKey). x.aaid) same ∙ key_aaid q.key) ∙ h

tree_back : (t : Aaid) (q : Transaction) (j : NodeKey) → j ≡ node_key q.key → is_aaid t j.aaid ≡ true → is_aaid t (aaid_of q.key) ≡ true
tree_back t q j same h = ap (is_aaid t) (sym (key_aaid q.key) ∙ ap (λ (x : NodeKey). x.aaid) (sym same)) ∙ h

pub clear_tree : (t : Aaid) (q n : Transaction) (r : Option LogRec) → IsLogged q r n → is_aaid t (aaid_of q.key) ≡ true → is_clear_rec r ≡ true → ends_tree t r ≡ true
clear_tree t q n (Some (LogRec.End m k o)) l h c = rw (c, tree_of t q k l h) refl
clear_tree t q n _ l h c = absurd (cc (c))

damage_tree : (t : Aaid) (q n : Transaction) (r : Option LogRec) → IsLogged q r n → is_aaid t (aaid_of q.key) ≡ true → is_damage_rec r ≡ true → damages_tree t r ≡ true
damage_tree t q n (Some (LogRec.Damage m k s o r cs)) l h c = tree_of t q k l.0 h
damage_tree t q n _ l h c = absurd (cc (c))

pub ends_key : (t : Aaid) (q n : Transaction) (r : Option LogRec) → IsLogged q r n → ends_tree t r ≡ true → is_aaid t (aaid_of q.key) ≡ true
ends_key t q n (Some (LogRec.End m k o)) l h = tree_back t q k l (and_right (is_commit o) (is_aaid t k.aaid) h)
ends_key t q n _ l h = absurd (cc (h))

damages_key : (t : Aaid) (q n : Transaction) (r : Option LogRec) → IsLogged q r n → damages_tree t r ≡ true → is_aaid t (aaid_of q.key) ≡ true
damages_key t q n (Some (LogRec.Damage m k s o r cs)) l h = tree_back t q k l.0 h
damages_key t q n _ l h = absurd (cc (h))

-- ---- what is kept

abbrev is_idle_kept : Kept → Bool
is_idle_kept k = is_commit k.side && is_report_none k.report

idle_one : IsOne is_idle_kept keeps_idle
idle_one = record { none = refl; more = λ k ks. refl }

idle_after : (r : Option LogRec) (ks : List Kept) → keeps_idle (kept_after r ks) ≡ true → (keeps_idle ks ≡ true) ⊎ (is_idle_rec r ≡ true)
idle_after r ks h = elim (one_after is_idle_kept keeps_idle idle_one (λ k b. refl) r ks h) [ inl i ↦ inl i | inr k ↦ inr (ap is_idle_rec k.is ∙ k.holds) ]

idle_stands : (ks : List Kept) (k : Kept) → StandsIn ks k → (is_commit k.side && is_report_none k.report) ≡ true → keeps_idle ks ≡ true
idle_stands [] k s h = absurd s
idle_stands (x ∷ ks) k (inl s) h = let one : (is_commit x.side && is_report_none x.report) ≡ true = ap (λ (y : Kept). is_commit y.side && is_report_none y.report) s ∙ h in rw one refl
idle_stands (x ∷ ks) k (inr s) h = let rest = idle_stands ks k s h in rw rest (grind arith)

join_first : (x y : Report) → is_report_none (join x y) ≡ true → is_report_none x ≡ true
join_first Report.None y h = refl
join_first Report.Hazard Report.None h = absurd (cc (h))
join_first Report.Hazard Report.Hazard h = absurd (cc (h))
join_first Report.Hazard Report.Mix h = absurd (cc (h))
join_first Report.Mix Report.None h = absurd (cc (h))
join_first Report.Mix Report.Hazard h = absurd (cc (h))
join_first Report.Mix Report.Mix h = absurd (cc (h))

settled_idle : (k : Kept) (f : KeptEvent) → is_idle_rec (settled k f).rec ≡ true → (is_commit k.side && is_report_none k.report) ≡ true
unfolding settled
settled_idle k (KeptEvent.Done a b x) h = go (find_owed k.owed b) h
  where
    go : (o : Option Child) → is_idle_rec (elim o as (λ _. Option LogRec) [ None ↦ None | Some c ↦ Some (rec_of_done k b x) ]) ≡ true → (is_commit k.side && is_report_none k.report) ≡ true
    go None i = absurd (cc (i))
    go (Some c) i = on (is_nothing_owed (without_owed k.owed b) && k.forgot) i
      where
        on : (v : Bool) → is_idle_rec (Some (if v then LogRec.End k.node k.key k.side else LogRec.Damage k.node k.key k.superior k.side (join k.report x) (without_owed k.owed b))) ≡ true → (is_commit k.side && is_report_none k.report) ≡ true
        on true j = absurd (cc (j))
        on false j = rw (and_left (is_commit k.side) (is_report_none (join k.report x)) j, join_first k.report x (and_right (is_commit k.side) (is_report_none (join k.report x)) j)) refl
settled_idle k KeptEvent.Forget h = absurd (grind (arith, h))
settled_idle k KeptEvent.Purge h = absurd (cc (h))

-- of a tree that is kept, a Damage is logged
pub damage_after : (t : Aaid) (r : Option LogRec) (ks : List Kept) → keeps_tree t (kept_after r ks) ≡ true → (keeps_tree t ks ≡ true) ⊎ (damages_tree t r ≡ true)
damage_after t r ks h = elim (one_after (is_of_tree_kept t) (keeps_tree t) (tree_one t) (λ k b. refl) r ks h) [ inl i ↦ inl i | inr k ↦ inr (ap (damages_tree t) k.is ∙ k.holds) ]

notes_put : (t : Aaid) (b : BranchId) (ks : List Kept) (x : Kept) → x.forgot ≡ false → notes_forget t b (put_kept ks x) ≡ true → notes_forget t b ks ≡ true
notes_put t b [] x off h = absurd (grind (arith, h, off))
notes_put t b (k ∷ ks) x off h = go (is_key k.key x.key) refl (notes_put t b ks x off)
  where
    go : (v : Bool) → is_key k.key x.key ≡ v → (notes_forget t b (put_kept ks x) ≡ true → notes_forget t b ks ≡ true) → notes_forget t b (k ∷ ks) ≡ true
    go true i rest =
        let all : ((k.forgot && is_key x.key (branch_key t b)) || notes_forget t b ks) ≡ true = rw (i, put_kept) at h in
        ap (λ (j : NodeKey). (k.forgot && is_key j (branch_key t b)) || notes_forget t b ks) (keys_equal k.key x.key i) ∙ all
    go false i rest = elim (or_case (k.forgot && is_key k.key (branch_key t b)) (notes_forget t b (put_kept ks x)) (rw (i, put_kept) at h)) [ inl m ↦ rw m refl | inr m ↦ (let r = rest m in rw r (grind arith)) ]

abbrev is_noted_of : Aaid → BranchId → Kept → Bool
is_noted_of t b k = k.forgot && is_key k.key (branch_key t b)

notes_after : (t : Aaid) (b : BranchId) (r : Option LogRec) (ks : List Kept) → notes_forget t b (kept_after r ks) ≡ true → notes_forget t b ks ≡ true
unfolding kept_by
notes_after t b (Some (LogRec.Damage n k s o r cs)) ks h = notes_put t b ks (record { node = n; key = k; superior = s; side = o; report = r; owed = cs; forgot = false }) refl h
notes_after t b (Some (LogRec.End n k o)) ks h = one_without (is_noted_of t b) (notes_forget t b) (record { none = refl; more = λ k ks. refl }) ks k h
notes_after t b _ ks h = h

notes_with : (t : Aaid) (b : BranchId) (ks : List Kept) (j : NodeKey) → notes_forget t b (with_forget ks j (λ y. noted y KeptEvent.Forget)) ≡ true → (notes_forget t b ks ≡ true) ⊎ (is_key j (branch_key t b) ≡ true)
notes_with t b [] j h = inl h
notes_with t b (k ∷ ks) j h = go (is_key k.key j) refl (notes_with t b ks j)
  where
    go : (v : Bool) → is_key k.key j ≡ v → (notes_forget t b (with_forget ks j (λ y. noted y KeptEvent.Forget)) ≡ true → (notes_forget t b ks ≡ true) ⊎ (is_key j (branch_key t b) ≡ true)) → (notes_forget t b (k ∷ ks) ≡ true) ⊎ (is_key j (branch_key t b) ≡ true)
    go true i rest = elim (or_case ((noted k KeptEvent.Forget).forgot && is_key (noted k KeptEvent.Forget).key (branch_key t b)) (notes_forget t b ks) (rw (i, with_forget) at h)) [
      | inl m ↦ inr (ap (λ (x : NodeKey). is_key x (branch_key t b)) (sym (keys_equal k.key j i)) ∙ ap (λ (x : NodeKey). is_key x (branch_key t b)) (sym (noted_key k)) ∙ and_right (noted k KeptEvent.Forget).forgot (is_key (noted k KeptEvent.Forget).key (branch_key t b)) m)
      | inr m ↦ inl (rw m (grind arith))
    ]
    go false i rest = elim (or_case (k.forgot && is_key k.key (branch_key t b)) (notes_forget t b (with_forget ks j (λ y. noted y KeptEvent.Forget))) (rw (i, with_forget) at h)) [
      | inl m ↦ inl (rw m refl)
      | inr m ↦ elim (rest m) [ inl r ↦ inl (rw r (grind arith)) | inr r ↦ inr r ]
    ]

found_notes : (t : Aaid) (b : BranchId) (ks : List Kept) (j : NodeKey) (x : Kept) → find_kept ks j ≡ Some x → x.forgot ≡ true → is_key x.key (branch_key t b) ≡ true → notes_forget t b ks ≡ true
found_notes t b [] j x h f a = absurd (cc (h))
found_notes t b (k ∷ ks) j x h f a = go (is_key k.key j) refl (found_notes t b ks j x)
  where
    go : (v : Bool) → is_key k.key j ≡ v → (find_kept ks j ≡ Some x → x.forgot ≡ true → is_key x.key (branch_key t b) ≡ true → notes_forget t b ks ≡ true) → notes_forget t b (k ∷ ks) ≡ true
    go true i rest =
        let one : Some k ≡ Some x = rw (i, find_kept) at h in
        let same : k ≡ x = cc (one) in
        let all : (k.forgot && is_key k.key (branch_key t b)) ≡ true = ap (λ (y : Kept). y.forgot && is_key y.key (branch_key t b)) same ∙ rw (f, a) refl in
        rw all refl
    go false i rest = let r = rest (rw (i, find_kept) at h) f a in rw r (grind arith)

abbrev roots_rec : Aaid → BranchId → Option LogRec → Bool
roots_rec t b None = false
roots_rec t b (Some (LogRec.Boot n)) = false
roots_rec t b (Some (LogRec.Ready n k s cs)) = false
roots_rec t b (Some (LogRec.Heuristic n k o)) = false
roots_rec t b (Some (LogRec.Commit n k s cs)) = false
roots_rec t b (Some (LogRec.Damage n k s o r cs)) = not (is_key k (branch_key t b)) && is_aaid t k.aaid
roots_rec t b (Some (LogRec.End n k o)) = false

abbrev is_beside : Aaid → BranchId → Kept → Bool
is_beside t b k = not (is_key k.key (branch_key t b)) && is_aaid t k.key.aaid

beside_one : (t : Aaid) (b : BranchId) → IsOne (is_beside t b) (keeps_beside t b)
beside_one t b = record { none = refl; more = λ k ks. refl }

roots_after : (t : Aaid) (b : BranchId) (r : Option LogRec) (ks : List Kept) → keeps_beside t b (kept_after r ks) ≡ true → (keeps_beside t b ks ≡ true) ⊎ (roots_rec t b r ≡ true)
roots_after t b r ks h = elim (one_after (is_beside t b) (keeps_beside t b) (beside_one t b) (λ k b. refl) r ks h) [ inl i ↦ inl i | inr k ↦ inr (ap (roots_rec t b) k.is ∙ k.holds) ]

roots_among : (t : Aaid) (b : BranchId) (ks : List Kept) (k : Kept) → IsAmong ks k → (not (is_key k.key (branch_key t b)) && is_aaid t k.key.aaid) ≡ true → keeps_beside t b ks ≡ true
roots_among t b [] k a h = absurd a
roots_among t b (x ∷ ks) k (inl a) h = let here : (not (is_key x.key (branch_key t b)) && is_aaid t x.key.aaid) ≡ true = ap (λ (j : NodeKey). not (is_key j (branch_key t b)) && is_aaid t j.aaid) a.1 ∙ h in rw here refl
roots_among t b (x ∷ ks) k (inr a) h = let there = roots_among t b ks k a h in rw there (grind arith)

pub roots_noted : (t : Aaid) (b : BranchId) (ks : List Kept) → keeps_beside t b (not_forgotten ks) ≡ keeps_beside t b ks
roots_noted t b ks = one_noted (is_beside t b) (keeps_beside t b) (beside_one t b) (λ k b. refl) ks

pub idle_noted : (ks : List Kept) → keeps_idle (not_forgotten ks) ≡ keeps_idle ks
idle_noted ks = one_noted is_idle_kept keeps_idle idle_one (λ k b. refl) ks

settled_roots : (t : Aaid) (b : BranchId) (k : Kept) (f : KeptEvent) → roots_rec t b (settled k f).rec ≡ true → (not (is_key k.key (branch_key t b)) && is_aaid t k.key.aaid) ≡ true
unfolding settled
settled_roots t b k (KeptEvent.Done a c x) h = go (find_owed k.owed c) h
  where
    go : (o : Option Child) → roots_rec t b (elim o as (λ _. Option LogRec) [ None ↦ None | Some y ↦ Some (rec_of_done k c x) ]) ≡ true → (not (is_key k.key (branch_key t b)) && is_aaid t k.key.aaid) ≡ true
    go None i = absurd (cc (i))
    go (Some y) i = on (is_nothing_owed (without_owed k.owed c) && k.forgot) i
      where
        on : (v : Bool) → roots_rec t b (Some (if v then LogRec.End k.node k.key k.side else LogRec.Damage k.node k.key k.superior k.side (join k.report x) (without_owed k.owed c))) ≡ true → (not (is_key k.key (branch_key t b)) && is_aaid t k.key.aaid) ≡ true
        on true j = absurd (cc (j))
        on false j = j
settled_roots t b k KeptEvent.Forget h = absurd (grind (arith, h))
settled_roots t b k KeptEvent.Purge h = absurd (cc (h))

pub settled_ends : (t : Aaid) (k : Kept) (f : KeptEvent) → ends_tree t (settled k f).rec ≡ true → is_aaid t k.key.aaid ≡ true
unfolding settled
settled_ends t k KeptEvent.Purge h = and_right (is_commit k.side) (is_aaid t k.key.aaid) h
settled_ends t k _ h = grind (arith, h)

settled_damages : (t : Aaid) (k : Kept) (f : KeptEvent) → damages_tree t (settled k f).rec ≡ true → is_aaid t k.key.aaid ≡ true
unfolding settled
settled_damages t k (KeptEvent.Done a b r) h = grind (arith, h)
settled_damages t k KeptEvent.Forget h = absurd (grind (arith, h))
settled_damages t k KeptEvent.Purge h = absurd (cc (h))

settled_decides : (k : Kept) (f : KeptEvent) (u : Option Outcome) → u ≡ decided_by (settled k f).rec u
unfolding settled
settled_decides k KeptEvent.Purge u = refl
settled_decides k _ u = grind arith

-- ---- a commitment that is kept

keeps_by : (t : Aaid) (q n : Transaction) (r : Option LogRec) (ks : List Kept) → IsLogged q r n → is_aaid t (aaid_of q.key) ≡ true → is_keeping_rec r ≡ true → KeepsAt t (kept_after r ks)
keeps_by t q n (Some (LogRec.Damage m k s o r cs)) ks l h c = kept_new (λ x. Unit {0}) t ks m k s o r cs c (tree_of t q k l.0 h) (λ y same. tt)
keeps_by t q n _ ks l h c = absurd (cc (c))

roots_key : (t : Aaid) (b : BranchId) (q n : Transaction) (r : Option LogRec) → IsLogged q r n → roots_rec t b r ≡ true → (is_aaid t (aaid_of q.key) ≡ true) × (is_key (node_key q.key) (branch_key t b) ≡ false)
roots_key t b q n (Some (LogRec.Damage m k s o r cs)) l h = (tree_back t q k l.0 (and_right (not (is_key k (branch_key t b))) (is_aaid t k.aaid) h), ap (λ (j : NodeKey). is_key j (branch_key t b)) (sym l.0) ∙ not_true (is_key k (branch_key t b)) (and_left (not (is_key k (branch_key t b))) (is_aaid t k.aaid) h))
  where
    not_true : (v : Bool) → not v ≡ true → v ≡ false
    not_true v h = grind (arith, h)
roots_key t b q n _ l h = absurd (cc (h))

-- ---- a step of a node

-- what settles a branch: its Done with no report, or its Left; or the tree rolls or leaves
pub data SettlesAt (who : Who) (e : Event) (fall : Bool) (s : Digest) (t : Aaid) (p : ℕ) (b : BranchId) : Type 0 where
  Clear_here : MayMark who e s may_clear p (t, b) → SettlesAt who e fall s t p b
  Left_here : MayMark who e s may_leave p (t, b) → SettlesAt who e fall s t p b
  Rolls_here : is_now t s.current ≡ true → fall ≡ true → SettlesAt who e fall s t p b
  Leaves_here : is_now t s.current ≡ true → is_unchanged e ≡ true → SettlesAt who e fall s t p b

-- how a tree ends
pub data EndsAt (e : Event) (fall : Bool) (s : Digest) (t : Aaid) (b : BranchId) (d : Digest) (m : Move) : Type 0 where
  It_rolls : is_now t s.current ≡ true → fall ≡ true → EndsAt e fall s t b d m
  Was_rolling : is_rolling (phase_of d) ≡ true → EndsAt e fall s t b d m
  It_leaves : is_now t s.current ≡ true → is_unchanged e ≡ true → EndsAt e fall s t b d m
  It_clears : ends_tree t m.rec ≡ true → EndsAt e fall s t b d m
  Is_kept : KeepsAt t m.next.kept → EndsAt e fall s t b d m
  Is_gone : LetsGo e s t b d.kept → EndsAt e fall s t b d m

-- what a Done with no report is an answer to, and a Forget
abbrev pub AnswersDone : Event → Digest → Addr → Aaid → BranchId → Type 0
AnswersDone e s z t b = (e ≡ Event.Arrive z (PeerRecord.RecCommit t b)) × (recovery_answer (known_of (named_by_key s (branch_key t b)) b) Question.RecCommit ≡ Some (RecState.Done Report.None))

abbrev pub AnswersWith : Event → Digest → Addr → Aaid → BranchId → Report → Type 0
AnswersWith e s z t b r = (e ≡ Event.Arrive z (PeerRecord.RecCommit t b)) × (recovery_answer (known_of (named_by_key s (branch_key t b)) b) Question.RecCommit ≡ Some (RecState.Done r))

abbrev pub AnswersForget : Event → Digest → Addr → Aaid → BranchId → Type 0
AnswersForget e s z t b = (r : Report) × (e ≡ Event.Arrive z (PeerRecord.RecReply t b (RecState.Done r))) × (is_report_none r ≡ false) × ((named_by_branch s t b).current ≡ None)

-- an event e whose prelude left s, from d on, for a tree t
pub record IsClearingMove (who : Who) (e : Event) (fall : Bool) (s : Digest) (t : Aaid) (d : Digest) (m : Move) : Type 0 where
  pub tells : is_now t s.current ≡ true → out_tells is_complete_none m.outs ≡ true → ends_tree t m.rec ≡ true
  pub says : (z : Addr) (b : BranchId) → IsSentIn m.outs z (PeerRecord.RecReply t b (RecState.Done Report.None)) → (is_now t s.current ≡ true) × (is_committing (phase_of s) ≡ true) × (ends_tree t m.rec ≡ true) ⊎ (keeps_idle d.kept ≡ true) ⊎ AnswersDone e s z t b
  pub spoils : (z : Addr) (b : BranchId) (r : Report) → is_report_none r ≡ false → IsSentIn m.outs z (PeerRecord.RecReply t b (RecState.Done r)) → (damages_tree t m.rec ≡ true) ⊎ (keeps_tree t d.kept ≡ true) ⊎ AnswersWith e s z t b r
  pub forgets : (z : Addr) (b : BranchId) → IsSentIn m.outs z (PeerRecord.Forget t b) → (damages_tree t m.rec ≡ true) ⊎ (keeps_tree t d.kept ≡ true) ⊎ AnswersForget e s z t b
  pub clears : ends_tree t m.rec ≡ true → (keeps_tree t d.kept ≡ true) ⊎ (c : Current) × (s.current ≡ Some c) × (is_aaid t (aaid_of c.key) ≡ true) × (is_committing c.phase ≡ true) × (is_for_rollback c.decision ≡ false)
  pub decides : IsLate d → is_old who d t.mark ≡ true → is_now t d.current ≡ true → is_now t m.next.current ≡ true → is_rolling (phase_of m.next) ≡ false → decision_of m.next.current ≡ decided_by m.rec (decision_of d.current)
  pub damages : IsLate d → is_old who d t.mark ≡ true → damages_tree t m.rec ≡ true → keeps_tree t d.kept ≡ false → is_now t m.next.current ≡ true → is_rolling (phase_of m.next) ≡ true
  pub gone : IsLate d → is_old who d t.mark ≡ true → ends_tree t m.rec ≡ true → keeps_tree t d.kept ≡ false → is_now t m.next.current ≡ true → ⊥
  pub logs : damages_tree t m.rec ≡ true → (is_now t s.current ≡ true) ⊎ (keeps_tree t d.kept ≡ true)
  pub keeps : keeps_tree t m.next.kept ≡ true → (keeps_tree t d.kept ≡ true) ⊎ (damages_tree t m.rec ≡ true)
  pub idle : keeps_idle m.next.kept ≡ true → keeps_idle d.kept ≡ true
  pub notes : (b : BranchId) → notes_forget t b m.next.kept ≡ true → (notes_forget t b d.kept ≡ true) ⊎ (a : Addr) × (e ≡ Event.Arrive a (PeerRecord.Forget t b))
  pub roots : (b : BranchId) → keeps_beside t b m.next.kept ≡ true → (keeps_beside t b d.kept ≡ true) ⊎ (c : Current) × (s.current ≡ Some c) × (is_aaid t (aaid_of c.key) ≡ true) × (is_key (node_key c.key) (branch_key t b) ≡ false)
  pub over : (b : BranchId) → IsLate d → is_old who d t.mark ≡ true → IsSound who d → is_now t d.current ≡ true → (is_now t m.next.current ≡ true) ⊎ EndsAt e fall s t b d m
  pub kept : (b : BranchId) → IsSound who d → KeepsAt t d.kept → KeepsAt t m.next.kept ⊎ LetsGo e s t b d.kept
  pub stays : (p : ℕ) (b : BranchId) → OpenRow t p b d.current → OpenRow t p b m.next.current ⊎ SettlesAt who e fall s t p b ⊎ (damages_tree t m.rec ≡ true)
  pub begins : (p : ℕ) (b : BranchId) → BeginsTo t p b m.outs → OpenRow t p b m.next.current ⊎ SettlesAt who e fall s t p b ⊎ (damages_tree t m.rec ≡ true)

pub complete_outcome : (i : Indication) → is_complete_none i ≡ true → is_outcome_told i ≡ true
complete_outcome (Indication.CommitComplete r) h = refl
complete_outcome i h = absurd (cc (h))

-- nothing is logged, and what is current and kept stays
clearing_same : (who : Who) (e : Event) (fall : Bool) (s : Digest) (t : Aaid) (d : Digest) (m : Move) → m.rec ≡ None → m.next.current ≡ d.current → m.next.kept ≡ d.kept → out_tells is_complete_none m.outs ≡ false
    → ((z : Addr) (b : BranchId) → IsSentIn m.outs z (PeerRecord.RecReply t b (RecState.Done Report.None)) → (is_now t s.current ≡ true) × (is_committing (phase_of s) ≡ true) × (ends_tree t m.rec ≡ true) ⊎ (keeps_idle d.kept ≡ true) ⊎ AnswersDone e s z t b)
    → ((z : Addr) (b : BranchId) (r : Report) → is_report_none r ≡ false → IsSentIn m.outs z (PeerRecord.RecReply t b (RecState.Done r)) → (damages_tree t m.rec ≡ true) ⊎ (keeps_tree t d.kept ≡ true) ⊎ AnswersWith e s z t b r)
    → ((z : Addr) (b : BranchId) → IsSentIn m.outs z (PeerRecord.Forget t b) → (damages_tree t m.rec ≡ true) ⊎ (keeps_tree t d.kept ≡ true) ⊎ AnswersForget e s z t b)
    → ((p : ℕ) (b : BranchId) → BeginsTo t p b m.outs → ⊥) → IsClearingMove who e fall s t d m
clearing_same who e fall s t d m none cur kept untold says spoils forgets begins = record {
  tells = λ n h. absurd (cc (untold, h));
  says = says;
  spoils = spoils;
  forgets = forgets;
  clears = λ h. absurd (cc (ap (ends_tree t) none, h));
  decides = λ late old n next rolling. ap decision_of cur ∙ ap (λ (r : Option LogRec). decided_by r (decision_of d.current)) (sym none);
  damages = λ late old h k n. absurd (cc (ap (damages_tree t) none, h));
  keeps = λ h. inl (ap (keeps_tree t) (sym kept) ∙ h);
  idle = λ h. ap keeps_idle (sym kept) ∙ h;
  gone = λ late old h k n. cc (ap (ends_tree t) none, h);
  logs = λ h. absurd (cc (ap (damages_tree t) none, h));
  notes = λ b h. inl (ap (notes_forget t b) (sym kept) ∙ h);
  roots = λ b h. inl (ap (keeps_beside t b) (sym kept) ∙ h);
  over = λ b late old sound n. inl (ap (is_now t) cur ∙ n);
  kept = λ b sound k. inl (subst (λ (ks : List Kept). KeepsAt t ks) (sym kept) k);
  stays = λ p b k. inl (subst (λ (o : Option Current). OpenRow t p b o) (sym cur) k);
  begins = λ p b h. absurd (begins p b h);
}

-- a kept commitment of the tree
commit_kept : (t : Aaid) (ks : List Kept) → keeps_commit t ks ≡ true → keeps_tree t ks ≡ true
commit_kept t [] h = absurd (cc (h))
commit_kept t (k ∷ ks) h = elim (or_case (is_commit k.side && is_aaid t k.key.aaid) (keeps_commit t ks) h) [
  | inl i ↦ (let one = and_right (is_commit k.side) (is_aaid t k.key.aaid) i in rw one refl)
  | inr i ↦ (let rest = commit_kept t ks i in rw rest (grind arith))
]

clearing_still : (who : Who) (e : Event) (fall : Bool) (s : Digest) (t : Aaid) (d : Digest) → IsClearingMove who e fall s t d (move [] d)
clearing_still who e fall s t d = clearing_same who e fall s t d (move [] d) refl refl refl refl (λ z b h. absurd h) (λ z b r n h. absurd h) (λ z b h. absurd h) (λ p b h. h.6)

clearing_perform : (who : Who) (e : Event) (fall : Bool) (s : Digest) (t : Aaid) (d : Digest) (outs : List TxOut) → are_spoken outs ≡ true → AreSaid e s d outs → IsClearingMove who e fall s t d (perform outs d)
clearing_perform who e fall s t d outs spoken said =
    clearing_same who e fall s t d (perform outs d) refl refl refl (told_performed is_complete_none d.arcs outs ∙ tells_none is_complete_none outs complete_outcome spoken)
    (λ z b h. done z b (said z (PeerRecord.RecReply t b (RecState.Done Report.None)) (sent_performed d.arcs outs z (PeerRecord.RecReply t b (RecState.Done Report.None)) refl h)))
    (λ z b r some h. spoilt z b r (said z (PeerRecord.RecReply t b (RecState.Done r)) (sent_performed d.arcs outs z (PeerRecord.RecReply t b (RecState.Done r)) refl h)))
    (λ z b h. inr (inr (said z (PeerRecord.Forget t b) (sent_performed d.arcs outs z (PeerRecord.Forget t b) refl h))))
    (λ p b h. no_begin d.arcs outs t p b (ap (begins_of t) (spoken_words d.arcs outs p spoken)) h)
  where
    done : (z : Addr) (b : BranchId) → IsSaid e s d z (PeerRecord.RecReply t b (RecState.Done Report.None)) → (is_now t s.current ≡ true) × (is_committing (phase_of s) ≡ true) × (ends_tree t None ≡ true) ⊎ (keeps_idle d.kept ≡ true) ⊎ AnswersDone e s z t b
    done z b (inl i) = inr (inl (i.1 refl))
    done z b (inr i) = inr (inr i)

    spoilt : (z : Addr) (b : BranchId) (r : Report) → IsSaid e s d z (PeerRecord.RecReply t b (RecState.Done r)) → (damages_tree t None ≡ true) ⊎ (keeps_tree t d.kept ≡ true) ⊎ AnswersWith e s z t b r
    spoilt z b r (inl i) = inr (inl (commit_kept t d.kept i.2))
    spoilt z b r (inr i) = inr (inr i)

-- ---- a turn

departs_is : (f : TxEvent) → is_leaving f ≡ true → f ≡ TxEvent.User Request.Unchanged
departs_is (TxEvent.User Request.Unchanged) h = refl
departs_is f h = absurd (cc (h))

clearing_turned : (who : Who) (e : Event) (fall : Bool) (s : Digest) (t : Aaid) (f : TxEvent) (d : Digest) (c : Current) → (falls f (seen who d.arcs c) ≡ true → fall ≡ true) → d.current ≡ Some c → s.current ≡ Some c → IsAsked e c f → IsPut f (seen who d.arcs c)
    → IsClearingMove who e fall s t d (turned who f d c)
clearing_turned who e fall s t f d c so now at asked put = record {
  tells = λ n h. clear_tree t q a.next a.rec own.passed.logs (tree_at n) (own.tells (sym (told_played is_complete_none d q w a (whole_turn f q) (entered q w d.arcs)) ∙ h));
  says = λ z b h.
      let r = sent_played d q w a (whole_turn f q) (entered q w d.arcs) z (PeerRecord.RecReply t b (RecState.Done Report.None)) refl h in
      let same : t ≡ aaid_of c.key = ((owing_turn f q put).says z (PeerRecord.RecReply t b (RecState.Done Report.None)) r).0 in
      let tree : is_aaid t (aaid_of c.key) ≡ true = ap (is_aaid t) (sym same) ∙ aaid_same t in
      let clear = own.says z t b r in
      inl (ap (is_now t) at ∙ tree, ap is_committing (phase_at s c at) ∙ (own.clears clear).0, clear_tree t q a.next a.rec own.passed.logs tree clear);
  spoils = λ z b x some h.
      let w = (owing_turn f q put).says z (PeerRecord.RecReply t b (RecState.Done x)) (sent_played d q w a (whole_turn f q) (entered q w d.arcs) z (PeerRecord.RecReply t b (RecState.Done x)) refl h) in
      inl (damage_tree t q a.next a.rec own.passed.logs (ap (is_aaid t) (sym w.0) ∙ aaid_same t) (spoilt (is_report_none x) (is_damage_rec a.rec) some w.2));
  forgets = λ z b h.
      let r = own.forgets z t b (sent_played d q w a (whole_turn f q) (entered q w d.arcs) z (PeerRecord.Forget t b) refl h) in
      inl (damage_tree t q a.next a.rec own.passed.logs (ap (is_aaid t) (sym r.0) ∙ aaid_same t) r.1);
  clears = λ h. let k = own.clears (tree_clear t a.rec h) in inr (c, at, ends_key t q a.next a.rec own.passed.logs h, k.0, k.1);
  decides = λ late old n next rolling. decides next rolling;
  damages = λ late old h k n.
      let l = now_left t a.next n in
      let over : (is_nil a.next.phase || is_rolling a.next.phase) ≡ true = own.damages (tree_damage t a.rec h) in
      ap is_rolling (phase_left a.next m.next refl l.1) ∙ elim (or_case (is_nil a.next.phase) (is_rolling a.next.phase) over) [ inl i ↦ absurd (cc (l.1, i)) | inr i ↦ i ];
  keeps = λ h. damage_after t a.rec d.kept h;
  idle = λ h. elim (idle_after a.rec d.kept h) [ inl i ↦ i | inr i ↦ absurd (cc (own.reports, i)) ];
  gone = λ late old h k n. let l = now_left t a.next n in cc (l.1, (own.clears (tree_clear t a.rec h)).2);
  logs = λ h. inl (ap (is_now t) at ∙ damages_key t q a.next a.rec own.passed.logs h);
  notes = λ b h. inl (notes_after t b a.rec d.kept h);
  roots = λ b h. elim (roots_after t b a.rec d.kept h) [ inl i ↦ inl i | inr i ↦ (let k = roots_key t b q a.next a.rec own.passed.logs i in inr (c, at, k.0, k.1)) ];
  over = λ b late old sound n. over b (late c now) (tree_of_d n) (is_nil a.next.phase) refl;
  kept = λ b sound k. inl (kept sound k);
  stays = λ p b k. row p b k;
  begins = λ p b h. absurd (none p b h);
}
  where
    q : Transaction
    q = seen who d.arcs c

    a : Turn
    a = transacted f q

    w : Passage
    w = passage (is_leaving f) q.phase a.next.phase

    m : Move
    m = turned who f d c

    own : IsClearing f q q a
    own = clearing_turn f q put

    spoilt : (x y : Bool) → x ≡ false → (x || y) ≡ true → y ≡ true
    spoilt false y i h = h
    spoilt true y i h = absurd (cc (i))

    tree_at : is_now t s.current ≡ true → is_aaid t (aaid_of c.key) ≡ true
    tree_at n = ap (is_now t) (sym at) ∙ n

    tree_of_d : is_now t d.current ≡ true → is_aaid t (aaid_of c.key) ≡ true
    tree_of_d n = ap (is_now t) (sym now) ∙ n

    none : (p : ℕ) (b : BranchId) → BeginsTo t p b m.outs → ⊥
    none p b h = absurd (omega (arith, no_begins t (words_to p m.outs) (turned_none who f d c p put), sent_counts t p m.outs h.0 h.1 h.2 h.3 b h.4 h.5 h.6))

    decides : is_now t m.next.current ≡ true → is_rolling (phase_of m.next) ≡ false → decision_of m.next.current ≡ decided_by a.rec (decision_of d.current)
    decides n rolling =
        let l = now_left t a.next n in
        let off : (is_nil a.next.phase || is_rolling a.next.phase) ≡ false = rw (l.1) (ap is_rolling (sym (phase_left a.next m.next refl l.1)) ∙ rolling) in
        left (remaining a.next) refl n ∙ own.decides off ∙ ap (λ (o : Option Current). decided_by a.rec (decision_of o)) (sym now)
      where
        left : (o : Option Current) → remaining a.next ≡ o → is_now t o ≡ true → decision_of o ≡ a.next.decision
        left None i n = absurd (cc (n))
        left (Some x) i n = go (is_nil a.next.phase) refl
          where
            go : (v : Bool) → is_nil a.next.phase ≡ v → x.decision ≡ a.next.decision
            go true j = absurd (grind (arith, i, j))
            go false j = grind (arith, i, j)

    over : (b : BranchId) → is_nil c.phase ≡ false → is_aaid t (aaid_of c.key) ≡ true → (v : Bool) → is_nil a.next.phase ≡ v → (is_now t m.next.current ≡ true) ⊎ EndsAt e fall s t b d m
    over b late tree false i = inl (stay (remaining a.next) refl)
      where
        stay : (o : Option Current) → remaining a.next ≡ o → is_now t o ≡ true
        stay None j = absurd (grind (arith, i, j))
        stay (Some x) j = let l = left_is a.next x j in ap (λ (k : Key). is_aaid t (aaid_of k)) (l.0 ∙ own.passed.key) ∙ tree
    over b late tree true i = inr (by (own.over late i))
      where
        here : is_now t s.current ≡ true
        here = ap (is_now t) at ∙ tree

        by : is_ended_by f q q a.rec ≡ true → EndsAt e fall s t b d m
        by h = go (falls f q) refl (is_rolling c.phase) refl (is_leaving f) refl (is_clear_rec a.rec) refl (is_keeping_rec a.rec) refl
          where
            go : (v : Bool) → falls f q ≡ v → (x : Bool) → is_rolling c.phase ≡ x → (y : Bool) → is_leaving f ≡ y → (z : Bool) → is_clear_rec a.rec ≡ z → (u : Bool) → is_keeping_rec a.rec ≡ u → EndsAt e fall s t b d m
            go true j x k y l z o u r = It_rolls here (so j)
            go false j true k y l z o u r = Was_rolling (ap is_rolling (phase_at d c now) ∙ k)
            go false j false k true l z o u r = It_leaves here (unchanged_asked e c (subst (λ (g : TxEvent). IsAsked e c g) (departs_is f l) asked))
            go false j false k false l true o u r = It_clears (clear_tree t q a.next a.rec own.passed.logs tree o)
            go false j false k false l false o true r = Is_kept (keeps_by t q a.next a.rec d.kept own.passed.logs tree r)
            go false j false k false l false o false r = let all : is_ended_by f q q a.rec ≡ false = rw (j, k, l, o, r) refl in absurd (cc (h, all))

    kept : IsSound who d → (k : KeepsAt t d.kept) → KeepsAt t m.next.kept
    kept sound k = elim (owing_turn f q put).logs [
      | inl i ↦ subst (λ (r : Option LogRec). KeepsAt t (kept_after r d.kept)) (sym i) k
      | inr i ↦ kept_other (λ x. Unit {0}) t d.kept k a.rec (other_logged q a.rec a.next k.key own.passed.logs (λ same. found_apart d.kept (node_key c.key) k.key k.kept (sound.0 c now (no_rolling c.phase i)) k.found same))
    ]

    row : (p : ℕ) (b : BranchId) → OpenRow t p b d.current → OpenRow t p b m.next.current ⊎ SettlesAt who e fall s t p b ⊎ (damages_tree t m.rec ≡ true)
    row p b k = elim (own.stays p b (row_seen is_clear_branch who d.arcs t p b c (subst (λ (o : Option Current). OpenRow t p b o) now k))) [
      | inl i ↦ inl (row_remains is_clear_branch t p b a.next (ap (λ (j : Key). is_aaid t (aaid_of j)) own.passed.key ∙ tree) i)
      | inr i ↦ elim i [ inl j ↦ inr (inl (quits j)) | inr j ↦ inr (inr (damage_tree t q a.next a.rec own.passed.logs tree (keeping a.rec j))) ]
    ]
      where
        same : k.current ≡ c
        same = some_same k.current c (sym k.at ∙ now)

        tree : is_aaid t (aaid_of c.key) ≡ true
        tree = ap (λ (x : Current). is_aaid t (aaid_of x.key)) (sym same) ∙ k.tree

        keeping : (r : Option LogRec) → is_keeping_rec r ≡ true → is_damage_rec r ≡ true
        keeping (Some (LogRec.Damage n j u o x cs)) h = refl
        keeping None h = absurd (cc (h))
        keeping (Some (LogRec.Boot n)) h = absurd (cc (h))
        keeping (Some (LogRec.Ready n j u cs)) h = absurd (cc (h))
        keeping (Some (LogRec.Heuristic n j o)) h = absurd (cc (h))
        keeping (Some (LogRec.Commit n j u cs)) h = absurd (cc (h))
        keeping (Some (LogRec.End n j o)) h = absurd (cc (h))

        here : is_now t s.current ≡ true
        here = ap (is_now t) at ∙ tree

        quits : Settles f q p → SettlesAt who e fall s t p b
        quits (Is_clear h) = Clear_here (row_marked is_clear_branch who e s d c f t p b now at asked k may_clear h)
        quits (Has_left h) = Left_here (row_marked is_clear_branch who e s d c f t p b now at asked k may_leave h)
        quits (Rolls h) = Rolls_here here (so h)
        quits (Departs h) = Leaves_here here (unchanged_asked e c (subst (λ (g : TxEvent). IsAsked e c g) (departs_is f h) asked))

-- ---- a step of a kept transaction

forget_tree : (t : Aaid) (k : Kept) (f : KeptEvent) (z : Addr) (b : BranchId) → IsRecoveryIn (settled k f).outs z (PeerRecord.Forget t b) → is_aaid t k.key.aaid ≡ true
unfolding settled
forget_tree t k (KeptEvent.Done a c x) z b h = go x h
  where
    go : (y : Report) → IsRecoveryIn (settled k (KeptEvent.Done a c y)).outs z (PeerRecord.Forget t b) → is_aaid t k.key.aaid ≡ true
    go Report.None i = absurd i
    go Report.Hazard (inl i) = let h = i.1 in let eq : k.key.aaid ≡ t = cc (h) in ap (is_aaid t) eq ∙ aaid_same t
    go Report.Hazard (inr i) = absurd i
    go Report.Mix (inl i) = let h = i.1 in let eq : k.key.aaid ≡ t = cc (h) in ap (is_aaid t) eq ∙ aaid_same t
    go Report.Mix (inr i) = absurd i
forget_tree t k _ z b h = absurd h

forget_is : (a : Addr) (u t : Aaid) (c b : BranchId) → u ≡ t → c ≡ b → Event.Arrive a (PeerRecord.Forget u c) ≡ Event.Arrive a (PeerRecord.Forget t b)
forget_is a u t c b h i = rw (h, i) refl

-- a Done lets it go only where its Forget was noted
done_kept : (e : Event) (s : Digest) (t : Aaid) (i : BranchId) (ks : List Kept) (k : Kept) (a : Addr) (b : BranchId) (x : Report) → KeepsAt t ks → find_kept ks k.key ≡ Some k → is_commit k.side ≡ true → is_aaid t k.key.aaid ≡ true → (is_key k.key (branch_key t i) ≡ false → LetsGo e s t i ks) → KeepsAt t (kept_after (settled k (KeptEvent.Done a b x)).rec ks) ⊎ LetsGo e s t i ks
unfolding settled
done_kept e s t i ks k a b x o is commits tree other = go (find_owed k.owed b)
  where
    go : (v : Option Child) → KeepsAt t (kept_after (elim v as (λ _. Option LogRec) [ None ↦ None | Some c ↦ Some (rec_of_done k b x) ]) ks) ⊎ LetsGo e s t i ks
    go None = inl o
    go (Some c) = on (is_nothing_owed (without_owed k.owed b)) k.forgot refl
      where
        on : (v w : Bool) → k.forgot ≡ w → KeepsAt t (kept_after (Some (if v && w then LogRec.End k.node k.key k.side else LogRec.Damage k.node k.key k.superior k.side (join k.report x) (without_owed k.owed b))) ks) ⊎ LetsGo e s t i ks
        on true true j = inr (noted_or (is_key k.key (branch_key t i)) refl)
          where
            noted_or : (v : Bool) → is_key k.key (branch_key t i) ≡ v → LetsGo e s t i ks
            noted_or true m = Noted (found_notes t i ks k.key k is j m)
            noted_or false m = other m
        on true false j = inl (kept_new (λ x. Unit {0}) t ks k.node k.key k.superior k.side (join k.report x) (without_owed k.owed b) commits tree (λ y same. tt))
        on false w j = inl (kept_new (λ x. Unit {0}) t ks k.node k.key k.superior k.side (join k.report x) (without_owed k.owed b) commits tree (λ y same. tt))

clearing_keep : (who : Who) (e : Event) (fall : Bool) (s : Digest) (t : Aaid) (d : Digest) (k : Kept) (f : KeptEvent) → IsAmong d.kept k → StandsIn d.kept k → IsFound d.kept k → IsSettling e s d k f → IsClearingMove who e fall s t d (keep (settled k f) d)
clearing_keep who e fall s t d k f among stands found settling = record {
  tells = λ n h. absurd (cc (h, told_performed is_complete_none d.arcs (settled k f).outs ∙ tells_none is_complete_none (settled k f).outs complete_outcome (settled_spoken k f)));
  says = λ z b h. absurd (other (settled_silent k f z (PeerRecord.RecReply t b (RecState.Done Report.None)) (sent_performed d.arcs (settled k f).outs z (PeerRecord.RecReply t b (RecState.Done Report.None)) refl h)));
  spoils = λ z b r some h. absurd (silent z b r (settled_silent k f z (PeerRecord.RecReply t b (RecState.Done r)) (sent_performed d.arcs (settled k f).outs z (PeerRecord.RecReply t b (RecState.Done r)) refl h)));
  forgets = λ z b h. inr (inl (among_tree t d.kept k among (forget_tree t k f z b (sent_performed d.arcs (settled k f).outs z (PeerRecord.Forget t b) refl h))));
  clears = λ h. inl (among_tree t d.kept k among (settled_ends t k f h));
  decides = λ late old n next rolling. settled_decides k f (decision_of d.current);
  damages = λ late old h none n. absurd (cc (none, among_tree t d.kept k among (settled_damages t k f h)));
  keeps = λ h. damage_after t (settled k f).rec d.kept h;
  idle = λ h. elim (idle_after (settled k f).rec d.kept h) [ inl i ↦ i | inr i ↦ idle_stands d.kept k stands (settled_idle k f i) ];
  gone = λ late old h none n. cc (none, among_tree t d.kept k among (settled_ends t k f h));
  logs = λ h. inr (among_tree t d.kept k among (settled_damages t k f h));
  notes = λ b h. inl (notes_after t b (settled k f).rec d.kept h);
  roots = λ b h. inl (elim (roots_after t b (settled k f).rec d.kept h) [ inl i ↦ i | inr i ↦ roots_among t b d.kept k among (settled_roots t b k f i) ]);
  over = λ b late old sound n. inl n;
  kept = λ b sound o. kept b o (is_key o.key k.key) refl;
  stays = λ p b o. inl o;
  begins = λ p b h. absurd (no_begin d.arcs (settled k f).outs t p b (ap (begins_of t) (spoken_words d.arcs (settled k f).outs p (settled_spoken k f))) h);
}
  where
    same : Same found.0 k
    same = same_of found.0 k found.2

    other : {b : BranchId} → (u : Aaid) × (v : BranchId) × (PeerRecord.RecReply t b (RecState.Done Report.None) ≡ PeerRecord.Forget u v) → ⊥
    other w = let h = w.2 in cc (h)

    silent : (z : Addr) (b : BranchId) (r : Report) → (u : Aaid) × (v : BranchId) × (PeerRecord.RecReply t b (RecState.Done r) ≡ PeerRecord.Forget u v) → ⊥
    silent z b r w = let h = w.2 in cc (h)

    kept : (b : BranchId) (o : KeepsAt t d.kept) (v : Bool) → is_key o.key k.key ≡ v → KeepsAt t (kept_after (settled k f).rec d.kept) ⊎ LetsGo e s t b d.kept
    kept b o false i = inl (kept_other (λ x. Unit {0}) t d.kept o (settled k f).rec (settled_key k f o.key (λ eq. cc (i, ap (λ (j : NodeKey). is_key j k.key) (sym eq) ∙ key_self k.key))))
    kept b o true i = by f settling
      where
        one : Some o.kept ≡ Some found.0
        one = sym o.found ∙ ap (find_kept d.kept) (keys_equal o.key k.key i) ∙ found.1

        eq : o.kept ≡ found.0
        eq = let h = one in cc (h)

        commits : is_commit k.side ≡ true
        commits = ap is_commit (sym same.side) ∙ ap (λ (y : Kept). is_commit y.side) (sym eq) ∙ o.commits

        tree : is_aaid t k.key.aaid ≡ true
        tree = ap (λ (y : NodeKey). is_aaid t y.aaid) (sym same.key) ∙ ap (λ (y : Kept). is_aaid t y.key.aaid) (sym eq) ∙ o.tree

        other_key : is_key k.key (branch_key t b) ≡ false → LetsGo e s t b d.kept
        other_key off = Beside (roots_among t b d.kept k among (rw (off, tree) refl))

        by : (g : KeptEvent) → IsSettling e s d k g → KeepsAt t (kept_after (settled k g).rec d.kept) ⊎ LetsGo e s t b d.kept
        by (KeptEvent.Done a c x) w = done_kept e s t b d.kept k a c x o w.5 commits tree other_key
        by KeptEvent.Forget w = on (is_key k.key (branch_key t b)) refl
          where
            on : (v : Bool) → is_key k.key (branch_key t b) ≡ v → KeepsAt t (kept_after (settled k KeptEvent.Forget).rec d.kept) ⊎ LetsGo e s t b d.kept
            on false j = inr (other_key j)
            on true j =
                let eq : branch_key w.1 w.2 ≡ branch_key t b = sym w.4 ∙ keys_equal k.key (branch_key t b) j in
                let u : w.1 ≡ t = ap (λ (y : NodeKey). y.aaid) eq in
                let n : Some w.2 ≡ Some b = ap (λ (y : NodeKey). y.branch) eq in
                let c : w.2 ≡ b = cc (n) in
                inr (Forgets w.0 (w.3 ∙ forget_is w.0 w.1 t w.2 b u c))
        by KeptEvent.Purge w = on (is_key k.key (branch_key t b)) refl
          where
            on : (v : Bool) → is_key k.key (branch_key t b) ≡ v → KeepsAt t (kept_after (settled k KeptEvent.Purge).rec d.kept) ⊎ LetsGo e s t b d.kept
            on false j = inr (other_key j)
            on true j = absurd (cc (w.1 commits, ap is_root_key (keys_equal k.key (branch_key t b) j)))

-- ---- Begin

begun_decision : (who : Who) (d : Digest) (c : Current) (x : Child) → decision_of (with_begun who d c x).current ≡ (if is_nil c.phase then None else c.decision)
begun_decision who d c x = grind arith

clearing_begins : (who : Who) (e : Event) (fall : Bool) (s : Digest) (t : Aaid) (d : Digest) (q : ℕ) → IsClearingMove who e fall s t d (begin_on who q d)
clearing_begins who e fall s t d q = begin_cases (IsClearingMove who e fall s t d) who q d still on
  where
    still : IsClearingMove who e fall s t d (move [] d)
    still = clearing_still who e fall s t d

    on : (c : Current) (a : Arc) → d.current ≡ Some c → find_arc d.arcs q ≡ Some a → may_begin_on who d a ≡ true → IsClearingMove who e fall s t d (begun_over who q d c a)
    on c a now found may = record {
      tells = λ n h. absurd (cc (h, told_performed is_complete_none arcs outs));
      says = λ z b h. absurd (sent_performed arcs outs z (PeerRecord.RecReply t b (RecState.Done Report.None)) refl h);
      spoils = λ z b r some h. absurd (sent_performed arcs outs z (PeerRecord.RecReply t b (RecState.Done r)) refl h);
      forgets = λ z b h. absurd (sent_performed arcs outs z (PeerRecord.Forget t b) refl h);
      clears = λ h. absurd (cc (h));
      decides = λ late old n next rolling. begun_decision who (with_mark_drawn d) c (next_child who d a) ∙ rw (late c now) (ap decision_of (sym now));
      damages = λ late old h k n. absurd (cc (h));
      keeps = λ h. inl h;
      idle = λ h. h;
      gone = λ late old h k n. cc (h);
      logs = λ h. absurd (cc (h));
      notes = λ b h. inl h;
      roots = λ b h. inl h;
      over = λ b late old sound n. inl (over (late c now) (ap (is_now t) (sym now) ∙ n));
      kept = λ b sound k. inl k;
      stays = λ p b k. inl (row_begun is_clear_branch who q d c a now may t p b k);
      begins = λ p b h. inl (row_begins is_clear_branch (λ x. refl) who q d c a now found may t p b h);
    }
      where
        outs : List TxOut
        outs = TxOut.Carry q (begin_word who d c a) ∷ []

        arcs : List Arc
        arcs = begin_arcs q d a

        t0 : Transaction
        t0 = seen who d.arcs c

        x : Row
        x = record { branch = fresh_branch (next_child who d a); live = true; ends = false }

        u : Transaction
        u = record t0 { rows = t0.rows ++ x ∷ [] }

        over : is_nil c.phase ≡ false → is_aaid t (aaid_of c.key) ≡ true → is_now t (remaining u) ≡ true
        over late tree = go (remaining u) refl
          where
            go : (o : Option Current) → remaining u ≡ o → is_now t o ≡ true
            go None j = absurd (grind (arith, late, j))
            go (Some y) j = let l = left_is u y j in ap (λ (k : Key). is_aaid t (aaid_of k)) l.0 ∙ tree

-- ---- chains

goes_back : (who : Who) (e : Event) (fall : Bool) (s : Digest) (t : Aaid) (b : BranchId) (d : Digest) (a : Move) → IsClearingMove who e fall s t d a → LetsGo e s t b a.next.kept → LetsGo e s t b d.kept
goes_back who e fall s t b d a one (Forgets z i) = Forgets z i
goes_back who e fall s t b d a one (Beside_here c i j k) = Beside_here c i j k
goes_back who e fall s t b d a one (Noted h) = elim (one.notes b h) [ inl i ↦ Noted i | inr i ↦ Forgets i.0 i.1 ]
goes_back who e fall s t b d a one (Beside h) = elim (one.roots b h) [ inl i ↦ Beside i | inr i ↦ Beside_here i.0 i.1 i.2 i.3 ]

clearing_then : (who : Who) (e : Event) (fall : Bool) (s : Digest) (t : Aaid) (d : Digest) (a : Move) (f : Digest → Move) → IsTreed who s fall t 0 d a → IsTreed who s fall t 0 a.next (f a.next) → IsSoundMove who d a → (a.rec ≡ None) ⊎ ((f a.next).rec ≡ None)
    → IsClearingMove who e fall s t d a → IsClearingMove who e fall s t a.next (f a.next) → IsClearingMove who e fall s t d (followed a f)
clearing_then who e fall s t d a f tree_a tree_b sound quiet one two = record {
  tells = λ n h. elim (or_case (out_tells is_complete_none a.outs) (out_tells is_complete_none b.outs) (sym (told_append is_complete_none a.outs b.outs) ∙ h)) [
    | inl i ↦ from_a (ends_tree t) refl which (one.tells n i)
    | inr i ↦ from_b (ends_tree t) refl which (two.tells n i)
  ];
  says = λ z c h. elim (sent_split a.outs b.outs z (PeerRecord.RecReply t c (RecState.Done Report.None)) h) [
    | inl i ↦ elim (one.says z c i) [ inl k ↦ inl (k.0, k.1, from_a (ends_tree t) refl which k.2) | inr k ↦ inr k ]
    | inr i ↦ elim (two.says z c i) [
      | inl k ↦ inl (k.0, k.1, from_b (ends_tree t) refl which k.2)
      | inr k ↦ elim k [ inl l ↦ inr (inl (one.idle l)) | inr l ↦ inr (inr l) ]
    ]
  ];
  spoils = λ z c r some h. elim (sent_split a.outs b.outs z (PeerRecord.RecReply t c (RecState.Done r)) h) [
    | inl i ↦ elim (one.spoils z c r some i) [ inl k ↦ inl (from_a (damages_tree t) refl which k) | inr k ↦ inr k ]
    | inr i ↦ elim (two.spoils z c r some i) [
      | inl k ↦ inl (from_b (damages_tree t) refl which k)
      | inr k ↦ elim k [
        | inl l ↦ elim (one.keeps l) [ inl j ↦ inr (inl j) | inr j ↦ inl (from_a (damages_tree t) refl which j) ]
        | inr l ↦ inr (inr l)
      ]
    ]
  ];
  forgets = λ z c h. elim (sent_split a.outs b.outs z (PeerRecord.Forget t c) h) [
    | inl i ↦ elim (one.forgets z c i) [ inl k ↦ inl (from_a (damages_tree t) refl which k) | inr k ↦ inr k ]
    | inr i ↦ elim (two.forgets z c i) [
      | inl k ↦ inl (from_b (damages_tree t) refl which k)
      | inr k ↦ elim k [
        | inl l ↦ elim (one.keeps l) [ inl j ↦ inr (inl j) | inr j ↦ inl (from_a (damages_tree t) refl which j) ]
        | inr l ↦ inr (inr l)
      ]
    ]
  ];
  clears = λ h. clears h which;
  decides = λ late old n next rolling. decides late old n next rolling which;
  damages = λ late old h none n. damages late old h none n which;
  keeps = λ h. elim (two.keeps h) [
    | inr i ↦ inr (from_b (damages_tree t) refl which i)
    | inl i ↦ elim (one.keeps i) [ inl j ↦ inl j | inr j ↦ inr (from_a (damages_tree t) refl which j) ]
  ];
  idle = λ h. one.idle (two.idle h);
  gone = λ late old h none n. gone late old h none n which;
  logs = λ h. logs h which;
  notes = λ c h. elim (two.notes c h) [ inl i ↦ one.notes c i | inr i ↦ inr i ];
  roots = λ c h. elim (two.roots c h) [ inl i ↦ one.roots c i | inr i ↦ inr i ];
  over = λ c late old is n. over c late old is n;
  kept = λ c is k. kept c is k;
  stays = λ p c k. on p c (one.stays p c k);
  begins = λ p c h. elim (begins_split t p c a.outs b.outs h) [ inl i ↦ on p c (one.begins p c i) | inr i ↦ second p c (two.begins p c i) ];
}
  where
    b : Move
    b = f a.next

    m : Move
    m = followed a f

    which : (a.rec ≡ None) × (m.rec ≡ b.rec) ⊎ (b.rec ≡ None) × (m.rec ≡ a.rec)
    which = later_rec a.rec b.rec quiet

    from_a : (g : Option LogRec → Bool) → g None ≡ false → (a.rec ≡ None) × (m.rec ≡ b.rec) ⊎ (b.rec ≡ None) × (m.rec ≡ a.rec) → g a.rec ≡ true → g m.rec ≡ true
    from_a g none (inl w) h = absurd (cc (ap g w.0, none, h))
    from_a g none (inr w) h = ap g w.1 ∙ h

    from_b : (g : Option LogRec → Bool) → g None ≡ false → (a.rec ≡ None) × (m.rec ≡ b.rec) ⊎ (b.rec ≡ None) × (m.rec ≡ a.rec) → g b.rec ≡ true → g m.rec ≡ true
    from_b g none (inl w) h = ap g w.1 ∙ h
    from_b g none (inr w) h = absurd (cc (ap g w.0, none, h))

    aged : is_old who d t.mark ≡ true → is_old who a.next t.mark ≡ true
    aged old = old_kept who d a.next t.mark tree_a.boot tree_a.drawn old

    Clears : Digest → Type 0
    Clears g = (keeps_tree t g.kept ≡ true) ⊎ (c : Current) × (s.current ≡ Some c) × (is_aaid t (aaid_of c.key) ≡ true) × (is_committing c.phase ≡ true) × (is_for_rollback c.decision ≡ false)

    clears : ends_tree t m.rec ≡ true → (a.rec ≡ None) × (m.rec ≡ b.rec) ⊎ (b.rec ≡ None) × (m.rec ≡ a.rec)
        → (keeps_tree t d.kept ≡ true) ⊎ (c : Current) × (s.current ≡ Some c) × (is_aaid t (aaid_of c.key) ≡ true) × (is_committing c.phase ≡ true) × (is_for_rollback c.decision ≡ false)
    clears h (inr w) = one.clears (ap (ends_tree t) (sym w.1) ∙ h)
    clears h (inl w) = elim (two.clears (ap (ends_tree t) (sym w.1) ∙ h)) [
      | inl k ↦ elim (one.keeps k) [ inl j ↦ inl j | inr j ↦ absurd (cc (ap (damages_tree t) w.0, j)) ]
      | inr k ↦ inr k
    ]

    mid : IsLate d → is_old who d t.mark ≡ true → is_now t b.next.current ≡ true → is_now t a.next.current ≡ true
    mid late old n = elim (tree_b.enters (tree_a.late late) n) [ inl i ↦ i | inr x ↦ absurd (drawn_new who a.next b.next t x (aged old)) ]

    decides : IsLate d → is_old who d t.mark ≡ true → is_now t d.current ≡ true → is_now t b.next.current ≡ true → is_rolling (phase_of b.next) ≡ false → (a.rec ≡ None) × (m.rec ≡ b.rec) ⊎ (b.rec ≡ None) × (m.rec ≡ a.rec)
        → decision_of b.next.current ≡ decided_by m.rec (decision_of d.current)
    decides late old n next rolling w = by w
      where
        here : is_now t a.next.current ≡ true
        here = mid late old next

        calm : is_rolling (phase_of a.next) ≡ false
        calm = go (is_rolling (phase_of a.next)) refl
          where
            last : (c : Current) × (b.next.current ≡ Some c) × (is_aaid t (aaid_of c.key) ≡ true)
            last = now_some t b.next.current next

            go : (v : Bool) → is_rolling (phase_of a.next) ≡ v → v ≡ false
            go false i = refl
            go true i =
                absurd (cc (rolling, to_rolling (phase_of a.next) (phase_of b.next) (tree_b.moves (tree_a.late late) (λ _. aged old) here next) i (ap is_nil (phase_at b.next last.0 last.1) ∙ tree_b.late (tree_a.late late) last.0 last.1)))

        first : decision_of a.next.current ≡ decided_by a.rec (decision_of d.current)
        first = one.decides late old n here calm

        second : decision_of b.next.current ≡ decided_by b.rec (decision_of a.next.current)
        second = two.decides (tree_a.late late) (aged old) here next rolling

        by : (a.rec ≡ None) × (m.rec ≡ b.rec) ⊎ (b.rec ≡ None) × (m.rec ≡ a.rec) → decision_of b.next.current ≡ decided_by m.rec (decision_of d.current)
        by (inl w) = second ∙ ap (decided_by b.rec) (first ∙ ap (λ (r : Option LogRec). decided_by r (decision_of d.current)) w.0) ∙ ap (λ (r : Option LogRec). decided_by r (decision_of d.current)) (sym w.1)
        by (inr w) = second ∙ ap (λ (r : Option LogRec). decided_by r (decision_of a.next.current)) w.0 ∙ first ∙ ap (λ (r : Option LogRec). decided_by r (decision_of d.current)) (sym w.1)

    damages : IsLate d → is_old who d t.mark ≡ true → damages_tree t m.rec ≡ true → keeps_tree t d.kept ≡ false → is_now t b.next.current ≡ true → (a.rec ≡ None) × (m.rec ≡ b.rec) ⊎ (b.rec ≡ None) × (m.rec ≡ a.rec) → is_rolling (phase_of b.next) ≡ true
    damages late old h none n (inl w) = two.damages (tree_a.late late) (aged old) (ap (damages_tree t) (sym w.1) ∙ h) (side (keeps_tree t a.next.kept) refl) n
      where
        side : (v : Bool) → keeps_tree t a.next.kept ≡ v → keeps_tree t a.next.kept ≡ false
        side false j = j
        side true j = elim (one.keeps j) [ inl k ↦ absurd (cc (none, k)) | inr k ↦ absurd (cc (ap (damages_tree t) w.0, k)) ]
    damages late old h none n (inr w) =
        let here = mid late old n in
        let last = now_some t b.next.current n in
        to_rolling (phase_of a.next) (phase_of b.next) (tree_b.moves (tree_a.late late) (λ _. aged old) here n) (one.damages late old (ap (damages_tree t) (sym w.1) ∙ h) none here) (ap is_nil (phase_at b.next last.0 last.1) ∙ tree_b.late (tree_a.late late) last.0 last.1)

    gone : IsLate d → is_old who d t.mark ≡ true → ends_tree t m.rec ≡ true → keeps_tree t d.kept ≡ false → is_now t b.next.current ≡ true → (a.rec ≡ None) × (m.rec ≡ b.rec) ⊎ (b.rec ≡ None) × (m.rec ≡ a.rec) → ⊥
    gone late old h none n (inl w) = two.gone (tree_a.late late) (aged old) (ap (ends_tree t) (sym w.1) ∙ h) (side (keeps_tree t a.next.kept) refl) n
      where
        side : (v : Bool) → keeps_tree t a.next.kept ≡ v → keeps_tree t a.next.kept ≡ false
        side false j = j
        side true j = elim (one.keeps j) [ inl k ↦ absurd (cc (none, k)) | inr k ↦ absurd (cc (ap (damages_tree t) w.0, k)) ]
    gone late old h none n (inr w) = one.gone late old (ap (ends_tree t) (sym w.1) ∙ h) none (mid late old n)

    logs : damages_tree t m.rec ≡ true → (a.rec ≡ None) × (m.rec ≡ b.rec) ⊎ (b.rec ≡ None) × (m.rec ≡ a.rec) → (is_now t s.current ≡ true) ⊎ (keeps_tree t d.kept ≡ true)
    logs h (inr w) = one.logs (ap (damages_tree t) (sym w.1) ∙ h)
    logs h (inl w) = elim (two.logs (ap (damages_tree t) (sym w.1) ∙ h)) [
      | inl n ↦ inl n
      | inr k ↦ elim (one.keeps k) [ inl j ↦ inr j | inr j ↦ absurd (cc (ap (damages_tree t) w.0, j)) ]
    ]

    kept : (c : BranchId) → IsSound who d → KeepsAt t d.kept → KeepsAt t b.next.kept ⊎ LetsGo e s t c d.kept
    kept c is k = elim (one.kept c is k) [
      | inr i ↦ inr i
      | inl i ↦ elim (two.kept c (sound is).0 i) [ inl j ↦ inl j | inr j ↦ inr (goes_back who e fall s t c d a one j) ]
    ]

    over : (c : BranchId) → IsLate d → is_old who d t.mark ≡ true → IsSound who d → is_now t d.current ≡ true → (is_now t b.next.current ≡ true) ⊎ EndsAt e fall s t c d m
    over c late old is n = elim (one.over c late old is n) [
      | inr i ↦ inr (first i)
      | inl i ↦ elim (two.over c (tree_a.late late) (aged old) (sound is).0 i) [ inl j ↦ inl j | inr j ↦ inr (second i j) ]
    ]
      where
        first : EndsAt e fall s t c d a → EndsAt e fall s t c d m
        first (It_rolls i j) = It_rolls i j
        first (Was_rolling i) = Was_rolling i
        first (It_leaves i j) = It_leaves i j
        first (It_clears i) = It_clears (from_a (ends_tree t) refl which i)
        first (Is_gone i) = Is_gone i
        first (Is_kept i) = elim (two.kept c (sound is).0 i) [ inl j ↦ Is_kept j | inr j ↦ Is_gone (goes_back who e fall s t c d a one j) ]

        second : is_now t a.next.current ≡ true → EndsAt e fall s t c a.next b → EndsAt e fall s t c d m
        second here (It_rolls i j) = It_rolls i j
        second here (Was_rolling i) = elim (or_case (is_now t d.current && is_rolling (phase_of d)) (is_now t s.current && fall) (tree_a.rolling late here i)) [
          | inl j ↦ Was_rolling (and_right (is_now t d.current) (is_rolling (phase_of d)) j)
          | inr j ↦ It_rolls (and_left (is_now t s.current) fall j) (and_right (is_now t s.current) fall j)
        ]
        second here (It_leaves i j) = It_leaves i j
        second here (It_clears i) = It_clears (from_b (ends_tree t) refl which i)
        second here (Is_gone i) = Is_gone (goes_back who e fall s t c d a one i)
        second here (Is_kept i) = Is_kept i

    second : (p : ℕ) (c : BranchId) → OpenRow t p c b.next.current ⊎ SettlesAt who e fall s t p c ⊎ (damages_tree t b.rec ≡ true) → OpenRow t p c b.next.current ⊎ SettlesAt who e fall s t p c ⊎ (damages_tree t m.rec ≡ true)
    second p c (inl i) = inl i
    second p c (inr (inl i)) = inr (inl i)
    second p c (inr (inr i)) = inr (inr (from_b (damages_tree t) refl which i))

    on : (p : ℕ) (c : BranchId) → OpenRow t p c a.next.current ⊎ SettlesAt who e fall s t p c ⊎ (damages_tree t a.rec ≡ true) → OpenRow t p c b.next.current ⊎ SettlesAt who e fall s t p c ⊎ (damages_tree t m.rec ≡ true)
    on p c (inl i) = second p c (two.stays p c i)
    on p c (inr (inl i)) = inr (inl i)
    on p c (inr (inr i)) = inr (inr (from_a (damages_tree t) refl which i))

-- ---- the steps

abbrev IsClearingAll : Who → Event → Bool → Digest → Aaid → Digest → Move → Type 0
IsClearingAll who e fall s t d m = IsTreed who s fall t 0 d m × IsSoundMove who d m × IsClearingMove who e fall s t d m

-- of the same tree, where only what is no matter of it differs
clearing_alike : (who : Who) (e : Event) (fall : Bool) (s : Digest) (t : Aaid) (d g : Digest) (m : Move) → g.current ≡ d.current → g.kept ≡ d.kept → g.boot ≡ d.boot → g.drawn ≡ d.drawn → (IsSound who d → IsSound who g) → IsClearingMove who e fall s t g m → IsClearingMove who e fall s t d m
clearing_alike who e fall s t d g m cur kept boot drawn sound one = record {
  tells = one.tells;
  says = λ z b h. elim (one.says z b h) [ inl i ↦ inl i | inr i ↦ elim i [ inl j ↦ inr (inl (ap keeps_idle (sym kept) ∙ j)) | inr j ↦ inr (inr j) ] ];
  spoils = λ z b r some h. elim (one.spoils z b r some h) [ inl i ↦ inl i | inr i ↦ elim i [ inl j ↦ inr (inl (ap (keeps_tree t) (sym kept) ∙ j)) | inr j ↦ inr (inr j) ] ];
  forgets = λ z b h. elim (one.forgets z b h) [ inl i ↦ inl i | inr i ↦ elim i [ inl j ↦ inr (inl (ap (keeps_tree t) (sym kept) ∙ j)) | inr j ↦ inr (inr j) ] ];
  clears = λ h. elim (one.clears h) [ inl i ↦ inl (ap (keeps_tree t) (sym kept) ∙ i) | inr i ↦ inr i ];
  decides = λ late old n next rolling. one.decides (late_g late) (old_g old) (ap (is_now t) cur ∙ n) next rolling ∙ ap (λ (o : Option Current). decided_by m.rec (decision_of o)) cur;
  damages = λ late old h none n. one.damages (late_g late) (old_g old) h (ap (keeps_tree t) kept ∙ none) n;
  keeps = λ h. elim (one.keeps h) [ inl i ↦ inl (ap (keeps_tree t) (sym kept) ∙ i) | inr i ↦ inr i ];
  idle = λ h. ap keeps_idle (sym kept) ∙ one.idle h;
  gone = λ late old h none n. one.gone (late_g late) (old_g old) h (ap (keeps_tree t) kept ∙ none) n;
  logs = λ h. elim (one.logs h) [ inl i ↦ inl i | inr i ↦ inr (ap (keeps_tree t) (sym kept) ∙ i) ];
  notes = λ b h. elim (one.notes b h) [ inl i ↦ inl (ap (notes_forget t b) (sym kept) ∙ i) | inr i ↦ inr i ];
  roots = λ b h. elim (one.roots b h) [ inl i ↦ inl (ap (keeps_beside t b) (sym kept) ∙ i) | inr i ↦ inr i ];
  over = λ b late old is n. elim (one.over b (late_g late) (old_g old) (sound is) (ap (is_now t) cur ∙ n)) [ inl i ↦ inl i | inr i ↦ inr (ends b i) ];
  kept = λ b is k. elim (one.kept b (sound is) (subst (λ (ks : List Kept). KeepsAt t ks) (sym kept) k)) [ inl i ↦ inl i | inr i ↦ inr (subst (λ (ks : List Kept). LetsGo e s t b ks) kept i) ];
  stays = λ p b k. one.stays p b (subst (λ (o : Option Current). OpenRow t p b o) (sym cur) k);
  begins = one.begins;
}
  where
    late_g : IsLate d → IsLate g
    late_g late c i = late c (sym cur ∙ i)

    old_g : is_old who d t.mark ≡ true → is_old who g t.mark ≡ true
    old_g old = old_kept who d g t.mark boot (same_le d.drawn g.drawn drawn) old
      where
        same_le : (x y : ℕ) → y ≡ x → x ≤ y
        same_le x y h = omega (arith, h)

    ends : (b : BranchId) → EndsAt e fall s t b g m → EndsAt e fall s t b d m
    ends b (It_rolls i j) = It_rolls i j
    ends b (Was_rolling i) = Was_rolling (ap (λ (o : Option Current). is_rolling (elim o as (λ _. Phase) [ None ↦ Phase.Nil | Some c ↦ c.phase ])) (sym cur) ∙ i)
    ends b (It_leaves i j) = It_leaves i j
    ends b (It_clears i) = It_clears i
    ends b (Is_kept i) = Is_kept i
    ends b (Is_gone i) = Is_gone (subst (λ (ks : List Kept). LetsGo e s t b ks) kept i)

-- what is noted of the kept transactions
clearing_noted : (who : Who) (e : Event) (fall : Bool) (s : Digest) (t : Aaid) (d : Digest) (ks : List Kept) (m : Move) → not_forgotten ks ≡ not_forgotten d.kept → IsNotedBy e d ks → IsClearingMove who e fall s t (record d { kept = ks }) m → IsClearingMove who e fall s t d m
clearing_noted who e fall s t d ks m same noted one = record {
  tells = one.tells;
  says = λ z b h. elim (one.says z b h) [ inl i ↦ inl i | inr i ↦ elim i [ inl j ↦ inr (inl (idle j)) | inr j ↦ inr (inr j) ] ];
  spoils = λ z b r some h. elim (one.spoils z b r some h) [ inl i ↦ inl i | inr i ↦ elim i [ inl j ↦ inr (inl (tree j)) | inr j ↦ inr (inr j) ] ];
  forgets = λ z b h. elim (one.forgets z b h) [ inl i ↦ inl i | inr i ↦ elim i [ inl j ↦ inr (inl (tree j)) | inr j ↦ inr (inr j) ] ];
  clears = λ h. elim (one.clears h) [ inl i ↦ inl (tree i) | inr i ↦ inr i ];
  decides = one.decides;
  damages = λ late old h none n. one.damages late old h (off (keeps_tree t ks) refl none) n;
  keeps = λ h. elim (one.keeps h) [ inl i ↦ inl (tree i) | inr i ↦ inr i ];
  idle = λ h. idle (one.idle h);
  gone = λ late old h none n. one.gone late old h (off (keeps_tree t ks) refl none) n;
  logs = λ h. elim (one.logs h) [ inl i ↦ inl i | inr i ↦ inr (tree i) ];
  notes = λ b h. elim (one.notes b h) [ inl i ↦ forgets b e noted i | inr i ↦ inr i ];
  roots = λ b h. elim (one.roots b h) [ inl i ↦ inl (root b i) | inr i ↦ inr i ];
  over = λ b late old is n. elim (one.over b late old (sound_noted who d ks same is) n) [ inl i ↦ inl i | inr i ↦ inr (ends b i) ];
  kept = λ b is k. elim (one.kept b (sound_noted who d ks same is) (keeps k)) [ inl i ↦ inl i | inr i ↦ inr (goes b i) ];
  stays = one.stays;
  begins = one.begins;
}
  where
    idle : keeps_idle ks ≡ true → keeps_idle d.kept ≡ true
    idle h = sym (idle_noted d.kept) ∙ ap keeps_idle (sym same) ∙ idle_noted ks ∙ h

    tree : keeps_tree t ks ≡ true → keeps_tree t d.kept ≡ true
    tree h = sym (forgotten_tree t d.kept) ∙ ap (keeps_tree t) (sym same) ∙ forgotten_tree t ks ∙ h

    root : (b : BranchId) → keeps_beside t b ks ≡ true → keeps_beside t b d.kept ≡ true
    root b h = sym (roots_noted t b d.kept) ∙ ap (keeps_beside t b) (sym same) ∙ roots_noted t b ks ∙ h

    off : (v : Bool) → keeps_tree t ks ≡ v → keeps_tree t d.kept ≡ false → keeps_tree t ks ≡ false
    off false i none = i
    off true i none = absurd (cc (none, tree i))

    forgets : (b : BranchId) (e : Event) → IsNotedBy e d ks → notes_forget t b ks ≡ true → (notes_forget t b d.kept ≡ true) ⊎ (a : Addr) × (e ≡ Event.Arrive a (PeerRecord.Forget t b))
    forgets b (Event.Arrive from (PeerRecord.Forget u c)) is h = elim (notes_with t b d.kept (branch_key u c) (ap (notes_forget t b) (sym is) ∙ h)) [
      | inl i ↦ inl i
      | inr i ↦
          (let eq : branch_key u c ≡ branch_key t b = keys_equal (branch_key u c) (branch_key t b) i in
          let v : u ≡ t = ap (λ (y : NodeKey). y.aaid) eq in
          let n : Some c ≡ Some b = ap (λ (y : NodeKey). y.branch) eq in
          let w : c ≡ b = cc (n) in
          inr (from, forget_is from u t c b v w))
    ]
    forgets b e is h = absurd is

    goes : (b : BranchId) → LetsGo e s t b ks → LetsGo e s t b d.kept
    goes b (Forgets z i) = Forgets z i
    goes b (Beside_here c i j k) = Beside_here c i j k
    goes b (Noted h) = elim (forgets b e noted h) [ inl i ↦ Noted i | inr i ↦ Forgets i.0 i.1 ]
    goes b (Beside h) = Beside (root b h)

    ends : (b : BranchId) → EndsAt e fall s t b (record d { kept = ks }) m → EndsAt e fall s t b d m
    ends b (It_rolls i j) = It_rolls i j
    ends b (Was_rolling i) = Was_rolling i
    ends b (It_leaves i j) = It_leaves i j
    ends b (It_clears i) = It_clears i
    ends b (Is_kept i) = Is_kept i
    ends b (Is_gone i) = Is_gone (goes b i)

    keeps : KeepsAt t d.kept → KeepsAt t ks
    keeps k = kept_unnoted (λ x. Unit {0}) (λ x h. h) t ks (subst (λ (l : List Kept). KeepsAt t l) (sym same) (kept_noted (λ x. Unit {0}) (λ x h. h) t d.kept k))

clearing_root : (who : Who) (e : Event) (fall : Bool) (s : Digest) (t : Aaid) (d : Digest) (m : Move) → is_nil (phase_of d) ≡ true → IsClearingMove who e fall s t (record (with_mark_drawn d) { current = Some (fresh_current (Root (next_tree who d))) }) m → IsClearingMove who e fall s t d m
clearing_root who e fall s t d m nil one = record {
  tells = one.tells;
  says = one.says;
  spoils = one.spoils;
  forgets = one.forgets;
  clears = one.clears;
  decides = λ late old n next rolling. absurd (cc (n, nil_now d t late nil));
  damages = λ late old h none n. one.damages (late_fresh _) (old_kept who d (with_mark_drawn d) t.mark refl (more d.drawn) old) h none n;
  keeps = one.keeps;
  idle = one.idle;
  notes = one.notes;
  roots = one.roots;
  gone = λ late old h none n. one.gone (late_fresh _) (old_kept who d (with_mark_drawn d) t.mark refl (more d.drawn) old) h none n;
  logs = one.logs;
  over = λ b late old is n. absurd (cc (n, nil_now d t late nil));
  kept = λ b is k. one.kept b (sound_root who d is) k;
  stays = λ p b k. absurd (nil_open p b k);
  begins = one.begins;
}
  where
    more : (n : ℕ) → n ≤ suc n
    more n = omega arith

    nil_open : (p : ℕ) (b : BranchId) → OpenRow t p b d.current → ⊥
    nil_open p b k =
        let on : is_nil k.current.phase ≡ true = rw (k.at, phase_of) at nil in
        cc (late_standing k.current.phase k.phase, on)

clearing_steps : (who : Who) (e : Event) (fall : Bool) (s : Digest) (t : Aaid) → ((c : Current) (f : TxEvent) (arcs : List Arc) → s.current ≡ Some c → IsAsked e c f → falls f (seen who arcs c) ≡ true → fall ≡ true) → Steps who e s (IsClearingAll who e fall s t)
clearing_steps who e fall s t so = record {
  still = λ d. (tree.still d, sound.still d, clearing_still who e fall s t d);
  chain = λ d a f one two quiet. (tree.chain d a f one.0 two.0 quiet, sound.chain d a f one.1 two.1 quiet, clearing_then who e fall s t d a f one.0 two.0 one.1 quiet one.2 two.2);
  speaks = λ d outs h said told last. (tree.speaks d outs h said told last, sound.speaks d outs h said told last, clearing_perform who e fall s t d outs h said.1);
  changes_dialogue = λ d q f m by one. (tree.changes_dialogue d q f m by one.0, sound.changes_dialogue d q f m by one.1, clearing_alike who e fall s t d _ m refl refl refl refl (λ i. i) one.2);
  drops_arc = λ d q m at one. (tree.drops_arc d q m at one.0, sound.drops_arc d q m at one.1, clearing_alike who e fall s t d _ m refl refl refl refl (λ i. i) one.2);
  notes_kept = λ d ks m held noted one. (tree.notes_kept d ks m held noted one.0, sound.notes_kept d ks m held noted one.1, clearing_noted who e fall s t d ks m held.1 noted one.2);
  keeps = λ d k f held. (tree.keeps d k f held, sound.keeps d k f held, clearing_keep who e fall s t d k f held.1 held.2 held.3 held.4);
  turns = λ d c f now at asked put gone like alike. (tree.turns d c f now at asked put gone like alike, sound.turns d c f now at asked put gone like alike, clearing_turned who e fall s t f d c (so c f d.arcs at asked) now at asked put);
  begins = λ d q may. (tree.begins d q may, sound.begins d q may, clearing_begins who e fall s t d q);
  roots = λ d m nil may says one. (tree.roots d m nil may says one.0, sound.roots d m nil may says one.1, clearing_root who e fall s t d m nil one.2);
}
  where
    tree : Steps who e s (IsTreed who s fall t 0)
    tree = plain_steps who e s (IsTreed who s fall t 0) (treed_moves who e s fall t 0 so)

    sound : Steps who e s (IsSoundMove who)
    sound = plain_steps who e s (IsSoundMove who) (sound_moves who e s)

-- an event of a node
pub clearing_event : (who : Who) (d : Digest) (e : Event) (t : Aaid) → IsLate d → refusal who d e ≡ None → IsClearingMove who e (rolls who d e) (prelude who d e) t (prelude who d e) (action who d e)
clearing_event who d e t late ok =
    (step_move who d e (IsClearingAll who e (rolls who d e) (prelude who d e) t) (clearing_steps who e (rolls who d e) (prelude who d e) t (λ c f arcs at asked h. rolls_so who d e ok c f arcs at asked h)) late ok).2
