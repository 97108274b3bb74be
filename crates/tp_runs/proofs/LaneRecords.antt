-- The records of a lane are those that its worker forces alone.
use Rattle.std.proofs.Common.{◌≡◌, ℕ, ◌%◌, ◌==◌, Bool, true, false, refl, ap, sym, subst, ◌∙◌, arith, Option, Some, None, List, [], ◌∷◌, ◌++◌}
use Rattle.std.proofs.lemmas.Bool.Decides.{nat_tests}
use Rattle.tp_records.specs.declared.body.Event.{Event as Given}
use Rattle.tp_logrec.specs.declared.record.LogRec.{LogRec}
use Rattle.tp_model.specs.Parts.{Who, Origin, Event, Entry, Answer, Digest}
use Rattle.tp_model.specs.declared.recovery.Kept.{Kept}
use Rattle.tp_model.specs.Recovery.{kept_after}
use Rattle.tp_model.specs.Events.{refusal, action, kept_from, started}
use Rattle.tp_model.specs.History.{digest, answer}
use Rattle.tp_model.specs.NodeRun.{Opening, is_record_at, records_at, origin_at, Past, history_of, Refuses, Is, asked, node_of, NodeRun, entry_record, with_entry, run_from, AskedEvent}
use Rattle.tp_model.specs.Lanes.{lane, records_in, IsOwnHistory}
use Rattle.tp_steps.specs.Moves.{prelude, IsLate}
use Rattle.tp_steps.proofs.every.EveryEvent.{every_move}
use Rattle.tp_steps.proofs.every.Answers.{Accepted, accepted}
use Rattle.tp_histories.proofs.trees.Late.{late_started, late_event}
use Rattle.tp_histories.proofs.log.KeptLog.{kept_prelude}
use Rattle.tp_steps.proofs.log.OwnRecords.{IsOwnRec, AreAt, IsAtMove, at_after, at_noted, at_unnoted, at_moves}
use Rattle.tp_runs.proofs.Lanes.{given, run_step, past_with, past_more, Agree, asked_at, agree_mine, agree_other, lane_mine, lane_other, lane_outputs}

-- ---- what is known of a node of a run

pub record IsWell (n : ℕ) (d : Digest) : Type 0 where
  pub late : IsLate d
  pub kept : AreAt n d.kept

rec_at : (n : ℕ) (r : LogRec) → is_record_at n r ≡ true → IsOwnRec n (Some r)
rec_at n (LogRec.Boot m) h = absurd cc
rec_at n _ h = grind (arith, nat_tests, h)

kept_at : (n : ℕ) (rs : List LogRec) (ks : List Kept) → AreAt n ks → AreAt n (kept_from ks (records_at n rs))
kept_at n [] ks h = h
kept_at n (r ∷ rs) ks h = go (is_record_at n r) refl (kept_at n rs)
  where
    go : (b : Bool) → is_record_at n r ≡ b → ((ks : List Kept) → AreAt n ks → AreAt n (kept_from ks (records_at n rs))) → AreAt n (kept_from ks (records_at n (r ∷ rs)))
    go true i rest = rw (i, records_at) (rest (kept_after (Some r) ks) (at_after n (Some r) ks h (rec_at n r i)))
    go false i rest = rw (i, records_at) (rest ks h)

well_started : (o : Opening) (n : ℕ) → IsWell n (digest (origin_at o n) [])
unfolding started
well_started o n = record { late = late_started (origin_at o n).start; kept = kept_at n o.records [] tt }

well_moved : (who : Who) (d : Digest) (e : Event) → IsWell who.node d → refusal who d e ≡ None → IsOwnRec who.node (action who d e).rec × AreAt who.node (action who d e).next.kept
well_moved who d e well ok =
    every_move who d e (IsAtMove who.node) (at_moves who e (prelude who d e)) well.late ok
    (at_unnoted who.node (prelude who d e).kept (subst (AreAt who.node) (sym (kept_prelude who d e).0) (at_noted who.node d.kept well.kept)))

-- an entry that the history gains has a record of the node, and all stays well
abbrev IsOwnEntry : ℕ → Option Entry → Type 0
IsOwnEntry n None = Unit {0}
IsOwnEntry n (Some y) = IsOwnRec n y.rec

gained : (o : Origin) (h : List Entry) (e : Event) (y : Entry) → IsWell o.who.node (digest o h) → (answer o h e).entry ≡ Some y → IsOwnRec o.who.node y.rec × IsWell o.who.node (digest o (y ∷ h))
gained o h e y well is =
    let a : Accepted o h e y = accepted o h e y is in
    let both = well_moved o.who (digest o h) a.event well a.ok in
    let late : IsLate (action o.who (digest o h) a.event).next = late_event o.who (digest o h) a.event well.late a.ok in
    (subst (λ (x : Entry). IsOwnRec o.who.node x.rec) (sym a.is) both.0, subst (λ (x : Entry). IsWell o.who.node (digest o (x ∷ h))) (sym a.is) (record { late = late; kept = both.1 }))

abbrev AllWell : Opening → List Past → Type 0
AllWell o ps = (n : ℕ) → IsWell n (digest (origin_at o n) (history_of ps n))

own_gained : (o : Opening) (ps : List Past) (n : ℕ) (e : Event) → AllWell o ps → IsOwnEntry n (given o ps n e).entry × AllWell o (with_entry ps n (given o ps n e).entry)
own_gained o ps n e well = go (given o ps n e).entry refl
  where
    go : (y : Option Entry) → (given o ps n e).entry ≡ y → IsOwnEntry n y × AllWell o (with_entry ps n y)
    go None i = (tt, well)
    go (Some y) i =
        let both = gained (origin_at o n) (history_of ps n) e y (well n) i in
        (both.0, λ m. at m (n == m) refl both.1)
      where
        at : (m : ℕ) (b : Bool) → (n == m) ≡ b → IsWell n (digest (origin_at o n) (y ∷ history_of ps n)) → IsWell m (digest (origin_at o m) (history_of (with_entry ps n (Some y)) m))
        at m false j w = subst (λ (l : List Entry). IsWell m (digest (origin_at o m) l)) (sym (past_more ps n (Some y) m j)) (well m)
        at m true j w =
            let same : n ≡ m = grind (arith, nat_tests, j) in
            let here : history_of (with_entry ps n (Some y)) m ≡ y ∷ history_of ps n = past_with ps n (y ∷ history_of ps n) m ∙ rw j refl in
            subst (λ (l : List Entry). IsWell m (digest (origin_at o m) l)) (sym here) (subst (λ (k : ℕ). IsWell k (digest (origin_at o k) (y ∷ history_of ps n))) same w)

-- ---- records

rec_mine : (n i w : ℕ) (r : LogRec) (rs : List LogRec) → (n % w == i) ≡ true → IsOwnRec n (Some r) → records_in i w (r ∷ rs) ≡ r ∷ records_in i w rs
rec_mine n i w (LogRec.Boot m) rs h own = absurd own
rec_mine n i w (LogRec.Ready m k s cs) rs h own = let j : (m % w == i) ≡ true = ap (λ (x : ℕ). x % w == i) own ∙ h in rw (j, records_in) refl
rec_mine n i w (LogRec.Heuristic m k o) rs h own = let j : (m % w == i) ≡ true = ap (λ (x : ℕ). x % w == i) own ∙ h in rw (j, records_in) refl
rec_mine n i w (LogRec.Commit m k s cs) rs h own = let j : (m % w == i) ≡ true = ap (λ (x : ℕ). x % w == i) own ∙ h in rw (j, records_in) refl
rec_mine n i w (LogRec.Damage m k s o r cs) rs h own = let j : (m % w == i) ≡ true = ap (λ (x : ℕ). x % w == i) own ∙ h in rw (j, records_in) refl
rec_mine n i w (LogRec.End m k o) rs h own = let j : (m % w == i) ≡ true = ap (λ (x : ℕ). x % w == i) own ∙ h in rw (j, records_in) refl

rec_other : (n i w : ℕ) (r : LogRec) (rs : List LogRec) → (n % w == i) ≡ false → IsOwnRec n (Some r) → records_in i w (r ∷ rs) ≡ records_in i w rs
rec_other n i w (LogRec.Boot m) rs h own = absurd own
rec_other n i w (LogRec.Ready m k s cs) rs h own = let j : (m % w == i) ≡ false = ap (λ (x : ℕ). x % w == i) own ∙ h in rw (j, records_in) refl
rec_other n i w (LogRec.Heuristic m k o) rs h own = let j : (m % w == i) ≡ false = ap (λ (x : ℕ). x % w == i) own ∙ h in rw (j, records_in) refl
rec_other n i w (LogRec.Commit m k s cs) rs h own = let j : (m % w == i) ≡ false = ap (λ (x : ℕ). x % w == i) own ∙ h in rw (j, records_in) refl
rec_other n i w (LogRec.Damage m k s o r cs) rs h own = let j : (m % w == i) ≡ false = ap (λ (x : ℕ). x % w == i) own ∙ h in rw (j, records_in) refl
rec_other n i w (LogRec.End m k o) rs h own = let j : (m % w == i) ≡ false = ap (λ (x : ℕ). x % w == i) own ∙ h in rw (j, records_in) refl

recs_mine : (n i w : ℕ) (y : Option Entry) (rs : List LogRec) → (n % w == i) ≡ true → IsOwnEntry n y → records_in i w (entry_record y ++ rs) ≡ entry_record y ++ records_in i w rs
recs_mine n i w None rs h own = refl
recs_mine n i w (Some y) rs h own = go y.rec own
  where
    go : (r : Option LogRec) → IsOwnRec n r → records_in i w ((elim r as (λ _. List LogRec) [ None ↦ [] | Some x ↦ x ∷ [] ]) ++ rs) ≡ (elim r as (λ _. List LogRec) [ None ↦ [] | Some x ↦ x ∷ [] ]) ++ records_in i w rs
    go None own = refl
    go (Some r) own = rec_mine n i w r rs h own

recs_other : (n i w : ℕ) (y : Option Entry) (rs : List LogRec) → (n % w == i) ≡ false → IsOwnEntry n y → records_in i w (entry_record y ++ rs) ≡ records_in i w rs
recs_other n i w None rs h own = refl
recs_other n i w (Some y) rs h own = go y.rec own
  where
    go : (r : Option LogRec) → IsOwnRec n r → records_in i w ((elim r as (λ _. List LogRec) [ None ↦ [] | Some x ↦ x ∷ [] ]) ++ rs) ≡ records_in i w rs
    go None own = refl
    go (Some r) own = rec_other n i w r rs h own

-- ---- a run

both_lists : (x y : Option Entry) (xs ys : List LogRec) → x ≡ y → xs ≡ ys → entry_record x ++ xs ≡ entry_record y ++ ys
both_lists x y xs ys h i = rw (h, i) refl

lane_records : (o : Opening) (i w : ℕ) (gs : List Given) (ps qs : List Past) → Agree i w ps qs → AllWell o ps → records_in i w (run_from o ps gs).log ≡ (run_from o qs (lane gs i w)).log
lane_records o i w [] ps qs agree well = refl
lane_records o i w (g ∷ gs) ps qs agree well = go (node_of g % w == i) refl (asked o g) refl (lane_records o i w gs)
  where
    go : (b : Bool) → (node_of g % w == i) ≡ b → (a : AskedEvent) → asked o g ≡ a
        → ((ps qs : List Past) → Agree i w ps qs → AllWell o ps → records_in i w (run_from o ps gs).log ≡ (run_from o qs (lane gs i w)).log)
        → records_in i w (run_from o ps (g ∷ gs)).log ≡ (run_from o qs (lane (g ∷ gs) i w)).log
    go true h (Refuses n) k rest =
        ap (λ (r : NodeRun). records_in i w r.log) (run_step o ps g gs (Refuses n) k)
        ∙ rest ps qs agree well
        ∙ sym (ap (λ (r : NodeRun). r.log) (run_step o qs g (lane gs i w) (Refuses n) k))
        ∙ ap (λ (l : List Given). (run_from o qs l).log) (sym (lane_mine g gs i w h))
    go false h (Refuses n) k rest =
        ap (λ (r : NodeRun). records_in i w r.log) (run_step o ps g gs (Refuses n) k)
        ∙ rest ps qs agree well
        ∙ ap (λ (l : List Given). (run_from o qs l).log) (sym (lane_other g gs i w h))
    go true h (Is n e) k rest =
        let mine : (n % w == i) ≡ true = ap (λ (m : ℕ). m % w == i) (sym (asked_at o g n e k)) ∙ h in
        let same : given o ps n e ≡ given o qs n e = ap (λ (l : List Entry). answer (origin_at o n) l e) (agree n mine) in
        let entry : (given o ps n e).entry ≡ (given o qs n e).entry = ap (λ (a : Answer). a.entry) same in
        let own = own_gained o ps n e well in
        ap (λ (r : NodeRun). records_in i w r.log) (run_step o ps g gs (Is n e) k)
        ∙ recs_mine n i w (given o ps n e).entry (run_from o (with_entry ps n (given o ps n e).entry) gs).log mine own.0
        ∙ both_lists _ _ _ _ entry (rest _ _ (agree_mine i w ps qs n _ _ mine entry agree) own.1)
        ∙ sym (ap (λ (r : NodeRun). r.log) (run_step o qs g (lane gs i w) (Is n e) k))
        ∙ ap (λ (l : List Given). (run_from o qs l).log) (sym (lane_mine g gs i w h))
    go false h (Is n e) k rest =
        let other : (n % w == i) ≡ false = ap (λ (m : ℕ). m % w == i) (sym (asked_at o g n e k)) ∙ h in
        let own = own_gained o ps n e well in
        ap (λ (r : NodeRun). records_in i w r.log) (run_step o ps g gs (Is n e) k)
        ∙ recs_other n i w (given o ps n e).entry (run_from o (with_entry ps n (given o ps n e).entry) gs).log other own.0
        ∙ rest _ _ (agree_other i w ps qs n _ other agree) own.1
        ∙ ap (λ (l : List Given). (run_from o qs l).log) (sym (lane_other g gs i w h))

pub own_history_law : (o : Opening) (gs : List Given) (i w : ℕ) → IsOwnHistory o gs i w
own_history_law o gs i w = record {
  outputs = lane_outputs o i w gs [] [] (λ n h. refl);
  records = lane_records o i w gs [] [] (λ n h. refl) (λ n. well_started o n);
}
