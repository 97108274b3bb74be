-- The records that workers left are those of one list of events.
use Rattle.std.specs.List.{AllByRecursion}
use Rattle.std.proofs.Common.{◌≡◌, ◌<◌, ◌≤◌, ◌+◌, ℕ, zero, suc, Bool, true, false, refl, ap, sym, ◌∙◌, subst, arith, Option, None, List, [], ◌∷◌, ◌++◌, take, drop, length, append_assoc}
use Rattle.std.specs.Prelude.{nat_lt, slice_index_or}
use Rattle.std.proofs.lemmas.List.{take-append-drop, take_all, get_or_default}
use Rattle.std.proofs.lemmas.Bool.Decides.{nat_tests}
use Rattle.tp_records.specs.declared.body.Event.{Event as Given}
use Rattle.tp_logrec.specs.declared.record.LogRec.{LogRec}
use Rattle.tp_logrec.specs.LogText.{IsLog}
use Rattle.tp_model.specs.NodeRun.{Opening, boot_of, run_from, log_after}
use Rattle.tp_model.specs.Lanes.{lane, lane_log, IsInterleaving}
use Rattle.tp_drive.specs.declared.stop.Stop.{Stop as LaneStop}
use Rattle.tp_drive.specs.Begun.{booted}
use Rattle.tp_drive.specs.Drives.{IsPartDriven}
use Rattle.tp_drive.specs.Runs.{IsForcedBy}
use Rattle.tp_drive.specs.Woven.{IsWoven}
use Rattle.tp_batches.specs.Batches.{IsBatch, IsWhole}
use Rattle.tp_batches.proofs.Batches.{first_of, whole}

-- ---- lists

pub take_beyond : {A : Type 0} (xs ys : List A) (n : ℕ) → length xs ≤ n → (k : ℕ) × (take n (xs ++ ys) ≡ xs ++ take k ys)
take_beyond [] ys n past = (n, refl)
take_beyond (x ∷ xs) ys zero past = absurd (omega (arith, past))
take_beyond {A} (x ∷ xs) ys (suc n) past = let k = take_beyond xs ys n (omega (arith, past)) in (k.0, ap (λ (l : List A). x ∷ l) k.1)

pub all_take : {A : Type 0} (P : A → Type 0) (n : ℕ) (xs : List A) → AllByRecursion P xs → AllByRecursion P (take n xs)
all_take P zero xs all = tt
all_take P (suc n) [] all = tt
all_take P (suc n) (x ∷ xs) all = (all.0, all_take P n xs all.1)

-- ---- the log after one list of events

pub one_log : (o : Opening) (gs : List Given) (more : List LogRec) (file : List ℕ) → (run_from o [] gs).log ≡ more → IsLog file (booted o ++ more) → IsLog file (log_after o gs)
one_log o gs more file same log = subst (IsLog file) (append_assoc o.records (LogRec.Boot (boot_of o) ∷ []) more ∙ ap (λ (l : List LogRec). o.records ++ LogRec.Boot (boot_of o) ∷ l) (sym same)) log

-- ---- all events

pub woven_whole : (o : Opening) (lanes : ℕ) (events : List Given) (more : List LogRec) → IsWoven o lanes events more → IsWhole o lanes events more
woven_whole o lanes events more k =
    whole o lanes events k.logs more (record { counted = k.counted; each = λ i d h. k.each i d h ∙ ap (λ (l : List Given). (run_from o [] (lane l i lanes)).log) (sym (take_all (length events) events (omega arith))) }) k.woven

-- ---- the first of them

abbrev Meets : Opening → ℕ → List Given → List (List LogRec) → ℕ → Type 0
Meets o lanes events logs i = (met : ℕ) × ((d : List LogRec) → i < lanes → slice_index_or logs i d ≡ lane_log o (take met events) i lanes)

meets : (o : Opening) (lanes : ℕ) (events : List Given) (stops : List (Option LaneStop)) (logs : List (List LogRec)) → length logs ≡ lanes
    → ((i : ℕ) (l : List LogRec) (s : Option LaneStop) → i < lanes → IsForcedBy o lanes i events (slice_index_or stops i s) (slice_index_or logs i l)) → (i : ℕ) → Meets o lanes events logs i
meets o lanes events stops logs counted each i = go (nat_lt i lanes) refl
  where
    go : (b : Bool) → nat_lt i lanes ≡ b → Meets o lanes events logs i
    go true e =
        let h : i < lanes = grind (arith, nat_tests, e) in
        let f = each i [] None h in
        (f.met, λ d h. get_or_default logs i d [] (omega (arith, h, counted)) ∙ f.records)
    go false e = (0, λ d h. absurd (let past : lanes ≤ i = grind (arith, nat_tests, e) in omega (arith, past, h)))

pub part_first : (o : Opening) (lanes : ℕ) (events : List Given) (stops : List (Option LaneStop)) (list : List LogRec) (p : IsPartDriven o lanes events stops list) (k : ℕ) → IsBatch o lanes events (take k p.more)
part_first o lanes events stops list p k =
    let m : (i : ℕ) → Meets o lanes events p.logs i = meets o lanes events stops p.logs p.counted.0 p.each in
    first_of o lanes events (λ i. (m i).0) p.logs (take k p.more) (drop k p.more) (record { counted = p.counted.0; each = λ i d h. (m i).1 d h })
    (subst (λ (l : List LogRec). IsInterleaving l p.logs) (sym (take-append-drop k p.more)) p.woven)
