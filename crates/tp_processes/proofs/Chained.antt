-- Each process starts on a log that is alike to the one that the site's life so far has left.
use Rattle.std.proofs.Common.{◌≡◌, ◌⊎◌, inl, inr, ℕ, Bool, true, false, refl, sym, ap, ◌∙◌, subst, List, [], ◌∷◌}
use Rattle.std.specs.Prelude.{◌&&◌}
use Rattle.tp_names.proofs.Sames.{both}
use Rattle.tp_records.specs.declared.body.Event.{Event as Given}
use Rattle.tp_logrec.specs.declared.record.LogRec.{LogRec}
use Rattle.tp_logrec.specs.declared.record.LogVersion.{LogVersion}
use Rattle.tp_logrec.specs.LogText.{recs, IsLog}
use Rattle.tp_logrec.specs.Order.{all_follow, brief}
use Rattle.tp_logrec.proofs.Logs.{one_list}
use Rattle.tp_logrec.proofs.BriefOrders.{brief_in_order}
use Rattle.tp_model.specs.LogCommands.{Opened, Is_foreign, Has}
use Rattle.tp_model.specs.NodeRun.{Opening, node_run, log_after}
use Rattle.tp_briefs.specs.Starts.{on, StartAlike, RunAlike}
use Rattle.tp_briefs.proofs.Alike.{alike}
use Rattle.tp_briefs.proofs.Runs.{run_alike}
use Rattle.tp_site_logs.specs.SiteLogs.{only_branches_vote, is_in_order}
use Rattle.tp_site_logs.specs.Lives.{Life, opening_after}
use Rattle.tp_site_logs.proofs.StaysInOrder.{stays_in_order}
use Rattle.tp_processes.specs.Versions.{happened}
use Rattle.tp_processes.specs.Processes.{Process, IsProcess, IsShortened, AreProcesses, IsPartOf, happened_in, life_of, ProcessesLeaveTheLog, ProcessesLeaveItWhole, ProcessesActAlike}
use Rattle.tp_processes.proofs.AsTwo.{acts_as_two}
use Rattle.tp_processes.proofs.Opening.{finds, opens}
use Rattle.tp_processes.proofs.Votes.{fair_brief}
use Rattle.tp_processes.proofs.Parts.{brief_part, longer_part}

abbrev two : LogVersion
two = LogVersion.Two

opening_is : (s : List ℕ) (life : Life) → on s two (opening_after s life).records ≡ opening_after s life
opening_is s [] = refl
opening_is s (gs ∷ life) = refl

alike_then : (o p q : Opening) → StartAlike o p → StartAlike p q → StartAlike o q
alike_then o p q a b = record { boot = a.boot ∙ b.boot; knows = λ n. a.knows n ∙ b.knows n }

-- ---- a process whose log is of either version leaves what one on a log of version 2 leaves

happened_there : (s : List ℕ) (p : Process) (i : IsProcess s p) → happened (on s i.version (recs i.listed)) p.given ≡ happened_in s p
happened_there s p i = sym (ap (λ (o : Opened). elim o as (λ _. List Given) [ Is_foreign at ↦ [] | Has version listed ↦ happened (on s version (recs listed)) p.given ]) i.opens)

leaves_two : (s : List ℕ) (p : Process) (i : IsProcess s p) → IsLog p.left (elim p.begun [ true ↦ log_after (on s two (recs i.listed)) (happened_in s p) | false ↦ recs i.listed ])
leaves_two s p i = go p.begun i.leaves
  where
    same : log_after (on s i.version (recs i.listed)) p.given ≡ log_after (on s two (recs i.listed)) (happened_in s p)
    same = (acts_as_two s i.version (recs i.listed) p.given).log ∙ ap (log_after (on s two (recs i.listed))) (happened_there s p i)

    go : (b : Bool) → IsLog p.left (elim b [ true ↦ log_after (on s i.version (recs i.listed)) p.given | false ↦ recs i.listed ]) → IsLog p.left (elim b [ true ↦ log_after (on s two (recs i.listed)) (happened_in s p) | false ↦ recs i.listed ])
    go true log = subst (IsLog p.left) same log
    go false log = log

-- ---- the records that a file has

record Stands (s : List ℕ) (life : Life) (file : List ℕ) : Type 0 where
  records : List LogRec
  log : IsLog file records
  order : is_in_order records ≡ true
  alike : StartAlike (on s two records) (on s two (opening_after s life).records)
  part : IsPartOf records (opening_after s life).records

short : (rs : List LogRec) → is_in_order rs ≡ true → is_in_order (brief rs) ≡ true
short rs h =
    let p = both (all_follow rs) (only_branches_vote rs) h in
    ap (λ (b : Bool). b && only_branches_vote (brief rs)) (brief_in_order rs p.0) ∙ fair_brief rs p.1

fresh : (s : List ℕ) (file : List ℕ) → IsLog file [] → Stands s [] file
fresh s file log = record { records = []; log = log; order = refl; alike = record { boot = refl; knows = λ n. refl }; part = λ r o own is. is }

-- what the next one finds
found_from : (s : List ℕ) (life : Life) (p q : Process) → (p.found ≡ q.left) ⊎ IsShortened p.found q.left → Stands s life q.left → Stands s life p.found
found_from s life p q (inl same) k = subst (Stands s life) (sym same) k
found_from s life p q (inr x) k =
    let same : x.records ≡ k.records = one_list q.left x.records k.records x.small x.before k.log in
    let follow = both (all_follow k.records) (only_branches_vote k.records) k.order in
    record {
      records = brief k.records;
      log = subst (λ (rs : List LogRec). IsLog p.found (brief rs)) same x.after;
      order = short k.records k.order;
      alike = alike_then (on s two (brief k.records)) (on s two k.records) (on s two (opening_after s life).records) (alike s two k.records follow.0) k.alike;
      part = λ r o own is. k.part r o own (brief_part k.records r o own is);
    }

-- and what it leaves
left_from : (s : List ℕ) (life : Life) (p : Process) → Stands s life p.found → IsProcess s p → Stands s (elim p.begun [ true ↦ happened_in s p ∷ life | false ↦ life ]) p.left
left_from s life p k i = go p.begun (subst (λ (rs : List LogRec). IsLog p.left (elim p.begun [ true ↦ log_after (on s two rs) gs | false ↦ rs ])) same (leaves_two s p i))
  where
    gs : List Given
    gs = happened_in s p

    same : recs i.listed ≡ k.records
    same = finds p.found k.records i.version i.listed i.small k.log i.opens

    next : RunAlike s two k.records (opening_after s life).records gs
    next = run_alike s two k.records (opening_after s life).records k.alike gs

    go : (b : Bool) → IsLog p.left (elim b [ true ↦ log_after (on s two k.records) gs | false ↦ k.records ]) → Stands s (elim b [ true ↦ gs ∷ life | false ↦ life ]) p.left
    go true log = record {
      records = log_after (on s two k.records) gs;
      log = log;
      order = stays_in_order (on s two k.records) gs k.order;
      alike = subst (λ (o : Opening). StartAlike (on s two (log_after (on s two k.records) gs)) (on s two (log_after o gs))) (opening_is s life) next.next;
      part = longer_part k.records (opening_after s life).records (node_run (on s two k.records) gs).log (node_run (opening_after s life) gs).log k.part (next.forced ∙ ap (λ (o : Opening). (node_run o gs).log) (opening_is s life));
    }
    go false log = record { records = k.records; log = log; order = k.order; alike = k.alike; part = k.part }

left_log : (s : List ℕ) (p : Process) (ps : List Process) → AreProcesses s (p ∷ ps) → Stands s (life_of s (p ∷ ps)) p.left
left_log s p [] are = left_from s [] p (fresh s p.found are.1) are.0
left_log s p (q ∷ ps) are = left_from s (life_of s (q ∷ ps)) p (found_from s (life_of s (q ∷ ps)) p q are.1 (left_log s q ps are.2)) are.0

found_log : (s : List ℕ) (p : Process) (ps : List Process) → AreProcesses s (p ∷ ps) → Stands s (life_of s ps) p.found
found_log s p [] are = fresh s p.found are.1
found_log s p (q ∷ ps) are = found_from s (life_of s (q ∷ ps)) p q are.1 (left_log s q ps are.2)

-- ---- the laws

pub leave_the_log : ProcessesLeaveTheLog
leave_the_log s p ps are =
    let life : Life = life_of s (p ∷ ps) in
    let k : Stands s life p.left = left_log s p ps are in
    let follow = both (all_follow k.records) (only_branches_vote k.records) k.order in
    record {
      records = k.records;
      log = k.log;
      alike = subst (StartAlike (on s two k.records)) (opening_is s life) k.alike;
      part = k.part;
      opens = λ small. opens p.left k.records small k.log follow.0;
    }

pub act_alike : ProcessesActAlike
act_alike s p ps are =
    let life : Life = life_of s ps in
    let gs : List Given = happened_in s p in
    let k : Stands s life p.found = found_log s p ps are in
    let same : recs are.0.listed ≡ k.records = finds p.found k.records are.0.version are.0.listed are.0.small k.log are.0.opens in
    (acts_as_two s are.0.version (recs are.0.listed) p.given).outputs ∙ ap (λ (hs : List Given). (node_run (on s two (recs are.0.listed)) hs).outputs) (happened_there s p are.0)
    ∙ ap (λ (rs : List LogRec). (node_run (on s two rs) gs).outputs) same ∙ (run_alike s two k.records (opening_after s life).records k.alike gs).outputs
    ∙ ap (λ (o : Opening). (node_run o gs).outputs) (opening_is s life)

-- ---- where none was made short

whole_from : (s : List ℕ) (life : Life) (p : Process) → IsLog p.found (opening_after s life).records → IsProcess s p → IsLog p.left (opening_after s (elim p.begun [ true ↦ happened_in s p ∷ life | false ↦ life ])).records
whole_from s life p log k = go p.begun (subst (λ (rs : List LogRec). IsLog p.left (elim p.begun [ true ↦ log_after (on s two rs) gs | false ↦ rs ])) same (leaves_two s p k))
  where
    gs : List Given
    gs = happened_in s p

    same : recs k.listed ≡ (opening_after s life).records
    same = finds p.found (opening_after s life).records k.version k.listed k.small log k.opens

    go : (b : Bool) → IsLog p.left (elim b [ true ↦ log_after (on s two (opening_after s life).records) gs | false ↦ (opening_after s life).records ]) → IsLog p.left (opening_after s (elim b [ true ↦ gs ∷ life | false ↦ life ])).records
    go true l = subst (λ (o : Opening). IsLog p.left (log_after o gs)) (opening_is s life) l
    go false l = l

pub leave_it_whole : ProcessesLeaveItWhole
leave_it_whole s p [] are whole = whole_from s [] p are.1 are.0
leave_it_whole s p (q ∷ ps) are whole =
    whole_from s (life_of s (q ∷ ps)) p (subst (λ (file : List ℕ). IsLog file (opening_after s (life_of s (q ∷ ps))).records) (sym whole.0) (leave_it_whole s q ps are.2 whole.1)) are.0
