-- Processes of several sites, woven by time, are a run.
use Rattle.std.proofs.Common.{◌≡◌, ℕ, refl, sym, ap, ◌∙◌, subst, List, [], ◌∷◌, reverse}
use Rattle.tp_model.specs.History.{records}
use Rattle.tp_model.specs.NodeRun.{records_at}
use Rattle.tp_site_logs.specs.Lives.{Life, opening_after, history_over, first_origin}
use Rattle.tp_site_logs.proofs.Lives.{logged}
use Rattle.tp_deployments.specs.Deployments.{Deed, life_after}
use Rattle.tp_laws.proofs.Deployed.{deployments_keep}
use Rattle.tp_processes.specs.Processes.{Process, AreProcesses, life_of}
use Rattle.tp_processes.specs.Deployed.{AreDeedsOf, LogsTell, ProcessesKeep}
use Rattle.tp_processes.proofs.Chained.{leave_it_whole}

-- of each number the log has what one history forced
logged_over : (s : List ℕ) (life : Life) (n : ℕ) → records_at n (opening_after s life).records ≡ reverse (records (first_origin s n) (history_over s life n))
logged_over s [] n = refl
logged_over s (gs ∷ life) n = logged s gs life n

logs_tell : (by : List ℕ → List Process) (ds : List Deed) → AreDeedsOf by ds → LogsTell by ds
logs_tell by ds k s p ps is whole =
    let life : Life = life_of s (p ∷ ps) in
    let are : AreProcesses s (p ∷ ps) = subst (AreProcesses s) is (k.processes s) in
    let same : life ≡ life_after ds s = ap (life_of s) (sym is) ∙ sym (k.deeds s) in
    ((opening_after s life).records, leave_it_whole s p ps are whole, λ n. logged_over s life n ∙ ap (λ (l : Life). reverse (records (first_origin s n) (history_over s l n))) same)

pub keep : ProcessesKeep
keep by qs ds k arranged deployed = let r = deployments_keep qs ds arranged deployed in (r.0, r.1, logs_tell by ds k, r.2)
