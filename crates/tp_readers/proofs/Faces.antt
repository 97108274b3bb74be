-- Committed means in a deployment what it means in the run that it is.
use Rattle.std.proofs.Common.{◌≡◌, ◌++◌, ℕ, refl, ap, sym, ◌∙◌, subst, append_assoc, List, [], ◌∷◌}
use Rattle.tp_records.specs.declared.body.Event.{Event as Given}
use Rattle.tp_logrec.specs.declared.record.LogVersion.{LogVersion}
use Rattle.tp_model.specs.Parts.{Entry}
use Rattle.tp_model.specs.World.{Node, World, find_node}
use Rattle.tp_model.specs.Happenings.{Happening, run}
use Rattle.tp_model.specs.NodeRun.{Opening, history_of, run_from}
use Rattle.tp_model.specs.Promises.{IsIn}
use Rattle.tp_briefs.specs.Starts.{on, StartAlike, RunAlike}
use Rattle.tp_briefs.proofs.Runs.{run_alike}
use Rattle.tp_site_logs.specs.Lives.{Life, opening_after, history_in, history_over}
use Rattle.tp_deployments.specs.Deployments.{history_at}
use Rattle.tp_deployments.specs.RunOf.{node_at, IsRunOf}
use Rattle.tp_deployments.proofs.Given.{before, over_in}
use Rattle.tp_laws.specs.Whole.{AllPromised}
use Rattle.tp_laws.proofs.Deployed.{deployments_keep}
use Rattle.tx_face.specs.Face.{MeansAll}
use Rattle.tx_face.proofs.Meaning.{means_all}
use Rattle.tp_readers.specs.Faces.{CommittedMeansAll}
use Rattle.tp_processes.specs.Versions.{happened}
use Rattle.tp_processes.proofs.AsTwo.{acts_as_two}
use Rattle.tp_readers.proofs.Nodes.{of_run, found_there}

opening_is : (s : List ℕ) (life : Life) → on s LogVersion.Two (opening_after s life).records ≡ opening_after s life
opening_is s [] = refl
opening_is s (gs ∷ life) = refl

pub committed_means : CommittedMeansAll
committed_means qs ds q since arr dep among k = (older, history, λ t last root y of stays. means t last root y (of_run qs ds w t y r.1.nodes of) stays)
  where
    s : List ℕ
    s = q.addr.site

    n : ℕ
    n = q.addr.node

    r : (es : List Happening) × IsRunOf qs ds (run es) × AllPromised (run es)
    r = deployments_keep qs ds arr dep

    w : World
    w = run r.0

    older : List Entry
    older = k.past ++ before s k.before n

    gs : List Given
    gs = happened (on s k.version k.records) k.given

    alike : RunAlike s LogVersion.Two k.records (opening_after s k.before).records gs
    alike = run_alike s LogVersion.Two k.records (opening_after s k.before).records (subst (StartAlike (on s LogVersion.Two k.records)) (sym (opening_is s k.before)) k.alike) gs

    in_process : history_in s k.before gs n ≡ since ++ k.past
    in_process =
        ap (λ (o : Opening). history_of (run_from o [] gs).pasts n) (sym (opening_is s k.before)) ∙ sym (alike.histories n) ∙ sym ((acts_as_two s k.version k.records k.given).histories n)
        ∙ k.history

    history : history_at ds q.addr ≡ since ++ older
    history =
        ap (λ (l : Life). history_over s l n) k.runs ∙ over_in s gs k.before n ∙ ap (λ (h : List Entry). h ++ before s k.before n) in_process
        ∙ append_assoc since k.past (before s k.before n)

    found : IsIn w (node_at ds q)
    found = ap (λ (ns : List Node). find_node ns n) r.1.nodes ∙ found_there qs ds q arr among

    means : MeansAll w (node_at ds q) since older
    means = means_all r.0 (node_at ds q) since older found history k.code
