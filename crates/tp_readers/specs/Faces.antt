-- What the code of a face says of a deployment.
use Rattle.std.specs.Prelude.{◌≡◌, Some, List, ◌∷◌, ◌++◌}
use Rattle.tp_records.specs.declared.body.Event.{Event as Given}
use Rattle.tp_logrec.specs.declared.record.LogRec.{LogRec}
use Rattle.tp_logrec.specs.declared.record.LogVersion.{LogVersion}
use Rattle.tp_model.specs.Parts.{Entry}
use Rattle.tp_briefs.specs.Starts.{on, StartAlike}
use Rattle.tp_site.specs.Events.{history_at as history_since_start}
use Rattle.tp_site_logs.specs.Lives.{Life, opening_after}
use Rattle.tp_deployments.specs.Deployments.{Deed, Place, IsAmong, AreArranged, IsDeployment, life_after, history_at}
use Rattle.tp_deployments.specs.RunOf.{node_at}
use Rattle.tp_processes.specs.Versions.{happened}
use Rattle.tp_processes.specs.Deployed.{standing}
use Rattle.tx_face.specs.declared.code.Code.{Code}
use Rattle.tx_face.specs.Codes.{code_of}
use Rattle.tx_face.specs.Face.{MeansAll}

-- The process that runs at the node's site started on a log of these records, on which it knows what a start on the whole log knows, and was
-- given these events. Of the node's history in it the entries since the face was made told Committed last.
pub record HasCommitted (qs : List Place) (ds : List Deed) (q : Place) (since : List Entry) : Type 0 where
  pub version : LogVersion
  pub records : List LogRec
  pub given : List Given
  pub before : Life
  pub runs : life_after ds q.addr.site ≡ happened (on q.addr.site version records) given ∷ before
  pub alike : StartAlike (on q.addr.site LogVersion.Two records) (opening_after q.addr.site before)
  pub past : List Entry
  pub history : history_since_start (on q.addr.site version records) given q.addr.node ≡ since ++ past
  pub code : code_of since ≡ Some Code.Committed

-- Then all that is meant by it holds of the nodes where they stand, and these entries are the newest of all that happened to the node.
abbrev pub CommittedMeansAll : Type 0
CommittedMeansAll =
    (qs : List Place) (ds : List Deed) (q : Place) (since : List Entry) → AreArranged qs → IsDeployment qs ds → IsAmong q qs → HasCommitted qs ds q since
    → (older : List Entry) × (history_at ds q.addr ≡ since ++ older) × MeansAll (standing qs ds) (node_at ds q) since older
