-- The run that a deployment is: one world in which each node has the history that its processes gave it.
use Rattle.std.specs.Prelude.{◌≡◌, Some, List, [], ◌∷◌, ◌++◌}
use Rattle.tp_names.specs.declared.identifiers.Addr.{Addr}
use Rattle.tp_records.specs.declared.peer.PeerRecord.{PeerRecord}
use Rattle.tp_model.specs.World.{World, Node, Site, find_site}
use Rattle.tp_model.specs.Happenings.{Happening, run}
use Rattle.tp_histories.specs.Histories.{HasSent}
use Rattle.tp_runs.specs.Framed.{IsFrameTo}
use Rattle.tp_site_logs.specs.Lives.{first_origin}
use Rattle.tp_deployments.specs.Deployments.{Deed, Place, IsThere, AreArranged, IsDeployment, history_at}

abbrev pub node_at : List Deed → Place → Node
node_at ds q = record { origin = first_origin q.addr.site q.addr.node; superior = q.superior; history = history_at ds q.addr }

abbrev pub nodes_of : List Place → List Deed → List Node
nodes_of [] ds = []
nodes_of (q ∷ qs) ds = nodes_of qs ds ++ node_at ds q ∷ []

pub record IsRunOf (qs : List Place) (ds : List Deed) (w : World) : Type 0 where
  -- the nodes of the world are those of the places, each with the history that its processes gave it, and no others
  pub nodes : w.nodes ≡ nodes_of qs ds
  -- each record that was said is a frame
  pub frames : (a to : Addr) (r : PeerRecord) → IsThere qs a → HasSent (history_at ds a) to r → IsFrameTo w.frames a to r
  -- each site is there
  pub sites : (a : Addr) → IsThere qs a → (x : Site) × (find_site w.sites a.site ≡ Some x)

-- **A deployment is a run**
abbrev pub ADeploymentIsARun : Type 0
ADeploymentIsARun = (qs : List Place) (ds : List Deed) → AreArranged qs → IsDeployment qs ds → (es : List Happening) × IsRunOf qs ds (run es)

-- and as the deployment goes on, so does its run: what is later in the one is later in the other
abbrev pub ADeploymentGoesOn : Type 0
ADeploymentGoesOn =
    (qs : List Place) (more ds : List Deed) → AreArranged qs → IsDeployment qs (more ++ ds)
    → (es : List Happening) × (us : List Happening) × IsRunOf qs ds (run es) × IsRunOf qs (more ++ ds) (run (us ++ es))
