-- A site stops in the middle of an event, and how a line in which it does ends.
use Rattle.std.specs.Prelude.{ℕ, ◌≡◌, ◌==◌, true, false, Option, Some, None, List, ◌∷◌, Result, Err, slice_set, slice_index_or}
use Rattle.tp_names.specs.Same.{is_name}
use Rattle.tp_logrec.specs.declared.record.LogRec.{LogRec}
use Rattle.tp_model.specs.declared.verdict.What.{What}
use Rattle.tp_model.specs.declared.line.Action.{Action}
use Rattle.tp_model.specs.declared.out_line.OutLine.{OutLine}
use Rattle.tp_model.specs.Happenings.{Task, still, after_lines, stop_in_task, task_here, WorldTurn}
use Rattle.tp_model.specs.History.{answer, digest}
use Rattle.tp_model.specs.Legal.{IsLegal}
use Rattle.tp_model.specs.Lines.{Fault, Over, has_room, has_room_for, resolved, stop_line, within_limits}
use Rattle.tp_model.specs.Parts.{Entry as EntryValue}
use Rattle.tp_model.specs.World.{World, Node, Site, find_node, find_site, number_of, site_of}
use Rattle.tp_laws.specs.Expansion.{IsOfRun}
use Rattle.tp_laws.specs.SiteLogs.{DisksTell, DisksStart}
use Rattle.tp_site.specs.Site.{known_at}
use Rattle.tp_world_sites.specs.Sites.{place_of_site}
use Rattle.tp_world_sites.specs.Standing.{SitesStand, RestStands, IsEntry, after_entry}
use Rattle.tp_world.specs.World.{Mirrors}
use Rattle.tp_world_sites.specs.declared.site_slot.Entry.{Entry}
use Rattle.tp_world_sites.specs.declared.site_slot.SiteSlot.{SiteSlot}
use Rattle.tp_world.specs.declared.world.World.{World as CodeWorld}

-- ---- the event

-- the site of that name stands at this place, in a world that some happenings have left
pub record StopsIn (w : World) (s : List ℕ) (z : Site) (place : ℕ) (v : CodeWorld) : Type 0 where
  pub run : IsOfRun w
  pub mirrors : Mirrors w v
  pub site : find_site w.sites s ≡ Some z
  pub at : place ≡ place_of_site v.sites.items s

-- The node has answered the event, and its site, which was x and stands at this place, has played it. All else of the world is as
-- it was.
pub record HasPlayed (w : World) (s : List ℕ) (z : Site) (n : Node) (ent : Option EntryValue) (x : SiteSlot) (place : ℕ)
    (gained : Option Entry) (v : CodeWorld) : Type 0 where
  pub found : find_node w.nodes (number_of n) ≡ Some n
  pub here : is_name (site_of n) s ≡ true
  pub legal : (e : EntryValue) → ent ≡ Some e → IsLegal n.origin n.superior (e ∷ n.history)
  pub site : find_site w.sites s ≡ Some z
  pub at : place ≡ place_of_site v.sites.items s
  pub before : SitesStand w (slice_set v.sites.items place x)
  pub same_name : (slice_index_or v.sites.items place x).site.nodes.site ≡ x.site.nodes.site
  pub sites : SitesStand (after_entry w n ent) v.sites.items
  pub rest : RestStands w v.nodes v.frames v.trees.items
  pub entry : IsEntry n ent gained
  -- but for the node itself, whose tree before it the entry tells, it knows what it knew
  pub known : (k : ℕ) → ((number_of n == k) ≡ false) → known_at (slice_index_or v.sites.items place x).site k ≡ known_at x.site k
  pub node_knew : known_at x.site (number_of n) ≡ digest n.origin n.history
  pub tells : DisksTell w
  pub starts : DisksStart w
  pub tells_after : DisksTell (after_entry w n ent)
  pub starts_after : DisksStart (after_entry w n ent)

-- the record that a task would force
abbrev pub forced_in : Task → Option LogRec
forced_in t = elim (answer t.node.origin t.node.history t.event).entry [ None ↦ None | Some e ↦ e.rec ]

abbrev pub forced_by : Option Task → Option LogRec
forced_by o = elim o [ None ↦ None | Some t ↦ forced_in t ]

-- the site stops in the task; where its record has no room that is told before anything of it is so
abbrev pub stop_judged : World → List ℕ → Site → ℕ → ℕ → Task → Result WorldTurn Fault
stop_judged w s z call fill t = elim (has_room w s (forced_in t)) [ false ↦ Err (Over What.Log) | true ↦ within_limits (stop_in_task w z call fill t) ]

-- a task of another site is none; these lines are shown first
abbrev pub stop_by : World → Site → ℕ → ℕ → List OutLine → Option Task → WorldTurn
stop_by w z call fill ls o = elim (task_here z o) [ None ↦ still w | Some t ↦ after_lines ls (stop_in_task w z call fill t) ]

abbrev pub stop_deed : World → List ℕ → Site → ℕ → ℕ → List OutLine → Option Task → Result WorldTurn Fault
stop_deed w s z call fill ls o = elim (has_room w s (forced_by o)) [ false ↦ Err (Over What.Log) | true ↦ within_limits (stop_by w z call fill ls o) ]

-- a line all of whose names are there
abbrev pub stop_named : World → List ℕ → ℕ → ℕ → Action → Result WorldTurn Fault
stop_named w s call fill l = elim (has_room_for w s (resolved w l)) [ false ↦ Err (Over What.Log) | true ↦ within_limits (stop_line w s call fill l) ]
