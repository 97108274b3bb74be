-- How the sites and the nodes of the code stand for those of a world of the definitions. The definitions keep each node's whole
-- history; the code keeps, at the node's site, what is known after it, and of each tree the few facts that the closing lines ask.
use Rattle.std.specs.Prelude.{ℕ, ◌≡◌, ◌≤◌, ◌==◌, ◌&&◌, Bool, true, false, Option, Some, None, List, [], ◌∷◌, length, Result, Ok, Err, if◌then◌else◌}
use Rattle.std.specs.List.{AllByRecursion}
use Rattle.tp_names.specs.declared.identifiers.Aaid.{Aaid}
use Rattle.tp_logrec.specs.declared.record.LogVersion.{LogVersion}
use Rattle.tp_model.specs.declared.verdict.What.{What}
use Rattle.tp_model.specs.Legal.{IsLegal}
use Rattle.tp_model.specs.World.{World, Node, Frame, addr_of, number_of, find_site, is_node, site_of}
use Rattle.tp_model.specs.Parts.{Event, Entry as EntryValue}
use Rattle.tp_model.specs.History.{digest, answer}
use Rattle.tp_model.specs.Happenings.{logged, world_with_entry}
use Rattle.tp_model.specs.Lines.{is_full}
use Rattle.tp_world_sites.specs.Summary.{summary, change_of}
use Rattle.tp_network.specs.TreeSummaries.{summary_at}
use Rattle.tp_world_sites.specs.Sites.{AreSites, KnowNodes}
use Rattle.tp_world_sites.specs.Slots.{number_told, entry_told}
use Rattle.tp_world_sites.specs.declared.fault.WorldFault.{WorldFault}
use Rattle.tp_network.specs.declared.nodes.NodeSlot.{NodeSlot}
use Rattle.tp_world_sites.specs.declared.site_slot.SiteSlot.{SiteSlot}
use Rattle.tp_world_sites.specs.NodeAnswers.{Answer}
use Rattle.tp_world_sites.specs.declared.site_slot.Entry.{Entry}

-- ---- nodes

-- the node's history began on a log of version 2 with no record of it, and is legal; its facts of each tree are those of
-- its history
pub record IsNode (n : Node) (x : NodeSlot) : Type 0 where
  pub addr : x.addr ≡ addr_of n
  pub superior : x.superior ≡ n.superior
  pub version : n.origin.start.version ≡ LogVersion.Two
  pub fresh : n.origin.start.records ≡ []
  pub legal : IsLegal n.origin n.superior n.history
  pub summaries : (t : Aaid) → summary_at x.summaries t ≡ summary n.origin t n.history

abbrev pub AreNodes : List Node → List NodeSlot → Type 0
AreNodes [] [] = Unit {0}
AreNodes [] (x ∷ xs) = ⊥
AreNodes (n ∷ ns) [] = ⊥
AreNodes (n ∷ ns) (x ∷ xs) = IsNode n x × AreNodes ns xs

-- no two nodes have one number
abbrev pub is_free : ℕ → List Node → Bool
is_free k [] = true
is_free k (n ∷ ns) = if number_of n == k then false else is_free k ns

abbrev pub are_apart : List Node → Bool
are_apart [] = true
are_apart (n ∷ ns) = is_free (number_of n) ns && are_apart ns

-- each stands at a site that is there, and so does its superior
abbrev pub is_placed : World → Node → Bool
is_placed w n =
    elim (find_site w.sites (site_of n)) [ None ↦ false | Some s ↦ true ]
    && elim n.superior [ None ↦ true | Some a ↦ is_node w a.node ]

-- ---- the world

-- what the sites know and have on their disks
pub record SitesStand (w : World) (xs : List SiteSlot) : Type 0 where
  pub sites : AreSites w.sites xs
  pub known : KnowNodes xs w.nodes

-- all else
pub record RestStands (w : World) (xs : List NodeSlot) (fs : List Frame) (ts : List Aaid) : Type 0 where
  pub nodes : AreNodes w.nodes xs
  pub apart : are_apart w.nodes ≡ true
  pub placed : AllByRecursion (λ n. is_placed w n ≡ true) w.nodes
  pub frames : fs ≡ w.frames
  -- each has a number
  pub few : length w.frames ≤ 65535
  pub trees : ts ≡ w.trees
  -- no member drives a node
  pub undriven : w.drives ≡ []

-- ---- an event at a node

-- the entry that the history gains, as the code has it
abbrev pub IsEntry : Node → Option EntryValue → Option Entry → Type 0
IsEntry n None None = Unit {0}
IsEntry n None (Some x) = ⊥
IsEntry n (Some e) None = ⊥
IsEntry n (Some e) (Some x) =
    (x.outs ≡ e.outs) × (x.change ≡ change_of (digest n.origin n.history) e (digest n.origin (e ∷ n.history)))

-- the world whose site has played it
abbrev pub after_entry : World → Node → Option EntryValue → World
after_entry w n None = w
after_entry w n (Some e) = logged (world_with_entry w n e) n e.rec

-- what the node answers, and whether its history gains an entry
abbrev pub number_answered : Node → Event → Option ℕ
number_answered n e = (answer n.origin n.history e).number

abbrev pub entry_answered : Node → Event → Option EntryValue
entry_answered n e = (answer n.origin n.history e).entry

-- the site of the node has played the event: it stands for the world after the entry; a want of room in the log is told before
-- anything of the event is so
abbrev pub PlaysAt : World → Node → Event → Result Answer WorldFault → List SiteSlot → Type 0
PlaysAt w n e (Ok a) new =
    (number_told a ≡ number_answered n e) × IsEntry n (entry_answered n e) (entry_told a) × SitesStand (after_entry w n (entry_answered n e)) new
PlaysAt w n e (Err WorldFault.Name) new = ⊥
PlaysAt w n e (Err (WorldFault.Limit what)) new = (what ≡ What.Log) × (is_full (after_entry w n (entry_answered n e)).sites ≡ true)
PlaysAt w n e (Err WorldFault.NoMemory) new = Unit {0}
