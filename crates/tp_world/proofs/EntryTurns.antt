-- What the code makes of a node's answer is what the definitions make of it.
use Rattle.std.proofs.Common.{if◌then◌else◌, ◌≡◌, ◌≤◌, ◌++◌, ◌&&◌, not, ℕ, Bool, true, false, refl, ap, sym, subst, ◌∙◌, Option, Some, None, List, ◌∷◌, length}
use Rattle.std.specs.List.{AllByRecursion}
use Rattle.std.specs.Option.{option_map, is_some}
use Rattle.tp_names.specs.declared.identifiers.Aaid.{Aaid}
use Rattle.tp_logrec.specs.declared.record.LogRec.{LogRec}
use Rattle.tp_model.specs.declared.out_line.OutLine.{OutLine}
use Rattle.tp_model.specs.declared.out_line.LogWords.{LogWords}
use Rattle.tp_model.specs.Parts.{Current, Entry as EntryValue, Key, Root, Under}
use Rattle.tp_model.specs.History.{digest}
use Rattle.tp_model.specs.Legal.{IsLegal}
use Rattle.tp_model.specs.Outcomes.{root_started, is_now, root_of}
use Rattle.tp_model.specs.World.{World, Node, Frame, number_of, site_of, addr_of, find_node, put_node, find_site}
use Rattle.tp_model.specs.Happenings.{logged, frames_of, trees_of, world_with_entry}
use Rattle.tp_site.specs.State.{tree_of}
use Rattle.tp_network.specs.TreeSummary.{is_in}
use Rattle.tp_world.specs.Settled.{tree_started, IsSettledEntry}
use Rattle.tp_network.specs.Nodes.{AreChanged}
use Rattle.tp_world_sites.specs.Standing.{SitesStand, RestStands, AreNodes, after_entry, are_apart, is_placed}
use Rattle.tp_world.specs.World.{Mirrors}
use Rattle.tp_world_sites.specs.declared.site_slot.Entry.{Entry}
use Rattle.tp_world.specs.declared.world.World.{World as CodeWorld}
use Rattle.tp_network.specs.declared.nodes.NodeSlot.{NodeSlot}
use Rattle.tp_network.specs.declared.tree_summary.TreeChange.{TreeChange}
use Rattle.tp_world_sites.proofs.Entered.{with_entry, change_by, nodes_entered}
use Rattle.tp_world_sites.proofs.Found.{AreThere, apart_put, there_put, disk_there, each_placed, placed_put, placed_found}

-- ---- the tree that starts

in_now : (t : Aaid) (o : Option Current) → is_in t (option_map tree_of o) ≡ is_now t o
in_now t None = refl
in_now t (Some c) = go c.key
  where
    go : (k : Key) → is_in t (Some (tree_of (record c { key = k }))) ≡ is_now t (Some (record c { key = k }))
    go (Root a) = refl
    go (Under a b s) = refl

abbrev started_by : Option Current → Option Current → Option Aaid
started_by before behind = elim (root_of behind) [ None ↦ None | Some t ↦ if is_now t before then None else Some t ]

starts : (before behind : Option Current) (leaves : Bool) (rec : Option LogWords)
    → tree_started (record { before = option_map tree_of before; after = option_map tree_of behind; leaves = leaves; rec = rec }) ≡ started_by before behind
starts before None leaves rec = refl
starts before (Some c) leaves rec = go c.key
  where
    here : (t : Aaid) (b : Bool) → elim (true && not b) as (λ _. Option Aaid) [ true ↦ Some t | false ↦ None ] ≡ (if b then None else Some t)
    here t true = refl
    here t false = refl

    go : (k : Key) → tree_started (record { before = option_map tree_of before; after = Some (tree_of (record c { key = k })); leaves = leaves; rec = rec }) ≡ started_by before (Some (record c { key = k }))
    go (Root t) = here t (is_in t (option_map tree_of before)) ∙ ap (λ (b : Bool). if b then None else Some t) (in_now t before)
    go (Under t b a) = refl

pub started_same : (n : Node) (e : EntryValue) → tree_started (change_by n e) ≡ root_started (digest n.origin n.history) (digest n.origin (e ∷ n.history))
started_same n e = starts (digest n.origin n.history).current (digest n.origin (e ∷ n.history)).current (change_by n e).leaves (change_by n e).rec

-- ---- the world after an entry

logged_nodes : (w : World) (n : Node) (r : Option LogRec) → (logged w n r).nodes ≡ w.nodes
logged_nodes w n None = refl
logged_nodes w n (Some r) = refl

pub logged_frames : (w : World) (n : Node) (r : Option LogRec) → (logged w n r).frames ≡ w.frames
logged_frames w n None = refl
logged_frames w n (Some r) = refl

logged_trees : (w : World) (n : Node) (r : Option LogRec) → (logged w n r).trees ≡ w.trees
logged_trees w n None = refl
logged_trees w n (Some r) = refl

logged_drives : (w : World) (n : Node) (r : Option LogRec) → (logged w n r).drives ≡ w.drives
logged_drives w n None = refl
logged_drives w n (Some r) = refl

logged_sites : (w : World) (n : Node) (r : Option LogRec) (s : List ℕ) → is_some (find_site (logged w n r).sites s) ≡ is_some (find_site w.sites s)
logged_sites w n None s = refl
logged_sites w n (Some r) s = disk_there w.sites (site_of n) _ s

abbrev pub turn_world : World → Node → EntryValue → World
turn_world w n e = let v : World = logged (world_with_entry w n e) n e.rec in record v { frames = v.frames ++ frames_of (addr_of n) e.outs }

-- all but the sites, and nothing is sent yet
pub rest_entered : (w : World) (n : Node) (e : EntryValue) (old new : List NodeSlot) (fs : List Frame) (ts us : List Aaid) → RestStands w old fs ts → find_node w.nodes (number_of n) ≡ Some n → IsLegal n.origin n.superior (e ∷ n.history)
    → AreChanged (number_of n) (change_by n e) old new → us ≡ ts ++ trees_of (tree_started (change_by n e)) → RestStands (logged (world_with_entry w n e) n e.rec) new fs us
rest_entered w n e old new fs ts us r found legal changed started =
    let v : World = logged (world_with_entry w n e) n e.rec in
    let at : (v.nodes ≡ put_node w.nodes (with_entry n e)) = logged_nodes (world_with_entry w n e) n e.rec in
    let there : AreThere w v = record {
      nodes = λ k h. ap (λ (l : List Node). is_some (find_node l k)) at ∙ there_put w.nodes (with_entry n e) k ∙ h;
      sites = λ s h. logged_sites (world_with_entry w n e) n e.rec s ∙ h;
    } in
    let place : is_placed w (with_entry n e) ≡ true = placed_found w w.nodes (number_of n) n found r.placed in
    record {
      nodes = subst (λ (l : List Node). AreNodes l new) (sym at) (nodes_entered w.nodes old new n e legal found r.nodes changed);
      apart = ap are_apart at ∙ apart_put w.nodes (with_entry n e) ∙ r.apart;
      placed = subst (λ (l : List Node). AllByRecursion (λ z. is_placed v z ≡ true) l) (sym at)
          (each_placed w v (put_node w.nodes (with_entry n e)) there (placed_put w w.nodes (with_entry n e) place r.placed));
      frames = r.frames ∙ sym (logged_frames (world_with_entry w n e) n e.rec);
      few = subst (λ (l : List Frame). length l ≤ 65535) (sym (logged_frames (world_with_entry w n e) n e.rec)) r.few;
      trees = started ∙ ap (λ (l : List Aaid). l ++ trees_of (tree_started (change_by n e))) r.trees ∙ ap (λ (o : Option Aaid). w.trees ++ trees_of o) (started_same n e) ∙ sym (logged_trees (world_with_entry w n e) n e.rec);
      undriven = logged_drives (world_with_entry w n e) n e.rec ∙ r.undriven;
    }

-- what is known of the code's entry and of the world that it leaves
pub record IsBehind (w : World) (n : Node) (e : EntryValue) (x : Entry) (first last : List OutLine) (old mid new : CodeWorld) : Type 0 where
  pub stands : Mirrors w old
  pub found : find_node w.nodes (number_of n) ≡ Some n
  pub legal : IsLegal n.origin n.superior (e ∷ n.history)
  pub outs : x.outs ≡ e.outs
  pub change : x.change ≡ change_by n e
  pub sites : SitesStand (after_entry w n (Some e)) mid.sites.items
  pub nodes : mid.nodes ≡ old.nodes
  pub frames : mid.frames ≡ old.frames
  pub trees : mid.trees ≡ old.trees
  pub settled : IsSettledEntry (addr_of n) x first last mid new

pub rest_behind : (w : World) (n : Node) (e : EntryValue) (x : Entry) (first last : List OutLine) (old mid new : CodeWorld) → IsBehind w n e x first last old mid new
    → RestStands (turn_world w n e) new.nodes new.frames new.trees.items
rest_behind w n e x first last old mid new h =
    let r = h.stands.rest in
    let v : World = logged (world_with_entry w n e) n e.rec in
    let frames : new.frames ≡ v.frames ++ frames_of (addr_of n) e.outs =
    h.settled.frames
    ∙ ap (λ (l : List Frame). l ++ frames_of (addr_of n) x.outs) (h.frames ∙ r.frames ∙ sym (logged_frames (world_with_entry w n e) n e.rec))
    ∙ ap (λ l. v.frames ++ frames_of (addr_of n) l) h.outs
    in
    let changed : AreChanged (number_of n) (change_by n e) old.nodes new.nodes =
    subst (λ (q : TreeChange). AreChanged (number_of n) q old.nodes new.nodes) h.change (subst (λ (l : List NodeSlot). AreChanged (number_of n) x.change l new.nodes) h.nodes h.settled.nodes)
    in
    let trees : new.trees.items ≡ old.trees.items ++ trees_of (tree_started (change_by n e)) =
    h.settled.trees ∙ ap (λ t. t.items ++ trees_of (tree_started x.change)) h.trees ∙ ap (λ (q : TreeChange). old.trees.items ++ trees_of (tree_started q)) h.change
    in
    let rest : RestStands v new.nodes old.frames new.trees.items = rest_entered w n e old.nodes new.nodes old.frames old.trees.items new.trees.items r h.found h.legal changed trees in
    record {
      nodes = rest.nodes;
      apart = rest.apart;
      placed = rest.placed;
      frames = frames;
      few = subst (λ (l : List Frame). length l ≤ 65535) frames (h.settled.few (subst (λ (l : List Frame). length l ≤ 65535) (sym (h.frames ∙ r.frames)) r.few));
      trees = rest.trees;
      undriven = rest.undriven;
    }

pub stands_behind : (w : World) (n : Node) (e : EntryValue) (x : Entry) (first last : List OutLine) (old mid new : CodeWorld) → IsBehind w n e x first last old mid new → Mirrors (turn_world w n e) new
stands_behind w n e x first last old mid new h =
    let s : SitesStand (logged (world_with_entry w n e) n e.rec) new.sites.items = subst (λ v. SitesStand (logged (world_with_entry w n e) n e.rec) v.items) (sym h.settled.sites) h.sites in
    record { sites = record { sites = s.sites; known = s.known }; rest = rest_behind w n e x first last old mid new h }
