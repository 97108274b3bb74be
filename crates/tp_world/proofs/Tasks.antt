-- The event of a node, in the definitions and in the code: what the answer of its site gives.
use Rattle.std.proofs.Common.{◌≡◌, ◌++◌, ℕ, sym, subst, ◌∙◌, Option, Some, None, List, Result, Ok, Err}
use Rattle.std.proofs.lemmas.List.{append-nil}
use Rattle.tp_names.specs.declared.identifiers.Addr.{Addr}
use Rattle.tp_model.specs.declared.out_line.OutLine.{OutLine}
use Rattle.tp_model.specs.declared.verdict.What.{What}
use Rattle.tp_model.specs.Parts.{Event, Entry as EntryValue}
use Rattle.tp_model.specs.Legal.{IsUnder}
use Rattle.tp_model.specs.World.{World, Node, number_of, addr_of, find_node}
use Rattle.tp_model.specs.Happenings.{Task, task_at, entry_turn, still, after_lines}
use Rattle.tp_model.specs.Lines.{within_limits}
use Rattle.tp_network.specs.Nodes.{address_at}
use Rattle.tp_world.specs.Settled.{Settles}
use Rattle.tp_world_sites.specs.Slots.{number_told, entry_told}
use Rattle.tp_world_sites.specs.Standing.{SitesStand, PlaysAt, after_entry, entry_answered, number_answered}
use Rattle.tp_world.specs.World.{Mirrors, Gives, task_turn}
use Rattle.tp_network.specs.declared.fault.SendFault.{SendFault}
use Rattle.tp_world_sites.specs.declared.fault.WorldFault.{WorldFault}
use Rattle.tp_world_sites.specs.NodeAnswers.{Answer}
use Rattle.tp_world_sites.specs.declared.site_slot.SiteSlot.{SiteSlot}
use Rattle.tp_world.specs.declared.world.World.{World as CodeWorld}
use Rattle.tp_world_sites.proofs.Entered.{legal_found}
use Rattle.tp_world_sites.proofs.Grown.{answered_legal}
use Rattle.tp_world.proofs.Limits.{not_full, within_all, gives_ok}
use Rattle.tp_world.proofs.Settling.{IsAnswered, told_by, answer_gives, log_gives}
use Rattle.tp_world.proofs.Stood.{address_stood}
use Rattle.tp_world.proofs.Trying.{IsPlayed, found_task}

-- ---- the node has answered

-- only its site has changed
pub record IsPlayedIn (old mid : CodeWorld) (xs : List SiteSlot) : Type 0 where
  pub sites : mid.sites.items ≡ xs
  pub nodes : mid.nodes ≡ old.nodes
  pub frames : mid.frames ≡ old.frames
  pub trees : mid.trees ≡ old.trees

answered : (w : World) (o : Option Task) (e : Event) (place : Addr) (a : Answer) (xs : List SiteSlot) (old mid : CodeWorld) → Mirrors w old → ((up : Option Addr) → IsUnder up e)
    → (p : IsPlayed w o e place (Ok a) xs) → IsPlayedIn old mid xs → IsAnswered w p.node (entry_answered p.node e) (entry_told a) old mid
answered w o e place a xs old mid h under p i =
    let n : Node = p.node in
    record {
      stands = h;
      found = p.found;
      legal = λ (y : EntryValue) at. answered_legal n.origin n.superior n.history e y (under n.superior) (legal_found w.nodes old.nodes (number_of n) n h.rest.nodes p.found) at;
      entry = p.plays.1;
      sites = subst (SitesStand (after_entry w n (entry_answered n e))) (sym i.sites) p.plays.2;
      nodes = i.nodes;
      frames = i.frames;
      trees = i.trees;
    }

pub played_gives : (w : World) (ls : List OutLine) (o : Option Task) (e : Event) (place : Addr) (a : Answer) (xs : List SiteSlot) (before first after : List OutLine) (r : Result (Unit {0}) SendFault) (old mid new : CodeWorld)
    → Mirrors w old → ((up : Option Addr) → IsUnder up e) → IsPlayed w o e place (Ok a) xs → IsPlayedIn old mid xs → first ≡ before ++ ls → Settles place a first r after mid new
    → Gives (within_limits (task_turn w ls o)) before (told_by r) after new
played_gives w ls o e place a xs before first after r old mid new h under p i start s =
    let n : Node = p.node in
    let settled : Settles (addr_of n) a first r after mid new = subst (λ (q : Addr). Settles q a first r after mid new) p.place s in
    subst (λ (q : Option Task). Gives (within_limits (task_turn w ls q)) before (told_by r) after new) (sym p.task)
    (subst (λ (k : Option ℕ). Gives (within_limits (after_lines ls (entry_turn w n k (entry_answered n e)))) before (told_by r) after new) p.plays.0
    (answer_gives w n (entry_answered n e) (entry_told a) ls before first after (number_told a) r old mid new (answered w o e place a xs old mid h under p i) start settled))

-- ---- it has not

pub played_fault : (w : World) (ls : List OutLine) (o : Option Task) (e : Event) (place : Addr) (f : WorldFault) (xs : List SiteSlot) (before after : List OutLine) (new : CodeWorld)
    → IsPlayed w o e place (Err f) xs → Gives (within_limits (task_turn w ls o)) before (Err f) after new
played_fault w ls o e place f xs before after new p =
    subst (λ (q : Option Task). Gives (within_limits (task_turn w ls q)) before (Err f) after new) (sym p.task) (go f p.plays)
  where
    go : (g : WorldFault) → PlaysAt w p.node e (Err g) xs → Gives (within_limits (task_turn w ls (Some (record { node = p.node; event = e })))) before (Err g) after new
    go WorldFault.Name i = absurd i
    go (WorldFault.Limit what) i =
        subst (λ (q : What). Gives (within_limits (task_turn w ls (Some (record { node = p.node; event = e })))) before (Err (WorldFault.Limit q)) after new) (sym i.0)
        (log_gives w p.node (entry_answered p.node e) ls before after (number_answered p.node e) new i.1)
    go WorldFault.NoMemory i = tt

-- there is no such node
pub none_gives : (w : World) (ls before : List OutLine) (u : Unit {0}) (v : CodeWorld) → Mirrors w v → Gives (within_limits (task_turn w ls None)) before (Ok u) before v
none_gives w ls before u v h =
    gives_ok (within_limits (still w)) (still w) before before v u (within_all (still w) (not_full w.sites v.sites.items h.sites.sites) h.rest.few) (sym (append-nil before)) h

pub missing_gives : (w : World) (ls before : List OutLine) (k : ℕ) (e : Event) (u : Unit {0}) (v : CodeWorld) → Mirrors w v → None ≡ address_at v.nodes k → Gives (within_limits (task_turn w ls (task_at w k e))) before (Ok u) before v
missing_gives w ls before k e u v h there = go (find_node w.nodes k) (there ∙ address_stood w v k h)
  where
    go : (o : Option Node) → None ≡ elim o as (λ _. Option Addr) [ None ↦ None | Some x ↦ Some (addr_of x) ] → Gives (within_limits (task_turn w ls (found_task o e))) before (Ok u) before v
    go None i = none_gives w ls before u v h
    go (Some n) i = absurd cc
