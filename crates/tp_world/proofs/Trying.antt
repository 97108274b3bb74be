-- A node is asked for its answer: the code's look-ups, and the task of the definitions.
use Rattle.std.proofs.Common.{◌≡◌, ℕ, true, refl, ap, sym, subst, ◌∙◌, Option, Some, None, List, Result, length}
use Rattle.std.specs.Vec.{with_items}
use Rattle.std.specs.Option.{option_map}
use Rattle.std.proofs.lemmas.List.{with_items_is}
use Rattle.tp_names.specs.declared.identifiers.Addr.{Addr}
use Rattle.tp_records.specs.declared.request.Request.{Request}
use Rattle.tp_model.specs.declared.line.LineRequest.{LineRequest}
use Rattle.tp_model.specs.Parts.{Event}
use Rattle.tp_model.specs.World.{World, Node, Frame, number_of, addr_of, find_node, find_frame}
use Rattle.tp_model.specs.Happenings as model
use Rattle.tp_model.specs.declared.line.Action.{Action}
use Rattle.tp_model.specs.Happenings.{Task, task_at, task_of}
use Rattle.tp_network.specs.Nodes.{address_at}
use Rattle.tp_world_sites.specs.Requests.{request_in}
use Rattle.tp_world_sites.specs.Standing.{SitesStand, PlaysAt, are_apart, is_placed}
use Rattle.tp_world.specs.World.{Mirrors}
use Rattle.tp_world_sites.specs.declared.fault.WorldFault.{WorldFault}
use Rattle.tp_world_sites.specs.NodeAnswers.{Answer}
use Rattle.tp_world_sites.specs.declared.site_slot.SiteSlot.{SiteSlot}
use Rattle.tp_world.specs.declared.world.World.{World as CodeWorld}
use Rattle.tp_world_sites.proofs.Found.{find_self, placed_found}
use Rattle.tp_world.proofs.Stood.{address_stood, frame_same}

abbrev pub found_task : Option Node → Event → Option Task
found_task o e = elim o [ None ↦ None | Some x ↦ Some (record { node = x; event = e }) ]

-- the site's answer, and the task that it answers
pub record IsPlayed (w : World) (o : Option Task) (e : Event) (addr : Addr) (r : Result Answer WorldFault) (xs : List SiteSlot) : Type 0 where
  pub node : Node
  pub task : o ≡ Some (record { node = node; event = e })
  pub found : find_node w.nodes (number_of node) ≡ Some node
  pub place : addr ≡ addr_of node
  pub plays : PlaysAt w node e r xs

pub is_played : (w : World) (v : CodeWorld) (k : ℕ) (e : Event) (place : Addr) (r : Result Answer WorldFault) (lent xs : List SiteSlot) → Mirrors w v → Some place ≡ address_at v.nodes k → lent ≡ v.sites.items
    → ((n : Node) → SitesStand w lent → are_apart w.nodes ≡ true → find_node w.nodes (number_of n) ≡ Some n → is_placed w n ≡ true → place ≡ addr_of n → PlaysAt w n e r xs)
    → IsPlayed w (task_at w k e) e place r xs
is_played w v k e place r lent xs h there same plays = go (find_node w.nodes k) refl (there ∙ address_stood w v k h)
  where
    go : (o : Option Node) → find_node w.nodes k ≡ o → Some place ≡ option_map addr_of o → IsPlayed w (found_task o e) e place r xs
    go None f i = absurd cc
    go (Some n) f i =
        let at : place ≡ addr_of n = cc (i) in
        record {
          node = n;
          task = refl;
          found = find_self w.nodes k n f;
          place = at;
          plays = plays n (subst (SitesStand w) (sym same) h.sites) h.rest.apart (find_self w.nodes k n f) (placed_found w w.nodes k n f h.rest.placed) at;
        }

-- the sites were lent, and are given back
abbrev pub lent_back : CodeWorld → List SiteSlot → CodeWorld
lent_back v xs = record v { sites = with_items v.sites xs }

pub lent_items : (v : CodeWorld) (lent xs : List SiteSlot) → lent ≡ v.sites.items → length xs ≡ length lent → (lent_back v xs).sites.items ≡ xs
lent_items v lent xs same keeps = with_items_is v.sites xs (keeps ∙ ap length same ∙ sym v.sites.ok.0)

-- ---- there is no such node

pub not_some : {A : Type 0} (o : Option A) → ((x : A) → o ≡ Some x → ⊥) → o ≡ None
not_some None h = refl
not_some (Some x) h = absurd (h x refl)

-- ---- requests and frames

pub request_same : (w : World) (v : CodeWorld) (r : LineRequest) → Mirrors w v → request_in v.nodes r ≡ model.request_in w r
request_same w v (LineRequest.BeginDialogue p u) h = go (find_node w.nodes p) (address_stood w v p h)
  where
    go : (o : Option Node) → address_at v.nodes p ≡ option_map addr_of o
        → elim (address_at v.nodes p) as (λ _. Option Request) [ None ↦ None | Some a ↦ Some (Request.BeginDialogue a u) ]
        ≡ elim (elim o as (λ _. Option Addr) [ None ↦ None | Some x ↦ Some (addr_of x) ]) as (λ _. Option Request) [ None ↦ None | Some a ↦ Some (Request.BeginDialogue a u) ]
    go None i = ap (λ (q : Option Addr). elim q as (λ _. Option Request) [ None ↦ None | Some a ↦ Some (Request.BeginDialogue a u) ]) i
    go (Some n) i = ap (λ (q : Option Addr). elim q as (λ _. Option Request) [ None ↦ None | Some a ↦ Some (Request.BeginDialogue a u) ]) i
request_same w v (LineRequest.Accept u) h = refl
request_same w v LineRequest.Reject h = refl
request_same w v (LineRequest.EndDialogue p) h = refl
request_same w v (LineRequest.UserData p xs) h = refl
request_same w v (LineRequest.UError p) h = refl
request_same w v (LineRequest.UAbort p) h = refl
request_same w v (LineRequest.Grant p) h = refl
request_same w v (LineRequest.AskControl p) h = refl
request_same w v (LineRequest.Handshake p) h = refl
request_same w v (LineRequest.Respond p) h = refl
request_same w v (LineRequest.HandshakeGrant p) h = refl
request_same w v (LineRequest.BeginTransaction p) h = refl
request_same w v (LineRequest.DeferEnd p) h = refl
request_same w v (LineRequest.DeferGrant p) h = refl
request_same w v (LineRequest.Prepare p) h = refl
request_same w v LineRequest.Commit h = refl
request_same w v LineRequest.Done h = refl
request_same w v LineRequest.Rollback h = refl
request_same w v LineRequest.Unchanged h = refl

pub task_asked : (w : World) (v : CodeWorld) (k : ℕ) (r : LineRequest) (o : Option Request) → Mirrors w v → o ≡ request_in v.nodes r
    → task_of w (Action.Do k r) ≡ elim o as (λ _. Option Task) [ None ↦ None | Some q ↦ task_at w k (Event.Do q) ]
task_asked w v k r o h e = ap (λ (x : Option Request). elim x as (λ _. Option Task) [ None ↦ None | Some q ↦ task_at w k (Event.Do q) ]) (sym (e ∙ request_same w v r h))

pub task_delivered : (w : World) (v : CodeWorld) (k : ℕ) (o : Option Frame) → Mirrors w v → o ≡ find_frame v.frames k
    → task_of w (Action.Again k) ≡ elim o as (λ _. Option Task) [ None ↦ None | Some f ↦ task_at w f.to.node (Event.Arrive f.from f.rec) ]
task_delivered w v k o h e = ap (λ (x : Option Frame). elim x as (λ _. Option Task) [ None ↦ None | Some f ↦ task_at w f.to.node (Event.Arrive f.from f.rec) ]) (sym (e ∙ frame_same w v k h))
