-- One more node of a site that starts again: it stops, and is declared again.
use Rattle.std.proofs.Common.{◌≡◌, ◌≤◌, ◌<◌, ◌==◌, ℕ, zero, suc, nat_le, Bool, true, false, cond, refl, ap, sym, ◌∙◌, subst, arith, Option, Some, None, Result, Ok, Err, List, [], ◌∷◌, length, slice_get, slice_index_or}
use Rattle.std.proofs.lemmas.Bool.Decides.{nat_tests}
use Rattle.tp_names.specs.declared.identifiers.Addr.{Addr}
use Rattle.tp_names.specs.Same.{is_name}
use Rattle.tp_names.proofs.Sames.{name_same}
use Rattle.tp_model.specs.Happenings.{restarted}
use Rattle.tp_model.specs.History.{digest, crash_entry, crashed}
use Rattle.tp_model.specs.Parts.{Who, Event}
use Rattle.tp_model.specs.declared.refusal.Refusal.{Refusal}
use Rattle.tp_model.specs.World.{Node, number_of, site_of, find_node, put_node}
use Rattle.tp_node.specs.declared.state.NodeTree.{NodeTree}
use Rattle.tp_site.specs.Nodes.{who_at}
use Rattle.tp_site.specs.Site.{known_at}
use Rattle.tp_site.specs.State.{tree_in}
use Rattle.tp_network.specs.Nodes.{AreChanged}
use Rattle.tp_network.specs.declared.nodes.NodeSlot.{NodeSlot}
use Rattle.tp_network.specs.declared.tree_summary.TreeChange.{TreeChange}
use Rattle.tp_world_sites.specs.declared.restart.LostEntry.{LostEntry}
use Rattle.tp_world_sites.specs.Restarts.{stopped, as_it_is, turned_at, restarted_to, tree_before, IsStopped, IsRestartedTo, RestartsTo}
use Rattle.tp_world_sites.specs.Sites.{known_by, unknown_at}
use Rattle.tp_world_sites.specs.Standing.{AreNodes, IsNode}
use Rattle.tp_world_sites.specs.Slots.{SlotPlays, HasHappened}
use Rattle.tp_world_sites.specs.declared.fault.WorldFault.{WorldFault}
use Rattle.tp_world_sites.specs.NodeAnswers.{Answer}
use Rattle.tp_world_sites.specs.declared.site_slot.Entry.{Entry}
use Rattle.tp_world_sites.specs.declared.site_slot.SiteSlot.{SiteSlot}
use Rattle.tp_world_sites.proofs.Again.{IsAgain, stopped_legal, again, never_refused, memory_alone}
use Rattle.tp_world_sites.proofs.Entered.{with_entry, change_by, nodes_entered}
use Rattle.tp_world_sites.proofs.Known.{find_put, known_here, newly_known}
use Rattle.tp_world_sites.proofs.Turned.{IsIndexed, indexed, none_past, find_at, found_to, put_to, same_to, put_twice}

self_number : (k : ℕ) → (k == k) ≡ true
self_number k = grind (arith, nat_tests)

-- ---- what the sites know of the node

-- before the stop, and as the site starts again
module _ (ns : List Node) (i : ℕ) (first old : SiteSlot) (lost : Option LostEntry) (xs : List NodeSlot) (y : SiteSlot) (stop : IsStopped ns old lost first) (to : IsRestartedTo ns i first xs y) (n : Node) (at : slice_get ns i ≡ Some n)
    (here : is_name (site_of n) first.site.nodes.site ≡ true) where
  abbrev s : List ℕ
  s = first.site.nodes.site

  pub tree_stood : tree_before old lost (number_of n) ≡ tree_in (digest n.origin n.history)
  tree_stood = stop.trees n (find_at ns i n stop.apart at) here

  pub known_stopped : known_at y.site (number_of n) ≡ digest n.origin (crashed n.history)
  known_stopped = to.known (number_of n) ∙ ap (known_by s (unknown_at y)) (found_to stopped (λ m. refl) s i ns n stop.apart at here) ∙ known_here s (unknown_at y) (stopped n) here

  same_who : (a : List ℕ) (w : Who) → a ≡ w.site → ◌≡◌ {A = Who} (record { site = a; node = w.node }) w
  same_who a w e = rw e refl

  pub who_stopped : who_at y.site.nodes (number_of n) ≡ n.origin.who
  who_stopped = same_who y.site.nodes.site n.origin.who (to.same.site ∙ sym (name_same (site_of n) s here))

  -- ---- the stop as a change

  change_made : (a b c d : Option NodeTree) → a ≡ b → c ≡ d → ◌≡◌ {A = TreeChange} (record { before = a; after = c; leaves = false; rec = None }) (record { before = b; after = d; leaves = false; rec = None })
  change_made a b c d p q = rw (p, q) refl

  pub stop_is : (before after : Option NodeTree) → before ≡ tree_before old lost (number_of n) → after ≡ tree_in (known_at y.site (number_of n))
      → ◌≡◌ {A = TreeChange} (record { before = before; after = after; leaves = false; rec = None }) (change_by n crash_entry)
  stop_is before after b a = change_made before (tree_in (digest n.origin n.history)) after (tree_in (digest n.origin (crashed n.history))) (b ∙ tree_stood) (a ∙ ap tree_in known_stopped)

  -- ---- the next one

  -- the nodes, once it has stopped, and once it is declared again
  abbrev now : List Node
  now = restarted_to as_it_is s i ns

  pub next_node : (slot : NodeSlot) (mid last : List NodeSlot) (x : Entry) (z : SiteSlot) → IsNode n slot → AreChanged (number_of n) (change_by n crash_entry) xs mid → IsAgain n y x z → AreChanged (number_of n) x.change mid last
      → IsRestartedTo ns (suc i) first last z
  next_node slot mid last x z is stops more declares =
      let found : find_node now (number_of n) ≡ Some n = found_to as_it_is (λ m. refl) s i ns n stop.apart at here in
      let mids : AreNodes (put_node now (stopped n)) mid = nodes_entered now xs mid n crash_entry (stopped_legal n is.legal) found to.nodes stops in
      let one : (number_of (stopped n) == number_of n) ≡ true = self_number (number_of n) in
      let there : find_node (put_node now (stopped n)) (number_of n) ≡ Some (stopped n) =
      find_put now (stopped n) n (number_of n) found ∙ ap (λ (b : Bool). cond b (Some (stopped n)) (find_node now (number_of n))) one in
      let ends : AreNodes (put_node (put_node now (stopped n)) (with_entry (stopped n) more.entry)) last =
      nodes_entered (put_node now (stopped n)) mid last (stopped n) more.entry (more.legal (stopped_legal n is.legal)) there mids (subst (λ (c : TreeChange). AreChanged (number_of n) c mid last) more.change declares) in
      let whole : AreNodes (put_node now (restarted n)) last =
      subst (λ (l : List Node). AreNodes l last) (put_twice now (stopped n) (restarted n) refl) (subst (λ (m : Node). AreNodes (put_node (put_node now (stopped n)) m) last) more.node ends) in
      let stand : find_node (restarted_to stopped s i ns) (number_of n) ≡ Some (stopped n) = found_to stopped (λ m. refl) s i ns n stop.apart at here in
      let next : restarted_to stopped s (suc i) ns ≡ put_node (restarted_to stopped s i ns) (restarted n) = put_to stopped (λ m. refl) s i ns n stop.apart at here in
      record {
        nodes = subst (λ (l : List Node). AreNodes l last) (sym (put_to as_it_is (λ m. refl) s i ns n stop.apart at here)) whole;
        known = λ k. newly_known (restarted_to stopped s i ns) (restarted_to stopped s (suc i) ns) (restarted n)
            (λ m. ap (λ (l : List Node). find_node l m) next ∙ find_put (restarted_to stopped s i ns) (restarted n) (stopped n) m stand) s y z k here more.site (more.known k) (to.known k);
        same = record { site = more.site.site ∙ to.same.site; boot = more.site.boot ∙ to.same.boot; version = more.site.version ∙ to.same.version };
        keeper = more.keeper ∙ to.keeper;
        unshut = more.unshut;
      }

-- a node of another site is what it was
pub next_apart : (ns : List Node) (i : ℕ) (first : SiteSlot) (xs : List NodeSlot) (y : SiteSlot) (n : Node) → IsRestartedTo ns i first xs y → slice_get ns i ≡ Some n → is_name (site_of n) first.site.nodes.site ≡ false
    → IsRestartedTo ns (suc i) first xs y
next_apart ns i first xs y n to at there = record {
  nodes = subst (λ (l : List Node). AreNodes l xs) (sym (same_to as_it_is (λ m. refl) first.site.nodes.site i ns n at there)) to.nodes;
  known = λ k. to.known k ∙ ap (λ (l : List Node). known_by first.site.nodes.site (unknown_at y) (find_node l k)) (sym (same_to stopped (λ m. refl) first.site.nodes.site i ns n at there));
  same = to.same;
  keeper = to.keeper;
  unshut = to.unshut;
}

-- ---- the node at the place, on both sides

pub record IsSelf (ns : List Node) (i : ℕ) (xs : List NodeSlot) (x : NodeSlot) : Type 0 where
  pub node : Node
  pub at : slice_get ns i ≡ Some node
  pub is : IsNode node x

pub at_self : (s : List ℕ) (ns : List Node) (i : ℕ) (xs : List NodeSlot) (x : NodeSlot) → AreNodes (restarted_to as_it_is s i ns) xs → i < length ns → slice_index_or xs i x ≡ x → IsSelf ns i xs x
at_self s ns i xs x are within is =
    let all : i < length xs = go (nat_le (length xs) i) refl in
    let both : IsIndexed ns i (slice_index_or xs i x) = indexed s i ns xs x are all in
    record { node = both.node; at = both.at; is = subst (IsNode both.node) is both.is }
  where
    go : (b : Bool) → nat_le (length xs) i ≡ b → i < length xs
    go true e = absurd (none_past s i ns xs are within (grind (arith, nat_tests, e)))
    go false e = grind (arith, nat_tests, e)

-- whether it is of the site
pub is_here : (ns : List Node) (i : ℕ) (first : SiteSlot) (xs : List NodeSlot) (y : SiteSlot) (x : NodeSlot) (to : IsRestartedTo ns i first xs y) (self : IsSelf ns i xs x) (name : List ℕ) (b : Bool) → name ≡ y.site.nodes.site
    → is_name x.addr.site name ≡ b → is_name (site_of self.node) first.site.nodes.site ≡ b
is_here ns i first xs y x to self name b named is =
    ap (λ (a : Addr). is_name a.site first.site.nodes.site) (sym self.is.addr) ∙ ap (is_name x.addr.site) (sym to.same.site ∙ sym named) ∙ is

module _ (ns : List Node) (i : ℕ) (first old : SiteSlot) (lost : Option LostEntry) (xs : List NodeSlot) (y : SiteSlot) (x : NodeSlot) (stop : IsStopped ns old lost first) (to : IsRestartedTo ns i first xs y) (self : IsSelf ns i xs x)
    (here : is_name (site_of self.node) first.site.nodes.site ≡ true) where
  abbrev n : Node
  n = self.node

  -- its number, and its superior
  number : x.addr.node ≡ number_of n
  number = ap (λ (a : Addr). a.node) self.is.addr

  plays_it : (r : Result Answer WorldFault) (z : SiteSlot) → SlotPlays y x.addr.node (Event.Declare x.superior) r z → SlotPlays y (number_of n) (Event.Declare n.superior) r z
  plays_it r z h = subst (λ (u : Option Addr). SlotPlays y (number_of n) (Event.Declare u) r z) self.is.superior (subst (λ (k : ℕ). SlotPlays y k (Event.Declare x.superior) r z) number h)

  who : who_at y.site.nodes (number_of n) ≡ n.origin.who
  who = who_stopped ns i first old lost xs y stop to n self.at here

  known : known_at y.site (number_of n) ≡ digest n.origin (crashed n.history)
  known = known_stopped ns i first old lost xs y stop to n self.at here

  pub node_never_refused : (k : ℕ) (z : SiteSlot) → SlotPlays y x.addr.node (Event.Declare x.superior) (Ok (Answer.Refused k)) z → ⊥
  node_never_refused k z h = never_refused n y z who known k (plays_it (Ok (Answer.Refused k)) z h)

  pub node_memory : (f : WorldFault) (z : SiteSlot) → SlotPlays y x.addr.node (Event.Declare x.superior) (Err f) z → f ≡ WorldFault.NoMemory
  node_memory f z h = memory_alone n y z who known f (plays_it (Err f) z h)

  pub node_again : (before after : Option NodeTree) (refusal : Option Refusal) (e : Entry) (z : SiteSlot) (mid last : List NodeSlot) → before ≡ tree_before old lost x.addr.node → after ≡ tree_in (known_at y.site x.addr.node)
      → AreChanged x.addr.node (record { before = before; after = after; leaves = false; rec = None }) xs mid → SlotPlays y x.addr.node (Event.Declare x.superior) (Ok (Answer.Happened refusal e)) z → AreChanged x.addr.node e.change mid last
      → IsRestartedTo ns (suc i) first last z
  node_again before after refusal e z mid last b f stops plays declares =
      let change : record { before = before; after = after; leaves = false; rec = None } ≡ change_by n crash_entry =
      stop_is ns i first old lost xs y stop to n self.at here before after (b ∙ ap (tree_before old lost) number) (f ∙ ap (λ (k : ℕ). tree_in (known_at y.site k)) number) in
      let happened : HasHappened y (number_of n) (Event.Declare n.superior) refusal e z = plays_it (Ok (Answer.Happened refusal e)) z plays in
      next_node ns i first old lost xs y stop to n self.at here x mid last e z self.is
      (subst (λ (k : ℕ). AreChanged k (change_by n crash_entry) xs mid) number (subst (λ (c : TreeChange). AreChanged x.addr.node c xs mid) change stops))
      (again n y z who known refusal e happened)
      (subst (λ (k : ℕ). AreChanged k e.change mid last) number declares)

-- ---- the loop

pub as_many : (s : List ℕ) (i : ℕ) (ns : List Node) (xs : List NodeSlot) → AreNodes (restarted_to as_it_is s i ns) xs → length xs ≡ length ns
as_many s i [] [] h = refl
as_many s i [] (x ∷ xs) h = absurd h
as_many s zero (n ∷ ns) [] h = absurd h
as_many s zero (n ∷ ns) (x ∷ xs) h = ap (λ (k : ℕ). suc k) (as_many s 0 ns xs h.1)
as_many s (suc i) (n ∷ ns) [] h = absurd h
as_many s (suc i) (n ∷ ns) (x ∷ xs) h = ap (λ (k : ℕ). suc k) (as_many s i ns xs h.1)

-- a fault says nothing of how many
pub any_count : (ns : List Node) (i j : ℕ) (first : SiteSlot) (f : WorldFault) (xs : List NodeSlot) (y : SiteSlot) → RestartsTo ns i first (Err f) xs y → RestartsTo ns j first (Err f) xs y
any_count ns i j first WorldFault.Name xs y h = absurd h
any_count ns i j first (WorldFault.Limit what) xs y h = absurd h
any_count ns i j first WorldFault.NoMemory xs y h = tt

pub memory_only : (ns : List Node) (i : ℕ) (first : SiteSlot) (f : WorldFault) (xs : List NodeSlot) (y : SiteSlot) → RestartsTo ns i first (Err f) xs y → f ≡ WorldFault.NoMemory
memory_only ns i first WorldFault.Name xs y h = absurd h
memory_only ns i first (WorldFault.Limit what) xs y h = absurd h
memory_only ns i first WorldFault.NoMemory xs y h = refl

past_to : (f : Node → Node) (s : List ℕ) (i : ℕ) (ns : List Node) → length ns ≤ i → restarted_to f s i ns ≡ restarted_to f s (length ns) ns
past_to f s i [] h = refl
past_to f s zero (n ∷ ns) h = absurd (omega (arith, h))
past_to f s (suc i) (n ∷ ns) h = ap (λ (l : List Node). turned_at restarted s n ∷ l) (past_to f s i ns (omega (arith, h)))

pub all_past : (ns : List Node) (i : ℕ) (first : SiteSlot) (xs : List NodeSlot) (y : SiteSlot) → length ns ≤ i → IsRestartedTo ns i first xs y → IsRestartedTo ns (length ns) first xs y
all_past ns i first xs y past to = record {
  nodes = subst (λ (l : List Node). AreNodes l xs) (past_to as_it_is first.site.nodes.site i ns past) to.nodes;
  known = λ k. to.known k ∙ ap (λ (l : List Node). known_by first.site.nodes.site (unknown_at y) (find_node l k)) (past_to stopped first.site.nodes.site i ns past);
  same = to.same;
  keeper = to.keeper;
  unshut = to.unshut;
}
