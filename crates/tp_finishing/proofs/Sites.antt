-- In every run, each node is at a site of the world.
use Rattle.std.proofs.Common.{◌≡◌, ℕ, Bool, true, false, refl, ap, sym, subst, ◌∙◌, arith, Option, Some, None, List, [], ◌∷◌, ◌++◌, ◌==◌}
use Rattle.tp_names.specs.declared.identifiers.Addr.{Addr}
use Rattle.tp_names.specs.Same.{is_name}
use Rattle.tp_names.proofs.Sames.{name_same, name_self}
use Rattle.tp_logrec.specs.declared.record.LogRec.{LogRec}
use Rattle.tp_model.specs.declared.line.Action.{Action}
use Rattle.tp_model.specs.declared.out_line.RecordFate.{RecordFate}
use Rattle.tp_model.specs.Parts.{Entry}
use Rattle.tp_model.specs.Disk.{Disk, Remains, forced, remains}
use Rattle.tp_model.specs.History.{answer}
use Rattle.tp_model.specs.World.{World, Node, Site, number_of, site_of, find_node, put_node, find_site, put_site, with_disk, addr_at}
use Rattle.tp_model.specs.Happenings.{Happening, Declare, Place, Declare_again, Stop, Does, Mark, Crash, Crash_in, Drive, Drop, WorldTurn, Task, task_of, task_here, still, after_lines, action_lines, logged, world_with_entry, entry_turn, action_turn, new_site, new_node, declared_at, declare_turn, restarted, restarted_at, booted, crash_turn, after_stop, stop_in_force, stop_in_entry, stop_in_task, crash_in_turn, bare_node, placed_at, place_turn, declared, declare_again_turn, stopped, stopped_at, stop_turn, happens, run}
use Rattle.tp_histories.proofs.worlds.Traversal.{ready_of}
use Rattle.tp_steps.proofs.lemmas.Options.{some_same}

-- ---- lists of nodes

abbrev pub EachNode : (Node → Type 0) → List Node → Type 0
EachNode P [] = Unit {0}
EachNode P (x ∷ xs) = P x × EachNode P xs

pub nodes_weaker : (P Q : Node → Type 0) → ((x : Node) → P x → Q x) → (ns : List Node) → EachNode P ns → EachNode Q ns
nodes_weaker P Q w [] h = tt
nodes_weaker P Q w (x ∷ xs) h = (w x h.0, nodes_weaker P Q w xs h.1)

pub nodes_found : (P : Node → Type 0) (ns : List Node) (n : ℕ) (x : Node) → EachNode P ns → find_node ns n ≡ Some x → P x
nodes_found P [] n x h i = absurd (cc (i))
nodes_found P (y ∷ ns) n x h i = go (number_of y == n) i (nodes_found P ns n x h.1)
  where
    go : (b : Bool) → elim b as (λ _. Option Node) [ true ↦ Some y | false ↦ find_node ns n ] ≡ Some x → (find_node ns n ≡ Some x → P x) → P x
    go true j rest = subst P (some_same y x j) h.0
    go false j rest = rest j

nodes_put : (P : Node → Type 0) (ns : List Node) (y : Node) → P y → EachNode P ns → EachNode P (put_node ns y)
nodes_put P [] y h i = tt
nodes_put P (x ∷ ns) y h i = go (number_of x == number_of y) (nodes_put P ns y h i.1)
  where
    go : (b : Bool) → EachNode P (put_node ns y) → EachNode P (elim b as (λ _. List Node) [ true ↦ y ∷ ns | false ↦ x ∷ put_node ns y ])
    go true rest = (h, i.1)
    go false rest = (i.0, rest)

nodes_more : (P : Node → Type 0) (ns : List Node) (y : Node) → P y → EachNode P ns → EachNode P (ns ++ y ∷ [])
nodes_more P [] y h i = (h, tt)
nodes_more P (x ∷ ns) y h i = (i.0, nodes_more P ns y h i.1)

-- what holds of the nodes of a site after its stop, and of the others before it
pub nodes_restarted : (P Q : Node → Type 0) (s : List ℕ) (ns : List Node) → ((x : Node) → is_name (site_of x) s ≡ true → P x → Q (restarted x)) → ((x : Node) → is_name (site_of x) s ≡ false → P x → Q x) → EachNode P ns → EachNode Q (restarted_at s ns)
nodes_restarted P Q s [] here there h = tt
nodes_restarted P Q s (x ∷ ns) here there h = go (is_name (site_of x) s) refl (nodes_restarted P Q s ns here there h.1)
  where
    go : (b : Bool) → is_name (site_of x) s ≡ b → EachNode Q (restarted_at s ns) → EachNode Q (elim b as (λ _. List Node) [ true ↦ restarted x ∷ restarted_at s ns | false ↦ x ∷ restarted_at s ns ])
    go true i rest = (here x i h.0, rest)
    go false i rest = (there x i h.0, rest)

-- ---- lists of sites

abbrev pub is_some_site : Option Site → Bool
is_some_site None = false
is_some_site (Some x) = true

abbrev pub has_site : List Site → List ℕ → Bool
has_site ss s = is_some_site (find_site ss s)

has_more : (ss : List Site) (y : Site) (s : List ℕ) → has_site ss s ≡ true → has_site (ss ++ y ∷ []) s ≡ true
has_more [] y s h = absurd (cc (h))
has_more (x ∷ ss) y s h = go (is_name x.name s) h (has_more ss y s)
  where
    go : (b : Bool) → is_some_site (elim b as (λ _. Option Site) [ true ↦ Some x | false ↦ find_site ss s ]) ≡ true → (has_site ss s ≡ true → has_site (ss ++ y ∷ []) s ≡ true)
        → is_some_site (elim b as (λ _. Option Site) [ true ↦ Some x | false ↦ find_site (ss ++ y ∷ []) s ]) ≡ true
    go true i rest = refl
    go false i rest = rest i

has_last : (ss : List Site) (y : Site) → has_site (ss ++ y ∷ []) y.name ≡ true
has_last [] y = rw (name_self y.name, has_site, find_site) refl
has_last (x ∷ ss) y = go (is_name x.name y.name) (has_last ss y)
  where
    go : (b : Bool) → has_site (ss ++ y ∷ []) y.name ≡ true → is_some_site (elim b as (λ _. Option Site) [ true ↦ Some x | false ↦ find_site (ss ++ y ∷ []) y.name ]) ≡ true
    go true rest = refl
    go false rest = rest

has_put : (ss : List Site) (y : Site) (s : List ℕ) → has_site ss s ≡ true → has_site (put_site ss y) s ≡ true
has_put [] y s h = h
has_put (x ∷ ss) y s h = go (is_name x.name y.name) refl (is_name x.name s) refl h (has_put ss y s)
  where
    go : (a : Bool) → is_name x.name y.name ≡ a → (b : Bool) → is_name x.name s ≡ b → is_some_site (elim b as (λ _. Option Site) [ true ↦ Some x | false ↦ find_site ss s ]) ≡ true → (has_site ss s ≡ true → has_site (put_site ss y) s ≡ true)
        → has_site (elim a as (λ _. List Site) [ true ↦ y ∷ ss | false ↦ x ∷ put_site ss y ]) s ≡ true
    go true i true j k rest = let own : is_name y.name s ≡ true = ap (λ (v : List ℕ). is_name v s) (sym (name_same x.name y.name i)) ∙ j in rw (own, has_site, find_site) refl
    go true i false j k rest = let own : is_name y.name s ≡ false = ap (λ (v : List ℕ). is_name v s) (sym (name_same x.name y.name i)) ∙ j in rw (own, has_site, find_site) k
    go false i true j k rest = rw (j, has_site, find_site) refl
    go false i false j k rest = rw (j, has_site, find_site) (rest k)

has_disk : (ss : List Site) (n : List ℕ) (f : Disk → Disk) (s : List ℕ) → has_site ss s ≡ true → has_site (with_disk ss n f) s ≡ true
has_disk ss n f s h = go (find_site ss n)
  where
    go : (o : Option Site) → has_site (elim o as (λ _. List Site) [ None ↦ ss | Some x ↦ put_site ss (record x { disk = f x.disk }) ]) s ≡ true
    go None = h
    go (Some x) = has_put ss (record x { disk = f x.disk }) s h

-- ---- every step

abbrev IsPlaced : List Site → Node → Type 0
IsPlaced ss x = has_site ss (site_of x) ≡ true

abbrev pub ArePlaced : World → Type 0
ArePlaced w = EachNode (IsPlaced w.sites) w.nodes

placed_later : (ss rs : List Site) (ns : List Node) → ((s : List ℕ) → has_site ss s ≡ true → has_site rs s ≡ true) → EachNode (IsPlaced ss) ns → EachNode (IsPlaced rs) ns
placed_later ss rs ns later h = nodes_weaker (IsPlaced ss) (IsPlaced rs) (λ x i. later (site_of x) i) ns h

placed_logged : (w : World) (x : Node) (r : Option LogRec) → ArePlaced w → ArePlaced (logged w x r)
placed_logged w x None h = h
placed_logged w x (Some r) h = placed_later w.sites (with_disk w.sites (site_of x) (forced r)) w.nodes (has_disk w.sites (site_of x) (forced r)) h

placed_entry : (w : World) (x : Node) (e : Entry) → IsPlaced w.sites x → ArePlaced w → ArePlaced (world_with_entry w x e)
placed_entry w x e at h = nodes_put (IsPlaced w.sites) w.nodes (record x { history = e ∷ x.history }) at h

placed_turn : (w : World) (x : Node) (number : Option ℕ) (o : Option Entry) → IsPlaced w.sites x → ArePlaced w → ArePlaced (entry_turn w x number o).world
placed_turn w x number None at h = h
placed_turn w x number (Some e) at h = placed_logged (world_with_entry w x e) x e.rec (placed_entry w x e at h)

task_placed : (w : World) (d : Action) (t : Task) → task_of w d ≡ Some t → ArePlaced w → IsPlaced w.sites t.node
task_placed w d t i h = nodes_found (IsPlaced w.sites) w.nodes (number_of t.node) t.node h (ready_of w d t i).here

placed_action : (w : World) (d : Action) → ArePlaced w → ArePlaced (action_turn w d).world
placed_action w d h = go (task_of w d) refl
  where
    go : (o : Option Task) → task_of w d ≡ o → ArePlaced (action_turn w d).world
    go None i = rw (i, action_turn) h
    go (Some t) i = let a = answer t.node.origin t.node.history t.event in rw (i, action_turn) (placed_turn w t.node a.number a.entry (task_placed w d t i h) h)

placed_crash : (w : World) (s : List ℕ) → ArePlaced w → ArePlaced (crash_turn w s).world
placed_crash w s h = go (find_site w.sites s) refl
  where
    go : (o : Option Site) → find_site w.sites s ≡ o → ArePlaced (crash_turn w s).world
    go None i = rw (i, crash_turn) h
    go (Some x) i = rw (i, crash_turn) (placed_later w.sites (put_site w.sites (booted x)) (restarted_at s w.nodes) (has_put w.sites (booted x)) (nodes_restarted (IsPlaced w.sites) (IsPlaced w.sites) s w.nodes (λ y j k. k) (λ y j k. k) h))

placed_force : (w : World) (n : Node) (x : Site) (e : Entry) (st : Remains) → IsPlaced w.sites n → ArePlaced w → ArePlaced (stop_in_force w n x e st).world
placed_force w n x e st at h = go st.fate
  where
    y : Site
    y = record x { disk = st.disk }

    v : World
    v = record w { sites = put_site w.sites y }

    here : ArePlaced v
    here = placed_later w.sites (put_site w.sites y) w.nodes (has_put w.sites y) h

    go : (f : RecordFate) → ArePlaced (crash_turn (elim f as (λ _. World) [ RecordFate.Kept ↦ world_with_entry v n e | RecordFate.Lost ↦ v | RecordFate.None ↦ v ]) x.name).world
    go RecordFate.Kept = placed_crash (world_with_entry v n e) x.name (placed_entry v n e (has_put w.sites y (site_of n) at) here)
    go RecordFate.Lost = placed_crash v x.name here
    go RecordFate.None = placed_crash v x.name here

placed_stop : (w : World) (n : Node) (x : Site) (call fill : ℕ) (o : Option Entry) → IsPlaced w.sites n → ArePlaced w → ArePlaced (stop_in_entry w n x call fill o).world
placed_stop w n x call fill None at h = placed_crash w x.name h
placed_stop w n x call fill (Some e) at h = go e.rec
  where
    go : (r : Option LogRec) → ArePlaced (elim r as (λ _. WorldTurn) [ None ↦ after_stop (world_with_entry w n e) x.name RecordFate.None | Some l ↦ stop_in_force w n x e (remains call fill l x.disk) ]).world
    go None = placed_crash (world_with_entry w n e) x.name (placed_entry w n e at h)
    go (Some l) = placed_force w n x e (remains call fill l x.disk) at h

placed_crash_in : (w : World) (s : List ℕ) (call fill : ℕ) (d : Action) → ArePlaced w → ArePlaced (crash_in_turn w s call fill d).world
placed_crash_in w s call fill d h = go (find_site w.sites s) refl
  where
    one_task : (x : Site) (t u : Task) → task_here x (Some t) ≡ Some u → t ≡ u
    one_task x t u j = grind (arith, j)

    here : (x : Site) (o : Option Task) → task_of w d ≡ o → (b : Option Task) → task_here x o ≡ b
        → ArePlaced (elim b as (λ _. WorldTurn) [ None ↦ still w | Some t ↦ after_lines (action_lines d) (stop_in_task w x call fill t) ]).world
    here x o i None j = h
    here x None i (Some u) j = absurd (cc (j))
    here x (Some t) i (Some u) j = placed_stop w u.node x call fill (answer u.node.origin u.node.history u.event).entry (subst (λ (v : Task). IsPlaced w.sites v.node) (one_task x t u j) (task_placed w d t i h)) h

    go : (o : Option Site) → find_site w.sites s ≡ o → ArePlaced (crash_in_turn w s call fill d).world
    go None i = rw (i, crash_in_turn) h
    go (Some x) i = rw (i, crash_in_turn) (here x (task_of w d) refl (task_here x (task_of w d)) refl)

placed_new : (w : World) (n : ℕ) (s : List ℕ) (up : Option Addr) → ArePlaced w → ArePlaced (declared_at w n s up).world
placed_new w n s up h = go (find_site w.sites s) refl
  where
    go : (o : Option Site) → find_site w.sites s ≡ o → ArePlaced (declared_at w n s up).world
    go None i = rw (i, declared_at) (nodes_more (IsPlaced (w.sites ++ new_site s ∷ [])) w.nodes (new_node s n 1 up) (has_last w.sites (new_site s)) (placed_later w.sites (w.sites ++ new_site s ∷ []) w.nodes (has_more w.sites (new_site s)) h))
    go (Some x) i = rw (i, declared_at) (nodes_more (IsPlaced w.sites) w.nodes (new_node s n x.boot up) (ap is_some_site i) h)

placed_declare : (w : World) (n : ℕ) (s : List ℕ) (under : Option ℕ) → ArePlaced w → ArePlaced (declare_turn w n s under).world
placed_declare w n s under h = go (find_node w.nodes n) refl
  where
    above : (o : Option Addr) → ArePlaced (elim o as (λ _. WorldTurn) [ None ↦ still w | Some a ↦ declared_at w n s (Some a) ]).world
    above None = h
    above (Some a) = placed_new w n s (Some a) h

    below : (u : Option ℕ) → ArePlaced (elim u as (λ _. WorldTurn) [ None ↦ declared_at w n s None | Some p ↦ elim (addr_at w p) as (λ _. WorldTurn) [ None ↦ still w | Some a ↦ declared_at w n s (Some a) ] ]).world
    below None = placed_new w n s None h
    below (Some p) = above (addr_at w p)

    go : (o : Option Node) → find_node w.nodes n ≡ o → ArePlaced (declare_turn w n s under).world
    go None i = rw (i, declare_turn) (below under)
    go (Some x) i = rw (i, declare_turn) h

placed_bare : (w : World) (n : ℕ) (s : List ℕ) (up : Option Addr) → ArePlaced w → ArePlaced (placed_at w n s up).world
placed_bare w n s up h = go (find_site w.sites s) refl
  where
    go : (o : Option Site) → find_site w.sites s ≡ o → ArePlaced (placed_at w n s up).world
    go None i = rw (i, placed_at) (nodes_more (IsPlaced (w.sites ++ new_site s ∷ [])) w.nodes (bare_node s n 1 up) (has_last w.sites (new_site s)) (placed_later w.sites (w.sites ++ new_site s ∷ []) w.nodes (has_more w.sites (new_site s)) h))
    go (Some x) i = rw (i, placed_at) (nodes_more (IsPlaced w.sites) w.nodes (bare_node s n x.boot up) (ap is_some_site i) h)

placed_place : (w : World) (n : ℕ) (s : List ℕ) (under : Option ℕ) → ArePlaced w → ArePlaced (place_turn w n s under).world
placed_place w n s under h = go (find_node w.nodes n) refl
  where
    above : (o : Option Addr) → ArePlaced (elim o as (λ _. WorldTurn) [ None ↦ still w | Some a ↦ placed_at w n s (Some a) ]).world
    above None = h
    above (Some a) = placed_bare w n s (Some a) h

    below : (u : Option ℕ) → ArePlaced (elim u as (λ _. WorldTurn) [ None ↦ placed_at w n s None | Some p ↦ elim (addr_at w p) as (λ _. WorldTurn) [ None ↦ still w | Some a ↦ placed_at w n s (Some a) ] ]).world
    below None = placed_bare w n s None h
    below (Some p) = above (addr_at w p)

    go : (o : Option Node) → find_node w.nodes n ≡ o → ArePlaced (place_turn w n s under).world
    go None i = rw (i, place_turn) (below under)
    go (Some x) i = rw (i, place_turn) h

placed_declared : (w : World) (n : ℕ) → ArePlaced w → ArePlaced (declare_again_turn w n).world
placed_declared w n h = go (find_node w.nodes n) refl
  where
    go : (o : Option Node) → find_node w.nodes n ≡ o → ArePlaced (declare_again_turn w n).world
    go None i = rw (i, declare_again_turn) h
    go (Some x) i = rw (i, declare_again_turn) (nodes_put (IsPlaced w.sites) w.nodes (declared x) (nodes_found (IsPlaced w.sites) w.nodes n x h i) h)

placed_stopped : (s : List ℕ) (ss : List Site) (ns : List Node) → EachNode (IsPlaced ss) ns → EachNode (IsPlaced ss) (stopped_at s ns)
placed_stopped s ss [] h = tt
placed_stopped s ss (x ∷ ns) h = go (is_name (site_of x) s) (placed_stopped s ss ns h.1)
  where
    go : (b : Bool) → EachNode (IsPlaced ss) (stopped_at s ns) → EachNode (IsPlaced ss) (elim b as (λ _. List Node) [ true ↦ stopped x ∷ stopped_at s ns | false ↦ x ∷ stopped_at s ns ])
    go true rest = (h.0, rest)
    go false rest = (h.0, rest)

placed_stop_turn : (w : World) (s : List ℕ) → ArePlaced w → ArePlaced (stop_turn w s).world
placed_stop_turn w s h = go (find_site w.sites s) refl
  where
    go : (o : Option Site) → find_site w.sites s ≡ o → ArePlaced (stop_turn w s).world
    go None i = rw (i, stop_turn) h
    go (Some x) i = rw (i, stop_turn) (placed_later w.sites (put_site w.sites (booted x)) (stopped_at s w.nodes) (has_put w.sites (booted x)) (placed_stopped s w.sites w.nodes h))

placed_happens : (w : World) (e : Happening) → ArePlaced w → ArePlaced (happens w e).world
placed_happens w (Declare n s under) h = placed_declare w n s under h
placed_happens w (Does d) h = placed_action w d h
placed_happens w (Mark k) h = h
placed_happens w (Crash s) h = placed_crash w s h
placed_happens w (Crash_in s call fill d) h = placed_crash_in w s call fill d h
placed_happens w (Place n s under) h = placed_place w n s under h
placed_happens w (Declare_again n) h = placed_declared w n h
placed_happens w (Stop s) h = placed_stop_turn w s h
placed_happens w (Drive n k) h = h
placed_happens w (Drop k) h = h

pub placed_run : (es : List Happening) → ArePlaced (run es)
placed_run [] = tt
placed_run (e ∷ es) = placed_happens (run es) e (placed_run es)
