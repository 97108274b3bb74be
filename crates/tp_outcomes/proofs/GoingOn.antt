-- In every run, a node stays, and its history goes on.
use Rattle.std.proofs.Common.{◌≡◌, ℕ, Bool, true, false, cond, refl, ap, sym, subst, ◌∙◌, arith, Option, Some, None, List, [], ◌∷◌, ◌++◌, ◌==◌}
use Rattle.std.proofs.lemmas.Bool.Decides.{nat_tests}
use Rattle.tp_names.specs.declared.identifiers.Addr.{Addr}
use Rattle.tp_names.specs.Same.{is_name}
use Rattle.tp_logrec.specs.declared.record.LogRec.{LogRec}
use Rattle.tp_model.specs.declared.line.Action.{Action}
use Rattle.tp_model.specs.declared.out_line.RecordFate.{RecordFate}
use Rattle.tp_model.specs.Parts.{Event, Entry}
use Rattle.tp_model.specs.History.{answer, with_entry, crashed, crash_entry}
use Rattle.tp_model.specs.Disk.{Remains, remains}
use Rattle.tp_model.specs.World.{World, Node, Site, number_of, site_of, find_node, put_node, find_site, put_site}
use Rattle.tp_model.specs.Happenings.{still, after_lines, action_lines, after_stop, crash_turn, Happening, Task, task_of, entry_turn, action_turn, new_node, bare_node, declare_again_turn, stop_in_force, stop_in_entry, stop_in_task, task_here, crash_in_turn, happens, run, world_with_entry, WorldTurn}
use Rattle.tp_outcomes.specs.Staying.{GoesOn, NodesStay}
use Rattle.tp_histories.proofs.worlds.Nodes.{find_is, find_put}
use Rattle.tp_histories.proofs.worlds.Turns.{turn_at, by_site, turn_under, by_superior, restarts, halts, anew, anew_at, turn_anew, by_start, by_declaration}
use Rattle.tp_histories.proofs.worlds.Traversal.{Ready, ready_of, logged_nodes}

-- ---- a node, and lists of nodes

pub goes_still : (x : Node) → GoesOn x x
goes_still x = record { origin = refl; superior = refl; since = []; history = refl }

joined : (xs ys zs : List Entry) → xs ++ (ys ++ zs) ≡ (xs ++ ys) ++ zs
joined [] ys zs = refl
joined (x ∷ xs) ys zs = ap (λ (l : List Entry). x ∷ l) (joined xs ys zs)

pub goes_then : (x y z : Node) → GoesOn x y → GoesOn y z → GoesOn x z
goes_then x y z a b = record {
  origin = b.origin ∙ a.origin;
  superior = b.superior ∙ a.superior;
  since = b.since ++ a.since;
  history = b.history ∙ ap (λ (l : List Entry). b.since ++ l) a.history ∙ joined b.since a.since x.history;
}

goes_with : (x : Node) (es : List Entry) → GoesOn x (record x { history = es ++ x.history })
goes_with x es = record { origin = refl; superior = refl; since = es; history = refl }

-- each node of the first list is in the second, later
abbrev pub Onward : List Node → List Node → Type 0
Onward ns ms = (n : ℕ) (x : Node) → find_node ns n ≡ Some x → (y : Node) × (find_node ms n ≡ Some y) × GoesOn x y

onward_same : (ns ms : List Node) → ms ≡ ns → Onward ns ms
onward_same ns ms h n x i = (x, ap (λ (l : List Node). find_node l n) h ∙ i, goes_still x)

onward_then : (ns ms ls : List Node) → Onward ns ms → Onward ms ls → Onward ns ls
onward_then ns ms ls a b n x i =
    let y = a n x i in
    let z = b n y.0 y.1 in
    (z.0, z.1, goes_then x y.0 z.0 y.2 z.2)

found_more : (ns ms : List Node) (n : ℕ) (x : Node) → find_node ns n ≡ Some x → find_node (ns ++ ms) n ≡ Some x
found_more [] ms n x h = absurd (cc (h))
found_more (y ∷ ns) ms n x h = go (number_of y == n) refl (found_more ns ms n x)
  where
    eq : (l : List Node) (b : Bool) → (number_of y == n) ≡ b → find_node (y ∷ l) n ≡ elim b as (λ _. Option Node) [ true ↦ Some y | false ↦ find_node l n ]
    eq l b i = ap (λ (v : Bool). elim v as (λ _. Option Node) [ true ↦ Some y | false ↦ find_node l n ]) i

    go : (b : Bool) → (number_of y == n) ≡ b → (find_node ns n ≡ Some x → find_node (ns ++ ms) n ≡ Some x) → find_node (y ∷ (ns ++ ms)) n ≡ Some x
    go true i rest = eq (ns ++ ms) true i ∙ sym (eq ns true i) ∙ h
    go false i rest = eq (ns ++ ms) false i ∙ rest (sym (eq ns false i) ∙ h)

onward_more : (ns ms : List Node) → Onward ns (ns ++ ms)
onward_more ns ms n x i = (x, found_more ns ms n x i, goes_still x)

-- a node's history gains entries
onward_put : (ns : List Node) (u : Node) (es : List Entry) → find_node ns (number_of u) ≡ Some u → Onward ns (put_node ns (record u { history = es ++ u.history }))
onward_put ns u es here n x i = go (number_of u == n) refl
  where
    v : Node
    v = record u { history = es ++ u.history }

    at : find_node (put_node ns v) n ≡ cond (number_of u == n) (Some v) (find_node ns n)
    at = find_put ns v u n here

    go : (b : Bool) → (number_of u == n) ≡ b → (y : Node) × (find_node (put_node ns v) n ≡ Some y) × GoesOn x y
    go false j = (x, at ∙ ap (λ (b : Bool). cond b (Some v) (find_node ns n)) j ∙ i, goes_still x)
    go true j =
        let num : number_of u ≡ n = grind (arith, nat_tests, j) in
        let same : u ≡ x = some_node u x (sym here ∙ ap (find_node ns) num ∙ i) in
        (v, at ∙ ap (λ (b : Bool). cond b (Some v) (find_node ns n)) j, subst (λ (z : Node). GoesOn z v) same (goes_with u es))
      where
        some_node : (a b : Node) → Some a ≡ Some b → a ≡ b
        some_node a b k = cc (k)

-- ---- a site starts again

-- each of its histories goes on
abbrev GoOn : (Node → List Entry) → Type 0
GoOn h = (x : Node) → GoesOn x (anew h x)

restarts_on : GoOn restarts
restarts_on x = go (answer x.origin (crashed x.history) (Event.Declare x.superior)).entry
  where
    go : (o : Option Entry) → GoesOn x (record x { history = with_entry o (crashed x.history) })
    go None = goes_with x (crash_entry ∷ [])
    go (Some e) = goes_with x (e ∷ crash_entry ∷ [])

halts_on : GoOn halts
halts_on x = goes_with x (crash_entry ∷ [])

onward_anew : (h : Node → List Entry) → GoOn h → (name : List ℕ) (ns : List Node) → Onward ns (anew_at h name ns)
onward_anew h goes name [] n x i = absurd (cc (i))
onward_anew h goes name (u ∷ ns) n x i = go (is_name (site_of u) name) refl (number_of u == n) refl (onward_anew h goes name ns n x)
  where
    list : Bool → List Node
    list b = elim b as (λ _. List Node) [ true ↦ anew h u ∷ anew_at h name ns | false ↦ u ∷ anew_at h name ns ]

    some_node : (a b : Node) → Some a ≡ Some b → a ≡ b
    some_node a b k = cc (k)

    eq : (v : Node) (l : List Node) (b : Bool) → (number_of v == n) ≡ b → find_node (v ∷ l) n ≡ elim b as (λ _. Option Node) [ true ↦ Some v | false ↦ find_node l n ]
    eq v l b j = ap (λ (w : Bool). elim w as (λ _. Option Node) [ true ↦ Some v | false ↦ find_node l n ]) j

    go : (b : Bool) → is_name (site_of u) name ≡ b → (c : Bool) → (number_of u == n) ≡ c → (find_node ns n ≡ Some x → (y : Node) × (find_node (anew_at h name ns) n ≡ Some y) × GoesOn x y)
        → (y : Node) × (find_node (anew_at h name (u ∷ ns)) n ≡ Some y) × GoesOn x y
    go true j true k rest =
        let same : u ≡ x = some_node u x (sym (eq u ns true k) ∙ i) in
        (anew h u, ap (λ (b : Bool). find_node (list b) n) j ∙ eq (anew h u) (anew_at h name ns) true k, subst (λ (z : Node). GoesOn z (anew h u)) same (goes u))
    go false j true k rest =
        let same : u ≡ x = some_node u x (sym (eq u ns true k) ∙ i) in
        (u, ap (λ (b : Bool). find_node (list b) n) j ∙ eq u (anew_at h name ns) true k, subst (λ (z : Node). GoesOn z u) same (goes_still u))
    go true j false k rest =
        let r = rest (sym (eq u ns false k) ∙ i) in
        (r.0, ap (λ (b : Bool). find_node (list b) n) j ∙ eq (anew h u) (anew_at h name ns) false k ∙ r.1, r.2)
    go false j false k rest =
        let r = rest (sym (eq u ns false k) ∙ i) in
        (r.0, ap (λ (b : Bool). find_node (list b) n) j ∙ eq u (anew_at h name ns) false k ∙ r.1, r.2)

onward_start : (h : Node → List Entry) → GoOn h → (w : World) (name : List ℕ) → Onward w.nodes (turn_anew h w name).world.nodes
onward_start h goes w name = by_start (λ (v : World). Onward w.nodes v.nodes) h w name (λ i. onward_same w.nodes w.nodes refl) (λ x i. onward_anew h goes name w.nodes)

onward_crash : (w : World) (name : List ℕ) → Onward w.nodes (crash_turn w name).world.nodes
onward_crash w name = onward_start restarts restarts_on w name

-- ---- an event

onward_entered : (w : World) (t : Task) (e : Entry) → Ready w t → Onward w.nodes (world_with_entry w t.node e).nodes
onward_entered w t e r = onward_put w.nodes t.node (e ∷ []) r.here

onward_entry : (w : World) (t : Task) (number : Option ℕ) (o : Option Entry) → Ready w t → Onward w.nodes (entry_turn w t.node number o).world.nodes
onward_entry w t number None r = onward_same w.nodes w.nodes refl
onward_entry w t number (Some e) r = subst (λ (l : List Node). Onward w.nodes l) (sym (logged_nodes (world_with_entry w t.node e) t.node e.rec)) (onward_entered w t e r)

onward_action : (w : World) (d : Action) → Onward w.nodes (action_turn w d).world.nodes
onward_action w d = go (task_of w d) refl
  where
    go : (o : Option Task) → task_of w d ≡ o → Onward w.nodes (action_turn w d).world.nodes
    go None i = rw (i, action_turn) (onward_same w.nodes w.nodes refl)
    go (Some t) i =
        let a = answer t.node.origin t.node.history t.event in
        rw (i, action_turn) (onward_entry w t a.number a.entry (ready_of w d t i))

onward_force : (w : World) (t : Task) (x : Site) (e : Entry) (st : Remains) → Ready w t → Onward w.nodes (stop_in_force w t.node x e st).world.nodes
onward_force w t x e st r = go st.fate
  where
    v : World
    v = record w { sites = put_site w.sites (record x { disk = st.disk }) }

    go : (f : RecordFate) → Onward w.nodes (crash_turn (elim f [ RecordFate.Kept ↦ world_with_entry v t.node e | RecordFate.Lost ↦ v | RecordFate.None ↦ v ]) x.name).world.nodes
    go RecordFate.Kept = onward_then w.nodes (world_with_entry v t.node e).nodes _ (onward_put w.nodes t.node (e ∷ []) r.here) (onward_crash (world_with_entry v t.node e) x.name)
    go RecordFate.Lost = onward_crash v x.name
    go RecordFate.None = onward_crash v x.name

onward_stop : (w : World) (t : Task) (x : Site) (call fill : ℕ) (o : Option Entry) → Ready w t → Onward w.nodes (stop_in_entry w t.node x call fill o).world.nodes
onward_stop w t x call fill None r = onward_crash w x.name
onward_stop w t x call fill (Some e) r = go e.rec
  where
    go : (q : Option LogRec)
        → Onward w.nodes (elim q as (λ _. WorldTurn) [
          | None ↦ after_stop (world_with_entry w t.node e) x.name RecordFate.None
          | Some l ↦ stop_in_force w t.node x e (remains call fill l x.disk)
        ]).world.nodes
    go None = onward_then w.nodes (world_with_entry w t.node e).nodes _ (onward_entered w t e r) (onward_crash (world_with_entry w t.node e) x.name)
    go (Some l) = onward_force w t x e (remains call fill l x.disk) r

onward_crash_in : (w : World) (name : List ℕ) (call fill : ℕ) (d : Action) → Onward w.nodes (crash_in_turn w name call fill d).world.nodes
onward_crash_in w name call fill d = go (find_site w.sites name) refl
  where
    one_task : (x : Site) (t u : Task) → task_here x (Some t) ≡ Some u → t ≡ u
    one_task x t u j = grind (arith, j)

    here : (x : Site) (o : Option Task) → task_of w d ≡ o → (b : Option Task) → task_here x o ≡ b
        → Onward w.nodes (elim b as (λ _. WorldTurn) [ None ↦ still w | Some t ↦ after_lines (action_lines d) (stop_in_task w x call fill t) ]).world.nodes
    here x o i None j = onward_same w.nodes w.nodes refl
    here x None i (Some u) j = absurd cc
    here x (Some t) i (Some u) j =
        let same : t ≡ u = one_task x t u j in
        onward_stop w u x call fill (answer u.node.origin u.node.history u.event).entry (subst (λ (v : Task). Ready w v) same (ready_of w d t i))

    go : (o : Option Site) → find_site w.sites name ≡ o → Onward w.nodes (crash_in_turn w name call fill d).world.nodes
    go None i = rw (i, crash_in_turn) (onward_same w.nodes w.nodes refl)
    go (Some x) i = rw (i, crash_in_turn) (here x (task_of w d) refl (task_here x (task_of w d)) refl)

-- ---- a node comes, and is declared

onward_under : (w : World) (n : ℕ) (name : List ℕ) (under : Option ℕ) (made : Option Addr → ℕ → Node) → Onward w.nodes (turn_under w n under (λ up. turn_at w name (made up))).world.nodes
onward_under w n name under made = by_superior (λ (v : World). Onward w.nodes v.nodes) w n under (λ up. turn_at w name (made up)) (onward_same w.nodes w.nodes refl) (λ none up above.
    by_site (λ (v : World). Onward w.nodes v.nodes) w name (made up) (λ x i. onward_more w.nodes (made up x.boot ∷ [])) (λ i. onward_more w.nodes (made up 1 ∷ [])))

onward_declares : (w : World) (n : ℕ) → Onward w.nodes (declare_again_turn w n).world.nodes
onward_declares w n = by_declaration (λ (v : World). Onward w.nodes v.nodes) w n (onward_same w.nodes w.nodes refl) (λ x y here is. onward_put w.nodes x (y ∷ []) here)

-- ---- every run

onward_happens : (w : World) (e : Happening) → Onward w.nodes (happens w e).world.nodes
onward_happens w (Happening.Declare n name under) = onward_under w n name under (λ (up : Option Addr) (b : ℕ). new_node name n b up)
onward_happens w (Happening.Place n name under) = onward_under w n name under (λ (up : Option Addr) (b : ℕ). bare_node name n b up)
onward_happens w (Happening.Declare_again n) = onward_declares w n
onward_happens w (Happening.Does d) = onward_action w d
onward_happens w (Happening.Mark i) = onward_same w.nodes w.nodes refl
onward_happens w (Happening.Crash name) = onward_crash w name
onward_happens w (Happening.Crash_in name call fill d) = onward_crash_in w name call fill d
onward_happens w (Happening.Stop name) = onward_start halts halts_on w name
onward_happens w (Happening.Drive n k) = onward_same w.nodes w.nodes refl
onward_happens w (Happening.Drop k) = onward_same w.nodes w.nodes refl

pub onward_run : (more es : List Happening) → Onward (run es).nodes (run (more ++ es)).nodes
onward_run [] es = onward_same (run es).nodes (run es).nodes refl
onward_run (e ∷ more) es = onward_then (run es).nodes (run (more ++ es)).nodes (run (e ∷ (more ++ es))).nodes (onward_run more es) (onward_happens (run (more ++ es)) e)

pub nodes_stay : (more es : List Happening) → NodesStay more es
nodes_stay more es x here =
    let y = onward_run more es (number_of x) x here in
    (y.0, ap (find_node (run (more ++ es)).nodes) (find_is (run (more ++ es)).nodes (number_of x) y.0 y.1) ∙ y.1, y.2)
