-- In every run the logs of all sites tell their nodes: each happening keeps it.
use Rattle.tp_site_logs.proofs.Vocabulary.{◌≡◌, ◌≤◌, suc, ◌==◌, ◌++◌, ℕ, Bool, true, false, cond, refl, ap, sym, ◌∙◌, subst, arith, Option, Some, None, List, [], ◌∷◌, Addr, is_name, name_same, name_self, LogRec, Origin, Event, Entry, answer, IsGrown, World, Node, Site, number_of, site_of, find_node, put_node, find_site, put_site, forced_by}
use Rattle.std.specs.Prelude.{nat_le}
use Rattle.tp_records.specs.declared.request.Request.{Request}
use Rattle.tp_model.specs.declared.out_line.RecordFate.{RecordFate}
use Rattle.tp_model.specs.Questions.{is_crash}
use Rattle.tp_model.specs.Refusal.{number_of as refusal_number}
use Rattle.tp_model.specs.Parts.{Verdict, Answer}
use Rattle.tp_model.specs.Events.{verdict}
use Rattle.tp_model.specs.History.{digest, entry_of}
use Rattle.tp_model.specs.Disk.{Disk, Remains, forced, remains, remains_at_gate}
use Rattle.tp_model.specs.World.{Frame, find_frame}
use Rattle.tp_model.specs.declared.line.Action.{Action}
use Rattle.tp_model.specs.Happenings.{still, after_lines, action_lines, after_stop, crash_turn, Happening, Task, task_at, task_of, request_in, logged, entry_turn, action_turn, new_node, bare_node, new_site, declare_again_turn, booted, stop_in_force, stop_in_entry, stop_in_task, task_here, crash_in_turn, run, world_with_entry, WorldTurn}
use Rattle.tp_steps.proofs.every.Answers.{Accepted, accepted}
use Rattle.tp_histories.proofs.worlds.Nodes.{find_put, find_append}
use Rattle.tp_histories.proofs.worlds.Turns.{turn_at, by_site, turn_under, by_superior, restarts, halts, anew_at, turn_anew, by_start, declare_entry, by_declaration}
use Rattle.tp_histories.proofs.worlds.Traversal.{Ready, ready_of}
use Rattle.tp_site_logs.specs.SiteLogs.{DisksTell, stops}
use Rattle.tp_site_logs.proofs.Places.{find_name, site_appended, site_put_at, site_same, with_disk_is, find_anew}
use Rattle.tp_site_logs.proofs.Tells.{IsNode, IsTold, Tells, tells_put, tells_again, tells_site, tells_later, told_entry, told_new_site, IsFresh, new_fresh, bare_fresh, told_new_node, Begins, restarts_begin, halts_begin, told_as, site_after, forced_there}

abbrev Holds : ℕ → World → Type 0
Holds m w = Tells m w.nodes w.sites

-- ---- a site stops and starts again

start_holds : (h : Node → List Entry) → Begins h → (m : ℕ) (w : World) (s : List ℕ) → Holds m w → Holds (suc m) (turn_anew h w s).world
start_holds h begins m w s k = by_start (λ (v : World). Holds (suc m) v) h w s (λ i. tells_later m w.nodes w.sites k) (λ x i.
    tells_again h begins m s w.nodes (anew_at h s w.nodes) w.sites (put_site w.sites (booted x)) x
    (record { found = i; nodes = find_anew h s w.nodes; sites = λ t. site_put_at w.sites s x (booted x) t i refl }) k)

crash_holds : (m : ℕ) (w : World) (s : List ℕ) → Holds m w → Holds (suc m) (crash_turn w s).world
crash_holds m w s k = start_holds restarts restarts_begin m w s k

-- ---- a node has one entry more

-- an entry that a node of the world may have next
record Enters (w : World) (n : Node) (e : Entry) : Type 0 where
  here : find_node w.nodes (number_of n) ≡ Some n
  node : IsNode (record n { history = e ∷ n.history })
  calm : is_crash e.event ≡ false

abbrev with_one : World → Node → Entry → List Node
with_one w n e = put_node w.nodes (record n { history = e ∷ n.history })

-- its site is another from now on, with that log
puts : (m : ℕ) (w : World) (n : Node) (e : Entry) (new : List Site) (z : Site) → Enters w n e → ((t : List ℕ) → find_site new t ≡ cond (is_name (site_of n) t) (Some z) (find_site w.sites t))
    → IsTold (with_one w n e) (site_of n) z → z.boot ≤ m → Holds m w → Tells m (with_one w n e) new
puts m w n e new z en looks told most h =
    tells_put m w.nodes (with_one w n e) w.sites new (record n { history = e ∷ n.history }) z (record {
      nodes = λ k. find_put w.nodes (record n { history = e ∷ n.history }) n k en.here;
      sites = looks;
      apart = λ t off. ap (forced_by t) en.here ∙ forced_there t n off;
    }) en.node told most h

told_after : (m : ℕ) (w : World) (n : Node) (e : Entry) (x : Site) → Enters w n e → find_site w.sites (site_of n) ≡ Some x → Holds m w → IsTold (with_one w n e) (site_of n) (site_after x e.rec)
told_after m w n e x en found h = told_entry w.nodes (with_one w n e) x n e en.here en.node en.calm (λ k. find_put w.nodes (record n { history = e ∷ n.history }) n k en.here) (h.sites (site_of n) x found)

entered_holds : (m : ℕ) (w : World) (n : Node) (e : Entry) → Enters w n e → Holds m w → Holds m (logged (world_with_entry w n e) n e.rec)
entered_holds m w n e en h = go e.rec refl (h.placed (number_of n) n en.here)
  where
    go : (o : Option LogRec) → e.rec ≡ o → (x : Site) × (find_site w.sites (site_of n) ≡ Some x) → Holds m (logged (world_with_entry w n e) n o)
    go None made at =
        puts m w n e w.sites at.0 en (λ t. site_same w.sites (site_of n) at.0 t at.1)
        (subst (λ (o : Option LogRec). IsTold (with_one w n e) (site_of n) (site_after at.0 o)) made (told_after m w n e at.0 en at.1 h)) (h.boots (site_of n) at.0 at.1) h
    go (Some r) made at =
        let z : Site = record (at.0) { disk = forced r at.0.disk } in
        subst (λ (ss : List Site). Tells m (with_one w n e) ss) (sym (with_disk_is w.sites (site_of n) (forced r) at.0 at.1))
        (puts m w n e (put_site w.sites z) z en (λ t. site_put_at w.sites (site_of n) at.0 z t at.1 refl)
        (subst (λ (o : Option LogRec). IsTold (with_one w n e) (site_of n) (site_after at.0 o)) made (told_after m w n e at.0 en at.1 h)) (h.boots (site_of n) at.0 at.1) h)

-- ---- what may come to a node is no crash

calm_at : (w : World) (n : ℕ) (e : Event) (t : Task) → task_at w n e ≡ Some t → t.event ≡ e
calm_at w n e t is = grind (arith, is)

calm_task : (w : World) (d : Action) (t : Task) → task_of w d ≡ Some t → is_crash t.event ≡ false
calm_task w (Action.Do n q) t is = go (request_in w q) refl
  where
    go : (o : Option Request) → request_in w q ≡ o → is_crash t.event ≡ false
    go None i = let none : None ≡ Some t = rw (i, task_of) at is in absurd (cc (none))
    go (Some r) i = ap is_crash (calm_at w n (Event.Do r) t (rw (i, task_of) at is))
calm_task w (Action.Pass a b) t is = absurd (cc (is))
calm_task w (Action.Again k) t is = go (find_frame w.frames k) refl
  where
    go : (o : Option Frame) → find_frame w.frames k ≡ o → is_crash t.event ≡ false
    go None i = let none : None ≡ Some t = rw (i, task_of) at is in absurd (cc (none))
    go (Some f) i = ap is_crash (calm_at w f.to.node (Event.Arrive f.from f.rec) t (rw (i, task_of) at is))
calm_task w (Action.Lose n p) t is = ap is_crash (calm_at w n (Event.Lose p) t is)
calm_task w (Action.Heur n o) t is = ap is_crash (calm_at w n (Event.Heur o) t is)
calm_task w (Action.GiveUp n p) t is = ap is_crash (calm_at w n (Event.GiveUp p) t is)
calm_task w (Action.Retry n) t is = ap is_crash (calm_at w n Event.Retry t is)
calm_task w (Action.Purge n) t is = ap is_crash (calm_at w n Event.Purge t is)

pub calm_answer : (o : Origin) (h : List Entry) (e : Event) (y : Entry) → is_crash e ≡ false → (answer o h e).entry ≡ Some y → is_crash y.event ≡ false
calm_answer o h e y calm is = go (verdict o.who (digest o h) e) is
  where
    go : (v : Verdict)
        → (elim v as (λ _. Answer) [
          | Verdict.Accepted ↦ record { number = None; entry = Some (entry_of o h e) }
          | Verdict.Refused n ↦ record { number = Some (refusal_number n); entry = None }
          | Verdict.Breaks from r ↦ record { number = Some 24; entry = Some (entry_of o h (Event.Break from r)) }
        ]).entry ≡ Some y → is_crash y.event ≡ false
    go Verdict.Accepted i = grind (arith, i, calm)
    go (Verdict.Refused n) i = absurd (cc (i))
    go (Verdict.Breaks from r) i = grind (arith, i)

enters : (m : ℕ) (w : World) (t : Task) (y : Entry) → Ready w t → is_crash t.event ≡ false → (answer t.node.origin t.node.history t.event).entry ≡ Some y → Holds m w → Enters w t.node y
enters m w t y r calm is h =
    let n : Node = t.node in
    let a : Accepted n.origin n.history t.event y = accepted n.origin n.history t.event y is in
    let node : IsNode n = h.sound (number_of n) n r.here in
    record {
      here = r.here;
      node = record {
        grown = subst (λ (z : Entry). IsGrown n.origin n.superior (z ∷ n.history)) (sym a.is) (a.ok, refl, a.under n.superior (r.under n.superior), node.grown);
        empty = node.empty;
        version = node.version;
      };
      calm = calm_answer n.origin n.history t.event y calm is;
    }

-- ---- an action

entry_holds : (m : ℕ) (w : World) (n : Node) (number : Option ℕ) (o : Option Entry) → ((y : Entry) → o ≡ Some y → Enters w n y) → Holds m w → Holds m (entry_turn w n number o).world
entry_holds m w n number None en h = h
entry_holds m w n number (Some y) en h = entered_holds m w n y (en y refl) h

action_holds : (m : ℕ) (w : World) (d : Action) → Holds m w → Holds m (action_turn w d).world
action_holds m w d h = go (task_of w d) refl
  where
    go : (o : Option Task) → task_of w d ≡ o → Holds m (action_turn w d).world
    go None i = rw (i, action_turn) h
    go (Some t) i =
        let a = answer t.node.origin t.node.history t.event in
        rw (i, action_turn) (entry_holds m w t.node a.number a.entry (λ y e. enters m w t y (ready_of w d t i) (calm_task w d t i) e h) h)

-- ---- a stop in an event

-- the record is on the disk, or the disk has the records that it had
abbrev IsRemains : LogRec → Disk → Remains → Type 0
IsRemains r d st = elim st.fate [ RecordFate.Kept ↦ st.disk.records ≡ r ∷ d.records | RecordFate.Lost ↦ st.disk.records ≡ d.records | RecordFate.None ↦ st.disk.records ≡ d.records ]

remains_is : (call fill : ℕ) (r : LogRec) (d : Disk) → IsRemains r d (remains call fill r d)
remains_is call fill r d = go (nat_le call 2) (nat_le call 4) (fill == 1) refl refl refl
  where
    go : (a b c : Bool) → nat_le call 2 ≡ a → nat_le call 4 ≡ b → (fill == 1) ≡ c → IsRemains r d (remains call fill r d)
    go true b c i j k = rw (i, remains) refl
    go false false c i j k = rw (i, remains) (rw j refl)
    go false true true i j k = rw (i, remains) (rw j (rw (k, remains_at_gate) refl))
    go false true false i j k = rw (i, remains) (rw j (rw (k, remains_at_gate) refl))

force_holds : (m : ℕ) (w : World) (n : Node) (x : Site) (y : Entry) (r : LogRec) (st : Remains) → Enters w n y → y.rec ≡ Some r → find_site w.sites (site_of n) ≡ Some x → IsRemains r x.disk st → Holds m w → Holds (suc m) (stop_in_force w n x y st).world
force_holds m w n x y r st en made found are h = go st.fate are
  where
    z : Site
    z = record x { disk = st.disk }

    v : World
    v = record w { sites = put_site w.sites z }

    looks : (t : List ℕ) → find_site (put_site w.sites z) t ≡ cond (is_name (site_of n) t) (Some z) (find_site w.sites t)
    looks t = site_put_at w.sites (site_of n) x z t found refl

    kept : st.disk.records ≡ x.disk.records → Holds m v
    kept same = tells_site m w.nodes w.sites (put_site w.sites z) (site_of n) z looks (told_as w.nodes (site_of n) x st.disk same (h.sites (site_of n) x found)) (h.boots (site_of n) x found) h

    more : st.disk.records ≡ r ∷ x.disk.records → Holds m (world_with_entry v n y)
    more same =
        let told : IsTold (with_one w n y) (site_of n) (site_after x (Some r)) = subst (λ (o : Option LogRec). IsTold (with_one w n y) (site_of n) (site_after x o)) made (told_after m w n y x en found h) in
        puts m w n y (put_site w.sites z) z en looks (told_as (with_one w n y) (site_of n) (site_after x (Some r)) st.disk same told) (h.boots (site_of n) x found) h

    go : (f : RecordFate) → (elim f as (λ _. Type 0) [ RecordFate.Kept ↦ st.disk.records ≡ r ∷ x.disk.records | RecordFate.Lost ↦ st.disk.records ≡ x.disk.records | RecordFate.None ↦ st.disk.records ≡ x.disk.records ])
        → Holds (suc m) (crash_turn (elim f [ RecordFate.Kept ↦ world_with_entry v n y | RecordFate.Lost ↦ v | RecordFate.None ↦ v ]) x.name).world
    go RecordFate.Kept same = crash_holds m (world_with_entry v n y) x.name (more same)
    go RecordFate.Lost same = crash_holds m v x.name (kept same)
    go RecordFate.None same = crash_holds m v x.name (kept same)

stop_holds : (m : ℕ) (w : World) (n : Node) (x : Site) (call fill : ℕ) (o : Option Entry) → ((y : Entry) → o ≡ Some y → Enters w n y) → find_site w.sites (site_of n) ≡ Some x → Holds m w → Holds (suc m) (stop_in_entry w n x call fill o).world
stop_holds m w n x call fill None en found h = crash_holds m w x.name h
stop_holds m w n x call fill (Some y) en found h = go y.rec refl
  where
    go : (q : Option LogRec) → y.rec ≡ q
        → Holds (suc m) (elim q as (λ _. WorldTurn) [ None ↦ after_stop (world_with_entry w n y) x.name RecordFate.None | Some l ↦ stop_in_force w n x y (remains call fill l x.disk) ]).world
    go None made = crash_holds m (world_with_entry w n y) x.name (subst (λ (q : Option LogRec). Holds m (logged (world_with_entry w n y) n q)) made (entered_holds m w n y (en y refl) h))
    go (Some l) made = force_holds m w n x y l (remains call fill l x.disk) (en y refl) made found (remains_is call fill l x.disk) h

crash_in_holds : (m : ℕ) (w : World) (s : List ℕ) (call fill : ℕ) (d : Action) → Holds m w → Holds (suc m) (crash_in_turn w s call fill d).world
crash_in_holds m w s call fill d h = go (find_site w.sites s) refl
  where
    one_task : (x : Site) (t u : Task) → task_here x (Some t) ≡ Some u → (t ≡ u) × (is_name (site_of u.node) x.name ≡ true)
    one_task x t u j = at (is_name (site_of t.node) x.name) refl j
      where
        at : (b : Bool) → is_name (site_of t.node) x.name ≡ b → (elim b as (λ _. Option Task) [ true ↦ Some t | false ↦ None ]) ≡ Some u → (t ≡ u) × (is_name (site_of u.node) x.name ≡ true)
        at true b i = let same : t ≡ u = cc (i) in (same, ap (λ (v : Task). is_name (site_of v.node) x.name) (sym same) ∙ b)
        at false b i = absurd (cc (i))

    here : (x : Site) → find_site w.sites s ≡ Some x → (o : Option Task) → task_of w d ≡ o → (b : Option Task) → task_here x o ≡ b
        → Holds (suc m) (elim b as (λ _. WorldTurn) [ None ↦ still w | Some t ↦ after_lines (action_lines d) (stop_in_task w x call fill t) ]).world
    here x i o k None j = tells_later m w.nodes w.sites h
    here x i None k (Some u) j = absurd cc
    here x i (Some t) k (Some u) j =
        let same = one_task x t u j in
        let is : task_of w d ≡ Some u = k ∙ ap (λ (v : Task). Some v) same.0 in
        let found : find_site w.sites (site_of u.node) ≡ Some x = ap (find_site w.sites) (name_same (site_of u.node) x.name same.1 ∙ find_name w.sites s x i) ∙ i in
        stop_holds m w u.node x call fill (answer u.node.origin u.node.history u.event).entry (λ y e. enters m w u y (ready_of w d u is) (calm_task w d u is) e h) found h

    go : (o : Option Site) → find_site w.sites s ≡ o → Holds (suc m) (crash_in_turn w s call fill d).world
    go None i = rw (i, crash_in_turn) (tells_later m w.nodes w.sites h)
    go (Some x) i = rw (i, crash_in_turn) (here x i (task_of w d) refl (task_here x (task_of w d)) refl)

-- ---- a node comes, and is declared

node_comes : (m : ℕ) (ns : List Node) (ss : List Site) (s : List ℕ) (y : Node) (x : Site) → IsFresh s x.boot y → find_node ns (number_of y) ≡ None → find_site ss s ≡ Some x → Tells m ns ss → Tells m (ns ++ y ∷ []) ss
node_comes m ns ss s y x fresh none found h =
    let looks : (k : ℕ) → find_node (ns ++ y ∷ []) k ≡ cond (number_of y == k) (Some y) (find_node ns k) = λ k. find_append ns y k none in
    let there : find_site ss (site_of y) ≡ Some x = ap (find_site ss) fresh.at ∙ found in
    tells_put m ns (ns ++ y ∷ []) ss ss y x (record {
      nodes = looks;
      sites = λ t. site_same ss (site_of y) x t there;
      apart = λ t off. ap (forced_by t) none;
    }) fresh.node (subst (λ (t : List ℕ). IsTold (ns ++ y ∷ []) t x) (sym fresh.at) (told_new_node ns (ns ++ y ∷ []) s y x fresh none looks (h.sites s x found))) (h.boots s x found) h

site_comes : (m : ℕ) (ns : List Node) (ss : List Site) (s : List ℕ) → find_site ss s ≡ None → Tells (suc m) ns ss → Tells (suc m) ns (ss ++ new_site s ∷ [])
site_comes m ns ss s none h = tells_site (suc m) ns ss (ss ++ new_site s ∷ []) s (new_site s) (λ t. site_appended ss (new_site s) t none) (told_new_site ns s nobody) (omega arith) h
  where
    nobody : (k : ℕ) (n : Node) → find_node ns k ≡ Some n → is_name (site_of n) s ≡ true → ⊥
    nobody k n at here =
        let x = h.placed k n at in
        let off : None ≡ Some x.0 = sym none ∙ ap (find_site ss) (sym (name_same (site_of n) s here)) ∙ x.1 in
        cc (off)

under_holds : (m : ℕ) (w : World) (n : ℕ) (s : List ℕ) (under : Option ℕ) (made : Option Addr → ℕ → Node) → ((up : Option Addr) (b : ℕ) → (number_of (made up b) ≡ n) × IsFresh s b (made up b)) → Holds (suc m) w
    → Holds (suc m) (turn_under w n under (λ up. turn_at w s (made up))).world
under_holds m w n s under made are h = by_superior (λ (v : World). Holds (suc m) v) w n under (λ up. turn_at w s (made up)) h (λ none up above.
    let free : (b : ℕ) → find_node w.nodes (number_of (made up b)) ≡ None = λ b. ap (find_node w.nodes) (are up b).0 ∙ none in
    by_site (λ (v : World). Holds (suc m) v) w s (made up) (λ x i. node_comes (suc m) w.nodes w.sites s (made up x.boot) x (are up x.boot).1 (free x.boot) i h) (λ i.
    let found : find_site (w.sites ++ new_site s ∷ []) s ≡ Some (new_site s) = site_appended w.sites (new_site s) s i ∙ ap (λ (b : Bool). cond b (Some (new_site s)) (find_site w.sites s)) (name_self s) in
    node_comes (suc m) w.nodes (w.sites ++ new_site s ∷ []) s (made up 1) (new_site s) (are up 1).1 (free 1) found (site_comes m w.nodes w.sites s i h)))

declares_holds : (m : ℕ) (w : World) (n : ℕ) → Holds m w → Holds m (declare_again_turn w n).world
declares_holds m w n h = by_declaration (λ (v : World). Holds m v) w n h (λ x y here is.
    let a : Accepted x.origin x.history (Event.Declare x.superior) y = accepted x.origin x.history (Event.Declare x.superior) y is in
    let node : IsNode x = h.sound (number_of x) x here in
    let none : y.rec ≡ None = ap (λ (e : Entry). e.rec) (declare_entry x.origin x.history x.superior y is) in
    let en : Enters w x y = record {
      here = here;
      node = record {
        grown = subst (λ (z : Entry). IsGrown x.origin x.superior (z ∷ x.history)) (sym a.is) (a.ok, refl, a.under x.superior refl, node.grown);
        empty = node.empty;
        version = node.version;
      };
      calm = calm_answer x.origin x.history (Event.Declare x.superior) y refl is;
    } in
    subst (λ (o : Option LogRec). Holds m (logged (world_with_entry w x y) x o)) none (entered_holds m w x y en h))

-- ---- every run

pub run_tells : (es : List Happening) → Holds (suc (stops es)) (run es)
run_tells [] = record { sound = λ k n at. absurd (cc (at)); placed = λ k n at. absurd (cc (at)); sites = λ s x at. absurd (cc (at)); boots = λ s x at. absurd (cc (at)) }
run_tells (Happening.Declare n s under ∷ es) = under_holds (stops es) (run es) n s under (λ (up : Option Addr) (b : ℕ). new_node s n b up) (λ up b. (refl, new_fresh s n b up)) (run_tells es)
run_tells (Happening.Place n s under ∷ es) = under_holds (stops es) (run es) n s under (λ (up : Option Addr) (b : ℕ). bare_node s n b up) (λ up b. (refl, bare_fresh s n b up)) (run_tells es)
run_tells (Happening.Declare_again n ∷ es) = declares_holds (suc (stops es)) (run es) n (run_tells es)
run_tells (Happening.Does d ∷ es) = action_holds (suc (stops es)) (run es) d (run_tells es)
run_tells (Happening.Mark k ∷ es) = run_tells es
run_tells (Happening.Crash s ∷ es) = crash_holds (suc (stops es)) (run es) s (run_tells es)
run_tells (Happening.Crash_in s call fill d ∷ es) = crash_in_holds (suc (stops es)) (run es) s call fill d (run_tells es)
run_tells (Happening.Stop s ∷ es) = start_holds halts halts_begin (suc (stops es)) (run es) s (run_tells es)
run_tells (Happening.Drive n k ∷ es) = run_tells es
run_tells (Happening.Drop k ∷ es) = run_tells es

pub disks_tell : (es : List Happening) → DisksTell (run es)
disks_tell es s x at =
    let told : IsTold (run es).nodes s x = (run_tells es).sites s x at in
    let name : s ≡ x.name = sym (find_name (run es).sites s x at) in
    record {
      nodes = λ k. told.log.nodes k ∙ ap (λ (l : List ℕ). forced_by l (find_node (run es).nodes k)) name;
      starts = told.starts;
      last = λ n here on. told.last (number_of n) n here (ap (is_name (site_of n)) name ∙ on);
      order = rw (told.log.order, told.votes) refl;
    }
