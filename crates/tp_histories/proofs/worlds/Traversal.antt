-- Every happening is made of the steps of a run; so what they keep holds in every run.
use Rattle.std.proofs.Common.{◌≡◌, ℕ, zero, suc, Bool, true, inl, inr, refl, ap, sym, subst, ◌∙◌, arith, Option, Some, None, List, [], ◌∷◌, ◌++◌}
use Rattle.std.proofs.lemmas.Bool.Decides.{nat_tests}
use Rattle.tp_names.specs.declared.identifiers.Addr.{Addr}
use Rattle.tp_names.specs.Same.{is_name}
use Rattle.tp_records.specs.declared.request.Request.{Request}
use Rattle.tp_records.specs.declared.peer.PeerRecord.{PeerRecord}
use Rattle.tp_logrec.specs.declared.record.LogRec.{LogRec}
use Rattle.tp_model.specs.declared.line.Action.{Action}
use Rattle.tp_model.specs.declared.out_line.RecordFate.{RecordFate}
use Rattle.tp_model.specs.Parts.{Event, Entry}
use Rattle.tp_model.specs.Events.{refusal, verdict, started}
use Rattle.tp_model.specs.History.{entry_of, answer}
use Rattle.tp_model.specs.Disk.{Remains, remains}
use Rattle.tp_model.specs.World.{World, Node, Site, Frame, number_of, site_of, addr_of, find_node, put_node, find_site, find_frame, put_site}
use Rattle.tp_model.specs.Happenings.{still, after_lines, action_lines, after_stop, crash_turn, Happening, Task, task_at, task_of, request_in, frames_of, logged, entry_turn, action_turn, new_node, bare_node, declared_at, declare_turn, placed_at, place_turn, declare_again_turn, stop_in_force, stop_in_entry, stop_in_task, task_here, crash_in_turn, happens, run, world_with_entry, WorldTurn}
use Rattle.tp_model.specs.Legal.{IsUnder}
use Rattle.tp_steps.specs.Histories.{brought}
use Rattle.tp_histories.specs.Worlds.{IsFrameOf, grown_node, Accepts}
use Rattle.tp_histories.proofs.worlds.Nodes.{find_is, put_behind, put_first, find_append}
use Rattle.tp_histories.proofs.worlds.Turns.{IsThere, by_site, by_superior, by_declaration}
use Rattle.tp_steps.proofs.every.Answers.{Accepted, accepted}
use Rattle.tp_histories.proofs.worlds.Runs.{Steps, Kept, kept_steps, unsent, crash_holds, stop_holds}

abbrev Holds : (List Node → List Frame → Type 0) → World → Type 0
Holds P w = Kept P w.nodes w.frames

-- ---- a node and an event that may come to it

pub record Ready (w : World) (t : Task) : Type 0 where
  pub here : find_node w.nodes (number_of t.node) ≡ Some t.node
  pub came : (a : Addr) (r : PeerRecord) → brought t.event ≡ Some (a, r) → IsFrameOf w.frames a (number_of t.node) r
  pub under : (up : Option Addr) → IsUnder up t.event

frame_found : (fs : List Frame) (k : ℕ) (f : Frame) → find_frame fs k ≡ Some f → IsFrameOf fs f.from f.to.node f.rec
frame_found fs zero f h = absurd cc
frame_found [] (suc k) f h = absurd cc
frame_found (g ∷ fs) (suc zero) f h =
    let same : g ≡ f = cc (h) in
    inl (ap (λ (u : Frame). u.from) same, ap (λ (u : Frame). u.to.node) same, ap (λ (u : Frame). u.rec) same)
frame_found (g ∷ fs) (suc (suc k)) f h = inr (frame_found fs (suc k) f h)

ready_at : (w : World) (n : ℕ) (e : Event) (t : Task) → task_at w n e ≡ Some t → ((a : Addr) (r : PeerRecord) → brought e ≡ Some (a, r) → IsFrameOf w.frames a n r)
    → ((up : Option Addr) → IsUnder up e) → Ready w t
ready_at w n e t is came under = go (find_node w.nodes n) refl
  where
    go : (o : Option Node) → find_node w.nodes n ≡ o → Ready w t
    go None i = let none : None ≡ Some t = rw (i, task_at) at is in absurd (cc (none))
    go (Some x) i =
        let one : Some (record { node = x; event = e }) ≡ Some t = rw (i, task_at) at is in
        let same : ◌≡◌ {A = Task} (record { node = x; event = e }) t = cc (one) in
        let at : number_of x ≡ n = find_is w.nodes n x i in
        subst (λ (u : Task). Ready w u) same (record {
          here = ap (find_node w.nodes) at ∙ i;
          came = λ a r b. subst (λ (k : ℕ). IsFrameOf w.frames a k r) (sym at) (came a r b);
          under = under;
        })

pub ready_of : (w : World) (d : Action) (t : Task) → task_of w d ≡ Some t → Ready w t
ready_of w (Action.Do n q) t is = go (request_in w q) refl
  where
    go : (o : Option Request) → request_in w q ≡ o → Ready w t
    go None i = let none : None ≡ Some t = rw (i, task_of) at is in absurd (cc (none))
    go (Some r) i = ready_at w n (Event.Do r) t (rw (i, task_of) at is) (λ a s b. cc (b)) (λ up. tt)
ready_of w (Action.Pass a b) t is = absurd (cc (is))
ready_of w (Action.Again k) t is = go (find_frame w.frames k) refl
  where
    go : (o : Option Frame) → find_frame w.frames k ≡ o → Ready w t
    go None i = let none : None ≡ Some t = rw (i, task_of) at is in absurd (cc (none))
    go (Some f) i =
        ready_at w f.to.node (Event.Arrive f.from f.rec) t (rw (i, task_of) at is)
        (λ a r b.
        let one : ◌≡◌ {A = Addr × PeerRecord} (f.from, f.rec) (a, r) = cc (b) in
        let ea : f.from ≡ a = ap (λ (u : Addr × PeerRecord). u.0) one in
        let er : f.rec ≡ r = ap (λ (u : Addr × PeerRecord). u.1) one in
        subst (λ (c : Addr). IsFrameOf w.frames c f.to.node r) ea (subst (λ (s : PeerRecord). IsFrameOf w.frames f.from f.to.node s) er (frame_found w.frames k f i)))
        (λ up. tt)
ready_of w (Action.Lose n p) t is = ready_at w n (Event.Lose p) t is (λ a s b. cc (b)) (λ up. tt)
ready_of w (Action.Heur n o) t is = ready_at w n (Event.Heur o) t is (λ a s b. cc (b)) (λ up. tt)
ready_of w (Action.GiveUp n p) t is = ready_at w n (Event.GiveUp p) t is (λ a s b. cc (b)) (λ up. tt)
ready_of w (Action.Retry n) t is = ready_at w n Event.Retry t is (λ a s b. cc (b)) (λ up. tt)
ready_of w (Action.Purge n) t is = ready_at w n Event.Purge t is (λ a s b. cc (b)) (λ up. tt)

-- ---- the entry of an event

abbrev with_entry_put : World → Node → Entry → List Node
with_entry_put w n y = put_node w.nodes (record n { history = y ∷ n.history })

pub logged_nodes : (w : World) (n : Node) (o : Option LogRec) → (logged w n o).nodes ≡ w.nodes
logged_nodes w n None = refl
logged_nodes w n (Some r) = refl

pub logged_frames : (w : World) (n : Node) (o : Option LogRec) → (logged w n o).frames ≡ w.frames
logged_frames w n None = refl
logged_frames w n (Some r) = refl

accepts_of : (w : World) (t : Task) (y : Entry) (a : Accepted t.node.origin t.node.history t.event y) → Ready w t → Accepts w.nodes w.frames t.node a.event
accepts_of w t y a r = record {
  here = r.here;
  ok = a.ok;
  came = λ c s b. r.came c s (sym a.brings ∙ b);
  under = a.under t.node.superior (r.under t.node.superior);
}

entry_holds : (P : List Node → List Frame → Type 0) → Steps P → (w : World) (t : Task) (number : Option ℕ) (o : Option Entry) → Ready w t
    → ((y : Entry) → o ≡ Some y → Accepted t.node.origin t.node.history t.event y) → Holds P w → Holds P (entry_turn w t.node number o).world
entry_holds P s w t number None r acc k = k
entry_holds P s w t number (Some y) r acc k =
    let a : Accepted t.node.origin t.node.history t.event y = acc y refl in
    let n : Node = t.node in
    let on : (z : Entry) → z ≡ entry_of n.origin n.history a.event → Kept P (with_entry_put w n z) (w.frames ++ frames_of (addr_of n) z.outs)
    = λ z i. subst (λ (u : Entry). Kept P (with_entry_put w n u) (w.frames ++ frames_of (addr_of n) u.outs)) (sym i) ((kept_steps P s).event w.nodes w.frames n a.event (accepts_of w t y a r) true k) in
    rw (logged_nodes (world_with_entry w n y) n y.rec, logged_frames (world_with_entry w n y) n y.rec) (on y a.is)

action_holds : (P : List Node → List Frame → Type 0) → Steps P → (w : World) (d : Action) → Holds P w → Holds P (action_turn w d).world
action_holds P s w d k = go (task_of w d) refl
  where
    go : (o : Option Task) → task_of w d ≡ o → Holds P (action_turn w d).world
    go None i = rw (i, action_turn) k
    go (Some t) i =
        let a = answer t.node.origin t.node.history t.event in
        rw (i, action_turn) (entry_holds P s w t a.number a.entry (ready_of w d t i) (λ y e. accepted t.node.origin t.node.history t.event y e) k)

-- ---- a stop in an event

force_holds : (P : List Node → List Frame → Type 0) → Steps P → (w : World) (n : Node) (x : Site) (y : Entry) (st : Remains) → Holds P w → Kept P (with_entry_put w n y) w.frames
    → Holds P (stop_in_force w n x y st).world
force_holds P s w n x y st k entered_kept =
    let v : World = record w { sites = put_site w.sites (record x { disk = st.disk }) } in
    go v k entered_kept st.fate
  where
    go : (v : World) → Kept P v.nodes v.frames → Kept P (with_entry_put v n y) v.frames → (f : RecordFate)
        → Holds P (crash_turn (elim f [ RecordFate.Kept ↦ world_with_entry v n y | RecordFate.Lost ↦ v | RecordFate.None ↦ v ]) x.name).world
    go v k j RecordFate.Kept = crash_holds P s (world_with_entry v n y) x.name j
    go v k j RecordFate.Lost = crash_holds P s v x.name k
    go v k j RecordFate.None = crash_holds P s v x.name k

stop_in_holds : (P : List Node → List Frame → Type 0) → Steps P → (w : World) (t : Task) (x : Site) (call fill : ℕ) (o : Option Entry) → Ready w t
    → ((y : Entry) → o ≡ Some y → Accepted t.node.origin t.node.history t.event y) → Holds P w → Holds P (stop_in_entry w t.node x call fill o).world
stop_in_holds P s w t x call fill None r acc k = crash_holds P s w x.name k
stop_in_holds P s w t x call fill (Some y) r acc k = go y.rec
  where
    n : Node
    n = t.node

    a : Accepted n.origin n.history t.event y
    a = acc y refl

    put : Kept P (with_entry_put w n y) w.frames
    put = subst (λ (u : Entry). Kept P (with_entry_put w n u) w.frames) (sym a.is) (unsent (Kept P) (kept_steps P s) w.nodes w.frames n a.event (accepts_of w t y a r) k)

    go : (q : Option LogRec)
        → Holds P (elim q as (λ _. WorldTurn) [
          | None ↦ after_stop (world_with_entry w n y) x.name RecordFate.None
          | Some l ↦ stop_in_force w n x y (remains call fill l x.disk)
        ]).world
    go None = crash_holds P s (world_with_entry w n y) x.name put
    go (Some l) = force_holds P s w n x y (remains call fill l x.disk) k put

crash_in_holds : (P : List Node → List Frame → Type 0) → Steps P → (w : World) (name : List ℕ) (call fill : ℕ) (d : Action) → Holds P w → Holds P (crash_in_turn w name call fill d).world
crash_in_holds P s w name call fill d k = go (find_site w.sites name) refl
  where
    one_task : (x : Site) (t u : Task) (b : Bool) → task_here x (Some t) ≡ Some u → t ≡ u
    one_task x t u b j = grind (arith, j)

    here : (x : Site) (o : Option Task) → task_of w d ≡ o → (b : Option Task) → task_here x o ≡ b → Holds P (elim b as (λ _. WorldTurn) [ None ↦ still w | Some t ↦ after_lines (action_lines d) (stop_in_task w x call fill t) ]).world
    here x o i None j = k
    here x None i (Some u) j = absurd cc
    here x (Some t) i (Some u) j =
        let same : t ≡ u = one_task x t u (is_name (site_of t.node) x.name) j in
        stop_in_holds P s w u x call fill (answer u.node.origin u.node.history u.event).entry (subst (λ (v : Task). Ready w v) same (ready_of w d t i))
        (λ y e. accepted u.node.origin u.node.history u.event y e) k

    go : (o : Option Site) → find_site w.sites name ≡ o → Holds P (crash_in_turn w name call fill d).world
    go None i = rw (i, crash_in_turn) k
    go (Some x) i = rw (i, crash_in_turn) (here x (task_of w d) refl (task_here x (task_of w d)) refl)

-- ---- a node comes

bare_holds : (P : List Node → List Frame → Type 0) → Steps P → (w : World) (name : List ℕ) (n boot : ℕ) (up : Option Addr) → find_node w.nodes n ≡ None → IsThere w up → Holds P w
    → Kept P (w.nodes ++ bare_node name n boot up ∷ []) w.frames
bare_holds P s w name n boot up none above k = (kept_steps P s).comes w.nodes w.frames (bare_node name n boot up) (record { none = none; bare = refl; fresh = refl; above = above }) k

new_holds : (P : List Node → List Frame → Type 0) → Steps P → (w : World) (name : List ℕ) (n boot : ℕ) (up : Option Addr) → find_node w.nodes n ≡ None → IsThere w up → Holds P w
    → Kept P (w.nodes ++ new_node name n boot up ∷ []) w.frames
unfolding refusal verdict started
new_holds P s w name n boot up none above k =
    let ns : List Node = w.nodes in
    let x : Node = bare_node name n boot up in
    let here : find_node (ns ++ x ∷ []) (number_of x) ≡ Some x = find_append ns x n none ∙ grind (arith, nat_tests) in
    let two = unsent (Kept P) (kept_steps P s) (ns ++ x ∷ []) w.frames x (Event.Declare up) (record { here = here; ok = refl; came = λ a r i. cc (i); under = refl }) (bare_holds P s w name n boot up none above k) in
    let y : Node = grown_node x (Event.Declare up) in
    let at : put_node (ns ++ x ∷ []) y ≡ ns ++ y ∷ [] = put_behind ns (x ∷ []) y none ∙ ap (λ (l : List Node). ns ++ l) (put_first x y [] refl) in
    subst (λ (l : List Node). Kept P l w.frames) at two

declare_holds : (P : List Node → List Frame → Type 0) → Steps P → (w : World) (n : ℕ) (name : List ℕ) (under : Option ℕ) → Holds P w → Holds P (declare_turn w n name under).world
declare_holds P s w n name under k = by_superior (λ (v : World). Holds P v) w n under (declared_at w n name) k (λ none up above.
    by_site (λ (v : World). Holds P v) w name (λ (b : ℕ). new_node name n b up) (λ x i. new_holds P s w name n x.boot up none above k) (λ i. new_holds P s w name n 1 up none above k))

place_holds : (P : List Node → List Frame → Type 0) → Steps P → (w : World) (n : ℕ) (name : List ℕ) (under : Option ℕ) → Holds P w → Holds P (place_turn w n name under).world
place_holds P s w n name under k = by_superior (λ (v : World). Holds P v) w n under (placed_at w n name) k (λ none up above.
    by_site (λ (v : World). Holds P v) w name (λ (b : ℕ). bare_node name n b up) (λ x i. bare_holds P s w name n x.boot up none above k) (λ i. bare_holds P s w name n 1 up none above k))

-- ---- a node is declared later

declare_again_holds : (P : List Node → List Frame → Type 0) → Steps P → (w : World) (n : ℕ) → Holds P w → Holds P (declare_again_turn w n).world
declare_again_holds P s w n k = by_declaration (λ (v : World). Holds P v) w n k (λ x y here is.
    let a : Accepted x.origin x.history (Event.Declare x.superior) y = accepted x.origin x.history (Event.Declare x.superior) y is in
    subst (λ (u : Entry). Kept P (with_entry_put w x u) w.frames) (sym a.is)
    (unsent (Kept P) (kept_steps P s) w.nodes w.frames x a.event (record { here = here; ok = a.ok; came = λ c r j. absurd (cc (sym a.brings ∙ j)); under = a.under x.superior refl }) k))

-- ---- every run

happens_holds : (P : List Node → List Frame → Type 0) → Steps P → (w : World) (e : Happening) → Holds P w → Holds P (happens w e).world
happens_holds P s w (Happening.Declare n name under) k = declare_holds P s w n name under k
happens_holds P s w (Happening.Place n name under) k = place_holds P s w n name under k
happens_holds P s w (Happening.Declare_again n) k = declare_again_holds P s w n k
happens_holds P s w (Happening.Does d) k = action_holds P s w d k
happens_holds P s w (Happening.Mark i) k = (kept_steps P s).mark w.nodes w.frames i k
happens_holds P s w (Happening.Crash name) k = crash_holds P s w name k
happens_holds P s w (Happening.Crash_in name call fill d) k = crash_in_holds P s w name call fill d k
happens_holds P s w (Happening.Stop name) k = stop_holds P s w name k
happens_holds P s w (Happening.Drive n i) k = k
happens_holds P s w (Happening.Drop i) k = k

run_holds : (P : List Node → List Frame → Type 0) → Steps P → (es : List Happening) → Holds P (run es)
run_holds P s [] = (kept_steps P s).start
run_holds P s (e ∷ es) = happens_holds P s (run es) e (run_holds P s es)

-- what the steps keep holds in every run
pub induct : (P : List Node → List Frame → Type 0) → Steps P → (es : List Happening) → P (run es).nodes (run es).frames
induct P s es = (run_holds P s es).holds
