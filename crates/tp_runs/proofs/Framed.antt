-- What a node said goes out, unless its site stopped: by the happenings of a run, since a site that stops in an event shows nothing of it.
use Rattle.std.proofs.lemmas.List.{append-nil}
use Rattle.std.proofs.Common.{◌≡◌, ◌⊎◌, inl, inr, ℕ, zero, suc, Bool, true, false, refl, ap, sym, subst, ◌∙◌, arith, Option, Some, None, List, [], ◌∷◌, ◌++◌, ◌==◌}
use Rattle.tp_names.specs.declared.identifiers.Addr.{Addr}
use Rattle.tp_names.specs.Same.{is_name}
use Rattle.tp_records.specs.declared.peer.PeerRecord.{PeerRecord}
use Rattle.tp_logrec.specs.declared.record.LogRec.{LogRec}
use Rattle.tp_model.specs.declared.line.Action.{Action}
use Rattle.tp_model.specs.declared.out_line.RecordFate.{RecordFate}
use Rattle.tp_model.specs.Parts.{Entry, Out}
use Rattle.tp_model.specs.Events.{refusal, verdict, after_crash, started}
use Rattle.tp_model.specs.History.{answer}
use Rattle.tp_model.specs.Disk.{Remains, remains}
use Rattle.tp_model.specs.World.{World, Node, Site, Frame, number_of, site_of, addr_of, find_node, put_node, find_site, put_site, mark_handed}
use Rattle.tp_model.specs.Happenings.{still, after_lines, action_lines, after_stop, crash_turn, Happening, Task, task_of, frames_of, entry_turn, action_turn, new_node, bare_node, declared_at, declare_turn, placed_at, place_turn, declare_again_turn, stop_in_force, stop_in_entry, stop_in_task, task_here, crash_in_turn, happens, run, world_with_entry, WorldTurn}
use Rattle.tp_histories.specs.Histories.{IsSentIn, HasSent}
use Rattle.tp_runs.specs.Framed.{has_stopped, IsFrameTo, GoesOut}
use Rattle.tp_steps.proofs.lemmas.Equality.{names_equal}
use Rattle.tp_histories.proofs.worlds.Nodes.{find_put, find_append}
use Rattle.tp_histories.proofs.worlds.Turns.{by_site, by_superior, restarts, halts, anew, anew_at, turn_anew, by_start, declare_entry, by_declaration}
use Rattle.tp_histories.proofs.worlds.Traversal.{Ready, ready_of, logged_nodes, logged_frames}
use Rattle.tp_steps.proofs.lemmas.Options.{some_same}

abbrev Framed : List Node → List Frame → Type 0
Framed ns fs = (m : ℕ) (x : Node) → find_node ns m ≡ Some x → has_stopped x.history ≡ false → (z : Addr) (r : PeerRecord) → HasSent x.history z r → IsFrameTo fs (addr_of x) z r

-- ---- frames

frame_first : (fs gs : List Frame) (a z : Addr) (r : PeerRecord) → IsFrameTo fs a z r → IsFrameTo (fs ++ gs) a z r
frame_first [] gs a z r h = absurd h
frame_first (f ∷ fs) gs a z r (inl h) = inl h
frame_first (f ∷ fs) gs a z r (inr h) = inr (frame_first fs gs a z r h)

frame_later : (fs gs : List Frame) (a z : Addr) (r : PeerRecord) → IsFrameTo gs a z r → IsFrameTo (fs ++ gs) a z r
frame_later [] gs a z r h = h
frame_later (f ∷ fs) gs a z r h = inr (frame_later fs gs a z r h)

frames_say : (outs : List Out) (a z : Addr) (r : PeerRecord) → IsSentIn outs z r → IsFrameTo (frames_of a outs) a z r
frames_say [] a z r h = absurd h
frames_say (Out.Tell i ∷ outs) a z r h = frames_say outs a z r h
frames_say (Out.Send b s ∷ outs) a z r (inl h) = inl (refl, h.0, h.1)
frames_say (Out.Send b s ∷ outs) a z r (inr h) = inr (frames_say outs a z r h)

frame_marked : (fs : List Frame) (k : ℕ) (a z : Addr) (r : PeerRecord) → IsFrameTo fs a z r → IsFrameTo (mark_handed fs k) a z r
frame_marked fs zero a z r h = h
frame_marked [] (suc k) a z r h = absurd h
frame_marked (f ∷ fs) (suc zero) a z r h = h
frame_marked (f ∷ fs) (suc (suc k)) a z r (inl h) = inl h
frame_marked (f ∷ fs) (suc (suc k)) a z r (inr h) = inr (frame_marked fs (suc k) a z r h)

-- ---- an event whose frames go out

entry_framed : (ns : List Node) (fs : List Frame) (n : Node) (y : Entry) → find_node ns (number_of n) ≡ Some n → Framed ns fs → Framed (put_node ns (record n { history = y ∷ n.history })) (fs ++ frames_of (addr_of n) y.outs)
entry_framed ns fs n y found k m x here fresh z r sent = go (number_of n == m) refl
  where
    v : Node
    v = record n { history = y ∷ n.history }

    go : (b : Bool) → (number_of n == m) ≡ b → IsFrameTo (fs ++ frames_of (addr_of n) y.outs) (addr_of x) z r
    go false i =
        let old : find_node ns m ≡ Some x = sym (find_put ns v n m found ∙ rw i refl) ∙ here in
        frame_first fs (frames_of (addr_of n) y.outs) (addr_of x) z r (k m x old fresh z r sent)
    go true i =
        let now : Some v ≡ Some x = sym (find_put ns v n m found ∙ rw i refl) ∙ here in
        let same : v ≡ x = some_same v x now in
        subst (λ (u : Node). has_stopped u.history ≡ false → HasSent u.history z r → IsFrameTo (fs ++ frames_of (addr_of n) y.outs) (addr_of u) z r) same on fresh sent
      where
        on : has_stopped (y ∷ n.history) ≡ false → HasSent (y ∷ n.history) z r → IsFrameTo (fs ++ frames_of (addr_of n) y.outs) (addr_of n) z r
        on f (inl s) = frame_later fs (frames_of (addr_of n) y.outs) (addr_of n) z r (frames_say y.outs (addr_of n) z r s)
        on f (inr s) = frame_first fs (frames_of (addr_of n) y.outs) (addr_of n) z r (k (number_of n) n found (grind (arith, f)) z r s)

turn_framed : (w : World) (n : Node) (number : Option ℕ) (o : Option Entry) → find_node w.nodes (number_of n) ≡ Some n → Framed w.nodes w.frames → Framed (entry_turn w n number o).world.nodes (entry_turn w n number o).world.frames
turn_framed w n number None found k = k
turn_framed w n number (Some y) found k = rw (logged_nodes (world_with_entry w n y) n y.rec, logged_frames (world_with_entry w n y) n y.rec) (entry_framed w.nodes w.frames n y found k)

action_framed : (w : World) (d : Action) → Framed w.nodes w.frames → Framed (action_turn w d).world.nodes (action_turn w d).world.frames
action_framed w d k = go (task_of w d) refl
  where
    go : (o : Option Task) → task_of w d ≡ o → Framed (action_turn w d).world.nodes (action_turn w d).world.frames
    go None i = rw (i, action_turn) k
    go (Some t) i =
        let a = answer t.node.origin t.node.history t.event in
        rw (i, action_turn) (turn_framed w t.node a.number a.entry (Ready.here (ready_of w d t i)) k)

-- ---- a site that stops

-- whatever comes then, the history has a stop
abbrev Halts : (Node → List Entry) → Type 0
Halts h = (y : Node) → has_stopped (h y) ≡ true

restarts_halt : Halts restarts
unfolding refusal verdict after_crash
restarts_halt y = refl

halts_halt : Halts halts
halts_halt y = refl

-- each of its nodes has stopped, and the others are as they were
anew_is : (h : Node → List Entry) → Halts h → (name : List ℕ) (ns : List Node) (m : ℕ) (x : Node) → find_node (anew_at h name ns) m ≡ Some x
    → (has_stopped x.history ≡ true) ⊎ (find_node ns m ≡ Some x) × (is_name (site_of x) name ≡ false)
anew_is h stops name [] m x at = absurd (cc (at))
anew_is h stops name (y ∷ ns) m x at = go (is_name (site_of y) name) (number_of y == m) refl refl (anew_is h stops name ns m x)
  where
    back : (number_of y == m) ≡ false → find_node (y ∷ ns) m ≡ find_node ns m
    back j = grind (arith, j)

    first : (u : Node) (b : Bool) → (number_of u == m) ≡ b → (us : List Node) → find_node (u ∷ us) m ≡ elim b as (λ _. Option Node) [ true ↦ Some u | false ↦ find_node us m ]
    first u b j us = ap (λ (v : Bool). elim v as (λ _. Option Node) [ true ↦ Some u | false ↦ find_node us m ]) j

    parts : (b : Bool) → is_name (site_of y) name ≡ b → anew_at h name (y ∷ ns) ≡ elim b as (λ _. List Node) [ true ↦ anew h y ∷ anew_at h name ns | false ↦ y ∷ anew_at h name ns ]
    parts b i = ap (λ (v : Bool). elim v as (λ _. List Node) [ true ↦ anew h y ∷ anew_at h name ns | false ↦ y ∷ anew_at h name ns ]) i

    behind : (number_of y == m) ≡ false → (has_stopped x.history ≡ true) ⊎ (find_node ns m ≡ Some x) × (is_name (site_of x) name ≡ false)
        → (has_stopped x.history ≡ true) ⊎ (find_node (y ∷ ns) m ≡ Some x) × (is_name (site_of x) name ≡ false)
    behind j (inl s) = inl s
    behind j (inr s) = inr (back j ∙ s.0, s.1)

    go : (a b : Bool) → is_name (site_of y) name ≡ a → (number_of y == m) ≡ b
        → (find_node (anew_at h name ns) m ≡ Some x → (has_stopped x.history ≡ true) ⊎ (find_node ns m ≡ Some x) × (is_name (site_of x) name ≡ false))
        → (has_stopped x.history ≡ true) ⊎ (find_node (y ∷ ns) m ≡ Some x) × (is_name (site_of x) name ≡ false)
    go true true i j rest =
        let now : Some (anew h y) ≡ Some x = sym (first (anew h y) true j (anew_at h name ns)) ∙ sym (ap (λ (us : List Node). find_node us m) (parts true i)) ∙ at in
        inl (ap (λ (u : Node). has_stopped u.history) (sym (some_same (anew h y) x now)) ∙ stops y)
    go false true i j rest =
        let now : Some y ≡ Some x = sym (first y true j (anew_at h name ns)) ∙ sym (ap (λ (us : List Node). find_node us m) (parts false i)) ∙ at in
        inr (first y true j ns ∙ now, ap (λ (u : Node). is_name (site_of u) name) (sym (some_same y x now)) ∙ i)
    go true false i j rest =
        let now : find_node (anew_at h name ns) m ≡ Some x = sym (first (anew h y) false j (anew_at h name ns)) ∙ sym (ap (λ (us : List Node). find_node us m) (parts true i)) ∙ at in
        behind j (rest now)
    go false false i j rest =
        let now : find_node (anew_at h name ns) m ≡ Some x = sym (first y false j (anew_at h name ns)) ∙ sym (ap (λ (us : List Node). find_node us m) (parts false i)) ∙ at in
        behind j (rest now)

-- of the nodes at other sites alone
abbrev FramedBeside : List ℕ → List Node → List Frame → Type 0
FramedBeside name ns fs = (m : ℕ) (x : Node) → find_node ns m ≡ Some x → is_name (site_of x) name ≡ false → has_stopped x.history ≡ false → (z : Addr) (r : PeerRecord) → HasSent x.history z r → IsFrameTo fs (addr_of x) z r

anew_framed : (h : Node → List Entry) → Halts h → (name : List ℕ) (ns : List Node) (fs : List Frame) → FramedBeside name ns fs → Framed (anew_at h name ns) fs
anew_framed h stops name ns fs k m x here fresh z r sent = elim (anew_is h stops name ns m x here) [
  | inl s ↦ absurd (cc (s, fresh))
  | inr s ↦ k m x s.0 s.1 fresh z r sent
]

crash_framed : (w : World) (name : List ℕ) (x : Site) → find_site w.sites name ≡ Some x → FramedBeside name w.nodes w.frames → Framed (crash_turn w name).world.nodes (crash_turn w name).world.frames
crash_framed w name x i k = rw (i, crash_turn) (anew_framed restarts restarts_halt name w.nodes w.frames k)

beside : (name : List ℕ) (ns : List Node) (fs : List Frame) → Framed ns fs → FramedBeside name ns fs
beside name ns fs k m x here at fresh z r sent = k m x here fresh z r sent

-- the site stops, whatever stands of it
start_framed : (h : Node → List Entry) → Halts h → (w : World) (name : List ℕ) → Framed w.nodes w.frames → Framed (turn_anew h w name).world.nodes (turn_anew h w name).world.frames
start_framed h stops w name k = by_start (λ (v : World). Framed v.nodes v.frames) h w name (λ i. k) (λ x i. anew_framed h stops name w.nodes w.frames (beside name w.nodes w.frames k))

restart_framed : (w : World) (name : List ℕ) → Framed w.nodes w.frames → Framed (crash_turn w name).world.nodes (crash_turn w name).world.frames
restart_framed w name k = start_framed restarts restarts_halt w name k

-- an event of a node at the site stands, and shows nothing
entered_beside : (name : List ℕ) (ns : List Node) (fs : List Frame) (n : Node) (y : Entry) → find_node ns (number_of n) ≡ Some n → is_name (site_of n) name ≡ true → Framed ns fs
    → FramedBeside name (put_node ns (record n { history = y ∷ n.history })) fs
entered_beside name ns fs n y found at k m x here other fresh z r sent = go (number_of n == m) refl
  where
    v : Node
    v = record n { history = y ∷ n.history }

    go : (b : Bool) → (number_of n == m) ≡ b → IsFrameTo fs (addr_of x) z r
    go false i = let old : find_node ns m ≡ Some x = sym (find_put ns v n m found ∙ rw i refl) ∙ here in k m x old fresh z r sent
    go true i =
        let now : Some v ≡ Some x = sym (find_put ns v n m found ∙ rw i refl) ∙ here in
        let site : is_name (site_of x) name ≡ true = ap (λ (u : Node). is_name (site_of u) name) (sym (some_same v x now)) ∙ at in
        absurd (cc (site, other))

site_named : (sites : List Site) (name : List ℕ) (x : Site) → find_site sites name ≡ Some x → x.name ≡ name
site_named [] name x h = absurd (cc (h))
site_named (u ∷ sites) name x h = go (is_name u.name name) refl (site_named sites name x)
  where
    go : (b : Bool) → is_name u.name name ≡ b → (find_site sites name ≡ Some x → x.name ≡ name) → x.name ≡ name
    go true i rest =
        let now : Some u ≡ Some x = sym (ap (λ (v : Bool). elim v as (λ _. Option Site) [ true ↦ Some u | false ↦ find_site sites name ]) i) ∙ h in
        let same : u ≡ x = cc (now) in
        ap (λ (s : Site). s.name) (sym same) ∙ names_equal u.name name i
    go false i rest = rest (sym (ap (λ (v : Bool). elim v as (λ _. Option Site) [ true ↦ Some u | false ↦ find_site sites name ]) i) ∙ h)

site_put : (sites : List Site) (y x : Site) → find_site sites y.name ≡ Some x → find_site (put_site sites y) y.name ≡ Some y
site_put [] y x h = absurd (cc (h))
site_put (u ∷ sites) y x h = go (is_name u.name y.name) refl (site_put sites y x)
  where
    go : (b : Bool) → is_name u.name y.name ≡ b → (find_site sites y.name ≡ Some x → find_site (put_site sites y) y.name ≡ Some y) → find_site (put_site (u ∷ sites) y) y.name ≡ Some y
    go true i rest =
        let itself : is_name y.name y.name ≡ true = ap (λ (n : List ℕ). is_name n y.name) (sym (names_equal u.name y.name i)) ∙ i in
        ap (λ (v : Bool). find_site (elim v as (λ _. List Site) [ true ↦ y ∷ sites | false ↦ u ∷ put_site sites y ]) y.name) i
        ∙ ap (λ (v : Bool). elim v as (λ _. Option Site) [ true ↦ Some y | false ↦ find_site sites y.name ]) itself
    go false i rest =
        let old : find_site sites y.name ≡ Some x = sym (ap (λ (v : Bool). elim v as (λ _. Option Site) [ true ↦ Some u | false ↦ find_site sites y.name ]) i) ∙ h in
        ap (λ (v : Bool). find_site (elim v as (λ _. List Site) [ true ↦ y ∷ sites | false ↦ u ∷ put_site sites y ]) y.name) i
        ∙ ap (λ (v : Bool). elim v as (λ _. Option Site) [ true ↦ Some u | false ↦ find_site (put_site sites y) y.name ]) i ∙ rest old

force_framed : (w : World) (n : Node) (x : Site) (y : Entry) (st : Remains) → find_node w.nodes (number_of n) ≡ Some n → is_name (site_of n) x.name ≡ true → find_site w.sites x.name ≡ Some x → Framed w.nodes w.frames
    → Framed (stop_in_force w n x y st).world.nodes (stop_in_force w n x y st).world.frames
force_framed w n x y st found at site k = go st.fate
  where
    x2 : Site
    x2 = record x { disk = st.disk }

    v : World
    v = record w { sites = put_site w.sites x2 }

    go : (f : RecordFate) → Framed (crash_turn (elim f [ RecordFate.Kept ↦ world_with_entry v n y | RecordFate.Lost ↦ v | RecordFate.None ↦ v ]) x.name).world.nodes (crash_turn (elim f [ RecordFate.Kept ↦ world_with_entry v n y | RecordFate.Lost ↦ v | RecordFate.None ↦ v ]) x.name).world.frames
    go RecordFate.Kept = crash_framed (world_with_entry v n y) x.name x2 (site_put w.sites x2 x site) (entered_beside x.name v.nodes v.frames n y found at k)
    go RecordFate.Lost = restart_framed v x.name k
    go RecordFate.None = restart_framed v x.name k

within_framed : (w : World) (n : Node) (x : Site) (call fill : ℕ) (o : Option Entry) → find_node w.nodes (number_of n) ≡ Some n → is_name (site_of n) x.name ≡ true → find_site w.sites x.name ≡ Some x → Framed w.nodes w.frames
    → Framed (stop_in_entry w n x call fill o).world.nodes (stop_in_entry w n x call fill o).world.frames
within_framed w n x call fill None found at site k = restart_framed w x.name k
within_framed w n x call fill (Some y) found at site k = go y.rec
  where
    go : (q : Option LogRec) → Framed (elim q as (λ _. WorldTurn) [ None ↦ after_stop (world_with_entry w n y) x.name RecordFate.None | Some l ↦ stop_in_force w n x y (remains call fill l x.disk) ]).world.nodes (elim q as (λ _. WorldTurn) [ None ↦ after_stop (world_with_entry w n y) x.name RecordFate.None | Some l ↦ stop_in_force w n x y (remains call fill l x.disk) ]).world.frames
    go None = crash_framed (world_with_entry w n y) x.name x site (entered_beside x.name w.nodes w.frames n y found at k)
    go (Some l) = force_framed w n x y (remains call fill l x.disk) found at site k

crash_in_framed : (w : World) (name : List ℕ) (call fill : ℕ) (d : Action) → Framed w.nodes w.frames → Framed (crash_in_turn w name call fill d).world.nodes (crash_in_turn w name call fill d).world.frames
crash_in_framed w name call fill d k = go (find_site w.sites name) refl
  where
    one_task : (x : Site) (t u : Task) → task_here x (Some t) ≡ Some u → t ≡ u
    one_task x t u j = grind (arith, j)

    at_site : (x : Site) (t u : Task) → task_here x (Some t) ≡ Some u → is_name (site_of t.node) x.name ≡ true
    at_site x t u j = grind (arith, j)

    here : (x : Site) → find_site w.sites x.name ≡ Some x → (o : Option Task) → task_of w d ≡ o → (b : Option Task) → task_here x o ≡ b
        → Framed (elim b as (λ _. WorldTurn) [ None ↦ still w | Some t ↦ after_lines (action_lines d) (stop_in_task w x call fill t) ]).world.nodes (elim b as (λ _. WorldTurn) [ None ↦ still w | Some t ↦ after_lines (action_lines d) (stop_in_task w x call fill t) ]).world.frames
    here x site o i None j = k
    here x site None i (Some u) j = absurd cc
    here x site (Some t) i (Some u) j =
        let same : t ≡ u = one_task x t u j in
        let found : find_node w.nodes (number_of u.node) ≡ Some u.node = Ready.here (subst (λ (v : Task). Ready w v) same (ready_of w d t i)) in
        let at : is_name (site_of u.node) x.name ≡ true = ap (λ (v : Task). is_name (site_of v.node) x.name) (sym same) ∙ at_site x t u j in
        within_framed w u.node x call fill (answer u.node.origin u.node.history u.event).entry found at site k

    go : (o : Option Site) → find_site w.sites name ≡ o → Framed (crash_in_turn w name call fill d).world.nodes (crash_in_turn w name call fill d).world.frames
    go None i = rw (i, crash_in_turn) k
    go (Some x) i =
        let site : find_site w.sites x.name ≡ Some x = ap (find_site w.sites) (site_named w.sites name x i) ∙ i in
        rw (i, crash_in_turn) (here x site (task_of w d) refl (task_here x (task_of w d)) refl)

-- ---- a node comes

silent_yet : (name : List ℕ) (n boot : ℕ) (up : Option Addr) (z : Addr) (r : PeerRecord) → HasSent (new_node name n boot up).history z r → ⊥
unfolding refusal verdict started
silent_yet name n boot up z r (inl h) = absurd h
silent_yet name n boot up z r (inr h) = absurd h

add_framed : (ns : List Node) (fs : List Frame) (y : Node) → find_node ns (number_of y) ≡ None → ((z : Addr) (r : PeerRecord) → HasSent y.history z r → ⊥) → Framed ns fs → Framed (ns ++ y ∷ []) fs
add_framed ns fs y none silent k m x here fresh z r sent = go (number_of y == m) refl
  where
    go : (b : Bool) → (number_of y == m) ≡ b → IsFrameTo fs (addr_of x) z r
    go false i = let old : find_node ns m ≡ Some x = sym (find_append ns y m none ∙ rw i refl) ∙ here in k m x old fresh z r sent
    go true i =
        let now : Some y ≡ Some x = sym (find_append ns y m none ∙ rw i refl) ∙ here in
        absurd (silent z r (subst (λ (u : Node). HasSent u.history z r) (sym (some_same y x now)) sent))

abbrev IsFramed : World → Type 0
IsFramed w = Framed w.nodes w.frames

declare_framed : (w : World) (n : ℕ) (name : List ℕ) (under : Option ℕ) → IsFramed w → IsFramed (declare_turn w n name under).world
declare_framed w n name under k = by_superior IsFramed w n under (declared_at w n name) k (λ none up above.
    by_site IsFramed w name (λ (b : ℕ). new_node name n b up) (λ x i. add_framed w.nodes w.frames (new_node name n x.boot up) none (silent_yet name n x.boot up) k)
    (λ i. add_framed w.nodes w.frames (new_node name n 1 up) none (silent_yet name n 1 up) k))

place_framed : (w : World) (n : ℕ) (name : List ℕ) (under : Option ℕ) → IsFramed w → IsFramed (place_turn w n name under).world
place_framed w n name under k = by_superior IsFramed w n under (placed_at w n name) k (λ none up above.
    by_site IsFramed w name (λ (b : ℕ). bare_node name n b up) (λ x i. add_framed w.nodes w.frames (bare_node name n x.boot up) none (λ z r h. absurd h) k)
    (λ i. add_framed w.nodes w.frames (bare_node name n 1 up) none (λ z r h. absurd h) k))

-- a declaration says nothing
declare_again_framed : (w : World) (n : ℕ) → IsFramed w → IsFramed (declare_again_turn w n).world
declare_again_framed w n k = by_declaration IsFramed w n k (λ x y here is.
    let none : y.outs ≡ [] = ap (λ (e : Entry). e.outs) (declare_entry x.origin x.history x.superior y is) in
    subst (λ (fs : List Frame). Framed (put_node w.nodes (record x { history = y ∷ x.history })) fs) (ap (λ (outs : List Out). w.frames ++ frames_of (addr_of x) outs) none ∙ append-nil w.frames)
    (entry_framed w.nodes w.frames x y here k))

-- ---- every run

happens_framed : (w : World) (e : Happening) → Framed w.nodes w.frames → Framed (happens w e).world.nodes (happens w e).world.frames
happens_framed w (Happening.Declare n name under) k = declare_framed w n name under k
happens_framed w (Happening.Place n name under) k = place_framed w n name under k
happens_framed w (Happening.Declare_again n) k = declare_again_framed w n k
happens_framed w (Happening.Does d) k = action_framed w d k
happens_framed w (Happening.Mark i) k = λ m x here fresh z r sent. frame_marked w.frames i (addr_of x) z r (k m x here fresh z r sent)
happens_framed w (Happening.Crash name) k = restart_framed w name k
happens_framed w (Happening.Crash_in name call fill d) k = crash_in_framed w name call fill d k
happens_framed w (Happening.Stop name) k = start_framed halts halts_halt w name k
happens_framed w (Happening.Drive n m) k = k
happens_framed w (Happening.Drop m) k = k

run_framed : (es : List Happening) → Framed (run es).nodes (run es).frames
run_framed [] = λ m x here fresh z r sent. absurd (cc (here))
run_framed (e ∷ es) = happens_framed (run es) e (run_framed es)

pub goes_out : (es : List Happening) → GoesOut (run es)
goes_out es x here fresh z r sent = run_framed es (number_of x) x here fresh z r sent
