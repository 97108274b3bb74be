-- In every run, the world lists each tree that has a node once, and closes it with one line.
use Rattle.std.proofs.Common.{◌≡◌, ◌≤◌, inl, inr, ℕ, zero, suc, Bool, true, false, cond, refl, ap, sym, subst, ◌∙◌, arith, Option, Some, None, List, [], ◌∷◌, ◌++◌, ◌+◌, ◌==◌, ◌&&◌}
use Rattle.std.proofs.lemmas.Bool.Decides.{nat_tests}
use Rattle.tp_names.specs.declared.identifiers.Aaid.{Aaid}
use Rattle.tp_names.specs.declared.identifiers.Addr.{Addr}
use Rattle.tp_names.specs.declared.outcome.Outcome.{Outcome}
use Rattle.tp_names.specs.Same.{is_name, is_aaid}
use Rattle.tp_logrec.specs.declared.record.LogRec.{LogRec}
use Rattle.tp_model.specs.declared.line.Action.{Action}
use Rattle.tp_model.specs.declared.out_line.OutLine.{OutLine}
use Rattle.tp_model.specs.declared.out_line.RecordFate.{RecordFate}
use Rattle.tp_model.specs.Parts.{Origin, Event, Entry}
use Rattle.tp_model.specs.History.{digest, answer, entry_of, grown, with_entry, crashed, crash_entry}
use Rattle.tp_model.specs.Legal.{IsLegal, IsGrown, IsUnder}
use Rattle.tp_model.specs.Disk.{Remains, remains}
use Rattle.tp_model.specs.Outcomes.{root_started as root_started}
use Rattle.tp_model.specs.World.{World, Node, Site, number_of, site_of, find_node, put_node, find_site, put_site}
use Rattle.tp_model.specs.Trees.{members_of, all_told, some_told, deciders, closing_line, closing_from}
use Rattle.tp_model.specs.Happenings.{still, after_lines, action_lines, after_stop, crash_turn, trees_of, Happening, Task, task_of, logged, entry_turn, action_turn, new_node, bare_node, declare_again_turn, stop_in_force, stop_in_entry, stop_in_task, task_here, crash_in_turn, happens, run, world_with_entry, WorldTurn}
use Rattle.tp_model.specs.Promises.{IsIn, IsOf, is_root}
use Rattle.tp_histories.specs.Members.{has_taken_begin, IsOnce}
use Rattle.tp_outcomes.specs.Starting.{starts, times_in, BelongsSo, ListedOnce, is_line_of, lines_of, ClosesOnce}
use Rattle.tp_steps.proofs.lemmas.Equality.{aaids_equal, and_right}
use Rattle.tp_steps.proofs.words.Leaves.{name_same}
use Rattle.tp_histories.proofs.worlds.Nodes.{find_is, find_put}
use Rattle.tp_histories.proofs.worlds.Turns.{turn_at, by_site, turn_under, by_superior, restarts, halts, anew, anew_at, turn_anew, by_start, declare_entry, by_declaration}
use Rattle.tp_histories.proofs.worlds.Traversal.{Ready, ready_of, logged_nodes}
use Rattle.tp_steps.proofs.every.Answers.{Accepted, accepted}
use Rattle.tp_histories.proofs.worlds.Nodes.{find_append}
use Rattle.tp_histories.proofs.worlds.Starts.{all_legal}
use Rattle.tp_histories.proofs.worlds.Good.{good_run}
use Rattle.tp_histories.proofs.worlds.Unique.{unique_run}
use Rattle.tp_histories.proofs.worlds.TreeMembers.{own_untaken}
use Rattle.tp_runs.proofs.KnownKeys.{crash_next}
use Rattle.tp_runs.proofs.Hanging.{hangs}
use Rattle.tp_agreement.proofs.Agreed.{less, no_less, rank}
use Rattle.std.proofs.Math.Nat.{le_refl}
use Rattle.tp_outcomes.proofs.Starting.{times_append, one_time, is_started, started_own, start_member, start_once, own_start, start_drew, none_started, recovered_now, root_now, taken_member}

-- ---- the world's list, and the trees that its nodes started

abbrev count_in : Aaid → Option Node → ℕ
count_in t None = 0
count_in t (Some x) = times_in t (starts x.origin x.history)

abbrev Counted : List Node → List Aaid → Type 0
Counted ns ts = (t : Aaid) → times_in t ts ≡ count_in t (find_node ns t.mark.node)

abbrev IsCounted : World → Type 0
IsCounted w = Counted w.nodes w.trees

zero_right : (n : ℕ) → n + 0 ≡ n
zero_right n = omega arith

-- ---- an entry

-- what the entry starts is of the node's number
abbrev StartsOwn : Node → Entry → Type 0
StartsOwn n e = (u : Aaid) → root_started (digest n.origin n.history) (digest n.origin (e ∷ n.history)) ≡ Some u → u.mark.node ≡ number_of n

counted_entry : (ns : List Node) (ts : List Aaid) (n : Node) (e : Entry) → find_node ns (number_of n) ≡ Some n → StartsOwn n e → Counted ns ts
    → Counted (put_node ns (record n { history = e ∷ n.history })) (ts ++ trees_of (root_started (digest n.origin n.history) (digest n.origin (e ∷ n.history))))
counted_entry ns ts n e here own c t = times_append t ts (trees_of s) ∙ go (number_of n == t.mark.node) refl
  where
    s : Option Aaid
    s = root_started (digest n.origin n.history) (digest n.origin (e ∷ n.history))

    v : Node
    v = record n { history = e ∷ n.history }

    at : find_node (put_node ns v) t.mark.node ≡ cond (number_of n == t.mark.node) (Some v) (find_node ns t.mark.node)
    at = find_put ns v n t.mark.node here

    none_there : (number_of n == t.mark.node) ≡ false → (o : Option Aaid) → s ≡ o → times_in t (trees_of o) ≡ 0
    none_there i None j = refl
    none_there i (Some u) j = on (is_aaid t u) refl
      where
        on : (b : Bool) → is_aaid t u ≡ b → times_in t (trees_of (Some u)) ≡ 0
        on false k = one_time t u false k
        on true k =
            let same : t.mark.node ≡ number_of n = ap (λ (w : Aaid). w.mark.node) (aaids_equal t u k) ∙ own u j in
            absurd (let off : (number_of n == t.mark.node) ≡ true = grind (arith, nat_tests, same) in cc (off, i))

    go : (b : Bool) → (number_of n == t.mark.node) ≡ b → times_in t ts + times_in t (trees_of s) ≡ count_in t (find_node (put_node ns v) t.mark.node)
    go true i =
        let num : number_of n ≡ t.mark.node = grind (arith, nat_tests, i) in
        let old : find_node ns t.mark.node ≡ Some n = ap (find_node ns) (sym num) ∙ here in
        ap (λ (k : ℕ). k + times_in t (trees_of s)) (c t ∙ ap (count_in t) old) ∙ sym (times_append t (starts n.origin n.history) (trees_of s))
        ∙ sym (ap (count_in t) (at ∙ ap (λ (b : Bool). cond b (Some v) (find_node ns t.mark.node)) i))
    go false i =
        ap (λ (k : ℕ). times_in t ts + k) (none_there i s refl) ∙ zero_right (times_in t ts) ∙ c t
        ∙ sym (ap (count_in t) (at ∙ ap (λ (b : Bool). cond b (Some v) (find_node ns t.mark.node)) i))

-- ---- a stop

crash_starts : (o : Origin) (h : List Entry) → starts o (crashed h) ≡ starts o h
crash_starts o h = ap (λ (v : Option Aaid). starts o h ++ trees_of v) none ∙ empty_right (starts o h)
  where
    none : root_started (digest o h) (digest o (crashed h)) ≡ None
    none = none_started (digest o h) (digest o (crashed h)) (λ c t i k. recovered_now t (digest o h).current c (sym (crash_next o crash_entry h refl) ∙ i) k)

    empty_right : (us : List Aaid) → us ++ [] ≡ us
    empty_right [] = refl
    empty_right (u ∷ us) = ap (λ (l : List Aaid). u ∷ l) (empty_right us)

declare_starts : (o : Origin) (h : List Entry) (s : Option Addr) → starts o (grown o h (Event.Declare s)) ≡ starts o h
declare_starts o h s = go (answer o h (Event.Declare s)).entry refl
  where
    empty_right : (us : List Aaid) → us ++ [] ≡ us
    empty_right [] = refl
    empty_right (u ∷ us) = ap (λ (l : List Aaid). u ∷ l) (empty_right us)

    of_declare : starts o (entry_of o h (Event.Declare s) ∷ h) ≡ starts o h
    of_declare =
        ap (λ (v : Option Aaid). starts o h ++ trees_of v) (none_started (digest o h) (digest o (entry_of o h (Event.Declare s) ∷ h)) (λ c t i k. root_now t (digest o h).current c i k))
        ∙ empty_right (starts o h)

    go : (v : Option Entry) → (answer o h (Event.Declare s)).entry ≡ v → starts o (with_entry v h) ≡ starts o h
    go None i = refl
    go (Some y) i = ap (λ (z : Entry). starts o (z ∷ h)) (declare_entry o h s y i) ∙ of_declare

-- what a start of a site makes of its histories starts no tree
abbrev StartNone : (Node → List Entry) → Type 0
StartNone h = (x : Node) → starts x.origin (h x) ≡ starts x.origin x.history

restarts_none : StartNone restarts
restarts_none x = declare_starts x.origin (crashed x.history) x.superior ∙ crash_starts x.origin x.history

halts_none : StartNone halts
halts_none x = crash_starts x.origin x.history

anew_counted : (h : Node → List Entry) → StartNone h → (name : List ℕ) (ns : List Node) (t : Aaid) (m : ℕ) → count_in t (find_node (anew_at h name ns) m) ≡ count_in t (find_node ns m)
anew_counted h none name [] t m = refl
anew_counted h none name (u ∷ ns) t m = go (is_name (site_of u) name) (number_of u == m) (anew_counted h none name ns t m)
  where
    go : (a b : Bool) → count_in t (find_node (anew_at h name ns) m) ≡ count_in t (find_node ns m)
        → count_in t (find_node (elim a as (λ _. List Node) [ true ↦ anew h u ∷ anew_at h name ns | false ↦ u ∷ anew_at h name ns ]) m) ≡ count_in t (find_node (u ∷ ns) m)
    go true b rest = on (number_of u == m)
      where
        on : (c : Bool) → count_in t (elim c as (λ _. Option Node) [ true ↦ Some (anew h u) | false ↦ find_node (anew_at h name ns) m ]) ≡ count_in t (elim c as (λ _. Option Node) [ true ↦ Some u | false ↦ find_node ns m ])
        on true = ap (times_in t) (none u)
        on false = rest
    go false b rest = on (number_of u == m)
      where
        on : (c : Bool) → count_in t (elim c as (λ _. Option Node) [ true ↦ Some u | false ↦ find_node (anew_at h name ns) m ]) ≡ count_in t (elim c as (λ _. Option Node) [ true ↦ Some u | false ↦ find_node ns m ])
        on true = refl
        on false = rest

counted_start : (h : Node → List Entry) → StartNone h → (w : World) (name : List ℕ) → IsCounted w → IsCounted (turn_anew h w name).world
counted_start h none w name c = by_start IsCounted h w name (λ i. c) (λ x i t. c t ∙ sym (anew_counted h none name w.nodes t t.mark.node))

counted_crash : (w : World) (name : List ℕ) → IsCounted w → IsCounted (crash_turn w name).world
counted_crash w name c = counted_start restarts restarts_none w name c

-- ---- an event

entry_own : (es : List Happening) (n : Node) (e : Event) (y : Entry) → IsIn (run es) n → IsUnder n.superior e → Accepted n.origin n.history e y → StartsOwn n y
entry_own es n e y here under a u start =
    let l = all_legal es n here in
    let grown_more : IsGrown n.origin n.superior (entry_of n.origin n.history a.event ∷ n.history) = (a.ok, refl, a.under n.superior under, l.grown) in
    let legal : IsLegal n.origin n.superior (y ∷ n.history) = record { start = l.start; grown = subst (λ (z : Entry). IsGrown n.origin n.superior (z ∷ n.history)) (sym a.is) grown_more } in
    started_own n.origin y n.history u (is_started n.origin n.superior y n.history u legal start)

counted_entered : (w : World) (n : Node) (y : Entry) → find_node w.nodes (number_of n) ≡ Some n → StartsOwn n y → IsCounted w → IsCounted (world_with_entry w n y)
counted_entered w n y here own c = counted_entry w.nodes w.trees n y here own c

logged_trees : (w : World) (n : Node) (o : Option LogRec) → (logged w n o).trees ≡ w.trees
logged_trees w n None = refl
logged_trees w n (Some r) = refl

counted_turn : (w : World) (t : Task) (number : Option ℕ) (o : Option Entry) → Ready w t → ((y : Entry) → o ≡ Some y → StartsOwn t.node y) → IsCounted w → IsCounted (entry_turn w t.node number o).world
counted_turn w t number None r own c = c
counted_turn w t number (Some y) r own c =
    let v : World = world_with_entry w t.node y in
    subst (λ (ns : List Node). Counted ns (logged v t.node y.rec).trees) (sym (logged_nodes v t.node y.rec))
    (subst (λ (ts : List Aaid). Counted v.nodes ts) (sym (logged_trees v t.node y.rec)) (counted_entered w t.node y r.here (own y refl) c))

owns : (es : List Happening) (t : Task) → Ready (run es) t → (y : Entry) → (answer t.node.origin t.node.history t.event).entry ≡ Some y → StartsOwn t.node y
owns es t r y i = entry_own es t.node t.event y r.here (r.under t.node.superior) (accepted t.node.origin t.node.history t.event y i)

counted_action : (es : List Happening) (d : Action) → IsCounted (run es) → IsCounted (action_turn (run es) d).world
counted_action es d c = go (task_of w d) refl
  where
    w : World
    w = run es

    go : (o : Option Task) → task_of w d ≡ o → IsCounted (action_turn w d).world
    go None i = rw (i, action_turn) c
    go (Some t) i =
        let a = answer t.node.origin t.node.history t.event in
        rw (i, action_turn) (counted_turn w t a.number a.entry (ready_of w d t i) (λ y j. owns es t (ready_of w d t i) y j) c)

counted_force : (w : World) (n : Node) (x : Site) (y : Entry) (st : Remains) → find_node w.nodes (number_of n) ≡ Some n → StartsOwn n y → IsCounted w → IsCounted (stop_in_force w n x y st).world
counted_force w n x y st here own c = go st.fate
  where
    v : World
    v = record w { sites = put_site w.sites (record x { disk = st.disk }) }

    go : (f : RecordFate) → IsCounted (crash_turn (elim f [ RecordFate.Kept ↦ world_with_entry v n y | RecordFate.Lost ↦ v | RecordFate.None ↦ v ]) x.name).world
    go RecordFate.Kept = counted_crash (world_with_entry v n y) x.name (counted_entered v n y here own c)
    go RecordFate.Lost = counted_crash v x.name c
    go RecordFate.None = counted_crash v x.name c

counted_stop : (w : World) (t : Task) (x : Site) (call fill : ℕ) (o : Option Entry) → Ready w t → ((y : Entry) → o ≡ Some y → StartsOwn t.node y) → IsCounted w → IsCounted (stop_in_entry w t.node x call fill o).world
counted_stop w t x call fill None r own c = counted_crash w x.name c
counted_stop w t x call fill (Some y) r own c = go y.rec
  where
    go : (q : Option LogRec)
        → IsCounted (elim q as (λ _. WorldTurn) [
          | None ↦ after_stop (world_with_entry w t.node y) x.name RecordFate.None
          | Some l ↦ stop_in_force w t.node x y (remains call fill l x.disk)
        ]).world
    go None = counted_crash (world_with_entry w t.node y) x.name (counted_entered w t.node y r.here (own y refl) c)
    go (Some l) = counted_force w t.node x y (remains call fill l x.disk) r.here (own y refl) c

counted_crash_in : (es : List Happening) (name : List ℕ) (call fill : ℕ) (d : Action) → IsCounted (run es) → IsCounted (crash_in_turn (run es) name call fill d).world
counted_crash_in es name call fill d c = go (find_site w.sites name) refl
  where
    w : World
    w = run es

    one_task : (x : Site) (t u : Task) → task_here x (Some t) ≡ Some u → t ≡ u
    one_task x t u j = grind (arith, j)

    here : (x : Site) (o : Option Task) → task_of w d ≡ o → (b : Option Task) → task_here x o ≡ b → IsCounted (elim b as (λ _. WorldTurn) [ None ↦ still w | Some t ↦ after_lines (action_lines d) (stop_in_task w x call fill t) ]).world
    here x o i None j = c
    here x None i (Some u) j = absurd cc
    here x (Some t) i (Some u) j =
        let same : t ≡ u = one_task x t u j in
        let r : Ready w u = subst (λ (v : Task). Ready w v) same (ready_of w d t i) in
        counted_stop w u x call fill (answer u.node.origin u.node.history u.event).entry r (λ y k. owns es u r y k) c

    go : (o : Option Site) → find_site w.sites name ≡ o → IsCounted (crash_in_turn w name call fill d).world
    go None i = rw (i, crash_in_turn) c
    go (Some x) i = rw (i, crash_in_turn) (here x (task_of w d) refl (task_here x (task_of w d)) refl)

-- ---- a node comes, and is declared

counted_new : (ns : List Node) (ts : List Aaid) (x : Node) → find_node ns (number_of x) ≡ None → starts x.origin x.history ≡ [] → Counted ns ts → Counted (ns ++ x ∷ []) ts
counted_new ns ts x none bare c t = go (number_of x == t.mark.node) refl
  where
    at : find_node (ns ++ x ∷ []) t.mark.node ≡ cond (number_of x == t.mark.node) (Some x) (find_node ns t.mark.node)
    at = find_append ns x t.mark.node none

    go : (b : Bool) → (number_of x == t.mark.node) ≡ b → times_in t ts ≡ count_in t (find_node (ns ++ x ∷ []) t.mark.node)
    go false i = c t ∙ sym (ap (count_in t) (at ∙ ap (λ (b : Bool). cond b (Some x) (find_node ns t.mark.node)) i))
    go true i =
        let num : number_of x ≡ t.mark.node = grind (arith, nat_tests, i) in
        c t ∙ ap (count_in t) (ap (find_node ns) (sym num) ∙ none) ∙ sym (ap (times_in t) bare) ∙ sym (ap (count_in t) (at ∙ ap (λ (b : Bool). cond b (Some x) (find_node ns t.mark.node)) i))

new_starts : (name : List ℕ) (n boot : ℕ) (up : Option Addr) → starts (new_node name n boot up).origin (new_node name n boot up).history ≡ []
new_starts name n boot up = declare_starts (new_node name n boot up).origin [] up

counted_under : (w : World) (n : ℕ) (name : List ℕ) (under : Option ℕ) (made : Option Addr → ℕ → Node) → ((up : Option Addr) (b : ℕ) → (number_of (made up b) ≡ n) × (starts (made up b).origin (made up b).history ≡ [])) → IsCounted w
    → IsCounted (turn_under w n under (λ up. turn_at w name (made up))).world
counted_under w n name under made are c = by_superior IsCounted w n under (λ up. turn_at w name (made up)) c (λ none up above.
    let free : (b : ℕ) → find_node w.nodes (number_of (made up b)) ≡ None = λ b. ap (find_node w.nodes) (are up b).0 ∙ none in
    by_site IsCounted w name (made up) (λ x i. counted_new w.nodes w.trees (made up x.boot) (free x.boot) (are up x.boot).1 c) (λ i. counted_new w.nodes w.trees (made up 1) (free 1) (are up 1).1 c))

counted_put : (ns : List Node) (ts : List Aaid) (x : Node) (y : Entry) → find_node ns (number_of x) ≡ Some x → starts x.origin (y ∷ x.history) ≡ starts x.origin x.history → Counted ns ts
    → Counted (put_node ns (record x { history = y ∷ x.history })) ts
counted_put ns ts x y here same c t = go (number_of x == t.mark.node) refl
  where
    v : Node
    v = record x { history = y ∷ x.history }

    at : find_node (put_node ns v) t.mark.node ≡ cond (number_of x == t.mark.node) (Some v) (find_node ns t.mark.node)
    at = find_put ns v x t.mark.node here

    go : (b : Bool) → (number_of x == t.mark.node) ≡ b → times_in t ts ≡ count_in t (find_node (put_node ns v) t.mark.node)
    go false i = c t ∙ sym (ap (count_in t) (at ∙ ap (λ (b : Bool). cond b (Some v) (find_node ns t.mark.node)) i))
    go true i =
        let num : number_of x ≡ t.mark.node = grind (arith, nat_tests, i) in
        let old : find_node ns t.mark.node ≡ Some x = ap (find_node ns) (sym num) ∙ here in
        c t ∙ ap (count_in t) old ∙ sym (ap (times_in t) same) ∙ sym (ap (count_in t) (at ∙ ap (λ (b : Bool). cond b (Some v) (find_node ns t.mark.node)) i))

counted_declares : (w : World) (n : ℕ) → IsCounted w → IsCounted (declare_again_turn w n).world
counted_declares w n c = by_declaration IsCounted w n c (λ x y here is.
    counted_put w.nodes w.trees x y here (ap (λ (o : Option Entry). starts x.origin (with_entry o x.history)) (sym is) ∙ declare_starts x.origin x.history x.superior) c)

-- ---- every run

counted_happens : (es : List Happening) (e : Happening) → IsCounted (run es) → IsCounted (happens (run es) e).world
counted_happens es (Happening.Declare n name under) c = counted_under (run es) n name under (λ (up : Option Addr) (b : ℕ). new_node name n b up) (λ up b. (refl, new_starts name n b up)) c
counted_happens es (Happening.Place n name under) c = counted_under (run es) n name under (λ (up : Option Addr) (b : ℕ). bare_node name n b up) (λ up b. (refl, refl)) c
counted_happens es (Happening.Declare_again n) c = counted_declares (run es) n c
counted_happens es (Happening.Does d) c = counted_action es d c
counted_happens es (Happening.Mark i) c = c
counted_happens es (Happening.Crash name) c = counted_crash (run es) name c
counted_happens es (Happening.Crash_in name call fill d) c = counted_crash_in es name call fill d c
counted_happens es (Happening.Stop name) c = counted_start halts halts_none (run es) name c
counted_happens es (Happening.Drive n k) c = c
counted_happens es (Happening.Drop k) c = c

counted_run : (es : List Happening) → IsCounted (run es)
counted_run [] = λ t. refl
counted_run (e ∷ es) = counted_happens es e (counted_run es)

-- ---- in the tree

pub belongs_so : (es : List Happening) → BelongsSo (run es)
belongs_so es t x here = (
  λ m. elim (own_start x.origin x.superior x.history t ((good_run es).fresh (number_of x) x here) (all_legal es x here) ((unique_run es).once (number_of x) x here) m) [ inl i ↦ inr i | inr n ↦ inl n ],
  λ n. start_member x.origin x.superior x.history t (all_legal es x here) n,
  λ k. taken_member x.origin x.superior x.history t ((good_run es).legal (number_of x) x here) k,
)

-- ---- listed once

record RootOf (es : List Happening) (t : Aaid) : Type 0 where
  node : Node
  of : IsOf (run es) t node
  root : is_root t node ≡ true

root_above : (es : List Happening) (t : Aaid) (k : ℕ) (y : Node) (b : Bool) → is_root t y ≡ b → rank es y ≤ k → IsOf (run es) t y → RootOf es t
root_above es t k y true i le of = record { node = y; of = of; root = i }
root_above es t zero y false i le of = let u = hangs es t y of i in absurd (no_less (rank es u.superior) (rank es y) u.before le)
root_above es t (suc k) y false i le of =
    let u = hangs es t y of i in
    root_above es t k u.superior (is_root t u.superior) refl (less (rank es u.superior) (rank es y) k u.before le) u.branch.superior

listed : (es : List Happening) (t : Aaid) (y : Node) → IsOf (run es) t y → times_in t (run es).trees ≡ 1
listed es t y of = counted_run es t ∙ ap (count_in t) found ∙ exactly (times_in t (starts x.origin x.history)) many most
  where
    r : RootOf es t
    r = root_above es t (rank es y) y (is_root t y) refl (le_refl (rank es y)) of

    x : Node
    x = r.node

    number : t.mark.node ≡ number_of x
    number = let k = and_right (is_name t.owner (site_of x)) (t.mark.node == number_of x) r.root in grind (arith, nat_tests, k)

    found : find_node (run es).nodes t.mark.node ≡ Some x
    found = ap (find_node (run es).nodes) number ∙ r.of.here

    once : IsOnce x.origin x.history
    once = (unique_run es).once (number_of x) x r.of.here

    most : times_in t (starts x.origin x.history) ≤ 1
    most = start_once x.origin x.superior x.history t ((good_run es).fresh (number_of x) x r.of.here) (all_legal es x r.of.here) once

    many : suc 0 ≤ times_in t (starts x.origin x.history)
    many = elim (own_start x.origin x.superior x.history t ((good_run es).fresh (number_of x) x r.of.here) (all_legal es x r.of.here) once r.of.of_tree) [
      | inl i ↦ (let off : has_taken_begin t x.history ≡ false = own_untaken x.origin t x.history once (grind (arith, nat_tests, number)) in absurd (cc (i, off)))
      | inr n ↦ n
    ]

    exactly : (n : ℕ) → suc 0 ≤ n → n ≤ 1 → n ≡ 1
    exactly n a b = omega (arith, a, b)

rooted : (es : List Happening) (t : Aaid) → suc 0 ≤ times_in t (run es).trees → (x : Node) × IsOf (run es) t x × (is_root t x ≡ true)
rooted es t n = go (find_node (run es).nodes t.mark.node) refl
  where
    go : (o : Option Node) → find_node (run es).nodes t.mark.node ≡ o → (x : Node) × IsOf (run es) t x × (is_root t x ≡ true)
    go None i = absurd (let off : times_in t (run es).trees ≡ 0 = counted_run es t ∙ ap (count_in t) i in omega (arith, off, n))
    go (Some x) i =
        let m : suc 0 ≤ times_in t (starts x.origin x.history) = subst (λ (k : ℕ). suc 0 ≤ k) (counted_run es t ∙ ap (count_in t) i) n in
        let here : IsIn (run es) x = ap (find_node (run es).nodes) (find_is (run es).nodes t.mark.node x i) ∙ i in
        let drew = start_drew x.origin x.superior x.history t (all_legal es x here) m in
        (x, record { here = here; of_tree = start_member x.origin x.superior x.history t (all_legal es x here) m }, own_root x drew.0 drew.1)
      where
        own_root : (x : Node) → t.owner ≡ site_of x → t.mark.node ≡ number_of x → is_root t x ≡ true
        own_root x i j = rw (i, j, name_same (site_of x)) (grind (arith, nat_tests))

pub listed_once : (es : List Happening) → ListedOnce (run es)
listed_once es = record { once = λ t x of. listed es t x of; rooted = λ t n. rooted es t n }

-- ---- one closing line

line_tree : (t u : Aaid) (ns : List Node) → is_line_of t (closing_line u ns) ≡ is_aaid t u
line_tree t u ns = go (some_told Outcome.Commit u ns && some_told Outcome.Rollback u ns) (all_told Outcome.Commit u ns) (all_told Outcome.Rollback u ns)
  where
    go : (a b c : Bool)
        → is_line_of t (elim a as (λ _. OutLine) [ true ↦ OutLine.Mixed u (deciders u ns) | false ↦ elim b as (λ _. OutLine) [ true ↦ OutLine.Agreed u Outcome.Commit | false ↦ elim c as (λ _. OutLine) [ true ↦ OutLine.Agreed u Outcome.Rollback | false ↦ OutLine.Open u ] ] ]) ≡ is_aaid t u
    go true b c = refl
    go false true c = refl
    go false false true = refl
    go false false false = refl

lines_are : (t : Aaid) (ns : List Node) (ts : List Aaid) → lines_of t (closing_from ns ts) ≡ times_in t ts
lines_are t ns [] = refl
lines_are t ns (u ∷ ts) =
    ap (λ (b : Bool). elim b as (λ _. ℕ) [ true ↦ suc (lines_of t (closing_from ns ts)) | false ↦ lines_of t (closing_from ns ts) ]) (line_tree t u (members_of u ns))
    ∙ ap (λ (n : ℕ). elim (is_aaid t u) as (λ _. ℕ) [ true ↦ suc n | false ↦ n ]) (lines_are t ns ts)

pub closes_once : (es : List Happening) → ClosesOnce (run es)
closes_once es t x of = lines_are t (run es).nodes (run es).trees ∙ listed es t x of
