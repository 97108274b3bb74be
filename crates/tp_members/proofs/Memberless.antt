-- What happens in a world, and what each line of a schedule does, is the same without members.
use Rattle.std.proofs.Common.{◌≡◌, ℕ, zero, suc, Bool, true, false, refl, ap, subst, ◌∙◌, arith, Option, Some, None, List, [], ◌∷◌, Result, Ok, Err}
use Rattle.tp_logrec.specs.declared.record.LogRec.{LogRec}
use Rattle.tp_model.specs.declared.line.Action.{Action}
use Rattle.tp_model.specs.declared.line.Line.{Line}
use Rattle.tp_model.specs.declared.out_line.OutLine.{OutLine}
use Rattle.tp_model.specs.declared.out_line.RecordFate.{RecordFate}
use Rattle.tp_names.specs.declared.identifiers.Addr.{Addr}
use Rattle.tp_model.specs.Parts.{Event, Entry}
use Rattle.tp_model.specs.Disk.{Remains, remains, disk_bytes}
use Rattle.tp_model.specs.World.{World, Node, Site, find_node, find_site, addr_at, oldest_between, oldest_of_all}
use Rattle.tp_model.specs.Happenings.{Declare, Does, Mark, Crash_in, Task, happens, after_lines, entry_turn, event_turn, task_of, action_lines, action_turn, declared_at, declare_turn, crash_turn, after_stop, stop_in_force, stop_in_entry, task_here, crash_in_turn, world_with_entry, WorldTurn}
use Rattle.tp_model.specs.declared.verdict.What.{What}
use Rattle.tp_model.specs.History.{digest, state}
use Rattle.tp_model.specs.Lines.{Fault, Name, Over, state_line, within_limits, if_named, is_named, resolved, marked, marked_by, shows, action_line, stop_line, has_room_for, crash_in_line, node_line, node_limit, skip_line, then_result, drain_line, show_line, image_line, line}
use Rattle.tp_model.specs.Transcript.{is_silent}
use Rattle.tp_members.specs.Expansion.{memberless}

abbrev pub turn_without : WorldTurn → WorldTurn
turn_without t = record { world = memberless t.world; lines = t.lines; told = t.told }

abbrev pub result_without : Result WorldTurn Fault → Result WorldTurn Fault
result_without (Ok t) = Ok (turn_without t)
result_without (Err f) = Err f

-- ---- happenings

entry_without : (w : World) (n : Node) (k : Option ℕ) (e : Option Entry) → entry_turn (memberless w) n k e ≡ turn_without (entry_turn w n k e)
entry_without w n k None = refl
entry_without w n k (Some e) = go e.rec refl
  where
    go : (r : Option LogRec) → e.rec ≡ r → entry_turn (memberless w) n k (Some e) ≡ turn_without (entry_turn w n k (Some e))
    go None i = rw i refl
    go (Some r) i = rw i refl

event_without : (w : World) (n : Node) (e : Event) → event_turn (memberless w) n e ≡ turn_without (event_turn w n e)
event_without w n e = entry_without w n _ _

action_without : (w : World) (d : Action) → action_turn (memberless w) d ≡ turn_without (action_turn w d)
action_without w d = go (task_of w d) refl
  where
    go : (t : Option Task) → task_of w d ≡ t → action_turn (memberless w) d ≡ turn_without (action_turn w d)
    go None i = rw (i, action_turn) refl
    go (Some t) i = rw (i, action_turn) (ap (after_lines (action_lines d)) (event_without w t.node t.event))

declared_without : (w : World) (n : ℕ) (s : List ℕ) (a : Option Addr) → declared_at (memberless w) n s a ≡ turn_without (declared_at w n s a)
declared_without w n s a = go (find_site w.sites s) refl
  where
    go : (o : Option Site) → find_site w.sites s ≡ o → declared_at (memberless w) n s a ≡ turn_without (declared_at w n s a)
    go None i = rw (i, declared_at) refl
    go (Some x) i = rw (i, declared_at) refl

declare_without : (w : World) (n : ℕ) (s : List ℕ) (under : Option ℕ) → declare_turn (memberless w) n s under ≡ turn_without (declare_turn w n s under)
declare_without w n s under = go (find_node w.nodes n) refl under
  where
    below : (p : ℕ) (o : Option Addr) → addr_at w p ≡ o → find_node w.nodes n ≡ None → declare_turn (memberless w) n s (Some p) ≡ turn_without (declare_turn w n s (Some p))
    below p None j i = rw (i, j, declare_turn) refl
    below p (Some a) j i = rw (i, j, declare_turn) (declared_without w n s (Some a))

    go : (o : Option Node) → find_node w.nodes n ≡ o → (u : Option ℕ) → declare_turn (memberless w) n s u ≡ turn_without (declare_turn w n s u)
    go (Some x) i u = rw (i, declare_turn) refl
    go None i None = rw (i, declare_turn) (declared_without w n s None)
    go None i (Some p) = below p (addr_at w p) refl i

crash_without : (w : World) (s : List ℕ) → crash_turn (memberless w) s ≡ turn_without (crash_turn w s)
crash_without w s = go (find_site w.sites s) refl
  where
    go : (o : Option Site) → find_site w.sites s ≡ o → crash_turn (memberless w) s ≡ turn_without (crash_turn w s)
    go None i = rw (i, crash_turn) refl
    go (Some x) i = rw (i, crash_turn) refl

after_without : (w : World) (s : List ℕ) (fate : RecordFate) → after_stop (memberless w) s fate ≡ turn_without (after_stop w s fate)
after_without w s fate = ap (after_lines (OutLine.Stopped s fate ∷ [])) (crash_without w s)

force_without : (w : World) (n : Node) (x : Site) (e : Entry) (st : Remains) → stop_in_force (memberless w) n x e st ≡ turn_without (stop_in_force w n x e st)
force_without w n x e st = go st.fate refl
  where
    go : (f : RecordFate) → st.fate ≡ f → stop_in_force (memberless w) n x e st ≡ turn_without (stop_in_force w n x e st)
    go RecordFate.Kept i = rw (i, stop_in_force) (after_without _ x.name RecordFate.Kept)
    go RecordFate.Lost i = rw (i, stop_in_force) (after_without _ x.name RecordFate.Lost)
    go RecordFate.None i = rw (i, stop_in_force) (after_without _ x.name RecordFate.None)

stop_without : (w : World) (n : Node) (x : Site) (call fill : ℕ) (e : Option Entry) → stop_in_entry (memberless w) n x call fill e ≡ turn_without (stop_in_entry w n x call fill e)
stop_without w n x call fill None = after_without w x.name RecordFate.None
stop_without w n x call fill (Some e) = go e.rec
  where
    go : (o : Option LogRec) → (elim o as (λ _. WorldTurn) [ None ↦ after_stop (world_with_entry (memberless w) n e) x.name RecordFate.None | Some r ↦ stop_in_force (memberless w) n x e (remains call fill r x.disk) ])
        ≡ turn_without (elim o as (λ _. WorldTurn) [ None ↦ after_stop (world_with_entry w n e) x.name RecordFate.None | Some r ↦ stop_in_force w n x e (remains call fill r x.disk) ])
    go None = after_without (world_with_entry w n e) x.name RecordFate.None
    go (Some r) = force_without w n x e (remains call fill r x.disk)

crash_in_without : (w : World) (s : List ℕ) (call fill : ℕ) (d : Action) → crash_in_turn (memberless w) s call fill d ≡ turn_without (crash_in_turn w s call fill d)
crash_in_without w s call fill d = go (find_site w.sites s) refl
  where
    here : (x : Site) → find_site w.sites s ≡ Some x → (t : Option Task) → task_here x (task_of w d) ≡ t → crash_in_turn (memberless w) s call fill d ≡ turn_without (crash_in_turn w s call fill d)
    here x i None j = rw (i, j, crash_in_turn) refl
    here x i (Some t) j = rw (i, j, crash_in_turn) (ap (after_lines (action_lines d)) (stop_without w t.node x call fill _))

    go : (o : Option Site) → find_site w.sites s ≡ o → crash_in_turn (memberless w) s call fill d ≡ turn_without (crash_in_turn w s call fill d)
    go None i = rw (i, crash_in_turn) refl
    go (Some x) i = here x i (task_here x (task_of w d)) refl

-- ---- lines with one event

limits_without : (t : WorldTurn) → within_limits (turn_without t) ≡ result_without (within_limits t)
limits_without t = grind (arith)

marked_without : (w : World) (l : Action) → marked_by (memberless w) l ≡ memberless (marked_by w l)
marked_without w (Action.Pass a b) = go (oldest_between w a b)
  where
    go : (k : Option ℕ) → marked (memberless w) k ≡ memberless (marked w k)
    go None = refl
    go (Some k) = refl
marked_without w _ = refl

named_without : (b : Bool) (r s : Result WorldTurn Fault) → r ≡ result_without s → if_named b r ≡ result_without (if_named b s)
named_without true r s h = h
named_without false r s h = refl

action_line_without : (w : World) (l : Action) → action_line (memberless w) l ≡ result_without (action_line w l)
action_line_without w l = named_without (is_named w l) _ _ (go (resolved w l))
  where
    go : (o : Option Action) → (elim o as (λ _. Result WorldTurn Fault) [ None ↦ Ok (shows (memberless w) (OutLine.Nothing ∷ [])) | Some d ↦ within_limits (happens (marked_by (memberless w) l) (Does d)) ])
        ≡ result_without (elim o as (λ _. Result WorldTurn Fault) [ None ↦ Ok (shows w (OutLine.Nothing ∷ [])) | Some d ↦ within_limits (happens (marked_by w l) (Does d)) ])
    go None = refl
    go (Some d) = ap (λ (v : World). within_limits (action_turn v d)) (marked_without w l) ∙ ap within_limits (action_without (marked_by w l) d) ∙ limits_without (action_turn (marked_by w l) d)

stop_line_without : (w : World) (s : List ℕ) (call fill : ℕ) (l : Action) → stop_line (memberless w) s call fill l ≡ turn_without (stop_line w s call fill l)
stop_line_without w s call fill l = go (resolved w l)
  where
    go : (o : Option Action) → (elim o as (λ _. WorldTurn) [ None ↦ after_lines (OutLine.Nothing ∷ []) (after_stop (memberless w) s RecordFate.None) | Some d ↦ happens (marked_by (memberless w) l) (Crash_in s call fill d) ])
        ≡ turn_without (elim o as (λ _. WorldTurn) [ None ↦ after_lines (OutLine.Nothing ∷ []) (after_stop w s RecordFate.None) | Some d ↦ happens (marked_by w l) (Crash_in s call fill d) ])
    go None = ap (after_lines (OutLine.Nothing ∷ [])) (after_without w s RecordFate.None)
    go (Some d) = ap (λ (v : World). crash_in_turn v s call fill d) (marked_without w l) ∙ crash_in_without (marked_by w l) s call fill d

room_without : (b : Bool) (t u : WorldTurn) → t ≡ turn_without u
    → (elim b as (λ _. Result WorldTurn Fault) [ false ↦ Err (Over What.Log) | true ↦ within_limits t ]) ≡ result_without (elim b as (λ _. Result WorldTurn Fault) [ false ↦ Err (Over What.Log) | true ↦ within_limits u ])
room_without false t u h = refl
room_without true t u h = ap within_limits h ∙ limits_without u

crash_in_line_without : (w : World) (s : List ℕ) (call fill : ℕ) (l : Action) → crash_in_line (memberless w) s call fill l ≡ result_without (crash_in_line w s call fill l)
crash_in_line_without w s call fill l = named_without _ _ _ (room_without (has_room_for w s (resolved w l)) _ _ (stop_line_without w s call fill l))

-- ---- the other lines

node_line_without : (w : World) (n : ℕ) (s : List ℕ) (under : Option ℕ) → node_line (memberless w) n s under ≡ result_without (node_line w n s under)
node_line_without w n s under = named_without _ _ _ (go (node_limit w s))
  where
    go : (o : Option What) → (elim o as (λ _. Result WorldTurn Fault) [ Some what ↦ Err (Over what) | None ↦ Ok (happens (memberless w) (Declare n s under)) ])
        ≡ result_without (elim o as (λ _. Result WorldTurn Fault) [ Some what ↦ Err (Over what) | None ↦ Ok (happens w (Declare n s under)) ])
    go (Some what) = refl
    go None = ap (λ (t : WorldTurn). let r : Result WorldTurn Fault = Ok t in r) (declare_without w n s under)

skip_line_without : (w : World) (a b : ℕ) → skip_line (memberless w) a b ≡ turn_without (skip_line w a b)
skip_line_without w a b = go (oldest_between w a b)
  where
    go : (o : Option ℕ) → (elim o as (λ _. WorldTurn) [ None ↦ shows (memberless w) (OutLine.Nothing ∷ []) | Some k ↦ shows (happens (memberless w) (Mark k)).world (OutLine.Lost k ∷ []) ])
        ≡ turn_without (elim o as (λ _. WorldTurn) [ None ↦ shows w (OutLine.Nothing ∷ []) | Some k ↦ shows (happens w (Mark k)).world (OutLine.Lost k ∷ []) ])
    go None = refl
    go (Some k) = refl

then_without : (t : WorldTurn) (r : Result WorldTurn Fault) → then_result (turn_without t) (result_without r) ≡ result_without (then_result t r)
then_without t (Ok u) = refl
then_without t (Err f) = refl

drain_line_without : (n : ℕ) (w : World) → drain_line n (memberless w) ≡ result_without (drain_line n w)
drain_line_without zero w = refl
drain_line_without (suc n) w = go (oldest_of_all w) (drain_line_without n)
  where
    next : Result WorldTurn Fault → Result WorldTurn Fault
    next r = elim r [ Err f ↦ Err f | Ok t ↦ then_result t (drain_line n t.world) ]

    rest : ((v : World) → drain_line n (memberless v) ≡ result_without (drain_line n v)) → (r : Result WorldTurn Fault) → next (result_without r) ≡ result_without (next r)
    rest more (Err f) = refl
    rest more (Ok t) = ap (then_result (turn_without t)) (more t.world) ∙ then_without t (drain_line n t.world)

    go : (o : Option ℕ) → ((v : World) → drain_line n (memberless v) ≡ result_without (drain_line n v))
        → (elim o as (λ _. Result WorldTurn Fault) [ None ↦ Ok (shows (memberless w) []) | Some k ↦ next (within_limits (happens (happens (memberless w) (Mark k)).world (Does (Action.Again k)))) ])
        ≡ result_without (elim o as (λ _. Result WorldTurn Fault) [ None ↦ Ok (shows w []) | Some k ↦ next (within_limits (happens (happens w (Mark k)).world (Does (Action.Again k)))) ])
    go None more = refl
    go (Some k) more =
        let v : World = (happens w (Mark k)).world in
        ap next (ap within_limits (action_without v (Action.Again k)) ∙ limits_without (action_turn v (Action.Again k))) ∙ rest more (within_limits (action_turn v (Action.Again k)))

show_line_without : (w : World) (n : ℕ) → show_line (memberless w) n ≡ result_without (show_line w n)
show_line_without w n = go (find_node w.nodes n)
  where
    go : (o : Option Node) → (elim o as (λ _. Result WorldTurn Fault) [ None ↦ Err Name | Some x ↦ Ok (shows (memberless w) (state_line n (state (digest x.origin x.history)) ∷ [])) ])
        ≡ result_without (elim o as (λ _. Result WorldTurn Fault) [ None ↦ Err Name | Some x ↦ Ok (shows w (state_line n (state (digest x.origin x.history)) ∷ [])) ])
    go None = refl
    go (Some x) = refl

image_line_without : (w : World) (s : List ℕ) → image_line (memberless w) s ≡ result_without (image_line w s)
image_line_without w s = go (find_site w.sites s)
  where
    go : (o : Option Site) → (elim o as (λ _. Result WorldTurn Fault) [ None ↦ Err Name | Some x ↦ Ok (shows (memberless w) (OutLine.Image s (disk_bytes x.disk) ∷ [])) ])
        ≡ result_without (elim o as (λ _. Result WorldTurn Fault) [ None ↦ Err Name | Some x ↦ Ok (shows w (OutLine.Image s (disk_bytes x.disk) ∷ [])) ])
    go None = refl
    go (Some x) = refl

-- a line that is shown does the same
pub line_without : (members : ℕ) (w : World) (l : Line) → is_silent l ≡ false → line 0 (memberless w) l ≡ result_without (line members w l)
line_without members w (Line.Node n s under) h = node_line_without w n s under
line_without members w (Line.Do n r) h = action_line_without w (Action.Do n r)
line_without members w (Line.Pass a b) h = action_line_without w (Action.Pass a b)
line_without members w (Line.Skip a b) h = named_without _ _ _ (ap (λ (t : WorldTurn). let r : Result WorldTurn Fault = Ok t in r) (skip_line_without w a b))
line_without members w (Line.Again k) h = action_line_without w (Action.Again k)
line_without members w Line.Drain h = drain_line_without 65536 w
line_without members w (Line.Lose n p) h = action_line_without w (Action.Lose n p)
line_without members w (Line.Heur n o) h = action_line_without w (Action.Heur n o)
line_without members w (Line.GiveUp n p) h = action_line_without w (Action.GiveUp n p)
line_without members w (Line.Retry n) h = action_line_without w (Action.Retry n)
line_without members w (Line.Purge n) h = action_line_without w (Action.Purge n)
line_without members w (Line.Crash s) h = named_without _ _ _ (ap within_limits (crash_without w s) ∙ limits_without (crash_turn w s))
line_without members w (Line.CrashIn s call fill l) h = crash_in_line_without w s call fill l
line_without members w (Line.Show n) h = show_line_without w n
line_without members w (Line.Image s) h = image_line_without w s
line_without members w (Line.Auto n k) h = absurd cc
line_without members w (Line.Leave k) h = absurd cc

-- a line that speaks of members changes nothing else, and neither shows nor tells a thing
pub record IsQuiet (w : World) (t : WorldTurn) : Type 0 where
  pub world : memberless t.world ≡ memberless w
  pub lines : t.lines ≡ []
  pub told : t.told ≡ []

quiet_if : (w : World) (b : Bool) (u t : WorldTurn) → IsQuiet w u → if_named b (Ok u) ≡ Ok t → IsQuiet w t
quiet_if w true u t q h = let e : u ≡ t = cc (h) in subst (λ (v : WorldTurn). IsQuiet w v) e q
quiet_if w false u t q h = absurd (cc (h))

pub quiet_line : (members : ℕ) (w : World) (l : Line) (t : WorldTurn) → is_silent l ≡ true → line members w l ≡ Ok t → IsQuiet w t
quiet_line members w (Line.Auto n k) t h i = quiet_if w _ _ t (record { world = refl; lines = refl; told = refl }) i
quiet_line members w (Line.Leave k) t h i = quiet_if w _ _ t (record { world = refl; lines = refl; told = refl }) i
quiet_line members w _ t h i = absurd cc
