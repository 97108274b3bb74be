-- A line that is shown leaves the members as they were, and tells users what its lines tell.
use Rattle.std.proofs.Common.{◌≡◌, ◌++◌, ◌==◌, if◌then◌else◌, ℕ, zero, suc, nat_lt, length, Bool, true, false, refl, ap, sym, ◌∙◌, subst, Option, Some, None, List, [], ◌∷◌, Result, Ok, Err}
use Rattle.tp_names.specs.declared.identifiers.Addr.{Addr}
use Rattle.tp_logrec.specs.declared.record.LogRec.{LogRec}
use Rattle.tp_model.specs.declared.line.Action.{Action}
use Rattle.tp_model.specs.declared.line.Line.{Line}
use Rattle.tp_model.specs.declared.out_line.OutLine.{OutLine}
use Rattle.tp_model.specs.declared.out_line.RecordFate.{RecordFate}
use Rattle.tp_model.specs.declared.verdict.What.{What}
use Rattle.tp_model.specs.Disk.{Remains, remains, disk_bytes}
use Rattle.tp_model.specs.Parts.{Entry, Answer, Out}
use Rattle.tp_model.specs.History.{digest, answer, state}
use Rattle.tp_model.specs.World.{World, Node, Site, Drive, addr_at, find_node, find_site, put_site, oldest_between, oldest_of_all, number_of, site_of}
use Rattle.tp_model.specs.Happenings.{Declare, Does, Mark, Crash_in, Task, Told, still, happens, task_of, after_lines, action_lines, action_turn, event_turn, entry_turn, logged, declared_at, declare_turn, crash_turn, log_lines, refused_lines, out_lines, told_by as told_by_outs, after_stop, stop_in_force, stop_in_entry, stop_in_task, task_here, crash_in_turn, world_with_entry, WorldTurn}
use Rattle.tp_model.specs.Lines.{Fault, Name, Over, state_line, within_limits, is_full, if_named, is_named, resolved, marked, marked_by, shows, action_line, node_line, node_limit, skip_line, then_result, drain_line, show_line, image_line, stop_line, has_room_for, crash_in_line, line}
use Rattle.tp_model.specs.Transcript.{is_silent}
use Rattle.tp_world_members.specs.Told.{told_in}
use Rattle.tp_world_members.proofs.Asking.{told_more}

-- the members are those, and what is told is what the lines tell
pub record IsSteady (ds : List Drive) (ks : List ℕ) (t : WorldTurn) : Type 0 where
  pub drives : t.world.drives ≡ ds
  pub dropped : t.world.dropped ≡ ks
  pub told : t.told ≡ told_in t.lines

pub record Has (ds : List Drive) (ks : List ℕ) (w : World) : Type 0 where
  pub drives : w.drives ≡ ds
  pub dropped : w.dropped ≡ ks

-- lines that tell nothing
abbrev TellNothing : List OutLine → Type 0
TellNothing ls = told_in ls ≡ []

log_quiet : (s : List ℕ) (r : Option LogRec) → TellNothing (log_lines s r)
log_quiet s None = refl
log_quiet s (Some r) = refl

refused_quiet : (n : Option ℕ) → TellNothing (refused_lines n)
refused_quiet None = refl
refused_quiet (Some n) = go (n == 21) (n == 22)
  where
    go : (a b : Bool) → TellNothing ((if a then OutLine.Dropped n else if b then OutLine.Dropped n else OutLine.Refused n) ∷ [])
    go true b = refl
    go false true = refl
    go false false = refl

outs_told : (node sent : ℕ) (outs : List Out) → told_by_outs node outs ≡ told_in (out_lines node sent outs)
outs_told node sent [] = refl
outs_told node sent (Out.Tell i ∷ outs) = ap (λ (ts : List Told). record { node = node; indication = i } ∷ ts) (outs_told node sent outs)
outs_told node sent (Out.Send to r ∷ outs) = outs_told node (suc sent) outs

after_quiet : (ls ms : List OutLine) (ts : List Told) → TellNothing ls → ts ≡ told_in ms → ts ≡ told_in (ls ++ ms)
after_quiet ls ms ts q is = is ∙ sym (told_more ls ms ∙ ap (λ (us : List Told). us ++ told_in ms) q)

both_quiet : (ls ms : List OutLine) → TellNothing ls → TellNothing ms → TellNothing (ls ++ ms)
both_quiet ls ms q r = told_more ls ms ∙ ap (λ (us : List Told). us ++ told_in ms) q ∙ r

module _ (ds : List Drive) (ks : List ℕ) where
  -- ---- what happens

  logged_has : (w : World) (n : Node) (r : Option LogRec) → Has ds ks w → Has ds ks (logged w n r)
  logged_has w n None h = h
  logged_has w n (Some r) h = record { drives = h.drives; dropped = h.dropped }

  entered_has : (w : World) (n : Node) (e : Entry) → Has ds ks w → Has ds ks (world_with_entry w n e)
  entered_has w n e h = record { drives = h.drives; dropped = h.dropped }

  still_steady : (w : World) → Has ds ks w → IsSteady ds ks (still w)
  still_steady w h = record { drives = h.drives; dropped = h.dropped; told = refl }

  after_steady : (ls : List OutLine) (t : WorldTurn) → TellNothing ls → IsSteady ds ks t → IsSteady ds ks (after_lines ls t)
  after_steady ls t q s = record { drives = s.drives; dropped = s.dropped; told = after_quiet ls t.lines t.told q s.told }

  shown_steady : (w : World) (ls : List OutLine) → TellNothing ls → Has ds ks w → IsSteady ds ks (shows w ls)
  shown_steady w ls q h = record { drives = h.drives; dropped = h.dropped; told = sym q }

  entry_steady : (w : World) (n : Node) (number : Option ℕ) (e : Option Entry) → Has ds ks w → IsSteady ds ks (entry_turn w n number e)
  entry_steady w n number None h = record { drives = h.drives; dropped = h.dropped; told = sym (refused_quiet number) }
  entry_steady w n number (Some e) h =
      let v : Has ds ks (logged (world_with_entry w n e) n e.rec) = logged_has (world_with_entry w n e) n e.rec (entered_has w n e h) in
      record {
        drives = v.drives;
        dropped = v.dropped;
        told = after_quiet (log_lines (site_of n) e.rec ++ refused_lines number) (out_lines (number_of n) (length w.frames) e.outs) (told_by_outs (number_of n) e.outs) (both_quiet (log_lines (site_of n) e.rec) (refused_lines number) (log_quiet (site_of n) e.rec) (refused_quiet number))
            (outs_told (number_of n) (length w.frames) e.outs);
      }

  action_quiet : (d : Action) → TellNothing (action_lines d)
  action_quiet (Action.Again k) = refl
  action_quiet _ = refl

  action_steady : (w : World) (d : Action) → Has ds ks w → IsSteady ds ks (action_turn w d)
  action_steady w d h = go (task_of w d)
    where
      go : (t : Option Task) → IsSteady ds ks (elim t as (λ _. WorldTurn) [ None ↦ still w | Some t ↦ after_lines (action_lines d) (event_turn w t.node t.event) ])
      go None = still_steady w h
      go (Some t) = let a : Answer = answer t.node.origin t.node.history t.event in after_steady (action_lines d) (event_turn w t.node t.event) (action_quiet d) (entry_steady w t.node a.number a.entry h)

  declared_steady : (w : World) (n : ℕ) (s : List ℕ) (superior : Option Addr) → Has ds ks w → IsSteady ds ks (declared_at w n s superior)
  declared_steady w n s superior h = go (find_site w.sites s) refl
    where
      go : (x : Option Site) → find_site w.sites s ≡ x → IsSteady ds ks (declared_at w n s superior)
      go None e = rw (declared_at, e) (record { drives = h.drives; dropped = h.dropped; told = refl })
      go (Some x) e = rw (declared_at, e) (record { drives = h.drives; dropped = h.dropped; told = refl })

  declare_steady : (w : World) (n : ℕ) (s : List ℕ) (under : Option ℕ) → Has ds ks w → IsSteady ds ks (declare_turn w n s under)
  declare_steady w n s under h = go (find_node w.nodes n) refl under
    where
      below : (p : ℕ) (a : Option Addr) → IsSteady ds ks (elim a as (λ _. WorldTurn) [ None ↦ still w | Some b ↦ declared_at w n s (Some b) ])
      below p None = still_steady w h
      below p (Some b) = declared_steady w n s (Some b) h

      come : (u : Option ℕ) → IsSteady ds ks (elim u as (λ _. WorldTurn) [ None ↦ declared_at w n s None | Some p ↦ elim (addr_at w p) as (λ _. WorldTurn) [ None ↦ still w | Some a ↦ declared_at w n s (Some a) ] ])
      come None = declared_steady w n s None h
      come (Some p) = below p (addr_at w p)

      go : (x : Option Node) → find_node w.nodes n ≡ x → (u : Option ℕ) → IsSteady ds ks (declare_turn w n s u)
      go None e u = rw (declare_turn, e) (come u)
      go (Some x) e u = rw (declare_turn, e) (still_steady w h)

  crash_steady : (w : World) (s : List ℕ) → Has ds ks w → IsSteady ds ks (crash_turn w s)
  crash_steady w s h = go (find_site w.sites s) refl
    where
      go : (x : Option Site) → find_site w.sites s ≡ x → IsSteady ds ks (crash_turn w s)
      go None e = rw (crash_turn, e) (still_steady w h)
      go (Some x) e = rw (crash_turn, e) (record { drives = h.drives; dropped = h.dropped; told = refl })

  -- ---- a stop in an event

  stop_steady : (w : World) (s : List ℕ) (fate : RecordFate) → Has ds ks w → IsSteady ds ks (after_stop w s fate)
  stop_steady w s fate h = after_steady (OutLine.Stopped s fate ∷ []) (crash_turn w s) refl (crash_steady w s h)

  force_steady : (w : World) (n : Node) (x : Site) (e : Entry) (st : Remains) → Has ds ks w → IsSteady ds ks (stop_in_force w n x e st)
  force_steady w n x e st h = stop_steady _ x.name st.fate (go st.fate)
    where
      v : World
      v = record w { sites = put_site w.sites (record x { disk = st.disk }) }

      has : Has ds ks v
      has = record { drives = h.drives; dropped = h.dropped }

      go : (f : RecordFate) → Has ds ks (elim f as (λ _. World) [ RecordFate.Kept ↦ world_with_entry v n e | RecordFate.Lost ↦ v | RecordFate.None ↦ v ])
      go RecordFate.Kept = entered_has v n e has
      go RecordFate.Lost = has
      go RecordFate.None = has

  stop_entry_steady : (w : World) (n : Node) (x : Site) (call fill : ℕ) (e : Option Entry) → Has ds ks w → IsSteady ds ks (stop_in_entry w n x call fill e)
  stop_entry_steady w n x call fill None h = stop_steady w x.name RecordFate.None h
  stop_entry_steady w n x call fill (Some e) h = go e.rec
    where
      go : (r : Option LogRec) → IsSteady ds ks (elim r as (λ _. WorldTurn) [ None ↦ after_stop (world_with_entry w n e) x.name RecordFate.None | Some r ↦ stop_in_force w n x e (remains call fill r x.disk) ])
      go None = stop_steady (world_with_entry w n e) x.name RecordFate.None (entered_has w n e h)
      go (Some r) = force_steady w n x e (remains call fill r x.disk) h

  crash_in_steady : (w : World) (s : List ℕ) (call fill : ℕ) (d : Action) → Has ds ks w → IsSteady ds ks (crash_in_turn w s call fill d)
  crash_in_steady w s call fill d h = go (find_site w.sites s)
    where
      task : (x : Site) (t : Option Task) → IsSteady ds ks (elim t as (λ _. WorldTurn) [ None ↦ still w | Some t ↦ after_lines (action_lines d) (stop_in_task w x call fill t) ])
      task x None = still_steady w h
      task x (Some t) = after_steady (action_lines d) (stop_in_task w x call fill t) (action_quiet d) (stop_entry_steady w t.node x call fill (answer t.node.origin t.node.history t.event).entry h)

      go : (o : Option Site) → IsSteady ds ks (elim o as (λ _. WorldTurn) [ None ↦ still w | Some x ↦ elim (task_here x (task_of w d)) as (λ _. WorldTurn) [ None ↦ still w | Some t ↦ after_lines (action_lines d) (stop_in_task w x call fill t) ] ])
      go None = still_steady w h
      go (Some x) = task x (task_here x (task_of w d))

  -- ---- lines

  abbrev Leaves : Result WorldTurn Fault → Type 0
  Leaves (Err f) = Unit {0}
  Leaves (Ok t) = IsSteady ds ks t

  within : (t : WorldTurn) → IsSteady ds ks t → Leaves (within_limits t)
  within t s = go (is_full t.world.sites) (nat_lt 65535 (length t.world.frames))
    where
      go : (a b : Bool) → Leaves (elim a as (λ _. Result WorldTurn Fault) [ true ↦ Err (Over What.Log) | false ↦ elim b as (λ _. Result WorldTurn Fault) [ true ↦ Err (Over What.Frames) | false ↦ Ok t ] ])
      go true b = tt
      go false true = tt
      go false false = s

  named : (b : Bool) (r : Result WorldTurn Fault) → Leaves r → Leaves (if_named b r)
  named true r h = h
  named false r h = tt

  marked_has : (w : World) (l : Action) → Has ds ks w → Has ds ks (marked_by w l)
  marked_has w (Action.Pass a b) h = go (oldest_between w a b)
    where
      go : (k : Option ℕ) → Has ds ks (marked w k)
      go None = h
      go (Some k) = record { drives = h.drives; dropped = h.dropped }
  marked_has w _ h = h

  action_line_steady : (w : World) (l : Action) → Has ds ks w → Leaves (action_line w l)
  action_line_steady w l h = named (is_named w l) _ (go (resolved w l))
    where
      go : (o : Option Action) → Leaves (elim o as (λ _. Result WorldTurn Fault) [ None ↦ Ok (shows w (OutLine.Nothing ∷ [])) | Some d ↦ within_limits (happens (marked_by w l) (Does d)) ])
      go None = shown_steady w (OutLine.Nothing ∷ []) refl h
      go (Some d) = within (happens (marked_by w l) (Does d)) (action_steady (marked_by w l) d (marked_has w l h))

  stop_line_steady : (w : World) (s : List ℕ) (call fill : ℕ) (l : Action) → Has ds ks w → IsSteady ds ks (stop_line w s call fill l)
  stop_line_steady w s call fill l h = go (resolved w l)
    where
      go : (o : Option Action) → IsSteady ds ks (elim o as (λ _. WorldTurn) [ None ↦ after_lines (OutLine.Nothing ∷ []) (after_stop w s RecordFate.None) | Some d ↦ happens (marked_by w l) (Crash_in s call fill d) ])
      go None = after_steady (OutLine.Nothing ∷ []) (after_stop w s RecordFate.None) refl (stop_steady w s RecordFate.None h)
      go (Some d) = crash_in_steady (marked_by w l) s call fill d (marked_has w l h)

  crash_in_line_steady : (w : World) (s : List ℕ) (call fill : ℕ) (l : Action) → Has ds ks w → Leaves (crash_in_line w s call fill l)
  crash_in_line_steady w s call fill l h = named _ _ (go (has_room_for w s (resolved w l)))
    where
      go : (b : Bool) → Leaves (elim b as (λ _. Result WorldTurn Fault) [ false ↦ Err (Over What.Log) | true ↦ within_limits (stop_line w s call fill l) ])
      go false = tt
      go true = within (stop_line w s call fill l) (stop_line_steady w s call fill l h)

  node_line_steady : (w : World) (n : ℕ) (s : List ℕ) (under : Option ℕ) → Has ds ks w → Leaves (node_line w n s under)
  node_line_steady w n s under h = named _ _ (go (node_limit w s))
    where
      go : (o : Option What) → Leaves (elim o as (λ _. Result WorldTurn Fault) [ Some what ↦ Err (Over what) | None ↦ Ok (happens w (Declare n s under)) ])
      go (Some what) = tt
      go None = declare_steady w n s under h

  skip_line_steady : (w : World) (a b : ℕ) → Has ds ks w → IsSteady ds ks (skip_line w a b)
  skip_line_steady w a b h = go (oldest_between w a b)
    where
      go : (o : Option ℕ) → IsSteady ds ks (elim o as (λ _. WorldTurn) [ None ↦ shows w (OutLine.Nothing ∷ []) | Some k ↦ shows (happens w (Mark k)).world (OutLine.Lost k ∷ []) ])
      go None = shown_steady w (OutLine.Nothing ∷ []) refl h
      go (Some k) = shown_steady (happens w (Mark k)).world (OutLine.Lost k ∷ []) refl (record { drives = h.drives; dropped = h.dropped })

  then_steady : (t : WorldTurn) (r : Result WorldTurn Fault) → IsSteady ds ks t → Leaves r → Leaves (then_result t r)
  then_steady t (Err e) s h = tt
  then_steady t (Ok u) s h = record { drives = h.drives; dropped = h.dropped; told = ap (λ (ts : List Told). ts ++ u.told) s.told ∙ ap (λ (ts : List Told). told_in t.lines ++ ts) h.told ∙ sym (told_more t.lines u.lines) }

  drain_line_steady : (n : ℕ) (w : World) → Has ds ks w → Leaves (drain_line n w)
  drain_line_steady zero w h = shown_steady w [] refl h
  drain_line_steady (suc n) w h = go (oldest_of_all w) (drain_line_steady n)
    where
      next : Result WorldTurn Fault → Result WorldTurn Fault
      next x = elim x [ Err e ↦ Err e | Ok t ↦ then_result t (drain_line n t.world) ]

      rest : ((v : World) → Has ds ks v → Leaves (drain_line n v)) → (x : Result WorldTurn Fault) → Leaves x → Leaves (next x)
      rest more (Err e) s = tt
      rest more (Ok t) s = then_steady t (drain_line n t.world) s (more t.world (record { drives = s.drives; dropped = s.dropped }))

      go : (o : Option ℕ) → ((v : World) → Has ds ks v → Leaves (drain_line n v))
          → Leaves (elim o as (λ _. Result WorldTurn Fault) [ None ↦ Ok (shows w []) | Some k ↦ next (within_limits (happens (happens w (Mark k)).world (Does (Action.Again k)))) ])
      go None more = shown_steady w [] refl h
      go (Some k) more =
          let v : World = (happens w (Mark k)).world in
          rest more (within_limits (happens v (Does (Action.Again k)))) (within (happens v (Does (Action.Again k))) (action_steady v (Action.Again k) (record { drives = h.drives; dropped = h.dropped })))

  show_line_steady : (w : World) (n : ℕ) → Has ds ks w → Leaves (show_line w n)
  show_line_steady w n h = go (find_node w.nodes n)
    where
      go : (o : Option Node) → Leaves (elim o as (λ _. Result WorldTurn Fault) [ None ↦ Err Name | Some x ↦ Ok (shows w (state_line n (state (digest x.origin x.history)) ∷ [])) ])
      go None = tt
      go (Some x) = shown_steady w (state_line n (state (digest x.origin x.history)) ∷ []) refl h

  image_line_steady : (w : World) (s : List ℕ) → Has ds ks w → Leaves (image_line w s)
  image_line_steady w s h = go (find_site w.sites s)
    where
      go : (o : Option Site) → Leaves (elim o as (λ _. Result WorldTurn Fault) [ None ↦ Err Name | Some x ↦ Ok (shows w (OutLine.Image s (disk_bytes x.disk) ∷ [])) ])
      go None = tt
      go (Some x) = shown_steady w (OutLine.Image s (disk_bytes x.disk) ∷ []) refl h

  line_leaves : (members : ℕ) (w : World) (l : Line) → is_silent l ≡ false → Has ds ks w → Leaves (line members w l)
  line_leaves k w (Line.Node n s under) b h = node_line_steady w n s under h
  line_leaves k w (Line.Do n q) b h = action_line_steady w (Action.Do n q) h
  line_leaves k w (Line.Pass x y) b h = action_line_steady w (Action.Pass x y) h
  line_leaves k w (Line.Skip x y) b h = named _ (Ok (skip_line w x y)) (skip_line_steady w x y h)
  line_leaves k w (Line.Again j) b h = action_line_steady w (Action.Again j) h
  line_leaves k w Line.Drain b h = drain_line_steady 65536 w h
  line_leaves k w (Line.Lose n p) b h = action_line_steady w (Action.Lose n p) h
  line_leaves k w (Line.Heur n o) b h = action_line_steady w (Action.Heur n o) h
  line_leaves k w (Line.GiveUp n p) b h = action_line_steady w (Action.GiveUp n p) h
  line_leaves k w (Line.Retry n) b h = action_line_steady w (Action.Retry n) h
  line_leaves k w (Line.Purge n) b h = action_line_steady w (Action.Purge n) h
  line_leaves k w (Line.Crash s) b h = named _ _ (within (crash_turn w s) (crash_steady w s h))
  line_leaves k w (Line.CrashIn s call fill l) b h = crash_in_line_steady w s call fill l h
  line_leaves k w (Line.Show n) b h = show_line_steady w n h
  line_leaves k w (Line.Image s) b h = image_line_steady w s h
  line_leaves k w (Line.Auto n j) b h = absurd cc
  line_leaves k w (Line.Leave j) b h = absurd cc

pub line_steady : (members : ℕ) (w : World) (l : Line) (t : WorldTurn) → is_silent l ≡ false → line members w l ≡ Ok t → IsSteady w.drives w.dropped t
line_steady members w l t shown is = subst (Leaves w.drives w.dropped) is (line_leaves w.drives w.dropped members w l shown (record { drives = refl; dropped = refl }))
