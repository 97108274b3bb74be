-- The world that lines of a schedule leave, with members or without, is that of a run.
use Rattle.std.proofs.Common.{ℕ, zero, suc, ◌+◌, ◌&&◌, nat_le, nat_lt, length, Bool, true, false, refl, ap, sym, subst, Option, Some, None, List, [], ◌∷◌, ◌++◌, Result, Ok, Err}
use Rattle.tp_records.specs.declared.request.Request.{Request}
use Rattle.tp_model.specs.declared.line.LineRequest.{LineRequest}
use Rattle.tp_model.specs.declared.line.Action.{Action}
use Rattle.tp_model.specs.declared.line.Line.{Line}
use Rattle.tp_model.specs.declared.out_line.OutLine.{OutLine}
use Rattle.tp_model.specs.declared.out_line.RecordFate.{RecordFate}
use Rattle.tp_model.specs.declared.verdict.What.{What}
use Rattle.tp_model.specs.LineText.{line_text}
use Rattle.tp_model.specs.Disk.{disk_bytes}
use Rattle.tp_model.specs.History.{digest, state}
use Rattle.tp_model.specs.World.{World, Node, Site, empty_world, find_node, find_site, is_node, oldest_between, oldest_of_all}
use Rattle.tp_model.specs.Happenings.{Happening, Declare, Does, Mark, Crash, Crash_in, Drive, Drop, happens, run, after_lines, after_stop, WorldTurn}
use Rattle.tp_model.specs.Lines.{Fault, Name, Over, is_member_there, state_line, within_limits, is_full, if_named, is_named, resolved, marked, marked_by, shows, action_line, stop_line, has_room_for, crash_in_line, node_line, node_limit, skip_line, then_result, drain_line, show_line, image_line, line}
use Rattle.tp_model.specs.LineReading.{Reading, Blank, Faulty, Says, read_line}
use Rattle.tp_model.specs.Transcript.{Put, Play, RawLine, Transcript, raw_lines, puts_of, line_request, answer_turn, answered, echo, with_put, with_lines, stopped, content, ends, At_limit, Bad_input, behind, breaks, transcript_from, transcript_with, octets_taken, line_played}
use Rattle.tp_model.specs.Expand.{behind_play, played_all}
use Rattle.tp_members.specs.Expansion.{IsOfRun}

-- one thing more happens
goes_on : (w : World) (e : Happening) → IsOfRun w → IsOfRun (happens w e).world
goes_on w e r = (e ∷ r.0, ap (λ (v : World). (happens v e).world) r.1)

-- a line that is done leaves such a world
abbrev pub LeavesRun : Result WorldTurn Fault → Type 0
LeavesRun (Err f) = Unit {0}
LeavesRun (Ok t) = IsOfRun t.world

-- ---- lines with one event

run_within : (t : WorldTurn) → IsOfRun t.world → LeavesRun (within_limits t)
run_within t r = go (is_full t.world.sites) (nat_lt 65535 (length t.world.frames))
  where
    go : (a b : Bool) → LeavesRun (elim a as (λ _. Result WorldTurn Fault) [ true ↦ Err (Over What.Log) | false ↦ elim b as (λ _. Result WorldTurn Fault) [ true ↦ Err (Over What.Frames) | false ↦ Ok t ] ])
    go true b = tt
    go false true = tt
    go false false = r

run_named : (b : Bool) (r : Result WorldTurn Fault) → LeavesRun r → LeavesRun (if_named b r)
run_named true r h = h
run_named false r h = tt

run_marked : (w : World) (l : Action) → IsOfRun w → IsOfRun (marked_by w l)
run_marked w (Action.Pass a b) r = go (oldest_between w a b)
  where
    go : (k : Option ℕ) → IsOfRun (marked w k)
    go None = r
    go (Some k) = goes_on w (Mark k) r
run_marked w _ r = r

run_action_line : (w : World) (l : Action) → IsOfRun w → LeavesRun (action_line w l)
run_action_line w l r = run_named (is_named w l) _ (go (resolved w l))
  where
    go : (o : Option Action) → LeavesRun (elim o as (λ _. Result WorldTurn Fault) [ None ↦ Ok (shows w (OutLine.Nothing ∷ [])) | Some d ↦ within_limits (happens (marked_by w l) (Does d)) ])
    go None = r
    go (Some d) = run_within (happens (marked_by w l) (Does d)) (goes_on (marked_by w l) (Does d) (run_marked w l r))

run_stop_line : (w : World) (s : List ℕ) (call fill : ℕ) (l : Action) → IsOfRun w → IsOfRun (stop_line w s call fill l).world
run_stop_line w s call fill l r = go (resolved w l)
  where
    go : (o : Option Action) → IsOfRun (elim o as (λ _. WorldTurn) [ None ↦ after_lines (OutLine.Nothing ∷ []) (after_stop w s RecordFate.None) | Some d ↦ happens (marked_by w l) (Crash_in s call fill d) ]).world
    go None = goes_on w (Crash s) r
    go (Some d) = goes_on (marked_by w l) (Crash_in s call fill d) (run_marked w l r)

run_crash_in_line : (w : World) (s : List ℕ) (call fill : ℕ) (l : Action) → IsOfRun w → LeavesRun (crash_in_line w s call fill l)
run_crash_in_line w s call fill l r = run_named _ _ (go (has_room_for w s (resolved w l)))
  where
    go : (b : Bool) → LeavesRun (elim b as (λ _. Result WorldTurn Fault) [ false ↦ Err (Over What.Log) | true ↦ within_limits (stop_line w s call fill l) ])
    go false = tt
    go true = run_within (stop_line w s call fill l) (run_stop_line w s call fill l r)

-- ---- the other lines

run_node_line : (w : World) (n : ℕ) (s : List ℕ) (under : Option ℕ) → IsOfRun w → LeavesRun (node_line w n s under)
run_node_line w n s under r = run_named _ _ (go (node_limit w s))
  where
    go : (o : Option What) → LeavesRun (elim o as (λ _. Result WorldTurn Fault) [ Some what ↦ Err (Over what) | None ↦ Ok (happens w (Declare n s under)) ])
    go (Some what) = tt
    go None = goes_on w (Declare n s under) r

run_skip_line : (w : World) (a b : ℕ) → IsOfRun w → IsOfRun (skip_line w a b).world
run_skip_line w a b r = go (oldest_between w a b)
  where
    go : (o : Option ℕ) → IsOfRun (elim o as (λ _. WorldTurn) [ None ↦ shows w (OutLine.Nothing ∷ []) | Some k ↦ shows (happens w (Mark k)).world (OutLine.Lost k ∷ []) ]).world
    go None = r
    go (Some k) = goes_on w (Mark k) r

run_then : (t : WorldTurn) (r : Result WorldTurn Fault) → LeavesRun r → LeavesRun (then_result t r)
run_then t (Err f) h = tt
run_then t (Ok u) h = h

run_drain_line : (n : ℕ) (w : World) → IsOfRun w → LeavesRun (drain_line n w)
run_drain_line zero w r = r
run_drain_line (suc n) w r = go (oldest_of_all w) (run_drain_line n)
  where
    next : Result WorldTurn Fault → Result WorldTurn Fault
    next x = elim x [ Err f ↦ Err f | Ok t ↦ then_result t (drain_line n t.world) ]

    rest : ((v : World) → IsOfRun v → LeavesRun (drain_line n v)) → (x : Result WorldTurn Fault) → LeavesRun x → LeavesRun (next x)
    rest more (Err f) h = tt
    rest more (Ok t) h = run_then t (drain_line n t.world) (more t.world h)

    go : (o : Option ℕ) → ((v : World) → IsOfRun v → LeavesRun (drain_line n v))
        → LeavesRun (elim o as (λ _. Result WorldTurn Fault) [ None ↦ Ok (shows w []) | Some k ↦ next (within_limits (happens (happens w (Mark k)).world (Does (Action.Again k)))) ])
    go None more = r
    go (Some k) more =
        let v : World = (happens w (Mark k)).world in
        rest more (within_limits (happens v (Does (Action.Again k)))) (run_within (happens v (Does (Action.Again k))) (goes_on v (Does (Action.Again k)) (goes_on w (Mark k) r)))

run_show_line : (w : World) (n : ℕ) → IsOfRun w → LeavesRun (show_line w n)
run_show_line w n r = go (find_node w.nodes n)
  where
    go : (o : Option Node) → LeavesRun (elim o as (λ _. Result WorldTurn Fault) [ None ↦ Err Name | Some x ↦ Ok (shows w (state_line n (state (digest x.origin x.history)) ∷ [])) ])
    go None = tt
    go (Some x) = r

run_image_line : (w : World) (s : List ℕ) → IsOfRun w → LeavesRun (image_line w s)
run_image_line w s r = go (find_site w.sites s)
  where
    go : (o : Option Site) → LeavesRun (elim o as (λ _. Result WorldTurn Fault) [ None ↦ Err Name | Some x ↦ Ok (shows w (OutLine.Image s (disk_bytes x.disk) ∷ [])) ])
    go None = tt
    go (Some x) = r

pub run_line : (members : ℕ) (w : World) (l : Line) → IsOfRun w → LeavesRun (line members w l)
run_line members w (Line.Node n s under) r = run_node_line w n s under r
run_line members w (Line.Do n q) r = run_action_line w (Action.Do n q) r
run_line members w (Line.Pass a b) r = run_action_line w (Action.Pass a b) r
run_line members w (Line.Skip a b) r = run_named (is_node w a && is_node w b) (Ok (skip_line w a b)) (run_skip_line w a b r)
run_line members w (Line.Again k) r = run_action_line w (Action.Again k) r
run_line members w Line.Drain r = run_drain_line 65536 w r
run_line members w (Line.Lose n p) r = run_action_line w (Action.Lose n p) r
run_line members w (Line.Heur n o) r = run_action_line w (Action.Heur n o) r
run_line members w (Line.GiveUp n p) r = run_action_line w (Action.GiveUp n p) r
run_line members w (Line.Retry n) r = run_action_line w (Action.Retry n) r
run_line members w (Line.Purge n) r = run_action_line w (Action.Purge n) r
run_line members w (Line.Crash s) r = run_named _ _ (run_within (happens w (Crash s)) (goes_on w (Crash s) r))
run_line members w (Line.CrashIn s call fill l) r = run_crash_in_line w s call fill l r
run_line members w (Line.Show n) r = run_show_line w n r
run_line members w (Line.Image s) r = run_image_line w s r
run_line members w (Line.Auto n k) r = run_named (is_node w n && is_member_there members w k) (Ok (happens w (Drive n k))) (goes_on w (Drive n k) r)
run_line members w (Line.Leave k) r = run_named (is_member_there members w k) (Ok (happens w (Drop k))) (goes_on w (Drop k) r)

-- ---- answers

run_answer : (before : ℕ) (w : World) (n : ℕ) (q : LineRequest) → IsOfRun w → LeavesRun (answer_turn before w n q)
run_answer before w n q r = go (is_named w (Action.Do n q)) (nat_le 4096 before)
  where
    go : (a b : Bool) → LeavesRun (elim a as (λ _. Result WorldTurn Fault) [ false ↦ Err Name | true ↦ elim b as (λ _. Result WorldTurn Fault) [ true ↦ Err (Over What.Answers) | false ↦ action_line w (Action.Do n q) ] ])
    go false b = tt
    go true true = tt
    go true false = run_action_line w (Action.Do n q) r

run_answered : (answers : List (Option Request)) (before : ℕ) (w : World) (qs : List Put) → IsOfRun w → IsOfRun (answered answers before w qs).world
run_answered [] before w qs r = r
run_answered (a ∷ answers) before w [] r = r
run_answered (None ∷ answers) before w (q ∷ qs) r = run_answered answers before w qs r
run_answered (Some x ∷ answers) before w (q ∷ qs) r = go (answer_turn before w q.node (line_request x)) (run_answer before w q.node (line_request x) r) (run_answered answers (suc before))
  where
    go : (y : Result WorldTurn Fault) → LeavesRun y → ((v : World) (ps : List Put) → IsOfRun v → IsOfRun (answered answers (suc before) v ps).world)
        → IsOfRun (elim y as (λ _. Play) [
          | Err f ↦ with_put q (stopped w answers f)
          | Ok t ↦ with_put
              q
              (with_lines
              (OutLine.Echo (line_text (Line.Do q.node (line_request x))) ∷ t.lines)
              (answered answers (suc before) t.world (qs ++ puts_of t.world t.told)))
        ]).world
    go (Err f) h more = r
    go (Ok t) h more = more t.world (qs ++ puts_of t.world t.told) h

run_played : (members : ℕ) (answers : List (Option Request)) (w : World) (l : Line) → IsOfRun w → IsOfRun (line_played members answers w l).world
run_played members answers w l r = go (line members w l) (run_line members w l r)
  where
    go : (y : Result WorldTurn Fault) → LeavesRun y
        → IsOfRun (elim y as (λ _. Play) [ Err f ↦ stopped w answers f | Ok t ↦ with_lines (echo l ++ t.lines) (answered answers 0 t.world (puts_of t.world t.told)) ]).world
    go (Err f) h = r
    go (Ok t) h = run_answered answers 0 t.world (puts_of t.world t.told) h

-- ---- schedules

run_played_all : (members : ℕ) (answers : List (Option Request)) (w : World) (ls : List Line) → IsOfRun w → IsOfRun (played_all members answers w ls).world
run_played_all members answers w [] r = r
run_played_all members answers w (l ∷ ls) r = go (line_played members answers w l).fault (run_played members answers w l r) (λ bs v. run_played_all members bs v ls)
  where
    go : (f : Option Fault) → IsOfRun (line_played members answers w l).world → ((bs : List (Option Request)) (v : World) → IsOfRun v → IsOfRun (played_all members bs v ls).world)
        → IsOfRun (elim f as (λ _. Play) [ Some f ↦ line_played members answers w l | None ↦ behind_play (line_played members answers w l) (played_all members (line_played members answers w l).left (line_played members answers w l).world ls) ]).world
    go (Some f) h more = h
    go None h more = more (line_played members answers w l).left (line_played members answers w l).world h

run_transcript : (members at before : ℕ) (answers : List (Option Request)) (w : World) (ls : List RawLine) → IsOfRun w → IsOfRun (transcript_from members at before answers w ls).world
run_transcript members at before answers w [] r = r
run_transcript members at before answers w (l ∷ ls) r = go (nat_lt 1048576 (before + octets_taken l)) (read_line (content l)) (λ bs v. run_transcript members (suc at) (before + octets_taken l) bs v ls)
  where
    rest : List (Option Request) → World → Transcript
    rest bs v = transcript_from members (suc at) (before + octets_taken l) bs v ls

    after : Line → Option Fault → Transcript
    after x f = elim f [ Some f ↦ breaks at f (line_played members answers w x) | None ↦ behind (line_played members answers w x) (rest (line_played members answers w x).left (line_played members answers w x).world) ]

    run_after : (x : Line) (f : Option Fault) → IsOfRun (line_played members answers w x).world → ((bs : List (Option Request)) (v : World) → IsOfRun v → IsOfRun (rest bs v).world) → IsOfRun (after x f).world
    run_after x (Some f) h more = h
    run_after x None h more = more (line_played members answers w x).left (line_played members answers w x).world h

    go : (b : Bool) (y : Reading) → ((bs : List (Option Request)) (v : World) → IsOfRun v → IsOfRun (rest bs v).world)
        → IsOfRun (elim b as (λ _. Transcript) [
          | true ↦ ends w (At_limit What.Schedule at)
          | false ↦ elim y as (λ _. Transcript) [ Blank ↦ rest answers w | Faulty why ↦ ends w (Bad_input at why) | Says x ↦ after x (line_played members answers w x).fault ]
        ]).world
    go true y more = r
    go false Blank more = more answers w r
    go false (Faulty why) more = r
    go false (Says x) more = run_after x (line_played members answers w x).fault (run_played members answers w x r) more

pub lines_leave_runs : (members : ℕ) (ls : List Line) (answers : List (Option Request)) → IsOfRun (played_all members answers empty_world ls).world
lines_leave_runs members ls answers = run_played_all members answers empty_world ls ([], refl)

pub transcripts_leave_runs : (members : ℕ) (bytes : List ℕ) (answers : List (Option Request)) → IsOfRun (transcript_with members bytes answers).world
transcripts_leave_runs members bytes answers = run_transcript members 1 0 answers empty_world (raw_lines bytes) ([], refl)

-- what holds of the world of every run holds of such a world
pub of_run : (P : World → Type 0) → ((es : List Happening) → P (run es)) → (w : World) → IsOfRun w → P w
of_run P law w r = subst P (sym r.1) (law r.0)
