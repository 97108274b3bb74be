-- What a line plays, from what the world gives for it without its echo.
use Rattle.std.proofs.Common.{◌≡◌, ◌++◌, ◌&&◌, ℕ, Bool, not, nat_le, true, false, refl, ap, sym, ◌∙◌, subst, List, [], ◌∷◌, Result, Ok, Err, arith}
use Rattle.std.proofs.lemmas.Bool.Decides.{nat_tests}
use Rattle.tp_model.specs.declared.line.Line.{Line}
use Rattle.tp_model.specs.declared.out_line.OutLine.{OutLine}
use Rattle.tp_model.specs.declared.verdict.What.{What}
use Rattle.tp_model.specs.World.{World, empty_world, is_node}
use Rattle.tp_model.specs.Happenings.{Drive, Drop, happens, WorldTurn}
use Rattle.tp_model.specs.LineText.{line_text}
use Rattle.tp_model.specs.Lines.{Fault, Name, Over, if_named, is_dropped, is_member_there, line}
use Rattle.tp_model.specs.Transcript.{is_silent}
use Rattle.tp_laws.specs.Expansion.{IsOfRun}
use Rattle.tp_laws.proofs.LineRuns.{LeavesRun, run_line}
use Rattle.tp_world.specs.World.{Gives, Plays, PlaysAfter, fault_of}
use Rattle.tp_world_sites.specs.declared.fault.WorldFault.{WorldFault}
use Rattle.tp_world.specs.declared.world.World.{World as CodeWorld}
use Rattle.tp_world.proofs.Limits.{Given, given}
use Rattle.tp_world.proofs.lemmas.Echoes.{echo_shown}

and_false : (b : Bool) → (b && false) ≡ false
and_false true = refl
and_false false = refl

-- how many members there are does not matter to it
pub members_same : (k : ℕ) (w : World) (l : Line) → is_silent l ≡ false → line k w l ≡ line 0 w l
members_same k w (Line.Node n s u) h = refl
members_same k w (Line.Do n r) h = refl
members_same k w (Line.Pass a b) h = refl
members_same k w (Line.Skip a b) h = refl
members_same k w (Line.Again j) h = refl
members_same k w Line.Drain h = refl
members_same k w (Line.Lose n p) h = refl
members_same k w (Line.Heur n o) h = refl
members_same k w (Line.GiveUp n p) h = refl
members_same k w (Line.Retry n) h = refl
members_same k w (Line.Purge n) h = refl
members_same k w (Line.Crash s) h = refl
members_same k w (Line.CrashIn s j x l) h = refl
members_same k w (Line.Show n) h = refl
members_same k w (Line.Image s) h = refl
members_same k w (Line.Auto n j) h = absurd cc
members_same k w (Line.Leave j) h = absurd cc

-- none is there
nobody : (w : World) (k : ℕ) → is_member_there 0 w k ≡ false
nobody w k = go (nat_le 1 k) refl (nat_le k 0) refl
  where
    go : (a : Bool) → nat_le 1 k ≡ a → (b : Bool) → nat_le k 0 ≡ b → (a && b && not (is_dropped w.dropped k)) ≡ false
    go false x b y = refl
    go true x false y = refl
    go true x true y = absurd (grind (arith, nat_tests, x, y))

pub unnamed : (w : World) (l : Line) → is_silent l ≡ true → line 0 w l ≡ Err Name
unnamed w (Line.Node n s u) h = absurd cc
unnamed w (Line.Do n r) h = absurd cc
unnamed w (Line.Pass a b) h = absurd cc
unnamed w (Line.Skip a b) h = absurd cc
unnamed w (Line.Again j) h = absurd cc
unnamed w Line.Drain h = absurd cc
unnamed w (Line.Lose n p) h = absurd cc
unnamed w (Line.Heur n o) h = absurd cc
unnamed w (Line.GiveUp n p) h = absurd cc
unnamed w (Line.Retry n) h = absurd cc
unnamed w (Line.Purge n) h = absurd cc
unnamed w (Line.Crash s) h = absurd cc
unnamed w (Line.CrashIn s j x l) h = absurd cc
unnamed w (Line.Show n) h = absurd cc
unnamed w (Line.Image s) h = absurd cc
unnamed w (Line.Auto n k) h = ap (λ (b : Bool). if_named (is_node w n && b) (Ok (happens w (Drive n k)))) (nobody w k) ∙ ap (λ (b : Bool). if_named b (Ok (happens w (Drive n k)))) (and_false (is_node w n))
unnamed w (Line.Leave k) h = ap (λ (b : Bool). if_named b (Ok (happens w (Drop k)))) (nobody w k)

pub speaks_of_none : (w : World) (l : Line) (before after : List OutLine) (v : CodeWorld) → is_silent l ≡ true → PlaysAfter w l before (Err WorldFault.Name) after v
speaks_of_none w l before after v silent = λ members none. ap (λ (k : ℕ). line k w l) (none silent) ∙ unnamed w l silent

-- ---- the whole

-- the world that it leaves is that of a run, as the one before
leaves_run : (w : World) (l : Line) (t : WorldTurn) → IsOfRun w → line 0 w l ≡ Ok t → IsOfRun t.world
leaves_run w l t run is = subst LeavesRun is (run_line 0 w l run)

pub plays_turn : (w : World) (l : Line) (before after : List OutLine) (u : Unit {0}) (v : CodeWorld) → is_silent l ≡ false → IsOfRun w → Gives (line 0 w l) before (Ok u) after v → PlaysAfter w l before (Ok u) after v
plays_turn w l before after u v shown run h =
    let g : Given (line 0 w l) before after v = given (line 0 w l) before after v u h in
    (g.turn, λ k. members_same k w l shown ∙ g.is, g.lines, record { run = leaves_run w l g.turn run g.is; mirrors = g.stands })

is_name : (f : Fault) → WorldFault.Name ≡ fault_of f → f ≡ Name
is_name Name h = refl
is_name (Over what) h = absurd cc

is_over : (what : What) (f : Fault) → WorldFault.Limit what ≡ fault_of f → f ≡ Over what
is_over what Name h = absurd cc
is_over what (Over which) h = let e : which ≡ what = cc in ap (λ (q : What). Over q) e

pub plays_fault : (w : World) (l : Line) (f : WorldFault) (before after : List OutLine) (v : CodeWorld) → is_silent l ≡ false → Gives (line 0 w l) before (Err f) after v → PlaysAfter w l before (Err f) after v
plays_fault w l f before after v shown h = go (line 0 w l) f (λ k. members_same k w l shown) h
  where
    go : (r : Result WorldTurn Fault) (f : WorldFault) → ((k : ℕ) → line k w l ≡ r) → Gives r before (Err f) after v → PlaysAfter w l before (Err f) after v
    go r WorldFault.NoMemory same i = tt
    go (Ok t) WorldFault.Name same i = absurd i
    go (Ok t) (WorldFault.Limit what) same i = absurd i
    go (Err g) WorldFault.Name same i = λ k none. same k ∙ ap (λ (q : Fault). Err q) (is_name g i)
    go (Err g) (WorldFault.Limit what) same i = λ k. same k ∙ ap (λ (q : Fault). Err q) (is_over what g i)

pub plays_any : (w : World) (l : Line) (r : Result (Unit {0}) WorldFault) (before after : List OutLine) (v : CodeWorld) → is_silent l ≡ false → IsOfRun w → Gives (line 0 w l) before r after v → PlaysAfter w l before r after v
plays_any w l (Ok u) before after v shown run h = plays_turn w l before after u v shown run h
plays_any w l (Err f) before after v shown run h = plays_fault w l f before after v shown h

-- ---- with the echo

pub echoed : (w : World) (l : Line) (before after : List OutLine) (v : CodeWorld) → is_silent l ≡ false → before ≡ OutLine.Echo (line_text l) ∷ [] → PlaysAfter w l before (Ok tt) after v → Plays w l (Ok after) v
echoed w l before after v shown first h = (h.0, h.1, h.2 ∙ ap (λ (ls : List OutLine). ls ++ h.0.lines) (first ∙ sym (echo_shown l shown)), h.3)

-- the lines that are shown do not matter to a fault
pub faulty : (w : World) (l : Line) (f : WorldFault) (before after : List OutLine) (v new : CodeWorld) → PlaysAfter w l before (Err f) after v → Plays w l (Err f) new
faulty w l WorldFault.Name before after v new h = h
faulty w l (WorldFault.Limit what) before after v new h = h
faulty w l WorldFault.NoMemory before after v new h = tt

-- ---- the first world

pub of_no_run : IsOfRun empty_world
of_no_run = ([], refl)
