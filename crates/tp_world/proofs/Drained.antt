-- A drain, turn by turn, and marks of frames.
use Rattle.std.proofs.Common.{◌≡◌, ◌≤◌, ◌<◌, ◌+◌, ◌++◌, ℕ, zero, suc, true, false, refl, ap, sym, subst, ◌∙◌, arith, Option, Some, None, List, [], ◌∷◌, length, Result, Ok, Err, append_assoc}
use Rattle.std.proofs.lemmas.List.{append-nil}
use Rattle.tp_model.specs.declared.out_line.OutLine.{OutLine}
use Rattle.tp_model.specs.World.{World, Frame, mark_handed, oldest_from, oldest_of_all, oldest_between}
use Rattle.tp_model.specs.Happenings.{Mark, Told, happens, still, WorldTurn}
use Rattle.tp_model.specs.Lines.{Fault, within_limits, shows, then_turn, then_result, drain_line}
use Rattle.tp_network.specs.Frames.{is_between}
use Rattle.tp_world.specs.Drains.{handed, Hands, IsDrainedSoFar}
use Rattle.tp_world_sites.specs.Standing.{AreNodes, SitesStand}
use Rattle.tp_world.specs.World.{Mirrors, Gives}
use Rattle.tp_world_sites.specs.declared.fault.WorldFault.{WorldFault}
use Rattle.tp_world.specs.declared.world.World.{World as CodeWorld}
use Rattle.tp_world.proofs.Limits.{Given, given}

-- ---- a mark

mark_length : (fs : List Frame) (k : ℕ) → length (mark_handed fs k) ≡ length fs
mark_length fs zero = refl
mark_length [] (suc k) = refl
mark_length (f ∷ fs) (suc zero) = refl
mark_length (f ∷ fs) (suc (suc j)) = ap (λ (n : ℕ). suc n) (mark_length fs (suc j))

stands_frames : (w : World) (old new : CodeWorld) (fs : List Frame) → Mirrors w old → new.frames ≡ fs → length fs ≤ 65535 → new.nodes ≡ old.nodes → new.sites ≡ old.sites → new.trees ≡ old.trees → Mirrors (record w { frames = fs }) new
stands_frames w old new fs h frames few nodes sites trees =
    let r = h.rest in
    let s : SitesStand w new.sites.items = subst (λ v. SitesStand w v.items) (sym sites) h.sites in
    record {
      sites = record { sites = s.sites; known = s.known };
      rest = record {
        nodes = subst (λ l. AreNodes w.nodes l) (sym nodes) r.nodes;
        apart = r.apart;
        placed = r.placed;
        frames = frames;
        few = few;
        trees = ap (λ t. t.items) trees ∙ r.trees;
        undriven = r.undriven;
      };
    }

pub stands_marked : (w : World) (old new : CodeWorld) (k : ℕ) → Mirrors w old → new.frames ≡ mark_handed old.frames k → new.nodes ≡ old.nodes → new.sites ≡ old.sites → new.trees ≡ old.trees
    → Mirrors (happens w (Mark k)).world new
stands_marked w old new k h frames nodes sites trees =
    stands_frames w old new (mark_handed w.frames k) h (frames ∙ ap (λ (l : List Frame). mark_handed l k) h.rest.frames) (subst (λ (n : ℕ). n ≤ 65535) (sym (mark_length w.frames k)) h.rest.few) nodes sites trees

pub stands_unmarked : (w : World) (old new : CodeWorld) → Mirrors w old → new.frames ≡ old.frames → new.nodes ≡ old.nodes → new.sites ≡ old.sites → new.trees ≡ old.trees → Mirrors w new
stands_unmarked w old new h frames nodes sites trees = stands_frames w old new w.frames h (frames ∙ h.rest.frames) h.rest.few nodes sites trees

-- ---- turns one after another

then_still : (w : World) (r : Result WorldTurn Fault) → then_result (still w) r ≡ r
then_still w (Ok t) = refl
then_still w (Err f) = refl

then_then : (t u : WorldTurn) (r : Result WorldTurn Fault) → then_result t (then_result u r) ≡ then_result (then_turn t u) r
then_then t u (Err f) = refl
then_then t u (Ok x) =
    let made : List OutLine → List Told → Result WorldTurn Fault = λ ls told. Ok (record { world = x.world; lines = ls; told = told }) in
    sym (ap (λ (l : List OutLine). made l ((t.told ++ u.told) ++ x.told)) (append_assoc t.lines u.lines x.lines) ∙ ap (λ (l : List Told). made (t.lines ++ (u.lines ++ x.lines)) l) (append_assoc t.told u.told x.told))

abbrev after_one : ℕ → Result WorldTurn Fault → Result WorldTurn Fault
after_one n r = elim r [ Err f ↦ Err f | Ok t ↦ then_result t (drain_line n t.world) ]

abbrev turn_from : ℕ → World → Option ℕ → Result WorldTurn Fault
turn_from n w o = elim o [ None ↦ Ok (shows w []) | Some k ↦ after_one n (within_limits (handed w k)) ]

drain_ends : (n : ℕ) (w : World) → oldest_of_all w ≡ None → drain_line n w ≡ Ok (shows w [])
drain_ends zero w h = refl
drain_ends (suc n) w h = ap (turn_from n w) h

drain_goes : (n : ℕ) (w : World) (k : ℕ) (t : WorldTurn) → oldest_of_all w ≡ Some k → within_limits (handed w k) ≡ Ok t → drain_line (suc n) w ≡ then_result t (drain_line n t.world)
drain_goes n w k t h e = ap (turn_from n w) h ∙ ap (after_one n) e

drain_breaks : (n : ℕ) (w : World) (k : ℕ) (f : Fault) → oldest_of_all w ≡ Some k → within_limits (handed w k) ≡ Err f → drain_line (suc n) w ≡ Err f
drain_breaks n w k f h e = ap (turn_from n w) h ∙ ap (after_one n) e

-- ---- the loop

pub drained_first : (w : World) (most : ℕ) (before : List OutLine) (v : CodeWorld) → Mirrors w v → IsDrainedSoFar w most 0 before before v
drained_first w most before v h = record {
  left = most;
  turns = omega arith;
  turn = still w;
  so_far = sym (then_still w (drain_line most w));
  lines = sym (append-nil before);
  stands = h;
}

pub drained_next : (w : World) (most done : ℕ) (before lines after : List OutLine) (old new : CodeWorld) → done < most → (d : IsDrainedSoFar w most done before lines old) → Hands d.turn.world lines (Ok true) after new
    → IsDrainedSoFar w most (done + 1) before after new
drained_next w most done before lines after old new more d h = go d.left refl
  where
    go : (left : ℕ) → d.left ≡ left → IsDrainedSoFar w most (done + 1) before after new
    go zero e = absurd (omega (arith, d.turns, more, e))
    go (suc n) e =
        let g : Given (within_limits (handed d.turn.world h.0)) lines after new = given (within_limits (handed d.turn.world h.0)) lines after new tt h.2 in
        record {
          left = n;
          turns = omega (arith, d.turns, e);
          turn = then_turn d.turn g.turn;
          so_far =
              d.so_far
              ∙ ap (λ (k : ℕ). then_result d.turn (drain_line k d.turn.world)) e
              ∙ ap (then_result d.turn) (drain_goes n d.turn.world h.0 g.turn h.1 g.is)
              ∙ then_then d.turn g.turn (drain_line n g.turn.world);
          lines = g.lines ∙ ap (λ (l : List OutLine). l ++ g.turn.lines) d.lines ∙ append_assoc before d.turn.lines g.turn.lines;
          stands = g.stands;
        }

stops_gives : (w : World) (most done : ℕ) (before lines after : List OutLine) (old new : CodeWorld) (u : Unit {0}) (d : IsDrainedSoFar w most done before lines old) → drain_line d.left d.turn.world ≡ Ok (shows d.turn.world [])
    → after ≡ lines → Mirrors d.turn.world new → Gives (drain_line most w) before (Ok u) after new
stops_gives w most done before lines after old new u d e same h =
    subst (λ (r : Result WorldTurn Fault). Gives r before (Ok u) after new) (sym (d.so_far ∙ ap (then_result d.turn) e))
    (same ∙ d.lines ∙ ap (λ (l : List OutLine). before ++ l) (sym (append-nil d.turn.lines)), h)

-- no frame is left
pub drained_dry : (w : World) (most done : ℕ) (before lines after : List OutLine) (old new : CodeWorld) (u : Unit {0}) (d : IsDrainedSoFar w most done before lines old) → Hands d.turn.world lines (Ok false) after new
    → Gives (drain_line most w) before (Ok u) after new
drained_dry w most done before lines after old new u d h = stops_gives w most done before lines after old new u d (drain_ends d.left d.turn.world h.0) h.1 h.2

-- all turns were taken
pub drained_last : (w : World) (most done : ℕ) (before lines : List OutLine) (v : CodeWorld) (u : Unit {0}) → most ≤ done → (d : IsDrainedSoFar w most done before lines v) → Gives (drain_line most w) before (Ok u) lines v
drained_last w most done before lines v u over d =
    let none : d.left ≡ 0 = omega (arith, d.turns, over) in
    stops_gives w most done before lines lines v v u d (ap (λ (k : ℕ). drain_line k d.turn.world) none) refl d.stands

breaks_gives : (w : World) (most : ℕ) (t : WorldTurn) (n k : ℕ) (f : WorldFault) (before lines after : List OutLine) (new : CodeWorld) (r : Result WorldTurn Fault) → drain_line most w ≡ then_result t (drain_line (suc n) t.world) → oldest_of_all t.world ≡ Some k
    → within_limits (handed t.world k) ≡ r → Gives r lines (Err f) after new → Gives (drain_line most w) before (Err f) after new
breaks_gives w most t n k WorldFault.NoMemory before lines after new r e o i h = tt
breaks_gives w most t n k WorldFault.Name before lines after new (Ok x) e o i h = absurd h
breaks_gives w most t n k (WorldFault.Limit what) before lines after new (Ok x) e o i h = absurd h
breaks_gives w most t n k WorldFault.Name before lines after new (Err g) e o i h =
    subst (λ (q : Result WorldTurn Fault). Gives q before (Err WorldFault.Name) after new) (sym (e ∙ ap (then_result t) (drain_breaks n t.world k g o i))) h
breaks_gives w most t n k (WorldFault.Limit what) before lines after new (Err g) e o i h =
    subst (λ (q : Result WorldTurn Fault). Gives q before (Err (WorldFault.Limit what)) after new) (sym (e ∙ ap (then_result t) (drain_breaks n t.world k g o i))) h

pub drained_fault : (w : World) (most done : ℕ) (before lines after : List OutLine) (old new : CodeWorld) (f : WorldFault) → done < most → (d : IsDrainedSoFar w most done before lines old) → Hands d.turn.world lines (Err f) after new
    → Gives (drain_line most w) before (Err f) after new
drained_fault w most done before lines after old new f more d h = go d.left refl
  where
    go : (left : ℕ) → d.left ≡ left → Gives (drain_line most w) before (Err f) after new
    go zero e = absurd (omega (arith, d.turns, more, e))
    go (suc n) e =
        breaks_gives w most d.turn n h.0 f before lines after new (within_limits (handed d.turn.world h.0)) (d.so_far ∙ ap (λ (k : ℕ). then_result d.turn (drain_line k d.turn.world)) e) h.1 refl h.2

-- ---- the oldest frame

pub oldest_stood : (w : World) (v : CodeWorld) (o : Option ℕ) → Mirrors w v → o ≡ oldest_from 0 (λ f. true) v.frames → oldest_of_all w ≡ o
oldest_stood w v o h e = sym (e ∙ ap (λ (fs : List Frame). oldest_from 0 (λ f. true) fs) h.rest.frames)

pub between_stood : (w : World) (v : CodeWorld) (a b : ℕ) (o : Option ℕ) → Mirrors w v → o ≡ oldest_from 0 (is_between a b) v.frames → oldest_between w a b ≡ o
between_stood w v a b o h e = sym (e ∙ ap (λ (fs : List Frame). oldest_from 0 (is_between a b) fs) h.rest.frames)
