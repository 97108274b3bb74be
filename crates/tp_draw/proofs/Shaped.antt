-- The arrows of a picture are those of its sends, and its marks those of its log; each take ends one arrow.
use Rattle.std.proofs.Common.{◌≡◌, ℕ, zero, suc, ◌+◌, ◌-◌, Bool, true, false, if◌then◌else◌, Option, Some, None, unwrap_or, List, [], ◌∷◌, map, refl, ap, subst, ◌∙◌, arith}
use Rattle.tp_model.specs.declared.out_line.OutLine.{OutLine}
use Rattle.tp_draw.specs.declared.end.End.{End}
use Rattle.tp_draw.specs.declared.flight.Flight.{Flight}
use Rattle.tp_draw.specs.declared.shape.Shape.{Shape}
use Rattle.tp_draw.specs.Ends.{line_at, is_refused_after, ended_at, end_of, is_in_row}
use Rattle.tp_draw.specs.Flights.{flight_of}
use Rattle.tp_draw.specs.Lanes.{node_of}
use Rattle.tp_draw.specs.Shapes.{place_of, shape_of, mark_of, end_shape, ending, refused_request, refused_frame, refusal_after, asked_by}
use Rattle.tp_draw.specs.Laws.{item, shapes, shapes_in, Sent, with_sent, sends, with_arrow, arrows, arrow_of, Logged, with_logged, logs, with_mark, marks, mark_of_log, shape_of_take}
use Rattle.tp_draw.specs.Events.{event_of}

-- ---- shapes that are neither an arrow of a send nor a mark

abbrev IsOther : Shape → Type 0
IsOther s = (ss : List Shape) → (with_arrow s ss ≡ ss) × (with_mark s ss ≡ ss)

other_end : (os : List OutLine) (k : ℕ) (first : Bool) (e : End) (f : Option Flight) → IsOther (end_shape os k first e f)
other_end os k first e None ss = (refl, refl)
other_end os k false e (Some f) ss = (refl, refl)
other_end os k true End.Never (Some f) ss = (refl, refl)
other_end os k true (End.Taken r) (Some f) ss = (refl, refl)
other_end os k true (End.Refused r) (Some f) ss = (refl, refl)
other_end os k true (End.Lost r) (Some f) ss = (refl, refl)

other_ending : (os : List OutLine) (r : ℕ) (p : Option (ℕ × End)) → IsOther (ending os r p)
other_ending os r None ss = (refl, refl)
other_ending os r (Some p) ss = other_end os p.0 (is_in_row r (end_of os p.0)) p.1 (flight_of os p.0) ss

other_frame : (os : List OutLine) (f : Option Flight) → IsOther (refused_frame os f)
other_frame os None ss = (refl, refl)
other_frame os (Some f) ss = (refl, refl)

other_request : (os : List OutLine) (n : Option ℕ) → IsOther (refused_request os n)
other_request os None ss = (refl, refl)
other_request os (Some n) ss = (refl, refl)

other_refusal : (os : List OutLine) (o : OutLine) → IsOther (refusal_after os o)
other_refusal os (OutLine.Take k) ss = other_frame os (flight_of os k) ss
other_refusal os (OutLine.Echo text) ss = other_request os (asked_by (event_of (OutLine.Echo text))) ss
other_refusal os _ ss = (refl, refl)

-- ---- arrows

no_arrow : (os : List OutLine) (s : List ℕ) (m : Option ℕ) (ss : List Shape) → with_arrow (mark_of os s m) ss ≡ ss
no_arrow os s None ss = refl
no_arrow os s (Some n) ss = refl

one_arrow : (os : List OutLine) (r : ℕ) (o : OutLine) (ss : List Shape) (ts : List Sent) → ss ≡ map (arrow_of os) ts
    → with_arrow (shape_of os r o) ss ≡ map (arrow_of os) (with_sent o ts)
one_arrow os r (OutLine.Log s m) ss ts e = no_arrow os s (node_of m) ss ∙ e
one_arrow os r (OutLine.Send k a b m) ss ts e = ap (λ us. shape_of os r (OutLine.Send k a b m) ∷ us) e
one_arrow os r (OutLine.Take k) ss ts e = (other_ending os r (ended_at os r (OutLine.Take k)) ss).0 ∙ e
one_arrow os r (OutLine.Lost k) ss ts e = (other_ending os r (ended_at os r (OutLine.Lost k)) ss).0 ∙ e
one_arrow os r (OutLine.Refused n) ss ts e = (other_refusal os (line_at os (r - 1)) ss).0 ∙ e
one_arrow os r (OutLine.Dropped n) ss ts e = (other_refusal os (line_at os (r - 1)) ss).0 ∙ e
one_arrow os r _ ss ts e = e

pub arrows_law : (os : List OutLine) (r : ℕ) (more : List OutLine) → arrows (shapes_in os r more) ≡ map (arrow_of os) (sends more)
arrows_law os r [] = refl
arrows_law os r (o ∷ more) = one_arrow os r o (arrows (shapes_in os (suc r) more)) (sends more) (arrows_law os (suc r) more)

-- ---- marks

a_mark : (os : List OutLine) (s : List ℕ) (m : Option ℕ) (ss : List Shape) → with_mark (mark_of os s m) ss ≡ mark_of os s m ∷ ss
a_mark os s None ss = refl
a_mark os s (Some n) ss = refl

one_mark : (os : List OutLine) (r : ℕ) (o : OutLine) (ss : List Shape) (ls : List Logged) → ss ≡ map (mark_of_log os) ls
    → with_mark (shape_of os r o) ss ≡ map (mark_of_log os) (with_logged o ls)
one_mark os r (OutLine.Log s m) ss ls e = a_mark os s (node_of m) ss ∙ ap (λ us. mark_of os s (node_of m) ∷ us) e
one_mark os r (OutLine.Take k) ss ls e = (other_ending os r (ended_at os r (OutLine.Take k)) ss).1 ∙ e
one_mark os r (OutLine.Lost k) ss ls e = (other_ending os r (ended_at os r (OutLine.Lost k)) ss).1 ∙ e
one_mark os r (OutLine.Refused n) ss ls e = (other_refusal os (line_at os (r - 1)) ss).1 ∙ e
one_mark os r (OutLine.Dropped n) ss ls e = (other_refusal os (line_at os (r - 1)) ss).1 ∙ e
one_mark os r _ ss ls e = e

pub marks_law : (os : List OutLine) (r : ℕ) (more : List OutLine) → marks (shapes_in os r more) ≡ map (mark_of_log os) (logs more)
marks_law os r [] = refl
marks_law os r (o ∷ more) = one_mark os r o (marks (shapes_in os (suc r) more)) (logs more) (marks_law os (suc r) more)

-- ---- takes

-- the shape of a line stands in the row of the line
shaped : (os : List OutLine) (r : ℕ) (more : List OutLine) (q : ℕ) (o : OutLine) → item more q ≡ Some o → item (shapes_in os r more) q ≡ Some (shape_of os (r + q) o)
shaped os r [] q o is = absurd (grind arith)
shaped os r (p ∷ more) zero o is =
    let same : p ≡ o = ap (λ (x : Option OutLine). unwrap_or x p) is in
    let row : r ≡ r + 0 = omega arith in
    subst (λ (x : OutLine). item (shapes_in os r (p ∷ more)) 0 ≡ Some (shape_of os (r + 0) x)) same
    (subst (λ (x : ℕ). item (shapes_in os r (p ∷ more)) 0 ≡ Some (shape_of os x p)) row refl)
shaped os r (p ∷ more) (suc q) o is =
    let row : suc r + q ≡ r + suc q = omega arith in
    subst (λ (x : ℕ). item (shapes_in os (suc r) more) q ≡ Some (shape_of os x o)) row (shaped os (suc r) more q o is)

take_shape : (os : List OutLine) (r k : ℕ) (f : Flight) (first refused : Bool)
    → end_shape os k first (if refused then End.Refused r else End.Taken r) (Some f)
    ≡ (if first then Shape.Bare else Shape.Again k (place_of os f.from) (place_of os f.to) f.row f.tone (if refused then End.Refused r else End.Taken r))
take_shape os r k f true true = refl
take_shape os r k f true false = refl
take_shape os r k f false refused = refl

shape_taken : (os : List OutLine) (r k : ℕ) (f : Flight) → flight_of os k ≡ Some f → shape_of os r (OutLine.Take k) ≡ shape_of_take os r k f
shape_taken os r k f sent =
    ap (end_shape os k (is_in_row r (end_of os k)) (if is_refused_after os r then End.Refused r else End.Taken r)) sent
    ∙ take_shape os r k f (is_in_row r (end_of os k)) (is_refused_after os r)

pub takes_law : (os : List OutLine) (r k : ℕ) (f : Flight) → item os r ≡ Some (OutLine.Take k) → flight_of os k ≡ Some f
    → item (shapes os) r ≡ Some (shape_of_take os r k f)
takes_law os r k f is sent =
    let row : 0 + r ≡ r = omega arith in
    subst (λ (x : ℕ). item (shapes os) r ≡ Some (shape_of os x (OutLine.Take k))) row (shaped os 0 os r (OutLine.Take k) is)
    ∙ ap (λ (s : Shape). Some s) (shape_taken os r k f sent)
