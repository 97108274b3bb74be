-- What the laws of pictures speak of: the shapes of a whole transcript, and what is told of its sends, its log, its frames, its
-- bands and its nodes.
use Rattle.std.specs.Prelude.{ℕ, zero, suc, ◌≡◌, ◌<◌, ◌==◌, ◌||◌, Bool, true, false, if◌then◌else◌, Option, Some, None, unwrap_or, List, [], ◌∷◌}
use Rattle.tp_model.specs.declared.out_line.LogWords.{LogWords}
use Rattle.tp_model.specs.declared.out_line.OutLine.{OutLine}
use Rattle.tp_draw.specs.declared.band.Band.{Band}
use Rattle.tp_draw.specs.declared.end.End.{End}
use Rattle.tp_draw.specs.declared.flight.Flight.{Flight}
use Rattle.tp_draw.specs.declared.lane.Lane.{Lane}
use Rattle.tp_draw.specs.declared.news.News.{News}
use Rattle.tp_draw.specs.declared.shape.Shape.{Shape}
use Rattle.tp_draw.specs.declared.track.Track.{Track}
use Rattle.tp_draw.specs.Lanes.{node_of, placed, named, is_of_site}
use Rattle.tp_draw.specs.Chosen.{is_among}
use Rattle.tp_draw.specs.Bands.{band_of, news_of, restarted}
use Rattle.tp_draw.specs.Ends.{is_refused_after, end_of, is_in_row}
use Rattle.tp_draw.specs.Shapes.{place_of, mark_of, shape_of}

-- the item at an index
abbrev pub item : {X : Type 0} → List X → ℕ → Option X
item [] k = None
item (x ∷ xs) zero = Some x
item (x ∷ xs) (suc k) = item xs k

-- ---- shapes

-- of some lines of a transcript, of which the first is in that row
abbrev pub shapes_in : List OutLine → ℕ → List OutLine → List Shape
shapes_in os r [] = []
shapes_in os r (o ∷ more) = shape_of os r o ∷ shapes_in os (suc r) more

-- of all its lines: the shape of a line stands in the row of the line
abbrev pub shapes : List OutLine → List Shape
shapes os = shapes_in os 0 os

-- ---- frames

pub record Sent : Type 0 where
  pub frame : ℕ
  pub from : ℕ
  pub to : ℕ

abbrev pub with_sent : OutLine → List Sent → List Sent
with_sent (OutLine.Send k a b r) ss = record { frame = k; from = a; to = b } ∷ ss
with_sent _ ss = ss

-- the frames that were sent, in order
abbrev pub sends : List OutLine → List Sent
sends [] = []
sends (o ∷ os) = with_sent o (sends os)

abbrev pub with_arrow : Shape → List Shape → List Shape
with_arrow (Shape.Arrow k from to e) ss = Shape.Arrow k from to e ∷ ss
with_arrow _ ss = ss

-- the arrows among shapes
abbrev pub arrows : List Shape → List Shape
arrows [] = []
arrows (s ∷ ss) = with_arrow s (arrows ss)

-- the arrow of a frame: between the lanes of its nodes, to its end
abbrev pub arrow_of : List OutLine → Sent → Shape
arrow_of os s = Shape.Arrow s.frame (place_of os s.from) (place_of os s.to) (end_of os s.frame)

-- ---- the log

pub record Logged : Type 0 where
  pub site : List ℕ
  pub rec : LogWords

abbrev pub with_logged : OutLine → List Logged → List Logged
with_logged (OutLine.Log s r) ls = record { site = s; rec = r } ∷ ls
with_logged _ ls = ls

-- the records that were forced, in order
abbrev pub logs : List OutLine → List Logged
logs [] = []
logs (o ∷ os) = with_logged o (logs os)

abbrev pub with_mark : Shape → List Shape → List Shape
with_mark (Shape.Boot over) ss = Shape.Boot over ∷ ss
with_mark (Shape.Mark place) ss = Shape.Mark place ∷ ss
with_mark _ ss = ss

-- the marks among shapes, with the bars of starts
abbrev pub marks : List Shape → List Shape
marks [] = []
marks (s ∷ ss) = with_mark s (marks ss)

-- the mark of a record: at the lane of its node, or over the lanes of its site
abbrev pub mark_of_log : List OutLine → Logged → Shape
mark_of_log os l = mark_of os l.site (node_of l.rec)

-- ---- ends

-- the line says that the frame was taken or lost
abbrev pub ends_it : ℕ → OutLine → Bool
ends_it k (OutLine.Take f) = f == k
ends_it k (OutLine.Lost f) = f == k
ends_it k _ = false

-- the line in that row says it, and none before it does
pub record IsFirst (k : ℕ) (os : List OutLine) (row : ℕ) (o : OutLine) : Type 0 where
  pub here : item os row ≡ Some o
  pub before : (r : ℕ) (p : OutLine) → r < row → item os r ≡ Some p → ends_it k p ≡ false

-- what an end says of the frame in a transcript
abbrev pub Says : ℕ → List OutLine → End → Type 0
Says k os End.Never = (r : ℕ) (p : OutLine) → item os r ≡ Some p → ends_it k p ≡ false
Says k os (End.Taken row) = IsFirst k os row (OutLine.Take k) × (is_refused_after os row ≡ false)
Says k os (End.Refused row) = IsFirst k os row (OutLine.Take k) × (is_refused_after os row ≡ true)
Says k os (End.Lost row) = IsFirst k os row (OutLine.Lost k)

-- ---- takes

-- how the frame ends that is taken in that row
abbrev pub end_here : List OutLine → ℕ → End
end_here os r = if is_refused_after os r then End.Refused r else End.Taken r

-- The shape of a take of a frame. It has none where the arrow of the send ends in this row; else it has an arrow of its own,
-- from the row of the send to this one.
abbrev pub shape_of_take : List OutLine → ℕ → ℕ → Flight → Shape
shape_of_take os r k f =
    if is_in_row r (end_of os k) then Shape.Bare else Shape.Again k (place_of os f.from) (place_of os f.to) f.row f.tone (end_here os r)

-- ---- bands

-- what the last of these lines says that says anything; the first value where none does
abbrev pub latest : {X : Type 0} → (OutLine → Option X) → X → List OutLine → X
latest says x [] = x
latest says x (o ∷ os) = latest says (unwrap_or (says o) x) os

-- of the node, by a record in the log
abbrev pub held_in : ℕ → LogWords → Option Band
held_in n (LogWords.Boot b) = None
held_in n (LogWords.Ready m k) = if n == m then Some Band.InDoubt else None
held_in n (LogWords.Heuristic m k o) = None
held_in n (LogWords.Commit m k) = if n == m then Some Band.Committed else None
held_in n (LogWords.Damage m k o r) = if n == m then Some (band_of o) else None
held_in n (LogWords.End m k o) = if n == m then Some Band.Quiet else None

abbrev pub held_by : ℕ → OutLine → Option Band
held_by n (OutLine.Log s r) = held_in n r
held_by n _ = None

-- that the site of the lane stops, or starts
abbrev pub down_after : Lane → News → Option Bool
down_after l (News.Stops s) = if is_of_site s l then Some true else None
down_after l (News.Starts s) = if is_of_site s l then Some false else None
down_after l _ = None

abbrev pub down_by : Lane → OutLine → Option Bool
down_by l o = down_after l (news_of o)

-- The lane is the one at that place, and its band is what the last record of its node says of these lines. A node of which the
-- log holds nothing may roll back. There is a gap where a stop of the site is later than its last start.
pub record IsTrack (lines : List OutLine) (at : Option Lane) (t : Track) : Type 0 where
  pub lane : at ≡ Some t.lane
  pub band : restarted t.band ≡ latest (held_by t.lane.node) Band.Quiet lines
  pub down : t.down ≡ latest (down_by t.lane) false lines

-- ---- nodes

abbrev pub is_placed_by : ℕ → Option (ℕ × List ℕ) → Bool
is_placed_by n None = false
is_placed_by n (Some p) = p.0 == n

-- some line tells the node's site: it declares the node, or is a record of it in the log
abbrev pub is_placed : ℕ → List OutLine → Bool
is_placed n [] = false
is_placed n (o ∷ os) = is_placed_by n (placed o) || is_placed n os

-- some line names it otherwise: it sends from the node or to it, tells its user, or shows its state
abbrev pub is_mentioned : ℕ → List OutLine → Bool
is_mentioned n [] = false
is_mentioned n (o ∷ os) = is_among n (named o) || is_mentioned n os

abbrev pub is_named : ℕ → List OutLine → Bool
is_named n os = is_placed n os || is_mentioned n os

-- how many of the lanes are the node's
abbrev pub lanes_with : ℕ → List Lane → ℕ
lanes_with n [] = 0
lanes_with n (l ∷ ls) = if l.node == n then suc (lanes_with n ls) else lanes_with n ls

-- one lane alone is the node's, and it stands at that place
pub record HasOneLane (n : ℕ) (ls : List Lane) (place : ℕ) : Type 0 where
  pub one : lanes_with n ls ≡ 1
  pub site : Option (List ℕ)
  pub here : item ls place ≡ Some (record { node = n; site = site })
