-- A picture as an SVG file: a row for each line, with the line's text on the left and its shape at the lanes.
use Rattle.std.specs.Prelude.{ℕ, zero, suc, ◌+◌, ◌-◌, ◌==◌, ◌&&◌, nat_le, nat_lt, Bool, true, false, not, if◌then◌else◌, Option, Some, None, List, [], ◌∷◌, ◌++◌, length, codes}
use Rattle.tp_model.specs.declared.out_line.LogWords.{LogWords}
use Rattle.tp_model.specs.declared.out_line.OutLine.{OutLine}
use Rattle.tp_model.specs.OutText.{out_text}
use Rattle.tp_model.specs.Words.{decimal}
use Rattle.tp_draw.specs.declared.band.Band.{Band}
use Rattle.tp_draw.specs.declared.end.End.{End}
use Rattle.tp_draw.specs.declared.lane.Lane.{Lane}
use Rattle.tp_draw.specs.declared.places.Places.{Places}
use Rattle.tp_draw.specs.declared.shape.Shape.{Shape}
use Rattle.tp_draw.specs.declared.tone.Tone.{Tone}
use Rattle.tp_draw.specs.declared.track.Track.{Track}
use Rattle.tp_draw.specs.declared.view.View.{View}
use Rattle.tp_draw.specs.Texts.{joined, escaped, cut}
use Rattle.tp_draw.specs.Lanes.{lanes_of, places_in}
use Rattle.tp_draw.specs.Bands.{first_tracks, all_moved}
use Rattle.tp_draw.specs.Shapes.{shape_of}
use Rattle.tp_draw.specs.Style.{style, tips, legend}
use Rattle.tp_draw.specs.Tones.{tone_of, tone_name}
use Rattle.tp_draw.specs.Labels.{label}
use Rattle.tp_draw.specs.Views.{capped, is_shown, seen_at, rows_seen, along, below, down}

-- ---- figures and words

-- of a kind, in a tone: a path from a point
unfoldable pub figure : List ℕ → Tone → ℕ → ℕ → List ℕ → List ℕ
figure kind t x y way = joined (
    codes "<path class='"
    ∷ kind
    ∷ codes " "
    ∷ tone_name t
    ∷ codes "' d='M"
    ∷ decimal x
    ∷ codes " "
    ∷ decimal y
    ∷ way
    ∷ codes "'/>\n"
    ∷ [])

-- of a kind, over these lanes
unfoldable pub bar : View → List ℕ → ℕ → List ℕ → Places → List ℕ
bar v kind y high over = joined (
    codes "<path class='"
    ∷ kind
    ∷ codes "' d='M"
    ∷ decimal (along v 14 over.first)
    ∷ codes " "
    ∷ decimal y
    ∷ codes "H"
    ∷ decimal (along v 206 over.last)
    ∷ codes "v"
    ∷ high
    ∷ codes "H"
    ∷ decimal (along v 14 over.first)
    ∷ codes "z'/>\n"
    ∷ [])

unfoldable pub words_text : ℕ → ℕ → List ℕ → OutLine → List ℕ
words_text x y look o = joined (
    codes "<text class='l "
    ∷ tone_name (tone_of o)
    ∷ codes "' x='"
    ∷ decimal x
    ∷ codes "' y='"
    ∷ decimal y
    ∷ codes "'"
    ∷ look
    ∷ codes ">"
    ∷ label o
    ∷ codes "</text>\n"
    ∷ [])

-- the words of a line on the left of a lane, or on its right in that look, clear of the arrows that come down to it
abbrev pub words_at : View → Bool → ℕ → ℕ → List ℕ → OutLine → List ℕ
words_at v left place y look o =
    if left then words_text (along v 90 place) y (codes " text-anchor='end'") o else words_text (along v 130 place) y look o

-- ---- what stands above the rows

-- with so many lanes and lines
unfoldable pub head : ℕ → ℕ → ℕ → ℕ → List ℕ
head wide high lanes lines = joined (
    codes "<svg xmlns='http://www.w3.org/2000/svg' width='"
    ∷ decimal wide
    ∷ codes "' height='"
    ∷ decimal high
    ∷ codes "' viewBox='0 0 "
    ∷ decimal wide
    ∷ codes " "
    ∷ decimal high
    ∷ codes "' font-family='monospace' font-size='12'>\n<title>A run of "
    ∷ decimal lanes
    ∷ codes " nodes in "
    ∷ decimal lines
    ∷ codes " lines</title>\n<desc>Time goes down. Each node has a lane, each line of the transcript a row, "
    ∷ codes "and each frame an arrow from its send to its take.</desc>\n"
    ∷ [])

-- ---- the lanes

unfoldable pub site_name : ℕ → List ℕ → List ℕ
site_name x s = joined (codes "<text class='f' x='" ∷ decimal x ∷ codes "' y='22'>site " ∷ escaped s ∷ codes "</text>\n" ∷ [])

-- the box of a site over its lanes, which is drawn at the first of them
abbrev pub site_at : View → List Lane → ℕ → Option (List ℕ) → List ℕ
site_at v ls place None = []
site_at v ls place (Some s) =
    if (places_in ls s).first == place then bar v (codes "b") 6 (codes "46") (places_in ls s) ++ site_name (along v 24 place) s else []

-- a node's number, and a line from above the first row to that height
unfoldable pub lane_line : ℕ → ℕ → ℕ → List ℕ
lane_line x y n = joined (
    codes "<text class='p' x='"
    ∷ decimal x
    ∷ codes "' y='44' text-anchor='middle' font-weight='bold'>node "
    ∷ decimal n
    ∷ codes "</text>\n<path class='v' d='M"
    ∷ decimal x
    ∷ codes " 54V"
    ∷ decimal y
    ∷ codes "'/>\n"
    ∷ [])

-- of these lanes, of which the first stands at that place
abbrev pub lanes_text : View → List Lane → ℕ → ℕ → List Lane → List ℕ
lanes_text v ls high place [] = []
lanes_text v ls high place (l ∷ more) = (site_at v ls place l.site ++ lane_line (along v 110 place) high l.node) ++ lanes_text v ls high (place + 1) more

-- ---- the bands on the lanes in a row

-- the kind of what is on a lane
abbrev pub band_kind : Band → List ℕ
band_kind Band.Quiet = []
band_kind Band.InDoubt = codes "i"
band_kind Band.Committed = codes "y"
band_kind Band.RolledBack = codes "o"
band_kind Band.Rolling = codes "o"

abbrev pub is_quiet : Band → Bool
is_quiet Band.Quiet = true
is_quiet _ = false

-- a crossed box where the site is down
abbrev pub track_text : ℕ → ℕ → Track → List ℕ
track_text x y t =
    if t.down then figure (codes "k") Tone.Plain x y (codes "h10v20h-10zl10 20m0-20l-10 20")
    else if is_quiet t.band then []
    else figure (band_kind t.band) Tone.Plain x y (codes "h10v20h-10z")

-- of these lanes, of which the first stands at that place
abbrev pub tracks_text : View → ℕ → ℕ → List Track → List ℕ
tracks_text v y place [] = []
tracks_text v y place (t ∷ more) = track_text (along v 105 place) y t ++ tracks_text v y (place + 1) more

-- ---- the text of a line

-- the events of the schedule and the outcomes of trees are bold
abbrev pub is_bold : OutLine → Bool
is_bold (OutLine.Echo text) = true
is_bold (OutLine.Agreed a o) = true
is_bold (OutLine.Mixed a ns) = true
is_bold (OutLine.Open a) = true
is_bold _ = false

unfoldable pub text_at : ℕ → ℕ → List ℕ → OutLine → List ℕ
text_at y most weight o = joined (
    codes "<text class='"
    ∷ tone_name (tone_of o)
    ∷ codes "' x='8' y='"
    ∷ decimal y
    ∷ codes "'"
    ∷ weight
    ∷ codes ">"
    ∷ cut most (out_text o)
    ∷ codes "</text>\n"
    ∷ [])

-- of all lines, or of those that are bold
abbrev pub line_text : View → ℕ → OutLine → List ℕ
line_text v r o =
    if is_bold o then text_at (down v 14 r) v.most (codes " font-weight='bold'") o
    else if v.all then text_at (down v 14 r) v.most [] o
    else []

-- ---- arrows

-- over a lane that it passes
unfoldable pub hop : View → Bool → ℕ → List ℕ
hop v right place = joined (
    codes "H"
    ∷ decimal (along v (if right then 104 else 116) place)
    ∷ (if right then codes "a6 6 0 0 1 12 0" else codes "a6 6 0 0 0 -12 0")
    ∷ [])

-- the lane that is so far from another
abbrev pub passed : Bool → ℕ → ℕ → ℕ
passed right from n = if right then capped (from + n) else from - n

-- over so many lanes, of which the first is next to the one where it begins
abbrev pub hops : View → Bool → ℕ → ℕ → List ℕ
hops v right from zero = []
hops v right from (suc n) = hops v right from n ++ hop v right (passed right from (suc n))

-- how many lanes are between two
abbrev pub between : ℕ → ℕ → ℕ
between from to = if nat_le from to then to - from - 1 else from - to - 1

-- beside a lane, where an arrow turns down to it, and at its edge, where it arrives
abbrev pub turn_side : Bool → ℕ
turn_side right = if right then 96 else 124

abbrev pub edge_side : Bool → ℕ
edge_side right = if right then 102 else 118

unfoldable pub arrow_stop : ℕ → ℕ → ℕ → List ℕ → List ℕ → List ℕ
arrow_stop x to y dash end = joined (
    codes "H"
    ∷ decimal x
    ∷ codes "L"
    ∷ decimal to
    ∷ codes " "
    ∷ decimal y
    ∷ codes "'"
    ∷ dash
    ∷ codes " marker-end='url(#"
    ∷ end
    ∷ codes ")'/>\n"
    ∷ [])

-- To the other lane in the row where the frame was taken; beside it where the frame was lost, and in the row of its send where
-- nothing says what became of it. A cross is at the end of what was lost, dropped or refused.
abbrev pub arrow_end : View → ℕ → ℕ → ℕ → List ℕ → Tone → End → List ℕ
arrow_end v row turn edge dash t End.Never = arrow_stop turn turn (down v 17 row) (codes " stroke-dasharray='2 4'") (codes "n")
arrow_end v row turn edge dash t (End.Taken last) = arrow_stop turn edge (down v 10 last) dash (tone_name t)
arrow_end v row turn edge dash t (End.Refused last) = arrow_stop turn edge (down v 10 last) dash (codes "x")
arrow_end v row turn edge dash t (End.Lost last) = arrow_stop turn turn (down v 10 last) dash (codes "x")

unfoldable pub arrow_start : Tone → ℕ → ℕ → List ℕ
arrow_start t x y = joined (codes "<path class='a " ∷ tone_name t ∷ codes "' d='M" ∷ decimal x ∷ codes " " ∷ decimal y ∷ [])

-- from the row of its send to its end, between these lanes
unfoldable pub arrow : View → ℕ → ℕ → ℕ → List ℕ → Tone → End → List ℕ
arrow v row from to dash t end =
    arrow_start t (along v 110 from) (down v 17 row)
    ++ (hops v (nat_le from to) from (between from to)
    ++ arrow_end v row (along v (turn_side (nat_le from to)) to) (along v (edge_side (nat_le from to)) to) dash t end)

-- ---- shapes

-- what is behind the lanes
abbrev pub ground : View → ℕ → Shape → OutLine → List ℕ
ground v r Shape.Event o = figure (codes "e") Tone.Plain 0 (down v 0 r) (codes "h999999v20H0z")
ground v r Shape.Tree o = figure (codes "t") (tone_of o) 0 (down v 0 r) (codes "h999999v20H0z")
ground v r (Shape.Boot over) o = bar v (codes "s") (down v 2 r) (codes "16") over
ground v r _ o = []

-- a figure in the middle of a lane, with its words
unfoldable pub sign : View → ℕ → ℕ → List ℕ → List ℕ → List ℕ → OutLine → List ℕ
sign v r place kind way look o =
    figure kind (tone_of o) (along v 106 place) (down v 6 r) way ++ words_at v false place (down v 14 r) look o

-- a decision is hollow
abbrev pub mark_kind : OutLine → List ℕ
mark_kind (OutLine.Log s (LogWords.Heuristic n k o)) = codes "h"
mark_kind _ = codes "m"

-- an arrow from the row in which the frame was sent, with words at its end
unfoldable pub again_text : View → ℕ → ℕ → ℕ → ℕ → Tone → End → OutLine → List ℕ
again_text v r sent from to t end o =
    arrow v sent from to (codes " stroke-dasharray='6 3'") t end ++ words_at v (nat_le from to) to (down v 14 r) [] o

-- What is before the lanes: a square for a record, a ring for what a user is told, a cross for what is refused, arrows, and words. The
-- words of an arrow are on the side to which it goes, and those at its end on the side from which it comes.
abbrev pub shape_text : View → ℕ → Shape → OutLine → List ℕ
shape_text v r Shape.Bare o = []
shape_text v r Shape.Event o = []
shape_text v r Shape.Tree o = []
shape_text v r (Shape.Boot over) o = words_at v false over.first (down v 14 r) [] o
shape_text v r (Shape.Stop over) o = words_at v false over.first (down v 14 r) (codes " font-weight='bold'") o
shape_text v r (Shape.Mark place) o = sign v r place (mark_kind o) (codes "h8v8h-8z") (codes " font-weight='bold'") o
shape_text v r (Shape.Told place) o = sign v r place (codes "h") (codes "m0 4a4 4 0 1 1 8 0a4 4 0 1 1 -8 0z") (codes " font-style='italic'") o
shape_text v r (Shape.State place) o = sign v r place (codes "m") (codes "m0 4a4 4 0 1 1 8 0a4 4 0 1 1 -8 0z") [] o
shape_text v r (Shape.Arrow k from to end) o =
    arrow v r from to [] (tone_of o) end ++ words_at v (not (nat_le from to)) from (down v 13 r) [] o
shape_text v r (Shape.Again k from to sent t end) o = again_text v r sent from to t end o
shape_text v r (Shape.Lost from to) o = words_at v (nat_le from to) to (down v 14 r) [] o
shape_text v r (Shape.Refused place) o = sign v r place (codes "x") (codes "l8 8m0-8l-8 8") [] o
shape_text v r (Shape.Dropped place) o = words_at v false place (down v 14 r) [] o

-- ---- rows

abbrev pub shown_row : View → ℕ → Shape → List Track → OutLine → List ℕ
shown_row v r s ts o = ground v r s o ++ (tracks_text v (down v 0 r) 0 ts ++ (shape_text v r s o ++ line_text v r o))

-- it is at the first line that is shown, or after it
abbrev pub is_later : View → End → Bool
is_later v End.Never = false
is_later v (End.Taken last) = nat_le v.from last
is_later v (End.Refused last) = nat_le v.from last
is_later v (End.Lost last) = nat_le v.from last

-- of a line that is not shown: the arrow of a frame that was sent before, and ends after
abbrev pub hidden_row : View → ℕ → Shape → OutLine → List ℕ
hidden_row v r (Shape.Arrow k from to end) o = if nat_lt r v.from && is_later v end then arrow v r from to [] (tone_of o) end else []
hidden_row v r _ o = []

-- a line and its shape, with the lanes after it
abbrev pub row_text : View → ℕ → Shape → List Track → OutLine → List ℕ
row_text v r s ts o = if is_shown v r then shown_row v r s ts o else hidden_row v r s o

-- of these lines, of which the first stands in that row, with the lanes before it
abbrev pub rows_text : View → List OutLine → List Track → ℕ → List OutLine → List ℕ
rows_text v os ts r [] = []
rows_text v os ts r (o ∷ more) = row_text v r (shape_of os r o) (all_moved o ts) o ++ rows_text v os (all_moved o ts) (r + 1) more

-- ---- all of it

unfoldable pub note_line : ℕ → ℕ → ℕ → List ℕ
note_line y first last = joined (
    codes "<text class='f' x='8' y='"
    ∷ decimal y
    ∷ codes "'>lines "
    ∷ decimal first
    ∷ codes " to "
    ∷ decimal last
    ∷ codes " are not shown</text>\n"
    ∷ [])

-- which lines are not shown, from one to another; nothing, where there are none
abbrev pub note : ℕ → ℕ → ℕ → List ℕ
note y first last = if nat_le first last then note_line y first last else []

unfoldable pub foot : ℕ → List ℕ
foot y = joined (codes "<g transform='translate(0 " ∷ decimal y ∷ codes ")'>\n" ∷ []) ++ legend

-- the notes of what is not shown, before and after
abbrev pub notes : View → ℕ → List ℕ
notes v lines = note (below 14 0) 1 v.from ++ note (below 14 (seen_at v v.to)) (suc v.to) lines

-- so many lanes wide is a picture: the legend needs the room of one
abbrev pub lanes_wide : ℕ → ℕ
lanes_wide lanes = if lanes == 0 then 1 else lanes

abbrev pub svg : View → List OutLine → List ℕ
svg v os =
    head (along v 100 (lanes_wide (length (lanes_of os)))) (below 180 (rows_seen v (length os))) (length (lanes_of os)) (length os)
    ++ (style
    ++ (tips
    ++ (lanes_text v (lanes_of os) (below 0 (rows_seen v (length os))) 0 (lanes_of os)
    ++ (rows_text v os (first_tracks os) 0 os
    ++ (notes v (length os)
    ++ foot (below 20 (rows_seen v (length os))))))))
