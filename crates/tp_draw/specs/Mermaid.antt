-- A picture as text from which Mermaid makes a sequence diagram. Lines that have no shape of their own stand in it as comments.
use Rattle.std.specs.Prelude.{ℕ, ◌+◌, ◌-◌, Bool, true, false, ◌||◌, if◌then◌else◌, Option, Some, None, List, [], ◌∷◌, ◌++◌, length, codes}
use Rattle.tp_model.specs.declared.out_line.OutLine.{OutLine}
use Rattle.tp_model.specs.OutText.{out_text}
use Rattle.tp_model.specs.Words.{decimal}
use Rattle.tp_draw.specs.declared.band.Band.{Band}
use Rattle.tp_draw.specs.declared.end.End.{End}
use Rattle.tp_draw.specs.declared.lane.Lane.{Lane}
use Rattle.tp_draw.specs.declared.news.News.{News}
use Rattle.tp_draw.specs.declared.shape.Shape.{Shape}
use Rattle.tp_draw.specs.declared.track.Track.{Track}
use Rattle.tp_draw.specs.declared.view.View.{View}
use Rattle.tp_draw.specs.Texts.{joined, plain}
use Rattle.tp_draw.specs.Lanes.{lanes_of}
use Rattle.tp_draw.specs.Shapes.{places_of, shape_of}
use Rattle.tp_draw.specs.Bands.{news_of, first_tracks, all_moved}
use Rattle.tp_draw.specs.Views.{is_shown}
use Rattle.tp_draw.specs.Labels.{label}

-- ---- the lanes, which are named by their places

abbrev pub site_words : Option (List ℕ) → List ℕ
site_words None = []
site_words (Some s) = codes ", site " ++ plain s

unfoldable pub lane_words : ℕ → Lane → List ℕ
lane_words place l = joined (codes "    participant p" ∷ decimal place ∷ codes " as node " ∷ decimal l.node ∷ site_words l.site ∷ codes "\n" ∷ [])

-- of these lanes, of which the first stands at that place
abbrev pub lanes_words : ℕ → List Lane → List ℕ
lanes_words place [] = []
lanes_words place (l ∷ ls) = lane_words place l ++ lanes_words (place + 1) ls

-- ---- shapes

unfoldable pub comment : List ℕ → List ℕ
comment text = joined (codes "    %% " ∷ plain text ∷ codes "\n" ∷ [])

-- a text over the lanes from one to another, after a word
unfoldable pub note : ℕ → ℕ → List ℕ → List ℕ → List ℕ
note first last word text = joined (
    codes "    Note over p"
    ∷ decimal first
    ∷ codes ",p"
    ∷ decimal last
    ∷ codes ": "
    ∷ word
    ∷ text
    ∷ codes "\n"
    ∷ [])

-- an arrow whole, with a cross at its end, or open where nothing says what became of the frame
abbrev pub stroke : End → List ℕ
stroke End.Never = codes "-)p"
stroke (End.Taken r) = codes "->>p"
stroke (End.Refused r) = codes "-xp"
stroke (End.Lost r) = codes "-xp"

-- it is dashed where the frame had an end before
unfoldable pub message : ℕ → ℕ → List ℕ → End → List ℕ → List ℕ
message from to dash end text = joined (codes "    p" ∷ decimal from ∷ dash ∷ stroke end ∷ decimal to ∷ codes ": " ∷ text ∷ codes "\n" ∷ [])

abbrev pub shape_words : ℕ → Shape → OutLine → List ℕ
shape_words last Shape.Bare o = comment (out_text o)
shape_words last Shape.Event o = comment (out_text o)
shape_words last Shape.Tree o = note 0 last [] (plain (out_text o))
shape_words last (Shape.Boot over) o = note over.first over.last [] (label o)
shape_words last (Shape.Stop over) o = note over.first over.last [] (label o)
shape_words last (Shape.Mark place) o = note place place (codes "log ") (label o)
shape_words last (Shape.Told place) o = note place place (codes "tell ") (label o)
shape_words last (Shape.State place) o = note place place (codes "state ") (label o)
shape_words last (Shape.Arrow k from to end) o = message from to [] end (label o)
shape_words last (Shape.Again k from to sent t end) o = message from to (codes "-") end (label o)
shape_words last (Shape.Lost from to) o = comment (out_text o)
shape_words last (Shape.Refused place) o = note place place [] (label o)
shape_words last (Shape.Dropped place) o = note place place [] (label o)

-- ---- rows

-- a crash of a site is a note over its lanes
abbrev pub crash_words : List OutLine → News → List ℕ
crash_words os (News.Stops s) = note (places_of os s).first (places_of os s).last [] (codes "crash")
crash_words os _ = []

abbrev pub event_words : List OutLine → Shape → OutLine → List ℕ
event_words os Shape.Event o = crash_words os (news_of o)
event_words os _ o = []

abbrev pub row_words : List OutLine → Shape → OutLine → List ℕ
row_words os s o = shape_words (length (lanes_of os) - 1) s o ++ event_words os s o

-- ---- the ground while some node is in doubt

abbrev pub is_in_doubt : Band → Bool
is_in_doubt Band.InDoubt = true
is_in_doubt _ = false

abbrev pub some_in_doubt : List Track → Bool
some_in_doubt [] = false
some_in_doubt (t ∷ ts) = is_in_doubt t.band || some_in_doubt ts

unfoldable pub ground_begins : List ℕ
ground_begins = codes "    rect rgba(128, 128, 128, 0.2)\n"

unfoldable pub ground_ends : List ℕ
ground_ends = codes "    end\n"

-- between two rows, by whether some node was in doubt in the first and is in the second
abbrev pub ground : Bool → Bool → List ℕ
ground false false = []
ground false true = ground_begins
ground true false = ground_ends
ground true true = []

-- Of these lines of a transcript, of which the first is in that row, with the lanes before it, and whether some node was in
-- doubt in the last row that is shown before it. Lines that are not shown have no words.
abbrev pub rows_words : View → List OutLine → List Track → Bool → ℕ → List OutLine → List ℕ
rows_words v os ts was r [] = ground was false
rows_words v os ts was r (o ∷ more) =
    if is_shown v r then
    (ground was (some_in_doubt (all_moved o ts)) ++ row_words os (shape_of os r o) o)
    ++ rows_words v os (all_moved o ts) (some_in_doubt (all_moved o ts)) (r + 1) more
    else rows_words v os (all_moved o ts) was (r + 1) more

-- ---- all of it

unfoldable pub first_line : List ℕ
first_line = codes "sequenceDiagram\n"

abbrev pub mermaid : View → List OutLine → List ℕ
mermaid v os = first_line ++ (lanes_words 0 (lanes_of os) ++ rows_words v os (first_tracks os) false 0 os)
