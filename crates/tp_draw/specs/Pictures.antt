-- The picture of a transcript in each form.
use Rattle.std.specs.Prelude.{ℕ, suc, ◌+◌, ◌-◌, min, Bool, true, false, not, if◌then◌else◌, Option, Some, None, List, [], ◌∷◌, length}
use Rattle.tp_model.specs.declared.line.Line.{Line}
use Rattle.tp_model.specs.declared.line.LineRequest.{LineRequest}
use Rattle.tp_model.specs.declared.out_line.OutLine.{OutLine}
use Rattle.tp_draw.specs.declared.drawing.Kind.{Kind}
use Rattle.tp_draw.specs.declared.drawing.Form.{Form}
use Rattle.tp_draw.specs.declared.view.View.{View}
use Rattle.tp_draw.specs.Events.{event_of}
use Rattle.tp_draw.specs.Chosen.{chosen}
use Rattle.tp_draw.specs.Svg.{svg}
use Rattle.tp_draw.specs.Mermaid.{mermaid}
use Rattle.tp_draw.specs.Page.{page}

-- ---- which lines are shown

-- the event begins a transaction
abbrev pub begins : Option Line → Bool
begins (Some (Line.Do n (LineRequest.BeginTransaction p))) = true
begins _ = false

-- the row of the first line of these that tells such an event, where the first is in that row; 0 where none does
abbrev pub first_begin : ℕ → List OutLine → ℕ
first_begin r [] = 0
first_begin r (o ∷ os) = if begins (event_of o) then r else first_begin (suc r) os

-- Lines are numbered from 1. Where no first line is given, it is the first of the transcript or, folded, the one that begins the
-- first transaction.
abbrev pub row_from : Option ℕ → Bool → List OutLine → ℕ
row_from (Some n) folded os = n - 1
row_from None true os = first_begin 0 os
row_from None false os = 0

-- 200 lines are shown where no last one is given
abbrev pub row_to : Option ℕ → ℕ → ℕ
row_to (Some n) from = n
row_to None from = from + 200

-- no line is shown that is not there
abbrev pub view_from : Form → ℕ → ℕ → View
view_from f from lines = record {
  from = min from lines;
  to = min (row_to f.to from) lines;
  all = not f.lanes;
  left = if f.lanes then 230 else 460;
  most = if f.lanes then 28 else 60;
}

abbrev pub view_of : Form → List OutLine → View
view_of f os = view_from f (row_from f.from f.fold os) (length os)

-- ---- the picture

abbrev pub picture_in : Kind → View → List OutLine → List ℕ
picture_in Kind.Svg v os = svg v os
picture_in Kind.Mermaid v os = mermaid v os
picture_in Kind.Html v os = page v os

-- of the lines that speak of the chosen nodes, which are numbered anew
abbrev pub picture : Form → List OutLine → List ℕ
picture f os = picture_in f.kind (view_of f (chosen f.nodes os)) (chosen f.nodes os)
