-- What the words after the program's name ask for: the form of a picture.
use Rattle.std.specs.Prelude.{ℕ, if◌then◌else◌, Bool, true, false, Option, Some, None, Result, Ok, Err, List, [], ◌∷◌, codes}
use Rattle.tp_names.specs.Same.{is_name}
use Rattle.tp_model.specs.LineReading.{number}
use Rattle.tp_schedule.specs.Answers.{read_as}
use Rattle.tp_schedule.specs.declared.line_fault.LineFault.{LineFault}
use Rattle.tp_draw.specs.declared.drawing.Kind.{Kind}
use Rattle.tp_draw.specs.declared.drawing.Form.{Form}
use Rattle.tpdraw.specs.declared.asking.Asking.{Asking}
use Rattle.tpdraw.specs.declared.asking.Want.{Want}
use Rattle.tpdraw.specs.NodeLists.{numbers_in}

-- no words: an SVG file with the text of the lines
abbrev pub plain : Form
plain = record { kind = Kind.Svg; lanes = false; fold = false; from = None; to = None; nodes = [] }

abbrev pub start : Asking
start = record { form = plain; want = Want.Option }

-- the number of the first line, or of the last
abbrev pub given_number : Form → Bool → ℕ → Form
given_number f first n = if first then record f { from = Some n } else record f { to = Some n }

abbrev pub numbered : Form → Bool → Result ℕ LineFault → Option Asking
numbered f first (Err e) = None
numbered f first (Ok n) = Some (record { form = given_number f first n; want = Want.Option })

-- none, where the word is no number from 1 to 65535
abbrev pub with_number : Form → Bool → List ℕ → Option Asking
with_number f first w = numbered f first (read_as (number w))

abbrev pub with_list : Form → Option (List ℕ) → Option Asking
with_list f None = None
with_list f (Some ns) = Some (record { form = record f { nodes = ns }; want = Want.Option })

-- none, where the word is no list of nodes, or of too many
abbrev pub with_nodes : Form → List ℕ → Option Asking
with_nodes f w = with_list f (numbers_in w)

-- none, where the word is no option
abbrev pub with_word : Form → List ℕ → Option Asking
with_word f w =
    if is_name w (codes "--mermaid") then Some (record { form = record f { kind = Kind.Mermaid }; want = Want.Option })
    else if is_name w (codes "--html") then Some (record { form = record f { kind = Kind.Html; lanes = true }; want = Want.Option })
    else if is_name w (codes "--lanes") then Some (record { form = record f { lanes = true }; want = Want.Option })
    else if is_name w (codes "--fold") then Some (record { form = record f { fold = true }; want = Want.Option })
    else if is_name w (codes "--from") then Some (record { form = f; want = Want.First })
    else if is_name w (codes "--to") then Some (record { form = f; want = Want.Last })
    else if is_name w (codes "--nodes") then Some (record { form = f; want = Want.Nodes })
    else None

-- what the words so far ask for, with one word more
abbrev pub after_by : Want → Form → List ℕ → Option Asking
after_by Want.Option f w = with_word f w
after_by Want.First f w = with_number f true w
after_by Want.Last f w = with_number f false w
after_by Want.Nodes f w = with_nodes f w

abbrev pub after : Asking → List ℕ → Option Asking
after a w = after_by a.want a.form w

-- after the last word nothing is missing
abbrev pub form_by : Want → Form → Option Form
form_by Want.Option f = Some f
form_by Want.First f = None
form_by Want.Last f = None
form_by Want.Nodes f = None

abbrev pub asked_form : Asking → Option Form
asked_form a = form_by a.want a.form

-- none, where some word means nothing
abbrev pub asked_on : Option Asking → List (List ℕ) → Option Form
asked_on None ws = None
asked_on (Some a) [] = asked_form a
asked_on (Some a) (w ∷ ws) = asked_on (after a w) ws

abbrev pub asked : List (List ℕ) → Option Form
asked ws = asked_on (Some start) ws
