-- The lines of a transcript that speak of chosen nodes alone, or of no node.
use Rattle.std.specs.Prelude.{ℕ, ◌==◌, ◌&&◌, ◌||◌, Bool, true, false, if◌then◌else◌, List, [], ◌∷◌, ◌++◌}
use Rattle.tp_model.specs.declared.out_line.OutLine.{OutLine}
use Rattle.tp_draw.specs.declared.lane.Lane.{Lane}
use Rattle.tp_draw.specs.declared.subject.Subject.{Subject}
use Rattle.tp_draw.specs.Lanes.{is_of_site, lanes_of}
use Rattle.tp_draw.specs.Subjects.{subject_of}

abbrev pub is_among : ℕ → List ℕ → Bool
is_among n [] = false
is_among n (m ∷ ms) = (m == n) || is_among n ms

-- a chosen node has one of these lanes, and is of the site
abbrev pub has_site : List ℕ → List ℕ → List Lane → Bool
has_site ns s [] = false
has_site ns s (l ∷ ls) = (is_of_site s l && is_among l.node ns) || has_site ns s ls

-- the frames that were sent at lines that are left, with that of one line more
abbrev pub with_frame : OutLine → List ℕ → List ℕ
with_frame (OutLine.Send k a b r) fs = fs ++ k ∷ []
with_frame _ fs = fs

-- It is left, where the lanes of the transcript are these, and the frames those of the lines before; `before` is whether the line
-- before it is.
abbrev pub is_left : List ℕ → List Lane → List ℕ → Bool → Subject → Bool
is_left ns ls fs before Subject.Nobody = true
is_left ns ls fs before (Subject.Node n) = is_among n ns
is_left ns ls fs before (Subject.Pair a b) = is_among a ns && is_among b ns
is_left ns ls fs before (Subject.Frame k) = is_among k fs
is_left ns ls fs before (Subject.Site s) = has_site ns s ls
is_left ns ls fs before Subject.Before = before

-- what is left of these lines
abbrev pub left_of : List ℕ → List Lane → List ℕ → Bool → List OutLine → List OutLine
left_of ns ls fs before [] = []
left_of ns ls fs before (o ∷ os) =
    if is_left ns ls fs before (subject_of o) then o ∷ left_of ns ls (with_frame o fs) true os else left_of ns ls fs false os

-- what is left of a transcript: all of it, where no node is chosen
abbrev pub chosen : List ℕ → List OutLine → List OutLine
chosen [] os = os
chosen (n ∷ ns) os = left_of (n ∷ ns) (lanes_of os) [] true os
