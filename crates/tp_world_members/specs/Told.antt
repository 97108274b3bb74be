-- What lines tell users, and what of that is put to members: the lines that are shown are the queue.
use Rattle.std.specs.Prelude.{ℕ, Option, Some, None, List, [], ◌∷◌, ◌++◌}
use Rattle.tp_model.specs.declared.out_line.OutLine.{OutLine}
use Rattle.tp_model.specs.Happenings.{Told}
use Rattle.tp_model.specs.Transcript.{Put}

-- what the line tells a user, if it does
abbrev pub told_by : OutLine → List Told
told_by (OutLine.Echo text) = []
told_by (OutLine.Log s r) = []
told_by (OutLine.Take k) = []
told_by (OutLine.Send k a b r) = []
told_by (OutLine.Tell n i) = record { node = n; indication = i } ∷ []
told_by (OutLine.Refused n) = []
told_by (OutLine.Dropped n) = []
told_by OutLine.Nothing = []
told_by (OutLine.Lost k) = []
told_by (OutLine.Stopped s fate) = []
told_by (OutLine.State n phase kept) = []
told_by (OutLine.Image s bytes) = []
told_by (OutLine.Agreed t o) = []
told_by (OutLine.Mixed t by) = []
told_by (OutLine.Open t) = []

abbrev pub told_in : List OutLine → List Told
told_in [] = []
told_in (l ∷ ls) = told_by l ++ told_in ls

-- what of it is put to a member, by the members that drive nodes
abbrev pub put_to : (ℕ → Option ℕ) → Told → List Put
put_to driver t = elim (driver t.node) [ None ↦ [] | Some k ↦ record { member = k; node = t.node; indication = t.indication } ∷ [] ]

abbrev pub puts_by : (ℕ → Option ℕ) → List Told → List Put
puts_by driver [] = []
puts_by driver (t ∷ ts) = put_to driver t ++ puts_by driver ts

abbrev pub puts_in : (ℕ → Option ℕ) → List OutLine → List Put
puts_in driver ls = puts_by driver (told_in ls)
