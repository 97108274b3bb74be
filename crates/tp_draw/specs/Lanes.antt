-- The lanes of a picture: a node each, and the nodes of a site beside each other.
use Rattle.std.specs.Prelude.{ℕ, suc, ◌-◌, ◌==◌, max, Bool, true, false, if◌then◌else◌, Option, Some, None, option_map, List, [], ◌∷◌, ◌++◌, length, insert}
use Rattle.tp_names.specs.Same.{is_name}
use Rattle.tp_model.specs.declared.line.Line.{Line}
use Rattle.tp_model.specs.declared.out_line.LogWords.{LogWords}
use Rattle.tp_model.specs.declared.out_line.OutLine.{OutLine}
use Rattle.tp_draw.specs.Events.{event_of}
use Rattle.tp_draw.specs.declared.lane.Lane.{Lane}
use Rattle.tp_draw.specs.declared.places.Places.{Places}

-- ---- what a line tells of nodes

-- the node of which a record of the log is
abbrev pub node_of : LogWords → Option ℕ
node_of (LogWords.Boot n) = None
node_of (LogWords.Ready n k) = Some n
node_of (LogWords.Heuristic n k o) = Some n
node_of (LogWords.Commit n k) = Some n
node_of (LogWords.Damage n k o r) = Some n
node_of (LogWords.End n k o) = Some n

abbrev pub declared_by : Option Line → Option (ℕ × List ℕ)
declared_by (Some (Line.Node n s u)) = Some (n, s)
declared_by _ = None

-- a node and its site: by its declaration in the schedule, and by each record of it in the site's log
abbrev pub placed : OutLine → Option (ℕ × List ℕ)
placed (OutLine.Log s r) = option_map (λ n. (n, s)) (node_of r)
placed o = declared_by (event_of o)

-- the nodes that it names with no site
abbrev pub named : OutLine → List ℕ
named (OutLine.Send k a b r) = a ∷ b ∷ []
named (OutLine.Tell n i) = n ∷ []
named (OutLine.State n p k) = n ∷ []
named _ = []

-- ---- places among lanes, counted from 0

-- of the node's lane; after all where it has none
abbrev pub place_in : List Lane → ℕ → ℕ
place_in [] n = 0
place_in (l ∷ ls) n = elim (l.node == n) [ true ↦ 0 | false ↦ suc (place_in ls n) ]

abbrev pub is_of_site : List ℕ → Lane → Bool
is_of_site s l = elim l.site [ None ↦ false | Some t ↦ is_name t s ]

-- of the first lane of the site; after all where it has none
abbrev pub first_of : List Lane → List ℕ → ℕ
first_of [] s = 0
first_of (l ∷ ls) s = elim (is_of_site s l) [ true ↦ 0 | false ↦ suc (first_of ls s) ]

-- after the last lane of the site, of which the first that are left out are `count`; `at` where none is of it
abbrev pub after_from : List ℕ → ℕ → ℕ → List Lane → ℕ
after_from s at count [] = at
after_from s at count (l ∷ ls) = after_from s (if is_of_site s l then suc count else at) (suc count) ls

-- after the last lane of the site; after all where it has none
abbrev pub after_site : List Lane → List ℕ → ℕ
after_site ls s = after_from s (length ls) 0 ls

-- of the lanes of a site, from the first to the last; the place after all where it has none
abbrev pub places_in : List Lane → List ℕ → Places
places_in ls s = record { first = first_of ls s; last = max (first_of ls s) (after_site ls s - 1) }

-- of all lanes
abbrev pub all_places : List Lane → Places
all_places ls = record { first = 0; last = length ls - 1 }

-- ---- all lanes

-- a lane for a node of a site, beside the others of the site, if the node has none
abbrev pub with_placed : List Lane → Option (ℕ × List ℕ) → List Lane
with_placed ls None = ls
with_placed ls (Some p) = if place_in ls p.0 == length ls then insert ls (after_site ls p.1) (record { node = p.0; site = Some p.1 }) else ls

abbrev pub placed_lanes : List Lane → List OutLine → List Lane
placed_lanes ls [] = ls
placed_lanes ls (o ∷ os) = placed_lanes (with_placed ls (placed o)) os

-- a lane for a node of which no line tells the site, after all others, if it has none
abbrev pub with_named : List Lane → ℕ → List Lane
with_named ls n = if place_in ls n == length ls then ls ++ record { node = n; site = None } ∷ [] else ls

abbrev pub with_all_named : List Lane → List ℕ → List Lane
with_all_named ls [] = ls
with_all_named ls (n ∷ ns) = with_all_named (with_named ls n) ns

abbrev pub named_lanes : List Lane → List OutLine → List Lane
named_lanes ls [] = ls
named_lanes ls (o ∷ os) = named_lanes (with_all_named ls (named o)) os

-- the lanes of a transcript: first the nodes whose site is told, in the order in which it is, then the others
abbrev pub lanes_of : List OutLine → List Lane
lanes_of os = named_lanes (placed_lanes [] os) os
