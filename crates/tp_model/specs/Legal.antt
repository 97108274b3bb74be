-- Which histories a node can have, and what is promised of each. Statements alone; nothing is proved here.
use Rattle.std.specs.Prelude.{ℕ, ◌==◌, ◌≡◌, ◌&&◌, not, nat_lt, Bool, true, false, Option, Some, None, List, [], ◌∷◌, reverse}
use Rattle.tp_names.specs.declared.identifiers.NodeKey.{NodeKey}
use Rattle.tp_names.specs.declared.children.Child.{Child}
use Rattle.tp_names.specs.Same.{is_branch}
use Rattle.tp_logrec.specs.declared.record.LogRec.{LogRec}
use Rattle.tp_logrec.specs.Order.{all_follow}
use Rattle.tp_names.specs.declared.identifiers.Addr.{Addr}
use Rattle.tp_model.specs.Parts.{Origin, Event, Declare, Entry}
use Rattle.tp_model.specs.History.{digest, refuse, entry_of, records, again, crashed}
use Rattle.tp_model.specs.Consistency.{IsKnown}

-- ---- a start

-- a key of a root is of an earlier boot
abbrev pub is_older : ℕ → NodeKey → Bool
is_older boot k = elim k.branch [ None ↦ nat_lt k.aaid.mark.boot boot | Some b ↦ true ]

-- children stand at different numbers, and have different identifiers
abbrev pub is_apart : Child → List Child → Bool
is_apart c [] = true
is_apart c (d ∷ ds) = not (c.addr.node == d.addr.node) && not (is_branch c.branch d.branch) && is_apart c ds

abbrev pub are_apart : List Child → Bool
are_apart [] = true
are_apart (c ∷ cs) = is_apart c cs && are_apart cs

-- a record of the node, of an earlier boot, whose children can be told apart by their numbers and by their identifiers
abbrev pub is_own_record : ℕ → ℕ → LogRec → Bool
is_own_record node boot (LogRec.Boot n) = false
is_own_record node boot (LogRec.Ready n k s cs) = (n == node) && is_older boot k && are_apart cs
is_own_record node boot (LogRec.Heuristic n k u) = (n == node) && is_older boot k
is_own_record node boot (LogRec.Commit n k s cs) = (n == node) && is_older boot k && are_apart cs
is_own_record node boot (LogRec.Damage n k s u r cs) = (n == node) && is_older boot k
is_own_record node boot (LogRec.End n k u) = (n == node) && is_older boot k

abbrev pub are_own_records : ℕ → ℕ → List LogRec → Bool
are_own_records node boot [] = true
are_own_records node boot (r ∷ rs) = is_own_record node boot r && are_own_records node boot rs

-- the records follow each other after a boot, and are the node's own of earlier boots
abbrev pub is_start : Origin → Bool
is_start o = all_follow (LogRec.Boot o.start.boot ∷ o.start.records) && are_own_records o.who.node o.start.boot o.start.records

-- ---- legal histories

-- a declaration names the one superior that the node has
abbrev pub IsUnder : Option Addr → Event → Type 0
IsUnder up (Declare s) = s ≡ up
IsUnder up _ = Unit {0}

-- each entry is of an event that was accepted then, and is what the event does
abbrev pub IsGrown : Origin → Option Addr → List Entry → Type 0
IsGrown o up [] = Unit {0}
IsGrown o up (e ∷ h) = (refuse o h e.event ≡ None) × (entry_of o h e.event ≡ e) × IsUnder up e.event × IsGrown o up h

-- the history of a node with that superior: it grew from a start on records such as its own histories leave
pub record IsLegal (o : Origin) (up : Option Addr) (h : List Entry) : Type 0 where
  pub start : is_start o ≡ true
  pub grown : IsGrown o up h

-- ---- promises of one node

-- what is known after a history is what the questions to it answer
abbrev pub DigestAgrees : Type 0
DigestAgrees = (o : Origin) (up : Option Addr) (h : List Entry) → IsLegal o up h → IsKnown o h

-- a crash, and a start over the records with the same boot number, leave the same
abbrev pub RestartIsCrash : Type 0
RestartIsCrash = (o : Origin) (up : Option Addr) (h : List Entry) → IsLegal o up h → digest (again o h) [] ≡ digest o (crashed h)

-- the records stay in order, after the boot that is the last
abbrev pub are_in_order : Origin → List Entry → Bool
are_in_order o h = all_follow (LogRec.Boot (digest o h).boot ∷ reverse (records o h))

abbrev pub RecordsFollow : Type 0
RecordsFollow = (o : Origin) (up : Option Addr) (h : List Entry) → IsLegal o up h → are_in_order o h ≡ true

-- and are such as the next start may find
abbrev pub StartsAgain : Type 0
StartsAgain = (o : Origin) (up : Option Addr) (h : List Entry) → IsLegal o up h → is_start (again o h) ≡ true
