-- A schedule read line by line: where a reader stands, and what its next call answers and leaves.
-- Into which lines the bytes are cut is said by tp_model.
use Rattle.std.specs.Prelude.{ℕ, ◌≡◌, ◌+◌, ◌≤◌, nat_lt, Option, Some, None, option_map, Result, Ok, Err, List, [], ◌∷◌, length, true, false}
use Rattle.std.specs.Borrow.{Bor}
use Rattle.tp_model.specs.Transcript.{RawLine, raw_lines, content, octets_taken}
use Rattle.tp_schedule.specs.declared.lines_fault.LinesFault.{LinesFault}
use Rattle.tp_schedule.specs.AtHand.{together}

-- where a reader stands
pub record Place : Type 0 where
  -- the bytes that were read and are not handed out
  pub held : List ℕ
  -- how many bytes were handed out, with the ends of their lines
  pub before : ℕ
  -- what every further call answers
  pub fault : Option LinesFault

-- ---- what is answered

abbrev pub fails : LinesFault → Result (Option (List ℕ)) LinesFault
fails f = Err f

-- a line, or why it is not handed out; so many bytes stand before it
abbrev pub judged : ℕ → RawLine → Result (Option (List ℕ)) LinesFault
judged before l = elim (nat_lt 1048576 (before + octets_taken l)) [
  | true ↦ Err LinesFault.Limit
  | false ↦ elim (nat_lt 8192 (length (content l))) [ true ↦ Err LinesFault.Long | false ↦ Ok (Some (content l)) ]
]

-- the first of these lines; none at the end
abbrev pub first_of : ℕ → List RawLine → Result (Option (List ℕ)) LinesFault
first_of before [] = Ok None
first_of before (l ∷ ls) = judged before l

-- the fault from before, or the first line in these bytes
abbrev pub answer : Place → List ℕ → Result (Option (List ℕ)) LinesFault
answer p bytes = elim p.fault [ Some f ↦ Err f | None ↦ first_of p.before (raw_lines bytes) ]

-- the second answer, unless the first is that the source failed
abbrev pub unless_read : {A : Type 0} → Result A LinesFault → Result A LinesFault → Result A LinesFault
unless_read (Ok a) s = s
unless_read (Err (LinesFault.ReadFault n)) s = Err (LinesFault.ReadFault n)
unless_read (Err LinesFault.Long) s = s
unless_read (Err LinesFault.Limit) s = s

-- the answer is that for these bytes, or that the source failed
abbrev pub IsFor : (List ℕ → Result (Option (List ℕ)) LinesFault) → Option (List ℕ) → Result (Option (List ℕ)) LinesFault → Type 0
IsFor f bytes r = (all : List ℕ) → bytes ≡ Some all → r ≡ unless_read r (f all)

-- an answer with the bytes of its line
abbrev pub shown : Result (Option (Bor (List ℕ))) LinesFault → Result (Option (List ℕ)) LinesFault
shown (Ok None) = Ok None
shown (Ok (Some line)) = Ok (Some line.now)
shown (Err f) = Err f

-- ---- how far the source is read

-- the first line without its line feed, and with it
abbrev pub first_length : List RawLine → ℕ
first_length [] = 0
first_length (l ∷ ls) = length l.bytes

abbrev pub first_taken : List RawLine → ℕ
first_taken [] = 0
first_taken (l ∷ ls) = octets_taken l

-- How many bytes at most were read past the line's start, by the answer: 12,288; for a line that is too long as many
-- past its end; and where the source failed, the line's end was not read.
abbrev pub most_read : List RawLine → Result (Option (List ℕ)) LinesFault → ℕ
most_read ls (Ok line) = 12288
most_read ls (Err (LinesFault.ReadFault n)) = first_length ls
most_read ls (Err LinesFault.Long) = first_taken ls + 12288
most_read ls (Err LinesFault.Limit) = first_taken ls + 12288

-- no more was read than that
abbrev pub IsAhead : Option (List ℕ) → Option (List ℕ) → Result (Option (List ℕ)) LinesFault → Type 0
IsAhead bytes rest r = (all left : List ℕ) → bytes ≡ Some all → rest ≡ Some left → length all ≤ length left + most_read (raw_lines all) r

-- ---- what is left

-- the lines still to be handed out, where the source tells what it has left
abbrev pub lines_left : Place → Option (List ℕ) → Option (List RawLine)
lines_left p left = option_map raw_lines (together p.held left)

-- these bytes were the first line, and the others are left
pub record HandsOut (old : Place) (left : Option (List ℕ)) (text : List ℕ) (new : Place) (rest : Option (List ℕ)) : Type 0 where
  pub line : RawLine
  pub is : content line ≡ text
  pub before : new.before ≡ old.before + octets_taken line
  pub fault : new.fault ≡ None
  pub lines : lines_left old left ≡ option_map (λ ls. line ∷ ls) (lines_left new rest)

-- what a call leaves, by its answer
abbrev pub Leaves : Place → Option (List ℕ) → Result (Option (List ℕ)) LinesFault → Place → Option (List ℕ) → Type 0
Leaves old left (Ok None) new rest = (new ≡ record old { held = [] }) × (lines_left new rest ≡ lines_left old left)
Leaves old left (Ok (Some text)) new rest = HandsOut old left text new rest
Leaves old left (Err f) new rest = new.fault ≡ Some f
