-- A list of nodes as a word: numbers with commas between them, as `1,2`.
use Rattle.std.specs.Prelude.{ℕ, ◌+◌, ◌-◌, ◌*◌, ◌==◌, ◌&&◌, nat_le, nat_lt, if◌then◌else◌, Option, Some, None, List, [], ◌∷◌}
use Rattle.tp_model.specs.LineReading.{is_digit}
use Rattle.tp_draw.specs.NodeSets.{with_node}

-- ---- one number: without leading zeros, from 1 to 65535

abbrev pub value_of : Option ℕ → ℕ → ℕ
value_of None d = d
value_of (Some n) d = n * 10 + d

abbrev pub one_more : Option ℕ → ℕ → Option ℕ
one_more n d = if nat_lt 0 (value_of n d) && nat_le (value_of n d) 65535 then Some (value_of n d) else None

-- the number so far with the digit of that byte
abbrev pub with_digit : Option ℕ → ℕ → Option ℕ
with_digit n b = if is_digit b then one_more n (b - 48) else None

-- ---- all numbers

-- with the number after the last comma; none where there is none
abbrev pub with_given : List ℕ → Option ℕ → Option (List ℕ)
with_given ns None = None
with_given ns (Some n) = with_node ns n

abbrev pub begun : Option (List ℕ) → Option (List ℕ × Option ℕ)
begun None = None
begun (Some ns) = Some (ns, None)

abbrev pub gone_on : List ℕ → Option ℕ → Option (List ℕ × Option ℕ)
gone_on ns None = None
gone_on ns (Some n) = Some (ns, Some n)

-- the numbers before the last comma and the one after it, after one byte more
abbrev pub after_byte : List ℕ → Option ℕ → ℕ → Option (List ℕ × Option ℕ)
after_byte ns n b = if b == 44 then begun (with_given ns n) else gone_on ns (with_digit n b)

abbrev pub numbers_on : Option (List ℕ × Option ℕ) → List ℕ → Option (List ℕ)
numbers_on None bs = None
numbers_on (Some p) [] = with_given p.0 p.1
numbers_on (Some p) (b ∷ bs) = numbers_on (after_byte p.0 p.1 b) bs

-- none, where the word is no such list
abbrev pub numbers_in : List ℕ → Option (List ℕ)
numbers_in bs = numbers_on (Some ([], None)) bs
