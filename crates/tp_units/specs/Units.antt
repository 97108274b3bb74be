-- Which functional units go together, and by which bit a set or an answer is refused.
-- The bits: 1 Shared, 2 Polarized, 4 Handshake, 8 Commit, 16 Chained, 32 Unchained.
-- What a unit allows on a dialogue is no matter of this file.
use Rattle.std.specs.Prelude.{ℕ, ◌/◌, ◌%◌, ◌==◌, ◌&&◌, ◌||◌, not, Bool, if◌then◌else◌, nat_lt, Option, Some, None, Result, Ok, Err, List, [], ◌∷◌}
use Rattle.std.specs.List.{list_any}
use Rattle.tp_units.specs.declared.units.BadUnits.{BadUnits}

abbrev pub has_bit : ℕ → ℕ → Bool
has_bit units bit = ((units / bit) % 2) == 1

-- exactly one control unit; Chained and Unchained exclude each other; Commit goes with one of them
abbrev pub is_permitted : ℕ → Bool
is_permitted u =
    nat_lt u 64
    && (if has_bit u 1 then not (has_bit u 2) else has_bit u 2)
    && not (has_bit u 16 && has_bit u 32)
    && (if has_bit u 8 then has_bit u 16 || has_bit u 32 else not (has_bit u 16 || has_bit u 32))

-- the bit of the first test that holds
abbrev pub first_bit : List (Bool × ℕ) → Option ℕ
first_bit [] = None
first_bit (t ∷ ts) = if t.0 then Some t.1 else first_bit ts

abbrev pub bad_bit : ℕ → Option ℕ
bad_bit u =
    first_bit (
    (has_bit u 64, 64)
    ∷ (has_bit u 128, 128)
    ∷ (if has_bit u 1 then has_bit u 2 else not (has_bit u 2), 1)
    ∷ (has_bit u 16 && has_bit u 32, 32)
    ∷ (has_bit u 16 && not (has_bit u 8), 16)
    ∷ (has_bit u 32 && not (has_bit u 8), 32)
    ∷ (has_bit u 8 && not (has_bit u 16) && not (has_bit u 32), 8)
    ∷ []
    )

-- the lowest bit of an answer that is not in the offer
abbrev pub bit_not_offered : ℕ → ℕ → Option ℕ
bit_not_offered offer answer =
    first_bit (
    (has_bit answer 1 && not (has_bit offer 1), 1)
    ∷ (has_bit answer 2 && not (has_bit offer 2), 2)
    ∷ (has_bit answer 4 && not (has_bit offer 4), 4)
    ∷ (has_bit answer 8 && not (has_bit offer 8), 8)
    ∷ (has_bit answer 16 && not (has_bit offer 16), 16)
    ∷ (has_bit answer 32 && not (has_bit offer 32), 32)
    ∷ []
    )

-- the bit by which an answer to an offer is refused: as a set, else its lowest bit that is not offered
abbrev pub bad_answer : ℕ → ℕ → Option ℕ
bad_answer offer answer = elim (bad_bit answer) [ Some b ↦ Some b | None ↦ bit_not_offered offer answer ]

-- a set that no bit refuses, else the refusal
abbrev pub unless_bad : Option ℕ → ℕ → Result ℕ BadUnits
unless_bad None units = Ok units
unless_bad (Some b) units = Err (record { bit = b })

-- one of the eight bits of a byte
abbrev pub is_one_bit : ℕ → Bool
is_one_bit bit = list_any (λ b. bit == b) (1 ∷ 2 ∷ 4 ∷ 8 ∷ 16 ∷ 32 ∷ 64 ∷ 128 ∷ [])
