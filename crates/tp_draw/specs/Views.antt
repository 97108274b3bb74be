-- The part of a transcript that a picture shows, and where its lines stand.
use Rattle.std.specs.Prelude.{ℕ, ◌+◌, ◌-◌, ◌*◌, ◌^◌, min, Bool, ◌&&◌, nat_le, nat_lt, if◌then◌else◌}
use Rattle.tp_draw.specs.declared.view.View.{View}

-- ---- rows

-- the line in that row of the transcript has a row of the picture
abbrev pub is_shown : View → ℕ → Bool
is_shown v r = nat_le v.from r && nat_lt r v.to

-- The row of the picture for a row of the transcript. One row stands for all lines before the first that is shown, and one for
-- all lines after the last.
abbrev pub seen_at : View → ℕ → ℕ
seen_at v r = min r v.to - (v.from - 1)

-- of that many lines, how many rows there are
abbrev pub rows_seen : View → ℕ → ℕ
rows_seen v lines = seen_at v v.to + (if nat_le lines v.to then 0 else 1)

-- ---- coordinates, none of which passes the greatest number of 64 bits

abbrev pub capped : ℕ → ℕ
capped n = min n (2 ^ 64 - 1)

-- so far to the right of the left edge of the lane at that place
unfoldable pub along : View → ℕ → ℕ → ℕ
along v offset place = capped (v.left + offset + 220 * place)

-- so far below the upper edge of that row of the picture
unfoldable pub below : ℕ → ℕ → ℕ
below offset rows = capped (60 + offset + 20 * rows)

-- so far below the upper edge of the row for that row of the transcript
abbrev pub down : View → ℕ → ℕ → ℕ
down v offset r = below offset (seen_at v r)
