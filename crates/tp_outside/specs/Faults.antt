-- What a count of failed calls says. It is no count of errors: a call may raise it and still succeed.
use Rattle.std.specs.Prelude.{ℕ, ◌+◌, ◌-◌, ◌^◌, ◌≤◌, min}

-- one more, up to the greatest u64
abbrev pub one_more : ℕ → ℕ
one_more n = min (n + 1) (2 ^ 64 - 1)

-- the count rose, or stands at its greatest value
abbrev pub HasRisen : ℕ → ℕ → Type 0
HasRisen old new = one_more old ≤ new
