-- A sink in memory as its callers see it.
use Rattle.std.specs.Prelude.{ℕ, List, ◌++◌}
use Rattle.tp_outside.specs.Faults.{one_more}

pub record Collected : Type 0 where
  -- the bytes that were written
  pub written : List ℕ
  -- the numbers of the calls that are to fail, from 1
  pub fails : List ℕ
  -- how many calls there were
  pub calls : ℕ
  -- how many of them failed
  pub faults : ℕ
  -- how many of those failed because there was no memory to grow
  pub starved : ℕ

-- one more call, which took the piece
abbrev pub after_write : List ℕ → Collected → Collected
after_write piece c = record { written = c.written ++ piece; fails = c.fails; calls = one_more c.calls; faults = c.faults; starved = c.starved }

-- one more call, which was listed to fail
abbrev pub after_failed_write : Collected → Collected
after_failed_write c = record { written = c.written; fails = c.fails; calls = one_more c.calls; faults = one_more c.faults; starved = c.starved }

-- one more call, which found no memory
abbrev pub after_starved_write : Collected → Collected
after_starved_write c = record { written = c.written; fails = c.fails; calls = one_more c.calls; faults = one_more c.faults; starved = one_more c.starved }
