-- A source in memory as its callers see it.
use Rattle.std.specs.Prelude.{ℕ, List, drop}
use Rattle.tp_outside.specs.Faults.{one_more}

pub record Supply : Type 0 where
  -- the bytes that are left
  pub left : List ℕ
  -- the numbers of the calls that are to fail, from 1
  pub fails : List ℕ
  -- how many calls there were
  pub calls : ℕ
  -- how many of them failed
  pub faults : ℕ

-- one more call, which gave n bytes
abbrev pub after_read : ℕ → Supply → Supply
after_read n s = record { left = drop n s.left; fails = s.fails; calls = one_more s.calls; faults = s.faults }

-- one more call, which failed
abbrev pub after_failed_read : Supply → Supply
after_failed_read s = record { left = s.left; fails = s.fails; calls = one_more s.calls; faults = one_more s.faults }
