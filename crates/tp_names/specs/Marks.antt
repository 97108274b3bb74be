-- The marks that a counter draws: one after the other, each with the next count.
-- A counter is that of one node in one boot of its site; what a mark is used for is no matter of this file.
use Rattle.std.specs.Prelude.{ℕ, zero, suc, ◌+◌, ◌⊎◌, ◌≢◌}
use Rattle.tp_names.specs.declared.identifiers.Mark.{Mark}

-- what a counter draws for, and the last count that it drew
pub record Drawing : Type 0 where
  pub boot : ℕ
  pub node : ℕ
  pub last : ℕ

abbrev pub next_mark : Drawing → Mark
next_mark d = record { boot = d.boot; node = d.node; count = d.last + 1 }

abbrev pub after_draw : Drawing → Drawing
after_draw d = record { boot = d.boot; node = d.node; last = d.last + 1 }

-- after so many draws
abbrev pub after_draws : ℕ → Drawing → Drawing
after_draws zero d = d
after_draws (suc k) d = after_draw (after_draws k d)

-- the mark that is drawn after so many others
abbrev pub drawn : Drawing → ℕ → Mark
drawn d k = next_mark (after_draws k d)

-- they draw for two boots or for two nodes
abbrev pub AreApart : Drawing → Drawing → Type 0
AreApart d e = (d.boot ≢ e.boot) ⊎ (d.node ≢ e.node)
