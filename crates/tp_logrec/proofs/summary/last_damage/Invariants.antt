use Rattle.std.proofs.Common.{◌≡◌, drop}
use Rattle.std.specs.Option.{option_copied}
use Rattle.tp_logrec.specs.Order.{last, last_or, those, is_damage}
use Rattle.tp_logrec.proofs.summary.last_damage.Given as goal

abbrev pub invariant-loop-rec : goal.invariant-loop-rec
invariant-loop-rec l = last (those is_damage l.records) ≡ last_or (option_copied l.damage) (those is_damage (drop l.rec-index l.records))
