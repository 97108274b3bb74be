use Rattle.std.proofs.Common.{◌≡◌, drop}
use Rattle.tp_schedule.specs.Keywords.{found}
use Rattle.tp_schedule.proofs.keyword.find.Given as goal

abbrev pub invariant-loop-text : goal.invariant-loop-text
invariant-loop-text g l = found (drop l.text-index l.table) (λ e. e.0.now) (λ e. e.1) l.word ≡ found l.table (λ e. e.0.now) (λ e. e.1) l.word
