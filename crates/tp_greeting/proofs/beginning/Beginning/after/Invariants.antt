use Rattle.std.proofs.Common.{◌≡◌, false, drop}
use Rattle.tp_logrec.specs.declared.owner.Owner.{Owner}
use Rattle.tp_logrec.specs.Order.{last_boot_from}
use Rattle.tp_greeting.specs.Doubts.{is_in, doubted_from}
use Rattle.tp_greeting.proofs.beginning.Beginning.after.Given as goal

abbrev pub invariant-loop-rec : goal.invariant-loop-rec
invariant-loop-rec l = record {
  last : last_boot_from l.last (drop l.rec-index l.list) ≡ last_boot_from 0 l.list;
  doubts : (o : Owner) → doubted_from o (is_in l.doubts o) (drop l.rec-index l.list) ≡ doubted_from o false l.list;
}
