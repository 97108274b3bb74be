use Rattle.std.proofs.Common.{◌≡◌, [], take}
use Rattle.tp_audit.specs.Entries.{keys_from}
use Rattle.tp_audit.specs.Summaries.{summaries}
use Rattle.tp_audit.proofs.summary.summaries.Given as goal

abbrev pub invariant-loop-rec : goal.invariant-loop-rec
invariant-loop-rec l = l.keys.entries ≡ summaries (keys_from [] (take l.rec-index l.list))
