use Rattle.std.proofs.Common.{◌≡◌, take}
use Rattle.tp_journal.specs.Log.{blocks}
use Rattle.tp_journal.specs.Records.{bodies_of}
use Rattle.tp_journal.proofs.records.generation.Given as goal

-- the records so far are on the shelf and in the text
abbrev pub invariant-loop-rec : goal.invariant-loop-rec
invariant-loop-rec l = record {
  shelf : l.records ≡ bodies_of l.wide (take l.rec-index l.list);
  written : l.text.items ≡ blocks (bodies_of l.wide (take l.rec-index l.list));
}
