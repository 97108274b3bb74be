use Rattle.std.specs.Prelude.{Some}
use Rattle.std.specs.Range.{range_inclusive_start, range_inclusive_end}
use Rattle.clap.specs.Words.{NarrowsTo}
use Rattle.tp_words.proofs.drive_line.worker_counts.Goals as goal

pub returns : goal.returns
returns c =
    let narrows : NarrowsTo c.value_parser.result (Some (range_inclusive_start c.new.result)) (Some (range_inclusive_end c.new.result)) c.range.result = c.range.ensures in
    rw (c.value_parser.ensures, c.new.ensures.start, c.new.ensures.end) at narrows
