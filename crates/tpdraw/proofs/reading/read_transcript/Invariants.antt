use Rattle.std.proofs.Common.{◌≡◌, ◌++◌, true, map, length}
use Rattle.tp_model.specs.OutText.{out_text}
use Rattle.tpdraw.specs.Transcripts.{lines_in, have_text}
use Rattle.tpdraw.proofs.reading.read_transcript.Given as goal

abbrev pub invariant-lines : goal.invariant-lines
invariant-lines l = record {
  so_far : map out_text l.lines ++ lines_in l.rest ≡ lines_in l.bytes;
  good : have_text l.lines ≡ true;
}

abbrev pub decreases-lines : goal.decreases-lines
decreases-lines l = length l.rest
