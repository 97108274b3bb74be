use Rattle.std.proofs.Common.{◌≡◌, ◌++◌, List, true, map, sym, subst}
use Rattle.tp_model.specs.declared.out_line.OutLine.{OutLine}
use Rattle.tp_model.specs.OutText.{out_text}
use Rattle.tpdraw.specs.Transcripts.{lines_in, have_text}
use Rattle.tpdraw.proofs.ReadOn.{one_more, good_more}
use Rattle.tpdraw.proofs.reading.read_transcript.Goals as goal

pub lines-preserved : goal.lines-preserved
lines-preserved c =
    let before = c.lines.lines in
    let line = c.in_ok-line.line in
    let bytes = c.args.bytes.now in
    let more = c.in-Some.next.1.now in
    let said = c.in_ok-line.ensures in
    let is = c.in_ok-push.ensures.ok in record {
      so_far = subst (λ (ls : List OutLine). map out_text ls ++ lines_in more ≡ lines_in bytes) (sym is)
          (one_more before line bytes c.lines.rest.now c.in-Some.next.0.now more c.lines.invariant.so_far c.in-Some.ensures said.1);
      good = subst (λ (ls : List OutLine). have_text ls ≡ true) (sym is) (good_more before line c.lines.invariant.good said.0);
    }
