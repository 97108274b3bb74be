use Rattle.std.proofs.Common.{◌≡◌, ◌≢◌, ◌∙◌, sym, rules}
use Rattle.tp_model.specs.OutText.{out_text}
use Rattle.tp_transcript.proofs.OutSaid.{said, written_otherwise, no_candidate}
use Rattle.tp_transcript.proofs.out_reading.read_out.Goals as goal

pub returns-in-Err : goal.returns-in-Err
returns-in-Err c = rw c.no_line.ensures (no_candidate c.args.bytes.now c.in-Err.fault c.in-Err.ensures)

pub returns-then-eq : goal.returns-then-eq
returns-then-eq c =
    let same : c.as_slice.result.now ≡ c.args.bytes.now = search rules in
    let text : c.as_slice.result.now ≡ out_text c.in-Ok.line = search rules in
    said c.args.bytes.now c.in-Ok.line c.in-Ok.ensures (sym text ∙ same)

pub returns-else-eq : goal.returns-else-eq
returns-else-eq c =
    let other : c.as_slice.result.now ≢ c.args.bytes.now = search rules in
    let text : c.as_slice.result.now ≡ out_text c.in-Ok.line = search rules in
    written_otherwise c.args.bytes.now c.in-Ok.line c.in-Ok.ensures (λ is. other (text ∙ is))
