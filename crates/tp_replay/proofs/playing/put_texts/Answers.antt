use Rattle.std.proofs.Common.{ap, sym, ◌∙◌}
use Rattle.std.proofs.lemmas.List.{take_all}
use Rattle.tp_model.specs.OutText.{out_text, out_texts}
use Rattle.tp_text_builder.proofs.Added.{adds_then, adds_same, adds_nothing}
use Rattle.tp_replay.proofs.Texts.{texts_more}
use Rattle.tp_replay.proofs.playing.put_texts.Goals as goal

pub loop-line-init : goal.loop-line-init
loop-line-init c = adds_nothing c.args.text.now

pub loop-line-preserved : goal.loop-line-preserved
loop-line-preserved c =
    let lines = c.as_slice-line-items.result.now in
    adds_same (adds_then c.loop-line.invariant (adds_then (adds_same c.put_out.ensures (ap out_text c.line-item.is)) c.byte.ensures))
    (sym (texts_more lines c.loop-line.line-index c.line-item.result c.loop-line-test.true))

pub returns : goal.returns
returns c =
    let lines = c.as_slice-line-items.result.now in
    adds_same c.loop-line.invariant (ap out_texts (take_all c.loop-line.line-index lines c.loop-line-test.false ∙ c.as_slice-line-items.ensures))
