use Rattle.tp_text_builder.proofs.Added.{adds_then, done_ok}
use Rattle.tp_log_tools.proofs.output.write_line.Goals as goal

pub returns : goal.returns
returns c = record {
  line =
      let text = adds_then (adds_then c.number.ensures (adds_then c.space.ensures c.put_rec.ensures)) c.byte.ensures in
      done_ok c.done.result c.args.out.now c.done.new.out _ _ _ c.after-text.ensures text c.done.ensures.ok;
}
