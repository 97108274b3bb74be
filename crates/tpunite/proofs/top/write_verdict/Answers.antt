use Rattle.tp_text_builder.proofs.Added.{adds_then, done_ok}
use Rattle.tpunite.proofs.top.write_verdict.Goals as goal

pub returns : goal.returns
returns c = done_ok c.done.result c.args.out.now c.done.new.out _ _ _ c.after-text.ensures (adds_then c.put_verdict.ensures c.byte.ensures) c.done.ensures.ok
