use Rattle.tp_text_builder.proofs.Added.{done_ok}
use Rattle.tp_draw.proofs.label.write_label.Goals as goal

pub returns : goal.returns
returns c = done_ok c.done.result c.args.out.now c.done.new.out _ _ _ c.after-text.ensures c.put_label.ensures c.done.ensures.ok
