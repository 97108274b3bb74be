use Rattle.tp_text_builder.proofs.Added.{done_ok, done_err}
use Rattle.tp_transcript.proofs.out_line.write_out.Goals as goal

pub returns-clause-ok : goal.returns-clause-ok
returns-clause-ok c = done_ok c.done.result c.args.out.now c.done.new.out _ _ _ c.after-text.ensures c.put_out.ensures c.done.ensures.ok

pub returns-clause-err : goal.returns-clause-err
returns-clause-err c = done_err c.done.result c.args.out.now c.done.new.out _ _ _ c.after-text.ensures c.put_out.ensures c.done.ensures.err
