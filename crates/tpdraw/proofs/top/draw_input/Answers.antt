use Rattle.tpdraw.proofs.Drawn.{drawn}
use Rattle.tpdraw.proofs.top.draw_input.Goals as goal

pub returns-in-Ok-clause-draws : goal.returns-in-Ok-clause-draws
returns-in-Ok-clause-draws g c =
    drawn c.args.form.now (g.S.Source.left c.args.source.now) c.in-Ok.picture _ _ (g.K.Sink.written c.args.sink.now) (g.K.Sink.written c.write_picture.new.sink) c.write_picture.result
    c.in-Ok.ensures.pictured (rw c.as_slice.ensures at c.write_picture.ensures)
