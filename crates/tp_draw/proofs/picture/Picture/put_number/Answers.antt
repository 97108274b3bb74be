use Rattle.std.proofs.Common.{ap, ◌∙◌}
use Rattle.tp_text_builder.specs.Written.{text_after}
use Rattle.tp_text_builder.proofs.Added.{done_ok}
use Rattle.tp_draw.proofs.picture.Picture.put_number.Goals as goal

pub returns : goal.returns
returns c = done_ok c.done.result c.args.self.now c.done.new.out _ _ _ (c.after-text.ensures ∙ ap text_after c.self.view_is) c.number.ensures c.done.ensures.ok
