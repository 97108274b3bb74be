use Rattle.std.proofs.Common.{true, subst}
use Rattle.tp_text_builder.specs.Written.{Written, written, Adds}
use Rattle.tp_text_builder.proofs.Added.{was_put, was_not_put}
use Rattle.tp_text_builder.proofs.text.Text.put.Goals as goal

pub returns-in-Ok : goal.returns-in-Ok
returns-in-Ok c =
    subst (λ (t : Written). Adds t c.args.bytes.now (written c.extend_from_slice.new.self.items c.self.inside.before c.self.inside.is_wanting)) c.self.view_is
    (was_put c.self.inside.bytes.items c.extend_from_slice.new.self.items c.args.bytes.now c.self.inside.before c.self.inside.is_wanting c.self.invariant c.in-Ok.ensures.items)

pub returns-in-Err : goal.returns-in-Err
returns-in-Err c =
    subst (λ (t : Written). Adds t c.args.bytes.now (written c.extend_from_slice.new.self.items c.self.inside.before true)) c.self.view_is
    (was_not_put c.self.inside.bytes.items c.extend_from_slice.new.self.items c.args.bytes.now c.self.inside.before c.self.inside.is_wanting c.in-Err.ensures.items)
