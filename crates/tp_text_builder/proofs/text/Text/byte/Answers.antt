use Rattle.std.proofs.Common.{◌∷◌, [], subst}
use Rattle.tp_text_builder.specs.Written.{Written, written, Adds}
use Rattle.tp_text_builder.proofs.Added.{was_put}
use Rattle.tp_text_builder.proofs.text.Text.byte.Goals as goal

pub returns-then-len-capacity : goal.returns-then-len-capacity
returns-then-len-capacity c =
    subst (λ (t : Written). Adds t (c.args.byte ∷ []) (written c.push_reserved.new.self.items c.self.inside.before c.self.inside.is_wanting)) c.self.view_is
    (was_put c.self.inside.bytes.items c.push_reserved.new.self.items (c.args.byte ∷ []) c.self.inside.before c.self.inside.is_wanting c.self.invariant c.push_reserved.ensures.items)
