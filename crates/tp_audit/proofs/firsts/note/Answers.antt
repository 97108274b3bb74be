use Rattle.std.proofs.Common.{◌∙◌, ap, subst, refl}
use Rattle.std.specs.Option.{IsSome}
use Rattle.std.specs.Prelude.{cond}
use Rattle.tp_names.specs.Same.{is_aaid}
use Rattle.tp_audit.specs.Ledgers.{firsts_at, firsts_with}
use Rattle.tp_audit.proofs.Tables.{put_at}
use Rattle.tp_audit.proofs.firsts.note.Goals as goal

pub returns-in-Some-clause-after : goal.returns-in-Some-clause-after
returns-in-Some-clause-after c = λ t.
    let v = c.with.result in
    put_at c.args.trees.now.entries (c.get_mut.follows.lender v).entries c.args.aaid.now v ((c.get_mut.follows.holds v).3 (subst IsSome c.in-Some.ensures.value refl)).0 t
    ∙ ap (λ w. cond (is_aaid c.args.aaid.now t) w (firsts_at c.args.trees.now.entries t)) c.with.ensures

pub returns-clause-after : goal.returns-clause-after
returns-clause-after c = λ t.
    let v = c.with-2.result in
    let old = c.get_mut.follows.lender-at-none in
    put_at old.entries c.insert.new.self.entries c.args.aaid.now v c.in-Ok.ensures.updates.0 t
    ∙ ap (λ w. cond (is_aaid c.args.aaid.now t) w (firsts_at old.entries t)) c.with-2.ensures
    ∙ ap (λ m. cond (is_aaid c.args.aaid.now t) (firsts_with c.new-before.result c.args.outcome c.args.place) (firsts_at m.entries t)) c.get_mut.follows.holds-at-none
