-- The site's answer says where the face has come to.
use Rattle.std.proofs.Common.{Ok, Err, List, refl, sym, ap, ◌∙◌}
use Rattle.tp_records.specs.declared.body.Output.{Output}
use Rattle.tx_face.specs.Codes.{code_given}
use Rattle.tx_face.proofs.Going.{gone}
use Rattle.tx_face.proofs.face.Face.event.Goals as goal

pub returns-in-Ok-clause-goes : goal.returns-in-Ok-clause-goes
returns-in-Ok-clause-goes g c =
    gone g.K.Keeper.standing c.args.self.now c.self.inside.site c.self.inside.node c.self.inside.code (sym c.self.view_is) c.args.event.now (Ok c.in-Ok.outputs) c.event.new.self c.given-self-inside.result c.in-Ok.ensures.plays (c.given-self-inside.ensures ∙ ap (λ (os : List Output). code_given c.self.inside.node os c.self.inside.code) c.as_slice.ensures) c.in-Ok.ensures.steps c.in-Ok.ensures.text

pub returns-in-Err-clause-goes : goal.returns-in-Err-clause-goes
returns-in-Err-clause-goes g c =
    gone g.K.Keeper.standing c.args.self.now c.self.inside.site c.self.inside.node c.self.inside.code (sym c.self.view_is) c.args.event.now (Err c.in-Err.fault) c.event.new.self c.self.inside.code c.in-Err.ensures.plays refl c.in-Err.ensures.steps c.in-Err.ensures.text
