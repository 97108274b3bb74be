-- The face is made, and the node is declared.
use Rattle.std.proofs.Common.{◌≡◌, ◌∙◌, refl, ap, sym, subst, [], List, None, Ok, Err}
use Rattle.tp_records.specs.declared.body.Event.{Event as Given}
use Rattle.tp_records.specs.declared.body.Output.{Output}
use Rattle.tp_site.specs.Site.{Site}
use Rattle.tp_model.specs.NodeRun.{asked}
use Rattle.tp_site.specs.Events.{history_at, opening_at, PlaysAsked}
use Rattle.tx_face.specs.Codes.{code_given}
use Rattle.tx_face.specs.Face.{Face, Goes, undeclared}
use Rattle.tx_face.proofs.Going.{face_is}
use Rattle.tx_face.proofs.Declared.{declared_quietly, declared_freely}
use Rattle.tx_face.proofs.face.Face.new.Goals as goal

pub returns-in-Ok-clause-made : goal.returns-in-Ok-clause-made
returns-in-Ok-clause-made g c =
    let site = c.args.site in
    let plays = c.in-Ok.ensures.plays in
    let quiet : c.in-Ok.field-0 ≡ [] = declared_quietly g.K.Keeper.standing site c.args.node c.in-Ok.field-0 c.event.new.self.site plays.site in (
      subst (λ (outs : List Output). PlaysAsked g.K.Keeper.standing site (asked (opening_at site.nodes.site) (Given.Declare c.args.node None)) (Ok outs) c.event.new.self.site) quiet plays.site,
      plays.node,
      plays.code ∙ ap (λ (outs : List Output). code_given c.args.node outs None) quiet,
    )

pub returns-in-Ok-clause-goes : goal.returns-in-Ok-clause-goes
returns-in-Ok-clause-goes g c = λ o gs at.
    let site = c.args.site in
    let past = history_at o gs c.args.node in
    subst (λ (outs : List Output). Goes g.K.Keeper.standing o gs past (undeclared site c.args.node) (Given.Declare c.args.node None) (Ok outs) c.event.new.self)
    (declared_quietly g.K.Keeper.standing site c.args.node c.in-Ok.field-0 c.event.new.self.site c.in-Ok.ensures.plays.site) (c.in-Ok.ensures.goes o gs past (record { site = at; since = []; history = refl; code = refl }))

pub returns-clause-goes : goal.returns-clause-goes
returns-clause-goes g c = λ o gs at.
    let past = history_at o gs c.args.node in
    subst (λ (s : Site g.row.K.Denot). Goes g.K.Keeper.standing o gs past (undeclared c.args.site c.args.node) (Given.Declare c.args.node None) (Err c.in-Err.fault) (undeclared s c.args.node))
    (ap (λ (f : Face g.row.K.Denot). f.site) (sym c.face.view_is))
    (subst (λ (f : Face g.row.K.Denot). Goes g.K.Keeper.standing o gs past (undeclared c.args.site c.args.node) (Given.Declare c.args.node None) (Err c.in-Err.fault) f) (face_is c.event.new.self c.args.node c.in-Err.ensures.plays.node c.in-Err.ensures.plays.code)
    (c.in-Err.ensures.goes o gs past (record { site = at; since = []; history = refl; code = refl })))

pub returns-clause-fresh : goal.returns-clause-fresh
returns-clause-fresh g c = λ fresh unshut. declared_freely g.K.Keeper.standing c.args.site c.args.node c.in-Err.fault c.event.new.self.site fresh unshut c.in-Err.ensures.plays.site
