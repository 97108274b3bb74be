use Rattle.std.proofs.Common.{◌<◌, ◌^◌, length, ap, subst, ◌∙◌, arith}
use Rattle.tp_names.specs.declared.identifiers.Aaid.{Aaid}
use Rattle.tp_names.specs.Bytes.{aaid_bytes}
use Rattle.tp_names.specs.Reading.{read_aaid}
use Rattle.tp_bound.specs.Bodies.{body_in}
use Rattle.tp_bound.specs.Gathered.{Gathered, Takes}
use Rattle.tp_bound.proofs.TakenBodies.{bind_in, no_more_writes}
use Rattle.tp_bound.proofs.current.Current.text.Goals as goal

pub returns-clause-read : goal.returns-clause-read
returns-clause-read c =
    let ws = c.args.self.now.writes in
    let few : length ws < 2 ^ 16 = omega (arith, no_more_writes ws, c.written.ensures.few) in
    let reads = subst (λ (a : Aaid). Takes read_aaid (aaid_bytes a) a) (ap (λ (g : Gathered). g.aaid) c.self.view_is) c.aaid_reads.ensures.reads in
    ap body_in c.in_ok-text.ensures.is ∙ bind_in c.args.self.now.aaid ws reads c.written.ensures.texts few
